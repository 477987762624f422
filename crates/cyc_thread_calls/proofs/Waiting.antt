-- A wait keeps what is true between two steps; after it each CPU has settled and no removal is open.
use Rattle.std.proofs.Common.{◌≡◌, ◌∙◌, ℕ, ◌+◌, ◌<◌, ◌≤◌, Option, Some, None}
use Rattle.std.proofs.Common.{Result, Ok, Err, List, [], ◌∷◌, length, refl, sym, ap, subst, arith}
use Rattle.std.specs.List.{FoldsTo}
use Rattle.cyc_types.specs.declared.Raise.{Ghosts as Raise}
use Rattle.cyc_types.specs.Limits.{cyclics as most_cyclics}
use Rattle.cyc_types.specs.Series.{never}
use Rattle.cyc_types.specs.declared.receipt.Receipt.{Receipt}
use Rattle.cyc_types.specs.declared.refusal.Refusal.{Refusal}
use Rattle.cyc_places.specs.Places.{HasNoRecord}
use Rattle.cyc_threads.specs.Settled.{AllSettled}
use Rattle.cyc_threads.specs.System.{SystemView}
use Rattle.cyc_threads.specs.Calls.{PollRemove}
use Rattle.cyc_threads.specs.Sound.{IsSound}
use Rattle.cyc_words.specs.declared.named.Named.{Named}
use Rattle.cyc_words.specs.declared.named.Named.TheVariants.{Leaving, Removed}
use Rattle.cyc_threads.specs.declared.progress.Progress.{Progress}
use Rattle.cyc_threads.specs.StepCalls.{CallsFor, Poll, Polls, SettlesAll, Waits}
use Rattle.cyc_words.specs.Names.{named_at, cyclic_id, NoneLeaves}
use Rattle.cyc_thread_calls.specs.Way.{Standing, Absent, OnOne, OnAll}
use Rattle.cyc_thread_calls.proofs.Keeping.{AllStill, polled_given}
use Rattle.cyc_thread_calls.proofs.Room.{few_cyclics, AllHaveRoom}
use Rattle.cyc_thread_calls.proofs.Fitting.{Is, Fits, same_records, is_kept, name_low, fits_same, fits_set}

-- a leaving name has no cyclic in the closed form
leaving_absent : {R : Type 0} (st : Standing) (id : ℕ) (s : SystemView R) → Is st (Leaving id) s → st ≡ Absent
leaving_absent Absent id s h = refl
leaving_absent OnOne id s h = absurd h
leaving_absent OnAll id s h = absurd h

module _ {C R : Type 0} (firing : Raise R) where
  -- nothing is open
  pub record IsCalmNow (p : Progress R C) : Type 0 where
    pub none : NoneLeaves p.names
    pub still : AllStill p.side.system.cpus

  -- and each CPU has settled
  pub record HasWaited (p : Progress R C) : Type 0 where
    pub none : NoneLeaves p.names
    pub settled : AllSettled firing.view p.side.system.cpus.cpus
    pub sound : IsSound firing.view p.side.system

  pub waited_calm : (p : Progress R C) → HasWaited p → IsCalmNow p
  waited_calm p h = record { none = h.none; still = λ n x at. (h.settled n x at).still }

  poll_fits : (cpus names given : ℕ) (has : ℕ → Standing) (s : Progress R C) (name id : ℕ)
      (answer : Result (Option Receipt) Refusal) (t : Progress R C)
      → named_at s.names name ≡ Leaving id → CallsFor firing name (PollRemove id answer) s t
      → Fits firing cpus names given has s
      → Fits firing cpus names given has t
  poll_fits cpus names given has s name id (Ok (Some receipt)) t at c h =
      fits_set firing cpus names given has s t name (PollRemove id (Ok (Some receipt))) c h
      (polled_given firing id (Ok (Some receipt)) s.side.system t.side.system c.did).online
      (Removed receipt) Absent given has c.told (name_low s.names name id (ap cyclic_id at))
      (subst (λ (k : ℕ). k ≤ given) (sym (polled_given firing id (Ok
      (Some receipt)) s.side.system t.side.system c.did).last) h.few) tt
      (leaving_absent (has name) id s.side.system
      (subst (λ (z : Named). Is (has name) z s.side.system) at (h.each name)))
      (λ other ne. refl) (λ own e. absurd (none_is e))
      (λ other own ne e touches. ne (h.own other name id (e ∙ ap Some (sym touches)) (ap cyclic_id at)))
    where
      none_is : {x : ℕ} → None ≡ Some x → ⊥
      none_is {x = x} e = cc
  poll_fits cpus names given has s name id (Ok None) t at c h =
      fits_same firing cpus names given has s t name (PollRemove id (Ok None)) c h
      (polled_given firing id (Ok None) s.side.system t.side.system c.did).online c.told
      (subst (λ (k : ℕ). k ≤ given) (sym (polled_given firing id (Ok None) s.side.system t.side.system c.did).last) h.few)
      (λ own touches. touches)
  poll_fits cpus names given has s name id (Err e) t at c h =
      fits_same firing cpus names given has s t name (PollRemove id (Err e)) c h
      (polled_given firing id (Err e) s.side.system t.side.system c.did).online c.told
      (subst (λ (k : ℕ). k ≤ given) (sym (polled_given firing id (Err e) s.side.system t.side.system c.did).last) h.few)
      (λ own touches. touches)

  polls_fit : (cpus names given : ℕ) (has : ℕ → Standing) (polls : List Poll) (s t : Progress R C)
      → FoldsTo (Polls firing) s polls t → Fits firing cpus names given has s → Fits firing cpus names given has t
  polls_fit cpus names given has [] s t e h = subst (λ (p : Progress R C). Fits firing cpus names given has p) e h
  polls_fit cpus names given has (p ∷ polls) s t (u, (at, c), rest) h =
      polls_fit cpus names given has polls u t rest (poll_fits cpus names given has s p.name p.id p.answer u at c h)

  settles_fit : (cpus names given : ℕ) (has : ℕ → Standing) (s t : Progress R C) → SettlesAll firing s t
      → Fits firing cpus names given has s → Fits firing cpus names given has t
  settles_fit cpus names given has s t q h = record {
    rising = q.sound.fit.rising;
    above = subst (λ rs. HasNoRecord 0 rs) (sym q.asked.records) h.above;
    few = subst (λ (k : ℕ). k ≤ given) (sym q.asked.last) h.few;
    early = subst (λ (k : ℕ). k < never) (sym q.clock) h.early;
    long = ap length q.names ∙ h.long;
    online = q.asked.online ∙ h.online;
    many = q.asked.cpus.long ∙ h.many;
    ready = ap (λ (l : _). length l.items) q.asked.leads ∙ h.ready ∙ sym q.asked.cpus.long;
    each = λ a. subst (λ ns. Is (has a) (named_at ns a) t.side.system) (sym q.names)
        (is_kept (has a) (named_at s.names a) s.side.system t.side.system
        (λ id e. same_records s.side.system t.side.system q.asked.records id) (h.each a));
    ids = λ a id e. subst (λ (k : ℕ). id ≤ k) (sym q.asked.last)
        (h.ids a id (sym (ap (λ ns. cyclic_id (named_at ns a)) q.names) ∙ e));
    own = λ a b id e f. h.own a b id (sym (ap (λ ns. cyclic_id (named_at ns a)) q.names) ∙ e)
        (sym (ap (λ ns. cyclic_id (named_at ns b)) q.names) ∙ f);
  }

  pub wait_fits : (cpus names given : ℕ) (has : ℕ → Standing) (s t : Progress R C) → Waits firing s t
      → Fits firing cpus names given has s → Fits firing cpus names given has t × HasWaited t
  wait_fits cpus names given has s t (polls, u, p, q) h = (
    settles_fit cpus names given has u t q (polls_fit cpus names given has polls s u p h),
    record { none = q.none; settled = q.settled; sound = q.sound },
  )

  -- after a wait each CPU has room for one more, where fewer names were introduced than a CPU can have cyclics
  pub waited_room : (cpus names given : ℕ) (has : ℕ → Standing) (p : Progress R C) → Fits firing cpus names given has p
      → HasWaited p → given + 1 ≤ most_cyclics → AllHaveRoom firing p.side.system.cpus
  waited_room cpus names given has p h w low n x at = record {
    settled = w.settled n x at;
    few = (let a = few_cyclics firing p.side.system w.sound h.above n x at in let b = h.few in omega (arith, a, b, low));
  }
