-- Every call keeps what is tied.
use Rattle.std.proofs.Common.{◌≡◌, ◌≢◌, ℕ, suc, List, [], ◌∷◌, cond, map, find, Bool, true, false, Option, Some, None, IsSome}
use Rattle.std.proofs.Common.{inl, inr, refl, ap, sym, ◌∙◌, subst, arith}
use Rattle.std.specs.Prelude.{Ok, Err, slice_set}
use Rattle.cyc_types.specs.declared.Calls.{Ghosts as Calls}
use Rattle.cyc_types.specs.Series.{never}
use Rattle.cyc_types.specs.declared.level.Level.{Level}
use Rattle.cyc_types.specs.declared.moment.When.{When}
use Rattle.cyc_types.specs.declared.refusal.Refusal.{Refusal}
use Rattle.cyc_types.specs.declared.refusal.Refusal.TheVariants.{BadNow, NoCyclic, Busy, Pending}
use Rattle.cyc_cpu.specs.Moving.{WhyNotTaken}
use Rattle.cyc_types.specs.declared.level.Level.TheVariants.{High}
use Rattle.cyc_types.specs.declared.level.Level.TheVariants as kind
use Rattle.cyc_types.specs.declared.level.Soft.{Soft}
use Rattle.cyc_types.specs.declared.level.Soft.TheVariants as soft
use Rattle.std.specs.Option.{option_map}
use Rattle.cyc_level.specs.Level.{AdmittedCyclic, SoftLevel as Admissions}
use Rattle.cyc_core.specs.FiringSide.{stay_of, firing_view}
use Rattle.cyc_model.specs.Serving.{level_at}
use Rattle.cyc_types.specs.Levels.{as_level}
use Rattle.cyc_types.specs.Expirations.{expirations}
use Rattle.cyc_core.specs.Tables.{Tables, level_of}
use Rattle.cyc_timers.specs.Rows.{Cyclic as Timed, timers as timed}
use Rattle.cyc_cpu.specs.declared.removing.Removal.TheVariants.{Done, Kept}
use Rattle.cyc_cpu.specs.Cpu.{CpuView, Running, HasNoCyclic, HasRisingCyclics, AreAdmitted, with_moment}
use Rattle.cyc_cpu.specs.Laws.{IsLawful}
use Rattle.cyc_cpu.specs.Soft.{raise_tables, firing_at as seen, Interrupts}
use Rattle.cyc_cpu.specs.Calls.{Suspend, Resume}
use Rattle.cyc_cpu.specs.Calls.{CpuCall, Fire, SoftInterrupt, Add, Place, Reprogram, AskPending, AskTotals, AskRoom, Reserve}
use Rattle.cyc_cpu.specs.Calls.{Widen, BeginRemove, PollRemove, TakeNow, AskSettled, CpuChanges, CpuDoes}
use Rattle.cyc_model.specs.Cpu.{is_of, handler_level_of}
use Rattle.cyc_model.specs.Moving.{widen_here, mark_here}
use Rattle.cyc_model.specs.Add.{begun_cyclic}
use Rattle.cyc_system_model.specs.ShownCpu.{shown_cyclic, shown_cpu}
use Rattle.cyc_system_model.specs.Here.{here_of, IsStopped}
use Rattle.cyc_system_model.specs.Tied.{HasOwn, IsTied}
use Rattle.cyc_system_model.proofs.CpuLists.{not_named}
use Rattle.cyc_system_model.proofs.Leaving.{level_found}
use Rattle.cyc_system_model.proofs.Tying.{widen_keep, fire_ties, serve_ties, widen_ties, reprogram_ties, place_ties, mark_known}
use Rattle.cyc_system_model.proofs.Tying.{mark_ties, clear_ties, take_ties}
use Rattle.cyc_system_model.proofs.Law.{is_here}
use Rattle.cyc_system_model.proofs.Rising.{rises_fired, rises_moved, rises_left}

-- ---- the ids rise

same_cyclics : (v w : CpuView Tables) → w.cyclics ≡ v.cyclics → HasRisingCyclics v.cyclics → HasRisingCyclics w.cyclics
same_cyclics v w same rising = subst HasRisingCyclics (sym same) rising

same_cpu : (v w : CpuView Tables) → w ≡ v → HasRisingCyclics v.cyclics → HasRisingCyclics w.cyclics
same_cpu v w same rising = same_cyclics v w (ap (λ (x : CpuView Tables). x.cyclics) same) rising

not_added : (id : ℕ) (level : Level) (series : When) (now : ℕ) (e : Refusal) (v w : CpuView Tables)
    → CpuChanges raise_tables v (Add id level series now (Err e)) w → HasRisingCyclics v.cyclics → HasRisingCyclics w.cyclics
not_added id level series now BadNow v w d rising = same_cpu v w d.2 rising
not_added id level series now e v w d rising = same_cyclics v w d.2.cyclics rising

not_taken : (id : ℕ) (e : Refusal) (v w : CpuView Tables) → WhyNotTaken raise_tables id v e w → HasRisingCyclics v.cyclics
    → HasRisingCyclics w.cyclics
not_taken id NoCyclic v w d rising = same_cpu v w d.1 rising
not_taken id (Busy removed) v w d rising = same_cpu v w d.2 rising
not_taken id Pending v w (still, some, n, more, asks) rising = same_cyclics v w asks.cyclics rising
not_taken id e v w d rising = absurd d

pub rises : {C : Type 0} (handler : Calls C) (call : CpuCall) (s t : Running C Tables)
    → (IsStopped call → ⊥) → CpuDoes handler raise_tables (Interrupts handler) s call t
    → HasRisingCyclics s.cpu.cyclics → HasRisingCyclics t.cpu.cyclics
rises handler (Fire now (Ok r)) s t goes (early, kept, expired, next, makes) rising =
    rises_fired now (expirations now (timed s.cpu.cyclics)) s.cpu.cyclics t.cpu.cyclics makes.timers_are rising
rises handler (Fire now (Err e)) s t goes does rising = absurd (goes tt)
rises handler (SoftInterrupt level budget (Ok r)) s t goes (did, kept) rising =
    same_cyclics s.cpu t.cpu kept.cyclics rising
rises handler (SoftInterrupt level budget (Err e)) s t goes does rising = absurd (goes tt)
rises handler (Add id level series now (Ok done)) s t goes ((absent, early, adds), calls) rising =
    adds.enters.rising
rises handler (Add id level series now (Err e)) s t goes (d, calls) rising =
    not_added id level series now e s.cpu t.cpu d rising
rises handler (Place id level interval moment carried) s t goes ((may, places), calls) rising = places.rising
rises handler (Reprogram id moment (Ok done)) s t goes ((k, x, is, named, still, e), calls) rising =
    same_cyclics (record s.cpu { cyclics = slice_set s.cpu.cyclics k (with_moment moment x) }) t.cpu
    (ap (λ (v : CpuView Tables). v.cyclics) e) (rises_moved s.cpu.cyclics k moment x is rising)
rises handler (Reprogram id moment (Err e)) s t goes (d, calls) rising = same_cpu s.cpu t.cpu d.2 rising
rises handler (AskPending id (Some m)) s t goes (d, calls) rising = same_cyclics s.cpu t.cpu d.0.cyclics rising
rises handler (AskPending id None) s t goes (d, calls) rising = same_cpu s.cpu t.cpu d.1 rising
rises handler (AskTotals id (Some totals)) s t goes (d, calls) rising =
    same_cyclics s.cpu t.cpu d.0.cyclics rising
rises handler (AskTotals id None) s t goes (d, calls) rising = same_cpu s.cpu t.cpu d.1 rising
rises handler (AskRoom more (Ok done)) s t goes (d, calls) rising = same_cyclics s.cpu t.cpu d.0.cyclics rising
rises handler (AskRoom more (Err e)) s t goes (d, calls) rising = same_cyclics s.cpu t.cpu d.0.cyclics rising
rises handler (Reserve more (Ok done)) s t goes (d, calls) rising = same_cyclics s.cpu t.cpu d.0.cyclics rising
rises handler (Reserve more (Err e)) s t goes (d, calls) rising = same_cyclics s.cpu t.cpu d.0.cyclics rising
rises handler (Widen more) s t goes (d, calls) rising = same_cyclics s.cpu t.cpu d.1.cyclics rising
rises handler (BeginRemove id (Ok (Done receipt))) s t goes ((still, (x, counts, is, polled, leaves)), calls) rising =
    subst HasRisingCyclics (sym leaves.cyclics) (rises_left s.cpu.cyclics leaves.position rising)
rises handler (BeginRemove id (Ok (Kept kept))) s t goes ((still, opens), calls) rising =
    subst HasRisingCyclics (sym opens.cyclics) (rises_moved s.cpu.cyclics opens.position never opens.cyclic opens.here rising)
rises handler (BeginRemove id (Err e)) s t goes (d, calls) rising = same_cpu s.cpu t.cpu d.1 rising
rises handler (PollRemove (Some receipt)) s t goes (ends, calls) rising =
    subst HasRisingCyclics (sym ends.leaves.cyclics) (rises_left s.cpu.cyclics ends.leaves.position rising)
rises handler (PollRemove None) s t goes (inl none, calls) rising = same_cpu s.cpu t.cpu none.1 rising
rises handler (PollRemove None) s t goes (inr (id, is_open, waits), calls) rising =
    same_cyclics s.cpu t.cpu waits.cyclics rising
rises handler (TakeNow id (Ok got)) s t goes ((still, (x, counts, is, polled, leaves)), calls) rising =
    subst HasRisingCyclics (sym leaves.cyclics) (rises_left s.cpu.cyclics leaves.position rising)
rises handler (TakeNow id (Err e)) s t goes (d, calls) rising = not_taken id e s.cpu t.cpu d rising
rises handler Suspend s t goes (d, calls) rising = same_cyclics s.cpu t.cpu (ap (λ (x : CpuView Tables). x.cyclics) d) rising
rises handler Resume s t goes (d, calls) rising = same_cyclics s.cpu t.cpu (ap (λ (x : CpuView Tables). x.cyclics) d) rising
rises handler (AskSettled true) s t goes (d, calls) rising = same_cyclics s.cpu t.cpu d.0.cyclics rising
rises handler (AskSettled false) s t goes (d, calls) rising = same_cyclics s.cpu t.cpu d.0.cyclics rising

-- ---- the levels know their own

none_found : (id : ℕ) (cs : List Timed) → HasNoCyclic id cs → find (is_of id) (map shown_cyclic cs) ≡ None
none_found id [] none = refl
none_found id (c ∷ cs) none =
    ap (λ b. cond b (Some (shown_cyclic c)) (find (is_of id) (map shown_cyclic cs))) (not_named id c (none 0 c (omega arith)))
    ∙ none_found id cs (λ k d low. none (suc k) d (omega (arith, low)))

pub owns : {C : Type 0} (handler : Calls C) (n index : ℕ) (online : Bool) (call : CpuCall) (s t : Running C Tables)
    → HasRisingCyclics s.cpu.cyclics → (IsStopped call → ⊥)
    → CpuDoes handler raise_tables (Interrupts handler) s call t
    → HasOwn (shown_cpu online s.cpu) → HasOwn (here_of n index call (shown_cpu online s.cpu)).cpu
owns handler n index online (Fire now (Ok r)) s t rising goes does h = fire_ties n now (shown_cpu online s.cpu) h
owns handler n index online (Fire now (Err e)) s t rising goes does h = absurd (goes tt)
owns handler n index online (SoftInterrupt level budget (Ok r)) s t rising goes does h =
    serve_ties n level budget (shown_cpu online s.cpu) h
owns handler n index online (SoftInterrupt level budget (Err e)) s t rising goes does h = absurd (goes tt)
owns handler n index online (Add id level series now (Ok done)) s t rising goes ((absent, early, adds), calls) h =
    let c = shown_cpu online s.cpu in
    place_ties n index (begun_cyclic id level series.start series.interval now) (widen_here n 1 c).cpu
    (ap (find (is_of id)) (widen_keep n 1 c).0 ∙ none_found id s.cpu.cyclics absent) (widen_ties n 1 c h)
owns handler n index online (Add id level series now (Err e)) s t rising goes d h = h
owns handler n index online (Place id level interval moment carried) s t rising goes ((may, places), calls) h =
    place_ties n index _ (shown_cpu online s.cpu) (none_found id s.cpu.cyclics may.absent) h
owns handler n index online (Reprogram id moment (Ok done)) s t rising goes d h =
    reprogram_ties id moment (shown_cpu online s.cpu) h
owns handler n index online (Reprogram id moment (Err e)) s t rising goes d h = h
owns handler n index online (AskPending id (Some m)) s t rising goes d h = h
owns handler n index online (AskPending id None) s t rising goes d h = h
owns handler n index online (AskTotals id (Some totals)) s t rising goes d h = h
owns handler n index online (AskTotals id None) s t rising goes d h = h
owns handler n index online (AskRoom more (Ok done)) s t rising goes d h = h
owns handler n index online (AskRoom more (Err e)) s t rising goes d h = h
owns handler n index online (Reserve more (Ok done)) s t rising goes d h = h
owns handler n index online (Reserve more (Err e)) s t rising goes d h = h
owns handler n index online (Widen more) s t rising goes d h = widen_ties n more (shown_cpu online s.cpu) h
owns handler n index online (BeginRemove id (Ok (Done receipt))) s t rising goes d h =
    clear_ties n id (mark_here n id (shown_cpu online s.cpu)).cpu (mark_known n id (shown_cpu online s.cpu) h.known)
owns handler n index online (BeginRemove id (Ok (Kept kept))) s t rising goes ((still, opens), calls) h =
    mark_ties n id (shown_cpu online s.cpu)
    (λ high. opens.soft (sym (level_found online opens.position id opens.cyclic s.cpu rising opens.here opens.named)
    ∙ high)) h.known
owns handler n index online (BeginRemove id (Err e)) s t rising goes d h = h
owns handler n index online (PollRemove (Some receipt)) s t rising goes d h =
    clear_ties n receipt.id (shown_cpu online s.cpu) h.known
owns handler n index online (PollRemove None) s t rising goes d h = h
owns handler n index online (TakeNow id (Ok got)) s t rising goes ((still, takes), calls) h =
    take_ties n id (shown_cpu online s.cpu) still h.known
owns handler n index online (TakeNow id (Err e)) s t rising goes d h = h
owns handler n index online (AskSettled b) s t rising goes d h = h
owns handler n index online Suspend s t rising goes d h = h
owns handler n index online Resume s t rising goes d h = h

pub tied : {C : Type 0} (handler : Calls C) (call : CpuCall) (s t : Running C Tables)
    → (IsStopped call → ⊥) → CpuDoes handler raise_tables (Interrupts handler) s call t
    → IsTied s.cpu → IsTied t.cpu
tied handler call s t goes does h =
    let rising = rises handler call s t goes does h.rising in
    record {
      rising = rising;
      own = λ online.
          let is = is_here handler 0 online call s t h.rising rising goes does in
          subst HasOwn (sym is.cpu) (owns handler 0 is.index online call s t h.rising goes does (h.own online));
    }

-- ---- a lawful CPU

pub lawful_tied : (v : CpuView Tables) → IsLawful seen v → IsTied v
lawful_tied v law = record { rising = law.rising; own = λ online. record { known = known online; removed = removed online } }
  where
    at_level : (online : Bool) (kind : Level) (l : Admissions) (q : ℕ) → AreAdmitted kind (firing_view l) v.cyclics
        → (o : Option AdmittedCyclic) → l.cyclics q ≡ o → IsSome o
        → handler_level_of q (shown_cpu online v) ≡ kind
    at_level online kind l q a None at some = absurd (let isnt : false ≡ true = some in cc)
    at_level online kind l q a (Some c) at some =
        let (k, x, is, named, level) = a.only q (stay_of c) (ap (option_map stay_of) at) in
        level_found online k q x v law.rising is named ∙ level

    known : (online : Bool) (soft : Soft) (q : ℕ) → IsSome ((level_at soft (shown_cpu online v)).cyclics q)
        → handler_level_of q (shown_cpu online v) ≡ as_level soft
    known online soft.Lock q is = at_level online kind.Lock (level_of v.lock) q law.lock ((level_of v.lock).cyclics q) refl is
    known online soft.Low q is = at_level online kind.Low (level_of v.low) q law.low ((level_of v.low).cyclics q) refl is

    removed : (online : Bool) (id : ℕ) → v.removal ≡ Some id → handler_level_of id (shown_cpu online v) ≢ High
    removed online id is high =
        let (k, x, here, named, other, never_due) = law.removed id is in
        other (sym (level_found online k id x v law.rising here named) ∙ high)
