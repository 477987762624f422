-- What calls on a CPU add up to: no call, one call, some calls and then others, and a run.
use Rattle.std.proofs.Common.{◌≡◌, ℕ, ◌+◌, ◌≤◌, cond, true, false, Bool, take, length, List, [], ◌∷◌, refl, sym, ap, subst, ◌∙◌}
use Rattle.std.proofs.Common.{arith, inl, inr}
use Rattle.std.specs.Prelude.{Ok, Err}
use Rattle.std.specs.List.{FoldsTo}
use Rattle.std.proofs.Math.Seq.{take-append_seam}
use Rattle.cyc_types.specs.declared.Calls.{Ghosts as Calls}
use Rattle.cyc_types.specs.declared.Raise.{Ghosts as Raise}
use Rattle.cyc_types.specs.Firing.{FiringView}
use Rattle.cyc_types.specs.Runs.{raised_by, lost_by}
use Rattle.cyc_types.specs.Levels.{at_level}
use Rattle.cyc_types.specs.declared.level.Level.{Level}
use Rattle.cyc_types.specs.declared.level.Level.TheVariants.{Low, Lock, High}
use Rattle.cyc_types.specs.Expirations.{Expiration, expirations, times_of}
use Rattle.cyc_types.specs.Timers.{Timer, HasDistinctIds}
use Rattle.cyc_types.specs.Counting.{no_counts}
use Rattle.cyc_cpu.specs.Rows.{timers}
use Rattle.cyc_cpu.specs.FireRefused.{FireRefused}
use Rattle.cyc_cpu.specs.Acts.{is_of_level, timer_of}
use Rattle.cyc_cpu.specs.Shares.{share}
use Rattle.cyc_cpu.specs.Cpu.{CpuView, Running, SameCpu, Makes, sides}
use Rattle.cyc_cpu.specs.Laws.{IsLawful}
use Rattle.cyc_cpu.specs.Calls.{Suspend, Resume}
use Rattle.cyc_cpu.specs.Calls.{CpuCall, CpuChanges, CpuDoes, Stopped, no_interrupts, Fire, SoftInterrupt, Add, Place, Reprogram}
use Rattle.cyc_cpu.specs.Calls.{AskPending, AskTotals, AskRoom, Reserve, Widen, BeginRemove, PollRemove, TakeNow, AskSettled}
use Rattle.cyc_cpu.proofs.Sharing.{raises_add_up, ids_add_up}
use Rattle.cyc_cpu_laws.specs.Runs.{CpuSteps}
use Rattle.cyc_cpu_laws.specs.Accounts.{Account, no_call_made, both, made_by, account_of, account_in, KeepsLimits, Proceeds}
use Rattle.cyc_cpu_laws.proofs.Stills.{still_raises, changes_still}
use Rattle.cyc_cpu.proofs.Shifts.{changes_shift, shift_sums}
use Rattle.cyc_cpu_laws.proofs.Fires.{fired_expired, fired_lost}
use Rattle.cyc_cpu_laws.proofs.Ways.{passes_none, passes_on, passes_ceiling}
use Rattle.cyc_cpu_laws.specs.Passing.{Passes}
use Rattle.cyc_timers.specs.Acts.{acting}
use Rattle.cyc_timers.specs.Made.{fire_state}

-- an account of expirations alone
abbrev of_fire : List Timer → List Expiration → Account
of_fire ts made = record {
  fired = λ level id. share level ts made id;
  served = λ level. 0;
  entered = λ id. no_counts;
  left = λ id. no_counts;
}

pub none_made : (level : Level) (ts : List Timer) (id : ℕ) → share level ts [] id ≡ 0
none_made level ts id = either (is_of_level level (timer_of id ts))
  where
    either : (b : Bool) → cond b (times_of id []) 0 ≡ 0
    either true = refl
    either false = refl

pub limits_none : {R : Type 0} (view : R → FiringView) (v : CpuView R) → KeepsLimits view v v
limits_none view v = record { most = refl; lock_ceiling = refl; low_ceiling = refl; grows = omega arith }

pub limits_on : {R : Type 0} (view : R → FiringView) (u v w : CpuView R) → KeepsLimits view u v → KeepsLimits view v w →
    KeepsLimits view u w
limits_on view u v w a b = record {
  most = b.most ∙ a.most;
  lock_ceiling = b.lock_ceiling ∙ a.lock_ceiling;
  low_ceiling = b.low_ceiling ∙ a.low_ceiling;
  grows = (let x = a.grows in let y = b.grows in omega (arith, x, y));
}

module _ {C R : Type 0} (handler : Calls C) (firing : Raise R) where
  pub proceeds_none : (s : Running C R) → Proceeds handler.count firing no_call_made s s
  proceeds_none s = record {
    lock_lost = λ id. 0;
    low_lost = λ id. 0;
    lock = passes_none firing s.cpu.lock;
    low = passes_none firing s.cpu.low;
    called = λ id. omega arith;
    expired = λ id. omega arith;
    lost = λ id. omega arith;
    limits = limits_none firing.view s.cpu;
  }

  pub proceeds_on : (a b : Account) (s t u : Running C R) → Proceeds handler.count firing a s t
      → Proceeds handler.count firing b t u → Proceeds handler.count firing (both a b) s u
  proceeds_on a b s t u p q = record {
    lock_lost = λ id. p.lock_lost id + q.lock_lost id;
    low_lost = λ id. p.low_lost id + q.low_lost id;
    lock = passes_on firing (a.fired Lock) p.lock_lost (b.fired Lock) q.lock_lost
        s.cpu.lock t.cpu.lock u.cpu.lock p.lock q.lock;
    low = passes_on firing (a.fired Low) p.low_lost (b.fired Low) q.low_lost s.cpu.low t.cpu.low u.cpu.low p.low q.low;
    called = λ id. (let x = p.called id in let y = q.called id in omega (arith, x, y));
    expired = λ id. (let x = p.expired id in let y = q.expired id in omega (arith, x, y));
    lost = λ id. (let x = p.lost id in let y = q.lost id in omega (arith, x, y));
    limits = limits_on firing.view s.cpu t.cpu u.cpu p.limits q.limits;
  }

  -- calls of the firing sides keep the ceilings
  limits_of : (r l r' l' : ℕ → ℕ) (v w : CpuView R) → Passes firing r l v.lock w.lock → Passes firing r' l' v.low w.low →
      w.most ≡ v.most → v.size ≤ w.size → KeepsLimits firing.view v w
  limits_of r l r' l' v w lock low most grows = record {
    most = most;
    lock_ceiling = passes_ceiling firing r l v.lock w.lock lock;
    low_ceiling = passes_ceiling firing r' l' v.low w.low low;
    grows = grows;
  }

  -- the expirations of a fire
  fired : (s t : Running C R) (now lost : ℕ) (made : List Expiration) (at : C) → HasDistinctIds (timers s.cpu.cyclics) →
      SameCpu s.cpu t.cpu → ((id : ℕ) → handler.count t.calls id ≡ handler.count at id) →
      Makes (acting (at_level handler.called High) handler.count firing) now made (fire_state s.cpu.cyclics (sides s.calls s.cpu))
      (fire_state t.cpu.cyclics (sides at t.cpu)) lost → Proceeds handler.count firing (of_fire (timers s.cpu.cyclics) made) s t
  fired s t now lost made at distinct kept same m =
      let ts = timers s.cpu.cyclics in
      let lock : (id : ℕ) → raised_by id m.acts.lock_way ≡ share Lock ts made id =
      λ id. raises_add_up id _ m.acts.lock_way m.acts.lock_raises ∙ ids_add_up id Lock ts made in
      let low : (id : ℕ) → raised_by id m.acts.low_way ≡ share Low ts made id =
      λ id. raises_add_up id _ m.acts.low_way m.acts.low_raises ∙ ids_add_up id Low ts made in
      let at_lock : Passes firing (λ id. share Lock ts made id) (λ id. lost_by id m.acts.lock_way) s.cpu.lock t.cpu.lock =
      record { way = m.acts.lock_way; goes = m.acts.lock_goes; raises = lock; losses = λ id. refl } in
      let at_low : Passes firing (λ id. share Low ts made id) (λ id. lost_by id m.acts.low_way) s.cpu.low t.cpu.low =
      record { way = m.acts.low_way; goes = m.acts.low_goes; raises = low; losses = λ id. refl } in
      record {
        lock_lost = λ id. lost_by id m.acts.lock_way;
        low_lost = λ id. lost_by id m.acts.low_way;
        lock = at_lock;
        low = at_low;
        called = λ id. (let a = same id in let b = m.acts.counted id in let c = ids_add_up id High ts made in
            omega (arith, a, b, c));
        expired = λ id. (let a = fired_expired id now made s.cpu.cyclics t.cpu.cyclics distinct m.timers_are in omega (arith, a));
        lost = λ id. (let a = fired_lost id now made m.acts.lock_way m.acts.low_way s.cpu.cyclics t.cpu.cyclics distinct
            m.timers_are m.losses_are (lock id) (low id) in omega (arith, a));
        limits = limits_of _ _ _ _ s.cpu t.cpu at_lock at_low kept.most (let e = kept.size in omega (arith, e));
      }

  -- the same under an equal list
  made_is : (s t : Running C R) (made made' : List Expiration) → made ≡ made' →
      Proceeds handler.count firing (of_fire (timers s.cpu.cyclics) made) s t →
      Proceeds handler.count firing (of_fire (timers s.cpu.cyclics) made') s t
  made_is s t made made' is p = subst (λ xs. Proceeds handler.count firing (of_fire (timers s.cpu.cyclics) xs) s t) is p

  -- a call that reaches no handler
  quiet : (s t : Running C R) (call : CpuCall) → made_by call s.cpu.cyclics ≡ [] → CpuChanges firing s.cpu call t.cpu
      × (t.calls ≡ s.calls) → Proceeds handler.count firing (account_of call s.cpu.cyclics) s t
  quiet s t call none (d, same) =
      let ts = timers s.cpu.cyclics in
      let st = changes_still firing s.cpu t.cpu call d in
      let zero : (level : Level) (id : ℕ) →
      share level ts (made_by call s.cpu.cyclics) id ≡ 0 = λ level id. ap (λ xs. share level ts xs id) none
      ∙ none_made level ts id in
      let sums : (id : ℕ) → _ =
      λ id. shift_sums call s.cpu.cyclics t.cpu.cyclics id (changes_shift firing s.cpu t.cpu call d) in
      let at_lock : Passes firing (λ id. share Lock ts (made_by call s.cpu.cyclics) id) (λ id. 0) s.cpu.lock t.cpu.lock =
      record {
        way = st.lock.way;
        goes = st.lock.goes;
        raises = λ id. (still_raises s.cpu.size t.cpu.size id st.lock.way st.lock.still).0 ∙ sym (zero Lock id);
        losses = λ id. (still_raises s.cpu.size t.cpu.size id st.lock.way st.lock.still).1;
      } in
      let at_low : Passes firing (λ id. share Low ts (made_by call s.cpu.cyclics) id) (λ id. 0) s.cpu.low t.cpu.low =
      record {
        way = st.low.way;
        goes = st.low.goes;
        raises = λ id. (still_raises s.cpu.size t.cpu.size id st.low.way st.low.still).0 ∙ sym (zero Low id);
        losses = λ id. (still_raises s.cpu.size t.cpu.size id st.low.way st.low.still).1;
      } in
      record {
        lock_lost = λ id. 0;
        low_lost = λ id. 0;
        lock = at_lock;
        low = at_low;
        called = λ id. (let a = ap (λ (c : C). handler.count c id) same in let z = zero High id in omega (arith, a, z));
        expired = λ id. (let a = (sums id).0 in let x = zero Lock id in let y = zero Low id in let z = zero High id in
            omega (arith, a, x, y, z));
        lost = λ id. (let a = (sums id).1 in omega (arith, a));
        limits = limits_of _ _ _ _ s.cpu t.cpu at_lock at_low st.most st.grows;
      }

  nothing_fired : (s t : Running C R) (now : ℕ) (e : FireRefused) → t ≡ s → e.expired ≡ 0 →
      Proceeds handler.count firing (account_of (Fire now (Err e)) s.cpu.cyclics) s t
  nothing_fired s t now e is none =
      made_is s t [] _ (sym (ap (λ n. take n (expirations now (timers s.cpu.cyclics))) none))
      (subst (λ (x : Running C R). Proceeds handler.count firing (of_fire (timers s.cpu.cyclics) []) s x) (sym is) (record {
        lock_lost = λ id. 0;
        low_lost = λ id. 0;
        lock = record {
          way = [];
          goes = refl;
          raises = λ id. sym (none_made Lock (timers s.cpu.cyclics) id);
          losses = λ id. refl;
        };
        low = record { way = []; goes = refl; raises = λ id. sym (none_made Low (timers s.cpu.cyclics) id); losses = λ id. refl };
        called = λ id. (let z = none_made High (timers s.cpu.cyclics) id in omega (arith, z));
        expired = λ id. (let x = none_made Lock (timers s.cpu.cyclics) id in let y = none_made Low (timers s.cpu.cyclics) id in
            let z = none_made High (timers s.cpu.cyclics) id in omega (arith, x, y, z));
        lost = λ id. omega arith;
        limits = limits_none firing.view s.cpu;
      }))

  front : (now : ℕ) (e : FireRefused) (s t : Running C R)
      (f : Stopped handler firing now e s t) →
      f.made ≡ take e.expired (expirations now (timers s.cpu.cyclics))
  front now e s t f = sym (ap (λ n. take n (expirations now (timers s.cpu.cyclics))) (sym f.expired)
      ∙ ap (take (length f.made)) f.listed ∙ take-append_seam f.made (f.last ∷ f.rest))

  -- one call
  pub proceeds_one : (s t : Running C R) (call : CpuCall) → IsLawful firing.view s.cpu →
      CpuDoes handler firing no_interrupts s call t → Proceeds handler.count firing (account_of call s.cpu.cyclics) s t
  proceeds_one s t (Fire now (Ok r)) law (
    early,
    kept,
    expired,
    next,
    makes,
  ) = fired s t now r.lost (expirations now (timers s.cpu.cyclics)) t.calls law.distinct kept (λ id. refl) makes
  proceeds_one s t (Fire now (Err e)) law (inl (
    late,
    is,
    same,
  )) = nothing_fired s t now e same (ap (λ (x : FireRefused). x.expired) is)
  proceeds_one s t (Fire now (Err e)) law (inr (early, kept, f)) =
      made_is s t f.made _ (front now e s t f) (fired s t now e.lost f.made f.at law.distinct kept f.counted f.makes)
  proceeds_one s t (SoftInterrupt soft budget answer) law d = absurd d
  proceeds_one s t (Add own level when now answer) law d = quiet s t (Add own level when now answer) refl d
  proceeds_one s t (Place own level interval moment carried) law d = quiet s t (Place own level interval moment carried) refl d
  proceeds_one s t (Reprogram j moment answer) law d = quiet s t (Reprogram j moment answer) refl d
  proceeds_one s t (AskPending j answer) law d = quiet s t (AskPending j answer) refl d
  proceeds_one s t (AskTotals j answer) law d = quiet s t (AskTotals j answer) refl d
  proceeds_one s t (AskRoom more answer) law d = quiet s t (AskRoom more answer) refl d
  proceeds_one s t (Reserve more answer) law d = quiet s t (Reserve more answer) refl d
  proceeds_one s t (Widen more) law d = quiet s t (Widen more) refl d
  proceeds_one s t (BeginRemove j answer) law d = quiet s t (BeginRemove j answer) refl d
  proceeds_one s t (PollRemove answer) law d = quiet s t (PollRemove answer) refl d
  proceeds_one s t (TakeNow j answer) law d = quiet s t (TakeNow j answer) refl d
  proceeds_one s t (AskSettled answer) law d = quiet s t (AskSettled answer) refl d
  proceeds_one s t Suspend law d = quiet s t Suspend refl d
  proceeds_one s t Resume law d = quiet s t Resume refl d

  -- the calls of a run
  abbrev D : Running C R → CpuCall → Running C R → Type 0
  D = CpuSteps handler firing no_interrupts

  pub proceeds_in : (s t : Running C R) (way : List CpuCall) → IsLawful firing.view s.cpu → (run : FoldsTo D s way t) →
      Proceeds handler.count firing (account_in D s way t run) s t
  proceeds_in s t [] law run = subst (λ (x : Running C R). Proceeds handler.count firing no_call_made s x) run (proceeds_none s)
  proceeds_in s t (call ∷ way) law (m, (does, lawful), rest) =
      proceeds_on (account_of call s.cpu.cyclics) (account_in D m way t rest) s m t (proceeds_one s m call law does)
      (proceeds_in m t way lawful rest)
