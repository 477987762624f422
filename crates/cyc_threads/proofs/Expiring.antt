-- No cyclic of a script expires as often as it may, so a fire is refused by a handler alone.
use Rattle.std.proofs.Common.{option_map}
use Rattle.cyc_agreement.specs.Suspending.{is_suspended}
use Rattle.std.proofs.Common.{◌≡◌, ◌∙◌, ◌==◌, ℕ, zero, suc, ◌+◌, ◌*◌, ◌<◌, ◌≤◌, inl, inr, Bool, true, false, cond, List, [], ◌∷◌}
use Rattle.std.proofs.Common.{find, length, Option, Some, None, Result, Ok, Err, refl, sym, ap, subst, arith}
use Rattle.std.specs.Prelude.{sum_by, take}
use Rattle.std.specs.List.{slice_get, FoldsTo}
use Rattle.std.specs.Option.{option_map_or}
use Rattle.std.proofs.lemmas.List.{length-take}
use Rattle.std.proofs.lemmas.List.Sums.{sum_by-le}
use Rattle.std.proofs.lemmas.Option.{slice_get_within}
use mathlib.Core.Logic.{dite}
use native.Mathlib.Decide.{ℕ_discrete}
use Rattle.cyc_types.specs.declared.Calls.{Ghosts as Calls}
use Rattle.cyc_types.specs.declared.Raise.{Ghosts as Raise}
use Rattle.cyc_types.specs.declared.firing.Sent.{Sent}
use Rattle.cyc_types.specs.declared.refusal.Refusal.{Refusal}
use Rattle.cyc_types.specs.declared.refusal.Refusal.TheVariants.{CountSpent, HandlerRefused}
use Rattle.cyc_types.specs.Series.{never}
use Rattle.cyc_types.specs.Timers.{Timer}
use Rattle.cyc_timers.specs.Rows.{Cyclic}
use Rattle.cyc_timers.specs.Made.{Stops}
use Rattle.cyc_timers.specs.declared.fire.Fired.{Fired}
use Rattle.cyc_timers.specs.declared.fire.FireRefused.{FireRefused}
use Rattle.cyc_cpu.specs.Cpu.{CpuView, running, HasNoCyclic}
use Rattle.cyc_cpu.specs.Calls.{CpuDoes as CpuDoes, Fire, no_interrupts}
use Rattle.cyc_cpu.proofs.Calling.{changes_most, refused_not}
use Rattle.cyc_agreement.specs.Cpus.{CpusView, OfCpu, new_cpu, new_cpus}
use Rattle.cyc_script.specs.WellFormed.{IsWellFormed}
use Rattle.cyc_script.specs.declared.step.Step.{Step}
use Rattle.cyc_workers.specs.Refusals.{HandlerRefuses}
use Rattle.cyc_cpu.specs.Carried.{expired_of}
use Rattle.cyc_system_laws.specs.Counts.{all_expired}
use Rattle.cyc_system_laws.specs.Gone.{IsOver}
use Rattle.cyc_system_laws.specs.Keeping.{EndsRemoval}
use Rattle.cyc_system_laws.specs.Laws.{cyclic_in}
use Rattle.cyc_system_laws.specs.Parts.{CpusCall, OnCpu, SetOnline, DoesPart}
use Rattle.cyc_system_laws.specs.Sound.{IsSound}
use Rattle.cyc_system_laws.specs.SystemRemoval.TheVariants.{Done, Kept}
use Rattle.cyc_system_laws.proofs.Counts.{counts_same}
use Rattle.cyc_system_laws.proofs.Flow.{on_cpu}
use Rattle.cyc_system_laws.proofs.Found.{stays_found}
use Rattle.cyc_system_laws.proofs.Lists.{false_ne}
use Rattle.cyc_system_laws.proofs.Over.{at_one, begun_over, polled_over}
use Rattle.cyc_system_laws.proofs.Pieces.{made_of}
use Rattle.cyc_system_laws.proofs.Recording.{found, record_none}
use Rattle.cyc_system_laws.proofs.Spots.{same_some, none_some, get_some}
use Rattle.cyc_system_laws.proofs.Sums.{sum_none, one_of_sum}
use Rattle.cyc_system_workers.specs.System.{SystemView}
use Rattle.cyc_system_workers.specs.Calls.{Suspend, Resume}
use Rattle.cyc_system_workers.specs.Calls.{SystemCall, Changes, Add, AddOmni, Bind, BeginRemove, PollRemove, AskTotals}
use Rattle.cyc_system_workers.specs.Calls.{Reprogram, ReprogramOn, Juggle, Offline, Online, FireOne, SoftInterrupt}
use Rattle.cyc_system_workers.specs.WorkersSettling.{AsksSettled}
use Rattle.cyc_system_workers.specs.declared.side.SystemSide.{SystemSide}
use Rattle.cyc_system_workers.specs.declared.advancing.Advanced.{Advanced}
use Rattle.cyc_system_workers.specs.Advancing.{AllFire, moment_asked, FiresIf}
use Rattle.cyc_threads.specs.declared.halt.Halt.TheVariants as halt
use Rattle.cyc_threads.specs.declared.progress.Progress.{Progress}
use Rattle.cyc_threads.specs.StepCalls.{CallsFor, SettlesAll, Fires, refusal_at}
use Rattle.cyc_threads.specs.Words.{TakesStep, waits_first}
use Rattle.cyc_threads.specs.Steps.{IsBefore, TakesSteps, StepHalts, IsHalted}
use Rattle.cyc_threads.specs.Running.{most}
use Rattle.cyc_threads.proofs.Following.{begins_all, does_all}
use Rattle.cyc_system_laws.proofs.Lengths.{changes_long}
use Rattle.cyc_threads.proofs.Taking.{fit_before, fit_drop}
use Rattle.cyc_threads.proofs.Fires.{most_of_all, sums_grow, each_grows, all_grow, timer_few}

abbrev sent : Sent → ℕ
sent c = c.sent

-- each CPU has the bound of a run
abbrev AllMost : {R : Type 0} → CpusView R → Type 0
AllMost v = (n : ℕ) → OfCpu n (λ cpu. cpu.most ≡ most) v

-- the lead is ready, its system sound, and no id has expired more often than this
pub record HasExpired {C R : Type 0} (firing : Raise R) (k : ℕ) (s : SystemSide R C) : Type 0 where
  pub ready : length s.leads.items ≡ length s.system.cpus.cpus
  pub sound : IsSound firing.view s.system
  pub most : AllMost s.system.cpus
  pub few : (id : ℕ) → all_expired id s.system ≤ k

-- ---- calls that reach no handler

no_cyclic : (id : ℕ) (cs : List Cyclic) → HasNoCyclic id cs → find (λ (c : Cyclic). c.timer.id == id) cs ≡ None
no_cyclic id [] none = refl
no_cyclic id (c ∷ cs) none =
    ap (λ b. cond b (Some c) (find (λ (d : Cyclic). d.timer.id == id) cs)) (false_ne c.timer.id id (none 0 c (omega arith)))
    ∙ no_cyclic id cs (λ k d low. none (suc k) d (omega (arith, low)))

module _ {R : Type 0} (firing : Raise R) where
  -- an id whose removal has answered has nothing left
  over_none : (id : ℕ) (s : SystemView R) → IsOver id s → all_expired id s ≡ 0
  over_none id s gone =
      let a = sum_none (λ (cpu : CpuView R). option_map_or (λ c. c.timer.expired) (cyclic_in id cpu) 0) s.cpus.cpus
      (λ n cpu at. ap (λ o. option_map_or (λ (c : Cyclic). c.timer.expired) o 0)
      (no_cyclic id cpu.cyclics (gone.nowhere n cpu at))) in
      let b = ap (λ o. option_map_or (λ r. sum_by (λ e. e.sent) r.ended) o 0) (record_none id s.records gone.unknown) in
      omega (arith, a, b)

  over_few : (id : ℕ) (s t : SystemView R) → IsOver id t → all_expired id t ≤ all_expired id s
  over_few id s t gone = let a = over_none id t gone in omega (arith, a)

  same_few : (id : ℕ) (s t : SystemView R) (call : SystemCall) → IsSound firing.view s → IsSound firing.view t
      → Changes firing s call t → (EndsRemoval id call → ⊥) → all_expired id t ≤ all_expired id s
  same_few id s t call a b d still =
      let e = counts_same firing sent refl (λ x y. refl) id s t call a b d still in omega (arith, e)

  call_few : (id : ℕ) (s t : SystemView R) (call : SystemCall) → IsSound firing.view s → IsSound firing.view t
      → Changes firing s call t → all_expired id t ≤ all_expired id s
  call_few id s t (BeginRemove own (Ok (Done r))) a b d = dite (ℕ_discrete own id)
      (λ e. over_few id s t (begun_over firing id r s t a.agrees a.fit.rising
      (subst (λ (j : ℕ). Changes firing s (BeginRemove j (Ok (Done r))) t) e d)))
      (λ ne. same_few id s t (BeginRemove own (Ok (Done r))) a b d ne)
  call_few id s t (PollRemove own (Ok (Some r))) a b d = dite (ℕ_discrete own id)
      (λ e. over_few id s t (polled_over firing id r s t a.agrees a.fit.rising
      (subst (λ (j : ℕ). Changes firing s (PollRemove j (Ok (Some r))) t) e d)))
      (λ ne. same_few id s t (PollRemove own (Ok (Some r))) a b d ne)
  call_few id s t (BeginRemove own (Ok (Kept kept))) a b d = same_few id s t (BeginRemove own (Ok (Kept kept))) a b d (λ x. x)
  call_few id s t (BeginRemove own (Err e)) a b d = same_few id s t (BeginRemove own (Err e)) a b d (λ x. x)
  call_few id s t (PollRemove own (Ok None)) a b d = same_few id s t (PollRemove own (Ok None)) a b d (λ x. x)
  call_few id s t (PollRemove own (Err e)) a b d = same_few id s t (PollRemove own (Err e)) a b d (λ x. x)
  call_few id s t (Add level when now answer) a b d = same_few id s t (Add level when now answer) a b d (λ x. x)
  call_few id s t (AddOmni level when skew now answer) a b d =
      same_few id s t (AddOmni level when skew now answer) a b d (λ x. x)
  call_few id s t (Bind own cpu answer) a b d = same_few id s t (Bind own cpu answer) a b d (λ x. x)
  call_few id s t (AskTotals own answer) a b d = same_few id s t (AskTotals own answer) a b d (λ x. x)
  call_few id s t (Suspend answer) a b d = same_few id s t (Suspend answer) a b d (λ x. x)
  call_few id s t (Resume answer) a b d = same_few id s t (Resume answer) a b d (λ x. x)
  call_few id s t (Reprogram own moment answer) a b d = same_few id s t (Reprogram own moment answer) a b d (λ x. x)
  call_few id s t (ReprogramOn own n moment answer) a b d = same_few id s t (ReprogramOn own n moment answer) a b d (λ x. x)
  call_few id s t (Juggle n answer) a b d = same_few id s t (Juggle n answer) a b d (λ x. x)
  call_few id s t (Offline n answer) a b d = same_few id s t (Offline n answer) a b d (λ x. x)
  call_few id s t (Online n now answer) a b d = same_few id s t (Online n now answer) a b d (λ x. x)
  call_few id s t (FireOne n now answer) a b d = absurd d
  call_few id s t (SoftInterrupt n level budget answer) a b d = absurd d

  parts_most : (way : List CpusCall) (v w : CpusView R) → FoldsTo (DoesPart firing) v way w → AllMost v → AllMost w
  parts_most [] v w e all = subst (λ (u : CpusView R). AllMost u) e all
  parts_most (OnCpu c ∷ way) v w (u, d, rest) all = parts_most way u w rest
      (at_one (λ (x : CpuView R). x.most ≡ most) c.cpu _ v u d
      (changes_most firing d.before d.after c.call d.change ∙ all c.cpu d.before d.here) all)
  parts_most (SetOnline n online ∷ way) v w (u, e, rest) all = parts_most way u w rest
      (λ m x at. all m x (ap (λ (z : CpusView R). slice_get z.cpus m) (sym e) ∙ at))

  asks_same : (answers : List Bool) (x y : CpuView R) → FoldsTo (AsksSettled firing) x answers y
      → (y.cyclics ≡ x.cyclics) × (y.most ≡ x.most)
  asks_same [] x y e = (ap (λ (z : CpuView R). z.cyclics) (sym e), ap (λ (z : CpuView R). z.most) (sym e))
  asks_same (true ∷ answers) x y (z, (first, lawful), rest) =
      let (a, b) = asks_same answers z y rest in (a ∙ first.0.cyclics, b ∙ first.0.kept.most)
  asks_same (false ∷ answers) x y (z, (first, lawful), rest) =
      let (a, b) = asks_same answers z y rest in (a ∙ first.0.cyclics, b ∙ first.0.kept.most)

-- ---- between two steps

module _ {C R : Type 0} (handler : Calls C) (firing : Raise R) where
  abbrev Has : ℕ → SystemSide R C → Type 0
  Has k s = HasExpired firing k s

  -- there is no more of it later
  abbrev Quiet : Progress R C → Progress R C → Type 0
  Quiet s t = (k : ℕ) → Has k s.side → Has k t.side

  more : (k m : ℕ) (s : SystemSide R C) → k ≤ m → Has k s → Has m s
  more k m s low h = record {
    ready = h.ready;
    sound = h.sound;
    most = h.most;
    few = λ id. (let a = h.few id in omega (arith, a, low));
  }

  quiet_calls : (name : ℕ) (call : SystemCall) (s t : Progress R C) → CallsFor firing name call s t → Quiet s t
  quiet_calls name call s t c k h =
      let m = made_of firing s.side.system t.side.system call c.did in
      record {
        ready = ap (λ (l : _). length l.items) c.leads ∙ h.ready
            ∙ sym (changes_long firing s.side.system t.side.system call c.did);
        sound = c.sound;
        most = parts_most firing m.way s.side.system.cpus t.side.system.cpus m.works h.most;
        few = λ id. (let a = call_few firing id s.side.system t.side.system call h.sound c.sound c.did in
            let b = h.few id in omega (arith, a, b));
      }

  -- the CPU that was asked
  there : (xs ys : List (CpuView R)) (n : ℕ) (y : CpuView R) → length ys ≡ length xs → slice_get ys n ≡ Some y
      → (x : CpuView R) × (slice_get xs n ≡ Some x)
  there xs ys n y long at = get_some xs n (let low = slice_get_within ys n y at in omega (arith, low, long))

  quiet_settles : (s t : Progress R C) → SettlesAll firing s t → Quiet s t
  quiet_settles s t w k h = record {
    ready = ap (λ (l : _). length l.items) w.asked.leads ∙ h.ready ∙ sym w.asked.cpus.long;
    sound = w.sound;
    most = λ n y at. (let (x, p) = there xs ys n y w.asked.cpus.long at in (asked n x y p at).1 ∙ h.most n x p);
    few = λ id. (let a = stays_found firing.view id (λ t. t.sent.sent) s.side.system h.sound.lawful in
        let b = stays_found firing.view id (λ t. t.sent.sent) t.side.system w.sound.lawful in
        let r = ap (λ rs. option_map_or (λ r. sum_by (λ e. e.sent) r.ended) (found id rs) 0) w.asked.records in
        let g = sums_grow (on_cpu (λ t. t.sent.sent) id) (λ (v : CpuView R). 0) xs ys w.asked.cpus.long
        (λ n x y p q. (let e = ap (λ cs. expired_of id cs) (asked n x y p q).0 in omega (arith, e))) in
        let z = sum_by-le (λ (v : CpuView R). 0) 0 xs (λ i d low. omega arith) in
        let f = h.few id in omega (arith, a, b, r, g, z, f));
  }
    where
      xs : List (CpuView R)
      xs = s.side.system.cpus.cpus

      ys : List (CpuView R)
      ys = t.side.system.cpus.cpus

      asked : (n : ℕ) (x y : CpuView R) → slice_get xs n ≡ Some x → slice_get ys n ≡ Some y
          → (y.cyclics ≡ x.cyclics) × (y.most ≡ x.most)
      asked n x y p q = let a = w.asked.cpus.each n x y p q in asks_same firing a.0 x y a.1

  fires_more : (now k : ℕ) (s t : Progress R C) → Fires handler firing now s t → Has k s.side
      → Has (k + most_of_all) t.side
  fires_more now k s t f h = subst (λ (x : SystemSide R C). Has (k + most_of_all) x) (sym f.side) (record {
    ready = f.fired.long_leads ∙ h.ready ∙ sym f.fired.long;
    sound = sound;
    most = λ n y at. (let (x, p) = there s.side.system.cpus.cpus f.after.side.system.cpus.cpus n y f.fired.long at in
        (each_grows handler firing 0 now s.side f.after h.sound h.ready f.fired n x y p at).most ∙ h.most n x p);
    few = λ id. (let a = all_grow handler firing id now s.side f.after h.sound h.ready f.fired sound in
        let b = h.few id in omega (arith, a, b));
  })
    where
      sound : IsSound firing.view f.after.side.system
      sound = subst (λ (x : SystemSide R C). IsSound firing.view x.system) f.side f.sound

  -- ---- steps

  step_more : (x : Step) (s t : Progress R C) (k : ℕ) → TakesStep handler firing s x t → Has k s.side
      → Has (k + most_of_all) t.side
  step_more x s t k (u, begins, does) h =
      let begun = begins_all handler firing Quiet same joined quiet_calls quiet_settles sets (waits_first x) s u begins k h in
      does_all handler firing Quiet same joined quiet_calls quiet_settles sets (Has (k + most_of_all) t.side) x u t
      (λ quiet. more k (k + most_of_all) t.side (omega arith) (quiet k begun))
      (λ now f. fires_more now k u t f begun) does
    where
      same : (p : Progress R C) → Quiet p p
      same p n g = g

      joined : (p q r : Progress R C) → Quiet p q → Quiet q r → Quiet p r
      joined p q r a b n g = b n (a n g)

      sets : (now : ℕ) (p : Progress R C) → Quiet p (record p { clock = now })
      sets now p n g = g

  pub steps_more : (all : List Step) (s t : Progress R C) (k : ℕ) → TakesSteps handler firing s all t → Has k s.side
      → Has (k + length all * most_of_all) t.side
  steps_more [] s t k e h =
      more k (k + 0 * most_of_all) t.side (omega arith) (subst (λ (p : Progress R C). Has k p.side) e h)
  steps_more (x ∷ all) s t k (u, d, rest) h =
      more (k + most_of_all + length all * most_of_all) (k + length (x ∷ all) * most_of_all) t.side (omega arith)
      (steps_more all u t (k + most_of_all) rest (step_more x s u k d h))

-- ---- a fire that is refused

-- the answer at the position of the CPU
refused_there : (answers : List (Option (Result Fired FireRefused))) (n : ℕ) (why : Refusal) → refusal_at answers n ≡ Some why
    → (r : FireRefused) × (slice_get answers n ≡ Some (Some (Err r))) × (r.why ≡ why)
refused_there [] n why is = absurd (none_some is)
refused_there (None ∷ answers) zero why is = absurd (none_some is)
refused_there (Some (Ok fired) ∷ answers) zero why is = absurd (none_some is)
refused_there (Some (Err r) ∷ answers) zero why is = (r, refl, same_some is)
refused_there (answer ∷ answers) (suc n) why is = refused_there answers n why is

-- where its cyclic has not expired as often as it may, the expiration was refused by its handler
by_handler : {C : Type 0} (may_refuse : C → ℕ → Type 0) (bound : ℕ) (at : C) (t : Timer) (why : Refusal) → t.expired < bound
    → Stops may_refuse bound at t why → HandlerRefuses may_refuse why
by_handler may_refuse bound at t (CountSpent id) few s = absurd (let spent = s.1 in omega (arith, few, spent))
by_handler may_refuse bound at t (HandlerRefused id) few s = (id, refl, (at, s.3))
by_handler may_refuse bound at t _ few s = absurd s

module _ {C R : Type 0} (handler : Calls C) (firing : Raise R) where
  own_few : (id n : ℕ) (s : SystemView R) (x : CpuView R) → IsSound firing.view s → slice_get s.cpus.cpus n ≡ Some x
      → expired_of id x.cyclics ≤ all_expired id s
  own_few id n s x sound at =
      let a = one_of_sum (on_cpu (λ t. t.sent.sent) id) s.cpus.cpus n x at in
      let b = stays_found firing.view id (λ t. t.sent.sent) s sound.lawful in omega (arith, a, b)

  -- the fire of a CPU, in an advance of a system in which no id has expired too often
  module _ (k now : ℕ) (s : SystemSide R C) (b : Advanced R C) (h : HasExpired firing k s) (low : k ≤ 65536 * most_of_all)
      (before : now < never) (awake : is_suspended s.system ≡ false) (f : AllFire handler firing now s b) where
    -- no CPU is suspended
    awake_all : (n : ℕ) (x : CpuView R) → slice_get s.system.cpus.cpus n ≡ Some x → x.suspended ≡ false
    awake_all n x at = first (slice_get s.system.cpus.cpus 0) refl awake
      where
        first : (o : Option (CpuView R)) → slice_get s.system.cpus.cpus 0 ≡ o
            → option_map_or (λ b. b) (option_map (λ (cpu : CpuView R). cpu.suspended) o) false ≡ false → x.suspended ≡ false
        first None none is = absurd (none_some (sym none ∙ (get_some s.system.cpus.cpus 0
            (let low = slice_get_within s.system.cpus.cpus n x at in omega (arith, low))).1))
        first (Some y) some is = h.sound.agrees.suspended n 0 x.suspended y.suspended
            (ap (λ o. option_map (λ (cpu : CpuView R). cpu.suspended) o) at)
            (ap (λ o. option_map (λ (cpu : CpuView R). cpu.suspended) o) some) ∙ is

    fire_refuses : (n : ℕ) (x y : CpuView R) (c d : C) (r : FireRefused) → slice_get s.system.cpus.cpus n ≡ Some x
        → slice_get b.side.system.cpus.cpus n ≡ Some y
        → CpuDoes handler firing no_interrupts (running c x) (Fire now (Err r)) (running d y)
        → HandlerRefuses handler.may_refuse r.why
    fire_refuses n x y c d r p q (inl (why, bad, same)) = absurd (refused_not now x r.why (record {
      awake = awake_all n x p;
      early = λ late. absurd (omega (arith, late, before));
    }) why)
    fire_refuses n x y c d r p q (inr (early, kept, stopped)) =
        let (t, found, stops) = stopped.stops in let id = stopped.last.id in
        let own = timer_few id y.cyclics t found in
        let grown = (each_grows handler firing id now s b h.sound h.ready f n x y p q).few in
        let whole = own_few id n s.system x h.sound p in let few = h.few id in
        let bound : x.most ≡ 18446744073709551615 = h.most n x p in
        by_handler handler.may_refuse x.most stopped.at t r.why (omega (arith, own, grown, whole, few, bound, low)) stops

    pub refused_by_handler : (n : ℕ) (why : Refusal) → refusal_at b.answers.items n ≡ Some why
        → HandlerRefuses handler.may_refuse why
    refused_by_handler n why is =
        let (r, told, named) = refused_there b.answers.items n why is in
        let inside = slice_get_within b.answers.items n (Some (Err r)) told in
        let answers = f.long_answers in let long = f.long in let online = h.sound.agrees.long in
        let ready = h.ready in let leads = f.long_leads in
        let (x, p) = get_some s.system.cpus.cpus n (omega (arith, inside, answers)) in
        let (y, q) = get_some b.side.system.cpus.cpus n (omega (arith, inside, answers, long)) in
        let (up, at) = get_some s.system.cpus.online n (omega (arith, inside, answers, online)) in
        let (l, u) = get_some s.leads.items n (omega (arith, inside, answers, ready)) in
        let (m, v) = get_some b.side.leads.items n (omega (arith, inside, answers, ready, leads)) in
        subst (λ (e : Refusal). HandlerRefuses handler.may_refuse e) named
        (by up x y l.calls m.calls r p q (f.each n up x y l m (Some (Err r)) at p q u v told))
      where
        by : (up : Bool) (x y : CpuView R) (c d : C) (r : FireRefused) → slice_get s.system.cpus.cpus n ≡ Some x
            → slice_get b.side.system.cpus.cpus n ≡ Some y
            → FiresIf handler firing (moment_asked up now) (running c x) (Some (Err r)) (running d y)
            → HandlerRefuses handler.may_refuse r.why
        by true x y c d r p q does = fire_refuses n x y c d r p q does
        by false x y c d r p q none = absurd none

  -- a fire that ended the steps of a script
  pub halted_by_handler : (all : List Step) (names : ℕ) (first : Progress R C) (n : ℕ) (why : Refusal) → IsWellFormed all names
      → HasExpired firing 0 first.side → IsHalted handler firing first all (halt.Fired n why)
      → HandlerRefuses handler.may_refuse why
  halted_by_handler all names first n why form none h = by h.halts
    where
      position : ℕ
      position = h.position

      taken : HasExpired firing (0 + length (take position all) * most_of_all) h.before.side
      taken = steps_more handler firing (take position all) first h.before 0 h.taken none

      by : StepHalts handler firing h.last h.before (halt.Fired n why) → HandlerRefuses handler.may_refuse why
      by (inl told) = absurd told
      by (inr (now, is, (awake, after, f, refused))) =
          let few : length all ≤ 65536 = form.few_steps in let short = length-take position all in
          let before = fit_before all position h.last h.here.0 (sym h.here.1)
          (fit_drop all position (0, form.moments_in_order)) in
          refused_by_handler (0 + length (take position all) * most_of_all) now h.before.side after taken
          (omega (arith, few, short)) (subst (λ (x : Step). IsBefore x) is before) awake f n why refused.here

-- ---- before the first step

new_each : {R : Type 0} (P : CpuView R → Type 0) (ends : List (R × R)) → ((e : R × R) → P (new_cpu most e.0 e.1)) → (n : ℕ)
    → OfCpu n P (new_cpus most ends)
new_each P [] each n cpu at = absurd (none_some at)
new_each P (e ∷ ends) each zero cpu at = subst P (same_some at) (each e)
new_each P (e ∷ ends) each (suc n) cpu at = new_each P ends each n cpu at

pub none_expired : {C R : Type 0} (firing : Raise R) (ends : List (R × R)) (s : SystemSide R C)
    → s.system.cpus ≡ new_cpus most ends → s.system.records ≡ [] → length s.leads.items ≡ length s.system.cpus.cpus
    → IsSound firing.view s.system → HasExpired firing 0 s
none_expired {R = R} firing ends s cpus records ready sound = record {
  ready = ready;
  sound = sound;
  most = λ n. subst (λ (v : CpusView R). OfCpu n (λ x. x.most ≡ most) v) (sym cpus)
      (new_each (λ (x : CpuView R). x.most ≡ most) ends (λ e. refl) n);
  few = λ id. (
      let a = sum_none (λ (x : CpuView R). option_map_or (λ c. c.timer.expired) (cyclic_in id x) 0) s.system.cpus.cpus
      (λ n x at. ap (λ o. option_map_or (λ (c : Cyclic). c.timer.expired) o 0)
      (ap (λ cs. find (λ (c : Cyclic). c.timer.id == id) cs)
      (subst (λ (v : CpusView R). OfCpu n (λ y. y.cyclics ≡ []) v) (sym cpus)
      (new_each (λ (y : CpuView R). y.cyclics ≡ []) ends (λ e. refl) n) x at))) in
      let b = ap (λ rs. option_map_or (λ r. sum_by (λ e. e.sent) r.ended) (found id rs) 0) records in
      omega (arith, a, b));
}
