-- What each CPU is after an advance, and after a question.
use Rattle.std.proofs.Common.{◌≡◌, ◌∙◌, ◌==◌, ℕ, ◌+◌, ◌-◌, ◌<◌, Bool, true, false, cond, find, Option, Some, None, Result, List}
use Rattle.std.proofs.Common.{[], ◌∷◌, length, refl, sym, ap, arith}
use Rattle.std.specs.Prelude.{sum_by, nat_lt, ◌/◌}
use Rattle.std.specs.List.{slice_get, FoldsTo}
use Rattle.std.specs.Option.{option_map_or, option_and_then}
use Rattle.std.proofs.lemmas.Bool.Decides.{nat_tests}
use Rattle.std.proofs.lemmas.Option.{slice_get_within}
use Rattle.cyc_types.specs.declared.Calls.{Ghosts as Calls}
use Rattle.cyc_types.specs.declared.Raise.{Ghosts as Raise}
use Rattle.cyc_types.specs.Series.{never, late, due}
use Rattle.cyc_types.proofs.Facts.{lt_true}
use Rattle.cyc_timers.specs.Rows.{Cyclic}
use Rattle.cyc_timers.specs.declared.fire.Fired.{Fired}
use Rattle.cyc_timers.specs.declared.fire.FireRefused.{FireRefused}
use Rattle.cyc_cpu.specs.Cpu.{CpuView, Running, running}
use Rattle.cyc_cpu.specs.Calls.{no_interrupts}
use Rattle.cyc_system_workers.specs.WorkersSettling.{AsksSettled}
use Rattle.cyc_system_laws.proofs.Lists.{among}
use Rattle.cyc_system_workers.proofs.Presence.{has_low}
use Rattle.cyc_system_laws.proofs.Recording.{found}
use Rattle.cyc_system_laws.proofs.Spots.{none_some, get_some}
use Rattle.cyc_system_laws.proofs.Who.{SameIds, same_fired}
use Rattle.cyc_system_laws.proofs.Sums.{sum_none, none_found, cyclic_found}
use Rattle.cyc_system_laws.specs.System.{SystemView, has, ids_of, removal_on}
use Rattle.cyc_system_laws.specs.Laws.{cyclic_in}
use Rattle.cyc_system_laws.specs.Counts.{all_expired}
use Rattle.cyc_system_workers.specs.declared.side.SystemSide.{SystemSide}
use Rattle.cyc_system_workers.specs.declared.advancing.Advanced.{Advanced}
use Rattle.cyc_system_workers.specs.Advancing.{AllFire, moment_asked, FiresIf}
use Rattle.cyc_system_workers.specs.Settling.{OnlyAsked}
use Rattle.cyc_system_laws.specs.Sound.{IsSound}
use Rattle.cyc_system_laws.proofs.Flow.{on_cpu}
use Rattle.cyc_system_rings.specs.Events.{AllAccepted}
use Rattle.cyc_system_rings.proofs.Fires.{later}
use Rattle.cyc_system_rings.proofs.Singles.{of_stay}
use Rattle.cyc_system_rings.proofs.Runs.{if_fired, all_fired, all_asked, asked_cyclics, no_cyclic_off}
use Rattle.cyc_system_rings.proofs.Components.{plus_on}
use Rattle.cyc_system_rings.proofs.Quiet.{IsQuiet}

-- what is due at no moment isn't due before never
due_never : (interval now : ℕ) → now < never → due never interval now ≡ 0
due_never interval now low = ap (λ (b : Bool). cond {A = ℕ} b 0
    (cond (nat_lt (never + interval + late) now) 1 ((now - never) / interval + 1))) (lt_true now never low)

module _ {C R : Type 0} (handler : Calls C) (firing : Raise R) (id : ℕ) where
  same_if : (now : ℕ) (up : Bool) (s t : Running C R) (answer : Option (Result Fired FireRefused))
      → FiresIf handler firing (moment_asked up now) s answer t → SameIds s.cpu t.cpu
  same_if now true s t (Some answer) d = same_fired handler firing no_interrupts s t now answer d
  same_if now true s t None d = absurd d
  same_if now false s t (Some answer) d = absurd d
  same_if now false s t None e = record {
    ids = ap (λ (r : Running C R). ids_of r.cpu) e;
    removal = ap (λ (r : Running C R). r.cpu.removal) e;
    most = ap (λ (r : Running C R). r.cpu.most) e;
    suspended = ap (λ (r : Running C R). r.cpu.suspended) e;
  }

  -- a CPU after an advance was this before it
  pub record WasBefore (now n : ℕ) (s : SystemView R) (y : CpuView R) : Type 0 where
    pub before : CpuView R
    pub here : slice_get s.cpus.cpus n ≡ Some before
    pub ids : SameIds before y
    pub measured : (k : ℕ → ℕ → ℕ → ℕ) → on_cpu (of_stay k) id y ≡ on_cpu (of_stay (later id now k)) id before

  module _ (now : ℕ) (s : SystemSide R C) (b : Advanced R C) (sound : IsSound firing.view s.system)
      (ready : length s.leads.items ≡ length s.system.cpus.cpus) (f : AllFire handler firing now s b)
      (accepted : AllAccepted b) where
    pub fired_at : (n : ℕ) (y : CpuView R) → slice_get b.side.system.cpus.cpus n ≡ Some y → WasBefore now n s.system y
    fired_at n y at =
        let low = slice_get_within b.side.system.cpus.cpus n y at in let o = sound.agrees.long in let w = f.long_answers in
        let k2 = f.long_leads in let j = f.long in
        let (x, p) = get_some s.system.cpus.cpus n (omega (arith, low, j)) in
        let (up, u) = get_some s.system.cpus.online n (omega (arith, low, o, j)) in
        let (answer, told) = get_some b.answers.items n (omega (arith, low, w, j)) in
        let (l, v) = get_some s.leads.items n (omega (arith, low, ready, j)) in
        let (m, z) = get_some b.side.leads.items n (omega (arith, low, ready, k2, j)) in
        let fires = f.each n up x y l m answer u p at v z told in record {
          before = x;
          here = p;
          ids = same_if now up (running l.calls x) (running m.calls y) answer fires;
          measured = λ k. if_fired handler firing id now k up (running l.calls x) (running m.calls y) answer
              (sound.lawful n x p) fires
              (λ e is. accepted n e (told ∙ ap (λ (o : Option (Result Fired FireRefused)). Some o) is))
              (λ off. no_cyclic_off handler firing id n x up (has n id s.system.cpus) s.system sound p u off
              refl);
        }

    -- it has the cyclics and the open removal that it had
    pub fired_has : (n : ℕ) → has n id b.side.system.cpus ≡ true → has n id s.system.cpus ≡ true
    fired_has n h = let (y, at) = get_some b.side.system.cpus.cpus n (has_low b.side.system.cpus n id h) in
        let was = fired_at n y at in ap (λ o. among id (option_map_or ids_of o [])) was.here
        ∙ (sym (ap (among id) was.ids.ids) ∙ (sym (ap (λ o. among id (option_map_or ids_of o [])) at) ∙ h))

    pub fired_removal : (n : ℕ) → removal_on n b.side.system.cpus ≡ removal_on n s.system.cpus
    fired_removal n = by (slice_get b.side.system.cpus.cpus n) refl (slice_get s.system.cpus.cpus n) refl
      where
        by : (o : Option (CpuView R)) → slice_get b.side.system.cpus.cpus n ≡ o → (p : Option (CpuView R))
            → slice_get s.system.cpus.cpus n ≡ p
            → option_and_then (λ (x : CpuView R). x.removal) o ≡ option_and_then (λ (x : CpuView R). x.removal) p
        by None at None was = refl
        by None at (Some x) was = absurd (let low = slice_get_within s.system.cpus.cpus n x was in let j = f.long in
            let (y, there) = get_some b.side.system.cpus.cpus n (omega (arith, low, j)) in none_some (sym at ∙ there))
        by (Some y) at p was = (let w = fired_at n y at in w.ids.removal
            ∙ ap (λ o. option_and_then (λ (x : CpuView R). x.removal) o) (sym w.here ∙ was))

    -- ---- one of which no CPU fires anything

    pub quiet_fired : IsQuiet firing id s.system → IsQuiet firing id b.side.system
    quiet_fired quiet n h = fired_removal n ∙ quiet n (fired_has n h)

    module _ (early : now < never) (quiet : IsQuiet firing id s.system) where
      none_due : (n : ℕ) (x : CpuView R) → slice_get s.system.cpus.cpus n ≡ Some x
          → option_map_or (λ c. due c.timer.moment c.timer.interval now) (cyclic_in id x) 0 ≡ 0
      none_due n x at = by (has n id s.system.cpus) refl
        where
          by : (b : Bool) → has n id s.system.cpus ≡ b
              → option_map_or (λ c. due c.timer.moment c.timer.interval now) (cyclic_in id x) 0 ≡ 0
          by false h = ap (λ o. option_map_or (λ (c : Cyclic). due c.timer.moment c.timer.interval now) o 0)
              (none_found x.cyclics id (sym (ap (λ o. among id (option_map_or ids_of o [])) at) ∙ h))
          by true h =
              (let law = sound.lawful n x at in
              let still = sym (ap (λ o. option_and_then (λ (z : CpuView R). z.removal) o) at) ∙ quiet n h in
              let (k, c, is, named, soft, stopped) = law.removed id still in
              ap (λ o. option_map_or (λ (c : Cyclic). due c.timer.moment c.timer.interval now) o 0)
              (cyclic_found x.cyclics id k c law.rising is named)
              ∙ (ap (λ (m : ℕ). due m c.timer.interval now) stopped ∙ due_never c.timer.interval now early))

      pub quiet_counts : IsSound firing.view b.side.system → all_expired id b.side.system ≡ all_expired id s.system
      quiet_counts after =
          let x = all_fired handler firing id now (λ a b c. c) s b sound after ready f accepted in
          let y = plus_on handler firing id (λ c. c.timer.expired)
          (λ c. due c.timer.moment c.timer.interval now) s.system.cpus.cpus in
          let z = sum_none (λ cpu. option_map_or (λ (c : Cyclic). due c.timer.moment c.timer.interval now) (cyclic_in id cpu) 0)
          s.system.cpus.cpus none_due in
          let r = ap (λ rs. option_map_or (λ r. sum_by (λ e. e.sent) r.ended) (found id rs) 0) f.records in
          omega (arith, x, y, z, r)

  -- ---- a question

  pub record AsIt (n : ℕ) (s : SystemView R) (y : CpuView R) : Type 0 where
    pub before : CpuView R
    pub here : slice_get s.cpus.cpus n ≡ Some before
    pub cyclics : y.cyclics ≡ before.cyclics
    pub removal : y.removal ≡ before.removal

  asked_removal : (answers : List Bool) (x y : CpuView R) → FoldsTo (AsksSettled firing) x answers y → y.removal ≡ x.removal
  asked_removal [] x y e = ap (λ (z : CpuView R). z.removal) (sym e)
  asked_removal (true ∷ answers) x y (z, (first, lawful), rest) = asked_removal answers z y rest ∙ first.0.kept.removal
  asked_removal (false ∷ answers) x y (z, (first, lawful), rest) = asked_removal answers z y rest ∙ first.0.kept.removal

  module _ (s t : SystemSide R C) (a : OnlyAsked firing s t) where
    pub asked_at : (n : ℕ) (y : CpuView R) → slice_get t.system.cpus.cpus n ≡ Some y → AsIt n s.system y
    asked_at n y at =
        let low = slice_get_within t.system.cpus.cpus n y at in let j = a.cpus.long in
        let (x, p) = get_some s.system.cpus.cpus n (omega (arith, low, j)) in let w = a.cpus.each n x y p at in record {
          before = x;
          here = p;
          cyclics = asked_cyclics handler firing id w.0 x y w.1;
          removal = asked_removal w.0 x y w.1;
        }

    pub asked_removals : (n : ℕ) → removal_on n t.system.cpus ≡ removal_on n s.system.cpus
    asked_removals n = by (slice_get t.system.cpus.cpus n) refl (slice_get s.system.cpus.cpus n) refl
      where
        by : (o : Option (CpuView R)) → slice_get t.system.cpus.cpus n ≡ o → (p : Option (CpuView R))
            → slice_get s.system.cpus.cpus n ≡ p
            → option_and_then (λ (x : CpuView R). x.removal) o ≡ option_and_then (λ (x : CpuView R). x.removal) p
        by None at None was = refl
        by None at (Some x) was = absurd (let low = slice_get_within s.system.cpus.cpus n x was in let j = a.cpus.long in
            let (y, there) = get_some t.system.cpus.cpus n (omega (arith, low, j)) in none_some (sym at ∙ there))
        by (Some y) at p was = (let w = asked_at n y at in w.removal
            ∙ ap (λ o. option_and_then (λ (x : CpuView R). x.removal) o) (sym w.here ∙ was))

    pub asked_cyclic : (n : ℕ) → option_and_then (cyclic_in id) (slice_get t.system.cpus.cpus n)
        ≡ option_and_then (cyclic_in id) (slice_get s.system.cpus.cpus n)
    asked_cyclic n = by (slice_get t.system.cpus.cpus n) refl (slice_get s.system.cpus.cpus n) refl
      where
        by : (o : Option (CpuView R)) → slice_get t.system.cpus.cpus n ≡ o → (p : Option (CpuView R))
            → slice_get s.system.cpus.cpus n ≡ p → option_and_then (cyclic_in id) o ≡ option_and_then (cyclic_in id) p
        by None at None was = refl
        by None at (Some x) was = absurd (let low = slice_get_within s.system.cpus.cpus n x was in let j = a.cpus.long in
            let (y, there) = get_some t.system.cpus.cpus n (omega (arith, low, j)) in none_some (sym at ∙ there))
        by (Some y) at p was = (let w = asked_at n y at in
            ap (λ cs. find (λ (c : Cyclic). c.timer.id == id) cs) w.cyclics
            ∙ ap (λ o. option_and_then (cyclic_in id) o) (sym w.here ∙ was))

    pub asked_counts : IsSound firing.view s.system → IsSound firing.view t.system → all_expired id t.system
        ≡ all_expired id s.system
    asked_counts sound after =
        let x = all_asked handler firing id (λ a b c. c) s t sound after a in
        let r = ap (λ rs. option_map_or (λ r. sum_by (λ e. e.sent) r.ended) (found id rs) 0) a.records in omega (arith, x, r)
