-- A soft interrupt leaves a settled CPU settled.
use Rattle.std.proofs.Common.{◌≡◌, ℕ, ◌==◌, Bool, true, false, cond, eqb, List, [], ◌∷◌, Option, Some, None, refl, sym, subst}
use Rattle.std.proofs.Common.{◌∙◌, arith}
use Rattle.std.specs.Prelude.{Result, Ok, Err}
use Rattle.std.specs.Option.{option_map}
use Rattle.std.specs.List.{FoldsTo}
use Rattle.std.proofs.lemmas.Bool.Decides.{nat_tests}
use Rattle.cyc_types.specs.declared.Calls.{Ghosts as Calls}
use Rattle.cyc_types.specs.Draining.{DrainCall, Takes, Finishes}
use Rattle.cyc_types.specs.Firing.{seen_in}
use Rattle.cyc_types.specs.Runs.{DrainGoes}
use Rattle.cyc_types.specs.declared.level.Soft.{Soft}
use Rattle.cyc_types.specs.declared.level.Soft.TheVariants.{Low, Lock}
use Rattle.cyc_cpu.specs.Event.TheVariants.{Take, Finish, Follow}
use Rattle.cyc_cpu.specs.Level.{AdmittedCyclic, SoftLevel}
use Rattle.cyc_cpu.specs.Events.{cyclic_after_finish, after_finish}
use Rattle.cyc_cpu.specs.Reached.{Happens}
use Rattle.cyc_cpu.specs.Tables.{Tables, level_of}
use Rattle.cyc_cpu.specs.FiringSide.{stay_of, firing_view}
use Rattle.cyc_cpu.specs.DrainingSide.{take_events, Drains}
use Rattle.cyc_soft.specs.declared.Ran.{Ran}
use Rattle.cyc_soft.specs.declared.SoftRefused.{SoftRefused}
use Rattle.cyc_cpu.specs.Cpu.{CpuView, Running}
use Rattle.cyc_cpu.specs.Moving.{IsSettled}
use Rattle.cyc_cpu.specs.Soft.{drain_tables, raise_tables, firing_at, end_at, Interrupts, SoftKept}
use Rattle.cyc_cpu_laws.proofs.Staying.{KeepSettled, IsQuiet, lock_quiet, low_quiet, settled_of}

finished_count : (b : Bool) (o : Option AdmittedCyclic) → seen_in (option_map stay_of o) ≡ 0 →
    seen_in (option_map stay_of (cond b (option_map cyclic_after_finish o) o)) ≡ 0
finished_count true None h = refl
finished_count true (Some c) h = omega (arith, h)
finished_count false o h = h

finish_quiet : (l : SoftLevel) (hand : Option ℕ) → IsQuiet (firing_view l) → IsQuiet (firing_view (after_finish hand l))
finish_quiet l None q = q
finish_quiet l (Some id) q = ((λ j. finished_count (eqb j id) (l.cyclics j) (q.0 j)), q.1)

taken : (l m : SoftLevel) → Happens l Take m → IsQuiet (firing_view l) → IsQuiet (firing_view m)
taken l m (enabled, is) q = subst (λ (x : SoftLevel). IsQuiet (firing_view x)) (sym is) (q.0, q.1)

followed : (l m : SoftLevel) → Happens l Follow m → IsQuiet (firing_view l) → IsQuiet (firing_view m)
followed l m (enabled, is) q = subst (λ (x : SoftLevel). IsQuiet (firing_view x)) (sym is) (q.0, same l.hard_bank)
  where
    same : (n : ℕ) → (n == n) ≡ true
    same n = grind (arith, nat_tests)

finished : (l m : SoftLevel) → Happens l Finish m → IsQuiet (firing_view l) → IsQuiet (firing_view m)
finished l m (enabled, is) q = subst (λ (x : SoftLevel). IsQuiet (firing_view x)) (sym is) (finish_quiet l l.drainer_hand q)

at_end : (l m : SoftLevel) → l ≡ m → IsQuiet (firing_view l) → IsQuiet (firing_view m)
at_end l m e q = subst (λ (x : SoftLevel). IsQuiet (firing_view x)) e q

looked : (l m : SoftLevel) (old new : List ℕ) (b : Bool) → FoldsTo Happens l (take_events old new b) m → IsQuiet (firing_view l) →
    IsQuiet (firing_view m)
looked l m old (x ∷ xs) true (k, first, rest) q = at_end k m rest (taken l k first q)
looked l m old [] true h q = at_end l m h q
looked l m (x ∷ xs) new false (k, first, rest) q = at_end k m rest (taken l k first q)
looked l m [] (x ∷ xs) false (k, first, (n, second, rest)) q = at_end n m rest (taken k n second (followed l k first q))
looked l m [] [] false (k, first, rest) q = at_end k m rest (followed l k first q)

drained : (l m : SoftLevel) (call : DrainCall) → Drains l call m → IsQuiet (firing_view l) → IsQuiet (firing_view m)
drained l m (Takes answer) h q = looked l m l.old_list l.new_list (eqb l.hard_bank l.soft_bank) h.0 q
drained l m (Finishes id answer) h q = finished l m h.1 q

drain_quiet : (a b : Tables) (way : List DrainCall) → DrainGoes drain_tables a way b
    → IsQuiet (firing_at a) → IsQuiet (firing_at b)
drain_quiet a b [] g q = subst (λ (x : Tables). IsQuiet (firing_at x)) g q
drain_quiet a b (call ∷ way) (m, first, rest) q = drain_quiet m b way rest (drained (level_of a) (level_of m) call first q)

module _ {C : Type 0} (handler : Calls C) where
  served : (soft : Soft) (v w : CpuView Tables) (way : List DrainCall)
      → DrainGoes drain_tables (end_at soft v) way (end_at soft w)
      → SoftKept soft v w → IsSettled firing_at v → IsSettled firing_at w
  served Low v w way g k s = settled_of raise_tables w (subst (λ (x : Tables). IsQuiet (firing_at x)) (sym k.beside)
      (lock_quiet raise_tables v s)) (drain_quiet v.low w.low way g (low_quiet raise_tables v s)) (k.kept.removal ∙ s.still)
  served Lock v w way g k s = settled_of raise_tables w (drain_quiet v.lock w.lock way g (lock_quiet raise_tables v s))
      (subst (λ (x : Tables). IsQuiet (firing_at x)) (sym k.beside) (low_quiet raise_tables v s)) (k.kept.removal ∙ s.still)

  pub interrupts_settle : (soft : Soft) (budget : ℕ) (answer : Result Ran SoftRefused) (s t : Running C Tables) →
      Interrupts handler soft budget answer s t → IsSettled firing_at s.cpu → IsSettled firing_at t.cpu
  interrupts_settle soft budget (Ok r) s t (did, kept) h = let (ran, many, serves, left) = did.served in
      served soft s.cpu t.cpu _ serves.way kept h
  interrupts_settle soft budget (Err e) s t (did, kept) h =
      let (ran, at, many, few, serves, may, same, held) = did.refused in served soft s.cpu t.cpu _ serves.way kept h

  interrupts_size : (soft : Soft) (budget : ℕ) (answer : Result Ran SoftRefused) (s t : Running C Tables) →
      Interrupts handler soft budget answer s t → t.cpu.size ≡ s.cpu.size
  interrupts_size soft budget answer s t (serves, kept) = kept.kept.size

  pub interrupts_settled : KeepSettled raise_tables (Interrupts handler)
  interrupts_settled = record { sizes = interrupts_size; settles = interrupts_settle }
