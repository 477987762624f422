-- An id that is on no CPU stays away, and no call of it is made.
use Rattle.std.proofs.Common.{◌≡◌, ℕ, suc, All, List, [], ◌∷◌, Option, Some, None, refl, sym, ap, subst, ◌∙◌, arith}
use Rattle.std.specs.List.{FoldsTo}
use Rattle.std.specs.Option.{option_map}
use mathlib.Core.Logic.{dite}
use native.Mathlib.Decide.{ℕ_discrete}
use Rattle.cyc_types.specs.declared.Calls.{Ghosts as Calls}
use Rattle.cyc_types.specs.declared.level.Level.{Level}
use Rattle.cyc_level.specs.Level.{AdmittedCyclic, count_in}
use Rattle.cyc_level.specs.Lawful.{Lawful, one_if_any}
use Rattle.cyc_core.specs.Tables.{Tables, level_of}
use Rattle.cyc_core.specs.FiringSide.{stay_of}
use Rattle.cyc_cpu.specs.Cpu.{CpuView, HasNoCyclic, AreAdmitted}
use Rattle.cyc_cpu.specs.Laws.{IsLawful}
use Rattle.cyc_cpu.specs.Gone.{IsGone, IsAbsent, PutsNot}
use Rattle.cyc_cpu.specs.Soft.{raise_tables, firing_at, Interrupts}
use Rattle.cyc_cpu.proofs.Following.{stays_gone}
use Rattle.cyc_agreement.specs.Cpus.{IsCpu, CallOn, RunningCpus, RunsAt}
use Rattle.cyc_agreement.proofs.CpuSpots.{one_cpu, cpu_there, cpu_beside}
use Rattle.cyc_system_laws.specs.Nowhere.{IsNowhere, StaysNowhere}

none_there : (o : Option AdmittedCyclic) → ((c : AdmittedCyclic) → o ≡ Some c → ⊥) → o ≡ None
none_there None never_some = refl
none_there (Some c) never_some = absurd (never_some c refl)

unused_end : (id : ℕ) (own : Level) (a : Tables) (v : CpuView Tables) → AreAdmitted own (firing_at a) v.cyclics →
    Lawful (level_of a) →
    HasNoCyclic id v.cyclics → IsAbsent id (level_of a)
unused_end id own a v admitted law none =
    let out : (level_of a).cyclics id ≡ None = none_there ((level_of a).cyclics id) (λ x e.
    let (k, d, here, named, at) = admitted.only id (stay_of x) (ap (option_map stay_of) e) in
    none k d here.0 (ap (λ y. y.timer.id) here.1 ∙ named)) in
    record { not_admitted = out; nowhere = law.one_place id ∙ ap (λ o. one_if_any (count_in o)) out }

pub unused_gone : (id : ℕ) (v : CpuView Tables) → IsLawful firing_at v → Lawful (level_of v.lock) → Lawful (level_of v.low) →
    HasNoCyclic id v.cyclics → IsGone id v
unused_gone id v law lock low none = record {
  no_cyclic = none;
  lock = unused_end id _ v.lock v law.lock lock none;
  low = unused_end id _ v.low v law.low low none;
}

module _ {C : Type 0} (handler : Calls C) (id : ℕ) where
  abbrev Runs : RunningCpus C Tables → CallOn → RunningCpus C Tables → Type 0
  Runs = RunsAt handler raise_tables (Interrupts handler)

  pub one_away : (s t : RunningCpus C Tables) (c : CallOn) → IsNowhere id s.cpus → PutsNot id c.call → Runs s c t →
      StaysNowhere handler.count id s t
  one_away s t c away puts d =
      let (gone, same) = stays_gone handler id (record { cpu = d.before; calls = s.calls })
      (record { cpu = d.after; calls = t.calls }) c.call (away c.cpu d.before d.here) puts d.change in (
        (λ n x at. let there = subst (λ u. IsCpu n x u) d.rest at in dite (ℕ_discrete n c.cpu)
            (λ e. subst (λ y. IsGone id y)
            (one_cpu n d.after x t.cpus (subst (λ k. IsCpu k d.after t.cpus) (sym e)
            (subst (λ u. IsCpu c.cpu d.after u) (sym d.rest) (cpu_there c.cpu d.before d.after s.cpus d.here))) at) gone)
            (λ ne. away n x (cpu_beside c.cpu n x d.after s.cpus ne there))),
        same,
      )

  pub run_away : (s t : RunningCpus C Tables) (way : List CallOn) → IsNowhere id s.cpus → All (λ c. PutsNot id c.call) way →
      FoldsTo Runs s way t → StaysNowhere handler.count id s t
  run_away s t [] away puts run = (
    subst (λ (u : RunningCpus C Tables). IsNowhere id u.cpus) run away,
    ap (λ (u : RunningCpus C Tables). handler.count u.calls id) (sym run),
  )
  run_away s t (c ∷ way) away puts (m, d, rest) =
      let (still, same) = one_away s m c away (puts 0 c (omega arith)) d in
      let (last, on) = run_away m t way still (λ k e low. puts (suc k) e (omega (arith, low))) rest in
      (last, on ∙ same)
