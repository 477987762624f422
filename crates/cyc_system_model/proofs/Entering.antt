-- How a cyclic comes to a CPU of a system.
use Rattle.std.proofs.Common.{◌≡◌, ℕ, ◌<◌, List, length, map, get_or, ap, sym, ◌∙◌, subst, arith}
use Rattle.std.specs.Prelude.{slice_set}
use mathlib.Core.Logic.{dite}
use native.Mathlib.Decide.{ℕ_discrete}
use Rattle.cyc_types.specs.declared.firing.Sent.{Sent}
use Rattle.cyc_types.specs.declared.level.Level.{Level}
use Rattle.cyc_types.specs.declared.level.Soft.{Soft}
use Rattle.cyc_core.specs.Tables.{Tables}
use Rattle.cyc_cpu.specs.Calls.{Widen, Place}
use Rattle.cyc_system.specs.Cpus.{CpusView}
use Rattle.cyc_system.specs.System.{SystemView}
use Rattle.cyc_places.specs.Places.{IsRecord}
use Rattle.cyc_model.specs.Acts.{Act, calls_of, events_at}
use Rattle.cyc_model.specs.Cpu.{CyclicState, Cpu}
use Rattle.cyc_model.specs.Serving.{level_at}
use Rattle.cyc_model.specs.Moving.{widen_here, place_here, enter_here}
use Rattle.cyc_model.specs.State.{State, absent, cpu_of}
use Rattle.cyc_model.specs.Add.{cyclic_that_expired}
use Rattle.cyc_model.specs.Free.{AllCanBeAdmitted}
use Rattle.cyc_model.proofs.Events.{calls_append, events_append}
use Rattle.cyc_model.proofs.Local.{AllOn, local_widen, other_events}
use Rattle.cyc_system_model.proofs.Free.{none_admitted, widen_none, can_append}
use Rattle.cyc_system_model.specs.Shown.{shown_cpus, shown_record, ShowsSystem}
use Rattle.cyc_system_model.proofs.Lists.{set_twice, set_get, get_set}
use Rattle.cyc_system_model.proofs.Cpus.{cpu_at, DoneAt}

-- after a growth and an admission
pub record Entered (n index : ℕ) (x : CyclicState) (v w : CpusView Tables) : Type 0 where
  pub cpus : shown_cpus w ≡ slice_set (shown_cpus v) n (enter_here n index x (cpu_at v n)).cpu
  pub quiet : (q : ℕ) → calls_of q (enter_here n index x (cpu_at v n)).acts ≡ 0
  pub free : (soft : Soft) → AllCanBeAdmitted (events_at n soft (enter_here n index x (cpu_at v n)).acts)
      (level_at soft (cpu_at v n))

-- the CPU of a number after one of that number was set
pub at_set : (v w : CpusView Tables) (n : ℕ) (c : Cpu) → n < length (shown_cpus v) → shown_cpus w ≡ slice_set (shown_cpus v) n c
    → cpu_at w n ≡ c
at_set v w n c low is = ap (λ cs. get_or cs n absent) is ∙ get_set (shown_cpus v) n c absent low

-- the CPU grows where it must and takes the cyclic
pub entered : (n id : ℕ) (level : Level) (interval moment : ℕ) (carried : Sent) (v u w : CpusView Tables)
    → (wide : DoneAt n (Widen 1) v u)
    → (p : DoneAt n (Place id level interval moment carried) u w)
    → Entered n p.index (cyclic_that_expired id level interval moment carried.sent carried.lost) v w
entered n id level interval moment carried v u w wide p =
    let x : CyclicState = cyclic_that_expired id level interval moment carried.sent carried.lost in
    let c = cpu_at v n in
    let grown = widen_here n 1 c in
    let at : cpu_at u n ≡ grown.cpu = at_set v u n grown.cpu wide.within wide.cpus in
    record {
      cpus = p.cpus ∙ ap (λ cs. slice_set cs n (place_here n p.index x (cpu_at u n)).cpu) wide.cpus
          ∙ set_twice (shown_cpus v) n grown.cpu (place_here n p.index x (cpu_at u n)).cpu
          ∙ ap (λ d. slice_set (shown_cpus v) n (place_here n p.index x d).cpu) at;
      quiet = λ q.
          let whole = calls_append q grown.acts (place_here n p.index x grown.cpu).acts in
          let first = wide.quiet q in
          let rest = p.quiet q in
          let same = ap (λ d. calls_of q (place_here n p.index x d).acts) at in
          omega (arith, whole, first, rest, same);
      free = λ soft.
          let rest = subst (λ (d : Cpu). AllCanBeAdmitted (events_at n soft (place_here n p.index x d).acts) (level_at soft d)) at
          (p.free soft) in
          let there = subst (λ l. AllCanBeAdmitted (events_at n soft (place_here n p.index x grown.cpu).acts) l)
          ((local_widen n 1 c).levels soft) rest in
          subst (λ es. AllCanBeAdmitted es (level_at soft c))
          (sym (events_append n soft grown.acts (place_here n p.index x grown.cpu).acts))
          (can_append (events_at n soft grown.acts) _ (level_at soft c)
          (none_admitted grown.acts n soft (level_at soft c) (widen_none n 1 c)) there);
    }

-- a call that does nothing on its CPU leaves all as it was shown
pub unchanged : (v w : CpusView Tables) (n : ℕ) → shown_cpus w ≡ slice_set (shown_cpus v) n (cpu_at v n)
    → shown_cpus w ≡ shown_cpus v
unchanged v w n is = is ∙ set_get (shown_cpus v) n absent

-- what happens on one CPU can happen on all of them, where it can there
pub free_on : (n : ℕ) (acts : List Act) (s : State) → AllOn n acts
    → ((soft : Soft) → AllCanBeAdmitted (events_at n soft acts) (level_at soft (cpu_of n s)))
    → (m : ℕ) (soft : Soft) → AllCanBeAdmitted (events_at m soft acts) (level_at soft (cpu_of m s))
free_on n acts s on free m soft = dite (ℕ_discrete m n)
    (λ e. subst (λ k. AllCanBeAdmitted (events_at k soft acts) (level_at soft (cpu_of k s))) (sym e) (free soft))
    (λ ne. subst (λ es. AllCanBeAdmitted es (level_at soft (cpu_of m s))) (sym (other_events acts n m soft on ne)) tt)

-- the machine shows a system that looks the same
pub same_shown : (s : State) (v w : SystemView Tables) → ShowsSystem s v → shown_cpus w.cpus ≡ shown_cpus v.cpus
    → w.records ≡ v.records
    → w.last ≡ v.last → ShowsSystem s w
same_shown s v w h cpus records last = record {
  cpus = h.cpus ∙ sym cpus;
  placed = h.placed ∙ sym (ap (map shown_record) records);
  ended = λ k r is n. h.ended k r (subst (λ rs. IsRecord rs k r) records is) n;
  fresh = h.fresh;
  last = h.last ∙ sym last;
}
