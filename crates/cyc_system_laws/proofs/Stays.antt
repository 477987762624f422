-- An id that is over stays so, over any ends and over levels that no other thread uses.
use Rattle.std.proofs.Common.{◌≡◌, ℕ, inl, inr, Result, Ok, Err, List, refl, sym, ap, subst, arith}
use Rattle.std.specs.List.{FoldsTo}
use Rattle.cyc_types.specs.declared.Calls.{Ghosts as Calls}
use Rattle.cyc_types.specs.declared.Raise.{Ghosts as Raise}
use Rattle.cyc_types.specs.declared.level.Level.TheVariants.{High}
use Rattle.cyc_cpu.specs.Tables.{Tables}
use Rattle.cyc_types.specs.Expirations.{expirations}
use Rattle.cyc_cpu.specs.Rows.{timers}
use Rattle.cyc_cpu.specs.Fired.{Fired}
use Rattle.cyc_cpu.specs.FireRefused.{FireRefused}
use Rattle.cyc_cpu.proofs.Sharing.{ids_add_up}
use Rattle.cyc_cpu.specs.Cpu.{CpuView, Running, running, HasNoCyclic}
use Rattle.cyc_cpu.specs.Gone.{IsGone, PutsNot}
use Rattle.cyc_cpu.specs.Soft.{raise_tables, Interrupts}
use Rattle.cyc_cpu.specs.Calls.{Suspend, Resume}
use Rattle.cyc_cpu.specs.Calls.{CpuCall, CpuChanges, CpuDoes, no_interrupts, Fire, SoftInterrupt, Add, Place, Reprogram}
use Rattle.cyc_cpu.specs.Calls.{AskPending}
use Rattle.cyc_cpu.specs.Calls.{AskTotals, AskRoom, Reserve, Widen, BeginRemove, PollRemove, TakeNow, AskSettled}
use Rattle.cyc_cpu.proofs.Following.{stays_gone}
use Rattle.cyc_cpu.proofs.Shifts.{changes_shift, shift_away}
use Rattle.cyc_cpu_laws.proofs.Fires.{no_share, no_cyclic, fired_away}
use Rattle.cyc_system_laws.proofs.Nowhere.{unused_gone}
use Rattle.cyc_system.specs.System.{SystemView, RunningSystem}
use Rattle.cyc_system.specs.Calls.{SystemCall, Does as SystemDoes}
use Rattle.cyc_system_laws.specs.Gone.{IsOver, StaysOver, IsOverWhole, StaysOverWhole, AreLevelsLawful}
use Rattle.cyc_system_laws.proofs.Over.{run_away}

module _ {C R : Type 0} (handler : Calls C) (firing : Raise R) (id : ℕ) where
  quiet : (x y : CpuView R) (call : CpuCall) → PutsNot id call → CpuChanges firing x call y → HasNoCyclic id x.cyclics
      → HasNoCyclic id y.cyclics
  quiet x y call not d none = shift_away call x.cyclics y.cyclics id (changes_shift firing x y call d) not none

  fire : (s t : Running C R) (now : ℕ) (answer : Result Fired FireRefused)
      → CpuDoes handler firing no_interrupts s (Fire now answer) t → HasNoCyclic id s.cpu.cyclics
      → HasNoCyclic id t.cpu.cyclics × (handler.count t.calls id ≡ handler.count s.calls id)
  fire s t now (Ok r) (early, kept, expired, next, makes) none = (
    fired_away id now _ s.cpu.cyclics t.cpu.cyclics makes.timers_are none,
    (let made = expirations now (timers s.cpu.cyclics) in let a = makes.acts.counted id in
        let b = ids_add_up id High (timers s.cpu.cyclics) made in
        let z = no_share High id (timers s.cpu.cyclics) made (no_cyclic id s.cpu.cyclics none) in omega (arith, a, b, z)),
  )
  fire s t now (Err e) (inl (late, is, same)) none = (
    subst (λ (x : Running C R). HasNoCyclic id x.cpu.cyclics) (sym same) none,
    ap
        (λ (x : Running C R). handler.count x.calls id) same,
  )
  fire s t now (Err e) (inr (early, kept, f)) none = (
    fired_away id now _ s.cpu.cyclics t.cpu.cyclics f.makes.timers_are none,
    (let c = f.counted id in let a = f.makes.acts.counted id in let b = ids_add_up id High (timers s.cpu.cyclics) f.made in
        let z = no_share High id (timers s.cpu.cyclics) f.made (no_cyclic id s.cpu.cyclics none) in
        omega (arith, a, b, c, z)),
  )

  pub stays_over : (s t : RunningSystem C R) (way : List SystemCall) → IsOver id s.system
      → FoldsTo (SystemDoes handler firing no_interrupts) s way t → StaysOver handler.count id s t
  stays_over s t way is run =
      let (a, same) = run_away handler firing no_interrupts id
      (λ cpu. HasNoCyclic id cpu.cyclics) quiet fire (λ s t level budget answer d. absurd d) s t way run
      (record { given = is.given; unknown = is.unknown; each = is.nowhere }) in
      (record { given = a.given; unknown = a.unknown; nowhere = a.each }, same)

-- ---- levels that no other thread uses

pub is_whole : (id : ℕ) (s : SystemView Tables) → IsOver id s → AreLevelsLawful s → IsOverWhole id s
is_whole id s is whole = record {
  is_over = is;
  gone = λ n cpu at. (let (law, lock, low) = whole n cpu at in unused_gone id cpu law lock low (is.nowhere n cpu at));
}

module _ {C : Type 0} (handler : Calls C) (id : ℕ) where
  abbrev Core : Running C Tables → CpuCall → Running C Tables → Type 0
  Core = CpuDoes handler raise_tables (Interrupts handler)

  -- a call that reaches no handler, with any handlers
  with_calls : (calls : C) (x y : CpuView Tables) (call : CpuCall) → CpuChanges raise_tables x call y
      → Core (running calls x) call (running calls y)
  with_calls calls x y (Fire now answer) d = absurd d
  with_calls calls x y (SoftInterrupt level budget answer) d = absurd d
  with_calls calls x y (Add own level when now answer) d = (d, refl)
  with_calls calls x y (Place own level interval moment carried) d = (d, refl)
  with_calls calls x y (Reprogram own moment answer) d = (d, refl)
  with_calls calls x y (AskPending own answer) d = (d, refl)
  with_calls calls x y (AskTotals own answer) d = (d, refl)
  with_calls calls x y (AskRoom more answer) d = (d, refl)
  with_calls calls x y (Reserve more answer) d = (d, refl)
  with_calls calls x y (Widen more) d = (d, refl)
  with_calls calls x y (BeginRemove own answer) d = (d, refl)
  with_calls calls x y (PollRemove answer) d = (d, refl)
  with_calls calls x y (TakeNow own answer) d = (d, refl)
  with_calls calls x y (AskSettled answer) d = (d, refl)
  with_calls calls x y Suspend d = (d, refl)
  with_calls calls x y Resume d = (d, refl)

  pub stays_whole : (s t : RunningSystem C Tables) (way : List SystemCall) → IsOverWhole id s.system
      → FoldsTo (SystemDoes handler raise_tables (Interrupts handler)) s way t
      → StaysOverWhole handler.count id s t
  stays_whole s t way is run =
      let (a, same) = run_away handler raise_tables (Interrupts handler) id (IsGone id)
      (λ x y call not d gone. (stays_gone handler id (running s.calls x) (running s.calls y) call gone not
      (with_calls s.calls x y call d)).0)
      (λ u w now answer d gone. stays_gone handler id u w (Fire now answer) gone tt d)
      (λ u w level budget answer d gone. stays_gone handler id u w
      (SoftInterrupt level budget answer) gone tt d) s t way run
      (record { given = is.is_over.given; unknown = is.is_over.unknown; each = is.gone }) in (
        record {
          is_over = record {
            given = a.given;
            unknown = a.unknown;
            nowhere = λ n cpu at.
                (a.each n cpu at).no_cyclic;
          };
          gone = a.each;
        },
        same,
      )
