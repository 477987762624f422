-- The lines of a system that has settled: nothing is pending, and it has settled after them.
use Rattle.std.proofs.Common.{◌≡◌, ℕ, List, [], ◌∷◌, Option, Some, None, map, refl, sym, ap, subst, ◌∙◌, arith}
use Rattle.std.specs.Prelude.{All, sum_by}
use Rattle.std.specs.List.{FoldsTo}
use Rattle.std.proofs.lemmas.List.Elements.{All-nil, All-cons}
use Rattle.std.proofs.lemmas.List.Sums.{sum_by-cons}
use mathlib.Core.Logic.{dite}
use native.Mathlib.Decide.{ℕ_discrete}
use Rattle.cyc_types.specs.declared.Raise.{Ghosts as Raise}
use Rattle.cyc_cpu.specs.declared.hard.Totals.{Totals}
use Rattle.cyc_cpu.specs.Cpu.{CpuView}
use Rattle.cyc_cpu.specs.Moving.{IsSettled}
use Rattle.cyc_cpu.specs.Calls.{CpuChanges as CpuChanges, AskTotals as CpuTotals}
use Rattle.cyc_system_workers.proofs.Reading.{totals_settled}
use Rattle.cyc_system_workers.specs.Settled.{AllSettled}
use Rattle.cyc_system_laws.specs.Cpus.{CpusView, IsCpu, with_cpu, on, DoesAt, Works}
use Rattle.cyc_system_laws.proofs.CpusSpots.{one_cpu, cpu_there, cpu_beside}
use Rattle.cyc_system_workers.specs.System.{SystemView}
use Rattle.cyc_system_laws.specs.SystemTotals.{SystemTotals}
use Rattle.cyc_system_laws.specs.Counting.{Counted, asked}
use Rattle.cyc_system_workers.specs.Calls.{Changes, AskTotals}
use Rattle.cyc_words.specs.declared.named.Named.{Named}
use Rattle.cyc_words.specs.declared.named.Named.TheVariants.{Nothing, Cyclic, Leaving, Removed}
use Rattle.cyc_threads.specs.declared.progress.Progress.{Progress}
use Rattle.cyc_threads.specs.declared.counting.Line.{Line}
use Rattle.cyc_threads.proofs.Telling.{Begun}
use Rattle.cyc_threads.specs.Counting.{NameLine, AsksTotalsOf, Tells, TellsOf, totals_line}

-- nothing of its cyclic is pending
abbrev pub IsQuiet : Line → Type 0
IsQuiet l = l.pending ≡ 0

module _ {R : Type 0} (firing : Raise R) where
  cpu_settled : (v w : CpuView R) (id : ℕ) (t : Totals) → IsSettled firing.view v → CpuChanges firing v (CpuTotals id (Some t)) w
      → IsSettled firing.view w
  cpu_settled v w id t s a = totals_settled {C = Unit {0}} {R = R}
      (record { count = λ c q. 0; called = λ c q l d. Unit {0}; may_refuse = λ c q. Unit {0} }) firing tt v w id t s a

  cpu_quiet : (v w : CpuView R) (id : ℕ) (t : Totals) → IsSettled firing.view v → CpuChanges firing v (CpuTotals id (Some t)) w
      → t.pending ≡ 0
  cpu_quiet v w id t s a = sym a.1 ∙ (cpu_settled v w id t s a).seen id

  one_settled : (n id : ℕ) (t : Totals) (v w : CpusView R) → DoesAt firing v (on n (CpuTotals id (Some t))) w
      → AllSettled firing.view v.cpus → AllSettled firing.view w.cpus
  one_settled n id t v w d all = λ m y at.
      let there : IsCpu m y (with_cpu v n d.after) = subst (λ (z : CpusView R). IsCpu m y z) d.rest at in
      dite (ℕ_discrete m n)
      (λ e. subst (IsSettled firing.view)
      (one_cpu n d.after y (with_cpu v n d.after) (cpu_there n d.before d.after v d.here)
      (subst (λ (k : ℕ). IsCpu k y (with_cpu v n d.after)) e there))
      (cpu_settled d.before d.after id t (all n d.before d.here) d.change))
      (λ ne. all m y (cpu_beside n m y d.after v ne there))

  works_quiet : (id : ℕ) (way : List Counted) (v w : CpusView R) → Works firing (map (asked id) way) v w
      → AllSettled firing.view v.cpus
      → AllSettled firing.view w.cpus × (sum_by (λ (a : Counted). a.totals.pending) way ≡ 0)
  works_quiet id [] v w e all = (subst (λ (z : CpusView R). AllSettled firing.view z.cpus) e all, refl)
  works_quiet id (a ∷ way) v w (u, d, rest) all =
      let quiet : a.totals.pending ≡ 0 = cpu_quiet d.before d.after id a.totals (all a.cpu d.before d.here) d.change in
      let more = works_quiet id way u w rest (one_settled a.cpu id a.totals v u d all) in
      let left : sum_by (λ (b : Counted). b.totals.pending) way ≡ 0 = more.1 in
      let p = sum_by-cons (λ (b : Counted). b.totals.pending) a way in (more.0, omega (arith, p, quiet, left))

  asks_quiet : (id : ℕ) (answer : Option SystemTotals) (s t : SystemView R) → Changes firing s (AskTotals id answer) t
      → AllSettled firing.view s.cpus.cpus → AllSettled firing.view t.cpus.cpus × ((totals_line answer).pending ≡ 0)
  asks_quiet id None s t (none, e) all = (subst (λ (z : SystemView R). AllSettled firing.view z.cpus.cpus) (sym e) all, refl)
  asks_quiet id (Some totals) s t (way, r, known, numbers, works, adds) all =
      let q = works_quiet id way s.cpus t.cpus works.0 all in (q.0, adds.pending ∙ q.1)

module _ {C R : Type 0} (firing : Raise R) where
  abbrev pub Rests : Progress R C → Type 0
  Rests p = AllSettled firing.view p.side.system.cpus.cpus

  line_asked : (id : ℕ) (line : Line) (s t : Progress R C) → AsksTotalsOf firing id line s t → Rests s → Rests t
      × (line.pending ≡ 0)
  line_asked id line s t (answer, c, is) all = let q = asks_quiet firing id answer s.side.system t.side.system c.did all in
      (q.0, ap (λ (l : Line). l.pending) is ∙ q.1)

  line_quiet : (named : Named) (line : Line) (s t : Progress R C) → TellsOf firing named line s t → Rests s → Rests t
      × (line.pending ≡ 0)
  line_quiet Nothing line s t (is, e) all = (subst Rests (sym e) all, ap (λ (l : Line). l.pending) is)
  line_quiet (Cyclic id) line s t a all = line_asked id line s t a all
  line_quiet (Leaving id) line s t a all = line_asked id line s t a all
  line_quiet (Removed receipt) line s t (is, e) all = (subst Rests (sym e) all, ap (λ (l : Line). l.pending) is)

  pub lines_quiet : (all : List NameLine) (s t : Progress R C) → FoldsTo (Tells firing) s all t → Rests s
      → Rests t × All IsQuiet (map (λ (w : NameLine). w.line) all)
  lines_quiet [] s t e rests = (subst Rests e rests, All-nil IsQuiet)
  lines_quiet (told ∷ all) s t (u, d, rest) rests = let one = line_quiet told.named told.line s u d rests in
      let more = lines_quiet all u t rest one.0 in
      (more.0, All-cons IsQuiet told.line (map (λ (w : NameLine). w.line) all) one.1 more.1)

  pub begun_settled : (k : ℕ) (lines : List Line) (s t : Progress R C) → Begun firing k lines s t → Rests s → Rests t
  begun_settled k lines s t b rests = (lines_quiet b.all s t b.tells rests).0

  pub begun_quiet : (k : ℕ) (lines : List Line) (s t : Progress R C) → Begun firing k lines s t → Rests s → All IsQuiet lines
  begun_quiet k lines s t b rests = subst (λ (ls : List Line). All IsQuiet ls) b.lines_are (lines_quiet b.all s t b.tells rests).1
