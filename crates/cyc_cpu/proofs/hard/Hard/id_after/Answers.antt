use Rattle.std.proofs.Common.{◌≡◌, ℕ, All, IfNone, sym, subst}
use Rattle.cyc_timers.specs.Rows.{Cyclic, cyclic_of}
use Rattle.cyc_cpu.specs.Cpu.{CpuView, IsCyclic, IsPassed, IsNextAfter}
use Rattle.cyc_cpu.proofs.Cyclics.{is_cyclic, passed_cyclics, next_cyclic}
use Rattle.cyc_cpu.proofs.hard.Hard.id_after.Goals as goal

pub returns-in_err-id-clause-none : goal.returns-in_err-id-clause-none
returns-in_err-id-clause-none g c = let rows = c.self.inside.table.rows in
    subst (λ o. IfNone o (All (λ (x : Cyclic). IsPassed c.args.passed x.timer.id) c.args.self.now.cyclics))
    (sym c.from_residual.ensures)
    (subst (λ (v : CpuView _). All (λ (x : Cyclic). IsPassed c.args.passed x.timer.id) v.cyclics) c.self.view_is
    (passed_cyclics rows c.args.passed c.in_err-id.ensures.none))

pub returns-clause-some : goal.returns-clause-some
returns-clause-some g c = let rows = c.self.inside.table.rows in
    let (k, r, is, named, there, next) = c.in_ok-id.ensures.some in
    subst (λ (v : CpuView _). (j : ℕ) × (x : Cyclic) × IsCyclic v.cyclics j x × (x.timer.id ≡ c.in_ok-id.id)
    × IsNextAfter (λ (y : Cyclic). y.timer.id) v.cyclics c.args.passed j) c.self.view_is
    (k, cyclic_of r, is_cyclic rows k r is, named, next_cyclic rows c.args.passed k next)
