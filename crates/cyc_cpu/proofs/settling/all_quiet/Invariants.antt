use Rattle.std.proofs.Common.{◌≡◌, ℕ, ◌<◌}
use Rattle.cyc_types.specs.Firing.{Sound, seen_of}
use Rattle.cyc_types.specs.declared.level.Level.TheVariants.{Low, Lock}
use Rattle.cyc_timers.specs.Rows.{Row, IsRow}
use Rattle.cyc_timers.specs.Quiet.{OnlyLoads}
use Rattle.cyc_timers.proofs.Walks.{IsWalk}
use Rattle.cyc_cpu.proofs.settling.all_quiet.Given as goal

-- the cyclics so far were asked for, and none of them had calls outstanding
abbrev pub invariant-loop-position : goal.invariant-loop-position
invariant-loop-position g l = record {
  walk : IsWalk (λ (r : Row). r.timer.id) l.table.rows l.passed l._position;
  lock : OnlyLoads g.R.Raise l.fn.lock l.lock;
  low : OnlyLoads g.R.Raise l.fn.low l.low;
  quiet_lock : (k : ℕ) (r : Row) → k < l._position → IsRow l.table.rows k r → r.timer.level ≡ Lock
      → seen_of r.timer.id (g.R.Raise.view l.lock) ≡ 0;
  quiet_low : (k : ℕ) (r : Row) → k < l._position → IsRow l.table.rows k r → r.timer.level ≡ Low
      → seen_of r.timer.id (g.R.Raise.view l.low) ≡ 0;
  sound_lock : Sound (g.R.Raise.view l.fn.lock) → Sound (g.R.Raise.view l.lock);
  sound_low : Sound (g.R.Raise.view l.fn.low) → Sound (g.R.Raise.view l.low);
}
