use Rattle.std.proofs.Common.{◌≡◌, ◌≤◌, List, length, All}
use Rattle.cyc_types.specs.Expirations.{Expiration, expirations}
use Rattle.cyc_types.specs.Timers.{IsSoundTimer}
use Rattle.cyc_types.proofs.Firings.{Firing}
use Rattle.cyc_timers.specs.Rows.{timers_of, cyclics_of, IsRising}
use Rattle.cyc_types.specs.Levels.{at_level}
use Rattle.cyc_types.specs.declared.level.Level.TheVariants.{High}
use Rattle.cyc_timers.specs.Ends.{IsReady, lock_and_low}
use Rattle.cyc_timers.specs.Made.{Makes, fire_state}
use Rattle.cyc_timers.specs.Acts.{acting}
use Rattle.cyc_timers.proofs.fire.fire_all.Given as goal

abbrev pub invariant-loop-root : goal.invariant-loop-root
invariant-loop-root g l = record {
  size : l.table.size ≡ l.fn.table.size;
  room : l.table.room ≡ l.fn.table.room;
  rising : IsRising l.table.rows;
  sound : All IsSoundTimer (timers_of l.table.rows);
  ready : IsReady g.R.Raise.view l.table.size l.most (lock_and_low (g.R.Raise.view l.fn.lock).marked (g.R.Raise.view
      l.fn.low).marked)
      (lock_and_low l.lock l.low) l.table.rows;
  made : (made : List Expiration) × (length made ≡ l.expired)
      × Firing l.now made (timers_of l.fn.table.rows) (timers_of l.table.rows)
      × Makes (acting (at_level g.C.Calls.called High) g.C.Calls.count g.R.Raise) l.now made (fire_state (cyclics_of
      l.fn.table.rows) (record { calls = l.fn.calls; lock = l.fn.lock; low = l.fn.low }))
      (fire_state (cyclics_of l.table.rows) (record { calls = l.calls; lock = l.lock; low = l.low })) l.lost
      × (l.lost ≤ length made);
}

abbrev pub decreases-loop-root : goal.decreases-loop-root
decreases-loop-root g l = length (expirations l.now (timers_of l.table.rows))
