use Rattle.std.proofs.Common.{◌<◌, All, subst}
use Rattle.cyc_types.specs.Timers.{IsSoundTimer}
use Rattle.cyc_timers.specs.Rows.{TableView, timers_of, IsRising, HasDistinctIndexes}
use Rattle.cyc_timers.proofs.Tables.{rows_rise, indexes_apart, indexes_low, timers_sound}
use Rattle.cyc_timers.proofs.table.Table.law.Goals as goal

pub returns-clause-rising : goal.returns-clause-rising
returns-clause-rising c = subst (λ (v : TableView). IsRising v.rows) c.self.view_is (rows_rise _ _ _ c.self.invariant.0)

pub returns-clause-sound : goal.returns-clause-sound
returns-clause-sound c = subst (λ (v : TableView). All IsSoundTimer (timers_of v.rows)) c.self.view_is
    (timers_sound _ _ _ c.self.invariant.0)

pub returns-clause-apart : goal.returns-clause-apart
returns-clause-apart c = subst (λ (v : TableView). HasDistinctIndexes v.rows) c.self.view_is
    (indexes_apart _ _ _ c.self.invariant.0)

pub returns-clause-below : goal.returns-clause-below
returns-clause-below c = subst (λ (v : TableView). All (λ r. r.index < v.size) v.rows) c.self.view_is
    (indexes_low _ _ _ c.self.invariant.0)
