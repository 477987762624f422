use Rattle.std.proofs.Common.{◌∙◌, ap, ◌+◌}
use Rattle.cyc_types.specs.declared.level.Level.TheVariants.{Low, Lock, High}
use Rattle.cyc_timers.proofs.Sharing.{raises_add_up, ids_add_up, whole_share}
use Rattle.cyc_timers.proofs.laws.share_law.Goals as goal

pub returns-clause-lock : goal.returns-clause-lock
returns-clause-lock g c now made cs cs' s s' lost m id = raises_add_up id _ _ m.acts.lock_raises ∙ ids_add_up id Lock _ made

pub returns-clause-low : goal.returns-clause-low
returns-clause-low g c now made cs cs' s s' lost m id = raises_add_up id _ _ m.acts.low_raises ∙ ids_add_up id Low _ made

pub returns-clause-high : goal.returns-clause-high
returns-clause-high g c now made cs cs' s s' lost m id = m.acts.counted id
    ∙ ap (λ n. g.C.Calls.count s.calls id + n) (ids_add_up id High _ made)

pub returns-clause-whole : goal.returns-clause-whole
returns-clause-whole g c now ts distinct level i d low = whole_share now ts level i d distinct low
