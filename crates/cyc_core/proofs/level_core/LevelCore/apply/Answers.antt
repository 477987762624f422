use Rattle.std.proofs.Common.{◌≡◌, ◌+◌, ◌∷◌, [], ◌++◌, take, not, ap, subst, sym, ◌∙◌}
use Rattle.cyc_level.specs.Events.{Enabled, after}
use Rattle.cyc_core.specs.Tables.{level_of}
use Rattle.cyc_core.specs.Reached.{Happens}
use Rattle.std.specs.List.{FoldsTo}
use Rattle.std.proofs.lemmas.List.{take_more}
use Rattle.cyc_types.proofs.Runs.{folds_more}
use Rattle.cyc_core.proofs.Changes.{ok_fact}
use Rattle.cyc_core.proofs.level_core.LevelCore.apply.Goals as goal

pub loop-at-preserved : goal.loop-at-preserved
loop-at-preserved c =
    let l = level_of c.args.self.now in
    let before = level_of c.loop-at.self in
    let next = level_of c.step.new.self in
    let event = c.index-events-at.result in
    let events = c.args.events.now in
    let ok = c.is_err.ensures.negation ∙ ap not c.if-is_err.false in
    let enabled : Enabled event before = c.step.ensures.enabled.0 ok in
    let made : next ≡ after event before = ok_fact _ _ ok c.step.ensures.ok in
    let more : take (c.loop-at.at + 1) events ≡ take c.loop-at.at events ++ event ∷ [] =
    take_more events c.loop-at.at event c.loop-at-test.true
    ∙ ap (λ e. take c.loop-at.at events ++ e ∷ []) (sym c.index-events-at.is) in
    subst (λ xs. FoldsTo Happens l xs next) (sym more)
    (folds_more Happens l (take c.loop-at.at events) before event next c.loop-at.invariant (enabled, made))
