use Rattle.std.proofs.Common.{◌∙◌, sym}
use Rattle.cyc_core.proofs.Keeping.{index_found}
use Rattle.cyc_core.proofs.level_core.LevelCore.hinted.Goals as goal

pub returns-then-is_kept_at : goal.returns-then-is_kept_at
returns-then-is_kept_at c =
    let a = c.self.inside in
    let told = rw c.deref.ensures.value at c.is_kept_at.ensures in
    let named = (c.self.invariant.cyclics_kept.named c.args.id _).0 (told.0 c.if-is_kept_at.true) in
    rw (← c.self.view_is) (sym (index_found a.kept.items a.ids.entries c.args.id) ∙ named)
