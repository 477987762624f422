use Rattle.std.proofs.Common.{sym, ◌∙◌}
use Rattle.cyc_core.proofs.Keeping.{index_found}
use Rattle.cyc_core.proofs.level_core.LevelCore.search.Goals as goal

pub returns-in-None : goal.returns-in-None
returns-in-None c = let a = c.self.inside in
    rw (← c.self.view_is) (c.find_apart.ensures ∙ index_found a.kept.items a.ids.entries c.args.id)

pub returns-in-Some : goal.returns-in-Some
returns-in-Some c = sym c.in-Some.ensures
