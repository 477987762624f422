use Rattle.std.proofs.Common.{sym, subst, List}
use Rattle.std.specs.Prelude.{All}
use Rattle.std.proofs.lemmas.List.Elements.{All-push}
use Rattle.cyc_core.specs.declared.level_core.LevelCore.{LevelCore}
use Rattle.cyc_core.specs.Tables.{level_of}
use Rattle.cyc_core.specs.FiringSide.{firing_view}
use Rattle.cyc_cpu.specs.Cpu.{IsFresh}
use Rattle.refused_memory.proofs.systems.push_ends.Goals as goal

-- both ends of a CPU are new
abbrev AreFresh : LevelCore × LevelCore → Type 0
AreFresh e = IsFresh (firing_view (level_of e.0)) × IsFresh (firing_view (level_of e.1))

pub returns-clause-fresh : goal.returns-clause-fresh
returns-clause-fresh c = subst (λ (es : List (LevelCore × LevelCore)). All AreFresh es) (sym c.in_ok-push.ensures.items)
    (All-push AreFresh c.args.ends.items c.args.pair c.requires.before (c.requires.lock, c.requires.low))
