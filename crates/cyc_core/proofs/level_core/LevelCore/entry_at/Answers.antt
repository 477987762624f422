use Rattle.std.proofs.Common.{ap, arith, refl, sym}
use Rattle.std.specs.Option.{option_map}
use Rattle.cyc_core.specs.Tables.{cyclic_of_entry, level_of}
use Rattle.cyc_core.specs.Shown.{shown_core, read_as}
use Rattle.cyc_core.proofs.Keeping.{found_low, found_read}
use Rattle.cyc_core.proofs.Changes.{reached_lawful}
use Rattle.cyc_core.proofs.level_core.LevelCore.entry_at.Goals as goal

pub index-requires : goal.index-requires
index-requires c =
    let a = c.self.inside in
    let kept = a.kept.items in
    let entries = a.ids.entries in
    let found = sym (rw (← c.self.view_is) at c.requires) in
    let low = found_low kept entries c.self.invariant.cyclics_kept c.args.id c.args.position c.number.result
    c.number.ensures.value found in
    omega (arith, low)

pub read-requires : goal.read-requires
read-requires c =
    let a = c.self.inside in
    let kept = a.kept.items in
    let entries = a.ids.entries in
    let found = sym (rw (← c.self.view_is) at c.requires) in
    let read = read_as c.args.id c.args.position c.index.result.now in
    let here = found_read kept entries c.self.invariant.cyclics_kept c.args.id c.args.position c.number.result
    c.number.ensures.value found c.index.result.now read c.index.ensures refl in
    let even = (reached_lawful (level_of (shown_core a)) c.self.invariant.reached).conserved c.args.id (cyclic_of_entry read)
    (ap (option_map cyclic_of_entry) here) in
    omega (arith, even)

pub returns-clause-here : goal.returns-clause-here
returns-clause-here c =
    let a = c.self.inside in
    let kept = a.kept.items in
    let entries = a.ids.entries in
    let found = sym (rw (← c.self.view_is) at c.requires) in
    rw (← c.self.view_is) (found_read kept entries c.self.invariant.cyclics_kept c.args.id c.args.position
    c.number.result c.number.ensures.value found c.index.result.now _ c.index.ensures c.read.ensures)

pub returns-clause-cyclic : goal.returns-clause-cyclic
returns-clause-cyclic c =
    let a = c.self.inside in
    let kept = a.kept.items in
    let entries = a.ids.entries in
    let found = sym (rw (← c.self.view_is) at c.requires) in
    rw (← c.self.view_is) (ap (option_map cyclic_of_entry) (found_read kept entries c.self.invariant.cyclics_kept c.args.id
    c.args.position c.number.result c.number.ensures.value found c.index.result.now _ c.index.ensures c.read.ensures))

pub returns-clause-lawful : goal.returns-clause-lawful
returns-clause-lawful c = rw (← c.self.view_is) (reached_lawful (level_of (shown_core c.self.inside)) c.self.invariant.reached)
