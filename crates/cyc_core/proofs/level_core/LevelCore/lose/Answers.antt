use Rattle.std.proofs.Common.{◌≡◌, ◌<◌, ◌+◌, ap, arith, refl}
use Rattle.std.specs.Option.{option_map}
use Rattle.cyc_level.specs.declared.Event.TheVariants.{Lose}
use Rattle.cyc_level.specs.Level.{AdmittedCyclic}
use Rattle.cyc_level.specs.Events.{most_sent}
use Rattle.cyc_core.specs.declared.admitted.Kept.{Kept}
use Rattle.cyc_core.specs.Tables.{cyclic_of_entry, level_of}
use Rattle.cyc_core.specs.Shown.{shown_core, read_as}
use Rattle.cyc_core.proofs.Keeping.{position_low, read_there, counts_read, counted, counted_kept, read_lost}
use Rattle.cyc_core.proofs.Free.{counted_free}
use Rattle.cyc_core.proofs.Changes.{found_fact, level_lose, sound_by, reached_lawful}
use Rattle.cyc_core.proofs.level_core.LevelCore.lose.Goals as goal

pub index_mut-kept-requires : goal.index_mut-kept-requires
index_mut-kept-requires c =
    let a = c.self.inside in
    let kept = a.kept.items in
    let entries = a.ids.entries in
    let here = rw (← c.self.view_is) at c.requires.here in
    let low = position_low kept entries c.self.invariant.cyclics_kept c.args.entry c.number.result c.number.ensures.value here in
    omega (arith, low)

pub prove-unreachable-requires : goal.prove-unreachable-requires
prove-unreachable-requires c =
    let t = shown_core c.self.inside in
    let may = rw (← c.self.view_is) at c.requires.enabled in
    let here = rw (← c.self.view_is) at c.requires.here in
    let fact = found_fact t c.args.entry.id c.args.entry here (λ (x : AdmittedCyclic). (x.count ≡ t.ceiling)
    × (x.sent < most_sent)) may.2 in
    absurd (let apart = c.if-prove.true in omega (arith, fact, apart))

pub overflow_add-kept : goal.overflow_add-kept
overflow_add-kept c =
    let t = shown_core c.self.inside in
    let may = rw (← c.self.view_is) at c.requires.enabled in
    let here = rw (← c.self.view_is) at c.requires.here in
    let fact = found_fact t c.args.entry.id c.args.entry here (λ (x : AdmittedCyclic). (x.count ≡ t.ceiling)
    × (x.sent < most_sent)) may.2 in
    omega (arith, fact)

pub overflow_add-kept-2 : goal.overflow_add-kept-2
overflow_add-kept-2 c =
    let t = shown_core c.self.inside in
    let may = rw (← c.self.view_is) at c.requires.enabled in
    let here = rw (← c.self.view_is) at c.requires.here in
    let fact = found_fact t c.args.entry.id c.args.entry here (λ (x : AdmittedCyclic). (x.count ≡ t.ceiling)
    × (x.sent < most_sent)) may.2 in
    let even = (reached_lawful (level_of t) c.self.invariant.reached).conserved c.args.entry.id (cyclic_of_entry c.args.entry)
    (ap (option_map cyclic_of_entry) here) in
    omega (arith, fact, even)

pub invariant_of-self : goal.invariant_of-self
invariant_of-self c =
    let a = c.self.inside in
    let kept = a.kept.items in
    let entries = a.ids.entries in
    let sound = c.self.invariant.cyclics_kept in
    let entry = c.args.entry in
    let number = c.number.result in
    let is = c.number.ensures.value in
    let may = rw (← c.self.view_is) at c.requires.enabled in
    let here = rw (← c.self.view_is) at c.requires.here in
    let read = c.index_mut-kept.result.now in
    let new : Kept = record read { sent = entry.sent + 1; lost = entry.lost + 1 } in
    let same = counts_read kept entries sound entry number is here read c.index_mut-kept.ensures.value in
    let made = read_lost entry read entry.id entry.position same in
    sound_by a _ (Lose entry.id) c.self.invariant may
    (level_lose (shown_core a) _ entry.id entry (read_as entry.id entry.position new) here
    (counted kept entries sound entry number is here read c.index_mut-kept.ensures.value new refl refl) made)
    (counted_kept kept entries sound entry number is here read c.index_mut-kept.ensures.value new refl refl)
    (counted_free kept a.free.items number number refl new c.self.invariant.positions_free
    (position_low kept entries sound entry number is here)
    (ap (λ (k : Kept). k.here) (read_there kept entries sound entry number is here read c.index_mut-kept.ensures.value)))
    (omega arith) (omega arith) (omega arith) (omega arith) (omega arith) c.self.invariant.hints_long

pub returns : goal.returns
returns c =
    let a = c.self.inside in
    let kept = a.kept.items in
    let entries = a.ids.entries in
    let sound = c.self.invariant.cyclics_kept in
    let entry = c.args.entry in
    let number = c.number.result in
    let is = c.number.ensures.value in
    let here = rw (← c.self.view_is) at c.requires.here in
    let read = c.index_mut-kept.result.now in
    let new : Kept = record read { sent = entry.sent + 1; lost = entry.lost + 1 } in
    let same = counts_read kept entries sound entry number is here read c.index_mut-kept.ensures.value in
    let made = read_lost entry read entry.id entry.position same in
    rw (← c.self.view_is) (level_lose (shown_core a) _ entry.id entry (read_as entry.id entry.position new) here
    (counted kept entries sound entry number is here read c.index_mut-kept.ensures.value new refl refl) made)
