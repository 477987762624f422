use Rattle.std.proofs.Common.{◌-◌, ap, arith, refl}
use Rattle.std.specs.Prelude.{is_some}
use Rattle.std.specs.Option.{option_map}
use Rattle.cyc_level.specs.declared.Event.TheVariants.{Finish}
use Rattle.cyc_core.specs.declared.admitted.Kept.{Kept}
use Rattle.cyc_core.specs.Tables.{cyclic_of_entry, level_of}
use Rattle.cyc_core.specs.Shown.{shown_core, read_as}
use Rattle.cyc_core.proofs.Keeping.{position_low, read_there, counts_read, counted, counted_kept, read_finished}
use Rattle.cyc_core.proofs.Free.{counted_free}
use Rattle.cyc_core.proofs.Changes.{held_count, level_finish, sound_by, reached_lawful}
use Rattle.cyc_core.proofs.level_core.LevelCore.finish_call.Goals as goal

pub index_mut-kept-requires : goal.index_mut-kept-requires
index_mut-kept-requires c =
    let a = c.self.inside in
    let kept = a.kept.items in
    let entries = a.ids.entries in
    let here = rw (← c.self.view_is) at c.requires.here in
    let low = position_low kept entries c.self.invariant.cyclics_kept c.args.entry c.number.result c.number.ensures.value here in
    omega (arith, low)

pub overflow_sub-kept : goal.overflow_sub-kept
overflow_sub-kept c =
    let t = shown_core c.self.inside in
    let law = reached_lawful (level_of t) c.self.invariant.reached in
    let entry = c.args.entry in
    let found = ap (option_map cyclic_of_entry) (rw (← c.self.view_is) at c.requires.here) in
    let some = held_count (level_of t) law entry.id (cyclic_of_entry entry) found (rw (← c.self.view_is) at c.requires.hand) in
    omega (arith, some)

pub invariant_of-self : goal.invariant_of-self
invariant_of-self c =
    let a = c.self.inside in
    let t = shown_core a in
    let kept = a.kept.items in
    let entries = a.ids.entries in
    let sound = c.self.invariant.cyclics_kept in
    let entry = c.args.entry in
    let number = c.number.result in
    let is = c.number.ensures.value in
    let here = rw (← c.self.view_is) at c.requires.here in
    let hand = rw (← c.self.view_is) at c.requires.hand in
    let law = reached_lawful (level_of t) c.self.invariant.reached in
    let some = held_count (level_of t) law entry.id (cyclic_of_entry entry) (ap (option_map cyclic_of_entry) here) hand in
    let read = c.index_mut-kept.result.now in
    let new : Kept = record read { count = entry.count - 1 } in
    let same = counts_read kept entries sound entry number is here read c.index_mut-kept.ensures.value in
    let even = law.conserved entry.id (cyclic_of_entry entry) (ap (option_map cyclic_of_entry) here) in
    let made = read_finished entry read entry.id entry.position same some even in
    sound_by a _ Finish c.self.invariant (ap is_some hand)
    (level_finish t _ entry.id entry (read_as entry.id entry.position new) here
    (counted kept entries sound entry number is here read c.index_mut-kept.ensures.value new refl refl) _ made
    hand some c.then_some-self-inside.ensures)
    (counted_kept kept entries sound entry number is here read c.index_mut-kept.ensures.value new refl refl)
    (counted_free kept a.free.items number number refl new c.self.invariant.positions_free
    (position_low kept entries sound entry number is here)
    (ap (λ (k : Kept). k.here) (read_there kept entries sound entry number is here read c.index_mut-kept.ensures.value)))
    (omega arith) (omega arith) (omega arith) (omega arith) (omega arith) c.self.invariant.hints_long

pub returns : goal.returns
returns c =
    let a = c.self.inside in
    let t = shown_core a in
    let kept = a.kept.items in
    let entries = a.ids.entries in
    let sound = c.self.invariant.cyclics_kept in
    let entry = c.args.entry in
    let number = c.number.result in
    let is = c.number.ensures.value in
    let here = rw (← c.self.view_is) at c.requires.here in
    let hand = rw (← c.self.view_is) at c.requires.hand in
    let law = reached_lawful (level_of t) c.self.invariant.reached in
    let some = held_count (level_of t) law entry.id (cyclic_of_entry entry) (ap (option_map cyclic_of_entry) here) hand in
    let read = c.index_mut-kept.result.now in
    let new : Kept = record read { count = entry.count - 1 } in
    let same = counts_read kept entries sound entry number is here read c.index_mut-kept.ensures.value in
    let even = law.conserved entry.id (cyclic_of_entry entry) (ap (option_map cyclic_of_entry) here) in
    let made = read_finished entry read entry.id entry.position same some even in
    rw (← c.self.view_is) (level_finish t _ entry.id entry (read_as entry.id entry.position new) here
    (counted kept entries sound entry number is here read c.index_mut-kept.ensures.value new refl refl) _ made
    hand some c.then_some-self-inside.ensures)
