use Rattle.std.proofs.Common.{arith, refl, subst, sym, false}
use Rattle.cyc_level.specs.declared.Event.TheVariants.{Clear}
use Rattle.cyc_finder.specs.Sorted.{Rises}
use Rattle.cyc_finder.specs.Indexes.{id_in}
use Rattle.cyc_finder.proofs.RisingIds.{rises_removed}
use Rattle.cyc_core.specs.declared.admitted.Kept.{Kept}
use Rattle.cyc_core.specs.Tables.{level_of}
use Rattle.cyc_core.specs.Shown.{shown_core}
use Rattle.cyc_core.proofs.Keeping.{named_index, left_low, finds_left, left_kept}
use Rattle.cyc_core.proofs.Free.{room_for, left_at}
use Rattle.cyc_core.proofs.Changes.{level_clear, sound_by, reached_lawful}
use Rattle.cyc_core.proofs.level_core.LevelCore.end_stay.Goals as goal

pub remove-position-requires : goal.remove-position-requires
remove-position-requires c =
    let a = c.self.inside in
    let kept = a.kept.items in
    let entries = a.ids.entries in
    let t = shown_core a in
    let law = reached_lawful (level_of t) c.self.invariant.reached in
    let may = rw (← c.self.view_is) at c.requires in
    named_index kept entries c.args.id (law.marked_admitted c.args.id may.1)

pub index_mut-requires : goal.index_mut-requires
index_mut-requires c =
    let a = c.self.inside in
    let kept = a.kept.items in
    let entries = a.ids.entries in
    let gone = c.remove-position.ensures in
    let none : Kept = record { id = 1; sent = 0; lost = 0; count = 0; index = 0; here = false } in
    let low = left_low kept entries c.remove-position.new.self.entries c.self.invariant.cyclics_kept c.args.id
    c.remove-position.result c.number.result c.number.ensures.value none gone.index gone.told refl in
    omega (arith, low)

pub push_reserved-requires : goal.push_reserved-requires
push_reserved-requires c =
    let a = c.self.inside in
    let most = room_for a.kept.items a.ids.entries c.self.invariant.cyclics_kept c.args.id c.remove-position.result
    c.number.result
    c.number.ensures.value c.remove-position.ensures.index a.free.items c.self.invariant.positions_free in
    let room = c.self.invariant.free_room in
    omega (arith, most, room)

pub invariant_of-self : goal.invariant_of-self
invariant_of-self c =
    let a = c.self.inside in
    let kept = a.kept.items in
    let entries = a.ids.entries in
    let gone = c.remove-position.ensures in
    let (k, at, is) = gone.entries in
    let sound = c.self.invariant.cyclics_kept in
    let may = rw (← c.self.view_is) at c.requires in
    let new : Kept = record c.index_mut.result.now { here = false } in
    let made = level_clear (shown_core a) _ c.args.id (finds_left kept entries c.remove-position.new.self.entries sound c.args.id
    c.remove-position.result c.number.result c.number.ensures.value new gone.index gone.told refl) in
    sound_by a _ (Clear c.args.id) c.self.invariant may made
    (left_kept kept entries c.remove-position.new.self.entries sound c.args.id c.remove-position.result c.number.result
    c.number.ensures.value new gone.index gone.told refl
    (subst (Rises id_in) (sym is) (rises_removed id_in entries sound.ordered c.args.id k at)))
    (left_at kept entries sound c.args.id c.remove-position.result c.number.result c.number.ensures.value gone.index a.free.items
    c.push_reserved.new.self.items new c.push_reserved.ensures.items c.self.invariant.positions_free refl)
    (omega arith) (omega (arith, c.push_reserved.ensures.capacity)) (omega (arith, gone.room)) (omega arith) (omega arith)
    c.self.invariant.hints_long

pub returns : goal.returns
returns c =
    let a = c.self.inside in
    let kept = a.kept.items in
    let entries = a.ids.entries in
    let gone = c.remove-position.ensures in
    let new : Kept = record c.index_mut.result.now { here = false } in
    rw (← c.self.view_is) (level_clear (shown_core a) _ c.args.id (finds_left kept entries c.remove-position.new.self.entries
    c.self.invariant.cyclics_kept c.args.id c.remove-position.result c.number.result c.number.ensures.value new gone.index
    gone.told
    refl))
