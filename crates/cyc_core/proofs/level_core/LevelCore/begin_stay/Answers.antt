use Rattle.std.proofs.Common.{arith, ap, refl, subst, sym, ◌∙◌, true}
use Rattle.std.specs.List.{length_refill}
use Rattle.cyc_level.specs.declared.Event.TheVariants.{Admit}
use Rattle.cyc_finder.specs.Sorted.{Rises}
use Rattle.cyc_finder.specs.Indexes.{Entry, id_in}
use Rattle.cyc_finder.proofs.RisingIds.{rises_inserted}
use Rattle.cyc_core.specs.declared.admitted.Kept.{Kept}
use Rattle.cyc_core.specs.Tables.{level_of}
use Rattle.cyc_core.specs.Shown.{kept_id, shown_core, read_as, FreePositions}
use Rattle.cyc_core.proofs.Keeping.{absent_index, finds_admitted, admitted_kept}
use Rattle.cyc_core.proofs.Free.{first_free, taken_low, taken_free, one_more_fits}
use Rattle.cyc_core.proofs.PlaceLaws.{not_indexed}
use Rattle.cyc_core.proofs.Changes.{level_admit, sound_by, reached_lawful}
use Rattle.cyc_core.proofs.level_core.LevelCore.begin_stay.Goals as goal

pub free_position-position-requires-clause-more : goal.free_position-position-requires-clause-more
free_position-position-requires-clause-more c =
    let a = c.self.inside in
    let t = shown_core a in
    let may = rw (← c.self.view_is) at c.requires in
    λ none. one_more_fits t a.kept.items a.ids.entries refl (reached_lawful (level_of t) c.self.invariant.reached)
    c.self.invariant.cyclics_kept (subst (FreePositions a.kept.items) none c.self.invariant.positions_free)
    c.args.index may.3 may.4

pub insert-requires-clause-absent : goal.insert-requires-clause-absent
insert-requires-clause-absent c =
    let a = c.self.inside in
    let may = rw (← c.self.view_is) at c.requires in
    absent_index a.kept.items a.ids.entries c.args.id may.2

pub insert-requires-clause-free : goal.insert-requires-clause-free
insert-requires-clause-free c =
    let a = c.self.inside in
    let position = c.free_position-position.result in
    let to = c.free_position-position.ensures in
    not_indexed a.kept.items a.ids.entries c.self.invariant.cyclics_kept position
    (sym (ap kept_id (to.same position)) ∙ first_free _ _ position to.free)

pub index_mut-requires : goal.index_mut-requires
index_mut-requires c =
    let to = c.free_position-position.ensures in
    let within = taken_low _ _ c.free_position-position.result c.number.result c.number.ensures.value to.free in
    omega (arith, within)

pub invariant_of-self : goal.invariant_of-self
invariant_of-self c =
    let a = c.self.inside in
    let kept = a.kept.items in
    let entries = a.ids.entries in
    let sound = c.self.invariant.cyclics_kept in
    let may = rw (← c.self.view_is) at c.requires in
    let came = c.insert.ensures in
    let (k, gap, is) = came.entries in
    let position = c.free_position-position.result in
    let to = c.free_position-position.ensures in
    let more = c.free_position-position.new.kept.items in
    let number = c.number.result in
    let at = c.number.ensures.value in
    let entry : Entry = record { id = c.args.id; index = position } in
    let new : Kept = record { id = c.args.id; sent = 0; lost = 0; count = 0; index = c.args.index; here = true } in
    let absent = absent_index kept entries c.args.id may.2 in
    let free = sym (ap kept_id (to.same position)) ∙ first_free _ _ position to.free in
    let within = taken_low _ _ position number at to.free in
    let made = level_admit (shown_core a) _ c.args.id c.args.index (read_as c.args.id position new)
    (finds_admitted kept more entries c.insert.new.self.entries sound to.same c.args.id position number at new absent free
    came.told within refl) refl in
    sound_by a _ (Admit c.args.id c.args.index) c.self.invariant may made
    (admitted_kept kept more entries c.insert.new.self.entries sound to.same c.args.id position number at new absent free
    came.told within refl
    (subst (Rises id_in) (sym is) (rises_inserted id_in entries c.args.id k gap sound.ordered entry refl)))
    (taken_free more _ number position at new to.free refl within)
    (omega (arith, to.kept_room)) (omega (arith, to.free_room)) (omega (arith, came.room)) (omega arith) (omega arith)
    (sym (length_refill a.hints.len a.hints.items _ a.hints.ok.0) ∙ a.hints.ok.0 ∙ c.self.invariant.hints_long)

pub returns : goal.returns
returns c =
    let a = c.self.inside in
    let kept = a.kept.items in
    let entries = a.ids.entries in
    let sound = c.self.invariant.cyclics_kept in
    let may = rw (← c.self.view_is) at c.requires in
    let came = c.insert.ensures in
    let position = c.free_position-position.result in
    let to = c.free_position-position.ensures in
    let more = c.free_position-position.new.kept.items in
    let number = c.number.result in
    let at = c.number.ensures.value in
    let new : Kept = record { id = c.args.id; sent = 0; lost = 0; count = 0; index = c.args.index; here = true } in
    let absent = absent_index kept entries c.args.id may.2 in
    let free = sym (ap kept_id (to.same position)) ∙ first_free _ _ position to.free in
    let within = taken_low _ _ position number at to.free in
    rw (← c.self.view_is) (level_admit (shown_core a) _ c.args.id c.args.index (read_as c.args.id position new)
    (finds_admitted kept more entries c.insert.new.self.entries sound to.same c.args.id position number at new absent free
    came.told within refl) refl)
