use Rattle.std.proofs.Common.{◌<◌, ◌+◌, ap, arith, refl}
use Rattle.cyc_level.specs.declared.Event.TheVariants.{Expire}
use Rattle.cyc_level.specs.Level.{AdmittedCyclic}
use Rattle.cyc_level.specs.Events.{most_sent}
use Rattle.cyc_core.specs.declared.admitted.Kept.{Kept}
use Rattle.cyc_core.specs.Shown.{shown_core, read_as}
use Rattle.cyc_core.proofs.Keeping.{position_low, read_there, counts_read, counted, counted_kept, read_expired}
use Rattle.cyc_core.proofs.Free.{counted_free}
use Rattle.cyc_core.proofs.Changes.{found_fact, level_expire, sound_by}
use Rattle.cyc_core.proofs.level_core.LevelCore.expire.Goals as goal

pub index_mut-kept-requires : goal.index_mut-kept-requires
index_mut-kept-requires c =
    let a = c.self.inside in
    let kept = a.kept.items in
    let entries = a.ids.entries in
    let here = rw (← c.self.view_is) at c.requires.here in
    let low = position_low kept entries c.self.invariant.cyclics_kept c.args.entry c.number.result c.number.ensures.value here in
    omega (arith, low)

pub overflow_add-kept : goal.overflow_add-kept
overflow_add-kept c =
    let t = shown_core c.self.inside in
    let may = rw (← c.self.view_is) at c.requires.enabled in
    let here = rw (← c.self.view_is) at c.requires.here in
    let fact = found_fact t c.args.entry.id c.args.entry here (λ (x : AdmittedCyclic). (x.count < t.ceiling)
    × (x.sent < most_sent)) may.2 in
    omega (arith, fact)

pub overflow_add-kept-2 : goal.overflow_add-kept-2
overflow_add-kept-2 c =
    let t = shown_core c.self.inside in
    let may = rw (← c.self.view_is) at c.requires.enabled in
    let here = rw (← c.self.view_is) at c.requires.here in
    let fact = found_fact t c.args.entry.id c.args.entry here (λ (x : AdmittedCyclic). (x.count < t.ceiling)
    × (x.sent < most_sent)) may.2 in
    omega (arith, fact)

pub invariant_of-self : goal.invariant_of-self
invariant_of-self c =
    let a = c.self.inside in
    let kept = a.kept.items in
    let entries = a.ids.entries in
    let sound = c.self.invariant.cyclics_kept in
    let entry = c.args.entry in
    let number = c.number.result in
    let is = c.number.ensures.value in
    let may = rw (← c.self.view_is) at c.requires.enabled in
    let here = rw (← c.self.view_is) at c.requires.here in
    let read = c.index_mut-kept.result.now in
    let new : Kept = record read { sent = entry.sent + 1; count = entry.count + 1 } in
    let same = counts_read kept entries sound entry number is here read c.index_mut-kept.ensures.value in
    let made = read_expired entry read entry.id entry.position same in
    sound_by a _ (Expire entry.id) c.self.invariant may
    (level_expire (shown_core a) _ entry.id entry (read_as entry.id entry.position new) here
    (counted kept entries sound entry number is here read c.index_mut-kept.ensures.value new refl refl) _ made
    c.then_some-self-inside.ensures may.0)
    (counted_kept kept entries sound entry number is here read c.index_mut-kept.ensures.value new refl refl)
    (counted_free kept a.free.items number number refl new c.self.invariant.positions_free
    (position_low kept entries sound entry number is here)
    (ap (λ (k : Kept). k.here) (read_there kept entries sound entry number is here read c.index_mut-kept.ensures.value)))
    (omega arith) (omega arith) (omega arith) (omega arith) (omega arith) c.self.invariant.hints_long

pub returns : goal.returns
returns c =
    let a = c.self.inside in
    let kept = a.kept.items in
    let entries = a.ids.entries in
    let sound = c.self.invariant.cyclics_kept in
    let entry = c.args.entry in
    let number = c.number.result in
    let is = c.number.ensures.value in
    let may = rw (← c.self.view_is) at c.requires.enabled in
    let here = rw (← c.self.view_is) at c.requires.here in
    let read = c.index_mut-kept.result.now in
    let new : Kept = record read { sent = entry.sent + 1; count = entry.count + 1 } in
    let same = counts_read kept entries sound entry number is here read c.index_mut-kept.ensures.value in
    let made = read_expired entry read entry.id entry.position same in
    rw (← c.self.view_is) (level_expire (shown_core a) _ entry.id entry (read_as entry.id entry.position new) here
    (counted kept entries sound entry number is here read c.index_mut-kept.ensures.value new refl refl) _ made
    c.then_some-self-inside.ensures may.0)
