use Rattle.std.proofs.Common.{◌≡◌, ◌≤◌, [], ap, subst, sym, ◌∙◌}
use Rattle.cyc_types.specs.Limits.{cyclics}
use Rattle.cyc_level.specs.declared.Event.TheVariants.{Switch}
use Rattle.cyc_core.specs.Tables.{level_of}
use Rattle.cyc_core.specs.Shown.{shown_core}
use Rattle.std.specs.VecDeque.{deque_capacity}
use Rattle.cyc_core.proofs.Changes.{level_switch, sound_roomy, reached_lawful}
use Rattle.cyc_core.proofs.level_core.LevelCore.switch_to.Goals as goal

pub invariant_of-self : goal.invariant_of-self
invariant_of-self c =
    let t = shown_core c.self.inside in
    let may = rw (← c.self.view_is) at c.requires in
    let old : c.swap.new.x.items ≡ t.new_list = ap (λ d. d.items) c.swap.ensures.x_after in
    let new : c.swap.new.y.items ≡ [] = ap (λ d. d.items) c.swap.ensures.y_after
    ∙ (reached_lawful (level_of t) c.self.invariant.reached).old_empty may.1 in
    let old_room : cyclics ≤ deque_capacity c.swap.new.x =
    subst (λ d. cyclics ≤ deque_capacity d) (sym c.swap.ensures.x_after) c.self.invariant.new_room in
    let new_room : cyclics ≤ deque_capacity c.swap.new.y =
    subst (λ d. cyclics ≤ deque_capacity d) (sym c.swap.ensures.y_after) c.self.invariant.old_room in
    sound_roomy c.self.inside _ (Switch c.args.bank) c.self.invariant may
    (level_switch t c.args.bank _ _ old new) c.self.invariant.cyclics_kept c.self.invariant.positions_free
    c.self.invariant.kept_room c.self.invariant.free_room c.self.invariant.ids_room old_room new_room
    c.self.invariant.hints_long

pub returns : goal.returns
returns c =
    let t = shown_core c.self.inside in
    let may = rw (← c.self.view_is) at c.requires in
    let old : c.swap.new.x.items ≡ t.new_list = ap (λ d. d.items) c.swap.ensures.x_after in
    let new : c.swap.new.y.items ≡ [] = ap (λ d. d.items) c.swap.ensures.y_after
    ∙ (reached_lawful (level_of t) c.self.invariant.reached).old_empty may.1 in
    rw (← c.self.view_is) (level_switch t c.args.bank _ _ old new)
