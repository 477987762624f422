use Rattle.std.proofs.Common.{◌≡◌, refl, sym, ap, ◌∙◌, subst, arith, length, length-set, option_map, None, get_or, IsSome}
use Rattle.std.proofs.Math.ListN.{set}
use Rattle.cyc_types.specs.Expirations.{Expiration}
use Rattle.cyc_heap.specs.Heap.{slots_moved, expiration_moved as at_moment_of}
use Rattle.cyc_timers.specs.Rows.{Row, TableView, IsRow, at_moment}
use Rattle.cyc_timers.proofs.Tables.{standing, replaced, table_replaced}
use Rattle.cyc_timers.proofs.table.Table.reprogram.Goals as goal

pub replace_of-requires : goal.replace_of-requires
replace_of-requires c =
    let (k, r, is, named, at) = c.requires.here in let slots = c.self.inside.heap.slots in
    let s = standing slots c.self.inside.records.items c.self.inside.finder.entries k r c.self.invariant.0
    (subst (λ (v : TableView). IsRow v.rows k r) (sym c.self.view_is) is) in
    let same : s.p.index ≡ c.args.index = ap (λ (x : Row). x.index) (sym s.row) ∙ at in
    let e : Expiration = record { moment = s.m; id = s.p.id } in
    (e, ap (λ n. get_or slots n None) (sym same) ∙ s.holds, ap (λ (x : Row). x.timer.id) (sym s.row) ∙ named)

pub invariant_of-self : goal.invariant_of-self
invariant_of-self c =
    let (k, r, is, named, at) = c.requires.here in let slots = c.self.inside.heap.slots in let m = c.args.moment in
    let records = c.self.inside.records.items in let entries = c.self.inside.finder.entries in
    let t = c.self.invariant.0 in
    let s = standing slots records entries k r t (subst (λ (v : TableView). IsRow v.rows k r) (sym c.self.view_is) is) in
    let same : s.p.index ≡ c.args.index = ap (λ (x : Row). x.index) (sym s.row) ∙ at in
    let room = c.replace_of.ensures.room in let caps = c.self.invariant in (
      table_replaced slots c.replace_of.new.self.slots records entries k r s m t c.requires.moment
          (c.replace_of.ensures.slots ∙ ap (λ n. slots_moved slots n m) (sym same)),
      omega (arith, room, caps),
      omega (arith, room, caps),
      (let l = ap length c.replace_of.ensures.slots in
          let n = length-set slots c.args.index (option_map (at_moment_of m) (get_or slots c.args.index None)) in
          omega (arith, room, caps, l, n)),
    )

pub returns-clause-rows : goal.returns-clause-rows
returns-clause-rows c k r is at =
    let slots = c.self.inside.heap.slots in let m = c.args.moment in
    let records = c.self.inside.records.items in let entries = c.self.inside.finder.entries in
    let t = c.self.invariant.0 in
    let s = standing slots records entries k r t (subst (λ (v : TableView). IsRow v.rows k r) (sym c.self.view_is) is) in
    let same : s.p.index ≡ c.args.index = ap (λ (x : Row). x.index) (sym s.row) ∙ at in
    replaced slots c.replace_of.new.self.slots records entries k r s m t
    (c.replace_of.ensures.slots ∙ ap (λ n. slots_moved slots n m) (sym same))
    ∙ ap (λ (v : TableView). set v.rows k (at_moment m r)) c.self.view_is
