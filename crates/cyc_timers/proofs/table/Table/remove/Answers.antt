use Rattle.std.proofs.Common.{◌≡◌, refl, sym, ap, ◌∙◌, subst, arith, length, length-set, None, get_or, remove, IsSome}
use Rattle.std.proofs.Math.ListN.{set}
use Rattle.cyc_timers.specs.Rows.{TableView, IsRow, IsTable, rows_of}
use Rattle.cyc_timers.proofs.Tables.{standing, standing_at, entry_here}
use Rattle.cyc_timers.proofs.Finding.{here_index, index_there, one_position}
use Rattle.cyc_timers.proofs.Removing.{fewer_rows, fewer_table}
use Rattle.cyc_timers.proofs.table.Table.remove.Goals as goal

pub remove-index-requires : goal.remove-index-requires
remove-index-requires c = let (k, r, is, named) = c.requires in
    here_index c.self.inside.heap.slots c.self.inside.records.items c.self.inside.finder.entries c.self.invariant.0 c.args.id k r
    (subst (λ (v : TableView). IsRow v.rows k r) (sym c.self.view_is) is) named

pub remove-requires : goal.remove-requires
remove-requires c =
    let slots = c.self.inside.heap.slots in let records = c.self.inside.records.items in
    let entries = c.self.inside.finder.entries in let t = c.self.invariant.0 in
    let (k, at, is) = c.remove-index.ensures.entries in
    let s = standing_at slots records entries k t at.in_range in
    let same = index_there slots records entries t c.args.id c.remove-index.result k _ s at c.remove-index.ensures.index in
    subst IsSome (sym (ap (λ n. get_or slots n None) (sym same) ∙ s.holds)) refl

pub invariant_of-self : goal.invariant_of-self
invariant_of-self c =
    let slots = c.self.inside.heap.slots in let records = c.self.inside.records.items in
    let entries = c.self.inside.finder.entries in let t = c.self.invariant.0 in
    let (k, at, is) = c.remove-index.ensures.entries in
    let s = standing_at slots records entries k t at.in_range in
    let same = index_there slots records entries t c.args.id c.remove-index.result k _ s at c.remove-index.ensures.index in
    let now = c.remove.ensures.slots ∙ ap (λ n. set slots n None) (sym same) in
    let room = c.remove.ensures.room in let kept = c.remove-index.ensures.room in let caps = c.self.invariant in (
      subst (λ xs. IsTable xs records c.remove-index.new.self.entries) (sym now)
          (subst (λ ps. IsTable (set slots s.p.index None) records ps) (sym is) (fewer_table slots records entries k _ s t)),
      omega (arith, room, caps),
      omega (arith, room, caps, kept),
      (let l = ap length c.remove.ensures.slots in let m = length-set slots c.remove-index.result None in
          omega (arith, room, caps, l, m)),
    )

pub returns-clause-rows : goal.returns-clause-rows
returns-clause-rows c k r row named =
    let slots = c.self.inside.heap.slots in let records = c.self.inside.records.items in
    let entries = c.self.inside.finder.entries in let t = c.self.invariant.0 in
    let (q, there, is) = c.remove-index.ensures.entries in
    let row' = subst (λ (v : TableView). IsRow v.rows k r) (sym c.self.view_is) row in
    let at = entry_here slots records entries c.args.id k r t row' named in
    let s = standing slots records entries k r t row' in
    let same = index_there slots records entries t c.args.id c.remove-index.result k r s at c.remove-index.ensures.index in
    let moved : q ≡ k = one_position entries t.rising c.args.id q k there at in
    ap (λ xs. rows_of xs records c.remove-index.new.self.entries) (c.remove.ensures.slots ∙ ap (λ n. set slots n None) (sym same))
    ∙ ap (λ ps. rows_of (set slots s.p.index None) records ps) (is ∙ ap (remove entries) moved)
    ∙ fewer_rows slots records entries k r s t
    ∙ ap (λ (v : TableView). remove v.rows k) c.self.view_is
