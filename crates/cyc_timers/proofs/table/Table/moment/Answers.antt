use Rattle.std.proofs.Common.{◌≡◌, ℕ, sym, ap, ◌∙◌, subst, Some, None, get_or}
use Rattle.std.specs.Option.{option_map}
use Rattle.cyc_heap.specs.Heap.{pair_of}
use Rattle.cyc_timers.specs.Rows.{Row, TableView, IsRow, moment_in}
use Rattle.cyc_timers.proofs.Tables.{standing}
use Rattle.cyc_timers.proofs.table.Table.moment.Goals as goal

nothing : (p : ℕ × ℕ) → None ≡ Some p → ⊥
nothing p e = cc

first_same : (a b : ℕ × ℕ) → Some a ≡ Some b → a.0 ≡ b.0
first_same a b e = let same : a ≡ b = cc in ap (λ (p : ℕ × ℕ). p.0) same

pub unreachable-requires : goal.unreachable-requires
unreachable-requires c =
    let (k, r, is, at) = c.requires in let slots = c.self.inside.heap.slots in
    let s = standing slots c.self.inside.records.items c.self.inside.finder.entries k r c.self.invariant.0
    (subst (λ (v : TableView). IsRow v.rows k r) (sym c.self.view_is) is) in
    let same : s.p.index ≡ c.args.index = ap (λ (x : Row). x.index) (sym s.row) ∙ at in
    let holds = ap (λ n. get_or slots n None) (sym same) ∙ s.holds in
    nothing (s.m, s.p.id) (sym c.in-None.is ∙ c.at.ensures ∙ ap (option_map pair_of) holds)

pub returns : goal.returns
returns c k r is at =
    let slots = c.self.inside.heap.slots in
    let s = standing slots c.self.inside.records.items c.self.inside.finder.entries k r c.self.invariant.0
    (subst (λ (v : TableView). IsRow v.rows k r) (sym c.self.view_is) is) in
    let same : s.p.index ≡ c.args.index = ap (λ (x : Row). x.index) (sym s.row) ∙ at in
    let holds = ap (λ n. get_or slots n None) (sym same) ∙ s.holds in
    first_same _ (s.m, s.p.id) (sym c.in-Some.is ∙ c.at.ensures ∙ ap (option_map pair_of) holds)
    ∙ sym (ap (λ (x : Row). x.timer.moment) s.row ∙ ap moment_in s.holds)
