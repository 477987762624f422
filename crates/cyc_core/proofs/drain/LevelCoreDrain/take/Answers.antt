use Rattle.std.proofs.Common.{◌≡◌, ◌≢◌, ℕ, [], ap, refl, sym, ◌∙◌}
use Rattle.cyc_level.specs.Level.{SoftLevel, soft_list}
use Rattle.cyc_core.specs.Tables.{Tables, level_of}
use Rattle.cyc_core.specs.DrainingSide.{done_of}
use Rattle.cyc_core.proofs.DrainingLaws.{Looked, Followed, Stayed, took_none, took_first, looked_hand, old_listed, tested_empty}
use Rattle.cyc_core.proofs.DrainingLaws.{tested_some}
use Rattle.cyc_core.proofs.drain.LevelCoreDrain.take.Goals as goal
use Rattle.cyc_core.proofs.drain.LevelCoreDrain.take.Goals.{then-self+else-not-is_empty, else-self}

pub returns-then-not-is_empty-clause-made : goal.returns-then-not-is_empty-clause-made
returns-then-not-is_empty-clause-made c = λ q. ap (λ (m : SoftLevel). done_of m q) c.take_first.ensures

pub returns-then-not-is_empty-clause-step : goal.returns-then-not-is_empty-clause-step
returns-then-not-is_empty-clause-step c =
    let l = level_of c.args.self.now in
    let hard : c.self.inside.hard_bank ≡ l.hard_bank = ap (λ (t : Tables). t.hard_bank) c.self.view_is in
    let soft : c.self.inside.soft_bank ≡ l.soft_bank = ap (λ (t : Tables). t.soft_bank) c.self.view_is in
    let old : c.self.inside.old_list.items ≡ l.old_list = ap (λ (t : Tables). t.old_list) c.self.view_is in
    let some : l.old_list ≢ [] = λ e.
    tested_some _ _ _ c.self.inside.old_list.ok.0 c.is_empty.ensures c.if-not-is_empty.true (old ∙ e) in
    let apart : l.hard_bank ≢ l.soft_bank = λ e. c.if-self.true (hard ∙ e ∙ sym soft) in
    let looked : Looked l l = Stayed (λ e. absurd (some e)) refl in (
      took_first l l _ looked c.requires (old_listed l apart some) c.take_first.ensures,
      ap (λ (t : Tables). t.drainer_hand) c.self-then-not-is_empty.view_is,
    )

pub returns-then-is_soft_list_empty-clause-made : goal.returns-then-is_soft_list_empty-clause-made
returns-then-is_soft_list_empty-clause-made c =
    let followed : (q : ℕ) → done_of (level_of c.if-self.self) q ≡ done_of (level_of c.args.self.now) q =
    λ q. elim c.if-self.branch [
      | then-self+else-not-is_empty w ↦ ap (λ (t : Tables). done_of (level_of t) q) w.self-is
          ∙ ap (λ (m : SoftLevel). done_of m q) w.follow.ensures
      | else-self w ↦ ap (λ (t : Tables). done_of (level_of t) q) w.self-is
    ] in
    followed

pub returns-clause-made : goal.returns-clause-made
returns-clause-made c =
    let followed : (q : ℕ) → done_of (level_of c.if-self.self) q ≡ done_of (level_of c.args.self.now) q =
    λ q. elim c.if-self.branch [
      | then-self+else-not-is_empty w ↦ ap (λ (t : Tables). done_of (level_of t) q) w.self-is
          ∙ ap (λ (m : SoftLevel). done_of m q) w.follow.ensures
      | else-self w ↦ ap (λ (t : Tables). done_of (level_of t) q) w.self-is
    ] in
    λ q. ap (λ (m : SoftLevel). done_of m q) c.take_first-2.ensures ∙ followed q

pub returns-then-is_soft_list_empty-clause-step : goal.returns-then-is_soft_list_empty-clause-step
returns-then-is_soft_list_empty-clause-step c =
    let l = level_of c.args.self.now in
    let m = level_of c.if-self.self in
    let hard : c.self.inside.hard_bank ≡ l.hard_bank = ap (λ (t : Tables). t.hard_bank) c.self.view_is in
    let soft : c.self.inside.soft_bank ≡ l.soft_bank = ap (λ (t : Tables). t.soft_bank) c.self.view_is in
    let old : c.self.inside.old_list.items ≡ l.old_list = ap (λ (t : Tables). t.old_list) c.self.view_is in
    let looked : Looked l m = elim c.if-self.branch [
      | then-self+else-not-is_empty w ↦ Followed (
        λ e. w.if-self.true (hard ∙ e ∙ sym soft),
        sym old
            ∙ tested_empty _ _ _ c.self.inside.old_list.ok.0 w.is_empty.ensures w.if-not-is_empty.false,
      )
          (ap level_of w.self-is ∙ w.follow.ensures)
      | else-self w ↦ Stayed (λ _. sym hard ∙ w.if-self.false ∙ soft) (ap level_of w.self-is)
    ] in
    let none = c.is_soft_list_empty.ensures.0 c.if-is_soft_list_empty.true in
    (took_none l m looked none, looked_hand l m looked c.requires)

pub returns-clause-step : goal.returns-clause-step
returns-clause-step c =
    let l = level_of c.args.self.now in
    let m = level_of c.if-self.self in
    let hard : c.self.inside.hard_bank ≡ l.hard_bank = ap (λ (t : Tables). t.hard_bank) c.self.view_is in
    let soft : c.self.inside.soft_bank ≡ l.soft_bank = ap (λ (t : Tables). t.soft_bank) c.self.view_is in
    let old : c.self.inside.old_list.items ≡ l.old_list = ap (λ (t : Tables). t.old_list) c.self.view_is in
    let looked : Looked l m = elim c.if-self.branch [
      | then-self+else-not-is_empty w ↦ Followed (
        λ e. w.if-self.true (hard ∙ e ∙ sym soft),
        sym old
            ∙ tested_empty _ _ _ c.self.inside.old_list.ok.0 w.is_empty.ensures w.if-not-is_empty.false,
      )
          (ap level_of w.self-is ∙ w.follow.ensures)
      | else-self w ↦ Stayed (λ _. sym hard ∙ w.if-self.false ∙ soft) (ap level_of w.self-is)
    ] in
    let some : soft_list m ≢ [] = λ e. let wrong = c.is_soft_list_empty.ensures.1 e in let test = c.if-is_soft_list_empty.false in
    let no : ⊥ = cc in no in
    (took_first l m _ looked c.requires some c.take_first-2.ensures, ap (λ (t : Tables). t.drainer_hand) c.self-2.view_is)
