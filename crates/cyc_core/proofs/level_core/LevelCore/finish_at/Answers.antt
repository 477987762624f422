use Rattle.std.proofs.Common.{◌≡◌, ℕ, cond, true, false, ap, rules, sym, ◌∙◌, Some}
use Rattle.std.specs.Prelude.{is_some}
use Rattle.cyc_types.specs.Draining.{Finishes}
use Rattle.cyc_types.specs.declared.draining.Finished.TheVariants.{More, Last, LastOfRemoval}
use Rattle.cyc_core.specs.Tables.{Tables, level_of}
use Rattle.cyc_core.specs.DrainingSide.{is_marked, Drains}
use Rattle.cyc_core.proofs.DrainingLaws.{made_one, finish_more, finish_last, holds_is, marked_is, marked_not}
use Rattle.cyc_core.proofs.level_core.LevelCore.finish_at.Goals as goal

pub returns-then-is_some-clause-step : goal.returns-then-is_some-clause-step
returns-then-is_some-clause-step c =
    let l = level_of c.args.self.now in
    let m = level_of c.finish_call.new.self in
    let law = c.entry_at-entry.ensures.lawful in
    let id = c.args.id in
    let holds : l.drainer_hand ≡ Some id = c.requires.hand in
    let hand : is_some m.drainer_hand ≡ true = ap (λ (t : Tables). is_some t.drainer_hand) (sym c.self.view_is)
    ∙ sym c.is_some.ensures ∙ c.if-is_some.true in
    holds_is l.drainer_hand id (λ (i : ℕ). Drains l (Finishes i More) m) holds (
      holds,
      (ap is_some holds, c.finish_call.ensures),
      finish_more l law id holds m c.finish_call.ensures hand
          (is_marked m.marked id),
    )

pub returns-then-is_some-clause-made : goal.returns-then-is_some-clause-made
returns-then-is_some-clause-made c =
    let l = level_of c.args.self.now in
    let m = level_of c.finish_call.new.self in
    let law = c.entry_at-entry.ensures.lawful in
    let id = c.args.id in
    let holds : l.drainer_hand ≡ Some id = c.requires.hand in
    made_one l law id holds m c.finish_call.ensures

pub returns-then-eq-clause-step : goal.returns-then-eq-clause-step
returns-then-eq-clause-step c =
    let l = level_of c.args.self.now in
    let m = level_of c.finish_call.new.self in
    let law = c.entry_at-entry.ensures.lawful in
    let id = c.args.id in
    let holds : l.drainer_hand ≡ Some id = c.requires.hand in
    let hand : is_some m.drainer_hand ≡ false = ap (λ (t : Tables). is_some t.drainer_hand) (sym c.self.view_is)
    ∙ sym c.is_some.ensures ∙ c.if-is_some.false in
    let marked : is_marked m.marked id ≡ true = marked_is m.marked id (search rules) in
    holds_is l.drainer_hand id (λ (i : ℕ). Drains l (Finishes i LastOfRemoval) m) holds (
      holds,
      (ap is_some holds, c.finish_call.ensures),
      sym (ap (λ b. cond b LastOfRemoval Last) marked)
          ∙ finish_last l law id holds m c.finish_call.ensures hand (is_marked m.marked id),
    )

pub returns-then-eq-clause-made : goal.returns-then-eq-clause-made
returns-then-eq-clause-made c =
    let l = level_of c.args.self.now in
    let m = level_of c.finish_call.new.self in
    let law = c.entry_at-entry.ensures.lawful in
    let id = c.args.id in
    let holds : l.drainer_hand ≡ Some id = c.requires.hand in
    made_one l law id holds m c.finish_call.ensures

pub returns-clause-step : goal.returns-clause-step
returns-clause-step c =
    let l = level_of c.args.self.now in
    let m = level_of c.finish_call.new.self in
    let law = c.entry_at-entry.ensures.lawful in
    let id = c.args.id in
    let holds : l.drainer_hand ≡ Some id = c.requires.hand in
    let hand : is_some m.drainer_hand ≡ false = ap (λ (t : Tables). is_some t.drainer_hand) (sym c.self.view_is)
    ∙ sym c.is_some.ensures ∙ c.if-is_some.false in
    let marked : is_marked m.marked id ≡ false = marked_not m.marked id (search rules) in
    holds_is l.drainer_hand id (λ (i : ℕ). Drains l (Finishes i Last) m) holds (
      holds,
      (ap is_some holds, c.finish_call.ensures),
      sym (ap (λ b. cond b LastOfRemoval Last) marked)
          ∙ finish_last l law id holds m c.finish_call.ensures hand (is_marked m.marked id),
    )

pub returns-clause-made : goal.returns-clause-made
returns-clause-made c =
    let l = level_of c.args.self.now in
    let m = level_of c.finish_call.new.self in
    let law = c.entry_at-entry.ensures.lawful in
    let id = c.args.id in
    let holds : l.drainer_hand ≡ Some id = c.requires.hand in
    made_one l law id holds m c.finish_call.ensures
