use Rattle.std.proofs.Common.{ℕ, subst, refl, to_z-of_z, to_z, of_z, w64, ℤ}
use Rattle.cyc_cpu.specs.Soft.{raise_tables}
use Rattle.cyc_border.specs.Border.{CallsAdd, add_numbers}
use Rattle.cyclic_c.specs.OutParameters.{LeavesNumber, number_out}
use Rattle.cyclic_c.proofs.Passing.{through}
use Rattle.cyclic_c.proofs.exports.added.Goals as goal

abbrev read : ℤ → ℤ
read z = to_z w64 (of_z w64 z)

pub returns-clause-done : goal.returns-clause-done
returns-clause-done c =
    let answer = c.add-answer.result in let old = c.lend-open.result.now.hard in let new = c.add-answer.new.cpu in
    let id = c.args.id in let level = c.args.level in
    let start = c.args.start in let interval = c.args.interval in let now = c.args.now in
    through _ _ _ _ _ _ c.lend-open.ensures.value refl (
      answer,
      c.number_of_answer.ensures,
      subst (λ (k : ℕ). LeavesNumber k (number_out c.written.result)) c.named_in.ensures c.written.ensures.number,
      (
        subst (λ (z : ℤ). CallsAdd raise_tables (add_numbers id level start interval z) answer old new) (to_z-of_z c.ranges.now)
            (subst (λ (z : ℤ). CallsAdd raise_tables (add_numbers id level start z (read now)) answer old new)
            (to_z-of_z c.ranges.interval)
            (subst (λ (z : ℤ). CallsAdd raise_tables (add_numbers id level z (read interval) (read now)) answer old new)
            (to_z-of_z c.ranges.start) c.add-answer.ensures)),
        refl,
      ),
    )
