use Rattle.std.proofs.Common.{subst, refl, to_z-of_z, ℤ}
use Rattle.cyc_cpu.specs.Soft.{raise_tables}
use Rattle.cyc_border.specs.Border.{CallsReprogram}
use Rattle.cyclic_c.proofs.Passing.{through}
use Rattle.cyclic_c.proofs.exports.cyclic_reprogram.Goals as goal

pub returns : goal.returns
returns c =
    let answer = c.reprogram-answer.result in
    through _ _ _ _ _ _ c.lend-open.ensures.value refl (
      answer,
      c.number_of_answer.ensures,
      (
        subst (λ (z : ℤ). CallsReprogram raise_tables c.args.id z answer c.lend-open.result.now.hard c.reprogram-answer.new.cpu)
            (to_z-of_z c.ranges.moment) c.reprogram-answer.ensures,
        refl,
      ),
    )
