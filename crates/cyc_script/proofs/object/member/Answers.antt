use Rattle.std.proofs.Common.{refl, ap, ◌∙◌}
use Rattle.cyc_types.specs.Limits.{most_cpus}
use Rattle.cyc_script.specs.Script.{number_between}
use Rattle.cyc_script.proofs.Objects.{ceiling_put, cpus_put, other_put}
use Rattle.cyc_script.proofs.Plain.{plain_between}
use Rattle.cyc_script.proofs.object.member.Goals as goal

pub returns-in_ok-next_part-in-cpus-clause-value : goal.returns-in_ok-next_part-in-cpus-clause-value
returns-in_ok-next_part-in-cpus-clause-value c =
    let has = c.in_ok-next_part-in-cpus.ensures in
    let cpus = c.number_between-object.ensures ∙ ap (number_between 1 most_cpus) has.2 ∙ plain_between 1 most_cpus has.0 in
    rw c.in-cpus.is (has.0, has.1, λ ms known. cpus_put c.args.object.now _ ms has.0 known refl cpus refl refl)

pub returns-in_ok-next_part-in-ceiling-clause-value : goal.returns-in_ok-next_part-in-ceiling-clause-value
returns-in_ok-next_part-in-ceiling-clause-value c =
    let has = c.in_ok-next_part-in-ceiling.ensures in
    let ceiling = c.ceiling_in-object.ensures ∙ ap (number_between 1 4294967295) has.2 ∙ plain_between 1 4294967295 has.0 in
    rw c.in-ceiling.is (has.0, has.1, λ ms known. ceiling_put c.args.object.now _ ms has.0 known refl refl ceiling refl)

pub returns-in_ok-pass_value-in_default-clause-value : goal.returns-in_ok-pass_value-in_default-clause-value
returns-in_ok-pass_value-in_default-clause-value c =
    let has = c.in_ok-pass_value-in_default.ensures in
    let d = c.in_default in (
      has.0,
      has.1,
      λ ms known.
          other_put c.args.object.now _ ms has.0 known c.args.key.now d.not-cpus d.not-ceiling d.not-steps refl refl refl refl,
    )
