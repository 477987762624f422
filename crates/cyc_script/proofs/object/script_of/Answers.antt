use Rattle.std.proofs.Common.{rules, length, string_bytes, inr, ap, sym, subst, ◌∙◌}
use Rattle.std.proofs.lemmas.List.{length-map}
use Rattle.cyc_script.specs.Names.{AreNames}
use Rattle.cyc_script.specs.WellFormed.{IsWellFormed}
use Rattle.cyc_script.proofs.Naming.{names_of_steps}
use Rattle.cyc_script.proofs.Objects.{cpus_range, script_made, steps_read, steps_refused, steps_whole, unknown, without_ceiling}
use Rattle.cyc_script.proofs.Objects.{without_cpus}
use Rattle.cyc_script.proofs.object.script_of.Goals as goal

pub returns-then-not-known : goal.returns-then-not-known
returns-then-not-known c = λ ms is. inr (unknown _ ms is (search rules))

pub returns-in_default : goal.returns-in_default
returns-in_default c = λ ms is. inr (without_cpus _ ms is (search rules) (search rules))

pub returns-in_default-ceiling : goal.returns-in_default-ceiling
returns-in_default-ceiling c = λ ms is. inr (without_ceiling _ ms is c.in-Some.cpus (search rules) (search rules) (search rules))

pub returns-in-Some-refusal : goal.returns-in-Some-refusal
returns-in-Some-refusal c = λ ms is. steps_refused _ ms is c.in-Some.cpus c.in-Some-ceiling.ceiling (search rules) (search rules)
    (search rules) c.in-Some-refusal.refusal (search rules)

pub invariant_of-result : goal.invariant_of-result
invariant_of-result c =
    let ms = c.requires.0 in
    let is = c.requires.1 in
    let read = steps_read _ ms is (search rules) in
    let names = c.into_texts.ensures in
    record {
      cpus_in_range = cpus_range _ ms is c.in-Some.cpus (search rules);
      names_distinct = subst AreNames (sym names) (names_of_steps _ _ _ read.1);
      well_formed = subst (IsWellFormed c.args.object.steps.items)
          (ap length (sym names) ∙ length-map c.into_texts.result.items string_bytes) (steps_whole _ ms is (search rules));
    }

pub returns : goal.returns
returns c = λ ms is.
    script_made _ ms is c.in-Some.cpus c.in-Some-ceiling.ceiling (search rules) (search rules) (search rules) (search rules)
    ∙ search rules
