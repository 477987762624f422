use Rattle.std.proofs.Common.{rules, ◌≡◌, ◌+◌, ◌-◌, ◌<◌, length, Err, ap, subst, ◌∙◌, arith}
use Rattle.cyc_script.specs.declared.cause.Cause.TheVariants as cause
use Rattle.cyc_script.specs.declared.stop.Stop.TheVariants as Stop
use Rattle.cyc_script.specs.Answers.{Fails, refusal_of_step}
use Rattle.cyc_script.specs.Limits.{most_steps}
use Rattle.cyc_script.specs.Steps.{step_of}
use Rattle.cyc_script.specs.Tokens.{step_data}
use Rattle.json.specs.Json.{value}
use Rattle.cyc_script.proofs.Grammar.{item_none}
use Rattle.cyc_script.proofs.Taken.{denied_more, fault_refused, many_refused, none_behind}
use Rattle.cyc_script.proofs.tokens.next_step.Goals as goal

pub returns-in_err-step_parts-clause-denied : goal.returns-in_err-step_parts-clause-denied
returns-in_err-step_parts-clause-denied c =
    let same : c.from_residual.result ≡ Err c.in_err-step_parts.field-0.0 = search rules in
    let told = denied_more _ _ (λ none n enough. item_none (value 125) n c.args.reader.now c.requires.going none)
    c.in_err-step_parts.field-0.0 c.in_err-step_parts.ensures.denied in
    rw same told

pub returns-in_err-refused_here-clause-denied : goal.returns-in_err-refused_here-clause-denied
returns-in_err-refused_here-clause-denied c =
    let has = c.in_ok-step_parts.ensures.value in
    let none = none_behind c.args.steps.now.items c.args.context.now has.0 c.args.reader.now c.step_parts.new.reader
    c.requires.going has.1 c.in_err-refused_here.ensures in
    let same : c.from_residual-in_err-refused_here.result ≡ Err Stop.NoJson = search rules in
    rw same none

pub returns-then-len-eq-MOST_STEPS-clause-value : goal.returns-then-len-eq-MOST_STEPS-clause-value
returns-then-len-eq-MOST_STEPS-clause-value c =
    let steps = c.args.steps.now.items in
    let has = c.in_ok-step_parts.ensures.value in
    let full : length steps ≡ most_steps = grind arith in
    many_refused steps c.args.context.now has.0 c.args.reader.now c.step_parts.new.reader c.requires.going has.1 full _ _
    c.in_ok-refused_here.ensures

pub returns-in_err-refusal-in-Err : goal.returns-in_err-refusal-in-Err
returns-in_err-refusal-in-Err c =
    let has = c.in_ok-step_parts.ensures.value in
    let none = none_behind c.args.steps.now.items c.args.context.now has.0 c.args.reader.now c.step_parts.new.reader
    c.requires.going has.1 c.in_err-refusal-in-Err.ensures in
    let same : c.from_residual-in_err-refusal-in-Err.result ≡ Err Stop.NoJson = search rules in
    rw same (record { value = tt; denied = none })

pub returns-in-Err : goal.returns-in-Err
returns-in-Err c =
    let steps = c.args.steps.now.items in
    let before = c.args.context.now in
    let has = c.in_ok-step_parts.ensures.value in
    let fails : Fails cause.Memory c.in-Err.cause (step_of before (step_data c.step_parts.new.parts.items)) =
    rw (← c.as_slice.ensures.value) c.in-Err.ensures.reads in
    let position : c.len-number.result ≡ length steps = grind arith in
    let some : length steps < most_steps = grind arith in
    let at = c.at.ensures ∙ ap (λ k. refusal_of_step (k + 1) c.in-Err.cause) position in
    let left : most_steps - (c.len-number.result + 1) ≡ most_steps - (length steps + 1) = omega (arith, position) in
    record {
      value = fault_refused steps before has.0 c.args.reader.now c.step_parts.new.reader c.requires.going has.1 some _ left
          c.in-Err.cause c.at.result at (subst (Fails cause.Memory c.in-Err.cause) (has.2 before) fails) _ _
          c.in_ok-refusal-in-Err.ensures;
      denied = tt;
    }
