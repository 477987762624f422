use Rattle.std.proofs.Common.{◌≡◌, ◌-◌, length, None, false, true, refl, arith}
use Rattle.std.specs.Prelude.{is_some}
use Rattle.json.specs.Json.{after_end_array}
use Rattle.cyc_script.specs.Tokens.{ReadsStep}
use Rattle.cyc_script.proofs.Grammar.{shorter}
use Rattle.cyc_script.proofs.Taken.{end_taken, few_more, keeps_step, refused_steps, step_taken, taken_whole, takes_one}
use Rattle.cyc_script.proofs.tokens.take_steps.Goals as goal

pub loop-alloc-init : goal.loop-alloc-init
loop-alloc-init c = rw (c.requires.no_steps, c.requires.no_names) (
  length c.args.reader.now,
  omega arith,
  refl,
  omega arith,
  record { few_names = omega arith; introduced = refl; names = refl; clock = refl; moments = refl },
)

pub loop-alloc-smaller : goal.loop-alloc-smaller
loop-alloc-smaller c =
    let l = c.loop-alloc in
    let going : (after_end_array l.reader ≡ None) × (c.take_end_array.new.self ≡ l.reader) = grind arith in
    let none : is_some c.in_ok-refusal.refusal ≡ false = grind arith in
    let is : ReadsStep l.reader c.next_step.new.reader l.steps.items c.next_step.new.steps.items l.context
    c.next_step.new.context = rw (← going.1) (takes_one c.in_ok-refusal.refusal _ _ none c.in_ok-refusal.ensures.value) in
    let less = shorter 125 l.reader c.next_step.new.reader is.written is.begins in
    omega (arith, less)

pub loop-alloc-preserved : goal.loop-alloc-preserved
loop-alloc-preserved c =
    let l = c.loop-alloc in
    let n = l.invariant.0 in
    let steps = l.steps.items in
    let longer = c.next_step.new.steps.items in
    let after = c.next_step.new.context in
    let going : (after_end_array l.reader ≡ None) × (c.take_end_array.new.self ≡ l.reader) = grind arith in
    let none : is_some c.in_ok-refusal.refusal ≡ false = grind arith in
    let is : ReadsStep l.reader c.next_step.new.reader steps longer l.context after =
    rw (← going.1) (takes_one c.in_ok-refusal.refusal _ _ none c.in_ok-refusal.ensures.value) in
    let less = shorter 125 l.reader c.next_step.new.reader is.written is.begins in (
      n - 1,
      omega (arith, l.invariant.1, less),
      step_taken _ l.reader c.next_step.new.reader n steps longer l.context after l.invariant.1 going.0 is l.invariant.2,
      few_more _ _ steps longer l.context after is,
      keeps_step _ _ steps longer l.context after is l.invariant.4,
    )

pub returns-then-is_some-clause-value : goal.returns-then-is_some-clause-value
returns-then-is_some-clause-value c =
    let l = c.loop-alloc in
    let going : (after_end_array l.reader ≡ None) × (c.take_end_array.new.self ≡ l.reader) = grind arith in
    let some : is_some c.in_ok-refusal.refusal ≡ true = grind arith in
    refused_steps c.args.reader.now c.next_step.new.reader l.invariant.0 c.take_end_array.new.self l.steps.items l.context
    c.in_ok-refusal.refusal _ _ _ (rw going.1 l.invariant.1) (rw going.1 l.invariant.2) some c.in_ok-refusal.ensures.value

pub returns-clause-value : goal.returns-clause-value
returns-clause-value c =
    let l = c.loop-alloc in
    end_taken c.args.reader.now l.reader c.take_end_array.new.self l.invariant.0 l.steps.items l.context
    l.invariant.1 (grind arith) l.invariant.3 l.invariant.2

pub returns-clause-whole : goal.returns-clause-whole
returns-clause-whole c =
    let l = c.loop-alloc in
    taken_whole l.steps.items l.context l.invariant.3 l.invariant.4
