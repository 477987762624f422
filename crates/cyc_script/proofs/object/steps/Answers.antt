use Rattle.std.proofs.Common.{rules, ◌≡◌, ◌∷◌, [], None, Err, refl, ap, ◌∙◌, arith}
use Rattle.json.specs.Json.{value}
use Rattle.json.specs.Reads.{token_of}
use Rattle.serde_json.specs.Data.{array}
use Rattle.serde_json.specs.Read.{of_json, converted}
use Rattle.cyc_script.specs.declared.stop.Stop.TheVariants as Stop
use Rattle.cyc_script.specs.Tokens.{HasValue}
use Rattle.cyc_script.proofs.Begun.{kind_of, not_array}
use Rattle.cyc_script.proofs.Grammar.{array_none, array_read, nothing_read}
use Rattle.cyc_script.proofs.Objects.{no_steps_put, steps_put}
use Rattle.cyc_script.proofs.Taken.{denied_more}
use Rattle.cyc_script.proofs.object.steps.Goals as goal

pub returns-in_err-token-clause-denied : goal.returns-in_err-token-clause-denied
returns-in_err-token-clause-denied c =
    let empty : c.args.reader.now ≡ [] = grind arith in
    let none : converted of_json (value 126 c.args.reader.now) ≡ None = rw empty (nothing_read 126) in
    let same : c.from_residual.result ≡ Err Stop.NoJson = search rules in
    rw same none

pub returns-in_err-object-in-BeginArray-clause-denied : goal.returns-in_err-object-in-BeginArray-clause-denied
returns-in_err-object-in-BeginArray-clause-denied c =
    let r = c.next.new.self in
    let first : c.args.reader.now ≡ token_of c.in_ok-token.token ∷ r = grind arith in
    let is = first ∙ ap (λ k. token_of k ∷ r) c.in-BeginArray.is in
    let fault = c.in_err-object-in-BeginArray in
    let same : c.from_residual-in_err-object-in-BeginArray.result ≡ Err fault.field-0.0 = search rules in
    let told = denied_more _ _
    (λ none. ap (λ ts. converted of_json (value 126 ts)) is ∙ array_none 126 r (omega arith) none) fault.field-0.0
    fault.ensures.denied in
    rw same told

pub returns-in_ok-object-in-BeginArray-clause-value : goal.returns-in_ok-object-in-BeginArray-clause-value
returns-in_ok-object-in-BeginArray-clause-value c =
    let r = c.next.new.self in
    let first : c.args.reader.now ≡ token_of c.in_ok-token.token ∷ r = grind arith in
    let is = first ∙ ap (λ k. token_of k ∷ r) c.in-BeginArray.is in
    let done = c.in_ok-object-in-BeginArray.ensures in
    let has = done.value in (
      array has.0,
      ap (λ ts. converted of_json (value 126 ts)) is ∙ array_read 126 r c.take_steps.new.reader has.0 (omega arith) has.1,
      λ ms known. steps_put c.args.object.now _ ms (array has.0) known refl refl refl has.2 done.whole,
    )

pub returns-in_ok-pass_from-in_default : goal.returns-in_ok-pass_from-in_default
returns-in_ok-pass_from-in_default c =
    let t = c.in_ok-token.token in
    let r = c.next.new.self in
    let is : c.args.reader.now ≡ token_of t ∷ r = grind arith in
    let has : HasValue 126 (token_of t ∷ r) c.pass_from.new.reader = c.in_ok-pass_from-in_default.ensures in
    let kind = kind_of t 126 r c.pass_from.new.reader has.0 has.1 in
    let none = not_array t has.0 c.in_default.not-BeginArray kind in
    record {
      value = (
        has.0,
        rw is has.1,
        λ ms known. no_steps_put c.args.object.now _ ms has.0 known none refl refl refl refl,
      );
      denied = tt;
    }
