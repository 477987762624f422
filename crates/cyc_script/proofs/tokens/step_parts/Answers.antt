use Rattle.std.proofs.Common.{rules, ◌≡◌, ◌∷◌, [], length, None, Err, ap, sym, subst, ◌∙◌, arith}
use Rattle.json.specs.Json.{value, items}
use Rattle.json.specs.Reads.{token_of}
use Rattle.serde_json.specs.Data.{array}
use Rattle.serde_json.specs.Read.{of_json, of_items, converted}
use Rattle.cyc_script.specs.declared.stop.Stop.TheVariants as Stop
use Rattle.cyc_script.specs.Tokens.{HasItemsOf, HasValue, ReadsAs}
use Rattle.cyc_script.proofs.Begun.{kind_of, not_array}
use Rattle.cyc_script.proofs.Grammar.{array_read, array_none, nothing_read}
use Rattle.cyc_script.proofs.Plain.{reads_as_none}
use Rattle.cyc_script.proofs.Taken.{if_denied, if_done}
use Rattle.cyc_script.proofs.tokens.step_parts.Goals as goal

pub returns-in_err-token-clause-denied : goal.returns-in_err-token-clause-denied
returns-in_err-token-clause-denied c =
    let empty : c.args.reader.now ≡ [] = grind arith in
    let none : converted of_json (value 125 c.args.reader.now) ≡ None = rw empty (nothing_read 125) in
    let same : c.from_residual.result ≡ Err Stop.NoJson = search rules in
    rw same none

pub returns-in-BeginArray-clause-value : goal.returns-in-BeginArray-clause-value
returns-in-BeginArray-clause-value c =
    let r = c.next.new.self in
    let rest = c.read_parts.new.reader in
    let first : c.args.reader.now ≡ token_of c.in_ok-token.token ∷ r = grind arith in
    let is = first ∙ ap (λ k. token_of k ∷ r) c.in-BeginArray.is in
    if_done c.read_parts.result (HasItemsOf 124 r c.read_parts.new.parts.items rest) _
    (λ has. (
      array has.0,
      ap (λ ts. converted of_json (value 125 ts)) is ∙ array_read 125 r rest has.0 (omega arith) has.1,
      has.2,
    ))
    c.read_parts.ensures.value

pub returns-in-BeginArray-clause-denied : goal.returns-in-BeginArray-clause-denied
returns-in-BeginArray-clause-denied c =
    let r = c.next.new.self in
    let first : c.args.reader.now ≡ token_of c.in_ok-token.token ∷ r = grind arith in
    let is = first ∙ ap (λ k. token_of k ∷ r) c.in-BeginArray.is in
    if_denied c.read_parts.result (converted of_items (items (value 124) (length r) r) ≡ None) _
    (λ none. ap (λ ts. converted of_json (value 125 ts)) is ∙ array_none 125 r (omega arith) none)
    c.read_parts.ensures.denied

pub returns-in_ok-pass_from-in_default : goal.returns-in_ok-pass_from-in_default
returns-in_ok-pass_from-in_default c =
    let t = c.in_ok-token.token in
    let r = c.next.new.self in
    let is : c.args.reader.now ≡ token_of t ∷ r = grind arith in
    let has : HasValue 125 (token_of t ∷ r) c.pass_from.new.reader = c.in_ok-pass_from-in_default.ensures in
    let kind = kind_of t 125 r c.pass_from.new.reader has.0 has.1 in
    let none = not_array t has.0 c.in_default.not-BeginArray kind in
    record {
      value = (has.0, rw is has.1, subst (ReadsAs has.0) (sym c.clear.ensures.items) (reads_as_none has.0 none));
      denied = tt;
    }
