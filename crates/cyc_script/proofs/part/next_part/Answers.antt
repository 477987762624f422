use Rattle.std.proofs.Common.{rules, ◌≡◌, ◌∷◌, [], None, Err, arith}
use Rattle.json.specs.Token.{Token}
use Rattle.json.specs.Json.{value}
use Rattle.json.specs.Reads.{token_of}
use Rattle.serde_json.specs.Read.{of_json, converted}
use Rattle.cyc_script.specs.Tokens.{HasValue}
use Rattle.cyc_script.proofs.Begun.{kind_of, not_plain, number_has_part, text_part}
use Rattle.cyc_script.proofs.Grammar.{nothing_read}
use Rattle.cyc_script.proofs.part.next_part.Goals as goal

pub returns-in_err-token : goal.returns-in_err-token
returns-in_err-token c =
    let empty : c.args.reader.now ≡ [] = grind arith in
    let none : converted of_json (value c.args.depth c.args.reader.now) ≡ None = rw empty (nothing_read c.args.depth) in
    let same : c.from_residual.result ≡ Err c.in_err-token.field-0.0 = search rules in
    rw same none

pub returns-in-String : goal.returns-in-String
returns-in-String c =
    let is : c.args.reader.now ≡ Token.string c.in-String.text.now ∷ c.next.new.self = grind arith in
    rw is (text_part c.args.depth c.in-String.text.now c.next.new.self)

pub returns-in-Number : goal.returns-in-Number
returns-in-Number c =
    let is : c.args.reader.now ≡ Token.number c.in-Number.text.now ∷ c.next.new.self = grind arith in
    rw is (number_has_part c.args.depth c.in-Number.text.now c.next.new.self c.number_part.result c.number_part.ensures)

pub returns-in_err-pass_from-in_default : goal.returns-in_err-pass_from-in_default
returns-in_err-pass_from-in_default c =
    let is : c.args.reader.now ≡ token_of c.in_ok-token.token ∷ c.next.new.self = grind arith in
    let none : converted of_json (value c.args.depth c.args.reader.now) ≡ None = rw is c.in_err-pass_from-in_default.ensures in
    let same : c.from_residual-in_err-pass_from-in_default.result ≡ Err c.in_err-pass_from-in_default.field-0.0 = search rules in
    rw same none

pub returns-in_ok-pass_from-in_default : goal.returns-in_ok-pass_from-in_default
returns-in_ok-pass_from-in_default c =
    let t = c.in_ok-token.token in
    let is : c.args.reader.now ≡ token_of t ∷ c.next.new.self = grind arith in
    let has : HasValue c.args.depth (token_of t ∷ c.next.new.self) c.pass_from.new.reader =
    c.in_ok-pass_from-in_default.ensures in
    let kind = kind_of t c.args.depth c.next.new.self c.pass_from.new.reader has.0 has.1 in
    (has.0, rw is has.1, not_plain t has.0 c.in_default.not-String c.in_default.not-Number kind)
