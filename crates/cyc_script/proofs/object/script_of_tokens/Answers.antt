use Rattle.std.proofs.Common.{◌≡◌, ◌∷◌, [], Some, inr, ap, ◌∙◌, arith}
use Rattle.json.specs.Reads.{token_of}
use Rattle.json.specs.Json.{value}
use Rattle.serde_json.specs.Read.{of_json, converted}
use Rattle.cyc_script.specs.Script.{parsed}
use Rattle.cyc_script.specs.Tokens.{content_in, data_in, ended, object_in}
use Rattle.cyc_script.proofs.Begun.{kind_of, not_object}
use Rattle.cyc_script.proofs.Grammar.{nothing_read, object_read}
use Rattle.cyc_script.proofs.Objects.{shape_of}
use Rattle.cyc_script.proofs.object.script_of_tokens.Goals as goal

pub returns-in_default : goal.returns-in_default
returns-in_default c =
    let empty : c.args.reader.now ≡ [] = grind arith in
    let none = ap ended (ap (λ ts. converted of_json (value 127 ts)) empty ∙ nothing_read 127) in
    inr (ap (λ d. content_in (parsed d)) none)

pub returns-in-BeginObject : goal.returns-in-BeginObject
returns-in-BeginObject c =
    let r = c.next.new.self in
    let first : c.args.reader.now ≡ token_of c.in-Some.token ∷ r = grind arith in
    let is = first ∙ ap (λ k. token_of k ∷ r) c.in-BeginObject.is in
    let same : data_in c.args.reader.now ≡ object_in r =
    ap ended (ap (λ ts. converted of_json (value 127 ts)) is ∙ object_read 127 r (omega arith)) in
    rw same c.script_in.ensures

pub returns-in-Ok : goal.returns-in-Ok
returns-in-Ok c =
    let t = c.in-Some.token in
    let r = c.next.new.self in
    let is : c.args.reader.now ≡ token_of t ∷ r = grind arith in
    let has = c.in-Ok.ensures.value in
    let shape = shape_of has.0 (not_object t has.0 c.in_default-token.not-BeginObject (kind_of t 127 r [] has.0 has.1)) in
    let same : data_in c.args.reader.now ≡ Some has.0 =
    ap ended (ap (λ ts. converted of_json (value 127 ts)) is ∙ has.1) in
    inr (ap (λ d. content_in (parsed d)) same ∙ shape)
