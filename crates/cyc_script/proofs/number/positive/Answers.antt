use Rattle.std.proofs.Common.{rules, ◌≡◌, ◌^◌, false, Some, refl, arith}
use Rattle.std.specs.Prelude.{nat_lt}
use Rattle.std.proofs.lemmas.Bool.Decides.{nat_tests}
use Rattle.serde_json.specs.Data.{unsigned}
use Rattle.serde_json.specs.Read.{number_from}
use Rattle.cyc_script.proofs.number.positive.Goals as goal

pub returns-in-Some-2 : goal.returns-in-Some-2
returns-in-Some-2 c =
    let n = c.in-Some-2.field-0 in
    let great : nat_lt n (2 ^ 63) ≡ false = grind (arith, nat_tests) in
    let read : number_from false c.args.numeral.now ≡ Some (unsigned n) = search rules in
    (unsigned n, read, rw great refl)
