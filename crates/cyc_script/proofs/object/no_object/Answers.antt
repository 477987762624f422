use Rattle.std.proofs.Common.{◌≡◌, Some, refl, arith}
use Rattle.cyc_script.proofs.Objects.{first_object}
use Rattle.cyc_script.proofs.object.no_object.Goals as goal

pub returns : goal.returns
returns c =
    let ceiling : c.new.result ≡ Some 4294967295 = grind arith in
    first_object _ refl refl ceiling refl
