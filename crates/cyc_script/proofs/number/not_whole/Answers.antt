use Rattle.std.proofs.Common.{◌≡◌, true, refl, arith}
use Rattle.std.specs.Float.{binary64, float_is_finite}
use Rattle.fast_float.specs.Text.{nearest}
use Rattle.serde_json.specs.Data.{float}
use Rattle.cyc_script.proofs.number.not_whole.Goals as goal

pub returns : goal.returns
returns c =
    let x = nearest binary64 c.args.negative c.args.numeral.now in
    let finite : float_is_finite x ≡ true = rw (← c.to_float.ensures) (grind arith) in
    (float x, rw finite refl, refl)
