-- The lists have room for all that can stand in them.
use Rattle.std.proofs.Common.{◌≡◌, ℕ, ◌<◌, ◌≤◌, length, Some, arith, pow_mono}
use Rattle.cyc_types.specs.Limits.{cyclics, greatest_bank}
use Rattle.cyc_level.specs.Level.{bank_size}
use Rattle.cyc_level.specs.Lawful.{Lawful}
use Rattle.cyc_level.proofs.Room.{new_fits}
use Rattle.cyc_core.specs.Tables.{Tables, level_of}

-- the new list with the firer's hand is shorter than all that can be admitted
pub publish_room : (t : Tables) → Lawful (level_of t) → (id : ℕ) → t.firer_hand ≡ Some id → length t.new_list < cyclics
publish_room t law id holds =
    let fits = new_fits (level_of t) law id holds in
    let most : bank_size t.hard_bank ≤ cyclics = pow_mono {i = t.hard_bank} {j = greatest_bank} law.bank_bound in
    omega (arith, fits, most)
