use Rattle.std.proofs.Common.{ℕ, ◌∙◌, sym, arith}
use mathlib.Core.Option.{none}
use Rattle.atomic_table.specs.Table.{step}
use Rattle.ring_rule.specs.declared.Setting.{Setting}
use Rattle.ring_rule.specs.Words.{hard_word}
use Rattle.ring_rule.specs.Steps.{ThisSeat, TellsSwitch}
use Rattle.ring_steps.proofs.Telling.{under}
use Rattle.ring_steps.proofs.words.Words.switch.Goals as goal

pub store-requires : goal.store-requires
store-requires g c = let words = c.args.self.now in let side = c.args.side.now in let me : ThisSeat = side.seat.me in
    let k : Setting = g.J.Served.setting in let n : ℕ = words.table.shared.table_id.slots in let wide = words.wide in
    let w : ℕ = hard_word in
    let v : ℕ = c.args.bank in
    let same = c.requires.own.1 ∙ sym words.key in (
      c.requires.own.0,
      omega (arith, wide),
      under same (λ _. v) (λ _. TellsSwitch (step n w v 0 none) me v)
          (c.firing_steps.ensures.switch k n side.seat.id me
          v side.role c.requires.hand c.requires.followed c.requires.bank.0 c.requires.bank.1).1,
    )
