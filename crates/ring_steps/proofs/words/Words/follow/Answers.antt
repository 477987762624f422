use Rattle.std.proofs.Common.{ℕ, ◌∙◌, sym, arith}
use mathlib.Core.Option.{none}
use Rattle.atomic_table.specs.Table.{step}
use Rattle.ring_rule.specs.declared.Setting.{Setting}
use Rattle.ring_rule.specs.Words.{soft_word}
use Rattle.ring_rule.specs.Steps.{ThisSeat, TellsFollow}
use Rattle.ring_steps.proofs.Telling.{under}
use Rattle.ring_steps.proofs.words.Words.follow.Goals as goal

pub store-requires : goal.store-requires
store-requires g c = let words = c.args.self.now in let side = c.args.side.now in let me : ThisSeat = side.seat.me in
    let k : Setting = g.J.Served.setting in let n : ℕ = words.table.shared.table_id.slots in let wide = words.wide in
    let w : ℕ = soft_word in
    let v : ℕ = c.args.bank in
    let same = c.requires.own.1 ∙ sym words.key in (
      c.requires.own.0,
      omega (arith, wide),
      under same (λ _. v) (λ _. TellsFollow (step n w v 0 none) me v)
          (c.soft_steps.ensures.follow k n side.seat.id me
          v c.requires.empty.0 side.role c.requires.bank.0 c.requires.bank.1 c.requires.empty.1 c.requires.empty.2).1,
    )
