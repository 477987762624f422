use Rattle.std.proofs.Common.{ℕ, ◌∙◌, sym, arith}
use mathlib.Core.Option.{none}
use Rattle.atomic_table.specs.Table.{step}
use Rattle.ring_rule.specs.declared.Setting.{Setting}
use Rattle.ring_rule.specs.Trail.{soft_bank_of, consumer_index}
use Rattle.ring_rule.specs.Steps.{ThisSeat, TellsTake}
use Rattle.ring_steps.proofs.Telling.{under}
use Rattle.ring_steps.proofs.Masks.{mask_low}
use Rattle.ring_steps.proofs.words.Words.take.Goals as goal

pub buffer_at-requires : goal.buffer_at-requires
buffer_at-requires g c = mask_low _ _ c.requires.bank.0 c.requires.bank.1

pub load-requires : goal.load-requires
load-requires g c = let words = c.args.self.now in let side = c.args.side.now in let me : ThisSeat = side.seat.me in
    let k : Setting = g.J.Served.setting in let n : ℕ = words.table.shared.table_id.slots in let wide = words.wide in
    let w : ℕ = c.buffer_at.result in
    let at = c.buffer_at.ensures (soft_bank_of me.0.drain_trail) (consumer_index k.start me.0.drain_trail)
    c.requires.bank.0 c.requires.bank.1 c.requires.next in let low = at.1 in
    let same = c.requires.own.1 ∙ sym words.key in (
      c.requires.own.0,
      omega (arith, wide, low),
      under same (λ n. n) (TellsTake (step n w 0 0 none) me)
          (c.soft_steps.ensures.take k n side.seat.id me c.requires.more.0 side.role c.requires.hand c.requires.more.1
          (λ e. c.requires.more.2 (e ∙ sym c.requires.next)) w at.0).1,
    )
