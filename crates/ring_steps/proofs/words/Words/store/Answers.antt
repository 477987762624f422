use Rattle.std.proofs.Common.{ℕ, ◌∙◌, sym, arith}
use mathlib.Core.Option.{none}
use Rattle.atomic_table.specs.Table.{step}
use Rattle.ring_rule.specs.declared.Setting.{Setting}
use Rattle.ring_rule.specs.Trail.{hard_bank_of, producer_index}
use Rattle.ring_rule.specs.Steps.{ThisSeat, TellsStore}
use Rattle.ring_steps.proofs.Telling.{under}
use Rattle.ring_steps.proofs.Masks.{mask_low}
use Rattle.ring_steps.proofs.words.Words.store.Goals as goal

pub buffer_at-requires : goal.buffer_at-requires
buffer_at-requires g c = mask_low _ _ c.requires.bank.0 c.requires.bank.1

pub store-requires : goal.store-requires
store-requires g c = let words = c.args.self.now in let side = c.args.side.now in let me : ThisSeat = side.seat.me in
    let k : Setting = g.J.Served.setting in let n : ℕ = words.table.shared.table_id.slots in let wide = words.wide in
    let id : ℕ = g.J.Served.id in let w : ℕ = c.buffer_at.result in
    let at = c.buffer_at.ensures (hard_bank_of me.0.raise_trail) (producer_index k.start me.0.raise_trail)
    c.requires.bank.0 c.requires.bank.1 c.requires.next in let low = at.1 in
    let v : ℕ = c.args.value in
    let same = c.requires.own.1 ∙ sym words.key in (
      c.requires.own.0,
      omega (arith, wide, low),
      under same (λ _. v) (λ _. TellsStore (step n w v 0 none) me v)
          (c.firing_steps.ensures.store k n side.seat.id me id c.requires.value.0 side.role c.requires.hand c.requires.value.1
          w at.0 v c.requires.value.2).1,
    )
