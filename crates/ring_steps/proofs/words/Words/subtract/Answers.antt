use Rattle.std.proofs.Common.{ℕ, ◌∙◌, sym, arith, ap, ◌+◌, ◌-◌, ◌%◌, ◌^◌}
use mathlib.Core.Option.{none}
use Rattle.atomic_table.specs.Table.{step}
use Rattle.ring_rule.specs.declared.Setting.{Setting}
use Rattle.ring_rule.specs.Words.{pend_word}
use Rattle.ring_rule.specs.Steps.{ThisSeat, TellsSubtract}
use Rattle.ring_steps.proofs.Telling.{under}
use Rattle.ring_steps.proofs.words.Words.subtract.Goals as goal

pub fetch_sub-requires : goal.fetch_sub-requires
fetch_sub-requires g c = let words = c.args.self.now in let side = c.args.side.now in let me : ThisSeat = side.seat.me in
    let k : Setting = g.J.Served.setting in let n : ℕ = words.table.shared.table_id.slots in let wide = words.wide in
    let w : ℕ = c.pend_at.result in let at = c.pend_at.ensures in let low = at.1 in
    let same = c.requires.own.1 ∙ sym words.key in (
      c.requires.own.0,
      omega (arith, wide, low),
      under same (λ m. (m + (2 ^ 64 - 1)) % 2 ^ 64) (TellsSubtract (step n w 1 0 none) me)
          (c.soft_steps.ensures.subtract k n side.seat.id me c.requires.hand.0 side.role c.requires.hand.1
          w (at.0 ∙ ap pend_word c.requires.hand.2)).1,
    )
