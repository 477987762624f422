use Rattle.std.proofs.Common.{ℕ, ◌∙◌, sym, arith, ap, ◌+◌, ◌%◌, ◌^◌}
use mathlib.Core.Option.{none}
use Rattle.atomic_table.specs.Table.{step}
use Rattle.ring_rule.specs.declared.Setting.{Setting}
use Rattle.ring_rule.specs.Words.{pend_word}
use Rattle.ring_rule.specs.Steps.{ThisSeat, TellsMark}
use Rattle.ring_steps.proofs.Telling.{under}
use Rattle.ring_steps.proofs.words.Words.mark.Goals as goal

pub fetch_add-requires : goal.fetch_add-requires
fetch_add-requires g c = let words = c.args.self.now in let side = c.args.side.now in let me : ThisSeat = side.seat.me in
    let k : Setting = g.J.Served.setting in let n : ℕ = words.table.shared.table_id.slots in let wide = words.wide in
    let id : ℕ = g.J.Served.id in let w : ℕ = c.pend_at.result in let at = c.pend_at.ensures in let low = at.1 in
    let stay = c.requires.stay.1 in
    let same = c.requires.own.1 ∙ sym words.key in (
      c.requires.own.0,
      omega (arith, wide, low),
      under same (λ n. (n + 2 ^ 32) % 2 ^ 64) (TellsMark id (step n w (2 ^ 32) 0 none) me)
          (c.firing_steps.ensures.mark k n side.seat.id me w id stay.0 side.role stay.1 (at.0 ∙ ap pend_word (sym stay.2))
          c.requires.unmarked c.requires.hand).1,
    )
