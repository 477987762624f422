use Rattle.std.proofs.Common.{ℕ, ◌∙◌, sym, arith}
use mathlib.Core.Option.{none}
use Rattle.atomic_table.specs.Table.{step}
use Rattle.ring_rule.specs.declared.Setting.{Setting}
use Rattle.ring_rule.specs.Steps.{ThisSeat, TellsAdmit}
use Rattle.ring_steps.proofs.Telling.{under}
use Rattle.ring_steps.proofs.words.Words.admit.Goals as goal

pub load-requires : goal.load-requires
load-requires g c = let words = c.args.self.now in let side = c.args.side.now in let me : ThisSeat = side.seat.me in
    let k : Setting = g.J.Served.setting in let n : ℕ = words.table.shared.table_id.slots in let wide = words.wide in
    let id : ℕ = g.J.Served.id in let w : ℕ = c.pend_at.result in let at = c.pend_at.ensures in let low = at.1 in
    let same = c.requires.own.1 ∙ sym words.key in (
      c.requires.own.0,
      omega (arith, wide, low),
      under same (λ n. n) (TellsAdmit id (step n w 0 0 none) me)
          (c.firing_steps.ensures.admit k n side.seat.id me
          c.args.index id side.role c.requires.id.1 c.requires.index.2 c.requires.hand c.requires.index.1
          c.requires.index.0 c.requires.id.0 w at.0).1,
    )
