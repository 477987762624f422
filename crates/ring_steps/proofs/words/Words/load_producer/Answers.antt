use Rattle.std.proofs.Common.{ℕ, ◌∙◌, sym, arith, ap}
use mathlib.Core.Option.{none}
use Rattle.atomic_table.specs.Table.{step}
use Rattle.ring_rule.specs.declared.Setting.{Setting}
use Rattle.ring_rule.specs.Words.{producer_word}
use Rattle.ring_rule.specs.Steps.{ThisSeat, TellsLoadProducer}
use Rattle.ring_steps.proofs.Telling.{under}
use Rattle.ring_steps.proofs.words.Words.load_producer.Goals as goal

pub load-requires : goal.load-requires
load-requires g c = let words = c.args.self.now in let side = c.args.side.now in let me : ThisSeat = side.seat.me in
    let k : Setting = g.J.Served.setting in let n : ℕ = words.table.shared.table_id.slots in let wide = words.wide in
    let w : ℕ = producer_word c.args.bank in let low = c.requires.bank.1 in
    let same = c.requires.own.1 ∙ sym words.key in (
      c.requires.own.0,
      omega (arith, wide, low),
      under same (λ n. n) (TellsLoadProducer (step n w 0 0 none) me)
          (c.soft_steps.ensures.load_producer k n side.seat.id me side.role w (ap producer_word c.requires.bank.0)).1,
    )
