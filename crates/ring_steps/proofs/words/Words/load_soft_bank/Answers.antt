use Rattle.std.proofs.Common.{ℕ, ◌∙◌, sym, arith}
use mathlib.Core.Option.{none}
use Rattle.atomic_table.specs.Table.{step}
use Rattle.ring_rule.specs.declared.Setting.{Setting}
use Rattle.ring_rule.specs.Words.{soft_word}
use Rattle.ring_rule.specs.Steps.{ThisSeat, TellsLoadSoftBank}
use Rattle.ring_steps.proofs.Telling.{under}
use Rattle.ring_steps.proofs.words.Words.load_soft_bank.Goals as goal

pub load-requires : goal.load-requires
load-requires g c = let words = c.args.self.now in let side = c.args.side.now in let me : ThisSeat = side.seat.me in
    let k : Setting = g.J.Served.setting in let n : ℕ = words.table.shared.table_id.slots in let wide = words.wide in
    let w : ℕ = soft_word in
    let same = c.requires.own.1 ∙ sym words.key in (
      c.requires.own.0,
      omega (arith, wide),
      under same (λ n. n) (TellsLoadSoftBank (step n w 0 0 none) me)
          (c.firing_steps.ensures.load_soft_bank k n side.seat.id me side.role).1,
    )
