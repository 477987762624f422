use Rattle.std.proofs.Common.{ℕ, ◌∙◌, sym, arith, ap, refl, ◌≡◌}
use mathlib.Core.Option.{none}
use Rattle.std.specs.Prelude.{Option, Some, None, IsSome}
use Rattle.atomic_table.specs.Table.{step}
use Rattle.ring_rule.specs.declared.Setting.{Setting}
use Rattle.ring_rule.specs.Words.{producer_word}
use Rattle.ring_rule.specs.Trail.{stored_entry}
use Rattle.ring_rule.specs.Steps.{ThisSeat, TellsPublish}
use Rattle.ring_steps.proofs.Telling.{under}
use Rattle.ring_steps.proofs.words.Words.publish.Goals as goal

some_entry : (o : Option ℕ) → IsSome o → (e : ℕ) × (o ≡ Some e)
some_entry None h = absurd (cc)
some_entry (Some e) h = (e, refl)

pub store-requires : goal.store-requires
store-requires g c = let words = c.args.self.now in let side = c.args.side.now in let me : ThisSeat = side.seat.me in
    let k : Setting = g.J.Served.setting in let n : ℕ = words.table.shared.table_id.slots in let wide = words.wide in
    let id : ℕ = g.J.Served.id in let w : ℕ = producer_word c.args.bank in let low = c.requires.bank.1 in
    let stored = some_entry (stored_entry me.0.raise_trail) c.requires.stored in
    let v : ℕ = c.args.next in
    let same = c.requires.own.1 ∙ sym words.key in (
      c.requires.own.0,
      omega (arith, wide, low),
      under same (λ _. v) (λ _. TellsPublish (step n w v 0 none) me v)
          (c.firing_steps.ensures.publish k n side.seat.id me id stored.0 side.role c.requires.hand stored.1
          w (ap producer_word c.requires.bank.0) v c.requires.next).1,
    )
