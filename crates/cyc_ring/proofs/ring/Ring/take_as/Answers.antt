use Rattle.std.proofs.Common.{rules, ◌≡◌, ℕ, ◌%◌, List, [], ◌∷◌, ◌++◌, refl, sym, ap, ◌∙◌, subst, arith}
use Rattle.std.specs.Prelude.{Some, None}
use Rattle.ring_rule.specs.declared.SeatView.{SeatView}
use Rattle.ring_rule.specs.declared.Setting.{Setting}
use Rattle.ring_rule.specs.declared.DrainStep.{DrainStep}
use Rattle.ring_rule.specs.declared.DrainStep.TheVariants.{LoadedHardBank, LoadedProducer, Took, Followed}
use Rattle.ring_rule.specs.Steps.{ThisSeat}
use Rattle.ring_steps.specs.Sides.{MakesDrainStep}
use Rattle.cyc_ring.proofs.Calls.{no_drain, one_drain, drain_call}
use Rattle.cyc_types.specs.Draining.{Takes}
use Rattle.ring_rule.specs.Words.{index_range, entry_id}
use Rattle.ring_rule.specs.Trail.{held_entry, soft_bank_of, consumer_index}
use Rattle.cyc_ring.proofs.ring.Ring.take_as.Goals as goal

pub returns-then-end-drain_seat-clause-call : goal.returns-then-end-drain_seat-clause-call
returns-then-end-drain_seat-clause-call g c = let d = c.loop-drain_seat.drain_seat in let inv = c.loop-drain_seat.invariant in
    let k = c.args.self.now.setting in let v : SeatView = c.args.drain_seat.now.side.seat.me.0 in
    let t : List DrainStep = v.drain_trail in
    let bank : ℕ = c.load_hard_bank-bank.result in let end : ℕ = c.load_producer-end.result in let e : ℕ = c.take_entry.result in
    let before = inv.2.0 in let run = inv.2.2 in
    let next_is : d.next ≡ consumer_index k.start (before ++ t) % index_range = d.next_is
    ∙ (λ z. consumer_index ((inv.0.1 z).start) (run.gained z) % index_range) in
    let run1 = one_drain k (LoadedHardBank bank) v before d.side.seat c.load_hard_bank-bank.new.side.seat run
    (subst (λ (x : Setting). MakesDrainStep x (LoadedHardBank bank) d.side.seat c.load_hard_bank-bank.new.side.seat)
    c.requires.named c.load_hard_bank-bank.ensures.step) in
    let run2 = one_drain k (LoadedProducer end) v (LoadedHardBank bank ∷ before) c.load_hard_bank-bank.new.side.seat
    c.load_producer-end.new.side.seat run1 (subst
    (λ (x : Setting). MakesDrainStep x (LoadedProducer end) c.load_hard_bank-bank.new.side.seat
    c.load_producer-end.new.side.seat) c.requires.named c.load_producer-end.ensures) in
    let run3 = one_drain k (Took e) v (LoadedProducer end ∷ LoadedHardBank bank ∷ before) c.load_producer-end.new.side.seat
    c.take_entry.new.drain_seat.side.seat run2 (subst
    (λ (x : Setting). MakesDrainStep x (Took e) c.load_producer-end.new.side.seat c.take_entry.new.drain_seat.side.seat)
    c.requires.named c.take_entry.ensures.step) in
    drain_call k v c.take_entry.new.drain_seat.side.seat (Took e ∷ LoadedProducer end ∷ LoadedHardBank bank ∷ before)
    (Takes (Some (entry_id e))) run3 (
      before,
      inv.2.1,
      (bank, end, e, (λ x. c.if-end-drain_seat.true (x ∙ sym next_is)), refl, refl),
      (let n = inv.2.3 in let b = d.bank_is.1 in omega (arith, n, b)),
    )

pub returns-then-bank-drain_seat-clause-call : goal.returns-then-bank-drain_seat-clause-call
returns-then-bank-drain_seat-clause-call g c = let d = c.loop-drain_seat.drain_seat in let inv = c.loop-drain_seat.invariant in
    let k = c.args.self.now.setting in let v : SeatView = c.args.drain_seat.now.side.seat.me.0 in
    let t : List DrainStep = v.drain_trail in
    let bank : ℕ = c.load_hard_bank-bank.result in let end : ℕ = c.load_producer-end.result in let before = inv.2.0 in let run =
    inv.2.2 in
    let next_is : d.next ≡ consumer_index k.start (before ++ t) % index_range = d.next_is
    ∙ (λ z. consumer_index ((inv.0.1 z).start) (run.gained z) % index_range) in
    let run1 = one_drain k (LoadedHardBank bank) v before d.side.seat c.load_hard_bank-bank.new.side.seat run
    (subst (λ (x : Setting). MakesDrainStep x (LoadedHardBank bank) d.side.seat c.load_hard_bank-bank.new.side.seat)
    c.requires.named c.load_hard_bank-bank.ensures.step) in
    let run2 = one_drain k (LoadedProducer end) v (LoadedHardBank bank ∷ before) c.load_hard_bank-bank.new.side.seat
    c.load_producer-end.new.side.seat run1 (subst
    (λ (x : Setting). MakesDrainStep x (LoadedProducer end) c.load_hard_bank-bank.new.side.seat
    c.load_producer-end.new.side.seat) c.requires.named c.load_producer-end.ensures) in
    drain_call k v c.load_producer-end.new.side.seat (LoadedProducer end ∷ LoadedHardBank bank ∷ before) (Takes None) run2 (
      before,
      inv.2.1,
      (
        bank,
        end,
        (let test = c.if-bank-drain_seat.true in let looked : bank ≡ d.bank = omega (arith, test) in
            looked) ∙ (d.bank_is.0 ∙ ap soft_bank_of run.gained),
        (let h : end ≡ d.next = search rules in h ∙ next_is),
        refl,
      ),
      (let n = inv.2.3 in let b = d.bank_is.1 in omega (arith, n, b)),
    )

pub loop-drain_seat-preserved : goal.loop-drain_seat-preserved
loop-drain_seat-preserved g c = let d = c.loop-drain_seat.drain_seat in let inv = c.loop-drain_seat.invariant in let k =
    c.args.self.now.setting in let v : SeatView = c.args.drain_seat.now.side.seat.me.0 in
    let t : List DrainStep = v.drain_trail in
    let bank : ℕ = c.load_hard_bank-bank.result in let end : ℕ = c.load_producer-end.result in let before = inv.2.0 in let run =
    inv.2.2 in
    let next_is : d.next ≡ consumer_index k.start (before ++ t) % index_range = d.next_is
    ∙ (λ z. consumer_index ((inv.0.1 z).start) (run.gained z) % index_range) in
    let run1 = one_drain k (LoadedHardBank bank) v before d.side.seat c.load_hard_bank-bank.new.side.seat run
    (subst (λ (x : Setting). MakesDrainStep x (LoadedHardBank bank) d.side.seat c.load_hard_bank-bank.new.side.seat)
    c.requires.named c.load_hard_bank-bank.ensures.step) in
    let run2 = one_drain k (LoadedProducer end) v (LoadedHardBank bank ∷ before) c.load_hard_bank-bank.new.side.seat
    c.load_producer-end.new.side.seat run1 (subst
    (λ (x : Setting). MakesDrainStep x (LoadedProducer end) c.load_hard_bank-bank.new.side.seat
    c.load_producer-end.new.side.seat) c.requires.named c.load_producer-end.ensures) in
    let run3 = one_drain k (Followed bank) v (LoadedProducer end ∷ LoadedHardBank bank ∷ before) c.load_producer-end.new.side.seat
    c.follow.new.side.seat run2 (subst (λ (x : Setting). MakesDrainStep x
    (Followed bank) c.load_producer-end.new.side.seat c.follow.new.side.seat) c.requires.named c.follow.ensures) in
    let e1 = c.load_hard_bank-bank.ensures.step in let e2 = c.load_producer-end.ensures in let e3 = c.follow.ensures in (
      (e3.0 ∙ (e2.0 ∙ (e1.0 ∙ inv.0.0)), inv.0.1),
      ap (λ (m : ThisSeat). held_entry m.0.drain_trail) e3.1.1
          ∙ (ap (λ (m : ThisSeat). held_entry m.0.drain_trail) e2.1.1
          ∙ (ap (λ (m : ThisSeat). held_entry m.0.drain_trail) e1.1.1 ∙ inv.1)),
      (
        Followed bank ∷ LoadedProducer end ∷ LoadedHardBank bank ∷ before,
        (
          refl,
          (λ x. let test = c.if-bank-drain_seat.false in let same : bank ≡ d.bank = x
              ∙ (ap soft_bank_of (sym run.gained) ∙ sym d.bank_is.0) in omega (arith, test, same)),
          (let h : end ≡ d.next = search rules in h ∙ next_is),
          inv.2.1,
        ),
        run3,
        (let n = inv.2.3 in let b = d.bank_is.0 in let low = c.load_hard_bank-bank.ensures.bound.0 in let test =
            c.if-bank-drain_seat.false in omega (arith, n, b, low, test)),
      ),
    )

pub loop-drain_seat-init : goal.loop-drain_seat-init
loop-drain_seat-init g c = let d = c.args.drain_seat.now in
    (c.requires.own, c.requires.hand, ([], tt, no_drain c.args.self.now.setting d.side.seat d.side.role, omega arith))
