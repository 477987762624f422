use Rattle.std.proofs.Common.{◌≡◌, ℕ, ◌+◌, ◌%◌, ◌<◌, List, get_or, sym, ap, ◌∙◌, subst, arith}
use mathlib.Core.Logic.{dite}
use native.Mathlib.Decide.{ℕ_discrete}
use Rattle.cyc_types.specs.Limits.{cyclics}
use Rattle.ring_rule.specs.declared.RaiseStep.{RaiseStep}
use Rattle.ring_rule.specs.declared.DrainStep.{DrainStep}
use Rattle.ring_rule.specs.declared.Setting.{Setting}
use Rattle.ring_rule.specs.Words.{pend_word, mark_bit}
use Rattle.ring_rule.specs.Trail.{marked_of, made_calls, ended_calls}
use Rattle.ring_rule.specs.Log.{RingStep, raise_side, drain_side, replay}
use Rattle.ring_rule.specs.Conservation.{LevelStands, IsAccounted}
use Rattle.ring_rule.proofs.Truths.{stands_now}
use Rattle.cyc_ring.specs.Rows.{HoldsStays}
use Rattle.cyc_ring.specs.declared.seats.RaiseSeat.{RaiseSeat}
use Rattle.cyc_ring.specs.declared.seats.DrainSeat.{DrainSeat}
use Rattle.cyc_ring.specs.declared.seats.Stays.{Stays}
use Rattle.cyc_ring.proofs.Closing.{Ended, ended, counted_row, finished_row, named_row, marked_row, unmarked_row}
use Rattle.cyc_ring.proofs.ring.Ring.close.Goals as goal

pub invariant_of-result : goal.invariant_of-result
invariant_of-result c = let r = c.args.raise_seat in let d = c.args.drain_seat in let pends : List ℕ = c.close.new.pends in
    let k = c.args.self.setting in
    let C : Ended k pends r.side.seat.me.0 d.side.seat.me.0 =
    ended c.args.self.words.setting k c.args.self.same pends c.join-both.result.seat.me.0 r.side.seat.me.0 d.side.seat.me.0
    c.join-both.ensures.trails c.close.ensures in
    let log : List RingStep = C.0 in let L : LevelStands k log = stands_now k log C.2 in
    let read : (i : ℕ) → i < cyclics → get_or (replay k.start log) (pend_word i) 0 ≡ get_or pends i 0 =
    λ i low. sym (C.3 i low) in
    let known : c.of-known.result.value.side.seat.me.0.raise_trail ≡ raise_side log =
    ap (λ (x : RaiseSeat). x.side.seat.me.0.raise_trail) c.of-known.ensures ∙ C.1.0.0 in
    let done : c.of-done.result.value.side.seat.me.0.drain_trail ≡ drain_side log =
    ap (λ (x : DrainSeat). x.side.seat.me.0.drain_trail) c.of-done.ensures ∙ C.1.1.0 in
    let small : k.ceiling < mark_bit = subst (λ (x : Setting). x.ceiling < mark_bit) c.requires.raise_seat.1 r.ranges.1 in
    let st : Stays = c.deref_mut.result.now in
    let ids : List ℕ = st.ids in let sent : List ℕ = st.sent in let lost : List ℕ = st.lost in
    let rows : HoldsStays ids sent lost (raise_side log) =
    subst (λ (p : Stays × List RaiseStep). HoldsStays p.0.ids p.0.sent p.0.lost p.1)
    (λ z. (sym c.deref_mut.ensures.value z, C.1.0.0 z)) r.rows in
    record {
      rows = subst (HoldsStays ids sent lost) (sym known) rows;
      named = λ i low. dite (ℕ_discrete (get_or ids i 0) 0) (λ z. omega (arith, z))
          (λ used. named_row k small log L ids sent lost pends rows read i low used);
      counted = λ i low used. counted_row k small log L ids sent lost pends rows read i low used;
      finished = λ i low used. subst (λ (p : List RaiseStep × List DrainStep). made_calls (get_or ids i 0) p.1 + get_or lost i 0
          + get_or pends i 0 % mark_bit ≡ get_or sent i 0 + ended_calls (get_or ids i 0) p.0)
          (λ z. (sym known z, sym done z)) (finished_row k small log L ids sent lost pends rows read i low used);
      marked = λ i low used is. marked_row k small log L ids sent lost pends rows read i low used (ap marked_of (sym known) ∙ is);
      unmarked = λ i low used not. unmarked_row k small log L ids sent lost pends rows read i low used
          (λ e. not (ap marked_of known ∙ e));
    }

pub returns-clause-stands : goal.returns-clause-stands
returns-clause-stands c = let r = c.args.raise_seat in let d = c.args.drain_seat in let k = c.args.self.setting in
    let C : Ended k c.close.new.pends r.side.seat.me.0 d.side.seat.me.0 =
    ended c.args.self.words.setting k c.args.self.same c.close.new.pends c.join-both.result.seat.me.0 r.side.seat.me.0
    d.side.seat.me.0 c.join-both.ensures.trails c.close.ensures in
    (C.0, C.1, C.2)

pub returns-clause-accounted : goal.returns-clause-accounted
returns-clause-accounted c = let r = c.args.raise_seat in let d = c.args.drain_seat in let k = c.args.self.setting in
    let C : Ended k c.close.new.pends r.side.seat.me.0 d.side.seat.me.0 =
    ended c.args.self.words.setting k c.args.self.same c.close.new.pends c.join-both.result.seat.me.0 r.side.seat.me.0
    d.side.seat.me.0 c.join-both.ensures.trails c.close.ensures in
    subst (λ (p : List RaiseStep × List DrainStep). IsAccounted p.0 p.1) (λ z. (sym C.1.0.0 z, sym C.1.1.0 z))
    ((stands_now k C.0 C.2).accounted)
