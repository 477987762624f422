use Rattle.cyc_ring.proofs.Learning.{sound_seat}
use Rattle.std.proofs.Common.{rules, ◌≡◌, ℕ, get_or, ◌%◌, ◌≤◌, List, [], ◌∷◌, refl, sym, ap, ◌∙◌, subst, arith}
use Rattle.std.specs.Prelude.{Some, None}
use Rattle.ring_rule.specs.declared.Setting.{Setting}
use Rattle.ring_rule.specs.declared.RaiseStep.{RaiseStep}
use Rattle.ring_rule.specs.declared.RaiseStep.TheVariants.{Loaded, Cleared}
use Rattle.ring_rule.specs.Steps.{ThisSeat}
use Rattle.ring_steps.specs.Sides.{MakesRaiseStep}
use Rattle.cyc_ring.proofs.Calls.{no_raise, one_raise, raise_call}
use Rattle.cyc_types.specs.Firing.{Polls, Learns}
use Rattle.ring_rule.specs.Words.{mark_bit}
use Rattle.ring_rule.specs.Trail.{open_stay, seen_pend}
use Rattle.cyc_ring.specs.Views.{trail_view}
use Rattle.cyc_ring.proofs.Learning.{the_stay, learns_kept}
use Rattle.cyc_ring.proofs.ends.RaiseEndRaise.poll_clear.Goals as goal

pub returns-then-found-ne0-clause-step : goal.returns-then-found-ne0-clause-step
returns-then-found-ne0-clause-step c = let e = c.args.self.now in let s = e.seat.side.seat in let k = e.seat.setting in
    let t : List RaiseStep = s.me.0.raise_trail in let found : ℕ = c.load_as-found.result in let s' =
    c.load_as-found.new.raise_seat.side.seat in let named = c.index_of-index.ensures.1 in
    let m : MakesRaiseStep k (Loaded c.args.id found) s s' =
    subst (λ (p : Setting × ℕ). MakesRaiseStep p.0 (Loaded p.1 found) s s')
    (λ z. (sym e.own.1 z, named z)) c.load_as-found.ensures.step in let more = c.if-found-ne0.true in (
      c.load_as-found.ensures.own,
      raise_call k s s' (Loaded c.args.id found ∷ []) (Polls c.args.id None)
          (one_raise k (Loaded c.args.id found) s [] s s' (no_raise k s e.seat.side.role) m) (
            found,
            omega (arith, more),
            subst (λ (x : ℕ). found % mark_bit ≤ seen_pend x t) named c.load_as-found.ensures.bound,
            refl,
          ),
    )

pub returns-then-found-ne0-clause-learns : goal.returns-then-found-ne0-clause-learns
returns-then-found-ne0-clause-learns c = let e = c.args.self.now in let s = e.seat.side.seat in let k = e.seat.setting in
    let t : List RaiseStep = s.me.0.raise_trail in let r = e.seat in let found : ℕ = c.load_as-found.result in let w =
    the_stay k.ceiling r.stays.value.ids r.stays.value.sent r.stays.value.lost t r.rows c.args.id _ c.requires.0 in let named =
    c.index_of-index.ensures.1 in
    let same : c.load_as-found.new.raise_seat.side.seat.me.0.raise_trail ≡ Loaded c.args.id found ∷ t =
    ap (λ (m : ThisSeat). m.0.raise_trail) c.load_as-found.ensures.step.1.1 ∙ ap (λ (x : ℕ). Loaded x found ∷ t) named in
    let low : found % mark_bit ≤ seen_pend c.args.id t =
    subst (λ (x : ℕ). found % mark_bit ≤ seen_pend x t) named c.load_as-found.ensures.bound in let more =
    c.if-found-ne0.true in
    subst (λ (p : Setting × List RaiseStep). Learns (trail_view k.ceiling t) (Polls c.args.id None)
    (trail_view p.0.ceiling p.1)) (λ z. (sym c.load_as-found.ensures.own.1 z, sym same z))
    (learns_kept k.ceiling t c.args.id found w.0 w.1 (omega (arith, more)) low)

pub returns-clause-step : goal.returns-clause-step
returns-clause-step c = let e = c.args.self.now in let s = e.seat.side.seat in let k = e.seat.setting in let t : List RaiseStep =
    s.me.0.raise_trail in let found : ℕ = c.load_as-found.result in let s1 = c.load_as-found.new.raise_seat.side.seat in let s2 =
    c.clear_as.new.raise_seat.side.seat in let named = c.index_of-index.ensures.1 in
    let m1 : MakesRaiseStep k (Loaded c.args.id found) s s1 =
    subst (λ (p : Setting × ℕ). MakesRaiseStep p.0 (Loaded p.1 found) s s1)
    (λ z. (sym e.own.1 z, named z)) c.load_as-found.ensures.step in
    let m2 : MakesRaiseStep k (Cleared c.args.id) s1 s2 =
    subst (λ (x : Setting). MakesRaiseStep x (Cleared c.args.id) s1 s2) (sym e.own.1) c.clear_as.ensures.step in
    let r = e.seat in let i : ℕ = c.index_of-index.result in let w =
    the_stay k.ceiling r.stays.value.ids r.stays.value.sent r.stays.value.lost t r.rows c.args.id _ c.requires.0 in let real =
    (r.rows.only c.args.id w.0 w.1).2 in
    let rows : c.load_as-found.new.raise_seat.stays.value
    ≡ r.stays.value = λ z. (c.load_as-found.ensures.rows z).value in let one =
    c.deref.ensures ∙ rows in let two = c.deref-2.ensures ∙ rows in let named_row : get_or r.stays.value.ids i 0 ≡ c.args.id =
    named in
    let stay = ap (λ (x : ℕ). open_stay x t) (sym named_row)
    ∙ (r.rows.used i c.index_of-index.ensures.0 (λ z. real (sym named_row ∙ z))
    ∙ (λ z. Some record { index = i; sent = get_or (sym one z).sent i 0; lost = get_or (sym two z).lost i 0 })) in
    let a = c.load_as-found.ensures.own in let b = c.clear_as.ensures.own in (
      (b.0 ∙ a.0, b.1 ∙ a.1),
      raise_call k s s2 (Cleared c.args.id ∷ Loaded c.args.id found ∷ []) (Polls c.args.id (Some _))
          (one_raise k (Cleared c.args.id) s (Loaded c.args.id found ∷ []) s1 s2
          (one_raise k (Loaded c.args.id found) s [] s s1 (no_raise k s e.seat.side.role) m1) m2)
          (found, i, (let h : found % mark_bit ≡ 0 = search rules in h), stay, refl),
    )

pub returns-then-found-ne0-clause-sound : goal.returns-then-found-ne0-clause-sound
returns-then-found-ne0-clause-sound c = let r = c.load_as-found.new.raise_seat in
    sound_seat r.setting.ceiling r.stays.value.ids r.stays.value.sent r.stays.value.lost r.side.seat.me.0.raise_trail r.rows
    r.seen (let b = r.bank_is.0 in let m = r.bank_is.1 in omega (arith, b, m)) r.ranges.0

pub returns-clause-sound : goal.returns-clause-sound
returns-clause-sound c = let r = c.clear_as.new.raise_seat in
    sound_seat r.setting.ceiling r.stays.value.ids r.stays.value.sent r.stays.value.lost r.side.seat.me.0.raise_trail r.rows
    r.seen (let b = r.bank_is.0 in let m = r.bank_is.1 in omega (arith, b, m)) r.ranges.0
