-- What the steps of a raise show, from the load of the pend word on.
use Rattle.std.proofs.Common.{◌≡◌, ◌≢◌, ℕ, ◌+◌, ◌%◌, ◌^◌, ◌<◌, ◌≤◌, cond, List, [], ◌∷◌, refl, sym, ap, ◌∙◌, subst, arith, get_or}
use Rattle.std.proofs.Common.{eq-eqb}
use Rattle.std.specs.Prelude.{Some}
use Rattle.cyc_types.specs.Limits.{cyclics}
use Rattle.cyc_level.specs.Runs.{StayCounts, one_more}
use Rattle.ring_rule.specs.declared.Setting.{Setting}
use Rattle.ring_rule.specs.declared.RaiseStep.{RaiseStep}
use Rattle.ring_rule.specs.declared.RaiseStep.TheVariants.{Loaded, Lost, Added, Stored, Published}
use Rattle.ring_rule.specs.Words.{index_range, entry}
use Rattle.ring_rule.specs.Trail.{open_stay, seen_pend, producer_index}
use Rattle.ring_rule.specs.Steps.{ThisSeat, with_raise_step}
use Rattle.ring_steps.specs.Sides.{TableSeat, MakesRaiseStep}
use Rattle.cyc_ring.specs.declared.seats.RaiseSeat.{RaiseSeat}
use Rattle.cyc_ring.proofs.Calls.{RaiseRun, no_raise, one_raise}

-- a seat and the id that it raises, which is admitted at this index. The steps name id and setting by their own names
pub record Begun (r : RaiseSeat) (k k' : Setting) (id id' x : ℕ) : Type 0 where
  pub own : r.setting ≡ k
  pub named : (id' ≡ id) × (k' ≡ k)
  pub index : (x < cyclics) × (get_or r.stays.value.ids x 0 ≡ id)
  pub real : id ≢ 0

pub is_real : (id number : ℕ) → number ≡ id → 0 < number → id ≢ 0
is_real id number same some z = omega (arith, z, same, some)

-- the stay of the id
abbrev pub stay_at : RaiseSeat → ℕ → StayCounts
stay_at r x = record { index = x; sent = get_or r.stays.value.sent x 0; lost = get_or r.stays.value.lost x 0 }

-- the load found less than the ceiling
pub record Below (r : RaiseSeat) (k : Setting) (id : ℕ) (s1 : TableSeat) (before : ℕ) : Type 0 where
  pub step : MakesRaiseStep k (Loaded id before) r.side.seat s1
  pub low : before ≤ seen_pend id r.side.seat.me.0.raise_trail
  pub under : before < k.ceiling

-- and then the pend was raised
pub record Counted (r : RaiseSeat) (k : Setting) (id : ℕ) (s1 s2 : TableSeat) (before found : ℕ) : Type 0 where
  pub below : Below r k id s1 before
  pub step : MakesRaiseStep k (Added id found) s1 s2
  pub top : found ≤ before

module _ {r : RaiseSeat} {k k' : Setting} {id id' x : ℕ} (b : Begun r k k' id id' x) where
  abbrev t : List RaiseStep
  t = r.side.seat.me.0.raise_trail

  pub stay_is : open_stay id t ≡ Some (stay_at r x)
  stay_is = ap (λ (y : ℕ). open_stay y t) (sym b.index.1) ∙ r.rows.used x b.index.0 (λ z. b.real (sym b.index.1 ∙ z))

  pub stay_named : open_stay id' t ≡ Some (stay_at r x)
  stay_named = ap (λ (y : ℕ). open_stay y t) b.named.0 ∙ stay_is

  pub is_low : (before : ℕ) → before ≤ seen_pend id' t → before ≤ seen_pend id t
  is_low before h = subst (λ (y : ℕ). before ≤ seen_pend y t) b.named.0 h

  -- the load found the ceiling
  pub is_lost : (s1 : TableSeat) (before ceiling : ℕ) → ceiling ≡ r.setting.ceiling → before ≡ ceiling
      → (before ≡ k'.ceiling → MakesRaiseStep k' (Lost id' before) r.side.seat s1)
      → MakesRaiseStep k (Lost id before) r.side.seat s1
  is_lost s1 before ceiling same full made =
      subst (λ (p : Setting × ℕ). MakesRaiseStep p.0 (Lost p.1 before) r.side.seat s1) (λ z. (b.named.1 z, b.named.0 z))
      (made (full ∙ same ∙ ap (λ (s : Setting). s.ceiling) (b.own ∙ sym b.named.1)))

  pub is_below : (s1 : TableSeat) (before : ℕ) → (before ≤ seen_pend id' t) × (before ≤ k'.ceiling)
      → (before ≢ k'.ceiling → MakesRaiseStep k' (Loaded id' before) r.side.seat s1) → before ≢ r.setting.ceiling
      → Below r k id s1 before
  is_below s1 before bound made differs = let ne : before ≢ k'.ceiling =
      λ e. differs (e ∙ ap (λ (s : Setting). s.ceiling) (b.named.1 ∙ sym b.own)) in
      let most : before ≤ k.ceiling = subst (λ (y : Setting). before ≤ y.ceiling) b.named.1 bound.1 in
      let other : before ≢ k.ceiling = λ e. ne (e ∙ ap (λ (s : Setting). s.ceiling) (sym b.named.1)) in record {
        step = subst (λ (p : Setting × ℕ). MakesRaiseStep p.0 (Loaded p.1 before) r.side.seat s1)
            (λ z. (b.named.1 z, b.named.0 z)) (made ne);
        low = is_low before bound.0;
        under = omega (arith, most, other);
      }

  module _ {s1 : TableSeat} {before : ℕ} (w : Below r k id s1 before) where
    -- the stay of the id still stands where it is counted
    pub stay_below : open_stay id' s1.me.0.raise_trail ≡ Some (stay_at r x)
    stay_below = ap (λ (m : ThisSeat). open_stay id' m.0.raise_trail) w.step.1.1 ∙ stay_named

    pub is_counted : (s2 : TableSeat) (found : ℕ) → found ≤ seen_pend id' s1.me.0.raise_trail
        → MakesRaiseStep k' (Added id' found) s1 s2 → Counted r k id s1 s2 before found
    is_counted s2 found bound made = let f : found ≤ seen_pend id (Loaded id before ∷ t) =
        subst (λ (p : ℕ × List RaiseStep). found ≤ seen_pend p.0 p.1) (λ z. (b.named.0 z, (w.step.1.1 z).0.raise_trail)) bound in
        let h : found ≤ before % 2 ^ 32 = subst (λ b. found ≤ cond b (before % 2 ^ 32) (seen_pend id t)) (eq-eqb id id refl) f in
        record {
          below = w;
          step = subst (λ (p : Setting × ℕ). MakesRaiseStep p.0 (Added p.1 found) s1 s2) (λ z. (b.named.1 z, b.named.0 z)) made;
          top = omega (arith, h);
        }

  -- and counts one more
  pub stay_counted : (found before : ℕ) → open_stay id (Added id found ∷ Loaded id before ∷ t)
      ≡ Some record { index = x; sent = get_or r.stays.value.sent x 0 + 1; lost = get_or r.stays.value.lost x 0 + 0 }
  stay_counted found before = ap (λ b. cond b (one_more 0 (open_stay id t)) (open_stay id t)) (eq-eqb id id refl)
      ∙ ap (one_more 0) stay_is

  pub next_is : r.next ≡ producer_index k'.start t % index_range
  next_is = r.next_is ∙ ap (λ (s : Setting). producer_index s.start t % index_range) (b.own ∙ sym b.named.1)

  -- the index that is published next
  pub next_published : (r.next + 1) % index_range ≡ (producer_index k.start t + 1) % index_range
  next_published = let h : r.next ≡ producer_index k.start t % 2 ^ 32 = r.next_is
      ∙ ap (λ (s : Setting). producer_index s.start t % 2 ^ 32) b.own in
      let z : (r.next + 1) % 2 ^ 32 ≡ (producer_index k.start t + 1) % 2 ^ 32 = omega (arith, h) in z

-- the steps up to there, and the seat after them
module _ {r : RaiseSeat} {k : Setting} {id : ℕ} {s1 s2 : TableSeat} {before found : ℕ}
    (a : Counted r k id s1 s2 before found) where
  pub counted_run : RaiseRun k r.side.seat (Added id found ∷ Loaded id before ∷ []) s2
  counted_run = one_raise k (Added id found) r.side.seat (Loaded id before ∷ []) s1 s2
      (one_raise k (Loaded id before) r.side.seat [] r.side.seat s1 (no_raise k r.side.seat r.side.role) a.below.step) a.step

  -- the positions of both
  abbrev p1 : ℕ
  p1 = a.below.step.1.0

  abbrev p2 : ℕ
  p2 = a.step.1.0

  pub counted_me : s2.me ≡ (
    with_raise_step p2 (Added id found) (with_raise_step p1 (Loaded id before) r.side.seat.me.0),
    r.side.seat.me.1,
  )
  counted_me = a.step.1.1 ∙ ap (λ (m : ThisSeat). (with_raise_step p2 (Added id found) m.0, m.1)) a.below.step.1.1

  pub counted_trail : s2.me.0.raise_trail ≡ Added id found ∷ Loaded id before ∷ r.side.seat.me.0.raise_trail
  counted_trail = ap (λ (m : ThisSeat). m.0.raise_trail) counted_me

-- the entry was stored and published after that
pub record PutIn (r : RaiseSeat) (k : Setting) (id x : ℕ) (s1 s2 s3 s4 : TableSeat) (before : ℕ) : Type 0 where
  pub counted : Counted r k id s1 s2 before 0
  pub stored : MakesRaiseStep k (Stored (entry id x)) s2 s3
  pub published : MakesRaiseStep k (Published ((producer_index k.start r.side.seat.me.0.raise_trail + 1) % index_range)) s3 s4

module _ {r : RaiseSeat} {k : Setting} {id x : ℕ} {s1 s2 s3 s4 : TableSeat} {before : ℕ}
    (p : PutIn r k id x s1 s2 s3 s4 before) where
  -- the index that was published
  abbrev index : ℕ
  index = (producer_index k.start r.side.seat.me.0.raise_trail + 1) % index_range

  pub put_in_run : RaiseRun k r.side.seat (Published index ∷ Stored (entry id x) ∷ Added id 0 ∷ Loaded id before ∷ []) s4
  put_in_run = one_raise k (Published index) r.side.seat (Stored (entry id x) ∷ Added id 0 ∷ Loaded id before ∷ []) s3 s4
      (one_raise k (Stored (entry id x)) r.side.seat (Added id 0 ∷ Loaded id before ∷ []) s2 s3 (counted_run p.counted) p.stored)
      p.published

  abbrev at : ℕ → RaiseStep → ThisSeat → ThisSeat
  at position x m = (with_raise_step position x m.0, m.1)

  pub put_in_me : s4.me ≡ at p.published.1.0 (Published index)
      (at p.stored.1.0 (Stored (entry id x)) (at p.counted.step.1.0 (Added id 0)
      (at p.counted.below.step.1.0 (Loaded id before) r.side.seat.me)))
  put_in_me = p.published.1.1 ∙ (ap (at p.published.1.0 (Published index)) p.stored.1.1
      ∙ ap (λ (m : ThisSeat). at p.published.1.0 (Published index) (at p.stored.1.0 (Stored (entry id x)) m))
      (counted_me p.counted))

  pub put_in_trail : s4.me.0.raise_trail ≡ Published index ∷ Stored (entry id x) ∷ Added id 0 ∷ Loaded id before
      ∷ r.side.seat.me.0.raise_trail
  put_in_trail = ap (λ (m : ThisSeat). m.0.raise_trail) put_in_me
