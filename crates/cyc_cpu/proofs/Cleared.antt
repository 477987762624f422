-- What is left of rows and views where a cyclic was cleared, and the one end that a call went to.
use Rattle.std.proofs.Common.{◌≡◌, ◌≢◌, ℕ, ◌+◌, ◌-◌, ◌<◌, ◌^◌, ◌⊎◌, inl, inr, true, false, cond, eqb, Option, Some, None}
use Rattle.std.proofs.Common.{List, [], refl, sym, ap, ◌∙◌, subst, arith, length, get_or, eq-eqb}
use Rattle.std.specs.Prelude.{remove}
use Rattle.std.proofs.lemmas.Bool.{cases_lt, cases_eq}
use Rattle.std.proofs.lemmas.Bool.Decides.{nat_tests}
use Rattle.std.proofs.lemmas.List.{get_or_default}
use Rattle.std.proofs.lemmas.List.Edits.{length-remove, get_or-remove_below, get_or-remove_above}
use Rattle.cyc_types.specs.declared.Raise.{Ghosts as Raise}
use Rattle.cyc_types.specs.Firing.{FiringView, FiringCall, Loads, Marks, Polls, Learns, Sound, Stay, edited}
use Rattle.cyc_types.specs.Firing.{saw}
use Rattle.cyc_types.specs.Runs.{Goes}
use Rattle.cyc_types.specs.declared.firing.Sent.{Sent}
use Rattle.cyc_types.specs.declared.level.Level.{Level}
use Rattle.cyc_types.specs.declared.level.Level.TheVariants as level
use Rattle.cyc_timers.specs.Rows.{Row, IsRow, IsRising}
use Rattle.cyc_timers.specs.Acts.{same_level}
use Rattle.cyc_timers.specs.Ends.{HasRow, IsEnd}
use Rattle.cyc_cpu.specs.Removal.{calls_at}
use Rattle.cyc_timers.proofs.Readying.{ids_apart}

-- a row after one was taken out
pub row_less : (rows : List Row) (k j : ℕ) (x : Row) → k < length rows → IsRow (remove rows k) j x → (i : ℕ) × (i ≢ k)
    × IsRow rows i x
row_less rows k j x low is =
    let n = length-remove rows k low in let long = is.0 in
    elim (cases_lt j k) [
      | inl less ↦ (
        j,
        (λ q. absurd (omega (arith, q, less))),
        (omega (arith, less, low), sym (get_or-remove_below rows k x j less low) ∙ is.1),
      )
      | inr more ↦ (
        j + 1,
        (λ q. absurd (omega (arith, q, more))),
        (omega (arith, long, n), sym (get_or-remove_above rows k x j more low) ∙ is.1),
      )
    ]

pub row_stays : (rows : List Row) (k i : ℕ) (x : Row) → k < length rows → i ≢ k → IsRow rows i x → (j : ℕ)
    × IsRow (remove rows k) j x
row_stays rows k i x low ne is =
    let n = length-remove rows k low in let long = is.0 in
    elim (cases_lt i k) [
      | inl less ↦ (i, (omega (arith, less, low, n), get_or-remove_below rows k x i less low ∙ is.1))
      | inr more ↦ (let s : (i - 1) + 1 ≡ i = omega (arith, more, ne) in (
        i - 1,
        (
          omega (arith, long, n, more, ne),
          get_or-remove_above rows k x (i - 1) (omega (arith, more, ne)) low
              ∙ ap (λ m. get_or rows m x) s ∙ is.1,
        ),
      ))
    ]

same_row : (rows : List Row) (i k : ℕ) (r x : Row) → IsRow rows i r → IsRow rows k x → k ≡ i → x ≡ r
same_row rows i k r x is_r is_x eq = sym is_x.1 ∙ ap (λ m. get_or rows m x) eq ∙ get_or_default rows i x r is_r.0 ∙ is_r.1

-- one id, one row
pub one_row : (rows : List Row) (i k : ℕ) (r x : Row) → IsRising rows → IsRow rows i r → IsRow rows k x → x.timer.id ≡ r.timer.id
    → x ≡ r
one_row rows i k r x rising is_r is_x same = elim (cases_eq k i) [
  | inl eq ↦ same_row rows i k r x is_r is_x eq
  | inr ne ↦ absurd (ids_apart rows i k r x rising is_r is_x ne same)
]

-- an end that has seen or marked one cyclic has the others as they were
pub record Sees (v w : FiringView) (id : ℕ) : Type 0 where
  pub others : (j : ℕ) → j ≢ id → w.stays j ≡ v.stays j
  pub bank : w.bank ≡ v.bank
  pub ceiling : w.ceiling ≡ v.ceiling
  pub free : w.hand_free ≡ v.hand_free

-- an end that has cleared one cyclic has the others as they were
pub record Clears (v w : FiringView) (id : ℕ) : Type 0 where
  pub gone : w.stays id ≡ None
  pub marked : w.marked ≡ None
  pub rest : Sees v w id

other_id : (j id : ℕ) → j ≢ id → eqb j id ≡ false
other_id j id ne = grind (arith, nat_tests)

pub sees_load : (v w : FiringView) (id n : ℕ) → Learns v (Loads id n) w → Sees v w id
sees_load v w id n l = record {
  others = λ j ne. ap (λ (x : FiringView). x.stays j) l.1
      ∙ ap (λ b. cond b (edited (λ s. record s { seen = n }) (v.stays j)) (v.stays j)) (other_id j id ne);
  bank = ap (λ (x : FiringView). x.bank) l.1;
  ceiling = ap (λ (x : FiringView). x.ceiling) l.1;
  free = ap (λ (x : FiringView). x.hand_free) l.1;
}

pub sees_mark : (v w : FiringView) (id n : ℕ) → Learns v (Marks id n) w → Sees v w id
sees_mark v w id n l = record {
  others = λ j ne. ap (λ (x : FiringView). x.stays j) l.1 ∙ (sees_load v (saw id n v) id n (l.0, refl)).others j ne;
  bank = ap (λ (x : FiringView). x.bank) l.1;
  ceiling = ap (λ (x : FiringView). x.ceiling) l.1;
  free = ap (λ (x : FiringView). x.hand_free) l.1;
}

pub clears_poll : (v w : FiringView) (id : ℕ) (counts : Sent) → Learns v (Polls id (Some counts)) w → Clears v w id
clears_poll v w id counts l =
    let none : Option Stay = None in
    record {
      gone = ap (λ (x : FiringView). x.stays id) l.1
          ∙ (let yes : eqb id id ≡ true = eq-eqb id id refl in ap (λ b. cond b none (v.stays id)) yes);
      marked = ap (λ (x : FiringView). x.marked) l.1;
      rest = record {
        others = λ j ne. ap (λ (x : FiringView). x.stays j) l.1 ∙ ap (λ b. cond b none (v.stays j)) (other_id j id ne);
        bank = ap (λ (x : FiringView). x.bank) l.1;
        ceiling = ap (λ (x : FiringView). x.ceiling) l.1;
        free = ap (λ (x : FiringView). x.hand_free) l.1;
      };
    }

sees_on : (u v w : FiringView) (id : ℕ) → Sees u v id → Sees v w id → Sees u w id
sees_on u v w id a b = record {
  others = λ j ne. b.others j ne ∙ a.others j ne;
  bank = b.bank ∙ a.bank;
  ceiling = b.ceiling
      ∙ a.ceiling;
  free = b.free ∙ a.free;
}

pub clears_after : (u v w : FiringView) (id : ℕ) → Sees u v id → Clears v w id → Clears u w id
clears_after u v w id a c = record { gone = c.gone; marked = c.marked; rest = sees_on u v w id a c.rest }

module _ (soft : Level) (size : ℕ) (marked : Option ℕ) (v : FiringView) (rows : List Row) (k : ℕ) (r : Row)
    (ready : IsEnd soft size marked v rows) (is : IsRow rows k r) where
  -- the end that has cleared it
  pub end_left : (w : FiringView) → IsRising rows → Clears v w r.timer.id → Sound w → IsEnd soft size None w (remove rows k)
  end_left w rising c sound = record {
    sound = sound;
    free = c.rest.free ∙ ready.free;
    size_is = ready.size_is ∙ ap (λ n. 2 ^ n) (sym c.rest.bank);
    marked_is = c.marked;
    here = λ j x is_x at. (let (i, ne, old) = row_less rows k j x is.0 is_x in
        let (s, stay, rest) = ready.here i x old at in
        (s, c.rest.others x.timer.id (ids_apart rows k i r x rising is old ne) ∙ stay, rest));
    only = λ id s h. elim (cases_eq id r.timer.id) [
      | inl same ↦ absurd (let no : None ≡ Some s = sym c.gone ∙ ap w.stays (sym same) ∙ h in cc)
      | inr ne ↦ (let (i, x, old, named, at) = ready.only id s (sym (c.rest.others id ne) ∙ h) in
          let (j, is_x) = row_stays rows k i x is.0
          (λ q. ne (sym named ∙ ap (λ (y : Row). y.timer.id) (same_row rows k i r x is old q))) old in
          (j, x, is_x, named, at))
    ];
    over = λ id s h some. elim (cases_eq id r.timer.id) [
      | inl same ↦ absurd (let no : None ≡ Some s = sym c.gone ∙ ap w.stays (sym same) ∙ h in cc)
      | inr ne ↦ (let o = ready.over id s (sym (c.rest.others id ne) ∙ h) some in let e = c.rest.ceiling in omega (arith, o, e))
    ];
    marked_here = λ id h. absurd (let no : None ≡ Some id = h in cc);
    removed = λ j x is_x h. absurd (let no : None ≡ Some x.timer.id = h in cc);
  }

  stays_off : r.timer.level ≢ soft → (id : ℕ) → HasRow soft id rows → HasRow soft id (remove rows k)
  stays_off off id (i, x, old, named, at) =
      let (j, is_x) = row_stays rows k i x is.0
      (λ q. off (ap (λ (y : Row). y.timer.level) (sym (same_row rows k i r x is old q)) ∙ at)) old in
      (j, x, is_x, named, at)

  -- the end of another level
  pub end_off : r.timer.level ≢ soft → IsEnd soft size marked v (remove rows k)
  end_off off = record {
    sound = ready.sound;
    free = ready.free;
    size_is = ready.size_is;
    marked_is = ready.marked_is;
    here = λ j x is_x at. (let (i, ne, old) = row_less rows k j x is.0 is_x in ready.here i x old at);
    only = λ id s h. stays_off off id (ready.only id s h);
    over = ready.over;
    marked_here = λ id h. stays_off off id (ready.marked_here id h);
    removed = λ j x is_x h. (let (i, ne, old) = row_less rows k j x is.0 is_x in ready.removed i x old h);
  }

pub level_cases : (a b : Level) → (a ≡ b) ⊎ (a ≢ b)
level_cases level.Low level.Low = inl refl
level_cases level.Low level.Lock = inr (λ q. let no : ⊥ = cc in no)
level_cases level.Low level.High = inr (λ q. let no : ⊥ = cc in no)
level_cases level.Lock level.Low = inr (λ q. let no : ⊥ = cc in no)
level_cases level.Lock level.Lock = inl refl
level_cases level.Lock level.High = inr (λ q. let no : ⊥ = cc in no)
level_cases level.High level.Low = inr (λ q. let no : ⊥ = cc in no)
level_cases level.High level.Lock = inr (λ q. let no : ⊥ = cc in no)
level_cases level.High level.High = inl refl

same_yes : (a b : Level) → b ≡ a → same_level a b ≡ true
same_yes level.Low b e = ap (same_level level.Low) e
same_yes level.Lock b e = ap (same_level level.Lock) e
same_yes level.High b e = ap (same_level level.High) e

same_no : (a b : Level) → b ≢ a → same_level a b ≡ false
same_no level.Low level.Low ne = absurd (ne refl)
same_no level.Low level.Lock ne = refl
same_no level.Low level.High ne = refl
same_no level.Lock level.Low ne = refl
same_no level.Lock level.Lock ne = absurd (ne refl)
same_no level.Lock level.High ne = refl
same_no level.High level.Low ne = refl
same_no level.High level.Lock ne = refl
same_no level.High level.High ne = absurd (ne refl)

module _ {R : Type 0} (firing : Raise R) (soft own : Level) (e f : R)
    (way : List FiringCall) (goes : Goes firing e (calls_at soft own way) f) where
  -- the end of the cyclic's level went the way
  pub goes_here : own ≡ soft → Goes firing e way f
  goes_here at = subst (λ w. Goes firing e w f) (ap (λ b. cond b way []) (same_yes soft own at)) goes

  -- another end did nothing
  pub goes_not : own ≢ soft → f ≡ e
  goes_not off = let same : e ≡ f = subst (λ w. Goes firing e w f) (ap (λ b. cond b way []) (same_no soft own off)) goes in
      sym same
