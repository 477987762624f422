-- A firing side stays ready over an admission and a raise.
use Rattle.std.proofs.Common.{◌≡◌, ◌≢◌, ℕ, ◌+◌, ◌-◌, ◌<◌, ◌≤◌, ◌^◌, eqb, cond, Bool, true, false, refl, sym, ap, subst, ◌∙◌}
use Rattle.std.proofs.Common.{arith, Option, Some, None, eq-eqb, ne_eqb}
use mathlib.Core.Logic.{dite}
use native.Mathlib.Decide.{ℕ_discrete}
use Rattle.cyc_types.specs.Limits.{greatest_bank, cyclics}
use Rattle.cyc_types.specs.Firing.{FiringView, Admits, Raises, Loads, Expands, Learns, Stay, IsAdmitted, MayAdmit, MayAsk}
use Rattle.cyc_types.specs.Firing.{MayRaise, MayExpand, after_admit}
use Rattle.cyc_types.specs.declared.firing.Raised.{Raised}
use Rattle.cyc_types.specs.declared.firing.Raised.TheVariants.{First, More, Lost}
use Rattle.cyc_types.proofs.RunStays.{learns_stay}
use Rattle.cyc_level.proofs.Maps.{none_some, some_same}
use Rattle.bench_sides.specs.Ready.{IsNewLevel, IsReadyLevel, IsFilledLevel}

-- a new level may be switched to its greatest bank
pub may_expand : (v : FiringView) → IsNewLevel v → MayExpand greatest_bank v
may_expand v n = (rw n.bank (omega arith), omega arith, n.followed, n.free)

-- a new level in its greatest bank
pub expand_fills : (v w : FiringView) → IsNewLevel v → Learns v (Expands greatest_bank) w → IsFilledLevel 0 w
expand_fills v w n is = subst (λ (x : FiringView). IsFilledLevel 0 x) (sym is) (record {
  bank = refl;
  ready = record { free = n.free; unmarked = n.unmarked; stays = λ id some few. absurd (omega (arith, some, few)) };
  only = λ id s here. let none : v.stays id ≡ None = n.none id in absurd (cc (here, none));
})

-- the next id may be admitted at the next index
pub may_admit : (n : ℕ) (v : FiringView) → n < cyclics → IsFilledLevel n v → MayAdmit (n + 1) n v
may_admit n v low f = (
  absent (v.stays (n + 1)) refl,
  (λ j s here e. let lt = (f.only j s here).1 in
      absurd (omega (arith, e, lt))),
  (rw f.bank (omega (arith, low))),
  f.ready.free,
)
  where
    absent : (o : Option Stay) → v.stays (n + 1) ≡ o → v.stays (n + 1) ≡ None
    absent None is = is
    absent (Some s) is = let most = (f.only (n + 1) s is).0 in absurd (omega (arith, most))

-- the stay of an id after the next one is admitted
next_stay : (n id : ℕ) (v : FiringView) → id ≡ n + 1
    → (after_admit (n + 1) n v).stays id ≡ Some record { index = n; sent = 0; lost = 0; seen = 0 }
next_stay n id v e = ap (λ b. cond b (Some record { index = n; sent = 0; lost = 0; seen = 0 }) (v.stays id)) (eq-eqb id (n + 1) e)

other_stay : (n id : ℕ) (v : FiringView) → id ≢ n + 1 → (after_admit (n + 1) n v).stays id ≡ v.stays id
other_stay n id v ne = ap (λ b. cond b (Some record { index = n; sent = 0; lost = 0; seen = 0 }) (v.stays id))
    (ne_eqb id (n + 1) ne)

admit_stays : (n : ℕ) (v : FiringView) → IsFilledLevel n v → (id : ℕ) → 0 < id → id ≤ n + 1
    → IsAdmitted id (after_admit (n + 1) n v) (λ s. s.sent ≤ 0)
admit_stays n v f id some few = dite (ℕ_discrete id (n + 1))
    (λ e. (record { index = n; sent = 0; lost = 0; seen = 0 }, next_stay n id v e, omega arith))
    (λ ne. let (s, here, low) = f.ready.stays id some (omega (arith, few, ne)) in (s, other_stay n id v ne ∙ here, low))

admit_only : (n : ℕ) (v : FiringView) → IsFilledLevel n v → (id : ℕ) (s : Stay) → (after_admit (n + 1) n v).stays id ≡ Some s
    → (id ≤ n + 1) × (s.index < n + 1)
admit_only n v f id s e = dite (ℕ_discrete id (n + 1))
    (λ is. let same : s.index ≡ n = ap (λ (x : Stay). x.index) (sym (some_same _ s (sym (next_stay n id v is) ∙ e))) in
    (omega (arith, is), omega (arith, same)))
    (λ ne. let only = f.only id s (sym (other_stay n id v ne) ∙ e) in
    (let x = only.0 in omega (arith, x), let y = only.1 in omega (arith, y)))

admit_fills : (n : ℕ) (v w : FiringView) → IsFilledLevel n v → Learns v (Admits (n + 1) n) w → IsFilledLevel (n + 1) w
admit_fills n v w f is = subst (λ (x : FiringView). IsFilledLevel (n + 1) x) (sym is) (record {
  bank = f.bank;
  ready = record { free = f.ready.free; unmarked = f.ready.unmarked; stays = admit_stays n v f };
  only = admit_only n v f;
})

pub admit_fills_at : (n id index : ℕ) (v w : FiringView) → id ≡ n + 1 → index ≡ n → IsFilledLevel n v
    → Learns v (Admits id index) w
    → IsFilledLevel (n + 1) w
admit_fills_at n id index v w here there f is =
    admit_fills n v w f (subst (λ (k : ℕ). Learns v (Admits k n) w) here (subst (λ (k : ℕ). Learns v (Admits id k) w) there is))

-- a raise keeps a level ready
raise_keeps : (v w : FiringView) (id : ℕ) (a : Raised) → Learns v (Raises id a) w → (w.hand_free ≡ v.hand_free)
    × (w.marked ≡ v.marked)
raise_keeps v w id First l = (ap (λ (x : FiringView). x.hand_free) l, ap (λ (x : FiringView). x.marked) l)
raise_keeps v w id More l = (ap (λ (x : FiringView). x.hand_free) l.4, ap (λ (x : FiringView). x.marked) l.4)
raise_keeps v w id Lost l = (ap (λ (x : FiringView). x.hand_free) l.1, ap (λ (x : FiringView). x.marked) l.1)

one_most : (b : Bool) → cond b 1 0 ≤ 1
one_most true = omega arith
one_most false = omega arith

pub raise_ready : (n most : ℕ) (v w : FiringView) (id : ℕ) (a : Raised) → IsReadyLevel n most v → Learns v (Raises id a) w
    → IsReadyLevel n (most + 1) w
raise_ready n most v w id a r l =
    let keeps = raise_keeps v w id a l in
    record {
      free = keeps.0 ∙ r.free;
      unmarked = keeps.1 ∙ r.unmarked;
      stays = λ j some few.
          let (s, here, low) = r.stays j some few in
          let went = learns_stay j v w (Raises id a) s l refl here in
          let one = one_most (eqb j id) in
          let grown = went.3 in
          (went.0, went.1, omega (arith, low, grown, one));
    }

pub may_raise : (n most id : ℕ) (v : FiringView) → IsReadyLevel n most v → 0 < id → id ≤ n → most < 2 ^ 64 - 1 → MayRaise id v
may_raise n most id v r some few low =
    let (s, here, sent) = r.stays id some few in
    ((s, here, omega (arith, sent, low)), (λ e. none_some ⊥ id v.marked r.unmarked e), r.free)

pub may_ask : (n most id : ℕ) (v : FiringView) → IsReadyLevel n most v → 0 < id → id ≤ n → MayAsk id v
may_ask n most id v r some few =
    let (s, here, sent) = r.stays id some few in
    ((s, here, tt), r.free)

-- a look at a pend keeps a level ready
pub load_ready : (n most : ℕ) (v w : FiringView) (id pend : ℕ) → IsReadyLevel n most v → Learns v (Loads id pend) w
    → IsReadyLevel n most w
load_ready n most v w id pend r l = record {
  free = ap (λ (x : FiringView). x.hand_free) l.1 ∙ r.free;
  unmarked = ap (λ (x : FiringView). x.marked) l.1 ∙ r.unmarked;
  stays = λ j some few.
      let (s, here, low) = r.stays j some few in
      let went = learns_stay j v w (Loads id pend) s l refl here in
      let grown = went.3 in
      (went.0, went.1, omega (arith, low, grown));
}
