-- What the calls of a firing side leave of what a test keeps of it.
use Rattle.std.proofs.Common.{◌≡◌, ℕ, ◌+◌, ◌-◌, ◌^◌, ◌<◌, ◌≤◌, ◌≢◌, eqb, Bool, true, false, cond, List, length, get_or, set, sym}
use Rattle.std.proofs.Common.{refl, ap, ◌∙◌, subst, inl, inr, ◌⊎◌, arith, eq-eqb, ne_eqb, get_or-set_other, get_or-set_same, []}
use Rattle.std.specs.Prelude.{Option, Some, None}
use mathlib.Core.Logic.{dite}
use native.Mathlib.Decide.{ℕ_discrete}
use Rattle.cyc_level.proofs.Maps.{some_same}
use Rattle.cyc_types.specs.Limits.{greatest_bank, cyclics}
use Rattle.cyc_types.specs.Firing.{FiringView, Stay, Stays, at_stay, edited, Admits, Loads, Raises, Marks, Polls}
use Rattle.cyc_types.specs.Firing.{Learns, MayAdmit, MayAsk, MayRaise, MayMark, MayPoll, MayExpand}
use Rattle.cyc_types.specs.declared.firing.Raised.{Raised}
use Rattle.cyc_types.specs.declared.firing.Raised.TheVariants.{First, More, Lost}
use Rattle.cyc_types.specs.declared.firing.Sent.{Sent}
use Rattle.cyc_ring.specs.Views.{trail_view}
use Rattle.cyc_ring_sides.specs.Knowing.{index_of_stay, Lists, Knows}

abbrev Fits : List ℕ → ℕ → ℕ → Stay → Type 0
Fits ids n id s = (s.index < cyclics) × (get_or ids s.index 0 ≡ id) × (id ≢ 0) × (s.sent ≤ n)

is_some : (o : Option Stay) (i : ℕ) → index_of_stay o ≡ Some i → (s : Stay) × (o ≡ Some s)
is_some None i e = absurd (cc)
is_some (Some s) i e = (s, refl)

is_none : (o : Option Stay) → ((s : Stay) → o ≡ Some s → ⊥) → o ≡ None
is_none None never = refl
is_none (Some s) never = absurd (never s refl)

-- an edit of one stay that leaves its index
module _ (f : Stay → Stay) (d : ℕ) (keeps : (s : Stay) → ((f s).index ≡ s.index) × ((f s).sent ≤ s.sent + d)) where
  index_edited : (b : Bool) (o : Option Stay) → index_of_stay (cond b (edited f o) o) ≡ index_of_stay o
  index_edited true None = refl
  index_edited true (Some s) = ap (λ (i : ℕ). Some i) (keeps s).0
  index_edited false o = refl

  was_edited : (b : Bool) (o : Option Stay) (s : Stay) → cond b (edited f o) o ≡ Some s → (r : Stay) × (o ≡ Some r)
      × ((s ≡ f r) ⊎ (s ≡ r))
  was_edited true None s e = absurd (cc)
  was_edited true (Some r) s e = (r, refl, inl (sym (some_same (f r) s e)))
  was_edited false o s e = (s, e, inr refl)

  fits : (ids : List ℕ) (n m j : ℕ) → n + d ≤ m → (r s : Stay) → (s ≡ f r) ⊎ (s ≡ r) → Fits ids n j r → Fits ids m j s
  fits ids n m j more r s (inl e) h = let k = keeps r in
      subst (λ (x : Stay). Fits ids m j x) (sym e) (
        subst (λ (i : ℕ). i < cyclics) (sym k.0) h.0,
        ap (λ (i : ℕ). get_or ids i 0) k.0
            ∙ h.1,
        h.2,
        omega (arith, k.1, h.3, more),
      )
  fits ids n m j more r s (inr e) h = subst (λ (x : Stay). Fits ids m j x) (sym e) (h.0, h.1, h.2, omega (arith, h.3, more))

  lists_edited : (ids : List ℕ) (n m id : ℕ) (stays : Stays) → n + d ≤ m → Lists ids n stays
      → Lists ids m (at_stay id (edited f) stays)
  lists_edited ids n m id stays more L = record {
    used = λ i low real. index_edited (eqb (get_or ids i 0) id) (stays (get_or ids i 0)) ∙ L.used i low real;
    only = λ j s e. let w = was_edited (eqb j id) (stays j) s e in fits ids n m j more w.0 s w.2 (L.only j w.0 w.1);
  }

module _ (ids : List ℕ) (n : ℕ) (stays : Stays) (L : Lists ids n stays) where
  pub absent : (id : ℕ) → ((i : ℕ) → i < cyclics → get_or ids i 0 ≢ id) → stays id ≡ None
  absent id never = is_none (stays id) (λ s e. let o = L.only id s e in never s.index o.0 o.1)

  pub apart : (i : ℕ) → get_or ids i 0 ≡ 0 → (j : ℕ) (s : Stay) → stays j ≡ Some s → ¬ (s.index ≡ i)
  apart i free j s e at = let o = L.only j s e in o.2 (sym o.1 ∙ (ap (λ (x : ℕ). get_or ids x 0) at ∙ free))

  pub stay_of : (i id : ℕ) → i < cyclics → get_or ids i 0 ≡ id → id ≢ 0 → (s : Stay) × (stays id ≡ Some s) × (s.sent ≤ n)
  stay_of i id low is real = let x = is_some (stays id) i
      (subst (λ (y : ℕ). index_of_stay (stays y) ≡ Some i) is (L.used i low (λ z. real (sym is ∙ z)))) in
      (x.0, x.1, (L.only id x.0 x.1).3)

  module _ (id i : ℕ) (low : i < cyclics) (long : i < length ids) (real : id ≢ 0) where
    lists_admitted : get_or ids i 0 ≡ 0 → ((k : ℕ) → k < cyclics → get_or ids k 0 ≢ id)
        → Lists (set ids i id) n (at_stay id (λ _. Some record { index = i; sent = 0; lost = 0; seen = 0 }) stays)
    lists_admitted free never = let new : Stay = record { index = i; sent = 0; lost = 0; seen = 0 } in record {
      used = λ j lj uj. dite (ℕ_discrete j i)
          (λ e. subst (λ (k : ℕ). index_of_stay (at_stay id (λ _. Some new) stays (get_or (set ids i id) k 0)) ≡ Some k) (sym e)
          (ap (λ b. index_of_stay (cond b (Some new) (stays (get_or (set ids i id) i 0))))
          (eq-eqb (get_or (set ids i id) i 0) id (get_or-set_same ids i id 0 long))))
          (λ ne. let o = get_or-set_other ids i j id 0 ne in
          subst (λ (x : ℕ). index_of_stay (at_stay id (λ _. Some new) stays x) ≡ Some j) (sym o)
          (ap (λ b. index_of_stay (cond b (Some new) (stays (get_or ids j 0)))) (ne_eqb (get_or ids j 0) id (never j lj))
          ∙ L.used j lj (λ z. uj (o ∙ z))));
      only = λ j s e. dite (ℕ_discrete j id)
          (λ x. let is : new ≡ s = some_same new s (ap (λ b. cond b (Some new) (stays j)) (sym (eq-eqb j id x)) ∙ e) in
          subst (λ (y : Stay). Fits (set ids i id) n j y) is (
            low,
            get_or-set_same ids i id 0 long
                ∙ sym x,
            (λ z. real (sym x ∙ z)),
            omega arith,
          ))
          (λ ne. let o = L.only j s (ap (λ b. cond b (Some new) (stays j)) (sym (ne_eqb j id ne)) ∙ e) in (
            o.0,
            get_or-set_other ids i s.index id 0 (λ at. o.2 (sym o.1 ∙ (ap (λ (x : ℕ). get_or ids x 0) at ∙ free)))
                ∙ o.1,
            o.2,
            o.3,
          ));
    }

    lists_cleared : get_or ids i 0 ≡ id → Lists (set ids i 0) n (at_stay id (λ _. None) stays)
    lists_cleared is = record {
      used = λ j lj uj. let ne : j ≢ i = λ e. uj (ap (λ (x : ℕ). get_or (set ids i 0) x 0) e ∙ get_or-set_same ids i 0 0 long) in
          let o = get_or-set_other ids i j 0 0 ne in let uses = L.used j lj (λ z. uj (o ∙ z)) in
          let other : get_or ids j 0 ≢ id = λ x. ne
          (some_same j i (sym uses ∙ (ap (λ (y : ℕ). index_of_stay (stays y)) (x ∙ sym is)
          ∙ L.used i low (λ z. real (sym is ∙ z))))) in
          subst (λ (x : ℕ). index_of_stay (at_stay id (λ _. None) stays x) ≡ Some j) (sym o)
          (ap (λ b. index_of_stay (cond b None (stays (get_or ids j 0)))) (ne_eqb (get_or ids j 0) id other) ∙ uses);
      only = λ j s e. dite (ℕ_discrete j id)
          (λ x. let never : None ≡ Some s = ap (λ b. cond b None (stays j)) (sym (eq-eqb j id x)) ∙ e in absurd (cc))
          (λ ne. let o = L.only j s (ap (λ b. cond b None (stays j)) (sym (ne_eqb j id ne)) ∙ e) in (
            o.0,
            get_or-set_other ids i s.index 0 0 (λ at. ne (sym o.1 ∙ (ap (λ (x : ℕ). get_or ids x 0) at ∙ is)))
                ∙ o.1,
            o.2,
            o.3,
          ));
    }

pub knows_begin : (ceiling : ℕ) (ids : List ℕ) (n : ℕ) (marked : Option ℕ) (bank : ℕ) (followed : Bool) → n ≡ 0 → marked ≡ None
    → bank ≡ 0 → followed ≡ true → ((i : ℕ) → i < cyclics → get_or ids i 0 ≡ 0)
    → Knows ids n marked bank followed (trail_view ceiling [])
knows_begin ceiling ids n marked bank followed n0 m0 b0 f0 none = record {
  lists = record { used = λ i low real. absurd (real (none i low)); only = λ id s e. absurd (cc) };
  marked_is = sym m0;
  bank_is = (sym b0, omega (arith, b0));
  followed_is = sym f0;
  free_hand = refl;
}

module _ (ids : List ℕ) (n : ℕ) (marked : Option ℕ) (bank : ℕ) (followed : Bool) (v : FiringView)
    (K : Knows ids n marked bank followed v) where
  pub may_admit : (id i : ℕ) → get_or ids i 0 ≡ 0 → ((k : ℕ) → k < cyclics → get_or ids k 0 ≢ id) → i < 2 ^ bank → MayAdmit id i v
  may_admit id i free never small = (
    absent ids n v.stays K.lists id never,
    apart ids n v.stays K.lists i free,
    subst (λ (b : ℕ). i < 2 ^ b) (sym K.bank_is.0) small,
    K.free_hand,
  )

  pub may_raise : (id i : ℕ) → i < cyclics → get_or ids i 0 ≡ id → id ≢ 0 → ¬ (marked ≡ Some id) → n < 2 ^ 64 - 1 → MayRaise id v
  may_raise id i low is real unmarked few = let s = stay_of ids n v.stays K.lists i id low is real in
      ((s.0, s.1, omega (arith, s.2, few)), (λ e. unmarked (sym K.marked_is ∙ e)), K.free_hand)

  pub may_ask : (id i : ℕ) → i < cyclics → get_or ids i 0 ≡ id → id ≢ 0 → MayAsk id v
  may_ask id i low is real = let s = stay_of ids n v.stays K.lists i id low is real in ((s.0, s.1, tt), K.free_hand)

  pub may_mark : (id i : ℕ) → i < cyclics → get_or ids i 0 ≡ id → id ≢ 0 → marked ≡ None → MayMark id v
  may_mark id i low is real none = let s = stay_of ids n v.stays K.lists i id low is real in
      ((s.0, s.1, tt), K.marked_is ∙ none, K.free_hand)

  pub may_poll : (id i : ℕ) → i < cyclics → get_or ids i 0 ≡ id → id ≢ 0 → marked ≡ Some id → MayPoll id v
  may_poll id i low is real its = let s = stay_of ids n v.stays K.lists i id low is real in
      ((s.0, s.1, tt), K.marked_is ∙ its, K.free_hand)

  pub may_expand : (b : ℕ) → bank < b → b ≤ greatest_bank → followed ≡ true → MayExpand b v
  may_expand b more most true_ = (subst (λ (x : ℕ). x < b) (sym K.bank_is.0) more, most, K.followed_is ∙ true_, K.free_hand)

module _ (ids : List ℕ) (n : ℕ) (marked : Option ℕ) (bank : ℕ) (followed : Bool) (v w : FiringView)
    (K : Knows ids n marked bank followed v) where
  pub knows_admit : (id i : ℕ) → i < cyclics → i < length ids → id ≢ 0 → get_or ids i 0 ≡ 0
      → ((k : ℕ) → k < cyclics → get_or ids k 0 ≢ id) → Learns v (Admits id i) w → Knows (set ids i id) n marked bank followed w
  knows_admit id i low long real free never l = subst (λ (x : FiringView). Knows (set ids i id) n marked bank followed x) (sym l)
      record {
        lists = lists_admitted ids n v.stays K.lists id i low long real free never;
        marked_is = K.marked_is;
        bank_is =
            K.bank_is;
        followed_is = K.followed_is;
        free_hand = K.free_hand;
      }

  pub knows_raise : (id : ℕ) (answer : Raised) → Learns v (Raises id answer) w → Knows ids (n + 1) marked bank followed w
  knows_raise id First l = subst (λ (x : FiringView). Knows ids (n + 1) marked bank followed x) (sym l)
      record {
        lists = lists_edited (λ s. record s { sent = s.sent + 1; seen = 0 + 1 }) 1 (λ s. (refl, omega arith)) ids n
            (n + 1) id v.stays (omega arith) K.lists;
        marked_is = K.marked_is;
        bank_is = K.bank_is;
        followed_is =
            K.followed_is;
        free_hand = K.free_hand;
      }
  knows_raise id More l = subst (λ (x : FiringView). Knows ids (n + 1) marked bank followed x) (sym l.4)
      record {
        lists = lists_edited (λ s. record s { sent = s.sent + 1; seen = l.0 + 1 }) 1 (λ s. (refl, omega arith)) ids n
            (n + 1) id v.stays (omega arith) K.lists;
        marked_is = K.marked_is;
        bank_is = K.bank_is;
        followed_is =
            K.followed_is;
        free_hand = K.free_hand;
      }
  knows_raise id Lost l = subst (λ (x : FiringView). Knows ids (n + 1) marked bank followed x) (sym l.1)
      record {
        lists = lists_edited (λ s. record s { sent = s.sent + 1; lost = s.lost + 1; seen = v.ceiling }) 1
            (λ s. (refl, omega arith)) ids n (n + 1) id v.stays (omega arith) K.lists;
        marked_is = K.marked_is;
        bank_is =
            K.bank_is;
        followed_is = K.followed_is;
        free_hand = K.free_hand;
      }

  pub knows_load : (id pend : ℕ) → Learns v (Loads id pend) w → Knows ids n marked bank followed w
  knows_load id pend l = subst (λ (x : FiringView). Knows ids n marked bank followed x) (sym l.1)
      record {
        lists = lists_edited (λ s. record s { seen = pend }) 0 (λ s. (refl, omega arith)) ids n n id v.stays
            (omega arith) K.lists;
        marked_is = K.marked_is;
        bank_is = K.bank_is;
        followed_is = K.followed_is;
        free_hand =
            K.free_hand;
      }

  pub knows_mark : (id pend : ℕ) → Learns v (Marks id pend) w → Knows ids n (Some id) bank followed w
  knows_mark id pend l = subst (λ (x : FiringView). Knows ids n (Some id) bank followed x) (sym l.1)
      record {
        lists = lists_edited (λ s. record s { seen = pend }) 0 (λ s. (refl, omega arith)) ids n n id v.stays
            (omega arith) K.lists;
        marked_is = refl;
        bank_is = K.bank_is;
        followed_is = K.followed_is;
        free_hand = K.free_hand;
      }

  pub knows_poll : (id : ℕ) → Learns v (Polls id None) w → Knows ids n marked bank followed w
  knows_poll id l = subst (λ (x : FiringView). Knows ids n marked bank followed x) (sym l.3)
      record {
        lists = lists_edited (λ s. record s { seen = l.0 }) 0 (λ s. (refl, omega arith)) ids n n id v.stays
            (omega arith) K.lists;
        marked_is = K.marked_is;
        bank_is = K.bank_is;
        followed_is = K.followed_is;
        free_hand =
            K.free_hand;
      }

  pub knows_clear : (id i : ℕ) (counts : Sent) → i < cyclics → i < length ids → id ≢ 0 → get_or ids i 0 ≡ id
      → Learns v (Polls id (Some counts)) w → Knows (set ids i 0) n None bank followed w
  knows_clear id i counts low long real is l = subst (λ (x : FiringView). Knows (set ids i 0) n None bank followed x) (sym l.1)
      record {
        lists = lists_cleared ids n v.stays K.lists id i low long real is;
        marked_is = refl;
        bank_is =
            K.bank_is;
        followed_is = K.followed_is;
        free_hand = K.free_hand;
      }
