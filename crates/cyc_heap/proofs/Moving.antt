-- An entry of a heap moves into the hole above or below it, and an entry fills the hole.
use Rattle.std.proofs.Common.{◌≡◌, ◌≢◌, ℕ, zero, suc, ◌+◌, ◌-◌, ◌*◌, ◌/◌, ◌%◌, ◌<◌, inl, inr, true, List}
use Rattle.std.proofs.Common.{length, refl, sym, ap, ◌∙◌, subst, subst₂, arith}
use Rattle.std.proofs.Math.ListN.{set}
use Rattle.std.proofs.lemmas.Bool.{cases_eq, cases_lt}
use Rattle.std.proofs.lemmas.List.{length-set, get_or-set_same, get_or-set_other}
use Rattle.cyc_heap.specs.declared.entry.Entry.{Entry}
use Rattle.cyc_heap.specs.Tournament.{nowhere, entry_at, cyclic_index, comes}
use Rattle.cyc_heap.specs.Few.{IsChild, IsHeap, IsHeapBut, IsBelow, IsSame, IsFilled}
use Rattle.cyc_heap.proofs.Playing.{comes_self, comes_trans}

pub child_low : (a c : ℕ) → IsChild a c → a < c
child_low a c (inl h) = omega (arith, h)
child_low a c (inr h) = omega (arith, h)

pub one_parent : (a b c : ℕ) → IsChild a c → IsChild b c → a ≡ b
one_parent a b c (inl h) (inl k) = omega (arith, h, k)
one_parent a b c (inl h) (inr k) = omega (arith, h, k)
one_parent a b c (inr h) (inl k) = omega (arith, h, k)
one_parent a b c (inr h) (inr k) = omega (arith, h, k)

-- each position but the first has one above it
pub parent : (c : ℕ) → 0 < c → IsChild ((c - 1) / 2) c
parent c some = elim (cases_lt ((c - 1) % 2) 1)
    [ inl even ↦ inl (omega (arith, even, some)) | inr odd ↦ inr (omega (arith, odd, some)) ]

both : (a b c d : Entry) → a ≡ c → b ≡ d → comes c d ≡ true → comes a b ≡ true
both a b c d e k h = subst₂ (λ x y. comes x y ≡ true) (sym e) (sym k) h

-- the child that comes first comes before both
pub first_of_both : (position m : ℕ) (few : List Entry) → comes (entry_at few m) (entry_at few (2 * position + 1)) ≡ true
    → (2 * position + 2 < length few → comes (entry_at few m) (entry_at few (2 * position + 2)) ≡ true)
    → (c : ℕ) → IsChild position c → c < length few → comes (entry_at few m) (entry_at few c) ≡ true
first_of_both position m few left right c (inl eq) low = subst (λ c. comes (entry_at few m) (entry_at few c) ≡ true) (sym eq) left
first_of_both position m few left right c (inr eq) low =
    subst (λ c. comes (entry_at few m) (entry_at few c) ≡ true) (sym eq) (right (omega (arith, eq, low)))

-- the first comes before all
pub first_least : (few : List Entry) → IsHeap few → (p : ℕ) → p < length few → comes (entry_at few 0) (entry_at few p) ≡ true
first_least few h p low = to p (suc p) low (omega arith)
  where
    to : (p bound : ℕ) → p < length few → p < bound → comes (entry_at few 0) (entry_at few p) ≡ true
    to p zero low near = absurd (omega (arith, near))
    to zero (suc bound) low near = comes_self (entry_at few 0)
    to (suc q) (suc bound) low near =
        let above : IsChild ((suc q - 1) / 2) (suc q) = parent (suc q) (omega arith) in
        let l = child_low ((suc q - 1) / 2) (suc q) above in
        comes_trans (entry_at few 0) (entry_at few ((suc q - 1) / 2)) (entry_at few (suc q))
        (to ((suc q - 1) / 2) bound (omega (arith, l, low)) (omega (arith, l, near)))
        (h.rising ((suc q - 1) / 2) (suc q) above low)

-- any position may become the hole
pub hole_made : (position : ℕ) (few : List Entry) → IsHeap few → position < length few → IsHeapBut position few
hole_made position few h low = record {
  rising = λ a c is low_c _ _. h.rising a c is low_c;
  bridge = λ a c is_position is_c low_c. comes_trans (entry_at few a) (entry_at few position) (entry_at few c)
      (h.rising a position is_position low) (h.rising position c is_c low_c);
  apart = λ p q low_p low_q _ _ off. h.apart p q low_p low_q off;
}

-- what doesn't come before the one at a position doesn't come before the one above it
pub below_later : (position : ℕ) (few : List Entry) (e : Entry) → IsHeap few → position < length few
    → comes (entry_at few position) e ≡ true → IsBelow e position few
below_later position few e h low later a is = comes_trans (entry_at few a) (entry_at few position) e (h.rising a position is low)
    later

pub same_self : (position : ℕ) (few : List Entry) → IsSame position few position few
same_self position few = record {
  long = refl;
  from = λ p low off. (p, low, off, refl);
  to = λ q low off. (q, low, off, refl);
}

module _ (few : List Entry) (hole next : ℕ) (within : next < length few) (in_hole : hole < length few) (off : next ≢ hole) where
  abbrev pub moved : List Entry
  moved = set few hole (entry_at few next)

  pub moved_long : length moved ≡ length few
  moved_long = length-set few hole (entry_at few next)

  pub here : entry_at moved hole ≡ entry_at few next
  here = get_or-set_same few hole (entry_at few next) nowhere in_hole

  pub other : (p : ℕ) → p ≢ hole → entry_at moved p ≡ entry_at few p
  other p off = get_or-set_other few hole p (entry_at few next) nowhere off

  -- where the entry at p of the new list stood
  was : (p : ℕ) → p < length moved → p ≢ next → (q : ℕ) × (q < length few) × (q ≢ hole) × (entry_at moved p ≡ entry_at few q)
  was p low apart = let l = moved_long in elim (cases_eq p hole) [
    | inl is ↦ (next, within, off, ap (entry_at moved) is ∙ here)
    | inr else ↦ (p, omega (arith, low, l), else, other p else)
  ]

  pub same_after : (position : ℕ) (old : List Entry) → IsSame position old hole few → IsSame position old next moved
  same_after position old h = record {
    long = moved_long ∙ h.long;
    from = λ p low apart. (let (q, within, far, is) = was p low apart in
        let (k, inside, out, at) = h.from q within far in (k, inside, out, is ∙ at));
    to = λ k inside out. (let (q, within, far, at) = h.to k inside out in
        let l = moved_long in
        elim (cases_eq q next) [
          | inl is ↦ (hole, omega (arith, in_hole, l), (λ e. off (sym e)), here ∙ ap (entry_at few) (sym is) ∙ at)
          | inr else ↦ (q, omega (arith, within, l), else, other q far ∙ at)
        ]);
  }

  module _ (h : IsHeapBut hole few) where
    apart_after : (p q : ℕ) → p < length moved → q < length moved → p ≢ next → q ≢ next → p ≢ q
        → cyclic_index (entry_at moved p) ≢ cyclic_index (entry_at moved q)
    apart_after p q low_p low_q a b ne = let l = moved_long in elim (cases_eq p hole) [
      | inl is ↦ elim (cases_eq q hole) [
        | inl at ↦ absurd (ne (is ∙ sym at))
        | inr far ↦ subst₂ (λ a b. cyclic_index a ≢ cyclic_index b) (sym (ap (entry_at moved) is ∙ here)) (sym (other q far))
            (h.apart next q within (omega (arith, low_q, l)) off far (λ e. b (sym e)))
      ]
      | inr else ↦ elim (cases_eq q hole) [
        | inl at ↦ subst₂ (λ a b. cyclic_index a ≢ cyclic_index b) (sym (other p else)) (sym (ap (entry_at moved) at ∙ here))
            (h.apart p next (omega (arith, low_p, l)) within else off a)
        | inr far ↦ subst₂ (λ a b. cyclic_index a ≢ cyclic_index b) (sym (other p else)) (sym (other q far))
            (h.apart p q (omega (arith, low_p, l)) (omega (arith, low_q, l)) else far ne)
      ]
    ]

    -- the hole goes down to the child that comes first
    pub heap_down : IsChild hole next
        → ((c : ℕ) → IsChild hole c → c < length few → comes (entry_at few next) (entry_at few c) ≡ true) → IsHeapBut next moved
    heap_down child least =
        let l = moved_long in
        let down = child_low hole next child in
        record {
          rising = λ a c is low_c not_a not_c. let low_a = child_low a c is in elim (cases_eq a hole) [
            | inl at ↦ both (entry_at moved a) (entry_at moved c) (entry_at few next) (entry_at few c)
                (ap (entry_at moved) at ∙ here) (other c (λ q. absurd (omega (arith, q, at, low_a))))
                (least c (subst (λ x. IsChild x c) at is) (omega (arith, low_c, l)))
            | inr apart ↦ elim (cases_eq c hole) [
              | inl at ↦ both (entry_at moved a) (entry_at moved c) (entry_at few a) (entry_at few next)
                  (other a apart) (ap (entry_at moved) at ∙ here) (h.bridge a next (subst (IsChild a) at is) child within)
              | inr far ↦ both (entry_at moved a) (entry_at moved c) (entry_at few a) (entry_at few c) (other a apart)
                  (other c far) (h.rising a c is (omega (arith, low_c, l)) apart far)
            ]
          ];
          bridge = λ a c is_next is_c low_c.
              let at : a ≡ hole = one_parent a hole next is_next child in
              let lower = child_low next c is_c in
              both (entry_at moved a) (entry_at moved c) (entry_at few next) (entry_at few c) (ap (entry_at moved) at ∙ here)
              (other c (λ q. absurd (omega (arith, q, lower, down))))
              (h.rising next c is_c (omega (arith, low_c, l)) off (λ q. absurd (omega (arith, q, lower, down))));
          apart = apart_after;
        }

    -- the hole goes up
    pub heap_up : IsChild next hole → IsHeapBut next moved
    heap_up child =
        let l = moved_long in
        let down = child_low next hole child in
        record {
          rising = λ a c is low_c not_a not_c. let low_a = child_low a c is in elim (cases_eq a hole) [
            | inl at ↦ both (entry_at moved a) (entry_at moved c) (entry_at few next) (entry_at few c)
                (ap (entry_at moved) at ∙ here) (other c (λ q. absurd (omega (arith, q, at, low_a))))
                (h.bridge next c child (subst (λ x. IsChild x c) at is) (omega (arith, low_c, l)))
            | inr apart ↦ elim (cases_eq c hole) [
              | inl at ↦ absurd (not_a (one_parent a next hole (subst (IsChild a) at is) child))
              | inr far ↦ both (entry_at moved a) (entry_at moved c) (entry_at few a) (entry_at few c) (other a apart)
                  (other c far) (h.rising a c is (omega (arith, low_c, l)) apart far)
            ]
          ];
          bridge = λ a c is_next is_c low_c.
              let top = child_low a next is_next in
              let first : comes (entry_at few a) (entry_at few next) ≡ true
              = h.rising a next is_next within (λ q. absurd (omega (arith, q, top, down))) off in
              elim (cases_eq c hole) [
                | inl at ↦ both (entry_at moved a) (entry_at moved c) (entry_at few a) (entry_at few next)
                    (other a (λ q. absurd (omega (arith, q, top, down)))) (ap (entry_at moved) at ∙ here) first
                | inr far ↦ both (entry_at moved a) (entry_at moved c) (entry_at few a) (entry_at few c)
                    (other a (λ q. absurd (omega (arith, q, top, down)))) (other c far)
                    (comes_trans (entry_at few a) (entry_at few next) (entry_at few c) first
                    (h.rising next c is_c (omega (arith, low_c, l)) off far))
              ];
          apart = apart_after;
        }

-- the hole is filled
module _ (few : List Entry) (hole : ℕ) (e : Entry) (in_hole : hole < length few) where
  abbrev pub full : List Entry
  full = set few hole e

  long : length full ≡ length few
  long = length-set few hole e

  at_hole : entry_at full hole ≡ e
  at_hole = get_or-set_same few hole e nowhere in_hole

  at_other : (p : ℕ) → p ≢ hole → entry_at full p ≡ entry_at few p
  at_other p off = get_or-set_other few hole p e nowhere off

  pub filled_heap : IsHeapBut hole few → IsBelow e hole few
      → ((c : ℕ) → IsChild hole c → c < length few → comes e (entry_at few c) ≡ true)
      → ((p : ℕ) → p < length few → p ≢ hole → cyclic_index (entry_at few p) ≢ cyclic_index e) → IsHeap full
  filled_heap h below above apart =
      let l = long in
      record {
        rising = λ a c is low_c. let low_a = child_low a c is in elim (cases_eq a hole) [
          | inl at ↦ both (entry_at full a) (entry_at full c) e (entry_at few c) (ap (entry_at full) at ∙ at_hole)
              (at_other c (λ q. absurd (omega (arith, q, at, low_a))))
              (above c (subst (λ x. IsChild x c) at is) (omega (arith, low_c, l)))
          | inr off ↦ elim (cases_eq c hole) [
            | inl at ↦ both (entry_at full a) (entry_at full c) (entry_at few a) e (at_other a off)
                (ap (entry_at full) at ∙ at_hole) (below a (subst (IsChild a) at is))
            | inr far ↦ both (entry_at full a) (entry_at full c) (entry_at few a) (entry_at few c) (at_other a off)
                (at_other c far) (h.rising a c is (omega (arith, low_c, l)) off far)
          ]
        ];
        apart = λ p q low_p low_q ne. elim (cases_eq p hole) [
          | inl is ↦ elim (cases_eq q hole) [
            | inl at ↦ absurd (ne (is ∙ sym at))
            | inr far ↦ subst₂ (λ a b. cyclic_index a ≢ cyclic_index b) (sym (ap (entry_at full) is
                ∙ at_hole)) (sym (at_other q far))
                (λ s. apart q (omega (arith, low_q, l)) far (sym s))
          ]
          | inr else ↦ elim (cases_eq q hole) [
            | inl at ↦ subst₂ (λ a b. cyclic_index a ≢ cyclic_index b) (sym (at_other p else)) (sym (ap (entry_at full) at
                ∙ at_hole))
                (apart p (omega (arith, low_p, l)) else)
            | inr far ↦ subst₂ (λ a b. cyclic_index a ≢ cyclic_index b) (sym (at_other p else)) (sym (at_other q far))
                (h.apart p q (omega (arith, low_p, l)) (omega (arith, low_q, l)) else far ne)
          ]
        ];
      }

  pub filled_is : (position : ℕ) (old : List Entry) → IsSame position old hole few → IsFilled position old e full
  filled_is position old h = let l = long in record {
    long = long ∙ h.long;
    here = (hole, omega (arith, in_hole, l), at_hole);
    from = λ p low. elim (cases_eq p hole) [
      | inl is ↦ inl (ap (entry_at full) is ∙ at_hole)
      | inr off ↦ inr (let (q, within, out, at) = h.from p (omega (arith, low, l)) off in (q, within, out, at_other p off ∙ at))
    ];
    to = λ q within out. (let (p, low, off, at) = h.to q within out in (p, omega (arith, low, l), at_other p off ∙ at));
  }

-- the hole was moved, and then filled
pub moved_filled : (position : ℕ) (old : List Entry) (hole : ℕ) (few : List Entry) (e : Entry) (new : List Entry)
    → IsSame position old hole few → IsFilled hole few e new → IsFilled position old e new
moved_filled position old hole few e new s f = record {
  long = f.long ∙ s.long;
  here = f.here;
  from = λ p low. elim (f.from p low) [
    | inl is ↦ inl is
    | inr (q, within, off, at) ↦ inr (let (k, inside, out, is) = s.from q within off in (k, inside, out, at ∙ is))
  ];
  to = λ k inside out. (let (q, within, off, is) = s.to k inside out in
      let (p, low, at) = f.to q within off in (p, low, at ∙ is));
}

-- the indexes of the others are as they were
pub apart_moved : (position : ℕ) (old : List Entry) (hole : ℕ) (few : List Entry) (e : Entry) → IsSame position old hole few
    → ((p : ℕ) → p < length old → p ≢ position → cyclic_index (entry_at old p) ≢ cyclic_index e)
    → (p : ℕ) → p < length few → p ≢ hole → cyclic_index (entry_at few p) ≢ cyclic_index e
apart_moved position old hole few e s apart p within off =
    let (q, inside, out, at) = s.from p within off in λ same. apart q inside out (ap cyclic_index (sym at) ∙ same)
