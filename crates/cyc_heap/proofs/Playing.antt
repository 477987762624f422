-- How the games are played, and what all of them come to.
use Rattle.std.proofs.Common.{◌≡◌, ◌≢◌, ℕ, zero, suc, ◌+◌, ◌-◌, ◌*◌, ◌/◌, ◌%◌, ◌<◌, ◌≤◌, inl, inr, ltb, leb, ◌==◌, ◌&&◌, ◌||◌}
use Rattle.std.proofs.Common.{Bool, true, false, List, length, refl, sym}
use Rattle.std.proofs.Common.{ap, ◌∙◌, subst, subst₂, arith}
use Rattle.std.proofs.Math.ListN.{set}
use Rattle.std.proofs.lemmas.Bool.{cases_eq, cases_lt}
use Rattle.std.proofs.lemmas.Bool.Decides.{nat_tests}
use Rattle.std.proofs.lemmas.List.{get_or-set_same, get_or-set_other}
use Rattle.cyc_types.proofs.Order.{test_total, test_antisym, test_trans}
use Rattle.cyc_heap.specs.declared.entry.Entry.{Entry}
use Rattle.cyc_heap.specs.Tournament.{nowhere, entry_at, last_position, comes, IsWinner, IsPlayed, IsPlayedBut}

-- it doesn't matter which of the two stands first
pub winner_of_either : (won a b : Entry) → IsWinner won a b → IsWinner won b a
winner_of_either won a b h = record {
  one = elim h.one [ inl is ↦ inr is | inr is ↦ inl is ];
  left = h.right;
  right = h.left;
}

pub winner_at : (won a b x y z : Entry) → x ≡ won → y ≡ a → z ≡ b → IsWinner won a b → IsWinner x y z
winner_at won a b x y z p q r h = subst (λ x. IsWinner x y z) (sym p)
    (subst₂ (λ y z. IsWinner won y z) (sym q) (sym r) h)

-- the game of the entry at p is played again
module _ (size p : ℕ) (xs : List Entry) (won : Entry) (long : length xs + 1 ≡ 2 * size) (low : p + 2 < 2 * size) where
  abbrev pub new : List Entry
  new = set xs (size + p / 2) won

  other : (i : ℕ) → i ≢ size + p / 2 → entry_at new i ≡ entry_at xs i
  other i off = get_or-set_other xs (size + p / 2) i won nowhere off

  here : (g : ℕ) → g ≡ p / 2 → entry_at new (size + g) ≡ won
  here g is = ap (λ g. entry_at new (size + g)) is ∙ get_or-set_same xs (size + p / 2) won nowhere (omega (arith, long, low))

  pub played_again : IsWinner won (entry_at xs p) (entry_at xs (4 * (p / 2) + 1 - p)) → IsPlayedBut (p / 2) size xs
      → IsPlayedBut ((size + p / 2) / 2) size new
  played_again best played g within off = elim (cases_eq g (p / 2)) [
    | inl is ↦ elim (cases_lt (p % 2) 1) [
      | inl even ↦ winner_at won (entry_at xs p) (entry_at xs (4 * (p / 2) + 1 - p)) (entry_at new (size + g))
          (entry_at new (2 * g)) (entry_at new (2 * g + 1)) (here g is)
          (other (2 * g) (λ q. absurd (omega (arith, q, is, within))) ∙ ap (entry_at xs)
          (let e : 2 * g ≡ p = omega (arith, is, even) in e))
          (other (2 * g + 1) (λ q. absurd (omega (arith, q, is, within))) ∙ ap (entry_at xs)
          (let e : 2 * g + 1 ≡ 4 * (p / 2) + 1 - p = omega (arith, is, even) in e))
          best
      | inr odd ↦ winner_at won (entry_at xs (4 * (p / 2) + 1 - p)) (entry_at xs p) (entry_at new (size + g))
          (entry_at new (2 * g)) (entry_at new (2 * g + 1)) (here g is)
          (other (2 * g) (λ q. absurd (omega (arith, q, is, within))) ∙ ap (entry_at xs)
          (let e : 2 * g ≡ 4 * (p / 2) + 1 - p = omega (arith, is, odd) in e))
          (other (2 * g + 1) (λ q. absurd (omega (arith, q, is, within))) ∙ ap (entry_at xs)
          (let e : 2 * g + 1 ≡ p = omega (arith, is, odd) in e))
          (winner_of_either won (entry_at xs p) (entry_at xs (4 * (p / 2) + 1 - p)) best)
    ]
    | inr apart ↦ winner_at (entry_at xs (size + g)) (entry_at xs (2 * g)) (entry_at xs (2 * g + 1)) (entry_at new (size + g))
        (entry_at new (2 * g)) (entry_at new (2 * g + 1))
        (other (size + g) (λ q. apart (let e : g ≡ p / 2 = omega (arith, q) in e)))
        (other (2 * g) (λ q. off (let e : g ≡ (size + p / 2) / 2 = omega (arith, q) in e)))
        (other (2 * g + 1) (λ q. off (let e : g ≡ (size + p / 2) / 2 = omega (arith, q) in e)))
        (played g within apart)
  ]

pub comes_self : (a : Entry) → comes a a ≡ true
comes_self a = self (comes a a) refl
  where
    self : (b : Bool) → comes a a ≡ b → b ≡ true
    self true h = refl
    self false h = sym h ∙ test_total a.moment a.word a.moment a.word h

pub comes_by_moment : (a b : Entry) → a.moment < b.moment → comes a b ≡ true
comes_by_moment a b less = earlier a.moment a.word b.moment b.word less
  where
    earlier : (m i n j : ℕ) → m < n → (ltb m n || ((m == n) && leb i j)) ≡ true
    earlier m i n j less = grind (arith, nat_tests)

pub comes_trans : (a b c : Entry) → comes a b ≡ true → comes b c ≡ true → comes a c ≡ true
comes_trans a b c h k = test_trans a.moment a.word b.moment b.word c.moment c.word h k

pub comes_antisym : (a b : Entry) → comes a b ≡ true → comes b a ≡ true → a ≡ b
comes_antisym a b h k = let (m, n) = test_antisym a.moment a.word b.moment b.word h k in λ i. record { moment = m i; word = n i }

-- what all games come to
module _ (size : ℕ) (xs : List Entry) (played : IsPlayed size xs) where
  -- the last winner comes no later than an entry that is so many positions before it, with a bound on their number
  up : (bound p : ℕ) → p ≤ last_position size → last_position size < p + bound → 0 < size
      → comes (entry_at xs (last_position size)) (entry_at xs p) ≡ true
  up zero p low near some = absurd (omega (arith, low, near))
  up (suc bound) p low near some = elim (cases_eq p (last_position size)) [
    | inl is ↦ subst (λ p. comes (entry_at xs (last_position size)) (entry_at xs p) ≡ true) (sym is)
        (comes_self (entry_at xs (last_position size)))
    | inr off ↦ (let within : suc (p / 2) < size = omega (arith, low, off) in
        let game = played (p / 2) within in
        comes_trans (entry_at xs (last_position size)) (entry_at xs (size + p / 2)) (entry_at xs p)
        (up bound (size + p / 2) (omega (arith, within)) (omega (arith, near, within, low, off)) some)
        (elim (cases_lt (p % 2) 1) [
          | inl even ↦ subst (λ i. comes (entry_at xs (size + p / 2)) (entry_at xs i) ≡ true)
              (let e : 2 * (p / 2) ≡ p = omega (arith, even) in e) game.left
          | inr odd ↦ subst (λ i. comes (entry_at xs (size + p / 2)) (entry_at xs i) ≡ true)
              (let e : 2 * (p / 2) + 1 ≡ p = omega (arith, odd) in e) game.right
        ]))
  ]

  -- the last winner comes no later than any leaf
  pub least_of_all : (i : ℕ) → i < size → comes (entry_at xs (last_position size)) (entry_at xs i) ≡ true
  least_of_all i low = up (2 * size) i (omega (arith, low)) (omega (arith, low)) (omega (arith, low))

  -- each entry up to the last winner is one of the leaves
  down : (bound p : ℕ) → p < bound → p ≤ last_position size → 0 < size
      → (i : ℕ) × (i < size) × (entry_at xs p ≡ entry_at xs i)
  down zero p near low some = absurd (omega (arith, near))
  down (suc bound) p near low some = elim (cases_lt p size) [
    | inl leaf ↦ (p, leaf, refl)
    | inr after ↦ (let g = p - size in
        let within : suc g < size = omega (arith, low, after) in
        let position : size + g ≡ p = omega (arith, after) in
        elim (played g within).one [
          | inl is ↦ (let (i, leaf, same) = down bound (2 * g) (omega (arith, near, within, after)) (omega
              (arith, within)) some in
              (i, leaf, sym (ap (entry_at xs) position) ∙ is ∙ same))
          | inr is ↦ (let (i, leaf, same) = down bound (2 * g + 1) (omega (arith, near, within, after)) (omega
              (arith, within)) some
              in (i, leaf, sym (ap (entry_at xs) position) ∙ is ∙ same))
        ])
  ]

  pub any_of_all : (p : ℕ) → p ≤ last_position size → 0 < size → (i : ℕ) × (i < size) × (entry_at xs p ≡ entry_at xs i)
  any_of_all p low some = down (2 * size) p (omega (arith, low, some)) low some

  -- the last winner is one of the leaves
  pub one_of_all : 0 < size → (i : ℕ) × (i < size) × (entry_at xs (last_position size) ≡ entry_at xs i)
  one_of_all some = any_of_all (last_position size) (omega arith) some
