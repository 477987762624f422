-- The ids whose removals are open, in the order in which they are polled.
use Rattle.std.proofs.Common.{◌≡◌, ℕ, ◌+◌, ◌<◌, ◌≤◌, ◌==◌, eqb-true, inl, inr, ◌⊎◌, ⊎_elim, Bool, true, false, cond, List, []}
use Rattle.std.proofs.Common.{◌∷◌, ◌++◌, map, filter, find, Option, Some, None, refl, ap, sym, ◌∙◌, subst, arith}
use Rattle.std.specs.Prelude.{nat_le}
use Rattle.std.specs.Option.{option_map}
use Rattle.std.proofs.lemmas.Bool.Decides.{nat_tests}
use Rattle.cyc_model.specs.State.{State, Placed, cpu_of}
use Rattle.cyc_model.specs.Places.{placement_of, is_being_removed}
use Rattle.cyc_model.specs.Softint.{leaving_ids}
use Rattle.cyc_model.proofs.Base.{IsAt}
use Rattle.cyc_model.proofs.Spread.{Good}
use Rattle.cyc_model.proofs.Numbers.{Has, RiseFrom, has_above, not_leaving}
use Rattle.cyc_model.proofs.Juggling.{filter_rise, filtered, filtering}
use Rattle.cyc_model.proofs.Staying.{leaving_where}
use Rattle.cyc_model.proofs.Printing.{placed_rise}

-- those of these numbers that are at most this one
abbrev pub up_to : ℕ → List ℕ → List ℕ
up_to last ids = filter (λ id. nat_le id last) ids

is_low : (a b : ℕ) → a ≤ b → nat_le a b ≡ true
is_low a b h = grind (arith, nat_tests)

is_high : (a b : ℕ) → b < a → nat_le a b ≡ false
is_high a b h = grind (arith, nat_tests)

low_is : (a b : ℕ) → nat_le a b ≡ true → a ≤ b
low_is a b h = grind (arith, nat_tests)

high_is : (a b : ℕ) → nat_le a b ≡ false → b < a
high_is a b h = grind (arith, nat_tests)

pub none_up_to : (low last : ℕ) (ids : List ℕ) → RiseFrom low ids → last < low → up_to last ids ≡ []
none_up_to low last [] rise less = refl
none_up_to low last (x ∷ xs) rise less =
    let above = rise.0 in
    ap (λ b. cond b (x ∷ up_to last xs) (up_to last xs)) (is_high x last (omega (arith, above, less)))
    ∙ none_up_to (x + 1) last xs rise.1 (omega (arith, above, less))

pub all_up_to : (last : ℕ) (ids : List ℕ) → ((k : ℕ) → Has k ids → k ≤ last) → up_to last ids ≡ ids
all_up_to last [] low = refl
all_up_to last (x ∷ xs) low =
    ap (λ b. cond b (x ∷ up_to last xs) (up_to last xs)) (is_low x last (low x (inl refl)))
    ∙ ap (λ ys. x ∷ ys) (all_up_to last xs (λ k has. low k (inr has)))

-- the next one
pub one_up_to : (low last id : ℕ) (ids : List ℕ) → RiseFrom low ids → last < id → Has id ids
    → ((k : ℕ) → Has k ids → last < k → id ≤ k) → up_to id ids ≡ up_to last ids ++ id ∷ []
one_up_to low last id [] rise less has least = absurd has
one_up_to low last id (x ∷ xs) rise less has least =
    by (nat_le x last) refl (λ later. one_up_to (x + 1) last id xs rise.1 less later (λ k h. least k (inr h)))
  where
    by : (b : Bool) → nat_le x last ≡ b → (Has id xs → up_to id xs ≡ up_to last xs ++ id ∷ [])
        → up_to id (x ∷ xs) ≡ cond b (x ∷ up_to last xs) (up_to last xs) ++ id ∷ []
    by true is more =
        let within = low_is x last is in
        let later : Has id xs = ⊎_elim (λ e. absurd (omega (arith, e, within, less))) (λ h. h) has in
        ap (λ b. cond b (x ∷ up_to id xs) (up_to id xs)) (is_low x id (omega (arith, within, less)))
        ∙ ap (λ ys. x ∷ ys) (more later)
    by false is more =
        let above = high_is x last is in let first = least x (inl refl) above in
        let same : id ≡ x = ⊎_elim (λ e. e) (λ h. let far = has_above (x + 1) id xs rise.1 h in
        absurd (omega (arith, far, first))) has in
        ap (λ b. cond b (x ∷ up_to id xs) (up_to id xs)) (is_low x id (omega (arith, same)))
        ∙ ap (λ ys. x ∷ ys) (none_up_to (x + 1) id xs rise.1 (omega (arith, same)))
        ∙ ap (λ k. k ∷ []) (sym same)
        ∙ ap (λ ys. ys ++ id ∷ []) (sym (none_up_to (x + 1) last xs rise.1 (omega (arith, above))))

-- ---- the open removals of a machine

pub leaving_rise : (s : State) → Good s → RiseFrom 1 (leaving_ids s)
leaving_rise s g = filter_rise (λ id. is_being_removed id s) 1 (map (λ (p : Placed). p.id) s.placed)
    (placed_rise 0 s.last_id s.placed g.base.rise)

-- each is open on some CPU
pub leaving_open : (s : State) (k : ℕ) → Has k (leaving_ids s) → (n : ℕ) × ((cpu_of n s).removal ≡ Some k)
leaving_open s k has = leaving_where k s (filtered (λ id. is_being_removed id s) k (map (λ (p : Placed). p.id) s.placed) has).1

-- and one that is open is among them
found_there : (k : ℕ) (p : Placed) (ps : List Placed) → find (λ (q : Placed). q.id == k) ps ≡ Some p
    → Has k (map (λ (q : Placed). q.id) ps)
found_there k p [] is = absurd (let no : None ≡ Some p = is in cc)
found_there k p (q ∷ ps) is = by (q.id == k) refl is (found_there k p ps)
  where
    by : (b : Bool) → (q.id == k) ≡ b → cond b (Some q) (find (λ (r : Placed). r.id == k) ps) ≡ Some p
        → (find (λ (r : Placed). r.id == k) ps ≡ Some p → Has k (map (λ (r : Placed). r.id) ps)) → (k ≡ q.id)
        ⊎ Has k (map (λ (r : Placed). r.id) ps)
    by true e at more = inl (sym (eqb-true q.id k e))
    by false e at more = inr (more at)

pub open_leaving : (s : State) → Good s → (n k : ℕ) → (cpu_of n s).removal ≡ Some k → Has k (leaving_ids s)
open_leaving s g n k is =
    filtering (λ id. is_being_removed id s) k (map (λ (p : Placed). p.id) s.placed)
    (placed (find (λ (p : Placed). p.id == k) s.placed) refl) (leaving (is_being_removed k s) refl)
  where
    leaving : (b : Bool) → is_being_removed k s ≡ b → is_being_removed k s ≡ true
    leaving true e = e
    leaving false e = absurd (not_leaving k s e n is)

    at : IsAt n (placement_of k s)
    at = g.base.homes n k ((g.base.whole n).held k is)

    placed : (o : Option Placed) → find (λ (p : Placed). p.id == k) s.placed ≡ o → Has k (map (λ (p : Placed). p.id) s.placed)
    placed None e = absurd (subst (λ (r : Option Placed). IsAt n (option_map (λ (p : Placed). p.placement) r)) e at)
    placed (Some p) e = found_there k p s.placed e
