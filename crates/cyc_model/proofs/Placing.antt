-- Where the cyclics of a machine are.
use Rattle.std.proofs.Common.{◌≡◌, ◌≢◌, ℕ, ◌+◌, ◌<◌, ◌≤◌, ◌==◌, eq-eqb, ne_eqb, Bool, cond, List, [], ◌∷◌, map}
use Rattle.std.proofs.Common.{Option, Some, None, refl, ap, sym, ◌∙◌, subst, arith}
use Rattle.std.specs.Prelude.{not, find, filter}
use Rattle.std.specs.Option.{option_map, option_or}
use Rattle.std.proofs.lemmas.List.Folds.{find-append}
use mathlib.Core.Logic.{dite}
use native.Mathlib.Decide.{ℕ_discrete}
use Rattle.cyc_level.proofs.Maps.{some_same}
use Rattle.cyc_model.specs.State.{State, Placement, Placed}
use Rattle.cyc_model.specs.Places.{placement_of, put_at, replaced, given, forgotten}
use Rattle.cyc_model.specs.Laws.{RiseTo}
use Rattle.cyc_model.proofs.Given.{replaced_id}

abbrev pub entry : ℕ → List Placed → Option Placed
entry id ps = find (λ p. p.id == id) ps

abbrev pub with_entry : Bool → Placed → Option Placed → Option Placed
with_entry b p o = cond b (Some p) o

entry_first : (id : ℕ) (p : Placed) (ps : List Placed) → p.id ≡ id → entry id (p ∷ ps) ≡ Some p
entry_first id p ps e = ap (λ (b : Bool). with_entry b p (entry id ps)) (eq-eqb p.id id e)

entry_rest : (id : ℕ) (p : Placed) (ps : List Placed) → p.id ≢ id → entry id (p ∷ ps) ≡ entry id ps
entry_rest id p ps ne = ap (λ (b : Bool). with_entry b p (entry id ps)) (ne_eqb p.id id ne)

-- no entry above the last id that was given, nor below the first
pub entry_above : (low high id : ℕ) (ps : List Placed) → RiseTo low ps high → high < id → entry id ps ≡ None
entry_above low high id [] h above = refl
entry_above low high id (p ∷ ps) h above =
    let le = rise_first low high p ps h in
    entry_rest id p ps (λ (e : p.id ≡ id). omega (arith, le, e, above)) ∙ entry_above p.id high id ps h.1 above
  where
    rise_first : (a b : ℕ) (q : Placed) (qs : List Placed) → RiseTo a (q ∷ qs) b → q.id ≤ b
    rise_first a b q [] r = r.1
    rise_first a b q (q2 ∷ qs) r = let x = r.1.0 in let y = rise_first q.id b q2 qs r.1 in omega (arith, x, y)

pub entry_within : (low high id : ℕ) (ps : List Placed) → RiseTo low ps high → (p : Placed) → entry id ps ≡ Some p
    → (low < id) × (id ≤ high)
entry_within low high id [] h p e = absurd (cc)
entry_within low high id (q ∷ qs) h p e = dite (ℕ_discrete q.id id)
    (λ same. let a = h.0 in let b = rise_from q.id high qs h.1 in (omega (arith, a, same), omega (arith, b, same)))
    (λ ne. let r = entry_within q.id high id qs h.1 p (sym (entry_rest id q qs ne) ∙ e) in
    let a = h.0 in let b = r.0 in (omega (arith, a, b), r.1))
  where
    rise_from : (a b : ℕ) (rs : List Placed) → RiseTo a rs b → a ≤ b
    rise_from a b [] r = r
    rise_from a b (x ∷ xs) r = let u = r.0 in let v = rise_from x.id b xs r.1 in omega (arith, u, v)

-- ---- one entry more, one changed, one less

pub placement_given_new : (name : ℕ) (placement : Placement) (s : State) → RiseTo 0 s.placed s.last_id
    → placement_of (s.last_id + 1) (given name placement s) ≡ Some placement
placement_given_new name placement s rise =
    let none : entry (s.last_id + 1) s.placed ≡ None = entry_above 0 s.last_id (s.last_id + 1) s.placed rise (omega arith) in
    let new : Placed = record { id = s.last_id + 1; placement = placement } in
    ap (option_map (λ (p : Placed). p.placement))
    (find-append (λ (p : Placed). p.id == s.last_id + 1) s.placed (new ∷ [])
    ∙ ap (λ (o : Option Placed). option_or o (entry (s.last_id + 1) (new ∷ []))) none
    ∙ entry_first (s.last_id + 1) new [] refl)

pub placement_given_old : (name : ℕ) (placement : Placement) (s : State) (id : ℕ) (p : Placement) → placement_of id s ≡ Some p
    → placement_of id (given name placement s) ≡ Some p
placement_given_old name placement s id p is =
    ap (option_map (λ (q : Placed). q.placement)) (find-append (λ (q : Placed). q.id == id) s.placed (record {
      id = s.last_id
          + 1;
      placement = placement;
    } ∷ []))
    ∙ by (entry id s.placed) (entry id (record { id = s.last_id + 1; placement = placement } ∷ [])) is
  where
    by : (o r : Option Placed) → option_map (λ (q : Placed). q.placement) o ≡ Some p
        → option_map (λ (q : Placed). q.placement) (option_or o r) ≡ Some p
    by None r e = absurd (cc)
    by (Some q) r e = e

pub placement_given_other : (name : ℕ) (placement : Placement) (s : State) (id : ℕ) → id ≢ s.last_id + 1
    → placement_of id (given name placement s) ≡ placement_of id s
placement_given_other name placement s id ne =
    let new : Placed = record { id = s.last_id + 1; placement = placement } in
    ap (option_map (λ (q : Placed). q.placement)) (find-append (λ (q : Placed). q.id == id) s.placed (new ∷ [])
    ∙ ap (λ (o : Option Placed). option_or (entry id s.placed) o) (entry_rest id new [] (λ e. ne (sym e)))
    ∙ or_none (entry id s.placed))
  where
    or_none : (o : Option Placed) → option_or o None ≡ o
    or_none None = refl
    or_none (Some p) = refl

entry_replaced : (id j : ℕ) (placement : Placement) (ps : List Placed)
    → entry j (map (replaced id placement) ps) ≡ option_map (replaced id placement) (entry j ps)
entry_replaced id j placement [] = refl
entry_replaced id j placement (p ∷ ps) = dite (ℕ_discrete p.id j)
    (λ e. entry_first j (replaced id placement p) (map (replaced id placement) ps) (replaced_id id placement p ∙ e)
    ∙ ap (option_map (replaced id placement)) (sym (entry_first j p ps e)))
    (λ ne. entry_rest j (replaced id placement p) (map (replaced id placement) ps)
    (λ e. ne (sym (replaced_id id placement p) ∙ e))
    ∙ entry_replaced id j placement ps ∙ ap (option_map (replaced id placement)) (sym (entry_rest j p ps ne)))

pub entry_id : (id : ℕ) (p : Placed) (ps : List Placed) → entry id ps ≡ Some p → p.id ≡ id
entry_id id p [] e = absurd (cc)
entry_id id p (q ∷ qs) e = dite (ℕ_discrete q.id id)
    (λ same. subst (λ (z : Placed). z.id ≡ id) (some_same q p (sym (entry_first id q qs same) ∙ e)) same)
    (λ ne. entry_id id p qs (sym (entry_rest id q qs ne) ∙ e))

pub placement_put_other : (id j : ℕ) (placement : Placement) (s : State) → j ≢ id
    → placement_of j (put_at id placement s) ≡ placement_of j s
placement_put_other id j placement s ne =
    ap (option_map (λ (q : Placed). q.placement)) (entry_replaced id j placement s.placed)
    ∙ by (entry j s.placed) refl
  where
    by : (o : Option Placed) → entry j s.placed ≡ o
        → option_map (λ (q : Placed). q.placement) (option_map (replaced id placement) o) ≡ option_map
        (λ (q : Placed). q.placement) o
    by None is = refl
    by (Some p) is = ap (λ (b : Bool). Some ((cond b (record p { placement = placement }) p).placement))
        (ne_eqb p.id id (λ e. ne (sym (entry_id j p s.placed is) ∙ e)))

pub placement_put_same : (id : ℕ) (placement : Placement) (s : State) (p : Placement) → placement_of id s ≡ Some p
    → placement_of id (put_at id placement s) ≡ Some placement
placement_put_same id placement s p known =
    ap (option_map (λ (q : Placed). q.placement)) (entry_replaced id id placement s.placed)
    ∙ by (entry id s.placed) refl known
  where
    by : (o : Option Placed) → entry id s.placed ≡ o → option_map (λ (q : Placed). q.placement) o ≡ Some p
        → option_map (λ (q : Placed). q.placement) (option_map (replaced id placement) o) ≡ Some placement
    by None is e = absurd (cc)
    by (Some q) is e = ap (λ (b : Bool). Some ((cond b (record q { placement = placement }) q).placement))
        (eq-eqb q.id id (entry_id id q s.placed is))

abbrev pub kept : Bool → Placed → List Placed → List Placed
kept b p ps = cond b (p ∷ ps) ps

entry_forgotten : (id j : ℕ) (ps : List Placed) → j ≢ id → entry j (filter (λ p. not (p.id == id)) ps) ≡ entry j ps
entry_forgotten id j [] ne = refl
entry_forgotten id j (p ∷ ps) ne = dite (ℕ_discrete p.id id)
    (λ e. ap (λ (b : Bool). entry j (kept (not b) p (filter (λ q. not (q.id == id)) ps))) (eq-eqb p.id id e)
    ∙ entry_forgotten id j ps ne ∙ sym (entry_rest j p ps (λ s. ne (sym s ∙ e))))
    (λ far. ap (λ (b : Bool). entry j (kept (not b) p (filter (λ q. not (q.id == id)) ps))) (ne_eqb p.id id far)
    ∙ ap (with_entry (p.id == j) p) (entry_forgotten id j ps ne))

pub placement_forgotten_other : (id j : ℕ) (s : State) → j ≢ id → placement_of j (forgotten id s) ≡ placement_of j s
placement_forgotten_other id j s ne = ap (option_map (λ (q : Placed). q.placement)) (entry_forgotten id j s.placed ne)

entry_forgot : (id : ℕ) (ps : List Placed) → entry id (filter (λ p. not (p.id == id)) ps) ≡ None
entry_forgot id [] = refl
entry_forgot id (p ∷ ps) = dite (ℕ_discrete p.id id)
    (λ e. ap (λ (b : Bool). entry id (kept (not b) p (filter (λ q. not (q.id == id)) ps))) (eq-eqb p.id id e)
    ∙ entry_forgot id ps)
    (λ far. ap (λ (b : Bool). entry id (kept (not b) p (filter (λ q. not (q.id == id)) ps))) (ne_eqb p.id id far)
    ∙ entry_rest id p (filter (λ q. not (q.id == id)) ps) far ∙ entry_forgot id ps)

pub placement_forgotten : (id : ℕ) (s : State) → placement_of id (forgotten id s) ≡ None
placement_forgotten id s = ap (option_map (λ (q : Placed). q.placement)) (entry_forgot id s.placed)

-- the placement of an id that isn't known stays unknown
pub placement_known : (id : ℕ) (s : State) (p : Placement) → RiseTo 0 s.placed s.last_id → placement_of id s ≡ Some p
    → (0 < id) × (id ≤ s.last_id)
placement_known id s p rise is = by (entry id s.placed) refl is
  where
    by : (o : Option Placed) → entry id s.placed ≡ o → option_map (λ (q : Placed). q.placement) o ≡ Some p
        → (0 < id) × (id ≤ s.last_id)
    by None at e = absurd (cc)
    by (Some q) at e = entry_within 0 s.last_id id s.placed rise q at

pub placement_new : (s : State) → RiseTo 0 s.placed s.last_id → placement_of (s.last_id + 1) s ≡ None
placement_new s rise = ap (option_map (λ (q : Placed). q.placement)) (entry_above 0 s.last_id (s.last_id + 1) s.placed rise (omega
    arith))
