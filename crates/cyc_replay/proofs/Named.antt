-- The id of a name.
use Rattle.std.proofs.Common.{◌≡◌, ℕ, ◌==◌, ne_eqb, true, cond, List, [], ◌∷◌, find, Option, Some, None, refl, ap, sym, ◌∙◌}
use Rattle.std.proofs.Common.{subst, arith}
use Rattle.std.specs.Prelude.{not, is_some, ◌||◌, slice_index_or}
use Rattle.std.specs.Option.{option_map}
use Rattle.std.proofs.Math.ListN.{get_or-map}
use Rattle.cyc_types.specs.declared.refusal.Refusal.{Refusal}
use Rattle.cyc_types.specs.declared.refusal.Refusal.TheVariants.{NoCyclic}
use Rattle.cyc_model.specs.State.{State, Placed}
use Rattle.cyc_model.specs.Places.{id_of, is_no_cyclic, is_being_removed}
use Rattle.cyc_types.specs.Reasons.{when, or_else}
use Rattle.cyc_model.specs.Laws.{RiseTo}
use Rattle.cyc_model.specs.Bind.{cyclic_is_absent}
use Rattle.cyc_model.proofs.Spread.{Good}
use Rattle.cyc_model.proofs.Reaching.{run_good}
use Rattle.cyc_replay.specs.declared.machine.Machine.{Machine}
use Rattle.cyc_words.specs.declared.named.Named.{Named}
use Rattle.cyc_words.specs.declared.named.Named.TheVariants.{Nothing, Cyclic, Leaving, Removed}
use Rattle.cyc_words.specs.Names.{named_at, cyclic_id as word_id}
use Rattle.cyc_words.specs.Words.{WithId}
use Rattle.cyc_replay.specs.Machine.{ShowsMachine, IsReached, id_of_named, id_at, name_number}

pub reached_good : (step : ℕ) (s : State) → IsReached step s → Good s
reached_good step s r = subst (λ x. Good x) (sym r.is) (run_good r.indexes r.cpus r.ceiling r.texts r.steps r.some)

-- no cyclic has the number 0
none_at_zero : (low high : ℕ) (ps : List Placed) → RiseTo low ps high → find (λ p. p.id == 0) ps ≡ None
none_at_zero low high [] rise = refl
none_at_zero low high (p ∷ ps) rise =
    let above = rise.0 in
    ap (λ b. cond b (Some p) (find (λ (q : Placed). q.id == 0) ps)) (ne_eqb p.id 0 (λ e. omega (arith, e, above)))
    ∙ none_at_zero p.id high ps rise.1

pub zero_unknown : (step : ℕ) (s : State) → IsReached step s → is_no_cyclic 0 s ≡ true
zero_unknown step s r =
    ap (λ o. not (is_some (option_map (λ (p : Placed). p.placement) o)))
    (none_at_zero 0 s.last_id s.placed (reached_good step s r).base.rise)

-- the definition has the same id of a name
pub same_id : (s : State) (m : Machine) (name : ℕ) (o : Option ℕ) → ShowsMachine s m → o ≡ id_at m.names name
    → id_of name s ≡ name_number o
same_id s m name o h found =
    (λ z. slice_index_or (h.names z) name 0) ∙ get_or-map (λ n. name_number (id_of_named n)) m.names name Nothing
    ∙ ap name_number (sym found)

-- a name whose id the definition doesn't know has no cyclic
pub nobody : (s : State) (name : ℕ) → is_no_cyclic (id_of name s) s ≡ true → cyclic_is_absent (id_of name s) s ≡ Some NoCyclic
nobody s name gone = ap (λ b. when (b || is_being_removed (id_of name s) s) NoCyclic) gone

-- whatever else would refuse a step on it
pub nobody_first : (s : State) (name : ℕ) (whys : Option Refusal) → is_no_cyclic (id_of name s) s ≡ true
    → or_else (cyclic_is_absent (id_of name s) s) whys ≡ Some NoCyclic
nobody_first s name whys gone = ap (λ o. or_else o whys) (nobody s name gone)

-- what follows for the id of a name, where it has one, and where the definition knows no cyclic of it
pub named_so : (step : ℕ) (s : State) (m : Machine) → IsReached step s → ShowsMachine s m → (L : Type 0) (name : ℕ) (P : ℕ
    → Type 0)
    (N : Type 0) → ((id : ℕ) → id_at m.names name ≡ Some id → id_of name s ≡ id → P id → L)
    → (is_no_cyclic (id_of name s) s ≡ true → N → L) → WithId (word_id (named_at m.names name)) P N → L
named_so step s m r h L name P N go stop w = by (named_at m.names name) refl w
  where
    unknown_at : (k : ℕ) → id_of name s ≡ k → is_no_cyclic k s ≡ true → is_no_cyclic (id_of name s) s ≡ true
    unknown_at k same gone = ap (λ i. is_no_cyclic i s) same ∙ gone

    by : (o : Named) → named_at m.names name ≡ o → WithId (word_id o) P N → L
    by Nothing e n = stop (unknown_at 0 (same_id s m name None h (sym (ap id_of_named e))) (zero_unknown step s r)) n
    by (Cyclic id) e p = go id (ap id_of_named e) (same_id s m name (Some id) h (sym (ap id_of_named e))) p
    by (Leaving id) e p = go id (ap id_of_named e) (same_id s m name (Some id) h (sym (ap id_of_named e))) p
    by (Removed receipt) e n = stop (unknown_at receipt.id (same_id s m name (Some receipt.id) h (sym (ap id_of_named e)))
        (h.remembers.removed name receipt e)) n
