-- A cyclic that has another placement.
use Rattle.std.proofs.Common.{◌≡◌, ◌≢◌, ℕ, zero, suc, ◌==◌, ◌⊎◌, inl, inr, Bool, true, false, cond, List, [], ◌∷◌, map, Some}
use Rattle.std.proofs.Common.{None, refl, ap, sym, ◌∙◌, subst, arith}
use Rattle.std.specs.Prelude.{slice_set, Ok, Err}
use Rattle.std.specs.List.{slice_get}
use Rattle.std.proofs.lemmas.Option.{slice_get_within}
use Rattle.std.proofs.lemmas.Bool.Decides.{eqb_tells}
use mathlib.Core.Logic.{dite}
use native.Mathlib.Decide.{ℕ_discrete}
use Rattle.cyc_types.specs.declared.refusal.Refusal.{Refusal}
use Rattle.cyc_types.specs.declared.refusal.Refusal.TheVariants.{NoCyclic, Omnipresent}
use Rattle.cyc_core.specs.Tables.{Tables}
use Rattle.cyc_script.specs.declared.step.Step.TheVariants as steps
use Rattle.cyc_cpu.specs.Soft.{raise_tables}
use Rattle.cyc_places.specs.declared.record.Placement.TheVariants as placements
use Rattle.cyc_places.specs.declared.record.Record.{Record}
use Rattle.cyc_places.specs.Places.{IsRecord, HasRisingIds, with_placement, ended_on}
use Rattle.cyc_system.proofs.CpusSpots.{get_set_same, get_set_other}
use Rattle.cyc_system.specs.System.{SystemView}
use Rattle.cyc_system.specs.Refusals as why
use Rattle.cyc_system.specs.Binding.{Records}
use Rattle.cyc_system.specs.Calls.{Changes, Bind}
use Rattle.cyc_system.proofs.Spots.{same_some, none_some}
use Rattle.cyc_system.proofs.Recording.{tail_rises}
use Rattle.cyc_model.specs.State.{State, On, Placed, Placement}
use Rattle.cyc_model.specs.Places.{id_of, replaced}
use Rattle.cyc_types.specs.Reasons.{or_else}
use Rattle.cyc_model.specs.Bind.{cyclic_is_absent, cyclic_is_omni, unbind_refusal}
use Rattle.cyc_system_model.specs.Shown.{shown_cpus, shown_record, shown_counts, ShowsSystem, IsSystem}
use Rattle.cyc_system_model.specs.SystemWords.{IsDone, IsRefusedFor}
use Rattle.cyc_system_model.proofs.Asking.{home_shown, same_no_cyclic, same_omnipresent, no_memory_when, no_memory_else}
use Rattle.cyc_system_model.proofs.Asking.{is_refused, same_error}

-- ---- the records

named_so : (id : ℕ) (p : Placement) (q : Placed) → q.id ≡ id → replaced id p q ≡ record { id = q.id; placement = p }
named_so id p q is = ap (λ b. cond b (record { id = q.id; placement = p }) q) (eq q.id id is)
  where
    eq : (a b : ℕ) → a ≡ b → (a == b) ≡ true
    eq a b e = tells (eqb_tells a b)
      where
        tells : (((a == b) ≡ true) × (a ≡ b)) ⊎ (((a == b) ≡ false) × (a ≢ b)) → (a == b) ≡ true
        tells (inl (is, same)) = is
        tells (inr (isnt, ne)) = absurd (ne e)

named_other : (id : ℕ) (p : Placement) (q : Placed) → q.id ≢ id → replaced id p q ≡ q
named_other id p q isnt = tells (eqb_tells q.id id)
  where
    tells : (((q.id == id) ≡ true) × (q.id ≡ id)) ⊎ (((q.id == id) ≡ false) × (q.id ≢ id)) → replaced id p q ≡ q
    tells (inl (is, same)) = absurd (isnt same)
    tells (inr (is, ne)) = ap (λ b. cond b (record { id = q.id; placement = p }) q) is

all_others : (id : ℕ) (p : Placement) (rs : List Record) → ((j : ℕ) (q : Record) → IsRecord rs j q → q.id ≢ id)
    → map (replaced id p) (map shown_record rs) ≡ map shown_record rs
all_others id p [] none = refl
all_others id p (x ∷ rs) none =
    (λ z. named_other id p (shown_record x) (none 0 x refl) z ∷ all_others id p rs (λ j q is. none (suc j) q is) z)

replaced_shown : (id k n : ℕ) (b : Bool) (r : Record) (rs : List Record) → HasRisingIds rs → IsRecord rs k r → r.id ≡ id
    → map (replaced id (On n b)) (map shown_record rs) ≡ map shown_record (slice_set rs k (with_placement (placements.On n b) r))
replaced_shown id k n b r [] rising is named = absurd (none_some is)
replaced_shown id zero n b r (x ∷ rs) rising is named =
    let same : x ≡ r = same_some is in
    let own : x.id ≡ id = ap (λ (q : Record). q.id) same ∙ named in
    let rest = all_others id (On n b) rs (λ j q there. let less = rising 0 (suc j) x q (omega arith) refl there in
    λ e. absurd (omega (arith, less, e, own))) in
    (λ z. (named_so id (On n b) (shown_record x) own ∙ ap (λ (q : Record). record { id = q.id; placement = On n b }) same) z ∷
    rest z)
replaced_shown id (suc k) n b r (x ∷ rs) rising is named =
    let less = rising 0 (suc k) x r (omega arith) refl is in
    (λ z. named_other id (On n b) (shown_record x) (λ e. absurd (omega (arith, less, e, named))) z
    ∷ replaced_shown id k n b r rs (tail_rises x rs rising) is named z)

-- the ended stays are as they were
ended_same : (s : State) (v : SystemView Tables) (k n : ℕ) (b : Bool) (r : Record) → ShowsSystem s v → IsRecord v.records k r
    → (j : ℕ) (q : Record) → IsRecord (slice_set v.records k (with_placement (placements.On n b) r)) j q → (m : ℕ)
    → s.ended q.id m ≡ shown_counts (ended_on m q)
ended_same s v k n b r h is j q there m =
    dite (ℕ_discrete j k) here_so (λ ne. h.ended j q (sym (get_set_other v.records k j (with_placement (placements.On n b) r) ne)
    ∙ there) m)
  where
    here_so : j ≡ k → s.ended q.id m ≡ shown_counts (ended_on m q)
    here_so e =
        let new = with_placement (placements.On n b) r in
        let at : Some q ≡ Some new = sym (subst (λ i. slice_get (slice_set v.records k new) i ≡ Some q) e there)
        ∙ get_set_same v.records k new (slice_get_within v.records k r is) in
        subst (λ (x : Record). s.ended x.id m ≡ shown_counts (ended_on m x)) (sym (same_some at)) (h.ended k r is m)

-- the machine with the other placement shows the system with it
pub replaced_shows : (s x : State) (v w : SystemView Tables) → ShowsSystem s v → HasRisingIds v.records → (id n : ℕ) (b : Bool)
    → Records id (placements.On n b) v w → x.cpus ≡ shown_cpus w.cpus → x.placed ≡ map (replaced id (On n b)) s.placed
    → ((i m : ℕ) → x.ended i m ≡ s.ended i m) → x.last_id ≡ s.last_id → ShowsSystem x w
replaced_shows s x v w h rising id n b (k, r, is, named, records, last) cpus placed ended gives = record {
  cpus = cpus;
  placed = placed ∙ ap (map (replaced id (On n b))) h.placed ∙ replaced_shown id k n b r v.records rising is named
      ∙ sym (ap (map shown_record) records);
  ended = λ j q there m. ended q.id m ∙ ended_same s v k n b r h is j q (subst (λ rs. IsRecord rs j q) records there) m;
  fresh = λ i m less. ended i m ∙ h.fresh i m (omega (arith, less, gives));
  last = gives ∙ h.last ∙ sym last;
}

-- a placement that is replaced twice
pub replaced_twice : (id : ℕ) (p o : Placement) (ps : List Placed)
    → map (replaced id p) (map (replaced id o) ps) ≡ map (replaced id p) ps
replaced_twice id p o [] = refl
replaced_twice id p o (q ∷ ps) = (λ z. once (eqb_tells q.id id) z ∷ replaced_twice id p o ps z)
  where
    once : (((q.id == id) ≡ true) × (q.id ≡ id)) ⊎ (((q.id == id) ≡ false) × (q.id ≢ id))
        → replaced id p (replaced id o q) ≡ replaced id p q
    once (inl (is, same)) = ap (replaced id p) (named_so id o q same) ∙ named_so id p (record { id = q.id; placement = o }) same
        ∙ sym (named_so id p q same)
    once (inr (is, ne)) = ap (replaced id p) (named_other id o q ne)

-- ---- a cyclic that is bound no more

module _ (name : ℕ) (s : State) (v w : SystemView Tables) (sys : IsSystem v) (h : ShowsSystem s v) where
  same_whys : unbind_refusal name s ≡ or_else (why.no_cyclic (id_of name s) v) (or_else (why.omnipresent (id_of name s) v) None)
  same_whys = λ z. or_else (same_no_cyclic s v h sys.agrees.long (id_of name s) z)
      (or_else (same_omnipresent s v h sys.agrees.long (id_of name s) z) None)

  pub unbind_accepted : Changes raise_tables v (Bind (id_of name s) None (Ok tt)) w → IsDone (steps.Unbind name) s w
  unbind_accepted (inl (e, some, answer, same)) = absurd (let isnt : Ok tt ≡ Err e = answer in cc)
  unbind_accepted (inr (none, (ok, n, home, cpus, records))) = record {
    accepted = same_whys ∙ none;
    given = [];
    comes = λ texts indexes step at. record {
      shows = replaced_shows s _ v w h sys.rising (id_of name s) n false records (h.cpus ∙ ap shown_cpus (sym cpus))
          (ap (λ m. map (replaced (id_of name s) (On m false)) s.placed) (home_shown (id_of name s) n s v h sys.rising home))
          (λ i m. refl) refl;
      admissions = omega arith;
      free = λ m soft. tt;
    };
    quiet = λ texts indexes step at q. refl;
  }

  pub unbind_refused : (e : Refusal) → Changes raise_tables v (Bind (id_of name s) None (Err e)) w
      → IsRefusedFor e (steps.Unbind name) s w
  unbind_refused e (inl (own, some, answer, same)) = (
    is_refused e (unbind_refusal name s) (same_whys ∙ some
        ∙ ap Some (sym (same_error (Unit {0}) e own (Err e) (Err own) refl refl answer)))
        (no_memory_else (cyclic_is_absent (id_of name s) s) _ (no_memory_when _ NoCyclic tt)
        (no_memory_else (cyclic_is_omni (id_of name s) s) None (no_memory_when _ Omnipresent tt) tt)),
    subst (ShowsSystem s) (sym same) h,
  )
  unbind_refused e (inr (none, (ok, n, home, cpus, records))) = absurd (let isnt : Err e ≡ Ok tt = ok in cc)
