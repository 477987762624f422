-- Records of which none has an id.
use Rattle.std.proofs.Common.{◌≡◌, ◌≢◌, ◌∙◌, ℕ, zero, suc, ◌⊎◌, inl, inr, Bool, true, false, cond}
use Rattle.std.proofs.Common.{List, [], ◌∷◌, ◌++◌, map, get_or, slice_set, refl, sym, ap, subst}
use Rattle.std.specs.Prelude.{filter, remove}
use Rattle.std.proofs.lemmas.Option.{slice_get_within, slice_get-get_or, get_or_from_slice_get}
use mathlib.Core.Logic.{dite}
use native.Mathlib.Decide.{ℕ_discrete}
use Rattle.cyc_places.specs.declared.record.Record.{Record}
use Rattle.cyc_places.specs.Places.{IsRecord, HasNoRecord}
use Rattle.cyc_agreement.proofs.CpuSpots.{get_set_same, get_set_other}
use Rattle.cyc_system.proofs.Spots.{same_some, get_either}

abbrev pub Unnamed : ℕ → List Record → Type 0
Unnamed id rs = (k : ℕ) (r : Record) → IsRecord rs k r → r.id ≢ id

pub unnamed : (id : ℕ) (rs : List Record) → HasNoRecord id rs → Unnamed id rs
unnamed id rs none k r is same = none k r (slice_get_within rs k r is)
    (ap (λ (x : Record). x.id) (get_or_from_slice_get rs k r r is) ∙ same)

pub no_record : (id : ℕ) (rs : List Record) → Unnamed id rs → HasNoRecord id rs
no_record id rs none k d low = none k (get_or rs k d) (slice_get-get_or rs k d low)

-- a record with another placement or other counts
pub unnamed_set : (id : ℕ) (rs : List Record) (k : ℕ) (r x : Record) → Unnamed id rs → IsRecord rs k r → x.id ≡ r.id
    → Unnamed id (slice_set rs k x)
unnamed_set id rs k r x none is same j q at = dite (ℕ_discrete j k)
    (λ e. λ named. none k r is (sym same ∙ (ap (λ (y : Record). y.id)
    (same_some (sym (get_set_same rs k x (slice_get_within rs k r is)) ∙ subst (λ i. IsRecord (slice_set rs k x) i q) e at))
    ∙ named)))
    (λ ne. none j q (sym (get_set_other rs k j x ne) ∙ at))

pub unnamed_push : (id : ℕ) (rs : List Record) (x : Record) → Unnamed id rs → x.id ≢ id → Unnamed id (rs ++ x ∷ [])
unnamed_push id rs x none other k r is = by (get_either rs x k r is)
  where
    by : (IsRecord rs k r) ⊎ (r ≡ x) → r.id ≢ id
    by (inl at) = none k r at
    by (inr e) = λ named. other (sym (ap (λ (y : Record). y.id) e) ∙ named)

pub unnamed_tail : (id : ℕ) (x : Record) (rs : List Record) → Unnamed id (x ∷ rs) → Unnamed id rs
unnamed_tail id x rs none k r is = none (suc k) r is

pub unnamed_cons : (id : ℕ) (x : Record) (rs : List Record) → x.id ≢ id → Unnamed id rs → Unnamed id (x ∷ rs)
unnamed_cons id x rs other none zero r is = λ named. other (ap (λ (y : Record). y.id) (same_some is) ∙ named)
unnamed_cons id x rs other none (suc k) r is = none k r is

pub unnamed_remove : (id : ℕ) (rs : List Record) (k : ℕ) → Unnamed id rs → Unnamed id (remove rs k)
unnamed_remove id [] zero none = none
unnamed_remove id [] (suc k) none = none
unnamed_remove id (x ∷ rs) zero none = unnamed_tail id x rs none
unnamed_remove id (x ∷ rs) (suc k) none =
    unnamed_cons id x (remove rs k) (none zero x refl) (unnamed_remove id rs k (unnamed_tail id x rs none))

pub unnamed_map : (id : ℕ) (f : Record → Record) (rs : List Record) → ((r : Record) → (f r).id ≡ r.id) → Unnamed id rs
    → Unnamed id (map f rs)
unnamed_map id f [] same none = none
unnamed_map id f (x ∷ rs) same none = unnamed_cons id (f x) (map f rs) (λ named. none zero x refl (sym (same x) ∙ named))
    (unnamed_map id f rs same (unnamed_tail id x rs none))

pub unnamed_filter : (id : ℕ) (p : Record → Bool) (rs : List Record) → Unnamed id rs → Unnamed id (filter p rs)
unnamed_filter id p [] none = none
unnamed_filter id p (x ∷ rs) none = by (p x) (unnamed_filter id p rs (unnamed_tail id x rs none))
  where
    by : (b : Bool) → Unnamed id (filter p rs) → Unnamed id (cond b (x ∷ filter p rs) (filter p rs))
    by true rest = unnamed_cons id x (filter p rs) (none zero x refl) rest
    by false rest = rest
