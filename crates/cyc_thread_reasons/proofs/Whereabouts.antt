-- What the records say of an id, and what each call changes of it.
use Rattle.cyc_thread_calls.specs.Calls.{Suspend, Resume}
use Rattle.std.proofs.Common.{◌≡◌, ◌≢◌, ◌∙◌, ◌==◌, ℕ, zero, suc, ◌⊎◌, inl, inr, Bool, true, false, cond, not, find, Option, Some}
use Rattle.std.proofs.Common.{None, Result, Ok, Err, List, [], ◌∷◌, ◌++◌, map, length, slice_set, refl, sym, ap, subst}
use Rattle.std.specs.Prelude.{is_some}
use Rattle.std.specs.List.{slice_get, FoldsTo}
use Rattle.std.specs.Option.{option_map_or}
use Rattle.std.proofs.lemmas.Option.{slice_get_within}
use Rattle.cyc_types.specs.declared.Raise.{Ghosts as Raise}
use Rattle.cyc_types.specs.declared.firing.Sent.{Sent}
use Rattle.cyc_types.specs.declared.level.Level.{Level}
use Rattle.cyc_types.specs.declared.moment.When.{When}
use Rattle.cyc_types.specs.declared.receipt.Receipt.{Receipt}
use Rattle.cyc_types.specs.declared.refusal.JuggleReport.{JuggleReport}
use Rattle.cyc_types.specs.declared.refusal.Refusal.{Refusal}
use Rattle.cyc_types.specs.Counting.{no_counts}
use Rattle.cyc_cpu.specs.declared.removing.Removal.{Removal}
use Rattle.cyc_cpu.specs.declared.removing.Removal.TheVariants.{Done, Kept}
use Rattle.cyc_places.specs.declared.record.Placement.{Placement}
use Rattle.cyc_places.specs.declared.record.Placement.TheVariants.{On, Everywhere}
use Rattle.cyc_places.specs.declared.record.Record.{Record}
use Rattle.cyc_places.specs.Places.{IsRecord, HasRisingIds, new_record, with_placement, with_ended}
use Rattle.cyc_places.specs.Places.{is_everywhere as is_placed_everywhere}
use Rattle.cyc_agreement.specs.Cpus.{CpusView}
use Rattle.cyc_agreement.specs.Binding.{Records, HasPlacement, Binds}
use Rattle.cyc_agreement.specs.RemovalLaws.{IsUntouched}
use Rattle.cyc_system.specs.GoingOffline.{Retires, EndsOffline}
use Rattle.cyc_agreement.specs.Online.{GoesOnline, is_staying, after_return}
use Rattle.cyc_agreement.specs.System.{ids_on}
use Rattle.cyc_agreement.proofs.CpuSpots.{get_set_same}
use Rattle.cyc_agreement.proofs.Lists.{eq_true, false_ne}
use Rattle.cyc_agreement.proofs.Spots.{same_some, get_last}
use Rattle.cyc_agreement.proofs.Recording.{found, one_record, record_here}
use Rattle.cyc_agreement.proofs.Forgetting.{rising_set, begins_forgotten, polls_forgotten}
use Rattle.cyc_agreement.proofs.Others.{begins_others, polls_others}
use Rattle.cyc_agreement.proofs.Folds.{folds_keep}
use Rattle.cyc_thread_calls.specs.System.{SystemView, record_of, is_unknown, is_omnipresent}
use Rattle.cyc_thread_calls.specs.Adding.{add_request, Adds}
use Rattle.cyc_thread_calls.specs.Omni.{AddsOmni}
use Rattle.cyc_thread_calls.specs.SystemRemoval.{SystemRemoval}
use Rattle.cyc_thread_calls.specs.SystemRemoval.TheVariants as over
use Rattle.cyc_thread_calls.specs.Removing.{Begun, BeginsOn, BeginsRemoval}
use Rattle.cyc_thread_calls.specs.Polling.{Polled, PollsOn, PollsRemoval}
use Rattle.cyc_thread_calls.specs.Turn.{Turn}
use Rattle.cyc_thread_calls.specs.Turn.TheVariants.{StaysBound, StaysPending, StaysRefused, Moves}
use Rattle.cyc_thread_calls.specs.Juggling.{TakesTurn, Turns, single_ids}
use Rattle.cyc_thread_calls.specs.Calls.{SystemCall, Changes, Add, AddOmni, Bind, BeginRemove, PollRemove, Reprogram}
use Rattle.cyc_thread_calls.specs.Calls.{ReprogramOn, Juggle, Offline, Online}
use Rattle.cyc_thread_reasons.specs.Known.{Whereabouts, Absent, OnOne, OnAll}
use Rattle.cyc_thread_reasons.specs.Reasons.{is_there, has_components}
use Rattle.cyc_system_laws.proofs.Looked.{find_more, look_map, look_set}

abbrev pub whereabouts_of : Placement → Whereabouts
whereabouts_of (On n false) = OnOne None
whereabouts_of (On n true) = OnOne (Some n)
whereabouts_of (Everywhere first skew) = OnAll

abbrev pub stands_in : ℕ → List Record → Whereabouts
stands_in id rs = option_map_or (λ (r : Record). whereabouts_of r.placement) (found id rs) Absent

-- what the record of an id says
abbrev pub stands : {R : Type 0} → ℕ → SystemView R → Whereabouts
stands id s = stands_in id s.records

-- the records say the same of each id
abbrev pub SameStands : {R : Type 0} → SystemView R → SystemView R → Type 0
SameStands s t = (id : ℕ) → stands id t ≡ stands id s

-- ---- what whereabouts say

here_placement : (p : Placement) → is_there (whereabouts_of p) ≡ true
here_placement (On n false) = refl
here_placement (On n true) = refl
here_placement (Everywhere first skew) = refl

pub everywhere_placement : (p : Placement) → is_placed_everywhere p ≡ has_components (whereabouts_of p)
everywhere_placement (On n false) = refl
everywhere_placement (On n true) = refl
everywhere_placement (Everywhere first skew) = refl

pub unknown_stands : {R : Type 0} (id : ℕ) (s : SystemView R) → is_unknown id s ≡ not (is_there (stands id s))
unknown_stands id s = by (record_of id s)
  where
    by : (o : Option Record) → not (is_some o) ≡ not (is_there (option_map_or (λ (r : Record). whereabouts_of r.placement) o
        Absent))
    by None = refl
    by (Some r) = sym (ap not (here_placement r.placement))

pub omni_stands : {R : Type 0} (id : ℕ) (s : SystemView R) → is_omnipresent id s ≡ has_components (stands id s)
omni_stands id s = by (record_of id s)
  where
    by : (o : Option Record) → option_map_or (λ (r : Record). is_placed_everywhere r.placement) o false
        ≡ has_components (option_map_or (λ (r : Record). whereabouts_of r.placement) o Absent)
    by None = refl
    by (Some r) = everywhere_placement r.placement

pub stands_at : (rs : List Record) (k : ℕ) (r : Record) (id : ℕ) → HasRisingIds rs → IsRecord rs k r → r.id ≡ id
    → stands_in id rs ≡ whereabouts_of r.placement
stands_at rs k r id rising is named =
    ap (λ o. option_map_or (λ (q : Record). whereabouts_of q.placement) o Absent) (record_here id k r rs rising is named)

pub here_at : (rs : List Record) (k : ℕ) (r : Record) (id : ℕ) → HasRisingIds rs → IsRecord rs k r → r.id ≡ id
    → is_there (stands_in id rs) ≡ true
here_at rs k r id rising is named = ap is_there (stands_at rs k r id rising is named) ∙ here_placement r.placement

-- an answer is no refusal
pub ok_err : {A : Type 0} {a : A} {x : Refusal} → ◌≡◌ {A = Result A Refusal} (Ok a) (Err x) → ⊥
ok_err {A = A} {a = a} {x = x} e = cc

pub err_ok : {A : Type 0} {a : A} {x : Refusal} → ◌≡◌ {A = Result A Refusal} (Err x) (Ok a) → ⊥
err_ok {A = A} {a = a} {x = x} e = cc

-- ---- lists of records

-- an id of which something is said has a record
pub record_there : (rs : List Record) (id : ℕ) → is_there (stands_in id rs) ≡ true
    → (k : ℕ) × (r : Record) × IsRecord rs k r × (r.id ≡ id)
record_there [] id here = absurd (let odd : false ≡ true = here in cc)
record_there (x ∷ rs) id here = by (x.id == id) refl here (record_there rs id)
  where
    by : (b : Bool) → (x.id == id) ≡ b
        → is_there (option_map_or (λ (r : Record). whereabouts_of r.placement) (cond b (Some x) (found id rs)) Absent) ≡ true
        → (is_there (stands_in id rs) ≡ true → (k : ℕ) × (r : Record) × IsRecord rs k r × (r.id ≡ id))
        → (k : ℕ) × (r : Record) × IsRecord (x ∷ rs) k r × (r.id ≡ id)
    by true is h rest = (0, x, refl, eq_true x.id id is)
    by false is h rest = let (k, r, at, named) = rest h in (suc k, r, at, named)

find_beside : {A : Type 0} (p : A → Bool) (xs : List A) (k : ℕ) (x y : A) → slice_get xs k ≡ Some x → p x ≡ false
    → p y ≡ false → find p (slice_set xs k y) ≡ find p xs
find_beside p [] k x y is a b = refl
find_beside p (z ∷ xs) zero x y is a b = ap (λ t. cond t (Some y) (find p xs)) b
    ∙ sym (ap (λ t. cond t (Some z) (find p xs)) (ap p (same_some is) ∙ a))
find_beside p (z ∷ xs) (suc k) x y is a b = ap (λ o. cond (p z) (Some z) o) (find_beside p xs k x y is a b)

module _ (id : ℕ) where
  -- a record that has the same whereabouts
  set_same : (rs : List Record) (k : ℕ) (r x : Record) → IsRecord rs k r → x.id ≡ r.id
      → whereabouts_of x.placement ≡ whereabouts_of r.placement → stands_in id (slice_set rs k x) ≡ stands_in id rs
  set_same rs k r x is same placement = look_set (λ (q : Record). q.id == id) (λ (q : Record). whereabouts_of q.placement) Absent
      rs k r x
      is (ap (λ (i : ℕ). i == id) same) placement

  -- a record of another id
  set_other : (rs : List Record) (k : ℕ) (r x : Record) → IsRecord rs k r → x.id ≡ r.id → r.id ≢ id
      → stands_in id (slice_set rs k x) ≡ stands_in id rs
  set_other rs k r x is same ne = ap (λ o. option_map_or (λ (q : Record). whereabouts_of q.placement) o Absent)
      (find_beside (λ (q : Record). q.id == id) rs k r x is (false_ne r.id id ne) (false_ne x.id id (λ e. ne (sym same ∙ e))))

  set_here : (rs : List Record) (k : ℕ) (r x : Record) → HasRisingIds rs → IsRecord rs k r → x.id ≡ r.id → r.id ≡ id
      → stands_in id (slice_set rs k x) ≡ whereabouts_of x.placement
  set_here rs k r x rising is same named = stands_at (slice_set rs k x) k x id (rising_set rs k r x rising is same)
      (get_set_same rs k x (slice_get_within rs k r is)) (same ∙ named)

  push_other : (rs : List Record) (own : ℕ) (level : Level) (placement : Placement) → own ≢ id
      → stands_in id (rs ++ new_record own level placement ∷ []) ≡ stands_in id rs
  push_other rs own level placement ne = ap (λ o. option_map_or (λ (q : Record). whereabouts_of q.placement) o Absent)
      (find_more (λ (q : Record). q.id == id) rs (new_record own level placement) (false_ne own id ne))

pub new_stands : {R : Type 0} (id : ℕ) (level : Level) (placement : Placement) (before : List Record) (t : SystemView R)
    → HasRisingIds t.records → t.records ≡ before ++ new_record id level placement ∷ [] → stands id t ≡ whereabouts_of placement
new_stands id level placement before t rising records =
    stands_at t.records (length before) (new_record id level placement) id rising
    (ap (λ rs. slice_get rs (length before)) records ∙ get_last before (new_record id level placement)) refl

-- ---- calls

-- the call gives the id, binds its cyclic, or ends its removal
abbrev pub Touches : ℕ → SystemCall → Type 0
Touches id (Add level when now (Ok own)) = own ≡ id
Touches id (AddOmni level when skew now (Ok own)) = own ≡ id
Touches id (Bind own cpu (Ok done)) = own ≡ id
Touches id (BeginRemove own (Ok (over.Done receipt))) = own ≡ id
Touches id (PollRemove own (Ok (Some receipt))) = own ≡ id
Touches id call = ⊥

module _ {R : Type 0} (firing : Raise R) where
  pub stands_same : (s t : SystemView R) → t.records ≡ s.records → SameStands s t
  stands_same s t e id = ap (stands_in id) e

  pub stands_as : (s t : SystemView R) → t ≡ s → SameStands s t
  stands_as s t e id = ap (λ (u : SystemView R). stands id u) e

  pub stands_then : (s t u : SystemView R) → SameStands s t → SameStands t u → SameStands s u
  stands_then s t u a b id = b id ∙ a id

  -- where this one is
  placement_here : (s : SystemView R) (own n k : ℕ) (bound : Bool) (r : Record) → HasRisingIds s.records
      → HasPlacement own n bound s → IsRecord s.records k r → r.id ≡ own → r.placement ≡ On n bound
  placement_here s own n k bound r rising (j, q, is, named, placement) here same =
      let at = one_record s.records k j r q rising here is (named ∙ sym same) in
      ap (λ (x : Record). x.placement) (same_some (sym here ∙ ap (λ i. slice_get s.records i) (sym at) ∙ is)) ∙ placement

  pub turn_stands : (n own : ℕ) (turn : Turn) (s t : SystemView R) → HasRisingIds s.records → TakesTurn firing n own turn s t
      → SameStands s t × HasRisingIds t.records
  turn_stands n own StaysBound s t rising (placement, same) =
      (stands_as s t same, subst (λ (u : SystemView R). HasRisingIds u.records) (sym same) rising)
  turn_stands n own StaysPending s t rising (placement, found, some, only) =
      (stands_same s t only.1, subst HasRisingIds (sym only.1) rising)
  turn_stands n own StaysRefused s t rising (placement, d, chosen, e, only) =
      (stands_same s t only.1, subst HasRisingIds (sym only.1) rising)
  turn_stands n own Moves s t rising (placement, d, chosen, moves, (k, r, here, named, records, last)) = (
    λ id. ap (stands_in id) records ∙ set_same id s.records k r (with_placement (On d false) r) here refl
        (sym (ap whereabouts_of (placement_here s own n k false r rising placement here named))),
    subst HasRisingIds (sym records) (rising_set s.records k r (with_placement (On d false) r) rising here refl),
  )

  pub turns_stand : (n : ℕ) (ids : List ℕ) (report : JuggleReport) (s t : SystemView R) → HasRisingIds s.records
      → Turns firing n ids report s t → SameStands s t × HasRisingIds t.records
  turns_stand n [] report s t rising (is, same) =
      (stands_as s t same, subst (λ (u : SystemView R). HasRisingIds u.records) (sym same) rising)
  turns_stand n (own ∷ ids) report s t rising (turn, u, rest, first, counted, more) =
      let (one, rises) = turn_stands n own turn s u rising first in
      let (others, ends) = turns_stand n ids rest u t rises more in (stands_then s u t one others, ends)

  ended_stand : (s t : SystemView R) (k n : ℕ) (r : Record) (c : Sent) → IsRecord s.records k r
      → t.records ≡ slice_set s.records k (with_ended n c r) → SameStands s t
  ended_stand s t k n r c here records id =
      ap (stands_in id) records ∙ set_same id s.records k r (with_ended n c r) here refl refl

  retires_stand : (n : ℕ) (ids : List ℕ) (s t : SystemView R) → FoldsTo (Retires firing n) s ids t → SameStands s t
  retires_stand n [] s t e = stands_as s t (sym e)
  retires_stand n (own ∷ ids) s t (u, (taken, does, k, r, here, named, records, last), rest) =
      stands_then s u t (ended_stand s u k n r _ here records) (retires_stand n ids u t rest)

  pub leaves_stand : (n : ℕ) (report : JuggleReport) (answer : Result (Unit {0}) Refusal) (s t : SystemView R)
      → EndsOffline firing n report answer s t → SameStands s t
  leaves_stand n report answer s t (inl (left, is, same)) id = stands_as s t same id
  leaves_stand n report answer s t (inr (inl (nothing, is, (before, own, after, number, some, only)))) id =
      stands_same s t only.1 id
  leaves_stand n report answer s t (inr (inr (nothing, is, (u, only, empty, each, off)))) id =
      ap (λ (x : SystemView R). stands id x) off
      ∙ (retires_stand n (ids_on n s.cpus) u empty each id ∙ stands_same s u only.1 id)

  return_stand : (n : ℕ) (v : CpusView R) (r : Record) → ((after_return n v r).id ≡ r.id)
      × (whereabouts_of (after_return n v r).placement ≡ whereabouts_of r.placement)
  return_stand n v r = by (is_staying v r)
    where
      by : (b : Bool) → ((cond b (with_ended n no_counts r) r).id ≡ r.id)
          × (whereabouts_of (cond b (with_ended n no_counts r) r).placement ≡ whereabouts_of r.placement)
      by true = (refl, refl)
      by false = (refl, refl)

  online_stand : (n now : ℕ) (answer : Result (Unit {0}) Refusal) (s t : SystemView R) → GoesOnline firing n now answer s t
      → SameStands s t
  online_stand n now (Ok done) s t (works, records, last) id = ap (stands_in id) records
      ∙ look_map (λ (x : Record). x.id == id) (λ (x : Record). whereabouts_of x.placement) Absent (after_return n s.cpus)
      (λ r. ap (λ (j : ℕ). j == id) (return_stand n s.cpus r).0) (λ r. (return_stand n s.cpus r).1) s.records
  online_stand n now (Err e) s t (why, (works, records, last)) id = stands_same s t records id

  begins_on_stand : (own n : ℕ) (removal : Removal) (s t : SystemView R) → BeginsOn firing own n removal s t → SameStands s t
  begins_on_stand own n (Done receipt) s t (does, k, r, here, named, records, last) = ended_stand s t k n r _ here records
  begins_on_stand own n (Kept kept) s t (does, records, last) = stands_same s t records

  polls_on_stand : (own n : ℕ) (answer : Option Receipt) (s t : SystemView R) → PollsOn firing own n answer s t
      → SameStands s t
  polls_on_stand own n (Some receipt) s t (does, k, r, here, named, records, last) = ended_stand s t k n r _ here records
  polls_on_stand own n None s t (does, records, last) = stands_same s t records

  untouched_stands : (id : ℕ) (s t : SystemView R) → IsUntouched id s t → stands id t ≡ stands id s
  untouched_stands id s t u = ap (λ o. option_map_or (λ (r : Record). whereabouts_of r.placement) o Absent) u.own

  begins_stand : (own : ℕ) (answer : Result SystemRemoval Refusal) (s t : SystemView R) (id : ℕ)
      → (Touches id (BeginRemove own answer) → ⊥) → BeginsRemoval firing own answer s t → stands id t ≡ stands id s
  begins_stand own (Ok (over.Done receipt)) s t id other d = untouched_stands id s t
      (begins_others firing own id (Ok (over.Done receipt)) s t (λ e. other (sym e)) d)
  begins_stand own (Ok (over.Kept kept)) s t id other (inl (e, why, is, same)) = stands_as s t same id
  begins_stand own (Ok (over.Kept kept)) s t id other (inr (clear, (way, cpus, each, some, sum))) =
      folds_keep (λ u (b : Begun) w. BeginsOn firing own b.cpu b.found u w) (λ x y. SameStands x y) (λ x i. refl)
      stands_then (λ x b y. begins_on_stand own b.cpu b.found x y) way s t each id
  begins_stand own (Err e) s t id other (inl (why, first, is, same)) = stands_as s t same id
  begins_stand own (Err e) s t id other (inr (clear, wrong)) = absurd wrong

  polls_stand : (own : ℕ) (answer : Result (Option Receipt) Refusal) (s t : SystemView R) (id : ℕ)
      → (Touches id (PollRemove own answer) → ⊥) → PollsRemoval firing own answer s t → stands id t ≡ stands id s
  polls_stand own (Ok (Some receipt)) s t id other d = untouched_stands id s t
      (polls_others firing own id (Ok (Some receipt)) s t (λ e. other (sym e)) d)
  polls_stand own (Ok None) s t id other (inl (e, why, is, same)) = stands_as s t same id
  polls_stand own (Ok None) s t id other (inr (clear, (way, cpus, each, some))) =
      folds_keep (λ u (p : Polled) w. PollsOn firing own p.cpu p.answer u w) (λ x y. SameStands x y) (λ x i. refl)
      stands_then (λ x p y. polls_on_stand own p.cpu p.answer x y) way s t each id
  polls_stand own (Err e) s t id other (inl (why, first, is, same)) = stands_as s t same id
  polls_stand own (Err e) s t id other (inr (clear, wrong)) = absurd wrong

  adds_stand : (level : Level) (when : When) (now : ℕ) (answer : Result ℕ Refusal) (s t : SystemView R) (id : ℕ)
      → (Touches id (Add level when now answer) → ⊥) → Adds firing (add_request level when now) answer s t
      → stands id t ≡ stands id s
  adds_stand level when now (Ok own) s t id other (d, chosen, next, works, records, last) =
      ap (stands_in id) records ∙ push_other id s.records own level _ other
  adds_stand level when now (Err e) s t id other (d, chosen, inl (works, records, last)) = stands_same s t records id
  adds_stand level when now (Err e) s t id other (d, chosen, inr (is, (works, records, last))) = stands_same s t records id

  omni_stand : (level : Level) (when : When) (skew now : ℕ) (answer : Result ℕ Refusal) (s t : SystemView R) (id : ℕ)
      → (Touches id (AddOmni level when skew now answer) → ⊥)
      → AddsOmni firing (add_request level when now) skew answer s t → stands id t ≡ stands id s
  omni_stand level when skew now (Ok own) s t id other (next, works, records, last) =
      ap (stands_in id) records ∙ push_other id s.records own level _ other
  omni_stand level when skew now (Err e) s t id other (works, records, last) = stands_same s t records id

  records_other : (own : ℕ) (placement : Placement) (s t : SystemView R) (id : ℕ) → own ≢ id → Records own placement s t
      → stands id t ≡ stands id s
  records_other own placement s t id ne (k, r, here, named, records, last) = ap (stands_in id) records
      ∙ set_other id s.records k r (with_placement placement r) here refl (λ e. ne (sym named ∙ e))

  records_here : (own : ℕ) (placement : Placement) (s t : SystemView R) → HasRisingIds s.records → Records own placement s t
      → stands own t ≡ whereabouts_of placement
  records_here own placement s t rising (k, r, here, named, records, last) = ap (stands_in own) records
      ∙ set_here own s.records k r (with_placement placement r) rising here refl named

  binds_stand : (own n : ℕ) (answer : Result (Unit {0}) Refusal) (s t : SystemView R) (id : ℕ)
      → (Touches id (Bind own (Some n) answer) → ⊥) → Binds firing own n answer s t → stands id t ≡ stands id s
  binds_stand own n (Ok done) s t id other (home, has, goes, records) = records_other own _ s t id other records
  binds_stand own n (Err e) s t id other (home, has, goes, records, last) = stands_same s t records id

  unbinds_stand : (own : ℕ) (answer : Result (Unit {0}) Refusal) (s t : SystemView R) (id : ℕ)
      → (Touches id (Bind own None answer) → ⊥) → Changes firing s (Bind own None answer) t → stands id t ≡ stands id s
  unbinds_stand own (Ok done) s t id other (inl (e, first, is, same)) = stands_as s t same id
  unbinds_stand own (Ok done) s t id other (inr (clear, (is, n, has, cpus, records))) = records_other own _ s t id other records
  unbinds_stand own (Err e) s t id other (inl (x, first, is, same)) = stands_as s t same id
  unbinds_stand own (Err e) s t id other (inr (clear, (is, n, has, cpus, records))) = absurd (err_ok is)

  refused_or : {A : Type 0} (o : Option Refusal) (refused : Refusal → A) (answer : A) (s t : SystemView R) (G : Type 0) (id : ℕ)
      → ((e : Refusal) × (o ≡ Some e) × (answer ≡ refused e) × (t ≡ s)) ⊎ ((o ≡ None) × G) → (G → stands id t ≡ stands id s)
      → stands id t ≡ stands id s
  refused_or o refused answer s t G id (inl (e, why, is, same)) goes = stands_as s t same id
  refused_or o refused answer s t G id (inr (clear, g)) goes = goes g

  abbrev pub IsOfScript : SystemCall → Type 0
  IsOfScript (Add level when now answer) = Unit {0}
  IsOfScript (AddOmni level when skew now answer) = Unit {0}
  IsOfScript (Bind own cpu answer) = Unit {0}
  IsOfScript (BeginRemove own answer) = Unit {0}
  IsOfScript (PollRemove own answer) = Unit {0}
  IsOfScript (Reprogram own moment answer) = Unit {0}
  IsOfScript (ReprogramOn own n moment answer) = Unit {0}
  IsOfScript (Juggle n answer) = Unit {0}
  IsOfScript (Offline n answer) = Unit {0}
  IsOfScript (Online n now answer) = Unit {0}
  IsOfScript (Suspend answer) = Unit {0}
  IsOfScript (Resume answer) = Unit {0}
  IsOfScript call = ⊥

  -- a call of a script that doesn't touch the id
  pub stands_kept : (s t : SystemView R) (call : SystemCall) (id : ℕ) → IsOfScript call → HasRisingIds s.records
      → Changes firing s call t → (Touches id call → ⊥) → stands id t ≡ stands id s
  stands_kept s t (Add level when now answer) id is rising d other = refused_or _ _ answer s t _ id d
      (λ k. adds_stand level when now answer s t id other k)
  stands_kept s t (AddOmni level when skew now answer) id is rising d other = refused_or _ _ answer s t _ id d
      (λ k. omni_stand level when skew now answer s t id other k)
  stands_kept s t (Bind own None answer) id is rising d other = unbinds_stand own answer s t id other d
  stands_kept s t (Bind own (Some n) answer) id is rising d other = refused_or _ _ answer s t _ id d
      (λ k. binds_stand own n answer s t id other k)
  stands_kept s t (BeginRemove own answer) id is rising d other = begins_stand own answer s t id other d
  stands_kept s t (PollRemove own answer) id is rising d other = polls_stand own answer s t id other d
  stands_kept s t (Reprogram own moment answer) id is rising d other = refused_or _ _ answer s t _ id d
      (λ k. stands_same s t k.2.1.1 id)
  stands_kept s t (ReprogramOn own n moment answer) id is rising d other = refused_or _ _ answer s t _ id d
      (λ k. stands_same s t k.1.1 id)
  stands_kept s t (Juggle n answer) id is rising d other = refused_or _ _ answer s t _ id d
      (λ k. (let (report, is, moves) = k in (turns_stand n (single_ids n s) report s t rising moves).0 id))
  stands_kept s t (Offline n answer) id is rising d other = refused_or _ _ answer s t _ id d
      (λ k. (let (report, moved, moves, rest) = k in leaves_stand n report answer moved t rest id
      ∙ (turns_stand n (single_ids n s) report s moved rising moves).0 id))
  stands_kept s t (Online n now answer) id is rising d other = refused_or _ _ answer s t _ id d
      (λ k. online_stand n now answer s t k id)
  stands_kept s t (Suspend answer) id is rising d other = refused_or _ _ answer s t _ id d (λ k. stands_same s t k.1.1 id)
  stands_kept s t (Resume answer) id is rising d other = refused_or _ _ answer s t _ id d (λ k. stands_same s t k.1.1 id)
  stands_kept s t call id is rising d other = absurd is

  -- ---- what a call does to the id that it touches

  pub bound_stands : (s t : SystemView R) (own n : ℕ) (done : Unit {0}) → HasRisingIds s.records
      → Changes firing s (Bind own (Some n) (Ok done)) t
      → stands own t ≡ OnOne (Some n)
  bound_stands s t own n done rising (inl (e, first, is, same)) = absurd (ok_err is)
  bound_stands s t own n done rising (inr (clear, (home, has, goes, records))) = records_here own (On n true) s t rising records

  pub unbound_stands : (s t : SystemView R) (own : ℕ) (done : Unit {0}) → HasRisingIds s.records
      → Changes firing s (Bind own None (Ok done)) t
      → stands own t ≡ OnOne None
  unbound_stands s t own done rising (inl (e, first, is, same)) = absurd (ok_err is)
  unbound_stands s t own done rising (inr (clear, (is, n, has, cpus, records))) = records_here own (On n false) s t rising records

  pub removed_stands : (s t : SystemView R) (own : ℕ) (receipt : Receipt) → HasRisingIds s.records
      → Changes firing s (BeginRemove own (Ok (over.Done receipt))) t → stands own t ≡ Absent
  removed_stands s t own receipt rising d = ap (λ o. option_map_or (λ (r : Record). whereabouts_of r.placement) o Absent)
      (begins_forgotten firing own receipt s t rising d).unknown

  pub polled_stands : (s t : SystemView R) (own : ℕ) (receipt : Receipt) → HasRisingIds s.records
      → Changes firing s (PollRemove own (Ok (Some receipt))) t → stands own t ≡ Absent
  polled_stands s t own receipt rising d = ap (λ o. option_map_or (λ (r : Record). whereabouts_of r.placement) o Absent)
      (polls_forgotten firing own receipt s t rising d).unknown
