-- What no call changes of a record: its level, and whether its cyclic is omnipresent.
use Rattle.std.proofs.Common.{◌≡◌, ◌≢◌, ◌∙◌, ◌==◌, ℕ, zero, suc, ◌⊎◌, inl, inr, Bool, true, false, cond, find, Option, Some, None}
use Rattle.std.proofs.Common.{Result, Ok, Err, List, [], ◌∷◌, ◌++◌, map, slice_set, refl, sym, ap, subst}
use Rattle.std.specs.List.{slice_get, FoldsTo}
use Rattle.std.specs.Option.{option_map_or}
use Rattle.cyc_types.specs.declared.Raise.{Ghosts as Raise}
use Rattle.cyc_types.specs.declared.firing.Sent.{Sent}
use Rattle.cyc_types.specs.declared.level.Level.{Level}
use Rattle.cyc_types.specs.declared.moment.When.{When}
use Rattle.cyc_types.specs.declared.receipt.Receipt.{Receipt}
use Rattle.cyc_types.specs.declared.refusal.JuggleReport.{JuggleReport}
use Rattle.cyc_types.specs.declared.refusal.Refusal.{Refusal}
use Rattle.cyc_types.specs.Counting.{no_counts}
use Rattle.cyc_cpu.specs.declared.removing.Removal.{Removal}
use Rattle.cyc_cpu.specs.declared.removing.Removal.TheVariants.{Done, Kept}
use Rattle.cyc_places.specs.declared.record.Placement.{Placement}
use Rattle.cyc_places.specs.declared.record.Placement.TheVariants as stands
use Rattle.cyc_places.specs.declared.record.Record.{Record}
use Rattle.cyc_places.specs.Places.{IsRecord, HasRisingIds, new_record, with_placement, with_ended, is_everywhere}
use Rattle.cyc_system.specs.Cpus.{CpusView}
use Rattle.cyc_system.specs.System.{SystemView, ids_on}
use Rattle.cyc_system.specs.Adding.{add_request, Adds}
use Rattle.cyc_system.specs.Binding.{Records, HasPlacement, Binds}
use Rattle.cyc_system.proofs.Lists.{false_ne}
use Rattle.cyc_system.proofs.Spots.{same_some}
use Rattle.cyc_system.proofs.Recording.{found, one_record}
use Rattle.cyc_system.specs.SystemRemoval.{SystemRemoval}
use Rattle.cyc_system.specs.SystemRemoval.TheVariants as over
use Rattle.cyc_system.specs.Removing.{Begun, BeginsOn, BeginsRemoval}
use Rattle.cyc_system.specs.Polling.{Polled, PollsOn, PollsRemoval}
use Rattle.cyc_system.specs.RemovalLaws.{IsUntouched}
use Rattle.cyc_system.proofs.Others.{begins_others, polls_others, asks_others}
use Rattle.cyc_system.proofs.Forgetting.{rising_set}
use Rattle.cyc_system.proofs.Folds.{folds_keep}
use Rattle.cyc_system.specs.declared.turning.Turn.{Turn}
use Rattle.cyc_system.specs.declared.turning.Turn.TheVariants.{StaysBound, StaysPending, StaysRefused, Moves}
use Rattle.cyc_system.specs.Juggling.{TakesTurn, Turns, single_ids}
use Rattle.cyc_system.specs.GoingOffline.{Retires, EndsOffline}
use Rattle.cyc_system.specs.Omni.{AddsOmni}
use Rattle.cyc_system.specs.Online.{GoesOnline, is_staying, after_return}
use Rattle.cyc_system.specs.Calls.{SystemCall, Changes, Add, AddOmni, Bind, BeginRemove, PollRemove, AskTotals, Reprogram}
use Rattle.cyc_system.specs.Calls.{ReprogramOn, Juggle, Offline, Online, FireOne, SoftInterrupt, Suspend, Resume}
use Rattle.cyc_system_laws.specs.Keeping.{TouchesRecord}

-- a change that neither the test nor the measure sees
pub look_set : {A B : Type 0} (p : A → Bool) (h : A → B) (d : B) (xs : List A) (k : ℕ) (x y : A) → slice_get xs k ≡ Some x
    → p y ≡ p x → h y ≡ h x
    → option_map_or h (find p (slice_set xs k y)) d ≡ option_map_or h (find p xs) d
look_set p h d [] k x y is a b = refl
look_set p h d (z ∷ xs) zero x y is a b = ap (λ t. option_map_or h (cond t (Some y) (find p xs)) d)
    (a ∙ ap p (sym (same_some is))) ∙ by (p z)
  where
    by : (t : Bool) → option_map_or h (cond t (Some y) (find p xs)) d ≡ option_map_or h (cond t (Some z) (find p xs)) d
    by true = b ∙ ap h (sym (same_some is))
    by false = refl
look_set p h d (z ∷ xs) (suc k) x y is a b = by (p z) (look_set p h d xs k x y is a b)
  where
    by : (t : Bool) → option_map_or h (find p (slice_set xs k y)) d ≡ option_map_or h (find p xs) d
        → option_map_or h (cond t (Some z) (find p (slice_set xs k y))) d ≡ option_map_or h (cond t (Some z) (find p xs)) d
    by true rest = refl
    by false rest = rest

pub look_map : {A B : Type 0} (p : A → Bool) (h : A → B) (d : B) (f : A → A) → ((x : A) → p (f x) ≡ p x)
    → ((x : A) → h (f x) ≡ h x) → (xs : List A)
    → option_map_or h (find p (map f xs)) d ≡ option_map_or h (find p xs) d
look_map p h d f a b [] = refl
look_map p h d f a b (x ∷ xs) = ap (λ t. option_map_or h (cond t (Some (f x)) (find p (map f xs))) d) (a x)
    ∙ by (p x) (look_map p h d f a b xs)
  where
    by : (t : Bool) → option_map_or h (find p (map f xs)) d ≡ option_map_or h (find p xs) d
        → option_map_or h (cond t (Some (f x)) (find p (map f xs))) d ≡ option_map_or h (cond t (Some x) (find p xs)) d
    by true rest = b x
    by false rest = rest

pub find_more : {A : Type 0} (p : A → Bool) (xs : List A) (x : A) → p x ≡ false → find p (xs ++ x ∷ []) ≡ find p xs
find_more p [] x fails = ap (λ t. cond t (Some x) None) fails
find_more p (z ∷ xs) x fails = ap (λ o. cond (p z) (Some z) o) (find_more p xs x fails)

module _ {R B : Type 0} (firing : Raise R) (h : Record → B) (none : B)
    (placed : (r : Record) (n : ℕ) (bound : Bool) → is_everywhere r.placement ≡ false
    → h (with_placement (stands.On n bound) r) ≡ h r)
    (ended : (r : Record) (n : ℕ) (c : Sent) → h (with_ended n c r) ≡ h r) (id : ℕ) where
  -- what is read in the record of the id
  abbrev pub look : SystemView R → B
  look s = option_map_or h (found id s.records) none

  looked_same : (s t : SystemView R) → t.records ≡ s.records → look t ≡ look s
  looked_same s t e = ap (λ rs. option_map_or h (found id rs) none) e

  -- the record of one that is on a single CPU
  single_here : (s : SystemView R) (own n k : ℕ) (bound : Bool) (r : Record) → HasRisingIds s.records
      → HasPlacement own n bound s → IsRecord s.records k r → r.id ≡ own → is_everywhere r.placement ≡ false
  single_here s own n k bound r rising (j, q, is, named, placement) here same =
      let at = one_record s.records k j r q rising here is (named ∙ sym same) in
      ap (λ (x : Record). is_everywhere x.placement) (same_some (sym here ∙ ap (λ i. slice_get s.records i) (sym at) ∙ is))
      ∙ ap is_everywhere placement

  replaced_look : (own n m : ℕ) (bound was : Bool) (s t : SystemView R) → HasRisingIds s.records → HasPlacement own n was s
      → Records own (stands.On m bound) s t → look t ≡ look s
  replaced_look own n m bound was s t rising has (k, r, here, named, records, last) = ap
      (λ rs. option_map_or h (found id rs) none) records
      ∙ look_set (λ (x : Record). x.id == id) h none s.records k r (with_placement (stands.On m bound) r) here refl
      (placed r m bound (single_here s own n k was r rising has here named))

  replaced_rising : (own : ℕ) (placement : Placement) (s t : SystemView R) → HasRisingIds s.records → Records own placement s t
      → HasRisingIds t.records
  replaced_rising own placement s t rising (k, r, here, named, records, last) = subst HasRisingIds (sym records)
      (rising_set s.records k r (with_placement placement r) rising here refl)

  ended_look : (s t : SystemView R) (k n : ℕ) (r : Record) (c : Sent) → IsRecord s.records k r
      → t.records ≡ slice_set s.records k (with_ended n c r) → look t ≡ look s
  ended_look s t k n r c here records = ap (λ rs. option_map_or h (found id rs) none) records
      ∙ look_set (λ (x : Record). x.id == id) h none s.records k r (with_ended n c r) here refl (ended r n c)

  new_look : (own : ℕ) (level : Level) (placement : Placement) (s t : SystemView R) → own ≢ id
      → t.records ≡ s.records ++ new_record own level placement ∷ [] → look t ≡ look s
  new_look own level placement s t ne records = ap (λ rs. option_map_or h (found id rs) none) records
      ∙ ap (λ o. option_map_or h o none)
      (find_more (λ (x : Record). x.id == id) s.records (new_record own level placement) (false_ne own id ne))

  binds_look : (own n : ℕ) (answer : Result (Unit {0}) Refusal) (s t : SystemView R) → HasRisingIds s.records
      → Binds firing own n answer s t → look t ≡ look s
  binds_look own n (Ok done) s t rising
      (home, (was, has), goes, records) = replaced_look own home n true was s t rising has records
  binds_look own n (Err e) s t rising (home, has, goes, records, last) = looked_same s t records

  adds_look : (level : Level) (when : When) (now : ℕ) (answer : Result ℕ Refusal) (s t : SystemView R)
      → (TouchesRecord id (Add level when now answer) → ⊥) → Adds firing (add_request level when now) answer s t → look t ≡ look s
  adds_look level when now (Ok own) s t other (d, chosen, next, works, records, last) = new_look own level _ s t other records
  adds_look level when now (Err e) s t other (d, chosen, inl (works, records, last)) = looked_same s t records
  adds_look level when now (Err e) s t other (d, chosen, inr (is, (works, records, last))) = looked_same s t records

  omni_look : (level : Level) (when : When) (skew now : ℕ) (answer : Result ℕ Refusal) (s t : SystemView R)
      → (TouchesRecord id (AddOmni level when skew now answer) → ⊥)
      → AddsOmni firing (add_request level when now) skew answer s t → look t ≡ look s
  omni_look level when skew now (Ok own) s t other (next, works, records, last) = new_look own level _ s t other records
  omni_look level when skew now (Err e) s t other (works, records, last) = looked_same s t records

  turn_look : (n own : ℕ) (turn : Turn) (s t : SystemView R) → HasRisingIds s.records → TakesTurn firing n own turn s t
      → (look t ≡ look s) × HasRisingIds t.records
  turn_look n own StaysBound s t rising (placement, same) =
      (ap look same, subst (λ (u : SystemView R). HasRisingIds u.records) (sym same) rising)
  turn_look n own StaysPending s t rising (placement, found, some, only) =
      (looked_same s t only.1, subst HasRisingIds (sym only.1) rising)
  turn_look n own StaysRefused s t rising (placement, d, chosen, e, only) =
      (looked_same s t only.1, subst HasRisingIds (sym only.1) rising)
  turn_look n own Moves s t rising (placement, d, chosen, moves, records) =
      (replaced_look own n d false false s t rising placement records, replaced_rising own _ s t rising records)

  pub turns_look : (n : ℕ) (ids : List ℕ) (report : JuggleReport) (s t : SystemView R) → HasRisingIds s.records
      → Turns firing n ids report s t → look t ≡ look s
  turns_look n [] report s t rising (is, same) = ap look same
  turns_look n (own ∷ ids) report s t rising (turn, u, rest, first, counted, more) =
      let (one, rises) = turn_look n own turn s u rising first in turns_look n ids rest u t rises more ∙ one

  retires_look : (n : ℕ) (ids : List ℕ) (s t : SystemView R) → FoldsTo (Retires firing n) s ids t → look t ≡ look s
  retires_look n [] s t e = ap look (sym e)
  retires_look n (own ∷ ids) s t (u, (taken, does, k, r, here, named, records, last), rest) = retires_look n ids u t rest
      ∙ ended_look s u k n r _ here records

  leaves_look : (n : ℕ) (report : JuggleReport) (answer : Result (Unit {0}) Refusal) (s t : SystemView R)
      → EndsOffline firing n report answer s t → look t ≡ look s
  leaves_look n report answer s t (inl (left, is, same)) = ap look same
  leaves_look n report answer s t (inr (inl (nothing, is, (before, own, after, found, some, only)))) = looked_same s t only.1
  leaves_look n report answer s t (inr (inr (nothing, is, (u, only, empty, each, off)))) = ap look off
      ∙ (retires_look n (ids_on n s.cpus) u empty each ∙ looked_same s u only.1)

  return_look : (n : ℕ) (v : CpusView R) (r : Record) → ((after_return n v r).id ≡ r.id) × (h (after_return n v r) ≡ h r)
  return_look n v r = by (is_staying v r)
    where
      by : (b : Bool) → ((cond b (with_ended n no_counts r) r).id ≡ r.id) × (h (cond b (with_ended n no_counts r) r) ≡ h r)
      by true = (refl, ended r n no_counts)
      by false = (refl, refl)

  online_look : (n now : ℕ) (answer : Result (Unit {0}) Refusal) (s t : SystemView R) → GoesOnline firing n now answer s t
      → look t ≡ look s
  online_look n now (Ok done) s t (works, records, last) = ap (λ rs. option_map_or h (found id rs) none) records
      ∙ look_map (λ (x : Record). x.id == id) h none (after_return n s.cpus)
      (λ r. ap (λ (j : ℕ). j == id) (return_look n s.cpus r).0) (λ r. (return_look n s.cpus r).1) s.records
  online_look n now (Err e) s t (why, (works, records, last)) = looked_same s t records

  begins_on_look : (own n : ℕ) (removal : Removal) (s t : SystemView R) → BeginsOn firing own n removal s t → look t ≡ look s
  begins_on_look own n (Done receipt) s t (does, k, r, here, named, records, last) = ended_look s t k n r _ here records
  begins_on_look own n (Kept kept) s t (does, records, last) = looked_same s t records

  polls_on_look : (own n : ℕ) (answer : Option Receipt) (s t : SystemView R) → PollsOn firing own n answer s t
      → look t ≡ look s
  polls_on_look own n (Some receipt) s t (does, k, r, here, named, records, last) = ended_look s t k n r _ here records
  polls_on_look own n None s t (does, records, last) = looked_same s t records

  untouched_look : (s t : SystemView R) → IsUntouched id s t → look t ≡ look s
  untouched_look s t u = ap (λ o. option_map_or h o none) u.own

  begins_look : (own : ℕ) (answer : Result SystemRemoval Refusal) (s t : SystemView R)
      → (TouchesRecord id (BeginRemove own answer) → ⊥) → BeginsRemoval firing own answer s t → look t ≡ look s
  begins_look own (Ok (over.Done receipt)) s t other d = untouched_look s t
      (begins_others firing own id (Ok (over.Done receipt)) s t (λ e. other (sym e)) d)
  begins_look own (Ok (over.Kept kept)) s t other (inl (e, why, is, same)) = ap look same
  begins_look own (Ok (over.Kept kept)) s t other (inr (clear, (way, cpus, each, some, sum))) =
      folds_keep (λ u (b : Begun) w. BeginsOn firing own b.cpu b.found u w) (λ x y. look y ≡ look x) (λ x. refl)
      (λ x y z a b. b ∙ a) (λ x b y. begins_on_look own b.cpu b.found x y) way s t each
  begins_look own (Err e) s t other (inl (why, first, is, same)) = ap look same
  begins_look own (Err e) s t other (inr (clear, wrong)) = absurd wrong

  polls_look : (own : ℕ) (answer : Result (Option Receipt) Refusal) (s t : SystemView R)
      → (TouchesRecord id (PollRemove own answer) → ⊥) → PollsRemoval firing own answer s t → look t ≡ look s
  polls_look own (Ok (Some receipt)) s t other d = untouched_look s t
      (polls_others firing own id (Ok (Some receipt)) s t (λ e. other (sym e)) d)
  polls_look own (Ok None) s t other (inl (e, why, is, same)) = ap look same
  polls_look own (Ok None) s t other (inr (clear, (way, cpus, each, some))) =
      folds_keep (λ u (p : Polled) w. PollsOn firing own p.cpu p.answer u w) (λ x y. look y ≡ look x) (λ x. refl)
      (λ x y z a b. b ∙ a) (λ x p y. polls_on_look own p.cpu p.answer x y) way s t each
  polls_look own (Err e) s t other (inl (why, first, is, same)) = ap look same
  polls_look own (Err e) s t other (inr (clear, wrong)) = absurd wrong

  refused_or : {A : Type 0} (o : Option Refusal) (refused : Refusal → A) (answer : A) (s t : SystemView R) (G : Type 0)
      → ((e : Refusal) × (o ≡ Some e) × (answer ≡ refused e) × (t ≡ s)) ⊎ ((o ≡ None) × G) → (G → look t ≡ look s)
      → look t ≡ look s
  refused_or o refused answer s t G (inl (e, why, is, same)) goes = ap look same
  refused_or o refused answer s t G (inr (clear, g)) goes = goes g

  pub look_kept : (s t : SystemView R) (call : SystemCall) → HasRisingIds s.records → Changes firing s call t
      → (TouchesRecord id call → ⊥) → look t ≡ look s
  look_kept s t (Add level when now answer) rising d other = refused_or _ _ answer s t _ d
      (λ k. adds_look level when now answer s t other k)
  look_kept s t (AddOmni level when skew now answer) rising d other = refused_or _ _ answer s t _ d
      (λ k. omni_look level when skew now answer s t other k)
  look_kept s t (Bind own None answer) rising d other = refused_or _ _ answer s t _ d
      (λ k. (let (is, n, (was, has), cpus, records) = k in replaced_look own n n false was s t rising has records))
  look_kept s t (Bind own (Some n) answer) rising d other = refused_or _ _ answer s t _ d
      (λ k. binds_look own n answer s t rising k)
  look_kept s t (BeginRemove own answer) rising d other = begins_look own answer s t other d
  look_kept s t (PollRemove own answer) rising d other = polls_look own answer s t other d
  look_kept s t (AskTotals own answer) rising d other = untouched_look s t (asks_others firing own id answer s t d)
  look_kept s t (Reprogram own moment answer) rising d other = refused_or _ _ answer s t _ d (λ k. looked_same s t k.2.1.1)
  look_kept s t (ReprogramOn own n moment answer) rising d other = refused_or _ _ answer s t _ d (λ k. looked_same s t k.1.1)
  look_kept s t (Juggle n answer) rising d other = refused_or _ _ answer s t _ d
      (λ k. (let (report, is, moves) = k in turns_look n (single_ids n s) report s t rising moves))
  look_kept s t (Offline n answer) rising d other = refused_or _ _ answer s t _ d
      (λ k. (let (report, moved, moves, rest) = k in leaves_look n report answer moved t rest
      ∙ turns_look n (single_ids n s) report s moved rising moves))
  look_kept s t (Online n now answer) rising d other = refused_or _ _ answer s t _ d (λ k. online_look n now answer s t k)
  look_kept s t (Suspend answer) rising d other = refused_or _ _ answer s t _ d (λ k. looked_same s t k.1.1)
  look_kept s t (Resume answer) rising d other = refused_or _ _ answer s t _ d (λ k. looked_same s t k.1.1)
  look_kept s t (FireOne n now answer) rising d other = absurd d
  look_kept s t (SoftInterrupt n level budget answer) rising d other = absurd d
