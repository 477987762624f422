-- Each call of a system is made of calls on its CPUs.
use Rattle.cyc_system_laws.proofs.Unnamed.{Unnamed, unnamed, no_record, unnamed_set, unnamed_push, unnamed_tail, unnamed_remove}
use Rattle.cyc_system_laws.proofs.Unnamed.{unnamed_map, unnamed_filter}
use Rattle.cyc_system_laws.proofs.Unmarked.{Unmarked, unmarked_on, unmarked_rooms, unmarked_reserves, unmarked_quiet}
use Rattle.cyc_system_laws.proofs.Unmarked.{unmarked_asked, unmarked_entering, unmarked_returns, SameMarks, marks_kept}
use Rattle.cyc_agreement.specs.Agreement.{suspended_on}
use Rattle.cyc_cpu.proofs.Calling.{LeavesMark}
use Rattle.cyc_agreement.specs.Suspending.{on_each}
use Rattle.cyc_cpu.specs.Calls.{Suspend as CpuSuspend, Resume as CpuResume}
use Rattle.std.proofs.Common.{◌≡◌, ◌≢◌, ◌∙◌, ℕ, zero, suc, ◌≤◌, ◌⊎◌, inl, inr, Bool, true, false, cond, All, Option, Some, None}
use Rattle.std.proofs.Common.{Result, Ok, Err, List, [], ◌∷◌, ◌++◌, length, map, slice_set, refl, sym, ap, subst, arith}
use Rattle.std.specs.List.{FoldsTo}
use Rattle.cyc_types.specs.declared.Raise.{Ghosts as Raise}
use Rattle.cyc_types.specs.declared.firing.Sent.{Sent}
use Rattle.cyc_types.specs.declared.level.Level.{Level}
use Rattle.cyc_types.specs.declared.moment.When.{When}
use Rattle.cyc_types.specs.declared.receipt.Receipt.{Receipt}
use Rattle.cyc_types.specs.declared.refusal.JuggleReport.{JuggleReport}
use Rattle.cyc_types.specs.declared.refusal.Refusal.{Refusal}
use Rattle.cyc_types.specs.Series.{first}
use Rattle.cyc_types.proofs.Runs.{folds_on}
use Rattle.cyc_cpu.specs.declared.removing.Removal.{Removal}
use Rattle.cyc_cpu.specs.declared.removing.Removal.TheVariants.{Done, Kept}
use Rattle.cyc_cpu.specs.Gone.{PutsNot}
use Rattle.cyc_cpu.specs.Calls.{CpuCall, BeginRemove as CpuBegin, PollRemove as CpuPoll, TakeNow, Reserve, Widen, AskRoom}
use Rattle.cyc_cpu.specs.Calls.{AskPending, Reprogram as CpuReprogram}
use Rattle.cyc_places.specs.declared.record.Placement.{Placement}
use Rattle.cyc_places.specs.declared.record.Placement.TheVariants as stands
use Rattle.cyc_places.specs.declared.record.Record.{Record}
use Rattle.cyc_places.specs.Places.{IsRecord, HasNoRecord}
use Rattle.cyc_agreement.specs.Cpus.{CpusView, CallOn, on, DoesAt, Works, online_cpus}
use Rattle.cyc_agreement.specs.Reserving.{rooms, reserves, ReservesEach}
use Rattle.cyc_agreement.specs.Shifting.{move_of, WhyNotShifted, moving}
use Rattle.cyc_system.specs.System.{SystemView, ids_on}
use Rattle.cyc_system.specs.Adding.{OnlyWorks, add_request, Adds, entering}
use Rattle.cyc_system.specs.Binding.{Records, GoesTo, Unbinds, Binds}
use Rattle.cyc_system.specs.SystemRemoval.{SystemRemoval}
use Rattle.cyc_system.specs.SystemRemoval.TheVariants as over
use Rattle.cyc_system.specs.SystemTotals.{SystemTotals}
use Rattle.cyc_system.specs.Removing.{Begun, BeginsOn, BeginsEach, Removes, AnswersRemoval}
use Rattle.cyc_system.specs.Polling.{Polled, PollsOn, PollsEach, PollsCpus}
use Rattle.cyc_system.specs.Counting.{Counted, asked, AsksTotals}
use Rattle.cyc_system.specs.declared.turning.Turn.{Turn}
use Rattle.cyc_system.specs.declared.turning.Turn.TheVariants.{StaysBound, StaysPending, StaysRefused, Moves}
use Rattle.cyc_system.specs.Juggling.{TakesTurn, Turns, single_ids}
use Rattle.cyc_system.specs.GoingOffline.{quiet, Retires, EndsOffline}
use Rattle.cyc_system.specs.Omni.{AddsOmni, entering_each}
use Rattle.cyc_system.specs.Online.{GoesOnline, staying, is_staying, returns, return_at, after_return}
use Rattle.cyc_system.specs.Calls.{SystemCall, Changes, Add, AddOmni, Bind, BeginRemove, PollRemove, AskTotals, Reprogram}
use Rattle.cyc_system.specs.Calls.{ReprogramOn, Juggle, Offline, Online, FireOne, SoftInterrupt, Suspend, Resume}
use Rattle.cyc_system_laws.specs.Parts.{OnCpu, SetOnline, DoesPart, IsWithout, IsMadeOf}

-- ---- calls that put in no cyclic of an id

abbrev Outs : ℕ → List CallOn → Type 0
Outs id [] = Unit {0}
Outs id (c ∷ way) = PutsNot id c.call × Outs id way

outs_on : (id : ℕ) (xs ys : List CallOn) → Outs id xs → Outs id ys → Outs id (xs ++ ys)
outs_on id [] ys a b = b
outs_on id (x ∷ xs) ys a b = (a.0, outs_on id xs ys a.1 b)

outs_each : (id : ℕ) (call : CpuCall) (n : ℕ) → PutsNot id call → Outs id (on_each call n)
outs_each id call zero puts = tt
outs_each id call (suc n) puts = outs_on id (on_each call n) (on n call ∷ []) (outs_each id call n puts) (puts, tt)

outs_rooms : (id more : ℕ) (ns : List ℕ) → Outs id (rooms more ns)
outs_rooms id more [] = tt
outs_rooms id more (n ∷ ns) = (tt, outs_rooms id more ns)

outs_reserves : (id more : ℕ) (ns : List ℕ) → Outs id (reserves more ns)
outs_reserves id more [] = tt
outs_reserves id more (n ∷ ns) = (tt, outs_reserves id more ns)

outs_quiet : (id n : ℕ) (ids : List ℕ) → Outs id (quiet n ids)
outs_quiet id n [] = tt
outs_quiet id n (x ∷ xs) = (tt, outs_quiet id n xs)

outs_asked : (id own : ℕ) (way : List Counted) → Outs id (map (asked own) way)
outs_asked id own [] = tt
outs_asked id own (a ∷ way) = (tt, outs_asked id own way)

outs_entering : (id : ℕ) (ns : List ℕ) (own : ℕ) (level : Level) (when : When) (skew now : ℕ) → own ≢ id
    → Outs id (entering_each ns own level when skew now)
outs_entering id [] own level when skew now ne = tt
outs_entering id (n ∷ ns) own level when skew now ne = (tt, (ne, outs_entering id ns own level when skew now ne))

outs_return : (id n now own : ℕ) (level : Level) (counts : Sent) (placement : Placement) → own ≢ id
    → Outs id (return_at n now own level counts placement)
outs_return id n now own level counts (stands.On m bound) ne = tt
outs_return id n now own level counts (stands.Everywhere first skew) ne = (ne, tt)

outs_returns : (id n now : ℕ) (rs : List Record) → Unnamed id rs → Outs id (returns n now rs)
outs_returns id n now [] none = tt
outs_returns id n now (r ∷ rs) none =
    outs_on id (return_at n now r.id r.level _ r.placement) (returns n now rs)
    (outs_return id n now r.id r.level _ r.placement (none zero r refl)) (outs_returns id n now rs (unnamed_tail id r rs none))

withouts : (id : ℕ) (way : List CallOn) → Outs id way → All (IsWithout id) (map OnCpu way)
withouts id [] outs k d low = absurd (omega (arith, low))
withouts id (c ∷ way) outs zero d low = outs.0
withouts id (c ∷ way) outs (suc k) d low = withouts id way outs.1 k d (omega (arith, low))

all_cons : {A : Type 0} (P : A → Type 0) (x : A) (xs : List A) → P x → All P xs → All P (x ∷ xs)
all_cons P x xs p all zero d low = p
all_cons P x xs p all (suc k) d low = all k d (omega (arith, low))

all_on : {A : Type 0} (P : A → Type 0) (xs ys : List A) → All P xs → All P ys → All P (xs ++ ys)
all_on P [] ys a b = b
all_on P (x ∷ xs) ys a b = all_cons P x (xs ++ ys) (a zero x (omega arith))
    (all_on P xs ys (λ j e less. a (suc j) e (omega (arith, less))) b)

module _ {R : Type 0} (firing : Raise R) where
  pub parts_of : (way : List CallOn) (v w : CpusView R) → Works firing way v w
      → FoldsTo (DoesPart firing) v (map OnCpu way) w
  parts_of [] v w last = last
  parts_of (c ∷ way) v w (u, does, rest) = (u, does, parts_of way u w rest)

  -- what was done to the CPUs, where that neither suspended nor resumed one
  pub record IsPlainlyMadeOf (s t : SystemView R) : Type 0 where
    pub made : IsMadeOf firing s t
    pub marks : SameMarks firing s.cpus t.cpus

  none_made : (s : SystemView R) → IsMadeOf firing s s
  none_made s = record {
    way = [];
    works = refl;
    without = λ id low none k d less. absurd (omega (arith, less));
    unknown =
        λ id low none. none;
    last = omega arith;
  }

  made_none : (s : SystemView R) → IsPlainlyMadeOf s s
  made_none s = record { made = none_made s; marks = λ n. refl }

  made_same : (s t : SystemView R) → t ≡ s → IsPlainlyMadeOf s t
  made_same s t e = subst (λ x. IsPlainlyMadeOf s x) (sym e) (made_none s)

  then_made : (s t u : SystemView R) → IsMadeOf firing s t → IsMadeOf firing t u → IsMadeOf firing s u
  then_made s t u a b = record {
    way = a.way ++ b.way;
    works = folds_on (DoesPart firing) s.cpus a.way t.cpus b.way u.cpus a.works b.works;
    without = λ id low none. all_on (IsWithout id) a.way b.way (a.without id low none)
        (b.without id (let l = a.last in omega (arith, l, low)) (a.unknown id low none));
    unknown = λ id low none. b.unknown id (let l = a.last in omega (arith, l, low)) (a.unknown id low none);
    last = (let x = a.last in let y = b.last in omega (arith, x, y));
  }

  made_then : (s t u : SystemView R) → IsPlainlyMadeOf s t → IsPlainlyMadeOf t u → IsPlainlyMadeOf s u
  made_then s t u a b = record { made = then_made s t u a.made b.made; marks = λ n. b.marks n ∙ a.marks n }

  -- calls on the CPUs, and a change of the records
  calls_made : (s t : SystemView R) (way : List CallOn) → Works firing way s.cpus t.cpus → s.last ≤ t.last
      → ((id : ℕ) → id ≤ s.last → Unnamed id s.records → Outs id way)
      → ((id : ℕ) → id ≤ s.last → Unnamed id s.records → Unnamed id t.records) → IsMadeOf firing s t
  calls_made s t way works last outs none = record {
    way = map OnCpu way;
    works = parts_of way s.cpus t.cpus works;
    without = λ id low no. withouts id way (outs id low (unnamed id s.records no));
    unknown = λ id low no. no_record id t.records (none id low (unnamed id s.records no));
    last = last;
  }

  made_calls : (s t : SystemView R) (way : List CallOn) → Unmarked way → Works firing way s.cpus t.cpus → s.last ≤ t.last
      → ((id : ℕ) → id ≤ s.last → Unnamed id s.records → Outs id way)
      → ((id : ℕ) → id ≤ s.last → Unnamed id s.records → Unnamed id t.records) → IsPlainlyMadeOf s t
  made_calls s t way plain works last outs none = record {
    made = calls_made s t way works last outs none;
    marks = marks_kept firing way s.cpus t.cpus plain works;
  }

  same_low : (a b : ℕ) → b ≡ a → a ≤ b
  same_low a b e = omega (arith, e)

  same_records : (s t : SystemView R) → t.records ≡ s.records → (id : ℕ) → id ≤ s.last → Unnamed id s.records
      → Unnamed id t.records
  same_records s t e id low none = subst (λ rs. Unnamed id rs) (sym e) none

  -- nothing but calls, none of which puts in anything
  only_made : (s t : SystemView R) (way : List CallOn) → ((id : ℕ) → Outs id way) → OnlyWorks firing way s t
      → IsMadeOf firing s t
  only_made s t way outs (works, records, last) =
      calls_made s t way works (same_low s.last t.last last) (λ id low none. outs id) (same_records s t records)

  made_only : (s t : SystemView R) (way : List CallOn) → Unmarked way → ((id : ℕ) → Outs id way) → OnlyWorks firing way s t
      → IsPlainlyMadeOf s t
  made_only s t way plain outs only = record {
    made = only_made s t way outs only;
    marks = marks_kept firing way s.cpus t.cpus plain only.0;
  }

  -- a cyclic's record has another placement
  placed_records : (own : ℕ) (placement : Placement) (s t : SystemView R) → Records own placement s t → (id : ℕ) → id ≤ s.last
      → Unnamed id s.records → Unnamed id t.records
  placed_records own placement s t (k, r, here, named, records, last) id low none =
      subst (λ rs. Unnamed id rs) (sym records) (unnamed_set id s.records k r _ none here refl)

  -- the id of a record is another one
  named_not : (own : ℕ) (placement : Placement) (s t : SystemView R) → Records own placement s t → (id : ℕ) → Unnamed id s.records
      → own ≢ id
  named_not own placement s t (k, r, here, named, records, last) id none same = none k r here (named ∙ same)

  last_of : (own : ℕ) (placement : Placement) (s t : SystemView R) → Records own placement s t → s.last ≤ t.last
  last_of own placement s t (k, r, here, named, records, last) = same_low s.last t.last last

  made_goes : (own home target : ℕ) (placement : Placement) (s t : SystemView R)
      → GoesTo firing (move_of own home target) (Ok tt) s.cpus t.cpus
      → Records own placement s t → IsPlainlyMadeOf s t
  made_goes own home target placement s t (inl (at, is, same)) records =
      made_calls s t [] tt (sym same) (last_of own placement s t records) (λ id low none. tt)
      (placed_records own placement s t records)
  made_goes own home target placement s t (inr (ne, (taken, works))) records =
      made_calls s t (moving own home target taken) (tt, (tt, (tt, (tt, (tt, tt))))) works (last_of own placement s t records)
      (λ id low none. (tt, (tt, (tt, (tt, (named_not own placement s t records id none, tt))))))
      (placed_records own placement s t records)

  made_unshifted : (own source target : ℕ) (e : Refusal) (s t : SystemView R)
      → WhyNotShifted firing (move_of own source target) e s.cpus t.cpus → t.records ≡ s.records → t.last ≡ s.last
      → IsPlainlyMadeOf s t
  made_unshifted own source target e s t (inl (removed, is_open, is, same)) records last =
      made_only s t [] tt (λ id. tt) (sym same, records, last)
  made_unshifted own source target e s t (inr (inl (still, n, some, is, works))) records last =
      made_only s t (on source (AskPending own (Some n)) ∷ []) (tt, tt) (λ id. (tt, tt)) (works, records, last)
  made_unshifted own source target e s t (inr (inr (still, works))) records last =
      made_only s t (on source (AskPending own (Some 0)) ∷ on target (Reserve 1 (Err e)) ∷ []) (tt, (tt, tt))
      (λ id. (tt, (tt, tt)))
      (works, records, last)

  made_stays : (own home target : ℕ) (e : Refusal) (s t : SystemView R)
      → GoesTo firing (move_of own home target) (Err e) s.cpus t.cpus
      → t.records ≡ s.records → t.last ≡ s.last → IsPlainlyMadeOf s t
  made_stays own home target e s t (inl (at, is, same)) records last = made_only s t [] tt (λ id. tt) (sym same, records, last)
  made_stays own home target e s t (inr (ne, why)) records last = made_unshifted own home target e s t why records last

  made_adds : (s t : SystemView R) (level : Level) (when : When) (now : ℕ) (answer : Result ℕ Refusal)
      → Adds firing (add_request level when now) answer s t → IsPlainlyMadeOf s t
  made_adds s t level when now (Ok own) (d, chosen, next, works, records, last) = made_calls s t
      (on d (Reserve 1 (Ok tt)) ∷ entering d own level when.interval (first when.start when.interval now)) (tt, (tt, (tt, tt)))
      works
      (omega (arith, next, last))
      (λ id low none. (tt, (tt, (λ same. absurd (omega (arith, next, low, same)), tt))))
      (λ id low none. subst (λ rs. Unnamed id rs) (sym records)
      (unnamed_push id s.records _ none (λ same. absurd (omega (arith, next, low, same)))))
  made_adds s t level when now (Err e) (d, chosen, inl only) = made_only s t (on d (Reserve 1 (Err e)) ∷ []) (tt, tt)
      (λ id. (tt, tt)) only
  made_adds s t level when now (Err e) (d, chosen, inr (is, only)) =
      made_only s t (on d (Reserve 1 (Ok tt)) ∷ []) (tt, tt) (λ id. (tt, tt)) only

  -- a system with other CPUs
  abbrev with_cpus : SystemView R → CpusView R → SystemView R
  with_cpus s v = record s { cpus = v }

  made_reserved : (more : ℕ) (answer : Result (Unit {0}) Refusal) (s t : SystemView R)
      → ReservesEach firing more answer s.cpus t.cpus → t.records ≡ s.records → t.last ≡ s.last
      → IsPlainlyMadeOf s t
  made_reserved more (Ok done) s t (v, asks, takes) records last = made_then s (with_cpus s v) t
      (made_only s (with_cpus s v) (rooms more (online_cpus s.cpus)) (unmarked_rooms more (online_cpus s.cpus))
      (λ id. outs_rooms id more (online_cpus s.cpus))
      (asks, refl, refl))
      (made_only (with_cpus s v) t (reserves more (online_cpus s.cpus)) (unmarked_reserves more (online_cpus s.cpus))
      (λ id. outs_reserves id more (online_cpus s.cpus))
      (takes, records, last))
  made_reserved more (Err e) s t (inl (before, n, after, works)) records last =
      made_only s t (rooms more before ++ on n (AskRoom more (Err e)) ∷ [])
      (unmarked_on (rooms more before) (on n (AskRoom more (Err e)) ∷ []) (unmarked_rooms more before) (tt, tt))
      (λ id. outs_on id (rooms more before) (on n (AskRoom more (Err e)) ∷ []) (outs_rooms id more before) (tt, tt))
      (works, records, last)
  made_reserved more (Err e) s t (inr (v, asks, (is, before, n, after, works))) records last = made_then s (with_cpus s v) t
      (made_only s (with_cpus s v) (rooms more (online_cpus s.cpus)) (unmarked_rooms more (online_cpus s.cpus))
      (λ id. outs_rooms id more (online_cpus s.cpus))
      (asks, refl, refl))
      (made_only (with_cpus s v) t (reserves more before ++ on n (Reserve more (Err e)) ∷ [])
      (unmarked_on (reserves more before) (on n (Reserve more (Err e)) ∷ []) (unmarked_reserves more before) (tt, tt))
      (λ id. outs_on id (reserves more before) (on n (Reserve more (Err e)) ∷ []) (outs_reserves id more before) (tt, tt))
      (works, records, last))

  made_omni : (s t : SystemView R) (level : Level) (when : When) (skew now : ℕ) (answer : Result ℕ Refusal)
      → AddsOmni firing (add_request level when now) skew answer s t → IsPlainlyMadeOf s t
  made_omni s t level when skew now (Ok own) (next, (v, reserved, works), records, last) = made_then s (with_cpus s v) t
      (made_reserved 1 (Ok tt) s (with_cpus s v) reserved refl refl)
      (made_calls (with_cpus s v) t (entering_each (online_cpus s.cpus) own level when skew now)
      (unmarked_entering (online_cpus s.cpus) own level when skew now) works (omega (arith, next, last))
      (λ id low none. outs_entering id (online_cpus s.cpus) own level when skew now
      (λ same. absurd (omega (arith, next, low, same))))
      (λ id low none. subst (λ rs. Unnamed id rs) (sym records)
      (unnamed_push id s.records _ none (λ same. absurd (omega (arith, next, low, same))))))
  made_omni s t level when skew now (Err e) (inl reserved, records, last) = made_reserved 1 (Err e) s t reserved records last
  made_omni s t level when skew now (Err e) (inr (is, reserved), records, last) =
      made_reserved 1 (Ok tt) s t reserved records last

  made_binds : (id n : ℕ) (answer : Result (Unit {0}) Refusal) (s t : SystemView R) → Binds firing id n answer s t
      → IsPlainlyMadeOf s t
  made_binds id n (Ok done) s t (home, has, goes, records) = made_goes id home n (stands.On n true) s t goes records
  made_binds id n (Err e) s t (home, has, goes, records, last) = made_stays id home n e s t goes records last

  made_unbinds : (id : ℕ) (answer : Result (Unit {0}) Refusal) (s t : SystemView R) → Unbinds id answer s t
      → IsPlainlyMadeOf s t
  made_unbinds id answer s t (is, n, home, cpus, records) =
      made_calls s t [] tt (sym cpus) (last_of id (stands.On n false) s t records) (λ q low none. tt)
      (placed_records id (stands.On n false) s t records)

  -- ---- removals

  made_ended : (n : ℕ) (call : CpuCall) (k : ℕ) (r x : Record) (s t : SystemView R) → LeavesMark call
      → ((id : ℕ) → PutsNot id call)
      → DoesAt firing s.cpus (on n call) t.cpus
      → IsRecord s.records k r → x.id ≡ r.id → t.records ≡ slice_set s.records k x → t.last ≡ s.last → IsPlainlyMadeOf s t
  made_ended n call k r x s t plain outs does here same records last =
      made_calls s t (on n call ∷ []) (plain, tt) (t.cpus, does, refl) (same_low s.last t.last last)
      (λ id low none. (outs id, tt)) (λ id low none. subst (λ rs. Unnamed id rs) (sym records)
      (unnamed_set id s.records k r x none here same))

  begins_on : (id n : ℕ) (found : Removal) (s t : SystemView R) → BeginsOn firing id n found s t → IsPlainlyMadeOf s t
  begins_on id n (Done receipt) s t (does, k, r, here, named, records, last) =
      made_ended n (CpuBegin id (Ok (Done receipt))) k r _ s t tt (λ q. tt) does here refl records last
  begins_on id n (Kept kept) s t (does, records, last) =
      made_only s t (on n (CpuBegin id (Ok (Kept kept))) ∷ []) (tt, tt) (λ q. (tt, tt)) ((t.cpus, does, refl), records, last)

  begins_each : (id : ℕ) (way : List Begun) (s t : SystemView R) → BeginsEach firing id way s t → IsPlainlyMadeOf s t
  begins_each id [] s t e = made_same s t (sym e)
  begins_each id (b ∷ way) s t (u, first, rest) =
      made_then s u t (begins_on id b.cpu b.found s u first) (begins_each id way u t rest)

  answers : (id : ℕ) (receipt : Receipt) (s t : SystemView R) → AnswersRemoval id receipt s t → IsPlainlyMadeOf s t
  answers id receipt s t a = made_calls s t [] tt (sym a.cpus) (same_low s.last t.last a.last) (λ q low none. tt)
      (λ q low none. subst (λ rs. Unnamed q rs) (sym a.records) (unnamed_remove q s.records a.position none))

  begins : (id : ℕ) (answer : Result SystemRemoval Refusal) (s t : SystemView R) → Removes firing id answer s t
      → IsPlainlyMadeOf s t
  begins id (Ok (over.Done receipt)) s t (way, u, cpus, each, done) =
      made_then s u t (begins_each id way s u each) (answers id receipt u t done)
  begins id (Ok (over.Kept kept)) s t (way, cpus, each, some, sum) = begins_each id way s t each
  begins id (Err e) s t d = absurd d

  polls_on : (id n : ℕ) (answer : Option Receipt) (s t : SystemView R) → PollsOn firing id n answer s t
      → IsPlainlyMadeOf s t
  polls_on id n (Some receipt) s t (does, k, r, here, named, records, last) =
      made_ended n (CpuPoll (Some receipt)) k r _ s t tt (λ q. tt) does here refl records last
  polls_on id n None s t (does, records, last) =
      made_only s t (on n (CpuPoll None) ∷ []) (tt, tt) (λ q. (tt, tt)) ((t.cpus, does, refl), records, last)

  polls_each : (id : ℕ) (way : List Polled) (s t : SystemView R) → PollsEach firing id way s t → IsPlainlyMadeOf s t
  polls_each id [] s t e = made_same s t (sym e)
  polls_each id (p ∷ way) s t (u, first, rest) =
      made_then s u t (polls_on id p.cpu p.answer s u first) (polls_each id way u t rest)

  polls : (id : ℕ) (answer : Result (Option Receipt) Refusal) (s t : SystemView R) → PollsCpus firing id answer s t
      → IsPlainlyMadeOf s t
  polls id (Ok (Some receipt)) s t (way, u, cpus, each, done) =
      made_then s u t (polls_each id way s u each) (answers id receipt u t done)
  polls id (Ok None) s t (way, cpus, each, some) = polls_each id way s t each
  polls id (Err e) s t d = absurd d

  totals : (id : ℕ) (answer : Option SystemTotals) (s t : SystemView R) → AsksTotals firing id answer s t
      → IsPlainlyMadeOf s t
  totals id (Some found) s t (way, r, known, cpus, only, adds_up) =
      made_only s t (map (asked id) way) (unmarked_asked id way) (λ q. outs_asked q id way) only
  totals id None s t (unknown, same) = made_same s t same

  -- ---- juggle and offline

  turns_one : (n id : ℕ) (turn : Turn) (s t : SystemView R) → TakesTurn firing n id turn s t → IsPlainlyMadeOf s t
  turns_one n id StaysBound s t (placement, same) = made_same s t same
  turns_one n id StaysPending s t (placement, found, some, only) =
      made_only s t (on n (AskPending id (Some found)) ∷ []) (tt, tt) (λ q. (tt, tt)) only
  turns_one n id StaysRefused s t (placement, d, chosen, e, only) =
      made_only s t (on n (AskPending id (Some 0)) ∷ on d (Reserve 1 (Err e)) ∷ []) (tt, (tt, tt)) (λ q. (tt, (tt, tt))) only
  turns_one n id Moves s t (placement, d, chosen, (taken, works), records) =
      made_calls s t (moving id n d taken) (tt, (tt, (tt, (tt, (tt, tt))))) works (last_of id (stands.On d false) s t records)
      (λ q low none. (tt, (tt, (tt, (tt, (named_not id (stands.On d false) s t records q none, tt))))))
      (placed_records id (stands.On d false) s t records)

  turns : (n : ℕ) (ids : List ℕ) (report : JuggleReport) (s t : SystemView R) → Turns firing n ids report s t
      → IsPlainlyMadeOf s t
  turns n [] report s t (none, same) = made_same s t same
  turns n (id ∷ ids) report s t (turn, u, rest, first, counted, more) =
      made_then s u t (turns_one n id turn s u first) (turns n ids rest u t more)

  retires : (n : ℕ) (ids : List ℕ) (s t : SystemView R) → FoldsTo (Retires firing n) s ids t → IsPlainlyMadeOf s t
  retires n [] s t e = made_same s t (sym e)
  retires n (id ∷ ids) s t (u, (taken, does, k, r, here, named, records, last), rest) =
      made_then s u t (made_ended n (TakeNow id (Ok taken)) k r _ s u tt (λ q. tt) does here refl records last)
      (retires n ids u t rest)

  switched_made : (n : ℕ) (online : Bool) (s t : SystemView R)
      → t.cpus ≡ record s.cpus { online = slice_set s.cpus.online n online } → t.records ≡ s.records → t.last ≡ s.last
      → IsMadeOf firing s t
  switched_made n online s t cpus records last = record {
    way = SetOnline n online ∷ [];
    works = (t.cpus, cpus, refl);
    without = λ id low none. all_cons (IsWithout id) (SetOnline n online) [] tt (λ k d less. absurd (omega (arith, less)));
    unknown = λ id low none. subst (λ rs. HasNoRecord id rs) (sym records) none;
    last = same_low s.last t.last last;
  }

  made_switched : (n : ℕ) (online : Bool) (s t : SystemView R)
      → t.cpus ≡ record s.cpus { online = slice_set s.cpus.online n online } → t.records ≡ s.records → t.last ≡ s.last
      → IsPlainlyMadeOf s t
  made_switched n online s t cpus records last = record {
    made = switched_made n online s t cpus records last;
    marks = λ m. ap (λ v. suspended_on m v) cpus;
  }

  leaves : (n : ℕ) (report : JuggleReport) (answer : Result (Unit {0}) Refusal) (s t : SystemView R)
      → EndsOffline firing n report answer s t → IsPlainlyMadeOf s t
  leaves n report answer s t (inl (left, is, same)) = made_same s t same
  leaves n report answer s t (inr (inl (none, is, (before, id, after, found, some, only)))) =
      made_only s t (quiet n before ++ on n (AskPending id (Some found)) ∷ [])
      (unmarked_on (quiet n before) (on n (AskPending id (Some found)) ∷ []) (unmarked_quiet n before) (tt, tt))
      (λ q. outs_on q (quiet n before) (on n (AskPending id (Some found)) ∷ []) (outs_quiet q n before) (tt, tt)) only
  leaves n report answer s t (inr (inr (none, is, (u, only, empty, each, off)))) =
      made_then s u t (made_only s u (quiet n (ids_on n s.cpus)) (unmarked_quiet n (ids_on n s.cpus))
      (λ q. outs_quiet q n (ids_on n s.cpus)) only)
      (made_then u empty t (retires n (ids_on n s.cpus) u empty each)
      (made_switched n false empty t (ap (λ (x : SystemView R). x.cpus) off) (ap (λ (x : SystemView R). x.records) off)
      (ap (λ (x : SystemView R). x.last) off)))

  return_id : (n : ℕ) (v : CpusView R) (r : Record) → (after_return n v r).id ≡ r.id
  return_id n v r = by (is_staying v r)
    where
      by : (b : Bool) → (cond b (record r { ended = slice_set r.ended n (record { sent = 0; lost = 0 }) }) r).id ≡ r.id
      by true = refl
      by false = refl

  made_returns : (n now : ℕ) (answer : Result (Unit {0}) Refusal) (s t : SystemView R) → GoesOnline firing n now answer s t
      → IsPlainlyMadeOf s t
  made_returns n now (Ok done) s t ((w, works, switched), records, last) =
      made_then s (record { cpus = w; records = t.records; last = t.last }) t
      (made_calls s (record { cpus = w; records = t.records; last = t.last })
      (on n (Reserve (length (staying s)) (Ok tt)) ∷ on n (Widen (length (staying s))) ∷ returns n now (staying s))
      (tt, (tt, unmarked_returns n now (staying s))) works
      (same_low s.last t.last last)
      (λ id low none. (tt, (tt, outs_returns id n now (staying s) (unnamed_filter id (is_staying s.cpus) s.records none))))
      (λ id low none. subst (λ rs. Unnamed id rs) (sym records)
      (unnamed_map id (after_return n s.cpus) s.records (return_id n s.cpus) none)))
      (made_switched n true (record { cpus = w; records = t.records; last = t.last }) t switched refl refl)
  made_returns n now (Err e) s t (why, only) =
      made_only s t (on n (Reserve (length (staying s)) (Err e)) ∷ []) (tt, tt) (λ id. (tt, tt)) only

  -- ---- any call

  refused_or : {A : Type 0} (o : Option Refusal) (refused : Refusal → A) (answer : A) (s t : SystemView R) (G : Type 0)
      → ((e : Refusal) × (o ≡ Some e) × (answer ≡ refused e) × (t ≡ s)) ⊎ ((o ≡ None) × G) → (G → IsPlainlyMadeOf s t)
      → IsPlainlyMadeOf s t
  refused_or o refused answer s t G (inl (e, why, is, same)) goes = made_same s t same
  refused_or o refused answer s t G (inr (clear, g)) goes = goes g

  -- the call neither suspends the system nor resumes it
  abbrev pub LeavesMarks : SystemCall → Type 0
  LeavesMarks (Suspend answer) = ⊥
  LeavesMarks (Resume answer) = ⊥
  LeavesMarks call = Unit {0}

  plainly : (s t : SystemView R) (call : SystemCall) → LeavesMarks call → Changes firing s call t → IsPlainlyMadeOf s t
  plainly s t (Add level when now answer) plain d = refused_or _ _ answer s t _ d (λ g. made_adds s t level when now answer g)
  plainly s t (AddOmni level when skew now answer) plain d =
      refused_or _ _ answer s t _ d (λ g. made_omni s t level when skew now answer g)
  plainly s t (Bind id None answer) plain d = refused_or _ _ answer s t _ d (λ g. made_unbinds id answer s t g)
  plainly s t (Bind id (Some n) answer) plain d = refused_or _ _ answer s t _ d (λ g. made_binds id n answer s t g)
  plainly s t (BeginRemove id answer) plain d = refused_or _ _ answer s t _ d (λ g. begins id answer s t g)
  plainly s t (PollRemove id answer) plain d = refused_or _ _ answer s t _ d (λ g. polls id answer s t g)
  plainly s t (AskTotals id answer) plain d = totals id answer s t d
  plainly s t (Reprogram id moment answer) plain d =
      refused_or _ _ answer s t _ d (λ g. made_only s t (on g.0 (CpuReprogram id moment (Ok tt)) ∷ []) (tt, tt) (λ q. (tt, tt))
      (g.2.1))
  plainly s t (ReprogramOn id n moment answer) plain d =
      refused_or _ _ answer s t _ d (λ g. made_only s t (on n (CpuReprogram id moment (Ok tt)) ∷ []) (tt, tt) (λ q. (tt, tt))
      (g.1))
  plainly s t (Juggle n answer) plain d = refused_or _ _ answer s t _ d
      (λ g. (let (report, is, moves) = g in turns n (single_ids n s) report s t moves))
  plainly s t (Offline n answer) plain d = refused_or _ _ answer s t _ d
      (λ g. (let (report, moved, moves, rest) = g in
      made_then s moved t (turns n (single_ids n s) report s moved moves) (leaves n report answer moved t rest)))
  plainly s t (Online n now answer) plain d = refused_or _ _ answer s t _ d (λ g. made_returns n now answer s t g)
  plainly s t (Suspend answer) plain d = absurd plain
  plainly s t (Resume answer) plain d = absurd plain
  plainly s t (FireOne n now answer) plain d = absurd d
  plainly s t (SoftInterrupt n level budget answer) plain d = absurd d

  pub made_of : (s t : SystemView R) (call : SystemCall) → Changes firing s call t → IsMadeOf firing s t
  made_of s t (Suspend answer) (inl (e, why, is, same)) = (made_same s t same).made
  made_of s t (Suspend answer) (inr (clear, g)) =
      only_made s t (on_each CpuSuspend (length s.cpus.cpus)) (λ q. outs_each q CpuSuspend (length s.cpus.cpus) tt) g.1
  made_of s t (Resume answer) (inl (e, why, is, same)) = (made_same s t same).made
  made_of s t (Resume answer) (inr (clear, g)) =
      only_made s t (on_each CpuResume (length s.cpus.cpus)) (λ q. outs_each q CpuResume (length s.cpus.cpus) tt) g.1
  made_of s t call d = (plainly s t call tt d).made

  -- any other call leaves each CPU suspended where it was
  pub marks_same : (s t : SystemView R) (call : SystemCall) → LeavesMarks call → Changes firing s call t
      → SameMarks firing s.cpus t.cpus
  marks_same s t call plain d = (plainly s t call plain d).marks
