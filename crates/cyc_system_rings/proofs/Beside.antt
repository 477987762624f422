-- What a call of a system keeps of each CPU: the removal that is open there, and the cyclic of an id that it doesn't touch.
use Rattle.cyc_cpu.specs.Calls.{Suspend as CpuSuspend, Resume as CpuResume}
use Rattle.std.proofs.Common.{◌≡◌, ◌≢◌, ◌∙◌, ◌==◌, ℕ, zero, suc, inl, inr, Bool, true, false, cond, find, filter, Option}
use Rattle.std.proofs.Common.{Some, None, Result, Ok, Err, List, [], ◌∷◌, map, slice_set, refl, sym, ap}
use Rattle.std.specs.Prelude.{is_some, not, ◌||◌}
use Rattle.std.specs.List.{slice_get, FoldsTo}
use Rattle.std.specs.Option.{option_and_then, option_map_or}
use Rattle.std.proofs.lemmas.Option.{slice_get_within, get_or_from_slice_get}
use mathlib.Core.Logic.{dite}
use native.Mathlib.Decide.{ℕ_discrete}
use Rattle.cyc_types.specs.declared.Raise.{Ghosts as Raise}
use Rattle.cyc_types.specs.declared.receipt.Receipt.{Receipt}
use Rattle.cyc_types.specs.declared.refusal.Refusal.{Refusal}
use Rattle.cyc_timers.specs.Rows.{Cyclic}
use Rattle.cyc_cpu.specs.declared.removing.Removal.{Removal}
use Rattle.cyc_cpu.specs.declared.removing.Removal.TheVariants.{Done, Kept}
use Rattle.cyc_cpu.specs.Cpu.{CpuView, with_moment, cyclic_with}
use Rattle.cyc_cpu.specs.Calls.{CpuCall, CpuChanges as CpuChanges, Place, TakeNow, Reprogram as CpuReprogram, AskPending}
use Rattle.cyc_cpu.specs.Calls.{AskTotals as CpuAskTotals, AskRoom, Reserve, Widen}
use Rattle.cyc_places.specs.declared.record.Record.{Record}
use Rattle.cyc_places.specs.Places.{IsRecord}
use Rattle.cyc_agreement.specs.Cpus.{CpusView, CallOn, DoesAt}
use Rattle.cyc_agreement.proofs.CpuSpots.{get_set_other}
use Rattle.cyc_system_laws.proofs.Lists.{among, any_at, eq_true, true_eq, false_ne}
use Rattle.cyc_system_laws.proofs.Recording.{found}
use Rattle.cyc_system_workers.proofs.Removals.{removal_kept, IsSteady}
use Rattle.cyc_system_laws.proofs.Spots.{none_some, same_some}
use Rattle.cyc_system_laws.proofs.Who.{kept_at}
use Rattle.cyc_system_laws.proofs.Folds.{find_set, find_remove, folds_keep}
use Rattle.cyc_system_laws.proofs.Others.{at_position}
use Rattle.cyc_system_laws.specs.System.{SystemView, has, ids_on, removal_on, is_omnipresent}
use Rattle.cyc_system.specs.Juggling.{single_ids}
use Rattle.cyc_system_laws.specs.Laws.{cyclic_in, cyclic_on}
use Rattle.cyc_system_laws.specs.Removing.{Begun, BeginsOn, BeginsRemoval}
use Rattle.cyc_system_laws.specs.Polling.{Polled, PollsOn, PollsRemoval}
use Rattle.cyc_system_laws.specs.SystemRemoval.{SystemRemoval}
use Rattle.cyc_system_laws.specs.SystemRemoval.TheVariants as over
use Rattle.cyc_system_laws.specs.SystemCalls.{SystemCall, Changes, Add, AddOmni, Bind, BeginRemove, PollRemove, AskTotals}
use Rattle.cyc_system_laws.specs.SystemCalls.{Suspend, Resume, Reprogram, ReprogramOn, Juggle, Offline, Online, FireOne}
use Rattle.cyc_system_laws.specs.SystemCalls.{SoftInterrupt}
use Rattle.cyc_system_laws.proofs.Idle.{IsIdle}
use Rattle.cyc_system_laws.proofs.Components.{find_insert}
use Rattle.cyc_system_rings.proofs.Walks.{May, Needs, Keeps, kept}

-- ---- lists

pub in_filter : {A : Type 0} (p : A → Bool) (xs : List A) (k : ℕ) (x : A) → slice_get (filter p xs) k ≡ Some x
    → (j : ℕ) × (slice_get xs j ≡ Some x) × (p x ≡ true)
in_filter p [] k x e = absurd (none_some e)
in_filter {A} p (y ∷ ys) k x e = by (p y) refl k (in_filter p ys) e
  where
    by : (b : Bool) → p y ≡ b → (k : ℕ)
        → ((k : ℕ) (z : A) → slice_get (filter p ys) k ≡ Some z → (j : ℕ) × (slice_get ys j ≡ Some z) × (p z ≡ true))
        → slice_get (cond b (y ∷ filter p ys) (filter p ys)) k ≡ Some x → (j : ℕ) × (slice_get (y ∷ ys) j ≡ Some x) × (p x ≡ true)
    by true is zero rest at = (0, at, ap p (sym (same_some at)) ∙ is)
    by true is (suc k) rest at = (let (j, there, passes) = rest k x at in (suc j, there, passes))
    by false is k rest at = (let (j, there, passes) = rest k x at in (suc j, there, passes))

pub found_at : (id : ℕ) (rs : List Record) (r : Record) → found id rs ≡ Some r → (k : ℕ) × IsRecord rs k r × (r.id ≡ id)
found_at id [] r e = absurd (none_some e)
found_at id (x ∷ rs) r e = by (x.id == id) refl e (found_at id rs r)
  where
    by : (b : Bool) → (x.id == id) ≡ b → cond b (Some x) (found id rs) ≡ Some r
        → (found id rs ≡ Some r → (k : ℕ) × IsRecord rs k r × (r.id ≡ id)) → (k : ℕ) × IsRecord (x ∷ rs) k r × (r.id ≡ id)
    by true is at rest = (0, at, ap (λ (q : Record). q.id) (sym (same_some at)) ∙ eq_true x.id id is)
    by false is at rest = (let (k, there, named) = rest at in (suc k, there, named))

-- ---- one CPU

among_found : (id : ℕ) (cs : List Cyclic)
    → among id (map (λ c. c.timer.id) cs) ≡ is_some (find (λ (c : Cyclic). c.timer.id == id) cs)
among_found id [] = refl
among_found id (c ∷ cs) = by (c.timer.id == id) (among_found id cs)
  where
    by : (b : Bool) → among id (map (λ c. c.timer.id) cs) ≡ is_some (find (λ (c : Cyclic). c.timer.id == id) cs)
        → (b || among id (map (λ c. c.timer.id) cs)) ≡ is_some (cond b (Some c) (find (λ (c : Cyclic). c.timer.id == id) cs))
    by true rest = refl
    by false rest = rest

pub has_found : {R : Type 0} (n id : ℕ) (v : CpusView R) → has n id v ≡ is_some (cyclic_on n id v)
has_found {R} n id v = by (slice_get v.cpus n)
  where
    by : (o : Option (CpuView R)) → among id (option_map_or (λ cpu. map (λ (c : Cyclic). c.timer.id) cpu.cyclics) o [])
        ≡ is_some (option_and_then (cyclic_in id) o)
    by None = refl
    by (Some x) = among_found id x.cyclics

pub has_same : {R : Type 0} (n id : ℕ) (v w : CpusView R) → cyclic_on n id w ≡ cyclic_on n id v → has n id w ≡ has n id v
has_same n id v w e = has_found n id w ∙ (ap is_some e ∙ sym (has_found n id v))

pub not_there : {R : Type 0} (n id : ℕ) (v : CpusView R) → has n id v ≡ false → cyclic_on n id v ≡ None
not_there n id v e = by (cyclic_on n id v) (sym (has_found n id v) ∙ e)
  where
    by : (o : Option Cyclic) → is_some o ≡ false → o ≡ None
    by None e = refl
    by (Some c) e = absurd (let odd : true ≡ false = e in cc)

pub on_has : {R : Type 0} (n own p : ℕ) (v : CpusView R) → slice_get (ids_on n v) p ≡ Some own → has n own v ≡ true
on_has n own p v at = any_at (λ o. o == own) (ids_on n v) p own (slice_get_within (ids_on n v) p own at)
    (true_eq _ own (get_or_from_slice_get (ids_on n v) p own own at))

pub single_has : {R : Type 0} (n p own : ℕ) (s : SystemView R) → slice_get (single_ids n s) p ≡ Some own
    → (is_omnipresent own s ≡ false) × (has n own s.cpus ≡ true)
single_has n p own s at = let (j, there, passes) = in_filter (λ (i : ℕ). not (is_omnipresent i s)) (ids_on n s.cpus) p own at in
    (by (is_omnipresent own s) passes, on_has n own j s.cpus there)
  where
    by : (b : Bool) → not b ≡ true → b ≡ false
    by true e = absurd (let odd : false ≡ true = e in cc)
    by false e = refl

-- a call that neither begins a removal nor asks whether one is over
abbrev pub IsPlain : SystemCall → Type 0
IsPlain (BeginRemove own answer) = ⊥
IsPlain (PollRemove own answer) = ⊥
IsPlain call = Unit {0}

-- which CPUs are online after a call
abbrev pub online_of : SystemCall → List Bool → List Bool
online_of (Offline n (Ok done)) ups = slice_set ups n false
online_of (Online n now (Ok done)) ups = slice_set ups n true
online_of call ups = ups

module _ {R : Type 0} (firing : Raise R) where
  -- ---- removals, and which CPUs are online

  abbrev SameOpen : CpusView R → CpusView R → Type 0
  SameOpen v w = (w.online ≡ v.online) × ((n : ℕ) → removal_on n w ≡ removal_on n v)

  open_then : (u v w : CpusView R) → SameOpen u v → SameOpen v w → SameOpen u w
  open_then u v w a b = (b.0 ∙ a.0, λ n. b.1 n ∙ a.1 n)

  -- a call that neither begins nor ends a removal
  abbrev KeepsOpen : CpuCall → Type 0
  KeepsOpen CpuSuspend = Unit {0}
  KeepsOpen CpuResume = Unit {0}
  KeepsOpen call = IsSteady call

  open_kept_by : (x y : CpuView R) (call : CpuCall) → KeepsOpen call → CpuChanges firing x call y → y.removal ≡ x.removal
  open_kept_by x y CpuSuspend keeps d = ap (λ (z : CpuView R). z.removal) d
  open_kept_by x y CpuResume keeps d = ap (λ (z : CpuView R). z.removal) d
  open_kept_by x y call keeps d = removal_kept firing x y call keeps d

  open_one : (v w : CpusView R) (c : CallOn) → KeepsOpen c.call → DoesAt firing v c w → SameOpen v w
  open_one v w c keeps d = (
    ap (λ (u : CpusView R). u.online) d.rest,
    λ n. ap (λ (u : CpusView R). removal_on n u) d.rest
        ∙ kept_at v c.cpu d.before d.after d.here (λ o. option_and_then (λ (z : CpuView R). z.removal) o)
        (open_kept_by d.before d.after c.call keeps d.change) n,
  )

  steady_idle : (call : CpuCall) → IsIdle call → KeepsOpen call
  steady_idle (AskPending own answer) idle = tt
  steady_idle (CpuAskTotals own answer) idle = tt
  steady_idle (AskRoom more answer) idle = tt
  steady_idle (Reserve more answer) idle = tt
  steady_idle (Widen more) idle = tt
  steady_idle CpuSuspend idle = tt
  steady_idle CpuResume idle = tt
  steady_idle call idle = absurd idle

  abbrev OpenNeeds : SystemCall → SystemView R → Type 0
  OpenNeeds call s = Needs firing SameOpen (λ v. (refl, λ n. refl)) open_then (λ (c : CallOn). KeepsOpen c.call) open_one
      (λ c. steady_idle c.call) call s

  abbrev OpenMay : ℕ → Type 0
  OpenMay own = May firing SameOpen (λ v. (refl, λ n. refl)) open_then (λ (c : CallOn). KeepsOpen c.call) open_one
      (λ c. steady_idle c.call) own

  open_may : (own : ℕ) → OpenMay own
  open_may own = record { takes = λ n taken. tt; puts = λ n level i m carried. tt; sets = λ n moment. tt }

  open_needs : (s : SystemView R) (call : SystemCall) → IsPlain call → OpenNeeds call s
  open_needs s (Add level when now (Ok own)) plain = open_may own
  open_needs s (Add level when now (Err e)) plain = tt
  open_needs s (AddOmni level when skew now (Ok own)) plain = open_may own
  open_needs s (AddOmni level when skew now (Err e)) plain = tt
  open_needs s (Bind own cpu answer) plain = λ a b. open_may own
  open_needs s (BeginRemove own answer) plain = absurd plain
  open_needs s (PollRemove own answer) plain = absurd plain
  open_needs s (AskTotals own answer) plain = tt
  open_needs s (Suspend answer) plain = tt
  open_needs s (Resume answer) plain = tt
  open_needs s (Reprogram own moment (Ok done)) plain = λ a b n. tt
  open_needs s (Reprogram own moment (Err e)) plain = tt
  open_needs s (ReprogramOn own n moment (Ok done)) plain = λ a b. tt
  open_needs s (ReprogramOn own n moment (Err e)) plain = tt
  open_needs s (Juggle n answer) plain = λ still p own at. open_may own
  open_needs s (Offline n (Ok done)) plain = (λ still p own at. open_may own, λ still v k p own taken at. tt)
  open_needs s (Offline n (Err e)) plain = λ still p own at. open_may own
  open_needs s (Online n now (Ok done)) plain = λ k r at level i m carried. tt
  open_needs s (Online n now (Err e)) plain = tt
  open_needs s (FireOne n now answer) plain = tt
  open_needs s (SoftInterrupt n level budget answer) plain = tt

  open_kept : (s t : SystemView R) (call : SystemCall) → IsPlain call → Changes firing s call t
      → Keeps firing SameOpen (λ v. (refl, λ n. refl)) open_then (λ (c : CallOn). KeepsOpen c.call) open_one
      (λ c. steady_idle c.call) call s t
  open_kept s t call plain d = kept firing SameOpen (λ v. (refl, λ n. refl)) open_then
      (λ (c : CallOn). KeepsOpen c.call) open_one (λ c. steady_idle c.call) s t call d (open_needs s call plain)

  -- each CPU has the removal open that it had
  pub removals_same : (s t : SystemView R) (call : SystemCall) → IsPlain call → Changes firing s call t → (n : ℕ)
      → removal_on n t.cpus ≡ removal_on n s.cpus
  removals_same s t (BeginRemove own answer) plain d n = absurd plain
  removals_same s t (PollRemove own answer) plain d n = absurd plain
  removals_same s t (Add level when now (Ok own)) plain d n = (open_kept s t (Add level when now (Ok own)) plain d).1 n
  removals_same s t (Add level when now (Err e)) plain d n = (open_kept s t (Add level when now (Err e)) plain d).1 n
  removals_same s t (AddOmni level when skew now (Ok own)) plain d n =
      (open_kept s t (AddOmni level when skew now (Ok own)) plain d).1 n
  removals_same s t (AddOmni level when skew now (Err e)) plain d n =
      (open_kept s t (AddOmni level when skew now (Err e)) plain d).1 n
  removals_same s t (Bind own cpu answer) plain d n = (open_kept s t (Bind own cpu answer) plain d).1 n
  removals_same s t (AskTotals own answer) plain d n = (open_kept s t (AskTotals own answer) plain d).1 n
  removals_same s t (Suspend answer) plain d n = (open_kept s t (Suspend answer) plain d).1 n
  removals_same s t (Resume answer) plain d n = (open_kept s t (Resume answer) plain d).1 n
  removals_same s t (Reprogram own moment answer) plain d n = (open_kept s t (Reprogram own moment answer) plain d).1 n
  removals_same s t (ReprogramOn own m moment answer) plain d n = (open_kept s t (ReprogramOn own m moment answer) plain d).1 n
  removals_same s t (Juggle m answer) plain d n = (open_kept s t (Juggle m answer) plain d).1 n
  removals_same s t (Offline m (Ok done)) plain d n = (let (w, keeps, off) = open_kept s t (Offline m (Ok done)) plain d in
      ap (λ (u : CpusView R). removal_on n u) off ∙ keeps.1 n)
  removals_same s t (Offline m (Err e)) plain d n = (open_kept s t (Offline m (Err e)) plain d).1 n
  removals_same s t (Online m now (Ok done)) plain d n = (let (w, keeps, up) = open_kept s t (Online m now (Ok done)) plain d in
      ap (λ (u : CpusView R). removal_on n u) up ∙ keeps.1 n)
  removals_same s t (Online m now (Err e)) plain d n = (open_kept s t (Online m now (Err e)) plain d).1 n
  removals_same s t (FireOne m now answer) plain d n = absurd d
  removals_same s t (SoftInterrupt m level budget answer) plain d n = absurd d

  begins_online : (own n : ℕ) (removal : Removal) (s t : SystemView R) → BeginsOn firing own n removal s t
      → t.cpus.online ≡ s.cpus.online
  begins_online own n (Done receipt) s t (does, k, r, here, named, records, last) = ap (λ (u : CpusView R). u.online) does.rest
  begins_online own n (Kept kept') s t (does, records, last) = ap (λ (u : CpusView R). u.online) does.rest

  polls_online : (own n : ℕ) (answer : Option Receipt) (s t : SystemView R) → PollsOn firing own n answer s t
      → t.cpus.online ≡ s.cpus.online
  polls_online own n (Some receipt) s t (does, k, r, here, named, records, last) = ap (λ (u : CpusView R). u.online) does.rest
  polls_online own n None s t (does, records, last) = ap (λ (u : CpusView R). u.online) does.rest

  all_begin_online : (own : ℕ) (way : List Begun) (s t : SystemView R)
      → FoldsTo (λ u (b : Begun) w. BeginsOn firing own b.cpu b.found u w) s way t → t.cpus.online ≡ s.cpus.online
  all_begin_online own way s t run = folds_keep (λ u (b : Begun) w. BeginsOn firing own b.cpu b.found u w)
      (λ (x y : SystemView R). y.cpus.online ≡ x.cpus.online) (λ x. refl) (λ x y z a b. b ∙ a)
      (λ x b y. begins_online own b.cpu b.found x y) way s t run

  all_poll_online : (own : ℕ) (way : List Polled) (s t : SystemView R)
      → FoldsTo (λ u (p : Polled) w. PollsOn firing own p.cpu p.answer u w) s way t → t.cpus.online ≡ s.cpus.online
  all_poll_online own way s t run = folds_keep (λ u (p : Polled) w. PollsOn firing own p.cpu p.answer u w)
      (λ (x y : SystemView R). y.cpus.online ≡ x.cpus.online) (λ x. refl) (λ x y z a b. b ∙ a)
      (λ x p y. polls_online own p.cpu p.answer x y) way s t run

  same_online : (s t : SystemView R) → t ≡ s → t.cpus.online ≡ s.cpus.online
  same_online s t e = ap (λ (u : SystemView R). u.cpus.online) e

  begin_online : (own : ℕ) (answer : Result SystemRemoval Refusal) (s t : SystemView R)
      → BeginsRemoval firing own answer s t → t.cpus.online ≡ s.cpus.online
  begin_online own answer s t (inl (e, why, is, same)) = same_online s t same
  begin_online own (Ok (over.Done receipt)) s t (inr (clear, (way, u, cpus, each, answers))) =
      ap (λ (v : CpusView R). v.online) answers.cpus ∙ all_begin_online own way s u each
  begin_online own (Ok (over.Kept kept')) s t (inr (clear, (way, cpus, each, some, sum))) = all_begin_online own way s t each
  begin_online own (Err e) s t (inr (clear, wrong)) = absurd wrong

  poll_online : (own : ℕ) (answer : Result (Option Receipt) Refusal) (s t : SystemView R)
      → PollsRemoval firing own answer s t → t.cpus.online ≡ s.cpus.online
  poll_online own answer s t (inl (e, why, is, same)) = same_online s t same
  poll_online own (Ok (Some receipt)) s t (inr (clear, (way, u, cpus, each, answers))) =
      ap (λ (v : CpusView R). v.online) answers.cpus ∙ all_poll_online own way s u each
  poll_online own (Ok None) s t (inr (clear, (way, cpus, each, some))) = all_poll_online own way s t each
  poll_online own (Err e) s t (inr (clear, wrong)) = absurd wrong

  pub online_after : (s t : SystemView R) (call : SystemCall) → Changes firing s call t
      → t.cpus.online ≡ online_of call s.cpus.online
  online_after s t (BeginRemove own answer) d = begin_online own answer s t d
  online_after s t (PollRemove own answer) d = poll_online own answer s t d
  online_after s t (Add level when now (Ok own)) d = (open_kept s t (Add level when now (Ok own)) tt d).0
  online_after s t (Add level when now (Err e)) d = (open_kept s t (Add level when now (Err e)) tt d).0
  online_after s t (AddOmni level when skew now (Ok own)) d = (open_kept s t (AddOmni level when skew now (Ok own)) tt d).0
  online_after s t (AddOmni level when skew now (Err e)) d = (open_kept s t (AddOmni level when skew now (Err e)) tt d).0
  online_after s t (Bind own cpu answer) d = (open_kept s t (Bind own cpu answer) tt d).0
  online_after s t (AskTotals own answer) d = (open_kept s t (AskTotals own answer) tt d).0
  online_after s t (Suspend answer) d = (open_kept s t (Suspend answer) tt d).0
  online_after s t (Resume answer) d = (open_kept s t (Resume answer) tt d).0
  online_after s t (Reprogram own moment answer) d = (open_kept s t (Reprogram own moment answer) tt d).0
  online_after s t (ReprogramOn own m moment answer) d = (open_kept s t (ReprogramOn own m moment answer) tt d).0
  online_after s t (Juggle m answer) d = (open_kept s t (Juggle m answer) tt d).0
  online_after s t (Offline m (Ok done)) d = (let (w, keeps, off) = open_kept s t (Offline m (Ok done)) tt d in
      ap (λ (u : CpusView R). u.online) off ∙ ap (λ ups. slice_set ups m false) keeps.0)
  online_after s t (Offline m (Err e)) d = (open_kept s t (Offline m (Err e)) tt d).0
  online_after s t (Online m now (Ok done)) d = (let (w, keeps, up) = open_kept s t (Online m now (Ok done)) tt d in
      ap (λ (u : CpusView R). u.online) up ∙ ap (λ ups. slice_set ups m true) keeps.0)
  online_after s t (Online m now (Err e)) d = (open_kept s t (Online m now (Err e)) tt d).0
  online_after s t (FireOne m now answer) d = absurd d
  online_after s t (SoftInterrupt m level budget answer) d = absurd d

  -- ---- the cyclic of an id on one CPU

  module _ (m id : ℕ) where
    -- a call on the CPU that isn't of this id
    abbrev pub IsOfOther : CpuCall → Type 0
    IsOfOther (Place own level interval moment carried) = own ≢ id
    IsOfOther (TakeNow own (Ok taken)) = own ≢ id
    IsOfOther (CpuReprogram own moment (Ok done)) = own ≢ id
    IsOfOther (AskPending own answer) = Unit {0}
    IsOfOther (CpuAskTotals own answer) = Unit {0}
    IsOfOther (AskRoom more answer) = Unit {0}
    IsOfOther (Reserve more answer) = Unit {0}
    IsOfOther (Widen more) = Unit {0}
    IsOfOther CpuSuspend = Unit {0}
    IsOfOther CpuResume = Unit {0}
    IsOfOther call = ⊥

    abbrev pub IsBeside : CallOn → Type 0
    IsBeside c = c.cpu ≡ m → IsOfOther c.call

    abbrev pub SameHere : CpusView R → CpusView R → Type 0
    SameHere v w = cyclic_on m id w ≡ cyclic_on m id v

    same_list : (x y : CpuView R) → y.cyclics ≡ x.cyclics → cyclic_in id y ≡ cyclic_in id x
    same_list x y e = ap (λ cs. find (λ (c : Cyclic). c.timer.id == id) cs) e

    other_kept : (x y : CpuView R) (call : CpuCall) → IsOfOther call → CpuChanges firing x call y
        → cyclic_in id y ≡ cyclic_in id x
    other_kept x y (Place own level interval moment carried) ne (may, p) =
        ap (λ cs. find (λ (c : Cyclic). c.timer.id == id) cs) p.cyclics
        ∙ find_insert (λ (c : Cyclic). c.timer.id == id) x.cyclics p.position
        (cyclic_with own level interval moment carried.sent carried.lost) (false_ne own id ne)
    other_kept x y (TakeNow own (Ok taken)) ne (still, (c, counts, is, polled, l)) =
        ap (λ cs. find (λ (c : Cyclic). c.timer.id == id) cs) l.cyclics
        ∙ find_remove (λ (c : Cyclic). c.timer.id == id) x.cyclics l.position c (at_position x.cyclics l.position c l.here)
        (false_ne c.timer.id id (λ e. ne (sym l.named ∙ e)))
    other_kept x y (CpuReprogram own moment (Ok done)) ne (k, c, here, named, still, is) =
        ap (λ (z : CpuView R). cyclic_in id z) is
        ∙ find_set (λ (c : Cyclic). c.timer.id == id) x.cyclics k c (with_moment moment c) (at_position x.cyclics k c here)
        (false_ne c.timer.id id (λ e. ne (sym named ∙ e))) (false_ne c.timer.id id (λ e. ne (sym named ∙ e)))
    other_kept x y (AskPending own (Some n)) ne d = same_list x y d.0.cyclics
    other_kept x y (AskPending own None) ne d = same_list x y (ap (λ (z : CpuView R). z.cyclics) d.1)
    other_kept x y (CpuAskTotals own (Some t)) ne d = same_list x y d.0.cyclics
    other_kept x y (CpuAskTotals own None) ne d = same_list x y (ap (λ (z : CpuView R). z.cyclics) d.1)
    other_kept x y (AskRoom more (Ok done)) ne d = same_list x y d.0.cyclics
    other_kept x y (AskRoom more (Err e)) ne d = same_list x y d.0.cyclics
    other_kept x y (Reserve more (Ok done)) ne d = same_list x y d.0.cyclics
    other_kept x y (Reserve more (Err e)) ne d = same_list x y d.0.cyclics
    other_kept x y (Widen more) ne d = same_list x y d.1.cyclics
    other_kept x y CpuSuspend ne d = same_list x y (ap (λ (z : CpuView R). z.cyclics) d)
    other_kept x y CpuResume ne d = same_list x y (ap (λ (z : CpuView R). z.cyclics) d)
    other_kept x y call ne d = absurd ne

    pub here_one : (v w : CpusView R) (c : CallOn) → IsBeside c → DoesAt firing v c w → SameHere v w
    here_one v w c beside d = dite (ℕ_discrete c.cpu m)
        (λ e. ap (λ (u : CpusView R). cyclic_on m id u) d.rest
        ∙ kept_at v c.cpu d.before d.after d.here (λ o. option_and_then (cyclic_in id) o)
        (other_kept d.before d.after c.call (beside e) d.change) m)
        (λ ne. ap (λ (u : CpusView R). cyclic_on m id u) d.rest
        ∙ ap (λ o. option_and_then (cyclic_in id) o) (get_set_other v.cpus c.cpu m d.after (λ e. ne (sym e))))

    pub here_idle : (call : CpuCall) → IsIdle call → IsOfOther call
    here_idle (AskPending own answer) idle = tt
    here_idle (CpuAskTotals own answer) idle = tt
    here_idle (AskRoom more answer) idle = tt
    here_idle (Reserve more answer) idle = tt
    here_idle (Widen more) idle = tt
    here_idle CpuSuspend idle = tt
    here_idle CpuResume idle = tt
    here_idle call idle = absurd idle

    -- what a call needs, to keep the cyclic of the id on the CPU
    abbrev pub HereNeeds : SystemCall → SystemView R → Type 0
    HereNeeds call s = Needs firing SameHere (λ v. refl) (λ u v w a b. b ∙ a) IsBeside here_one
        (λ c idle e. here_idle c.call idle) call s

    abbrev pub HereMay : ℕ → Type 0
    HereMay own = May firing SameHere (λ v. refl) (λ u v w a b. b ∙ a) IsBeside here_one
        (λ c idle e. here_idle c.call idle) own

    abbrev pub HereKeeps : SystemCall → SystemView R → SystemView R → Type 0
    HereKeeps call s t = Keeps firing SameHere (λ v. refl) (λ u v w a b. b ∙ a) IsBeside here_one
        (λ c idle e. here_idle c.call idle) call s t

    pub here_may : (own : ℕ) → own ≢ id → HereMay own
    here_may own ne = record { takes = λ n taken e. ne; puts = λ n level i k carried e. ne; sets = λ n moment e. ne }

    pub here_kept : (s t : SystemView R) (call : SystemCall) → Changes firing s call t → HereNeeds call s → HereKeeps call s t
    here_kept s t call d needs = kept firing SameHere (λ v. refl) (λ u v w a b. b ∙ a) IsBeside here_one
        (λ c idle e. here_idle c.call idle) s t call d needs

    -- the CPU has the same cyclic of the id
    pub here_same : (s t : SystemView R) (call : SystemCall) → Changes firing s call t → HereNeeds call s
        → cyclic_on m id t.cpus ≡ cyclic_on m id s.cpus
    here_same s t (BeginRemove own answer) d needs = absurd needs
    here_same s t (PollRemove own answer) d needs = absurd needs
    here_same s t (Add level when now (Ok own)) d needs = here_kept s t (Add level when now (Ok own)) d needs
    here_same s t (Add level when now (Err e)) d needs = here_kept s t (Add level when now (Err e)) d needs
    here_same s t (AddOmni level when skew now (Ok own)) d needs = here_kept s t (AddOmni level when skew now (Ok own)) d needs
    here_same s t (AddOmni level when skew now (Err e)) d needs = here_kept s t (AddOmni level when skew now (Err e)) d needs
    here_same s t (Bind own cpu answer) d needs = here_kept s t (Bind own cpu answer) d needs
    here_same s t (AskTotals own answer) d needs = here_kept s t (AskTotals own answer) d needs
    here_same s t (Suspend answer) d needs = here_kept s t (Suspend answer) d needs
    here_same s t (Resume answer) d needs = here_kept s t (Resume answer) d needs
    here_same s t (Reprogram own moment answer) d needs = here_kept s t (Reprogram own moment answer) d needs
    here_same s t (ReprogramOn own n moment answer) d needs = here_kept s t (ReprogramOn own n moment answer) d needs
    here_same s t (Juggle n answer) d needs = here_kept s t (Juggle n answer) d needs
    here_same s t (Offline n (Ok done)) d needs = (let (w, keeps, off) = here_kept s t (Offline n (Ok done)) d needs in
        ap (λ (u : CpusView R). cyclic_on m id u) off ∙ keeps)
    here_same s t (Offline n (Err e)) d needs = here_kept s t (Offline n (Err e)) d needs
    here_same s t (Online n now (Ok done)) d needs = (let (w, keeps, up) = here_kept s t (Online n now (Ok done)) d needs in
        ap (λ (u : CpusView R). cyclic_on m id u) up ∙ keeps)
    here_same s t (Online n now (Err e)) d needs = here_kept s t (Online n now (Err e)) d needs
    here_same s t (FireOne n now answer) d needs = absurd d
    here_same s t (SoftInterrupt n level budget answer) d needs = absurd d
