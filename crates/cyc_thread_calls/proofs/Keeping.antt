-- What the calls of a system keep of its CPUs: which are online, and that no removal is open.
use Rattle.std.proofs.Common.{zero, suc, length}
use Rattle.cyc_agreement.specs.Suspending.{on_each}
use Rattle.cyc_cpu.specs.Calls.{Suspend as CpuSuspend, Resume as CpuResume}
use Rattle.cyc_threads.specs.Calls.{Suspend, Resume}
use Rattle.std.proofs.Common.{◌≡◌, ◌∙◌, ℕ, ◌⊎◌, inl, inr, Option, Some, None, Result, Ok, Err, List, [], ◌∷◌, ◌++◌, refl}
use Rattle.std.proofs.Common.{true, false, sym, ap, subst}
use mathlib.Core.Logic.{dite}
use native.Mathlib.Decide.{ℕ_discrete}
use Rattle.cyc_types.specs.declared.Raise.{Ghosts as Raise}
use Rattle.cyc_types.specs.declared.level.Level.{Level}
use Rattle.cyc_types.specs.declared.moment.When.{When}
use Rattle.cyc_types.specs.declared.receipt.Receipt.{Receipt}
use Rattle.cyc_types.specs.declared.refusal.JuggleReport.{JuggleReport}
use Rattle.cyc_types.specs.declared.refusal.Refusal.{Refusal}
use Rattle.cyc_cpu.specs.declared.removing.Removal.{Removal}
use Rattle.cyc_cpu.specs.declared.removing.Removal.TheVariants.{Done, Kept}
use Rattle.cyc_cpu.specs.Cpu.{CpuView}
use Rattle.cyc_cpu.specs.Calls.{CpuCall, CpuChanges as CpuChanges, Fire, SoftInterrupt, Add as CpuAdd, Place}
use Rattle.cyc_cpu.specs.Calls.{Reprogram as CpuReprogram}
use Rattle.cyc_cpu.specs.Calls.{AskPending, AskTotals as CpuTotals, AskRoom, Reserve, Widen, BeginRemove as CpuBegin}
use Rattle.cyc_cpu.specs.Calls.{PollRemove as CpuPoll, TakeNow, AskSettled}
use Rattle.cyc_agreement.specs.Cpus.{CpusView, IsCpu, CallOn, on, ChangesAt, Works, online_cpus}
use Rattle.cyc_agreement.specs.Reserving.{rooms, reserves, ReservesEach}
use Rattle.cyc_agreement.specs.Shifting.{move_of, WhyNotShifted, moving}
use Rattle.cyc_agreement.proofs.CpuSpots.{one_cpu, cpu_there, cpu_beside}
use Rattle.cyc_threads.proofs.Folds.{folds_keep}
use Rattle.cyc_threads.specs.System.{SystemView}
use Rattle.cyc_types.specs.Series.{first}
use Rattle.cyc_threads.specs.Adding.{add_request, Adds, entering}
use Rattle.cyc_threads.specs.Binding.{GoesTo, Binds}
use Rattle.cyc_threads.specs.SystemRemoval.{SystemRemoval}
use Rattle.cyc_threads.specs.SystemRemoval.TheVariants as over
use Rattle.cyc_threads.specs.Removing.{Begun, BeginsOn, BeginsEach, Removes}
use Rattle.cyc_threads.specs.Polling.{Polled, PollsOn, PollsEach, PollsCpus}
use Rattle.cyc_system_rings.specs.Turn.{Turn}
use Rattle.cyc_system_rings.specs.Turn.TheVariants.{StaysBound, StaysPending, StaysRefused, Moves}
use Rattle.cyc_system_rings.specs.Juggling.{TakesTurn, Turns, single_ids}
use Rattle.cyc_system_rings.specs.Omni.{AddsOmni, entering_each}
use Rattle.cyc_threads.specs.Calls.{SystemCall, Changes, Add, AddOmni, Bind, BeginRemove, PollRemove, Reprogram, ReprogramOn}
use Rattle.cyc_threads.specs.Calls.{Juggle}

-- no removal is open on any CPU
abbrev pub AllStill : {R : Type 0} → CpusView R → Type 0
AllStill {R} v = (n : ℕ) (x : CpuView R) → IsCpu n x v → x.removal ≡ None

-- a call of those that place and move cyclics, which opens no removal
abbrev IsPlain : CpuCall → Type 0
IsPlain (Fire now answer) = ⊥
IsPlain (SoftInterrupt soft budget answer) = ⊥
IsPlain (CpuAdd id level when now answer) = ⊥
IsPlain (CpuBegin id answer) = ⊥
IsPlain (CpuPoll answer) = ⊥
IsPlain (TakeNow id (Err e)) = ⊥
IsPlain (CpuReprogram id moment (Err e)) = ⊥
IsPlain call = Unit {0}

abbrev ArePlain : List CallOn → Type 0
ArePlain [] = Unit {0}
ArePlain (c ∷ way) = IsPlain c.call × ArePlain way

plain_on : (xs ys : List CallOn) → ArePlain xs → ArePlain ys → ArePlain (xs ++ ys)
plain_on [] ys a b = b
plain_on (x ∷ xs) ys a b = (a.0, plain_on xs ys a.1 b)

plain_each : (call : CpuCall) (n : ℕ) → IsPlain call → ArePlain (on_each call n)
plain_each call zero plain = tt
plain_each call (suc n) plain = plain_on (on_each call n) (on n call ∷ []) (plain_each call n plain) (plain, tt)

plain_rooms : (more : ℕ) (ns : List ℕ) → ArePlain (rooms more ns)
plain_rooms more [] = tt
plain_rooms more (n ∷ ns) = (tt, plain_rooms more ns)

plain_reserves : (more : ℕ) (ns : List ℕ) → ArePlain (reserves more ns)
plain_reserves more [] = tt
plain_reserves more (n ∷ ns) = (tt, plain_reserves more ns)

plain_entering : (ns : List ℕ) (own : ℕ) (level : Level) (when : When) (skew now : ℕ)
    → ArePlain (entering_each ns own level when skew now)
plain_entering [] own level when skew now = tt
plain_entering (n ∷ ns) own level when skew now = (tt, (tt, plain_entering ns own level when skew now))

module _ {R : Type 0} (firing : Raise R) where
  still_one : (x y : CpuView R) (call : CpuCall) → CpuChanges firing x call y → IsPlain call → x.removal ≡ None
      → y.removal ≡ None
  still_one x y (Place id level interval moment carried) d plain none = d.1.kept.removal ∙ none
  still_one x y (CpuReprogram id moment (Ok done)) (k, c, here, named, other, is) plain none =
      ap (λ (z : CpuView R). z.removal) is ∙ none
  still_one x y (AskPending id (Some n)) d plain none = d.0.kept.removal ∙ none
  still_one x y (AskPending id None) d plain none = ap (λ (z : CpuView R). z.removal) d.1 ∙ none
  still_one x y (CpuTotals id (Some t)) d plain none = d.0.kept.removal ∙ none
  still_one x y (CpuTotals id None) d plain none = ap (λ (z : CpuView R). z.removal) d.1 ∙ none
  still_one x y (AskRoom more (Ok done)) d plain none = d.0.kept.removal ∙ none
  still_one x y (AskRoom more (Err e)) d plain none = d.0.kept.removal ∙ none
  still_one x y (Reserve more (Ok done)) d plain none = d.0.removal ∙ none
  still_one x y (Reserve more (Err e)) d plain none = d.0.kept.removal ∙ none
  still_one x y (Widen more) d plain none = d.1.removal ∙ none
  still_one x y (TakeNow id (Ok taken)) (was, (c, counts, is, polled, leaves)) plain none = leaves.removal
  still_one x y (AskSettled true) d plain none = d.0.kept.removal ∙ none
  still_one x y (AskSettled false) d plain none = d.0.kept.removal ∙ none
  still_one x y CpuSuspend d plain none = ap (λ (z : CpuView R). z.removal) d ∙ none
  still_one x y CpuResume d plain none = ap (λ (z : CpuView R). z.removal) d ∙ none
  still_one x y call d plain none = absurd plain

  -- the same CPUs are online, and no removal opens
  pub record Keeps (v w : CpusView R) : Type 0 where
    pub online : w.online ≡ v.online
    pub still : AllStill v → AllStill w

  pub keeps_same : (v w : CpusView R) → w ≡ v → Keeps v w
  keeps_same v w e = record {
    online = ap (λ (u : CpusView R). u.online) e;
    still = λ h. subst AllStill (sym e) h;
  }

  pub keeps_then : (u v w : CpusView R) → Keeps u v → Keeps v w → Keeps u w
  keeps_then u v w a b = record { online = b.online ∙ a.online; still = λ h. b.still (a.still h) }

  still_at : (m : ℕ) (D : CpuView R → CpuView R → Type 0) (v w : CpusView R) (c : ChangesAt m D v w)
      → (c.before.removal ≡ None → c.after.removal ≡ None) → AllStill v → AllStill w
  still_at m D v w c keeps h n y at = dite (ℕ_discrete n m)
      (λ e. (let there = subst (λ u. IsCpu m c.after u) (sym c.rest) (cpu_there m c.before c.after v c.here) in
      ap (λ (z : CpuView R). z.removal) (one_cpu m y c.after w (subst (λ k. IsCpu k y w) e at) there)
      ∙ keeps (h m c.before c.here)))
      (λ ne. h n y (cpu_beside m n y c.after v ne (subst (λ u. IsCpu n y u) c.rest at)))

  pub keeps_works : (way : List CallOn) (v w : CpusView R) → ArePlain way → Works firing way v w → Keeps v w
  keeps_works [] v w plain run = keeps_same v w (sym run)
  keeps_works (c ∷ way) v w plain (u, d, rest) = keeps_then v u w (record {
    online = ap (λ (z : CpusView R). z.online) d.rest;
    still = still_at c.cpu _ v u d (still_one d.before d.after c.call d.change plain.0);
  }) (keeps_works way u w plain.1 rest)

  -- ---- calls

  keeps_reserved : (more : ℕ) (answer : Result (Unit {0}) Refusal) (v w : CpusView R) → ReservesEach firing more answer v w
      → Keeps v w
  keeps_reserved more (Ok done) v w (u, asks, takes) = keeps_then v u w
      (keeps_works (rooms more (online_cpus v)) v u (plain_rooms more (online_cpus v)) asks)
      (keeps_works (reserves more (online_cpus v)) u w (plain_reserves more (online_cpus v)) takes)
  keeps_reserved more (Err e) v w (inl (before, n, after, works)) =
      keeps_works (rooms more before ++ on n (AskRoom more (Err e)) ∷ []) v w
      (plain_on (rooms more before) (on n (AskRoom more (Err e)) ∷ []) (plain_rooms more before) (tt, tt)) works
  keeps_reserved more (Err e) v w (inr (u, asks, (is, before, n, after, works))) = keeps_then v u w
      (keeps_works (rooms more (online_cpus v)) v u (plain_rooms more (online_cpus v)) asks)
      (keeps_works (reserves more before ++ on n (Reserve more (Err e)) ∷ []) u w
      (plain_on (reserves more before) (on n (Reserve more (Err e)) ∷ []) (plain_reserves more before) (tt, tt)) works)

  keeps_adds : (level : Level) (when : When) (now : ℕ) (answer : Result ℕ Refusal) (s t : SystemView R)
      → Adds firing (add_request level when now) answer s t → Keeps s.cpus t.cpus
  keeps_adds level when now (Ok id) s t (d, chosen, next, works, records, last) =
      keeps_works (on d (Reserve 1 (Ok tt)) ∷ entering d id level when.interval (first when.start when.interval now))
      s.cpus t.cpus (tt, (tt, (tt, tt))) works
  keeps_adds level when now (Err e) s t (d, chosen, inl only) =
      keeps_works (on d (Reserve 1 (Err e)) ∷ []) s.cpus t.cpus (tt, tt) only.0
  keeps_adds level when now (Err e) s t (d, chosen, inr (is, only)) =
      keeps_works (on d (Reserve 1 (Ok tt)) ∷ []) s.cpus t.cpus (tt, tt) only.0

  keeps_omni : (level : Level) (when : When) (skew now : ℕ) (answer : Result ℕ Refusal) (s t : SystemView R)
      → AddsOmni firing (add_request level when now) skew answer s t → Keeps s.cpus t.cpus
  keeps_omni level when skew now (Ok id) s t (next, (u, reserved, works), records, last) =
      keeps_then s.cpus u t.cpus (keeps_reserved 1 (Ok tt) s.cpus u reserved)
      (keeps_works (entering_each (online_cpus s.cpus) id level when skew now) u t.cpus (plain_entering
      (online_cpus s.cpus) id level when skew now) works)
  keeps_omni level when skew now (Err e) s t (inl reserved, records, last) = keeps_reserved 1 (Err e) s.cpus t.cpus reserved
  keeps_omni level when skew now (Err e) s t (inr (is, reserved), records, last) =
      keeps_reserved 1 (Ok tt) s.cpus t.cpus reserved

  keeps_unshifted : (own source target : ℕ) (e : Refusal) (v w : CpusView R)
      → WhyNotShifted firing (move_of own source target) e v w
      → Keeps v w
  keeps_unshifted own source target e v w (inl (removed, is_open, is, same)) = keeps_same v w same
  keeps_unshifted own source target e v w (inr (inl (still, n, some, is, works))) = keeps_works (on source (AskPending own
      (Some n)) ∷ []) v w (tt, tt) works
  keeps_unshifted own source target e v w (inr (inr (still, works))) =
      keeps_works (on source (AskPending own (Some 0)) ∷ on target (Reserve 1 (Err e)) ∷ []) v w (tt, (tt, tt)) works

  keeps_goes : (own home target : ℕ) (answer : Result (Unit {0}) Refusal) (v w : CpusView R)
      → GoesTo firing (move_of own home target) answer v w → Keeps v w
  keeps_goes own home target answer v w (inl (at, is, same)) = keeps_same v w same
  keeps_goes own home target (Ok done) v w (inr (ne, (taken, works))) =
      keeps_works (moving own home target taken) v w (tt, (tt, (tt, (tt, (tt, tt))))) works
  keeps_goes own home target (Err e) v w (inr (ne, why)) = keeps_unshifted own home target e v w why

  keeps_binds : (own n : ℕ) (answer : Result (Unit {0}) Refusal) (s t : SystemView R) → Binds firing own n answer s t
      → Keeps s.cpus t.cpus
  keeps_binds own n (Ok done) s t (home, has, goes, records) = keeps_goes own home n (Ok tt) s.cpus t.cpus goes
  keeps_binds own n (Err e) s t (home, has, goes, records, last) = keeps_goes own home n (Err e) s.cpus t.cpus goes

  keeps_turn : (n own : ℕ) (turn : Turn) (s t : SystemView R) → TakesTurn firing n own turn s t → Keeps s.cpus t.cpus
  keeps_turn n own StaysBound s t (placement, same) = keeps_same s.cpus t.cpus (ap (λ (u : SystemView R). u.cpus) same)
  keeps_turn n own StaysPending s t (placement, found, some, only) =
      keeps_works (on n (AskPending own (Some found)) ∷ []) s.cpus t.cpus (tt, tt) only.0
  keeps_turn n own StaysRefused s t (placement, d, chosen, e, only) =
      keeps_works (on n (AskPending own (Some 0)) ∷ on d (Reserve 1 (Err e)) ∷ []) s.cpus t.cpus (tt, (tt, tt)) only.0
  keeps_turn n own Moves s t (placement, d, chosen, (taken, works), records) =
      keeps_works (moving own n d taken) s.cpus t.cpus (tt, (tt, (tt, (tt, (tt, tt))))) works

  keeps_turns : (n : ℕ) (ids : List ℕ) (report : JuggleReport) (s t : SystemView R) → Turns firing n ids report s t
      → Keeps s.cpus t.cpus
  keeps_turns n [] report s t (none, same) = keeps_same s.cpus t.cpus (ap (λ (u : SystemView R). u.cpus) same)
  keeps_turns n (own ∷ ids) report s t (turn, u, rest, first, counted, more) =
      keeps_then s.cpus u.cpus t.cpus (keeps_turn n own turn s u first) (keeps_turns n ids rest u t more)

  refused_or : {A : Type 0} (o : Option Refusal) (refused : Refusal → A) (answer : A) (s t : SystemView R) (G : Type 0)
      → ((e : Refusal) × (o ≡ Some e) × (answer ≡ refused e) × (t ≡ s)) ⊎ ((o ≡ None) × G) → (G → Keeps s.cpus t.cpus)
      → Keeps s.cpus t.cpus
  refused_or o refused answer s t G (inl (e, why, is, same)) goes =
      keeps_same s.cpus t.cpus (ap (λ (u : SystemView R). u.cpus) same)
  refused_or o refused answer s t G (inr (clear, g)) goes = goes g

  -- the calls of a script that open no removal and take no CPU offline
  abbrev pub IsQuiet : SystemCall → Type 0
  IsQuiet (Add level when now answer) = Unit {0}
  IsQuiet (AddOmni level when skew now answer) = Unit {0}
  IsQuiet (Bind own cpu answer) = Unit {0}
  IsQuiet (Reprogram own moment answer) = Unit {0}
  IsQuiet (ReprogramOn own n moment answer) = Unit {0}
  IsQuiet (Juggle n answer) = Unit {0}
  IsQuiet (Suspend answer) = Unit {0}
  IsQuiet (Resume answer) = Unit {0}
  IsQuiet call = ⊥

  pub keeps_call : (s t : SystemView R) (call : SystemCall) → Changes firing s call t → IsQuiet call → Keeps s.cpus t.cpus
  keeps_call s t (Add level when now answer) d quiet = refused_or _ _ answer s t _ d (λ g. keeps_adds level when now answer s t g)
  keeps_call s t (AddOmni level when skew now answer) d quiet =
      refused_or _ _ answer s t _ d (λ g. keeps_omni level when skew now answer s t g)
  keeps_call s t (Bind own None answer) d quiet = refused_or _ _ answer s t _ d
      (λ g. (let (is, n, has, cpus, records) = g in keeps_same s.cpus t.cpus cpus))
  keeps_call s t (Bind own (Some n) answer) d quiet = refused_or _ _ answer s t _ d (λ g. keeps_binds own n answer s t g)
  keeps_call s t (Reprogram own moment answer) d quiet = refused_or _ _ answer s t _ d
      (λ g. keeps_works (on g.0 (CpuReprogram own moment (Ok tt)) ∷ []) s.cpus t.cpus (tt, tt) g.2.1.0)
  keeps_call s t (ReprogramOn own n moment answer) d quiet = refused_or _ _ answer s t _ d
      (λ g. keeps_works (on n (CpuReprogram own moment (Ok tt)) ∷ []) s.cpus t.cpus (tt, tt) g.1.0)
  keeps_call s t (Juggle n answer) d quiet = refused_or _ _ answer s t _ d
      (λ g. (let (report, is, moves) = g in keeps_turns n (single_ids n s) report s t moves))
  keeps_call s t (Suspend answer) d quiet = refused_or _ _ answer s t _ d
      (λ g. keeps_works (on_each CpuSuspend (length s.cpus.cpus)) s.cpus t.cpus (plain_each CpuSuspend (length s.cpus.cpus) tt)
      g.1.0)
  keeps_call s t (Resume answer) d quiet = refused_or _ _ answer s t _ d
      (λ g. keeps_works (on_each CpuResume (length s.cpus.cpus)) s.cpus t.cpus (plain_each CpuResume (length s.cpus.cpus) tt)
      g.1.0)
  keeps_call s t call d quiet = absurd quiet

  -- ---- a removal takes no CPU offline, and gives no id

  -- the same CPUs are online, and the same id was given last
  pub record SameGiven (s t : SystemView R) : Type 0 where
    pub online : t.cpus.online ≡ s.cpus.online
    pub last : t.last ≡ s.last

  given_none : (s : SystemView R) → SameGiven s s
  given_none s = record { online = refl; last = refl }

  given_then : (s t u : SystemView R) → SameGiven s t → SameGiven t u → SameGiven s u
  given_then s t u a b = record { online = b.online ∙ a.online; last = b.last ∙ a.last }

  given_same : (s t : SystemView R) → t ≡ s → SameGiven s t
  given_same s t e = subst (λ (x : SystemView R). SameGiven s x) (sym e) (given_none s)

  same_at : (m : ℕ) (D : CpuView R → CpuView R → Type 0) (s t : SystemView R) → ChangesAt m D s.cpus t.cpus → t.last ≡ s.last
      → SameGiven s t
  same_at m D s t c last = record { online = ap (λ (z : CpusView R). z.online) c.rest; last = last }

  begins_on : (own n : ℕ) (removal : Removal) (s t : SystemView R) → BeginsOn firing own n removal s t → SameGiven s t
  begins_on own n (Done receipt) s t (does, k, r, here, named, records, last) = same_at n _ s t does last
  begins_on own n (Kept kept) s t (does, records, last) = same_at n _ s t does last

  polls_on : (own n : ℕ) (answer : Option Receipt) (s t : SystemView R) → PollsOn firing own n answer s t → SameGiven s t
  polls_on own n (Some receipt) s t (does, k, r, here, named, records, last) = same_at n _ s t does last
  polls_on own n None s t (does, records, last) = same_at n _ s t does last

  begins_each : (own : ℕ) (way : List Begun) (s t : SystemView R) → BeginsEach firing own way s t → SameGiven s t
  begins_each own way s t each = folds_keep (λ u (b : Begun) w. BeginsOn firing own b.cpu b.found u w) SameGiven given_none
      given_then (λ x b y. begins_on own b.cpu b.found x y) way s t each

  polls_each : (own : ℕ) (way : List Polled) (s t : SystemView R) → PollsEach firing own way s t → SameGiven s t
  polls_each own way s t each = folds_keep (λ u (p : Polled) w. PollsOn firing own p.cpu p.answer u w) SameGiven given_none
      given_then (λ x p y. polls_on own p.cpu p.answer x y) way s t each

  removes_given : (own : ℕ) (answer : Result SystemRemoval Refusal) (s t : SystemView R) → Removes firing own answer s t
      → SameGiven s t
  removes_given own (Ok (over.Done receipt)) s t (way, u, cpus, each, done) = given_then s u t (begins_each own way s u each)
      (record { online = ap (λ (z : CpusView R). z.online) done.cpus; last = done.last })
  removes_given own (Ok (over.Kept kept)) s t (way, cpus, each, some, sum) = begins_each own way s t each
  removes_given own (Err e) s t d = absurd d

  polls_given : (own : ℕ) (answer : Result (Option Receipt) Refusal) (s t : SystemView R) → PollsCpus firing own answer s t
      → SameGiven s t
  polls_given own (Ok (Some receipt)) s t (way, u, cpus, each, done) = given_then s u t (polls_each own way s u each)
      (record { online = ap (λ (z : CpusView R). z.online) done.cpus; last = done.last })
  polls_given own (Ok None) s t (way, cpus, each, some) = polls_each own way s t each
  polls_given own (Err e) s t d = absurd d

  pub begun_given : (own : ℕ) (answer : Result SystemRemoval Refusal) (s t : SystemView R)
      → Changes firing s (BeginRemove own answer) t → SameGiven s t
  begun_given own answer s t (inl (e, why, is, same)) = given_same s t same
  begun_given own answer s t (inr (clear, g)) = removes_given own answer s t g

  pub polled_given : (own : ℕ) (answer : Result (Option Receipt) Refusal) (s t : SystemView R)
      → Changes firing s (PollRemove own answer) t → SameGiven s t
  polled_given own answer s t (inl (e, why, is, same)) = given_same s t same
  polled_given own answer s t (inr (clear, g)) = polls_given own answer s t g

  -- ---- nor does a move or a reprogram

  last_turn : (n own : ℕ) (turn : Turn) (s t : SystemView R) → TakesTurn firing n own turn s t → t.last ≡ s.last
  last_turn n own StaysBound s t (placement, same) = ap (λ (x : SystemView R). x.last) same
  last_turn n own StaysPending s t (placement, found, some, (works, records, last)) = last
  last_turn n own StaysRefused s t (placement, d, chosen, e, (works, records, last)) = last
  last_turn n own Moves s t (placement, d, chosen, shifts, (k, r, here, named, records, last)) = last

  last_turns : (n : ℕ) (ids : List ℕ) (report : JuggleReport) (s t : SystemView R) → Turns firing n ids report s t
      → t.last ≡ s.last
  last_turns n [] report s t (none, same) = ap (λ (x : SystemView R). x.last) same
  last_turns n (own ∷ ids) report s t (turn, u, rest, first, counted, more) =
      last_turns n ids rest u t more ∙ last_turn n own turn s u first

  last_binds : (own n : ℕ) (answer : Result (Unit {0}) Refusal) (s t : SystemView R) → Binds firing own n answer s t
      → t.last ≡ s.last
  last_binds own n (Ok done) s t (home, has, goes, (k, r, here, named, records, last)) = last
  last_binds own n (Err e) s t (home, has, goes, records, last) = last

  last_or : {A : Type 0} (o : Option Refusal) (refused : Refusal → A) (answer : A) (s t : SystemView R) (G : Type 0)
      → ((e : Refusal) × (o ≡ Some e) × (answer ≡ refused e) × (t ≡ s)) ⊎ ((o ≡ None) × G) → (G → t.last ≡ s.last)
      → t.last ≡ s.last
  last_or o refused answer s t G (inl (e, why, is, same)) goes = ap (λ (x : SystemView R). x.last) same
  last_or o refused answer s t G (inr (clear, g)) goes = goes g

  -- the calls that move cyclics or reprogram them
  abbrev pub IsMove : SystemCall → Type 0
  IsMove (Bind own cpu answer) = Unit {0}
  IsMove (Reprogram own moment answer) = Unit {0}
  IsMove (ReprogramOn own n moment answer) = Unit {0}
  IsMove (Juggle n answer) = Unit {0}
  IsMove (Suspend answer) = Unit {0}
  IsMove (Resume answer) = Unit {0}
  IsMove call = ⊥

  pub last_move : (s t : SystemView R) (call : SystemCall) → Changes firing s call t → IsMove call → t.last ≡ s.last
  last_move s t (Bind own None answer) d move = last_or _ _ answer s t _ d
      (λ g. (let (is, n, has, cpus, (k, r, here, named, records, last)) = g in last))
  last_move s t (Bind own (Some n) answer) d move = last_or _ _ answer s t _ d (λ g. last_binds own n answer s t g)
  last_move s t (Reprogram own moment answer) d move = last_or _ _ answer s t _ d (λ g. g.2.1.2)
  last_move s t (ReprogramOn own n moment answer) d move = last_or _ _ answer s t _ d (λ g. g.1.2)
  last_move s t (Juggle n answer) d move = last_or _ _ answer s t _ d
      (λ g. (let (report, is, moves) = g in last_turns n (single_ids n s) report s t moves))
  last_move s t (Suspend answer) d move = last_or _ _ answer s t _ d (λ g. g.1.2)
  last_move s t (Resume answer) d move = last_or _ _ answer s t _ d (λ g. g.1.2)
  last_move s t call d move = absurd move

  pub quiet_move : (call : SystemCall) → IsMove call → IsQuiet call
  quiet_move (Bind own cpu answer) move = tt
  quiet_move (Reprogram own moment answer) move = tt
  quiet_move (ReprogramOn own n moment answer) move = tt
  quiet_move (Juggle n answer) move = tt
  quiet_move (Suspend answer) move = tt
  quiet_move (Resume answer) move = tt
  quiet_move call move = absurd move
