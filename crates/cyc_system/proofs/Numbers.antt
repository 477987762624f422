-- No call takes an id back.
use Rattle.std.proofs.Common.{◌∙◌, ◌≡◌, ℕ, ◌<◌, ◌≤◌, ◌⊎◌, inl, inr, Option, Some, None, Result, Ok, Err, List, [], ◌∷◌, sym, ap}
use Rattle.std.proofs.Common.{arith}
use Rattle.std.specs.List.{FoldsTo}
use Rattle.cyc_types.specs.declared.Calls.{Ghosts as Calls}
use Rattle.cyc_types.specs.declared.Raise.{Ghosts as Raise}
use Rattle.cyc_types.specs.declared.level.Level.{Level}
use Rattle.cyc_types.specs.declared.level.Soft.{Soft}
use Rattle.cyc_types.specs.declared.moment.When.{When}
use Rattle.cyc_types.specs.declared.refusal.Refusal.{Refusal}
use Rattle.cyc_soft.specs.declared.Ran.{Ran}
use Rattle.cyc_soft.specs.declared.SoftRefused.{SoftRefused}
use Rattle.cyc_cpu.specs.Cpu.{Running}
use Rattle.cyc_agreement.specs.System.{SystemView, RunningSystem}
use Rattle.cyc_agreement.specs.Adding.{add_request, Adds}
use Rattle.cyc_agreement.specs.Binding.{Unbinds, Binds}
use Rattle.cyc_types.specs.declared.receipt.Receipt.{Receipt}
use Rattle.cyc_types.specs.declared.refusal.JuggleReport.{JuggleReport}
use Rattle.cyc_cpu.specs.declared.removing.Removal.{Removal}
use Rattle.cyc_cpu.specs.declared.removing.Removal.TheVariants.{Done, Kept}
use Rattle.cyc_agreement.specs.System.{ids_on}
use Rattle.cyc_agreement.specs.declared.removing.SystemRemoval.{SystemRemoval}
use Rattle.cyc_agreement.specs.declared.removing.SystemRemoval.TheVariants as over
use Rattle.cyc_agreement.specs.declared.totals.SystemTotals.{SystemTotals}
use Rattle.cyc_agreement.specs.Removing.{Begun, BeginsOn, BeginsEach, Removes}
use Rattle.cyc_agreement.specs.Polling.{Polled, PollsOn, PollsEach, PollsCpus}
use Rattle.cyc_agreement.specs.Counting.{AsksTotals}
use Rattle.cyc_system.specs.declared.turning.Turn.{Turn}
use Rattle.cyc_system.specs.declared.turning.Turn.TheVariants.{StaysBound, StaysPending, StaysRefused, Moves}
use Rattle.cyc_system.specs.Juggling.{TakesTurn, Turns, single_ids}
use Rattle.cyc_system.specs.GoingOffline.{Retires, EndsOffline}
use Rattle.cyc_agreement.specs.Omni.{AddsOmni}
use Rattle.cyc_agreement.specs.Online.{GoesOnline}
use Rattle.cyc_system.specs.Calls.{SystemCall, Changes, Does, Add, AddOmni, Bind, BeginRemove, PollRemove, AskTotals, Reprogram}
use Rattle.cyc_system.specs.Calls.{ReprogramOn, Juggle, Offline, Online, FireOne, SoftInterrupt, Suspend, Resume}

stays : (a b : ℕ) → b ≡ a → a ≤ b
stays a b e = omega (arith, e)

-- a call that is refused does nothing
refused_or : {R A : Type 0} (o : Option Refusal) (refused : Refusal → A) (answer : A) (s t : SystemView R) (G : Type 0)
    → ((e : Refusal) × (o ≡ Some e) × (answer ≡ refused e) × (t ≡ s)) ⊎ ((o ≡ None) × G) → (G → s.last ≤ t.last) → s.last ≤ t.last
refused_or o refused answer s t G (inl (e, why, is, same)) goes = stays s.last t.last (ap (λ (x : SystemView _). x.last) same)
refused_or o refused answer s t G (inr (clear, g)) goes = goes g

running_or : {C R A : Type 0} (o : Option Refusal) (refused : Refusal → A) (answer : A) (s t : RunningSystem C R) (G : Type 0)
    → ((e : Refusal) × (o ≡ Some e) × (answer ≡ refused e) × (t ≡ s)) ⊎ ((o ≡ None) × G) → (G → s.system.last ≤ t.system.last)
    → s.system.last ≤ t.system.last
running_or o refused answer s t G (inl (e, why, is, same)) goes =
    stays s.system.last t.system.last (ap (λ (x : RunningSystem _ _). x.system.last) same)
running_or o refused answer s t G (inr (clear, g)) goes = goes g

module _ {R : Type 0} (firing : Raise R) (s t : SystemView R) where
  adds : (level : Level) (when : When) (now : ℕ) (answer : Result ℕ Refusal) → Adds firing (add_request level when now) answer s t
      → s.last ≤ t.last
  adds level when now (Ok id) (d, chosen, next, works, records, last) = omega (arith, next, last)
  adds level when now (Err e) (d, chosen, inl (works, records, last)) = stays s.last t.last last
  adds level when now (Err e) (d, chosen, inr (is, (works, records, last))) = stays s.last t.last last

  binds : (id n : ℕ) (answer : Result (Unit {0}) Refusal) → Binds firing id n answer s t → s.last ≤ t.last
  binds id n (Ok done) (home, has, goes, (k, r, here, named, records, last)) = stays s.last t.last last
  binds id n (Err e) (home, has, goes, records, last) = stays s.last t.last last

  omni : (level : Level) (when : When) (skew now : ℕ) (answer : Result ℕ Refusal)
      → AddsOmni firing (add_request level when now) skew answer s t → s.last ≤ t.last
  omni level when skew now (Ok id) (next, works, records, last) = omega (arith, next, last)
  omni level when skew now (Err e) (works, records, last) = stays s.last t.last last

  returns : (n now : ℕ) (answer : Result (Unit {0}) Refusal) → GoesOnline firing n now answer s t → s.last ≤ t.last
  returns n now (Ok done) (works, records, last) = stays s.last t.last last
  returns n now (Err e) (why, (works, records, last)) = stays s.last t.last last

  totals : (id : ℕ) (answer : Option SystemTotals) → AsksTotals firing id answer s t → s.last ≤ t.last
  totals id (Some found) (way, r, known, cpus, (works, records, last), adds_up) = stays s.last t.last last
  totals id None (unknown, same) = stays s.last t.last (ap (λ (x : SystemView _). x.last) same)

-- ---- calls on several CPUs, one after another

module _ {R : Type 0} (firing : Raise R) where
  begins_on : (id n : ℕ) (found : Removal) (s t : SystemView R) → BeginsOn firing id n found s t → t.last ≡ s.last
  begins_on id n (Done receipt) s t (does, k, r, here, named, records, last) = last
  begins_on id n (Kept kept) s t (does, records, last) = last

  begins_each : (id : ℕ) (way : List Begun) (s t : SystemView R) → BeginsEach firing id way s t → t.last ≡ s.last
  begins_each id [] s t e = ap (λ (x : SystemView R). x.last) (sym e)
  begins_each id (b ∷ way) s t (u, first, rest) = begins_each id way u t rest ∙ begins_on id b.cpu b.found s u first

  begins : (id : ℕ) (answer : Result SystemRemoval Refusal) (s t : SystemView R) → Removes firing id answer s t
      → t.last ≡ s.last
  begins id (Ok (over.Done receipt)) s t (way, u, cpus, each, answers) = answers.last ∙ begins_each id way s u each
  begins id (Ok (over.Kept kept)) s t (way, cpus, each, some, sum) = begins_each id way s t each
  begins id (Err e) s t d = absurd d

  polls_on : (id n : ℕ) (answer : Option Receipt) (s t : SystemView R) → PollsOn firing id n answer s t → t.last ≡ s.last
  polls_on id n (Some receipt) s t (does, k, r, here, named, records, last) = last
  polls_on id n None s t (does, records, last) = last

  polls_each : (id : ℕ) (way : List Polled) (s t : SystemView R) → PollsEach firing id way s t → t.last ≡ s.last
  polls_each id [] s t e = ap (λ (x : SystemView R). x.last) (sym e)
  polls_each id (p ∷ way) s t (u, first, rest) = polls_each id way u t rest ∙ polls_on id p.cpu p.answer s u first

  polls : (id : ℕ) (answer : Result (Option Receipt) Refusal) (s t : SystemView R) → PollsCpus firing id answer s t
      → t.last ≡ s.last
  polls id (Ok (Some receipt)) s t (way, u, cpus, each, answers) = answers.last ∙ polls_each id way s u each
  polls id (Ok None) s t (way, cpus, each, some) = polls_each id way s t each
  polls id (Err e) s t d = absurd d

  takes_turn : (n id : ℕ) (turn : Turn) (s t : SystemView R) → TakesTurn firing n id turn s t → t.last ≡ s.last
  takes_turn n id StaysBound s t (placement, same) = ap (λ (x : SystemView R). x.last) same
  takes_turn n id StaysPending s t (placement, found, some, (works, records, last)) = last
  takes_turn n id StaysRefused s t (placement, d, chosen, e, (works, records, last)) = last
  takes_turn n id Moves s t (placement, d, chosen, shifts, (k, r, here, named, records, last)) = last

  turns : (n : ℕ) (ids : List ℕ) (report : JuggleReport) (s t : SystemView R) → Turns firing n ids report s t → t.last ≡ s.last
  turns n [] report s t (none, same) = ap (λ (x : SystemView R). x.last) same
  turns n (id ∷ ids) report s t (turn, u, rest, first, counted, more) = turns n ids rest u t more ∙ takes_turn n id turn s u first

  retires : (n : ℕ) (ids : List ℕ) (s t : SystemView R) → FoldsTo (Retires firing n) s ids t → t.last ≡ s.last
  retires n [] s t e = ap (λ (x : SystemView R). x.last) (sym e)
  retires n (id ∷ ids) s t (u, (taken, does, k, r, here, named, records, last), rest) = retires n ids u t rest ∙ last

  leaves : (n : ℕ) (report : JuggleReport) (answer : Result (Unit {0}) Refusal) (s t : SystemView R)
      → EndsOffline firing n report answer s t → t.last ≡ s.last
  leaves n report answer s t (inl (left, is, same)) = ap (λ (x : SystemView R). x.last) same
  leaves n report answer s t (inr (inl (none, is, (before, id, after, found, some, (works, records, last))))) = last
  leaves n report answer s t (inr (inr (none, is, (asked, (works, records, last), empty, each, off)))) =
      ap (λ (x : SystemView R). x.last) off ∙ (retires n (ids_on n s.cpus) asked empty each ∙ last)

module _ {R : Type 0} (firing : Raise R) (s t : SystemView R) where
  changes : (call : SystemCall) → Changes firing s call t → s.last ≤ t.last
  changes (Add level when now answer) d = refused_or _ _ answer s t _ d (λ g. adds firing s t level when now answer g)
  changes (AddOmni level when skew now answer) d =
      refused_or _ _ answer s t _ d (λ g. omni firing s t level when skew now answer g)
  changes (Bind id None answer) d = refused_or _ _ answer s t _ d (λ g. stays s.last t.last (by g))
    where
      by : Unbinds id answer s t → t.last ≡ s.last
      by (is, n, home, cpus, (k, r, here, named, records, last)) = last
  changes (Bind id (Some n) answer) d = refused_or _ _ answer s t _ d (λ g. binds firing s t id n answer g)
  changes (BeginRemove id answer) d = refused_or _ _ answer s t _ d (λ g. stays s.last t.last (begins firing id answer s t g))
  changes (PollRemove id answer) d = refused_or _ _ answer s t _ d (λ g. stays s.last t.last (polls firing id answer s t g))
  changes (AskTotals id answer) d = totals firing s t id answer d
  changes (Reprogram id moment answer) d = refused_or _ _ answer s t _ d (λ g. stays s.last t.last (g.2.1.2))
  changes (ReprogramOn id n moment answer) d = refused_or _ _ answer s t _ d (λ g. stays s.last t.last (g.1.2))
  changes (Juggle n answer) d = refused_or _ _ answer s t _ d
      (λ g. (let (report, is, moves) = g in stays s.last t.last (turns firing n (single_ids n s) report s t moves)))
  changes (Offline n answer) d = refused_or _ _ answer s t _ d
      (λ g. (let (report, moved, moves, rest) = g in
      stays s.last t.last (leaves firing n report answer moved t rest
      ∙ turns firing n (single_ids n s) report s moved moves)))
  changes (Online n now answer) d = refused_or _ _ answer s t _ d (λ g. returns firing s t n now answer g)
  changes (Suspend answer) d = refused_or _ _ answer s t _ d (λ g. stays s.last t.last (g.1.2))
  changes (Resume answer) d = refused_or _ _ answer s t _ d (λ g. stays s.last t.last (g.1.2))
  changes (FireOne n now answer) d = absurd d
  changes (SoftInterrupt n level budget answer) d = absurd d

module _ {C R : Type 0} (handler : Calls C) (firing : Raise R)
    (interrupts : Soft → ℕ → Result Ran SoftRefused → Running C R → Running C R → Type 0) where
  rises : (s t : RunningSystem C R) (call : SystemCall) → Does handler firing interrupts s call t
      → s.system.last ≤ t.system.last
  rises s t (Add level when now answer) d = changes firing s.system t.system (Add level when now answer) d.0
  rises s t (AddOmni level when skew now answer) d = changes firing s.system t.system (AddOmni level when skew now answer) d.0
  rises s t (Suspend answer) d = changes firing s.system t.system (Suspend answer) d.0
  rises s t (Resume answer) d = changes firing s.system t.system (Resume answer) d.0
  rises s t (BeginRemove id answer) d = changes firing s.system t.system (BeginRemove id answer) d.0
  rises s t (PollRemove id answer) d = changes firing s.system t.system (PollRemove id answer) d.0
  rises s t (AskTotals id answer) d = changes firing s.system t.system (AskTotals id answer) d.0
  rises s t (Juggle n answer) d = changes firing s.system t.system (Juggle n answer) d.0
  rises s t (Offline n answer) d = changes firing s.system t.system (Offline n answer) d.0
  rises s t (Online n now answer) d = changes firing s.system t.system (Online n now answer) d.0
  rises s t (Bind id cpu answer) d = changes firing s.system t.system (Bind id cpu answer) d.0
  rises s t (Reprogram id moment answer) d = changes firing s.system t.system (Reprogram id moment answer) d.0
  rises s t (ReprogramOn id n moment answer) d = changes firing s.system t.system (ReprogramOn id n moment answer) d.0
  rises s t (FireOne n now answer) d = running_or _ _ answer s t _ d (λ g. stays s.system.last t.system.last g.2)
  rises s t (SoftInterrupt n level budget answer) d = running_or _ _ answer s t _ d (λ g. stays s.system.last t.system.last g.4)

  pub rises_along : (s t : RunningSystem C R) (way : List SystemCall)
      → FoldsTo (Does handler firing interrupts) s way t → s.system.last ≤ t.system.last
  rises_along s t [] e = stays s.system.last t.system.last (ap (λ (x : RunningSystem _ _). x.system.last) (sym e))
  rises_along s t (call ∷ way) (u, first, rest) = let a = rises s u call first in let b = rises_along u t way rest in
      omega (arith, a, b)

  pub given : (s t : RunningSystem C R) (level : Level) (when : When) (now id : ℕ)
      → Does handler firing interrupts s (Add level when now (Ok id)) t
      → (s.system.last < id) × (id ≤ t.system.last)
  given s t level when now id (inl (e, why, is, same), calls) = (let odd : Ok id ≡ Err e = is in absurd (cc))
  given s t level when now id (inr (clear, (d, chosen, next, works, records, last)), calls) =
      (omega (arith, next), stays id t.system.last last)

  pub omni_given : (s t : RunningSystem C R) (level : Level) (when : When) (skew now id : ℕ)
      → Does handler firing interrupts s (AddOmni level when skew now (Ok id)) t
      → (s.system.last < id) × (id ≤ t.system.last)
  omni_given s t level when skew now id (inl (e, why, is, same), calls) = (let odd : Ok id ≡ Err e = is in absurd (cc))
  omni_given s t level when skew now id (inr (clear, (next, works, records, last)), calls) =
      (omega (arith, next), stays id t.system.last last)
