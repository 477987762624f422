-- From the answer of its removal on an id is over.
use Rattle.std.proofs.Common.{◌≡◌, ◌∙◌, ◌==◌, ℕ, zero, suc, ◌≤◌, inl, inr, Bool, true, false, cond, All, Option, Some, None}
use Rattle.std.proofs.Common.{Result, Ok, Err, List, [], ◌∷◌, get_or, slice_set, refl, sym, ap, subst, arith}
use Rattle.std.specs.List.{FoldsTo, slice_get}
use Rattle.std.proofs.lemmas.List.{get_or_default}
use mathlib.Core.Logic.{dite}
use native.Mathlib.Decide.{ℕ_discrete}
use Rattle.cyc_types.specs.declared.Calls.{Ghosts as Calls}
use Rattle.cyc_types.specs.declared.Raise.{Ghosts as Raise}
use Rattle.cyc_types.specs.declared.level.Soft.{Soft}
use Rattle.cyc_types.specs.declared.receipt.Receipt.{Receipt}
use Rattle.cyc_soft.specs.declared.Ran.{Ran}
use Rattle.cyc_soft.specs.declared.SoftRefused.{SoftRefused}
use Rattle.cyc_cpu.specs.declared.removing.Removal.{Removal}
use Rattle.cyc_cpu.specs.declared.removing.Removal.TheVariants.{Done, Kept}
use Rattle.cyc_cpu.specs.Cpu.{CpuView, Running, running}
use Rattle.cyc_cpu.specs.Gone.{PutsNot}
use Rattle.cyc_cpu.specs.Calls.{CpuCall, CpuChanges as CpuChanges, CpuDoes as CpuDoes, Fire}
use Rattle.cyc_places.specs.declared.record.Record.{Record}
use Rattle.cyc_places.specs.Places.{IsRecord, HasNoRecord, HasRisingIds, ended_on, summed, with_ended}
use Rattle.cyc_agreement.specs.Cpus.{CpusView, IsCpu, OfCpu, ChangesAt, with_cpu}
use Rattle.cyc_agreement.proofs.CpuSpots.{one_cpu, cpu_there, cpu_beside}
use Rattle.cyc_system.specs.System.{SystemView, RunningSystem}
use Rattle.cyc_system.specs.Agreement.{Agrees}
use Rattle.cyc_system.proofs.Lists.{true_eq, false_true}
use Rattle.cyc_system.proofs.Spots.{none_some}
use Rattle.cyc_system.proofs.Presence.{has_here}
use Rattle.cyc_system.proofs.Recording.{found}
use Rattle.cyc_system.specs.SystemRemoval.TheVariants as over
use Rattle.cyc_system.specs.Removing.{Begun, BeginsOn, BeginsRemoval, AnswersRemoval, counts_of_receipt}
use Rattle.cyc_system.specs.Polling.{Polled, PollsOn, PollsRemoval}
use Rattle.cyc_system.specs.RemovalLaws.{IsForgotten}
use Rattle.cyc_system.proofs.Forgetting.{was_there, begins_forgotten, polls_forgotten}
use Rattle.cyc_system.proofs.Folds.{folds_keep}
use Rattle.cyc_system.specs.Calls.{Suspend, Resume}
use Rattle.cyc_system.specs.Calls.{SystemCall, Changes, Does, Add, AddOmni, Bind, BeginRemove, PollRemove, AskTotals, Reprogram}
use Rattle.cyc_system.specs.Calls.{ReprogramOn, Juggle, Offline, Online, FireOne, SoftInterrupt}
use Rattle.cyc_system_laws.specs.Gone.{IsOver}
use Rattle.cyc_system_laws.specs.Parts.{CpusCall, OnCpu, SetOnline, DoesPart, IsWithout}
use Rattle.cyc_system_laws.proofs.Pieces.{made_of}

-- what is true of every CPU after a call on one of them
pub at_one : {R : Type 0} (P : CpuView R → Type 0) (n : ℕ) (D : CpuView R → CpuView R
    → Type 0) (v w : CpusView R) (c : ChangesAt n D v w) → P c.after → ((m : ℕ) → OfCpu m P v) → (m : ℕ) → OfCpu m P w
at_one P n D v w c now all m x at =
    let there = subst (λ u. IsCpu m x u) c.rest at in
    dite (ℕ_discrete m n)
    (λ e. subst P (one_cpu n c.after x (with_cpu v n c.after) (cpu_there n c.before c.after v c.here)
    (subst (λ k. IsCpu k x (with_cpu v n c.after)) e there)) now)
    (λ ne. all m x (cpu_beside n m x c.after v ne there))

module _ {C R : Type 0} (handler : Calls C) (firing : Raise R)
    (interrupts : Soft → ℕ → Result Ran SoftRefused → Running C R → Running C R → Type 0) (id : ℕ) (P : CpuView R → Type 0)
    (quiet : (x y : CpuView R) (call : CpuCall) → PutsNot id call → CpuChanges firing x call y → P x → P y)
    (fires : (s t : Running C R) (now : ℕ) (answer : _)
    → CpuDoes handler firing interrupts s (Fire now answer) t → P s.cpu
    → P t.cpu × (handler.count t.calls id ≡ handler.count s.calls id))
    (serves : (s t : Running C R) (level : Soft) (budget : ℕ) (answer : Result Ran SoftRefused)
    → interrupts level budget answer s t → P s.cpu → P t.cpu × (handler.count t.calls id ≡ handler.count s.calls id)) where
  -- the id was given, no record has it, and this is true of every CPU
  pub record Away (s : SystemView R) : Type 0 where
    pub given : id ≤ s.last
    pub unknown : HasNoRecord id s.records
    pub each : (n : ℕ) → OfCpu n P s.cpus

  part : (p : CpusCall) (v w : CpusView R) → IsWithout id p → DoesPart firing v p w → ((m : ℕ) → OfCpu m P v) → (m : ℕ)
      → OfCpu m P w
  part (OnCpu c) v w puts d all = at_one P c.cpu _ v w d
      (quiet d.before d.after c.call puts d.change (all c.cpu d.before d.here)) all
  part (SetOnline n online) v w puts e all = λ m x at. all m x (ap (λ (u : CpusView R). slice_get u.cpus m) (sym e) ∙ at)

  parts : (way : List CpusCall) (v w : CpusView R) → All (IsWithout id) way → FoldsTo (DoesPart firing) v way w
      → ((m : ℕ) → OfCpu m P v) → (m : ℕ) → OfCpu m P w
  parts [] v w not e all = subst (λ (u : CpusView R). (m : ℕ) → OfCpu m P u) e all
  parts (p ∷ way) v w not (u, first, rest) all = parts way u w (λ k d low. not (suc k) d (omega (arith, low))) rest
      (part p v u (not 0 p (omega arith)) first all)

  changes_away : (s t : SystemView R) (call : SystemCall) → Changes firing s call t → Away s → Away t
  changes_away s t call d a = let m = made_of firing s t call d in record {
    given = (let g = a.given in let l = m.last in omega (arith, g, l));
    unknown = m.unknown id a.given a.unknown;
    each = parts m.way s.cpus t.cpus (m.without id a.given a.unknown) m.works a.each;
  }

  abbrev Stays : RunningSystem C R → RunningSystem C R → Type 0
  Stays s t = Away t.system × (handler.count t.calls id ≡ handler.count s.calls id)

  stays_same : (s t : RunningSystem C R) → t ≡ s → Away s.system → Stays s t
  stays_same s t e a = (
    subst (λ (u : RunningSystem C R). Away u.system) (sym e) a,
    ap
        (λ (u : RunningSystem C R). handler.count u.calls id) e,
  )

  -- a call on one CPU that reaches handlers
  reached : (n : ℕ) (D : CpuView R → CpuView R
      → Type 0) (s t : RunningSystem C R) (c : ChangesAt n D s.system.cpus t.system.cpus) → P c.after
      → t.system.records ≡ s.system.records
      → t.system.last ≡ s.system.last → Away s.system → Away t.system
  reached n D s t c now records last a = record {
    given = (let g = a.given in omega (arith, g, last));
    unknown = subst (λ rs. HasNoRecord id rs) (sym records) a.unknown;
    each = at_one P n D s.system.cpus t.system.cpus c now a.each;
  }

  quietly : (s t : RunningSystem C R) (call : SystemCall) → Changes firing s.system call t.system × (t.calls ≡ s.calls)
      → Away s.system → Stays s t
  quietly s t call (d, same) a = (changes_away s.system t.system call d a, ap (λ (c : C). handler.count c id) same)

  does_away : (s t : RunningSystem C R) (call : SystemCall) → Does handler firing interrupts s call t
      → Away s.system → Stays s t
  does_away s t (Add level when now answer) d a = quietly s t (Add level when now answer) d a
  does_away s t (AddOmni level when skew now answer) d a = quietly s t (AddOmni level when skew now answer) d a
  does_away s t (Bind own cpu answer) d a = quietly s t (Bind own cpu answer) d a
  does_away s t (BeginRemove own answer) d a = quietly s t (BeginRemove own answer) d a
  does_away s t (PollRemove own answer) d a = quietly s t (PollRemove own answer) d a
  does_away s t (AskTotals own answer) d a = quietly s t (AskTotals own answer) d a
  does_away s t (Suspend answer) d a = quietly s t (Suspend answer) d a
  does_away s t (Resume answer) d a = quietly s t (Resume answer) d a
  does_away s t (Reprogram own moment answer) d a = quietly s t (Reprogram own moment answer) d a
  does_away s t (ReprogramOn own n moment answer) d a = quietly s t (ReprogramOn own n moment answer) d a
  does_away s t (Juggle n answer) d a = quietly s t (Juggle n answer) d a
  does_away s t (Offline n answer) d a = quietly s t (Offline n answer) d a
  does_away s t (Online n now answer) d a = quietly s t (Online n now answer) d a
  does_away s t (FireOne n now answer) (inl (e, why, is, same)) a = stays_same s t same a
  does_away s t (FireOne n now answer) (inr (clear, (runs, records, last))) a =
      let (still, same) = fires (running s.calls runs.before) (running t.calls runs.after) now answer runs.change
      (a.each n runs.before runs.here) in
      (reached n _ s t runs still records last a, same)
  does_away s t (SoftInterrupt n level budget answer) (inl (e, why, is, same)) a = stays_same s t same a
  does_away s t (SoftInterrupt n level budget answer) (inr (clear, (own, is, runs, records, last))) a =
      let (still, same) = serves (running s.calls runs.before) (running t.calls runs.after) level budget own runs.change
      (a.each n runs.before runs.here) in
      (reached n _ s t runs still records last a, same)

  pub run_away : (s t : RunningSystem C R) (way : List SystemCall)
      → FoldsTo (Does handler firing interrupts) s way t → Away s.system → Stays s t
  run_away s t [] run a = stays_same s t (sym run) a
  run_away s t (call ∷ way) (u, first, rest) a =
      let (still, same) = does_away s u call first a in let (last, on) = run_away u t way rest still in (last, on ∙ same)

-- ---- the answer of a removal

none_of : (id : ℕ) (rs : List Record) → found id rs ≡ None → HasNoRecord id rs
none_of id [] e k d low same = absurd (omega (arith, low))
none_of id (x ∷ rs) e zero d low same = none_some (sym e ∙ ap (λ b. cond b (Some x) (found id rs)) (true_eq x.id id same))
none_of id (x ∷ rs) e (suc k) d low same = by (x.id == id) refl (λ rest. none_of id rs rest k d (omega (arith, low)) same)
  where
    by : (b : Bool) → (x.id == id) ≡ b → (found id rs ≡ None → ⊥) → ⊥
    by true is rest = none_some (sym e ∙ ap (λ b. cond b (Some x) (found id rs)) is)
    by false is rest = rest (ap (λ b. cond b (Some x) (found id rs)) (sym is) ∙ e)

-- no record has an id above the last
abbrev AllGiven : {R : Type 0} → SystemView R → Type 0
AllGiven s = (k : ℕ) (r : Record) → IsRecord s.records k r → r.id ≤ s.last

module _ {R : Type 0} (firing : Raise R) (id : ℕ) where
  kept_given : (n : ℕ) (receipt : Receipt) (s t : SystemView R) (k : ℕ) (r : Record) → IsRecord s.records k r
      → t.records ≡ slice_set s.records k (with_ended n (summed (ended_on n r) (counts_of_receipt receipt)) r) → t.last ≡ s.last
      → AllGiven s → AllGiven t
  kept_given n receipt s t k r is records last h j q at =
      let (p, was, same) = was_there s.records k j r (with_ended n (summed (ended_on n r) (counts_of_receipt receipt)) r) q is
      refl
      (subst (λ rs. IsRecord rs j q) records at) in
      let low = h j p was in omega (arith, low, same, last)

  same_given : (s t : SystemView R) → t.records ≡ s.records → t.last ≡ s.last → AllGiven s → AllGiven t
  same_given s t records last h j q at = let low = h j q (subst (λ rs. IsRecord rs j q) records at) in omega (arith, low, last)

  begins_given : (n : ℕ) (removal : Removal) (s t : SystemView R) → BeginsOn firing id n removal s t → AllGiven s → AllGiven t
  begins_given n (Done receipt) s t (does, k, r, is, named, records, last) h = kept_given n receipt s t k r is records last h
  begins_given n (Kept kept) s t (does, records, last) h = same_given s t records last h

  polls_given : (n : ℕ) (answer : Option Receipt) (s t : SystemView R) → PollsOn firing id n answer s t → AllGiven s
      → AllGiven t
  polls_given n (Some receipt) s t (does, k, r, is, named, records, last) h = kept_given n receipt s t k r is records last h
  polls_given n None s t (does, records, last) h = same_given s t records last h

  is_over : (receipt : Receipt) (u t : SystemView R) → AnswersRemoval id receipt u t → AllGiven u → IsForgotten id t → IsOver id t
  is_over receipt u t a h f = record {
    given = (let low = h a.position a.own a.here in let named = a.named in let last = a.last in omega (arith, low, named, last));
    unknown = none_of id t.records f.unknown;
    nowhere = λ n cpu at k d low same. false_true
        (sym (f.nowhere n) ∙ has_here t.cpus n id cpu at
        (k, get_or cpu.cyclics k d, (low, get_or_default cpu.cyclics k (get_or cpu.cyclics k d) d low), same));
  }

  pub begun_over : (receipt : Receipt) (s t : SystemView R) → Agrees s → HasRisingIds s.records
      → BeginsRemoval firing id (Ok (over.Done receipt)) s t → IsOver id t
  begun_over receipt s t agrees rising (inl (e, why, is, same)) = absurd (let odd : Ok (over.Done receipt) ≡ Err e = is in cc)
  begun_over receipt s t agrees rising (inr (clear, (way, u, cpus, each, answers))) = is_over receipt u t answers
      (folds_keep (λ x (b : Begun) y. BeginsOn firing id b.cpu b.found x y) (λ x y. AllGiven x
      → AllGiven y) (λ x h. h) (λ x y z f g h. g (f h))
      (λ x b y. begins_given b.cpu b.found x y) way s u each agrees.given)
      (begins_forgotten firing id receipt s t rising (inr (clear, (way, u, cpus, each, answers))))

  pub polled_over : (receipt : Receipt) (s t : SystemView R) → Agrees s → HasRisingIds s.records
      → PollsRemoval firing id (Ok (Some receipt)) s t → IsOver id t
  polled_over receipt s t agrees rising (inl (e, why, is, same)) = absurd (let odd : Ok (Some receipt) ≡ Err e = is in cc)
  polled_over receipt s t agrees rising (inr (clear, (way, u, cpus, each, answers))) = is_over receipt u t answers
      (folds_keep (λ x (p : Polled) y. PollsOn firing id p.cpu p.answer x y) (λ x y. AllGiven x
      → AllGiven y) (λ x h. h) (λ x y z f g h. g (f h))
      (λ x p y. polls_given p.cpu p.answer x y) way s u each agrees.given)
      (polls_forgotten firing id receipt s t rising (inr (clear, (way, u, cpus, each, answers))))
