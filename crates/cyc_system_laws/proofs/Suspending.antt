-- A system's mark, after a suspend, after a resume and after any other call.
use Rattle.std.proofs.Common.{◌≡◌, ◌∙◌, ℕ, suc, ◌<◌, inl, inr, All, Bool, true, false, not, Option, Some, None, Result, Ok, Err}
use Rattle.std.proofs.Common.{List, [], ◌∷◌, length, option_map, refl, sym, ap, arith}
use Rattle.std.specs.Prelude.{is_ok}
use Rattle.std.specs.List.{slice_get, FoldsTo}
use Rattle.std.specs.Option.{option_map_or}
use Rattle.std.proofs.lemmas.Bool.{false≢true}
use Rattle.std.proofs.lemmas.Option.{slice_get_within}
use Rattle.cyc_types.specs.declared.Calls.{Ghosts as Calls}
use Rattle.cyc_types.specs.declared.Raise.{Ghosts as Raise}
use Rattle.cyc_types.specs.declared.level.Soft.{Soft}
use Rattle.cyc_types.specs.declared.refusal.Refusal.{Refusal}
use Rattle.cyc_types.specs.declared.refusal.Refusal.TheVariants.{Suspended, NotSuspended}
use Rattle.cyc_types.specs.Reasons.{first_refusal, when}
use Rattle.cyc_types.proofs.Facts.{not_false}
use Rattle.cyc_soft.specs.declared.Ran.{Ran}
use Rattle.cyc_soft.specs.declared.SoftRefused.{SoftRefused}
use Rattle.cyc_timers.specs.declared.fire.Fired.{Fired}
use Rattle.cyc_timers.specs.declared.fire.FireRefused.{FireRefused}
use Rattle.cyc_cpu.specs.Cpu.{CpuView, Running, running}
use Rattle.cyc_cpu.specs.Calls.{CpuCall, CpuChanges as CpuChanges, CpuDoes as CpuDoes, Fire}
use Rattle.cyc_cpu.specs.Calls.{Suspend as CpuSuspend, Resume as CpuResume}
use Rattle.cyc_agreement.specs.Suspending.{is_suspended, on_each}
use Rattle.cyc_agreement.specs.Cpus.{ChangesAt, IsCpu, Works}
use Rattle.cyc_agreement.specs.Agreement.{Agrees, suspended_on}
use Rattle.cyc_agreement.proofs.Marked.{marked_all, beside_each}
use Rattle.cyc_agreement.proofs.Who.{kept_at}
use Rattle.cyc_system.specs.System.{SystemView, RunningSystem}
use Rattle.cyc_system.specs.Calls.{SystemCall, Changes, Does, Add, AddOmni, Bind, BeginRemove, PollRemove, AskTotals}
use Rattle.cyc_system.specs.Calls.{Suspend, Resume, Reprogram, ReprogramOn, Juggle, Offline, Online, FireOne}
use Rattle.cyc_system.specs.Calls.{SoftInterrupt, no_fire}
use Rattle.cyc_system_laws.specs.Sound.{IsSound}
use Rattle.cyc_system.proofs.Spots.{none_some, get_some}
use Rattle.cyc_system_laws.proofs.Pieces.{LeavesMarks, marks_same}
use Rattle.cyc_system_laws.specs.Totalling.{expirations_in, Steps}
use Rattle.cyc_system_laws.specs.Suspension.{IsNoResumption, StaysSuspended}
use Rattle.cyc_system_laws.proofs.Totals.{refused_none}

-- the mark of CPU 0, where there is one
abbrev mark_of : {R : Type 0} → Option (CpuView R) → Bool
mark_of o = option_map_or (λ suspended. suspended) (option_map (λ cpu. cpu.suspended) o) false

pub marks_each : {R : Type 0} (xs ys : List (CpuView R)) → length ys ≡ length xs
    → ((n : ℕ) (x y : CpuView R) → slice_get xs n ≡ Some x → slice_get ys n ≡ Some y → y.suspended ≡ x.suspended)
    → mark_of (slice_get ys 0) ≡ mark_of (slice_get xs 0)
marks_each [] [] long each = refl
marks_each (x ∷ xs) (y ∷ ys) long each = each 0 x y refl refl
marks_each [] (y ∷ ys) long each = absurd (omega (arith, long))
marks_each (x ∷ xs) [] long each = absurd (omega (arith, long))

-- ---- suspend and resume

refused_true : (b : Bool) (why e : Refusal) → first_refusal (when b why ∷ []) ≡ Some e → b ≡ true
refused_true true why e is = refl
refused_true false why e is = absurd (none_some is)

passed_false : (b : Bool) (why : Refusal) → first_refusal (when b why ∷ []) ≡ None → b ≡ false
passed_false true why is = absurd (none_some (sym is))
passed_false false why is = refl

not_true : (b : Bool) → not b ≡ true → b ≡ false
not_true true e = absurd (false≢true e)
not_true false e = refl

module _ {R : Type 0} (firing : Raise R) where
  -- a system has a CPU
  has_cpu : (s : SystemView R) → Agrees s → 0 < length s.cpus.cpus
  has_cpu s a = let (n, up) = a.some in by n (slice_get s.cpus.online n) refl up
    where
      by : (n : ℕ) (o : Option Bool) → slice_get s.cpus.online n ≡ o → option_map_or (λ online. online) o false ≡ true
          → 0 < length s.cpus.cpus
      by n None at up = absurd (false≢true up)
      by n (Some b) at up = let low = slice_get_within s.cpus.online n b at in let long = a.long in omega (arith, low, long)

  marked : (call : CpuCall) (mark : Bool) (marks : (x y : CpuView R) → CpuChanges firing x call y
      → y ≡ record x { suspended = mark }) (s t : SystemView R) → Agrees s
      → Works firing (on_each call (length s.cpus.cpus)) s.cpus t.cpus → is_suspended t ≡ mark
  marked call mark marks s t a works =
      let long = (beside_each firing call mark marks (length s.cpus.cpus) s.cpus t.cpus works).long in
      let some = has_cpu s a in
      let (y, at) = get_some t.cpus.cpus 0 (omega (arith, some, long)) in
      ap mark_of at ∙ marked_all firing call mark marks s t.cpus works 0 y.suspended
      (ap (λ o. option_map (λ (cpu : CpuView R). cpu.suspended) o) at)

  -- a suspend is accepted where the system is not suspended, and it is after it
  pub suspend_met : (answer : Result (Unit {0}) Refusal) (s t : SystemView R) → Agrees s → Changes firing s (Suspend answer) t
      → (is_ok answer ≡ not (is_suspended s)) × (is_suspended t ≡ true)
  suspend_met answer s t a (inl (e, why, is, same)) =
      let was = refused_true (is_suspended s) Suspended e why in
      (ap is_ok is ∙ sym (ap not was), ap (λ (z : SystemView R). is_suspended z) same ∙ was)
  suspend_met answer s t a (inr (clear, (is, (works, records, last)))) =
      let was = passed_false (is_suspended s) Suspended clear in
      (ap is_ok is ∙ sym (ap not was), marked CpuSuspend true (λ x y d. d) s t a works)

  -- a resume where it is, and it is not after it
  pub resume_met : (answer : Result (Unit {0}) Refusal) (s t : SystemView R) → Agrees s → Changes firing s (Resume answer) t
      → (is_ok answer ≡ is_suspended s) × (is_suspended t ≡ false)
  resume_met answer s t a (inl (e, why, is, same)) =
      let was = not_true (is_suspended s) (refused_true (not (is_suspended s)) NotSuspended e why) in
      (ap is_ok is ∙ sym was, ap (λ (z : SystemView R). is_suspended z) same ∙ was)
  resume_met answer s t a (inr (clear, (is, (works, records, last)))) =
      let was = not_false (is_suspended s) (passed_false (not (is_suspended s)) NotSuspended clear) in
      (ap is_ok is ∙ sym was, marked CpuResume false (λ x y d. d) s t a works)

  -- each CPU of a suspended system is
  asleep_each : (s : SystemView R) → Agrees s → is_suspended s ≡ true → (n : ℕ) (x : CpuView R) → IsCpu n x s.cpus
      → x.suspended ≡ true
  asleep_each s a is n x at = by (suspended_on 0 s.cpus) refl is
    where
      by : (o : Option Bool) → suspended_on 0 s.cpus ≡ o → option_map_or (λ suspended. suspended) o false ≡ true
          → x.suspended ≡ true
      by None e is = absurd (false≢true is)
      by (Some b) e is = sym (a.suspended 0 n b x.suspended e (ap (λ o. option_map (λ (cpu : CpuView R). cpu.suspended) o) at))
          ∙ is

module _ {C R : Type 0} (handler : Calls C) (firing : Raise R)
    (interrupts : Soft → ℕ → Result Ran SoftRefused → Running C R → Running C R → Type 0)
    (keeps : (soft : Soft) (budget : ℕ) (answer : Result Ran SoftRefused) (s t : Running C R)
    → interrupts soft budget answer s t → t.cpu.suspended ≡ s.cpu.suspended) where
  abbrev One : RunningSystem C R → SystemCall → RunningSystem C R → Type 0
  One = Does handler firing interrupts

  abbrev Ones : RunningSystem C R → SystemCall → RunningSystem C R → Type 0
  Ones = Steps handler firing interrupts

  same_mark : (s t : RunningSystem C R) → t ≡ s → is_suspended s.system ≡ true → is_suspended t.system ≡ true
  same_mark s t same is = ap (λ (x : RunningSystem C R). is_suspended x.system) same ∙ is

  -- one CPU has changed, and is suspended where it was
  beside_one : (n : ℕ) (D : CpuView R → CpuView R → Type 0) (s t : RunningSystem C R)
      (c : ChangesAt n D s.system.cpus t.system.cpus) → c.after.suspended ≡ c.before.suspended → is_suspended s.system ≡ true
      → is_suspended t.system ≡ true
  beside_one n D s t c e is = ap (λ o. option_map_or (λ suspended. suspended) o false)
      (ap (λ v. suspended_on 0 v) c.rest ∙ kept_at s.system.cpus n c.before c.after c.here
      (λ o. option_map (λ (cpu : CpuView R). cpu.suspended) o) (ap Some e) 0) ∙ is

  -- a fire of a suspended system is refused before its first expiration
  record Refuses (s t : RunningSystem C R) (answer : Result Fired FireRefused) : Type 0 where
    why : Refusal
    said : answer ≡ Err (no_fire why)
    calls : t.calls ≡ s.calls
    suspended : is_suspended t.system ≡ true

  refuses : (s t : RunningSystem C R) (n now : ℕ) (answer : Result Fired FireRefused) → Agrees s.system
      → is_suspended s.system ≡ true → One s (FireOne n now answer) t → Refuses s t answer
  refuses s t n now answer a is (inl (e, why, said, same)) = record {
    why = e;
    said = said;
    calls = ap (λ (x : RunningSystem C R). x.calls) same;
    suspended = same_mark s t same is;
  }
  refuses s t n now (Ok r) a is (inr (clear, (runs, records, last))) =
      absurd (false≢true (sym runs.change.0.awake ∙ asleep_each firing s.system a is n runs.before runs.here))
  refuses s t n now (Err e) a is (inr (clear, (runs, records, last))) = by runs.change
    where
      by : CpuDoes handler firing interrupts (running s.calls runs.before) (Fire now (Err e)) (running t.calls runs.after)
          → Refuses s t (Err e)
      by (inl (why, none, same)) = record {
        why = e.why;
        said = ap Err none;
        calls = ap (λ (x : Running C R). x.calls) same;
        suspended = beside_one n _ s t runs (ap (λ (x : Running C R). x.cpu.suspended) same) is;
      }
      by (inr d) =
          absurd (false≢true (sym d.0.awake ∙ asleep_each firing s.system a is n runs.before runs.here))

  quiet : (s t : RunningSystem C R) (call : SystemCall) → LeavesMarks firing call → is_suspended s.system ≡ true
      → Changes firing s.system call t.system × (t.calls ≡ s.calls) → is_suspended t.system ≡ true
  quiet s t call plain is d = ap (λ o. option_map_or (λ suspended. suspended) o false)
      (marks_same firing s.system t.system call plain d.0 0) ∙ is

  -- a call that doesn't resume the system leaves it suspended
  asleep : (s t : RunningSystem C R) (call : SystemCall) → Agrees s.system → is_suspended s.system ≡ true
      → IsNoResumption call → One s call t → is_suspended t.system ≡ true
  asleep s t (FireOne n now answer) a is plain d = (refuses s t n now answer a is d).suspended
  asleep s t (SoftInterrupt n level budget answer) a is plain (inl (e, why, said, same)) = same_mark s t same is
  asleep s t (SoftInterrupt n level budget answer) a is plain (inr (clear, (own, said, runs, records, last))) =
      beside_one n _ s t runs (keeps level budget own (running s.calls runs.before) (running t.calls runs.after) runs.change) is
  asleep s t (Suspend answer) a is plain d = (suspend_met firing answer s.system t.system a d.0).1
  asleep s t (Resume (Ok done)) a is plain d = absurd plain
  asleep s t (Resume (Err e)) a is plain d = absurd (false≢true ((resume_met firing (Err e) s.system t.system a d.0).0 ∙ is))
  asleep s t (Add level when now answer) a is plain d = quiet s t (Add level when now answer) tt is d
  asleep s t (AddOmni level when skew now answer) a is plain d = quiet s t (AddOmni level when skew now answer) tt is d
  asleep s t (Bind id cpu answer) a is plain d = quiet s t (Bind id cpu answer) tt is d
  asleep s t (BeginRemove id answer) a is plain d = quiet s t (BeginRemove id answer) tt is d
  asleep s t (PollRemove id answer) a is plain d = quiet s t (PollRemove id answer) tt is d
  asleep s t (AskTotals id answer) a is plain d = quiet s t (AskTotals id answer) tt is d
  asleep s t (Reprogram id moment answer) a is plain d = quiet s t (Reprogram id moment answer) tt is d
  asleep s t (ReprogramOn id n moment answer) a is plain d = quiet s t (ReprogramOn id n moment answer) tt is d
  asleep s t (Juggle n answer) a is plain d = quiet s t (Juggle n answer) tt is d
  asleep s t (Offline n answer) a is plain d = quiet s t (Offline n answer) tt is d
  asleep s t (Online n now answer) a is plain d = quiet s t (Online n now answer) tt is d

  -- it makes no expiration
  unmade : (s t : RunningSystem C R) (call : SystemCall) (id : ℕ) → Agrees s.system → is_suspended s.system ≡ true
      → One s call t → expirations_in id call s.system ≡ 0
  unmade s t (FireOne n now answer) id a is d = let r = refuses s t n now answer a is d in
      ap (λ x. expirations_in id (FireOne n now x) s.system) r.said ∙ refused_none id n now r.why s.system
  unmade s t call id a is d = refl

  from : (s t : RunningSystem C R) (way : List SystemCall) → Agrees s.system → is_suspended s.system ≡ true
      → All IsNoResumption way → (run : FoldsTo Ones s way t) → StaysSuspended Ones s way t run
  from s t [] a is plain run = record { suspended = same_mark s t (sym run) is; unfired = λ id. refl }
  from s t (call ∷ way) a is plain (m, (does, sound), rest) =
      let r = from m t way sound.agrees (asleep s m call a is (plain 0 call (omega arith)) does)
      (λ k d low. plain (suc k) d (omega (arith, low))) rest in record {
        suspended = r.suspended;
        unfired = λ id. (let x = unmade s m call id a is does in let y = r.unfired id in omega (arith, x, y));
      }

  -- from a suspend on
  pub stays_suspended : (s t : RunningSystem C R) (answer : Result (Unit {0}) Refusal) (way : List SystemCall)
      → IsSound firing.view s.system → All IsNoResumption way → (run : FoldsTo Ones s (Suspend answer ∷ way) t)
      → StaysSuspended Ones s (Suspend answer ∷ way) t run
  stays_suspended s t answer way a plain (m, (does, sound), rest) =
      let r = from m t way sound.agrees (suspend_met firing answer s.system m.system a.agrees does.0).1 plain rest in
      record {
        suspended = r.suspended;
        unfired = λ id. (let y = r.unfired id in omega (arith, y));
      }

  module _ (silent : (soft : Soft) (budget : ℕ) (answer : Result Ran SoftRefused) (s t : Running C R)
      → interrupts soft budget answer s t → t.calls ≡ s.calls) where
    uncalled_one : (s t : RunningSystem C R) (call : SystemCall) → Agrees s.system → is_suspended s.system ≡ true
        → One s call t → t.calls ≡ s.calls
    uncalled_one s t (FireOne n now answer) a is d = (refuses s t n now answer a is d).calls
    uncalled_one s t (SoftInterrupt n level budget answer) a is (inl (e, why, said, same)) =
        ap (λ (x : RunningSystem C R). x.calls) same
    uncalled_one s t (SoftInterrupt n level budget answer) a is (inr (clear, (own, said, runs, records, last))) =
        silent level budget own (running s.calls runs.before) (running t.calls runs.after) runs.change
    uncalled_one s t call a is d = d.1

    uncalled_from : (s t : RunningSystem C R) (way : List SystemCall) → Agrees s.system → is_suspended s.system ≡ true
        → All IsNoResumption way → FoldsTo Ones s way t → t.calls ≡ s.calls
    uncalled_from s t [] a is plain run = ap (λ (x : RunningSystem C R). x.calls) (sym run)
    uncalled_from s t (call ∷ way) a is plain (m, (does, sound), rest) =
        uncalled_from m t way sound.agrees (asleep s m call a is (plain 0 call (omega arith)) does)
        (λ k d low. plain (suc k) d (omega (arith, low))) rest ∙ uncalled_one s m call a is does

    pub uncalled : (s t : RunningSystem C R) (answer : Result (Unit {0}) Refusal) (way : List SystemCall)
        → IsSound firing.view s.system → All IsNoResumption way → FoldsTo Ones s (Suspend answer ∷ way) t
        → t.calls ≡ s.calls
    uncalled s t answer way a plain (m, (does, sound), rest) =
        uncalled_from m t way sound.agrees (suspend_met firing answer s.system m.system a.agrees does.0).1 plain rest ∙ does.1
