-- The outstanding calls where a cyclic leaves, and over a run.
use Rattle.std.proofs.Common.{◌≡◌, ◌≢◌, ◌∙◌, ◌==◌, ℕ, suc, ◌+◌, ◌<◌, All, inl, inr, Bool, true, false, Option, Some, None, Result}
use Rattle.std.proofs.Common.{Ok, List, [], ◌∷◌, map, refl, sym, ap, subst, arith}
use Rattle.std.specs.Prelude.{sum_by}
use Rattle.std.specs.List.{slice_get, list_any, FoldsTo}
use Rattle.std.specs.Option.{option_map, option_map_or}
use Rattle.std.proofs.lemmas.List.Sums.{sum_by-cons}
use Rattle.cyc_types.specs.declared.Calls.{Ghosts as Calls}
use Rattle.cyc_types.specs.Firing.{Stay, seen_in}
use Rattle.cyc_types.specs.declared.receipt.Receipt.{Receipt}
use Rattle.cyc_level.specs.Level.{AdmittedCyclic, count_in}
use Rattle.cyc_core.specs.Tables.{Tables, level_of}
use Rattle.cyc_core.specs.FiringSide.{stay_of}
use Rattle.cyc_timers.specs.declared.fire.Fired.{Fired}
use Rattle.cyc_timers.specs.declared.fire.FireRefused.{FireRefused}
use Rattle.cyc_cpu.specs.Cpu.{CpuView, running}
use Rattle.cyc_cpu.specs.Laws.{IsLawful}
use Rattle.cyc_cpu.specs.Soft.{raise_tables, firing_at, Interrupts}
use Rattle.cyc_cpu.specs.Calls.{Fire, AskTotals as CpuAskTotals}
use Rattle.cyc_cpu_laws.specs.Accounts.{account_of}
use Rattle.cyc_agreement.specs.Cpus.{CpusView, IsCpu, numbers_from, Works}
use Rattle.cyc_system.specs.System.{SystemView, RunningSystem, has, ids_of}
use Rattle.cyc_system.specs.SystemRemoval.TheVariants as over
use Rattle.cyc_system.specs.SystemTotals.{SystemTotals}
use Rattle.cyc_system.specs.Counting.{Counted, asked}
use Rattle.cyc_system.proofs.Lists.{among, false_true}
use Rattle.cyc_system.proofs.Presence.{has_here}
use Rattle.cyc_system.proofs.Spots.{none_some}
use Rattle.cyc_system.proofs.Who.{ids_there}
use Rattle.cyc_system.specs.Counts.{all_expired, all_lost, AreLawful}
use Rattle.cyc_system.proofs.Forgetting.{begins_forgotten, polls_forgotten}
use Rattle.cyc_system.proofs.Sums.{sum_none}
use Rattle.cyc_system.specs.Calls.{SystemCall, Changes, Does, Add, AddOmni, Bind, BeginRemove, PollRemove, AskTotals}
use Rattle.cyc_system.specs.Calls.{Suspend, Resume, Reprogram, ReprogramOn, Juggle, Offline, Online, FireOne}
use Rattle.cyc_system.specs.Calls.{SoftInterrupt}
use Rattle.cyc_system_laws.specs.Gone.{AreLevelsLawful}
use Rattle.cyc_system_laws.proofs.Over.{at_one}
use Rattle.cyc_system_laws.specs.Sound.{IsSound}
use Rattle.cyc_system_laws.specs.Keeping.{EndsRemoval}
use Rattle.cyc_system_laws.specs.Totalling.{Steps, expirations_in, expirations_along, losses_in, AnswersWith, fired_in}
use Rattle.cyc_system_laws.specs.Pending.{pending_in, pending_on, all_pending}
use Rattle.cyc_system_laws.proofs.Totals.{one_grows, run_sound}
use Rattle.cyc_system_laws.proofs.Given.{receipt_along, receipt_all, no_losses_yet}
use Rattle.cyc_system_laws.proofs.Pends.{HasLawfulLevels, quietly, quiet_pends, keeps_at, quiet_levels, all_after, fire_pends}
use Rattle.cyc_system_laws.proofs.Pends.{serve_pends}

-- ---- where the cyclic is not

none_admitted : (o : Option AdmittedCyclic) → option_map stay_of o ≡ None → count_in o ≡ 0
none_admitted None e = refl
none_admitted (Some c) e = absurd (none_some (sym e))

not_admitted : (o : Option Stay) → ((s : Stay) → o ≡ Some s → ⊥) → o ≡ None
not_admitted None none = refl
not_admitted (Some s) none = absurd (none s refl)

module _ (id : ℕ) where
  -- a CPU without the cyclic has no call of it outstanding
  absent_in : (n : ℕ) (x : CpuView Tables) (v : CpusView Tables) → IsCpu n x v → IsLawful firing_at x → has n id v ≡ false
      → pending_in id x ≡ 0
  absent_in n x v at law none =
      let a = none_admitted _ (not_admitted ((firing_at x.lock).stays id)
      (λ s e. (let (k, c, here, named, own) = law.lock.only id s e in
      false_true (sym none ∙ has_here v n id x at (k, c, here, named))))) in
      let b = none_admitted _ (not_admitted ((firing_at x.low).stays id)
      (λ s e. (let (k, c, here, named, own) = law.low.only id s e in
      false_true (sym none ∙ has_here v n id x at (k, c, here, named))))) in omega (arith, a, b)

  pub absent_on : (n : ℕ) (s : SystemView Tables) → AreLawful firing_at s → has n id s.cpus ≡ false → pending_on n id s.cpus ≡ 0
  absent_on n s law none = by (slice_get s.cpus.cpus n) refl
    where
      by : (o : Option (CpuView Tables)) → slice_get s.cpus.cpus n ≡ o
          → option_map_or (pending_in id) (slice_get s.cpus.cpus n) 0 ≡ 0
      by None is = ap (λ o. option_map_or (pending_in id) o 0) is
      by (Some x) is = ap (λ o. option_map_or (pending_in id) o 0) is ∙ absent_in n x s.cpus is (law n x is) none

  -- where one of two is false, both counts are 0
  pub moved_none : (n : ℕ) (s t : SystemView Tables) (call : SystemCall) → AreLawful firing_at s → AreLawful firing_at t
      → Changes raise_tables s call t → has n id t.cpus ≢ has n id s.cpus
      → (pending_on n id s.cpus ≡ 0) × (pending_on n id t.cpus ≡ 0)
  moved_none n s t call a b d differ = by (has n id s.cpus) (has n id t.cpus) refl refl
    where
      by : (p q : Bool) → has n id s.cpus ≡ p → has n id t.cpus ≡ q → (pending_on n id s.cpus ≡ 0) × (pending_on n id t.cpus ≡ 0)
      by false q was is = let x = absent_on n s a was in let y = (quietly id s t call d).each n in (x, y ∙ x)
      by true false was is = let x = absent_on n t b is in let y = (quietly id s t call d).each n in (sym y ∙ x, x)
      by true true was is = absurd (differ (is ∙ sym was))

  -- ---- a removal that answers

  all_absent : (t : SystemView Tables) → AreLawful firing_at t → ((n : ℕ) → has n id t.cpus ≡ false) → all_pending id t ≡ 0
  all_absent t law nowhere = sum_none (pending_in id) t.cpus.cpus (λ n x at. absent_in n x t.cpus at (law n x at) (nowhere n))

  pub answered_none : (receipt : Receipt) (s t : SystemView Tables) → IsSound firing_at s → IsSound firing_at t
      → AnswersWith raise_tables id receipt s t → (all_pending id s ≡ 0) × (all_pending id t ≡ 0)
  answered_none receipt s t a b (inl d) =
      let x = all_absent t b.lawful (begins_forgotten raise_tables id receipt s t a.fit.rising d).nowhere in
      let y = (quietly id s t (BeginRemove id (Ok (over.Done receipt))) d).all in (sym y ∙ x, x)
  answered_none receipt s t a b (inr d) =
      let x = all_absent t b.lawful (polls_forgotten raise_tables id receipt s t a.fit.rising d).nowhere in
      let y = (quietly id s t (PollRemove id (Ok (Some receipt))) d).all in (sym y ∙ x, x)

  -- ---- what totals say

  seen_all : (o : Option AdmittedCyclic) → seen_in (option_map stay_of o) ≡ count_in o
  seen_all None = refl
  seen_all (Some c) = refl

  seen_pending : (x : CpuView Tables)
      → seen_in ((firing_at x.lock).stays id) + seen_in ((firing_at x.low).stays id) ≡ pending_in id x
  seen_pending x = let a = seen_all ((level_of x.lock).cyclics id) in let b = seen_all ((level_of x.low).cyclics id) in
      omega (arith, a, b)

  asked_pending : (f : ℕ → ℕ) (way : List Counted) (v w : CpusView Tables) → ((n : ℕ) → pending_on n id v ≡ f n)
      → Works raise_tables (map (asked id) way) v w → sum_by (λ a. a.totals.pending) way ≡ sum_by f (map (λ a. a.cpu) way)
  asked_pending f [] v w same run = refl
  asked_pending f (a ∷ way) v w same (u, d, rest) =
      let call = CpuAskTotals id (Some a.totals) in
      let quiet = quiet_pends id d.before d.after call d.change in
      let k = keeps_at id a.cpu _ v u d quiet (quiet_levels d.before d.after call d.change) in
      let x = asked_pending f way u w (λ n. k.each n ∙ same n) rest in
      let y = seen_pending d.after in let z = d.change.1 in
      let here = ap (λ o. option_map_or (pending_in id) o 0) d.here in let e = same a.cpu in
      let p = sum_by-cons (λ (b : Counted). b.totals.pending) a way in
      let q = sum_by-cons f a.cpu (map (λ (b : Counted). b.cpu) way) in
      omega (arith, quiet, x, y, z, here, e, p, q)

  -- over those that have the cyclic, and over all
  numbered_sum : (f : ℕ → ℕ) (test : CpuView Tables → Bool) (k : ℕ) (xs : List (CpuView Tables))
      → ((j : ℕ) (x : CpuView Tables) → slice_get xs j ≡ Some x → f (k + j) ≡ pending_in id x)
      → ((j : ℕ) (x : CpuView Tables) → slice_get xs j ≡ Some x → test x ≡ false → pending_in id x ≡ 0)
      → sum_by f (numbers_from k (map test xs)) ≡ sum_by (pending_in id) xs
  numbered_sum f test k [] here none = refl
  numbered_sum f test k (x ∷ xs) here none =
      let rest = numbered_sum f test (k + 1) xs
      (λ j y at. ap f (let e : (k + 1) + j ≡ k + suc j = omega arith in e) ∙ here (suc j) y at)
      (λ j y at no. none (suc j) y at no) in
      by (test x) refl rest (here 0 x refl) (sum_by-cons (pending_in id) x xs)
    where
      by : (b : Bool) → test x ≡ b → sum_by f (numbers_from (k + 1) (map test xs)) ≡ sum_by (pending_in id) xs
          → f (k + 0) ≡ pending_in id x → sum_by (pending_in id) (x ∷ xs) ≡ pending_in id x + sum_by (pending_in id) xs
          → sum_by f (numbers_from k (b ∷ map test xs)) ≡ sum_by (pending_in id) (x ∷ xs)
      by true is rest own all = (let p = sum_by-cons f k (numbers_from (k + 1) (map test xs)) in
          let e = ap f (let z : k + 0 ≡ k = omega arith in z) in omega (arith, rest, own, all, p, e))
      by false is rest own all = let z = none 0 x refl is in omega (arith, rest, all, z)

  pub totals_all : (totals : SystemTotals) (s t : SystemView Tables) → AreLawful firing_at s
      → Changes raise_tables s (AskTotals id (Some totals)) t → totals.pending ≡ all_pending id s
  totals_all totals s t law (way, r, known, cpus, (works, records, last), adds) =
      let a = asked_pending (λ n. pending_on n id s.cpus) way s.cpus t.cpus (λ n. refl) works in
      let b = ap (λ ns. sum_by (λ (n : ℕ). pending_on n id s.cpus) ns) cpus in
      let c = numbered_sum (λ n. pending_on n id s.cpus) (λ cpu. list_any (λ own. own == id) (ids_of cpu)) 0 s.cpus.cpus
      (λ j x at. ap (λ (n : ℕ). pending_on n id s.cpus) (let z : 0 + j ≡ j = omega arith in z)
      ∙ ap (λ o. option_map_or (pending_in id) o 0) at)
      (λ j x at no. absent_in j x s.cpus at (law j x at) (ap (λ ids. among id ids) (ids_there s.cpus j x x at) ∙ no)) in
      let d = adds.pending in omega (arith, a, b, c, d)

-- ---- a run
module _ {C : Type 0} (handler : Calls C) (id : ℕ) where
  abbrev Call : RunningSystem C Tables → SystemCall → RunningSystem C Tables → Type 0
  Call = Does handler raise_tables (Interrupts handler)

  abbrev D : RunningSystem C Tables → SystemCall → RunningSystem C Tables → Type 0
  D = Steps handler raise_tables (Interrupts handler)

  abbrev AllLevels : SystemView Tables → Type 0
  AllLevels s = (n : ℕ) (x : CpuView Tables) → IsCpu n x s.cpus → HasLawfulLevels x

  -- the calls that are outstanding or were made
  abbrev begun : RunningSystem C Tables → ℕ
  begun s = all_pending id s.system + all_lost id s.system + handler.count s.calls id

  pub record Balances (made : ℕ) (s t : RunningSystem C Tables) : Type 0 where
    pub sum : begun t ≡ begun s + made
    pub lawful : AllLevels s.system → AllLevels t.system

  grown : (s t : RunningSystem C Tables) (call : SystemCall) → IsSound firing_at s.system → IsSound firing_at t.system
      → (EndsRemoval id call → ⊥) → (d : Call s call t)
      → (all_expired id t.system ≡ all_expired id s.system + expirations_in id call s.system)
      × (all_lost id t.system ≡ all_lost id s.system
      + losses_in handler raise_tables (Interrupts handler) id call s t d)
  grown s t call a b open_still d =
      let g = one_grows handler raise_tables (Interrupts handler)
      (λ s t level budget answer d. d.1.cyclics) id s t call a b open_still d in (g.expired, g.lost)

  balances_same : (made : ℕ) (s t : RunningSystem C Tables) → t ≡ s → all_expired id t.system ≡ all_expired id s.system + made
      → Balances made s t
  balances_same made s t e grows = record {
    sum = (let x = ap begun e in
        let y = ap (λ (u : RunningSystem C Tables). all_expired id u.system) e in omega (arith, x, y, grows));
    lawful = subst (λ (u : RunningSystem C Tables). AllLevels u.system) (sym e);
  }

  balances_quiet : (s t : RunningSystem C Tables) (call : SystemCall) → Changes raise_tables s.system call t.system
      × (t.calls ≡ s.calls) → all_lost id t.system ≡ all_lost id s.system + 0 → Balances 0 s t
  balances_quiet s t call (d, same) lost = let k = quietly id s.system t.system call d in record {
    sum = (let x = k.all in let y = ap (λ (c : C). handler.count c id) same in omega (arith, x, y, lost));
    lawful = k.lawful;
  }

  fire_balances : (n now : ℕ) (answer : Result Fired FireRefused) (s t : RunningSystem C Tables) → IsSound firing_at s.system
      → IsSound firing_at t.system → Call s (FireOne n now answer) t
      → Balances (expirations_in id (FireOne n now answer) s.system) s t
  fire_balances n now answer s t a b (inl (e, why, is, same)) =
      balances_same _ s t same (grown s t (FireOne n now answer) a b (λ h. h) (inl (e, why, is, same))).0
  fire_balances n now answer s t a b (inr (clear, (runs, records, last))) =
      let f = fire_pends handler id (running s.calls runs.before) (running t.calls runs.after) now answer
      (a.lawful n runs.before runs.here) runs.change in
      let lost = (grown s t (FireOne n now answer) a b (λ h. h) (inr (clear, (runs, records, last)))).1 in
      let sums = all_after id 0 n _ s.system.cpus t.system.cpus runs in
      let p = f.pends in let q = f.calls in
      let is = ap (λ o. option_map_or (λ (cpu : CpuView Tables). fired_in (account_of (Fire now answer) cpu.cyclics) id) o 0)
      runs.here in
      record {
        sum = omega (arith, p, q, lost, sums, is);
        lawful = λ h. at_one HasLawfulLevels n _ s.system.cpus t.system.cpus runs (f.lawful (h n runs.before runs.here)) h;
      }

  pub one_balances : (s t : RunningSystem C Tables) (call : SystemCall) → IsSound firing_at s.system → IsSound firing_at t.system
      → AllLevels s.system → (EndsRemoval id call → ⊥) → Call s call t → Balances (expirations_in id call s.system) s t
  one_balances s t (FireOne n now answer) a b h open_still d = fire_balances n now answer s t a b d
  one_balances s t (SoftInterrupt n level budget answer) a b h open_still (inl (e, why, is, same)) =
      balances_same 0 s t same (grown s t (SoftInterrupt n level budget answer) a b open_still (inl (e, why, is, same))).0
  one_balances s t (SoftInterrupt n level budget answer) a b h open_still (inr (clear, (own, is, runs, records, last))) =
      let f = serve_pends handler id (running s.calls runs.before) (running t.calls runs.after) level budget own
      (a.lawful n runs.before runs.here) (h n runs.before runs.here) runs.change in
      let lost = (grown s t (SoftInterrupt n level budget answer) a b open_still
      (inr (clear, (own, is, runs, records, last)))).1 in
      let sums = all_after id 0 n _ s.system.cpus t.system.cpus runs in let p = f.pends in
      record {
        sum = omega (arith, p, lost, sums);
        lawful = λ h. at_one HasLawfulLevels n _ s.system.cpus t.system.cpus runs f.lawful h;
      }
  one_balances s t (Add level when now answer) a b h open_still d = balances_quiet s t (Add level when now answer) d
      (grown s t (Add level when now answer) a b open_still d).1
  one_balances s t (AddOmni level when skew now answer) a b h open_still d =
      balances_quiet s t (AddOmni level when skew now answer) d
      (grown s t (AddOmni level when skew now answer) a b open_still d).1
  one_balances s t (Bind own cpu answer) a b h open_still d = balances_quiet s t (Bind own cpu answer) d
      (grown s t (Bind own cpu answer) a b open_still d).1
  one_balances s t (BeginRemove own answer) a b h open_still d = balances_quiet s t (BeginRemove own answer) d
      (grown s t (BeginRemove own answer) a b open_still d).1
  one_balances s t (PollRemove own answer) a b h open_still d = balances_quiet s t (PollRemove own answer) d
      (grown s t (PollRemove own answer) a b open_still d).1
  one_balances s t (AskTotals own answer) a b h open_still d = balances_quiet s t (AskTotals own answer) d
      (grown s t (AskTotals own answer) a b open_still d).1
  one_balances s t (Suspend answer) a b h open_still d = balances_quiet s t (Suspend answer) d
      (grown s t (Suspend answer) a b open_still d).1
  one_balances s t (Resume answer) a b h open_still d = balances_quiet s t (Resume answer) d
      (grown s t (Resume answer) a b open_still d).1
  one_balances s t (Reprogram own moment answer) a b h open_still d = balances_quiet s t (Reprogram own moment answer) d
      (grown s t (Reprogram own moment answer) a b open_still d).1
  one_balances s t (ReprogramOn own n moment answer) a b h open_still d = balances_quiet s t (ReprogramOn own n moment answer) d
      (grown s t (ReprogramOn own n moment answer) a b open_still d).1
  one_balances s t (Juggle n answer) a b h open_still d = balances_quiet s t (Juggle n answer) d
      (grown s t (Juggle n answer) a b open_still d).1
  one_balances s t (Offline n answer) a b h open_still d = balances_quiet s t (Offline n answer) d
      (grown s t (Offline n answer) a b open_still d).1
  one_balances s t (Online n now answer) a b h open_still d = balances_quiet s t (Online n now answer) d
      (grown s t (Online n now answer) a b open_still d).1

  pub run_balances : (s t : RunningSystem C Tables) (way : List SystemCall) (run : FoldsTo D s way t) → IsSound firing_at s.system
      → AllLevels s.system → All (λ call. EndsRemoval id call → ⊥) way → Balances (expirations_along D id s way t run) s t
  run_balances s t [] run a h open_still = record {
    sum = (let x = ap begun (sym run) in omega (arith, x));
    lawful = subst (λ (u : RunningSystem C Tables). AllLevels u.system) run;
  }
  run_balances s t (call ∷ way) (u, (d, sound), rest) a h open_still =
      let x = one_balances s u call a sound h (open_still 0 call (omega arith)) d in
      let y = run_balances u t way rest sound (x.lawful h) (λ k e low. open_still (suc k) e (omega (arith, low))) in
      record { sum = (let p = x.sum in let q = y.sum in omega (arith, p, q)); lawful = λ k. y.lawful (x.lawful k) }

  -- lawful levels stay so
  one_lawful : (s t : RunningSystem C Tables) (call : SystemCall) → IsSound firing_at s.system → AllLevels s.system
      → Call s call t → AllLevels t.system
  one_lawful s t (FireOne n now answer) a h (inl (e, why, is, same)) =
      subst (λ (u : RunningSystem C Tables). AllLevels u.system) (sym same) h
  one_lawful s t (FireOne n now answer) a h (inr (clear, (runs, records, last))) =
      let f = fire_pends handler id (running s.calls runs.before) (running t.calls runs.after) now answer
      (a.lawful n runs.before runs.here) runs.change in
      at_one HasLawfulLevels n _ s.system.cpus t.system.cpus runs (f.lawful (h n runs.before runs.here)) h
  one_lawful s t (SoftInterrupt n level budget answer) a h (inl (e, why, is, same)) =
      subst (λ (u : RunningSystem C Tables). AllLevels u.system) (sym same) h
  one_lawful s t (SoftInterrupt n level budget answer) a h (inr (clear, (own, is, runs, records, last))) =
      let f = serve_pends handler id (running s.calls runs.before) (running t.calls runs.after) level budget own
      (a.lawful n runs.before runs.here) (h n runs.before runs.here) runs.change in
      at_one HasLawfulLevels n _ s.system.cpus t.system.cpus runs f.lawful h
  one_lawful s t (Add level when now answer) a h d =
      (quietly id s.system t.system (Add level when now answer) d.0).lawful h
  one_lawful s t (AddOmni level when skew now answer) a h d =
      (quietly id s.system t.system (AddOmni level when skew now answer) d.0).lawful h
  one_lawful s t (Bind own cpu answer) a h d =
      (quietly id s.system t.system (Bind own cpu answer) d.0).lawful h
  one_lawful s t (BeginRemove own answer) a h d =
      (quietly id s.system t.system (BeginRemove own answer) d.0).lawful h
  one_lawful s t (PollRemove own answer) a h d =
      (quietly id s.system t.system (PollRemove own answer) d.0).lawful h
  one_lawful s t (AskTotals own answer) a h d =
      (quietly id s.system t.system (AskTotals own answer) d.0).lawful h
  one_lawful s t (Suspend answer) a h d =
      (quietly id s.system t.system (Suspend answer) d.0).lawful h
  one_lawful s t (Resume answer) a h d =
      (quietly id s.system t.system (Resume answer) d.0).lawful h
  one_lawful s t (Reprogram own moment answer) a h d =
      (quietly id s.system t.system (Reprogram own moment answer) d.0).lawful h
  one_lawful s t (ReprogramOn own n moment answer) a h d =
      (quietly id s.system t.system (ReprogramOn own n moment answer) d.0).lawful h
  one_lawful s t (Juggle n answer) a h d =
      (quietly id s.system t.system (Juggle n answer) d.0).lawful h
  one_lawful s t (Offline n answer) a h d =
      (quietly id s.system t.system (Offline n answer) d.0).lawful h
  one_lawful s t (Online n now answer) a h d =
      (quietly id s.system t.system (Online n now answer) d.0).lawful h

  pub levels_kept : (s t : RunningSystem C Tables) (call : SystemCall) → IsSound firing_at s.system → IsSound firing_at t.system
      → AreLevelsLawful s.system → Call s call t → AreLevelsLawful t.system
  levels_kept s t call a b h d n x at =
      let (lock, low) = one_lawful s t call a (λ m y is. (let (law, p, q) = h m y is in (p, q))) d n x at in
      (b.lawful n x at, lock, low)

  pub levels_of : (s : SystemView Tables) → AreLevelsLawful s → AllLevels s
  levels_of s h n x at = let (law, lock, low) = h n x at in (lock, low)

  -- a receipt's expirations are its losses and the calls that were made
  pub receipt_calls : (s t : RunningSystem C Tables) (u : SystemView Tables) (way : List SystemCall) (receipt : Receipt)
      → FoldsTo D s way t → IsSound firing_at s.system → AllLevels s.system → s.system.last < id → IsSound firing_at u
      → All (λ call. EndsRemoval id call → ⊥) way → AnswersWith raise_tables id receipt t.system u
      → receipt.sent + handler.count s.calls id ≡ receipt.lost + handler.count t.calls id
  receipt_calls s t u way receipt run a h new b open_still answers =
      let after = run_sound handler raise_tables (Interrupts handler)
      (λ s t level budget answer d. d.1.cyclics) id s t way run a in
      let (sent, lost) = receipt_along handler raise_tables (Interrupts handler)
      (λ s t level budget answer d. d.1.cyclics) id s t u way receipt run a new open_still answers in
      let (sent_all, lost_all) = receipt_all raise_tables id receipt t.system u after answers in
      let x = (run_balances s t way run a h open_still).sum in
      let y = (answered_none id receipt t.system u after b answers).0 in
      let z = no_losses_yet firing_at id s.system a new in
      let w = all_absent id s.system a.lawful (λ n. not_given n (has n id s.system.cpus) refl) in
      omega (arith, sent, lost_all, x, y, z, w)
    where
      not_given : (n : ℕ) (b : Bool) → has n id s.system.cpus ≡ b → has n id s.system.cpus ≡ false
      not_given n false e = e
      not_given n true e = (let (k, r, is, named, stands, on) = a.agrees.known n id e in let low = a.agrees.given k r is in
          absurd (omega (arith, low, named, new)))
