-- The counts of an id over all CPUs and all stays, over any call.
use Rattle.cyc_agreement.specs.Suspending.{on_each}
use Rattle.cyc_cpu.specs.Calls.{Suspend as CpuSuspend, Resume as CpuResume}
use Rattle.cyc_system_laws.proofs.Idle.{idle_each}
use Rattle.std.proofs.Common.{◌≡◌, ◌∙◌, ℕ, ◌+◌, ◌<◌, ◌⊎◌, inl, inr, Bool, true, false, Option, Some, None, Result, Ok, Err, List}
use Rattle.std.proofs.Common.{[], ◌∷◌, length, refl, sym, ap, subst, arith}
use Rattle.std.specs.Prelude.{sum_by, nat_le}
use Rattle.std.specs.Option.{option_map_or}
use Rattle.std.proofs.lemmas.Bool.Decides.{nat_tests}
use mathlib.Core.Logic.{dite}
use native.Mathlib.Decide.{ℕ_discrete}
use Rattle.cyc_types.specs.declared.Raise.{Ghosts as Raise}
use Rattle.cyc_types.specs.declared.firing.Sent.{Sent}
use Rattle.cyc_types.specs.declared.receipt.Receipt.{Receipt}
use Rattle.cyc_types.specs.declared.refusal.Refusal.{Refusal}
use Rattle.cyc_types.specs.declared.refusal.Refusal.TheVariants.{NoCpu}
use Rattle.cyc_types.specs.Reasons.{first_refusal, or_else, when, busy, bad_now}
use Rattle.cyc_types.specs.Counting.{no_counts}
use Rattle.cyc_places.specs.Places.{summed}
use Rattle.cyc_system.specs.System.{SystemView, record_of, removal_on}
use Rattle.cyc_system.specs.Refusals.{no_cpu, offline_cpu}
use Rattle.cyc_system.proofs.Spots.{none_some}
use Rattle.cyc_system.specs.SystemRemoval.{SystemRemoval}
use Rattle.cyc_system.specs.SystemRemoval.TheVariants as over
use Rattle.cyc_system.specs.Removing.{BeginsRemoval}
use Rattle.cyc_system.specs.Polling.{PollsRemoval}
use Rattle.cyc_system.specs.RemovalLaws.{IsUntouched}
use Rattle.cyc_system.proofs.Others.{begins_others, polls_others, asks_others}
use Rattle.cyc_system.proofs.Receipts.{begun_kept, poll_kept}
use Rattle.cyc_system.specs.Juggling.{single_ids, last_cpu}
use Rattle.cyc_system.specs.Online.{online_cpu}
use Rattle.cyc_system.specs.Calls.{SystemCall, Changes, Add, AddOmni, Bind, BeginRemove, PollRemove, AskTotals, Reprogram}
use Rattle.cyc_system.specs.Calls.{ReprogramOn, Juggle, Offline, Online, FireOne, SoftInterrupt, Suspend, Resume}
use Rattle.cyc_system_laws.specs.Keeping.{EndsRemoval, over_stays}
use Rattle.cyc_system_laws.specs.Sound.{IsSound}
use Rattle.cyc_system_laws.proofs.Counted.{all_of, idly, binds_same, unbinds_same, reprograms_same, adds_same, omni_same}
use Rattle.cyc_system_laws.proofs.Counted.{turns_same, turns_sixteen, leaves_same, online_same}
use Rattle.cyc_system_laws.proofs.Found.{stays_found, records_found, untouched_stays}

-- the number of a CPU that is there
pub within : {R : Type 0} (n : ℕ) (s : SystemView R) (whys : List (Option Refusal))
    → first_refusal (no_cpu n s ∷ whys) ≡ None → n < length s.cpus.cpus
within n s whys clear = by (nat_le (length s.cpus.cpus) n) refl
  where
    by : (b : Bool) → nat_le (length s.cpus.cpus) n ≡ b → n < length s.cpus.cpus
    by true is = absurd (none_some (sym clear ∙ ap (λ b. or_else (when b NoCpu) (first_refusal whys)) is))
    by false is = grind (arith, nat_tests)

module _ {R : Type 0} (firing : Raise R) (g : Sent
    → ℕ) (nil : g no_counts ≡ 0) (adds : (a b : Sent) → g (summed a b) ≡ g a + g b) (id : ℕ) where
  -- what the look-ups give
  abbrev pub counts_of : SystemView R → ℕ
  counts_of s = over_stays (λ t. g t.sent) id s + option_map_or (λ r. sum_by g r.ended) (record_of id s) 0

  abbrev summed_up : SystemView R → ℕ
  summed_up = all_of firing g nil adds id

  summed_is : (s : SystemView R) → IsSound firing.view s → summed_up s ≡ counts_of s
  summed_is s sound =
      let a = stays_found firing.view id (λ t. g t.sent) s sound.lawful in
      let b = records_found firing.view id (λ r. sum_by g r.ended) s sound.fit.rising in omega (arith, a, b)

  by_sums : (s t : SystemView R) → IsSound firing.view s → IsSound firing.view t → summed_up t ≡ summed_up s → counts_of t
      ≡ counts_of s
  by_sums s t a b e = let x = summed_is s a in let y = summed_is t b in omega (arith, x, y, e)

  untouched_counts : (s t : SystemView R) → IsUntouched id s t → counts_of t ≡ counts_of s
  untouched_counts s t u = let a = untouched_stays id (λ t. g t.sent) s t u in
      let b = ap (λ o. option_map_or (λ r. sum_by g r.ended) o 0) u.own in omega (arith, a, b)

  begins_own : (answer : Result SystemRemoval Refusal) (s t : SystemView R) → IsSound firing.view s
      → BeginsRemoval firing id answer s t → (EndsRemoval id (BeginRemove id answer) → ⊥) → counts_of t ≡ counts_of s
  begins_own (Ok (over.Done receipt)) s t sound d open_still = absurd (open_still refl)
  begins_own (Ok (over.Kept kept)) s t sound d open_still = begun_kept firing g id adds kept s t sound.fit sound.lawful d
  begins_own (Err e) s t sound (inl (why, first, is, same)) open_still = ap counts_of same
  begins_own (Err e) s t sound (inr (clear, wrong)) open_still = absurd wrong

  polls_own : (answer : Result (Option Receipt) Refusal) (s t : SystemView R) → IsSound firing.view s
      → PollsRemoval firing id answer s t → (EndsRemoval id (PollRemove id answer) → ⊥) → counts_of t ≡ counts_of s
  polls_own (Ok (Some receipt)) s t sound d open_still = absurd (open_still refl)
  polls_own (Ok None) s t sound d open_still = poll_kept firing g id adds s t sound.fit sound.lawful d
  polls_own (Err e) s t sound (inl (why, first, is, same)) open_still = ap counts_of same
  polls_own (Err e) s t sound (inr (clear, wrong)) open_still = absurd wrong

  begins_counts : (own : ℕ) (answer : Result SystemRemoval Refusal) (s t : SystemView R) → IsSound firing.view s
      → BeginsRemoval firing own answer s t → (EndsRemoval id (BeginRemove own answer) → ⊥) → counts_of t ≡ counts_of s
  begins_counts own answer s t sound d open_still = dite (ℕ_discrete own id)
      (λ e. begins_own answer s t sound (subst (λ j. BeginsRemoval firing j answer s t) e d)
      (subst (λ j. EndsRemoval id (BeginRemove j answer) → ⊥) e open_still))
      (λ ne. untouched_counts s t (begins_others firing own id answer s t (λ e. ne (sym e)) d))

  polls_counts : (own : ℕ) (answer : Result (Option Receipt) Refusal) (s t : SystemView R) → IsSound firing.view s
      → PollsRemoval firing own answer s t → (EndsRemoval id (PollRemove own answer) → ⊥) → counts_of t ≡ counts_of s
  polls_counts own answer s t sound d open_still = dite (ℕ_discrete own id)
      (λ e. polls_own answer s t sound (subst (λ j. PollsRemoval firing j answer s t) e d)
      (subst (λ j. EndsRemoval id (PollRemove j answer) → ⊥) e open_still))
      (λ ne. untouched_counts s t (polls_others firing own id answer s t (λ e. ne (sym e)) d))

  refused_or : {A : Type 0} (o : Option Refusal) (refused : Refusal → A) (answer : A) (s t : SystemView R) (G : Type 0)
      → ((e : Refusal) × (o ≡ Some e) × (answer ≡ refused e) × (t ≡ s)) ⊎ ((o ≡ None) × G)
      → (o ≡ None → G → summed_up t ≡ summed_up s) → summed_up t ≡ summed_up s
  refused_or o refused answer s t G (inl (e, why, is, same)) goes = ap summed_up same
  refused_or o refused answer s t G (inr (clear, d)) goes = goes clear d

  low : (n : ℕ) (s : SystemView R) (whys : List (Option Refusal)) → IsSound firing.view s → first_refusal (no_cpu n s ∷ whys)
      ≡ None
      → n < 16
  low n s whys sound clear = let a = within n s whys clear in let b = sound.fit.few in omega (arith, a, b)

  -- the calls other than those of a removal
  abbrev Sums : SystemView R → SystemCall → SystemView R → Type 0
  Sums s call t = IsSound firing.view s → Changes firing s call t → summed_up t ≡ summed_up s

  juggles : (n : ℕ) (answer : _) (s t : SystemView R) → Sums s (Juggle n answer) t
  juggles n answer s t sound d = refused_or _ _ answer s t _ d
      (λ clear k. (let (report, is, moves) = k in turns_same firing g nil adds id n (single_ids n s) report s t moves))

  goes_offline : (n : ℕ) (answer : _) (s t : SystemView R) → Sums s (Offline n answer) t
  goes_offline n answer s t sound d = refused_or _ _ answer s t _ d
      (λ clear k. (let (report, moved, moves, rest) = k in
      leaves_same firing g nil adds id n report answer moved t
      (low n s (offline_cpu n s ∷ last_cpu s ∷ busy (removal_on n s.cpus) ∷ []) sound clear)
      (turns_sixteen firing g nil adds id n (single_ids n s) report s moved moves sound.fit.sixteen) rest
      ∙ turns_same firing g nil adds id n (single_ids n s) report s moved moves))

  pub counts_same : (s t : SystemView R) (call : SystemCall) → IsSound firing.view s → IsSound firing.view t
      → Changes firing s call t
      → (EndsRemoval id call → ⊥) → counts_of t ≡ counts_of s
  counts_same s t (BeginRemove own answer) a b d open_still = begins_counts own answer s t a d open_still
  counts_same s t (PollRemove own answer) a b d open_still = polls_counts own answer s t a d open_still
  counts_same s t (AskTotals own answer) a b d open_still = untouched_counts s t (asks_others firing own id answer s t d)
  counts_same s t (Add level when now answer) a b d open_still = by_sums s t a b
      (refused_or _ _ answer s t _ d (λ clear k. adds_same firing g nil adds id level when now answer s t k))
  counts_same s t (AddOmni level when skew now answer) a b d open_still = by_sums s t a b
      (refused_or _ _ answer s t _ d (λ clear k. omni_same firing g nil adds id level when skew now answer s t k))
  counts_same s t (Bind own None answer) a b d open_still = by_sums s t a b
      (refused_or _ _ answer s t _ d (λ clear k. unbinds_same firing g nil adds id own answer s t k))
  counts_same s t (Bind own (Some n) answer) a b d open_still = by_sums s t a b
      (refused_or _ _ answer s t _ d (λ clear k. binds_same firing g nil adds id own n answer s t k))
  counts_same s t (Reprogram own moment answer) a b d open_still = by_sums s t a b
      (refused_or _ _ answer s t _ d (λ clear k. reprograms_same firing g nil adds id own k.0 moment s t k.2.1))
  counts_same s t (ReprogramOn own n moment answer) a b d open_still = by_sums s t a b
      (refused_or _ _ answer s t _ d (λ clear k. reprograms_same firing g nil adds id own n moment s t k.1))
  counts_same s t (Juggle n answer) a b d open_still = by_sums s t a b (juggles n answer s t a d)
  counts_same s t (Offline n answer) a b d open_still = by_sums s t a b (goes_offline n answer s t a d)
  counts_same s t (Online n now answer) a b d open_still =
      by_sums s t a b (refused_or _ _ answer s t _ d
      (λ clear k. online_same firing g nil adds id n now answer s t
      (low n s (online_cpu n s ∷ bad_now now ∷ []) a clear) a.fit.sixteen k))
  counts_same s t (Suspend answer) a b d open_still = by_sums s t a b
      (refused_or _ _ answer s t _ d (λ clear k. idly firing g nil adds id (on_each CpuSuspend (length s.cpus.cpus)) s t
      (idle_each CpuSuspend (length s.cpus.cpus) tt) k.1))
  counts_same s t (Resume answer) a b d open_still = by_sums s t a b
      (refused_or _ _ answer s t _ d (λ clear k. idly firing g nil adds id (on_each CpuResume (length s.cpus.cpus)) s t
      (idle_each CpuResume (length s.cpus.cpus) tt) k.1))
  counts_same s t (FireOne n now answer) a b d open_still = absurd d
  counts_same s t (SoftInterrupt n level budget answer) a b d open_still = absurd d
