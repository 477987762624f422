-- Another CPU is online exactly where there is a destination.
use Rattle.std.proofs.Common.{◌≡◌, ◌≢◌, ℕ, zero, suc, ◌+◌, ◌<◌, Bool, true, false, cond, not, Option, Some, None, List, [], ◌∷◌}
use Rattle.std.proofs.Common.{filter, length, is_some, refl, sym, ap, ◌∙◌, arith}
use Rattle.std.specs.Prelude.{nat_le}
use Rattle.std.specs.List.{slice_get}
use Rattle.cyc_types.specs.declared.refusal.Refusal.TheVariants.{LastCpu, Busy}
use Rattle.cyc_types.specs.Reasons.{first_refusal, busy}
use Rattle.cyc_agreement.specs.Cpus.{CpusView, numbers_from, online_cpus}
use Rattle.cyc_agreement.specs.Destination.{is_not, fewer, fewest, destination}
use Rattle.cyc_agreement.specs.System.{SystemView, is_online, removal_on}
use Rattle.cyc_agreement.specs.Refusals.{offline_cpu}
use Rattle.cyc_agreement.proofs.Spots.{same_some, none_some}
use Rattle.cyc_agreement.proofs.Lists.{true_eq, false_ne, false_true}
use Rattle.cyc_agreement.proofs.FirstReason.{passes, stops, not_when, is_when, not_le, le_true}
use Rattle.cyc_agreement.proofs.Destinations.{online_at}
use Rattle.cyc_agreement.proofs.Presence.{cpu_clear, online_clear}
use Rattle.cyc_system.specs.Juggling.{last_cpu, juggle_refusals}

kept : (p : ℕ → Bool) (n : ℕ) (ns : List ℕ) → p n ≡ true → filter p (n ∷ ns) ≡ n ∷ filter p ns
kept p n ns e = ap (λ b. cond b (n ∷ filter p ns) (filter p ns)) e

dropped : (p : ℕ → Bool) (n : ℕ) (ns : List ℕ) → p n ≡ false → filter p (n ∷ ns) ≡ filter p ns
dropped p n ns e = ap (λ b. cond b (n ∷ filter p ns) (filter p ns)) e

is_other : (m n : ℕ) → n ≢ m → is_not (Some m) n ≡ true
is_other m n ne = ap not (false_ne n m ne)

is_same : (m n : ℕ) → n ≡ m → is_not (Some m) n ≡ false
is_same m n e = ap not (true_eq n m e)

-- all numbers of the list are from k on
all_pass : (m k : ℕ) (xs : List Bool) → m < k → filter (is_not (Some m)) (numbers_from k xs) ≡ numbers_from k xs
all_pass m k [] low = refl
all_pass m k (true ∷ xs) low = kept (is_not (Some m)) k (numbers_from (k + 1) xs) (is_other m k (λ e. omega (arith, low, e)))
    ∙ ap (λ ns. k ∷ ns) (all_pass m (k + 1) xs (omega (arith, low)))
all_pass m k (false ∷ xs) low = all_pass m (k + 1) xs (omega (arith, low))

-- all but one
one_less : (k j m : ℕ) (xs : List Bool) → m ≡ k + j → slice_get xs j ≡ Some true
    → length (numbers_from k xs) ≡ suc (length (filter (is_not (Some m)) (numbers_from k xs)))
one_less k j m [] e at = absurd (none_some at)
one_less k zero m (true ∷ xs) e at = ap (λ ns. suc (length ns))
    (sym (dropped (is_not (Some m)) k (numbers_from (k + 1) xs) (is_same m k (omega (arith, e)))
    ∙ all_pass m (k + 1) xs (omega (arith, e))))
one_less k (suc j) m (true ∷ xs) e at = ap suc (one_less (k + 1) j m xs (omega (arith, e)) at)
    ∙ ap (λ ns. suc (length ns)) (sym (kept (is_not (Some m)) k (numbers_from (k + 1) xs)
    (is_other m k (λ f. omega (arith, e, f)))))
one_less k zero m (false ∷ xs) e at = absurd (false_true (same_some at))
one_less k (suc j) m (false ∷ xs) e at = one_less (k + 1) j m xs (omega (arith, e)) at

chosen_none : {R : Type 0} (v : CpusView R) (ns : List ℕ) → fewest ns v ≡ None → length ns ≡ 0
chosen_none v [] e = refl
chosen_none v (n ∷ ns) e = absurd (none_some (sym e))

chosen_some : {R : Type 0} (v : CpusView R) (ns : List ℕ) (d : ℕ) → fewest ns v ≡ Some d → 0 < length ns
chosen_some v [] d e = absurd (none_some e)
chosen_some v (n ∷ ns) d e = omega arith

module _ {R : Type 0} (s : SystemView R) (source : ℕ) (on : is_online source s.cpus ≡ true) where
  others : length (online_cpus s.cpus) ≡ suc (length (filter (is_not (Some source)) (online_cpus s.cpus)))
  others = one_less 0 source source s.cpus.online (omega arith) (online_at s.cpus source on)

  pub last_refused : destination (Some source) s.cpus ≡ None → last_cpu s ≡ Some LastCpu
  last_refused e = let n = others in let z = chosen_none s.cpus (filter (is_not (Some source)) (online_cpus s.cpus)) e in
      is_when (nat_le (length (online_cpus s.cpus)) 1) LastCpu (le_true (length (online_cpus s.cpus)) 1 (omega (arith, n, z)))

  pub last_clear : (d : ℕ) → destination (Some source) s.cpus ≡ Some d → last_cpu s ≡ None
  last_clear d e = let n = others in let z = chosen_some s.cpus (filter (is_not (Some source)) (online_cpus s.cpus)) d e in
      not_when (nat_le (length (online_cpus s.cpus)) 1) LastCpu (not_le (length (online_cpus s.cpus)) 1 (omega (arith, n, z)))

  module _ (low : source < length s.cpus.cpus) where
    pub is_last : destination (Some source) s.cpus ≡ None → first_refusal (juggle_refusals source s) ≡ Some LastCpu
    is_last e = passes _ (offline_cpu source s ∷ last_cpu s ∷ busy (removal_on source s.cpus) ∷ []) (Some LastCpu)
        (cpu_clear s source low)
        (passes _ (last_cpu s ∷ busy (removal_on source s.cpus) ∷ []) (Some LastCpu) (online_clear s source on)
        (stops _ (busy (removal_on source s.cpus) ∷ []) LastCpu (last_refused e)))

    pub is_busy : (d removed : ℕ) → destination (Some source) s.cpus ≡ Some d → removal_on source s.cpus ≡ Some removed
        → first_refusal (juggle_refusals source s) ≡ Some (Busy removed)
    is_busy d removed e at = passes _ (offline_cpu source s ∷ last_cpu s ∷ busy (removal_on source s.cpus) ∷ [])
        (Some (Busy removed)) (cpu_clear s source low)
        (passes _ (last_cpu s ∷ busy (removal_on source s.cpus) ∷ []) (Some (Busy removed)) (online_clear s source on)
        (passes _ (busy (removal_on source s.cpus) ∷ []) (Some (Busy removed)) (last_clear d e)
        (stops _ [] (Busy removed) (ap busy at))))

    pub is_clear : (d : ℕ) → destination (Some source) s.cpus ≡ Some d → removal_on source s.cpus ≡ None
        → first_refusal (juggle_refusals source s) ≡ None
    is_clear d e at = passes _ (offline_cpu source s ∷ last_cpu s ∷ busy (removal_on source s.cpus) ∷ []) None
        (cpu_clear s source low)
        (passes _ (last_cpu s ∷ busy (removal_on source s.cpus) ∷ []) None (online_clear s source on)
        (passes _ (busy (removal_on source s.cpus) ∷ []) None (last_clear d e) (passes _ [] None (ap busy at) refl)))

-- a destination that is there
pub is_there : (o : Option ℕ) → is_some o ≡ true → (d : ℕ) × (o ≡ Some d)
is_there None e = absurd (false_true e)
is_there (Some d) e = (d, refl)

pub is_absent : (o : Option ℕ) → is_some o ≡ false → o ≡ None
is_absent None e = refl
is_absent (Some d) e = absurd (false_true (sym e))

-- where the same CPUs are online there is a destination too
still_chosen : {R : Type 0} (v w : CpusView R) (ns : List ℕ) (d : ℕ) → fewest ns v ≡ Some d → (e : ℕ) × (fewest ns w ≡ Some e)
still_chosen v w [] d is = absurd (none_some is)
still_chosen v w (n ∷ ns) d is = (fewer n (fewest ns w) w, refl)

pub other_too : {R : Type 0} (v w : CpusView R) (source d : ℕ) → w.online ≡ v.online → destination (Some source) v ≡ Some d
    → (e : ℕ) × (destination (Some source) w ≡ Some e)
other_too v w source d same is =
    let (e, chosen) = still_chosen v w (filter (is_not (Some source)) (numbers_from 0 v.online)) d is in
    (e, ap (λ online. fewest (filter (is_not (Some source)) (numbers_from 0 online)) w) same ∙ chosen)
