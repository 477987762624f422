-- Which name has which id, over the calls of a run.
use Rattle.std.proofs.Common.{◌≡◌, ◌==◌, ◌∙◌, ℕ, ◌⊎◌, inl, inr, List, Some, Ok}
use Rattle.std.proofs.Common.{slice_set, sym, ap}
use Rattle.cyc_threads.proofs.Spots.{same_some, none_some}
use Rattle.cyc_script.specs.declared.step.Step.{Step}
use Rattle.cyc_script.specs.declared.step.Step.TheVariants as steps
use Rattle.cyc_threads.specs.SystemRemoval.TheVariants.{Done, Kept}
use Rattle.cyc_threads.specs.Calls.{SystemCall, Add, AddOmni, BeginRemove, PollRemove}
use Rattle.cyc_words.specs.declared.named.Named.{Named}
use Rattle.cyc_words.specs.declared.named.Named.TheVariants.{Nothing, Cyclic, Leaving, Removed}
use Rattle.cyc_words.specs.Names.{named_at, cyclic_id, news, noted}
use Rattle.cyc_words.proofs.Within.{IsCallOf}
use Rattle.cyc_thread_calls.proofs.Called.{LeavesNames}
use Rattle.cyc_thread_calls.proofs.Polled.{set_at}

-- the ids that a call is about
abbrev pub IsFor : ℕ → SystemCall → Type 0
IsFor d (Add level when now (Ok id)) = id ≡ d
IsFor d (AddOmni level when skew now (Ok id)) = id ≡ d
IsFor d (BeginRemove id answer) = id ≡ d
IsFor d (PollRemove id answer) = id ≡ d
IsFor d call = ⊥

-- a word that adds no cyclic and removes none is about none
pub for_none : (x : Step) (call : SystemCall) → LeavesNames x → IsCallOf x call → (d : ℕ) → IsFor d call → ⊥
for_none (steps.Add a) call plain is d own = plain
for_none (steps.Omni a) call plain is d own = plain
for_none (steps.Remove name) call plain is d own = plain
for_none x (Add level when now answer) plain is d own = is
for_none x (AddOmni level when skew now answer) plain is d own = is
for_none x (BeginRemove id answer) plain is d own = is
for_none x (PollRemove id answer) plain is d own = is
for_none x call plain is d own = own

module _ (i k : ℕ) where
  -- the id is that of the name: no other name has it, and the name has no other
  abbrev pub Owns : List Named → Type 0
  Owns names = (j d : ℕ) → cyclic_id (named_at names j) ≡ Some d → (d == i) ≡ (j == k)

  owns_set : (names : List Named) (j : ℕ) (x : Named) → Owns names → ((d : ℕ) → cyclic_id x ≡ Some d → (d == i) ≡ (j == k))
      → Owns (slice_set names j x)
  owns_set names j x owns fits m d is = by (set_at names j m x)
    where
      by : (named_at (slice_set names j x) m ≡ named_at names m) ⊎ ((m ≡ j) × (named_at (slice_set names j x) m ≡ x))
          → (d == i) ≡ (m == k)
      by (inl e) = owns m d (sym (ap cyclic_id e) ∙ is)
      by (inr (same, e)) = fits d (sym (ap cyclic_id e) ∙ is) ∙ sym (ap (λ (q : ℕ). q == k) same)

  pub owns_noted : (j : ℕ) (call : SystemCall) (names : List Named) → Owns names
      → ((d : ℕ) → IsFor d call → (d == i) ≡ (j == k)) → Owns (noted j (news call) names)
  owns_noted j (Add level when now (Ok id)) names owns fits =
      owns_set names j (Cyclic id) owns (λ d e. fits d (same_some e))
  owns_noted j (AddOmni level when skew now (Ok id)) names owns fits =
      owns_set names j (Cyclic id) owns (λ d e. fits d (same_some e))
  owns_noted j (BeginRemove id (Ok (Kept calls))) names owns fits =
      owns_set names j (Leaving id) owns (λ d e. fits d (same_some e))
  owns_noted j (BeginRemove id (Ok (Done receipt))) names owns fits =
      owns_set names j (Removed receipt) owns (λ d e. absurd (none_some e))
  owns_noted j (PollRemove id (Ok (Some receipt))) names owns fits =
      owns_set names j (Removed receipt) owns (λ d e. absurd (none_some e))
  owns_noted j call names owns fits = owns

  -- where no name has an id, as before the first step
  pub owns_none : (names : List Named) → ((j : ℕ) → named_at names j ≡ Nothing) → Owns names
  owns_none names none j d is = absurd (none_some (sym (ap cyclic_id (none j)) ∙ is))
