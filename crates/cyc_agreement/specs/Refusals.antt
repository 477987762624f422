-- Why a system refuses a call: the first reason that holds, in the order in which the call names them.
use Rattle.std.specs.Prelude.{◌≡◌, ℕ, false, ◌||◌, ◌&&◌, nat_le, not, List, length, ◌⊎◌, Option, Some, None}
use Rattle.cyc_types.specs.Limits.{last_id as greatest_id}
use Rattle.cyc_types.specs.declared.refusal.Refusal.{Refusal}
use Rattle.cyc_types.specs.declared.refusal.Refusal.TheVariants.{NoCyclic, Omnipresent, NoCpu, Offline, IdsSpent}
use Rattle.cyc_types.specs.Reasons.{first_refusal, when}
use Rattle.cyc_places.specs.declared.record.Record.{Record}
use Rattle.cyc_places.specs.Places.{IsRecord}
use Rattle.cyc_agreement.specs.System.{SystemView, record_of, has, is_online, is_unknown, is_leaving, is_omnipresent}

-- no id is left
abbrev pub ids_spent : {R : Type 0} → SystemView R → Option Refusal
ids_spent s = when (nat_le greatest_id s.last) IdsSpent

-- there is no such cyclic, or its removal is open
abbrev pub no_cyclic : {R : Type 0} → ℕ → SystemView R → Option Refusal
no_cyclic id s = when (is_unknown id s || is_leaving id s) NoCyclic

-- the cyclic has this record, and its removal is not open
pub record IsPresent {R : Type 0} (id k : ℕ) (r : Record) (s : SystemView R) : Type 0 where
  pub here : IsRecord s.records k r
  pub named : r.id ≡ id
  pub known : record_of id s ≡ Some r
  pub still : is_leaving id s ≡ false

abbrev pub omnipresent : {R : Type 0} → ℕ → SystemView R → Option Refusal
omnipresent id s = when (is_omnipresent id s) Omnipresent

abbrev pub no_cpu : {R : Type 0} → ℕ → SystemView R → Option Refusal
no_cpu n s = when (nat_le (length s.cpus.cpus) n) NoCpu

abbrev pub offline_cpu : {R : Type 0} → ℕ → SystemView R → Option Refusal
offline_cpu n s = when (not (is_online n s.cpus)) Offline

-- only an omnipresent cyclic has components
abbrev pub no_component : {R : Type 0} → ℕ → ℕ → SystemView R → Option Refusal
no_component id n s = when (not (is_omnipresent id s && has n id s.cpus)) NoCyclic

-- A call is refused for the first of these reasons, and does nothing; or none of them holds, and it goes on. `answer` is its
-- answer to a refusal.
abbrev pub Unless : {S A : Type 0} → List (Option Refusal) → (Refusal → A) → A → S → S → Type 0 → Type 0
Unless whys refused answer s t GoesOn = ((e : Refusal) × (first_refusal whys ≡ Some e) × (answer ≡ refused e) × (t ≡ s))
    ⊎ ((first_refusal whys ≡ None) × GoesOn)
