-- What is known where a call isn't refused.
use Rattle.std.proofs.Common.{◌≡◌, ℕ, ◌+◌, ◌<◌, ◌||◌, Bool, true, false, List, [], ◌∷◌, length, Option, Some, None, refl, ap}
use Rattle.std.proofs.Common.{arith}
use Rattle.std.specs.Prelude.{not, nat_lt, nat_le, IsSome, is_some}
use Rattle.std.proofs.lemmas.Bool.{ltb-false, leb-false}
use Rattle.cyc_types.specs.Limits.{cyclics as most_cyclics, last_id as greatest_id}
use Rattle.cyc_types.specs.Series.{never}
use Rattle.cyc_types.specs.declared.refusal.Refusal.{Refusal}
use Rattle.cyc_types.specs.declared.refusal.Refusal.TheVariants.{Full, Expanding, IdsSpent, BadNow, NoCpu, Offline, NoCyclic}
use Rattle.cyc_types.specs.declared.refusal.Refusal.TheVariants.{Omnipresent, Suspended}
use Rattle.cyc_script.specs.declared.step.Step.{Step}
use Rattle.cyc_script.specs.WellFormed.{moment_after}
use Rattle.cyc_model.specs.Cpu.{Cpu}
use Rattle.cyc_model.specs.Moving.{must_grow}
use Rattle.cyc_model.specs.Questions.{plain, soft_has_followed}
use Rattle.cyc_model.specs.State.{State, Placement, On, OnAll, cpu_of}
use Rattle.cyc_model.specs.Places.{placement_of, is_no_cyclic, is_being_removed, is_omni, is_placed_everywhere}
use Rattle.cyc_types.specs.Reasons.{when, first_refusal, busy, only_if, bad_now}
use Rattle.cyc_model.specs.Refusals.{no_room, is_no_cpu, cpu_is_offline, no_id_left, after_refusal}
use Rattle.cyc_model.specs.Bind.{cyclic_is_absent, cyclic_is_omni}
use Rattle.cyc_model.specs.Advance.{advance_refusal}
use Rattle.cyc_model.proofs.Moves.{CanGrow}

-- none of several reasons holds
pub none_first : (why : Option Refusal) (whys : List (Option Refusal)) → first_refusal (why ∷ whys) ≡ None
    → (why ≡ None) × (first_refusal whys ≡ None)
none_first None whys h = (refl, h)
none_first (Some why) whys h = absurd (cc)

pub not_when : (b : Bool) (why : Refusal) → when b why ≡ None → b ≡ false
not_when true why h = absurd (cc)
not_when false why h = refl

pub not_busy : (r : Option ℕ) → busy r ≡ None → r ≡ None
not_busy None h = refl
not_busy (Some id) h = absurd (cc)

pub only_none : (b : Bool) (why : Option Refusal) → only_if b why ≡ None → b ≡ true → why ≡ None
only_none true why h is = h
only_none false why h is = absurd (cc)

pub not_not : (b : Bool) → not b ≡ false → b ≡ true
not_not true h = refl
not_not false h = absurd (cc)

pub neither : (a b : Bool) → (a || b) ≡ false → (a ≡ false) × (b ≡ false)
neither true b e = absurd (cc)
neither false b e = (refl, e)

-- there is room
pub room_grows : (n id more : ℕ) (c : Cpu) → no_room plain n id more c ≡ None → CanGrow more c
room_grows n id more c h grow =
    let full = none_first (when (nat_lt most_cyclics (length c.cyclics + more)) Full) (only_if (must_grow more c) (busy c.removal)
    ∷ only_if (must_grow more c) (when (not (soft_has_followed c)) Expanding) ∷ []) h in
    let open_ = none_first (only_if (must_grow more c) (busy c.removal))
    (only_if (must_grow more c) (when (not (soft_has_followed c)) Expanding) ∷ []) full.1 in
    let behind = none_first (only_if (must_grow more c) (when (not (soft_has_followed c)) Expanding)) [] open_.1 in (
      not_not (soft_has_followed c) (not_when (not (soft_has_followed c)) Expanding
          (only_none (must_grow more c) (when (not (soft_has_followed c)) Expanding) behind.0 grow)),
      ltb-false most_cyclics (length c.cyclics + more) (not_when (nat_lt most_cyclics (length c.cyclics + more)) Full full.0),
    )

pub few_ids : (s : State) → no_id_left s ≡ None → s.last_id < greatest_id
few_ids s h = leb-false greatest_id s.last_id (not_when (nat_le greatest_id s.last_id) IdsSpent h)

pub before_never : (now : ℕ) → bad_now now ≡ None → now < never
before_never now h = leb-false never now (not_when (nat_le never now) BadNow h)

-- an advance is accepted before never, where the system isn't suspended
pub fires_before : (now : ℕ) (s : State) → advance_refusal now s ≡ None → now < never
fires_before now s h =
    let later = none_first (when s.suspended Suspended) (bad_now now ∷ []) h in
    before_never now (none_first (bad_now now) [] later.1).0

pub not_suspended : (now : ℕ) (s : State) → advance_refusal now s ≡ None → s.suspended ≡ false
not_suspended now s h = not_when s.suspended Suspended (none_first (when s.suspended Suspended) (bad_now now ∷ []) h).0

-- a refused step that sets no clock changes nothing
pub same_refused : (x : Step) (s : State) → moment_after s.clock x ≡ s.clock → after_refusal x s ≡ s
same_refused x s same = ap (λ clock. record s { clock = clock }) same

pub is_cpu : (n : ℕ) (s : State) → is_no_cpu n s ≡ None → n < length s.cpus
is_cpu n s h = leb-false (length s.cpus) n (not_when (nat_le (length s.cpus) n) NoCpu h)

pub is_online : (n : ℕ) (s : State) → cpu_is_offline n s ≡ None → (cpu_of n s).online ≡ true
is_online n s h = not_not (cpu_of n s).online (not_when (not (cpu_of n s).online) Offline h)

pub nothing_pending : (k : ℕ) (why : Refusal) → when (nat_lt 0 k) why ≡ None → k ≡ 0
nothing_pending k why h = let le = ltb-false 0 k (not_when (nat_lt 0 k) why h) in omega (arith, le)

-- a cyclic that is known, and whose removal isn't open
pub is_cyclic : (id : ℕ) (s : State) → cyclic_is_absent id s ≡ None → IsSome (placement_of id s) × (is_being_removed id s ≡ false)
is_cyclic id s h =
    let q = neither (is_no_cyclic id s) (is_being_removed id s) (not_when (is_no_cyclic id s || is_being_removed id s) NoCyclic
    h) in
    (not_not (is_some (placement_of id s)) q.0, q.1)

-- and that is on one CPU
pub is_single : (o : Option Placement) → IsSome o → is_placed_everywhere o ≡ false → (n : ℕ) × (bound : Bool)
    × (o ≡ Some (On n bound))
is_single None some not_all = absurd (cc)
is_single (Some (On n bound)) some not_all = (n, bound, refl)
is_single (Some (OnAll e)) some not_all = absurd (cc)

pub not_omnipresent : (id : ℕ) (s : State) → cyclic_is_omni id s ≡ None → is_placed_everywhere (placement_of id s) ≡ false
not_omnipresent id s h = not_when (is_omni id s) Omnipresent h
