-- Why a call is refused, in the words of a script: its first reasons.
use Rattle.std.proofs.Common.{◌≡◌, ◌∙◌, ℕ, zero, suc, ◌≤◌, ◌⊎◌, inl, inr, Bool, true, false, not, Option, Some, None, List, []}
use Rattle.std.proofs.Common.{◌∷◌, length, get_or, refl, sym, ap, subst, arith}
use Rattle.std.specs.Prelude.{nat_lt, nat_le, ◌||◌}
use Rattle.std.specs.List.{slice_get}
use Rattle.std.specs.Option.{option_map_or}
use Rattle.std.proofs.lemmas.Bool.{or_left, or_right}
use Rattle.std.proofs.lemmas.Bool.Decides.{nat_tests}
use Rattle.std.proofs.lemmas.List.{get_or_past}
use Rattle.cyc_types.specs.declared.Raise.{Ghosts as Raise}
use Rattle.cyc_types.specs.declared.refusal.Refusal.{Refusal}
use Rattle.cyc_types.specs.declared.refusal.Refusal.TheVariants as why
use Rattle.cyc_types.specs.Reasons.{first_refusal, when, busy, bad_now}
use Rattle.cyc_agreement.specs.Cpus.{numbers_from, online_cpus}
use Rattle.cyc_system.specs.Juggling.{last_cpu, juggle_refusals}
use Rattle.cyc_system_laws.proofs.Settles.{first_of}
use Rattle.cyc_thread_calls.specs.CpuLawsSettled.{IsUntil}
use Rattle.cyc_thread_calls.proofs.FirstReason.{not_when, not_never}
use Rattle.cyc_thread_calls.proofs.Spots.{none_some, same_some}
use Rattle.cyc_thread_calls.specs.System.{SystemView, is_unknown, is_omnipresent, removal_on, is_online as is_up}
use Rattle.cyc_thread_calls.specs.System.{is_leaving as is_leaving_id}
use Rattle.cyc_thread_calls.specs.Refusals.{no_cyclic, omnipresent, no_cpu, offline_cpu}
use Rattle.cyc_thread_calls.specs.Online.{online_cpu}
use Rattle.cyc_thread_calls.specs.Progress.{Progress}
use Rattle.cyc_thread_calls.proofs.Keeping.{AllStill}
use Rattle.cyc_thread_calls.proofs.Moving.{none_leaving}
use Rattle.cyc_thread_reasons.specs.Known.{Whereabouts, Absent, OnOne, OnAll, Known, is_known_up}
use Rattle.cyc_thread_reasons.specs.Reasons.{is_there, is_single, has_components, many_online, can_not_leave}
use Rattle.cyc_thread_reasons.proofs.Whereabouts.{stands, unknown_stands, omni_stands}
use Rattle.cyc_thread_reasons.proofs.Fitting.{Fits}

pub when_so : (b : Bool) (x e : Refusal) → when b x ≡ Some e → b ≡ true
when_so true x e h = refl
when_so false x e h = absurd (none_some h)

pub read_up : (xs : List Bool) (n : ℕ) → option_map_or (λ (b : Bool). b) (slice_get xs n) false ≡ get_or xs n false
read_up [] zero = refl
read_up [] (suc n) = refl
read_up (x ∷ xs) zero = refl
read_up (x ∷ xs) (suc n) = read_up xs n

pub not_single : (st : Whereabouts) → has_components st ≡ true → not (is_single st) ≡ true
not_single Absent e = absurd (let odd : false ≡ true = e in cc)
not_single (OnOne bound) e = absurd (let odd : false ≡ true = e in cc)
not_single OnAll e = refl

few_online : (a b : ℕ) → a ≡ b → nat_le a 1 ≡ true → nat_lt b 2 ≡ true
few_online a b e h = grind (arith, nat_tests, e, h)

le_so : (a b : ℕ) → nat_le a b ≡ true → a ≤ b
le_so a b e = grind (arith, nat_tests, e)

module _ {C R : Type 0} (firing : Raise R) (names given : ℕ) (told : Known) (p : Progress R C)
    (h : Fits firing names given told p) where
  abbrev s : SystemView R
  s = p.side.system

  -- ---- CPUs

  pub up : (n : ℕ) → is_up n p.side.system.cpus ≡ is_known_up n told
  up n = ap (λ os. option_map_or (λ (b : Bool). b) (slice_get os n) false) h.online ∙ read_up told.online n

  pub ups_long : length told.online ≡ length p.side.system.cpus.cpus
  ups_long = sym (ap length h.online) ∙ h.ups

  pub past : (n : ℕ) → length p.side.system.cpus.cpus ≤ n → is_known_up n told ≡ false
  past n high = get_or_past told.online n false (let e = ups_long in omega (arith, high, e))

  pub many : length (online_cpus p.side.system.cpus) ≡ many_online told
  many = ap (λ os. length (numbers_from 0 os)) h.online

  no_cpu_told : (n : ℕ) (e : Refusal) → no_cpu n p.side.system ≡ Some e → not (is_known_up n told) ≡ true
  no_cpu_told n e is = ap not (past n (le_so (length p.side.system.cpus.cpus) n
      (when_so (nat_le (length p.side.system.cpus.cpus) n) why.NoCpu e is)))

  offline_told : (n : ℕ) (e : Refusal) → offline_cpu n p.side.system ≡ Some e → not (is_known_up n told) ≡ true
  offline_told n e is = ap not (sym (up n)) ∙ when_so (not (is_up n p.side.system.cpus)) why.Offline e is

  -- why cyclics can't leave a CPU
  pub juggle_told : (n : ℕ) (e : Refusal) → first_refusal (juggle_refusals n p.side.system) ≡ Some e → (IsUntil e → ⊥)
      → can_not_leave n told ≡ true
  juggle_told n e is not_until = one (first_of (no_cpu n s) (offline_cpu n s ∷ last_cpu s ∷ busy (removal_on n s.cpus) ∷ []) e is)
    where
      leaves : not (is_known_up n told) ≡ true → can_not_leave n told ≡ true
      leaves off = or_left (not (is_known_up n told)) (nat_lt (many_online told) 2) off

      busy_until : (r : Option ℕ) → busy r ≡ Some e → ⊥
      busy_until None q = none_some q
      busy_until (Some r) q = not_until (subst IsUntil (same_some q) tt)

      four : (busy (removal_on n s.cpus) ≡ Some e) ⊎ (first_refusal [] ≡ Some e) → can_not_leave n told ≡ true
      four (inl own) = absurd (busy_until (removal_on n s.cpus) own)
      four (inr others) = absurd (none_some others)

      three : (last_cpu s ≡ Some e) ⊎ (first_refusal (busy (removal_on n s.cpus) ∷ []) ≡ Some e) → can_not_leave n told ≡ true
      three (inl own) = or_right (not (is_known_up n told)) (nat_lt (many_online told) 2)
          (few_online (length (online_cpus s.cpus)) (many_online told) many
          (when_so (nat_le (length (online_cpus s.cpus)) 1) why.LastCpu e own))
      three (inr others) = four (first_of (busy (removal_on n s.cpus)) [] e others)

      two : (offline_cpu n s ≡ Some e) ⊎ (first_refusal (last_cpu s ∷ busy (removal_on n s.cpus) ∷ []) ≡ Some e)
          → can_not_leave n told ≡ true
      two (inl own) = leaves (offline_told n e own)
      two (inr others) = three (first_of (last_cpu s) (busy (removal_on n s.cpus) ∷ []) e others)

      one : (no_cpu n s ≡ Some e) ⊎ (first_refusal (offline_cpu n s ∷ last_cpu s ∷ busy (removal_on n s.cpus) ∷ []) ≡ Some e)
          → can_not_leave n told ≡ true
      one (inl own) = leaves (no_cpu_told n e own)
      one (inr others) = two (first_of (offline_cpu n s) (last_cpu s ∷ busy (removal_on n s.cpus) ∷ []) e others)

  never_bad : (e : Refusal) → bad_now p.clock ≡ Some e → ⊥
  never_bad e is = none_some (sym (not_never p.clock (let low = h.early in omega (arith, low))
      (λ same. let low = h.early in omega (arith, low, same))) ∙ is)

  abbrev Comes : ℕ → Type 0
  Comes n = (nat_le (length told.online) n || is_known_up n told) ≡ true

  -- why a CPU can't come back
  pub online_told : (n : ℕ) (e : Refusal)
      → first_refusal (no_cpu n p.side.system ∷ online_cpu n p.side.system ∷ bad_now p.clock ∷ []) ≡ Some e
      → (nat_le (length told.online) n || is_known_up n told) ≡ true
  online_told n e is = one (first_of (no_cpu n s) (online_cpu n s ∷ bad_now p.clock ∷ []) e is)
    where
      three : (bad_now p.clock ≡ Some e) ⊎ (first_refusal [] ≡ Some e) → Comes n
      three (inl own) = absurd (never_bad e own)
      three (inr others) = absurd (none_some others)

      two : (online_cpu n s ≡ Some e) ⊎ (first_refusal (bad_now p.clock ∷ []) ≡ Some e) → Comes n
      two (inl own) = or_right (nat_le (length told.online) n) (is_known_up n told)
          (sym (up n) ∙ when_so (is_up n s.cpus) why.Online e own)
      two (inr others) = three (first_of (bad_now p.clock) [] e others)

      one : (no_cpu n s ≡ Some e) ⊎ (first_refusal (online_cpu n s ∷ bad_now p.clock ∷ []) ≡ Some e) → Comes n
      one (inl own) = or_left (nat_le (length told.online) n) (is_known_up n told)
          (ap (λ k. nat_le k n) ups_long ∙ when_so (nat_le (length s.cpus.cpus) n) why.NoCpu e own)
      one (inr others) = two (first_of (online_cpu n s) (bad_now p.clock ∷ []) e others)

  -- ---- cyclics

  -- a cyclic that is there, where no removal is open
  no_cyclic_not : (id : ℕ) (e : Refusal) → is_there (stands id p.side.system) ≡ true → AllStill p.side.system.cpus
      → no_cyclic id p.side.system ≡ Some e → ⊥
  no_cyclic_not id e here still is = none_some (sym (not_when (is_unknown id p.side.system || is_leaving_id id p.side.system)
      why.NoCyclic (λ i. (unknown_stands id p.side.system ∙ ap not here) i || none_leaving p.side.system.cpus id still i)) ∙ is)

  omni_told : (id : ℕ) (e : Refusal) → omnipresent id p.side.system ≡ Some e → not (is_single (stands id p.side.system)) ≡ true
  omni_told id e is = not_single (stands id p.side.system)
      (sym (omni_stands id p.side.system) ∙ when_so (is_omnipresent id p.side.system) why.Omnipresent e is)

  -- why a cyclic is not unbound, and not reprogrammed without naming its CPU
  pub single_told : (id : ℕ) (e : Refusal) → is_there (stands id p.side.system) ≡ true → AllStill p.side.system.cpus
      → first_refusal (no_cyclic id p.side.system ∷ omnipresent id p.side.system ∷ []) ≡ Some e
      → not (is_single (stands id p.side.system)) ≡ true
  single_told id e here still is = one (first_of (no_cyclic id s) (omnipresent id s ∷ []) e is)
    where
      two : (omnipresent id s ≡ Some e) ⊎ (first_refusal [] ≡ Some e) → not (is_single (stands id s)) ≡ true
      two (inl own) = omni_told id e own
      two (inr others) = absurd (none_some others)

      one : (no_cyclic id s ≡ Some e) ⊎ (first_refusal (omnipresent id s ∷ []) ≡ Some e)
          → not (is_single (stands id s)) ≡ true
      one (inl own) = absurd (no_cyclic_not id e here still own)
      one (inr others) = two (first_of (omnipresent id s) [] e others)

  abbrev Stays : ℕ → ℕ → Type 0
  Stays id n = (not (is_single (stands id s)) || not (is_known_up n told)) ≡ true

  -- why it is not bound: it isn't on one CPU, or the CPU isn't online
  pub bind_told : (id n : ℕ) (e : Refusal) → is_there (stands id p.side.system) ≡ true → AllStill p.side.system.cpus
      → first_refusal (no_cyclic id p.side.system ∷ omnipresent id p.side.system ∷ no_cpu n p.side.system
      ∷ offline_cpu n p.side.system ∷ []) ≡ Some e
      → (not (is_single (stands id p.side.system)) || not (is_known_up n told)) ≡ true
  bind_told id n e here still is = one (first_of (no_cyclic id s) (omnipresent id s ∷ no_cpu n s ∷ offline_cpu n s ∷ []) e is)
    where
      off : not (is_known_up n told) ≡ true → Stays id n
      off is_off = or_right (not (is_single (stands id s))) (not (is_known_up n told)) is_off

      four : (offline_cpu n s ≡ Some e) ⊎ (first_refusal [] ≡ Some e) → Stays id n
      four (inl own) = off (offline_told n e own)
      four (inr others) = absurd (none_some others)

      three : (no_cpu n s ≡ Some e) ⊎ (first_refusal (offline_cpu n s ∷ []) ≡ Some e) → Stays id n
      three (inl own) = off (no_cpu_told n e own)
      three (inr others) = four (first_of (offline_cpu n s) [] e others)

      two : (omnipresent id s ≡ Some e) ⊎ (first_refusal (no_cpu n s ∷ offline_cpu n s ∷ []) ≡ Some e) → Stays id n
      two (inl own) = or_left (not (is_single (stands id s))) (not (is_known_up n told)) (omni_told id e own)
      two (inr others) = three (first_of (no_cpu n s) (offline_cpu n s ∷ []) e others)

      one : (no_cyclic id s ≡ Some e) ⊎ (first_refusal (omnipresent id s ∷ no_cpu n s ∷ offline_cpu n s ∷ []) ≡ Some e)
          → Stays id n
      one (inl own) = absurd (no_cyclic_not id e here still own)
      one (inr others) = two (first_of (omnipresent id s) (no_cpu n s ∷ offline_cpu n s ∷ []) e others)
