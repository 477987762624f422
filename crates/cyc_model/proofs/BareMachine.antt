-- A machine with other indexes takes the same steps.
use Rattle.std.proofs.Common.{◌≡◌, ℕ, ◌+◌, ◌==◌, Bool, true, false, cond, List, [], ◌∷◌, ◌++◌, map, length, Option, Some, None}
use Rattle.std.proofs.Common.{refl, ap, ◌∙◌}
use Rattle.std.specs.Prelude.{◌||◌, ◌&&◌, not, nat_lt, nat_le, int_lt, pos, filter}
use Rattle.std.specs.List.{list_any}
use Rattle.std.specs.Option.{option_map_or}
use Rattle.std.proofs.lemmas.List.{length-map}
use Rattle.std.proofs.Math.ListN.{get_or-map}
use Rattle.cyc_types.specs.declared.refusal.Refusal.TheVariants.{BadWhen, NoCyclic, NoCpu, Offline, Online as IsOnline, LastCpu}
use Rattle.cyc_types.specs.declared.refusal.Refusal.TheVariants.{Pending}
use Rattle.cyc_script.specs.declared.step.Step.{Step}
use Rattle.cyc_script.specs.declared.step.Step.TheVariants.{Add, Omni, Bind, Unbind, Reprogram, Remove, Advance, Softint, Juggle}
use Rattle.cyc_script.specs.declared.step.Step.TheVariants.{Offline as OfflineStep, Online, Suspend, Resume}
use Rattle.cyc_model.specs.Cpu.{CyclicState, Cpu, cyclic_with_id, has_cyclic}
use Rattle.cyc_model.specs.Questions.{plain, outstanding_here}
use Rattle.cyc_model.specs.State.{State, Outcome, absent, cpu_of, kept_if, cpus_from, numbers, cpus_having, cpus_online}
use Rattle.cyc_model.specs.Places.{
  id_of,
  is_being_removed,
  is_no_cyclic,
  is_omni,
  home_of,
  destination_of,
  smallest_cpu,
  smaller_cpu,
  is_other_cpu,
}
use Rattle.cyc_model.specs.Places.{cyclics_on}
use Rattle.cyc_types.specs.Reasons.{first_refusal, when, busy, bad_now}
use Rattle.cyc_model.specs.Refusals.{no_room, is_no_cpu, cpu_is_offline, is_last_online, bad_when, no_id_left}
use Rattle.cyc_model.specs.Bind.{cyclic_is_absent, cyclic_is_omni, pending, unless_there}
use Rattle.cyc_model.specs.Reprogram.{cpu_refusals}
use Rattle.cyc_model.specs.Remove.{all_cpus}
use Rattle.cyc_model.specs.Softint.{is_open}
use Rattle.cyc_model.specs.Juggle.{single_ids_of}
use Rattle.cyc_model.specs.Offline.{ids_of_cpu}
use Rattle.cyc_model.specs.Online.{staying_omni, is_on_all, no_room_for_all}
use Rattle.cyc_model.specs.Script.{refusal_of}
use Rattle.cyc_model.proofs.Bare.{bare_act, bare_cpu, outstanding_bare}

-- each index k becomes relabel k
module _ (relabel : ℕ → ℕ) where
  abbrev pub bare : State → State
  bare s = record s { cpus = map (bare_cpu relabel) s.cpus }

  abbrev pub bare_out : Outcome → Outcome
  bare_out o = record { line = o.line; acts = map (bare_act relabel) o.acts; state = bare o.state }

  -- the word on the machine without its indexes is the other word, without its indexes
  abbrev pub IsBare : (State → Outcome) → (State → Outcome) → Type 0
  IsBare f g = (s : State) → bare_out (f s) ≡ g (bare s)

  -- ---- what is read of a machine

  pub at_bare : (n : ℕ) (s : State) → cpu_of n (bare s) ≡ (bare_cpu relabel) (cpu_of n s)
  at_bare n s = get_or-map (bare_cpu relabel) s.cpus n absent

  numbers_bare_from : (test : Cpu → Bool) → ((c : Cpu) → test ((bare_cpu relabel) c) ≡ test c) → (n : ℕ) (cs : List Cpu)
      → cpus_from n test (map (bare_cpu relabel) cs) ≡ cpus_from n test cs
  numbers_bare_from test same n [] = refl
  numbers_bare_from test same n (c ∷ cs) = λ z. kept_if (same c z) n (numbers_bare_from test same (n + 1) cs z)

  pub online_bare : (s : State) → cpus_online (bare s) ≡ cpus_online s
  online_bare s = numbers_bare_from (λ c. c.online) (λ c. refl) 0 s.cpus

  pub with_bare : (id : ℕ) (s : State) → cpus_having id (bare s) ≡ cpus_having id s
  with_bare id s = numbers_bare_from (has_cyclic id) (λ c. refl) 0 s.cpus

  pub open_bare : (id : ℕ) (s : State) → numbers (is_open id) (bare s) ≡ numbers (is_open id) s
  open_bare id s = numbers_bare_from (is_open id) (λ c. refl) 0 s.cpus

  pub all_bare : (s : State) → all_cpus (bare s) ≡ all_cpus s
  all_bare s = numbers_bare_from (λ c. true) (λ c. refl) 0 s.cpus

  any_bare : (test : Cpu → Bool) → ((c : Cpu) → test ((bare_cpu relabel) c) ≡ test c) → (cs : List Cpu)
      → list_any test (map (bare_cpu relabel) cs) ≡ list_any test cs
  any_bare test same [] = refl
  any_bare test same (c ∷ cs) = λ z. same c z || any_bare test same cs z

  pub leaving_bare : (id : ℕ) (s : State) → is_being_removed id (bare s) ≡ is_being_removed id s
  leaving_bare id s = any_bare (λ c. option_map_or (λ busy. busy == id) c.removal false) (λ c. refl) s.cpus

  length_bare : (s : State) → length (bare s).cpus ≡ length s.cpus
  length_bare s = length-map s.cpus (bare_cpu relabel)

  pub cyclic_bare : (id n : ℕ) (s : State) → cyclic_with_id id (cpu_of n (bare s)) ≡ cyclic_with_id id (cpu_of n s)
  cyclic_bare id n s = ap (cyclic_with_id id) (at_bare n s)

  pub out_bare : (n id : ℕ) (s : State) → outstanding_here id (cpu_of n (bare s)) ≡ outstanding_here id (cpu_of n s)
  out_bare n id s = ap (outstanding_here id) (at_bare n s) ∙ (outstanding_bare relabel) id (cpu_of n s)

  pub room_bare : (n id more : ℕ) (s : State) → no_room plain n id more (cpu_of n (bare s)) ≡ no_room plain n id more (cpu_of n s)
  room_bare n id more s = ap (no_room plain n id more) (at_bare n s)

  len_bare : (n : ℕ) (s : State) → cyclics_on n (bare s) ≡ cyclics_on n s
  len_bare n s = ap (λ (c : Cpu). length c.cyclics) (at_bare n s)

  fewer_bare : (n : ℕ) (m : Option ℕ) (s : State) → smaller_cpu n m (bare s) ≡ smaller_cpu n m s
  fewer_bare n None s = refl
  fewer_bare n (Some m) s = λ z. cond (nat_lt (len_bare m s z) (len_bare n s z)) m n

  fewest_bare : (ns : List ℕ) (s : State) → smallest_cpu ns (bare s) ≡ smallest_cpu ns s
  fewest_bare [] s = refl
  fewest_bare (n ∷ ns) s = ap (λ m. Some (smaller_cpu n m (bare s))) (fewest_bare ns s)
      ∙ ap Some (fewer_bare n (smallest_cpu ns s) s)

  pub target_bare : (source : Option ℕ) (s : State) → destination_of source (bare s) ≡ destination_of source s
  target_bare source s =
      ap (λ ns. option_map_or (λ n. n) (smallest_cpu (filter (is_other_cpu source) ns) (bare s)) 0) (online_bare s)
      ∙ ap (λ m. option_map_or (λ n. n) m 0) (fewest_bare (filter (is_other_cpu source) (cpus_online s)) s)

  no_cyclic_bare : (id : ℕ) (s : State) → cyclic_is_absent id (bare s) ≡ cyclic_is_absent id s
  no_cyclic_bare id s = λ z. when (is_no_cyclic id s || leaving_bare id s z) NoCyclic

  no_cpu_bare : (n : ℕ) (s : State) → is_no_cpu n (bare s) ≡ is_no_cpu n s
  no_cpu_bare n s = λ z. when (nat_le (length_bare s z) n) NoCpu

  offline_bare : (n : ℕ) (s : State) → cpu_is_offline n (bare s) ≡ cpu_is_offline n s
  offline_bare n s = ap (λ (c : Cpu). when (not c.online) Offline) (at_bare n s)

  last_bare : (n : ℕ) (s : State) → is_last_online n (bare s) ≡ is_last_online n s
  last_bare n s = λ z. when (nat_le (length (online_bare s z)) 1) LastCpu

  busy_bare : (n : ℕ) (s : State) → busy (plain.removal n (cpu_of n (bare s))) ≡ busy (plain.removal n (cpu_of n s))
  busy_bare n s = ap (λ (c : Cpu). busy (plain.removal n c)) (at_bare n s)

  pending_bare : (n id : ℕ) (s : State) → pending plain n id (bare s) ≡ pending plain n id s
  pending_bare n id s = λ z. when (nat_lt 0 (out_bare n id s z)) Pending

  pub staying_bare : (s : State) → staying_omni (bare s) ≡ staying_omni s
  staying_bare s = λ z. filter (λ p. is_on_all p.placement) (filter (λ p. not (leaving_bare p.id s z)) s.placed)

  pub single_bare : (n : ℕ) (s : State) → single_ids_of n (bare s) ≡ single_ids_of n s
  single_bare n s = ap (λ (c : Cpu). filter (λ id. not (is_omni id s)) (map (λ (x : CyclicState). x.timer.id) c.cyclics))
      (at_bare n s)

  pub ids_bare : (n : ℕ) (s : State) → ids_of_cpu n (bare s) ≡ ids_of_cpu n s
  ids_bare n s = ap (λ (c : Cpu). map (λ (x : CyclicState). x.timer.id) c.cyclics) (at_bare n s)

  -- ---- refusals

  juggle_refusal_bare : (n : ℕ) (s : State) → refusal_of plain (Juggle n) (bare s) ≡ refusal_of plain (Juggle n) s
  juggle_refusal_bare n s =
      λ z. first_refusal (no_cpu_bare n s z ∷ offline_bare n s z ∷ last_bare n s z ∷ busy_bare n s z ∷ [])

  cpu_refusals_bare : (n : Option ℕ) (id : ℕ) (s : State) → cpu_refusals n id (bare s) ≡ cpu_refusals n id s
  cpu_refusals_bare None id s = refl
  cpu_refusals_bare (Some n) id s = λ z. no_cpu_bare n s z ∷ offline_bare n s z
      ∷ ap (λ (c : Cpu). when (not (is_omni id s && has_cyclic id c)) NoCyclic) (at_bare n s) z ∷ []

  add_room_bare : (id : ℕ) (s : State)
      → no_room plain (destination_of None (bare s)) id 1 (cpu_of (destination_of None (bare s)) (bare s))
      ≡ no_room plain (destination_of None s) id 1 (cpu_of (destination_of None s) s)
  add_room_bare id s =
      room_bare (destination_of None (bare s)) id 1 s ∙ ap (λ n. no_room plain n id 1 (cpu_of n s)) (target_bare None s)

  pub refusal_bare : (x : Step) (s : State) → refusal_of plain x (bare s) ≡ refusal_of plain x s
  refusal_bare (Add a) s =
      λ z. first_refusal (bad_when a.start a.interval ++ bad_now s.clock ∷ no_id_left s ∷ add_room_bare (s.last_id + 1) s z ∷ [])
  refusal_bare (Omni a) s = λ z. first_refusal (bad_when a.start a.interval ++ bad_now s.clock ∷ no_id_left s
      ∷ map (λ n. room_bare n (s.last_id + 1) 1 s z) (online_bare s z))
  refusal_bare (Bind b) s = let id = id_of b.name s in λ z. first_refusal (no_cyclic_bare id s z ∷ cyclic_is_omni id s
      ∷ no_cpu_bare b.cpu s z ∷ offline_bare b.cpu s z ∷ unless_there (home_of id s == b.cpu)
      (busy_bare (home_of id s) s z ∷ pending_bare (home_of id s) id s z ∷ room_bare b.cpu id 1 s z ∷ []))
  refusal_bare (Unbind name) s = λ z. first_refusal (no_cyclic_bare (id_of name s) s z ∷ cyclic_is_omni (id_of name s) s ∷ [])
  refusal_bare (Reprogram r) s = λ z. first_refusal (when (int_lt r.moment (pos 0)) BadWhen ∷ no_cyclic_bare (id_of r.name s) s z
      ∷ cpu_refusals_bare r.cpu (id_of r.name s) s z)
  refusal_bare (Remove name) s = λ z. first_refusal (when (is_no_cyclic (id_of name s) s) NoCyclic
      ∷ map (λ n. busy_bare n s z) (with_bare (id_of name s) s z))
  refusal_bare (Advance now) s = refl
  refusal_bare (Softint i) s = no_cpu_bare i.cpu s
  refusal_bare (Juggle n) s = juggle_refusal_bare n s
  refusal_bare (OfflineStep n) s = juggle_refusal_bare n s
  refusal_bare (Online n) s = λ z. first_refusal (no_cpu_bare n s z ∷ ap (λ (c : Cpu). when c.online IsOnline) (at_bare n s) z
      ∷ bad_now s.clock ∷ no_room_for_all plain n (length (staying_bare s z)) (at_bare n s z) ∷ [])
  refusal_bare Suspend s = refl
  refusal_bare Resume s = refl
