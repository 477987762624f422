-- Where a new or a moving cyclic goes.
use Rattle.std.proofs.Common.{◌≡◌, ℕ, zero, suc, ◌+◌, Bool, true, false, cond, List, [], ◌∷◌, length, filter, get_or, Option}
use Rattle.std.proofs.Common.{Some, None, refl, ap, ◌∙◌, arith}
use Rattle.std.specs.Prelude.{nat_lt, slice_index_or}
use Rattle.std.specs.List.{slice_get}
use Rattle.std.specs.Option.{option_map_or}
use Rattle.std.proofs.lemmas.List.{length-map}
use Rattle.cyc_core.specs.Tables.{Tables}
use Rattle.cyc_cpu.specs.Cpu.{CpuView}
use Rattle.cyc_system.specs.Cpus.{CpusView, numbers_from as online_from, online_cpus as online_in}
use Rattle.cyc_system.specs.Destination.{destination as destination_in, fewest as fewest_in, fewer as fewer_in, len_of as len_in}
use Rattle.cyc_system.specs.Destination.{is_not as is_not_in}
use Rattle.cyc_model.specs.Cpu.{Cpu}
use Rattle.cyc_model.specs.State.{State, absent, cpus_from, cpus_online}
use Rattle.cyc_model.specs.Places.{destination_of, smallest_cpu, smaller_cpu, cyclics_on, is_other_cpu}
use Rattle.cyc_system_model.specs.ShownCpu.{shown_cyclic}
use Rattle.cyc_system_model.specs.Shown.{shown_list, shown_cpus}

-- ---- the online CPUs

pub same_numbers : (n : ℕ) (os : List Bool) (vs : List (CpuView Tables)) → length os ≡ length vs
    → cpus_from n (λ (c : Cpu). c.online) (shown_list os vs) ≡ online_from n os
same_numbers n [] vs long = refl
same_numbers n (o ∷ os) [] long = absurd (omega (arith, long))
same_numbers n (true ∷ os) (v ∷ vs) long = ap (λ ns. n ∷ ns) (same_numbers (n + 1) os vs (omega (arith, long)))
same_numbers n (false ∷ os) (v ∷ vs) long = same_numbers (n + 1) os vs (omega (arith, long))

-- ---- how many cyclics each has

len_at : (os : List Bool) (vs : List (CpuView Tables)) (n : ℕ) → length os ≡ length vs
    → length (get_or (shown_list os vs) n absent).cyclics
    ≡ option_map_or (λ (cpu : CpuView Tables). length cpu.cyclics) (slice_get vs n) 0
len_at [] [] zero long = refl
len_at [] [] (suc n) long = refl
len_at [] (v ∷ vs) n long = absurd (omega (arith, long))
len_at (o ∷ os) [] n long = absurd (omega (arith, long))
len_at (o ∷ os) (v ∷ vs) zero long = length-map v.cyclics shown_cyclic
len_at (o ∷ os) (v ∷ vs) (suc n) long = len_at os vs n (omega (arith, long))

fewest_shown : (ns : List ℕ) (s : State) (v : CpusView Tables) → ((n : ℕ) → cyclics_on n s ≡ len_in n v)
    → smallest_cpu ns s ≡ fewest_in ns v
fewest_shown [] s v same = refl
fewest_shown (n ∷ ns) s v same = ap Some (ap (λ o. smaller_cpu n o s) (fewest_shown ns s v same) ∙ fewer_shown (fewest_in ns v))
  where
    fewer_shown : (o : Option ℕ) → smaller_cpu n o s ≡ fewer_in n o v
    fewer_shown None = refl
    fewer_shown (Some m) = λ z. cond (nat_lt (same m z) (same n z)) m n

same_not : (source : Option ℕ) (ns : List ℕ) → filter (is_other_cpu source) ns ≡ filter (is_not_in source) ns
same_not None ns = refl
same_not (Some m) ns = refl

-- the definition chooses the same
pub destination_shown : (source : Option ℕ) (s : State) (v : CpusView Tables) → s.cpus ≡ shown_cpus v
    → length v.online ≡ length v.cpus
    → destination_of source s ≡ option_map_or (λ n. n) (destination_in source v) 0
destination_shown source s v cpus long =
    let online : cpus_online s ≡ online_in v = ap (cpus_from 0 (λ (c : Cpu). c.online)) cpus
    ∙ same_numbers 0 v.online v.cpus long in
    let len : (n : ℕ) → cyclics_on n s ≡ len_in n v = λ n. ap (λ cs. length (slice_index_or cs n absent).cyclics) cpus
    ∙ len_at v.online v.cpus n long in
    ap (λ o. option_map_or (λ n. n) o 0)
    (ap (λ ns. smallest_cpu (filter (is_other_cpu source) ns) s) online
    ∙ ap (λ ns. smallest_cpu ns s) (same_not source (online_in v))
    ∙ fewest_shown (filter (is_not_in source) (online_in v)) s v len)
