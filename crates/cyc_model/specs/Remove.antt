-- remove: the end of a cyclic, which answers once no call of it is outstanding on any CPU (cyclic_remove).
use Rattle.std.specs.Prelude.{ℕ, ◌-◌, ◌==◌, Bool, true, false, List, [], ◌∷◌, map, sum_by, Option}
use Rattle.cyc_types.specs.declared.refusal.Refusal.{Refusal}
use Rattle.cyc_types.specs.declared.refusal.Refusal.TheVariants.{NoCyclic}
use Rattle.cyc_text.specs.Lines.{kept, removed}
use Rattle.cyc_model.specs.Cpu.{cyclic_with_id}
use Rattle.cyc_model.specs.Moving.{mark_here, clear_here}
use Rattle.cyc_model.specs.Questions.{Questions}
use Rattle.cyc_model.specs.State.{State, Outcome, cpus_from, cpu_of, on_number, nothing, told, followed_by, each, cpus_having}
use Rattle.cyc_model.specs.Places.{id_of, is_no_cyclic, keep_counts, forgotten}
use Rattle.cyc_types.specs.Reasons.{first_refusal, when, busy}

-- a removal that is open on one of these CPUs, in their order
abbrev pub busy_on_any : Questions → List ℕ → State → List (Option Refusal)
busy_on_any q ns s = map (λ n. busy (q.removal n (cpu_of n s))) ns

abbrev pub remove_id_refusal : Questions → ℕ → State → Option Refusal
remove_id_refusal q id s = first_refusal (when (is_no_cyclic id s) NoCyclic ∷ busy_on_any q (cpus_having id s) s)

abbrev pub remove_refusal : Questions → ℕ → State → Option Refusal
remove_refusal q name s = remove_id_refusal q (id_of name s) s

-- the cyclic leaves the CPU, and its counts there are kept
abbrev pub clear : ℕ → ℕ → State → Outcome
clear id n s = on_number n (clear_here n id) (keep_counts n (cyclic_with_id id (cpu_of n s)) s)

abbrev pub clear_if : Bool → ℕ → ℕ → State → Outcome
clear_if true id n s = clear id n s
clear_if false id n s = nothing s

-- the open removal is asked whether it is done on this CPU (cyclic_remove_xcall)
abbrev pub poll : Questions → ℕ → ℕ → State → Outcome
poll q id n s = clear_if (q.outstanding n id (cpu_of n s) == 0) id n s

-- the removal begins on a CPU, and ends there at once where no call is outstanding
abbrev pub begin : Questions → ℕ → ℕ → State → Outcome
begin q id n s = followed_by (on_number n (mark_here n id) s) (poll q id n)

-- all CPUs' numbers
abbrev pub all_cpus : State → List ℕ
all_cpus s = cpus_from 0 (λ c. true) s.cpus

-- what the ended stays of an id come to, over all CPUs
abbrev pub ended_expired : ℕ → State → ℕ
ended_expired id s = sum_by (λ n. (s.ended id n).expired) (all_cpus s)

abbrev pub ended_lost : ℕ → State → ℕ
ended_lost id s = sum_by (λ n. (s.ended id n).lost) (all_cpus s)

-- the removal is over where no CPU has the cyclic any more: its line gives all calls of it, on all CPUs
abbrev pub answered : ℕ → List ℕ → ℕ → Outcome → Outcome
answered step text id o = record o {
  line = removed step text (ended_expired id o.state - ended_lost id o.state);
  state = forgotten id o.state;
}

-- the calls outstanding on these CPUs
abbrev pub kept_on : Questions → ℕ → List ℕ → State → ℕ
kept_on q id ns s = sum_by (λ n. q.outstanding n id (cpu_of n s)) ns

-- what a removal that began comes to, where the cyclic is still on these CPUs
abbrev pub begun : Questions → ℕ → List ℕ → ℕ → List ℕ → Outcome → Outcome
begun q step text id [] o = answered step text id o
begun q step text id (n ∷ ns) o = told (kept step (kept_on q id (n ∷ ns) o.state)) o

abbrev pub with_answer : Questions → ℕ → List ℕ → ℕ → Outcome → Outcome
with_answer q step text id o = begun q step text id (cpus_having id o.state) o

abbrev pub remove_id : Questions → ℕ → List ℕ → ℕ → State → Outcome
remove_id q step text id s = with_answer q step text id (each (begin q id) (cpus_having id s) s)

-- the text of a name
abbrev pub remove : Questions → ℕ → List ℕ → ℕ → State → Outcome
remove q step text name s = remove_id q step text (id_of name s) s
