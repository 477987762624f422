-- softint: a soft interrupt of one level of one CPU, offline or not, and then the open removals (cyclic_softint).
use Rattle.std.specs.Prelude.{ℕ, ◌==◌, if◌then◌else◌, Bool, false, List, [], ◌∷◌, filter, map, Option}
use Rattle.std.specs.Option.{option_map_or}
use Rattle.cyc_types.specs.declared.refusal.Refusal.{Refusal}
use Rattle.cyc_text.specs.Lines.{ran}
use Rattle.cyc_script.specs.declared.step.Softint.{Softint as SoftintStep}
use Rattle.cyc_model.specs.Acts.{handler_calls}
use Rattle.cyc_model.specs.Cpu.{Cpu}
use Rattle.cyc_model.specs.Serving.{interrupt_here, serve_here}
use Rattle.cyc_model.specs.Questions.{Questions}
use Rattle.cyc_model.specs.State.{State, Outcome, cpu_of, numbers, on_number, each, told, followed_by, cpus_having}
use Rattle.cyc_model.specs.Places.{is_being_removed}
use Rattle.cyc_model.specs.Refusals.{is_no_cpu}
use Rattle.cyc_model.specs.Remove.{poll, answered}

abbrev pub softint_refusal : SoftintStep → State → Option Refusal
softint_refusal i s = is_no_cpu i.cpu s

abbrev pub with_ran_line : ℕ → Bool → Outcome → Outcome
with_ran_line step idle o = told (ran step (handler_calls o.acts) idle) o

abbrev pub interrupt : ℕ → SoftintStep → State → Outcome
interrupt step i s = with_ran_line step (interrupt_here i.cpu i.level i.budget (cpu_of i.cpu s)).idle
    (on_number i.cpu (serve_here i.cpu i.level i.budget) s)

-- whether the removal of this id is open on the CPU
abbrev pub is_open : ℕ → Cpu → Bool
is_open id c = option_map_or (λ busy. busy == id) c.removal false

abbrev pub text_if : Bool → List ℕ → List ℕ → List ℕ
text_if test text rest = if test then text else rest

-- the text of the name that has this id
abbrev pub text_of_id : ℕ → List (List ℕ) → List ℕ → List ℕ
text_of_id id [] ids = []
text_of_id id (text ∷ texts) [] = []
text_of_id id (text ∷ texts) (j ∷ ids) = text_if (j == id) text (text_of_id id texts ids)

-- what a removal that was polled comes to, where the cyclic is still on these CPUs
abbrev pub polled : ℕ → List ℕ → ℕ → List ℕ → Outcome → Outcome
polled step text id [] o = answered step text id o
polled step text id (n ∷ ns) o = o

abbrev pub with_poll : ℕ → List ℕ → ℕ → Outcome → Outcome
with_poll step text id o = polled step text id (cpus_having id o.state) o

-- an open removal is polled on every CPU on which it is open
abbrev pub poll_id : Questions → List (List ℕ) → ℕ → ℕ → State → Outcome
poll_id q texts step id s = with_poll step (text_of_id id texts s.names) id (each (poll q id) (numbers (is_open id) s) s)

-- the ids whose removals are open, rising
abbrev pub leaving_ids : State → List ℕ
leaving_ids s = filter (λ id. is_being_removed id s) (map (λ p. p.id) s.placed)

abbrev pub poll_all : Questions → List (List ℕ) → ℕ → State → Outcome
poll_all q texts step s = each (poll_id q texts step) (leaving_ids s) s

abbrev pub softint : Questions → List (List ℕ) → ℕ → SoftintStep → State → Outcome
softint q texts step i s = followed_by (interrupt step i s) (poll_all q texts step)
