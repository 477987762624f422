-- Which id the cyclic of a name got in a run in threads, read off the answers to its `add` or `omni`.
use Rattle.std.specs.Prelude.{ℕ, ◌==◌, if◌then◌else◌, Bool, false, List, [], ◌∷◌, Option, Some, None, Ok}
use Rattle.std.specs.Option.{option_map_or}
use Rattle.cyc_types.specs.declared.Calls.{Ghosts as Calls}
use Rattle.cyc_types.specs.declared.Raise.{Ghosts as Raise}
use Rattle.cyc_script.specs.declared.step.Step.{Step}
use Rattle.cyc_script.specs.declared.step.Step.TheVariants as steps
use Rattle.cyc_threads.specs.Calls.{Add, AddOmni}
use Rattle.cyc_system_rings.specs.Leading.{LeadCall, Make}
use Rattle.cyc_threads.specs.declared.progress.Progress.{Progress}
use Rattle.cyc_threads.specs.Words.{TakesStep}
use Rattle.cyc_threads.specs.Steps.{TakesSteps, Runs}
use Rattle.cyc_thread_calls.specs.Leading.{call_of}

-- the id that a call gave
abbrev pub given_by : LeadCall → Option ℕ
given_by (Make (Add level when now (Ok id))) = Some id
given_by (Make (AddOmni level when skew now (Ok id))) = Some id
given_by call = None

-- the step introduces the name
abbrev pub introduces : ℕ → Step → Bool
introduces name (steps.Add a) = a.name == name
introduces name (steps.Omni a) = a.name == name
introduces name x = false

-- the id that a step gave a name, by its call
abbrev pub given_in : ℕ → Step → Option LeadCall → Option ℕ
given_in name x call = if introduces name x then option_map_or given_by call None else None

-- the later of two ids, where there is one
abbrev pub later_id : Option ℕ → Option ℕ → Option ℕ
later_id earlier None = earlier
later_id earlier (Some id) = Some id

module _ {C R : Type 0} (handler : Calls C) (firing : Raise R) (name : ℕ) where
  abbrev pub id_in_step : (s : Progress R C) (x : Step) (t : Progress R C) → TakesStep handler firing s x t → Option ℕ
  id_in_step s x t (u, begins, does) = given_in name x (call_of handler firing x u t does)

  abbrev pub id_in_steps : (s : Progress R C) (xs : List Step) (t : Progress R C)
      → TakesSteps handler firing s xs t → Option ℕ
  id_in_steps s [] t takes = None
  id_in_steps s (x ∷ xs) t (u, takes, rest) = later_id (id_in_step s x u takes) (id_in_steps u xs t rest)

  -- the id that a run gave a name, which a script introduces once: None where its `add` or `omni` was refused
  abbrev pub id_given : (s : Progress R C) (xs : List Step) (t : Progress R C) → Runs handler firing s xs t → Option ℕ
  id_given s xs t (u, takes, waits) = id_in_steps s xs u takes
