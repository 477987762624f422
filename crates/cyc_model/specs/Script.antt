-- A whole script: its words, its lines and its report.
use Rattle.std.specs.Prelude.{ℕ, ◌+◌, List, [], ◌∷◌, ◌++◌, length, map, replicate, slice_index_or, string_bytes, false, Option}
use Rattle.cyc_types.specs.declared.refusal.Refusal.{Refusal}
use Rattle.cyc_script.specs.declared.step.Step.{Step}
use Rattle.cyc_script.specs.declared.step.Step.TheVariants.{Add, Omni, Bind, Unbind, Reprogram, Remove, Advance, Softint, Juggle}
use Rattle.cyc_script.specs.declared.step.Step.TheVariants.{Offline, Online, Suspend, Resume}
use Rattle.cyc_script.specs.declared.script.Script.{Script}
use Rattle.cyc_model.specs.Cpu.{begun_cpu}
use Rattle.cyc_model.specs.Questions.{Questions, plain}
use Rattle.cyc_model.specs.State.{State, Outcome, nothing, followed_by}
use Rattle.cyc_model.specs.Refusals.{unless}
use Rattle.cyc_model.specs.Add.{add_refusal, add}
use Rattle.cyc_model.specs.Omni.{omni_refusal, omni}
use Rattle.cyc_model.specs.Bind.{bind_refusal, bind, unbind_refusal, unbind}
use Rattle.cyc_model.specs.Reprogram.{reprogram_refusal, reprogram}
use Rattle.cyc_model.specs.Remove.{remove_refusal, remove}
use Rattle.cyc_model.specs.Advance.{advance_refusal, advance}
use Rattle.cyc_model.specs.Softint.{softint_refusal, softint}
use Rattle.cyc_model.specs.Juggle.{juggle_refusal, juggle}
use Rattle.cyc_model.specs.Offline.{offline_refusal, offline}
use Rattle.cyc_model.specs.Online.{online_refusal, online}
use Rattle.cyc_model.specs.Suspend.{suspend_refusal, suspend}
use Rattle.cyc_model.specs.Resume.{resume_refusal, resume}
use Rattle.cyc_model.specs.Report.{reports}

-- the text of a name
abbrev pub text_in : List (List ℕ) → ℕ → List ℕ
text_in texts name = slice_index_or texts name []

-- the words: why each is refused
abbrev pub refusal_of : Questions → Step → State → Option Refusal
refusal_of q (Add a) s = add_refusal q a s
refusal_of q (Omni a) s = omni_refusal q a s
refusal_of q (Bind b) s = bind_refusal q b s
refusal_of q (Unbind name) s = unbind_refusal name s
refusal_of q (Reprogram r) s = reprogram_refusal r s
refusal_of q (Remove name) s = remove_refusal q name s
refusal_of q (Advance now) s = advance_refusal now s
refusal_of q (Softint i) s = softint_refusal i s
refusal_of q (Juggle n) s = juggle_refusal q n s
refusal_of q (Offline n) s = offline_refusal q n s
refusal_of q (Online n) s = online_refusal q n s
refusal_of q Suspend s = suspend_refusal s
refusal_of q Resume s = resume_refusal s

-- and what each does where it isn't: names have these texts, and the k-th cyclic that is put on a CPU gets the k-th index
abbrev pub does : Questions → List (List ℕ) → (ℕ → ℕ) → ℕ → Step → State → Outcome
does q texts indexes step (Add a) s = add indexes step a s
does q texts indexes step (Omni a) s = omni indexes step a s
does q texts indexes step (Bind b) s = bind indexes step b s
does q texts indexes step (Unbind name) s = unbind step name s
does q texts indexes step (Reprogram r) s = reprogram step r s
does q texts indexes step (Remove name) s = remove q step (text_in texts name) name s
does q texts indexes step (Advance now) s = advance step now s
does q texts indexes step (Softint i) s = softint q texts step i s
does q texts indexes step (Juggle n) s = juggle q indexes step n s
does q texts indexes step (Offline n) s = offline q indexes step n s
does q texts indexes step (Online n) s = online indexes step n s
does q texts indexes step Suspend s = suspend step s
does q texts indexes step Resume s = resume step s

-- one step
abbrev pub word : Questions → List (List ℕ) → (ℕ → ℕ) → ℕ → Step → State → Outcome
word q texts indexes step x s = unless (refusal_of q x s) step x (does q texts indexes step x) s

-- the steps from this number on
abbrev pub steps_from : Questions → List (List ℕ) → (ℕ → ℕ) → ℕ → List Step → State → Outcome
steps_from q texts indexes step [] s = nothing s
steps_from q texts indexes step (x ∷ xs) s =
    followed_by (word q texts indexes step x s) (steps_from q texts indexes (step + 1) xs)

-- ---- the whole

-- the machine before the first step
abbrev pub start : ℕ → ℕ → ℕ → State
start cpus ceiling names = record {
  clock = 0;
  suspended = false;
  last_id = 0;
  admissions = 0;
  cpus = replicate cpus (begun_cpu ceiling);
  placed = [];
  ended = λ id n. record { expired = 0; lost = 0 };
  called = λ id. 0;
  names = replicate names 0;
}

abbrev pub with_report : List (List ℕ) → Outcome → List ℕ
with_report texts o = o.line ++ reports 0 texts o.state

-- steps over so many CPUs and these names
abbrev pub run_on : (ℕ → ℕ) → ℕ → ℕ → List (List ℕ) → List Step → Outcome
run_on indexes cpus ceiling texts steps = steps_from plain texts indexes 1 steps (start cpus ceiling (length texts))

abbrev pub text_on : (ℕ → ℕ) → ℕ → ℕ → List (List ℕ) → List Step → List ℕ
text_on indexes cpus ceiling texts steps = with_report texts (run_on indexes cpus ceiling texts steps)

abbrev pub names_of : Script → List (List ℕ)
names_of script = map string_bytes script.names.items

-- the run of a script where its cyclics get these indexes
unfoldable pub run_of : (ℕ → ℕ) → Script → Outcome
run_of indexes script = run_on indexes script.cpus script.ceiling (names_of script) script.steps.items

-- the text of a script where its cyclics get these indexes
unfoldable pub text_with : (ℕ → ℕ) → Script → List ℕ
text_with indexes script = with_report (names_of script) (run_of indexes script)

-- no line tells of an index, so any will do
abbrev pub no_indexes : ℕ → ℕ
no_indexes k = 0

-- the text of a script
abbrev pub text_of : Script → List ℕ
text_of script = text_with no_indexes script
