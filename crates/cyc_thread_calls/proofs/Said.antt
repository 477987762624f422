-- What the words of a run say of a name, its calls say of the name's id.
use Rattle.std.proofs.Common.{◌≡◌, ◌∙◌, ℕ, List, [], ◌∷◌, ◌++◌, Some, None, replicate, zero, suc, refl, sym, ap, subst}
use Rattle.std.specs.List.{FoldsTo}
use Rattle.cyc_types.specs.declared.Calls.{Ghosts as Calls}
use Rattle.cyc_types.specs.declared.Raise.{Ghosts as Raise}
use Rattle.cyc_script.specs.declared.step.Step.{Step}
use Rattle.cyc_script.specs.WellFormed.{IsWellFormed}
use Rattle.cyc_expected.specs.Course.{Told, untold, told_by}
use Rattle.cyc_expected.specs.Expected.{course_events, expected}
use Rattle.cyc_system_rings.specs.Events.{events_in}
use Rattle.cyc_words.specs.declared.named.Named.{Named}
use Rattle.cyc_words.specs.declared.named.Named.TheVariants.{Nothing, Cyclic, Leaving, Removed}
use Rattle.cyc_threads.specs.declared.progress.Progress.{Progress}
use Rattle.cyc_threads.specs.declared.counting.Line.{Line}
use Rattle.cyc_words.specs.Names.{named_at}
use Rattle.cyc_threads.specs.Steps.{Runs}
use Rattle.cyc_threads.specs.Counting.{NameLine as Reported, Tells, TellsOf, Reports}
use Rattle.cyc_thread_calls.specs.Leading.{wait_calls, steps_calls, told_calls_of, told_calls, report_calls, all_calls}
use Rattle.cyc_thread_calls.specs.Meeting.{way_of_run}
use Rattle.cyc_thread_calls.specs.Giving.{id_given}
use Rattle.cyc_thread_calls.proofs.Owners.{Owns, owns_none}
use Rattle.cyc_thread_calls.proofs.Events.{events_more}
use Rattle.cyc_thread_calls.proofs.Meets.{steps_same, waits_pass}
use Rattle.cyc_thread_calls.proofs.Owned.{known}
use Rattle.cyc_thread_calls.proofs.Idle.{all_idle}

nothing_yet : (n j : ℕ) → named_at (replicate n Nothing) j ≡ Nothing
nothing_yet zero j = refl
nothing_yet (suc n) zero = refl
nothing_yet (suc n) (suc j) = nothing_yet n j

module _ {C R : Type 0} (handler : Calls C) (firing : Raise R) where
  -- the report is nothing to any cyclic
  line_passes : (id : ℕ) (named : Named) (line : Line) (s t : Progress R C) (w : TellsOf firing named line s t) (told : Told)
      → told_by (events_in id (told_calls_of firing named line s t w)) told ≡ told
  line_passes id Nothing line s t w told = refl
  line_passes id (Cyclic own) line s t (answer, did, is) told = refl
  line_passes id (Leaving own) line s t (answer, did, is) told = refl
  line_passes id (Removed receipt) line s t w told = refl

  lines_pass : (id : ℕ) (all : List Reported) (s t : Progress R C) (w : FoldsTo (Tells firing) s all t) (told : Told)
      → told_by (events_in id (told_calls firing all s t w)) told ≡ told
  lines_pass id [] s t w told = refl
  lines_pass id (one ∷ all) s t (u, tells, rest) told =
      events_more id (told_calls_of firing one.named one.line s u tells) (told_calls firing all u t rest) told
      ∙ (ap (λ (q : Told). told_by (events_in id (told_calls firing all u t rest)) q)
      (line_passes id one.named one.line s u tells told)
      ∙ lines_pass id all u t rest told)

  pub calls_tell : (xs : List Step) (lines : List Line) (s t u : Progress R C) (names name id : ℕ)
      (runs : Runs handler firing s xs t) (reports : Reports firing lines t u) (told : Told)
      → IsWellFormed xs names → s.names ≡ replicate names Nothing
      → id_given handler firing name s xs t runs ≡ Some id
      → told_by (events_in id (all_calls handler firing xs lines s t u runs reports)) told
      ≡ told_by (course_events name s.clock (way_of_run handler firing s xs t runs)) told
  calls_tell xs lines s t u names name id (v, takes, waits) reports told good none is =
      let owns : Owns id name s.names = subst (Owns id name) (sym none) (owns_none id name (replicate names Nothing)
      (nothing_yet names)) in
      let (far, low, gives) = known handler firing id name 0 s xs v takes good.names_in_order is in
      let first = steps_calls handler firing s xs v takes in
      let then = wait_calls firing v t waits in
      let last = report_calls firing lines t u reports in
      events_more id (first ++ then) last told
      ∙ (lines_pass id reports.all t u reports.tells (told_by (events_in id (first ++ then)) told)
      ∙ (events_more id first then told
      ∙ (waits_pass handler firing id name v t waits (told_by (events_in id first) told)
      ∙ steps_same handler firing id name s xs v takes owns gives told)))

  pub unnamed_tells : (xs : List Step) (s t : Progress R C) (cpus name : ℕ) (runs : Runs handler firing s xs t)
      → id_given handler firing name s xs t runs ≡ None
      → expected cpus (way_of_run handler firing s xs t runs) name ≡ 0
  unnamed_tells xs s t cpus name (v, takes, waits) is =
      (all_idle handler firing name s xs v takes is 0 (untold cpus) (refl, refl)).1
