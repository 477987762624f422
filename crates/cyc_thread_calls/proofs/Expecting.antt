-- The line of a name has the expirations that are expected of it.
use Rattle.std.proofs.Common.{◌≡◌, ◌∙◌, ℕ, List, length, Option, Some, None, replicate, refl, sym, ap}
use Rattle.cyc_types.specs.declared.Calls.{Ghosts as Calls}
use Rattle.cyc_ring.specs.declared.ends.RaiseEnd.{RaiseEnd}
use Rattle.cyc_ring.specs.Ends.{raise_end, end_view}
use Rattle.cyc_script.specs.declared.step.Step.{Step}
use Rattle.cyc_script.specs.WellFormed.{IsWellFormed}
use Rattle.cyc_expected.specs.Course.{Told, untold, told_by}
use Rattle.cyc_expected.specs.Expected.{course_events, expected}
use Rattle.cyc_threads.specs.Sound.{IsSound}
use Rattle.cyc_words.specs.declared.named.Named.TheVariants.{Nothing}
use Rattle.cyc_threads.specs.declared.progress.Progress.{Progress}
use Rattle.cyc_threads.specs.declared.counting.Line.{Line}
use Rattle.cyc_threads.specs.Steps.{Runs}
use Rattle.cyc_threads.specs.Counting.{Reports}
use Rattle.cyc_thread_calls.specs.Leading.{all_calls}
use Rattle.cyc_thread_calls.specs.Meeting.{way_of_run}
use Rattle.cyc_thread_calls.specs.Giving.{id_given}
use Rattle.cyc_thread_calls.specs.Lines.{line_in}
use Rattle.cyc_thread_calls.proofs.Going.{all_go}
use Rattle.cyc_system_rings.specs.Empty.{IsEmpty}
use Rattle.cyc_system_rings.proofs.WholeRun.{whole_run}
use Rattle.cyc_thread_calls.proofs.Early.{all_early}
use Rattle.cyc_thread_calls.proofs.Said.{calls_tell, unnamed_tells}

module _ {C : Type 0} (handler : Calls C) where
  pub line_expected : (xs : List Step) (lines : List Line) (s t u : Progress RaiseEnd C) (names name : ℕ)
      (runs : Runs handler raise_end s xs t) (reports : Reports raise_end lines t u)
      → IsWellFormed xs names → s.names ≡ replicate names Nothing → s.clock ≡ 0 → IsSound end_view s.side.system
      → length s.side.leads.items ≡ length s.side.system.cpus.cpus → IsEmpty s.side.system
      → (line_in (id_given handler raise_end name s xs t runs)
      (all_calls handler raise_end xs lines s t u runs reports) u.side.system).expired
      ≡ expected (length s.side.system.cpus.cpus) (way_of_run handler raise_end s xs t runs) name
  line_expected xs lines s t u names name runs reports good none clock sound ready empty =
      by (id_given handler raise_end name s xs t runs) refl
    where
      by : (o : Option ℕ) → id_given handler raise_end name s xs t runs ≡ o
          → (line_in o (all_calls handler raise_end xs lines s t u runs reports)
          u.side.system).expired
          ≡ expected (length s.side.system.cpus.cpus) (way_of_run handler raise_end s xs t runs) name
      by None e = sym (unnamed_tells handler raise_end xs s t (length s.side.system.cpus.cpus) name runs e)
      by (Some id) e =
          let n = length s.side.system.cpus.cpus in
          let way = way_of_run handler raise_end s xs t runs in
          let calls = all_calls handler raise_end xs lines s t u runs reports in
          whole_run handler id s.side u.side calls
          (all_go handler raise_end xs lines s t u runs reports) sound ready
          (all_early handler raise_end 0 xs lines s t u runs reports good.moments_in_order) empty
          ∙ (ap (λ (x : Told). x.expired)
          (calls_tell handler raise_end xs lines s t u names name id runs reports (untold n) good none
          e)
          ∙ ap (λ (c : ℕ). (told_by (course_events name c way) (untold n)).expired) clock)
