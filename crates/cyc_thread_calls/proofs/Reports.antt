-- The bytes of the report of a calm script.
use Rattle.std.proofs.Common.{◌≡◌, ◌∙◌, ℕ, suc, ◌+◌, ◌≤◌, Some, List, [], ◌∷◌, ◌++◌, length, map, refl, sym, ap}
use Rattle.std.proofs.Common.{arith, string_bytes}
use Rattle.std.specs.List.{slice_get}
use Rattle.std.proofs.lemmas.List.{length-map}
use Rattle.std.proofs.lemmas.Option.{slice_get_within}
use Rattle.cyc_types.specs.declared.Calls.{Ghosts as Calls}
use Rattle.cyc_types.specs.declared.Raise.{Ghosts as Raise}
use Rattle.cyc_ring.specs.Ends.{raise_end}
use Rattle.cyc_text.specs.declared.lines.Counts.{Counts}
use Rattle.cyc_text.specs.Lines.{reported}
use Rattle.cyc_script.specs.declared.script.Script.{Script}
use Rattle.cyc_expected.specs.Expected.{Met, expected}
use Rattle.cyc_threads.specs.declared.progress.Progress.{Progress}
use Rattle.cyc_threads.specs.declared.counting.Line.{Line}
use Rattle.cyc_threads.specs.Counting.{NameLine, Reports}
use Rattle.cyc_threads.specs.Reporting.{counts_told, report_text}
use Rattle.cyc_threads.specs.declared.running.Ended.{Ended}
use Rattle.cyc_threads.specs.Running.{HasRun}
use Rattle.cyc_thread_calls.specs.Meeting.{way_of_run}
use Rattle.cyc_thread_calls.specs.Reported.{IsReported}
use Rattle.cyc_thread_calls.proofs.Lined.{is_reported}
use Rattle.cyc_thread_calls.specs.Calm.{IsCalm}
use Rattle.cyc_thread_calls.specs.Memory.{NoMemoryRefused}
use Rattle.cyc_thread_calls.specs.Runs.{calls_of_run}
use Rattle.cyc_thread_calls.proofs.Whole.{expects, names_stay}
use Rattle.cyc_thread_calls.specs.Text.{calm_expected, calm_counts, report_from, calm_text, IsBelowCeiling}

-- the lines of a report with these counts
texts : (counts : ℕ → Counts) (number : ℕ) (names : List (List ℕ)) (lines : List Line) → length lines ≡ length names
    → ((j : ℕ) (line : Line) → slice_get lines j ≡ Some line → counts_told line ≡ counts (number + j))
    → report_text names lines ≡ report_from counts number names
texts counts number [] lines long each = refl
texts counts number (name ∷ names) [] long each = absurd (omega (arith, long))
texts counts number (name ∷ names) (line ∷ lines) long each =
    let here : counts_told line ≡ counts number =
    each 0 line refl ∙ ap counts (let e : number + 0 ≡ number = omega arith in e) in
    let rest = texts counts (number + 1) names lines (omega (arith, long))
    (λ j l at. each (suc j) l at ∙ ap counts (let e : number + suc j ≡ number + 1 + j = omega arith in e)) in
    (λ i. reported name (here i) ++ rest i)

-- a line of each name
pub lines_long : {C R : Type 0} (firing : Raise R) (lines : List Line) (s t : Progress R C)
    → Reports firing lines s t → length lines ≡ length s.names
lines_long firing lines s t r = ap length (sym r.lines_are) ∙ length-map r.all (λ (told : NameLine). told.line)
    ∙ (sym (length-map r.all (λ (told : NameLine). told.named)) ∙ ap length r.names)

-- counts that are as expected below the ceiling
counted : (cpus ceiling : ℕ) (way : List Met) (name e : ℕ) (counts : Counts) → IsReported cpus ceiling way name counts
    → expected cpus way name ≡ e → e ≤ ceiling → counts ≡ record { expired = e; called = e; lost = 0; pending = 0 }
counted cpus ceiling way name e counts h same below =
    let lost = h.spared (omega (arith, same, below)) in
    let expired = h.expired ∙ same in
    let called : counts.called ≡ e = (let a = h.either in omega (arith, a, lost, expired)) in
    λ i. record { expired = expired i; called = called i; lost = lost i; pending = h.pending i }

pub text_is : (script : Script) (way : List Met) (lines : List Line) → length lines ≡ length script.names.items
    → ((name : ℕ) → expected script.cpus way name ≡ calm_expected script.cpus script.steps.items name) → IsBelowCeiling script
    → ((name : ℕ) (line : Line) → slice_get lines name ≡ Some line
    → IsReported script.cpus script.ceiling way name (counts_told line))
    → report_text (map string_bytes script.names.items) lines ≡ calm_text script
text_is script way lines long same below each =
    texts (calm_counts script.cpus script.steps.items) 0 (map string_bytes script.names.items) lines
    (long ∙ sym (length-map script.names.items string_bytes))
    (λ j line at. counted script.cpus script.ceiling way j (calm_expected script.cpus script.steps.items j) (counts_told line)
    (each j line at) (same j)
    (below j (let low = slice_get_within lines j line at in omega (arith, low, long)))
    ∙ ap (calm_counts script.cpus script.steps.items) (let e : j ≡ 0 + j = omega arith in e))

-- ---- a whole run

module _ {C : Type 0} (handler : Calls C)
    (script : Script) (calls : List C) (e : Ended C) (text : List ℕ) (run : HasRun handler script calls e text)
    (calm : IsCalm script)
    (memory : NoMemoryRefused (calls_of_run handler script calls e text run))
    (below : IsBelowCeiling script) where
  pub run_text : text ≡ calm_text script
  run_text =
      let first = run.played.first in let last = run.played.last in let runs = run.played.runs in
      run.text_is ∙ text_is script
      (way_of_run handler raise_end first script.steps.items last runs) run.lines
      (lines_long raise_end run.lines last run.played.told run.played.reports
      ∙ names_stay handler script run.before first last runs calm run.many run.played.begins memory)
      (λ name. expects handler script run.before first last runs calm run.many run.played.begins memory name)
      below (λ name line at. is_reported handler script calls e text run name line at)
