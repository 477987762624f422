-- The report of a run in threads says what is expected of each name.
use Rattle.std.proofs.Common.{◌≡◌, ◌∙◌, ℕ, List, length, Option, Some, None, refl, sym, ap}
use Rattle.std.proofs.Common.{arith}
use Rattle.std.specs.List.{slice_get}
use Rattle.std.proofs.lemmas.List.{length-map}
use Rattle.cyc_types.specs.declared.Calls.{Ghosts as Calls}
use Rattle.cyc_ring.specs.declared.ends.RaiseEnd.{RaiseEnd}
use Rattle.cyc_ring.specs.Ends.{raise_end, end_view}
use Rattle.cyc_agreement.specs.Cpus.{CpusView, new_cpu}
use Rattle.cyc_script.specs.declared.script.Script.{Script}
use Rattle.cyc_expected.specs.Expected.{Met, expected}
use Rattle.cyc_threads.specs.Sound.{IsSound}
use Rattle.cyc_system_rings.proofs.WholeRun.{empty_new}
use Rattle.cyc_threads.specs.Seated.{Seated}
use Rattle.cyc_threads.specs.Rings.{seats_of_ends, firing_seats}
use Rattle.cyc_threads.specs.declared.progress.Progress.{Progress}
use Rattle.cyc_threads.specs.declared.counting.Line.{Line}
use Rattle.cyc_threads.specs.declared.running.Ended.{Ended}
use Rattle.cyc_threads.specs.Reporting.{counts_told}
use Rattle.cyc_threads.specs.Running.{most, IsAtFirst, HasRun}
use Rattle.cyc_thread_calls.specs.Meeting.{way_of_run}
use Rattle.cyc_thread_calls.specs.Lines.{line_in}
use Rattle.cyc_thread_calls.proofs.Lining.{as_many}
use Rattle.cyc_thread_calls.proofs.Starting.{first_sound, first_ready}
use Rattle.cyc_thread_calls.specs.Calling.{lead_calls, last_system, id_of_name}
use Rattle.cyc_thread_calls.proofs.Counted.{line_is, line_few}
use Rattle.cyc_thread_calls.proofs.Spared.{line_spared}
use Rattle.cyc_thread_calls.specs.Reported.{IsReported}
use Rattle.cyc_thread_calls.proofs.Expecting.{line_expected}

-- ---- before the first step

module _ {C : Type 0} (names : ℕ) (all : List (Seated C)) (first : Progress RaiseEnd C)
    (begins : IsAtFirst names all first) where
  many_ends : length begins.ends ≡ length all
  many_ends = sym (length-map begins.ends seats_of_ends)
      ∙ (ap (λ (xs : List _). length xs) begins.own ∙ length-map all firing_seats)

  first_many : length first.side.system.cpus.cpus ≡ length all
  first_many = ap (λ (v : CpusView RaiseEnd). length v.cpus) begins.cpus
      ∙ (length-map begins.ends (λ (e : RaiseEnd × RaiseEnd). new_cpu most e.0 e.1) ∙ many_ends)

-- ---- a line

module _ {C : Type 0} (handler : Calls C) (script : Script)
    (calls : List C) (e : Ended C) (text : List ℕ) (r : HasRun handler script calls e text) where
  pub lines_many : length r.lines ≡ length script.names.items
  lines_many = as_many handler raise_end (length script.names.items) script.steps.items r.lines
      r.played.first r.played.last r.played.told r.played.runs r.played.reports r.played.begins.names_are

  sound : IsSound end_view r.played.first.side.system
  sound = first_sound (length script.names.items) script.ceiling r.before r.played.first r.played.begins r.new
      (let m = r.many in let c = script.cpus_in_range.0 in omega (arith, m, c))
      (let m = r.many in let c = script.cpus_in_range.1 in omega (arith, m, c))

  ready : length r.played.first.side.leads.items ≡ length r.played.first.side.system.cpus.cpus
  ready = first_ready (length script.names.items) script.ceiling r.before r.played.first r.played.begins r.new

  cpus : length r.played.first.side.system.cpus.cpus ≡ script.cpus
  cpus = first_many (length script.names.items) r.before r.played.first r.played.begins ∙ r.many

  -- how the steps were met
  abbrev way : List Met
  way = way_of_run handler raise_end r.played.first script.steps.items r.played.last r.played.runs

  -- the line of an id, or of none
  abbrev line_of : Option ℕ → Line
  line_of o = line_in o (lead_calls handler script calls e text r) (last_system handler script calls e text r)

  line_quiet : (o : Option ℕ) → (line_of o).pending ≡ 0
  line_quiet None = refl
  line_quiet (Some id) = refl

  line_expires : (name : ℕ) → (line_of (id_of_name handler script calls e text r name)).expired ≡ expected script.cpus way name
  line_expires name =
      line_expected handler script.steps.items r.lines r.played.first r.played.last r.played.told
      (length script.names.items) name r.played.runs r.played.reports script.well_formed r.played.begins.names_are
      r.played.begins.clock sound ready
      (empty_new most r.played.begins.ends r.played.first.side.system r.played.begins.cpus r.played.begins.records)
      ∙ ap (λ (n : ℕ). expected n way name) cpus

  pub is_reported : (name : ℕ) (line : Line) → slice_get r.lines name ≡ Some line
      → IsReported script.cpus script.ceiling way name (counts_told line)
  is_reported name line at =
      let is = line_is handler script calls e text r name line at in
      let same : line.expired ≡ expected script.cpus way name = ap (λ (l : Line). l.expired) is ∙ line_expires name in record {
        expired = same;
        either = (let few = line_few handler script calls e text r name line at in omega (arith, few));
        pending = ap (λ (l : Line). l.pending) is
            ∙ line_quiet (id_of_name handler script calls e text r name);
        spared = λ low. line_spared handler script calls e text r name line at (omega (arith, low, same));
      }
