-- The calls of the handlers of a run, by the names of its script and their levels there.
use Rattle.std.proofs.Common.{◌≡◌, ◌≢◌, ◌∙◌, ℕ, ◌<◌, ◌+◌, ◌++◌, List, [], ◌∷◌, Option, Some, None, length, refl, sym, ap, arith}
use Rattle.std.specs.Prelude.{true}
use Rattle.std.specs.List.{slice_get, FoldsTo}
use Rattle.cyc_types.specs.declared.Calls.{Ghosts as Calls}
use Rattle.cyc_types.specs.declared.Raise.{Ghosts as Raise}
use Rattle.cyc_system_rings.specs.Rings.{first_ring}
use Rattle.cyc_words.specs.declared.named.Named.{Named}
use Rattle.cyc_words.specs.declared.named.Named.TheVariants.{Nothing, Cyclic, Leaving, Removed}
use Rattle.cyc_threads.specs.declared.progress.Progress.{Progress}
use Rattle.cyc_threads.specs.Counting.{NameLine, Tells, TellsOf}
use Rattle.cyc_thread_calls.proofs.Owning.{steps_named}
use Rattle.cyc_types.specs.declared.level.Level.{Level}
use Rattle.cyc_ring.specs.Ends.{raise_end}
use Rattle.cyc_script.specs.declared.script.Script.{Script}
use Rattle.cyc_system_rings.specs.Leading.{LeadCall}
use Rattle.cyc_system_rings.specs.ByLevel.{level_in}
use Rattle.cyc_threads.specs.declared.counting.Line.{Line}
use Rattle.cyc_threads.specs.Steps.{Runs}
use Rattle.cyc_threads.specs.declared.running.Ended.{Ended}
use Rattle.cyc_threads.specs.Reporting.{counts_told}
use Rattle.cyc_threads.specs.Running.{HasRun}
use Rattle.cyc_thread_calls.specs.Calling.{calls_at_level, lead_calls, id_of_name}
use Rattle.cyc_thread_calls.specs.Giving.{id_given}
use Rattle.cyc_thread_calls.specs.Leading.{steps_calls, run_calls, wait_calls, report_calls, told_calls_of, told_calls}
use Rattle.cyc_thread_calls.specs.Levels.{level_named}
use Rattle.cyc_thread_calls.proofs.Counted.{line_called, none_elsewhere, none_ungiven}
use Rattle.cyc_thread_calls.proofs.Leveled.{level_on, level_kept, level_later, not_some, begin_none, steps_level}

-- more calls that give it no level
level_first : (id : ℕ) (xs ys : List LeadCall) → level_in id ys ≡ None → level_in id (xs ++ ys) ≡ level_in id xs
level_first id xs ys e = level_on id xs ys ∙ ap (λ o. first_ring (level_in id xs) o) e ∙ by (level_in id xs)
  where
    by : (o : Option Level) → first_ring o None ≡ o
    by None = refl
    by (Some level) = refl

module _ {C R : Type 0} (firing : Raise R) (id : ℕ) where
  line_level : (named : Named) (line : Line) (s t : Progress R C) (d : TellsOf firing named line s t)
      → level_in id (told_calls_of firing named line s t d) ≡ None
  line_level Nothing line s t d = refl
  line_level (Cyclic own) line s t (answer, did, is) = refl
  line_level (Leaving own) line s t (answer, did, is) = refl
  line_level (Removed receipt) line s t d = refl

  report_level : (all : List NameLine) (s t : Progress R C) (d : FoldsTo (Tells firing) s all t)
      → level_in id (told_calls firing all s t d) ≡ None
  report_level [] s t e = refl
  report_level (told ∷ all) s t (u, d, rest) =
      level_later id (told_calls_of firing told.named told.line s u d) (told_calls firing all u t rest)
      (line_level told.named told.line s u d) ∙ report_level all u t rest

module _ {C : Type 0} (handler : Calls C) (script : Script)
    (calls : List C) (e : Ended C) (text : List ℕ) (r : HasRun handler script calls e text) where
  abbrev way : List LeadCall
  way = lead_calls handler script calls e text r

  abbrev id_named : ℕ → Option ℕ
  id_named = id_of_name handler script calls e text r

  -- the calls of the steps alone have the level of a name's id, and it is that of the name
  its_level : (name id : ℕ) → id_named name ≡ Some id
      → (level : Level) × (level_in id way ≡ Some level) × (level_named name script.steps.items ≡ Some level)
  its_level name id given = by r.played.runs given
    where
      by : (run : Runs handler raise_end r.played.first script.steps.items r.played.last)
          → id_given handler raise_end name r.played.first script.steps.items r.played.last run
          ≡ Some id
          → (level : Level) × (level_in id (run_calls handler raise_end r.played.first
          script.steps.items r.played.last run ++ report_calls raise_end r.lines r.played.last r.played.told
          r.played.reports) ≡ Some level) × (level_named name script.steps.items ≡ Some level)
      by (u, taken, waits) given =
          let (level, here, named) = steps_level handler raise_end script.steps.items name id 0
          r.played.first u taken script.well_formed.names_in_order given in (
            level,
            level_kept id (steps_calls handler raise_end r.played.first script.steps.items u taken
                ++ wait_calls raise_end u r.played.last waits)
                (report_calls raise_end r.lines r.played.last r.played.told r.played.reports) level
                (level_kept id (steps_calls handler raise_end r.played.first script.steps.items u
                taken)
                (wait_calls raise_end u r.played.last waits) level here),
            named,
          )

  known_level : (name id : ℕ) (level : Level) → id_named name ≡ Some id → level_named name script.steps.items ≡ Some level
      → level_in id way ≡ Some level
  known_level name id level given named = let (own, there, known) = its_level name id given in
      there ∙ (sym known ∙ named)

  -- as often as a name's line says, the handlers of its level were called for it
  pub word_called : (name id : ℕ) (level : Level) (line : Line) → slice_get r.lines name ≡ Some line → id_named name ≡ Some id
      → level_named name script.steps.items ≡ Some level
      → calls_at_level handler.count level id r.after ≡ calls_at_level handler.count level id r.before + (counts_told line).called
  word_called name id level line at given named =
      line_called handler script calls e text r name id level line at given
      (known_level name id level given named)

  -- and those of another level were not
  pub word_elsewhere : (name id : ℕ) (level other : Level) → id_named name ≡ Some id
      → level_named name script.steps.items ≡ Some level → other ≢ level
      → calls_at_level handler.count other id r.after ≡ calls_at_level handler.count other id r.before
  word_elsewhere name id level other given named ne =
      none_elsewhere handler script calls e text r id level other (known_level name id level given named) ne

  -- an id that is no name's was given by no call
  pub own_name : (id : ℕ) (level : Level) → level_in id way ≡ Some level
      → (name : ℕ) × (name < length script.names.items) × (id_named name ≡ Some id)
  own_name id level is = by r.played.runs is
    where
      by : (run : Runs handler raise_end r.played.first script.steps.items r.played.last)
          → level_in id (run_calls handler raise_end r.played.first script.steps.items r.played.last
          run
          ++ report_calls raise_end r.lines r.played.last r.played.told r.played.reports) ≡ Some level
          → (name : ℕ) × (name < length script.names.items)
          × (id_given handler raise_end name r.played.first script.steps.items r.played.last run
          ≡ Some id)
      by (u, taken, waits) is =
          let steps = steps_calls handler raise_end r.played.first script.steps.items u taken in
          let wait = wait_calls raise_end u r.played.last waits in
          let report = report_calls raise_end r.lines r.played.last r.played.told r.played.reports in
          let at : level_in id steps ≡ Some level =
          sym (level_first id steps wait (begin_none handler raise_end id true u r.played.last waits))
          ∙ sym (level_first id (steps ++ wait) report
          (report_level raise_end id r.played.reports.all r.played.last r.played.told r.played.reports.tells))
          ∙ is in
          let (name, low, given) = steps_named handler raise_end script.steps.items id 0 level
          r.played.first u taken script.well_formed.names_in_order at in
          let many = script.well_formed.names_introduced in
          (name, omega (arith, low, many), given)

  -- for an id that no name got no handler was called
  pub none_called : (id : ℕ) (level : Level) → ((name : ℕ) → name < length script.names.items → id_named name ≡ Some id → ⊥)
      → calls_at_level handler.count level id r.after ≡ calls_at_level handler.count level id r.before
  none_called id level nobody = none_ungiven handler script calls e text r id level
      (not_some (level_in id way) (λ found is. (let (name, low, given) = own_name id found is in nobody name low given)))
