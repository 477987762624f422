-- What the steps of a whole script did to the machine.
use Rattle.std.proofs.Common.{◌≡◌, ℕ, ◌<◌, ◌≤◌, Bool, true, false, List, [], ◌++◌, length, get_or, refl, ap, sym}
use Rattle.std.proofs.Common.{◌∙◌, subst, arith}
use Rattle.std.proofs.lemmas.Bool.{ltb-true, ltb-false}
use Rattle.std.proofs.lemmas.Option.{slice_get_within, get_or_from_slice_get}
use Rattle.std.specs.Prelude.{nat_lt, slice_index_or}
use Rattle.cyc_types.specs.declared.level.Soft.{Soft}
use Rattle.cyc_types.specs.declared.level.Soft.TheVariants.{Low, Lock}
use Rattle.cyc_level.specs.Level.{empty_level}
use Rattle.cyc_script.specs.declared.script.Script.{Script}
use Rattle.cyc_script.specs.declared.step.Step.{Step}
use Rattle.cyc_model.specs.Acts.{events_at}
use Rattle.cyc_model.specs.Cpu.{Cpu}
use Rattle.cyc_model.specs.Questions.{plain}
use Rattle.cyc_model.specs.State.{State, absent, cpu_of}
use Rattle.cyc_model.specs.Laws.{level_on}
use Rattle.cyc_model.specs.Along.{IsSoundLevel}
use Rattle.cyc_model.specs.Enabled.{CanBeDone}
use Rattle.cyc_model.specs.Free.{AreFree, AllCanBeAdmitted}
use Rattle.cyc_model.specs.Report.{reports}
use Rattle.cyc_model.specs.Script.{start, names_of, no_indexes, run_on, run_of, text_of, text_with}
use Rattle.cyc_model.proofs.Enabling.{events_are_enabled, new_level}
use Rattle.cyc_model.proofs.Reaching.{well_steps, start_good, length_new}
use Rattle.cyc_model.proofs.Telling.{tells_steps}
use Rattle.cyc_model.proofs.Unindexed.{text_bare}
use Rattle.cyc_system_model.specs.ShownCpu.{shown_cpu}
use Rattle.cyc_system_model.specs.Shown.{shown_cpus}
use Rattle.cyc_replay.specs.declared.machine.Machine.{Machine}
use Rattle.cyc_replay.specs.Machine.{ShowsMachine}
use Rattle.cyc_replay.specs.Runs.{RunsTo, listed}
use Rattle.cyc_replay.proofs.Indexes.{same_line}
use Rattle.cyc_system_model.proofs.Cpus.{get_shown, long_shown}
use Rattle.cyc_replay.specs.Replay.{HasReplayed, LevelsAreSound}

-- ---- a run of a whole script

-- a machine that has taken no step
pub begun : (cpus ceiling : ℕ) (texts : List (List ℕ)) (names : ℕ) (m : Machine) → names ≡ length texts
    → ShowsMachine (start cpus ceiling names) m → RunsTo cpus ceiling texts [] m
begun cpus ceiling texts names m same held = record {
  given = [];
  holds = subst (λ k. ShowsMachine (start cpus ceiling k) m) same held;
  admissions = refl;
  free = λ n low soft. tt;
}

-- another machine that the definition's machine shows
pub runs_shown : (cpus ceiling : ℕ) (texts : List (List ℕ)) (steps : List Step) (m n : Machine)
    → RunsTo cpus ceiling texts steps m
    → ((s : State) → ShowsMachine s m → ShowsMachine s n) → RunsTo cpus ceiling texts steps n
runs_shown cpus ceiling texts steps m n r shows = record {
  given = r.given;
  holds = shows (run_on (listed r.given) cpus ceiling texts steps).state r.holds;
  admissions = r.admissions;
  free = r.free;
}

module _ (script : Script) (m : Machine) (r : RunsTo script.cpus script.ceiling (names_of script) script.steps.items m) where
  -- a level of a CPU, and one of no CPU
  free_at : (n : ℕ) (soft : Soft) (b : Bool) → nat_lt n script.cpus ≡ b → AllCanBeAdmitted
      (events_at n soft (run_on (listed r.given) script.cpus script.ceiling (names_of script) script.steps.items).acts)
      (empty_level script.ceiling)
  free_at n soft true is =
      let within = ltb-true n script.cpus is in
      subst (λ l. AllCanBeAdmitted
      (events_at n soft (run_on (listed r.given) script.cpus script.ceiling (names_of script) script.steps.items).acts) l)
      (new_level script.cpus n script.ceiling soft within) (r.free n within soft)
  free_at n soft false is =
      let low = script.cpus_in_range.0 in
      let s = start script.cpus script.ceiling (length (names_of script)) in
      let g = start_good script.cpus script.ceiling (length (names_of script)) (omega (arith, low)) in
      subst (λ es. AllCanBeAdmitted es (empty_level script.ceiling))
      (sym ((well_steps (names_of script) (listed r.given) 1 script.steps.items s g).0.outside n
      (subst (λ k. k ≤ n) (sym (length_new script.cpus script.ceiling)) (ltb-false n script.cpus is)) soft)) tt

  all_free : AreFree (listed r.given) script
  unfolding run_of
  all_free n soft = free_at n soft (nat_lt n script.cpus) refl

  held : (n : ℕ) → n < script.cpus → (soft : Soft) → CanBeDone n soft (listed r.given) script
  held n within soft = events_are_enabled (listed r.given) script all_free n within soft

  -- the definition's level is the machine's own
  levels : LevelsAreSound m
  unfolding run_of
  levels n cpu is =
      let s = (run_on (listed r.given) script.cpus script.ceiling (names_of script) script.steps.items).state in
      let agrees = r.holds.system.agrees in
      let inside = slice_get_within m.system.cpus.cpus n cpu is in
      let there : cpu_of n s ≡ shown_cpu (get_or m.system.cpus.online n true) cpu =
      ap (λ cs. slice_index_or cs n absent) r.holds.shows.cpus
      ∙ get_shown m.system.cpus.online m.system.cpus.cpus n true cpu agrees.long inside
      ∙ ap (shown_cpu (get_or m.system.cpus.online n true)) (get_or_from_slice_get m.system.cpus.cpus n cpu cpu is) in
      let long = long_shown m.system.cpus.online m.system.cpus.cpus agrees.long in
      let has : length s.cpus ≡ length (shown_cpus m.system.cpus) = ap length r.holds.shows.cpus in
      let many = (tells_steps plain (names_of script) (listed r.given) 1 script.steps.items
      (start script.cpus script.ceiling (length (names_of script)))).tells.as_many in
      let new = length_new script.cpus script.ceiling in
      let within : n < script.cpus = omega (arith, inside, long, has, many, new) in
      let sound : (soft : Soft) → IsSoundLevel (level_on n soft s) = λ soft. (held n within soft).end in (
        subst (λ (c : Cpu). IsSoundLevel c.lock) there (sound Lock),
        subst (λ (c : Cpu). IsSoundLevel c.low) there (sound Low),
      )

  pub has_run : HasReplayed script m
  unfolding run_of
  has_run = record { indexes = listed r.given; free = all_free; holds = r.holds; events = held; levels = levels }

  -- the lines of the steps and the report of the machine's own run are the text of the script
  pub whole_text : (run_on no_indexes script.cpus script.ceiling (names_of script) script.steps.items).line
      ++ reports 0 (names_of script) (run_on (listed r.given) script.cpus script.ceiling
      (names_of script) script.steps.items).state
      ≡ text_of script
  unfolding text_with run_of
  whole_text =
      ap (λ line. line ++ reports 0 (names_of script)
      (run_on (listed r.given) script.cpus script.ceiling (names_of script) script.steps.items).state)
      (same_line script.cpus script.ceiling (names_of script) script.steps.items no_indexes (listed r.given))
      ∙ text_bare (listed r.given) script.cpus script.ceiling (names_of script) script.steps.items
