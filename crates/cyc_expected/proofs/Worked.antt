-- The definition, computed on worked scripts.
use Rattle.std.proofs.Common.{◌≡◌, true, false, List, [], ◌∷◌, map, refl}
use Rattle.std.specs.Prelude.{pos}
use Rattle.cyc_types.specs.declared.level.Level.TheVariants as level
use Rattle.cyc_script.specs.declared.step.Step.{Step}
use Rattle.cyc_script.specs.declared.step.Step.TheVariants.{Remove, Advance, Juggle, Offline, Online, Suspend, Resume}
use Rattle.cyc_model.proofs.Steps.{add, omni, reprogram, reprogram_on}
use Rattle.cyc_expected.specs.Expected.{Met, expected}

-- an accepted step, and a refused one
abbrev ok : Step → Met
ok step = record { step = step; accepted = true }

abbrev no : Step → Met
no step = record { step = step; accepted = false }

multiples_of_the_interval : expected 1 (map ok (add level.High 0 0 10 ∷ Advance 35 ∷ [])) 0 ≡ 3
multiples_of_the_interval = refl

exactly_one_second_late_is_not_distant :
    expected 1 (map ok (add level.High 0 100000000 100000000 ∷ Advance 1200000000 ∷ [])) 0 ≡ 12
exactly_one_second_late_is_not_distant = refl

more_than_a_second_late_skips : expected 1 (map ok (add level.High 0 100000000 100000000 ∷ Advance 1200000001 ∷
    Advance 1299999999 ∷ Advance 1300000000 ∷ [])) 0 ≡ 2
more_than_a_second_late_skips = refl

a_one_shot_is_reprogrammed : expected 1 (map ok (add level.High 0 7 9223372036854775807 ∷ Advance 100 ∷
    reprogram 0 (pos 150) ∷ Advance 150 ∷ reprogram 0 (pos 9223372036854775807) ∷
    Advance 9223372036854775806 ∷ [])) 0 ≡ 2
a_one_shot_is_reprogrammed = refl

a_component_begins_again_at_its_start : expected 2 (map ok (omni level.High 0 10 10 3 ∷ Advance 23 ∷ Offline 1 ∷
    Online 1 ∷ Advance 33 ∷ [])) 0 ≡ 8
a_component_begins_again_at_its_start = refl

-- four names on four CPUs, one of which is removed, and moves among them
abbrev four : List Step
four = add level.High 0 10 10 ∷ add level.Lock 1 5 10 ∷ add level.Low 2 0 7 ∷ omni level.Low 3 10 10 1 ∷ Advance 100 ∷
    Remove 1 ∷ Juggle 0 ∷ Advance 200 ∷ []

the_high_one : expected 4 (map ok four) 0 ≡ 20
the_high_one = refl

a_removal_ends_it : expected 4 (map ok four) 1 ≡ 10
a_removal_ends_it = refl

a_start_of_0_is_the_first_multiple : expected 4 (map ok four) 2 ≡ 28
a_start_of_0_is_the_first_multiple = refl

each_component_starts_later : expected 4 (map ok four) 3 ≡ 77
each_component_starts_later = refl

-- a CPU that is offline makes no expiration: the other one makes those at 10 and 20
an_offline_cpu_does_not_fire : expected 2 (map ok (omni level.Low 0 10 10 0 ∷ Offline 1 ∷ Advance 20 ∷ [])) 0 ≡ 2
an_offline_cpu_does_not_fire = refl

-- a cyclic that is on one CPU goes on elsewhere
a_single_cyclic_moves_on : expected 2 (map ok (add level.Low 0 10 10 ∷ Advance 15 ∷ Offline 0 ∷ Advance 30 ∷ [])) 0 ≡ 3
a_single_cyclic_moves_on = refl

-- one component is set alone
a_component_is_set : expected 2 (map ok (omni level.High 0 10 10 0 ∷ reprogram_on 0 (pos 25) 1 ∷ Advance 30 ∷ [])) 0 ≡ 4
a_component_is_set = refl

-- what is refused is nothing
refused_steps_are_nothing : expected 1 (ok (add level.High 0 10 10) ∷ no (reprogram 0 (pos 1000)) ∷ no (Remove 0) ∷
    ok (Advance 20) ∷ []) 0 ≡ 2
refused_steps_are_nothing = refl

-- one that is refused sets the clock all the same: a start of 0 is aligned to 30
a_refused_advance_sets_the_clock : expected 1 (ok Suspend ∷ no (Advance 25) ∷ ok (add level.High 0 0 10) ∷ ok Resume ∷
    ok (Advance 30) ∷ []) 0 ≡ 1
a_refused_advance_sets_the_clock = refl

-- the next one that is accepted makes all that is due by then
one_fire_makes_all_that_was_due : expected 1 (ok (add level.High 0 10 10) ∷ ok Suspend ∷ no (Advance 35) ∷ no Suspend ∷
    ok Resume ∷ no Resume ∷ ok (Advance 36) ∷ []) 0 ≡ 3
one_fire_makes_all_that_was_due = refl
