-- The definition of the text, computed on worked scripts of one CPU.
use Rattle.std.proofs.Common.{◌≡◌, [], ◌∷◌, ◌++◌, refl, codes}
use Rattle.std.specs.Prelude.{pos, negsuc}
use Rattle.std.specs.Fmt.{digits}
use Rattle.cyc_types.specs.declared.level.Level.TheVariants as level
use Rattle.cyc_types.specs.declared.level.Soft.TheVariants as soft
use Rattle.cyc_types.specs.Expirations.{expirations, due_of, after_expirations}
use Rattle.cyc_text.specs.Lines.{accepted, refused, fired, ran, kept, removed, moved, cyclics_left, reported}
use Rattle.cyc_script.specs.declared.step.Step.TheVariants.{Add, Remove, Advance}
use Rattle.cyc_model.proofs.Steps.{add, reprogram, softint, text, most}

high_calls_are_made_at_once : text 1 most (codes "a" ∷ [])
    (add level.High 0 0 10 ∷ Advance 35 ∷ [])
    ≡ codes "1 ok\n2 fired 3 lost 0\na expired 3 called 3 lost 0 pending 0\n"
unfolding expirations due_of after_expirations accepted refused fired ran kept removed moved cyclics_left reported digits
high_calls_are_made_at_once = refl

one_expiration_is_served : text 1 most (codes "a" ∷ [])
    (add level.Low 0 5 10 ∷ Advance 5 ∷ softint 0 soft.Low 8 ∷ [])
    ≡ codes "1 ok\n2 fired 1 lost 0\n3 ran 1 idle\na expired 1 called 1 lost 0 pending 0\n"
unfolding expirations due_of after_expirations accepted refused fired ran kept removed moved cyclics_left reported digits
one_expiration_is_served = refl

exactly_one_second_late_is_not_distant : text 1 most (codes "a" ∷ [])
    (add level.High 0 100000000 100000000 ∷ Advance 1200000000 ∷ [])
    ≡ codes "1 ok\n2 fired 12 lost 0\na expired 12 called 12 lost 0 pending 0\n"
unfolding expirations due_of after_expirations accepted refused fired ran kept removed moved cyclics_left reported digits
exactly_one_second_late_is_not_distant = refl

more_than_a_second_late_skips : text 1 most (codes "a" ∷ [])
    (add level.High 0 100000000 100000000 ∷ Advance 1200000001 ∷ Advance 1299999999 ∷ Advance 1300000000 ∷ [])
    ≡ codes "1 ok\n2 fired 1 lost 0\n3 fired 0 lost 0\n4 fired 1 lost 0\na expired 2 called 2 lost 0 pending 0\n"
unfolding expirations due_of after_expirations accepted refused fired ran kept removed moved cyclics_left reported digits
more_than_a_second_late_skips = refl

a_one_shot_is_reprogrammed : text 1 most (codes "a" ∷ [])
    (add level.High 0 7 9223372036854775807 ∷ Advance 100 ∷ reprogram 0 (pos 150) ∷ Advance 150 ∷
    reprogram 0 (pos 9223372036854775807) ∷ Advance 9223372036854775806 ∷ [])
    ≡ codes "1 ok\n2 fired 1 lost 0\n3 ok\n4 fired 1 lost 0\n5 ok\n6 fired 0 lost 0\n"
    ++ codes "a expired 2 called 2 lost 0 pending 0\n"
unfolding expirations due_of after_expirations accepted refused fired ran kept removed moved cyclics_left reported digits
a_one_shot_is_reprogrammed = refl

the_ceiling_loses : text 1 2 (codes "a" ∷ [])
    (add level.Low 0 1 1 ∷ Advance 5 ∷ softint 0 soft.Low 8 ∷ [])
    ≡ codes "1 ok\n2 fired 5 lost 3\n3 ran 2 idle\na expired 5 called 2 lost 3 pending 0\n"
unfolding expirations due_of after_expirations accepted refused fired ran kept removed moved cyclics_left reported digits
the_ceiling_loses = refl

the_cyclic_in_hand_is_not_put_in_again : text 1 most (codes "a" ∷ [])
    (add level.Low 0 1 1 ∷ Advance 2 ∷ softint 0 soft.Low 1 ∷ Advance 3 ∷ softint 0 soft.Low 8 ∷ [])
    ≡ codes "1 ok\n2 fired 2 lost 0\n3 ran 1 more\n4 fired 1 lost 0\n5 ran 2 idle\n"
    ++ codes "a expired 3 called 3 lost 0 pending 0\n"
unfolding expirations due_of after_expirations accepted refused fired ran kept removed moved cyclics_left reported digits
the_cyclic_in_hand_is_not_put_in_again = refl

the_old_bank_is_drained_first : text 1 most (codes "a" ∷ codes "b" ∷ [])
    (add level.Low 0 1 10 ∷ Advance 1 ∷ add level.Low 1 2 10 ∷ Advance 2 ∷ softint 0 soft.Low 1 ∷ [])
    ≡ codes "1 ok\n2 fired 1 lost 0\n3 ok\n4 fired 1 lost 0\n5 ran 1 more\na expired 1 called 1 lost 0 pending 0\n"
    ++ codes "b expired 1 called 0 lost 0 pending 1\n"
unfolding expirations due_of after_expirations accepted refused fired ran kept removed moved cyclics_left reported digits
the_old_bank_is_drained_first = refl

both_levels_must_follow : text 1 most (codes "a" ∷ codes "b" ∷ codes "c" ∷ codes "d" ∷ codes "e" ∷ [])
    (add level.Low 0 1 10 ∷ add level.Low 1 2 10 ∷ add level.Low 2 3 10 ∷ softint 0 soft.Low 8 ∷ add level.Low 3 3 10 ∷
    softint 0 soft.Lock 8 ∷ add level.Low 4 3 10 ∷ [])
    ≡ codes "1 ok\n2 ok\n3 refused 6\n4 ran 0 idle\n5 refused 6\n6 ran 0 idle\n7 ok\n"
    ++ codes "a expired 0 called 0 lost 0 pending 0\nb expired 0 called 0 lost 0 pending 0\n"
    ++ codes "c expired 0 called 0 lost 0 pending 0\nd expired 0 called 0 lost 0 pending 0\n"
    ++ codes "e expired 0 called 0 lost 0 pending 0\n"
unfolding expirations due_of after_expirations accepted refused fired ran kept removed moved cyclics_left reported digits
both_levels_must_follow = refl

kept_calls_are_made_before_a_removal_answers : text 1 most (codes "a" ∷ [])
    (add level.Low 0 1 1 ∷ Advance 3 ∷ Remove 0 ∷ Advance 9 ∷ Remove 0 ∷ softint 0 soft.Low 2 ∷ softint 0 soft.Low 8 ∷
    Remove 0 ∷ [])
    ≡ codes "1 ok\n2 fired 3 lost 0\n3 kept 3\n4 fired 0 lost 0\n5 refused 7\n6 ran 2 more\n7 ran 1 idle\n"
    ++ codes "7 removed a 3\n8 refused 8\na expired 3 called 3 lost 0 pending 0\n"
unfolding expirations due_of after_expirations accepted refused fired ran kept removed moved cyclics_left reported digits
kept_calls_are_made_before_a_removal_answers = refl

a_high_cyclic_is_removed_at_once : text 1 most (codes "a" ∷ [])
    (add level.High 0 0 10 ∷ Advance 20 ∷ Remove 0 ∷ Remove 0 ∷ [])
    ≡ codes "1 ok\n2 fired 2 lost 0\n3 removed a 2\n4 refused 8\na expired 2 called 2 lost 0 pending 0\n"
unfolding expirations due_of after_expirations accepted refused fired ran kept removed moved cyclics_left reported digits
a_high_cyclic_is_removed_at_once = refl

the_last_moment_is_never : text 1 most (codes "a" ∷ [])
    (add level.High 0 9223372036854775800 10 ∷ Advance 9223372036854775806 ∷ Advance 9223372036854775806 ∷ [])
    ≡ codes "1 ok\n2 fired 1 lost 0\n3 fired 0 lost 0\na expired 1 called 1 lost 0 pending 0\n"
unfolding expirations due_of after_expirations accepted refused fired ran kept removed moved cyclics_left reported digits
the_last_moment_is_never = refl

an_interval_is_at_least_one : text 1 most (codes "a" ∷ [])
    (add level.Low 0 0 0 ∷ [])
    ≡ codes "1 refused 3\na expired 0 called 0 lost 0 pending 0\n"
unfolding expirations due_of after_expirations accepted refused fired ran kept removed moved cyclics_left reported digits
an_interval_is_at_least_one = refl

a_start_is_not_negative : text 1 most (codes "a" ∷ [])
    (Add (record { name = 0; level = level.Low; start = negsuc 0; interval = pos 0 }) ∷ [])
    ≡ codes "1 refused 2\na expired 0 called 0 lost 0 pending 0\n"
unfolding expirations due_of after_expirations accepted refused fired ran kept removed moved cyclics_left reported digits
a_start_is_not_negative = refl
