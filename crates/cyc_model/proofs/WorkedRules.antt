-- The definition of the text, computed on a script for each rule that is easily read in two ways.
use Rattle.std.proofs.Common.{◌≡◌, [], ◌∷◌, ◌++◌, refl, codes}
use Rattle.std.specs.Prelude.{pos, negsuc}
use Rattle.std.specs.Fmt.{digits}
use Rattle.cyc_types.specs.declared.level.Level.TheVariants as level
use Rattle.cyc_types.specs.declared.level.Soft.TheVariants as soft
use Rattle.cyc_types.specs.Expirations.{expirations, due_of, after_expirations}
use Rattle.cyc_text.specs.Lines.{accepted, refused, fired, ran, kept, removed, moved, cyclics_left, reported}
use Rattle.cyc_script.specs.declared.step.Step.TheVariants.{Unbind, Remove, Advance, Juggle, Offline, Online}
use Rattle.cyc_model.proofs.Steps.{add, omni, bind, reprogram, reprogram_on, softint, text, most}

-- a CPU whose component is drained is free for another removal, while the removal is open on another CPU
a_drained_component_frees_its_cpu : text 2 most (codes "a" ∷ codes "b" ∷ [])
    (omni level.Low 0 10 10 0 ∷ add level.High 1 50 10 ∷ Advance 10 ∷ Remove 0 ∷ Remove 1 ∷ softint 0 soft.Low 8 ∷ Remove 1 ∷
    Remove 0 ∷ softint 1 soft.Low 8 ∷ [])
    ≡ codes "1 ok\n2 ok\n3 fired 2 lost 0\n4 kept 2\n5 refused 7\n6 ran 1 idle\n7 removed b 0\n8 refused 7\n"
    ++ codes "9 ran 1 idle\n9 removed a 2\na expired 2 called 2 lost 0 pending 0\n"
    ++ codes "b expired 0 called 0 lost 0 pending 0\n"
unfolding expirations due_of after_expirations accepted refused fired ran kept removed moved cyclics_left reported digits
a_drained_component_frees_its_cpu = refl

-- the component of CPU 0 starts at 0 and waits for 30; that of CPU 1 starts at 3, long past, and fires 3, 13 and 23
only_a_start_of_zero_is_aligned : text 2 most (codes "a" ∷ [])
    (Advance 25 ∷ omni level.High 0 0 10 3 ∷ Advance 25 ∷ [])
    ≡ codes "1 fired 0 lost 0\n2 ok\n3 fired 3 lost 0\na expired 3 called 3 lost 0 pending 0\n"
unfolding expirations due_of after_expirations accepted refused fired ran kept removed moved cyclics_left reported digits
only_a_start_of_zero_is_aligned = refl

-- the component of CPU 1 would start after never
a_start_past_never_is_never : text 2 most (codes "a" ∷ [])
    (omni level.High 0 5 10 9223372036854775807 ∷ Advance 9223372036854775806 ∷ [])
    ≡ codes "1 ok\n2 fired 1 lost 0\na expired 1 called 1 lost 0 pending 0\n"
unfolding expirations due_of after_expirations accepted refused fired ran kept removed moved cyclics_left reported digits
a_start_past_never_is_never = refl

-- the first multiple of never is never
a_one_shot_without_a_start_never_fires : text 1 most (codes "a" ∷ [])
    (add level.High 0 0 9223372036854775807 ∷ Advance 9223372036854775806 ∷ [])
    ≡ codes "1 ok\n2 fired 0 lost 0\na expired 0 called 0 lost 0 pending 0\n"
unfolding expirations due_of after_expirations accepted refused fired ran kept removed moved cyclics_left reported digits
a_one_shot_without_a_start_never_fires = refl

-- a budget of 0 does not even follow, and after the last call of a budget there is no look
no_budget_is_no_look : text 1 most (codes "a" ∷ codes "b" ∷ codes "c" ∷ codes "d" ∷ [])
    (add level.Low 0 1 10 ∷ add level.Low 1 2 10 ∷ softint 0 soft.Lock 1 ∷ softint 0 soft.Low 0 ∷ add level.Low 2 3 10 ∷
    softint 0 soft.Low 1 ∷ add level.Low 3 3 10 ∷ Advance 1 ∷ softint 0 soft.Low 1 ∷ softint 0 soft.Low 1 ∷ [])
    ≡ codes "1 ok\n2 ok\n3 ran 0 idle\n4 ran 0 more\n5 refused 6\n6 ran 0 idle\n7 ok\n8 fired 1 lost 0\n"
    ++ codes "9 ran 1 more\n10 ran 0 idle\na expired 1 called 1 lost 0 pending 0\n"
    ++ codes "b expired 0 called 0 lost 0 pending 0\nc expired 0 called 0 lost 0 pending 0\n"
    ++ codes "d expired 0 called 0 lost 0 pending 0\n"
unfolding expirations due_of after_expirations accepted refused fired ran kept removed moved cyclics_left reported digits
no_budget_is_no_look = refl

-- CPU 0 has two cyclics while the removal of a is open, so d comes to CPU 1
a_cyclic_whose_removal_is_open_counts : text 2 most (codes "a" ∷ codes "b" ∷ codes "c" ∷ codes "d" ∷ [])
    (add level.Low 0 1 10 ∷ add level.High 1 100 10 ∷ add level.High 2 100 10 ∷ Advance 1 ∷ Remove 0 ∷
    add level.High 3 100 10 ∷ softint 0 soft.Low 8 ∷ Juggle 1 ∷ [])
    ≡ codes "1 ok\n2 ok\n3 ok\n4 fired 1 lost 0\n5 kept 1\n6 ok\n7 ran 1 idle\n7 removed a 1\n"
    ++ codes "8 moved 1 bound 0 pending 0 refused 1\na expired 1 called 1 lost 0 pending 0\n"
    ++ codes "b expired 0 called 0 lost 0 pending 0\nc expired 0 called 0 lost 0 pending 0\n"
    ++ codes "d expired 0 called 0 lost 0 pending 0\n"
unfolding expirations due_of after_expirations accepted refused fired ran kept removed moved cyclics_left reported digits
a_cyclic_whose_removal_is_open_counts = refl

-- both are asked only where the size must grow
a_removal_is_named_before_the_banks : text 1 most
    (codes "a" ∷ codes "b" ∷ codes "c" ∷ codes "d" ∷ codes "e" ∷ codes "f" ∷ codes "g" ∷ [])
    (add level.Low 0 1 10 ∷ add level.Low 1 100 10 ∷ Advance 1 ∷ Remove 0 ∷ add level.High 2 5 10 ∷ softint 0 soft.Low 8 ∷
    add level.High 3 5 10 ∷ add level.High 4 5 10 ∷ softint 0 soft.Lock 1 ∷ add level.High 5 5 10 ∷ add level.Low 6 100 10 ∷ [])
    ≡ codes "1 ok\n2 ok\n3 fired 1 lost 0\n4 kept 1\n5 refused 7\n6 ran 1 idle\n6 removed a 1\n7 ok\n8 refused 6\n"
    ++ codes "9 ran 0 idle\n10 ok\n11 ok\na expired 1 called 1 lost 0 pending 0\n"
    ++ codes "b expired 0 called 0 lost 0 pending 0\nc expired 0 called 0 lost 0 pending 0\n"
    ++ codes "d expired 0 called 0 lost 0 pending 0\ne expired 0 called 0 lost 0 pending 0\n"
    ++ codes "f expired 0 called 0 lost 0 pending 0\ng expired 0 called 0 lost 0 pending 0\n"
unfolding expirations due_of after_expirations accepted refused fired ran kept removed moved cyclics_left reported digits
a_removal_is_named_before_the_banks = refl

-- a cyclic that is not omnipresent has no component, also on its own CPU
the_refusals_of_a_reprogram : text 2 most (codes "a" ∷ codes "z" ∷ codes "o" ∷ [])
    (add level.High 0 10 10 ∷ add level.High 1 0 0 ∷ reprogram 1 (negsuc 0) ∷ reprogram 1 (pos 5) ∷ reprogram_on 0 (pos 5) 9 ∷
    reprogram_on 0 (pos 5) 0 ∷ Offline 1 ∷ reprogram_on 0 (pos 5) 1 ∷ omni level.High 2 50 10 0 ∷ reprogram_on 2 (pos 5) 0 ∷
    Advance 5 ∷ [])
    ≡ codes "1 ok\n2 refused 3\n3 refused 2\n4 refused 8\n5 refused 13\n6 refused 8\n7 ok\n8 refused 14\n9 ok\n"
    ++ codes "10 ok\n11 fired 1 lost 0\na expired 0 called 0 lost 0 pending 0\nz expired 0 called 0 lost 0 pending 0\n"
    ++ codes "o expired 1 called 1 lost 0 pending 0\n"
unfolding expirations due_of after_expirations accepted refused fired ran kept removed moved cyclics_left reported digits
the_refusals_of_a_reprogram = refl

-- bound cyclics stay in a juggle, and move by a bind
a_bound_cyclic_can_be_bound_elsewhere : text 2 most (codes "a" ∷ [])
    (add level.High 0 10 10 ∷ bind 0 0 ∷ bind 0 1 ∷ Offline 0 ∷ [])
    ≡ codes "1 ok\n2 ok\n3 ok\n4 ok\na expired 0 called 0 lost 0 pending 0\n"
unfolding expirations due_of after_expirations accepted refused fired ran kept removed moved cyclics_left reported digits
a_bound_cyclic_can_be_bound_elsewhere = refl

a_refused_bind_does_not_bind : text 2 most (codes "a" ∷ [])
    (add level.Low 0 10 10 ∷ Advance 10 ∷ bind 0 1 ∷ softint 0 soft.Low 8 ∷ Juggle 0 ∷ [])
    ≡ codes "1 ok\n2 fired 1 lost 0\n3 refused 9\n4 ran 1 idle\n5 moved 1 bound 0 pending 0 refused 0\n"
    ++ codes "a expired 1 called 1 lost 0 pending 0\n"
unfolding expirations due_of after_expirations accepted refused fired ran kept removed moved cyclics_left reported digits
a_refused_bind_does_not_bind = refl

-- the removal is named before the calls outstanding
no_cyclic_leaves_a_cpu_with_an_open_removal : text 2 most (codes "a" ∷ codes "b" ∷ codes "c" ∷ [])
    (add level.Low 0 1 10 ∷ add level.High 1 5 10 ∷ add level.Low 2 1 10 ∷ Advance 1 ∷ Remove 0 ∷ bind 2 1 ∷ Juggle 0 ∷
    Offline 0 ∷ [])
    ≡ codes "1 ok\n2 ok\n3 ok\n4 fired 2 lost 0\n5 kept 1\n6 refused 7\n7 refused 7\n8 refused 7\n"
    ++ codes "a expired 1 called 0 lost 0 pending 1\nb expired 0 called 0 lost 0 pending 0\n"
    ++ codes "c expired 1 called 0 lost 0 pending 1\n"
unfolding expirations due_of after_expirations accepted refused fired ran kept removed moved cyclics_left reported digits
no_cyclic_leaves_a_cpu_with_an_open_removal = refl

bound_is_counted_before_pending : text 2 most (codes "a" ∷ [])
    (add level.Low 0 1 10 ∷ bind 0 0 ∷ Advance 1 ∷ Juggle 0 ∷ [])
    ≡ codes "1 ok\n2 ok\n3 fired 1 lost 0\n4 moved 0 bound 1 pending 0 refused 0\n"
    ++ codes "a expired 1 called 0 lost 0 pending 1\n"
unfolding expirations due_of after_expirations accepted refused fired ran kept removed moved cyclics_left reported digits
bound_is_counted_before_pending = refl

-- a comes to CPU 1 and then d to CPU 2: on CPU 1 it would be refused
each_cyclic_takes_its_destination_afresh : text 3 most (codes "a" ∷ codes "b" ∷ codes "c" ∷ codes "d" ∷ [])
    (add level.High 0 10 10 ∷ add level.High 1 10 10 ∷ add level.High 2 10 10 ∷ add level.High 3 10 10 ∷ Juggle 0 ∷ [])
    ≡ codes "1 ok\n2 ok\n3 ok\n4 ok\n5 moved 2 bound 0 pending 0 refused 0\na expired 0 called 0 lost 0 pending 0\n"
    ++ codes "b expired 0 called 0 lost 0 pending 0\nc expired 0 called 0 lost 0 pending 0\n"
    ++ codes "d expired 0 called 0 lost 0 pending 0\n"
unfolding expirations due_of after_expirations accepted refused fired ran kept removed moved cyclics_left reported digits
each_cyclic_takes_its_destination_afresh = refl

-- CPU 1 has two of two, CPU 2 three of four
no_second_destination_is_tried : text 3 most (codes "a" ∷ codes "b" ∷ codes "c" ∷ codes "d" ∷ codes "e" ∷ codes "f" ∷ [])
    (add level.High 0 10 10 ∷ add level.High 1 10 10 ∷ add level.High 2 10 10 ∷ add level.High 3 10 10 ∷
    add level.High 4 10 10 ∷ add level.High 5 10 10 ∷ softint 2 soft.Low 1 ∷ softint 2 soft.Lock 1 ∷ bind 3 2 ∷ Juggle 0 ∷ [])
    ≡ codes "1 ok\n2 ok\n3 ok\n4 ok\n5 ok\n6 ok\n7 ran 0 idle\n8 ran 0 idle\n9 ok\n"
    ++ codes "10 moved 0 bound 0 pending 0 refused 1\na expired 0 called 0 lost 0 pending 0\n"
    ++ codes "b expired 0 called 0 lost 0 pending 0\nc expired 0 called 0 lost 0 pending 0\n"
    ++ codes "d expired 0 called 0 lost 0 pending 0\ne expired 0 called 0 lost 0 pending 0\n"
    ++ codes "f expired 0 called 0 lost 0 pending 0\n"
unfolding expirations due_of after_expirations accepted refused fired ran kept removed moved cyclics_left reported digits
no_second_destination_is_tried = refl

-- the removal is open on CPU 1 alone: CPU 0 comes back without a component, and its counts are in the receipt
a_removal_that_is_done_here_does_not_hinder : text 2 most (codes "a" ∷ [])
    (omni level.Low 0 10 10 0 ∷ Advance 10 ∷ softint 0 soft.Low 8 ∷ Remove 0 ∷ Offline 0 ∷ Online 0 ∷ Advance 20 ∷
    softint 1 soft.Low 8 ∷ [])
    ≡ codes "1 ok\n2 fired 2 lost 0\n3 ran 1 idle\n4 kept 1\n5 ok\n6 ok\n7 fired 0 lost 0\n8 ran 1 idle\n"
    ++ codes "8 removed a 2\na expired 2 called 2 lost 0 pending 0\n"
unfolding expirations due_of after_expirations accepted refused fired ran kept removed moved cyclics_left reported digits
a_removal_that_is_done_here_does_not_hinder = refl

-- a cyclic that is left is named before the calls of components
what_moved_stays_moved : text 2 most (codes "b" ∷ codes "a" ∷ [])
    (add level.High 0 100 10 ∷ bind 0 0 ∷ omni level.Low 1 10 10 0 ∷ Advance 10 ∷ Offline 0 ∷ Unbind 0 ∷ Offline 0 ∷ Juggle 0 ∷
    [])
    ≡ codes "1 ok\n2 ok\n3 ok\n4 fired 2 lost 0\n5 left moved 0 bound 1 pending 0 refused 0\n6 ok\n7 refused 9\n"
    ++ codes "8 moved 0 bound 0 pending 0 refused 0\nb expired 0 called 0 lost 0 pending 0\n"
    ++ codes "a expired 2 called 0 lost 0 pending 2\n"
unfolding expirations due_of after_expirations accepted refused fired ran kept removed moved cyclics_left reported digits
what_moved_stays_moved = refl

while_a_removal_is_open : text 2 most (codes "a" ∷ [])
    (add level.Low 0 1 10 ∷ Advance 1 ∷ Remove 0 ∷ bind 0 0 ∷ bind 0 9 ∷ Unbind 0 ∷ reprogram 0 (pos 5) ∷
    reprogram_on 0 (pos 5) 9 ∷ Remove 0 ∷ [])
    ≡ codes "1 ok\n2 fired 1 lost 0\n3 kept 1\n4 refused 8\n5 refused 8\n6 refused 8\n7 refused 8\n8 refused 8\n"
    ++ codes "9 refused 7\na expired 1 called 0 lost 0 pending 1\n"
unfolding expirations due_of after_expirations accepted refused fired ran kept removed moved cyclics_left reported digits
while_a_removal_is_open = refl

-- so both soft levels have to follow
high_cyclics_use_indexes_too : text 1 most (codes "a" ∷ codes "b" ∷ codes "c" ∷ codes "d" ∷ codes "e" ∷ [])
    (add level.High 0 1 10 ∷ add level.High 1 2 10 ∷ add level.High 2 3 10 ∷ softint 0 soft.Low 8 ∷ add level.High 3 3 10 ∷
    softint 0 soft.Lock 8 ∷ add level.High 4 3 10 ∷ [])
    ≡ codes "1 ok\n2 ok\n3 refused 6\n4 ran 0 idle\n5 refused 6\n6 ran 0 idle\n7 ok\n"
    ++ codes "a expired 0 called 0 lost 0 pending 0\nb expired 0 called 0 lost 0 pending 0\n"
    ++ codes "c expired 0 called 0 lost 0 pending 0\nd expired 0 called 0 lost 0 pending 0\n"
    ++ codes "e expired 0 called 0 lost 0 pending 0\n"
unfolding expirations due_of after_expirations accepted refused fired ran kept removed moved cyclics_left reported digits
high_cyclics_use_indexes_too = refl

-- the calls outstanding are asked for before the mark: the cyclic expires on
a_refused_move_leaves_no_mark : text 2 most (codes "a" ∷ [])
    (add level.Low 0 10 10 ∷ Advance 10 ∷ bind 0 1 ∷ Advance 20 ∷ softint 0 soft.Low 8 ∷ bind 0 1 ∷ Advance 30 ∷
    softint 1 soft.Low 8 ∷ [])
    ≡ codes "1 ok\n2 fired 1 lost 0\n3 refused 9\n4 fired 1 lost 0\n5 ran 2 idle\n6 ok\n7 fired 1 lost 0\n"
    ++ codes "8 ran 1 idle\na expired 3 called 3 lost 0 pending 0\n"
unfolding expirations due_of after_expirations accepted refused fired ran kept removed moved cyclics_left reported digits
a_refused_move_leaves_no_mark = refl
