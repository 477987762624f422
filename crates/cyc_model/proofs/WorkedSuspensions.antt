-- The definition of the text, computed on worked scripts that suspend the system and resume it.
use Rattle.std.proofs.Common.{◌≡◌, [], ◌∷◌, ◌++◌, refl, codes}
use Rattle.std.specs.Fmt.{digits}
use Rattle.cyc_types.specs.declared.level.Level.TheVariants as level
use Rattle.cyc_types.specs.declared.level.Soft.TheVariants as soft
use Rattle.cyc_types.specs.Expirations.{expirations, due_of, after_expirations}
use Rattle.cyc_text.specs.Lines.{accepted, refused, fired, ran, kept, removed, moved, cyclics_left, reported}
use Rattle.cyc_script.specs.declared.step.Step.TheVariants.{Remove, Advance, Offline, Online, Suspend, Resume}
use Rattle.cyc_model.proofs.Steps.{add, omni, softint, text, most}

one_fire_makes_all_that_was_due : text 1 most (codes "a" ∷ [])
    (add level.High 0 10 10 ∷ Suspend ∷ Advance 35 ∷ Suspend ∷ Resume ∷ Resume ∷ Advance 36 ∷ [])
    ≡ codes "1 ok\n2 ok\n3 refused 25\n4 refused 25\n5 ok\n6 refused 26\n7 fired 3 lost 0\n"
    ++ codes "a expired 3 called 3 lost 0 pending 0\n"
unfolding expirations due_of after_expirations accepted refused fired ran kept removed moved cyclics_left reported digits
one_fire_makes_all_that_was_due = refl

-- more than a second late it skips what it missed
the_bound_of_a_second_holds : text 1 most (codes "a" ∷ [])
    (add level.High 0 100000000 100000000 ∷ Suspend ∷ Advance 1200000001 ∷ Resume ∷ Advance 1200000001 ∷ [])
    ≡ codes "1 ok\n2 ok\n3 refused 25\n4 ok\n5 fired 1 lost 0\na expired 1 called 1 lost 0 pending 0\n"
unfolding expirations due_of after_expirations accepted refused fired ran kept removed moved cyclics_left reported digits
the_bound_of_a_second_holds = refl

-- a start of zero is aligned to the clock that the refused advance set
a_refused_advance_sets_the_clock : text 1 most (codes "a" ∷ [])
    (Suspend ∷ Advance 25 ∷ add level.High 0 0 10 ∷ Resume ∷ Advance 30 ∷ [])
    ≡ codes "1 ok\n2 refused 25\n3 ok\n4 ok\n5 fired 1 lost 0\na expired 1 called 1 lost 0 pending 0\n"
unfolding expirations due_of after_expirations accepted refused fired ran kept removed moved cyclics_left reported digits
a_refused_advance_sets_the_clock = refl

soft_interrupts_go_on : text 1 most (codes "a" ∷ [])
    (add level.Low 0 10 10 ∷ Advance 10 ∷ Suspend ∷ softint 0 soft.Low 8 ∷ Remove 0 ∷ [])
    ≡ codes "1 ok\n2 fired 1 lost 0\n3 ok\n4 ran 1 idle\n5 removed a 1\na expired 1 called 1 lost 0 pending 0\n"
unfolding expirations due_of after_expirations accepted refused fired ran kept removed moved cyclics_left reported digits
soft_interrupts_go_on = refl

an_offline_cpu_is_suspended_too : text 2 most (codes "a" ∷ [])
    (omni level.High 0 10 10 0 ∷ Offline 1 ∷ Suspend ∷ Online 1 ∷ Advance 20 ∷ Resume ∷ Advance 20 ∷ [])
    ≡ codes "1 ok\n2 ok\n3 ok\n4 ok\n5 refused 25\n6 ok\n7 fired 4 lost 0\na expired 4 called 4 lost 0 pending 0\n"
unfolding expirations due_of after_expirations accepted refused fired ran kept removed moved cyclics_left reported digits
an_offline_cpu_is_suspended_too = refl

-- a move is no fire
moves_go_on : text 2 most (codes "a" ∷ [])
    (add level.High 0 10 10 ∷ Advance 10 ∷ Suspend ∷ Offline 0 ∷ Advance 25 ∷ Resume ∷ Advance 25 ∷ [])
    ≡ codes "1 ok\n2 fired 1 lost 0\n3 ok\n4 ok\n5 refused 25\n6 ok\n7 fired 1 lost 0\n"
    ++ codes "a expired 2 called 2 lost 0 pending 0\n"
unfolding expirations due_of after_expirations accepted refused fired ran kept removed moved cyclics_left reported digits
moves_go_on = refl
