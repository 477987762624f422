-- The definition of the text, computed on worked scripts of several CPUs.
use Rattle.std.proofs.Common.{◌≡◌, [], ◌∷◌, ◌++◌, refl, codes}
use Rattle.std.specs.Prelude.{pos}
use Rattle.std.specs.Fmt.{digits}
use Rattle.cyc_types.specs.declared.level.Level.TheVariants as level
use Rattle.cyc_types.specs.declared.level.Soft.TheVariants as soft
use Rattle.cyc_types.specs.Expirations.{expirations, due_of, after_expirations}
use Rattle.cyc_text.specs.Lines.{accepted, refused, fired, ran, kept, removed, moved, cyclics_left, reported}
use Rattle.cyc_script.specs.declared.step.Step.TheVariants.{Unbind, Advance, Juggle, Offline, Online}
use Rattle.cyc_model.proofs.Steps.{add, omni, bind, reprogram, reprogram_on, softint, text, most}

bound_cyclics_are_left : text 2 most (codes "a" ∷ codes "b" ∷ codes "c" ∷ [])
    (add level.High 0 10 10 ∷ add level.High 1 10 10 ∷ add level.High 2 10 10 ∷ bind 0 0 ∷ Offline 0 ∷ Unbind 0 ∷ Offline 0 ∷
    softint 1 soft.Low 1 ∷ softint 1 soft.Lock 1 ∷ Offline 0 ∷ Offline 1 ∷ Offline 0 ∷ [])
    ≡ codes "1 ok\n2 ok\n3 ok\n4 ok\n5 left moved 1 bound 1 pending 0 refused 0\n6 ok\n"
    ++ codes "7 left moved 0 bound 0 pending 0 refused 1\n8 ran 0 idle\n9 ran 0 idle\n10 ok\n11 refused 15\n"
    ++ codes "12 refused 14\na expired 0 called 0 lost 0 pending 0\nb expired 0 called 0 lost 0 pending 0\n"
    ++ codes "c expired 0 called 0 lost 0 pending 0\n"
unfolding expirations due_of after_expirations accepted refused fired ran kept removed moved cyclics_left reported digits
bound_cyclics_are_left = refl

a_move_keeps_the_series : text 2 most (codes "a" ∷ [])
    (add level.Low 0 10 10 ∷ Advance 10 ∷ Juggle 0 ∷ softint 0 soft.Low 8 ∷ Juggle 0 ∷ Advance 20 ∷ softint 1 soft.Low 8 ∷ [])
    ≡ codes "1 ok\n2 fired 1 lost 0\n3 moved 0 bound 0 pending 1 refused 0\n4 ran 1 idle\n"
    ++ codes "5 moved 1 bound 0 pending 0 refused 0\n6 fired 1 lost 0\n7 ran 1 idle\n"
    ++ codes "a expired 2 called 2 lost 0 pending 0\n"
unfolding expirations due_of after_expirations accepted refused fired ran kept removed moved cyclics_left reported digits
a_move_keeps_the_series = refl

a_component_begins_again_at_its_start : text 2 most (codes "a" ∷ [])
    (omni level.High 0 10 10 3 ∷ Advance 23 ∷ Offline 1 ∷ Online 1 ∷ Advance 33 ∷ [])
    ≡ codes "1 ok\n2 fired 4 lost 0\n3 ok\n4 ok\n5 fired 4 lost 0\na expired 8 called 8 lost 0 pending 0\n"
unfolding expirations due_of after_expirations accepted refused fired ran kept removed moved cyclics_left reported digits
a_component_begins_again_at_its_start = refl

a_cpu_comes_back_with_room_for_all_components : text 2 most (codes "a" ∷ codes "b" ∷ codes "c" ∷ [])
    (omni level.High 0 10 10 0 ∷ omni level.High 1 10 10 0 ∷ Offline 1 ∷ softint 0 soft.Low 1 ∷ softint 0 soft.Lock 1 ∷
    omni level.High 2 10 10 0 ∷ Online 1 ∷ softint 1 soft.Low 1 ∷ softint 1 soft.Lock 1 ∷ Online 1 ∷ Advance 10 ∷ Online 1 ∷ [])
    ≡ codes "1 ok\n2 ok\n3 ok\n4 ran 0 idle\n5 ran 0 idle\n6 ok\n7 refused 6\n8 ran 0 idle\n9 ran 0 idle\n10 ok\n"
    ++ codes "11 fired 6 lost 0\n12 refused 24\na expired 2 called 2 lost 0 pending 0\n"
    ++ codes "b expired 2 called 2 lost 0 pending 0\nc expired 2 called 2 lost 0 pending 0\n"
unfolding expirations due_of after_expirations accepted refused fired ran kept removed moved cyclics_left reported digits
a_cpu_comes_back_with_room_for_all_components = refl

a_component_with_calls_outstanding_stays : text 2 most (codes "a" ∷ [])
    (omni level.Low 0 10 10 0 ∷ Advance 10 ∷ Offline 1 ∷ softint 1 soft.Low 8 ∷ Offline 1 ∷ [])
    ≡ codes "1 ok\n2 fired 2 lost 0\n3 refused 9\n4 ran 1 idle\n5 ok\na expired 2 called 1 lost 0 pending 1\n"
unfolding expirations due_of after_expirations accepted refused fired ran kept removed moved cyclics_left reported digits
a_component_with_calls_outstanding_stays = refl

binding_and_its_refusals : text 2 most (codes "a" ∷ codes "o" ∷ [])
    (add level.Low 0 10 10 ∷ Advance 10 ∷ bind 0 1 ∷ bind 0 2 ∷ softint 0 soft.Low 8 ∷ bind 0 1 ∷ Offline 0 ∷ bind 0 0 ∷
    omni level.High 1 10 10 0 ∷ bind 1 1 ∷ reprogram 1 (pos 50) ∷ reprogram_on 1 (pos 50) 1 ∷ [])
    ≡ codes "1 ok\n2 fired 1 lost 0\n3 refused 9\n4 refused 13\n5 ran 1 idle\n6 ok\n7 ok\n8 refused 14\n9 ok\n"
    ++ codes "10 refused 16\n11 refused 16\n12 ok\na expired 1 called 1 lost 0 pending 0\n"
    ++ codes "o expired 0 called 0 lost 0 pending 0\n"
unfolding expirations due_of after_expirations accepted refused fired ran kept removed moved cyclics_left reported digits
binding_and_its_refusals = refl
