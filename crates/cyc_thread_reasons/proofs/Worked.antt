-- The definitions, computed on worked scripts.
use Rattle.std.proofs.Common.{◌≡◌, ℕ, ◌+◌, ◌-◌, ◌*◌, true, false, Some, None, List, [], ◌∷◌, replicate, refl}
use Rattle.std.specs.Prelude.{pos, negsuc}
use Rattle.cyc_types.specs.Limits.{cyclics as most_cyclics}
use Rattle.cyc_types.specs.declared.level.Level.TheVariants as level
use Rattle.cyc_types.specs.declared.level.Soft.TheVariants as soft
use Rattle.cyc_script.specs.declared.step.Step.{Step}
use Rattle.cyc_script.specs.declared.step.Step.TheVariants.{Add, Omni, Bind, Unbind, Reprogram, Remove, Advance, Softint, Juggle}
use Rattle.cyc_script.specs.declared.step.Step.TheVariants.{Offline, Online, Suspend, Resume}
use Rattle.cyc_expected.specs.Expected.{Met}
use Rattle.cyc_thread_reasons.specs.Known.{Absent, OnOne, Known, known_first, name_has, known_after}
use Rattle.cyc_thread_reasons.specs.Reasons.{has_reason}

abbrev taken : Step → Met
taken x = record { step = x; accepted = true }

abbrev refused : Step → Met
refused x = record { step = x; accepted = false }

abbrev after : List Met → Known → Known
after [] t = t
after (m ∷ ms) t = after ms (known_after m t)

abbrev add : ℕ → Step
add name = Add (record { name = name; level = level.Low; start = pos 10; interval = pos 10 })

abbrev omni : ℕ → Step
omni name = Omni (record { name = name; level = level.Low; start = pos 10; interval = pos 10; skew = 0 })

abbrev bind : ℕ → ℕ → Step
bind name cpu = Bind (record { name = name; cpu = cpu })

abbrev soften : Step
soften = Softint (record { cpu = 0; level = soft.Low; budget = 1 })

-- ---- names

abbrev one : Known
one = after (taken (add 0) ∷ []) (known_first 2 3)

what_was_refused_is_not_told : name_has 0 (after (refused (add 0) ∷ []) (known_first 2 3)) ≡ Absent
what_was_refused_is_not_told = refl

a_name_without_a_cyclic_is_not_removed : has_reason (Remove 1) one ≡ true
a_name_without_a_cyclic_is_not_removed = refl

one_with_a_cyclic_is : has_reason (Remove 0) one ≡ false
one_with_a_cyclic_is = refl

a_start_is_not_negative :
    has_reason (Add (record { name = 1; level = level.Low; start = negsuc 0; interval = pos 10 })) one ≡ true
a_start_is_not_negative = refl

a_single_one_has_no_components :
    has_reason (Reprogram (record { name = 0; moment = pos 5; cpu = Some 0 })) one ≡ true
a_single_one_has_no_components = refl

an_omnipresent_one_has_them :
    has_reason (Reprogram (record { name = 1; moment = pos 5; cpu = Some 0 })) (after (taken (omni 1) ∷ []) one) ≡ false
an_omnipresent_one_has_them = refl

but_not_where_none_is_online :
    has_reason (Reprogram (record { name = 1; moment = pos 5; cpu = Some 1 }))
    (after (taken (omni 1) ∷ taken (Offline 1) ∷ []) one) ≡ true
but_not_where_none_is_online = refl

-- ---- removals

abbrev two : Known
two = after (taken (add 1) ∷ taken (Remove 0) ∷ []) one

what_was_removed_is_gone : name_has 0 two ≡ Absent
what_was_removed_is_gone = refl

a_removal_may_be_open : has_reason (Remove 1) two ≡ true
a_removal_may_be_open = refl

also_after_an_advance : has_reason (Remove 1) (after (taken (Advance 100) ∷ []) two) ≡ true
also_after_an_advance = refl

not_after_a_word_that_waits : has_reason (Remove 1) (after (taken soften ∷ []) two) ≡ false
not_after_a_word_that_waits = refl

nor_where_that_was_refused : has_reason (Remove 1) (after (refused (Online 0) ∷ []) two) ≡ false
nor_where_that_was_refused = refl

-- ---- CPUs

the_last_cpu_stays : has_reason (Offline 0) (known_first 1 1) ≡ true
the_last_cpu_stays = refl

its_cyclics_stay : has_reason (Juggle 0) (known_first 1 1) ≡ true
its_cyclics_stay = refl

one_of_two_may_go : has_reason (Offline 0) one ≡ false
one_of_two_may_go = refl

one_that_is_not_there_may_not : has_reason (Offline 2) one ≡ true
one_that_is_not_there_may_not = refl

one_to_which_a_cyclic_is_bound_may_not : has_reason (Offline 1) (after (taken (bind 0 1) ∷ []) one) ≡ true
one_to_which_a_cyclic_is_bound_may_not = refl

the_other_may : has_reason (Offline 0) (after (taken (bind 0 1) ∷ []) one) ≡ false
the_other_may = refl

once_it_is_unbound_too : has_reason (Offline 1) (after (taken (bind 0 1) ∷ taken (Unbind 0) ∷ []) one) ≡ false
once_it_is_unbound_too = refl

an_offline_cpu_gets_none : has_reason (bind 0 1) (after (taken (Offline 1) ∷ []) one) ≡ true
an_offline_cpu_gets_none = refl

it_may_come_back : has_reason (Online 1) (after (taken (Offline 1) ∷ []) one) ≡ false
it_may_come_back = refl

an_online_one_may_not : has_reason (Online 0) (after (taken (Offline 1) ∷ []) one) ≡ true
an_online_one_may_not = refl

-- ---- suspended

abbrev stopped : Known
stopped = after (taken Suspend ∷ []) one

no_advance_is_accepted_while_suspended : has_reason (Advance 50) stopped ≡ true
no_advance_is_accepted_while_suspended = refl

it_is_not_suspended_twice : has_reason Suspend stopped ≡ true
it_is_not_suspended_twice = refl

after_a_resume_one_is : has_reason (Advance 50) (after (taken Resume ∷ []) stopped) ≡ false
after_a_resume_one_is = refl

what_goes_on_is_not_resumed : has_reason Resume one ≡ true
what_goes_on_is_not_resumed = refl

-- ---- room

-- so many names with a cyclic that is bound to CPU 0, over two CPUs
abbrev crowd : ℕ → Known
crowd many = record { online = true ∷ true ∷ []; names = replicate many (OnOne (Some 0)); leaving = false; suspended = false }

no_more_is_bound_to_a_full_cpu : has_reason (bind 0 0) (crowd most_cyclics) ≡ true
no_more_is_bound_to_a_full_cpu = refl

one_more_is : has_reason (bind 0 0) (crowd (most_cyclics - 1)) ≡ false
one_more_is = refl

none_is_everywhere : has_reason (omni most_cyclics) (crowd most_cyclics) ≡ true
none_is_everywhere = refl

one_more_is_added : has_reason (add most_cyclics) (crowd most_cyclics) ≡ false
one_more_is_added = refl

no_more_has_room : has_reason (add (2 * most_cyclics)) (crowd (2 * most_cyclics)) ≡ true
no_more_has_room = refl

the_last_of_them_has : has_reason (add (2 * most_cyclics - 1)) (crowd (2 * most_cyclics - 1)) ≡ false
the_last_of_them_has = refl

-- so many that are bound to none
abbrev flock : ℕ → Known
flock many = record { online = true ∷ true ∷ []; names = replicate many (OnOne None); leaving = false; suspended = false }

the_other_has_room_for_the_most : has_reason (Offline 0) (flock most_cyclics) ≡ false
the_other_has_room_for_the_most = refl

not_for_one_more : has_reason (Offline 0) (flock (most_cyclics + 1)) ≡ true
not_for_one_more = refl
