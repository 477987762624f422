-- The definitions themselves, at the numbers of the tests.
use Rattle.std.proofs.Common.{◌≡◌, ◌-◌, refl}
use Rattle.cyc_types.specs.Series.{never, first, due, next}

next_multiple : first 0 7 14 ≡ 21
next_multiple = refl

first_never : first 0 never (never - 1) ≡ never
first_never = refl

start_has_passed : first 5 10 100 ≡ 5
start_has_passed = refl

exactly_one_second_late_is_not_distant : due 100000000 100000000 1200000000 ≡ 12
exactly_one_second_late_is_not_distant = refl

next_after_one_second : next 100000000 100000000 1200000000 ≡ 1300000000
next_after_one_second = refl

more_than_one_second_late_expires_once : due 100000000 100000000 1200000001 ≡ 1
more_than_one_second_late_expires_once = refl

late_skips_what_it_missed : next 100000000 100000000 1200000001 ≡ 1300000000
late_skips_what_it_missed = refl

not_yet_due : due 1300000000 100000000 1299999999 ≡ 0
not_yet_due = refl

stays_where_not_due : next 1300000000 100000000 1299999999 ≡ 1300000000
stays_where_not_due = refl

due_again : due 1300000000 100000000 1300000000 ≡ 1
due_again = refl

one_shot_expires : due 7 never 100 ≡ 1
one_shot_expires = refl

one_shot_is_over : next 7 never 100 ≡ never
one_shot_is_over = refl

never_is_not_due : due never never (never - 1) ≡ 0
never_is_not_due = refl

every_nanosecond : due 1 1 5 ≡ 5
every_nanosecond = refl

after_every_nanosecond : next 1 1 5 ≡ 6
after_every_nanosecond = refl

last_moment_before_never : next (never - 7) 10 (never - 1) ≡ never
last_moment_before_never = refl

longest_late : due 0 1 (never - 1) ≡ 1
longest_late = refl

longest_in_time : due (never - 1000000002) 1 (never - 1) ≡ 1000000002
longest_in_time = refl
