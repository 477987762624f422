-- Why a step of a run in threads is refused, by what the accepted steps before it told (our own rule): the reasons of the
-- calls of a system (`cyc_system`), in the words of a script.
use Rattle.std.specs.Prelude.{ℕ, ◌+◌, ◌-◌, ◌*◌, ◌==◌, ◌||◌, ◌&&◌, nat_lt, nat_le, not, Bool, true, false, length, filter}
use Rattle.std.specs.Prelude.{Option, Some, None}
use Rattle.std.specs.List.{list_any}
use Rattle.cyc_types.specs.Limits.{cyclics as most_cyclics}
use Rattle.cyc_agreement.specs.Cpus.{numbers_from}
use Rattle.cyc_script.specs.declared.step.Step.{Step}
use Rattle.cyc_script.specs.declared.step.Step.TheVariants.{Add, Omni, Bind, Unbind, Reprogram, Remove, Advance, Softint, Juggle}
use Rattle.cyc_script.specs.declared.step.Step.TheVariants.{Offline, Online, Suspend, Resume}
use Rattle.cyc_thread_calls.specs.Way.{is_series, is_moment}
use Rattle.cyc_thread_reasons.specs.Known.{Whereabouts, Absent, OnOne, OnAll, Known, name_has, is_known_up}

-- ---- what a name has

abbrev pub is_there : Whereabouts → Bool
is_there Absent = false
is_there s = true

abbrev pub is_single : Whereabouts → Bool
is_single (OnOne bound) = true
is_single s = false

abbrev pub has_components : Whereabouts → Bool
has_components OnAll = true
has_components s = false

abbrev pub is_bound_to : ℕ → Whereabouts → Bool
is_bound_to n (OnOne (Some m)) = m == n
is_bound_to n s = false

-- it may be on this CPU: it is everywhere, or not bound to another
abbrev pub may_be_on : ℕ → Whereabouts → Bool
may_be_on n Absent = false
may_be_on n (OnOne None) = true
may_be_on n (OnOne (Some m)) = m == n
may_be_on n OnAll = true

-- ---- numbers of cyclics, and room

-- how many names have such a thing
abbrev pub how_many : (Whereabouts → Bool) → Known → ℕ
how_many test t = length (filter test t.names)

-- how many CPUs are online
abbrev pub many_online : Known → ℕ
many_online t = length (numbers_from 0 t.online)

-- the cyclics that may be on this CPU are as many as one can have
abbrev pub may_be_full : ℕ → Known → Bool
may_be_full n t = nat_le most_cyclics (how_many (may_be_on n) t)

-- so many CPUs have no room for so many cyclics of one CPU each, beside the omnipresent ones, of which each has one
abbrev pub are_too_many : ℕ → ℕ → Known → Bool
are_too_many singles cpus t = nat_lt (cpus * most_cyclics) (singles + cpus * how_many has_components t)

-- ---- the steps

-- the CPU is offline or isn't there, or it alone is online
abbrev pub can_not_leave : ℕ → Known → Bool
can_not_leave n t = not (is_known_up n t) || nat_lt (many_online t) 2

-- a cyclic of one CPU is reprogrammed without naming it; an omnipresent one on a CPU that is online
abbrev pub can_be_reprogrammed : Option ℕ → Whereabouts → Known → Bool
can_be_reprogrammed None s t = is_single s
can_be_reprogrammed (Some n) s t = has_components s && is_known_up n t

-- There is a reason to refuse the step: its numbers, its name, its CPU, room, or that the system is suspended or isn't.
abbrev pub has_reason : Step → Known → Bool
has_reason (Add a) t = not (is_series a.start a.interval) || are_too_many (how_many is_single t + 1) (many_online t) t
has_reason (Omni a) t = not (is_series a.start a.interval) || list_any (λ n. may_be_full n t) (numbers_from 0 t.online)
has_reason (Bind b) t = not (is_single (name_has b.name t)) || not (is_known_up b.cpu t) || may_be_full b.cpu t
has_reason (Unbind name) t = not (is_single (name_has name t))
has_reason (Reprogram r) t = not (is_moment r.moment) || not (can_be_reprogrammed r.cpu (name_has r.name t) t)
has_reason (Remove name) t = not (is_there (name_has name t)) || t.leaving
has_reason (Advance now) t = t.suspended
has_reason (Softint i) t = false
has_reason (Juggle n) t = can_not_leave n t
-- one of its cyclics is bound to the CPU, or the others have no room for all
has_reason (Offline n) t = can_not_leave n t || list_any (is_bound_to n) t.names
    || are_too_many (how_many is_single t) (many_online t - 1) t
has_reason (Online n) t = nat_le (length t.online) n || is_known_up n t
has_reason Suspend t = t.suspended
has_reason Resume t = not t.suspended
