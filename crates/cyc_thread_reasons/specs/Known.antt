-- What the accepted steps of a run in threads tell: which CPUs are online, whether the system is suspended, and what each name
-- has (our own rule). On which CPU a cyclic is that is not bound isn't told: a move to another may be refused for want of memory.
use Rattle.std.specs.Prelude.{ℕ, Bool, true, false, if◌then◌else◌, List, replicate, slice_set, slice_index_or, Option, Some, None}
use Rattle.cyc_script.specs.declared.step.Step.{Step}
use Rattle.cyc_script.specs.declared.step.Step.TheVariants.{Add, Omni, Bind, Unbind, Remove, Offline, Online, Suspend, Resume}
use Rattle.cyc_expected.specs.Expected.{Met}
use Rattle.cyc_thread_calls.specs.Words.{waits_first}

-- what a name has
pub data Whereabouts : Type 0 where
  -- no cyclic: it was not added, or it was removed
  Absent : Whereabouts
  -- one that is on one CPU, bound to that of this number or to none
  OnOne : Option ℕ → Whereabouts
  -- an omnipresent one
  OnAll : Whereabouts

-- what is known between two steps
pub record Known : Type 0 where
  -- of each CPU, by number, whether it is online
  pub online : List Bool
  -- what each name has, by number
  pub names : List Whereabouts
  -- a removal may be open: since a `remove` was accepted no word came before which a run waits
  pub leaving : Bool
  -- the system is suspended
  pub suspended : Bool

-- before the first step
abbrev pub known_first : ℕ → ℕ → Known
known_first cpus names =
    record { online = replicate cpus true; names = replicate names Absent; leaving = false; suspended = false }

-- what the name of a number has
abbrev pub name_has : ℕ → Known → Whereabouts
name_has name t = slice_index_or t.names name Absent

abbrev pub is_known_up : ℕ → Known → Bool
is_known_up n t = slice_index_or t.online n false

-- the name has this now
abbrev pub with_whereabouts : ℕ → Whereabouts → Known → Known
with_whereabouts name now t = record t { names = slice_set t.names name now }

abbrev pub with_online : ℕ → Bool → Known → Known
with_online n online t = record t { online = slice_set t.online n online }

-- a step that was accepted
abbrev pub after_accepted : Step → Known → Known
after_accepted (Add a) t = with_whereabouts a.name (OnOne None) t
after_accepted (Omni a) t = with_whereabouts a.name OnAll t
after_accepted (Bind b) t = with_whereabouts b.name (OnOne (Some b.cpu)) t
after_accepted (Unbind name) t = with_whereabouts name (OnOne None) t
after_accepted (Remove name) t = record (with_whereabouts name Absent t) { leaving = true }
after_accepted (Offline n) t = with_online n false t
after_accepted (Online n) t = with_online n true t
after_accepted Suspend t = record t { suspended = true }
after_accepted Resume t = record t { suspended = false }
after_accepted x t = t

-- the wait before a step, where it has one
abbrev pub before_step : Step → Known → Known
before_step x t = record t { leaving = if waits_first x then false else t.leaving }

-- a step; where it was refused only its wait is told
abbrev pub known_after : Met → Known → Known
known_after m t = if m.accepted then after_accepted m.step (before_step m.step t) else before_step m.step t
