-- The polls of a run in threads: none of them is refused.
use Rattle.std.specs.Prelude.{⊤, Err}
use Rattle.cyc_threads.specs.Calls.{PollRemove}
use Rattle.cyc_system_rings.specs.Leading.{LeadCall, Make}

-- the call is no poll that was refused: one whose removal is not open (`poll_remove`)
abbrev pub IsAnsweredPoll : LeadCall → Type 0
IsAnsweredPoll (Make (PollRemove id (Err why))) = ⊥
IsAnsweredPoll call = ⊤
