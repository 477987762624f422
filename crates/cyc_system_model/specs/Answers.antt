-- What each call of a CPU over plain levels answers, in the words of the definition of a script.
use Rattle.std.specs.Prelude.{◌≡◌, ◌≢◌, ℕ, ◌<◌, nat_lt, not, ⊤, ◌⊎◌, true, false, [], ◌∷◌, length, Option, Some, None, Ok, Err}
use Rattle.cyc_types.specs.declared.receipt.Receipt.{Receipt}
use Rattle.cyc_types.specs.declared.refusal.Refusal.{Refusal}
use Rattle.cyc_types.specs.declared.refusal.Refusal.TheVariants.{Memory, NoCyclic, Pending}
use Rattle.cyc_cpu.specs.declared.moving.Taken.{Taken}
use Rattle.cyc_cpu.specs.declared.removing.Removal.TheVariants.{Done, Kept}
use Rattle.cyc_cpu.specs.Calls.{CpuCall, Fire, SoftInterrupt, Add, Reprogram, AskPending, AskTotals, AskRoom, Reserve}
use Rattle.cyc_cpu.specs.Calls.{BeginRemove, PollRemove, TakeNow}
use Rattle.cyc_model.specs.Acts.{handler_calls, all_losses}
use Rattle.cyc_model.specs.Cpu.{CyclicState, Cpu, cyclic_with_id, has_cyclic}
use Rattle.cyc_model.specs.Firing.{due_here, fire_here}
use Rattle.cyc_model.specs.Serving.{interrupt_here}
use Rattle.cyc_model.specs.Questions.{plain, outstanding_here}
use Rattle.cyc_types.specs.Reasons.{first_refusal, when, busy, bad_now}
use Rattle.cyc_model.specs.Refusals.{no_room}

-- why there is no room for so many more: over plain levels nobody asks for whose sake
abbrev pub why_no_room : ℕ → Cpu → Option Refusal
why_no_room more c = no_room plain 0 0 more c

-- the call is refused for this reason; want of memory comes where there is no other
abbrev pub IsRefused : Refusal → Option Refusal → Type 0
IsRefused Memory why = why ≡ None
IsRefused e why = why ≡ Some e

-- why no removal of the id begins, and why its cyclic is not taken
abbrev pub why_not_begun : ℕ → Cpu → Option Refusal
why_not_begun id c = first_refusal (when (not (has_cyclic id c)) NoCyclic ∷ busy c.removal ∷ [])

abbrev pub why_not_taken : ℕ → Cpu → Option Refusal
why_not_taken id c = first_refusal (when (not (has_cyclic id c)) NoCyclic ∷ busy c.removal
    ∷ when (nat_lt 0 (outstanding_here id c)) Pending ∷ [])

-- the receipt has the counts of the cyclic of this id
abbrev pub IsReceiptFor : ℕ → Receipt → Cpu → Type 0
IsReceiptFor id receipt c = (x : CyclicState) × (cyclic_with_id id c ≡ Some x) × (receipt.id ≡ id)
    × (receipt.sent ≡ x.timer.expired) × (receipt.lost ≡ x.lost)

-- and this all that there is of it
abbrev pub IsTakenOf : ℕ → Taken → Cpu → Type 0
IsTakenOf id taken c = (x : CyclicState) × (cyclic_with_id id c ≡ Some x) × (taken.level ≡ x.timer.level)
    × (taken.interval ≡ x.timer.interval)
    × (taken.moment ≡ x.timer.moment) × (taken.sent.sent ≡ x.timer.expired) × (taken.sent.lost ≡ x.lost)

-- what the answers of a call say of the CPU before it
abbrev pub IsAnswered : ℕ → CpuCall → Cpu → Type 0
IsAnswered n (Fire now (Ok r)) c = (r.expired ≡ length (due_here now c)) × (r.lost ≡ all_losses (fire_here n now c).acts)
IsAnswered n (SoftInterrupt level budget (Ok r)) c =
    (r.calls ≡ handler_calls (interrupt_here n level budget c).acts) × (r.idle ≡ (interrupt_here n level budget c).idle)
IsAnswered n (Add id level when now (Ok done)) c = first_refusal (bad_now now ∷ why_no_room 1 c ∷ []) ≡ None
IsAnswered n (Add id level when now (Err e)) c = IsRefused e (first_refusal (bad_now now ∷ why_no_room 1 c ∷ []))
IsAnswered n (Reprogram id moment (Ok done)) c = (has_cyclic id c ≡ true) × (c.removal ≢ Some id)
IsAnswered n (Reprogram id moment (Err e)) c = (e ≡ NoCyclic) × ((has_cyclic id c ≡ false) ⊎ (c.removal ≡ Some id))
IsAnswered n (AskPending id (Some pend)) c = (has_cyclic id c ≡ true) × (pend ≡ outstanding_here id c)
IsAnswered n (AskPending id None) c = has_cyclic id c ≡ false
IsAnswered n (AskTotals id (Some t)) c = (x : CyclicState) × (cyclic_with_id id c ≡ Some x) × (t.expired ≡ x.timer.expired)
    × (t.lost ≡ x.lost)
    × (t.pending ≡ outstanding_here id c)
IsAnswered n (AskTotals id None) c = has_cyclic id c ≡ false
IsAnswered n (AskRoom more (Ok done)) c = why_no_room more c ≡ None
IsAnswered n (AskRoom more (Err e)) c = why_no_room more c ≡ Some e
IsAnswered n (Reserve more (Ok done)) c = why_no_room more c ≡ None
IsAnswered n (Reserve more (Err e)) c = IsRefused e (why_no_room more c)
IsAnswered n (BeginRemove id (Ok (Done receipt))) c =
    (why_not_begun id c ≡ None) × (outstanding_here id c ≡ 0) × IsReceiptFor id receipt c
IsAnswered n (BeginRemove id (Ok (Kept kept))) c =
    (why_not_begun id c ≡ None) × (0 < kept) × (kept ≡ outstanding_here id c)
IsAnswered n (BeginRemove id (Err e)) c = why_not_begun id c ≡ Some e
IsAnswered n (PollRemove (Some receipt)) c =
    (c.removal ≡ Some receipt.id) × (outstanding_here receipt.id c ≡ 0) × IsReceiptFor receipt.id receipt c
IsAnswered n (PollRemove None) c =
    (c.removal ≡ None) ⊎ ((id : ℕ) × (c.removal ≡ Some id) × (0 < outstanding_here id c))
IsAnswered n (TakeNow id (Ok taken)) c =
    (why_not_taken id c ≡ None) × IsTakenOf id taken c
IsAnswered n (TakeNow id (Err e)) c = why_not_taken id c ≡ Some e
IsAnswered n call c = ⊤
