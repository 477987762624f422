-- juggle: the cyclics of a CPU move to others (cyclic_juggle).
use Rattle.std.specs.Prelude.{ℕ, ◌+◌, nat_lt, if◌then◌else◌, not, is_some, List, [], ◌∷◌, filter, map, Option, Some}
use Rattle.cyc_types.specs.declared.refusal.Refusal.{Refusal}
use Rattle.cyc_types.specs.declared.refusal.JuggleReport.{JuggleReport}
use Rattle.cyc_text.specs.Lines.{moved}
use Rattle.cyc_model.specs.Questions.{Questions}
use Rattle.cyc_model.specs.State.{State, Outcome, cpu_of, nothing, told, before}
use Rattle.cyc_model.specs.Places.{is_omni, is_bound, destination_of}
use Rattle.cyc_types.specs.Reasons.{first_refusal, busy}
use Rattle.cyc_model.specs.Refusals.{is_no_cpu, cpu_is_offline, is_last_online, no_room}
use Rattle.cyc_model.specs.Bind.{move}

-- what becomes of one cyclic
pub data Turn : Type 0 where
  IsBound : Turn
  IsPending : Turn
  IsRefused : Turn
  Moves : ℕ → Turn

-- it moves, where its destination has room for it
abbrev pub turn_to : Questions → ℕ → ℕ → State → Turn
turn_to q id target s = if is_some (no_room q target id 1 (cpu_of target s)) then IsRefused else Moves target

-- each takes the destination of the machine at its turn
abbrev pub turn : Questions → ℕ → ℕ → State → Turn
turn q source id s = if is_bound id s then IsBound
    else if nat_lt 0 (q.outstanding source id (cpu_of source s)) then IsPending
    else turn_to q id (destination_of (Some source) s) s

abbrev pub counted_turn : Turn → JuggleReport → JuggleReport
counted_turn IsBound r = record r { bound = r.bound + 1 }
counted_turn IsPending r = record r { pending = r.pending + 1 }
counted_turn IsRefused r = record r { refused = r.refused + 1 }
counted_turn (Moves target) r = record r { moved = r.moved + 1 }

abbrev pub take_turn : (ℕ → ℕ) → ℕ → ℕ → Turn → State → Outcome
take_turn indexes source id IsBound s = nothing s
take_turn indexes source id IsPending s = nothing s
take_turn indexes source id IsRefused s = nothing s
take_turn indexes source id (Moves target) s = move indexes id source target s

-- what a juggle comes to, and what it did
pub record Juggled : Type 0 where
  pub report : JuggleReport
  pub outcome : Outcome

abbrev pub no_turns_yet : State → Juggled
no_turns_yet s = record { report = record { moved = 0; bound = 0; pending = 0; refused = 0 }; outcome = nothing s }

abbrev pub turn_first : Turn → Outcome → Juggled → Juggled
turn_first t o rest = record { report = counted_turn t rest.report; outcome = before o rest.outcome }

abbrev pub and_the_rest : Turn → Outcome → (State → Juggled) → Juggled
and_the_rest t o rest = turn_first t o (rest o.state)

abbrev pub one_turn : (ℕ → ℕ) → ℕ → ℕ → Turn → State → (State → Juggled) → Juggled
one_turn indexes source id t s rest = and_the_rest t (take_turn indexes source id t s) rest

abbrev pub juggle_each : Questions → (ℕ → ℕ) → ℕ → List ℕ → State → Juggled
juggle_each q indexes source [] s = no_turns_yet s
juggle_each q indexes source (id ∷ ids) s = one_turn indexes source id (turn q source id s) s (juggle_each q indexes source ids)

-- the cyclics of a CPU that aren't omnipresent, by rising ids
abbrev pub single_ids_of : ℕ → State → List ℕ
single_ids_of n s = filter (λ id. not (is_omni id s)) (map (λ x. x.timer.id) (cpu_of n s).cyclics)

abbrev pub juggled : Questions → (ℕ → ℕ) → ℕ → State → Juggled
juggled q indexes n s = juggle_each q indexes n (single_ids_of n s) s

abbrev pub juggle_refusal : Questions → ℕ → State → Option Refusal
juggle_refusal q n s = first_refusal (is_no_cpu n s ∷ cpu_is_offline n s ∷ is_last_online n s ∷ busy (q.removal n (cpu_of n s))
    ∷ [])

abbrev pub with_moved_line : ℕ → Juggled → Outcome
with_moved_line step j = told (moved step j.report) j.outcome

abbrev pub juggle : Questions → (ℕ → ℕ) → ℕ → ℕ → State → Outcome
juggle q indexes step n s = with_moved_line step (juggled q indexes n s)
