-- The CPUs of a machine have memory for as many cyclics as its system has.
use Rattle.std.proofs.Common.{ℕ, length, ap, arith}
use Rattle.std.proofs.lemmas.List.{length-map}
use Rattle.cyc_model.specs.State.{State}
use Rattle.cyc_replay.specs.declared.machine.Machine.{Machine}
use Rattle.cyc_replay.specs.Machine.{ShowsMachine, IsReached}
use Rattle.cyc_system_model.specs.Room.{HaveRoomFor}
use Rattle.cyc_system_model.specs.Shown.{shown_record}
use Rattle.cyc_replay.proofs.Introduced.{few_placed}
use Rattle.cyc_replay.proofs.Named.{reached_good}
use Rattle.cyc_system_model.proofs.Rooms.{room_fewer}

pub room_for_all : (step : ℕ) (s : State) (m : Machine) → IsReached step s → ShowsMachine s m
    → HaveRoomFor (length m.system.records) m.system.cpus
room_for_all step s m r h =
    let named = r.named in
    let all = few_placed 0 s.last_id s.placed (reached_good step s r).base.rise in
    let same = ap length h.shows.placed in let long = length-map m.system.records shown_record in
    room_fewer (length m.system.records) (length s.names) m.system.cpus (omega (arith, all, same, long, named)) h.room
