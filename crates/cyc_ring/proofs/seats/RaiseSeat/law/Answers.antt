use Rattle.std.proofs.Common.{arith}
use Rattle.cyc_ring.proofs.Learning.{sound_seat}
use Rattle.cyc_ring.proofs.seats.RaiseSeat.law.Goals as goal

pub returns : goal.returns
returns c = let r = c.args.self.now in
    sound_seat r.setting.ceiling r.stays.value.ids r.stays.value.sent r.stays.value.lost r.side.seat.me.0.raise_trail r.rows
    r.seen
    (let b = r.bank_is.0 in let m = r.bank_is.1 in omega (arith, b, m)) r.ranges.0
