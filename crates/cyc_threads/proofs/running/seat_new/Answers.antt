use Rattle.cyc_threads.proofs.Ran.{many_all, given_all, new_all, seated_new}
use Rattle.cyc_threads.proofs.running.seat_new.Goals as goal

pub returns-clause-many : goal.returns-clause-many
returns-clause-many g c = many_all c.args.script.now.cpus c.in_ok-all.all.items c.in_ok-rings.field-0.seats.items
    c.in_ok-all.ensures.seats c.in_ok-rings.ensures.len

pub returns-clause-given : goal.returns-clause-given
returns-clause-given g c = given_all c.in_ok-all.all.items c.in_ok-handlers.handlers.items c.args.calls.items
    c.in_ok-all.ensures.calls c.in_ok-handlers.ensures.laid

pub returns-clause-new : goal.returns-clause-new
returns-clause-new g c = new_all c.args.script.now.ceiling c.in_ok-all.all.items c.in_ok-rings.field-0.seats.items
    c.in_ok-all.ensures.seats c.in_ok-rings.ensures.new

pub returns-clause-seated : goal.returns-clause-seated
returns-clause-seated g c = seated_new c.in_ok-rings.field-0.rings.items c.in_ok-all.all.items
    c.in_ok-rings.field-0.seats.items c.in_ok-all.ensures.seats c.in_ok-rings.ensures.seated
