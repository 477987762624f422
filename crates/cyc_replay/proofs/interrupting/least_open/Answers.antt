use Rattle.std.proofs.Common.{◌+◌, subst, sym, arith}
use Rattle.cyc_replay.proofs.Asked.{LeastBelow, none_below, all_below, one_cpu_more}
use Rattle.cyc_replay.proofs.interrupting.least_open.Goals as goal

pub loop-cpu-init : goal.loop-cpu-init
loop-cpu-init c = none_below c.args.above c.args.system.now.cpus

pub loop-cpu-preserved : goal.loop-cpu-preserved
loop-cpu-preserved c =
    subst (λ k. LeastBelow c.args.above (c.loop-cpu.cpu + 1) k c.args.system.now.cpus) (sym c.min-least.ensures)
    (one_cpu_more c.args.above c.loop-cpu.cpu c.loop-cpu.least c.open_above.result c.args.system.now.cpus c.loop-cpu.invariant
    c.open_above.ensures.here c.open_above.ensures.least)

pub returns-clause-least : goal.returns-clause-least
returns-clause-least c =
    let few = c.law.ensures.few in let past = c.loop-cpu-test.false in
    all_below c.args.above c.loop-cpu.cpu c.loop-cpu.least c.args.system.now.cpus (omega (arith, few, past)) c.loop-cpu.invariant
