use Rattle.std.proofs.Common.{arith, subst}
use Rattle.cyc_cpu.specs.Cpu.{Places, new_cyclic}
use Rattle.cyc_cpu.proofs.hard.Hard.add.Goals as goal

pub returns : goal.returns
returns g c = (
  c.requires.absent,
  (λ q. absurd (omega (arith, q))),
  record {
    reserved = c.reserve.new.self;
    widened = c.widen.new.self;
    reserves = c.in_ok-reserve.ensures.0;
    allowed = c.in_ok-reserve.ensures.1;
    widens = c.widen.ensures.1;
    enters = subst (λ m. Places g.R.Raise (new_cyclic c.args.id c.args.level c.args.when.interval m) c.widen.new.self
        c.enter.new.self) c.first.ensures.value c.enter.ensures;
  },
)
