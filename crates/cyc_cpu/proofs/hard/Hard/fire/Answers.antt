use Rattle.std.proofs.Common.{◌≢◌, arith, subst, refl}
use Rattle.cyc_types.specs.Series.{never}
use Rattle.cyc_timers.specs.Rows.{cyclics_of}
use Rattle.cyc_cpu.specs.Cpu.{CpuView, running}
use Rattle.cyc_cpu.specs.Calls.{Fire, CpuDoes, no_interrupts}
use Rattle.cyc_cpu.proofs.Calling.{fired}
use Rattle.cyc_cpu.proofs.hard.Hard.fire.Goals as goal

pub returns : goal.returns
returns g c =
    let e = c.fire_all.ensures in
    let i = c.self.inside in let n = c.fire_all.new in
    let w : CpuView _ = record {
      cyclics = cyclics_of n.table.rows;
      removal = i.removal;
      size = n.table.size;
      room =
          n.table.room;
      most = i.most;
      suspended = i.suspended;
      lock = n.lock;
      low = n.low;
    } in
    let u : CpuView _ = record {
      cyclics = cyclics_of i.table.rows;
      removal = i.removal;
      size = i.table.size;
      room =
          i.table.room;
      most = i.most;
      suspended = i.suspended;
      lock = i.lock;
      low = i.low;
    } in
    let early : c.args.now ≢ never = λ q. absurd (omega (arith, q)) in
    subst (λ (v : CpuView _). CpuDoes g.C.Calls g.R.Raise
    no_interrupts (running c.args.calls.now v) (Fire c.args.now c.fire_all.result) (running n.calls w)) c.self.view_is
    (fired g.C.Calls g.R.Raise no_interrupts c.args.now
    (running c.args.calls.now u) (running n.calls w) (record { awake = c.if-self.false; early = early })
    (record { removal = refl; size = e.size; room = e.room; most = refl; suspended = refl }) c.fire_all.result e.expired e.next
    e.made e.refused)
