use Rattle.std.proofs.Common.{◌≡◌, ◌∙◌, length, subst, arith}
use Rattle.cyc_system_model.specs.SystemAdvancing.{fired_and_lost}
use Rattle.cyc_replay.specs.Advancing.{IsAdvancing}
use Rattle.cyc_replay.proofs.advancing.fire_all.Goals as goal

pub fire_cpu-fired-requires-clause-ready : goal.fire_cpu-fired-requires-clause-ready
fire_cpu-fired-requires-clause-ready c =
    let (step, s, first, a) = c.requires.ready in let l = c.loop-cpu in
    (step, l.made.expired, l.made.lost, s, first, l.invariant.so_far step s first a)

pub loop-cpu-preserved : goal.loop-cpu-preserved
loop-cpu-preserved c =
    let l = c.loop-cpu in let f = c.fire_cpu-fired in
    let expired = l.invariant.few_expired in let lost = l.invariant.few_lost in
    let more_expired = f.ensures.few_expired in let more_lost = f.ensures.few_lost in
    record {
      so_far = λ step s first a. f.ensures.next step l.made.expired l.made.lost s first (l.invariant.so_far step s first a);
      clock = f.ensures.clock ∙ l.invariant.clock;
      many = f.ensures.many ∙ l.invariant.many;
      few_expired = omega (arith, expired, more_expired);
      few_lost = omega (arith, lost, more_lost);
    }

pub returns-clause-all : goal.returns-clause-all
returns-clause-all c = λ step s first a.
    let l = c.loop-cpu in let count = c.count_cpus-cpus.ensures.count in
    let past = c.loop-cpu-test.false in let within = l.auto.cpu-end in
    let same : l.cpu ≡ length c.args.machine.now.system.cpus.cpus = omega (arith, count, past, within) in
    subst (λ k. IsAdvancing step k (fired_and_lost l.made.expired l.made.lost) s first l.machine) same (l.invariant.so_far step
    s first a)
