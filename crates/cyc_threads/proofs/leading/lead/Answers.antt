use Rattle.std.proofs.Common.{ℕ, ◌-◌, ap, ◌∙◌}
use Rattle.cyc_system_workers.specs.declared.side.SystemSide.{SystemSide}
use Rattle.cyc_threads.proofs.First.{first_cpus, first_records, first_last, first_ready, first_sound}
use Rattle.cyc_threads.proofs.leading.lead.Goals as goal

pub returns-clause-cpus : goal.returns-clause-cpus
returns-clause-cpus g c = first_cpus c.args.ends.items _ _ _ c.in_ok-begin.ensures.side c.in_ok-system.ensures.ok

pub returns-clause-records : goal.returns-clause-records
returns-clause-records g c = first_records c.args.ends.items _ _ _ c.in_ok-begin.ensures.side c.in_ok-system.ensures.ok

pub returns-clause-last : goal.returns-clause-last
returns-clause-last g c = first_last c.args.ends.items _ _ _ c.in_ok-begin.ensures.side c.in_ok-system.ensures.ok
    ∙ ap (λ (n : ℕ). n - 1) c.in-Some.ensures.value

pub returns-clause-leads : goal.returns-clause-leads
returns-clause-leads g c = ap (λ (s : SystemSide _ _). s.leads) c.in_ok-begin.ensures.side

pub returns-clause-clock : goal.returns-clause-clock
returns-clause-clock g c = c.in_ok-begin.ensures.clock

pub returns-clause-names : goal.returns-clause-names
returns-clause-names g c = c.in_ok-begin.ensures.names

pub returns-clause-ready : goal.returns-clause-ready
returns-clause-ready g c = first_ready c.args.ends.items _ _ _ c.in_ok-begin.ensures.side c.in_ok-system.ensures.ok
    c.requires.leads

pub returns-clause-sound : goal.returns-clause-sound
returns-clause-sound g c = first_sound c.args.ends.items _ _ _ c.in_ok-begin.ensures.side c.in_ok-system.ensures.ok
    g.R.Raise.view (record { agrees = c.law.ensures; fit = c.fit_law.ensures.fit; lawful = c.fit_law.ensures.lawful })
