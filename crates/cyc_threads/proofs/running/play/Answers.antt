use Rattle.std.proofs.Common.{◌≡◌, ℕ, ap, ◌∙◌, map, length, arith}
use Rattle.std.specs.Prelude.{replicate}
use Rattle.cyc_ring.specs.Ends.{raise_end}
use Rattle.cyc_workers.specs.declared.settling.Lead.{Lead}
use Rattle.cyc_workers.proofs.Joining.{at_err}
use Rattle.cyc_thread_rings.specs.Working.{sides_of}
use Rattle.cyc_words.specs.declared.named.Named.TheVariants.{Nothing}
use Rattle.cyc_threads.specs.Refusing.{WhyNotPlayed}
use Rattle.cyc_threads.proofs.Expiring.{none_expired}
use Rattle.cyc_threads.proofs.Played.{many_ends, some_cpus, few_cpus, many_leads, fresh_ends, begins, not_played, kept, many_soft}
use Rattle.cyc_threads.proofs.Played.{played_ok, seated_ok}
use Rattle.cyc_threads.proofs.running.play.Goals as goal

pub lead-requires-clause-some : goal.lead-requires-clause-some
lead-requires-clause-some g c = some_cpus _ _ _
    (many_ends c.args.all.items c.in_ok-attached.attached.items c.in_ok-ends.field-0.ends.items c.in_ok-attached.ensures
    c.in_ok-ends.ensures.ends)
    c.requires.many c.args.script.now.cpus_in_range.0

pub lead-requires-clause-few : goal.lead-requires-clause-few
lead-requires-clause-few g c = few_cpus _ _ _
    (many_ends c.args.all.items c.in_ok-attached.attached.items c.in_ok-ends.field-0.ends.items c.in_ok-attached.ensures
    c.in_ok-ends.ensures.ends)
    c.requires.many c.args.script.now.cpus_in_range.1

pub lead-requires-clause-fresh : goal.lead-requires-clause-fresh
lead-requires-clause-fresh g c = fresh_ends c.args.script.now.ceiling c.args.all.items c.in_ok-attached.attached.items
    c.in_ok-ends.field-0.ends.items
    c.requires.new c.in_ok-attached.ensures c.in_ok-ends.ensures.ends

pub lead-requires-clause-leads : goal.lead-requires-clause-leads
lead-requires-clause-leads g c = many_leads c.in_ok-ends.field-0.leads.items c.in_ok-attached.attached.items
    c.in_ok-ends.field-0.ends.items
    c.in_ok-ends.ensures.leads c.in_ok-ends.ensures.ends

pub returns-in_err-worked-clause-refused : goal.returns-in_err-worked-clause-refused
returns-in_err-worked-clause-refused g c =
    at_err (λ e. WhyNotPlayed g.C.Calls c.args.script.now c.args.all.items e)
    c.from_residual-in_err-worked.result c.in_err-worked.field-0.0 c.from_residual-in_err-worked.ensures.1
    (not_played g.C.Calls c.args.script.now c.args.all.items c.in_ok-attached.attached.items c.in_ok-first.first
    (map sides_of c.in_ok-ends.field-0.drainers.items) c.in_ok-ends.ensures.drainers c.in_ok-attached.ensures
    (begins (length c.args.script.now.names.items) c.args.all.items c.in_ok-attached.attached.items
    c.in_ok-ends.field-0.ends.items c.in_ok-first.first
    c.in_ok-attached.ensures c.in_ok-ends.ensures.ends
    (ap (λ (x : _). map (λ (l : Lead _). l.calls) x.items) c.in_ok-first.ensures.leads ∙ c.in_ok-ends.ensures.leads)
    c.in_ok-first.ensures.cpus c.in_ok-first.ensures.records c.in_ok-first.ensures.last c.in_ok-first.ensures.clock
    (let long = c.len.ensures in let many : c.len.result ≡ length c.args.script.now.names.items = omega (arith, long) in
    c.in_ok-first.ensures.names ∙ ap (λ (n : ℕ). replicate n Nothing) many))
    (none_expired raise_end c.in_ok-ends.field-0.ends.items c.in_ok-first.first.side c.in_ok-first.ensures.cpus
    c.in_ok-first.ensures.records c.in_ok-first.ensures.ready c.in_ok-first.ensures.sound)
    c.in_err-worked.field-0.0
    c.in_err-worked.ensures)

pub leave_rings-requires-clause-ready : goal.leave_rings-requires-clause-ready
leave_rings-requires-clause-ready g c = (kept g.C.Calls c.args.script.now
    c.args.all.items c.in_ok-attached.attached.items c.in_ok-first.first
    (map sides_of c.in_ok-ends.field-0.drainers.items) c.in_ok-worked.worked c.in_ok-ends.ensures.drainers c.in_ok-worked.ensures
    (record { ready = c.in_ok-first.ensures.ready; sound = c.in_ok-first.ensures.sound })).well.ready

pub leave_rings-requires-clause-soft : goal.leave_rings-requires-clause-soft
leave_rings-requires-clause-soft g c = many_soft g.C.Calls c.args.script.now
    c.args.all.items c.in_ok-attached.attached.items c.in_ok-first.first
    (map sides_of c.in_ok-ends.field-0.drainers.items) c.in_ok-worked.worked c.in_ok-ends.ensures.drainers c.in_ok-worked.ensures
    (record { ready = c.in_ok-first.ensures.ready; sound = c.in_ok-first.ensures.sound })
    c.in_ok-ends.field-0.ends.items c.in_ok-ends.ensures.ends c.in_ok-first.ensures.cpus

pub returns-clause-seated : goal.returns-clause-seated
returns-clause-seated g c = seated_ok g.C.Calls c.args.script.now c.args.all.items
    c.in_ok-attached.attached.items c.in_ok-first.first
    (map sides_of c.in_ok-ends.field-0.drainers.items) c.in_ok-worked.worked c.in_ok-ends.ensures.drainers c.in_ok-worked.ensures
    (record { ready = c.in_ok-first.ensures.ready; sound = c.in_ok-first.ensures.sound })
    c.args.script.now.ceiling c.leave_rings.result c.leave_rings.ensures.left c.leave_rings.ensures.soft c.in_ok-attached.ensures
    c.args.rings.now c.in_ok-ends.field-0.ends.items c.in_ok-ends.ensures.ends c.in_ok-first.ensures.cpus c.requires.seated

pub returns-clause-played : goal.returns-clause-played
returns-clause-played g c = played_ok g.C.Calls c.args.script.now c.args.all.items
    c.in_ok-attached.attached.items c.in_ok-first.first
    (map sides_of c.in_ok-ends.field-0.drainers.items) c.in_ok-worked.worked c.in_ok-ends.ensures.drainers c.in_ok-worked.ensures
    (record { ready = c.in_ok-first.ensures.ready; sound = c.in_ok-first.ensures.sound })
    c.args.script.now.ceiling c.leave_rings.result c.leave_rings.ensures.left c.leave_rings.ensures.soft c.in_ok-attached.ensures
    (begins (length c.args.script.now.names.items) c.args.all.items c.in_ok-attached.attached.items
    c.in_ok-ends.field-0.ends.items c.in_ok-first.first
    c.in_ok-attached.ensures c.in_ok-ends.ensures.ends
    (ap (λ (x : _). map (λ (l : Lead _). l.calls) x.items) c.in_ok-first.ensures.leads ∙ c.in_ok-ends.ensures.leads)
    c.in_ok-first.ensures.cpus c.in_ok-first.ensures.records c.in_ok-first.ensures.last c.in_ok-first.ensures.clock
    (let long = c.len.ensures in let many : c.len.result ≡ length c.args.script.now.names.items = omega (arith, long) in
    c.in_ok-first.ensures.names ∙ ap (λ (n : ℕ). replicate n Nothing) many))
    c.requires.new
