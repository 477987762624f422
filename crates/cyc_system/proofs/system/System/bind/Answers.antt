use Rattle.std.proofs.Common.{◌∷◌, [], Ok, Err, Some, None, true, false, inr, slice_set, refl, sym, ap, ◌∙◌, subst, arith}
use Rattle.std.proofs.lemmas.Result.{err_from_is_err_and}
use Rattle.std.proofs.lemmas.Option.{slice_get_within}
use Rattle.cyc_agreement.specs.System.{SystemView}
use Rattle.cyc_agreement.specs.Refusals.{IsPresent, omnipresent, no_cpu, offline_cpu}
use Rattle.cyc_agreement.specs.Shifting.{move_of}
use Rattle.cyc_agreement.specs.Binding.{GoesTo}
use Rattle.cyc_agreement.specs.Holding.{Holds}
use Rattle.cyc_places.specs.Places.{with_placement}
use Rattle.cyc_places.specs.declared.record.Placement.TheVariants.{On}
use Rattle.cyc_system.specs.Calls.{Changes, Bind}
use Rattle.cyc_agreement.proofs.Spots.{seen, get_some}
use Rattle.cyc_agreement.proofs.Who.{but_same, same_none}
use Rattle.cyc_agreement.proofs.Holding.{holds_same, holds_moved}
use Rattle.cyc_agreement.proofs.Removals.{no_removal, goes_removals}
use Rattle.cyc_agreement.proofs.Entering.{none_here}
use Rattle.cyc_agreement.proofs.Lists.{false_true}
use Rattle.cyc_agreement.proofs.Presence.{has_low, cyclic_here, online_read, present_clear, single_clear, cpu_clear, online_clear}
use Rattle.cyc_agreement.proofs.Presence.{home_is}
use Rattle.cyc_agreement.proofs.FirstReason.{passes}
use Rattle.cyc_system.proofs.Replaced.{standing, agrees_replaced}
use Rattle.cyc_agreement.proofs.Shifted.{most_same, rise_on, went, stayed}
use Rattle.cyc_system.proofs.system.System.bind.Goals as goal

pub invariant_of-self : goal.invariant_of-self
invariant_of-self g c =
    let (r, p) = c.in-Some.ensures.some in
    let s = seen c.self.inside.cpus c.self.inside.records.list c.self.inside.last in
    let q = subst (λ (x : SystemView _). IsPresent c.args.id c.in-Some.position r x) (sym c.self.view_is) p in
    let st = standing s c.args.id c.in-Some.position c.in-On.home c.in-On.bound r c.at.result.now c.self.invariant.0.agrees
    c.law-2.ensures.rising q c.at.ensures c.in-On.is in
    let done = agrees_replaced s c.in-Some.position c.in-On.home false c.in-On.bound c.in-On.home c.at.result.now
    c.self.inside.cpus
    c.self.invariant.0.agrees c.law-2.ensures.rising c.at.ensures c.in-On.is
    (but_same c.at.result.now.id c.self.inside.cpus c.self.inside.cpus (same_none c.self.inside.cpus)) st.online st.own_here
    st.own_only in
    let kept = holds_moved s (seen c.self.inside.cpus
    (slice_set c.self.inside.records.list c.in-Some.position (with_placement (On c.in-On.home false) c.at.result.now))
    c.self.inside.last)
    c.in-Some.position c.at.result.now (On c.in-On.home false) c.self.invariant.0 done
    (but_same c.at.result.now.id c.self.inside.cpus c.self.inside.cpus (same_none c.self.inside.cpus)) (λ n. refl)
    (λ n e. no_removal c.self.inside.cpus c.args.id q.still n (e ∙ ap Some st.named)) c.at.ensures refl in (
      subst (λ rs. Holds (seen c.self.inside.cpus rs c.self.inside.last))
          (sym (c.set_placement.ensures c.at.result.now c.at.ensures)) kept,
      c.self.invariant.1,
    )

pub go-requires-clause-home : goal.go-requires-clause-home
go-requires-clause-home g c =
    let (r, p) = c.in-Some.ensures.some in
    let s = seen c.self.inside.cpus c.self.inside.records.list c.self.inside.last in
    let q = subst (λ (x : SystemView _). IsPresent c.args.id c.in-Some.position r x) (sym c.self.view_is) p in
    let st = standing s c.args.id c.in-Some.position c.in-On.home c.in-On.bound r c.at.result.now c.self.invariant.0.agrees
    c.law-2.ensures.rising q c.at.ensures c.in-On.is in
    has_low c.self.inside.cpus c.in-On.home c.args.id st.here

pub go-requires-clause-here : goal.go-requires-clause-here
go-requires-clause-here g c cpu at =
    let (r, p) = c.in-Some.ensures.some in
    let s = seen c.self.inside.cpus c.self.inside.records.list c.self.inside.last in
    let q = subst (λ (x : SystemView _). IsPresent c.args.id c.in-Some.position r x) (sym c.self.view_is) p in
    let st = standing s c.args.id c.in-Some.position c.in-On.home c.in-On.bound r c.at.result.now c.self.invariant.0.agrees
    c.law-2.ensures.rising q c.at.ensures c.in-On.is in
    cyclic_here c.self.inside.cpus c.in-On.home c.args.id cpu st.here at

pub go-requires-clause-absent : goal.go-requires-clause-absent
go-requires-clause-absent g c apart cpu at =
    let (r, p) = c.in-Some.ensures.some in
    let s = seen c.self.inside.cpus c.self.inside.records.list c.self.inside.last in
    let q = subst (λ (x : SystemView _). IsPresent c.args.id c.in-Some.position r x) (sym c.self.view_is) p in
    let st = standing s c.args.id c.in-Some.position c.in-On.home c.in-On.bound r c.at.result.now c.self.invariant.0.agrees
    c.law-2.ensures.rising q c.at.ensures c.in-On.is in
    none_here c.self.inside.cpus c.in-Some-cpu.target c.args.id cpu
    (λ h. false_true (sym (st.only c.in-Some-cpu.target apart) ∙ h)) at

pub go-requires-clause-most : goal.go-requires-clause-most
go-requires-clause-most g c cpu at own is =
    let e = most_same (seen c.self.inside.cpus c.self.inside.records.list c.self.inside.last) c.in-On.home c.in-Some-cpu.target
    cpu own c.self.invariant.0.agrees at is in omega (arith, e)

pub invariant_of-self-in_err-go : goal.invariant_of-self-in_err-go
invariant_of-self-in_err-go g c =
    let (r, p) = c.in-Some.ensures.some in
    let s = seen c.self.inside.cpus c.self.inside.records.list c.self.inside.last in
    let q = subst (λ (x : SystemView _). IsPresent c.args.id c.in-Some.position r x) (sym c.self.view_is) p in
    let st = standing s c.args.id c.in-Some.position c.in-On.home c.in-On.bound r c.at.result.now c.self.invariant.0.agrees
    c.law-2.ensures.rising q c.at.ensures c.in-On.is in
    let (cpu, at) = get_some c.self.inside.cpus.cpus c.in-On.home (has_low c.self.inside.cpus c.in-On.home c.args.id st.here) in (
      holds_same s c.go.new.cpus c.self.invariant.0
          (stayed g.R.Raise c.args.id c.in-On.home c.in-Some-cpu.target c.self.inside.cpus c.go.new.cpus
          c.in_err-go.field-0.0
          (rise_on g.R.Raise.view c.self.inside.cpus c.in-On.home cpu at (c.law.ensures c.in-On.home cpu at))
          c.in_err-go.ensures),
      c.self.invariant.1,
    )

pub set_placement-requires-2 : goal.set_placement-requires-2
set_placement-requires-2 g c = slice_get_within c.self.inside.records.list c.in-Some.position c.at.result.now c.at.ensures

pub invariant_of-self-2 : goal.invariant_of-self-2
invariant_of-self-2 g c =
    let (r, p) = c.in-Some.ensures.some in
    let s = seen c.self.inside.cpus c.self.inside.records.list c.self.inside.last in
    let q = subst (λ (x : SystemView _). IsPresent c.args.id c.in-Some.position r x) (sym c.self.view_is) p in
    let st = standing s c.args.id c.in-Some.position c.in-On.home c.in-On.bound r c.at.result.now c.self.invariant.0.agrees
    c.law-2.ensures.rising q c.at.ensures c.in-On.is in
    let (cpu, at) = get_some c.self.inside.cpus.cpus c.in-On.home (has_low c.self.inside.cpus c.in-On.home c.args.id st.here) in
    let goes = subst (λ i. GoesTo g.R.Raise (move_of i c.in-On.home c.in-Some-cpu.target)
    (Ok tt) c.self.inside.cpus c.go.new.cpus) (sym st.named) c.in_ok-go.ensures in
    let (but, there, only) = went g.R.Raise c.at.result.now.id c.in-On.home c.in-Some-cpu.target
    c.self.inside.cpus c.go.new.cpus
    (rise_on g.R.Raise.view c.self.inside.cpus c.in-On.home cpu at (c.law.ensures c.in-On.home cpu at)) st.own_here st.own_only
    goes in
    let online = online_read c.self.inside.cpus c.in-Some-cpu.target true (c.is_online.ensures ∙ ap Some c.if-not-is_online.false)
    in
    let done = agrees_replaced s c.in-Some.position c.in-Some-cpu.target true c.in-On.bound c.in-On.home c.at.result.now
    c.go.new.cpus c.self.invariant.0.agrees c.law-2.ensures.rising c.at.ensures c.in-On.is
    but online there only in
    let kept = holds_moved s (seen c.go.new.cpus
    (slice_set c.self.inside.records.list c.in-Some.position (with_placement (On c.in-Some-cpu.target true) c.at.result.now))
    c.self.inside.last)
    c.in-Some.position c.at.result.now (On c.in-Some-cpu.target true) c.self.invariant.0 done but
    (goes_removals g.R.Raise c.at.result.now.id c.in-On.home c.in-Some-cpu.target c.self.inside.cpus
    c.go.new.cpus goes)
    (λ n e. no_removal c.self.inside.cpus c.args.id q.still n (e ∙ ap Some st.named)) c.at.ensures refl in (
      subst (λ rs. Holds (seen c.go.new.cpus rs c.self.inside.last))
          (sym (c.set_placement-2.ensures c.at.result.now c.at.ensures)) kept,
      c.self.invariant.1,
    )

pub returns-in_err-go : goal.returns-in_err-go
returns-in_err-go g c =
    let (r, p) = c.in-Some.ensures.some in
    let s = seen c.self.inside.cpus c.self.inside.records.list c.self.inside.last in
    let q = subst (λ (x : SystemView _). IsPresent c.args.id c.in-Some.position r x) (sym c.self.view_is) p in
    let st = standing s c.args.id c.in-Some.position c.in-On.home c.in-On.bound r c.at.result.now c.self.invariant.0.agrees
    c.law-2.ensures.rising q c.at.ensures c.in-On.is in
    let t = seen c.go.new.cpus c.self.inside.records.list c.self.inside.last in
    let e = err_from_is_err_and c.from_residual.result c.from_residual.ensures.1 in
    let online = online_read c.self.inside.cpus c.in-Some-cpu.target true (c.is_online.ensures ∙ ap Some c.if-not-is_online.false)
    in
    let low = c.count.ensures.count in let less = c.if-target-count.false in
    subst (λ (x : SystemView _). Changes g.R.Raise x (Bind c.args.id c.args.cpu c.from_residual.result) t)
    c.self.view_is
    (subst (λ o. Changes g.R.Raise s (Bind c.args.id o c.from_residual.result) t) (sym c.in-Some-cpu.is)
    (subst (λ o. Changes g.R.Raise s (Bind c.args.id (Some c.in-Some-cpu.target) o) t)
    (sym (e.1 ∙ ap Err e.2))
    (inr (
      passes _ (omnipresent c.args.id s ∷ no_cpu c.in-Some-cpu.target s ∷ offline_cpu c.in-Some-cpu.target s ∷ []) None
          (present_clear s c.self.invariant.0.agrees c.args.id c.in-Some.position r c.at.result.now q c.at.ensures)
          (passes _ (no_cpu c.in-Some-cpu.target s ∷ offline_cpu c.in-Some-cpu.target s ∷ []) None
          (single_clear s c.self.invariant.0.agrees c.args.id c.in-Some.position r c.at.result.now q c.at.ensures c.in-On.home
          c.in-On.bound c.in-On.is)
          (passes _ (offline_cpu c.in-Some-cpu.target s ∷ []) None (cpu_clear s c.in-Some-cpu.target (omega (arith, low, less)))
          (passes _ [] None (online_clear s c.in-Some-cpu.target online) refl))),
      (
        c.in-On.home,
        (
          c.in-On.bound,
          home_is s c.self.invariant.0.agrees c.args.id c.in-Some.position r c.at.result.now q
              c.at.ensures c.in-On.home c.in-On.bound c.in-On.is,
        ),
        c.in_err-go.ensures,
        refl,
        refl,
      ),
    ))))

pub returns : goal.returns
returns g c =
    let (r, p) = c.in-Some.ensures.some in
    let s = seen c.self.inside.cpus c.self.inside.records.list c.self.inside.last in
    let q = subst (λ (x : SystemView _). IsPresent c.args.id c.in-Some.position r x) (sym c.self.view_is) p in
    let st = standing s c.args.id c.in-Some.position c.in-On.home c.in-On.bound r c.at.result.now c.self.invariant.0.agrees
    c.law-2.ensures.rising q c.at.ensures c.in-On.is in
    let t = seen c.go.new.cpus c.set_placement-2.new.self.list c.self.inside.last in
    let online = online_read c.self.inside.cpus c.in-Some-cpu.target true (c.is_online.ensures ∙ ap Some c.if-not-is_online.false)
    in
    let low = c.count.ensures.count in let less = c.if-target-count.false in
    let home = home_is s c.self.invariant.0.agrees c.args.id c.in-Some.position r c.at.result.now q c.at.ensures c.in-On.home
    c.in-On.bound c.in-On.is in
    subst (λ (x : SystemView _). Changes g.R.Raise x (Bind c.args.id c.args.cpu (Ok tt)) t) c.self.view_is
    (subst (λ o. Changes g.R.Raise s (Bind c.args.id o (Ok tt)) t) (sym c.in-Some-cpu.is)
    (inr (
      passes _ (omnipresent c.args.id s ∷ no_cpu c.in-Some-cpu.target s ∷ offline_cpu c.in-Some-cpu.target s ∷ []) None
          (present_clear s c.self.invariant.0.agrees c.args.id c.in-Some.position r c.at.result.now q c.at.ensures)
          (passes _ (no_cpu c.in-Some-cpu.target s ∷ offline_cpu c.in-Some-cpu.target s ∷ []) None
          (single_clear s c.self.invariant.0.agrees c.args.id c.in-Some.position r c.at.result.now q c.at.ensures c.in-On.home
          c.in-On.bound c.in-On.is)
          (passes _ (offline_cpu c.in-Some-cpu.target s ∷ []) None (cpu_clear s c.in-Some-cpu.target (omega (arith, low, less)))
          (passes _ [] None (online_clear s c.in-Some-cpu.target online) refl))),
      (
        c.in-On.home,
        (c.in-On.bound, home),
        c.in_ok-go.ensures,
        (
          c.in-Some.position,
          c.at.result.now,
          c.at.ensures,
          st.named,
          c.set_placement-2.ensures c.at.result.now c.at.ensures,
          refl,
        ),
      ),
    )))
