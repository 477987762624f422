use Rattle.std.proofs.Common.{◌≡◌, ◌<◌, ◌++◌, ◌∷◌, [], Ok, None, refl, sym, ap, ◌∙◌, subst, arith, length, false, get_or}
use Rattle.std.proofs.lemmas.Result.{err_from_is_err_and}
use Rattle.cyc_cpu.specs.Cpu.{MayWiden}
use Rattle.cyc_agreement.proofs.CpuSpots.{of_cpu}
use Rattle.cyc_places.specs.declared.record.Record.{Record}
use Rattle.cyc_places.specs.declared.record.Placement.TheVariants.{On}
use Rattle.cyc_places.specs.Places.{new_record}
use Rattle.cyc_agreement.specs.System.{SystemView}
use Rattle.cyc_agreement.specs.Holding.{Holds}
use Rattle.cyc_system.specs.Calls.{Changes, Add}
use Rattle.cyc_agreement.proofs.Destinations.{destination_fits, destination_is}
use Rattle.cyc_agreement.proofs.Who.{same_changed, same_reserve, has_same, but_then, but_same}
use Rattle.cyc_agreement.proofs.Holding.{holds_same, holds_given}
use Rattle.cyc_agreement.proofs.Removals.{removals_kept, leaving_here}
use Rattle.cyc_agreement.proofs.Entering.{online_low, not_given, none_here, below_next, entered, agrees_added, now_there}
use Rattle.cyc_system.proofs.Added.{add_done, add_unrecorded}
use Rattle.cyc_agreement.proofs.Lists.{among}
use Rattle.cyc_agreement.proofs.Spots.{seen, get_last}
use Rattle.cyc_cpu.specs.Calls.{Reserve}
use Rattle.cyc_agreement.specs.Cpus.{on}
use Rattle.cyc_agreement.specs.Adding.{entering}
use Rattle.cyc_agreement.proofs.FirstReason.{not_never, not_spent}
use Rattle.cyc_system.proofs.system.System.add.Goals as goal

pub unreachable-requires : goal.unreachable-requires
unreachable-requires g c = let a = c.self.invariant.0.agrees in
    destination_is None c.self.inside.cpus a.some.0 a.some.1 refl (sym c.destination.ensures ∙ c.in_default-destination.is)

pub reserve_at-requires : goal.reserve_at-requires
reserve_at-requires g c = let a = c.self.invariant.0.agrees in
    online_low _ c.in-Some-destination.target a
    (destination_fits None c.self.inside.cpus c.in-Some-destination.target (sym c.destination.ensures
    ∙ c.in-Some-destination.is)).0

pub invariant_of-self : goal.invariant_of-self
invariant_of-self g c = (
  holds_same _ c.reserve_at.new.cpus c.self.invariant.0
      (same_changed c.in-Some-destination.target _ c.self.inside.cpus c.reserve_at.new.cpus c.reserve_at.ensures
      (same_reserve g.R.Raise c.reserve_at.ensures.before c.reserve_at.ensures.after 1 c.reserve_at.result
      c.reserve_at.ensures.change)),
  c.self.invariant.1,
)

pub invariant_of-self-in_err-reserve : goal.invariant_of-self-in_err-reserve
invariant_of-self-in_err-reserve g c =
    let done = holds_same _ c.reserve_at.new.cpus c.self.invariant.0
    (same_changed c.in-Some-destination.target _ c.self.inside.cpus c.reserve_at.new.cpus c.reserve_at.ensures
    (same_reserve g.R.Raise c.reserve_at.ensures.before c.reserve_at.ensures.after 1 c.reserve_at.result
    c.reserve_at.ensures.change)) in (
      subst (λ rs. Holds (record { cpus = c.reserve_at.new.cpus; records = rs; last = c.self.inside.last }))
          (sym c.reserve.ensures.list) done,
      c.self.invariant.1,
    )

pub enter-requires-clause-number : goal.enter-requires-clause-number
enter-requires-clause-number g c =
    let same = same_changed c.in-Some-destination.target _ c.self.inside.cpus c.reserve_at.new.cpus c.reserve_at.ensures
    (same_reserve g.R.Raise c.reserve_at.ensures.before c.reserve_at.ensures.after 1 c.reserve_at.result
    c.reserve_at.ensures.change) in
    let low = online_low _ c.in-Some-destination.target c.self.invariant.0.agrees
    (destination_fits None c.self.inside.cpus c.in-Some-destination.target (sym c.destination.ensures
    ∙ c.in-Some-destination.is)).0 in
    subst (λ n. c.in-Some-destination.target < n) (sym same.long) low

pub enter-requires-clause-room : goal.enter-requires-clause-room
enter-requires-clause-room g c = of_cpu c.in-Some-destination.target
    (MayWiden g.R.Raise.view 1) c.in_ok-reserve_at.ensures.after c.reserve_at.new.cpus
    (now_there c.in-Some-destination.target _ c.self.inside.cpus c.reserve_at.new.cpus c.in_ok-reserve_at.ensures)
    c.in_ok-reserve_at.ensures.change.1

pub enter-requires-clause-absent : goal.enter-requires-clause-absent
enter-requires-clause-absent g c cpu at =
    let next = c.in-Some.ensures.value in
    let same = same_changed c.in-Some-destination.target _ c.self.inside.cpus c.reserve_at.new.cpus c.reserve_at.ensures
    (same_reserve g.R.Raise c.reserve_at.ensures.before c.reserve_at.ensures.after 1 c.reserve_at.result
    c.reserve_at.ensures.change) in
    none_here c.reserve_at.new.cpus c.in-Some-destination.target c.in-Some.id cpu
    (λ h. not_given _ c.in-Some.id c.in-Some-destination.target c.self.invariant.0.agrees (omega (arith, next))
    (sym (has_same c.self.inside.cpus c.reserve_at.new.cpus same c.in-Some-destination.target c.in-Some.id) ∙ h)) at

pub push-requires-clause-last : goal.push-requires-clause-last
push-requires-clause-last g c = let next = c.in-Some.ensures.value in
    subst (λ (rs : _). (k : _) (d : Record) → k < length rs → (get_or rs k d).id < c.in-Some.id) (sym c.reserve.ensures.list)
    (below_next _ c.in-Some.id c.self.invariant.0.agrees (omega (arith, next)))

pub invariant_of-self-2 : goal.invariant_of-self-2
invariant_of-self-2 g c =
    let d = c.in-Some-destination.target in let id = c.in-Some.id in
    let fits = destination_fits None c.self.inside.cpus d (sym c.destination.ensures ∙ c.in-Some-destination.is) in
    let same = same_changed d _ c.self.inside.cpus c.reserve_at.new.cpus c.reserve_at.ensures
    (same_reserve g.R.Raise c.reserve_at.ensures.before c.reserve_at.ensures.after 1 c.reserve_at.result
    c.reserve_at.ensures.change) in
    let (but, here, elsewhere) = entered g.R.Raise d id c.args.level c.args.when.interval c.first-first.result
    c.reserve_at.new.cpus c.enter.new.cpus c.enter.ensures in
    let done = agrees_added _ d id c.args.level c.enter.new.cpus c.self.invariant.0.agrees c.in-Some.ensures.value fits.0
    (but_then id c.self.inside.cpus c.reserve_at.new.cpus c.enter.new.cpus
    (but_same id c.self.inside.cpus c.reserve_at.new.cpus same) but) here
    (λ m ne. ap (λ ids. among id ids) (elsewhere m ne ∙ same.ids m)) in
    let records : c.push.new.self.list ≡ c.self.inside.records.list ++ new_record id c.args.level (On d false) ∷ [] =
    c.push.ensures ∙ ap (λ rs. rs ++ new_record id c.args.level (On d false) ∷ []) c.reserve.ensures.list in
    let last : c.number-self-inside.result ≡ id = c.number-self-inside.ensures.value in (
      subst (λ (x : SystemView _). Holds x) (λ i. record { cpus = c.enter.new.cpus; records = sym records i; last = sym last i })
          (holds_given (seen c.self.inside.cpus c.self.inside.records.list c.self.inside.last)
          (seen c.enter.new.cpus (c.self.inside.records.list ++ new_record id c.args.level (On d false) ∷ []) id) id
          (new_record id c.args.level (On d false)) c.self.invariant.0 done
          (but_then id c.self.inside.cpus c.reserve_at.new.cpus c.enter.new.cpus
          (but_same id c.self.inside.cpus c.reserve_at.new.cpus same) but)
          (removals_kept g.R.Raise c.self.inside.cpus c.enter.new.cpus
          (on d (Reserve 1 (Ok tt)) ∷ entering d id c.args.level c.args.when.interval c.first-first.result) (tt, (tt, (tt, tt)))
          (c.reserve_at.new.cpus, c.in_ok-reserve_at.ensures, c.enter.ensures))
          (λ n e. not_given _ id n c.self.invariant.0.agrees (let next = c.in-Some.ensures.value in omega (arith, next))
          (leaving_here g.R.Raise.view c.self.inside.cpus n id c.law.ensures e))
          refl (λ n. done.single _ n _ (get_last c.self.inside.records.list (new_record id c.args.level (On d false))) refl)),
      (let v = c.number-self-inside.ensures.valid in v.1),
    )

pub returns-in_err-reserve : goal.returns-in_err-reserve
returns-in_err-reserve g c =
    let s : SystemView _ = record { cpus = c.self.inside.cpus; records = c.self.inside.records.list; last = c.self.inside.last }
    in
    let t : SystemView _ = record { cpus = c.reserve_at.new.cpus; records = c.reserve.new.self.list; last = c.self.inside.last }
    in
    let p = err_from_is_err_and c.from_residual-in_err-reserve.result c.from_residual-in_err-reserve.ensures.1 in
    let low = c.nanoseconds.ensures.valid in let a = c.nanoseconds.ensures.value in let b = c.nanoseconds-2.ensures.value in
    let never_is = c.if-nanoseconds.false in
    let valid = c.in-Some.ensures.valid in
    subst (λ (x : SystemView _). Changes g.R.Raise x
    (Add c.args.level c.args.when c.args.now c.from_residual-in_err-reserve.result) t) c.self.view_is
    (subst (λ r. Changes g.R.Raise s (Add c.args.level c.args.when c.args.now r) t) (sym p.1)
    (add_unrecorded g.R.Raise s t c.args.level c.args.when c.args.now c.in-Some-destination.target
    c.reserve_at.new.cpus
    (not_never c.args.now (omega (arith, low, a)) (λ e. absurd (omega (arith, never_is, a, b, e)))) (not_spent s (valid.0 refl).1)
    (sym c.destination.ensures ∙ c.in-Some-destination.is) c.in_ok-reserve_at.ensures p.0
    (p.2 ∙ c.in_err-reserve.ensures.err) refl c.reserve.ensures.list refl))

pub returns : goal.returns
returns g c =
    let s : SystemView _ = record { cpus = c.self.inside.cpus; records = c.self.inside.records.list; last = c.self.inside.last }
    in
    let t : SystemView _ = record { cpus = c.enter.new.cpus; records = c.push.new.self.list; last = c.number-self-inside.result }
    in
    let low = c.nanoseconds.ensures.valid in let a = c.nanoseconds.ensures.value in let b = c.nanoseconds-2.ensures.value in
    let never_is = c.if-nanoseconds.false in
    let valid = c.in-Some.ensures.valid in
    subst (λ (x : SystemView _). Changes g.R.Raise x
    (Add c.args.level c.args.when c.args.now (Ok c.in-Some.id)) t) c.self.view_is
    (add_done g.R.Raise s t c.args.level c.args.when c.args.now c.in-Some-destination.target
    c.reserve_at.new.cpus
    (not_never c.args.now (omega (arith, low, a)) (λ e. absurd (omega (arith, never_is, a, b, e)))) (not_spent s (valid.0 refl).1)
    (sym c.destination.ensures ∙ c.in-Some-destination.is) c.in_ok-reserve_at.ensures c.in-Some.id c.first-first.result
    c.in-Some.ensures.value c.first-first.ensures.value c.enter.ensures
    (c.push.ensures ∙ ap (λ rs. rs ++ new_record c.in-Some.id c.args.level (On c.in-Some-destination.target false) ∷ [])
    c.reserve.ensures.list) c.number-self-inside.ensures.value)
