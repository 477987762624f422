use Rattle.std.proofs.Common.{◌≡◌, Option, Some, sym, subst, ◌∙◌}
use Rattle.cyc_types.specs.Firing.{MayAdmit}
use Rattle.cyc_ring.specs.Ends.{seat_view}
use Rattle.cyc_ring.specs.declared.seats.RaiseSeat.{RaiseSeat}
use Rattle.cyc_border.specs.Held.{view_in}
use Rattle.cyc_border.proofs.held.HeldEndRaise.admit.Goals as goal

pub admit-requires : goal.admit-requires
admit-requires c =
    let was : c.args.self.now.seat ≡ Some c.unwrap-seat.result = sym c.take.ensures.value ∙ c.unwrap-seat.ensures in
    subst (λ (s : RaiseSeat). MayAdmit c.args.id c.args.index (seat_view s)) (sym c.new-end.ensures.0)
    (subst (λ (o : Option RaiseSeat). MayAdmit c.args.id c.args.index (view_in o)) was c.requires)
