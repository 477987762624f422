use Rattle.ring_steps.proofs.Masks.{place_masked, place_inside}
use Rattle.ring_steps.proofs.positions.buffer_at.Goals as goal

pub returns : goal.returns
returns c = λ bank i most size at.
    (place_masked bank c.args.mask c.args.next i most size at, place_inside bank c.args.mask c.args.next i most size at)
