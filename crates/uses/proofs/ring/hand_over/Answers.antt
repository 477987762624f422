use Rattle.cyc_types.specs.Tally.{tally_count}
use Rattle.uses.proofs.Closing.{book_says, counted}
use Rattle.uses.proofs.ring.hand_over.Goals as goal

pub returns-clause-raised : goal.returns-clause-raised
returns-clause-raised g c = book_says _ _ _ c.close-closed.result _ c.close-closed.ensures.seats.0 c.law.ensures
    c.both-raise_seat.ensures.raised c.first_book-book.ensures

pub returns-clause-called : goal.returns-clause-called
returns-clause-called g c = counted c.args.id (tally_count c.args.calls c.args.id)
    (tally_count c.both-raise_seat.result.1.1 c.args.id) c.both-raise_seat.result.0 c.in_ok-ring.drain_seat
    c.both-raise_seat.result.1.0 c.close-closed.result c.first_book-book.result
    c.close-closed.ensures.seats.0 c.close-closed.ensures.seats.1 c.both-raise_seat.ensures.stays c.in_ok-ring.ensures.empty.1
    (c.both-raise_seat.ensures.made c.args.id) (returns-clause-raised g c).0 c.first_book-book.ensures
