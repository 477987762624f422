-- What a closed ring says of its only cyclic.
use Rattle.std.proofs.Common.{◌≡◌, ◌∙◌, ℕ, ◌+◌, Some, [], sym, ap, subst, arith}
use Rattle.std.proofs.lemmas.Option.{same_Some}
use Rattle.cyc_types.specs.Firing.{IsAdmitted, Sound, Stay}
use Rattle.ring_rule.specs.Trail.{ended_calls, made_calls, open_stay, seen_pend}
use Rattle.cyc_ring.specs.Books.{IsBook}
use Rattle.cyc_ring.specs.Ends.{drain_trail, raise_trail, seat_made, seat_view}
use Rattle.cyc_ring.specs.Views.{stay_with}
use Rattle.cyc_ring.specs.declared.closed.Book.{Book}
use Rattle.cyc_ring.specs.declared.closed.Closed.{Closed}
use Rattle.cyc_ring.specs.declared.seats.DrainSeat.{DrainSeat}
use Rattle.cyc_ring.specs.declared.seats.RaiseSeat.{RaiseSeat}

-- the cyclic at the first index, which has expired so often
abbrev pub IsFirst : ℕ → ℕ → RaiseSeat → Type 0
IsFirst id n seat = IsAdmitted id (seat_view seat) (λ s. (s.index ≡ 0) × (s.sent ≡ n))

pub book_says : (id n : ℕ) (seat : RaiseSeat) (c : Closed) (b : Book) → c.raise_seat.value ≡ seat → Sound (seat_view seat)
    → IsFirst id n seat → IsBook 0 b c → (b.id ≡ id) × (b.sent ≡ n)
book_says id n seat c b same sound (s, here, (index, sent)) book =
    let at : (seat_view seat).stays b.id
    ≡ Some (record { index = 0; sent = b.sent; lost = b.lost; seen = seen_pend b.id (raise_trail seat) }) =
    ap (stay_with (seen_pend b.id (raise_trail seat)))
    (ap (λ (r : RaiseSeat). open_stay b.id (raise_trail r)) (sym same) ∙ book.stay) in
    let is : b.id ≡ id = sound.apart b.id id _ s at here (sym index) in
    let both = same_Some _ s (sym at ∙ (ap (λ x. (seat_view seat).stays x) is ∙ here)) in
    (is, ap (λ (y : Stay). y.sent) both ∙ sent)

-- the handlers counted the calls that are done
pub counted : (id before after : ℕ) (raised : RaiseSeat) (first last : DrainSeat) (c : Closed) (b : Book)
    → c.raise_seat.value ≡ raised → c.drain_seat.value ≡ last → ended_calls id (raise_trail raised) ≡ 0 → drain_trail first ≡ []
    → after + seat_made first id ≡ before + seat_made last id → b.id ≡ id → IsBook 0 b c → after ≡ before + b.done
counted id before after raised first last c b same_raise same_drain none empty made is book =
    let none' : seat_made first id ≡ 0 = ap (made_calls id) empty in
    let done : seat_made last id ≡ b.done + ended_calls id (raise_trail raised) =
    subst (λ (r : RaiseSeat). seat_made last id ≡ b.done + ended_calls id (raise_trail r)) same_raise
    (subst (λ (d : DrainSeat). seat_made d id ≡ b.done + ended_calls id (raise_trail c.raise_seat.value)) same_drain
    (subst (λ (x : ℕ). seat_made c.drain_seat.value x ≡ b.done + ended_calls x (raise_trail c.raise_seat.value)) is
    book.finished)) in
    omega (arith, none, none', made, done)
