-- What the exports of a CPU between threads do.
use Rattle.std.specs.Prelude.{◌≡◌, ◌≢◌, ℕ, ◌<◌, ◌≤◌, ◌⊎◌, false, Option, Some, None}
use Rattle.cyc_types.specs.Limits.{cyclics}
use Rattle.cyc_types.specs.declared.refusal.Refusal.TheVariants as why
use Rattle.cyc_types.specs.declared.draining.Finished.{Finished}
use Rattle.cyc_ring.specs.Books.{IsBook, IsFree}
use Rattle.cyc_ring.specs.declared.closed.Book.{Book}
use Rattle.cyc_ring.specs.declared.closed.Closed.{Closed}
use Rattle.cyclic_c.specs.Exports.{Written, or_zero}
use Rattle.cyc_border.specs.Numbers.{number_of_refusal}
use Rattle.cyc_border.specs.declared.numbers.Denied.TheVariants.{Misused, Refused}
use Rattle.cyc_border.specs.Pair.{IsNewPair, IsClosedOf, SameRings}
use Rattle.cyclic_c.specs.Records.{IsBookOut}
use Rattle.cyc_border.specs.Seats.{TakesSeat, FinishesSeat, hand_in}
use Rattle.cyc_border.specs.declared.pair.Books.{Books}
use Rattle.cyc_border.specs.declared.pair.Firing.{Firing}
use Rattle.cyc_border.specs.declared.pair.Shelf.{Shelf}
use Rattle.cyclic_c.specs.declared.records.CyclicBook.{CyclicBook}
use Rattle.cyc_border.specs.declared.soft_side.SoftSide.{SoftSide}

-- the three handles of a CPU between threads, each open or closed
pub record Handles : Type 0 where
  pub firing : Option Firing
  pub lock : Option SoftSide
  pub low : Option SoftSide

abbrev pub handles : Option Firing → Option SoftSide → Option SoftSide → Handles
handles firing lock low = record { firing = firing; lock = lock; low = low }

abbrev pub AreClosedHandles : Handles → Type 0
AreClosedHandles g = (g.firing ≡ None) × (g.lock ≡ None) × (g.low ≡ None)

abbrev pub AreSame : Handles → Handles → Type 0
AreSame g h = (h.firing ≡ g.firing) × (h.lock ≡ g.lock) × (h.low ≡ g.low)

-- An open for three threads: three new handles; or the caller misused it, or there was no memory, and nothing was opened.
abbrev pub OpensPair : ℕ → ℕ → ℕ → Handles → Handles → Type 0
OpensPair ceiling most r g h =
    ((r ≡ 0) × (0 < ceiling) × (0 < most) × AreClosedHandles g
    × (hard : Firing) × (lock : SoftSide) × (low : SoftSide) × (h.firing ≡ Some hard) × (h.lock ≡ Some lock) × (h.low ≡ Some low)
    × IsNewPair ceiling hard.hard.lock lock × IsNewPair ceiling hard.hard.low low × (hard.hard.most ≡ most)
    × (hard.hard.suspended ≡ false) × (hard.high ≡ None))
    ⊎ ((r ≡ number_of_refusal Misused)
    × ((ceiling ≡ 0) ⊎ (most ≡ 0) ⊎ (g.firing ≢ None) ⊎ (g.lock ≢ None) ⊎ (g.low ≢ None)) × AreSame g h)
    ⊎ ((r ≡ number_of_refusal (Refused why.Memory)) × (0 < ceiling) × (0 < most) × AreClosedHandles g × AreClosedHandles h)

-- the three handles, where they are open, are of one open
abbrev pub OneOpen : Handles → Type 0
OneOpen g = (hard : Firing) (lock low : SoftSide) → g.firing ≡ Some hard → g.lock ≡ Some lock → g.low ≡ Some low
    → SameRings hard lock low

-- three open handles, and room for the books
abbrev pub CanClose : Handles → Option Books → Type 0
CanClose g b = (g.firing ≢ None) × (g.lock ≢ None) × (g.low ≢ None) × (b ≡ None)

-- the books that a handle owns, which stand on a shelf
abbrev pub shelved : Option Shelf → Option Books
shelved None = None
shelved (Some s) = s.books

-- A close: the books of the two rings with the seats that came back. Or nothing was done, since a handle is closed or there are
-- books, or since there was no memory for them. Or all are gone without books, since another handle of the same open is about.
abbrev pub ClosesPair : ℕ → Handles → Option Books → Handles → Option Books → Type 0
ClosesPair r g b h b' =
    ((r ≡ 0) × AreClosedHandles h × (hard : Firing) × (lock : SoftSide) × (low : SoftSide) × (books : Books)
    × (g.firing ≡ Some hard) × (g.lock ≡ Some lock) × (g.low ≡ Some low) × (b' ≡ Some books)
    × IsClosedOf hard.hard.lock.seat lock.seat books.lock × IsClosedOf hard.hard.low.seat low.seat books.low)
    ⊎ ((r ≡ number_of_refusal Misused) × ((g.firing ≡ None) ⊎ (g.lock ≡ None) ⊎ (g.low ≡ None) ⊎ (b ≢ None)) × AreSame g h
    × (b' ≡ b))
    ⊎ ((r ≡ number_of_refusal (Refused why.Memory)) × CanClose g b × AreSame g h × (b' ≡ b))
    ⊎ ((r ≡ number_of_refusal Misused) × CanClose g b × AreClosedHandles h × (b' ≡ None))

abbrev pub TakesSoft : ℕ → ℕ → SoftSide → SoftSide → Type 0
TakesSoft r id v w = (r ≡ 0) × (found : Option ℕ) × (id ≡ or_zero found) × TakesSeat found v.seat w.seat
    × (w.ring.value ≡ v.ring.value)

-- the cyclic in hand, of which nothing changes
abbrev pub HandsSoft : ℕ → ℕ → SoftSide → SoftSide → Type 0
HandsSoft r id v w = (r ≡ 0) × (id ≡ or_zero (hand_in v.seat)) × (w.seat ≡ v.seat) × (w.ring.value ≡ v.ring.value)

-- 0 where a call was counted, 64 where none was in hand
abbrev pub finish_number : Option Finished → ℕ
finish_number (Some answer) = 0
finish_number None = 64

abbrev pub FinishesSoft : ℕ → SoftSide → SoftSide → Type 0
FinishesSoft r v w = (answer : Option Finished) × (r ≡ finish_number answer) × FinishesSeat answer v.seat w.seat
    × (w.ring.value ≡ v.ring.value)

-- the book at an index, or one of no cyclic where it is free
abbrev pub IsBookAt : ℕ → Closed → CyclicBook → Type 0
IsBookAt index c out = ((b : Book) × IsBook index b c × IsBookOut b out) ⊎ (IsFree index c × (out.id ≡ 0))

abbrev pub BookOut : ℕ → ℕ → ℕ → Written CyclicBook → Books → Books → Type 0
BookOut level index r out v w = ((r ≡ 64) × ((1 < level) ⊎ (cyclics ≤ index)) × (out.new ≡ out.old) × (w ≡ v))
    ⊎ ((r ≡ 0) × (w ≡ v) × (index < cyclics)
    × (((level ≡ 0) × IsBookAt index v.low out.new) ⊎ ((level ≡ 1) × IsBookAt index v.lock out.new)))

-- a handle was given up
abbrev pub ClosesHandle : {X : Type 0} → ℕ → Option X → Option X → Type 0
ClosesHandle r None b' = (r ≡ 64) × (b' ≡ None)
ClosesHandle r (Some b) b' = (r ≡ 0) × (b' ≡ None)
