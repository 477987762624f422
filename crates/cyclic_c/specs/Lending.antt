-- What a handle ends as that lends what it owns: the last value behind what was lent.
use Rattle.std.specs.Prelude.{Some}
use Rattle.std.specs.Borrow.{Lends, MutBor, Fml}
use Rattle.cyc_border.specs.declared.cpu.Cpu.{Cpu}
use Rattle.cyc_border.specs.contracts.cpu.Cpu.{the_row as cpu_row}
use Rattle.cyc_border.specs.declared.pair.Firing.{Firing}
use Rattle.cyc_border.specs.contracts.pair.Firing.{the_row as firing_row}
use Rattle.cyc_border.specs.declared.soft_side.SoftSide.{SoftSide}
use Rattle.cyc_border.specs.contracts.soft_side.SoftSide.{the_row as soft_side_row}
use Rattle.cyc_border.specs.declared.pair.Shelf.{Shelf}
use Rattle.cyc_border.specs.contracts.pair.Shelf.{the_row as shelf_row}
use Rattle.cyclic_c.specs.declared.sealed.Sealed.{Sealed}
use Rattle.cyclic_c.specs.contracts.sealed.Sealed.{the_row as sealed_row}
use Rattle.cyclic_c.specs.declared.sealed_firing.SealedFiring.{SealedFiring}
use Rattle.cyclic_c.specs.contracts.sealed_firing.SealedFiring.{the_row as sealed_firing_row}
use Rattle.cyclic_c.specs.declared.sealed_soft.SealedSoft.{SealedSoft}
use Rattle.cyclic_c.specs.contracts.sealed_soft.SealedSoft.{the_row as sealed_soft_row}
use Rattle.cyclic_c.specs.declared.sealed_books.SealedBooks.{SealedBooks}
use Rattle.cyclic_c.specs.contracts.sealed_books.SealedBooks.{the_row as sealed_books_row}

abbrev pub holding_cpu : Sealed → Cpu → Sealed
holding_cpu s x = record s { held = Some x }

abbrev pub LendsCpu : MutBor Sealed → MutBor Cpu → Fml
LendsCpu s r = Lends sealed_row cpu_row s r (holding_cpu s.now)

abbrev pub holding_firing : SealedFiring → Firing → SealedFiring
holding_firing s x = record s { held = Some x }

abbrev pub LendsFiring : MutBor SealedFiring → MutBor Firing → Fml
LendsFiring s r = Lends sealed_firing_row firing_row s r (holding_firing s.now)

abbrev pub holding_soft : SealedSoft → SoftSide → SealedSoft
holding_soft s x = record s { held = Some x }

abbrev pub LendsSoftSide : MutBor SealedSoft → MutBor SoftSide → Fml
LendsSoftSide s r = Lends sealed_soft_row soft_side_row s r (holding_soft s.now)

abbrev pub holding_shelf : SealedBooks → Shelf → SealedBooks
holding_shelf s x = record s { held = Some x }

abbrev pub LendsShelf : MutBor SealedBooks → MutBor Shelf → Fml
LendsShelf s r = Lends sealed_books_row shelf_row s r (holding_shelf s.now)
