-- A CPU of which one cyclic gets another next expiration.
use Rattle.std.proofs.Common.{◌≡◌, ◌≢◌, ℕ, Bool, Option, Some, Ok, refl, sym, ap, ◌∙◌, subst}
use Rattle.std.proofs.Math.ListN.{set}
use Rattle.cyc_types.specs.declared.Raise.{Ghosts as Raise}
use Rattle.cyc_timers.specs.Rows.{Row, TableView, IsRow, cyclic_of, cyclics_of, at_moment}
use Rattle.cyc_timers.specs.Ends.{IsHard, lock_and_low}
use Rattle.cyc_timers.proofs.Finding.{IsFound}
use Rattle.cyc_timers.proofs.Readying.{hard_moved}
use Rattle.cyc_cpu.specs.Calls.{CpuChanges, Reprogram}
use Rattle.cyc_cpu.specs.Cpu.{CpuView}
use Rattle.cyc_cpu.proofs.Cyclics.{is_cyclic, cyclics_set}

-- a CPU over this table
abbrev pub over : {R : Type 0} → Option ℕ → ℕ → Bool → R → R → TableView → CpuView R
over removal most suspended lock low t = record {
  cyclics = cyclics_of t.rows;
  removal = removal;
  size = t.size;
  room = t.room;
  most = most;
  suspended = suspended;
  lock = lock;
  low = low;
}

-- what the table promises of such a change
abbrev pub IsReprogrammed : ℕ → ℕ → TableView → TableView → Type 0
IsReprogrammed index moment t u = (k : ℕ) (r : Row) → IsRow t.rows k r → r.index ≡ index
    → u.rows ≡ set t.rows k (at_moment moment r)

module _ {R : Type 0} (firing : Raise R) (removal : Option ℕ) (most : ℕ) (lock low : R) (t u : TableView) (id index moment : ℕ)
    (found : IsFound t.rows id index) (still : removal ≢ Some id) (rows : IsReprogrammed index moment t u)
    (size : u.size ≡ t.size)
  where
    pub hard_reprogrammed : IsHard firing.view t.size most removal (lock_and_low lock low) t.rows
        → IsHard firing.view u.size most removal (lock_and_low lock low) u.rows
    hard_reprogrammed h = let (k, r, is, named, there) = found in
        subst (λ xs. IsHard firing.view u.size most removal (lock_and_low lock low) xs) (sym (rows k r is there))
        (subst (λ n. IsHard firing.view n most removal (lock_and_low lock low) (set t.rows k (at_moment moment r))) (sym size)
        (hard_moved firing.view t.size most removal lock low t.rows k r (at_moment moment r) h is
        (record { id = refl; level = refl; index = refl; expired = refl; lost = refl; carried = refl })
        (λ q. still (q ∙ ap Some named))))

    pub reprogrammed : (suspended : Bool) → u.room ≡ t.room
        → CpuChanges firing (over removal most suspended lock low t) (Reprogram id moment (Ok tt))
        (over removal most suspended lock low u)
    reprogrammed suspended room = let (k, r, is, named, there) = found in (
      k,
      cyclic_of r,
      is_cyclic t.rows k r is,
      named,
      still,
      λ j. record {
        cyclics = (ap cyclics_of (rows k r is there) ∙ cyclics_set t.rows k (at_moment moment r)) j;
        removal = removal;
        size = size j;
        room = room j;
        most = most;
        suspended = suspended;
        lock = lock;
        low = low;
      },
    )
