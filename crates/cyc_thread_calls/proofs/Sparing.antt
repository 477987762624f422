-- No end lost an expiration of an id that it raised no more often than its ceiling.
use Rattle.std.proofs.Common.{◌≡◌, ◌∙◌, ℕ, ◌<◌, ◌≤◌, ◌+◌, List, [], ◌∷◌, Option, Some, None, refl, ap, subst, arith}
use Rattle.std.proofs.Common.{eq-eqb, ne_eqb}
use Rattle.std.specs.Prelude.{cond}
use Rattle.cyc_types.specs.Firing.{FiringCall, Admits, Loads, Raises, Marks, Polls, Expands, Looks, Learns, seen_in}
use Rattle.cyc_types.specs.declared.firing.Raised.TheVariants.{First, More, Lost}
use Rattle.cyc_types.specs.Runs.{Goes, Taught, raised_by, lost_by}
use Rattle.cyc_level.specs.Runs.{StayCounts, stay_calls}
use Rattle.ring_rule.specs.Trail.{raises_of, losses_on_trail, open_stay, seen_pend}
use Rattle.cyc_ring.specs.declared.ends.RaiseEnd.{RaiseEnd}
use Rattle.cyc_ring.specs.Views.{stay_with}
use Rattle.cyc_ring.specs.Ends.{raise_end, end_view, raise_trail}
use Rattle.cyc_ring.proofs.Ways.{raise_ways}
use Rattle.cyc_types.specs.Counting.{one_at}
use mathlib.Core.Logic.{dite}
use native.Mathlib.Decide.{ℕ_discrete}

-- the ceiling is this, and what lost an expiration was raised more often
pub record IsSpare (ceiling : ℕ) (e : RaiseEnd) : Type 0 where
  pub same : e.seat.setting.ceiling ≡ ceiling
  pub spare : (id : ℕ) → 0 < losses_on_trail id (raise_trail e.seat) → ceiling < raises_of id (raise_trail e.seat)

-- where as much was seen as the ceiling, so many were raised that were not lost
seen_raised : (e : RaiseEnd) (id : ℕ) → seen_in ((end_view e).stays id) ≡ e.seat.setting.ceiling
    → e.seat.setting.ceiling + losses_on_trail id (raise_trail e.seat) ≤ raises_of id (raise_trail e.seat)
seen_raised e id full = by (open_stay id (raise_trail e.seat)) refl
  where
    by : (o : Option StayCounts) → open_stay id (raise_trail e.seat) ≡ o
        → e.seat.setting.ceiling + losses_on_trail id (raise_trail e.seat) ≤ raises_of id (raise_trail e.seat)
    by None is = let some = e.seat.ranges.0 in
        let none = ap (λ o. seen_in (stay_with (seen_pend id (raise_trail e.seat)) o)) is in
        absurd (omega (arith, some, none, full))
    by (Some s) is = let (capped, owed, placement) = e.seat.seen id s is in let balanced = e.seat.balanced id in
        let calls = ap stay_calls is in
        let seen = ap (λ o. seen_in (stay_with (seen_pend id (raise_trail e.seat)) o)) is in
        omega (arith, owed, balanced, calls, seen, full)

module _ (ceiling : ℕ) where
  -- a call that loses nothing of the id
  grown : (e f : RaiseEnd) (id more : ℕ) → raises_of id (raise_trail f.seat) ≡ raises_of id (raise_trail e.seat) + more
      → losses_on_trail id (raise_trail f.seat) ≡ losses_on_trail id (raise_trail e.seat) + 0 → IsSpare ceiling e
      → 0 < losses_on_trail id (raise_trail f.seat) → ceiling < raises_of id (raise_trail f.seat)
  grown e f id more up down own some = let s = own.spare id (omega (arith, down, some)) in omega (arith, up, s)

  -- one that loses one of an id
  lost_one : (e f : RaiseEnd) (id j : ℕ)
      → raises_of id (raise_trail f.seat) ≡ raises_of id (raise_trail e.seat) + (one_at id j + 0)
      → losses_on_trail id (raise_trail f.seat) ≡ losses_on_trail id (raise_trail e.seat) + (one_at id j + 0) → IsSpare ceiling e
      → seen_in ((end_view e).stays j) ≡ e.seat.setting.ceiling
      → 0 < losses_on_trail id (raise_trail f.seat) → ceiling < raises_of id (raise_trail f.seat)
  lost_one e f id j up down own full some = dite (ℕ_discrete id j)
      (λ is. (let same = own.same in let one = ap (λ b. cond {A = ℕ} b 1 0) (eq-eqb id j is) in
      let most = seen_raised e id (ap (λ k. seen_in ((end_view e).stays k)) is ∙ full) in
      omega (arith, same, most, up, one)))
      (λ ne. (let none = ap (λ b. cond {A = ℕ} b 1 0) (ne_eqb id j ne) in
      grown e f id 0 (omega (arith, up, none)) (omega (arith, down, none)) own some))

  one_counts : (e f : RaiseEnd) (id : ℕ) (call : FiringCall) → Learns (end_view e) call (end_view f)
      → raises_of id (raise_trail f.seat) ≡ raises_of id (raise_trail e.seat) + raised_by id (call ∷ [])
      → losses_on_trail id (raise_trail f.seat) ≡ losses_on_trail id (raise_trail e.seat) + lost_by id (call ∷ [])
      → IsSpare ceiling e → 0 < losses_on_trail id (raise_trail f.seat) → ceiling < raises_of id (raise_trail f.seat)
  one_counts e f id (Raises j Lost) (full, is) up down own some = lost_one e f id j up down own full some
  one_counts e f id (Raises j More) d up down own some = grown e f id _ up (omega (arith, down)) own some
  one_counts e f id (Raises j First) d up down own some = grown e f id _ up (omega (arith, down)) own some
  one_counts e f id (Admits j index) d up down own some = grown e f id _ up (omega (arith, down)) own some
  one_counts e f id (Loads j pend) d up down own some = grown e f id _ up (omega (arith, down)) own some
  one_counts e f id (Marks j pend) d up down own some = grown e f id _ up (omega (arith, down)) own some
  one_counts e f id (Polls j answer) d up down own some = grown e f id _ up (omega (arith, down)) own some
  one_counts e f id (Expands bank) d up down own some = grown e f id _ up (omega (arith, down)) own some
  one_counts e f id (Looks answer) d up down own some = grown e f id _ up (omega (arith, down)) own some

  one_spare : (e f : RaiseEnd) (call : FiringCall) → Taught raise_end e call f → IsSpare ceiling e → IsSpare ceiling f
  one_spare e f call taught own = let (same, up, down) = raise_ways e f (call ∷ []) (f, taught, refl) in record {
    same = ap (λ k. k.ceiling) same.1 ∙ own.same;
    spare = λ id some. one_counts e f id call taught.1 (up id) (down id) own some;
  }

  pub goes_spare : (e f : RaiseEnd) (way : List FiringCall) → Goes raise_end e way f → IsSpare ceiling e
      → IsSpare ceiling f
  goes_spare e f [] same own = subst (IsSpare ceiling) same own
  goes_spare e f (call ∷ way) (m, taught, rest) own = goes_spare m f way rest (one_spare e m call taught own)
