-- Calls that bring nothing to a CPU, and take nothing.
use Rattle.cyc_agreement.specs.Suspending.{on_each}
use Rattle.std.proofs.Common.{zero, suc, ◌≡◌, ℕ, Some, Ok, Err, List, [], ◌∷◌, ◌++◌, map, refl, sym, ap, arith}
use Rattle.cyc_types.specs.declared.Raise.{Ghosts as Raise}
use Rattle.cyc_types.specs.declared.refusal.Refusal.{Refusal}
use Rattle.cyc_cpu.specs.declared.moving.Taken.{Taken}
use Rattle.cyc_cpu.specs.Calls.{Suspend, Resume}
use Rattle.cyc_cpu.specs.Calls.{CpuCall, AskPending, AskTotals, AskRoom, Reserve, Widen}
use Rattle.cyc_system.specs.Cpus.{CpusView, CallOn, on, Works}
use Rattle.cyc_system.specs.Reserving.{rooms, reserves, ReservesEach}
use Rattle.cyc_system.specs.Shifting.{move_of, WhyNotShifted}
use Rattle.std.proofs.Common.{inl, inr}
use Rattle.cyc_system.specs.Counting.{Counted, asked}
use Rattle.cyc_system.specs.GoingOffline.{quiet}
use Rattle.cyc_system_laws.proofs.Flow.{Fixed, brought, taken_off, on_cpus, flow_at}

abbrev pub IsIdle : CpuCall → Type 0
IsIdle (AskPending own answer) = Unit {0}
IsIdle (AskTotals own answer) = Unit {0}
IsIdle (AskRoom more answer) = Unit {0}
IsIdle (Reserve more answer) = Unit {0}
IsIdle (Widen more) = Unit {0}
IsIdle Suspend = Unit {0}
IsIdle Resume = Unit {0}
IsIdle call = ⊥

abbrev pub AreIdle : List CallOn → Type 0
AreIdle [] = Unit {0}
AreIdle (c ∷ way) = IsIdle c.call × AreIdle way

pub idle_on : (xs ys : List CallOn) → AreIdle xs → AreIdle ys → AreIdle (xs ++ ys)
idle_on [] ys a b = b
idle_on (x ∷ xs) ys a b = (a.0, idle_on xs ys a.1 b)

pub idle_rooms : (more : ℕ) (ns : List ℕ) → AreIdle (rooms more ns)
idle_rooms more [] = tt
idle_rooms more (n ∷ ns) = (tt, idle_rooms more ns)

pub idle_reserves : (more : ℕ) (ns : List ℕ) → AreIdle (reserves more ns)
idle_reserves more [] = tt
idle_reserves more (n ∷ ns) = (tt, idle_reserves more ns)

pub idle_quiet : (n : ℕ) (ids : List ℕ) → AreIdle (quiet n ids)
idle_quiet n [] = tt
idle_quiet n (x ∷ xs) = (tt, idle_quiet n xs)

pub idle_each : (call : CpuCall) (n : ℕ) → IsIdle call → AreIdle (on_each call n)
idle_each call zero idle = tt
idle_each call (suc n) idle = idle_on (on_each call n) (on n call ∷ []) (idle_each call n idle) (idle, tt)

pub idle_asked : (own : ℕ) (way : List Counted) → AreIdle (map (asked own) way)
idle_asked own [] = tt
idle_asked own (a ∷ way) = (tt, idle_asked own way)

module _ (f : Taken → ℕ) (id : ℕ) where
  idle_fixed : (call : CpuCall) → IsIdle call → Fixed f id call × (brought f id call ≡ 0) × (taken_off f id call ≡ 0)
  idle_fixed (AskPending own answer) idle = (tt, refl, refl)
  idle_fixed (AskTotals own answer) idle = (tt, refl, refl)
  idle_fixed (AskRoom more answer) idle = (tt, refl, refl)
  idle_fixed (Reserve more answer) idle = (tt, refl, refl)
  idle_fixed (Widen more) idle = (tt, refl, refl)
  idle_fixed Suspend idle = (tt, refl, refl)
  idle_fixed Resume idle = (tt, refl, refl)
  idle_fixed call idle = absurd idle

  module _ {R : Type 0} (firing : Raise R) where
    pub idle_same : (way : List CallOn) (v w : CpusView R) → AreIdle way → Works firing way v w
        → on_cpus f id w ≡ on_cpus f id v
    idle_same [] v w idle run = ap (on_cpus f id) (sym run)
    idle_same (c ∷ way) v w idle (u, d, rest) =
        let (fixed, none, nil) = idle_fixed c.call idle.0 in
        let a = flow_at f id firing v u c fixed d in let b = idle_same way u w idle.1 rest in omega (arith, a, b, none, nil)

    pub reserved_same : (more : ℕ) (v w : CpusView R) → ReservesEach firing more (Ok tt) v w → on_cpus f id w ≡ on_cpus f id v
    reserved_same more v w (u, first, then) = let a = idle_same _ v u (idle_rooms more _) first in
        let b = idle_same _ u w (idle_reserves more _) then in omega (arith, a, b)

    pub unreserved_same : (more : ℕ) (e : Refusal) (v w : CpusView R) → ReservesEach firing more (Err e) v w
        → on_cpus f id w ≡ on_cpus f id v
    unreserved_same more e v w (inl (before, n, after, works)) = idle_same _ v w
        (idle_on (rooms more before) _ (idle_rooms more before) (tt, tt)) works
    unreserved_same more e v w (inr (u, first, (is, before, n, after, works))) =
        let a = idle_same _ v u (idle_rooms more _) first in
        let b = idle_same _ u w (idle_on (reserves more before) _ (idle_reserves more before) (tt, tt)) works in
        omega (arith, a, b)

    pub unshifted_same : (own source target : ℕ) (e : Refusal) (v w : CpusView R)
        → WhyNotShifted firing (move_of own source target) e v w → on_cpus f id w ≡ on_cpus f id v
    unshifted_same own source target e v w (inl (removed, is_open, is, same)) = ap (on_cpus f id) same
    unshifted_same own source target e v w (inr (inl (still, n, some, is, works))) = idle_same
        (on source (AskPending own (Some n)) ∷ []) v w (tt, tt) works
    unshifted_same own source target e v w (inr (inr (still, works))) = idle_same
        (on source (AskPending own (Some 0)) ∷ on target (Reserve 1 (Err e)) ∷ []) v w (tt, (tt, tt)) works
