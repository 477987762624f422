-- Calls on CPUs that bring no cyclic and take none away.
use Rattle.std.proofs.Common.{◌≡◌, sym, ap, ◌∙◌, ℕ, Ok, Err, inl, inr, Result, List, [], ◌∷◌, ◌++◌, subst}
use Rattle.cyc_types.specs.declared.Raise.{Ghosts as Raise}
use Rattle.cyc_types.specs.declared.refusal.Refusal.{Refusal}
use Rattle.cyc_cpu.specs.Cpu.{CpuView}
use Rattle.cyc_cpu.specs.Calls.{CpuCall, CpuChanges, AskRoom, Reserve, Widen}
use Rattle.cyc_agreement.specs.Cpus.{CpusView, CallOn, on, Works}
use Rattle.cyc_agreement.specs.Reserving.{rooms, reserves, ReservesEach}
use Rattle.cyc_agreement.proofs.Components.{cyclics_on, are_same}
use Rattle.cyc_agreement.proofs.Who.{SameIds, SameWho, same_none, same_then, same_changed, same_looked, same_reserve}
use Rattle.cyc_agreement.proofs.Who.{same_widened}

-- a question for room, the taking of memory, or a switch
pub data Quiet : CpuCall → Type 0 where
  asks : (more : ℕ) (answer : Result (Unit {0}) Refusal) → Quiet (AskRoom more answer)
  takes : (more : ℕ) (answer : Result (Unit {0}) Refusal) → Quiet (Reserve more answer)
  grows : (more : ℕ) → Quiet (Widen more)

pub AllQuiet : List CallOn → Type 0
AllQuiet [] = Unit {0}
AllQuiet (c ∷ cs) = Quiet c.call × AllQuiet cs

module _ {R : Type 0} (firing : Raise R) where
  quiet_call : (x y : CpuView R) (call : CpuCall) → Quiet call → CpuChanges firing x call y → SameIds x y
  quiet_call x y _ (asks more (Ok done)) d = same_looked firing x y d.0
  quiet_call x y _ (asks more (Err e)) d = same_looked firing x y d.0
  quiet_call x y _ (takes more answer) d = same_reserve firing x y more answer d
  quiet_call x y _ (grows more) d = same_widened firing x y more d.1

  pub quiet_works : (way : List CallOn) (v w : CpusView R) → AllQuiet way → Works firing way v w → SameWho v w
  unfolding AllQuiet
  quiet_works [] v w q e = subst (λ u. SameWho v u) e (same_none v)
  quiet_works (c ∷ cs) v w q (u, did, rest) = same_then v u w
      (same_changed c.cpu _ v u did (quiet_call did.before did.after c.call q.0 did.change)) (quiet_works cs u w q.1 rest)

pub rooms_quiet : (more : ℕ) (ns : List ℕ) (last : List CallOn) → AllQuiet last → AllQuiet (rooms more ns ++ last)
unfolding AllQuiet
rooms_quiet more [] last q = q
rooms_quiet more (n ∷ ns) last q = (asks more (Ok tt), rooms_quiet more ns last q)

pub reserves_quiet : (more : ℕ) (ns : List ℕ) (last : List CallOn) → AllQuiet last → AllQuiet (reserves more ns ++ last)
unfolding AllQuiet
reserves_quiet more [] last q = q
reserves_quiet more (n ∷ ns) last q = (takes more (Ok tt), reserves_quiet more ns last q)

all_rooms : (more : ℕ) (ns : List ℕ) → AllQuiet (rooms more ns)
unfolding AllQuiet
all_rooms more [] = tt
all_rooms more (n ∷ ns) = (asks more (Ok tt), all_rooms more ns)

all_reserves : (more : ℕ) (ns : List ℕ) → AllQuiet (reserves more ns)
unfolding AllQuiet
all_reserves more [] = tt
all_reserves more (n ∷ ns) = (takes more (Ok tt), all_reserves more ns)

one_quiet : (n : ℕ) (call : CpuCall) → Quiet call → AllQuiet (on n call ∷ [])
unfolding AllQuiet
one_quiet n call q = (q, tt)

-- where memory was taken on each CPU, or was not, each has the cyclics that it had
pub quiet_reserves : {R : Type 0} (firing : Raise R) (more : ℕ)
    (answer : Result (Unit {0}) Refusal)
    (v w : CpusView R) → ReservesEach firing more answer v w → SameWho v w
quiet_reserves firing more (Ok done) v w (asked, a, b) = same_then v asked w
    (quiet_works firing _ v asked (all_rooms more _) a) (quiet_works firing _ asked w (all_reserves more _) b)
quiet_reserves firing more (Err e) v w (inl (before, n, after, works)) =
    quiet_works firing _ v w (rooms_quiet more before _ (one_quiet n _ (asks more (Err e)))) works
quiet_reserves firing more (Err e) v w (inr (asked, a, (is, before, n, after, works))) = same_then v asked w
    (quiet_works firing _ v asked (all_rooms more _) a)
    (quiet_works firing _ asked w (reserves_quiet more before _ (one_quiet n _ (takes more (Err e)))) works)

-- ---- the cyclics themselves

module _ {R : Type 0} (firing : Raise R) where
  quiet_list : (x y : CpuView R) (call : CpuCall) → Quiet call → CpuChanges firing x call y → y.cyclics ≡ x.cyclics
  quiet_list x y _ (asks more (Ok done)) d = d.0.cyclics
  quiet_list x y _ (asks more (Err e)) d = d.0.cyclics
  quiet_list x y _ (takes more (Ok done)) d = d.0.cyclics
  quiet_list x y _ (takes more (Err e)) d = d.0.cyclics
  quiet_list x y _ (grows more) d = d.1.cyclics

  quiet_lists : (way : List CallOn) (v w : CpusView R) → AllQuiet way → Works firing way v w → (m : ℕ)
      → cyclics_on m w ≡ cyclics_on m v
  unfolding AllQuiet
  quiet_lists [] v w q e m = ap (λ u. cyclics_on m u) (sym e)
  quiet_lists (c ∷ cs) v w q (u, did, rest) m = quiet_lists cs u w q.1 rest m
      ∙ are_same c.cpu _ v u did (quiet_list did.before did.after c.call q.0 did.change) m

  pub lists_reserved : (more : ℕ) (v w : CpusView R) → ReservesEach firing more (Ok tt) v w → (m : ℕ)
      → cyclics_on m w ≡ cyclics_on m v
  lists_reserved more v w (asked, a, b) m = quiet_lists _ asked w (all_reserves more _) b m
      ∙ quiet_lists _ v asked (all_rooms more _) a m
