-- The memory of a CPU: no call takes from it what it has.
use Rattle.std.proofs.Common.{◌≡◌, ◌≢◌, ℕ, zero, suc, ◌+◌, ◌<◌, ◌≤◌, ◌^◌, Bool, true, false, cond, inl, inr, length}
use Rattle.std.proofs.Common.{Some, None, refl, pow_mono, ap, sym, ◌∙◌, subst, arith}
use Rattle.std.specs.Prelude.{nat_le, slice_set, Ok, Err}
use Rattle.std.proofs.lemmas.Bool.{cases_lt}
use Rattle.std.proofs.lemmas.Bool.Decides.{nat_tests}
use Rattle.std.specs.List.{slice_get}
use Rattle.std.proofs.lemmas.Option.{slice_get_within}
use mathlib.Core.Logic.{dite}
use native.Mathlib.Decide.{ℕ_discrete}
use Rattle.cyc_types.specs.Limits.{greatest_bank, cyclics as most_cyclics}
use Rattle.cyc_types.specs.declared.Raise.{Ghosts as Raise}
use Rattle.cyc_types.specs.declared.level.Level.{Level}
use Rattle.cyc_types.specs.declared.moment.When.{When}
use Rattle.cyc_types.specs.declared.refusal.Refusal.{Refusal}
use Rattle.cyc_types.specs.declared.refusal.Refusal.TheVariants as why
use Rattle.cyc_core.specs.Tables.{Tables}
use Rattle.cyc_cpu.specs.declared.removing.Removal.TheVariants.{Done, Kept}
use Rattle.cyc_cpu.specs.Cpu.{CpuView, SameCpu, Reserves, Widens, MayWiden, bank_for, least_bank}
use Rattle.cyc_cpu.specs.Moving.{WhyNotTaken}
use Rattle.cyc_cpu.specs.Soft.{raise_tables}
use Rattle.cyc_cpu.specs.Calls.{CpuCall, Fire, SoftInterrupt, Add, Place, Reprogram, AskPending, AskTotals, AskRoom, Reserve}
use Rattle.cyc_cpu.specs.Calls.{Widen, BeginRemove, PollRemove, TakeNow, AskSettled, Suspend, Resume, CpuChanges}
use Rattle.cyc_system.specs.Cpus.{CpusView, IsCpu, CallOn, with_cpu, on, DoesAt}
use Rattle.cyc_system.proofs.CpusSpots.{get_set_same, cpu_beside}
use Rattle.cyc_system.proofs.Spots.{same_some}
use Rattle.cyc_system_model.specs.Room.{HasRoomFor, HaveRoomFor}

-- ---- one CPU

module _ {R : Type 0} (wanted : ℕ) where
  room_more : (v w : CpuView R) → v.room ≤ w.room → w.size ≤ w.room → HasRoomFor wanted v → HasRoomFor wanted w
  room_more v w more size h = record {
    room = λ n want can. let was = h.room n want can in omega (arith, was, more);
    size = size;
  }

  room_as : (v w : CpuView R) → w.room ≡ v.room → w.size ≡ v.size → HasRoomFor wanted v → HasRoomFor wanted w
  room_as v w room size h = let low = h.size in
      room_more v w (omega (arith, room)) (omega (arith, low, room, size)) h

  room_equal : (v w : CpuView R) → w ≡ v → HasRoomFor wanted v → HasRoomFor wanted w
  room_equal v w same h = subst (HasRoomFor wanted) (sym same) h

  pub room_same : (v w : CpuView R) → SameCpu v w → HasRoomFor wanted v → HasRoomFor wanted w
  room_same v w k h = room_as v w k.room k.size h

module _ {R : Type 0} (firing : Raise R) (wanted : ℕ) where
  room_reserved : (more : ℕ) (v w : CpuView R) → Reserves firing more v w → HasRoomFor wanted v → HasRoomFor wanted w
  room_reserved more v w r h =
      let low = h.size in
      let room = r.room in
      let size = r.size in
      room_more wanted v w (omega (arith, room)) (omega (arith, low, room, size)) h

  room_widened : (more : ℕ) (v w : CpuView R) → MayWiden firing.view more v → Widens firing more v w → HasRoomFor wanted v
      → HasRoomFor wanted w
  room_widened more v w may d h =
      let low = may.reserved in
      let room = d.room in
      let size = d.size in
      room_more wanted v w (omega (arith, room)) (omega (arith, low, room, size)) h

  room_not_added : (id now : ℕ) (level : Level) (when : When) (v w : CpuView R) (e : Refusal)
      → CpuChanges firing v (Add id level when now (Err e)) w
      → HasRoomFor wanted v → HasRoomFor wanted w
  room_not_added id now level when v w why.BadNow d h = room_equal wanted v w d.2 h
  room_not_added id now level when v w e d h = room_same wanted v w d.2.kept h

  room_not_taken : (id : ℕ) (v w : CpuView R) (e : Refusal) → WhyNotTaken firing id v e w
      → HasRoomFor wanted v → HasRoomFor wanted w
  room_not_taken id v w why.NoCyclic d h = room_equal wanted v w d.1 h
  room_not_taken id v w (why.Busy removed) d h = room_equal wanted v w d.2 h
  room_not_taken id v w why.Pending (still, some, n, more, a) h = room_same wanted v w a.kept h
  room_not_taken id v w e d h = absurd d

  pub changes_room : (v w : CpuView R) (call : CpuCall) → CpuChanges firing v call w → HasRoomFor wanted v → HasRoomFor wanted w
  changes_room v w (Add id level when now (Ok done)) (absent, early, a) h =
      room_same wanted a.widened w a.enters.kept (room_widened 1 a.reserved a.widened a.allowed a.widens
      (room_reserved 1 v a.reserved a.reserves h))
  changes_room v w (Add id level when now (Err e)) d h = room_not_added id now level when v w e d h
  changes_room v w (Place id level interval moment carried) d h = room_same wanted v w d.1.kept h
  changes_room v w (Reprogram id moment (Ok done)) (k, c, here, named, still, is) h =
      room_as wanted v w (ap (λ (x : CpuView R). x.room) is) (ap (λ (x : CpuView R). x.size) is) h
  changes_room v w (Reprogram id moment (Err e)) d h = room_equal wanted v w d.2 h
  changes_room v w (AskPending id (Some n)) d h = room_same wanted v w d.0.kept h
  changes_room v w (AskPending id None) d h = room_equal wanted v w d.1 h
  changes_room v w (AskTotals id (Some t)) d h = room_same wanted v w d.0.kept h
  changes_room v w (AskTotals id None) d h = room_equal wanted v w d.1 h
  changes_room v w (AskRoom more (Ok done)) d h = room_same wanted v w d.0.kept h
  changes_room v w (AskRoom more (Err e)) d h = room_same wanted v w d.0.kept h
  changes_room v w (Reserve more (Ok done)) d h = room_reserved more v w d.0 h
  changes_room v w (Reserve more (Err e)) d h = room_same wanted v w d.0.kept h
  changes_room v w (Widen more) d h = room_widened more v w d.0 d.1 h
  changes_room v w (BeginRemove id (Ok (Done receipt))) (still, (c, counts, is, polled, l)) h = room_as wanted v w l.room l.size h
  changes_room v w (BeginRemove id (Ok (Kept kept))) d h = room_as wanted v w d.1.room d.1.size h
  changes_room v w (BeginRemove id (Err e)) d h = room_equal wanted v w d.1 h
  changes_room v w (PollRemove (Some receipt)) d h = room_as wanted v w d.leaves.room d.leaves.size h
  changes_room v w (PollRemove None) (inl d) h = room_equal wanted v w d.1 h
  changes_room v w (PollRemove None) (inr (id, is_open, d)) h = room_same wanted v w d.kept h
  changes_room v w (TakeNow id (Ok taken)) (still, (c, counts, is, polled, l)) h = room_as wanted v w l.room l.size h
  changes_room v w (TakeNow id (Err e)) d h = room_not_taken id v w e d h
  changes_room v w (AskSettled true) d h = room_same wanted v w d.0.kept h
  changes_room v w (AskSettled false) d h = room_same wanted v w d.0.kept h
  changes_room v w Suspend d h = room_as wanted v w (ap (λ (x : CpuView R). x.room) d) (ap (λ (x : CpuView R). x.size) d) h
  changes_room v w Resume d h = room_as wanted v w (ap (λ (x : CpuView R). x.room) d) (ap (λ (x : CpuView R). x.size) d) h
  changes_room v w (Fire now answer) d h = absurd d
  changes_room v w (SoftInterrupt level budget answer) d h = absurd d

-- ---- no want of memory

module _ (n size : ℕ) where
  pub near : (bank rest : ℕ) → n ≤ size → cond (nat_le n size) bank rest ≡ bank
  near bank rest enough = grind (arith, nat_tests)

  pub far : (bank rest : ℕ) → size < n → cond (nat_le n size) bank rest ≡ rest
  far bank rest less = grind (arith, nat_tests)

-- the first that is tried is enough
pub first_enough : (more k n : ℕ) → n ≤ 2 ^ k → least_bank more k n ≡ k
first_enough zero k n low = refl
first_enough (suc more) k n low = near n (2 ^ k) k (least_bank more (k + 1) n) low

-- a bank is not below the first that is tried
from_first : (more k n : ℕ) → k ≤ least_bank more k n
from_first zero k n = omega arith
from_first (suc more) k n = pick (nat_le n (2 ^ k)) (from_first more (k + 1) n)
  where
    pick : (b : Bool) → k + 1 ≤ least_bank more (k + 1) n → k ≤ cond b k (least_bank more (k + 1) n)
    pick true rest = omega arith
    pick false rest = omega (arith, rest)

-- fewer need no greater bank
least_rises : (more k n m : ℕ) → n ≤ m → least_bank more k n ≤ least_bank more k m
least_rises zero k n m low = omega arith
least_rises (suc more) k n m low = elim (cases_lt (2 ^ k) m) [
  | inl past ↦ (let there = far m (2 ^ k) k (least_bank more (k + 1) m) past in elim (cases_lt (2 ^ k) n) [
    | inl also ↦ (let here = far n (2 ^ k) k (least_bank more (k + 1) n) also in
        let rest = least_rises more (k + 1) n m low in omega (arith, there, here, rest))
    | inr before ↦ (let here = near n (2 ^ k) k (least_bank more (k + 1) n) before in
        let rest = from_first more (k + 1) m in omega (arith, there, here, rest))
  ])
  | inr within ↦ (let here = near n (2 ^ k) k (least_bank more (k + 1) n) (omega (arith, low, within)) in
      let rest = from_first (suc more) k m in omega (arith, here, rest))
]

pub bank_rises : (n m : ℕ) → n ≤ m → 2 ^ bank_for n ≤ 2 ^ bank_for m
bank_rises n m low = pow_mono {i = bank_for n} {j = bank_for m} (least_rises greatest_bank 0 n m low)

-- a CPU that has the memory for so many is refused none up to them
never_wanting : (wanted more : ℕ) (e : Refusal) (v w : CpuView Tables) → HasRoomFor wanted v
    → length v.cyclics + more ≤ wanted → CpuChanges raise_tables v (Reserve more (Err e)) w
    → e ≢ why.Memory
never_wanting wanted more e v w h few d is = wants (subst (λ x. CpuChanges raise_tables v (Reserve more (Err x)) w) is d)
  where
    pick : (b : Bool) → 2 ^ bank_for (length v.cyclics + more) ≤ v.room
        → cond b v.size (2 ^ bank_for (length v.cyclics + more)) ≤ v.room
    pick true low = h.size
    pick false low = low

    wants : CpuChanges raise_tables v (Reserve more (Err why.Memory)) w → ⊥
    wants (looked, (room, less)) =
        let fits : length v.cyclics + more ≤ most_cyclics =
        subst (λ cs. length cs + more ≤ most_cyclics) looked.cyclics room.fits in
        let low = pick (nat_le (length v.cyclics + more) v.size) (h.room (length v.cyclics + more) few fits) in
        absurd (omega (arith, low, less))

-- ---- the CPUs of a system

pub room_set : (wanted n : ℕ) (x y : CpuView Tables) (v w : CpusView Tables) → IsCpu n x v → w ≡ with_cpu v n y
    → (HasRoomFor wanted x → HasRoomFor wanted y)
    → HaveRoomFor wanted v → HaveRoomFor wanted w
room_set wanted n x y v w here rest keeps all m cpu is = dite (ℕ_discrete m n) there
    (λ ne. all m cpu (cpu_beside n m cpu y v ne (subst (λ u. IsCpu m cpu u) rest is)))
  where
    there : m ≡ n → HasRoomFor wanted cpu
    there e =
        let at : slice_get (slice_set v.cpus n y) n ≡ Some y = get_set_same v.cpus n y (slice_get_within v.cpus n x here) in
        let own : slice_get w.cpus n ≡ Some cpu = subst (λ (k : ℕ). slice_get w.cpus k ≡ Some cpu) e is in
        let same : y ≡ cpu = same_some (sym at ∙ sym (ap (λ (u : CpusView Tables). slice_get u.cpus n) rest) ∙ own) in
        subst (HasRoomFor wanted) same (keeps (all n x here))

pub room_did : (wanted : ℕ) (c : CallOn) (v w : CpusView Tables) → DoesAt raise_tables v c w → HaveRoomFor wanted v
    → HaveRoomFor wanted w
room_did wanted c v w did = room_set wanted c.cpu did.before did.after v w did.here did.rest
    (changes_room raise_tables wanted did.before did.after c.call did.change)

-- where the memory for so many is there, a CPU that would not have more lacks no memory
pub no_want : (wanted n more : ℕ) (e : Refusal) (v w : CpusView Tables) → HaveRoomFor wanted v
    → ((cpu : CpuView Tables) → IsCpu n cpu v → length cpu.cyclics + more ≤ wanted)
    → DoesAt raise_tables v (on n (Reserve more (Err e))) w → e ≢ why.Memory
no_want wanted n more e v w all few did =
    never_wanting wanted more e did.before did.after (all n did.before did.here) (few did.before did.here) did.change

-- and the memory for more is that for fewer
pub room_fewer : (few many : ℕ) (v : CpusView Tables) → few ≤ many → HaveRoomFor many v → HaveRoomFor few v
room_fewer few many v low all n cpu is = record {
  room = λ k want can. (all n cpu is).room k (omega (arith, want, low)) can;
  size = (all n cpu is).size;
}
