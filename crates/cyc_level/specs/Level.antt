-- The level: its admitted cyclics, its two banks, and the four places in which a cyclic with calls outstanding can stand.
use Rattle.std.specs.Prelude.{ℕ, ◌+◌, ◌^◌, ◌==◌, if◌then◌else◌, Option, Some, None, List, [], ◌∷◌}

-- what a level keeps of an admitted cyclic during one stay: its index, the expirations, the finished calls, the
-- expirations lost at the ceiling, and the pend (cyc_t's cy_pend)
pub record AdmittedCyclic : Type 0 where
  pub index : ℕ
  pub sent : ℕ
  pub done : ℕ
  pub lost : ℕ
  pub count : ℕ

-- the finite map of the admitted cyclics: None where an id is not admitted
abbrev pub Cyclics : Type 0
Cyclics = ℕ → Option AdmittedCyclic

-- a soft level of one CPU (cyc_softbuf_t and its two cyc_pcbuffer_t, sys/cyclic_impl.h)
pub record SoftLevel : Type 0 where
  pub ceiling : ℕ  -- the greatest pend
  pub hard_bank : ℕ  -- the bank that the firing side fills (cys_hard)
  pub soft_bank : ℕ  -- the bank that the soft side drains (cys_soft)
  pub cyclics : Cyclics
  pub marked : Option ℕ  -- the id whose removal is open
  pub firer_hand : Option ℕ  -- the id that is raised and not yet published
  pub old_list : List ℕ  -- the ids in the bank that the firing side has left
  pub new_list : List ℕ  -- the ids in the bank that the firing side fills
  pub drainer_hand : Option ℕ  -- the id whose calls are being made

-- a level as it begins: no cyclic, and both banks 0
abbrev pub empty_level : ℕ → SoftLevel
empty_level ceiling = record {
  ceiling = ceiling;
  hard_bank = 0;
  soft_bank = 0;
  cyclics = λ _. None;
  marked = None;
  firer_hand = None;
  old_list = [];
  new_list = [];
  drainer_hand = None;
}

-- the slots of a bank (cypc_sizemask + 1; our own rule: bank k has 2^k)
abbrev pub bank_size : ℕ → ℕ
bank_size bank = 2 ^ bank

abbrev pub count_in : Option AdmittedCyclic → ℕ
count_in None = 0
count_in (Some c) = c.count

-- the outstanding calls of an id: the pending ones with the one in hand, or those kept where it is marked
abbrev pub count : SoftLevel → ℕ → ℕ
count l id = count_in (l.cyclics id)

-- the list that the soft side empties (cyclic_softint compares cys_soft with cys_hard)
abbrev pub soft_list : SoftLevel → List ℕ
soft_list l = if l.hard_bank == l.soft_bank then l.new_list else l.old_list

-- how often an id stands in a list
abbrev pub times_in : ℕ → List ℕ → ℕ
times_in id [] = 0
times_in id (x ∷ xs) = (if id == x then 1 else 0) + times_in id xs

-- 1 where the id is in the hand
abbrev pub in_hand : ℕ → Option ℕ → ℕ
in_hand id None = 0
in_hand id (Some x) = if id == x then 1 else 0

-- how often an id stands in the four places together
abbrev pub place_count : SoftLevel → ℕ → ℕ
place_count l id = in_hand id l.firer_hand + times_in id l.old_list + times_in id l.new_list + in_hand id l.drainer_hand
