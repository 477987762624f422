-- The ten events of a level: when each is enabled, and what it changes. Whatever it doesn't name stays.
use Rattle.std.specs.Prelude.{◌≡◌, ◌≢◌, ℕ, zero, suc, ◌+◌, ◌-◌, ◌^◌, ◌<◌, ◌≤◌, ◌==◌, if◌then◌else◌, ⊤, Option, Some, None, IsSome}
use Rattle.std.specs.Prelude.{IsSomeAnd, List, [], ◌∷◌, ◌++◌}
use Rattle.std.specs.Option.{option_map}
use Rattle.cyc_types.specs.Limits.{greatest_bank}
use Rattle.cyc_level.specs.declared.Event.{Event}
use Rattle.cyc_level.specs.declared.Event.TheVariants.{Admit, Expire, Lose, Publish, Take, Finish, Mark, Clear, Switch, Follow}
use Rattle.cyc_level.specs.Level.{AdmittedCyclic, Cyclics, SoftLevel, empty_level, bank_size, count, soft_list}
use Rattle.cyc_level.specs.Lawful.{IsId}

-- the greatest number of expirations that a stay can count (our own rule)
abbrev pub most_sent : ℕ
most_sent = 2 ^ 64 - 1

-- the map with another entry at one id
abbrev pub changed_at : Cyclics → ℕ → (Option AdmittedCyclic → Option AdmittedCyclic) → Cyclics
changed_at m id f = λ j. if j == id then f (m j) else m j

-- a cyclic whose stay begins (cyclic_add_here)
abbrev pub admitted_cyclic : ℕ → AdmittedCyclic
admitted_cyclic index = record { index = index; sent = 0; done = 0; lost = 0; count = 0 }

-- one more expiration, whose call is outstanding (cyclic_expire raises cy_pend)
abbrev pub cyclic_after_expire : AdmittedCyclic → AdmittedCyclic
cyclic_after_expire c = record { index = c.index; sent = c.sent + 1; done = c.done; lost = c.lost; count = c.count + 1 }

-- one more expiration, lost at the ceiling (cyclic_expire where cy_pend is UINT32_MAX)
abbrev pub cyclic_after_lose : AdmittedCyclic → AdmittedCyclic
cyclic_after_lose c = record { index = c.index; sent = c.sent + 1; done = c.done; lost = c.lost + 1; count = c.count }

-- one outstanding call is done (cyclic_softint lowers cy_pend)
abbrev pub cyclic_after_finish : AdmittedCyclic → AdmittedCyclic
cyclic_after_finish c = record { index = c.index; sent = c.sent; done = c.done + 1; lost = c.lost; count = c.count - 1 }

-- the firer's hand after an Expire of the id, which had this count: the id comes into it from 0
abbrev pub hand_after_expire : ℕ → ℕ → Option ℕ → Option ℕ
hand_after_expire zero id hand = Some id
hand_after_expire (suc n) id hand = hand

-- the drainer's hand after a Finish of the id in it, which had this count: it is empty from 1 on
abbrev pub hand_after_finish : ℕ → Option ℕ → Option ℕ
hand_after_finish zero hand = None
hand_after_finish (suc zero) hand = None
hand_after_finish (suc (suc n)) hand = hand

abbrev pub first_of : List ℕ → Option ℕ
first_of [] = None
first_of (x ∷ xs) = Some x

abbrev pub rest_of : List ℕ → List ℕ
rest_of [] = []
rest_of (x ∷ xs) = xs

abbrev pub as_list : Option ℕ → List ℕ
as_list None = []
as_list (Some id) = id ∷ []

abbrev pub IsUnused : SoftLevel → ℕ → Type 0
IsUnused l index = (id : ℕ) (c : AdmittedCyclic) → l.cyclics id ≡ Some c → c.index ≢ index

-- when an event can happen. Each event of the firing side but Publish needs an empty firer's hand
abbrev pub Enabled : Event → SoftLevel → Type 0
Enabled (Admit id index) l = (l.firer_hand ≡ None) × IsId id × (l.cyclics id ≡ None) × IsUnused l index
    × (index < bank_size l.hard_bank)
Enabled (Expire id) l = (l.firer_hand ≡ None) × (l.marked ≢ Some id)
    × IsSomeAnd (l.cyclics id) (λ c. (c.count < l.ceiling) × (c.sent < most_sent))
Enabled (Lose id) l = (l.firer_hand ≡ None) × (l.marked ≢ Some id)
    × IsSomeAnd (l.cyclics id) (λ c. (c.count ≡ l.ceiling) × (c.sent < most_sent))
Enabled Publish l = IsSome l.firer_hand
Enabled Take l = (l.drainer_hand ≡ None) × (soft_list l ≢ [])
Enabled Finish l = IsSome l.drainer_hand
Enabled (Mark id) l = (l.firer_hand ≡ None) × (l.marked ≡ None) × IsSome (l.cyclics id)
Enabled (Clear id) l = (l.firer_hand ≡ None) × (l.marked ≡ Some id) × (count l id ≡ 0)
Enabled (Switch bank) l = (l.firer_hand ≡ None) × (l.hard_bank ≡ l.soft_bank) × (l.hard_bank < bank) × (bank ≤ greatest_bank)
Enabled Follow l = (l.hard_bank ≢ l.soft_bank) × (l.old_list ≡ [])

-- one call of the id in the drainer's hand is done
abbrev pub after_finish : Option ℕ → SoftLevel → SoftLevel
after_finish None l = l
after_finish (Some id) l = record l {
  cyclics = changed_at l.cyclics id (option_map cyclic_after_finish);
  drainer_hand = hand_after_finish (count l id) l.drainer_hand;
}

-- the first id of the soft side's list goes into the drainer's hand
abbrev pub after_take : SoftLevel → SoftLevel
after_take l = record l {
  old_list = (if l.hard_bank == l.soft_bank then l.old_list else rest_of l.old_list);
  new_list = (if l.hard_bank == l.soft_bank then rest_of l.new_list else l.new_list);
  drainer_hand = first_of (soft_list l);
}

-- the level after an event
abbrev pub after : Event → SoftLevel → SoftLevel
after (Admit id index) l = record l { cyclics = changed_at l.cyclics id (λ _. Some (admitted_cyclic index)) }
after (Expire id) l = record l {
  cyclics = changed_at l.cyclics id (option_map cyclic_after_expire);
  firer_hand =
      hand_after_expire (count l id) id l.firer_hand;
}
after (Lose id) l = record l { cyclics = changed_at l.cyclics id (option_map cyclic_after_lose) }
after Publish l = record l { firer_hand = None; new_list = l.new_list ++ as_list l.firer_hand }
after Take l = after_take l
after Finish l = after_finish l.drainer_hand l
after (Mark id) l = record l { marked = Some id }
after (Clear id) l = record l { cyclics = changed_at l.cyclics id (λ _. None); marked = None }
after (Switch bank) l = record l { hard_bank = bank; old_list = l.new_list; new_list = [] }
after Follow l = record l { soft_bank = l.hard_bank }

-- the level after a list of events, the newest first
abbrev pub reached : ℕ → List Event → SoftLevel
reached ceiling [] = empty_level ceiling
reached ceiling (event ∷ events) = after event (reached ceiling events)

-- each event was enabled when it happened
abbrev pub AllEnabled : ℕ → List Event → Type 0
AllEnabled ceiling [] = ⊤
AllEnabled ceiling (event ∷ events) = Enabled event (reached ceiling events) × AllEnabled ceiling events
