-- A tournament among the expirations of all indexes (Knuth, The Art of Computer Programming, volume 3, 5.4.1): first a leaf for
-- each index, and some that stand free, then the winner of each game. The entries 2g and 2g + 1 play the game g, and its winner
-- is the entry g after the leaves.
use Rattle.std.specs.Prelude.{◌≡◌, ◌≢◌, ℕ, suc, ◌+◌, ◌-◌, ◌*◌, ◌/◌, ◌%◌, ◌^◌, ◌<◌, ◌≤◌, ◌⊎◌, ◌==◌, ◌&&◌, ◌||◌, Bool, true, nat_lt}
use Rattle.std.specs.Prelude.{nat_le, List, length, take}
use Rattle.std.specs.Prelude.{map, count_by, slice_index_or, Option, Some, None, is_some, if◌then◌else◌}
use Rattle.cyc_types.specs.Limits.{cyclics, last_id}
use Rattle.cyc_types.specs.Series.{never}
use Rattle.cyc_types.specs.Expirations.{Expiration}
use Rattle.cyc_heap.specs.declared.entry.Entry.{Entry}

-- what is read past the end
abbrev pub nowhere : Entry
nowhere = record { moment = 0; word = 0 }

-- the id and the index of an entry's cyclic, which stand in one word, the id in the high bits
abbrev pub id_in_word : Entry → ℕ
id_in_word e = e.word / cyclics

abbrev pub cyclic_index : Entry → ℕ
cyclic_index e = e.word % cyclics

abbrev pub key : Entry → Expiration
key e = record { moment = e.moment; id = id_in_word e }

abbrev pub entry_at : List Entry → ℕ → Entry
entry_at entries p = slice_index_or entries p nowhere

-- the entry of a free index: it comes after every moment, and its word means nothing
abbrev pub free_entry : Entry
free_entry = record { moment = 2 ^ 64 - 1; word = last_id * cyclics }

-- what a leaf has: an expiration where it has a moment, and else its index is free
abbrev pub slot : Entry → Option Expiration
slot e = (if nat_lt never e.moment then None else Some (key e))

-- what each index has
unfoldable pub slots : ℕ → List Entry → List (Option Expiration)
slots size entries = map slot (take size entries)

-- the position of the winner of all games, with so many leaves
abbrev pub last_position : ℕ → ℕ
last_position leaves = 2 * (leaves - 1)

-- its index, none where all indexes are free
abbrev pub winner_of : ℕ → List Entry → Option ℕ
winner_of leaves entries = (if nat_lt never (entry_at entries (last_position leaves)).moment then None
    else Some (cyclic_index (entry_at entries (last_position leaves))))

-- a comes no later than b: it has the earlier moment, or the same one and no greater id; of one id the smaller index comes first
abbrev pub comes : Entry → Entry → Bool
comes a b = nat_lt a.moment b.moment || ((a.moment == b.moment) && nat_le a.word b.word)

-- one of two entries, which comes no later than either
pub record IsWinner (won a b : Entry) : Type 0 where
  pub one : (won ≡ a) ⊎ (won ≡ b)
  pub left : comes won a ≡ true
  pub right : comes won b ≡ true

-- the winner of this game stands where it should
abbrev pub IsPlayedAt : ℕ → ℕ → List Entry → Type 0
IsPlayedAt g leaves entries =
    IsWinner (entry_at entries (leaves + g)) (entry_at entries (2 * g)) (entry_at entries (2 * g + 1))

-- all games are played
abbrev pub IsPlayed : ℕ → List Entry → Type 0
IsPlayed leaves entries = (g : ℕ) → suc g < leaves → IsPlayedAt g leaves entries

-- the same, but for this game
abbrev pub IsPlayedBut : ℕ → ℕ → List Entry → Type 0
IsPlayedBut left_out leaves entries = (g : ℕ) → suc g < leaves → g ≢ left_out → IsPlayedAt g leaves entries

-- of the indexes that were ever given, which are the smaller ones: a leaf that is not free has its own index, and these are free
-- again, each once
pub record IsListed (given : ℕ) (entries : List Entry) (free : List ℕ) : Type 0 where
  pub own : (i : ℕ) → i < given → (entry_at entries i).moment ≤ never → cyclic_index (entry_at entries i) ≡ i
  pub low : (p : ℕ) → p < length free → slice_index_or free p 0 < given
  pub none : (p : ℕ) → p < length free → never < (entry_at entries (slice_index_or free p 0)).moment
  pub apart : (p q : ℕ) → p < q → q < length free → slice_index_or free p 0 ≢ slice_index_or free q 0
  pub count : count_by is_some (slots given entries) + length free ≡ given
