-- Few expirations as a heap in an array (`cyp_heap` of sys/cyclic_impl.h), each with an index of its own.
use Rattle.std.specs.Prelude.{◌≡◌, ◌≢◌, ℕ, suc, ◌+◌, ◌*◌, ◌/◌, ◌<◌, ◌≤◌, ◌⊎◌, Bool, true, false, List, [], ◌∷◌, length, Option}
use Rattle.std.specs.Prelude.{Some}
use Rattle.std.specs.Prelude.{None, if◌then◌else◌, take, replicate, slice_set}
use Rattle.cyc_types.specs.Limits.{cyclics}
use Rattle.cyc_types.specs.Series.{never}
use Rattle.cyc_heap.specs.declared.entry.Entry.{Entry}
use Rattle.cyc_heap.specs.Tournament.{entry_at, cyclic_index, free_entry, comes, last_position, winner_of, IsPlayed}
use Rattle.cyc_heap.specs.Tournament.{IsListed}

-- the most that are ever few, of so many leaves (our own)
abbrev pub most_few : ℕ → ℕ
most_few leaves = leaves / 2 + 16

-- c is one of the two positions below a (`CYC_HEAP_LEFT` and `CYC_HEAP_RIGHT` of sys/cyclic_impl.h)
abbrev pub IsChild : ℕ → ℕ → Type 0
IsChild a c = (c ≡ 2 * a + 1) ⊎ (c ≡ 2 * a + 2)

-- none comes before the one above it, and no two have one index
pub record IsHeap (few : List Entry) : Type 0 where
  pub rising : (a c : ℕ) → IsChild a c → c < length few → comes (entry_at few a) (entry_at few c) ≡ true
  pub apart : (p q : ℕ) → p < length few → q < length few → p ≢ q → cyclic_index (entry_at few p) ≢ cyclic_index (entry_at few q)

-- the same, but for this position, above and below which they are in order too
pub record IsHeapBut (hole : ℕ) (few : List Entry) : Type 0 where
  pub rising : (a c : ℕ) → IsChild a c → c < length few → a ≢ hole → c ≢ hole → comes (entry_at few a) (entry_at few c) ≡ true
  pub bridge : (a c : ℕ) → IsChild a hole → IsChild hole c → c < length few → comes (entry_at few a) (entry_at few c) ≡ true
  pub apart : (p q : ℕ) → p < length few → q < length few → p ≢ hole → q ≢ hole → p ≢ q
      → cyclic_index (entry_at few p) ≢ cyclic_index (entry_at few q)

-- the entry above this position doesn't come after this one
abbrev pub IsBelow : Entry → ℕ → List Entry → Type 0
IsBelow e position few = (a : ℕ) → IsChild a position → comes (entry_at few a) e ≡ true

-- the entries but for the hole are the old ones but for that of this position
pub record IsSame (position : ℕ) (old : List Entry) (hole : ℕ) (few : List Entry) : Type 0 where
  pub long : length few ≡ length old
  pub from : (p : ℕ) → p < length few → p ≢ hole → (q : ℕ) × (q < length old) × (q ≢ position) × (entry_at few p ≡ entry_at old q)
  pub to : (q : ℕ) → q < length old → q ≢ position → (p : ℕ) × (p < length few) × (p ≢ hole) × (entry_at few p ≡ entry_at old q)

-- the entries are this one, and the old ones but for that of this position
pub record IsFilled (position : ℕ) (old : List Entry) (e : Entry) (few : List Entry) : Type 0 where
  pub long : length few ≡ length old
  pub here : (p : ℕ) × (p < length few) × (entry_at few p ≡ e)
  pub from : (p : ℕ) → p < length few
      → (entry_at few p ≡ e) ⊎ ((q : ℕ) × (q < length old) × (q ≢ position) × (entry_at few p ≡ entry_at old q))
  pub to : (q : ℕ) → q < length old → q ≢ position → (p : ℕ) × (p < length few) × (entry_at few p ≡ entry_at old q)

-- none of them has this index
abbrev pub HasNoIndex : ℕ → List Entry → Type 0
HasNoIndex i few = (p : ℕ) → p < length few → cyclic_index (entry_at few p) ≢ i

-- one of them at this position or behind it has this word
abbrev pub HasWordFrom : ℕ → ℕ → List Entry → Type 0
HasWordFrom position word few = (p : ℕ) × (position ≤ p) × (p < length few) × ((entry_at few p).word ≡ word)

-- each of them is the leaf of its index
abbrev pub StandsIn : List Entry → List Entry → Type 0
StandsIn entries few = (p : ℕ) → p < length few → entry_at entries (cyclic_index (entry_at few p)) ≡ entry_at few p

-- they are the leaves that have a moment
pub record IsFew (few : List Entry) (leaves : ℕ) (entries : List Entry) : Type 0 where
  pub heap : IsHeap few
  pub low : (p : ℕ) → p < length few → cyclic_index (entry_at few p) < leaves
  pub own : StandsIn entries few
  pub used : (p : ℕ) → p < length few → (entry_at few p).moment ≤ never
  pub all : (i : ℕ) → i < leaves → (entry_at entries i).moment ≤ never
      → (p : ℕ) × (p < length few) × (cyclic_index (entry_at few p) ≡ i) × (entry_at few p ≡ entry_at entries i)

-- a leaf with no moment is the free entry
abbrev pub HasBareLeaves : ℕ → List Entry → Type 0
HasBareLeaves leaves entries = (i : ℕ) → i < leaves → never < (entry_at entries i).moment → entry_at entries i ≡ free_entry

-- the index of the first
abbrev pub first_index : List Entry → Option ℕ
first_index [] = None
first_index (e ∷ es) = Some (cyclic_index e)

-- the index at the root: of the first where they are few, and of the last winner else
abbrev pub root_of : Bool → List Entry → ℕ → List Entry → Option ℕ
root_of is_few few leaves entries = (if is_few then first_index few else winner_of leaves entries)

-- these entries, with each of the few in the leaf of its index
unfoldable pub spread : List Entry → List Entry → List Entry
spread [] entries = entries
spread (e ∷ few) entries = slice_set (spread few entries) (cyclic_index e) e

-- what the leaves have: where they are few, so many stand in front, each as if in its leaf, and what stands behind means nothing
abbrev pub shown : Bool → ℕ → List Entry → List Entry
shown is_few held entries =
    (if is_few then spread (take held entries) (replicate (length entries) free_entry) else entries)

-- where none stands in front the first entry is free
abbrev pub IsBareFront : ℕ → List Entry → Type 0
IsBareFront held entries = held ≡ 0 → entry_at entries 0 ≡ free_entry

-- where the least expiration stands: in front where they are few, and as the last winner else
abbrev pub root_position : Bool → ℕ → ℕ
root_position is_few leaves = (if is_few then 0 else last_position leaves)

-- what stands in the entries: few as a heap in front, or leaves that have played
pub record IsTree (is_few : Bool) (held leaves : ℕ) (entries : List Entry) : Type 0 where
  pub long : suc (length entries) ≡ 2 * leaves
  pub within : held ≤ length entries
  pub heap : is_few ≡ true → IsFew (take held entries) leaves (shown is_few held entries)
  pub front : is_few ≡ true → IsBareFront held entries
  pub played : is_few ≡ false → IsPlayed leaves (shown is_few held entries)
  pub bare : HasBareLeaves leaves (shown is_few held entries)

-- these leaves have another entry for this index, and no other is changed
pub record IsChanged (leaves x : ℕ) (e : Entry) (xs ys : List Entry) : Type 0 where
  pub long : length ys ≡ length xs
  pub here : entry_at ys x ≡ e
  pub others : (i : ℕ) → i < leaves → i ≢ x → entry_at ys i ≡ entry_at xs i

-- the leaves of a heap, its indexes, and those of them that were ever given
pub record Extent : Type 0 where
  pub leaves : ℕ
  pub size : ℕ
  pub given : ℕ

abbrev pub extent : (leaves size given : ℕ) → Extent
extent leaves size given = record { leaves = leaves; size = size; given = given }

-- with so many leaves and indexes few are a heap, and many have played
pub record IsTournament (is_few : Bool) (few : List Entry) (x : Extent) (entries : List Entry) (free : List ℕ) : Type 0 where
  pub some : 0 < x.leaves
  pub at_most : x.leaves ≤ cyclics
  pub long : suc (length entries) ≡ 2 * x.leaves
  pub wide : x.size ≤ x.leaves
  pub known : x.given ≤ x.size
  pub heap : is_few ≡ true → IsFew few x.leaves entries
  pub played : is_few ≡ false → IsPlayed x.leaves entries
  pub bare : HasBareLeaves x.leaves entries
  pub listed : IsListed x.given entries free
  pub unused : (i : ℕ) → x.given ≤ i → i < x.leaves → never < (entry_at entries i).moment

-- how many stand in front, and where the least expiration stands
pub record IsFront (is_few : Bool) (held root : ℕ) (x : Extent) (entries : List Entry) (free : List ℕ) : Type 0 where
  pub first : root ≡ root_position is_few x.leaves
  pub used : is_few ≡ true → held + length free ≤ x.given
  pub most : is_few ≡ true → held ≤ most_few x.leaves
  pub none : is_few ≡ false → held ≡ 0
  pub front : is_few ≡ true → IsBareFront held entries
