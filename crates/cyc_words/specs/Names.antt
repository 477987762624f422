-- What the names of a script have while it runs (our own rule).
use Rattle.std.specs.Prelude.{◌≡◌, ℕ, Bool, true, false, List, slice_set, slice_index_or, Option, Some, None, Ok}
use Rattle.cyc_system.specs.SystemRemoval.TheVariants.{Done, Kept}
use Rattle.cyc_system.specs.Calls.{SystemCall, Add, AddOmni, BeginRemove, PollRemove}
use Rattle.cyc_words.specs.declared.named.Named.{Named}
use Rattle.cyc_words.specs.declared.named.Named.TheVariants.{Nothing, Cyclic, Leaving, Removed}

-- what the name of a number has
abbrev pub named_at : List Named → ℕ → Named
named_at names name = slice_index_or names name Nothing

-- the id of its cyclic; once that is removed it has none, since a call for it would be refused and change nothing
abbrev pub cyclic_id : Named → Option ℕ
cyclic_id Nothing = None
cyclic_id (Cyclic id) = Some id
cyclic_id (Leaving id) = Some id
cyclic_id (Removed receipt) = None

-- the removal of its cyclic is open
abbrev pub has_open_removal : Named → Bool
has_open_removal Nothing = false
has_open_removal (Cyclic id) = false
has_open_removal (Leaving id) = true
has_open_removal (Removed receipt) = false

-- no removal is open
abbrev pub NoneLeaves : List Named → Type 0
NoneLeaves names = (name : ℕ) → has_open_removal (named_at names name) ≡ false

-- what the answer to a call changes of what its name has: an add gives it an id, and a removal opens, or ends with a receipt
abbrev pub news : SystemCall → Option Named
news (Add level when now (Ok id)) = Some (Cyclic id)
news (AddOmni level when skew now (Ok id)) = Some (Cyclic id)
news (BeginRemove id (Ok (Kept calls))) = Some (Leaving id)
news (BeginRemove id (Ok (Done receipt))) = Some (Removed receipt)
news (PollRemove id (Ok (Some receipt))) = Some (Removed receipt)
news call = None

-- the names after this news of one of them
abbrev pub noted : ℕ → Option Named → List Named → List Named
noted name None names = names
noted name (Some now) names = slice_set names name now
