-- How a slot is kept: one key says its id, and whether its cyclic is here.
use Rattle.std.specs.Prelude.{ℕ, ◌+◌, ◌*◌, ◌%◌, ◌==◌, cond, Option, Some, None}

-- what a key says of the index that stands beside it: the key of one that is gone is odd
abbrev pub index_by_key : ℕ → ℕ → Option ℕ
index_by_key key index = cond (key % 2 == 0) (Some index) None

-- the key of an id, and the index beside it, 0 where there is none
abbrev pub key_by_index : ℕ → Option ℕ → ℕ
key_by_index id (Some index) = 2 * id
key_by_index id None = 2 * id + 1

abbrev pub index_or_0 : Option ℕ → ℕ
index_or_0 (Some index) = index
index_or_0 None = 0
