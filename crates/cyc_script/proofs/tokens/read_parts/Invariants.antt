use Rattle.std.proofs.Common.{◌≡◌, ℕ, ◌≤◌, List, length, map, take}
use Rattle.json.specs.Json.{items, value, parse_map}
use Rattle.serde_json.specs.Data.{Data}
use Rattle.serde_json.specs.Read.{of_items, converted}
use Rattle.cyc_script.specs.Parts.{data_of, plain_data}
use Rattle.cyc_script.proofs.Parts.{items_before}
use Rattle.cyc_script.proofs.tokens.read_parts.Given as goal

abbrev pub invariant-loop-reader : goal.invariant-loop-reader
invariant-loop-reader l =
    (n : ℕ) × (front : List Data) × (length l.reader ≤ n)
    × (converted of_items (items (value 124) (length l.initial.reader) l.initial.reader)
    ≡ parse_map (items_before front) (converted of_items (items (value 124) n l.reader)))
    × (map data_of l.parts.items ≡ take 7 (map plain_data front))

abbrev pub decreases-loop-reader : goal.decreases-loop-reader
decreases-loop-reader l = length l.reader
