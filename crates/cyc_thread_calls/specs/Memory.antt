-- A run without refused memory.
use Rattle.std.specs.Prelude.{◌≢◌, ⊤, List, [], ◌∷◌, Err}
use Rattle.cyc_types.specs.declared.refusal.Refusal.TheVariants.{Memory}
use Rattle.cyc_threads.specs.Calls.{SystemCall, Add, AddOmni, Bind, Online}
use Rattle.cyc_system_rings.specs.Leading.{LeadCall, Make}

-- memory was not refused to the call: of those of a script only these ask for it, beside the single moves of a juggle
abbrev pub IsGivenMemory : SystemCall → Type 0
IsGivenMemory (Add level when now answer) = answer ≢ Err Memory
IsGivenMemory (AddOmni level when skew now answer) = answer ≢ Err Memory
IsGivenMemory (Bind id cpu answer) = answer ≢ Err Memory
IsGivenMemory (Online n now answer) = answer ≢ Err Memory
IsGivenMemory call = ⊤

-- nor to any of these
abbrev pub NoMemoryRefused : List LeadCall → Type 0
NoMemoryRefused [] = ⊤
NoMemoryRefused (Make call ∷ calls) = IsGivenMemory call × NoMemoryRefused calls
NoMemoryRefused (call ∷ calls) = NoMemoryRefused calls
