-- Memory on every online CPU (the first part of `cyclic_add_omni`).
use Rattle.std.specs.Prelude.{◌≡◌, ℕ, List, [], ◌∷◌, ◌++◌, map, ◌⊎◌, Result, Ok, Err}
use Rattle.cyc_types.specs.declared.Raise.{Ghosts as Raise}
use Rattle.cyc_types.specs.declared.refusal.Refusal.{Refusal}
use Rattle.cyc_types.specs.declared.refusal.Refusal.TheVariants.{Memory}
use Rattle.cyc_cpu.specs.Calls.{AskRoom, Reserve}
use Rattle.cyc_agreement.specs.Cpus.{CpusView, CallOn, on, online_cpus, Works}

-- each of these CPUs was asked for room for so many more, and has it
abbrev pub rooms : ℕ → List ℕ → List CallOn
rooms more ns = map (λ n. on n (AskRoom more (Ok tt))) ns

-- the memory for so many more was taken on each of these CPUs
abbrev pub reserves : ℕ → List ℕ → List CallOn
reserves more ns = map (λ n. on n (Reserve more (Ok tt))) ns

-- of these numbers n is one, and these stand before it
abbrev pub StandsAfter : List ℕ → ℕ → List ℕ → Type 0
StandsAfter before n all = (rest : List ℕ) × (all ≡ before ++ n ∷ rest)

-- the online CPUs were asked for room, in rising number up to the first that has none
abbrev pub WhyNoRooms : {R : Type 0} → Raise R
    → ℕ → Refusal → CpusView R → CpusView R → Type 0
WhyNoRooms firing more e v w = (before : List ℕ) × (n : ℕ) × StandsAfter before n (online_cpus v)
    × Works firing (rooms more before ++ on n (AskRoom more (Err e)) ∷ []) v w

-- memory was taken on the online CPUs, in rising number up to the first where there was none
abbrev pub WhyNotAllReserved : {R : Type 0} → Raise R
    → ℕ → Refusal → CpusView R → CpusView R → Type 0
WhyNotAllReserved firing more e v w = (e ≡ Memory) × (before : List ℕ) × (n : ℕ) × StandsAfter before n (online_cpus v)
    × Works firing (reserves more before ++ on n (Reserve more (Err e)) ∷ []) v w

-- all online CPUs are asked for room first; only where each has it memory is taken
abbrev pub ReservesEach : {R : Type 0} → Raise R
    → ℕ → Result (Unit {0}) Refusal → CpusView R → CpusView R → Type 0
ReservesEach {R} firing more (Ok done) v w = (asked : CpusView R) × Works firing (rooms more (online_cpus v)) v asked
    × Works firing (reserves more (online_cpus v)) asked w
ReservesEach {R} firing more (Err e) v w = WhyNoRooms firing more e v w
    ⊎ ((asked : CpusView R) × Works firing (rooms more (online_cpus v)) v asked × WhyNotAllReserved firing more e asked w)
