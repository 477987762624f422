-- What becomes of cyclics, calls and counts where cyclics move, and where CPUs come and go.
use Rattle.std.specs.Prelude.{◌≡◌, ℕ, ◌<◌, ⊤, Bool, false, map, List, Option, Some, IsSome}
use Rattle.cyc_script.specs.declared.step.Step.{Step}
use Rattle.cyc_script.specs.declared.step.Step.TheVariants.{Bind, Unbind, Juggle, Offline, Online}
use Rattle.cyc_model.specs.Cpu.{CyclicState, cyclic_with_id}
use Rattle.cyc_model.specs.Questions.{plain}
use Rattle.cyc_model.specs.State.{State, On, cpu_of}
use Rattle.cyc_model.specs.Places.{placement_of, home_of, is_omni}
use Rattle.cyc_model.specs.Report.{counts_of}
use Rattle.cyc_model.specs.Script.{word, run_on}

-- the steps that move cyclics
abbrev pub IsMove : Step → Type 0
IsMove (Bind b) = ⊤
IsMove (Unbind name) = ⊤
IsMove (Juggle n) = ⊤
IsMove (Offline n) = ⊤
IsMove (Online n) = ⊤
IsMove _ = ⊥

-- a cyclic on the CPU where it is put down
abbrev pub at_home : ℕ → State → Option CyclicState
at_home id s = cyclic_with_id id (cpu_of (home_of id s) s)

-- nothing was lost between the two
pub record Kept (s t : State) : Type 0 where
  -- no cyclic
  pub ids : map (λ p. p.id) t.placed ≡ map (λ p. p.id) s.placed
  -- and one that is on one CPU is on one CPU, with its level, its interval, its next expiration and its counts
  pub cyclics : (id : ℕ) → is_omni id s ≡ false → (is_omni id t ≡ false) × (at_home id t ≡ at_home id s)
  -- no expiration, no call, no loss and no pending call of any cyclic, over all CPUs and all stays
  pub counts : (id : ℕ) → counts_of id t ≡ counts_of id s

-- a step that moves cyclics loses nothing, after any steps over any CPUs
abbrev pub MovesLoseNothing : Type 0
MovesLoseNothing = (indexes : ℕ → ℕ) (cpus ceiling : ℕ) (texts : List (List ℕ)) (steps : List Step) (step : ℕ) (x : Step)
    → 0 < cpus → IsMove x
    → Kept (run_on indexes cpus ceiling texts steps).state
    (word plain texts indexes step x (run_on indexes cpus ceiling texts steps).state).state

-- and a cyclic that is put down as on a CPU is there
abbrev pub CyclicsAreAtHome : Type 0
CyclicsAreAtHome = (indexes : ℕ → ℕ) (cpus ceiling : ℕ) (texts : List (List ℕ)) (steps : List Step) (id n : ℕ) (bound : Bool)
    → 0 < cpus → placement_of id (run_on indexes cpus ceiling texts steps).state ≡ Some (On n bound)
    → IsSome (at_home id (run_on indexes cpus ceiling texts steps).state)
