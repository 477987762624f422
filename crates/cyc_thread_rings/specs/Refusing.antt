-- Which of several refusals ends a run.
use Rattle.std.specs.Prelude.{ℕ, ◌+◌, ◌==◌, cond, List, [], ◌∷◌, ◌++◌, Option, Some, None}
use Rattle.cyc_types.specs.declared.refusal.Refusal.{Refusal}
use Rattle.cyc_types.specs.declared.refusal.Refusal.TheVariants.{HandlerRefused}
use Rattle.cyc_soft.specs.declared.SoftRefused.{SoftRefused}
use Rattle.cyc_workers.specs.declared.draining.Drained.{Drained}
use Rattle.cyc_thread_rings.specs.declared.levels.Levels.{Levels}
use Rattle.cyc_thread_rings.specs.declared.refusing.Fire.{Fire}

-- the fire that was refused, where it was this CPU's
abbrev pub of_fire : ℕ → Option Fire → List Refusal
of_fire n None = []
of_fire n (Some fire) = cond (fire.cpu == n) (fire.why ∷ []) []

-- a handler of a soft level that refused
abbrev pub of_level : Option SoftRefused → List Refusal
of_level None = []
of_level (Some refused) = HandlerRefused refused.id ∷ []

-- the refusals of all workers in the order in which they count, from the CPU of this number on: that of the smallest CPU first,
-- and on each CPU firing before lock before low
abbrev pub refusals_from : {D C : Type 0} → ℕ → Option Fire → List (Levels (Drained D C)) → List Refusal
refusals_from n fire [] = []
refusals_from n fire (d ∷ ds) =
    of_fire n fire ++ (of_level d.lock.refused ++ (of_level d.low.refused ++ refusals_from (n + 1) fire ds))

-- the first of them
abbrev pub first_in : List Refusal → Option Refusal
first_in [] = None
first_in (e ∷ es) = Some e
