-- The soft interrupt of one level of one CPU.
use Rattle.std.specs.Prelude.{ℕ, zero, suc, ◌==◌, if◌then◌else◌, Bool, true, false, List, [], ◌∷◌, ◌++◌, map, is_some}
use Rattle.std.specs.Option.{option_map_or}
use Rattle.cyc_types.specs.declared.level.Soft.{Soft}
use Rattle.cyc_types.specs.declared.level.Soft.TheVariants.{Low, Lock}
use Rattle.cyc_level.specs.declared.Event.{Event}
use Rattle.cyc_level.specs.declared.Event.TheVariants.{Take, Finish, Follow}
use Rattle.cyc_level.specs.Level.{SoftLevel}
use Rattle.cyc_level.specs.Events.{after}
use Rattle.cyc_model.specs.Acts.{Act, At, Call}
use Rattle.cyc_model.specs.Cpu.{Cpu, Here, here}

-- the level after these events
abbrev pub level_after : List Event → SoftLevel → SoftLevel
level_after [] l = l
level_after (event ∷ events) l = level_after events (after event l)

-- the look for the next cyclic, at an old and a new list, on the same bank or not: the old bank is emptied before the soft side
-- follows to the new one (cyclic_softint)
abbrev pub looks : List ℕ → List ℕ → Bool → List Event
looks old (x ∷ xs) true = Take ∷ []
looks old [] true = []
looks (x ∷ xs) new false = Take ∷ []
looks [] (y ∷ ys) false = Follow ∷ Take ∷ []
looks [] [] false = Follow ∷ []

-- with a cyclic in hand there is no look
abbrev pub look : SoftLevel → List Event
look l = if is_some l.drainer_hand then [] else looks l.old_list l.new_list (l.hard_bank == l.soft_bank)

-- what a soft interrupt does, and whether it stops because it finds nothing
pub record Interrupt : Type 0 where
  pub acts : List Act
  pub idle : Bool

-- the handler is called, and the pend is lowered after it
abbrev pub calling : ℕ → Soft → List Event → ℕ → Interrupt → Interrupt
calling n soft looked id rest = record {
  acts = map (At n soft) looked ++ Call id ∷ At n soft Finish ∷ rest.acts;
  idle = rest.idle;
}

abbrev pub found_nothing : ℕ → Soft → List Event → Interrupt
found_nothing n soft looked = record { acts = map (At n soft) looked; idle = true }

-- after a look: the cyclic in hand is called, and then the rest is done
abbrev pub after_look : ℕ → Soft → List Event → SoftLevel → (SoftLevel → Interrupt) → Interrupt
after_look n soft looked l rest =
    option_map_or (λ id. calling n soft looked id (rest (after Finish l))) l.drainer_hand (found_nothing n soft looked)

-- a soft interrupt that may make this many calls (cyclic_softint; the budget is our own rule)
abbrev pub serve : ℕ → Soft → ℕ → SoftLevel → Interrupt
serve n soft zero l = record { acts = []; idle = false }
serve n soft (suc budget) l = after_look n soft (look l) (level_after (look l) l) (serve n soft budget)

abbrev pub level_at : Soft → Cpu → SoftLevel
level_at Low c = c.low
level_at Lock c = c.lock

abbrev pub interrupt_here : ℕ → Soft → ℕ → Cpu → Interrupt
interrupt_here n soft budget c = serve n soft budget (level_at soft c)

-- the soft interrupt of this level on the CPU of this number
abbrev pub serve_here : ℕ → Soft → ℕ → Cpu → Here
serve_here n soft budget c = here (interrupt_here n soft budget c).acts c
