-- The fire of one CPU.
use Rattle.std.specs.Prelude.{ℕ, ◌+◌, ◌==◌, if◌then◌else◌, List, [], ◌∷◌, map}
use Rattle.cyc_types.specs.declared.level.Soft.TheVariants.{Low, Lock}
use Rattle.cyc_types.specs.declared.level.Level.{Level}
use Rattle.cyc_types.specs.declared.level.Level.TheVariants as level
use Rattle.cyc_level.specs.declared.Event.{Event}
use Rattle.cyc_level.specs.declared.Event.TheVariants.{Expire, Lose, Publish}
use Rattle.cyc_level.specs.Level.{SoftLevel, count}
use Rattle.cyc_types.specs.Expirations.{Expiration, expirations, after_expirations}
use Rattle.cyc_model.specs.Acts.{Act, At, Call, losses_of}
use Rattle.cyc_model.specs.Cpu.{CyclicState, Cpu, Here, here, nothing_here, then_here, timers_on, handler_level_of}

-- an expiration at a soft level (cyclic_expire): at the ceiling it is lost; else the pend rises, and from 0 the cyclic is put
-- into the buffer. The ceiling is our own rule
abbrev pub raised : ℕ → SoftLevel → List Event
raised id l = if count l id == l.ceiling then Lose id ∷ []
    else if count l id == 0 then Expire id ∷ Publish ∷ []
    else Expire id ∷ []

-- one expiration: a high-level handler is called at once
abbrev pub expiry : ℕ → Level → ℕ → Cpu → List Act
expiry n level.High id c = Call id ∷ []
expiry n level.Lock id c = map (At n Lock) (raised id c.lock)
expiry n level.Low id c = map (At n Low) (raised id c.low)

abbrev pub expire_here : ℕ → ℕ → Cpu → Here
expire_here n id c = here (expiry n (handler_level_of id c) id c) c

-- these expirations, in order
abbrev pub expire_all : ℕ → List Expiration → Cpu → Here
expire_all n [] c = nothing_here c
expire_all n (p ∷ ps) c = then_here (expire_here n p.id c) (expire_all n ps)

-- the expirations of a fire at this moment
abbrev pub due_here : ℕ → Cpu → List Expiration
due_here now c = expirations now (timers_on c.cyclics)

-- a cyclic after a fire that made these expirations, by these acts
abbrev pub fired_cyclic : ℕ → List Expiration → List Act → CyclicState → CyclicState
fired_cyclic now made acts c = record { timer = after_expirations now made c.timer; lost = c.lost + losses_of c.timer.id acts }

abbrev pub with_fired : ℕ → List Expiration → Here → Here
with_fired now made d = record d { cpu = record d.cpu { cyclics = map (fired_cyclic now made d.acts) d.cpu.cyclics } }

abbrev pub fire_these : ℕ → ℕ → List Expiration → Cpu → Here
fire_these n now made c = with_fired now made (expire_all n made c)

-- the CPU of this number fires (cyclic_fire)
abbrev pub fire_here : ℕ → ℕ → Cpu → Here
fire_here n now c = fire_these n now (due_here now c) c
