-- Cyclics that come to one CPU and leave it.
use Rattle.std.specs.Prelude.{ℕ, ◌+◌, nat_lt, cond, if◌then◌else◌, Bool, List, [], ◌∷◌, map, length, Some}
use Rattle.std.specs.Prelude.{None}
pub use Rattle.cyc_types.specs.Banks.{least_bank, bank_for}
use Rattle.cyc_types.specs.Series.{never}
use Rattle.cyc_types.specs.declared.level.Soft.TheVariants.{Low, Lock}
use Rattle.cyc_level.specs.declared.Event.TheVariants.{Admit, Mark, Clear, Switch}
use Rattle.cyc_level.specs.Level.{bank_size}
use Rattle.cyc_model.specs.Acts.{At, at_own}
use Rattle.cyc_model.specs.Cpu.{CyclicState, Cpu, Here, here, nothing_here, then_here, is_of, handler_level_of, others, cyclic_at}

-- whether so many more need a greater size
abbrev pub must_grow : ℕ → Cpu → Bool
must_grow more c = nat_lt c.size (length c.cyclics + more)

-- both levels switch to the least bank that has room (cyclic_expand, which doubles)
abbrev pub switch_here : ℕ → ℕ → Cpu → Here
switch_here n bank c = here (At n Lock (Switch bank) ∷ At n Low (Switch bank) ∷ []) (record c { size = bank_size bank })

-- the size grows where so many more need it
abbrev pub widen_here : ℕ → ℕ → Cpu → Here
widen_here n more c = if must_grow more c then switch_here n (bank_for (length c.cyclics + more)) c else nothing_here c

-- a cyclic among others by rising ids
abbrev pub put_in : CyclicState → List CyclicState → List CyclicState
put_in x [] = x ∷ []
put_in x (y ∷ ys) = cond (nat_lt x.timer.id y.timer.id) (x ∷ y ∷ ys) (y ∷ put_in x ys)

-- the cyclic gets this index (cyclic_add_here; cyclic_juggle_one_to)
abbrev pub place_here : ℕ → ℕ → CyclicState → Cpu → Here
place_here n index x c = here (at_own n x.timer.level (Admit x.timer.id index)) (record c { cyclics = put_in x c.cyclics })

-- a cyclic comes to a CPU, which grows for it where it must
abbrev pub enter_here : ℕ → ℕ → CyclicState → Cpu → Here
enter_here n index x c = then_here (widen_here n 1 c) (place_here n index x)

-- a cyclic with no call outstanding leaves for another CPU (cyclic_juggle_one_to, cyclic_remove_here)
abbrev pub take_here : ℕ → ℕ → Cpu → Here
take_here n id c = then_here (here (at_own n (handler_level_of id c) (Mark id)) c)
    (λ d. here (at_own n (handler_level_of id d) (Clear id)) (record d { cyclics = others id d.cyclics }))

-- the cyclic of this id gets another moment (cyclic_reprogram_cyclic)
abbrev pub moment_at : ℕ → ℕ → CyclicState → CyclicState
moment_at id moment x = if is_of id x then cyclic_at moment x else x

abbrev pub reprogram_here : ℕ → ℕ → Cpu → Here
reprogram_here id moment c = nothing_here (record c { cyclics = map (moment_at id moment) c.cyclics })

-- the removal of a cyclic begins: from here on it does not expire (cyclic_remove_xcall)
abbrev pub mark_here : ℕ → ℕ → Cpu → Here
mark_here n id c =
    here (at_own n (handler_level_of id c) (Mark id))
    (record c { cyclics = map (moment_at id never) c.cyclics; removal = Some id })

-- the removal of a cyclic with no call outstanding ends (cyclic_remove_xcall)
abbrev pub clear_here : ℕ → ℕ → Cpu → Here
clear_here n id c = here (at_own n (handler_level_of id c) (Clear id))
    (record c { cyclics = others id c.cyclics; removal = None })
