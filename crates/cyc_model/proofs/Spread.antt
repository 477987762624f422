-- How the cyclics of a machine are spread over its CPUs.
use Rattle.std.proofs.Common.{◌≡◌, ◌≢◌, ℕ, zero, suc, ◌<◌, Bool, true, List, [], ◌∷◌, length, Option, Some, None, refl, ap, sym}
use Rattle.std.proofs.Common.{◌∙◌, subst, inl, inr, ⊎_elim, ◌⊎◌, arith}
use Rattle.std.specs.Prelude.{IsSome, is_some, slice_index_or}
use Rattle.cyc_model.specs.Cpu.{CyclicState, Cpu}
use Rattle.cyc_model.specs.State.{State, On, OnAll, Everywhere, absent, cpu_of}
use Rattle.cyc_model.specs.Places.{placement_of}
use Rattle.cyc_model.proofs.Rising.{found}
use Rattle.cyc_model.proofs.Base.{Base}

-- a component on each online CPU
abbrev pub Full : ℕ → State → Type 0
Full j s = (m : ℕ) → (cpu_of m s).online ≡ true → IsSome (found j (cpu_of m s).cyclics)

-- its removal is open wherever it is
abbrev pub Leaving : ℕ → State → Type 0
Leaving j s = (m : ℕ) → IsSome (found j (cpu_of m s).cyclics) → (cpu_of m s).removal ≡ Some j

-- an omnipresent cyclic stays, or leaves
abbrev pub Stands : ℕ → State → Type 0
Stands j s = (Full j s × ((m : ℕ) → (cpu_of m s).removal ≢ Some j))
    ⊎ (Leaving j s × ((m : ℕ) × IsSome (found j (cpu_of m s).cyclics)))

pub record Spread (s : State) : Type 0 where
  -- a CPU is online
  pub some : (n : ℕ) × (n < length s.cpus) × ((cpu_of n s).online ≡ true)
  -- a CPU with a cyclic is online
  pub there : (n j : ℕ) → IsSome (found j (cpu_of n s).cyclics) → (cpu_of n s).online ≡ true
  -- a cyclic that is on one CPU is there
  pub home : (j n : ℕ) (bound : Bool) → placement_of j s ≡ Some (On n bound) → IsSome (found j (cpu_of n s).cyclics)
  pub stands : (j : ℕ) → ((e : Everywhere) → placement_of j s ≡ Some (OnAll e) → Stands j s)

-- the machine between two words
pub record Good (s : State) : Type 0 where
  pub base : Base None s
  pub spread : Spread s

-- ---- where the CPUs look the same

pub record SameView (c d : Cpu) : Type 0 where
  pub ids : (j : ℕ) → is_some (found j d.cyclics) ≡ is_some (found j c.cyclics)
  pub removal : d.removal ≡ c.removal
  pub online : d.online ≡ c.online

pub view_refl : (c : Cpu) → SameView c c
view_refl c = record { ids = λ j. refl; removal = refl; online = refl }

-- as far as one id goes
pub record Still (j : ℕ) (s t : State) : Type 0 where
  pub ids : (m : ℕ) → is_some (found j (cpu_of m t).cyclics) ≡ is_some (found j (cpu_of m s).cyclics)
  pub removal : (m : ℕ) → (cpu_of m t).removal ≡ (cpu_of m s).removal
  pub online : (m : ℕ) → (cpu_of m t).online ≡ (cpu_of m s).online

pub still_then : (j : ℕ) (s t u : State) → Still j s t → Still j t u → Still j s u
still_then j s t u one two = record {
  ids = λ m. two.ids m ∙ one.ids m;
  removal = λ m. two.removal m ∙ one.removal m;
  online = λ m. two.online m ∙ one.online m;
}

pub stands_still : (j : ℕ) (s t : State) → Still j s t → Stands j s → Stands j t
stands_still j s t h = ⊎_elim
    (λ full. inl ((λ m on. h.ids m ∙ full.0 m (sym (h.online m) ∙ on)), (λ m is. full.1 m (sym (h.removal m) ∙ is))))
    (λ leave. inr ((λ m some. h.removal m ∙ leave.0 m (sym (h.ids m) ∙ some)), (leave.1.0, h.ids leave.1.0 ∙ leave.1.1)))

pub spread_view : (s t : State) → length t.cpus ≡ length s.cpus → ((j : ℕ) → placement_of j t ≡ placement_of j s)
    → ((m : ℕ) → SameView (cpu_of m s) (cpu_of m t)) → Spread s → Spread t
spread_view s t len placement view h = record {
  some = (h.some.0, subst (λ k. h.some.0 < k) (sym len) h.some.1, (view h.some.0).online ∙ h.some.2);
  there = λ n j some. (view n).online ∙ h.there n j (sym ((view n).ids j) ∙ some);
  home = λ j n bound is. (view n).ids j ∙ h.home j n bound (sym (placement j) ∙ is);
  stands = λ j e is. stands_still j s t
      (record { ids = λ m. (view m).ids j; removal = λ m. (view m).removal; online = λ m. (view m).online })
      (h.stands j e (sym (placement j) ∙ is));
}

-- a CPU with a cyclic is there
pub has_number : (s : State) (n j : ℕ) → IsSome (found j (cpu_of n s).cyclics) → n < length s.cpus
has_number s n j some = by s.cpus n some
  where
    by : (cs : List Cpu) (k : ℕ) → IsSome (found j (slice_index_or cs k absent).cyclics) → k < length cs
    by [] k h = absurd (cc)
    by (c ∷ cs) zero h = omega arith
    by (c ∷ cs) (suc k) h = let r = by cs k h in omega (arith, r)

pub is_there : (s : State) → Spread s → (j n : ℕ) (bound : Bool) → placement_of j s ≡ Some (On n bound) → n < length s.cpus
is_there s h j n bound is = has_number s n j (h.home j n bound is)

-- a cyclic is found, or not
pub found_or_not : (j : ℕ) (c : Cpu) → (IsSome (found j c.cyclics)) ⊎ (found j c.cyclics ≡ None)
found_or_not j c = by (found j c.cyclics) refl
  where
    by : (o : Option CyclicState) → found j c.cyclics ≡ o → (IsSome (found j c.cyclics)) ⊎ (found j c.cyclics ≡ None)
    by None is = inr is
    by (Some x) is = inl (ap is_some is)
