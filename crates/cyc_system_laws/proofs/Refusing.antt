-- A move that is refused touches no cyclic.
use Rattle.std.proofs.Common.{◌≡◌, ℕ, refl, sym, ap, subst, ◌∙◌, inl, inr}
use mathlib.Core.Logic.{dite}
use native.Mathlib.Decide.{ℕ_discrete}
use Rattle.cyc_types.specs.declared.Raise.{Ghosts as Raise}
use Rattle.cyc_types.specs.declared.refusal.Refusal.{Refusal}
use Rattle.cyc_cpu.specs.Cpu.{CpuView, SameCpu}
use Rattle.cyc_agreement.specs.Cpus.{CpusView, IsCpu, ChangesAt}
use Rattle.cyc_agreement.specs.Shifting.{move_of, WhyNotShifted}
use Rattle.cyc_agreement.proofs.CpuSpots.{one_cpu, cpu_there, cpu_after}
use Rattle.cyc_system_laws.specs.Moved.{OnlyAskedCpus}

module _ {R : Type 0} where
  same_cpu : (x : CpuView R) → SameCpu x x
  same_cpu x = record { removal = refl; size = refl; room = refl; most = refl; suspended = refl }

  cpu_on : (x y z : CpuView R) → SameCpu x y → SameCpu y z → SameCpu x z
  cpu_on x y z a b = record {
    removal = b.removal ∙ a.removal;
    size = b.size ∙ a.size;
    room = b.room ∙ a.room;
    most = b.most
        ∙ a.most;
    suspended = b.suspended
        ∙ a.suspended;
  }

  not_asked : (v : CpusView R) → OnlyAskedCpus v v
  not_asked v = record {
    cyclics = λ n x y a b. ap (λ (z : CpuView R). z.cyclics) (one_cpu n y x v b a);
    kept = λ n x y a b. subst (λ z. SameCpu x z) (one_cpu n x y v a b) (same_cpu x);
    online = refl;
  }

  -- a call that at most asks, and then others
  asked_then : (n : ℕ) (D : CpuView R → CpuView R → Type 0) (u v w : CpusView R) (d : ChangesAt n D u v) →
      d.after.cyclics ≡ d.before.cyclics → SameCpu d.before d.after →
      OnlyAskedCpus v w → OnlyAskedCpus u w
  asked_then n D u v w d cyclics kept rest = record {
    cyclics = λ m x y a b. dite (ℕ_discrete m n)
        (λ e. rest.cyclics m d.after y (there m e) b ∙ cyclics ∙ ap (λ (z : CpuView R). z.cyclics) (first m x e a))
        (λ ne. rest.cyclics m x y (cpu_after n m D x u v ne d a) b);
    kept = λ m x y a b. dite (ℕ_discrete m n)
        (λ e. cpu_on x d.after y (subst (λ z. SameCpu z d.after) (first m x e a) kept) (rest.kept m d.after y (there m e) b))
        (λ ne. rest.kept m x y (cpu_after n m D x u v ne d a) b);
    online = rest.online ∙ ap (λ (z : CpusView R). z.online) d.rest;
  }
    where
      there : (m : ℕ) → m ≡ n → IsCpu m d.after v
      there m e = subst (λ k. IsCpu k d.after v) (sym e) (subst (λ z. IsCpu n d.after z) (sym d.rest)
          (cpu_there n d.before d.after u d.here))

      first : (m : ℕ) (x : CpuView R) → m ≡ n → IsCpu m x u → d.before ≡ x
      first m x e a = one_cpu n d.before x u d.here (subst (λ k. IsCpu k x u) e a)

  pub not_shifted : (firing : Raise R) (id source target : ℕ) (e : Refusal)
      (v w : CpusView R) →
      WhyNotShifted firing (move_of id source target) e v w → OnlyAskedCpus v w
  not_shifted firing id source target e v w (inl (removed, has, why, same)) =
      subst (λ u. OnlyAskedCpus v u) (sym same) (not_asked v)
  not_shifted firing id source target e v w (inr (inl (none, n, some, why, (v1, d1, last)))) =
      asked_then source _ v v1 w d1 d1.change.0.cyclics d1.change.0.kept (subst (λ u. OnlyAskedCpus v1 u) last (not_asked v1))
  not_shifted firing id source target e v w (inr (inr (none, (v1, d1, (v2, d2, last))))) =
      asked_then source _ v v1 w d1 d1.change.0.cyclics d1.change.0.kept
      (asked_then target _ v1 v2 w d2 d2.change.0.cyclics d2.change.0.kept (subst (λ u. OnlyAskedCpus v2 u) last (not_asked v2)))
