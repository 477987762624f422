-- What one CPU sees of a run of calls on several.
use Rattle.std.proofs.Common.{◌≡◌, ◌≢◌, ℕ, suc, ◌==◌, All, Bool, true, false, cond, List, [], ◌∷◌, map, filter, length, refl, sym}
use Rattle.std.proofs.Common.{ap, subst, ◌∙◌, arith}
use Rattle.std.specs.List.{FoldsTo}
use Rattle.std.proofs.lemmas.Bool.Decides.{nat_tests}
use Rattle.std.proofs.lemmas.List.{length-set}
use Rattle.cyc_cpu.specs.Cpu.{CpuView}
use Rattle.cyc_cpu.specs.Calls.{CpuCall}
use Rattle.cyc_agreement.specs.Cpus.{CpusView, IsCpu, CallOn, ChangesAt}
use Rattle.cyc_agreement.proofs.CpuSpots.{one_cpu, cpu_there, cpu_after}
use Rattle.cyc_system_laws.specs.Runs.{calls_on}

module _ {R S : Type 0} (cpus : S → CpusView R) (D : S → CallOn → S → Type 0) (E : CpuView R → CpuCall → CpuView R → Type 0)
    (one : (s : S) (c : CallOn) (t : S) → D s c t → ChangesAt c.cpu (λ x y. E x c.call y) (cpus s) (cpus t)) where
  -- what the CPU of this number went through
  abbrev pub Sees : ℕ → CpuView R → List CpuCall → S → Type 0
  Sees n x calls t = (y : CpuView R) × IsCpu n y (cpus t) × FoldsTo E x calls y

  -- a call on it is the first of its calls, and one on another CPU is none of them
  first : (n : ℕ) (x : CpuView R) (s : S) (c : CallOn) (m t : S) (way : List CallOn) (b : Bool) → (c.cpu == n) ≡ b → D s c m →
      IsCpu n x (cpus s) →
      ((z : CpuView R) → IsCpu n z (cpus m) → Sees n z (map (λ d. d.call) (filter (λ d. d.cpu == n) way)) t) →
      Sees n x (map (λ d. d.call) (cond b (c ∷ filter (λ d. d.cpu == n) way) (filter (λ d. d.cpu == n) way))) t
  first n x s c m t way true is d at rest =
      let o = one s c m d in
      let here : c.cpu ≡ n = grind (arith, nat_tests) in
      let there = subst (λ k. IsCpu k o.after (cpus m)) here (subst (λ u. IsCpu c.cpu o.after u) (sym o.rest)
      (cpu_there c.cpu o.before o.after (cpus s) o.here)) in
      let same = one_cpu n o.before x (cpus s) (subst (λ k. IsCpu k o.before (cpus s)) here o.here) at in
      let (y, stands, fold) = rest o.after there in
      (y, stands, (o.after, subst (λ z. E z c.call o.after) same o.change, fold))
  first n x s c m t way false is d at rest =
      let apart : n ≢ c.cpu = (λ e. (let alike : (c.cpu == n) ≡ true = grind (arith, nat_tests) in
      let wrong : true ≡ false = sym alike ∙ is in cc)) in
      rest x (cpu_after c.cpu n _ x (cpus s) (cpus m) apart (one s c m d) at)

  pub sees : (n : ℕ) (x : CpuView R) (s : S) (way : List CallOn) (t : S) → FoldsTo D s way t → IsCpu n x (cpus s) →
      Sees n x (calls_on n way) t
  sees n x s [] t run at = (x, subst (λ (u : S). IsCpu n x (cpus u)) run at, refl)
  sees n x s (c ∷ way) t (m, d, rest) at = first n x s c m t way (c.cpu == n) refl d at (λ z there. sees n z m way t rest there)

  pub stays_beside : (n : ℕ) (x : CpuView R) (s : S) (way : List CallOn) (t : S) → FoldsTo D s way t →
      All (λ c. c.cpu ≢ n) way → IsCpu n x (cpus s) → IsCpu n x (cpus t)
  stays_beside n x s [] t run none at = subst (λ (u : S). IsCpu n x (cpus u)) run at
  stays_beside n x s (c ∷ way) t (m, d, rest) none at = stays_beside n x m way t rest
      (λ k e low. none (suc k) e (omega (arith, low)))
      (cpu_after c.cpu n _ x (cpus s) (cpus m) (λ e. none 0 c (omega arith) (sym e)) (one s c m d) at)

  pub same_online : (s : S) (way : List CallOn) (t : S) → FoldsTo D s way t →
      ((cpus t).online ≡ (cpus s).online) × (length (cpus t).cpus ≡ length (cpus s).cpus)
  same_online s [] t run = (ap (λ (u : S). (cpus u).online) (sym run), ap (λ (u : S). length (cpus u).cpus) (sym run))
  same_online s (c ∷ way) t (m, d, rest) =
      let o = one s c m d in let i = same_online m way t rest in (
        i.0 ∙ ap (λ (u : CpusView R). u.online) o.rest,
        i.1 ∙ ap (λ (u : CpusView R). length u.cpus) o.rest
            ∙ length-set (cpus s).cpus c.cpu o.after,
      )
