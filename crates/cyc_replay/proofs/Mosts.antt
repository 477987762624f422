-- The bound on the expirations of a cyclic is the same on each CPU, for good.
use Rattle.std.proofs.Common.{◌≡◌, ℕ, zero, suc, List, [], ◌∷◌, Option, Some, None, refl, ap, sym, ◌∙◌, subst}
use mathlib.Core.Logic.{dite}
use native.Mathlib.Decide.{ℕ_discrete}
use Rattle.cyc_core.specs.Tables.{Tables}
use Rattle.cyc_cpu.specs.Cpu.{CpuView}
use Rattle.cyc_system.specs.Cpus.{CpusView, IsCpu, ChangesAt, new_cpus}
use Rattle.cyc_system.proofs.CpusSpots.{one_cpu, cpu_there, cpu_beside}
use Rattle.cyc_system.proofs.Spots.{same_some, none_some}
use Rattle.cyc_system.specs.Agreement.{most_on}
use Rattle.std.specs.List.{slice_get}
use Rattle.std.specs.Option.{option_map}
use Rattle.cyc_replay.specs.Machine.{AllMost}

pub most_changed : (n : ℕ) (D : CpuView Tables → CpuView Tables → Type 0) (v w : CpusView Tables)
    → ((x y : CpuView Tables) → D x y → y.most ≡ x.most) → ChangesAt n D v w → AllMost v → AllMost w
most_changed n D v w same c all m cpu is = dite (ℕ_discrete m n)
    (λ e.
    let there = subst (λ (u : CpusView Tables). IsCpu n c.after u) (sym c.rest) (cpu_there n c.before c.after v c.here) in
    let one = one_cpu n cpu c.after w (subst (λ k. IsCpu k cpu w) e is) there in
    ap (λ (x : CpuView Tables). x.most) one ∙ same c.before c.after c.change ∙ all n c.before c.here)
    (λ ne. all m cpu (cpu_beside n m cpu c.after v ne (subst (λ (u : CpusView Tables). IsCpu m cpu u) c.rest is)))

-- ---- a call

-- a law of calls keeps the bound of each CPU
pub most_kept : (v w : CpusView Tables) → ((n : ℕ) → most_on n w ≡ most_on n v) → AllMost v → AllMost w
most_kept v w same all n cpu is = by (slice_get v.cpus n) refl
  where
    by : (o : Option (CpuView Tables)) → slice_get v.cpus n ≡ o → cpu.most ≡ 18446744073709551615
    by None none = absurd (none_some
        (sym (same n ∙ ap (option_map (λ (x : CpuView Tables). x.most)) none)
        ∙ ap (option_map (λ (x : CpuView Tables). x.most)) is))
    by (Some x) some =
        same_some (sym (ap (option_map (λ (y : CpuView Tables). y.most)) is) ∙ same n
        ∙ ap (option_map (λ (y : CpuView Tables). y.most)) some) ∙ all n x some

-- ---- the first

pub most_new : (ends : List (Tables × Tables)) → AllMost (new_cpus 18446744073709551615 ends)
most_new [] n cpu is = absurd (none_some is)
most_new (e ∷ ends) zero cpu is = ap (λ (x : CpuView Tables). x.most) (sym (same_some is))
most_new (e ∷ ends) (suc n) cpu is = most_new ends n cpu is
