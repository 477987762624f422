-- The numbers of the online CPUs.
use Rattle.std.proofs.Common.{◌≡◌, ℕ, zero, suc, ◌+◌, ◌<◌, Bool, true, false, List, [], ◌∷◌, refl, ap, ◌∙◌, arith}
use Rattle.std.specs.Prelude.{◌||◌}
use Rattle.std.specs.List.{slice_get}
use Rattle.std.specs.Option.{option_map_or}
use Rattle.cyc_agreement.specs.Cpus.{CpusView, numbers_from, online_cpus}
use Rattle.cyc_agreement.specs.System.{is_online}
use Rattle.cyc_agreement.proofs.Lists.{among, true_eq, false_ne}

-- none is below the first
below : (xs : List Bool) (k n : ℕ) → n < k → among n (numbers_from k xs) ≡ false
below [] k n low = refl
below (true ∷ xs) k n low = ap (λ b. b || among n (numbers_from (k + 1) xs)) (false_ne k n (λ e. omega (arith, low, e)))
    ∙ below xs (k + 1) n (omega (arith, low))
below (false ∷ xs) k n low = below xs (k + 1) n (omega (arith, low))

numbered : (xs : List Bool) (k j : ℕ) → among (k + j) (numbers_from k xs) ≡ option_map_or (λ b. b) (slice_get xs j) false
numbered [] k j = refl
numbered (true ∷ xs) k zero = ap (λ b. b || among (k + 0) (numbers_from (k + 1) xs)) (true_eq k (k + 0) (omega arith))
numbered (false ∷ xs) k zero = below xs (k + 1) (k + 0) (omega arith)
numbered (true ∷ xs) k (suc j) = ap (λ b. b || among (k + suc j) (numbers_from (k + 1) xs))
    (false_ne k (k + suc j) (λ e. omega (arith, e)))
    ∙ ap (λ n. among n (numbers_from (k + 1) xs)) (let e : k + suc j ≡ k + 1 + j = omega arith in e) ∙ numbered xs (k + 1) j
numbered (false ∷ xs) k (suc j) = ap (λ n. among n (numbers_from (k + 1) xs)) (let e : k + suc j ≡ k + 1 + j = omega arith in e)
    ∙ numbered xs (k + 1) j

-- a CPU is online just where its number is among them
pub among_online : {R : Type 0} (v : CpusView R) (n : ℕ) → among n (online_cpus v) ≡ is_online n v
among_online v n = ap (λ m. among m (online_cpus v)) (let e : n ≡ 0 + n = omega arith in e) ∙ numbered v.online 0 n
