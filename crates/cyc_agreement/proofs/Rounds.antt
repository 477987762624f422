-- A round over the online CPUs, with the same call on each.
use Rattle.std.proofs.Common.{◌≡◌, ◌≢◌, ℕ, ◌+◌, ◌<◌, ◌≤◌, List, [], ◌∷◌, ◌++◌, map, drop, length, true, false, Some, refl, sym}
use Rattle.std.proofs.Common.{ap, ◌∙◌, subst, append_assoc, arith}
use Rattle.std.proofs.lemmas.List.{map-append, length-set}
use Rattle.std.proofs.lemmas.Option.{slice_get_within}
use Rattle.std.specs.List.{slice_get}
use mathlib.Core.Logic.{dite}
use native.Mathlib.Decide.{ℕ_discrete}
use Rattle.cyc_types.specs.declared.Raise.{Ghosts as Raise}
use Rattle.cyc_types.proofs.Runs.{folds_more}
use Rattle.cyc_cpu.specs.Cpu.{CpuView}
use Rattle.cyc_cpu.specs.Calls.{CpuCall, CpuChanges}
use Rattle.cyc_agreement.specs.Cpus.{CpusView, IsCpu, OfCpu, IsOnline, online_cpus, numbers_from, with_cpu, on, DoesAt, Works}
use Rattle.cyc_agreement.specs.Reserving.{StandsAfter}
use Rattle.cyc_agreement.proofs.Choices.{numbers_at}
use Rattle.cyc_agreement.proofs.CpuSpots.{of_cpu, cpu_there, cpu_beside, changed}

module _ {R : Type 0} (firing : Raise R) (call : CpuCall)
    (Done Left : CpuView R → Type 0) where
  -- the calls on the online CPUs below n; of those Done holds, and of the others Left
  pub record Round (v : CpusView R) (n : ℕ) (w : CpusView R) : Type 0 where
    pub online : w.online ≡ v.online
    pub many : length w.cpus ≡ length w.online
    pub before : List ℕ
    pub split : online_cpus v ≡ before ++ numbers_from n (drop n v.online)
    pub works : Works firing (map (λ m. on m call) before) v w
    pub passed : (m : ℕ) → m < n → IsOnline m w → OfCpu m Done w
    pub left : (m : ℕ) → n ≤ m → IsOnline m w → OfCpu m Left w

  pub round_start : (v : CpusView R) → length v.cpus ≡ length v.online → ((m : ℕ) → IsOnline m v → OfCpu m Left v) → Round v 0 v
  round_start v many left = record {
    online = refl;
    many = many;
    before = [];
    split = refl;
    works = refl;
    passed = λ m low. absurd (omega (arith, low));
    left = λ m low. left m;
  }

  -- the numbers from n on begin with n, where it is online
  begins : (v w : CpusView R) (n : ℕ) (r : Round v n w) → IsOnline n w →
      online_cpus v ≡ r.before ++ n ∷ numbers_from (n + 1) (drop (n + 1) v.online)
  begins v w n r here = r.split ∙ ap (λ ns. r.before ++ ns) (numbers_at v.online n true
      (ap (λ xs. slice_get xs n) (sym r.online) ∙ here))

  pub round_stopped : (v w : CpusView R) (n : ℕ) (x y : CpuView R) (other : CpuCall) (r : Round v n w) → IsOnline n w →
      IsCpu n x w → CpuChanges firing x other y →
      StandsAfter r.before n (online_cpus v) × Works firing (map (λ m. on m call) r.before ++ on n other ∷ []) v
      (with_cpu w n y)
  round_stopped v w n x y other r here at did = (
    (_, begins v w n r here),
    folds_more (DoesAt firing) v (map (λ m. on m call) r.before) w (on n other) (with_cpu w n y) r.works
        (changed n _ x y w at did),
  )

  pub round_one : (v w : CpusView R) (n : ℕ) (x y : CpuView R) → Round v n w → IsOnline n w → IsCpu n x w →
      CpuChanges firing x call y → Done y → Round v (n + 1) (with_cpu w n y)
  round_one v w n x y r here at did done = record {
    online = r.online;
    many = length-set w.cpus n y ∙ r.many;
    before = r.before ++ n ∷ [];
    split = begins v w n r here ∙ sym (append_assoc r.before (n ∷ []) (numbers_from (n + 1) (drop (n + 1) v.online)));
    works = subst (λ way. Works firing way v (with_cpu w n y)) (sym (map-append (λ m. on m call) r.before (n ∷ [])))
        (round_stopped v w n x y call r here at did).1;
    passed = λ m low on. dite (ℕ_discrete m n)
        (λ e. subst (λ k. OfCpu k Done (with_cpu w n y)) (sym e) (of_cpu n Done y (with_cpu w n y) (cpu_there n x y w at) done))
        (λ ne z is. r.passed m (omega (arith, low, ne)) on z (cpu_beside n m z y w ne is));
    left = λ m low on z is. (let ne : m ≢ n = (λ e. absurd (omega (arith, e, low))) in
        r.left m (omega (arith, low)) on z (cpu_beside n m z y w ne is));
  }

  pub round_none : (v w : CpusView R) (n : ℕ) → Round v n w → slice_get w.online n ≡ Some false → Round v (n + 1) w
  round_none v w n r off = record {
    online = r.online;
    many = r.many;
    before = r.before;
    split = r.split ∙ ap (λ ns. r.before ++ ns) (numbers_at v.online n false (ap (λ xs. slice_get xs n) (sym r.online) ∙ off));
    works = r.works;
    passed = λ m low on. dite (ℕ_discrete m n)
        (λ e. absurd (let no : Some true ≡ Some false = sym on ∙ ap (λ k. slice_get w.online k) e ∙ off in cc))
        (λ ne. r.passed m (omega (arith, low, ne)) on);
    left = λ m low. r.left m (omega (arith, low));
  }

  pub round_all : (v w : CpusView R) (n : ℕ) → length w.online ≤ n → Round v n w → (m : ℕ) → IsOnline m w → OfCpu m Done w
  round_all v w n all r m on = (let low = slice_get_within w.online m true on in r.passed m (omega (arith, low, all)) on)
