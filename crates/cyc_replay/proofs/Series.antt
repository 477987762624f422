-- A step's start and interval, and the series and the moment that they are.
use Rattle.std.proofs.Common.{◌≡◌, ◌⊎◌, inl, inr, cond, ℕ, Bool, [], ◌∷◌, Option, ◌<◌, ◌+◌, true, false}
use Rattle.std.proofs.Common.{refl, ap, sym, ◌∙◌, arith}
use Rattle.std.specs.Prelude.{◌<ℤ◌, ℤ, pos, int_lt, nat_lt, None, Some}
use Rattle.std.proofs.lemmas.Bool.Decides.{nat_tests}
use Rattle.cyc_types.specs.declared.moment.When.{When}
use Rattle.cyc_types.specs.declared.refusal.Refusal.TheVariants.{BadWhen, BadInterval, NoCyclic}
use Rattle.cyc_types.specs.declared.refusal.Refusal.{Refusal}
use Rattle.cyc_model.specs.State.{State}
use Rattle.cyc_types.specs.Reasons.{or_else}
use Rattle.cyc_script.specs.declared.step.Add.{Add as AddStep}
use Rattle.cyc_script.specs.declared.step.Omni.{Omni as OmniStep}
use Rattle.cyc_script.specs.declared.step.Reprogram.{Reprogram as ReprogramStep}
use Rattle.cyc_model.specs.Places.{id_of}
use Rattle.cyc_model.specs.Bind.{cyclic_is_absent}
use Rattle.cyc_model.specs.Reprogram.{reprogram_refusal, cpu_refusals}
use Rattle.cyc_types.specs.Reasons.{first_refusal, when}
use Rattle.cyc_types.proofs.Facts.{so_true}
use Rattle.cyc_model.specs.Refusals.{bad_when, magnitude}
use Rattle.cyc_system_model.specs.SystemWords.{IsSeries, IsMoment}

not_below : (n m : ℕ) → m < n + 1 → nat_lt n m ≡ false
not_below n m h = grind (arith, nat_tests)

fits : (start interval : ℤ) (n t : ℕ) → pos n ≡ start → pos t ≡ interval → 0 < t → first_refusal (bad_when start interval) ≡ None
fits start interval n t at every some =
    (λ z. first_refusal (bad_when (sym at z) (sym every z)))
    ∙ ap (λ b. first_refusal (when b BadWhen ∷ when (nat_lt t 1) BadInterval ∷ [])) (not_below n 0 (omega arith))
    ∙ ap (λ b. first_refusal (None ∷ when b BadInterval ∷ [])) (not_below t 1 (omega (arith, some)))

pub is_series : (a : AddStep) (series : When)
    → (pos series.start ≡ a.start) × (pos series.interval ≡ a.interval) × (0 < series.interval)
    → IsSeries a.start a.interval series
is_series a series (at, every, some) = (
  fits a.start a.interval series.start series.interval at every some,
  ap magnitude (sym at),
  ap magnitude (sym every),
)

-- ---- the same of an omni

pub is_series_omni : (a : OmniStep) (series : When)
    → (pos series.start ≡ a.start) × (pos series.interval ≡ a.interval) × (0 < series.interval)
    → IsSeries a.start a.interval series
is_series_omni a series (at, every, some) = (
  fits a.start a.interval series.start series.interval at every some,
  ap magnitude (sym at),
  ap magnitude (sym every),
)

-- ---- moments

pub is_moment : (r : ReprogramStep) (moment : ℕ) → pos moment ≡ r.moment → IsMoment r.moment moment
is_moment r moment at = (ap (λ z. int_lt z (pos 0)) (sym at) ∙ not_below moment 0 (omega arith), ap magnitude (sym at))

pub moment_refused : (r : ReprogramStep) (s : State) → int_lt r.moment (pos 0) ≡ true → reprogram_refusal r s ≡ Some BadWhen
moment_refused r s low =
    ap (λ b. or_else (when b BadWhen) (first_refusal (cyclic_is_absent (id_of r.name s) s ∷ cpu_refusals r.cpu (id_of r.name s)
    s))) low

pub reprogram_nobody : (r : ReprogramStep) (s : State) (moment : ℕ) → IsMoment r.moment moment
    → or_else (cyclic_is_absent (id_of r.name s) s) (first_refusal (cpu_refusals r.cpu (id_of r.name s) s)) ≡ Some NoCyclic
    → reprogram_refusal r s ≡ Some NoCyclic
reprogram_nobody r s moment is none =
    ap (λ b. or_else (when b BadWhen) (first_refusal (cyclic_is_absent (id_of r.name s) s ∷ cpu_refusals r.cpu (id_of r.name s)
    s)))
    is.0 ∙ none

-- ---- what is none

pub is_below : (z : ℤ) (k : ℕ) → z <ℤ pos k → int_lt z (pos k) ≡ true
is_below z k low = so_true _ low.lt

-- a start and an interval that are no series are refused for the first of the two reasons
pub no_series_first : (b c : Bool) (rest : Option Refusal) → (b ≡ true) ⊎ (c ≡ true)
    → or_else (when b BadWhen) (or_else (when c BadInterval) rest) ≡ Some (cond b BadWhen BadInterval)
no_series_first true c rest bad = refl
no_series_first false true rest bad = refl
no_series_first false false rest (inl e) = absurd (let no : false ≡ true = e in cc)
no_series_first false false rest (inr e) = absurd (let no : false ≡ true = e in cc)

pub bad_series : (start interval : ℤ) → (start <ℤ pos 0) ⊎ (interval <ℤ pos 1)
    → (int_lt start (pos 0) ≡ true) ⊎ (int_lt interval (pos 1) ≡ true)
bad_series start interval (inl low) = inl (is_below start 0 low)
bad_series start interval (inr low) = inr (is_below interval 1 low)
