-- What is read of the words of a step.
use Rattle.std.proofs.Common.{◌≡◌, ℕ, ℤ, ◌<◌, ◌≤◌, List, [], ◌∷◌, length, map, get_or, false, Option, Some, None, Result}
use Rattle.std.proofs.Common.{Ok, Err, inl, inr, refl, arith}
use Rattle.std.specs.Prelude.{codes, bytes_eq}
use Rattle.std.proofs.lemmas.Bool.{false_from_ne_true}
use Rattle.std.proofs.lemmas.Slice.Eq.{bytes_eq-Decides}
use Rattle.serde_json.specs.Data.{Data}
use Rattle.cyc_types.specs.declared.level.Level.{Level}
use Rattle.cyc_script.specs.declared.cause.Cause.{Cause}
use Rattle.cyc_script.specs.declared.cause.Cause.TheVariants.{Memory}
use Rattle.cyc_script.specs.declared.context.Context.{Context}
use Rattle.cyc_script.specs.declared.part.Part.{Part}
use Rattle.cyc_script.specs.declared.part.Part.TheVariants.{Text}
use Rattle.cyc_script.specs.declared.step.Step.{Step}
use Rattle.cyc_script.specs.declared.step.Step.TheVariants.{Add, Omni, Reprogram}
use Rattle.cyc_script.specs.Answers.{Fails, Gives}
use Rattle.cyc_script.specs.Names.{introduced, referred}
use Rattle.cyc_script.specs.Parameters.{name_of, level_in_value, skew_of, unsigned_of, whole_of}
use Rattle.cyc_script.specs.Parts.{data_of}
use Rattle.cyc_script.specs.Steps.{Reads, accepted_form}
use Rattle.cyc_script.specs.Words.{Form, introduces, refers, nameless, ◌>>=◌, add_of, omni_of, reprogram_of, reprogram_with}
use Rattle.cyc_script.specs.Words.{cyclic_in_word, form_of, later_form_of, last_form_of}

-- ---- how many parts there are

-- what a slice has past its end
abbrev pub no_part : Part
no_part = Text (record { ref_ptr = (0, 0); now = [] })

abbrev pub at : List Part → ℕ → Data
at parts i = data_of (get_or parts i no_part)

pub two_parts : (parts : List Part) → 2 ≤ length parts → length parts < 3 → map data_of parts ≡ at parts 0 ∷ at parts 1 ∷ []
two_parts (x ∷ y ∷ []) low high = refl
two_parts [] low high = absurd (omega (arith, low))
two_parts (x ∷ []) low high = absurd (omega (arith, low))
two_parts (x ∷ y ∷ z ∷ more) low high = absurd (omega (arith, high))

pub three_parts : (parts : List Part) → 3 ≤ length parts → length parts < 4
    → map data_of parts ≡ at parts 0 ∷ at parts 1 ∷ at parts 2 ∷ []
three_parts (x ∷ y ∷ z ∷ []) low high = refl
three_parts [] low high = absurd (omega (arith, low))
three_parts (x ∷ []) low high = absurd (omega (arith, low))
three_parts (x ∷ y ∷ []) low high = absurd (omega (arith, low))
three_parts (w ∷ x ∷ y ∷ z ∷ more) low high = absurd (omega (arith, high))

pub four_parts : (parts : List Part) → 4 ≤ length parts → length parts < 5
    → map data_of parts ≡ at parts 0 ∷ at parts 1 ∷ at parts 2 ∷ at parts 3 ∷ []
four_parts (w ∷ x ∷ y ∷ z ∷ []) low high = refl
four_parts [] low high = absurd (omega (arith, low))
four_parts (w ∷ []) low high = absurd (omega (arith, low))
four_parts (w ∷ x ∷ []) low high = absurd (omega (arith, low))
four_parts (w ∷ x ∷ y ∷ []) low high = absurd (omega (arith, low))
four_parts (v ∷ w ∷ x ∷ y ∷ z ∷ more) low high = absurd (omega (arith, high))

pub five_parts : (parts : List Part) → 5 ≤ length parts → length parts < 6
    → map data_of parts ≡ at parts 0 ∷ at parts 1 ∷ at parts 2 ∷ at parts 3 ∷ at parts 4 ∷ []
five_parts (v ∷ w ∷ x ∷ y ∷ z ∷ []) low high = refl
five_parts [] low high = absurd (omega (arith, low))
five_parts (v ∷ []) low high = absurd (omega (arith, low))
five_parts (v ∷ w ∷ []) low high = absurd (omega (arith, low))
five_parts (v ∷ w ∷ x ∷ []) low high = absurd (omega (arith, low))
five_parts (v ∷ w ∷ x ∷ y ∷ []) low high = absurd (omega (arith, low))
five_parts (u ∷ v ∷ w ∷ x ∷ y ∷ z ∷ more) low high = absurd (omega (arith, high))

-- ---- `add` and `omni`

all_four : (n : Result (List ℕ) Cause) (l : Result Level Cause) (s i : Result ℤ Cause)
    (f : List ℕ × Level × ℤ × ℤ → Result Form Cause)
    → (n >>= λ x. l >>= λ y. s >>= λ z. i >>= λ w. f (x, y, z, w))
    ≡ ((n >>= λ x. l >>= λ y. s >>= λ z. i >>= λ w. Ok (x, y, z, w)) >>= f)
all_four (Err e) l s i f = refl
all_four (Ok n) (Err e) s i f = refl
all_four (Ok n) (Ok l) (Err e) i f = refl
all_four (Ok n) (Ok l) (Ok s) (Err e) f = refl
all_four (Ok n) (Ok l) (Ok s) (Ok i) f = refl

-- the form of `add`, of what is said of the cyclic
abbrev pub adds : List ℕ × Level × ℤ × ℤ → Result Form Cause
adds c = Ok (introduces c.0 (λ k. Add (record { name = k; level = c.1; start = c.2; interval = c.3 })))

pub add_is : (name level start interval : Data)
    → add_of (name ∷ level ∷ start ∷ interval ∷ []) ≡ (cyclic_in_word name level start interval >>= adds)
unfolding add_of cyclic_in_word
add_is name level start interval = all_four (name_of name) (level_in_value level) (whole_of start) (whole_of interval) adds

-- the form of `omni`, of what is said of the cyclic
abbrev pub omnis : Data → List ℕ × Level × ℤ × ℤ → Result Form Cause
omnis skew c = skew_of skew >>= λ w.
    Ok (introduces c.0 (λ k. Omni (record { name = k; level = c.1; start = c.2; interval = c.3; skew = w })))

pub omni_is : (name level start interval skew : Data)
    → omni_of (name ∷ level ∷ start ∷ interval ∷ skew ∷ []) ≡ (cyclic_in_word name level start interval >>= omnis skew)
unfolding omni_of cyclic_in_word
omni_is name level start interval skew =
    all_four (name_of name) (level_in_value level) (whole_of start) (whole_of interval) (omnis skew)

-- ---- `reprogram`

all_three : (n : Result (List ℕ) Cause) (m : Result ℤ Cause) (c : Result ℕ Cause)
    (f : List ℕ → ℤ → Option ℕ → Result Form Cause)
    → (n >>= λ x. m >>= λ y. c >>= λ z. f x y (Some z)) ≡ (n >>= λ x. m >>= λ y. (c >>= λ z. Ok (Some z)) >>= λ z. f x y z)
all_three (Err e) m c f = refl
all_three (Ok n) (Err e) c f = refl
all_three (Ok n) (Ok m) (Err e) f = refl
all_three (Ok n) (Ok m) (Ok c) f = refl

pub reprogram_two : (name moment : Data) → reprogram_of (name ∷ moment ∷ []) ≡ reprogram_with name moment None
unfolding reprogram_of reprogram_with
reprogram_two name moment = refl

pub reprogram_three : (name moment cpu : Data)
    → reprogram_of (name ∷ moment ∷ cpu ∷ []) ≡ reprogram_with name moment (Some cpu)
unfolding reprogram_of reprogram_with
reprogram_three name moment cpu = all_three (name_of name) (whole_of moment) (unsigned_of cpu)
    (λ n m c. Ok (refers n (λ k. Reprogram (record { name = k; moment = m; cpu = c }))))

-- ---- faults

-- what is read first is at fault
pub first_fails : {A : Type 0} (r : Result A Cause) (f : A → Result Form Cause) (before : Context) (e : Cause)
    → Fails Memory e r → Fails Memory e (r >>= f >>= accepted_form before)
first_fails r f before e (inl is) = inl is
first_fails r f before e (inr is) = inr (rw is refl)

-- the name is
pub name_fails : (text : List ℕ) (step : ℕ → Step) (before : Context) (e : Cause)
    → Fails Memory e (introduced text before.names) → Fails Memory e (accepted_form before (introduces text step))
name_fails text step before e (inl is) = inl is
name_fails text step before e (inr is) = inr (rw is refl)

-- the name that is referred to is
pub reference_fails : (text : List ℕ) (step : ℕ → Step) (before : Context) (e : Cause) → Err e ≡ referred text before.names
    → Fails Memory e (accepted_form before (refers text step))
reference_fails text step before e is = inr (rw (← is) refl)

-- ---- the words

differs : (a b : List ℕ) → ¬ (a ≡ b) → bytes_eq a b ≡ false
differs a b other = false_from_ne_true (bytes_eq a b) (λ e. other ((bytes_eq-Decides a b).0 e))

module _ (word : List ℕ) (parts : List Data) where
  pub later_form : ¬ (word ≡ codes "add") → ¬ (word ≡ codes "omni") → ¬ (word ≡ codes "bind") → ¬ (word ≡ codes "unbind")
      → form_of word parts ≡ later_form_of word parts
  unfolding form_of later_form_of last_form_of
  later_form p q r s = rw (differs word _ p, differs word _ q, differs word _ r, differs word _ s) refl

  pub last_form : ¬ (word ≡ codes "reprogram") → ¬ (word ≡ codes "remove") → ¬ (word ≡ codes "advance")
      → ¬ (word ≡ codes "softint") → later_form_of word parts ≡ last_form_of word parts
  unfolding later_form_of
  last_form p q r s = rw (differs word _ p, differs word _ q, differs word _ r, differs word _ s) refl

pub nameless_read : (before : Context) (result : Result Step Cause) (form : Result Form Cause) → Gives nameless result form
    → Reads result before before form
nameless_read before (Ok step) form is = rw is refl
nameless_read before (Err e) form (inl is) = inl is
nameless_read before (Err e) form (inr is) = inr (rw is refl)
