-- A step that is read fits the steps before it: each form is of its kind, and what a form is accepted as fits the context.
use Rattle.std.proofs.Common.{◌≡◌, ℕ, ℤ, ◌+◌, ◌-◌, List, [], ◌∷◌, ◌++◌, Bool, true, false, cond, Option, Some, None}
use Rattle.std.proofs.Common.{Result, Ok, Err, length, refl, sym, ◌∙◌, subst, arith}
use Rattle.std.specs.Prelude.{◌==◌, codes, pos, negsuc, bytes_eq, is_some, nat_le, nat_lt, if◌then◌else◌}
use Rattle.std.specs.Prelude.{option_and_then, ok_or, IfOk}
use Rattle.std.specs.List.{position_or_len}
use Rattle.std.proofs.lemmas.Bool.Decides.{nat_tests}
use Rattle.std.proofs.Math.ListN.{length-append}
use Rattle.serde_json.specs.Data.{Data}
use Rattle.serde_json.specs.Find.{as_str}
use Rattle.cyc_types.specs.Series.{never}
use Rattle.cyc_script.specs.declared.cause.Cause.{Cause}
use Rattle.cyc_script.specs.declared.cause.Cause.TheVariants.{NameTwice, NoName, TimeBack}
use Rattle.cyc_script.specs.declared.context.Context.{Context}
use Rattle.cyc_script.specs.declared.step.Step.{Step}
use Rattle.cyc_script.specs.declared.step.Step.TheVariants.{Advance, Juggle, Offline, Online, Suspend, Resume}
use Rattle.cyc_script.specs.Names.{number_of_name}
use Rattle.cyc_script.specs.Parameters.{shaped, at_most, whole_in, name_of, level_in_value, soft_of, whole_of, skew_of}
use Rattle.cyc_script.specs.Parameters.{unsigned_of, moment_of}
use Rattle.cyc_script.specs.Steps.{Fits, Reads, accepted_form}
use Rattle.cyc_script.specs.WellFormed.{name_fits, names_after, moment_fits, moment_after}
use Rattle.cyc_script.specs.Words.{Form, introduces, refers, advances, nameless, ◌>>=◌, add_of, omni_of, bind_of, unbind_of}
use Rattle.cyc_script.specs.Words.{reprogram_of, remove_of, advance_of, softint_of, only_cpu, without_parameters, form_of}
use Rattle.cyc_script.specs.Words.{form_of_items}
use Rattle.cyc_script.proofs.WellFormed.{both}

-- ---- forms

-- the step doesn't set the clock
pub record IsUntimed (step : Step) : Type 0 where
  pub fits : (now : ℕ) → moment_fits now step ≡ true
  pub clock : (now : ℕ) → moment_after now step ≡ now

-- after so many names the step introduces the next one
pub record Introduces (n : ℕ) (step : Step) : Type 0 where
  pub name : name_fits n step ≡ true
  pub names : names_after n step ≡ n + 1
  pub untimed : IsUntimed step

-- after so many names the step introduces none
pub record Keeps (n : ℕ) (step : Step) : Type 0 where
  pub name : name_fits n step ≡ true
  pub names : names_after n step ≡ n
  pub untimed : IsUntimed step

-- the step of a form is of the form's kind
abbrev pub IsSound : Form → Type 0
IsSound (introduces text step) = (n : ℕ) → Introduces n (step n)
IsSound (refers text step) = (n k : ℕ) → nat_lt k n ≡ true → Keeps n (step k)
IsSound (advances moment) = nat_lt moment never ≡ true
IsSound (nameless step) = (n : ℕ) → Keeps n step

abbrev AreSound : Result Form Cause → Type 0
AreSound (Ok form) = IsSound form
AreSound (Err e) = Unit {0}

and_then : {A : Type 0} (r : Result A Cause) (f : A → Result Form Cause) → ((x : A) → AreSound (f x)) → AreSound (r >>= f)
and_then (Ok x) f all = all x
and_then (Err e) f all = tt

either : (b : Bool) (x y : Result Form Cause) → AreSound x → AreSound y → AreSound (if b then x else y)
either true x y one other = one
either false x y one other = other

itself : (n : ℕ) → (n == n) ≡ true
itself n = grind (arith, nat_tests)

-- ---- words

adds : (parts : List Data) → AreSound (add_of parts)
unfolding add_of
adds (name ∷ level ∷ start ∷ interval ∷ []) =
    and_then (name_of name) _ λ x. and_then (level_in_value level) _ λ l. and_then (whole_of start) _ λ s.
    and_then (whole_of interval) _ λ i.
    λ n. record { name = itself n; names = refl; untimed = record { fits = λ now. refl; clock = λ now. refl } }
adds _ = tt

omnis : (parts : List Data) → AreSound (omni_of parts)
unfolding omni_of
omnis (name ∷ level ∷ start ∷ interval ∷ skew ∷ []) =
    and_then (name_of name) _ λ x. and_then (level_in_value level) _ λ l. and_then (whole_of start) _ λ s.
    and_then (whole_of interval) _ λ i. and_then (skew_of skew) _ λ w.
    λ n. record { name = itself n; names = refl; untimed = record { fits = λ now. refl; clock = λ now. refl } }
omnis _ = tt

binds : (parts : List Data) → AreSound (bind_of parts)
unfolding bind_of
binds (name ∷ cpu ∷ []) =
    and_then (name_of name) _ λ x. and_then (unsigned_of cpu) _ λ c.
    λ n k below. record { name = below; names = refl; untimed = record { fits = λ now. refl; clock = λ now. refl } }
binds _ = tt

unbinds : (parts : List Data) → AreSound (unbind_of parts)
unfolding unbind_of
unbinds (name ∷ []) =
    and_then (name_of name) _ λ x.
    λ n k below. record { name = below; names = refl; untimed = record { fits = λ now. refl; clock = λ now. refl } }
unbinds _ = tt

reprograms : (parts : List Data) → AreSound (reprogram_of parts)
unfolding reprogram_of
reprograms (name ∷ moment ∷ []) =
    and_then (name_of name) _ λ x. and_then (whole_of moment) _ λ m.
    λ n k below. record { name = below; names = refl; untimed = record { fits = λ now. refl; clock = λ now. refl } }
reprograms (name ∷ moment ∷ cpu ∷ []) =
    and_then (name_of name) _ λ x. and_then (whole_of moment) _ λ m. and_then (unsigned_of cpu) _ λ c.
    λ n k below. record { name = below; names = refl; untimed = record { fits = λ now. refl; clock = λ now. refl } }
reprograms _ = tt

removes : (parts : List Data) → AreSound (remove_of parts)
unfolding remove_of
removes (name ∷ []) =
    and_then (name_of name) _ λ x.
    λ n k below. record { name = below; names = refl; untimed = record { fits = λ now. refl; clock = λ now. refl } }
removes _ = tt

-- a moment of `advance` is below never
below_never : (n : ℕ) (b : Bool) → nat_le n (never - 1) ≡ b
    → AreSound (shaped (if b then Some n else None) >>= λ m. Ok (advances m))
below_never n true e = grind (arith, nat_tests)
below_never n false e = tt

advance_at : (whole : Option ℤ) → AreSound (shaped (option_and_then (at_most (never - 1)) whole) >>= λ m. Ok (advances m))
advance_at None = tt
advance_at (Some (pos n)) = below_never n (nat_le n (never - 1)) refl
advance_at (Some (negsuc n)) = tt

moments : (parts : List Data) → AreSound (advance_of parts)
unfolding advance_of moment_of
moments (moment ∷ []) = advance_at (whole_in moment)
moments _ = tt

softints : (parts : List Data) → AreSound (softint_of parts)
unfolding softint_of
softints (cpu ∷ level ∷ budget ∷ []) =
    and_then (unsigned_of cpu) _ λ c. and_then (soft_of level) _ λ l. and_then (unsigned_of budget) _ λ b.
    λ n. record { name = refl; names = refl; untimed = record { fits = λ now. refl; clock = λ now. refl } }
softints _ = tt

-- a word whose only parameter is a CPU
cpus : (parts : List Data) (step : ℕ → Step) → ((cpu n : ℕ) → Keeps n (step cpu))
    → AreSound (only_cpu parts >>= λ cpu. Ok (nameless (step cpu)))
cpus parts step keeps = and_then (only_cpu parts) _ keeps

juggle : (cpu n : ℕ) → Keeps n (Juggle cpu)
juggle cpu n = record { name = refl; names = refl; untimed = record { fits = λ now. refl; clock = λ now. refl } }

offline : (cpu n : ℕ) → Keeps n (Offline cpu)
offline cpu n = record { name = refl; names = refl; untimed = record { fits = λ now. refl; clock = λ now. refl } }

online : (cpu n : ℕ) → Keeps n (Online cpu)
online cpu n = record { name = refl; names = refl; untimed = record { fits = λ now. refl; clock = λ now. refl } }

-- a word without parameters
alone : (parts : List Data) (step : Step) → ((n : ℕ) → Keeps n step) → AreSound (without_parameters step parts)
unfolding without_parameters
alone [] step keeps = keeps
alone _ step keeps = tt

suspend : (n : ℕ) → Keeps n Suspend
suspend n = record { name = refl; names = refl; untimed = record { fits = λ now. refl; clock = λ now. refl } }

resume : (n : ℕ) → Keeps n Resume
resume n = record { name = refl; names = refl; untimed = record { fits = λ now. refl; clock = λ now. refl } }

forms : (word : List ℕ) (parts : List Data) → AreSound (form_of word parts)
unfolding form_of
forms word parts =
    either (bytes_eq word (codes "add")) _ _ (adds parts)
    (either (bytes_eq word (codes "omni")) _ _ (omnis parts)
    (either (bytes_eq word (codes "bind")) _ _ (binds parts)
    (either (bytes_eq word (codes "unbind")) _ _ (unbinds parts)
    (either (bytes_eq word (codes "reprogram")) _ _ (reprograms parts)
    (either (bytes_eq word (codes "remove")) _ _ (removes parts)
    (either (bytes_eq word (codes "advance")) _ _ (moments parts)
    (either (bytes_eq word (codes "softint")) _ _ (softints parts)
    (either (bytes_eq word (codes "juggle")) _ _ (cpus parts Juggle juggle)
    (either (bytes_eq word (codes "offline")) _ _ (cpus parts Offline offline)
    (either (bytes_eq word (codes "online")) _ _ (cpus parts Online online)
    (either (bytes_eq word (codes "suspend")) _ _ (alone parts Suspend suspend)
    (either (bytes_eq word (codes "resume")) _ _ (alone parts Resume resume) tt))))))))))))

-- ---- items

sound_items : (items : List Data) → AreSound (form_of_items items)
unfolding form_of_items
sound_items [] = tt
sound_items (word ∷ parts) = and_then (shaped (as_str word)) _ λ w. forms w parts

-- ---- what a form is accepted as

abbrev AreFit : Context → Result (Step × Context) Cause → Type 0
AreFit before (Ok next) = Fits before next.0 next.1
AreFit before (Err e) = Unit {0}

kept : (before : Context) (step : Step) → Keeps (length before.names) step → Fits before step before
kept before step is = let u = is.untimed in
    record { name = is.name; names = sym is.names; moment = u.fits before.moment; clock = sym (u.clock before.moment) }

added : (before : Context) (text : List ℕ) (step : Step) → Introduces (length before.names) step
    → Fits before step (record before { names = before.names ++ text ∷ [] })
added before text step is = let u = is.untimed in
    let longer = length-append before.names (text ∷ []) ∙ sym is.names in
    record { name = is.name; names = longer; moment = u.fits before.moment; clock = sym (u.clock before.moment) }

accepted_fits : (before : Context) (form : Form) → IsSound form → AreFit before (accepted_form before form)
accepted_fits before (introduces text step) sound = by_test (is_some (number_of_name text before.names)) where
  by_test : (b : Bool) → AreFit before
      (◌>>=◌ {A = ℕ × List (List ℕ)} (if b then Err NameTwice else Ok (length before.names, before.names ++ text ∷ []))
      (λ new. Ok (step new.0, record before { names = new.1 })))
  by_test true = tt
  by_test false = added before text (step (length before.names)) (sound (length before.names))
accepted_fits before (refers text step) sound =
    by_test (nat_lt (position_or_len (bytes_eq text) before.names) (length before.names)) refl
  where
    by_test : (b : Bool) → nat_lt (position_or_len (bytes_eq text) before.names) (length before.names) ≡ b → AreFit before
        (ok_or (cond b (Some (position_or_len (bytes_eq text) before.names)) None) NoName >>= λ number. Ok (step number, before))
    by_test true e = kept before _ (sound (length before.names) _ e)
    by_test false e = tt
accepted_fits before (advances moment) sound = by_test (nat_lt moment before.moment) refl where
  by_test : (b : Bool) → nat_lt moment before.moment ≡ b
      → AreFit before (if b then Err TimeBack else Ok (Advance moment, record before { moment = moment }))
  by_test true e = tt
  by_test false e = record { name = refl; names = refl; moment = both _ _ (grind (arith, nat_tests)) sound; clock = refl }
accepted_fits before (nameless step) sound = kept before step (sound (length before.names))

all_fit : (before : Context) (forms : Result Form Cause) → AreSound forms → AreFit before (forms >>= accepted_form before)
all_fit before (Ok form) sound = accepted_fits before form sound
all_fit before (Err e) sound = tt

-- a step that is read of these items fits the context before it
pub items_fit : (before after : Context) (items : List Data) (result : Result Step Cause)
    → Reads result before after (form_of_items items) → IfOk result (λ step. Fits before step after)
items_fit before after items (Ok step) is = subst (AreFit before) is (all_fit before (form_of_items items) (sound_items items))
items_fit before after items (Err e) is = tt
