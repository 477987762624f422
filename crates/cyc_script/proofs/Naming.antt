-- The names that a script's steps introduce: each is a name, and no two are equal.
use Rattle.std.proofs.Common.{◌≡◌, ℕ, ◌+◌, ◌<◌, List, [], ◌∷◌, ◌++◌, Bool, true, false, Option, Some, None}
use Rattle.std.proofs.Common.{Result, Ok, Err, length, get_or, refl, sym, subst, arith}
use Rattle.std.specs.Prelude.{bytes_eq, codes, is_some, nat_lt, not, ok_or, option_and_then, IfOk, if◌then◌else◌}
use Rattle.std.specs.List.{position_or_len}
use Rattle.std.proofs.lemmas.Bool.Decides.{nat_tests}
use Rattle.std.proofs.lemmas.List.Elements.{All-nil, All-push}
use Rattle.std.proofs.lemmas.List.Quantifiers.{all_pairs_push}
use Rattle.std.proofs.lemmas.List.Sums.{prefix_len_passes}
use Rattle.std.proofs.lemmas.Slice.Eq.{bytes_eq-Decides}
use Rattle.serde_json.specs.Data.{Data}
use Rattle.serde_json.specs.Find.{as_array, as_str}
use Rattle.cyc_script.specs.declared.cause.Cause.{Cause}
use Rattle.cyc_script.specs.declared.cause.Cause.TheVariants.{NameTwice, NoName, TimeBack}
use Rattle.cyc_script.specs.declared.context.Context.{Context}
use Rattle.cyc_script.specs.declared.step.Step.{Step}
use Rattle.cyc_script.specs.declared.step.Step.TheVariants.{Advance}
use Rattle.cyc_script.specs.Names.{AreNames, number_of_name}
use Rattle.cyc_script.specs.Parameters.{is_name, shaped, name_in, name_of, level_in_value, soft_of, whole_of, moment_of}
use Rattle.cyc_script.specs.Parameters.{skew_of, unsigned_of}
use Rattle.cyc_script.specs.Steps.{accepted_form, first_context, numbered, step_of, steps_of}
use Rattle.cyc_script.specs.Words.{Form, introduces, refers, advances, nameless, ◌>>=◌, add_of, omni_of, bind_of, unbind_of}
use Rattle.cyc_script.specs.Words.{reprogram_of, remove_of, advance_of, softint_of, only_cpu, without_parameters, form_of}
use Rattle.cyc_script.specs.Words.{form_of_items, form_of_value, list_of}
use Rattle.cyc_script.proofs.Numbers.{is_new}

-- ---- one name more

none : AreNames []
none = record { valid = All-nil (λ text. is_name text ≡ true); distinct = λ i j d before below. absurd (omega (arith, below)) }

-- a name that has no number is none of those before it
is_another : (text : List ℕ) (names : List (List ℕ)) → is_some (number_of_name text names) ≡ false → (k : ℕ) (d : List ℕ)
    → k < length names → ¬ (get_or names k d ≡ text)
is_another text names unknown k d below same =
    let missing = is_new text names unknown in
    let far : k < position_or_len (bytes_eq text) names = grind (arith, nat_tests) in
    let differs = prefix_len_passes (λ name. not (bytes_eq text name)) names k d far in
    absurd (grind (arith, differs, (bytes_eq-Decides text (get_or names k d)).1 (sym same)))

one_more : (text : List ℕ) (names : List (List ℕ)) → is_name text ≡ true → is_some (number_of_name text names) ≡ false
    → AreNames names → AreNames (names ++ text ∷ [])
one_more text names is unknown are = record {
  valid = All-push (λ text. is_name text ≡ true) names text are.valid is;
  distinct = all_pairs_push (λ earlier later. ¬ (earlier ≡ later)) names text are.distinct (is_another text names unknown);
}

-- ---- forms

-- what a form introduces is a name
abbrev IsNamed : Form → Type 0
IsNamed (introduces text step) = is_name text ≡ true
IsNamed (refers text step) = Unit {0}
IsNamed (advances moment) = Unit {0}
IsNamed (nameless step) = Unit {0}

abbrev AreNamed : Result Form Cause → Type 0
AreNamed (Ok form) = IsNamed form
AreNamed (Err e) = Unit {0}

and_then : {A : Type 0} (r : Result A Cause) (f : A → Result Form Cause) → ((x : A) → AreNamed (f x)) → AreNamed (r >>= f)
and_then (Ok x) f all = all x
and_then (Err e) f all = tt

either : (b : Bool) (x y : Result Form Cause) → AreNamed x → AreNamed y → AreNamed (if b then x else y)
either true x y one other = one
either false x y one other = other

-- the text of a name is a name
named_in : (text : Option (List ℕ)) (f : List ℕ → Result Form Cause) → ((x : List ℕ) → is_name x ≡ true → AreNamed (f x))
    → AreNamed (shaped (option_and_then name_in text) >>= f)
named_in None f all = tt
named_in (Some text) f all = by_test (is_name text) refl where
  by_test : (b : Bool) → is_name text ≡ b → AreNamed (shaped (if b then Some text else None) >>= f)
  by_test true e = all text e
  by_test false e = tt

named : (name : Data) (f : List ℕ → Result Form Cause) → ((x : List ℕ) → is_name x ≡ true → AreNamed (f x))
    → AreNamed (name_of name >>= f)
unfolding name_of
named name f all = named_in (as_str name) f all

-- ---- words

adds : (parts : List Data) → AreNamed (add_of parts)
unfolding add_of
adds (name ∷ level ∷ start ∷ interval ∷ []) =
    named name _ λ x is. and_then (level_in_value level) _ λ l. and_then (whole_of start) _ λ s. and_then
    (whole_of interval) _ λ i. is
adds _ = tt

omnis : (parts : List Data) → AreNamed (omni_of parts)
unfolding omni_of
omnis (name ∷ level ∷ start ∷ interval ∷ skew ∷ []) =
    named name _ λ x is. and_then (level_in_value level) _ λ l. and_then (whole_of start) _ λ s. and_then
    (whole_of interval) _ λ i.
    and_then (skew_of skew) _ λ w. is
omnis _ = tt

binds : (parts : List Data) → AreNamed (bind_of parts)
unfolding bind_of
binds (name ∷ cpu ∷ []) = and_then (name_of name) _ λ x. and_then (unsigned_of cpu) _ λ c. tt
binds _ = tt

unbinds : (parts : List Data) → AreNamed (unbind_of parts)
unfolding unbind_of
unbinds (name ∷ []) = and_then (name_of name) _ λ x. tt
unbinds _ = tt

reprograms : (parts : List Data) → AreNamed (reprogram_of parts)
unfolding reprogram_of
reprograms (name ∷ moment ∷ []) = and_then (name_of name) _ λ x. and_then (whole_of moment) _ λ m. tt
reprograms (name ∷ moment ∷ cpu ∷ []) =
    and_then (name_of name) _ λ x. and_then (whole_of moment) _ λ m. and_then (unsigned_of cpu) _ λ c. tt
reprograms _ = tt

removes : (parts : List Data) → AreNamed (remove_of parts)
unfolding remove_of
removes (name ∷ []) = and_then (name_of name) _ λ x. tt
removes _ = tt

moments : (parts : List Data) → AreNamed (advance_of parts)
unfolding advance_of
moments (moment ∷ []) = and_then (moment_of moment) _ λ m. tt
moments _ = tt

softints : (parts : List Data) → AreNamed (softint_of parts)
unfolding softint_of
softints (cpu ∷ level ∷ budget ∷ []) =
    and_then (unsigned_of cpu) _ λ c. and_then (soft_of level) _ λ l. and_then (unsigned_of budget) _ λ b. tt
softints _ = tt

-- a word whose only parameter is a CPU
cpus : (parts : List Data) (step : ℕ → Step) → AreNamed (only_cpu parts >>= λ cpu. Ok (nameless (step cpu)))
cpus parts step = and_then (only_cpu parts) _ λ cpu. tt

-- a word without parameters
alone : (parts : List Data) (step : Step) → AreNamed (without_parameters step parts)
unfolding without_parameters
alone [] step = tt
alone _ step = tt

forms : (word : List ℕ) (parts : List Data) → AreNamed (form_of word parts)
unfolding form_of
forms word parts =
    either (bytes_eq word (codes "add")) _ _ (adds parts)
    (either (bytes_eq word (codes "omni")) _ _ (omnis parts)
    (either (bytes_eq word (codes "bind")) _ _ (binds parts)
    (either (bytes_eq word (codes "unbind")) _ _ (unbinds parts)
    (either (bytes_eq word (codes "reprogram")) _ _ (reprograms parts)
    (either (bytes_eq word (codes "remove")) _ _ (removes parts)
    (either (bytes_eq word (codes "advance")) _ _ (moments parts)
    (either (bytes_eq word (codes "softint")) _ _ (softints parts)
    (either (bytes_eq word (codes "juggle")) _ _ (cpus parts _)
    (either (bytes_eq word (codes "offline")) _ _ (cpus parts _)
    (either (bytes_eq word (codes "online")) _ _ (cpus parts _)
    (either (bytes_eq word (codes "suspend")) _ _ (alone parts _)
    (either (bytes_eq word (codes "resume")) _ _ (alone parts _) tt))))))))))))

items : (parts : List Data) → AreNamed (form_of_items parts)
unfolding form_of_items
items [] = tt
items (word ∷ parts) = and_then (shaped (as_str word)) _ λ w. forms w parts

values : (d : Data) → AreNamed (form_of_value d)
unfolding form_of_value
values d = and_then (shaped (as_array d)) _ λ found. items (list_of found)

-- ---- steps

abbrev LeavesNames : Result (Step × Context) Cause → Type 0
LeavesNames (Ok next) = AreNames next.1.names
LeavesNames (Err e) = Unit {0}

accepts : (before : Context) (form : Form) → IsNamed form → AreNames before.names → LeavesNames (accepted_form before form)
accepts before (introduces text step) is are = by_test (is_some (number_of_name text before.names)) refl where
  by_test : (b : Bool) → is_some (number_of_name text before.names) ≡ b → LeavesNames
      (◌>>=◌ {A = ℕ × List (List ℕ)} (if b then Err NameTwice else Ok (length before.names, before.names ++ text ∷ []))
      (λ new. Ok (step new.0, record before { names = new.1 })))
  by_test true e = tt
  by_test false e = one_more text before.names is e are
accepts before (refers text step) is are = by_number (number_of_name text before.names) where
  by_number : (number : Option ℕ) → LeavesNames (ok_or number NoName >>= λ number. Ok (step number, before))
  by_number (Some number) = are
  by_number None = tt
accepts before (advances moment) is are = by_test (nat_lt moment before.moment) where
  by_test : (b : Bool) → LeavesNames (if b then Err TimeBack else Ok (Advance moment, record before { moment = moment }))
  by_test true = tt
  by_test false = are
accepts before (nameless step) is are = are

accepts_all : (before : Context) (forms : Result Form Cause) → AreNamed forms → AreNames before.names
    → LeavesNames (forms >>= accepted_form before)
accepts_all before (Ok form) is are = accepts before form is are
accepts_all before (Err e) is are = tt

one_step : (before : Context) (d : Data) → AreNames before.names → LeavesNames (step_of before d)
unfolding step_of
one_step before d are = accepts_all before (form_of_value d) (values d) are

all_steps : (steps : List Step) (before : Context) (ds : List Data) → AreNames before.names
    → IfOk (steps_of steps before ds) (λ read. AreNames read.1)
unfolding steps_of
all_steps steps before [] are = are
all_steps steps before (d ∷ ds) are =
    by_step (step_of before d) (one_step before d are) (λ next left. all_steps (steps ++ next.0 ∷ []) next.1 ds left)
  where
    by_step : (next : Result (Step × Context) Cause) → LeavesNames next
        → ((next : Step × Context) → AreNames next.1.names
        → IfOk (steps_of (steps ++ next.0 ∷ []) next.1 ds) (λ read. AreNames read.1))
        → IfOk (numbered (length steps + 1) next >>= λ next. steps_of (steps ++ next.0 ∷ []) next.1 ds) (λ read. AreNames read.1)
    by_step (Ok next) left rest = rest next left
    by_step (Err e) left rest = tt

-- the names that the steps of a script introduce
pub names_of_steps : (ds : List Data) (steps : List Step) (names : List (List ℕ))
    → steps_of [] first_context ds ≡ Ok (steps, names) → AreNames names
names_of_steps ds steps names is = subst (λ read. IfOk read (λ read. AreNames read.1)) is (all_steps [] first_context ds none)
