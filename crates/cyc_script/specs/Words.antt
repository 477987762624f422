-- The thirteen words of a step, each with its parameters (our own format).
use Rattle.std.specs.Prelude.{ℕ, ℤ, List, [], ◌∷◌, codes, Option, Some, None, Result, Ok, Err, bytes_eq, if◌then◌else◌}
use Rattle.serde_json.specs.Data.{Data, Items, no_items, item}
use Rattle.serde_json.specs.Find.{as_str, as_array}
use Rattle.cyc_types.specs.declared.level.Level.{Level}
use Rattle.cyc_script.specs.declared.cause.Cause.{Cause}
use Rattle.cyc_script.specs.declared.cause.Cause.TheVariants.{Shape}
use Rattle.cyc_script.specs.declared.step.Step.{Step}
use Rattle.cyc_script.specs.declared.step.Step.TheVariants.{Add, Omni, Bind, Unbind, Reprogram, Remove, Softint, Juggle, Offline}
use Rattle.cyc_script.specs.declared.step.Step.TheVariants.{Online, Suspend, Resume}
use Rattle.cyc_script.specs.Parameters.{shaped, name_of, level_in_value, soft_of, whole_of, moment_of, skew_of, unsigned_of}

-- a step whose name is still a text, and so a function of the name's number: it introduces a new name, refers to one that was
-- introduced before, advances the clock to a moment, or has neither a name nor a moment
pub data Form : Type 0 where
  introduces : List ℕ → (ℕ → Step) → Form
  refers : List ℕ → (ℕ → Step) → Form
  advances : ℕ → Form
  nameless : Step → Form

-- a result, and then what is made of it
infixl 10 ◌>>=◌
abbrev pub ◌>>=◌ : {A B E : Type 0} → Result A E → (A → Result B E) → Result B E
(Ok x) >>= f = f x
(Err e) >>= f = Err e

-- what `add` and `omni` say of a cyclic: its name, its level, its start and its interval
unfoldable pub cyclic_in_word : Data → Data → Data → Data → Result (List ℕ × Level × ℤ × ℤ) Cause
cyclic_in_word name level start interval = do
  n ← name_of name
  l ← level_in_value level
  s ← whole_of start
  i ← whole_of interval
  Ok (n, l, s, i)

-- `add` name level start interval
unfoldable pub add_of : List Data → Result Form Cause
add_of (name ∷ level ∷ start ∷ interval ∷ []) = do
  n ← name_of name
  l ← level_in_value level
  s ← whole_of start
  i ← whole_of interval
  Ok (introduces n (λ k. Add (record { name = k; level = l; start = s; interval = i })))
add_of _ = Err Shape

-- `omni` name level start interval skew
unfoldable pub omni_of : List Data → Result Form Cause
omni_of (name ∷ level ∷ start ∷ interval ∷ skew ∷ []) = do
  n ← name_of name
  l ← level_in_value level
  s ← whole_of start
  i ← whole_of interval
  w ← skew_of skew
  Ok (introduces n (λ k. Omni (record { name = k; level = l; start = s; interval = i; skew = w })))
omni_of _ = Err Shape

-- `bind` name cpu
unfoldable pub bind_of : List Data → Result Form Cause
bind_of (name ∷ cpu ∷ []) = do
  n ← name_of name
  c ← unsigned_of cpu
  Ok (refers n (λ k. Bind (record { name = k; cpu = c })))
bind_of _ = Err Shape

-- `unbind` name
unfoldable pub unbind_of : List Data → Result Form Cause
unbind_of (name ∷ []) = do
  n ← name_of name
  Ok (refers n Unbind)
unbind_of _ = Err Shape

-- `reprogram` name moment, and optionally cpu
unfoldable pub reprogram_of : List Data → Result Form Cause
reprogram_of (name ∷ moment ∷ []) = do
  n ← name_of name
  m ← whole_of moment
  Ok (refers n (λ k. Reprogram (record { name = k; moment = m; cpu = None })))
reprogram_of (name ∷ moment ∷ cpu ∷ []) = do
  n ← name_of name
  m ← whole_of moment
  c ← unsigned_of cpu
  Ok (refers n (λ k. Reprogram (record { name = k; moment = m; cpu = Some c })))
reprogram_of _ = Err Shape

-- the CPU that may be named
abbrev pub optional_cpu : Option Data → Result (Option ℕ) Cause
optional_cpu None = Ok None
optional_cpu (Some cpu) = unsigned_of cpu >>= λ c. Ok (Some c)

-- `reprogram`, of its parameters one by one
unfoldable pub reprogram_with : Data → Data → Option Data → Result Form Cause
reprogram_with name moment cpu = do
  n ← name_of name
  m ← whole_of moment
  c ← optional_cpu cpu
  Ok (refers n (λ k. Reprogram (record { name = k; moment = m; cpu = c })))

-- `remove` name
unfoldable pub remove_of : List Data → Result Form Cause
remove_of (name ∷ []) = do
  n ← name_of name
  Ok (refers n Remove)
remove_of _ = Err Shape

-- `advance` moment
unfoldable pub advance_of : List Data → Result Form Cause
advance_of (moment ∷ []) = do
  m ← moment_of moment
  Ok (advances m)
advance_of _ = Err Shape

-- `softint` cpu level budget
unfoldable pub softint_of : List Data → Result Form Cause
softint_of (cpu ∷ level ∷ budget ∷ []) = do
  c ← unsigned_of cpu
  l ← soft_of level
  b ← unsigned_of budget
  Ok (nameless (Softint (record { cpu = c; level = l; budget = b })))
softint_of _ = Err Shape

-- the CPU that is the only parameter
unfoldable pub only_cpu : List Data → Result ℕ Cause
only_cpu (cpu ∷ []) = unsigned_of cpu
only_cpu _ = Err Shape

-- `juggle` cpu
abbrev pub juggle_of : List Data → Result Form Cause
juggle_of parts = only_cpu parts >>= λ cpu. Ok (nameless (Juggle cpu))

-- `offline` cpu
abbrev pub offline_of : List Data → Result Form Cause
offline_of parts = only_cpu parts >>= λ cpu. Ok (nameless (Offline cpu))

-- `online` cpu
abbrev pub online_of : List Data → Result Form Cause
online_of parts = only_cpu parts >>= λ cpu. Ok (nameless (Online cpu))

-- the form of a step without parameters
unfoldable pub without_parameters : Step → List Data → Result Form Cause
without_parameters step [] = Ok (nameless step)
without_parameters step _ = Err Shape

-- `suspend`
abbrev pub suspend_of : List Data → Result Form Cause
suspend_of parts = without_parameters Suspend parts

-- `resume`
abbrev pub resume_of : List Data → Result Form Cause
resume_of parts = without_parameters Resume parts

-- the form of a step of this word
unfoldable pub form_of : List ℕ → List Data → Result Form Cause
form_of word parts = if bytes_eq word (codes "add") then add_of parts else
    if bytes_eq word (codes "omni") then omni_of parts else
    if bytes_eq word (codes "bind") then bind_of parts else
    if bytes_eq word (codes "unbind") then unbind_of parts else
    if bytes_eq word (codes "reprogram") then reprogram_of parts else
    if bytes_eq word (codes "remove") then remove_of parts else
    if bytes_eq word (codes "advance") then advance_of parts else
    if bytes_eq word (codes "softint") then softint_of parts else
    if bytes_eq word (codes "juggle") then juggle_of parts else
    if bytes_eq word (codes "offline") then offline_of parts else
    if bytes_eq word (codes "online") then online_of parts else
    if bytes_eq word (codes "suspend") then suspend_of parts else
    if bytes_eq word (codes "resume") then resume_of parts else Err Shape

-- the same, where it is one of the last five words
unfoldable pub last_form_of : List ℕ → List Data → Result Form Cause
last_form_of word parts = if bytes_eq word (codes "juggle") then juggle_of parts else
    if bytes_eq word (codes "offline") then offline_of parts else
    if bytes_eq word (codes "online") then online_of parts else
    if bytes_eq word (codes "suspend") then suspend_of parts else
    if bytes_eq word (codes "resume") then resume_of parts else Err Shape

-- the same, where it is none of the first four words
unfoldable pub later_form_of : List ℕ → List Data → Result Form Cause
later_form_of word parts = if bytes_eq word (codes "reprogram") then reprogram_of parts else
    if bytes_eq word (codes "remove") then remove_of parts else
    if bytes_eq word (codes "advance") then advance_of parts else
    if bytes_eq word (codes "softint") then softint_of parts else last_form_of word parts

-- the items of an array as a list
abbrev pub list_of : Items → List Data
list_of no_items = []
list_of (item d ds) = d ∷ list_of ds

-- the form of an array's items: a word and its parameters
unfoldable pub form_of_items : List Data → Result Form Cause
form_of_items [] = Err Shape
form_of_items (word ∷ parts) = do
  w ← shaped (as_str word)
  form_of w parts

-- the form of a step, which is an array
unfoldable pub form_of_value : Data → Result Form Cause
form_of_value d = do
  items ← shaped (as_array d)
  form_of_items (list_of items)
