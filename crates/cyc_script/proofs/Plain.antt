-- What a step says of its parts: of one that is neither a text nor a whole number nothing, and nothing of those past the sixth.
use Rattle.std.proofs.Common.{◌≡◌, ℕ, zero, suc, ℤ, ◌-◌, ◌<◌, ◌≤◌, List, [], ◌∷◌, ◌++◌, map, take, length, Option, Some, None}
use Rattle.std.proofs.Common.{Result, Ok, Err, refl, ap, sym, ◌∙◌, arith}
use Rattle.std.specs.Prelude.{option_and_then, if◌then◌else◌, nat_le}
use Rattle.std.proofs.lemmas.List.{map-append, length-map}
use Rattle.serde_json.specs.Data.{Num, Data, null, boolean, number, string, array, object}
use Rattle.serde_json.specs.Find.{as_array, as_i64, as_str}
use Rattle.serde_json.specs.View.{items_of}
use Rattle.cyc_types.specs.Series.{never}
use Rattle.cyc_script.specs.declared.cause.Cause.{Cause}
use Rattle.cyc_script.specs.declared.part.Part.{Part}
use Rattle.cyc_script.specs.declared.step.Step.{Step}
use Rattle.cyc_script.specs.declared.step.Step.TheVariants.{Suspend, Resume}
use Rattle.cyc_script.specs.Parameters.{
  shaped,
  at_most,
  name_in,
  level_in_word,
  soft_in,
  whole_in,
  name_of,
  level_in_value,
  soft_of,
}
use Rattle.cyc_script.specs.Parameters.{whole_of, skew_of, unsigned_of, moment_of}
use Rattle.cyc_script.specs.Parts.{data_of, plain_data, plain_number}
use Rattle.cyc_script.specs.Script.{number_between}
use Rattle.cyc_script.specs.Steps.{accepted_form, step_of}
use Rattle.cyc_script.specs.Tokens.{ReadsAs}
use Rattle.cyc_script.specs.Words.{◌>>=◌, add_of, omni_of, bind_of, unbind_of, reprogram_of, remove_of, advance_of, softint_of}
use Rattle.cyc_script.specs.Words.{only_cpu, without_parameters, form_of, form_of_items, form_of_value}
use Rattle.cyc_script.proofs.Lists.{list_of_items_of}

-- ---- one part

no_text : (n : Num) (whole : Option ℤ) → as_str (plain_number n whole) ≡ None
no_text n None = refl
no_text n (Some z) = refl

plain_text : (d : Data) → as_str (plain_data d) ≡ as_str d
plain_text null = refl
plain_text (boolean b) = refl
plain_text (number n) = no_text n (as_i64 n)
plain_text (string s) = refl
plain_text (array ds) = refl
plain_text (object ms) = refl

number_whole : (n : Num) (whole : Option ℤ) → as_i64 n ≡ whole → whole_in (plain_number n whole) ≡ whole
number_whole n None e = refl
number_whole n (Some z) e = e

plain_whole : (d : Data) → whole_in (plain_data d) ≡ whole_in d
plain_whole null = refl
plain_whole (boolean b) = refl
plain_whole (number n) = number_whole n (as_i64 n) refl
plain_whole (string s) = refl
plain_whole (array ds) = refl
plain_whole (object ms) = refl

pub plain_between : (least most : ℕ) (d : Data) → number_between least most (plain_data d) ≡ number_between least most d
plain_between least most d =
    ap (λ z. option_and_then (λ n. if nat_le least n then Some n else None) (option_and_then (at_most most) z)) (plain_whole d)

name : (d : Data) → name_of (plain_data d) ≡ name_of d
unfolding name_of
name d = ap (λ s. shaped (option_and_then name_in s)) (plain_text d)

level : (d : Data) → level_in_value (plain_data d) ≡ level_in_value d
unfolding level_in_value
level d = ap (λ s. shaped (option_and_then level_in_word s)) (plain_text d)

soft : (d : Data) → soft_of (plain_data d) ≡ soft_of d
unfolding soft_of
soft d = ap (λ s. shaped (option_and_then soft_in s)) (plain_text d)

whole : (d : Data) → whole_of (plain_data d) ≡ whole_of d
unfolding whole_of
whole d = ap shaped (plain_whole d)

moment : (d : Data) → moment_of (plain_data d) ≡ moment_of d
unfolding moment_of
moment d = ap (λ z. shaped (option_and_then (at_most (never - 1)) z)) (plain_whole d)

skew : (d : Data) → skew_of (plain_data d) ≡ skew_of d
unfolding skew_of
skew d = ap (λ z. shaped (option_and_then (at_most never) z)) (plain_whole d)

unsigned : (d : Data) → unsigned_of (plain_data d) ≡ unsigned_of d
unfolding unsigned_of
unsigned d = ap (λ z. shaped (option_and_then (at_most 4294967295) z)) (plain_whole d)

-- ---- the words

adds : (parts : List Data) → add_of (map plain_data parts) ≡ add_of parts
unfolding add_of
adds (a ∷ b ∷ c ∷ d ∷ []) = rw (name a, level b, whole c, whole d) refl
adds _ = refl

omnis : (parts : List Data) → omni_of (map plain_data parts) ≡ omni_of parts
unfolding omni_of
omnis (a ∷ b ∷ c ∷ d ∷ e ∷ []) = rw (name a, level b, whole c, whole d, skew e) refl
omnis _ = refl

binds : (parts : List Data) → bind_of (map plain_data parts) ≡ bind_of parts
unfolding bind_of
binds (a ∷ b ∷ []) = rw (name a, unsigned b) refl
binds _ = refl

unbinds : (parts : List Data) → unbind_of (map plain_data parts) ≡ unbind_of parts
unfolding unbind_of
unbinds (a ∷ []) = rw (name a) refl
unbinds _ = refl

reprograms : (parts : List Data) → reprogram_of (map plain_data parts) ≡ reprogram_of parts
unfolding reprogram_of
reprograms (a ∷ b ∷ []) = rw (name a, whole b) refl
reprograms (a ∷ b ∷ c ∷ []) = rw (name a, whole b, unsigned c) refl
reprograms _ = refl

removes : (parts : List Data) → remove_of (map plain_data parts) ≡ remove_of parts
unfolding remove_of
removes (a ∷ []) = rw (name a) refl
removes _ = refl

advances : (parts : List Data) → advance_of (map plain_data parts) ≡ advance_of parts
unfolding advance_of
advances (a ∷ []) = rw (moment a) refl
advances _ = refl

softints : (parts : List Data) → softint_of (map plain_data parts) ≡ softint_of parts
unfolding softint_of
softints (a ∷ b ∷ c ∷ []) = rw (unsigned a, soft b, unsigned c) refl
softints _ = refl

cpus : (parts : List Data) → only_cpu (map plain_data parts) ≡ only_cpu parts
unfolding only_cpu
cpus (a ∷ []) = unsigned a
cpus _ = refl

alone : (step : Step) (parts : List Data) → without_parameters step (map plain_data parts) ≡ without_parameters step parts
unfolding without_parameters
alone step [] = refl
alone step (a ∷ parts) = refl

forms : (word : List ℕ) (parts : List Data) → form_of word (map plain_data parts) ≡ form_of word parts
unfolding form_of
forms word parts = rw (
  adds parts,
  omnis parts,
  binds parts,
  unbinds parts,
  reprograms parts,
  removes parts,
  advances parts,
  softints parts,
  cpus parts,
  alone Suspend parts,
  alone Resume parts,
) refl

-- ---- all parts

then_same : {A B : Type 0} (r : Result A Cause) (f g : A → Result B Cause) → ((x : A) → f x ≡ g x) → r >>= f ≡ r >>= g
then_same (Ok x) f g same = same x
then_same (Err e) f g same = refl

plain_items : (parts : List Data) → form_of_items (map plain_data parts) ≡ form_of_items parts
unfolding form_of_items
plain_items [] = refl
plain_items (word ∷ parts) = ap (λ s. shaped s >>= λ w. form_of w (map plain_data parts)) (plain_text word)
    ∙ then_same (shaped (as_str word)) _ _ (λ w. forms w parts)

-- no word has more than six parts with itself
first_items : (parts : List Data) → form_of_items (take 7 parts) ≡ form_of_items parts
unfolding form_of_items form_of add_of omni_of bind_of unbind_of reprogram_of remove_of advance_of softint_of only_cpu
    without_parameters
first_items (a ∷ b ∷ c ∷ d ∷ e ∷ f ∷ g ∷ more) = then_same (shaped (as_str a)) _ _ (λ w. refl)
first_items _ = refl

form_of_array : (ds : List Data) → form_of_value (array (items_of ds)) ≡ form_of_items ds
unfolding form_of_value
form_of_array ds = ap form_of_items (list_of_items_of ds)

-- a step of these items reads as that of its first parts does
pub reads_as : (front : List Data) (parts : List Part) → map data_of parts ≡ take 7 (map plain_data front)
    → ReadsAs (array (items_of front)) parts
unfolding step_of
reads_as front parts e = λ before.
    let seen = form_of_array (map data_of parts) ∙ ap form_of_items e ∙ first_items (map plain_data front) ∙ plain_items front
    ∙ sym (form_of_array front) in
    ap (λ form. form >>= accepted_form before) seen

-- what is no list reads as a step without parts
pub reads_as_none : (d : Data) → as_array d ≡ None → ReadsAs d []
unfolding step_of form_of_value form_of_items
reads_as_none d e = λ before. rw e refl

-- ---- one part more

take_more : (n : ℕ) (ds : List Data) (d : Data) → length (take n ds) < n → take n (ds ++ d ∷ []) ≡ take n ds ++ d ∷ []
take_more zero ds d less = absurd (omega (arith, less))
take_more (suc zero) [] d less = refl
take_more (suc (suc n)) [] d less = refl
take_more (suc n) (x ∷ ds) d less = ap (λ rest. x ∷ rest) (take_more n ds d (omega (arith, less)))

take_full : (n : ℕ) (ds : List Data) (d : Data) → n ≤ length (take n ds) → take n (ds ++ d ∷ []) ≡ take n ds
take_full zero ds d full = refl
take_full (suc n) [] d full = absurd (omega (arith, full))
take_full (suc n) (x ∷ ds) d full = ap (λ rest. x ∷ rest) (take_full n ds d (omega (arith, full)))

module _ (parts : List Part) (front : List Data) (part : Part) (d : Data) (are : map data_of parts ≡ take 7 (map plain_data
    front))
    (is : data_of part ≡ plain_data d) where
  same_length : length parts ≡ length (take 7 (map plain_data front))
  same_length = sym (length-map parts data_of) ∙ ap length are

  pub part_pushed : length parts ≤ 6 → map data_of (parts ++ part ∷ []) ≡ take 7 (map plain_data (front ++ d ∷ []))
  part_pushed few =
      let less : length (take 7 (map plain_data front)) < 7 = omega (arith, few, same_length) in
      map-append data_of parts (part ∷ []) ∙ ap (λ ds. ds ++ data_of part ∷ []) are
      ∙ ap (λ x. take 7 (map plain_data front) ++ x ∷ []) is ∙ sym (take_more 7 (map plain_data front) (plain_data d) less)
      ∙ ap (take 7) (sym (map-append plain_data front (d ∷ [])))

  pub part_left : 6 < length parts → map data_of parts ≡ take 7 (map plain_data (front ++ d ∷ []))
  part_left many =
      let full : 7 ≤ length (take 7 (map plain_data front)) = omega (arith, many, same_length) in
      are ∙ sym (take_full 7 (map plain_data front) (plain_data d) full)
      ∙ ap (take 7) (sym (map-append plain_data front (d ∷ [])))
