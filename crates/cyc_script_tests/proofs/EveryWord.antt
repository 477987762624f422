-- What the definition of a step's form gives for each word, computed.
use Rattle.std.proofs.Common.{◌≡◌, ℕ, [], ◌∷◌, Ok, false, None, Some, refl}
use Rattle.std.specs.Prelude.{⊤, codes, pos, negsuc, is_ok}
use Rattle.serde_json.specs.Data.{Data, string, number, unsigned, negative}
use Rattle.cyc_types.specs.declared.level.Level.TheVariants as level
use Rattle.cyc_types.specs.declared.level.Soft.TheVariants as soft
use Rattle.cyc_script.specs.declared.step.Step.TheVariants.{Add, Omni, Bind, Unbind, Reprogram, Remove, Softint, Juggle, Offline}
use Rattle.cyc_script.specs.declared.step.Step.TheVariants.{Suspend, Resume}
use Rattle.cyc_script.specs.Parameters.{is_name_byte, whole_of, moment_of, skew_of, unsigned_of, name_of, level_in_value, soft_of}
use Rattle.cyc_script.specs.Words.{introduces, refers, advances, nameless, form_of, add_of, omni_of, bind_of, unbind_of}
use Rattle.cyc_script.specs.Words.{reprogram_of, remove_of, advance_of, softint_of, only_cpu, without_parameters}

-- what unfolds to compute a form
unfoldable on_words : ⊤
unfolding form_of add_of omni_of bind_of unbind_of reprogram_of remove_of advance_of softint_of only_cpu without_parameters
    is_name_byte whole_of moment_of skew_of unsigned_of name_of level_in_value soft_of
on_words = tt

abbrev a : Data
a = string (codes "a")

abbrev low : Data
low = string (codes "low")

abbrev n : ℕ → Data
n k = number (unsigned k)

add : form_of (codes "add") (a ∷ low ∷ n 5 ∷ n 10 ∷ [])
    ≡ Ok (introduces (codes "a") (λ k. Add (record { name = k; level = level.Low; start = pos 5; interval = pos 10 })))
unfolding on_words
add = refl

omni : form_of (codes "omni") (a ∷ low ∷ n 5 ∷ n 10 ∷ n 9223372036854775807 ∷ [])
    ≡ Ok (introduces (codes "a") (λ k. Omni (record {
      name = k;
      level = level.Low;
      start = pos 5;
      interval = pos 10;
      skew =
          9223372036854775807;
    })))
unfolding on_words
omni = refl

omni_with_a_negative_skew : is_ok (form_of (codes "omni") (a ∷ low ∷ n 5 ∷ n 10 ∷ number (negative (negsuc 0)) ∷ [])) ≡ false
unfolding on_words
omni_with_a_negative_skew = refl

bind : form_of (codes "bind") (a ∷ n 4294967295 ∷ [])
    ≡ Ok (refers (codes "a") (λ k. Bind (record { name = k; cpu = 4294967295 })))
unfolding on_words
bind = refl

unbind : form_of (codes "unbind") (a ∷ []) ≡ Ok (refers (codes "a") Unbind)
unfolding on_words
unbind = refl

reprogram : form_of (codes "reprogram") (a ∷ number (negative (negsuc 6)) ∷ [])
    ≡ Ok (refers (codes "a") (λ k. Reprogram (record { name = k; moment = negsuc 6; cpu = None })))
unfolding on_words
reprogram = refl

reprogram_on_a_cpu : form_of (codes "reprogram") (a ∷ n 50 ∷ n 1 ∷ [])
    ≡ Ok (refers (codes "a") (λ k. Reprogram (record { name = k; moment = pos 50; cpu = Some 1 })))
unfolding on_words
reprogram_on_a_cpu = refl

remove : form_of (codes "remove") (a ∷ []) ≡ Ok (refers (codes "a") Remove)
unfolding on_words
remove = refl

advance : form_of (codes "advance") (n 9223372036854775806 ∷ []) ≡ Ok (advances 9223372036854775806)
unfolding on_words
advance = refl

softint : form_of (codes "softint") (n 0 ∷ low ∷ n 4294967295 ∷ [])
    ≡ Ok (nameless (Softint (record { cpu = 0; level = soft.Low; budget = 4294967295 })))
unfolding on_words
softint = refl

juggle : form_of (codes "juggle") (n 3 ∷ []) ≡ Ok (nameless (Juggle 3))
unfolding on_words
juggle = refl

offline : form_of (codes "offline") (n 3 ∷ []) ≡ Ok (nameless (Offline 3))
unfolding on_words
offline = refl

online : is_ok (form_of (codes "online") (n 4294967296 ∷ [])) ≡ false
unfolding on_words
online = refl

suspend : form_of (codes "suspend") [] ≡ Ok (nameless Suspend)
unfolding on_words
suspend = refl

suspend_with_a_cpu : is_ok (form_of (codes "suspend") (n 0 ∷ [])) ≡ false
unfolding on_words
suspend_with_a_cpu = refl

resume : form_of (codes "resume") [] ≡ Ok (nameless Resume)
unfolding on_words
resume = refl

resume_with_a_name : is_ok (form_of (codes "resume") (a ∷ [])) ≡ false
unfolding on_words
resume_with_a_name = refl

another_word : is_ok (form_of (codes "hold") []) ≡ false
unfolding on_words
another_word = refl
