-- What the members of a script's object say, one more at a time.
use Rattle.std.proofs.Common.{◌≡◌, ℕ, ℤ, ◌≤◌, List, [], ◌∷◌, Bool, true, false, Option, Some, None, Result, Ok, Err}
use Rattle.std.proofs.Common.{codes, inl, inr, Ordering, Less, Equal, Greater, nat_cmp, is_eq, length, refl, ap, sym, subst}
use Rattle.std.proofs.Common.{◌∙◌, arith}
use Rattle.std.specs.Prelude.{◌&&◌, option_and_then, bytes_eq, nat_le, pos, negsuc, IfErr, MatchResult, if◌then◌else◌}
use Rattle.std.specs.List.{list_all}
use Rattle.std.specs.Ordering.{match_ordering}
use Rattle.std.specs.Cmp.Lexicographic.{slice_cmp}
use Rattle.std.proofs.lemmas.Bool.{false_from_ne_true}
use Rattle.std.proofs.lemmas.Bool.Decides.{nat_tests}
use Rattle.std.proofs.lemmas.Map.Text.{is_eq-slice_cmp}
use Rattle.std.proofs.lemmas.Slice.Eq.{bytes_eq-Decides}
use Rattle.json.specs.Token.{Token}
use Rattle.serde_json.specs.Data.{Data, object, Members, no_members, member, put}
use Rattle.serde_json.specs.Find.{as_array, get_member}
use Rattle.serde_json.proofs.Views.{get_member-put, get_member-put_other}
use Rattle.cyc_types.specs.declared.refusal.Refusal.{Refusal}
use Rattle.cyc_types.specs.declared.refusal.Refusal.TheVariants.{Memory, ScriptShape}
use Rattle.cyc_script.specs.declared.object.Object.{Object}
use Rattle.cyc_script.specs.declared.step.Step.{Step}
use Rattle.cyc_script.specs.declared.stop.Stop.{Stop}
use Rattle.cyc_script.specs.declared.stop.Stop.TheVariants.{NoJson}
use Rattle.cyc_script.specs.declared.stop.Stop.TheVariants as stop
use Rattle.cyc_script.specs.Answers.{Answers, Fails}
use Rattle.cyc_types.specs.Limits.{most_cpus}
use Rattle.cyc_script.specs.Parameters.{at_most, whole_in}
use Rattle.cyc_script.specs.Script.{Content, number_between, is_key, keys_of, has_keys, cpus_in, cpus_of, ceiling_in, ceiling_of}
use Rattle.cyc_script.specs.Script.{values_of, within_limit, content_of, formed}
use Rattle.cyc_script.specs.Steps.{first_context, steps_of}
use Rattle.cyc_script.specs.Tokens.{AreWhole, Denies, IsObject, ended, if_over}
use Rattle.cyc_script.specs.Tokens.{steps_in, steps_with}
use Rattle.cyc_script.specs.WellFormed.{IsWellFormed}
use Rattle.cyc_script.specs.Words.{list_of, ◌>>=◌}

-- ---- keys

both_ways : (a b c : Bool) → (a && (b && c)) ≡ (b && (a && c))
both_ways true true c = refl
both_ways true false c = refl
both_ways false true c = refl
both_ways false false c = refl

twice : (a b : Bool) → (a && b) ≡ (a && (a && b))
twice true b = refl
twice false b = refl

keys_put_at : (o : Ordering) (k l : List ℕ) (d e : Data) (ms : Members) → slice_cmp nat_cmp k l ≡ o
    → list_all is_key (keys_of (put k d ms)) ≡ (is_key k && list_all is_key (keys_of ms))
    → list_all is_key (keys_of (match_ordering o (member k d (member l e ms)) (member l d ms) (member l e (put k d ms))))
    ≡ (is_key k && (is_key l && list_all is_key (keys_of ms)))
keys_put_at Less k l d e ms is later = refl
keys_put_at Equal k l d e ms is later =
    let same : k ≡ l = (bytes_eq-Decides k l).0 (sym (is_eq-slice_cmp k l) ∙ ap is_eq is) in
    rw same (twice (is_key l) (list_all is_key (keys_of ms)))
keys_put_at Greater k l d e ms is later =
    ap (λ b. is_key l && b) later ∙ both_ways (is_key l) (is_key k) (list_all is_key (keys_of ms))

keys_put : (k : List ℕ) (d : Data) (ms : Members)
    → list_all is_key (keys_of (put k d ms)) ≡ (is_key k && list_all is_key (keys_of ms))
keys_put k d no_members = refl
keys_put k d (member l e ms) = keys_put_at _ k l d e ms refl (keys_put k d ms)

has_keys_put : (k : List ℕ) (d : Data) (ms : Members) (known : Bool) → is_key k ≡ known
    → has_keys (object (put k d ms)) ≡ (known && has_keys (object ms))
unfolding has_keys
has_keys_put k d ms known e = keys_put k d ms ∙ ap (λ b. b && list_all is_key (keys_of ms)) e

differs : (a b : List ℕ) → bytes_eq a b ≡ false → a ≡ b → ⊥
differs a b other same = let e = sym other ∙ (bytes_eq-Decides a b).1 same in absurd (cc)

unequal : (a b : List ℕ) → (a ≡ b → ⊥) → bytes_eq a b ≡ false
unequal a b other = false_from_ne_true (bytes_eq a b) (λ e. other ((bytes_eq-Decides a b).0 e))

-- ---- one member more

pub first_object : (o : Object) → o.known ≡ true → o.cpus ≡ None → o.ceiling ≡ Some 4294967295
    → o.refusal ≡ Some (ScriptShape 0) → IsObject o no_members
unfolding has_keys cpus_of ceiling_of values_of
first_object o known cpus ceiling refusal = record {
  known = known;
  cpus = cpus;
  ceiling = ceiling;
  steps = rw refusal (inr refl);
  whole = rw refusal tt;
}

module _ (o p : Object) (ms : Members) (d : Data) (is : IsObject o ms) where
  pub cpus_put : p.known ≡ o.known → p.cpus ≡ number_between 1 most_cpus d → p.ceiling ≡ o.ceiling → steps_in p ≡ steps_in o
      → IsObject p (put (codes "cpus") d ms)
  unfolding is_key cpus_of ceiling_of values_of
  cpus_put known cpus ceiling steps = record {
    known = known ∙ is.known ∙ sym (has_keys_put (codes "cpus") d ms true refl);
    cpus = cpus ∙ ap (option_and_then cpus_in) (sym (get_member-put (codes "cpus") d ms));
    ceiling = ceiling ∙ is.ceiling ∙ ap ceiling_in (sym (get_member-put_other (codes "ceiling") (codes "cpus") d ms
        (differs (codes "ceiling") (codes "cpus") refl)));
    steps = rw (steps, get_member-put_other (codes "steps") (codes "cpus") d ms (differs (codes "steps") (codes "cpus") refl))
        is.steps;
    whole = rw steps is.whole;
  }

  pub ceiling_put : p.known ≡ o.known → p.cpus ≡ o.cpus → p.ceiling ≡ number_between 1 4294967295 d → steps_in p ≡ steps_in o
      → IsObject p (put (codes "ceiling") d ms)
  unfolding is_key cpus_of ceiling_of values_of
  ceiling_put known cpus ceiling steps = record {
    known = known ∙ is.known ∙ sym (has_keys_put (codes "ceiling") d ms true refl);
    cpus = cpus ∙ is.cpus ∙ ap (option_and_then cpus_in) (sym (get_member-put_other (codes "cpus") (codes "ceiling") d ms
        (differs (codes "cpus") (codes "ceiling") refl)));
    ceiling = ceiling ∙ ap ceiling_in (sym (get_member-put (codes "ceiling") d ms));
    steps = rw (
      steps,
      get_member-put_other (codes "steps") (codes "ceiling") d ms (differs (codes "steps") (codes "ceiling") refl),
    ) is.steps;
    whole = rw steps is.whole;
  }

  pub steps_put : p.known ≡ o.known → p.cpus ≡ o.cpus → p.ceiling ≡ o.ceiling
      → Answers (λ r. r) (steps_in p) (formed (option_and_then (λ items. within_limit (list_of items)) (as_array d))
      >>= steps_of [] first_context) → AreWhole (steps_in p) → IsObject p (put (codes "steps") d ms)
  unfolding is_key cpus_of ceiling_of values_of
  steps_put known cpus ceiling steps whole = record {
    known = known ∙ is.known ∙ sym (has_keys_put (codes "steps") d ms true refl);
    cpus = cpus ∙ is.cpus ∙ ap (option_and_then cpus_in) (sym (get_member-put_other (codes "cpus") (codes "steps") d ms
        (differs (codes "cpus") (codes "steps") refl)));
    ceiling = ceiling ∙ is.ceiling ∙ ap ceiling_in (sym (get_member-put_other (codes "ceiling") (codes "steps") d ms
        (differs (codes "ceiling") (codes "steps") refl)));
    steps = rw (get_member-put (codes "steps") d ms) steps;
    whole = whole;
  }

  pub other_put : (key : List ℕ) → (key ≡ codes "cpus" → ⊥) → (key ≡ codes "ceiling" → ⊥) → (key ≡ codes "steps" → ⊥)
      → p.known ≡ false → p.cpus ≡ o.cpus → p.ceiling ≡ o.ceiling → steps_in p ≡ steps_in o → IsObject p (put key d ms)
  unfolding is_key cpus_of ceiling_of values_of
  other_put key no_cpus no_ceiling no_steps known cpus ceiling steps = record {
    known = known ∙ sym (has_keys_put key d ms false
        (rw (unequal _ _ no_cpus, unequal _ _ no_ceiling, unequal _ _ no_steps) refl));
    cpus = cpus ∙ is.cpus ∙ ap (option_and_then cpus_in) (sym (get_member-put_other (codes "cpus") key d ms
        (λ e. no_cpus (sym e))));
    ceiling = ceiling ∙ is.ceiling ∙ ap ceiling_in (sym (get_member-put_other (codes "ceiling") key d ms
        (λ e. no_ceiling (sym e))));
    steps = rw (steps, get_member-put_other (codes "steps") key d ms (λ e. no_steps (sym e))) is.steps;
    whole = rw steps is.whole;
  }

-- ---- the script

abbrev with_steps : ℕ → ℕ → Result (List Step × List (List ℕ)) Refusal → Result Content Refusal
with_steps cpus ceiling (Ok read) = Ok (record { cpus = cpus; ceiling = ceiling; names = read.1; steps = read.0 })
with_steps cpus ceiling (Err refusal) = Err refusal

abbrev made : Bool → Option ℕ → Option ℕ → Result (List Step × List (List ℕ)) Refusal → Result Content Refusal
made false cpus ceiling read = Err (ScriptShape 0)
made true None ceiling read = Err (ScriptShape 0)
made true (Some cpus) None read = Err (ScriptShape 0)
made true (Some cpus) (Some ceiling) read = with_steps cpus ceiling read

abbrev last : ℕ → ℕ → List Step × List (List ℕ) → Result Content Refusal
last cpus ceiling read = Ok (record { cpus = cpus; ceiling = ceiling; names = read.1; steps = read.0 })

steps_last : (cpus ceiling : ℕ) (read : Result (List Step × List (List ℕ)) Refusal)
    → read >>= last cpus ceiling
    ≡ with_steps cpus ceiling read
steps_last cpus ceiling (Ok read) = refl
steps_last cpus ceiling (Err refusal) = refl

values_last : (cpus ceiling : ℕ) (values : Result (List Data) Refusal)
    → values >>= (λ values. steps_of [] first_context values
    >>= last cpus ceiling)
    ≡ with_steps cpus ceiling (values >>= steps_of [] first_context)
values_last cpus ceiling (Ok values) = steps_last cpus ceiling (steps_of [] first_context values)
values_last cpus ceiling (Err refusal) = refl

content_made : (d : Data) (known : Bool) (cpus ceiling : Option ℕ) → has_keys d ≡ known → cpus_of d ≡ cpus
    → ceiling_of d ≡ ceiling
    → content_of d ≡ made known cpus ceiling (formed (values_of d) >>= steps_of [] first_context)
unfolding content_of
content_made d false cpus ceiling k c g = rw k refl
content_made d true None ceiling k c g = rw (k, c) refl
content_made d true (Some cpus) None k c g = rw (k, c, g) refl
content_made d true (Some cpus) (Some ceiling) k c g = rw (k, c, g) (values_last cpus ceiling (formed (values_of d)))

values_are : (limited : Option (List Data)) (read : List Step × List (List ℕ))
    → formed limited >>= steps_of [] first_context ≡ Ok read → (values : List Data) × (steps_of [] first_context values ≡ Ok read)
values_are None read e = absurd (cc)
values_are (Some values) read e = (values, e)

module _ (o : Object) (ms : Members) (is : IsObject o ms) where
  content_is : content_of (object ms)
      ≡ made o.known o.cpus o.ceiling (formed (values_of (object ms)) >>= steps_of [] first_context)
  content_is = content_made (object ms) o.known o.cpus o.ceiling (sym is.known) (sym is.cpus) (sym is.ceiling)

  pub unknown : o.known ≡ false → content_of (object ms) ≡ Err (ScriptShape 0)
  unknown k = content_is ∙ rw k refl

  pub without_cpus : o.known ≡ true → o.cpus ≡ None → content_of (object ms) ≡ Err (ScriptShape 0)
  without_cpus k c = content_is ∙ rw (k, c) refl

  pub without_ceiling : (cpus : ℕ) → o.known ≡ true → o.cpus ≡ Some cpus → o.ceiling ≡ None
      → content_of (object ms) ≡ Err (ScriptShape 0)
  without_ceiling cpus k c g = content_is ∙ rw (k, c, g) refl

  steps_made : o.refusal ≡ None → formed (values_of (object ms)) >>= steps_of [] first_context
      ≡ Ok (o.steps.items, o.context.names)
  steps_made r = subst (λ r. Answers (λ r. r) (steps_with r o.steps.items o.context.names)
      (formed (values_of (object ms)) >>= steps_of [] first_context)) r is.steps

  module _ (cpus ceiling : ℕ) (k : o.known ≡ true) (c : o.cpus ≡ Some cpus) (g : o.ceiling ≡ Some ceiling) where
    content_with : content_of (object ms)
        ≡ with_steps cpus ceiling (formed (values_of (object ms)) >>= steps_of [] first_context)
    content_with = content_is ∙ rw (k, c, g) refl

    pub steps_refused : (refusal : Refusal) → o.refusal ≡ Some refusal → Fails Memory refusal (content_of (object ms))
    steps_refused refusal r = by_answer (subst (λ r. Answers (λ r. r) (steps_with r o.steps.items o.context.names)
        (formed (values_of (object ms)) >>= steps_of [] first_context)) r is.steps)
      where
        by_answer : Fails Memory refusal (formed (values_of (object ms)) >>= steps_of [] first_context)
            → Fails Memory refusal (content_of (object ms))
        by_answer (inl memory) = inl memory
        by_answer (inr e) = inr (content_with ∙ ap (with_steps cpus ceiling) e)

    pub script_made : o.refusal ≡ None → content_of (object ms)
        ≡ Ok (record { cpus = cpus; ceiling = ceiling; names = o.context.names; steps = o.steps.items })
    script_made r = content_with ∙ ap (with_steps cpus ceiling) (steps_made r)

  pub steps_read : o.refusal ≡ None
      → (values : List Data) × (steps_of [] first_context values ≡ Ok (o.steps.items, o.context.names))
  steps_read r = values_are (values_of (object ms)) _ (steps_made r)

  pub steps_whole : o.refusal ≡ None → IsWellFormed o.steps.items (length o.context.names)
  steps_whole r = subst (λ r. AreWhole (steps_with r o.steps.items o.context.names)) r is.whole

  pub cpus_range : (cpus : ℕ) → o.cpus ≡ Some cpus → (1 ≤ cpus) × (cpus ≤ most_cpus)
  unfolding cpus_of
  cpus_range cpus c = between (get_member (codes "cpus") ms) (sym is.cpus ∙ c) where
    at_least : (n : ℕ) (b : Bool) → nat_le 1 n ≡ b → n ≤ most_cpus → (if b then Some n else None) ≡ Some cpus
        → (1 ≤ cpus) × (cpus ≤ most_cpus)
    at_least n true low high e = grind (arith, nat_tests)
    at_least n false low high e = absurd (cc)

    at_most_cpus : (n : ℕ) (b : Bool) → nat_le n most_cpus ≡ b
        → option_and_then (λ n. if nat_le 1 n then Some n else None) (if b then Some n else None) ≡ Some cpus
        → (1 ≤ cpus) × (cpus ≤ most_cpus)
    at_most_cpus n true high e = at_least n (nat_le 1 n) refl (grind (arith, nat_tests)) e
    at_most_cpus n false high e = absurd (cc)

    of_whole : (z : Option ℤ) → option_and_then (λ n. if nat_le 1 n then Some n else None)
        (option_and_then (at_most most_cpus) z) ≡ Some cpus → (1 ≤ cpus) × (cpus ≤ most_cpus)
    of_whole None e = absurd (cc)
    of_whole (Some (pos n)) e = at_most_cpus n (nat_le n most_cpus) refl e
    of_whole (Some (negsuc n)) e = absurd (cc)

    between : (d : Option Data) → option_and_then cpus_in d ≡ Some cpus → (1 ≤ cpus) × (cpus ≤ most_cpus)
    between None e = absurd (cc)
    between (Some d) e = of_whole (whole_in d) e

-- ---- the whole text

pub over : {A : Type 0} (a : A) (read : Option (A × List Token)) (rest : List Token) → read ≡ Some (a, rest) → rest ≡ []
    → ended read ≡ Some a
over a read rest e last = ap ended e ∙ ap (if_over a) last

pub not_over : {A : Type 0} (a : A) (read : Option (A × List Token)) (rest : List Token) → read ≡ Some (a, rest)
    → (rest ≡ [] → ⊥) → ended read ≡ None
not_over a read [] e more = absurd (more refl)
not_over a read (t ∷ ts) e more = ap ended e

pub shape_of : (d : Data) → has_keys d ≡ false → content_of d ≡ Err (ScriptShape 0)
unfolding content_of
shape_of d e = rw e refl

-- a value of the steps that is no list
pub no_steps_put : (o p : Object) (ms : Members) (d : Data) → IsObject o ms → as_array d ≡ None → p.known ≡ o.known
    → p.cpus ≡ o.cpus → p.ceiling ≡ o.ceiling → p.refusal ≡ Some (ScriptShape 0) → IsObject p (put (codes "steps") d ms)
no_steps_put o p ms d is none known cpus ceiling refusal =
    steps_put o p ms d is known cpus ceiling (rw (refusal, none) (inr refl)) (rw refusal tt)

-- what was read isn't all
module _ {A : Type 0} (read : Option (A × List Token)) (a : A) (rest : List Token) (is : read ≡ Some (a, rest)) where
  pub more_left : (r : Result Unit Stop) → MatchResult r (λ _. rest ≡ []) (λ stop. (stop ≡ NoJson) × ¬ (rest ≡ []))
      → IfErr r (Denies (ended read ≡ None))
  more_left (Ok u) last = tt
  more_left (Err e) more = rw more.0 (not_over a read rest is more.1)
