-- The steps of a script, taken one after another from the items that are left.
use Rattle.std.proofs.Common.{◌≡◌, ℕ, ◌+◌, ◌-◌, ◌<◌, ◌≤◌, List, [], ◌∷◌, ◌++◌, length, Option, Some, None, Result, Ok, Err, true}
use Rattle.std.proofs.Common.{false, inl, inr, ◌∙◌}
use Rattle.std.proofs.Common.{refl, ap, ap₂, sym, subst, arith}
use Rattle.std.specs.Bool.{MatchBool}
use Rattle.std.specs.Prelude.{Bool, is_some, option_map, nat_le, IfErr, MatchOption, OnOk, if◌then◌else◌}
use Rattle.std.proofs.lemmas.Bool.Decides.{nat_tests}
use Rattle.std.proofs.Math.ListN.{length-append}
use Rattle.json.specs.Token.{Token}
use Rattle.json.specs.Json.{parse_map, after_end_array, items, value}
use Rattle.serde_json.specs.Data.{Data, Items, no_items, item}
use Rattle.serde_json.specs.Read.{of_items, converted}
use Rattle.cyc_types.specs.declared.refusal.Refusal.{Refusal}
use Rattle.cyc_types.specs.declared.refusal.Refusal.TheVariants.{Memory, ScriptShape}
use Rattle.cyc_script.specs.declared.cause.Cause.{Cause}
use Rattle.cyc_script.specs.declared.cause.Cause.TheVariants as cause
use Rattle.cyc_script.specs.declared.context.Context.{Context}
use Rattle.cyc_script.specs.declared.step.Step.{Step}
use Rattle.cyc_script.specs.declared.stop.Stop.{Stop}
use Rattle.cyc_script.specs.declared.stop.Stop.TheVariants.{NoJson}
use Rattle.cyc_script.specs.declared.stop.Stop.TheVariants as stop
use Rattle.cyc_script.specs.Answers.{Fails, refusal_of_step}
use Rattle.cyc_script.specs.Limits.{most_steps}
use Rattle.cyc_script.specs.Steps.{Fits, first_context, step_of, steps_of}
use Rattle.cyc_script.specs.Script.{formed}
use Rattle.cyc_script.specs.Tokens.{BeginsWith, BeginsItems, Denies, HasItems, HasNoItems, HasSteps, IsRefusedStep, RefusesOn}
use Rattle.cyc_script.specs.Tokens.{ReadsStep, steps_with, values_on, values_read}
use Rattle.cyc_script.specs.WellFormed.{IsWellFormed, names_fit, names_after_all, moments_fit, moment_after_all, name_fits}
use Rattle.cyc_script.specs.WellFormed.{moment_fits}
use Rattle.cyc_script.specs.Words.{list_of, ◌>>=◌}
use Rattle.cyc_script.proofs.Grammar.{item_read, items_over, shorter}
use Rattle.cyc_script.proofs.Steps.{step_accepted, step_faulty, steps_end}
use Rattle.cyc_script.proofs.WellFormed.{names_after_all_push, names_fit_push, moment_after_all_push, moments_fit_push}
use Rattle.cyc_script.proofs.WellFormed.{names_after_at_most}

-- how many steps there are, and what they read as, where these were taken and the items are left
abbrev pub Taken : Type 0
Taken = Option ((ℕ × Result (List Step × List (List ℕ)) Refusal) × List Token)

abbrev pub taken : List Step → Context → Option (Items × List Token) → Taken
taken steps before read = option_map (λ p. ((length steps + length (list_of p.0), steps_of steps before (list_of p.0)), p.1)) read

pub one_taken : (steps : List Step) (before after : Context) (d : Data) (step : Step) → step_of before d ≡ Ok (step, after)
    → (read : Option (Items × List Token)) → taken steps before (parse_map (item d) read) ≡ taken (steps ++ step ∷ []) after read
one_taken steps before after d step e None = refl
one_taken steps before after d step e (Some p) =
    let rest = list_of p.0 in
    let count : length steps + length (d ∷ rest) ≡ length (steps ++ step ∷ []) + length rest =
    omega (arith, length-append steps (step ∷ [])) in
    ap₂ (λ k read. Some ((k, read), p.1)) count (step_accepted steps before after d rest step e)

pub none_left : (steps : List Step) (before : Context) (r : List Token)
    → taken steps before (Some (no_items, r)) ≡ Some ((length steps, Ok (steps, before.names)), r)
none_left steps before r =
    let count : length steps + 0 ≡ length steps = omega arith in
    ap₂ (λ k read. Some ((k, read), r)) count (steps_end steps before)

abbrev counted : Taken → ℕ
counted None = 0
counted (Some p) = p.0.0

abbrev kept : Result (List Step × List (List ℕ)) Refusal → Taken → Result (List Step × List (List ℕ)) Refusal
kept other None = other
kept other (Some p) = p.0.1

abbrev left_over : Taken → List Token
left_over None = []
left_over (Some p) = p.1

pub all_taken : (read : Option (Items × List Token)) (k : ℕ) (result : Result (List Step × List (List ℕ)) Refusal)
    (r : List Token) → taken [] first_context read ≡ Some ((k, result), r)
    → (ds : Items) × (read ≡ Some (ds, r)) × (length (list_of ds) ≡ k) × (steps_of [] first_context (list_of ds) ≡ result)
all_taken None k result r e = absurd (cc)
all_taken (Some p) k result r e =
    (p.0, ap (λ rest. Some (p.0, rest)) (ap left_over e), omega (arith, ap counted e), ap (kept result) e)

-- ---- what was denied

pub denied_more : (P Q : Type 0) → (P → Q) → (stop : Stop) → Denies P stop → Denies Q stop
denied_more P Q f NoJson fault = f fault
denied_more P Q f stop.Memory told = tt

pub if_denied : {A : Type 0} (r : Result A Stop) (P Q : Type 0) → (P → Q) → IfErr r (Denies P) → IfErr r (Denies Q)
if_denied (Ok a) P Q f told = tt
if_denied (Err stop) P Q f told = denied_more P Q f stop told

pub if_done : {A : Type 0} (r : Result A Stop) (P Q : Type 0) → (P → Q) → OnOk r P → OnOk r Q
if_done (Ok a) P Q f p = f p
if_done (Err stop) P Q f p = tt

-- ---- the steps that are left

limited : (b : Bool) (values : List Data) → formed (if b then Some values else None) >>= steps_of [] first_context
    ≡ (if b then steps_of [] first_context values else Err (ScriptShape 0))
limited true values = refl
limited false values = refl

-- those behind the steps that were taken make all of them
pub rest_taken : (tokens rest : List Token) (left : Option (Items × List Token)) (steps : List Step) (before : Context)
    (wanted : Result (List Step × List (List ℕ)) Refusal)
    → taken [] first_context (converted of_items (items (value 125) (length tokens) tokens)) ≡ taken steps before left
    → (ds : Items) × (left ≡ Some (ds, rest)) × (values_on steps before (list_of ds) ≡ wanted)
    → (ds : Items) × BeginsItems 125 tokens ds rest × (values_read (list_of ds) ≡ wanted)
rest_taken tokens rest left steps before wanted same has =
    let ds = list_of has.0 in
    let all = all_taken _ (length steps + length ds) (steps_of steps before ds) rest (same ∙ ap (taken steps before) has.1) in (
      all.0,
      all.1,
      limited (nat_le (length (list_of all.0)) most_steps) (list_of all.0)
          ∙ ap₂ (λ k read. if nat_le k most_steps then read else Err (ScriptShape 0)) all.2 all.3 ∙ has.2,
    )

-- what refuses those behind refuses all
pub rest_refused : (tokens rest : List Token) (n : ℕ) (left : List Token) (steps : List Step) (before : Context)
    (refusal : Refusal) → length left ≤ n
    → taken [] first_context (converted of_items (items (value 125) (length tokens) tokens))
    ≡ taken steps before (converted of_items (items (value 125) n left))
    → RefusesOn steps before left rest refusal → HasSteps tokens (Err refusal) rest
rest_refused tokens rest n left steps before refusal enough same refuses =
    let on = refuses n enough in
    let all = rest_taken tokens rest _ steps before _ same (on.0, on.1, refl) in
    (all.0, all.1, subst (Fails Memory refusal) (sym all.2) on.2)

-- ---- a step that is refused

many_on : (steps : List Step) (before : Context) (values : List Data) → most_steps < length steps + length values
    → values_on steps before values ≡ Err (ScriptShape 0)
many_on steps before values many =
    let none : nat_le (length steps + length values) most_steps ≡ false = grind (arith, nat_tests) in
    rw none refl

-- the first faulty step decides, whatever the others say
fault_on : (steps : List Step) (before : Context) (d : Data) (fault : Cause) → step_of before d ≡ Err fault
    → (values : List Data) (few : Bool) → MatchBool few (length steps + 1 + length values ≤ most_steps)
    (most_steps < length steps + 1 + length values)
    → values_on steps before (d ∷ values) ≡ Err (if few then refusal_of_step (length steps + 1) fault else ScriptShape 0)
fault_on steps before d fault faulty values true fits =
    let few : nat_le (length steps + length (d ∷ values)) most_steps ≡ true = grind (arith, nat_tests) in
    rw few (step_faulty steps before d values fault faulty)
fault_on steps before d fault faulty values false many = many_on steps before (d ∷ values) (omega (arith, many))

module _ (steps : List Step) (before : Context) (d : Data) (old new : List Token) (going : after_end_array old ≡ None)
    (begins : BeginsWith 125 old d new) where
  pub one_turn : (n : ℕ) → length old ≤ n → converted of_items (items (value 125) n old)
      ≡ parse_map (item d) (converted of_items (items (value 125) (n - 1) new))
  one_turn n enough = item_read (value 125) n old new d (omega (arith, enough, shorter 125 old new d begins)) going begins

  less : (n : ℕ) → length old ≤ n → length new ≤ n - 1
  less n enough = omega (arith, enough, shorter 125 old new d begins)

  -- so many behind the step
  behind : (most : ℕ) (few : Bool) (rest : List Token) (refusal : Refusal) → HasItems 125 most new few rest
      → ((values : List Data) → MatchBool few (length values ≤ most) (most < length values)
      → Fails Memory refusal (values_on steps before (d ∷ values))) → RefusesOn steps before old rest refusal
  behind most few rest refusal has fails n enough =
      let left = has (n - 1) (less n enough) in
      (item d left.0, one_turn n enough ∙ ap (parse_map (item d)) left.1, fails (list_of left.0) left.2)

  pub none_behind : HasNoItems 125 new → HasNoItems 125 old
  none_behind none n enough = one_turn n enough ∙ ap (parse_map (item d)) (none (n - 1) (less n enough))

  pub many_refused : length steps ≡ most_steps → (rest : List Token) (refused : Refusal)
      → IsRefusedStep 0 (ScriptShape 0) new rest refused → RefusesOn steps before old rest refused
  many_refused full rest refused (few, has, is) =
      let shape : refused ≡ ScriptShape 0 = is ∙ either few in
      behind 0 few rest refused has
      (λ values fits. inr (many_on steps before (d ∷ values) (omega (arith, full)) ∙ ap Err (sym shape)))
    where
      either : (b : Bool) → (if b then ScriptShape 0 else ScriptShape 0) ≡ ScriptShape 0
      either true = refl
      either false = refl

  -- the refusal of a faulty step, and that of its shape where too many stand behind it
  pub fault_refused : length steps < most_steps → (most : ℕ) → most ≡ most_steps - (length steps + 1) → (fault : Cause)
      (refusal : Refusal) → refusal ≡ refusal_of_step (length steps + 1) fault → Fails cause.Memory fault (step_of before d)
      → (rest : List Token) (refused : Refusal) → IsRefusedStep most refusal new rest refused
      → RefusesOn steps before old rest refused
  fault_refused some most left fault refusal at fails rest refused (false, has, e) =
      behind most false rest refused has
      (λ values is. inr (many_on steps before (d ∷ values) (omega (arith, left, some, is)) ∙ ap Err (sym e)))
  fault_refused some most left fault refusal at (inl memory) rest refused (true, has, e) =
      let same : refused ≡ Memory = e ∙ at ∙ ap (refusal_of_step (length steps + 1)) memory in
      behind most true rest refused has (λ values is. inl same)
  fault_refused some most left fault refusal at (inr faulty) rest refused (true, has, e) =
      behind most true rest refused has
      (λ values is.
      let on = fault_on steps before d fault faulty values true (omega (arith, left, some, is)) in
      inr (on ∙ ap Err (sym (e ∙ at))))

-- ---- what holds after each step

pub record Keeps (steps : List Step) (context : Context) : Type 0 where
  pub few_names : length context.names ≤ length steps
  pub introduced : names_after_all 0 steps ≡ length context.names
  pub names : names_fit 0 steps ≡ true
  pub clock : moment_after_all 0 steps ≡ context.moment
  pub moments : moments_fit 0 steps ≡ true

keeps_more : (steps : List Step) (before after : Context) (step : Step) → Fits before step after → Keeps steps before
    → Keeps (steps ++ step ∷ []) after
keeps_more steps before after step fits kept =
    let name : name_fits (names_after_all 0 steps) step ≡ true = rw kept.introduced fits.name in
    let moment : moment_fits (moment_after_all 0 steps) step ≡ true = rw kept.clock fits.moment in
    record {
      few_names = omega (
        arith,
        length-append steps (step ∷ []),
        fits.names,
        kept.few_names,
        names_after_at_most (length before.names) step,
      );
      introduced = rw (names_after_all_push 0 steps step, kept.introduced) (sym fits.names);
      names = names_fit_push 0 steps step kept.names name;
      clock = rw (moment_after_all_push 0 steps step, kept.clock) (sym fits.clock);
      moments = moments_fit_push 0 steps step kept.moments moment;
    }

module _ (old new : List Token) (steps longer : List Step) (before after : Context)
    (is : ReadsStep old new steps longer before after) where
  pub few_more : length longer ≤ most_steps
  few_more = rw is.pushed (omega (arith, is.few, length-append steps (is.step ∷ [])))

  pub keeps_step : Keeps steps before → Keeps longer after
  keeps_step kept = subst (λ steps. Keeps steps after) (sym is.pushed) (keeps_more steps before after is.step is.fits kept)

-- ---- all steps

few_read : (values : List Data) (read : Result (List Step × List (List ℕ)) Refusal) → length values ≤ most_steps
    → steps_of [] first_context values ≡ read → values_read values ≡ read
few_read values read few e = let fits : nat_le (length values) most_steps ≡ true = grind (arith, nat_tests) in rw (fits, e) refl

-- one step more
pub step_taken : (tokens old new : List Token) (n : ℕ) (steps longer : List Step) (before after : Context) → length old ≤ n
    → after_end_array old ≡ None → ReadsStep old new steps longer before after
    → taken [] first_context (converted of_items (items (value 125) (length tokens) tokens))
    ≡ taken steps before (converted of_items (items (value 125) n old))
    → taken [] first_context (converted of_items (items (value 125) (length tokens) tokens))
    ≡ taken longer after (converted of_items (items (value 125) (n - 1) new))
step_taken tokens old new n steps longer before after enough going is same =
    let next = converted of_items (items (value 125) (n - 1) new) in
    same
    ∙ ap (taken steps before) (one_turn steps before is.written old new going is.begins n enough)
    ∙ one_taken steps before after is.written is.step is.reads next ∙ ap (λ steps. taken steps after next) (sym is.pushed)

-- none more
pub end_taken : (tokens old new : List Token) (n : ℕ) (steps : List Step) (before : Context) → length old ≤ n
    → after_end_array old ≡ Some new → length steps ≤ most_steps
    → taken [] first_context (converted of_items (items (value 125) (length tokens) tokens))
    ≡ taken steps before (converted of_items (items (value 125) n old))
    → HasSteps tokens (Ok (steps, before.names)) new
end_taken tokens old new n steps before enough over few same =
    let left = items_over (value 125) n old new enough over in
    let all = all_taken _ _ _ new (same ∙ ap (taken steps before) left ∙ none_left steps before new) in
    (all.0, all.1, few_read (list_of all.0) _ (rw all.2 few) all.3)

pub taken_whole : (steps : List Step) (context : Context) → length steps ≤ most_steps → Keeps steps context
    → IsWellFormed steps (length context.names)
taken_whole steps context few kept = record {
  few_steps = few;
  names_introduced = kept.introduced;
  names_in_order = kept.names;
  moments_in_order = kept.moments;
}

-- ---- a refusal, if there is one

pub refused_steps : (tokens rest : List Token) (n : ℕ) (left : List Token) (steps : List Step) (before : Context)
    (refusal : Option Refusal) (others : List Step) (names : List (List ℕ)) (Takes : Type 0) → length left ≤ n
    → taken [] first_context (converted of_items (items (value 125) (length tokens) tokens))
    ≡ taken steps before (converted of_items (items (value 125) n left)) → is_some refusal ≡ true
    → MatchOption refusal Takes (λ refusal. RefusesOn steps before left rest refusal)
    → HasSteps tokens (steps_with refusal others names) rest
refused_steps tokens rest n left steps before None others names Takes enough same some refuses = absurd (cc)
refused_steps tokens rest n left steps before (Some refusal) others names Takes enough same some refuses =
    rest_refused tokens rest n left steps before refusal enough same refuses

pub takes_one : (refusal : Option Refusal) (Takes : Type 0) (Refuses : Refusal → Type 0) → is_some refusal ≡ false
    → MatchOption refusal Takes Refuses → Takes
takes_one None Takes Refuses none takes = takes
takes_one (Some refusal) Takes Refuses none refuses = absurd (cc)
