-- A run gives no more ids than its steps introduce names.
use Rattle.std.proofs.Common.{◌≡◌, ℕ, zero, suc, ◌+◌, ◌≤◌, List, [], ◌∷◌, ◌++◌, length, take, Option, Some, None, refl, ap}
use Rattle.std.proofs.Common.{◌∙◌, arith}
use Rattle.std.specs.Prelude.{string_bytes}
use Rattle.std.proofs.lemmas.List.{length-map, length-set, length-replicate}
use Rattle.cyc_types.specs.declared.refusal.Refusal.{Refusal}
use Rattle.cyc_script.specs.declared.script.Script.{Script}
use Rattle.cyc_script.specs.declared.step.Step.{Step}
use Rattle.cyc_script.specs.declared.step.Step.TheVariants.{Add, Omni, Bind, Unbind, Reprogram, Remove, Advance, Softint, Juggle}
use Rattle.cyc_script.specs.declared.step.Step.TheVariants.{Offline, Online, Suspend, Resume}
use Rattle.cyc_script.specs.WellFormed.{names_after, names_after_all}
use Rattle.cyc_model.specs.Laws.{RiseTo}
use Rattle.cyc_model.specs.Questions.{plain}
use Rattle.cyc_model.specs.State.{State, Placed, OnAll, cpus_online}
use Rattle.cyc_model.specs.Places.{given}
use Rattle.cyc_model.specs.Omni.{everywhere}
use Rattle.cyc_model.specs.Refusals.{unless}
use Rattle.cyc_model.specs.Script.{refusal_of, does, word, steps_from, start, text_in, names_of, run_on}
use Rattle.cyc_model.proofs.Still.{Still, still_bind, still_fires, still_enters, still_juggle, still_offline, still_online}
use Rattle.cyc_model.proofs.Still.{still_remove, still_softint}
use Rattle.cyc_replay.specs.Machine.{IsNamed, HasName}
use Rattle.cyc_replay.specs.Runs.{HaveNames}

-- ---- a step

-- there are as many names as before, and an id is given to a name that the step introduces at most
pub record Introduces (x : Step) (s t : State) : Type 0 where
  pub names : length t.names ≡ length s.names
  pub last : t.last_id ≤ names_after s.last_id x

-- no name was introduced
still_there : (x : Step) (s t : State) → names_after s.last_id x ≡ s.last_id → Still s t → Introduces x s t
still_there x s t none still = record {
  names = ap length still.names;
  last = let h = still.last in omega (arith, h, none);
}

same_there : (x : Step) (s t : State) → names_after s.last_id x ≡ s.last_id → t.names ≡ s.names → t.last_id ≡ s.last_id
    → Introduces x s t
same_there x s t none names last = record { names = ap length names; last = omega (arith, last, none) }

-- a step does not take names back
no_fewer : (n : ℕ) (x : Step) → n ≤ names_after n x
no_fewer n (Add a) = omega arith
no_fewer n (Omni a) = omega arith
no_fewer n x = omega arith

module _ (texts : List (List ℕ)) (f : ℕ → ℕ) (step : ℕ) (s : State) where
  pub introduces_does : (x : Step) → Introduces x s (does plain texts f step x s).state
  introduces_does (Add a) = record { names = length-set s.names a.name (s.last_id + 1); last = omega arith }
  introduces_does (Omni a) =
      let t = given a.name (OnAll (everywhere a)) s in
      let h = still_enters f (s.last_id + 1) (everywhere a) (cpus_online t) t in
      record {
        names = ap length h.names ∙ length-set s.names a.name (s.last_id + 1);
        last = let same = h.last in omega (arith, same);
      }
  introduces_does (Bind b) = still_there (Bind b) s (does plain texts f step (Bind b) s).state refl (still_bind f step b s)
  introduces_does (Unbind name) = same_there (Unbind name) s (does plain texts f step (Unbind name) s).state refl refl refl
  introduces_does (Reprogram r) = same_there (Reprogram r) s (does plain texts f step (Reprogram r) s).state refl refl refl
  introduces_does (Remove name) =
      still_there (Remove name) s (does plain texts f step (Remove name) s).state refl
      (still_remove step (text_in texts name) name s)
  introduces_does (Advance now) =
      let t = record s { clock = now } in
      let h = still_fires now (cpus_online t) t in
      same_there (Advance now) s (does plain texts f step (Advance now) s).state refl h.names h.last
  introduces_does (Softint i) =
      still_there (Softint i) s (does plain texts f step (Softint i) s).state refl (still_softint texts step i s)
  introduces_does (Juggle n) = still_there (Juggle n) s (does plain texts f step (Juggle n) s).state
      refl (still_juggle f step n s)
  introduces_does (Offline n) =
      still_there (Offline n) s (does plain texts f step (Offline n) s).state refl (still_offline f step n s)
  introduces_does (Online n) = still_there (Online n) s (does plain texts f step (Online n) s).state
      refl (still_online f step n s)
  introduces_does Suspend = same_there Suspend s (does plain texts f step Suspend s).state refl refl refl
  introduces_does Resume = same_there Resume s (does plain texts f step Resume s).state refl refl refl

  introduces_word : (x : Step) → Introduces x s (word plain texts f step x s).state
  introduces_word x = by (refusal_of plain x s)
    where
      by : (o : Option Refusal) → Introduces x s (unless o step x (does plain texts f step x) s).state
      by None = introduces_does x
      by (Some why) = record { names = refl; last = no_fewer s.last_id x }

-- ---- steps

-- more names before, no fewer after
as_many_after : (a b : ℕ) (x : Step) → a ≤ b → names_after a x ≤ names_after b x
as_many_after a b (Add it) low = omega (arith, low)
as_many_after a b (Omni it) low = omega (arith, low)
as_many_after a b x low = low

all_after : (a b : ℕ) (xs : List Step) → a ≤ b → names_after_all a xs ≤ names_after_all b xs
all_after a b [] low = low
all_after a b (x ∷ xs) low = all_after (names_after a x) (names_after b x) xs (as_many_after a b x low)

none_fewer : (n : ℕ) (xs : List Step) → n ≤ names_after_all n xs
none_fewer n [] = omega arith
none_fewer n (x ∷ xs) =
    let one = no_fewer n x in let rest = none_fewer (names_after n x) xs in omega (arith, one, rest)

-- the first of some introduce no more than all
pub first_introduce : (n i : ℕ) (xs : List Step) → names_after_all n (take i xs) ≤ names_after_all n xs
first_introduce n zero [] = omega arith
first_introduce n zero (x ∷ xs) = none_fewer n (x ∷ xs)
first_introduce n (suc i) [] = omega arith
first_introduce n (suc i) (x ∷ xs) = first_introduce (names_after n x) i xs

introduces_steps : (texts : List (List ℕ)) (f : ℕ → ℕ) (step : ℕ) (xs : List Step) (s : State)
    → (length (steps_from plain texts f step xs s).state.names ≡ length s.names)
    × ((steps_from plain texts f step xs s).state.last_id ≤ names_after_all s.last_id xs)
introduces_steps texts f step [] s = (refl, omega arith)
introduces_steps texts f step (x ∷ xs) s =
    let t = (word plain texts f step x s).state in
    let one = introduces_word texts f step s x in
    let rest = introduces_steps texts f (step + 1) xs t in (
      rest.0 ∙ one.names,
      let a = rest.1 in let b = all_after t.last_id (names_after s.last_id x) xs one.last in omega (arith, a, b),
    )

-- a step more
after_more : (n : ℕ) (xs : List Step) (x : Step) → names_after_all n (xs ++ x ∷ []) ≡ names_after (names_after_all n xs) x
after_more n [] x = refl
after_more n (y ∷ xs) x = after_more (names_after n y) xs x

-- no more ids were given than there are names
pub run_named : (f : ℕ → ℕ) (cpus ceiling : ℕ) (texts : List (List ℕ)) (steps : List Step)
    → names_after_all 0 steps ≤ length texts → IsNamed (run_on f cpus ceiling texts steps).state
run_named f cpus ceiling texts steps few =
    let h = introduces_steps texts f 1 steps (start cpus ceiling (length texts)) in
    let long : length (start cpus ceiling (length texts)).names ≡ length texts = length-replicate (length texts) 0 in
    let names = h.0 in let last = h.1 in omega (arith, names, last, long, few)

-- where a step more introduces no more names than there are, those before it introduce no more either
pub fewer_before : (texts : List (List ℕ)) (steps : List Step) (x : Step) → HaveNames texts (steps ++ x ∷ [])
    → HaveNames texts steps
fewer_before texts steps x few =
    let more = after_more 0 steps x in let one = no_fewer (names_after_all 0 steps) x in omega (arith, few, more, one)

-- and there is a name for the id that it gives
pub run_has_name : (f : ℕ → ℕ) (cpus ceiling : ℕ) (texts : List (List ℕ)) (steps : List Step) (x : Step)
    → HaveNames texts (steps ++ x ∷ []) → HasName x (run_on f cpus ceiling texts steps).state
run_has_name f cpus ceiling texts steps x few =
    let s = (run_on f cpus ceiling texts steps).state in
    let h = introduces_steps texts f 1 steps (start cpus ceiling (length texts)) in
    let long : length (start cpus ceiling (length texts)).names ≡ length texts = length-replicate (length texts) 0 in
    let names = h.0 in let more = after_more 0 steps x in
    let last = as_many_after s.last_id (names_after_all 0 steps) x h.1 in omega (arith, names, last, long, few, more)

-- the steps of a script introduce no more names than it has
pub all_names : (script : Script) → HaveNames (names_of script) script.steps.items
all_names script =
    let all = script.well_formed.names_introduced in let long = length-map script.names.items string_bytes in
    omega (arith, all, long)

-- nor do the first of them
pub names_so_far : (script : Script) (i : ℕ) → HaveNames (names_of script) (take i script.steps.items)
names_so_far script i =
    let first = first_introduce 0 i script.steps.items in let all = all_names script in omega (arith, first, all)

-- ---- where cyclics are

-- rising ids are no more than the last of them
pub few_placed : (low high : ℕ) (ps : List Placed) → RiseTo low ps high → low + length ps ≤ high
few_placed low high [] rise = omega (arith, rise)
few_placed low high (p ∷ ps) rise =
    let one = rise.0 in let rest = few_placed p.id high ps rise.1 in omega (arith, one, rest)
