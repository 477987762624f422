-- A whole script.
use Rattle.std.proofs.Common.{◌≡◌, ℕ, zero, suc, ◌+◌, ◌<◌, Bool, true, false, cond, List, [], ◌∷◌, length, refl}
use Rattle.std.proofs.Common.{ap, sym, ◌∙◌, subst, arith, Option, Some, None, inl}
use Rattle.std.specs.Prelude.{replicate, slice_index_or, is_some, not, ◌&&◌, string_bytes}
use Rattle.std.proofs.lemmas.List.{length-map}
use Rattle.cyc_types.specs.declared.refusal.Refusal.{Refusal}
use Rattle.cyc_script.specs.declared.step.Step.{Step}
use Rattle.cyc_model.specs.Questions.{plain}
use Rattle.cyc_model.specs.State.{State, cpus_from, absent}
use Rattle.cyc_model.specs.Cpu.{begun_cpu}
use Rattle.cyc_model.specs.Places.{id_of}
use Rattle.cyc_model.specs.Refusals.{after_refusal, unless}
use Rattle.cyc_model.specs.Report.{expired_here}
use Rattle.cyc_model.specs.Script.{refusal_of, does, steps_from, start, run_of, names_of}
use Rattle.cyc_model.proofs.Totals.{expired_in}
use Rattle.cyc_model.proofs.Reaching.{start_good, none_ended, sum_of_none}
use Rattle.cyc_expected.specs.Course.{Told, Idle, told_after, told_by, untold}
use Rattle.cyc_expected.specs.Expected.{event_of, course_events, clock_after}
use Rattle.cyc_expected.specs.Way.{is_done, way_from}
use Rattle.cyc_expected.specs.Expired.{ExpiredAsExpected}
use Rattle.cyc_expected.proofs.Naming.{Ready, ready_does, ready_refused, names_last, AllWithin, all_within}
use Rattle.cyc_expected.proofs.Ups.{Ups, ups_does}
use Rattle.cyc_expected.proofs.Follows.{Follows, follows_does, follows_refused, undone, clock_does}

module _ (texts : List (List ℕ)) (f : ℕ → ℕ) (name : ℕ) where
  -- the machine that these steps leave, and what is told of them
  abbrev left : ℕ → List Step → State → ℕ
  left step xs s =
      expired_in (id_of name (steps_from plain texts f step xs s).state) (steps_from plain texts f step xs s).state

  abbrev told : ℕ → List Step → ℕ → State → Told → ℕ
  told step xs clock s u = (told_by (course_events name clock (way_from f texts step xs s)) u).expired

  -- what the other steps come to
  abbrev Rest : ℕ → List Step → Type 0
  Rest step xs = (t : State) (v : Told) → Ready t → AllWithin (length t.names) xs → Ups v.online t
      → Follows name t v.course v.expired
      → left step xs t ≡ told step xs t.clock t v

  follows_steps : (xs : List Step) (step : ℕ) (s : State) (u : Told) → Ready s → AllWithin (length s.names) xs
      → Ups u.online s → Follows name s u.course u.expired → left step xs s ≡ told step xs s.clock s u
  follows_steps [] step s u h in_ ups c = c.expired_is
  follows_steps (x ∷ xs) step s u h in_ ups c =
      by (λ t v ready within up k. follows_steps xs (step + 1) t v ready within up k) (refusal_of plain x s) refl
    where
      -- what is told after the step, by whether it was done
      done : Rest (step + 1) xs → (b : Bool) → refusal_of plain x s ≡ None → is_done x (does plain texts f step x s).state ≡ b
          → left (step + 1) xs (does plain texts f step x s).state
          ≡ (told_by (cond b (event_of name s.clock x ∷ course_events name (clock_after x s.clock)
          (way_from f texts (step + 1) xs (does plain texts f step x s).state))
          (course_events name (clock_after x s.clock)
          (way_from f texts (step + 1) xs (does plain texts f step x s).state))) u).expired
      done rest true why is =
          let t = (does plain texts f step x s).state in
          let v = told_after (event_of name s.clock x) u in
          rest t v (ready_does texts f step s h x in_.0 why)
          (subst (λ n. AllWithin n xs) (sym (names_last texts f step s h x)) in_.1)
          (ups_does texts f step s h.good name x why is u ups)
          (follows_does texts f step name s h x why is in_.0 u ups c)
          ∙ ap (λ clock. told (step + 1) xs clock t v) (clock_does texts f step name s h x)
      done rest false why is =
          let t = (does plain texts f step x s).state in
          let k = undone texts f step name s h x why is u ups c in
          rest t u (ready_does texts f step s h x in_.0 why)
          (subst (λ n. AllWithin n xs) (sym (names_last texts f step s h x)) in_.1) k.1 k.0
          ∙ ap (λ clock. told (step + 1) xs clock t u) (clock_does texts f step name s h x)

      by : Rest (step + 1) xs → (o : Option Refusal) → refusal_of plain x s ≡ o
          → left (step + 1) xs (unless o step x (does plain texts f step x) s).state
          ≡ (told_by (cond (not (is_some o) && is_done x (unless o step x (does plain texts f step x) s).state)
          (event_of name s.clock x ∷ course_events name (clock_after x s.clock)
          (way_from f texts (step + 1) xs (unless o step x (does plain texts f step x) s).state))
          (course_events name (clock_after x s.clock)
          (way_from f texts (step + 1) xs (unless o step x (does plain texts f step x) s).state)))
          u).expired
      by rest None why = done rest (is_done x (does plain texts f step x s).state) why refl
      by rest (Some r) why = rest (after_refusal x s) u (ready_refused x s h) in_.1 (record { long = ups.long; up = ups.up })
          (follows_refused x name s u.course u.expired c)

-- ---- the machine as it begins

no_id : (names k : ℕ) → slice_index_or (replicate names zero) k zero ≡ zero
no_id zero k = refl
no_id (suc names) zero = refl
no_id (suc names) (suc k) = no_id names k

length_names : (names : ℕ) → length (replicate names zero) ≡ names
length_names zero = refl
length_names (suc names) = ap suc (length_names names)

start_expired : (cpus ceiling names id : ℕ) → expired_in id (start cpus ceiling names) ≡ 0
start_expired cpus ceiling names id =
    let e = none_ended (cpus_from 0 (λ c. true) (replicate cpus (begun_cpu ceiling))) in
    let a = sum_of_none (expired_here id) ceiling cpus refl in omega (arith, e, a)

start_ready : (cpus ceiling names : ℕ) → 0 < cpus → Ready (start cpus ceiling names)
start_ready cpus ceiling names some = record {
  good = start_good cpus ceiling names some;
  low = λ j. let z = no_id names j in omega (arith, z);
  apart = λ j k ne e. no_id names j;
  fresh = λ id above. start_expired cpus ceiling names id;
}

up_at : (ceiling cpus m : ℕ) → slice_index_or (replicate cpus true) m false
    ≡ (slice_index_or (replicate cpus (begun_cpu ceiling)) m absent).online
up_at ceiling zero m = refl
up_at ceiling (suc cpus) zero = refl
up_at ceiling (suc cpus) (suc m) = up_at ceiling cpus m

as_many_ups : (ceiling cpus : ℕ) → length (replicate cpus true) ≡ length (replicate cpus (begun_cpu ceiling))
as_many_ups ceiling zero = refl
as_many_ups ceiling (suc cpus) = ap suc (as_many_ups ceiling cpus)

start_ups : (cpus ceiling names : ℕ) → Ups (replicate cpus true) (start cpus ceiling names)
start_ups cpus ceiling names = record { long = as_many_ups ceiling cpus; up = up_at ceiling cpus }

start_follows : (cpus ceiling names name : ℕ) → Follows name (start cpus ceiling names) Idle 0
start_follows cpus ceiling names name = record {
  course_is = let z = no_id names name in inl (omega (arith, z), refl);
  expired_is = start_expired cpus ceiling names (id_of name (start cpus ceiling names));
}

pub expired_as_expected : ExpiredAsExpected
unfolding run_of
expired_as_expected indexes script name =
    let cpus = script.cpus_in_range.0 in
    let texts = names_of script in
    let names = length texts in
    let some : 0 < script.cpus = omega (arith, cpus) in
    let introduced = script.well_formed.names_introduced in
    let few = length-map script.names.items string_bytes in
    let within = all_within names 0 script.steps.items script.well_formed.names_in_order (omega (arith, introduced, few)) in
    follows_steps texts indexes name script.steps.items 1 (start script.cpus script.ceiling names) (untold script.cpus)
    (start_ready script.cpus script.ceiling names some)
    (subst (λ n. AllWithin n script.steps.items) (sym (length_names names)) within.1)
    (start_ups script.cpus script.ceiling names)
    (start_follows script.cpus script.ceiling names name)
