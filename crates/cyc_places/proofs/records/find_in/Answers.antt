use Rattle.std.proofs.Common.{Option, Result, Ok, Err, IfErr, IfNone, ℕ, ◌≡◌, ◌<◌, ◌≤◌, ◌++◌, length, get_or, sym, ap, subst, ◌∙◌}
use Rattle.std.proofs.Common.{arith}
use Rattle.std.specs.Result.{result_ok}
use Rattle.std.proofs.lemmas.Option.{slice_get_within, slice_get-get_or, get_or_from_slice_get, none-some}
use Rattle.cyc_places.proofs.Edits.{id_of}
use Rattle.cyc_places.proofs.Halves.{IsRunOf, front_run, back_run, run_rises, found_in_run, absent_in_run}
use Rattle.cyc_places.proofs.records.find_in.Goals.{Then-number, In_default}
use Rattle.cyc_places.proofs.records.find_in.Goals.{in_default-via-in-Some+else-number, in_default-via-in_default}
use Rattle.cyc_places.proofs.records.find_in.Goals as goal

back_is : (c : Then-number) → IsRunOf (c.args.front.now ++ c.args.back.now) c.args.back.now c.args.id (length c.args.front.now)
back_is c =
    let is = sym c.in-Some.ensures.value in
    let most : c.in-Some.first.now.id ≤ c.args.id = omega arith in
    back_run c.args.front.now c.args.back.now c.requires.rises c.args.id
    (slice_get_within c.args.back.now 0 c.in-Some.first.now is)
    (λ d. let e = ap id_of (get_or_from_slice_get c.args.back.now 0 c.in-Some.first.now d is) in omega (arith, e, most))

front_is : (c : In_default) → IsRunOf (c.args.front.now ++ c.args.back.now) c.args.front.now c.args.id 0
front_is c = front_run c.args.front.now c.args.back.now c.requires.rises c.args.id (λ d filled. elim c.in_default.branch [
  | in_default-via-in-Some+else-number v ↦
      let e = ap id_of (get_or_from_slice_get c.args.back.now 0 v.in-Some.first.now d (sym v.in-Some.ensures.value)) in
      let less : c.args.id < v.in-Some.first.now.id = omega arith in omega (arith, e, less)
  | in_default-via-in_default v ↦
      absurd (none-some (get_or c.args.back.now 0 d)
      (v.in_default.ensures.value ∙ slice_get-get_or c.args.back.now 0 d filled))
])

absent_where : (r : Result ℕ ℕ) (o : Option ℕ) (P : ℕ → Type 0) (Q : Type 0) → o ≡ result_ok r → IfErr r P
    → ((k : ℕ) → P k → Q) → IfNone o Q
absent_where (Ok k) o P Q is gap to = subst (λ o. IfNone o Q) (sym is) tt
absent_where (Err k) o P Q is gap to = subst (λ o. IfNone o Q) (sym is) (to k gap)

pub search-requires : goal.search-requires
search-requires c =
    run_rises (c.args.front.now ++ c.args.back.now) c.args.back.now c.args.id (length c.args.front.now) (back_is c)
    c.requires.rises

pub search-requires-in_default : goal.search-requires-in_default
search-requires-in_default c = run_rises (c.args.front.now ++ c.args.back.now) c.args.front.now c.args.id 0 (front_is c)
    c.requires.rises

pub returns-in_default-clause-none : goal.returns-in_default-clause-none
returns-in_default-clause-none c =
    let s = (goal.at.returns-in_default-clause-none c).In_default in
    absent_where c.search-in_default.result c.ok.result _ _ c.ok.ensures.value c.search-in_default.ensures.absent
    (absent_in_run (s.args.front.now ++ s.args.back.now) s.args.front.now s.args.id 0 (front_is s))

pub returns-in-Err-clause-none : goal.returns-in-Err-clause-none
returns-in-Err-clause-none c =
    let s = (goal.at.returns-in-Err-clause-none c).Then-number in
    absent_in_run (s.args.front.now ++ s.args.back.now) s.args.back.now s.args.id (length s.args.front.now) (back_is s)
    c.in-Err.field-0 c.in-Err.ensures.absent

pub returns-in-Ok-clause-some : goal.returns-in-Ok-clause-some
returns-in-Ok-clause-some c =
    let s = (goal.at.returns-in-Ok-clause-some c).Then-number in
    found_in_run (s.args.front.now ++ s.args.back.now) s.args.back.now s.args.id (length s.args.front.now) (back_is s)
    c.in-Ok.position c.in-Ok.ensures.found
