-- After a Clear of an id, and before its next Admit.
use Rattle.std.proofs.Common.{◌≡◌, ℕ, ◌+◌, eqb, Bool, true, false, cond, List, [], ◌∷◌, ◌++◌, refl, ap, ◌∙◌, arith, eq-eqb}
use Rattle.std.specs.Prelude.{Option, Some, None}
use Rattle.cyc_level.specs.declared.Event.{Event}
use Rattle.cyc_level.specs.declared.Event.TheVariants.{Admit, Expire, Lose, Publish, Take, Finish, Mark, Clear, Switch, Follow}
use Rattle.cyc_level.specs.Level.{AdmittedCyclic, SoftLevel, count_in, place_count}
use Rattle.cyc_level.specs.Lawful.{one_if_any, Lawful}
use Rattle.cyc_level.specs.Events.{admitted_cyclic, cyclic_after_expire, cyclic_after_lose, cyclic_after_finish, after_finish}
use Rattle.cyc_level.specs.Events.{reached, AllEnabled}
use Rattle.cyc_level.specs.Runs.{finishes, admissions, NothingFollowsClear}
use Rattle.cyc_level.proofs.Keeps.{always_lawful}
use Rattle.cyc_level.proofs.Maps.{mapped_none, cleared_none}

admitted_none : (b : Bool) (c : AdmittedCyclic) (o : Option AdmittedCyclic) (n : ℕ) → cond b 1 0 + n ≡ 0 → o ≡ None
    → cond b (Some c) o ≡ None
admitted_none true c o n h e = absurd (omega (arith, h))
admitted_none false c o n h e = e

finished_none : (h : Option ℕ) (l : SoftLevel) (id : ℕ) → l.cyclics id ≡ None → (after_finish h l).cyclics id ≡ None
finished_none None l id e = e
finished_none (Some a) l id e = mapped_none cyclic_after_finish (eqb id a) (l.cyclics id) e

-- an id that isn't admitted stands nowhere
stands_nowhere : (l : SoftLevel) → Lawful l → (id : ℕ) → l.cyclics id ≡ None → place_count l id ≡ 0
stands_nowhere l law id e = law.one_place id ∙ ap (λ o. one_if_any (count_in o)) e

module _ (ceiling id : ℕ) (earlier : List Event) where
  abbrev run : List Event → List Event
  run later = later ++ Clear id ∷ earlier

  none_after : (later : List Event) → AllEnabled ceiling (run later) → admissions id later ≡ 0
      → (reached ceiling (run later)).cyclics id ≡ None
  none_after [] on z = ap (λ b. cond b None ((reached ceiling earlier).cyclics id)) (eq-eqb id id refl)
  none_after (Admit a index ∷ es) on z = admitted_none (eqb id a) (admitted_cyclic index) ((reached ceiling (run es)).cyclics id)
      (admissions id es) z (none_after es on.1 (no_more (cond (eqb id a) 1 0) (admissions id es) z)) where
        no_more : (m n : ℕ) → m + n ≡ 0 → n ≡ 0
        no_more m n h = omega (arith, h)
  none_after (Expire a ∷ es) on z = mapped_none cyclic_after_expire (eqb id a) ((reached ceiling (run es)).cyclics id)
      (none_after es on.1 z)
  none_after (Lose a ∷ es) on z = mapped_none cyclic_after_lose (eqb id a) ((reached ceiling (run es)).cyclics id)
      (none_after es on.1 z)
  none_after (Publish ∷ es) on z = none_after es on.1 z
  none_after (Take ∷ es) on z = none_after es on.1 z
  none_after (Finish ∷ es) on z = finished_none (reached ceiling (run es)).drainer_hand (reached ceiling (run es)) id
      (none_after es on.1 z)
  none_after (Mark a ∷ es) on z = none_after es on.1 z
  none_after (Clear a ∷ es) on z = cleared_none (eqb id a) ((reached ceiling (run es)).cyclics id) (none_after es on.1 z)
  none_after (Switch bank ∷ es) on z = none_after es on.1 z
  none_after (Follow ∷ es) on z = none_after es on.1 z

  nowhere_after : (later : List Event) → AllEnabled ceiling (run later) → admissions id later ≡ 0
      → place_count (reached ceiling (run later)) id ≡ 0
  nowhere_after es on z = stands_nowhere (reached ceiling (run es)) (always_lawful ceiling (run es) on) id (none_after es on z)

  no_finish : (later : List Event) → AllEnabled ceiling (run later) → admissions id later ≡ 0
      → finishes ceiling id (run later) ≡ finishes ceiling id earlier
  no_finish [] on z = refl
  no_finish (Admit a index ∷ es) on z = no_finish es on.1 (no_more (cond (eqb id a) 1 0) (admissions id es) z) where
    no_more : (m n : ℕ) → m + n ≡ 0 → n ≡ 0
    no_more m n h = omega (arith, h)
  no_finish (Expire a ∷ es) on z = no_finish es on.1 z
  no_finish (Lose a ∷ es) on z = no_finish es on.1 z
  no_finish (Publish ∷ es) on z = no_finish es on.1 z
  no_finish (Take ∷ es) on z = no_finish es on.1 z
  no_finish (Finish ∷ es) on z = let h = no_finish es on.1 z in let p = nowhere_after es on.1 z in omega (arith, h, p)
  no_finish (Mark a ∷ es) on z = no_finish es on.1 z
  no_finish (Clear a ∷ es) on z = no_finish es on.1 z
  no_finish (Switch bank ∷ es) on z = no_finish es on.1 z
  no_finish (Follow ∷ es) on z = no_finish es on.1 z

pub nothing_follows : NothingFollowsClear
nothing_follows ceiling id later earlier on z =
    (nowhere_after ceiling id earlier later on z, no_finish ceiling id earlier later on z)
