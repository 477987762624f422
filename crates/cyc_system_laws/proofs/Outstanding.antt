-- What calls of the two sides of a level do to the outstanding calls of an id, where no other thread uses the level.
use Rattle.std.proofs.Common.{◌≡◌, ◌∙◌, ◌==◌, ℕ, ◌+◌, Bool, true, false, cond, Option, Some, None, List, [], ◌∷◌, refl, sym, ap}
use Rattle.std.proofs.Common.{subst, arith}
use Rattle.std.specs.Option.{option_map}
use Rattle.std.specs.List.{FoldsTo}
use Rattle.cyc_types.specs.Counting.{one_at}
use Rattle.cyc_types.specs.Draining.{DrainCall, Takes, Finishes}
use Rattle.cyc_types.specs.Firing.{FiringCall, Admits, Loads, Raises, Marks, Polls, Expands, Looks}
use Rattle.cyc_types.specs.Runs.{Goes, raises_in_call, losses_in_call, raised_by, lost_by, finished_by}
use Rattle.cyc_types.proofs.Runs.{finished_on}
use Rattle.cyc_types.specs.declared.firing.Raised.TheVariants.{First, More, Lost}
use Rattle.cyc_level.specs.declared.Event.{Event}
use Rattle.cyc_level.specs.declared.Event.TheVariants.{Admit, Expire, Lose, Finish, Mark, Clear, Switch}
use Rattle.cyc_level.specs.Level.{AdmittedCyclic, SoftLevel, count_in, count}
use Rattle.cyc_level.specs.Lawful.{Lawful}
use Rattle.cyc_level.specs.Events.{Enabled, admitted_cyclic, cyclic_after_expire, cyclic_after_lose, cyclic_after_finish}
use Rattle.cyc_level.specs.Events.{after_finish, after}
use Rattle.cyc_level.proofs.Keeps.{keeps_law}
use Rattle.cyc_level.proofs.Maps.{some_and}
use Rattle.cyc_core.specs.Tables.{Tables, level_of}
use Rattle.cyc_core.specs.Reached.{Happens}
use Rattle.cyc_core.specs.FiringSide.{FiringDoes}
use Rattle.cyc_core.specs.DrainingSide.{take_events, Drains}
use Rattle.cyc_core.proofs.Changes.{held_cyclic}
use Rattle.cyc_cpu.specs.Soft.{raise_tables}
use Rattle.cyc_cpu_laws.specs.Cores.{LevelCall, OfFiring, OfSoft, LevelDoes, firing_calls, soft_calls}
use Rattle.cyc_system.proofs.Lists.{eq_true, true_eq, false_ne, false_true}

-- ---- a lawful level stays so

pub happens_law : (l m : SoftLevel) (event : Event) → Happens l event m → Lawful l → Lawful m
happens_law l m event (enabled, is) law = subst Lawful (sym is) (keeps_law l law event enabled)

folds_law : (l m : SoftLevel) (events : List Event) → FoldsTo Happens l events m → Lawful l → Lawful m
folds_law l m [] run law = subst Lawful run law
folds_law l m (event ∷ events) (k, first, rest) law = folds_law k m events rest (happens_law l k event first law)

fires_law : (l m : SoftLevel) (call : FiringCall) → FiringDoes l call m → Lawful l → Lawful m
fires_law l m (Admits id index) d law = happens_law l m (Admit id index) d law
fires_law l m (Loads id pend) d law = subst Lawful (sym d.1) law
fires_law l m (Raises id answer) d law = folds_law l m _ d.0 law
fires_law l m (Marks id pend) d law = happens_law l m (Mark id) d.1 law
fires_law l m (Polls id None) d law = subst Lawful (sym d.1) law
fires_law l m (Polls id (Some counts)) d law = happens_law l m (Clear id) d.1 law
fires_law l m (Expands bank) d law = happens_law l m (Switch bank) d law
fires_law l m (Looks answer) d law = subst Lawful (sym d.1) law

drains_law : (l m : SoftLevel) (call : DrainCall) → Drains l call m → Lawful l → Lawful m
drains_law l m (Takes answer) d law = folds_law l m _ d.0 law
drains_law l m (Finishes id answer) d law = happens_law l m Finish d.1 law

does_law : (a b : Tables) (call : LevelCall) → LevelDoes a call b → Lawful (level_of a) → Lawful (level_of b)
does_law a b (OfFiring call) d law = fires_law (level_of a) (level_of b) call d.0 law
does_law a b (OfSoft call) d law = drains_law (level_of a) (level_of b) call d law

pub way_law : (a b : Tables) (way : List LevelCall) → FoldsTo LevelDoes a way b → Lawful (level_of a) → Lawful (level_of b)
way_law a b [] run law = subst (λ (x : Tables). Lawful (level_of x)) run law
way_law a b (call ∷ way) (m, first, rest) law = way_law m b way rest (does_law a m call first law)

pub goes_law : (a b : Tables) (way : List FiringCall) → Goes raise_tables a way b → Lawful (level_of a) → Lawful (level_of b)
goes_law a b [] run law = subst (λ (x : Tables). Lawful (level_of x)) run law
goes_law a b (call ∷ way) (m, first, rest) law = goes_law m b way rest (fires_law (level_of a) (level_of m) call first.0 law)

-- ---- the outstanding calls of an id
module _ (id : ℕ) where
  admits : (l : SoftLevel) (own index : ℕ) → l.cyclics own ≡ None → count (after (Admit own index) l) id ≡ count l id
  admits l own index none = by (id == own) refl
    where
      by : (b : Bool) → (id == own) ≡ b
          → count_in (cond b (Some (admitted_cyclic index)) (l.cyclics id)) ≡ count_in (l.cyclics id)
      by true is = sym (ap count_in (ap l.cyclics (eq_true id own is) ∙ none))
      by false is = refl

  expires : (l : SoftLevel) (own : ℕ) → Enabled (Expire own) l → count (after (Expire own) l) id ≡ count l id + one_at id own
  expires l own enabled = by (id == own) refl
    where
      by : (b : Bool) → (id == own) ≡ b
          → count_in (cond b (option_map cyclic_after_expire (l.cyclics id)) (l.cyclics id))
          ≡ count_in (l.cyclics id) + cond b 1 0
      by true is =
          (let (c, here, below) = some_and _ (l.cyclics own) enabled.2 in
          let e = ap l.cyclics (eq_true id own is) ∙ here in
          let x = ap (λ o. count_in (option_map cyclic_after_expire o)) e in let y = ap count_in e in omega (arith, x, y))
      by false is = omega arith

  loses : (l : SoftLevel) (own : ℕ) → count (after (Lose own) l) id ≡ count l id
  loses l own = by (id == own) (l.cyclics id)
    where
      by : (b : Bool) (o : Option AdmittedCyclic) → count_in (cond b (option_map cyclic_after_lose o) o) ≡ count_in o
      by true None = refl
      by true (Some c) = refl
      by false o = refl

  clears : (l : SoftLevel) (own : ℕ) → count l own ≡ 0 → count (after (Clear own) l) id ≡ count l id
  clears l own none = by (id == own) refl
    where
      by : (b : Bool) → (id == own) ≡ b → count_in (cond b None (l.cyclics id)) ≡ count_in (l.cyclics id)
      by true is = sym (ap (count l) (eq_true id own is) ∙ none)
      by false is = refl

  -- one call less of the id that was in the hand
  finishes : (l : SoftLevel) (own : ℕ) → Lawful l → l.drainer_hand ≡ Some own
      → count (after Finish l) id + cond (own == id) 1 0 ≡ count l id
  finishes l own law held =
      let e = ap (λ hand. count (after_finish hand l) id) held in
      let f : count (after_finish (Some own) l) id + cond (own == id) 1 0 ≡ count l id = by (id == own) refl in
      omega (arith, e, f)
    where
      by : (b : Bool) → (id == own) ≡ b
          → count_in (cond b (option_map cyclic_after_finish (l.cyclics id)) (l.cyclics id)) + cond (own == id) 1 0
          ≡ count_in (l.cyclics id)
      by true is =
          (let (c, here, some) = held_cyclic l law own held in let same = eq_true id own is in
          let e = ap l.cyclics same ∙ here in
          let x = ap (λ o. count_in (option_map cyclic_after_finish o)) e in let y = ap count_in e in
          let z = ap (λ b. cond {A = ℕ} b 1 0) (true_eq own id (sym same)) in omega (arith, x, y, z, some))
      by false is =
          (let z = ap (λ b. cond {A = ℕ} b 1 0) (false_ne own id
          (λ same. false_true (sym is ∙ true_eq id own (sym same)))) in omega (arith, z))

  same_count : (l m : SoftLevel) → m ≡ l → count m id ≡ count l id
  same_count l m e = ap (λ (x : SoftLevel). count x id) e

  fired_call : (l m : SoftLevel) (call : FiringCall) → FiringDoes l call m
      → count m id + losses_in_call id call ≡ count l id + raises_in_call id call
  fired_call l m (Admits own index) d = let a = same_count _ m d.1 in let b = admits l own index d.0.2 in omega (arith, a, b)
  fired_call l m (Loads own pend) d = let a = same_count l m d.1 in omega (arith, a)
  fired_call l m (Raises own First) ((k, (on, is), (n, (on', is'), last)), hand) =
      let a = same_count _ k is in let b = expires l own on in let c = same_count _ n is' in let e = same_count n m (sym last) in
      omega (arith, a, b, c, e)
  fired_call l m (Raises own More) ((k, (on, is), last), hand) =
      let a = same_count _ k is in let b = expires l own on in let e = same_count k m (sym last) in omega (arith, a, b, e)
  fired_call l m (Raises own Lost) ((k, (on, is), last), hand) =
      let a = same_count _ k is in let b = loses l own in let e = same_count k m (sym last) in omega (arith, a, b, e)
  fired_call l m (Marks own pend) d = let a = same_count _ m d.1.1 in omega (arith, a)
  fired_call l m (Polls own None) d = let a = same_count l m d.1 in omega (arith, a)
  fired_call l m (Polls own (Some counts)) d = let a = same_count _ m d.1.1 in let b = clears l own d.1.0.2 in omega (arith, a, b)
  fired_call l m (Expands bank) d = let a = same_count _ m d.1 in omega (arith, a)
  fired_call l m (Looks answer) d = let a = same_count l m d.1 in omega (arith, a)

  -- a look takes nothing away
  looked : (l m : SoftLevel) (old new : List ℕ) (b : Bool) → FoldsTo Happens l (take_events old new b) m → count m id ≡ count l id
  looked l m old (x ∷ xs) true (k, first, rest) = same_count k m (sym rest) ∙ same_count _ k first.1
  looked l m old [] true h = same_count l m (sym h)
  looked l m (x ∷ xs) new false (k, first, rest) = same_count k m (sym rest) ∙ same_count _ k first.1
  looked l m [] (x ∷ xs) false (k, first, (n, second, rest)) =
      same_count n m (sym rest) ∙ same_count _ n second.1 ∙ same_count _ k first.1
  looked l m [] [] false (k, first, rest) = same_count k m (sym rest) ∙ same_count _ k first.1

  drained_call : (l m : SoftLevel) (call : DrainCall) → Lawful l → Drains l call m
      → count m id + finished_by id (call ∷ []) ≡ count l id
  drained_call l m (Takes answer) law d = let a = looked l m l.old_list l.new_list _ d.0 in omega (arith, a)
  drained_call l m (Finishes own answer) law d =
      let a = same_count _ m d.1.1 in let b = finishes l own law d.0 in omega (arith, a, b)

  -- calls of both sides: what was raised and not lost is outstanding until it is finished
  pub way_counts : (a b : Tables) (way : List LevelCall) → FoldsTo LevelDoes a way b → Lawful (level_of a)
      → count (level_of b) id + lost_by id (firing_calls way) + finished_by id (soft_calls way)
      ≡ count (level_of a) id + raised_by id (firing_calls way)
  way_counts a b [] run law = let e = ap (λ (x : Tables). count (level_of x) id) run in omega (arith, e)
  way_counts a b (OfFiring call ∷ way) (m, first, rest) law =
      let x = fired_call (level_of a) (level_of m) call first.0 in
      let y = way_counts m b way rest (fires_law (level_of a) (level_of m) call first.0 law) in omega (arith, x, y)
  way_counts a b (OfSoft call ∷ way) (m, first, rest) law =
      let x = drained_call (level_of a) (level_of m) call law first in
      let y = way_counts m b way rest (drains_law (level_of a) (level_of m) call first law) in
      let z = finished_on id (call ∷ []) (soft_calls way) in omega (arith, x, y, z)

  -- calls of the firing side alone
  pub goes_counts : (a b : Tables) (way : List FiringCall) → Goes raise_tables a way b
      → count (level_of b) id + lost_by id way ≡ count (level_of a) id + raised_by id way
  goes_counts a b [] run = let e = ap (λ (x : Tables). count (level_of x) id) run in omega (arith, e)
  goes_counts a b (call ∷ way) (m, first, rest) =
      let x = fired_call (level_of a) (level_of m) call first.0 in let y = goes_counts m b way rest in omega (arith, x, y)
