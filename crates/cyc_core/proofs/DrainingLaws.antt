-- What the calls of the soft side find.
use Rattle.std.proofs.Common.{◌≡◌, ◌≢◌, ℕ, zero, suc, ◌+◌, ◌-◌, ◌<◌, eqb, cond, Bool, true, false, Option, Some, None, refl, sym}
use Rattle.std.proofs.Common.{ap, ◌∙◌, subst, arith, ◌==◌, List, [], ◌∷◌, length}
use Rattle.std.specs.List.{FoldsTo}
use Rattle.std.proofs.lemmas.List.{nil_from_length}
use Rattle.std.proofs.lemmas.Bool.{eqb-true, eq-eqb}
use Rattle.std.specs.Prelude.{is_some, IfSome}
use Rattle.std.specs.Option.{option_map}
use Rattle.std.proofs.lemmas.Bool.Decides.{nat_tests}
use mathlib.Core.Logic.{dite}
use native.Mathlib.Decide.{ℕ_discrete}
use Rattle.cyc_types.specs.Draining.{one_of}
use Rattle.cyc_types.specs.declared.draining.Finished.TheVariants.{More, Last, LastOfRemoval}
use Rattle.cyc_level.specs.declared.Event.TheVariants.{Take, Finish, Follow}
use Rattle.cyc_level.specs.Level.{AdmittedCyclic, SoftLevel, count, count_in, soft_list}
use Rattle.cyc_level.specs.Events.{cyclic_after_finish, hand_after_finish, Enabled, after, after_finish, after_take}
use Rattle.cyc_level.specs.Lawful.{Lawful}
use Rattle.cyc_level.proofs.Maps.{at_same, at_other}
use Rattle.cyc_core.specs.Reached.{Happens}
use Rattle.cyc_core.specs.DrainingSide.{done_in, done_of, is_marked, finished_at, take_events}
use Rattle.cyc_core.proofs.Changes.{held_cyclic}

module _ (l : SoftLevel) (law : Lawful l) (id : ℕ) (holds : l.drainer_hand ≡ Some id) where
  abbrev n : SoftLevel
  n = after_finish (Some id) l

  its : (c : AdmittedCyclic) × (l.cyclics id ≡ Some c) × (0 < c.count)
  its = held_cyclic l law id holds

  some : 0 < count l id
  some = let (c, is, more) = its in let e : count l id ≡ c.count = ap count_in is in omega (arith, e, more)

  finished : after Finish l ≡ n
  finished = ap (λ (o : Option ℕ). after_finish o l) holds

  -- one call fewer is outstanding
  left : count n id ≡ count l id - 1
  left = let (c, is, more) = its in
      ap count_in (at_same l.cyclics id (option_map cyclic_after_finish) ∙ ap (option_map cyclic_after_finish) is)
      ∙ ap (λ (k : ℕ). k - 1) (sym (ap count_in is))

  more_calls : (k : ℕ) → 0 < k → is_some (hand_after_finish k (Some id)) ≡ true → eqb (k - 1) 0 ≡ false
  more_calls zero pos is = absurd (omega (arith, pos))
  more_calls (suc zero) pos is = absurd (let wrong : ⊥ = cc in wrong)
  more_calls (suc (suc k)) pos is = let some : 0 < suc (suc k) - 1 = omega arith in grind (arith, nat_tests)

  no_calls : (k : ℕ) → 0 < k → is_some (hand_after_finish k (Some id)) ≡ false → eqb (k - 1) 0 ≡ true
  no_calls zero pos is = absurd (omega (arith, pos))
  no_calls (suc zero) pos is = let none : suc zero - 1 ≡ 0 = omega arith in grind (arith, nat_tests)
  no_calls (suc (suc k)) pos is = absurd (let wrong : ⊥ = cc in wrong)

  hand_is : n.drainer_hand ≡ hand_after_finish (count l id) (Some id)
  hand_is = ap (hand_after_finish (count l id)) holds

  -- the hand says whether calls are left
  pub finish_more : (m : SoftLevel) → m ≡ after Finish l → is_some m.drainer_hand ≡ true → (b : Bool)
      → More ≡ finished_at (count m id) b
  finish_more m e is b =
      let same : m ≡ n = e ∙ finished in
      let hand = sym (ap (λ (x : SoftLevel). is_some x.drainer_hand) same ∙ ap is_some hand_is) ∙ is in
      let test : eqb (count m id) 0 ≡ false = ap (λ (x : SoftLevel). eqb (count x id) 0) same ∙ ap (λ (k : ℕ). eqb k 0) left
      ∙ more_calls (count l id) some hand in
      sym (ap (λ (t : Bool). cond t (cond b LastOfRemoval Last) More) test)

  pub finish_last : (m : SoftLevel) → m ≡ after Finish l → is_some m.drainer_hand ≡ false → (b : Bool)
      → cond b LastOfRemoval Last ≡ finished_at (count m id) b
  finish_last m e is b =
      let same : m ≡ n = e ∙ finished in
      let hand = sym (ap (λ (x : SoftLevel). is_some x.drainer_hand) same ∙ ap is_some hand_is) ∙ is in
      let test : eqb (count m id) 0 ≡ true = ap (λ (x : SoftLevel). eqb (count x id) 0) same ∙ ap (λ (k : ℕ). eqb k 0) left
      ∙ no_calls (count l id) some hand in
      sym (ap (λ (t : Bool). cond t (cond b LastOfRemoval Last) More) test)

  -- one finish more for the id in hand, and for no other
  pub made_one : (m : SoftLevel) → m ≡ after Finish l → (q : ℕ) → done_of m q ≡ done_of l q + one_of q l.drainer_hand
  made_one m e q =
      let same : m ≡ n = e ∙ finished in
      let one : one_of q l.drainer_hand ≡ one_of q (Some id) = ap (one_of q) holds in
      let moved : done_of m q ≡ done_of n q = ap (λ (x : SoftLevel). done_of x q) same in
      dite (ℕ_discrete q id)
      (λ is. let (c, there, more) = its in
      let now : done_of n id ≡ c.done + 1 = ap done_in (at_same l.cyclics id (option_map cyclic_after_finish)
      ∙ ap (option_map cyclic_after_finish) there) in
      let was : done_of l id ≡ c.done = ap done_in there in
      let now_q = ap (done_of n) is in let was_q = ap (done_of l) is in
      let here : one_of q (Some id) ≡ 1 = ap (λ (k : ℕ). one_of k (Some id)) is ∙ hand_one id in
      omega (arith, one, moved, now, was, now_q, was_q, here))
      (λ ne. let kept : done_of n q ≡ done_of l q = ap done_in (at_other l.cyclics id (option_map cyclic_after_finish) q ne) in
      let none : one_of q (Some id) ≡ 0 = hand_none q id ne in
      omega (arith, one, moved, kept, none))
    where
      hand_one : (id : ℕ) → one_of id (Some id) ≡ 1
      hand_one id = let is : eqb id id ≡ true = grind (arith, nat_tests) in ap (λ (b : Bool). cond b 1 0) is

      hand_none : (q id : ℕ) → q ≢ id → one_of q (Some id) ≡ 0
      hand_none q id ne = let is : eqb q id ≡ false = grind (arith, nat_tests) in ap (λ (b : Bool). cond b 1 0) is

-- the mark of the id in hand
pub marked_is : (o : Option ℕ) (id : ℕ) → o ≡ Some id → is_marked o id ≡ true
marked_is None id e = absurd (let wrong : ⊥ = cc in wrong)
marked_is (Some m) id e = let same : m ≡ id = cc in grind (arith, nat_tests)

pub marked_not : (o : Option ℕ) (id : ℕ) → o ≢ Some id → is_marked o id ≡ false
marked_not None id ne = refl
marked_not (Some m) id ne = by (eqb m id) refl
  where
    by : (b : Bool) → eqb m id ≡ b → b ≡ false
    by true e = absurd (ne (ap Some (let same : m ≡ id = grind (arith, nat_tests) in same)))
    by false e = refl

pub holds_is : (o : Option ℕ) (id : ℕ) (P : ℕ → Type 0) → o ≡ Some id → P id → IfSome o P
holds_is o id P e h = subst (λ (x : Option ℕ). IfSome x P) (sym e) h

-- a look: the soft side followed, or it didn't have to
pub data Looked (l m : SoftLevel) : Type 0 where
  Followed : Enabled Follow l → m ≡ after Follow l → Looked l m
  Stayed : (l.old_list ≡ [] → l.hard_bank ≡ l.soft_bank) → m ≡ l → Looked l m

-- the events of a look, by what it found
look_events : (l m : SoftLevel) (old new : List ℕ) (same : Bool) → l.old_list ≡ old → l.new_list ≡ new
    → (l.hard_bank == l.soft_bank) ≡ same → FoldsTo Happens l (take_events old new same) m
    → FoldsTo Happens l (take_events l.old_list l.new_list (l.hard_bank == l.soft_bank)) m
look_events l m old new same is_old is_new is_same h = subst
    (λ (p : List ℕ × List ℕ × Bool). FoldsTo Happens l (take_events p.0 p.1 p.2) m)
    (λ z. (sym is_old z, sym is_new z, sym is_same z)) h

equal_banks : (a b : ℕ) → a ≡ b → (a == b) ≡ true
equal_banks a b e = grind (arith, nat_tests)

unlike_banks : (a b : ℕ) → a ≢ b → (a == b) ≡ false
unlike_banks a b ne = grind (arith, nat_tests)

-- the list that a soft side empties that has followed
followed_list : (l m : SoftLevel) → m ≡ after Follow l → soft_list m ≡ l.new_list
followed_list l m is = ap soft_list is
    ∙ ap (λ (b : Bool). cond b l.new_list l.old_list) (equal_banks l.hard_bank l.hard_bank refl)

-- a look that takes nothing
pub took_none : (l m : SoftLevel) → Looked l m → soft_list m ≡ []
    → FoldsTo Happens l (take_events l.old_list l.new_list (l.hard_bank == l.soft_bank)) m
took_none l m (Followed may is) none = look_events l m [] [] false may.1 (sym (followed_list l m is) ∙ none)
    (unlike_banks l.hard_bank l.soft_bank may.0) (m, (may, is), refl)
took_none l m (Stayed stays is) none = by (l.hard_bank == l.soft_bank) refl
  where
    left_none : soft_list l ≡ []
    left_none = ap soft_list (sym is) ∙ none

    by : (b : Bool) → (l.hard_bank == l.soft_bank) ≡ b
        → FoldsTo Happens l (take_events l.old_list l.new_list (l.hard_bank == l.soft_bank)) m
    by true e = look_events l m l.old_list [] true refl
        (sym (ap (λ (b : Bool). cond b l.new_list l.old_list) e) ∙ left_none) e (sym is)
    by false e = absurd (let none_old : l.old_list ≡ [] = sym (ap (λ (b : Bool). cond b l.new_list l.old_list) e) ∙ left_none in
        let same = equal_banks l.hard_bank l.soft_bank (stays none_old) in let wrong : ⊥ = cc in wrong)

-- where the banks differ the soft side empties the old list
pub old_listed : (l : SoftLevel) → l.hard_bank ≢ l.soft_bank → l.old_list ≢ [] → soft_list l ≢ []
old_listed l apart some none =
    some (sym (ap (λ (b : Bool). cond b l.new_list l.old_list) (unlike_banks l.hard_bank l.soft_bank apart)) ∙ none)

-- a look that takes the first cyclic
pub took_first : (l m n : SoftLevel) → Looked l m → l.drainer_hand ≡ None → soft_list m ≢ [] → n ≡ after Take m
    → FoldsTo Happens l (take_events l.old_list l.new_list (l.hard_bank == l.soft_bank)) n
took_first l m n (Followed may is) free some taken = by l.new_list refl
  where
    by : (new : List ℕ) → l.new_list ≡ new
        → FoldsTo Happens l (take_events l.old_list l.new_list (l.hard_bank == l.soft_bank)) n
    by [] e = absurd (some (followed_list l m is ∙ e))
    by (x ∷ xs) e = look_events l n [] (x ∷ xs) false may.1 e (unlike_banks l.hard_bank l.soft_bank may.0)
        (m, (may, is), (n, ((ap (λ (k : SoftLevel). k.drainer_hand) is ∙ free, some), taken), refl))
took_first l m n (Stayed stays is) free some taken = by (l.hard_bank == l.soft_bank) l.old_list l.new_list refl refl refl
  where
    listed : (b : Bool) → (l.hard_bank == l.soft_bank) ≡ b → cond b l.new_list l.old_list ≢ []
    listed b e none = some (ap soft_list is ∙ ap (λ (b : Bool). cond b l.new_list l.old_list) e ∙ none)

    one : FoldsTo Happens l (Take ∷ []) n
    one = (n, ((free, λ none. some (ap soft_list is ∙ none)), taken ∙ ap after_take is), refl)

    by : (b : Bool) (old new : List ℕ) → (l.hard_bank == l.soft_bank) ≡ b → l.old_list ≡ old → l.new_list ≡ new
        → FoldsTo Happens l (take_events l.old_list l.new_list (l.hard_bank == l.soft_bank)) n
    by true old [] e is_old is_new = absurd (listed true e is_new)
    by true old (x ∷ xs) e is_old is_new = look_events l n old (x ∷ xs) true is_old is_new e one
    by false [] new e is_old is_new = absurd (listed false e is_old)
    by false (x ∷ xs) new e is_old is_new = look_events l n (x ∷ xs) new false is_old is_new e one

pub looked_hand : (l m : SoftLevel) → Looked l m → l.drainer_hand ≡ None → None ≡ m.drainer_hand
looked_hand l m (Followed may is) free = sym (ap (λ (k : SoftLevel). k.drainer_hand) is ∙ free)
looked_hand l m (Stayed stays is) free = sym (ap (λ (k : SoftLevel). k.drainer_hand) is ∙ free)

-- what a test of a list's length says
pub tested_empty : (xs : List ℕ) (n : ℕ) (b : Bool) → n ≡ length xs → b ≡ (n == 0) → b ≡ true → xs ≡ []
tested_empty xs n b long test is = nil_from_length xs (sym long ∙ eqb-true n 0 (sym test ∙ is))

pub tested_some : (xs : List ℕ) (n : ℕ) (b : Bool) → n ≡ length xs → b ≡ (n == 0) → b ≡ false → xs ≢ []
tested_some xs n b long test is none = let yes = eq-eqb n 0 (long ∙ ap length none) in let wrong : ⊥ = cc in wrong
