-- An id that isn't admitted at a level and stands in no place of it: only its admission changes that.
use Rattle.std.proofs.Common.{◌≡◌, ◌≢◌, ℕ, zero, suc, ◌+◌, Bool, true, false, cond, eqb, Option, Some, None, List, [], ◌∷◌, refl}
use Rattle.std.proofs.Common.{sym, ap, ◌∙◌, subst, arith}
use Rattle.std.specs.Prelude.{IsSomeAnd}
use Rattle.std.specs.List.{FoldsTo}
use Rattle.std.proofs.lemmas.Bool.Decides.{nat_tests}
use Rattle.std.proofs.lemmas.List.Sums.{sum_by-cons}
use Rattle.cyc_types.specs.Counting.{times}
use Rattle.cyc_types.specs.Firing.{FiringCall, Admits, Loads, Raises, Marks, Polls, Expands, Looks}
use Rattle.cyc_types.specs.Draining.{DrainCall, Takes, Finishes, hand_after}
use Rattle.cyc_types.specs.Runs.{Goes, DrainGoes}
use Rattle.cyc_types.specs.declared.firing.Raised.TheVariants.{First, More, Lost}
use Rattle.cyc_core.specs.Event.TheVariants.{Admit, Expire, Lose, Publish, Take, Finish, Mark, Clear, Switch, Follow}
use Rattle.cyc_core.specs.Level.{AdmittedCyclic, SoftLevel, count, soft_list, times_in, in_hand}
use Rattle.cyc_core.specs.Events.{admitted_cyclic, cyclic_after_expire, cyclic_after_lose, cyclic_after_finish, hand_after_expire}
use Rattle.cyc_core.specs.Events.{hand_after_finish, as_list, first_of, rest_of, after_finish}
use Rattle.cyc_core.proofs.Maps.{hand_here, hand_else, times_append, mapped_none, cleared_none}
use Rattle.cyc_core.specs.Reached.{Happens}
use Rattle.cyc_core.specs.Tables.{Tables, level_of}
use Rattle.cyc_core.specs.FiringSide.{FiringDoes}
use Rattle.cyc_core.specs.DrainingSide.{Drains, take_events}
use Rattle.cyc_soft.specs.Serving.{Served, ids, way_of}
use Rattle.cyc_cpu.specs.Gone.{IsAbsent}
use Rattle.cyc_cpu.specs.Soft.{raise_tables, drain_tables}

-- the same, place by place
pub record Off (id : ℕ) (l : SoftLevel) : Type 0 where
  pub none : l.cyclics id ≡ None
  pub firer : in_hand id l.firer_hand ≡ 0
  pub old : times_in id l.old_list ≡ 0
  pub new : times_in id l.new_list ≡ 0
  pub drainer : in_hand id l.drainer_hand ≡ 0

pub off_of : (id : ℕ) (l : SoftLevel) → IsAbsent id l → Off id l
off_of id l h =
    let p = h.nowhere in
    record {
      none = h.not_admitted;
      firer = omega (arith, p);
      old = omega (arith, p);
      new = omega (arith, p);
      drainer =
          omega (arith, p);
    }

pub absent_of : (id : ℕ) (l : SoftLevel) → Off id l → IsAbsent id l
absent_of id l h = let a = h.firer in let b = h.old in let c = h.new in let d = h.drainer in
    record { not_admitted = h.none; nowhere = omega (arith, a, b, c, d) }

other : (id a : ℕ) → id ≢ a → eqb id a ≡ false
other id a ne = grind (arith, nat_tests)

none_and : (P : AdmittedCyclic → Type 0) (o : Option AdmittedCyclic) → o ≡ None → IsSomeAnd o P → ⊥
none_and P None e h = h
none_and P (Some c) e h = let wrong : Some c ≡ None = e in cc

-- an admitted id is another
admitted_other : (id a : ℕ) (l : SoftLevel) (P : AdmittedCyclic → Type 0) → Off id l → IsSomeAnd (l.cyclics a) P → id ≢ a
admitted_other id a l P h some same = none_and P (l.cyclics a) (ap l.cyclics (sym same) ∙ h.none) some

expired_hand : (id a n : ℕ) (hand : Option ℕ) → id ≢ a → in_hand id hand ≡ 0 → in_hand id (hand_after_expire n a hand) ≡ 0
expired_hand id a zero hand ne h = hand_else id a ne
expired_hand id a (suc n) hand ne h = h

finished_hand : (id n : ℕ) (hand : Option ℕ) → in_hand id hand ≡ 0 → in_hand id (hand_after_finish n hand) ≡ 0
finished_hand id zero hand h = refl
finished_hand id (suc zero) hand h = refl
finished_hand id (suc (suc n)) hand h = h

listed : (id : ℕ) (hand : Option ℕ) → in_hand id hand ≡ 0 → times_in id (as_list hand) ≡ 0
listed id None h = refl
listed id (Some x) h = omega (arith, h)

first_off : (id : ℕ) (xs : List ℕ) → times_in id xs ≡ 0 → in_hand id (first_of xs) ≡ 0
first_off id [] h = refl
first_off id (x ∷ xs) h = omega (arith, h)

rest_off : (id : ℕ) (xs : List ℕ) → times_in id xs ≡ 0 → times_in id (rest_of xs) ≡ 0
rest_off id [] h = refl
rest_off id (x ∷ xs) h = omega (arith, h)

either_off : (id : ℕ) (b : Bool) (xs ys : List ℕ) → times_in id xs ≡ 0 → times_in id ys ≡ 0 → times_in id (cond b xs ys) ≡ 0
either_off id true xs ys h k = h
either_off id false xs ys h k = k

-- an id in a hand where another can't stand
held_other : (id a : ℕ) (hand : Option ℕ) → in_hand id hand ≡ 0 → hand ≡ Some a → id ≢ a
held_other id a hand h is same = let here = hand_here id in let e = ap (in_hand id) (is ∙ ap Some (sym same)) in
    omega (arith, here, e, h)

module _ (id : ℕ) (l m : SoftLevel) (h : Off id l) where
  off_admit : (a index : ℕ) → id ≢ a → Happens l (Admit a index) m → Off id m
  off_admit a index ne (enabled, is) = subst (Off id) (sym is) (record {
    none = ap (λ b. cond b (Some (admitted_cyclic index)) (l.cyclics id)) (other id a ne) ∙ h.none;
    firer = h.firer;
    old = h.old;
    new = h.new;
    drainer = h.drainer;
  })

  off_expire : (a : ℕ) → Happens l (Expire a) m → Off id m
  off_expire a ((empty, unmarked, some), is) = subst (Off id) (sym is) (record {
    none = mapped_none cyclic_after_expire (eqb id a) (l.cyclics id) h.none;
    firer = expired_hand id a (count l a) l.firer_hand (admitted_other id a l _ h some) h.firer;
    old = h.old;
    new = h.new;
    drainer = h.drainer;
  })

  off_lose : (a : ℕ) → Happens l (Lose a) m → Off id m
  off_lose a (enabled, is) = subst (Off id) (sym is) (record {
    none = mapped_none cyclic_after_lose (eqb id a) (l.cyclics id) h.none;
    firer = h.firer;
    old = h.old;
    new = h.new;
    drainer = h.drainer;
  })

  off_publish : Happens l Publish m → Off id m
  off_publish (enabled, is) = subst (Off id) (sym is) (record {
    none = h.none;
    firer = refl;
    old = h.old;
    new = (let a = times_append id l.new_list (as_list l.firer_hand) in let b = listed id l.firer_hand h.firer in let c = h.new in
        omega (arith, a, b, c));
    drainer = h.drainer;
  })

  off_take : Happens l Take m → Off id m
  off_take (enabled, is) = subst (Off id) (sym is) (record {
    none = h.none;
    firer = h.firer;
    old = either_off id (eqb l.hard_bank l.soft_bank) l.old_list (rest_of l.old_list) h.old (rest_off id l.old_list h.old);
    new = either_off id (eqb l.hard_bank l.soft_bank) (rest_of l.new_list) l.new_list (rest_off id l.new_list h.new) h.new;
    drainer = first_off id (soft_list l) (either_off id (eqb l.hard_bank l.soft_bank) l.new_list l.old_list h.new h.old);
  })

  off_finished : (hand : Option ℕ) → Off id (after_finish hand l)
  off_finished None = h
  off_finished (Some a) = record {
    none = mapped_none cyclic_after_finish (eqb id a) (l.cyclics id) h.none;
    firer = h.firer;
    old = h.old;
    new = h.new;
    drainer = finished_hand id (count l a) l.drainer_hand h.drainer;
  }

  off_finish : Happens l Finish m → Off id m
  off_finish (enabled, is) = subst (Off id) (sym is) (off_finished l.drainer_hand)

  off_mark : (a : ℕ) → Happens l (Mark a) m → Off id m
  off_mark a (enabled, is) = subst (Off id) (sym is)
      (record { none = h.none; firer = h.firer; old = h.old; new = h.new; drainer = h.drainer })

  off_clear : (a : ℕ) → Happens l (Clear a) m → Off id m
  off_clear a (enabled, is) = subst (Off id) (sym is)
      (record {
        none = cleared_none (eqb id a) (l.cyclics id) h.none;
        firer = h.firer;
        old = h.old;
        new = h.new;
        drainer =
            h.drainer;
      })

  off_switch : (bank : ℕ) → Happens l (Switch bank) m → Off id m
  off_switch bank (enabled, is) = subst (Off id) (sym is)
      (record { none = h.none; firer = h.firer; old = h.new; new = refl; drainer = h.drainer })

  off_follow : Happens l Follow m → Off id m
  off_follow (enabled, is) = subst (Off id) (sym is)
      (record { none = h.none; firer = h.firer; old = h.old; new = h.new; drainer = h.drainer })

  off_same : l ≡ m → Off id m
  off_same is = subst (Off id) is h

-- a call of the firing side that doesn't admit the id
abbrev pub Spared : ℕ → FiringCall → Type 0
Spared id (Admits j index) = id ≢ j
Spared id (Loads j pend) = Unit {0}
Spared id (Raises j answer) = Unit {0}
Spared id (Marks j pend) = Unit {0}
Spared id (Polls j answer) = Unit {0}
Spared id (Expands bank) = Unit {0}
Spared id (Looks answer) = Unit {0}

abbrev pub AreSpared : ℕ → List FiringCall → Type 0
AreSpared id [] = Unit {0}
AreSpared id (call ∷ way) = Spared id call × AreSpared id way

off_fires : (id : ℕ) (l m : SoftLevel) (call : FiringCall) → Spared id call → Off id l → FiringDoes l call m → Off id m
off_fires id l m (Admits j index) ne h f = off_admit id l m h j index ne f
off_fires id l m (Loads j pend) ne h f = subst (Off id) (sym f.1) h
off_fires id l m (Raises j First) ne h ((a, first, (b, second, last)), empty) =
    off_same id b m (off_publish id a b (off_expire id l a h j first) second) last
off_fires id l m (Raises j More) ne h ((a, first, last), empty) = off_same id a m (off_expire id l a h j first) last
off_fires id l m (Raises j Lost) ne h ((a, first, last), empty) = off_same id a m (off_lose id l a h j first) last
off_fires id l m (Marks j pend) ne h f = off_mark id l m h j f.1
off_fires id l m (Polls j None) ne h f = subst (Off id) (sym f.1) h
off_fires id l m (Polls j (Some counts)) ne h f = off_clear id l m h j f.1
off_fires id l m (Expands bank) ne h f = off_switch id l m h bank f
off_fires id l m (Looks answer) ne h f = subst (Off id) (sym f.1) h

pub off_goes : (id : ℕ) (a b : Tables) (way : List FiringCall) → AreSpared id way → Goes raise_tables a way b
    → Off id (level_of a) → Off id (level_of b)
off_goes id a b [] spared g h = subst (λ (t : Tables). Off id (level_of t)) g h
off_goes id a b (call ∷ way) spared (m, (step, learns), rest) h =
    off_goes id m b way spared.1 rest (off_fires id (level_of a) (level_of m) call spared.0 h step)

off_looked : (id : ℕ) (l m : SoftLevel) (old new : List ℕ) (b : Bool) → Off id l → FoldsTo Happens l (take_events old new b) m
    → Off id m
off_looked id l m old (x ∷ xs) true h (k, first, last) = off_same id k m (off_take id l k h first) last
off_looked id l m old [] true h last = off_same id l m h last
off_looked id l m (x ∷ xs) new false h (k, first, last) = off_same id k m (off_take id l k h first) last
off_looked id l m [] (x ∷ xs) false h (k, first, (n, second, last)) =
    off_same id n m (off_take id k n (off_follow id l k h first) second) last
off_looked id l m [] [] false h (k, first, last) = off_same id k m (off_follow id l k h first) last

off_drains : (id : ℕ) (l m : SoftLevel) (call : DrainCall) → Off id l → Drains l call m → Off id m
off_drains id l m (Takes answer) h d = off_looked id l m l.old_list l.new_list (eqb l.hard_bank l.soft_bank) h d.0
off_drains id l m (Finishes a answer) h d = off_finish id l m h d.1

off_drained : (id : ℕ) (a b : Tables) (way : List DrainCall) → DrainGoes drain_tables a way b → Off id (level_of a)
    → Off id (level_of b)
off_drained id a b [] g h = subst (λ (t : Tables). Off id (level_of t)) g h
off_drained id a b (call ∷ way) (m, first, rest) h =
    off_drained id m b way rest (off_drains id (level_of a) (level_of m) call h first)

times_more : (id x : ℕ) (xs : List ℕ) → times id (x ∷ xs) ≡ cond (eqb x id) 1 0 + times id xs
times_more id x xs = sum_by-cons (λ (c : ℕ). cond (eqb c id) 1 0) x xs

times_other : (id x : ℕ) (xs : List ℕ) → id ≢ x → times id xs ≡ 0 → times id (x ∷ xs) ≡ 0
times_other id x xs ne none = let no : eqb x id ≡ false = grind (arith, nat_tests) in let e =
    ap (λ (b : Bool). cond {A = ℕ} b 1 0) no in let m = times_more id x xs in omega (arith, e, m, none)

-- one call of a soft interrupt, and then the others
one_served : (id : ℕ) (s : Served) (ran : List Served) (rest : List DrainCall) (a b : Tables) → Off id (level_of a) →
    DrainGoes drain_tables a (Finishes s.id s.answer ∷ way_of (hand_after s.answer (Some s.id)) ran rest) b →
    ((m : Tables) → Off id (level_of m) → DrainGoes drain_tables m (way_of (hand_after s.answer (Some s.id)) ran rest) b
    → Off id (level_of b) × (times id (ids ran) ≡ 0)) →
    Off id (level_of b) × (times id (ids (s ∷ ran)) ≡ 0)
one_served id s ran rest a b h (m, first, g) later =
    let (off, none) = later m (off_drains id (level_of a) (level_of m) (Finishes s.id s.answer) h first) g in
    (off, times_other id s.id (ids ran) (held_other id s.id (level_of a).drainer_hand h.drainer first.0) none)

-- a soft interrupt makes no call of it
pub none_served : (id : ℕ) (hand : Option ℕ) (ran : List Served) (rest : List DrainCall) (a b : Tables) → Off id (level_of a)
    → DrainGoes drain_tables a (way_of hand ran rest) b → Off id (level_of b) × (times id (ids ran) ≡ 0)
none_served id hand [] rest a b h g = (off_drained id a b rest g h, refl)
none_served id (Some held) (s ∷ ran) rest a b h g =
    one_served id s ran rest a b h g (λ m. none_served id (hand_after s.answer (Some s.id)) ran rest m b)
none_served id None (s ∷ ran) rest a b h (m, first, g) =
    one_served id s ran rest m b (off_drains id (level_of a) (level_of m) (Takes (Some s.id)) h first) g
    (λ n. none_served id (hand_after s.answer (Some s.id)) ran rest n b)
