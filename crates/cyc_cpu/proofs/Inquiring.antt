-- What the loads of all cyclics leave, and what they tell.
use Rattle.std.proofs.Common.{◌≡◌, ◌≢◌, ℕ, ◌+◌, ◌<◌, ◌≤◌, Bool, true, false, cond, eqb, Option, Some, None, List, [], ◌∷◌, map}
use Rattle.std.proofs.Common.{refl, sym, ap, ◌∙◌, subst, arith, eq-eqb, ◌++◌, inl, inr, length, get_or}
use Rattle.cyc_types.specs.declared.Raise.{Ghosts as Raise}
use Rattle.cyc_types.specs.Firing.{FiringView, Loads, Looks, Learns, Stay, MayAsk, edited, seen_in, seen_of}
use Rattle.cyc_types.specs.Runs.{Goes}
use Rattle.cyc_types.specs.declared.level.Level.{Level}
use Rattle.cyc_types.specs.declared.level.Level.TheVariants as level
use Rattle.cyc_timers.specs.Rows.{Row, IsRow, IsRising, vacant_row}
use Rattle.std.specs.Prelude.{is_some, ◌⊎◌}
use Rattle.std.specs.Bool.{OnTrue, OnFalse}
use Rattle.cyc_cpu.specs.Cpu.{CpuView}
use Rattle.cyc_cpu.specs.Calls.{CpuChanges, AskSettled}
use Rattle.cyc_cpu.specs.Moving.{IsSettled, Inquires}
use Rattle.cyc_types.proofs.Runs.{goes_on}
use Rattle.std.proofs.lemmas.List.{map-append, get_or_default}
use Rattle.std.proofs.lemmas.Bool.Decides.{nat_tests}
use Rattle.cyc_timers.specs.Ends.{IsEnd}
use Rattle.cyc_timers.specs.Quiet.{KeepsStays, OnlyLoads, asks_at}
use Rattle.cyc_timers.proofs.Readying.{loads_keep, keeps_itself}
use Rattle.cyc_cpu.proofs.Softs.{keeps_on}
use Rattle.cyc_cpu.proofs.Cleared.{goes_here, goes_not, level_cases, one_row}

seen_less : (b : Bool) (n : ℕ) (o : Option Stay) → (b ≡ true → n ≤ seen_in o)
    → seen_in (cond b (edited (λ s. record s { seen = n }) o) o) ≤ seen_in o
seen_less true n None h = omega arith
seen_less true n (Some s) h = h refl
seen_less false n o h = omega arith

same_id : (j id : ℕ) → eqb j id ≡ true → j ≡ id
same_id j id h = let e : j ≡ id = grind (arith, nat_tests) in e

-- a load raises what was seen of no cyclic
pub load_lowers : (v w : FiringView) (id n j : ℕ) → Learns v (Loads id n) w → seen_of j w ≤ seen_of j v
load_lowers v w id n j l =
    let a = seen_less (eqb j id) n (v.stays j) (λ on. let e = ap (λ i. seen_in (v.stays i)) (same_id j id on) in let f = l.0 in
    omega (arith, e, f)) in
    let e = ap (λ (x : FiringView). seen_of j x) l.1 in
    omega (arith, a, e)

seen_none : (b : Bool) (o : Option Stay) → b ≡ true → seen_in (cond b (edited (λ s. record s { seen = 0 }) o) o) ≡ 0
seen_none true None h = refl
seen_none true (Some s) h = refl
seen_none false o h = absurd (let wrong : false ≡ true = h in cc)

load_none : (v w : FiringView) (id : ℕ) → Learns v (Loads id 0) w → seen_of id w ≡ 0
load_none v w id l = ap (λ (x : FiringView). seen_of id x) l.1 ∙ seen_none (eqb id id) (v.stays id) (eq-eqb id id refl)

seen_some : (b : Bool) (n : ℕ) (o : Option Stay) (s : Stay) → b ≡ true → o ≡ Some s
    → seen_in (cond b (edited (λ s. record s { seen = n }) o) o) ≡ n
seen_some true n (Some t) s on h = refl
seen_some true n None s on h = absurd (let wrong : None ≡ Some s = h in cc)
seen_some false n o s on h = absurd (let wrong : false ≡ true = on in cc)

load_some : (v w : FiringView) (id n : ℕ) → MayAsk id v → Learns v (Loads id n) w → seen_of id w ≡ n
load_some v w id n ((s, stay, _), free) l = ap (λ (x : FiringView). seen_of id x) l.1
    ∙ seen_some (eqb id id) n (v.stays id) s (eq-eqb id id refl) stay

pub may_ask_still : (v w : FiringView) (id : ℕ) → KeepsStays v w → MayAsk id v → MayAsk id w
may_ask_still v w id k ((s, stay, _), free) = (let (t, there, i1, i2, i3) = k.to id s stay in ((t, there, tt), k.free ∙ free))

module _ {R : Type 0} (firing : Raise R) where
  loads_keep_all : (e f : R) (asked : List (ℕ × ℕ)) → Goes firing e (map (λ a. Loads a.0 a.1) asked) f
      → KeepsStays (firing.view e) (firing.view f)
  loads_keep_all e f [] g = subst (λ x. KeepsStays (firing.view e) (firing.view x)) g (keeps_itself (firing.view e))
  loads_keep_all e f (a ∷ asked) (m, (s, l), rest) =
      keeps_on (firing.view e) (firing.view m) (firing.view f) (loads_keep (firing.view e) (firing.view m) a.0 a.1 l)
      (loads_keep_all m f asked rest)

  pub only_loads_keep : (e f : R) → OnlyLoads firing e f → KeepsStays (firing.view e) (firing.view f)
  only_loads_keep e f o = loads_keep_all e f o.0 o.1

  pub looks_see : (e f : R) (answer : Bool) (id : ℕ) → Learns (firing.view e) (Looks answer) (firing.view f)
      → seen_of id (firing.view f) ≡ seen_of id (firing.view e)
  looks_see e f answer id l = ap (λ (x : FiringView). seen_of id x) l.1

  -- one more question
  pub asked_more : (soft own : Level) (id n : ℕ) (e f g : R) → OnlyLoads firing e f
      → Goes firing f (asks_at soft own id n) g → OnlyLoads firing e g
  asked_more soft own id n e f g (asked, went) goes = elim (level_cases own soft) [
    | inl at ↦ (let one = goes_here firing soft own f g (Loads id n ∷ []) goes at in (
      (asked ++ (id, n) ∷ []),
      subst (λ w. Goes firing e w g)
          (sym (map-append (λ (a : ℕ × ℕ). Loads a.0 a.1) asked ((id, n) ∷ []))) (goes_on firing e f g _ _ went one),
    ))
    | inr off ↦ (
      asked,
      subst (λ x. Goes firing e (map (λ a. Loads a.0 a.1) asked) x)
          (sym (goes_not firing soft own f g (Loads id n ∷ []) goes off)) went,
    )
  ]

  -- the question raises what was seen of no cyclic
  pub asked_lowers : (soft own : Level) (id n j : ℕ) (f g : R) → Goes firing f (asks_at soft own id n) g
      → seen_of j (firing.view g) ≤ seen_of j (firing.view f)
  asked_lowers soft own id n j f g goes = elim (level_cases own soft) [
    | inl at ↦ (let (m, (s, l), last) = goes_here firing soft own f g (Loads id n ∷ []) goes at in
        let a = load_lowers (firing.view f) (firing.view m) id n j l in let b = ap (λ x. seen_of j (firing.view x)) last in
        omega (arith, a, b))
    | inr off ↦ (let b = ap (λ x. seen_of j (firing.view x)) (goes_not firing soft own f g (Loads id n ∷ []) goes off) in
        omega (arith, b))
  ]

  pub asked_none : (soft own : Level) (id : ℕ) (f g : R) → own ≡ soft → Goes firing f (asks_at soft own id 0) g
      → seen_of id (firing.view g) ≡ 0
  asked_none soft own id f g at goes =
      let (m, (s, l), last) = goes_here firing soft own f g (Loads id 0 ∷ []) goes at in
      ap (λ x. seen_of id (firing.view x)) (sym last) ∙ load_none (firing.view f) (firing.view m) id l

  pub asked_some : (soft own : Level) (id n : ℕ) (f g : R) → own ≡ soft → MayAsk id (firing.view f)
      → Goes firing f (asks_at soft own id n) g → seen_of id (firing.view g) ≡ n
  asked_some soft own id n f g at may goes =
      let (m, (s, l), last) = goes_here firing soft own f g (Loads id n ∷ []) goes at in
      ap (λ x. seen_of id (firing.view x)) (sym last) ∙ load_some (firing.view f) (firing.view m) id n may l

  quiet_in : (o : Option Stay) → ((t : Stay) → o ≡ Some t → seen_in o ≡ 0) → seen_in o ≡ 0
  quiet_in None h = refl
  quiet_in (Some t) h = h t refl

  -- an end whose every cyclic was found with nothing outstanding
  pub quiet_end : (soft : Level) (size : ℕ) (marked : Option ℕ) (e f : R) (rows : List Row)
      → IsEnd soft size marked (firing.view e) rows
      → KeepsStays (firing.view e) (firing.view f) →
      ((k : ℕ) (r : Row) → IsRow rows k r → r.timer.level ≡ soft → seen_of r.timer.id (firing.view f) ≡ 0) → (id : ℕ)
      → seen_of id (firing.view f) ≡ 0
  quiet_end soft size marked e f rows ready keep quiet id = quiet_in ((firing.view f).stays id) (λ t h.
      (let (s, was) = keep.from id t h in let (k, r, is, named, at) = ready.only id s was in
      ap (λ i. seen_of i (firing.view f)) (sym named) ∙ quiet k r is at))

pub row_here : (rows : List Row) (k : ℕ) → k < length rows → (r : Row) × IsRow rows k r
row_here rows k low = let e = vacant_row 0 0 in (get_or rows k e, (low, get_or_default rows k (get_or rows k e) e low))

pub none_some : (o : Option ℕ) → is_some o ≡ false → o ≡ None
none_some None h = refl
none_some (Some n) h = absurd (let wrong : true ≡ false = h in cc)

pub on_true : (b : Bool) (P Q : Type 0) → (P → Q) → OnTrue b P → OnTrue b Q
on_true true P Q f h = f h
on_true false P Q f h = h

pub inquires_from : {R : Type 0} (firing : Raise R) (u v w : CpuView R) → u ≡ v
    → Inquires firing u w → Inquires firing v w
inquires_from firing u v w is a = subst (λ x. Inquires firing x w) is a

seen_zero : (o : Option Stay) → ((t : Stay) → o ≡ Some t → ⊥) → seen_in o ≡ 0
seen_zero None h = refl
seen_zero (Some t) h = absurd (h t refl)

-- a cyclic is seen at the end of its level alone
off_end : (soft : Level) (size : ℕ) (marked : Option ℕ) (v : FiringView) (rows : List Row) (i : ℕ) (r : Row)
    → IsEnd soft size marked v rows → IsRising rows → IsRow rows i r → r.timer.level ≢ soft → seen_of r.timer.id v ≡ 0
off_end soft size marked v rows i r ready rising is off = seen_zero (v.stays r.timer.id) (λ t h.
    (let (k, x, is_x, named, at) = ready.only r.timer.id t h in
    off (ap (λ (y : Row). y.timer.level) (sym (one_row rows i k r x rising is is_x named)) ∙ at)))

module _ {R : Type 0} (firing : Raise R) (size : ℕ) (rows : List Row) (i n : ℕ)
    (r : Row) (rising : IsRising rows) (is : IsRow rows i r) where
  seen_here : (soft : Level) (marked : Option ℕ) (e f : R) → IsEnd soft size marked (firing.view e) rows
      → Goes firing e (asks_at soft r.timer.level r.timer.id n) f → r.timer.level ≡ soft → seen_of r.timer.id (firing.view f) ≡ n
  seen_here soft marked e f ready goes at =
      let (s, stay, rest) = ready.here i r is at in
      asked_some firing soft r.timer.level r.timer.id n e f at ((s, stay, tt), ready.free) goes

  seen_off : (soft : Level) (marked : Option ℕ) (e f : R) → IsEnd soft size marked (firing.view e) rows
      → Goes firing e (asks_at soft r.timer.level r.timer.id n) f → r.timer.level ≢ soft → seen_of r.timer.id (firing.view f) ≡ 0
  seen_off soft marked e f ready goes off =
      ap (λ x. seen_of r.timer.id (firing.view x)) (goes_not firing soft r.timer.level e f (Loads r.timer.id n ∷ []) goes off)
      ∙ off_end soft size marked (firing.view e) rows i r ready rising is off

  -- what was found is what is seen
  pub seen_asked : (l : Level) (lock_marked low_marked : Option ℕ) (lock low lock' low' : R) → r.timer.level ≡ l
      → IsEnd level.Lock size lock_marked (firing.view lock) rows → IsEnd level.Low size low_marked (firing.view low) rows →
      Goes firing lock (asks_at level.Lock r.timer.level r.timer.id n) lock'
      → Goes firing low (asks_at level.Low r.timer.level r.timer.id n) low' → (r.timer.level ≡ level.High → n ≡ 0) →
      seen_of r.timer.id (firing.view lock') + seen_of r.timer.id (firing.view low') ≡ n
  seen_asked level.High m m' lock low lock' low' at a b goes goes' high =
      let x = seen_off level.Lock m lock lock' a goes (λ q. let no : level.High ≡ level.Lock = sym at ∙ q in absurd (cc)) in
      let y = seen_off level.Low m' low low' b goes' (λ q. let no : level.High ≡ level.Low = sym at ∙ q in absurd (cc)) in
      let z = high at in
      omega (arith, x, y, z)
  seen_asked level.Lock m m' lock low lock' low' at a b goes goes' high =
      let x = seen_here level.Lock m lock lock' a goes at in
      let y = seen_off level.Low m' low low' b goes' (λ q. let no : level.Lock ≡ level.Low = sym at ∙ q in absurd (cc)) in
      omega (arith, x, y)
  seen_asked level.Low m m' lock low lock' low' at a b goes goes' high =
      let x = seen_off level.Lock m lock lock' a goes (λ q. let no : level.Low ≡ level.Lock = sym at ∙ q in absurd (cc)) in
      let y = seen_here level.Low m' low low' b goes' at in
      omega (arith, x, y)

pub some_not_none : (o : Option ℕ) → is_some o ≡ true → o ≡ None → ⊥
some_not_none None h e = (let wrong : false ≡ true = h in cc)
some_not_none (Some n) h e = (let wrong : Some n ≡ None = e in cc)

module _ {R : Type 0} (firing : Raise R) where
  pub settled_either : (v w : CpuView R) (b : Bool) → Inquires firing v w → OnTrue b (IsSettled firing.view w)
      → OnFalse b (IsSettled firing.view w → ⊥) → CpuChanges firing v (AskSettled b) w
  settled_either v w true i settled unsettled = (i, settled)
  settled_either v w false i settled unsettled = (i, unsettled)

-- a soft side that has not followed
pub no_settled : {R : Type 0} (view : R → FiringView) (w : CpuView R) (b : Bool)
    → OnFalse b (((view w.lock).followed ≡ false) ⊎ ((view w.low).followed ≡ false)) → OnFalse b (IsSettled view w → ⊥)
no_settled view w true h = h
no_settled view w false (inl lock) = λ settled. (let yes = settled.followed.0 in let wrong : true ≡ false = sym yes ∙ lock in cc)
no_settled view w false (inr low) = λ settled. (let yes = settled.followed.1 in let wrong : true ≡ false = sym yes ∙ low in cc)
