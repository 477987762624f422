-- The parts of a fire, one after another, are one fire.
use Rattle.std.proofs.Common.{◌≡◌, ℕ, suc, ◌+◌, ◌==◌, ◌<◌, Bool, true, false, cond, inl, inr, Option, Some, None, Result, Ok}
use Rattle.std.proofs.Common.{Err, List, [], ◌∷◌, ◌++◌, All, length, map, sum_by, refl, sym, ap, ◌∙◌, subst, arith, append_assoc}
use Rattle.std.proofs.Common.{append-nil, length-append, filter}
use Rattle.std.specs.List.{FoldsTo, cons_option}
use Rattle.std.proofs.lemmas.List.{append_cancel_left, length-map}
use Rattle.std.proofs.lemmas.List.Sums.{sum_by-cons}
use Rattle.std.proofs.lemmas.Bool.Decides.{nat_tests}
use Rattle.cyc_types.specs.Counting.{times}
use Rattle.cyc_types.specs.Series.{never}
use Rattle.cyc_types.specs.declared.Raise.{Ghosts as Raise}
use Rattle.cyc_types.specs.Levels.{at_level}
use Rattle.cyc_types.specs.declared.level.Level.{Level}
use Rattle.cyc_types.specs.declared.level.Level.TheVariants.{High}
use Rattle.cyc_types.specs.declared.refusal.Refusal.{Refusal}
use Rattle.cyc_types.specs.declared.refusal.Refusal.TheVariants as why
use Rattle.cyc_types.proofs.Runs.{times_on}
use Rattle.cyc_types.specs.Expirations.{Expiration, expirations, after_expirations, all_after}
use Rattle.cyc_types.specs.Timers.{Timer, HasDistinctIds, IsSoundTimer, earliest}
use Rattle.cyc_types.proofs.Firings.{Firing, fire_start}
use Rattle.cyc_timers.specs.Rows.{Cyclic, timers}
use Rattle.cyc_timers.specs.Acts.{ids_at, is_at, is_of_level, same_level, timer_of, lost_after, acting}
use Rattle.cyc_timers.specs.Made.{Makes, Stops, fire_state}
use Rattle.cyc_timers.specs.declared.fire.Fired.{Fired}
use Rattle.cyc_timers.specs.declared.fire.FireRefused.{FireRefused}
use Rattle.cyc_timers.proofs.Making.{same_id}
use Rattle.cyc_cpu.specs.Cpu.{CpuView, SameCpu, sides}
use Rattle.cyc_cpu.specs.Calls.{MayFire, WhyNoFire}
use Rattle.cyc_border.specs.Border.{grant, stopped_at, handed_after}
use Rattle.cyc_border.specs.Granted.{granted_called, granted_count, GrantedRefuses}
use Rattle.cyc_border.specs.Parts.{Paused, paused, PartCall, Part, Suspends, Resumes, MakesPart, IsRest, IsPaused, answers}
use Rattle.cyc_border.specs.Parts.{
  asleep,
  awake,
  IsOneFire,
  IsHandedOut,
  expired_in_part,
  lost_in_part,
  handed_out,
  notes,
  noted_id,
}
use Rattle.cyc_border.specs.declared.granted.Granted.{Granted}
use Rattle.cyc_border.specs.declared.granted.Granted.TheVariants.{One}
use Rattle.cyc_border.proofs.HandingOut.{handed_out as handed_is}
use Rattle.cyc_border.proofs.Expiring.{goes_through}
use Rattle.cyc_border.proofs.Composing.{makes_more}
use Rattle.cyc_border.proofs.Resting.{marked, rest_keeps}

-- the handler that the caller has called, if any
abbrev pub pending : Option ℕ → List ℕ
pending None = []
pending (Some id) = id ∷ []

-- the high cyclic in front of which a fire stopped comes next
abbrev pub ComesNext : ℕ → Option ℕ → List Timer → Type 0
ComesNext now None ts = Unit {0}
ComesNext now (Some id) ts = (p : Expiration) × (rest : List Expiration) × (expirations now ts ≡ p ∷ rest) × (p.id ≡ id)
    × (is_at High ts p ≡ true)

no_cons : {A : Type 0} (x : A) (xs : List A) → [] ≡ x ∷ xs → ⊥
no_cons x xs e = cc

head_or : Expiration → List Expiration → Expiration
head_or d [] = d
head_or d (p ∷ ps) = p

-- ---- what a part calls

one_at : (ts : List Timer) (p : Expiration) (rest : List Expiration) → is_at High ts p ≡ true
    → ids_at High ts (p ∷ rest) ≡ p.id ∷ ids_at High ts rest
one_at ts p rest high = ap (λ b. map (λ (q : Expiration). q.id)
    (cond b (p ∷ filter (is_at High ts) rest) (filter (is_at High ts) rest))) high

pub first_is : (ts : List Timer) (p q : Expiration) (xs ys more : List Expiration) → p ∷ ys ≡ (q ∷ xs) ++ more → p ≡ q
unfolding head_or
first_is ts p q xs ys more e = ap (head_or p) e

-- where it makes anything, it calls just the handler that was handed out
pub calls_pending : (now : ℕ) (high : Option ℕ) (ts : List Timer) (q : Expiration) (xs more : List Expiration)
    → ComesNext now high ts
    → expirations now ts ≡ (q ∷ xs) ++ more →
    IsHandedOut high (ids_at High ts (q ∷ xs)) → ids_at High ts (q ∷ xs) ≡ pending high
calls_pending now None ts q xs more next listed (inl none) = none
calls_pending now None ts q xs more next listed (inr (id, e, is)) = absurd cc
calls_pending now (Some id) ts q xs more (p, rest, head, named, high) listed (inl none) =
    let same = first_is ts p q xs rest more (sym head ∙ listed) in
    absurd (no_cons p.id (ids_at High ts xs) (sym none ∙ ap (λ x. ids_at High ts (x ∷ xs)) (sym same) ∙ one_at ts p xs high))
calls_pending now (Some id) ts q xs more next listed (inr (j, e, is)) = is ∙ ap (λ n. n ∷ []) (some_same e)
  where
    some_same : {x y : ℕ} → Some x ≡ Some y → y ≡ x
    some_same {x = x} {y = y} e = sym (ap (λ (o : Option ℕ). elim o [ None ↦ x | Some z ↦ z ]) e)

-- ---- handlers that write down

writes : (level : Level) (ids more : List ℕ) → FoldsTo (at_level notes level) ids more (ids ++ more)
writes level ids [] = sym (append-nil ids)
writes level ids (id ∷ more) = (
  ids ++ id ∷ [],
  refl,
  subst (λ end. FoldsTo (at_level notes level) (ids ++ id ∷ []) more end)
      (append_assoc ids (id ∷ []) more) (writes level (ids ++ id ∷ []) more),
)

-- all but the mark is the same as of the first, and the mark as of the second
cpu_then : {R : Type 0} (u v w : CpuView R) → SameCpu (marked v.suspended u) v → SameCpu v w → SameCpu (marked w.suspended u) w
cpu_then u v w a b = record {
  removal = b.removal ∙ a.removal;
  size = b.size ∙ a.size;
  room = b.room ∙ a.room;
  most = b.most ∙ a.most;
  suspended = refl;
}

-- the cyclic that is found has the id
pub found_id : (id : ℕ) (ts : List Timer) (t : Timer) → timer_of id ts ≡ Some t → t.id ≡ id
found_id id [] t e = absurd cc
found_id id (x ∷ xs) t e = here (x.id == id) refl e (found_id id xs t)
  where
    here : (b : Bool) → (x.id == id) ≡ b → cond b (Some x) (timer_of id xs) ≡ Some t → (timer_of id xs ≡ Some t → t.id ≡ id)
        → t.id ≡ id
    here true is e rest = ap (λ (o : Option Timer). elim o [ None ↦ t.id | Some y ↦ y.id ]) (sym e) ∙ grind (arith, nat_tests)
    here false is e rest = rest e

distinct_after : (now : ℕ) (made : List Expiration) (ts cur : List Timer) → cur ≡ all_after now made ts → HasDistinctIds ts
    → HasDistinctIds cur
unfolding all_after
distinct_after now made ts cur is distinct i j d low_i low_j e =
    let long : length cur ≡ length ts = ap length is ∙ length-map ts (after_expirations now made) in
    distinct i j d (omega (arith, long, low_i)) (omega (arith, long, low_j))
    (sym (same_id now made ts cur i d is low_i) ∙ e ∙ same_id now made ts cur j d is low_j)

-- what its refusal says of the one in front of which a part stopped
pub refused_is : (e : FireRefused) (id : ℕ) → stopped_at (Err e) ≡ Some id → e.why ≡ why.HandlerRefused id
refused_is e id is = by_why e.why is
  where
    by_why : (w : Refusal) → stopped_at (Err (record e { why = w })) ≡ Some id → w ≡ why.HandlerRefused id
    by_why (why.HandlerRefused j) is = ap (λ (o : Option ℕ). why.HandlerRefused (elim o [ None ↦ j | Some z ↦ z ])) is
    by_why other is = absurd cc

-- and what is handed out behind it
pub handed_is_stop : (high : Option ℕ) (e : FireRefused) (id : ℕ) → stopped_at (Err e) ≡ Some id
    → handed_after high (Err e) ≡ Some id
handed_is_stop high e id is = ap (λ (w : Refusal). handed_after high (Err (record e { why = w }))) (refused_is e id is)

module _ {R : Type 0} (firing : Raise R) (now : ℕ) (soon : now < never) where
  -- a part, as handlers that write down would have it
  as_noted : (high : Option ℕ) (xs : List Expiration) (ids : List ℕ) (x y : CpuView R) (left : Granted) (lost : ℕ)
      → ids_at High (timers x.cyclics) xs ≡ pending high →
      Makes (acting (at_level granted_called High) granted_count firing) now xs (fire_state x.cyclics (sides (grant high) x))
      (fire_state y.cyclics (sides left y)) lost →
      Makes (acting (at_level notes High) noted_id firing) now xs (fire_state x.cyclics (sides ids x))
      (fire_state y.cyclics (sides (ids ++ pending high) y)) lost
  as_noted high xs ids x y left lost is m = record {
    acts = record {
      lock_way = m.acts.lock_way;
      low_way = m.acts.low_way;
      called_in_order = subst (λ more. FoldsTo (at_level notes High) ids (ids_at High (timers x.cyclics) xs) (ids ++ more)) is
          (writes High ids (ids_at High (timers x.cyclics) xs));
      counted = λ id. times_on id ids (pending high) ∙ sym (ap (λ more. times id ids + times id more) is);
      lock_goes = m.acts.lock_goes;
      low_goes = m.acts.low_goes;
      lock_raises = m.acts.lock_raises;
      low_raises = m.acts.low_raises;
    };
    timers_are = m.timers_are;
    carried_are = m.carried_are;
    losses_are = m.losses_are;
    lost_is = m.lost_is;
  }

  -- where a fire in parts stands: what it made so far, for whom it called, and what it lost
  record Stands (v : CpuView R) (made : List Expiration) (ids : List ℕ) (lost : ℕ) (s : Paused R) : Type 0 where
    pub fires : Firing now made (timers v.cyclics) (timers s.cpu.cyclics)
    pub sound : All IsSoundTimer (timers s.cpu.cyclics)
    pub same : SameCpu (marked s.cpu.suspended v) s.cpu
    pub makes : Makes (acting (at_level notes High) noted_id firing) now made (fire_state v.cyclics (sides [] v))
        (fire_state s.cpu.cyclics (sides ids s.cpu)) lost
    pub next : ComesNext now s.high (timers s.cpu.cyclics)

  at_start : (v : CpuView R) → All IsSoundTimer (timers v.cyclics) → Stands v [] [] 0 (paused None v)
  at_start v sound = record {
    fires = fire_start now (timers v.cyclics);
    sound = sound;
    same = record { removal = refl; size = refl; room = refl; most = refl; suspended = refl };
    makes = record {
      acts = record {
        lock_way = [];
        low_way = [];
        called_in_order = refl;
        counted = λ id. omega arith;
        lock_goes =
            refl;
        low_goes = refl;
        lock_raises = tt;
        low_raises = tt;
      };
      timers_are = (fire_start now (timers v.cyclics)).is;
      carried_are = refl;
      losses_are = none_lost v.cyclics;
      lost_is = omega arith;
    };
    next = tt;
  }
    where
      none_lost : (cs : List Cyclic) → map (λ (c : Cyclic). c.lost) cs
          ≡ map (λ (c : Cyclic). lost_after [] [] c.timer.id c.lost) cs
      none_lost [] = refl
      none_lost (c ∷ cs) = (let z : c.lost ≡ lost_after [] [] c.timer.id c.lost = omega arith in λ j. z j ∷ none_lost cs j)

  -- and after a part more
  goes_on : (v : CpuView R) (made xs rest : List Expiration) (ids more : List ℕ) (lost lost' : ℕ) (s t : Paused R)
      → HasDistinctIds (timers v.cyclics) → Stands v made ids lost s →
      expirations now (timers s.cpu.cyclics) ≡ xs ++ rest → SameCpu s.cpu t.cpu →
      Makes (acting (at_level notes High) noted_id firing) now xs (fire_state s.cpu.cyclics (sides ids s.cpu))
      (fire_state t.cpu.cyclics (sides more t.cpu)) lost' →
      (expirations now (timers t.cpu.cyclics) ≡ rest → ComesNext now t.high (timers t.cpu.cyclics)) →
      Stands v (made ++ xs) more (lost + lost') t × (expirations now (timers t.cpu.cyclics) ≡ rest)
  goes_on v made xs rest ids more lost lost' s t distinct at listed same m next =
      let ts = timers s.cpu.cyclics in
      let here = distinct_after now made (timers v.cyclics) ts at.fires.is distinct in
      let (end, f, g, sound) = goes_through now xs rest made [] (timers v.cyclics) ts ts soon distinct here at.sound at.fires
      (fire_start now ts) listed in
      let is : end ≡ timers t.cpu.cyclics = g.is ∙ sym m.timers_are in
      let left : expirations now (timers t.cpu.cyclics) ≡ rest =
      append_cancel_left xs (expirations now (timers t.cpu.cyclics)) rest
      (ap (λ x. xs ++ expirations now x) (sym is) ∙ sym g.whole ∙ listed) in
      let f' = subst (λ x. Firing now (made ++ xs) (timers v.cyclics) x) is f in (
        record {
          fires = f';
          sound = subst (λ x. All IsSoundTimer x) is sound;
          same = cpu_then v s.cpu t.cpu at.same same;
          makes = makes_more (at_level notes High) noted_id firing now made xs v.cyclics s.cpu.cyclics t.cpu.cyclics (sides [] v)
              (sides ids s.cpu) (sides more t.cpu) lost lost' (sym f'.is) at.makes m;
          next = next left;
        },
        left,
      )

  -- the last part makes all that is left
  calls_all : (high : Option ℕ) (ts : List Timer) (xs : List Expiration) → ComesNext now high ts → expirations now ts ≡ xs
      → IsHandedOut high (ids_at High ts xs) → ids_at High ts xs ≡ pending high
  calls_all None ts [] next is h = refl
  calls_all (Some id) ts [] (p, rest, head, named, high) is h = absurd (no_cons p rest (sym is ∙ head))
  calls_all high ts (q ∷ xs) next is h = calls_pending now high ts q xs [] next (is ∙ sym (append-nil (q ∷ xs))) h

  -- a part that stops in front of another has made the call that was handed out
  calls_front : (high : Option ℕ) (ts : List Timer) (xs : List Expiration) (last : Expiration) (rest : List Expiration)
      (at : Granted) → ComesNext now high ts →
      expirations now ts ≡ xs ++ last ∷ rest → FoldsTo (at_level granted_called High) (grant high) (ids_at High ts xs) at
      → GrantedRefuses at last.id → ids_at High ts xs ≡ pending high
  unfolding head_or
  calls_front None ts [] last rest at next listed way refuses = refl
  calls_front (Some id) ts [] last rest at (p, more, head, named, high) listed way refuses =
      let same : p ≡ last = ap (head_or p) (sym head ∙ listed) in
      absurd (refuses (sym way ∙ ap One (sym named ∙ ap (λ (x : Expiration). x.id) same)))
  calls_front high ts (q ∷ xs) last rest at next listed way refuses =
      calls_pending now high ts q xs (last ∷ rest) next listed (handed_is high (ids_at High ts (q ∷ xs)) at way)

  handed_first : (answer : Result Fired FireRefused) (parts : List (Result Fired FireRefused)) (high : Option ℕ)
      → high ≡ stopped_at answer → pending high ++ handed_out parts ≡ handed_out (answer ∷ parts)
  handed_first answer parts high is = joined high ∙ ap (λ h. cons_option h (handed_out parts)) is
    where
      joined : (h : Option ℕ) → pending h ++ handed_out parts ≡ cons_option h (handed_out parts)
      joined None = refl
      joined (Some x) = refl

  at_once : (v : CpuView R) → MayFire now (awake v)
  at_once v = record { awake = refl; early = λ e. omega (arith, e, soon) }

  -- where it is not suspended at the end, it is the same as where it was not suspended at the beginning
  wakes : (v w : CpuView R) → SameCpu (marked w.suspended v) w → w.suspended ≡ false → SameCpu (awake v) w
  wakes v w same is = record {
    removal = same.removal;
    size = same.size;
    room = same.room;
    most = same.most;
    suspended = is;
  }

  -- what the whole comes to
  abbrev Whole : CpuView R → CpuView R → ℕ → Fired → List ℕ → ℕ → Type 0
  Whole v w expired last ids lost = MayFire now (awake v) × SameCpu (awake v) w
      × (expired ≡ length (expirations now (timers v.cyclics))) × (last.next ≡ earliest (timers w.cyclics))
      × Makes (acting (at_level notes High) noted_id firing) now (expirations now (timers v.cyclics)) (fire_state v.cyclics (sides
      [] v))
      (fire_state w.cyclics (sides ids w)) lost

  -- after a call that makes nothing it stands where it stood
  rests : (call : PartCall) (v : CpuView R) (made : List Expiration) (ids : List ℕ) (lost : ℕ) (s t : Paused R)
      → Stands v made ids lost s → IsRest call → MakesPart firing s call t → Stands v made ids lost t × (t.high ≡ s.high)
  rests call v made ids lost s t at is done =
      let (high, cpu) = rest_keeps firing call s t is done in
      let same : paused s.high (marked t.cpu.suspended s.cpu) ≡ t = λ i. paused (sym high i) (sym cpu i) in (
        subst (λ x. Stands v made ids lost x) same (record {
          fires = at.fires;
          sound = at.sound;
          same = record {
            removal = at.same.removal;
            size = at.same.size;
            room = at.same.room;
            most = at.same.most;
            suspended = refl;
          };
          makes = at.makes;
          next = at.next;
        }),
        high,
      )

  -- what the whole comes to, after these answers and a last one
  abbrev After : CpuView R → CpuView R → List Expiration → List (Result Fired FireRefused) → Fired → List ℕ → Option ℕ → ℕ
      → Type 0
  After v w made parts last ids high lost = Whole v w (length made + (sum_by expired_in_part parts + last.expired)) last
      (ids ++ (pending high ++ handed_out parts)) (lost + (sum_by lost_in_part parts + last.lost))

  -- a part that stopped in front of a high cyclic, and what comes after it
  part : (v w : CpuView R) (answer : Result Fired FireRefused) (parts : List (Result Fired FireRefused)) (last : Fired)
      (made : List Expiration) (ids : List ℕ) (lost : ℕ) (s m : Paused R) →
      HasDistinctIds (timers v.cyclics) → Stands v made ids lost s → MakesPart firing s (Part now answer) m
      → ((made : List Expiration) (ids : List ℕ) (lost : ℕ) → Stands v made ids lost m
      → After v w made parts last ids m.high lost)
      → (id : ℕ) → stopped_at answer ≡ Some id → After v w made (answer ∷ parts) last ids s.high lost
  part v w (Ok r) parts last made ids lost s m distinct at done goes_on_with id paused_at = absurd (none_some paused_at)
    where
      none_some : {A : Type 0} {x : A} → None ≡ Some x → ⊥
      none_some e = cc
  part v w (Err e) parts last made ids lost s m distinct at (left, inl (none, is, kept), stopped) goes_on_with id paused_at =
      absurd (subst (λ x. WhyNoFire now s.cpu x) (refused_is e id paused_at) none)
  part v w (Err e) parts last made ids lost s m distinct at (left, inr (may, same, st), stopped) goes_on_with id paused_at =
      let ts = timers s.cpu.cyclics in
      let (t, found, why_is) = st.stops in
      let (named, few, high, refuses) = subst (λ w. Stops GrantedRefuses s.cpu.most st.at t w) (refused_is e id paused_at) why_is
      in
      let last_is : st.last.id ≡ id = sym (found_id st.last.id (timers m.cpu.cyclics) t found) ∙ sym named in
      let calls = calls_front s.high ts st.made st.last st.rest st.at at.next st.listed st.makes.acts.called_in_order
      (subst (λ n. GrantedRefuses st.at n) (sym last_is) refuses) in
      let high_is : m.high ≡ Some id = stopped ∙ handed_is_stop s.high e id paused_at in
      let is_high : is_at High (timers m.cpu.cyclics) st.last ≡ true = ap (is_of_level High) found ∙ ap (same_level High) high in
      let (at', left_is) = goes_on v made st.made (st.last ∷ st.rest) ids
      (ids ++ pending s.high) lost e.lost s m distinct at st.listed same
      (as_noted s.high st.made ids s.cpu m.cpu st.at e.lost calls st.makes)
      (λ left. subst (λ h. ComesNext now h (timers m.cpu.cyclics)) (sym high_is) (st.last, st.rest, left, last_is, is_high)) in
      let (a, b, c, d, makes) = goes_on_with (made ++ st.made) (ids ++ pending s.high) (lost + e.lost) at' in
      let both = length-append made st.made in
      let count = st.expired in
      let ids_are : (ids ++ pending s.high) ++ (pending m.high ++ handed_out parts)
      ≡ ids ++ (pending s.high ++ handed_out (Err e ∷ parts)) =
      append_assoc ids (pending s.high) (pending m.high ++ handed_out parts)
      ∙ ap (λ ys. ids ++ (pending s.high ++ ys)) (handed_first (Err e) parts m.high (high_is ∙ sym paused_at)) in
      let sum_lost : sum_by lost_in_part (Err e ∷ parts) ≡ e.lost + sum_by lost_in_part parts = sum_by-cons lost_in_part (Err
      e) parts in
      let sum_expired : sum_by expired_in_part (Err e ∷ parts) ≡ e.expired + sum_by expired_in_part parts =
      sum_by-cons expired_in_part (Err e) parts in
      let lost_are : (lost + e.lost) + (sum_by lost_in_part parts + last.lost) ≡ lost + (sum_by lost_in_part (Err e ∷ parts) +
      last.lost) =
      omega (arith, sum_lost) in (
        a,
        b,
        omega (arith, c, both, count, sum_expired),
        d,
        subst (λ n. Makes (acting (at_level notes High) noted_id firing) now (expirations now (timers v.cyclics)) (fire_state
            v.cyclics (sides [] v))
            (fire_state w.cyclics (sides (ids ++ (pending s.high ++ handed_out (Err e ∷ parts))) w)) n) lost_are
            (subst (λ ns. Makes (acting (at_level notes High) noted_id firing) now (expirations now (timers v.cyclics))
            (fire_state v.cyclics (sides [] v))
            (fire_state w.cyclics (sides ns w)) ((lost + e.lost) + (sum_by lost_in_part parts + last.lost))) ids_are makes),
      )

  -- a fire that was refused counts for nothing
  counts_none : (v w : CpuView R) (made : List Expiration) (parts : List (Result Fired FireRefused)) (last : Fired) (ids : List ℕ)
      (high : Option ℕ) (lost : ℕ) → After v w made parts last ids high lost → After v w made (asleep ∷ parts) last ids high lost
  counts_none v w made parts last ids high lost then =
      let a = sum_by-cons expired_in_part asleep parts in
      let b = sum_by-cons lost_in_part asleep parts in
      let x : sum_by expired_in_part (asleep ∷ parts) ≡ sum_by expired_in_part parts = omega (arith, a) in
      let y : sum_by lost_in_part (asleep ∷ parts) ≡ sum_by lost_in_part parts = omega (arith, b) in
      subst (λ n. Whole v w (length made + (n + last.expired)) last (ids ++ (pending high ++ handed_out parts))
      (lost + (sum_by lost_in_part (asleep ∷ parts) + last.lost))) (sym x)
      (subst (λ n. Whole v w (length made + (sum_by expired_in_part parts + last.expired)) last
      (ids ++ (pending high ++ handed_out parts)) (lost + (n + last.lost))) (sym y) then)

  -- a part, or a fire that was refused, and what comes after it
  any_part : (v w : CpuView R) (n : ℕ) (answer : Result Fired FireRefused) (parts : List (Result Fired FireRefused))
      (last : Fired) (made : List Expiration) (ids : List ℕ) (lost : ℕ) (s m : Paused R) →
      HasDistinctIds (timers v.cyclics) → Stands v made ids lost s → MakesPart firing s (Part n answer) m
      → ((made : List Expiration) (ids : List ℕ) (lost : ℕ) → Stands v made ids lost m
      → After v w made parts last ids m.high lost)
      → IsPaused now (Part n answer) → After v w made (answer ∷ parts) last ids s.high lost
  any_part v w n answer parts last made ids lost s m distinct at done goes_on_with (inl (is, id, paused_at)) =
      part v w answer parts last made ids lost s m distinct at (subst (λ k. MakesPart firing s (Part k answer) m) is done)
      goes_on_with id paused_at
  any_part v w n answer parts last made ids lost s m distinct at done goes_on_with (inr is) =
      let (at', high) = rests (Part n answer) v made ids lost s m at is done in
      subst (λ a. After v w made (a ∷ parts) last ids s.high lost) (sym is)
      (counts_none v w made parts last ids s.high lost
      (subst (λ h. After v w made parts last ids h lost) high (goes_on_with made ids lost at')))

  through : (v w : CpuView R) (calls : List PartCall) (last : Fired) (made : List Expiration) (ids : List ℕ)
      (lost : ℕ) (s : Paused R) →
      HasDistinctIds (timers v.cyclics) → Stands v made ids lost s → All (IsPaused now) calls
      → FoldsTo (MakesPart firing) s (calls ++ Part now (Ok last) ∷ []) (paused None w) →
      After v w made (answers calls) last ids s.high lost
  through v w [] last made ids lost s distinct at stops (m, fires, end) =
      let (left, (may, same, expired, next, makes), stopped) = subst (λ x. MakesPart firing s (Part now (Ok last)) x) end fires in
      let ts = timers s.cpu.cyclics in
      let xs = expirations now ts in
      let calls = calls_all s.high ts xs at.next refl (handed_is s.high (ids_at High ts xs) left makes.acts.called_in_order) in
      let (at', none) = goes_on v made xs [] ids (ids ++ pending s.high) lost last.lost s (paused None w) distinct at
      (sym (append-nil xs)) same
      (as_noted s.high xs ids s.cpu w left last.lost calls makes) (λ e. tt) in
      let whole : expirations now (timers v.cyclics) ≡ made ++ xs = at'.fires.whole ∙ ap (λ ys. (made ++ xs) ++ ys) none
      ∙ append-nil (made ++ xs) in
      let long = ap length whole in
      let both = length-append made xs in
      let ids_are : ids ++ pending s.high ≡ ids ++ (pending s.high ++ handed_out []) =
      ap (λ ys. ids ++ ys) (sym (append-nil (pending s.high))) in
      let lost_are : lost + last.lost ≡ lost + (sum_by lost_in_part [] + last.lost) = omega arith in (
        at_once v,
        wakes v w at'.same (same.suspended ∙ may.awake),
        omega (arith, long, both, expired),
        next,
        subst (λ n. Makes (acting (at_level notes High) noted_id firing) now (expirations now (timers v.cyclics)) (fire_state
            v.cyclics (sides [] v))
            (fire_state w.cyclics (sides (ids ++ (pending s.high ++ handed_out [])) w)) n) lost_are
            (subst (λ ns. Makes (acting (at_level notes High) noted_id firing) now (expirations now (timers v.cyclics))
            (fire_state v.cyclics (sides [] v))
            (fire_state w.cyclics (sides ns w)) (lost + last.lost)) ids_are
            (subst (λ ys. Makes (acting (at_level notes High) noted_id firing) now ys (fire_state v.cyclics (sides [] v))
            (fire_state w.cyclics (sides (ids ++ pending s.high) w)) (lost + last.lost)) (sym whole) at'.makes)),
      )
  through v w (Suspends ∷ calls) last made ids lost s distinct at stops (m, done, rest) =
      let (at', high) = rests Suspends v made ids lost s m at tt done in
      subst (λ h. After v w made (answers calls) last ids h lost) high
      (through v w calls last made ids lost m distinct at' (λ k x h. stops (suc k) x (omega (arith, h))) rest)
  through v w (Resumes ∷ calls) last made ids lost s distinct at stops (m, done, rest) =
      let (at', high) = rests Resumes v made ids lost s m at tt done in
      subst (λ h. After v w made (answers calls) last ids h lost) high
      (through v w calls last made ids lost m distinct at' (λ k x h. stops (suc k) x (omega (arith, h))) rest)
  through v w (Part n answer ∷ calls) last made ids lost s distinct at stops (m, done, rest) =
      any_part v w n answer (answers calls) last made ids lost s m distinct at done
      (λ made' ids' lost' at'. through v w calls last made' ids' lost' m distinct at'
      (λ k x h. stops (suc k) x (omega (arith, h))) rest) (stops 0 (Part n answer) (omega arith))

  pub whole : (calls : List PartCall) (last : Fired) (v w : CpuView R) → HasDistinctIds (timers v.cyclics)
      → All IsSoundTimer (timers v.cyclics) → All (IsPaused now) calls →
      FoldsTo (MakesPart firing) (paused None v) (calls ++ Part now (Ok last) ∷ []) (paused None w)
      → IsOneFire firing now (answers calls) last (awake v) w
  whole calls last v w distinct sound stops way =
      let (a, b, c, d, makes) = through v w calls last [] [] 0 (paused None v) distinct (at_start v sound) stops way in
      let parts = answers calls in
      let n : 0 + (sum_by lost_in_part parts + last.lost) ≡ sum_by lost_in_part parts + last.lost = omega arith in (
        a,
        b,
        omega (arith, c),
        d,
        subst (λ l. Makes (acting (at_level notes High) noted_id firing) now (expirations now (timers v.cyclics)) (fire_state
            v.cyclics (sides [] v))
            (fire_state w.cyclics (sides (handed_out parts) w)) l) n makes,
      )
