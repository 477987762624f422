-- What the soft side does can happen, and so can each Publish.
use Rattle.std.proofs.Common.{◌≡◌, ◌≢◌, ℕ, zero, suc, ◌==◌, ◌&&◌, eq-eqb, ne_eqb, Bool, true, false, cond, List, [], ◌∷◌, ◌++◌}
use Rattle.std.proofs.Common.{map, Option, Some, None, refl, ap, sym, ◌∙◌, subst}
use Rattle.std.specs.Prelude.{is_some, IsSome}
use Rattle.std.specs.Option.{option_map_or}
use mathlib.Core.Logic.{dite}
use native.Mathlib.Decide.{ℕ_discrete}
use Rattle.cyc_types.specs.declared.level.Soft.{Soft}
use Rattle.cyc_types.specs.declared.level.Soft.TheVariants.{Low, Lock}
use Rattle.cyc_types.specs.declared.level.Level.{Level}
use Rattle.cyc_types.specs.declared.level.Level.TheVariants as level
use Rattle.cyc_level.specs.declared.Event.{Event}
use Rattle.cyc_level.specs.declared.Event.TheVariants.{Expire, Lose, Publish, Finish, Switch, Follow}
use Rattle.cyc_level.specs.Level.{SoftLevel, count, soft_list}
use Rattle.cyc_level.specs.Events.{after, after_finish, hand_after_expire}
use Rattle.cyc_model.specs.Acts.{Act, At, Call, at_own, same_soft, event_at, events_at}
use Rattle.cyc_model.specs.Cpu.{Cpu}
use Rattle.cyc_model.specs.Firing.{raised, expiry}
use Rattle.cyc_model.specs.Serving.{level_after, looks, look, Interrupt, calling, found_nothing, serve, level_at}
use Rattle.cyc_model.specs.Laws.{AllCanAsSoft}
use Rattle.cyc_model.proofs.Events.{level_append, events_append}

-- these events can happen as far as the soft side has a part in them, and leave the firer's hand empty
abbrev pub Fair : List Event → SoftLevel → Type 0
Fair es l = AllCanAsSoft es l × ((level_after es l).firer_hand ≡ None)

can_append : (xs ys : List Event) (l : SoftLevel) → AllCanAsSoft xs l → AllCanAsSoft ys (level_after xs l)
    → AllCanAsSoft (xs ++ ys) l
can_append [] ys l first rest = rest
can_append (x ∷ xs) ys l first rest = (first.0, can_append xs ys (after x l) first.1 rest)

pub fair_append : (xs ys : List Event) (l : SoftLevel) → AllCanAsSoft xs l → Fair ys (level_after xs l) → Fair (xs ++ ys) l
fair_append xs ys l first rest =
    (can_append xs ys l first rest.0, ap (λ (m : SoftLevel). m.firer_hand) (level_append xs ys l) ∙ rest.1)

-- an event of the firing side that leaves its hand as it is
abbrev pub Quiet : Event → Type 0
Quiet e = (l : SoftLevel) → l.firer_hand ≡ None → Fair (e ∷ []) l

-- the acts are fair at a CPU whose firer's hands are empty
abbrev pub FairAt : ℕ → List Act → Cpu → Type 0
FairAt n acts c = (soft : Soft) → (level_at soft c).firer_hand ≡ None → Fair (events_at n soft acts) (level_at soft c)

-- the events of the acts of one level
pub own_events : (n : ℕ) (from soft : Soft) (es : List Event) → events_at n soft (map (At n from) es)
    ≡ cond (same_soft from soft) es []
own_events n from soft [] = sym (by (same_soft from soft))
  where
    by : (b : Bool) → cond {A = List Event} b [] [] ≡ []
    by true = refl
    by false = refl
own_events n from soft (e ∷ es) =
    ap (λ (b : Bool). cond (b && same_soft from soft) (e ∷ []) [] ++ events_at n soft (map (At n from) es)) (eq-eqb n n refl)
    ∙ ap (λ ys. cond (same_soft from soft) (e ∷ []) [] ++ ys) (own_events n from soft es)
    ∙ by (same_soft from soft)
  where
    by : (b : Bool) → cond b (e ∷ []) [] ++ cond b es [] ≡ cond b (e ∷ es) []
    by true = refl
    by false = refl

pub fair_map : (n : ℕ) (from : Soft) (es : List Event) (c : Cpu)
    → ((level_at from c).firer_hand ≡ None → Fair es (level_at from c)) → FairAt n (map (At n from) es) c
fair_map n from es c fair soft free = subst (λ ys. Fair ys (level_at soft c)) (sym (own_events n from soft es))
    (by from soft fair free)
  where
    by : (a b : Soft) → ((level_at a c).firer_hand ≡ None → Fair es (level_at a c)) → (level_at b c).firer_hand ≡ None
        → Fair (cond (same_soft a b) es []) (level_at b c)
    by Low Low f h = f h
    by Lock Lock f h = f h
    by Low Lock f h = (tt, h)
    by Lock Low f h = (tt, h)

pub fair_own : (n : ℕ) (l : Level) (e : Event) (c : Cpu) → Quiet e → FairAt n (at_own n l e) c
fair_own n level.High e c quiet soft free = (tt, free)
fair_own n level.Lock e c quiet soft free = fair_map n Lock (e ∷ []) c (quiet c.lock) soft free
fair_own n level.Low e c quiet soft free = fair_map n Low (e ∷ []) c (quiet c.low) soft free

-- ---- expirations

is_some_of : {A : Type 0} → (o : Option A) (x : A) → o ≡ Some x → IsSome o
is_some_of o x e = subst (λ k. IsSome k) (sym e) refl

fair_raised : (id : ℕ) (l : SoftLevel) → l.firer_hand ≡ None → Fair (raised id l) l
fair_raised id l free = by (count l id == l.ceiling)
  where
    from_zero : count l id ≡ 0 → Fair (Expire id ∷ Publish ∷ []) l
    from_zero none = (
      (
        tt,
        (
          is_some_of (hand_after_expire (count l id) id l.firer_hand) id
              (ap (λ n. hand_after_expire n id l.firer_hand) none),
          tt,
        ),
      ),
      refl,
    )

    hand_stays : (n : ℕ) → n ≢ 0 → hand_after_expire n id l.firer_hand ≡ None
    hand_stays zero some = absurd (some refl)
    hand_stays (suc n) some = free

    by_count : Fair (cond (count l id == 0) (Expire id ∷ Publish ∷ []) (Expire id ∷ [])) l
    by_count = dite (ℕ_discrete (count l id) 0)
        (λ none. subst (λ (b : Bool). Fair (cond b (Expire id ∷ Publish ∷ []) (Expire id ∷ [])) l)
        (sym (eq-eqb (count l id) 0 none)) (from_zero none))
        (λ some. subst (λ (b : Bool). Fair (cond b (Expire id ∷ Publish ∷ []) (Expire id ∷ [])) l)
        (sym (ne_eqb (count l id) 0 some))
        ((tt, tt), hand_stays (count l id) some))

    by : (b : Bool) → Fair (cond b (Lose id ∷ []) (cond (count l id == 0) (Expire id ∷ Publish ∷ []) (Expire id ∷ []))) l
    by true = ((tt, tt), free)
    by false = by_count

pub fair_expiry : (n : ℕ) (l : Level) (id : ℕ) (c : Cpu) → FairAt n (expiry n l id c) c
fair_expiry n level.High id c soft free = (tt, free)
fair_expiry n level.Lock id c soft free = fair_map n Lock (raised id c.lock) c (fair_raised id c.lock) soft free
fair_expiry n level.Low id c soft free = fair_map n Low (raised id c.low) c (fair_raised id c.low) soft free

-- ---- a soft interrupt

differ : (l : SoftLevel) → (l.hard_bank == l.soft_bank) ≡ false → l.hard_bank ≢ l.soft_bank
differ l apart same = absurd (let both : true ≡ false = sym (eq-eqb l.hard_bank l.soft_bank same) ∙ apart in cc)

not_empty : (x : ℕ) (xs ys : List ℕ) → ys ≡ x ∷ xs → ys ≢ []
not_empty x xs ys is none = absurd (let no : (x ∷ xs) ≡ [] = sym is ∙ none in cc)

can_take : (old new : List ℕ) (same : Bool) (l : SoftLevel) → l.drainer_hand ≡ None → l.old_list ≡ old → l.new_list ≡ new
    → (l.hard_bank == l.soft_bank) ≡ same → AllCanAsSoft (looks old new same) l
can_take old (x ∷ xs) true l free is_old is_new same =
    ((free, not_empty x xs (soft_list l) (ap (λ (b : Bool). cond b l.new_list l.old_list) same ∙ is_new)), tt)
can_take old [] true l free is_old is_new same = tt
can_take (x ∷ xs) new false l free is_old is_new same =
    ((free, not_empty x xs (soft_list l) (ap (λ (b : Bool). cond b l.new_list l.old_list) same ∙ is_old)), tt)
can_take [] (y ∷ ys) false l free is_old is_new same = (
  (differ l same, is_old),
  (
    (
      free,
      not_empty y ys (soft_list (after Follow l))
          (ap (λ (b : Bool). cond b l.new_list l.old_list) (eq-eqb l.hard_bank l.hard_bank refl) ∙ is_new),
    ),
    tt,
  ),
)
can_take [] [] false l free is_old is_new same = ((differ l same, is_old), tt)

looks_keep : (old new : List ℕ) (b : Bool) (l : SoftLevel) → (level_after (looks old new b) l).firer_hand ≡ l.firer_hand
looks_keep old (x ∷ xs) true l = refl
looks_keep old [] true l = refl
looks_keep (x ∷ xs) new false l = refl
looks_keep [] (x ∷ xs) false l = refl
looks_keep [] [] false l = refl

look_as : (hand : Option ℕ) (l : SoftLevel) → l.drainer_hand ≡ hand → l.firer_hand ≡ None
    → Fair (cond (is_some hand) [] (looks l.old_list l.new_list (l.hard_bank == l.soft_bank))) l
look_as (Some id) l is free = (tt, free)
look_as None l is free = (
  can_take l.old_list l.new_list (l.hard_bank == l.soft_bank) l is refl refl refl,
  looks_keep l.old_list l.new_list (l.hard_bank == l.soft_bank) l ∙ free,
)

fair_look : (l : SoftLevel) → l.firer_hand ≡ None → Fair (look l) l
fair_look l free = look_as l.drainer_hand l refl free

finish_keeps : (hand : Option ℕ) (l : SoftLevel) → (after_finish hand l).firer_hand ≡ l.firer_hand
finish_keeps None l = refl
finish_keeps (Some id) l = refl

pub same_itself : (soft : Soft) → same_soft soft soft ≡ true
same_itself Low = refl
same_itself Lock = refl

-- the events of the level itself
pub own_all : (n : ℕ) (soft : Soft) (es : List Event) → events_at n soft (map (At n soft) es) ≡ es
own_all n soft es = own_events n soft soft es ∙ ap (λ (b : Bool). cond b es []) (same_itself soft)

finish_own : (n : ℕ) (soft : Soft) → event_at n soft (At n soft Finish) ≡ Finish ∷ []
finish_own n soft =
    ap (λ (b : Bool). cond (b && same_soft soft soft) (Finish ∷ []) []) (eq-eqb n n refl)
    ∙ ap (λ (b : Bool). cond b (Finish ∷ []) []) (same_itself soft)

pub call_events : (n : ℕ) (soft : Soft) (looked : List Event) (id : ℕ) (rest : List Act)
    → events_at n soft (map (At n soft) looked ++ Call id ∷ At n soft Finish ∷ rest) ≡ looked ++ Finish ∷ events_at n soft rest
call_events n soft looked id rest =
    events_append n soft (map (At n soft) looked) (Call id ∷ At n soft Finish ∷ rest)
    ∙ ap (λ es. es ++ events_at n soft (Call id ∷ At n soft Finish ∷ rest)) (own_all n soft looked)
    ∙ ap (λ es. looked ++ (es ++ events_at n soft rest)) (finish_own n soft)

serve_as : (n : ℕ) (soft : Soft) (l : SoftLevel) (rest : SoftLevel → Interrupt) → l.firer_hand ≡ None
    → ((m : SoftLevel) → m.firer_hand ≡ None → Fair (events_at n soft (rest m).acts) m)
    → (hand : Option ℕ) → (level_after (look l) l).drainer_hand ≡ hand
    → Fair (events_at n soft
    (option_map_or (λ (id : ℕ). calling n soft (look l) id (rest (after Finish (level_after (look l) l)))) hand
    (found_nothing n soft (look l))).acts) l
serve_as n soft l rest free more None is = subst (λ es. Fair es l) (sym (own_all n soft (look l))) (fair_look l free)
serve_as n soft l rest free more (Some id) is =
    let m = level_after (look l) l in
    subst (λ es. Fair es l) (sym (call_events n soft (look l) id (rest (after Finish m)).acts))
    (fair_append (look l) (Finish ∷ events_at n soft (rest (after Finish m)).acts) l (fair_look l free).0
    (let after' = more (after Finish m) (finish_keeps m.drainer_hand m ∙ (fair_look l free).1) in
    ((is_some_of m.drainer_hand id is, after'.0), after'.1)))

fair_serve : (n : ℕ) (soft : Soft) (budget : ℕ) (l : SoftLevel) → l.firer_hand ≡ None
    → Fair (events_at n soft (serve n soft budget l).acts) l
fair_serve n soft zero l free = (tt, free)
fair_serve n soft (suc budget) l free =
    serve_as n soft l (serve n soft budget) free (fair_serve n soft budget) (level_after (look l) l).drainer_hand refl

-- another level sees nothing of it
looked_none : (n : ℕ) (soft other : Soft) → same_soft soft other ≡ false → (looked : List Event)
    → events_at n other (map (At n soft) looked) ≡ []
looked_none n soft other apart looked = own_events n soft other looked ∙ ap (λ (b : Bool). cond b looked []) apart

finish_none : (n : ℕ) (soft other : Soft) → same_soft soft other ≡ false → event_at n other (At n soft Finish) ≡ []
finish_none n soft other apart =
    ap (λ (b : Bool). cond (b && same_soft soft other) (Finish ∷ []) []) (eq-eqb n n refl)
    ∙ ap (λ (b : Bool). cond b (Finish ∷ []) []) apart

other_as : (n : ℕ) (soft other : Soft) → same_soft soft other ≡ false → (l : SoftLevel) (rest : SoftLevel → Interrupt)
    → ((m : SoftLevel) → events_at n other (rest m).acts ≡ []) → (hand : Option ℕ)
    → events_at n other (option_map_or
    (λ (id : ℕ). calling n soft (look l) id (rest (after Finish (level_after (look l) l)))) hand
    (found_nothing n soft (look l))).acts ≡ []
other_as n soft other apart l rest none None = looked_none n soft other apart (look l)
other_as n soft other apart l rest none (Some id) =
    let acts = (rest (after Finish (level_after (look l) l))).acts in
    events_append n other (map (At n soft) (look l)) (Call id ∷ At n soft Finish ∷ acts)
    ∙ ap (λ es. es ++ (event_at n other (At n soft Finish) ++ events_at n other acts)) (looked_none n soft other apart (look l))
    ∙ ap (λ es. es ++ events_at n other acts) (finish_none n soft other apart)
    ∙ none (after Finish (level_after (look l) l))

pub serve_other : (n : ℕ) (soft other : Soft) → same_soft soft other ≡ false → (budget : ℕ) (l : SoftLevel)
    → events_at n other (serve n soft budget l).acts ≡ []
serve_other n soft other apart zero l = refl
serve_other n soft other apart (suc budget) l =
    other_as n soft other apart l (serve n soft budget) (serve_other n soft other apart budget)
    (level_after (look l) l).drainer_hand

pub fair_serve_at : (n : ℕ) (soft : Soft) (budget : ℕ) (c : Cpu) → FairAt n (serve n soft budget (level_at soft c)).acts c
fair_serve_at n Low budget c Low free = fair_serve n Low budget c.low free
fair_serve_at n Lock budget c Lock free = fair_serve n Lock budget c.lock free
fair_serve_at n Low budget c Lock free = subst (λ es. Fair es c.lock) (sym (serve_other n Low Lock refl budget c.low)) (tt, free)
fair_serve_at n Lock budget c Low free = subst (λ es. Fair es c.low) (sym (serve_other n Lock Low refl budget c.lock)) (tt, free)

-- a switch of both banks, at each level
pub switch_events : (n bank : ℕ) (soft : Soft)
    → events_at n soft (At n Lock (Switch bank) ∷ At n Low (Switch bank) ∷ []) ≡ Switch bank ∷ []
switch_events n bank Low =
    ap (λ (b : Bool). cond (b && false) (Switch bank ∷ []) [] ++ (cond (b && true) (Switch bank ∷ []) [] ++ [])) (eq-eqb n n refl)
switch_events n bank Lock =
    ap (λ (b : Bool). cond (b && true) (Switch bank ∷ []) [] ++ (cond (b && false) (Switch bank ∷ []) [] ++ [])) (eq-eqb n n refl)

pub fair_switch : (n bank : ℕ) (c : Cpu) → FairAt n (At n Lock (Switch bank) ∷ At n Low (Switch bank) ∷ []) c
fair_switch n bank c soft free =
    subst (λ es. Fair es (level_at soft c)) (sym (switch_events n bank soft)) ((tt, tt), free)
