-- What a fire makes, and what it makes after that, is what it makes.
use Rattle.std.proofs.Common.{◌≡◌, ℕ, ◌+◌, ◌==◌, Bool, true, false, cond, Some, List, [], ◌∷◌, ◌++◌, map, filter, refl, sym, ap}
use Rattle.std.proofs.Common.{◌∙◌, arith}
use Rattle.std.proofs.lemmas.List.{map-append}
use Rattle.std.proofs.lemmas.List.Elements.{filter-append}
use Rattle.cyc_types.specs.declared.Raise.{Ghosts as Raise}
use Rattle.cyc_types.specs.Firing.{FiringCall}
use Rattle.cyc_types.specs.declared.level.Level.{Level}
use Rattle.cyc_types.specs.declared.level.Level.TheVariants.{Low, Lock, High}
use Rattle.cyc_types.proofs.Runs.{lost_on}
use Rattle.cyc_types.specs.Expirations.{Expiration, after_expirations, all_after}
use Rattle.cyc_types.specs.Timers.{Timer}
use Rattle.cyc_types.proofs.Firings.{after_id}
use Rattle.cyc_timers.specs.Rows.{Cyclic, timers}
use Rattle.cyc_timers.specs.Acts.{Sides, ids_at, is_at, is_of_level, same_level, timer_of, way_losses, lost_after, acting}
use Rattle.cyc_timers.specs.Made.{Makes, fire_state}
use Rattle.cyc_timers.proofs.Acting.{acts_more, losses_on}

after_level : (now : ℕ) (made : List Expiration) (t : Timer) → (after_expirations now made t).level ≡ t.level
unfolding after_expirations
after_level now made t = refl

-- a cyclic is found at its level all through a fire
found : (l : Level) (id now : ℕ) (made : List Expiration) (ts : List Timer)
    → is_of_level l (timer_of id (map (after_expirations now made) ts)) ≡ is_of_level l (timer_of id ts)
found l id now made [] = refl
found l id now made (t ∷ ts) =
    ap (λ i. is_of_level l (cond (i == id) (Some (after_expirations now made t)) (timer_of id (map (after_expirations now made)
    ts)))) (after_id now made t)
    ∙ here (t.id == id) (found l id now made ts)
  where
    here : (b : Bool) → is_of_level l (timer_of id (map (after_expirations now made) ts)) ≡ is_of_level l (timer_of id ts) →
        is_of_level l (cond b (Some (after_expirations now made t)) (timer_of id (map (after_expirations now made) ts)))
        ≡ is_of_level l (cond b (Some t) (timer_of id ts))
    here true rest = ap (λ x. same_level l x) (after_level now made t)
    here false rest = rest

filter_same : {A : Type 0} (f g : A → Bool) → ((x : A) → f x ≡ g x) → (xs : List A) → filter f xs ≡ filter g xs
filter_same f g h [] = refl
filter_same f g h (x ∷ xs) = ap (λ b. cond b (x ∷ filter f xs) (filter f xs)) (h x)
    ∙ ap (λ ys. cond (g x) (x ∷ ys) ys) (filter_same f g h xs)

-- the ids of one level in a list, and in what comes after it
pub ids_on : (l : Level) (now : ℕ) (ts cur : List Timer) (made more : List Expiration) → cur ≡ all_after now made ts →
    ids_at l ts (made ++ more) ≡ ids_at l ts made ++ ids_at l cur more
unfolding all_after
ids_on l now ts cur made more is =
    ap (map (λ (q : Expiration). q.id)) (filter-append (is_at l ts) made more)
    ∙ map-append (λ (q : Expiration). q.id) (filter (is_at l ts) made) (filter (is_at l ts) more)
    ∙ ap (λ xs. ids_at l ts made ++ map (λ (q : Expiration). q.id) xs) (filter_same (is_at l ts) (is_at l cur)
    (λ p. sym (ap (λ xs. is_at l xs p) is ∙ found l p.id now made ts)) more)

ids_after : (now : ℕ) (made : List Expiration) (ts : List Timer)
    → map (λ (t : Timer). t.id) (all_after now made ts) ≡ map (λ (t : Timer). t.id) ts
unfolding all_after
ids_after now made [] = refl
ids_after now made (t ∷ ts) = λ i. after_id now made t i ∷ ids_after now made ts i

ids_timers : (cs : List Cyclic) → map (λ (c : Cyclic). c.timer.id) cs ≡ map (λ (t : Timer). t.id) (timers cs)
ids_timers [] = refl
ids_timers (c ∷ cs) = λ i. c.timer.id ∷ ids_timers cs i

ids_fired : (now : ℕ) (made : List Expiration) (cs cs' : List Cyclic) → timers cs' ≡ all_after now made (timers cs) →
    map (λ (c : Cyclic). c.timer.id) cs' ≡ map (λ (c : Cyclic). c.timer.id) cs
ids_fired now made cs cs' is = ids_timers cs' ∙ ap (map (λ (t : Timer). t.id)) is ∙ ids_after now made (timers cs)
    ∙ sym (ids_timers cs)

lost_then : (a b c d : List FiringCall) (id lost : ℕ)
    → lost_after c d id (lost_after a b id lost) ≡ lost_after (a ++ c) (b ++ d) id lost
lost_then a b c d id lost = (let x = lost_on id a c in let y = lost_on id b d in omega (arith, x, y))

head_or : {A : Type 0} → A → List A → A
head_or x [] = x
head_or x (y ∷ ys) = y

tail_of : {A : Type 0} → List A → List A
tail_of [] = []
tail_of (y ∷ ys) = ys

lost_each : (a b c d : List FiringCall) (cs cs' : List Cyclic)
    → map (λ (x : Cyclic). x.timer.id) cs' ≡ map (λ (x : Cyclic). x.timer.id) cs →
    map (λ (x : Cyclic). x.lost) cs' ≡ map (λ (x : Cyclic). lost_after a b x.timer.id x.lost) cs →
    map (λ (x : Cyclic). lost_after c d x.timer.id x.lost) cs'
    ≡ map (λ (x : Cyclic). lost_after (a ++ c) (b ++ d) x.timer.id x.lost) cs
unfolding tail_of head_or
lost_each a b c d [] [] ids lost = refl
lost_each a b c d [] (y ∷ ys) ids lost = absurd cc
lost_each a b c d (x ∷ xs) [] ids lost = absurd cc
lost_each a b c d (x ∷ xs) (y ∷ ys) ids lost =
    let i = ap (head_or 0) ids in
    let l = ap (head_or 0) lost in
    let rest = lost_each a b c d xs ys (ap tail_of ids) (ap tail_of lost) in
    let first : lost_after c d y.timer.id y.lost ≡ lost_after (a ++ c) (b ++ d) x.timer.id x.lost =
    ap (λ n. lost_after c d n y.lost) i ∙ ap (λ n. lost_after c d x.timer.id n) l ∙ lost_then a b c d x.timer.id x.lost in
    λ j. first j ∷ rest j

module _ {C R : Type 0} (called : C → ℕ → C → Type 0) (count : C → ℕ → ℕ) (firing : Raise R) where
  pub makes_more : (now : ℕ) (made more : List Expiration) (cs cs' cs'' : List Cyclic) (s m t : Sides C R) (lost lost' : ℕ) →
      all_after now (made ++ more) (timers cs) ≡ timers cs'' → Makes (acting called count firing) now made (fire_state cs s)
      (fire_state cs' m) lost
      → Makes (acting called count firing) now more (fire_state cs' m)
      (fire_state cs'' t) lost' →
      Makes (acting called count firing) now (made ++ more) (fire_state cs s)
      (fire_state cs'' t) (lost + lost')
  makes_more now made more cs cs' cs'' s m t lost lost' whole a b =
      let on = λ (l : Level). ids_on l now (timers cs) (timers cs') made more a.timers_are in
      let (acts, lock, low) = acts_more called count firing _ _ _ _ _ _ _ _ _ s m t a.acts b.acts (on High) (on Lock) (on Low)
      in
      record {
        acts = acts;
        timers_are = sym whole;
        carried_are = b.carried_are ∙ a.carried_are;
        losses_are = b.losses_are
            ∙ lost_each a.acts.lock_way a.acts.low_way b.acts.lock_way b.acts.low_way cs cs'
            (ids_fired now made cs cs' a.timers_are) a.losses_are
            ∙ sym (ap (λ w. map (λ (c : Cyclic). lost_after w acts.low_way c.timer.id c.lost) cs) lock
            ∙ ap (λ w. map (λ (c : Cyclic). lost_after (a.acts.lock_way ++ b.acts.lock_way) w c.timer.id c.lost) cs) low);
        lost_is = (let x = ap way_losses lock in let y = ap way_losses low in
            let p = losses_on a.acts.lock_way b.acts.lock_way in let q =
            losses_on a.acts.low_way b.acts.low_way in let u = a.lost_is in let v = b.lost_is in omega (arith, x, y, p, q, u, v));
      }
