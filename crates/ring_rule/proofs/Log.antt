-- The trails determine the log.
use Rattle.std.proofs.Common.{◌≡◌, ℕ, zero, suc, ◌+◌, ◌<◌, cond, List, [], ◌∷◌, ◌++◌, length, refl, sym, ap, ◌∙◌, subst, arith}
use Rattle.std.proofs.Common.{eq-eqb, ne_eqb, length-append}
use mathlib.Core.Option.{some, some-injective, some-ne-none}
use lib.ListN.{get_elem?}
use Rattle.cyc_level.specs.declared.Event.{Event}
use Rattle.cyc_level.specs.Events.{AllEnabled}
use Rattle.cyc_level.specs.Runs.{firing_events, soft_events}
use Rattle.ring_rule.specs.declared.RaiseStep.{RaiseStep}
use Rattle.ring_rule.specs.declared.RaiseStep.TheVariants.{Admitted, Loaded, Lost, Added, Stored, Published, Marked, Cleared}
use Rattle.ring_rule.specs.declared.RaiseStep.TheVariants.{Switched, LoadedSoftBank}
use Rattle.ring_rule.specs.declared.DrainStep.{DrainStep}
use Rattle.ring_rule.specs.declared.DrainStep.TheVariants.{LoadedHardBank, LoadedProducer, Took, Subtracted, Followed}
use Rattle.ring_rule.specs.Trail.{raise_event, drain_event, raise_events, drain_events}
use Rattle.ring_rule.specs.Log.{RingStep, of_raise, of_drain, raise_side, raise_positions, drain_side, drain_positions, events_of}
use Rattle.ring_rule.specs.Log.{IsTrue, AllTrue, StepStandsAt}
use Rattle.ring_rule.specs.Laws.{placed, merged}

-- the events of a log are those of its sides
firing_raise : (x : RaiseStep) (es : List Event) → firing_events (raise_event x ++ es) ≡ raise_event x ++ firing_events es
firing_raise (Admitted id index) es = refl
firing_raise (Loaded id found) es = refl
firing_raise (Lost id found) es = refl
firing_raise (Added id found) es = refl
firing_raise (Stored e) es = refl
firing_raise (Published next) es = refl
firing_raise (Marked id found) es = refl
firing_raise (Cleared id) es = refl
firing_raise (Switched bank) es = refl
firing_raise (LoadedSoftBank found) es = refl

firing_drain : (x : DrainStep) (es : List Event) → firing_events (drain_event x ++ es) ≡ firing_events es
firing_drain (LoadedHardBank found) es = refl
firing_drain (LoadedProducer found) es = refl
firing_drain (Took e) es = refl
firing_drain (Subtracted found) es = refl
firing_drain (Followed bank) es = refl

soft_raise : (x : RaiseStep) (es : List Event) → soft_events (raise_event x ++ es) ≡ soft_events es
soft_raise (Admitted id index) es = refl
soft_raise (Loaded id found) es = refl
soft_raise (Lost id found) es = refl
soft_raise (Added id found) es = refl
soft_raise (Stored e) es = refl
soft_raise (Published next) es = refl
soft_raise (Marked id found) es = refl
soft_raise (Cleared id) es = refl
soft_raise (Switched bank) es = refl
soft_raise (LoadedSoftBank found) es = refl

soft_drain : (x : DrainStep) (es : List Event) → soft_events (drain_event x ++ es) ≡ drain_event x ++ soft_events es
soft_drain (LoadedHardBank found) es = refl
soft_drain (LoadedProducer found) es = refl
soft_drain (Took e) es = refl
soft_drain (Subtracted found) es = refl
soft_drain (Followed bank) es = refl

pub firing_side : (log : List RingStep) → firing_events (events_of log) ≡ raise_events (raise_side log)
firing_side [] = refl
firing_side (of_raise x ∷ log) = firing_raise x (events_of log) ∙ ap (λ (es : List Event). raise_event x ++ es) (firing_side log)
firing_side (of_drain x ∷ log) = firing_drain x (events_of log) ∙ firing_side log

pub soft_side : (log : List RingStep) → soft_events (events_of log) ≡ drain_events (drain_side log)
soft_side [] = refl
soft_side (of_raise x ∷ log) = soft_raise x (events_of log) ∙ soft_side log
soft_side (of_drain x ∷ log) = soft_drain x (events_of log) ∙ ap (λ (es : List Event). drain_event x ++ es) (soft_side log)

pub rest_enabled : (ceiling : ℕ) (es fs : List Event) → AllEnabled ceiling (es ++ fs) → AllEnabled ceiling fs
rest_enabled ceiling [] fs h = h
rest_enabled ceiling (e ∷ es) fs h = rest_enabled ceiling es fs h.1

module _ {A : Type 0} where
  abbrev pub rest_of : List A → List A
  rest_of [] = []
  rest_of (x ∷ xs) = xs

  abbrev pub first_or : A → List A → A
  first_or a [] = a
  first_or a (x ∷ xs) = x

  -- the newest position of a trail is below n
  abbrev HeadBelow : ℕ → List (ℕ × A) → Type 0
  HeadBelow n [] = Unit {0}
  HeadBelow n (x ∷ t) = x.0 < n

  weaken : (n : ℕ) (t : List (ℕ × A)) → HeadBelow n t → HeadBelow (suc n) t
  weaken n [] h = tt
  weaken n (x ∷ t) h = omega (arith, h)

abbrev pub raises_placed : List RingStep → List (ℕ × RaiseStep)
raises_placed log = placed (raise_positions log) (raise_side log)

abbrev pub drains_placed : List RingStep → List (ℕ × DrainStep)
drains_placed log = placed (drain_positions log) (drain_side log)

raise_below : (log : List RingStep) → HeadBelow (length log) (raises_placed log)
raise_below [] = tt
raise_below (of_raise z ∷ log) = omega arith
raise_below (of_drain z ∷ log) = weaken (length log) (raises_placed log) (raise_below log)

drain_below : (log : List RingStep) → HeadBelow (length log) (drains_placed log)
drain_below [] = tt
drain_below (of_raise z ∷ log) = weaken (length log) (drains_placed log) (drain_below log)
drain_below (of_drain z ∷ log) = omega arith

merge_raise : (n : ℕ) (x : RaiseStep) (a : List (ℕ × RaiseStep)) (b : List (ℕ × DrainStep))
    → merged (suc n) ((n, x) ∷ a) b ≡ of_raise x ∷ merged n a b
merge_raise n x a [] = refl
merge_raise n x a (y ∷ b) = ap (λ c. cond c (of_raise x ∷ merged n a (y ∷ b)) (of_drain y.1 ∷ merged n ((n, x) ∷ a) b))
    (eq-eqb n n refl)

merge_drain : (n : ℕ) (a : List (ℕ × RaiseStep)) (y : DrainStep) (b : List (ℕ × DrainStep)) → HeadBelow n a
    → merged (suc n) a ((n, y) ∷ b) ≡ of_drain y ∷ merged n a b
merge_drain n [] y b h = refl
merge_drain n (x ∷ a) y b h = ap (λ c. cond c (of_raise x.1 ∷ merged n a ((n, y) ∷ b)) (of_drain y ∷ merged n (x ∷ a) b))
    (ne_eqb x.0 n (λ e. omega (arith, e, h)))

pub whole : (log : List RingStep) → merged (length log) (raises_placed log) (drains_placed log) ≡ log
whole [] = refl
whole (of_raise x ∷ log) = merge_raise (length log) x (raises_placed log) (drains_placed log)
    ∙ ap (λ l. of_raise x ∷ l) (whole log)
whole (of_drain y ∷ log) = merge_drain (length log) (raises_placed log) y (drains_placed log) (raise_below log)
    ∙ ap (λ l. of_drain y ∷ l) (whole log)

pub sizes : (log : List RingStep) → length log ≡ length (raises_placed log) + length (drains_placed log)
sizes [] = omega arith
sizes (of_raise x ∷ log) = omega (arith, sizes log)
sizes (of_drain x ∷ log) = omega (arith, sizes log)

-- as many steps as the trails have
pub steps : (log : List RingStep) → length log ≡ length (raise_side log) + length (drain_side log)
steps [] = omega arith
steps (of_raise x ∷ log) = omega (arith, steps log)
steps (of_drain x ∷ log) = omega (arith, steps log)

pub same_log : (l m : List RingStep) → raises_placed l ≡ raises_placed m → drains_placed l ≡ drains_placed m → l ≡ m
same_log l m e f = let long : length l ≡ length m = omega (arith, sizes l, sizes m, ap length e, ap length f) in sym (whole l)
    ∙ ((λ z. merged (long z) (e z) (f z)) ∙ whole m)

pub gained_raise : (l m : List RingStep) (position : ℕ) (x : RaiseStep) → raises_placed m ≡ (position, x) ∷ raises_placed l
    → drains_placed m ≡ drains_placed l → (position ≡ length l) × (m ≡ of_raise x ∷ l)
gained_raise l [] position x e f = absurd (omega (arith, ap length e))
gained_raise l (of_raise z ∷ m) position x e f = let same : m ≡ l = same_log m l (ap rest_of e) f in
    let h : (length m, z) ≡ (position, x) = ap (first_or (position, x)) e in
    (sym (ap (λ p. p.0) h) ∙ ap length same, λ k. of_raise ((h k).1) ∷ same k)
gained_raise l (of_drain z ∷ m) position x e f = let low : length m < length l =
    subst (λ t. HeadBelow (length l) t) (sym f) (drain_below l) in
    absurd (omega (arith, low, sizes m, sizes l, ap length e, ap length f))

pub gained_drain : (l m : List RingStep) (position : ℕ) (x : DrainStep) → raises_placed m ≡ raises_placed l
    → drains_placed m ≡ (position, x) ∷ drains_placed l → (position ≡ length l) × (m ≡ of_drain x ∷ l)
gained_drain l [] position x e f = absurd (omega (arith, ap length f))
gained_drain l (of_raise z ∷ m) position x e f = let low : length m < length l =
    subst (λ t. HeadBelow (length l) t) (sym e) (raise_below l) in
    absurd (omega (arith, low, sizes m, sizes l, ap length e, ap length f))
gained_drain l (of_drain z ∷ m) position x e f = let same : m ≡ l = same_log m l e (ap rest_of f) in
    let h : (length m, z) ≡ (position, x) = ap (first_or (position, x)) f in
    (sym (ap (λ p. p.0) h) ∙ ap length same, λ k. of_drain ((h k).1) ∷ same k)

-- trails that only grow are those of a log that only grows
pub grown : (l m : List RingStep) (xs : List (ℕ × RaiseStep)) (ys : List (ℕ × DrainStep))
    → raises_placed m ≡ xs ++ raises_placed l → drains_placed m ≡ ys ++ drains_placed l → (later : List RingStep)
    × (m ≡ later ++ l)
grown l [] xs ys e f = let p = length-append xs (raises_placed l) in let q = length-append ys (drains_placed l) in let a =
    sizes l in let x = ap length e in let y = ap length f in
    let none : length l ≡ 0 = omega (arith, p, q, a, x, y) in ([], sym (empty l none))
  where
    empty : (l : List RingStep) → length l ≡ 0 → l ≡ []
    empty [] z = refl
    empty (x ∷ l) z = absurd (omega (arith, z))
grown l (of_raise z ∷ m) [] ys e f = let low : length m < length l = subst (λ t. HeadBelow (length l) t) (sym e) (raise_below l)
    in let q = length-append ys (drains_placed l) in
    let a = sizes m in let b = sizes l in let x = ap length e in let y = ap length f in let none : length ys ≡ 0 =
    omega (arith, low, q, a, b, x, y) in
    ([], same_log (of_raise z ∷ m) l e (f ∙ ap (λ (t : List (ℕ × DrainStep)). t ++ drains_placed l) (bare ys none)))
  where
    bare : (t : List (ℕ × DrainStep)) → length t ≡ 0 → t ≡ []
    bare [] z = refl
    bare (x ∷ t) z = absurd (omega (arith, z))
grown l (of_raise z ∷ m) (x ∷ xs) ys e f = let r = grown l m xs ys (ap rest_of e) f in
    (of_raise z ∷ r.0, ap (λ (t : List RingStep). of_raise z ∷ t) r.1)
grown l (of_drain z ∷ m) xs [] e f = let low : length m < length l = subst (λ t. HeadBelow (length l) t) (sym f) (drain_below l)
    in let q = length-append xs (raises_placed l) in
    let a = sizes m in let b = sizes l in let x = ap length e in let y = ap length f in let none : length xs ≡ 0 =
    omega (arith, low, q, a, b, x, y) in
    ([], same_log (of_drain z ∷ m) l (e ∙ ap (λ (t : List (ℕ × RaiseStep)). t ++ raises_placed l) (bare xs none)) f)
  where
    bare : (t : List (ℕ × RaiseStep)) → length t ≡ 0 → t ≡ []
    bare [] z = refl
    bare (x ∷ t) z = absurd (omega (arith, z))
grown l (of_drain z ∷ m) xs (y ∷ ys) e f = let r = grown l m xs ys e (ap rest_of f) in
    (of_drain z ∷ r.0, ap (λ (t : List RingStep). of_drain z ∷ t) r.1)

module _ (start : ℕ) where
  further : (y : RingStep) (log : List RingStep) (position : ℕ) (x : RingStep) → StepStandsAt start log position x
      → StepStandsAt start (y ∷ log) position x
  further y log position x (later, earlier, is, long, true) = (y ∷ later, earlier, ap (λ l. y ∷ l) is, long, true)

  pub raise_stands : (log : List RingStep) → AllTrue start log → (n : ℕ) (x : RaiseStep) → get_elem? (raise_side log) n ≡ some x
      → (position : ℕ) × (get_elem? (raise_positions log) n ≡ some position) × StepStandsAt start log position (of_raise x)
  raise_stands [] h n x e = absurd (some-ne-none x (sym e))
  raise_stands (of_raise z ∷ log) h zero x e = let p : z ≡ x = some-injective z x e in (
    length log,
    refl,
    (
      [],
      log,
      (λ k. of_raise (p k) ∷ log),
      refl,
      subst (λ (q : RaiseStep). IsTrue start (of_raise q) log) p h.0,
    ),
  )
  raise_stands (of_raise z ∷ log) h (suc n) x e = let r = raise_stands log h.1 n x e in
      (r.0, r.1, further (of_raise z) log r.0 (of_raise x) r.2)
  raise_stands (of_drain z ∷ log) h n x e = let r = raise_stands log h.1 n x e in
      (r.0, r.1, further (of_drain z) log r.0 (of_raise x) r.2)

  pub drain_stands : (log : List RingStep) → AllTrue start log → (n : ℕ) (x : DrainStep) → get_elem? (drain_side log) n ≡ some x
      → (position : ℕ) × (get_elem? (drain_positions log) n ≡ some position) × StepStandsAt start log position (of_drain x)
  drain_stands [] h n x e = absurd (some-ne-none x (sym e))
  drain_stands (of_drain z ∷ log) h zero x e = let p : z ≡ x = some-injective z x e in (
    length log,
    refl,
    (
      [],
      log,
      (λ k. of_drain (p k) ∷ log),
      refl,
      subst (λ (q : DrainStep). IsTrue start (of_drain q) log) p h.0,
    ),
  )
  drain_stands (of_drain z ∷ log) h (suc n) x e = let r = drain_stands log h.1 n x e in
      (r.0, r.1, further (of_drain z) log r.0 (of_drain x) r.2)
  drain_stands (of_raise z ∷ log) h n x e = let r = drain_stands log h.1 n x e in
      (r.0, r.1, further (of_raise z) log r.0 (of_drain x) r.2)
