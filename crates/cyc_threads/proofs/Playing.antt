-- What seats and handlers become in a run.
use Rattle.std.proofs.Common.{◌≡◌, ℕ, suc, List, [], ◌∷◌, refl, sym, ap, subst, ◌∙◌, arith, map, length}
use Rattle.std.specs.Prelude.{All}
use Rattle.std.specs.List.{slice_get}
use Rattle.std.proofs.lemmas.List.Elements.{All-nil, All-cons}
use Rattle.cyc_types.specs.declared.Calls.{Ghosts as Calls}
use Rattle.cyc_types.specs.Levels.{at_level, handler_at}
use Rattle.cyc_types.specs.declared.level.Level.TheVariants.{Low, Lock}
use Rattle.cyc_types.specs.Pairs.{EachTwo}
use Rattle.ring_rule.specs.declared.RaiseStep.{RaiseStep}
use Rattle.cyc_ring.specs.declared.ring.Ring.{Ring}
use Rattle.cyc_ring.specs.declared.ends.RaiseEnd.{RaiseEnd}
use Rattle.cyc_ring.specs.declared.ends.DrainEnd.{DrainEnd}
use Rattle.cyc_ring.specs.Views.{trail_view}
use Rattle.cyc_ring.specs.Ends.{end_view, seat_made, drain_end, raise_trail, drain_trail}
use Rattle.cyc_cpu.specs.Cpu.{CpuView, IsFresh}
use Rattle.cyc_agreement.specs.Cpus.{new_cpu}
use Rattle.cyc_soft.specs.declared.SoftSide.{SoftSide}
use Rattle.cyc_workers.specs.Serving.{HasServed}
use Rattle.cyc_workers.proofs.Seating.{serves_seat, drains_same, raise_seat_of, drain_seat_of}
use Rattle.cyc_threads.specs.SameSeats.{HasSameSeats, HaveSameSeats}
use Rattle.cyc_thread_rings.specs.declared.levels.Levels.{Levels}
use Rattle.cyc_thread_rings.specs.declared.levels.Seated.{Seated}
use Rattle.cyc_thread_rings.specs.declared.attaching.Attached.{Attached}
use Rattle.cyc_thread_rings.specs.Rings.{AreSeated, AreNew, IsAttached, seats_of_ends, firing_seats, seats_on, soft_seats}
use Rattle.cyc_thread_rings.specs.Rings.{soft_seats_on}
use Rattle.cyc_threads.specs.Running.{HaveServed, most}
use Rattle.cyc_threads.specs.Working.{HaveMade}
use Rattle.cyc_system_laws.proofs.Spots.{same_some}

-- ---- lists that a map makes the same

abbrev tail_of : {A : Type 0} → List A → List A
tail_of [] = []
tail_of (x ∷ xs) = xs

pub each_same : {A B X : Type 0} (f : A → X) (g : B → X) (xs : List A) (ys : List B) → map f xs ≡ map g ys
    → EachTwo (λ x y. f x ≡ g y) xs ys
each_same f g [] [] e = tt
each_same f g [] (y ∷ ys) e = absurd (let n = ap (λ (zs : List _). length zs) e in omega (arith, n))
each_same f g (x ∷ xs) [] e = absurd (let n = ap (λ (zs : List _). length zs) e in omega (arith, n))
each_same f g (x ∷ xs) (y ∷ ys) e = (
  same_some (ap (λ (zs : List _). slice_get zs 0) e),
  each_same f g xs ys (ap (λ (zs : List _). tail_of zs) e),
)

-- ---- before the first step

fresh_at : (k : ℕ) (t : List RaiseStep) → t ≡ [] → IsFresh (trail_view k t)
fresh_at k t e = subst (λ (x : List RaiseStep). IsFresh (trail_view k x)) (sym e)
    (record { none = λ id. refl; unmarked = refl; bank = refl; free = refl })

pub fresh_all : {C : Type 0} (k : ℕ) (all : List (Seated C)) (att : List (Attached C)) → All (AreNew k) (map (λ s. s.seats) all)
    → EachTwo IsAttached all att →
    All (λ (e : RaiseEnd × RaiseEnd). IsFresh (end_view e.0) × IsFresh (end_view e.1)) (map (λ a. a.ends) att)
fresh_all k [] [] new e = All-nil (λ (e : RaiseEnd × RaiseEnd). IsFresh (end_view e.0) × IsFresh (end_view e.1))
fresh_all k [] (a ∷ att) new e = absurd e
fresh_all k (s ∷ all) [] new e = absurd e
fresh_all k (s ∷ all) (a ∷ att) new e = let n = new 0 s.seats (omega arith) in
    All-cons (λ (e : RaiseEnd × RaiseEnd). IsFresh (end_view e.0) × IsFresh (end_view e.1)) a.ends (map (λ a. a.ends) att) (
      fresh_at _ (raise_trail a.ends.0.seat) (ap raise_trail e.0.lock_raise ∙ n.0.0),
      fresh_at _ (raise_trail a.ends.1.seat)
          (ap raise_trail e.0.low_raise ∙ n.1.0),
    )
    (fresh_all k all att (λ i d low. new (suc i) d (omega (arith, low))) e.1)

pub same_firing : {C : Type 0} (all : List (Seated C)) (att : List (Attached C)) → EachTwo IsAttached all att
    → map seats_of_ends (map (λ a. a.ends) att) ≡ map firing_seats all
same_firing [] [] e = refl
same_firing [] (a ∷ att) e = absurd e
same_firing (s ∷ all) [] e = absurd e
same_firing (s ∷ all) (a ∷ att) e = let rest = same_firing all att e.1 in λ z. (e.0.lock_raise z, e.0.low_raise z) ∷ rest z

pub same_high : {C : Type 0} (all : List (Seated C)) (att : List (Attached C)) → EachTwo IsAttached all att
    → map (λ a. a.high) att ≡ map (λ s. s.calls.high) all
same_high [] [] e = refl
same_high [] (a ∷ att) e = absurd e
same_high (s ∷ all) [] e = absurd e
same_high (s ∷ all) (a ∷ att) e = let rest = same_high all att e.1 in λ z. e.0.high z ∷ rest z

pub same_soft : {C : Type 0} (all : List (Seated C)) (att : List (Attached C)) → EachTwo IsAttached all att
    → map soft_seats_on (map (λ a. a.soft) att) ≡ map soft_seats all
same_soft [] [] e = refl
same_soft [] (a ∷ att) e = absurd e
same_soft (s ∷ all) [] e = absurd e
same_soft (s ∷ all) (a ∷ att) e = let rest = same_soft all att e.1 in
    λ z. ((e.0.lock_drain z, e.0.lock z), (e.0.low_drain z, e.0.low z)) ∷ rest z

-- ---- after the last one

module _ {C : Type 0} (handler : Calls C) where
  abbrev Made : Levels (SoftSide DrainEnd C) → Levels (SoftSide DrainEnd C) → Type 0
  Made = HaveMade drain_end handler

  abbrev Left : Seated C → Levels (SoftSide DrainEnd C) → Type 0
  Left s t = soft_seats s ≡ soft_seats_on t

  abbrev Fired : Seated C → CpuView RaiseEnd → Type 0
  Fired s y = firing_seats s ≡ seats_on y

  served_one : (k : ℕ) (s s' : Seated C) (a : Attached C) (t : Levels (SoftSide DrainEnd C)) → AreNew k s.seats → IsAttached s a
      → Made a.soft t → Left s' t →
      HaveServed handler.called handler.count s s'
  served_one k s s' a t new att m left = record {
    lock = subst
        (λ (c : C). HasServed (at_level handler.called Lock) handler.count (seat_made s'.seats.lock.drain) s.calls.lock c)
        (sym (ap (λ p. p.0.1) left))
        (subst (λ (c : C). HasServed (at_level handler.called Lock) handler.count (seat_made s'.seats.lock.drain) c t.lock.calls)
        att.lock
        (serves_seat (handler_at handler Lock) a.soft.lock t.lock s'.seats.lock.drain m.0
        (ap drain_trail att.lock_drain ∙ new.0.1) (ap (λ p. p.0.0) left)));
    low = subst (λ (c : C). HasServed (at_level handler.called Low) handler.count (seat_made s'.seats.low.drain) s.calls.low c)
        (sym (ap (λ p. p.1.1) left))
        (subst (λ (c : C). HasServed (at_level handler.called Low) handler.count (seat_made s'.seats.low.drain) c t.low.calls)
        att.low (serves_seat (handler_at handler Low) a.soft.low t.low s'.seats.low.drain m.1
        (ap drain_trail att.low_drain ∙ new.1.1) (ap (λ p. p.1.0) left)));
  }

  pub served_all : (k : ℕ) (all : List (Seated C)) (att : List (Attached C)) (ts : List (Levels (SoftSide DrainEnd C)))
      (after : List (Seated C)) →
      All (AreNew k) (map (λ s. s.seats) all) → EachTwo IsAttached all att → EachTwo Made (map (λ a. a.soft) att) ts
      → EachTwo Left after ts →
      EachTwo (HaveServed handler.called handler.count) all after
  served_all k [] [] [] [] new e m l = tt
  served_all k [] [] [] (s' ∷ after) new e m l = absurd l
  served_all k [] [] (t ∷ ts) after new e m l = absurd m
  served_all k [] (a ∷ att) ts after new e m l = absurd e
  served_all k (s ∷ all) [] ts after new e m l = absurd e
  served_all k (s ∷ all) (a ∷ att) [] after new e m l = absurd m
  served_all k (s ∷ all) (a ∷ att) (t ∷ ts) [] new e m l = absurd l
  served_all k (s ∷ all) (a ∷ att) (t ∷ ts) (s' ∷ after) new e m l = (
    served_one k s s' a t (new 0 s.seats (omega arith)) e.0 m.0 l.0,
    served_all k all att ts after (λ i d low. new (suc i) d (omega (arith, low))) e.1 m.1 l.1,
  )

  seated_one : (r : Levels Ring) (s s' : Seated C) (a : Attached C) (y : CpuView RaiseEnd) (t : Levels (SoftSide DrainEnd C))
      → AreSeated r s.seats → IsAttached s a →
      HasSameSeats (new_cpu most a.ends.0 a.ends.1) y → Fired s' y → Made a.soft t → Left s' t → AreSeated r s'.seats
  seated_one r s s' a y t own att same f m left = (
    (
      raise_seat_of r.lock s.seats.lock.raise a.ends.0.seat y.lock.seat s'.seats.lock.raise own.0.0 att.lock_raise same.0
          (ap (λ p. p.0) f),
      drain_seat_of r.lock s.seats.lock.drain a.soft.lock.drain.seat t.lock.drain.seat s'.seats.lock.drain own.0.1 att.lock_drain
          (drains_same (handler_at handler Lock) a.soft.lock t.lock m.0) (ap (λ p. p.0.0) left),
    ),
    (
      raise_seat_of r.low s.seats.low.raise a.ends.1.seat y.low.seat s'.seats.low.raise own.1.0 att.low_raise same.1
          (ap (λ p. p.1) f),
      drain_seat_of r.low s.seats.low.drain a.soft.low.drain.seat t.low.drain.seat s'.seats.low.drain own.1.1 att.low_drain
          (drains_same (handler_at handler Low) a.soft.low t.low m.1) (ap (λ p. p.1.0) left),
    ),
  )

  pub seated_all : (rs : List (Levels Ring)) (all : List (Seated C)) (att : List (Attached C)) (ys : List (CpuView RaiseEnd))
      (ts : List (Levels (SoftSide DrainEnd C)))
      (after : List (Seated C)) → EachTwo AreSeated rs (map (λ s. s.seats) all) → EachTwo IsAttached all att →
      HaveSameSeats (map (λ (e : RaiseEnd × RaiseEnd). new_cpu most e.0 e.1) (map (λ a. a.ends) att)) ys → EachTwo Fired after ys
      →
      EachTwo Made (map (λ a. a.soft) att) ts → EachTwo Left after ts → EachTwo AreSeated rs (map (λ s. s.seats) after)
  seated_all [] [] [] [] [] [] o e h f m l = tt
  seated_all [] [] [] [] [] (s' ∷ after) o e h f m l = absurd f
  seated_all [] [] [] [] (t ∷ ts) after o e h f m l = absurd m
  seated_all [] [] [] (y ∷ ys) ts after o e h f m l = absurd h
  seated_all [] [] (a ∷ att) ys ts after o e h f m l = absurd e
  seated_all [] (s ∷ all) att ys ts after o e h f m l = absurd o
  seated_all (r ∷ rs) [] att ys ts after o e h f m l = absurd o
  seated_all (r ∷ rs) (s ∷ all) [] ys ts after o e h f m l = absurd e
  seated_all (r ∷ rs) (s ∷ all) (a ∷ att) [] ts after o e h f m l = absurd h
  seated_all (r ∷ rs) (s ∷ all) (a ∷ att) (y ∷ ys) [] after o e h f m l = absurd m
  seated_all (r ∷ rs) (s ∷ all) (a ∷ att) (y ∷ ys) (t ∷ ts) [] o e h f m l = absurd f
  seated_all (r ∷ rs) (s ∷ all) (a ∷ att) (y ∷ ys) (t ∷ ts) (s' ∷ after) o e h f m l =
      (seated_one r s s' a y t o.0 e.0 h.0 f.0 m.0 l.0, seated_all rs all att ys ts after o.1 e.1 h.1 f.1 m.1 l.1)
