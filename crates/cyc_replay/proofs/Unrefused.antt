-- The tally refuses no call of a fire, and no cyclic has expired as often as it may.
use Rattle.std.proofs.Common.{◌≡◌, ℕ, ◌+◌, ◌-◌, ◌^◌, ◌<◌, ◌≤◌, ◌==◌, inl, inr, Bool, true, false, cond, List, [], ◌∷◌, ◌++◌}
use Rattle.std.proofs.Common.{length, find, Option, Some, None, ap, sym, ◌∙◌, subst, arith}
use Rattle.std.proofs.Math.ListN.{length-set}
use Rattle.std.proofs.lemmas.List.Sums.{sum_by-append}
use Rattle.std.specs.List.{FoldsTo}
use Rattle.cyc_types.specs.Counting.{times}
use Rattle.cyc_types.specs.Series.{late}
use Rattle.cyc_types.specs.Tally.{TallyView, tally_count, tally_counted, TallyRefuses}
use Rattle.cyc_types.specs.contracts.tally.TallyCalls.TheImpl.{ghosts as tally_calls}
use Rattle.cyc_types.specs.declared.level.Level.{Level}
use Rattle.cyc_types.specs.declared.level.Level.TheVariants.{High}
use Rattle.cyc_types.specs.declared.refusal.Refusal.{Refusal}
use Rattle.cyc_types.specs.declared.refusal.Refusal.TheVariants.{CountSpent, HandlerRefused}
use Rattle.cyc_core.specs.Tables.{Tables}
use Rattle.cyc_types.specs.Expirations.{Expiration, expirations, times_of, after_expirations, all_after}
use Rattle.cyc_types.specs.Timers.{Timer}
use Rattle.cyc_system_model.specs.Rows.{timers}
use Rattle.cyc_cpu.specs.Acts.{ids_at, is_of_level as is_of_level, timer_of}
use Rattle.cyc_cpu.specs.Made.{Stops}
use Rattle.cyc_cpu.specs.FireRefused.{FireRefused}
use Rattle.cyc_cpu.proofs.Sharing.{ids_add_up}
use Rattle.cyc_cpu.specs.Cpu.{CpuView, running}
use Rattle.cyc_cpu.specs.Calls.{Stopped}
use Rattle.cyc_cpu.specs.Soft.{raise_tables}
use Rattle.cyc_replay.specs.Machine.{IsWide}

-- ---- the tally

pub record SameRange (t u : TallyView) : Type 0 where
  pub first : u.first ≡ t.first
  pub len : length u.counts ≡ length t.counts
  pub most : u.most ≡ t.most

pub same_range : (ids : List ℕ) (t u : TallyView) → FoldsTo tally_counted t ids u → SameRange t u
same_range [] t u is = record {
  first = ap (λ (x : TallyView). x.first) (sym is);
  len = ap
      (λ (x : TallyView). length x.counts) (sym is);
  most = ap (λ (x : TallyView). x.most) (sym is);
}
same_range (id ∷ ids) t u (v, called, rest) =
    let on = same_range ids v u rest in
    record {
      first = on.first ∙ ap (λ (x : TallyView). x.first) called;
      len = on.len ∙ (ap (λ (x : TallyView). length x.counts) called ∙ length-set _ _ _);
      most = on.most ∙ ap (λ (x : TallyView). x.most) called;
    }

pub still_wide : (names : ℕ) (t u : TallyView) → SameRange t u → IsWide names t → IsWide names u
still_wide names t u same w = record { first = same.first ∙ w.first; len = same.len ∙ w.len; most = same.most ∙ w.most }

-- it takes a call of an id that was given, which it has not counted too often
pub never_refuses : (names id : ℕ) (t : TallyView) → IsWide names t → 0 < id → id ≤ names → tally_count t id < 2 ^ 64 - 1
    → TallyRefuses t id → ⊥
never_refuses names id t w given within few refuses =
    let first = w.first in let len = w.len in let most = w.most in
    elim refuses [
      | inl small ↦ omega (arith, small, first, given)
      | inr (inl high) ↦ omega
          (arith, high, first, len, within, given)
      | inr (inr full) ↦ omega (arith, full, most, few)
    ]

-- ---- the timers

pub in_front : (ts : List Timer) (now id n : ℕ) (made : List Expiration) (last : Expiration) (rest : List Expiration)
    → expirations now ts ≡ made ++ last ∷ rest → times_of id (expirations now ts) ≤ n → times_of id made ≤ n
in_front ts now id n made last rest split small =
    let a = ap (times_of id) split in
    let b = sum_by-append (λ (p : Expiration). cond (p.id == id) 1 0) made (last ∷ rest) in
    omega (arith, a, b, small)

cond_most : (b : Bool) (m n : ℕ) → m ≤ n → cond b m 0 ≤ n
cond_most true m n h = h
cond_most false m n h = omega arith

few_calls : (level : Level) (ts : List Timer) (made : List Expiration) (n id : ℕ) → times_of id made ≤ n
    → times id (ids_at level ts made) ≤ n
few_calls level ts made n id small =
    let a = ids_add_up id level ts made in
    let b = cond_most (is_of_level level (timer_of id ts)) (times_of id made) n small in
    omega (arith, a, b)

-- each of these timers, whatever it is
abbrev pub EachTimer : (Timer → Type 0) → List Timer → Type 0
EachTimer P [] = Unit {0}
EachTimer P (t ∷ ts) = P t × EachTimer P ts

found_as : (P : Timer → Type 0) (o : Option Timer) (y x : Timer) (b : Bool) → P y → (o ≡ Some x → P x)
    → cond b (Some y) o ≡ Some x → P x
found_as P o y x true here there e = let same : y ≡ x = cc in subst P same here
found_as P o y x false here there e = there e

found_all : (P : Timer → Type 0) (p : Timer → Bool) (ts : List Timer) (x : Timer) → find p ts ≡ Some x → EachTimer P ts → P x
found_all P p [] x is all = absurd (let no : None ≡ Some x = is in cc)
found_all P p (y ∷ ys) x is all = found_as P (find p ys) y x (p y) all.0 (λ e. found_all P p ys x e all.1) is

-- a timer that was given, and has not expired too often
pub record IsFew (last most : ℕ) (t : Timer) : Type 0 where
  pub given : 0 < t.id
  pub id : t.id ≤ last
  pub expired : t.expired ≤ most

few_after : (now last most n : ℕ) (made : List Expiration) (ts : List Timer) → ((id : ℕ) → times_of id made ≤ n)
    → EachTimer (IsFew last most) ts
    → EachTimer (IsFew last (most + n)) (all_after now made ts)
unfolding all_after after_expirations
few_after now last most n made [] small few = tt
few_after now last most n made (t ∷ ts) small few =
    let a = small t.id in let b = few.0.expired in
    (record { given = few.0.given; id = few.0.id; expired = omega (arith, a, b) }, few_after now last most n made ts small few.1)

-- ---- a fire

never_stops : (names last most bound : ℕ) (at : TallyView) (t : Timer) (why : Refusal) → last ≤ names → most ≡ 2 ^ 64 - 1
    → bound < 2 ^ 64 - 1
    → IsFew last bound t → IsWide names at → ((id : ℕ) → tally_count at id ≤ bound) → Stops TallyRefuses most at t why → ⊥
never_stops names last most bound at t (CountSpent id) low greatest less few w counts s = let a = s.1 in let b = few.expired in
    omega (arith, a, b, greatest, less)
never_stops names last most bound at t (HandlerRefused id) low greatest less few w counts s =
    let same = s.0 in let a = few.given in let b = few.id in let c = counts id in
    never_refuses names id at w (omega (arith, same, a)) (omega (arith, same, b, low)) (omega (arith, c, less)) s.3
never_stops names last most bound at t _ low greatest less few w counts s = absurd s

pub never_stopped : (names now last most : ℕ) (v w : CpuView Tables) (t u : TallyView) (e : FireRefused)
    → Stopped tally_calls raise_tables now e (running t v) (running u w)
    → last ≤ names → v.most ≡ 2 ^ 64 - 1 → most + (late + 2) < 2 ^ 64 - 1 → EachTimer (IsFew last most) (timers v.cyclics)
    → ((id : ℕ) → times_of id (expirations now (timers v.cyclics)) ≤ late + 2) → IsWide names t
    → ((id : ℕ) → tally_count t id ≤ most) → ⊥
never_stopped names now last most v w t u e f low greatest less few small wide counts =
    let made : (id : ℕ) → times_of id f.made ≤ late + 2 = λ id. in_front (timers v.cyclics) now id
    (late + 2) f.made f.last f.rest f.listed (small id) in
    let high = ids_at High (timers v.cyclics) f.made in
    let after_all = subst (EachTimer (IsFew last (most + (late + 2)))) (sym f.makes.timers_are)
    (few_after now last most (late + 2) f.made (timers v.cyclics) made few) in
    let (tm, found, stops) = f.stops in
    never_stops names last v.most (most + (late + 2)) f.at tm e.why low greatest less
    (found_all (IsFew last (most + (late + 2))) (λ (x : Timer). x.id == f.last.id) (timers w.cyclics) tm found after_all)
    (still_wide names t f.at (same_range high t f.at f.makes.acts.called_in_order) wide)
    (λ id. let a = f.makes.acts.counted id in let b = few_calls High (timers v.cyclics) f.made (late + 2) id (made id) in
    let c = counts id in omega (arith, a, b, c)) stops
