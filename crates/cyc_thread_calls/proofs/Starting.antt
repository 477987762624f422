-- The system with which a run begins: it is new and sound, and something leads each CPU.
use Rattle.std.proofs.Common.{◌≡◌, ◌∙◌, ℕ, ◌<◌, ◌≤◌, List, [], Option, Some, None, map, length, refl, sym, ap, subst, arith}
use Rattle.std.specs.Prelude.{All, ◌^◌}
use Rattle.std.specs.List.{slice_get}
use Rattle.std.specs.Option.{option_map}
use Rattle.std.proofs.lemmas.List.{length-map}
use Rattle.std.proofs.lemmas.List.Elements.{All-nil}
use Rattle.std.proofs.lemmas.Option.{slice_get-map, slice_get_within, get_or_from_slice_get}
use Rattle.cyc_types.specs.Firing.{Sound}
use Rattle.cyc_types.specs.declared.level.Level.{Level}
use Rattle.ring_rule.specs.declared.RaiseStep.{RaiseStep}
use Rattle.cyc_ring.specs.declared.ends.RaiseEnd.{RaiseEnd}
use Rattle.cyc_ring.specs.declared.seats.RaiseSeat.{RaiseSeat}
use Rattle.cyc_ring.specs.Views.{trail_view}
use Rattle.cyc_ring.specs.Ends.{end_view, raise_trail}
use Rattle.cyc_threads.proofs.Beginning.{agrees_new}
use Rattle.cyc_threads.proofs.Spots.{same_some, none_some}
use Rattle.cyc_cpu.specs.Cpu.{CpuView, AreAdmitted}
use Rattle.cyc_cpu.specs.Laws.{IsLawful}
use Rattle.cyc_agreement.specs.Cpus.{CpusView, IsCpu, new_cpu, new_cpus}
use Rattle.cyc_threads.specs.System.{SystemView}
use Rattle.cyc_threads.specs.Agreement.{Agrees}
use Rattle.cyc_threads.specs.Sound.{IsSound}
use Rattle.cyc_threads.specs.Seated.{Seated}
use Rattle.cyc_threads.specs.Rings.{AreNew, seats_of_ends, firing_seats}
use Rattle.cyc_threads.specs.declared.progress.Progress.{Progress}
use Rattle.cyc_threads.specs.StepCalls.{HasLeads}
use Rattle.cyc_threads.specs.Running.{IsAtFirst, most}

-- ---- one CPU

sound_new : (k : ℕ) (t : List RaiseStep) → 0 < k → t ≡ [] → Sound (trail_view k t)
sound_new k t some e = subst (λ (x : List RaiseStep). Sound (trail_view k x)) (sym e) (record {
  some_ceiling = some;
  capped = λ id s is. absurd (none_some is);
  owed = λ id s is. absurd (none_some is);
  apart = λ a b s u is. absurd (none_some is);
  inside = λ id s is. absurd (none_some is);
  greatest = omega arith;
})

admitted_new : (level : Level) (k : ℕ) (t : List RaiseStep) → t ≡ [] → AreAdmitted level (trail_view k t) []
admitted_new level k t e = subst (λ (x : List RaiseStep). AreAdmitted level (trail_view k x) []) (sym e) (record {
  here = λ j c at. absurd (let low = at.0 in omega (arith, low));
  only = λ id s is. absurd (none_some is);
  over = λ id s is. absurd (none_some is);
})

lawful_new : (bound : ℕ) (lock low : RaiseEnd) → raise_trail lock.seat ≡ [] → raise_trail low.seat ≡ []
    → IsLawful end_view (new_cpu bound lock low)
lawful_new bound lock low a b = record {
  rising = λ i j c less low. absurd (omega (arith, low));
  distinct = λ i j c less low. absurd (omega (arith, low));
  counted = All-nil _;
  lock = admitted_new _ lock.seat.setting.ceiling (raise_trail lock.seat) a;
  low = admitted_new _ low.seat.setting.ceiling (raise_trail low.seat) b;
  sound_lock = sound_new lock.seat.setting.ceiling (raise_trail lock.seat) lock.seat.ranges.0 a;
  sound_low = sound_new low.seat.setting.ceiling (raise_trail low.seat) low.seat.ranges.0 b;
  spared = All-nil _;
  removed = λ id e. absurd (none_some e);
  never_due = λ id now e. absurd (none_some e);
  marked_lock = λ id e. absurd (none_some (unmarked lock a id e));
  marked_low = λ id e. absurd (none_some (unmarked low b id e));
  lock_bank = bank lock a;
  low_bank = bank low b;
  few = omega arith;
  size = omega arith;
  room = omega arith;
}
  where
    unmarked : (e : RaiseEnd) → raise_trail e.seat ≡ [] → (id : ℕ) → (end_view e).marked ≡ Some id → None ≡ Some id
    unmarked e none id is = ap (λ (x : List RaiseStep). (trail_view e.seat.setting.ceiling x).marked) (sym none) ∙ is

    bank : (e : RaiseEnd) → raise_trail e.seat ≡ [] → 1 ≡ 2 ^ (end_view e).bank
    bank e none = ap (λ (x : List RaiseStep). 2 ^ (trail_view e.seat.setting.ceiling x).bank) (sym none)

-- ---- all of them

-- an element of one of two lists that maps make the same stands beside one of the other
pub beside : {A B X : Type 0} (f : A → X) (g : B → X) (xs : List A) (ys : List B) → map f xs ≡ map g ys → (n : ℕ) (x : A)
    → slice_get xs n ≡ Some x → (y : B) × (slice_get ys n ≡ Some y) × (f x ≡ g y)
beside {A} {B} f g xs ys e n x at = by (slice_get ys n) refl
  where
    there : Some (f x) ≡ option_map g (slice_get ys n)
    there = sym (ap (option_map f) at) ∙ sym (slice_get-map f xs n) ∙ ap (λ l. slice_get l n) e ∙ slice_get-map g ys n

    by : (o : Option B) → slice_get ys n ≡ o → (y : B) × (slice_get ys n ≡ Some y) × (f x ≡ g y)
    by (Some y) is = (y, is, same_some (there ∙ ap (option_map g) is))
    by None is = absurd (none_some (sym (there ∙ ap (option_map g) is)))

module _ {C : Type 0} (names k : ℕ) (all : List (Seated C)) (first : Progress RaiseEnd C) (b : IsAtFirst names all first)
    (new : All (AreNew k) (map (λ (s : Seated C). s.seats) all)) where
  -- the seats of the ends of a CPU are new
  its_seats : (n : ℕ) (e : RaiseEnd × RaiseEnd) → slice_get b.ends n ≡ Some e
      → (own : Seated C) × AreNew k own.seats × (seats_of_ends e ≡ firing_seats own)
  its_seats n e at =
      let (s, here, same) = beside seats_of_ends firing_seats b.ends all b.own n e at in
      let there : slice_get (map (λ (x : Seated C). x.seats) all) n ≡ Some s.seats =
      slice_get-map (λ (x : Seated C). x.seats) all n ∙ ap (option_map (λ (x : Seated C). x.seats)) here in (
        s,
        subst (AreNew k) (get_or_from_slice_get (map (λ (x : Seated C). x.seats) all) n s.seats s.seats there)
            (new n s.seats (slice_get_within (map (λ (x : Seated C). x.seats) all) n s.seats there)),
        same,
      )

  -- nothing was done there, and their ceiling is this
  pub new_trails : (n : ℕ) (e : RaiseEnd × RaiseEnd) → slice_get b.ends n ≡ Some e
      → (raise_trail e.0.seat ≡ []) × (raise_trail e.1.seat ≡ [])
  new_trails n e at = let (s, own, same) = its_seats n e at in
      (ap (λ p. raise_trail p.0) same ∙ own.0.0, ap (λ p. raise_trail p.1) same ∙ own.1.0)

  pub new_ceilings : (n : ℕ) (e : RaiseEnd × RaiseEnd) → slice_get b.ends n ≡ Some e
      → (e.0.seat.setting.ceiling ≡ k) × (e.1.seat.setting.ceiling ≡ k)
  new_ceilings n e at = let (s, own, same) = its_seats n e at in
      (ap (λ p. p.0.setting.ceiling) same ∙ own.0.2, ap (λ p. p.1.setting.ceiling) same ∙ own.1.2)

  many_ends : length b.ends ≡ length all
  many_ends = sym (length-map b.ends seats_of_ends) ∙ ap (λ (l : List (RaiseSeat × RaiseSeat)). length l) b.own
      ∙ length-map all firing_seats

  -- a CPU is a new one over its ends
  pub is_new : (n : ℕ) (cpu : CpuView RaiseEnd) → IsCpu n cpu first.side.system.cpus
      → (e : RaiseEnd × RaiseEnd) × (cpu ≡ new_cpu most e.0 e.1) × (slice_get b.ends n ≡ Some e)
  is_new n cpu at = by (slice_get b.ends n) refl
    where
      there : Some cpu ≡ option_map (λ (e : RaiseEnd × RaiseEnd). new_cpu most e.0 e.1) (slice_get b.ends n)
      there = sym at ∙ ap (λ (v : CpusView RaiseEnd). slice_get v.cpus n) b.cpus
          ∙ slice_get-map (λ (e : RaiseEnd × RaiseEnd). new_cpu most e.0 e.1) b.ends n

      by : (o : Option (RaiseEnd × RaiseEnd)) → slice_get b.ends n ≡ o
          → (e : RaiseEnd × RaiseEnd) × (cpu ≡ new_cpu most e.0 e.1) × (slice_get b.ends n ≡ Some e)
      by (Some e) is = (e, same_some (there ∙ ap (option_map (λ (e : RaiseEnd × RaiseEnd). new_cpu most e.0 e.1)) is), is)
      by None is = absurd (none_some (sym (there ∙ ap (option_map (λ (e : RaiseEnd × RaiseEnd). new_cpu most e.0 e.1)) is)))

  many_cpus : length first.side.system.cpus.cpus ≡ length all
  many_cpus = ap (λ (v : CpusView RaiseEnd). length v.cpus) b.cpus
      ∙ length-map b.ends (λ (e : RaiseEnd × RaiseEnd). new_cpu most e.0 e.1) ∙ many_ends

  -- something leads each CPU
  pub first_ready : HasLeads first
  first_ready = sym (length-map first.side.leads.items (λ l. l.calls)) ∙ ap (λ (l : List C). length l) b.high
      ∙ length-map all (λ (s : Seated C). s.calls.high) ∙ sym many_cpus

  pub first_sound : 0 < length all → length all ≤ 16 → IsSound end_view first.side.system
  first_sound some few = record {
    agrees = subst (λ (s : SystemView RaiseEnd). Agrees s) (sym whole)
        (agrees_new most 0 b.ends (omega (arith, many_ends, some)) (omega (arith, many_ends, few)));
    fit = record {
      rising = λ i j x y less p q. absurd (none_some (ap (λ l. slice_get l i) (sym b.records) ∙ p));
      sixteen = λ j r is. absurd (none_some (ap (λ l. slice_get l j) (sym b.records) ∙ is));
      few = omega (arith, many_cpus, few);
    };
    lawful = λ n cpu at. (let (e, is, here) = is_new n cpu at in let (x, y) = new_trails n e here in
        subst (IsLawful end_view) (sym is) (lawful_new most e.0 e.1 x y));
  }
    where
      whole : first.side.system ≡ record { cpus = new_cpus most b.ends; records = []; last = 0 }
      whole = λ i. record { cpus = b.cpus i; records = b.records i; last = b.last i }
