-- A stay of a cyclic ends on one CPU, and its counts are kept.
use Rattle.std.proofs.Common.{◌≡◌, ◌≢◌, ℕ, zero, suc, ◌+◌, ◌-◌, ◌<◌, ◌==◌, ◌⊎◌, inl, inr, eq-eqb, ne_eqb, Bool, true, cond, List}
use Rattle.std.proofs.Common.{[], ◌∷◌, length, map, Option, Some, None, IsSome, refl, ap, sym, ◌∙◌, subst, arith}
use Rattle.std.specs.Prelude.{slice_set, ◌&&◌}
use Rattle.std.specs.List.{slice_get}
use Rattle.std.specs.Option.{option_map_or}
use Rattle.std.proofs.lemmas.List.{length-set, get_or-set_same, get_or-set_other}
use mathlib.Core.Logic.{dite}
use native.Mathlib.Decide.{ℕ_discrete}
use Rattle.cyc_types.specs.declared.firing.Sent.{Sent}
use Rattle.cyc_types.specs.declared.level.Level.{Level}
use Rattle.cyc_types.specs.declared.level.Level.TheVariants as level
use Rattle.cyc_types.specs.declared.level.Soft.TheVariants as soft
use Rattle.cyc_types.specs.Counting.{no_counts}
use Rattle.cyc_level.specs.Level.{AdmittedCyclic, count_in}
use Rattle.cyc_level.specs.declared.Event.TheVariants.{Mark}
use Rattle.cyc_core.specs.Tables.{Tables}
use Rattle.cyc_places.specs.declared.record.Record.{Record}
use Rattle.cyc_places.specs.Places.{IsRecord, ended_on, summed, with_ended}
use Rattle.cyc_system.specs.System.{SystemView}
use Rattle.cyc_system.proofs.Spots.{same_some, none_some, get_some}
use Rattle.cyc_model.specs.Acts.{at_own}
use Rattle.cyc_model.specs.Cpu.{CyclicState, Cpu, cyclic_with_id, handler_level_of, happen}
use Rattle.cyc_model.specs.Moving.{mark_here}
use Rattle.cyc_model.specs.Questions.{outstanding_here}
use Rattle.cyc_model.specs.State.{State, Ended}
use Rattle.cyc_model.specs.Places.{keeping_counts as with_ended_in}
use Rattle.cyc_system_model.specs.Tied.{HasOwn}
use Rattle.cyc_system_model.specs.Shown.{shown_cpus, shown_record, shown_counts, ShowsSystem}
use Rattle.cyc_system_model.proofs.Cpus.{cpu_at, cpu_is}
use Rattle.cyc_system_model.proofs.Half.{Half, IsFull, half_parts, half_put, set_either}

-- ---- the calls that are outstanding

mark_own : (n id : ℕ) (l : Level) (c : Cpu) → outstanding_here id (happen (at_own n l (Mark id)) c) ≡ outstanding_here id c
mark_own n id level.High c = refl
mark_own n id level.Lock c = refl
mark_own n id level.Low c = refl

-- a removal that begins leaves them
pub mark_out : (n id : ℕ) (c : Cpu) → outstanding_here id (mark_here n id c).cpu ≡ outstanding_here id c
mark_out n id c = mark_own n id (handler_level_of id c) _

none_counted : (o : Option AdmittedCyclic) → (IsSome o → ⊥) → count_in o ≡ 0
none_counted None isnt = refl
none_counted (Some c) isnt = absurd (isnt refl)

-- a cyclic that isn't on the CPU has none there
pub none_out : (id : ℕ) (c : Cpu) → HasOwn c → cyclic_with_id id c ≡ None → outstanding_here id c ≡ 0
none_out id c own none =
    let high : handler_level_of id c ≡ level.High = ap high_of none in
    let lock = none_counted (c.lock.cyclics id) (λ is. not_lock (sym high ∙ own.known soft.Lock id is)) in
    let low = none_counted (c.low.cyclics id) (λ is. not_low (sym high ∙ own.known soft.Low id is)) in
    omega (arith, lock, low)
  where
    high_of : Option CyclicState → Level
    high_of o = option_map_or (λ (x : CyclicState). x.timer.level) o level.High

    not_lock : level.High ≡ level.Lock → ⊥
    not_lock e = cc

    not_low : level.High ≡ level.Low → ⊥
    not_low e = cc

-- each CPU that is there has its own
pub own_at : (v : SystemView Tables) (n : ℕ) → Half v → n < length v.cpus.cpus → HasOwn (cpu_at v.cpus n)
own_at v n h low =
    let (x, is) = get_some v.cpus.cpus n low in
    subst HasOwn (sym (cpu_is v.cpus n x h.long is)) ((h.tied n x is).own _)

-- ---- the records

map_set : {A B : Type 0} (f : A → B) (xs : List A) (k : ℕ) (r x : A) → slice_get xs k ≡ Some r → f x ≡ f r
    → map f (slice_set xs k x) ≡ map f xs
map_set f [] k r x is same = absurd (none_some is)
map_set f (y ∷ ys) zero r x is same = ap (λ z. z ∷ map f ys) (same ∙ ap f (sym (same_some is)))
map_set f (y ∷ ys) (suc k) r x is same = ap (λ zs. f y ∷ zs) (map_set f ys k r x is same)

abbrev counted : Bool → Ended → CyclicState → Ended
counted b e x = cond b (record { expired = e.expired + x.timer.expired; lost = e.lost + x.lost }) e

module _ (n id : ℕ) (x : CyclicState) (counts : Sent) (k : ℕ) (r : Record) (m : State) (v w : SystemView Tables) (h :
    ShowsSystem m v)
    (hv : Half v)
    (within : n < length v.cpus.cpus) (is : IsRecord v.records k r) (named : r.id ≡ id) (own : x.timer.id ≡ id)
    (sent : counts.sent ≡ x.timer.expired) (lost : counts.lost ≡ x.lost)
    (records : w.records ≡ slice_set v.records k (with_ended n (summed (ended_on n r) counts) r)) (last : w.last ≡ v.last) where
  new : Record
  new = with_ended n (summed (ended_on n r) counts) r

  full_new : IsFull (length v.cpus.cpus) new
  unfolding new
  full_new = (
    length-set r.ended n (summed (ended_on n r) counts) ∙ (hv.full k r is).0,
    λ j past. get_or-set_other r.ended n j (summed (ended_on n r) counts) no_counts (λ e. omega (arith, e, past, within))
        ∙ (hv.full k r is).1 j past,
  )

  other_ended : (q j : ℕ) → q ≢ id → (with_ended_in n x m).ended q j ≡ m.ended q j
  other_ended q j ne = ap (λ b. counted (b && (j == n)) (m.ended q j) x) (ne_eqb q x.timer.id (λ e. ne (e ∙ own)))

  own_ended : (j : ℕ) → (with_ended_in n x m).ended r.id j ≡ shown_counts (ended_on j new)
  unfolding new
  own_ended j = dite (ℕ_discrete j n)
      (λ e. ap (λ b. counted (b && (j == n)) (m.ended r.id j) x) (eq-eqb r.id x.timer.id (named ∙ sym own))
      ∙ ap (λ b. counted b (m.ended r.id j) x) (eq-eqb j n e)
      ∙ ap (λ o. counted true o x) (h.ended k r is j ∙ ap (λ i. shown_counts (ended_on i r)) e)
      ∙ (λ z. record { expired = (ended_on n r).sent + sym sent z; lost = (ended_on n r).lost + sym lost z })
      ∙ ap shown_counts (sym (get_or-set_same r.ended n (summed (ended_on n r) counts) no_counts
      (let l = (hv.full k r is).0 in let few = hv.few in omega (arith, l, few, within))))
      ∙ ap (λ i. shown_counts (ended_on i (with_ended n (summed (ended_on n r) counts) r))) (sym e))
      (λ ne. ap (λ b. counted (b && (j == n)) (m.ended r.id j) x) (eq-eqb r.id x.timer.id (named ∙ sym own))
      ∙ ap (λ b. counted b (m.ended r.id j) x) (ne_eqb j n ne)
      ∙ h.ended k r is j
      ∙ ap shown_counts (sym (get_or-set_other r.ended n j (summed (ended_on n r) counts) no_counts ne)))

  apart : (i : ℕ) (a : Record) → i ≢ k → IsRecord v.records i a → a.id ≢ id
  apart i a ne at same = dite (ℕ_discrete (i - k) 0)
      (λ e. let less = hv.rising i k a r (omega (arith, e, ne)) at is in omega (arith, less, same, named))
      (λ some. let less = hv.rising k i r a (omega (arith, some)) is at in omega (arith, less, same, named))

  ended_either : (i : ℕ) (a : Record) → ((i ≡ k) × (a ≡ new)) ⊎ ((i ≢ k) × IsRecord v.records i a) → (j : ℕ)
      → (with_ended_in n x m).ended a.id j ≡ shown_counts (ended_on j a)
  unfolding new
  ended_either i a (inl (e, at)) j = subst (λ (y : Record). (with_ended_in n x m).ended y.id j ≡ shown_counts (ended_on j y))
      (sym at) (own_ended j)
  ended_either i a (inr (ne, at)) j = other_ended a.id j (apart i a ne at) ∙ h.ended i a at j

  -- the machine that keeps the counts shows the system that does
  pub ended_shows : (y : State) → y.cpus ≡ shown_cpus w.cpus → y.placed ≡ m.placed → y.last_id ≡ m.last_id
      → ((q j : ℕ) → y.ended q j ≡ (with_ended_in n x m).ended q j) → ShowsSystem y w
  unfolding new
  ended_shows y cpus placed gives ended = record {
    cpus = cpus;
    placed = placed ∙ h.placed ∙ sym (ap (map shown_record) records ∙ map_set shown_record v.records k r new is refl);
    ended = λ i a at j. ended a.id j ∙ ended_either i a
        (set_either v.records k i r new a is (subst (λ rs. IsRecord rs i a) records at)) j;
    fresh = λ q j less. ended q j ∙ other_ended q j (λ e. let low = hv.given k r is in let l = h.last in
        omega (arith, less, e, low, l, gives, named))
        ∙ h.fresh q j (omega (arith, less, gives));
    last = gives ∙ h.last ∙ sym last;
  }

  pub ended_half : Half (record v { cpus = w.cpus }) → length w.cpus.cpus ≡ length v.cpus.cpus → Half w
  unfolding new
  ended_half hw same = half_parts (record { cpus = w.cpus; records = slice_set v.records k new; last = v.last }) w
      (half_put (record v { cpus = w.cpus }) k r new hw is refl (subst (λ c. IsFull c new) (sym same) full_new)) refl records last
