-- A system still agrees with its records after a CPU took part again.
use Rattle.std.proofs.Common.{◌≡◌, ◌≢◌, ℕ, zero, suc, ◌<◌, ◌≤◌, ◌⊎◌, inl, inr, Bool, true, false, cond, not, Option, Some, None}
use Rattle.std.proofs.Common.{List, [], ◌∷◌, length, get_or, map, slice_set, refl, sym, ap, ◌∙◌, subst, arith}
use Rattle.std.specs.Prelude.{◌||◌, ◌&&◌, ◌==◌}
use Rattle.std.specs.List.{slice_get, list_any}
use Rattle.std.specs.Option.{option_map_or, option_and_then}
use Rattle.std.proofs.lemmas.Option.{slice_get_within, get_or_from_slice_get}
use Rattle.std.proofs.lemmas.List.{length-set, length-map, get_or-set_other}
use mathlib.Core.Logic.{dite}
use native.Mathlib.Decide.{ℕ_discrete}
use Rattle.cyc_types.specs.Firing.{FiringView}
use Rattle.cyc_types.specs.Limits.{cyclics as most_cyclics}
use Rattle.cyc_types.specs.declared.firing.Sent.{Sent}
use Rattle.cyc_types.specs.Counting.{no_counts}
use Rattle.cyc_cpu.specs.Cpu.{CpuView}
use Rattle.cyc_cpu.specs.Laws.{IsLawful}
use Rattle.cyc_cpu.specs.Rows.{Cyclic}
use Rattle.cyc_places.specs.declared.record.Placement.{Placement}
use Rattle.cyc_places.specs.declared.record.Placement.TheVariants.{On, Everywhere}
use Rattle.cyc_places.specs.declared.record.Record.{Record}
use Rattle.cyc_places.specs.Places.{IsRecord, HasRisingIds, ended_on, with_ended, is_everywhere}
use Rattle.cyc_agreement.specs.Cpus.{CpusView, IsCpu}
use Rattle.cyc_agreement.proofs.CpuSpots.{get_set_same, get_set_other}
use Rattle.cyc_agreement.specs.System.{SystemView, ids_of, ids_on, has, removal_on, is_online, is_leaving_here}
use Rattle.cyc_agreement.specs.Agreement.{Agrees, Stands, most_on, suspended_on}
use Rattle.cyc_agreement.proofs.Lists.{among, any_position, eq_true, true_eq, false_true}
use Rattle.cyc_agreement.proofs.Spots.{get_some, same_some, none_some}
use Rattle.cyc_agreement.proofs.Recording.{one_record}
use Rattle.cyc_agreement.proofs.Presence.{not_leaving}
use Rattle.cyc_agreement.proofs.Destinations.{online_at}
use Rattle.cyc_agreement.proofs.Shifted.{ids_rise}
use Rattle.cyc_agreement.proofs.Who.{SameWho, has_same, id_in, ids_there}
use Rattle.cyc_agreement.specs.Holding.{EndedWithin, LeaveWhole}
use Rattle.cyc_agreement.specs.Online.{is_staying, staying, after_return, switched_on}
use Rattle.cyc_agreement.proofs.Prefixes.{ids_in, found_in, is_in}
use Rattle.cyc_agreement.proofs.Rising.{rises_of, records_rise, no_more}
use Rattle.cyc_agreement.proofs.Returned.{Back, back_has, back_removals, back_most, back_suspended, back_elsewhere}
use Rattle.cyc_agreement.proofs.Bringing.{staying_everywhere}

and_second : (a b : Bool) → (a && not b) ≡ true → b ≡ false
and_second true false e = refl
and_second true true e = absurd (false_true e)
and_second false b e = absurd (false_true e)

-- where a removal is open on a CPU, the CPU is there
pub removal_at : {R : Type 0} (id : ℕ) (o : Option (CpuView R)) → option_and_then (λ cpu. cpu.removal) o ≡ Some id
    → (cpu : CpuView R) × (o ≡ Some cpu) × (cpu.removal ≡ Some id)
removal_at id None e = absurd (none_some e)
removal_at id (Some cpu) e = (cpu, refl, e)

-- one that stays is not leaving
pub not_open : {R : Type 0} (v : CpusView R) (r : Record) (m : ℕ) → is_staying v r ≡ true → removal_on m v ≡ Some r.id → ⊥
not_open v r m stays e = let (cpu, at, is) = removal_at r.id (slice_get v.cpus m) e in
    not_leaving v r.id (and_second (is_everywhere r.placement) (list_any (is_leaving_here r.id) v.cpus) stays) m cpu at is

-- an id that is leaving is leaving on some CPU
pub open_on : {R : Type 0} (v : CpusView R) (id : ℕ) → list_any (is_leaving_here id) v.cpus ≡ true → (m : ℕ)
    × (removal_on m v ≡ Some id)
open_on {R} v id e =
    let (k, low, passes) = any_position (is_leaving_here id) v.cpus e in
    let (cpu, at) = get_some v.cpus k low in (
      k,
      ap (λ o. option_and_then (λ (cpu : CpuView R). cpu.removal) o) at
          ∙ named cpu.removal (sym (ap (is_leaving_here id) (get_or_from_slice_get v.cpus k cpu cpu at)) ∙ passes cpu),
    )
  where
    named : (o : Option ℕ) → option_map_or (λ own. own == id) o false ≡ true → o ≡ Some id
    named None h = absurd (false_true h)
    named (Some own) h = ap Some (eq_true own id h)

-- ---- how many come back

module _ {R : Type 0} (view : R → FiringView) (s : SystemView R) (a : Agrees s) (rising : HasRisingIds s.records)
    (lawful : (n : ℕ) (cpu : CpuView R) → IsCpu n cpu s.cpus → IsLawful view cpu) where
  -- each online CPU has them all
  pub staying_on : (m q : ℕ) → is_online m s.cpus ≡ true → among q (ids_in (staying s)) ≡ true → has m q s.cpus ≡ true
  staying_on m q on h = let (k, r, is, named, stays) = found_in (is_staying s.cpus) q s.records h in
      ap (λ i. has m i s.cpus) (sym named) ∙ by r stays (a.everywhere k m r is (staying_everywhere s.cpus r stays) on)
    where
      by : (r : Record) → is_staying s.cpus r ≡ true → (has m r.id s.cpus ≡ true) ⊎ ((j : ℕ) × (removal_on j s.cpus ≡ Some r.id))
          → has m r.id s.cpus ≡ true
      by r stays (inl here) = here
      by r stays (inr (j, e)) = absurd (not_open s.cpus r j stays e)

  -- so a CPU has indexes for them
  pub few_stay : length (staying s) ≤ most_cyclics
  few_stay =
      let (m, on) = a.some in
      let low : m < length s.cpus.cpus = subst (λ k. m < k) a.long (slice_get_within s.cpus.online m true (online_at s.cpus m on))
      in
      let (cpu, at) = get_some s.cpus.cpus m low in
      let law = lawful m cpu at in
      let within = no_more (ids_in (staying s)) (ids_of cpu) (records_rise (is_staying s.cpus) s.records rising)
      (rises_of (ids_of cpu) (ids_rise cpu.cyclics law.rising))
      (λ q h. sym (ap (λ ids. among q ids) (ids_there s.cpus m cpu cpu at)) ∙ staying_on m q on h) in
      let n = length-map (staying s) (λ (r : Record). r.id) in
      let c = length-map cpu.cyclics id_in in
      let few = law.few in let size = law.size in omega (arith, within, n, c, few, size)

-- a CPU that is offline has no cyclic
pub none_offline : {R : Type 0} (s : SystemView R) (n : ℕ) (cpu : CpuView R) → Agrees s → is_online n s.cpus ≡ false
    → IsCpu n cpu s.cpus → cpu.cyclics ≡ []
none_offline s n cpu a off at = by cpu.cyclics (ids_there s.cpus n cpu cpu at)
  where
    by : (cs : List Cyclic) → ids_on n s.cpus ≡ map id_in cs → cs ≡ []
    by [] e = refl
    by (c ∷ cs) e = absurd (let here : has n c.timer.id s.cpus ≡ true = ap (λ ids. among c.timer.id ids) e
        ∙ ap (λ b. b || among c.timer.id (map id_in cs)) (true_eq c.timer.id c.timer.id refl) in
        let (k, r, is, named, stands, on) = a.known n c.timer.id here in false_true (sym off ∙ on))

-- ---- the records afterwards

mapped_at : (f : Record → Record) (k : ℕ) (q : Record) (rs : List Record) → IsRecord (map f rs) k q → (r : Record)
    × IsRecord rs k r × (q ≡ f r)
mapped_at f k q [] e = absurd (none_some e)
mapped_at f zero q (x ∷ rs) e = (x, refl, sym (same_some e))
mapped_at f (suc k) q (x ∷ rs) e = mapped_at f k q rs e

pub at_mapped : (f : Record → Record) (k : ℕ) (r : Record) (rs : List Record) → IsRecord rs k r → IsRecord (map f rs) k (f r)
at_mapped f k r [] e = absurd (none_some e)
at_mapped f zero r (x ∷ rs) e = ap (λ y. Some (f y)) (same_some e)
at_mapped f (suc k) r (x ∷ rs) e = at_mapped f k r rs e

set_there : (xs : List Sent) (n : ℕ) → get_or (slice_set xs n no_counts) n no_counts ≡ no_counts
set_there [] n = refl
set_there (x ∷ xs) zero = refl
set_there (x ∷ xs) (suc n) = set_there xs n

-- what a return changes of a record, where it changes it
pub record Turned (n : ℕ) (stays : Bool) (r q : Record) : Type 0 where
  pub id : q.id ≡ r.id
  pub level : q.level ≡ r.level
  pub placement : q.placement ≡ r.placement
  pub here : stays ≡ true → ended_on n q ≡ no_counts
  pub other : (m : ℕ) → m ≢ n → ended_on m q ≡ ended_on m r
  pub left : stays ≡ false → q ≡ r
  pub less : (m : ℕ) → (ended_on m q).sent ≤ (ended_on m r).sent

pub turned : (n : ℕ) (b : Bool) (r : Record) → Turned n b r (cond b (with_ended n no_counts r) r)
turned n true r = record {
  id = refl;
  level = refl;
  placement = refl;
  here = λ e. set_there r.ended n;
  other = λ m ne. get_or-set_other r.ended n m no_counts no_counts ne;
  left = λ e. absurd (false_true (sym e));
  less = λ m. dite (ℕ_discrete m n)
      (λ e. let z : (ended_on m (with_ended n no_counts r)).sent ≡ 0 = ap (λ k. (ended_on k (with_ended n no_counts r)).sent) e
      ∙ ap (λ (c : Sent). c.sent) (set_there r.ended n) in omega (arith, z))
      (λ ne. let z = ap (λ (c : Sent). c.sent) (get_or-set_other r.ended n m no_counts no_counts ne) in omega (arith, z));
}
turned n false r = record {
  id = refl;
  level = refl;
  placement = refl;
  here = λ e. absurd (false_true e);
  other = λ m ne. refl;
  left = λ e. refl;
  less = λ m. omega arith;
}

pub turned_at : {R : Type 0} (n : ℕ) (v : CpusView R) (rs : List Record) (k : ℕ) (q : Record)
    → IsRecord (map (after_return n v) rs) k q
    → (r : Record) × IsRecord rs k r × Turned n (is_staying v r) r q
turned_at n v rs k q is = let (r, at, same) = mapped_at (after_return n v) k q rs is in
    (r, at, subst (λ p. Turned n (is_staying v r) r p) (sym same) (turned n (is_staying v r) r))

-- ---- the system afterwards

module _ {R : Type 0} (n : ℕ) (s : SystemView R) (u w : CpusView R) (a : Agrees s) (rising : HasRisingIds s.records)
    (off : is_online n s.cpus ≡ false)
    (same : SameWho s.cpus u) (x : CpuView R) (at : IsCpu n x u) (empty : x.cyclics ≡ []) (b : Back n (staying s) u w) where
  low : n < length s.cpus.cpus
  low = subst (λ k. n < k) same.long (slice_get_within u.cpus n x at)

  or_none : (p q : Bool) → q ≡ false → (p || q) ≡ p
  or_none true q e = refl
  or_none false q e = e

  has_here : (q : ℕ) → has n q w ≡ among q (ids_in (staying s))
  has_here q = back_has n (staying s) u w x at b q
      ∙ or_none (among q (ids_in (staying s))) (among q (ids_of x)) (ap (λ cs. among q (map id_in cs)) empty)

  has_there : (m q : ℕ) → m ≢ n → has m q w ≡ has m q s.cpus
  has_there m q ne = ap (λ ids. among q ids) (back_elsewhere n (staying s) u w x at b m ne) ∙ has_same s.cpus u same m q

  removals : (m : ℕ) → removal_on m w ≡ removal_on m s.cpus
  removals m = back_removals n (staying s) u w x at b m ∙ same.removals m

  most : (m : ℕ) → most_on m w ≡ most_on m s.cpus
  most m = back_most n (staying s) u w x at b m ∙ same.most m

  suspended : (m : ℕ) → suspended_on m w ≡ suspended_on m s.cpus
  suspended m = back_suspended n (staying s) u w x at b m ∙ same.suspended m

  long : length w.cpus ≡ length s.cpus.cpus
  long = b.long ∙ same.long

  as_before : w.online ≡ s.cpus.online
  as_before = b.online ∙ same.online

  low_online : n < length w.online
  low_online = (let e = ap (λ (o : List Bool). length o) as_before in let l = a.long in let h = low in omega (arith, e, l, h))

  online_here : is_online n (switched_on n w) ≡ true
  online_here = ap (λ o. option_map_or (λ online. online) o false) (get_set_same w.online n true low_online)

  online_there : (m : ℕ) → m ≢ n → is_online m (switched_on n w) ≡ is_online m s.cpus
  online_there m ne = ap (λ o. option_map_or (λ online. online) o false) (get_set_other w.online n m true ne
      ∙ ap (λ o. slice_get o m) as_before)

  -- what is online was not this CPU
  not_this : (m : ℕ) → is_online m s.cpus ≡ true → m ≢ n
  not_this m on e = false_true (sym off ∙ (ap (λ k. is_online k s.cpus) (sym e) ∙ on))

  after : List Record
  after = map (after_return n s.cpus) s.records

  by_known : (m q : ℕ) → has m q w ≡ true → (k : ℕ) × (r : Record) × IsRecord after k r × (r.id ≡ q) × Stands m r.placement
      × (is_online m (switched_on n w) ≡ true)
  unfolding after
  by_known m q h = dite (ℕ_discrete m n)
      (λ e. let (k, r, is, named, stays) = found_in (is_staying s.cpus) q s.records (sym (has_here q)
      ∙ (ap (λ j. has j q w) (sym e) ∙ h)) in
      let t = turned n (is_staying s.cpus r) r in (
        k,
        after_return n s.cpus r,
        at_mapped (after_return n s.cpus) k r s.records is,
        t.id ∙ named,
        subst (λ p. Stands m p) (sym t.placement) (all_stand r.placement (staying_everywhere s.cpus r stays)),
        ap (λ j. is_online j (switched_on n w)) e ∙ online_here,
      ))
      (λ ne. let (k, r, is, named, stands, on) = a.known m q (sym (has_there m q ne) ∙ h) in
      let t = turned n (is_staying s.cpus r) r in (
        k,
        after_return n s.cpus r,
        at_mapped (after_return n s.cpus) k r s.records is,
        t.id ∙ named,
        subst (λ p. Stands m p) (sym t.placement) stands,
        online_there m ne ∙ on,
      ))
    where
      all_stand : (p : Placement) → is_everywhere p ≡ true → Stands m p
      all_stand (On j bound) e = absurd (false_true e)
      all_stand (Everywhere series skew) e = tt

  by_home : (k m : ℕ) (bound : Bool) (q : Record) → IsRecord after k q → q.placement ≡ On m bound → has m q.id w ≡ true
  unfolding after
  by_home k m bound q is p =
      let (r, before, t) = turned_at n s.cpus s.records k q is in
      let here = a.home k m bound r before (sym t.placement ∙ p) in
      let (j, y, at2, named, stands, on) = a.known m r.id here in
      ap (λ i. has m i w) t.id ∙ has_there m r.id (not_this m on) ∙ here

  by_everywhere : (k m : ℕ) (q : Record) → IsRecord after k q → is_everywhere q.placement ≡ true
      → is_online m (switched_on n w) ≡ true
      → (has m q.id w ≡ true) ⊎ ((j : ℕ) × (removal_on j w ≡ Some q.id))
  unfolding after
  by_everywhere k m q is p on =
      let (r, before, t) = turned_at n s.cpus s.records k q is in
      let every : is_everywhere r.placement ≡ true = ap is_everywhere (sym t.placement) ∙ p in
      dite (ℕ_discrete m n)
      (λ e. back_here r e t.id before every (list_any (is_leaving_here r.id) s.cpus.cpus) refl)
      (λ ne. there r t.id ne (a.everywhere k m r before every (sym (online_there m ne) ∙ on)))
    where
      back_here : (r : Record) → m ≡ n → q.id ≡ r.id → IsRecord s.records k r → is_everywhere r.placement ≡ true → (c : Bool)
          → list_any (is_leaving_here r.id) s.cpus.cpus ≡ c
          → (has m q.id w ≡ true) ⊎ ((j : ℕ) × (removal_on j w ≡ Some q.id))
      back_here r e id before every true leaving = let (j, is) = open_on s.cpus r.id leaving in
          inr (j, removals j ∙ is ∙ ap Some (sym id))
      back_here r e id before every false still = inl (ap (λ i. has m i w) id ∙ ap (λ j. has j r.id w) e ∙ has_here r.id
          ∙ is_in (is_staying s.cpus) k r s.records before (λ i. every i && not (still i)))

      there : (r : Record) → q.id ≡ r.id → m ≢ n → (has m r.id s.cpus ≡ true) ⊎ ((j : ℕ) × (removal_on j s.cpus ≡ Some r.id))
          → (has m q.id w ≡ true) ⊎ ((j : ℕ) × (removal_on j w ≡ Some q.id))
      there r id ne (inl here) = inl (ap (λ i. has m i w) id ∙ has_there m r.id ne ∙ here)
      there r id ne (inr (j, is)) = inr (j, removals j ∙ is ∙ ap Some (sym id))

  by_ended : (k m : ℕ) (q : Record) → IsRecord after k q → has m q.id w ≡ true → ended_on m q ≡ no_counts
  unfolding after
  by_ended k m q is h =
      let (r, before, t) = turned_at n s.cpus s.records k q is in
      dite (ℕ_discrete m n)
      (λ e. ap (λ j. ended_on j q) e ∙ t.here (let (j, p, at2, named, stays) = found_in (is_staying s.cpus) r.id s.records
      (sym (has_here r.id) ∙ (ap (λ i. has i r.id w) (sym e) ∙ (ap (λ i. has m i w) (sym t.id) ∙ h))) in
      let one : p ≡ r = same_some (sym at2 ∙ subst (λ i. IsRecord s.records i r)
      (sym (one_record s.records k j r p rising before at2 named)) before) in
      ap (is_staying s.cpus) (sym one) ∙ stays))
      (λ ne. t.other m ne ∙ a.ended k m r before (sym (has_there m r.id ne) ∙ (ap (λ i. has m i w) (sym t.id) ∙ h)))

  by_single : (k m : ℕ) (q : Record) → IsRecord after k q → is_everywhere q.placement ≡ false → ended_on m q ≡ no_counts
  unfolding after
  by_single k m q is p =
      let (r, before, t) = turned_at n s.cpus s.records k q is in
      let one : is_everywhere r.placement ≡ false = ap is_everywhere (sym t.placement) ∙ p in
      ap (λ y. ended_on m y) (t.left (ap (λ c. c && not (list_any (is_leaving_here r.id) s.cpus.cpus)) one))
      ∙ a.single k m r before one

  pub agrees_online : Agrees (record { cpus = switched_on n w; records = map (after_return n s.cpus) s.records; last = s.last })
  unfolding after
  agrees_online = record {
    known = by_known;
    home = by_home;
    everywhere = by_everywhere;
    ended = by_ended;
    single = by_single;
    given = λ k q is. (let (r, before, t) = turned_at n s.cpus s.records k q is in let l = a.given k r before in let e = t.id in
        omega (arith, l, e));
    few = subst (λ k. k ≤ 16) (sym long) a.few;
    long = length-set w.online n true ∙ ap (λ (o : List Bool). length o) as_before ∙ a.long ∙ sym long;
    some = (a.some.0, online_there a.some.0 (not_this a.some.0 a.some.1) ∙ a.some.1);
    most = λ m j c d e f. a.most m j c d (sym (most m) ∙ e) (sym (most j) ∙ f);
    suspended = λ m j c d e f. a.suspended m j c d (sym (suspended m) ∙ e) (sym (suspended j) ∙ f);
  }

  pub within_online : EndedWithin s → EndedWithin
      (record { cpus = switched_on n w; records = map (after_return n s.cpus) s.records; last = 0 })
  within_online h k m bound q is e = let (r, before, t) = turned_at n s.cpus s.records k q is in
      let l = h k m bound r before (sym (most m) ∙ e) in let less = t.less m in omega (arith, l, less)

  pub whole_online : LeaveWhole s.cpus → LeaveWhole (switched_on n w)
  whole_online h m k q e there = dite (ℕ_discrete k n)
      (λ same. let (j, r, is, named, stays) = found_in (is_staying s.cpus) q s.records (sym (has_here q)
      ∙ (ap (λ i. has i q w) (sym same) ∙ there)) in
      absurd (not_open s.cpus r m stays (sym (removals m) ∙ e ∙ ap Some (sym named))))
      (λ ne. removals k ∙ h m k q (sym (removals m) ∙ e) (sym (has_there k q ne) ∙ there))
