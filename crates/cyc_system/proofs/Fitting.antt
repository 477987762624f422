-- What an offline keeps: the counts that ended stays left on the CPU fit it.
use Rattle.std.proofs.Common.{◌≡◌, ◌≢◌, ◌∙◌, ◌==◌, ℕ, zero, suc, ◌+◌, ◌≤◌, ◌⊎◌, inl, inr, Bool, true, false, cond, All, Option}
use Rattle.std.proofs.Common.{Some, None, Ok, Err, List, [], ◌∷◌, ◌++◌, get_or, slice_set, option_map, refl, sym, ap, subst}
use Rattle.std.proofs.Common.{arith, eq-eqb}
use Rattle.std.specs.List.{slice_get}
use Rattle.std.specs.Option.{option_map_or}
use Rattle.std.proofs.lemmas.Bool.Decides.{nat_tests}
use Rattle.std.proofs.lemmas.Option.{slice_get_within}
use Rattle.std.proofs.lemmas.List.{get_or-set_other}
use Rattle.std.proofs.lemmas.List.Sums.{sum_by-cons}
use mathlib.Core.Logic.{dite}
use native.Mathlib.Decide.{ℕ_discrete}
use Rattle.cyc_types.specs.declared.Raise.{Ghosts as Raise}
use Rattle.cyc_types.specs.declared.firing.Sent.{Sent}
use Rattle.cyc_types.specs.Counting.{no_counts}
use Rattle.cyc_agreement.specs.Rows.{Cyclic}
use Rattle.cyc_cpu.specs.Made.{HasCounts}
use Rattle.cyc_cpu.specs.declared.moving.Taken.{Taken}
use Rattle.cyc_cpu.specs.Cpu.{CpuView, HasNoCyclic, HasRisingCyclics}
use Rattle.cyc_cpu.specs.Laws.{IsLawful}
use Rattle.cyc_cpu.specs.Calls.{AskPending, Reserve, TakeNow}
use Rattle.cyc_cpu.specs.Carried.{expired_of, entered_by, left_by}
use Rattle.cyc_cpu.proofs.Shifts.{changes_shift, shift_sums}
use Rattle.cyc_places.specs.declared.record.Placement.TheVariants as stands
use Rattle.cyc_places.specs.declared.record.Record.{Record}
use Rattle.cyc_places.specs.Places.{IsRecord, ended_on, summed, with_placement, with_ended}
use Rattle.cyc_agreement.specs.Cpus.{CpusView, IsCpu, CallOn, on, DoesAt, Works}
use Rattle.cyc_agreement.specs.Shifting.{moving}
use Rattle.cyc_agreement.proofs.CpuSpots.{get_set_same, get_set_other}
use Rattle.cyc_agreement.specs.System.{SystemView, has}
use Rattle.cyc_agreement.specs.Agreement.{most_on}
use Rattle.cyc_agreement.specs.Holding.{EndedWithin, Holds}
use Rattle.cyc_agreement.specs.Adding.{OnlyWorks}
use Rattle.cyc_agreement.proofs.Spots.{same_some, none_some}
use Rattle.cyc_agreement.proofs.Lists.{false_true}
use Rattle.cyc_agreement.proofs.Entering.{none_here}
use Rattle.cyc_agreement.proofs.Destinations.{destination_fits}
use Rattle.cyc_system.specs.declared.turning.Turn.{Turn}
use Rattle.cyc_system.specs.declared.turning.Turn.TheVariants.{StaysBound, StaysPending, StaysRefused, Moves}
use Rattle.cyc_system.specs.Juggling.{TakesTurn}
use Rattle.cyc_system.specs.GoingOffline.{quiet, Retires}
use Rattle.cyc_system.proofs.Turned.{StillHolds, was}

-- ---- the counts of a cyclic on its CPU

expired_none : (id : ℕ) (cs : List Cyclic) → HasNoCyclic id cs → expired_of id cs ≡ 0
expired_none id [] none = refl
expired_none id (c ∷ cs) none =
    let ne : c.timer.id ≢ id = none 0 c (omega arith) in
    let no : (c.timer.id == id) ≡ false = grind (arith, nat_tests) in
    let a = sum_by-cons (λ (x : Cyclic). cond (x.timer.id == id) x.timer.expired 0) c cs in
    let b = ap (λ (t : Bool). cond t c.timer.expired 0) no in
    let r = expired_none id cs (λ k d low. none (suc k) d (omega (arith, low))) in omega (arith, a, b, r)

rising_tail : (c : Cyclic) (cs : List Cyclic) → HasRisingCyclics (c ∷ cs) → HasRisingCyclics cs
rising_tail c cs h i j d less low = h (suc i) (suc j) d (omega (arith, less)) (omega (arith, low))

-- no more than one cyclic has the id
expired_few : (most id : ℕ) (cs : List Cyclic) → HasRisingCyclics cs → All (HasCounts most) cs → expired_of id cs ≤ most
expired_few most id [] rising counted = omega arith
expired_few most id (c ∷ cs) rising counted = dite (ℕ_discrete c.timer.id id)
    (λ e. let yes : (c.timer.id == id) ≡ true = eq-eqb c.timer.id id e in
    let z = expired_none id cs (λ k d low same. let l = rising 0 (suc k) d (omega arith) (omega (arith, low)) in
    absurd (omega (arith, l, e, same))) in
    let a = sum_by-cons (λ (x : Cyclic). cond (x.timer.id == id) x.timer.expired 0) c cs in
    let b = ap (λ (t : Bool). cond t c.timer.expired 0) yes in
    let f = (counted 0 c (omega arith)).few in omega (arith, z, a, b, f))
    (λ ne. let no : (c.timer.id == id) ≡ false = grind (arith, nat_tests) in
    let a = sum_by-cons (λ (x : Cyclic). cond (x.timer.id == id) x.timer.expired 0) c cs in
    let b = ap (λ (t : Bool). cond t c.timer.expired 0) no in
    let r = expired_few most id cs (rising_tail c cs rising) (λ k d low. counted (suc k) d (omega (arith, low))) in
    omega (arith, a, b, r))

-- ---- calls that put nothing into the CPU of a number

abbrev expired_on : {R : Type 0} → ℕ → ℕ → CpusView R → ℕ
expired_on n id v = option_map_or (λ cpu. expired_of id cpu.cyclics) (slice_get v.cpus n) 0

abbrev PutsNone : ℕ → List CallOn → Type 0
PutsNone n [] = Unit {0}
PutsNone n (c ∷ way) = (c.cpu ≡ n → (id : ℕ) → (entered_by c.call id).sent ≡ 0) × PutsNone n way

ended_set : (xs : List Sent) (n : ℕ) (c : Sent) → (get_or (slice_set xs n c) n no_counts).sent ≤ c.sent
ended_set [] zero c = omega arith
ended_set [] (suc n) c = omega arith
ended_set (x ∷ xs) zero c = omega arith
ended_set (x ∷ xs) (suc n) c = ended_set xs n c

left_own : (id : ℕ) (taken : Taken) → (left_by (TakeNow id (Ok taken)) id).sent ≡ taken.sent.sent
left_own id taken = ap (λ (b : Bool). (cond b taken.sent no_counts).sent) (eq-eqb id id refl)

module _ {R : Type 0} (firing : Raise R) (n : ℕ) where
  -- what the CPU has of the id after a call on it, and what left it
  sums_here : (v w : CpusView R) (c : CallOn) (id : ℕ) → DoesAt firing v c w → c.cpu ≡ n
      → expired_on n id w + (left_by c.call id).sent ≡ expired_on n id v + (entered_by c.call id).sent
  sums_here v w c id d e =
      let s = (shift_sums c.call d.before.cyclics d.after.cyclics id (changes_shift firing d.before d.after c.call d.change)).0
      in
      let here : expired_on n id v ≡ expired_of id d.before.cyclics =
      ap (λ o. option_map_or (λ (cpu : CpuView R). expired_of id cpu.cyclics) o 0)
      (ap (λ k. slice_get v.cpus k) (sym e) ∙ d.here) in
      let now : expired_on n id w ≡ expired_of id d.after.cyclics = ap (λ u. expired_on n id u) d.rest
      ∙ ap (λ o. option_map_or (λ (cpu : CpuView R). expired_of id cpu.cyclics) o 0)
      (ap (λ k. slice_get (slice_set v.cpus c.cpu d.after) k) (sym e)
      ∙ get_set_same v.cpus c.cpu d.after (slice_get_within v.cpus c.cpu d.before d.here)) in
      omega (arith, s, here, now)

  elsewhere : (v w : CpusView R) (c : CallOn) (id : ℕ) → DoesAt firing v c w → c.cpu ≢ n
      → expired_on n id w ≡ expired_on n id v
  elsewhere v w c id d ne = ap (λ u. expired_on n id u) d.rest
      ∙ ap (λ o. option_map_or (λ (cpu : CpuView R). expired_of id cpu.cyclics) o 0)
      (get_set_other v.cpus c.cpu n d.after (λ e. ne (sym e)))

  fewer_one : (v w : CpusView R) (c : CallOn) (id : ℕ) → DoesAt firing v c w
      → (c.cpu ≡ n → (q : ℕ) → (entered_by c.call q).sent ≡ 0) → expired_on n id w ≤ expired_on n id v
  fewer_one v w c id d none = dite (ℕ_discrete c.cpu n)
      (λ e. let s = sums_here v w c id d e in let z = none e id in omega (arith, s, z))
      (λ ne. let s = elsewhere v w c id d ne in omega (arith, s))

  fewer : (v w : CpusView R) (way : List CallOn) (id : ℕ) → PutsNone n way → Works firing way v w
      → expired_on n id w ≤ expired_on n id v
  fewer v w [] id none last = let e = ap (λ u. expired_on n id u) last in omega (arith, e)
  fewer v w (c ∷ way) id none (u, does, rest) = let a = fewer_one v u c id does none.0 in let b = fewer u w way id none.1 rest in
      omega (arith, a, b)

  -- ---- the counts of ended stays fit their CPUs, here with those of the cyclic

  pub record Fits (u : SystemView R) : Type 0 where
    pub own : (k most : ℕ) (r : Record) → IsRecord u.records k r → most_on n u.cpus ≡ Some most
        → (ended_on n r).sent + expired_on n r.id u.cpus ≤ most
    pub others : (k m most : ℕ) (r : Record) → m ≢ n → IsRecord u.records k r → most_on m u.cpus ≡ Some most
        → (ended_on m r).sent ≤ most

  pub fits_within : (u : SystemView R) → Fits u → EndedWithin u
  fits_within u f k m most r is e = dite (ℕ_discrete m n)
      (λ same. let l = f.own k most r is (ap (λ x. most_on x u.cpus) (sym same) ∙ e) in let z = ap (λ x. (ended_on x r).sent) same
      in omega (arith, l, z))
      (λ ne. f.others k m most r ne is e)

  pub fits_first : (s : SystemView R) → Holds s → ((m : ℕ) (cpu : CpuView R) → IsCpu m cpu s.cpus → IsLawful firing.view cpu)
      → Fits s
  fits_first s h lawful = record {
    own = λ k most r is e. by k most r is e (slice_get s.cpus.cpus n) refl
        (has n r.id s.cpus) refl;
    others = λ k m most r ne is e. h.within k m most r is e;
  }
    where
      by : (k most : ℕ) (r : Record) → IsRecord s.records k r → most_on n s.cpus ≡ Some most → (o : Option (CpuView R))
          → slice_get s.cpus.cpus n ≡ o → (b : Bool) → has n r.id s.cpus ≡ b
          → (ended_on n r).sent + expired_on n r.id s.cpus ≤ most
      by k most r is e None at b here = absurd (none_some (sym (ap (λ o. option_map (λ (cpu : CpuView R). cpu.most) o) at) ∙ e))
      by k most r is e (Some cpu) at true here =
          let z = ap (λ c. c.sent) (h.agrees.ended k n r is here) in
          let law = lawful n cpu at in
          let few = expired_few cpu.most r.id cpu.cyclics law.rising law.counted in
          let x : expired_on n r.id s.cpus ≡ expired_of r.id cpu.cyclics =
          ap (λ o. option_map_or (λ (c : CpuView R). expired_of r.id c.cyclics) o 0) at in
          let m : cpu.most ≡ most = same_some (sym (ap (λ o. option_map (λ (c : CpuView R). c.most) o) at) ∙ e) in
          omega (arith, z, few, x, m)
      by k most r is e (Some cpu) at false here =
          let l = h.within k n most r is e in
          let z = expired_none r.id cpu.cyclics (none_here s.cpus n r.id cpu (λ yes. false_true (sym here ∙ yes)) at) in
          let x : expired_on n r.id s.cpus ≡ expired_of r.id cpu.cyclics =
          ap (λ o. option_map_or (λ (c : CpuView R). expired_of r.id c.cyclics) o 0) at in
          omega (arith, l, z, x)

  -- calls that put nothing in here, where each record has the ended counts of one with its id
  fits_on : (s t : SystemView R) (way : List CallOn) → PutsNone n way → Works firing way s.cpus t.cpus
      → ((m : ℕ) → most_on m t.cpus ≡ most_on m s.cpus)
      → ((k : ℕ) (r : Record) → IsRecord t.records k r → (j : ℕ) × (q : Record) × IsRecord s.records j q × (q.id ≡ r.id)
      × ((m : ℕ) → ended_on m r ≡ ended_on m q)) → Fits s → Fits t
  fits_on s t way none works most back f = record {
    own = λ k m r is e. (let (j, q, at, named, same) = back k r is in
        let l = f.own j m q at (sym (most n) ∙ e) in let x = ap (λ c. c.sent) (same n) in
        let less = fewer s.cpus t.cpus way r.id none works in let y = ap (λ i. expired_on n i s.cpus) named in
        omega (arith, l, x, less, y));
    others = λ k m b r ne is e. (let (j, q, at, named, same) = back k r is in
        let l = f.others j m b q ne at (sym (most m) ∙ e) in let x = ap (λ c. c.sent) (same m) in omega (arith, l, x));
  }

  itself : (s t : SystemView R) → t.records ≡ s.records → (k : ℕ) (r : Record) → IsRecord t.records k r
      → (j : ℕ) × (q : Record) × IsRecord s.records j q × (q.id ≡ r.id) × ((m : ℕ) → ended_on m r ≡ ended_on m q)
  itself s t e k r is = (k, r, subst (λ rs. IsRecord rs k r) e is, refl, λ m. refl)

  pub fits_calls : (s t : SystemView R) (way : List CallOn) → PutsNone n way → OnlyWorks firing way s t
      → ((m : ℕ) → most_on m t.cpus ≡ most_on m s.cpus) → Fits s → Fits t
  fits_calls s t way none (works, records, last) most f = fits_on s t way none works most (itself s t records) f

  pub puts_quiet : (ids : List ℕ) → PutsNone n (quiet n ids)
  puts_quiet [] = tt
  puts_quiet (id ∷ ids) = (λ e q. refl, puts_quiet ids)

  puts_on : (xs ys : List CallOn) → PutsNone n xs → PutsNone n ys → PutsNone n (xs ++ ys)
  puts_on [] ys a b = b
  puts_on (x ∷ xs) ys a b = (a.0, puts_on xs ys a.1 b)

  pub puts_found : (ids : List ℕ) (id found : ℕ) → PutsNone n (quiet n ids ++ on n (AskPending id (Some found)) ∷ [])
  puts_found ids id found = puts_on (quiet n ids) _ (puts_quiet ids) (λ e q. refl, tt)

  pub fits_turn : (id : ℕ) (turn : Turn) (s t : SystemView R) → TakesTurn firing n id turn s t → StillHolds firing s t
      → Fits s → Fits t
  fits_turn id StaysBound s t (placement, same) still f = subst Fits (sym same) f
  fits_turn id StaysPending s t (placement, found, some, only) still f =
      fits_calls s t (on n (AskPending id (Some found)) ∷ []) (λ e q. refl, tt) only still.most f
  fits_turn id StaysRefused s t (placement, d, chosen, e, only) still f =
      fits_calls s t (on n (AskPending id (Some 0)) ∷ on d (Reserve 1 (Err e)) ∷ [])
      (λ e q. refl, (λ e q. refl, tt)) only still.most f
  fits_turn id Moves s t (placement, d, chosen, (taken, works), (k, r, here, named, records, last)) still f =
      fits_on s t (moving id n d taken) (λ e q. refl, (λ e q. refl, (λ e q. refl, (λ e q. refl, (λ e. absurd (apart e), tt)))))
      works still.most
      (λ j q is. by j q (was firing s.records k j r (with_placement (stands.On d false) r) q here refl
      (subst (λ rs. IsRecord rs j q) records is))) f
    where
      apart : d ≢ n
      apart e = (destination_fits (Some n) s.cpus d chosen).1 (ap Some (sym e))

      by : (j : ℕ) (q : Record) → ((j ≡ k) × (q ≡ with_placement (stands.On d false) r)) ⊎ ((j ≢ k) × IsRecord s.records j q)
          → (i : ℕ) × (p : Record) × IsRecord s.records i p × (p.id ≡ q.id) × ((m : ℕ) → ended_on m q ≡ ended_on m p)
      by j q (inl (e, same)) = (k, r, here, sym (ap (λ (x : Record). x.id) same), λ m. ap (λ p. ended_on m p) same)
      by j q (inr (ne, at)) = (j, q, at, refl, λ m. refl)

  -- a component leaves with its counts
  pub fits_retired : (id : ℕ) (s t : SystemView R) → Retires firing n s id t → ((m : ℕ) → most_on m t.cpus ≡ most_on m s.cpus)
      → Fits s → Fits t
  fits_retired id s t (taken, does, k, r, here, named, records, last) most f = record {
    own = λ j b q is e. own j b q (was firing s.records k j r x q here refl (subst (λ rs. IsRecord rs j q) records is))
        (sym (most n) ∙ e);
    others = λ j m b q ne is e. others j m b q ne
        (was firing s.records k j r x q here refl (subst (λ rs. IsRecord rs j q) records is)) (sym (most m) ∙ e);
  }
    where
      x : Record
      x = with_ended n (summed (ended_on n r) taken.sent) r

      own : (j b : ℕ) (q : Record) → ((j ≡ k) × (q ≡ with_ended n (summed (ended_on n r) taken.sent) r))
          ⊎ ((j ≢ k) × IsRecord s.records j q) → most_on n s.cpus ≡ Some b
          → (ended_on n q).sent + expired_on n q.id t.cpus ≤ b
      own j b q (inl (e, same)) at =
          let l = f.own k b r here at in
          let a = ended_set r.ended n (summed (ended_on n r) taken.sent) in
          let z = ap (λ (p : Record). (ended_on n p).sent) same in
          let g = sums_here s.cpus t.cpus (on n (TakeNow id (Ok taken))) id does refl in
          let o = left_own id taken in
          let i = ap (λ p. expired_on n p.id t.cpus) same ∙ ap (λ i. expired_on n i t.cpus) named in
          let y = ap (λ i. expired_on n i s.cpus) named in omega (arith, l, a, z, g, o, i, y)
      own j b q (inr (ne, is)) at =
          let l = f.own j b q is at in let less = fewer_one s.cpus t.cpus (on n (TakeNow id (Ok taken))) q.id does (λ e p. refl)
          in omega (arith, l, less)

      others : (j m b : ℕ) (q : Record) → m ≢ n → ((j ≡ k) × (q ≡ with_ended n (summed (ended_on n r) taken.sent) r))
          ⊎ ((j ≢ k) × IsRecord s.records j q) → most_on m s.cpus ≡ Some b
          → (ended_on m q).sent ≤ b
      others j m b q ne (inl (e, same)) at =
          let l = f.others k m b r ne here at in
          let z = ap (λ (p : Record). (ended_on m p).sent) same in
          let y = ap (λ c. c.sent) (get_or-set_other r.ended n m (summed (ended_on n r) taken.sent) no_counts ne) in
          omega (arith, l, z, y)
      others j m b q ne (inr (other, is)) at = f.others j m b q ne is at
