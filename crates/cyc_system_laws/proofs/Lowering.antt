-- What asks or makes room leaves a CPU lawful.
use Rattle.std.proofs.Common.{◌≡◌, ℕ, zero, suc, ◌+◌, ◌<◌, ◌≤◌, ◌^◌, nat_le, All, Bool, true, false, cond, eqb, List, [], ◌∷◌}
use Rattle.std.proofs.Common.{map, length, Option, Some, None, refl, sym, ap, subst, ◌∙◌, arith, inl, inr}
use Rattle.std.proofs.lemmas.Bool.Decides.{nat_tests}
use Rattle.std.proofs.lemmas.Bool.{cases_lt}
use Rattle.std.proofs.Math.Nat.{pow-le-pow_right}
use Rattle.cyc_types.specs.Limits.{cyclics as most_cyclics, greatest_bank}
use Rattle.cyc_types.specs.declared.Raise.{Ghosts as Raise}
use Rattle.cyc_types.specs.Firing.{FiringView, Stay, Loads, Looks, Expands, Learns, Sound, edited, seen_in}
use Rattle.cyc_types.specs.Runs.{Goes}
use Rattle.cyc_types.specs.declared.level.Level.{Level}
use Rattle.cyc_types.specs.declared.level.Level.TheVariants.{Low, Lock}
use Rattle.cyc_cpu.specs.Rows.{Cyclic}
use Rattle.cyc_cpu.specs.Acts.{same_level}
use Rattle.cyc_cpu.specs.Rows.{timers}
use Rattle.cyc_types.specs.Expirations.{expirations, times_of}
use Rattle.cyc_types.specs.Timers.{HasDistinctIds}
use Rattle.cyc_cpu.specs.Losses.{IsSpared}
use Rattle.cyc_cpu.specs.Cpu.{
  CpuView,
  AreAdmitted,
  HasCounts,
  HasRisingCyclics,
  IsRemoved,
  Asks,
  Looked,
  Reserves,
  MayWiden,
  Widens,
}
use Rattle.cyc_cpu.specs.Cpu.{bank_for, least_bank}
use Rattle.cyc_cpu.specs.Laws.{IsLawful}

-- a stay of the one is one of the other, of which no more was seen
record Alike (s t : Stay) : Type 0 where
  index : t.index ≡ s.index
  sent : t.sent ≡ s.sent
  lost : t.lost ≡ s.lost
  seen : t.seen ≤ s.seen

alike_on : (r s t : Stay) → Alike r s → Alike s t → Alike r t
alike_on r s t a b = record {
  index = b.index ∙ a.index;
  sent = b.sent ∙ a.sent;
  lost = b.lost ∙ a.lost;
  seen = (let x = a.seen in let y = b.seen in omega (arith, x, y));
}

-- what a holder knows after it only asked or made room
record Lowers (v w : FiringView) : Type 0 where
  to : (j : ℕ) (s : Stay) → v.stays j ≡ Some s → (t : Stay) × (w.stays j ≡ Some t) × Alike s t
  from : (j : ℕ) (t : Stay) → w.stays j ≡ Some t → (s : Stay) × (v.stays j ≡ Some s) × Alike s t
  marked : w.marked ≡ v.marked
  ceiling : w.ceiling ≡ v.ceiling
  wider : 2 ^ v.bank ≤ 2 ^ w.bank
  greatest : v.bank ≤ greatest_bank → w.bank ≤ greatest_bank

itself : (s : Stay) → Alike s s
itself s = record { index = refl; sent = refl; lost = refl; seen = omega arith }

same_stays : (v w : FiringView) → w.stays ≡ v.stays → w.marked ≡ v.marked → w.ceiling ≡ v.ceiling → 2 ^ v.bank ≤ 2 ^ w.bank →
    (v.bank ≤ greatest_bank → w.bank ≤ greatest_bank) → Lowers v w
same_stays v w same marked ceiling wider greatest = record {
  to = λ j s is. (s, ap (λ (f : ℕ → Option Stay). f j) same ∙ is, itself s);
  from = λ j t is. (t, ap (λ (f : ℕ → Option Stay). f j) (sym same) ∙ is, itself t);
  marked = marked;
  ceiling = ceiling;
  wider = wider;
  greatest = greatest;
}

lowers_on : (u v w : FiringView) → Lowers u v → Lowers v w → Lowers u w
lowers_on u v w a b = record {
  to = λ j r is. (let (s, there, x) = a.to j r is in let (t, here, y) = b.to j s there in (t, here, alike_on r s t x y));
  from = λ j t is. (let (s, there, y) = b.from j t is in let (r, here, x) = a.from j s there in (r, here, alike_on r s t x y));
  marked = b.marked ∙ a.marked;
  ceiling = b.ceiling ∙ a.ceiling;
  wider = (let x = a.wider in let y = b.wider in omega (arith, x, y));
  greatest = λ h. b.greatest (a.greatest h);
}

saw_to : (b : Bool) (n : ℕ) (o : Option Stay) (s : Stay) → (b ≡ true → n ≤ seen_in o) → o ≡ Some s →
    (t : Stay) × (cond b (edited (λ x. record x { seen = n }) o) o ≡ Some t) × Alike s t
saw_to true n o s few is = (
  record s { seen = n },
  ap (edited (λ x. record x { seen = n })) is,
  record { index = refl; sent = refl; lost = refl; seen = (let f = few refl in let e = ap seen_in is in omega (arith, f, e)) },
)
saw_to false n o s few is = (s, is, itself s)

saw_from : (b : Bool) (n : ℕ) (o : Option Stay) (t : Stay) → (b ≡ true → n ≤ seen_in o) →
    cond b (edited (λ x. record x { seen = n }) o) o ≡ Some t → (s : Stay) × (o ≡ Some s) × Alike s t
saw_from true n None t few is = absurd (let wrong : None ≡ Some t = is in cc)
saw_from true n (Some s) t few is = (
  s,
  refl,
  subst (Alike s) (let e : record s { seen = n } ≡ t = cc in e) (record {
    index = refl;
    sent = refl;
    lost = refl;
    seen =
        few refl;
  }),
)
saw_from false n o t few is = (t, is, itself t)

lowers_load : (v w : FiringView) (id n : ℕ) → Learns v (Loads id n) w → Lowers v w
lowers_load v w id n (few, is) =
    let low = (λ (j : ℕ) (at : eqb j id ≡ true). let e : j ≡ id = grind (arith, nat_tests) in
    subst (λ k. n ≤ seen_in (v.stays k)) (sym e) few) in
    subst (Lowers v) (sym is) (record {
      to = λ j s here. saw_to (eqb j id) n (v.stays j) s (low j) here;
      from = λ j t here. saw_from (eqb j id) n (v.stays j) t (low j) here;
      marked = refl;
      ceiling = refl;
      wider = omega arith;
      greatest = λ h. h;
    })

lowers_look : (v w : FiringView) (answer : Bool) → Learns v (Looks answer) w → Lowers v w
lowers_look v w answer (once, is) = subst (Lowers v) (sym is) (same_stays v _ refl refl refl (omega arith) (λ h. h))

sound_lowers : (v w : FiringView) → Lowers v w → Sound v → Sound w
sound_lowers v w l h = record {
  some_ceiling = (let a = h.some_ceiling in let b = l.ceiling in omega (arith, a, b));
  capped = λ id t is. (let (s, there, x) = l.from id t is in let a = h.capped id s there in let b = l.ceiling in let c = x.seen in
      omega (arith, a, b, c));
  owed = λ id t is. (let (s, there, x) = l.from id t is in let a = h.owed id s there in let b = x.seen in let c = x.lost in
      let d = x.sent in omega (arith, a, b, c, d));
  apart = λ i j s t is at same. (let (p, there, x) = l.from i s is in let (q, here, y) = l.from j t at in
      h.apart i j p q there here (sym x.index ∙ same ∙ y.index));
  inside = λ id t is. (let (s, there, x) = l.from id t is in let a = h.inside id s there in let b = x.index in let c = l.wider in
      omega (arith, a, b, c));
  greatest = l.greatest h.greatest;
}

admitted_lowers : (soft : Level) (v w : FiringView) (cs : List Cyclic) → Lowers v w → AreAdmitted soft v cs →
    AreAdmitted soft w cs
admitted_lowers soft v w cs l h = record {
  here = λ k c is at. (let (s, there, (sent, lost)) = h.here k c is at in let (t, stands, x) = l.to c.timer.id s there in
      let a = x.sent in let b = x.lost in (t, stands, (omega (arith, sent, a), omega (arith, lost, b))));
  only = λ id t is. (let (s, there, x) = l.from id t is in h.only id s there);
  over = λ id t is some. (let (s, there, x) = l.from id t is in let a = x.lost in let b = x.sent in let c = l.ceiling in
      let d = h.over id s there (omega (arith, some, a)) in omega (arith, d, b, c));
}

-- what is true of a CPU stays so where its cyclics stay and its ends know no more
lawful_from : {R : Type 0} (view : R → FiringView) (v w : CpuView R) → IsLawful view v → Lowers (view v.lock) (view w.lock) →
    Lowers (view v.low) (view w.low) → w.cyclics ≡ v.cyclics → w.removal ≡ v.removal → w.most ≡ v.most →
    w.size ≡ 2 ^ (view w.lock).bank → w.size ≡ 2 ^ (view w.low).bank → v.size ≤ w.size → w.size ≤ most_cyclics → w.size ≤ w.room →
    IsLawful view w
lawful_from view v w h lock low cyclics removal most lock_bank low_bank wider few room = record {
  rising = subst (λ cs. HasRisingCyclics cs) (sym cyclics) h.rising;
  distinct = subst (λ cs. HasDistinctIds (timers cs)) (sym cyclics) h.distinct;
  counted = subst (λ cs. All (HasCounts w.most) cs) (sym cyclics) (subst (λ m. All (HasCounts m) v.cyclics) (sym most) h.counted);
  lock = subst (λ cs. AreAdmitted Lock (view w.lock) cs) (sym cyclics)
      (admitted_lowers Lock (view v.lock) (view w.lock) v.cyclics lock h.lock);
  low = subst (λ cs. AreAdmitted Low (view w.low) cs) (sym cyclics)
      (admitted_lowers Low (view v.low) (view w.low) v.cyclics low h.low);
  sound_lock = sound_lowers (view v.lock) (view w.lock) lock h.sound_lock;
  sound_low = sound_lowers (view v.low) (view w.low) low h.sound_low;
  spared = subst (λ cs. All (IsSpared (view w.lock).ceiling (view w.low).ceiling) cs) (sym cyclics)
      (subst (λ a. All (IsSpared a (view w.low).ceiling) v.cyclics) (sym lock.ceiling)
      (subst (λ b. All (IsSpared (view v.lock).ceiling b) v.cyclics) (sym low.ceiling) h.spared));
  removed = λ id is. subst (λ cs. IsRemoved id cs) (sym cyclics) (h.removed id (sym removal ∙ is));
  never_due = λ id now is early. ap (λ cs. times_of id (expirations now (timers cs))) cyclics
      ∙ h.never_due id now (sym removal ∙ is) early;
  marked_lock = λ id is. removal ∙ h.marked_lock id (sym lock.marked ∙ is);
  marked_low = λ id is. removal ∙ h.marked_low id (sym low.marked ∙ is);
  lock_bank = lock_bank;
  low_bank = low_bank;
  few = (let a = h.few in let b = ap length cyclics in omega (arith, a, b, wider));
  size = few;
  room = room;
}

module _ {R : Type 0} (firing : Raise R) where
  -- an end that was only asked: its bank is the same
  OnlyAsks : R → R → Type 0
  OnlyAsks e f = Lowers (firing.view e) (firing.view f) × ((firing.view f).bank ≡ (firing.view e).bank)

  nothing_asked : (e f : R) → e ≡ f → OnlyAsks e f
  unfolding OnlyAsks
  nothing_asked e f same = subst (λ x. Lowers (firing.view e) (firing.view x) × ((firing.view x).bank ≡ (firing.view e).bank))
      same
      (same_stays (firing.view e) (firing.view e) refl refl refl (omega arith) (λ h. h), refl)

  looks_ask : (e f : R) (answers : List Bool) → Goes firing e (map Looks answers) f → OnlyAsks e f
  unfolding OnlyAsks
  looks_ask e f [] goes = nothing_asked e f goes
  looks_ask e f (a ∷ answers) (m, (s, l), rest) =
      let r = looks_ask m f answers rest in (
        lowers_on (firing.view e) (firing.view m) (firing.view f) (lowers_look (firing.view e) (firing.view m) a l) r.0,
        r.1
            ∙ ap (λ (x : FiringView). x.bank) l.1,
      )

  loads_ask : (b : Bool) (id n : ℕ) (e f : R) → Goes firing e (cond b (Loads id n ∷ []) []) f → OnlyAsks e f
  unfolding OnlyAsks
  loads_ask false id n e f goes = nothing_asked e f goes
  loads_ask true id n e f (m, (s, l), last) = subst (λ x. Lowers (firing.view e) (firing.view x)
      × ((firing.view x).bank ≡ (firing.view e).bank)) last
      (lowers_load (firing.view e) (firing.view m) id n l, ap (λ (x : FiringView). x.bank) l.1)

  quiet_lawful : (v w : CpuView R) → IsLawful firing.view v → OnlyAsks v.lock w.lock → OnlyAsks v.low w.low → w.cyclics
      ≡ v.cyclics →
      w.removal ≡ v.removal → w.most ≡ v.most → w.size ≡ v.size → v.room ≤ w.room → IsLawful firing.view w
  unfolding OnlyAsks
  quiet_lawful v w h lock low cyclics removal most size room = lawful_from firing.view v w h lock.0 low.0 cyclics removal most
      (size ∙ h.lock_bank ∙ ap (λ b. 2 ^ b) (sym lock.1)) (size ∙ h.low_bank ∙ ap (λ b. 2 ^ b) (sym low.1)) (omega (arith, size))
      (let a = h.size in omega (arith, a, size)) (let a = h.room in omega (arith, a, size, room))

  pub asked_lawful : (id n : ℕ) (v w : CpuView R) → IsLawful firing.view v → Asks firing id n v w → IsLawful firing.view w
  asked_lawful id n v w h a = let r = a.kept.room in quiet_lawful v w h
      (loads_ask (same_level Lock a.cyclic.timer.level) id n v.lock w.lock a.lock)
      (loads_ask (same_level Low a.cyclic.timer.level) id n v.low w.low a.low) a.cyclics a.kept.removal a.kept.most a.kept.size
      (omega (arith, r))

  pub looked_lawful : (v w : CpuView R) → IsLawful firing.view v → Looked firing v w → IsLawful firing.view w
  looked_lawful v w h a = let r = a.kept.room in quiet_lawful v w h (looks_ask v.lock w.lock a.lock.0 a.lock.1)
      (looks_ask v.low w.low a.low.0 a.low.1) a.cyclics a.kept.removal a.kept.most a.kept.size (omega (arith, r))

  pub reserved_lawful : (more : ℕ) (v w : CpuView R) → IsLawful firing.view v → Reserves firing more v w → IsLawful firing.view w
  reserved_lawful more v w h a = let r = a.room in quiet_lawful v w h (looks_ask v.lock w.lock a.lock.0 a.lock.1)
      (looks_ask v.low w.low a.low.0 a.low.1) a.cyclics a.removal a.most a.size (omega (arith, r))

-- no bank that is looked for is past the last one
least_within : (more k n : ℕ) → least_bank more k n ≤ k + more
least_within zero k n = omega arith
least_within (suc more) k n = (let rest = least_within more (k + 1) n in by (nat_le n (2 ^ k)) (omega (arith, rest)))
  where
    by : (b : Bool) → least_bank more (k + 1) n ≤ k + suc more → cond b k (least_bank more (k + 1) n) ≤ k + suc more
    by true rest = omega arith
    by false rest = rest

bank_within : (n : ℕ) → bank_for n ≤ greatest_bank
bank_within n = let a = least_within greatest_bank 0 n in omega (arith, a)

few_slots : (bank : ℕ) → bank ≤ greatest_bank → 2 ^ bank ≤ most_cyclics
few_slots bank within = let some : 0 < 2 = omega arith in pow-le-pow_right some within

lowers_switch : (v w : FiringView) (bank : ℕ) → Learns v (Expands bank) w → 2 ^ v.bank ≤ 2 ^ bank → bank ≤ greatest_bank →
    Lowers v w
lowers_switch v w bank is wider within = subst (Lowers v) (sym is) (same_stays v _ refl refl refl wider (λ h. within))

module _ {R : Type 0} (firing : Raise R) where
  grown : (more : ℕ) (v w : CpuView R) → IsLawful firing.view v → MayWiden firing.view more v → Widens firing more v w →
      v.size < length v.cyclics + more → IsLawful firing.view w
  grown more v w h may a less =
      let n = length v.cyclics + more in
      let not : nat_le n v.size ≡ false = grind (arith, nat_tests) in
      let is : w.size ≡ 2 ^ bank_for n = a.size ∙ ap (λ b. cond b v.size (2 ^ bank_for n)) not in
      let within = bank_within n in
      let enough = a.enough in
      let lock = (a.lock less).1 in
      let low = (a.low less).1 in
      let x = h.lock_bank in
      let y = h.low_bank in
      let few = few_slots (bank_for n) within in
      let held = may.reserved in
      let size = a.size in
      let room = a.room in
      lawful_from firing.view v w h
      (lowers_switch (firing.view v.lock) (firing.view w.lock) (bank_for n) lock (omega (arith, x, is, enough, less)) within)
      (lowers_switch (firing.view v.low) (firing.view w.low) (bank_for n) low (omega (arith, y, is, enough, less)) within)
      a.cyclics a.removal a.most (is ∙ ap (λ (u : FiringView). 2 ^ u.bank) (sym lock))
      (is ∙ ap (λ (u : FiringView). 2 ^ u.bank) (sym low))
      (omega (arith, enough, less)) (omega (arith, is, few)) (omega (arith, held, size, room))

  kept_size : (more : ℕ) (v w : CpuView R) → IsLawful firing.view v → Widens firing more v w → length v.cyclics + more ≤ v.size →
      IsLawful firing.view w
  kept_size more v w h a fits =
      let yes_fits : nat_le (length v.cyclics + more) v.size ≡ true = grind (arith, nat_tests) in
      let same = a.size ∙ ap (λ b. cond b v.size (2 ^ bank_for (length v.cyclics + more))) yes_fits in
      let room = a.room in
      quiet_lawful firing v w h (nothing_asked firing v.lock w.lock (sym (a.kept_lock fits)))
      (nothing_asked firing v.low w.low (sym (a.kept_low fits))) a.cyclics a.removal a.most same (omega (arith, room))

  pub widened_lawful : (more : ℕ) (v w : CpuView R) → IsLawful firing.view v → MayWiden firing.view more v
      → Widens firing more v w →
      IsLawful firing.view w
  widened_lawful more v w h may a = elim (cases_lt v.size (length v.cyclics + more)) [
    | inl less ↦ grown more v w h may a less
    | inr fits ↦ kept_size more v w h a fits
  ]
