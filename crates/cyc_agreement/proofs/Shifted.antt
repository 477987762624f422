-- Which cyclics the CPUs have after a move.
use Rattle.std.proofs.Common.{◌≡◌, ◌≢◌, ◌==◌, ℕ, zero, suc, ◌+◌, ◌-◌, ◌<◌, inl, inr, true, false, Ok, Err, List, [], ◌∷◌, length}
use Rattle.std.proofs.Common.{get_or, map, refl, sym, ap, ◌∙◌, subst, arith}
use Rattle.std.specs.Prelude.{remove}
use Rattle.std.proofs.lemmas.List.{length-map, get_or-map}
use Rattle.std.proofs.lemmas.List.Edits.{get_or-remove_below, get_or-remove_above, length-remove}
use mathlib.Core.Logic.{dite}
use native.Mathlib.Decide.{ℕ_discrete}
use Rattle.cyc_types.specs.declared.Raise.{Ghosts as Raise}
use Rattle.cyc_types.specs.Firing.{FiringView, FiringCall}
use Rattle.cyc_types.specs.declared.refusal.Refusal.{Refusal}
use Rattle.cyc_cpu.specs.Rows.{Cyclic}
use Rattle.cyc_cpu.specs.declared.moving.Taken.{Taken}
use Rattle.cyc_cpu.specs.Cpu.{CpuView, HasRisingCyclics, cyclic_with}
use Rattle.cyc_cpu.specs.Removal.{Leaves}
use Rattle.cyc_agreement.specs.Cpus.{CpusView, IsCpu, Works}
use Rattle.cyc_agreement.specs.Shifting.{move_of, WhyNotShifted, moving}
use Rattle.std.specs.Option.{option_map}
use Rattle.cyc_cpu.specs.Laws.{IsLawful}
use Rattle.cyc_agreement.specs.System.{SystemView, ids_of, ids_on, has}
use Rattle.cyc_agreement.specs.Agreement.{Agrees}
use Rattle.cyc_agreement.specs.Binding.{GoesTo}
use Rattle.cyc_agreement.proofs.Lists.{among, any_remove, any_none, any_at, true_eq, false_ne}
use Rattle.cyc_agreement.proofs.Who

-- the ids rise
abbrev pub Rise : List ℕ → Type 0
Rise ids = (i j : ℕ) → i < j → j < length ids → get_or ids i 0 < get_or ids j 0

pub ids_rise : (cs : List Cyclic) → HasRisingCyclics cs → Rise (map Who.id_in cs)
ids_rise cs h i j less low = by cs h low
  where
    by : (cs : List Cyclic) → HasRisingCyclics cs → j < length (map Who.id_in cs)
        → get_or (map Who.id_in cs) i 0 < get_or (map Who.id_in cs) j 0
    by [] h low = absurd (omega (arith, low))
    by (c ∷ cs) h low =
        let l = length-map (c ∷ cs) Who.id_in in
        let a = get_or-map Who.id_in (c ∷ cs) i c 0 (omega (arith, less, low, l)) in
        let b = get_or-map Who.id_in (c ∷ cs) j c 0 (omega (arith, low, l)) in
        let r = h i j c less (omega (arith, low, l)) in omega (arith, a, b, r)

pub map_remove : {A B : Type 0} (f : A → B) (xs : List A) (k : ℕ) → map f (remove xs k) ≡ remove (map f xs) k
map_remove f [] zero = refl
map_remove f [] (suc k) = refl
map_remove f (x ∷ xs) zero = refl
map_remove f (x ∷ xs) (suc k) = ap (λ l. f x ∷ l) (map_remove f xs k)

-- a cyclic that left is not among the others
pub less_left : {R : Type 0} (firing : Raise R) (x y : CpuView R) (id : ℕ)
    (way : List FiringCall) (c : Cyclic)
    → Rise (ids_of x) → Leaves firing id way c x y → Who.OneLess id x y
less_left firing x y id way c rise l = record {
  was = any_at (λ own. own == id) (ids_of x) l.position 0 low (true_eq _ id at);
  gone = ap (λ ids. among id ids) ids ∙ any_none (λ own. own == id) (remove (ids_of x) l.position)
      (λ j d less. false_ne _ id (other j d less));
  others = λ q ne. ap (λ ids. among q ids) ids
      ∙ any_remove (λ own. own == q) (ids_of x) l.position 0 low (false_ne _ q (λ e. ne (sym e ∙ at)));
  removal = l.removal;
  most = l.most;
  suspended = l.suspended;
}
  where
    low : l.position < length (ids_of x)
    low = (let n = length-map x.cyclics Who.id_in in let h = l.here in let a = h.0 in omega (arith, n, a))

    at : get_or (ids_of x) l.position 0 ≡ id
    at = get_or-map Who.id_in x.cyclics l.position c 0 (l.here.0) ∙ ap Who.id_in (l.here.1) ∙ l.named

    ids : ids_of y ≡ remove (ids_of x) l.position
    ids = ap (λ cs. map Who.id_in cs) l.cyclics ∙ map_remove Who.id_in x.cyclics l.position

    other : (j d : ℕ) → j < length (remove (ids_of x) l.position) → get_or (remove (ids_of x) l.position) j d ≢ id
    other j d less e = dite (ℕ_discrete (l.position - j) 0)
        (λ z. let n = length-remove (ids_of x) l.position low in
        let up = get_or-remove_above (ids_of x) l.position d j (omega (arith, z)) low in
        let r = rise l.position (j + 1) (omega (arith, z)) (omega (arith, n, less)) in
        let same = no_default (ids_of x) (j + 1) d (omega (arith, n, less)) in let h = at in
        omega (arith, up, r, e, same, h))
        (λ p. let down = get_or-remove_below (ids_of x) l.position d j (omega (arith, p)) low in
        let r = rise j l.position (omega (arith, p)) low in
        let same = no_default (ids_of x) j d (omega (arith, p, low)) in let h = at in
        omega (arith, down, r, e, same, h))
      where
        no_default : (xs : List ℕ) (k d : ℕ) → k < length xs → get_or xs k d ≡ get_or xs k 0
        no_default [] k d low = absurd (omega (arith, low))
        no_default (x ∷ xs) zero d low = refl
        no_default (x ∷ xs) (suc k) d low = no_default xs k d (omega (arith, low))

-- a cyclic went from one CPU to another
pub record Moved {R : Type 0} (id source target : ℕ) (v w : CpusView R) : Type 0 where
  pub but : Who.SameBut id v w
  pub there : has target id w ≡ true
  pub gone : has source id w ≡ false
  pub elsewhere : (m : ℕ) → m ≢ source → m ≢ target → has m id w ≡ has m id v

module _ {R : Type 0} (firing : Raise R) (id source target : ℕ) (v w : CpusView R)
    (apart : target ≢ source) (rise : Rise (ids_on source v)) where
  pub moved : (taken : Taken) → Works firing (moving id source target taken) v w → Moved id source target v w
  moved taken (a, asks, (b, reserves, (d, takes, (e, widens, (f, places, last))))) =
      let same = Who.same_then v a b (Who.same_changed source _ v a asks
      (Who.same_asked firing asks.before asks.after id 0 asks.change.0))
      (Who.same_changed target _ a b reserves (Who.same_reserve firing reserves.before reserves.after 1
      (Ok tt) reserves.change)) in
      let (c, counts, is, polled, leaves) = takes.change.1 in
      let up = subst Rise (sym (same.ids source) ∙ Who.ids_there b source takes.before takes.after takes.here) rise in
      let (but1, gone1, beside1) = Who.less_changed source id _ b d takes takes.change.0
      (less_left firing takes.before takes.after id _ c up leaves) in
      let wide = Who.same_changed target _ d e widens (Who.same_widened firing widens.before widens.after 1 widens.change.1) in
      let (but2, there2, beside2) = Who.more_changed target id _ e f places
      (Who.placed firing places.before places.after
      (cyclic_with id taken.level taken.interval taken.moment taken.sent.sent taken.sent.lost) places.change.1) in
      subst (λ u. Moved id source target v u) last (record {
        but = Who.but_then id v b f (Who.but_same id v b same)
            (Who.but_then id b d f but1 (Who.but_then id d e f (Who.but_same id d e wide) but2));
        there = there2;
        gone = ap (λ ids. among id ids) (beside2 source (λ q. apart (sym q)) ∙ wide.ids source) ∙ gone1;
        elsewhere = λ m ns nt. ap (λ ids. among id ids) (beside2 m nt ∙ wide.ids m ∙ beside1 m ns ∙ same.ids m);
      })

  -- where it was refused, all cyclics are where they were
  pub unmoved : (e : Refusal) → WhyNotShifted firing (move_of id source target) e v w → Who.SameWho v w
  unmoved e (inl (removed, open_is, is, same)) = subst (λ u. Who.SameWho v u) (sym same) (Who.same_none v)
  unmoved e (inr (inl (still, n, some, is, (a, asks, last)))) =
      subst (λ u. Who.SameWho v u) last (Who.same_changed source _ v a asks
      (Who.same_asked firing asks.before asks.after id n asks.change.0))
  unmoved e (inr (inr (still, (a, asks, (b, reserves, last))))) = subst (λ u. Who.SameWho v u) last
      (Who.same_then v a b (Who.same_changed source _ v a asks
      (Who.same_asked firing asks.before asks.after id 0 asks.change.0))
      (Who.same_changed target _ a b reserves (Who.same_reserve firing reserves.before reserves.after 1
      (Err e) reserves.change)))

-- all CPUs have one bound on expirations
pub most_same : {R : Type 0} (s : SystemView R) (n m : ℕ) (x y : CpuView R) → Agrees s → IsCpu n x s.cpus → IsCpu m y s.cpus
    → x.most ≡ y.most
most_same s n m x y a p q = a.most n m x.most y.most (ap (λ o. option_map (λ cpu. cpu.most) o) p)
    (ap (λ o. option_map (λ cpu. cpu.most) o) q)

-- the ids of a lawful CPU rise
pub rise_on : {R : Type 0} (view : R → FiringView) (v : CpusView R) (n : ℕ) (cpu : CpuView R) → IsCpu n cpu v → IsLawful view cpu
    → Rise (ids_on n v)
rise_on view v n cpu at law = subst Rise (sym (Who.ids_there v n cpu cpu at)) (ids_rise cpu.cyclics law.rising)

-- a cyclic that went to a CPU is there and nowhere else
pub went : {R : Type 0} (firing : Raise R) (id home target : ℕ) (v w : CpusView R)
    → Rise (ids_on home v) → has home id v ≡ true
    → ((m : ℕ) → m ≢ home → has m id v ≡ false) → GoesTo firing (move_of id home target) (Ok tt) v w
    → Who.SameBut id v w × (has target id w ≡ true) × ((m : ℕ) → m ≢ target → has m id w ≡ false)
went firing id home target v w rise here only (inl (at, is, same)) = (
  subst (λ u. Who.SameBut id v u) (sym same) (Who.but_same id v v (Who.same_none v)),
  ap (λ u. has target id u) same ∙ (ap (λ n. has n id v) (sym at) ∙ here),
  λ m ne. ap (λ u. has m id u) same ∙ only m (λ e. ne (e ∙ at)),
)
went firing id home target v w rise here only (inr (ne, (taken, works))) =
    let s = moved firing id home target v w (λ e. ne (sym e)) rise taken works in (
      s.but,
      s.there,
      λ m nt. dite (ℕ_discrete m home) (λ e. ap (λ n. has n id w) e ∙ s.gone) (λ nh. s.elsewhere m nh nt ∙ only m nh),
    )

-- one that was refused is where it was
pub stayed : {R : Type 0} (firing : Raise R) (id home target : ℕ) (v w : CpusView R)
    (e : Refusal) → Rise (ids_on home v)
    → GoesTo firing (move_of id home target) (Err e) v w → Who.SameWho v w
stayed firing id home target v w e rise (inl (at, is, same)) = subst (λ u. Who.SameWho v u) (sym same) (Who.same_none v)
stayed firing id home target v w e rise (inr (ne, why)) = unmoved firing id home target v w (λ q. ne (sym q)) rise e why
