-- Where a cyclic is, and whether its removal is open.
use Rattle.std.proofs.Common.{◌≡◌, ◌≢◌, ◌==◌, ℕ, zero, suc, ◌-◌, ◌<◌, Bool, true, false, not, Some, None, List, [], ◌∷◌}
use Rattle.std.proofs.Common.{length, get_or, refl, sym, ap, ◌∙◌, arith}
use Rattle.std.specs.Bool.{OnTrue, OnFalse}
use Rattle.std.specs.Prelude.{◌||◌, ◌&&◌, nat_le, is_some}
use Rattle.std.specs.List.{slice_get, list_any}
use Rattle.std.specs.Option.{option_map_or}
use Rattle.std.proofs.lemmas.Option.{slice_get_within, slice_get_past, get_or_from_slice_get}
use mathlib.Core.Logic.{dite}
use native.Mathlib.Decide.{ℕ_discrete}
use Rattle.cyc_types.specs.declared.refusal.Refusal.TheVariants.{NoCyclic, Omnipresent, NoCpu, Offline}
use Rattle.cyc_cpu.specs.Rows.{Cyclic}
use Rattle.cyc_cpu.specs.Cpu.{CpuView, HasNoCyclic}
use Rattle.cyc_cpu.specs.Removal.{HasCyclic}
use Rattle.cyc_agreement.specs.Cpus.{CpusView, IsCpu}
use Rattle.cyc_places.specs.declared.record.Record.{Record}
use Rattle.cyc_types.specs.declared.moment.When.{When}
use Rattle.cyc_places.specs.declared.record.Placement.TheVariants.{On, Everywhere}
use Rattle.cyc_places.specs.Places.{IsRecord}
use Rattle.cyc_agreement.specs.Agreement.{Agrees}
use Rattle.cyc_agreement.specs.Binding.{HasPlacement}
use Rattle.cyc_agreement.proofs.Spots.{same_some}
use Rattle.cyc_agreement.specs.System.{SystemView, is_everywhere, is_omnipresent, ids_of, has, is_leaving_here, is_leaving}
use Rattle.cyc_agreement.specs.System.{is_unknown, record_of, is_online}
use Rattle.cyc_agreement.specs.Refusals.{no_cyclic, omnipresent, no_cpu, offline_cpu, IsPresent}
use Rattle.cyc_agreement.proofs.Lists.{among, any_at, any_none, any_position, any_map, eq_true, true_eq, false_ne, false_true}
use Rattle.cyc_agreement.proofs.Who.{ids_there, id_in}
use Rattle.cyc_agreement.proofs.FirstReason.{not_when, is_when, not_le}

-- a CPU that has a cyclic is there
pub has_low : {R : Type 0} (v : CpusView R) (n id : ℕ) → has n id v ≡ true → n < length v.cpus
has_low v n id h = dite (ℕ_discrete (length v.cpus - n) 0)
    (λ z. absurd (false_true (sym (ap (λ o. among id (option_map_or ids_of o [])) (slice_get_past v.cpus n (omega (arith, z))))
    ∙ h)))
    (λ p. omega (arith, p))

-- and the cyclic is there
pub cyclic_here : {R : Type 0} (v : CpusView R) (n id : ℕ) (cpu : CpuView R) → has n id v ≡ true → IsCpu n cpu v
    → HasCyclic id cpu.cyclics
cyclic_here v n id cpu h at =
    let (k, low, passes) = any_position (λ (c : Cyclic). c.timer.id == id) cpu.cyclics
    (sym (any_map id_in (λ own. own == id) cpu.cyclics) ∙ sym (ap (λ ids. among id ids) (ids_there v n cpu cpu at)) ∙ h) in
    by k low passes
  where
    by : (k : ℕ) → k < length cpu.cyclics → ((d : Cyclic) → ((get_or cpu.cyclics k d).timer.id == id) ≡ true)
        → HasCyclic id cpu.cyclics
    by k low passes = (
      k,
      one k cpu.cyclics low,
      (low, same k cpu.cyclics low),
      eq_true _ id (sym (ap (λ (c : Cyclic). c.timer.id == id) (same k cpu.cyclics low)) ∙ passes (one k cpu.cyclics low)),
    )
      where
        one : (k : ℕ) (cs : List Cyclic) → k < length cs → Cyclic
        one k [] low = absurd (omega (arith, low))
        one zero (c ∷ cs) low = c
        one (suc k) (c ∷ cs) low = one k cs (omega (arith, low))

        same : (k : ℕ) (cs : List Cyclic) (low : k < length cs) → get_or cs k (one k cs low) ≡ one k cs low
        same k [] low = absurd (omega (arith, low))
        same zero (c ∷ cs) low = refl
        same (suc k) (c ∷ cs) low = same k cs (omega (arith, low))

-- a cyclic that is on a CPU is among its ids
pub has_here : {R : Type 0} (v : CpusView R) (n id : ℕ) (cpu : CpuView R) → IsCpu n cpu v → HasCyclic id cpu.cyclics
    → has n id v ≡ true
has_here v n id cpu at (k, c, is, named) = ap (λ ids. among id ids) (ids_there v n cpu cpu at)
    ∙ any_map id_in (λ own. own == id) cpu.cyclics
    ∙ any_at (λ (e : Cyclic). e.timer.id == id) cpu.cyclics k c is.0 (true_eq _ id (ap id_in is.1 ∙ named))

-- the removal of the id is open on no CPU
pub not_leaving : {R : Type 0} (v : CpusView R) (id : ℕ) → list_any (is_leaving_here id) v.cpus ≡ false
    → (n : ℕ) (cpu : CpuView R) → IsCpu n cpu v → cpu.removal ≢ Some id
not_leaving v id none n cpu at e = false_true
    (sym none ∙ any_at (is_leaving_here id) v.cpus n cpu (slice_get_within v.cpus n cpu at)
    (ap (is_leaving_here id) (get_or_from_slice_get v.cpus n cpu cpu at) ∙ ap (λ o. option_map_or (λ own. own == id) o false) e
    ∙ true_eq id id refl))

or_false : (a b : Bool) → a ≡ false → b ≡ false → (a || b) ≡ false
or_false a b p q = ap (λ x. x || b) p ∙ q

or_true_first : (a b : Bool) → a ≡ true → (a || b) ≡ true
or_true_first a b p = ap (λ x. x || b) p

or_true : (a b : Bool) → b ≡ true → (a || b) ≡ true
or_true true b p = refl
or_true false b p = p

pub is_present : {R : Type 0} (s : SystemView R) (id : ℕ) (r : Record) → record_of id s ≡ Some r → is_leaving id s ≡ false
    → no_cyclic id s ≡ None
is_present s id r known still = not_when (is_unknown id s || is_leaving id s) NoCyclic
    (or_false (is_unknown id s) (is_leaving id s) (ap (λ o. not (is_some o)) known) still)

pub is_absent : {R : Type 0} (s : SystemView R) (id : ℕ) → record_of id s ≡ None → no_cyclic id s ≡ Some NoCyclic
is_absent s id none = is_when (is_unknown id s || is_leaving id s) NoCyclic
    (or_true_first (is_unknown id s) (is_leaving id s) (ap (λ o. not (is_some o)) none))

pub is_removed : {R : Type 0} (s : SystemView R) (id : ℕ) → is_leaving id s ≡ true → no_cyclic id s ≡ Some NoCyclic
is_removed s id leaving = is_when (is_unknown id s || is_leaving id s) NoCyclic
    (or_true (is_unknown id s) (is_leaving id s) leaving)

-- what is known of a cyclic that is present, and is on one CPU
module _ {R : Type 0} (s : SystemView R) (a : Agrees s) (id k : ℕ) (r q : Record) (p : IsPresent id k r s)
    (at : IsRecord s.records k q) where
  pub read_is : q ≡ r
  read_is = same_some (sym at ∙ p.here)

  pub present_clear : no_cyclic id s ≡ None
  present_clear = is_present s id r p.known p.still

  pub single_clear : (n : ℕ) (bound : Bool) → q.placement ≡ On n bound → omnipresent id s ≡ None
  single_clear n bound e = not_when (is_omnipresent id s) Omnipresent
      (ap (λ o. option_map_or (λ (x : Record). is_everywhere x.placement) o false) p.known
      ∙ ap (λ (x : Record). is_everywhere x.placement) (sym read_is) ∙ ap is_everywhere e)

  pub omni_refused : (first : When) (skew : ℕ) → q.placement ≡ Everywhere first skew → omnipresent id s ≡ Some Omnipresent
  omni_refused first skew e = is_when (is_omnipresent id s) Omnipresent
      (ap (λ o. option_map_or (λ (x : Record). is_everywhere x.placement) o false) p.known
      ∙ ap (λ (x : Record). is_everywhere x.placement) (sym read_is) ∙ ap is_everywhere e)

  pub at_home : (n : ℕ) (bound : Bool) → q.placement ≡ On n bound → has n id s.cpus ≡ true
  at_home n bound e = ap (λ i. has n i s.cpus) (sym p.named)
      ∙ a.home k n bound r p.here (ap (λ (x : Record). x.placement) (sym read_is) ∙ e)

  pub home_is : (n : ℕ) (bound : Bool) → q.placement ≡ On n bound → HasPlacement id n bound s
  home_is n bound e = (k, q, at, ap (λ (x : Record). x.id) read_is ∙ p.named, e)

-- what the CPU says of the id
pub has_is : {R : Type 0} (v : CpusView R) (n id : ℕ) (cpu : CpuView R) (b : Bool) → IsCpu n cpu v
    → OnTrue b (HasCyclic id cpu.cyclics) → OnFalse b (HasNoCyclic id cpu.cyclics) → b ≡ has n id v
has_is v n id cpu true at here none = sym (has_here v n id cpu at here)
has_is v n id cpu false at here none = sym (ap (λ ids. among id ids) (ids_there v n cpu cpu at)
    ∙ any_map id_in (λ own. own == id) cpu.cyclics
    ∙ any_none (λ (c : Cyclic). c.timer.id == id) cpu.cyclics (λ j d low. false_ne _ id (none j d low)))

both_true : (a b : Bool) → a ≡ true → (a && b) ≡ b
both_true a b e = ap (λ x. x && b) e

module _ {R : Type 0} (s : SystemView R) (id k n : ℕ) (r q : Record) (p : IsPresent id k r s) (at : IsRecord s.records k q) where
  omni_is : is_omnipresent id s ≡ is_everywhere q.placement
  omni_is = ap (λ o. option_map_or (λ (x : Record). is_everywhere x.placement) o false) p.known
      ∙ ap (λ (x : Record). is_everywhere x.placement) (same_some (sym p.here ∙ at))

  pub component_is : (b : Bool) → is_everywhere q.placement ≡ true → b ≡ has n id s.cpus
      → b ≡ (is_omnipresent id s && has n id s.cpus)
  component_is b e f = f ∙ sym (both_true (is_omnipresent id s) (has n id s.cpus) (omni_is ∙ e))

pub component_has : {R : Type 0} (s : SystemView R) (id n : ℕ) (b : Bool) → b ≡ (is_omnipresent id s && has n id s.cpus)
    → b ≡ true → has n id s.cpus ≡ true
component_has s id n b is e = by (is_omnipresent id s) (has n id s.cpus) (sym is ∙ e)
  where
    by : (x y : Bool) → (x && y) ≡ true → y ≡ true
    by true y h = h
    by false y h = absurd (false_true h)

-- ---- CPUs

pub cpu_clear : {R : Type 0} (s : SystemView R) (n : ℕ) → n < length s.cpus.cpus → no_cpu n s ≡ None
cpu_clear s n low = not_when (nat_le (length s.cpus.cpus) n) NoCpu (not_le (length s.cpus.cpus) n low)

pub online_clear : {R : Type 0} (s : SystemView R) (n : ℕ) → is_online n s.cpus ≡ true → offline_cpu n s ≡ None
online_clear s n on = not_when (not (is_online n s.cpus)) Offline (ap not on)

pub offline_refused : {R : Type 0} (s : SystemView R) (n : ℕ) → is_online n s.cpus ≡ false → offline_cpu n s ≡ Some Offline
offline_refused s n off = is_when (not (is_online n s.cpus)) Offline (ap not off)

-- what is read of a CPU
pub online_read : {R : Type 0} (v : CpusView R) (n : ℕ) (b : Bool) → slice_get v.online n ≡ Some b → is_online n v ≡ b
online_read v n b e = ap (λ o. option_map_or (λ online. online) o false) e
