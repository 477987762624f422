-- Which cyclics the CPUs have after a call on one of them.
use Rattle.std.proofs.Common.{◌≡◌, ◌≢◌, ℕ, ◌<◌, inl, inr, Bool, true, false, Option, Some, None, Result, Ok, Err, List, [], ◌∷◌}
use Rattle.std.proofs.Common.{length, map, slice_set, option_map, refl, sym, ap, ◌∙◌, subst}
use Rattle.std.specs.Prelude.{◌||◌, ◌==◌}
use Rattle.std.specs.List.{slice_get, list_any}
use Rattle.std.specs.Option.{option_map_or, option_and_then}
use Rattle.std.proofs.lemmas.Option.{slice_get_within}
use Rattle.std.proofs.lemmas.List.{length-set, map-set, get_or-map, set-get_or}
use mathlib.Core.Logic.{dite}
use native.Mathlib.Decide.{ℕ_discrete}
use Rattle.cyc_types.specs.declared.Calls.{Ghosts as Calls}
use Rattle.cyc_types.specs.declared.Raise.{Ghosts as Raise}
use Rattle.cyc_types.specs.declared.refusal.Refusal.{Refusal}
use Rattle.cyc_cpu.specs.Rows.{Cyclic, timers}
use Rattle.cyc_cpu.specs.Cpu.{CpuView, IsCyclic, with_moment, Asks, Looked, Reserves, Widens, Places, Running}
use Rattle.cyc_cpu.specs.Soft.{SoftKept}
use Rattle.cyc_cpu.specs.Calls.{CpuChanges, CpuDoes, Reserve, Fire, Reprogram}
use Rattle.cyc_types.specs.declared.level.Soft.{Soft}
use Rattle.cyc_cpu.specs.Ran.{Ran}
use Rattle.cyc_cpu.specs.SoftRefused.{SoftRefused}
use Rattle.cyc_cpu.specs.Fired.{Fired}
use Rattle.cyc_cpu.specs.FireRefused.{FireRefused}
use Rattle.cyc_types.specs.Expirations as expire
use Rattle.cyc_types.specs.Expirations.{Expiration, expirations, all_after}
use Rattle.cyc_types.specs.Timers.{Timer}
use Rattle.cyc_agreement.specs.Cpus.{CpusView, IsCpu, with_cpu, ChangesAt}
use Rattle.cyc_agreement.specs.System.{ids_of, ids_on, has, removal_on}
use Rattle.cyc_agreement.specs.Agreement.{most_on, suspended_on}
use Rattle.cyc_agreement.proofs.CpuSpots.{get_set_same, get_set_other}
use Rattle.cyc_agreement.proofs.Lists.{among, any_insert, any_map, true_eq, false_ne, false_true}

-- ---- one CPU

-- it has the same cyclics, and the same removal is open
pub record SameIds {R : Type 0} (x y : CpuView R) : Type 0 where
  pub ids : ids_of y ≡ ids_of x
  pub removal : y.removal ≡ x.removal
  pub most : y.most ≡ x.most
  pub suspended : y.suspended ≡ x.suspended

-- it has one more
pub record OneMore {R : Type 0} (id : ℕ) (x y : CpuView R) : Type 0 where
  pub here : among id (ids_of y) ≡ true
  pub others : (q : ℕ) → q ≢ id → among q (ids_of y) ≡ among q (ids_of x)
  pub removal : y.removal ≡ x.removal
  pub most : y.most ≡ x.most
  pub suspended : y.suspended ≡ x.suspended

-- it has one less, and no removal is open
pub record OneLess {R : Type 0} (id : ℕ) (x y : CpuView R) : Type 0 where
  pub was : among id (ids_of x) ≡ true
  pub gone : among id (ids_of y) ≡ false
  pub others : (q : ℕ) → q ≢ id → among q (ids_of y) ≡ among q (ids_of x)
  pub removal : y.removal ≡ None
  pub most : y.most ≡ x.most
  pub suspended : y.suspended ≡ x.suspended

abbrev pub id_in : Cyclic → ℕ
id_in c = c.timer.id

module _ {R : Type 0} (firing : Raise R) (x y : CpuView R) where
  pub same_asked : (id n : ℕ) → Asks firing id n x y → SameIds x y
  same_asked id n a = record {
    ids = ap (λ cs. map id_in cs) a.cyclics;
    removal = a.kept.removal;
    most = a.kept.most;
    suspended = a.kept.suspended;
  }

  pub same_looked : Looked firing x y → SameIds x y
  same_looked a = record {
    ids = ap (λ cs. map id_in cs) a.cyclics;
    removal = a.kept.removal;
    most = a.kept.most;
    suspended = a.kept.suspended;
  }

  pub same_reserved : (more : ℕ) → Reserves firing more x y → SameIds x y
  same_reserved more a = record {
    ids = ap (λ cs. map id_in cs) a.cyclics;
    removal = a.removal;
    most = a.most;
    suspended = a.suspended;
  }

  pub same_widened : (more : ℕ) → Widens firing more x y → SameIds x y
  same_widened more a = record {
    ids = ap (λ cs. map id_in cs) a.cyclics;
    removal = a.removal;
    most = a.most;
    suspended = a.suspended;
  }

  more_here : (b c : Bool) → b ≡ true → (b || c) ≡ true
  more_here true c e = refl
  more_here false c e = absurd (false_true e)

  more_other : (b c : Bool) → b ≡ false → (b || c) ≡ c
  more_other true c e = absurd (false_true (sym e))
  more_other false c e = refl

  pub placed : (c : Cyclic) → Places firing c x y → OneMore c.timer.id x y
  placed c a = record {
    here = grown c.timer.id ∙ more_here (c.timer.id == c.timer.id) _ (true_eq c.timer.id c.timer.id refl);
    others = λ q ne. grown q ∙ more_other (c.timer.id == q) _ (false_ne c.timer.id q (λ e. ne (sym e)));
    removal = a.kept.removal;
    most = a.kept.most;
    suspended = a.kept.suspended;
  }
    where
      grown : (q : ℕ) → among q (ids_of y) ≡ ((c.timer.id == q) || among q (ids_of x))
      grown q = any_map id_in (λ own. own == q) y.cyclics
          ∙ ap (λ cs. list_any (λ (e : Cyclic). e.timer.id == q) cs) a.cyclics
          ∙ any_insert (λ (e : Cyclic). e.timer.id == q) x.cyclics a.position c
          ∙ ap (λ b. (c.timer.id == q) || b) (sym (any_map id_in (λ own. own == q) x.cyclics))

module _ {R : Type 0} (firing : Raise R) (x y : CpuView R) where
  pub same_reserve : (more : ℕ) (answer : Result (Unit {0}) Refusal) → CpuChanges firing x (Reserve more answer) y → SameIds x y
  same_reserve more (Ok done) d = same_reserved firing x y more d.0
  same_reserve more (Err e) d = same_looked firing x y d.0

-- a cyclic that stays where it is with another moment
pub ids_set : (cs : List Cyclic) (k m : ℕ) (c : Cyclic) → IsCyclic cs k c
    → map id_in (slice_set cs k (with_moment m c)) ≡ map id_in cs
ids_set cs k m c is = map-set id_in cs k (with_moment m c)
    ∙ ap (λ n. slice_set (map id_in cs) k n) (ap id_in (sym is.1) ∙ sym (get_or-map id_in cs k c c.timer.id is.0))
    ∙ set-get_or (map id_in cs) k c.timer.id

pub same_reprogram : {R : Type 0} (firing : Raise R) (x y : CpuView R) (id moment : ℕ)
    → CpuChanges firing x (Reprogram id moment (Ok tt)) y → SameIds x y
same_reprogram firing x y id moment (k, c, is, named, still, e) = record {
  ids = ap ids_of e ∙ ids_set x.cyclics k moment c is;
  removal = ap (λ (v : CpuView _). v.removal) e;
  most = ap (λ (v : CpuView _). v.most) e;
  suspended = ap (λ (v : CpuView _). v.suspended) e;
}

-- a fire moves cyclics to later moments, and takes none away
ids_after : (now : ℕ) (made : List Expiration) (ts : List Timer)
    → map (λ (t : Timer). t.id) (all_after now made ts) ≡ map (λ (t : Timer). t.id) ts
unfolding all_after expire.after_expirations
ids_after now made [] = refl
ids_after now made (t ∷ ts) = (λ i. t.id ∷ ids_after now made ts i)

ids_timers : (cs : List Cyclic) → map id_in cs ≡ map (λ (t : Timer). t.id) (timers cs)
ids_timers [] = refl
ids_timers (c ∷ cs) = (λ i. c.timer.id ∷ ids_timers cs i)

ids_fired : (now : ℕ) (made : List Expiration) (cs cs' : List Cyclic) → timers cs' ≡ all_after now made (timers cs)
    → map id_in cs' ≡ map id_in cs
ids_fired now made cs cs' e = ids_timers cs' ∙ ap (λ ts. map (λ (t : Timer). t.id) ts) e ∙ ids_after now made (timers cs)
    ∙ sym (ids_timers cs)

module _ {C R : Type 0} (handler : Calls C) (firing : Raise R)
    (interrupts : Soft → ℕ → Result Ran SoftRefused → Running C R → Running C R → Type 0)
    (s t : Running C R) where
  pub same_fired : (now : ℕ) (answer : Result Fired FireRefused)
      → CpuDoes handler firing interrupts s (Fire now answer) t → SameIds s.cpu t.cpu
  same_fired now (Ok r) (nn, same, expired, next, makes) = record {
    ids = ids_fired now (expirations now (timers s.cpu.cyclics)) s.cpu.cyclics t.cpu.cyclics makes.timers_are;
    removal = same.removal;
    most = same.most;
    suspended = same.suspended;
  }
  same_fired now (Err e) (inl (is, what, same)) = record {
    ids = ap (λ (u : Running C R). ids_of u.cpu) same;
    removal = ap (λ (u : Running C R). u.cpu.removal) same;
    most = ap (λ (u : Running C R). u.cpu.most) same;
    suspended = ap (λ (u : Running C R). u.cpu.suspended) same;
  }
  same_fired now (Err e) (inr (nn, same, stopped)) = record {
    ids = ids_fired now stopped.made s.cpu.cyclics t.cpu.cyclics stopped.makes.timers_are;
    removal = same.removal;
    most = same.most;
    suspended = same.suspended;
  }

-- a soft interrupt touches no cyclic
pub same_served : {R : Type 0} (level : Soft) (x y : CpuView R) → SoftKept level x y → SameIds x y
same_served level x y s = record {
  ids = ap (λ cs. map id_in cs) s.cyclics;
  removal = s.kept.removal;
  most = s.kept.most;
  suspended = s.kept.suspended;
}

-- ---- all CPUs

-- they have the same cyclics, and the same removals are open
pub record SameWho {R : Type 0} (v w : CpusView R) : Type 0 where
  pub ids : (n : ℕ) → ids_on n w ≡ ids_on n v
  pub removals : (n : ℕ) → removal_on n w ≡ removal_on n v
  pub online : w.online ≡ v.online
  pub most : (n : ℕ) → most_on n w ≡ most_on n v
  pub suspended : (n : ℕ) → suspended_on n w ≡ suspended_on n v
  pub long : length w.cpus ≡ length v.cpus

-- the same, but that they may be suspended or resumed
pub record SameBeside {R : Type 0} (v w : CpusView R) : Type 0 where
  pub ids : (n : ℕ) → ids_on n w ≡ ids_on n v
  pub removals : (n : ℕ) → removal_on n w ≡ removal_on n v
  pub online : w.online ≡ v.online
  pub most : (n : ℕ) → most_on n w ≡ most_on n v
  pub long : length w.cpus ≡ length v.cpus

-- but for this id they have the same cyclics, and no other removal has ended
pub record SameBut {R : Type 0} (id : ℕ) (v w : CpusView R) : Type 0 where
  pub others : (n q : ℕ) → q ≢ id → has n q w ≡ has n q v
  pub removals : (n q : ℕ) → q ≢ id → removal_on n v ≡ Some q → removal_on n w ≡ Some q
  pub online : w.online ≡ v.online
  pub most : (n : ℕ) → most_on n w ≡ most_on n v
  pub suspended : (n : ℕ) → suspended_on n w ≡ suspended_on n v
  pub long : length w.cpus ≡ length v.cpus

pub same_none : {R : Type 0} (v : CpusView R) → SameWho v v
same_none v = record {
  ids = λ n. refl;
  removals = λ n. refl;
  online = refl;
  most = λ n. refl;
  suspended = λ n. refl;
  long = refl;
}

pub same_then : {R : Type 0} (u v w : CpusView R) → SameWho u v → SameWho v w → SameWho u w
same_then u v w a b = record {
  ids = λ n. b.ids n ∙ a.ids n;
  removals = λ n. b.removals n ∙ a.removals n;
  online = b.online ∙ a.online;
  most = λ n. b.most n ∙ a.most n;
  suspended = λ n. b.suspended n ∙ a.suspended n;
  long = b.long ∙ a.long;
}

pub has_beside : {R : Type 0} (v w : CpusView R) → SameBeside v w → (n q : ℕ) → has n q w ≡ has n q v
has_beside v w s n q = ap (λ ids. among q ids) (s.ids n)

pub beside_same : {R : Type 0} (v w : CpusView R) → SameWho v w → SameBeside v w
beside_same v w s = record { ids = s.ids; removals = s.removals; online = s.online; most = s.most; long = s.long }

pub has_same : {R : Type 0} (v w : CpusView R) → SameWho v w → (n q : ℕ) → has n q w ≡ has n q v
has_same v w s = has_beside v w (beside_same v w s)

pub but_same : {R : Type 0} (id : ℕ) (v w : CpusView R) → SameWho v w → SameBut id v w
but_same id v w s = record {
  others = λ n q ne. has_same v w s n q;
  removals = λ n q ne e. s.removals n ∙ e;
  online = s.online;
  most = s.most;
  suspended = s.suspended;
  long = s.long;
}

pub but_then : {R : Type 0} (id : ℕ) (u v w : CpusView R) → SameBut id u v → SameBut id v w → SameBut id u w
but_then id u v w a b = record {
  others = λ n q ne. b.others n q ne ∙ a.others n q ne;
  removals = λ n q ne e. b.removals n q ne (a.removals n q ne e);
  online = b.online ∙ a.online;
  most = λ n. b.most n ∙ a.most n;
  suspended = λ n. b.suspended n ∙ a.suspended n;
  long = b.long ∙ a.long;
}

module _ {R : Type 0} (v : CpusView R) (n : ℕ) (x y : CpuView R) (at : IsCpu n x v) where
  within : n < length v.cpus
  within = slice_get_within v.cpus n x at

  -- what the CPU keeps, all keep
  pub kept_at : {X : Type 0} (f : Option (CpuView R) → X) → f (Some y) ≡ f (Some x) → (m : ℕ)
      → f (slice_get (slice_set v.cpus n y) m) ≡ f (slice_get v.cpus m)
  kept_at f h m = dite (ℕ_discrete m n)
      (λ e. ap (λ k. f (slice_get (slice_set v.cpus n y) k)) e ∙ ap f (get_set_same v.cpus n y within) ∙ h ∙ sym (ap f at)
      ∙ ap (λ k. f (slice_get v.cpus k)) (sym e))
      (λ ne. ap f (get_set_other v.cpus n m y ne))

  pub ids_there : ids_on n v ≡ ids_of x
  ids_there = ap (λ o. option_map_or ids_of o []) at

  pub ids_now : ids_on n (with_cpu v n y) ≡ ids_of y
  ids_now = ap (λ o. option_map_or ids_of o []) (get_set_same v.cpus n y within)

  pub ids_elsewhere : (m : ℕ) → m ≢ n → ids_on m (with_cpu v n y) ≡ ids_on m v
  ids_elsewhere m ne = ap (λ o. option_map_or ids_of o []) (get_set_other v.cpus n m y ne)

  pub removal_now : removal_on n (with_cpu v n y) ≡ y.removal
  removal_now = ap (λ o. option_and_then (λ cpu. cpu.removal) o) (get_set_same v.cpus n y within)

  pub same_at : SameIds x y → SameWho v (with_cpu v n y)
  same_at s = record {
    ids = kept_at (λ o. option_map_or ids_of o []) s.ids;
    removals = kept_at (λ o. option_and_then (λ cpu. cpu.removal) o) s.removal;
    online = refl;
    most = kept_at (λ o. option_map (λ cpu. cpu.most) o) (ap Some s.most);
    suspended = kept_at (λ o. option_map (λ cpu. cpu.suspended) o) (ap Some s.suspended);
    long = length-set v.cpus n y;
  }

  pub but_more : (id : ℕ) → OneMore id x y → SameBut id v (with_cpu v n y)
  but_more id s = record {
    others = λ m q ne. kept_at (λ o. among q (option_map_or ids_of o [])) (s.others q ne) m;
    removals = λ m q ne e. kept_at (λ o. option_and_then (λ cpu. cpu.removal) o) s.removal m ∙ e;
    online = refl;
    most = kept_at (λ o. option_map (λ cpu. cpu.most) o) (ap Some s.most);
    suspended = kept_at (λ o. option_map (λ cpu. cpu.suspended) o) (ap Some s.suspended);
    long = length-set v.cpus n y;
  }

  pub here_more : (id : ℕ) → OneMore id x y → has n id (with_cpu v n y) ≡ true
  here_more id s = ap (λ ids. among id ids) ids_now ∙ s.here

module _ {R : Type 0} (v : CpusView R) (n : ℕ) (x y : CpuView R) (at : IsCpu n x v) where
  pub but_less : (id : ℕ) → x.removal ≡ None → OneLess id x y → SameBut id v (with_cpu v n y)
  but_less id still s = record {
    others = λ m q ne. kept_at v n x y at (λ o. among q (option_map_or ids_of o [])) (s.others q ne) m;
    removals = λ m q ne e. kept_at v n x y at (λ o. option_and_then (λ cpu. cpu.removal) o) (s.removal ∙ sym still) m ∙ e;
    online = refl;
    most = kept_at v n x y at (λ o. option_map (λ cpu. cpu.most) o) (ap Some s.most);
    suspended = kept_at v n x y at (λ o. option_map (λ cpu. cpu.suspended) o) (ap Some s.suspended);
    long = length-set v.cpus n y;
  }

  pub here_less : (id : ℕ) → OneLess id x y → has n id (with_cpu v n y) ≡ false
  here_less id s = ap (λ ids. among id ids) (ids_now v n x y at) ∙ s.gone

pub less_changed : {R : Type 0} (n id : ℕ) (D : CpuView R → CpuView R → Type 0) (v w : CpusView R) (c : ChangesAt n D v w)
    → c.before.removal ≡ None → OneLess id c.before c.after
    → SameBut id v w × (has n id w ≡ false) × ((m : ℕ) → m ≢ n → ids_on m w ≡ ids_on m v)
less_changed n id D v w c still less = (
  subst (λ u. SameBut id v u) (sym c.rest) (but_less v n c.before c.after c.here id still less),
  subst (λ u. has n id u ≡ false) (sym c.rest) (here_less v n c.before c.after c.here id less),
  λ m ne. ap (λ u. ids_on m u) c.rest ∙ ids_elsewhere v n c.before c.after c.here m ne,
)

-- a call on one CPU that keeps its cyclics keeps those of all
pub same_changed : {R : Type 0} (n : ℕ) (D : CpuView R → CpuView R → Type 0) (v w : CpusView R) (c : ChangesAt n D v w)
    → SameIds c.before c.after → SameWho v w
same_changed n D v w c same = subst (λ u. SameWho v u) (sym c.rest) (same_at v n c.before c.after c.here same)

pub more_changed : {R : Type 0} (n id : ℕ) (D : CpuView R → CpuView R → Type 0) (v w : CpusView R) (c : ChangesAt n D v w)
    → OneMore id c.before c.after
    → SameBut id v w × (has n id w ≡ true) × ((m : ℕ) → m ≢ n → ids_on m w ≡ ids_on m v)
more_changed n id D v w c more = (
  subst (λ u. SameBut id v u) (sym c.rest) (but_more v n c.before c.after c.here id more),
  subst (λ u. has n id u ≡ true) (sym c.rest) (here_more v n c.before c.after c.here id more),
  λ m ne. ap (λ u. ids_on m u) c.rest ∙ ids_elsewhere v n c.before c.after c.here m ne,
)
