-- Every CPU has the same mark after the same call on each.
use Rattle.std.proofs.Common.{◌≡◌, ℕ, zero, suc, ◌+◌, ◌<◌, Bool, Option, Some, None, [], ◌∷◌, length, option_map, refl, sym, ap}
use Rattle.std.proofs.Common.{◌∙◌, subst, arith}
use Rattle.std.specs.List.{slice_get}
use Rattle.std.specs.Option.{option_map_or, option_and_then}
use Rattle.std.proofs.lemmas.Option.{slice_get_within}
use Rattle.std.proofs.lemmas.List.{length-set}
use mathlib.Core.Logic.{dite}
use native.Mathlib.Decide.{ℕ_discrete}
use Rattle.cyc_types.specs.declared.Raise.{Ghosts as Raise}
use Rattle.cyc_types.proofs.Runs.{folds_more}
use Rattle.cyc_cpu.specs.Cpu.{CpuView}
use Rattle.cyc_cpu.specs.Calls.{CpuCall, CpuChanges}
use Rattle.cyc_agreement.specs.Cpus.{CpusView, IsCpu, with_cpu, on, DoesAt, Works}
use Rattle.cyc_agreement.specs.System.{SystemView, ids_of}
use Rattle.cyc_agreement.specs.Agreement.{Agrees, suspended_on}
use Rattle.cyc_agreement.specs.Holding.{Holds}
use Rattle.cyc_agreement.specs.Suspending.{on_each}
use Rattle.cyc_agreement.proofs.Arriving.{between}
use Rattle.cyc_agreement.proofs.CpuSpots.{get_set_same, get_set_other, changed}
use Rattle.cyc_agreement.proofs.Spots.{same_some, none_some}
use Rattle.cyc_agreement.proofs.Who.{SameBeside, has_beside, kept_at}
use Rattle.cyc_agreement.proofs.Given.{agrees_beside}
use Rattle.cyc_agreement.proofs.Holding.{whole_kept, within_same}

-- the call was made on the CPUs below n
pub record Marked {R : Type 0} (firing : Raise R) (call : CpuCall) (v : CpusView R) (n : ℕ) (w : CpusView R) : Type 0 where
  pub works : Works firing (on_each call n) v w
  pub long : length w.cpus ≡ length v.cpus

module _ {R : Type 0} (firing : Raise R) (call : CpuCall) (v : CpusView R) where
  pub marked_none : Marked firing call v 0 v
  marked_none = record { works = refl; long = refl }

  pub marked_more : (n : ℕ) (w : CpusView R) (x y : CpuView R) → Marked firing call v n w → IsCpu n x w
      → CpuChanges firing x call y
      → Marked firing call v (n + 1) (with_cpu w n y)
  marked_more n w x y m at did = record {
    works = (let next : suc n ≡ n + 1 = omega arith in subst (λ k. Works firing (on_each call k) v (with_cpu w n y)) next
        (folds_more (DoesAt firing) v (on_each call n) w (on n call) (with_cpu w n y) m.works (changed n _ x y w at did)));
    long = length-set w.cpus n y ∙ m.long;
  }

beside_none : {R : Type 0} (v : CpusView R) → SameBeside v v
beside_none v = record { ids = λ n. refl; removals = λ n. refl; online = refl; most = λ n. refl; long = refl }

beside_then : {R : Type 0} (u v w : CpusView R) → SameBeside u v → SameBeside v w → SameBeside u w
beside_then u v w a b = record {
  ids = λ n. b.ids n ∙ a.ids n;
  removals = λ n. b.removals n ∙ a.removals n;
  online = b.online ∙ a.online;
  most = λ n. b.most n ∙ a.most n;
  long = b.long ∙ a.long;
}

-- a CPU that has this mark is there
there : {R : Type 0} (o : Option (CpuView R)) (a : Bool) → option_map (λ cpu. cpu.suspended) o ≡ Some a
    → (x : CpuView R) × (o ≡ Some x) × (x.suspended ≡ a)
there None a e = absurd (none_some e)
there (Some x) a e = (x, refl, same_some e)

module _ {R : Type 0} (firing : Raise R) (call : CpuCall) (mark : Bool)
    (marks : (x y : CpuView R) → CpuChanges firing x call y → y ≡ record x { suspended = mark }) where
  beside_one : (n : ℕ) (v w : CpusView R) → DoesAt firing v (on n call) w → SameBeside v w
  beside_one n v w d =
      let e = marks d.before d.after d.change in
      subst (λ u. SameBeside v u) (sym d.rest) (record {
        ids = kept_at v n d.before d.after d.here (λ o. option_map_or ids_of o []) (ap ids_of e);
        removals = kept_at v n d.before d.after d.here (λ o. option_and_then (λ cpu. cpu.removal) o)
            (ap (λ (x : CpuView R). x.removal) e);
        online = refl;
        most = kept_at v n d.before d.after d.here (λ o. option_map (λ cpu. cpu.most) o) (ap (λ (x : CpuView R). Some x.most) e);
        long = length-set v.cpus n d.after;
      })

  pub beside_each : (n : ℕ) (v w : CpusView R) → Works firing (on_each call n) v w → SameBeside v w
  beside_each zero v w e = subst (λ u. SameBeside v u) e (beside_none v)
  beside_each (suc n) v w works =
      let (u, first, rest) = between (DoesAt firing) v (on_each call n) (on n call ∷ []) w works in
      let (x, did, last) = rest in
      beside_then v u w (beside_each n v u first) (subst (λ z. SameBeside u z) last (beside_one n u x did))

  -- each CPU below n has the mark
  pub marked_each : (n : ℕ) (v w : CpusView R) → Works firing (on_each call n) v w → (m : ℕ) → m < n → (a : Bool)
      → suspended_on m w ≡ Some a → a ≡ mark
  marked_each zero v w e m low a is = absurd (omega (arith, low))
  marked_each (suc n) v w works m low a is =
      let (u, first, rest) = between (DoesAt firing) v (on_each call n) (on n call ∷ []) w works in
      let (x, did, last) = rest in
      let now : suspended_on m (with_cpu u n did.after) ≡ Some a =
      ap (λ z. suspended_on m z) (sym did.rest ∙ last) ∙ is in
      dite (ℕ_discrete m n)
      (λ e. same_some (sym now ∙ ap (λ k. suspended_on k (with_cpu u n did.after)) e
      ∙ ap (λ o. option_map (λ (cpu : CpuView R). cpu.suspended) o)
      (get_set_same u.cpus n did.after (slice_get_within u.cpus n did.before did.here))
      ∙ ap (λ (cpu : CpuView R). Some cpu.suspended) (marks did.before did.after did.change)))
      (λ ne. marked_each n v u first m (omega (arith, low, ne)) a
      (sym (ap (λ o. option_map (λ (cpu : CpuView R). cpu.suspended) o) (get_set_other u.cpus n m did.after ne)) ∙ now))

  module _ (s : SystemView R) (w : CpusView R) (works : Works firing (on_each call (length s.cpus.cpus)) s.cpus w) where
    same : SameBeside s.cpus w
    same = beside_each (length s.cpus.cpus) s.cpus w works

    pub marked_all : (m : ℕ) (a : Bool) → suspended_on m w ≡ Some a → a ≡ mark
    marked_all m a is =
        let (x, at, e) = there (slice_get w.cpus m) a is in let low = slice_get_within w.cpus m x at in let l = same.long in
        marked_each (length s.cpus.cpus) s.cpus w works m (omega (arith, low, l)) a is

    pub agrees_marked : Agrees s → Agrees (record s { cpus = w })
    agrees_marked a = agrees_beside s w a same (λ n m x y p q. marked_all n x p ∙ sym (marked_all m y q))

    pub holds_marked : Holds s → Holds (record s { cpus = w })
    holds_marked h = record {
      agrees = agrees_marked h.agrees;
      whole = whole_kept s.cpus w same.removals (λ m n id e has. sym (has_beside s.cpus w same n id) ∙ has) h.whole;
      within = within_same s (record s { cpus = w }) same.most refl h.within;
    }
