-- Every CPU that has a cyclic is asked for its counts.
use Rattle.std.proofs.Common.{◌≡◌, ℕ, ◌+◌, ◌≤◌, ◌==◌, true, false, Some, None, List, [], ◌∷◌, ◌++◌, length, map, drop, refl, sym}
use Rattle.std.proofs.Common.{ap, ◌∙◌, subst, arith}
use Rattle.std.specs.Prelude.{sum_by}
use Rattle.std.specs.List.{slice_get, list_any}
use Rattle.std.proofs.lemmas.List.{append-nil, map-append, length-map, drop_all}
use Rattle.std.proofs.lemmas.List.Sums.{sum_by_push}
use Rattle.cyc_types.specs.declared.Raise.{Ghosts as Raise}
use Rattle.cyc_types.proofs.Runs.{folds_more}
use Rattle.cyc_cpu.specs.declared.hard.Totals.{Totals}
use Rattle.cyc_cpu.specs.Cpu.{CpuView}
use Rattle.cyc_cpu.specs.Calls.{CpuChanges, AskTotals}
use Rattle.cyc_agreement.specs.Cpus.{CpusView, IsCpu, with_cpu, numbers_from, DoesAt, Works}
use Rattle.cyc_agreement.proofs.CpuSpots.{get_set_other, changed}
use Rattle.cyc_agreement.specs.System.{ids_of}
use Rattle.cyc_agreement.proofs.Lists.{among}
use Rattle.cyc_agreement.proofs.Presence.{has_here}
use Rattle.cyc_agreement.proofs.Who.{SameWho, same_then, same_at, same_asked, ids_there}
use Rattle.cyc_agreement.specs.Removing.{cpus_with}
use Rattle.cyc_agreement.specs.Counting.{Counted, asked}
use Rattle.cyc_agreement.proofs.Opening.{tested}
use Rattle.cyc_agreement.proofs.Walking.{numbered, grows}
use Rattle.cyc_agreement.proofs.Withdrawing.{set_here}

abbrev one_more : ℕ → Totals → Counted
one_more n t = record { cpu = n; totals = t }

module _ {R : Type 0} (firing : Raise R) (id : ℕ) where
  -- so many CPUs were passed, and these are the sums
  pub record Asked (n expired lost pending : ℕ) (v w : CpusView R) : Type 0 where
    pub way : List Counted
    pub split : cpus_with id v ≡ map (λ a. a.cpu) way ++ numbers_from n
        (drop n (map (λ cpu. list_any (λ own. own == id) (ids_of cpu)) v.cpus))
    pub works : Works firing (map (asked id) way) v w
    pub expired_is : expired ≡ sum_by (λ a. a.totals.expired) way
    pub lost_is : lost ≡ sum_by (λ a. a.totals.lost) way
    pub pending_is : pending ≡ sum_by (λ a. a.totals.pending) way
    pub same : SameWho v w
    pub ahead : (m : ℕ) → n ≤ m → slice_get w.cpus m ≡ slice_get v.cpus m

  module _ (n expired lost pending : ℕ) (v w : CpusView R) (k : Asked n expired lost pending v w) (x y : CpuView R)
      (at : IsCpu n x w) where
    pub asked_one : (t : Totals) → CpuChanges firing x (AskTotals id (Some t)) y
        → Asked (n + 1) (expired + t.expired) (lost + t.lost) (pending + t.pending) v (with_cpu w n y)
    asked_one t d = record {
      way = k.way ++ one_more n t ∷ [];
      split = k.split ∙ grows (λ cpu. list_any (λ own. own == id) (ids_of cpu)) (λ (a : Counted). a.cpu) v n x k.way
          (one_more n t) (sym (k.ahead n (omega arith)) ∙ at) test refl;
      works = subst (λ calls. Works firing calls v (with_cpu w n y)) (sym (map-append (asked id) k.way (one_more n t ∷ [])))
          (folds_more (DoesAt firing) v (map (asked id) k.way) w (asked id (one_more n t)) (with_cpu w n y) k.works
          (changed n _ x y w at d));
      expired_is = (let p = sum_by_push (λ (a : Counted). a.totals.expired) k.way (one_more n t) in let q = k.expired_is in
          omega (arith, p, q));
      lost_is = (let p = sum_by_push (λ (a : Counted). a.totals.lost) k.way (one_more n t) in let q = k.lost_is in
          omega (arith, p, q));
      pending_is = (let p = sum_by_push (λ (a : Counted). a.totals.pending) k.way (one_more n t) in let q = k.pending_is in
          omega (arith, p, q));
      same = same_then v w (with_cpu w n y) k.same (same_at w n x y at (same_asked firing x y id t.pending d.0));
      ahead = λ m low. get_set_other w.cpus n m y (λ e. omega (arith, low, e)) ∙ k.ahead m (omega (arith, low));
    }
      where
        test : list_any (λ own. own == id) (ids_of x) ≡ true
        test = sym (ap (λ ids. among id ids) (ids_there w n x x at))
            ∙ has_here w n id x at (d.0.position, d.0.cyclic, d.0.here, d.0.named)

    pub asked_none : CpuChanges firing x (AskTotals id None) y → Asked (n + 1) expired lost pending v (with_cpu w n y)
    asked_none d = subst (λ u. Asked (n + 1) expired lost pending v u) (sym unchanged) (record {
      way = k.way;
      split = k.split ∙ ap (λ ns. map (λ (a : Counted). a.cpu) k.way ++ ns)
          (numbered (λ cpu. list_any (λ own. own == id) (ids_of cpu)) v n x false (sym (k.ahead n (omega arith)) ∙ at)
          (tested w n id x false at tt d.0));
      works = k.works;
      expired_is = k.expired_is;
      lost_is = k.lost_is;
      pending_is = k.pending_is;
      same = k.same;
      ahead = λ m low. k.ahead m (omega (arith, low));
    })
      where
        unchanged : with_cpu w n y ≡ w
        unchanged = ap (λ z. with_cpu w n z) d.1 ∙ ap (λ l. record w { cpus = l }) (set_here w.cpus n x at)

  -- all CPUs were passed
  pub asked_all : (n expired lost pending : ℕ) (v w : CpusView R) (k : Asked n expired lost pending v w) → length w.cpus ≤ n
      → map (λ (a : Counted). a.cpu) k.way ≡ cpus_with id v
  asked_all n expired lost pending v w k all = sym (k.split
      ∙ ap (λ xs. map (λ (a : Counted). a.cpu) k.way ++ numbers_from n xs)
      (drop_all n (map (λ cpu. list_any (λ own. own == id) (ids_of cpu)) v.cpus)
      (let a = length-map v.cpus (λ cpu. list_any (λ own. own == id) (ids_of cpu)) in let b = k.same.long in
      omega (arith, a, b, all)))
      ∙ append-nil (map (λ (a : Counted). a.cpu) k.way))
