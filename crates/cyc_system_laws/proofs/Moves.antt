-- What a move keeps.
use Rattle.std.proofs.Common.{◌≡◌, ◌≢◌, ℕ, Some, Ok, sym, ap, subst, ◌∙◌}
use Rattle.std.specs.Prelude.{insert, remove}
use Rattle.std.specs.List.{slice_get}
use Rattle.cyc_types.specs.declared.Raise.{Ghosts as Raise}
use Rattle.cyc_cpu.specs.Rows.{Cyclic}
use Rattle.cyc_cpu.specs.declared.moving.Taken.{Taken}
use Rattle.cyc_cpu.specs.Cpu.{CpuView, IsCyclic, cyclic_with}
use Rattle.cyc_cpu.specs.Moving.{IsTaken}
use Rattle.cyc_cpu.specs.Calls.{AskPending, Reserve, TakeNow, Widen, Place}
use Rattle.cyc_agreement.specs.Cpus.{CpusView, IsCpu, on, ChangesAt, DoesAt}
use Rattle.cyc_agreement.proofs.CpuSpots.{one_cpu, cpu_there, cpu_beside, cpu_after, get_set_other}
use Rattle.cyc_core.specs.Tables.{Tables}
use Rattle.cyc_cpu.specs.Soft.{raise_tables}
use Rattle.cyc_system_laws.proofs.Calm.{admitted_calm, taken_calm, asked_same}
use Rattle.cyc_system_laws.specs.Moved.{Moved, carried_over, outstanding}

-- what was taken and put in again is the cyclic
same_cyclic : (id : ℕ) (taken : Taken) (c : Cyclic) → c.timer.id ≡ id → IsTaken taken c →
    cyclic_with id taken.level taken.interval taken.moment taken.sent.sent taken.sent.lost ≡ carried_over c
same_cyclic id taken c named (level, interval, moment, sent, lost) =
    λ i. cyclic_with (sym named i) (level i) (interval i) (moment i) (sent i) (lost i)

module _ {R : Type 0} where
  -- the CPU that a call was made on, after it, and those that it was not made on
  after_there : (n : ℕ) (D : CpuView R → CpuView R → Type 0) (v w : CpusView R) (d : ChangesAt n D v w) → IsCpu n d.after w
  after_there n D v w d = subst (λ u. IsCpu n d.after u) (sym d.rest) (cpu_there n d.before d.after v d.here)

  before_beside : (n m : ℕ) (D : CpuView R → CpuView R → Type 0) (x : CpuView R) (v w : CpusView R) → m ≢ n →
      ChangesAt n D v w → IsCpu m x w → IsCpu m x v
  before_beside n m D x v w apart d at = cpu_beside n m x d.after v apart (subst (λ u. IsCpu m x u) d.rest at)

  same_beside : (n m : ℕ) (D : CpuView R → CpuView R → Type 0) (v w : CpusView R) → m ≢ n → ChangesAt n D v w →
      slice_get w.cpus m ≡ slice_get v.cpus m
  same_beside n m D v w apart d = ap (λ (u : CpusView R). slice_get u.cpus m) d.rest ∙ get_set_other v.cpus n m d.after apart

  same_online : (n : ℕ) (D : CpuView R → CpuView R → Type 0) (v w : CpusView R) → ChangesAt n D v w → w.online ≡ v.online
  same_online n D v w d = ap (λ (u : CpusView R). u.online) d.rest

module _ {R : Type 0} (firing : Raise R) (id source target : ℕ) (taken : Taken)
    (apart : target ≢ source)
    (v v1 v2 v3 v4 w : CpusView R) (d1 : DoesAt firing v (on source (AskPending id (Some 0))) v1)
    (d2 : DoesAt firing v1 (on target (Reserve 1 (Ok tt))) v2)
    (d3 : DoesAt firing v2 (on source (TakeNow id (Ok taken))) v3)
    (d4 : DoesAt firing v3 (on target (Widen 1)) v4)
    (d5 : DoesAt firing v4 (on target (Place id taken.level taken.interval taken.moment taken.sent)) w) where
  away : source ≢ target
  away e = apart (sym e)

  -- between two calls on it a CPU is as the one left it
  source_kept : d3.before ≡ d1.after
  source_kept = one_cpu source d3.before d1.after v2 d3.here (cpu_after target source _ d1.after v1 v2 away d2
      (after_there source _ v v1 d1))

  target_kept : d4.before ≡ d2.after
  target_kept = one_cpu target d4.before d2.after v3 d4.here (cpu_after source target _ d2.after v2 v3 apart d3
      (after_there target _ v1 v2 d2))

  target_widened : d5.before ≡ d4.after
  target_widened = one_cpu target d5.before d4.after v4 d5.here (after_there target _ v3 v4 d4)

  asked : d3.before.cyclics ≡ d1.before.cyclics
  asked = ap (λ (x : CpuView R). x.cyclics) source_kept ∙ d1.change.0.cyclics

  reserved : d5.before.cyclics ≡ d2.before.cyclics
  reserved = ap (λ (x : CpuView R). x.cyclics) target_widened ∙ d4.change.1.cyclics
      ∙ ap (λ (x : CpuView R). x.cyclics) target_kept ∙ d2.change.0.cyclics

  pub moves : Moved id source target v w
  moves = let (still, (c, counts, is, polled, l)) = d3.change in record {
    cyclic = c;
    named = l.named;
    from = d1.before;
    left = d3.after;
    to = d2.before;
    joined = d5.after;
    from_is = d1.here;
    left_is = cpu_after target source _ d3.after v4 w away d5 (cpu_after target source _ d3.after v3 v4 away d4
        (after_there source _ v2 v3 d3));
    to_is = before_beside source target _ d2.before v v1 apart d1 d2.here;
    joined_is = after_there target _ v4 w d5;
    position = l.position;
    here = subst (λ cs. IsCyclic cs l.position c) asked l.here;
    gone = l.cyclics ∙ ap (λ cs. remove cs l.position) asked;
    new_position = d5.change.1.position;
    there = d5.change.1.cyclics ∙ ap (λ cs. insert cs d5.change.1.position
        (cyclic_with id taken.level taken.interval taken.moment taken.sent.sent taken.sent.lost)) reserved
        ∙ ap (λ x. insert d2.before.cyclics d5.change.1.position x) (same_cyclic id taken c l.named is);
    still = (sym d1.change.0.kept.removal ∙ ap (λ (x : CpuView R). x.removal) (sym source_kept) ∙ still, l.removal);
    removal = d5.change.1.kept.removal ∙ ap (λ (x : CpuView R). x.removal) target_widened ∙ d4.change.1.removal
        ∙ ap (λ (x : CpuView R). x.removal) target_kept ∙ d2.change.0.removal;
    most = (
      l.most ∙ ap (λ (x : CpuView R). x.most) source_kept ∙ d1.change.0.kept.most,
      d5.change.1.kept.most ∙ ap (λ (x : CpuView R). x.most) target_widened ∙ d4.change.1.most
          ∙ ap (λ (x : CpuView R). x.most) target_kept ∙ d2.change.0.most,
    );
    others = λ n ns nt. same_beside target n _ v4 w nt d5 ∙ same_beside target n _ v3 v4 nt d4
        ∙ same_beside source n _ v2 v3 ns d3
        ∙ same_beside target n _ v1 v2 nt d2 ∙ same_beside source n _ v v1 ns d1;
    online = same_online target _ v4 w d5 ∙ same_online target _ v3 v4 d4 ∙ same_online source _ v2 v3 d3
        ∙ same_online target _ v1 v2 d2
        ∙ same_online source _ v v1 d1;
  }

-- where no other thread uses the levels, no call of it is outstanding before and after
pub moves_calmly : (id source target : ℕ) (taken : Taken) (apart : target ≢ source) (v v1 v2 v3 v4 w : CpusView Tables)
    (d1 : DoesAt raise_tables v (on source (AskPending id (Some 0))) v1)
    (d2 : DoesAt raise_tables v1 (on target (Reserve 1 (Ok tt))) v2)
    (d3 : DoesAt raise_tables v2 (on source (TakeNow id (Ok taken))) v3)
    (d4 : DoesAt raise_tables v3 (on target (Widen 1)) v4)
    (d5 : DoesAt raise_tables v4 (on target (Place id taken.level taken.interval taken.moment taken.sent)) w) →
    (m : Moved id source target v w) × (outstanding m.cyclic.timer.level id m.from ≡ 0)
    × (outstanding m.cyclic.timer.level id m.joined ≡ 0)
unfolding moves source_kept away
moves_calmly id source target taken apart v v1 v2 v3 v4 w d1 d2 d3 d4 d5 =
    let (still, (c, counts, is, polled, l)) = d3.change in
    let a = d1.change.0 in
    let calm = taken_calm c.timer.level id counts d3.before d3.after l.goes in
    let kept = ap (λ (x : CpuView Tables). outstanding c.timer.level id x)
    (source_kept raise_tables id source target taken apart v v1 v2 v3 v4 w d1 d2 d3 d4 d5) in
    let asked = asked_same c.timer.level a.cyclic.timer.level id 0 id d1.before d1.after a.lock a.low in
    let p = d5.change.1 in (
      moves raise_tables id source target taken apart v v1 v2 v3 v4 w d1 d2 d3 d4 d5,
      sym asked ∙ sym kept ∙ calm,
      subst (λ level. outstanding level id d5.after ≡ 0) is.0
          (admitted_calm taken.level id p.index d5.before d5.after p.lock p.low),
    )
