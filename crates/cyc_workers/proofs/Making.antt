-- What soft interrupts make, one and then others.
use Rattle.std.proofs.Common.{◌≡◌, ℕ, List, [], ◌++◌, Some, None, refl, sym, ap, subst, ◌∙◌, arith}
use Rattle.std.specs.Prelude.{Bool, true, Result, Ok, Err, IsTrue, IfOk, IfErr}
use Rattle.std.specs.List.{FoldsTo}
use Rattle.std.proofs.lemmas.List.{append-nil}
use Rattle.cyc_types.specs.Counting.{times}
use Rattle.cyc_types.specs.declared.Drain.{Ghosts as Drain}
use Rattle.cyc_types.specs.Draining.{DrainCall}
use Rattle.cyc_types.specs.Levels.{Handler}
use Rattle.cyc_types.specs.Runs.{finishes_of}
use Rattle.cyc_types.proofs.Runs.{folds_on, finishes_on, finished_on}
use Rattle.cyc_soft.specs.declared.Ran.{Ran}
use Rattle.cyc_soft.specs.declared.SoftRefused.{SoftRefused}
use Rattle.cyc_soft.specs.declared.SoftSide.{SoftSide}
use Rattle.cyc_soft.specs.Serving.{Served, ids, look_of, last_look, hand_left, way_of, IsSoftint, EndsWithLook, soft_side}
use Rattle.cyc_soft.specs.Serving as soft
use Rattle.cyc_soft.proofs.Rounds.{way_finishes, look_finishes}
use Rattle.cyc_workers.specs.declared.draining.Drained.{Drained}
use Rattle.cyc_workers.specs.declared.watch.Watch.{Watch}
use Rattle.cyc_workers.specs.Draining.{MakesCalls, ServesSide, IsRefusedCall, HasLooked, HasDrained, side_of}
use Rattle.cyc_cpu_laws.proofs.Cores.{last_finishes}

module _ {D C : Type 0} (draining : Drain D) (handler : Handler C) where
  pub makes_none : (a : SoftSide D C) → MakesCalls draining handler a a
  makes_none a = record { way = []; goes = refl; called_all = refl; counted = λ id. omega arith; finished = λ id. omega arith }

  pub makes_on : (a b c : SoftSide D C) → MakesCalls draining handler a b → MakesCalls draining handler b c
      → MakesCalls draining handler a c
  makes_on a b c p q =
      let on = finishes_on p.way q.way in
      record {
        way = p.way ++ q.way;
        goes = folds_on draining.step a.drain p.way b.drain q.way c.drain p.goes q.goes;
        called_all = subst (λ xs. FoldsTo handler.called a.calls xs c.calls) (sym on)
            (folds_on handler.called a.calls (finishes_of p.way) b.calls (finishes_of q.way) c.calls p.called_all q.called_all);
        counted = λ id. (let x = p.counted id in let y = q.counted id in let z = finished_on id p.way q.way in
            omega (arith, x, y, z));
        finished = λ id. (let x = p.finished id in let y = q.finished id in let z = finished_on id p.way q.way in
            omega (arith, x, y, z));
      }

  -- the calls of one soft interrupt
  interrupt_makes : (a : SoftSide D C) (ran : List Served) (rest : List DrainCall) (b : SoftSide D C) → finishes_of rest ≡ []
      → soft.Serves draining handler a ran rest b → MakesCalls draining handler a b
  interrupt_makes a ran rest b none s =
      let hand = draining.held a.drain in
      let all = way_finishes hand ran rest ∙ ap (λ xs. ids ran ++ xs) none ∙ append-nil (ids ran) in
      record {
        way = way_of hand ran rest;
        goes = s.way;
        called_all = subst (λ xs. FoldsTo handler.called a.calls xs b.calls) (sym all) s.called_all;
        counted = λ id. (let x = s.counted id in let y = ap (times id) all in omega (arith, x, y));
        finished = λ id. (let x = s.finished id in let y = ap (times id) all in omega (arith, x, y));
      }

  pub served : (budget : ℕ) (answer : Result Ran SoftRefused) (a b : SoftSide D C) →
      IsSoftint draining handler budget answer a b → IfOk answer (λ r. ServesSide draining handler r.idle a b)
  served budget (Ok r) a b s = let x = s.served in
      (interrupt_makes a x.0 (last_look r.idle) b (last_finishes r.idle) x.2, s.idle)
  served budget (Err e) a b s = tt

  pub was_refused : (budget : ℕ) (answer : Result Ran SoftRefused) (a b : SoftSide D C) →
      IsSoftint draining handler budget answer a b → IfErr answer (λ r. IsRefusedCall draining handler a r b)
  was_refused budget (Ok r) a b s = tt
  was_refused budget (Err e) a b s = let x = s.refused in let hand = hand_left (draining.held a.drain) x.0 in (
    x.1,
    interrupt_makes a x.0 (look_of hand (Some e.id)) (soft_side b.drain x.1) (look_finishes hand (Some e.id)) x.4,
    x.5,
    x.6,
    x.7,
  )

  -- it asked at m, was told to stop, and looked in vain
  pub has_stopped : (a m b : SoftSide D C) (idle : Bool) (watch : Watch D C) → MakesCalls draining handler a m
      → ServesSide draining handler idle m b → idle ≡ true → watch.told ≡ true → watch.asked.value ≡ m →
      HasDrained draining handler a (record { drain = b.drain; calls = b.calls; refused = None; watch = watch })
  has_stopped a m b idle watch before s empty told asked = record {
    stopped = record {
      told = told;
      before = subst (λ (x : SoftSide D C). MakesCalls draining handler a x) (sym asked) before;
      since = subst (λ (x : SoftSide D C). MakesCalls draining handler x (soft_side b.drain b.calls)) (sym asked) s.0;
      last = subst (λ (x : SoftSide D C). EndsWithLook draining x.drain b.drain) (sym asked)
          (subst (λ x. IsTrue x → EndsWithLook draining m.drain b.drain) empty s.1 refl);
    };
    refused = tt;
  }

  -- the calls before its last question, and those since
  pub looked_makes : (a : SoftSide D C) (b : Drained D C) → HasLooked draining handler a b
      → MakesCalls draining handler a (side_of b)
  looked_makes a b l = makes_on a b.watch.asked.value (side_of b) l.before l.since

  pub has_refused : (a m b : SoftSide D C) (r : SoftRefused) (watch : Watch D C) → MakesCalls draining handler a m →
      IsRefusedCall draining handler m r b →
      HasDrained draining handler a (record { drain = b.drain; calls = b.calls; refused = Some r; watch = watch })
  has_refused a m b r watch before s = record {
    stopped = tt;
    refused = (s.0, makes_on a m (soft_side b.drain s.0) before s.1, s.2, s.3, s.4);
  }
