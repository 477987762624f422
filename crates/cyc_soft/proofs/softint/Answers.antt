use Rattle.std.proofs.Common.{◌≡◌, ◌+◌, ◌++◌, ◌∷◌, [], Some, refl, sym, ◌∙◌, subst, arith, length, length-append}
use Rattle.cyc_types.specs.Runs.{DrainGoes}
use Rattle.cyc_soft.specs.Serving.{Served, look_of}
use Rattle.cyc_soft.proofs.Rounds.{serves_look, serves_call, hand_more}
use Rattle.cyc_soft.proofs.softint.Goals as goal

pub returns-in_default : goal.returns-in_default
returns-in_default g c =
    let (ran, long, s, hand) = c.loop-done.invariant in
    let found = c.in_default.ensures in
    let less = c.loop-done-test.true in
    record {
      served = (
        ran,
        long,
        serves_look _ _ _ ran _ _ _ s found.still (_, found.none.1, refl),
        found.hand
            ∙ sym found.none.0 ∙ hand,
      );
      within = (omega (arith, less), ((λ yes. less), (λ few. refl)));
      idle = λ yes. (c.loop-done.drain, _, s.way, found.none.1, found.hand);
      refused = tt;
    }

pub loop-done-preserved : goal.loop-done-preserved
loop-done-preserved g c =
    let (ran, long, s, hand) = c.loop-done.invariant in
    let found = c.in-Some.ensures in
    let way = subst (λ h. DrainGoes g.D.Drain c.loop-done.drain (look_of h (Some c.in-Some.id)) c.in_hand.new.drain) hand
    found.way in
    let one : Served = record { id = c.in-Some.id; answer = c.finish.result } in
    let longer : length (ran ++ one ∷ []) ≡ c.loop-done.done + 1 = simp length-append (omega (arith, long)) in
    let looked = serves_look _ _ _ ran _ _ _ s found.still way in
    let called = subst (λ level. g.C.Calls.called c.loop-done.calls c.in-Some.id level c.call.new.self) c.from.ensures
    c.in-Ok.ensures.called in (
      ran ++ one ∷ [],
      longer,
      serves_call _ _ _ ran _ c.in-Some.id c.finish.result _ looked called c.in-Ok.ensures.counted
          (rw found.hand at c.finish.ensures.step) (rw found.hand at c.finish.ensures.made),
      (rw found.hand at c.finish.ensures.hand) ∙ sym (hand_more _ ran one),
    )

pub returns-in-Err : goal.returns-in-Err
returns-in-Err g c =
    let (ran, long, s, hand) = c.loop-done.invariant in
    let found = c.in-Some.ensures in
    let way = subst (λ h. DrainGoes g.D.Drain c.loop-done.drain (look_of h (Some c.in-Some.id)) c.in_hand.new.drain) hand
    found.way in
    record {
      served = tt;
      within = tt;
      idle = tt;
      refused = (
        ran,
        c.loop-done.calls,
        long,
        c.loop-done-test.true,
        serves_look _ _ _ ran _ _ _ s found.still way,
        c.in-Err.ensures.refused,
        c.in-Err.ensures.kept,
        found.hand,
      );
    }
