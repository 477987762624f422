-- How the calls of a soft interrupt go on by one more.
use Rattle.std.proofs.Common.{◌≡◌, ℕ, ◌+◌, List, [], ◌∷◌, ◌++◌, refl, ap, sym, ◌∙◌, subst, arith, true, false, cond, ◌==◌, eq-eqb}
use Rattle.std.proofs.Common.{ne_eqb, Some, None, Option}
use mathlib.Core.Logic.{dite}
use native.Mathlib.Decide.{ℕ_discrete}
use Rattle.std.proofs.lemmas.Bool.Decides.{nat_tests}
use Rattle.std.proofs.lemmas.List.{append_assoc}
use Rattle.std.specs.List.{FoldsTo}
use Rattle.cyc_types.specs.Counting.{times}
use Rattle.cyc_types.specs.Draining.{DrainCall, Finishes, one_of, hand_after}
use Rattle.cyc_types.specs.declared.draining.Drain.{Ghosts as Drain}
use Rattle.cyc_types.specs.Levels.{Handler}
use Rattle.cyc_types.specs.Runs.{DrainGoes, finishes_of}
use Rattle.cyc_types.specs.declared.draining.Finished.{Finished}
use Rattle.cyc_types.proofs.Runs.{folds_on, folds_more, times_more, finishes_on}
use Rattle.cyc_soft.specs.declared.SoftSide.{SoftSide}
use Rattle.cyc_soft.specs.Serving.{Served, Serves, ids, look_of, hand_left, way_of, soft_side}

-- two ways to count one
one_times : (q id : ℕ) → one_of q (Some id) ≡ times q (id ∷ [])
one_times q id = dite (ℕ_discrete q id)
    (λ e. let a : (id == q) ≡ true = grind (arith, nat_tests) in ap (λ b. cond b 1 0) (eq-eqb q id e)
    ∙ sym (ap (λ b. 0 + cond b 1 0) a))
    (λ ne. let a : (id == q) ≡ false = grind (arith, nat_tests) in ap (λ b. cond b 1 0) (ne_eqb q id ne)
    ∙ sym (ap (λ b. 0 + cond b 1 0) a))

-- the rest comes after the calls
way_rest : (hand : Option ℕ) (ran : List Served) (rest : List DrainCall) → way_of hand ran rest ≡ way_of hand ran [] ++ rest
way_rest hand [] rest = refl
way_rest hand (s ∷ ran) rest =
    ap (λ ys. look_of hand (Some s.id) ++ Finishes s.id s.answer ∷ ys) (way_rest (hand_after s.answer (Some s.id)) ran rest)
    ∙ sym (append_assoc (look_of hand (Some s.id)) (Finishes s.id s.answer ∷ way_of (hand_after s.answer (Some s.id)) ran [])
    rest)

-- one more call is a look and a finish more
way_more : (hand : Option ℕ) (ran : List Served) (s : Served) (rest : List DrainCall) →
    way_of hand (ran ++ s ∷ []) rest ≡ way_of hand ran (look_of (hand_left hand ran) (Some s.id) ++ Finishes s.id s.answer ∷ rest)
way_more hand [] s rest = refl
way_more hand (x ∷ ran) s rest = ap (λ ys. look_of hand (Some x.id) ++ Finishes x.id x.answer ∷ ys)
    (way_more (hand_after x.answer (Some x.id)) ran s rest)

pub hand_more : (hand : Option ℕ) (ran : List Served) (s : Served)
    → hand_left hand (ran ++ s ∷ []) ≡ hand_after s.answer (Some s.id)
hand_more hand [] s = refl
hand_more hand (x ∷ ran) s = hand_more (hand_after x.answer (Some x.id)) ran s

ids_more : (ran : List Served) (s : Served) → ids (ran ++ s ∷ []) ≡ ids ran ++ s.id ∷ []
ids_more [] s = refl
ids_more (x ∷ ran) s = ap (λ ys. x.id ∷ ys) (ids_more ran s)

pub look_finishes : (hand found : Option ℕ) → finishes_of (look_of hand found) ≡ []
look_finishes None found = refl
look_finishes (Some id) found = refl

-- what a way finishes are its calls
pub way_finishes : (hand : Option ℕ) (ran : List Served) (rest : List DrainCall)
    → finishes_of (way_of hand ran rest) ≡ ids ran ++ finishes_of rest
way_finishes hand [] rest = refl
way_finishes hand (s ∷ ran) rest =
    finishes_on (look_of hand (Some s.id)) (Finishes s.id s.answer ∷ way_of (hand_after s.answer (Some s.id)) ran rest)
    ∙ ap (λ ys. ys ++ s.id ∷ finishes_of (way_of (hand_after s.answer (Some s.id)) ran rest)) (look_finishes hand (Some s.id))
    ∙ ap (λ ys. s.id ∷ ys) (way_finishes (hand_after s.answer (Some s.id)) ran rest)

module _ {D C : Type 0} (draining : Drain D) (handler : Handler C) where
  -- a look after the calls
  pub serves_look : (a : SoftSide D C) (ran : List Served) (b : SoftSide D C) (look : List DrainCall) (d : D)
      → Serves draining handler a ran [] b → ((q : ℕ) → draining.made d q ≡ draining.made b.drain q)
      → DrainGoes draining b.drain look d → Serves draining handler a ran look (soft_side d b.calls)
  serves_look a ran b look d s still went = record {
    way = subst (λ way. DrainGoes draining a.drain way d) (sym (way_rest (draining.held a.drain) ran look))
        (folds_on draining.step a.drain (way_of (draining.held a.drain) ran []) b.drain look d s.way went);
    called_all = s.called_all;
    counted = s.counted;
    finished = λ q. still q ∙ s.finished q;
  }

  -- a call that was called, counted and finished
  pub serves_call : (a : SoftSide D C) (ran : List Served) (b : SoftSide D C) (id : ℕ) (answer : Finished) (e : SoftSide D C) →
      Serves draining handler a ran (look_of (hand_left (draining.held a.drain) ran) (Some id)) b →
      handler.called b.calls id e.calls → ((q : ℕ) → handler.count e.calls q ≡ handler.count b.calls q + times q (id ∷ [])) →
      draining.step b.drain (Finishes id answer) e.drain →
      ((q : ℕ) → draining.made e.drain q ≡ draining.made b.drain q + one_of q (Some id)) →
      Serves draining handler a (ran ++ record { id = id; answer = answer } ∷ []) [] e
  serves_call a ran b id answer e s now counts stepped more =
      let one : Served = record { id = id; answer = answer } in
      let hand = draining.held a.drain in
      let look = look_of (hand_left hand ran) (Some id) in
      let more_way : way_of hand (ran ++ one ∷ []) [] ≡ way_of hand ran look ++ Finishes id answer ∷ [] =
      way_more hand ran one [] ∙ way_rest hand ran (look ++ Finishes id answer ∷ [])
      ∙ sym (append_assoc (way_of hand ran []) look (Finishes id answer ∷ []))
      ∙ ap (λ ys. ys ++ Finishes id answer ∷ []) (sym (way_rest hand ran look)) in
      let more_ids = ids_more ran one in
      record {
        way = subst (λ way. DrainGoes draining a.drain way e.drain) (sym more_way)
            (folds_more draining.step a.drain (way_of hand ran look) b.drain (Finishes id answer) e.drain s.way stepped);
        called_all = subst (λ xs. FoldsTo handler.called a.calls xs e.calls) (sym more_ids)
            (folds_more handler.called a.calls (ids ran) b.calls id e.calls s.called_all now);
        counted = λ q. omega (arith, counts q, s.counted q, ap (times q) more_ids, times_more q (ids ran) id);
        finished = λ q. omega (arith, more q, s.finished q, ap (times q) more_ids, times_more q (ids ran) id, one_times q id);
      }
