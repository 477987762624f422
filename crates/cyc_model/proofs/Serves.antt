-- A soft interrupt leaves a whole CPU whole.
use Rattle.std.proofs.Common.{◌≡◌, ℕ, zero, suc, ◌+◌, ◌==◌, ◌&&◌, eq-eqb, ne_eqb, Bool, true, false, cond, List, [], ◌∷◌, ◌++◌}
use Rattle.std.proofs.Common.{map, Option, Some, None, refl, ap, sym, ◌∙◌, arith}
use Rattle.std.specs.Prelude.{is_some}
use Rattle.std.specs.Option.{option_map_or}
use mathlib.Core.Logic.{dite}
use native.Mathlib.Decide.{ℕ_discrete}
use Rattle.cyc_types.specs.declared.level.Soft.{Soft}
use Rattle.cyc_types.specs.declared.level.Soft.TheVariants.{Low, Lock}
use Rattle.cyc_level.specs.declared.Event.{Event}
use Rattle.cyc_level.specs.declared.Event.TheVariants.{Finish}
use Rattle.cyc_level.specs.Level.{SoftLevel, in_hand}
use Rattle.cyc_level.specs.Events.{after}
use Rattle.cyc_model.specs.Acts.{Act, At, Call, same_soft, events_at, calls_of, losses_of, loss_of}
use Rattle.cyc_model.specs.Cpu.{Cpu}
use Rattle.cyc_model.specs.Serving.{level_at, level_after, looks, look, Interrupt, calling, found_nothing, serve, serve_here}
use Rattle.cyc_model.proofs.Agreement.{AllActs, acts_of_serve}
use Rattle.cyc_model.proofs.Fair.{own_all, call_events, serve_other}
use Rattle.cyc_model.proofs.Local.{local_serve}
use Rattle.cyc_model.proofs.Fit.{Rest, AllRest, brings, all_finishes, all_brings}
use Rattle.cyc_model.proofs.Whole.{Whole, Same, same_happen, IsSteady, steady_events, RestAt, whole_onward, count_here, Done}

-- the other level of a CPU
abbrev other : Soft → Soft
other Low = Lock
other Lock = Low

module _ (n : ℕ) (soft : Soft) where
  -- what holds of each event at each level holds along the acts
  rest_acts : (acts : List Act) (l : SoftLevel) → AllActs (λ e. (m : SoftLevel) → Rest e m) acts
      → AllRest (events_at n soft acts) l
  rest_acts [] l h = tt
  rest_acts (Call id ∷ acts) l h = rest_acts acts l h.1
  rest_acts (At m s e ∷ acts) l h = by ((m == n) && same_soft s soft) (rest_acts acts l h.1) (rest_acts acts (after e l) h.1)
    where
      by : (b : Bool) → AllRest (events_at n soft acts) l → AllRest (events_at n soft acts) (after e l)
          → AllRest (cond b (e ∷ []) [] ++ events_at n soft acts) l
      by true one rest = (h.0 l, rest)
      by false one rest = one

  no_brings : (j : ℕ) (acts : List Act) → AllActs (λ e. brings j e ≡ 0) acts → all_brings j (events_at n soft acts) ≡ 0
  no_brings j [] h = refl
  no_brings j (Call id ∷ acts) h = no_brings j acts h.1
  no_brings j (At m s e ∷ acts) h = by ((m == n) && same_soft s soft) (no_brings j acts h.1)
    where
      by : (b : Bool) → all_brings j (events_at n soft acts) ≡ 0 → all_brings j (cond b (e ∷ []) [] ++ events_at n soft acts) ≡ 0
      by true rest = let z = h.0 in omega (arith, z, rest)
      by false rest = rest

pub no_losses : (j : ℕ) (acts : List Act) → AllActs (λ e. loss_of j e ≡ 0) acts → losses_of j acts ≡ 0
no_losses j [] h = refl
no_losses j (Call id ∷ acts) h = no_losses j acts h.1
no_losses j (At m s e ∷ acts) h = let z = h.0 in let r = no_losses j acts h.1 in omega (arith, z, r)

-- ---- each call is finished

finishes_append : (j : ℕ) (xs ys : List Event) (l : SoftLevel)
    → all_finishes j (xs ++ ys) l ≡ all_finishes j xs l + all_finishes j ys (level_after xs l)
finishes_append j [] ys l = none_more (all_finishes j ys l)
  where
    none_more : (k : ℕ) → k ≡ 0 + k
    none_more k = omega arith
finishes_append j (x ∷ xs) ys l = let h = finishes_append j xs ys (after x l) in omega (arith, h)

no_finish_looks : (j : ℕ) (old new : List ℕ) (b : Bool) (l : SoftLevel) → all_finishes j (looks old new b) l ≡ 0
no_finish_looks j old (x ∷ xs) true l = refl
no_finish_looks j old [] true l = refl
no_finish_looks j (x ∷ xs) new false l = refl
no_finish_looks j [] (y ∷ ys) false l = refl
no_finish_looks j [] [] false l = refl

no_finish_look : (j : ℕ) (l : SoftLevel) → all_finishes j (look l) l ≡ 0
no_finish_look j l = by (is_some l.drainer_hand)
  where
    by : (b : Bool) → all_finishes j (cond b [] (looks l.old_list l.new_list (l.hard_bank == l.soft_bank))) l ≡ 0
    by true = refl
    by false = no_finish_looks j l.old_list l.new_list (l.hard_bank == l.soft_bank) l

calls_map : (n : ℕ) (soft : Soft) (j : ℕ) (es : List Event) (rest : List Act)
    → calls_of j (map (At n soft) es ++ rest) ≡ calls_of j rest
calls_map n soft j [] rest = refl
calls_map n soft j (e ∷ es) rest = let h = calls_map n soft j es rest in omega (arith, h)

no_calls_map : (n : ℕ) (soft : Soft) (j : ℕ) (es : List Event) → calls_of j (map (At n soft) es) ≡ 0
no_calls_map n soft j [] = refl
no_calls_map n soft j (e ∷ es) = let h = no_calls_map n soft j es in omega (arith, h)

same_one : (id j : ℕ) → cond {A = ℕ} (id == j) 1 0 ≡ in_hand j (Some id)
same_one id j = dite (ℕ_discrete id j)
    (λ e. ap (λ (b : Bool). cond {A = ℕ} b 1 0) (eq-eqb id j e)
    ∙ sym (ap (λ (b : Bool). cond {A = ℕ} b 1 0) (eq-eqb j id (sym e))))
    (λ ne. ap (λ (b : Bool). cond {A = ℕ} b 1 0) (ne_eqb id j ne)
    ∙ sym (ap (λ (b : Bool). cond {A = ℕ} b 1 0) (ne_eqb j id (λ e. ne (sym e)))))

calls_look : (n : ℕ) (soft : Soft) (j : ℕ) (l : SoftLevel) (rest : SoftLevel → Interrupt)
    → ((m : SoftLevel) → calls_of j (rest m).acts ≡ all_finishes j (events_at n soft (rest m).acts) m)
    → (hand : Option ℕ) → (level_after (look l) l).drainer_hand ≡ hand
    → calls_of j (option_map_or (λ (id : ℕ). calling n soft (look l) id (rest (after Finish (level_after (look l) l)))) hand
    (found_nothing n soft (look l))).acts
    ≡ all_finishes j (events_at n soft
    (option_map_or (λ (id : ℕ). calling n soft (look l) id (rest (after Finish (level_after (look l) l)))) hand
    (found_nothing n soft (look l))).acts) l
calls_look n soft j l rest more None is =
    no_calls_map n soft j (look l) ∙ sym (no_finish_look j l) ∙ sym (ap (λ es. all_finishes j es l) (own_all n soft (look l)))
calls_look n soft j l rest more (Some id) is =
    let m = level_after (look l) l in
    let acts = (rest (after Finish m)).acts in
    let a = calls_map n soft j (look l) (Call id ∷ At n soft Finish ∷ acts) in
    let b = ap (λ es. all_finishes j es l) (call_events n soft (look l) id acts) in
    let c = finishes_append j (look l) (Finish ∷ events_at n soft acts) l in
    let d = no_finish_look j l in
    let e : in_hand j m.drainer_hand ≡ in_hand j (Some id) = ap (in_hand j) is in
    let f = same_one id j in
    let g = more (after Finish m) in
    omega (arith, a, b, c, d, e, f, g)

calls_serve : (n : ℕ) (soft : Soft) (j budget : ℕ) (l : SoftLevel)
    → calls_of j (serve n soft budget l).acts ≡ all_finishes j (events_at n soft (serve n soft budget l).acts) l
calls_serve n soft j zero l = refl
calls_serve n soft j (suc budget) l =
    calls_look n soft j l (serve n soft budget) (calls_serve n soft j budget) (level_after (look l) l).drainer_hand refl

-- ---- the soft interrupt of a CPU

module _ (n budget : ℕ) where
  rest_serve : (soft : Soft) (c : Cpu) → RestAt n (serve n soft budget (level_at soft c)).acts c
  rest_serve soft c at = rest_acts n at (serve n soft budget (level_at soft c)).acts (level_at at c)
      (acts_of_serve (λ e. (m : SoftLevel) → Rest e m) (λ m. tt) (λ m. tt) (λ m. tt) n soft budget (level_at soft c))

  pub done_serve : (soft : Soft) (c : Cpu) → Whole c → Done n (λ j. 0) c (serve_here n soft budget c)
  done_serve soft c w =
      let acts = (serve n soft budget (level_at soft c)).acts in
      let local = local_serve n soft budget c in
      let rest = rest_serve soft c in record {
        local = local;
        rest = rest;
        whole = whole_onward n c (serve_here n soft budget c) w local rest (same_happen acts c)
            (λ at. steady_events n at acts (acts_of_serve IsSteady tt tt tt n soft budget (level_at soft c)));
        books = λ j. let own = count_here n c (serve_here n soft budget c) w local rest Lock j in
            let low = count_here n c (serve_here n soft budget c) w local rest Low j in
            let b = no_brings n Lock j acts (acts_of_serve (λ e. brings j e
            ≡ 0) refl refl refl n soft budget (level_at soft c)) in
            let e = no_brings n Low j acts (acts_of_serve (λ e. brings j e ≡ 0) refl refl refl n soft budget (level_at soft c)) in
            let z = no_losses j acts (acts_of_serve (λ e. loss_of j e ≡ 0) refl refl refl n soft budget (level_at soft c)) in
            let f = finished soft j c in omega (arith, own, low, b, e, z, f);
      }
    where
      finished : (at : Soft) (j : ℕ) (k : Cpu)
          → all_finishes j (events_at n Lock (serve n at budget (level_at at k)).acts) k.lock
          + all_finishes j (events_at n Low (serve n at budget (level_at at k)).acts) k.low
          ≡ calls_of j (serve n at budget (level_at at k)).acts
      finished Lock j k =
          let a = calls_serve n Lock j budget k.lock in
          let b = ap (λ es. all_finishes j es k.low) (serve_other n Lock Low refl budget k.lock) in omega (arith, a, b)
      finished Low j k =
          let a = calls_serve n Low j budget k.low in
          let b = ap (λ es. all_finishes j es k.lock) (serve_other n Low Lock refl budget k.low) in omega (arith, a, b)

  pub same_serve : (soft : Soft) (c : Cpu) → Same c (serve_here n soft budget c).cpu
  same_serve soft c = same_happen (serve n soft budget (level_at soft c)).acts c
