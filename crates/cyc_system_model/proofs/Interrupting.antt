-- A soft interrupt is what the definition says.
use Rattle.std.proofs.Common.{◌≡◌, ℕ, zero, suc, ◌+◌, ◌-◌, ◌<◌, ◌≤◌, List, [], ◌∷◌, ◌++◌, length, map, Bool, true, false, cond}
use Rattle.std.proofs.Common.{◌==◌, ne_eqb, Option, Some, None, refl, ap, sym, ◌∙◌, subst, arith}
use Rattle.std.specs.Prelude.{is_some, IsTrue, ◌↔◌}
use Rattle.std.specs.Option.{option_map, option_map_or}
use Rattle.std.proofs.lemmas.List.{length-map}
use Rattle.std.proofs.lemmas.List.Sums.{sum_by-append}
use Rattle.cyc_types.specs.Counting.{times}
use Rattle.cyc_types.specs.Draining.{Takes, hand_after}
use Rattle.cyc_types.specs.Levels.{Handler}
use Rattle.cyc_types.specs.Runs.{DrainGoes}
use Rattle.cyc_types.specs.declared.draining.Finished.{Finished}
use Rattle.cyc_types.specs.declared.draining.Finished.TheVariants.{More, Last, LastOfRemoval}
use Rattle.cyc_types.specs.declared.level.Soft.{Soft}
use Rattle.cyc_types.specs.declared.level.Soft.TheVariants.{Low, Lock}
use Rattle.cyc_level.specs.declared.Event.{Event}
use Rattle.cyc_level.specs.declared.Event.TheVariants.{Finish}
use Rattle.cyc_level.specs.Level.{AdmittedCyclic, SoftLevel, count, count_in}
use Rattle.cyc_level.specs.Events.{after, after_finish, cyclic_after_finish, hand_after_finish}
use Rattle.cyc_level.proofs.Maps.{at_same}
use Rattle.cyc_core.specs.Tables.{Tables, level_of}
use Rattle.cyc_core.specs.DrainingSide.{Drains, take_events, finished_at, is_marked}
use Rattle.cyc_cpu.specs.Cpu.{CpuView}
use Rattle.cyc_cpu.specs.Soft.{drain_tables, held_at, end_at, SoftKept}
use Rattle.cyc_soft.specs.Serving.{Served, Serves, ids, way_of, last_look, hand_left, soft_side}
use Rattle.cyc_model.specs.Acts.{Act, At, Call, call_in, calls_of, handler_calls}
use Rattle.cyc_model.specs.Cpu.{Cpu, cpu_after, happen}
use Rattle.cyc_model.specs.Serving.{level_after, level_at, looks, look, Interrupt, calling, found_nothing, serve, interrupt_here}
use Rattle.cyc_model.specs.Serving.{serve_here}
use Rattle.cyc_model.proofs.Events.{calls_append, zero_first}
use Rattle.cyc_system_model.specs.ShownCpu.{shown_cyclic, shown_cpu}
use Rattle.cyc_system_model.proofs.Raising.{folds}
use Rattle.cyc_system_model.proofs.Firing.{lock_events, low_events, events_call_none}

-- ---- one soft level of a CPU

abbrev pub with_level : Soft → SoftLevel → Cpu → Cpu
with_level Low l c = record c { low = l }
with_level Lock l c = record c { lock = l }

events_cpu : (soft : Soft) (n : ℕ) (es : List Event) (l : SoftLevel) (c : Cpu)
    → happen (map (At n soft) es) (with_level soft l c) ≡ with_level soft (level_after es l) c
events_cpu Low n es l c = low_events n es (record c { low = l })
events_cpu Lock n es l c = lock_events n es (record c { lock = l })

finish_cpu : (soft : Soft) (n : ℕ) (l : SoftLevel) (c : Cpu)
    → cpu_after (At n soft Finish) (with_level soft l c) ≡ with_level soft (after Finish l) c
finish_cpu Low n l c = refl
finish_cpu Lock n l c = refl

happen_append : (xs ys : List Act) (c : Cpu) → happen (xs ++ ys) c ≡ happen ys (happen xs c)
happen_append [] ys c = refl
happen_append (x ∷ xs) ys c = happen_append xs ys (cpu_after x c)

calls_in_append : (xs ys : List Act) → handler_calls (xs ++ ys) ≡ handler_calls xs + handler_calls ys
calls_in_append [] ys = zero_first (handler_calls ys)
calls_in_append (x ∷ xs) ys = let r = calls_in_append xs ys in omega (arith, r)

events_call_nothing : (n : ℕ) (soft : Soft) (es : List Event) → handler_calls (map (At n soft) es) ≡ 0
events_call_nothing n soft [] = refl
events_call_nothing n soft (e ∷ es) = let r = events_call_nothing n soft es in omega (arith, r)

-- ---- the hand after a finish

one_less : (o : Option AdmittedCyclic) → count_in (option_map cyclic_after_finish o) ≡ count_in o - 1
one_less None = refl
one_less (Some c) = refl

left_hand : (n id : ℕ) (marked : Bool) → hand_after_finish n (Some id) ≡ hand_after (finished_at (n - 1) marked) (Some id)
left_hand zero id true = refl
left_hand zero id false = refl
left_hand (suc zero) id true = refl
left_hand (suc zero) id false = refl
left_hand (suc (suc n)) id marked = ap (λ b. hand_after (cond b (cond marked LastOfRemoval Last) More) (Some id))
    (sym (ne_eqb (suc (suc n) - 1) 0 (λ e. absurd (omega arith))))

finish_hand : (id : ℕ) (answer : Finished) (m k : SoftLevel) → m.drainer_hand ≡ Some id → k ≡ after Finish m
    → answer ≡ finished_at (count k id) (is_marked k.marked id) → k.drainer_hand ≡ hand_after answer (Some id)
finish_hand id answer m k held is found =
    let done : k ≡ after_finish (Some id) m = is ∙ ap (λ h. after_finish h m) held in
    let left : count k id ≡ count m id - 1 = ap (λ (x : SoftLevel). count x id) done
    ∙ (ap count_in (at_same m.cyclics id (option_map cyclic_after_finish)) ∙ one_less (m.cyclics id)) in
    ap (λ (x : SoftLevel). x.drainer_hand) done ∙ (ap (hand_after_finish (count m id)) held
    ∙ (left_hand (count m id) id (is_marked k.marked id)
    ∙ (ap (λ n. hand_after (finished_at n (is_marked k.marked id)) (Some id)) (sym left)
    ∙ ap (λ a. hand_after a (Some id)) (sym found))))

-- ---- one look

same_looks : (old new : List ℕ) (followed : Bool) → looks old new followed ≡ take_events old new followed
same_looks [] [] true = refl
same_looks [] [] false = refl
same_looks [] (y ∷ ys) true = refl
same_looks [] (y ∷ ys) false = refl
same_looks (x ∷ xs) [] true = refl
same_looks (x ∷ xs) [] false = refl
same_looks (x ∷ xs) (y ∷ ys) true = refl
same_looks (x ∷ xs) (y ∷ ys) false = refl

looks_empty : (l : SoftLevel) (id : ℕ) → l.drainer_hand ≡ Some id → look l ≡ []
looks_empty l id held = ap (λ h. cond (is_some h) [] (looks l.old_list l.new_list (l.hard_bank == l.soft_bank))) held

looks_once : (l : SoftLevel) → l.drainer_hand ≡ None → look l ≡ take_events l.old_list l.new_list (l.hard_bank == l.soft_bank)
looks_once l free =
    ap (λ h. cond (is_some h) [] (looks l.old_list l.new_list (l.hard_bank == l.soft_bank))) free
    ∙ same_looks l.old_list l.new_list (l.hard_bank == l.soft_bank)

took : (l m : SoftLevel) (answer : Option ℕ) → l.drainer_hand ≡ None → Drains l (Takes answer) m → m ≡ level_after (look l) l
took l m answer free (happened, is) =
    folds (take_events l.old_list l.new_list (l.hard_bank == l.soft_bank)) l m happened
    ∙ ap (λ es. level_after es l) (sym (looks_once l free))

-- ---- the calls one after another

-- the definition makes these calls, stops so, and leaves this level
pub record Interrupts (n : ℕ) (soft : Soft) (budget : ℕ) (called : List ℕ) (idle : Bool) (l m : SoftLevel) : Type 0 where
  pub stopped : (serve n soft budget l).idle ≡ idle
  pub calls : (q : ℕ) → calls_of q (serve n soft budget l).acts ≡ times q called
  pub many : handler_calls (serve n soft budget l).acts ≡ length called
  pub cpu : (c : Cpu) → happen (serve n soft budget l).acts (with_level soft l c) ≡ with_level soft m c

-- the budget that fits so many calls
abbrev FitsBudget : Bool → ℕ → ℕ → Type 0
FitsBudget true calls budget = calls < budget
FitsBudget false calls budget = calls ≡ budget

fits_less : (idle : Bool) (m n b : ℕ) → m ≡ n + 1 → FitsBudget idle m (suc b) → FitsBudget idle n b
fits_less true m n b is fits = omega arith
fits_less false m n b is fits = omega arith

stops : (n : ℕ) (soft : Soft) (budget : ℕ) (l m : SoftLevel) → m ≡ level_after (look l) l → m.drainer_hand ≡ None
    → Interrupts n soft (suc budget) [] true l m
stops n soft budget l m is free =
    let none : (level_after (look l) l).drainer_hand ≡ None = ap (λ (x : SoftLevel). x.drainer_hand) (sym is) ∙ free in
    let so : serve n soft (suc budget) l ≡ found_nothing n soft (look l) =
    ap (λ h. option_map_or (λ (id : ℕ). calling n soft (look l) id (serve n soft budget (after Finish (level_after (look l) l))))
    h (found_nothing n soft (look l))) none in
    record {
      stopped = ap (λ (x : Interrupt). x.idle) so;
      calls = λ q. ap (λ (x : Interrupt). calls_of q x.acts) so ∙ events_call_none n q soft (look l);
      many = ap (λ (x : Interrupt). handler_calls x.acts) so ∙ events_call_nothing n soft (look l);
      cpu = λ c. ap (λ (x : Interrupt). happen x.acts (with_level soft l c)) so ∙ events_cpu soft n (look l) l c
          ∙ ap (λ x. with_level soft x c) (sym is);
    }

times_first : (id j : ℕ) (xs : List ℕ) → times id (j ∷ xs) ≡ call_in id (Call j) + times id xs
times_first id j xs = let whole = sum_by-append (λ (c : ℕ). cond (c == id) 1 0) (j ∷ []) xs in omega (arith, whole)

goes_on : (n : ℕ) (soft : Soft) (budget : ℕ) (called : List ℕ) (id : ℕ) (idle : Bool) (l m k e : SoftLevel)
    → m ≡ level_after (look l) l → m.drainer_hand ≡ Some id
    → k ≡ after Finish m → Interrupts n soft budget called idle k e → Interrupts n soft (suc budget) (id ∷ called) idle l e
goes_on n soft budget called id idle l m k e is held done rest =
    let hand : (level_after (look l) l).drainer_hand ≡ Some id = ap (λ (x : SoftLevel). x.drainer_hand) (sym is) ∙ held in
    let at : k ≡ after Finish (level_after (look l) l) = done ∙ ap (after Finish) is in
    let looked = map (At n soft) (look l) in
    let more = serve n soft budget k in
    let so : serve n soft (suc budget) l ≡ calling n soft (look l) id more =
    ap (λ h. option_map_or (λ (j : ℕ). calling n soft (look l) j (serve n soft budget (after Finish (level_after (look l) l)))) h
    (found_nothing n soft (look l))) hand
    ∙ ap (λ x. calling n soft (look l) id (serve n soft budget x)) (sym at) in
    record {
      stopped = ap (λ (x : Interrupt). x.idle) so ∙ rest.stopped;
      calls = λ q.
          let whole = ap (λ (x : Interrupt). calls_of q x.acts) so in
          let split = calls_append q looked (Call id ∷ At n soft Finish ∷ more.acts) in
          let none = events_call_none n q soft (look l) in
          let later = rest.calls q in
          let first = times_first q id called in
          omega (arith, whole, split, none, later, first);
      many =
          (let whole = ap (λ (x : Interrupt). handler_calls x.acts) so in
          let split = calls_in_append looked (Call id ∷ At n soft Finish ∷ more.acts) in
          let none = events_call_nothing n soft (look l) in
          let later = rest.many in
          omega (arith, whole, split, none, later));
      cpu = λ c.
          ap (λ (x : Interrupt). happen x.acts (with_level soft l c)) so
          ∙ happen_append looked (Call id ∷ At n soft Finish ∷ more.acts) (with_level soft l c)
          ∙ ap (λ d. happen more.acts (cpu_after (At n soft Finish) d)) (events_cpu soft n (look l) l c)
          ∙ ap (happen more.acts) (finish_cpu soft n (level_after (look l) l) c ∙ ap (λ x. with_level soft x c) (sym at))
          ∙ rest.cpu c;
    }

pub interrupts : (n : ℕ) (soft : Soft) (budget : ℕ) (ran : List Served) (idle : Bool) (hand : Option ℕ) (d e : Tables)
    → (level_of d).drainer_hand ≡ hand
    → FitsBudget idle (length ran) budget → (idle ≡ true → hand_left hand ran ≡ None)
    → DrainGoes drain_tables d (way_of hand ran (last_look idle)) e
    → Interrupts n soft budget (ids ran) idle (level_of d) (level_of e)
interrupts n soft zero [] false hand d e held fits left way = record {
  stopped = refl;
  calls = λ q. refl;
  many = refl;
  cpu = λ c. ap (λ (x : Tables). with_level soft (level_of x) c) way;
}
interrupts n soft (suc budget) [] false hand d e held fits left way = absurd (omega arith)
interrupts n soft zero [] true hand d e held fits left way = absurd (omega arith)
interrupts n soft (suc budget) [] true hand d e held fits left (j, drained, last) =
    let free : (level_of d).drainer_hand ≡ None = held ∙ left refl in
    let same : level_of e ≡ level_of j = ap level_of (sym last) in
    subst (λ (x : SoftLevel). Interrupts n soft (suc budget) [] true (level_of d) x) (sym same)
    (stops n soft budget (level_of d) (level_of j) (took (level_of d) (level_of j) None free drained) (sym drained.1))
interrupts n soft zero (s ∷ ran) true hand d e held fits left way = absurd (omega arith)
interrupts n soft zero (s ∷ ran) false hand d e held fits left way = absurd (omega arith)
interrupts n soft (suc budget) (s ∷ ran) idle (Some x) d e held fits left (k, (in_hand, (on, is), found), rest) =
    let l = level_of d in
    let after_it = finish_hand s.id s.answer l (level_of k) in_hand is found in
    let none : l ≡ level_after (look l) l = ap (λ es. level_after es l) (sym (looks_empty l s.id in_hand)) in
    goes_on n soft budget (ids ran) s.id idle l l (level_of k) (level_of e) none in_hand is
    (interrupts n soft budget ran idle (hand_after s.answer (Some s.id)) k e after_it
    (fits_less idle (length (s ∷ ran)) (length ran) budget (omega arith) fits) left rest)
interrupts n soft (suc budget) (s ∷ ran) idle None d e held fits left (j, drained, (k, (in_hand, (on, is), found), rest)) =
    let l = level_of d in
    let after_it = finish_hand s.id s.answer (level_of j) (level_of k) in_hand is found in
    goes_on n soft budget (ids ran) s.id idle l (level_of j) (level_of k) (level_of e)
    (took l (level_of j) (Some s.id) held drained) in_hand is
    (interrupts n soft budget ran idle (hand_after s.answer (Some s.id)) k e after_it
    (fits_less idle (length (s ∷ ran)) (length ran) budget (omega arith) fits) left rest)

-- ---- the whole soft interrupt

fits_budget : (idle : Bool) (calls n budget : ℕ) → n ≡ calls → calls ≤ budget → (IsTrue idle ↔ (calls < budget))
    → FitsBudget idle n budget
fits_budget true calls n budget same most exactly = let less = exactly.0 refl in omega (arith, less)
fits_budget false calls n budget same most exactly = omega (arith, λ (less : calls < budget). no_true (exactly.1 less))
  where
    no_true : IsTrue false → ⊥
    no_true e = cc

-- a last look that found nothing leaves the hand empty
hand_empty : (ran : List Served) (hand : Option ℕ) (d e : Tables)
    → DrainGoes drain_tables d (way_of hand ran (Takes None ∷ [])) e → held_at e ≡ None
hand_empty [] hand d e (j, drained, last) = ap held_at (sym last) ∙ sym drained.1
hand_empty (s ∷ ran) (Some x) d e (k, finished, rest) = hand_empty ran (hand_after s.answer (Some s.id)) k e rest
hand_empty (s ∷ ran) None d e (j, drained, (k, finished, rest)) = hand_empty ran (hand_after s.answer (Some s.id)) k e rest

idle_hand : (idle : Bool) (ran : List Served) (hand : Option ℕ) (d e : Tables)
    → DrainGoes drain_tables d (way_of hand ran (last_look idle)) e → idle ≡ true → held_at e ≡ None
idle_hand true ran hand d e way is = hand_empty ran hand d e way
idle_hand false ran hand d e way is = absurd (let no : false ≡ true = is in cc)

shown_at : (soft : Soft) (online : Bool) (v w : CpuView Tables) → SoftKept soft v w
    → shown_cpu online w ≡ with_level soft (level_of (end_at soft w)) (shown_cpu online v)
shown_at Low online v w kept = λ z. record {
  online = online;
  cyclics = map shown_cyclic (kept.cyclics z);
  size =
      kept.kept.size z;
  removal = kept.kept.removal z;
  lock = ap level_of kept.beside z;
  low = level_of w.low;
}
shown_at Lock online v w kept = λ z. record {
  online = online;
  cyclics = map shown_cyclic (kept.cyclics z);
  size =
      kept.kept.size z;
  removal = kept.kept.removal z;
  lock = level_of w.lock;
  low = ap level_of kept.beside z;
}

same_here : (soft : Soft) (online : Bool) (v : CpuView Tables)
    → with_level soft (level_of (end_at soft v)) (shown_cpu online v) ≡ shown_cpu online v
same_here Low online v = refl
same_here Lock online v = refl

level_here : (soft : Soft) (online : Bool) (v : CpuView Tables) → level_at soft (shown_cpu online v) ≡ level_of (end_at soft v)
level_here Low online v = refl
level_here Lock online v = refl

pub serves_here : {C : Type 0} (handler : Handler C) (soft : Soft) (n budget calls : ℕ) (idle online : Bool)
    (v w : CpuView Tables) (t u : C) (ran : List Served) → length ran ≡ calls
    → Serves drain_tables handler (soft_side (end_at soft v) t) ran (last_look idle) (soft_side (end_at soft w) u)
    → held_at (end_at soft w) ≡ hand_left (held_at (end_at soft v)) ran → calls ≤ budget → (IsTrue idle ↔ (calls < budget))
    → SoftKept soft v w
    → (shown_cpu online w ≡ (serve_here n soft budget (shown_cpu online v)).cpu)
    × ((q : ℕ) → handler.count u q ≡ handler.count t q + calls_of q (serve_here n soft budget (shown_cpu online v)).acts)
    × (calls ≡ handler_calls (interrupt_here n soft budget (shown_cpu online v)).acts)
    × (idle ≡ (interrupt_here n soft budget (shown_cpu online v)).idle)
serves_here handler soft n budget calls idle online v w t u ran long serves left most exactly kept =
    let c = shown_cpu online v in
    let d = end_at soft v in
    let e = end_at soft w in
    let empty : idle ≡ true → hand_left (held_at d) ran ≡ None = λ is. sym left
    ∙ idle_hand idle ran (held_at d) d e serves.way is in
    let i = interrupts n soft budget ran idle (held_at d) d e refl
    (fits_budget idle calls (length ran) budget long most exactly) empty serves.way in
    let l = level_here soft online v in
    let same : interrupt_here n soft budget c ≡ serve n soft budget (level_of d) = ap (serve n soft budget) l in (
      shown_at soft online v w kept ∙ sym (i.cpu c)
          ∙ ap (happen (serve n soft budget (level_of d)).acts) (same_here soft online v)
          ∙ ap (λ (x : Interrupt). happen x.acts c) (sym same),
      λ q.
          let counted = serves.counted q in
          let all = i.calls q in
          let a = ap (λ (x : Interrupt). calls_of q x.acts) same in
          omega (arith, counted, all, a),
      (let all = i.many in
          let a = ap (λ (x : Interrupt). handler_calls x.acts) same in
          let m = length-map ran (λ (s : Served). s.id) in
          omega (arith, all, a, m, long)),
      sym i.stopped ∙ ap (λ (x : Interrupt). x.idle) (sym same),
    )
