-- A whole CPU stays whole where a cyclic's stay begins, and where it ends.
use Rattle.std.proofs.Common.{◌≡◌, ◌≢◌, ℕ, suc, ◌+◌, ◌≤◌, eq-eqb, ne_eqb, Bool, cond, length, Option, Some, None, refl, ap, sym}
use Rattle.std.proofs.Common.{◌∙◌, subst, inl, inr, ⊎_elim, ◌⊎◌, arith}
use Rattle.std.specs.Prelude.{IsSome}
use mathlib.Core.Logic.{dite}
use native.Mathlib.Decide.{ℕ_discrete}
use Rattle.cyc_types.specs.Series.{never}
use Rattle.cyc_types.specs.declared.level.Soft.{Soft}
use Rattle.cyc_types.specs.declared.level.Soft.TheVariants.{Low, Lock}
use Rattle.cyc_level.specs.declared.Event.TheVariants.{Admit, Clear}
use Rattle.cyc_level.specs.Level.{SoftLevel, AdmittedCyclic, Cyclics, count}
use Rattle.cyc_level.specs.Lawful.{IsId}
use Rattle.cyc_level.specs.Events.{after, changed_at, admitted_cyclic}
use Rattle.cyc_level.proofs.Maps.{some_same, some_of, none_some}
use Rattle.cyc_model.specs.Acts.{at_own}
use Rattle.cyc_model.specs.Cpu.{CyclicState, Cpu, Here, handler_level_of, others}
use Rattle.cyc_model.specs.Questions.{outstanding_here}
use Rattle.cyc_model.specs.Serving.{level_at}
use Rattle.cyc_model.specs.Moving.{widen_here, put_in, place_here, enter_here, clear_here}
use Rattle.cyc_types.specs.Levels.{as_level}
use Rattle.cyc_model.proofs.Local.{Local, local_place, local_enter, local_clear}
use Rattle.cyc_model.proofs.Rising.{Rising, found, put_same, put_other, rising_put, length_put, found_others, rising_others}
use Rattle.cyc_model.proofs.Rising.{length_others}
use Rattle.cyc_model.proofs.Whole.{Whole, same_happen, RestAt, fit_here, free_here, Done, done_then, no_level, not_admitted}
use Rattle.cyc_model.proofs.Fires.{level_found}
use Rattle.cyc_model.proofs.Spare.{spare_index}
use Rattle.cyc_model.proofs.Moves.{one_hard, CanGrow, widened_cpu, widened_room, done_widen, rest_own, own_level, books_own}

pub none_and_some : {A : Type 0} (P : Type 0) (o : Option A) → o ≡ None → IsSome o → P
none_and_some P o none some = let x = some_of o some in none_some P x.0 o none x.1

changed_elsewhere : (m : Cyclics) (id : ℕ) (f : Option AdmittedCyclic → Option AdmittedCyclic) (j : ℕ) → j ≢ id
    → changed_at m id f j ≡ m j
changed_elsewhere m id f j ne = ap (λ (b : Bool). cond b (f (m j)) (m j)) (ne_eqb j id ne)

-- ---- a stay begins

module _ (n index : ℕ) (x : CyclicState) (c : Cpu) (w : Whole c) (is_id : IsId x.timer.id) (new : found x.timer.id c.cyclics ≡
    None)
    (fits : length c.cyclics + 1 ≤ c.size) where
  with_it : Cpu
  with_it = record c { cyclics = put_in x c.cyclics }

  pub placed_cyclics : (place_here n index x c).cpu.cyclics ≡ put_in x c.cyclics
  placed_cyclics = (same_happen (at_own n x.timer.level (Admit x.timer.id index))
      (record c { cyclics = put_in x c.cyclics })).cyclics

  pub placed_removal : (place_here n index x c).cpu.removal ≡ c.removal
  placed_removal = (same_happen (at_own n x.timer.level (Admit x.timer.id index))
      (record c { cyclics = put_in x c.cyclics })).removal

  pub placed_size : (place_here n index x c).cpu.size ≡ c.size
  placed_size = (same_happen (at_own n x.timer.level (Admit x.timer.id index)) (record c { cyclics = put_in x c.cyclics })).size

  pub placed_online : (place_here n index x c).cpu.online ≡ c.online
  placed_online = (same_happen (at_own n x.timer.level (Admit x.timer.id index))
      (record c { cyclics = put_in x c.cyclics })).online

  placed_rest : RestAt n (at_own n x.timer.level (Admit x.timer.id index)) c
  placed_rest = rest_own n x.timer.level (Admit x.timer.id index) c
      (λ soft is. (
        is_id,
        not_admitted soft x.timer.id c w (no_level x.timer.id c new soft),
        spare_index soft c w (let size = one_hard c w soft in omega (arith, fits, size)),
      ))

  -- the level of another id is as it was
  elsewhere : (j : ℕ) → j ≢ x.timer.id → handler_level_of j (place_here n index x c).cpu ≡ handler_level_of j c
  elsewhere j ne = ap (λ cs. level_found (found j cs)) placed_cyclics ∙ ap level_found (put_other j x c.cyclics (λ e. ne (sym e)))

  there : (j : ℕ) → j ≡ x.timer.id → handler_level_of j (place_here n index x c).cpu ≡ x.timer.level
  there j e = ap (λ cs. level_found (found j cs)) placed_cyclics
      ∙ ap level_found (put_same j x c.cyclics (sym e) (ap (λ (k : ℕ). found k c.cyclics) e ∙ new))

  -- an id that is at a soft level of the CPU is another
  is_other : (j : ℕ) (soft : Soft) → handler_level_of j c ≡ as_level soft → j ≢ x.timer.id
  is_other j soft at e = no_level j c (ap (λ (k : ℕ). found k c.cyclics) e ∙ new) soft at

  pub done_place : Done n (λ j. 0) c (place_here n index x c)
  done_place =
      let k = x.timer.level in let e = Admit x.timer.id index in
      let d = place_here n index x c in
      let local = local_place n index x c in
      let rest = placed_rest in record {
        local = local;
        rest = rest;
        books = books_own n k e c d.cpu w local rest (λ j. refl) (λ j m. refl) (λ j. refl);
        whole = record {
          agrees = local.agrees w.agrees;
          free = free_here n c d w local rest;
          fit = fit_here n c d w local rest;
          back = λ soft j some. dite (ℕ_discrete j x.timer.id)
              (λ same. ⊎_elim
              (λ own. there j same ∙ own.0)
              (λ away. none_and_some (handler_level_of j d.cpu ≡ as_level soft) ((level_at soft c).cyclics j)
              (not_admitted soft j c w (no_level j c (ap (λ (i : ℕ). found i c.cyclics) same ∙ new) soft))
              (subst (λ (l : SoftLevel). IsSome (l.cyclics j)) away.1 some))
              (own_level n k e c d.cpu local soft))
              (λ ne. elsewhere j ne ∙ w.back soft j (⊎_elim
              (λ own. subst (λ o. IsSome o)
              (changed_elsewhere (level_at soft c).cyclics x.timer.id (λ _. Some (admitted_cyclic index)) j ne)
              (subst (λ (l : SoftLevel). IsSome (l.cyclics j)) own.1 some))
              (λ away. subst (λ (l : SoftLevel). IsSome (l.cyclics j)) away.1 some)
              (own_level n k e c d.cpu local soft)));
          marks = λ soft j is. let was = w.marks soft j (sym (same_mark soft (own_level n k e c d.cpu local soft)) ∙ is) in
              (placed_removal ∙ was.0, elsewhere j (is_other j soft was.1) ∙ was.1);
          marked = λ soft j is at. let r = sym placed_removal ∙ is in
              let ne : j ≢ x.timer.id = λ same. none_and_some ⊥ (found j c.cyclics) (ap (λ (i : ℕ). found i c.cyclics) same
              ∙ new) (w.held j r) in
              same_mark soft (own_level n k e c d.cpu local soft) ∙ w.marked soft j r (sym (elsewhere j ne) ∙ at);
          rising = subst (λ cs. Rising 0 cs) (sym placed_cyclics) (rising_put 0 x c.cyclics is_id.0 w.rising new);
          room = let len : length d.cpu.cyclics ≡ suc (length c.cyclics) = ap length placed_cyclics ∙ length_put x c.cyclics in
              let size = placed_size in omega (arith, len, size, fits);
          still = λ j y is at. let r = sym placed_removal ∙ is in
              w.still j y r (sym (put_other j x c.cyclics (far j r)) ∙ sym (ap (found j) placed_cyclics) ∙ at);
          held = λ j is. let r = sym placed_removal ∙ is in
              subst (λ o. IsSome o) (sym (ap (found j) placed_cyclics ∙ put_other j x c.cyclics (far j r))) (w.held j r);
        };
      }
    where
      far : (j : ℕ) → c.removal ≡ Some j → x.timer.id ≢ j
      far j r same = none_and_some ⊥ (found j c.cyclics) (ap (λ (i : ℕ). found i c.cyclics) (sym same) ∙ new) (w.held j r)

      same_mark : {P Q : Type 0} (soft : Soft)
          → (P × (level_at soft (place_here n index x c).cpu ≡ after (Admit x.timer.id index) (level_at soft c)))
          ⊎ (Q × (level_at soft (place_here n index x c).cpu ≡ level_at soft c))
          → (level_at soft (place_here n index x c).cpu).marked ≡ (level_at soft c).marked
      same_mark soft h = ⊎_elim (λ own. ap (λ (l : SoftLevel). l.marked) own.1)
          (λ away. ap (λ (l : SoftLevel). l.marked) away.1) h

module _ (n index : ℕ) (x : CyclicState) (c : Cpu) (w : Whole c) (is_id : IsId x.timer.id) (new : found x.timer.id c.cyclics ≡
    None)
    (can : CanGrow 1 c) where
  wide : Cpu
  wide = (widen_here n 1 c).cpu

  new_there : found x.timer.id (widen_here n 1 c).cpu.cyclics ≡ None
  new_there = ap (found x.timer.id) (widened_cpu n 1 c w).0 ∙ new

  fits_there : length (widen_here n 1 c).cpu.cyclics + 1 ≤ (widen_here n 1 c).cpu.size
  fits_there = subst (λ cs. length cs + 1 ≤ (widen_here n 1 c).cpu.size) (sym (widened_cpu n 1 c w).0) (widened_room n 1 c w can)

  pub done_enter : Done n (λ j. 0) c (enter_here n index x c)
  done_enter =
      let one = done_widen n 1 c w can in
      let two = done_place n index x (widen_here n 1 c).cpu one.whole is_id new_there fits_there in
      done_then n (λ j. 0) (λ j. 0) c (widen_here n 1 c) (place_here n index x) (local_enter n index x c) one two

  pub entered_cyclics : (enter_here n index x c).cpu.cyclics ≡ put_in x c.cyclics
  entered_cyclics = placed_cyclics n index x (widen_here n 1 c).cpu (done_widen n 1 c w can).whole is_id new_there fits_there
      ∙ ap (put_in x) (widened_cpu n 1 c w).0

  pub entered_removal : (enter_here n index x c).cpu.removal ≡ c.removal
  entered_removal = placed_removal n index x (widen_here n 1 c).cpu (done_widen n 1 c w can).whole is_id new_there fits_there
      ∙ (widened_cpu n 1 c w).1

  pub entered_online : (enter_here n index x c).cpu.online ≡ c.online
  entered_online = placed_online n index x (widen_here n 1 c).cpu (done_widen n 1 c w can).whole is_id new_there fits_there
      ∙ (widened_cpu n 1 c w).2

-- ---- a stay ends

cleared_some : (m : Cyclics) (id j : ℕ) → IsSome (changed_at m id (λ _. None) j) → (j ≢ id) × IsSome (m j)
cleared_some m id j some = dite (ℕ_discrete j id)
    (λ e. none_and_some ((j ≢ id) × IsSome (m j)) (changed_at m id (λ _. None) j)
    (ap (λ (b : Bool). cond b None (m j)) (eq-eqb j id e)) some)
    (λ ne. (ne, subst (λ o. IsSome o) (changed_elsewhere m id (λ _. None) j ne) some))

-- the level of the cyclic forgets it, and the other stays as it is
abbrev pub Forgets : ℕ → Cpu → Cpu → Soft → Type 0
Forgets id c p soft =
    ((handler_level_of id c ≡ as_level soft) × ((level_at soft p).cyclics ≡ changed_at (level_at soft c).cyclics id (λ _. None))
    × ((level_at soft p).marked ≡ None))
    ⊎ ((handler_level_of id c ≢ as_level soft) × (level_at soft p ≡ level_at soft c))

pub whole_gone : (n id : ℕ) (c : Cpu) (d : Here) → Whole c → Local n c d → RestAt n d.acts c → d.cpu.cyclics ≡ others id c.cyclics
    → d.cpu.removal ≡ None → d.cpu.size ≡ c.size → ((j : ℕ) → c.removal ≡ Some j → j ≡ id)
    → ((soft : Soft) → Forgets id c d.cpu soft) → Whole d.cpu
whole_gone n id c d w local rest cyclics removal size alone gone = record {
  agrees = local.agrees w.agrees;
  free = free_here n c d w local rest;
  fit = fit_here n c d w local rest;
  back = λ soft j some. ⊎_elim
      (λ own. let was = cleared_some (level_at soft c).cyclics id j (subst (λ (m : Cyclics). IsSome (m j)) own.1 some) in
      kept j was.0 ∙ w.back soft j was.1)
      (λ away. let at = w.back soft j (subst (λ (l : SoftLevel). IsSome (l.cyclics j)) away.1 some) in
      kept j (λ same. away.0 (ap (λ (i : ℕ). handler_level_of i c) (sym same) ∙ at)) ∙ at)
      (gone soft);
  marks = λ soft j is. ⊎_elim
      (λ own. none_some ((d.cpu.removal ≡ Some j)
      × (handler_level_of j d.cpu ≡ as_level soft)) j (level_at soft d.cpu).marked own.2 is)
      (λ away. let was = w.marks soft j (sym (ap (λ (l : SoftLevel). l.marked) away.1) ∙ is) in
      absurd (away.0 (ap (λ (i : ℕ). handler_level_of i c) (sym (alone j was.0)) ∙ was.1)))
      (gone soft);
  marked = λ soft j is at. none_some ((level_at soft d.cpu).marked ≡ Some j) j d.cpu.removal removal is;
  rising = subst (λ cs. Rising 0 cs) (sym cyclics) (rising_others 0 id c.cyclics w.rising);
  room = let len : length d.cpu.cyclics ≡ length (others id c.cyclics) = ap length cyclics in
      let less = length_others id c.cyclics in let was = w.room in omega (arith, len, less, was, size);
  still = λ j y is at. none_some (y.timer.moment ≡ never) j d.cpu.removal removal is;
  held = λ j is. none_some (IsSome (found j d.cpu.cyclics)) j d.cpu.removal removal is;
}
  where
    kept : (j : ℕ) → j ≢ id → handler_level_of j d.cpu ≡ handler_level_of j c
    kept j ne = ap (λ cs. level_found (found j cs)) cyclics ∙ ap level_found (found_others j id c.cyclics ne)

pub outstanding_at : (id : ℕ) (c : Cpu) → outstanding_here id c ≡ 0 → (soft : Soft) → count (level_at soft c) id ≡ 0
outstanding_at id c none Lock = omega (arith, none)
outstanding_at id c none Low = omega (arith, none)

pub not_marked : (c : Cpu) → Whole c → c.removal ≡ None → (soft : Soft) → (level_at soft c).marked ≡ None
not_marked c w none soft = by (level_at soft c).marked refl
  where
    by : (o : Option ℕ) → (level_at soft c).marked ≡ o → (level_at soft c).marked ≡ None
    by None is = is
    by (Some j) is = none_some ((level_at soft c).marked ≡ None) j c.removal none (w.marks soft j is).0

module _ (n id : ℕ) (c : Cpu) where
  without : Cpu
  without = record c { cyclics = others id c.cyclics; removal = None }

  pub cleared_cpu : ((clear_here n id c).cpu.cyclics ≡ others id c.cyclics) × ((clear_here n id c).cpu.removal ≡ None)
      × ((clear_here n id c).cpu.size ≡ c.size) × ((clear_here n id c).cpu.online ≡ c.online)
  cleared_cpu =
      let same = same_happen (at_own n (handler_level_of id c) (Clear id))
      (record c { cyclics = others id c.cyclics; removal = None }) in
      (same.cyclics, same.removal, same.size, same.online)

  pub done_clear : Whole c → c.removal ≡ Some id → outstanding_here id c ≡ 0 → Done n (λ j. 0) c (clear_here n id c)
  done_clear w is none =
      let k = handler_level_of id c in let d = clear_here n id c in
      let local = local_clear n id c in
      let rest = rest_own n k (Clear id) c (λ soft at. (w.marked soft id is at, outstanding_at id c none soft)) in record {
        local = local;
        rest = rest;
        books = books_own n k (Clear id) c d.cpu w local rest (λ j. refl) (λ j m. refl) (λ j. refl);
        whole = whole_gone n id c d w local rest cleared_cpu.0 cleared_cpu.1 cleared_cpu.2
            (λ j at. some_same j id (sym at ∙ is))
            (λ soft. ⊎_elim
            (λ own. inl (own.0, ap (λ (l : SoftLevel). l.cyclics) own.1, ap (λ (l : SoftLevel). l.marked) own.1))
            (λ away. inr away)
            (own_level n k (Clear id) c d.cpu local soft));
      }
