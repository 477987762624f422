-- A whole CPU stays whole where a removal begins, a cyclic leaves for another CPU, and one gets another moment.
use Rattle.std.proofs.Common.{◌≡◌, ◌≢◌, ℕ, ◌+◌, eq-eqb, ne_eqb, Bool, cond, [], ◌∷◌, ◌++◌, length, map, Some, None, refl, ap, sym}
use Rattle.std.proofs.Common.{◌∙◌, subst, inl, inr, ⊎_elim, ◌⊎◌, arith}
use Rattle.std.specs.Prelude.{IsSome}
use Rattle.std.specs.Option.{option_map}
use Rattle.cyc_types.specs.Series.{never}
use Rattle.cyc_types.specs.declared.level.Soft.{Soft}
use Rattle.cyc_types.specs.declared.level.Soft.TheVariants.{Low, Lock}
use Rattle.cyc_level.specs.declared.Event.TheVariants.{Mark, Clear}
use Rattle.cyc_level.specs.Level.{SoftLevel}
use Rattle.cyc_level.proofs.Maps.{some_same, none_some}
use Rattle.cyc_model.specs.Acts.{at_own, events_at}
use Rattle.cyc_model.specs.Cpu.{CyclicState, Cpu, happen, handler_level_of, others, cyclic_at}
use Rattle.cyc_model.specs.Questions.{outstanding_here}
use Rattle.cyc_model.specs.Serving.{level_at, level_after}
use Rattle.cyc_model.specs.Moving.{take_here, moment_at, reprogram_here, mark_here}
use Rattle.cyc_types.specs.Levels.{as_level}
use Rattle.cyc_model.proofs.Agreement.{moment_same}
use Rattle.cyc_model.proofs.Events.{events_append, calls_append}
use Rattle.cyc_model.proofs.Local.{local_take, local_mark, local_reprogram}
use Rattle.cyc_model.proofs.Rising.{Rising, found, found_id, found_map, rising_map, length_mapped}
use Rattle.cyc_model.proofs.Fit.{AllRest, all_finishes, all_brings}
use Rattle.cyc_model.proofs.Whole.{Whole, same_happen, RestAt, fit_here, free_here, count_here, Done, own_cases, calls_own}
use Rattle.cyc_model.proofs.Whole.{losses_own, losses_append}
use Rattle.cyc_model.proofs.Fires.{level_found, retimed_level, whole_retimed, some_mapped, is_some_mapped}
use Rattle.cyc_model.proofs.Moves.{rest_own, own_level, books_own}
use Rattle.cyc_model.proofs.Stays.{whole_gone, outstanding_at, not_marked}

module _ (n id : ℕ) (c : Cpu) where
  abbrev pub marked_cpu : Cpu
  marked_cpu = happen (at_own n (handler_level_of id c) (Mark id)) c

  same_level : handler_level_of id marked_cpu ≡ handler_level_of id c
  same_level = ap (λ cs. level_found (found id cs)) (same_happen (at_own n (handler_level_of id c) (Mark id)) c).cyclics

  -- its level sees both events, and the other none
  take_cases : (soft : Soft)
      → ((handler_level_of id c ≡ as_level soft) × (events_at n soft (take_here n id c).acts ≡ Mark id ∷ Clear id ∷ []))
      ⊎ ((handler_level_of id c ≢ as_level soft) × (events_at n soft (take_here n id c).acts ≡ []))
  take_cases soft = ⊎_elim
      (λ one. inl (
        one.0,
        both ∙ ap (λ es. es ++ events_at n soft (at_own n (handler_level_of id marked_cpu) (Clear id))) one.1
            ∙ ap (λ es. Mark id ∷ es) (second one.0),
      ))
      (λ away. inr (
        away.0,
        both ∙ ap (λ es. es ++ events_at n soft (at_own n (handler_level_of id marked_cpu) (Clear id))) away.1
            ∙ none away.0,
      ))
      (own_cases n (handler_level_of id c) soft (Mark id))
    where
      both : events_at n soft (take_here n id c).acts ≡ events_at n soft (at_own n (handler_level_of id c) (Mark id))
          ++ events_at n soft (at_own n (handler_level_of id marked_cpu) (Clear id))
      both = events_append n soft (at_own n (handler_level_of id c) (Mark id))
          (at_own n (handler_level_of id marked_cpu) (Clear id))

      second : handler_level_of id c ≡ as_level soft
          → events_at n soft (at_own n (handler_level_of id marked_cpu) (Clear id)) ≡ Clear id ∷ []
      second is = ⊎_elim (λ two. two.1) (λ two. absurd (two.0 (same_level
          ∙ is))) (own_cases n (handler_level_of id marked_cpu) soft (Clear id))

      none : handler_level_of id c ≢ as_level soft → events_at n soft (at_own n (handler_level_of id marked_cpu) (Clear id)) ≡ []
      none far = ⊎_elim (λ two. absurd (far (sym same_level ∙ two.0))) (λ two. two.1)
          (own_cases n (handler_level_of id marked_cpu) soft (Clear id))

  pub taken_cpu : ((take_here n id c).cpu.cyclics ≡ others id c.cyclics) × ((take_here n id c).cpu.removal ≡ c.removal)
      × ((take_here n id c).cpu.size ≡ c.size) × ((take_here n id c).cpu.online ≡ c.online)
  taken_cpu =
      let one = same_happen (at_own n (handler_level_of id c) (Mark id)) c in
      let two = same_happen (at_own n (handler_level_of id marked_cpu) (Clear id))
      (record marked_cpu { cyclics = others id marked_cpu.cyclics }) in
      (two.cyclics ∙ ap (others id) one.cyclics, two.removal ∙ one.removal, two.size ∙ one.size, two.online ∙ one.online)

  pub done_take : Whole c → c.removal ≡ None → outstanding_here id c ≡ 0 → Done n (λ j. 0) c (take_here n id c)
  done_take w free none =
      let d = take_here n id c in
      let local = local_take n id c in
      let rest : RestAt n d.acts c = λ soft. ⊎_elim
      (λ own. subst (λ es. AllRest es (level_at soft c)) (sym own.1)
      (not_marked c w free soft, ((refl, outstanding_at id c none soft), tt)))
      (λ away. subst (λ es. AllRest es (level_at soft c)) (sym away.1) tt)
      (take_cases soft) in record {
        local = local;
        rest = rest;
        whole = whole_gone n id c d w local rest taken_cpu.0 (taken_cpu.1 ∙ free) taken_cpu.2
            (λ j at. none_some (j ≡ id) j c.removal free at)
            (λ soft. ⊎_elim
            (λ own. let l = local.levels soft ∙ ap (λ es. level_after es (level_at soft c)) own.1 in
            inl (own.0, ap (λ (m : SoftLevel). m.cyclics) l, ap (λ (m : SoftLevel). m.marked) l))
            (λ away. inr (away.0, local.levels soft ∙ ap (λ es. level_after es (level_at soft c)) away.1))
            (take_cases soft));
        books = λ j. let a = count_here n c d w local rest Lock j in let b = count_here n c d w local rest Low j in
            let f = idle j Lock in let g = idle j Low in let f0 = f.0 in let f1 = f.1 in let g0 = g.0 in let g1 = g.1 in
            let k = calls_append j (at_own n (handler_level_of id c) (Mark id))
            (at_own n (handler_level_of id marked_cpu) (Clear id)) in
            let k1 = calls_own n j (handler_level_of id c) (Mark id) in let k2 = calls_own n j (handler_level_of id marked_cpu)
            (Clear id) in
            let m = losses_append j (at_own n (handler_level_of id c) (Mark id))
            (at_own n (handler_level_of id marked_cpu) (Clear id)) in
            let m1 = losses_own n j (handler_level_of id c) (Mark id) refl
            in let m2 = losses_own n j (handler_level_of id marked_cpu) (Clear id) refl in
            omega (arith, a, b, f0, f1, g0, g1, k, k1, k2, m, m1, m2);
      }
    where
      idle : (j : ℕ) (soft : Soft)
          → (all_finishes j (events_at n soft (take_here n id c).acts) (level_at soft c) ≡ 0)
          × (all_brings j (events_at n soft (take_here n id c).acts) ≡ 0)
      idle j soft = ⊎_elim
          (λ own. (ap (λ es. all_finishes j es (level_at soft c)) own.1, ap (λ es. all_brings j es) own.1))
          (λ away. (ap (λ es. all_finishes j es (level_at soft c)) away.1, ap (λ es. all_brings j es) away.1))
          (take_cases soft)

-- ---- other moments

pub moment_is : (id moment : ℕ) (x : CyclicState) → x.timer.id ≡ id → (moment_at id moment x).timer.moment ≡ moment
moment_is id moment x e = ap (λ (b : Bool). (cond b (cyclic_at moment x) x).timer.moment) (eq-eqb x.timer.id id e)

pub moment_else : (id moment : ℕ) (x : CyclicState) → x.timer.id ≢ id → moment_at id moment x ≡ x
moment_else id moment x ne = ap (λ (b : Bool). cond b (cyclic_at moment x) x) (ne_eqb x.timer.id id ne)

pub done_reprogram : (n id moment : ℕ) (c : Cpu) → Whole c → c.removal ≢ Some id → Done n (λ j. 0) c (reprogram_here id moment c)
done_reprogram n id moment c w far = record {
  local = local_reprogram n id moment c;
  rest = λ soft. tt;
  books = λ j. plain (outstanding_here j c);
  whole = whole_retimed (moment_at id moment) (moment_same id moment) c w
      (λ j y is at. ap (λ (z : CyclicState). z.timer.moment)
      (moment_else id moment y (λ same. far (is ∙ ap Some (sym (found_id j y c.cyclics at) ∙ same))))
      ∙ w.still j y is at);
}
  where
    plain : (k : ℕ) → k + 0 + 0 ≡ k + 0
    plain k = omega arith

-- ---- a removal begins

module _ (n id : ℕ) (c : Cpu) where
  abbrev unmarked_cpu : Cpu
  unmarked_cpu = record c { cyclics = map (moment_at id never) c.cyclics; removal = Some id }

  pub marked_same : ((mark_here n id c).cpu.cyclics ≡ map (moment_at id never) c.cyclics)
      × ((mark_here n id c).cpu.removal ≡ Some id)
      × ((mark_here n id c).cpu.size ≡ c.size) × ((mark_here n id c).cpu.online ≡ c.online)
  marked_same =
      let same = same_happen (at_own n (handler_level_of id c) (Mark id)) unmarked_cpu
      in (same.cyclics, same.removal, same.size, same.online)

  at_level : (j : ℕ) → handler_level_of j (mark_here n id c).cpu ≡ handler_level_of j c
  at_level j = ap (λ cs. level_found (found j cs)) marked_same.0
      ∙ retimed_level (moment_at id never) (moment_same id never) j c.cyclics

  found_there : (j : ℕ) → found j (mark_here n id c).cpu.cyclics ≡ option_map (moment_at id never) (found j c.cyclics)
  found_there j = ap (found j) marked_same.0 ∙ found_map (moment_at id never) (λ x. (moment_same id never x).0) j c.cyclics

  pub done_mark : Whole c → c.removal ≡ None → IsSome (found id c.cyclics) → Done n (λ j. 0) c (mark_here n id c)
  done_mark w free has =
      let k = handler_level_of id c in let d = mark_here n id c in
      let local = local_mark n id c in
      let rest = rest_own n k (Mark id) c (λ soft at. not_marked c w free soft) in record {
        local = local;
        rest = rest;
        books = books_own n k (Mark id) c d.cpu w local rest (λ j. refl) (λ j m. refl) (λ j. refl);
        whole = record {
          agrees = local.agrees w.agrees;
          free = free_here n c d w local rest;
          fit = fit_here n c d w local rest;
          back = λ soft j some. at_level j ∙ w.back soft j (⊎_elim
              (λ own. subst (λ (l : SoftLevel). IsSome (l.cyclics j)) own.1 some)
              (λ away. subst (λ (l : SoftLevel). IsSome (l.cyclics j)) away.1 some)
              (own_level n k (Mark id) c d.cpu local soft));
          marks = λ soft j is. ⊎_elim
              (λ own. let e : Some id ≡ Some j = sym (ap (λ (l : SoftLevel). l.marked) own.1) ∙ is in
              (marked_same.1 ∙ e, at_level j ∙ ap (λ (i : ℕ). handler_level_of i c) (sym (some_same id j e)) ∙ own.0))
              (λ away. none_some ((d.cpu.removal ≡ Some j)
              × (handler_level_of j d.cpu ≡ as_level soft)) j (level_at soft d.cpu).marked
              (ap (λ (l : SoftLevel). l.marked) away.1 ∙ not_marked c w free soft) is)
              (own_level n k (Mark id) c d.cpu local soft);
          marked = λ soft j is at. let e : Some id ≡ Some j = sym marked_same.1 ∙ is in ⊎_elim
              (λ own. ap (λ (l : SoftLevel). l.marked) own.1 ∙ e)
              (λ away. absurd (away.0 (ap (λ (i : ℕ). handler_level_of i c) (some_same id j e) ∙ sym (at_level j) ∙ at)))
              (own_level n k (Mark id) c d.cpu local soft);
          rising = subst (λ cs. Rising 0 cs) (sym marked_same.0)
              (rising_map (moment_at id never) (λ x. (moment_same id never x).0) 0 c.cyclics w.rising);
          room = let len : length d.cpu.cyclics ≡ length c.cyclics = ap length marked_same.0
              ∙ length_mapped (moment_at id never) c.cyclics in
              let was = w.room in let size = marked_same.2 in omega (arith, len, was, size);
          still = λ j y is at. let x = some_mapped (moment_at id never) (found j c.cyclics) y (sym (found_there j) ∙ at) in
              sym (ap (λ (z : CyclicState). z.timer.moment) x.2)
              ∙ moment_is id never x.0 (found_id j x.0 c.cyclics x.1 ∙ some_same j id (sym is ∙ marked_same.1));
          held = λ j is. subst (λ o. IsSome o) (sym (found_there j))
              (is_some_mapped (moment_at id never) (found j c.cyclics)
              (subst (λ (i : ℕ). IsSome (found i c.cyclics)) (some_same id j (sym marked_same.1 ∙ is)) has));
        };
      }
