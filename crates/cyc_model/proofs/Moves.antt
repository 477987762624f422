-- Whatever comes to a whole CPU and leaves it leaves it whole.
use Rattle.std.proofs.Common.{◌≡◌, ◌≢◌, ℕ, zero, suc, ◌+◌, ◌<◌, ◌≤◌, ◌==◌, ◌&&◌, Bool, true, false, cond, length, refl, ap, sym}
use Rattle.std.proofs.Common.{◌∙◌, subst, inl, inr, ⊎_elim, ◌⊎◌, pow_mono, arith}
use Rattle.std.specs.Prelude.{nat_le, nat_lt}
use Rattle.std.proofs.lemmas.Bool.{ltb-true, ltb-false, leb-true, eqb-true}
use mathlib.Core.Logic.{dite}
use native.Mathlib.Decide.{ℕ_discrete}
use Rattle.cyc_types.specs.Limits.{greatest_bank, cyclics as most_cyclics}
use Rattle.cyc_types.specs.declared.level.Soft.{Soft}
use Rattle.cyc_types.specs.declared.level.Soft.TheVariants.{Low, Lock}
use Rattle.cyc_types.specs.declared.level.Level.{Level}
use Rattle.cyc_level.specs.declared.Event.{Event}
use Rattle.cyc_level.specs.Level.{SoftLevel, bank_size, count}
use Rattle.cyc_level.specs.Events.{after}
use Rattle.cyc_model.specs.Acts.{at_own, events_at, calls_of, losses_of, loss_of}
use Rattle.cyc_model.specs.Cpu.{Cpu, Here, nothing_here}
use Rattle.cyc_model.specs.Questions.{outstanding_here, soft_has_followed}
use Rattle.cyc_model.specs.Serving.{level_at, level_after}
use Rattle.cyc_model.specs.Moving.{least_bank, bank_for, must_grow, switch_here, widen_here}
use Rattle.cyc_types.specs.Levels.{as_level}
use Rattle.cyc_types.proofs.Facts.{both_true}
use Rattle.cyc_model.proofs.Fair.{switch_events}
use Rattle.cyc_model.proofs.Local.{Local, local_widen}
use Rattle.cyc_model.proofs.Fit.{Rest, AllRest, finishes, brings, all_finishes, all_brings}
use Rattle.cyc_model.proofs.Whole.{Whole, AllSteady, RestAt, whole_resized, count_here, Done, own_cases, calls_own, losses_own}

-- ---- banks

bank_le : (more bank needed : ℕ) → least_bank more bank needed ≤ bank + more
bank_le zero bank needed = omega arith
bank_le (suc more) bank needed = by (nat_le needed (bank_size bank)) (bank_le more (bank + 1) needed)
  where
    by : (b : Bool) → least_bank more (bank + 1) needed ≤ bank + 1 + more
        → cond b bank (least_bank more (bank + 1) needed) ≤ bank + suc more
    by true rest = omega arith
    by false rest = omega (arith, rest)

bank_fits : (more bank needed : ℕ) → needed ≤ bank_size (bank + more) → needed ≤ bank_size (least_bank more bank needed)
bank_fits zero bank needed h = subst (λ k. needed ≤ bank_size k) (plus_none bank) h
  where
    plus_none : (k : ℕ) → k + 0 ≡ k
    plus_none k = omega arith
bank_fits (suc more) bank needed h = by (nat_le needed (bank_size bank)) refl
    (bank_fits more (bank + 1) needed (subst (λ k. needed ≤ bank_size k) (shift bank more) h))
  where
    shift : (k m : ℕ) → k + suc m ≡ k + 1 + m
    shift k m = omega arith

    by : (b : Bool) → nat_le needed (bank_size bank) ≡ b → needed ≤ bank_size (least_bank more (bank + 1) needed)
        → needed ≤ bank_size (cond b bank (least_bank more (bank + 1) needed))
    by true is rest = leb-true needed (bank_size bank) is
    by false is rest = rest

bank_greater : (hard needed : ℕ) → bank_size hard < needed → needed ≤ most_cyclics → hard < bank_for needed
bank_greater hard needed over most =
    let fits : needed ≤ bank_size (bank_for needed) = bank_fits greatest_bank 0 needed most in
    dite (ℕ_discrete 0 0) (λ e. by (nat_lt hard (bank_for needed)) refl fits) (λ ne. absurd (ne refl))
  where
    by : (b : Bool) → nat_lt hard (bank_for needed) ≡ b → needed ≤ bank_size (bank_for needed) → hard < bank_for needed
    by true is fits = ltb-true hard (bank_for needed) is
    by false is fits =
        let m : bank_size (bank_for needed) ≤ bank_size hard = pow_mono {i = bank_for needed} {j = hard}
        (ltb-false hard (bank_for needed) is) in
        absurd (omega (arith, over, fits, m))

-- ---- the size grows

-- there is room for so many more, where the size must grow for them
abbrev pub CanGrow : ℕ → Cpu → Type 0
CanGrow more c = must_grow more c ≡ true → (soft_has_followed c ≡ true) × (length c.cyclics + more ≤ most_cyclics)

followed_at : (c : Cpu) → soft_has_followed c ≡ true → (soft : Soft) → (level_at soft c).hard_bank ≡ (level_at soft c).soft_bank
followed_at c h Lock = eqb-true c.lock.hard_bank c.lock.soft_bank
    (both_true (c.lock.hard_bank == c.lock.soft_bank) (c.low.hard_bank == c.low.soft_bank) h).0
followed_at c h Low = eqb-true c.low.hard_bank c.low.soft_bank
    (both_true (c.lock.hard_bank == c.lock.soft_bank) (c.low.hard_bank == c.low.soft_bank) h).1

pub one_hard : (c : Cpu) → Whole c → (soft : Soft) → c.size ≡ bank_size (level_at soft c).hard_bank
one_hard c w Lock = w.agrees.size
one_hard c w Low = w.agrees.size ∙ ap bank_size (sym w.agrees.one_bank)

module _ (n more : ℕ) (c : Cpu) (w : Whole c) where
  widened : Bool → Here
  widened b = cond b (switch_here n (bank_for (length c.cyclics + more)) c) (nothing_here c)

  widen_rest : (b : Bool) → must_grow more c ≡ b → CanGrow more c → RestAt n (widened b).acts c
  unfolding widened
  widen_rest true is can soft =
      let over : c.size < length c.cyclics + more = ltb-true c.size (length c.cyclics + more) is in
      let h = can is in
      subst (λ es. AllRest es (level_at soft c)) (sym (switch_events n (bank_for (length c.cyclics + more)) soft)) (
        (
          followed_at c h.0 soft,
          bank_greater (level_at soft c).hard_bank (length c.cyclics
              + more) (subst (λ k. k < length c.cyclics + more) (one_hard c w soft) over) h.1,
          bank_le greatest_bank 0 (length c.cyclics + more),
        ),
        tt,
      )
  widen_rest false is can soft = tt

  widen_room : (b : Bool) → must_grow more c ≡ b → CanGrow more c → length c.cyclics + more ≤ (widened b).cpu.size
  unfolding widened
  widen_room true is can = bank_fits greatest_bank 0 (length c.cyclics + more) (can is).1
  widen_room false is can = ltb-false c.size (length c.cyclics + more) is

  widen_same : (b : Bool) → ((widened b).cpu.cyclics ≡ c.cyclics) × ((widened b).cpu.removal ≡ c.removal)
      × ((widened b).cpu.online ≡ c.online)
  unfolding widened
  widen_same true = (refl, refl, refl)
  widen_same false = (refl, refl, refl)

  widen_steady : (b : Bool) (soft : Soft) → AllSteady (events_at n soft (widened b).acts)
  unfolding widened
  widen_steady true soft = subst (λ es. AllSteady es) (sym (switch_events n (bank_for (length c.cyclics + more)) soft)) (tt, tt)
  widen_steady false soft = tt

  widen_idle : (b : Bool) (j : ℕ) (soft : Soft)
      → (all_finishes j (events_at n soft (widened b).acts) (level_at soft c) ≡ 0)
      × (all_brings j (events_at n soft (widened b).acts) ≡ 0)
      × (calls_of j (widened b).acts ≡ 0) × (losses_of j (widened b).acts ≡ 0)
  unfolding widened
  widen_idle true j soft = (
    ap (λ es. all_finishes j es (level_at soft c)) (switch_events n (bank_for (length c.cyclics + more)) soft),
    ap (λ es. all_brings j es) (switch_events n (bank_for (length c.cyclics + more)) soft),
    refl,
    refl,
  )
  widen_idle false j soft = (refl, refl, refl, refl)

  pub widened_cpu : ((widen_here n more c).cpu.cyclics ≡ c.cyclics) × ((widen_here n more c).cpu.removal ≡ c.removal)
      × ((widen_here n more c).cpu.online ≡ c.online)
  unfolding widened
  widened_cpu = widen_same (must_grow more c)

  pub widened_room : CanGrow more c → length c.cyclics + more ≤ (widen_here n more c).cpu.size
  unfolding widened
  widened_room can = widen_room (must_grow more c) refl can

  pub widened_losses : (j : ℕ) → losses_of j (widen_here n more c).acts ≡ 0
  unfolding widened
  widened_losses j = (widen_idle (must_grow more c) j Low).3

  pub widened_calls : (j : ℕ) → calls_of j (widen_here n more c).acts ≡ 0
  unfolding widened
  widened_calls j = (widen_idle (must_grow more c) j Low).2

  pub done_widen : CanGrow more c → Done n (λ j. 0) c (widen_here n more c)
  unfolding widened
  done_widen can =
      let d = widen_here n more c in
      let local = local_widen n more c in
      let rest : RestAt n d.acts c = widen_rest (must_grow more c) refl can in
      let fits = widened_room can in record {
        local = local;
        rest = rest;
        whole = whole_resized n c d w local rest widened_cpu.0 widened_cpu.1 (omega (arith, fits))
            (widen_steady (must_grow more c));
        books = λ j. let a = count_here n c d w local rest Lock j in let b = count_here n c d w local rest Low j in
            let i = widen_idle (must_grow more c) j Lock in let k = widen_idle (must_grow more c) j Low in
            books_of j d a b i k;
      }
    where
      books_of : (j : ℕ) (d : Here)
          → count d.cpu.lock j + all_finishes j (events_at n Lock d.acts) c.lock
          ≡ count c.lock j + all_brings j (events_at n Lock d.acts)
          → count d.cpu.low j + all_finishes j (events_at n Low d.acts) c.low
          ≡ count c.low j + all_brings j (events_at n Low d.acts)
          → (all_finishes j (events_at n Lock d.acts) c.lock ≡ 0) × (all_brings j (events_at n Lock d.acts) ≡ 0)
          × (calls_of j d.acts ≡ 0) × (losses_of j d.acts ≡ 0)
          → (all_finishes j (events_at n Low d.acts) c.low ≡ 0) × (all_brings j (events_at n Low d.acts) ≡ 0)
          × (calls_of j d.acts ≡ 0) × (losses_of j d.acts ≡ 0)
          → outstanding_here j d.cpu + calls_of j d.acts + losses_of j d.acts ≡ outstanding_here j c + 0
      books_of j d a b i k =
          let i0 = i.0 in let i1 = i.1 in let k0 = k.0 in let k1 = k.1 in let k2 = k.2 in let k3 = k.3 in
          omega (arith, a, b, i0, i1, k0, k1, k2, k3)

-- ---- one event of a cyclic at its level

module _ (n : ℕ) (k : Level) (e : Event) where
  pub rest_own : (c : Cpu) → ((soft : Soft) → k ≡ as_level soft → Rest e (level_at soft c)) → RestAt n (at_own n k e) c
  rest_own c h soft = ⊎_elim
      (λ one. subst (λ es. AllRest es (level_at soft c)) (sym one.1) (h soft one.0, tt))
      (λ none. subst (λ es. AllRest es (level_at soft c)) (sym none.1) tt)
      (own_cases n k soft e)

  own_idle : (c : Cpu) (j : ℕ) → brings j e ≡ 0 → ((m : SoftLevel) → finishes j e m ≡ 0) → (soft : Soft)
      → (all_finishes j (events_at n soft (at_own n k e)) (level_at soft c) ≡ 0)
      × (all_brings j (events_at n soft (at_own n k e)) ≡ 0)
  own_idle c j none never_done soft = ⊎_elim
      (λ one. (
        ap (λ es. all_finishes j es (level_at soft c)) one.1 ∙ ap (λ (m : ℕ). m + 0) (never_done (level_at soft c)),
        ap (λ es. all_brings j es) one.1 ∙ ap (λ (m : ℕ). m + 0) none,
      ))
      (λ away. (ap (λ es. all_finishes j es (level_at soft c)) away.1, ap (λ es. all_brings j es) away.1))
      (own_cases n k soft e)

  -- a level is what the event makes of it, or as it was
  pub own_level : (c p : Cpu) → Local n c (record { acts = at_own n k e; cpu = p }) → (soft : Soft)
      → ((k ≡ as_level soft) × (level_at soft p ≡ after e (level_at soft c)))
      ⊎ ((k ≢ as_level soft) × (level_at soft p ≡ level_at soft c))
  own_level c p local soft = ⊎_elim
      (λ one. inl (one.0, local.levels soft ∙ ap (λ es. level_after es (level_at soft c)) one.1))
      (λ away. inr (away.0, local.levels soft ∙ ap (λ es. level_after es (level_at soft c)) away.1))
      (own_cases n k soft e)

  pub books_own : (c p : Cpu) → Whole c → Local n c (record { acts = at_own n k e; cpu = p }) → RestAt n (at_own n k e) c
      → ((j : ℕ) → brings j e ≡ 0) → ((j : ℕ) (m : SoftLevel) → finishes j e m ≡ 0) → ((j : ℕ) → loss_of j e ≡ 0)
      → (j : ℕ) → outstanding_here j p + calls_of j (at_own n k e) + losses_of j (at_own n k e) ≡ outstanding_here j c + 0
  books_own c p w local rest none never_done kept j =
      let d : Here = record { acts = at_own n k e; cpu = p } in
      let a = count_here n c d w local rest Lock j in let b = count_here n c d w local rest Low j in
      let f = own_idle c j (none j) (never_done j) Lock in let g = own_idle c j (none j) (never_done j) Low in
      let f0 = f.0 in let f1 = f.1 in let g0 = g.0 in let g1 = g.1 in
      let h = calls_own n j k e in let i = losses_own n j k e (kept j) in omega (arith, a, b, f0, f1, g0, g1, h, i)
