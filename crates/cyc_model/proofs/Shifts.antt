-- What a call on a CPU does with the counts of its cyclics.
use Rattle.std.proofs.Common.{◌≡◌, ◌≢◌, ℕ, ◌+◌, ◌<◌, ◌≤◌, ◌==◌, eq-eqb, ne_eqb, Bool, true, false, cond, List, Option, Some, None}
use Rattle.std.proofs.Common.{refl, ap, sym, ◌∙◌, arith, length}
use Rattle.std.specs.Option.{option_map}
use mathlib.Core.Logic.{dite}
use native.Mathlib.Decide.{ℕ_discrete}
use Rattle.cyc_types.specs.Series.{never}
use Rattle.cyc_types.specs.declared.level.Soft.{Soft}
use Rattle.cyc_level.specs.declared.Event.TheVariants.{Admit, Mark, Clear}
use Rattle.cyc_level.specs.Lawful.{IsId}
use Rattle.cyc_types.specs.Expirations.{Expiration, times_of, after_expirations}
use Rattle.cyc_model.specs.Acts.{Act, at_own, losses_of, loss_of}
use Rattle.cyc_model.specs.Cpu.{CyclicState, Cpu, Here, handler_level_of, others}
use Rattle.cyc_model.specs.Firing.{due_here, fired_cyclic, fire_here}
use Rattle.cyc_model.specs.Serving.{level_at, serve, serve_here}
use Rattle.cyc_model.specs.Moving.{widen_here, put_in, place_here, enter_here, take_here, moment_at, reprogram_here, mark_here}
use Rattle.cyc_model.specs.Moving.{clear_here}
use Rattle.cyc_model.proofs.Agreement.{acts_of_serve, moment_same, fired_same}
use Rattle.cyc_model.proofs.Rising.{found, found_id, found_map, put_same, put_other, found_gone, found_others, of_found}
use Rattle.cyc_model.proofs.Rising.{times_found, due_of_found}
use Rattle.cyc_model.proofs.Whole.{Whole, Done, none_outstanding, losses_own, losses_append}
use Rattle.cyc_model.proofs.Fires.{fired_cyclics}
use Rattle.cyc_model.proofs.Serves.{same_serve, no_losses}
use Rattle.cyc_model.proofs.Moves.{CanGrow, widened_cpu, widened_losses}
use Rattle.cyc_model.proofs.Stays.{entered_cyclics, placed_cyclics, cleared_cpu}
use Rattle.cyc_model.proofs.Leaves.{marked_cpu, taken_cpu, marked_same}
use Rattle.cyc_model.proofs.Totals.{carried, expired_of, lost_of}

-- the counts of the CPU's cyclics, with the one on its way before and after
pub record Shift (way to : Option CyclicState) (made : ℕ → ℕ) (c : Cpu) (d : Here) : Type 0 where
  pub expired : (id : ℕ) → of_found expired_of (found id d.cpu.cyclics) + carried expired_of id to
      ≡ of_found expired_of (found id c.cyclics) + carried expired_of id way + made id
  pub lost : (id : ℕ) → of_found lost_of (found id d.cpu.cyclics) + carried lost_of id to
      ≡ of_found lost_of (found id c.cyclics) + carried lost_of id way + losses_of id d.acts

of_mapped : (g : CyclicState → ℕ) (f : CyclicState → CyclicState) → ((x : CyclicState) → g (f x) ≡ g x) → (o : Option CyclicState)
    → of_found g (option_map f o) ≡ of_found g o
of_mapped g f same None = refl
of_mapped g f same (Some x) = same x

-- the cyclics are the same, but for their moments
shift_mapped : (f : CyclicState → CyclicState) → ((x : CyclicState) → expired_of (f x) ≡ expired_of x)
    → ((x : CyclicState) → lost_of (f x) ≡ lost_of x)
    → (way : Option CyclicState) (c : Cpu) (d : Here) → ((id : ℕ) → found id d.cpu.cyclics ≡ option_map f (found id c.cyclics))
    → ((id : ℕ) → losses_of id d.acts ≡ 0) → Shift way way (λ j. 0) c d
shift_mapped f expired lost way c d same none = record {
  expired = λ id. let a = ap (of_found expired_of) (same id) ∙ of_mapped expired_of f expired (found id c.cyclics)
      in omega (arith, a);
  lost = λ id. let a = ap (of_found lost_of) (same id) ∙ of_mapped lost_of f lost (found id c.cyclics) in let z = none id
      in omega (arith, a, z);
}

pub shift_same : (way : Option CyclicState) (c : Cpu) (d : Here) → d.cpu.cyclics ≡ c.cyclics → ((id : ℕ)
    → losses_of id d.acts ≡ 0)
    → Shift way way (λ j. 0) c d
shift_same way c d same none = record {
  expired = λ id. let a = ap (λ cs. of_found expired_of (found id cs)) same in omega (arith, a);
  lost = λ id. let a = ap (λ cs. of_found lost_of (found id cs)) same in let z = none id in omega (arith, a, z);
}

pub shift_serve : (way : Option CyclicState) (n : ℕ) (soft : Soft) (budget : ℕ) (c : Cpu)
    → Shift way way (λ j. 0) c (serve_here n soft budget c)
shift_serve way n soft budget c = shift_same way c (serve_here n soft budget c) (same_serve n budget soft c).cyclics
    (λ id. no_losses id (serve n soft budget (level_at soft c)).acts
    (acts_of_serve (λ e. loss_of id e ≡ 0) refl refl refl n soft budget (level_at soft c)))

moment_counts : (id moment : ℕ) (x : CyclicState) → (expired_of (moment_at id moment x) ≡ expired_of x)
    × (lost_of (moment_at id moment x) ≡ lost_of x)
moment_counts id moment x = by (x.timer.id == id)
  where
    by : (b : Bool) → (expired_of (cond b (record x { timer = record x.timer { moment = moment } }) x) ≡ expired_of x)
        × (lost_of (cond b (record x { timer = record x.timer { moment = moment } }) x) ≡ lost_of x)
    by true = (refl, refl)
    by false = (refl, refl)

pub shift_reprogram : (way : Option CyclicState) (id moment : ℕ) (c : Cpu) → Shift way way (λ j. 0) c (reprogram_here id moment c)
shift_reprogram way id moment c = shift_mapped (moment_at id moment) (λ x. (moment_counts id moment x).0)
    (λ x. (moment_counts id moment x).1)
    way c (reprogram_here id moment c) (λ j. found_map (moment_at id moment) (λ x. (moment_same id moment x).0) j c.cyclics)
    (λ j. refl)

pub shift_mark : (way : Option CyclicState) (n id : ℕ) (c : Cpu) → Shift way way (λ j. 0) c (mark_here n id c)
shift_mark way n id c = shift_mapped (moment_at id never) (λ x. (moment_counts id never x).0) (λ x. (moment_counts id never x).1)
    way c (mark_here n id c)
    (λ j. ap (found j) (marked_same n id c).0 ∙ found_map (moment_at id never) (λ x. (moment_same id never x).0) j c.cyclics)
    (λ j. losses_own n j (handler_level_of id c) (Mark id) refl)

-- ---- a cyclic leaves

left_of : (g : CyclicState → ℕ) (id j : ℕ) (cs : List CyclicState)
    → of_found g (found j (others id cs)) + carried g j (found id cs) ≡ of_found g (found j cs)
left_of g id j cs = dite (ℕ_discrete j id)
    (λ e. let a = ap (of_found g) (ap (λ (k : ℕ). found k (others id cs)) e ∙ found_gone id cs) in
    let b = here (found id cs) refl in
    let d = ap (λ (k : ℕ). of_found g (found k cs)) e in
    let f = ap (λ (k : ℕ). carried g k (found id cs)) e in omega (arith, a, b, d, f))
    (λ ne. let a = ap (of_found g) (found_others j id cs ne) in
    let b = elsewhere (found id cs) refl ne in omega (arith, a, b))
  where
    here : (o : Option CyclicState) → found id cs ≡ o → carried g id o ≡ of_found g o
    here None is = refl
    here (Some x) is = ap (λ (b : Bool). cond b (g x) 0) (eq-eqb x.timer.id id (found_id id x cs is))

    elsewhere : (o : Option CyclicState) → found id cs ≡ o → j ≢ id → carried g j o ≡ 0
    elsewhere None is ne = refl
    elsewhere (Some x) is ne = ap (λ (b : Bool). cond b (g x) 0) (ne_eqb x.timer.id j (λ e. ne (sym e ∙ found_id id x cs is)))

shift_left : (id : ℕ) (c : Cpu) (d : Here) → d.cpu.cyclics ≡ others id c.cyclics → ((j : ℕ) → losses_of j d.acts ≡ 0)
    → Shift None (found id c.cyclics) (λ j. 0) c d
shift_left id c d gone none = record {
  expired = λ j. let a = ap (λ cs. of_found expired_of (found j cs)) gone in let b = left_of expired_of id j c.cyclics
      in omega (arith, a, b);
  lost = λ j. let a = ap (λ cs. of_found lost_of (found j cs)) gone in let b = left_of lost_of id j c.cyclics in
      let z = none j in omega (arith, a, b, z);
}

pub shift_clear : (n id : ℕ) (c : Cpu) → Shift None (found id c.cyclics) (λ j. 0) c (clear_here n id c)
shift_clear n id c = shift_left id c (clear_here n id c) (cleared_cpu n id c).0
    (λ j. losses_own n j (handler_level_of id c) (Clear id) refl)

pub take_losses : (n id : ℕ) (c : Cpu) (j : ℕ) → losses_of j (take_here n id c).acts ≡ 0
take_losses n id c j =
    let a = losses_append j (at_own n (handler_level_of id c) (Mark id))
    (at_own n (handler_level_of id (marked_cpu n id c)) (Clear id)) in
    let b = losses_own n j (handler_level_of id c) (Mark id) refl in
    let d = losses_own n j (handler_level_of id (marked_cpu n id c)) (Clear id) refl in omega (arith, a, b, d)

pub shift_take : (n id : ℕ) (c : Cpu) → Shift None (found id c.cyclics) (λ j. 0) c (take_here n id c)
shift_take n id c = shift_left id c (take_here n id c) (taken_cpu n id c).0 (take_losses n id c)

-- ---- a cyclic comes

come_to : (g : CyclicState → ℕ) (x : CyclicState) (j : ℕ) (cs : List CyclicState) → found x.timer.id cs ≡ None
    → of_found g (found j (put_in x cs)) ≡ of_found g (found j cs) + carried g j (Some x)
come_to g x j cs new = dite (ℕ_discrete x.timer.id j)
    (λ e. let none : found j cs ≡ None = ap (λ (k : ℕ). found k cs) (sym e) ∙ new in
    let a = ap (of_found g) (put_same j x cs e none) in let b = ap (of_found g) none in
    let d : carried g j (Some x) ≡ g x = ap (λ (b : Bool). cond b (g x) 0) (eq-eqb x.timer.id j e) in omega (arith, a, b, d))
    (λ ne. let a = ap (of_found g) (put_other j x cs ne) in
    let d : carried g j (Some x) ≡ 0 = ap (λ (b : Bool). cond b (g x) 0) (ne_eqb x.timer.id j ne) in omega (arith, a, d))

shift_come : (x : CyclicState) (c : Cpu) (d : Here) → d.cpu.cyclics ≡ put_in x c.cyclics → found x.timer.id c.cyclics ≡ None
    → ((j : ℕ) → losses_of j d.acts ≡ 0) → Shift (Some x) None (λ j. 0) c d
shift_come x c d same new none = record {
  expired = λ j. let a = ap (λ cs. of_found expired_of (found j cs)) same in let b = come_to expired_of x j c.cyclics new
      in omega (arith, a, b);
  lost = λ j. let a = ap (λ cs. of_found lost_of (found j cs)) same in let b = come_to lost_of x j c.cyclics new in
      let z = none j in omega (arith, a, b, z);
}

pub shift_place : (n index : ℕ) (x : CyclicState) (c : Cpu) → Whole c → IsId x.timer.id → found x.timer.id c.cyclics ≡ None
    → length c.cyclics + 1 ≤ c.size → Shift (Some x) None (λ j. 0) c (place_here n index x c)
shift_place n index x c w is_id new fits = shift_come x c (place_here n index x c) (placed_cyclics n index x c w is_id new fits)
    new
    (λ j. losses_own n j x.timer.level (Admit x.timer.id index) refl)

pub enter_losses : (n index : ℕ) (x : CyclicState) (c : Cpu) → Whole c → (j : ℕ) → losses_of j (enter_here n index x c).acts ≡ 0
enter_losses n index x c w j =
    let a = losses_append j (widen_here n 1 c).acts (at_own n x.timer.level (Admit x.timer.id index)) in
    let b = widened_losses n 1 c w j in
    let d = losses_own n j x.timer.level (Admit x.timer.id index) refl in omega (arith, a, b, d)

pub shift_enter : (n index : ℕ) (x : CyclicState) (c : Cpu) → Whole c → IsId x.timer.id → found x.timer.id c.cyclics ≡ None
    → CanGrow 1 c → Shift (Some x) None (λ j. 0) c (enter_here n index x c)
shift_enter n index x c w is_id new can = shift_come x c (enter_here n index x c) (entered_cyclics n index x c w is_id new can)
    new
    (enter_losses n index x c w)

pub shift_widen : (way : Option CyclicState) (n more : ℕ) (c : Cpu) → Whole c → Shift way way (λ j. 0) c (widen_here n more c)
shift_widen way n more c w = shift_same way c (widen_here n more c) (widened_cpu n more c w).0
    (widened_losses n more c w)

-- ---- a fire

fired_counts : (now : ℕ) (made : List Expiration) (acts : List Act) (id : ℕ) (o : Option CyclicState)
    → ((x : CyclicState) → o ≡ Some x → x.timer.id ≡ id) → (o ≡ None → (times_of id made ≡ 0) × (losses_of id acts ≡ 0))
    → (of_found expired_of (option_map (fired_cyclic now made acts) o) ≡ of_found expired_of o + times_of id made)
    × (of_found lost_of (option_map (fired_cyclic now made acts) o) ≡ of_found lost_of o + losses_of id acts)
unfolding after_expirations
fired_counts now made acts id None is none = let z = none refl in let a = z.0 in let b = z.1
    in (omega (arith, a), omega (arith, b))
fired_counts now made acts id (Some x) is none =
    (ap (λ (k : ℕ). x.timer.expired + times_of k made) (is x refl), ap (λ (k : ℕ). x.lost + losses_of k acts) (is x refl))

pub shift_fire : (n now : ℕ) (c : Cpu) → Whole c → now < never → Done n (λ j. times_of j (due_here now c)) c (fire_here n now c)
    → Shift None None (λ j. times_of j (due_here now c)) c (fire_here n now c)
shift_fire n now c w before done = record {
  expired = λ id. let a = ap (of_found expired_of) (same id) in let b = (counts id).0 in omega (arith, a, b);
  lost = λ id. let a = ap (of_found lost_of) (same id) in let b = (counts id).1 in omega (arith, a, b);
}
  where
    same : (id : ℕ) → found id (fire_here n now c).cpu.cyclics
        ≡ option_map (fired_cyclic now (due_here now c) (fire_here n now c).acts) (found id c.cyclics)
    same id = ap (found id) (fired_cyclics n now c w before)
        ∙ found_map (fired_cyclic now (due_here now c) (fire_here n now c).acts)
        (λ x. (fired_same now (due_here now c) (fire_here n now c).acts x).0) id c.cyclics

    counts : (id : ℕ)
        → (of_found expired_of (option_map (fired_cyclic now (due_here now c) (fire_here n now c).acts) (found id c.cyclics))
        ≡ of_found expired_of (found id c.cyclics) + times_of id (due_here now c))
        × (of_found lost_of (option_map (fired_cyclic now (due_here now c) (fire_here n now c).acts) (found id c.cyclics))
        ≡ of_found lost_of (found id c.cyclics) + losses_of id (fire_here n now c).acts)
    counts id = fired_counts now (due_here now c) (fire_here n now c).acts id (found id c.cyclics)
        (λ x is. found_id id x c.cyclics is)
        (λ none. let t : times_of id (due_here now c) ≡ 0 = times_found now 0 id c.cyclics w.rising
        ∙ ap (due_of_found now) none in
        let b = done.books id in let z = none_outstanding id c w none in
        (t, omega (arith, t, b, z)))
