-- A cyclic moves from one CPU to another, and nothing of it is lost.
use Rattle.std.proofs.Common.{◌≡◌, ◌≢◌, ℕ, ◌+◌, ◌<◌, Bool, true, false, List, [], ◌∷◌, map, length, Option, Some}
use Rattle.std.proofs.Common.{None, refl, ap, sym, ◌∙◌, subst, arith}
use Rattle.std.specs.Prelude.{IsSome, is_some}
use mathlib.Core.Logic.{dite}
use native.Mathlib.Decide.{ℕ_discrete}
use Rattle.cyc_level.specs.declared.Event.TheVariants.{Admit, Mark, Clear}
use Rattle.cyc_level.specs.Lawful.{IsId}
use Rattle.cyc_level.proofs.Maps.{some_of, none_some}
use Rattle.cyc_text.specs.declared.lines.Counts.{Counts}
use Rattle.cyc_model.specs.Acts.{at_own, calls_of, losses_of}
use Rattle.cyc_model.specs.Cpu.{CyclicState, Cpu, cyclic_with_id, handler_level_of}
use Rattle.cyc_model.specs.Questions.{outstanding_here}
use Rattle.cyc_model.specs.Moving.{take_here, enter_here, widen_here}
use Rattle.cyc_model.specs.State.{State, Outcome, Placement, On, OnAll, Placed, on_number, cpu_of, followed_by}
use Rattle.cyc_model.specs.Places.{placement_of, put_at, replaced, home_of, home_at, is_bound, is_placed_everywhere}
use Rattle.cyc_model.specs.Add.{enter}
use Rattle.cyc_model.specs.Bind.{bring, move}
use Rattle.cyc_model.specs.Kept.{Kept}
use Rattle.cyc_model.proofs.Events.{calls_append}
use Rattle.cyc_model.proofs.Local.{local_take}
use Rattle.cyc_model.proofs.Given.{rise_map, replaced_id}
use Rattle.cyc_model.proofs.Rising.{found, found_id, put_same, found_gone, found_others}
use Rattle.cyc_model.proofs.Whole.{Done, calls_own}
use Rattle.cyc_model.proofs.Moves.{CanGrow, widened_calls}
use Rattle.cyc_model.proofs.Stays.{none_and_some}
use Rattle.cyc_model.proofs.Leaves.{marked_cpu, done_take, taken_cpu}
use Rattle.cyc_model.proofs.Totals.{carried, expired_of, lost_of, expired_in, lost_in, pending_in}
use Rattle.cyc_model.proofs.Shifts.{Shift, shift_take, shift_enter, take_losses, enter_losses}
use Rattle.cyc_model.proofs.Placing.{placement_put_same, placement_put_other, placement_known}
use Rattle.cyc_model.proofs.Base.{IsAt, Base, IsGone, Goes, goes_append, goes_from, goes_on, base_on, cpu_there, cpu_elsewhere}
use Rattle.cyc_model.proofs.Base.{expired_on, lost_on, pending_on}
use Rattle.cyc_model.proofs.Spread.{Spread, Good, stands_still, is_there}
use Rattle.cyc_model.proofs.Enters.{enter_goes, enter_base, enter_there, enter_elsewhere, enter_same, enter_removal}
use Rattle.cyc_model.proofs.Enters.{enter_online, done_there}

-- ---- what is kept

abbrev pub as_counts : ℕ → ℕ → ℕ → ℕ → Counts
as_counts a b c d = record { expired = a; called = b; lost = c; pending = d }

pub counts_same : (a b c d e f g h : ℕ) → a ≡ e → b ≡ f → c ≡ g → d ≡ h → as_counts a b c d ≡ as_counts e f g h
counts_same a b c d e f g h p q r s =
    ap (λ (x : ℕ). as_counts x b c d) p ∙ ap (λ (x : ℕ). as_counts e x c d) q
    ∙ ap (λ (x : ℕ). as_counts e f x d) r ∙ ap (λ (x : ℕ). as_counts e f g x) s

pub kept_refl : (s : State) → Kept s s
kept_refl s = record { ids = refl; cyclics = λ id single. (single, refl); counts = λ id. refl }

pub kept_clock : (now : ℕ) (s : State) → Kept s (record s { clock = now })
kept_clock now s = record { ids = refl; cyclics = λ id single. (single, refl); counts = λ id. refl }

pub kept_then : (s t u : State) → Kept s t → Kept t u → Kept s u
kept_then s t u one two = record {
  ids = two.ids ∙ one.ids;
  cyclics = λ id single. let a = one.cyclics id single in let b = two.cyclics id a.0 in (b.0, b.1 ∙ a.1);
  counts = λ id. two.counts id ∙ one.counts id;
}

replaced_ids : (id : ℕ) (placement : Placement) (ps : List Placed)
    → map (λ p. p.id) (map (replaced id placement) ps) ≡ map (λ p. p.id) ps
replaced_ids id placement [] = refl
replaced_ids id placement (p ∷ ps) =
    ap (λ (k : ℕ). k ∷ map (λ (q : Placed). q.id) (map (replaced id placement) ps)) (replaced_id id placement p)
    ∙ ap (λ ns. p.id ∷ ns) (replaced_ids id placement ps)

-- it is put down as on the CPU where it is already
pub kept_put : (id n : ℕ) (bound was : Bool) (s : State) → placement_of id s ≡ Some (On n was) → Kept s (put_at id (On n bound) s)
kept_put id n bound was s at = record {
  ids = replaced_ids id (On n bound) s.placed;
  cyclics = λ j single. dite (ℕ_discrete j id)
      (λ e. let here = ap (λ (k : ℕ). placement_of k (put_at id (On n bound) s)) e
      ∙ placement_put_same id (On n bound) s (On n was) at in
      let there = ap (λ (k : ℕ). placement_of k s) e ∙ at in (
        ap is_placed_everywhere here,
        ap (λ o. cyclic_with_id j (cpu_of (home_at o) s)) (here ∙ by)
            ∙ sym (ap (λ o. cyclic_with_id j (cpu_of (home_at o) s)) there),
      ))
      (λ ne. let same = placement_put_other id j (On n bound) s ne in
      (ap is_placed_everywhere same ∙ single, ap (λ o. cyclic_with_id j (cpu_of (home_at o) s)) same));
  counts = λ j. refl;
}
  where
    by : Some (On n bound) ≡ Some (On n bound)
    by = refl

-- ---- a move

-- what a move comes to
pub record Moved (id target : ℕ) (s : State) (o : Outcome) : Type 0 where
  pub goes : Goes o.acts s o.state
  pub good : Good o.state
  pub kept : Kept s o.state
  pub removal : (m : ℕ) → (cpu_of m o.state).removal ≡ (cpu_of m s).removal
  pub online : (m : ℕ) → (cpu_of m o.state).online ≡ (cpu_of m s).online
  pub others : (j : ℕ) → j ≢ id → (m : ℕ) → found j (cpu_of m o.state).cyclics ≡ found j (cpu_of m s).cyclics
  pub placement : (bound : Bool) × (placement_of id o.state ≡ Some (On target bound))
  pub places : (j : ℕ) → j ≢ id → placement_of j o.state ≡ placement_of j s

module _ (indexes : ℕ → ℕ) (id source target : ℕ) (s : State) (g : Good s) (bound : Bool) (at : placement_of id s
    ≡ Some (On source bound))
    (apart : target ≢ source) (within : target < length s.cpus) (online : (cpu_of target s).online ≡ true)
    (free : (cpu_of source s).removal ≡ None) (none : outstanding_here id (cpu_of source s)
    ≡ 0) (can : CanGrow 1 (cpu_of target s)) where
  here : source < length s.cpus
  here = is_there s g.spread id source bound at

  taken : Done source (λ j. 0) (cpu_of source s) (take_here source id (cpu_of source s))
  taken = done_take source id (cpu_of source s) (g.base.whole source) free none

  abbrev t1 : State
  t1 = (on_number source (take_here source id) s).state

  abbrev t2 : State
  t2 = put_at id (On target (is_bound id t1)) t1

  source1 : (cpu_of source t1) ≡ (take_here source id (cpu_of source s)).cpu
  source1 = cpu_there source (take_here source id) (λ j. 0) s here taken

  other1 : (m : ℕ) → m ≢ source → cpu_of m t1 ≡ cpu_of m s
  other1 m ne = cpu_elsewhere source (take_here source id) (λ j. 0) s here taken m ne

  removal1 : (m : ℕ) → (cpu_of m t1).removal ≡ (cpu_of m s).removal
  removal1 m = dite (ℕ_discrete m source)
      (λ e. subst (λ k. (cpu_of k t1).removal ≡ (cpu_of k s).removal) (sym e)
      (ap (λ (c : Cpu). c.removal) source1 ∙ (taken_cpu source id (cpu_of source s)).1))
      (λ ne. ap (λ (c : Cpu). c.removal) (other1 m ne))

  online1 : (m : ℕ) → (cpu_of m t1).online ≡ (cpu_of m s).online
  online1 m = dite (ℕ_discrete m source)
      (λ e. subst (λ k. (cpu_of k t1).online ≡ (cpu_of k s).online) (sym e)
      (ap (λ (c : Cpu). c.online) source1 ∙ (taken_cpu source id (cpu_of source s)).3))
      (λ ne. ap (λ (c : Cpu). c.online) (other1 m ne))

  same1 : (j : ℕ) → j ≢ id → (m : ℕ) → found j (cpu_of m t1).cyclics ≡ found j (cpu_of m s).cyclics
  same1 j ne m = dite (ℕ_discrete m source)
      (λ e. subst (λ k. found j (cpu_of k t1).cyclics ≡ found j (cpu_of k s).cyclics) (sym e)
      (ap (λ (c : Cpu). found j c.cyclics) source1 ∙ ap (found j) (taken_cpu source id (cpu_of source s)).0
      ∙ found_others j id (cpu_of source s).cyclics ne))
      (λ far. ap (λ (c : Cpu). found j c.cyclics) (other1 m far))

  -- the cyclic is on no CPU
  away1 : (m : ℕ) → found id (cpu_of m t1).cyclics ≡ None
  away1 m = dite (ℕ_discrete m source)
      (λ e. subst (λ k. found id (cpu_of k t1).cyclics ≡ None) (sym e)
      (ap (λ (c : Cpu). found id c.cyclics) source1 ∙ ap (found id) (taken_cpu source id (cpu_of source s)).0
      ∙ found_gone id (cpu_of source s).cyclics))
      (λ ne. by (found id (cpu_of m t1).cyclics) refl (λ some. ne (sym (subst (λ o. IsAt m o) at
      (g.base.homes m id (subst (λ (c : Cpu). IsSome (found id c.cyclics)) (other1 m ne) some))))))
    where
      by : (o : Option CyclicState) → found id (cpu_of m t1).cyclics ≡ o → (IsSome (found id (cpu_of m t1).cyclics) → ⊥)
          → found id (cpu_of m t1).cyclics ≡ None
      by None is never_some = is
      by (Some x) is never_some = absurd (never_some (ap is_some is))

  goes1 : Goes (on_number source (take_here source id) s).acts s t1
  goes1 = goes_on source (take_here source id) (λ j. 0) s here taken None g.base (local_take source id) (λ j no. refl)

  placement1 : placement_of id t2 ≡ Some (On target (is_bound id t1))
  placement1 = placement_put_same id (On target (is_bound id t1)) t1 (On source bound) at

  gone1 : (j : ℕ) → IsGone j t1 → IsGone j t2
  gone1 j gone = (
    gone.0,
    placement_put_other id j (On target (is_bound id t1)) t1
        (λ e. none_some ⊥ (On source bound) (placement_of j t1) gone.1 (ap (λ (k : ℕ). placement_of k t1) e ∙ at)) ∙ gone.1,
  )

  module _ (x : CyclicState) (is : found id (cpu_of source s).cyclics ≡ Some x) where
    x_id : x.timer.id ≡ id
    x_id = found_id id x (cpu_of source s).cyclics is

    shift1 : Shift None (Some x) (λ j. 0) (cpu_of source s) (take_here source id (cpu_of source s))
    shift1 = subst (λ o. Shift None o (λ j. 0) (cpu_of source s) (take_here source id (cpu_of source s))) is
        (shift_take source id (cpu_of source s))

    base1 : Base (Some x) t1
    base1 = base_on source (take_here source id) (λ j. 0) s here taken None (Some x) g.base shift1
        (λ j some. dite (ℕ_discrete j id)
        (λ e. none_and_some (IsAt source (placement_of j s)) (found j (take_here source id (cpu_of source s)).cpu.cyclics)
        (ap (λ (k : ℕ). found k (take_here source id (cpu_of source s)).cpu.cyclics) e
        ∙ ap (found id) (taken_cpu source id (cpu_of source s)).0 ∙ found_gone id (cpu_of source s).cyclics) some)
        (λ ne. g.base.homes source j (subst (λ o. IsSome o) (ap (found j) (taken_cpu source id (cpu_of source s)).0
        ∙ found_others j id (cpu_of source s).cyclics ne) some)))

    base2 : Base (Some x) t2
    base2 = record {
      whole = base1.whole;
      homes = λ m j some. dite (ℕ_discrete j id)
          (λ e. none_and_some (IsAt m (placement_of j t2)) (found j (cpu_of m t1).cyclics)
          (ap (λ (k : ℕ). found k (cpu_of m t1).cyclics) e ∙ away1 m) some)
          (λ ne. subst (λ o. IsAt m o) (sym (placement_put_other id j (On target (is_bound id t1)) t1 ne))
          (base1.homes m j some));
      rise = rise_map 0 s.last_id id (On target (is_bound id t1)) s.placed g.base.rise;
      few = g.base.few;
      books = base1.books;
    }

    within2 : target < length t2.cpus
    within2 = subst (λ k. target < k) (sym goes1.tells.as_many) within

    new2 : found x.timer.id (cpu_of target t2).cyclics ≡ None
    new2 = ap (λ (k : ℕ). found k (cpu_of target t1).cyclics) x_id ∙ away1 target

    is_id2 : IsId x.timer.id
    is_id2 = let k = placement_known id s (On source bound) g.base.rise at in let few = g.base.few in
        let a = k.0 in let b = k.1 in let e = x_id in (omega (arith, a, e), omega (arith, b, few, e))

    can2 : CanGrow 1 (cpu_of target t2)
    can2 = subst (λ c. CanGrow 1 c) (sym (other1 target apart)) can

    at2 : IsAt target (placement_of x.timer.id t2)
    at2 = subst (λ o. IsAt target o) (sym (ap (λ (k : ℕ). placement_of k t2) x_id ∙ placement1)) refl

    abbrev t3 : State
    t3 = (enter indexes target x t2).state

    far : (j : ℕ) → j ≢ id → j ≢ x.timer.id
    far j ne e = ne (e ∙ x_id)

    others3 : (j : ℕ) → j ≢ id → (m : ℕ) → found j (cpu_of m t3).cyclics ≡ found j (cpu_of m s).cyclics
    others3 j ne m = enter_same indexes target x t2 within2 base2 new2 is_id2 can2 at2 j (far j ne) m ∙ same1 j ne m

    removal3 : (m : ℕ) → (cpu_of m t3).removal ≡ (cpu_of m s).removal
    removal3 m = enter_removal indexes target x t2 within2 base2 new2 is_id2 can2 at2 m ∙ removal1 m

    online3 : (m : ℕ) → (cpu_of m t3).online ≡ (cpu_of m s).online
    online3 m = enter_online indexes target x t2 within2 base2 new2 is_id2 can2 at2 m ∙ online1 m

    places3 : (j : ℕ) → j ≢ id → placement_of j t3 ≡ placement_of j s
    places3 j ne = placement_put_other id j (On target (is_bound id t1)) t1 ne

    found3 : found id (cpu_of target t3).cyclics ≡ Some x
    found3 = ap (λ cs. found id cs) (enter_there indexes target x t2 within2 base2 new2 is_id2 can2 at2).0
        ∙ put_same id x (cpu_of target t2).cyclics x_id (away1 target)

    -- only the target has it
    only3 : (m : ℕ) → m ≢ target → found id (cpu_of m t3).cyclics ≡ None
    only3 m ne = ap (λ (c : Cpu). found id c.cyclics)
        (enter_elsewhere indexes target x t2 within2 base2 new2 is_id2 can2 at2 m ne) ∙ away1 m

    spread3 : Spread t3
    spread3 = record {
      some = (
        target,
        subst (λ k. target < k) (sym (enter_goes indexes target x t2 within2 base2 new2 is_id2 can2 at2).tells.as_many) within2,
        online3 target ∙ online,
      );
      there = λ m j some. dite (ℕ_discrete j id)
          (λ e. dite (ℕ_discrete m target)
          (λ q. ap (λ (k : ℕ). (cpu_of k t3).online) q ∙ online3 target ∙ online)
          (λ ne. none_and_some ((cpu_of m t3).online ≡ true) (found j (cpu_of m t3).cyclics)
          (ap (λ (k : ℕ). found k (cpu_of m t3).cyclics) e ∙ only3 m ne) some))
          (λ ne. online3 m ∙ g.spread.there m j (subst (λ o. IsSome o) (others3 j ne m) some));
      home = λ j m b is_on. dite (ℕ_discrete j id)
          (λ e. let same : Some (On target (is_bound id t1)) ≡ Some (On m b) = sym
          (ap (λ (k : ℕ). placement_of k t2) e ∙ placement1)
          ∙ is_on in
          subst (λ k. IsSome (found j (cpu_of k t3).cyclics)) (ap (λ o. home_at o) same)
          (ap is_some (ap (λ (k : ℕ). found k (cpu_of target t3).cyclics) e ∙ found3)))
          (λ ne. subst (λ o. IsSome o) (sym (others3 j ne m)) (g.spread.home j m b (sym (places3 j ne) ∙ is_on)));
      stands = λ j e is_all. dite (ℕ_discrete j id)
          (λ q. absurd (let no : Some (On target (is_bound id t1))
          ≡ Some (OnAll e) = sym (ap (λ (k : ℕ). placement_of k t2) q ∙ placement1) ∙ is_all in
          let no2 : false ≡ true = ap is_placed_everywhere no in cc))
          (λ ne. stands_still j s t3 (record { ids = λ m. ap is_some (others3 j ne m); removal = removal3; online = online3 })
          (g.spread.stands j e (sym (places3 j ne) ∙ is_all)));
    }

    kept3 : Kept s t3
    kept3 =
        let entered = done_there indexes target x t2 within2 base2 new2 is_id2 can2 at2 in
        let shift2 = shift_enter target (indexes t2.admissions) x (cpu_of target t2) (base2.whole target) is_id2 new2 can2
        in record {
          ids = replaced_ids id (On target (is_bound id t1)) s.placed;
          cyclics = λ j single. dite (ℕ_discrete j id)
              (λ e. let now = ap (λ (k : ℕ). placement_of k t2) e ∙ placement1 in let was = ap (λ (k : ℕ). placement_of k s) e
              ∙ at in (
                ap is_placed_everywhere now,
                ap (λ o. found j (cpu_of (home_at o) t3).cyclics) now ∙ ap (λ (k : ℕ). found k (cpu_of target t3).cyclics) e
                    ∙ found3
                    ∙ sym is ∙ ap (λ (k : ℕ). found k (cpu_of source s).cyclics) (sym e)
                    ∙ ap (λ o. found j (cpu_of (home_at o) s).cyclics) (sym was),
              ))
              (λ ne. let same = places3 j ne in (
                ap is_placed_everywhere same ∙ single,
                ap (λ o. found j (cpu_of (home_at o) t3).cyclics) same ∙ others3 j ne (home_of j s),
              ));
          counts = λ j.
              let e1 = expired_on source (take_here source id) (λ k. 0) s here taken None (Some x) g.base shift1 j in
              let e2 = expired_on target (enter_here target (indexes t2.admissions) x) (λ k. 0) t2 within2 entered (Some x) None
              base2 shift2 j in
              let l1 = lost_on source (take_here source id) (λ k. 0) s here taken None (Some x) g.base shift1 j in
              let l2 = lost_on target (enter_here target (indexes t2.admissions) x) (λ k. 0) t2 within2 entered (Some x) None
              base2 shift2 j in
              let p1 = pending_on source (take_here source id) (λ k. 0) s here taken j in
              let p2 = pending_on target (enter_here target (indexes t2.admissions) x) (λ k. 0) t2 within2 entered j in
              let z1 = take_losses source id (cpu_of source s) j in
              let z2 = enter_losses target (indexes t2.admissions) x (cpu_of target t2) (base2.whole target) j in
              let c1 = take_calls j in
              let c2 = enter_calls j in
              counts_same (expired_in j t3) (t3.called j) (lost_in j t3) (pending_in j t3)
              (expired_in j s) (s.called j) (lost_in j s) (pending_in j s)
              (same_expired (expired_in j s) (expired_in j t1) (expired_in j t3) (carried expired_of j (Some x)) e1 e2)
              (omega (arith, c1, c2))
              (same_lost (lost_in j s) (lost_in j t1) (lost_in j t3) (carried lost_of j (Some x))
              (losses_of j (take_here source id (cpu_of source s)).acts)
              (losses_of j (enter_here target (indexes t2.admissions) x (cpu_of target t2)).acts) l1 l2 z1 z2)
              (same_pending (pending_in j s) (pending_in j t1) (pending_in j t3)
              (calls_of j (take_here source id (cpu_of source s)).acts)
              (losses_of j (take_here source id (cpu_of source s)).acts)
              (calls_of j (enter_here target (indexes t2.admissions) x (cpu_of target t2)).acts)
              (losses_of j (enter_here target (indexes t2.admissions) x (cpu_of target t2)).acts) p1 p2 c1 c2 z1 z2);
        }
      where
        take_calls : (j : ℕ) → calls_of j (take_here source id (cpu_of source s)).acts ≡ 0
        take_calls j =
            let c = cpu_of source s in
            let a = calls_append j (at_own source (handler_level_of id c) (Mark id))
            (at_own source (handler_level_of id (marked_cpu source id c)) (Clear id)) in
            let b = calls_own source j (handler_level_of id c) (Mark id) in
            let d = calls_own source j (handler_level_of id (marked_cpu source id c)) (Clear id) in omega (arith, a, b, d)

        enter_calls : (j : ℕ) → calls_of j (enter_here target (indexes t2.admissions) x (cpu_of target t2)).acts ≡ 0
        enter_calls j =
            let c = cpu_of target t2 in
            let a = calls_append j (widen_here target 1 c).acts
            (at_own target x.timer.level (Admit x.timer.id (indexes t2.admissions))) in
            let b = widened_calls target 1 c (base2.whole target) j in
            let d = calls_own target j x.timer.level (Admit x.timer.id (indexes t2.admissions)) in omega (arith, a, b, d)

        same_expired : (e e1 e3 x1 : ℕ) → e1 + x1 ≡ e + 0 + 0 → e3 + 0 ≡ e1 + x1 + 0 → e3 ≡ e
        same_expired e e1 e3 x1 a b = omega (arith, a, b)

        same_lost : (l l1 l3 x1 m1 m2 : ℕ) → l1 + x1 ≡ l + 0 + m1 → l3 + 0 ≡ l1 + x1 + m2 → m1 ≡ 0 → m2 ≡ 0 → l3 ≡ l
        same_lost l l1 l3 x1 m1 m2 a b c d = omega (arith, a, b, c, d)

        same_pending : (p p1 p3 c1 m1 c2 m2 : ℕ) → p1 + c1 + m1 ≡ p + 0 → p3 + c2 + m2 ≡ p1 + 0 → c1 ≡ 0 → c2 ≡ 0 → m1 ≡ 0
            → m2 ≡ 0 → p3 ≡ p
        same_pending p p1 p3 c1 m1 c2 m2 a b c d e f = omega (arith, a, b, c, d, e, f)

    brought : Moved id target s (followed_by (on_number source (take_here source id) s)
        (λ t. bring indexes target (Some x) (put_at id (On target (is_bound id t)) t)))
    brought = record {
      goes = goes_append (on_number source (take_here source id) s).acts (enter indexes target x t2).acts s t1 t3 goes1
          (goes_from (enter indexes target x t2).acts t1 t2 t3
          (enter_goes indexes target x t2 within2 base2 new2 is_id2 can2 at2) refl refl gone1);
      good = record { base = enter_base indexes target x t2 within2 base2 new2 is_id2 can2 at2; spread = spread3 };
      kept = kept3;
      removal = removal3;
      online = online3;
      others = others3;
      placement = (is_bound id t1, placement1);
      places = places3;
    }

  pub moved : Moved id target s (move indexes id source target s)
  moved =
      let x = some_of (found id (cpu_of source s).cyclics) (g.spread.home id source bound at) in
      subst (λ o. Moved id target s (followed_by (on_number source (take_here source id) s)
      (λ t. bring indexes target o (put_at id (On target (is_bound id t)) t)))) (sym x.1) (brought x.0 x.1)
