-- remove and the polls of open removals keep a machine good.
use Rattle.std.proofs.Common.{◌≡◌, ◌≢◌, ℕ, ◌+◌, ◌<◌, ◌==◌, eqb-true, Bool, true, false, List, [], ◌∷◌, length, Option, Some, None}
use Rattle.std.proofs.Common.{refl, ap, sym, ◌∙◌, subst, inl, inr, ⊎_elim, ◌⊎◌, arith}
use Rattle.std.specs.Prelude.{IsSome, is_some, not}
use Rattle.std.specs.Option.{option_map}
use mathlib.Core.Logic.{dite}
use native.Mathlib.Decide.{ℕ_discrete}
use Rattle.cyc_types.specs.Series.{never}
use Rattle.cyc_level.proofs.Maps.{none_some}
use Rattle.cyc_model.specs.Cpu.{Cpu, has_cyclic, handler_level_of, others}
use Rattle.cyc_model.specs.Moving.{mark_here, clear_here, moment_at}
use Rattle.cyc_model.specs.Questions.{plain, outstanding_here}
use Rattle.cyc_model.specs.State.{State, On, OnAll, Placed, on_number, cpu_of, nothing, cpus_having}
use Rattle.cyc_model.specs.Places.{placement_of, forgotten}
use Rattle.cyc_model.specs.Remove.{clear, clear_if, poll, begin}
use Rattle.cyc_model.proofs.Agreement.{moment_same}
use Rattle.cyc_model.proofs.Local.{local_mark, local_clear}
use Rattle.cyc_model.proofs.Given.{rise_filter}
use Rattle.cyc_model.proofs.Rising.{found, found_map, found_gone, found_others, any_found}
use Rattle.cyc_model.proofs.Stays.{none_and_some, cleared_cpu, done_clear}
use Rattle.cyc_model.proofs.Leaves.{marked_same, done_mark}
use Rattle.cyc_model.proofs.Shifts.{shift_mark, shift_clear}
use Rattle.cyc_model.proofs.Placing.{entry, placement_forgotten, placement_forgotten_other}
use Rattle.cyc_model.proofs.Base.{IsAt, Base, IsGone, goes_append, goes_nothing, goes_on, base_on, cpu_there, cpu_elsewhere}
use Rattle.cyc_model.proofs.Base.{expired_on, lost_on, pending_on}
use Rattle.cyc_model.proofs.Numbers.{Has, has_or_not, numbers_rise, numbers_pass, pass_numbers, Looped, looped}
use Rattle.cyc_model.proofs.Numbers as turns
use Rattle.cyc_model.proofs.Spread.{Stands, Good, has_number, found_or_not}
use Rattle.cyc_model.proofs.Ending.{ended_goes, ended_base, ended_there, ended_elsewhere, ended_placed, ended_counts}
use Rattle.cyc_model.proofs.Travels.{counts_same}
use Rattle.cyc_model.proofs.Totals.{expired_in, lost_in, pending_in}
use Rattle.cyc_model.proofs.Whole.{Done, calls_own, losses_own}
use Rattle.cyc_model.specs.Acts.{calls_of, losses_of}
use Rattle.cyc_model.specs.Report.{counts_of}
use Rattle.cyc_level.specs.declared.Event.TheVariants.{Mark, Clear}

some_mapped : {A B : Type 0} (f : A → B) (o : Option A) → is_some (option_map f o) ≡ is_some o
some_mapped f None = refl
some_mapped f (Some x) = refl

-- what a part of a removal does on a CPU
pub record Begun (id : ℕ) (c d : Cpu) : Type 0 where
  pub either : ((found id d.cyclics ≡ None) × (d.removal ≡ None)) ⊎ (IsSome (found id d.cyclics) × (d.removal ≡ Some id))
  pub others : (j : ℕ) → j ≢ id → is_some (found j d.cyclics) ≡ is_some (found j c.cyclics)
  pub less : IsSome (found id d.cyclics) → IsSome (found id c.cyclics)
  pub online : d.online ≡ c.online

-- and keeps of the machine
pub record Steady (r s : State) : Type 0 where
  pub base : Base None s
  pub placed : s.placed ≡ r.placed
  pub last_id : s.last_id ≡ r.last_id
  pub counts : (j : ℕ) → counts_of j s ≡ counts_of j r

pub same_counts : (j : ℕ) (t s : State) → (expired_in j t ≡ expired_in j s) × (t.called j ≡ s.called j) × (lost_in j t
    ≡ lost_in j s)
    × (pending_in j t ≡ pending_in j s) → counts_of j t ≡ counts_of j s
same_counts j t s k = counts_same (expired_in j t) (t.called j) (lost_in j t) (pending_in j t)
    (expired_in j s) (s.called j) (lost_in j s) (pending_in j s) k.0 k.1 k.2 k.3

-- a removal that begins on a CPU changes no count
module _ (n id : ℕ) (s : State) (within : n < length s.cpus) (b : Base None s) (done : Done n (λ j. 0) (cpu_of n s)
    (mark_here n id (cpu_of n s))) where
  marked_counts : (j : ℕ) → (expired_in j (on_number n (mark_here n id) s).state ≡ expired_in j s)
      × ((on_number n (mark_here n id) s).state.called j ≡ s.called j)
      × (lost_in j (on_number n (mark_here n id) s).state ≡ lost_in j s)
      × (pending_in j (on_number n (mark_here n id) s).state ≡ pending_in j s)
  marked_counts j =
      let c = cpu_of n s in let t = (on_number n (mark_here n id) s).state in
      let e = expired_on n (mark_here n id) (λ k. 0) s within done None None b (shift_mark None n id c) j in
      let l = lost_on n (mark_here n id) (λ k. 0) s within done None None b (shift_mark None n id c) j in
      let p = pending_on n (mark_here n id) (λ k. 0) s within done j in
      let a = calls_own n j (handler_level_of id c) (Mark id) in
      let m = losses_own n j (handler_level_of id c) (Mark id) refl in (
        same_plain (expired_in j t) (expired_in j s) e,
        plus (s.called j) (calls_of j (mark_here n id c).acts) a,
        same_lost (lost_in j t) (lost_in j s) (losses_of j (mark_here n id c).acts) l m,
        same_pending (pending_in j t) (pending_in j s) (calls_of j (mark_here n id c).acts) (losses_of j
            (mark_here n id c).acts) p a m,
      )
    where
      same_plain : (a c : ℕ) → a + 0 ≡ c + 0 + 0 → a ≡ c
      same_plain a c h = omega (arith, h)

      plus : (a c : ℕ) → c ≡ 0 → a + c ≡ a
      plus a c h = omega (arith, h)

      same_lost : (a c m : ℕ) → a + 0 ≡ c + 0 + m → m ≡ 0 → a ≡ c
      same_lost a c m h i = omega (arith, h, i)

      same_pending : (a q c m : ℕ) → a + c + m ≡ q + 0 → c ≡ 0 → m ≡ 0 → a ≡ q
      same_pending a q c m h i k = omega (arith, h, i, k)

-- ---- the stay of the cyclic ends on a CPU

module _ (r : State) (id n : ℕ) (s : State) (within : n < length s.cpus) (inv : Steady r s) where
  clear_turn : (cpu_of n s).removal ≡ Some id → outstanding_here id (cpu_of n s) ≡ 0
      → turns.Turned (λ m c d. Begun id c d) (Steady r) n s (clear id n s)
  clear_turn is none =
      let c = cpu_of n s in let b = inv.base in
      let done = done_clear n id c (b.whole n) is none in
      let shift = shift_clear n id c in
      let gone : (j : ℕ) → found j (clear_here n id c).cpu.cyclics
      ≡ found j (others id c.cyclics) = λ j. ap (found j) (cleared_cpu n id c).0 in
      let less : (j : ℕ) → IsSome (found j (clear_here n id c).cpu.cyclics) → IsSome (found j c.cyclics) =
      λ j some. dite (ℕ_discrete j id)
      (λ e. none_and_some (IsSome (found j c.cyclics)) (found j (clear_here n id c).cpu.cyclics)
      (gone j ∙ ap (λ (k : ℕ). found k (others id c.cyclics)) e ∙ found_gone id c.cyclics) some)
      (λ ne. subst (λ o. IsSome o) (gone j ∙ found_others j id c.cyclics ne) some) in
      let there = ended_there n id (clear_here n id) s within b done shift less (local_clear n id) in
      let placed = ended_placed n id (clear_here n id) s within b done shift less (local_clear n id) in
      let k = λ (j : ℕ). ended_counts n id (clear_here n id) s within b done shift less (local_clear n id) j
      (calls_own n j (handler_level_of id c) (Clear id)) (losses_own n j (handler_level_of id c) (Clear id) refl) in record {
        goes = ended_goes n id (clear_here n id) s within b done shift less (local_clear n id);
        inv = record {
          base = ended_base n id (clear_here n id) s within b done shift less (local_clear n id);
          placed = placed.0 ∙ inv.placed;
          last_id = placed.1 ∙ inv.last_id;
          counts = λ j. same_counts j (clear id n s).state s (k j) ∙ inv.counts j;
        };
        own = subst (λ d. Begun id c d) (sym there) (record {
          either = inl (gone id ∙ found_gone id c.cyclics, (cleared_cpu n id c).1);
          others = λ j ne. ap is_some (gone j ∙ found_others j id c.cyclics ne);
          less = less id;
          online = (cleared_cpu n id c).3;
        });
        others = ended_elsewhere n id (clear_here n id) s within b done shift less (local_clear n id);
      }

  nothing_turn : IsSome (found id (cpu_of n s).cyclics) → (cpu_of n s).removal ≡ Some id
      → turns.Turned (λ m c d. Begun id c d) (Steady r) n s (nothing s)
  nothing_turn some is = record {
    goes = goes_nothing s s refl refl (λ j h. h);
    inv = inv;
    own = record { either = inr (some, is); others = λ j ne. refl; less = λ h. h; online = refl };
    others = λ m ne. refl;
  }

  pub poll_turn : (cpu_of n s).removal ≡ Some id → turns.Turned (λ m c d. Begun id c d) (Steady r) n s (poll plain id n s)
  poll_turn is = by (outstanding_here id (cpu_of n s) == 0) refl
    where
      by : (b : Bool) → (outstanding_here id (cpu_of n s) == 0) ≡ b
          → turns.Turned (λ m c d. Begun id c d) (Steady r) n s (clear_if b id n s)
      by true e = clear_turn is (eqb-true (outstanding_here id (cpu_of n s)) 0 e)
      by false e = nothing_turn ((inv.base.whole n).held id is) is

begun_then : (id : ℕ) (c d e : Cpu) → ((j : ℕ) → is_some (found j d.cyclics) ≡ is_some (found j c.cyclics))
    → d.online ≡ c.online → Begun id d e → Begun id c e
begun_then id c d e ids online b = record {
  either = b.either;
  others = λ j ne. b.others j ne ∙ ids j;
  less = λ some. sym (ids id) ∙ b.less some;
  online = b.online ∙ online;
}

-- the removal begins on a CPU
pub begin_turn : (r : State) (id n : ℕ) (s : State) → n < length s.cpus → Steady r s
    → ((cpu_of n s).removal ≡ None) × IsSome (found id (cpu_of n s).cyclics)
    → turns.Turned (λ m c d. Begun id c d) (Steady r) n s (begin plain id n s)
begin_turn r id n s within inv ready =
    let c = cpu_of n s in let b = inv.base in
    let done = done_mark n id c (b.whole n) ready.0 ready.1 in
    let ids : (j : ℕ) → is_some (found j (mark_here n id c).cpu.cyclics) ≡ is_some (found j c.cyclics) =
    λ j. ap is_some (ap (found j) (marked_same n id c).0 ∙ found_map (moment_at id never) (λ x. (moment_same id never x).0) j
    c.cyclics)
    ∙ some_mapped (moment_at id never) (found j c.cyclics) in
    let t = (on_number n (mark_here n id) s).state in
    let there = cpu_there n (mark_here n id) (λ j. 0) s within done in
    let elsewhere = cpu_elsewhere n (mark_here n id) (λ j. 0) s within done in
    let goes = goes_on n (mark_here n id) (λ j. 0) s within done None b (local_mark n id) (λ j none. refl) in
    let base = base_on n (mark_here n id) (λ j. 0) s within done None None b (shift_mark None n id c)
    (λ j some. b.homes n j (sym (ids j) ∙ some)) in
    let two = poll_turn r id n t (subst (λ k. n < k) (sym goes.tells.as_many) within)
    (record {
      base = base;
      placed = inv.placed;
      last_id = inv.last_id;
      counts = λ j. same_counts j t s (marked_counts n id s within b done j) ∙ inv.counts j;
    })
    (ap (λ (d : Cpu). d.removal) there ∙ (marked_same n id c).1) in record {
      goes = goes_append (on_number n (mark_here n id) s).acts (poll plain id n t).acts s t (poll plain id n t).state goes
          two.goes;
      inv = two.inv;
      own = begun_then id c (cpu_of n t) (cpu_of n (poll plain id n t).state)
          (λ j. ap (λ (d : Cpu). is_some (found j d.cyclics)) there ∙ ids j)
          (ap (λ (d : Cpu). d.online) there ∙ (marked_same n id c).3) two.own;
      others = λ m ne. two.others m ne ∙ elsewhere m ne;
    }

-- ---- the machine in which a removal has come as far as it can

pub record Removing (id : ℕ) (s t : State) : Type 0 where
  pub steady : Steady s t
  pub as_many : length t.cpus ≡ length s.cpus
  pub others : (j : ℕ) → j ≢ id → (m : ℕ) → is_some (found j (cpu_of m t).cyclics) ≡ is_some (found j (cpu_of m s).cyclics)
  pub less : (m : ℕ) → IsSome (found id (cpu_of m t).cyclics) → IsSome (found id (cpu_of m s).cyclics)
  pub leaving : (m : ℕ) → IsSome (found id (cpu_of m t).cyclics) → (cpu_of m t).removal ≡ Some id
  pub online : (m : ℕ) → (cpu_of m t).online ≡ (cpu_of m s).online
  pub opened : (j : ℕ) → j ≢ id → (m : ℕ) → (cpu_of m t).removal ≡ Some j → (cpu_of m s).removal ≡ Some j
  pub stays : (j : ℕ) → j ≢ id → (m : ℕ) → (cpu_of m s).removal ≡ Some j → (cpu_of m t).removal ≡ Some j

module _ (id : ℕ) (s t : State) (g : Good s) (h : Removing id s t) where
  stands_else : (j : ℕ) → j ≢ id → Stands j s → Stands j t
  stands_else j ne = ⊎_elim
      (λ full. inl ((λ m on_. h.others j ne m ∙ full.0 m (sym (h.online m) ∙ on_)), (λ m is. full.1 m (h.opened j ne m is))))
      (λ leave. inr (
        (λ m some. h.stays j ne m (leave.0 m (sym (h.others j ne m) ∙ some))),
        (
          leave.1.0,
          h.others j ne leave.1.0
              ∙ leave.1.1,
        ),
      ))

  there_after : (m j : ℕ) → IsSome (found j (cpu_of m t).cyclics) → (cpu_of m t).online ≡ true
  there_after m j some = h.online m ∙ g.spread.there m j (dite (ℕ_discrete j id)
      (λ e. subst (λ k. IsSome (found k (cpu_of m s).cyclics)) (sym e)
      (h.less m (subst (λ k. IsSome (found k (cpu_of m t).cyclics)) e some)))
      (λ ne. sym (h.others j ne m) ∙ some))

  placement_after : (j : ℕ) → placement_of j t ≡ placement_of j s
  placement_after j = ap (λ ps. option_map (λ (p : Placed). p.placement) (entry j ps)) h.steady.placed

  -- where a CPU still has the cyclic
  pub good_kept : (k : ℕ) → IsSome (found id (cpu_of k t).cyclics) → Good t
  good_kept k some = record {
    base = h.steady.base;
    spread = record {
      some = (
        g.spread.some.0,
        subst (λ m. g.spread.some.0 < m) (sym h.as_many) g.spread.some.1,
        h.online g.spread.some.0
            ∙ g.spread.some.2,
      );
      there = there_after;
      home = λ j m bound is. dite (ℕ_discrete j id)
          (λ e. let at = h.steady.base.homes k id some in
          let same : placement_of id t ≡ Some (On m bound) = ap (λ (i : ℕ). placement_of i t) (sym e) ∙ is in
          let k_is : m ≡ k = subst (λ o. IsAt k o) same at in
          subst (λ i. IsSome (found i (cpu_of m t).cyclics)) (sym e)
          (subst (λ i. IsSome (found id (cpu_of i t).cyclics)) (sym k_is) some))
          (λ ne. h.others j ne m ∙ g.spread.home j m bound (sym (placement_after j) ∙ is));
      stands = λ j e is. dite (ℕ_discrete j id)
          (λ q. subst (λ i. Stands i t) (sym q) (inr (h.leaving, (k, some))))
          (λ ne. stands_else j ne (g.spread.stands j e (sym (placement_after j) ∙ is)));
    };
  }

  -- and where none has it any more
  pub good_answered : ((m : ℕ) → found id (cpu_of m t).cyclics ≡ None) → Good (forgotten id t)
  good_answered away = record {
    base = record {
      whole = h.steady.base.whole;
      homes = λ m j some. dite (ℕ_discrete j id)
          (λ e. none_and_some (IsAt m (placement_of j (forgotten id t))) (found j (cpu_of m t).cyclics)
          (ap (λ (k : ℕ). found k (cpu_of m t).cyclics) e ∙ away m) some)
          (λ ne. subst (λ o. IsAt m o) (sym (placement_forgotten_other id j t ne)) (h.steady.base.homes m j some));
      rise = rise_filter (λ p. not (p.id == id)) 0 t.last_id t.placed h.steady.base.rise;
      few = h.steady.base.few;
      books = h.steady.base.books;
    };
    spread = record {
      some = (
        g.spread.some.0,
        subst (λ m. g.spread.some.0 < m) (sym h.as_many) g.spread.some.1,
        h.online g.spread.some.0
            ∙ g.spread.some.2,
      );
      there = there_after;
      home = λ j m bound is. dite (ℕ_discrete j id)
          (λ e. none_some (IsSome (found j (cpu_of m t).cyclics)) (On m bound) (placement_of j (forgotten id t))
          (ap (λ (k : ℕ). placement_of k (forgotten id t)) e ∙ placement_forgotten id t) is)
          (λ ne. h.others j ne m ∙ g.spread.home j m bound (sym (placement_after j) ∙ sym (placement_forgotten_other id j t ne)
          ∙ is));
      stands = λ j e is. dite (ℕ_discrete j id)
          (λ q. none_some (Stands j (forgotten id t)) (OnAll e) (placement_of j (forgotten id t))
          (ap (λ (k : ℕ). placement_of k (forgotten id t)) q ∙ placement_forgotten id t) is)
          (λ ne. stands_else j ne (g.spread.stands j e (sym (placement_after j) ∙ sym (placement_forgotten_other id j t ne)
          ∙ is)));
    };
  }

pub forgotten_gone : (id j : ℕ) (t : State) → IsGone j t → IsGone j (forgotten id t)
forgotten_gone id j t gone = (
  gone.0,
  dite (ℕ_discrete j id)
      (λ e. ap (λ (k : ℕ). placement_of k (forgotten id t)) e ∙ placement_forgotten id t)
      (λ ne. placement_forgotten_other id j t ne ∙ gone.1),
)

-- the CPUs that have the cyclic
pub none_with : (id : ℕ) (t : State) → cpus_having id t ≡ [] → (m : ℕ) → found id (cpu_of m t).cyclics ≡ None
none_with id t none m = ⊎_elim
    (λ some. absurd (subst (λ ns. Has m ns) none
    (pass_numbers (has_cyclic id) m t (has_number t m id some) (any_found id (cpu_of m t).cyclics ∙ some))))
    (λ away. away) (found_or_not id (cpu_of m t))

pub first_with : (id n : ℕ) (ns : List ℕ) (t : State) → cpus_having id t ≡ n ∷ ns → IsSome (found id (cpu_of n t).cyclics)
first_with id n ns t is =
    sym (any_found id (cpu_of n t).cyclics) ∙ (numbers_pass (has_cyclic id) n t (subst (λ ks. Has n ks) (sym is) (inl refl))).1
