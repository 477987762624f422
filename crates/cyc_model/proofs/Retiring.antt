-- offline keeps a machine good, and loses nothing.
use Rattle.std.proofs.Common.{◌≡◌, ◌≢◌, ℕ, ◌+◌, ◌<◌, Bool, true, false, List, [], ◌∷◌, map, length, Option, Some, None, refl, ap}
use Rattle.std.proofs.Common.{sym, ◌∙◌, subst, inl, inr, ⊎_elim, arith}
use Rattle.std.specs.Prelude.{IsSome, not, nat_lt}
use Rattle.std.proofs.lemmas.Bool.{ltb-false}
use mathlib.Core.Logic.{dite}
use native.Mathlib.Decide.{ℕ_discrete}
use Rattle.std.specs.Option.{option_map}
use Rattle.cyc_types.specs.declared.level.Soft.{Soft}
use Rattle.cyc_types.specs.declared.level.Soft.TheVariants.{Low, Lock}
use Rattle.cyc_level.specs.Level.{SoftLevel}
use Rattle.cyc_level.specs.declared.Event.TheVariants.{Mark, Clear}
use Rattle.cyc_level.proofs.Maps.{none_some}
use Rattle.cyc_model.specs.Acts.{at_own, calls_of}
use Rattle.cyc_model.specs.Cpu.{Cpu, Here, cyclic_with_id, handler_level_of, nothing_here, others}
use Rattle.cyc_model.specs.Moving.{take_here}
use Rattle.cyc_model.specs.Questions.{plain, outstanding_here}
use Rattle.cyc_model.specs.Serving.{level_at}
use Rattle.cyc_model.specs.State.{State, Outcome, Placement, On, OnAll, Placed, on_number, cpu_of, each}
use Rattle.cyc_model.specs.Places.{placement_of, home_at, is_omni, is_placed_everywhere}
use Rattle.cyc_model.specs.Report.{counts_of}
use Rattle.cyc_model.specs.Juggle.{juggled, single_ids_of}
use Rattle.cyc_model.specs.Offline.{ids_of_cpu, retire, go_offline, retire_all, any_pending, last_part, leaving, offline_refusal}
use Rattle.cyc_model.specs.Offline.{offline}
use Rattle.cyc_model.specs.Kept.{Kept}
use Rattle.cyc_model.proofs.Events.{calls_append}
use Rattle.cyc_model.proofs.Local.{local_take, local_nothing, same_low_lock}
use Rattle.cyc_model.proofs.Agreement.{agrees_with}
use Rattle.cyc_model.proofs.Rising.{found, found_gone, found_others}
use Rattle.cyc_model.proofs.Fit.{Fit}
use Rattle.cyc_model.proofs.Whole.{Whole, Done, calls_own}
use Rattle.cyc_model.proofs.Stays.{none_and_some}
use Rattle.cyc_model.proofs.Leaves.{marked_cpu, done_take, taken_cpu}
use Rattle.cyc_model.proofs.Totals.{expired_in, lost_in, pending_in}
use Rattle.cyc_model.proofs.Shifts.{Shift, shift_take, shift_same, take_losses}
use Rattle.cyc_model.proofs.Placing.{entry}
use Rattle.cyc_model.proofs.Base.{Base, Goes, goes_append, goes_nothing, goes_on, base_on, cpu_there, cpu_elsewhere, expired_on}
use Rattle.cyc_model.proofs.Base.{lost_on, pending_on, gone_away}
use Rattle.cyc_model.proofs.Numbers.{Has}
use Rattle.cyc_model.proofs.Refusing.{neither}
use Rattle.cyc_model.proofs.Spread.{Spread, Good}
use Rattle.cyc_model.proofs.Ending.{ended_goes, ended_base, ended_there, ended_elsewhere, ended_placed, ended_counts}
use Rattle.cyc_model.proofs.Travels.{counts_same, kept_then}
use Rattle.cyc_model.proofs.Juggling.{Safe, ids_in, ids_have, filtering, juggling}

-- the same counts of every id
abbrev pub SameCounts : State → State → Type 0
SameCounts s t = (j : ℕ) → counts_of j t ≡ counts_of j s

pub record Retired (n : ℕ) (ids : List ℕ) (s : State) (o : Outcome) : Type 0 where
  pub goes : Goes o.acts s o.state
  pub base : Base None o.state
  pub placed : o.state.placed ≡ s.placed
  pub less : (j : ℕ) → IsSome (found j (cpu_of n o.state).cyclics) → IsSome (found j (cpu_of n s).cyclics) × (Has j ids → ⊥)
  pub removal : (cpu_of n o.state).removal ≡ None
  pub elsewhere : (m : ℕ) → m ≢ n → cpu_of m o.state ≡ cpu_of m s
  pub counts : SameCounts s o.state

take_calls : (n id j : ℕ) (c : Cpu) → calls_of j (take_here n id c).acts ≡ 0
take_calls n id j c =
    let a = calls_append j (at_own n (handler_level_of id c) (Mark id))
    (at_own n (handler_level_of id (marked_cpu n id c)) (Clear id)) in
    let b = calls_own n j (handler_level_of id c) (Mark id) in
    let d = calls_own n j (handler_level_of id (marked_cpu n id c)) (Clear id) in omega (arith, a, b, d)

retired : (n : ℕ) (ids : List ℕ) (s : State) → n < length s.cpus → Base None s → (cpu_of n s).removal ≡ None
    → ((j : ℕ) → Has j ids → outstanding_here j (cpu_of n s) ≡ 0) → Retired n ids s (each (retire n) ids s)
retired n [] s within b free idle = record {
  goes = goes_nothing s s refl refl (λ j h. h);
  base = b;
  placed = refl;
  less = λ j some. (some, λ h. h);
  removal = free;
  elsewhere = λ m ne. refl;
  counts = λ j. refl;
}
retired n (id ∷ ids) s within b free idle =
    let c = cpu_of n s in
    let done = done_take n id c (b.whole n) free (idle id (inl refl)) in
    let shift = shift_take n id c in
    let gone : (j : ℕ) → found j (take_here n id c).cpu.cyclics
    ≡ found j (others id c.cyclics) = λ j. ap (found j) (taken_cpu n id c).0 in
    let less : (j : ℕ) → IsSome (found j (take_here n id c).cpu.cyclics) → IsSome (found j c.cyclics) =
    λ j some. dite (ℕ_discrete j id)
    (λ e. none_and_some (IsSome (found j c.cyclics)) (found j (take_here n id c).cpu.cyclics)
    (gone j ∙ ap (λ (k : ℕ). found k (others id c.cyclics)) e ∙ found_gone id c.cyclics) some)
    (λ ne. subst (λ o. IsSome o) (gone j ∙ found_others j id c.cyclics ne) some) in
    let one = retire n id s in
    let t = one.state in
    let goes = ended_goes n id (take_here n id) s within b done shift less (local_take n id) in
    let there = ended_there n id (take_here n id) s within b done shift less (local_take n id) in
    let rest = retired n ids t (subst (λ k. n < k) (sym goes.tells.as_many) within)
    (ended_base n id (take_here n id) s within b done shift less (local_take n id))
    (ap (λ (d : Cpu). d.removal) there ∙ (taken_cpu n id c).1 ∙ free)
    (λ j has. let k = done.books j in let z = idle j (inr has) in
    ap (λ (d : Cpu). outstanding_here j d) there ∙ omega (arith, k, z)) in record {
      goes = goes_append one.acts (each (retire n) ids t).acts s t (each (retire n) ids t).state goes rest.goes;
      base = rest.base;
      placed = rest.placed ∙ (ended_placed n id (take_here n id) s within b done shift less (local_take n id)).0;
      less = λ j some.
          let r = rest.less j some in
          let was = subst (λ (d : Cpu). IsSome (found j d.cyclics)) there r.0 in (
            less j was,
            λ has. ⊎_elim
                (λ e. none_and_some ⊥ (found j (take_here n id c).cpu.cyclics)
                (gone j ∙ ap (λ (k : ℕ). found k (others id c.cyclics)) e ∙ found_gone id c.cyclics) was)
                (λ h. r.1 h) has,
          );
      removal = rest.removal;
      elsewhere = λ m ne. rest.elsewhere m ne ∙ ended_elsewhere n id (take_here n id) s within b done shift less
          (local_take n id) m ne;
      counts = λ j.
          let k = ended_counts n id (take_here n id) s within b done shift less (local_take n id) j (take_calls n id j c)
          (take_losses n id c j) in
          rest.counts j
          ∙ counts_same (expired_in j t) (t.called j) (lost_in j t) (pending_in j t) (expired_in j s) (s.called j) (lost_in j s)
          (pending_in j s)
          k.0 k.1 k.2 k.3;
    }

-- ---- a CPU goes offline, or comes back

switched_whole : (b : Bool) (c : Cpu) → Whole c → Whole (record c { online = b })
switched_whole b c w = record {
  agrees = agrees_with c (record c { online = b }) refl refl refl (λ id. refl) w.agrees;
  free = λ soft. at_level soft (λ l. l.firer_hand ≡ None) (w.free soft);
  fit = λ soft. at_level soft (λ l. Fit l) (w.fit soft);
  back = λ soft id some. w.back soft id (from_level soft (λ l. IsSome (l.cyclics id)) some);
  marks = λ soft id is. w.marks soft id (from_level soft (λ l. l.marked ≡ Some id) is);
  marked = λ soft id is at. at_level soft (λ l. l.marked ≡ Some id) (w.marked soft id is at);
  rising = w.rising;
  room = w.room;
  still = w.still;
  held = w.held;
}
  where
    at_level : (soft : Soft) (P : SoftLevel → Type 0) → P (level_at soft c) → P (level_at soft (record c { online = b }))
    at_level Low P h = h
    at_level Lock P h = h

    from_level : (soft : Soft) (P : SoftLevel → Type 0) → P (level_at soft (record c { online = b })) → P (level_at soft c)
    from_level Low P h = h
    from_level Lock P h = h

module _ (b : Bool) (n : ℕ) (s : State) (within : n < length s.cpus) (base : Base None s) where
  abbrev switch : Cpu → Here
  switch c = nothing_here (record c { online = b })

  done_switch : Done n (λ j. 0) (cpu_of n s) (nothing_here (record (cpu_of n s) { online = b }))
  done_switch = record {
    local = local_nothing n (cpu_of n s) (record (cpu_of n s) { online = b }) (same_low_lock (cpu_of n s) _ refl refl)
        (λ h. agrees_with (cpu_of n s) (record (cpu_of n s) { online = b }) refl refl refl (λ id. refl) h);
    rest = λ soft. tt;
    whole = switched_whole b (cpu_of n s) (base.whole n);
    books = λ j. plus (outstanding_here j (cpu_of n s));
  }
    where
      plus : (k : ℕ) → k + 0 + 0 ≡ k + 0
      plus k = omega arith

  abbrev turned : Outcome
  turned = on_number n (λ c. nothing_here (record c { online = b })) s

  switch_shift : Shift None None (λ j. 0) (cpu_of n s) (nothing_here (record (cpu_of n s) { online = b }))
  switch_shift = shift_same None (cpu_of n s) (nothing_here (record (cpu_of n s) { online = b })) refl (λ j. refl)

  pub switch_goes : Goes turned.acts s turned.state
  switch_goes = goes_on n (λ c. nothing_here (record c { online = b })) (λ j. 0) s within done_switch None base
      (λ c. local_nothing n c (record c { online = b }) (same_low_lock c _ refl refl)
      (λ h. agrees_with c (record c { online = b }) refl refl refl (λ id. refl) h)) (λ j none. refl)

  pub switch_base : Base None turned.state
  switch_base = base_on n (λ c. nothing_here (record c { online = b })) (λ j. 0) s within done_switch None None base switch_shift
      (λ j some. base.homes n j some)

  pub switch_there : cpu_of n turned.state ≡ record (cpu_of n s) { online = b }
  switch_there = cpu_there n (λ c. nothing_here (record c { online = b })) (λ j. 0) s within done_switch

  pub switch_elsewhere : (m : ℕ) → m ≢ n → cpu_of m turned.state ≡ cpu_of m s
  switch_elsewhere m ne = cpu_elsewhere n (λ c. nothing_here (record c { online = b })) (λ j. 0) s within done_switch m ne

  pub switch_counts : SameCounts s turned.state
  switch_counts j =
      let e = expired_on n (λ c. nothing_here (record c { online = b })) (λ k. 0) s within done_switch None None base
      switch_shift j in
      let l = lost_on n (λ c. nothing_here (record c { online = b })) (λ k. 0) s within done_switch None None base switch_shift
      j in
      let p = pending_on n (λ c. nothing_here (record c { online = b })) (λ k. 0) s within done_switch j in
      counts_same (expired_in j turned.state) (turned.state.called j) (lost_in j turned.state) (pending_in j turned.state)
      (expired_in j s) (s.called j) (lost_in j s) (pending_in j s)
      (omega (arith, e)) (plus_none (s.called j)) (omega (arith, l)) (omega (arith, p))
    where
      plus_none : (k : ℕ) → k + 0 ≡ k
      plus_none k = omega arith

-- ---- offline

none_pending : (ids : List ℕ) (n : ℕ) (s : State) → any_pending plain n ids s ≡ false → (j : ℕ) → Has j ids
    → outstanding_here j (cpu_of n s) ≡ 0
none_pending [] n s h j has = absurd has
none_pending (id ∷ ids) n s h j has =
    let q = neither (nat_lt 0 (outstanding_here id (cpu_of n s))) (any_pending plain n ids s) h in
    ⊎_elim
    (λ e. let le = ltb-false 0 (outstanding_here id (cpu_of n s)) q.0 in
    ap (λ (k : ℕ). outstanding_here k (cpu_of n s)) e ∙ omega (arith, le))
    (λ r. none_pending ids n s q.1 j r) has

module _ (n other : ℕ) (s : State) (g : Good s) (within : n < length s.cpus) (apart : other ≢ n) (there : other < length s.cpus)
    (on_ : (cpu_of other s).online ≡ true) (free : (cpu_of n s).removal ≡ None) (all : single_ids_of n s ≡ [])
    (idle : any_pending plain n (ids_of_cpu n s) s ≡ false) where
  gone_all : Retired n (ids_of_cpu n s) s (each (retire n) (ids_of_cpu n s) s)
  gone_all = retired n (ids_of_cpu n s) s within g.base free (none_pending (ids_of_cpu n s) n s idle)

  abbrev t : State
  t = (each (retire n) (ids_of_cpu n s) s).state

  within_t : n < length t.cpus
  within_t = subst (λ k. n < k) (sym gone_all.goes.tells.as_many) within

  abbrev u : State
  u = (on_number n (λ c. nothing_here (go_offline c)) t).state

  -- it has no cyclic any more, and the others are as they were
  empty_u : (j : ℕ) → IsSome (found j (cpu_of n u).cyclics) → ⊥
  empty_u j some =
      let r = gone_all.less j (subst (λ (c : Cpu). IsSome (found j c.cyclics)) (switch_there false n t within_t gone_all.base)
      some) in
      r.1 (ids_have j (cpu_of n s).cyclics r.0)

  same_u : (m : ℕ) → m ≢ n → cpu_of m u ≡ cpu_of m s
  same_u m ne = switch_elsewhere false n t within_t gone_all.base m ne ∙ gone_all.elsewhere m ne

  placement_u : (j : ℕ) → placement_of j u ≡ placement_of j s
  placement_u j = ap (λ ps. option_map (λ (p : Placed). p.placement) (entry j ps)) gone_all.placed

  -- a cyclic that is on one CPU isn't on this one
  not_home : (j : ℕ) (bound : Bool) → placement_of j s ≡ Some (On n bound) → ⊥
  not_home j bound is = subst (λ ns. Has j ns) all
      (filtering (λ id. not (is_omni id s)) j (ids_in (cpu_of n s).cyclics)
      (ids_have j (cpu_of n s).cyclics (g.spread.home j n bound is)) (ap (λ o. not (is_placed_everywhere o)) is))

  home_far : (j m : ℕ) (bound : Bool) → placement_of j s ≡ Some (On m bound) → m ≢ n
  home_far j m bound is e = not_home j bound (is ∙ ap (λ k. Some (On k bound)) e)

  view_u : (j m : ℕ) → m ≢ n → found j (cpu_of m u).cyclics ≡ found j (cpu_of m s).cyclics
  view_u j m ne = ap (λ (c : Cpu). found j c.cyclics) (same_u m ne)

  spread_u : Spread u
  spread_u = record {
    some = (
      other,
      subst (λ k. other < k) (sym (switch_goes false n t within_t gone_all.base).tells.as_many)
          (subst (λ k. other < k) (sym gone_all.goes.tells.as_many) there),
      ap (λ (c : Cpu). c.online) (same_u other apart) ∙ on_,
    );
    there = λ m j some. dite (ℕ_discrete m n)
        (λ e. absurd (empty_u j (subst (λ k. IsSome (found j (cpu_of k u).cyclics)) e some)))
        (λ ne. ap (λ (c : Cpu). c.online) (same_u m ne) ∙ g.spread.there m j (subst (λ o. IsSome o) (view_u j m ne) some));
    home = λ j m bound is. let was = sym (placement_u j) ∙ is in
        subst (λ o. IsSome o) (sym (view_u j m (home_far j m bound was))) (g.spread.home j m bound was);
    stands = λ j e is. ⊎_elim
        (λ full. inl (
          (λ m on_m. dite (ℕ_discrete m n)
              (λ q. absurd (let no : true ≡ false = sym on_m ∙ ap (λ (k : ℕ). (cpu_of k u).online) q
              ∙ ap (λ (c : Cpu). c.online) (switch_there false n t within_t gone_all.base) in cc))
              (λ ne. subst (λ o. IsSome o) (sym (view_u j m ne)) (full.0 m (sym (ap (λ (c : Cpu). c.online) (same_u m ne))
              ∙ on_m)))),
          (λ m is_open. dite (ℕ_discrete m n)
              (λ q. none_some ⊥ j (cpu_of n u).removal removal_u (sym (ap (λ (k : ℕ). (cpu_of k u).removal) q) ∙ is_open))
              (λ ne. full.1 m (sym (ap (λ (c : Cpu). c.removal) (same_u m ne)) ∙ is_open))),
        ))
        (λ leave. inr (
          (λ m some. dite (ℕ_discrete m n)
              (λ q. absurd (empty_u j (subst (λ k. IsSome (found j (cpu_of k u).cyclics)) q some)))
              (λ ne. ap (λ (c : Cpu). c.removal) (same_u m ne) ∙ leave.0 m (subst (λ o. IsSome o) (view_u j m ne) some))),
          dite (ℕ_discrete leave.1.0 n)
              (λ q. none_some ((m : ℕ) × IsSome (found j (cpu_of m u).cyclics)) j (cpu_of n s).removal free
              (sym (ap (λ (k : ℕ). (cpu_of k s).removal) q) ∙ leave.0 leave.1.0 leave.1.1))
              (λ ne. (leave.1.0, subst (λ o. IsSome o) (sym (view_u j leave.1.0 ne)) leave.1.1)),
        ))
        (g.spread.stands j e (sym (placement_u j) ∙ is));
  }
    where
      removal_u : (cpu_of n u).removal ≡ None
      removal_u = ap (λ (c : Cpu). c.removal) (switch_there false n t within_t gone_all.base) ∙ gone_all.removal

  kept_u : Kept s u
  kept_u = record {
    ids = ap (λ ps. map (λ (p : Placed). p.id) ps) gone_all.placed;
    cyclics = λ j single. (
      ap is_placed_everywhere (placement_u j) ∙ single,
      ap (λ o. cyclic_with_id j (cpu_of (home_at o) u)) (placement_u j) ∙ by j (placement_of j s) refl single,
    );
    counts = λ j. switch_counts false n t within_t gone_all.base j ∙ gone_all.counts j;
  }
    where
      -- a gone id is nowhere
      nowhere : (j m : ℕ) → placement_of j s ≡ None → cyclic_with_id j (cpu_of m u) ≡ cyclic_with_id j (cpu_of m s)
      nowhere j m none = gone_away None u (switch_base false n t within_t gone_all.base) j (placement_u j ∙ none) m
          ∙ sym (gone_away None s g.base j none m)

      by : (j : ℕ) (o : Option Placement) → placement_of j s ≡ o → is_placed_everywhere (placement_of j s) ≡ false
          → cyclic_with_id j (cpu_of (home_at (placement_of j s)) u) ≡ cyclic_with_id j (cpu_of (home_at (placement_of j s)) s)
      by j None is single = nowhere j (home_at (placement_of j s)) is
      by j (Some (On m bound)) is single = subst (λ p. cyclic_with_id j (cpu_of (home_at p) u)
          ≡ cyclic_with_id j (cpu_of (home_at p) s)) (sym is)
          (view_u j m (home_far j m bound is))
      by j (Some (OnAll e)) is single = absurd (let no : true ≡ false = sym (ap is_placed_everywhere is) ∙ single in cc)

  pub safe_retire : Safe (retire_all n s) s
  safe_retire = (
    goes_append (each (retire n) (ids_of_cpu n s) s).acts [] s t u gone_all.goes (switch_goes false n t within_t gone_all.base),
    record { base = switch_base false n t within_t gone_all.base; spread = spread_u },
    kept_u,
  )

pub safe_offline : (indexes : ℕ → ℕ) (step n : ℕ) (s : State) → Good s → offline_refusal plain n s ≡ None
    → Safe (offline plain indexes step n s) s
safe_offline indexes step n s g why = by (single_ids_of n (juggled plain indexes n s).outcome.state) refl
  where
    o : Outcome
    o = (juggled plain indexes n s).outcome

    last : (b : Bool) → any_pending plain n (ids_of_cpu n (juggled plain indexes n s).outcome.state)
        (juggled plain indexes n s).outcome.state ≡ b
        → single_ids_of n (juggled plain indexes n s).outcome.state ≡ []
        → Safe (last_part b step n (juggled plain indexes n s).outcome) s
    last true is all = let j = juggling indexes n s g why in (j.7, j.6, j.8)
    last false is all =
        let j = juggling indexes n s g why in
        let r = (juggled plain indexes n s).outcome in
        let w : n < length r.state.cpus = subst (λ k. n < k) (sym j.7.tells.as_many) j.5 in
        let v : j.0 < length r.state.cpus = subst (λ k. j.0 < k) (sym j.7.tells.as_many) j.1 in
        let off = safe_retire n j.0 r.state j.6 w j.3 v (j.10 j.0 ∙ j.2) (j.9 n ∙ j.4) all is in (
          goes_append r.acts (retire_all n r.state).acts s r.state (retire_all n r.state).state j.7 off.0,
          off.1,
          kept_then s r.state (retire_all n r.state).state j.8 off.2,
        )

    by : (ids : List ℕ) → single_ids_of n (juggled plain indexes n s).outcome.state ≡ ids
        → Safe (leaving plain step n ids (juggled plain indexes n s)) s
    by (id ∷ ids) is = let j = juggling indexes n s g why in (j.7, j.6, j.8)
    by [] is = last (any_pending plain n (ids_of_cpu n (juggled plain indexes n s).outcome.state)
        (juggled plain indexes n s).outcome.state) refl is
