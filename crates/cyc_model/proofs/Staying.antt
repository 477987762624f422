-- The omnipresent cyclics whose removal isn't open, and how many they can be.
use Rattle.std.proofs.Common.{◌≡◌, ◌≢◌, ℕ, suc, ◌<◌, ◌≤◌, ◌==◌, ◌||◌, eq-eqb, ne_eqb, eqb-true, Bool, true, false, cond, List, []}
use Rattle.std.proofs.Common.{◌∷◌, length, Option, Some, None, refl, ap, sym, ◌∙◌, subst, inl, inr, ⊎_elim, ◌⊎◌, pow_mono, arith}
use Rattle.std.specs.Prelude.{⊤, IsSome, is_some, not, filter, slice_index_or}
use Rattle.std.specs.Option.{option_map, option_map_or}
use Rattle.std.specs.List.{list_any}
use Rattle.std.proofs.lemmas.Bool.{not-true}
use mathlib.Core.Logic.{dite}
use native.Mathlib.Decide.{ℕ_discrete}
use Rattle.cyc_types.specs.Limits.{greatest_bank, cyclics as most_cyclics}
use Rattle.cyc_types.specs.declared.level.Soft.TheVariants.{Lock}
use Rattle.cyc_level.specs.Level.{bank_size}
use Rattle.cyc_level.proofs.Maps.{some_same, some_of}
use Rattle.cyc_model.specs.Cpu.{CyclicState, Cpu, others}
use Rattle.cyc_model.specs.State.{State, Placement, On, OnAll, Everywhere, Placed, absent, cpu_of}
use Rattle.cyc_model.specs.Places.{placement_of, is_being_removed}
use Rattle.cyc_model.specs.Online.{is_on_all, staying_omni}
use Rattle.cyc_model.specs.Laws.{RiseTo}
use Rattle.cyc_model.proofs.Given.{rise_filter}
use Rattle.cyc_model.proofs.Rising.{found, found_others, length_others, first_not}
use Rattle.cyc_model.proofs.Whole.{Whole}
use Rattle.cyc_model.proofs.Placing.{entry, entry_id, with_entry, kept}
use Rattle.cyc_model.proofs.Numbers.{not_leaving}
use Rattle.cyc_model.proofs.Spread.{Full, Stands, Good}

-- ---- open removals

first_open : (j : ℕ) (c : Cpu) (cs : List Cpu) → list_any (λ d. option_map_or (λ busy. busy == j) d.removal false) (c ∷ cs) ≡ true
    → (c.removal ≡ Some j) ⊎ (list_any (λ d. option_map_or (λ busy. busy == j) d.removal false) cs ≡ true)
first_open j c cs h = by c.removal refl h
  where
    test : (k : ℕ) (b : Bool) → (k == j) ≡ b → (b || list_any (λ d. option_map_or (λ busy. busy == j) d.removal false) cs) ≡ true
        → (Some k ≡ Some j) ⊎ (list_any (λ d. option_map_or (λ busy. busy == j) d.removal false) cs ≡ true)
    test k true e h = inl (ap Some (eqb-true k j e))
    test k false e h = inr h

    by : (r : Option ℕ) → c.removal ≡ r →
        (option_map_or (λ busy. busy == j) r false || list_any (λ d. option_map_or (λ busy. busy == j) d.removal false) cs) ≡ true
        → (c.removal ≡ Some j) ⊎ (list_any (λ d. option_map_or (λ busy. busy == j) d.removal false) cs ≡ true)
    by None is h = inr h
    by (Some k) is h = ⊎_elim (λ e. inl (is ∙ e)) (λ r. inr r) (test k (k == j) refl h)

pub leaving_where : (j : ℕ) (s : State) → is_being_removed j s ≡ true → (m : ℕ) × ((cpu_of m s).removal ≡ Some j)
leaving_where j s h = by s.cpus h
  where
    by : (cs : List Cpu) → list_any (λ d. option_map_or (λ busy. busy == j) d.removal false) cs ≡ true
        → (m : ℕ) × ((slice_index_or cs m absent).removal ≡ Some j)
    by [] h = absurd (cc)
    by (c ∷ cs) h = ⊎_elim (λ e. (0, e)) (λ r. let w = by cs r in (suc w.0, w.1)) (first_open j c cs h)

pub not_open : (j : ℕ) (s : State) → ((m : ℕ) → (cpu_of m s).removal ≢ Some j) → is_being_removed j s ≡ false
not_open j s shut = by (is_being_removed j s) refl
  where
    by : (b : Bool) → is_being_removed j s ≡ b → is_being_removed j s ≡ false
    by true is = let w = leaving_where j s is in absurd (shut w.0 w.1)
    by false is = is

-- ---- entries that pass a test

pub entry_here : (j : ℕ) (p : Placed) (ps : List Placed) → p.id ≡ j → entry j (p ∷ ps) ≡ Some p
entry_here j p ps e = ap (λ (b : Bool). with_entry b p (entry j ps)) (eq-eqb p.id j e)

pub entry_past : (j : ℕ) (p : Placed) (ps : List Placed) → p.id ≢ j → entry j (p ∷ ps) ≡ entry j ps
entry_past j p ps ne = ap (λ (b : Bool). with_entry b p (entry j ps)) (ne_eqb p.id j ne)

pub entry_filter : (test : Placed → Bool) (j : ℕ) (p : Placed) (ps : List Placed) → entry j ps ≡ Some p → test p ≡ true
    → entry j (filter test ps) ≡ Some p
entry_filter test j p [] is passes = absurd (cc)
entry_filter test j p (q ∷ qs) is passes = dite (ℕ_discrete q.id j)
    (λ e. let same : q ≡ p = some_same q p (sym (entry_here j q qs e) ∙ is) in
    ap (λ (b : Bool). entry j (kept b q (filter test qs))) (ap test same ∙ passes) ∙ entry_here j q (filter test qs) e
    ∙ ap Some same)
    (λ ne. by (test q) ne (entry_filter test j p qs (sym (entry_past j q qs ne) ∙ is) passes))
  where
    by : (b : Bool) → q.id ≢ j → entry j (filter test qs) ≡ Some p → entry j (kept b q (filter test qs)) ≡ Some p
    by true ne rest = entry_past j q (filter test qs) ne ∙ rest
    by false ne rest = rest

pub entry_filtered : (test : Placed → Bool) (j : ℕ) (p : Placed) (ps : List Placed) → entry j (filter test ps) ≡ Some p
    → (test p ≡ true) × (p.id ≡ j)
entry_filtered test j p [] is = absurd (cc)
entry_filtered test j p (q ∷ qs) is = by (test q) refl is (entry_filtered test j p qs)
  where
    by : (b : Bool) → test q ≡ b → entry j (kept b q (filter test qs)) ≡ Some p
        → (entry j (filter test qs) ≡ Some p → (test p ≡ true) × (p.id ≡ j)) → (test p ≡ true) × (p.id ≡ j)
    by true e h rest = dite (ℕ_discrete q.id j)
        (λ same. let sq = some_same q p (sym (entry_here j q (filter test qs) same) ∙ h) in
        (ap test (sym sq) ∙ e, ap (λ (x : Placed). x.id) (sym sq) ∙ same))
        (λ ne. rest (sym (entry_past j q (filter test qs) ne) ∙ h))
    by false e h rest = rest h

-- this holds of each of these
abbrev pub Each : (Placed → Type 0) → List Placed → Type 0
Each P [] = ⊤
Each P (p ∷ ps) = P p × Each P ps

pub each_then : (P Q : Placed → Type 0) → ((p : Placed) → P p → Q p) → (ps : List Placed) → Each P ps → Each Q ps
each_then P Q f [] h = tt
each_then P Q f (p ∷ ps) h = (f p h.0, each_then P Q f ps h.1)

pub each_both : (P Q : Placed → Type 0) (ps : List Placed) → Each P ps → Each Q ps → Each (λ p. P p × Q p) ps
each_both P Q [] h i = tt
each_both P Q (p ∷ ps) h i = ((h.0, i.0), each_both P Q ps h.1 i.1)

each_filter : (P : Placed → Type 0) (test : Placed → Bool) (ps : List Placed) → Each P ps
    → Each (λ p. P p × (test p ≡ true)) (filter test ps)
each_filter P test [] h = tt
each_filter P test (p ∷ ps) h = by (test p) refl (each_filter P test ps h.1)
  where
    by : (b : Bool) → test p ≡ b → Each (λ q. P q × (test q ≡ true)) (filter test ps)
        → Each (λ q. P q × (test q ≡ true)) (kept b p (filter test ps))
    by true e rest = ((h.0, e), rest)
    by false e rest = rest

pub each_above : (low high : ℕ) (ps : List Placed) → RiseTo low ps high → Each (λ p. low < p.id) ps
each_above low high [] h = tt
each_above low high (p ∷ ps) h = (
  h.0,
  each_then (λ q. p.id < q.id) (λ q. low < q.id) (λ q above. let a = h.0 in omega (arith, a, above)) ps
      (each_above p.id high ps h.1),
)

-- each entry is the one of its id
each_entry : (low high : ℕ) (ps : List Placed) → RiseTo low ps high → Each (λ p. entry p.id ps ≡ Some p) ps
each_entry low high [] h = tt
each_entry low high (p ∷ ps) h = (
  entry_here p.id p ps refl,
  each_then (λ q. (entry q.id ps ≡ Some q) × (p.id < q.id)) (λ q. entry q.id (p ∷ ps) ≡ Some q)
      (λ q both. let a = both.1 in entry_past q.id p ps (λ (e : p.id ≡ q.id). omega (arith, a, e)) ∙ both.0) ps
      (each_both (λ q. entry q.id ps ≡ Some q) (λ q. p.id < q.id) ps (each_entry p.id high ps h.1) (each_above p.id high ps h.1)),
)

-- ---- those that stay

is_all : (p : Placement) → is_on_all p ≡ true → (e : Everywhere) × (p ≡ OnAll e)
is_all (On n bound) h = absurd (cc)
is_all (OnAll e) h = (e, refl)

-- an omnipresent cyclic that stays
pub record Stays (s : State) (p : Placed) : Type 0 where
  pub everywhere : (e : Everywhere) × (p.placement ≡ OnAll e)
  pub placed : placement_of p.id s ≡ Some p.placement
  pub full : Full p.id s

pub stays_full : (j : ℕ) (s : State) → Stands j s → is_being_removed j s ≡ false → Full j s
stays_full j s h shut = ⊎_elim (λ full. full.0) (λ leave. absurd (not_leaving j s shut leave.1.0 (leave.0 leave.1.0 leave.1.1))) h

staying_entries : (s : State) → Good s → Each (λ p. ((entry p.id s.placed ≡ Some p) × (not (is_being_removed p.id s) ≡ true))
    × (is_on_all p.placement ≡ true)) (staying_omni s)
staying_entries s g =
    each_filter (λ p. (entry p.id s.placed ≡ Some p) × (not (is_being_removed p.id s) ≡ true)) (λ p. is_on_all p.placement)
    (filter (λ p. not (is_being_removed p.id s)) s.placed)
    (each_filter (λ p. entry p.id s.placed ≡ Some p) (λ p. not (is_being_removed p.id s)) s.placed
    (each_entry 0 s.last_id s.placed g.base.rise))

pub staying_all : (s : State) → Good s → Each (Stays s) (staying_omni s)
staying_all s g = each_then (λ p. ((entry p.id s.placed ≡ Some p) × (not (is_being_removed p.id s) ≡ true))
    × (is_on_all p.placement ≡ true)) (Stays s)
    (λ p h. let all = is_all p.placement h.1 in let at : placement_of p.id s
    ≡ Some p.placement = ap (option_map (λ (q : Placed). q.placement)) h.0.0 in record {
      everywhere = all;
      placed = at;
      full = stays_full p.id s (g.spread.stands p.id all.0 (at ∙ ap Some all.1)) (not-true (is_being_removed p.id s) h.0.1);
    })
    (staying_omni s) (staying_entries s g)

pub staying_rise : (s : State) → Good s → RiseTo 0 (staying_omni s) s.last_id
staying_rise s g = rise_filter (λ p. is_on_all p.placement) 0 s.last_id (filter (λ p. not (is_being_removed p.id s)) s.placed)
    (rise_filter (λ p. not (is_being_removed p.id s)) 0 s.last_id s.placed g.base.rise)

-- one whose removal isn't open stays, and no other
pub does_stay : (j : ℕ) (e : Everywhere) (s : State) → placement_of j s ≡ Some (OnAll e) → is_being_removed j s ≡ false
    → IsSome (entry j (staying_omni s))
does_stay j e s is closed = by (entry j s.placed) refl is
  where
    by : (o : Option Placed) → entry j s.placed ≡ o → option_map (λ (p : Placed). p.placement) o ≡ Some (OnAll e)
        → IsSome (entry j (staying_omni s))
    by None at h = absurd (cc)
    by (Some p) at h =
        let placement : p.placement ≡ OnAll e = some_same p.placement (OnAll e) h in
        let one = entry_filter (λ q. not (is_being_removed q.id s)) j p s.placed at
        (ap (λ (k : ℕ). not (is_being_removed k s)) (entry_id j p s.placed at) ∙ ap not closed) in
        ap is_some (entry_filter (λ q. is_on_all q.placement) j p (filter (λ q. not (is_being_removed q.id s)) s.placed) one
        (ap is_on_all placement))

each_found : (P : Placed → Type 0) (j : ℕ) (p : Placed) (ps : List Placed) → Each P ps → entry j ps ≡ Some p → P p
each_found P j p [] h is = absurd (cc)
each_found P j p (q ∷ qs) h is = dite (ℕ_discrete q.id j)
    (λ e. subst P (some_same q p (sym (entry_here j q qs e) ∙ is)) h.0)
    (λ ne. each_found P j p qs h.1 (sym (entry_past j q qs ne) ∙ is))

pub stays_closed : (j : ℕ) (s : State) → Good s → IsSome (entry j (staying_omni s)) → is_being_removed j s ≡ false
stays_closed j s g some =
    let p = some_of (entry j (staying_omni s)) some in
    let h = each_found (λ q. ((entry q.id s.placed ≡ Some q) × (not (is_being_removed q.id s) ≡ true))
    × (is_on_all q.placement ≡ true)) j p.0 (staying_omni s)
    (staying_entries s g) p.1 in
    let id = (entry_filtered (λ q. is_on_all q.placement) j p.0 (filter (λ q. not (is_being_removed q.id s)) s.placed) p.1).1 in
    not-true (is_being_removed j s) (subst (λ (k : ℕ). not (is_being_removed k s) ≡ true) id h.0.1)

-- ---- as many as there are cyclics

abbrev keep : Bool → CyclicState → List CyclicState → List CyclicState
keep b y ys = cond b (y ∷ ys) ys

others_less : (id : ℕ) (cs : List CyclicState) → IsSome (found id cs) → suc (length (others id cs)) ≤ length cs
others_less id [] some = absurd (cc)
others_less id (x ∷ xs) some = dite (ℕ_discrete x.timer.id id)
    (λ e. let a = ap (λ (b : Bool). length (keep (not b) x (others id xs))) (eq-eqb x.timer.id id e)
    in let le = length_others id xs in
    omega (arith, a, le))
    (λ ne. let a = ap (λ (b : Bool). length (keep (not b) x (others id xs))) (ne_eqb x.timer.id id ne) in
    let r = others_less id xs (sym (ap is_some (first_not id x xs ne)) ∙ some) in omega (arith, a, r))

pub fit_in : (low high : ℕ) (ps : List Placed) (cs : List CyclicState) → RiseTo low ps high
    → Each (λ p. IsSome (found p.id cs)) ps
    → length ps ≤ length cs
fit_in low high [] cs rise h = omega arith
fit_in low high (p ∷ ps) cs rise h =
    let less = others_less p.id cs h.0 in
    let rest = fit_in p.id high ps (others p.id cs) rise.1
    (each_then (λ q. IsSome (found q.id cs) × (p.id < q.id)) (λ q. IsSome (found q.id (others p.id cs)))
    (λ q both. let a = both.1 in subst (λ o. IsSome o) (sym (found_others q.id p.id cs (λ (e : q.id
    ≡ p.id). omega (arith, a, e)))) both.0) ps
    (each_both (λ q. IsSome (found q.id cs)) (λ q. p.id < q.id) ps h.1 (each_above p.id high ps rise.1))) in
    omega (arith, less, rest)

-- a CPU has no more cyclics than it can hold
pub few_cyclics : (c : Cpu) → Whole c → length c.cyclics ≤ most_cyclics
few_cyclics c w =
    let room = w.room in let size = w.agrees.size in let bound = (w.fit Lock).bank_bound in
    let m : bank_size c.lock.hard_bank ≤ bank_size greatest_bank = pow_mono {i = c.lock.hard_bank} {j = greatest_bank} bound in
    omega (arith, room, size, m)

pub few_staying : (s : State) → Good s → length (staying_omni s) ≤ most_cyclics
few_staying s g =
    let n = g.spread.some.0 in
    let fits = fit_in 0 s.last_id (staying_omni s) (cpu_of n s).cyclics (staying_rise s g)
    (each_then (Stays s) (λ p. IsSome (found p.id (cpu_of n s).cyclics)) (λ p h. h.full n g.spread.some.2) (staying_omni s)
    (staying_all s g)) in
    let most = few_cyclics (cpu_of n s) (g.base.whole n) in omega (arith, fits, most)
