-- A cyclic that is on one CPU, and goes on there or on another.
use Rattle.std.proofs.Common.{◌≡◌, ◌≢◌, ℕ, zero, suc, ◌<◌, ◌≤◌, Bool, true, false, cond, List, [], ◌∷◌, map, refl}
use Rattle.std.proofs.Common.{ap, sym, ◌∙◌, subst, ◌==◌, ne_eqb, Option, Some, None}
use Rattle.std.specs.Prelude.{is_some, slice_set, ◌||◌}
use Rattle.std.specs.Option.{option_map, option_map_or}
use Rattle.std.specs.List.{list_any}
use Rattle.cyc_level.specs.declared.Event.TheVariants.{Mark, Clear}
use Rattle.cyc_types.specs.Series.{never}
use Rattle.cyc_model.specs.Acts.{at_own}
use Rattle.cyc_model.specs.Cpu.{CyclicState, Cpu, Here, others, handler_level_of}
use Rattle.cyc_model.specs.Moving.{enter_here, mark_here, clear_here, moment_at}
use Rattle.cyc_model.specs.Questions.{plain, outstanding_here}
use Rattle.cyc_model.specs.State.{State, Outcome, Placement, Everywhere, cpu_of, on_number, each}
use Rattle.cyc_model.specs.Places.{placement_of, is_being_removed, is_omni, is_placed_everywhere, home_of, home_at, keep_counts}
use Rattle.cyc_model.specs.Add.{enter}
use Rattle.cyc_model.specs.Omni.{component}
use Rattle.cyc_model.specs.Remove.{begin, poll, clear, clear_if}
use Rattle.cyc_model.specs.Kept.{at_home}
use Rattle.cyc_model.proofs.Agreement.{moment_same}
use Rattle.cyc_model.proofs.Rising.{found, found_map, found_id, found_others, put_other}
use Rattle.cyc_model.proofs.Placing.{placement_known}
use Rattle.cyc_model.proofs.Whole.{same_happen}
use Rattle.cyc_model.proofs.Base.{IsAt}
use Rattle.cyc_model.proofs.Refusing.{neither}
use Rattle.cyc_model.proofs.Spread.{Good}
use Rattle.cyc_expected.proofs.Seen.{seen, on_same, each_same, seen_at}
use Rattle.cyc_expected.proofs.Counts.{cyclics_entered}

-- it is on one CPU with this next expiration and this interval, and its removal is not open
pub record Running (id moment interval : ℕ) (s : State) : Type 0 where
  pub stays : is_being_removed id s ≡ false
  pub single : is_omni id s ≡ false
  pub it : CyclicState
  pub here : at_home id s ≡ Some it
  pub moment_is : it.timer.moment ≡ moment
  pub interval_is : it.timer.interval ≡ interval

abbrev pub found_in : ℕ → Cpu → Option CyclicState
found_in id c = found id c.cyclics

pub runs_alike : (id moment interval : ℕ) (s t : State) → Running id moment interval s → is_being_removed id t ≡ false
    → is_omni id t ≡ false → at_home id t ≡ at_home id s → Running id moment interval t
runs_alike id moment interval s t r stays single home = record {
  stays = stays;
  single = single;
  it = r.it;
  here = home ∙ r.here;
  moment_is = r.moment_is;
  interval_is = r.interval_is;
}

pub runs_there : (id moment interval : ℕ) (s t : State) → Running id moment interval s → is_being_removed id t ≡ false
    → placement_of id t ≡ placement_of id s → seen (found_in id) t ≡ seen (found_in id) s → Running id moment interval t
runs_there id moment interval s t r stays placement same = runs_alike id moment interval s t r stays
    (ap is_placed_everywhere placement ∙ r.single)
    (ap (λ o. found id (cpu_of (home_at o) t).cyclics) placement ∙ seen_at (found_in id) s t same (home_of id s))

-- it is known
pub runs_known : (id moment interval : ℕ) (s : State) → Good s → Running id moment interval s
    → IsAt (home_of id s) (placement_of id s) × (0 < id) × (id ≤ s.last_id)
runs_known id moment interval s g r =
    let at = g.base.homes (home_of id s) id (ap is_some r.here) in by (placement_of id s) refl at
  where
    by : (o : Option Placement) → placement_of id s ≡ o → IsAt (home_of id s) (placement_of id s)
        → IsAt (home_of id s) (placement_of id s) × (0 < id) × (id ≤ s.last_id)
    by None is at = absurd (subst (λ p. IsAt (home_of id s) p) is at)
    by (Some p) is at = let k = placement_known id s p g.base.rise is in (at, k.0, k.1)

-- ---- what leaves the cyclics of another id

module _ (id : ℕ) where
  pub found_enter : (indexes : ℕ → ℕ) (n : ℕ) (x : CyclicState) (s : State) → x.timer.id ≢ id
      → seen (found_in id) (enter indexes n x s).state ≡ seen (found_in id) s
  found_enter indexes n x s ne =
      let k = indexes s.admissions in
      on_same (found_in id) n (enter_here n k x) s
      (ap (found id) (cyclics_entered n k x (cpu_of n s)) ∙ put_other id x (cpu_of n s).cyclics ne)

  pub found_enters : (indexes : ℕ → ℕ) (j : ℕ) (e : Everywhere) (ns : List ℕ) (s : State) → j ≢ id
      → seen (found_in id) (each (λ n u. enter indexes n (component j n e u.clock) u) ns s).state ≡ seen (found_in id) s
  found_enters indexes j e ns s ne = each_same (found_in id) (λ n u. enter indexes n (component j n e u.clock) u)
      (λ n u. found_enter indexes n (component j n e u.clock) u ne) ns s

  pub placement_enters : (indexes : ℕ → ℕ) (j : ℕ) (e : Everywhere) (ns : List ℕ) (s : State)
      → placement_of id (each (λ n u. enter indexes n (component j n e u.clock) u) ns s).state ≡ placement_of id s
  placement_enters indexes j e [] s = refl
  placement_enters indexes j e (n ∷ ns) s = placement_enters indexes j e ns (enter indexes n (component j n e s.clock) s).state

  moment_other : (j moment : ℕ) (o : Option CyclicState) → ((x : CyclicState) → o ≡ Some x → x.timer.id ≢ j)
      → option_map (moment_at j moment) o ≡ o
  moment_other j moment None ne = refl
  moment_other j moment (Some x) ne =
      ap (λ (b : Bool). Some (cond b (record x { timer = record x.timer { moment = moment } }) x))
      (ne_eqb x.timer.id j (ne x refl))

  pub found_moment : (j moment : ℕ) (cs : List CyclicState) → id ≢ j → found id (map (moment_at j moment) cs) ≡ found id cs
  found_moment j moment cs ne =
      found_map (moment_at j moment) (λ x. (moment_same j moment x).0) id cs
      ∙ moment_other j moment (found id cs) (λ x is e. ne (sym (found_id id x cs is) ∙ e))

  found_mark : (n j : ℕ) (c : Cpu) → id ≢ j → found id (mark_here n j c).cpu.cyclics ≡ found id c.cyclics
  found_mark n j c ne =
      ap (found id) (same_happen (at_own n (handler_level_of j c) (Mark j))
      (record c { cyclics = map (moment_at j never) c.cyclics; removal = Some j })).cyclics
      ∙ found_moment j never c.cyclics ne

  found_clear : (n j : ℕ) (c : Cpu) → id ≢ j → found id (clear_here n j c).cpu.cyclics ≡ found id c.cyclics
  found_clear n j c ne =
      ap (found id) (same_happen (at_own n (handler_level_of j c) (Clear j))
      (record c { cyclics = others j c.cyclics; removal = None })).cyclics
      ∙ found_others id j c.cyclics ne

  -- ---- and no removal of the id opens

  abbrev opens : Cpu → Bool
  opens c = option_map_or (λ busy. busy == id) c.removal false

  shut_set : (cs : List Cpu) (n : ℕ) (d : Cpu) → list_any opens cs ≡ false → opens d ≡ false
      → list_any opens (slice_set cs n d) ≡ false
  shut_set [] n d shut e = refl
  shut_set (c ∷ cs) zero d shut e = both (opens d) (list_any opens cs) e (neither (opens c) (list_any opens cs) shut).1
    where
      both : (a b : Bool) → a ≡ false → b ≡ false → (a || b) ≡ false
      both a b p q = (λ i. p i || b) ∙ q
  shut_set (c ∷ cs) (suc n) d shut e =
      let h = neither (opens c) (list_any opens cs) shut in
      both (opens c) (list_any opens (slice_set cs n d)) h.0 (shut_set cs n d h.1 e)
    where
      both : (a b : Bool) → a ≡ false → b ≡ false → (a || b) ≡ false
      both a b p q = (λ i. p i || b) ∙ q

  shut_on : (n : ℕ) (f : Cpu → Here) (s : State) → opens (f (cpu_of n s)).cpu ≡ false → is_being_removed id s ≡ false
      → is_being_removed id (on_number n f s).state ≡ false
  shut_on n f s e shut = shut_set s.cpus n (f (cpu_of n s)).cpu shut e

  -- the id's cyclics, its placement, and that no removal of it is open are as they were
  pub record Left (s t : State) : Type 0 where
    pub found_ : seen (found_in id) t ≡ seen (found_in id) s
    pub shut : is_being_removed id s ≡ false → is_being_removed id t ≡ false
    pub placement : placement_of id t ≡ placement_of id s

  pub left_same : (s : State) → Left s s
  left_same s = record { found_ = refl; shut = λ h. h; placement = refl }

  pub left_then : (s t u : State) → Left s t → Left t u → Left s u
  left_then s t u one two = record {
    found_ = two.found_ ∙ one.found_;
    shut = λ h. two.shut (one.shut h);
    placement = two.placement ∙ one.placement;
  }

  left_counts : (n : ℕ) (o : Option CyclicState) (s : State) → Left s (keep_counts n o s)
  left_counts n None s = left_same s
  left_counts n (Some x) s = record { found_ = refl; shut = λ h. h; placement = refl }

  left_clear : (j n : ℕ) (s : State) → id ≢ j → Left s (clear j n s).state
  left_clear j n s ne =
      let r = keep_counts n (found j (cpu_of n s).cyclics) s in
      let c = cpu_of n r in
      left_then s r (clear j n s).state (left_counts n (found j (cpu_of n s).cyclics) s) (record {
        found_ = on_same (found_in id) n (clear_here n j) r (found_clear n j c ne);
        shut = shut_on n (clear_here n j) r
            (ap (λ o. option_map_or (λ busy. busy == id) o false) (same_happen (at_own n (handler_level_of j c) (Clear j))
            (record c { cyclics = others j c.cyclics; removal = None })).removal);
        placement = refl;
      })

  pub left_poll : (j n : ℕ) (s : State) → id ≢ j → Left s (poll plain j n s).state
  left_poll j n s ne = by (outstanding_here j (cpu_of n s) == 0)
    where
      by : (b : Bool) → Left s (clear_if b j n s).state
      by true = left_clear j n s ne
      by false = left_same s

  pub left_begin : (j n : ℕ) (s : State) → id ≢ j → Left s (begin plain j n s).state
  left_begin j n s ne =
      let c = cpu_of n s in
      let t = (on_number n (mark_here n j) s).state in
      left_then s t (begin plain j n s).state (record {
        found_ = on_same (found_in id) n (mark_here n j) s (found_mark n j c ne);
        shut = shut_on n (mark_here n j) s
            (ap (λ o. option_map_or (λ busy. busy == id) o false) (same_happen (at_own n (handler_level_of j c) (Mark j))
            (record c { cyclics = map (moment_at j never) c.cyclics; removal = Some j })).removal
            ∙ ne_eqb j id (λ e. ne (sym e)));
        placement = refl;
      }) (left_poll j n t ne)

  pub left_each : {A : Type 0} → (f : A → State → Outcome) → ((x : A) (s : State) → Left s (f x s).state) → (xs : List A)
      (s : State) → Left s (each f xs s).state
  left_each f one [] s = left_same s
  left_each f one (x ∷ xs) s =
      left_then s (f x s).state (each f xs (f x s).state).state (one x s) (left_each f one xs (f x s).state)
