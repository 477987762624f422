-- What each word leaves of a cyclic that it does not touch, and what it makes of one that is on one CPU.
use Rattle.std.proofs.Common.{◌≡◌, ◌≢◌, ℕ, ◌+◌, ◌<◌, ◌≤◌, Bool, true, false, cond, List, [], ◌∷◌, map, refl}
use Rattle.std.proofs.Common.{ap, sym, ◌∙◌, subst, eq-eqb, arith, Option, Some, None, inl, inr}
use Rattle.std.specs.Prelude.{is_some, ⊤}
use Rattle.std.specs.Option.{option_map}
use Rattle.std.proofs.lemmas.List.{get_or-set_same}
use Rattle.cyc_types.specs.Series.{never, first, due, next}
use Rattle.cyc_script.specs.declared.step.Step.{Step}
use Rattle.cyc_script.specs.declared.step.Step.TheVariants.{Add, Omni, Bind, Unbind, Reprogram, Remove, Advance, Softint, Juggle}
use Rattle.cyc_script.specs.declared.step.Step.TheVariants.{Offline, Online, Suspend, Resume}
use Rattle.cyc_script.specs.declared.step.Add.{Add as AddStep}
use Rattle.cyc_model.specs.Cpu.{CyclicState, Cpu}
use Rattle.cyc_model.specs.Firing.{fire_here}
use Rattle.cyc_model.specs.Moving.{enter_here, moment_at, reprogram_here}
use Rattle.cyc_model.specs.Serving.{serve_here}
use Rattle.cyc_model.specs.Questions.{plain}
use Rattle.cyc_model.specs.State.{
  State,
  Outcome,
  On,
  OnAll,
  Placement,
  absent,
  cpu_of,
  on_number,
  each,
  numbers,
  cpus_online,
  cpus_having,
}
use Rattle.cyc_model.specs.Places.{id_of, placement_of, is_being_removed, is_placed_everywhere, home_of, home_at, destination_of}
use Rattle.cyc_model.specs.Places.{given, forgotten}
use Rattle.cyc_model.specs.Refusals.{magnitude}
use Rattle.cyc_model.specs.Add.{added}
use Rattle.cyc_model.specs.Omni.{everywhere}
use Rattle.cyc_model.specs.Remove.{begin, poll, begun}
use Rattle.cyc_model.specs.Reprogram.{cpu_meant}
use Rattle.cyc_model.specs.Softint.{interrupt, is_open, leaving_ids, text_of_id, polled, poll_id}
use Rattle.cyc_model.specs.Kept.{Kept}
use Rattle.cyc_model.specs.Script.{refusal_of, does, text_in}
use Rattle.cyc_model.proofs.Agreement.{moment_same}
use Rattle.cyc_model.proofs.Rising.{found, found_map, found_id, put_same, due_of_found}
use Rattle.cyc_model.proofs.Placing.{placement_given_new, placement_given_other, placement_forgotten_other, placement_new}
use Rattle.cyc_model.proofs.Serves.{same_serve}
use Rattle.cyc_model.proofs.Totals.{expired_in}
use Rattle.cyc_model.proofs.Base.{IsAt, gone_away}
use Rattle.cyc_model.proofs.Stays.{none_and_some}
use Rattle.cyc_model.proofs.Numbers.{Has, numbers_rise, numbers_pass, pass_numbers, not_leaving, destination_online}
use Rattle.cyc_model.proofs.Spread.{Good, has_number}
use Rattle.cyc_model.proofs.Calm.{good_clock}
use Rattle.cyc_model.proofs.Juggling.{filtered}
use Rattle.cyc_model.proofs.Staying.{not_open}
use Rattle.cyc_model.proofs.Reaching.{safe_does}
use Rattle.cyc_expected.proofs.Seen.{seen, on_same, removal_of, removal_alike, same_leaving, keeps_enter, keeps_enters}
use Rattle.cyc_expected.proofs.Seen.{keeps_bind, keeps_juggle}
use Rattle.cyc_expected.proofs.Seen.{keeps_offline, keeps_online}
use Rattle.cyc_expected.proofs.Counts.{cyclics_entered}
use Rattle.cyc_expected.proofs.Fires.{all_fired, due_at, sum_one, Later}
use Rattle.cyc_expected.proofs.Running.{Running, found_in, runs_alike, runs_there, runs_known, found_enter, found_enters}
use Rattle.cyc_expected.proofs.Running.{placement_enters, found_moment, Left, left_same, left_then, left_poll, left_begin}
use Rattle.cyc_expected.proofs.Running.{left_each}

-- a step that is nothing to the cyclic of this id
abbrev pub IsOther : ℕ → State → Step → Type 0
IsOther id s (Reprogram r) = id ≢ id_of r.name s
IsOther id s (Remove name) = id ≢ id_of name s
IsOther id s (Advance now) = ⊥
IsOther id s _ = ⊤

-- nor does it move cyclics, or take a CPU away or bring one back
abbrev pub IsFixed : Step → Type 0
IsFixed (Bind b) = ⊥
IsFixed (Unbind name) = ⊥
IsFixed (Juggle n) = ⊥
IsFixed (Offline n) = ⊥
IsFixed (Online n) = ⊥
IsFixed x = ⊤

-- it takes no CPU away and brings none back
abbrev pub IsHere : Step → Type 0
IsHere (Offline n) = ⊥
IsHere (Online n) = ⊥
IsHere x = ⊤

module _ (texts : List (List ℕ)) (f : ℕ → ℕ) (step id : ℕ) where
  left_forgotten : (j : ℕ) (s t : State) → id ≢ j → Left id s t → Left id s (forgotten j t)
  left_forgotten j s t ne h = left_then id s t (forgotten j t) h
      (record { found_ = refl; shut = λ no. no; placement = placement_forgotten_other j id t ne })

  left_polled : (j : ℕ) (s : State) → id ≢ j → Left id s (poll_id plain texts step j s).state
  left_polled j s ne =
      let o = each (poll plain j) (numbers (is_open j) s) s in
      by o (left_each id (poll plain j) (λ n u. left_poll id j n u ne) (numbers (is_open j) s) s) (cpus_having j o.state)
    where
      by : (o : Outcome) → Left id s o.state → (ns : List ℕ)
          → Left id s (polled step (text_of_id j texts s.names) j ns o).state
      by o h [] = left_forgotten j s o.state ne h
      by o h (n ∷ ns) = h

  left_polls : (ids : List ℕ) (s : State) → ((j : ℕ) → Has j ids → id ≢ j)
      → Left id s (each (poll_id plain texts step) ids s).state
  left_polls [] s ne = left_same id s
  left_polls (j ∷ ids) s ne =
      let t = (poll_id plain texts step j s).state in
      left_then id s t (each (poll_id plain texts step) ids t).state (left_polled j s (ne j (inl refl)))
      (left_polls ids t (λ i has. ne i (inr has)))

  -- what a step leaves of a cyclic to which it is nothing
  pub left_does : (x : Step) (s : State) → IsOther id s x → IsFixed x → id ≤ s.last_id → is_being_removed id s ≡ false
      → Left id s (does plain texts f step x s).state
  left_does (Add a) s is fixed low shut =
      let n = destination_of None s in let u = given a.name (On n false) s in
      let t = (does plain texts f step (Add a) s).state in
      let new : id ≢ s.last_id + 1 = λ e. absurd (omega (arith, low, e)) in record {
        found_ = found_enter id f n (added a s) u (λ e. new (sym e));
        shut = λ no. same_leaving id s t (keeps_enter removal_of removal_alike f n (added a s) u) ∙ no;
        placement = placement_given_other a.name (On n false) s id new;
      }
  left_does (Omni a) s is fixed low shut =
      let u = given a.name (OnAll (everywhere a)) s in
      let t = (does plain texts f step (Omni a) s).state in
      let new : id ≢ s.last_id + 1 = λ e. absurd (omega (arith, low, e)) in record {
        found_ = found_enters id f (s.last_id + 1) (everywhere a) (cpus_online u) u (λ e. new (sym e));
        shut = λ no. same_leaving id s t
            (keeps_enters removal_of removal_alike f (s.last_id + 1) (everywhere a) (cpus_online u) u) ∙ no;
        placement = placement_enters id f (s.last_id + 1) (everywhere a) (cpus_online u) u
            ∙ placement_given_other a.name (OnAll (everywhere a)) s id new;
      }
  left_does (Bind b) s is fixed low shut = absurd fixed
  left_does (Unbind name) s is fixed low shut = absurd fixed
  left_does (Reprogram q) s is fixed low shut =
      let n = cpu_meant q.cpu (id_of q.name s) s in
      let h = reprogram_here (id_of q.name s) (magnitude q.moment) in
      let t = (does plain texts f step (Reprogram q) s).state in record {
        found_ = on_same (found_in id) n h s (found_moment id (id_of q.name s) (magnitude q.moment) (cpu_of n s).cyclics is);
        shut = λ no. same_leaving id s t (on_same removal_of n h s refl) ∙ no;
        placement = refl;
      }
  left_does (Remove name) s is fixed low shut =
      let j = id_of name s in
      let o = each (begin plain j) (cpus_having j s) s in
      by o (left_each id (begin plain j) (λ n u. left_begin id j n u is) (cpus_having j s) s) (cpus_having j o.state)
    where
      by : (o : Outcome) → Left id s o.state → (ns : List ℕ)
          → Left id s (begun plain step (text_in texts name) (id_of name s) ns o).state
      by o h [] = left_forgotten (id_of name s) s o.state is h
      by o h (n ∷ ns) = h
  left_does (Advance now) s is fixed low shut = absurd is
  left_does (Softint i) s is fixed low shut =
      let o = interrupt step i s in
      let same = same_serve i.cpu i.budget i.level (cpu_of i.cpu s) in
      let shut2 = same_leaving id s o.state (on_same removal_of i.cpu (serve_here i.cpu i.level i.budget) s same.removal)
      ∙ shut in
      left_then id s o.state (does plain texts f step (Softint i) s).state (record {
        found_ = on_same (found_in id) i.cpu (serve_here i.cpu i.level i.budget) s (ap (found id) same.cyclics);
        shut = λ no. shut2;
        placement = refl;
      })
      (left_polls (leaving_ids o.state) o.state
      (λ j has e. let l = (filtered (λ i. is_being_removed i o.state) j (map (λ p. p.id) o.state.placed) has).1 in
      let no : false ≡ true = sym shut2 ∙ (ap (λ i. is_being_removed i o.state) e ∙ l) in cc))
  left_does (Juggle n) s is fixed low shut = absurd fixed
  left_does (Offline n) s is fixed low shut = absurd fixed
  left_does (Online n) s is fixed low shut = absurd fixed
  left_does Suspend s is fixed low shut = record { found_ = refl; shut = λ no. no; placement = refl }
  left_does Resume s is fixed low shut = record { found_ = refl; shut = λ no. no; placement = refl }

module _ (texts : List (List ℕ)) (f : ℕ → ℕ) (step id moment interval : ℕ) where
  abbrev Runs : State → Type 0
  Runs s = Running id moment interval s

  runs_kept : (s t : State) → Kept s t → seen removal_of t ≡ seen removal_of s → Runs s → Runs t
  runs_kept s t kept same r =
      let c = kept.cyclics id r.single in
      runs_alike id moment interval s t r (same_leaving id s t same ∙ r.stays) c.0 c.1

  runs_left : (x : Step) (s : State) → Good s → IsOther id s x → IsFixed x → Runs s
      → Runs (does plain texts f step x s).state
  runs_left x s g is fixed r =
      let h = left_does texts f step id x s is fixed (runs_known id moment interval s g r).2 r.stays in
      runs_there id moment interval s (does plain texts f step x s).state r (h.shut r.stays) h.placement h.found_

  pub runs_does : (x : Step) (s : State) (g : Good s) → refusal_of plain x s ≡ None → IsOther id s x → Runs s
      → Runs (does plain texts f step x s).state
  runs_does (Add a) s g why is r = runs_left (Add a) s g is tt r
  runs_does (Omni a) s g why is r = runs_left (Omni a) s g is tt r
  runs_does (Bind b) s g why is r = runs_kept s (does plain texts f step (Bind b) s).state
      (safe_does texts f step (Bind b) s tt g why) (keeps_bind removal_of removal_alike f step b s) r
  runs_does (Unbind name) s g why is r = runs_kept s (does plain texts f step (Unbind name) s).state
      (safe_does texts f step (Unbind name) s tt g why) refl r
  runs_does (Reprogram q) s g why is r = runs_left (Reprogram q) s g is tt r
  runs_does (Remove name) s g why is r = runs_left (Remove name) s g is tt r
  runs_does (Advance now) s g why is r = absurd is
  runs_does (Softint i) s g why is r = runs_left (Softint i) s g is tt r
  runs_does (Juggle n) s g why is r = runs_kept s (does plain texts f step (Juggle n) s).state
      (safe_does texts f step (Juggle n) s tt g why) (keeps_juggle removal_of removal_alike f step n s) r
  runs_does (Offline n) s g why is r = runs_kept s (does plain texts f step (Offline n) s).state
      (safe_does texts f step (Offline n) s tt g why) (keeps_offline f step n s) r
  runs_does (Online n) s g why is r = runs_kept s (does plain texts f step (Online n) s).state
      (safe_does texts f step (Online n) s tt g why) (keeps_online f step n s) r
  runs_does Suspend s g why is r = runs_left Suspend s g is tt r
  runs_does Resume s g why is r = runs_left Resume s g is tt r

-- ---- its own words

pub runs_moment : (id moment interval new : ℕ) (s : State) (g : Good s) → Running id moment interval s
    → Running id new interval (on_number (home_of id s) (reprogram_here id new) s).state
runs_moment id moment interval new s g r =
    let n = home_of id s in let c = cpu_of n s in
    let within = has_number s n id (ap is_some r.here) in
    let t = (on_number n (reprogram_here id new) s).state in
    let x = r.it in
    record {
      stays = same_leaving id s t (on_same removal_of n (reprogram_here id new) s refl) ∙ r.stays;
      single = r.single;
      it = record x { timer = record x.timer { moment = new } };
      here = ap (λ (d : Cpu). found id d.cyclics) (get_or-set_same s.cpus n (reprogram_here id new c).cpu absent within)
          ∙ (found_map (moment_at id new) (λ y. (moment_same id new y).0) id c.cyclics
          ∙ (ap (option_map (moment_at id new)) r.here
          ∙ ap (λ (b : Bool). Some (cond b (record x { timer = record x.timer { moment = new } }) x))
          (eq-eqb x.timer.id id (found_id id x c.cyclics r.here))));
      moment_is = refl;
      interval_is = r.interval_is;
    }

pub placement_fires : (id now : ℕ) (ns : List ℕ) (s : State)
    → placement_of id (each (λ n. on_number n (fire_here n now)) ns s).state ≡ placement_of id s
placement_fires id now [] s = refl
placement_fires id now (n ∷ ns) s = placement_fires id now ns (on_number n (fire_here n now) s).state

same_home : (n m : ℕ) (p : Option Placement) → IsAt n p → IsAt m p → is_placed_everywhere p ≡ false → n ≡ m
same_home n m None a b e = absurd a
same_home n m (Some (On k bound)) a b e = sym a ∙ b
same_home n m (Some (OnAll k)) a b e = absurd (cc)

pub runs_fired : (id moment interval now : ℕ) (s : State) → Good s → now < never → Running id moment interval s
    → Running id (next moment interval now) interval
    (each (λ n. on_number n (fire_here n now)) (cpus_online s) (record s { clock = now })).state
    × (expired_in id (each (λ n. on_number n (fire_here n now)) (cpus_online s) (record s { clock = now })).state
    ≡ expired_in id s + due moment interval now)
runs_fired id moment interval now s g before r =
    let q = record s { clock = now } in
    let ns = cpus_online s in
    let n = home_of id s in
    let t = (each (λ m. on_number m (fire_here m now)) ns q).state in
    let rise = numbers_rise (λ (c : Cpu). c.online) 0 s.cpus in
    let h = all_fired id now before 0 ns q (good_clock now s g) rise
    (λ m has. (numbers_pass (λ (c : Cpu). c.online) m s has).0) in
    let some = ap is_some r.here in
    let has = pass_numbers (λ (c : Cpu). c.online) n s (has_number s n id some) (g.spread.there n id some) in
    let at = (runs_known id moment interval s g r).0 in
    let later = subst (λ o. Later now o (found id (cpu_of n t).cyclics)) r.here (h.later n has) in
    let placement = placement_fires id now ns q in
    let only : (m : ℕ) → m ≢ n → due_at id now before q m ≡ 0 = λ m ne. none_due m ne (found id (cpu_of m s).cyclics) refl at in
    let sum = sum_one (due_at id now before q) n 0 ns rise has only in
    let mine : due_at id now before q n ≡ due moment interval now =
    ap (due_of_found now) r.here ∙ (λ i. due (r.moment_is i) (r.interval_is i) now) in
    let e = h.expired in (
      record {
        stays = not_open id t (λ m is. not_leaving id s r.stays m (sym (h.removal m) ∙ is));
        single = ap is_placed_everywhere placement ∙ r.single;
        it = later.0;
        here = ap (λ o. found id (cpu_of (home_at o) t).cyclics) placement ∙ later.1;
        moment_is = later.2 ∙ (λ i. next (r.moment_is i) (r.interval_is i) now);
        interval_is = later.3 ∙ r.interval_is;
      },
      e ∙ ap (λ k. expired_in id s + k) (sum ∙ mine),
    )
  where
    none_due : (m : ℕ) → m ≢ home_of id s → (o : Option CyclicState) → found id (cpu_of m s).cyclics ≡ o
        → IsAt (home_of id s) (placement_of id s) → due_of_found now o ≡ 0
    none_due m ne None is at = refl
    none_due m ne (Some x) is at =
        absurd (ne (same_home m (home_of id s) (placement_of id s) (g.base.homes m id (ap is_some is)) at r.single))

-- an id that is new is nowhere, and no removal of it is open
pub new_shut : (s : State) → Good s → is_being_removed (s.last_id + 1) s ≡ false
new_shut s g = not_open (s.last_id + 1) s (λ m is. none_and_some ⊥ (found (s.last_id + 1) (cpu_of m s).cyclics)
    (gone_away None s g.base (s.last_id + 1) (placement_new s g.base.rise) m) ((g.base.whole m).held (s.last_id + 1) is))

pub runs_added : (texts : List (List ℕ)) (f : ℕ → ℕ) (step : ℕ) (a : AddStep) (s : State) → Good s
    → Running (s.last_id + 1) (first (magnitude a.start) (magnitude a.interval) s.clock) (magnitude a.interval)
    (does plain texts f step (Add a) s).state
runs_added texts f step a s g =
    let n = destination_of None s in
    let id = s.last_id + 1 in
    let u = given a.name (On n false) s in
    let x = added a s in
    let k = f s.admissions in
    let t = (does plain texts f step (Add a) s).state in
    let placement : placement_of id t ≡ Some (On n false) = placement_given_new a.name (On n false) s g.base.rise in
    let dest = destination_online None s g.spread.some.0
    (pass_numbers (λ (c : Cpu). c.online) g.spread.some.0 s g.spread.some.1 g.spread.some.2) refl in
    let within = (numbers_pass (λ (c : Cpu). c.online) n s dest.0).0 in
    let none = gone_away None s g.base id (placement_new s g.base.rise) n in
    record {
      stays = same_leaving id s t (keeps_enter removal_of removal_alike f n x u) ∙ new_shut s g;
      single = ap is_placed_everywhere placement;
      it = x;
      here = ap (λ o. found id (cpu_of (home_at o) t).cyclics) placement
          ∙ (ap (λ (d : Cpu). found id d.cyclics) (get_or-set_same s.cpus n (enter_here n k x (cpu_of n s)).cpu absent within)
          ∙ (ap (found id) (cyclics_entered n k x (cpu_of n s)) ∙ put_same id x (cpu_of n s).cyclics refl none));
      moment_is = refl;
      interval_is = refl;
    }
