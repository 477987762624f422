-- Once the removal of an id is open, or has answered, nothing of it is due, and so it stays.
use Rattle.std.proofs.Common.{◌≡◌, ◌≢◌, ℕ, ◌+◌, ◌<◌, ◌≤◌, Bool, true, false, List, [], ◌∷◌, refl}
use Rattle.std.proofs.Common.{ap, sym, ◌∙◌, subst, Option, Some, None, inl, inr, ⊎_elim, ◌⊎◌}
use Rattle.std.specs.Prelude.{is_some}
use mathlib.Core.Logic.{dite}
use native.Mathlib.Decide.{ℕ_discrete}
use Rattle.cyc_types.specs.Series.{never, due}
use Rattle.cyc_script.specs.declared.step.Step.{Step}
use Rattle.cyc_script.specs.declared.step.Step.TheVariants.{Add, Omni, Bind, Unbind, Reprogram, Remove, Advance, Softint, Juggle}
use Rattle.cyc_script.specs.declared.step.Step.TheVariants.{Offline, Online, Suspend, Resume}
use Rattle.cyc_model.specs.Cpu.{CyclicState, Cpu}
use Rattle.cyc_model.specs.Moving.{reprogram_here}
use Rattle.cyc_model.specs.Serving.{serve_here}
use Rattle.cyc_model.specs.Questions.{plain}
use Rattle.cyc_model.specs.State.{State, Outcome, On, OnAll, Placement, cpu_of, each, numbers, cpus_online, cpus_having}
use Rattle.cyc_model.specs.Places.{id_of, placement_of, is_being_removed, destination_of, given, forgotten}
use Rattle.cyc_model.specs.Refusals.{magnitude}
use Rattle.cyc_model.specs.Add.{added}
use Rattle.cyc_model.specs.Omni.{everywhere}
use Rattle.cyc_model.specs.Remove.{begin, poll, begun}
use Rattle.cyc_model.specs.Reprogram.{cpu_meant}
use Rattle.cyc_model.specs.Softint.{interrupt, is_open, leaving_ids, text_of_id, polled, poll_id}
use Rattle.cyc_model.specs.Script.{refusal_of, does, text_in}
use Rattle.cyc_model.proofs.Rising.{found, due_of_found}
use Rattle.cyc_model.proofs.Placing.{placement_forgotten, placement_known}
use Rattle.cyc_model.proofs.Serves.{same_serve}
use Rattle.cyc_model.proofs.Base.{IsAt, IsGone, gone_away}
use Rattle.cyc_model.proofs.Numbers.{numbers_rise, numbers_pass, not_leaving}
use Rattle.cyc_model.proofs.Refusing.{fires_before}
use Rattle.cyc_model.proofs.Spread.{Good}
use Rattle.cyc_model.proofs.Calm.{good_clock, well_interrupt}
use Rattle.cyc_model.proofs.Removing.{Removing, first_with}
use Rattle.cyc_model.proofs.Answering.{all_leaving, begun_removal, open_removal, well_poll}
use Rattle.cyc_model.proofs.Staying.{leaving_where}
use Rattle.cyc_model.proofs.Printing.{polls_keep}
use Rattle.cyc_model.proofs.Reaching.{well_does}
use Rattle.cyc_model.proofs.Fires.{never_due}
use Rattle.cyc_expected.proofs.Seen.{seen, on_same, removal_of, removal_alike, same_leaving, keeps_enter, keeps_enters}
use Rattle.cyc_expected.proofs.Seen.{keeps_bind, keeps_juggle}
use Rattle.cyc_expected.proofs.Seen.{keeps_offline, keeps_online}
use Rattle.cyc_expected.proofs.Fires.{all_fired}

-- no id of this cyclic was given, its removal has answered, or it is open
abbrev pub Stopped : ℕ → State → Type 0
Stopped id s = IsGone id s ⊎ (is_being_removed id s ≡ true)

leaving_by : (id m : ℕ) (s : State) → (cpu_of m s).removal ≡ Some id → is_being_removed id s ≡ true
leaving_by id m s is = by (is_being_removed id s) refl
  where
    by : (b : Bool) → is_being_removed id s ≡ b → is_being_removed id s ≡ true
    by true e = e
    by false e = absurd (not_leaving id s e m is)

-- ---- nothing is due

pub none_due : (id now : ℕ) (s : State) → Good s → now < never → Stopped id s → (m : ℕ)
    → due_of_found now (found id (cpu_of m s).cyclics) ≡ 0
none_due id now s g before stopped m = ⊎_elim
    (λ gone. ap (due_of_found now) (gone_away None s g.base id gone.1 m))
    (λ leaves. by leaves (found id (cpu_of m s).cyclics) refl) stopped
  where
    by : is_being_removed id s ≡ true → (o : Option CyclicState) → found id (cpu_of m s).cyclics ≡ o → due_of_found now o ≡ 0
    by leaves None e = refl
    by leaves (Some x) e =
        let k = leaving_where id s leaves in
        let open_ = all_leaving id k.0 s g k.1 m (ap is_some e) in
        ap (λ (t : ℕ). due t x.timer.interval now) ((g.base.whole m).still id x open_ e) ∙ never_due x.timer.interval now before

-- an id whose removal is open was given
pub leaving_given : (id : ℕ) (s : State) → Good s → is_being_removed id s ≡ true → id ≤ s.last_id
leaving_given id s g leaves =
    let k = leaving_where id s leaves in
    by k.0 (placement_of id s) refl (g.base.homes k.0 id ((g.base.whole k.0).held id k.1))
  where
    by : (n : ℕ) (o : Option Placement) → placement_of id s ≡ o → IsAt n (placement_of id s) → id ≤ s.last_id
    by n None at here = absurd (subst (λ p. IsAt n p) at here)
    by n (Some p) at here = (placement_known id s p g.base.rise at).1

-- ---- removals

pub own_stopped : (j : ℕ) (s : State) (t : State) → Removing j s t → j ≤ s.last_id → (ns : List ℕ) → cpus_having j t ≡ ns
    → (n : ℕ) × (rest : List ℕ) × (ns ≡ n ∷ rest) → Stopped j t
own_stopped j s t h low ns e (n, rest, are) =
    inr (leaving_by j n t (h.leaving n (first_with j n rest t (e ∙ are))))

pub gone_stopped : (j : ℕ) (s t : State) → Removing j s t → j ≤ s.last_id → Stopped j (forgotten j t)
gone_stopped j s t h low = inl (subst (λ k. j ≤ k) (sym h.steady.last_id) low, placement_forgotten j t)

-- ---- the words

module _ (texts : List (List ℕ)) (f : ℕ → ℕ) (step : ℕ) (id : ℕ) where
  open_kept : (s t : State) → seen removal_of t ≡ seen removal_of s → is_being_removed id s ≡ true → Stopped id t
  open_kept s t same leaves = inr (same_leaving id s t same ∙ leaves)

  -- where the removal of its id is done
  pub removed_stopped : (name : ℕ) (s : State) (g : Good s) → refusal_of plain (Remove name) s ≡ None → id_of name s ≡ id
      → id ≤ s.last_id → Stopped id (does plain texts f step (Remove name) s).state
  removed_stopped name s g why same low =
      let o = each (begin plain (id_of name s)) (cpus_having (id_of name s) s) s in
      subst (λ i. Stopped i (does plain texts f step (Remove name) s).state) same
      (by o (begun_removal name s g why) (subst (λ i. i ≤ s.last_id) (sym same) low) (cpus_having (id_of name s) o.state) refl)
    where
      by : (o : Outcome) → Removing (id_of name s) s o.state → id_of name s ≤ s.last_id → (ns : List ℕ)
          → cpus_having (id_of name s) o.state ≡ ns
          → Stopped (id_of name s) (begun plain step (text_in texts name) (id_of name s) ns o).state
      by o h le [] e = gone_stopped (id_of name s) s o.state h le
      by o h le (n ∷ ns) e = own_stopped (id_of name s) s o.state h le (n ∷ ns) e (n, ns, refl)

  other_removed : (name : ℕ) (s : State) (g : Good s) → refusal_of plain (Remove name) s ≡ None → id ≢ id_of name s
      → is_being_removed id s ≡ true → Stopped id (does plain texts f step (Remove name) s).state
  other_removed name s g why ne leaves =
      let o = each (begin plain (id_of name s)) (cpus_having (id_of name s) s) s in
      by o (begun_removal name s g why) (cpus_having (id_of name s) o.state)
    where
      by : (o : Outcome) → Removing (id_of name s) s o.state → (ns : List ℕ)
          → Stopped id (begun plain step (text_in texts name) (id_of name s) ns o).state
      by o h [] = let k = leaving_where id s leaves in inr (leaving_by id k.0 o.state (h.stays id ne k.0 k.1))
      by o h (n ∷ ns) = let k = leaving_where id s leaves in inr (leaving_by id k.0 o.state (h.stays id ne k.0 k.1))

  own_polled : (s : State) (g : Good s) → is_being_removed id s ≡ true → Stopped id (poll_id plain texts step id s).state
  own_polled s g leaves =
      let k = leaving_where id s leaves in
      let o = each (poll plain id) (numbers (is_open id) s) s in
      by o (open_removal id s g k.0 k.1) (leaving_given id s g leaves) (cpus_having id o.state) refl
    where
      by : (o : Outcome) → Removing id s o.state → id ≤ s.last_id → (ns : List ℕ) → cpus_having id o.state ≡ ns
          → Stopped id (polled step (text_of_id id texts s.names) id ns o).state
      by o h le [] e = gone_stopped id s o.state h le
      by o h le (n ∷ ns) e = own_stopped id s o.state h le (n ∷ ns) e (n, ns, refl)

  one_polled : (j : ℕ) (s : State) → Good s → Stopped id s → Stopped id (poll_id plain texts step j s).state
  one_polled j s g = ⊎_elim
      (λ gone. inl ((well_poll j s g texts step).0.gone id gone))
      (λ leaves. dite (ℕ_discrete id j)
      (λ e. subst (λ k. Stopped id (poll_id plain texts step k s).state) e (own_polled s g leaves))
      (λ ne. let k = leaving_where id s leaves in
      inr (leaving_by id k.0 (poll_id plain texts step j s).state (polls_keep texts step j id k.0 s g ne k.1))))

  all_polled : (ids : List ℕ) (s : State) → Good s → Stopped id s → Stopped id (each (poll_id plain texts step) ids s).state
  all_polled [] s g stopped = stopped
  all_polled (j ∷ ids) s g stopped =
      all_polled ids (poll_id plain texts step j s).state (well_poll j s g texts step).1 (one_polled j s g stopped)

  leaving_does : (x : Step) (s : State) (g : Good s) → refusal_of plain x s ≡ None → is_being_removed id s ≡ true
      → Stopped id (does plain texts f step x s).state
  leaving_does (Add a) s g why leaves =
      let n = destination_of None s in let r = given a.name (On n false) s in
      open_kept s (does plain texts f step (Add a) s).state (keeps_enter removal_of removal_alike f n (added a s) r) leaves
  leaving_does (Omni a) s g why leaves =
      let r = given a.name (OnAll (everywhere a)) s in
      open_kept s (does plain texts f step (Omni a) s).state
      (keeps_enters removal_of removal_alike f (s.last_id + 1) (everywhere a) (cpus_online r) r) leaves
  leaving_does (Bind b) s g why leaves =
      open_kept s (does plain texts f step (Bind b) s).state (keeps_bind removal_of removal_alike f step b s) leaves
  leaving_does (Unbind name) s g why leaves = inr leaves
  leaving_does (Reprogram r) s g why leaves =
      let n = cpu_meant r.cpu (id_of r.name s) s in
      open_kept s (does plain texts f step (Reprogram r) s).state
      (on_same removal_of n (reprogram_here (id_of r.name s) (magnitude r.moment)) s refl) leaves
  leaving_does (Remove name) s g why leaves = dite (ℕ_discrete (id_of name s) id)
      (λ e. removed_stopped name s g why e (leaving_given id s g leaves))
      (λ ne. other_removed name s g why (λ e. ne (sym e)) leaves)
  leaving_does (Advance now) s g why leaves =
      let r = record s { clock = now } in
      let k = leaving_where id s leaves in
      let h = all_fired id now (fires_before now s why) 0 (cpus_online s) r (good_clock now s g)
      (numbers_rise (λ (c : Cpu). c.online) 0 s.cpus) (λ m has. (numbers_pass (λ (c : Cpu). c.online) m s has).0) in
      inr (leaving_by id k.0 (does plain texts f step (Advance now) s).state (h.removal k.0 ∙ k.1))
  leaving_does (Softint i) s g why leaves =
      let o = interrupt step i s in
      all_polled (leaving_ids o.state) o.state (well_interrupt step i s g why).1
      (open_kept s o.state (on_same removal_of i.cpu (serve_here i.cpu i.level i.budget) s
      (same_serve i.cpu i.budget i.level (cpu_of i.cpu s)).removal) leaves)
  leaving_does (Juggle n) s g why leaves =
      open_kept s (does plain texts f step (Juggle n) s).state (keeps_juggle removal_of removal_alike f step n s) leaves
  leaving_does (Offline n) s g why leaves =
      open_kept s (does plain texts f step (Offline n) s).state (keeps_offline f step n s) leaves
  leaving_does (Online n) s g why leaves =
      open_kept s (does plain texts f step (Online n) s).state (keeps_online f step n s) leaves
  leaving_does Suspend s g why leaves = inr leaves
  leaving_does Resume s g why leaves = inr leaves

  pub stopped_does : (x : Step) (s : State) (g : Good s) → refusal_of plain x s ≡ None → Stopped id s
      → Stopped id (does plain texts f step x s).state
  stopped_does x s g why = ⊎_elim (λ gone. inl ((well_does texts f step x s g why).0.gone id gone))
      (λ leaves. leaving_does x s g why leaves)
