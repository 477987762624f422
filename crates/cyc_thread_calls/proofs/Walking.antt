-- A run of a calm script is met as the closed form says.
use Rattle.std.proofs.Common.{ap, ◌∙◌, not}
use Rattle.std.proofs.lemmas.List.{length-replicate}
use Rattle.cyc_system_rings.proofs.Suspending.{suspend_met, resume_met}
use Rattle.cyc_thread_calls.proofs.Marks.{step_same, begins_same, fires_same}
use Rattle.cyc_agreement.specs.Suspending.{is_suspended}
use Rattle.std.proofs.Common.{length, ◌≡◌, ◌==◌, ℕ, ◌+◌, ◌≤◌, ◌⊎◌, inl, inr, Bool, true, false, cond}
use Rattle.std.proofs.Common.{List, [], ◌∷◌, refl, sym, subst, arith}
use Rattle.std.specs.Prelude.{nat_lt, nat_le, ◌&&◌}
use Rattle.cyc_types.specs.declared.Calls.{Ghosts as Calls}
use Rattle.cyc_types.specs.declared.Raise.{Ghosts as Raise}
use Rattle.cyc_types.specs.Limits.{cyclics as most_cyclics}
use Rattle.cyc_types.specs.Series.{never}
use Rattle.cyc_types.proofs.Facts.{lt_so}
use Rattle.cyc_script.specs.declared.step.Step.{Step}
use Rattle.cyc_script.specs.declared.step.Step.TheVariants as steps
use Rattle.cyc_script.specs.WellFormed.{name_fits, names_fit, names_after, names_after_all, moment_fits, moments_fit}
use Rattle.cyc_script.specs.WellFormed.{moment_after}
use Rattle.cyc_expected.specs.Calm.{OnlyMoves, AgreeButMoves}
use Rattle.cyc_threads.proofs.Lists.{eq_true}
use Rattle.cyc_threads.specs.declared.progress.Progress.{Progress}
use Rattle.cyc_threads.specs.Words.{DoesStep, Begins, waits_first}
use Rattle.cyc_threads.specs.Steps.{TakesSteps, Runs}
use Rattle.cyc_thread_calls.specs.Leading.{call_of, calls_in, wait_calls, step_calls, steps_calls, run_calls}
use Rattle.cyc_thread_calls.specs.Meeting.{was_accepted, steps_met, way_of_run}
use Rattle.cyc_thread_calls.specs.Way.{Standing, Absent, is_taken, after_step, suspended_after, taken_from, calm_way}
use Rattle.cyc_thread_calls.specs.Memory.{NoMemoryRefused}
use Rattle.cyc_thread_calls.proofs.Fitting.{Fits}
use Rattle.cyc_thread_calls.proofs.Waiting.{IsCalmNow, HasWaited, waited_calm, wait_fits}
use Rattle.cyc_thread_calls.proofs.Moving.{stays_same, word_stays}
use Rattle.cyc_thread_calls.proofs.Stepping.{NextCalm, add_next, omni_next}
use Rattle.cyc_thread_calls.proofs.Ending.{remove_ended, advance_fits, advance_calm}
use Rattle.cyc_thread_calls.proofs.Agreeing.{same_has, set_fits, Spaced, both, memory_split, more_names, stays_next}
use Rattle.cyc_thread_calls.proofs.Agreeing.{reprogram_next, back_stays}

module _ {C R : Type 0} (handler : Calls C)
    (firing : Raise R) (cpus names : ℕ) (few : names ≤ most_cyclics) where
  abbrev Next' : (suspended : Bool) (given : ℕ) (has : ℕ → Standing) (x : Step) (s t : Progress R C)
      → DoesStep handler firing x s t
      → Type 0
  Next' suspended given has x s t d = NextCalm handler firing cpus names few suspended given has x s t d

  -- what is true stays to the end
  abbrev Ends : Progress R C → Type 0
  Ends t = (given : ℕ) × (has : ℕ → Standing) × Fits firing cpus names given has t

  -- what is to be shown of the steps that are left
  abbrev Agree : (suspended : Bool) (has : ℕ → Standing) (xs : List Step) (s t : Progress R C) → TakesSteps handler firing s xs t
      → Type 0
  Agree suspended has xs s t takes = AgreeButMoves (steps_met handler firing s xs t takes) (taken_from cpus suspended has xs) ×
      Ends t

  -- what is known of them
  record Left (b : Bool) (given m : ℕ) (suspended : Bool) (has : ℕ → Standing) (xs : List Step) (s t : Progress R C)
      (takes : TakesSteps handler firing s xs t) : Type 0 where
    pub fits : Fits firing cpus names given has s
    pub calm : b ≡ true → IsCalmNow firing s
    pub marks : is_suspended s.side.system ≡ suspended
    pub spaced : Spaced b xs
    pub in_order : names_fit given xs ≡ true
    pub all : names_after_all given xs ≡ names
    pub moments : moments_fit m xs ≡ true
    pub memory : NoMemoryRefused (steps_calls handler firing s xs t takes)

  -- what the names have after a step
  abbrev Then : (suspended : Bool) (has : ℕ → Standing) (x : Step) → ℕ → Standing
  Then suspended has x = cond (is_taken cpus suspended has x) (after_step x has) has

  -- a step was met as the closed form says, and what is known stays
  record One (given m : ℕ) (suspended : Bool) (has : ℕ → Standing) (x : Step) (xs : List Step) (u v t : Progress R C)
      (does : DoesStep handler firing x u v) (rest : TakesSteps handler firing v xs t) : Type 0 where
    pub met : OnlyMoves x ⊎ (was_accepted handler firing x u v does ≡ is_taken cpus suspended has x)
    pub alone : Bool
    pub left : Left alone (names_after given x) (moment_after m x) (suspended_after x suspended)
        (Then suspended has x) xs v t rest

  module _ (b : Bool) (given m : ℕ) (suspended : Bool) (has : ℕ → Standing) where
    -- of what is known some is of the script and of the calls alone
    one : (c : Bool) (x : Step) (xs : List Step) (s u v t : Progress R C) (begins : Begins firing (waits_first x) s u)
        (does : DoesStep handler firing x u v) (rest : TakesSteps handler firing v xs t)
        → Left b given m suspended has (x ∷ xs) s t (v, (u, begins, does), rest)
        → OnlyMoves x ⊎ (was_accepted handler firing x u v does ≡ is_taken cpus suspended has x)
        → Fits firing cpus names (names_after given x) (Then suspended has x) v → (c ≡ true → IsCalmNow firing v)
        → Spaced c xs → is_suspended v.side.system ≡ suspended_after x suspended
        → One given m suspended has x xs u v t does rest
    one c x xs s u v t begins does rest l met fits calm spaced marks = record {
      met = met;
      alone = c;
      left = record {
        fits = fits;
        calm = calm;
        marks = marks;
        spaced = spaced;
        in_order = (both (name_fits given x) (names_fit (names_after given x) xs) l.in_order).1;
        all = l.all;
        moments = (both (moment_fits m x) (moments_fit (moment_after m x) xs) l.moments).1;
        memory = (memory_split (step_calls handler firing s x v (u, begins, does)) (steps_calls handler firing v xs t rest)
            l.memory).1;
      };
    }

    -- a step that waits first
    waited_one : (x : Step) (xs : List Step) (s u v t : Progress R C) (begins : Begins firing (waits_first x) s u)
        (does : DoesStep handler firing x u v) (rest : TakesSteps handler firing v xs t)
        → Left b given m suspended has (x ∷ xs) s t (v, (u, begins, does), rest) → HasWaited firing u
        → Next' suspended given has x u v does → Spaced true xs → is_suspended v.side.system ≡ suspended_after x suspended
        → One given m suspended has x xs u v t does rest
    waited_one x xs s u v t begins does rest l waited n spaced marks =
        one true x xs s u v t begins does rest l n.next.agree n.next.fits (λ e. n.calm (waited_calm firing u waited)) spaced marks

    -- one that introduces a name
    low : (x : Step) (xs : List Step) (s t : Progress R C) (takes : TakesSteps handler firing s (x ∷ xs) t)
        → Left b given m suspended has (x ∷ xs) s t takes → names_after given x ≡ given + 1 → given + 1 ≤ names
    low x xs s t takes l next =
        let more = more_names (names_after given x) xs in let all = l.all in omega (arith, more, all, next)

    each : (x : Step) (xs : List Step) (s u v t : Progress R C) (begins : Begins firing (waits_first x) s u)
        (does : DoesStep handler firing x u v) (rest : TakesSteps handler firing v xs t)
        → Left b given m suspended has (x ∷ xs) s t (v, (u, begins, does), rest) → One given m suspended has x xs u v t does rest
    each (steps.Add a) xs s u v t begins does rest l =
        let (fits, waited) = wait_fits firing cpus names given has s u begins l.fits in
        let (own, others) = memory_split (step_calls handler firing s (steps.Add a) v (u, begins, does))
        (steps_calls handler firing v xs t rest) l.memory in
        let made = (memory_split (wait_calls firing s u begins)
        (calls_in (call_of handler firing (steps.Add a) u v does)) own).1 in
        let name = eq_true a.name given (both (a.name == given) (names_fit (given + 1) xs) l.in_order).0 in
        let room = low (steps.Add a) xs s t (v, (u, begins, does), rest) l refl in
        waited_one (steps.Add a) xs s u v t begins does rest l waited (add_next handler firing cpus names few suspended given has
        a u v does fits waited room (omega (arith, name, room)) made) l.spaced
        (step_same handler firing (steps.Add a) s u v tt begins does ∙ l.marks)
    each (steps.Omni a) xs s u v t begins does rest l =
        let (fits, waited) = wait_fits firing cpus names given has s u begins l.fits in
        let (own, others) = memory_split (step_calls handler firing s (steps.Omni a) v (u, begins, does))
        (steps_calls handler firing v xs t rest) l.memory in
        let made = (memory_split (wait_calls firing s u begins) (calls_in (call_of handler firing (steps.Omni a) u v does)) own).1
        in
        let name = eq_true a.name given (both (a.name == given) (names_fit (given + 1) xs) l.in_order).0 in
        let room = low (steps.Omni a) xs s t (v, (u, begins, does), rest) l refl in
        waited_one (steps.Omni a) xs s u v t begins does rest l waited
        (omni_next handler firing cpus names few suspended given has
        a u v does fits waited room (omega (arith, name, room)) made) l.spaced
        (step_same handler firing (steps.Omni a) s u v tt begins does ∙ l.marks)
    each (steps.Reprogram r) xs s u v t begins does rest l =
        let (fits, waited) = wait_fits firing cpus names given has s u begins l.fits in
        waited_one (steps.Reprogram r) xs s u v t begins does rest l waited
        (reprogram_next handler firing cpus names few suspended given has r u v does fits waited) l.spaced
        (step_same handler firing (steps.Reprogram r) s u v tt begins does ∙ l.marks)
    each (steps.Online n) xs s u v t begins does rest l =
        let (fits, waited) = wait_fits firing cpus names given has s u begins l.fits in
        let (refused, stays) = back_stays firing cpus names given has n does.0 u v does.1 fits in
        waited_one (steps.Online n) xs s u v t begins does rest l waited
        (stays_next handler firing cpus names few suspended given has (steps.Online n) u v does refl refl (inr refused) stays)
        l.spaced (step_same handler firing (steps.Online n) s u v tt begins does ∙ l.marks)
    each (steps.Offline n) xs s u v t begins does rest l = absurd l.spaced
    each (steps.Remove name) xs s u v t same does rest l =
        let fits = subst (λ (p : Progress R C). Fits firing cpus names given has p) (sym same) l.fits in
        let calm = subst (λ (p : Progress R C). IsCalmNow firing p) (sym same) (l.calm l.spaced.0) in
        let (met, after) = remove_ended firing cpus names given has name u v does fits calm in
        one false (steps.Remove name) xs s u v t same does rest l (inr met) after
        (λ e. absurd (let odd : false ≡ true = e in cc)) l.spaced.1
        (step_same handler firing (steps.Remove name) s u v tt same does ∙ l.marks)
    each (steps.Advance now) xs s u v t same (inl (asleep, e)) rest l =
        let early = lt_so now never (both (nat_le m now) (nat_lt now never)
        (both (nat_le m now && nat_lt now never) (moments_fit now xs) l.moments).0).1 in
        let before = ap (λ (p : Progress R C). is_suspended p.side.system) same in
        let on : suspended ≡ true = sym l.marks ∙ (sym before ∙ asleep) in
        let fits = subst (λ (p : Progress R C). Fits firing cpus names given has p) (sym same) l.fits in
        one b (steps.Advance now) xs s u v t same (inl (asleep, e)) rest l (inr (sym (ap not on)))
        (same_has firing cpus names given has (not suspended) v (subst (λ (p : Progress R C). Fits firing cpus names given has p)
        (sym e) (set_fits firing cpus names given has now u early fits)))
        (λ q. subst (λ (p : Progress R C). IsCalmNow firing p) (sym e)
        (let c = subst (λ (p : Progress R C). IsCalmNow firing p) (sym same) (l.calm q) in
        record { none = c.none; still = c.still }))
        l.spaced (ap (λ (p : Progress R C). is_suspended p.side.system) e ∙ (before ∙ l.marks))
    each (steps.Advance now) xs s u v t same (inr f) rest l =
        let early = lt_so now never (both (nat_le m now) (nat_lt now never)
        (both (nat_le m now && nat_lt now never) (moments_fit now xs) l.moments).0).1 in
        let before = ap (λ (p : Progress R C). is_suspended p.side.system) same in
        let off : suspended ≡ false = sym l.marks ∙ (sym before ∙ f.awake) in
        let fits = subst (λ (p : Progress R C). Fits firing cpus names given has p) (sym same) l.fits in
        one b (steps.Advance now) xs s u v t same (inr f) rest l (inr (sym (ap not off)))
        (same_has firing cpus names given has (not suspended) v
        (advance_fits handler firing cpus names given has now u v f early fits))
        (λ e. advance_calm handler firing cpus names given has now u v f fits
        (subst (λ (p : Progress R C). IsCalmNow firing p) (sym same) (l.calm e)))
        l.spaced (fires_same handler firing now u v f fits.ready
        (ap length fits.online ∙ length-replicate cpus true ∙ sym fits.many) ∙ (before ∙ l.marks))
    each (steps.Softint i) xs s u v t begins does rest l =
        let (fits, waited) = wait_fits firing cpus names given has s u begins l.fits in
        waited_one (steps.Softint i) xs s u v t begins does rest l waited
        (stays_next handler firing cpus names few suspended given has (steps.Softint i) u v does refl refl (inl tt)
        (stays_same firing cpus names given has u v does fits))
        l.spaced (step_same handler firing (steps.Softint i) s u v tt begins does ∙ l.marks)
    each steps.Suspend xs s u v t begins does rest l =
        let (fits, waited) = wait_fits firing cpus names given has s u begins l.fits in
        let (taken, after) = suspend_met firing does.0 u.side.system v.side.system waited.sound.agrees does.1.did in
        let was = begins_same handler firing true s u begins ∙ l.marks in
        waited_one steps.Suspend xs s u v t begins does rest l waited
        (stays_next handler firing cpus names few suspended given has steps.Suspend u v does refl refl (inr (taken ∙ ap not was))
        (word_stays handler firing cpus names given has steps.Suspend u v tt tt does fits)) l.spaced after
    each steps.Resume xs s u v t begins does rest l =
        let (fits, waited) = wait_fits firing cpus names given has s u begins l.fits in
        let (taken, after) = resume_met firing does.0 u.side.system v.side.system waited.sound.agrees does.1.did in
        let was = begins_same handler firing true s u begins ∙ l.marks in
        waited_one steps.Resume xs s u v t begins does rest l waited
        (stays_next handler firing cpus names few suspended given has steps.Resume u v does refl refl (inr (taken ∙ was))
        (word_stays handler firing cpus names given has steps.Resume u v tt tt does fits)) l.spaced after
    each x xs s u v t begins does rest l =
        let (fits, waited) = wait_fits firing cpus names given has s u begins l.fits in
        waited_one x xs s u v t begins does rest l waited
        (stays_next handler firing cpus names few suspended given has x u v does refl refl (inl tt)
        (word_stays handler firing cpus names given has x u v tt tt does fits))
        l.spaced (step_same handler firing x s u v tt begins does ∙ l.marks)

  agree : (b : Bool) (given m : ℕ) (suspended : Bool) (has : ℕ → Standing) (xs : List Step) (s t : Progress R C)
      (takes : TakesSteps handler firing s xs t) → Left b given m suspended has xs s t takes → Agree suspended has xs s t takes
  agree b given m suspended has [] s t takes l =
      (tt, (given, has, subst (λ (p : Progress R C). Fits firing cpus names given has p) takes l.fits))
  agree b given m suspended has (x ∷ xs) s t (v, (u, begins, does), rest) l =
      let o = each b given m suspended has x xs s u v t begins does rest l in
      let (more, ends) = agree o.alone (names_after given x) (moment_after m x) (suspended_after x suspended)
      (Then suspended has x) xs v t rest o.left in
      ((refl, o.met, more), ends)

  -- the whole run, after which there are as many names as before it
  pub run_agrees : (xs : List Step) (s t : Progress R C) (runs : Runs handler firing s xs t)
      → Fits firing cpus names 0 (λ name. Absent) s → IsCalmNow firing s → is_suspended s.side.system ≡ false → Spaced true xs →
      names_fit 0 xs ≡ true
      → names_after_all 0 xs ≡ names → moments_fit 0 xs ≡ true
      → NoMemoryRefused (run_calls handler firing s xs t runs)
      → AgreeButMoves (way_of_run handler firing s xs t runs) (calm_way cpus xs) × (length t.names ≡ names)
  run_agrees xs s t (u, takes, waits) fits calm marks spaced order all moments memory =
      let (met, (given, has, ends)) = agree true 0 0 false (λ name. Absent) xs s u takes (record {
        fits = fits;
        calm = λ e. calm;
        marks = marks;
        spaced = spaced;
        in_order = order;
        all = all;
        moments = moments;
        memory = (memory_split (steps_calls handler firing s xs u takes) (wait_calls firing u t waits) memory).0;
      }) in (met, (wait_fits firing cpus names given has u t waits ends).0.long)
