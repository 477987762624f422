-- The steps of a run, one after another: each was accepted, or there is why not.
use Rattle.std.proofs.Common.{◌∙◌, sym, subst, Bool, cond}
use Rattle.cyc_agreement.specs.Suspending.{is_suspended}
use Rattle.cyc_thread_calls.proofs.Marks.{LeavesSuspended, does_same, begins_same, fires_same}
use Rattle.cyc_thread_reasons.proofs.Marking.{suspend_of, resume_of}
use Rattle.std.proofs.Common.{◌≡◌, ℕ, ◌+◌, ◌≤◌, inl, inr, true, false, List, [], ◌∷◌, length, refl, ap, arith}
use Rattle.std.specs.Prelude.{nat_lt, nat_le, not}
use Rattle.std.proofs.lemmas.Bool.{or_left}
use Rattle.cyc_types.specs.declared.Calls.{Ghosts as Calls}
use Rattle.cyc_types.specs.declared.Raise.{Ghosts as Raise}
use Rattle.cyc_types.specs.Series.{never}
use Rattle.cyc_types.proofs.Facts.{lt_so}
use Rattle.cyc_script.specs.declared.step.Step.{Step}
use Rattle.cyc_script.specs.declared.step.Step.TheVariants as steps
use Rattle.cyc_script.specs.WellFormed.{name_fits, names_after, names_fit, names_after_all, moment_fits, moment_after}
use Rattle.cyc_script.specs.WellFormed.{moments_fit}
use Rattle.cyc_thread_calls.proofs.Lists.{eq_true}
use Rattle.cyc_thread_calls.specs.Progress.{Progress}
use Rattle.cyc_thread_calls.specs.Names.{named_at}
use Rattle.cyc_thread_calls.specs.Words.{DoesStep, waits_first}
use Rattle.cyc_thread_calls.specs.Steps.{TakesSteps, Runs}
use Rattle.cyc_thread_calls.specs.Meeting.{was_accepted}
use Rattle.cyc_thread_calls.specs.Way.{is_moment}
use Rattle.cyc_thread_calls.proofs.Waiting.{HasWaited, IsCalmNow}
use Rattle.cyc_thread_calls.proofs.Stepping.{no_moment_of}
use Rattle.cyc_thread_calls.proofs.Agreeing.{both, more_names}
use Rattle.cyc_thread_reasons.specs.Known.{Known, name_has, before_step, after_accepted, known_after}
use Rattle.cyc_thread_reasons.specs.Reasons.{can_be_reprogrammed}
use Rattle.cyc_thread_reasons.specs.Explained.{AreExplained, AllExplained}
use Rattle.cyc_thread_reasons.proofs.Fitting.{Fits, fits_set_clock}
use Rattle.cyc_thread_reasons.proofs.Waiting.{Calm, begun}
use Rattle.cyc_thread_reasons.proofs.Outcomes.{Next, fits_as, calm_as}
use Rattle.cyc_thread_reasons.proofs.Adding.{add_next, omni_next}
use Rattle.cyc_thread_reasons.proofs.Naming.{bind_of, unbind_of, idle}
use Rattle.cyc_thread_reasons.proofs.Resetting.{reset_of}
use Rattle.cyc_thread_reasons.proofs.Ending.{remove_of, advance_fits, advance_calm}
use Rattle.cyc_thread_reasons.proofs.Numbering.{juggle_of, offline_of, online_of}

one_name : (k : ℕ) (x : Step) → names_after k x ≤ k + 1
one_name k (steps.Add a) = omega arith
one_name k (steps.Omni a) = omega arith
one_name k x = omega arith

-- there are at most as many names as steps
pub few_names : (k : ℕ) (xs : List Step) → names_after_all k xs ≤ k + length xs
few_names k [] = omega arith
few_names k (x ∷ xs) = let a = one_name k x in let b = few_names (names_after k x) xs in omega (arith, a, b)

module _ {C R : Type 0} (handler : Calls C) (firing : Raise R) (names : ℕ) (few : names ≤ 65536) where
  -- each word
  next : (given m : ℕ) (told : Known) (x : Step) (s t : Progress R C) (d : DoesStep handler firing x s t)
      → Fits firing names given told s → Calm firing told s → is_suspended s.side.system ≡ told.suspended
      → (waits_first x ≡ true → HasWaited firing s)
      → name_fits given x ≡ true → names_after given x ≤ names → moment_fits m x ≡ true
      → Next handler firing names given told x s t d
  next given m told (steps.Add a) s t d h q marks waited here space early =
      let o = add_next handler firing names given told s t h (waited refl) space few a d (eq_true a.name given here) in
      record { why = o.why; fits = o.fits; calm = o.calm }
  next given m told (steps.Omni a) s t d h q marks waited here space early =
      let o = omni_next handler firing names given told s t h (waited refl) space few a d (eq_true a.name given here) in
      record { why = o.why; fits = o.fits; calm = o.calm }
  next given m told (steps.Bind b) s t d h q marks waited here space early =
      let o = bind_of firing names given told s t h (waited refl) b (named_at s.names b.name) refl
      ((waited refl).none b.name) d in
      record { why = o.why; fits = o.fits; calm = o.calm }
  next given m told (steps.Unbind name) s t d h q marks waited here space early =
      let o = unbind_of firing names given told s t h (waited refl) name (named_at s.names name) refl
      ((waited refl).none name) d in
      record { why = o.why; fits = o.fits; calm = o.calm }
  next given m told (steps.Reprogram r) s t (inl (moment, is, d)) h q marks waited here space early =
      let o = reset_of firing names given told s t h (waited refl) r moment (named_at s.names r.name) refl
      ((waited refl).none r.name) d in
      record { why = o.why; fits = o.fits; calm = o.calm }
  next given m told (steps.Reprogram r) s t (inr (number, same)) h q marks waited here space early =
      let o = idle firing names given told s t h (waited refl) (steps.Reprogram r) same
      (or_left (not (is_moment r.moment)) (not (can_be_reprogrammed r.cpu (name_has r.name told) told))
      (ap not (no_moment_of r.moment number))) in
      record { why = o.why; fits = o.fits; calm = o.calm }
  next given m told (steps.Remove name) s t d h q marks waited here space early =
      let o = remove_of firing names given told name s t h q (named_at s.names name) refl d in
      record { why = o.why; fits = o.fits; calm = o.calm }
  next given m told (steps.Advance now) s t (inl (asleep, e)) h q marks waited here space early = record {
    why = λ odd. inl (sym marks ∙ asleep);
    fits = subst (λ (p : Progress R C). Fits firing names given told p) (sym e)
        (fits_set_clock firing names given told now s (lt_so now never (both (nat_le m now) (nat_lt now never) early).1) h);
    calm = λ none. subst (λ (p : Progress R C). IsCalmNow firing p) (sym e)
        (let c = q none in record { none = c.none; still = c.still });
  }
  next given m told (steps.Advance now) s t (inr d) h q marks waited here space early = record {
    why = λ e. absurd (let odd : true ≡ false = e in cc);
    fits = advance_fits handler firing names given told now s t d
        (lt_so now never (both (nat_le m now) (nat_lt now never) early).1) h;
    calm = λ e. advance_calm handler firing names given told now s t d h (q e);
  }
  next given m told (steps.Softint i) s t d h q marks waited here space early = record {
    why = λ e. absurd (let odd : true ≡ false = e in cc);
    fits = fits_as firing names given told s t d h;
    calm = calm_as firing names told s t d q;
  }
  next given m told (steps.Juggle n) s t (answer, d) h q marks waited here space early =
      let o = juggle_of firing names given told s t h (waited refl) n answer d in
      record { why = o.why; fits = o.fits; calm = o.calm }
  next given m told (steps.Offline n) s t (answer, d) h q marks waited here space early =
      let o = offline_of firing names given told s t h (waited refl) n answer d in
      record { why = o.why; fits = o.fits; calm = o.calm }
  next given m told (steps.Online n) s t (answer, d) h q marks waited here space early =
      let o = online_of firing names given told s t h (waited refl) n answer d in
      record { why = o.why; fits = o.fits; calm = o.calm }
  next given m told steps.Suspend s t (answer, d) h q marks waited here space early =
      let o = (suspend_of firing names given told s t h (waited refl) marks answer d).outcome in
      record { why = o.why; fits = o.fits; calm = o.calm }
  next given m told steps.Resume s t (answer, d) h q marks waited here space early =
      let o = (resume_of firing names given told s t h (waited refl) marks answer d).outcome in
      record { why = o.why; fits = o.fits; calm = o.calm }

  -- whether the system is suspended is told after each step
  abbrev Mark : Known → (x : Step) → Bool → Progress R C → Type 0
  Mark told x b t = is_suspended t.side.system ≡ (cond b (after_accepted x told) told).suspended

  plain_mark : (told : Known) (x : Step) (b : Bool) → LeavesSuspended x
      → (cond b (after_accepted x told) told).suspended ≡ told.suspended
  plain_mark told x false plain = refl
  plain_mark told (steps.Advance a) true plain = absurd plain
  plain_mark told steps.Suspend true plain = absurd plain
  plain_mark told steps.Resume true plain = absurd plain
  plain_mark told x true plain = refl

  quiet_mark : (told : Known) (x : Step) (s t : Progress R C) (d : DoesStep handler firing x s t) → LeavesSuspended x
      → is_suspended s.side.system ≡ told.suspended → Mark told x (was_accepted handler firing x s t d) t
  quiet_mark told x s t d plain marks = does_same handler firing x s t plain d ∙ marks
      ∙ sym (plain_mark told x (was_accepted handler firing x s t d) plain)

  mark_after : (given : ℕ) (told : Known) (x : Step) (s t : Progress R C) (d : DoesStep handler firing x s t)
      → Fits firing names given told s → is_suspended s.side.system ≡ told.suspended
      → (waits_first x ≡ true → HasWaited firing s) → Mark told x (was_accepted handler firing x s t d) t
  mark_after given told (steps.Advance now) s t (inl (asleep, e)) h marks waited =
      ap (λ (p : Progress R C). is_suspended p.side.system) e ∙ marks
  mark_after given told (steps.Advance now) s t (inr f) h marks waited =
      fires_same handler firing now s t f h.ready h.ups ∙ marks
  mark_after given told steps.Suspend s t (answer, d) h marks waited =
      let o = suspend_of firing names given told s t h (waited refl) marks answer d in o.after ∙ sym o.marks
  mark_after given told steps.Resume s t (answer, d) h marks waited =
      let o = resume_of firing names given told s t h (waited refl) marks answer d in o.after ∙ sym o.marks
  mark_after given told x s t d h marks waited = quiet_mark told x s t d tt marks

  -- what is known of the steps that are left
  record Left (given m : ℕ) (told : Known) (xs : List Step) (s : Progress R C) : Type 0 where
    pub fits : Fits firing names given told s
    pub calm : Calm firing told s
    pub marks : is_suspended s.side.system ≡ told.suspended
    pub in_order : names_fit given xs ≡ true
    pub all : names_after_all given xs ≡ names
    pub moments : moments_fit m xs ≡ true

  explain : (given m : ℕ) (told : Known) (xs : List Step) (s t : Progress R C) (takes : TakesSteps handler firing s xs t)
      → Left given m told xs s → AreExplained handler firing told s xs t takes
  explain given m told [] s t takes l = tt
  explain given m told (x ∷ xs) s t (v, (u, begins, does), rest) l =
      let (here, later) = both (name_fits given x) (names_fit (names_after given x) xs) l.in_order in
      let (early, after) = both (moment_fits m x) (moments_fit (moment_after m x) xs) l.moments in
      let more = more_names (names_after given x) xs in let all = l.all in
      let b = begun firing names given told x s u begins l.fits l.calm in
      let now = begins_same handler firing (waits_first x) s u begins ∙ l.marks in
      let n = next given m (before_step x told) x u v does b.fits b.calm now b.waited here (omega (arith, more, all)) early in (
        n.why,
        explain (names_after given x) (moment_after m x)
            (known_after (record { step = x; accepted = was_accepted handler firing x u v does }) told) xs v t rest (record {
              fits = n.fits;
              calm = n.calm;
              marks = mark_after given (before_step x told) x u v does b.fits now b.waited;
              in_order = later;
              all = l.all;
              moments = after;
            }),
      )

  -- the whole run
  pub run_explained : (told : Known) (xs : List Step) (s t : Progress R C) (runs : Runs handler firing s xs t)
      → Fits firing names 0 told s → Calm firing told s → is_suspended s.side.system ≡ told.suspended → names_fit 0 xs ≡ true →
      names_after_all 0 xs ≡ names
      → moments_fit 0 xs ≡ true → AllExplained handler firing told s xs t runs
  run_explained told xs s t (u, takes, waits) fits calm marks order all moments = explain 0 0 told xs s u takes (record {
    fits = fits;
    calm = calm;
    marks = marks;
    in_order = order;
    all = all;
    moments = moments;
  })
