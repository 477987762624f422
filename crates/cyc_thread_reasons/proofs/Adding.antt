-- A name gets a cyclic, or there is no room for it.
use Rattle.std.proofs.Common.{◌≡◌, ◌≢◌, ◌∙◌, ℕ, ◌+◌, ◌<◌, ◌≤◌, ◌⊎◌, inl, inr, Bool, true, false, not, Some, None, Result, Ok, Err}
use Rattle.std.proofs.Common.{List, ◌∷◌, ◌++◌, length, slice_set, refl, sym, ap, subst, arith, T}
use Rattle.std.specs.Prelude.{ℤ, pos, int_lt, ◌<ℤ◌, ◌&&◌}
use Rattle.std.specs.List.{list_any}
use Rattle.std.proofs.lemmas.Bool.{or_left, or_right}
use Rattle.std.proofs.lemmas.List.{length-set}
use Rattle.std.proofs.lemmas.List.Folds.{list_any-append}
use mathlib.Core.Logic.{dite}
use native.Mathlib.Decide.{ℕ_discrete}
use Rattle.cyc_types.specs.declared.Calls.{Ghosts as Calls}
use Rattle.cyc_types.specs.declared.Raise.{Ghosts as Raise}
use Rattle.cyc_types.specs.Limits.{last_id}
use Rattle.cyc_types.specs.declared.level.Level.{Level}
use Rattle.cyc_types.specs.declared.moment.When.{When}
use Rattle.cyc_types.specs.declared.refusal.Refusal.{Refusal}
use Rattle.cyc_types.specs.declared.refusal.Refusal.TheVariants as why
use Rattle.cyc_types.proofs.Facts.{so_true}
use Rattle.cyc_places.specs.declared.record.Placement.TheVariants.{On, Everywhere}
use Rattle.cyc_script.specs.declared.step.Add.{Add as AddStep}
use Rattle.cyc_script.specs.declared.step.Omni.{Omni as OmniStep}
use Rattle.cyc_script.specs.declared.step.Step.TheVariants as steps
use Rattle.cyc_agreement.specs.Cpus.{numbers_from, online_cpus}
use Rattle.cyc_agreement.specs.Destination.{destination}
use Rattle.cyc_agreement.specs.Reserving.{StandsAfter}
use Rattle.cyc_thread_calls.proofs.Spots.{none_some, same_some}
use Rattle.cyc_thread_calls.specs.System.{SystemView}
use Rattle.cyc_thread_calls.specs.Calls.{SystemCall, Changes, Add, AddOmni}
use Rattle.cyc_thread_calls.specs.Named.TheVariants.{Cyclic}
use Rattle.cyc_thread_calls.specs.Progress.{Progress}
use Rattle.cyc_thread_calls.specs.StepCalls.{CallsFor}
use Rattle.cyc_thread_calls.specs.Names.{named_at, cyclic_id, has_open_removal}
use Rattle.cyc_thread_calls.specs.Words.{DoesStep}
use Rattle.cyc_thread_calls.specs.SystemRingsLeading.{Make}
use Rattle.cyc_thread_calls.specs.Leading.{call_of}
use Rattle.cyc_thread_calls.specs.Way.{is_series}
use Rattle.cyc_thread_calls.proofs.Keeping.{AllStill, keeps_call}
use Rattle.cyc_thread_calls.proofs.Fitting.{set_here, set_beside}
use Rattle.cyc_thread_calls.proofs.Waiting.{IsCalmNow, HasWaited, waited_calm}
use Rattle.cyc_thread_reasons.specs.Known.{Whereabouts, OnOne, OnAll, Known, with_whereabouts}
use Rattle.cyc_thread_reasons.specs.Reasons.{is_there, is_single, how_many, many_online, may_be_full, are_too_many, has_reason}
use Rattle.cyc_thread_reasons.proofs.Counting.{numbers_differ}
use Rattle.cyc_thread_reasons.proofs.Whereabouts.{stands, stands_kept, new_stands, ok_err}
use Rattle.cyc_thread_reasons.proofs.Fitting.{Fits, base_call, fits_set, fits_more}
use Rattle.cyc_thread_reasons.proofs.Outcomes.{Outcome, taken, refused, fits_quiet, calm_quiet, fits_as, calm_as}
use Rattle.cyc_thread_reasons.proofs.Reasoning.{many}
use Rattle.cyc_thread_reasons.proofs.Naming.{until_not}
use Rattle.cyc_thread_reasons.proofs.Full.{IsFull, add_why, omni_why}
use Rattle.cyc_thread_reasons.proofs.Crowding.{number_online, all_full}
use Rattle.cyc_thread_reasons.proofs.Room.{full_told, one_too_many}
use Rattle.cyc_thread_calls.proofs.Stepping.{no_series_of}

-- one of several passes
any_after : (test : ℕ → Bool) (before rest : List ℕ) (n : ℕ) → test n ≡ true → list_any test (before ++ n ∷ rest) ≡ true
any_after test before rest n e = list_any-append test before (n ∷ rest)
    ∙ or_right (list_any test before) (list_any test (n ∷ rest)) (or_left (test n) (list_any test rest) e)

module _ {C R : Type 0} (handler : Calls C) (firing : Raise R) (names given : ℕ) (told : Known) (s t : Progress R C)
    (h : Fits firing names given told s) (w : HasWaited firing s) (space : given + 1 ≤ names) (few : names ≤ 65536) where
  calm_here : IsCalmNow firing s
  calm_here = waited_calm firing s w

  ids_left : s.side.system.last + 1 ≤ last_id
  ids_left = let a = h.few in omega (arith, a, space, few)

  -- ---- a name gets a cyclic

  gets : (name id : ℕ) (st : Whereabouts) (call : SystemCall) (c : CallsFor firing name call s t) → name ≡ given
      → t.names ≡ slice_set s.names name (Cyclic id) → id ≡ s.side.system.last + 1 → t.side.system.last ≡ id
      → t.side.system.cpus.online ≡ s.side.system.cpus.online
      → stands id t.side.system ≡ st → is_there st ≡ true
      → ((own : ℕ) → own ≢ id → stands own t.side.system ≡ stands own s.side.system)
      → Fits firing names (given + 1) (with_whereabouts name st told) t
  gets name id st call c here set next last online is there kept =
      fits_set firing names given (given + 1) told (with_whereabouts name st told) s t name (Cyclic id) st
      (base_call firing names given told name call s t c h) h (omega arith) (record {
        told_names = refl;
        online = online ∙ h.online;
        low = low;
        long = ap length set ∙ length-set s.names name (Cyclic id);
        at_name = ap (λ ns. named_at ns name) set ∙ set_here s.names name (Cyclic id) low;
        at_other = λ a ne. ap (λ ns. named_at ns a) set ∙ set_beside s.names name a (Cyclic id) ne;
        last = (let a = h.few in omega (arith, a, next, last));
        is = is;
        there = λ own e. subst (λ (k : ℕ). is_there (stands k t.side.system) ≡ true) (same_some (ap cyclic_id e))
            (ap is_there is ∙ there);
        new = λ own e. (let same : id ≡ own = same_some e in (
          omega (arith, last, same),
          λ other ne at. (let old = h.ids other own at in omega (arith, old, next, same)),
        ));
        others = λ other own ne e. kept own (λ same. (let old = h.ids other own (ap cyclic_id e) in omega (
          arith,
          old,
          next,
          same,
        )));
        known = λ own e. dite (ℕ_discrete own id) (λ q. inl (ap Some (sym q)))
            (λ ne. inr (
              sym (ap is_there (kept own ne)) ∙ e,
              λ at. none_some (sym (ap cyclic_id (h.fresh name (omega (arith, here)))) ∙ at),
            ));
        fresh = λ a high same. omega (arith, high, same, here);
      })
    where
      low : name < length s.names
      low = let long = h.long in omega (arith, here, long, space)

  got_calm : (name id : ℕ) → name ≡ given → t.names ≡ slice_set s.names name (Cyclic id)
      → AllStill t.side.system.cpus → IsCalmNow firing t
  got_calm name id here set still = record {
    none = λ other. ap (λ ns. has_open_removal (named_at ns other)) set ∙ dite (ℕ_discrete other name)
        (λ e. ap (λ (k : ℕ). has_open_removal (named_at (slice_set s.names name (Cyclic id)) k)) e
        ∙ ap has_open_removal (set_here s.names name (Cyclic id) (let long = h.long in omega (arith, here, long, space))))
        (λ ne. ap has_open_removal (set_beside s.names name other (Cyclic id) ne) ∙ w.none other);
    still = still;
  }

  -- ---- add

  too_many : (d : ℕ) → destination None s.side.system.cpus ≡ Some d → IsFull d s.side.system.cpus
      → are_too_many (how_many is_single told + 1) (many_online told) told ≡ true
  too_many d chosen full =
      subst (λ k. are_too_many (how_many is_single told + 1) k told ≡ true) (many firing names given told s h)
      (one_too_many firing names given told s h w.none w.sound (online_cpus s.side.system.cpus)
      (numbers_differ 0 s.side.system.cpus.online)
      (λ i low. all_full s.side.system.cpus None d h.ups chosen full _
      (number_online s.side.system.cpus i low) (λ e. none_some e)))

  err_last : (level : Level) (when : When) (now : ℕ) (e : Refusal)
      → Changes firing s.side.system (Add level when now (Err e)) t.side.system → t.side.system.last ≡ s.side.system.last
  err_last level when now e (inl (x, first, is, same)) = ap (λ (y : SystemView R). y.last) same
  err_last level when now e (inr (clear, (d, chosen, inl only))) = only.2
  err_last level when now e (inr (clear, (d, chosen, inr (is, only)))) = only.2

  added : (a : AddStep) (when : When) (answer : Result ℕ Refusal) → a.name ≡ given
      → CallsFor firing a.name (Add a.level when s.clock answer) s t
      → Outcome firing names (given + 1) told (steps.Add a) t (Some (Make (Add a.level when s.clock answer))) ⊥
  added a when (Ok id) here c = by c.did
    where
      by : Changes firing s.side.system (Add a.level when s.clock (Ok id)) t.side.system
          → Outcome firing names (given + 1) told (steps.Add a) t (Some (Make (Add a.level when s.clock (Ok id)))) ⊥
      by (inl (e, first, is, same)) = absurd (ok_err is)
      by (inr (clear, (d, chosen, next, works, records, last))) =
          let k = keeps_call firing s.side.system t.side.system (Add a.level when s.clock (Ok id)) c.did tt in
          taken firing names (given + 1) told (steps.Add a) t (Some (Make (Add a.level when s.clock (Ok id)))) ⊥ refl
          (gets a.name id (OnOne None) (Add a.level when s.clock (Ok id)) c here c.told next last k.online
          (new_stands id a.level (On d false) s.side.system.records t.side.system c.sound.fit.rising records) refl
          (λ own ne. stands_kept firing s.side.system t.side.system (Add a.level when s.clock (Ok id)) own tt h.rising c.did
          (λ same. ne (sym same))))
          (λ e. got_calm a.name id here c.told (k.still calm_here.still))
  added a when (Err e) here c =
      refused firing names (given + 1) told (steps.Add a) t (Some (Make (Add a.level when s.clock (Err e)))) ⊥ refl
      (by (add_why firing a.level when s.clock e s.side.system t.side.system h.early ids_left
      (λ until. until_not firing s (Add a.level when s.clock (Err e)) t.side.system w c.did until) c.did))
      (fits_more firing names given told t
      (fits_quiet firing names given told a.name (Add a.level when s.clock (Err e)) s t c tt tt c.told
      (err_last a.level when s.clock e c.did) (λ own z. z) h))
      (λ q. calm_quiet firing names a.name (Add a.level when s.clock (Err e)) s t c tt c.told calm_here)
    where
      by : (e ≡ why.Memory) ⊎ ((d : ℕ) × (destination None s.side.system.cpus ≡ Some d) × IsFull d s.side.system.cpus)
          → (has_reason (steps.Add a) told ≡ true) ⊎ (◌≡◌ {A = Result ℕ Refusal} (Err e) (Err why.Memory)) ⊎ ⊥
      by (inl memory) = inr (inl (ap Err memory))
      by (inr (d, chosen, full)) = inl (or_right (not (is_series a.start a.interval))
          (are_too_many (how_many is_single told + 1) (many_online told) told) (too_many d chosen full))

  pub add_next : (a : AddStep) (d : DoesStep handler firing (steps.Add a) s t) → a.name ≡ given
      → Outcome firing names (given + 1) told (steps.Add a) t (call_of handler firing (steps.Add a) s t d) ⊥
  add_next a (inl (when, starts, lasts, long, (answer, did))) here = added a when answer here did
  add_next a (inr (numbers, same)) here = refused firing names (given + 1) told (steps.Add a) t None ⊥ refl
      (inl (or_left (not (is_series a.start a.interval))
      (are_too_many (how_many is_single told + 1) (many_online told) told)
      (ap not (no_series_of a.start a.interval numbers))))
      (fits_more firing names given told t (fits_as firing names given told s t same h))
      (calm_as firing names told s t same (λ e. calm_here))

  -- ---- omni

  omni_last : (level : Level) (when : When) (skew now : ℕ) (e : Refusal)
      → Changes firing s.side.system (AddOmni level when skew now (Err e)) t.side.system
      → t.side.system.last ≡ s.side.system.last
  omni_last level when skew now e (inl (x, first, is, same)) = ap (λ (y : SystemView R). y.last) same
  omni_last level when skew now e (inr (clear, (works, records, last))) = last

  abbrev one_is_full : Known → Bool
  one_is_full told = list_any (λ n. may_be_full n told) (numbers_from 0 told.online)

  one_full : (before : List ℕ) (n : ℕ) → StandsAfter before n (online_cpus s.side.system.cpus) → IsFull n s.side.system.cpus
      → one_is_full told ≡ true
  one_full before n (rest, all) (x, at, full) =
      ap (λ os. list_any (λ m. may_be_full m told) (numbers_from 0 os)) (sym h.online)
      ∙ ap (λ ns. list_any (λ m. may_be_full m told) ns) all
      ∙ any_after (λ m. may_be_full m told) before rest n
      (full_told firing names given told s h w.none w.sound n x at full)

  added_everywhere : (a : OmniStep) (when : When) (answer : Result ℕ Refusal) → a.name ≡ given
      → CallsFor firing a.name (AddOmni a.level when a.skew s.clock answer) s t
      → Outcome firing names (given + 1) told (steps.Omni a) t (Some (Make (AddOmni a.level when a.skew s.clock answer))) ⊥
  added_everywhere a when (Ok id) here c = by c.did
    where
      by : Changes firing s.side.system (AddOmni a.level when a.skew s.clock (Ok id)) t.side.system
          → Outcome firing names (given + 1) told (steps.Omni a) t (Some (Make (AddOmni a.level when a.skew s.clock (Ok id)))) ⊥
      by (inl (e, first, is, same)) = absurd (ok_err is)
      by (inr (clear, (next, works, records, last))) =
          let k = keeps_call firing s.side.system t.side.system (AddOmni a.level when a.skew s.clock (Ok id)) c.did tt in
          taken firing names (given + 1) told (steps.Omni a) t (Some (Make (AddOmni a.level when a.skew s.clock (Ok id)))) ⊥ refl
          (gets a.name id OnAll (AddOmni a.level when a.skew s.clock (Ok id)) c here c.told next last k.online
          (new_stands id a.level (Everywhere when a.skew) s.side.system.records t.side.system c.sound.fit.rising records) refl
          (λ own ne. stands_kept firing s.side.system t.side.system (AddOmni a.level when a.skew s.clock (Ok id)) own tt h.rising
          c.did (λ same. ne (sym same))))
          (λ e. got_calm a.name id here c.told (k.still calm_here.still))
  added_everywhere a when (Err e) here c =
      refused firing names (given + 1) told (steps.Omni a) t (Some (Make (AddOmni a.level when a.skew s.clock (Err e)))) ⊥ refl
      (by (omni_why firing a.level when a.skew s.clock e s.side.system t.side.system h.early ids_left
      (λ until. until_not firing s (AddOmni a.level when a.skew s.clock (Err e)) t.side.system w c.did until) c.did))
      (fits_more firing names given told t
      (fits_quiet firing names given told a.name (AddOmni a.level when a.skew s.clock (Err e)) s t c tt tt c.told
      (omni_last a.level when a.skew s.clock e c.did) (λ own z. z) h))
      (λ q. calm_quiet firing names a.name (AddOmni a.level when a.skew s.clock (Err e)) s t c tt c.told calm_here)
    where
      by : (e ≡ why.Memory) ⊎ ((before : List ℕ) × (n : ℕ) × StandsAfter before n (online_cpus s.side.system.cpus)
          × IsFull n s.side.system.cpus)
          → (has_reason (steps.Omni a) told ≡ true) ⊎ (◌≡◌ {A = Result ℕ Refusal} (Err e) (Err why.Memory)) ⊎ ⊥
      by (inl memory) = inr (inl (ap Err memory))
      by (inr (before, n, after, full)) = inl (or_right (not (is_series a.start a.interval)) (one_is_full told)
          (one_full before n after full))

  pub omni_next : (a : OmniStep) (d : DoesStep handler firing (steps.Omni a) s t) → a.name ≡ given
      → Outcome firing names (given + 1) told (steps.Omni a) t (call_of handler firing (steps.Omni a) s t d) ⊥
  omni_next a (inl (when, starts, lasts, long, (answer, did))) here = added_everywhere a when answer here did
  omni_next a (inr (numbers, same)) here = refused firing names (given + 1) told (steps.Omni a) t None ⊥ refl
      (inl (or_left (not (is_series a.start a.interval)) (one_is_full told) (ap not (no_series_of a.start a.interval numbers))))
      (fits_more firing names given told t (fits_as firing names given told s t same h))
      (calm_as firing names told s t same (λ e. calm_here))
