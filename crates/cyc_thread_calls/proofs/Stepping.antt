-- Each step of a calm script is accepted as the closed form says, and what is true between two steps stays.
use Rattle.std.proofs.Common.{◌≡◌, ◌≢◌, ◌∙◌, ℕ, ◌+◌, ◌<◌, ◌≤◌, ◌⊎◌, inl, inr, Bool, true, false, cond, not}
use Rattle.std.proofs.Common.{Result, Ok, Err, List, length, slice_set, refl, sym, ap}
use Rattle.std.proofs.Common.{subst, arith, T}
use Rattle.std.specs.Prelude.{ℤ, pos, int_lt, ◌<ℤ◌, ◌&&◌, is_ok}
use Rattle.std.proofs.lemmas.Bool.Decides.{nat_tests}
use mathlib.Core.Logic.{dite}
use native.Mathlib.Decide.{ℕ_discrete}
use Rattle.cyc_types.specs.declared.Calls.{Ghosts as Calls}
use Rattle.cyc_types.specs.declared.Raise.{Ghosts as Raise}
use Rattle.cyc_types.specs.Limits.{cyclics as most_cyclics, last_id}
use Rattle.cyc_types.specs.declared.moment.When.{When}
use Rattle.cyc_types.specs.declared.refusal.Refusal.{Refusal}
use Rattle.cyc_types.specs.declared.refusal.Refusal.TheVariants as why
use Rattle.cyc_types.proofs.Facts.{so_true}
use Rattle.cyc_script.specs.declared.step.Step.{Step}
use Rattle.cyc_script.specs.declared.step.Add.{Add as AddStep}
use Rattle.cyc_script.specs.declared.step.Omni.{Omni as OmniStep}
use Rattle.cyc_script.specs.declared.step.Step.TheVariants as steps
use Rattle.cyc_script.specs.WellFormed.{names_after}
use Rattle.cyc_expected.specs.Calm.{OnlyMoves}
use Rattle.cyc_places.specs.declared.record.Placement.TheVariants.{On, Everywhere}
use Rattle.cyc_threads.proofs.Spots.{same_some}
use Rattle.cyc_threads.specs.Calls.{SystemCall, Changes, Add, AddOmni}
use Rattle.cyc_threads.specs.Keeping.{TouchesRecord}
use Rattle.cyc_words.specs.declared.named.Named.{Named}
use Rattle.cyc_words.specs.declared.named.Named.TheVariants.{Cyclic}
use Rattle.cyc_threads.specs.declared.progress.Progress.{Progress}
use Rattle.cyc_threads.specs.StepCalls.{CallsFor}
use Rattle.cyc_words.specs.Names.{named_at, has_open_removal, NoneLeaves}
use Rattle.cyc_threads.specs.Words.{DoesStep}
use Rattle.cyc_thread_calls.specs.Leading.{call_of, calls_in}
use Rattle.cyc_thread_calls.specs.Meeting.{was_accepted}
use Rattle.cyc_thread_calls.specs.Way.{Standing, OnOne, OnAll, is_series, is_moment, is_taken, after_step}
use Rattle.cyc_thread_calls.specs.Way.{with_standing}
use Rattle.cyc_thread_calls.specs.Memory.{NoMemoryRefused}
use Rattle.cyc_thread_calls.proofs.Keeping.{keeps_call}
use Rattle.cyc_thread_calls.proofs.Room.{add_done, omni_done}
use Rattle.cyc_thread_calls.proofs.Fitting.{Is, Fits, fits_set, new_there, standing_here, standing_beside}
use Rattle.cyc_thread_calls.proofs.Fitting.{set_here, set_beside}
use Rattle.cyc_thread_calls.proofs.Waiting.{IsCalmNow, HasWaited, waited_room}
use Rattle.cyc_thread_calls.proofs.Moving.{stays_same}

-- ---- numbers of a step

not_under : (n : ℕ) → int_lt (pos n) (pos 0) ≡ false
not_under n = grind (arith, nat_tests)

not_short : (n : ℕ) → 0 < n → int_lt (pos n) (pos 1) ≡ false
not_short n low = grind (arith, nat_tests)

series_of : (start interval : ℤ) (when : When) → pos when.start ≡ start → pos when.interval ≡ interval → 0 < when.interval
    → is_series start interval ≡ true
series_of start interval when a b long =
    (λ i. is_series (sym a i) (sym b i))
    ∙ (λ i. not (not_under when.start i) && not (not_short when.interval long i))

pub no_series_of : (start interval : ℤ) → (start <ℤ pos 0) ⊎ (interval <ℤ pos 1) → is_series start interval ≡ false
no_series_of start interval (inl low) = ap (λ b. not b && not (int_lt interval (pos 1))) (so_true _ low.lt)
no_series_of start interval (inr low) = by (int_lt start (pos 0)) (so_true _ low.lt)
  where
    by : (b : Bool) → int_lt interval (pos 1) ≡ true → (not b && not (int_lt interval (pos 1))) ≡ false
    by true e = refl
    by false e = ap not e

pub moment_of : (number : ℤ) (moment : ℕ) → pos moment ≡ number → is_moment number ≡ true
moment_of number moment e = ap is_moment (sym e) ∙ ap not (not_under moment)

pub no_moment_of : (number : ℤ) → number <ℤ pos 0 → is_moment number ≡ false
no_moment_of number low = ap not (so_true _ low.lt)

module _ {C R : Type 0} (handler : Calls C)
    (firing : Raise R) (cpus names : ℕ) (few : names ≤ most_cyclics) (suspended : Bool) where
  -- more names were introduced
  fits_more : (given : ℕ) (has : ℕ → Standing) (s : Progress R C) → Fits firing cpus names given has s
      → Fits firing cpus names (given + 1) has s
  fits_more given has s h = record {
    rising = h.rising;
    above = h.above;
    few = (let a = h.few in omega (arith, a));
    early = h.early;
    long = h.long;
    online = h.online;
    many = h.many;
    ready = h.ready;
    each = h.each;
    ids = h.ids;
    own = h.own;
  }

  -- a name that gets a cyclic is not leaving
  none_noted : (all : List Named) (name id : ℕ) → name < length all → NoneLeaves all
      → NoneLeaves (slice_set all name (Cyclic id))
  none_noted all name id low none other = dite (ℕ_discrete other name)
      (λ e. ap has_open_removal (ap (λ (k : ℕ). named_at (slice_set all name (Cyclic id)) k) e
      ∙ set_here all name (Cyclic id) low))
      (λ ne. ap has_open_removal (set_beside all name other (Cyclic id) ne) ∙ none other)

  -- A step was accepted as the closed form says, and what is true stays.
  pub record Next (given : ℕ) (has : ℕ → Standing) (x : Step) (s t : Progress R C)
      (d : DoesStep handler firing x s t) : Type 0 where
    pub agree : OnlyMoves x ⊎ (was_accepted handler firing x s t d ≡ is_taken cpus suspended has x)
    pub fits : Fits firing cpus names (names_after given x) (cond (is_taken cpus suspended has x) (after_step x has) has) t

  -- and nothing is open after it, as before it
  pub record NextCalm (given : ℕ) (has : ℕ → Standing) (x : Step) (s t : Progress R C)
      (d : DoesStep handler firing x s t) : Type 0 where
    pub next : Next given has x s t d
    pub calm : IsCalmNow firing s → IsCalmNow firing t

  -- there are ids enough
  ids_left : (last given : ℕ) → last ≤ given → given + 1 ≤ names → last + 1 ≤ last_id
  ids_left last given a b = let c : names ≤ most_cyclics = few in omega (arith, a, b, c)

  -- ---- a name gets a cyclic

  gets : (given : ℕ) (has : ℕ → Standing) (name id : ℕ) (st : Standing) (call : SystemCall)
      (s t : Progress R C) (c : CallsFor firing name call s t) → Fits firing cpus names given has s → given + 1 ≤ names
      → name < names → t.names ≡ slice_set s.names name (Cyclic id) → id ≡ s.side.system.last + 1 → t.side.system.last ≡ id
      → t.side.system.cpus.online ≡ s.side.system.cpus.online
      → Is st (Cyclic id) t.side.system
      → ((own : ℕ) → own ≢ id → TouchesRecord own call → ⊥)
      → Fits firing cpus names (given + 1) (with_standing name st has) t
  gets given has name id st call s t c h low here set next last online is others =
      fits_set firing cpus names given has s t name call c h online (Cyclic id) st (given + 1) (with_standing name st has)
      set (let long = h.long in omega (arith, here, long)) (let a = h.few in omega (arith, a, next, last)) is
      (standing_here name st has) (λ other ne. standing_beside name other st has ne)
      (λ own e. (let same : id ≡ own = same_some e in (
        omega (arith, last, same),
        λ other ne there. (let old = h.ids other own there in omega (arith, old, next, same)),
      )))
      (λ other own ne there touches. others own
      (λ same. (let old = h.ids other own there in omega (arith, old, next, same))) touches)

  -- ---- add

  added : (given : ℕ) (has : ℕ → Standing) (a : AddStep) (when : When) (answer : Result ℕ Refusal) (s t : Progress R C)
      → (did : CallsFor firing a.name (Add a.level when s.clock answer) s t) → Fits firing cpus names given has s
      → HasWaited firing s → given + 1 ≤ names → a.name < names → answer ≢ Err why.Memory
      → (is_ok answer ≡ true) × Fits firing cpus names (given + 1) (with_standing a.name OnOne has) t
      × (IsCalmNow firing s → IsCalmNow firing t)
  added given has a when (Ok id) s t did h w low here mem = by did.did
    where
      by : Changes firing s.side.system (Add a.level when s.clock (Ok id)) t.side.system
          → (is_ok {E = Refusal} (Ok id) ≡ true) × Fits firing cpus names (given + 1) (with_standing a.name OnOne has) t
          × (IsCalmNow firing s → IsCalmNow firing t)
      by (inl (e, first, is, same)) = absurd (let odd : Ok id ≡ Err e = is in cc)
      by (inr (clear, (d, chosen, next, works, records, last))) =
          let k = keeps_call firing s.side.system t.side.system (Add a.level when s.clock (Ok id)) did.did tt in (
            refl,
            gets given has a.name id OnOne (Add a.level when s.clock (Ok id)) s t did h low here did.told next last k.online
                (new_there id a.level (On d false) s.side.system.records t.side.system did.sound.fit.rising records)
                (λ own ne touches. ne (sym touches)),
            λ q. record {
              none = subst NoneLeaves (sym did.told) (none_noted s.names a.name id
                  (let long = h.long in omega (arith, here, long)) q.none);
              still = k.still q.still;
            },
          )
  added given has a when (Err e) s t did h w low here mem = absurd (add_done firing a.level when s.clock e s.side.system
      t.side.system h.early (ids_left s.side.system.last given h.few low)
      (waited_room firing cpus names given has s h w (omega (arith, low, few))) (λ q. mem (ap Err q)) did.did)

  pub add_next : (given : ℕ) (has : ℕ → Standing) (a : AddStep) (s t : Progress R C)
      (d : DoesStep handler firing (steps.Add a) s t) → Fits firing cpus names given has s
      → HasWaited firing s → given + 1 ≤ names → a.name < names
      → NoMemoryRefused (calls_in (call_of handler firing (steps.Add a) s t d))
      → NextCalm given has (steps.Add a) s t d
  add_next given has a s t (inl (when, starts, lasts, long, (answer, did))) h w low here mem =
      let (ok, fits, calm) = added given has a when answer s t did h w low here mem.0 in
      let series = series_of a.start a.interval when starts lasts long in record {
        next = record {
          agree = inr (ok ∙ sym series);
          fits = subst (λ (b : Bool). Fits firing cpus names (given + 1) (cond b (with_standing a.name OnOne has) has) t)
              (sym series) fits;
        };
        calm = calm;
      }
  add_next given has a s t (inr (numbers, same)) h w low here mem =
      let series = no_series_of a.start a.interval numbers in
      let stays = stays_same firing cpus names given has s t same h in record {
        next = record {
          agree = inr (sym series);
          fits = subst (λ (b : Bool). Fits firing cpus names (given + 1) (cond b (with_standing a.name OnOne has) has) t)
              (sym series) (fits_more given has t stays.fits);
        };
        calm = stays.calm;
      }

  -- ---- omni

  added_everywhere : (given : ℕ) (has : ℕ → Standing) (a : OmniStep) (when : When) (answer : Result ℕ Refusal)
      (s t : Progress R C)
      → (did : CallsFor firing a.name (AddOmni a.level when a.skew s.clock answer) s t)
      → Fits firing cpus names given has s
      → HasWaited firing s → given + 1 ≤ names → a.name < names → answer ≢ Err why.Memory
      → (is_ok answer ≡ true) × Fits firing cpus names (given + 1) (with_standing a.name OnAll has) t
      × (IsCalmNow firing s → IsCalmNow firing t)
  added_everywhere given has a when (Ok id) s t did h w low here mem = by did.did
    where
      by : Changes firing s.side.system (AddOmni a.level when a.skew s.clock (Ok id)) t.side.system
          → (is_ok {E = Refusal} (Ok id) ≡ true) × Fits firing cpus names (given + 1) (with_standing a.name OnAll has) t
          × (IsCalmNow firing s → IsCalmNow firing t)
      by (inl (e, first, is, same)) = absurd (let odd : Ok id ≡ Err e = is in cc)
      by (inr (clear, (next, works, records, last))) =
          let k = keeps_call firing s.side.system t.side.system (AddOmni a.level when a.skew s.clock (Ok id)) did.did tt in (
            refl,
            gets given has a.name id OnAll (AddOmni a.level when a.skew s.clock (Ok id)) s t did h low here did.told next last
                k.online
                (new_there id a.level (Everywhere when a.skew) s.side.system.records t.side.system did.sound.fit.rising records)
                (λ own ne touches. ne (sym touches)),
            λ q. record {
              none = subst NoneLeaves (sym did.told) (none_noted s.names a.name id
                  (let long = h.long in omega (arith, here, long)) q.none);
              still = k.still q.still;
            },
          )
  added_everywhere given has a when (Err e) s t did h w low here mem = absurd (omni_done firing a.level when a.skew s.clock e
      s.side.system t.side.system h.early (ids_left s.side.system.last given h.few low)
      (waited_room firing cpus names given has s h w (omega (arith, low, few))) (λ q. mem (ap Err q)) did.did)

  pub omni_next : (given : ℕ) (has : ℕ → Standing) (a : OmniStep) (s t : Progress R C)
      (d : DoesStep handler firing (steps.Omni a) s t) → Fits firing cpus names given has s
      → HasWaited firing s → given + 1 ≤ names → a.name < names
      → NoMemoryRefused (calls_in (call_of handler firing (steps.Omni a) s t d))
      → NextCalm given has (steps.Omni a) s t d
  omni_next given has a s t (inl (when, starts, lasts, long, (answer, did))) h w low here mem =
      let (ok, fits, calm) = added_everywhere given has a when answer s t did h w low here mem.0 in
      let series = series_of a.start a.interval when starts lasts long in record {
        next = record {
          agree = inr (ok ∙ sym series);
          fits = subst (λ (b : Bool). Fits firing cpus names (given + 1) (cond b (with_standing a.name OnAll has) has) t)
              (sym series) fits;
        };
        calm = calm;
      }
  omni_next given has a s t (inr (numbers, same)) h w low here mem =
      let series = no_series_of a.start a.interval numbers in
      let stays = stays_same firing cpus names given has s t same h in record {
        next = record {
          agree = inr (sym series);
          fits = subst (λ (b : Bool). Fits firing cpus names (given + 1) (cond b (with_standing a.name OnAll has) has) t)
              (sym series) (fits_more given has t stays.fits);
        };
        calm = stays.calm;
      }
