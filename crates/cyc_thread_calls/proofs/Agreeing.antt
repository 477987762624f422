-- The steps of a calm script are met as the closed form says, one after another.
use Rattle.std.proofs.Common.{◌<◌}
use Rattle.cyc_types.specs.Series.{never}
use Rattle.std.proofs.Common.{◌≡◌, ◌∙◌, ℕ, ◌≤◌, ◌⊎◌, inl, inr, Bool, true, false, cond}
use Rattle.std.proofs.Common.{Option, Some, None, Result, List, [], ◌∷◌, ◌++◌, length, replicate, refl, sym, ap, subst, arith}
use Rattle.std.specs.Prelude.{◌&&◌, is_ok}
use Rattle.std.specs.Option.{option_map_or}
use Rattle.cyc_types.specs.declared.Calls.{Ghosts as Calls}
use Rattle.cyc_types.specs.declared.Raise.{Ghosts as Raise}
use Rattle.cyc_types.specs.Limits.{cyclics as most_cyclics}
use Rattle.cyc_types.specs.declared.refusal.Refusal.{Refusal}
use Rattle.cyc_script.specs.declared.step.Step.{Step}
use Rattle.cyc_script.specs.declared.step.Reprogram.{Reprogram as ReprogramStep}
use Rattle.cyc_script.specs.declared.step.Step.TheVariants as steps
use Rattle.cyc_script.specs.WellFormed.{names_after, names_after_all}
use Rattle.cyc_expected.specs.Calm.{OnlyMoves}
use Rattle.cyc_threads.specs.System.{SystemView}
use Rattle.cyc_threads.specs.Calls.{Changes, Online, reprograms}
use Rattle.cyc_threads.specs.Sound.{IsSound}
use Rattle.cyc_system_rings.specs.Leading.{LeadCall, Make, FireAll, AskAll}
use Rattle.cyc_words.specs.declared.named.Named.{Named}
use Rattle.cyc_words.specs.declared.named.Named.TheVariants.{Nothing, Cyclic, Leaving, Removed}
use Rattle.cyc_threads.specs.declared.progress.Progress.{Progress}
use Rattle.cyc_threads.specs.StepCalls.{CallsFor}
use Rattle.cyc_words.specs.Names.{named_at, cyclic_id, has_open_removal, NoneLeaves}
use Rattle.cyc_words.specs.Words.{WithId}
use Rattle.cyc_threads.specs.Words.{DoesStep}
use Rattle.cyc_thread_calls.proofs.Called.{call_with}
use Rattle.cyc_thread_calls.specs.Meeting.{was_accepted, is_taken as is_done}
use Rattle.cyc_thread_calls.specs.Way.{Standing, Absent, OnOne, OnAll, may_reprogram, is_taken, after_step}
use Rattle.cyc_thread_calls.specs.Memory.{NoMemoryRefused}
use Rattle.cyc_thread_calls.proofs.Keeping.{AllStill}
use Rattle.cyc_thread_calls.proofs.Fitting.{Is, IsThere, Fits, fits_same}
use Rattle.cyc_thread_calls.proofs.Waiting.{HasWaited, waited_calm}
use Rattle.cyc_thread_calls.proofs.Moving.{Stays, stays_same, word_stays, online_same}
use Rattle.cyc_thread_calls.proofs.Moving.{single_none, single_on, every_none, every_on}
use Rattle.cyc_thread_calls.proofs.Stepping.{NextCalm, moment_of, no_moment_of}

-- no two removes with only advances between them, where a remove may come first or not; and no CPU goes offline
abbrev pub Spaced : Bool → List Step → Type 0
Spaced b [] = Unit {0}
Spaced b (steps.Remove name ∷ xs) = (b ≡ true) × Spaced false xs
Spaced b (steps.Advance now ∷ xs) = Spaced b xs
Spaced b (steps.Offline n ∷ xs) = ⊥
Spaced b (x ∷ xs) = Spaced true xs

pub both : (a b : Bool) → (a && b) ≡ true → (a ≡ true) × (b ≡ true)
both true b e = (refl, e)
both false b e = absurd (let odd : false ≡ true = e in cc)

pub memory_split : (xs ys : List LeadCall) → NoMemoryRefused (xs ++ ys) → NoMemoryRefused xs × NoMemoryRefused ys
memory_split [] ys h = (tt, h)
memory_split (Make call ∷ xs) ys h = let (a, b) = memory_split xs ys h.1 in ((h.0, a), b)
memory_split (FireAll now ∷ xs) ys h = memory_split xs ys h
memory_split (AskAll ∷ xs) ys h = memory_split xs ys h

one_more : (k : ℕ) (x : Step) → k ≤ names_after k x
one_more k (steps.Add a) = omega arith
one_more k (steps.Omni a) = omega arith
one_more k x = omega arith

-- no name is taken back
pub more_names : (k : ℕ) (xs : List Step) → k ≤ names_after_all k xs
more_names k [] = omega arith
more_names k (x ∷ xs) = let a = one_more k x in let b = more_names (names_after k x) xs in omega (arith, a, b)

module _ {R : Type 0} (firing : Raise R) (cpus moment : ℕ) (s t : SystemView R)
    (sound : IsSound firing.view s) (still : AllStill s.cpus) (up : s.cpus.online ≡ replicate cpus true)
    (long : length s.cpus.cpus ≡ cpus) where
  met_one : (cpu : Option ℕ) (id : ℕ) (answer : Result (Unit {0}) Refusal) → IsThere id false s
      → Changes firing s (reprograms cpu id moment answer) t
      → is_done (Make (reprograms cpu id moment answer)) ≡ may_reprogram cpus OnOne cpu
  met_one None id answer there did = single_none firing cpus s t sound still up long id moment answer there did
  met_one (Some n) id answer there did = single_on firing cpus s t sound still up long id moment answer n there did

  met_all : (cpu : Option ℕ) (id : ℕ) (answer : Result (Unit {0}) Refusal) → IsThere id true s
      → Changes firing s (reprograms cpu id moment answer) t
      → is_done (Make (reprograms cpu id moment answer)) ≡ may_reprogram cpus OnAll cpu
  met_all None id answer there did = every_none firing cpus s t sound still up long id moment answer there did
  met_all (Some n) id answer there did = every_on firing cpus s t sound still up long id moment answer n there did

module _ {C R : Type 0} (firing : Raise R) (cpus names given : ℕ)
    (has : ℕ → Standing) where
  -- a reprogram is accepted as the closed form says, where the name has this
  reprogram_met : (name moment : ℕ) (cpu : Option ℕ) (st : Standing) (named : Named) (s t : Progress R C)
      (d : WithId (cyclic_id named) (λ id. (answer : Result (Unit {0}) Refusal)
      × CallsFor firing name (reprograms cpu id moment answer) s t) (t ≡ s))
      → Is st named s.side.system → has_open_removal named ≡ false → Fits firing cpus names given has s → HasWaited firing s
      → AllStill s.side.system.cpus
      → option_map_or is_done (call_with firing (Unit {0}) (λ id answer. reprograms cpu id moment answer) name s t
      (cyclic_id named) d) false ≡ may_reprogram cpus st cpu
  reprogram_met name moment cpu Absent Nothing s t d is stays h w still = refl
  reprogram_met name moment cpu Absent (Removed receipt) s t d is stays h w still = refl
  reprogram_met name moment cpu Absent (Leaving id) s t d is stays h w still = absurd (let odd : true ≡ false = stays in cc)
  reprogram_met name moment cpu Absent (Cyclic id) s t d is stays h w still = absurd is
  reprogram_met name moment cpu OnOne (Cyclic id) s t (answer, c) is stays h w still =
      met_one firing cpus moment s.side.system t.side.system w.sound still h.online h.many cpu id answer is c.did
  reprogram_met name moment cpu OnOne Nothing s t d is stays h w still = absurd is
  reprogram_met name moment cpu OnOne (Leaving id) s t d is stays h w still = absurd is
  reprogram_met name moment cpu OnOne (Removed receipt) s t d is stays h w still = absurd is
  reprogram_met name moment cpu OnAll (Cyclic id) s t (answer, c) is stays h w still =
      met_all firing cpus moment s.side.system t.side.system w.sound still h.online h.many cpu id answer is c.did
  reprogram_met name moment cpu OnAll Nothing s t d is stays h w still = absurd is
  reprogram_met name moment cpu OnAll (Leaving id) s t d is stays h w still = absurd is
  reprogram_met name moment cpu OnAll (Removed receipt) s t d is stays h w still = absurd is

  -- a step that changes nothing of what the names have
  pub same_has : (b : Bool) (t : Progress R C) → Fits firing cpus names given has t
      → Fits firing cpus names given (cond b has has) t
  same_has true t h = h
  same_has false t h = h

  -- a CPU that is online can't come back
  pub back_stays : (n : ℕ) (answer : Result (Unit {0}) Refusal) (s t : Progress R C)
      → CallsFor firing 0 (Online n s.clock answer) s t → Fits firing cpus names given has s
      → (is_ok answer ≡ false) × Stays firing cpus names given has s t
  back_stays n answer s t c h =
      let (refused, same) = online_same firing cpus n s.clock answer s.side.system t.side.system h.online h.many c.did in (
        refused,
        record {
          fits = fits_same firing cpus names given has s t 0 (Online n s.clock answer) c h
              (ap (λ (x : SystemView R). x.cpus.online) same) c.told
              (subst (λ (x : SystemView R). x.last ≤ given) (sym same) h.few) (λ id touches. touches);
          calm = λ q. record {
            none = subst NoneLeaves (sym c.told) q.none;
            still = subst (λ (x : SystemView R). AllStill x.cpus) (sym same) q.still;
          };
        },
      )

module _ {C R : Type 0} (firing : Raise R) (cpus names given : ℕ) (has : ℕ → Standing) where
  -- the clock alone is set
  pub set_fits : (now : ℕ) (s : Progress R C) → now < never → Fits firing cpus names given has s
      → Fits firing cpus names given has (record s { clock = now })
  set_fits now s early h = record {
    rising = h.rising;
    above = h.above;
    few = h.few;
    early = early;
    long = h.long;
    online = h.online;
    many = h.many;
    ready = h.ready;
    each = h.each;
    ids = h.ids;
    own = h.own;
  }

module _ {C R : Type 0} (handler : Calls C)
    (firing : Raise R) (cpus names : ℕ) (few : names ≤ most_cyclics) (suspended : Bool) where
  -- a word that leaves what the names have, and is met so
  pub stays_next : (given : ℕ) (has : ℕ → Standing) (x : Step) (s t : Progress R C)
      (d : DoesStep handler firing x s t) → names_after given x ≡ given → after_step x has ≡ has
      → OnlyMoves x ⊎ (was_accepted handler firing x s t d ≡ is_taken cpus suspended has x)
      → Stays firing cpus names given has s t
      → NextCalm handler firing cpus names few suspended given has x s t d
  stays_next given has x s t d none same agree stays = record {
    next = record {
      agree = agree;
      fits = subst (λ (k : ℕ). Fits firing cpus names k (cond (is_taken cpus suspended has x) (after_step x has) has) t)
          (sym none)
          (subst (λ (f : ℕ → Standing). Fits firing cpus names given (cond (is_taken cpus suspended has x) f has) t) (sym same)
          (same_has firing cpus names given has (is_taken cpus suspended has x) t stays.fits));
    };
    calm = stays.calm;
  }

  pub reprogram_next : (given : ℕ) (has : ℕ → Standing) (r : ReprogramStep) (s t : Progress R C)
      (d : DoesStep handler firing (steps.Reprogram r) s t) → Fits firing cpus names given has s
      → HasWaited firing s → NextCalm handler firing cpus names few suspended given has (steps.Reprogram r) s t d
  reprogram_next given has r s t (inl (moment, is, d)) h w =
      let q = waited_calm firing s w in
      stays_next given has (steps.Reprogram r) s t (inl (moment, is, d)) refl refl
      (inr (reprogram_met firing cpus names given has r.name moment r.cpu (has r.name) (named_at s.names r.name) s t d
      (h.each r.name) (w.none r.name) h w q.still
      ∙ (λ i. sym (moment_of r.moment moment is) i && may_reprogram cpus (has r.name) r.cpu)))
      (word_stays handler firing cpus names given has (steps.Reprogram r) s t tt tt (inl (moment, is, d)) h)
  reprogram_next given has r s t (inr (number, same)) h w =
      stays_next given has (steps.Reprogram r) s t (inr (number, same)) refl refl
      (inr (λ i. sym (no_moment_of r.moment number) i && may_reprogram cpus (has r.name) r.cpu))
      (stays_same firing cpus names given has s t same h)
