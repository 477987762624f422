-- The words that move cyclics keep what is true between two steps, and so do those that set when one expires.
use Rattle.std.proofs.Common.{◌≡◌, ◌∙◌, ◌==◌, ℕ, suc, ◌<◌, ◌≤◌, ◌⊎◌, inl, inr, Bool, true, false, cond, not}
use Rattle.std.proofs.Common.{Option, Some, None, Result, Ok, Err, List, [], ◌∷◌, find, length, get_or, replicate, refl, sym, ap}
use Rattle.std.proofs.Common.{subst, arith}
use Rattle.std.specs.Prelude.{⊤, nat_lt, nat_le, ◌&&◌, ◌||◌, is_ok, is_some}
use Rattle.std.specs.List.{slice_get, list_any}
use Rattle.std.specs.Option.{option_map_or, option_and_then}
use Rattle.std.proofs.lemmas.Bool.Decides.{nat_tests}
use Rattle.std.proofs.lemmas.List.{get_or-replicate, length-replicate}
use Rattle.std.proofs.lemmas.Option.{slice_get-get_or}
use Rattle.cyc_types.specs.declared.Calls.{Ghosts as Calls}
use Rattle.cyc_types.specs.declared.Raise.{Ghosts as Raise}
use Rattle.cyc_types.specs.declared.refusal.Refusal.{Refusal}
use Rattle.cyc_types.specs.declared.refusal.Refusal.TheVariants as why
use Rattle.cyc_types.specs.Reasons.{first_refusal, bad_now}
use Rattle.cyc_cpu.specs.Cpu.{CpuView}
use Rattle.cyc_places.specs.declared.record.Record.{Record}
use Rattle.cyc_places.specs.Places.{is_everywhere}
use Rattle.cyc_agreement.specs.Cpus.{CpusView}
use Rattle.cyc_threads.proofs.Lists.{any_none, eq_true}
use Rattle.cyc_threads.proofs.FirstReason.{not_when, is_when, passes, stops, not_le, le_true}
use Rattle.cyc_threads.proofs.Spots.{none_some, same_some}
use Rattle.cyc_threads.specs.System.{SystemView, has as has_on, removal_on, is_online, is_leaving_here}
use Rattle.cyc_threads.specs.System.{is_leaving as is_leaving_id}
use Rattle.cyc_threads.specs.System.{is_unknown, is_omnipresent, record_of}
use Rattle.cyc_threads.specs.Refusals.{no_cyclic, omnipresent, no_cpu, offline_cpu, no_component}
use Rattle.cyc_system_rings.specs.Online.{online_cpu}
use Rattle.cyc_script.specs.declared.step.Step.{Step}
use Rattle.cyc_script.specs.declared.step.Step.TheVariants as steps
use Rattle.cyc_threads.specs.Calls.{SystemCall, Changes, Add, AddOmni, BeginRemove, PollRemove, AskTotals, Reprogram}
use Rattle.cyc_threads.specs.Calls.{ReprogramOn, Offline, Online, FireOne, SoftInterrupt}
use Rattle.cyc_threads.specs.Keeping.{TouchesRecord}
use Rattle.cyc_threads.specs.Sound.{IsSound}
use Rattle.cyc_threads.specs.declared.progress.Progress.{Progress}
use Rattle.cyc_threads.specs.StepCalls.{CallsFor}
use Rattle.cyc_words.specs.Names.{NoneLeaves, noted}
use Rattle.cyc_words.specs.Words.{MakesCall}
use Rattle.cyc_words.proofs.Within.{IsCallOf}
use Rattle.cyc_threads.specs.Words.{DoesStep}
use Rattle.cyc_thread_calls.specs.Way.{Standing}
use Rattle.cyc_thread_calls.proofs.Called.{LeavesNames, by_word, no_news}
use Rattle.cyc_thread_calls.proofs.Keeping.{AllStill, IsMove, keeps_call, last_move, quiet_move}
use Rattle.cyc_thread_calls.proofs.Fitting.{IsThere, Fits, fits_same}
use Rattle.cyc_thread_calls.proofs.Waiting.{IsCalmNow}

-- ---- where all CPUs are online and no removal is open

pub all_online : (cpus n : ℕ) → n < cpus → option_map_or (λ (b : Bool). b) (slice_get (replicate cpus true) n) false ≡ true
all_online cpus n low =
    ap (λ o. option_map_or (λ (b : Bool). b) o false)
    (slice_get-get_or (replicate cpus true) n false (let e = length-replicate cpus true in omega (arith, low, e)))
    ∙ get_or-replicate cpus n true false low

pub none_leaving : {R : Type 0} (v : CpusView R) (id : ℕ) → AllStill v → list_any (is_leaving_here id) v.cpus ≡ false
none_leaving v id still = any_none (is_leaving_here id) v.cpus (λ j d low.
    ap (λ o. option_map_or (λ own. own == id) o false)
    (still j (get_or v.cpus j d) (slice_get-get_or v.cpus j d low)))

pub none_removed : {R : Type 0} (v : CpusView R) (n : ℕ) → AllStill v → removal_on n v ≡ None
none_removed v n still = by (slice_get v.cpus n) refl
  where
    by : (o : Option (CpuView _)) → slice_get v.cpus n ≡ o → removal_on n v ≡ None
    by None e = ap (λ o. option_and_then (λ (cpu : CpuView _). cpu.removal) o) e
    by (Some x) e = ap (λ o. option_and_then (λ (cpu : CpuView _). cpu.removal) o) e ∙ still n x e

-- what is found has a position
find_at : {A : Type 0} (p : A → Bool) (xs : List A) (x : A) → find p xs ≡ Some x
    → (k : ℕ) × (slice_get xs k ≡ Some x) × (p x ≡ true)
find_at p [] x e = absurd (none_some e)
find_at p (y ∷ ys) x e = by (p y) refl e (find_at p ys x)
  where
    by : (b : Bool) → p y ≡ b → cond b (Some y) (find p ys) ≡ Some x
        → (find p ys ≡ Some x → (k : ℕ) × (slice_get ys k ≡ Some x) × (p x ≡ true))
        → (k : ℕ) × (slice_get (y ∷ ys) k ≡ Some x) × (p x ≡ true)
    by true is e rest = (0, e, sym (ap p (same_some e)) ∙ is)
    by false is e rest = let (k, at, passes) = rest e in (suc k, at, passes)

-- an id that is there is refused for no reason of its own
pub is_known : {R : Type 0} (id : ℕ) (everywhere : Bool) (s : SystemView R) → IsThere id everywhere s → AllStill s.cpus
    → no_cyclic id s ≡ None
is_known id everywhere s h still = not_when (is_unknown id s || is_leaving_id id s) why.NoCyclic
    ((λ i. h.known i || none_leaving s.cpus id still i))

-- ---- a move

-- the word neither adds a cyclic nor removes one, and takes no CPU offline or back
abbrev pub LeavesCpus : Step → Type 0
LeavesCpus (steps.Add a) = ⊥
LeavesCpus (steps.Omni a) = ⊥
LeavesCpus (steps.Remove name) = ⊥
LeavesCpus (steps.Offline n) = ⊥
LeavesCpus (steps.Online n) = ⊥
LeavesCpus x = ⊤

leaves_names : (x : Step) → LeavesCpus x → LeavesNames x
leaves_names (steps.Add a) plain = plain
leaves_names (steps.Omni a) plain = plain
leaves_names (steps.Remove name) plain = plain
leaves_names x plain = tt

moves : {R : Type 0} (firing : Raise R) (x : Step) (call : SystemCall) → LeavesCpus x → IsCallOf x call → IsMove firing call
moves firing (steps.Add a) call plain is = absurd plain
moves firing (steps.Omni a) call plain is = absurd plain
moves firing (steps.Remove name) call plain is = absurd plain
moves firing (steps.Offline n) call plain is = absurd plain
moves firing (steps.Online n) call plain is = absurd plain
moves firing x (Add level when now answer) plain is = absurd is
moves firing x (AddOmni level when skew now answer) plain is = absurd is
moves firing x (BeginRemove id answer) plain is = absurd is
moves firing x (PollRemove id answer) plain is = absurd is
moves firing x (AskTotals id answer) plain is = absurd is
moves firing x (Offline n answer) plain is = absurd is
moves firing x (Online n now answer) plain is = absurd is
moves firing x (FireOne n now answer) plain is = absurd is
moves firing x (SoftInterrupt n level budget answer) plain is = absurd is
moves firing x call plain is = tt

untouched : (x : Step) (call : SystemCall) → LeavesCpus x → IsCallOf x call → (id : ℕ) → TouchesRecord id call → ⊥
untouched (steps.Add a) call plain is id touches = plain
untouched (steps.Omni a) call plain is id touches = plain
untouched (steps.Remove name) call plain is id touches = plain
untouched (steps.Offline n) call plain is id touches = plain
untouched (steps.Online n) call plain is id touches = plain
untouched x (Add level when now answer) plain is id touches = is
untouched x (AddOmni level when skew now answer) plain is id touches = is
untouched x (BeginRemove own answer) plain is id touches = is
untouched x (PollRemove own answer) plain is id touches = is
untouched x (Offline n answer) plain is id touches = is
untouched x (Online n now answer) plain is id touches = is
untouched x call plain is id touches = touches

module _ {C R : Type 0} (firing : Raise R) (cpus names given : ℕ) (has : ℕ
    → Standing) where
  -- what is true stays, and so does that nothing is open
  pub record Stays (s t : Progress R C) : Type 0 where
    pub fits : Fits firing cpus names given has t
    pub calm : IsCalmNow firing s → IsCalmNow firing t

  pub stays_same : (s t : Progress R C) → t ≡ s → Fits firing cpus names given has s → Stays s t
  stays_same s t e h = record {
    fits = subst (λ (p : Progress R C). Fits firing cpus names given has p) (sym e) h;
    calm = λ c. subst (λ (p : Progress R C). IsCalmNow firing p) (sym e) c;
  }

  pub stays_move : (name : ℕ) (call : SystemCall) (s t : Progress R C) → CallsFor firing name call s t → IsMove firing call
      → t.names ≡ s.names → ((id : ℕ) → TouchesRecord id call → ⊥) → Fits firing cpus names given has s → Stays s t
  stays_move name call s t c move same other h =
      let k = keeps_call firing s.side.system t.side.system call c.did (quiet_move firing call move) in record {
        fits = fits_same firing cpus names given has s t name call c h k.online same
            (subst (λ (n : ℕ). n ≤ given) (sym (last_move firing s.side.system t.side.system call c.did move)) h.few) other;
        calm = λ q. record { none = subst NoneLeaves (sym same) q.none; still = k.still q.still };
      }

module _ {C R : Type 0} (handler : Calls C) (firing : Raise R) (cpus names given : ℕ) (has : ℕ → Standing) where
  -- so does a word that neither adds a cyclic nor removes one, and takes no CPU offline or back
  pub word_stays : (x : Step) (s t : Progress R C) → MakesCall x → LeavesCpus x → DoesStep handler firing x s t
      → Fits firing cpus names given has s → Stays firing cpus names given has s t
  word_stays x s t makes plain d h = by_word handler firing s t (λ o. Stays firing cpus names given has s t)
      (λ e. stays_same firing cpus names given has s t e h) x makes
      (λ name call is c. stays_move firing cpus names given has name call s t c (moves firing x call plain is)
      (c.told ∙ ap (λ o. noted name o s.names) (no_news x call (leaves_names x plain) is)) (untouched x call plain is) h) d

-- ---- a CPU that is online can't come back

back_refused : {R : Type 0} (cpus n now : ℕ) (s : SystemView R) → s.cpus.online ≡ replicate cpus true
    → length s.cpus.cpus ≡ cpus → first_refusal (no_cpu n s ∷ online_cpu n s ∷ bad_now now ∷ []) ≡ None → ⊥
back_refused cpus n now s up long clear = by (nat_le (length s.cpus.cpus) n) refl
  where
    by : (b : Bool) → nat_le (length s.cpus.cpus) n ≡ b → ⊥
    by true e = none_some (sym clear ∙ stops (no_cpu n s) (online_cpu n s ∷ bad_now now ∷ []) why.NoCpu
        (is_when (nat_le (length s.cpus.cpus) n) why.NoCpu e))
    by false e = let low : n < cpus = grind (arith, nat_tests, e, long) in
        let on = ap (λ bs. option_map_or (λ (b : Bool). b) (slice_get bs n) false) up ∙ all_online cpus n low in
        none_some (sym clear ∙ passes (no_cpu n s) (online_cpu n s ∷ bad_now now ∷ []) (Some why.Online)
        (not_when (nat_le (length s.cpus.cpus) n) why.NoCpu e)
        (stops (online_cpu n s) (bad_now now ∷ []) why.Online (is_when (is_online n s.cpus) why.Online on)))

pub online_same : {R : Type 0} (firing : Raise R) (cpus n now : ℕ)
    (answer : Result (Unit {0}) Refusal) (s t : SystemView R) → s.cpus.online ≡ replicate cpus true
    → length s.cpus.cpus ≡ cpus → Changes firing s (Online n now answer) t → (is_ok answer ≡ false) × (t ≡ s)
online_same firing cpus n now answer s t up long (inl (e, first, is, same)) = (ap is_ok is, same)
online_same firing cpus n now answer s t up long (inr (clear, goes)) = absurd (back_refused cpus n now s up long clear)

-- ---- whether a reprogram is accepted

ok_true : (answer : Result (Unit {0}) Refusal) → answer ≡ Ok tt → is_ok answer ≡ true
ok_true answer e = ap is_ok e

err_false : (answer : Result (Unit {0}) Refusal) (e : Refusal) → answer ≡ Err e → is_ok answer ≡ false
err_false answer e is = ap is_ok is

-- one of several reasons holds, whatever the others
or_some : (o : Option Refusal) (whys : List (Option Refusal)) → (first_refusal whys ≡ None → ⊥) → first_refusal (o ∷ whys) ≡ None
    → ⊥
or_some None whys not e = not e
or_some (Some x) whys not e = none_some (sym e)

module _ {R : Type 0} (firing : Raise R) (cpus : ℕ) (s t : SystemView R)
    (sound : IsSound firing.view s) (still : AllStill s.cpus) (up : s.cpus.online ≡ replicate cpus true)
    (long : length s.cpus.cpus ≡ cpus) (id moment : ℕ) (answer : Result (Unit {0}) Refusal) where
  pub single_none : IsThere id false s → Changes firing s (Reprogram id moment answer) t → is_ok answer ≡ true
  single_none h (inl (e, first, is, same)) = absurd (none_some (sym (passes (no_cyclic id s) (omnipresent id s ∷ []) None
      (is_known id false s h still)
      (passes (omnipresent id s) [] None (not_when (is_omnipresent id s) why.Omnipresent h.placement) refl)) ∙ first))
  single_none h (inr (clear, (n, home, (is, only)))) = ok_true answer is

  pub single_on : (n : ℕ) → IsThere id false s → Changes firing s (ReprogramOn id n moment answer) t → is_ok answer ≡ false
  single_on n h (inl (e, first, is, same)) = err_false answer e is
  single_on n h (inr (clear, goes)) = absurd (or_some (no_cyclic id s) (no_cpu n s ∷ offline_cpu n s ∷ no_component id n s ∷ [])
      (or_some (no_cpu n s) (offline_cpu n s ∷ no_component id n s ∷ []) (or_some (offline_cpu n s) (no_component id n s ∷ [])
      (λ e. none_some (sym e ∙ stops (no_component id n s) [] why.NoCyclic
      (is_when (not (is_omnipresent id s && has_on n id s.cpus)) why.NoCyclic
      (ap (λ b. not (b && has_on n id s.cpus)) h.placement)))))) clear)

  pub every_none : IsThere id true s → Changes firing s (Reprogram id moment answer) t → is_ok answer ≡ false
  every_none h (inl (e, first, is, same)) = err_false answer e is
  every_none h (inr (clear, goes)) = absurd (or_some (no_cyclic id s) (omnipresent id s ∷ [])
      (λ e. none_some (sym e ∙ stops (omnipresent id s) [] why.Omnipresent
      (is_when (is_omnipresent id s) why.Omnipresent h.placement))) clear)

  -- an omnipresent cyclic has a component on each CPU
  component_here : (n : ℕ) → n < cpus → IsThere id true s → has_on n id s.cpus ≡ true
  component_here n low h = by (record_of id s) refl
    where
      either : (r : Record) → r.id ≡ id → (has_on n r.id s.cpus ≡ true) ⊎ ((m : ℕ) × (removal_on m s.cpus ≡ Some r.id))
          → has_on n id s.cpus ≡ true
      either r same (inl here) = subst (λ (k : ℕ). has_on n k s.cpus ≡ true) same here
      either r same (inr (m, leaving)) = absurd (none_some (sym (none_removed s.cpus m still) ∙ leaving))

      by : (o : Option Record) → record_of id s ≡ o → has_on n id s.cpus ≡ true
      by None e = absurd (let odd : true ≡ false = sym (ap (λ o. not (is_some o)) e) ∙ h.known in cc)
      by (Some r) e =
          let (k, here, named) = find_at (λ (q : Record). q.id == id) s.records r e in
          let is : is_everywhere r.placement ≡ true =
          sym (ap (λ o. option_map_or (λ (q : Record). is_everywhere q.placement) o false) e) ∙ h.placement in
          let on = ap (λ bs. option_map_or (λ (b : Bool). b) (slice_get bs n) false) up ∙ all_online cpus n low in
          either r (eq_true r.id id named) (sound.agrees.everywhere k n r here is on)

  pub every_on : (n : ℕ) → IsThere id true s → Changes firing s (ReprogramOn id n moment answer) t
      → is_ok answer ≡ nat_lt n cpus
  every_on n h d = by (nat_lt n cpus) refl d
    where
      by : (b : Bool) → nat_lt n cpus ≡ b → Changes firing s (ReprogramOn id n moment answer) t → is_ok answer ≡ b
      by true e (inl (x, first, is, same)) = let low : n < cpus = grind (arith, nat_tests, e) in
          let on = ap (λ bs. option_map_or (λ (b : Bool). b) (slice_get bs n) false) up ∙ all_online cpus n low in
          absurd (none_some (sym (passes (no_cyclic id s) (no_cpu n s ∷ offline_cpu n s ∷ no_component id n s ∷ []) None
          (is_known id true s h still) (passes (no_cpu n s) (offline_cpu n s ∷ no_component id n s ∷ []) None (not_when
          (nat_le (length s.cpus.cpus) n) why.NoCpu
          (not_le (length s.cpus.cpus) n (omega (arith, low, long))))
          (passes (offline_cpu n s) (no_component id n s ∷ []) None (not_when (not (is_online n s.cpus)) why.Offline (ap not on))
          (passes (no_component id n s) [] None (not_when (not (is_omnipresent id s && has_on n id s.cpus)) why.NoCyclic
          (λ i. not (h.placement i && component_here n low h i))) refl)))) ∙ first))
      by true e (inr (clear, (is, only))) = ok_true answer is
      by false e (inl (x, first, is, same)) = err_false answer x is
      by false e (inr (clear, goes)) = absurd (or_some (no_cyclic id s)
          (no_cpu n s ∷ offline_cpu n s ∷ no_component id n s ∷ []) (λ k. none_some (sym k
          ∙ stops (no_cpu n s) (offline_cpu n s ∷ no_component id n s ∷ []) why.NoCpu (is_when (nat_le
          (length s.cpus.cpus) n) why.NoCpu
          (le_true (length s.cpus.cpus) n (let high : cpus ≤ n = grind (arith, nat_tests, e) in
          omega (arith, high, long)))))) clear)
