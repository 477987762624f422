-- What each name has while a run takes its steps.
use Rattle.std.proofs.Common.{◌≡◌, ◌≢◌, ◌∙◌, ℕ, ◌<◌, ◌≤◌, ◌==◌, inl, inr, List, [], ◌∷◌, ◌++◌, Option, Some, None, Result, Ok}
use Rattle.std.proofs.Common.{Err, cond, refl, sym, ap, subst, arith, replicate}
use Rattle.std.specs.Prelude.{Bool, true, false}
use Rattle.std.specs.List.{FoldsTo}
use Rattle.std.specs.Option.{option_map_or}
use Rattle.std.proofs.lemmas.List.{append_assoc, append-nil}
use Rattle.cyc_types.specs.declared.Calls.{Ghosts as Calls}
use Rattle.cyc_types.specs.declared.Raise.{Ghosts as Raise}
use Rattle.cyc_types.specs.declared.level.Level.{Level}
use Rattle.cyc_types.specs.declared.moment.When.{When}
use Rattle.cyc_types.specs.declared.receipt.Receipt.{Receipt}
use Rattle.cyc_types.specs.declared.refusal.Refusal.{Refusal}
use Rattle.cyc_threads.proofs.Lists.{true_eq, false_ne}
use Rattle.cyc_script.specs.declared.step.Step.{Step}
use Rattle.cyc_script.specs.declared.step.Step.TheVariants as steps
use Rattle.cyc_threads.specs.SystemRemoval.{SystemRemoval}
use Rattle.cyc_threads.specs.SystemRemoval.TheVariants.{Done, Kept}
use Rattle.cyc_threads.specs.Calls.{SystemCall, Changes, Add, AddOmni, BeginRemove, PollRemove}
use Rattle.cyc_threads.proofs.Pieces.{made_of}
use Rattle.cyc_system_rings.specs.Leading.{LeadCall, Make, FireAll, AskAll}
use Rattle.cyc_system_rings.specs.Rings.{receipt_of, first_ring}
use Rattle.cyc_words.specs.declared.named.Named.{Named}
use Rattle.cyc_words.specs.declared.named.Named.TheVariants.{Nothing, Cyclic, Leaving, Removed}
use Rattle.cyc_threads.specs.declared.progress.Progress.{Progress}
use Rattle.cyc_words.specs.Names.{named_at, cyclic_id, news, noted}
use Rattle.cyc_threads.specs.StepCalls.{CallsFor, Poll, Polls, Waits}
use Rattle.cyc_words.specs.Words.{WithId}
use Rattle.cyc_threads.specs.Words.{DoesStep, Begins, waits_first}
use Rattle.cyc_threads.specs.Steps.{TakesSteps, Runs}
use Rattle.cyc_thread_calls.specs.Leading.{calls_in, poll_calls, wait_calls, begin_calls, call_of}
use Rattle.cyc_thread_calls.specs.Leading.{steps_calls, run_calls}
use Rattle.cyc_thread_calls.specs.Giving.{given_by, given_in, later_id, id_in_steps, id_given}
use Rattle.cyc_thread_calls.proofs.Called.{call_with, by_word, no_news, no_receipt}
use Rattle.cyc_thread_calls.proofs.Holding.{Fits, Holds, holds_first, holds_as, holds_quiet, holds_given, holds_changed}

-- the receipt of one id is none of another
receipt_else : (own id : ℕ) (receipt : Receipt) → own ≢ id → cond (id == own) (Some receipt) None ≡ None
receipt_else own id receipt ne = ap (λ b. cond b (Some receipt) None) (false_ne id own (λ e. ne (sym e)))

receipt_own : (id : ℕ) (receipt : Receipt) → cond (id == id) (Some receipt) None ≡ Some receipt
receipt_own id receipt = ap (λ b. cond b (Some receipt) None) (true_eq id id refl)

module _ {C R : Type 0} (handler : Calls C) (firing : Raise R) (many : ℕ) where
  abbrev pub Held : (ℕ → Option ℕ) → List LeadCall → Progress R C → Type 0
  Held g way p = Holds many g way p.names p.side.system.last

  same_held : (g : ℕ → Option ℕ) (way : List LeadCall) (s t : Progress R C) → t ≡ s → Held g way s → Held g (way ++ []) t
  same_held g way s t e k = subst (λ w. Held g w t) (sym (append-nil way)) (subst (λ p. Held g way p) (sym e) k)

  grows : (name : ℕ) (call : SystemCall) (s t : Progress R C) → CallsFor firing name call s t
      → s.side.system.last ≤ t.side.system.last
  grows name call s t c = (made_of firing s.side.system t.side.system call c.did).last

  quiet : (g : ℕ → Option ℕ) (way : List LeadCall) (name : ℕ) (call : SystemCall) (s t : Progress R C)
      → CallsFor firing name call s t → news call ≡ None → ((own : ℕ) → receipt_of own (Make call) ≡ None) → Held g way s
      → Held g (way ++ Make call ∷ []) t
  quiet g way name call s t c e none k = holds_quiet many g way s.names s.side.system.last k
      (Make call) t.names t.side.system.last none
      (c.told ∙ ap (λ o. noted name o s.names) e) (grows name call s t c)

  given : (g h : ℕ → Option ℕ) (way : List LeadCall) (name id : ℕ) (call : SystemCall) (s t : Progress R C)
      → CallsFor firing name call s t → news call ≡ Some (Cyclic id) → ((own : ℕ) → receipt_of own (Make call) ≡ None)
      → (s.side.system.last < id) × (id ≤ t.side.system.last) → h name ≡ Some id → ((m : ℕ) → m ≢ name → h m ≡ g m)
      → Held g way s → Held h (way ++ Make call ∷ []) t
  given g h way name id call s t c e none (less, low) here there k =
      holds_given many g way s.names s.side.system.last k h (Make call) name id t.names t.side.system.last none
      (c.told ∙ ap (λ o. noted name o s.names) e) less low here there

  changed : (g : ℕ → Option ℕ) (way : List LeadCall) (name id : ℕ) (now : Named) (call : SystemCall) (s t : Progress R C)
      → CallsFor firing name call s t → news call ≡ Some now → cyclic_id (named_at s.names name) ≡ Some id
      → ((own : ℕ) → own ≢ id → receipt_of own (Make call) ≡ None) → Fits (Some id) (Make call ∷ []) now
      → Held g way s → Held g (way ++ Make call ∷ []) t
  changed g way name id now call s t c e has others fits k =
      holds_changed many g way s.names s.side.system.last k (Make call) name id now t.names t.side.system.last has others fits
      (c.told ∙ ap (λ o. noted name o s.names) e) (grows name call s t c)

  -- ---- removals

  pub begins : (g : ℕ → Option ℕ) (way : List LeadCall) (name id : ℕ) (answer : Result SystemRemoval Refusal) (s t : Progress R C)
      → cyclic_id (named_at s.names name) ≡ Some id → CallsFor firing name (BeginRemove id answer) s t → Held g way s
      → Held g (way ++ Make (BeginRemove id answer) ∷ []) t
  begins g way name id (Ok (Kept calls)) s t has c k =
      changed g way name id (Leaving id) _ s t c refl has (λ own ne. refl) (refl, refl) k
  begins g way name id (Ok (Done receipt)) s t has c k =
      changed g way name id (Removed receipt) _ s t c refl has (λ own ne. receipt_else own id receipt ne)
      (id, refl, ap (λ o. first_ring o None) (receipt_own id receipt)) k
  begins g way name id (Err e) s t has c k = quiet g way name _ s t c refl (λ own. refl) k

  pub polls : (g : ℕ → Option ℕ) (way : List LeadCall) (name id : ℕ) (answer : Result (Option Receipt) Refusal)
      (s t : Progress R C)
      → cyclic_id (named_at s.names name) ≡ Some id → CallsFor firing name (PollRemove id answer) s t → Held g way s
      → Held g (way ++ Make (PollRemove id answer) ∷ []) t
  polls g way name id (Ok (Some receipt)) s t has c k =
      changed g way name id (Removed receipt) _ s t c refl has (λ own ne. receipt_else own id receipt ne)
      (id, refl, ap (λ o. first_ring o None) (receipt_own id receipt)) k
  polls g way name id (Ok None) s t has c k = quiet g way name _ s t c refl (λ own. refl) k
  polls g way name id (Err e) s t has c k = quiet g way name _ s t c refl (λ own. refl) k

  -- ---- adds

  -- a name, and the others
  here_given : (g : ℕ → Option ℕ) (name id : ℕ) → later_id (g name) (cond (name == name) (Some id) None) ≡ Some id
  here_given g name id = ap (λ b. later_id (g name) (cond b (Some id) None)) (true_eq name name refl)

  there_given : (g : ℕ → Option ℕ) (name id m : ℕ) → m ≢ name → later_id (g m) (cond (name == m) (Some id) None) ≡ g m
  there_given g name id m ne = ap (λ b. later_id (g m) (cond b (Some id) None)) (false_ne name m (λ e. ne (sym e)))

  none_given : (o : Option ℕ) (b : Bool) → later_id o (cond b None None) ≡ o
  none_given o true = refl
  none_given o false = refl

  added : (g : ℕ → Option ℕ) (way : List LeadCall) (name : ℕ) (level : Level) (when : When) (now : ℕ) (answer : Result ℕ Refusal)
      (s t : Progress R C) → CallsFor firing name (Add level when now answer) s t → Held g way s
      → Held (λ n. later_id (g n) (cond (name == n) (option_map_or given_by (Some (Make (Add level when now answer))) None) None))
      (way ++ Make (Add level when now answer) ∷ []) t
  added g way name level when now (Ok id) s t c k =
      given g _ way name id _ s t c refl (λ own. refl) (by c.did) (here_given g name id) (there_given g name id) k
    where
      by : Changes firing s.side.system (Add level when now (Ok id)) t.side.system
          → (s.side.system.last < id) × (id ≤ t.side.system.last)
      by (inl (e, why, is, same)) = absurd (let odd : Ok id ≡ Err e = is in cc)
      by (inr (clear, (d, chosen, next, works, records, last))) = (omega (arith, next), omega (arith, last))
  added g way name level when now (Err e) s t c k =
      holds_as many g _ _ t.names t.side.system.last (λ n. none_given (g n) (name == n)) (quiet g way name _ s t c refl
      (λ own. refl) k)

  added_everywhere : (g : ℕ → Option ℕ) (way : List LeadCall) (name : ℕ) (level : Level) (when : When) (skew now : ℕ)
      (answer : Result ℕ Refusal) (s t : Progress R C) → CallsFor firing name (AddOmni level when skew now answer) s t
      → Held g way s → Held (λ n. later_id (g n)
      (cond (name == n) (option_map_or given_by (Some (Make (AddOmni level when skew now answer))) None) None))
      (way ++ Make (AddOmni level when skew now answer) ∷ []) t
  added_everywhere g way name level when skew now (Ok id) s t c k =
      given g _ way name id _ s t c refl (λ own. refl) (by c.did) (here_given g name id) (there_given g name id) k
    where
      by : Changes firing s.side.system (AddOmni level when skew now (Ok id)) t.side.system
          → (s.side.system.last < id) × (id ≤ t.side.system.last)
      by (inl (e, why, is, same)) = absurd (let odd : Ok id ≡ Err e = is in cc)
      by (inr (clear, (next, works, records, last))) = (omega (arith, next), omega (arith, last))
  added_everywhere g way name level when skew now (Err e) s t c k =
      holds_as many g _ _ t.names t.side.system.last (λ n. none_given (g n) (name == n)) (quiet g way name _ s t c refl
      (λ own. refl) k)

  -- ---- steps

  removed : (g : ℕ → Option ℕ) (way : List LeadCall) (name : ℕ) (s t : Progress R C) (id : Option ℕ)
      → cyclic_id (named_at s.names name) ≡ id
      → (d : WithId id (λ own. (answer : Result SystemRemoval Refusal) × CallsFor firing name (BeginRemove own answer) s t)
      (t ≡ s)) → Held g way s
      → Held g (way ++ calls_in (call_with firing SystemRemoval (λ own answer. BeginRemove own answer) name s t id d)) t
  removed g way name s t (Some id) has (answer, did) k = begins g way name id answer s t has did k
  removed g way name s t None has e k = same_held g way s t e k

  pub does_held : (g : ℕ → Option ℕ) (way : List LeadCall) (x : Step) (s t : Progress R C)
      (d : DoesStep handler firing x s t) → Held g way s
      → Held (λ n. later_id (g n) (given_in n x (call_of handler firing x s t d)))
      (way ++ calls_in (call_of handler firing x s t d)) t
  does_held g way (steps.Add a) s t (inl (when, starts, lasts, long, (answer, did))) k =
      added g way a.name a.level when s.clock answer s t did k
  does_held g way (steps.Add a) s t (inr (odd, e)) k =
      holds_as many g _ _ t.names t.side.system.last (λ n. none_given (g n) (a.name == n)) (same_held g way s t e k)
  does_held g way (steps.Omni a) s t (inl (when, starts, lasts, long, (answer, did))) k =
      added_everywhere g way a.name a.level when a.skew s.clock answer s t did k
  does_held g way (steps.Omni a) s t (inr (odd, e)) k =
      holds_as many g _ _ t.names t.side.system.last (λ n. none_given (g n) (a.name == n)) (same_held g way s t e k)
  does_held g way (steps.Remove name) s t d k = removed g way name s t (cyclic_id (named_at s.names name)) refl d k
  does_held g way (steps.Advance now) s t (inl (suspended, e)) k = same_held g way (record s { clock = now }) t e k
  does_held g way (steps.Advance now) s t (inr f) k =
      holds_quiet many g way s.names s.side.system.last k (FireAll now) t.names t.side.system.last (λ own. refl) f.names
      (let a = ap (λ p. p.system.last) f.side in let b = f.fired.last in omega (arith, a, b))
  does_held g way (steps.Softint i) s t e k = same_held g way s t e k
  does_held g way x s t d k = by_word handler firing s t
      (λ o. Held (λ n. later_id (g n) (given_in n x o)) (way ++ calls_in o) t) (λ e. same_held g way s t e k) x tt
      (λ name call is c. quiet g way name call s t c (no_news x call tt is) (no_receipt x call tt is) k) d

  polls_held : (all : List Poll) (g : ℕ → Option ℕ) (way : List LeadCall) (s t : Progress R C) → FoldsTo (Polls firing) s all t
      → Held g way s → Held g (way ++ poll_calls all) t
  polls_held [] g way s t e k = same_held g way s t (sym e) k
  polls_held (p ∷ all) g way s t (u, (here, did), rest) k =
      subst (λ w. Held g w t) (append_assoc way (Make (PollRemove p.id p.answer) ∷ []) (poll_calls all))
      (polls_held all g (way ++ Make (PollRemove p.id p.answer) ∷ []) u t rest
      (polls g way p.name p.id p.answer s u (ap cyclic_id here) did k))

  pub wait_held : (g : ℕ → Option ℕ) (way : List LeadCall) (s t : Progress R C) (w : Waits firing s t) → Held g way s
      → Held g (way ++ wait_calls firing s t w) t
  wait_held g way s t (all, u, run, q) k =
      subst (λ w. Held g w t) (append_assoc way (poll_calls all) (AskAll ∷ []))
      (holds_quiet many g (way ++ poll_calls all) u.names u.side.system.last (polls_held all g way s u run k) AskAll
      t.names t.side.system.last
      (λ own. refl) q.names (let a = q.asked.last in omega (arith, a)))

  pub begin_held : (g : ℕ → Option ℕ) (way : List LeadCall) (b : Bool) (s t : Progress R C) (w : Begins firing b s t)
      → Held g way s
      → Held g (way ++ begin_calls firing b s t w) t
  begin_held g way false s t e k = same_held g way s t e k
  begin_held g way true s t w k = wait_held g way s t w k

  steps_held : (xs : List Step) (g : ℕ → Option ℕ) (way : List LeadCall) (s t : Progress R C)
      (run : TakesSteps handler firing s xs t) → Held g way s
      → Held (λ n. later_id (g n) (id_in_steps handler firing n s xs t run))
      (way ++ steps_calls handler firing s xs t run) t
  steps_held [] g way s t e k = same_held g way s t (sym e) k
  steps_held (x ∷ xs) g way s t (u, (v, b, d), rest) k =
      let before = begin_calls firing (waits_first x) s v b in
      let own = calls_in (call_of handler firing x v u d) in
      let after = steps_calls handler firing u xs t rest in
      let h : ℕ → Option ℕ = λ n. later_id (g n) (given_in n x (call_of handler firing x v u d)) in
      let j : ℕ → Option ℕ = λ n. later_id (h n) (id_in_steps handler firing n u xs t rest) in
      let so : Held j (((way ++ before) ++ own) ++ after) t = steps_held xs h ((way ++ before) ++ own) u t rest
      (does_held g (way ++ before) x v u d (begin_held g way (waits_first x) s v b k)) in
      let e : (((way ++ before) ++ own) ++ after) ≡ way ++ ((before ++ own) ++ after) =
      ap (λ w. w ++ after) (append_assoc way before own) ∙ append_assoc way (before ++ own) after in
      holds_as many j _ _ t.names t.side.system.last
      (λ n. later_later (g n) (given_in n x (call_of handler firing x v u d))
      (id_in_steps handler firing n u xs t rest))
      (subst (λ w. Held j w t) e so)
    where
      later_later : (a b c : Option ℕ) → later_id a (later_id b c) ≡ later_id (later_id a b) c
      later_later a b None = refl
      later_later a b (Some id) = refl

  -- after all steps and the wait at the end
  pub run_held : (g : ℕ → Option ℕ) (way : List LeadCall) (s : Progress R C) (xs : List Step) (t : Progress R C)
      (run : Runs handler firing s xs t) → Held g way s
      → Held (λ n. later_id (g n) (id_given handler firing n s xs t run))
      (way ++ run_calls handler firing s xs t run) t
  run_held g way s xs t (u, taken, w) k =
      subst (λ z. Held (λ n. later_id (g n) (id_in_steps handler firing n s xs u taken)) z t)
      (append_assoc way (steps_calls handler firing s xs u taken) (wait_calls firing u t w))
      (wait_held (λ n. later_id (g n) (id_in_steps handler firing n s xs u taken))
      (way ++ steps_calls handler firing s xs u taken) u t w (steps_held xs g way s u taken k))

  -- from the beginning, where no name has anything
  pub all_held : (s : Progress R C) (xs : List Step) (t : Progress R C)
      (run : Runs handler firing s xs t) → s.names ≡ replicate many Nothing
      → Held (λ m. id_given handler firing m s xs t run)
      (run_calls handler firing s xs t run) t
  all_held s xs t run none = holds_as many _ _ _ t.names t.side.system.last
      (λ m. first (id_given handler firing m s xs t run))
      (run_held (λ m. None) [] s xs t run
      (subst (λ (l : List Named). Holds many (λ m. None) [] l s.side.system.last) (sym none)
      (holds_first many s.side.system.last)))
    where
      first : (o : Option ℕ) → o ≡ later_id None o
      first None = refl
      first (Some id) = refl
