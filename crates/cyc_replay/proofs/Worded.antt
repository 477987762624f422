-- Each word that makes at most one call of the system is that word of the definition, with its line.
use Rattle.std.proofs.Common.{◌≡◌, ◌≢◌, ℕ, ◌+◌, ◌<◌, ◌≤◌, inl, inr, true, false, List, length, map, None}
use Rattle.std.proofs.Common.{Some, refl, ap, sym, ◌∙◌, subst, arith}
use Rattle.std.specs.Prelude.{pos, int_lt, slice_set, Result, Ok, Err}
use Rattle.std.proofs.lemmas.List.{length-map, map-set}
use Rattle.cyc_types.specs.declared.refusal.JuggleReport.{JuggleReport}
use Rattle.cyc_types.specs.declared.refusal.Refusal.{Refusal}
use Rattle.cyc_types.specs.declared.refusal.Refusal.TheVariants.{Memory, BadWhen, NoCyclic}
use Rattle.cyc_types.specs.Refusals.{number_of as number_of_refusal}
use Rattle.cyc_types.specs.contracts.tally.TallyCalls.TheImpl.{ghosts as tally_calls}
use Rattle.cyc_core.specs.Tables.{Tables}
use Rattle.cyc_cpu.specs.Soft.{raise_tables, Interrupts}
use Rattle.cyc_text.specs.Lines.{refused}
use Rattle.cyc_script.specs.declared.step.Step.{Step}
use Rattle.cyc_script.specs.declared.step.Step.TheVariants as steps
use Rattle.cyc_script.specs.declared.step.Add.{Add as AddStep}
use Rattle.cyc_script.specs.declared.step.Omni.{Omni as OmniStep}
use Rattle.cyc_script.specs.declared.step.Bind.{Bind as BindStep}
use Rattle.cyc_script.specs.declared.step.Reprogram.{Reprogram as ReprogramStep}
use Rattle.cyc_system.specs.System.{SystemView, running_system}
use Rattle.cyc_system.specs.SystemRemoval.{SystemRemoval}
use Rattle.cyc_system.specs.Calls.{SystemCall, Changes, Does, Add, AddOmni, Bind, BeginRemove}
use Rattle.cyc_system.specs.Calls.{Juggle, Offline, Online, Suspend, Resume, reprograms}
use Rattle.cyc_agreement.specs.Suspending.{is_suspended}
use Rattle.cyc_model.specs.Questions.{plain}
use Rattle.cyc_model.specs.State.{State, On, OnAll, cpus_online}
use Rattle.cyc_model.specs.Places.{id_of, destination_of, given}
use Rattle.cyc_model.specs.Refusals.{after_refusal}
use Rattle.cyc_model.specs.Add.{enter}
use Rattle.cyc_model.specs.Omni.{component, everywhere}
use Rattle.cyc_model.specs.Script.{does, refusal_of}
use Rattle.cyc_model.proofs.Still.{Still, still_bind, still_unbind, still_online, still_enters}
use Rattle.cyc_words.specs.declared.named.Named.{Named}
use Rattle.cyc_words.specs.declared.named.Named.TheVariants.{Cyclic}
use Rattle.cyc_words.specs.declared.answer.WordAnswer.{WordAnswer}
use Rattle.cyc_words.specs.declared.answer.WordAnswer.TheVariants.{Added, Removing, Juggled}
use Rattle.cyc_words.specs.Names.{news, noted}
use Rattle.cyc_words.specs.Words.{no_series, word_answer, done}
use Rattle.cyc_words.specs.Doing.{WordState, word_state, DoesCall, DoesWord}
use Rattle.cyc_system_model.specs.Kept.{LeavesMark}
use Rattle.cyc_system_model.specs.Room.{HaveRoomFor}
use Rattle.cyc_system_model.specs.Shown.{IsSystem, ShowsSystem}
use Rattle.cyc_system_model.specs.SystemWords.{IsSeries}
use Rattle.cyc_replay.specs.declared.machine.Machine.{Machine}
use Rattle.cyc_replay.specs.Machine.{ShowsMachine, AllMost, HasName, IsReached, id_at, id_of_named, name_number, numbers_of}
use Rattle.cyc_replay.specs.WordLines.{name_in_word, named_by, why_line, word_line}
use Rattle.cyc_replay.specs.Words.{TakesWord, answer_line}
use Rattle.cyc_replay.proofs.Doing.{Answers}
use Rattle.cyc_system_model.proofs.Keeping.{kept, most_kept, room_kept}
use Rattle.cyc_system_model.proofs.Suspensions.{suspended_kept}
use Rattle.cyc_replay.proofs.Mosts.{most_kept as mosts_kept}
use Rattle.cyc_replay.proofs.Named.{reached_good, nobody_first, named_so}
use Rattle.cyc_replay.proofs.Wanted.{room_for_all}
use Rattle.cyc_replay.proofs.Remembering.{SameNames, remembers_added}
use Rattle.cyc_replay.proofs.Doing.{Keeps, Leaves, accepts, refuses, answered}
use Rattle.cyc_replay.proofs.Taking.{SaysOk, taken, refused_takes}
use Rattle.cyc_replay.proofs.Series.{is_series, is_series_omni, is_moment, moment_refused, reprogram_nobody, is_below}
use Rattle.cyc_replay.proofs.Series.{no_series_first, bad_series}
use Rattle.cyc_replay.proofs.Moments.{as_running, leaves_mark, no_news}
use Rattle.cyc_replay.proofs.Suspended.{answers_marked}
use Rattle.cyc_replay.proofs.Turns.{juggles, goes_offline, juggle_takes, offline_takes, same_each}
use Rattle.cyc_replay.proofs.Begun.{Begun, nobody as nobody_removed, begun, begun_answers, begun_says, remove_taken}
use Rattle.cyc_replay.proofs.Begun.{remove_refused as refused_remove}
use Rattle.cyc_system_model.proofs.SystemAdding.{add_accepted, add_refused}
use Rattle.cyc_system_model.proofs.Spreading.{omni_accepted, omni_refused}
use Rattle.cyc_system_model.proofs.Binding.{bind_accepted, bind_refused}
use Rattle.cyc_system_model.proofs.Replacing.{unbind_accepted, unbind_refused}
use Rattle.cyc_system_model.proofs.Reprogramming.{reprogram_accepted, reprogram_refused}
use Rattle.cyc_system_model.proofs.Removals.{remove_done, remove_kept, remove_refused}
use Rattle.cyc_system_model.proofs.Returning.{online_accepted, online_refused}
use Rattle.cyc_system_model.proofs.Juggling.{juggle_accepted, juggle_refused}
use Rattle.cyc_system_model.proofs.SystemOffline.{offline_accepted, offline_left, offline_pending, offline_refused}
use Rattle.cyc_system_model.proofs.SystemSuspending.{suspend_accepted, suspend_refused, resume_accepted, resume_refused}

abbrev as_unit : Result (Unit {0}) Refusal → Result (Unit {0}) Refusal
as_unit answer = answer

module _ (texts : List (List ℕ)) (step : ℕ) (s : State) (m n : Machine) (r : IsReached step s)
    (h : ShowsMachine s m) (clock : n.clock ≡ m.clock) (tally : n.tally ≡ m.tally) where
  abbrev Did : ℕ → SystemCall → Type 0
  Did name call = DoesCall raise_tables name call (word_state m.system m.names) (word_state n.system n.names)

  module _ (name : ℕ) (call : SystemCall) (c : Did name call) where
    ran : Does tally_calls raise_tables (Interrupts tally_calls) (running_system m.tally m.system) call
        (running_system m.tally n.system)
    ran = as_running call m.tally m.system n.system c.did

    system_kept : IsSystem n.system
    system_kept = kept tally_calls call (running_system m.tally m.system) (running_system m.tally n.system) ran h.system c.agrees

    roomy : HaveRoomFor (length s.names) n.system.cpus
    roomy = room_kept tally_calls call (running_system m.tally m.system) (running_system m.tally n.system) ran h.system
        (length s.names) h.room

    all_most : AllMost n.system.cpus
    all_most = mosts_kept m.system.cpus n.system.cpus
        (most_kept tally_calls call (running_system m.tally m.system) (running_system m.tally n.system) ran h.system) h.most

    keeps_call : LeavesMark call → Keeps s n.system
    keeps_call marks = record {
      system = system_kept;
      most = all_most;
      room = roomy;
      suspended = h.suspended ∙ sym (suspended_kept tally_calls call (running_system m.tally m.system)
          (running_system m.tally n.system) ran marks);
    }

  -- the machine has room for an id more
  one_left : s.last_id + 1 ≤ length s.names → s.last_id < length m.names
  one_left low =
      let same : length s.names ≡ length (map (λ (x : Named). name_number (id_of_named x)) m.names) = ap length h.names in
      let long = length-map m.names (λ (x : Named). name_number (id_of_named x)) in omega (arith, low, same, long)

  -- the definition gives the name the same id
  given_numbers : (name id : ℕ) → id ≡ s.last_id + 1 → n.names ≡ slice_set m.names name (Cyclic id)
      → slice_set s.names name (s.last_id + 1) ≡ numbers_of n.names
  given_numbers name id is names = (λ z. slice_set (h.names z) name (sym is z))
      ∙ sym (ap numbers_of names ∙ map-set (λ x. name_number (id_of_named x)) m.names name (Cyclic id))

  -- ---- a word that made no call

  holds_same : word_state n.system n.names ≡ word_state m.system m.names → n.named.items ≡ m.named.items → ShowsMachine s n
  holds_same same named =
      let sys : n.system ≡ m.system = ap (λ (w : WordState Tables). w.system) same in
      let still : Keeps s n.system = record {
        system = subst (λ (v : SystemView Tables). IsSystem v) (sym sys) h.system;
        most = subst (λ (v : SystemView Tables). AllMost v.cpus) (sym sys) h.most;
        room = subst (λ (v : SystemView Tables). HaveRoomFor (length s.names) v.cpus) (sym sys) h.room;
        suspended = h.suspended ∙ ap is_suspended (sym sys);
      } in refuses s m n h still (subst (λ (v : SystemView Tables). ShowsSystem s v) (sym sys) h.shows) clock tally
      (record { names = ap (λ (w : WordState Tables). w.names) same; named = named })

  module _ (result : Result WordAnswer Refusal) (line : List ℕ) (other : result ≢ Err Memory) where
    abbrev Takes : Step → Type 0
    Takes x = TakesWord texts step x line s n

    uncalled : (x : Step) (why : Refusal) → refusal_of plain x s ≡ Some why → after_refusal x s ≡ s
        → why_line x why step ≡ refused step (number_of_refusal why) → result ≡ Err why
        → word_state n.system n.names ≡ word_state m.system m.names
        → n.named.items ≡ named_by (name_in_word x) result m.named.items → line ≡ word_line texts step x result → Takes x
    uncalled x why some still says is same named said = refused_takes texts step x line why s n some
        (said ∙ ap (word_line texts step x) is ∙ says)
        (subst (λ t. ShowsMachine t n) (sym still) (holds_same same (named
        ∙ ap (λ a. named_by (name_in_word x) a m.named.items) is)))

    -- ---- words that say no more than whether they were done

    -- no id is given by them
    not_named : (x : Step) (answer : Result (Unit {0}) Refusal) → result ≡ word_answer done answer
        → n.named.items ≡ named_by (name_in_word x) result m.named.items → n.named.items ≡ m.named.items
    not_named x answer is named = named ∙ ap (λ a. named_by (name_in_word x) a m.named.items) is ∙ by answer
      where
        by : (a : Result (Unit {0}) Refusal) → named_by (name_in_word x) (word_answer done a) m.named.items ≡ m.named.items
        by (Ok y) = refl
        by (Err e) = refl

    plainly : (x : Step) (answer : Result (Unit {0}) Refusal) → SaysOk x → after_refusal x s ≡ s
        → ((e : Refusal) → why_line x e step ≡ refused step (number_of_refusal e)) → result ≡ word_answer done answer
        → line ≡ word_line texts step x result → Answers x answer s n → Takes x
    plainly x answer says still whys is said does_it = taken texts step x answer line s n says still
        (λ e. other (is ∙ ap (word_answer done) e)) (said ∙ ap (word_line texts step x) is ∙ by answer) does_it
      where
        by : (a : Result (Unit {0}) Refusal) → word_line texts step x (word_answer done a) ≡ answer_line step a
        by (Ok y) = refl
        by (Err e) = whys e

    leaves_by : (x : Step) → ((ts : List (List ℕ)) (f : ℕ → ℕ) (k : ℕ) → Still s (does plain ts f k x s).state) → SameNames m n
        → Leaves x s n
    leaves_by x still same = record {
      clock = λ ts f k. (still ts f k).clock;
      suspended = λ ts f k. (still ts f k).suspended;
      names = λ ts f k. (still ts f k).names ∙ h.names ∙ sym (ap numbers_of same.names);
      last = λ ts f k. let e = (still ts f k).last in omega (arith, e);
    }

    takes_bind : (b : BindStep) → DoesWord raise_tables m.clock (steps.Bind b) result (word_state m.system m.names)
        (word_state n.system n.names)
        → n.named.items ≡ named_by 0 result m.named.items → line ≡ word_line texts step (steps.Bind b) result
        → Takes (steps.Bind b)
    takes_bind b d named said = named_so step s m r h (Takes (steps.Bind b)) b.name _ _
        (λ id at is p. let (answer, (told, c)) = p in
        let did = subst (λ k. Changes raise_tables m.system (Bind k (Some b.cpu) answer) n.system) (sym is) c.did in
        let same : SameNames m n = record { names = c.told; named = not_named (steps.Bind b) answer told named } in
        plainly (steps.Bind b) answer (λ ts f k t. refl) refl (λ e. refl) told said
        (answered step (steps.Bind b) answer s m n r tt h (keeps_call b.name (Bind id (Some b.cpu) answer) c tt)
        (λ ok. bind_accepted b s m.system n.system h.system h.shows
        (subst (λ a. Changes raise_tables m.system (Bind (id_of b.name s) (Some b.cpu) a) n.system) ok did))
        (λ e err. bind_refused b s m.system n.system h.system h.shows e
        (subst (λ a. Changes raise_tables m.system (Bind (id_of b.name s) (Some b.cpu) a) n.system) err did))
        clock tally same (leaves_by (steps.Bind b) (λ ts f k. still_bind f k b s) same)))
        (λ gone q. uncalled (steps.Bind b) NoCyclic (nobody_first s b.name _ gone) refl refl q.0 q.1 named said) d

    takes_unbind : (name : ℕ) → DoesWord raise_tables m.clock (steps.Unbind name) result (word_state m.system m.names)
        (word_state n.system n.names)
        → n.named.items ≡ named_by 0 result m.named.items → line ≡ word_line texts step (steps.Unbind name) result
        → Takes (steps.Unbind name)
    takes_unbind name d named said = named_so step s m r h (Takes (steps.Unbind name)) name _ _
        (λ id at is p. let (answer, (told, c)) = p in
        let did = subst (λ k. Changes raise_tables m.system (Bind k None answer) n.system) (sym is) c.did in
        let same : SameNames m n = record { names = c.told; named = not_named (steps.Unbind name) answer told named } in
        plainly (steps.Unbind name) answer (λ ts f k t. refl) refl (λ e. refl) told said
        (answered step (steps.Unbind name) answer s m n r tt h (keeps_call name (Bind id None answer) c tt)
        (λ ok. unbind_accepted name s m.system n.system h.system h.shows
        (subst (λ a. Changes raise_tables m.system (Bind (id_of name s) None a) n.system) ok did))
        (λ e err. unbind_refused name s m.system n.system h.system h.shows e
        (subst (λ a. Changes raise_tables m.system (Bind (id_of name s) None a) n.system) err did))
        clock tally same (leaves_by (steps.Unbind name) (λ ts f k. still_unbind k name s) same)))
        (λ gone q. uncalled (steps.Unbind name) NoCyclic (nobody_first s name _ gone) refl refl q.0 q.1 named said) d

    takes_reprogram : (a : ReprogramStep) → DoesWord raise_tables m.clock (steps.Reprogram a) result
        (word_state m.system m.names) (word_state n.system n.names)
        → n.named.items ≡ named_by 0 result m.named.items → line ≡ word_line texts step (steps.Reprogram a) result
        → Takes (steps.Reprogram a)
    takes_reprogram a (inr (below, (why, same))) named said =
        uncalled (steps.Reprogram a) BadWhen (moment_refused a s (is_below a.moment 0 below)) refl refl why same named said
    takes_reprogram a (inl (moment, at_moment, d)) named said =
        let is_it = is_moment a moment at_moment in
        named_so step s m r h (Takes (steps.Reprogram a)) a.name _ _
        (λ id at is p. let (answer, (told, c)) = p in
        let did = subst (λ k. Changes raise_tables m.system (reprograms a.cpu k moment answer) n.system) (sym is) c.did in
        let same : SameNames m n = record {
          names = c.told ∙ ap (λ o. noted a.name o m.names) (no_news a.cpu id moment answer);
          named = not_named (steps.Reprogram a) answer told named;
        } in
        plainly (steps.Reprogram a) answer (λ ts f k t. refl) refl (λ e. refl) told said
        (answered step (steps.Reprogram a) answer s m n r tt h
        (keeps_call a.name (reprograms a.cpu id moment answer) c (leaves_mark a.cpu id moment answer))
        (λ ok. reprogram_accepted a moment s m.system n.system h.system h.shows is_it
        (subst (λ x. Changes raise_tables m.system (reprograms a.cpu (id_of a.name s) moment x) n.system) ok did))
        (λ e err. reprogram_refused a moment s m.system n.system h.system h.shows is_it e
        (subst (λ x. Changes raise_tables m.system (reprograms a.cpu (id_of a.name s) moment x) n.system) err did))
        clock tally same (record {
          clock = λ ts f k. refl;
          suspended = λ ts f k. refl;
          names = λ ts f k. h.names ∙ sym (ap numbers_of same.names);
          last = λ ts f k. omega arith;
        })))
        (λ gone q. uncalled (steps.Reprogram a) NoCyclic (reprogram_nobody a s moment is_it (nobody_first s a.name _ gone))
        refl refl q.0 q.1 named said) d

    takes_online : (cpu : ℕ) → DoesWord raise_tables m.clock (steps.Online cpu) result (word_state m.system m.names)
        (word_state n.system n.names)
        → n.named.items ≡ named_by 0 result m.named.items → line ≡ word_line texts step (steps.Online cpu) result
        → Takes (steps.Online cpu)
    takes_online cpu (answer, (told, c)) named said =
        let did = subst (λ k. Changes raise_tables m.system (Online cpu k answer) n.system) (sym h.clock) c.did in
        let same : SameNames m n = record { names = c.told; named = not_named (steps.Online cpu) answer told named } in
        plainly (steps.Online cpu) answer (λ ts f k t. refl) refl (λ e. refl) told said
        (answered step (steps.Online cpu) answer s m n r tt h (keeps_call 0 (Online cpu m.clock answer) c tt)
        (λ ok. online_accepted cpu s m.system n.system h.system h.shows
        (subst (λ a. Changes raise_tables m.system (Online cpu s.clock a) n.system) ok did))
        (λ e err. online_refused cpu s m.system n.system h.system h.shows e
        (subst (λ a. Changes raise_tables m.system (Online cpu s.clock a) n.system) err did))
        clock tally same (leaves_by (steps.Online cpu) (λ ts f k. still_online f k cpu s) same))

    takes_suspend : DoesWord raise_tables m.clock steps.Suspend result (word_state m.system m.names)
        (word_state n.system n.names)
        → n.named.items ≡ named_by 0 result m.named.items → line ≡ word_line texts step steps.Suspend result
        → Takes steps.Suspend
    takes_suspend (answer, (told, c)) named said =
        plainly steps.Suspend answer (λ ts f k t. refl) refl (λ e. refl) told said
        (answers_marked steps.Suspend true s m n h (λ ts f k. refl) (system_kept 0 (Suspend answer) c)
        (all_most 0 (Suspend answer) c) (roomy 0 (Suspend answer) c) clock tally
        (record { names = c.told; named = not_named steps.Suspend answer told named })
        answer
        (λ ok. suspend_accepted s m.system n.system h.system h.shows h.suspended
        (subst (λ a. Changes raise_tables m.system (Suspend a) n.system) ok c.did))
        (λ e err. suspend_refused s m.system n.system h.system h.shows h.suspended e
        (subst (λ a. Changes raise_tables m.system (Suspend a) n.system) err c.did)))

    takes_resume : DoesWord raise_tables m.clock steps.Resume result (word_state m.system m.names)
        (word_state n.system n.names)
        → n.named.items ≡ named_by 0 result m.named.items → line ≡ word_line texts step steps.Resume result
        → Takes steps.Resume
    takes_resume (answer, (told, c)) named said =
        plainly steps.Resume answer (λ ts f k t. refl) refl (λ e. refl) told said
        (answers_marked steps.Resume false s m n h (λ ts f k. refl) (system_kept 0 (Resume answer) c)
        (all_most 0 (Resume answer) c) (roomy 0 (Resume answer) c) clock tally
        (record { names = c.told; named = not_named steps.Resume answer told named })
        answer
        (λ ok. resume_accepted s m.system n.system h.system h.shows h.suspended
        (subst (λ a. Changes raise_tables m.system (Resume a) n.system) ok c.did))
        (λ e err. resume_refused s m.system n.system h.system h.shows h.suspended e
        (subst (λ a. Changes raise_tables m.system (Resume a) n.system) err c.did)))

    -- ---- words that give an id

    -- the id that a word gave, or the refusal
    abbrev given_line : (x : Step) → Result ℕ Refusal → Type 0
    given_line x answer = (result ≡ word_answer Added answer) × (n.named.items ≡ named_by (name_in_word x) result m.named.items)
        × (line ≡ word_line texts step x result)

    was_given : (x : Step) (id : ℕ) → SaysOk x → after_refusal x s ≡ s → given_line x (Ok id) → Answers x (as_unit (Ok tt)) s n
        → Takes x
    was_given x id says still (told, named, said) does_it = taken texts step x (as_unit (Ok tt)) line s n says still
        (λ e. absurd (let no : as_unit (Ok tt) ≡ as_unit (Err Memory) = e in cc))
        (said ∙ ap (word_line texts step x) told) does_it

    was_refused : (x : Step) (e : Refusal) → SaysOk x → after_refusal x s ≡ s
        → ((why : Refusal) → why_line x why step ≡ refused step (number_of_refusal why)) → given_line x (Err e)
        → Answers x (as_unit (Err e)) s n → Takes x
    was_refused x e says still whys (told, named, said) does_it = taken texts step x (as_unit (Err e)) line s n says still
        (λ memory. other (told ∙ ap (λ (a : Result (Unit {0}) Refusal). word_answer done a) memory))
        (said ∙ ap (word_line texts step x) told ∙ whys e) does_it

    refused_names : (x : Step) (e : Refusal) (name : ℕ) (call : SystemCall) → given_line x (Err e) → news call ≡ None
        → Did name call → SameNames m n
    refused_names x e name call (told, named, said) none c = record {
      names = c.told ∙ ap (λ o. noted name o m.names) none;
      named = named ∙ ap (λ a. named_by (name_in_word x) a m.named.items) told;
    }

    takes_add : (a : AddStep) → HasName (steps.Add a) s
        → DoesWord raise_tables m.clock (steps.Add a) result (word_state m.system m.names) (word_state n.system n.names)
        → n.named.items ≡ named_by a.name result m.named.items → line ≡ word_line texts step (steps.Add a) result
        → Takes (steps.Add a)
    takes_add a all (inr (bad, (why, same))) named said = uncalled (steps.Add a) (no_series a.start)
        (no_series_first (int_lt a.start (pos 0)) (int_lt a.interval (pos 1)) _ (bad_series a.start a.interval bad))
        refl refl why same named said
    takes_add a all (inl (series, at, every, some, (answer, (told, c)))) named said = by answer told c
      where
        is_it : IsSeries a.start a.interval series
        is_it = is_series a series (at, every, some)

        by : (answer : Result ℕ Refusal) → result ≡ word_answer Added answer → Did a.name (Add a.level series m.clock answer)
            → Takes (steps.Add a)
        by (Ok id) told c =
            let did = subst (λ k. Changes raise_tables m.system (Add a.level series k (Ok id)) n.system) (sym h.clock) c.did in
            let done_it = add_accepted a series s m.system n.system h.system h.shows is_it id did in
            was_given (steps.Add a) id (λ ts f k t. refl) refl (told, named, said)
            (accepts (steps.Add a) s m n h (keeps_call a.name (Add a.level series m.clock (Ok id)) c tt) done_it.1 clock tally
            (record {
              clock = λ ts f k. refl;
              suspended = λ ts f k. refl;
              names = λ ts f k. given_numbers a.name id done_it.0 c.told;
              last = λ ts f k. omega arith;
            }) (λ ts f k. remembers_added ts f k (steps.Add a) s m n a.name id (On (destination_of None s) false) tt
            (reached_good step s r) done_it.1.accepted refl refl h.remembers (one_left all) done_it.0 c.told
            (named ∙ ap (λ x. named_by a.name x m.named.items) told)))
        by (Err e) told c =
            let did = subst (λ k. Changes raise_tables m.system (Add a.level series k (Err e)) n.system) (sym h.clock) c.did in
            let why = add_refused a series s m.system n.system h.system h.shows is_it e did in
            was_refused (steps.Add a) e (λ ts f k t. refl) refl (λ e. refl) (told, named, said) (
              why.0,
              refuses s m n h (keeps_call a.name (Add a.level series m.clock (Err e)) c tt) why.1 clock tally
                  (refused_names (steps.Add a) e a.name (Add a.level series m.clock (Err e)) (told, named, said) refl c),
            )

    takes_omni : (a : OmniStep) → HasName (steps.Omni a) s
        → DoesWord raise_tables m.clock (steps.Omni a) result (word_state m.system m.names) (word_state n.system n.names)
        → n.named.items ≡ named_by a.name result m.named.items → line ≡ word_line texts step (steps.Omni a) result
        → Takes (steps.Omni a)
    takes_omni a all (inr (bad, (why, same))) named said = uncalled (steps.Omni a) (no_series a.start)
        (no_series_first (int_lt a.start (pos 0)) (int_lt a.interval (pos 1)) _ (bad_series a.start a.interval bad))
        refl refl why same named said
    takes_omni a all (inl (series, at, every, some, (answer, (told, c)))) named said = by answer told c
      where
        is_it : IsSeries a.start a.interval series
        is_it = is_series_omni a series (at, every, some)

        first : State
        first = given a.name (OnAll (everywhere a)) s

        by : (answer : Result ℕ Refusal) → result ≡ word_answer Added answer
            → Did a.name (AddOmni a.level series a.skew m.clock answer) → Takes (steps.Omni a)
        by (Ok id) told c =
            let did = subst (λ k. Changes raise_tables m.system (AddOmni a.level series a.skew k (Ok id)) n.system) (sym h.clock)
            c.did in
            let done_it = omni_accepted a series s m.system n.system h.system h.shows is_it id did in
            was_given (steps.Omni a) id (λ ts f k t. refl) refl (told, named, said)
            (accepts (steps.Omni a) s m n h (keeps_call a.name (AddOmni a.level series a.skew m.clock (Ok id)) c tt) done_it.1
            clock tally
            (record {
              clock = λ ts f k. (still_enters f (s.last_id + 1) (everywhere a) (cpus_online first) first).clock;
              suspended = λ ts f k. (still_enters f (s.last_id + 1) (everywhere a) (cpus_online first) first).suspended;
              names = λ ts f k. (still_enters f (s.last_id + 1) (everywhere a) (cpus_online first) first).names
                  ∙ given_numbers a.name id done_it.0 c.told;
              last = λ ts f k. let same = (still_enters f (s.last_id + 1) (everywhere a) (cpus_online first) first).last in
                  omega (arith, same);
            }) (λ ts f k. remembers_added ts f k (steps.Omni a) s m n a.name id (OnAll (everywhere a)) tt
            (reached_good step s r) done_it.1.accepted
            (same_each (λ j u. enter f j (component (s.last_id + 1) j (everywhere a) u.clock) u) (λ j u. refl)
            (cpus_online first) first)
            (still_enters f (s.last_id + 1) (everywhere a) (cpus_online first) first).last h.remembers
            (one_left all) done_it.0 c.told (named ∙ ap (λ x. named_by a.name x m.named.items) told)))
        by (Err e) told c =
            let did = subst (λ k. Changes raise_tables m.system (AddOmni a.level series a.skew k (Err e)) n.system) (sym h.clock)
            c.did in
            let why = omni_refused a series s m.system n.system h.system h.shows is_it e did in
            was_refused (steps.Omni a) e (λ ts f k t. refl) refl (λ e. refl) (told, named, said) (
              why.0,
              refuses s m n h (keeps_call a.name (AddOmni a.level series a.skew m.clock (Err e)) c tt) why.1 clock tally
                  (refused_names (steps.Omni a) e a.name (AddOmni a.level series a.skew m.clock (Err e)) (told, named, said)
                  refl c),
            )

    -- ---- words that tell more

    takes_remove : (name : ℕ) → DoesWord raise_tables m.clock (steps.Remove name) result (word_state m.system m.names)
        (word_state n.system n.names)
        → n.named.items ≡ named_by name result m.named.items → line ≡ word_line texts step (steps.Remove name) result
        → Takes (steps.Remove name)
    takes_remove name d named said = named_so step s m r h (Takes (steps.Remove name)) name _ _
        (λ id at is p. by id at is p.0 p.1.0 p.1.1)
        (λ gone q. uncalled (steps.Remove name) NoCyclic (nobody_removed name s gone) refl refl q.0 q.1 named said) d
      where
        unnamed : (answer : Result SystemRemoval Refusal) → named_by name (word_answer Removing answer) m.named.items
            ≡ m.named.items
        unnamed (Ok x) = refl
        unnamed (Err e) = refl

        lines : (answer : Result SystemRemoval Refusal)
            → line ≡ word_line texts step (steps.Remove name) (word_answer Removing answer)
            → (word_answer Removing answer ≢ Err Memory) → Begun name answer s n.system → Answers (steps.Remove name) answer s n
            → Takes (steps.Remove name)
        lines (Ok begun_it) says unlike b done_it = remove_taken texts step name begun_it line s n done_it
            (λ f. begun_says name begun_it s n.system b texts f step) says
        lines (Err e) says unlike b done_it = refused_remove texts step name e line s n done_it
            (λ memory. unlike (ap (λ (a : Result (Unit {0}) Refusal). word_answer done a) memory)) says

        by : (id : ℕ) → id_at m.names name ≡ Some id → id_of name s ≡ id → (answer : Result SystemRemoval Refusal)
            → result ≡ word_answer Removing answer → Did name (BeginRemove id answer) → Takes (steps.Remove name)
        by id at is answer told c =
            let did = subst (λ k. Changes raise_tables m.system (BeginRemove k answer) n.system) (sym is) c.did in
            let b = begun name (id_of name s) answer s m.system n.system
            (λ receipt. remove_done name s m.system n.system h.system h.shows receipt)
            (λ waits. remove_kept name s m.system n.system h.system h.shows waits)
            (λ e. remove_refused name s m.system n.system h.system h.shows e) did in
            lines answer (said ∙ ap (word_line texts step (steps.Remove name)) told) (λ e. other (told ∙ e)) b
            (begun_answers name id s m n (reached_good step s r) h (keeps_call name (BeginRemove id answer) c tt) clock tally at
            is
            (named ∙ ap (λ x. named_by name x m.named.items) told ∙ unnamed answer) answer c.told c.did b)

    takes_juggle : (cpu : ℕ) → DoesWord raise_tables m.clock (steps.Juggle cpu) result (word_state m.system m.names)
        (word_state n.system n.names)
        → n.named.items ≡ named_by 0 result m.named.items → line ≡ word_line texts step (steps.Juggle cpu) result
        → Takes (steps.Juggle cpu)
    takes_juggle cpu (answer, (told, c)) named said =
        let room = room_for_all step s m r h in
        juggle_takes texts step cpu answer line s n (said ∙ ap (word_line texts step (steps.Juggle cpu)) told)
        (λ e. other (told ∙ ap (word_answer Juggled) e))
        (juggles step cpu s m n r h (keeps_call 0 (Juggle cpu answer) c tt) clock tally
        (record { names = c.told; named = named ∙ ap (λ x. named_by 0 x m.named.items) told ∙ unnamed answer }) answer
        (λ report is. juggle_accepted cpu s m.system n.system h.system h.shows room report
        (subst (λ a. Changes raise_tables m.system (Juggle cpu a) n.system) is c.did))
        (λ e is. juggle_refused cpu s m.system n.system h.system h.shows e
        (subst (λ a. Changes raise_tables m.system (Juggle cpu a) n.system) is c.did)))
      where
        unnamed : (answer : Result JuggleReport Refusal) → named_by 0 (word_answer Juggled answer) m.named.items
            ≡ m.named.items
        unnamed (Ok x) = refl
        unnamed (Err e) = refl

    takes_offline : (cpu : ℕ) → DoesWord raise_tables m.clock (steps.Offline cpu) result (word_state m.system m.names)
        (word_state n.system n.names)
        → n.named.items ≡ named_by 0 result m.named.items → line ≡ word_line texts step (steps.Offline cpu) result
        → Takes (steps.Offline cpu)
    takes_offline cpu (answer, (told, c)) named said =
        let room = room_for_all step s m r h in
        offline_takes texts step cpu answer line s n (said ∙ ap (word_line texts step (steps.Offline cpu)) told)
        (λ e. other (told ∙ ap (word_answer done) e))
        (goes_offline step cpu s m n r h (keeps_call 0 (Offline cpu answer) c tt) clock tally
        (record { names = c.told; named = not_named (steps.Offline cpu) answer told named }) answer
        (λ is. offline_accepted cpu s m.system n.system h.system h.shows room
        (subst (λ a. Changes raise_tables m.system (Offline cpu a) n.system) is c.did))
        (λ report is. offline_left cpu s m.system n.system h.system h.shows room report
        (subst (λ a. Changes raise_tables m.system (Offline cpu a) n.system) is c.did))
        (λ is. offline_pending cpu s m.system n.system h.system h.shows room
        (subst (λ a. Changes raise_tables m.system (Offline cpu a) n.system) is c.did))
        (λ e once is. offline_refused cpu s m.system n.system h.system h.shows e once
        (subst (λ a. Changes raise_tables m.system (Offline cpu a) n.system) is c.did)))

    -- ---- all of them

    pub takes_word : (x : Step) → HasName x s → DoesWord raise_tables m.clock x result (word_state m.system m.names)
        (word_state n.system n.names)
        → n.named.items ≡ named_by (name_in_word x) result m.named.items → line ≡ word_line texts step x result → Takes x
    takes_word (steps.Add a) all d named said = takes_add a all d named said
    takes_word (steps.Omni a) all d named said = takes_omni a all d named said
    takes_word (steps.Bind b) all d named said = takes_bind b d named said
    takes_word (steps.Unbind name) all d named said = takes_unbind name d named said
    takes_word (steps.Reprogram a) all d named said = takes_reprogram a d named said
    takes_word (steps.Remove name) all d named said = takes_remove name d named said
    takes_word (steps.Advance now) all d named said = absurd d
    takes_word (steps.Softint i) all d named said = absurd d
    takes_word (steps.Juggle cpu) all d named said = takes_juggle cpu d named said
    takes_word (steps.Offline cpu) all d named said = takes_offline cpu d named said
    takes_word (steps.Online cpu) all d named said = takes_online cpu d named said
    takes_word steps.Suspend all d named said = takes_suspend d named said
    takes_word steps.Resume all d named said = takes_resume d named said
