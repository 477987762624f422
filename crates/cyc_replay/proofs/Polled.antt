-- The polls of the open removals after a soft interrupt, one after the other.
use Rattle.std.proofs.Common.{◌≡◌, ℕ, ◌-◌, ◌<◌, ◌≤◌, append-nil, append_assoc, List, [], ◌∷◌, ◌++◌, length}
use Rattle.std.proofs.Common.{Option, Some, None, refl, ap, sym, ◌∙◌, subst, arith, ◌≢◌, ◌⊎◌, ⊎_elim, inl, inr, true}
use Rattle.cyc_types.specs.Tally.{TallyView, tally_count}
use Rattle.cyc_types.specs.declared.receipt.Receipt.{Receipt}
use Rattle.cyc_core.specs.Tables.{Tables}
use Rattle.cyc_soft.specs.declared.Ran.{Ran}
use Rattle.cyc_text.specs.Lines.{ran, removed}
use Rattle.cyc_script.specs.declared.step.Softint.{Softint as SoftintStep}
use Rattle.cyc_script.specs.declared.step.Step.TheVariants.{Softint}
use Rattle.cyc_system.specs.System.{RunningSystem, removal_on}
use Rattle.cyc_model.specs.Questions.{plain}
use Rattle.cyc_model.specs.State.{State, Outcome, each, cpu_of}
use Rattle.cyc_model.specs.Softint.{interrupt, leaving_ids, text_of_id, poll_id}
use Rattle.cyc_model.proofs.Spread.{Good}
use Rattle.cyc_model.proofs.Calm.{well_interrupt}
use Rattle.cyc_model.proofs.Answering.{well_polls, counts_poll}
use Rattle.cyc_model.proofs.Still.{still_polls}
use Rattle.cyc_model.specs.Places.{is_no_cyclic}
use Rattle.cyc_model.specs.Report.{counts_of}
use Rattle.cyc_text.specs.declared.lines.Counts.{Counts}
use Rattle.cyc_cpu.specs.Soft.{raise_tables}
use Rattle.cyc_system.specs.Calls.{Changes, PollRemove}
use Rattle.cyc_system.specs.Agreement.{Agrees}
use Rattle.cyc_system.proofs.Spots.{same_some, none_some}
use mathlib.Core.Logic.{dite}
use native.Mathlib.Decide.{ℕ_discrete}
use Rattle.std.specs.Prelude.{not, is_some, slice_set, Ok, Err}
use Rattle.cyc_system_model.specs.Shown.{ShowsSystem}
use Rattle.cyc_system_model.specs.Room.{HaveRoomFor}
use Rattle.cyc_system_model.specs.Removal.{HavePolled, IsInterrupted, polled_line, told_by_receipt}
use Rattle.cyc_replay.specs.declared.machine.Machine.{Machine}
use Rattle.cyc_replay.specs.Machine.{ShowsMachine, Remembers, IsWide, id_at, name_at, numbers_of}
use Rattle.cyc_replay.proofs.Doing.{Keeps}
use Rattle.cyc_replay.proofs.Remembering.{SameNames, remembers_on, remembers_ended, remembers_nameless, no_name, numbers_kept}
use Rattle.cyc_replay.specs.Words.{Comes, TakesWord}
use Rattle.cyc_replay.proofs.Doing.{word_done}
use Rattle.cyc_replay.proofs.Named.{reached_good}
use Rattle.cyc_replay.specs.Interrupting.{HasInterrupted, polls_of, IsPolling}
use Rattle.cyc_words.specs.declared.named.Named.{Named}
use Rattle.cyc_words.specs.declared.named.Named.TheVariants.{Removed}
use Rattle.cyc_words.specs.Names.{news, noted}
use Rattle.cyc_model.proofs.Printing.{unknown_gone}
use Rattle.cyc_system_model.proofs.Polling.{polls_tell, polls_forget, receipt_polled}
use Rattle.cyc_replay.proofs.Unknown.{unknown_polled, still_known}
use Rattle.cyc_system_model.proofs.Removals.{same_removal}
use Rattle.cyc_replay.proofs.OpenRemovals.{up_to, none_up_to, all_up_to, one_up_to, leaving_rise, leaving_open, open_leaving}

module _ (texts : List (List ℕ)) (step : ℕ) (i : SoftintStep) (s : State) where
  abbrev pub left : List ℕ → State
  left ids = (each (poll_id plain texts step) ids (interrupt step i s).state).state

  left_next : (ids : List ℕ) (id : ℕ) → left (ids ++ id ∷ []) ≡ (poll_id plain texts step id (left ids)).state
  left_next ids id = by ids (interrupt step i s).state
    where
      by : (ks : List ℕ) (t : State) → (each (poll_id plain texts step) (ks ++ id ∷ []) t).state
          ≡ (poll_id plain texts step id (each (poll_id plain texts step) ks t).state).state
      by [] t = refl
      by (k ∷ ks) t = by ks (poll_id plain texts step k t).state

  -- before the first poll
  pub polling_begins : (made : Ran) (first m : Machine) → HasInterrupted step i made s first m
      → HavePolled texts step [] [] (interrupt step i s).state m.system → IsPolling texts step (polls_of [] []) i s m
  polling_begins made first m h polled = record {
    reached = h.reached;
    accepted = h.served.accepted;
    polled = polled;
    holds =
        h.holds;
  }

  -- one more
  module _ (ids lines : List ℕ) (id : ℕ) (m : Machine) (p : IsPolling texts step (polls_of ids lines) i s m) where
    good_now : Good (left ids)
    good_now = (well_polls texts step ids (interrupt step i s).state
        (well_interrupt step i s (reached_good step s p.reached) p.accepted).1).1

    others_known : (j : ℕ) → j ≢ id → is_no_cyclic j (left (ids ++ id ∷ [])) ≡ true → is_no_cyclic j (left ids) ≡ true
    others_known j ne gone = sym (unknown_polled texts step id j (left ids) ne) ∙ ap (is_no_cyclic j) (sym (left_next ids id))
        ∙ gone

    same_told : (j : ℕ) → counts_of j (left (ids ++ id ∷ [])) ≡ counts_of j (left ids)
    same_told j = ap (counts_of j) (left_next ids id) ∙ counts_poll id (left ids) good_now texts step j

    same_last : (left ids).last_id ≤ (left (ids ++ id ∷ [])).last_id
    same_last = let a = ap (λ (t : State). t.last_id) (left_next ids id) in let b =
        (still_polls texts step (id ∷ []) (left ids)).last in omega (arith, a, b)

    same_many : length (left (ids ++ id ∷ [])).names ≡ length (left ids).names
    same_many = ap (λ (t : State). length t.names) (left_next ids id)
        ∙ ap length (still_polls texts step (id ∷ []) (left ids)).names

    pub polling_next : (answer : Option Receipt) (n : Machine)
        → HavePolled texts step (ids ++ id ∷ []) (lines ++ polled_line step (text_of_id id texts s.names) answer)
        (interrupt step i s).state n.system
        → Keeps (left ids) n.system → n.clock ≡ m.clock → n.tally ≡ m.tally → numbers_of n.names ≡ numbers_of m.names
        → Remembers (left (ids ++ id ∷ [])) n
        → IsPolling texts step (polls_of (ids ++ id ∷ []) (lines ++ polled_line step (text_of_id id texts s.names) answer)) i s n
    polling_next answer n next kept clock tally names remembers = record {
      reached = p.reached;
      accepted = p.accepted;
      polled = next;
      holds = record {
        system = kept.system;
        shows = next.comes.shows;
        clock = ap (λ (t : State). t.clock) (left_next ids id) ∙ (still_polls texts step (id ∷ []) (left ids)).clock
            ∙ p.holds.clock ∙ sym clock;
        suspended = ap (λ (t : State). t.suspended) (left_next ids id)
            ∙ (still_polls texts step (id ∷ []) (left ids)).suspended ∙ kept.suspended;
        called = λ k. ap (λ t. tally_count t k) tally ∙ p.holds.called k ∙ p.polled.called k ∙ sym (next.called k);
        names = next.names ∙ sym p.polled.names ∙ p.holds.names ∙ sym names;
        remembers = remembers;
        tally = subst (λ k. IsWide k n.tally) (sym same_many)
            (subst (λ t. IsWide (length (left ids).names) t) (sym tally) p.holds.tally);
        most = kept.most;
        room = subst (λ k. HaveRoomFor k n.system.cpus) (sym same_many) kept.room;
      };
    }

    still_unknown : (j : ℕ) → j ≤ (left ids).last_id → is_no_cyclic j (left ids) ≡ true
        → is_no_cyclic j (left (ids ++ id ∷ [])) ≡ true
    still_unknown j low gone = ap (is_no_cyclic j) (left_next ids id)
        ∙ ap (λ o. not (is_some o))
        ((well_polls texts step (id ∷ []) (left ids) good_now).0.gone j (low, unknown_gone j (left ids) gone)).1

    -- it has not answered
    pub remembers_open : (n : Machine) → ShowsSystem (left (ids ++ id ∷ [])) n.system → Agrees n.system → SameNames m n
        → Changes raise_tables m.system (PollRemove id (Ok None)) n.system → Remembers (left (ids ++ id ∷ [])) n
    remembers_open n shows agrees same (inl (e, why, said, none)) = absurd (let no : Ok None ≡ Err e = said in cc)
    remembers_open n shows agrees same (inr (none, (way, ns, each_one, some))) =
        remembers_on (left ids) (left (ids ++ id ∷ [])) m n p.holds.remembers same same_last
        (λ j low gone. dite (ℕ_discrete j id)
        (λ e. absurd (still_known id (left (ids ++ id ∷ [])) n.system shows agrees some
        (subst (λ k. is_no_cyclic k (left (ids ++ id ∷ [])) ≡ true) e gone)))
        (λ ne. others_known j ne gone))
        (λ j low gone. still_unknown j low gone) (λ j low gone. same_told j)

    -- it has
    remembers_answered : (receipt : Receipt) (name : ℕ) (n : Machine)
        → (id_at m.names (name_at m.named.items id) ≡ Some id → name ≡ name_at m.named.items id)
        → ((id_at m.names (name_at m.named.items id) ≡ Some id → ⊥) → name ≡ length m.names)
        → n.names ≡ slice_set m.names name (Removed receipt) → n.named.items ≡ m.named.items → receipt.id ≡ id
        → is_no_cyclic id (left (ids ++ id ∷ [])) ≡ true
        → counts_of id (left (ids ++ id ∷ [])) ≡ told_by_receipt receipt ((interrupt step i s).state.called id)
        → Remembers (left (ids ++ id ∷ [])) n × (numbers_of n.names ≡ numbers_of m.names)
    remembers_answered receipt name n here there names named own unknown told = ⊎_elim
        (λ at. let is = names ∙ ap (λ k. slice_set m.names k (Removed receipt)) (here at) in (
          remembers_ended (left ids) (left (ids ++ id ∷ [])) m n (name_at m.named.items id) id receipt p.holds.remembers at own is
              named same_last unknown (told ∙ (λ z. told_by_receipt receipt (sym (ap (λ (c : Counts). c.called) told) z)))
              (λ j ne gone. others_known j ne gone) (λ j ne low gone. still_unknown j low gone) (λ j ne low gone. same_told j),
          ap numbers_of is ∙ numbers_kept m.names (name_at m.named.items id) (Removed receipt) (ap Some own ∙ sym at),
        ))
        (λ other. let same = names ∙ ap (λ k. slice_set m.names k (Removed receipt)) (there other)
        ∙ set_past m.names (Removed receipt) in (
          remembers_nameless (left ids) (left (ids ++ id ∷ [])) m n id p.holds.remembers
              (record { names = same; named = named }) same_last (no_name (left ids) m id p.holds.remembers other)
              (λ j ne gone. others_known j ne gone) (λ j ne low gone. still_unknown j low gone) (λ j ne low gone. same_told j),
          ap numbers_of same,
        ))
        (named_or_not (id_at m.names (name_at m.named.items id)))
      where
        named_or_not : (o : Option ℕ) → (o ≡ Some id) ⊎ (o ≡ Some id → ⊥)
        named_or_not None = inr (λ e. none_some e)
        named_or_not (Some j) = dite (ℕ_discrete j id) (λ e. inl (ap Some e)) (λ ne. inr (λ e. ne (same_some e)))

        set_past : (xs : List Named) (now : Named) → slice_set xs (length xs) now ≡ xs
        set_past [] now = refl
        set_past (x ∷ xs) now = ap (λ ys. x ∷ ys) (set_past xs now)

    -- the machine after the poll, for whatever name it was made
    pub remembers_polled : (answer : Option Receipt) (name : ℕ) (n : Machine)
        → (id_at m.names (name_at m.named.items id) ≡ Some id → name ≡ name_at m.named.items id)
        → ((id_at m.names (name_at m.named.items id) ≡ Some id → ⊥) → name ≡ length m.names)
        → n.names ≡ noted name (news (PollRemove id (Ok answer))) m.names → n.named.items ≡ m.named.items
        → ShowsSystem (left (ids ++ id ∷ [])) n.system → Agrees n.system
        → Changes raise_tables m.system (PollRemove id (Ok answer)) n.system
        → Remembers (left (ids ++ id ∷ [])) n × (numbers_of n.names ≡ numbers_of m.names)
    remembers_polled None name n here there names named shows agrees did =
        (remembers_open n shows agrees (record { names = names; named = named }) did, ap numbers_of names)
    remembers_polled (Some receipt) name n here there names named shows agrees did =
        remembers_answered receipt name n here there names named (receipt_polled id receipt m.system n.system did)
        (polls_forget texts step (interrupt step i s).state ids lines id receipt m.system n.system p.holds.system p.polled did)
        (polls_tell texts step (interrupt step i s).state ids lines id receipt m.system n.system p.holds.system p.polled did)

  -- where it answers not, and where it does
  pub answered_none : (ids lines : List ℕ) (id : ℕ) (answer : Option Receipt) (line : List ℕ) (n : Machine) → answer ≡ None
      → IsPolling texts step (polls_of (ids ++ id ∷ []) (lines ++ polled_line step (text_of_id id texts s.names) answer)) i s n
      → (more : List ℕ) × (line ≡ line ++ more) × IsPolling texts step (polls_of (ids ++ id ∷ []) (lines ++ more)) i s n
  answered_none ids lines id answer line n none p = (
    [],
    sym (append-nil line),
    subst (λ o. IsPolling texts step (polls_of (ids ++ id ∷ [])
        (lines ++ polled_line step (text_of_id id texts s.names) o)) i s n)
        none p,
  )

  pub answered_some : (ids lines : List ℕ) (id : ℕ) (receipt : Receipt) (line after text : List ℕ) (calls : ℕ) (n : Machine)
      → IsPolling texts step (polls_of (ids ++ id ∷ [])
      (lines ++ polled_line step (text_of_id id texts s.names) (Some receipt))) i s n
      → ((t : State) → ShowsMachine t n → text ≡ text_of_id id texts t.names) → calls ≡ receipt.sent - receipt.lost
      → after ≡ line ++ removed step text calls
      → (more : List ℕ) × (after ≡ line ++ more) × IsPolling texts step (polls_of (ids ++ id ∷ []) (lines ++ more)) i s n
  answered_some ids lines id receipt line after text calls n p is told same =
      let text_is : text ≡ text_of_id id texts s.names = is (left (ids ++ id ∷ [])) p.holds
      ∙ ap (text_of_id id texts) p.polled.names in (
        removed step (text_of_id id texts s.names) (receipt.sent - receipt.lost),
        same ∙ (λ z. line ++ removed step (text_is z) (told z)),
        p,
      )

  -- the ids that are polled
  module _ (m : Machine) (p : IsPolling texts step (polls_of [] []) i s m) where
    good : Good (interrupt step i s).state
    good = (well_interrupt step i s (reached_good step s p.reached) p.accepted).1

    at_first : (n : ℕ) → (cpu_of n (interrupt step i s).state).removal ≡ removal_on n m.system.cpus
    at_first n = same_removal (interrupt step i s).state m.system p.holds.shows p.holds.system.agrees.long n

    pub none_first : up_to 0 (leaving_ids (interrupt step i s).state) ≡ []
    none_first = none_up_to 1 0 (leaving_ids (interrupt step i s).state) (leaving_rise (interrupt step i s).state good)
        (omega arith)

    pub one_on : (last id n : ℕ) → last < id → removal_on n m.system.cpus ≡ Some id
        → ((j k : ℕ) → last < k → removal_on j m.system.cpus ≡ Some k → id ≤ k)
        → up_to id (leaving_ids (interrupt step i s).state) ≡ up_to last (leaving_ids (interrupt step i s).state) ++ id ∷ []
    one_on last id n less is least =
        let t = (interrupt step i s).state in
        one_up_to 1 last id (leaving_ids t) (leaving_rise t good) less (open_leaving t good n id (at_first n ∙ is))
        (λ k has above. let (j, at) = leaving_open t k has in least j k above (sym (at_first j) ∙ at))

    -- a poll of the next one
    pub polled_more : (last id n : ℕ) → last < id → removal_on n m.system.cpus ≡ Some id
        → ((j k : ℕ) → last < k → removal_on j m.system.cpus ≡ Some k → id ≤ k)
        → (begun line after : List ℕ) (before now : Machine)
        → ((lines : List ℕ) × (line ≡ begun ++ lines)
        × IsPolling texts step (polls_of (up_to last (leaving_ids (interrupt step i s).state)) lines) i s before)
        → ((ids lines : List ℕ) → IsPolling texts step (polls_of ids lines) i s before
        → (more : List ℕ) × (after ≡ line ++ more) × IsPolling texts step (polls_of (ids ++ id ∷ []) (lines ++ more)) i s now)
        → (lines : List ℕ) × (after ≡ begun ++ lines)
        × IsPolling texts step (polls_of (up_to id (leaving_ids (interrupt step i s).state)) lines) i s now
    polled_more last id n less is least begun line after before now (lines, same, so_far) next =
        let ids = up_to last (leaving_ids (interrupt step i s).state) in
        let (more, then_same, p_next) = next ids lines so_far in (
          lines ++ more,
          then_same ∙ ap (λ xs. xs ++ more) same ∙ append_assoc begun lines more,
          subst (λ ks. IsPolling texts step (polls_of ks (lines ++ more)) i s now) (sym (one_on last id n less is least)) p_next,
        )

    pub all_last : (last : ℕ) → ((n k : ℕ) → last < k → removal_on n m.system.cpus ≡ Some k → ⊥)
        → up_to last (leaving_ids (interrupt step i s).state) ≡ leaving_ids (interrupt step i s).state
    all_last last none =
        let t = (interrupt step i s).state in
        all_up_to last (leaving_ids t)
        (λ k has. let (j, at) = leaving_open t k has in
        let low : last < k → ⊥ = λ above. none j k above (sym (at_first j) ∙ at) in omega (arith, low))

  -- after the last
  pub softint_taken : (lines line : List ℕ) (made : Ran) (first second : RunningSystem TallyView Tables) (m : Machine)
      → IsPolling texts step (polls_of (leaving_ids (interrupt step i s).state) lines) i s m
      → IsInterrupted tally_count (record { texts = texts; step = step; asks = i; made = made; lines = lines }) s first second
      m.system
      → line ≡ ran step made.calls made.idle ++ lines → TakesWord texts step (Softint i) line s m
  softint_taken lines line made first second m p d same = record {
    given = [];
    line_is = λ indexes gives. same ∙ sym d.line
        ∙ ap (λ (o : Outcome). o.line) (sym (word_done texts indexes step (Softint i) s p.accepted));
    comes = λ indexes gives. subst (λ o. Comes [] s o m) (sym (word_done texts indexes step (Softint i) s p.accepted))
        (record { holds = p.holds; admissions = d.comes.admissions; free = d.comes.free });
  }
