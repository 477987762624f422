-- A poll of an open removal on all CPUs, and the polls of several.
use Rattle.std.proofs.Common.{◌≡◌, ◌≢◌, ℕ, ◌-◌, ◌==◌, inl, inr, eqb-true, Bool, true, false, cond, List, [], ◌∷◌, ◌++◌, map}
use Rattle.std.proofs.Common.{filter, Option, Some, None, refl, ap, sym, ◌∙◌, subst, arith}
use Rattle.std.specs.Prelude.{Ok, Err, not, is_some}
use Rattle.std.specs.Option.{option_map_or}
use Rattle.std.proofs.lemmas.List.{append-nil}
use Rattle.cyc_types.specs.declared.receipt.Receipt.{Receipt}
use Rattle.cyc_core.specs.Tables.{Tables}
use Rattle.cyc_soft.specs.declared.Ran.{Ran}
use Rattle.cyc_script.specs.declared.step.Softint.{Softint as SoftintStep}
use Rattle.cyc_text.specs.Lines.{removed, ran}
use Rattle.cyc_cpu.specs.Soft.{raise_tables}
use Rattle.cyc_places.specs.declared.record.Record.{Record}
use Rattle.cyc_system.specs.System.{SystemView, RunningSystem, is_leaving as leaving_there}
use Rattle.cyc_system.specs.Polling.{Polled, PollsOn, PollsEach, PollsRemoval, leaving_cpus}
use Rattle.cyc_model.specs.Acts.{calls_of}
use Rattle.cyc_model.specs.Cpu.{Cpu, cyclic_with_id}
use Rattle.cyc_model.specs.Questions.{plain, outstanding_here}
use Rattle.cyc_model.specs.State.{State, Outcome, Placed, cpu_of, nothing, before, numbers, cpus_having, each}
use Rattle.cyc_model.specs.Places.{is_being_removed, is_no_cyclic, keep_counts}
use Rattle.cyc_model.proofs.Placing.{placement_forgotten}
use Rattle.cyc_model.specs.Remove.{poll, clear_if, answered}
use Rattle.cyc_model.specs.Report.{counts_of}
use Rattle.cyc_model.specs.Softint.{interrupt, is_open, text_of_id, polled, poll_id, leaving_ids}
use Rattle.cyc_model.proofs.Events.{calls_append}
use Rattle.cyc_model.proofs.Numbers.{Has, RiseFrom, numbers_rise, numbers_pass}
use Rattle.cyc_system_model.proofs.Free.{HasNoAdmit, none_admitted, no_more, clear_none, interrupt_none}
use Rattle.cyc_system_model.specs.Shown.{shown_record, ShowsSystem, IsSystem}
use Rattle.cyc_system_model.specs.Running.{IsServed}
use Rattle.cyc_system_model.specs.Removal.{told_by_receipt, polled_line, HavePolled, leaving_in, IsInterrupted}
use Rattle.cyc_system_model.proofs.Asking.{leaving_shown}
use Rattle.cyc_system_model.proofs.Half.{half}
use Rattle.cyc_system_model.proofs.Coming.{CameToAll, all_come}
use Rattle.cyc_system_model.proofs.SystemRemoving.{polls_on}
use Rattle.cyc_system_model.proofs.Answering.{same_with, same_open, nowhere, forgotten_shows, all_expired, all_lost}
use Rattle.cyc_system_model.proofs.Answering.{counts_left}
use Rattle.cyc_system_model.proofs.SystemAdvancing.{each_append}
use Rattle.cyc_model.proofs.Answering.{open_is}

-- ---- no poll puts anything in

if_none : (b : Bool) (id n : ℕ) (s : State) → HasNoAdmit (clear_if b id n s).acts
if_none true id n s = clear_none n id (cpu_of n (keep_counts n (cyclic_with_id id (cpu_of n s)) s))
if_none false id n s = tt

each_none : (id : ℕ) (ns : List ℕ) (s : State) → HasNoAdmit (each (poll plain id) ns s).acts
each_none id [] s = tt
each_none id (n ∷ ns) s = no_more (poll plain id n s).acts _ (if_none (outstanding_here id (cpu_of n s) == 0) id n s)
    (each_none id ns (poll plain id n s).state)

polled_none : (step id : ℕ) (text ns : List ℕ) (o : Outcome) → HasNoAdmit o.acts → HasNoAdmit (polled step text id ns o).acts
polled_none step id text [] o none = none
polled_none step id text (n ∷ ns) o none = none

polls_none : (texts : List (List ℕ)) (step : ℕ) (ids : List ℕ) (s : State)
    → HasNoAdmit (each (poll_id plain texts step) ids s).acts
polls_none texts step [] s = tt
polls_none texts step (id ∷ ids) s =
    let o = each (poll plain id) (numbers (is_open id) s) s in
    no_more (poll_id plain texts step id s).acts _
    (polled_none step id (text_of_id id texts s.names) (cpus_having id o.state) o (each_none id (numbers (is_open id) s) s))
    (polls_none texts step ids (poll_id plain texts step id s).state)

-- ---- one removal

abbrev cpu_in : Polled → ℕ
cpu_in p = p.cpu

-- what a poll comes to
pub record IsPolled (texts : List (List ℕ)) (step id : ℕ) (answer : Option Receipt) (m : State)
    (w : SystemView Tables) : Type 0 where
  pub shows : ShowsSystem (poll_id plain texts step id m).state w
  pub line : (poll_id plain texts step id m).line ≡ polled_line step (text_of_id id texts m.names) answer
  pub names : (poll_id plain texts step id m).state.names ≡ m.names
  pub quiet : (q : ℕ) → calls_of q (poll_id plain texts step id m).acts ≡ 0
  pub called : (q : ℕ) → (poll_id plain texts step id m).state.called q ≡ m.called q
  pub admissions : (poll_id plain texts step id m).state.admissions ≡ m.admissions

module _ (texts : List (List ℕ)) (step id : ℕ) (m : State) (v w : SystemView Tables) (sys : IsSystem v)
    (h : ShowsSystem m v) where
  abbrev parts : Outcome
  parts = each (poll plain id) (numbers (is_open id) m) m

  abbrev text : List ℕ
  text = text_of_id id texts m.names

  comes_all : (way : List Polled) (u : SystemView Tables) → map cpu_in way ≡ leaving_cpus id v.cpus
      → PollsEach raise_tables id way v u
      → CameToAll cpu_in (λ p c. Unit {0}) way m parts u
  comes_all way u ns did =
      let all : map cpu_in way ≡ numbers (is_open id) m = ns ∙ sym (same_open id m v h sys.agrees.long) in
      subst (λ ks. CameToAll cpu_in (λ p c. Unit {0}) way m (each (poll plain id) ks m) u) all
      (all_come (poll plain id) cpu_in (λ c. c.removal ≡ Some id) (λ p c. Unit {0})
      (λ x p y. PollsOn raise_tables id p.cpu p.answer x y)
      (λ p n x y hx shows ready one. polls_on id p n x y hx shows ready one) 0 way m v u
      (subst (RiseFrom 0) (sym all) (numbers_rise (is_open id) 0 m.cpus)) (half v sys) h
      (λ k has. open_is id (cpu_of k m) (numbers_pass (is_open id) k m (subst (Has k) all has)).1) did)

  pub is_polled : (answer : Option Receipt) → PollsRemoval raise_tables id (Ok answer) v w → IsPolled texts step id answer m w
  is_polled answer (inl (e, some, said, same)) = absurd (let isnt : Ok answer ≡ Err e = said in cc)
  is_polled (Some receipt) (inr (none, (way, u, ns, did, answers))) =
      let c = (comes_all way u ns did).came in
      let there = nowhere id receipt parts.state u w c.shows c.half answers in
      let is : poll_id plain texts step id m ≡ answered step text id parts = ap (λ ks. polled step text id ks parts) there in
      let expired = all_expired id receipt parts.state u w c.shows c.half answers in
      let lost = all_lost id receipt parts.state u w c.shows c.half answers in
      record {
        shows = subst (λ (o : Outcome). ShowsSystem o.state w) (sym is)
            (forgotten_shows id receipt parts.state u w c.shows c.half answers);
        line = ap (λ (o : Outcome). o.line) is ∙ (λ z. removed step text (expired z - lost z));
        names = ap (λ (o : Outcome). o.state.names) is ∙ c.names;
        quiet = λ q. ap (λ (o : Outcome). calls_of q o.acts) is ∙ c.quiet q;
        called = λ q. ap (λ (o : Outcome). o.state.called q) is ∙ c.called q;
        admissions = ap (λ (o : Outcome). o.state.admissions) is ∙ c.admissions;
      }
  is_polled None (inr (none, (way, ns, did, some))) =
      let c = (comes_all way w ns did).came in
      let still : cpus_having id parts.state ≢ [] = λ e. some (sym (same_with id parts.state w c.shows c.half.long) ∙ e) in
      let is : poll_id plain texts step id m ≡ parts = stays (cpus_having id parts.state) still in
      record {
        shows = subst (λ (o : Outcome). ShowsSystem o.state w) (sym is) c.shows;
        line = ap (λ (o : Outcome). o.line) is ∙ c.line;
        names = ap (λ (o : Outcome). o.state.names) is ∙ c.names;
        quiet = λ q. ap (λ (o : Outcome). calls_of q o.acts) is ∙ c.quiet q;
        called = λ q. ap (λ (o : Outcome). o.state.called q) is ∙ c.called q;
        admissions = ap (λ (o : Outcome). o.state.admissions) is ∙ c.admissions;
      }
    where
      stays : (ns : List ℕ) → ns ≢ [] → polled step text id ns parts ≡ parts
      stays [] some = absurd (some refl)
      stays (n ∷ ns) some = refl

  -- what is left to be told of it, where it answers
  pub polled_counts : (receipt : Receipt) → PollsRemoval raise_tables id (Ok (Some receipt)) v w
      → counts_of id (poll_id plain texts step id m).state ≡ told_by_receipt receipt (m.called id)
  polled_counts receipt (inl (e, some, said, same)) = absurd (let isnt : Ok (Some receipt) ≡ Err e = said in cc)
  polled_counts receipt (inr (none, (way, u, ns, did, answers))) =
      let c = (comes_all way u ns did).came in
      ap (λ ks. counts_of id (polled step text id ks parts).state) (nowhere id receipt parts.state u w c.shows c.half answers)
      ∙ counts_left id receipt parts.state u w c.shows c.half answers ∙ ap (told_by_receipt receipt) (c.called id)

  -- it is known no more, and the receipt is its own
  pub polled_unknown : (receipt : Receipt) → PollsRemoval raise_tables id (Ok (Some receipt)) v w
      → is_no_cyclic id (poll_id plain texts step id m).state ≡ true
  polled_unknown receipt (inl (e, some, said, same)) = absurd (let isnt : Ok (Some receipt) ≡ Err e = said in cc)
  polled_unknown receipt (inr (none, (way, u, ns, did, answers))) =
      let c = (comes_all way u ns did).came in
      ap (λ ks. is_no_cyclic id (polled step text id ks parts).state) (nowhere id receipt parts.state u w c.shows c.half answers)
      ∙ ap (λ o. not (is_some o)) (placement_forgotten id parts.state)

pub receipt_polled : (id : ℕ) (receipt : Receipt) (v w : SystemView Tables) → PollsRemoval raise_tables id (Ok (Some receipt)) v w
    → receipt.id ≡ id
receipt_polled id receipt v w (inl (e, some, said, same)) = absurd (let isnt : Ok (Some receipt) ≡ Err e = said in cc)
receipt_polled id receipt v w (inr (none, (way, u, ns, did, answers))) = answers.counts.id ∙ answers.named

-- ---- several

module _ (texts : List (List ℕ)) (step : ℕ) (m : State) where
  abbrev polls : List ℕ → Outcome
  polls ids = each (poll_id plain texts step) ids m

  pub polls_begin : (w : SystemView Tables) → ShowsSystem m w → HavePolled texts step [] [] m w
  polls_begin w h = record {
    comes = record { shows = h; admissions = omega arith; free = λ n soft. tt };
    said = refl;
    names = refl;
    quiet = λ id. refl;
    called = λ id. refl;
  }

  one_more : (ids : List ℕ) (id : ℕ) → polls (ids ++ id ∷ [])
      ≡ before (polls ids) (before (poll_id plain texts step id (polls ids).state)
      (nothing (poll_id plain texts step id (polls ids).state).state))
  one_more ids id = each_append (poll_id plain texts step) ids (id ∷ []) m

  pub polls_next : (ids lines : List ℕ) (id : ℕ) (answer : Option Receipt) (v w : SystemView Tables) → IsSystem v
      → HavePolled texts step ids lines m v
      → PollsRemoval raise_tables id (Ok answer) v w
      → HavePolled texts step (ids ++ id ∷ []) (lines ++ polled_line step (text_of_id id texts m.names) answer) m w
  polls_next ids lines id answer v w sys h did =
      let o = polls ids in
      let p = is_polled texts step id o.state v w sys h.comes.shows answer did in
      let q = poll_id plain texts step id o.state in
      let is = one_more ids id in
      record {
        comes = record {
          shows = subst (λ (x : Outcome). ShowsSystem x.state w) (sym is) p.shows;
          admissions = (let a = ap (λ (x : Outcome). x.state.admissions) is in let b = p.admissions in let c =
              h.comes.admissions in omega (arith, a, b, c));
          free = λ n soft. none_admitted (polls (ids ++ id ∷ [])).acts n soft _ (polls_none texts step (ids ++ id ∷ []) m);
        };
        said = ap (λ (x : Outcome). x.line) is ∙ ap (λ xs. o.line ++ xs) (append-nil q.line)
            ∙ (λ z. h.said z ++ (p.line ∙ ap (λ names. polled_line step (text_of_id id texts names) answer) h.names) z);
        names = ap (λ (x : Outcome). x.state.names) is ∙ p.names ∙ h.names;
        quiet = λ j.
            let a = ap (λ (x : Outcome). calls_of j x.acts) is in
            let b = calls_append j o.acts (q.acts ++ []) in
            let c = calls_append j q.acts [] in
            let d = h.quiet j in
            let e = p.quiet j in
            omega (arith, a, b, c, d, e);
        called = λ j. ap (λ (x : Outcome). x.state.called j) is ∙ p.called j ∙ h.called j;
      }

  pub polls_tell : (ids lines : List ℕ) (id : ℕ) (receipt : Receipt) (v w : SystemView Tables) → IsSystem v
      → HavePolled texts step ids lines m v
      → PollsRemoval raise_tables id (Ok (Some receipt)) v w
      → counts_of id (polls (ids ++ id ∷ [])).state ≡ told_by_receipt receipt (m.called id)
  polls_tell ids lines id receipt v w sys h did =
      ap (λ (x : Outcome). counts_of id x.state) (one_more ids id)
      ∙ polled_counts texts step id (polls ids).state v w sys h.comes.shows receipt did
      ∙ ap (told_by_receipt receipt) (h.called id)

  -- the definition knows the cyclic no more
  pub polls_forget : (ids lines : List ℕ) (id : ℕ) (receipt : Receipt) (v w : SystemView Tables) → IsSystem v
      → HavePolled texts step ids lines m v
      → PollsRemoval raise_tables id (Ok (Some receipt)) v w
      → is_no_cyclic id (polls (ids ++ id ∷ [])).state ≡ true
  polls_forget ids lines id receipt v w sys h did =
      ap (λ (x : Outcome). is_no_cyclic id x.state) (one_more ids id)
      ∙ polled_unknown texts step id (polls ids).state v w sys h.comes.shows receipt did

-- ---- all of them

leaving_each : (id_test : ℕ → Bool) (own : ℕ → Bool) (rs : List Record) → ((id : ℕ) → id_test id ≡ own id)
    → filter id_test (map (λ (p : Placed). p.id) (map shown_record rs)) ≡ filter own (map (λ (r : Record). r.id) rs)
leaving_each test own [] same = refl
leaving_each test own (r ∷ rs) same = (λ z. cond (same r.id z) (r.id ∷ leaving_each test own rs same z)
    (leaving_each test own rs same z))

pub same_leaving : (m : State) (v : SystemView Tables) → IsSystem v → ShowsSystem m v → leaving_ids m ≡ leaving_in v
same_leaving m v sys h =
    ap (λ ps. filter (λ id. is_being_removed id m) (map (λ (p : Placed). p.id) ps)) h.placed
    ∙ leaving_each (λ id. is_being_removed id m) (λ id. leaving_there id v) v.records (λ id. leaving_shown id m v h
    sys.agrees.long)

module _ {C : Type 0} (count : C → ℕ → ℕ) where
  pub interrupted : (texts : List (List ℕ)) (step : ℕ) (i : SoftintStep) (made : Ran) (lines : List ℕ) (m : State)
      (s t : RunningSystem C Tables) (w : SystemView Tables)
      → IsServed count i made m s t → HavePolled texts step (leaving_ids (interrupt step i m).state) lines
      (interrupt step i m).state w
      → IsInterrupted count (record { texts = texts; step = step; asks = i; made = made; lines = lines }) m s t w
  interrupted texts step i made lines m s t w served h =
      let o = interrupt step i m in
      let p = each (poll_id plain texts step) (leaving_ids o.state) o.state in
      record {
        comes = record {
          shows = h.comes.shows;
          admissions = (let a = h.comes.admissions in let b = (served.comes step).admissions in omega (arith, a, b));
          free = λ n soft. none_admitted (o.acts ++ p.acts) n soft _
              (no_more o.acts p.acts (interrupt_none i.cpu i.level i.budget (cpu_of i.cpu m))
              (polls_none texts step (leaving_ids o.state) o.state));
        };
        line = (λ z. ran step (sym served.calls z) (sym served.idle z) ++ h.said z);
        called = λ id. let a = served.called id in let b = calls_append id o.acts p.acts in let c = h.quiet id in
            omega (arith, a, b, c);
      }
