-- An omnipresent cyclic of a system comes where the definition puts it.
use Rattle.std.proofs.Common.{◌≡◌, ℕ, ◌+◌, ◌<◌, inl, inr, Bool, true, false, List, [], ◌∷◌, ◌++◌, length, map, get_or, Option}
use Rattle.std.proofs.Common.{Some, None, refl, ap, sym, ◌∙◌, subst, arith}
use Rattle.std.specs.Prelude.{slice_set, nat_lt, not, Ok, Err, int_lt, pos}
use Rattle.std.proofs.lemmas.List.{map-append}
use Rattle.cyc_types.specs.declared.level.Level.{Level}
use Rattle.cyc_types.specs.declared.level.Soft.{Soft}
use Rattle.cyc_types.specs.declared.moment.When.{When}
use Rattle.cyc_types.specs.declared.refusal.Refusal.{Refusal}
use Rattle.cyc_types.specs.declared.refusal.Refusal.TheVariants.{BadWhen, BadInterval, BadNow, IdsSpent, Full, Expanding}
use Rattle.cyc_core.specs.Tables.{Tables}
use Rattle.cyc_script.specs.declared.step.Omni.{Omni as OmniStep}
use Rattle.cyc_script.specs.declared.step.Step.TheVariants as steps
use Rattle.cyc_cpu.specs.Soft.{raise_tables}
use Rattle.cyc_cpu.specs.Calls.{AskRoom, Reserve, Widen, Place}
use Rattle.cyc_places.specs.declared.record.Placement.TheVariants as placements
use Rattle.cyc_places.specs.Places.{IsRecord, new_record}
use Rattle.cyc_system.specs.Cpus.{CpusView, Works, on as on_cpu, online_cpus as online_in}
use Rattle.cyc_system.specs.Reserving.{rooms, reserves}
use Rattle.cyc_system.specs.System.{SystemView}
use Rattle.cyc_system.specs.Refusals as why
use Rattle.cyc_system.specs.Omni.{entering_each, component_first}
use Rattle.cyc_system.specs.Calls.{AddOmni, Changes}
use Rattle.cyc_model.specs.Acts.{calls_of, events_at}
use Rattle.cyc_model.specs.Cpu.{Cpu}
use Rattle.cyc_types.specs.Limits.{cyclics as most_cyclics}
use Rattle.cyc_model.specs.Moving.{must_grow, enter_here}
use Rattle.cyc_model.specs.Questions.{plain, soft_has_followed}
use Rattle.cyc_model.specs.Serving.{level_at}
use Rattle.cyc_model.specs.Free.{AllCanBeAdmitted}
use Rattle.cyc_model.specs.State.{
  State,
  Outcome,
  Everywhere,
  OnAll,
  absent,
  cpu_of,
  cpus_from,
  cpus_online,
  on_number,
  each,
  told,
}
use Rattle.cyc_model.specs.Places.{given}
use Rattle.cyc_types.specs.Reasons.{first_refusal, or_else, when, only_if, busy, bad_now}
use Rattle.cyc_types.specs.Counting.{no_counts}
use Rattle.cyc_model.specs.Refusals.{no_id_left}
use Rattle.cyc_model.specs.Add.{enter}
use Rattle.cyc_model.specs.Omni.{component, everywhere, enter_each, omni_refusal, no_room_on_each}
use Rattle.cyc_model.proofs.Local.{local_enter}
use Rattle.cyc_system_model.specs.Answers.{IsRefused, why_no_room}
use Rattle.cyc_system_model.specs.Shown.{shown_cpus, shown_record, ShowsSystem, AreTied, IsSystem}
use Rattle.cyc_system_model.specs.SystemWords.{GivesIndexes, IsSeries, ComesTo, IsDone, IsRefusedFor}
use Rattle.cyc_system_model.proofs.Cpus.{cpu_at, done_at}
use Rattle.cyc_system_model.proofs.Destinations.{same_numbers}
use Rattle.cyc_system_model.proofs.Asking.{same_ids_spent, NoMemory, no_memory_when, no_memory_else, some_refused, append_none}
use Rattle.cyc_system_model.proofs.Asking.{append_some, same_error}
use Rattle.cyc_text.specs.Lines.{accepted as accepted_line}
use Rattle.cyc_system_model.proofs.Entering.{entered, unchanged, same_shown}
use Rattle.cyc_system_model.proofs.SystemAdding.{one_more, ended_more}
use Rattle.cyc_system_model.proofs.Going.{Goes, goes_alike, goes_from, goes_to, goes_then, goes_on}

-- ---- the cyclic on each CPU

-- what is the same of the books
pub record SameBooks (s t : State) : Type 0 where
  pub placed : t.placed ≡ s.placed
  pub ended : (id n : ℕ) → t.ended id n ≡ s.ended id n
  pub last : t.last_id ≡ s.last_id
  pub names : t.names ≡ s.names

record Entered (given_there : List ℕ) (s : State) (o : Outcome) (y : CpusView Tables) : Type 0 where
  goes : Goes s o
  cpus : o.state.cpus ≡ shown_cpus y
  admissions : o.state.admissions ≡ s.admissions + length given_there
  books : SameBooks s o.state

abbrev of_series : Level → When → ℕ → Everywhere
of_series level series skew = record { level = level; start = series.start; interval = series.interval; skew = skew }

abbrev enters : (ℕ → ℕ) → ℕ → Everywhere → List ℕ → State → Outcome
enters indexes id e ns s = each (λ n t. enter indexes n (component id n e t.clock) t) ns s

all_enter : (id : ℕ) (level : Level) (series : When) (skew now : ℕ) (ns : List ℕ) (x y : CpusView Tables)
    → length x.online ≡ length x.cpus → AreTied x
    → Works raise_tables (entering_each ns id level series skew now) x y
    → (given_there : List ℕ) × ((s : State) (indexes : ℕ → ℕ) → s.cpus ≡ shown_cpus x → s.clock ≡ now
    → GivesIndexes indexes s.admissions given_there
    → Entered given_there s (enters indexes id (of_series level series skew) ns s) y)
all_enter id level series skew now [] x y long tied same = (
  [],
  λ s indexes cpus clock gives. record {
    goes = goes_alike s s (refl, refl);
    cpus = cpus ∙ ap shown_cpus same;
    admissions = omega arith;
    books = record { placed = refl; ended = λ q n. refl; last = refl; names = refl };
  },
)
all_enter id level series skew now (n ∷ ns) x y long tied (u1, wide, (u2, put, rest)) =
    let e = of_series level series skew in
    let moment = component_first n series skew now in
    let b = done_at n (Widen 1) x u1 long tied wide in
    let p = done_at n (Place id level series.interval moment no_counts) u1 u2 b.long b.tied put in
    let own = entered n id level series.interval moment no_counts x u1 u2 b p in
    let more = all_enter id level series skew now ns u2 y p.long p.tied rest in (
      p.index ∷ more.0,
      λ s indexes cpus clock gives.
          let o = enter indexes n (component id n e s.clock) s in
          let at : o.state.cpus ≡ shown_cpus u2 =
          (λ z. slice_set (cpus z) n (enter_here n (gives.0 z) (component id n e (clock z)) (get_or (cpus z) n absent)).cpu)
          ∙ sym own.cpus in
          let low : n < length s.cpus = subst (λ cs. n < length cs) (sym cpus) b.within in
          let free : (soft : Soft) → AllCanBeAdmitted
          (events_at n soft (enter_here n (indexes s.admissions) (component id n e s.clock) (cpu_of n s)).acts)
          (level_at soft (cpu_of n s)) =
          λ soft. subst (λ c. c) (λ z. AllCanBeAdmitted
          (events_at n soft (enter_here n (sym gives.0 z) (component id n e (sym clock z))
          (get_or (sym cpus z) n absent)).acts)
          (level_at soft (get_or (sym cpus z) n absent))) (own.free soft) in
          let none : (q : ℕ) → calls_of q (enter_here n (indexes s.admissions) (component id n e s.clock) (cpu_of n s)).acts ≡ 0 =
          λ q. (λ z. calls_of q (enter_here n (gives.0 z) (component id n e (clock z)) (get_or (cpus z) n absent)).acts)
          ∙ own.quiet q in
          let f = enter_here n (indexes s.admissions) (component id n e s.clock) in
          let one : Goes s o = goes_to s (on_number n f s) [] o.state (refl, refl)
          (goes_on n f s (local_enter n (indexes s.admissions) (component id n e s.clock)) low free none) in
          let r = more.1 o.state indexes at clock gives.1 in
          record {
            goes = goes_then s o (enters indexes id e ns) one r.goes;
            cpus = r.cpus;
            admissions = (let a = r.admissions in omega (arith, a));
            books = record {
              placed = r.books.placed;
              ended = r.books.ended;
              last = r.books.last;
              names = r.books.names;
            };
          },
    )

-- ---- room on each CPU

all_rooms : (ns : List ℕ) (x y : CpusView Tables) → length x.online ≡ length x.cpus → AreTied x
    → Works raise_tables (rooms 1 ns) x y
    → (shown_cpus y ≡ shown_cpus x) × AreTied y × (length y.online ≡ length y.cpus)
    × (first_refusal (map (λ n. why_no_room 1 (cpu_at x n)) ns) ≡ None)
all_rooms [] x y long tied same = (
  ap shown_cpus (sym same),
  subst AreTied same tied,
  subst (λ (u : CpusView Tables). length u.online ≡ length u.cpus) same long,
  refl,
)
all_rooms (n ∷ ns) x y long tied (u, did, rest) =
    let d = done_at n (AskRoom 1 (Ok tt)) x u long tied did in
    let same = unchanged x u n d.cpus in
    let r = all_rooms ns u y d.long d.tied rest in (
      r.0 ∙ same,
      r.1,
      r.2,
      (λ z. or_else (d.answered tt z) (first_refusal (map (λ k. why_no_room 1 (get_or (sym same z) k absent)) ns))) ∙ r.3,
    )

all_reserved : (ns : List ℕ) (x y : CpusView Tables) → length x.online ≡ length x.cpus → AreTied x
    → Works raise_tables (reserves 1 ns) x y
    → (shown_cpus y ≡ shown_cpus x) × AreTied y × (length y.online ≡ length y.cpus)
all_reserved [] x y long tied same = (
  ap shown_cpus (sym same),
  subst AreTied same tied,
  subst (λ (u : CpusView Tables). length u.online ≡ length u.cpus) same long,
)
all_reserved (n ∷ ns) x y long tied (u, did, rest) =
    let d = done_at n (Reserve 1 (Ok tt)) x u long tied did in
    let r = all_reserved ns u y d.long d.tied rest in
    (r.0 ∙ unchanged x u n d.cpus, r.1, r.2)

no_room_there : (before : List ℕ) (n : ℕ) (e : Refusal) (x y : CpusView Tables) → length x.online ≡ length x.cpus → AreTied x
    → Works raise_tables (rooms 1 before ++ on_cpu n (AskRoom 1 (Err e)) ∷ []) x y
    → (shown_cpus y ≡ shown_cpus x) × ((rest : List ℕ)
    → first_refusal (map (λ k. why_no_room 1 (cpu_at x k)) (before ++ n ∷ rest)) ≡ Some e)
no_room_there [] n e x y long tied (u, did, last) =
    let d = done_at n (AskRoom 1 (Err e)) x u long tied did in (
      ap shown_cpus (sym last) ∙ unchanged x u n d.cpus,
      λ rest. ap (λ o. or_else o (first_refusal (map (λ k. why_no_room 1 (cpu_at x k)) rest))) (d.answered tt),
    )
no_room_there (b ∷ before) n e x y long tied (u, did, more) =
    let d = done_at b (AskRoom 1 (Ok tt)) x u long tied did in
    let same = unchanged x u b d.cpus in
    let r = no_room_there before n e u y d.long d.tied more in (
      r.0 ∙ same,
      λ rest. (λ z. or_else (d.answered tt z) (first_refusal
          (map (λ k. why_no_room 1 (get_or (sym same z) k absent)) (before ++ n ∷ rest)))) ∙ r.1 rest,
    )

no_memory_there : (before : List ℕ) (n : ℕ) (e : Refusal) (x y : CpusView Tables) → length x.online ≡ length x.cpus → AreTied x
    → Works raise_tables (reserves 1 before ++ on_cpu n (Reserve 1 (Err e)) ∷ []) x y → shown_cpus y ≡ shown_cpus x
no_memory_there [] n e x y long tied (u, did, last) =
    let d = done_at n (Reserve 1 (Err e)) x u long tied did in
    ap shown_cpus (sym last) ∙ unchanged x u n d.cpus
no_memory_there (b ∷ before) n e x y long tied (u, did, more) =
    let d = done_at b (Reserve 1 (Ok tt)) x u long tied did in
    no_memory_there before n e u y d.long d.tied more ∙ unchanged x u b d.cpus

no_memory_of : (full grow behind : Bool) (r : Option ℕ)
    → NoMemory (or_else (when full Full) (or_else (only_if grow (busy r)) (or_else (only_if grow (when behind Expanding)) None)))
no_memory_of true grow behind r = tt
no_memory_of false false behind r = tt
no_memory_of false true behind (Some id) = tt
no_memory_of false true true None = tt
no_memory_of false true false None = tt

room_no_memory : (c : Cpu) → NoMemory (why_no_room 1 c)
room_no_memory c = no_memory_of (nat_lt most_cyclics (length c.cyclics + 1)) (must_grow 1 c) (not (soft_has_followed c)) c.removal

rooms_no_memory : (ns : List ℕ) (x : CpusView Tables) → NoMemory (first_refusal (map (λ k. why_no_room 1 (cpu_at x k)) ns))
rooms_no_memory [] x = tt
rooms_no_memory (n ∷ ns) x = no_memory_else (why_no_room 1 (cpu_at x n)) _ (room_no_memory (cpu_at x n)) (rooms_no_memory ns x)

-- ---- the word omni

module _ (a : OmniStep) (series : When) (s : State) (v w : SystemView Tables) (sys : IsSystem v) (h : ShowsSystem s v)
    (is : IsSeries a.start a.interval series) where
  same_online : cpus_online s ≡ online_in v.cpus
  same_online = ap (cpus_from 0 (λ (c : Cpu). c.online)) h.cpus ∙ same_numbers 0 v.cpus.online v.cpus.cpus sys.agrees.long

  abbrev rooms_in : Option Refusal
  rooms_in = first_refusal (map (λ n. why_no_room 1 (cpu_at v.cpus n)) (online_in v.cpus))

  same_rooms : first_refusal (no_room_on_each plain (s.last_id + 1) s) ≡ rooms_in
  same_rooms = λ z. first_refusal (map (λ n. why_no_room 1 (get_or (h.cpus z) n absent)) (same_online z))

  abbrev early : Option Refusal
  early = or_else (bad_now s.clock) (or_else (no_id_left s) None)

  asked : early ≡ or_else (bad_now s.clock) (or_else (why.ids_spent v) None)
  asked = ap (λ o. or_else (bad_now s.clock) (or_else o None)) (same_ids_spent s v h sys.agrees.long)

  late : omni_refusal plain a s ≡ or_else (bad_now s.clock)
      (or_else (no_id_left s) (first_refusal (no_room_on_each plain (s.last_id + 1) s)))
  late = append_none (when (int_lt a.start (pos 0)) BadWhen) (when (int_lt a.interval (pos 1)) BadInterval)
      (or_else (bad_now s.clock) (or_else (no_id_left s) (first_refusal (no_room_on_each plain (s.last_id + 1) s)))) is.0

  only_rooms : or_else (bad_now s.clock) (or_else (why.ids_spent v) None) ≡ None → omni_refusal plain a s ≡ rooms_in
  only_rooms none = late ∙ append_none (bad_now s.clock) (no_id_left s) (first_refusal (no_room_on_each plain (s.last_id + 1) s))
      (asked ∙ none) ∙ same_rooms

  -- the cyclic, as the definition has it
  abbrev own : Everywhere
  own = of_series a.level series a.skew

  own_is : everywhere a ≡ own
  own_is = λ z. record { level = a.level; start = is.1 z; interval = is.2 z; skew = a.skew }

  abbrev begun : State
  begun = given a.name (OnAll (everywhere a)) s

  pub omni_accepted : (id : ℕ) → Changes raise_tables v (AddOmni a.level series a.skew s.clock (Ok id)) w → (id ≡ s.last_id + 1)
      × IsDone (steps.Omni a) s w
  omni_accepted id (inl (e, some, answer, same)) = absurd (let isnt : Ok id ≡ Err e = answer in cc)
  omni_accepted id (inr (none, (named, (reserved, (asked_all, roomy, taken), works), records, last))) =
      let ns = online_in v.cpus in
      let r = all_rooms ns v.cpus asked_all sys.agrees.long sys.tied roomy in
      let q = all_reserved ns asked_all reserved r.2 r.1 taken in
      let f = all_enter id a.level series a.skew s.clock ns reserved w.cpus q.2 q.1 works in
      let gives : id ≡ s.last_id + 1 = named ∙ ap (λ n. n + 1) (sym h.last) in
      let there : (ℕ → ℕ) → Outcome = λ indexes. enters indexes id own ns begun in
      let same : (indexes : ℕ → ℕ) → enter_each indexes (s.last_id + 1) (everywhere a) begun ≡ there indexes =
      λ indexes. (λ z. enters indexes (sym gives z) (own_is z) (same_online z) begun) in
      let done : (indexes : ℕ → ℕ) → GivesIndexes indexes s.admissions f.0 → Entered f.0 begun (there indexes) w.cpus =
      λ indexes at. f.1 begun indexes (h.cpus ∙ sym (q.0 ∙ r.0)) refl at in (
        gives,
        record {
          accepted = only_rooms none ∙ r.3;
          given = f.0;
          comes = λ texts indexes step at.
              let d = done indexes at in
              subst (λ p. ComesTo f.0 s (told (accepted_line step) p) w) (sym (same indexes)) (record {
                shows = record {
                  cpus = d.cpus;
                  placed = d.books.placed ∙ sym (ap (map shown_record) records
                      ∙ map-append shown_record v.records (new_record id a.level (placements.Everywhere series a.skew) ∷ [])
                      ∙ (λ z. sym h.placed z ++ record { id = gives z; placement = OnAll (sym own_is z) } ∷ []));
                  ended = λ k q2 at_k n. d.books.ended q2.id n
                      ∙ ended_more s v id a.level (placements.Everywhere series a.skew) k n q2 h gives
                      (one_more v.records (new_record id a.level (placements.Everywhere series a.skew)) k q2
                      (subst (λ rs. IsRecord rs k q2) records at_k));
                  fresh = λ i n less. d.books.ended i n ∙ h.fresh i n (let l = d.books.last in omega (arith, less, l));
                  last = d.books.last ∙ sym (last ∙ gives);
                };
                admissions = d.admissions;
                free = (goes_from s begun (there indexes) (refl, refl) d.goes).free;
              });
          quiet = λ texts indexes step at q2. subst (λ (p : Outcome). calls_of q2 p.acts ≡ 0) (sym (same indexes))
              ((done indexes at).goes.quiet q2);
        },
      )

  pub omni_refused : (e : Refusal) → Changes raise_tables v (AddOmni a.level series a.skew s.clock (Err e)) w
      → IsRefusedFor e (steps.Omni a) s w
  omni_refused e (inl (why_is, some, answer, same)) =
      let said : early ≡ Some e = asked ∙ some ∙ ap Some (sym (same_error ℕ e why_is (Err e) (Err why_is) refl refl answer)) in (
        some_refused e early (omni_refusal plain a s) said
            (no_memory_else (bad_now s.clock) (or_else (no_id_left s) None) (no_memory_when _ BadNow tt)
            (no_memory_else (no_id_left s) None (no_memory_when _ IdsSpent tt) tt))
            (late ∙ append_some e (bad_now s.clock) (no_id_left s) (first_refusal (no_room_on_each plain (s.last_id + 1) s))
            said),
        subst (ShowsSystem s) (sym same) h,
      )
  omni_refused e (inr (none, (inl (inl (before, n, (rest, stands), works)), records, last))) =
      let r = no_room_there before n e v.cpus w.cpus sys.agrees.long sys.tied works in
      let said : rooms_in ≡ Some e = ap (λ ns. first_refusal (map (λ k. why_no_room 1 (cpu_at v.cpus k)) ns)) stands
      ∙ r.1 rest in (
        some_refused e rooms_in (omni_refusal plain a s) said (rooms_no_memory (online_in v.cpus) v.cpus) (only_rooms none
            ∙ said),
        same_shown s v w h r.0 records last,
      )
  omni_refused e (inr (none, (inl (inr (x, roomy, (memory, before, n, stands, works))), records, last))) =
      let r = all_rooms (online_in v.cpus) v.cpus x sys.agrees.long sys.tied roomy in (
        subst (λ y. IsRefused y (omni_refusal plain a s)) (sym memory) (only_rooms none ∙ r.3),
        same_shown s v w h (no_memory_there before n e x w.cpus r.2 r.1 works ∙ r.0) records last,
      )
  omni_refused e (inr (none, (inr (memory, (x, roomy, taken)), records, last))) =
      let r = all_rooms (online_in v.cpus) v.cpus x sys.agrees.long sys.tied roomy in (
        subst (λ y. IsRefused y (omni_refusal plain a s)) (sym memory) (only_rooms none ∙ r.3),
        same_shown s v w h ((all_reserved (online_in v.cpus) x w.cpus r.2 r.1 taken).0 ∙ r.0) records last,
      )
