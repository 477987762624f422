-- An add of a system is what the definition says.
use Rattle.std.proofs.Common.{◌≡◌, ℕ, zero, suc, ◌+◌, ◌⊎◌, inl, inr, false, List, [], ◌∷◌, ◌++◌, map, get_or, Option, Some, None}
use Rattle.std.proofs.Common.{refl, ap, sym, ◌∙◌, subst, arith}
use Rattle.std.specs.Prelude.{slice_set, Ok, Err, int_lt, pos}
use Rattle.std.specs.Option.{option_map_or}
use Rattle.std.proofs.lemmas.List.{map-append}
use Rattle.cyc_types.specs.Series.{first}
use Rattle.cyc_types.specs.declared.level.Level.{Level}
use Rattle.cyc_types.specs.declared.moment.When.{When}
use Rattle.cyc_types.specs.declared.refusal.Refusal.{Refusal}
use Rattle.cyc_types.specs.declared.refusal.Refusal.TheVariants.{Memory, BadWhen, BadInterval, BadNow, IdsSpent}
use Rattle.cyc_core.specs.Tables.{Tables}
use Rattle.cyc_script.specs.declared.step.Add.{Add as AddStep}
use Rattle.cyc_script.specs.declared.step.Step.TheVariants as steps
use Rattle.cyc_cpu.specs.Soft.{raise_tables}
use Rattle.cyc_cpu.specs.Calls.{Reserve, Widen, Place}
use Rattle.cyc_places.specs.declared.record.Placement.{Placement as RecordPlacement}
use Rattle.cyc_places.specs.declared.record.Placement.TheVariants as placements
use Rattle.cyc_places.specs.declared.record.Record.{Record}
use Rattle.cyc_places.specs.Places.{IsRecord, new_record, ended_on}
use Rattle.cyc_system.specs.System.{SystemView}
use Rattle.cyc_system.specs.Refusals as why
use Rattle.cyc_system.specs.Calls.{Add, Changes}
use Rattle.cyc_model.specs.Acts.{calls_of}
use Rattle.cyc_model.specs.Cpu.{CyclicState}
use Rattle.cyc_model.specs.Moving.{enter_here}
use Rattle.cyc_model.specs.Serving.{level_at}
use Rattle.cyc_model.specs.Free.{AllCanBeAdmitted}
use Rattle.cyc_model.specs.Acts.{events_at}
use Rattle.cyc_model.specs.Questions.{plain}
use Rattle.cyc_model.specs.State.{State, On, absent, cpu_of}
use Rattle.cyc_model.specs.Places.{destination_of}
use Rattle.cyc_types.specs.Reasons.{or_else, when, bad_now}
use Rattle.cyc_types.specs.Counting.{no_counts}
use Rattle.cyc_model.specs.Refusals.{no_id_left}
use Rattle.cyc_model.specs.Add.{cyclic_that_expired, added, add_refusal}
use Rattle.cyc_model.proofs.Local.{local_enter}
use Rattle.cyc_system_model.specs.Answers.{IsRefused, why_no_room}
use Rattle.cyc_system_model.specs.Shown.{shown_cpus, shown_record, shown_counts, ShowsSystem, IsSystem}
use Rattle.cyc_system_model.specs.SystemWords.{IsSeries, IsDone, IsRefusedFor}
use Rattle.cyc_system_model.proofs.Lists.{same_all}
use Rattle.cyc_system_model.proofs.Cpus.{cpu_at, done_at}
use Rattle.cyc_system_model.proofs.Asking.{same_ids_spent, no_memory_when, no_memory_else, some_refused, append_none}
use Rattle.cyc_system_model.proofs.Asking.{append_some}
use Rattle.cyc_system_model.proofs.Asking.{same_error, or_none}
use Rattle.cyc_system_model.proofs.Destinations.{destination_shown}
use Rattle.cyc_system_model.proofs.Entering.{entered, unchanged, free_on, same_shown}

-- ---- a new record

-- the records of a system with one more
pub one_more : (rs : List Record) (new : Record) (k : ℕ) (r : Record) → IsRecord (rs ++ new ∷ []) k r → IsRecord rs k r
    ⊎ (r ≡ new)
one_more [] new zero r is = inr (same r new is)
  where
    same : (a b : Record) → Some b ≡ Some a → a ≡ b
    same a b e = cc
one_more [] new (suc k) r is = absurd (let isnt : None ≡ Some r = is in cc)
one_more (x ∷ rs) new zero r is = inl is
one_more (x ∷ rs) new (suc k) r is = one_more rs new k r is

new_ended : (n id : ℕ) (level : Level) (p : RecordPlacement)
    → shown_counts (ended_on n (new_record id level p)) ≡ record { expired = 0; lost = 0 }
new_ended n id level p = ap shown_counts (same_all 16 n no_counts)

-- the new record has no ended stay, and no other changed
pub ended_more : (s : State) (v : SystemView Tables) (id : ℕ) (level : Level) (p : RecordPlacement) (k n : ℕ) (r : Record)
    → ShowsSystem s v
    → id ≡ s.last_id + 1
    → IsRecord v.records k r ⊎ (r ≡ new_record id level p) → s.ended r.id n ≡ shown_counts (ended_on n r)
ended_more s v id level p k n r h gives (inl old) = h.ended k r old n
ended_more s v id level p k n r h gives (inr new) =
    h.fresh r.id n (let named = ap (λ (x : Record). x.id) new in omega (arith, named, gives))
    ∙ sym (ap (λ (x : Record). shown_counts (ended_on n x)) new ∙ new_ended n id level p)

-- ---- the reasons for a refusal

-- what the definition asks first, and then whether there is room
abbrev early : AddStep → State → Option Refusal
early a s = or_else (bad_now s.clock) (or_else (no_id_left s) None)

abbrev room_there : State → Option Refusal
room_there s = why_no_room 1 (cpu_of (destination_of None s) s)

late : (a : AddStep) (series : When) (s : State) → IsSeries a.start a.interval series
    → add_refusal plain a s ≡ or_else (bad_now s.clock) (or_else (no_id_left s) (or_else (room_there s) None))
late a series s is = append_none (when (int_lt a.start (pos 0)) BadWhen) (when (int_lt a.interval (pos 1)) BadInterval)
    (or_else (bad_now s.clock) (or_else (no_id_left s) (or_else (room_there s) None))) is.0

only_room : (a : AddStep) (series : When) (s : State) → IsSeries a.start a.interval series → early a s ≡ None
    → add_refusal plain a s ≡ or_else (room_there s) None
only_room a series s is none = late a series s is ∙ append_none (bad_now s.clock) (no_id_left s) (or_else (room_there s) None)
    none

module _ (a : AddStep) (series : When) (s : State) (v w : SystemView Tables) (sys : IsSystem v) (h : ShowsSystem s v)
    (is : IsSeries a.start a.interval series) where
  asked : early a s ≡ or_else (bad_now s.clock) (or_else (why.ids_spent v) None)
  asked = ap (λ o. or_else (bad_now s.clock) (or_else o None)) (same_ids_spent s v h sys.agrees.long)

  room_at : (d : ℕ) → destination_of None s ≡ d → room_there s ≡ why_no_room 1 (cpu_at v.cpus d)
  room_at d dm = λ z. why_no_room 1 (get_or (h.cpus z) (dm z) absent)

  pub add_accepted : (id : ℕ) → Changes raise_tables v (Add a.level series s.clock (Ok id)) w → (id ≡ s.last_id + 1)
      × IsDone (steps.Add a) s w
  add_accepted id (inl (e, some, answer, same)) = absurd (let isnt : Ok id ≡ Err e = answer in cc)
  add_accepted id (inr (none, (d, dest, named, (u1, reserve, (u2, wide, (u3, put, same))), records, last))) =
      let moment = first series.start series.interval s.clock in
      let r = done_at d (Reserve 1 (Ok tt)) v.cpus u1 sys.agrees.long sys.tied reserve in
      let b = done_at d (Widen 1) u1 u2 r.long r.tied wide in
      let p = done_at d (Place id a.level series.interval moment no_counts) u2 u3 b.long b.tied put in
      let e = entered d id a.level series.interval moment no_counts u1 u2 u3 b p in
      let x : CyclicState = cyclic_that_expired id a.level series.interval moment 0 0 in
      let before : shown_cpus u1 ≡ shown_cpus v.cpus = unchanged v.cpus u1 d r.cpus in
      let dm : destination_of None s ≡ d = destination_shown None s v.cpus h.cpus sys.agrees.long
      ∙ ap (λ o. option_map_or (λ n. n) o 0) dest in
      let gives : id ≡ s.last_id + 1 = named ∙ ap (λ n. n + 1) (sym h.last) in
      let is_x : added a s ≡ x = λ z. cyclic_that_expired (sym gives z) a.level (is.2 z) (first (is.1 z) (is.2 z) s.clock) 0 0 in
      -- the CPUs after it, as the definition has them
      let cs : shown_cpus w.cpus ≡ slice_set (shown_cpus v.cpus) d
      (enter_here d p.index x (get_or (shown_cpus v.cpus) d absent)).cpu =
      ap shown_cpus (sym same) ∙ e.cpus ∙ ap (λ xs. slice_set xs d (enter_here d p.index x (get_or xs d absent)).cpu) before in
      let at_d : get_or s.cpus (destination_of None s) absent
      ≡ cpu_at u1 d = λ z. get_or ((h.cpus ∙ sym before) z) (dm z) absent in (
        gives,
        record {
          accepted = only_room a series s is (asked ∙ none) ∙ or_none (room_there s) ∙ room_at d dm ∙ r.answered tt;
          given = p.index ∷ [];
          comes = λ texts indexes step at. record {
            shows = record {
              cpus = sym (cs ∙ (λ z. slice_set (sym h.cpus z) (sym dm z)
                  (enter_here (sym dm z) (sym at.0 z) (sym is_x z) (get_or (sym h.cpus z) (sym dm z) absent)).cpu));
              placed = sym (ap (map shown_record) records
                  ∙ map-append shown_record v.records (new_record id a.level (placements.On d false) ∷ [])
                  ∙ (λ z. sym h.placed z ++ record { id = gives z; placement = On (sym dm z) false } ∷ []));
              ended = λ k q there n. ended_more s v id a.level (placements.On d false) k n q h gives
                  (one_more v.records (new_record id a.level (placements.On d false)) k q
                  (subst (λ rs. IsRecord rs k q) records there));
              fresh = λ i n less. h.fresh i n (omega (arith, less));
              last = sym (last ∙ gives);
            };
            admissions = refl;
            free = free_on (destination_of None s) (enter_here (destination_of None s) (indexes s.admissions) (added a s)
                (get_or s.cpus (destination_of None s) absent)).acts s
                (local_enter (destination_of None s) (indexes s.admissions) (added a s)
                (get_or s.cpus (destination_of None s) absent)).on
                (λ soft. subst (λ c. c) (λ z. AllCanBeAdmitted (events_at (sym dm z) soft
                (enter_here (sym dm z) (sym at.0 z) (sym is_x z) (sym at_d z)).acts) (level_at soft (sym at_d z))) (e.free soft));
          };
          quiet = λ texts indexes step at q.
              let none_called = e.quiet q in
              let same_acts : calls_of q (enter_here (destination_of None s) (indexes s.admissions) (added a s)
              (get_or s.cpus (destination_of None s) absent)).acts
              ≡ calls_of q (enter_here d p.index x (cpu_at u1 d)).acts =
              λ z. calls_of q (enter_here (dm z) (at.0 z) (is_x z) (at_d z)).acts in
              omega (arith, none_called, same_acts);
        },
      )

  -- refused before the CPU was asked
  early_refused : (e : Refusal) → early a s ≡ Some e → IsRefused e (add_refusal plain a s)
  early_refused e some = some_refused e (early a s) (add_refusal plain a s) some
      (no_memory_else (bad_now s.clock) (or_else (no_id_left s) None) (no_memory_when _ BadNow tt)
      (no_memory_else (no_id_left s) None (no_memory_when _ IdsSpent tt) tt))
      (late a series s is ∙ append_some e (bad_now s.clock) (no_id_left s) (or_else (room_there s) None) some)

  room_refused : (e : Refusal) (d : ℕ) → early a s ≡ None → destination_of None s ≡ d
      → IsRefused e (why_no_room 1 (cpu_at v.cpus d))
      → IsRefused e (add_refusal plain a s)
  room_refused e d none dm refused = subst (IsRefused e)
      (sym (only_room a series s is none ∙ or_none (room_there s) ∙ room_at d dm)) refused

  pub add_refused : (e : Refusal) → Changes raise_tables v (Add a.level series s.clock (Err e)) w
      → IsRefusedFor e (steps.Add a) s w
  add_refused e (inl (own, some, answer, same)) = (
    early_refused e (asked ∙ some ∙ ap Some (sym (same_error ℕ e own (Err e) (Err own) refl refl answer))),
    subst (ShowsSystem s) (sym same) h,
  )
  add_refused e (inr (none, (d, dest, inl ((u, reserve, same), records, last)))) =
      let dm : destination_of None s ≡ d = destination_shown None s v.cpus h.cpus sys.agrees.long
      ∙ ap (λ o. option_map_or (λ n. n) o 0) dest in
      let r = done_at d (Reserve 1 (Err e)) v.cpus u sys.agrees.long sys.tied reserve in (
        room_refused e d (asked ∙ none) dm (r.answered tt),
        same_shown s v w h (ap shown_cpus (sym same) ∙ unchanged v.cpus u d r.cpus) records last,
      )
  add_refused e (inr (none, (d, dest, inr (memory, ((u, reserve, same), records, last))))) =
      let dm : destination_of None s ≡ d = destination_shown None s v.cpus h.cpus sys.agrees.long
      ∙ ap (λ o. option_map_or (λ n. n) o 0) dest in
      let r = done_at d (Reserve 1 (Ok tt)) v.cpus u sys.agrees.long sys.tied reserve in (
        subst (λ x. IsRefused x (add_refusal plain a s)) (sym memory) (room_refused Memory d (asked ∙ none) dm (r.answered tt)),
        same_shown s v w h (ap shown_cpus (sym same) ∙ unchanged v.cpus u d r.cpus) records last,
      )
