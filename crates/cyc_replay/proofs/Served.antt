-- A soft interrupt of the machine: the tally refuses none of its calls, and the machine after it is as the definition's.
use Rattle.std.proofs.Common.{◌≡◌, ℕ, zero, suc, ◌+◌, ◌*◌, ◌^◌, ◌<◌, ◌≤◌, ◌==◌, eqb-true, inl, inr, Bool, true, false, cond, List}
use Rattle.std.proofs.Common.{[], ◌∷◌, length, map, find, Option, Some, None, refl, ap, sym, ◌∙◌, subst, arith}
use Rattle.std.specs.Prelude.{nat_le, IsSome, Result, Ok, Err, slice_index_or}
use Rattle.std.specs.Option.{option_map_or}
use Rattle.std.specs.List.{slice_get, FoldsTo}
use Rattle.std.proofs.lemmas.List.{length-map}
use Rattle.std.proofs.lemmas.List.Sums.{count_by-le-length}
use Rattle.cyc_types.specs.Draining.{DrainCall, Takes as Looks, Finishes}
use Rattle.cyc_types.specs.Runs.{DrainGoes}
use Rattle.cyc_types.specs.Tally.{TallyView, tally_count}
use Rattle.cyc_types.specs.contracts.tally.TallyCalls.TheImpl.{ghosts as tally_calls}
use Rattle.cyc_types.specs.declared.level.Level.TheVariants.{High}
use Rattle.cyc_types.specs.declared.level.Soft.{Soft}
use Rattle.cyc_types.specs.declared.level.Soft.TheVariants.{Low, Lock}
use Rattle.cyc_types.specs.declared.refusal.Refusal.{Refusal}
use Rattle.cyc_types.specs.declared.refusal.Refusal.TheVariants.{NoCpu}
use Rattle.cyc_level.specs.declared.Event.TheVariants.{Take, Finish, Follow}
use Rattle.cyc_level.specs.Level.{AdmittedCyclic, SoftLevel, count_in}
use Rattle.cyc_core.specs.Reached.{Happens}
use Rattle.cyc_core.specs.DrainingSide.{take_events}
use Rattle.cyc_core.specs.Tables.{Tables, level_of}
use Rattle.cyc_soft.specs.Serving.{Served, ids}
use Rattle.cyc_soft.specs.declared.Ran.{Ran}
use Rattle.cyc_soft.specs.declared.SoftRefused.{SoftRefused}
use Rattle.cyc_script.specs.declared.step.Softint.{Softint as SoftintStep}
use Rattle.cyc_cpu.specs.Cpu.{CpuView}
use Rattle.cyc_cpu.specs.Soft.{raise_tables, drains, drain_tables, end_at, Interrupts}
use Rattle.cyc_system.specs.Cpus.{IsCpu}
use Rattle.cyc_system.specs.System.{SystemView, RunningSystem, running_system}
use Rattle.cyc_system.proofs.Spots.{same_some, none_some}
use Rattle.cyc_system.specs.Calls.{Does, SoftInterrupt}
use Rattle.cyc_system.specs.declared.system.SoftFault.{SoftFault}
use Rattle.cyc_system.specs.declared.system.SoftFault.TheVariants as fault
use Rattle.cyc_types.specs.Levels.{as_level}
use Rattle.cyc_model.specs.Cpu.{CyclicState, Cpu, is_of, cyclic_with_id, handler_level_of}
use Rattle.cyc_model.specs.Acts.{calls_of}
use Rattle.cyc_model.specs.Serving.{level_at, interrupt_here}
use Rattle.cyc_model.specs.State.{State, absent, cpu_of}
use Rattle.cyc_types.specs.Reasons.{when, or_else}
use Rattle.cyc_model.specs.Softint.{interrupt, softint_refusal}
use Rattle.cyc_model.proofs.Fit.{Fit, keeps_fit, in_hand_counts}
use Rattle.cyc_model.proofs.Whole.{all_back}
use Rattle.cyc_model.proofs.Spread.{Good}
use Rattle.cyc_system_model.specs.Running.{IsServed}
use Rattle.cyc_system_model.specs.ShownCpu.{shown_cpu}
use Rattle.cyc_system_model.specs.Shown.{shown_list, ShowsSystem}
use Rattle.cyc_replay.specs.declared.machine.Machine.{Machine}
use Rattle.cyc_replay.specs.Machine.{ShowsMachine, IsReached, IsWide}
use Rattle.cyc_model.proofs.Gone.{gone_interrupt}
use Rattle.cyc_replay.proofs.Doing.{Keeps}
use Rattle.cyc_replay.proofs.Remembering.{remembers_on}
use Rattle.cyc_replay.proofs.Named.{reached_good}
use Rattle.cyc_model.proofs.Printing.{unknown_gone}
use Rattle.cyc_replay.proofs.Unrefused.{IsFew, EachTimer, same_range, still_wide, never_refuses}
use Rattle.cyc_replay.proofs.Grown.{few_timers, few_reached}
use Rattle.cyc_replay.proofs.Fired.{length_shown}

-- ---- the soft side leaves a level fit, and admits nothing

record Along (l m : SoftLevel) : Type 0 where
  fit : Fit m
  back : (j : ℕ) → IsSome (m.cyclics j) → IsSome (l.cyclics j)

along_same : (l m : SoftLevel) → l ≡ m → Fit l → Along l m
along_same l m is fit = record {
  fit = subst (λ k. Fit k) is fit;
  back =
      λ j h. subst (λ (k : SoftLevel). IsSome (k.cyclics j)) (sym is) h;
}

along_then : (l m k : SoftLevel) → Along l m → (Fit m → Along m k) → Along l k
along_then l m k one next = let two = next one.fit in record { fit = two.fit; back = λ j h. one.back j (two.back j h) }

took : (l m : SoftLevel) → Happens l Take m → Fit l → Along l m
took l m did fit = record {
  fit = subst (λ k. Fit k) (sym did.1) (keeps_fit l fit Take did.0 tt tt);
  back = λ j h. all_back (Take ∷ []) l j (tt, tt) (subst (λ (k : SoftLevel). IsSome (k.cyclics j)) did.1 h);
}

finished : (l m : SoftLevel) → Happens l Finish m → Fit l → Along l m
finished l m did fit = record {
  fit = subst (λ k. Fit k) (sym did.1) (keeps_fit l fit Finish did.0 tt tt);
  back = λ j h. all_back (Finish ∷ []) l j (tt, tt) (subst (λ (k : SoftLevel). IsSome (k.cyclics j)) did.1 h);
}

followed : (l m : SoftLevel) → Happens l Follow m → Fit l → Along l m
followed l m did fit = record {
  fit = subst (λ k. Fit k) (sym did.1) (keeps_fit l fit Follow did.0 tt tt);
  back = λ j h. all_back (Follow ∷ []) l j (tt, tt) (subst (λ (k : SoftLevel). IsSome (k.cyclics j)) did.1 h);
}

looked : (old new : List ℕ) (b : Bool) (l m : SoftLevel) → FoldsTo Happens l (take_events old new b) m → Fit l → Along l m
looked old (x ∷ xs) true l m (k, did, rest) fit = along_then l k m (took l k did fit) (along_same k m rest)
looked old [] true l m is fit = along_same l m is fit
looked (x ∷ xs) new false l m (k, did, rest) fit = along_then l k m (took l k did fit) (along_same k m rest)
looked [] (x ∷ xs) false l m (k, one, (j, two, rest)) fit =
    along_then l k m (followed l k one fit) (λ f. along_then k j m (took k j two f) (along_same j m rest))
looked [] [] false l m (k, did, rest) fit = along_then l k m (followed l k did fit) (along_same k m rest)

drained : (call : DrainCall) (a b : Tables) → drains a call b → Fit (level_of a) → Along (level_of a) (level_of b)
drained (Looks answer) a b did fit = looked a.old_list a.new_list (a.hard_bank == a.soft_bank) (level_of a) (level_of b) did.0 fit
drained (Finishes id answer) a b did fit = finished (level_of a) (level_of b) did.1 fit

drained_all : (way : List DrainCall) (a b : Tables) → DrainGoes drain_tables a way b → Fit (level_of a)
    → Along (level_of a) (level_of b)
drained_all [] a b is fit = along_same (level_of a) (level_of b) (ap level_of is) fit
drained_all (call ∷ way) a b (c, did, rest) fit =
    along_then (level_of a) (level_of c) (level_of b) (drained call a c did fit) (drained_all way c b rest)

counted : (o : Option AdmittedCyclic) → 0 < count_in o → IsSome o
counted None some = absurd (omega (arith, some))
counted (Some c) some = refl

-- ---- what is in hand has an id that was given

at_soft_level : (soft : Soft) (o : Option CyclicState) → option_map_or (λ (x : CyclicState). x.timer.level) o High ≡ as_level soft
    → IsSome o
at_soft_level Low None is = absurd (cc)
at_soft_level Lock None is = absurd (cc)
at_soft_level Low (Some x) is = refl
at_soft_level Lock (Some x) is = refl

given_here : (last most id : ℕ) (cs : List CyclicState) → EachTimer (IsFew last most) (map (λ c. c.timer) cs)
    → IsSome (find (is_of id) cs)
    → (0 < id) × (id ≤ last)
given_here last most id [] all some = absurd (cc)
given_here last most id (c ∷ cs) all some = by (is_of id c) refl (given_here last most id cs all.1) some
  where
    by : (b : Bool) → is_of id c ≡ b → (IsSome (find (is_of id) cs) → (0 < id) × (id ≤ last))
        → IsSome (cond b (Some c) (find (is_of id) cs)) → (0 < id) × (id ≤ last)
    by true is later h = let e = eqb-true c.timer.id id is in let a = all.0.given in let b = all.0.id in
        (omega (arith, a, e), omega (arith, b, e))
    by false is later h = later h

-- the CPU of a number, as the definition has it
shown_of : (os : List Bool) (vs : List (CpuView Tables)) (n : ℕ) (x : CpuView Tables) → length os ≡ length vs
    → slice_get vs n ≡ Some x
    → (o : Bool) × (slice_index_or (shown_list os vs) n absent ≡ shown_cpu o x)
shown_of os [] n x long is = absurd (none_some is)
shown_of [] (v ∷ vs) n x long is = absurd (omega (arith, long))
shown_of (o ∷ os) (v ∷ vs) zero x long is = (o, ap (shown_cpu o) (same_some is))
shown_of (o ∷ os) (v ∷ vs) (suc n) x long is = shown_of os vs n x (omega (arith, long)) is

level_shown : (soft : Soft) (s : State) (v : SystemView Tables) (n : ℕ) (x : CpuView Tables) → ShowsSystem s v
    → length v.cpus.online ≡ length v.cpus.cpus
    → IsCpu n x v.cpus → level_at soft (cpu_of n s) ≡ level_of (end_at soft x)
level_shown Low s v n x h long is = ap (λ cs. (slice_index_or cs n absent).low) h.cpus
    ∙ ap (λ (c : Cpu). c.low) (shown_of v.cpus.online v.cpus.cpus n x long is).1
level_shown Lock s v n x h long is = ap (λ cs. (slice_index_or cs n absent).lock) h.cpus
    ∙ ap (λ (c : Cpu). c.lock) (shown_of v.cpus.online v.cpus.cpus n x long is).1

-- ---- no call is refused

module _ (step n budget : ℕ) (level : Soft) (s : State) (m : Machine) (low : step ≤ 65536) (fits : budget < 2 ^ 32)
    (r : IsReached step s) (h : ShowsMachine s m) where
  few_called : (id : ℕ) → tally_count m.tally id ≤ 65536 * 16000000032
  few_called id =
      let books = (reached_good step s r).base.books id in let few = few_reached step s r low id in let was = h.called id in
      omega (arith, books, few, was)

  held_given : (x : CpuView Tables) (b : Tables) (way : List DrainCall) (id : ℕ) → IsCpu n x m.system.cpus
      → DrainGoes drain_tables (end_at level x) way b
      → (level_of b).drainer_hand ≡ Some id → (0 < id) × (id ≤ s.last_id)
  held_given x b way id here went held =
      let g = reached_good step s r in
      let same = level_shown level s m.system n x h.shows h.system.agrees.long here in
      let along = drained_all way (end_at level x) b went (subst (λ l. Fit l) same ((g.base.whole n).fit level)) in
      let some = along.back id (counted ((level_of b).cyclics id) (in_hand_counts (level_of b) along.fit id held)) in
      let at : handler_level_of id (cpu_of n s) ≡ as_level level =
      (g.base.whole n).back level id (subst (λ (l : SoftLevel). IsSome (l.cyclics id)) (sym same) some) in
      given_here s.last_id (65535 * 16000000032) id (cpu_of n s).cyclics (few_timers step n s r low)
      (at_soft_level level (cyclic_with_id id (cpu_of n s)) at)

  pub never_refused : (e : SoftRefused) (t : RunningSystem TallyView Tables)
      → Does tally_calls raise_tables (Interrupts tally_calls)
      (running_system m.tally m.system) (SoftInterrupt n level budget (Err (fault.Refused e))) t → ⊥
  never_refused e t (inl (why, some, answer, same)) = absurd (let no : Err (fault.Refused e) ≡ Err fault.NoCpu = answer in cc)
  never_refused e t (inr (none, (Ok ran, answer, did, records, last))) =
      absurd (let no : Err (fault.Refused e) ≡ Ok ran = answer in cc)
  never_refused e t (inr (none, (Err own, answer, did, records, last))) =
      let (ran, at, long, less, serves, may, same, held) = did.change.0.refused in
      let (given, last_id) = held_given did.before (end_at level did.after) _ own.id did.here serves.way held in
      let calls = serves.counted own.id in let was = few_called own.id in
      let a = count_by-le-length (λ c. c == own.id) (ids ran) in let b = length-map ran (λ (x : Served). x.id) in
      let named = r.named in
      never_refuses (length s.names) own.id at
      (still_wide (length s.names) m.tally at (same_range (ids ran) m.tally at serves.called_all) h.tally) given
      (omega (arith, last_id, named)) (omega (arith, calls, was, a, b, long, less, fits)) may

-- ---- there is no such CPU

long_shown : (s : State) (v : SystemView Tables) → ShowsSystem s v → length v.cpus.online ≡ length v.cpus.cpus
    → length s.cpus ≡ length v.cpus.cpus
long_shown s v h long = ap length h.cpus ∙ length_shown v.cpus.online v.cpus.cpus long

only_no_cpu : (o : Option Refusal) (b : Bool) (e : Refusal) → o ≡ when b NoCpu → or_else (when b NoCpu) None ≡ Some e
    → o ≡ Some NoCpu
only_no_cpu o true e is some = is
only_no_cpu o false e is some = absurd (none_some some)

abbrev ok_of : Result Ran SoftFault → Bool
ok_of (Ok ran) = true
ok_of (Err fault.NoCpu) = true
ok_of (Err (fault.Refused e)) = false

module _ (i : SoftintStep) (s : State) (m : Machine) (t : RunningSystem TallyView Tables) (h : ShowsMachine s m) where
  pub no_cpu_there : Does tally_calls raise_tables (Interrupts tally_calls)
      (running_system m.tally m.system) (SoftInterrupt i.cpu i.level i.budget (Err fault.NoCpu)) t
      → (softint_refusal i s ≡ Some NoCpu) × (t ≡ running_system m.tally m.system)
  no_cpu_there (inl (e, some, answer, same)) = (
    only_no_cpu (softint_refusal i s) _ e (ap (λ k. when (nat_le k i.cpu) NoCpu)
        (long_shown s m.system h.shows h.system.agrees.long)) some,
    same,
  )
  no_cpu_there (inr (none, (Ok ran, answer, did, records, last))) = absurd (let no : Err fault.NoCpu ≡ Ok ran = answer in cc)
  no_cpu_there (inr (none, (Err own, answer, did, records, last))) =
      absurd (let no : Err fault.NoCpu ≡ Err (fault.Refused own) = answer in cc)

  pub wide_served : (ran : Ran) → Does tally_calls raise_tables (Interrupts tally_calls)
      (running_system m.tally m.system) (SoftInterrupt i.cpu i.level i.budget (Ok ran)) t → IsWide (length s.names) t.calls
  wide_served ran (inl (e, some, answer, same)) = absurd (let no : Ok ran ≡ Err fault.NoCpu = answer in cc)
  wide_served ran (inr (none, (Err own, answer, did, records, last))) =
      absurd (let no : Ok ran ≡ Err (fault.Refused own) = answer in cc)
  wide_served ran (inr (none, (Ok got, answer, did, records, last))) =
      let (served, long, serves, left) = did.change.0.served in
      still_wide (length s.names) m.tally t.calls (same_range (ids served) m.tally t.calls serves.called_all) h.tally

-- ---- the machine after it

pub served_holds : (step : ℕ) (i : SoftintStep) (made : Ran) (s : State) (m : Machine) (t : RunningSystem TallyView Tables)
    → Good s → ShowsMachine s m
    → IsServed tally_count i made s (running_system m.tally m.system) t → Keeps s t.system → IsWide (length s.names) t.calls
    → ShowsMachine (interrupt step i s).state (record m { system = t.system; tally = t.calls })
served_holds step i made s m t g h served kept wide = record {
  system = kept.system;
  shows = (served.comes step).shows;
  clock = h.clock;
  suspended = kept.suspended;
  called = λ id. let a = served.called id in let b = h.called id in
      let c : (interrupt step i s).state.called id
      ≡ s.called id + calls_of id (interrupt_here i.cpu i.level i.budget (cpu_of i.cpu s)).acts = refl in
      omega (arith, a, b, c);
  names = h.names;
  remembers = remembers_on s (interrupt step i s).state m (record m { system = t.system; tally = t.calls }) h.remembers
      (record { names = refl; named = refl }) (let same : s.last_id ≤ s.last_id = omega arith in same)
      (λ id low gone. gone) (λ id low gone. gone)
      (λ id low gone. gone_interrupt step i id s g (low, unknown_gone id s gone) served.accepted);
  tally = wide;
  most = kept.most;
  room = kept.room;
}
