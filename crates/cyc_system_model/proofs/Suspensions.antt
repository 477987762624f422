-- Whether the CPUs of a system are suspended: no call but a suspend and a resume changes it.
use Rattle.std.proofs.Common.{◌≡◌, ℕ, inl, inr, false, List, [], ◌∷◌, ◌++◌, map, length, Option, Some, None, ap, sym, ◌∙◌}
use Rattle.std.specs.Prelude.{Result, Ok, Err}
use Rattle.std.specs.List.{FoldsTo}
use Rattle.std.specs.Option.{option_map, option_map_or}
use Rattle.cyc_types.specs.declared.Calls.{Ghosts as Calls}
use Rattle.cyc_types.specs.Series.{first}
use Rattle.cyc_types.specs.declared.level.Level.{Level}
use Rattle.cyc_types.specs.declared.moment.When.{When}
use Rattle.cyc_types.specs.declared.receipt.Receipt.{Receipt}
use Rattle.cyc_types.specs.declared.refusal.JuggleReport.{JuggleReport}
use Rattle.cyc_types.specs.declared.refusal.Refusal.{Refusal}
use Rattle.cyc_core.specs.Tables.{Tables}
use Rattle.cyc_cpu.specs.declared.removing.Removal.{Removal}
use Rattle.cyc_cpu.specs.declared.removing.Removal.TheVariants as on_cpu
use Rattle.cyc_cpu.specs.Cpu.{Running, SameCpu, running}
use Rattle.cyc_cpu.specs.Soft.{raise_tables, Interrupts}
use Rattle.cyc_cpu.specs.Calls.{CpuCall, Fire, AskPending, AskRoom, Reserve, Reprogram as Reprogrammed, TakeNow, Widen}
use Rattle.cyc_cpu.specs.Calls.{SoftInterrupt as CpuSoftInterrupt, CpuDoes as CpuDoes}
use Rattle.cyc_cpu.specs.Calls as cpu
use Rattle.cyc_cpu.proofs.Calling.{LeavesMark as LeavesCpuMark, changes_suspended, fire_keeps}
use Rattle.cyc_places.specs.declared.record.Placement.{Placement as RecordPlacement}
use Rattle.cyc_places.specs.declared.record.Placement.TheVariants as placements
use Rattle.cyc_places.specs.declared.record.Record.{Record}
use Rattle.cyc_places.specs.Places.{ended_on}
use Rattle.cyc_system.specs.Cpus.{CpusView, CallOn, Works, DoesAt, RunsAt, on, online_cpus, running_cpus}
use Rattle.cyc_system.specs.Reserving.{rooms, reserves, ReservesEach}
use Rattle.cyc_system.specs.System.{SystemView, RunningSystem, ids_on}
use Rattle.cyc_system.specs.Agreement.{suspended_on}
use Rattle.cyc_system.specs.Adding.{OnlyWorks, entering}
use Rattle.cyc_system.specs.Shifting.{moving, move_of}
use Rattle.cyc_system.specs.Binding.{GoesTo}
use Rattle.cyc_system.specs.Removing.{BeginsOn, Begun}
use Rattle.cyc_system.specs.SystemRemoval.TheVariants as system
use Rattle.cyc_system.specs.Polling.{PollsOn, Polled}
use Rattle.cyc_system.specs.Counting.{Counted, asked}
use Rattle.cyc_system.specs.declared.turning.Turn.{Turn}
use Rattle.cyc_system.specs.declared.turning.Turn.TheVariants as turn
use Rattle.cyc_system.specs.Juggling.{TakesTurn, Turns, single_ids}
use Rattle.cyc_system.specs.GoingOffline.{quiet, Retires, EndsOffline}
use Rattle.cyc_system.specs.Omni.{entering_each}
use Rattle.cyc_system.specs.Online.{GoesOnline, staying, return_at, returns}
use Rattle.cyc_system.specs.Calls.{SystemCall, Add, AddOmni, Bind, BeginRemove, PollRemove, AskTotals, Reprogram, ReprogramOn}
use Rattle.cyc_system.specs.Calls.{Juggle, Offline, Online, FireOne, SoftInterrupt, Suspend, Resume, Changes, Does}
use Rattle.cyc_system.proofs.Who.{kept_at}
use Rattle.cyc_agreement.specs.Suspending.{is_suspended}
use Rattle.cyc_system_model.specs.Kept.{LeavesMark}

-- ---- calls that leave the mark of their CPUs

abbrev AllLeave : List CallOn → Type 0
AllLeave [] = Unit {0}
AllLeave (c ∷ way) = LeavesCpuMark c.call × AllLeave way

leave_append : (xs ys : List CallOn) → AllLeave xs → AllLeave ys → AllLeave (xs ++ ys)
leave_append [] ys one two = two
leave_append (x ∷ xs) ys one two = (one.0, leave_append xs ys one.1 two)

leave_rooms : (more : ℕ) (ns : List ℕ) → AllLeave (rooms more ns)
leave_rooms more [] = tt
leave_rooms more (n ∷ ns) = (tt, leave_rooms more ns)

leave_reserves : (more : ℕ) (ns : List ℕ) → AllLeave (reserves more ns)
leave_reserves more [] = tt
leave_reserves more (n ∷ ns) = (tt, leave_reserves more ns)

leave_entering : (ns : List ℕ) (id : ℕ) (level : Level) (series : When) (skew now : ℕ)
    → AllLeave (entering_each ns id level series skew now)
leave_entering [] id level series skew now = tt
leave_entering (n ∷ ns) id level series skew now = (tt, (tt, leave_entering ns id level series skew now))

leave_quiet : (n : ℕ) (ids : List ℕ) → AllLeave (quiet n ids)
leave_quiet n [] = tt
leave_quiet n (id ∷ ids) = (tt, leave_quiet n ids)

leave_asked : (id : ℕ) (way : List Counted) → AllLeave (map (asked id) way)
leave_asked id [] = tt
leave_asked id (a ∷ way) = (tt, leave_asked id way)

leave_returns : (n now : ℕ) (rs : List Record) → AllLeave (returns n now rs)
leave_returns n now [] = tt
leave_returns n now (r ∷ rs) = leave_append (return_at n now r.id r.level (ended_on n r) r.placement) (returns n now rs)
    (one r.placement) (leave_returns n now rs)
  where
    one : (p : RecordPlacement) → AllLeave (return_at n now r.id r.level (ended_on n r) p)
    one (placements.On m bound) = tt
    one (placements.Everywhere start skew) = (tt, tt)

-- ---- the marks after them

abbrev SameMarks : CpusView Tables → CpusView Tables → Type 0
SameMarks v w = (n : ℕ) → suspended_on n w ≡ suspended_on n v

marks_same : (v w : SystemView Tables) → w ≡ v → SameMarks v.cpus w.cpus
marks_same v w same n = ap (λ (x : SystemView Tables). suspended_on n x.cpus) same

marks_did : (c : CallOn) (v w : CpusView Tables) → LeavesCpuMark c.call → DoesAt raise_tables v c w → SameMarks v w
marks_did c v w leaves d n = ap (suspended_on n) d.rest
    ∙ kept_at v c.cpu d.before d.after d.here (λ o. option_map (λ cpu. cpu.suspended) o)
    (ap Some (changes_suspended raise_tables d.before d.after c.call leaves d.change)) n

marks_works : (way : List CallOn) (v w : CpusView Tables) → AllLeave way → Works raise_tables way v w → SameMarks v w
marks_works [] v w leaves same n = ap (suspended_on n) (sym same)
marks_works (c ∷ way) v w leaves (u, did, rest) n = marks_works way u w leaves.1 rest n ∙ marks_did c v u leaves.0 did n

marks_only : (way : List CallOn) (v w : SystemView Tables) → AllLeave way → OnlyWorks raise_tables way v w
    → SameMarks v.cpus w.cpus
marks_only way v w leaves (works, records, last) = marks_works way v.cpus w.cpus leaves works

marks_each : (answer : Result (Unit {0}) Refusal) (v w : CpusView Tables) → ReservesEach raise_tables 1 answer v w → SameMarks v w
marks_each (Ok done) v w (u, asked_all, taken) n =
    marks_works (reserves 1 (online_cpus v)) u w (leave_reserves 1 (online_cpus v)) taken n
    ∙ marks_works (rooms 1 (online_cpus v)) v u (leave_rooms 1 (online_cpus v)) asked_all n
marks_each (Err e) v w (inl (before, k, stands, works)) n =
    marks_works (rooms 1 before ++ on k (AskRoom 1 (Err e)) ∷ []) v w
    (leave_append (rooms 1 before) (on k (AskRoom 1 (Err e)) ∷ []) (leave_rooms 1 before) (tt, tt)) works n
marks_each (Err e) v w (inr (u, asked_all, (memory, before, k, stands, works))) n =
    marks_works (reserves 1 before ++ on k (Reserve 1 (Err e)) ∷ []) u w
    (leave_append (reserves 1 before) (on k (Reserve 1 (Err e)) ∷ []) (leave_reserves 1 before) (tt, tt)) works n
    ∙ marks_works (rooms 1 (online_cpus v)) v u (leave_rooms 1 (online_cpus v)) asked_all n

-- ---- moves

marks_goes : (id home target : ℕ) (answer : Result (Unit {0}) Refusal) (v w : CpusView Tables)
    → GoesTo raise_tables (move_of id home target) answer v w → SameMarks v w
marks_goes id home target answer v w (inl (e, ok, same)) n = ap (suspended_on n) same
marks_goes id home target (Ok done) v w (inr (ne, (taken, works))) n =
    marks_works (moving id home target taken) v w (tt, (tt, (tt, (tt, (tt, tt))))) works n
marks_goes id home target (Err e) v w (inr (ne, inl (removed, open_there, why_is, same))) n = ap (suspended_on n) same
marks_goes id home target (Err e) v w (inr (ne, inr (inl (still, k, some, why_is, works)))) n =
    marks_works (on home (AskPending id (Some k)) ∷ []) v w (tt, tt) works n
marks_goes id home target (Err e) v w (inr (ne, inr (inr (still, works)))) n =
    marks_works (on home (AskPending id (Some 0)) ∷ on target (Reserve 1 (Err e)) ∷ []) v w (tt, (tt, tt)) works n

marks_turn : (source id : ℕ) (t : Turn) (v w : SystemView Tables) → TakesTurn raise_tables source id t v w
    → SameMarks v.cpus w.cpus
marks_turn source id turn.StaysBound v w (at, same) = marks_same v w same
marks_turn source id turn.StaysPending v w (at, n, some, only) = marks_only (on source (AskPending id (Some n)) ∷ []) v w (tt, tt)
    only
marks_turn source id turn.StaysRefused v w (at, d, dest, e, only) =
    marks_only (on source (AskPending id (Some 0)) ∷ on d (Reserve 1 (Err e)) ∷ []) v w (tt, (tt, tt)) only
marks_turn source id turn.Moves v w (at, d, dest, (taken, works), records) =
    marks_works (moving id source d taken) v.cpus w.cpus (tt, (tt, (tt, (tt, (tt, tt))))) works

marks_turns : (source : ℕ) (ids : List ℕ) (report : JuggleReport) (v w : SystemView Tables)
    → Turns raise_tables source ids report v w → SameMarks v.cpus w.cpus
marks_turns source [] report v w (is, same) = marks_same v w same
marks_turns source (id ∷ ids) report v w (t, u, rest, takes, counted, more) = λ n.
    marks_turns source ids rest u w more n ∙ marks_turn source id t v u takes n

marks_retires : (n : ℕ) (ids : List ℕ) (v w : SystemView Tables) → FoldsTo (Retires raise_tables n) v ids w
    → SameMarks v.cpus w.cpus
marks_retires n [] v w same = marks_same v w (sym same)
marks_retires n (id ∷ ids) v w (u, d, rest) = λ k.
    marks_retires n ids u w rest k ∙ marks_did (on n (TakeNow id (Ok d.0))) v.cpus u.cpus tt d.1 k

marks_leaves : (n : ℕ) (report : JuggleReport) (answer : Result (Unit {0}) Refusal) (v w : SystemView Tables)
    → EndsOffline raise_tables n report answer v w → SameMarks v.cpus w.cpus
marks_leaves n report answer v w (inl (left, is, same)) = marks_same v w same
marks_leaves n report answer v w (inr (inl (none, is, (before, id, stands, found, some, only)))) =
    marks_only (quiet n before ++ on n (AskPending id (Some found)) ∷ []) v w
    (leave_append (quiet n before) (on n (AskPending id (Some found)) ∷ []) (leave_quiet n before) (tt, tt)) only
marks_leaves n report answer v w (inr (inr (none, is, (a, only, empty, retires, same)))) = λ k.
    ap (λ (x : SystemView Tables). suspended_on k x.cpus) same
    ∙ marks_retires n (ids_on n v.cpus) a empty retires k
    ∙ marks_only (quiet n (ids_on n v.cpus)) v a (leave_quiet n (ids_on n v.cpus)) only k

-- ---- removals

marks_begins : (id : ℕ) (way : List Begun) (v w : SystemView Tables)
    → FoldsTo (λ u b x. BeginsOn raise_tables id b.cpu b.found u x) v way w → SameMarks v.cpus w.cpus
marks_begins id [] v w same = marks_same v w (sym same)
marks_begins id (b ∷ way) v w (u, did, rest) = λ n. marks_begins id way u w rest n ∙ by b.found did n
  where
    by : (found : Removal) → BeginsOn raise_tables id b.cpu found v u → SameMarks v.cpus u.cpus
    by (on_cpu.Done receipt) d = marks_did (on b.cpu (cpu.BeginRemove id (Ok (on_cpu.Done receipt)))) v.cpus u.cpus tt d.0
    by (on_cpu.Kept left) d = marks_did (on b.cpu (cpu.BeginRemove id (Ok (on_cpu.Kept left)))) v.cpus u.cpus tt d.0

marks_polls : (id : ℕ) (way : List Polled) (v w : SystemView Tables)
    → FoldsTo (λ u p x. PollsOn raise_tables id p.cpu p.answer u x) v way w → SameMarks v.cpus w.cpus
marks_polls id [] v w same = marks_same v w (sym same)
marks_polls id (p ∷ way) v w (u, did, rest) = λ n. marks_polls id way u w rest n ∙ by p.answer did n
  where
    by : (answer : Option Receipt) → PollsOn raise_tables id p.cpu answer v u → SameMarks v.cpus u.cpus
    by (Some receipt) d = marks_did (on p.cpu (cpu.PollRemove (Some receipt))) v.cpus u.cpus tt d.0
    by None d = marks_did (on p.cpu (cpu.PollRemove None)) v.cpus u.cpus tt d.0

-- ---- each call

marks_online : (n now : ℕ) (answer : Result (Unit {0}) Refusal) (v w : SystemView Tables)
    → GoesOnline raise_tables n now answer v w → SameMarks v.cpus w.cpus
marks_online n now (Err e) v w (why_not, only) = marks_only (on n (Reserve (length (staying v)) (Err e)) ∷ []) v w (tt, tt) only
marks_online n now (Ok done) v w ((u, works, cpus), records, last) = λ k. ap (suspended_on k) cpus
    ∙ marks_works (on n (Reserve (length (staying v)) (Ok tt)) ∷ on n (Widen (length (staying v))) ∷ returns n now (staying v))
    v.cpus u (tt, (tt, leave_returns n now (staying v))) works k

marks_change : (call : SystemCall) (v w : SystemView Tables) → LeavesMark call → Changes raise_tables v call w
    → SameMarks v.cpus w.cpus
marks_change (Add level series now answer) v w plain (inl (e, some, said, same)) = marks_same v w same
marks_change (Add level series now (Ok id)) v w plain (inr (none, (d, dest, named, works, records, last))) =
    marks_works (on d (Reserve 1 (Ok tt)) ∷ entering d id level series.interval (first series.start series.interval now))
    v.cpus w.cpus (tt, (tt, (tt, tt))) works
marks_change (Add level series now (Err e)) v w plain (inr (none, (d, dest, inl only))) =
    marks_only (on d (Reserve 1 (Err e)) ∷ []) v w (tt, tt) only
marks_change (Add level series now (Err e)) v w plain (inr (none, (d, dest, inr (memory, only)))) =
    marks_only (on d (Reserve 1 (Ok tt)) ∷ []) v w (tt, tt) only
marks_change (AddOmni level series skew now answer) v w plain (inl (e, some, said, same)) = marks_same v w same
marks_change (AddOmni level series skew now (Ok id)) v w plain (inr (none, (named, (u, reserved, works), records, last))) = λ n.
    marks_works (entering_each (online_cpus v.cpus) id level series skew now) u w.cpus
    (leave_entering (online_cpus v.cpus) id level series skew now) works n
    ∙ marks_each (Ok tt) v.cpus u reserved n
marks_change (AddOmni level series skew now (Err e)) v w plain (inr (none, (inl each, records, last))) =
    marks_each (Err e) v.cpus w.cpus each
marks_change (AddOmni level series skew now (Err e)) v w plain (inr (none, (inr (memory, each), records, last))) =
    marks_each (Ok tt) v.cpus w.cpus each
marks_change (Bind id None answer) v w plain (inl (e, some, said, same)) = marks_same v w same
marks_change (Bind id None answer) v w plain (inr (none, (ok, n, home, cpus, records))) = λ k. ap (suspended_on k) cpus
marks_change (Bind id (Some n) answer) v w plain (inl (e, some, said, same)) = marks_same v w same
marks_change (Bind id (Some n) (Ok done)) v w plain (inr (none, (home, at, goes, records))) =
    marks_goes id home n (Ok tt) v.cpus w.cpus goes
marks_change (Bind id (Some n) (Err e)) v w plain (inr (none, (home, at, goes, records, last))) =
    marks_goes id home n (Err e) v.cpus w.cpus goes
marks_change (BeginRemove id answer) v w plain (inl (e, some, said, same)) = marks_same v w same
marks_change (BeginRemove id (Ok (system.Done receipt))) v w plain (inr (none, (way, u, ns, each, answers))) = λ k.
    ap (suspended_on k) answers.cpus ∙ marks_begins id way v u each k
marks_change (BeginRemove id (Ok (system.Kept left))) v w plain (inr (none, (way, ns, each, some, sum))) =
    marks_begins id way v w each
marks_change (BeginRemove id (Err e)) v w plain (inr (none, did)) = absurd did
marks_change (PollRemove id answer) v w plain (inl (e, some, said, same)) = marks_same v w same
marks_change (PollRemove id (Ok (Some receipt))) v w plain (inr (none, (way, u, ns, each, answers))) = λ k.
    ap (suspended_on k) answers.cpus ∙ marks_polls id way v u each k
marks_change (PollRemove id (Ok None)) v w plain (inr (none, (way, ns, each, some))) = marks_polls id way v w each
marks_change (PollRemove id (Err e)) v w plain (inr (none, did)) = absurd did
marks_change (AskTotals id (Some totals)) v w plain (way, r, is, ns, only, adds) =
    marks_only (map (asked id) way) v w (leave_asked id way) only
marks_change (AskTotals id None) v w plain (none, same) = marks_same v w same
marks_change (Reprogram id moment answer) v w plain (inl (e, some, said, same)) = marks_same v w same
marks_change (Reprogram id moment answer) v w plain (inr (none, (n, home, (ok, only)))) =
    marks_only (on n (Reprogrammed id moment (Ok tt)) ∷ []) v w (tt, tt) only
marks_change (ReprogramOn id n moment answer) v w plain (inl (e, some, said, same)) = marks_same v w same
marks_change (ReprogramOn id n moment answer) v w plain (inr (none, (ok, only))) =
    marks_only (on n (Reprogrammed id moment (Ok tt)) ∷ []) v w (tt, tt) only
marks_change (Juggle n answer) v w plain (inl (e, some, said, same)) = marks_same v w same
marks_change (Juggle n answer) v w plain (inr (none, (report, is, turns))) = marks_turns n (single_ids n v) report v w turns
marks_change (Offline n answer) v w plain (inl (e, some, said, same)) = marks_same v w same
marks_change (Offline n answer) v w plain (inr (none, (report, moved, turns, leaves))) = λ k.
    marks_leaves n report answer moved w leaves k ∙ marks_turns n (single_ids n v) report v moved turns k
marks_change (Online n now answer) v w plain (inl (e, some, said, same)) = marks_same v w same
marks_change (Online n now answer) v w plain (inr (none, did)) = marks_online n now answer v w did
marks_change (Suspend answer) v w plain did = absurd plain
marks_change (Resume answer) v w plain did = absurd plain
marks_change (FireOne n now answer) v w plain did = absurd did
marks_change (SoftInterrupt n level budget answer) v w plain did = absurd did

module _ {C : Type 0} (handler : Calls C) where
  marks_ran : (n : ℕ) (call : CpuCall) (s t : RunningSystem C Tables)
      → ((x y : Running C Tables) → CpuDoes handler raise_tables (Interrupts handler) x call y → SameCpu x.cpu y.cpu)
      → RunsAt handler raise_tables (Interrupts handler) (running_cpus s.calls s.system.cpus)
      (on n call) (running_cpus t.calls t.system.cpus)
      → SameMarks s.system.cpus t.system.cpus
  marks_ran n call s t keeps did k = ap (suspended_on k) did.rest
      ∙ kept_at s.system.cpus n did.before did.after did.here (λ o. option_map (λ cpu. cpu.suspended) o)
      (ap Some (keeps (running s.calls did.before) (running t.calls did.after) did.change).suspended) k

  marks_done : (call : SystemCall) (s t : RunningSystem C Tables) → LeavesMark call
      → Does handler raise_tables (Interrupts handler) s call t → SameMarks s.system.cpus t.system.cpus
  marks_done (FireOne n now answer) s t plain (inl (e, some, said, same)) =
      marks_same s.system t.system (ap (λ (x : RunningSystem C Tables). x.system) same)
  marks_done (FireOne n now answer) s t plain (inr (none, (did, records, last))) =
      marks_ran n (Fire now answer) s t (λ x y d. fire_keeps handler raise_tables (Interrupts handler) now x y answer d) did
  marks_done (SoftInterrupt n level budget answer) s t plain (inl (e, some, said, same)) =
      marks_same s.system t.system (ap (λ (x : RunningSystem C Tables). x.system) same)
  marks_done (SoftInterrupt n level budget answer) s t plain (inr (none, (own, is, did, records, last))) =
      marks_ran n (CpuSoftInterrupt level budget own) s t (λ x y d. d.1.kept) did
  marks_done (Add level series now answer) s t plain (did, calls) =
      marks_change (Add level series now answer) s.system t.system plain did
  marks_done (AddOmni level series skew now answer) s t plain (did, calls) =
      marks_change (AddOmni level series skew now answer) s.system t.system plain did
  marks_done (Bind id cpu answer) s t plain (did, calls) = marks_change (Bind id cpu answer) s.system t.system plain did
  marks_done (BeginRemove id answer) s t plain (did, calls) = marks_change (BeginRemove id answer) s.system t.system plain did
  marks_done (PollRemove id answer) s t plain (did, calls) = marks_change (PollRemove id answer) s.system t.system plain did
  marks_done (AskTotals id answer) s t plain (did, calls) = marks_change (AskTotals id answer) s.system t.system plain did
  marks_done (Reprogram id moment answer) s t plain (did, calls) =
      marks_change (Reprogram id moment answer) s.system t.system plain did
  marks_done (ReprogramOn id n moment answer) s t plain (did, calls) =
      marks_change (ReprogramOn id n moment answer) s.system t.system plain did
  marks_done (Juggle n answer) s t plain (did, calls) = marks_change (Juggle n answer) s.system t.system plain did
  marks_done (Offline n answer) s t plain (did, calls) = marks_change (Offline n answer) s.system t.system plain did
  marks_done (Online n now answer) s t plain (did, calls) = marks_change (Online n now answer) s.system t.system plain did
  marks_done (Suspend answer) s t plain did = absurd plain
  marks_done (Resume answer) s t plain did = absurd plain

  pub suspended_kept : (call : SystemCall) (s t : RunningSystem C Tables)
      → Does handler raise_tables (Interrupts handler) s call t → LeavesMark call → is_suspended t.system ≡ is_suspended s.system
  suspended_kept call s t did plain = ap (λ o. option_map_or (λ suspended. suspended) o false) (marks_done call s t plain did 0)
