-- Each call is what the definition says.
use Rattle.std.proofs.Common.{◌≡◌, ℕ, ◌+◌, length, cond, inl, inr, Bool, true, false, Some, None, refl, ap, ◌∙◌, arith}
use Rattle.std.specs.Prelude.{Ok, Err}
use Rattle.cyc_types.specs.declared.Calls.{Ghosts as Calls}
use Rattle.cyc_types.specs.Levels.{at_level, handler_at}
use Rattle.cyc_types.specs.declared.level.Level.{Level}
use Rattle.cyc_types.specs.declared.level.Level.TheVariants.{Low, Lock, High}
use Rattle.cyc_types.specs.declared.moment.When.{When}
use Rattle.cyc_types.specs.declared.refusal.Refusal.{Refusal}
use Rattle.cyc_types.specs.declared.refusal.Refusal.TheVariants.{BadNow, NoCyclic, Busy, Pending}
use Rattle.cyc_types.specs.Levels.{as_level}
use Rattle.cyc_level.specs.declared.Event.TheVariants.{Admit, Mark, Clear}
use Rattle.cyc_core.specs.Tables.{Tables, level_of}
use Rattle.cyc_timers.specs.Acts.{same_level}
use Rattle.cyc_timers.specs.Quiet.{LoadsThenLooks}
use Rattle.cyc_cpu.specs.declared.removing.Removal.TheVariants.{Done, Kept}
use Rattle.cyc_cpu.specs.Cpu.{CpuView, Running, HasRisingCyclics, Asks}
use Rattle.cyc_cpu.specs.Removal.{WaitsHere}
use Rattle.cyc_cpu.specs.Moving.{Inquires, WhyNotTaken}
use Rattle.cyc_cpu.specs.Soft.{raise_tables, Interrupts}
use Rattle.cyc_cpu.specs.Calls.{CpuCall, Fire, SoftInterrupt, Add, Place, Reprogram, AskPending, AskTotals, AskRoom, Reserve}
use Rattle.cyc_cpu.specs.Calls.{Widen, BeginRemove, PollRemove, TakeNow, AskSettled, Suspend, Resume, CpuChanges, CpuDoes}
use Rattle.cyc_model.specs.Acts.{at_own, calls_of}
use Rattle.cyc_model.specs.Cpu.{CyclicState, Cpu, here, nothing_here, then_here, handler_level_of}
use Rattle.cyc_model.specs.Moving.{bank_for, must_grow, switch_here, widen_here, place_here, enter_here, take_here, mark_here}
use Rattle.cyc_model.specs.Moving.{clear_here}
use Rattle.cyc_model.specs.Firing.{fire_here}
use Rattle.cyc_model.specs.Serving.{serve_here, level_at}
use Rattle.cyc_model.specs.Add.{begun_cyclic}
use Rattle.cyc_model.proofs.Events.{calls_append}
use Rattle.cyc_system_model.specs.ShownCpu.{shown_cpu}
use Rattle.cyc_system_model.specs.Here.{IsStopped, IsHere}
use Rattle.cyc_system_model.proofs.Levels.{only_looked, loaded, asked_level, waiting_level, own_calls}
use Rattle.cyc_system_model.proofs.CpuComing.{shown_same, shown_looked, shown_reserved, placed, widened, added}
use Rattle.cyc_system_model.proofs.Leaving.{reprogrammed, opened, cleared, ended, taken}
use Rattle.cyc_system_model.proofs.Free.{none_admitted, fire_none, interrupt_none, widen_none, mark_none, clear_none, remove_none}
use Rattle.cyc_system_model.proofs.Free.{take_none, place_free, add_free}
use Rattle.cyc_system_model.proofs.Firing.{fires_here}
use Rattle.cyc_system_model.proofs.Interrupting.{serves_here}

-- ---- what was only asked

asked : (online : Bool) (id m : ℕ) (v w : CpuView Tables) → Asks raise_tables id m v w → shown_cpu online w ≡ shown_cpu online v
asked online id m v w a = shown_same online v w a.cyclics a.kept.size a.kept.removal
    (asked_level (same_level Lock a.cyclic.timer.level) id m v.lock w.lock a.lock)
    (asked_level (same_level Low a.cyclic.timer.level) id m v.low w.low a.low)

loads_then_looks : (d e : Tables) → LoadsThenLooks raise_tables d e → level_of e ≡ level_of d
loads_then_looks d e (f, (all, goes), looks) = only_looked f e looks ∙ loaded all d f goes

inquired : (online : Bool) (v w : CpuView Tables) → Inquires raise_tables v w → shown_cpu online w ≡ shown_cpu online v
inquired online v w i = shown_same online v w i.cyclics i.kept.size i.kept.removal
    (loads_then_looks v.lock w.lock i.lock) (loads_then_looks v.low w.low i.low)

waited : (online : Bool) (id : ℕ) (v w : CpuView Tables) → WaitsHere raise_tables id v w → shown_cpu online w ≡ shown_cpu online v
waited online id v w p = shown_same online v w p.cyclics p.kept.size p.kept.removal
    (waiting_level (same_level Lock p.cyclic.timer.level) id v.lock w.lock p.goes.0)
    (waiting_level (same_level Low p.cyclic.timer.level) id v.low w.low p.goes.1)

marked : (online mark : Bool) (v w : CpuView Tables) → w ≡ record v { suspended = mark } → shown_cpu online w ≡ shown_cpu online v
marked online mark v w is = ap (shown_cpu online) is

same : (online : Bool) (v w : CpuView Tables) → w ≡ v → shown_cpu online w ≡ shown_cpu online v
same online v w is = ap (shown_cpu online) is

not_added : (online : Bool) (id : ℕ) (level : Level) (when : When) (now : ℕ) (e : Refusal) (v w : CpuView Tables)
    → CpuChanges raise_tables v (Add id level when now (Err e)) w → shown_cpu online w ≡ shown_cpu online v
not_added online id level when now BadNow v w d = same online v w d.2
not_added online id level when now e v w d = shown_looked online v w d.2

not_taken : (online : Bool) (id : ℕ) (e : Refusal) (v w : CpuView Tables)
    → WhyNotTaken raise_tables id v e w → shown_cpu online w ≡ shown_cpu online v
not_taken online id NoCyclic v w d = same online v w d.1
not_taken online id (Busy removed) v w d = same online v w d.2
not_taken online id Pending v w d = let (none, some, n, more, asks) = d in asked online id n v w asks
not_taken online id e v w d = absurd d

-- ---- no handler is called

widen_calls : (q n more : ℕ) (c : Cpu) → calls_of q (widen_here n more c).acts ≡ 0
widen_calls q n more c = pick (must_grow more c)
  where
    pick : (b : Bool) → calls_of q (cond b (switch_here n (bank_for (length c.cyclics + more)) c) (nothing_here c)).acts ≡ 0
    pick true = refl
    pick false = refl

enter_calls : (q n index : ℕ) (x : CyclicState) (c : Cpu) → calls_of q (enter_here n index x c).acts ≡ 0
enter_calls q n index x c =
    let whole = calls_append q (widen_here n 1 c).acts (place_here n index x (widen_here n 1 c).cpu).acts in
    let first = widen_calls q n 1 c in
    let rest = own_calls x.timer.level n q (Admit x.timer.id index) in
    omega (arith, whole, first, rest)

remove_calls : (q n id : ℕ) (c : Cpu) → calls_of q (then_here (mark_here n id c) (clear_here n id)).acts ≡ 0
remove_calls q n id c =
    let d = (mark_here n id c).cpu in
    let whole = calls_append q (mark_here n id c).acts (clear_here n id d).acts in
    let first = own_calls (handler_level_of id c) n q (Mark id) in
    let rest = own_calls (handler_level_of id d) n q (Clear id) in
    omega (arith, whole, first, rest)

take_calls : (q n id : ℕ) (c : Cpu) → calls_of q (take_here n id c).acts ≡ 0
take_calls q n id c =
    let d = (here (at_own n (handler_level_of id c) (Mark id)) c).cpu in
    let whole = calls_append q (at_own n (handler_level_of id c) (Mark id)) (at_own n (handler_level_of id d) (Clear id)) in
    let first = own_calls (handler_level_of id c) n q (Mark id) in
    let rest = own_calls (handler_level_of id d) n q (Clear id) in
    omega (arith, whole, first, rest)

quiet : {C : Type 0} (count : C → ℕ → ℕ) (t u : C) (q m : ℕ) → u ≡ t → m ≡ 0 → count u q ≡ count t q + m
quiet count t u q m is none = let e = ap (λ x. count x q) is in omega (arith, e, none)

-- a call that does nothing
nothing : {C : Type 0} (count : C → ℕ → ℕ) (t u : C) (q : ℕ) → u ≡ t → count u q ≡ count t q + 0
nothing count t u q is = quiet count t u q 0 is refl

-- ---- each call

pub is_here : {C : Type 0} (handler : Calls C) (n : ℕ) (online : Bool)
    (call : CpuCall) (s t : Running C Tables) → HasRisingCyclics s.cpu.cyclics → HasRisingCyclics t.cpu.cyclics
    → (IsStopped call → ⊥)
    → CpuDoes handler raise_tables (Interrupts handler) s call t → IsHere handler.count n online call s t
is_here handler n online (Fire now (Ok r)) s t rising rises goes (early, kept, expired, next, makes) =
    let f = fires_here (at_level handler.called High) handler.count n now r.lost online s.cpu t.cpu s.calls t.calls makes kept in
    record {
      index = 0;
      cpu = f.0;
      free = λ soft. none_admitted (fire_here n now (shown_cpu online s.cpu)).acts n soft
          (level_at soft (shown_cpu online s.cpu)) (fire_none n now (shown_cpu online s.cpu));
      called = f.1;
    }
is_here handler n online (Fire now (Err e)) s t rising rises goes does = absurd (goes tt)
is_here handler n online (SoftInterrupt level budget (Ok r)) s t rising rises goes (did, kept) =
    let (ran, long, serves, left) = did.served in
    let (most, exactly) = did.within in
    let f = serves_here (handler_at handler (as_level level)) level n budget r.calls r.idle online s.cpu t.cpu
    s.calls
    t.calls ran long serves left most exactly kept in
    record {
      index = 0;
      cpu = f.0;
      free = λ soft. none_admitted (serve_here n level budget (shown_cpu online s.cpu)).acts n soft
          (level_at soft (shown_cpu online s.cpu)) (interrupt_none n level budget (shown_cpu online s.cpu));
      called = f.1;
    }
is_here handler n online (SoftInterrupt level budget (Err e)) s t rising rises goes does = absurd (goes tt)
is_here handler n online (Add id level series now (Ok done)) s t rising rises goes ((absent, early, adds), calls) = record {
  index = adds.enters.index;
  cpu = added n id now online level series s.cpu t.cpu adds rises;
  free = λ soft. add_free n id now online level series soft s.cpu t.cpu adds;
  called = λ q. quiet handler.count s.calls t.calls q _ calls
      (enter_calls q n adds.enters.index (begun_cyclic id level series.start series.interval now) (shown_cpu online s.cpu));
}
is_here handler n online (Add id level series now (Err e)) s t rising rises goes (d, calls) = record {
  index = 0;
  cpu = not_added online id level series now e s.cpu t.cpu d;
  free = λ soft. tt;
  called = λ q. nothing handler.count s.calls t.calls q calls;
}
is_here handler n online (Place id level interval moment carried) s t rising rises goes ((may, places), calls) =
    record {
      index = places.index;
      cpu = placed n online _ s.cpu t.cpu places rises;
      free = λ soft. place_free n online _ soft s.cpu t.cpu places;
      called = λ q. quiet handler.count s.calls t.calls q _ calls (own_calls level n q (Admit id places.index));
    }
is_here handler n online (Reprogram id moment (Ok done)) s t rising rises goes ((k, x, is, named, still, e), calls) = record {
  index = 0;
  cpu = reprogrammed n id moment k online x s.cpu t.cpu rising is named e;
  free = λ soft. tt;
  called = λ q. nothing handler.count s.calls t.calls q calls;
}
is_here handler n online (Reprogram id moment (Err e)) s t rising rises goes (d, calls) = record {
  index = 0;
  cpu = same online s.cpu t.cpu d.2;
  free = λ soft. tt;
  called = λ q. nothing handler.count s.calls t.calls q calls;
}
is_here handler n online (AskPending id (Some m)) s t rising rises goes (d, calls) = record {
  index = 0;
  cpu = asked online id m s.cpu t.cpu d.0;
  free = λ soft. tt;
  called = λ q. nothing handler.count s.calls t.calls q calls;
}
is_here handler n online (AskPending id None) s t rising rises goes (d, calls) = record {
  index = 0;
  cpu = same online s.cpu t.cpu d.1;
  free = λ soft. tt;
  called = λ q. nothing handler.count s.calls t.calls q calls;
}
is_here handler n online (AskTotals id (Some totals)) s t rising rises goes (d, calls) = record {
  index = 0;
  cpu = asked online id totals.pending s.cpu t.cpu d.0;
  free = λ soft. tt;
  called = λ q. nothing handler.count s.calls t.calls q calls;
}
is_here handler n online (AskTotals id None) s t rising rises goes (d, calls) = record {
  index = 0;
  cpu = same online s.cpu t.cpu d.1;
  free = λ soft. tt;
  called = λ q. nothing handler.count s.calls t.calls q calls;
}
is_here handler n online (AskRoom more (Ok done)) s t rising rises goes (d, calls) = record {
  index = 0;
  cpu = shown_looked online s.cpu t.cpu d.0;
  free = λ soft. tt;
  called = λ q. nothing handler.count s.calls t.calls q calls;
}
is_here handler n online (AskRoom more (Err e)) s t rising rises goes (d, calls) = record {
  index = 0;
  cpu = shown_looked online s.cpu t.cpu d.0;
  free = λ soft. tt;
  called = λ q. nothing handler.count s.calls t.calls q calls;
}
is_here handler n online (Reserve more (Ok done)) s t rising rises goes (d, calls) = record {
  index = 0;
  cpu = shown_reserved online more s.cpu t.cpu d.0;
  free = λ soft. tt;
  called = λ q. nothing handler.count s.calls t.calls q calls;
}
is_here handler n online (Reserve more (Err e)) s t rising rises goes (d, calls) = record {
  index = 0;
  cpu = shown_looked online s.cpu t.cpu d.0;
  free = λ soft. tt;
  called = λ q. nothing handler.count s.calls t.calls q calls;
}
is_here handler n online (Widen more) s t rising rises goes (d, calls) = record {
  index = 0;
  cpu = widened n more online s.cpu t.cpu d.1;
  free = λ soft. none_admitted (widen_here n more (shown_cpu online s.cpu)).acts n soft (level_at soft (shown_cpu online s.cpu))
      (widen_none n more (shown_cpu online s.cpu));
  called = λ q. quiet handler.count s.calls t.calls q _ calls (widen_calls q n more (shown_cpu online s.cpu));
}
is_here handler n online (BeginRemove id (Ok (Done receipt))) s t rising rises goes
    ((still, (x, counts, receipt_is, polled, leaves)), calls) = record {
      index = 0;
      cpu = ended n id online counts x s.cpu t.cpu rising leaves;
      free = λ soft. none_admitted (then_here (mark_here n id (shown_cpu online s.cpu)) (clear_here n id)).acts n soft
          (level_at soft (shown_cpu online s.cpu)) (remove_none n id (shown_cpu online s.cpu));
      called = λ q. quiet handler.count s.calls t.calls q _ calls (remove_calls q n id (shown_cpu online s.cpu));
    }
is_here handler n online (BeginRemove id (Ok (Kept kept))) s t rising rises goes ((still, opens), calls) =
    record {
      index = 0;
      cpu = opened n id kept online s.cpu t.cpu rising opens;
      free = λ soft. none_admitted (mark_here n id (shown_cpu online s.cpu)).acts n soft (level_at soft (shown_cpu online s.cpu))
          (mark_none n id (shown_cpu online s.cpu));
      called = λ q. quiet handler.count s.calls t.calls q _ calls
          (own_calls (handler_level_of id (shown_cpu online s.cpu)) n q (Mark id));
    }
is_here handler n online (BeginRemove id (Err e)) s t rising rises goes (d, calls) = record {
  index = 0;
  cpu = same online s.cpu t.cpu d.1;
  free = λ soft. tt;
  called = λ q. nothing handler.count s.calls t.calls q calls;
}
is_here handler n online (PollRemove (Some receipt)) s t rising rises goes (ends, calls) = record {
  index = 0;
  cpu = cleared n receipt.id online ends.counts ends.cyclic s.cpu t.cpu rising ends.leaves;
  free = λ soft. none_admitted (clear_here n receipt.id (shown_cpu online s.cpu)).acts n soft
      (level_at soft (shown_cpu online s.cpu)) (clear_none n receipt.id (shown_cpu online s.cpu));
  called = λ q. quiet handler.count s.calls t.calls q _ calls
      (own_calls (handler_level_of receipt.id (shown_cpu online s.cpu)) n q (Clear receipt.id));
}
is_here handler n online (PollRemove None) s t rising rises goes (inl none, calls) = record {
  index = 0;
  cpu = same online s.cpu t.cpu none.1;
  free = λ soft. tt;
  called = λ q. nothing handler.count s.calls t.calls q calls;
}
is_here handler n online (PollRemove None) s t rising rises goes (inr (id, is_open, waits), calls) = record {
  index = 0;
  cpu = waited online id s.cpu t.cpu waits;
  free = λ soft. tt;
  called = λ q. nothing handler.count s.calls t.calls q calls;
}
is_here handler n online (TakeNow id (Ok got)) s t rising rises goes
    ((still, (x, counts, taken_is, polled, leaves)), calls) = record {
      index = 0;
      cpu = taken n id online counts x s.cpu t.cpu rising still leaves;
      free = λ soft. none_admitted (take_here n id (shown_cpu online s.cpu)).acts n soft (level_at soft (shown_cpu online s.cpu))
          (take_none n id (shown_cpu online s.cpu));
      called = λ q. quiet handler.count s.calls t.calls q _ calls (take_calls q n id (shown_cpu online s.cpu));
    }
is_here handler n online (TakeNow id (Err e)) s t rising rises goes (d, calls) = record {
  index = 0;
  cpu = not_taken online id e s.cpu t.cpu d;
  free = λ soft. tt;
  called = λ q. nothing handler.count s.calls t.calls q calls;
}
is_here handler n online (AskSettled true) s t rising rises goes (d, calls) = record {
  index = 0;
  cpu = inquired online s.cpu t.cpu d.0;
  free = λ soft. tt;
  called = λ q. nothing handler.count s.calls t.calls q calls;
}
is_here handler n online (AskSettled false) s t rising rises goes (d, calls) = record {
  index = 0;
  cpu = inquired online s.cpu t.cpu d.0;
  free = λ soft. tt;
  called = λ q. nothing handler.count s.calls t.calls q calls;
}
is_here handler n online Suspend s t rising rises goes (d, calls) = record {
  index = 0;
  cpu = marked online true s.cpu t.cpu d;
  free = λ soft. tt;
  called = λ q. nothing handler.count s.calls t.calls q calls;
}
is_here handler n online Resume s t rising rises goes (d, calls) = record {
  index = 0;
  cpu = marked online false s.cpu t.cpu d;
  free = λ soft. tt;
  called = λ q. nothing handler.count s.calls t.calls q calls;
}
