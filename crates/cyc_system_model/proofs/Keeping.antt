-- What every call keeps of a system: what the laws here ask of one, each CPU's bound on expirations, and its memory.
use Rattle.std.proofs.Common.{◌≡◌, ℕ, ◌+◌, ◌≤◌, inl, inr, Bool, true, false, cond, List, [], ◌∷◌, ◌++◌, length, map, Option, Some}
use Rattle.std.proofs.Common.{None, option_map, refl, ap, sym, ◌∙◌, subst, arith}
use Rattle.std.specs.Prelude.{slice_set, remove, Result, Ok, Err}
use Rattle.std.specs.List.{slice_get, FoldsTo}
use Rattle.std.proofs.lemmas.Option.{slice_get_within, slice_get-map}
use Rattle.std.proofs.lemmas.List.{length-set}
use mathlib.Core.Logic.{dite}
use native.Mathlib.Decide.{ℕ_discrete}
use Rattle.cyc_types.specs.declared.Calls.{Ghosts as Calls}
use Rattle.cyc_types.specs.Series.{first}
use Rattle.cyc_types.specs.declared.firing.Sent.{Sent}
use Rattle.cyc_types.specs.declared.level.Level.{Level}
use Rattle.cyc_types.specs.declared.receipt.Receipt.{Receipt}
use Rattle.cyc_types.specs.declared.refusal.JuggleReport.{JuggleReport}
use Rattle.cyc_types.specs.declared.refusal.Refusal.{Refusal}
use Rattle.cyc_types.specs.Counting.{no_counts}
use Rattle.cyc_core.specs.Tables.{Tables}
use Rattle.cyc_cpu.specs.declared.removing.Removal.{Removal}
use Rattle.cyc_cpu.specs.declared.removing.Removal.TheVariants as on_cpu
use Rattle.cyc_cpu.specs.Cpu.{CpuView, Running, SameCpu, running}
use Rattle.cyc_cpu.specs.Soft.{raise_tables, Interrupts}
use Rattle.cyc_cpu.specs.Calls.{CpuCall, Fire, AskPending, AskRoom, Reserve, Reprogram as Reprogrammed, TakeNow, Widen}
use Rattle.cyc_cpu.specs.Calls.{SoftInterrupt as CpuSoftInterrupt, CpuDoes as CpuDoes}
use Rattle.cyc_cpu.specs.Calls as cpu
use Rattle.cyc_cpu.proofs.Calling.{changes_most, fire_keeps}
use Rattle.cyc_places.specs.declared.record.Placement.{Placement as RecordPlacement}
use Rattle.cyc_places.specs.declared.record.Placement.TheVariants as placements
use Rattle.cyc_places.specs.declared.record.Record.{Record}
use Rattle.cyc_places.specs.Places.{IsRecord, HasRisingIds, with_placement, with_ended, ended_on, summed, new_record}
use Rattle.cyc_system.specs.Cpus.{CpusView, CallOn, Works, DoesAt, RunsAt, with_cpu, on, online_cpus, running_cpus}
use Rattle.cyc_system.specs.Shifting.{moving}
use Rattle.cyc_system.specs.Reserving.{rooms, reserves, ReservesEach}
use Rattle.cyc_system.proofs.CpusSpots.{get_set_same, get_set_other, cpu_beside}
use Rattle.cyc_system.specs.System.{SystemView, RunningSystem, ids_on}
use Rattle.cyc_system.specs.Agreement.{Agrees, most_on}
use Rattle.cyc_system.proofs.Spots.{same_some, none_some}
use Rattle.cyc_system.specs.Adding.{OnlyWorks, entering}
use Rattle.cyc_system.specs.Shifting.{move_of}
use Rattle.cyc_system.specs.Binding.{GoesTo, Records}
use Rattle.cyc_system.specs.Removing.{counts_of_receipt, BeginsOn, Begun, AnswersRemoval}
use Rattle.cyc_system.specs.SystemRemoval.TheVariants as system
use Rattle.cyc_system.specs.Polling.{PollsOn, Polled}
use Rattle.cyc_system.specs.Counting.{asked}
use Rattle.cyc_system.specs.declared.turning.Turn.{Turn}
use Rattle.cyc_system.specs.declared.turning.Turn.TheVariants as turn
use Rattle.cyc_system.specs.Juggling.{TakesTurn, Turns, single_ids}
use Rattle.cyc_system.specs.GoingOffline.{quiet, Retires, offline_at, EndsOffline}
use Rattle.cyc_system.specs.Omni.{entering_each}
use Rattle.cyc_system.specs.Online.{GoesOnline, staying, is_staying, returns, after_return, switched_on}
use Rattle.cyc_system.specs.Calls.{SystemCall, Add, AddOmni, Bind, BeginRemove, PollRemove, AskTotals, Reprogram, ReprogramOn}
use Rattle.cyc_system.specs.Calls.{Juggle, Offline, Online, FireOne, SoftInterrupt, Suspend, Resume, Changes, Does}
use Rattle.cyc_agreement.specs.Suspending.{on_each}
use Rattle.cyc_system_model.proofs.Stopping.{tied_always}
use Rattle.cyc_system_model.specs.Shown.{IsSystem}
use Rattle.cyc_system_model.specs.Room.{HaveRoomFor}
use Rattle.cyc_system_model.proofs.Rooms.{room_same, room_set, room_did}
use Rattle.cyc_system_model.proofs.Cpus.{at_same, done_at}
use Rattle.cyc_system_model.proofs.Half.{Half, IsFull, half, whole, half_same, half_parts, half_cpus, half_done, half_put}
use Rattle.cyc_system_model.proofs.Half.{half_more, half_gone, ended_full, taken_full, as_low}

abbrev SameMost : CpusView Tables → CpusView Tables → Type 0
SameMost v w = (n : ℕ) → most_on n w ≡ most_on n v

pub record Kept (v w : SystemView Tables) : Type 0 where
  pub half : Half w
  most : SameMost v.cpus w.cpus
  pub room : (wanted : ℕ) → HaveRoomFor wanted v.cpus → HaveRoomFor wanted w.cpus

kept_same : (v w : SystemView Tables) → Half v → w ≡ v → Kept v w
kept_same v w h same = record {
  half = half_same v w h same;
  most = λ n. ap (λ (x : SystemView Tables). most_on n x.cpus) same;
  room = λ wanted all. subst (λ (x : SystemView Tables). HaveRoomFor wanted x.cpus) (sym same) all;
}

kept_then : (v u w : SystemView Tables) → Kept v u → Kept u w → Kept v w
kept_then v u w a b = record {
  half = b.half;
  most = λ n. b.most n ∙ a.most n;
  room = λ wanted all. b.room wanted (a.room wanted all);
}

kept_parts : (v u w : SystemView Tables) → Kept v u → w.cpus ≡ u.cpus → w.records ≡ u.records → w.last ≡ u.last → Kept v w
kept_parts v u w k cpus records last = record {
  half = half_parts u w k.half cpus records last;
  most = λ n. ap (most_on n) cpus ∙ k.most n;
  room = λ wanted all. subst (HaveRoomFor wanted) (sym cpus) (k.room wanted all);
}

-- ---- calls on its CPUs

most_set : (n m : ℕ) (x y : CpuView Tables) (v w : CpusView Tables) → slice_get v.cpus n ≡ Some x → w ≡ with_cpu v n y
    → y.most ≡ x.most → most_on m w ≡ most_on m v
most_set n m x y v w here rest same = ap (most_on m) rest ∙ dite (ℕ_discrete m n) there
    (λ ne. ap (option_map (λ (c : CpuView Tables). c.most)) (get_set_other v.cpus n m y ne))
  where
    own : option_map (λ (c : CpuView Tables). c.most) (slice_get (slice_set v.cpus n y) n)
        ≡ option_map (λ (c : CpuView Tables). c.most) (slice_get v.cpus n)
    own = ap (option_map (λ (c : CpuView Tables). c.most)) (get_set_same v.cpus n y (slice_get_within v.cpus n x here))
        ∙ ap Some same
        ∙ ap (option_map (λ (c : CpuView Tables). c.most)) (sym here)

    there : m ≡ n → most_on m (with_cpu v n y) ≡ most_on m v
    there e = subst (λ k. most_on k (with_cpu v n y) ≡ most_on k v) (sym e) own

kept_did : (c : CallOn) (v : SystemView Tables) (u : CpusView Tables) → Half v → DoesAt raise_tables v.cpus c u
    → Kept v (record v { cpus = u })
kept_did c v u h did = record {
  half = half_done c.cpu c.call v u h (done_at c.cpu c.call v.cpus u h.long h.tied did);
  most = λ m. most_set c.cpu m did.before did.after v.cpus u did.here did.rest
      (changes_most raise_tables did.before did.after c.call did.change);
  room = λ wanted. room_did wanted c v.cpus u did;
}

kept_works : (way : List CallOn) (v : SystemView Tables) (u : CpusView Tables) → Half v → Works raise_tables way v.cpus u
    → Kept v (record v { cpus = u })
kept_works [] v u h same = kept_same v (record v { cpus = u }) h (λ z. record v { cpus = sym same z })
kept_works (c ∷ way) v u h (x, did, rest) =
    let one = kept_did c v x h did in
    kept_then v (record v { cpus = x }) (record v { cpus = u }) one (kept_works way (record v { cpus = x }) u one.half rest)

pub kept_only : (way : List CallOn) (v w : SystemView Tables) → Half v → OnlyWorks raise_tables way v w → Kept v w
kept_only way v w h (works, records, last) =
    kept_parts v (record v { cpus = w.cpus }) w (kept_works way v w.cpus h works) refl records last

-- ---- its records

kept_put : (v : SystemView Tables) (k : ℕ) (r x : Record) → Half v → IsRecord v.records k r → x.id ≡ r.id
    → IsFull (length v.cpus.cpus) x
    → Kept v (record v { records = slice_set v.records k x })
kept_put v k r x h is same new = record { half = half_put v k r x h is same new; most = λ n. refl; room = λ wanted all. all }

kept_placed : (id : ℕ) (p : RecordPlacement) (v u w : SystemView Tables) → Kept v u → w.cpus ≡ u.cpus → Records id p u w
    → Kept v w
kept_placed id p v u w h cpus (k, r, is, named, records, last) =
    kept_parts v (record u { records = slice_set u.records k (with_placement p r) }) w
    (kept_then v u (record u { records = slice_set u.records k (with_placement p r) }) h
    (kept_put u k r (with_placement p r) h.half is refl (h.half.full k r is))) cpus records last

-- a stay that ended on a CPU
pub kept_ended : (n : ℕ) (call : CpuCall) (counts : Sent) (k : ℕ) (r : Record) (v w : SystemView Tables) → Half v
    → DoesAt raise_tables v.cpus (on n call) w.cpus
    → IsRecord v.records k r → w.records ≡ slice_set v.records k (with_ended n (summed (ended_on n r) counts) r) → w.last ≡ v.last
    → Kept v w
kept_ended n call counts k r v w h did is records last =
    let one = kept_did (on n call) v w.cpus h did in
    let new = with_ended n (summed (ended_on n r) counts) r in
    let low = slice_get_within v.cpus.cpus n did.before did.here in
    let many = as_low n call v w.cpus h did in
    let full : IsFull (length w.cpus.cpus) new = ended_full n (length w.cpus.cpus) (summed (ended_on n r) counts) r
    (omega (arith, low, many)) (subst (λ c. IsFull c r) (sym many) (h.full k r is)) in
    kept_parts v (record v { cpus = w.cpus; records = slice_set v.records k new }) w
    (kept_then v (record v { cpus = w.cpus }) (record v { cpus = w.cpus; records = slice_set v.records k new }) one
    (kept_put (record v { cpus = w.cpus }) k r new one.half is refl full)) refl records last

-- ---- adding

kept_each : (answer : Result (Unit {0}) Refusal) (v : SystemView Tables) (u : CpusView Tables) → Half v
    → ReservesEach raise_tables 1 answer v.cpus u → Kept v (record v { cpus = u })
kept_each (Ok done) v u h (x, asked_all, taken) =
    let one = kept_works (rooms 1 (online_cpus v.cpus)) v x h asked_all in
    kept_then v (record v { cpus = x }) (record v { cpus = u }) one
    (kept_works (reserves 1 (online_cpus v.cpus)) (record v { cpus = x }) u one.half taken)
kept_each (Err e) v u h (inl (before, n, stands, works)) =
    kept_works (rooms 1 before ++ on n (AskRoom 1 (Err e)) ∷ []) v u h works
kept_each (Err e) v u h (inr (x, asked_all, (memory, before, n, stands, works))) =
    let one = kept_works (rooms 1 (online_cpus v.cpus)) v x h asked_all in
    kept_then v (record v { cpus = x }) (record v { cpus = u }) one
    (kept_works (reserves 1 before ++ on n (Reserve 1 (Err e)) ∷ []) (record v { cpus = x }) u one.half works)

kept_more : (v u w : SystemView Tables) (id : ℕ) (level : Level) (p : RecordPlacement) → Kept v u → u.records ≡ v.records
    → u.last ≡ v.last → id ≡ v.last + 1
    → w.cpus ≡ u.cpus → w.records ≡ v.records ++ new_record id level p ∷ [] → w.last ≡ id → Kept v w
kept_more v u w id level p k same kept_last named cpus records last = record {
  half = half_parts _ w (half_more u id level p k.half (named ∙ ap (λ n. n + 1) (sym kept_last))) cpus
      (records ∙ ap (λ rs. rs ++ new_record id level p ∷ []) (sym same)) last;
  most = λ n. ap (most_on n) cpus ∙ k.most n;
  room = λ wanted all. subst (HaveRoomFor wanted) (sym cpus) (k.room wanted all);
}

-- ---- moves

kept_goes : (id home target : ℕ) (answer : Result (Unit {0}) Refusal) (v : SystemView Tables) (w : CpusView Tables) → Half v
    → GoesTo raise_tables (move_of id home target) answer v.cpus w → Kept v (record v { cpus = w })
kept_goes id home target answer v w h (inl (e, ok, same)) =
    kept_same v (record v { cpus = w }) h (λ z. record v { cpus = same z })
kept_goes id home target (Ok done) v w h (inr (ne, (taken, works))) = kept_works (moving id home target taken) v w h works
kept_goes id home target (Err e) v w h (inr (ne, inl (removed, open_there, why_is, same))) =
    kept_same v (record v { cpus = w }) h (λ z. record v { cpus = same z })
kept_goes id home target (Err e) v w h (inr (ne, inr (inl (still, n, some, why_is, works)))) =
    kept_works (on home (AskPending id (Some n)) ∷ []) v w h works
kept_goes id home target (Err e) v w h (inr (ne, inr (inr (still, works)))) =
    kept_works (on home (AskPending id (Some 0)) ∷ on target (Reserve 1 (Err e)) ∷ []) v w h works

pub kept_turn : (source id : ℕ) (t : Turn) (v w : SystemView Tables) → Half v → TakesTurn raise_tables source id t v w → Kept v w
kept_turn source id turn.StaysBound v w h (at, same) = kept_same v w h same
kept_turn source id turn.StaysPending v w h (at, n, some, only) = kept_only (on source (AskPending id (Some n)) ∷ []) v w h only
kept_turn source id turn.StaysRefused v w h (at, d, dest, e, only) =
    kept_only (on source (AskPending id (Some 0)) ∷ on d (Reserve 1 (Err e)) ∷ []) v w h only
kept_turn source id turn.Moves v w h (at, d, dest, (taken, works), records) =
    kept_placed id (placements.On d false) v (record v { cpus = w.cpus }) w
    (kept_works (moving id source d taken) v w.cpus h works) refl records

pub kept_turns : (source : ℕ) (ids : List ℕ) (report : JuggleReport) (v w : SystemView Tables) → Half v
    → Turns raise_tables source ids report v w → Kept v w
kept_turns source [] report v w h (is, same) = kept_same v w h same
kept_turns source (id ∷ ids) report v w h (t, u, rest, takes, counted, more) =
    let one = kept_turn source id t v u h takes in
    kept_then v u w one (kept_turns source ids rest u w one.half more)

pub kept_retires : (n : ℕ) (ids : List ℕ) (v w : SystemView Tables) → Half v → FoldsTo (Retires raise_tables n) v ids w → Kept v w
kept_retires n [] v w h same = kept_same v w h (sym same)
kept_retires n (id ∷ ids) v w h (u, (taken, did, k, r, is, named, records, last), rest) =
    let one = kept_ended n (TakeNow id (Ok taken)) taken.sent k r v u h did is records last in
    kept_then v u w one (kept_retires n ids u w one.half rest)

-- which CPUs are online
pub kept_switched : (n : ℕ) (b : Bool) (v : SystemView Tables) → Half v
    → Kept v (record v { cpus = record v.cpus { online = slice_set v.cpus.online n b } })
kept_switched n b v h = record {
  half = record {
    long = length-set v.cpus.online n b ∙ h.long;
    few = h.few;
    tied = h.tied;
    rising = h.rising;
    full = h.full;
    given = h.given;
  };
  most = λ m. refl;
  room = λ wanted all. all;
}

kept_leaves : (n : ℕ) (report : JuggleReport) (answer : Result (Unit {0}) Refusal) (v w : SystemView Tables) → Half v
    → EndsOffline raise_tables n report answer v w → Kept v w
kept_leaves n report answer v w h (inl (left, is, same)) = kept_same v w h same
kept_leaves n report answer v w h (inr (inl (none, is, (before, id, stands, found, some, only)))) =
    kept_only (quiet n before ++ on n (AskPending id (Some found)) ∷ []) v w h only
kept_leaves n report answer v w h (inr (inr (none, is, (a, only, empty, retires, same)))) =
    let one = kept_only (quiet n (ids_on n v.cpus)) v a h only in
    let two = kept_retires n (ids_on n v.cpus) a empty one.half retires in
    let all = kept_then v a empty one two in
    kept_then v empty w all (kept_then empty (offline_at n empty) w (kept_switched n false empty all.half)
    (kept_same (offline_at n empty) w (kept_switched n false empty all.half).half same))

-- ---- removals

kept_begins : (id : ℕ) (way : List Begun) (v w : SystemView Tables) → Half v
    → FoldsTo (λ u b x. BeginsOn raise_tables id b.cpu b.found u x) v way w → Kept v w
kept_begins id [] v w h same = kept_same v w h (sym same)
kept_begins id (b ∷ way) v w h (u, did, rest) =
    let one = by b.found did in
    kept_then v u w one (kept_begins id way u w one.half rest)
  where
    by : (found : Removal) → BeginsOn raise_tables id b.cpu found v u → Kept v u
    by (on_cpu.Done receipt) (did, k, r, is, named, records, last) =
        kept_ended b.cpu (cpu.BeginRemove id (Ok (on_cpu.Done receipt))) (counts_of_receipt receipt) k r v u h did is records last
    by (on_cpu.Kept left) (did, records, last) =
        kept_parts v (record v { cpus = u.cpus }) u
        (kept_did (on b.cpu (cpu.BeginRemove id (Ok (on_cpu.Kept left)))) v u.cpus h did) refl records last

kept_polls : (id : ℕ) (way : List Polled) (v w : SystemView Tables) → Half v
    → FoldsTo (λ u p x. PollsOn raise_tables id p.cpu p.answer u x) v way w → Kept v w
kept_polls id [] v w h same = kept_same v w h (sym same)
kept_polls id (p ∷ way) v w h (u, did, rest) =
    let one = by p.answer did in
    kept_then v u w one (kept_polls id way u w one.half rest)
  where
    by : (answer : Option Receipt) → PollsOn raise_tables id p.cpu answer v u → Kept v u
    by (Some receipt) (did, k, r, is, named, records, last) =
        kept_ended p.cpu (cpu.PollRemove (Some receipt)) (counts_of_receipt receipt) k r v u h did is records last
    by None (did, records, last) =
        kept_parts v (record v { cpus = u.cpus }) u (kept_did (on p.cpu (cpu.PollRemove None)) v u.cpus h did) refl records last

kept_answers : (id : ℕ) (receipt : Receipt) (v u w : SystemView Tables) → Kept v u → AnswersRemoval id receipt u w → Kept v w
kept_answers id receipt v u w k a = record {
  half = half_parts (record u { records = remove u.records a.position }) w (half_gone u a.position k.half) a.cpus a.records
      a.last;
  most = λ n. ap (most_on n) a.cpus ∙ k.most n;
  room = λ wanted all. subst (HaveRoomFor wanted) (sym a.cpus) (k.room wanted all);
}

-- ---- a CPU that takes part again

same_ids : (f : Record → Record) → ((r : Record) → (f r).id ≡ r.id) → (rs : List Record) → HasRisingIds rs
    → HasRisingIds (map f rs)
same_ids f same rs rising i j a b less at_i at_j =
    let (c, there, is) = back i a at_i in
    let (d, here, e) = back j b at_j in
    let low = rising i j c d less there here in
    let x = same c in
    let y = same d in
    omega (arith, low, x, y, is, e)
  where
    of_map : (o : Option Record) (a : Record) → option_map f o ≡ Some a → (c : Record) × (o ≡ Some c) × (a.id ≡ (f c).id)
    of_map None a is = absurd (none_some is)
    of_map (Some c) a is = (c, refl, ap (λ (r : Record). r.id) (sym (same_some is)))

    back : (i : ℕ) (a : Record) → IsRecord (map f rs) i a → (c : Record) × IsRecord rs i c × (a.id ≡ (f c).id)
    back i a at = of_map (slice_get rs i) a (sym (slice_get-map f rs i) ∙ at)

half_mapped : (f : Record → Record) → ((r : Record) → (f r).id ≡ r.id) → (v : SystemView Tables) → Half v
    → ((r : Record) → IsFull (length v.cpus.cpus) r → IsFull (length v.cpus.cpus) (f r))
    → Half (record v { records = map f v.records })
half_mapped f same v h keeps = record {
  long = h.long;
  few = h.few;
  tied = h.tied;
  rising = same_ids f same v.records h.rising;
  full = λ k a at. full_of k a (slice_get v.records k) refl (sym (slice_get-map f v.records k) ∙ at);
  given = λ k a at. given_of k a (slice_get v.records k) refl (sym (slice_get-map f v.records k) ∙ at);
}
  where
    full_of : (k : ℕ) (a : Record) (o : Option Record) → slice_get v.records k ≡ o → option_map f o ≡ Some a
        → IsFull (length v.cpus.cpus) a
    full_of k a None at is = absurd (none_some is)
    full_of k a (Some c) at is = subst (IsFull (length v.cpus.cpus)) (same_some is) (keeps c (h.full k c at))

    given_of : (k : ℕ) (a : Record) (o : Option Record) → slice_get v.records k ≡ o → option_map f o ≡ Some a → a.id ≤ v.last
    given_of k a None at is = absurd (none_some is)
    given_of k a (Some c) at is =
        let low = h.given k c at in
        let x = same c in
        let y = ap (λ (r : Record). r.id) (same_some is) in
        omega (arith, low, x, y)

returned_id : (n : ℕ) (v : CpusView Tables) (r : Record) → (after_return n v r).id ≡ r.id
returned_id n v r = by (is_staying v r)
  where
    by : (b : Bool) → (cond b (with_ended n no_counts r) r).id ≡ r.id
    by true = refl
    by false = refl

returned_full : (n cpus : ℕ) (v : CpusView Tables) (r : Record) → IsFull cpus r → IsFull cpus (after_return n v r)
returned_full n cpus v r full = by (is_staying v r)
  where
    by : (b : Bool) → IsFull cpus (cond b (with_ended n no_counts r) r)
    by true = taken_full n cpus r full
    by false = full

kept_online : (n now : ℕ) (answer : Result (Unit {0}) Refusal) (v w : SystemView Tables) → Half v
    → GoesOnline raise_tables n now answer v w → Kept v w
kept_online n now (Err e) v w h (why_not, only) = kept_only (on n (Reserve (length (staying v)) (Err e)) ∷ []) v w h only
kept_online n now (Ok done) v w h ((u, works, cpus), records, last) =
    let way = on n (Reserve (length (staying v)) (Ok tt)) ∷ on n (Widen (length (staying v))) ∷ returns n now (staying v) in
    let one = kept_works way v u h works in
    let two = kept_switched n true (record v { cpus = u }) one.half in
    let both = kept_then v (record v { cpus = u }) (record v { cpus = switched_on n u }) one two in
    record {
      half = half_parts (record v { cpus = switched_on n u; records = map (after_return n v.cpus) v.records }) w
          (half_mapped (after_return n v.cpus) (returned_id n v.cpus) (record v { cpus = switched_on n u }) both.half
          (λ r full. returned_full n (length u.cpus) v.cpus r full)) cpus records last;
      most = λ m. ap (most_on m) cpus ∙ both.most m;
      room = λ wanted all. subst (HaveRoomFor wanted) (sym cpus) (both.room wanted all);
    }

-- ---- each call

changes_keep : (call : SystemCall) (v w : SystemView Tables) → Half v → Changes raise_tables v call w → Kept v w
changes_keep (Add level series now answer) v w h (inl (e, some, said, same)) = kept_same v w h same
changes_keep (Add level series now (Ok id)) v w h (inr (none, (d, dest, named, works, records, last))) =
    let way = on d (Reserve 1 (Ok tt)) ∷ entering d id level series.interval (first series.start series.interval now) in
    kept_more v (record v { cpus = w.cpus }) w id level (placements.On d false)
    (kept_works way v w.cpus h works) refl refl named refl records last
changes_keep (Add level series now (Err e)) v w h (inr (none, (d, dest, inl only))) =
    kept_only (on d (Reserve 1 (Err e)) ∷ []) v w h only
changes_keep (Add level series now (Err e)) v w h (inr (none, (d, dest, inr (memory, only)))) =
    kept_only (on d (Reserve 1 (Ok tt)) ∷ []) v w h only
changes_keep (AddOmni level series skew now answer) v w h (inl (e, some, said, same)) = kept_same v w h same
changes_keep (AddOmni level series skew now (Ok id)) v w h (inr (none, (named, (u, reserved, works), records, last))) =
    let one = kept_each (Ok tt) v u h reserved in
    let two = kept_works (entering_each (online_cpus v.cpus) id level series skew now)
    (record v { cpus = u }) w.cpus one.half works in
    kept_more v (record v { cpus = w.cpus }) w id level (placements.Everywhere series skew)
    (kept_then v (record v { cpus = u }) (record v { cpus = w.cpus }) one two) refl refl named refl records last
changes_keep (AddOmni level series skew now (Err e)) v w h (inr (none, (inl each, records, last))) =
    kept_parts v (record v { cpus = w.cpus }) w (kept_each (Err e) v w.cpus h each) refl records last
changes_keep (AddOmni level series skew now (Err e)) v w h (inr (none, (inr (memory, each), records, last))) =
    kept_parts v (record v { cpus = w.cpus }) w (kept_each (Ok tt) v w.cpus h each) refl records last
changes_keep (Bind id None answer) v w h (inl (e, some, said, same)) = kept_same v w h same
changes_keep (Bind id None answer) v w h (inr (none, (ok, n, home, cpus, records))) =
    kept_placed id _ v v w (kept_same v v h refl) cpus records
changes_keep (Bind id (Some n) answer) v w h (inl (e, some, said, same)) = kept_same v w h same
changes_keep (Bind id (Some n) (Ok done)) v w h (inr (none, (home, at, goes, records))) =
    kept_placed id (placements.On n true) v (record v { cpus = w.cpus }) w (kept_goes id home n (Ok tt) v w.cpus h goes) refl
    records
changes_keep (Bind id (Some n) (Err e)) v w h (inr (none, (home, at, goes, records, last))) =
    kept_parts v (record v { cpus = w.cpus }) w (kept_goes id home n (Err e) v w.cpus h goes) refl records last
changes_keep (BeginRemove id answer) v w h (inl (e, some, said, same)) = kept_same v w h same
changes_keep (BeginRemove id (Ok (system.Done receipt))) v w h (inr (none, (way, u, ns, each, answers))) =
    kept_answers id receipt v u w (kept_begins id way v u h each) answers
changes_keep (BeginRemove id (Ok (system.Kept left))) v w h (inr (none, (way, ns, each, some, sum))) =
    kept_begins id way v w h each
changes_keep (BeginRemove id (Err e)) v w h (inr (none, did)) = absurd did
changes_keep (PollRemove id answer) v w h (inl (e, some, said, same)) = kept_same v w h same
changes_keep (PollRemove id (Ok (Some receipt))) v w h (inr (none, (way, u, ns, each, answers))) =
    kept_answers id receipt v u w (kept_polls id way v u h each) answers
changes_keep (PollRemove id (Ok None)) v w h (inr (none, (way, ns, each, some))) = kept_polls id way v w h each
changes_keep (PollRemove id (Err e)) v w h (inr (none, did)) = absurd did
changes_keep (AskTotals id (Some totals)) v w h (way, r, is, ns, only, adds) = kept_only (map (asked id) way) v w h only
changes_keep (AskTotals id None) v w h (none, same) = kept_same v w h same
changes_keep (Reprogram id moment answer) v w h (inl (e, some, said, same)) = kept_same v w h same
changes_keep (Reprogram id moment answer) v w h (inr (none, (n, home, (ok, only)))) =
    kept_only (on n (Reprogrammed id moment (Ok tt)) ∷ []) v w h only
changes_keep (ReprogramOn id n moment answer) v w h (inl (e, some, said, same)) = kept_same v w h same
changes_keep (ReprogramOn id n moment answer) v w h (inr (none, (ok, only))) =
    kept_only (on n (Reprogrammed id moment (Ok tt)) ∷ []) v w h only
changes_keep (Juggle n answer) v w h (inl (e, some, said, same)) = kept_same v w h same
changes_keep (Juggle n answer) v w h (inr (none, (report, is, turns))) = kept_turns n (single_ids n v) report v w h turns
changes_keep (Offline n answer) v w h (inl (e, some, said, same)) = kept_same v w h same
changes_keep (Offline n answer) v w h (inr (none, (report, moved, turns, leaves))) =
    let one = kept_turns n (single_ids n v) report v moved h turns in
    kept_then v moved w one (kept_leaves n report answer moved w one.half leaves)
changes_keep (Online n now answer) v w h (inl (e, some, said, same)) = kept_same v w h same
changes_keep (Online n now answer) v w h (inr (none, did)) = kept_online n now answer v w h did
changes_keep (Suspend answer) v w h (inl (e, some, said, same)) = kept_same v w h same
changes_keep (Suspend answer) v w h (inr (none, (ok, only))) = kept_only (on_each cpu.Suspend (length v.cpus.cpus)) v w h only
changes_keep (Resume answer) v w h (inl (e, some, said, same)) = kept_same v w h same
changes_keep (Resume answer) v w h (inr (none, (ok, only))) = kept_only (on_each cpu.Resume (length v.cpus.cpus)) v w h only
changes_keep (FireOne n now answer) v w h did = absurd did
changes_keep (SoftInterrupt n level budget answer) v w h did = absurd did

module _ {C : Type 0} (handler : Calls C) where
  kept_ran : (n : ℕ) (call : CpuCall) (s t : RunningSystem C Tables) → Half s.system
      → ((x y : Running C Tables) → CpuDoes handler raise_tables (Interrupts handler) x call y
      → SameCpu x.cpu y.cpu)
      → RunsAt handler raise_tables (Interrupts handler) (running_cpus s.calls s.system.cpus)
      (on n call) (running_cpus t.calls t.system.cpus)
      → t.system.records ≡ s.system.records → t.system.last ≡ s.system.last → Kept s.system t.system
  kept_ran n call s t h keeps did records last =
      let x = did.before in
      let y = did.after in
      let v = s.system.cpus in
      let w = t.system.cpus in
      let after_tie = tied_always handler call (running s.calls x) (running t.calls y) did.change
      (h.tied n x did.here) in
      let many : length w.cpus ≡ length v.cpus = ap (λ (u : CpusView Tables). length u.cpus) did.rest ∙ length-set v.cpus n y in
      record {
        half = half_parts (record s.system { cpus = w }) t.system (half_cpus s.system w h
            (λ m cpu is. dite (ℕ_discrete m n)
            (λ e. at_same n m v w x y did.here did.rest cpu e is after_tie)
            (λ ne. h.tied m cpu (cpu_beside n m cpu y v ne (subst (λ u. slice_get u.cpus m ≡ Some cpu) did.rest is))))
            (ap (λ (u : CpusView Tables). length u.online) did.rest ∙ h.long ∙ sym many) many) refl records last;
        most = λ m. most_set n m x y v w did.here did.rest (keeps (running s.calls x) (running t.calls y) did.change).most;
        room = λ wanted. room_set wanted n x y v w did.here did.rest
            (room_same wanted x y (keeps (running s.calls x) (running t.calls y) did.change));
      }

  does_keep : (call : SystemCall) (s t : RunningSystem C Tables) → Half s.system
      → Does handler raise_tables (Interrupts handler) s call t → Kept s.system t.system
  does_keep (FireOne n now answer) s t h (inl (e, some, said, same)) =
      kept_same s.system t.system h (ap (λ (x : RunningSystem C Tables). x.system) same)
  does_keep (FireOne n now answer) s t h (inr (none, (did, records, last))) =
      kept_ran n (Fire now answer) s t h (λ x y d. fire_keeps handler raise_tables
      (Interrupts handler) now x y answer d) did records last
  does_keep (SoftInterrupt n level budget answer) s t h (inl (e, some, said, same)) =
      kept_same s.system t.system h (ap (λ (x : RunningSystem C Tables). x.system) same)
  does_keep (SoftInterrupt n level budget answer) s t h (inr (none, (own, is, did, records, last))) =
      kept_ran n (CpuSoftInterrupt level budget own) s t h (λ x y d. d.1.kept) did records last
  does_keep (Add level series now answer) s t h (did, calls) = changes_keep (Add level series now answer) s.system t.system h did
  does_keep (AddOmni level series skew now answer) s t h (did, calls) =
      changes_keep (AddOmni level series skew now answer) s.system t.system h did
  does_keep (Bind id cpu answer) s t h (did, calls) = changes_keep (Bind id cpu answer) s.system t.system h did
  does_keep (BeginRemove id answer) s t h (did, calls) = changes_keep (BeginRemove id answer) s.system t.system h did
  does_keep (PollRemove id answer) s t h (did, calls) = changes_keep (PollRemove id answer) s.system t.system h did
  does_keep (AskTotals id answer) s t h (did, calls) = changes_keep (AskTotals id answer) s.system t.system h did
  does_keep (Reprogram id moment answer) s t h (did, calls) = changes_keep (Reprogram id moment answer) s.system t.system h did
  does_keep (ReprogramOn id n moment answer) s t h (did, calls) =
      changes_keep (ReprogramOn id n moment answer) s.system t.system h did
  does_keep (Juggle n answer) s t h (did, calls) = changes_keep (Juggle n answer) s.system t.system h did
  does_keep (Offline n answer) s t h (did, calls) = changes_keep (Offline n answer) s.system t.system h did
  does_keep (Online n now answer) s t h (did, calls) = changes_keep (Online n now answer) s.system t.system h did
  does_keep (Suspend answer) s t h (did, calls) = changes_keep (Suspend answer) s.system t.system h did
  does_keep (Resume answer) s t h (did, calls) = changes_keep (Resume answer) s.system t.system h did

  pub kept : (call : SystemCall) (s t : RunningSystem C Tables)
      → Does handler raise_tables (Interrupts handler) s call t → IsSystem s.system
      → Agrees t.system → IsSystem t.system
  kept call s t did sys agrees = whole t.system (does_keep call s t (half s.system sys) did).half agrees

  pub most_kept : (call : SystemCall) (s t : RunningSystem C Tables)
      → Does handler raise_tables (Interrupts handler) s call t → IsSystem s.system
      → (n : ℕ) → most_on n t.system.cpus ≡ most_on n s.system.cpus
  most_kept call s t did sys = (does_keep call s t (half s.system sys) did).most

  pub room_kept : (call : SystemCall) (s t : RunningSystem C Tables)
      → Does handler raise_tables (Interrupts handler) s call t → IsSystem s.system
      → (wanted : ℕ) → HaveRoomFor wanted s.system.cpus → HaveRoomFor wanted t.system.cpus
  room_kept call s t did sys = (does_keep call s t (half s.system sys) did).room
