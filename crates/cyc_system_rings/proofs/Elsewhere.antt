-- No call that reaches no handler brings an id to a level that is not its own.
use Rattle.std.proofs.Common.{◌≡◌, ◌∙◌, ◌==◌, ℕ, suc, ◌≤◌, ◌⊎◌, inl, inr, Bool, true, false, cond, Option, Some, None}
use Rattle.std.proofs.Common.{Result, Ok, Err, List, [], ◌∷◌, ◌++◌, length, filter, refl, sym, ap, subst, arith}
use Rattle.std.specs.Prelude.{sum_by}
use Rattle.std.specs.List.{slice_get, FoldsTo}
use Rattle.std.specs.Option.{option_map_or}
use Rattle.std.proofs.lemmas.List.Sums.{sum_by-insert, sum_by-remove, sum_by-set}
use mathlib.Core.Logic.{dite}
use native.Mathlib.Decide.{ℕ_discrete}
use Rattle.cyc_types.specs.declared.Raise.{Ghosts as Raise}
use Rattle.cyc_types.specs.Series.{first}
use Rattle.cyc_types.specs.declared.firing.Sent.{Sent}
use Rattle.cyc_types.specs.declared.level.Level.{Level}
use Rattle.cyc_types.specs.declared.moment.When.{When}
use Rattle.cyc_types.specs.declared.receipt.Receipt.{Receipt}
use Rattle.cyc_types.specs.declared.refusal.JuggleReport.{JuggleReport}
use Rattle.cyc_types.specs.declared.refusal.Refusal.{Refusal}
use Rattle.cyc_timers.specs.Rows.{Cyclic}
use Rattle.cyc_timers.specs.Acts.{same_level}
use Rattle.cyc_cpu.specs.declared.moving.Taken.{Taken}
use Rattle.cyc_cpu.specs.declared.removing.Removal.{Removal}
use Rattle.cyc_cpu.specs.declared.removing.Removal.TheVariants as removal
use Rattle.cyc_cpu.specs.Cpu.{CpuView, with_moment}
use Rattle.cyc_cpu.specs.Gone.{PutsNot}
use Rattle.cyc_cpu.specs.Calls.{CpuCall, Reserve, Widen, AskPending, TakeNow, Reprogram as CpuReprogram}
use Rattle.cyc_cpu.specs.Calls.{BeginRemove as CpuBeginRemove, PollRemove as CpuPollRemove}
use Rattle.cyc_cpu.proofs.Shifts.{Shifts, changes_shift}
use Rattle.cyc_places.specs.declared.record.Placement.{Placement}
use Rattle.cyc_places.specs.declared.record.Placement.TheVariants as stands
use Rattle.cyc_places.specs.declared.record.Record.{Record}
use Rattle.cyc_places.specs.Places.{IsRecord, HasRisingIds, HasNoRecord, ended_on}
use Rattle.cyc_agreement.specs.Cpus.{CpusView, CallOn, DoesAt, on, online_cpus}
use Rattle.cyc_agreement.specs.Shifting.{moving}
use Rattle.cyc_system_laws.specs.System.{SystemView, ids_on}
use Rattle.cyc_system_laws.specs.SystemRemoval.{SystemRemoval}
use Rattle.cyc_system_laws.specs.SystemRemoval.TheVariants as over
use Rattle.cyc_system_workers.specs.Adding.{OnlyWorks, entering}
use Rattle.cyc_system_laws.specs.Removing.{Begun, BeginsOn, BeginsRemoval}
use Rattle.cyc_system_laws.specs.Polling.{Polled, PollsOn, PollsRemoval}
use Rattle.cyc_system.specs.declared.turning.Turn.{Turn}
use Rattle.cyc_system.specs.declared.turning.Turn.TheVariants.{StaysBound, StaysPending, StaysRefused, Moves}
use Rattle.cyc_system.specs.Juggling.{TakesTurn, Turns, single_ids}
use Rattle.cyc_system.specs.GoingOffline.{quiet, Retires, EndsOffline}
use Rattle.cyc_agreement.specs.Omni.{entering_each}
use Rattle.cyc_agreement.specs.Online.{GoesOnline, staying, is_staying, returns, return_at}
use Rattle.cyc_system_laws.specs.SystemCalls.{SystemCall, Changes, Add, AddOmni, Bind, BeginRemove, PollRemove}
use Rattle.cyc_system_laws.specs.SystemCalls.{AskTotals, Suspend, Resume, Reprogram}
use Rattle.cyc_system_laws.specs.SystemCalls.{ReprogramOn, Juggle, Offline, Online, FireOne, SoftInterrupt}
use Rattle.cyc_system_laws.proofs.Lists.{eq_true, false_ne}
use Rattle.cyc_system_laws.proofs.Recording.{found, record_here, record_none}
use Rattle.cyc_system_laws.proofs.Folds.{folds_keep}
use Rattle.cyc_system_laws.proofs.Over.{begun_over, polled_over}
use Rattle.cyc_system_laws.specs.Keeping.{TouchesStays, TouchesRecord, stay_on}
use Rattle.cyc_system_laws.specs.Sound.{IsSound}
use Rattle.cyc_system_laws.proofs.Flow.{weigh, on_cpu, on_cpus, AllFixed, all_brought, all_taken, flows, sum_set}
use Rattle.cyc_system_laws.proofs.Idle.{idle_on, idle_quiet, idle_same, reserved_same}
use Rattle.cyc_system_laws.proofs.Counted.{moved_even}
use Rattle.cyc_system_laws.proofs.Found.{stays_found}
use Rattle.cyc_system_laws.proofs.Kept.{stays_kept, moments_kept}
use Rattle.cyc_system_laws.proofs.Looked.{look_kept}
use Rattle.cyc_system_rings.specs.Leading.{Make}
use Rattle.cyc_system_rings.specs.ByLevel.{level_given, is_own}

module _ (level : Level) (id : ℕ) where
  -- one where it is this level
  abbrev pub one_at : Level → ℕ
  one_at own = cond (same_level level own) 1 0

  abbrev pub at_it : Taken → ℕ
  at_it a = one_at a.level

  -- the stays of the id at this level, on one CPU and on all
  abbrev pub here : {R : Type 0} → CpuView R → ℕ
  here cpu = on_cpu at_it id cpu

  abbrev pub all_here : {R : Type 0} → SystemView R → ℕ
  all_here s = on_cpus at_it id s.cpus

  -- its record has this level
  abbrev pub recorded : List Record → Bool
  recorded rs = option_map_or (λ r. same_level level r.level) (found id rs) false

  -- the id has no stay at this level, and a record of it has another
  pub record IsElsewhere {R : Type 0} (s : SystemView R) : Type 0 where
    pub none : all_here s ≡ 0
    pub unrecorded : recorded s.records ≡ false

  -- the call doesn't give the id with this level
  abbrev pub GivesNot : SystemCall → Type 0
  GivesNot call = is_own level (level_given id (Make call)) ≡ false

  not_brought : (b : Bool) (own : Level) → is_own level (cond b (Some own) None) ≡ false
      → cond b (one_at own) 0 ≡ 0
  not_brought true own e = ap (λ (b : Bool). cond {A = ℕ} b 1 0) e
  not_brought false own e = refl

  not_recorded : (b : Bool) (own : Level) → is_own level (cond b (Some own) None) ≡ false
      → cond b (same_level level own) false ≡ false
  not_recorded true own e = e
  not_recorded false own e = refl

  read_new : (rs : List Record) (x : Record) → recorded rs ≡ false → cond (x.id == id) (same_level level x.level) false ≡ false
      → recorded (rs ++ x ∷ []) ≡ false
  read_new [] x e new = by (x.id == id) new
    where
      by : (b : Bool) → cond b (same_level level x.level) false ≡ false
          → option_map_or (λ (r : Record). same_level level r.level) (cond b (Some x) None) false ≡ false
      by true new = new
      by false new = refl
  read_new (y ∷ rs) x e new = by (y.id == id) e (λ rest. read_new rs x rest new)
    where
      by : (b : Bool) → option_map_or (λ (r : Record). same_level level r.level) (cond b (Some y) (found id rs)) false ≡ false
          → (recorded rs ≡ false → recorded (rs ++ x ∷ []) ≡ false)
          → option_map_or (λ (r : Record). same_level level r.level) (cond b (Some y) (found id (rs ++ x ∷ []))) false ≡ false
      by true e rest = e
      by false e rest = rest e

  -- a record of the id has another level
  other_record : (rs : List Record) (k : ℕ) (r : Record) → HasRisingIds rs → recorded rs ≡ false → IsRecord rs k r
      → cond (r.id == id) (one_at r.level) 0 ≡ 0
  other_record rs k r rising e at = by (r.id == id) refl
    where
      by : (b : Bool) → (r.id == id) ≡ b → cond b (one_at r.level) 0 ≡ 0
      by true is = ap (λ (b : Bool). cond {A = ℕ} b 1 0)
          (ap (λ o. option_map_or (λ (x : Record). same_level level x.level) o false)
          (sym (record_here id k r rs rising at (eq_true r.id id is))) ∙ e)
      by false is = refl

  -- a call that puts in no cyclic of the id
  shift_fewer : (call : CpuCall) (cs cs' : List Cyclic) → Shifts call cs cs' → PutsNot id call
      → sum_by (weigh at_it id) cs' ≤ sum_by (weigh at_it id) cs
  shift_fewer call cs cs' (inl (is, bare)) not = let a = ap (λ xs. sum_by (weigh at_it id) xs) is in omega (arith, a)
  shift_fewer call cs cs' (inr (inl (k, m, c, (low, at), is, bare))) not =
      let a = ap (λ xs. sum_by (weigh at_it id) xs) is in
      let x = sum_by-set (weigh at_it id) cs k (with_moment m c) c low in let y = ap (weigh at_it id) at in
      let z : weigh at_it id (with_moment m c) ≡ weigh at_it id c = refl in omega (arith, a, x, y, z)
  shift_fewer call cs cs' (inr (inr (inl (k, c, within, is, puts)))) not =
      let a = ap (λ xs. sum_by (weigh at_it id) xs) is in let x = sum_by-insert (weigh at_it id) cs k c in
      let y = ap (λ (b : Bool). cond b (at_it (stay_on c)) 0) (false_ne c.timer.id id ((puts id).3 not)) in omega (arith, a, x, y)
  shift_fewer call cs cs' (inr (inr (inr (k, c, (low, at), is, out)))) not =
      let a = ap (λ xs. sum_by (weigh at_it id) xs) is in let x = sum_by-remove (weigh at_it id) cs k c low in omega (arith, a, x)

  module _ {R : Type 0} (firing : Raise R) where
    fewer_at : (v w : CpusView R) (c : CallOn) → PutsNot id c.call → DoesAt firing v c w
        → on_cpus at_it id w ≤ on_cpus at_it id v
    fewer_at v w c not d =
        let s = changes_shift firing d.before d.after c.call d.change in
        let a = shift_fewer c.call d.before.cyclics d.after.cyclics s not in
        let b = sum_set here v.cpus c.cpu d.before d.after d.here in let e = ap (on_cpus at_it id) d.rest in
        omega (arith, a, b, e)

    -- a call that doesn't touch the record of the id
    looked : (s t : SystemView R) (call : SystemCall) → IsSound firing.view s → Changes firing s call t
        → (TouchesRecord id call → ⊥) → IsElsewhere s → recorded t.records ≡ false
    looked s t call a d same o = look_kept firing (λ (r : Record). same_level level r.level) false
        (λ r n bound e. refl) (λ r n c. refl) id s t call a.fit.rising d same ∙ o.unrecorded

    -- a call that touches neither the stays nor the record of the id
    quietly : (s t : SystemView R) (call : SystemCall) → IsSound firing.view s → IsSound firing.view t → Changes firing s call t
        → (TouchesStays id call s → ⊥) → (TouchesRecord id call → ⊥) → IsElsewhere s → IsElsewhere t
    quietly s t call a b d still same o =
        let x = stays_kept firing at_it id s t call a b d still in let n = o.none in
        let p = stays_found firing.view id at_it s a.lawful in let q = stays_found firing.view id at_it t b.lawful in record {
          none = omega (arith, x, p, q, n);
          unrecorded = looked s t call a d same o;
        }

    -- ---- adding

    added : (own : Level) (when : When) (now : ℕ) (answer : Result ℕ Refusal) (s t : SystemView R) → IsSound firing.view s
        → IsSound firing.view t → Changes firing s (Add own when now answer) t → GivesNot (Add own when now answer)
        → IsElsewhere s → IsElsewhere t
    added own when now answer s t a b (inl (e, why, is, same)) not o = subst (λ (x : SystemView R). IsElsewhere x) (sym same) o
    added own when now (Ok new) s t a b (inr (clear, (d, chosen, next, works, records, last))) not o =
        let f = flows at_it id firing (on d (Reserve 1 (Ok tt)) ∷ entering d new own when.interval
        (first when.start when.interval now)) s.cpus t.cpus (tt, (tt, (tt, tt))) works in
        let z = not_brought (new == id) own not in let n = o.none in record {
          none = omega (arith, f, z, n);
          unrecorded = ap recorded records ∙ read_new s.records _ o.unrecorded (not_recorded (new == id) own not);
        }
    added own when now (Err e) s t a b d not o = quietly s t (Add own when now (Err e)) a b d (λ x. x) (λ x. x) o

    entering_none : (ns : List ℕ) (new : ℕ) (own : Level) (when : When) (skew now : ℕ)
        → is_own level (cond (new == id) (Some own) None) ≡ false
        → AllFixed at_it id (entering_each ns new own when skew now)
        × (all_brought at_it id (entering_each ns new own when skew now) ≡ 0)
        × (all_taken at_it id (entering_each ns new own when skew now) ≡ 0)
    entering_none [] new own when skew now not = (tt, refl, refl)
    entering_none (n ∷ ns) new own when skew now not =
        let (fixed, a, b) = entering_none ns new own when skew now not in let z = not_brought (new == id) own not in
        ((tt, (tt, fixed)), omega (arith, a, z), omega (arith, b))

    added_everywhere : (own : Level) (when : When) (skew now : ℕ) (answer : Result ℕ Refusal) (s t : SystemView R)
        → IsSound firing.view s → IsSound firing.view t → Changes firing s (AddOmni own when skew now answer) t
        → GivesNot (AddOmni own when skew now answer) → IsElsewhere s → IsElsewhere t
    added_everywhere own when skew now answer s t a b (inl (e, why, is, same)) not o =
        subst (λ (x : SystemView R). IsElsewhere x) (sym same) o
    added_everywhere own when skew now (Ok new) s t a b (inr (clear, (next, (u, reserved, works), records, last))) not o =
        let (fixed, z, y) = entering_none (online_cpus s.cpus) new own when skew now not in
        let r = reserved_same at_it id firing 1 s.cpus u reserved in
        let f = flows at_it id firing (entering_each (online_cpus s.cpus) new own when skew now) u t.cpus fixed works in
        let n = o.none in record {
          none = omega (arith, r, f, z, y, n);
          unrecorded = ap recorded records ∙ read_new s.records _ o.unrecorded (not_recorded (new == id) own not);
        }
    added_everywhere own when skew now (Err e) s t a b d not o =
        quietly s t (AddOmni own when skew now (Err e)) a b d (λ x. x) (λ x. x) o

    -- ---- removing

    begins_fewer : (own : ℕ) (way : List Begun) (s t : SystemView R)
        → FoldsTo (λ u b w. BeginsOn firing own b.cpu b.found u w) s way t → all_here t ≤ all_here s
    begins_fewer own way s t each = folds_keep (λ u (b : Begun) w. BeginsOn firing own b.cpu b.found u w)
        (λ (x y : SystemView R). all_here y ≤ all_here x) (λ x. omega arith) (λ x y z p q. omega (arith, p, q))
        (λ x b y. one b.cpu b.found x y) way s t each
      where
        one : (n : ℕ) (answer : Removal) (s t : SystemView R) → BeginsOn firing own n answer s t → all_here t ≤ all_here s
        one n (removal.Done receipt) s t d = fewer_at s.cpus t.cpus (on n (CpuBeginRemove own (Ok (removal.Done receipt)))) tt d.0
        one n (removal.Kept kept) s t d = fewer_at s.cpus t.cpus (on n (CpuBeginRemove own (Ok (removal.Kept kept)))) tt d.0

    polls_fewer : (own : ℕ) (way : List Polled) (s t : SystemView R)
        → FoldsTo (λ u p w. PollsOn firing own p.cpu p.answer u w) s way t → all_here t ≤ all_here s
    polls_fewer own way s t each = folds_keep (λ u (p : Polled) w. PollsOn firing own p.cpu p.answer u w)
        (λ (x y : SystemView R). all_here y ≤ all_here x) (λ x. omega arith) (λ x y z p q. omega (arith, p, q))
        (λ x p y. one p.cpu p.answer x y) way s t each
      where
        one : (n : ℕ) (answer : Option Receipt) (s t : SystemView R) → PollsOn firing own n answer s t
            → all_here t ≤ all_here s
        one n (Some receipt) s t d = fewer_at s.cpus t.cpus (on n (CpuPollRemove (Some receipt))) tt d.0
        one n None s t d = fewer_at s.cpus t.cpus (on n (CpuPollRemove None)) tt d.0

    begins_here : (own : ℕ) (answer : Result SystemRemoval Refusal) (s t : SystemView R)
        → BeginsRemoval firing own answer s t → all_here t ≤ all_here s
    begins_here own answer s t (inl (e, why, is, same)) = let x = ap (λ (u : SystemView R). all_here u) same in omega (arith, x)
    begins_here own (Ok (over.Done receipt)) s t (inr (clear, (way, u, cpus, each, answers))) =
        let x = begins_fewer own way s u each in let y = ap (on_cpus at_it id) answers.cpus in omega (arith, x, y)
    begins_here own (Ok (over.Kept kept)) s t (inr (clear, (way, cpus, each, some, sum))) = begins_fewer own way s t each
    begins_here own (Err e) s t (inr (clear, wrong)) = absurd wrong

    polls_here : (own : ℕ) (answer : Result (Option Receipt) Refusal) (s t : SystemView R)
        → PollsRemoval firing own answer s t → all_here t ≤ all_here s
    polls_here own answer s t (inl (e, why, is, same)) = let x = ap (λ (u : SystemView R). all_here u) same in omega (arith, x)
    polls_here own (Ok (Some receipt)) s t (inr (clear, (way, u, cpus, each, answers))) =
        let x = polls_fewer own way s u each in let y = ap (on_cpus at_it id) answers.cpus in omega (arith, x, y)
    polls_here own (Ok None) s t (inr (clear, (way, cpus, each, some))) = polls_fewer own way s t each
    polls_here own (Err e) s t (inr (clear, wrong)) = absurd wrong

    none_read : (rs : List Record) → HasNoRecord id rs → recorded rs ≡ false
    none_read rs none = ap (λ o. option_map_or (λ (r : Record). same_level level r.level) o false) (record_none id rs none)

    begun_read : (own : ℕ) (answer : Result SystemRemoval Refusal) (s t : SystemView R) → IsSound firing.view s
        → BeginsRemoval firing own answer s t → IsElsewhere s → recorded t.records ≡ false
    begun_read own (Ok (over.Done receipt)) s t a d o = dite (ℕ_discrete own id)
        (λ e. none_read t.records (begun_over firing id receipt s t a.agrees a.fit.rising
        (subst (λ j. BeginsRemoval firing j (Ok (over.Done receipt)) s t) e d)).unknown)
        (λ ne. looked s t (BeginRemove own (Ok (over.Done receipt))) a d ne o)
    begun_read own (Ok (over.Kept kept)) s t a d o = looked s t (BeginRemove own (Ok (over.Kept kept))) a d (λ x. x) o
    begun_read own (Err e) s t a d o = looked s t (BeginRemove own (Err e)) a d (λ x. x) o

    polled_read : (own : ℕ) (answer : Result (Option Receipt) Refusal) (s t : SystemView R) → IsSound firing.view s
        → PollsRemoval firing own answer s t → IsElsewhere s → recorded t.records ≡ false
    polled_read own (Ok (Some receipt)) s t a d o = dite (ℕ_discrete own id)
        (λ e. none_read t.records (polled_over firing id receipt s t a.agrees a.fit.rising
        (subst (λ j. PollsRemoval firing j (Ok (Some receipt)) s t) e d)).unknown)
        (λ ne. looked s t (PollRemove own (Ok (Some receipt))) a d ne o)
    polled_read own (Ok None) s t a d o = looked s t (PollRemove own (Ok None)) a d (λ x. x) o
    polled_read own (Err e) s t a d o = looked s t (PollRemove own (Err e)) a d (λ x. x) o

    -- ---- offline

    turn_here : (n own : ℕ) (turn : Turn) (s t : SystemView R) → TakesTurn firing n own turn s t → all_here t ≤ all_here s
    turn_here n own StaysBound s t (placement, same) = let x = ap (λ (u : SystemView R). all_here u) same in omega (arith, x)
    turn_here n own StaysPending s t (placement, found, some, only) =
        let x = idle_same at_it id firing (on n (AskPending own (Some found)) ∷ []) s.cpus t.cpus (tt, tt) only.0 in
        omega (arith, x)
    turn_here n own StaysRefused s t (placement, d, chosen, e, only) =
        let x = idle_same at_it id firing (on n (AskPending own (Some 0)) ∷ on d (Reserve 1 (Err e)) ∷ []) s.cpus t.cpus
        (tt, (tt, tt)) only.0 in omega (arith, x)
    turn_here n own Moves s t (placement, d, chosen, (taken, works), records) =
        let x = flows at_it id firing (moving own n d taken) s.cpus t.cpus (tt, (tt, (tt, (tt, (tt, tt))))) works in
        let y = moved_even at_it id own n d taken in omega (arith, x, y)

    turns_here : (n : ℕ) (ids : List ℕ) (report : JuggleReport) (s t : SystemView R) → Turns firing n ids report s t
        → all_here t ≤ all_here s
    turns_here n [] report s t (none, same) = let x = ap (λ (u : SystemView R). all_here u) same in omega (arith, x)
    turns_here n (own ∷ ids) report s t (turn, u, rest, first, counted, more) =
        let x = turns_here n ids rest u t more in let y = turn_here n own turn s u first in omega (arith, x, y)

    retires_here : (n : ℕ) (ids : List ℕ) (s t : SystemView R) → FoldsTo (Retires firing n) s ids t
        → all_here t ≤ all_here s
    retires_here n ids s t each = folds_keep (λ u (own : ℕ) w. Retires firing n u own w)
        (λ (x y : SystemView R). all_here y ≤ all_here x) (λ x. omega arith) (λ x y z p q. omega (arith, p, q))
        (λ x own y d. fewer_at x.cpus y.cpus (on n (TakeNow own (Ok d.0))) tt d.1) ids s t each

    leaves_here : (n : ℕ) (report : JuggleReport) (answer : Result (Unit {0}) Refusal) (s t : SystemView R)
        → EndsOffline firing n report answer s t → all_here t ≤ all_here s
    leaves_here n report answer s t (inl (left, is, same)) = let x = ap (λ (u : SystemView R). all_here u) same in
        omega (arith, x)
    leaves_here n report answer s t (inr (inl (none, is, (before, own, after, found, some, only)))) =
        let x = idle_same at_it id firing (quiet n before ++ on n (AskPending own (Some found)) ∷ []) s.cpus t.cpus
        (idle_on (quiet n before) (on n (AskPending own (Some found)) ∷ []) (idle_quiet n before) (tt, tt)) only.0 in
        omega (arith, x)
    leaves_here n report answer s t (inr (inr (none, is, (u, only, empty, each, off)))) =
        let x = idle_same at_it id firing (quiet n (ids_on n s.cpus)) s.cpus u.cpus (idle_quiet n (ids_on n s.cpus)) only.0 in
        let y = retires_here n (ids_on n s.cpus) u empty each in
        let z = ap (λ (v : SystemView R). all_here v) off in omega (arith, x, y, z)

    -- ---- online

    return_none : (n now own : ℕ) (at : Level) (counts : Sent) (placement : Placement) (way : List CallOn)
        → cond (own == id) (one_at at) 0 ≡ 0 → AllFixed at_it id way → all_brought at_it id way ≡ 0
        → AllFixed at_it id (return_at n now own at counts placement ++ way)
        × (all_brought at_it id (return_at n now own at counts placement ++ way) ≡ 0)
    return_none n now own at counts (stands.On m bound) way z fixed none = (fixed, none)
    return_none n now own at counts (stands.Everywhere when skew) way z fixed none = ((tt, fixed), omega (arith, z, none))

    returns_none : (n now : ℕ) (v : CpusView R) (rs : List Record)
        → ((k : ℕ) (r : Record) → slice_get rs k ≡ Some r → cond (r.id == id) (one_at r.level) 0 ≡ 0)
        → AllFixed at_it id (returns n now (filter (is_staying v) rs))
        × (all_brought at_it id (returns n now (filter (is_staying v) rs)) ≡ 0)
    returns_none n now v [] z = (tt, refl)
    returns_none n now v (r ∷ rs) z = let (fixed, none) = returns_none n now v rs (λ k q at. z (suc k) q at) in
        by (is_staying v r) fixed none
      where
        by : (b : Bool) → AllFixed at_it id (returns n now (filter (is_staying v) rs))
            → all_brought at_it id (returns n now (filter (is_staying v) rs)) ≡ 0
            → AllFixed at_it id (returns n now (cond b (r ∷ filter (is_staying v) rs) (filter (is_staying v) rs)))
            × (all_brought at_it id (returns n now (cond b (r ∷ filter (is_staying v) rs) (filter (is_staying v) rs))) ≡ 0)
        by true fixed none = return_none n now r.id r.level (ended_on n r) r.placement
            (returns n now (filter (is_staying v) rs)) (z 0 r refl) fixed none
        by false fixed none = (fixed, none)

    online_here : (n now : ℕ) (answer : Result (Unit {0}) Refusal) (s t : SystemView R) → IsSound firing.view s
        → GoesOnline firing n now answer s t → IsElsewhere s → all_here t ≤ all_here s
    online_here n now (Ok done) s t a ((w, works, switched), records, last) o =
        let (fixed, z) = returns_none n now s.cpus s.records
        (λ k r at. other_record s.records k r a.fit.rising o.unrecorded at) in
        let f = flows at_it id firing (on n (Reserve (length (staying s)) (Ok tt)) ∷ on n
        (Widen (length (staying s))) ∷ returns n now (staying s)) s.cpus w (tt, (tt, fixed)) works in
        let d = ap (on_cpus at_it id) switched in omega (arith, f, z, d)
    online_here n now (Err e) s t a (why, only) o =
        let x = idle_same at_it id firing (on n (Reserve (length (staying s)) (Err e)) ∷ []) s.cpus t.cpus (tt, tt) only.0 in
        omega (arith, x)

    -- ---- every call

    refused_or : {A : Type 0} (o : Option Refusal) (refused : Refusal → A) (answer : A) (s t : SystemView R) (G : Type 0)
        → ((e : Refusal) × (o ≡ Some e) × (answer ≡ refused e) × (t ≡ s)) ⊎ ((o ≡ None) × G)
        → (G → all_here t ≤ all_here s) → all_here t ≤ all_here s
    refused_or o refused answer s t G (inl (e, why, is, same)) goes = let x = ap (λ (u : SystemView R). all_here u) same in
        omega (arith, x)
    refused_or o refused answer s t G (inr (clear, g)) goes = goes g

    moments_here : (s t : SystemView R) (own n moment : ℕ) → IsSound firing.view s → IsSound firing.view t
        → OnlyWorks firing (on n (CpuReprogram own moment (Ok tt)) ∷ []) s t → all_here t ≤ all_here s
    moments_here s t own n moment a b only =
        let x = moments_kept firing at_it id s t own n moment a b (λ a m. refl) only in
        let p = stays_found firing.view id at_it s a.lawful in let q = stays_found firing.view id at_it t b.lawful in
        omega (arith, x, p, q)

    so : (s t : SystemView R) → all_here t ≤ all_here s → recorded t.records ≡ false → IsElsewhere s → IsElsewhere t
    so s t x e o = let n = o.none in record { none = omega (arith, x, n); unrecorded = e }

    pub changes_elsewhere : (s t : SystemView R) (call : SystemCall) → IsSound firing.view s → IsSound firing.view t
        → Changes firing s call t → GivesNot call → IsElsewhere s → IsElsewhere t
    changes_elsewhere s t (Add own when now answer) a b d not o = added own when now answer s t a b d not o
    changes_elsewhere s t (AddOmni own when skew now answer) a b d not o =
        added_everywhere own when skew now answer s t a b d not o
    changes_elsewhere s t (Bind own None answer) a b d not o = quietly s t (Bind own None answer) a b d (λ x. x) (λ x. x) o
    changes_elsewhere s t (Bind own (Some n) answer) a b d not o =
        quietly s t (Bind own (Some n) answer) a b d (λ x. x) (λ x. x) o
    changes_elsewhere s t (BeginRemove own answer) a b d not o =
        so s t (begins_here own answer s t d) (begun_read own answer s t a d o) o
    changes_elsewhere s t (PollRemove own answer) a b d not o =
        so s t (polls_here own answer s t d) (polled_read own answer s t a d o) o
    changes_elsewhere s t (AskTotals own answer) a b d not o = quietly s t (AskTotals own answer) a b d (λ x. x) (λ x. x) o
    changes_elsewhere s t (Suspend answer) a b d not o = quietly s t (Suspend answer) a b d (λ x. x) (λ x. x) o
    changes_elsewhere s t (Resume answer) a b d not o = quietly s t (Resume answer) a b d (λ x. x) (λ x. x) o
    changes_elsewhere s t (Reprogram own moment answer) a b d not o = so s t
        (refused_or _ _ answer s t _ d (λ k. moments_here s t own k.0 moment a b k.2.1))
        (looked s t (Reprogram own moment answer) a d (λ x. x) o) o
    changes_elsewhere s t (ReprogramOn own n moment answer) a b d not o = so s t
        (refused_or _ _ answer s t _ d (λ k. moments_here s t own n moment a b k.1))
        (looked s t (ReprogramOn own n moment answer) a d (λ x. x) o) o
    changes_elsewhere s t (Juggle n answer) a b d not o = quietly s t (Juggle n answer) a b d (λ x. x) (λ x. x) o
    changes_elsewhere s t (Offline n answer) a b d not o = so s t
        (refused_or _ _ answer s t _ d (λ k. (let (report, moved, moves, rest) = k in
        let x = turns_here n (single_ids n s) report s moved moves in let y = leaves_here n report answer moved t rest in
        omega (arith, x, y)))) (looked s t (Offline n answer) a d (λ x. x) o) o
    changes_elsewhere s t (Online n now answer) a b d not o = so s t
        (refused_or _ _ answer s t _ d (λ k. online_here n now answer s t a k o))
        (looked s t (Online n now answer) a d (λ x. x) o) o
    changes_elsewhere s t (FireOne n now answer) a b d not o = absurd d
    changes_elsewhere s t (SoftInterrupt n own budget answer) a b d not o = absurd d
