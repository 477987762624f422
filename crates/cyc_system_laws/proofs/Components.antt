-- What a CPU that goes offline leaves to the other CPUs of a cyclic that is on all of them.
use Rattle.std.proofs.Common.{◌≡◌, ◌≢◌, ◌∙◌, ◌==◌, ℕ, zero, suc, inl, inr, Bool, true, false, cond, find, filter, Some}
use Rattle.std.proofs.Common.{None, Result, Ok, Err, List, [], ◌∷◌, ◌++◌, take, drop, refl, sym, ap}
use Rattle.std.specs.Prelude.{not, insert}
use Rattle.std.specs.List.{slice_get, FoldsTo}
use Rattle.std.specs.Option.{option_and_then, option_or}
use Rattle.std.proofs.lemmas.List.{take-append-drop}
use Rattle.std.proofs.lemmas.List.Folds.{find-append}
use mathlib.Core.Logic.{dite}
use native.Mathlib.Decide.{ℕ_discrete}
use Rattle.cyc_types.specs.declared.Raise.{Ghosts as Raise}
use Rattle.cyc_types.specs.declared.refusal.JuggleReport.{JuggleReport}
use Rattle.cyc_types.specs.declared.refusal.Refusal.{Refusal}
use Rattle.cyc_timers.specs.Rows.{Cyclic}
use Rattle.cyc_cpu.specs.Cpu.{CpuView, cyclic_with}
use Rattle.cyc_cpu.specs.Calls.{CpuCall, CpuChanges as CpuChanges, Place, TakeNow, AskPending, Reserve, Widen}
use Rattle.cyc_agreement.specs.Cpus.{CpusView, CallOn, on, DoesAt, Works}
use Rattle.cyc_agreement.specs.Shifting.{moving}
use Rattle.cyc_agreement.proofs.CpuSpots.{get_set_other}
use Rattle.cyc_system.specs.Juggling.{TakesTurn, Turns, single_ids}
use Rattle.cyc_system.specs.GoingOffline.{quiet, Retires, EndsOffline}
use Rattle.cyc_system.specs.declared.turning.Turn.{Turn}
use Rattle.cyc_system.specs.declared.turning.Turn.TheVariants.{StaysBound, StaysPending, StaysRefused, Moves}
use Rattle.cyc_system.specs.System.{SystemView, ids_on, is_omnipresent}
use Rattle.cyc_system.specs.RemovalLaws.{cyclic_in, cyclic_on}
use Rattle.cyc_system.specs.Calls.{Changes, Offline}
use Rattle.cyc_system.proofs.Lists.{false_ne}
use Rattle.cyc_system.proofs.Spots.{none_some, same_some}
use Rattle.cyc_system.proofs.Who.{kept_at}
use Rattle.cyc_system.proofs.Folds.{find_remove}
use Rattle.cyc_system.proofs.Others.{at_position}

-- ---- lists

pub find_insert : {A : Type 0} (p : A → Bool) (xs : List A) (k : ℕ) (x : A) → p x ≡ false → find p (insert xs k x) ≡ find p xs
find_insert p xs k x fails = find-append p (take k xs) (x ∷ drop k xs)
    ∙ (ap (λ b. option_or (find p (take k xs)) (cond b (Some x) (find p (drop k xs)))) fails
    ∙ (sym (find-append p (take k xs) (drop k xs)) ∙ ap (find p) (take-append-drop k xs)))

passes : {A : Type 0} (p : A → Bool) (xs : List A) (k : ℕ) (x : A) → slice_get (filter p xs) k ≡ Some x → p x ≡ true
passes p [] k x e = absurd (none_some e)
passes {A} p (y ∷ ys) k x e = by (p y) refl k (passes p ys) e
  where
    by : (b : Bool) → p y ≡ b → (k : ℕ) → ((k : ℕ) (z : A) → slice_get (filter p ys) k ≡ Some z → p z ≡ true)
        → slice_get (cond b (y ∷ filter p ys) (filter p ys)) k ≡ Some x → p x ≡ true
    by true is zero rest at = ap p (sym (same_some at)) ∙ is
    by true is (suc k) rest at = rest k x at
    by false is k rest at = rest k x at

-- the CPU of this number has the same of the id, whatever calls are made that bring nothing of it there and take nothing
module _ {R : Type 0} (firing : Raise R) (m id : ℕ) where
  abbrev IsOfOther : CpuCall → Type 0
  IsOfOther (Place own level interval moment carried) = own ≢ id
  IsOfOther (TakeNow own (Ok taken)) = own ≢ id
  IsOfOther (AskPending own answer) = Unit {0}
  IsOfOther (Reserve more answer) = Unit {0}
  IsOfOther (Widen more) = Unit {0}
  IsOfOther call = ⊥

  abbrev IsBeside : CallOn → Type 0
  IsBeside c = c.cpu ≡ m → IsOfOther c.call

  abbrev AreBeside : List CallOn → Type 0
  AreBeside [] = Unit {0}
  AreBeside (c ∷ way) = IsBeside c × AreBeside way

  abbrev Same : CpusView R → CpusView R → Type 0
  Same v w = cyclic_on m id w ≡ cyclic_on m id v

  same_list : (x y : CpuView R) → y.cyclics ≡ x.cyclics → cyclic_in id y ≡ cyclic_in id x
  same_list x y e = ap (λ cs. find (λ (c : Cyclic). c.timer.id == id) cs) e

  other_kept : (x y : CpuView R) (call : CpuCall) → IsOfOther call → CpuChanges firing x call y
      → cyclic_in id y ≡ cyclic_in id x
  other_kept x y (Place own level interval moment carried) ne (may, p) =
      ap (λ cs. find (λ (c : Cyclic). c.timer.id == id) cs) p.cyclics
      ∙ find_insert (λ (c : Cyclic). c.timer.id == id) x.cyclics p.position
      (cyclic_with own level interval moment carried.sent carried.lost) (false_ne own id ne)
  other_kept x y (TakeNow own (Ok taken)) ne (still, (c, counts, is, polled, l)) =
      ap (λ cs. find (λ (c : Cyclic). c.timer.id == id) cs) l.cyclics
      ∙ find_remove (λ (c : Cyclic). c.timer.id == id) x.cyclics l.position c (at_position x.cyclics l.position c l.here)
      (false_ne c.timer.id id (λ e. ne (sym l.named ∙ e)))
  other_kept x y (AskPending own (Some n)) ne d = same_list x y d.0.cyclics
  other_kept x y (AskPending own None) ne d = same_list x y (ap (λ (z : CpuView R). z.cyclics) d.1)
  other_kept x y (Reserve more (Ok done)) ne d = same_list x y d.0.cyclics
  other_kept x y (Reserve more (Err e)) ne d = same_list x y d.0.cyclics
  other_kept x y (Widen more) ne d = same_list x y d.1.cyclics
  other_kept x y call ne d = absurd ne

  one_same : (v w : CpusView R) (c : CallOn) → IsBeside c → DoesAt firing v c w → Same v w
  one_same v w c beside d = dite (ℕ_discrete c.cpu m)
      (λ e. ap (λ (u : CpusView R). cyclic_on m id u) d.rest
      ∙ kept_at v c.cpu d.before d.after d.here (λ o. option_and_then (cyclic_in id) o)
      (other_kept d.before d.after c.call (beside e) d.change) m)
      (λ ne. ap (λ (u : CpusView R). cyclic_on m id u) d.rest
      ∙ ap (λ o. option_and_then (cyclic_in id) o) (get_set_other v.cpus c.cpu m d.after (λ e. ne (sym e))))

  works_same : (way : List CallOn) (v w : CpusView R) → AreBeside way → Works firing way v w → Same v w
  works_same [] v w beside run = ap (λ (u : CpusView R). cyclic_on m id u) (sym run)
  works_same (c ∷ way) v w beside (u, d, rest) = works_same way u w beside.1 rest ∙ one_same v u c beside.0 d

  beside_quiet : (n : ℕ) (ids : List ℕ) (way : List CallOn) → AreBeside way → AreBeside (quiet n ids ++ way)
  beside_quiet n [] way beside = beside
  beside_quiet n (x ∷ xs) way beside = (λ e. tt, beside_quiet n xs way beside)

  just_quiet : (n : ℕ) (ids : List ℕ) → AreBeside (quiet n ids)
  just_quiet n [] = tt
  just_quiet n (x ∷ xs) = (λ e. tt, just_quiet n xs)

  same_system : (s t : SystemView R) → t ≡ s → Same s.cpus t.cpus
  same_system s t e = ap (λ (u : SystemView R). cyclic_on m id u.cpus) e

  turn_same : (n own : ℕ) (turn : Turn) (s t : SystemView R) → own ≢ id → TakesTurn firing n own turn s t
      → Same s.cpus t.cpus
  turn_same n own StaysBound s t ne (placement, same) = same_system s t same
  turn_same n own StaysPending s t ne (placement, found, some, only) =
      works_same (on n (AskPending own (Some found)) ∷ []) s.cpus t.cpus (λ e. tt, tt) only.0
  turn_same n own StaysRefused s t ne (placement, d, chosen, e, only) =
      works_same (on n (AskPending own (Some 0)) ∷ on d (Reserve 1 (Err e)) ∷ []) s.cpus t.cpus (λ e. tt, (λ e. tt, tt)) only.0
  turn_same n own Moves s t ne (placement, d, chosen, (taken, works), records) =
      works_same (moving own n d taken) s.cpus t.cpus
      (λ e. tt, (λ e. tt, (λ e. ne, (λ e. tt, (λ e. ne, tt))))) works

  turns_same : (n : ℕ) (ids : List ℕ) (report : JuggleReport) (s t : SystemView R)
      → ((k own : ℕ) → slice_get ids k ≡ Some own → own ≢ id) → Turns firing n ids report s t → Same s.cpus t.cpus
  turns_same n [] report s t ne (none, same) = same_system s t same
  turns_same n (own ∷ ids) report s t ne (turn, u, rest, first, counted, more) =
      turns_same n ids rest u t (λ k own at. ne (suc k) own at) more ∙ turn_same n own turn s u (ne 0 own refl) first

  retires_same : (n : ℕ) (ids : List ℕ) (s t : SystemView R) → m ≢ n → FoldsTo (Retires firing n) s ids t
      → Same s.cpus t.cpus
  retires_same n [] s t apart e = same_system s t (sym e)
  retires_same n (own ∷ ids) s t apart (u, (taken, does, k, r, here, named, records, last), rest) =
      retires_same n ids u t apart rest
      ∙ one_same s.cpus u.cpus (on n (TakeNow own (Ok taken))) (λ e. absurd (apart (sym e))) does

  leaves_same : (n : ℕ) (report : JuggleReport) (answer : Result (Unit {0}) Refusal) (s t : SystemView R) → m ≢ n
      → EndsOffline firing n report answer s t → Same s.cpus t.cpus
  leaves_same n report answer s t apart (inl (left, is, same)) = same_system s t same
  leaves_same n report answer s t apart (inr (inl (none, is, (before, own, after, found, some, only)))) =
      works_same (quiet n before ++ on n (AskPending own (Some found)) ∷ []) s.cpus t.cpus
      (beside_quiet n before (on n (AskPending own (Some found)) ∷ []) (λ e. tt, tt)) only.0
  leaves_same n report answer s t apart (inr (inr (none, is, (u, only, empty, each, off)))) =
      same_system _ t off
      ∙ (retires_same n (ids_on n s.cpus) u empty apart each
      ∙ works_same (quiet n (ids_on n s.cpus)) s.cpus u.cpus (just_quiet n (ids_on n s.cpus)) only.0)

  single_other : (n k own : ℕ) (s : SystemView R) → is_omnipresent id s ≡ true → slice_get (single_ids n s) k ≡ Some own
      → own ≢ id
  single_other n k own s everywhere at e =
      (let single = passes (λ (i : ℕ). not (is_omnipresent i s)) (ids_on n s.cpus) k own at in
      let odd : false ≡ true = sym (ap not (ap (λ (i : ℕ). is_omnipresent i s) e ∙ everywhere)) ∙ single in cc)

  pub offline_keeps : (n : ℕ) (answer : Result (Unit {0}) Refusal) (s t : SystemView R) → is_omnipresent id s ≡ true → m ≢ n
      → Changes firing s (Offline n answer) t → cyclic_on m id t.cpus ≡ cyclic_on m id s.cpus
  offline_keeps n answer s t everywhere apart (inl (e, why, is, same)) = same_system s t same
  offline_keeps n answer s t everywhere apart (inr (clear, (report, moved, moves, rest))) =
      leaves_same n report answer moved t apart rest
      ∙ turns_same n (single_ids n s) report s moved (λ k own at. single_other n k own s everywhere at) moves
