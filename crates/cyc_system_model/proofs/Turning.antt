-- The turn of one cyclic of a juggle.
use Rattle.std.proofs.Common.{◌≡◌, ◌≢◌, ℕ, ◌+◌, ◌<◌, ◌≤◌, true, false, cond, List, [], ◌∷◌, length, map, get_or}
use Rattle.std.proofs.Common.{Option, Some, refl, ap, sym, ◌∙◌, subst, arith}
use Rattle.std.specs.Prelude.{slice_set, nat_lt, is_some, Err}
use Rattle.std.specs.Option.{option_map_or}
use Rattle.cyc_types.specs.declared.level.Soft.{Soft}
use Rattle.cyc_types.specs.declared.refusal.Refusal.{Refusal}
use Rattle.cyc_types.specs.declared.refusal.Refusal.TheVariants.{Memory}
use Rattle.cyc_core.specs.Tables.{Tables}
use Rattle.cyc_cpu.specs.Cpu.{CpuView}
use Rattle.cyc_cpu.specs.Soft.{raise_tables}
use Rattle.cyc_cpu.specs.Calls.{AskPending, Reserve}
use Rattle.cyc_places.specs.declared.record.Placement.TheVariants as placements
use Rattle.cyc_agreement.proofs.Given.{agrees_same}
use Rattle.cyc_system.proofs.MayGo
use Rattle.cyc_system.proofs.Replaced.{not_elsewhere}
use Rattle.cyc_agreement.proofs.Who.{same_changed, same_asked, has_same}
use Rattle.cyc_system.specs.Agreement.{Agrees}
use Rattle.cyc_system.specs.Cpus.{CpusView, IsCpu, DoesAt, on as on_cpu}
use Rattle.cyc_system.specs.Destination.{destination as destination_in}
use Rattle.cyc_system.specs.System.{SystemView}
use Rattle.cyc_system.specs.Binding.{HasPlacement, Records}
use Rattle.cyc_system.specs.declared.turning.Turn.{Turn as TurnThere}
use Rattle.cyc_system.specs.declared.turning.Turn.TheVariants as there
use Rattle.cyc_system.specs.Juggling.{TakesTurn}
use Rattle.cyc_model.specs.Acts.{calls_of, events_at}
use Rattle.cyc_model.specs.Cpu.{CyclicState, cyclic_with_id}
use Rattle.cyc_model.specs.Serving.{level_at}
use Rattle.cyc_model.specs.Free.{AllCanBeAdmitted}
use Rattle.cyc_model.specs.Moving.{enter_here, take_here}
use Rattle.cyc_model.specs.Questions.{plain, outstanding_here}
use Rattle.cyc_model.specs.State.{State, Outcome, On, absent, cpu_of, on_number, followed_by}
use Rattle.cyc_model.specs.Places.{is_bound, destination_of, put_at, replaced}
use Rattle.cyc_model.specs.Add.{cyclic_that_expired, enter}
use Rattle.cyc_model.specs.Bind.{bring, move}
use Rattle.cyc_model.specs.Juggle.{Turn, IsBound, IsPending, IsRefused as IsTurnedAway, Moves, turn_to, turn, take_turn}
use Rattle.cyc_model.proofs.Local.{local_enter, local_take}
use Rattle.cyc_system_model.specs.Answers.{IsRefused, why_no_room}
use Rattle.cyc_system_model.proofs.Free.{none_admitted, take_none}
use Rattle.cyc_system_model.specs.Shown.{shown_cpus, ShowsSystem}
use Rattle.cyc_system_model.specs.SystemWords.{GivesIndexes}
use Rattle.cyc_system_model.specs.Room.{HaveRoomFor}
use Rattle.cyc_system_model.proofs.Lists.{length_set}
use Rattle.cyc_system_model.proofs.Cpus.{cpu_at, done_at}
use Rattle.cyc_system_model.proofs.Asking.{bound_shown}
use Rattle.cyc_system_model.proofs.Destinations.{destination_shown}
use Rattle.cyc_system_model.proofs.Entering.{unchanged, same_shown}
use Rattle.cyc_system_model.proofs.Replacing.{replaced_shows}
use Rattle.cyc_system_model.proofs.Half.{Half}
use Rattle.cyc_system_model.proofs.Records.{fewer_here}
use Rattle.cyc_system_model.proofs.Rooms.{room_did, no_want}
use Rattle.cyc_system_model.proofs.Going.{Goes, goes_alike, goes_from, goes_to, goes_then, goes_on}
use Rattle.cyc_system_model.proofs.Binding.{Went, went, is_less}

-- ---- which turn it is

-- the definition's turn, where this is the destination
abbrev pub as_turn : ℕ → TurnThere → Turn
as_turn d there.StaysBound = IsBound
as_turn d there.StaysPending = IsPending
as_turn d there.StaysRefused = IsTurnedAway
as_turn d there.Moves = Moves d

refused_some : (e : Refusal) (o : Option Refusal) → IsRefused e o → e ≢ Memory → is_some o ≡ true
refused_some Memory o is other = absurd (other refl)
refused_some e o is other = ap is_some is

module _ (source id : ℕ) (s : State) (v : SystemView Tables) (h : ShowsSystem s v) (hv : Half v) where
  at_cpu : (k : ℕ) → cpu_of k s ≡ cpu_at v.cpus k
  at_cpu k = ap (λ cs. get_or cs k absent) h.cpus

  abbrev goes_on_to : Turn
  goes_on_to = turn_to plain id (destination_of (Some source) s) s

  abbrev not_bound : Turn
  not_bound = cond (nat_lt 0 (outstanding_here id (cpu_of source s))) IsPending goes_on_to

  turn_bound : HasPlacement id source true v → turn plain source id s ≡ IsBound
  turn_bound at = ap (λ b. cond b IsBound not_bound) (bound_shown id source true s v h hv.rising at)

  turn_free : HasPlacement id source false v → turn plain source id s ≡ not_bound
  turn_free at = ap (λ b. cond b IsBound not_bound) (bound_shown id source false s v h hv.rising at)

  turn_pending : HasPlacement id source false v → (k : ℕ) → 0 < k → k ≡ outstanding_here id (cpu_at v.cpus source)
      → turn plain source id s ≡ IsPending
  turn_pending at k some is = turn_free at ∙ ap (λ b. cond b IsPending goes_on_to)
      (ap (λ c. nat_lt 0 (outstanding_here id c)) (at_cpu source) ∙ ap (nat_lt 0) (sym is) ∙ is_less k some)

  turn_goes : HasPlacement id source false v → outstanding_here id (cpu_at v.cpus source) ≡ 0
      → (d : ℕ) → destination_in (Some source) v.cpus ≡ Some d
      → turn plain source id s ≡ cond (is_some (why_no_room 1 (cpu_at v.cpus d))) IsTurnedAway (Moves d)
  turn_goes at none d dest = turn_free at
      ∙ ap (λ b. cond b IsPending goes_on_to)
      (ap (λ c. nat_lt 0 (outstanding_here id c)) (at_cpu source) ∙ ap (nat_lt 0) none)
      ∙ ap (λ n. turn_to plain id n s)
      (destination_shown (Some source) s v.cpus h.cpus hv.long ∙ ap (λ o. option_map_or (λ n. n) o 0) dest)
      ∙ ap (λ c. cond (is_some (why_no_room 1 c)) IsTurnedAway (Moves d)) (at_cpu d)

-- ---- a cyclic that moves

module _ (source id target : ℕ) (x : CyclicState) (indexes : ℕ
    → ℕ) (s : State) (v w : SystemView Tables) (h : ShowsSystem s v) (hv : Half v)
    (d : Went id source target x v.cpus w.cpus) (is : indexes s.admissions ≡ d.index) where
  abbrev took : Outcome
  took = on_number source (take_here source id) s

  abbrev placed : State
  placed = put_at id (On target (is_bound id took.state)) took.state

  abbrev moved : Outcome
  moved = followed_by took (λ t. enter indexes target x (put_at id (On target (is_bound id t)) t))

  move_is : move indexes id source target s ≡ moved
  move_is = ap (λ o. followed_by took (λ t. bring indexes target o (put_at id (On target (is_bound id t)) t)))
      (ap (λ cs. cyclic_with_id id (get_or cs source absent)) h.cpus ∙ d.found)

  same_middle : placed.cpus ≡ d.middle
  same_middle = ap (λ cs. slice_set cs source (take_here source id (get_or cs source absent)).cpu) h.cpus ∙ sym d.left

  took_goes : Goes s took
  took_goes = goes_on source (take_here source id) s (local_take source id)
      (subst (λ cs. source < length cs) (sym h.cpus) d.source_there)
      (λ soft. none_admitted (take_here source id (cpu_of source s)).acts source soft _ (take_none source id (cpu_of source s)))
      (λ q. ap (λ cs. calls_of q (take_here source id (get_or cs source absent)).acts) h.cpus ∙ d.took q)

  target_there : target < length placed.cpus
  target_there =
      let l = length_set s.cpus source (take_here source id (cpu_of source s)).cpu in
      let low : target < length s.cpus = subst (λ cs. target < length cs) (sym h.cpus) d.target_there in
      omega (arith, l, low)

  can_enter : (soft : Soft) → AllCanBeAdmitted
      (events_at target soft (enter_here target (indexes s.admissions) x (cpu_of target placed)).acts)
      (level_at soft (cpu_of target placed))
  can_enter soft = subst (λ b. b) (λ z. AllCanBeAdmitted
      (events_at target soft (enter_here target (sym is z) x (get_or (sym same_middle z) target absent)).acts)
      (level_at soft (get_or (sym same_middle z) target absent))) (d.free soft)

  entered_goes : Goes took.state (enter indexes target x placed)
  entered_goes =
      let f = enter_here target (indexes s.admissions) x in
      goes_from took.state placed (enter indexes target x placed) (refl, refl)
      (goes_to placed (on_number target f placed) [] (enter indexes target x placed).state (refl, refl)
      (goes_on target f placed (local_enter target (indexes s.admissions) x) target_there can_enter
      (λ q. (λ z. calls_of q (enter_here target (is z) x (get_or (same_middle z) target absent)).acts) ∙ d.came q)))

  moved_goes : Goes s moved
  moved_goes = goes_then s took (λ t. enter indexes target x (put_at id (On target (is_bound id t)) t)) took_goes entered_goes

  moved_shows : HasPlacement id source false v → Records id (placements.On target false) v w → ShowsSystem moved.state w
  moved_shows at records = replaced_shows s moved.state v w h hv.rising id target false records
      ((λ z. slice_set (same_middle z) target (enter_here target (is z) x (get_or (same_middle z) target absent)).cpu)
      ∙ sym d.cpus)
      (ap (λ b. map (replaced id (On target b)) s.placed) (bound_shown id source false s v h hv.rising at))
      (λ i m. refl) refl

-- ---- the turn

-- what the definition's turn comes to
pub record TurnsTo (source id : ℕ) (t : TurnThere) (given : List ℕ) (indexes : ℕ → ℕ) (s : State)
    (w : SystemView Tables) : Type 0 where
  pub target : ℕ
  pub is : turn plain source id s ≡ as_turn target t
  pub shows : ShowsSystem (take_turn indexes source id (as_turn target t) s).state w
  pub goes : Goes s (take_turn indexes source id (as_turn target t) s)
  pub admissions : (take_turn indexes source id (as_turn target t) s).state.admissions ≡ s.admissions + length given

abbrev pub TurnsSo : ℕ → ℕ → TurnThere → SystemView Tables → SystemView Tables → Type 0
TurnsSo source id t v w = (given : List ℕ) × ((s : State) (indexes : ℕ → ℕ) → ShowsSystem s v
    → GivesIndexes indexes s.admissions given
    → TurnsTo source id t given indexes s w)

-- after an ask for a cyclic that may go, its destination has fewer cyclics than there are records
fewer_there : (source id d : ℕ) (v : SystemView Tables) (u : CpusView Tables) → Half v → Agrees v → HasPlacement id source false v
    → destination_in (Some source) v.cpus ≡ Some d → DoesAt raise_tables v.cpus (on_cpu source (AskPending id (Some 0))) u
    → (cpu : CpuView Tables) → IsCpu d cpu u → length cpu.cyclics + 1 ≤ length v.records
fewer_there source id d v u hv a (k, r, is, named, stands) dest ask cpu at =
    let asked = same_changed source _ v.cpus u ask (same_asked raise_tables ask.before ask.after id 0 ask.change.0) in
    let tied = (done_at source (AskPending id (Some 0)) v.cpus u hv.long hv.tied ask).tied in
    fewer_here (record v { cpus = u }) d k cpu r (agrees_same v u a asked) hv.rising tied at is
    (has_same v.cpus u asked d r.id ∙ not_elsewhere v k source d false r a hv.rising is stands
    (MayGo.apart v a hv.rising source d k r is stands dest))

pub turned : (source id : ℕ) (t : TurnThere) (v w : SystemView Tables) → Half v → Agrees v
    → (wanted : ℕ) → length v.records ≤ wanted → HaveRoomFor wanted v.cpus
    → TakesTurn raise_tables source id t v w → TurnsSo source id t v w
turned source id there.StaysBound v w hv agrees wanted few all (at, same) = (
  [],
  λ s indexes h gives. record {
    target = 0;
    is = turn_bound source id s v h hv at;
    shows = subst (ShowsSystem s) (sym same) h;
    goes = goes_alike s s (refl, refl);
    admissions = omega arith;
  },
)
turned source id there.StaysPending v w hv agrees wanted few all (at, k, some, ((u, ask, same), records, last)) =
    let a = done_at source (AskPending id (Some k)) v.cpus u hv.long hv.tied ask in (
      [],
      λ s indexes h gives. record {
        target = 0;
        is = turn_pending source id s v h hv at k some (a.answered tt).1;
        shows = same_shown s v w h (ap shown_cpus (sym same) ∙ unchanged v.cpus u source a.cpus) records last;
        goes = goes_alike s s (refl, refl);
        admissions = omega arith;
      },
    )
turned source id there.StaysRefused v w hv agrees wanted few all
    (at, d, dest, e, ((u1, ask, (u2, reserve, same)), records, last)) =
    let a = done_at source (AskPending id (Some 0)) v.cpus u1 hv.long hv.tied ask in
    let r = done_at d (Reserve 1 (Err e)) u1 u2 a.long a.tied reserve in
    let asked = unchanged v.cpus u1 source a.cpus in
    let other : e ≢ Memory = no_want wanted d 1 e u1 u2
    (room_did wanted (on_cpu source (AskPending id (Some 0))) v.cpus u1 ask all)
    (λ cpu here. let one = fewer_there source id d v u1 hv agrees at dest ask cpu here in omega (arith, one, few)) reserve in
    let full : is_some (why_no_room 1 (cpu_at v.cpus d)) ≡ true =
    ap (λ cs. is_some (why_no_room 1 (get_or cs d absent))) (sym asked)
    ∙ refused_some e (why_no_room 1 (cpu_at u1 d)) (r.answered tt) other in (
      [],
      λ s indexes h gives. record {
        target = d;
        is = turn_goes source id s v h hv at (sym (a.answered tt).1) d dest ∙ ap (λ b. cond b IsTurnedAway (Moves d)) full;
        shows = same_shown s v w h (ap shown_cpus (sym same) ∙ unchanged u1 u2 d r.cpus ∙ asked) records last;
        goes = goes_alike s s (refl, refl);
        admissions = omega arith;
      },
    )
turned source id there.Moves v w hv agrees wanted few all (at, d, dest, (taken, works), records) =
    let g = went id source d taken v.cpus w.cpus hv.long hv.tied works in
    let x = cyclic_that_expired id taken.level taken.interval taken.moment taken.sent.sent taken.sent.lost in (
      g.index ∷ [],
      λ s indexes h gives.
          let same = move_is source id d x indexes s v w h hv g gives.0 in
          record {
            target = d;
            is = turn_goes source id s v h hv at g.quiet d dest ∙ ap (λ o. cond (is_some o) IsTurnedAway (Moves d)) g.room;
            shows = subst (λ (o : Outcome). ShowsSystem o.state w) (sym same)
                (moved_shows source id d x indexes s v w h hv g gives.0 at records);
            goes = subst (Goes s) (sym same) (moved_goes source id d x indexes s v w h hv g gives.0);
            admissions = ap (λ (o : Outcome). o.state.admissions) same;
          },
    )
