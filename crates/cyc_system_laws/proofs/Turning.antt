-- The turns of a juggle while CPUs have settled.
use Rattle.std.proofs.Common.{◌≡◌, ◌∙◌, ℕ, zero, suc, ◌<◌, ◌⊎◌, inl, inr, All, Option, Some, None, Result, Ok, Err, Bool, true}
use Rattle.std.proofs.Common.{false, List, [], ◌∷◌, ◌++◌, length, map, refl, sym, ap, subst, arith}
use Rattle.std.specs.Prelude.{not, nat_le}
use Rattle.std.specs.List.{slice_get}
use Rattle.std.specs.Option.{option_map_or}
use Rattle.std.proofs.lemmas.Bool.{cases_lt}
use Rattle.std.proofs.lemmas.List.Elements.{All-weaker, All-from_recursion, recursion_from_All}
use Rattle.std.proofs.lemmas.Option.{slice_get_within}
use mathlib.Core.Logic.{dite}
use native.Mathlib.Decide.{ℕ_discrete}
use Rattle.cyc_types.specs.declared.Raise.{Ghosts as Raise}
use Rattle.cyc_types.specs.declared.refusal.JuggleReport.{JuggleReport}
use Rattle.cyc_types.specs.declared.refusal.Refusal.{Refusal}
use Rattle.cyc_types.specs.declared.refusal.Refusal.TheVariants.{Left}
use Rattle.cyc_types.specs.declared.refusal.Refusal.TheVariants as why
use Rattle.cyc_types.specs.Reasons.{first_refusal, when, busy}
use Rattle.cyc_types.proofs.Runs.{folds_on}
use Rattle.cyc_cpu.specs.Cpu.{CpuView}
use Rattle.cyc_cpu.specs.Moving.{IsSettled}
use Rattle.cyc_cpu.specs.Calls.{CpuCall, CpuChanges as CpuChanges, AskPending, Reserve, TakeNow, Widen, Place}
use Rattle.cyc_cpu_laws.specs.Settled.{IsUntil}
use Rattle.cyc_agreement.specs.Cpus.{CpusView, IsCpu, OfCpu, CallOn, on, DoesAt, Works, online_cpus}
use Rattle.cyc_agreement.specs.Destination.{destination}
use Rattle.cyc_agreement.specs.Shifting.{moving}
use Rattle.cyc_agreement.proofs.CpuSpots.{one_cpu, cpu_there, cpu_after}
use Rattle.cyc_system.specs.System.{SystemView, is_online, removal_on}
use Rattle.cyc_system.specs.Refusals.{no_cpu, offline_cpu}
use Rattle.cyc_system.proofs.Spots.{get_some, same_some, none_some}
use Rattle.cyc_system.proofs.Destinations.{destination_fits}
use Rattle.cyc_system.specs.declared.turning.Turn.{Turn}
use Rattle.cyc_system.specs.declared.turning.Turn.TheVariants.{StaysBound, StaysPending, StaysRefused, Moves}
use Rattle.cyc_system.specs.Juggling.{TakesTurn, Turns, single_ids, MovesAway, last_cpu, juggle_refusals}
use Rattle.cyc_system.specs.Calls.{Changes, Juggle, Offline}
use Rattle.cyc_system_laws.specs.Parts.{OnCpu}
use Rattle.cyc_system_laws.specs.Settling.{RefusedTurn, refused_turns, IsRefusedTurn, IsUnsettledOrGrown, AreSettledBeside}
use Rattle.cyc_system_laws.proofs.Pieces.{parts_of}
use Rattle.cyc_system_laws.proofs.Settles.{first_of, err_same, as_many, NotSettled, rests_at, turn_rests, many_turn, not_before}
use Rattle.cyc_system_laws.proofs.Settles.{pending_here, refused_here}
use Rattle.cyc_system_laws.proofs.Calming.{Calm, Calms, parts_calm}

module _ {R : Type 0} (firing : Raise R) (n : ℕ) where
  -- ---- turns that find calls outstanding

  turns_pend : (ids : List ℕ) (report : JuggleReport) (s t : SystemView R) → Turns firing n ids report s t
      → 0 < report.pending → NotSettled firing n s.cpus
  turns_pend [] report s t (none, same) some =
      absurd (let e = ap (λ (r : JuggleReport). r.pending) none in omega (arith, e, some))
  turns_pend (own ∷ ids) report s t (StaysPending, u, rest, (placement, found, many, ((v, d, last), records, l)), is, more) some =
      (d.before, d.here, pending_here firing own found d.before d.after d.change many)
  turns_pend (own ∷ ids) report s t (StaysBound, u, rest, takes, is, more) some =
      not_before firing n s.cpus u.cpus (many_turn firing n own StaysBound s u takes)
      (turn_rests firing n own StaysBound s u takes) (turns_pend ids rest u t more
      (let e = ap (λ (r : JuggleReport). r.pending) is in omega (arith, e, some)))
  turns_pend (own ∷ ids) report s t (StaysRefused, u, rest, takes, is, more) some =
      not_before firing n s.cpus u.cpus (many_turn firing n own StaysRefused s u takes)
      (turn_rests firing n own StaysRefused s u takes) (turns_pend ids rest u t more
      (let e = ap (λ (r : JuggleReport). r.pending) is in omega (arith, e, some)))
  turns_pend (own ∷ ids) report s t (Moves, u, rest, takes, is, more) some =
      not_before firing n s.cpus u.cpus (many_turn firing n own Moves s u takes)
      (turn_rests firing n own Moves s u takes) (turns_pend ids rest u t more
      (let e = ap (λ (r : JuggleReport). r.pending) is in omega (arith, e, some)))

  none_pend : (report : JuggleReport) (s t : SystemView R) → MovesAway firing n report s t
      → OfCpu n (IsSettled firing.view) s.cpus
      → report.pending ≡ 0
  none_pend report s t moves settled = by report.pending refl
    where
      by : (k : ℕ) → report.pending ≡ k → report.pending ≡ 0
      by zero e = e
      by (suc k) e = (let (cpu, at, not) = turns_pend (single_ids n s) report s t moves (omega (arith, e)) in
          absurd (not (settled cpu at)))

  pub juggled_none : (report : JuggleReport) (s t : SystemView R) → Changes firing s (Juggle n (Ok report)) t
      → OfCpu n (IsSettled firing.view) s.cpus → report.pending ≡ 0
  juggled_none report s t (inl (e, why, is, same)) settled = absurd (let odd : Ok report ≡ Err e = is in cc)
  juggled_none report s t (inr (clear, (own, is, moves))) settled =
      let e = ok_same report own is in subst (λ (r : JuggleReport). r.pending ≡ 0) (sym e) (none_pend own s t moves settled)
    where
      ok_same : (x y : JuggleReport) → ◌≡◌ {A = Result JuggleReport Refusal} (Ok x) (Ok y) → x ≡ y
      ok_same x y e = cc

  -- ---- an offline, which begins with the same turns

  abbrev IsLeft : Refusal → Type 0
  IsLeft (Left r) = Unit {0}
  IsLeft e = ⊥

  other : (b : Bool) (x e : Refusal) → when b x ≡ Some e → (IsLeft x → ⊥) → IsLeft e → ⊥
  other true x e h not left = not (subst IsLeft (sym (same_some h)) left)
  other false x e h not left = none_some h

  never_left : (s : SystemView R) (e : Refusal) → first_refusal (juggle_refusals n s) ≡ Some e → IsLeft e → ⊥
  never_left s e h left = one (first_of (no_cpu n s) (offline_cpu n s ∷ last_cpu s ∷ busy (removal_on n s.cpus) ∷ []) e h)
    where
      busy_other : (p : Option ℕ) → busy p ≡ Some e → ⊥
      busy_other None h = none_some h
      busy_other (Some r) h = subst IsLeft (sym (same_some h)) left

      four : (busy (removal_on n s.cpus) ≡ Some e) ⊎ (first_refusal [] ≡ Some e) → ⊥
      four (inl own) = busy_other (removal_on n s.cpus) own
      four (inr others) = none_some others

      three : (last_cpu s ≡ Some e) ⊎ (first_refusal (busy (removal_on n s.cpus) ∷ []) ≡ Some e) → ⊥
      three (inl own) = other (nat_le (length (online_cpus s.cpus)) 1) why.LastCpu e own (λ u. u) left
      three (inr others) = four (first_of (busy (removal_on n s.cpus)) [] e others)

      two : (offline_cpu n s ≡ Some e) ⊎ (first_refusal (last_cpu s ∷ busy (removal_on n s.cpus) ∷ []) ≡ Some e) → ⊥
      two (inl own) = other (not (is_online n s.cpus)) why.Offline e own (λ u. u) left
      two (inr others) = three (first_of (last_cpu s) (busy (removal_on n s.cpus) ∷ []) e others)

      one : (no_cpu n s ≡ Some e) ⊎ (first_refusal (offline_cpu n s ∷ last_cpu s ∷ busy (removal_on n s.cpus) ∷ []) ≡ Some e) → ⊥
      one (inl own) = other (nat_le (length s.cpus.cpus) n) why.NoCpu e own (λ u. u) left
      one (inr others) = two (first_of (offline_cpu n s) (last_cpu s ∷ busy (removal_on n s.cpus) ∷ []) e others)

  left_same : (x y : JuggleReport) → ◌≡◌ {A = Result (Unit {0}) Refusal} (Err (Left x)) (Err (Left y)) → x ≡ y
  left_same x y e = cc

  pub left_none : (report : JuggleReport) (s t : SystemView R) → Changes firing s (Offline n (Err (Left report))) t
      → OfCpu n (IsSettled firing.view) s.cpus → report.pending ≡ 0
  left_none report s t (inl (e, first, is, same)) settled = absurd (never_left s e first (subst IsLeft (err_same is) tt))
  left_none report s t (inr (clear, (own, moved, moves, inl (left, is, same)))) settled =
      subst (λ (r : JuggleReport). r.pending ≡ 0) (sym (left_same report own is)) (none_pend own s moved moves settled)
  left_none report s t (inr (clear, (own, moved, moves, inr (inl (none, is, pending))))) settled =
      absurd (let odd : ◌≡◌ {A = Result (Unit {0}) Refusal} (Err (Left report)) (Err why.Pending) = is in cc)
  left_none report s t (inr (clear, (own, moved, moves, inr (inr (none, is, retires))))) settled =
      absurd (let odd : Err (Left report) ≡ Ok tt = is in cc)

  -- ---- the calls of the turns

  abbrev IsOfTurn : CpuCall → Type 0
  IsOfTurn (AskPending own (Some found)) = Unit {0}
  IsOfTurn (Reserve more answer) = Unit {0}
  IsOfTurn (TakeNow own (Ok taken)) = Unit {0}
  IsOfTurn (Widen more) = Unit {0}
  IsOfTurn (Place own level interval moment carried) = Unit {0}
  IsOfTurn call = ⊥

  abbrev AreOfTurns : List CallOn → Type 0
  AreOfTurns [] = Unit {0}
  AreOfTurns (c ∷ way) = IsOfTurn c.call × AreOfTurns way

  joined : (xs ys : List CallOn) → AreOfTurns xs → AreOfTurns ys → AreOfTurns (xs ++ ys)
  joined [] ys a b = b
  joined (x ∷ xs) ys a b = (a.0, joined xs ys a.1 b)

  turn_way : (own : ℕ) (turn : Turn) (s t : SystemView R) → TakesTurn firing n own turn s t
      → (way : List CallOn) × AreOfTurns way × Works firing way s.cpus t.cpus
  turn_way own StaysBound s t (placement, same) = ([], tt, sym (ap (λ (u : SystemView R). u.cpus) same))
  turn_way own StaysPending s t (placement, found, some, only) = (on n (AskPending own (Some found)) ∷ [], (tt, tt), only.0)
  turn_way own StaysRefused s t (placement, d, chosen, e, only) =
      (on n (AskPending own (Some 0)) ∷ on d (Reserve 1 (Err e)) ∷ [], (tt, (tt, tt)), only.0)
  turn_way own Moves s t (placement, d, chosen, (taken, works), records) =
      (moving own n d taken, (tt, (tt, (tt, (tt, (tt, tt))))), works)

  turns_way : (ids : List ℕ) (report : JuggleReport) (s t : SystemView R) → Turns firing n ids report s t
      → (way : List CallOn) × AreOfTurns way × Works firing way s.cpus t.cpus
  turns_way [] report s t (none, same) = ([], tt, sym (ap (λ (u : SystemView R). u.cpus) same))
  turns_way (own ∷ ids) report s t (turn, u, rest, takes, is, more) =
      let (a, p, x) = turn_way own turn s u takes in let (b, q, y) = turns_way ids rest u t more in
      (a ++ b, joined a b p q, folds_on (DoesAt firing) s.cpus a u.cpus b t.cpus x y)

  same_online : (way : List CallOn) (v w : CpusView R) → Works firing way v w → w.online ≡ v.online
  same_online [] v w run = ap (λ (u : CpusView R). u.online) (sym run)
  same_online (c ∷ way) v w (u, d, rest) = same_online way u w rest ∙ ap (λ (z : CpusView R). z.online) d.rest

  calm_works : (m : ℕ) (way : List CallOn) (v w : CpusView R) → Works firing way v w → Calms firing m v w
  calm_works m way v w works = parts_calm firing m (map OnCpu way) v w (parts_of firing way v w works)

  -- none of them opens a removal
  call_shut : (x y : CpuView R) (call : CpuCall) → IsOfTurn call → CpuChanges firing x call y → x.removal ≡ None
      → y.removal ≡ None
  call_shut x y (AskPending own (Some found)) of_turn d shut = d.0.kept.removal ∙ shut
  call_shut x y (Reserve more (Ok done)) of_turn d shut = d.0.removal ∙ shut
  call_shut x y (Reserve more (Err e)) of_turn d shut = d.0.kept.removal ∙ shut
  call_shut x y (TakeNow own (Ok taken)) of_turn (still, (c, counts, is, polled, l)) shut = l.removal
  call_shut x y (Widen more) of_turn d shut = d.1.removal ∙ shut
  call_shut x y (Place own level interval moment carried) of_turn d shut = d.1.kept.removal ∙ shut
  call_shut x y call of_turn d shut = absurd of_turn

  abbrev Shut : ℕ → CpusView R → Type 0
  Shut m v = (x : CpuView R) × IsCpu m x v × (x.removal ≡ None)

  at_shut : (m : ℕ) (c : CallOn) (v w : CpusView R) → IsOfTurn c.call → DoesAt firing v c w → Shut m v → Shut m w
  at_shut m c v w of_turn d (x, at, shut) = dite (ℕ_discrete m c.cpu)
      (λ e. (
        d.after,
        subst (λ k. IsCpu k d.after w) (sym e)
            (subst (λ u. IsCpu c.cpu d.after u) (sym d.rest) (cpu_there c.cpu d.before d.after v d.here)),
        call_shut d.before d.after c.call of_turn d.change
            (ap (λ (z : CpuView R). z.removal) (one_cpu c.cpu d.before x v d.here (subst (λ k. IsCpu k x v) e at)) ∙ shut),
      ))
      (λ ne. (x, cpu_after c.cpu m _ x v w ne d at, shut))

  works_shut : (m : ℕ) (way : List CallOn) (v w : CpusView R) → AreOfTurns way → Works firing way v w → Shut m v → Shut m w
  works_shut m [] v w of_turns run shut = subst (Shut m) run shut
  works_shut m (c ∷ way) v w of_turns (u, d, rest) shut =
      works_shut m way u w of_turns.1 rest (at_shut m c v u of_turns.0 d shut)

  -- ---- turns that are refused

  turns_counted : (ids : List ℕ) (report : JuggleReport) (s t : SystemView R) (turns : Turns firing n ids report s t)
      → length (refused_turns firing n ids report s t turns) ≡ report.refused
  turns_counted [] report s t (none, same) = sym (ap (λ (r : JuggleReport). r.refused) none)
  turns_counted (own ∷ ids) report s t (StaysBound, u, rest, takes, is, more) =
      let a = turns_counted ids rest u t more in let e = ap (λ (r : JuggleReport). r.refused) is in omega (arith, a, e)
  turns_counted (own ∷ ids) report s t (StaysPending, u, rest, takes, is, more) =
      let a = turns_counted ids rest u t more in let e = ap (λ (r : JuggleReport). r.refused) is in omega (arith, a, e)
  turns_counted (own ∷ ids) report s t (StaysRefused, u, rest, (placement, d, chosen, x, only), is, more) =
      let a = turns_counted ids rest u t more in let e = ap (λ (r : JuggleReport). r.refused) is in omega (arith, a, e)
  turns_counted (own ∷ ids) report s t (Moves, u, rest, takes, is, more) =
      let a = turns_counted ids rest u t more in let e = ap (λ (r : JuggleReport). r.refused) is in omega (arith, a, e)

  -- a refused turn, the calls of the turns before it, and those from it on
  abbrev Within : SystemView R → SystemView R → RefusedTurn R → Type 0
  Within s t r = IsRefusedTurn firing n r
      × (before : List CallOn) × AreOfTurns before × Works firing before s.cpus r.before.cpus
      × (after : List CallOn) × Works firing after r.before.cpus t.cpus

  sooner : (own : ℕ) (turn : Turn) (s u t : SystemView R) → TakesTurn firing n own turn s u → (r : RefusedTurn R)
      → Within u t r → Within s t r
  sooner own turn s u t takes r (is, before, are, first, after, last) =
      let (way, own_are, works) = turn_way own turn s u takes in (
        is,
        way ++ before,
        joined way before own_are are,
        folds_on (DoesAt firing) s.cpus way u.cpus before r.before.cpus works first,
        after,
        last,
      )

  all_sooner : (own : ℕ) (turn : Turn) (s u t : SystemView R) → TakesTurn firing n own turn s u → (rs : List (RefusedTurn R))
      → All (Within u t) rs → All (Within s t) rs
  all_sooner own turn s u t takes rs all = All-weaker (Within u t) (Within s t) (sooner own turn s u t takes) rs all

  within : (ids : List ℕ) (report : JuggleReport) (s t : SystemView R) (turns : Turns firing n ids report s t)
      → All (Within s t) (refused_turns firing n ids report s t turns)
  within [] report s t turns = λ k r low. absurd (omega (arith, low))
  within (own ∷ ids) report s t (StaysBound, u, rest, takes, is, more) =
      all_sooner own StaysBound s u t takes (refused_turns firing n ids rest u t more) (within ids rest u t more)
  within (own ∷ ids) report s t (StaysPending, u, rest, takes, is, more) =
      all_sooner own StaysPending s u t takes (refused_turns firing n ids rest u t more) (within ids rest u t more)
  within (own ∷ ids) report s t (Moves, u, rest, takes, is, more) =
      all_sooner own Moves s u t takes (refused_turns firing n ids rest u t more) (within ids rest u t more)
  within (own ∷ ids) report s t (StaysRefused, u, rest, (placement, d, chosen, e, only), is, more) =
      let (way, are, works) = turns_way (own ∷ ids) report s t
      (StaysRefused, u, rest, (placement, d, chosen, e, only), is, more) in
      All-from_recursion (Within s t)
      (refused_turns firing n (own ∷ ids) report s t (StaysRefused, u, rest, (placement, d, chosen, e, only), is, more)) (
        ((chosen, only), [], tt, refl, way, works),
        recursion_from_All (Within s t) (refused_turns firing n ids rest u t more)
            (all_sooner own StaysRefused s u t (placement, d, chosen, e, only) (refused_turns firing n ids rest u t more)
            (within ids rest u t more)),
      )

  -- a destination that refuses until something is done first has not settled
  destination_stops : (own d : ℕ) (e : Refusal) (s u : SystemView R) → destination (Some n) s.cpus ≡ Some d
      → Works firing (on n (AskPending own (Some 0)) ∷ on d (Reserve 1 (Err e)) ∷ []) s.cpus u.cpus → IsUntil e
      → NotSettled firing d s.cpus
  destination_stops own d e s u chosen (v, a, (w, b, last)) until =
      not_before firing d s.cpus v (as_many firing (on n (AskPending own (Some 0)) ∷ []) s.cpus v (v, a, refl))
      (rests_at firing d n _ s.cpus v a (λ q. absurd ((destination_fits (Some n) s.cpus d chosen).1 (ap Some (sym q)))))
      (b.before, b.here, refused_here firing d 1 e b.before b.after b.change until)

  -- and where no removal is open there it refuses with Expanding
  reserve_expands : (e : Refusal) (x y : CpuView R) → CpuChanges firing x (Reserve 1 (Err e)) y → x.removal ≡ None → IsUntil e
      → e ≡ why.Expanding
  reserve_expands why.Expanding x y d shut until = refl
  reserve_expands (why.Busy r) x y d shut until = absurd (none_some (sym (d.0.kept.removal ∙ shut) ∙ d.1.2))
  reserve_expands why.Pending x y d shut until = absurd d.1
  reserve_expands e x y d shut until = absurd until

  destination_expands : (own d : ℕ) (e : Refusal) (s u : SystemView R) → destination (Some n) s.cpus ≡ Some d
      → Works firing (on n (AskPending own (Some 0)) ∷ on d (Reserve 1 (Err e)) ∷ []) s.cpus u.cpus → IsUntil e
      → Shut d s.cpus → e ≡ why.Expanding
  destination_expands own d e s u chosen (v, a, (w, b, last)) until (x, at, shut) =
      let there = cpu_after n d _ x s.cpus v (λ q. (destination_fits (Some n) s.cpus d chosen).1 (ap Some (sym q))) a at in
      reserve_expands e b.before b.after b.change
      (ap (λ (y : CpuView R). y.removal) (one_cpu d b.before x v b.here there) ∙ shut) until

  -- who is no longer settled was not, or has grown
  not_or_grown : (e : Refusal) (x y : CpuView R) → Calm firing x y → (IsSettled firing.view y → ⊥)
      → (x.removal ≡ None → e ≡ why.Expanding)
      → (IsSettled firing.view x → ⊥) ⊎ ((e ≡ why.Expanding) × (x.size < y.size))
  not_or_grown e x y calm unsettled expands = elim (cases_lt x.size y.size) [
    | inl less ↦ grown x.removal refl less
    | inr more ↦ inl (λ settled. unsettled (calm.settled (let grows = calm.grows in omega (arith, grows, more)) settled))
  ]
    where
      grown : (o : Option ℕ) → x.removal ≡ o → x.size < y.size
          → (IsSettled firing.view x → ⊥) ⊎ ((e ≡ why.Expanding) × (x.size < y.size))
      grown None is less = inr (expands is, less)
      grown (Some r) is less = inl (λ settled. none_some (sym settled.still ∙ is))

  until_grown : (s t : SystemView R) (r : RefusedTurn R) → Within s t r → IsUntil r.why → IsUnsettledOrGrown firing.view s r
  until_grown s t r ((chosen, only), before, are, first, after, last) until =
      let (z, there, unsettled) = destination_stops r.id r.target r.why r.before r.after chosen only.0 until in
      let low = slice_get_within r.before.cpus.cpus r.target z there in
      let long = as_many firing before s.cpus r.before.cpus first in
      let (x, at) = get_some s.cpus.cpus r.target (omega (arith, low, long)) in
      let (y, here, calm) = calm_works r.target before s.cpus r.before.cpus first x at in (
        x,
        y,
        at,
        here,
        not_or_grown r.why x y calm
            (λ settled. unsettled (subst (IsSettled firing.view) (one_cpu r.target y z r.before.cpus here there) settled))
            (λ shut. destination_expands r.id r.target r.why r.before r.after chosen only.0 until
            (works_shut r.target before s.cpus r.before.cpus are first (x, at, shut))),
      )

  never_until : (s t : SystemView R) (r : RefusedTurn R) → Within s t r → AreSettledBeside firing.view n s t → IsUntil r.why → ⊥
  never_until s t r ((chosen, only), before, are, first, after, last) beside until =
      let (x, y, at, here, either) = until_grown s t r ((chosen, only), before, are, first, after, last) until in
      let (z, there, calm) = calm_works r.target after r.before.cpus t.cpus last y here in
      let (online, apart) = destination_fits (Some n) r.before.cpus r.target chosen in
      let (settled, same) = beside r.target x z (λ q. apart (ap Some (sym q)))
      (subst (λ os. option_map_or (λ (o : Bool). o) (slice_get os r.target) false ≡ true)
      (same_online before s.cpus r.before.cpus first) online) at there in
      let grows = calm.grows in elim either [
        | inl unsettled ↦ unsettled settled
        | inr (expands, less) ↦ omega (arith, less, grows, same)
      ]

  pub counted : (report : JuggleReport) (s t : SystemView R) (moves : MovesAway firing n report s t)
      → (length (refused_turns firing n (single_ids n s) report s t moves) ≡ report.refused)
      × All (IsRefusedTurn firing n) (refused_turns firing n (single_ids n s) report s t moves)
  counted report s t moves = (
    turns_counted (single_ids n s) report s t moves,
    All-weaker (Within s t) (IsRefusedTurn firing n) (λ r w. w.0) (refused_turns firing n (single_ids n s) report s t moves)
        (within (single_ids n s) report s t moves),
  )

  pub stopped : (report : JuggleReport) (s t : SystemView R) (moves : MovesAway firing n report s t)
      → All (λ (r : RefusedTurn R). IsUntil r.why → IsUnsettledOrGrown firing.view s r)
      (refused_turns firing n (single_ids n s) report s t moves)
  stopped report s t moves = All-weaker (Within s t) (λ r. IsUntil r.why → IsUnsettledOrGrown firing.view s r)
      (until_grown s t) (refused_turns firing n (single_ids n s) report s t moves) (within (single_ids n s) report s t moves)

  pub turned : (report : JuggleReport) (s t : SystemView R) (moves : MovesAway firing n report s t)
      → AreSettledBeside firing.view n s t
      → All (λ (r : RefusedTurn R). IsUntil r.why → ⊥) (refused_turns firing n (single_ids n s) report s t moves)
  turned report s t moves beside = All-weaker (Within s t) (λ r. IsUntil r.why → ⊥) (λ r w. never_until s t r w beside)
      (refused_turns firing n (single_ids n s) report s t moves) (within (single_ids n s) report s t moves)
