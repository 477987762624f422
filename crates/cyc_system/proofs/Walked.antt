-- The walk over the ids of the source: some of them have had their turns.
use Rattle.std.proofs.Common.{◌≡◌, ℕ, ◌+◌, ◌<◌, ◌≤◌, Bool, true, false, not, Option, Some, None, List, [], ◌∷◌, ◌++◌, inl, length}
use Rattle.std.proofs.Common.{filter, take, drop, refl, sym, ap, ◌∙◌, subst, arith}
use Rattle.std.specs.List.{slice_get}
use Rattle.cyc_types.specs.declared.Raise.{Ghosts as Raise}
use Rattle.cyc_types.specs.declared.refusal.JuggleReport.{JuggleReport}
use Rattle.cyc_places.specs.declared.record.Record.{Record}
use Rattle.cyc_places.specs.Places.{RecordsView, IsRecord, HasRisingIds, ended_on}
use Rattle.cyc_agreement.specs.Cpus.{CpusView}
use Rattle.cyc_agreement.specs.System.{SystemView, ids_on, removal_on, is_omnipresent}
use Rattle.cyc_agreement.specs.Agreement.{Agrees, most_on}
use Rattle.cyc_agreement.specs.Holding.{EndedWithin}
use Rattle.cyc_agreement.proofs.Holding.{within_kept}
use Rattle.cyc_agreement.proofs.Shifted.{Rise}
use Rattle.cyc_system.specs.declared.turning.Turn.{Turn}
use Rattle.cyc_system.specs.declared.turning.Turn.TheVariants.{StaysBound, StaysPending, StaysRefused, Moves}
use Rattle.cyc_system.specs.Juggling.{system_of, TakesTurn, Turns, counted, no_turns, single_ids}
use Rattle.cyc_system.specs.Walking.{Visits, counted_if, all_turns, all_left}
use Rattle.cyc_system.proofs.ListsUpTo.{drop_removed, take_removed, first_at, rest_after, none_more, take_whole, filter_same}
use Rattle.cyc_system.proofs.ListsUpTo.{filter_in, filter_out, length_more}
use Rattle.cyc_system.proofs.Stepped.{Stepped, stepped, ids_after}
use Rattle.cyc_system.proofs.Stepping.{WalksOver, next_position, walks_on}

-- ---- turns

swap : (a b : Turn) (r : JuggleReport) → counted a (counted b r) ≡ counted b (counted a r)
swap StaysBound StaysBound r = refl
swap StaysBound StaysPending r = refl
swap StaysBound StaysRefused r = refl
swap StaysBound Moves r = refl
swap StaysPending StaysBound r = refl
swap StaysPending StaysPending r = refl
swap StaysPending StaysRefused r = refl
swap StaysPending Moves r = refl
swap StaysRefused StaysBound r = refl
swap StaysRefused StaysPending r = refl
swap StaysRefused StaysRefused r = refl
swap StaysRefused Moves r = refl
swap Moves StaysBound r = refl
swap Moves StaysPending r = refl
swap Moves StaysRefused r = refl
swap Moves Moves r = refl

pub turns_more : {R : Type 0} (firing : Raise R) (source : ℕ) (ids : List ℕ)
    (report : JuggleReport) (s t u : SystemView R) (id : ℕ) (turn : Turn)
    → Turns firing source ids report s t → TakesTurn firing source id turn t u
    → Turns firing source (ids ++ id ∷ []) (counted turn report) s u
turns_more firing source [] report s t u id turn (is, same) takes =
    (turn, u, no_turns, subst (λ x. TakesTurn firing source id turn x u) same takes, ap (counted turn) is, (refl, refl))
turns_more firing source (j ∷ ids) report s t u id turn (first, m, rest, takes, is, more) last = (
  first,
  m,
  counted turn rest,
  takes,
  ap (counted turn) is
      ∙ swap turn first rest,
  turns_more firing source ids rest m t u id turn more last,
)

total_more : (turn : Turn) (r : JuggleReport) → all_turns (counted turn r) ≡ all_turns r + 1
total_more StaysBound r = omega arith
total_more StaysPending r = omega arith
total_more StaysRefused r = omega arith
total_more Moves r = omega arith

-- ---- the walk

-- an id that has turns
abbrev pub is_single : {R : Type 0} → CpusView R → RecordsView → ℕ → Bool
is_single v rs id = not (is_omnipresent id (system_of v rs 0))

-- the first `done` of the source's ids had their turns, and `position` of them are still there
pub record Walked {R : Type 0} (firing : Raise R) (source : ℕ) (v : CpusView R)
    (rs : RecordsView)
    (done position : ℕ) (report : JuggleReport) (w : CpusView R) (qs : RecordsView) : Type 0 where
  pub run : (last : ℕ) → Turns firing source (filter (is_single v rs) (take done (ids_on source v))) report
      (system_of v rs last) (system_of w qs last)
  pub agrees : (last : ℕ) → Agrees (system_of v rs last) → Agrees (system_of w qs last)
  pub rest : drop position (ids_on source w) ≡ drop done (ids_on source v)
  pub single : (id : ℕ) → is_single w qs id ≡ is_single v rs id
  pub stayed : length (filter (is_single v rs) (take position (ids_on source w))) ≡ all_left report
  pub few : all_turns report ≤ done
  pub online : w.online ≡ v.online
  pub there : length w.cpus ≡ length v.cpus
  pub still : removal_on source w ≡ None
  pub within : (last : ℕ) → EndedWithin (system_of v rs last) → EndedWithin (system_of w qs last)

module _ {R : Type 0} (firing : Raise R) (source : ℕ) (v : CpusView R)
    (rs : RecordsView) where
  pub walked_none : removal_on source v ≡ None → Walked firing source v rs 0 0 no_turns v rs
  walked_none still = record {
    run = λ last. (refl, refl);
    agrees = λ last a. a;
    rest = refl;
    single = λ id. refl;
    stayed = refl;
    few = omega arith;
    online = refl;
    there = refl;
    still = still;
    within = λ last h. h;
  }

  module _ (done position : ℕ) (report after : JuggleReport) (w x : CpusView R) (qs ps : RecordsView)
      (i : Walked firing source v rs done position report w qs)
      (rising : HasRisingIds qs.list) (rise : Rise (ids_on source w)) (low : source < length w.cpus)
      (agrees : (last : ℕ) → Agrees (system_of w qs last) → Agrees (system_of x ps last)) where
    module _ (id : ℕ) (spot : slice_get (ids_on source w) position ≡ Some id) where
      first : slice_get (ids_on source v) done ≡ Some id
      first = first_at (ids_on source w) (ids_on source v) position done id i.rest spot

      steps : (turn : Option Turn) → ((last : ℕ) → Visits firing source id turn (system_of w qs last) (system_of x ps last))
          → Stepped source position turn (system_of w qs 0) (system_of x ps 0)
      steps turn visits = stepped firing source position id (system_of w qs 0)
          (system_of x ps 0) rising rise spot i.still low turn (visits 0)

      omni_too : (b : Bool) → is_omnipresent id (system_of w qs 0) ≡ b → is_single v rs id ≡ not b
      omni_too b e = sym (i.single id) ∙ ap not e

      within_step : (last : ℕ) → ((n : ℕ) → most_on n x ≡ most_on n w)
          → ((k : ℕ) (r : Record) → IsRecord ps.list k r → (q : Record) × IsRecord qs.list k q
          × ((n : ℕ) → ended_on n r ≡ ended_on n q))
          → EndedWithin (system_of w qs last) → EndedWithin (system_of x ps last)
      within_step last most ended h = within_kept (system_of w qs last) (system_of x ps last) most
          (λ k n m r is e. (let (q, at, same) = ended k r is in inl (k, q, at, same n))) h

      -- it stays where it is
      stays_here : (turn : Option Turn) → Stepped source position turn (system_of w qs 0) (system_of x ps 0)
          → ids_after turn position (ids_on source w) ≡ ids_on source w
          → (r : JuggleReport) → ((last : ℕ) → Turns firing source
          (filter (is_single v rs) (take (done + 1) (ids_on source v))) r (system_of v rs last) (system_of x ps last))
          → length (filter (is_single v rs) (take (position + 1) (ids_on source w))) ≡ all_left r → all_turns r ≤ done + 1
          → Walked firing source v rs (done + 1) (position + 1) r x ps
      stays_here turn p same r run stayed few = record {
        run = run;
        agrees = λ last a. agrees last (i.agrees last a);
        rest = ap (drop (position + 1)) (p.ids ∙ same) ∙ rest_after (ids_on source w)
            (ids_on source v) position done id i.rest spot;
        single = λ q. ap not (p.omni q) ∙ i.single q;
        stayed = ap (λ ids. length (filter (is_single v rs) (take (position + 1) ids))) (p.ids ∙ same) ∙ stayed;
        few = few;
        online = p.online ∙ i.online;
        there = p.there ∙ i.there;
        still = p.still;
        within = λ last h. within_step last p.most p.ended (i.within last h);
      }

      run_more : (turn : Turn) → ((last : ℕ) → Visits firing source id (Some turn) (system_of w qs last) (system_of x ps last))
          → (last : ℕ)
          → Turns firing source (filter (is_single v rs) (take (done + 1) (ids_on source v))) (counted turn report)
          (system_of v rs last) (system_of x ps last)
      run_more turn visits last = subst (λ ids. Turns firing source ids (counted turn report) (system_of v rs last)
          (system_of x ps last))
          (sym (filter_in (is_single v rs) (ids_on source v) done id first (omni_too false (visits 0).0)))
          (turns_more firing source (filter (is_single v rs) (take done (ids_on source v))) report (system_of v rs last)
          (system_of w qs last) (system_of x ps last) id turn (i.run last) (visits last).1)

      stayed_more : (turn : Turn) → ((last : ℕ)
          → Visits firing source id (Some turn) (system_of w qs last) (system_of x ps last))
          → all_left (counted turn report) ≡ all_left report + 1
          → length (filter (is_single v rs) (take (position + 1) (ids_on source w))) ≡ all_left (counted turn report)
      stayed_more turn visits e = ap length (filter_in (is_single v rs) (ids_on source w) position id spot
          (omni_too false (visits 0).0))
          ∙ length_more (filter (is_single v rs) (take position (ids_on source w))) id ∙ ap (λ n. n + 1) i.stayed ∙ sym e

      few_more : (turn : Turn) → all_turns (counted turn report) ≤ done + 1
      few_more turn = let a = total_more turn report in let b = i.few in omega (arith, a, b)

      by_turn : (turn : Option Turn) → ((last : ℕ) → Visits firing source id turn (system_of w qs last) (system_of x ps last))
          → Walked firing source v rs (done + 1) (next_position turn position) (counted_if turn report) x ps
      by_turn None visits =
          let out = omni_too true (visits 0).0 in
          let few = i.few in
          stays_here None (steps None visits) refl report
          (λ last. subst (λ ids. Turns firing source ids report (system_of v rs last) (system_of x ps last))
          (sym (filter_out (is_single v rs) (ids_on source v) done id first out))
          (subst (λ t. Turns firing source (filter (is_single v rs) (take done (ids_on source v))) report
          (system_of v rs last) t) (sym (visits last).1) (i.run last)))
          (ap length (filter_out (is_single v rs) (ids_on source w) position id spot out) ∙ i.stayed) (omega (arith, few))
      by_turn (Some StaysBound) visits = stays_here (Some StaysBound) (steps (Some StaysBound) visits) refl
          (counted StaysBound report) (run_more StaysBound visits) (stayed_more StaysBound visits (omega arith))
          (few_more StaysBound)
      by_turn (Some StaysPending) visits = stays_here (Some StaysPending) (steps (Some StaysPending) visits) refl
          (counted StaysPending report) (run_more StaysPending visits) (stayed_more StaysPending visits (omega arith))
          (few_more StaysPending)
      by_turn (Some StaysRefused) visits = stays_here (Some StaysRefused) (steps (Some StaysRefused) visits) refl
          (counted StaysRefused report) (run_more StaysRefused visits) (stayed_more StaysRefused visits (omega arith))
          (few_more StaysRefused)
      by_turn (Some Moves) visits = let p = steps (Some Moves) visits in record {
        run = run_more Moves visits;
        agrees = λ last a. agrees last (i.agrees last a);
        rest = ap (drop position) p.ids ∙ drop_removed (ids_on source w) position id spot
            ∙ rest_after (ids_on source w) (ids_on source v) position done id i.rest spot;
        single = λ q. ap not (p.omni q) ∙ i.single q;
        stayed = ap (λ ids. length (filter (is_single v rs) (take position ids))) p.ids
            ∙ ap (λ ids. length (filter (is_single v rs) ids)) (take_removed (ids_on source w) position id spot) ∙ i.stayed;
        few = few_more Moves;
        online = p.online ∙ i.online;
        there = p.there ∙ i.there;
        still = p.still;
        within = λ last h. within_step last p.most p.ended (i.within last h);
      }

    -- one more has its turn, and the walk goes on
    pub walked_more : (id : ℕ) → slice_get (ids_on source w) position ≡ Some id → (passed : Option ℕ)
        → WalksOver (ids_on source w) passed position → (turn : Option Turn)
        → ((last : ℕ) → Visits firing source id turn (system_of w qs last) (system_of x ps last))
        → after ≡ counted_if turn report → (next : ℕ) × Walked firing source v rs (done + 1) next after x ps
        × WalksOver (ids_on source x) (Some id) next
    walked_more id spot passed walk turn visits counts = (
      next_position turn position,
      subst (λ r. Walked firing source v rs (done + 1) (next_position turn position) r x ps) (sym counts)
          (by_turn id spot turn visits),
      subst (λ ids. WalksOver ids (Some id) (next_position turn position)) (sym (steps id spot turn visits).ids)
          (walks_on turn (ids_on source w) passed position id rise spot walk),
    )

  -- all had their turns
  module _ (done position : ℕ) (report : JuggleReport) (w : CpusView R) (qs : RecordsView)
      (i : Walked firing source v rs done position report w qs) (all : length (ids_on source v) ≤ done) where
    pub walked_all : (last : ℕ) → Turns firing source (single_ids source (system_of v rs last)) report (system_of v rs last)
        (system_of w qs last)
    walked_all last = subst (λ ids. Turns firing source (filter (is_single v rs) ids) report (system_of v rs last)
        (system_of w qs last))
        (take_whole (ids_on source v) done (none_more (ids_on source v) done all)) (i.run last)

    pub walked_left : (last : ℕ) → length (single_ids source (system_of w qs last)) ≡ all_left report
    walked_left last = ap length (filter_same (is_single w qs) (is_single v rs) (ids_on source w) i.single)
        ∙ ap (λ ids. length (filter (is_single v rs) ids))
        (sym (take_whole (ids_on source w) position (i.rest ∙ none_more (ids_on source v) done all))) ∙ i.stayed
