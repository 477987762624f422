-- What the rule says of the records.
use Rattle.std.proofs.Common.{◌≡◌, ℕ, suc, ◌+◌, ◌*◌, ◌≤◌, List, [], ◌∷◌, ◌++◌, length, get_or, refl, sym, ap, ◌∙◌, subst, arith}
use Rattle.std.proofs.Common.{length-append}
use Rattle.std.proofs.Math.ListN.{get_or-eq_default}
use Rattle.std.proofs.lemmas.List.{append_cancel_right}
use Rattle.std.proofs.lemmas.List.Elements.{All-nil, All-cons}
use mathlib.Core.Option.{some}
use lib.ListN.{get_elem?}
use Rattle.std.specs.Prelude.{Option, Some, None, All}
use Rattle.cyc_level.specs.Level.{AdmittedCyclic, SoftLevel, count_in, in_hand, soft_list}
use Rattle.cyc_level.specs.Runs.{StayCounts}
use Rattle.cyc_level.proofs.Maps.{some_same, some_of, not_none}
use Rattle.ring_rule.specs.declared.Role.{Role}
use Rattle.ring_rule.specs.declared.Role.TheVariants.{Joint, Raise, Drain, Spent}
use Rattle.ring_rule.specs.declared.RaiseStep.{RaiseStep}
use Rattle.ring_rule.specs.declared.RaiseStep.TheVariants.{Admitted, Loaded, Lost, Added, Stored, Published, Marked, Cleared}
use Rattle.ring_rule.specs.declared.RaiseStep.TheVariants.{Switched, LoadedSoftBank}
use Rattle.ring_rule.specs.declared.DrainStep.{DrainStep}
use Rattle.ring_rule.specs.declared.DrainStep.TheVariants.{LoadedHardBank, LoadedProducer, Took, Subtracted, Followed}
use Rattle.ring_rule.specs.declared.SeatView.{SeatView}
use Rattle.ring_rule.specs.declared.Setting.{Setting}
use Rattle.ring_rule.specs.Words.{pend_word, mark_bit, producer_word, slot_word, entry_id}
use Rattle.ring_rule.specs.Trail.{open_stay, ended_calls, held_entry, id_in_entry, made_calls, consumer_index}
use Rattle.ring_rule.specs.Log.{RingStep, of_raise, of_drain, raise_side, raise_positions, drain_side, drain_positions}
use Rattle.ring_rule.specs.Log.{level_after_steps}
use Rattle.ring_rule.specs.Log.{stay_word, held_word, words_after, replay, AllTrue}
use Rattle.ring_rule.specs.Shown.{IsSameStay}
use Rattle.ring_rule.specs.Rule.{RingState, HasRaises, HasDrains, IsSeat, IsFiring, IsSoft, MeetsRule}
use Rattle.ring_rule.specs.Conservation.{LevelStands, AllStood}
use Rattle.ring_rule.specs.Steps.{with_raise_step, with_drain_step}
use Rattle.ring_rule.specs.Laws.{ItsRecordsStand, EachRecordIsTrue, placed, merged, AreSeats, TrailsMakeTheLog, SidesAreTheTrails}
use Rattle.ring_rule.specs.Laws.{RecordsComeAfter, NewRaiseIsTrue, NewDrainIsTrue, pend_of, RaiseFinds, DrainFinds, Finds}
use Rattle.ring_rule.specs.Laws.{FoundIsShown}
use Rattle.ring_rule.proofs.Words.{holds_end, first_some, first_held}
use Rattle.ring_rule.proofs.Log.{firing_side, soft_side, raises_placed, drains_placed, whole, steps, gained_raise, gained_drain}
use Rattle.ring_rule.proofs.Log.{grown, raise_stands, drain_stands}
use Rattle.ring_rule.proofs.Seats.{as_wide, at_here, other_stays, soft_apart, firing_apart}
use Rattle.ring_rule.proofs.Stays.{not_held}
use Rattle.ring_rule.proofs.Now.{softs_shown}

stand_as : (start : ℕ) (log : List RingStep) (raise_seat drain_seat j : ℕ) (v : SeatView) (r : Role) → AllTrue start log
    → IsSeat log raise_seat drain_seat j v r → ItsRecordsStand start log v r
stand_as start log a b j v Joint true h = (
  (λ n x e. let r = raise_stands start log true n x (ap (λ (t : List RaiseStep). get_elem? t n) (sym h.2.0) ∙ e) in
      (r.0, ap (λ (t : List ℕ). get_elem? t n) h.2.1 ∙ r.1, r.2)),
  (λ n x e. let r = drain_stands start log true n x (ap (λ (t : List DrainStep). get_elem? t n) (sym h.3.0) ∙ e) in
      (r.0, ap (λ (t : List ℕ). get_elem? t n) h.3.1 ∙ r.1, r.2)),
)
stand_as start log a b j v Raise true h = λ n x e. let r =
    raise_stands start log true n x (ap (λ (t : List RaiseStep). get_elem? t n) (sym h.1.0) ∙ e) in
    (r.0, ap (λ (t : List ℕ). get_elem? t n) h.1.1 ∙ r.1, r.2)
stand_as start log a b j v Drain true h = λ n x e. let r =
    drain_stands start log true n x (ap (λ (t : List DrainStep). get_elem? t n) (sym h.1.0) ∙ e) in
    (r.0, ap (λ (t : List ℕ). get_elem? t n) h.1.1 ∙ r.1, r.2)
stand_as start log a b j v Spent true h = tt

pub each_true : EachRecordIsTrue
each_true k s R seat v at = stand_as k.start R.log R.raise_seat R.drain_seat seat v v.role R.all_true (R.seats seat v at)

pub sides : SidesAreTheTrails
sides log = (firing_side log, soft_side log)

-- what the two seats of a state have
module _ (k : Setting) (s : RingState) (R : MeetsRule k s) (i j : ℕ) (v w : SeatView) (S : AreSeats s i v j w) where
  pub raises_are : HasRaises R.log v
  raises_are = (subst (λ (r : Role). IsSeat R.log R.raise_seat R.drain_seat i v r) S.1 (R.seats i v S.0)).1

  pub drains_are : HasDrains R.log w
  drains_are = (subst (λ (r : Role). IsSeat R.log R.raise_seat R.drain_seat j w r) S.3 (R.seats j w S.2)).1

pub make_the_log : TrailsMakeTheLog
make_the_log k s R i j v w S = let a = raises_are k s R i j v w S in let b = drains_are k s R i j v w S in
    sym (whole R.log) ∙ ((λ z. merged (steps R.log z) (raises_placed R.log) (drains_placed R.log))
    ∙ (λ z. merged (length (sym a.0 z) + length (sym b.0 z)) (placed (sym a.1 z) (sym a.0 z)) (placed (sym b.1 z) (sym b.0 z))))

-- what a seat has that makes a side's steps, of whichever role
raises_of : (log : List RingStep) (a b j : ℕ) (v : SeatView) (r : Role) → IsFiring r → IsSeat log a b j v r → HasRaises log v
raises_of log a b j v Joint is h = h.2
raises_of log a b j v Raise is h = h.1
raises_of log a b j v Drain is h = absurd is
raises_of log a b j v Spent is h = absurd is

drains_of : (log : List RingStep) (a b j : ℕ) (v : SeatView) (r : Role) → IsSoft r → IsSeat log a b j v r → HasDrains log v
drains_of log a b j v Joint is h = h.3
drains_of log a b j v Raise is h = absurd is
drains_of log a b j v Drain is h = h.1
drains_of log a b j v Spent is h = absurd is

-- what a state that keeps the rule says of a seat at its number
module _ (k : Setting) (s : RingState) (R : MeetsRule k s) (j : ℕ) (v : SeatView) (at : get_elem? s.views j ≡ some v) where
  its_raises : IsFiring v.role → HasRaises R.log v
  its_raises is = raises_of R.log R.raise_seat R.drain_seat j v v.role is (R.seats j v at)

  its_drains : IsSoft v.role → HasDrains R.log v
  its_drains is = drains_of R.log R.raise_seat R.drain_seat j v v.role is (R.seats j v at)

-- the seat's trail gains a record, and the other side's seat stays as it is
pub new_raise : NewRaiseIsTrue
new_raise k s s' R R' i slot_word v x at role gains = let v' : SeatView = with_raise_step slot_word x v in
    let j : ℕ = R.drain_seat in
    let w : SeatView = R.soft_side.0 in let there = R.soft_side.1 in let soft = R.soft_side.2 in
    let at' : get_elem? s'.views i ≡ some v' = ap (λ (l : List SeatView). get_elem? l i) gains ∙ at_here s.views i v v' at in
    let there' : get_elem? s'.views j ≡ some w = ap (λ (l : List SeatView). get_elem? l j) gains
    ∙ other_stays s.views i j v' w (soft_apart s.views i j v w at there role soft) there in
    let firing : IsFiring v.role = subst IsFiring (sym role) tt in
    let a = its_raises k s R i v at firing in let b = its_drains k s R j w there soft in let a' =
    its_raises k s' R' i v' at' firing in let b' = its_drains k s' R' j w there' soft in
    let g = gained_raise R.log R'.log slot_word x
    (λ z. placed ((sym a'.1 ∙ ap (λ (t : List ℕ). slot_word ∷ t) a.1) z) ((sym a'.0 ∙ ap (λ (t : List RaiseStep). x ∷ t) a.0) z))
    (λ z. placed ((sym b'.1 ∙ b.1) z) ((sym b'.0 ∙ b.0) z)) in (
      g.0,
      (subst (AllTrue k.start) g.1 R'.all_true).0,
      R'.words ∙ (ap (replay k.start) g.1 ∙ ap (words_after k.start (of_raise x) R.log) (sym R.words)),
    )

pub new_drain : NewDrainIsTrue
new_drain k s s' R R' i slot_word v x at role gains = let v' : SeatView = with_drain_step slot_word x v in
    let j : ℕ = R.raise_seat in
    let w : SeatView = R.firing_side.0 in let there = R.firing_side.1 in let firing = R.firing_side.2 in
    let at' : get_elem? s'.views i ≡ some v' = ap (λ (l : List SeatView). get_elem? l i) gains ∙ at_here s.views i v v' at in
    let there' : get_elem? s'.views j ≡ some w = ap (λ (l : List SeatView). get_elem? l j) gains
    ∙ other_stays s.views i j v' w (firing_apart s.views i j v w at there role firing) there in
    let soft : IsSoft v.role = subst IsSoft (sym role) tt in
    let a = its_raises k s R j w there firing in let b = its_drains k s R i v at soft in let a' =
    its_raises k s' R' j w there' firing in let b' = its_drains k s' R' i v' at' soft in
    let g = gained_drain R.log R'.log slot_word x (λ z. placed ((sym a'.1 ∙ a.1) z) ((sym a'.0 ∙ a.0) z))
    (λ z. placed ((sym b'.1 ∙ ap (λ (t : List ℕ). slot_word ∷ t) b.1) z) ((sym b'.0 ∙ ap (λ (t : List DrainStep). x ∷ t) b.0) z))
    in (
      g.0,
      (subst (AllTrue k.start) g.1 R'.all_true).0,
      R'.words ∙ (ap (replay k.start) g.1 ∙ ap (words_after k.start (of_drain x) R.log) (sym R.words)),
    )

placed_append : {A : Type 0} (ns ms : List ℕ) (xs ys : List A) → length ns ≡ length xs
    → placed (ns ++ ms) (xs ++ ys) ≡ placed ns xs ++ placed ms ys
placed_append [] ms [] ys e = refl
placed_append [] ms (x ∷ xs) ys e = absurd (omega (arith, e))
placed_append (n ∷ ns) ms [] ys e = absurd (omega (arith, e))
placed_append (n ∷ ns) ms (x ∷ xs) ys e = ap (λ l. (n, x) ∷ l) (placed_append ns ms xs ys (omega (arith, e)))

even_raises : (log : List RingStep) → length (raise_positions log) ≡ length (raise_side log)
even_raises [] = refl
even_raises (of_raise x ∷ log) = ap suc (even_raises log)
even_raises (of_drain x ∷ log) = even_raises log

even_drains : (log : List RingStep) → length (drain_positions log) ≡ length (drain_side log)
even_drains [] = refl
even_drains (of_raise x ∷ log) = even_drains log
even_drains (of_drain x ∷ log) = ap suc (even_drains log)

raises_append : (later log : List RingStep) → raise_side (later ++ log) ≡ raise_side later ++ raise_side log
raises_append [] log = refl
raises_append (of_raise x ∷ later) log = ap (λ (t : List RaiseStep). x ∷ t) (raises_append later log)
raises_append (of_drain x ∷ later) log = raises_append later log

pub drains_append : (later log : List RingStep) → drain_side (later ++ log) ≡ drain_side later ++ drain_side log
drains_append [] log = refl
drains_append (of_raise x ∷ later) log = drains_append later log
drains_append (of_drain x ∷ later) log = ap (λ (t : List DrainStep). x ∷ t) (drains_append later log)

-- the positions of what a log gained are not below its length
abbrev Above : ℕ → List ℕ → Type 0
Above n positions = All (λ slot_word. n ≤ slot_word) positions

raise_above : (later log : List RingStep) → (positions : List ℕ)
    × (raise_positions (later ++ log) ≡ positions ++ raise_positions log)
    × Above (length log) positions
raise_above [] log = ([], refl, All-nil (λ slot_word. length log ≤ slot_word))
raise_above (of_raise x ∷ later) log = let r = raise_above later log in let long = length-append later log in (
  length (later ++ log) ∷ r.0,
  ap (λ (t : List ℕ). length (later ++ log) ∷ t) r.1,
  All-cons (λ slot_word. length log ≤ slot_word)
      (length (later ++ log)) r.0 (omega (arith, long)) r.2,
)
raise_above (of_drain x ∷ later) log = raise_above later log

drain_above : (later log : List RingStep) → (positions : List ℕ)
    × (drain_positions (later ++ log) ≡ positions ++ drain_positions log)
    × Above (length log) positions
drain_above [] log = ([], refl, All-nil (λ slot_word. length log ≤ slot_word))
drain_above (of_raise x ∷ later) log = drain_above later log
drain_above (of_drain x ∷ later) log = let r = drain_above later log in let long = length-append later log in (
  length (later ++ log) ∷ r.0,
  ap (λ (t : List ℕ). length (later ++ log) ∷ t) r.1,
  All-cons (λ slot_word. length log ≤ slot_word)
      (length (later ++ log)) r.0 (omega (arith, long)) r.2,
)

pub come_after : RecordsComeAfter
come_after k s s' R R' i j i' j' v w v' w' S S' xs ys ps qs raised drained =
    let a = raises_are k s R i j v w S in let b = drains_are k s R i j v w S in let a' = raises_are k s' R' i' j' v' w' S' in
    let b' = drains_are k s' R' i' j' v' w' S' in
    let l : List RingStep = R.log in let m : List RingStep = R'.log in
    let t : raise_side m ≡ xs ++ raise_side l = sym a'.0 ∙ (raised.0 ∙ ap (λ (t : List RaiseStep). xs ++ t) a.0) in
    let p : raise_positions m ≡ ps ++ raise_positions l = sym a'.1 ∙ (raised.1 ∙ ap (λ (t : List ℕ). ps ++ t) a.1) in
    let u : drain_side m ≡ ys ++ drain_side l = sym b'.0 ∙ (drained.0 ∙ ap (λ (t : List DrainStep). ys ++ t) b.0) in
    let q : drain_positions m ≡ qs ++ drain_positions l = sym b'.1 ∙ (drained.1 ∙ ap (λ (t : List ℕ). qs ++ t) b.1) in
    let long : length ps ≡ length xs = (let f = even_raises m in let g = even_raises l in let c = ap length t in let d =
    ap length p in let o = length-append xs (raise_side l) in let r = length-append ps (raise_positions l) in
    omega (arith, f, g, c, d, o, r)) in
    let wide : length qs ≡ length ys = (let f = even_drains m in let g = even_drains l in let c = ap length u in let d =
    ap length q in let o = length-append ys (drain_side l) in let r = length-append qs (drain_positions l) in
    omega (arith, f, g, c, d, o, r)) in
    let g = grown l m (placed ps xs) (placed qs ys) ((λ z. placed (p z) (t z))
    ∙ placed_append ps (raise_positions l) xs (raise_side l) long) ((λ z. placed (q z) (u z))
    ∙ placed_append qs (drain_positions l) ys (drain_side l) wide) in
    let f = raise_above g.0 l in let h = drain_above g.0 l in (
      g.0,
      g.1,
      append_cancel_right (raise_side g.0) xs (raise_side l) (sym (raises_append g.0 l) ∙ (ap raise_side (sym g.1) ∙ t)),
      append_cancel_right (drain_side g.0) ys (drain_side l) (sym (drains_append g.0 l) ∙ (ap drain_side (sym g.1) ∙ u)),
      subst (Above (length l))
          (append_cancel_right f.0 ps (raise_positions l) (sym f.1 ∙ (ap raise_positions (sym g.1) ∙ p))) f.2,
      subst (Above (length l))
          (append_cancel_right h.0 qs (drain_positions l) (sym h.1 ∙ (ap drain_positions (sym g.1) ∙ q))) h.2,
    )

-- what a step found is shown
pub stood_at : (k : Setting) (later log : List RingStep) → AllStood k (later ++ log) → AllStood k log
stood_at k [] log h = h
stood_at k (x ∷ later) log h = stood_at k later log h.1

pub stands_now : (k : Setting) (log : List RingStep) → AllStood k log → LevelStands k log
stands_now k [] h = h
stands_now k (x ∷ log) h = h.0

module _ (k : Setting) (log : List RingStep) (L : LevelStands k log) where
  abbrev l : SoftLevel
  l = level_after_steps k.ceiling log

  abbrev ws : List ℕ
  ws = replay k.start log

  -- the pend word of an id that is admitted, and of one that is not
  pend_at : (id : ℕ) (o : Option StayCounts) (p : Option AdmittedCyclic) → open_stay id (raise_side log) ≡ o → l.cyclics id ≡ p
      → IsSameStay (made_calls id (drain_side log)) (ended_calls id (raise_side log)) o p
      → get_or ws (stay_word o) 0 ≡ count_in p + mark_bit * in_hand id l.marked
  pend_at id None None a b h = let none : in_hand id l.marked ≡ 0 =
      not_held id l.marked (λ e. not_none (l.cyclics id) (L.lawful.marked_admitted id e) b) in let long = as_wide k.start log in
      get_or-eq_default ws 0 (omega (arith, long)) ∙ omega (arith, none)
  pend_at id None (Some c) a b h = absurd h
  pend_at id (Some s) None a b h = absurd h
  pend_at id (Some s) (Some c) a b h = ap (λ (i : ℕ). get_or ws (pend_word i) 0) h.0 ∙ L.shows.pends id c b

  pub pend_found : (id : ℕ) → get_or ws (stay_word (open_stay id (raise_side log))) 0 ≡ pend_of l id
  pend_found id = pend_at id (open_stay id (raise_side log)) (l.cyclics id) refl refl (L.shows.stays id)

  pub held_found : (o : Option ℕ) → held_entry (drain_side log) ≡ o → (id : ℕ) → l.drainer_hand ≡ Some id
      → get_or ws (held_word o) 0 ≡ pend_of l id
  held_found None is id hand = let x : None ≡ Some id = sym (ap id_in_entry is) ∙ (sym L.shows.drainer_is ∙ hand) in absurd (cc)
  held_found (Some e) is id hand = let h = L.still.held_is e is in let same : entry_id e ≡ id =
      some_same (entry_id e) id (sym (ap id_in_entry is) ∙ (sym L.shows.drainer_is ∙ hand)) in
      ap (λ (i : ℕ). get_or ws (pend_word i) 0) (sym h.2)
      ∙ (L.shows.pends (entry_id e) h.0 h.1 ∙ ((λ z. count_in (sym h.1 z) + mark_bit * in_hand (entry_id e) l.marked)
      ∙ ap (pend_of l) same))

  raise_found : (x : RaiseStep) → LevelStands k (of_raise x ∷ log) → RaiseFinds l x
  raise_found (Admitted id index) M = M.enabled.0.3
  raise_found (Loaded id found) M = M.all_true.0 ∙ pend_found id
  raise_found (Lost id found) M = M.all_true.0 ∙ pend_found id
  raise_found (Added id found) M = M.all_true.0 ∙ pend_found id
  raise_found (Stored e) M = tt
  raise_found (Published next) M = tt
  raise_found (Marked id found) M = M.all_true.0 ∙ pend_found id
  raise_found (Cleared id) M = tt
  raise_found (Switched bank) M = tt
  raise_found (LoadedSoftBank found) M = M.all_true.0 ∙ L.shows.soft_shown

  drain_found : (x : DrainStep) → LevelStands k (of_drain x ∷ log) → DrainFinds (consumer_index k.start (drain_side log)) l x
  drain_found (LoadedHardBank found) M = M.all_true.0 ∙ L.shows.hard_shown
  drain_found (LoadedProducer found) M = M.all_true.0 ∙ (ap (λ (b : ℕ). get_or ws (producer_word b) 0) (sym L.shows.soft_is)
      ∙ holds_end ws l.cyclics l.soft_bank (soft_list l) (consumer_index k.start (drain_side log))
      (softs_shown k.start ws (raise_side log) (drain_side log) l L.shows))
  drain_found (Took e) M = let f = first_some (soft_list l) M.enabled.0.1 in let i : ℕ = consumer_index k.start (drain_side log)
      in
      let h = first_held ws l.cyclics l.soft_bank f.0 (soft_list l) i f.1
      (softs_shown k.start ws (raise_side log) (drain_side log) l L.shows) in
      (f.0, h.0, f.1, h.1, M.all_true.0 ∙ (ap (λ (b : ℕ). get_or ws (slot_word b i) 0) (sym L.shows.soft_is) ∙ h.2))
  drain_found (Subtracted found) M = let h = some_of l.drainer_hand M.enabled.0 in
      (h.0, h.1, M.all_true.0 ∙ held_found (held_entry (drain_side log)) refl h.0 h.1)
  drain_found (Followed bank) M = tt

  pub step_found : (x : RingStep) → LevelStands k (x ∷ log) → Finds k log x
  step_found (of_raise x) M = raise_found x M
  step_found (of_drain x) M = drain_found x M

pub found_shown : FoundIsShown
found_shown k later earlier x h = let now = stood_at k later (x ∷ earlier) h in
    step_found k earlier (stands_now k earlier now.1) x now.0
