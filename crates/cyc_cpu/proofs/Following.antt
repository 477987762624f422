-- A CPU from the answer of a removal on.
use Rattle.std.proofs.Common.{◌≡◌, ◌≢◌, ℕ, suc, ◌+◌, ◌-◌, ◌<◌, ◌≤◌, inl, inr, All, Bool, true, false, cond, eqb, ◌==◌, Option}
use Rattle.std.proofs.Common.{Some, None, List, [], ◌∷◌, map, length, get_or, refl, sym, ap, ◌∙◌, subst, arith, eq-eqb}
use Rattle.std.specs.Prelude.{insert, remove, Ok, Err}
use Rattle.std.specs.Option.{option_map}
use Rattle.std.specs.List.{FoldsTo}
use Rattle.std.proofs.Math.ListN.{set}
use Rattle.std.proofs.lemmas.Bool.{cases_lt, cases_eq}
use Rattle.std.proofs.lemmas.Bool.Decides.{nat_tests}
use Rattle.std.proofs.lemmas.List.{length-map, length-set, get_or-map, get_or-set_same, get_or-set_other, get_or_default}
use Rattle.std.proofs.lemmas.List.Edits.{length-insert, length-remove, get_or-insert_below, get_or-insert_at, get_or-insert_above}
use Rattle.std.proofs.lemmas.List.Edits.{get_or-remove_below, get_or-remove_above}
use Rattle.cyc_types.specs.declared.Calls.{Ghosts as Calls}
use Rattle.cyc_types.specs.Series.{never}
use Rattle.cyc_types.specs.Firing.{FiringCall, Admits, Loads, Raises, Marks, Polls, Expands, Looks}
use Rattle.cyc_types.specs.Runs.{Goes}
use Rattle.cyc_types.specs.Draining.{DrainCall}
use Rattle.cyc_soft.specs.Serving.{Served, Serves, soft_side}
use Rattle.cyc_types.specs.declared.firing.Sent.{Sent}
use Rattle.cyc_types.specs.Levels.{Handler, at_level, as_level, handler_at}
use Rattle.cyc_types.specs.declared.level.Level.{Level}
use Rattle.cyc_types.specs.declared.level.Level.TheVariants as level
use Rattle.cyc_types.specs.declared.level.Soft.{Soft}
use Rattle.cyc_types.specs.declared.moment.When.{When}
use Rattle.cyc_types.specs.declared.refusal.Refusal.{Refusal}
use Rattle.cyc_types.specs.declared.refusal.Refusal.TheVariants as why
use Rattle.cyc_types.specs.declared.level.Soft.TheVariants as soft_level
use Rattle.cyc_core.specs.Level.{AdmittedCyclic, SoftLevel as Model, count, count_in, place_count}
use Rattle.cyc_core.specs.Lawful.{Lawful, one_if_any}
use Rattle.cyc_core.specs.Event.TheVariants.{Clear}
use Rattle.cyc_core.specs.Reached.{Happens}
use Rattle.cyc_core.specs.Tables.{Tables, level_of}
use Rattle.cyc_core.specs.FiringSide.{stay_of}
use Rattle.cyc_types.specs.Expirations.{Expiration, all_after, expirations, times_of}
use Rattle.cyc_types.specs.Timers.{Timer}
use Rattle.cyc_timers.specs.Rows.{Cyclic, timers}
use Rattle.cyc_cpu.specs.declared.removing.Removal.TheVariants.{Done, Kept}
use Rattle.cyc_timers.specs.Acts.{AreRaises, is_of_level, timer_of, acting}
use Rattle.cyc_timers.specs.Made.{fire_state}
use Rattle.cyc_timers.specs.Shares.{share}
use Rattle.cyc_timers.specs.Quiet.{OnlyLooks, LoadsThenLooks}
use Rattle.cyc_cpu.specs.Cpu.{CpuView, Running, sides, Makes, Asks, Looked, Reserves, Widens, Places, IsCyclic, HasNoCyclic}
use Rattle.cyc_cpu.specs.Cpu.{AreAdmitted, HasRisingCyclics, with_moment}
use Rattle.cyc_cpu.specs.Removal.{calls_at, EndGoes, Leaves}
use Rattle.cyc_cpu.specs.Moving.{WhyNotTaken, Inquires}
use Rattle.cyc_cpu.specs.Soft.{raise_tables, firing_at, held_at, end_at, drain_tables, SoftKept, Interrupts}
use Rattle.cyc_cpu.specs.Calls.{Suspend, Resume}
use Rattle.cyc_cpu.specs.Calls.{CpuCall, Fire, SoftInterrupt, Add, Place, Reprogram, AskPending, AskTotals, AskRoom, Reserve}
use Rattle.cyc_cpu.specs.Calls.{Widen, BeginRemove, PollRemove, TakeNow, AskSettled, CpuChanges, CpuDoes}
use Rattle.cyc_cpu.specs.Gone.{IsAbsent, IsGone, HasLeft, PutsNot, StaysGone}
use Rattle.cyc_cpu.proofs.Gone.{off_of, absent_of, AreSpared, off_goes, none_served}
use Rattle.cyc_cpu.proofs.Cleared.{goes_here, goes_not, level_cases}
use Rattle.cyc_timers.proofs.Making.{same_id, length-all}
use Rattle.cyc_timers.proofs.Sharing.{ids_add_up}

-- what an end of this CPU has
abbrev ends_absent : (id : ℕ) (a b : Tables) (way : List FiringCall) → Type 0
ends_absent id a b way = Goes raise_tables a way b → IsAbsent id (level_of b)

stays_absent : (id : ℕ) (a b : Tables) (way : List FiringCall) → AreSpared id way → IsAbsent id (level_of a)
    → ends_absent id a b way
stays_absent id a b way spared h g = absent_of id (level_of b) (off_goes id a b way spared g (off_of id (level_of a) h))

spared_if : (id : ℕ) (b : Bool) (way : List FiringCall) → AreSpared id way → AreSpared id (cond b way [])
spared_if id true way h = h
spared_if id false way h = tt

spared_looks : (id : ℕ) (answers : List Bool) → AreSpared id (map Looks answers)
spared_looks id [] = tt
spared_looks id (a ∷ answers) = (tt, spared_looks id answers)

spared_loads : (id : ℕ) (asked : List (ℕ × ℕ)) → AreSpared id (map (λ (a : ℕ × ℕ). Loads a.0 a.1) asked)
spared_loads id [] = tt
spared_loads id (a ∷ asked) = (tt, spared_loads id asked)

spared_raises : (id : ℕ) (ids : List ℕ) (way : List FiringCall) → AreRaises ids way → AreSpared id way
spared_raises id [] [] a = tt
spared_raises id [] (c ∷ way) a = absurd a
spared_raises id (x ∷ ids) [] a = absurd a
spared_raises id (x ∷ ids) (Admits j i ∷ way) a = absurd a.0
spared_raises id (x ∷ ids) (Loads j i ∷ way) a = absurd a.0
spared_raises id (x ∷ ids) (Marks j i ∷ way) a = absurd a.0
spared_raises id (x ∷ ids) (Polls j i ∷ way) a = absurd a.0
spared_raises id (x ∷ ids) (Expands i ∷ way) a = absurd a.0
spared_raises id (x ∷ ids) (Looks i ∷ way) a = absurd a.0
spared_raises id (x ∷ ids) (Raises j i ∷ way) a = (tt, spared_raises id ids way a.1)

looks_absent : (id : ℕ) (a b : Tables) → IsAbsent id (level_of a) → OnlyLooks raise_tables a b → IsAbsent id (level_of b)
looks_absent id a b h (answers, g) = stays_absent id a b (map Looks answers) (spared_looks id answers) h g

inquires_absent : (id : ℕ) (a b : Tables) → IsAbsent id (level_of a) → LoadsThenLooks raise_tables a b
    → IsAbsent id (level_of b)
inquires_absent id a b h (m, (asked, g), looks) = looks_absent id m b (stays_absent id a m _ (spared_loads id asked) h g) looks

-- the lists of cyclics that the calls leave
none_removed : (id : ℕ) (cs : List Cyclic) (k : ℕ) → k < length cs → HasNoCyclic id cs → HasNoCyclic id (remove cs k)
none_removed id cs k within none j d low same =
    let n = length-remove cs k within in
    elim (cases_lt j k) [
      | inl less ↦ none j d (omega (arith, less, within))
          (ap (λ (c : Cyclic). c.timer.id) (sym (get_or-remove_below cs k d j less within)) ∙ same)
      | inr more ↦ none (j + 1) d (omega (arith, low, n))
          (ap (λ (c : Cyclic). c.timer.id) (sym (get_or-remove_above cs k d j more within)) ∙ same)
    ]

none_changed : (id : ℕ) (cs : List Cyclic) (k m : ℕ) (c : Cyclic) → IsCyclic cs k c → HasNoCyclic id cs
    → HasNoCyclic id (set cs k (with_moment m c))
none_changed id cs k m c (within, is) none j d low same =
    let n = length-set cs k (with_moment m c) in
    elim (cases_eq j k) [
      | inl eq ↦
          (let now : get_or (set cs k (with_moment m c)) j d ≡ with_moment m c =
          ap (λ i. get_or (set cs k (with_moment m c)) i d) eq ∙ get_or-set_same cs k (with_moment m c) d within in
          none k c within (ap (λ (x : Cyclic). x.timer.id) is ∙ sym (ap (λ (x : Cyclic). x.timer.id) now) ∙ same))
      | inr ne ↦ none j d (omega (arith, low, n))
          (ap (λ (x : Cyclic). x.timer.id) (sym (get_or-set_other cs k j (with_moment m c) d ne)) ∙ same)
    ]

none_placed : (id : ℕ) (cs : List Cyclic) (k : ℕ) (c : Cyclic) → k ≤ length cs → c.timer.id ≢ id → HasNoCyclic id cs
    → HasNoCyclic id (insert cs k c)
none_placed id cs k c within ne none j d low same =
    let n = length-insert cs k c within in
    elim (cases_eq j k) [
      | inl eq ↦ ne (ap (λ (x : Cyclic). x.timer.id)
          (sym (ap (λ i. get_or (insert cs k c) i d) eq ∙ get_or-insert_at cs k c d within)) ∙ same)
      | inr apart ↦ elim (cases_lt j k) [
        | inl less ↦ none j d (omega (arith, less, within))
            (ap (λ (x : Cyclic). x.timer.id) (sym (get_or-insert_below cs k c d j less within)) ∙ same)
        | inr more ↦
            (let back : (j - 1) + 1 ≡ j = omega (arith, more, apart) in
            let old = ap (λ i. get_or (insert cs k c) i d) (sym back)
            ∙ get_or-insert_above cs k c d (j - 1) (omega (arith, more, apart)) within in
            none (j - 1) d (omega (arith, low, n, back)) (ap (λ (x : Cyclic). x.timer.id) (sym old) ∙ same))
      ]
    ]

none_fired : (id now : ℕ) (made : List Expiration) (cs cs' : List Cyclic) → timers cs' ≡ all_after now made (timers cs)
    → HasNoCyclic id cs → HasNoCyclic id cs'
none_fired id now made cs cs' is none k d low same =
    let l = length-map cs (λ (c : Cyclic). c.timer) in
    let l' = length-map cs' (λ (c : Cyclic). c.timer) in
    let all = ap length is ∙ length-all now made (timers cs) in
    let low' : k < length cs = omega (arith, low, l, l', all) in
    let was = ap (λ (t : Timer). t.id) (get_or-map (λ (c : Cyclic). c.timer) cs k d d.timer low') in
    let new = ap (λ (t : Timer). t.id) (get_or-map (λ (c : Cyclic). c.timer) cs' k d d.timer low) in
    none k d low' (sym was ∙ sym (same_id now made (timers cs) (timers cs') k d.timer is (omega (arith, low, l'))) ∙ new ∙ same)

-- a fire has no expiration of an id that is not here
no_timer : (id : ℕ) (cs : List Cyclic) → HasNoCyclic id cs → timer_of id (timers cs) ≡ None
no_timer id [] none = refl
no_timer id (c ∷ cs) none =
    let ne : c.timer.id ≢ id = none 0 c (omega arith) in
    let no : (c.timer.id == id) ≡ false = grind (arith, nat_tests) in
    ap (λ (b : Bool). cond b (Some c.timer) (timer_of id (timers cs))) no
    ∙ no_timer id cs (λ k d low. none (suc k) d (omega (arith, low)))

no_share : (own : Level) (id : ℕ) (cs : List Cyclic) (made : List Expiration) → HasNoCyclic id cs
    → share own (timers cs) made id ≡ 0
no_share own id cs made none = ap (λ o. cond (is_of_level own o) (times_of id made) 0) (no_timer id cs none)

module _ {C : Type 0} (called : C → ℕ → C → Type 0) (count_of : C → ℕ → ℕ) (id : ℕ) where
  fire_gone : (s t : Running C Tables) (now : ℕ) (made : List Expiration) (lost : ℕ) (at : C) → IsGone id s.cpu
      → Makes (acting called count_of raise_tables) now made (fire_state s.cpu.cyclics (sides s.calls s.cpu))
      (fire_state t.cpu.cyclics (sides at t.cpu)) lost
      → ((q : ℕ) → count_of t.calls q ≡ count_of at q) → StaysGone count_of id s t
  fire_gone s t now made lost at h m same = (
    record {
      no_cyclic = none_fired id now made s.cpu.cyclics t.cpu.cyclics m.timers_are h.no_cyclic;
      lock = stays_absent id s.cpu.lock t.cpu.lock m.acts.lock_way
          (spared_raises id _ m.acts.lock_way m.acts.lock_raises) h.lock m.acts.lock_goes;
      low = stays_absent id s.cpu.low t.cpu.low m.acts.low_way
          (spared_raises id _ m.acts.low_way m.acts.low_raises) h.low m.acts.low_goes;
    },
    (let a = same id in let b = m.acts.counted id in let c = ids_add_up id level.High (timers s.cpu.cyclics) made in let d =
        no_share level.High id s.cpu.cyclics made h.no_cyclic in omega (arith, a, b, c, d)),
  )

module _ {C : Type 0} (handler : Handler C) (id : ℕ) where
  soft_gone : (s t : Running C Tables) (soft : Soft) (ran : List Served) (rest : List DrainCall) (at : C) → IsGone id s.cpu
      → Serves drain_tables handler (soft_side (end_at soft s.cpu) s.calls) ran rest (soft_side (end_at soft t.cpu) at)
      → ((q : ℕ) → handler.count t.calls q ≡ handler.count at q) → SoftKept soft s.cpu t.cpu → StaysGone handler.count id s t
  soft_gone s t soft_level.Low ran rest at h v same kept =
      let (off, none) = none_served id (held_at s.cpu.low) ran rest s.cpu.low t.cpu.low
      (off_of id (level_of s.cpu.low) h.low) v.way in (
        record {
          no_cyclic = subst (λ cs. HasNoCyclic id cs) (sym kept.cyclics) h.no_cyclic;
          lock = subst (λ (x : Tables). IsAbsent id (level_of x)) (sym kept.beside) h.lock;
          low = absent_of id (level_of t.cpu.low) off;
        },
        (let a = same id in let b = v.counted id in omega (arith, a, b, none)),
      )
  soft_gone s t soft_level.Lock ran rest at h v same kept =
      let (off, none) = none_served id (held_at s.cpu.lock) ran rest s.cpu.lock t.cpu.lock
      (off_of id (level_of s.cpu.lock) h.lock) v.way in (
        record {
          no_cyclic = subst (λ cs. HasNoCyclic id cs) (sym kept.cyclics) h.no_cyclic;
          lock = absent_of id (level_of t.cpu.lock) off;
          low = subst (λ (x : Tables). IsAbsent id (level_of x)) (sym kept.beside) h.low;
        },
        (let a = same id in let b = v.counted id in omega (arith, a, b, none)),
      )

-- the ends where a cyclic's end goes a way and the other does nothing
goes_gone : (id : ℕ) (own : Level) (way : List FiringCall) (v w : CpuView Tables) → AreSpared id way → IsGone id v
    → EndGoes raise_tables own way v w → HasNoCyclic id w.cyclics → IsGone id w
goes_gone id own way v w spared h (lock, low) none = record {
  no_cyclic = none;
  lock = stays_absent id v.lock w.lock _ (spared_if id _ way spared) h.lock lock;
  low = stays_absent id v.low w.low _ (spared_if id _ way spared) h.low low;
}

leaves_gone : (id j : ℕ) (way : List FiringCall) (c : Cyclic) (v w : CpuView Tables) → AreSpared id way → IsGone id v
    → Leaves raise_tables j way c v w → IsGone id w
leaves_gone id j way c v w spared h l =
    goes_gone id c.timer.level way v w spared h l.goes
    (subst (λ cs. HasNoCyclic id cs) (sym l.cyclics) (none_removed id v.cyclics l.position l.here.0 h.no_cyclic))

widened_end : (id n m bank : ℕ) (a b : Tables) → IsAbsent id (level_of a) → (m ≤ n → b ≡ a)
    → (n < m → Goes raise_tables a (Expands bank ∷ []) b) → IsAbsent id (level_of b)
widened_end id n m bank a b h kept goes = elim (cases_lt n m) [
  | inl grows ↦ stays_absent id a b (Expands bank ∷ []) (tt, tt) h (goes grows)
  | inr stays ↦ subst (λ (x : Tables). IsAbsent id (level_of x)) (sym (kept stays)) h
]

-- where the cyclics stay, and an end or both were asked
asked_gone : (id j n : ℕ) (v w : CpuView Tables) → IsGone id v → Asks raise_tables j n v w → IsGone id w
asked_gone id j n v w h a = goes_gone id a.cyclic.timer.level (Loads j n ∷ []) v w (tt, tt) h (a.lock, a.low)
    (subst (λ cs. HasNoCyclic id cs) (sym a.cyclics) h.no_cyclic)

looked_gone : (id : ℕ) (v w : CpuView Tables) → IsGone id v → Looked raise_tables v w → IsGone id w
looked_gone id v w h r = record {
  no_cyclic = subst (λ cs. HasNoCyclic id cs) (sym r.cyclics) h.no_cyclic;
  lock = looks_absent id v.lock w.lock h.lock r.lock;
  low = looks_absent id v.low w.low h.low r.low;
}

reserved_gone : (id more : ℕ) (v w : CpuView Tables) → IsGone id v → Reserves raise_tables more v w → IsGone id w
reserved_gone id more v w h r = record {
  no_cyclic = subst (λ cs. HasNoCyclic id cs) (sym r.cyclics) h.no_cyclic;
  lock = looks_absent id v.lock w.lock h.lock r.lock;
  low = looks_absent id v.low w.low h.low r.low;
}

widened_gone : (id more : ℕ) (v w : CpuView Tables) → IsGone id v → Widens raise_tables more v w → IsGone id w
widened_gone id more v w h r = record {
  no_cyclic = subst (λ cs. HasNoCyclic id cs) (sym r.cyclics) h.no_cyclic;
  lock = widened_end id v.size (length v.cyclics + more) _ v.lock w.lock h.lock r.kept_lock (λ g. (w.lock, r.lock g, refl));
  low = widened_end id v.size (length v.cyclics + more) _ v.low w.low h.low r.kept_low (λ g. (w.low, r.low g, refl));
}

placed_gone : (id : ℕ) (v w : CpuView Tables) (c : Cyclic) → c.timer.id ≢ id → IsGone id v → Places raise_tables c v w
    → IsGone id w
placed_gone id v w c not h p =
    goes_gone id c.timer.level (Admits c.timer.id p.index ∷ []) v w ((λ q. not (sym q)), tt) h (p.lock, p.low)
    (subst (λ cs. HasNoCyclic id cs) (sym p.cyclics) (none_placed id v.cyclics p.position c p.within not h.no_cyclic))

inquired_gone : (id : ℕ) (v w : CpuView Tables) → IsGone id v → Inquires raise_tables v w → IsGone id w
inquired_gone id v w h i = record {
  no_cyclic = subst (λ cs. HasNoCyclic id cs) (sym i.cyclics) h.no_cyclic;
  lock = inquires_absent id v.lock w.lock h.lock i.lock;
  low = inquires_absent id v.low w.low h.low i.low;
}

same_gone : (id : ℕ) (v w : CpuView Tables) → IsGone id v → w ≡ v → IsGone id w
same_gone id v w h is = subst (λ (x : CpuView Tables). IsGone id x) (sym is) h

-- a mark of the CPU says nothing of a cyclic
marked_gone : (id : ℕ) (mark : Bool) (v w : CpuView Tables) → IsGone id v → w ≡ record v { suspended = mark } → IsGone id w
marked_gone id mark v w h is = subst (λ (x : CpuView Tables). IsGone id x) (sym is)
    (record { no_cyclic = h.no_cyclic; lock = h.lock; low = h.low })

not_taken_gone : (id j : ℕ) (v w : CpuView Tables) (e : Refusal) → IsGone id v → WhyNotTaken raise_tables j v e w → IsGone id w
not_taken_gone id j v w why.NoCyclic h d = same_gone id v w h d.1
not_taken_gone id j v w (why.Busy removed) h d = same_gone id v w h d.2
not_taken_gone id j v w why.Pending h (still, some, n, more, a) = asked_gone id j n v w h a
not_taken_gone id j v w e h d = absurd d

not_added_gone : (id own now : ℕ) (level : Level) (when : When) (v w : CpuView Tables) (e : Refusal) → IsGone id v
    → CpuChanges raise_tables v (Add own level when now (Err e)) w → IsGone id w
not_added_gone id own now level when v w why.BadNow h d = same_gone id v w h d.2
not_added_gone id own now level when v w e h d = looked_gone id v w h d.2

changes_gone : (id : ℕ) (v w : CpuView Tables) (call : CpuCall) → IsGone id v → PutsNot id call → CpuChanges raise_tables v call w
    → IsGone id w
changes_gone id v w (Add own level when now (Ok done)) h not (absent, early, a) =
    placed_gone id a.widened w _ not (widened_gone id 1 a.reserved a.widened
    (reserved_gone id 1 v a.reserved h a.reserves) a.widens) a.enters
changes_gone id v w (Add own level when now (Err e)) h not d = not_added_gone id own now level when v w e h d
changes_gone id v w (Place own level interval moment carried) h not d = placed_gone id v w _ not h d.1
changes_gone id v w (Reprogram j moment (Ok done)) h not (k, c, here, named, still, is) =
    subst (λ (x : CpuView Tables). IsGone id x) (sym is)
    (record { no_cyclic = none_changed id v.cyclics k moment c here h.no_cyclic; lock = h.lock; low = h.low })
changes_gone id v w (Reprogram j moment (Err e)) h not d = same_gone id v w h d.2
changes_gone id v w (AskPending j (Some n)) h not d = asked_gone id j n v w h d.0
changes_gone id v w (AskPending j None) h not d = same_gone id v w h d.1
changes_gone id v w (AskTotals j (Some t)) h not d = asked_gone id j t.pending v w h d.0
changes_gone id v w (AskTotals j None) h not d = same_gone id v w h d.1
changes_gone id v w (AskRoom more (Ok done)) h not d = looked_gone id v w h d.0
changes_gone id v w (AskRoom more (Err e)) h not d = looked_gone id v w h d.0
changes_gone id v w (Reserve more (Ok done)) h not d = reserved_gone id more v w h d.0
changes_gone id v w (Reserve more (Err e)) h not d = looked_gone id v w h d.0
changes_gone id v w (Widen more) h not d = widened_gone id more v w h d.1
changes_gone id v w (BeginRemove j (Ok (Done receipt))) h not (still, (c, counts, is, polled, l)) =
    leaves_gone id j _ c v w (tt, (tt, tt)) h l
changes_gone id v w (BeginRemove j (Ok (Kept kept))) h not (still, o) =
    goes_gone id o.cyclic.timer.level (Marks j kept ∷ []) v w (tt, tt) h o.goes
    (subst (λ cs. HasNoCyclic id cs) (sym o.cyclics) (none_changed id v.cyclics o.position never o.cyclic o.here h.no_cyclic))
changes_gone id v w (BeginRemove j (Err e)) h not d = same_gone id v w h d.1
changes_gone id v w (PollRemove (Some receipt)) h not e = leaves_gone id receipt.id _ e.cyclic v w (tt, tt) h e.leaves
changes_gone id v w (PollRemove None) h not (inl d) = same_gone id v w h d.1
changes_gone id v w (PollRemove None) h not (inr (j, is_open, e)) =
    goes_gone id e.cyclic.timer.level (Polls j None ∷ []) v w (tt, tt) h e.goes
    (subst (λ cs. HasNoCyclic id cs) (sym e.cyclics) h.no_cyclic)
changes_gone id v w (TakeNow j (Ok taken)) h not (still, (c, counts, is, polled, l)) =
    leaves_gone id j _ c v w (tt, (tt, (tt, tt))) h l
changes_gone id v w (TakeNow j (Err e)) h not d = not_taken_gone id j v w e h d
changes_gone id v w (AskSettled true) h not d = inquired_gone id v w h d.0
changes_gone id v w (AskSettled false) h not d = inquired_gone id v w h d.0
changes_gone id v w Suspend h not d = marked_gone id true v w h d
changes_gone id v w Resume h not d = marked_gone id false v w h d
changes_gone id v w (Fire now answer) h not d = absurd d
changes_gone id v w (SoftInterrupt soft budget answer) h not d = absurd d

module _ {C : Type 0} (handler : Calls C) (id : ℕ) where
  -- a call of the CPU and its handlers
  abbrev Runs : Running C Tables → CpuCall → Running C Tables → Type 0
  Runs s call t = CpuDoes handler raise_tables (Interrupts handler) s call t

  -- a call that reaches no handler
  quiet_gone : (s t : Running C Tables) (call : CpuCall) → IsGone id s.cpu → PutsNot id call
      → CpuChanges raise_tables s.cpu call t.cpu × (t.calls ≡ s.calls) → StaysGone handler.count id s t
  quiet_gone s t call h not (d, same) = (changes_gone id s.cpu t.cpu call h not d, ap (λ (c : C). handler.count c id) same)

  pub stays_gone : (s t : Running C Tables) (call : CpuCall) → IsGone id s.cpu → PutsNot id call → Runs s call t
      → StaysGone handler.count id s t
  stays_gone s t (Fire now (Ok r)) h not (early, kept, expired, next, makes) =
      fire_gone (at_level handler.called level.High) handler.count id s t now (expirations now (timers s.cpu.cyclics)) r.lost
      t.calls h makes
      (λ q. refl)
  stays_gone s t (Fire now (Err e)) h not (inl (late, is, same)) = (
    subst (λ (x : Running C Tables). IsGone id x.cpu) (sym same) h,
    ap (λ (x : Running C Tables). handler.count x.calls id)
        same,
  )
  stays_gone s t (Fire now (Err e)) h not (inr (early, kept, f)) =
      fire_gone (at_level handler.called level.High) handler.count id s t now f.made e.lost f.at h f.makes f.counted
  stays_gone s t (SoftInterrupt soft budget (Ok r)) h not (did, kept) =
      let (ran, many, serves, left) = did.served in
      soft_gone (handler_at handler (as_level soft)) id s t soft ran _ t.calls h serves (λ q. refl) kept
  stays_gone s t (SoftInterrupt soft budget (Err e)) h not (did, kept) =
      let (ran, at, many, few, serves, may, same, held) = did.refused in
      soft_gone (handler_at handler (as_level soft)) id s t soft ran _ at h serves same kept
  stays_gone s t (Add own level when now answer) h not r = quiet_gone s t (Add own level when now answer) h not r
  stays_gone s t (Place own level interval moment carried) h not r =
      quiet_gone s t (Place own level interval moment carried) h not r
  stays_gone s t (Reprogram j moment answer) h not r = quiet_gone s t (Reprogram j moment answer) h not r
  stays_gone s t (AskPending j answer) h not r = quiet_gone s t (AskPending j answer) h not r
  stays_gone s t (AskTotals j answer) h not r = quiet_gone s t (AskTotals j answer) h not r
  stays_gone s t (AskRoom more answer) h not r = quiet_gone s t (AskRoom more answer) h not r
  stays_gone s t (Reserve more answer) h not r = quiet_gone s t (Reserve more answer) h not r
  stays_gone s t (Widen more) h not r = quiet_gone s t (Widen more) h not r
  stays_gone s t (BeginRemove j answer) h not r = quiet_gone s t (BeginRemove j answer) h not r
  stays_gone s t (PollRemove answer) h not r = quiet_gone s t (PollRemove answer) h not r
  stays_gone s t (TakeNow j answer) h not r = quiet_gone s t (TakeNow j answer) h not r
  stays_gone s t (AskSettled answer) h not r = quiet_gone s t (AskSettled answer) h not r
  stays_gone s t Suspend h not r = quiet_gone s t Suspend h not r
  stays_gone s t Resume h not r = quiet_gone s t Resume h not r

  pub runs_gone : (s t : Running C Tables) (way : List CpuCall) → IsGone id s.cpu → All (PutsNot id) way → FoldsTo Runs s way t
      → StaysGone handler.count id s t
  runs_gone s t [] h not last = (
    subst (λ (x : Running C Tables). IsGone id x.cpu) last h,
    ap (λ (x : Running C Tables). handler.count x.calls id) (sym last),
  )
  runs_gone s t (call ∷ way) h not (m, first, rest) =
      let (gone, same) = stays_gone s m call h (not 0 call (omega (arith))) first in
      let (still, on) = runs_gone m t way gone (λ k d low. not (suc k) d (omega (arith, low))) rest in
      (still, on ∙ same)

-- one id, one cyclic
pub one_cyclic : (cs : List Cyclic) (i k : ℕ) (c d : Cyclic) → HasRisingCyclics cs → IsCyclic cs i c → IsCyclic cs k d
    → d.timer.id ≡ c.timer.id → d ≡ c
one_cyclic cs i k c d rising (within, is) (within', is') same = elim (cases_eq k i) [
  | inl eq ↦ sym is' ∙ get_or_default cs k d c within' ∙ ap (λ j. get_or cs j c) eq ∙ is
  | inr ne ↦ absurd (let other = ap (λ (x : Cyclic). x.timer.id) (get_or_default cs k d c within' ∙ refl) in elim (cases_lt i k) [
    | inl less ↦ (let r = rising i k c less within' in let a = ap (λ (x : Cyclic). x.timer.id) is in let b =
        ap (λ (x : Cyclic). x.timer.id) is' in omega (arith, r, a, b, other, same))
    | inr more ↦ (let r = rising k i c (omega (arith, more, ne)) within in let a = ap (λ (x : Cyclic). x.timer.id) is in let b =
        ap (λ (x : Cyclic). x.timer.id) is' in omega (arith, r, a, b, other, same))
  ])
]

-- a cyclic that has left
pub none_left : (cs : List Cyclic) (k : ℕ) (c : Cyclic) → HasRisingCyclics cs → IsCyclic cs k c
    → HasNoCyclic c.timer.id (remove cs k)
none_left cs k c rising (within, is) j d low same =
    let n = length-remove cs k within in
    let a = ap (λ (x : Cyclic). x.timer.id) (get_or_default cs k c d within) in
    let b = ap (λ (x : Cyclic). x.timer.id) is in
    elim (cases_lt j k) [
      | inl less ↦ (let r = rising j k d less within in let e =
          ap (λ (x : Cyclic). x.timer.id) (get_or-remove_below cs k d j less within) in omega (arith, r, e, a, b, same))
      | inr more ↦ (let r = rising k (j + 1) d (omega (arith, more)) (omega (arith, low, n)) in let e =
          ap (λ (x : Cyclic). x.timer.id) (get_or-remove_above cs k d j more within) in omega (arith, r, e, a, b, same))
    ]

-- the level at which the stay ended
cleared : (id : ℕ) (l m : Model) → place_count l id ≡ one_if_any (count l id) → Happens l (Clear id) m → IsAbsent id m
cleared id l m once ((free, marked, none), is) =
    let nothing : Option AdmittedCyclic = None in
    subst (IsAbsent id) (sym is) (record {
      not_admitted =
          (let yes : eqb id id ≡ true = eq-eqb id id refl in ap (λ b. cond b nothing (l.cyclics id)) yes);
      nowhere = once
          ∙ ap one_if_any none;
    })

polled_absent : (id : ℕ) (counts : Sent) (a b : Tables) → place_count (level_of a) id ≡ one_if_any (count (level_of a) id)
    → ends_absent id a b (Polls id (Some counts) ∷ [])
polled_absent id counts a b once (m, ((sent, happens), learns), last) =
    subst (λ (x : Tables). IsAbsent id (level_of x)) last (cleared id (level_of a) (level_of m) once happens)

marked_absent : (id : ℕ) (counts : Sent) (a b : Tables) → place_count (level_of a) id ≡ one_if_any (count (level_of a) id)
    → ends_absent id a b (Marks id 0 ∷ Polls id (Some counts) ∷ [])
marked_absent id counts a b once (m, ((pend, (enabled, is)), learns), rest) =
    polled_absent id counts m b (subst (λ (x : Model). place_count x id ≡ one_if_any (count x id)) (sym is) once) rest

taken_absent : (id : ℕ) (counts : Sent) (a b : Tables) → place_count (level_of a) id ≡ one_if_any (count (level_of a) id)
    → ends_absent id a b (Loads id 0 ∷ Marks id 0 ∷ Polls id (Some counts) ∷ [])
taken_absent id counts a b once (m, ((pend, is), learns), rest) =
    marked_absent id counts m b (subst (λ (x : Model). place_count x id ≡ one_if_any (count x id)) (sym is) once) rest

not_stays : (o : Option AdmittedCyclic) → ((c : AdmittedCyclic) → o ≡ Some c → ⊥) → o ≡ None
not_stays None never_there = refl
not_stays (Some c) never_there = absurd (never_there c refl)

module _ (id : ℕ) (v w : CpuView Tables) (c : Cyclic) (way : List FiringCall) (rising : HasRisingCyclics v.cyclics)
    (l : Leaves raise_tables id way c v w) where
  -- at the end of its level it was cleared, and at the other it never was
  end_left : (own : Level) (a b : Tables) → AreAdmitted own (firing_at a) v.cyclics → Lawful (level_of a) → ends_absent id a b way
      → Goes raise_tables a (calls_at own c.timer.level way) b → IsAbsent id (level_of b)
  end_left own a b admitted law ends goes = elim (level_cases c.timer.level own) [
    | inl at ↦ ends (goes_here raise_tables own c.timer.level a b way goes at)
    | inr off ↦
        (let out : (level_of a).cyclics id ≡ None = not_stays ((level_of a).cyclics id) (λ x e.
        let (k, d, here, named, at) = admitted.only id (stay_of x) (ap (option_map stay_of) e) in
        off (ap (λ (y : Cyclic). y.timer.level) (sym
        (one_cyclic v.cyclics l.position k c d rising l.here here (named ∙ sym l.named))) ∙ at)) in
        subst (λ (x : Tables). IsAbsent id (level_of x)) (sym (goes_not raise_tables own c.timer.level a b way goes off))
        (record { not_admitted = out; nowhere = law.one_place id ∙ ap (λ o. one_if_any (count_in o)) out }))
  ]

  left_gone : AreAdmitted level.Lock (firing_at v.lock) v.cyclics → AreAdmitted level.Low (firing_at v.low) v.cyclics
      → Lawful (level_of v.lock) → Lawful (level_of v.low) →
      ((a b : Tables) → place_count (level_of a) id ≡ one_if_any (count (level_of a) id) → ends_absent id a b way) → IsGone id w
  left_gone lock low lock_law low_law ends = record {
    no_cyclic = subst (λ cs. HasNoCyclic id cs) (sym l.cyclics)
        (subst (λ j. HasNoCyclic j (remove v.cyclics l.position)) l.named (none_left v.cyclics l.position c rising l.here));
    lock = end_left level.Lock v.lock w.lock lock lock_law (ends v.lock w.lock (lock_law.one_place id)) l.goes.0;
    low = end_left level.Low v.low w.low low low_law (ends v.low w.low (low_law.one_place id)) l.goes.1;
  }

module _ (id : ℕ) (v w : CpuView Tables) (rising : HasRisingCyclics v.cyclics)
    (lock : AreAdmitted level.Lock (firing_at v.lock) v.cyclics) (low : AreAdmitted level.Low (firing_at v.low) v.cyclics)
    (lock_law : Lawful (level_of v.lock)) (low_law : Lawful (level_of v.low)) where
  pub answered_gone : HasLeft raise_tables id v w → IsGone id w
  answered_gone (inl (receipt, (c, counts, is, polled, l))) =
      left_gone id v w c _ rising l lock low lock_law low_law (λ a b once. marked_absent id counts a b once)
  answered_gone (inr (inl (receipt, same, e))) =
      subst (λ j. IsGone j w) same (left_gone receipt.id v w e.cyclic _ rising e.leaves lock low lock_law low_law
      (λ a b once. polled_absent receipt.id e.counts a b once))
  answered_gone (inr (inr (taken, (c, counts, is, polled, l)))) =
      left_gone id v w c _ rising l lock low lock_law low_law (λ a b once. taken_absent id counts a b once)
