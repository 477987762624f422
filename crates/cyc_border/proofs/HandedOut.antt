-- What was handed out is counted by the first fire after it that is made.
use Rattle.std.proofs.Common.{◌≡◌, ℕ, ◌<◌, ◌≤◌, true, false, inl, inr, Option, Some, None, Result, Ok, Err, List, [], ◌∷◌, ◌++◌}
use Rattle.std.proofs.Common.{All, length, sym, ap, subst, ◌∙◌, arith, append-nil}
use Rattle.std.specs.List.{FoldsTo}
use Rattle.std.proofs.lemmas.List.{append_cancel_left}
use Rattle.cyc_types.specs.Series.{never}
use Rattle.cyc_types.specs.declared.Raise.{Ghosts as Raise}
use Rattle.cyc_types.specs.Levels.{at_level}
use Rattle.cyc_types.specs.declared.level.Level.TheVariants.{High}
use Rattle.cyc_types.specs.declared.refusal.Refusal.{Refusal}
use Rattle.cyc_types.specs.declared.refusal.Refusal.TheVariants as why
use Rattle.cyc_types.specs.Expirations.{Expiration, expirations, all_after}
use Rattle.cyc_types.specs.Timers.{Timer, HasDistinctIds, IsSoundTimer}
use Rattle.cyc_types.proofs.Firings.{fire_start}
use Rattle.cyc_types.proofs.Facts.{same_some}
use Rattle.cyc_timers.specs.Rows.{timers}
use Rattle.cyc_timers.specs.Acts.{ids_at, is_at, is_of_level, same_level, timer_of}
use Rattle.cyc_timers.specs.Made.{Stops, WhyStopped}
use Rattle.cyc_timers.specs.declared.fire.Fired.{Fired}
use Rattle.cyc_timers.specs.declared.fire.FireRefused.{FireRefused}
use Rattle.cyc_cpu.specs.Cpu.{CpuView}
use Rattle.cyc_cpu.specs.Calls.{WhyNoFire}
use Rattle.cyc_cpu.proofs.Calling.{refused_not}
use Rattle.cyc_border.specs.Border.{FiresPart, grant, stopped_at}
use Rattle.cyc_border.specs.Granted.{granted_called, GrantedRefuses}
use Rattle.cyc_border.specs.Parts.{paused, PartCall, MakesPart, IsRest, Counts, expired_in_part}
use Rattle.cyc_border.specs.declared.granted.Granted.{Granted}
use Rattle.cyc_border.specs.declared.granted.Granted.TheVariants.{One}
use Rattle.cyc_border.proofs.HandingOut.{handed_out as handed_is}
use Rattle.cyc_border.proofs.Expiring.{goes_through, still_first}
use Rattle.cyc_border.proofs.Resting.{rests_keep}
use Rattle.cyc_border.proofs.WholeFire.{calls_pending, first_is, found_id, refused_is}

-- a cyclic's next expiration, with which a list begins: it is a high one, and may expire
record Comes (now most id : ℕ) (ts : List Timer) : Type 0 where
  pub first : Expiration
  pub rest : List Expiration
  pub listed : expirations now ts ≡ first ∷ rest
  pub named : first.id ≡ id
  pub high : is_at High ts first ≡ true
  pub timer : Timer
  pub found : timer_of first.id ts ≡ Some timer
  pub few : timer.expired < most

-- what is left of a list where its front was made
left_of : (now : ℕ) (ts cur : List Timer) (made rest : List Expiration) → now < never → HasDistinctIds ts → All IsSoundTimer ts
    → expirations now ts ≡ made ++ rest → cur ≡ all_after now made ts → expirations now cur ≡ rest
left_of now ts cur made rest soon distinct sound listed is =
    let start = fire_start now ts in
    let (end, f, g, s) = goes_through now made rest [] [] ts ts ts soon distinct distinct sound start start listed in
    let same : end ≡ cur = g.is ∙ sym is in
    append_cancel_left made (expirations now cur) rest (ap (λ x. made ++ expirations now x) (sym same) ∙ sym g.whole ∙ listed)

module _ {R : Type 0} (firing : Raise R) where
  -- a fire that stops in front of a high one hands out what comes next
  hands_out : (now id : ℕ) (stop : Result Fired FireRefused) (high high' : Option ℕ) (u v : CpuView R) → now < never
      → HasDistinctIds (timers u.cyclics) → All IsSoundTimer (timers u.cyclics) → FiresPart firing now stop high u high' v
      → stopped_at stop ≡ Some id → Comes now v.most id (timers v.cyclics)
  hands_out now id (Ok r) high high' u v soon distinct sound fires is = absurd (none_some is)
    where
      none_some : {A : Type 0} {x : A} → None ≡ Some x → ⊥
      none_some e = cc
  hands_out now id (Err e) high high' u v soon distinct sound (left, inl (none, zeros, kept), out) is =
      absurd (subst (λ x. WhyNoFire now u x) (refused_is e id is) none)
  hands_out now id (Err e) high high' u v soon distinct sound (left, inr (may, same, st), out) is =
      let (t, found, why_is) = st.stops in
      let (named, few, high_is, refuses) = subst (λ w. Stops GrantedRefuses u.most st.at t w) (refused_is e id is) why_is in
      record {
        first = st.last;
        rest = st.rest;
        listed = left_of now (timers u.cyclics) (timers v.cyclics) st.made (st.last ∷ st.rest) soon distinct sound st.listed
            st.makes.timers_are;
        named = sym (found_id st.last.id (timers v.cyclics) t found) ∙ sym named;
        high = ap (is_of_level High) found ∙ ap (same_level High) high_is;
        timer = t;
        found = found;
        few = subst (λ n. t.expired < n) (sym same.most) few;
      }

  -- a fire that stops does not stop in front of what was handed out
  stops_later : (now most id : ℕ) (ts cur : List Timer) (at : Granted) (last : Expiration) (rest : List Expiration) (e : Refusal)
      → Comes now most id ts → expirations now ts ≡ last ∷ rest → cur ≡ all_after now [] ts → One id ≡ at
      → WhyStopped GrantedRefuses most at last cur e → ⊥
  stops_later now most id ts cur at last rest e comes listed is way (t, found, stops) = by_reason e stops
    where
      same : comes.first ≡ last
      same = first_is ts comes.first last [] comes.rest rest (sym comes.listed ∙ listed)

      still : cur ≡ ts
      still = is ∙ sym (fire_start now ts).is

      timer_is : t ≡ comes.timer
      timer_is = same_some (sym found ∙ ap (λ x. timer_of last.id x) still ∙ ap (λ (p : Expiration). timer_of p.id ts) (sym same)
          ∙ comes.found)

      by_reason : (e : Refusal) → Stops GrantedRefuses most at t e → ⊥
      by_reason (why.CountSpent j) (named, spent) =
          let few = comes.few in let more = subst (λ (x : Timer). most ≤ x.expired) timer_is spent in omega (arith, few, more)
      by_reason (why.HandlerRefused j) (named, few, high, refuses) =
          refuses (sym way ∙ ap One (sym comes.named ∙ ap (λ (p : Expiration). p.id) same
          ∙ sym (found_id last.id cur t found) ∙ sym named))
      by_reason other none = absurd none

  -- the front of a list in which it comes first
  counts_front : (now most id : ℕ) (answer : Result Fired FireRefused) (ts : List Timer) (q : Expiration)
      (xs rest : List Expiration) (left : Granted) → Comes now most id ts → expirations now ts ≡ (q ∷ xs) ++ rest
      → expired_in_part answer ≡ length (q ∷ xs)
      → FoldsTo (at_level granted_called High) (grant (Some id)) (ids_at High ts (q ∷ xs)) left → Counts now answer id ts
  counts_front now most id answer ts q xs rest left comes listed expired way =
      let same : comes.first ≡ q = first_is ts comes.first q xs comes.rest rest (sym comes.listed ∙ listed) in
      record {
        first = q;
        more = xs;
        rest = rest;
        named = ap (λ (p : Expiration). p.id) (sym same) ∙ comes.named;
        listed = listed;
        expired = expired;
        called = calls_pending now (Some id) ts q xs rest
            (comes.first, comes.rest, comes.listed, comes.named, comes.high) listed
            (handed_is (Some id) (ids_at High ts (q ∷ xs)) left way);
      }

  -- a fire that is made counts it
  counts : (now most id : ℕ) (answer : Result Fired FireRefused) (high : Option ℕ) (w x : CpuView R) → now < never
      → w.suspended ≡ false → w.most ≡ most → Comes now most id (timers w.cyclics)
      → FiresPart firing now answer (Some id) w high x
      → Counts now answer id (timers w.cyclics)
  counts now most id (Ok r) high w x soon is_awake most_is comes (left, (may, same, expired, next, makes), out) =
      let ts = timers w.cyclics in
      counts_front now most id (Ok r) ts comes.first comes.rest [] left comes
      (comes.listed ∙ sym (append-nil (comes.first ∷ comes.rest))) (expired ∙ ap length comes.listed)
      (subst (λ xs. FoldsTo (at_level granted_called High) (grant (Some id)) (ids_at High ts xs) left) comes.listed
      makes.acts.called_in_order)
  counts now most id (Err e) high w x soon is_awake most_is comes (left, inl (none, zeros, kept), out) =
      absurd (refused_not now w e.why (record { awake = is_awake; early = λ n. omega (arith, n, soon) }) none)
  counts now most id (Err e) high w x soon is_awake most_is comes (left, inr (may, same, st), out) =
      front st.made st.listed st.expired st.makes.timers_are st.makes.acts.called_in_order
    where
      ts : List Timer
      ts = timers w.cyclics

      front : (made : List Expiration) → expirations now ts ≡ made ++ st.last ∷ st.rest → length made ≡ e.expired
          → timers x.cyclics ≡ all_after now made ts
          → FoldsTo (at_level granted_called High) (grant (Some id)) (ids_at High ts made) st.at → Counts now (Err e) id ts
      front [] listed expired are way =
          absurd (stops_later now most id ts (timers x.cyclics) st.at st.last st.rest e.why comes listed are way
          (subst (λ n. WhyStopped GrantedRefuses n st.at st.last (timers x.cyclics) e.why) most_is st.stops))
      front (q ∷ xs) listed expired are way = counts_front now most id (Err e) ts q xs (st.last ∷ st.rest) st.at comes listed
          (sym expired) way

  -- what comes next comes next at a later moment, and with another mark
  comes_later : (now later most id : ℕ) (ts : List Timer) → now ≤ later → Comes now most id ts → Comes later most id ts
  comes_later now later most id ts after c =
      let (ys, is) = still_first now later ts c.first c.rest after c.listed in
      record {
        first = c.first;
        rest = ys;
        listed = is;
        named = c.named;
        high = c.high;
        timer = c.timer;
        found = c.found;
        few = c.few;
      }

  pub counted : (now later id : ℕ) (stop answer : Result Fired FireRefused) (calls : List PartCall) (high high' high'' : Option ℕ)
      (u v w x : CpuView R) → later < never → now ≤ later → HasDistinctIds (timers u.cyclics)
      → All IsSoundTimer (timers u.cyclics)
      → FiresPart firing now stop high u (Some id) v → stopped_at stop ≡ Some id
      → All IsRest calls → FoldsTo (MakesPart firing) (paused (Some id) v) calls (paused high' w)
      → FiresPart firing later answer high' w high'' x → w.suspended ≡ false
      → (high' ≡ Some id) × Counts later answer id (timers w.cyclics)
  counted now later id stop answer calls high high' high'' u v w x soon after distinct sound first stopped rests way last awake =
      let (high_is, cpu) = rests_keep firing calls (paused (Some id) v) (paused high' w) rests way in
      let comes = comes_later now later v.most id (timers v.cyclics) after
      (hands_out now id stop high (Some id) u v (omega (arith, soon, after)) distinct sound first stopped) in
      let same : timers v.cyclics ≡ timers w.cyclics = ap (λ (y : CpuView R). timers y.cyclics) (sym cpu) in (
        high_is,
        counts later v.most id answer high'' w x soon awake (ap (λ (y : CpuView R). y.most) cpu)
            (subst (λ ts. Comes later v.most id ts) same comes)
            (subst (λ h. FiresPart firing later answer h w high'' x) high_is last),
      )
