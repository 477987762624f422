-- The machine of a script and what is told of one name go side by side.
use Rattle.std.proofs.Common.{◌≡◌, ◌≢◌, ℕ, ◌+◌, Bool, true, false, cond, List, [], ◌∷◌, length, refl}
use Rattle.std.proofs.Common.{ap, sym, ◌∙◌, subst, ◌==◌, eq-eqb, eqb-true, arith, Option, Some, None}
use Rattle.std.specs.Prelude.{IsSome, is_some, not, ◌&&◌, slice_set, slice_index_or, int_lt, pos}
use Rattle.std.proofs.lemmas.List.{get_or-set_same, get_or-set_other}
use Rattle.std.proofs.lemmas.Bool.{not-true}
use Rattle.cyc_types.specs.declared.refusal.Refusal.TheVariants.{BadWhen, NoCyclic}
use Rattle.cyc_types.specs.Series.{first}
use Rattle.cyc_script.specs.declared.step.Step.{Step}
use Rattle.cyc_script.specs.declared.step.Step.TheVariants.{Add, Omni, Bind, Unbind, Reprogram, Remove, Advance, Softint, Juggle}
use Rattle.cyc_script.specs.declared.step.Step.TheVariants.{Offline, Online, Suspend, Resume}
use Rattle.cyc_script.specs.declared.step.Reprogram.{Reprogram as ReprogramStep}
use Rattle.cyc_model.specs.Cpu.{Cpu, has_cyclic}
use Rattle.cyc_model.specs.Moving.{reprogram_here}
use Rattle.cyc_model.specs.Questions.{plain}
use Rattle.cyc_model.specs.State.{State, OnAll, cpu_of, on_number, cpus_online, cpus_having}
use Rattle.cyc_model.specs.Places.{id_of, placement_of, is_no_cyclic, is_omni, is_placed_everywhere, given}
use Rattle.cyc_types.specs.Reasons.{when, first_refusal}
use Rattle.cyc_model.specs.Refusals.{magnitude, is_no_cpu, cpu_is_offline, after_refusal}
use Rattle.cyc_model.specs.Bind.{cyclic_is_absent, cyclic_is_omni}
use Rattle.cyc_model.specs.Omni.{everywhere}
use Rattle.cyc_model.specs.Remove.{busy_on_any}
use Rattle.cyc_model.specs.Reprogram.{cpu_refusals, has_no_component, cpu_meant}
use Rattle.cyc_model.specs.Script.{refusal_of, does, text_in}
use Rattle.cyc_model.proofs.Rising.{found, any_found}
use Rattle.cyc_model.proofs.Placing.{placement_known}
use Rattle.cyc_model.proofs.Reaching.{well_does}
use Rattle.cyc_model.proofs.Totals.{expired_in}
use Rattle.cyc_model.proofs.Numbers.{numbers_rise, numbers_pass}
use Rattle.cyc_model.proofs.Refusing.{none_first, not_when, not_not, is_cyclic, not_omnipresent, fires_before}
use Rattle.cyc_model.proofs.Calm.{good_clock}
use Rattle.cyc_model.proofs.Still.{still_bind, still_fires, still_enters, still_juggle, still_offline, still_online}
use Rattle.cyc_model.proofs.Still.{still_remove, still_softint}
use Rattle.cyc_expected.specs.Course.{Course, Idle, Single, OnEach, Told, Begins, BeginsOnAll, Passes, Ends}
use Rattle.cyc_expected.specs.Course.{
  told_after,
  with_component,
  course_after,
  due_everywhere,
  component_begins_at,
  components_from,
}
use Rattle.cyc_expected.specs.Expected.{event_of, clock_after, reprogrammed}
use Rattle.cyc_expected.specs.Way.{is_done}
use Rattle.cyc_expected.proofs.Counts.{calm_expired, IsNoAdvance}
use Rattle.cyc_expected.proofs.Fires.{all_fired, due_at, sum_none}
use Rattle.cyc_expected.proofs.Stopped.{Stopped, stopped_does, removed_stopped, none_due}
use Rattle.cyc_expected.proofs.Running.{Running}
use Rattle.cyc_expected.proofs.Goes.{IsOther, IsHere, runs_does, runs_moment, runs_fired, runs_added}
use Rattle.cyc_expected.proofs.Naming.{Ready, IsWithin, both_true}
use Rattle.cyc_expected.proofs.Spread.{Spread}
use Rattle.cyc_expected.proofs.Components.{spread_set}
use Rattle.cyc_expected.proofs.Everywhere.{spread_does, spread_fired, spread_offline, spread_remained, spread_online}
use Rattle.cyc_expected.proofs.Everywhere.{spread_begun}
use Rattle.cyc_expected.proofs.Ups.{Ups, ups_left}

-- what is told of a cyclic is so
abbrev pub IsCourse : ℕ → Course → State → Type 0
IsCourse id Idle s = Stopped id s
IsCourse id (Single moment interval) s = Running id moment interval s
IsCourse id (OnEach e moments) s = Spread id e moments s

pub record Follows (name : ℕ) (s : State) (course : Course) (expired : ℕ) : Type 0 where
  pub course_is : IsCourse (id_of name s) course s
  pub expired_is : expired_in (id_of name s) s ≡ expired

module _ (texts : List (List ℕ)) (f : ℕ → ℕ) (step name : ℕ) (s : State) (h : Ready s) where
  abbrev id : ℕ
  id = id_of name s

  abbrev after : Step → State
  after x = (does plain texts f step x s).state

  to : (t : State) (course : Course) (expired : ℕ) → id_of name t ≡ id → IsCourse id course t → expired_in id t ≡ expired
      → Follows name t course expired
  to t course expired same is count = record {
    course_is = subst (λ i. IsCourse i course t) (sym same) is;
    expired_is = ap (λ i. expired_in i t) same ∙ count;
  }

  other : (x : Step) → refusal_of plain x s ≡ None → IsOther id s x → IsHere x → (course : Course) → IsCourse id course s
      → IsCourse id course (after x)
  other x why is here Idle c = stopped_does texts f step id x s h.good why c
  other x why is here (Single m e) c = runs_does texts f step id m e x s h.good why is c
  other x why is here (OnEach e ms) c = spread_does texts f step id e ms s h.good c x why is here

  passes : (x : Step) → refusal_of plain x s ≡ None → IsOther id s x → IsHere x → IsNoAdvance x → id_of name (after x) ≡ id
      → (course : Course) (expired : ℕ) → Follows name s course expired → Follows name (after x) course expired
  passes x why is here calm same course expired c = to (after x) course expired same (other x why is here course c.course_is)
      (calm_expired texts f step s h.good id x calm why ∙ c.expired_is)

  -- a name of a known cyclic has an id of its own
  known_apart : (j : ℕ) → IsSome (placement_of (id_of j s) s) → j ≢ name → id ≢ id_of j s
  known_apart j known ne e = by (placement_of (id_of j s) s) refl known
    where
      by : (o : _) → placement_of (id_of j s) s ≡ o → IsSome o → ⊥
      by None is some = absurd (cc)
      by (Some p) is some =
          let k = placement_known (id_of j s) s p h.good.base.rise is in let a = k.0 in
          let z = h.apart j name ne (sym e) in omega (arith, a, z)

  still_id : (t : State) → t.names ≡ s.names → id_of name t ≡ id
  still_id t same = ap (λ ns. slice_index_or ns name 0) same

  -- ---- its own words

  own_moment : (r : ReprogramStep) → refusal_of plain (Reprogram r) s ≡ None → r.name ≡ name → (u : Told)
      → Follows name s u.course u.expired
      → Follows name (after (Reprogram r)) (told_after (reprogrammed r.cpu (magnitude r.moment)) u).course
      (told_after (reprogrammed r.cpu (magnitude r.moment)) u).expired
  own_moment r why same u c = by r.cpu refl u.course c
    where
      e : id_of r.name s ≡ id_of name s
      e = ap (λ j. id_of j s) same

      count : expired_in (id_of name s) (after (Reprogram r)) ≡ u.expired
      count = calm_expired texts f step s h.good (id_of name s) (Reprogram r) tt why ∙ c.expired_is

      all : first_refusal (cpu_refusals r.cpu (id_of r.name s) s) ≡ None
      all = (none_first (cyclic_is_absent (id_of r.name s) s) (cpu_refusals r.cpu (id_of r.name s) s)
          (none_first (when (int_lt r.moment (pos 0)) BadWhen) (cyclic_is_absent (id_of r.name s) s
          ∷ cpu_refusals r.cpu (id_of r.name s) s) why).1).1

      stopped : Stopped (id_of name s) s → Stopped (id_of name s) (after (Reprogram r))
      stopped k = stopped_does texts f step (id_of name s) (Reprogram r) s h.good why k

      on_all : (n : ℕ) → first_refusal (cpu_refusals (Some n) (id_of r.name s) s) ≡ None
          → (is_omni (id_of r.name s) s ≡ true) × (has_cyclic (id_of r.name s) (cpu_of n s) ≡ true)
      on_all n a =
          let i = id_of r.name s in
          let b = none_first (is_no_cpu n s) (cpu_is_offline n s ∷ has_no_component i n s ∷ []) a in
          let d = none_first (cpu_is_offline n s) (has_no_component i n s ∷ []) b.1 in
          let k = not_not (is_omni i s && has_cyclic i (cpu_of n s))
          (not_when (not (is_omni i s && has_cyclic i (cpu_of n s))) NoCyclic (none_first (has_no_component i n s) []
          d.1).0) in
          both_true (is_omni i s) (has_cyclic i (cpu_of n s)) k

      by : (cpu : Option ℕ) → r.cpu ≡ cpu → (course : Course) → Follows name s course u.expired
          → Follows name (after (Reprogram r))
          (told_after (reprogrammed cpu (magnitude r.moment)) (record {
            online = u.online;
            course = course;
            expired =
                u.expired;
          })).course
          (told_after (reprogrammed cpu (magnitude r.moment)) (record {
            online = u.online;
            course = course;
            expired =
                u.expired;
          })).expired
      by None is Idle k = to (after (Reprogram r)) Idle u.expired refl (stopped k.course_is) count
      by (Some n) is Idle k = to (after (Reprogram r)) Idle u.expired refl (stopped k.course_is) count
      by None is (Single m v) k = to (after (Reprogram r)) (Single (magnitude r.moment) v) u.expired refl
          (subst (λ t. Running (id_of name s) (magnitude r.moment) v t)
          (λ i. (on_number (cpu_meant (sym is i) (sym e i) s) (reprogram_here (sym e i) (magnitude r.moment)) s).state)
          (runs_moment (id_of name s) m v (magnitude r.moment) s h.good k.course_is)) count
      by (Some n) is (Single m v) k = absurd (
          let a = on_all n (subst (λ cpu. first_refusal (cpu_refusals cpu (id_of r.name s) s) ≡ None) is all) in
          let no : false ≡ true = sym k.course_is.single ∙ (ap (λ i. is_omni i s) (sym e) ∙ a.0) in cc)
      by None is (OnEach v ms) k = absurd (
          let a = subst (λ cpu. first_refusal (cpu_refusals cpu (id_of r.name s) s) ≡ None) is all in
          let single = not_omnipresent (id_of r.name s) s (none_first (cyclic_is_omni (id_of r.name s) s) [] a).0 in
          let wrong : true ≡ false = sym (ap is_placed_everywhere k.course_is.placement) ∙ (ap (λ i. is_omni i s) (sym e)
          ∙ single) in
          cc)
      by (Some n) is (OnEach v ms) k =
          let a = on_all n (subst (λ cpu. first_refusal (cpu_refusals cpu (id_of r.name s) s) ≡ None) is all) in
          to (after (Reprogram r)) (OnEach v (slice_set ms n (Some (magnitude r.moment)))) u.expired refl
          (subst (λ t. Spread (id_of name s) v (slice_set ms n (Some (magnitude r.moment))) t)
          (λ i. (on_number (cpu_meant (sym is i) (sym e i) s) (reprogram_here (sym e i) (magnitude r.moment)) s).state)
          (spread_set (id_of name s) v ms n (magnitude r.moment) s k.course_is
          (subst (λ i. IsSome (found i (cpu_of n s).cyclics)) e (sym (any_found (id_of r.name s) (cpu_of n s).cyclics) ∙ a.1))))
          count

  own_end : (j : ℕ) → refusal_of plain (Remove j) s ≡ None → j ≡ name → (expired : ℕ) → expired_in id s ≡ expired
      → Follows name (after (Remove j)) Idle expired
  own_end j why same expired count = to (after (Remove j)) Idle expired
      (still_id (after (Remove j)) (still_remove step (text_in texts j) j s).names)
      (removed_stopped texts f step id j s h.good why (ap (λ i. id_of i s) same) (h.low name))
      (calm_expired texts f step s h.good id (Remove j) tt why ∙ count)

  all_fire : (now : ℕ) → refusal_of plain (Advance now) s ≡ None → (course : Course) (expired : ℕ)
      → Follows name s course expired
      → Follows name (after (Advance now)) (course_after now course) (expired + due_everywhere now course)
  all_fire now why course expired c = by course c
    where
      r : State
      r = record s { clock = now }

      same : id_of name (after (Advance now)) ≡ id_of name s
      same = still_id (after (Advance now)) (still_fires now (cpus_online s) (record s { clock = now })).names

      by : (course : Course) → Follows name s course expired
          → Follows name (after (Advance now)) (course_after now course) (expired + due_everywhere now course)
      by Idle k =
          let before = fires_before now s why in
          let e = (all_fired (id_of name s) now before 0 (cpus_online s) (record s { clock = now }) (good_clock now s h.good)
          (numbers_rise (λ (c : Cpu). c.online) 0 s.cpus) (λ m has. (numbers_pass (λ (c : Cpu). c.online) m s has).0)).expired in
          let z = sum_none (due_at (id_of name s) now before (record s { clock = now })) (cpus_online s)
          (λ m has. none_due (id_of name s) now s h.good before k.course_is m) in
          let was = k.expired_is in
          let start : expired_in (id_of name s) (record s { clock = now }) ≡ expired_in (id_of name s) s = refl in
          to (after (Advance now)) Idle (expired + 0) same
          (stopped_does texts f step (id_of name s) (Advance now) s h.good why k.course_is)
          (omega (arith, e, z, was, start))
      by (Single m v) k =
          let q = runs_fired (id_of name s) m v now s h.good (fires_before now s why) k.course_is in
          to (after (Advance now)) (course_after now (Single m v)) (expired + due_everywhere now (Single m v)) same q.0
          (q.1 ∙ ap (λ n. n + due_everywhere now (Single m v)) k.expired_is)
      by (OnEach v ms) k =
          let q = spread_fired texts f step (id_of name s) v ms s h.good k.course_is now (fires_before now s why)
          (well_does texts f step (Advance now) s h.good why).0.tells.as_many in
          to (after (Advance now)) (course_after now (OnEach v ms)) (expired + due_everywhere now (OnEach v ms)) same q.0
          (q.1 ∙ ap (λ n. n + due_everywhere now (OnEach v ms)) k.expired_is)

  -- ---- a CPU goes offline, and one comes back

  course_off : (n : ℕ) → refusal_of plain (Offline n) s ≡ None → (cpu_of n (after (Offline n))).online ≡ false
      → (course : Course) → IsCourse id course s → IsCourse id (with_component n (λ e. None) course) (after (Offline n))
  course_off n why off Idle c = stopped_does texts f step id (Offline n) s h.good why c
  course_off n why off (Single m e) c = runs_does texts f step id m e (Offline n) s h.good why tt c
  course_off n why off (OnEach e ms) c = spread_offline texts f step id e ms s h.good c n why off

  course_left : (n : ℕ) → refusal_of plain (Offline n) s ≡ None → (cpu_of n (after (Offline n))).online ≡ true
      → (course : Course) → IsCourse id course s → IsCourse id course (after (Offline n))
  course_left n why on_ Idle c = stopped_does texts f step id (Offline n) s h.good why c
  course_left n why on_ (Single m e) c = runs_does texts f step id m e (Offline n) s h.good why tt c
  course_left n why on_ (OnEach e ms) c = spread_remained texts f step id e ms s h.good c n why on_

  course_on : (n : ℕ) → refusal_of plain (Online n) s ≡ None → (course : Course) → IsCourse id course s
      → IsCourse id (with_component n (λ e. Some (component_begins_at n e s.clock)) course) (after (Online n))
  course_on n why Idle c = stopped_does texts f step id (Online n) s h.good why c
  course_on n why (Single m e) c = runs_does texts f step id m e (Online n) s h.good why tt c
  course_on n why (OnEach e ms) c = spread_online texts f step id e ms s h.good c n why

  -- ---- any word

  abbrev FollowsAfter : Step → Told → Type 0
  FollowsAfter x u = Follows name (after x) (told_after (event_of name s.clock x) u).course
      (told_after (event_of name s.clock x) u).expired

  pub follows_does : (x : Step) → refusal_of plain x s ≡ None → is_done x (after x) ≡ true → IsWithin (length s.names) x
      → (u : Told) → Ups u.online s → Follows name s u.course u.expired → FollowsAfter x u
  follows_does (Add a) why done in_ u ups c = by (a.name == name) refl
    where
      by : (b : Bool) → (a.name == name) ≡ b → Follows name (after (Add a))
          (told_after (cond b (Begins (magnitude a.start) (magnitude a.interval) s.clock) Passes) u).course
          (told_after (cond b (Begins (magnitude a.start) (magnitude a.interval) s.clock) Passes) u).expired
      by true is =
          let same : id_of name (after (Add a)) ≡ s.last_id + 1 =
          ap (λ j. slice_index_or (slice_set s.names a.name (s.last_id + 1)) j 0) (sym (eqb-true a.name name is))
          ∙ get_or-set_same s.names a.name (s.last_id + 1) 0 in_ in
          record {
            course_is = subst (λ i. Running i (first (magnitude a.start) (magnitude a.interval) s.clock)
                (magnitude a.interval) (after (Add a))) (sym same) (runs_added texts f step a s h.good);
            expired_is = ap (λ i. expired_in i (after (Add a))) same
                ∙ (calm_expired texts f step s h.good (s.last_id + 1) (Add a) tt why ∙ h.fresh (s.last_id + 1) (omega arith));
          }
      by false is = passes (Add a) why tt tt tt
          (get_or-set_other s.names a.name name (s.last_id + 1) 0 (λ e. let t : (a.name == name) ≡ true = eq-eqb a.name name
          (sym e)
          in let no : true ≡ false = sym t ∙ is in absurd (cc))) u.course u.expired c
  follows_does (Omni a) why done in_ u ups c = by (a.name == name) refl
    where
      names : (after (Omni a)).names ≡ slice_set s.names a.name (s.last_id + 1)
      names = let r = given a.name (OnAll (everywhere a)) s in
          (still_enters f (s.last_id + 1) (everywhere a) (cpus_online r) r).names

      by : (b : Bool) → (a.name == name) ≡ b → Follows name (after (Omni a))
          (told_after (cond b (BeginsOnAll (everywhere a) s.clock) Passes) u).course
          (told_after (cond b (BeginsOnAll (everywhere a) s.clock) Passes) u).expired
      by true is =
          let same : id_of name (after (Omni a)) ≡ s.last_id + 1 =
          ap (λ ns. slice_index_or ns name 0) names
          ∙ (ap (λ j. slice_index_or (slice_set s.names a.name (s.last_id + 1)) j 0) (sym (eqb-true a.name name is))
          ∙ get_or-set_same s.names a.name (s.last_id + 1) 0 in_) in
          record {
            course_is = subst (λ i. Spread i (everywhere a) (components_from 0 (everywhere a) s.clock u.online)
                (after (Omni a))) (sym same)
                (spread_begun texts f step a u.online s h.good ups.long ups.up
                (well_does texts f step (Omni a) s h.good why).0.tells.as_many);
            expired_is = ap (λ i. expired_in i (after (Omni a))) same
                ∙ (calm_expired texts f step s h.good (s.last_id + 1) (Omni a) tt why ∙ h.fresh (s.last_id + 1) (omega arith));
          }
      by false is = passes (Omni a) why tt tt tt (ap (λ ns. slice_index_or ns name 0) names
          ∙ get_or-set_other s.names a.name name (s.last_id + 1) 0 (λ e. let t : (a.name == name) ≡ true = eq-eqb a.name name
          (sym e)
          in let no : true ≡ false = sym t ∙ is in absurd (cc))) u.course u.expired c
  follows_does (Bind b) why done in_ u ups c = passes (Bind b) why tt tt tt
      (still_id (after (Bind b)) (still_bind f step b s).names) u.course u.expired c
  follows_does (Unbind j) why done in_ u ups c = passes (Unbind j) why tt tt tt refl u.course u.expired c
  follows_does (Reprogram r) why done in_ u ups c = by (r.name == name) refl
    where
      known : IsSome (placement_of (id_of r.name s) s)
      known = (is_cyclic (id_of r.name s) s (none_first (cyclic_is_absent (id_of r.name s) s) (cpu_refusals r.cpu (id_of r.name
          s) s)
          (none_first (when (int_lt r.moment (pos 0)) BadWhen) (cyclic_is_absent (id_of r.name s) s
          ∷ cpu_refusals r.cpu (id_of r.name s) s) why).1).0).0

      by : (b : Bool) → (r.name == name) ≡ b → Follows name (after (Reprogram r))
          (told_after (cond b (reprogrammed r.cpu (magnitude r.moment)) Passes) u).course
          (told_after (cond b (reprogrammed r.cpu (magnitude r.moment)) Passes) u).expired
      by true is = own_moment r why (eqb-true r.name name is) u c
      by false is = passes (Reprogram r) why (known_apart r.name known (λ e. let t : (r.name == name) ≡ true = eq-eqb r.name
          name e
          in let no : true ≡ false = sym t ∙ is in absurd (cc))) tt tt refl u.course u.expired c
  follows_does (Remove j) why done in_ u ups c = by (j == name) refl
    where
      known : IsSome (placement_of (id_of j s) s)
      known = not_not (is_some (placement_of (id_of j s) s)) (not_when (is_no_cyclic (id_of j s) s) NoCyclic
          (none_first (when (is_no_cyclic (id_of j s) s) NoCyclic) (busy_on_any plain (cpus_having (id_of j s) s) s) why).0)

      by : (b : Bool) → (j == name) ≡ b → Follows name (after (Remove j))
          (told_after (cond b Ends Passes) u).course (told_after (cond b Ends Passes) u).expired
      by true is = own_end j why (eqb-true j name is) u.expired c.expired_is
      by false is = passes (Remove j) why (known_apart j known (λ e. let t : (j == name) ≡ true = eq-eqb j name e
          in let no : true ≡ false = sym t ∙ is in absurd (cc))) tt tt
          (still_id (after (Remove j)) (still_remove step (text_in texts j) j s).names) u.course u.expired c
  follows_does (Advance now) why done in_ u ups c = all_fire now why u.course u.expired c
  follows_does (Softint i) why done in_ u ups c = passes (Softint i) why tt tt tt
      (still_id (after (Softint i)) (still_softint texts step i s).names) u.course u.expired c
  follows_does (Juggle n) why done in_ u ups c = passes (Juggle n) why tt tt tt
      (still_id (after (Juggle n)) (still_juggle f step n s).names) u.course u.expired c
  follows_does (Offline n) why done in_ u ups c = to (after (Offline n)) (with_component n (λ e. None) u.course) u.expired
      (still_id (after (Offline n)) (still_offline f step n s).names)
      (course_off n why (not-true (cpu_of n (after (Offline n))).online done) u.course c.course_is)
      (calm_expired texts f step s h.good id (Offline n) tt why ∙ c.expired_is)
  follows_does Suspend why done in_ u ups c = passes Suspend why tt tt tt refl u.course u.expired c
  follows_does Resume why done in_ u ups c = passes Resume why tt tt tt refl u.course u.expired c
  follows_does (Online n) why done in_ u ups c =
      to (after (Online n)) (with_component n (λ e. Some (component_begins_at n e s.clock)) u.course) u.expired
      (still_id (after (Online n)) (still_online f step n s).names) (course_on n why u.course c.course_is)
      (calm_expired texts f step s h.good id (Online n) tt why ∙ c.expired_is)

  -- a step that was not refused, and not done, is an `offline` that left its CPU online
  pub undone : (x : Step) → refusal_of plain x s ≡ None → is_done x (after x) ≡ false → (u : Told)
      → Ups u.online s → Follows name s u.course u.expired
      → Follows name (after x) u.course u.expired × Ups u.online (after x)
  undone (Offline n) why left u ups c =
      let on_ = not_not (cpu_of n (after (Offline n))).online left in (
        to (after (Offline n)) u.course u.expired (still_id (after (Offline n)) (still_offline f step n s).names)
            (course_left n why on_ u.course c.course_is)
            (calm_expired texts f step s h.good id (Offline n) tt why ∙ c.expired_is),
        ups_left texts f step s h.good n why on_ u.online ups,
      )
  undone (Add a) why left u ups c = absurd (let wrong : true ≡ false = left in cc)
  undone (Omni a) why left u ups c = absurd (let wrong : true ≡ false = left in cc)
  undone (Bind b) why left u ups c = absurd (let wrong : true ≡ false = left in cc)
  undone (Unbind j) why left u ups c = absurd (let wrong : true ≡ false = left in cc)
  undone (Reprogram r) why left u ups c = absurd (let wrong : true ≡ false = left in cc)
  undone (Remove j) why left u ups c = absurd (let wrong : true ≡ false = left in cc)
  undone (Advance now) why left u ups c = absurd (let wrong : true ≡ false = left in cc)
  undone (Softint i) why left u ups c = absurd (let wrong : true ≡ false = left in cc)
  undone (Juggle n) why left u ups c = absurd (let wrong : true ≡ false = left in cc)
  undone (Online n) why left u ups c = absurd (let wrong : true ≡ false = left in cc)
  undone Suspend why left u ups c = absurd (let wrong : true ≡ false = left in cc)
  undone Resume why left u ups c = absurd (let wrong : true ≡ false = left in cc)

  pub clock_does : (x : Step) → (after x).clock ≡ clock_after x s.clock
  clock_does (Add a) = refl
  clock_does (Omni a) =
      let r = given a.name (OnAll (everywhere a)) s in (still_enters f (s.last_id + 1) (everywhere a) (cpus_online r) r).clock
  clock_does (Bind b) = (still_bind f step b s).clock
  clock_does (Unbind j) = refl
  clock_does (Reprogram r) = refl
  clock_does (Remove j) = (still_remove step (text_in texts j) j s).clock
  clock_does (Advance now) = (still_fires now (cpus_online s) (record s { clock = now })).clock
  clock_does (Softint i) = (still_softint texts step i s).clock
  clock_does (Juggle n) = (still_juggle f step n s).clock
  clock_does (Offline n) = (still_offline f step n s).clock
  clock_does (Online n) = (still_online f step n s).clock
  clock_does Suspend = refl
  clock_does Resume = refl

-- after a step that is refused
pub follows_refused : (x : Step) (name : ℕ) (s : State) (course : Course) (expired : ℕ) → Follows name s course expired
    → Follows name (after_refusal x s) course expired
follows_refused x name s course expired c = record { course_is = by course c.course_is; expired_is = c.expired_is }
  where
    by : (course : Course) → IsCourse (id_of name s) course s → IsCourse (id_of name s) course (after_refusal x s)
    by Idle k = k
    by (Single moment interval) k = record {
      stays = k.stays;
      single = k.single;
      it = k.it;
      here = k.here;
      moment_is = k.moment_is;
      interval_is = k.interval_is;
    }
    by (OnEach e moments) k = record { stays = k.stays; placement = k.placement; long = k.long; here = k.here }
