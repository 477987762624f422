-- A CPU that takes part again is what the definition says.
use Rattle.std.proofs.Common.{◌≡◌, ◌≢◌, ℕ, zero, suc, ◌+◌, ◌-◌, ◌<◌, ◌==◌, ◌⊎◌, inl, inr, eq-eqb, ne_eqb, Bool, true, false, cond}
use Rattle.std.proofs.Common.{not, List, [], ◌∷◌, ◌++◌, length, map, filter, get_or, Option, Some, None, refl, ap, sym, ◌∙◌}
use Rattle.std.proofs.Common.{subst, arith}
use Rattle.std.specs.Prelude.{slice_set, nat_lt, ◌&&◌, Ok, Err}
use Rattle.std.specs.List.{slice_get}
use Rattle.std.specs.Option.{option_map}
use Rattle.std.proofs.lemmas.Option.{slice_get-map}
use Rattle.std.proofs.lemmas.List.{length-map, get_or-set_same, get_or-set_other}
use mathlib.Core.Logic.{dite}
use native.Mathlib.Decide.{ℕ_discrete}
use Rattle.cyc_types.specs.Limits.{cyclics as most_cyclics}
use Rattle.cyc_types.specs.declared.level.Level.{Level}
use Rattle.cyc_types.specs.declared.level.Soft.{Soft}
use Rattle.cyc_types.specs.declared.refusal.Refusal.{Refusal}
use Rattle.cyc_types.specs.declared.refusal.Refusal.TheVariants.{Memory, BadNow, Full, Busy, Expanding, NoCpu, Online}
use Rattle.cyc_core.specs.Tables.{Tables}
use Rattle.cyc_script.specs.declared.step.Step.TheVariants as steps
use Rattle.cyc_text.specs.Lines.{accepted as accepted_line}
use Rattle.cyc_cpu.specs.Soft.{raise_tables}
use Rattle.cyc_cpu.specs.Calls.{Reserve, Widen, Place}
use Rattle.cyc_places.specs.declared.record.Placement.{Placement as RecordPlacement}
use Rattle.cyc_places.specs.declared.record.Placement.TheVariants as placements
use Rattle.cyc_places.specs.declared.record.Record.{Record}
use Rattle.cyc_places.specs.Places.{IsRecord, HasRisingIds, is_everywhere as everywhere_in, ended_on, with_ended}
use Rattle.cyc_system.specs.Cpus.{CpusView, Works, on as on_cpu}
use Rattle.cyc_system.specs.System.{SystemView, is_leaving as leaving_in}
use Rattle.cyc_system.specs.Refusals as why
use Rattle.cyc_system.specs.Omni.{component_first}
use Rattle.cyc_system.specs.Online.{is_staying, staying as staying_in, returns, return_at as returns_at, after_return}
use Rattle.cyc_system.specs.Online.{online_cpu as online_there}
use Rattle.cyc_system.specs.Calls.{Online as GoOnline, Changes}
use Rattle.cyc_model.specs.Acts.{calls_of, events_at}
use Rattle.cyc_model.specs.Cpu.{Cpu, nothing_here}
use Rattle.cyc_model.specs.Moving.{must_grow, widen_here, place_here}
use Rattle.cyc_model.specs.Questions.{plain, soft_has_followed}
use Rattle.cyc_model.specs.Serving.{level_at}
use Rattle.cyc_model.specs.Free.{AllCanBeAdmitted}
use Rattle.cyc_model.specs.State.{State, Outcome, Ended, Everywhere, Placed, absent, cpu_of, followed_by, on_number, each, told}
use Rattle.cyc_model.specs.Places.{is_being_removed, without_ended}
use Rattle.cyc_model.specs.Add.{one_admitted}
use Rattle.cyc_types.specs.Reasons.{or_else, when, only_if, busy, bad_now}
use Rattle.cyc_types.specs.Counting.{no_counts}
use Rattle.cyc_model.specs.Online.{is_on_all, staying_omni, is_online_already, no_room_for_all, online_refusal, again}
use Rattle.cyc_model.specs.Online.{return_here, return_of}
use Rattle.cyc_model.specs.Online.{return_all, go_online}
use Rattle.cyc_model.proofs.Agreement.{agrees_with}
use Rattle.cyc_model.proofs.Local.{Local, same_low_lock, local_nothing, local_widen, local_place}
use Rattle.cyc_system_model.specs.Answers.{IsRefused, why_no_room}
use Rattle.cyc_cpu.specs.Cpu.{CpuView}
use Rattle.cyc_system_model.specs.ShownCpu.{shown_cpu}
use Rattle.cyc_system_model.proofs.Free.{none_admitted, widen_none}
use Rattle.cyc_system_model.proofs.Half.{half, half_works}
use Rattle.cyc_system_model.specs.Shown.{shown_list, shown_cpus, shown_placement, shown_record, shown_counts, ShowsSystem}
use Rattle.cyc_system_model.specs.Shown.{AreTied}
use Rattle.cyc_system_model.specs.Shown.{IsSystem}
use Rattle.cyc_system_model.specs.SystemWords.{GivesIndexes, ComesTo, IsDone, IsRefusedFor}
use Rattle.cyc_system_model.proofs.Cpus.{cpu_at, done_at, long_shown}
use Rattle.cyc_system_model.proofs.Asking.{online_at, same_no_cpu, leaving_shown, no_memory_when, no_memory_else, some_refused}
use Rattle.cyc_system_model.proofs.Asking.{same_error}
use Rattle.cyc_system_model.proofs.Entering.{unchanged, same_shown}
use Rattle.cyc_system_model.proofs.Going.{Goes, goes_alike, goes_from, goes_to, goes_then, goes_on}
use Rattle.cyc_system.proofs.Spots.{same_some, none_some}
use Rattle.cyc_system.proofs.Recording.{tail_rises}

-- ---- the cyclics that return

abbrev first_stay : (ℕ → Bool) → List Placed → List Placed
first_stay leaves ps = filter (λ (p : Placed). is_on_all p.placement) (filter (λ (p : Placed). not (leaves p.id)) ps)

stay_by : (p : RecordPlacement) (level : Level) (id : ℕ) (leaves : Bool) (r : Record) (rs : List Record) (ps : List Placed)
    (kept_rs : List Record)
    → shown_record r ≡ record { id = id; placement = shown_placement level p }
    → filter (λ (q : Placed). is_on_all q.placement) ps ≡ map shown_record kept_rs
    → filter (λ (q : Placed). is_on_all q.placement) (cond (not leaves) (record {
      id = id;
      placement = shown_placement level p;
    } ∷ ps) ps)
    ≡ map shown_record (cond (everywhere_in p && not leaves) (r ∷ kept_rs) kept_rs)
stay_by (placements.On n bound) level id true r rs ps kept_rs is rest = rest
stay_by (placements.On n bound) level id false r rs ps kept_rs is rest = rest
stay_by (placements.Everywhere series skew) level id true r rs ps kept_rs is rest = rest
stay_by (placements.Everywhere series skew) level id false r rs ps kept_rs is rest = λ z. sym is z ∷ rest z

stay_shown : (leaves own : ℕ → Bool) → ((id : ℕ) → leaves id ≡ own id) → (rs : List Record)
    → first_stay leaves (map shown_record rs)
    ≡ map shown_record (filter (λ (r : Record). everywhere_in r.placement && not (own r.id)) rs)
stay_shown leaves own same [] = refl
stay_shown leaves own same (r ∷ rs) =
    stay_by r.placement r.level r.id (leaves r.id) r rs (filter (λ (p : Placed). not (leaves p.id)) (map shown_record rs))
    (filter (λ (q : Record). everywhere_in q.placement && not (own q.id)) rs) refl (stay_shown leaves own same rs)
    ∙ ap (λ b. map shown_record (cond (everywhere_in r.placement && not b)
    (r ∷ filter (λ (q : Record). everywhere_in q.placement && not (own q.id)) rs)
    (filter (λ (q : Record). everywhere_in q.placement && not (own q.id)) rs))) (same r.id)

-- ---- each component

abbrev zero_counts : Ended
zero_counts = record { expired = 0; lost = 0 }

record Returned (n : ℕ) (rs : List Record) (given_there : List ℕ) (s : State) (o : Outcome) (y : CpusView Tables) : Type 0 where
  goes : Goes s o
  cpus : o.state.cpus ≡ shown_cpus y
  admissions : o.state.admissions ≡ s.admissions + length given_there
  placed : o.state.placed ≡ s.placed
  last : o.state.last_id ≡ s.last_id
  taken : (j : ℕ) (r : Record) → IsRecord rs j r → o.state.ended r.id n ≡ zero_counts
  left : (id m : ℕ) → (m ≡ n → (j : ℕ) (r : Record) → IsRecord rs j r → r.id ≢ id) → o.state.ended id m ≡ s.ended id m

first_or_later : (r : Record) (rs : List Record) (P : Record → Type 0) (j : ℕ) (q : Record) → IsRecord (r ∷ rs) j q → P r
    → ((i : ℕ) (a : Record) → IsRecord rs i a → P a) → P q
first_or_later r rs P zero q at own rest = subst P (same_some at) own
first_or_later r rs P (suc j) q at own rest = rest j q at

abbrev AllEverywhere : List Record → Type 0
AllEverywhere rs = (j : ℕ) (r : Record) → IsRecord rs j r → everywhere_in r.placement ≡ true

abbrev HaveEnded : ℕ → List Record → State → Type 0
HaveEnded n rs s = (j : ℕ) (r : Record) → IsRecord rs j r → s.ended r.id n ≡ shown_counts (ended_on n r)

gone_here : (id n q m : ℕ) (e : Ended) → q ≡ id → m ≡ n → cond ((q == id) && (m == n)) zero_counts e ≡ zero_counts
gone_here id n q m e same here = (λ z. cond (eq-eqb q id same z && (m == n)) zero_counts e)
    ∙ ap (λ b. cond b zero_counts e) (eq-eqb m n here)

kept_other : (id n q m : ℕ) (e : Ended) → (m ≡ n → q ≢ id) → cond ((q == id) && (m == n)) zero_counts e ≡ e
kept_other id n q m e apart = dite (ℕ_discrete q id)
    (λ same. (λ z. cond (eq-eqb q id same z && (m == n)) zero_counts e)
    ∙ ap (λ b. cond b zero_counts e) (ne_eqb m n (λ here. apart here same)))
    (λ other. ap (λ b. cond (b && (m == n)) zero_counts e) (ne_eqb q id other))

abbrev GivesBack : ℕ → ℕ → List Record → CpusView Tables → CpusView Tables → Type 0
GivesBack n now rs x y = (given_there : List ℕ)
    × ((s : State) (indexes : ℕ → ℕ) → s.cpus ≡ shown_cpus x → s.clock ≡ now → HaveEnded n rs s
    → GivesIndexes indexes s.admissions given_there → Returned n rs given_there s (each (return_of indexes n) (map shown_record
    rs) s) y)

all_return : (n now : ℕ) (rs : List Record) (x y : CpusView Tables) → length x.online ≡ length x.cpus → AreTied x
    → HasRisingIds rs → AllEverywhere rs
    → Works raise_tables (returns n now rs) x y → GivesBack n now rs x y
all_return n now [] x y long tied rising every same = (
  [],
  λ s indexes cpus clock ended gives. record {
    goes = goes_alike s s (refl, refl);
    cpus = cpus ∙ ap shown_cpus same;
    admissions = omega arith;
    placed = refl;
    last = refl;
    taken = λ j r at. absurd (none_some at);
    left = λ id m apart. refl;
  },
)
all_return n now (r ∷ rs) x y long tied rising every works =
    by (λ u long_u tied_u rest. all_return n now rs u y long_u tied_u (tail_rises r rs rising)
    (λ j q at. every (suc j) q at) rest) r.placement refl works
  where
    by : ((u : CpusView Tables) → length u.online ≡ length u.cpus → AreTied u → Works raise_tables (returns n now rs) u y
        → GivesBack n now rs u y) → (p : RecordPlacement) → r.placement ≡ p
        → Works raise_tables (returns_at n now r.id r.level (ended_on n r) p ++ returns n now rs) x y
        → GivesBack n now (r ∷ rs) x y
    by next (placements.On m bound) is did = absurd (let isnt : false ≡ true = sym (ap everywhere_in is) ∙ every 0 r refl in cc)
    by next (placements.Everywhere series skew) is (u, put, rest) =
        let e : Everywhere = record { level = r.level; start = series.start; interval = series.interval; skew = skew } in
        let p = done_at n (Place r.id r.level series.interval (component_first n series skew now) (ended_on n r)) x u long tied
        put in
        let more = next u p.long p.tied rest in (
          p.index ∷ more.0,
          λ s indexes cpus clock ended gives.
              let s1 = without_ended n r.id s in
              let c = again r.id n e (s.ended r.id n) s.clock in
              let f = place_here n (indexes s.admissions) c in
              let o = one_admitted (on_number n f s1) in
              let here : s.ended r.id n ≡ shown_counts (ended_on n r) = ended 0 r refl in
              let at : o.state.cpus ≡ shown_cpus u =
              (λ z. slice_set (cpus z) n (place_here n (gives.0 z) (again r.id n e (here z) (clock z))
              (get_or (cpus z) n absent)).cpu) ∙ sym p.cpus in
              let low : n < length s.cpus = subst (λ cs. n < length cs) (sym cpus) p.within in
              let free : (soft : Soft) → AllCanBeAdmitted (events_at n soft (f (cpu_of n s)).acts) (level_at soft (cpu_of n s)) =
              λ soft. subst (λ b. b) (λ z. AllCanBeAdmitted
              (events_at n soft (place_here n (sym gives.0 z) (again r.id n e (sym here z) (sym clock z))
              (get_or (sym cpus z) n absent)).acts)
              (level_at soft (get_or (sym cpus z) n absent))) (p.free soft) in
              let none : (q : ℕ) → calls_of q (f (cpu_of n s)).acts ≡ 0 =
              λ q. (λ z. calls_of q (place_here n (gives.0 z) (again r.id n e (here z) (clock z))
              (get_or (cpus z) n absent)).acts) ∙ p.quiet q in
              let one : Goes s o = goes_to s (on_number n f s1) [] o.state (refl, refl)
              (goes_from s s1 (on_number n f s1) (refl, refl) (goes_on n f s1 (local_place n (indexes s.admissions) c) low free
              none)) in
              let other : (j : ℕ) (q : Record) → IsRecord rs j q → q.id ≢ r.id =
              λ j q at_q same. let less = rising 0 (suc j) r q (omega arith) refl at_q in absurd (omega (arith, less, same)) in
              let d = more.1 o.state indexes at clock
              (λ j q at_q. kept_other r.id n q.id n (s.ended q.id n) (λ there. other j q at_q) ∙ ended (suc j) q at_q) gives.1 in
              subst (λ pl. Returned n (r ∷ rs) (p.index ∷ more.0) s
              (followed_by (return_here indexes n r.id pl s) (each (return_of indexes n) (map shown_record rs))) y)
              (sym (ap (shown_placement r.level) is)) (record {
                goes = goes_then s o (each (return_of indexes n) (map shown_record rs)) one d.goes;
                cpus = d.cpus;
                admissions = (let a = d.admissions in omega (arith, a));
                placed = d.placed;
                last = d.last;
                taken = λ j q at_q. first_or_later r rs (λ a.
                    (each (return_of indexes n) (map shown_record rs) o.state).state.ended a.id n ≡ zero_counts) j q at_q
                    (d.left r.id n (λ there i a at_a. other i a at_a) ∙ gone_here r.id n r.id n (s.ended r.id n) refl refl)
                    d.taken;
                left = λ id m apart. d.left id m (λ there i a at_a. apart there (suc i) a at_a)
                    ∙ kept_other r.id n id m (s.ended id m) (λ there same. apart there 0 r refl (sym same));
              }),
        )

-- ---- those that stay, among all

filter_back : (test : Record → Bool) (rs : List Record) (j : ℕ) (r : Record) → IsRecord (filter test rs) j r → (k : ℕ)
    × IsRecord rs k r × (test r ≡ true)
filter_back test [] j r at = absurd (none_some at)
filter_back test (x ∷ rs) j r at = by (test x) refl j at (λ i e. filter_back test rs i r e)
  where
    by : (b : Bool) → test x ≡ b → (j : ℕ) → IsRecord (cond b (x ∷ filter test rs) (filter test rs)) j r
        → ((i : ℕ) → IsRecord (filter test rs) i r → (k : ℕ) × IsRecord rs k r × (test r ≡ true)) → (k : ℕ)
        × IsRecord (x ∷ rs) k r × (test r ≡ true)
    by true is zero e rest = (0, e, ap test (sym (same_some e)) ∙ is)
    by true is (suc i) e rest = let (k, there, passes) = rest i e in (suc k, there, passes)
    by false is i e rest = let (k, there, passes) = rest i e in (suc k, there, passes)

filter_there : (test : Record → Bool) (rs : List Record) (k : ℕ) (r : Record) → IsRecord rs k r → test r ≡ true → (j : ℕ)
    × IsRecord (filter test rs) j r
filter_there test [] k r at passes = absurd (none_some at)
filter_there test (x ∷ rs) zero r at passes =
    (0, subst (λ b. IsRecord (cond b (x ∷ filter test rs) (filter test rs)) 0 r) (sym (ap test (same_some at) ∙ passes)) at)
filter_there test (x ∷ rs) (suc k) r at passes = let (j, there) = filter_there test rs k r at passes in by (test x) j there
  where
    by : (b : Bool) (j : ℕ) → IsRecord (filter test rs) j r → (i : ℕ)
        × IsRecord (cond b (x ∷ filter test rs) (filter test rs)) i r
    by true j there = (suc j, there)
    by false j there = (j, there)

filter_rises : (test : Record → Bool) (rs : List Record) → HasRisingIds rs → HasRisingIds (filter test rs)
filter_rises test [] rising = rising
filter_rises test (x ∷ rs) rising = by (test x) (filter_rises test rs (tail_rises x rs rising))
  where
    by : (b : Bool) → HasRisingIds (filter test rs) → HasRisingIds (cond b (x ∷ filter test rs) (filter test rs))
    by false rest i j a c less at_a at_c = rest i j a c less at_a at_c
    by true rest zero zero a c less at_a at_c = absurd (omega (arith, less))
    by true rest zero (suc j) a c less at_a at_c =
        let (k, there, passes) = filter_back test rs j c at_c in
        let low = rising 0 (suc k) x c (omega arith) refl there in
        let same : a.id ≡ x.id = ap (λ (q : Record). q.id) (sym (same_some at_a)) in
        omega (arith, low, same)
    by true rest (suc i) zero a c less at_a at_c = absurd (omega (arith, less))
    by true rest (suc i) (suc j) a c less at_a at_c = rest i j a c (omega (arith, less)) at_a at_c

same_record : (rs : List Record) (j k : ℕ) (a c : Record) → HasRisingIds rs → IsRecord rs j a → IsRecord rs k c → a.id ≡ c.id
    → a ≡ c
same_record rs j k a c rising at_a at_c same = dite (ℕ_discrete j k)
    (λ e. same_some (sym at_a ∙ subst (λ i. slice_get rs i ≡ Some c) (sym e) at_c))
    (λ ne. dite (ℕ_discrete (j - k) 0)
    (λ e. let less = rising j k a c (omega (arith, e, ne)) at_a at_c in absurd (omega (arith, less, same)))
    (λ some. let less = rising k j c a (omega (arith, some)) at_c at_a in absurd (omega (arith, less, same))))

both_true : (a b : Bool) → (a && b) ≡ true → a ≡ true
both_true true b is = refl
both_true false b is = is

-- ---- which CPUs are online

switch_shown : (os : List Bool) (vs : List (CpuView Tables)) (n : ℕ) → length os ≡ length vs
    → slice_set (shown_list os vs) n (go_online (get_or (shown_list os vs) n absent)) ≡ shown_list (slice_set os n true) vs
switch_shown [] [] n long = refl
switch_shown [] (v ∷ vs) n long = absurd (omega (arith, long))
switch_shown (o ∷ os) [] n long = absurd (omega (arith, long))
switch_shown (o ∷ os) (v ∷ vs) zero long = refl
switch_shown (o ∷ os) (v ∷ vs) (suc n) long = ap (λ cs. shown_cpu o v ∷ cs) (switch_shown os vs n (omega (arith, long)))

local_online : (n : ℕ) (c : Cpu) → Local n c (nothing_here (go_online c))
local_online n c = local_nothing n c (go_online c) (same_low_lock c (go_online c) refl refl)
    (λ h. agrees_with c (go_online c) refl refl refl (λ id. refl) h)

-- ---- the records

returned_one : (n : ℕ) (v : CpusView Tables) (r : Record) → shown_record (after_return n v r) ≡ shown_record r
returned_one n v r = by (is_staying v r)
  where
    by : (b : Bool) → shown_record (cond b (with_ended n no_counts r) r) ≡ shown_record r
    by true = refl
    by false = refl

returned_all : (n : ℕ) (v : CpusView Tables) (rs : List Record)
    → map shown_record (map (after_return n v) rs) ≡ map shown_record rs
returned_all n v [] = refl
returned_all n v (r ∷ rs) = (λ z. returned_one n v r z ∷ returned_all n v rs z)

of_map : (f : Record → Record) (o : Option Record) (a : Record) → option_map f o ≡ Some a → (c : Record) × (o ≡ Some c)
    × (f c ≡ a)
of_map f None a is = absurd (none_some is)
of_map f (Some c) a is = (c, refl, same_some is)

-- ---- the reasons for a refusal

three_none : (a b c x : Option Refusal) → or_else a (or_else b (or_else c None)) ≡ None → or_else a (or_else b (or_else c x)) ≡ x
three_none None None None x none = refl
three_none None None (Some e) x none = absurd (let isnt : Some e ≡ None = none in cc)
three_none None (Some e) c x none = absurd (let isnt : Some e ≡ None = none in cc)
three_none (Some e) b c x none = absurd (let isnt : Some e ≡ None = none in cc)

three_some : (e : Refusal) (a b c x : Option Refusal) → or_else a (or_else b (or_else c None)) ≡ Some e
    → or_else a (or_else b (or_else c x)) ≡ Some e
three_some e (Some a) b c x is = is
three_some e None (Some b) c x is = is
three_some e None None (Some c) x is = is
three_some e None None None x is = absurd (let isnt : None ≡ Some e = is in cc)

room_none : (full grow behind : Bool) (r : Option ℕ)
    → or_else (when full Full) (or_else (only_if grow (busy r)) (or_else (only_if grow (when behind Expanding)) None)) ≡ None
    → or_else (only_if grow (when behind Expanding)) None ≡ None
room_none true grow behind r is = absurd (let isnt : Some Full ≡ None = is in cc)
room_none false false behind r is = refl
room_none false true behind (Some id) is = absurd (let isnt : Some (Busy id) ≡ None = is in cc)
room_none false true behind None is = is

room_behind : (full grow behind : Bool) (r : Option ℕ)
    → or_else (when full Full) (or_else (only_if grow (busy r)) (or_else (only_if grow (when behind Expanding)) None))
    ≡ Some Expanding
    → or_else (only_if grow (when behind Expanding)) None ≡ Some Expanding
room_behind true grow behind r is = absurd (let isnt : Some Full ≡ Some Expanding = is in cc)
room_behind false false behind r is = is
room_behind false true behind (Some id) is = absurd (let isnt : Some (Busy id) ≡ Some Expanding = is in cc)
room_behind false true behind None is = is

-- ---- the word online

module _ (n : ℕ) (s : State) (v w : SystemView Tables) (sys : IsSystem v) (h : ShowsSystem s v) where
  abbrev stay : List Record
  stay = staying_in v

  same_staying : staying_omni s ≡ map shown_record stay
  same_staying = ap (first_stay (λ id. is_being_removed id s)) h.placed
      ∙ stay_shown (λ id. is_being_removed id s) (λ id. leaving_in id v) (λ id. leaving_shown id s v h sys.agrees.long) v.records

  many : length (staying_omni s) ≡ length stay
  many = ap length same_staying ∙ length-map stay shown_record

  same_on : is_online_already n s ≡ online_there n v
  same_on = ap (λ b. when b Online) (ap (λ cs. (get_or cs n absent).online) h.cpus
      ∙ online_at v.cpus.online v.cpus.cpus n sys.agrees.long)

  abbrev last_why : Option Refusal
  last_why = or_else (no_room_for_all plain n (length stay) (cpu_at v.cpus n)) None

  whys : online_refusal plain n s ≡ or_else (why.no_cpu n v) (or_else (online_there n v) (or_else (bad_now s.clock) last_why))
  whys = λ z. or_else (same_no_cpu s v h sys.agrees.long n z) (or_else (same_on z)
      (or_else (bad_now s.clock) (or_else (no_room_for_all plain n (many z) (get_or (h.cpus z) n absent)) None)))

  abbrev returning : (ℕ → ℕ) → ℕ → List Placed → Outcome
  returning indexes k ps = followed_by (on_number n (widen_here n k) s)
      (λ t. followed_by (each (return_of indexes n) ps t) (on_number n (λ c. nothing_here (go_online c))))

  -- what the ended stays left, where the components took theirs
  ended_at : (i : ℕ) (q : Record) (m : ℕ) (given_there : List ℕ) (s1 : State) (o : Outcome) (cw : CpusView Tables)
      → ((a j : ℕ) → s1.ended a j ≡ s.ended a j)
      → Returned n stay given_there s1 o cw → n < length v.cpus.cpus → IsRecord (map (after_return n v.cpus) v.records) i q
      → o.state.ended q.id m ≡ shown_counts (ended_on m q)
  ended_at i q m given_there s1 o cw same d low at =
      let (c, there, is) = of_map (after_return n v.cpus) (slice_get v.records i) q
      (sym (slice_get-map (after_return n v.cpus) v.records i) ∙ at) in
      subst (λ (a : Record). o.state.ended a.id m ≡ shown_counts (ended_on m a)) is (by c there (is_staying v.cpus c) refl)
    where
      by : (c : Record) → IsRecord v.records i c → (b : Bool) → is_staying v.cpus c ≡ b
          → o.state.ended (cond b (with_ended n no_counts c) c).id m
          ≡ shown_counts (ended_on m (cond b (with_ended n no_counts c) c))
      by c there true is = dite (ℕ_discrete m n)
          (λ e. let (j, at_j) = filter_there (is_staying v.cpus) v.records i c there is in
          ap (o.state.ended c.id) e ∙ d.taken j c at_j
          ∙ ap shown_counts (sym (get_or-set_same c.ended n no_counts no_counts
          (let l = (sys.full i c there).0 in let few = sys.agrees.few in omega (arith, l, few, low))))
          ∙ ap (λ k. shown_counts (ended_on k (with_ended n no_counts c))) (sym e))
          (λ ne. d.left c.id m (λ e j a at_a. absurd (ne e)) ∙ same c.id m ∙ h.ended i c there m
          ∙ ap shown_counts (sym (get_or-set_other c.ended n m no_counts no_counts ne)))
      by c there false is = d.left c.id m (λ e j a at_a named.
          let (k, at_k, passes) = filter_back (is_staying v.cpus) v.records j a at_a in
          let one = same_record v.records k i a c sys.rising at_k there named in
          absurd (let isnt : true ≡ false = sym passes ∙ ap (is_staying v.cpus) one ∙ is in cc))
          ∙ same c.id m ∙ h.ended i c there m

  pub online_accepted : Changes raise_tables v (GoOnline n s.clock (Ok tt)) w → IsDone (steps.Online n) s w
  online_accepted (inl (e, some, answer, same)) = absurd (let isnt : Ok tt ≡ Err e = answer in cc)
  online_accepted (inr (none, ((cw, (u1, res, (u2, wide, rest)), cpus), records, last))) =
      let k = length stay in
      let r = done_at n (Reserve k (Ok tt)) v.cpus u1 sys.agrees.long sys.tied res in
      let b = done_at n (Widen k) u1 u2 r.long r.tied wide in
      let f = all_return n s.clock stay u2 cw b.long b.tied (filter_rises (is_staying v.cpus) v.records sys.rising)
      (λ j a at_a. let (i, there, passes) = filter_back (is_staying v.cpus) v.records j a at_a in
      both_true (everywhere_in a.placement) _ passes) rest in
      let hw = half_works (on_cpu n (Reserve k (Ok tt)) ∷ on_cpu n (Widen k) ∷ returns n s.clock stay) v cw (half v sys)
      (u1, res, (u2, wide, rest)) in
      let low_v : n < length v.cpus.cpus = (let x = r.within in let y = long_shown v.cpus.online v.cpus.cpus sys.agrees.long in
      omega (arith, x, y)) in
      let before = unchanged v.cpus u1 n r.cpus in
      let to_u1 : s.cpus ≡ shown_cpus u1 = h.cpus ∙ sym before in
      let s1 = (on_number n (widen_here n k) s).state in
      let cpus1 : s1.cpus ≡ shown_cpus u2 = (λ z. slice_set (to_u1 z) n (widen_here n k (get_or (to_u1 z) n absent)).cpu)
      ∙ sym b.cpus in
      let low : n < length s.cpus = subst (λ cs. n < length cs) (sym h.cpus) r.within in
      let one : Goes s (on_number n (widen_here n k) s) = goes_on n (widen_here n k) s (local_widen n k) low
      (λ soft. none_admitted (widen_here n k (cpu_of n s)).acts n soft _ (widen_none n k (cpu_of n s)))
      (λ q. ap (λ cs. calls_of q (widen_here n k (get_or cs n absent)).acts) to_u1 ∙ b.quiet q) in
      let all : (indexes : ℕ → ℕ) → return_all indexes n (staying_omni s) s ≡ returning indexes k (map shown_record stay) =
      λ indexes. (λ z. returning indexes (many z) (same_staying z)) in
      let done : (indexes : ℕ → ℕ) → GivesIndexes indexes s.admissions f.0
      → Returned n stay f.0 s1 (each (return_of indexes n) (map shown_record stay) s1) cw =
      λ indexes at. f.1 s1 indexes cpus1 refl
      (λ j a at_a. let (i, there, passes) = filter_back (is_staying v.cpus) v.records j a at_a in h.ended i a there n) at in
      let goes : (indexes : ℕ → ℕ) → GivesIndexes indexes s.admissions f.0
      → Goes s (returning indexes k (map shown_record stay)) =
      λ indexes at.
      let d = done indexes at in
      let o = each (return_of indexes n) (map shown_record stay) s1 in
      goes_then s (on_number n (widen_here n k) s) (λ t. followed_by (each (return_of indexes n) (map shown_record stay) t)
      (on_number n (λ c. nothing_here (go_online c)))) one
      (goes_then s1 o (on_number n (λ c. nothing_here (go_online c))) d.goes
      (goes_on n (λ c. nothing_here (go_online c)) o.state (local_online n)
      (let x = one.tells.as_many in let y = d.goes.tells.as_many in omega (arith, low, x, y)) (λ soft. tt) (λ q. refl))) in
      record {
        accepted = whys ∙ three_none (why.no_cpu n v) (online_there n v) (bad_now s.clock) last_why none
            ∙ room_none (nat_lt most_cyclics (length (cpu_at v.cpus n).cyclics + k)) (must_grow k (cpu_at v.cpus n))
            (not (soft_has_followed (cpu_at v.cpus n)))
            (cpu_at v.cpus n).removal (r.answered tt);
        given = f.0;
        comes = λ texts indexes step at.
            let d = done indexes at in
            subst (λ p. ComesTo f.0 s (told (accepted_line step) p) w) (sym (all indexes)) (record {
              shows = record {
                cpus = ap (λ cs. slice_set cs n (go_online (get_or cs n absent))) d.cpus
                    ∙ switch_shown cw.online cw.cpus n hw.long ∙ ap shown_cpus (sym cpus);
                placed = d.placed ∙ h.placed ∙ sym (ap (map shown_record) records ∙ returned_all n v.cpus v.records);
                ended = λ i q at_q m. ended_at i q m f.0 s1 (each (return_of indexes n) (map shown_record stay) s1) cw
                    (λ a j. refl) d low_v (subst (λ rs. IsRecord rs i q) records at_q);
                fresh = λ i m less. d.left i m (λ here j a at_a same.
                    let (p, there, passes) = filter_back (is_staying v.cpus) v.records j a at_a in
                    let most = sys.agrees.given p a there in let x = d.last in let y = h.last in
                    omega (arith, most, less, x, y, same))
                    ∙ h.fresh i m (let x = d.last in omega (arith, less, x));
                last = d.last ∙ h.last ∙ sym last;
              };
              admissions = d.admissions;
              free = (goes indexes at).free;
            });
        quiet = λ texts indexes step at q. subst (λ (p : Outcome). calls_of q p.acts ≡ 0) (sym (all indexes))
            ((goes indexes at).quiet q);
      }

  pub online_refused : (e : Refusal) → Changes raise_tables v (GoOnline n s.clock (Err e)) w → IsRefusedFor e (steps.Online n) s w
  online_refused e (inl (own, some, answer, same)) =
      let said = some ∙ ap Some (sym (same_error (Unit {0}) e own (Err e) (Err own) refl refl answer)) in (
        some_refused e (or_else (why.no_cpu n v) (or_else (online_there n v) (or_else (bad_now s.clock) None)))
            (online_refusal plain n s) said
            (no_memory_else (why.no_cpu n v) (or_else (online_there n v) (or_else (bad_now s.clock) None))
            (no_memory_when _ NoCpu tt)
            (no_memory_else (online_there n v) (or_else (bad_now s.clock) None) (no_memory_when _ Online tt)
            (no_memory_else (bad_now s.clock) None (no_memory_when _ BadNow tt) tt)))
            (whys ∙ three_some e (why.no_cpu n v) (online_there n v) (bad_now s.clock) last_why said),
        subst (ShowsSystem s) (sym same) h,
      )
  online_refused e (inr (none, (why_is, ((u, did, last_same), records, last)))) =
      let k = length stay in
      let d = done_at n (Reserve k (Err e)) v.cpus u sys.agrees.long sys.tied did in
      let only = whys ∙ three_none (why.no_cpu n v) (online_there n v) (bad_now s.clock) last_why none in (
        by why_is (d.answered tt) only,
        same_shown s v w h (ap shown_cpus (sym last_same) ∙ unchanged v.cpus u n d.cpus) records last,
      )
    where
      by : (e ≡ Expanding) ⊎ (e ≡ Memory) → IsRefused e (why_no_room (length stay) (cpu_at v.cpus n))
          → online_refusal plain n s ≡ last_why
          → IsRefused e (online_refusal plain n s)
      by (inl is) refused only = subst (λ x. IsRefused x (online_refusal plain n s)) (sym is)
          (only ∙ room_behind (nat_lt most_cyclics (length (cpu_at v.cpus n).cyclics + length stay))
          (must_grow (length stay) (cpu_at v.cpus n)) (not (soft_has_followed (cpu_at v.cpus n)))
          (cpu_at v.cpus n).removal (subst (λ x. IsRefused x (why_no_room (length stay) (cpu_at v.cpus n))) is refused))
      by (inr is) refused only = subst (λ x. IsRefused x (online_refusal plain n s)) (sym is)
          (only ∙ room_none (nat_lt most_cyclics (length (cpu_at v.cpus n).cyclics + length stay))
          (must_grow (length stay) (cpu_at v.cpus n)) (not (soft_has_followed (cpu_at v.cpus n)))
          (cpu_at v.cpus n).removal (subst (λ x. IsRefused x (why_no_room (length stay) (cpu_at v.cpus n))) is refused))
