-- A fire of one CPU in an advance.
use Rattle.std.proofs.Common.{◌≡◌, ℕ, zero, suc, ◌+◌, ◌*◌, ◌<◌, ◌≤◌, inl, inr, Bool, true, false, cond, List, [], ◌∷◌, length}
use Rattle.std.proofs.Common.{map, take, Some, None, refl, ap, sym, ◌∙◌, subst, arith}
use Rattle.std.specs.Prelude.{Result, Ok, Err, not, nat_le, slice_index_or}
use Rattle.std.specs.List.{slice_get}
use Rattle.std.proofs.lemmas.List.{get_or-set_other}
use Rattle.std.proofs.Math.ListN.{length-set}
use Rattle.std.proofs.lemmas.Bool.Decides.{nat_tests}
use Rattle.cyc_types.specs.Series.{late}
use Rattle.cyc_types.specs.Tally.{TallyView, tally_count, TallyRefuses}
use Rattle.cyc_types.specs.contracts.tally.TallyCalls.TheImpl.{ghosts as tally_calls}
use Rattle.cyc_types.specs.declared.refusal.Refusal.{Refusal}
use Rattle.cyc_types.specs.declared.refusal.Refusal.TheVariants.{NoCpu, Offline}
use Rattle.cyc_types.specs.declared.level.Level.TheVariants.{High}
use Rattle.cyc_core.specs.Tables.{Tables}
use Rattle.cyc_types.specs.Expirations.{times_of, expirations}
use Rattle.cyc_types.specs.Timers.{Timer}
use Rattle.cyc_timers.specs.Rows.{timers, Cyclic as Timed}
use Rattle.cyc_timers.specs.Acts.{ids_at}
use Rattle.cyc_timers.specs.declared.fire.Fired.{Fired}
use Rattle.cyc_timers.specs.declared.fire.FireRefused.{FireRefused}
use Rattle.cyc_timers.specs.Made.{Stops}
use Rattle.cyc_cpu.specs.Cpu.{CpuView, running}
use Rattle.cyc_cpu.specs.Calls.{Fire, WhyNoFire, no_interrupts, CpuDoes as DoesHere}
use Rattle.cyc_cpu.proofs.Calling.{refused_not}
use Rattle.cyc_cpu.specs.Soft.{raise_tables}
use Rattle.cyc_system.specs.Cpus.{IsCpu}
use Rattle.cyc_system.specs.System.{SystemView, RunningSystem, running_system, is_online}
use Rattle.cyc_system.proofs.Spots.{same_some, none_some}
use Rattle.cyc_system.specs.Calls.{Does, FireOne, no_fire}
use Rattle.cyc_agreement.specs.Suspending.{is_suspended}
use Rattle.cyc_model.specs.Acts.{calls_of}
use Rattle.cyc_model.specs.Cpu.{CyclicState, Cpu}
use Rattle.cyc_model.specs.Firing.{fire_here}
use Rattle.cyc_types.specs.Reasons.{when, or_else}
use Rattle.cyc_model.specs.State.{State, absent, cpu_of, on_number, each, cpus_from}
use Rattle.cyc_model.proofs.Events.{calls_append}
use Rattle.cyc_model.proofs.Totals.{expired_in}
use Rattle.cyc_model.proofs.Numbers.{Has, numbers_few}
use Rattle.cyc_model.proofs.Calm.{good_clock}
use Rattle.cyc_system_model.specs.ShownCpu.{shown_cyclic}
use Rattle.cyc_system_model.specs.SystemAdvancing.{at_clock, online_below, fired_and_lost, HasFired}
use Rattle.cyc_system_model.specs.Shown.{shown_list, IsSystem}
use Rattle.cyc_replay.specs.declared.machine.Machine.{Machine}
use Rattle.cyc_replay.specs.Machine.{IsWide, AllMost, numbers_of}
use Rattle.cyc_replay.specs.Advancing.{IsAdvancing}
use Rattle.cyc_replay.proofs.Mosts.{most_changed}
use Rattle.cyc_system_model.proofs.SystemSuspending.{mark_at}
use Rattle.cyc_replay.proofs.Named.{reached_good}
use Rattle.cyc_replay.proofs.Unrefused.{IsFew, EachTimer, same_range, still_wide, never_stopped}
use Rattle.cyc_model.proofs.Growing.{few_times, grows_fires}
use Rattle.cyc_replay.proofs.Remembering.{SameNames, remembers_on}
use Rattle.cyc_system_model.specs.Room.{HaveRoomFor}
use Rattle.cyc_replay.proofs.Grown.{few_timers, few_reached, many_reached}

-- ---- what a fire keeps

module _ (n now : ℕ) (s t : RunningSystem TallyView Tables) where
  pub most_fired : (fired : Fired) → Does tally_calls raise_tables no_interrupts s (FireOne n now (Ok fired)) t
      → AllMost s.system.cpus → AllMost t.system.cpus
  most_fired fired (inl (e, some, answer, same)) all = absurd (let isnt : Ok fired ≡ Err (no_fire e) = answer in cc)
  most_fired fired (inr (none, (did, records, last))) all =
      most_changed n _ s.system.cpus t.system.cpus (λ x y d. d.1.most) did all

  pub wide_fired : (names : ℕ) (fired : Fired) → Does tally_calls raise_tables no_interrupts s (FireOne n now (Ok fired)) t
      → IsWide names s.calls → IsWide names t.calls
  wide_fired names fired (inl (e, some, answer, same)) w = absurd (let isnt : Ok fired ≡ Err (no_fire e) = answer in cc)
  wide_fired names fired (inr (none, (did, records, last))) w =
      still_wide names s.calls t.calls (same_range (ids_at High (timers did.before.cyclics)
      (expirations now (timers did.before.cyclics))) s.calls t.calls did.change.4.acts.called_in_order) w

-- ---- a CPU that is offline

inside : (n k : ℕ) → n < k → nat_le k n ≡ false
inside n k low = grind (arith, nat_tests)

only_offline : (b : Bool) (n k : ℕ) (e : Refusal) → n < k
    → or_else (when (nat_le k n) NoCpu) (or_else (when (not b) Offline) None) ≡ Some e → (b ≡ false) × (e ≡ Offline)
only_offline b n k e low is = by b (sym (ap (λ t. or_else (when t NoCpu) (or_else (when (not b) Offline) None)) (inside n k low))
    ∙ is)
  where
    by : (b : Bool) → or_else (when (not b) Offline) None ≡ Some e → (b ≡ false) × (e ≡ Offline)
    by true h = absurd (none_some h)
    by false h = (refl, sym (same_some h))

offline_stops : (most : ℕ) (at : TallyView) (tm : Timer) (why : Refusal) → why ≡ Offline → Stops TallyRefuses most at tm why → ⊥
offline_stops most at tm why is stops = subst (Stops TallyRefuses most at tm) is stops

module _ (n now : ℕ) (e : FireRefused) (s t : RunningSystem TallyView Tables) (low : n < length s.system.cpus.cpus) where
  pub passed : e.why ≡ Offline → Does tally_calls raise_tables no_interrupts s (FireOne n now (Err e)) t
      → (is_online n s.system.cpus ≡ false) × (t ≡ s)
  passed is (inl (r, some, answer, same)) =
      ((only_offline (is_online n s.system.cpus) n (length s.system.cpus.cpus) r low some).0, same)
  passed is (inr (none, (did, records, last))) = absurd (by did.change)
    where
      by : DoesHere tally_calls raise_tables no_interrupts (running s.calls did.before)
          (Fire now (Err e)) (running t.calls did.after) → ⊥
      by (inl (why, none, same)) = subst (λ x. WhyNoFire now did.before x) is why
      by (inr (late_enough, same, f)) = let (tm, found, stops) = f.stops in offline_stops did.before.most f.at tm e.why is stops

-- ---- the CPUs that have not fired yet

AllBelow : ℕ → List ℕ → Type 0
AllBelow k [] = Unit {0}
AllBelow k (n ∷ ns) = (n < k) × AllBelow k ns

numbers_below : (test : Cpu → Bool) (from high : ℕ) (cs : List Cpu) → from + length cs ≤ high
    → AllBelow high (cpus_from from test cs)
unfolding AllBelow
numbers_below test from high [] le = tt
numbers_below test from high (c ∷ cs) le = by (test c) (numbers_below test (from + 1) high cs (omega (arith, le)))
  where
    by : (b : Bool) → AllBelow high (cpus_from (from + 1) test cs)
        → AllBelow high (cond b (from ∷ cpus_from (from + 1) test cs) (cpus_from (from + 1) test cs))
    by true r = (omega (arith, le), r)
    by false r = r

not_fired_yet : (n now : ℕ) (ns : List ℕ) (s : State) → AllBelow n ns
    → cpu_of n (each (λ k. on_number k (fire_here k now)) ns s).state ≡ cpu_of n s
unfolding AllBelow
not_fired_yet n now [] s below = refl
not_fired_yet n now (k ∷ ns) s below =
    not_fired_yet n now ns (on_number k (fire_here k now) s).state below.1
    ∙ get_or-set_other s.cpus k n (fire_here k now (cpu_of k s)).cpu absent (λ e. let low = below.0 in omega (arith, low, e))

called_fires : (id now : ℕ) (ns : List ℕ) (s : State)
    → (each (λ k. on_number k (fire_here k now)) ns s).state.called id
    ≡ s.called id + calls_of id (each (λ k. on_number k (fire_here k now)) ns s).acts
called_fires id now [] s = omega arith
called_fires id now (k ∷ ns) s =
    let t = (on_number k (fire_here k now) s).state in
    let a = called_fires id now ns t in
    let b = calls_append id (fire_here k now (cpu_of k s)).acts (each (λ j. on_number j (fire_here j now)) ns t).acts in
    let c : t.called id ≡ s.called id + calls_of id (fire_here k now (cpu_of k s)).acts = refl in omega (arith, a, b, c)

timers_shown : (cs : List Timed) → map (λ (c : CyclicState). c.timer) (map shown_cyclic cs) ≡ timers cs
timers_shown [] = refl
timers_shown (c ∷ cs) = ap (λ ts. c.timer ∷ ts) (timers_shown cs)

few_more : (last a b : ℕ) (ts : List Timer) → a ≤ b → EachTimer (IsFew last a) ts → EachTimer (IsFew last b) ts
few_more last a b [] le few = tt
few_more last a b (t ∷ ts) le few = (
  let e = few.0.expired in
      record { given = few.0.given; id = few.0.id; expired = omega (arith, e, le) },
  few_more last a b ts le few.1,
)

has_low : (k high : ℕ) (ns : List ℕ) → AllBelow high ns → Has k ns → k < high
unfolding AllBelow
has_low k high [] below has = absurd has
has_low k high (n ∷ ns) below (inl is) = let low = below.0 in omega (arith, is, low)
has_low k high (n ∷ ns) below (inr has) = has_low k high ns below.1 has

take_short : (n : ℕ) (cs : List Cpu) → 0 + length (take n cs) ≤ length cs
take_short zero cs = omega arith
take_short (suc n) [] = omega arith
take_short (suc n) (c ∷ cs) = let r = take_short n cs in omega (arith, r)

take_low : (n : ℕ) (cs : List Cpu) → 0 + length (take n cs) ≤ n
take_low zero cs = omega arith
take_low (suc n) [] = omega arith
take_low (suc n) (c ∷ cs) = let r = take_low n cs in omega (arith, r)

shown_at : (os : List Bool) (vs : List (CpuView Tables)) (n : ℕ) (x : CpuView Tables) → length os ≡ length vs
    → slice_get vs n ≡ Some x
    → (slice_index_or (shown_list os vs) n absent).cyclics ≡ map shown_cyclic x.cyclics
shown_at os [] n x long is = absurd (none_some is)
shown_at [] (v ∷ vs) n x long is = absurd (omega (arith, long))
shown_at (o ∷ os) (v ∷ vs) zero x long is = ap (λ (y : CpuView Tables). map shown_cyclic y.cyclics) (same_some is)
shown_at (o ∷ os) (v ∷ vs) (suc n) x long is = shown_at os vs n x (omega (arith, long)) is

abbrev why_of : FireRefused → Result Fired FireRefused → Refusal
why_of d (Ok x) = d.why
why_of d (Err e) = e.why

-- ---- no fire is refused

module _ (step n expired lost : ℕ) (s : State) (first : RunningSystem TallyView Tables) (m : Machine)
    (a : IsAdvancing step n (fired_and_lost expired lost) s first m)
    (low : n < length m.system.cpus.cpus) where
  low_ones : (k : ℕ) → Has k (online_below n (at_clock m.clock s)) → k < length s.cpus
  low_ones k has = has_low k (length s.cpus) (online_below n (at_clock m.clock s))
      (numbers_below (λ (x : Cpu). x.online) 0 (length s.cpus) (take n s.cpus) (take_short n s.cpus)) has

  few_called : (id : ℕ) → tally_count m.tally id ≤ 65536 * 16000000032
  few_called id =
      let c = at_clock m.clock s in let ns = online_below n c in
      let g = good_clock m.clock s (reached_good step s a.reached) in
      let r = grows_fires m.clock ns c g a.before low_ones in
      let books = r.0.base.books id in let grown = r.1 id in
      let told = a.fired.called id in let was = a.called id in let all = called_fires id m.clock ns c in
      let before = few_reached step s a.reached a.few id in
      let many = numbers_few (λ (x : Cpu). x.online) 0 (take n c.cpus) in
      let few = many_reached step s a.reached in
      let same : expired_in id c ≡ expired_in id s = refl in
      let cut = take_short n c.cpus in
      omega (arith, books, grown, told, was, all, before, many, few, same, cut)

  -- the CPU has not fired
  same_timers : (x : CpuView Tables) → IsCpu n x m.system.cpus
      → timers x.cyclics ≡ map (λ (c : CyclicState). c.timer) (cpu_of n s).cyclics
  same_timers x here =
      let c = at_clock m.clock s in let ns = online_below n c in
      let still = not_fired_yet n m.clock ns c (numbers_below (λ (y : Cpu). y.online) 0 n (take n c.cpus) (take_low n c.cpus)) in
      sym (timers_shown x.cyclics)
      ∙ ap (map (λ (y : CyclicState). y.timer)) (sym (shown_at m.system.cpus.online m.system.cpus.cpus n x a.system.agrees.long
      here))
      ∙ ap (λ cs. map (λ (y : CyclicState). y.timer) (slice_index_or cs n absent).cyclics) (sym a.fired.comes.shows.cpus)
      ∙ ap (λ (y : Cpu). map (λ (z : CyclicState). z.timer) y.cyclics) still

  pub never_fire : (e : FireRefused) (t : RunningSystem TallyView Tables) → (e.why ≡ Offline → ⊥)
      → Does tally_calls raise_tables no_interrupts (running_system m.tally m.system)
      (FireOne n m.clock (Err e)) t → ⊥
  never_fire e t other (inl (r, some, answer, same)) =
      other (ap (why_of e) answer ∙ (only_offline (is_online n m.system.cpus) n (length m.system.cpus.cpus) r low some).1)
  never_fire e t other (inr (none, (did, records, last))) = by did.change
    where
      by : DoesHere tally_calls raise_tables no_interrupts (running m.tally did.before)
          (Fire m.clock (Err e)) (running t.calls did.after) → ⊥
      by (inl (why, none, same)) = refused_not m.clock did.before e.why (record {
        awake = mark_at m.system a.system.agrees n did.before did.here ∙ sym a.suspended ∙ a.awake;
        early = λ late. let before = a.before in omega (arith, late, before);
      }) why
      by (inr (late_enough, same, f)) =
          let ts = same_timers did.before did.here in
          never_stopped (length s.names) m.clock s.last_id (65536 * 16000000032) did.before did.after m.tally t.calls e f
          a.reached.named
          (a.most n did.before did.here) (omega arith)
          (subst (EachTimer (IsFew s.last_id (65536 * 16000000032))) (sym ts)
          (few_more s.last_id (65535 * 16000000032) (65536 * 16000000032)
          (map (λ (c : CyclicState). c.timer) (cpu_of n s).cyclics)
          (omega arith) (few_timers step n s a.reached a.few)))
          (λ id. subst (λ xs. times_of id (expirations m.clock xs) ≤ late + 2) (sym ts)
          (few_times id n m.clock s (reached_good step s a.reached)))
          a.tally few_called

-- ---- a CPU that is passed over

length_fires : (now : ℕ) (ns : List ℕ) (s : State) → length (each (λ k. on_number k (fire_here k now)) ns s).state.cpus ≡
    length s.cpus
length_fires now [] s = refl
length_fires now (k ∷ ns) s = length_fires now ns (on_number k (fire_here k now) s).state
    ∙ length-set s.cpus k (fire_here k now (cpu_of k s)).cpu

pub length_shown : (os : List Bool) (vs : List (CpuView Tables)) → length os ≡ length vs → length (shown_list os vs) ≡ length vs
length_shown [] [] long = refl
length_shown [] (v ∷ vs) long = absurd (omega (arith, long))
length_shown (o ∷ os) [] long = refl
length_shown (o ∷ os) (v ∷ vs) long = ap suc (length_shown os vs (omega (arith, long)))

pub many_here : (step n expired lost : ℕ) (s : State) (first : RunningSystem TallyView Tables) (m : Machine)
    → IsAdvancing step n (fired_and_lost expired lost) s first m
    → length s.cpus ≡ length m.system.cpus.cpus
many_here step n expired lost s first m a =
    sym (length_fires m.clock (online_below n (at_clock m.clock s)) (at_clock m.clock s))
    ∙ ap length a.fired.comes.shows.cpus ∙ length_shown m.system.cpus.online m.system.cpus.cpus a.system.agrees.long

pub low_here : (step n expired lost : ℕ) (s : State) (first : RunningSystem TallyView Tables) (m : Machine)
    → IsAdvancing step n (fired_and_lost expired lost) s first m
    → n < length m.system.cpus.cpus → n < length s.cpus
low_here step n expired lost s first m a low = let e = many_here step n expired lost s first m a in omega (arith, low, e)

pub passed_on : (step n expired lost : ℕ) (s : State) (first : RunningSystem TallyView Tables) (m t : Machine)
    → IsAdvancing step n (fired_and_lost expired lost) s first m
    → running_system t.tally t.system ≡ running_system m.tally m.system → t.clock ≡ m.clock → SameNames m t
    → HasFired tally_count (n + 1) (fired_and_lost expired lost) (at_clock m.clock s) first (running_system m.tally m.system)
    → IsAdvancing step (n + 1) (fired_and_lost (expired + 0) (lost + 0)) s first t
passed_on step n expired lost s first m t a same clock names next =
    let system = ap (λ (r : RunningSystem TallyView Tables). r.system) same in
    let tally = ap (λ (r : RunningSystem TallyView Tables). r.calls) same in
    let none : (k : ℕ) → k ≡ k + 0 = λ k. omega arith in
    let before = a.before in
    record {
      reached = a.reached;
      few = a.few;
      before = omega (arith, before, clock);
      awake = a.awake;
      suspended = a.suspended ∙ ap is_suspended (sym system);
      fired = subst (λ k. HasFired tally_count (n + 1) (fired_and_lost (expired + 0) k) (at_clock t.clock s) first
          (running_system t.tally t.system)) (none lost)
          (subst (λ k. HasFired tally_count (n + 1) (fired_and_lost k lost) (at_clock t.clock s) first
          (running_system t.tally t.system))
          (none expired)
          (subst (λ k. HasFired tally_count (n + 1) (fired_and_lost expired lost) (at_clock k s) first
          (running_system t.tally t.system))
          (sym clock)
          (subst (λ r. HasFired tally_count (n + 1) (fired_and_lost expired lost) (at_clock m.clock s) first r)
          (sym same) next)));
      called = a.called;
      system = subst (λ v. IsSystem v) (sym system) a.system;
      names = a.names ∙ sym (ap numbers_of names.names);
      remembers = remembers_on s s m t a.remembers names (omega arith) (λ id low gone. gone) (λ id low gone. gone)
          (λ id low gone. refl);
      room = subst (λ (v : SystemView Tables). HaveRoomFor (length s.names) v.cpus) (sym system) a.room;
      tally = subst (λ x. IsWide (length s.names) x) (sym tally) a.tally;
      most = subst (λ (v : SystemView Tables). AllMost v.cpus) (sym system) a.most;
    }
