-- A machine whose CPUs are whole, each cyclic at its placement, and whose books are balanced.
use Rattle.std.proofs.Common.{◌≡◌, ◌≢◌, ℕ, ◌+◌, ◌<◌, ◌≤◌, List, [], ◌++◌, length, sum_by, Option, Some, None, refl, ap, sym, ◌∙◌}
use Rattle.std.proofs.Common.{subst, arith}
use Rattle.std.specs.Prelude.{⊤, IsSome, is_some, slice_index_or}
use Rattle.std.proofs.lemmas.List.{get_or-set_same, get_or-set_other}
use mathlib.Core.Logic.{dite}
use native.Mathlib.Decide.{ℕ_discrete}
use Rattle.cyc_types.specs.Limits.{last_id as greatest_id}
use Rattle.cyc_types.specs.declared.level.Soft.{Soft}
use Rattle.cyc_model.specs.Acts.{Act, events_at, calls_of, losses_of}
use Rattle.cyc_model.specs.Cpu.{CyclicState, Cpu, Here}
use Rattle.cyc_model.specs.Questions.{outstanding_here}
use Rattle.cyc_model.specs.State.{State, Outcome, Placement, On, OnAll, on_number, absent, cpu_of}
use Rattle.cyc_model.specs.Places.{placement_of}
use Rattle.cyc_model.specs.Remove.{ended_expired, ended_lost}
use Rattle.cyc_model.specs.Report.{expired_here, lost_here}
use Rattle.cyc_model.specs.Laws.{level_on, ActsTell, RiseTo}
use Rattle.cyc_model.specs.Serving.{level_at, level_after}
use Rattle.cyc_model.proofs.Events.{events_append, calls_append}
use Rattle.cyc_model.proofs.Local.{Local, other_events}
use Rattle.cyc_model.proofs.Telling.{told_alike, told_append, told_on}
use Rattle.cyc_model.proofs.Rising.{found, tally_found, of_found}
use Rattle.cyc_model.proofs.Fit.{AllRest}
use Rattle.cyc_model.proofs.Whole.{Whole, Done, rest_append, quiet_here}
use Rattle.cyc_model.proofs.Totals.{sum_set, all_set, Balanced, carried, expired_of, lost_of, expired_in, lost_in, pending_in}
use Rattle.cyc_model.proofs.Shifts.{Shift}

-- whether a cyclic with this placement can be on the CPU
abbrev pub IsAt : ℕ → Option Placement → Type 0
IsAt n None = ⊥
IsAt n (Some (On m bound)) = m ≡ n
IsAt n (Some (OnAll e)) = ⊤

-- the machine, with a cyclic on its way perhaps
pub record Base (way : Option CyclicState) (s : State) : Type 0 where
  pub whole : (n : ℕ) → Whole (cpu_of n s)
  pub homes : (n id : ℕ) → IsSome (found id (cpu_of n s).cyclics) → IsAt n (placement_of id s)
  pub rise : RiseTo 0 s.placed s.last_id
  pub few : s.last_id ≤ greatest_id
  pub books : (id : ℕ) → Balanced id way s

-- the removal of the id has answered
abbrev pub IsGone : ℕ → State → Type 0
IsGone id s = (id ≤ s.last_id) × (placement_of id s ≡ None)

-- what the acts of a word do
pub record Goes (acts : List Act) (s t : State) : Type 0 where
  pub tells : ActsTell acts s t
  pub rest : (n : ℕ) → n < length s.cpus → (soft : Soft) → AllRest (events_at n soft acts) (level_on n soft s)
  pub outside : (n : ℕ) → length s.cpus ≤ n → (soft : Soft) → events_at n soft acts ≡ []
  -- an id whose removal has answered isn't called, and stays gone
  pub quiet : (id : ℕ) → IsGone id s → calls_of id acts ≡ 0
  pub gone : (id : ℕ) → IsGone id s → IsGone id t

pub goes_append : (xs ys : List Act) (s t u : State) → Goes xs s t → Goes ys t u → Goes (xs ++ ys) s u
goes_append xs ys s t u one two = record {
  tells = told_append xs ys s t u one.tells two.tells;
  rest = λ n within soft. subst (λ es. AllRest es (level_on n soft s)) (sym (events_append n soft xs ys))
      (rest_append (events_at n soft xs) (events_at n soft ys) (level_on n soft s) (one.rest n within soft)
      (subst (λ l. AllRest (events_at n soft ys) l) (one.tells.levels n within soft)
      (two.rest n (subst (λ k. n < k) (sym one.tells.as_many) within) soft)));
  outside = λ n past soft. events_append n soft xs ys
      ∙ ap (λ es. es ++ events_at n soft ys) (one.outside n past soft)
      ∙ two.outside n (subst (λ k. k ≤ n) (sym one.tells.as_many) past) soft;
  quiet = λ id h. let a = calls_append id xs ys in let b = one.quiet id h in let c = two.quiet id (one.gone id h)
      in omega (arith, a, b, c);
  gone = λ id h. two.gone id (one.gone id h);
}

-- nothing happens, and what is gone stays gone
pub goes_nothing : (s t : State) → t.cpus ≡ s.cpus → t.called ≡ s.called → ((id : ℕ) → IsGone id s → IsGone id t) → Goes [] s t
goes_nothing s t cpus called gone = record {
  tells = told_alike s t (cpus, called);
  rest = λ n within soft. tt;
  outside = λ n past soft. refl;
  quiet = λ id h. refl;
  gone = gone;
}

-- the acts go on from and to machines that have the same CPUs, calls, placements and ids
pub goes_to : (acts : List Act) (s t u : State) → Goes acts s t → u.cpus ≡ t.cpus → u.called ≡ t.called
    → ((id : ℕ) → IsGone id t → IsGone id u) → Goes acts s u
goes_to acts s t u h cpus called gone = record {
  tells = record {
    as_many = ap length cpus ∙ h.tells.as_many;
    levels = λ n within soft. ap (λ (cs : List Cpu). level_at soft (slice_index_or cs n absent)) cpus
        ∙ h.tells.levels n within soft;
    called = λ id. ap (λ (f : ℕ → ℕ). f id) called ∙ h.tells.called id;
  };
  rest = h.rest;
  outside = h.outside;
  quiet = h.quiet;
  gone = λ id g. gone id (h.gone id g);
}

pub goes_from : (acts : List Act) (s r t : State) → Goes acts r t → r.cpus ≡ s.cpus → r.called ≡ s.called
    → ((id : ℕ) → IsGone id s → IsGone id r) → Goes acts s t
goes_from acts s r t h cpus called gone = record {
  tells = record {
    as_many = h.tells.as_many ∙ ap length cpus;
    levels = λ n within soft. h.tells.levels n (subst (λ k. n < k) (sym (ap length cpus)) within) soft
        ∙ ap (λ (cs : List Cpu). level_after (events_at n soft acts) (level_at soft (slice_index_or cs n absent))) cpus;
    called = λ id. h.tells.called id ∙ ap (λ (f : ℕ → ℕ). f id + calls_of id acts) called;
  };
  rest = λ n within soft. subst (λ (cs : List Cpu). AllRest (events_at n soft acts)
      (level_at soft (slice_index_or cs n absent))) cpus
      (h.rest n (subst (λ k. n < k) (sym (ap length cpus)) within) soft);
  outside = λ n past soft. h.outside n (subst (λ k. k ≤ n) (sym (ap length cpus)) past) soft;
  quiet = λ id g. h.quiet id (gone id g);
  gone = λ id g. h.gone id (gone id g);
}

-- an id that is gone is on no CPU
pub gone_away : (way : Option CyclicState) (s : State) → Base way s → (id : ℕ) → placement_of id s ≡ None → (n : ℕ)
    → found id (cpu_of n s).cyclics ≡ None
gone_away way s b id none n = by (found id (cpu_of n s).cyclics) refl
  where
    by : (o : Option CyclicState) → found id (cpu_of n s).cyclics ≡ o → found id (cpu_of n s).cyclics ≡ None
    by None is = is
    by (Some x) is = absurd (subst (IsAt n) none (b.homes n id (ap is_some is)))

-- ---- what is done on one CPU

module _ (n : ℕ) (f : Cpu → Here) (made : ℕ → ℕ) (s : State) (within : n < length s.cpus)
    (done : Done n made (cpu_of n s) (f (cpu_of n s))) where
  pub cpu_there : cpu_of n (on_number n f s).state ≡ (f (cpu_of n s)).cpu
  cpu_there = get_or-set_same s.cpus n (f (cpu_of n s)).cpu absent within

  pub cpu_elsewhere : (m : ℕ) → m ≢ n → cpu_of m (on_number n f s).state ≡ cpu_of m s
  cpu_elsewhere m ne = get_or-set_other s.cpus n m (f (cpu_of n s)).cpu absent ne

  pub goes_on : (way : Option CyclicState) → Base way s → ((c : Cpu) → Local n c (f c))
      → ((id : ℕ) → found id (cpu_of n s).cyclics ≡ None → made id ≡ 0) → Goes (on_number n f s).acts s (on_number n f s).state
  goes_on way b local none = record {
    tells = told_on n f local s;
    rest = λ m at soft. dite (ℕ_discrete m n)
        (λ e. subst (λ k. AllRest (events_at k soft (f (cpu_of n s)).acts) (level_on k soft s)) (sym e) (done.rest soft))
        (λ ne. subst (λ es. AllRest es (level_on m soft s)) (sym (other_events (f (cpu_of n s)).acts n m soft done.local.on ne))
        tt);
    outside = λ m past soft. other_events (f (cpu_of n s)).acts n m soft done.local.on (λ (e : m
        ≡ n). omega (arith, within, past, e));
    quiet = λ id g. let away = gone_away way s b id g.1 n in quiet_here n made (cpu_of n s) (f (cpu_of n s)) (b.whole n) done id
        (none id away) away;
    gone = λ id g. g;
  }

  -- the counts of the machine after it
  pub expired_on : (way to : Option CyclicState) → Base way s → Shift way to made (cpu_of n s) (f (cpu_of n s)) → (id : ℕ)
      → expired_in id (on_number n f s).state + carried expired_of id to ≡ expired_in id s + carried expired_of id way + made id
  expired_on way to b shift id =
      let d = f (cpu_of n s) in
      let e = sum_set (expired_here id) s.cpus n d.cpu within in
      let e1 = tally_found expired_of 0 id (cpu_of n s).cyclics (b.whole n).rising in
      let e2 = tally_found expired_of 0 id d.cpu.cyclics done.whole.rising in
      let x = shift.expired id in
      let u = ap (λ ns. sum_by (λ m. (s.ended id m).expired) ns) (all_set 0 s.cpus n d.cpu) in
      totals (ended_expired id s) (ended_expired id (on_number n f s).state) (sum_by (expired_here id) s.cpus)
      (sum_by (expired_here id) (on_number n f s).state.cpus) (expired_here id (cpu_of n s)) (expired_here id d.cpu)
      (of_found expired_of (found id (cpu_of n s).cyclics)) (of_found expired_of (found id d.cpu.cyclics))
      (carried expired_of id way) (carried expired_of id to) (made id) u e e1 e2 x
    where
      totals : (ee ee2 se se2 ce de fe ge we te m : ℕ) → ee2 ≡ ee → se2 + ce ≡ se + de → ce ≡ fe → de ≡ ge → ge + te ≡ fe + we + m
          → ee2 + se2 + te ≡ ee + se + we + m
      totals ee ee2 se se2 ce de fe ge we te m a b c e h = omega (arith, a, b, c, e, h)

  pub lost_on : (way to : Option CyclicState) → Base way s → Shift way to made (cpu_of n s) (f (cpu_of n s)) → (id : ℕ)
      → lost_in id (on_number n f s).state + carried lost_of id to ≡ lost_in id s + carried lost_of id way
      + losses_of id (f (cpu_of n s)).acts
  lost_on way to b shift id =
      let d = f (cpu_of n s) in
      let e = sum_set (lost_here id) s.cpus n d.cpu within in
      let e1 = tally_found lost_of 0 id (cpu_of n s).cyclics (b.whole n).rising in
      let e2 = tally_found lost_of 0 id d.cpu.cyclics done.whole.rising in
      let x = shift.lost id in
      let u = ap (λ ns. sum_by (λ m. (s.ended id m).lost) ns) (all_set 0 s.cpus n d.cpu) in
      totals (ended_lost id s) (ended_lost id (on_number n f s).state) (sum_by (lost_here id) s.cpus)
      (sum_by (lost_here id) (on_number n f s).state.cpus) (lost_here id (cpu_of n s)) (lost_here id d.cpu)
      (of_found lost_of (found id (cpu_of n s).cyclics)) (of_found lost_of (found id d.cpu.cyclics))
      (carried lost_of id way) (carried lost_of id to) (losses_of id d.acts) u e e1 e2 x
    where
      totals : (ee ee2 se se2 ce de fe ge we te m : ℕ) → ee2 ≡ ee → se2 + ce ≡ se + de → ce ≡ fe → de ≡ ge → ge + te ≡ fe + we + m
          → ee2 + se2 + te ≡ ee + se + we + m
      totals ee ee2 se se2 ce de fe ge we te m a b c e h = omega (arith, a, b, c, e, h)

  pub pending_on : (id : ℕ) → pending_in id (on_number n f s).state + calls_of id (f (cpu_of n s)).acts
      + losses_of id (f (cpu_of n s)).acts
      ≡ pending_in id s + made id
  pending_on id =
      let d = f (cpu_of n s) in
      let e = sum_set (outstanding_here id) s.cpus n d.cpu within in
      let x = done.books id in
      totals (sum_by (outstanding_here id) s.cpus) (sum_by (outstanding_here id) (on_number n f s).state.cpus)
      (outstanding_here id (cpu_of n s)) (outstanding_here id d.cpu) (calls_of id d.acts) (losses_of id d.acts) (made id) e x
    where
      totals : (sp sp2 cp dp calls losses m : ℕ) → sp2 + cp ≡ sp + dp → dp + calls + losses ≡ cp + m
          → sp2 + calls + losses ≡ sp + m
      totals sp sp2 cp dp calls losses m a b = omega (arith, a, b)

  pub base_on : (way to : Option CyclicState) → Base way s → Shift way to made (cpu_of n s) (f (cpu_of n s))
      → ((id : ℕ) → IsSome (found id (f (cpu_of n s)).cpu.cyclics) → IsAt n (placement_of id s)) → Base to (on_number n f s).state
  base_on way to b shift ids = record {
    whole = λ m. dite (ℕ_discrete m n)
        (λ e. subst (λ k. Whole (cpu_of k (on_number n f s).state)) (sym e) (subst (λ c. Whole c) (sym cpu_there) done.whole))
        (λ ne. subst (λ c. Whole c) (sym (cpu_elsewhere m ne)) (b.whole m));
    homes = λ m id some. dite (ℕ_discrete m n)
        (λ e. subst (λ k. IsAt k (placement_of id s)) (sym e) (ids id (subst (λ c. IsSome (found id c.cyclics)) cpu_there
        (subst (λ k. IsSome (found id (cpu_of k (on_number n f s).state).cyclics)) e some))))
        (λ ne. b.homes m id (subst (λ c. IsSome (found id c.cyclics)) (cpu_elsewhere m ne) some));
    rise = b.rise;
    few = b.few;
    books = λ id. let e = expired_on way to b shift id in let l = lost_on way to b shift id in let p = pending_on id in
        let was = b.books id in
        balance (expired_in id s) (lost_in id s) (pending_in id s) (expired_in id (on_number n f s).state) (lost_in id
        (on_number n f s).state)
        (pending_in id (on_number n f s).state) (carried expired_of id way) (carried lost_of id way) (carried expired_of id to)
        (carried lost_of id to) (s.called id) (calls_of id (f (cpu_of n s)).acts) (losses_of id (f (cpu_of n s)).acts) (made id)
        e l p was;
  }
    where
      balance : (e l p e2 l2 p2 we wl te tl called calls losses m : ℕ) → e2 + te ≡ e + we + m → l2 + tl ≡ l + wl + losses
          → p2 + calls + losses ≡ p + m → e + we ≡ called + (l + wl) + p → e2 + te ≡ called + calls + (l2 + tl) + p2
      balance e l p e2 l2 p2 we wl te tl called calls losses m a b c d = omega (arith, a, b, c, d)

-- ---- outcomes

-- the outcome goes on well from the machine
abbrev pub Sure : Outcome → State → Type 0
Sure o s = Goes o.acts s o.state × Base None o.state
