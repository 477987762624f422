-- A stay ends on a CPU, and its counts are kept.
use Rattle.std.proofs.Common.{◌≡◌, ◌≢◌, ℕ, suc, ◌+◌, ◌<◌, cond, List, [], ◌∷◌, length, sum_by, Option, Some, None, refl, ap, sym}
use Rattle.std.proofs.Common.{◌∙◌, subst, arith}
use Rattle.std.specs.Prelude.{IsSome, slice_index_or}
use Rattle.std.proofs.lemmas.List.Sums.{sum_by-cons}
use Rattle.cyc_model.specs.Acts.{Act, calls_of, losses_of}
use Rattle.cyc_model.specs.Cpu.{CyclicState, Cpu, Here, is_of, cyclic_with_id}
use Rattle.cyc_model.specs.Questions.{outstanding_here}
use Rattle.cyc_model.specs.State.{State, Outcome, on_number, absent, cpu_of}
use Rattle.cyc_model.specs.Places.{keep_counts}
use Rattle.cyc_model.specs.Remove.{ended_expired, ended_lost}
use Rattle.cyc_model.specs.Report.{expired_here, lost_here}
use Rattle.cyc_model.proofs.Local.{Local}
use Rattle.cyc_model.proofs.Rising.{found, tally_found, of_found}
use Rattle.cyc_model.proofs.Whole.{Whole, Done, none_outstanding}
use Rattle.cyc_model.proofs.Totals.{carried, expired_of, lost_of, expired_in, lost_in, pending_in, balanced_ended, kept_expired}
use Rattle.cyc_model.proofs.Totals.{kept_lost}
use Rattle.cyc_model.proofs.Shifts.{Shift}
use Rattle.cyc_model.proofs.Base.{Base, Goes, goes_to, goes_on, base_on, cpu_there, cpu_elsewhere, expired_on, lost_on}
use Rattle.cyc_model.proofs.Base.{pending_on}

base_kept : (n : ℕ) (o : Option CyclicState) (s : State) → n < length s.cpus → Base o s → Base None (keep_counts n o s)
base_kept n None s within b = b
base_kept n (Some x) s within b = record {
  whole = b.whole;
  homes = b.homes;
  rise = b.rise;
  few = b.few;
  books = λ id. balanced_ended n x s within id (b.books id);
}

goes_kept : (n : ℕ) (o : Option CyclicState) (acts : List Act) (s t : State) → Goes acts s t → Goes acts s (keep_counts n o t)
goes_kept n None acts s t g = g
goes_kept n (Some x) acts s t g = goes_to acts s t (keep_counts n (Some x) t) g refl refl (λ id h. h)

cpu_kept : (n : ℕ) (o : Option CyclicState) (s : State) (m : ℕ) → cpu_of m (keep_counts n o s) ≡ cpu_of m s
cpu_kept n None s m = refl
cpu_kept n (Some x) s m = refl

-- the counts are kept before the stay ends or after it
kept_first : (n : ℕ) (f : Cpu → Here) (o : Option CyclicState) (s : State)
    → on_number n f (keep_counts n o s) ≡ record (on_number n f s) { state = keep_counts n o (on_number n f s).state }
kept_first n f None s = refl
kept_first n f (Some x) s = refl

counts_kept : (n : ℕ) (o : Option CyclicState) (s : State) → n < length s.cpus → (id : ℕ)
    → (expired_in id (keep_counts n o s) ≡ expired_in id s + carried expired_of id o)
    × (lost_in id (keep_counts n o s) ≡ lost_in id s + carried lost_of id o)
    × (pending_in id (keep_counts n o s) ≡ pending_in id s) × ((keep_counts n o s).called id ≡ s.called id)
counts_kept n None s within id = (plus_none (expired_in id s), plus_none (lost_in id s), refl, refl)
  where
    plus_none : (k : ℕ) → k ≡ k + 0
    plus_none k = omega arith
counts_kept n (Some x) s within id = (kept_expired n x s within id, kept_lost n x s within id, refl, refl)

placed_kept : (n : ℕ) (o : Option CyclicState) (s : State) → ((keep_counts n o s).placed ≡ s.placed)
    × ((keep_counts n o s).last_id ≡ s.last_id)
placed_kept n None s = (refl, refl)
placed_kept n (Some x) s = (refl, refl)

module _ (n id : ℕ) (f : Cpu → Here) (s : State) (within : n < length s.cpus) (b : Base None s)
    (done : Done n (λ j. 0) (cpu_of n s) (f (cpu_of n s)))
    (shift : Shift None (found id (cpu_of n s).cyclics) (λ j. 0) (cpu_of n s) (f (cpu_of n s)))
    (less : (j : ℕ) → IsSome (found j (f (cpu_of n s)).cpu.cyclics) → IsSome (found j (cpu_of n s).cyclics))
    (local : (c : Cpu) → Local n c (f c)) where
  abbrev pub ended : Outcome
  ended = on_number n f (keep_counts n (cyclic_with_id id (cpu_of n s)) s)

  abbrev o : Option CyclicState
  o = found id (cpu_of n s).cyclics

  same_state : ended.state ≡ keep_counts n o (on_number n f s).state
  same_state = ap (λ (r : Outcome). r.state) (kept_first n f o s)

  same_acts : ended.acts ≡ (on_number n f s).acts
  same_acts = ap (λ (r : Outcome). r.acts) (kept_first n f o s)

  t1 : State
  t1 = (on_number n f s).state

  goes1 : Goes (on_number n f s).acts s (on_number n f s).state
  goes1 = goes_on n f (λ j. 0) s within done None b local (λ j none. refl)

  within1 : n < length (on_number n f s).state.cpus
  within1 = subst (λ k. n < k) (sym goes1.tells.as_many) within

  pub ended_goes : Goes ended.acts s ended.state
  ended_goes = subst (λ (r : Outcome). Goes r.acts s r.state) (sym (kept_first n f o s))
      (goes_kept n o (on_number n f s).acts s (on_number n f s).state goes1)

  pub ended_base : Base None ended.state
  ended_base = subst (λ t. Base None t) (sym same_state) (base_kept n o (on_number n f s).state within1
      (base_on n f (λ j. 0) s within done None o b shift (λ j some. b.homes n j (less j some))))

  pub ended_there : cpu_of n ended.state ≡ (f (cpu_of n s)).cpu
  ended_there = ap (cpu_of n) same_state ∙ cpu_kept n o (on_number n f s).state n ∙ cpu_there n f (λ j. 0) s within done

  pub ended_elsewhere : (m : ℕ) → m ≢ n → cpu_of m ended.state ≡ cpu_of m s
  ended_elsewhere m ne = ap (cpu_of m) same_state ∙ cpu_kept n o (on_number n f s).state m
      ∙ cpu_elsewhere n f (λ j. 0) s within done m ne

  pub ended_placed : (ended.state.placed ≡ s.placed) × (ended.state.last_id ≡ s.last_id)
  ended_placed = (
    ap (λ (t : State). t.placed) same_state ∙ (placed_kept n o (on_number n f s).state).0,
    ap (λ (t : State). t.last_id) same_state ∙ (placed_kept n o (on_number n f s).state).1,
  )

  -- no count is lost
  pub ended_counts : (j : ℕ) → calls_of j (f (cpu_of n s)).acts ≡ 0 → losses_of j (f (cpu_of n s)).acts ≡ 0
      → (expired_in j ended.state ≡ expired_in j s) × (ended.state.called j ≡ s.called j) × (lost_in j ended.state ≡ lost_in j s)
      × (pending_in j ended.state ≡ pending_in j s)
  ended_counts j calls losses =
      let e = expired_on n f (λ k. 0) s within done None o b shift j in
      let l = lost_on n f (λ k. 0) s within done None o b shift j in
      let p = pending_on n f (λ k. 0) s within done j in
      let k = counts_kept n o (on_number n f s).state within1 j in
      let k0 = k.0 in let k1 = k.1 in let k2 = k.2 in let k3 = k.3 in (
        ap (expired_in j) same_state ∙ omega (arith, e, k0),
        ap (λ (t : State). t.called j) same_state ∙ omega (arith, k3, calls),
        ap (lost_in j) same_state ∙ omega (arith, l, k1, losses),
        ap (pending_in j) same_state ∙ omega (arith, p, k2, calls, losses),
      )

-- ---- where no CPU has the cyclic, its ended stays have all of it

pub nothing_here : (g : CyclicState → ℕ) (id : ℕ) (c : Cpu) → Whole c → found id c.cyclics ≡ None
    → sum_by (λ x. cond (is_of id x) (g x) 0) c.cyclics ≡ 0
nothing_here g id c w none = tally_found g 0 id c.cyclics w.rising ∙ ap (of_found g) none

pub none_in_all : (f : Cpu → ℕ) (cs : List Cpu) → ((m : ℕ) → m < length cs → f (slice_index_or cs m absent) ≡ 0) → sum_by f cs ≡ 0
none_in_all f [] none = refl
none_in_all f (c ∷ cs) none =
    let a = sum_by-cons f c cs in let b = none 0 (omega arith) in
    let r = none_in_all f cs (λ m within. none (suc m) (omega (arith, within))) in omega (arith, a, b, r)

pub all_ended : (id : ℕ) (s : State) → Base None s → ((m : ℕ) → found id (cpu_of m s).cyclics ≡ None)
    → ended_expired id s ≡ s.called id + ended_lost id s
all_ended id s b away =
    let e = none_in_all (expired_here id) s.cpus (λ m within. nothing_here expired_of id (cpu_of m s) (b.whole m) (away m)) in
    let l = none_in_all (lost_here id) s.cpus (λ m within. nothing_here lost_of id (cpu_of m s) (b.whole m) (away m)) in
    let p = none_in_all (outstanding_here id) s.cpus (λ m within. none_outstanding id (cpu_of m s) (b.whole m) (away m)) in
    let h = b.books id in
    sums (ended_expired id s) (ended_lost id s) (sum_by (expired_here id) s.cpus) (sum_by (lost_here id) s.cpus)
    (sum_by (outstanding_here id) s.cpus) (s.called id) e l p h
  where
    sums : (ee el e l p c : ℕ) → e ≡ 0 → l ≡ 0 → p ≡ 0 → ee + e + 0 ≡ c + (el + l + 0) + p → ee ≡ c + el
    sums ee el e l p c x y z h = omega (arith, x, y, z, h)
