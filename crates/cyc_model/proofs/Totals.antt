-- The books of a machine: what its CPUs and the stays that have ended have of an id.
use Rattle.std.proofs.Common.{◌≡◌, ◌≢◌, ℕ, zero, suc, ◌+◌, ◌<◌, ◌≤◌, ◌==◌, ◌&&◌, eq-eqb, ne_eqb, Bool, true, false, cond, List}
use Rattle.std.proofs.Common.{[], ◌∷◌, length, sum_by, Option, Some, None, refl, ap, sym, ◌∙◌, subst, arith}
use Rattle.std.specs.Prelude.{slice_index_or, slice_set}
use Rattle.std.proofs.lemmas.List.Sums.{sum_by-cons}
use mathlib.Core.Logic.{dite}
use native.Mathlib.Decide.{ℕ_discrete}
use Rattle.cyc_model.specs.Cpu.{CyclicState, Cpu, is_of}
use Rattle.cyc_model.specs.Questions.{outstanding_here}
use Rattle.cyc_model.specs.State.{State, Ended, absent, cpus_from}
use Rattle.cyc_model.specs.Places.{keeping_counts, without_ended}
use Rattle.cyc_model.specs.Remove.{ended_expired, ended_lost}
use Rattle.cyc_model.specs.Report.{expired_here, lost_here}

-- ---- sums over CPUs

pub sum_set : (g : Cpu → ℕ) (cs : List Cpu) (n : ℕ) (d : Cpu) → n < length cs
    → sum_by g (slice_set cs n d) + g (slice_index_or cs n absent) ≡ sum_by g cs + g d
sum_set g [] n d within = absurd (omega (arith, within))
sum_set g (c ∷ cs) zero d within =
    let a = sum_by-cons g d cs in let b = sum_by-cons g c cs in omega (arith, a, b)
sum_set g (c ∷ cs) (suc n) d within =
    let a = sum_by-cons g c (slice_set cs n d) in let b = sum_by-cons g c cs in
    let h = sum_set g cs n d (omega (arith, within)) in omega (arith, a, b, h)

pub all_set : (k : ℕ) (cs : List Cpu) (n : ℕ) (d : Cpu) → cpus_from k (λ c. true) (slice_set cs n d)
    ≡ cpus_from k (λ c. true) cs
all_set k [] n d = refl
all_set k (c ∷ cs) zero d = refl
all_set k (c ∷ cs) (suc n) d = ap (λ ns. k ∷ ns) (all_set (k + 1) cs n d)

-- ---- sums over numbers of CPUs

module _ (f g : ℕ → ℕ) (n more : ℕ) (others : (m : ℕ) → m ≢ n → g m ≡ f m) where
  sum_after : (k : ℕ) (cs : List Cpu) → n < k → sum_by g (cpus_from k (λ c. true) cs)
      ≡ sum_by f (cpus_from k (λ c. true) cs)
  sum_after k [] past = refl
  sum_after k (c ∷ cs) past =
      let a = sum_by-cons g k (cpus_from (k + 1) (λ d. true) cs)
      in let b = sum_by-cons f k (cpus_from (k + 1) (λ d. true) cs) in
      let h = sum_after (k + 1) cs (omega (arith, past)) in
      let e = others k (λ (s : k ≡ n). omega (arith, past, s)) in omega (arith, a, b, h, e)

  pub sum_more : (k : ℕ) (cs : List Cpu) → k ≤ n → n < k + length cs → g n ≡ f n + more
      → sum_by g (cpus_from k (λ c. true) cs) ≡ sum_by f (cpus_from k (λ c. true) cs) + more
  sum_more k [] low high here = absurd (omega (arith, low, high))
  sum_more k (c ∷ cs) low high here =
      let a = sum_by-cons g k (cpus_from (k + 1) (λ d. true) cs)
      in let b = sum_by-cons f k (cpus_from (k + 1) (λ d. true) cs) in
      dite (ℕ_discrete k n)
      (λ e. let h = sum_after (k + 1) cs (omega (arith, e)) in
      let v : g k ≡ f k + more = subst (λ (i : ℕ). g i ≡ f i + more) (sym e) here in omega (arith, a, b, h, v))
      (λ ne. let h = sum_more (k + 1) cs (omega (arith, low, ne)) (omega (arith, high)) here in
      let e = others k ne in omega (arith, a, b, h, e))

-- ---- a cyclic on its way between two CPUs, or to the ended stays

-- what it has of an id
abbrev pub carried : (CyclicState → ℕ) → ℕ → Option CyclicState → ℕ
carried g id None = 0
carried g id (Some x) = cond (is_of id x) (g x) 0

abbrev pub expired_of : CyclicState → ℕ
expired_of x = x.timer.expired

abbrev pub lost_of : CyclicState → ℕ
lost_of x = x.lost

abbrev pub expired_in : ℕ → State → ℕ
expired_in id s = ended_expired id s + sum_by (expired_here id) s.cpus

abbrev pub lost_in : ℕ → State → ℕ
lost_in id s = ended_lost id s + sum_by (lost_here id) s.cpus

abbrev pub pending_in : ℕ → State → ℕ
pending_in id s = sum_by (outstanding_here id) s.cpus

-- each expiration of the id was called, lost or is pending
abbrev pub Balanced : ℕ → Option CyclicState → State → Type 0
Balanced id way s = expired_in id s + carried expired_of id way
    ≡ s.called id + (lost_in id s + carried lost_of id way) + pending_in id s

-- its counts go to the ended stays
abbrev ended_with : Bool → Ended → CyclicState → Ended
ended_with b e x = cond b (record { expired = e.expired + x.timer.expired; lost = e.lost + x.lost }) e

module _ (n : ℕ) (x : CyclicState) (s : State) (within : n < length s.cpus) (id : ℕ) where
  same_first : (m : ℕ) → x.timer.id ≡ id → ((id == x.timer.id) && (m == n)) ≡ (m == n)
  same_first m e = ap (λ (b : Bool). b && (m == n)) (eq-eqb id x.timer.id (sym e))

  other_first : (m : ℕ) → x.timer.id ≢ id → ((id == x.timer.id) && (m == n)) ≡ false
  other_first m ne = ap (λ (b : Bool). b && (m == n)) (ne_eqb id x.timer.id (λ e. ne (sym e)))

  keeps_one : (g : Ended → ℕ) (v : CyclicState → ℕ) → ((e : Ended) → g (ended_with true e x) ≡ g e + v x)
      → sum_by (λ m. g ((keeping_counts n x s).ended id m)) (cpus_from 0 (λ c. true) s.cpus)
      ≡ sum_by (λ m. g (s.ended id m)) (cpus_from 0 (λ c. true) s.cpus) + carried v id (Some x)
  keeps_one g v grows = dite (ℕ_discrete x.timer.id id)
      (λ e. let one : carried v id (Some x) ≡ v x = ap (λ (b : Bool). cond b (v x) 0) (eq-eqb x.timer.id id e) in
      let h = sum_more (λ m. g (s.ended id m)) (λ m. g ((keeping_counts n x s).ended id m)) n (v x)
      (λ m ne. ap (λ (b : Bool). g (ended_with b (s.ended id m) x)) (same_first m e ∙ ne_eqb m n ne))
      0 s.cpus (omega arith) (omega (arith, within))
      (ap (λ (b : Bool). g (ended_with b (s.ended id n) x)) (same_first n e ∙ eq-eqb n n refl) ∙ grows (s.ended id n)) in
      omega (arith, one, h))
      (λ ne. let none : carried v id (Some x) ≡ 0 = ap (λ (b : Bool). cond b (v x) 0) (ne_eqb x.timer.id id ne) in
      let h = sum_more (λ m. g (s.ended id m)) (λ m. g ((keeping_counts n x s).ended id m)) n 0
      (λ m far. ap (λ (b : Bool). g (ended_with b (s.ended id m) x)) (other_first m ne))
      0 s.cpus (omega arith) (omega (arith, within))
      (ap (λ (b : Bool). g (ended_with b (s.ended id n) x)) (other_first n ne) ∙ plus_none (g (s.ended id n))) in
      omega (arith, none, h))
    where
      plus_none : (k : ℕ) → k ≡ k + 0
      plus_none k = omega arith

  pub kept_expired : expired_in id (keeping_counts n x s) ≡ expired_in id s + carried expired_of id (Some x)
  kept_expired = let a = keeps_one (λ e. e.expired) expired_of (λ e. refl) in omega (arith, a)

  pub kept_lost : lost_in id (keeping_counts n x s) ≡ lost_in id s + carried lost_of id (Some x)
  kept_lost = let a = keeps_one (λ e. e.lost) lost_of (λ e. refl) in omega (arith, a)

  pub balanced_ended : Balanced id (Some x) s → Balanced id None (keeping_counts n x s)
  balanced_ended h =
      let a = keeps_one (λ e. e.expired) expired_of (λ e. refl) in
      let b = keeps_one (λ e. e.lost) lost_of (λ e. refl) in omega (arith, h, a, b)

-- and the counts of the ended stays of an id on a CPU come with a cyclic
abbrev ended_without : Bool → Ended → Ended
ended_without b e = cond b (record { expired = 0; lost = 0 }) e

module _ (n : ℕ) (x : CyclicState) (s : State) (within : n < length s.cpus) (id : ℕ) where
  takes_one : (g : Ended → ℕ) (v : CyclicState → ℕ) → g (record { expired = 0; lost = 0 }) ≡ 0 → v x ≡ g (s.ended x.timer.id n)
      → sum_by (λ m. g (s.ended id m)) (cpus_from 0 (λ c. true) s.cpus)
      ≡ sum_by (λ m. g ((without_ended n x.timer.id s).ended id m)) (cpus_from 0 (λ c. true) s.cpus) + carried v id (Some x)
  takes_one g v none same = dite (ℕ_discrete x.timer.id id)
      (λ e. let one : carried v id (Some x) ≡ v x = ap (λ (b : Bool). cond b (v x) 0) (eq-eqb x.timer.id id e) in
      let h = sum_more (λ m. g ((without_ended n x.timer.id s).ended id m)) (λ m. g (s.ended id m)) n (v x)
      (λ m ne. sym (ap (λ (b : Bool). g (ended_without b (s.ended id m))) (same_first n x s within id m e ∙ ne_eqb m n ne)))
      0 s.cpus (omega arith) (omega (arith, within))
      (let z : g ((without_ended n x.timer.id s).ended id n) ≡ 0 =
      ap (λ (b : Bool). g (ended_without b (s.ended id n))) (same_first n x s within id n e ∙ eq-eqb n n refl) ∙ none in
      let v' : v x ≡ g (s.ended id n) = same ∙ ap (λ (i : ℕ). g (s.ended i n)) e in omega (arith, z, v')) in
      omega (arith, one, h))
      (λ ne. let none' : carried v id (Some x) ≡ 0 = ap (λ (b : Bool). cond b (v x) 0) (ne_eqb x.timer.id id ne) in
      let h = sum_more (λ m. g ((without_ended n x.timer.id s).ended id m)) (λ m. g (s.ended id m)) n 0
      (λ m far. sym (ap (λ (b : Bool). g (ended_without b (s.ended id m))) (other_first n x s within id m ne)))
      0 s.cpus (omega arith) (omega (arith, within))
      (sym (ap (λ (b : Bool). g (ended_without b (s.ended id n))) (other_first n x s within id n ne))
      ∙ plus_none (g ((without_ended n x.timer.id s).ended id n))) in
      omega (arith, none', h))
    where
      plus_none : (k : ℕ) → k ≡ k + 0
      plus_none k = omega arith

  pub again_expired : x.timer.expired ≡ (s.ended x.timer.id n).expired
      → expired_in id s ≡ expired_in id (without_ended n x.timer.id s) + carried expired_of id (Some x)
  again_expired expired = let a = takes_one (λ e. e.expired) expired_of refl expired in omega (arith, a)

  pub again_lost : x.lost ≡ (s.ended x.timer.id n).lost → lost_in id s
      ≡ lost_in id (without_ended n x.timer.id s) + carried lost_of id (Some x)
  again_lost lost = let a = takes_one (λ e. e.lost) lost_of refl lost in omega (arith, a)

  pub balanced_again : x.timer.expired ≡ (s.ended x.timer.id n).expired → x.lost ≡ (s.ended x.timer.id n).lost
      → Balanced id None s → Balanced id (Some x) (without_ended n x.timer.id s)
  balanced_again expired lost h =
      let a = takes_one (λ e. e.expired) expired_of refl expired in
      let b = takes_one (λ e. e.lost) lost_of refl lost in omega (arith, h, a, b)
