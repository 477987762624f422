-- What every call but a fire and a soft interrupt does to the cyclics of a CPU.
use Rattle.std.proofs.Common.{◌≡◌, ◌≢◌, ℕ, zero, suc, ◌+◌, ◌≤◌, ◌==◌, ◌⊎◌, Bool, true, false, cond, List, [], ◌∷◌, length, Some}
use Rattle.std.proofs.Common.{None, refl, sym, ap, subst, ◌∙◌, arith, inl, inr, sum_by}
use Rattle.std.specs.Prelude.{Ok, Err, insert, remove}
use Rattle.std.proofs.Math.ListN.{set}
use Rattle.std.proofs.lemmas.Bool.Decides.{nat_tests}
use Rattle.std.proofs.lemmas.List.Sums.{sum_by-cons, sum_by-insert, sum_by-remove, sum_by-set}
use Rattle.cyc_types.specs.declared.Raise.{Ghosts as Raise}
use Rattle.cyc_types.specs.Firing.{FiringCall}
use Rattle.cyc_types.specs.declared.firing.Sent.{Sent}
use Rattle.cyc_types.specs.declared.level.Level.{Level}
use Rattle.cyc_types.specs.declared.moment.When.{When}
use Rattle.cyc_types.specs.declared.refusal.Refusal.{Refusal}
use Rattle.cyc_types.specs.declared.refusal.Refusal.TheVariants as why
use Rattle.cyc_types.specs.Series.{never}
use Rattle.cyc_types.specs.Counting.{no_counts}
use Rattle.cyc_cpu.specs.Rows.{Cyclic}
use Rattle.cyc_cpu.specs.declared.removing.Removal.TheVariants.{Done, Kept}
use Rattle.cyc_cpu.specs.Gone.{PutsNot}
use Rattle.cyc_cpu.specs.Removal.{Leaves}
use Rattle.cyc_cpu.specs.Cpu.{CpuView, IsCyclic, HasNoCyclic, with_moment}
use Rattle.cyc_cpu.specs.Moving.{WhyNotTaken}
use Rattle.cyc_cpu.specs.Calls.{Suspend, Resume}
use Rattle.cyc_cpu.specs.Calls.{CpuCall, CpuChanges, Fire, SoftInterrupt, Add, Place, Reprogram, AskPending, AskTotals, AskRoom}
use Rattle.cyc_cpu.specs.Calls.{Reserve, Widen, BeginRemove, PollRemove, TakeNow, AskSettled}
use Rattle.cyc_cpu.specs.Carried.{counts_for, entered_by, left_by, expired_of, lost_of}

-- a cyclic's counts, where it has the id
abbrev pub expired_in : ℕ → Cyclic → ℕ
expired_in id c = cond (c.timer.id == id) c.timer.expired 0

abbrev pub lost_in : ℕ → Cyclic → ℕ
lost_in id c = cond (c.timer.id == id) c.lost 0

-- the call puts in no counts, and takes out none
abbrev IsBare : CpuCall → Type 0
IsBare call = (id : ℕ) → (entered_by call id ≡ no_counts) × (left_by call id ≡ no_counts)

-- the call puts in this cyclic
abbrev PutsIn : CpuCall → Cyclic → Type 0
PutsIn call c = (id : ℕ) → ((entered_by call id).sent ≡ expired_in id c) × ((entered_by call id).lost ≡ lost_in id c)
    × (left_by call id ≡ no_counts) × (PutsNot id call → c.timer.id ≢ id)

-- the call takes out this cyclic
abbrev TakesOut : CpuCall → Cyclic → Type 0
TakesOut call c = (id : ℕ) → (entered_by call id ≡ no_counts) × ((left_by call id).sent ≡ expired_in id c)
    × ((left_by call id).lost ≡ lost_in id c)

-- nothing, another moment, one more, or one less
abbrev pub Shifts : CpuCall → List Cyclic → List Cyclic → Type 0
Shifts call cs cs' = ((cs' ≡ cs) × IsBare call)
    ⊎ (((k : ℕ) × (m : ℕ) × (c : Cyclic) × IsCyclic cs k c × (cs' ≡ set cs k (with_moment m c)) × IsBare call)
    ⊎ (((k : ℕ) × (c : Cyclic) × (k ≤ length cs) × (cs' ≡ insert cs k c) × PutsIn call c)
    ⊎ ((k : ℕ) × (c : Cyclic) × IsCyclic cs k c × (cs' ≡ remove cs k) × TakesOut call c)))

zero_if : (b : Bool) → ◌≡◌ {A = ℕ} 0 (cond b 0 0)
zero_if true = refl
zero_if false = refl

sent_if : (b : Bool) (s : Sent) (n : ℕ) → s.sent ≡ n → (cond b s no_counts).sent ≡ cond b n 0
sent_if true s n e = e
sent_if false s n e = refl

lost_if : (b : Bool) (s : Sent) (n : ℕ) → s.lost ≡ n → (cond b s no_counts).lost ≡ cond b n 0
lost_if true s n e = e
lost_if false s n e = refl

-- the counts of a cyclic of this id
sent_as : (own : ℕ) (s : Sent) (c : Cyclic) → c.timer.id ≡ own → s.sent ≡ c.timer.expired → (id : ℕ) →
    (counts_for own s id).sent ≡ expired_in id c
sent_as own s c named e id = sent_if (own == id) s c.timer.expired e ∙ ap (λ (j : ℕ). cond (j == id) c.timer.expired 0)
    (sym named)

lost_as : (own : ℕ) (s : Sent) (c : Cyclic) → c.timer.id ≡ own → s.lost ≡ c.lost → (id : ℕ) →
    (counts_for own s id).lost ≡ lost_in id c
lost_as own s c named e id = lost_if (own == id) s c.lost e ∙ ap (λ (j : ℕ). cond (j == id) c.lost 0) (sym named)

module _ {R : Type 0} (firing : Raise R) where
  same : (call : CpuCall) (v w : CpuView R) → IsBare call → w ≡ v → Shifts call v.cyclics w.cyclics
  same call v w bare is = inl (ap (λ (x : CpuView R). x.cyclics) is, bare)

  left : (call : CpuCall) (id : ℕ) (way : List FiringCall) (c : Cyclic) (v w : CpuView R) → TakesOut call c →
      Leaves firing id way c v w → Shifts call v.cyclics w.cyclics
  left call id way c v w out l = inr (inr (inr (l.position, c, l.here, l.cyclics, out)))

  not_taken : (id : ℕ) (v w : CpuView R) (e : Refusal) → WhyNotTaken firing id v e w →
      Shifts (TakeNow id (Err e)) v.cyclics w.cyclics
  not_taken id v w why.NoCyclic d = same (TakeNow id (Err why.NoCyclic)) v w (λ j. (refl, refl)) d.1
  not_taken id v w (why.Busy removed) d = same (TakeNow id (Err (why.Busy removed))) v w (λ j. (refl, refl)) d.2
  not_taken id v w why.Pending (still, some, n, more, a) = inl (a.cyclics, λ j. (refl, refl))
  not_taken id v w e d = absurd d

  not_added : (id now : ℕ) (level : Level) (when : When) (v w : CpuView R) (e : Refusal) →
      CpuChanges firing v (Add id level when now (Err e)) w → Shifts (Add id level when now (Err e)) v.cyclics w.cyclics
  not_added id now level when v w why.BadNow d = same (Add id level when now (Err why.BadNow)) v w (λ j. (refl, refl)) d.2
  not_added id now level when v w e (absent, early, looked, why_not) = inl (looked.cyclics, λ j. (refl, refl))

  pub changes_shift : (v w : CpuView R) (call : CpuCall) → CpuChanges firing v call w → Shifts call v.cyclics w.cyclics
  changes_shift v w (Add id level when now (Ok done)) (absent, early, a) =
      let before : a.widened.cyclics ≡ v.cyclics = a.widens.cyclics ∙ a.reserves.cyclics in
      inr (inr (inl (
        a.enters.position,
        _,
        subst (λ cs. a.enters.position ≤ length cs) before a.enters.within,
        subst (λ cs. w.cyclics ≡ insert cs a.enters.position _) before a.enters.cyclics,
        λ j. (zero_if (id == j), zero_if (id == j), refl, (λ not. not)),
      )))
  changes_shift v w (Add id level when now (Err e)) d = not_added id now level when v w e d
  changes_shift v w (Place id level interval moment carried) (may, p) =
      inr (inr (inl (
        p.position,
        _,
        p.within,
        p.cyclics,
        λ j. (
          sent_if (id == j) carried carried.sent refl,
          lost_if (id == j) carried carried.lost refl,
          refl,
          (λ not. not),
        ),
      )))
  changes_shift v w (Reprogram id moment (Ok done)) (
    k,
    c,
    here,
    named,
    shut,
    is,
  ) = inr (inl (k, moment, c, here, ap (λ (x : CpuView R). x.cyclics) is, λ j. (refl, refl)))
  changes_shift v w (Reprogram id moment (Err e)) d = same (Reprogram id moment (Err e)) v w (λ j. (refl, refl)) d.2
  changes_shift v w (AskPending id (Some n)) d = inl (d.0.cyclics, λ j. (refl, refl))
  changes_shift v w (AskPending id None) d = same (AskPending id None) v w (λ j. (refl, refl)) d.1
  changes_shift v w (AskTotals id (Some t)) d = inl (d.0.cyclics, λ j. (refl, refl))
  changes_shift v w (AskTotals id None) d = same (AskTotals id None) v w (λ j. (refl, refl)) d.1
  changes_shift v w (AskRoom more (Ok done)) d = inl (d.0.cyclics, λ j. (refl, refl))
  changes_shift v w (AskRoom more (Err e)) d = inl (d.0.cyclics, λ j. (refl, refl))
  changes_shift v w (Reserve more (Ok done)) d = inl (d.0.cyclics, λ j. (refl, refl))
  changes_shift v w (Reserve more (Err e)) d = inl (d.0.cyclics, λ j. (refl, refl))
  changes_shift v w (Widen more) d = inl (d.1.cyclics, λ j. (refl, refl))
  changes_shift v w (BeginRemove id (Ok (Done receipt))) (still, (c, counts, is, polled, l)) =
      let s : Sent = record { sent = receipt.sent; lost = receipt.lost } in
      left (BeginRemove id (Ok (Done receipt))) id _ c v w (λ j. (
        refl,
        sent_as id s c l.named is.1 j,
        lost_as id s c l.named is.2 j,
      )) l
  changes_shift v w (BeginRemove id (Ok (Kept kept))) (still, o) = inr (inl (
    o.position,
    never,
    o.cyclic,
    o.here,
    o.cyclics,
    λ j. (refl, refl),
  ))
  changes_shift v w (BeginRemove id (Err e)) d = same (BeginRemove id (Err e)) v w (λ j. (refl, refl)) d.1
  changes_shift v w (PollRemove (Some receipt)) e =
      let s : Sent = record { sent = receipt.sent; lost = receipt.lost } in
      left (PollRemove (Some receipt)) receipt.id _ e.cyclic v w
      (λ j. (
        refl,
        sent_as receipt.id s e.cyclic e.leaves.named e.counted.1 j,
        lost_as receipt.id s e.cyclic e.leaves.named e.counted.2 j,
      )) e.leaves
  changes_shift v w (PollRemove None) (inl d) = same (PollRemove None) v w (λ j. (refl, refl)) d.1
  changes_shift v w (PollRemove None) (inr (id, is_open, e)) = inl (e.cyclics, λ j. (refl, refl))
  changes_shift v w (TakeNow id (Ok taken)) (still, (c, counts, is, polled, l)) =
      left (TakeNow id (Ok taken)) id _ c v w (λ j. (
        refl,
        sent_as id taken.sent c l.named is.3 j,
        lost_as id taken.sent c l.named is.4 j,
      )) l
  changes_shift v w (TakeNow id (Err e)) d = not_taken id v w e d
  changes_shift v w (AskSettled true) d = inl (d.0.cyclics, λ j. (refl, refl))
  changes_shift v w (AskSettled false) d = inl (d.0.cyclics, λ j. (refl, refl))
  changes_shift v w Suspend d = inl (ap (λ (x : CpuView R). x.cyclics) d, λ j. (refl, refl))
  changes_shift v w Resume d = inl (ap (λ (x : CpuView R). x.cyclics) d, λ j. (refl, refl))
  changes_shift v w (Fire now answer) d = absurd d
  changes_shift v w (SoftInterrupt soft budget answer) d = absurd d

-- what a CPU has of an id, with what left, is what it had, with what came
pub shift_sums : (call : CpuCall) (cs cs' : List Cyclic) (id : ℕ) → Shifts call cs cs' →
    (expired_of id cs' + (left_by call id).sent ≡ expired_of id cs + (entered_by call id).sent)
    × (lost_of id cs' + (left_by call id).lost ≡ lost_of id cs + (entered_by call id).lost)
shift_sums call cs cs' id (inl (is, bare)) =
    let a = ap (expired_of id) is in let b = ap (lost_of id) is in
    let e = bare id in
    let s = ap (λ (x : Sent). x.sent) (e.1 ∙ sym e.0) in let l = ap (λ (x : Sent). x.lost) (e.1 ∙ sym e.0) in
    (omega (arith, a, s), omega (arith, b, l))
shift_sums call cs cs' id (inr (inl (k, m, c, (low, here), is, bare))) =
    let a = ap (expired_of id) is in let b = ap (lost_of id) is in
    let e = bare id in
    let s = ap (λ (x : Sent). x.sent) (e.1 ∙ sym e.0) in let l = ap (λ (x : Sent). x.lost) (e.1 ∙ sym e.0) in
    let x = sum_by-set (expired_in id) cs k (with_moment m c) c low in
    let y = sum_by-set (lost_in id) cs k (with_moment m c) c low in
    let x' = ap (expired_in id) here in let y' = ap (lost_in id) here in
    (omega (arith, a, s, x, x'), omega (arith, b, l, y, y'))
shift_sums call cs cs' id (inr (inr (inl (k, c, within, is, puts)))) =
    let a = ap (expired_of id) is in let b = ap (lost_of id) is in
    let e = puts id in let es = e.0 in let el = e.1 in
    let s = ap (λ (x : Sent). x.sent) e.2 in let l = ap (λ (x : Sent). x.lost) e.2 in
    let x = sum_by-insert (expired_in id) cs k c in let y = sum_by-insert (lost_in id) cs k c in
    (omega (arith, a, s, x, es), omega (arith, b, l, y, el))
shift_sums call cs cs' id (inr (inr (inr (k, c, (low, here), is, out)))) =
    let a = ap (expired_of id) is in let b = ap (lost_of id) is in
    let e = out id in let es = e.1 in let el = e.2 in
    let s = ap (λ (x : Sent). x.sent) e.0 in let l = ap (λ (x : Sent). x.lost) e.0 in
    let x = sum_by-remove (expired_in id) cs k c low in let y = sum_by-remove (lost_in id) cs k c low in
    let x' = ap (expired_in id) here in let y' = ap (lost_in id) here in
    (omega (arith, a, s, x, es, x'), omega (arith, b, l, y, el, y'))

-- how many cyclics have the id
abbrev pub here_of : ℕ → List Cyclic → ℕ
here_of id cs = sum_by (λ c. cond (c.timer.id == id) 1 0) cs

pub none_here : (id : ℕ) (cs : List Cyclic) → HasNoCyclic id cs → here_of id cs ≡ 0
none_here id [] none = refl
none_here id (c ∷ cs) none =
    let ne : c.timer.id ≢ id = none 0 c (omega arith) in
    let no : (c.timer.id == id) ≡ false = grind (arith, nat_tests) in
    let a = sum_by-cons (λ (c : Cyclic). cond (c.timer.id == id) 1 0) c cs in
    let b = ap (λ (b : Bool). cond {A = ℕ} b 1 0) no in
    let r = none_here id cs (λ k d low. none (suc k) d (omega (arith, low))) in omega (arith, a, b, r)

pub here_none : (id : ℕ) (cs : List Cyclic) → here_of id cs ≡ 0 → HasNoCyclic id cs
here_none id [] none k d low same = absurd (omega (arith, low))
here_none id (c ∷ cs) none zero d low same =
    let yes : (c.timer.id == id) ≡ true = grind (arith, nat_tests) in
    let a = sum_by-cons (λ (c : Cyclic). cond (c.timer.id == id) 1 0) c cs in
    let b = ap (λ (b : Bool). cond {A = ℕ} b 1 0) yes in omega (arith, a, b, none)
here_none id (c ∷ cs) none (suc k) d low same =
    let a = sum_by-cons (λ (c : Cyclic). cond (c.timer.id == id) 1 0) c cs in
    here_none id cs (omega (arith, a, none)) k d (omega (arith, low)) same

-- a call that doesn't put the id in
pub shift_away : (call : CpuCall) (cs cs' : List Cyclic) (id : ℕ) → Shifts call cs cs' → PutsNot id call → HasNoCyclic id cs →
    HasNoCyclic id cs'
shift_away call cs cs' id (inl (is, bare)) not none = subst (λ xs. HasNoCyclic id xs) (sym is) none
shift_away call cs cs' id (inr (inl (k, m, c, (low, here), is, bare))) not none =
    let nil = none_here id cs none in
    let a = ap (here_of id) is in
    let x = sum_by-set (λ (c : Cyclic). cond {A = ℕ} (c.timer.id == id) 1 0) cs k (with_moment m c) c low in
    let y = ap (λ (c : Cyclic). cond {A = ℕ} (c.timer.id == id) 1 0) here in
    here_none id cs' (omega (arith, nil, a, x, y))
shift_away call cs cs' id (inr (inr (inl (k, c, within, is, puts)))) not none =
    let nil = none_here id cs none in
    let ne = (puts id).3 not in
    let no : (c.timer.id == id) ≡ false = grind (arith, nat_tests) in
    let a = ap (here_of id) is in
    let x = sum_by-insert (λ (c : Cyclic). cond {A = ℕ} (c.timer.id == id) 1 0) cs k c in
    let y = ap (λ (b : Bool). cond {A = ℕ} b 1 0) no in
    here_none id cs' (omega (arith, nil, a, x, y))
shift_away call cs cs' id (inr (inr (inr (k, c, (low, here), is, out)))) not none =
    let nil = none_here id cs none in
    let a = ap (here_of id) is in
    let x = sum_by-remove (λ (c : Cyclic). cond {A = ℕ} (c.timer.id == id) 1 0) cs k c low in
    here_none id cs' (omega (arith, nil, a, x))
