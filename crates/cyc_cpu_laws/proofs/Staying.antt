-- A CPU that has settled stays settled over any calls but a fire and a switch of banks, and no call on it is put off.
use Rattle.std.proofs.Common.{◌≡◌, ◌≢◌, ℕ, suc, ◌<◌, ◌≤◌, All, Bool, true, false, cond, eqb, List, [], ◌∷◌, Option, Some, None}
use Rattle.std.proofs.Common.{refl, sym, ap, subst, ◌∙◌, arith, inl, inr}
use Rattle.std.specs.Prelude.{Result, Ok, Err}
use Rattle.std.specs.List.{FoldsTo}
use Rattle.cyc_types.specs.declared.Calls.{Ghosts as Calls}
use Rattle.cyc_types.specs.declared.Raise.{Ghosts as Raise}
use Rattle.cyc_types.specs.Firing.{FiringView, FiringCall, Admits, Loads, Raises, Marks, Polls, Expands, Looks, Learns, Stay}
use Rattle.cyc_types.specs.Firing.{edited, seen_in, seen_of, saw}
use Rattle.cyc_types.specs.Runs.{Goes}
use Rattle.cyc_types.specs.declared.level.Level.{Level}
use Rattle.cyc_types.specs.declared.level.Level.TheVariants.{Low, Lock, High}
use Rattle.cyc_types.specs.declared.level.Soft.{Soft}
use Rattle.cyc_types.specs.declared.moment.When.{When}
use Rattle.cyc_types.specs.declared.refusal.Refusal.{Refusal}
use Rattle.cyc_types.specs.declared.refusal.Refusal.TheVariants as why
use Rattle.cyc_soft.specs.declared.Ran.{Ran}
use Rattle.cyc_soft.specs.declared.SoftRefused.{SoftRefused}
use Rattle.cyc_cpu.specs.declared.removing.Removal.TheVariants.{Done, Kept}
use Rattle.cyc_cpu.specs.Cpu.{CpuView, Running, WhyNoRoom, WhyNotReserved}
use Rattle.cyc_cpu.specs.Removal.{calls_at, Opens, WhyNotBegun}
use Rattle.cyc_cpu.specs.Moving.{IsSettled, WhyNotTaken}
use Rattle.cyc_cpu.specs.Calls.{Suspend, Resume, no_interrupts}
use Rattle.cyc_cpu.specs.Calls.{CpuCall, CpuChanges, CpuDoes, Fire, SoftInterrupt, Add, Place, Reprogram, AskPending, AskTotals}
use Rattle.cyc_cpu.specs.Calls.{AskRoom, Reserve, Widen, BeginRemove, PollRemove, TakeNow, AskSettled}
use Rattle.cyc_cpu_laws.specs.Runs.{CpuSteps}
use Rattle.cyc_cpu_laws.specs.Settled.{IsNoFire, IsUntil, IsPutOff}
use Rattle.cyc_cpu_laws.proofs.Stills.{IsStill, AreStill, changes_still}

-- what soft interrupts among the calls leave: the size, and a CPU settled
pub record KeepSettled {C R : Type 0} (firing : Raise R)
    (interrupts : Soft → ℕ → Result Ran SoftRefused → Running C R → Running C R → Type 0) : Type 0 where
  pub sizes : (soft : Soft) (budget : ℕ) (answer : Result Ran SoftRefused) (s t : Running C R)
      → interrupts soft budget answer s t → t.cpu.size ≡ s.cpu.size
  pub settles : (soft : Soft) (budget : ℕ) (answer : Result Ran SoftRefused) (s t : Running C R)
      → interrupts soft budget answer s t → IsSettled firing.view s.cpu → IsSettled firing.view t.cpu

pub none_settled : {C R : Type 0} (firing : Raise R) → KeepSettled {C = C} firing no_interrupts
none_settled firing = record {
  sizes = λ soft budget answer s t h. absurd h;
  settles = λ soft budget answer s t h k. absurd h;
}

-- nothing is outstanding at an end, and its soft side has followed
abbrev pub IsQuiet : FiringView → Type 0
IsQuiet v = ((id : ℕ) → seen_of id v ≡ 0) × (v.followed ≡ true)

saw_none : (b : Bool) (n : ℕ) (o : Option Stay) → n ≡ 0 → seen_in o ≡ 0 →
    seen_in (cond b (edited (λ s. record s { seen = n }) o) o) ≡ 0
saw_none true n None e h = refl
saw_none true n (Some s) e h = e
saw_none false n o e h = h

cleared : (b : Bool) (o : Option Stay) → seen_in o ≡ 0 → seen_in (cond b None o) ≡ 0
cleared true o h = refl
cleared false o h = h

admitted : (b : Bool) (index : ℕ) (o : Option Stay) → seen_in o ≡ 0 →
    seen_in (cond b (Some (record { index = index; sent = 0; lost = 0; seen = 0 })) o) ≡ 0
admitted true index o h = refl
admitted false index o h = h

quiet_saw : (v : FiringView) (id n : ℕ) → n ≤ seen_of id v → IsQuiet v → IsQuiet (saw id n v)
quiet_saw v id n few q = (let z = q.0 id in let none : n ≡ 0 = omega (arith, z, few) in
    ((λ j. saw_none (eqb j id) n (v.stays j) none (q.0 j)), q.1))

quiet_learns : (a b : ℕ) (v w : FiringView) (call : FiringCall) → b ≤ a → IsStill a b call → Learns v call w → IsQuiet v →
    IsQuiet w
quiet_learns a b v w (Raises id answer) same still l q = absurd still
quiet_learns a b v w (Expands bank) same still l q = absurd (omega (arith, same, still))
quiet_learns a b v w (Admits id index) same still l q = subst (λ (x : FiringView). IsQuiet x) (sym l)
    ((λ j. admitted (eqb j id) index (v.stays j) (q.0 j)), q.1)
quiet_learns a b v w (Loads id pend) same still l q = subst (λ (x : FiringView). IsQuiet x) (sym l.1) (quiet_saw v id pend l.0 q)
quiet_learns a b v w (Marks id pend) same still l q = subst (λ (x : FiringView). IsQuiet x) (sym l.1)
    (let s = quiet_saw v id pend l.0 q in (s.0, s.1))
quiet_learns a b v w (Polls id None) same still l q = let z = q.0 id in let x = l.1 in let y = l.2 in
    absurd (omega (arith, z, x, y))
quiet_learns a b v w (Polls id (Some counts)) same still l q = subst (λ (x : FiringView). IsQuiet x) (sym l.1)
    ((λ j. cleared (eqb j id) (v.stays j) (q.0 j)), q.1)
quiet_learns a b v w (Looks answer) same still l q = subst (λ (x : FiringView). IsQuiet x) (sym l.1) (q.0, l.0 q.1)

not_some : (o : Option ℕ) (id : ℕ) → o ≡ None → o ≡ Some id → ⊥
not_some o id a b = let wrong : None ≡ Some id = sym a ∙ b in cc

not_false : (b : Bool) → b ≡ true → b ≡ false → ⊥
not_false b a h = let wrong : true ≡ false = sym a ∙ h in cc

module _ {R : Type 0} (firing : Raise R) where
  quiet_way : (a b : ℕ) (e f : R) (way : List FiringCall) → b ≤ a → AreStill a b way → Goes firing e way f →
      IsQuiet (firing.view e) → IsQuiet (firing.view f)
  quiet_way a b e f [] same still g q = subst (λ (x : R). IsQuiet (firing.view x)) g q
  quiet_way a b e f (call ∷ way) same still (
    m,
    (s, l),
    rest,
  ) q = quiet_way a b m f way same still.1 rest (quiet_learns a b (firing.view e) (firing.view m) call same still.0 l q)

  pub lock_quiet : (v : CpuView R) → IsSettled firing.view v → IsQuiet (firing.view v.lock)
  lock_quiet v s = ((λ id. let a = s.seen id in omega (arith, a)), s.followed.0)

  pub low_quiet : (v : CpuView R) → IsSettled firing.view v → IsQuiet (firing.view v.low)
  low_quiet v s = ((λ id. let a = s.seen id in omega (arith, a)), s.followed.1)

  pub settled_of : (w : CpuView R) → IsQuiet (firing.view w.lock) → IsQuiet (firing.view w.low) → w.removal ≡ None
      → IsSettled firing.view w
  settled_of w a b still = record {
    seen = λ id. (let x = a.0 id in let y = b.0 id in omega (arith, x, y));
    followed = (a.1, b.1);
    still = still;
  }

  opens_at : (own : Level) (id kept : ℕ) (v w : CpuView R) → own ≢ High → 0 < kept →
      Goes firing v.lock (calls_at Lock own (Marks id kept ∷ [])) w.lock →
      Goes firing v.low (calls_at Low own (Marks id kept ∷ [])) w.low → IsSettled firing.view v → ⊥
  opens_at High id kept v w soft some lock low s = soft refl
  opens_at Lock id kept v w soft some (m, (st, l), last) low s = let a = s.seen id in let b = l.0 in omega (arith, some, a, b)
  opens_at Low id kept v w soft some lock (m, (st, l), last) s = let a = s.seen id in let b = l.0 in omega (arith, some, a, b)

  -- no removal stays open: its mark finds nothing outstanding
  opens_not : (id kept : ℕ) (v w : CpuView R) → Opens firing id kept v w → IsSettled firing.view v → ⊥
  opens_not id kept v w o s = opens_at o.cyclic.timer.level id kept v w o.soft o.some o.goes.0 o.goes.1 s

  not_taken : (id : ℕ) (v w : CpuView R) (e : Refusal) → v.removal ≡ None → WhyNotTaken firing id v e w → w.removal ≡ None
  not_taken id v w why.NoCyclic s d = ap (λ (x : CpuView R). x.removal) d.1 ∙ s
  not_taken id v w (why.Busy removed) s d = ap (λ (x : CpuView R). x.removal) d.2 ∙ s
  not_taken id v w why.Pending s (still, some, n, more, a) = a.kept.removal ∙ s
  not_taken id v w e s d = absurd d

  not_added : (id now : ℕ) (level : Level) (when : When) (v w : CpuView R) (e : Refusal) → v.removal ≡ None →
      CpuChanges firing v (Add id level when now (Err e)) w → w.removal ≡ None
  not_added id now level when v w why.BadNow s d = ap (λ (x : CpuView R). x.removal) d.2 ∙ s
  not_added id now level when v w e s (absent, early, looked, why_not) = looked.kept.removal ∙ s

  still_closed : (v w : CpuView R) (call : CpuCall) → IsSettled firing.view v → CpuChanges firing v call w → w.removal ≡ None
  still_closed v w (Add id level when now (Ok done)) s (absent, early, a) = a.enters.kept.removal ∙ a.widens.removal
      ∙ a.reserves.removal ∙ s.still
  still_closed v w (Add id level when now (Err e)) s d = not_added id now level when v w e s.still d
  still_closed v w (Place id level interval moment carried) s d = d.1.kept.removal ∙ s.still
  still_closed v w (Reprogram id moment (Ok done)) s (k, c, here, named, shut, is) = ap (λ (x : CpuView R). x.removal) is
      ∙ s.still
  still_closed v w (Reprogram id moment (Err e)) s d = ap (λ (x : CpuView R). x.removal) d.2 ∙ s.still
  still_closed v w (AskPending id (Some n)) s d = d.0.kept.removal ∙ s.still
  still_closed v w (AskPending id None) s d = ap (λ (x : CpuView R). x.removal) d.1 ∙ s.still
  still_closed v w (AskTotals id (Some t)) s d = d.0.kept.removal ∙ s.still
  still_closed v w (AskTotals id None) s d = ap (λ (x : CpuView R). x.removal) d.1 ∙ s.still
  still_closed v w (AskRoom more (Ok done)) s d = d.0.kept.removal ∙ s.still
  still_closed v w (AskRoom more (Err e)) s d = d.0.kept.removal ∙ s.still
  still_closed v w (Reserve more (Ok done)) s d = d.0.removal ∙ s.still
  still_closed v w (Reserve more (Err e)) s d = d.0.kept.removal ∙ s.still
  still_closed v w (Widen more) s d = d.1.removal ∙ s.still
  still_closed v w (BeginRemove id (Ok (Done receipt))) s (still, (c, counts, is, polled, l)) = l.removal
  still_closed v w (BeginRemove id (Ok (Kept kept))) s (still, o) = absurd (opens_not id kept v w o s)
  still_closed v w (BeginRemove id (Err e)) s d = ap (λ (x : CpuView R). x.removal) d.1 ∙ s.still
  still_closed v w (PollRemove (Some receipt)) s e = e.leaves.removal
  still_closed v w (PollRemove None) s (inl d) = ap (λ (x : CpuView R). x.removal) d.1 ∙ s.still
  still_closed v w (PollRemove None) s (inr (id, is_open, e)) = e.kept.removal ∙ s.still
  still_closed v w (TakeNow id (Ok taken)) s (still, (c, counts, is, polled, l)) = l.removal
  still_closed v w (TakeNow id (Err e)) s d = not_taken id v w e s.still d
  still_closed v w (AskSettled true) s d = d.0.kept.removal ∙ s.still
  still_closed v w (AskSettled false) s d = d.0.kept.removal ∙ s.still
  still_closed v w Suspend s d = ap (λ (x : CpuView R). x.removal) d ∙ s.still
  still_closed v w Resume s d = ap (λ (x : CpuView R). x.removal) d ∙ s.still
  still_closed v w (Fire now answer) s d = absurd d
  still_closed v w (SoftInterrupt soft budget answer) s d = absurd d

  settled_changes : (v w : CpuView R) (call : CpuCall) → IsSettled firing.view v → w.size ≡ v.size → CpuChanges firing v call w →
      IsSettled firing.view w
  settled_changes v w call s same d =
      let st = changes_still firing v w call d in
      settled_of w (quiet_way v.size w.size v.lock w.lock st.lock.way (omega (
        arith,
        same,
      )) st.lock.still st.lock.goes (lock_quiet v s))
      (quiet_way v.size w.size v.low w.low st.low.way (omega (arith, same)) st.low.still st.low.goes (low_quiet v s))
      (still_closed v w call s d)

  -- what is put off until something is done first
  no_room_until : (more : ℕ) (v : CpuView R) (e : Refusal) → IsSettled firing.view v → WhyNoRoom firing.view more v e → IsUntil e
      → ⊥
  no_room_until more v why.Expanding s d u = elim d.3 [
    | inl lock ↦ not_false (firing.view v.lock).followed s.followed.0 lock
    | inr low ↦ not_false (firing.view v.low).followed s.followed.1 low
  ]
  no_room_until more v (why.Busy id) s d u = not_some v.removal id s.still d.2
  no_room_until more v why.Pending s d u = d
  no_room_until more v e s d u = absurd u

  not_reserved_until : (more : ℕ) (v w : CpuView R) (e : Refusal) → IsSettled firing.view w
      → WhyNotReserved firing.view more v w e →
      IsUntil e → ⊥
  not_reserved_until more v w why.Expanding s d u = no_room_until more w why.Expanding s d u
  not_reserved_until more v w (why.Busy id) s d u = no_room_until more w (why.Busy id) s d u
  not_reserved_until more v w why.Pending s d u = d
  not_reserved_until more v w e s d u = absurd u

  not_added_until : (id now : ℕ) (level : Level) (when : When) (v w : CpuView R) (e : Refusal) → IsSettled firing.view w →
      CpuChanges firing v (Add id level when now (Err e)) w → IsUntil e → ⊥
  not_added_until id now level when v w why.Expanding s d u = not_reserved_until 1 v w why.Expanding s d.3 u
  not_added_until id now level when v w (why.Busy own) s d u = not_reserved_until 1 v w (why.Busy own) s d.3 u
  not_added_until id now level when v w why.Pending s d u = not_reserved_until 1 v w why.Pending s d.3 u
  not_added_until id now level when v w e s d u = absurd u

  added_size : (id now : ℕ) (level : Level) (when : When) (v w : CpuView R) (e : Refusal) →
      CpuChanges firing v (Add id level when now (Err e)) w → w.size ≡ v.size
  added_size id now level when v w why.BadNow d = ap (λ (x : CpuView R). x.size) d.2
  added_size id now level when v w e (absent, early, looked, why_not) = looked.kept.size

  not_taken_until : (id : ℕ) (v w : CpuView R) (e : Refusal) → IsSettled firing.view v → WhyNotTaken firing id v e w → IsUntil e
      → ⊥
  not_taken_until id v w (why.Busy removed) s d u = not_some v.removal removed s.still d.1
  not_taken_until id v w why.Pending s d u = let a = s.seen id in let b = d.1 in omega (arith, a, b)
  not_taken_until id v w why.Expanding s d u = d
  not_taken_until id v w e s d u = absurd u

  not_begun_until : (id : ℕ) (v : CpuView R) (e : Refusal) → IsSettled firing.view v → WhyNotBegun id v e → IsUntil e → ⊥
  not_begun_until id v (why.Busy removed) s d u = not_some v.removal removed s.still d.1
  not_begun_until id v why.Pending s d u = d
  not_begun_until id v why.Expanding s d u = d
  not_begun_until id v e s d u = absurd u

  put_off : (v w : CpuView R) (call : CpuCall) → IsSettled firing.view v → CpuChanges firing v call w → IsPutOff call → ⊥
  put_off v w (Add id level when now (Err e)) s d u =
      not_added_until id now level when v w e
      (settled_changes v w (Add id level when now (Err e)) s (added_size id now level when v w e d) d) d u
  put_off v w (AskRoom more (Err e)) s d u =
      no_room_until more w e (settled_changes v w (AskRoom more (Err e)) s d.0.kept.size d) d.1 u
  put_off v w (Reserve more (Err e)) s d u =
      not_reserved_until more v w e (settled_changes v w (Reserve more (Err e)) s d.0.kept.size d) d.1 u
  put_off v w (TakeNow id (Err e)) s d u = not_taken_until id v w e s d u
  put_off v w (BeginRemove id (Err e)) s d u = not_begun_until id v e s d.0 u
  put_off v w (BeginRemove id (Ok (Kept kept))) s d u = opens_not id kept v w d.1 s
  put_off v w call s d u = absurd u

  -- a run each of whose steps makes no size smaller, and leaves a CPU of the same size settled where it is no fire
  module _ {S : Type 0} (cpu : S → CpuView R) (Step : S → CpuCall → S → Type 0)
      (grow : (s t : S) (call : CpuCall) → Step s call t → (cpu s).size ≤ (cpu t).size)
      (settle : (s t : S) (call : CpuCall) → IsSettled firing.view (cpu s) → IsNoFire call → (cpu t).size ≡ (cpu s).size
      → Step s call t → IsSettled firing.view (cpu t)) where
    pub steps_grow : (s t : S) (way : List CpuCall) → FoldsTo Step s way t → (cpu s).size ≤ (cpu t).size
    steps_grow s t [] run = (let e = ap (λ (x : S). (cpu x).size) run in omega (arith, e))
    steps_grow s t (call ∷ way) (m, d, rest) = (let a = grow s m call d in let b = steps_grow m t way rest in
        omega (arith, a, b))

    pub steps_settle : (s t : S) (way : List CpuCall) → IsSettled firing.view (cpu s) → All IsNoFire way
        → (cpu t).size ≡ (cpu s).size → FoldsTo Step s way t → IsSettled firing.view (cpu t)
    steps_settle s t [] h calm same run = subst (λ (x : S). IsSettled firing.view (cpu x)) run h
    steps_settle s t (call ∷ way) h calm same (m, d, rest) =
        let a = grow s m call d in let b = steps_grow m t way rest in
        steps_settle m t way (settle s m call h (calm 0 call (omega arith)) (omega (arith, a, b, same)) d)
        (λ k e low. calm (suc k) e (omega (arith, low))) (omega (arith, a, b, same)) rest

  module _ {C : Type 0} (handler : Calls C) (interrupts : Soft → ℕ → Result Ran SoftRefused → Running C R → Running C R → Type 0)
      (keep : KeepSettled firing interrupts) where
    abbrev One : Running C R → CpuCall → Running C R → Type 0
    One = CpuDoes handler firing interrupts

    abbrev Ones : Running C R → CpuCall → Running C R → Type 0
    Ones = CpuSteps handler firing interrupts

    quiet_grows : (s t : Running C R) (call : CpuCall) → CpuChanges firing s.cpu call t.cpu × (t.calls ≡ s.calls) →
        s.cpu.size ≤ t.cpu.size
    quiet_grows s t call d = (changes_still firing s.cpu t.cpu call d.0).grows

    -- no call makes the size smaller
    pub grows : (s t : Running C R) (call : CpuCall) → One s call t → s.cpu.size ≤ t.cpu.size
    grows s t (Fire now (Ok r)) d = (let e = d.1.size in omega (arith, e))
    grows s t (Fire now (Err e)) (inl (late, is, same)) = (let e = ap (λ (x : Running C R). x.cpu.size) same in omega (arith, e))
    grows s t (Fire now (Err e)) (inr (early, kept, f)) = (let e = kept.size in omega (arith, e))
    grows s t (SoftInterrupt soft budget answer) d = (let e = keep.sizes soft budget answer s t d in omega (arith, e))
    grows s t (Add own level when now answer) d = quiet_grows s t (Add own level when now answer) d
    grows s t (Place own level interval moment carried) d = quiet_grows s t (Place own level interval moment carried) d
    grows s t (Reprogram j moment answer) d = quiet_grows s t (Reprogram j moment answer) d
    grows s t (AskPending j answer) d = quiet_grows s t (AskPending j answer) d
    grows s t (AskTotals j answer) d = quiet_grows s t (AskTotals j answer) d
    grows s t (AskRoom more answer) d = quiet_grows s t (AskRoom more answer) d
    grows s t (Reserve more answer) d = quiet_grows s t (Reserve more answer) d
    grows s t (Widen more) d = quiet_grows s t (Widen more) d
    grows s t (BeginRemove j answer) d = quiet_grows s t (BeginRemove j answer) d
    grows s t (PollRemove answer) d = quiet_grows s t (PollRemove answer) d
    grows s t (TakeNow j answer) d = quiet_grows s t (TakeNow j answer) d
    grows s t (AskSettled answer) d = quiet_grows s t (AskSettled answer) d
    grows s t Suspend d = quiet_grows s t Suspend d
    grows s t Resume d = quiet_grows s t Resume d

    quiet_settled : (s t : Running C R) (call : CpuCall) → IsSettled firing.view s.cpu → t.cpu.size ≡ s.cpu.size →
        CpuChanges firing s.cpu call t.cpu × (t.calls ≡ s.calls) → IsSettled firing.view t.cpu
    quiet_settled s t call h same d = settled_changes s.cpu t.cpu call h same d.0

    pub settled_one : (s t : Running C R) (call : CpuCall) → IsSettled firing.view s.cpu → IsNoFire call → t.cpu.size ≡ s.cpu.size
        →
        One s call t → IsSettled firing.view t.cpu
    settled_one s t (Fire now answer) h calm same d = absurd calm
    settled_one s t (SoftInterrupt soft budget answer) h calm same d = keep.settles soft budget answer s t d h
    settled_one s t (Add own level when now answer) h calm same d = quiet_settled s t (Add own level when now answer) h same d
    settled_one s t (Place own level interval moment carried) h calm same d =
        quiet_settled s t (Place own level interval moment carried) h same d
    settled_one s t (Reprogram j moment answer) h calm same d = quiet_settled s t (Reprogram j moment answer) h same d
    settled_one s t (AskPending j answer) h calm same d = quiet_settled s t (AskPending j answer) h same d
    settled_one s t (AskTotals j answer) h calm same d = quiet_settled s t (AskTotals j answer) h same d
    settled_one s t (AskRoom more answer) h calm same d = quiet_settled s t (AskRoom more answer) h same d
    settled_one s t (Reserve more answer) h calm same d = quiet_settled s t (Reserve more answer) h same d
    settled_one s t (Widen more) h calm same d = quiet_settled s t (Widen more) h same d
    settled_one s t (BeginRemove j answer) h calm same d = quiet_settled s t (BeginRemove j answer) h same d
    settled_one s t (PollRemove answer) h calm same d = quiet_settled s t (PollRemove answer) h same d
    settled_one s t (TakeNow j answer) h calm same d = quiet_settled s t (TakeNow j answer) h same d
    settled_one s t (AskSettled answer) h calm same d = quiet_settled s t (AskSettled answer) h same d
    settled_one s t Suspend h calm same d = quiet_settled s t Suspend h same d
    settled_one s t Resume h calm same d = quiet_settled s t Resume h same d

    pub run_grows : (s t : Running C R) (way : List CpuCall) → FoldsTo Ones s way t → s.cpu.size ≤ t.cpu.size
    run_grows = steps_grow (λ s. s.cpu) Ones (λ s t call d. grows s t call d.0)
        (λ s t call h calm same d. settled_one s t call h calm same d.0)

    pub settled_run : (s t : Running C R) (way : List CpuCall) → IsSettled firing.view s.cpu → All IsNoFire way →
        t.cpu.size ≡ s.cpu.size → FoldsTo Ones s way t → IsSettled firing.view t.cpu
    settled_run = steps_settle (λ s. s.cpu) Ones (λ s t call d. grows s t call d.0)
        (λ s t call h calm same d. settled_one s t call h calm same d.0)

    pub never_put_off : (s t : Running C R) (call : CpuCall) → IsSettled firing.view s.cpu → One s call t → IsPutOff call → ⊥
    never_put_off s t (Add own level when now (Err e)) h d u = put_off s.cpu t.cpu (Add own level when now (Err e)) h d.0 u
    never_put_off s t (AskRoom more (Err e)) h d u = put_off s.cpu t.cpu (AskRoom more (Err e)) h d.0 u
    never_put_off s t (Reserve more (Err e)) h d u = put_off s.cpu t.cpu (Reserve more (Err e)) h d.0 u
    never_put_off s t (TakeNow j (Err e)) h d u = put_off s.cpu t.cpu (TakeNow j (Err e)) h d.0 u
    never_put_off s t (BeginRemove j (Err e)) h d u = put_off s.cpu t.cpu (BeginRemove j (Err e)) h d.0 u
    never_put_off s t (BeginRemove j (Ok (Kept kept))) h d u = put_off s.cpu t.cpu (BeginRemove j (Ok (Kept kept))) h d.0 u
    never_put_off s t call h d u = absurd u
