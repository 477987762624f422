-- What every call but a fire and a soft interrupt does at the two ends: it raises nothing, and switches banks only where the
-- size grows.
use Rattle.std.proofs.Common.{◌≡◌, ℕ, ◌+◌, ◌<◌, ◌≤◌, ◌^◌, nat_le, Bool, true, false, cond, List, [], ◌∷◌, ◌++◌, map, length, Some}
use Rattle.std.proofs.Common.{None, refl, sym, ap, ◌∙◌, arith, inl, inr}
use Rattle.std.specs.Prelude.{Ok, Err}
use Rattle.std.proofs.lemmas.Bool.{cases_lt}
use Rattle.std.proofs.lemmas.Bool.Decides.{nat_tests}
use Rattle.cyc_types.specs.declared.Raise.{Ghosts as Raise}
use Rattle.cyc_types.specs.Firing.{FiringCall, Admits, Loads, Raises, Marks, Polls, Expands, Looks}
use Rattle.cyc_types.specs.Runs.{Goes, Taught, raised_by, lost_by}
use Rattle.cyc_types.specs.declared.level.Level.{Level}
use Rattle.cyc_types.specs.declared.level.Level.TheVariants.{Low, Lock}
use Rattle.cyc_types.specs.declared.moment.When.{When}
use Rattle.cyc_types.specs.declared.refusal.Refusal.{Refusal}
use Rattle.cyc_types.specs.declared.refusal.Refusal.TheVariants as why
use Rattle.cyc_types.proofs.Runs.{goes_on}
use Rattle.cyc_cpu.specs.declared.removing.Removal.TheVariants.{Done, Kept}
use Rattle.cyc_cpu.specs.Acts.{same_level}
use Rattle.cyc_cpu.specs.Quiet.{OnlyLooks, LoadsThenLooks}
use Rattle.cyc_cpu.specs.Removal.{calls_at, Leaves}
use Rattle.cyc_cpu.specs.Cpu.{CpuView, Looked, Asks, Reserves, Widens, Places, size_for, bank_for}
use Rattle.cyc_cpu.specs.Moving.{Inquires, WhyNotTaken}
use Rattle.cyc_cpu.specs.Calls.{Suspend, Resume}
use Rattle.cyc_cpu.specs.Calls.{CpuCall, CpuChanges, Fire, SoftInterrupt, Add, Place, Reprogram, AskPending, AskTotals, AskRoom}
use Rattle.cyc_cpu.specs.Calls.{Reserve, Widen, BeginRemove, PollRemove, TakeNow, AskSettled}
use Rattle.cyc_cpu.specs.Rows.{Cyclic}

-- a call that raises nothing, and switches banks only where the size grows from a to b
abbrev pub IsStill : ℕ → ℕ → FiringCall → Type 0
IsStill a b (Raises id answer) = ⊥
IsStill a b (Expands bank) = a < b
IsStill a b (Admits id index) = Unit {0}
IsStill a b (Loads id pend) = Unit {0}
IsStill a b (Marks id pend) = Unit {0}
IsStill a b (Polls id answer) = Unit {0}
IsStill a b (Looks answer) = Unit {0}

abbrev pub AreStill : ℕ → ℕ → List FiringCall → Type 0
AreStill a b [] = Unit {0}
AreStill a b (call ∷ way) = IsStill a b call × AreStill a b way

call_wider : (a b a' b' : ℕ) (call : FiringCall) → a' ≤ a → b ≤ b' → IsStill a b call → IsStill a' b' call
call_wider a b a' b' (Raises id answer) low high h = h
call_wider a b a' b' (Expands bank) low high h = omega (arith, low, high, h)
call_wider a b a' b' (Admits id index) low high h = tt
call_wider a b a' b' (Loads id pend) low high h = tt
call_wider a b a' b' (Marks id pend) low high h = tt
call_wider a b a' b' (Polls id answer) low high h = tt
call_wider a b a' b' (Looks answer) low high h = tt

wider : (a b a' b' : ℕ) (way : List FiringCall) → a' ≤ a → b ≤ b' → AreStill a b way → AreStill a' b' way
wider a b a' b' [] low high h = tt
wider a b a' b' (call ∷ way) low high h = (call_wider a b a' b' call low high h.0, wider a b a' b' way low high h.1)

joined : (a b : ℕ) (xs ys : List FiringCall) → AreStill a b xs → AreStill a b ys → AreStill a b (xs ++ ys)
joined a b [] ys h k = k
joined a b (x ∷ xs) ys h k = (h.0, joined a b xs ys h.1 k)

looks_still : (a b : ℕ) (answers : List Bool) → AreStill a b (map Looks answers)
looks_still a b [] = tt
looks_still a b (x ∷ xs) = (tt, looks_still a b xs)

loads_still : (a b : ℕ) (asked : List (ℕ × ℕ)) → AreStill a b (map (λ q. Loads q.0 q.1) asked)
loads_still a b [] = tt
loads_still a b (x ∷ xs) = (tt, loads_still a b xs)

at_still : (a b : ℕ) (here : Bool) (way : List FiringCall) → AreStill a b way → AreStill a b (cond here way [])
at_still a b true way h = h
at_still a b false way h = tt

-- such calls raise nothing, and so lose nothing
pub still_raises : (a b id : ℕ) (way : List FiringCall) → AreStill a b way → (raised_by id way ≡ 0) × (lost_by id way ≡ 0)
still_raises a b id [] h = (refl, refl)
still_raises a b id (Raises j answer ∷ way) h = absurd h.0
still_raises a b id (Admits j index ∷ way) h = let r = still_raises a b id way h.1 in let x = r.0 in let y = r.1 in
    (omega (arith, x), omega (arith, y))
still_raises a b id (Loads j index ∷ way) h = let r = still_raises a b id way h.1 in let x = r.0 in let y = r.1 in
    (omega (arith, x), omega (arith, y))
still_raises a b id (Marks j index ∷ way) h = let r = still_raises a b id way h.1 in let x = r.0 in let y = r.1 in
    (omega (arith, x), omega (arith, y))
still_raises a b id (Polls j answer ∷ way) h = let r = still_raises a b id way h.1 in let x = r.0 in let y = r.1 in
    (omega (arith, x), omega (arith, y))
still_raises a b id (Expands bank ∷ way) h = let r = still_raises a b id way h.1 in let x = r.0 in let y = r.1 in
    (omega (arith, x), omega (arith, y))
still_raises a b id (Looks answer ∷ way) h = let r = still_raises a b id way h.1 in let x = r.0 in let y = r.1 in
    (omega (arith, x), omega (arith, y))

-- a size that has an index for each is no smaller than one that had not
grows_for : (size n w : ℕ) → w ≡ size_for size n → n ≤ w → size ≤ w
grows_for size n w is enough = elim (cases_lt size n) [
  | inl less ↦ omega (arith, less, enough)
  | inr more ↦ (let yes : nat_le n size ≡ true = grind (arith, nat_tests) in
      let e : size_for size n ≡ size = ap (λ b. cond b size (2 ^ bank_for n)) yes in omega (arith, is, e))
]

module _ {R : Type 0} (firing : Raise R) where
  -- the calls of one end
  pub record Still (a b : ℕ) (e f : R) : Type 0 where
    pub way : List FiringCall
    pub goes : Goes firing e way f
    pub still : AreStill a b way

  still_none : (a b : ℕ) (e f : R) → f ≡ e → Still a b e f
  still_none a b e f is = record { way = []; goes = sym is; still = tt }

  still_looks : (a b : ℕ) (e f : R) → OnlyLooks firing e f → Still a b e f
  still_looks a b e f (answers, goes) = record { way = map Looks answers; goes = goes; still = looks_still a b answers }

  still_at : (a b : ℕ) (soft own : Level) (way : List FiringCall) (e f : R) → AreStill a b way →
      Goes firing e (calls_at soft own way) f → Still a b e f
  still_at a b soft own way e f h goes = record {
    way = calls_at soft own way;
    goes = goes;
    still = at_still a b (same_level soft own) way h;
  }

  still_on : (a b c : ℕ) (e f g : R) → a ≤ b → b ≤ c → Still a b e f → Still b c f g → Still a c e g
  still_on a b c e f g low high x y = record {
    way = x.way ++ y.way;
    goes = goes_on firing e f g x.way y.way x.goes y.goes;
    still = joined a c x.way y.way (wider a b a c x.way (omega arith) high x.still)
        (wider b c a c y.way low (omega arith) y.still);
  }

  -- both ends of a CPU, whose size doesn't shrink
  pub record Stills (v w : CpuView R) : Type 0 where
    pub lock : Still v.size w.size v.lock w.lock
    pub low : Still v.size w.size v.low w.low
    pub grows : v.size ≤ w.size
    pub most : w.most ≡ v.most

  stills_on : (u v w : CpuView R) → Stills u v → Stills v w → Stills u w
  stills_on u v w a b = record {
    lock = still_on u.size v.size w.size u.lock v.lock w.lock a.grows b.grows a.lock b.lock;
    low = still_on u.size v.size w.size u.low v.low w.low a.grows b.grows a.low b.low;
    grows = (let x = a.grows in let y = b.grows in omega (arith, x, y));
    most = b.most ∙ a.most;
  }

  stills_same : (v w : CpuView R) → w ≡ v → Stills v w
  stills_same v w is = record {
    lock = still_none v.size w.size v.lock w.lock (ap (λ (x : CpuView R). x.lock) is);
    low = still_none v.size w.size v.low w.low (ap (λ (x : CpuView R). x.low) is);
    grows = (let e = ap (λ (x : CpuView R). x.size) is in omega (arith, e));
    most = ap (λ (x : CpuView R). x.most) is;
  }

  stills_looked : (v w : CpuView R) → Looked firing v w → Stills v w
  stills_looked v w l = record {
    lock = still_looks v.size w.size v.lock w.lock l.lock;
    low = still_looks v.size w.size v.low w.low l.low;
    grows = (let e = l.kept.size in omega (arith, e));
    most = l.kept.most;
  }

  stills_reserved : (more : ℕ) (v w : CpuView R) → Reserves firing more v w → Stills v w
  stills_reserved more v w l = record {
    lock = still_looks v.size w.size v.lock w.lock l.lock;
    low = still_looks v.size w.size v.low w.low l.low;
    grows = (let e = l.size in omega (arith, e));
    most = l.most;
  }

  stills_asked : (id n : ℕ) (v w : CpuView R) → Asks firing id n v w → Stills v w
  stills_asked id n v w a = record {
    lock = still_at v.size w.size Lock a.cyclic.timer.level (Loads id n ∷ []) v.lock w.lock (tt, tt) a.lock;
    low = still_at v.size w.size Low a.cyclic.timer.level (Loads id n ∷ []) v.low w.low (tt, tt) a.low;
    grows = (let e = a.kept.size in omega (arith, e));
    most = a.kept.most;
  }

  still_grown : (n bank a b : ℕ) (e f : R) → n ≤ b → (n ≤ a → f ≡ e) → (a < n → Taught firing e (Expands bank) f) →
      Still a b e f
  still_grown n bank a b e f enough kept grown = elim (cases_lt a n) [
    | inl less ↦ record { way = Expands bank ∷ []; goes = (f, grown less, refl); still = (omega (arith, less, enough), tt) }
    | inr more ↦ still_none a b e f (kept more)
  ]

  stills_widened : (more : ℕ) (v w : CpuView R) → Widens firing more v w → Stills v w
  stills_widened more v w d = record {
    lock = still_grown (length v.cyclics + more) _ v.size w.size v.lock w.lock d.enough d.kept_lock d.lock;
    low = still_grown (length v.cyclics + more) _ v.size w.size v.low w.low d.enough d.kept_low d.low;
    grows = grows_for v.size (length v.cyclics + more) w.size d.size d.enough;
    most = d.most;
  }

  stills_placed : (c : Cyclic) (v w : CpuView R) → Places firing c v w → Stills v w
  stills_placed c v w p = record {
    lock = still_at v.size w.size Lock c.timer.level (Admits c.timer.id p.index ∷ []) v.lock w.lock (tt, tt) p.lock;
    low = still_at v.size w.size Low c.timer.level (Admits c.timer.id p.index ∷ []) v.low w.low (tt, tt) p.low;
    grows = (let e = p.kept.size in omega (arith, e));
    most = p.kept.most;
  }

  stills_left : (id : ℕ) (way : List FiringCall) (c : Cyclic) (v w : CpuView R) → ((a b : ℕ) → AreStill a b way) →
      Leaves firing id way c v w → Stills v w
  stills_left id way c v w still l = record {
    lock = still_at v.size w.size Lock c.timer.level way v.lock w.lock (still v.size w.size) l.goes.0;
    low = still_at v.size w.size Low c.timer.level way v.low w.low (still v.size w.size) l.goes.1;
    grows = (let e = l.size in omega (arith, e));
    most = l.most;
  }

  still_inquired : (a b : ℕ) (e f : R) → LoadsThenLooks firing e f → Still a b e f
  still_inquired a b e g (f, (asked, loads), (answers, looks)) = record {
    way = map (λ q. Loads q.0 q.1) asked ++ map Looks answers;
    goes = goes_on firing e f g (map (λ q. Loads q.0 q.1) asked) (map Looks answers) loads looks;
    still = joined a b (map (λ q. Loads q.0 q.1) asked) (map Looks answers) (loads_still a b asked) (looks_still a b answers);
  }

  stills_inquired : (v w : CpuView R) → Inquires firing v w → Stills v w
  stills_inquired v w i = record {
    lock = still_inquired v.size w.size v.lock w.lock i.lock;
    low = still_inquired v.size w.size v.low w.low i.low;
    grows = (let e = i.kept.size in omega (arith, e));
    most = i.kept.most;
  }

  not_taken_still : (id : ℕ) (v w : CpuView R) (e : Refusal) → WhyNotTaken firing id v e w → Stills v w
  not_taken_still id v w why.NoCyclic d = stills_same v w d.1
  not_taken_still id v w (why.Busy removed) d = stills_same v w d.2
  not_taken_still id v w why.Pending (still, some, n, more, a) = stills_asked id n v w a
  not_taken_still id v w e d = absurd d

  not_added_still : (id now : ℕ) (level : Level) (when : When) (v w : CpuView R) (e : Refusal) →
      CpuChanges firing v (Add id level when now (Err e)) w → Stills v w
  not_added_still id now level when v w why.BadNow d = stills_same v w d.2
  not_added_still id now level when v w e d = stills_looked v w d.2

  -- the mark of a CPU says nothing of its ends
  stills_marked : (mark : Bool) (v w : CpuView R) → w ≡ record v { suspended = mark } → Stills v w
  stills_marked mark v w is = record {
    lock = still_none v.size w.size v.lock w.lock (ap (λ (x : CpuView R). x.lock) is);
    low = still_none v.size w.size v.low w.low (ap (λ (x : CpuView R). x.low) is);
    grows = (let e = ap (λ (x : CpuView R). x.size) is in omega (arith, e));
    most = ap (λ (x : CpuView R). x.most) is;
  }

  -- every call but a fire and a soft interrupt
  pub changes_still : (v w : CpuView R) (call : CpuCall) → CpuChanges firing v call w → Stills v w
  changes_still v w (Add id level when now (Ok done)) (absent, early, a) =
      stills_on v a.reserved w (stills_reserved 1 v a.reserved a.reserves)
      (stills_on a.reserved a.widened w (stills_widened 1 a.reserved a.widened a.widens)
      (stills_placed _ a.widened w a.enters))
  changes_still v w (Add id level when now (Err e)) d = not_added_still id now level when v w e d
  changes_still v w (Place id level interval moment carried) d = stills_placed _ v w d.1
  changes_still v w (Reprogram id moment (Ok done)) (k, c, here, named, shut, is) = record {
    lock = still_none v.size w.size v.lock w.lock (ap (λ (x : CpuView R). x.lock) is);
    low = still_none v.size w.size v.low w.low (ap (λ (x : CpuView R). x.low) is);
    grows = (let e = ap (λ (x : CpuView R). x.size) is in omega (arith, e));
    most = ap (λ (x : CpuView R). x.most) is;
  }
  changes_still v w (Reprogram id moment (Err e)) d = stills_same v w d.2
  changes_still v w (AskPending id (Some n)) d = stills_asked id n v w d.0
  changes_still v w (AskPending id None) d = stills_same v w d.1
  changes_still v w (AskTotals id (Some t)) d = stills_asked id t.pending v w d.0
  changes_still v w (AskTotals id None) d = stills_same v w d.1
  changes_still v w (AskRoom more (Ok done)) d = stills_looked v w d.0
  changes_still v w (AskRoom more (Err e)) d = stills_looked v w d.0
  changes_still v w (Reserve more (Ok done)) d = stills_reserved more v w d.0
  changes_still v w (Reserve more (Err e)) d = stills_looked v w d.0
  changes_still v w (Widen more) d = stills_widened more v w d.1
  changes_still v w (BeginRemove id (Ok (Done receipt))) (
    still,
    (
      c,
      counts,
      is,
      polled,
      l,
    ),
  ) = stills_left id _ c v w (λ a b. (tt, (tt, tt))) l
  changes_still v w (BeginRemove id (Ok (Kept kept))) (still, o) = record {
    lock = still_at v.size w.size Lock o.cyclic.timer.level (Marks id kept ∷ []) v.lock w.lock (tt, tt) o.goes.0;
    low = still_at v.size w.size Low o.cyclic.timer.level (Marks id kept ∷ []) v.low w.low (tt, tt) o.goes.1;
    grows = (let e = o.size in omega (arith, e));
    most = o.most;
  }
  changes_still v w (BeginRemove id (Err e)) d = stills_same v w d.1
  changes_still v w (PollRemove (Some receipt)) e = stills_left receipt.id _ e.cyclic v w (λ a b. (tt, tt)) e.leaves
  changes_still v w (PollRemove None) (inl d) = stills_same v w d.1
  changes_still v w (PollRemove None) (inr (id, is_open, e)) = record {
    lock = still_at v.size w.size Lock e.cyclic.timer.level (Polls id None ∷ []) v.lock w.lock (tt, tt) e.goes.0;
    low = still_at v.size w.size Low e.cyclic.timer.level (Polls id None ∷ []) v.low w.low (tt, tt) e.goes.1;
    grows = (let q = e.kept.size in omega (arith, q));
    most = e.kept.most;
  }
  changes_still v w (TakeNow id (Ok taken)) (still, (c, counts, is, polled, l)) = stills_left id _ c v w (λ a b. (
    tt,
    (tt, (tt, tt)),
  )) l
  changes_still v w (TakeNow id (Err e)) d = not_taken_still id v w e d
  changes_still v w (AskSettled true) d = stills_inquired v w d.0
  changes_still v w (AskSettled false) d = stills_inquired v w d.0
  changes_still v w Suspend d = stills_marked true v w d
  changes_still v w Resume d = stills_marked false v w d
  changes_still v w (Fire now answer) d = absurd d
  changes_still v w (SoftInterrupt soft budget answer) d = absurd d
