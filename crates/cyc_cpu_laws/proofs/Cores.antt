-- What calls on a CPU add up to where no other thread uses its levels, and soft interrupts are among the calls.
use Rattle.std.proofs.Common.{◌≡◌, ℕ, ◌+◌, List, [], ◌∷◌, ◌++◌, map, length, length-append, refl, sym, ap}
use Rattle.std.proofs.Common.{subst, ◌∙◌, arith}
use Rattle.std.specs.Prelude.{Bool, true, false, Result, Ok, Err}
use Rattle.std.specs.List.{FoldsTo}
use Rattle.std.proofs.lemmas.List.{length-map, append-nil}
use Rattle.cyc_types.specs.declared.Calls.{Ghosts as Calls}
use Rattle.cyc_types.specs.Counting.{times}
use Rattle.cyc_types.specs.Draining.{DrainCall}
use Rattle.cyc_types.specs.Firing.{FiringCall}
use Rattle.cyc_types.specs.Levels.{as_level, handler_at}
use Rattle.cyc_types.specs.Runs.{Goes, DrainGoes, raised_by, lost_by, finishes_of, finished_by}
use Rattle.cyc_types.specs.declared.level.Level.{Level}
use Rattle.cyc_types.specs.declared.level.Level.TheVariants as level
use Rattle.cyc_types.specs.declared.level.Soft.{Soft}
use Rattle.cyc_types.specs.declared.level.Soft.TheVariants.{Low, Lock}
use Rattle.cyc_types.proofs.Runs.{folds_on, raised_on, lost_on, finishes_on, finished_on}
use Rattle.cyc_cpu.specs.Tables.{Tables}
use Rattle.cyc_soft.specs.declared.Ran.{Ran}
use Rattle.cyc_soft.specs.declared.SoftRefused.{SoftRefused}
use Rattle.cyc_soft.specs.Serving.{Served, Serves, soft_side, ids, last_look, way_of}
use Rattle.cyc_soft.proofs.Rounds.{way_finishes, look_finishes}
use Rattle.cyc_cpu.specs.Shares.{share}
use Rattle.cyc_cpu.specs.Rows.{timers}
use Rattle.cyc_cpu.specs.Cpu.{Running}
use Rattle.cyc_cpu.specs.Laws.{IsLawful}
use Rattle.cyc_cpu.specs.Soft.{raise_tables, drain_tables, held_at, firing_at, end_at, SoftKept, Interrupts}
use Rattle.cyc_cpu.specs.Calls.{Suspend, Resume}
use Rattle.cyc_cpu.specs.Calls.{
  CpuCall,
  CpuDoes,
  no_interrupts,
  Fire,
  SoftInterrupt,
  Add,
  Place,
  Reprogram,
  AskPending,
  AskTotals,
}
use Rattle.cyc_cpu.specs.Calls.{AskRoom, Reserve, Widen, BeginRemove, PollRemove, TakeNow, AskSettled}
use Rattle.cyc_cpu.proofs.Softs.{serving_keeps}
use Rattle.cyc_cpu_laws.specs.Runs.{CpuSteps}
use Rattle.cyc_cpu_laws.specs.Passing.{Passes}
use Rattle.cyc_cpu_laws.specs.Accounts.{Account, no_call_made, both, calls_told, account_of, account_in}
use Rattle.cyc_cpu.specs.Carried.{expired_of, lost_of}
use Rattle.cyc_cpu_laws.specs.Cores.{LevelCall, OfFiring, OfSoft, LevelDoes, firing_calls, soft_calls, CorePasses, CoreProceeds}
use Rattle.cyc_cpu_laws.proofs.Ways.{passes_one, passes_ceiling}
use Rattle.cyc_cpu_laws.proofs.Accounting.{none_made, limits_none, limits_on, proceeds_one}

-- the calls of one side are its own
firing_of_firing : (way : List FiringCall) → firing_calls (map OfFiring way) ≡ way
firing_of_firing [] = refl
firing_of_firing (call ∷ way) = ap (λ xs. call ∷ xs) (firing_of_firing way)

soft_of_firing : (way : List FiringCall) → soft_calls (map OfFiring way) ≡ []
soft_of_firing [] = refl
soft_of_firing (call ∷ way) = soft_of_firing way

firing_of_soft : (way : List DrainCall) → firing_calls (map OfSoft way) ≡ []
firing_of_soft [] = refl
firing_of_soft (call ∷ way) = firing_of_soft way

soft_of_soft : (way : List DrainCall) → soft_calls (map OfSoft way) ≡ way
soft_of_soft [] = refl
soft_of_soft (call ∷ way) = ap (λ xs. call ∷ xs) (soft_of_soft way)

firing_on : (xs ys : List LevelCall) → firing_calls (xs ++ ys) ≡ firing_calls xs ++ firing_calls ys
firing_on [] ys = refl
firing_on (OfFiring call ∷ xs) ys = ap (λ zs. call ∷ zs) (firing_on xs ys)
firing_on (OfSoft call ∷ xs) ys = firing_on xs ys

soft_on : (xs ys : List LevelCall) → soft_calls (xs ++ ys) ≡ soft_calls xs ++ soft_calls ys
soft_on [] ys = refl
soft_on (OfFiring call ∷ xs) ys = soft_on xs ys
soft_on (OfSoft call ∷ xs) ys = ap (λ zs. call ∷ zs) (soft_on xs ys)

firing_goes : (a b : Tables) (way : List FiringCall) → Goes raise_tables a way b → FoldsTo LevelDoes a (map OfFiring way) b
firing_goes a b [] goes = goes
firing_goes a b (call ∷ way) (m, first, rest) = (m, first, firing_goes m b way rest)

soft_goes : (a b : Tables) (way : List DrainCall) → DrainGoes drain_tables a way b → FoldsTo LevelDoes a (map OfSoft way) b
soft_goes a b [] goes = goes
soft_goes a b (call ∷ way) (m, first, rest) = (m, first, soft_goes m b way rest)

core_none : (a b : Tables) → b ≡ a → CorePasses (λ id. 0) (λ id. 0) (λ id. 0) 0 a b
core_none a b is = record {
  way = [];
  goes = sym is;
  raises = λ id. refl;
  losses = λ id. refl;
  finishes = λ id. refl;
  together = refl;
}

core_on : (r l f r' l' f' : ℕ → ℕ) (n n' : ℕ) (a b c : Tables) → CorePasses r l f n a b → CorePasses r' l' f' n' b c →
    CorePasses (λ id. r id + r' id) (λ id. l id + l' id) (λ id. f id + f' id) (n + n') a c
core_on r l f r' l' f' n n' a b c x y =
    let firing = firing_on x.way y.way in let soft = soft_on x.way y.way in
    let finished = ap finishes_of soft ∙ finishes_on (soft_calls x.way) (soft_calls y.way) in
    record {
      way = x.way ++ y.way;
      goes = folds_on LevelDoes a x.way b y.way c x.goes y.goes;
      raises = λ id. (let e = ap (raised_by id) firing in let s = raised_on id (firing_calls x.way) (firing_calls y.way) in
          let i = x.raises id in let j = y.raises id in omega (arith, e, s, i, j));
      losses = λ id. (let e = ap (lost_by id) firing in let s = lost_on id (firing_calls x.way) (firing_calls y.way) in
          let i = x.losses id in let j = y.losses id in omega (arith, e, s, i, j));
      finishes = λ id. (let e = ap (finished_by id) soft in let s = finished_on id (soft_calls x.way) (soft_calls y.way) in
          let i = x.finishes id in let j = y.finishes id in omega (arith, e, s, i, j));
      together = (let e = ap length finished in let i = x.together in let j = y.together in
          let s = length-append (finishes_of (soft_calls x.way)) (finishes_of (soft_calls y.way)) in omega (arith, e, s, i, j));
    }

-- calls of the firing side alone
core_firing : (r l : ℕ → ℕ) (a b : Tables) → Passes raise_tables r l a b → CorePasses r l (λ id. 0) 0 a b
core_firing r l a b p =
    let firing = firing_of_firing p.way in let soft = soft_of_firing p.way in
    record {
      way = map OfFiring p.way;
      goes = firing_goes a b p.way p.goes;
      raises = λ id. ap (raised_by id) firing ∙ p.raises id;
      losses = λ id. ap (lost_by id) firing ∙ p.losses id;
      finishes = λ id. ap (finished_by id) soft;
      together = ap (λ xs. length (finishes_of xs)) soft;
    }

-- calls of the soft side alone
core_soft : (a b : Tables) (way : List DrainCall) → DrainGoes drain_tables a way b →
    CorePasses (λ id. 0) (λ id. 0) (λ id. finished_by id way) (length (finishes_of way)) a b
core_soft a b way goes =
    let firing = firing_of_soft way in let soft = soft_of_soft way in
    record {
      way = map OfSoft way;
      goes = soft_goes a b way goes;
      raises = λ id. ap (raised_by id) firing;
      losses = λ id. ap (lost_by id) firing;
      finishes = λ id. ap (finished_by id) soft;
      together = ap (λ xs. length (finishes_of xs)) soft;
    }

-- the same with other names for its numbers
core_as : (r l f r' l' f' : ℕ → ℕ) (n n' : ℕ) (a b : Tables) → ((id : ℕ) → r id ≡ r' id) → ((id : ℕ) → l id ≡ l' id) →
    ((id : ℕ) → f id ≡ f' id) → n ≡ n' → CorePasses r l f n a b → CorePasses r' l' f' n' a b
core_as r l f r' l' f' n n' a b sr sl sf sn p = record {
  way = p.way;
  goes = p.goes;
  raises = λ id. p.raises id ∙ sr id;
  losses = λ id. p.losses id ∙ sl id;
  finishes = λ id. p.finishes id ∙ sf id;
  together = p.together ∙ sn;
}

-- no call changes the ceiling
calls_ceiling : (a b : Tables) (way : List LevelCall) → FoldsTo LevelDoes a way b → (firing_at b).ceiling ≡ (firing_at a).ceiling
calls_ceiling a b [] goes = ap (λ (x : Tables). (firing_at x).ceiling) (sym goes)
calls_ceiling a b (OfFiring call ∷ way) (m, first, rest) =
    calls_ceiling m b way rest ∙ passes_ceiling raise_tables _ _ a m (passes_one raise_tables a m call first)
calls_ceiling a b (OfSoft call ∷ way) (m, first, rest) =
    calls_ceiling m b way rest ∙ (serving_keeps a m (call ∷ []) (m, first, refl)).ceiling

pub last_finishes : (idle : Bool) → finishes_of (last_look idle) ≡ []
last_finishes true = refl
last_finishes false = refl

module _ {C : Type 0} (handler : Calls C) where
  pub core_proceeds_none : (s : Running C Tables) → CoreProceeds handler.count no_call_made s s
  core_proceeds_none s = record {
    lock_lost = λ id. 0;
    low_lost = λ id. 0;
    lock_made = λ id. 0;
    low_made = λ id. 0;
    lock = core_none s.cpu.lock s.cpu.lock refl;
    low = core_none s.cpu.low s.cpu.low refl;
    called = λ id. omega arith;
    expired = λ id. omega arith;
    lost = λ id. omega arith;
    limits = limits_none firing_at s.cpu;
  }

  pub core_proceeds_on : (a b : Account) (s t u : Running C Tables) → CoreProceeds handler.count a s t
      → CoreProceeds handler.count b t u → CoreProceeds handler.count (both a b) s u
  core_proceeds_on a b s t u p q = record {
    lock_lost = λ id. p.lock_lost id + q.lock_lost id;
    low_lost = λ id. p.low_lost id + q.low_lost id;
    lock_made = λ id. p.lock_made id + q.lock_made id;
    low_made = λ id. p.low_made id + q.low_made id;
    lock = core_on _ _ _ _ _ _ _ _ s.cpu.lock t.cpu.lock u.cpu.lock p.lock q.lock;
    low = core_on _ _ _ _ _ _ _ _ s.cpu.low t.cpu.low u.cpu.low p.low q.low;
    called = λ id. (let x = p.called id in let y = q.called id in omega (arith, x, y));
    expired = λ id. (let x = p.expired id in let y = q.expired id in omega (arith, x, y));
    lost = λ id. (let x = p.lost id in let y = q.lost id in omega (arith, x, y));
    limits = limits_on firing_at s.cpu t.cpu u.cpu p.limits q.limits;
  }

  -- a call that is no soft interrupt
  no_interrupt : (s t : Running C Tables) (call : CpuCall) → ((own : Level) → 0 ≡ (account_of call s.cpu.cyclics).served own) →
      IsLawful firing_at s.cpu → CpuDoes handler raise_tables no_interrupts s call t →
      CoreProceeds handler.count (account_of call s.cpu.cyclics) s t
  no_interrupt s t call none law d =
      let p = proceeds_one handler raise_tables s t call law d in
      record {
        lock_lost = p.lock_lost;
        low_lost = p.low_lost;
        lock_made = λ id. 0;
        low_made = λ id. 0;
        lock = core_as _ _ _ _ _ _ _ _ s.cpu.lock t.cpu.lock (λ id. refl) (λ id. refl) (λ id. refl) (none level.Lock)
            (core_firing _ p.lock_lost s.cpu.lock t.cpu.lock p.lock);
        low = core_as _ _ _ _ _ _ _ _ s.cpu.low t.cpu.low (λ id. refl) (λ id. refl) (λ id. refl) (none level.Low)
            (core_firing _ p.low_lost s.cpu.low t.cpu.low p.low);
        called = λ id. (let x = p.called id in omega (arith, x));
        expired = p.expired;
        lost = p.lost;
        limits = p.limits;
      }

  -- a level whose soft interrupt made these calls
  served_level : (own : Level) (a b : Tables) (n : ℕ) (calls calls' : C) (ran : List Served) (rest : List DrainCall) →
      Serves drain_tables (handler_at handler own) (soft_side a calls) ran rest (soft_side b calls')
      → finishes_of rest ≡ [] → length ran ≡ n →
      CorePasses (λ id. 0) (λ id. 0) (λ id. times id (ids ran)) n a b
  served_level own a b n calls calls' ran rest serves none long =
      let made = way_finishes (held_at a) ran rest ∙ ap (λ xs. ids ran ++ xs) none ∙ append-nil (ids ran) in
      core_as _ _ _ _ _ _ _ n a b (λ id. refl) (λ id. refl) (λ id. ap (times id) made)
      (ap length made ∙ length-map ran (λ (x : Served). x.id) ∙ long)
      (core_soft a b (way_of (held_at a) ran rest) serves.way)

  interrupted : (soft : Soft) (budget : ℕ) (answer : Result Ran SoftRefused) (s t : Running C Tables) (at : C)
      (ran : List Served) (rest : List DrainCall) →
      Serves drain_tables (handler_at handler (as_level soft)) (soft_side (end_at soft s.cpu) s.calls) ran rest
      (soft_side (end_at soft t.cpu) at) →
      finishes_of rest ≡ [] → length ran ≡ calls_told answer → ((q : ℕ) → handler.count t.calls q ≡ handler.count at q) →
      SoftKept soft s.cpu t.cpu → CoreProceeds handler.count (account_of (SoftInterrupt soft budget answer) s.cpu.cyclics) s t
  interrupted Low budget answer s t at ran rest serves none long same kept =
      let zero : (own : Level) (id : ℕ) → 0 ≡ share own (timers s.cpu.cyclics) [] id =
      λ own id. sym (none_made own (timers s.cpu.cyclics) id) in
      let low = served_level level.Low s.cpu.low t.cpu.low (calls_told answer) s.calls at ran rest serves none long in
      record {
        lock_lost = λ id. 0;
        low_lost = λ id. 0;
        lock_made = λ id. 0;
        low_made = λ id. times id (ids ran);
        lock = core_as _ _ _ _ _ _ 0 0 s.cpu.lock t.cpu.lock (zero level.Lock) (λ id. refl) (λ id. refl) refl
            (core_none s.cpu.lock t.cpu.lock kept.beside);
        low = core_as _ _ _ _ _ _ _ _ s.cpu.low t.cpu.low (zero level.Low) (λ id. refl) (λ id. refl) refl low;
        called = λ id. (let x = same id in let y = serves.counted id in let z = zero level.High id in omega (arith, x, y, z));
        expired = λ id. (let e = ap (expired_of id) kept.cyclics in let x = zero level.Lock id in let y = zero level.Low id in
            let z = zero level.High id in omega (arith, e, x, y, z));
        lost = λ id. (let e = ap (lost_of id) kept.cyclics in omega (arith, e));
        limits = record {
          most = kept.kept.most;
          lock_ceiling = ap (λ (x : Tables). (firing_at x).ceiling) kept.beside;
          low_ceiling = calls_ceiling s.cpu.low t.cpu.low low.way low.goes;
          grows = (let e = kept.kept.size in omega (arith, e));
        };
      }
  interrupted Lock budget answer s t at ran rest serves none long same kept =
      let zero : (own : Level) (id : ℕ) → 0 ≡ share own (timers s.cpu.cyclics) [] id =
      λ own id. sym (none_made own (timers s.cpu.cyclics) id) in
      let lock = served_level level.Lock s.cpu.lock t.cpu.lock (calls_told answer) s.calls at ran rest serves none long in
      record {
        lock_lost = λ id. 0;
        low_lost = λ id. 0;
        lock_made = λ id. times id (ids ran);
        low_made = λ id. 0;
        lock = core_as _ _ _ _ _ _ _ _ s.cpu.lock t.cpu.lock (zero level.Lock) (λ id. refl) (λ id. refl) refl lock;
        low = core_as _ _ _ _ _ _ 0 0 s.cpu.low t.cpu.low (zero level.Low) (λ id. refl) (λ id. refl) refl
            (core_none s.cpu.low t.cpu.low kept.beside);
        called = λ id. (let x = same id in let y = serves.counted id in let z = zero level.High id in omega (arith, x, y, z));
        expired = λ id. (let e = ap (expired_of id) kept.cyclics in let x = zero level.Lock id in let y = zero level.Low id in
            let z = zero level.High id in omega (arith, e, x, y, z));
        lost = λ id. (let e = ap (lost_of id) kept.cyclics in omega (arith, e));
        limits = record {
          most = kept.kept.most;
          lock_ceiling = calls_ceiling s.cpu.lock t.cpu.lock lock.way lock.goes;
          low_ceiling = ap (λ (x : Tables). (firing_at x).ceiling) kept.beside;
          grows = (let e = kept.kept.size in omega (arith, e));
        };
      }

  -- one call
  pub core_proceeds_one : (s t : Running C Tables) (call : CpuCall) → IsLawful firing_at s.cpu →
      CpuDoes handler raise_tables (Interrupts handler) s call t →
      CoreProceeds handler.count (account_of call s.cpu.cyclics) s t
  core_proceeds_one s t (SoftInterrupt soft budget (Ok r)) law (did, kept) =
      let (ran, long, serves, left) = did.served in
      interrupted soft budget (Ok r) s t t.calls ran (last_look r.idle) serves (last_finishes r.idle) long (λ q. refl) kept
  core_proceeds_one s t (SoftInterrupt soft budget (Err e)) law (did, kept) =
      let (ran, at, long, few, serves, may, same, held) = did.refused in
      interrupted soft budget (Err e) s t at ran _ serves (look_finishes _ _) long same kept
  core_proceeds_one s t (Fire now (Ok r)) law d = no_interrupt s t (Fire now (Ok r)) (λ own. refl) law d
  core_proceeds_one s t (Fire now (Err e)) law d = no_interrupt s t (Fire now (Err e)) (λ own. refl) law d
  core_proceeds_one s t (Add own level when now answer) law d =
      no_interrupt s t (Add own level when now answer) (λ own. refl) law d
  core_proceeds_one s t (Place own level interval moment carried) law d =
      no_interrupt s t (Place own level interval moment carried) (λ own. refl) law d
  core_proceeds_one s t (Reprogram j moment answer) law d =
      no_interrupt s t (Reprogram j moment answer) (λ own. refl) law d
  core_proceeds_one s t (AskPending j answer) law d =
      no_interrupt s t (AskPending j answer) (λ own. refl) law d
  core_proceeds_one s t (AskTotals j answer) law d =
      no_interrupt s t (AskTotals j answer) (λ own. refl) law d
  core_proceeds_one s t (AskRoom more answer) law d =
      no_interrupt s t (AskRoom more answer) (λ own. refl) law d
  core_proceeds_one s t (Reserve more answer) law d =
      no_interrupt s t (Reserve more answer) (λ own. refl) law d
  core_proceeds_one s t (Widen more) law d =
      no_interrupt s t (Widen more) (λ own. refl) law d
  core_proceeds_one s t (BeginRemove j answer) law d =
      no_interrupt s t (BeginRemove j answer) (λ own. refl) law d
  core_proceeds_one s t (PollRemove answer) law d =
      no_interrupt s t (PollRemove answer) (λ own. refl) law d
  core_proceeds_one s t (TakeNow j answer) law d =
      no_interrupt s t (TakeNow j answer) (λ own. refl) law d
  core_proceeds_one s t (AskSettled answer) law d =
      no_interrupt s t (AskSettled answer) (λ own. refl) law d
  core_proceeds_one s t Suspend law d =
      no_interrupt s t Suspend (λ own. refl) law d
  core_proceeds_one s t Resume law d =
      no_interrupt s t Resume (λ own. refl) law d

  -- the calls of a run
  abbrev D : Running C Tables → CpuCall → Running C Tables → Type 0
  D = CpuSteps handler raise_tables (Interrupts handler)

  pub core_proceeds_in : (s t : Running C Tables) (way : List CpuCall) → IsLawful firing_at s.cpu → (run : FoldsTo D s way t) →
      CoreProceeds handler.count (account_in D s way t run) s t
  core_proceeds_in s t [] law run =
      subst (λ (x : Running C Tables). CoreProceeds handler.count no_call_made s x) run (core_proceeds_none s)
  core_proceeds_in s t (call ∷ way) law (m, (does, lawful), rest) =
      core_proceeds_on (account_of call s.cpu.cyclics) (account_in D m way t rest) s m t (core_proceeds_one s m call law does)
      (core_proceeds_in m t way lawful rest)
