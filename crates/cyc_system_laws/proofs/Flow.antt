-- What calls bring to the CPUs, and take from them, of an id.
use Rattle.std.proofs.Common.{◌≡◌, ◌∙◌, ◌==◌, ℕ, zero, suc, ◌+◌, Bool, true, false, cond, Some, None, Ok, Err, List, [], ◌∷◌}
use Rattle.std.proofs.Common.{slice_set, refl, sym, ap, arith}
use Rattle.std.specs.Prelude.{sum_by}
use Rattle.std.specs.List.{slice_get}
use Rattle.std.proofs.lemmas.List.Sums.{sum_by-cons, sum_by-set, sum_by-remove, sum_by-insert}
use Rattle.cyc_types.specs.declared.Raise.{Ghosts as Raise}
use Rattle.cyc_timers.specs.Rows.{Cyclic}
use Rattle.cyc_cpu.specs.declared.moving.Taken.{Taken}
use Rattle.cyc_cpu.specs.Cpu.{CpuView, with_moment, cyclic_with}
use Rattle.cyc_cpu.specs.Moving.{IsTaken}
use Rattle.cyc_cpu.specs.Calls.{Suspend, Resume}
use Rattle.cyc_cpu.specs.Calls.{CpuCall, CpuChanges, Place, TakeNow, Reprogram, AskPending, AskTotals, AskRoom, Reserve, Widen}
use Rattle.cyc_system.specs.Cpus.{CpusView, CallOn, DoesAt, Works}
use Rattle.cyc_system.proofs.Lists.{eq_true}
use Rattle.cyc_system.proofs.Spots.{same_some, none_some}
use Rattle.cyc_system_laws.specs.Keeping.{stay_on}

pub sum_set : {A : Type 0} (h : A → ℕ) (xs : List A) (n : ℕ) (x y : A) → slice_get xs n ≡ Some x
    → sum_by h (slice_set xs n y) + h x ≡ sum_by h xs + h y
sum_set h [] n x y is = absurd (none_some is)
sum_set h (z ∷ xs) zero x y is = let a = sum_by-cons h y xs in let b = sum_by-cons h z xs in let c = ap h (same_some is) in
    omega (arith, a, b, c)
sum_set h (z ∷ xs) (suc n) x y is = let a = sum_by-cons h z (slice_set xs n y) in let b = sum_by-cons h z xs in
    let c = sum_set h xs n x y is in omega (arith, a, b, c)

module _ (f : Taken → ℕ) (id : ℕ) where
  -- the measure of a cyclic, where it has the id
  abbrev pub weigh : Cyclic → ℕ
  weigh c = cond (c.timer.id == id) (f (stay_on c)) 0

  abbrev pub on_cpu : {R : Type 0} → CpuView R → ℕ
  on_cpu cpu = sum_by weigh cpu.cyclics

  abbrev pub on_cpus : {R : Type 0} → CpusView R → ℕ
  on_cpus v = sum_by on_cpu v.cpus

  -- a call of which is known what it brings of the id, and what it takes
  abbrev pub Fixed : CpuCall → Type 0
  Fixed (Place own level interval moment carried) = Unit {0}
  Fixed (TakeNow own (Ok taken)) = Unit {0}
  Fixed (Reprogram own moment answer) = own ≡ id → (a : Taken) (m : ℕ) → f (record a { moment = m }) ≡ f a
  Fixed (AskPending own answer) = Unit {0}
  Fixed (AskTotals own answer) = Unit {0}
  Fixed (AskRoom more answer) = Unit {0}
  Fixed (Reserve more answer) = Unit {0}
  Fixed (Widen more) = Unit {0}
  Fixed Suspend = Unit {0}
  Fixed Resume = Unit {0}
  Fixed call = ⊥

  abbrev pub brought : CpuCall → ℕ
  brought (Place own level interval moment carried) = cond (own == id)
      (f (record { level = level; interval = interval; moment = moment; sent = carried })) 0
  brought call = 0

  abbrev pub taken_off : CpuCall → ℕ
  taken_off (TakeNow own (Ok taken)) = cond (own == id) (f taken) 0
  taken_off call = 0

  abbrev pub AllFixed : List CallOn → Type 0
  AllFixed [] = Unit {0}
  AllFixed (c ∷ way) = Fixed c.call × AllFixed way

  abbrev pub all_brought : List CallOn → ℕ
  all_brought [] = 0
  all_brought (c ∷ way) = brought c.call + all_brought way

  abbrev pub all_taken : List CallOn → ℕ
  all_taken [] = 0
  all_taken (c ∷ way) = taken_off c.call + all_taken way

  same_weigh : (c d : Cyclic) → d.timer.id ≡ c.timer.id → (c.timer.id ≡ id → f (stay_on d) ≡ f (stay_on c)) → weigh d ≡ weigh c
  same_weigh c d named same = ap (λ (j : ℕ). cond (j == id) (f (stay_on d)) 0) named ∙ by (c.timer.id == id) refl
    where
      by : (b : Bool) → (c.timer.id == id) ≡ b → cond b (f (stay_on d)) 0 ≡ cond b (f (stay_on c)) 0
      by true is = same (eq_true c.timer.id id is)
      by false is = refl

  taken_is : (taken : Taken) (c : Cyclic) → IsTaken taken c → taken ≡ stay_on c
  taken_is taken c is = (λ i. record
      { level = is.0 i; interval = is.1 i; moment = is.2 i; sent = record { sent = is.3 i; lost = is.4 i } })

  module _ {R : Type 0} (firing : Raise R) where
    stay_here : (x y : CpuView R) → y.cyclics ≡ x.cyclics → on_cpu y + 0 ≡ on_cpu x + 0
    stay_here x y same = let e = ap (λ cs. sum_by weigh cs) same in omega (arith, e)

    flow : (x y : CpuView R) (call : CpuCall) → Fixed call → CpuChanges firing x call y
        → on_cpu y + taken_off call ≡ on_cpu x + brought call
    flow x y (Place own level interval moment carried) fixed (may, p) =
        let c = cyclic_with own level interval moment carried.sent carried.lost in
        let a = ap (λ cs. sum_by weigh cs) p.cyclics in let b = sum_by-insert weigh x.cyclics p.position c in
        let e : weigh c ≡ cond (own == id)
        (f (record { level = level; interval = interval; moment = moment; sent = carried })) 0 = refl in
        omega (arith, a, b, e)
    flow x y (TakeNow own (Ok taken)) fixed (still, (c, counts, is, polled, l)) =
        let a = ap (λ cs. sum_by weigh cs) l.cyclics in let b = sum_by-remove weigh x.cyclics l.position c l.here.0 in
        let d = ap weigh l.here.1 in
        let e : cond (own == id) (f taken) 0 ≡ weigh c = (λ i. cond (sym l.named i == id) (f (taken_is taken c is i)) 0) in
        omega (arith, a, b, d, e)
    flow x y (TakeNow own (Err e)) fixed d = absurd fixed
    flow x y (Reprogram own moment (Ok done)) fixed (k, c, here, named, still, is) =
        let a = ap (λ (z : CpuView R). sum_by weigh z.cyclics) is in
        let b = sum_by-set weigh x.cyclics k (with_moment moment c) c here.0 in
        let d = ap weigh here.1 in
        let e = same_weigh c (with_moment moment c) refl (λ q. fixed (sym named ∙ q) (stay_on c) moment) in
        omega (arith, a, b, d, e)
    flow x y (Reprogram own moment (Err e)) fixed d = stay_here x y (ap (λ (z : CpuView R). z.cyclics) d.2)
    flow x y (AskPending own (Some n)) fixed d = stay_here x y d.0.cyclics
    flow x y (AskPending own None) fixed d = stay_here x y (ap (λ (z : CpuView R). z.cyclics) d.1)
    flow x y (AskTotals own (Some t)) fixed d = stay_here x y d.0.cyclics
    flow x y (AskTotals own None) fixed d = stay_here x y (ap (λ (z : CpuView R). z.cyclics) d.1)
    flow x y (AskRoom more (Ok done)) fixed d = stay_here x y d.0.cyclics
    flow x y (AskRoom more (Err e)) fixed d = stay_here x y d.0.cyclics
    flow x y (Reserve more (Ok done)) fixed d = stay_here x y d.0.cyclics
    flow x y (Reserve more (Err e)) fixed d = stay_here x y d.0.cyclics
    flow x y (Widen more) fixed d = stay_here x y d.1.cyclics
    flow x y Suspend fixed d = stay_here x y (ap (λ (z : CpuView R). z.cyclics) d)
    flow x y Resume fixed d = stay_here x y (ap (λ (z : CpuView R). z.cyclics) d)
    flow x y call fixed d = absurd fixed

    pub flow_at : (v w : CpusView R) (c : CallOn) → Fixed c.call → DoesAt firing v c w
        → on_cpus w + taken_off c.call ≡ on_cpus v + brought c.call
    flow_at v w c fixed d =
        let a = flow d.before d.after c.call fixed d.change in
        let b = sum_set on_cpu v.cpus c.cpu d.before d.after d.here in
        let e = ap on_cpus d.rest in omega (arith, a, b, e)

    pub flows : (way : List CallOn) (v w : CpusView R) → AllFixed way → Works firing way v w
        → on_cpus w + all_taken way ≡ on_cpus v + all_brought way
    flows [] v w fixed run = let e = ap on_cpus run in omega (arith, e)
    flows (c ∷ way) v w fixed (u, d, rest) = let a = flow_at v u c fixed.0 d in let b = flows way u w fixed.1 rest in
        omega (arith, a, b)
