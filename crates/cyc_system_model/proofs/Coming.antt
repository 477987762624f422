-- One thing after another, each on a CPU of its own.
use Rattle.std.proofs.Common.{◌≡◌, ◌≢◌, ℕ, ◌+◌, inl, inr, List, [], ◌∷◌, ◌++◌, length, map, sum_by, refl, sym, ◌∙◌, subst, arith}
use Rattle.std.specs.List.{FoldsTo}
use Rattle.std.proofs.lemmas.List.Sums.{sum_by-cons}
use Rattle.cyc_core.specs.Tables.{Tables}
use Rattle.cyc_system.specs.System.{SystemView}
use Rattle.cyc_model.specs.Acts.{calls_of}
use Rattle.cyc_model.specs.Cpu.{Cpu}
use Rattle.cyc_model.specs.State.{State, Outcome, cpu_of, each}
use Rattle.cyc_model.proofs.Events.{calls_append}
use Rattle.cyc_model.proofs.Numbers.{Has, RiseFrom, has_above}
use Rattle.cyc_system_model.proofs.Free.{HasNoAdmit, no_more}
use Rattle.cyc_system_model.specs.Shown.{ShowsSystem}
use Rattle.cyc_system_model.proofs.Half.{Half}

-- what was done shows the system after it: nothing was put in, no handler called, and nothing said
pub record Came (m : State) (o : Outcome) (w : SystemView Tables) : Type 0 where
  pub shows : ShowsSystem o.state w
  pub half : Half w
  pub none : HasNoAdmit o.acts
  pub quiet : (q : ℕ) → calls_of q o.acts ≡ 0
  pub called : (q : ℕ) → o.state.called q ≡ m.called q
  pub admissions : o.state.admissions ≡ m.admissions
  pub names : o.state.names ≡ m.names
  pub line : o.line ≡ []
  pub as_many : length o.state.cpus ≡ length m.cpus

-- it was done on this CPU alone, which is now so
pub record CameTo (n : ℕ) (Q : Cpu → Type 0) (m : State) (o : Outcome) (w : SystemView Tables) : Type 0 where
  pub came : Came m o w
  pub own : Q (cpu_of n o.state)
  pub beside : (k : ℕ) → k ≢ n → cpu_of k o.state ≡ cpu_of k m

-- on each of these
abbrev pub OwnAll : {A : Type 0} → (A → ℕ) → (A → Cpu → Type 0) → List A → State → Type 0
OwnAll cpu Q [] s = Unit {0}
OwnAll cpu Q (a ∷ way) s = Q a (cpu_of (cpu a) s) × OwnAll cpu Q way s

pub record CameToAll {A : Type 0} (cpu : A → ℕ) (Q : A → Cpu → Type 0) (way : List A) (m : State) (o : Outcome)
    (w : SystemView Tables) : Type 0 where
  pub came : Came m o w
  pub own : OwnAll cpu Q way o.state
  pub beside : (k : ℕ) → (Has k (map cpu way) → ⊥) → cpu_of k o.state ≡ cpu_of k m

module _ {A : Type 0} (f : ℕ → State → Outcome) (cpu : A → ℕ) (P : Cpu → Type 0) (Q : A → Cpu → Type 0) (R : SystemView Tables → A
    → SystemView Tables → Type 0)
    (one : (a : A) (m : State) (v w : SystemView Tables) → Half v → ShowsSystem m v → P (cpu_of (cpu a) m) → R v a w
    → CameTo (cpu a) (Q a) m (f (cpu a) m) w) where
  pub all_come : (low : ℕ) (way : List A) (m : State) (v w : SystemView Tables) → RiseFrom low (map cpu way) → Half v
      → ShowsSystem m v
      → ((k : ℕ) → Has k (map cpu way) → P (cpu_of k m)) → FoldsTo R v way w → CameToAll cpu Q way m (each f (map cpu way) m) w
  all_come low [] m v w rise hv h ready same = record {
    came = record {
      shows = subst (ShowsSystem m) same h;
      half = subst Half same hv;
      none = tt;
      quiet = λ q. refl;
      called = λ q. refl;
      admissions = refl;
      names = refl;
      line = refl;
      as_many = refl;
    };
    own = tt;
    beside = λ k out. refl;
  }
  all_come low (a ∷ way) m v w rise hv h ready (u, did, rest) =
      let n = cpu a in
      let o = f n m in
      let first = one a m v u hv h (ready n (inl refl)) did in
      let far : (k : ℕ) → Has k (map cpu way) → k ≢ n = λ k has e. let above = has_above (n + 1) k (map cpu way) rise.1 has in
      absurd (omega (arith, above, e)) in
      let next = all_come (n + 1) way o.state u w rise.1 first.came.half first.came.shows
      (λ k has. subst P (sym (first.beside k (far k has))) (ready k (inr has))) rest in
      let p = each f (map cpu way) o.state in
      record {
        came = record {
          shows = next.came.shows;
          half = next.came.half;
          none = no_more o.acts p.acts first.came.none next.came.none;
          quiet = λ q. let x = calls_append q o.acts p.acts in let y = first.came.quiet q in let z = next.came.quiet q in
              omega (arith, x, y, z);
          called = λ q. next.came.called q ∙ first.came.called q;
          admissions = next.came.admissions ∙ first.came.admissions;
          names = next.came.names ∙ first.came.names;
          line = (λ z. first.came.line z ++ next.came.line z);
          as_many = next.came.as_many ∙ first.came.as_many;
        };
        own = (subst (Q a) (sym (next.beside n (λ has. far n has refl))) first.own, next.own);
        beside = λ k out. next.beside k (λ has. out (inr has)) ∙ first.beside k (λ e. out (inl e));
      }

-- a sum of what each of them has now
pub sum_own : {A : Type 0} (cpu : A → ℕ) (left : A → ℕ) (f : Cpu → ℕ) (way : List A) (s : State)
    → OwnAll cpu (λ a c. f c ≡ left a) way s
    → sum_by (λ n. f (cpu_of n s)) (map cpu way) ≡ sum_by left way
sum_own cpu left f [] s own = refl
sum_own cpu left f (a ∷ way) s own =
    let x = sum_by-cons (λ n. f (cpu_of n s)) (cpu a) (map cpu way) in
    let y = sum_by-cons left a way in
    let here = own.0 in
    let rest = sum_own cpu left f way s own.1 in
    omega (arith, x, y, here, rest)
