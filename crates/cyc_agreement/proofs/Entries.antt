-- The components of a cyclic that comes to each online CPU.
use Rattle.std.proofs.Common.{◌≡◌, ◌≢◌, ℕ, ◌+◌, ◌≤◌, Bool, true, false, Some, List, [], ◌∷◌, ◌++◌, drop, length, refl, sym, ap}
use Rattle.std.proofs.Common.{◌∙◌, subst, append_assoc, arith}
use Rattle.std.specs.List.{slice_get}
use Rattle.std.proofs.lemmas.List.{append-nil, length-set, drop_all}
use Rattle.cyc_types.specs.declared.Raise.{Ghosts as Raise}
use Rattle.cyc_types.specs.declared.level.Level.{Level}
use Rattle.cyc_types.specs.declared.moment.When.{When}
use Rattle.cyc_types.proofs.Runs.{folds_on}
use Rattle.cyc_cpu.specs.Cpu.{CpuView, HasNoCyclic, MayWiden}
use Rattle.cyc_agreement.specs.Cpus.{CpusView, IsCpu, OfCpu, IsOnline, online_cpus, numbers_from, DoesAt, Works, ChangesAt}
use Rattle.cyc_agreement.proofs.Choices.{numbers_at}
use Rattle.cyc_agreement.proofs.CpuSpots.{cpu_beside}
use Rattle.cyc_agreement.specs.Adding.{entering}
use Rattle.cyc_agreement.specs.Omni.{component_first, entering_each}

-- what a call on one CPU leaves of the others
record Beside {R : Type 0} (n : ℕ) (v w : CpusView R) : Type 0 where
  pub online : w.online ≡ v.online
  pub long : length w.cpus ≡ length v.cpus
  pub others : (m : ℕ) (x : CpuView R) → m ≢ n → IsCpu m x w → IsCpu m x v

beside_one : {R : Type 0} (n : ℕ) (D : CpuView R → CpuView R → Type 0) (v w : CpusView R) → ChangesAt n D v w → Beside n v w
beside_one n D v w c = subst (λ u. Beside n v u) (sym c.rest) (record {
  online = refl;
  long = length-set v.cpus n c.after;
  others = λ m x ne is. cpu_beside n m x c.after v ne is;
})

beside_then : {R : Type 0} (n : ℕ) (u v w : CpusView R) → Beside n u v → Beside n v w → Beside n u w
beside_then n u v w a b = record {
  online = b.online ∙ a.online;
  long = b.long ∙ a.long;
  others = λ m x ne is. a.others m x ne (b.others m x ne is);
}

module _ {R : Type 0} (firing : Raise R) (id : ℕ) (level : Level) (when : When)
    (skew now : ℕ) where
  calls_more : (ns : List ℕ) (n : ℕ) → entering_each (ns ++ n ∷ []) id level when skew now
      ≡ entering_each ns id level when skew now ++ entering n id level when.interval (component_first n when skew now)
  calls_more [] n = append-nil _
  calls_more (m ∷ ns) n = ap (λ cs. entering m id level when.interval (component_first m when skew now) ++ cs) (calls_more ns n)
      ∙ sym (append_assoc (entering m id level when.interval (component_first m when skew now))
      (entering_each ns id level when skew now)
      (entering n id level when.interval (component_first n when skew now)))

  entering_beside : (n interval moment : ℕ) (v w : CpusView R) → Works firing (entering n id level interval moment) v w
      → Beside n v w
  entering_beside n interval moment v w (u, widens, (t, places, e)) =
      subst (λ x. Beside n v x) e (beside_then n v u t (beside_one n _ v u widens) (beside_one n _ u t places))

  -- the online CPUs below n have their components, and each other one may take its own
  pub record Entries (v : CpusView R) (n : ℕ) (w : CpusView R) : Type 0 where
    pub online : w.online ≡ v.online
    pub many : length w.cpus ≡ length w.online
    pub before : List ℕ
    pub split : online_cpus v ≡ before ++ numbers_from n (drop n v.online)
    pub works : Works firing (entering_each before id level when skew now) v w
    pub room : (m : ℕ) → n ≤ m → IsOnline m w → OfCpu m (MayWiden firing.view 1) w
    pub absent : (m : ℕ) → n ≤ m → OfCpu m (λ cpu. HasNoCyclic id cpu.cyclics) w

  pub entries_start : (v : CpusView R) → length v.cpus ≡ length v.online
      → ((m : ℕ) → IsOnline m v → OfCpu m (MayWiden firing.view 1) v)
      → ((m : ℕ) → OfCpu m (λ cpu. HasNoCyclic id cpu.cyclics) v) → Entries v 0 v
  entries_start v many room absent = record {
    online = refl;
    many = many;
    before = [];
    split = refl;
    works = refl;
    room = λ m low. room m;
    absent = λ m low. absent m;
  }

  pub entries_one : (v w u : CpusView R) (n : ℕ) → Entries v n w → IsOnline n w
      → Works firing (entering n id level when.interval (component_first n when skew now)) w u → Entries v (n + 1) u
  entries_one v w u n r here did = let b = entering_beside n when.interval (component_first n when skew now) w u did in record {
    online = b.online ∙ r.online;
    many = b.long ∙ r.many ∙ sym (ap (λ (o : List Bool). length o) b.online);
    before = r.before ++ n ∷ [];
    split = r.split ∙ ap (λ ns. r.before ++ ns) (numbers_at v.online n true (ap (λ xs. slice_get xs n) (sym r.online) ∙ here))
        ∙ sym (append_assoc r.before (n ∷ []) (numbers_from (n + 1) (drop (n + 1) v.online)));
    works = subst (λ way. Works firing way v u) (sym (calls_more r.before n))
        (folds_on (DoesAt firing) v _ w _ u r.works did);
    room = λ m low on x is. (let ne : m ≢ n = (λ e. absurd (omega (arith, e, low))) in
        r.room m (omega (arith, low)) (ap (λ xs. slice_get xs m) (sym b.online) ∙ on) x (b.others m x ne is));
    absent = λ m low x is. (let ne : m ≢ n = (λ e. absurd (omega (arith, e, low))) in
        r.absent m (omega (arith, low)) x (b.others m x ne is));
  }

  pub entries_none : (v w : CpusView R) (n : ℕ) → Entries v n w → slice_get w.online n ≡ Some false → Entries v (n + 1) w
  entries_none v w n r off = record {
    online = r.online;
    many = r.many;
    before = r.before;
    split = r.split ∙ ap (λ ns. r.before ++ ns) (numbers_at v.online n false (ap (λ xs. slice_get xs n) (sym r.online) ∙ off));
    works = r.works;
    room = λ m low. r.room m (omega (arith, low));
    absent = λ m low. r.absent m (omega (arith, low));
  }

  pub entries_done : (v w : CpusView R) (n : ℕ) → length w.online ≤ n → Entries v n w
      → Works firing (entering_each (online_cpus v) id level when skew now) v w
  entries_done v w n all r = subst (λ ns. Works firing (entering_each ns id level when skew now) v w)
      (sym (r.split ∙ ap (λ xs. r.before ++ numbers_from n xs) (drop_all n v.online (subst (λ xs. length xs ≤ n) r.online all))
      ∙ append-nil r.before)) r.works
