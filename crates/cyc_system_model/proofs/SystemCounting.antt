-- What a system tells of a cyclic is what the definition reports of it.
use Rattle.std.proofs.Common.{◌≡◌, ℕ, suc, ◌+◌, ◌<◌, ◌==◌, eqb-true, Bool, true, false, cond, not, List, [], ◌∷◌, length, find}
use Rattle.std.proofs.Common.{map, sum_by, get_or, Option, Some, None, refl, ap, sym, ◌∙◌, arith}
use Rattle.std.specs.Prelude.{is_some}
use Rattle.cyc_core.specs.Tables.{Tables}
use Rattle.cyc_cpu.specs.Soft.{raise_tables}
use Rattle.cyc_cpu.specs.Calls.{AskTotals}
use Rattle.cyc_places.specs.declared.record.Record.{Record}
use Rattle.cyc_places.specs.Places.{IsRecord}
use Rattle.cyc_system.specs.Cpus.{CpusView, Works}
use Rattle.cyc_system.specs.System.{SystemView}
use Rattle.cyc_system.proofs.Spots.{same_some, none_some, get_some}
use Rattle.cyc_system.specs.SystemTotals.{SystemTotals}
use Rattle.cyc_system.specs.Counting.{Counted, asked, AsksTotals}
use Rattle.cyc_model.specs.Cpu.{CyclicState, Cpu, is_of, has_cyclic, cyclic_with_id}
use Rattle.cyc_model.specs.Questions.{outstanding_here}
use Rattle.cyc_model.specs.State.{State, absent, cpu_of, cpus_having}
use Rattle.cyc_model.specs.Places.{is_no_cyclic}
use Rattle.cyc_model.specs.Report.{expired_here, lost_here, counts_of}
use Rattle.cyc_model.proofs.Rising.{found, any_found}
use Rattle.cyc_system_model.specs.Shown.{shown_cpus, ShowsSystem, AreTied, IsSystem}
use Rattle.cyc_system_model.specs.Removal.{told_in}
use Rattle.cyc_system_model.proofs.Cpus.{cpu_at, cpu_is, done_at, long_shown}
use Rattle.cyc_system_model.proofs.Asking.{unknown_shown}
use Rattle.cyc_system_model.proofs.Entering.{unchanged, same_shown}
use Rattle.cyc_system_model.proofs.Sums.{tally_none, tally_one, sum_numbers}
use Rattle.cyc_system_model.proofs.Half.{half}
use Rattle.cyc_system_model.proofs.Ending.{none_out, own_at}
use Rattle.cyc_system_model.proofs.Coming.{OwnAll, sum_own}
use Rattle.cyc_system_model.proofs.Answering.{same_with, ended_sent, ended_gone}

-- ---- what was asked

abbrev cpu_in : Counted → ℕ
cpu_in a = a.cpu

-- the CPU has what it answered
record Tells (id : ℕ) (a : Counted) (c : Cpu) : Type 0 where
  expired : expired_here id c ≡ a.totals.expired
  lost : lost_here id c ≡ a.totals.lost
  pending : outstanding_here id c ≡ a.totals.pending

tell_all : (id : ℕ) (way : List Counted) (v u : CpusView Tables) → length v.online ≡ length v.cpus → AreTied v
    → Works raise_tables (map (asked id) way) v u
    → (m : State) → m.cpus ≡ shown_cpus v → (shown_cpus u ≡ shown_cpus v) × OwnAll cpu_in (Tells id) way m
tell_all id [] v u long tied same m is = (ap shown_cpus (sym same), tt)
tell_all id (a ∷ way) v u long tied (x, did, rest) m is =
    let d = done_at a.cpu (AskTotals id (Some a.totals)) v x long tied did in
    let same = unchanged v x a.cpu d.cpus in
    let (y, there, expired, lost, pending) = d.answered tt in
    let low : a.cpu < length v.cpus = (let w = d.within in let l = long_shown v.online v.cpus long in omega (arith, w, l)) in
    let (z, at) = get_some v.cpus a.cpu low in
    let is_z = cpu_is v a.cpu z long at in
    let found_z = ap (cyclic_with_id id) (sym is_z) ∙ there in
    let here : cpu_of a.cpu m ≡ cpu_at v a.cpu = ap (λ cs. get_or cs a.cpu absent) is in
    let one : (g : CyclicState → ℕ) → sum_by (λ t. cond (is_of id t) (g t) 0) (cpu_of a.cpu m).cyclics ≡ g y =
    λ g. ap (λ (c : Cpu). sum_by (λ t. cond (is_of id t) (g t) 0) c.cyclics) (here ∙ is_z)
    ∙ tally_one g id z.cyclics y (tied a.cpu z at).rising found_z in
    let more = tell_all id way x u d.long d.tied rest m (is ∙ sym same) in (
      more.0 ∙ same,
      (
        record {
          expired = one (λ t. t.timer.expired) ∙ sym expired;
          lost = one (λ t. t.lost) ∙ sym lost;
          pending = ap (outstanding_here id) here ∙ sym pending;
        },
        more.1,
      ),
    )

own_map : (P Q : Counted → Cpu → Type 0) → ((a : Counted) (c : Cpu) → P a c → Q a c) → (way : List Counted) (m : State)
    → OwnAll cpu_in P way m → OwnAll cpu_in Q way m
own_map P Q f [] m own = tt
own_map P Q f (a ∷ way) m own = (f a (cpu_of (cpu_in a) m) own.0, own_map P Q f way m own.1)

find_at : (id : ℕ) (rs : List Record) (r : Record) → find (λ (x : Record). x.id == id) rs ≡ Some r → (k : ℕ) × IsRecord rs k r
    × (r.id ≡ id)
find_at id [] r is = absurd (none_some is)
find_at id (x ∷ rs) r is = by (x.id == id) refl is (λ e. find_at id rs r e)
  where
    by : (b : Bool) → (x.id == id) ≡ b → cond b (Some x) (find (λ (y : Record). y.id == id) rs) ≡ Some r
        → (find (λ (y : Record). y.id == id) rs ≡ Some r → (k : ℕ) × IsRecord rs k r × (r.id ≡ id)) → (k : ℕ)
        × IsRecord (x ∷ rs) k r × (r.id ≡ id)
    by true same e rest = (0, e, ap (λ (y : Record). y.id) (sym (same_some e)) ∙ eqb-true x.id id same)
    by false other e rest = let (k, there, named) = rest e in (suc k, there, named)

module _ (id : ℕ) (m : State) (v w : SystemView Tables) (sys : IsSystem v) (h : ShowsSystem m v) where
  -- a CPU that has no such cyclic has nothing of it
  none_here : (i : ℕ) → has_cyclic id (cpu_of i m) ≡ false → cyclic_with_id id (cpu_of i m) ≡ None
  none_here i none = not_found (found id (cpu_of i m).cyclics) (sym (any_found id (cpu_of i m).cyclics) ∙ none)
    where
      not_found : (o : Option CyclicState) → is_some o ≡ false → o ≡ None
      not_found None is = refl
      not_found (Some x) is = absurd (let isnt : true ≡ false = is in cc)

  none_left : (i : ℕ) → i < length m.cpus → has_cyclic id (cpu_of i m) ≡ false → outstanding_here id (cpu_of i m) ≡ 0
  none_left i low none =
      let l = ap (λ cs. length cs) h.cpus ∙ long_shown v.cpus.online v.cpus.cpus sys.agrees.long in
      let same : cpu_of i m ≡ cpu_at v.cpus i = ap (λ cs. get_or cs i absent) h.cpus in
      ap (outstanding_here id) same ∙ none_out id (cpu_at v.cpus i) (own_at v i (half v sys) (omega (arith, low, l)))
      (ap (cyclic_with_id id) (sym same) ∙ none_here i none)

  sum_all : (f : Cpu → ℕ) → ((i : ℕ) → i < length m.cpus → has_cyclic id (cpu_of i m) ≡ false → f (cpu_of i m) ≡ 0)
      → sum_by (λ n. f (cpu_of n m)) (cpus_having id m) ≡ sum_by f m.cpus
  sum_all f other = sum_numbers (λ n. f (cpu_of n m)) f (has_cyclic id) 0 m.cpus m.cpus refl
      (λ i low. ap (λ j. f (cpu_of j m)) (zero_plus i)) other
    where
      zero_plus : (i : ℕ) → 0 + i ≡ i
      zero_plus i = omega arith

  pub totals_told : (totals : SystemTotals) → AsksTotals raise_tables id (Some totals) v w → ShowsSystem m w
      × (counts_of id m ≡ told_in totals (m.called id))
  totals_told totals (way, r, is, ns, (works, records, last), adds) =
      let told = tell_all id way v.cpus w.cpus sys.agrees.long sys.tied works m h.cpus in
      let (k, at, named) = find_at id v.records r is in
      let all : map cpu_in way ≡ cpus_having id m = ns ∙ sym (same_with id m v h sys.agrees.long) in
      let sums : (left : Counted → ℕ) (f : Cpu → ℕ) → ((a : Counted) (c : Cpu) → Tells id a c → f c ≡ left a)
      → ((i : ℕ) → i < length m.cpus → has_cyclic id (cpu_of i m) ≡ false → f (cpu_of i m) ≡ 0)
      → sum_by f m.cpus ≡ sum_by left way =
      λ left f tells other. sym (sum_all f other) ∙ ap (λ ks. sum_by (λ n. f (cpu_of n m)) ks) (sym all)
      ∙ sum_own cpu_in left f way m (own_map (Tells id) (λ a c. f c ≡ left a) tells way m told.1) in
      let a = sums (λ x. x.totals.expired) (expired_here id) (λ x c t. t.expired)
      (λ i low none. tally_none (λ y. y.timer.expired) id (cpu_of i m).cyclics (none_here i none)) in
      let b = sums (λ x. x.totals.lost) (lost_here id) (λ x c t. t.lost)
      (λ i low none. tally_none (λ y. y.lost) id (cpu_of i m).cyclics (none_here i none)) in
      let c = sums (λ x. x.totals.pending) (outstanding_here id) (λ x d t. t.pending) none_left in
      let e = ended_sent id k r m v h (half v sys) at named in
      let l = ended_gone id k r m v h (half v sys) at named in (
        same_shown m v w h told.0 records last,
        (λ z. record {
          expired = ((λ j. e j + a j) ∙ sym adds.expired) z;
          called = m.called id;
          lost = ((λ j. l j + b j) ∙ sym adds.lost) z;
          pending = (c ∙ sym adds.pending) z;
        }),
      )

  pub totals_none : AsksTotals raise_tables id None v w → (is_no_cyclic id m ≡ true) × (w ≡ v)
  totals_none (none, same) = (unknown_shown id m v h ∙ ap (λ o. not (is_some o)) none, same)
