-- What each call of a system raises at the ends of its CPUs.
use Rattle.std.proofs.Common.{◌≡◌, ◌∙◌, ℕ, zero, suc, ◌+◌, Some, List, [], ◌∷◌, length, refl, sym, ap, subst, arith}
use Rattle.std.specs.Prelude.{map, sum_by, ◌<◌, Bool, true, false}
use Rattle.std.specs.List.{slice_get, FoldsTo}
use Rattle.std.proofs.lemmas.List.Sums.{sum_by-cons}
use Rattle.cyc_types.specs.declared.Calls.{Ghosts as Calls}
use Rattle.cyc_types.specs.declared.Raise.{Ghosts as Raise}
use Rattle.cyc_types.specs.Firing.{FiringCall}
use Rattle.cyc_types.specs.Runs.{Goes, raised_by, lost_by}
use Rattle.cyc_types.specs.declared.level.Soft.{Soft}
use Rattle.cyc_types.specs.declared.level.Soft.TheVariants.{Low, Lock}
use Rattle.cyc_cpu.specs.Cpu.{CpuView}
use Rattle.cyc_cpu.specs.Calls.{CpuCall, CpuChanges as CpuChanges, AskSettled}
use Rattle.cyc_system_laws.proofs.Stills.{still_raises, changes_still}
use Rattle.cyc_agreement.specs.Cpus.{CpusView}
use Rattle.cyc_system_workers.specs.WorkersSettling.{AsksSettled}
use Rattle.cyc_system_workers.specs.Settled.{AllAsked}
use Rattle.cyc_system_laws.specs.System.{SystemView}
use Rattle.cyc_system_laws.specs.SystemCalls.{SystemCall, Changes}
use Rattle.cyc_system_laws.specs.Parts.{CpusCall, OnCpu, SetOnline, DoesPart}
use Rattle.cyc_system_laws.proofs.Pieces.{made_of}
use Rattle.cyc_system_laws.proofs.Lengths.{changes_long}
use Rattle.cyc_system_laws.proofs.Flow.{sum_set}
use Rattle.cyc_system_workers.specs.declared.side.SystemSide.{SystemSide}
use Rattle.cyc_system_rings.specs.Leading.{LeadCall, Make, FireAll, AskAll, Leads}
use Rattle.cyc_system_rings.specs.ByLevel.{end_of}

-- equal lists, element by element
pub sums_same : {A : Type 0} (h : A → ℕ) (xs ys : List A) → length ys ≡ length xs
    → ((n : ℕ) (x y : A) → slice_get xs n ≡ Some x → slice_get ys n ≡ Some y → h y ≡ h x) → sum_by h ys ≡ sum_by h xs
sums_same h [] [] e same = refl
sums_same h [] (y ∷ ys) e same = absurd (omega (arith, e))
sums_same h (x ∷ xs) [] e same = absurd (omega (arith, e))
sums_same h (x ∷ xs) (y ∷ ys) e same =
    let a = sum_by-cons h x xs in let b = sum_by-cons h y ys in let c = same 0 x y refl refl in
    let d = sums_same h xs ys (omega (arith, e)) (λ n p q. same (suc n) p q) in omega (arith, a, b, c, d)

pub maps_same : {A : Type 0} (h : A → ℕ) (xs ys : List A) → length ys ≡ length xs
    → ((n : ℕ) (x y : A) → slice_get xs n ≡ Some x → slice_get ys n ≡ Some y → h y ≡ h x) → map h ys ≡ map h xs
maps_same h [] [] e same = refl
maps_same h [] (y ∷ ys) e same = absurd (omega (arith, e))
maps_same h (x ∷ xs) [] e same = absurd (omega (arith, e))
maps_same h (x ∷ xs) (y ∷ ys) e same =
    let c = same 0 x y refl refl in let d = maps_same h xs ys (omega (arith, e)) (λ n p q. same (suc n) p q) in
    λ i. c i ∷ d i

-- two sums in one
pub sum_both : {A : Type 0} (f g : A → ℕ) (xs : List A) → sum_by (λ x. f x + g x) xs ≡ sum_by f xs + sum_by g xs
sum_both f g [] = refl
sum_both f g (x ∷ xs) =
    let a = sum_by-cons (λ x. f x + g x) x xs in let b = sum_by-cons f x xs in let c = sum_by-cons g x xs in
    let d = sum_both f g xs in omega (arith, a, b, c, d)

-- lists of CPUs and of what leads them, before and after: what is so of each is so of all together
pub sums_even : {A B : Type 0} (f g : A → ℕ) (h : B → ℕ) (xs ys : List A) (ls ms : List B) → length ys ≡ length xs
    → length ls ≡ length xs → length ms ≡ length xs
    → ((n : ℕ) (x y : A) (l m : B) → slice_get xs n ≡ Some x → slice_get ys n ≡ Some y → slice_get ls n ≡ Some l
    → slice_get ms n ≡ Some m → f y + g x + h l ≡ f x + g y + h m)
    → sum_by f ys + sum_by g xs + sum_by h ls ≡ sum_by f xs + sum_by g ys + sum_by h ms
sums_even f g h [] [] [] [] a b c each = refl
sums_even f g h [] (y ∷ ys) ls ms a b c each = absurd (omega (arith, a))
sums_even f g h [] [] (l ∷ ls) ms a b c each = absurd (omega (arith, b))
sums_even f g h [] [] [] (m ∷ ms) a b c each = absurd (omega (arith, c))
sums_even f g h (x ∷ xs) [] ls ms a b c each = absurd (omega (arith, a))
sums_even f g h (x ∷ xs) (y ∷ ys) [] ms a b c each = absurd (omega (arith, b))
sums_even f g h (x ∷ xs) (y ∷ ys) (l ∷ ls) [] a b c each = absurd (omega (arith, c))
sums_even f g h (x ∷ xs) (y ∷ ys) (l ∷ ls) (m ∷ ms) a b c each =
    let rest = sums_even f g h xs ys ls ms (omega (arith, a)) (omega (arith, b)) (omega (arith, c))
    (λ n x y l m p q r s. each (suc n) x y l m p q r s) in
    let one = each 0 x y l m refl refl refl refl in
    let p = sum_by-cons f y ys in let q = sum_by-cons g x xs in let r = sum_by-cons h l ls in
    let t = sum_by-cons f x xs in let u = sum_by-cons g y ys in let v = sum_by-cons h m ms in
    omega (arith, rest, one, p, q, r, t, u, v)

module _ {C R : Type 0} (handler : Calls C) (firing : Raise R) where
  -- there is still something to lead each CPU
  pub leads_long : (s t : SystemSide R C) (call : LeadCall) → Leads handler firing s call t
      → length s.leads.items ≡ length s.system.cpus.cpus → length t.leads.items ≡ length t.system.cpus.cpus
  leads_long s t (Make call) (d, e) ready =
      let a = changes_long firing s.system t.system call d in
      let b : length t.leads.items ≡ length s.leads.items = λ i. length (e i).items in omega (arith, a, b, ready)
  leads_long s t (FireAll now) (after, f, same) ready =
      let a = f.long in let b = f.long_leads in
      subst (λ (x : SystemSide R C). length x.leads.items ≡ length x.system.cpus.cpus) (sym same) (omega (arith, a, b, ready))
  leads_long s t AskAll a ready = let b : length t.leads.items ≡ length s.leads.items = λ i. length (a.leads i).items in
      let c = a.cpus.long in omega (arith, b, c, ready)

-- something stands at each position below the length
pub stands : {A : Type 0} (xs : List A) (n : ℕ) → n < length xs → (x : A) × (slice_get xs n ≡ Some x)
stands [] n low = absurd (omega (arith, low))
stands (x ∷ xs) zero low = (x, refl)
stands (x ∷ xs) (suc n) low = stands xs n (omega (arith, low))

-- CPUs that were asked have the same cyclics
pub asked_cyclics : {R : Type 0} (firing : Raise R) (answers : List Bool)
    (x y : CpuView R) → FoldsTo (AsksSettled firing) x answers y → y.cyclics ≡ x.cyclics
asked_cyclics firing [] x y e = ap (λ (z : CpuView _). z.cyclics) (sym e)
asked_cyclics firing (true ∷ answers) x y (z, (first, lawful), rest) = asked_cyclics firing answers z y rest
    ∙ first.0.cyclics
asked_cyclics firing (false ∷ answers) x y (z, (first, lawful), rest) = asked_cyclics firing answers z y rest
    ∙ first.0.cyclics

module _ {R : Type 0} (firing : Raise R) (raised dropped : ℕ → R → ℕ)
    (adds : (e f : R) (way : List FiringCall) → Goes firing e way f → (id : ℕ)
    → (raised id f ≡ raised id e + raised_by id way) × (dropped id f ≡ dropped id e + lost_by id way)) (id : ℕ) where
  -- ---- at one soft level

  abbrev pub raised_end : Soft → CpuView R → ℕ
  raised_end soft cpu = raised id (end_of soft cpu)

  abbrev pub dropped_end : Soft → CpuView R → ℕ
  dropped_end soft cpu = dropped id (end_of soft cpu)

  abbrev pub SameEnds : Soft → List (CpuView R) → List (CpuView R) → Type 0
  SameEnds soft xs ys = (sum_by (raised_end soft) ys ≡ sum_by (raised_end soft) xs)
      × (sum_by (dropped_end soft) ys ≡ sum_by (dropped_end soft) xs)

  -- a call that reaches no handler raises nothing
  still_end : (soft : Soft) (x y : CpuView R) (call : CpuCall) → CpuChanges firing x call y
      → (raised_end soft y ≡ raised_end soft x) × (dropped_end soft y ≡ dropped_end soft x)
  still_end Lock x y call d =
      let st = changes_still firing x y call d in let (a, b) = adds x.lock y.lock st.lock.way st.lock.goes id in
      let (p, q) = still_raises x.size y.size id st.lock.way st.lock.still in (omega (arith, a, p), omega (arith, b, q))
  still_end Low x y call d =
      let st = changes_still firing x y call d in let (a, b) = adds x.low y.low st.low.way st.low.goes id in
      let (p, q) = still_raises x.size y.size id st.low.way st.low.still in (omega (arith, a, p), omega (arith, b, q))

  part_same : (soft : Soft) (p : CpusCall) (v w : CpusView R) → DoesPart firing v p w → SameEnds soft v.cpus w.cpus
  part_same soft (OnCpu c) v w d =
      let (a, b) = still_end soft d.before d.after c.call d.change in
      let x = sum_set (raised_end soft) v.cpus c.cpu d.before d.after d.here in
      let y = sum_set (dropped_end soft) v.cpus c.cpu d.before d.after d.here in
      let p = ap (λ (u : CpusView R). sum_by (raised_end soft) u.cpus) d.rest in
      let q = ap (λ (u : CpusView R). sum_by (dropped_end soft) u.cpus) d.rest in
      (omega (arith, a, x, p), omega (arith, b, y, q))
  part_same soft (SetOnline n online) v w e = (
    ap (λ (u : CpusView R). sum_by (raised_end soft) u.cpus) e,
    ap (λ (u : CpusView R). sum_by (dropped_end soft) u.cpus) e,
  )

  parts_same : (soft : Soft) (way : List CpusCall) (v w : CpusView R) → FoldsTo (DoesPart firing) v way w
      → SameEnds soft v.cpus w.cpus
  parts_same soft [] v w e = (
    ap (λ (u : CpusView R). sum_by (raised_end soft) u.cpus) (sym e),
    ap (λ (u : CpusView R). sum_by (dropped_end soft) u.cpus) (sym e),
  )
  parts_same soft (p ∷ way) v w (u, first, rest) =
      let (a, b) = part_same soft p v u first in let (c, d) = parts_same soft way u w rest in (c ∙ a, d ∙ b)

  pub changes_end : (soft : Soft) (s t : SystemView R) (call : SystemCall) → Changes firing s call t
      → SameEnds soft s.cpus.cpus t.cpus.cpus
  changes_end soft s t call d = let m = made_of firing s t call d in parts_same soft m.way s.cpus t.cpus m.works

  -- nor does a question
  asks_same : (soft : Soft) (answers : List Bool) (x y : CpuView R) → FoldsTo (AsksSettled firing) x answers y
      → (raised_end soft y ≡ raised_end soft x) × (dropped_end soft y ≡ dropped_end soft x)
  asks_same soft [] x y e = (ap (raised_end soft) (sym e), ap (dropped_end soft) (sym e))
  asks_same soft (answer ∷ answers) x y (z, (first, lawful), rest) =
      let (a, b) = still_end soft x z (AskSettled answer) first in let (c, d) = asks_same soft answers z y rest in (c ∙ a, d ∙ b)

  pub asked_end : (soft : Soft) (xs ys : List (CpuView R)) → AllAsked firing xs ys → SameEnds soft xs ys
  asked_end soft xs ys a = (
    sums_same (raised_end soft) xs ys a.long (λ n x y p q. (let s = a.each n x y p q in (asks_same soft s.0 x y s.1).0)),
    sums_same (dropped_end soft) xs ys a.long (λ n x y p q. (let s = a.each n x y p q in (asks_same soft s.0 x y s.1).1)),
  )

  -- ---- at both

  abbrev pub raised_at : CpuView R → ℕ
  raised_at cpu = raised_end Lock cpu + raised_end Low cpu

  abbrev pub dropped_at : CpuView R → ℕ
  dropped_at cpu = dropped_end Lock cpu + dropped_end Low cpu

  abbrev pub Same : List (CpuView R) → List (CpuView R) → Type 0
  Same xs ys = (sum_by raised_at ys ≡ sum_by raised_at xs) × (sum_by dropped_at ys ≡ sum_by dropped_at xs)

  both_same : (xs ys : List (CpuView R)) → SameEnds Lock xs ys → SameEnds Low xs ys → Same xs ys
  both_same xs ys (a, b) (c, d) =
      let p = sum_both (raised_end Lock) (raised_end Low) xs in let q = sum_both (raised_end Lock) (raised_end Low) ys in
      let r = sum_both (dropped_end Lock) (dropped_end Low) xs in let s = sum_both (dropped_end Lock) (dropped_end Low) ys in
      (omega (arith, a, c, p, q), omega (arith, b, d, r, s))

  pub changes_raise : (s t : SystemView R) (call : SystemCall) → Changes firing s call t → Same s.cpus.cpus t.cpus.cpus
  changes_raise s t call d =
      both_same s.cpus.cpus t.cpus.cpus (changes_end Lock s t call d) (changes_end Low s t call d)

  pub asked_raise : (xs ys : List (CpuView R)) → AllAsked firing xs ys → Same xs ys
  asked_raise xs ys a = both_same xs ys (asked_end Lock xs ys a) (asked_end Low xs ys a)
