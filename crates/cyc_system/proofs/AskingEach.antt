-- A CPU is asked for each of its cyclics.
use Rattle.std.proofs.Common.{◌≡◌, ℕ, zero, suc, ◌+◌, ◌<◌, ◌≤◌, Some, List, [], ◌∷◌, ◌++◌, length, take, drop, get_or, refl, sym}
use Rattle.std.proofs.Common.{ap, ◌∙◌, subst, arith}
use Rattle.std.specs.List.{slice_get}
use Rattle.std.proofs.lemmas.List.{map-append, take-append-drop}
use mathlib.Core.Logic.{dite}
use native.Mathlib.Decide.{ℕ_discrete}
use Rattle.cyc_types.specs.declared.Raise.{Ghosts as Raise}
use Rattle.cyc_types.specs.declared.level.Level.TheVariants.{Low, Lock}
use Rattle.cyc_types.proofs.Runs.{folds_more}
use Rattle.cyc_cpu.specs.Rows.{Cyclic}
use Rattle.cyc_cpu.specs.Cpu.{CpuView, IsCyclic, Asks, seen_at}
use Rattle.cyc_cpu.specs.Calls.{CpuChanges, AskPending}
use Rattle.cyc_cpu.proofs.Inquiring.{asked_lowers}
use Rattle.cyc_places.specs.Places.{RecordsView}
use Rattle.cyc_agreement.specs.Cpus.{CpusView, IsCpu, OfCpu, with_cpu, CallOn, on, DoesAt, Works}
use Rattle.cyc_agreement.proofs.CpuSpots.{of_cpu, cpu_there, changed}
use Rattle.cyc_agreement.specs.System.{ids_on}
use Rattle.cyc_agreement.proofs.Spots.{same_some}
use Rattle.cyc_agreement.specs.Agreement.{Agrees}
use Rattle.cyc_agreement.specs.Holding.{EndedWithin}
use Rattle.cyc_agreement.proofs.Given.{agrees_same}
use Rattle.cyc_agreement.proofs.Holding.{within_same}
use Rattle.cyc_agreement.proofs.Who
use Rattle.cyc_system.specs.Juggling.{system_of}
use Rattle.cyc_system.specs.GoingOffline.{quiet, FindsPending}
use Rattle.cyc_system.specs.Walking.{HaveNoCalls}
use Rattle.cyc_system.proofs.ListsUpTo.{take_more, drop_more, take_whole, none_more}
use Rattle.cyc_system.proofs.Places.{cyclic_at, length_is}

by_default : (cs : List Cyclic) (k : ℕ) (a b : Cyclic) → k < length cs → get_or cs k a ≡ get_or cs k b
by_default [] k a b low = absurd (omega (arith, low))
by_default (c ∷ cs) zero a b low = refl
by_default (c ∷ cs) (suc k) a b low = by_default cs k a b (omega (arith, low))

module _ {R : Type 0} (firing : Raise R) where
  -- a question raises what was seen of no cyclic
  pub lowers : (id n j : ℕ) (x y : CpuView R) → Asks firing id n x y → seen_at firing.view j y ≤ seen_at firing.view j x
  lowers id n j x y a =
      let lock = asked_lowers firing Lock a.cyclic.timer.level id n j x.lock y.lock a.lock in
      let low = asked_lowers firing Low a.cyclic.timer.level id n j x.low y.low a.low in omega (arith, lock, low)

  module _ (source : ℕ) (v : CpusView R) where
    -- those below this position were asked for, and none has a call outstanding
    pub record Asked (position : ℕ) (w : CpusView R) : Type 0 where
      pub works : Works firing (quiet source (take position (ids_on source v))) v w
      pub same : Who.SameWho v w
      pub quiet_below : OfCpu source (λ cpu. (k : ℕ) (c : Cyclic) → k < position → IsCyclic cpu.cyclics k c
          → seen_at firing.view c.timer.id cpu ≡ 0) w

    pub asked_none : Asked 0 v
    asked_none = record { works = refl; same = Who.same_none v; quiet_below = λ cpu at k c low. absurd (omega (arith, low)) }

    module _ (position id : ℕ) (w : CpusView R) (x y : CpuView R) (i : Asked position w)
        (spot : slice_get (ids_on source w) position ≡ Some id) (at : IsCpu source x w) where
      spot_first : slice_get (ids_on source v) position ≡ Some id
      spot_first = ap (λ ids. slice_get ids position) (sym (i.same.ids source)) ∙ spot

      way_more : (n : ℕ) → CpuChanges firing x (AskPending id (Some n)) y
          → Works firing (quiet source (take position (ids_on source v)) ++ on source (AskPending id (Some n)) ∷ []) v
          (with_cpu w source y)
      way_more n did = folds_more (DoesAt firing) v (quiet source (take position (ids_on source v))) w
          (on source (AskPending id (Some n))) (with_cpu w source y) i.works (changed source _ x y w at did)

      pub asked_more : CpuChanges firing x (AskPending id (Some 0)) y → Asked (position + 1) (with_cpu w source y)
      asked_more did = record {
        works = subst (λ way. Works firing way v (with_cpu w source y))
            (sym (ap (λ ids. quiet source ids) (take_more (ids_on source v) position id spot_first)
            ∙ map-append (λ j. on source (AskPending j (Some 0))) (take position (ids_on source v)) (id ∷ [])))
            (way_more 0 did);
        same = Who.same_then v w (with_cpu w source y) i.same
            (Who.same_at w source x y at (Who.same_asked firing x y id 0 did.0));
        quiet_below = of_cpu source _ y (with_cpu w source y) (cpu_there source x y w at) (λ k c low is.
            (let was : IsCyclic x.cyclics k c = subst (λ cs. IsCyclic cs k c) did.0.cyclics is in
            dite (ℕ_discrete k position)
            (λ e. (let (d, here, spot2) = cyclic_at w source x at k was.0 in
            let same_d : d ≡ c = sym here.1 ∙ by_default x.cyclics k d c was.0 ∙ was.1 in
            let own : c.timer.id ≡ id = ap (λ (z : Cyclic). z.timer.id) (sym same_d)
            ∙ same_some (sym spot2 ∙ ap (λ m. slice_get (ids_on source w) m) e ∙ spot) in
            ap (λ j. seen_at firing.view j y) own ∙ did.1))
            (λ ne. (let z = i.quiet_below x at k c (omega (arith, low, ne)) was in let l = lowers id 0 c.timer.id x y did.0 in
            omega (arith, z, l)))));
      }

      pub finds : (n : ℕ) → 0 < n → CpuChanges firing x (AskPending id (Some n)) y → (records : RecordsView) (last : ℕ)
          → FindsPending firing source (system_of v records last) (system_of (with_cpu w source y) records last)
      finds n some did records last = (
        take position (ids_on source v),
        id,
        (
          drop (position + 1) (ids_on source v),
          sym (take-append-drop position (ids_on source v))
              ∙ ap (λ l. take position (ids_on source v) ++ l) (drop_more (ids_on source v) position id spot_first),
        ),
        n,
        some,
        (way_more n did, refl, refl),
      )

    pub asked_all : (position : ℕ) (w : CpusView R) → length (ids_on source v) ≤ position → Asked position w
        → Works firing (quiet source (ids_on source v)) v w
    asked_all position w all i = subst (λ ids. Works firing (quiet source ids) v w)
        (take_whole (ids_on source v) position (none_more (ids_on source v) position all)) i.works

    pub all_quiet : (position : ℕ) (w : CpusView R) → length (ids_on source v) ≤ position → Asked position w
        → OfCpu source (HaveNoCalls firing.view) w
    all_quiet position w all i cpu at k c is =
        let l = length_is w source cpu at in let same = ap length (i.same.ids source) in let low = is.0 in
        i.quiet_below cpu at k c (omega (arith, l, same, low, all)) is

  -- questions change no cyclic's placement
  pub asks_then : (n : ℕ) (ids : List ℕ) (way : List CallOn) (v w : CpusView R) → Works firing (quiet n ids ++ way) v w
      → (u : CpusView R) × Who.SameWho v u × Works firing way u w
  asks_then n [] way v w works = (v, Who.same_none v, works)
  asks_then n (id ∷ ids) way v w (m, asks, rest) =
      let (u, same, more) = asks_then n ids way m w rest in (
        u,
        Who.same_then v m u (Who.same_changed n _ v m asks (Who.same_asked firing asks.before asks.after id 0 asks.change.0))
            same,
        more,
      )

  pub asks_same : (n : ℕ) (ids : List ℕ) (v w : CpusView R) → Works firing (quiet n ids) v w → Who.SameWho v w
  asks_same n [] v w works = subst (λ u. Who.SameWho v u) works (Who.same_none v)
  asks_same n (id ∷ ids) v w (m, asks, rest) =
      Who.same_then v m w (Who.same_changed n _ v m asks (Who.same_asked firing asks.before asks.after id 0 asks.change.0))
      (asks_same n ids m w rest)

  pub finds_same : (n id found : ℕ) (ids : List ℕ) (v w : CpusView R)
      → Works firing (quiet n ids ++ on n (AskPending id (Some found)) ∷ []) v w → Who.SameWho v w
  finds_same n id found ids v w works =
      let (u, same, (m, asks, last)) = asks_then n ids (on n (AskPending id (Some found)) ∷ []) v w works in
      subst (λ x. Who.SameWho v x) last (Who.same_then v u m same
      (Who.same_changed n _ u m asks (Who.same_asked firing asks.before asks.after id found asks.change.0)))

-- a list of no length
pub no_ids : {A : Type 0} (xs : List A) → length xs ≡ 0 → xs ≡ []
no_ids [] e = refl
no_ids (x ∷ xs) e = absurd (omega (arith, e))

-- where the CPU found a call outstanding, the CPUs and the records agree as before
pub agrees_found : {R : Type 0} (firing : Raise R) (n last : ℕ) (v w : CpusView R)
    (rs : RecordsView)
    → FindsPending firing n (system_of v rs last) (system_of w rs last) → Agrees (system_of v rs last)
    → Agrees (system_of w rs last)
agrees_found firing n last v w rs (before, id, stands, found, some, (works, records, same)) a =
    agrees_same (system_of v rs last) w a (finds_same firing n id found before v w works)

pub within_found : {R : Type 0} (firing : Raise R) (n last : ℕ) (v w : CpusView R)
    (rs : RecordsView)
    → FindsPending firing n (system_of v rs last) (system_of w rs last) → EndedWithin (system_of v rs last)
    → EndedWithin (system_of w rs last)
within_found firing n last v w rs (before, id, stands, found, some, (works, records, same)) h =
    within_same (system_of v rs last) (system_of w rs last) (finds_same firing n id found before v w works).most refl h
