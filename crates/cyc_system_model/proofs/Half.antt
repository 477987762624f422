-- A system in the middle of a call: what holds of it also where its CPUs and its records don't agree yet.
use Rattle.std.proofs.Common.{◌≡◌, ◌≢◌, ℕ, zero, suc, ◌+◌, ◌<◌, ◌≤◌, ◌⊎◌, inl, inr, List, [], ◌∷◌, ◌++◌, length, get_or, Some}
use Rattle.std.proofs.Common.{refl, ap, sym, ◌∙◌, subst, arith}
use Rattle.std.specs.Prelude.{slice_set, remove}
use Rattle.std.specs.List.{slice_get}
use Rattle.std.proofs.lemmas.Option.{slice_get_within}
use Rattle.std.proofs.lemmas.List.{length-set, length-replicate, get_or-set_other}
use mathlib.Core.Logic.{dite}
use native.Mathlib.Decide.{ℕ_discrete}
use Rattle.cyc_types.specs.declared.firing.Sent.{Sent}
use Rattle.cyc_types.specs.declared.level.Level.{Level}
use Rattle.cyc_types.specs.Counting.{no_counts}
use Rattle.cyc_core.specs.Tables.{Tables}
use Rattle.cyc_cpu.specs.Soft.{raise_tables}
use Rattle.cyc_cpu.specs.Calls.{CpuCall}
use Rattle.cyc_places.proofs.Counts.{get_either}
use Rattle.cyc_places.specs.declared.record.Placement.{Placement as RecordPlacement}
use Rattle.cyc_places.specs.declared.record.Record.{Record}
use Rattle.cyc_places.specs.Places.{IsRecord, HasRisingIds, ended_on, with_ended, new_record}
use Rattle.cyc_system.specs.Cpus.{CpusView, CallOn, on, DoesAt, Works}
use Rattle.cyc_system.proofs.CpusSpots.{get_set_same, get_set_other}
use Rattle.cyc_system.specs.System.{SystemView}
use Rattle.cyc_system.specs.Agreement.{Agrees}
use Rattle.cyc_system.proofs.Spots.{same_some, none_some}
use Rattle.cyc_system_model.specs.Shown.{shown_cpus, AllFull, AreTied, IsSystem}
use Rattle.cyc_system_model.proofs.Lists.{same_all, length_set}
use Rattle.cyc_model.specs.Cpu.{Cpu}
use Rattle.cyc_system_model.proofs.Cpus.{long_shown, done_at, DoneAt}

pub record Half (v : SystemView Tables) : Type 0 where
  pub long : length v.cpus.online ≡ length v.cpus.cpus
  pub few : length v.cpus.cpus ≤ 16
  pub tied : AreTied v.cpus
  pub rising : HasRisingIds v.records
  pub full : AllFull (length v.cpus.cpus) v.records
  pub given : (k : ℕ) (r : Record) → IsRecord v.records k r → r.id ≤ v.last

pub half : (v : SystemView Tables) → IsSystem v → Half v
half v sys = record {
  long = sys.agrees.long;
  few = sys.agrees.few;
  tied = sys.tied;
  rising = sys.rising;
  full = sys.full;
  given =
      sys.agrees.given;
}

-- and a system again, where they do
pub whole : (v : SystemView Tables) → Half v → Agrees v → IsSystem v
whole v h agrees = record { agrees = agrees; rising = h.rising; full = h.full; tied = h.tied }

pub half_same : (v w : SystemView Tables) → Half v → w ≡ v → Half w
half_same v w h same = subst Half (sym same) h

pub half_parts : (v w : SystemView Tables) → Half v → w.cpus ≡ v.cpus → w.records ≡ v.records → w.last ≡ v.last → Half w
half_parts v w h cpus records last = half_same v w h (λ z. record { cpus = cpus z; records = records z; last = last z })

-- ---- calls on its CPUs

pub half_cpus : (v : SystemView Tables) (u : CpusView Tables) → Half v → AreTied u → length u.online ≡ length u.cpus
    → length u.cpus ≡ length v.cpus.cpus
    → Half (record v { cpus = u })
half_cpus v u h tied long same = record {
  long = long;
  few = (let f = h.few in omega (arith, f, same));
  tied = tied;
  rising = h.rising;
  full = subst (λ n. AllFull n v.records) (sym same) h.full;
  given = h.given;
}

-- a call on one CPU leaves as many
pub as_many : (n : ℕ) (c : Cpu) (v u : CpusView Tables) → length v.online ≡ length v.cpus → length u.online ≡ length u.cpus
    → shown_cpus u ≡ slice_set (shown_cpus v) n c → length u.cpus ≡ length v.cpus
as_many n c v u long after cpus =
    let a = long_shown v.online v.cpus long in
    let b = long_shown u.online u.cpus after in
    let same = ap (λ cs. length cs) cpus ∙ length_set (shown_cpus v) n c in
    omega (arith, a, b, same)

pub half_done : (n : ℕ) (call : CpuCall) (v : SystemView Tables) (u : CpusView Tables) → Half v → DoneAt n call v.cpus u
    → Half (record v { cpus = u })
half_done n call v u h d = half_cpus v u h d.tied d.long (as_many n _ v.cpus u h.long d.long d.cpus)

pub half_works : (way : List CallOn) (v : SystemView Tables) (u : CpusView Tables) → Half v → Works raise_tables way v.cpus u
    → Half (record v { cpus = u })
half_works [] v u h same = half_parts v (record v { cpus = u }) h (sym same) refl refl
half_works (c ∷ way) v u h (x, did, rest) =
    half_works way (record v { cpus = x }) u (half_done c.cpu c.call v x h (done_at c.cpu c.call v.cpus x h.long h.tied did)) rest

-- ---- its records

-- one record of the same id in the place of another
rises_set : (rs : List Record) (k : ℕ) (r x : Record) → HasRisingIds rs → IsRecord rs k r → x.id ≡ r.id
    → HasRisingIds (slice_set rs k x)
rises_set rs k r x rising is same i j a b less at_i at_j =
    let (c, there, named) = back i a at_i in
    let (d, here, known) = back j b at_j in
    let below = rising i j c d less there here in
    omega (arith, below, named, known)
  where
    back : (i : ℕ) (a : Record) → IsRecord (slice_set rs k x) i a → (c : Record) × IsRecord rs i c × (c.id ≡ a.id)
    back i a at = dite (ℕ_discrete i k) (λ e. at_same e)
        (λ ne. (a, sym (get_set_other rs k i x ne) ∙ at, refl))
      where
        at_same : i ≡ k → (c : Record) × IsRecord rs i c × (c.id ≡ a.id)
        at_same e = (
          r,
          subst (λ m. IsRecord rs m r) (sym e) is,
          sym same ∙ ap (λ (y : Record). y.id) (same_some
              (sym (get_set_same rs k x (slice_get_within rs k r is))
              ∙ subst (λ m. slice_get (slice_set rs k x) m ≡ Some a) e at)),
        )

-- a record of the list with another set
pub set_either : (rs : List Record) (k i : ℕ) (r x a : Record) → IsRecord rs k r → IsRecord (slice_set rs k x) i a
    → ((i ≡ k) × (a ≡ x)) ⊎ ((i ≢ k) × IsRecord rs i a)
set_either rs k i r x a is at = dite (ℕ_discrete i k)
    (λ e. inl (
      e,
      sym (same_some (sym (get_set_same rs k x (slice_get_within rs k r is))
          ∙ subst (λ m. slice_get (slice_set rs k x) m ≡ Some a) e at)),
    ))
    (λ ne. inr (ne, sym (get_set_other rs k i x ne) ∙ at))

abbrev pub IsFull : ℕ → Record → Type 0
IsFull cpus r = (length r.ended ≡ 16) × ((n : ℕ) → cpus ≤ n → ended_on n r ≡ no_counts)

pub half_put : (v : SystemView Tables) (k : ℕ) (r x : Record) → Half v → IsRecord v.records k r → x.id ≡ r.id
    → IsFull (length v.cpus.cpus) x
    → Half (record v { records = slice_set v.records k x })
half_put v k r x h is same new = record {
  long = h.long;
  few = h.few;
  tied = h.tied;
  rising = rises_set v.records k r x h.rising is same;
  full = λ i a at. full_either i a (set_either v.records k i r x a is at);
  given = λ i a at. given_either i a (set_either v.records k i r x a is at);
}
  where
    full_either : (i : ℕ) (a : Record) → ((i ≡ k) × (a ≡ x)) ⊎ ((i ≢ k) × IsRecord v.records i a) → IsFull (length v.cpus.cpus) a
    full_either i a (inl (e, own)) = subst (IsFull (length v.cpus.cpus)) (sym own) new
    full_either i a (inr (ne, there)) = h.full i a there

    given_either : (i : ℕ) (a : Record) → ((i ≡ k) × (a ≡ x)) ⊎ ((i ≢ k) × IsRecord v.records i a) → a.id ≤ v.last
    given_either i a (inl (e, own)) = let low = h.given k r is in let named : a.id ≡ x.id = ap (λ (y : Record). y.id) own in
        omega (arith, low, named, same)
    given_either i a (inr (ne, there)) = h.given i a there

-- one more, with a greater id
rises_more : (rs : List Record) (new : Record) → HasRisingIds rs → ((k : ℕ) (r : Record) → IsRecord rs k r → r.id < new.id)
    → HasRisingIds (rs ++ new ∷ [])
rises_more rs new rising below i j a b less at_i at_j = pick (get_either rs new i a at_i) (get_either rs new j b at_j)
  where
    pick : (slice_get rs i ≡ Some a) ⊎ ((i ≡ length rs) × (a ≡ new)) → (slice_get rs j ≡ Some b) ⊎ ((j ≡ length rs) × (b ≡ new))
        → a.id < b.id
    pick (inl there) (inl here) = rising i j a b less there here
    pick (inl there) (inr (last, is)) = subst (λ (x : Record). a.id < x.id) (sym is) (below i a there)
    pick (inr (last, is)) (inl here) = let low = slice_get_within rs j b here in absurd (omega (arith, low, less, last))
    pick (inr (last, is)) (inr (end, same)) = absurd (omega (arith, less, last, end))

new_full : (cpus id : ℕ) (level : Level) (p : RecordPlacement) → IsFull cpus (new_record id level p)
new_full cpus id level p = (length-replicate 16 no_counts, λ n past. same_all 16 n no_counts)

pub half_more : (v : SystemView Tables) (id : ℕ) (level : Level) (p : RecordPlacement) → Half v → id ≡ v.last + 1
    → Half (record v { records = v.records ++ new_record id level p ∷ []; last = id })
half_more v id level p h next = record {
  long = h.long;
  few = h.few;
  tied = h.tied;
  rising = rises_more v.records (new_record id level p) h.rising (λ k r is. let low = h.given k r is in omega (arith, low, next));
  full = λ i a at. full_either i a (get_either v.records (new_record id level p) i a at);
  given = λ i a at. given_either i a (get_either v.records (new_record id level p) i a at);
}
  where
    full_either : (i : ℕ) (a : Record) → (slice_get v.records i ≡ Some a) ⊎ ((i ≡ length v.records) × (a ≡ new_record id level p))
        → IsFull (length v.cpus.cpus) a
    full_either i a (inl there) = h.full i a there
    full_either i a (inr (end, own)) = subst (IsFull (length v.cpus.cpus)) (sym own) (new_full (length v.cpus.cpus) id level p)

    given_either : (i : ℕ) (a : Record) → (slice_get v.records i ≡ Some a)
        ⊎ ((i ≡ length v.records) × (a ≡ new_record id level p)) → a.id ≤ id
    given_either i a (inl there) = let low = h.given i a there in omega (arith, low, next)
    given_either i a (inr (end, own)) = let named : a.id ≡ id = ap (λ (y : Record). y.id) own in omega (arith, named)

-- where a record stood before one went
abbrev pub Stood : List Record → ℕ → ℕ → Record → Type 0
Stood rs k i a = (j : ℕ) × IsRecord rs j a × (((j ≡ i) × (i < k)) ⊎ ((j ≡ suc i) × (k ≤ i)))

stood_later : (x : Record) (rs : List Record) (k i : ℕ) (a : Record) → Stood rs k i a → Stood (x ∷ rs) (suc k) (suc i) a
stood_later x rs k i a (j, there, inl (e, low)) = (suc j, there, inl (ap suc e, omega (arith, low)))
stood_later x rs k i a (j, there, inr (e, high)) = (suc j, there, inr (ap suc e, omega (arith, high)))

-- a list with one record less has no other
pub stood : (rs : List Record) (k i : ℕ) (a : Record) → IsRecord (remove rs k) i a → Stood rs k i a
stood [] zero i a at = absurd (none_some at)
stood [] (suc k) i a at = absurd (none_some at)
stood (x ∷ rs) zero i a at = (suc i, at, inr (refl, omega arith))
stood (x ∷ rs) (suc k) zero a at = (0, at, inl (refl, omega arith))
stood (x ∷ rs) (suc k) (suc i) a at = stood_later x rs k i a (stood rs k i a at)

pub half_gone : (v : SystemView Tables) (k : ℕ) → Half v → Half (record v { records = remove v.records k })
half_gone v k h = record {
  long = h.long;
  few = h.few;
  tied = h.tied;
  rising = λ i j a b less at_i at_j. rises i j a b less (stood v.records k i a at_i) (stood v.records k j b at_j);
  full = λ i a at. let (j, there, rest) = stood v.records k i a at in h.full j a there;
  given = λ i a at. let (j, there, rest) = stood v.records k i a at in h.given j a there;
}
  where
    rises : (i j : ℕ) (a b : Record) → i < j → Stood v.records k i a → Stood v.records k j b → a.id < b.id
    rises i j a b less (p, at_p, inl (e, low)) (q, at_q, inl (f, below)) = h.rising p q a b (omega (arith, less, e, f)) at_p at_q
    rises i j a b less (p, at_p, inl (e, low)) (q, at_q, inr (f, above)) = h.rising p q a b (omega (arith, less, e, f)) at_p at_q
    rises i j a b less (p, at_p, inr (e, high)) (q, at_q, inl (f, below)) = absurd (omega (arith, less, high, below))
    rises i j a b less (p, at_p, inr (e, high)) (q, at_q, inr (f, above)) = h.rising p q a b (omega (arith, less, e, f)) at_p at_q

-- ---- a stay that ends

set_default : {A : Type 0} (xs : List A) (n m : ℕ) (d : A) → get_or xs m d ≡ d → get_or (slice_set xs n d) m d ≡ d
set_default [] n m d is = is
set_default (x ∷ xs) zero zero d is = refl
set_default (x ∷ xs) zero (suc m) d is = is
set_default (x ∷ xs) (suc n) zero d is = is
set_default (x ∷ xs) (suc n) (suc m) d is = set_default xs n m d is

-- its counts are of a CPU that is there
pub ended_full : (n cpus : ℕ) (counts : Sent) (r : Record) → n < cpus → IsFull cpus r → IsFull cpus (with_ended n counts r)
ended_full n cpus counts r low full = (
  length-set r.ended n counts ∙ full.0,
  λ j past. get_or-set_other r.ended n j counts no_counts (λ e. omega (arith, e, past, low)) ∙ full.1 j past,
)

-- or they are gone
pub taken_full : (n cpus : ℕ) (r : Record) → IsFull cpus r → IsFull cpus (with_ended n no_counts r)
taken_full n cpus r full = (length-set r.ended n no_counts ∙ full.0, λ j past. set_default r.ended n j no_counts (full.1 j past))

-- a call on one CPU leaves as many
pub as_low : (n : ℕ) (call : CpuCall) (v : SystemView Tables) (u : CpusView Tables) → Half v
    → DoesAt raise_tables v.cpus (on n call) u → length u.cpus ≡ length v.cpus.cpus
as_low n call v u h did =
    let d = done_at n call v.cpus u h.long h.tied did in
    as_many n _ v.cpus u h.long d.long d.cpus
