-- Before the first step no name has anything, all CPUs are online, and nothing is open.
use Rattle.std.proofs.Common.{refl, false}
use Rattle.std.specs.Option.{option_map, option_map_or}
use Rattle.cyc_agreement.specs.Suspending.{is_suspended}
use Rattle.std.proofs.Common.{◌≡◌, ◌∙◌, ℕ, zero, suc, ◌-◌, true, Some, None, List, [], ◌∷◌, length, map, replicate}
use Rattle.std.proofs.Common.{sym, ap, subst, arith}
use Rattle.std.specs.List.{slice_get}
use Rattle.std.proofs.lemmas.List.{length-map, length-replicate, get_or-replicate, get_or_past}
use mathlib.Core.Logic.{dite}
use native.Mathlib.Decide.{ℕ_discrete}
use Rattle.cyc_ring.specs.declared.ends.RaiseEnd.{RaiseEnd}
use Rattle.cyc_ring.specs.Ends.{raise_end}
use Rattle.cyc_cpu.specs.Cpu.{CpuView}
use Rattle.cyc_places.specs.declared.record.Record.{Record}
use Rattle.cyc_places.specs.Places.{HasRisingIds, HasNoRecord}
use Rattle.cyc_agreement.specs.Cpus.{CpusView, new_cpu}
use Rattle.cyc_threads.proofs.Spots.{none_some, same_some}
use Rattle.cyc_threads.specs.Lead.{Lead}
use Rattle.cyc_threads.specs.Seated.{Seated}
use Rattle.cyc_threads.specs.Rings.{seats_of_ends, firing_seats}
use Rattle.cyc_words.specs.declared.named.Named.{Named}
use Rattle.cyc_words.specs.declared.named.Named.TheVariants.{Nothing}
use Rattle.cyc_threads.specs.declared.progress.Progress.{Progress}
use Rattle.cyc_words.specs.Names.{named_at, cyclic_id, has_open_removal}
use Rattle.cyc_threads.specs.Running.{IsAtFirst, most}
use Rattle.cyc_thread_calls.specs.Way.{Absent}
use Rattle.cyc_thread_calls.proofs.Fitting.{Is, Fits}
use Rattle.cyc_thread_calls.proofs.Waiting.{IsCalmNow}

-- a new CPU has no removal open
new_still : (ends : List (RaiseEnd × RaiseEnd)) (n : ℕ) (x : CpuView RaiseEnd)
    → slice_get (map (λ e. new_cpu most e.0 e.1) ends) n ≡ Some x → x.removal ≡ None
new_still [] n x at = absurd (none_some at)
new_still (e ∷ ends) zero x at = ap (λ (z : CpuView RaiseEnd). z.removal) (sym (same_some at))
new_still (e ∷ ends) (suc n) x at = new_still ends n x at

-- and is not suspended
new_awake : (ends : List (RaiseEnd × RaiseEnd)) → option_map_or (λ suspended. suspended)
    (option_map (λ cpu. cpu.suspended) (slice_get (map (λ e. new_cpu most e.0 e.1) ends) 0)) false ≡ false
new_awake [] = refl
new_awake (e ∷ ends) = refl

no_records : (rs : List Record) → rs ≡ [] → HasRisingIds rs × HasNoRecord 0 rs
no_records [] e = (λ i j r s less a b. absurd (none_some a), λ k d low. absurd (omega (arith, low)))
no_records (r ∷ rs) e = absurd (let odd = ap length e in omega (arith, odd))

all_nothing : (names a : ℕ) → named_at (replicate names Nothing) a ≡ Nothing
all_nothing names a = dite (ℕ_discrete (names - a) 0)
    (λ z. get_or_past (replicate names Nothing) a Nothing (let n = length-replicate names Nothing in omega (arith, z, n)))
    (λ p. get_or-replicate names a Nothing Nothing (omega (arith, p)))

module _ {C : Type 0} (names cpus : ℕ) (all : List (Seated C)) (p : Progress RaiseEnd C) (first : IsAtFirst names all p)
    (many : length all ≡ cpus) where
  ends_long : length first.ends ≡ cpus
  ends_long = sym (length-map first.ends seats_of_ends) ∙ ap length first.own ∙ length-map all firing_seats ∙ many

  cpus_long : length p.side.system.cpus.cpus ≡ cpus
  cpus_long = ap (λ (v : CpusView RaiseEnd). length v.cpus) first.cpus
      ∙ length-map first.ends (λ (e : RaiseEnd × RaiseEnd). new_cpu most e.0 e.1) ∙ ends_long

  leads_long : length p.side.leads.items ≡ cpus
  leads_long = sym (length-map p.side.leads.items (λ (l : Lead C). l.calls)) ∙ ap length first.high
      ∙ length-map all (λ (s : Seated C). s.calls.high) ∙ many

  nothing_at : (a : ℕ) → named_at p.names a ≡ Nothing
  nothing_at a = ap (λ ns. named_at ns a) first.names_are ∙ all_nothing names a

  pub first_fits : Fits raise_end cpus names 0 (λ name. Absent) p
  first_fits = record {
    rising = (no_records p.side.system.records first.records).0;
    above = (no_records p.side.system.records first.records).1;
    few = (let e = first.last in omega (arith, e));
    early = (let e = first.clock in omega (arith, e));
    long = ap length first.names_are ∙ length-replicate names Nothing;
    online = ap (λ (v : CpusView RaiseEnd). v.online) first.cpus ∙ ap (λ (n : ℕ). replicate n true) ends_long;
    many = cpus_long;
    ready = leads_long ∙ sym cpus_long;
    each = λ a. subst (λ (z : Named). Is Absent z p.side.system) (sym (nothing_at a)) tt;
    ids = λ a id e. absurd (none_some (sym (ap cyclic_id (nothing_at a)) ∙ e));
    own = λ a b id e f. absurd (none_some (sym (ap cyclic_id (nothing_at a)) ∙ e));
  }

  pub first_calm : IsCalmNow raise_end p
  first_calm = record {
    none = λ a. ap has_open_removal (nothing_at a);
    still = λ n x at. new_still first.ends n x
        (sym (ap (λ (v : CpusView RaiseEnd). slice_get v.cpus n) first.cpus) ∙ at);
  }

  pub first_awake : is_suspended p.side.system ≡ false
  first_awake = ap (λ (v : CpusView RaiseEnd). option_map_or (λ suspended. suspended)
      (option_map (λ cpu. cpu.suspended) (slice_get v.cpus 0)) false) first.cpus ∙ new_awake first.ends
