-- Before the first step no name has anything, all CPUs are online, and nothing is open.
use Rattle.std.proofs.Common.{◌≡◌, ◌∙◌, ℕ, ◌-◌, true, false, List, length, replicate, sym, ap, arith}
use Rattle.std.proofs.lemmas.List.{length-replicate, get_or-replicate, get_or_past}
use Rattle.std.specs.Prelude.{slice_index_or}
use mathlib.Core.Logic.{dite}
use native.Mathlib.Decide.{ℕ_discrete}
use Rattle.cyc_ring.specs.declared.ends.RaiseEnd.{RaiseEnd}
use Rattle.cyc_ring.specs.Ends.{raise_end}
use Rattle.cyc_thread_calls.proofs.Spots.{none_some}
use Rattle.cyc_thread_calls.specs.Seated.{Seated}
use Rattle.cyc_thread_calls.specs.Named.{Named}
use Rattle.cyc_thread_calls.specs.Named.TheVariants.{Nothing}
use Rattle.cyc_thread_calls.specs.Progress.{Progress}
use Rattle.cyc_thread_calls.specs.Names.{named_at, cyclic_id}
use Rattle.cyc_thread_calls.specs.Running.{IsAtFirst}
use Rattle.cyc_thread_calls.proofs.Beginning.{first_fits as calm_fits}
use Rattle.cyc_thread_reasons.specs.Known.{Absent, known_first}
use Rattle.cyc_thread_reasons.specs.Reasons.{is_there}
use Rattle.cyc_thread_reasons.proofs.Whereabouts.{stands_in}
use Rattle.cyc_thread_reasons.proofs.Fitting.{given_of, Fits}

all_alike : {A : Type 0} (x : A) (names a : ℕ) → slice_index_or (replicate names x) a x ≡ x
all_alike x names a = dite (ℕ_discrete (names - a) 0)
    (λ z. get_or_past (replicate names x) a x (let n = length-replicate names x in omega (arith, z, n)))
    (λ p. get_or-replicate names a x x (omega (arith, p)))

module _ {C : Type 0} (names cpus : ℕ) (all : List (Seated C)) (p : Progress RaiseEnd C) (first : IsAtFirst names all p)
    (many : length all ≡ cpus) where
  nothing_at : (a : ℕ) → named_at p.names a ≡ Nothing
  nothing_at a = ap (λ ns. named_at ns a) first.names_are ∙ all_alike Nothing names a

  pub first_fits : Fits raise_end names 0 (known_first cpus names) p
  first_fits = let f = calm_fits names cpus all p first many in record {
    rising = f.rising;
    few = f.few;
    early = f.early;
    long = f.long;
    told_long = length-replicate names Absent;
    online = f.online;
    ups = ap length f.online ∙ length-replicate cpus true ∙ sym f.many;
    ready = f.ready;
    fresh = λ a high. nothing_at a;
    each = λ a. all_alike Absent names a ∙ sym (ap (λ (n : Named). given_of n p.side.system) (nothing_at a));
    there = λ a id e. absurd (none_some (sym (ap cyclic_id (nothing_at a)) ∙ ap cyclic_id e));
    ids = f.ids;
    own = f.own;
    known = λ id e. absurd (let odd : false ≡ true = sym (ap (λ rs. is_there (stands_in id rs)) first.records) ∙ e in cc);
  }
