-- A new system agrees with its records, of which there is none.
use Rattle.std.proofs.Common.{Bool, ◌≡◌, ℕ, ◌<◌, ◌≤◌, Option, Some, None, List, [], length, replicate, zero, suc, option_map}
use Rattle.std.proofs.Common.{true, false, refl, sym, ap, ◌∙◌, arith}
use Rattle.std.specs.List.{slice_get, list_any}
use Rattle.std.specs.Option.{option_map_or}
use Rattle.std.specs.Prelude.{◌==◌}
use Rattle.std.proofs.lemmas.Option.{slice_get-map}
use Rattle.std.proofs.lemmas.List.{length-map, length-replicate}
use Rattle.cyc_agreement.specs.Cpus.{new_cpus, new_cpu}
use Rattle.cyc_agreement.specs.System.{ids_of, has}
use Rattle.cyc_agreement.specs.Agreement.{Agrees, most_on, suspended_on}
use Rattle.cyc_agreement.proofs.Spots.{none_some, same_some}
use Rattle.cyc_agreement.proofs.Lists.{false_true}

no_ids : {R : Type 0} (most : ℕ) (o : Option (R × R))
    → option_map_or ids_of (option_map (λ (e : R × R). new_cpu most e.0 e.1) o) [] ≡ []
no_ids most None = refl
no_ids most (Some e) = refl

pub none_has : {R : Type 0} (most : ℕ) (ends : List (R × R)) (n id : ℕ) → has n id (new_cpus most ends) ≡ false
none_has {R} most ends n id = ap (λ (ids : List ℕ). list_any (λ own. own == id) ids)
    (ap (λ o. option_map_or ids_of o []) (slice_get-map (λ (e : R × R). new_cpu most e.0 e.1) ends n)
    ∙ no_ids most (slice_get ends n))

its_most : {R : Type 0} (most : ℕ) (o : Option (R × R)) (a : ℕ)
    → option_map (λ cpu. cpu.most) (option_map (λ (e : R × R). new_cpu most e.0 e.1) o) ≡ Some a → most ≡ a
its_most most None a e = absurd (none_some e)
its_most most (Some x) a e = same_some e

its_mark : {R : Type 0} (most : ℕ) (o : Option (R × R)) (a : Bool)
    → option_map (λ cpu. cpu.suspended) (option_map (λ (e : R × R). new_cpu most e.0 e.1) o) ≡ Some a → false ≡ a
its_mark most None a e = absurd (none_some e)
its_mark most (Some x) a e = same_some e

pub agrees_new : {R : Type 0} (most last : ℕ) (ends : List (R × R)) → 0 < length ends → length ends ≤ 16
    → Agrees (record { cpus = new_cpus most ends; records = []; last = last })
agrees_new {R} most last ends some few = record {
  known = λ n id h. absurd (false_true (sym (none_has most ends n id) ∙ h));
  home = λ k n bound r is. absurd (none_some is);
  everywhere = λ k n r is. absurd (none_some is);
  ended = λ k n r is. absurd (none_some is);
  single = λ k n r is. absurd (none_some is);
  given = λ k r is. absurd (none_some is);
  few = (let l = length-map ends (λ (e : R × R). new_cpu most e.0 e.1) in omega (arith, l, few));
  long = length-replicate (length ends) true ∙ sym (length-map ends (λ (e : R × R). new_cpu most e.0 e.1));
  some = (0, first (length ends) some);
  most = λ n m a b x y. sym (most_at n a x) ∙ most_at m b y;
  suspended = λ n m a b x y. sym (suspended_at n a x) ∙ suspended_at m b y;
}
  where
    first : (n : ℕ) → 0 < n → option_map_or (λ online. online) (slice_get (replicate n true) 0) false ≡ true
    first zero low = absurd (omega (arith, low))
    first (suc n) low = refl

    suspended_at : (n : ℕ) (a : Bool) → suspended_on n (new_cpus most ends) ≡ Some a → false ≡ a
    suspended_at n a x = its_mark most (slice_get ends n) a
        (sym (ap (λ o. option_map (λ cpu. cpu.suspended) o) (slice_get-map (λ (e : R × R). new_cpu most e.0 e.1) ends n)) ∙ x)

    most_at : (n a : ℕ) → most_on n (new_cpus most ends) ≡ Some a → most ≡ a
    most_at n a x = its_most most (slice_get ends n) a
        (sym (ap (λ o. option_map (λ cpu. cpu.most) o) (slice_get-map (λ (e : R × R). new_cpu most e.0 e.1) ends n)) ∙ x)
