-- A new system has what the laws ask of one, and the machine before its first step shows it.
use Rattle.std.proofs.Common.{◌≡◌, ℕ, zero, suc, Bool, true, false, List, [], ◌∷◌, length, map, replicate, Some, None, IsSome}
use Rattle.std.proofs.Common.{refl, sym, subst, arith}
use Rattle.std.specs.List.{slice_get}
use Rattle.cyc_types.specs.declared.level.Soft.{Soft}
use Rattle.cyc_types.specs.declared.level.Soft.TheVariants as soft
use Rattle.cyc_level.specs.Level.{SoftLevel, empty_level}
use Rattle.cyc_core.specs.Tables.{Tables, level_of}
use Rattle.cyc_cpu.specs.Cpu.{CpuView}
use Rattle.cyc_system.specs.Cpus.{new_cpu as new_view}
use Rattle.cyc_system.specs.Agreement.{Agrees}
use Rattle.cyc_system.proofs.Spots.{same_some, none_some}
use Rattle.cyc_model.specs.Cpu.{begun_cpu, handler_level_of}
use Rattle.cyc_model.specs.Serving.{level_at}
use Rattle.cyc_types.specs.Levels.{as_level}
use Rattle.cyc_model.specs.Script.{start}
use Rattle.cyc_system_model.specs.ShownCpu.{shown_cpu}
use Rattle.cyc_system_model.specs.Tied.{IsTied}
use Rattle.cyc_system_model.specs.Shown.{shown_list, IsSystem, ShowsSystem}
use Rattle.cyc_system_model.specs.Kept.{LevelsAreNew, new_system}

no_own : (online : Bool) (most ceiling : ℕ) (lock low : Tables) → level_of lock ≡ empty_level ceiling
    → level_of low ≡ empty_level ceiling
    → (level : Soft) (id : ℕ) → IsSome ((level_at level (shown_cpu online (new_view most lock low))).cyclics id)
    → handler_level_of id (shown_cpu online (new_view most lock low)) ≡ as_level level
no_own online most ceiling lock low a b soft.Lock id is =
    absurd (let isnt : false ≡ true = subst (λ (l : SoftLevel). IsSome (l.cyclics id)) a is in cc)
no_own online most ceiling lock low a b soft.Low id is =
    absurd (let isnt : false ≡ true = subst (λ (l : SoftLevel). IsSome (l.cyclics id)) b is in cc)

new_tied : (most ceiling : ℕ) (lock low : Tables) → level_of lock ≡ empty_level ceiling → level_of low ≡ empty_level ceiling
    → IsTied (new_view most lock low)
new_tied most ceiling lock low a b = record {
  rising = λ i j d less high. absurd (omega (arith, high));
  own = λ online. record { known = no_own online most ceiling lock low a b; removed = λ id is. absurd (none_some is) };
}

new_ties : (most ceiling : ℕ) (ends : List (Tables × Tables)) → LevelsAreNew ceiling ends → (n : ℕ) (cpu : CpuView Tables)
    → slice_get (map (λ (e : Tables × Tables). new_view most e.0 e.1) ends) n ≡ Some cpu → IsTied cpu
new_ties most ceiling [] all n cpu is = absurd (none_some is)
new_ties most ceiling (e ∷ ends) all zero cpu is =
    let own = all 0 e (omega arith) in
    subst IsTied (same_some is) (new_tied most ceiling e.0 e.1 own.0 own.1)
new_ties most ceiling (e ∷ ends) all (suc n) cpu is =
    new_ties most ceiling ends (λ k d low. all (suc k) d (omega (arith, low))) n cpu is

new_shown : (most ceiling : ℕ) (ends : List (Tables × Tables)) → LevelsAreNew ceiling ends
    → shown_list (replicate (length ends) true) (map (λ (e : Tables × Tables). new_view most e.0 e.1) ends)
    ≡ replicate (length ends) (begun_cpu ceiling)
new_shown most ceiling [] all = refl
new_shown most ceiling (e ∷ ends) all =
    let own = all 0 e (omega arith) in
    let rest = new_shown most ceiling ends (λ k d low. all (suc k) d (omega (arith, low))) in
    (λ z. record { online = true; cyclics = []; size = 1; removal = None; lock = own.0 z; low = own.1 z } ∷ rest z)

pub begins : (most ceiling names : ℕ) (ends : List (Tables × Tables)) → LevelsAreNew ceiling ends → Agrees (new_system most ends)
    → IsSystem (new_system most ends) × ShowsSystem (start (length ends) ceiling names) (new_system most ends)
begins most ceiling names ends all agrees = (
  record {
    agrees = agrees;
    rising = λ i j r q less a b. absurd (none_some a);
    full = λ k r is. absurd (none_some is);
    tied =
        λ n cpu is. new_ties most ceiling ends all n cpu is;
  },
  record {
    cpus = sym (new_shown most ceiling ends all);
    placed = refl;
    ended = λ k r is n. absurd (none_some is);
    fresh = λ id n less. refl;
    last = refl;
  },
)
