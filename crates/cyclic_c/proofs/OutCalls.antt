-- What the exports whose `busy` may be null have in common: the call of `behind`, and types and values. Assumes `Logic`.
use Rattle.std.specs.Prelude.{Option}
use Rattle.std.proofs.Common.{◌≡◌, ℕ, ℤ, ◌<◌, ◌^◌, List, [], ◌∷◌, refl, w64}
use lib.Signed.{mag}
use seplogic.Ra.Ura.{Ura}
use mir.Val.{Val, vint, of_z, hbits, has_ty, WT}
use mir.ValLaws.{of_z_fits}
use base.Logic.{SProp, ent, emp, ex, id⊢}
use base.Fml.{ftrue, fsep}
use prog.Memory.{Memory}
use prog.Routine.{Routine}
use types.Logic.{Logic, sem}
use types.Kit.{Item, mean, given, ‵, raw, ◌⊛◌, some, later, ◌$◌, ◌∵◌, !, qed, done, move, drop, use0, use1, split, join}
use types.Kit.{fjoin, feq_i, pick, check, show, await, updating, now as at_once}
use contract.Monad.{Fun, fact, fact_i}
use denote.Builtin.{u32, u64, i64, RawPtr}
use denote.Exit.{yes}
use denote.Laws.{Is, shows}
use denote.Param.{layout}
use denote.RattleType.{RattleType}
use denote.RawPtr.{Ptr, Testable, rawptr_vals}
use denote.Signature.{plain}
use denote.Steps.{nothing, heard, peeks}
use denote.Struct.Tuple.{Tuple}
use denote.Triple.Spec.{triple_of}
use denote.Triple.Statement.{Contract}
use denote.Triple.Walked.{Stay, stay_dropped, Goes, Goes-dropped}
use Rattle.std.proofs.cell.Inside.{Good}
use Rattle.cyclic_c.specs.OutParameters.{number_behind, pointer_of}
use Rattle.cyclic_c.specs.contracts.out_parameter.OutParameter.behind as behind
use Rattle.cyclic_c.proofs.OutValues.{Found, found_laws}
use Rattle.cyclic_c.proofs.Values.{both, both_tt}

-- an answer's number, and the out-parameter again
abbrev pub Pair : RattleType
Pair = Tuple (u32 ∷ Found ∷ [])

pub pair_typed : (v w : Val) → Good (layout u32) v → Good (layout Found) w → Good (layout Pair) (both v w)
pair_typed v w s t = (both_tt (has_ty (layout u32) v) (has_ty (layout Found) w) s.0 t.0, (s.1, (t.1, tt)))

pub long_fits : (z : ℤ) → mag z < 2 ^ hbits w64 → WT (vint w64 (of_z w64 z))
long_fits z fits = of_z_fits w64 z (record { sfits = fits })

-- a parameter of which nothing is had at the return
abbrev pub gone : {n : ℕ} (R : RattleType) → Stay {n = n} (plain (λ _. R)) yes
gone R = stay_dropped (plain (λ _. R)) yes

module _ {M : Type 1} {𝓤 : Ura M} (𝓛 : Logic 𝓤) (n : ℕ) where
  pub u64_goes : Goes 𝓛 n (plain (λ _. u64)) yes (gone u64)
  u64_goes = Goes-dropped 𝓛 n (plain (λ _. u64)) yes (λ κs x w. refl)

  pub u32_goes : Goes 𝓛 n (plain (λ _. u32)) yes (gone u32)
  u32_goes = Goes-dropped 𝓛 n (plain (λ _. u32)) yes (λ κs x w. refl)

  pub i64_goes : Goes 𝓛 n (plain (λ _. i64)) yes (gone i64)
  i64_goes = Goes-dropped 𝓛 n (plain (λ _. i64)) yes (λ κs x w. refl)

  pub pointer_goes : Goes 𝓛 n (plain (λ _. RawPtr)) yes (gone RawPtr)
  pointer_goes = Goes-dropped 𝓛 n (plain (λ _. RawPtr)) yes (λ κs x w. refl)

-- what a caller of `behind` has
module _ {M : Type 1} {𝓤 : Ura M} (𝓛 : Logic 𝓤) (p : Ptr) (u : Val) where
  abbrev pub gives : Found.Denot → Item 𝓤
  gives m = given ((pointer_of m ≡ p) × Good (layout Found) u) (‵ (Found.own_val m (u ∷ [])))

module _ {M : Type 1} {𝓤 : Ura M} (𝓛 : Logic 𝓤) (at_mem : Memory → SProp 𝓤) (run : Routine → Fun 𝓤) (p : Ptr) (n : Option ℕ) where
  open 𝓛 use {H}

  abbrev pub Behind : Contract 𝓤
  Behind = triple_of 𝓛 behind.signature (behind.spec 𝓛 at_mem run)

  abbrev pub at_behind : Behind.Ghost
  at_behind = ((tt, tt, tt, (p, tt), (rawptr_vals p, tt)), n)

  abbrev Gives : Val → Found.Denot → SProp 𝓤
  Gives u m = mean 𝓛 (gives 𝓛 p u m)

  pub behind_goes : Testable p → ent 𝓤 (sem 𝓛 (number_behind p n)) (Behind.pre at_behind)
  behind_goes t =
      qed 𝓛 (‵ (number_behind p n) ∷ []) ∵ use0 𝓛 (raw (fact 𝓤 (Testable p))) (fact_i 𝓤 (Testable p) (emp 𝓤) t) $ join ! $
      nothing ! $ feq_i ! (List Val) (rawptr_vals p) (rawptr_vals p) refl $ fjoin ! $ nothing ! $ join ! $ join ! $ done !

  pub behind_gives : (u : Val) → ent 𝓤 (Behind.post at_behind u) (H.⇛ (ex 𝓤 (Gives u)))
  behind_gives u =
      qed 𝓛 (raw (Behind.post at_behind u) ∷ []) ∵ updating ! $
      use1 𝓛 (later (some (λ (m : Found.Denot). (‵ ftrue ⊛ ‵ (Found.own_val m (u ∷ []))) ⊛ some
      (λ (ws : Unit {0} × Unit {0}). ‵ (fsep ftrue ftrue) ⊛ raw (fact 𝓤 (pointer_of m ≡ p)))))) (id⊢ 𝓤 _) $ await ! tt $ pick !
      (λ m. split ! $ split ! $ drop ! $ move ! (1 ∷ []) $ pick ! (λ ws. split ! $ drop ! $ heard ! (pointer_of m ≡ p)
      (λ is. peeks ! Found (Is Found) (shows 𝓛 Found) m (u ∷ []) (λ x. at_once ! $ show ! (Gives u) m $
      check ! (is, ((found_laws.lawful 𝓛).typed m (u ∷ []) x).0) $ done !))))
