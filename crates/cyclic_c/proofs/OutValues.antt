-- The machine values of an out-parameter, and what it owns. Assumes `Logic`.
use Rattle.std.specs.Prelude.{Some, None}
use Rattle.std.proofs.Common.{ℕ, List, [], ◌∷◌, refl}
use lib.Dec.{lit<}
use seplogic.Ra.Ura.{Ura}
use mir.Val.{Val, vptr, vcons, vnil}
use base.Logic.{ent}
use types.Logic.{Logic, sem}
use types.Kit.{‵, ◌$◌, ◌∵◌, !, qed, keep, drop, done, fsplit, fpick, feq_i, feq_l}
use types.Match.{live}
use denote.RattleType.{RattleType}
use denote.RawPtr.{Ptr, null_ptr}
use denote.Param.{layout}
use denote.Param.Laws.{Laws}
use Rattle.std.proofs.cell.Inside.{Good}
use Rattle.std.specs.contracts.option.Option as option
use Rattle.std.proofs.option.Option.TheLaws as option_laws
use Rattle.cyclic_c.specs.OutParameters.{number_behind, pointer_of, number_out}
use Rattle.cyclic_c.specs.contracts.out_parameter.OutParameter as out
use Rattle.cyclic_c.proofs.out_parameter.OutParameter.TheLaws as out_laws
use Rattle.cyclic_c.proofs.Seals.{one}

abbrev pub Out : RattleType
Out = out.the_row

abbrev pub Found : RattleType
Found = option.the_row Out

pub found_laws : Laws Found
found_laws = option_laws.the_row_laws Out out_laws.the_row_laws

abbrev pub none_val : Val
none_val = live 0 vnil

abbrev pub some_val : ℕ → ℕ → Val
some_val b o = live 1 (vcons (one (vptr b o)) vnil)

pub none_typed : Good (layout Found) none_val
none_typed = (tt, (record { fits = lit< tt }, tt))

pub some_typed : (b o : ℕ) → Good (layout Found) (some_val b o)
some_typed b o = (tt, (record { fits = lit< tt }, ((tt, tt), tt)))

module _ {M : Type 1} {𝓤 : Ura M} (𝓛 : Logic 𝓤) where
  -- the memory again
  pub found_memory : (m : Found.Denot) (vs : List Val)
      → ent 𝓤 (sem 𝓛 (Found.own_val m vs)) (sem 𝓛 (number_behind (pointer_of m) (number_out m)))
  found_memory None vs = qed 𝓛 (‵ (Found.own_val None vs) ∷ []) ∵ keep ! [] $ feq_i ! Ptr null_ptr null_ptr refl $ done !
  found_memory (Some p) vs =
      qed 𝓛 (‵ (Found.own_val (Some p) vs) ∷ []) ∵ fpick ! (λ us. fsplit ! $ feq_l ! (λ e. fpick ! (λ vss. fsplit ! $ feq_l !
      (λ e'. fsplit ! $ fsplit ! $ drop ! $ keep ! (0 ∷ []) $ done !))))
