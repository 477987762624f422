-- The machine values of a struct of one pointer that owns what is behind it: the four `Sealed`, whose rows differ, and an
-- `OutParameter`. C takes no generic struct, so there are four. Assumes `Logic`.
use Rattle.std.specs.Prelude.{Option, Some, None, IsSome}
use Rattle.std.proofs.Common.{◌≡◌, ℕ, List, [], ◌∷◌, ◌++◌, refl, sym, subst}
use lib.Dec.{lit<}
use seplogic.Ra.Ura.{Ura}
use mir.Raw.{raw as bare}
use mir.Syntax.{Ty, impl, tnil, dnil, ty_ptr}
use mir.Val.{Val, vptr, vstruct, vcons, vnil, of_list}
use base.Fml.{Fml, fsep, fex}
use base.Fraction.{full_share}
use base.Logic.{ent, sep, never, fst∗}
use types.Logic.{Logic, sem}
use types.Kit.{Item, Goal, Seq, Step, step, ‵, ◌$◌, ◌∵◌, !, qed, done, move, drop, fsplit, fjoin, fpick, fpack, rewrite}
use types.Kit.{feq_i, feq_l}
use denote.RattleType.{RattleType, Valss}
use denote.Builtin.{RawPtr}
use denote.Memory.{lone, part_at, cell_at}
use denote.RawPtr.{Ptr, block_ptr, null_ptr, ptr_val, in_a_block}
use denote.Steps.{nothing}
use denote.Param.{layout}
use denote.Struct.Struct.{Shape, Struct, within}
use Rattle.std.proofs.alloc.Calls.{Al}
use Rattle.std.proofs.cell.Inside.{Good}
use Rattle.std.specs.contracts.alloc.Global as global
use Rattle.std.specs.contracts.impls.GlobalAllocator.TheImpl as heap
use Rattle.std.proofs.alloc.Global.TheLaws as global_laws
use Rattle.cyclic_c.specs.Owns.{may_free, owned}

abbrev pub Z : RattleType
Z = global.the_row

abbrev pub al : Al
al = record { row = Z; laws = global_laws.the_row_laws; g = heap.ghosts; d = impl [] tnil dnil; drops = impl [] tnil dnil }

-- the data of such a struct, whose name no value shows
abbrev only : Shape
only = record { name = []; args = []; types = []; fields = RawPtr ∷ [] }

abbrev pub one : Val → Val
one v = vstruct (vcons v vnil)

pub ptr_typed : (p : Ptr) → Good ty_ptr (ptr_val p)
ptr_typed (block_ptr b o) = (tt, tt)
ptr_typed null_ptr = (tt, record { fits = lit< tt })

pub one_typed : (p : Ptr) → Good (layout (Struct only)) (one (ptr_val p))
one_typed (block_ptr b o) = (tt, (tt, tt))
one_typed null_ptr = (tt, (record { fits = lit< tt }, tt))

-- such a struct at these values, which owns `F` beside
abbrev pub owning : Ptr → Fml → List Val → Fml
owning p F vs = fsep ((Struct only).own_val (p, tt) vs) F

-- what a handle holds that isn't closed
pub some_of : {A : Type 0} (m : Option A) → IsSome m → (x : A) × (m ≡ Some x)
some_of None t = absurd (mathlib.Core.Bool.false≢true t)
some_of (Some x) t = (x, refl)

module _ {M : Type 1} {𝓤 : Ura M} {𝓛 : Logic 𝓤} {K : Type 0} {Γ : List (Item 𝓤)} {G : Goal 𝓤 𝓛.H} where
  pub owning_in : K → (p : Ptr) (F : Fml) → Step K 𝓛 (‵ (owning p F (one (ptr_val p) ∷ [])) ∷ Γ) G (‵ F ∷ Γ) G
  owning_in t p F = step (λ s. let v : Val = one (ptr_val p) in
      nothing t $ feq_i t (List Val) (ptr_val p ∷ []) (ptr_val p ∷ []) refl $ fjoin t $ feq_i t (List Val) (v ∷ [])
      (v ∷ []) refl $ fjoin t $ fpack t (Valss (RawPtr ∷ [])) (within only (p, tt) (v ∷ [])) (ptr_val p ∷ [], tt) $ fjoin t $ s)

  pub sealed_out : K → (R : RattleType) (p : Ptr) (m : Option R.Denot) (x : R.Denot) → m ≡ Some x → (vs : List Val)
      → ((b o : ℕ) → p ≡ block_ptr b o → vs ≡ one (vptr b o) ∷ [] → Seq K 𝓛 (‵ (owned R (block_ptr b o) (Some x)) ∷ Γ) G)
      → Seq K 𝓛 (‵ (owning p (owned R p m) vs) ∷ Γ) G
  sealed_out t R p m x is vs k =
      fsplit t $ fpick t (λ vss. fsplit t $ feq_l t (λ ev. fsplit t $ feq_l t (λ ep. drop t $
      rewrite t 0 (λ (n : Option R.Denot). ‵ (owned R p n)) is refl $
      in_a_block t p (λ q. owned R q (Some x)) (fst∗ 𝓤 (never 𝓤) (sem 𝓛 (may_free (bare (lone R.mir)) null_ptr)))
      (λ b o e. k b o e
      (subst (λ (q : Ptr). vs ≡ vstruct (of_list (ptr_val q ∷ [])) ∷ []) e
      (subst (λ (ps : List Val). vs ≡ vstruct (of_list (ps ++ [])) ∷ []) ep ev))))))

-- ---- what is lent comes back

module _ (R : RattleType) (σ : List Ty) (rb ro b o : ℕ) where
  -- all of such a struct but what its pointer leads to
  abbrev pub Beside : Fml
  Beside = fsep (may_free (bare (lone R.mir)) (block_ptr b o)) (cell_at full_share σ (one (vptr b o) ∷ []) rb ro)

  pub given_back : {M : Type 1} {𝓤 : Ura M} (𝓛 : Logic 𝓤) (p : Ptr) → p ≡ block_ptr b o → (w : R.Denot)
      → ent 𝓤 (sep 𝓤 (sem 𝓛 (part_at R full_share w b o)) (sem 𝓛 Beside))
      (sem 𝓛 (fex (List Val) (λ us. fsep (cell_at full_share σ us rb ro) (owning p (owned R p (Some w)) us))))
  given_back 𝓛 p at_b w =
      qed 𝓛 (‵ (part_at R full_share w b o) ∷ ‵ Beside ∷ []) ∵ move ! (1 ∷ []) $ fsplit ! $ move ! (2 ∷ 0 ∷ []) $ fjoin ! $
      owning_in ! (block_ptr b o) (owned R (block_ptr b o) (Some w)) $
      rewrite ! 0 (λ (p : Ptr). ‵ (owning p (owned R p (Some w)) (one (vptr b o) ∷ []))) (sym at_b) refl $
      move ! (1 ∷ 0 ∷ []) $ fjoin ! $
      fpack ! (List Val) (λ us. fsep (cell_at full_share σ us rb ro) (owning p (owned R p (Some w)) us)) (one (vptr b o) ∷ [])
      $ done !
