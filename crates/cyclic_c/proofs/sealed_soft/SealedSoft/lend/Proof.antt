-- `lend` lends what the pointer owns, and the handle follows it.
use Rattle.std.proofs.Common.{◌≡◌, ℕ, List, [], ◌∷◌, refl}
use Rattle.std.specs.Prelude.{Some, IsSome}
use mir.Syntax.{named}
use mir.Val.{Val, vptr}
use seplogic.Ra.Ura.{Ura}
use base.Logic.{ent, sep}
use base.Fraction.{full_share}
use base.Fml.{GName, ftrue, flft}
use prog.Wp.{Env}
use types.Logic.{Logic, sem}
use types.Kit.{‵, raw, ◌⊛◌, some, later, at_ret, ◌$◌, ◌∵◌, !, qed, done, by, move, keep, drop, use1, split, join, fsplit}
use types.Kit.{fsplit3, fjoin, pick, await, suffices, rewrite, frame, group}
use types.Part.{look_in, sub, whole}
use types.Run.{stop, fld, load, of_opd, first, blocks, exec, returns, enter, addr}
use types.ByLocal.{alloc_all, pass_all, free_all, look_at, get, through, sets, sets_last, env}
use contract.Monad.{fact}
use contract.Running.{tables}
use denote.Exit.{no}
use denote.RattleType.{owns}
use denote.Memory.{part_of, mem, cell_at}
use denote.RawPtr.{block_ptr}
use denote.Ref.{MutRef, mut_vals, mut_Tells}
use denote.Signature.{plain, mut_ref_to}
use denote.Steps.{nothing, opens, heard}
use denote.Follow.{follows, Part, lends_Part}
use denote.Triple.Walked.{says, Stays, stay_dropped, walk_of, ends_at, Goes-spent_ref}
use Rattle.std.proofs.alloc.Shapes.{after}
use Rattle.std.proofs.raw_atomic.Walks.{proved}
use Rattle.cyc_border.specs.declared.soft_side.SoftSide.{SoftSide}
use Rattle.cyc_border.specs.contracts.soft_side.SoftSide.{the_row as R}
use Rattle.cyclic_c.specs.Lending.{holding_soft}
use Rattle.cyclic_c.specs.declared.sealed_soft.SealedSoft.{SealedSoft}
use Rattle.cyclic_c.specs.contracts.sealed_soft.SealedSoft.{the_row as S}
use Rattle.cyclic_c.specs.contracts.sealed_soft.SealedSoft.lend.{ended, clauses}
use Rattle.cyclic_c.specs.contracts.sealed_soft.SealedSoft.lend.Key.{name as #self}
use Rattle.cyclic_c.proofs.Seals.{Beside, given_back, some_of, sealed_out}
use Rattle.cyclic_c.proofs.sealed_soft.SealedSoft.lend.Statement.{statement}
use Rattle.cyclic_c.proofs.sealed_soft.SealedSoft.lend.Code as code

abbrev stayed : Stays ended.signature.params ended.kept
stayed = (stay_dropped (mut_ref_to (0 ∷ []) tt (plain (λ _. S))) no, tt)

back : {M : Type 1} {𝓤 : Ura M} (𝓛 : Logic 𝓤) (h : SealedSoft) (rb ro b o : ℕ) → h.at ≡ block_ptr b o → (w : SoftSide)
    → ent 𝓤 (sep 𝓤 (sem 𝓛 ((mem R).own_at w b o)) (sem 𝓛 (Beside R S.mir rb ro b o)))
    (sem 𝓛 ((mem S).own_at (holding_soft h w) rb ro))
unfolding part_of
back 𝓛 h rb ro b o = given_back R S.mir rb ro b o 𝓛 h.at

pub lend_spec : {M : Type 1} → statement M
lend_spec 𝓤 𝓛 𝓜 𝓡 wired =
    let c = clauses 𝓛 𝓜.mem 𝓡.returns in let W = walk_of 𝓛 ended stayed c in let 𝓣 = tables 𝓤 𝓛.H 𝓜 𝓡 𝓡.env in
    proved 𝓛 ended stayed c 𝓜 𝓡 (Goes-spent_ref 𝓛 1 (0 ∷ []) tt (plain (λ _. S)), tt) #self code.function
    (code.unfolded 𝓤 𝓛.H 𝓜 𝓡 wired) (λ κs. (mut_vals, tt)) (λ κs. (mut_Tells (named 0) κs.0 S, tt)) (λ κs qs bounds a g are.
    let κ = κs.0 in let q = qs.0 in let rb = a.0.ref_ptr.0 in let ro = a.0.ref_ptr.1 in
    let γ = a.0.ghost_name in let h = a.0.now in
    let y : W.Ghost = ((κs, qs, bounds, a, (vptr rb ro ∷ [], tt)), g) in
    let exits : (b o : ℕ) (x : SoftSide) (is : h.held ≡ Some x) (γ' : GName)
    → ent 𝓤 (sep 𝓤 (sem 𝓛 ((MutRef (named 0) κ R).own_val (record { ref_ptr = (b, o); ghost_name = γ'; now = x })
    (vptr b o ∷ []))) (sep 𝓤 (𝓛.A.lft κ q) (sem 𝓛 (follows S R γ γ' (holding_soft h))))) (W.post y (vptr b o)) = λ b o x is γ'.
    qed 𝓛 (‵ ((MutRef (named 0) κ R).own_val (record { ref_ptr = (b, o); ghost_name = γ'; now = x }) (vptr b o ∷ []))
    ∷ ‵ (flft κ q) ∷ ‵ (follows S R γ γ' (holding_soft h)) ∷ []) ∵
    suffices ! _ (ends_at 𝓛 ended stayed c y (vptr b o) (record { ref_ptr = (b, o); ghost_name = γ'; now = x }) (tt, tt)
    (tt, tt)) $
    nothing ! $ nothing ! $ fjoin ! $ join ! $ nothing ! $ move ! (2 ∷ 0 ∷ []) $ join ! $ join ! $ frame ! $ says ! is $ done ! in
    qed 𝓛 (((‵ (flft κ q) ⊛ ‵ ftrue) ⊛ ‵ (owns (MutRef (named 0) κ S ∷ []) a (vptr rb ro ∷ [], tt)))
    ∷ raw (fact 𝓤 (IsSome h.held)) ∷ []) ∵
    move ! (1 ∷ []) $ heard ! (IsSome h.held) (λ there.
    let x = (some_of h.held there).0 in let is = (some_of h.held there).1 in split ! $
    enter ! 𝓣.C 𝓣.Λ code.function (vptr rb ro ∷ []) _ $
    alloc_all ! (λ l. pass_all ! refl ((tt, tt), tt) $
    let En : Env 𝓤 𝓛.H = env code.function.locals l in
    move ! (1 ∷ []) $ fsplit ! $ fsplit3 ! $ drop ! $ move ! (3 ∷ []) $ split ! $ move ! (2 ∷ 3 ∷ 0 ∷ []) $
    opens ! tt S {h = h} rb ro (λ vs. move ! (1 ∷ []) $ sealed_out ! R h.at h.held x is vs (λ b o at_b ws.
    fsplit ! $ rewrite ! 2 (λ (us : List Val). ‵ (cell_at full_share S.mir us rb ro)) ws refl $
    sets ! (of_opd ! (load ! (through ! refl (fld ! refl (stop !))) (look_in ! 2 (sub ! 0 refl (whole !))))) refl (tt, tt) $
    sets ! (of_opd ! (get ! refl)) refl (tt, tt) $
    first ! $ blocks ! $ sets_last ! (addr ! (through ! refl (stop !))) refl (tt, tt) $
    exec ! 𝓣.C 𝓣.Λ En (after 3 code.function.body) (at_ret En (W.post y)) $
    sets ! (of_opd ! (get ! refl)) refl (tt, tt) $
    move ! (1 ∷ 2 ∷ []) $ fjoin ! $ move ! (2 ∷ 3 ∷ 4 ∷ 1 ∷ 0 ∷ []) $ group ! 5 $
    use1 𝓛 (later (some (λ (γ' : GName). raw (Part 𝓛 S R (holding_soft h) (named 0) κ q rb ro b o γ
    (sem 𝓛 (Beside R S.mir rb ro b o)) (back 𝓛 h rb ro b o at_b) x γ'))))
    (lends_Part 𝓛 S R (holding_soft h) (named 0) κ q rb ro b o γ (sem 𝓛 (Beside R S.mir rb ro b o))
    (back 𝓛 h rb ro b o at_b) (S.coded.code h) (S.coded.code h) x) $
    await ! tt $ pick ! (λ γ'. returns ! (look_at ! 0 refl) $ free_all ! refl $
    keep ! (0 ∷ []) $ by ! (exits b o x is γ')))))))
