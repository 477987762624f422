-- `write` stores the number behind the pointer.
use Rattle.std.proofs.Common.{List, [], ◌∷◌, refl, sym, ap, ◌∙◌, w64}
use mir.Syntax.{named}
use mir.Val.{Val, vunit}
use base.Fraction.{full_share}
use base.Logic.{id⊢}
use base.Fml.{ftrue, fat, flft}
use types.Kit.{‵, ◌⊛◌, at_ret, ◌$◌, ◌∵◌, !, qed, done, move, keep, use1, split, join, fsplit, fsplit3, fjoin, feq_i}
use types.Kit.{rewrite, suffices, frame, group}
use types.Run.{enter, of_opd, unit_lit, store, stop, fld, hop, assigns_last, first, blocks, exec, returns}
use types.ByLocal.{alloc_all, pass_all, free_all, look_at, get, through, sets, env}
use types.Part.{whole, sub, look_in}
use contract.Running.{tables}
use denote.Builtin.{u64}
use denote.Exit.{yes}
use denote.Laws.{shows}
use denote.Memory.{cell_at}
use denote.Plain.{uint_in, uint_out, uint_vals, uint_Tells}
use denote.RawPtr.{Ptr, block_ptr, lies_at, in_a_block}
use denote.Ref.{MutRef, mut_vals, mut_Tells}
use denote.Signature.{plain}
use denote.Steps.{nothing, opens, closes, peeks}
use denote.Triple.Walked.{Stays, walk_of, says, stay_ref, Goes-ref, stay_dropped, Goes-dropped, ends_at}
use Rattle.std.proofs.VecSteps.Shapes.{after}
use Rattle.std.proofs.raw_atomic.Walks.{proved}
use Rattle.cyclic_c.proofs.OutValues.{Out}
use Rattle.cyclic_c.proofs.out_parameter.OutParameter.TheLaws.{lowers}
use Rattle.cyclic_c.specs.contracts.out_parameter.OutParameter.write as f
use Rattle.cyclic_c.proofs.out_parameter.OutParameter.write.Statement.{statement}
use Rattle.cyclic_c.proofs.out_parameter.OutParameter.write.Code as code

abbrev stayed : Stays f.ended.signature.params f.ended.kept
stayed = (stay_ref (0 ∷ []) tt (plain (λ _. Out)), (stay_dropped (plain (λ _. u64)) yes, tt))

pub write_spec : {M : Type 1} → statement M
write_spec 𝓤 𝓛 𝓜 𝓡 wired =
    let c = f.clauses 𝓛 𝓜.mem 𝓡.returns in let W = walk_of 𝓛 f.ended stayed c in let 𝓣 = tables 𝓤 𝓛.H 𝓜 𝓡 𝓡.env in
    let goes = Goes-dropped 𝓛 1 (plain (λ _. u64)) yes (λ κs x w. refl) in
    proved 𝓛 f.ended stayed c 𝓜 𝓡 (Goes-ref 𝓛 1 0 tt (plain (λ _. Out)), (goes, tt))
    f.Key.name code.function (code.unfolded 𝓤 𝓛.H 𝓜 𝓡 wired)
    (λ κs. (mut_vals, (uint_vals w64, tt))) (λ κs. (mut_Tells (named 0) κs.0 Out, (uint_Tells w64, tt))) (λ κs qs bounds a _ are.
    let b = a.0.ref_ptr.0 in let o = a.0.ref_ptr.1 in let h = a.0.now in let n = a.1.0 in let vs = mut_vals a.0 in
    let y : W.Ghost = ((κs, qs, bounds, a, (vs, (uint_vals w64 n, tt))), tt) in let fits = are.1.0.1 in
    qed 𝓛 (((‵ (flft κs.0 qs.0) ⊛ ‵ ftrue) ⊛ ‵ ((MutRef (named 0) κs.0 Out).own_val a.0 vs)
    ⊛ ‵ (u64.own_val n (uint_vals w64 n)) ⊛ ‵ ftrue) ∷ ‵ ftrue ∷ []) ∵
    split ! $ split ! $ move ! (2 ∷ []) $ split ! $ keep ! (0 ∷ 2 ∷ []) $
    enter ! _ _ _ _ _ $ alloc_all ! (λ l. pass_all ! refl ((tt, tt), ((tt, record { fits = fits }), tt)) $
    fsplit3 ! $ move ! (1 ∷ 2 ∷ 3 ∷ []) $ opens ! tt Out b o (λ us.
    move ! (1 ∷ []) $ peeks ! Out _ (shows 𝓛 Out) h us (λ is. fsplit ! $ move ! (1 ∷ []) $
    in_a_block ! h.at (λ p. lies_at u64 full_share p h.number) (id⊢ 𝓤 _) (λ b' o' e.
    use1 𝓛 (‵ (fat _ _ _ _ _)) (uint_out 𝓛 full_share w64 h.number b' o') $
    let word = lowers.val_is h us is ∙ ap (λ (p : Ptr). lowers.lowered (record h { at = p }) ∷ []) e in
    let Cell = λ (ws : List Val). ‵ (cell_at full_share Out.mir ws b o) in
    rewrite ! 2 Cell word refl $
    -- [the number; what the fields own; the struct's cell; the open borrow, in three entries]
    first ! $ blocks ! $
    assigns_last ! (of_opd ! (get ! refl)) (through ! refl (fld ! refl (hop ! (look_in ! 2 (sub ! 0 refl (whole !))) (stop !))))
    (store ! 0 refl (tt, record { fits = fits })) $
    exec ! 𝓣.C 𝓣.Λ (env code.Mir.locals l) (after 1 (code.function).body) (at_ret _ (W.post y)) $
    sets ! (of_opd ! (unit_lit !)) refl (tt, tt) $
    use1 𝓛 (‵ (lies_at u64 full_share (block_ptr b' o') n)) (uint_in 𝓛 full_share w64 n b' o') $
    rewrite ! 0 (λ (p : Ptr). ‵ (lies_at u64 full_share p n)) (sym e) refl $ rewrite ! 2 Cell (sym word) refl $
    move ! (1 ∷ []) $ fjoin ! $ move ! (1 ∷ []) $ closes ! tt Out (record h { number = n }) us b o $
    -- [two parts of self; the token; self's first part]
    returns ! (look_at ! 0 refl) $ free_all ! refl $ move ! (3 ∷ []) $
    suffices ! _ (ends_at 𝓛 f.ended stayed c y vunit tt (record h { number = n }, (tt, tt)) (tt, (tt, tt))) $ says ! refl $
    group ! 3 $ nothing ! $ nothing ! $ join ! $ move ! (1 ∷ 0 ∷ []) $ join ! $ nothing ! $ move ! (2 ∷ 0 ∷ []) $ join ! $
    frame ! $ frame ! $
    feq_i ! _ (vunit ∷ []) _ refl $ done !)))))
