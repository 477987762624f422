-- `into_loose` gives the pointer its type again.
use Rattle.std.proofs.Common.{◌≡◌, List, [], ◌∷◌, ◌++◌, refl, sym, subst}
use Rattle.std.specs.Prelude.{Some, IsSome}
use mir.Val.{Val, vptr}
use base.Logic.{SProp, ent, emp, id⊢}
use base.Fml.{ftrue}
use prog.Wp.{WpFn}
use types.Kit.{‵, raw, ◌⊛◌, ◌$◌, ◌∵◌, !, qed, by, move, keep, split, fsplit, fjoin, suffices, use0}
use types.Run.{stop, fld, of_opd, no_more, and_then, returns, enter}
use types.ByLocal.{alloc_all, pass_all, free_all, look_at, get, get_in, sets}
use types.Part.{agg, sub, whole}
use contract.Monad.{fact, fact_i}
use contract.Running.{tables}
use denote.Exit.{yes}
use denote.RattleType.{owns}
use denote.RawPtr.{block_ptr}
use denote.Signature.{types_at, plain}
use denote.Steps.{nothing, heard}
use denote.Triple.Walked.{Stays, stay_dropped, walk_of}
use Rattle.std.proofs.alloc.Calls.{Goes-blank, handle_tells}
use Rattle.std.proofs.raw_atomic.Walks.{proved_at, leaves}
use Rattle.cyclic_c.proofs.Values.{both, loose_good, loose_in}
use Rattle.cyclic_c.proofs.Seals.{Z, al, one, one_typed, some_of, sealed_out}
use Rattle.cyc_border.specs.contracts.pair.Shelf.{the_row as R}
use Rattle.cyclic_c.specs.contracts.sealed_books.SealedBooks.{the_row as Sealed}
use Rattle.cyclic_c.specs.contracts.sealed_books.SealedBooks.into_loose.{ended, clauses}
use Rattle.cyclic_c.specs.contracts.sealed_books.SealedBooks.into_loose.Key.{name as #self}
use Rattle.cyclic_c.proofs.sealed_books.SealedBooks.into_loose.Statement.{statement}
use Rattle.cyclic_c.proofs.sealed_books.SealedBooks.into_loose.Code as code

pub into_loose_spec : {M : Type 1} → statement M
into_loose_spec 𝓤 𝓛 𝓜 𝓡 wired =
    let H = 𝓛.H in let 𝓣 = tables 𝓤 H 𝓜 𝓡 𝓡.env in let En = ended in let c = clauses 𝓛 𝓜.mem 𝓡.returns in let fn =
    code.function in
    let hs : Stays En.signature.params En.kept = (stay_dropped (plain (λ _. Sealed)) yes, (stay_dropped (plain (λ _. Z)) yes, tt))
    in
    proved_at 𝓛 En hs c 𝓜 𝓡 (
      Goes-blank 𝓛 0 (plain (λ _. Sealed)) yes (λ κs x f. tt),
      (Goes-blank 𝓛 0 (plain (λ _. Z)) yes (λ κs x f. tt), tt),
    ) #self fn (code.unfolded 𝓤 H 𝓜 𝓡 wired) (λ z are.
    let v = z.0.3.0 in let a = z.0.3.1.0 in let Post : Val → SProp 𝓤 = (walk_of 𝓛 En hs c).post z in let Run : List Val
    → SProp 𝓤 = λ ws. WpFn 𝓤 H 𝓣.C 𝓣.Λ fn ws Post in
    qed 𝓛 ((‵ ftrue ⊛ ‵ (owns (types_at En.signature.params z.0.0) z.0.3 z.0.4)) ∷ raw (fact 𝓤 (IsSome v.held)) ∷ []) ∵ move !
    (1 ∷ []) $ heard ! (IsSome v.held) (λ there.
    let x = (some_of v.held there).0 in let is = (some_of v.held there).1 in
    split ! $ move ! (1 ∷ []) $ fsplit ! $ sealed_out ! R v.at v.held x is z.0.4.0
    (λ b o at ws. move ! (1 ∷ []) $ fsplit ! $ handle_tells al ! a z.0.4.1.0 (λ h wa fits.
    let typed = loose_good R Z al.laws al.g b o h fits in
    suffices ! (Run (one (vptr b o) ∷ h ∷ []))
    (subst (λ (us : List Val). ent 𝓤 (Run (one (vptr b o) ∷ h ∷ [])) (Run us)) (sym (λ i. ws i ++ (wa i ++ [])))
    (id⊢ 𝓤 (Run (one (vptr b o) ∷ h ∷ [])))) $
    enter ! 𝓣.C 𝓣.Λ fn (one (vptr b o) ∷ h ∷ []) Post $ alloc_all !
    (λ l. pass_all ! refl (one_typed (block_ptr b o), (fits, tt)) $
    sets ! (of_opd ! (get_in ! (fld ! refl (stop !)) (sub ! 0 refl (whole !)))) refl (tt, tt) $
    sets ! (of_opd ! (get ! refl)) refl (tt, tt) $ sets ! (agg ! (and_then ! (get ! refl) (and_then ! (get ! refl) (no_more !))))
    refl typed $
    returns ! (look_at ! 0 refl) $ free_all ! refl $ move ! (2 ∷ 0 ∷ []) $ loose_in R Z al.laws al.g ! b o h a x $
    use0 𝓛 (raw (fact 𝓤 (v.held ≡ Some x))) (fact_i 𝓤 (v.held ≡ Some x) (emp 𝓤) is) $ nothing ! $ nothing ! $ fjoin ! $ nothing !
    $ fjoin ! $
    keep ! (4 ∷ 0 ∷ 2 ∷ 1 ∷ []) $ by ! (leaves 𝓛 En hs c z (both (vptr b o) h)
    (record { at = block_ptr b o; alloc = a; value = x }) (tt, (tt, tt)) (tt, (tt, tt))))))))
