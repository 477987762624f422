-- `none` is a pointer that owns nothing.
use Rattle.std.proofs.Common.{◌≡◌, [], ◌∷◌, refl}
use Rattle.std.specs.Prelude.{Option, None}
use mir.Val.{Val, vnull}
use base.Logic.{SProp, emp}
use base.Fml.{ftrue}
use types.Kit.{‵, raw, ◌⊛◌, ◌$◌, ◌∵◌, !, qed, by, move, keep, split, use0}
use types.Run.{no_more, and_then, returns, enter, lit}
use types.ByLocal.{alloc_all, pass_all, free_all, look_at, sets}
use types.Part.{agg}
use contract.Monad.{fact, fact_i}
use contract.Running.{tables}
use denote.RawPtr.{null_ptr}
use denote.Steps.{nothing}
use denote.Triple.Walked.{Stays, walk_of}
use Rattle.std.proofs.raw_atomic.Walks.{proved_at, leaves}
use Rattle.cyclic_c.proofs.Seals.{one, one_typed, owning_in}
use Rattle.cyc_border.specs.contracts.cpu.Cpu.{the_row as R}
use Rattle.cyclic_c.specs.contracts.sealed.Sealed.none.{ended, clauses}
use Rattle.cyclic_c.specs.contracts.sealed.Sealed.none.Key.{name as #self}
use Rattle.cyclic_c.proofs.sealed.Sealed.none.Statement.{statement}
use Rattle.cyclic_c.proofs.sealed.Sealed.none.Code as code

abbrev Empty : Option R.Denot
Empty = None

pub none_spec : {M : Type 1} → statement M
none_spec 𝓤 𝓛 𝓜 𝓡 wired =
    let H = 𝓛.H in let 𝓣 = tables 𝓤 H 𝓜 𝓡 𝓡.env in let En = ended in let c = clauses 𝓛 𝓜.mem 𝓡.returns in let fn =
    code.function in
    let hs : Stays En.signature.params En.kept = tt in
    proved_at 𝓛 En hs c 𝓜 𝓡 tt #self fn (code.unfolded 𝓤 H 𝓜 𝓡 wired) (λ z are.
    let Post : Val → SProp 𝓤 = (walk_of 𝓛 En hs c).post z in
    qed 𝓛 ((‵ ftrue ⊛ ‵ ftrue) ∷ ‵ ftrue ∷ []) ∵
    enter ! 𝓣.C 𝓣.Λ fn [] Post $ alloc_all ! (λ l. pass_all ! refl tt $
    sets ! (agg ! (and_then ! (lit ! tt) (no_more !))) refl (one_typed null_ptr) $
    returns ! (look_at ! 0 refl) $ free_all ! refl $
    nothing ! $ owning_in ! null_ptr ftrue $
    use0 𝓛 (raw (fact 𝓤 (Empty ≡ None))) (fact_i 𝓤 (Empty ≡ None) (emp 𝓤) refl) $ nothing ! $
    move ! (3 ∷ []) $ split ! $ keep ! (0 ∷ 2 ∷ 4 ∷ 3 ∷ []) $ by !
    (leaves 𝓛 En hs c z (one vnull) (record { at = null_ptr; held = None }) tt tt)))
