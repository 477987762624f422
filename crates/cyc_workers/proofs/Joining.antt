-- Workers that were joined, and refusals that are passed on.
use Rattle.std.proofs.Common.{◌≡◌, sym, subst}
use Rattle.std.specs.Prelude.{Result, Ok, Err, IfErr}
use Rattle.std.specs.Result.{IsErrAnd}
use Rattle.cyc_types.specs.declared.Calls.{Ghosts as Calls}
use Rattle.cyc_types.specs.declared.Drain.{Ghosts as Drain}
use Rattle.cyc_types.specs.Levels.{as_level, handler_at}
use Rattle.cyc_types.specs.declared.level.Soft.{Soft}
use Rattle.cyc_soft.specs.declared.SoftSide.{SoftSide}
use Rattle.cyc_workers.specs.declared.draining.Drained.{Drained}
use Rattle.cyc_workers.specs.Draining.{HasDrained}

-- what the exit of a `?` returns
pub at_err : {T E : Type 0} (P : E → Type 0) (r : Result T E) (x : E) → IsErrAnd r (λ e. e ≡ x) → P x → IfErr r P
at_err P (Ok y) x a p = tt
at_err P (Err y) x a p = subst P (sym a) p

-- what a joined worker promised
pub joined : {C D : Type 0} (handler : Calls C) (draining : Drain D) (soft soft' : Soft) (side side' : SoftSide D C)
    (r : Drained D C) → HasDrained draining (handler_at handler (as_level soft')) side' r → side' ≡ side → soft' ≡ soft →
    HasDrained draining (handler_at handler (as_level soft)) side r
joined handler draining soft soft' side side' r h same level =
    subst (λ (x : SoftSide _ _). HasDrained draining (handler_at handler (as_level soft)) x r) same
    (subst (λ (x : Soft). HasDrained draining (handler_at handler (as_level x)) side' r) level h)
