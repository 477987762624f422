use Rattle.std.proofs.Common.{◌∙◌, ℕ, Option, Some, None, IfNone, sym, ap, subst}
use Rattle.cyc_places.specs.Places.{RecordsView}
use Rattle.cyc_agreement.specs.Holding.{Holds}
use Rattle.cyc_agreement.proofs.Spots.{seen}
use Rattle.cyc_agreement.proofs.Recording.{record_none}
use Rattle.cyc_agreement.proofs.Presence.{is_absent}
use Rattle.cyc_system.proofs.system.System.seek.Goals as goal

when_none : (o : Option ℕ) (P Q : Type 0) → IfNone o P → (P → Q) → IfNone o Q
when_none (Some k) P Q is to = tt
when_none None P Q is to = to is

pub invariant_of-self : goal.invariant_of-self
invariant_of-self g c = (
  subst (λ (x : RecordsView). Holds (seen c.self.inside.cpus x.list c.self.inside.last)) (sym c.seek.ensures.same)
      c.self.invariant.0,
  c.self.invariant.1,
)

pub returns-clause-none : goal.returns-clause-none
returns-clause-none g c = when_none c.seek.result _ _ c.seek.ensures.none (λ none.
    is_absent (seen c.self.inside.cpus c.seek.new.self.list c.self.inside.last) c.args.id
    (record_none c.args.id c.seek.new.self.list none))

pub returns-clause-same : goal.returns-clause-same
returns-clause-same g c =
    ap (λ (x : RecordsView). seen c.self.inside.cpus x.list c.self.inside.last) c.seek.ensures.same ∙ c.self.view_is
