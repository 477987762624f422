use Rattle.std.proofs.Common.{◌∷◌, [], Some, sym, subst, refl}
use Rattle.cyc_types.specs.Firing.{Marks, Polls}
use Rattle.cyc_types.specs.Runs.{Goes}
use Rattle.cyc_types.specs.declared.level.Level.TheVariants.{Low, Lock}
use Rattle.cyc_cpu.specs.Removal.{calls_at}
use Rattle.cyc_cpu.proofs.leaving.remove_at.Goals as goal

pub returns-in-High-clause-ended : goal.returns-in-High-clause-ended
returns-in-High-clause-ended g c none = (
  record { sent = 0; lost = 0 },
  subst (λ l. Goes g.R.Raise c.args.lock.now
      (calls_at Lock l (Marks c.args.id 0 ∷ Polls c.args.id (Some (record { sent = 0; lost = 0 })) ∷ [])) c.args.lock.now)
      (sym c.in-High.is) refl,
  subst (λ l. Goes g.R.Raise c.args.low.now
      (calls_at Low l (Marks c.args.id 0 ∷ Polls c.args.id (Some (record { sent = 0; lost = 0 })) ∷ [])) c.args.low.now)
      (sym c.in-High.is) refl,
)
