use Rattle.std.proofs.Common.{refl}
use Rattle.cyc_types.specs.declared.firing.Sent.{Sent}
use Rattle.cyc_agreement.proofs.Answering.{totals_all}
use Rattle.cyc_agreement.proofs.removal_laws.totals_law.Goals as goal

pub returns : goal.returns
returns g c id totals s t lawful d = (
  totals_all g.R.Raise (λ (e : Sent). e.sent) id (λ a b. refl) totals s t lawful d totals.expired
      (λ way r sums. sums.expired),
  totals_all g.R.Raise (λ (e : Sent). e.lost) id (λ a b. refl) totals s t lawful d totals.lost
      (λ way r sums. sums.lost),
)
