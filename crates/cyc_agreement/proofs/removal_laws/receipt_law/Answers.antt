use Rattle.std.proofs.Common.{refl}
use Rattle.cyc_types.specs.declared.firing.Sent.{Sent}
use Rattle.cyc_agreement.proofs.Receipts.{begun_done, begun_kept, poll_done, poll_kept}
use Rattle.cyc_agreement.proofs.removal_laws.receipt_law.Goals as goal

pub returns-clause-done : goal.returns-clause-done
returns-clause-done g c id receipt s t fit lawful d = (
  begun_done g.R.Raise (λ (e : Sent). e.sent) id (λ a b. refl) receipt s t fit lawful d (λ r sent lost. sent),
  begun_done g.R.Raise (λ (e : Sent). e.lost) id (λ a b. refl) receipt s t fit lawful d (λ r sent lost. lost),
)

pub returns-clause-kept : goal.returns-clause-kept
returns-clause-kept g c id kept s t fit lawful d = (
  begun_kept g.R.Raise (λ (e : Sent). e.sent) id (λ a b. refl) kept s t fit lawful d,
  begun_kept g.R.Raise (λ (e : Sent). e.lost) id (λ a b. refl) kept s t fit lawful d,
)

pub returns-clause-answered : goal.returns-clause-answered
returns-clause-answered g c id receipt s t fit lawful d = (
  poll_done g.R.Raise (λ (e : Sent). e.sent) id (λ a b. refl) receipt s t fit lawful d (λ r sent lost. sent),
  poll_done g.R.Raise (λ (e : Sent). e.lost) id (λ a b. refl) receipt s t fit lawful d (λ r sent lost. lost),
)

pub returns-clause-waits : goal.returns-clause-waits
returns-clause-waits g c id s t fit lawful d = (
  poll_kept g.R.Raise (λ (e : Sent). e.sent) id (λ a b. refl) s t fit lawful d,
  poll_kept g.R.Raise (λ (e : Sent). e.lost) id (λ a b. refl) s t fit lawful d,
)
