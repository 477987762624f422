use Rattle.cyc_cpu_laws.proofs.Answering.{answers_calls}
use Rattle.cyc_cpu_laws.proofs.receipts.receipt_law.Goals as goal

pub returns : goal.returns
returns c id call v w law lock low = answers_calls v w law lock low id call
