use Rattle.cyc_cpu_laws.proofs.Answering.{all_balanced}
use Rattle.cyc_cpu_laws.proofs.receipts.balance_law.Goals as goal

pub returns : goal.returns
returns c = all_balanced
