use Rattle.cyc_system_model.proofs.SystemCounting.{totals_told, totals_none}
use Rattle.cyc_system_model.proofs.report_law.Goals as goal

pub returns-clause-some : goal.returns-clause-some
returns-clause-some c = λ id totals m v w sys h did. totals_told id m v w sys h totals did

pub returns-clause-none : goal.returns-clause-none
returns-clause-none c = λ id m v w sys h did. totals_none id m v w sys h did
