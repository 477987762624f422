use Rattle.ring_rule.proofs.Looks.{load_hard_bank_law, load_producer_law}
use Rattle.ring_rule.proofs.Takes.{take_law}
use Rattle.ring_rule.proofs.Banks.{follow_law}
use Rattle.ring_rule.proofs.Subtracts.{subtract_law}
use Rattle.ring_rule.proofs.step_laws.soft_steps.Goals as goal

pub returns-clause-load_hard_bank : goal.returns-clause-load_hard_bank
returns-clause-load_hard_bank c = load_hard_bank_law

pub returns-clause-load_producer : goal.returns-clause-load_producer
returns-clause-load_producer c = load_producer_law

pub returns-clause-take : goal.returns-clause-take
returns-clause-take c = take_law

pub returns-clause-follow : goal.returns-clause-follow
returns-clause-follow c = follow_law

pub returns-clause-subtract : goal.returns-clause-subtract
returns-clause-subtract c = subtract_law
