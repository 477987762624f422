use Rattle.ring_rule.proofs.Admits.{admit_law}
use Rattle.ring_rule.proofs.RemovalSteps.{load_law, mark_law, clear_law}
use Rattle.ring_rule.proofs.LoadsToRaise.{load_to_raise_law}
use Rattle.ring_rule.proofs.Adds.{add_law}
use Rattle.ring_rule.proofs.Stores.{store_law}
use Rattle.ring_rule.proofs.Publishes.{publish_law}
use Rattle.ring_rule.proofs.Banks.{switch_law, load_soft_bank_law}
use Rattle.ring_rule.proofs.step_laws.firing_steps.Goals as goal

pub returns-clause-admit : goal.returns-clause-admit
returns-clause-admit c = admit_law

pub returns-clause-load : goal.returns-clause-load
returns-clause-load c = load_law

pub returns-clause-load_to_raise : goal.returns-clause-load_to_raise
returns-clause-load_to_raise c = load_to_raise_law

pub returns-clause-add : goal.returns-clause-add
returns-clause-add c = add_law

pub returns-clause-store : goal.returns-clause-store
returns-clause-store c = store_law

pub returns-clause-publish : goal.returns-clause-publish
returns-clause-publish c = publish_law

pub returns-clause-mark : goal.returns-clause-mark
returns-clause-mark c = mark_law

pub returns-clause-clear : goal.returns-clause-clear
returns-clause-clear c = clear_law

pub returns-clause-switch : goal.returns-clause-switch
returns-clause-switch c = switch_law

pub returns-clause-load_soft_bank : goal.returns-clause-load_soft_bank
returns-clause-load_soft_bank c = load_soft_bank_law
