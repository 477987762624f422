use Rattle.cyc_system_model.proofs.SystemAdvancing.{has_begun, has_fired, has_passed, has_ended}
use Rattle.cyc_system_model.proofs.advance_law.Goals as goal

pub returns-clause-begins : goal.returns-clause-begins
returns-clause-begins g c = λ now m s h. has_begun g.C.Calls now m s h

pub returns-clause-fires : goal.returns-clause-fires
returns-clause-fires g c = λ n expired lost fired m s t u sys h did.
    has_fired g.C.Calls n expired lost fired m s t u sys h did

pub returns-clause-passes : goal.returns-clause-passes
returns-clause-passes g c = λ n expired lost m s t sys low h off.
    has_passed g.C.Calls n expired lost m s t sys low h off

pub returns-clause-ends : goal.returns-clause-ends
returns-clause-ends g c = λ now n expired lost m s t end h.
    has_ended g.C.Calls now n expired lost m s t end h
