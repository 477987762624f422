use Rattle.std.proofs.Common.{◌≡◌, ◌∙◌, List, sym, subst, inr}
use Rattle.std.specs.Prelude.{None, Some, Result, Err}
use Rattle.cyc_workers.specs.declared.draining.Drained.{Drained}
use Rattle.cyc_thread_rings.specs.declared.levels.Levels.{Levels}
use Rattle.cyc_threads.specs.declared.halt.Halt.{Halt}
use Rattle.cyc_threads.specs.declared.halt.Halt.TheVariants as halt
use Rattle.cyc_threads.specs.Working.{refusal_of_run}
use Rattle.cyc_threads.proofs.working.all_left.Goals as goal

-- where the steps were ended, there is a refusal
never_none : {D C : Type 0} (A : Type 0) (h : Halt) (drained : List (Levels (Drained D C)))
    → refusal_of_run {A = A} (Err h) drained ≡ None → ⊥
never_none A (halt.Refused e) drained none = cc
never_none A (halt.Fired n why) drained none = cc
never_none A (halt.Told id) drained none = cc

not_left : {A D C : Type 0} (taken : Result A Halt) (h : Halt) (drained : List (Levels (Drained D C))) → taken ≡ Err h
    → refusal_of_run taken drained ≡ None → ⊥
not_left {A = A} taken h drained is none = never_none A h drained (subst (λ t. refusal_of_run t drained ≡ None) is none)

pub returns-in-Some-clause-refused : goal.returns-in-Some-clause-refused
returns-in-Some-clause-refused g c = inr (subst (λ ds. refusal_of_run c.args.taken ds ≡ Some c.in-Some.why)
    c.as_slice.ensures.value
    (sym c.refusal.ensures ∙ c.in-Some.is))

pub unreachable-requires : goal.unreachable-requires
unreachable-requires g c = not_left c.args.taken c.in_default-taken.field-0 c.as_slice.result.now c.in_default-taken.is
    (sym c.refusal.ensures ∙ c.in_default.is)

pub returns-clause-none : goal.returns-clause-none
returns-clause-none g c = subst (λ ds. refusal_of_run c.args.taken ds ≡ None) c.as_slice.ensures.value
    (sym c.refusal.ensures ∙ c.in_default.is)

pub returns-clause-lead : goal.returns-clause-lead
returns-clause-lead g c = c.in-Ok.is

pub returns-clause-soft : goal.returns-clause-soft
returns-clause-soft g c = c.in_ok-soft.ensures
