use Rattle.std.proofs.Common.{◌≡◌, ℕ, ◌+◌, ◌<◌, [], ◌∷◌, ◌++◌, length, get_or, take, sym, subst, arith}
use Rattle.std.proofs.lemmas.Result.{err_from_is_err_and}
use Rattle.std.proofs.KnownBytes.{Appends-trans}
use Rattle.std.specs.Io.KnownBytes.{Appends}
use Rattle.cyc_text.specs.Puts.{AppendsPrefix}
use Rattle.cyc_text.proofs.Puts.{prefix_more, stops}
use Rattle.cyc_script.specs.declared.script.Script.{Script}
use Rattle.cyc_script.specs.declared.step.Step.{Step}
use Rattle.cyc_model.specs.Script.{names_of, no_indexes}
use Rattle.cyc_replay.specs.Runs.{HaveNames, RunsTo}
use Rattle.cyc_replay.proofs.Introduced.{names_so_far}
use Rattle.cyc_replay.proofs.Moments.{before_never}
use Rattle.cyc_replay.proofs.RunningMachine.{take_on, number_on, whole_line, line_then}
use Rattle.cyc_replay.proofs.script.put_steps.Goals as goal

names_with : (script : Script) (i : ℕ) (x : Step) (low : i < length script.steps.items) → x ≡ get_or script.steps.items i x
    → HaveNames (names_of script) (take i script.steps.items ++ x ∷ [])
names_with script i x low here =
    subst (λ xs. HaveNames (names_of script) xs) (take_on script.steps.items i x low here) (names_so_far script (i + 1))

pub put_step-requires-clause-few : goal.put_step-requires-clause-few
put_step-requires-clause-few g c =
    let few = c.args.script.now.well_formed.few_steps in
    let low = subst (λ xs. c.loop-taken.taken-index < length xs) c.deref-taken-items.ensures.value c.loop-taken-test.true in
    let number = c.loop-taken.invariant.number in omega (arith, few, low, number)

pub put_step-requires-clause-before : goal.put_step-requires-clause-before
put_step-requires-clause-before g c =
    let steps = c.args.script.now.steps.items in let i = c.loop-taken.taken-index in let x = c.taken-item.result in
    let low = subst (λ xs. i < length xs) c.deref-taken-items.ensures.value c.loop-taken-test.true in
    let here = subst (λ xs. x ≡ get_or xs i x) c.deref-taken-items.ensures.value c.taken-item.is in
    before_never 0 steps c.args.script.now.well_formed.moments_in_order i x low here

pub put_step-requires-clause-runs : goal.put_step-requires-clause-runs
put_step-requires-clause-runs g c =
    let steps = c.args.script.now.steps.items in let i = c.loop-taken.taken-index in let x = c.taken-item.result in
    let low = subst (λ xs. i < length xs) c.deref-taken-items.ensures.value c.loop-taken-test.true in
    let here = subst (λ xs. x ≡ get_or xs i x) c.deref-taken-items.ensures.value c.taken-item.is in
    let number = c.loop-taken.invariant.number in (
      take i steps,
      number_on steps i x low here c.loop-taken.step number,
      names_with c.args.script.now i x low here,
      c.loop-taken.invariant.runs,
    )

pub returns-in_err-put_step-clause-text : goal.returns-in_err-put_step-clause-text
returns-in_err-put_step-clause-text g c =
    let script = c.args.script.now in let steps = script.steps.items in let i = c.loop-taken.taken-index in let x =
    c.taken-item.result in
    let low = subst (λ xs. i < length xs) c.deref-taken-items.ensures.value c.loop-taken-test.true in
    let here = subst (λ xs. x ≡ get_or xs i x) c.deref-taken-items.ensures.value c.taken-item.is in
    let number = c.loop-taken.invariant.number in
    let put = c.in_err-put_step.ensures.text (take i steps)
    (number_on steps i x low here c.loop-taken.step number) (names_with script i x low here) c.loop-taken.invariant.runs in
    let whole = whole_line steps i x low here script.cpus script.ceiling (names_of script) no_indexes c.loop-taken.step number in
    let p = err_from_is_err_and c.from_residual.result c.from_residual.ensures.1 in
    rw p.1 (subst (λ text. AppendsPrefix (g.S.Sink.written c.args.sink.now) (g.S.Sink.written c.put_step.new.sink) text)
    (sym whole.1)
    (stops _ _ _ whole.0 (prefix_more _ _ _ _ _ c.loop-taken.invariant.text put)))

pub loop-taken-preserved : goal.loop-taken-preserved
loop-taken-preserved g c =
    let script = c.args.script.now in let steps = script.steps.items in let i = c.loop-taken.taken-index in let x =
    c.taken-item.result in
    let low = subst (λ xs. i < length xs) c.deref-taken-items.ensures.value c.loop-taken-test.true in
    let here = subst (λ xs. x ≡ get_or xs i x) c.deref-taken-items.ensures.value c.taken-item.is in
    let number = c.loop-taken.invariant.number in
    let at = number_on steps i x low here c.loop-taken.step number in
    record {
      number = omega (arith, number);
      whole = c.in_ok-put_step.ensures.write;
      runs = subst (λ xs. RunsTo script.cpus script.ceiling (names_of script) xs c.put_step.new.machine)
          (sym (take_on steps i x low here))
          (c.in_ok-put_step.ensures.runs (take i steps) at (names_with script i x low here) c.loop-taken.invariant.runs);
      text = subst (λ text. Appends (g.S.Sink.written c.args.sink.now) (g.S.Sink.written c.put_step.new.sink) text)
          (sym (line_then steps i x low here script.cpus script.ceiling (names_of script) no_indexes c.loop-taken.step number))
          (Appends-trans _ _ _ _ _ c.loop-taken.invariant.text
          (c.in_ok-put_step.ensures.text (take i steps) at (names_with script i x low here) c.loop-taken.invariant.runs));
    }
