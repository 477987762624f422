use Rattle.std.proofs.Common.{ℕ, List, subst}
use Rattle.std.specs.Prelude.{string_bytes}
use Rattle.cyc_text.specs.declared.fault.RunFault.TheVariants as run_fault
use Rattle.cyc_text.specs.Puts.{AppendsPrefix}
use Rattle.cyc_workers.proofs.Joining.{at_err}
use Rattle.cyc_threads.specs.Refusing.{StopsBy}
use Rattle.cyc_threads.proofs.running.run.Goals as goal

pub returns-in_err-put-in-Ok-clause-refused : goal.returns-in_err-put-in-Ok-clause-refused
returns-in_err-put-in-Ok-clause-refused g c =
    at_err (λ fault. StopsBy g.C.Calls c.args.script.now c.args.calls.items
    (g.S.Sink.written c.args.sink.now)
    (g.S.Sink.written c.put.new.self) fault)
    c.from_residual.result run_fault.Write c.from_residual.ensures.1 (
      c.in-Ok.ended,
      string_bytes c.in-Ok.text,
      c.in-Ok.ensures.ran,
      subst (λ (text : List ℕ). AppendsPrefix (g.S.Sink.written c.args.sink.now) (g.S.Sink.written c.put.new.self) text)
          c.as_bytes.ensures.value
          c.in_err-put-in-Ok.ensures.bytes,
    )
