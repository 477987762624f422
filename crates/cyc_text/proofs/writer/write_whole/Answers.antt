use Rattle.std.proofs.Common.{◌≡◌, ◌++◌, take, drop, ap, sym, ◌∙◌}
use Rattle.std.proofs.lemmas.List.{take-append-drop}
use Rattle.cyc_text.proofs.Puts.{turn}
use Rattle.cyc_text.proofs.writer.write_whole.Goals as goal

pub loop-preserved : goal.loop-preserved
loop-preserved g c =
    let (taken, split, appended) = c.loop.invariant in
    let n = c.in_ok-n.n in
    let rest = c.loop.rest.now in
    let parts : rest ≡ take n rest ++ c.split_at.result.1.now = sym (take-append-drop n rest)
    ∙ ap (λ tail. take n rest ++ tail) (sym c.split_at.ensures.back) in
    turn _ _ _ _ taken rest (take n rest) _ split parts appended c.in_ok-n.ensures.bytes
