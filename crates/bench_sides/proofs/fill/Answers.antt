use Rattle.bench_sides.proofs.Rounds.{expand_fills}
use Rattle.bench_sides.proofs.fill.Goals as goal

pub loop-index-init : goal.loop-index-init
loop-index-init g c = expand_fills _ _ c.requires.new c.expand.ensures.learns
