use Rattle.std.proofs.Common.{ap, ◌∙◌}
use Rattle.cyc_types.specs.Tally.{tally_made}
use Rattle.cyc_replay.proofs.beginning.beside.Goals as goal

pub returns-clause-tally : goal.returns-clause-tally
returns-clause-tally c = c.in_ok-tally.ensures ∙ ap (λ f. tally_made f c.args.names 18446744073709551615) c.first_id.ensures
