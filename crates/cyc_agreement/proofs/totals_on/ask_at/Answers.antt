use Rattle.cyc_agreement.proofs.totals_on.ask_at.Goals as goal

pub ask_on-requires-clause-only : goal.ask_on-requires-clause-only
ask_on-requires-clause-only g c = (c.requires.home c.in-On.cpu c.in-On.bound c.in-On.is).1
