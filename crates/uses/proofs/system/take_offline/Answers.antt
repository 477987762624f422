use Rattle.std.proofs.Common.{◌≡◌, ◌∙◌, true, false, sym}
use Rattle.cyc_system.specs.Calls.{Offline}
use Rattle.cyc_system_laws.specs.Sound.{IsSound}
use Rattle.uses.proofs.system.take_offline.Goals as goal

pub returns-clause-keeps : goal.returns-clause-keeps
returns-clause-keeps g c =
    let s = c.args.system.now in let t = c.offline-answer.new.self in
    let call = Offline c.args.cpu c.offline-answer.result in
    let before : IsSound g.R.Raise.view s =
    record { agrees = c.law.ensures; fit = c.fit_law.ensures.fit; lawful = c.fit_law.ensures.lawful } in
    let after : IsSound g.R.Raise.view t =
    record { agrees = c.law-2.ensures; fit = c.fit_law-2.ensures.fit; lawful = c.fit_law-2.ensures.lawful } in
    record {
      counts = λ id. c.counts_law.ensures id s t call before after c.offline-answer.ensures (λ ends. ends);
      stays = λ id single. c.stays_law.ensures.stays id s t call before after c.offline-answer.ensures
          (λ everywhere. let odd : false ≡ true = sym single ∙ everywhere in cc);
      components = λ id m everywhere apart. c.offlines_law.ensures id c.args.cpu m c.offline-answer.result s t everywhere apart
          c.offline-answer.ensures;
      records = λ id. c.stays_law.ensures.known id s t call c.fit_law.ensures.fit.rising c.offline-answer.ensures (λ ends. ends);
    }
