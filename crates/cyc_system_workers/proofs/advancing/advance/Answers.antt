use Rattle.std.proofs.Common.{sym, ap, ◌∙◌, length}
use Rattle.std.specs.List.{slice_get}
use Rattle.std.proofs.lemmas.List.{length-map}
use Rattle.cyc_system.specs.System.{SystemView}
use Rattle.cyc_system_workers.specs.declared.lanes.Lane.{Lane}
use Rattle.cyc_system_workers.specs.declared.lanes.LaneAfter.{LaneAfter}
use Rattle.cyc_system_workers.proofs.Together.{comes_back, all_fire}
use Rattle.cyc_system_workers.proofs.advancing.advance.Goals as goal

pub unite-system-requires : goal.unite-system-requires
unite-system-requires g c =
    let lanes = c.in_ok-lanes.lanes.items in let after = c.in_ok-lanes-2.lanes.items in
    let left = c.in_ok-lanes.ensures.hards ∙ c.split-desk.ensures.cpus
    ∙ sym (ap (λ (s : SystemView _). s.cpus.cpus) c.split-desk.ensures.desk) in
    let back = c.in_ok-hards.ensures.hards in
    let long = ap (λ l. length l) back ∙ length-map after (λ (l : LaneAfter _ _). l.hard) ∙ c.in_ok-lanes-2.ensures.long
    ∙ sym (length-map lanes (λ (l : Lane _ _). l.hard)) ∙ ap (λ l. length l) left in
    c.away_law.ensures.each c.split-desk.result.0.cpus.cpus c.in_ok-hards.hards.items long (λ n x y p q.
    comes_back g.C.Calls g.R.Raise c.args.now lanes after
    c.in_ok-lanes-2.ensures
    c.away_law.ensures.same c.away_law.ensures.fired n x y (ap (λ z. slice_get z n) left ∙ p) (sym (ap (λ z. slice_get z n) back)
    ∙ q))

pub returns : goal.returns
returns g c =
    let lanes = c.in_ok-lanes.lanes.items in let after = c.in_ok-lanes-2.lanes.items in
    let desk = c.split-desk.ensures.desk in let united = c.unite-system.ensures in
    all_fire g.C.Calls g.R.Raise c.args.now c.args.side
    (record { side = record { system = c.unite-system.result; leads = c.in_ok-hards.leads }; answers = c.in_ok-hards.answers })
    lanes after c.in_ok-lanes-2.ensures
    (ap (λ (s : SystemView _). s.records) united ∙ ap (λ (s : SystemView _). s.records) desk)
    (ap (λ (s : SystemView _). s.last) united ∙ ap (λ (s : SystemView _). s.last) desk)
    (ap (λ (s : SystemView _). s.cpus.online) united ∙ ap (λ (s : SystemView _). s.cpus.online) desk)
    (c.in_ok-lanes.ensures.hards ∙ c.split-desk.ensures.cpus) c.in_ok-lanes.ensures.leads
    (c.in_ok-lanes.ensures.online ∙ c.online.ensures ∙ ap (λ (s : SystemView _). s.cpus.online) desk)
    (ap (λ (s : SystemView _). s.cpus.cpus) united ∙ c.in_ok-hards.ensures.hards) c.in_ok-hards.ensures.leads
    c.in_ok-hards.ensures.answers
