use Rattle.std.proofs.Common.{◌≡◌, ◌<◌, ap, arith, refl, subst, sym, ◌∙◌}
use Rattle.cyc_types.specs.Firing.{Learns, Sound, Raises}
use Rattle.cyc_types.specs.declared.firing.Raised.TheVariants.{First, More, Lost}
use Rattle.cyc_level.specs.declared.Event.TheVariants.{Expire, Lose, Publish}
use Rattle.cyc_level.specs.Level.{SoftLevel}
use Rattle.cyc_level.specs.Events.{Enabled, after}
use Rattle.cyc_core.specs.Tables.{Tables, cyclic_of_entry, level_of}
use Rattle.cyc_core.specs.FiringSide.{firing_view}
use Rattle.cyc_level.proofs.Keeps.{keeps_law}
use Rattle.cyc_core.proofs.FiringLaws.{learns_lost, learns_more, learns_first, can_lose, can_expire, can_publish, hand_still}
use Rattle.cyc_core.proofs.FiringLaws.{sound_after}
use Rattle.cyc_core.proofs.level_core.LevelCore.raise_at.Goals as goal

pub lose-requires-clause-enabled : goal.lose-requires-clause-enabled
lose-requires-clause-enabled c =
    let l = level_of c.args.self.now in
    let entry = c.entry_at-entry.result in
    let facts = c.entry_at-entry.ensures in
    let ceil : c.self.inside.ceiling ≡ l.ceiling = ap (λ (t : Tables). t.ceiling) c.self.view_is in
    let full : entry.count ≡ l.ceiling = c.if-count-self.true ∙ ceil in
    let may = can_lose l c.args.id (cyclic_of_entry entry) facts.cyclic c.requires.may full in
    subst (λ i. Enabled (Lose i) l) (sym facts.id) may

pub returns-then-count-self-clause-step : goal.returns-then-count-self-clause-step
returns-then-count-self-clause-step c =
    let l = level_of c.args.self.now in
    let entry = c.entry_at-entry.result in
    let facts = c.entry_at-entry.ensures in
    let ceil : c.self.inside.ceiling ≡ l.ceiling = ap (λ (t : Tables). t.ceiling) c.self.view_is in
    let full : entry.count ≡ l.ceiling = c.if-count-self.true ∙ ceil in
    let may = can_lose l c.args.id (cyclic_of_entry entry) facts.cyclic c.requires.may full in
    let left : level_of c.lose.new.self ≡ after (Lose c.args.id) l = c.lose.ensures ∙ ap (λ i. after (Lose i) l) facts.id in
    ((level_of c.lose.new.self, (may, left), refl), ap (λ (x : SoftLevel). x.firer_hand) left ∙ may.0)

pub returns-then-count-self-clause-learns : goal.returns-then-count-self-clause-learns
returns-then-count-self-clause-learns c =
    let l = level_of c.args.self.now in
    let entry = c.entry_at-entry.result in
    let facts = c.entry_at-entry.ensures in
    let ceil : c.self.inside.ceiling ≡ l.ceiling = ap (λ (t : Tables). t.ceiling) c.self.view_is in
    let full : entry.count ≡ l.ceiling = c.if-count-self.true ∙ ceil in
    let may = can_lose l c.args.id (cyclic_of_entry entry) facts.cyclic c.requires.may full in
    let left : level_of c.lose.new.self ≡ after (Lose c.args.id) l = c.lose.ensures ∙ ap (λ i. after (Lose i) l) facts.id in
    subst (λ (m : SoftLevel). Learns (firing_view l) (Raises c.args.id Lost) (firing_view m)) (sym left)
    (learns_lost l c.args.id (cyclic_of_entry entry) facts.cyclic full)

pub returns-then-count-self-clause-sound : goal.returns-then-count-self-clause-sound
returns-then-count-self-clause-sound c =
    let l = level_of c.args.self.now in
    let entry = c.entry_at-entry.result in
    let facts = c.entry_at-entry.ensures in
    let ceil : c.self.inside.ceiling ≡ l.ceiling = ap (λ (t : Tables). t.ceiling) c.self.view_is in
    let full : entry.count ≡ l.ceiling = c.if-count-self.true ∙ ceil in
    let may = can_lose l c.args.id (cyclic_of_entry entry) facts.cyclic c.requires.may full in
    let left : level_of c.lose.new.self ≡ after (Lose c.args.id) l = c.lose.ensures ∙ ap (λ i. after (Lose i) l) facts.id in
    subst (λ (m : SoftLevel). Sound (firing_view m)) (sym left)
    (sound_after l (Lose c.args.id) facts.lawful facts.some_ceiling may)

pub expire-requires-clause-enabled : goal.expire-requires-clause-enabled
expire-requires-clause-enabled c =
    let l = level_of c.args.self.now in
    let entry = c.entry_at-entry.result in
    let facts = c.entry_at-entry.ensures in
    let ceil : c.self.inside.ceiling ≡ l.ceiling = ap (λ (t : Tables). t.ceiling) c.self.view_is in
    let below : entry.count < l.ceiling = (let most = facts.lawful.below_ceiling c.args.id (cyclic_of_entry entry) facts.cyclic in
    let apart = c.if-count-self.false in omega (arith, most, apart, ceil)) in
    let may = can_expire l c.args.id (cyclic_of_entry entry) facts.cyclic c.requires.may below in
    subst (λ i. Enabled (Expire i) l) (sym facts.id) may

pub returns-then-count-gt0-clause-step : goal.returns-then-count-gt0-clause-step
returns-then-count-gt0-clause-step c =
    let l = level_of c.args.self.now in
    let entry = c.entry_at-entry.result in
    let facts = c.entry_at-entry.ensures in
    let ceil : c.self.inside.ceiling ≡ l.ceiling = ap (λ (t : Tables). t.ceiling) c.self.view_is in
    let below : entry.count < l.ceiling = (let most = facts.lawful.below_ceiling c.args.id (cyclic_of_entry entry) facts.cyclic in
    let apart = c.if-count-self.false in omega (arith, most, apart, ceil)) in
    let may = can_expire l c.args.id (cyclic_of_entry entry) facts.cyclic c.requires.may below in
    let raised : level_of c.expire.new.self ≡ after (Expire c.args.id) l = c.expire.ensures
    ∙ ap (λ i. after (Expire i) l) facts.id in (
      (level_of c.expire.new.self, (may, raised), refl),
      ap (λ (x : SoftLevel). x.firer_hand) raised
          ∙ hand_still l c.args.id (cyclic_of_entry entry) facts.cyclic c.if-count-gt0.true may.0,
    )

pub returns-then-count-gt0-clause-learns : goal.returns-then-count-gt0-clause-learns
returns-then-count-gt0-clause-learns c =
    let l = level_of c.args.self.now in
    let entry = c.entry_at-entry.result in
    let facts = c.entry_at-entry.ensures in
    let ceil : c.self.inside.ceiling ≡ l.ceiling = ap (λ (t : Tables). t.ceiling) c.self.view_is in
    let below : entry.count < l.ceiling = (let most = facts.lawful.below_ceiling c.args.id (cyclic_of_entry entry) facts.cyclic in
    let apart = c.if-count-self.false in omega (arith, most, apart, ceil)) in
    let may = can_expire l c.args.id (cyclic_of_entry entry) facts.cyclic c.requires.may below in
    let raised : level_of c.expire.new.self ≡ after (Expire c.args.id) l = c.expire.ensures
    ∙ ap (λ i. after (Expire i) l) facts.id in
    subst (λ (m : SoftLevel). Learns (firing_view l) (Raises c.args.id More) (firing_view m)) (sym raised)
    (learns_more l c.args.id (cyclic_of_entry entry) facts.cyclic c.if-count-gt0.true below may.0)

pub returns-then-count-gt0-clause-sound : goal.returns-then-count-gt0-clause-sound
returns-then-count-gt0-clause-sound c =
    let l = level_of c.args.self.now in
    let entry = c.entry_at-entry.result in
    let facts = c.entry_at-entry.ensures in
    let ceil : c.self.inside.ceiling ≡ l.ceiling = ap (λ (t : Tables). t.ceiling) c.self.view_is in
    let below : entry.count < l.ceiling = (let most = facts.lawful.below_ceiling c.args.id (cyclic_of_entry entry) facts.cyclic in
    let apart = c.if-count-self.false in omega (arith, most, apart, ceil)) in
    let may = can_expire l c.args.id (cyclic_of_entry entry) facts.cyclic c.requires.may below in
    let raised : level_of c.expire.new.self ≡ after (Expire c.args.id) l = c.expire.ensures
    ∙ ap (λ i. after (Expire i) l) facts.id in
    subst (λ (m : SoftLevel). Sound (firing_view m)) (sym raised)
    (sound_after l (Expire c.args.id) facts.lawful facts.some_ceiling may)

pub publish-requires : goal.publish-requires
publish-requires c =
    let l = level_of c.args.self.now in
    let entry = c.entry_at-entry.result in
    let facts = c.entry_at-entry.ensures in
    let ceil : c.self.inside.ceiling ≡ l.ceiling = ap (λ (t : Tables). t.ceiling) c.self.view_is in
    let below : entry.count < l.ceiling = (let most = facts.lawful.below_ceiling c.args.id (cyclic_of_entry entry) facts.cyclic in
    let apart = c.if-count-self.false in omega (arith, most, apart, ceil)) in
    let may = can_expire l c.args.id (cyclic_of_entry entry) facts.cyclic c.requires.may below in
    let raised : level_of c.expire-2.new.self ≡ after (Expire c.args.id) l = c.expire-2.ensures
    ∙ ap (λ i. after (Expire i) l) facts.id in
    let none : entry.count ≡ 0 = omega (arith, c.if-count-gt0.false) in
    let published = subst (Enabled Publish) (sym raised) (can_publish l c.args.id (cyclic_of_entry entry) facts.cyclic none) in
    published

pub returns-clause-step : goal.returns-clause-step
returns-clause-step c =
    let l = level_of c.args.self.now in
    let entry = c.entry_at-entry.result in
    let facts = c.entry_at-entry.ensures in
    let ceil : c.self.inside.ceiling ≡ l.ceiling = ap (λ (t : Tables). t.ceiling) c.self.view_is in
    let below : entry.count < l.ceiling = (let most = facts.lawful.below_ceiling c.args.id (cyclic_of_entry entry) facts.cyclic in
    let apart = c.if-count-self.false in omega (arith, most, apart, ceil)) in
    let may = can_expire l c.args.id (cyclic_of_entry entry) facts.cyclic c.requires.may below in
    let raised : level_of c.expire-2.new.self ≡ after (Expire c.args.id) l = c.expire-2.ensures
    ∙ ap (λ i. after (Expire i) l) facts.id in
    let none : entry.count ≡ 0 = omega (arith, c.if-count-gt0.false) in
    let published = subst (Enabled Publish) (sym raised) (can_publish l c.args.id (cyclic_of_entry entry) facts.cyclic none) in
    let left : level_of c.publish.new.self ≡ after Publish (after (Expire c.args.id) l) = c.publish.ensures
    ∙ ap (after Publish) raised in (
      (level_of c.expire-2.new.self, (may, raised), (level_of c.publish.new.self, (published, c.publish.ensures), refl)),
      ap (λ (x : SoftLevel). x.firer_hand) left,
    )

pub returns-clause-learns : goal.returns-clause-learns
returns-clause-learns c =
    let l = level_of c.args.self.now in
    let entry = c.entry_at-entry.result in
    let facts = c.entry_at-entry.ensures in
    let ceil : c.self.inside.ceiling ≡ l.ceiling = ap (λ (t : Tables). t.ceiling) c.self.view_is in
    let below : entry.count < l.ceiling = (let most = facts.lawful.below_ceiling c.args.id (cyclic_of_entry entry) facts.cyclic in
    let apart = c.if-count-self.false in omega (arith, most, apart, ceil)) in
    let may = can_expire l c.args.id (cyclic_of_entry entry) facts.cyclic c.requires.may below in
    let raised : level_of c.expire-2.new.self ≡ after (Expire c.args.id) l = c.expire-2.ensures
    ∙ ap (λ i. after (Expire i) l) facts.id in
    let none : entry.count ≡ 0 = omega (arith, c.if-count-gt0.false) in
    let left : level_of c.publish.new.self ≡ after Publish (after (Expire c.args.id) l) = c.publish.ensures
    ∙ ap (after Publish) raised in
    subst (λ (m : SoftLevel). Learns (firing_view l) (Raises c.args.id First) (firing_view m)) (sym left)
    (learns_first l c.args.id (cyclic_of_entry entry) facts.cyclic none may.0)

pub returns-clause-sound : goal.returns-clause-sound
returns-clause-sound c =
    let l = level_of c.args.self.now in
    let entry = c.entry_at-entry.result in
    let facts = c.entry_at-entry.ensures in
    let ceil : c.self.inside.ceiling ≡ l.ceiling = ap (λ (t : Tables). t.ceiling) c.self.view_is in
    let below : entry.count < l.ceiling = (let most = facts.lawful.below_ceiling c.args.id (cyclic_of_entry entry) facts.cyclic in
    let apart = c.if-count-self.false in omega (arith, most, apart, ceil)) in
    let may = can_expire l c.args.id (cyclic_of_entry entry) facts.cyclic c.requires.may below in
    let raised : level_of c.expire-2.new.self ≡ after (Expire c.args.id) l = c.expire-2.ensures
    ∙ ap (λ i. after (Expire i) l) facts.id in
    let none : entry.count ≡ 0 = omega (arith, c.if-count-gt0.false) in
    let left : level_of c.publish.new.self ≡ after Publish (after (Expire c.args.id) l) = c.publish.ensures
    ∙ ap (after Publish) raised in
    subst (λ (m : SoftLevel). Sound (firing_view m)) (sym left)
    (sound_after (after (Expire c.args.id) l) Publish (keeps_law l facts.lawful (Expire c.args.id) may) facts.some_ceiling
    (can_publish l c.args.id (cyclic_of_entry entry) facts.cyclic none))
