use Rattle.std.proofs.Common.{◌≡◌, ◌≢◌, ◌<◌, ap, arith, rules, subst, sym, ◌∙◌, Some}
use Rattle.cyc_level.specs.Level.{times_in}
use Rattle.cyc_level.specs.Lawful.{Lawful}
use Rattle.cyc_core.specs.Tables.{Tables, level_of}
use Rattle.cyc_core.specs.Shown.{shown_core}
use Rattle.cyc_core.specs.declared.books.Place.TheVariants.{FirerHand, OldBank, NewBank, DrainerHand}
use Rattle.cyc_core.proofs.Changes.{reached_lawful}
use Rattle.cyc_core.proofs.PlaceLaws.{the_place, stands_and_owes, any_times, none_times, no_place, nothing_owed}
use Rattle.cyc_core.proofs.level_core.LevelCore.place.Goals as goal

pub returns-then-eq-clause-place : goal.returns-then-eq-clause-place
returns-then-eq-clause-place c =
    let l = level_of c.args.self.now in
    let law : Lawful l = subst (λ (t : Tables). Lawful (level_of t)) c.self.view_is
    (reached_lawful (level_of (shown_core c.self.inside)) c.self.invariant.reached) in
    let firer : l.firer_hand ≡ Some c.args.id = search rules in
    the_place l law c.args.id FirerHand firer

pub returns-then-eq-clause-outstanding : goal.returns-then-eq-clause-outstanding
returns-then-eq-clause-outstanding c =
    let l = level_of c.args.self.now in
    let law : Lawful l = subst (λ (t : Tables). Lawful (level_of t)) c.self.view_is
    (reached_lawful (level_of (shown_core c.self.inside)) c.self.invariant.reached) in
    let firer : l.firer_hand ≡ Some c.args.id = search rules in
    stands_and_owes l law c.args.id FirerHand firer

pub returns-then-eq-2-clause-place : goal.returns-then-eq-2-clause-place
returns-then-eq-2-clause-place c =
    let l = level_of c.args.self.now in
    let law : Lawful l = subst (λ (t : Tables). Lawful (level_of t)) c.self.view_is
    (reached_lawful (level_of (shown_core c.self.inside)) c.self.invariant.reached) in
    let drainer : l.drainer_hand ≡ Some c.args.id = search rules in
    the_place l law c.args.id DrainerHand drainer

pub returns-then-eq-2-clause-outstanding : goal.returns-then-eq-2-clause-outstanding
returns-then-eq-2-clause-outstanding c =
    let l = level_of c.args.self.now in
    let law : Lawful l = subst (λ (t : Tables). Lawful (level_of t)) c.self.view_is
    (reached_lawful (level_of (shown_core c.self.inside)) c.self.invariant.reached) in
    let drainer : l.drainer_hand ≡ Some c.args.id = search rules in
    stands_and_owes l law c.args.id DrainerHand drainer

pub returns-then-stands_in-clause-place : goal.returns-then-stands_in-clause-place
returns-then-stands_in-clause-place c =
    let l = level_of c.args.self.now in
    let law : Lawful l = subst (λ (t : Tables). Lawful (level_of t)) c.self.view_is
    (reached_lawful (level_of (shown_core c.self.inside)) c.self.invariant.reached) in
    let old_is : c.self.inside.old_list.items ≡ l.old_list = ap (λ (t : Tables). t.old_list) c.self.view_is in
    let stands = subst (λ xs. 0 < times_in c.args.id xs) old_is
    (any_times c.args.id c.self.inside.old_list.items (sym c.stands_in.ensures ∙ c.if-stands_in.true)) in
    the_place l law c.args.id OldBank stands

pub returns-then-stands_in-clause-outstanding : goal.returns-then-stands_in-clause-outstanding
returns-then-stands_in-clause-outstanding c =
    let l = level_of c.args.self.now in
    let law : Lawful l = subst (λ (t : Tables). Lawful (level_of t)) c.self.view_is
    (reached_lawful (level_of (shown_core c.self.inside)) c.self.invariant.reached) in
    let old_is : c.self.inside.old_list.items ≡ l.old_list = ap (λ (t : Tables). t.old_list) c.self.view_is in
    let stands = subst (λ xs. 0 < times_in c.args.id xs) old_is
    (any_times c.args.id c.self.inside.old_list.items (sym c.stands_in.ensures ∙ c.if-stands_in.true)) in
    stands_and_owes l law c.args.id OldBank stands

pub returns-then-stands_in-2-clause-place : goal.returns-then-stands_in-2-clause-place
returns-then-stands_in-2-clause-place c =
    let l = level_of c.args.self.now in
    let law : Lawful l = subst (λ (t : Tables). Lawful (level_of t)) c.self.view_is
    (reached_lawful (level_of (shown_core c.self.inside)) c.self.invariant.reached) in
    let new_is : c.self.inside.new_list.items ≡ l.new_list = ap (λ (t : Tables). t.new_list) c.self.view_is in
    let stands = subst (λ xs. 0 < times_in c.args.id xs) new_is
    (any_times c.args.id c.self.inside.new_list.items (sym c.stands_in-2.ensures ∙ c.if-stands_in-2.true)) in
    the_place l law c.args.id NewBank stands

pub returns-then-stands_in-2-clause-outstanding : goal.returns-then-stands_in-2-clause-outstanding
returns-then-stands_in-2-clause-outstanding c =
    let l = level_of c.args.self.now in
    let law : Lawful l = subst (λ (t : Tables). Lawful (level_of t)) c.self.view_is
    (reached_lawful (level_of (shown_core c.self.inside)) c.self.invariant.reached) in
    let new_is : c.self.inside.new_list.items ≡ l.new_list = ap (λ (t : Tables). t.new_list) c.self.view_is in
    let stands = subst (λ xs. 0 < times_in c.args.id xs) new_is
    (any_times c.args.id c.self.inside.new_list.items (sym c.stands_in-2.ensures ∙ c.if-stands_in-2.true)) in
    stands_and_owes l law c.args.id NewBank stands

pub returns-clause-place : goal.returns-clause-place
returns-clause-place c =
    let l = level_of c.args.self.now in
    let law : Lawful l = subst (λ (t : Tables). Lawful (level_of t)) c.self.view_is
    (reached_lawful (level_of (shown_core c.self.inside)) c.self.invariant.reached) in
    let firer : l.firer_hand ≢ Some c.args.id = search rules in
    let drainer : l.drainer_hand ≢ Some c.args.id = search rules in
    let old_is : c.self.inside.old_list.items ≡ l.old_list = ap (λ (t : Tables). t.old_list) c.self.view_is in
    let new_is : c.self.inside.new_list.items ≡ l.new_list = ap (λ (t : Tables). t.new_list) c.self.view_is in
    let none_old = subst (λ xs. times_in c.args.id xs ≡ 0) old_is
    (none_times c.args.id c.self.inside.old_list.items (sym c.stands_in.ensures ∙ c.if-stands_in.false)) in
    let none_new = subst (λ xs. times_in c.args.id xs ≡ 0) new_is
    (none_times c.args.id c.self.inside.new_list.items (sym c.stands_in-2.ensures ∙ c.if-stands_in-2.false)) in
    λ q. (λ e. absurd (let wrong : ⊥ = cc in wrong), λ h. absurd (no_place l law c.args.id firer drainer none_old none_new q h))

pub returns-clause-outstanding : goal.returns-clause-outstanding
returns-clause-outstanding c =
    let l = level_of c.args.self.now in
    let law : Lawful l = subst (λ (t : Tables). Lawful (level_of t)) c.self.view_is
    (reached_lawful (level_of (shown_core c.self.inside)) c.self.invariant.reached) in
    let firer : l.firer_hand ≢ Some c.args.id = search rules in
    let drainer : l.drainer_hand ≢ Some c.args.id = search rules in
    let old_is : c.self.inside.old_list.items ≡ l.old_list = ap (λ (t : Tables). t.old_list) c.self.view_is in
    let new_is : c.self.inside.new_list.items ≡ l.new_list = ap (λ (t : Tables). t.new_list) c.self.view_is in
    let none_old = subst (λ xs. times_in c.args.id xs ≡ 0) old_is
    (none_times c.args.id c.self.inside.old_list.items (sym c.stands_in.ensures ∙ c.if-stands_in.false)) in
    let none_new = subst (λ xs. times_in c.args.id xs ≡ 0) new_is
    (none_times c.args.id c.self.inside.new_list.items (sym c.stands_in-2.ensures ∙ c.if-stands_in-2.false)) in (
      λ e. absurd (let wrong : ⊥ = cc in wrong),
      λ some. absurd (let none = nothing_owed l law c.args.id firer drainer none_old none_new in omega (arith, some, none)),
    )
