use Rattle.std.proofs.Common.{◌≡◌, ◌<◌, Bool, true, false, not, ap, refl, rules, subst, sym, ◌∙◌, None}
use Rattle.cyc_level.specs.Level.{bank_size}
use Rattle.cyc_level.specs.Lawful.{IsId}
use Rattle.cyc_level.specs.Events.{IsUnused}
use Rattle.cyc_core.specs.Tables.{Tables, level_of}
use Rattle.cyc_core.proofs.PlaceLaws.{unused_is, free_is}
use Rattle.cyc_core.proofs.level_core.LevelCore.may_admit.Goals as goal

not_true : (b : Bool) → not b ≡ true → b ≡ false
not_true true h = absurd (let no : ⊥ = cc in no)
not_true false h = refl

pub returns-then-from-slots : goal.returns-then-from-slots
returns-then-from-slots c =
    let l = level_of c.args.self.now in
    let a = c.self.inside in
    let sound = c.self.invariant.cyclics_kept in
    let told = rw c.deref.ensures.value at c.is_index_kept.ensures in
    let free : l.firer_hand ≡ None = search rules in
    let valid : IsId c.args.id = search rules in
    let absent : l.cyclics c.args.id ≡ None = search rules in
    let below : c.args.index < bank_size l.hard_bank = search rules in (
      λ h. (
        free,
        valid,
        absent,
        subst (λ (t : Tables). IsUnused (level_of t) c.args.index) c.self.view_is
            (unused_is a.kept.items a.ids.entries sound c.args.index (sym told ∙ not_true c.is_index_kept.result h)),
        below,
      ),
      λ may. ap not (told ∙ free_is a.kept.items a.ids.entries sound c.args.index
          (subst (λ (t : Tables). IsUnused (level_of t) c.args.index) (sym c.self.view_is) may.3)),
    )
