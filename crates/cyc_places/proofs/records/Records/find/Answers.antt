use Rattle.std.proofs.Common.{◌≡◌, ◌≢◌, ◌∙◌, ℕ, Option, Some, None, IfSome, IfNone, sym, subst}
use Rattle.std.specs.List.{All}
use Rattle.cyc_finder.specs.Sorted.{Rises, IsAt}
use Rattle.cyc_places.specs.declared.record.Record.{Record}
use Rattle.cyc_places.specs.declared.records.RecordId.{RecordId}
use Rattle.cyc_places.specs.Places.{RecordsView, IsRecord, HasNoRecord}
use Rattle.cyc_places.proofs.Edits.{id_of, ids_rise, found_record, no_record}
use Rattle.cyc_places.proofs.records.Records.find.Goals as goal

when_found : (r : Option ℕ) (P Q : ℕ → Type 0) → IfSome r P → ((k : ℕ) → P k → Q k) → IfSome r Q
when_found (Some k) P Q is to = to k is
when_found None P Q is to = tt

when_absent : (r : Option ℕ) (P Q : Type 0) → IfNone r P → (P → Q) → IfNone r Q
when_absent (Some k) P Q is to = tt
when_absent None P Q is to = to is

pub find_in-requires-clause-rises : goal.find_in-requires-clause-rises
find_in-requires-clause-rises c =
    subst (Rises id_of) (sym (c.as_slices.ensures.items ∙ c.self.invariant.4))
    (ids_rise c.self.inside.list.items c.self.invariant.0)

pub returns-clause-none : goal.returns-clause-none
returns-clause-none c =
    let kept = c.self.inside.list.items in let id = c.args.id in
    let are = c.as_slices.ensures.items ∙ c.self.invariant.4 in
    when_absent c.find_in.result _ _ c.find_in.ensures.none
    (λ none. subst (λ (v : RecordsView). HasNoRecord id v.list) c.self.view_is
    (no_record kept id (subst (All (λ (n : RecordId). n.id ≢ id)) are none)))

pub returns-clause-some : goal.returns-clause-some
returns-clause-some c =
    let kept = c.self.inside.list.items in let id = c.args.id in
    let are = c.as_slices.ensures.items ∙ c.self.invariant.4 in
    when_found c.find_in.result _ _ c.find_in.ensures.some
    (λ k at. subst (λ (v : RecordsView). (r : Record) × IsRecord v.list k r × (r.id ≡ id)) c.self.view_is
    (found_record kept id k (subst (λ xs. IsAt id_of xs id k) are at)))
