-- What is told of a name.
use Rattle.std.proofs.Common.{◌≡◌, ℕ, ◌-◌, Bool, true, false, cond, List, Option, None, refl, ap, ◌∙◌}
use Rattle.std.specs.Prelude.{unwrap_or, nat_lt, slice_get, slice_index}
use Rattle.std.proofs.lemmas.Option.{unwrap_or-slice_get}
use Rattle.cyc_types.specs.Tally.{TallyView, tally_count, tally_get}
use Rattle.cyc_text.specs.declared.lines.Counts.{Counts}

told : (b : Bool) (counts : List ℕ) (k : ℕ) → unwrap_or (cond b None (slice_get counts k)) 0 ≡ cond b 0 (slice_index counts k)
told true counts k = refl
told false counts k = unwrap_or-slice_get counts k 0

-- the tally has the count of an id
pub called : (t : TallyView) (id n : ℕ) (o : Option ℕ) → n ≡ unwrap_or o 0 → o ≡ tally_get t id → n ≡ tally_count t id
called t id n o is found = is ∙ (ap (λ x. unwrap_or x 0) found ∙ told (nat_lt id t.first) t.counts (id - t.first))

-- the same counts
pub same_counts : (a b : Counts) → a.expired ≡ b.expired → a.called ≡ b.called → a.lost ≡ b.lost → a.pending ≡ b.pending → a ≡ b
same_counts a b expired calls lost pending =
    λ z. record { expired = expired z; called = calls z; lost = lost z; pending = pending z }
