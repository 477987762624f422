use Rattle.std.proofs.Common.{◌≡◌, ◌∙◌, inl, inr, Option, Some, None, true, false, refl, sym, ap}
use Rattle.std.specs.Prelude.{not, is_some}
use Rattle.std.specs.Option.{option_map, option_map_or}
use Rattle.cyc_places.specs.declared.record.Record.{Record}
use Rattle.cyc_places.specs.Places.{is_everywhere}
use Rattle.cyc_system.specs.System.{record_of}
use Rattle.cyc_system_laws.specs.Keeping.{over_stays}
use Rattle.cyc_system_laws.proofs.Looked.{look_kept}
use Rattle.cyc_system_laws.proofs.Kept.{stays_kept, moments_kept}
use Rattle.cyc_system_laws.proofs.keeping.stays_law.Goals as goal

-- looked up as a default, and mapped
unknown_read : (o : Option Record) → not (is_some o) ≡ option_map_or (λ (r : Record). false) o true
unknown_read None = refl
unknown_read (Some r) = refl

level_read : (o : Option Record) → option_map (λ (r : Record). r.level) o ≡ option_map_or (λ (r : Record). Some r.level) o None
level_read None = refl
level_read (Some r) = refl

pub returns-clause-stays : goal.returns-clause-stays
returns-clause-stays g c id s t call a b d ne f = stays_kept g.R.Raise f id s t call a b d ne

pub returns-clause-reprogrammed : goal.returns-clause-reprogrammed
returns-clause-reprogrammed g c id moment s t answer a b (inl (e, why, is, same)) f blind = ap (over_stays f id) same
returns-clause-reprogrammed g c id moment s t answer a b (inr (clear, (n, home, (is, only)))) f blind =
    moments_kept g.R.Raise f id s t id n moment a b blind only

pub returns-clause-component : goal.returns-clause-component
returns-clause-component g c id n moment s t answer a b (inl (e, why, is, same)) f blind = ap (over_stays f id) same
returns-clause-component g c id n moment s t answer a b (inr (clear, (is, only))) f blind =
    moments_kept g.R.Raise f id s t id n moment a b blind only

pub returns-clause-known : goal.returns-clause-known
returns-clause-known g c id s t call rising d other =
    let firing = g.R.Raise in record {
      known = unknown_read (record_of id t)
          ∙ (look_kept firing (λ (r : Record). false) true (λ r n bound e. refl) (λ r n c. refl) id s t call rising d other
          ∙ sym (unknown_read (record_of id s)));
      level = level_read (record_of id t)
          ∙ (look_kept firing (λ (r : Record). Some r.level) None (λ r n bound e. refl)
          (λ r n c. refl) id s t call rising d other ∙ sym (level_read (record_of id s)));
      everywhere = look_kept firing (λ (r : Record). is_everywhere r.placement) false (λ r n bound e. sym e)
          (λ r n c. refl) id s t call rising d other;
    }
