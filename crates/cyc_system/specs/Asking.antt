-- Where a cyclic is, for those who ask.
use Rattle.std.specs.Prelude.{ℕ, Option}
use Rattle.std.specs.Option.{option_map}
use Rattle.cyc_places.specs.declared.record.Placement.{Placement}
use Rattle.cyc_places.specs.declared.record.Placement.TheVariants.{On, Everywhere}
use Rattle.cyc_system.specs.declared.asking.CpuOrOmni.{CpuOrOmni}
use Rattle.cyc_system.specs.declared.asking.CpuOrOmni.TheVariants.{Cpu, Omni}
use Rattle.cyc_agreement.specs.System.{SystemView, record_of}

-- where a cyclic is
abbrev pub whereabouts : Placement → CpuOrOmni
whereabouts (On n bound) = Cpu n
whereabouts (Everywhere first skew) = Omni

-- where the cyclic of an id is
abbrev pub place_of : {R : Type 0} → ℕ → SystemView R → Option CpuOrOmni
place_of id s = option_map (λ r. whereabouts r.placement) (record_of id s)
