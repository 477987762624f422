-- What is kept of each cyclic while a CPU is left.
use Rattle.std.proofs.Common.{◌≡◌, ◌∙◌, ◌==◌, ℕ, zero, suc, ◌+◌, inl, inr, All, find, Result, List, [], ◌∷◌}
use Rattle.std.proofs.Common.{refl, ap, arith}
use Rattle.std.specs.List.{FoldsTo}
use Rattle.std.specs.Option.{option_and_then}
use Rattle.cyc_types.specs.declared.Calls.{Ghosts as Calls}
use Rattle.cyc_types.specs.declared.level.Soft.{Soft}
use Rattle.cyc_cpu.specs.Ran.{Ran}
use Rattle.cyc_cpu.specs.Rows.{Cyclic}
use Rattle.cyc_cpu.specs.Soft.{Interrupts, firing_at, raise_tables}
use Rattle.cyc_cpu.specs.Tables.{Tables}
use Rattle.cyc_system.proofs.Who.{kept_at}
use Rattle.cyc_system.specs.Calls.{Does, SoftInterrupt, SystemCall}
use Rattle.cyc_system.specs.Counts.{all_expired, all_lost}
use Rattle.cyc_system.specs.Cpus.{CpusView}
use Rattle.cyc_system.specs.RemovalLaws.{cyclic_in, cyclic_on}
use Rattle.cyc_system.specs.System.{RunningSystem, SystemView, is_omnipresent, is_unknown}
use Rattle.cyc_system_laws.specs.Keeping.{EndsRemoval, SameRecord, SameStays, level_known}
use Rattle.cyc_system_laws.specs.Sound.{IsSound}
use Rattle.cyc_system_laws.specs.SoftFault.{SoftFault}
use Rattle.cyc_system_laws.specs.Totalling.{Steps, expirations_along, losses_along}
use Rattle.uses.specs.System.{KeepsCyclics}

-- ---- what is kept by one call and then by another is kept by both

pub keeps_none : {R : Type 0} (n : ℕ) (s : SystemView R) → KeepsCyclics n s s
keeps_none n s = record {
  counts = λ id. (refl, refl);
  stays = λ id single f. refl;
  components = λ id m everywhere apart. refl;
  records = λ id. record { known = refl; level = refl; everywhere = refl };
}

-- ---- a soft interrupt

module _ {C : Type 0} (handler : Calls C) (n budget : ℕ) (level : Soft) (answer : Result Ran SoftFault)
    (s t : RunningSystem C Tables) (d : Does handler raise_tables (Interrupts handler) s (SoftInterrupt n level budget answer) t)
    (after : IsSound firing_at t.system) where
  -- the run of this call alone
  abbrev pub one_call : List SystemCall
  one_call = SoftInterrupt n level budget answer ∷ []

  abbrev pub one_step : RunningSystem C Tables → SystemCall → RunningSystem C Tables → Type 0
  one_step = Steps handler raise_tables (Interrupts handler)

  abbrev pub run : FoldsTo one_step s one_call t
  run = (t, (d, after), refl)

  pub no_end : (id : ℕ) → All (λ call. EndsRemoval id call → ⊥) one_call
  no_end id zero e low ends = ends
  no_end id (suc k) e low ends = absurd (omega (arith, low))

  cyclics_same : Does handler raise_tables (Interrupts handler) s (SoftInterrupt n level budget answer) t → (id m : ℕ)
      → cyclic_on m id t.system.cpus ≡ cyclic_on m id s.system.cpus
  cyclics_same (inl (e, why, is, same)) id m = ap (λ (x : RunningSystem C Tables). cyclic_on m id x.system.cpus) same
  cyclics_same (inr (clear, (own, is, runs, records, last))) id m =
      ap (λ (v : CpusView Tables). cyclic_on m id v) runs.rest
      ∙ kept_at s.system.cpus n runs.before runs.after runs.here (λ o. option_and_then (cyclic_in id) o)
      (ap (λ cs. find (λ (c : Cyclic). c.timer.id == id) cs) runs.change.1.cyclics) m

  records_same : Does handler raise_tables (Interrupts handler) s (SoftInterrupt n level budget answer) t
      → t.system.records ≡ s.system.records
  records_same (inl (e, why, is, same)) = ap (λ (x : RunningSystem C Tables). x.system.records) same
  records_same (inr (clear, (own, is, runs, records, last))) = records

  same_record : (id : ℕ) → SameRecord id s.system t.system
  same_record id = let e = records_same d in record {
    known = ap (λ rs. is_unknown id (record s.system { records = rs })) e;
    level = ap (λ rs. level_known id (record s.system { records = rs })) e;
    everywhere = ap (λ rs. is_omnipresent id (record s.system { records = rs })) e;
  }

  pub served_keeps : ((id : ℕ) → all_expired id t.system
      ≡ all_expired id s.system + expirations_along one_step id s one_call t run)
      → ((id : ℕ) → all_lost id t.system
      ≡ all_lost id s.system + losses_along handler raise_tables (Interrupts handler) id s one_call t run)
      → ((id : ℕ) → SameStays id s.system t.system) → KeepsCyclics n s.system t.system
  served_keeps expired lost stays = record {
    counts = λ id. (let a = expired id in omega (arith, a), let b = lost id in omega (arith, b));
    stays = λ id single. stays id;
    components = λ id m everywhere apart. cyclics_same d id m;
    records = same_record;
  }
