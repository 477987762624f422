-- What the lead has before its first step.
use Rattle.std.proofs.Common.{◌≡◌, ℕ, List, [], ap, sym, subst, ◌∙◌, length}
use Rattle.std.proofs.lemmas.List.{length-map}
use Rattle.cyc_types.specs.Firing.{FiringView}
use Rattle.cyc_agreement.specs.Cpus.{CpusView, new_cpu, new_cpus}
use Rattle.cyc_system_laws.specs.Sound.{IsSound}
use Rattle.cyc_system_workers.specs.System.{SystemView}
use Rattle.cyc_system_workers.specs.declared.side.SystemSide.{SystemSide}
use Rattle.cyc_threads.specs.Running.{most}

-- as many CPUs as ends
pub many_cpus : {R : Type 0} (ends : List (R × R)) (v : CpusView R) → v ≡ new_cpus most ends → length v.cpus ≡ length ends
many_cpus {R = R} ends v is = ap (λ (x : CpusView R). length x.cpus) is ∙ length-map ends (λ (e : R × R). new_cpu most e.0 e.1)

module _ {R C : Type 0} (ends : List (R × R)) (last : ℕ) (side first : SystemSide R C) (is : first ≡ side)
    (made : side.system ≡ record { cpus = new_cpus most ends; records = []; last = last }) where
  same : first.system ≡ record { cpus = new_cpus most ends; records = []; last = last }
  same = ap (λ (s : SystemSide R C). s.system) is ∙ made

  pub first_cpus : first.system.cpus ≡ new_cpus most ends
  first_cpus = ap (λ (s : SystemView R). s.cpus) same

  pub first_records : first.system.records ≡ []
  first_records = ap (λ (s : SystemView R). s.records) same

  pub first_last : first.system.last ≡ last
  first_last = ap (λ (s : SystemView R). s.last) same

  pub first_ready : length side.leads.items ≡ length ends → length first.leads.items ≡ length first.system.cpus.cpus
  first_ready long = ap (λ (s : SystemSide R C). length s.leads.items) is ∙ long
      ∙ sym (many_cpus ends first.system.cpus first_cpus)

  pub first_sound : (view : R → FiringView) → IsSound view side.system → IsSound view first.system
  first_sound view sound = subst (λ (s : SystemSide R C). IsSound view s.system) (sym is) sound
