-- What an omnipresent cyclic has on each CPU after a call.
use Rattle.std.specs.Prelude.{◌≡◌, ◌≢◌, ℕ, ◌+◌, ◌==◌, true, false, List, [], find, Ok}
use Rattle.std.specs.List.{slice_get}
use Rattle.std.specs.Option.{option_map_or}
use Rattle.cyc_types.specs.declared.Raise.{Ghosts as Raise}
use Rattle.cyc_types.specs.declared.level.Level.{Level}
use Rattle.cyc_types.specs.declared.moment.When.{When}
use Rattle.cyc_cpu.specs.Rows.{Cyclic}
use Rattle.cyc_cpu.specs.Cpu.{CpuView, IsCyclic, new_cyclic, cyclic_with}
use Rattle.cyc_places.specs.declared.record.Placement.TheVariants.{Everywhere}
use Rattle.cyc_places.specs.declared.record.Record.{Record}
use Rattle.cyc_places.specs.Places.{IsRecord, HasRisingIds, ended_on}
use Rattle.cyc_agreement.specs.Cpus.{IsCpu, OfCpu}
use Rattle.cyc_agreement.specs.System.{SystemView, is_online}
use Rattle.cyc_agreement.specs.Agreement.{Agrees}
use Rattle.cyc_agreement.specs.Adding.{add_request}
use Rattle.cyc_agreement.specs.Omni.{component_first, AddsOmni}
use Rattle.cyc_agreement.specs.Online.{is_staying, GoesOnline}

-- this cyclic is one of these
abbrev pub IsOneOf : Cyclic → List Cyclic → Type 0
IsOneOf c cs = (k : ℕ) × IsCyclic cs k c

-- this cyclic is one of these, and no other has its id
abbrev pub HasOne : Cyclic → List Cyclic → Type 0
HasOne c cs = (k : ℕ) × IsCyclic cs k c × ((j : ℕ) (d : Cyclic) → IsCyclic cs j d → d.timer.id ≡ c.timer.id → j ≡ k)

-- a component that has not expired yet, on the CPU of this number
abbrev pub new_component : ℕ → ℕ → Level → When → ℕ → ℕ → Cyclic
new_component n id level when skew now = new_cyclic id level when.interval (component_first n when skew now)

-- after a cyclic was added everywhere, each online CPU has one component of it, with the start of the CPU's number
abbrev pub EachHasItsComponent : {R : Type 0} → Raise R → Type 0
EachHasItsComponent {R} firing = (s t : SystemView R) (level : Level) (when : When) (skew now id : ℕ)
    → AddsOmni firing (add_request level when now) skew (Ok id) s t → (n : ℕ) → is_online n s.cpus ≡ true
    → OfCpu n (λ cpu. HasOne (new_component n id level when skew now) cpu.cyclics) t.cpus

-- and every other cyclic is where it was, as it was
abbrev pub OthersStay : {R : Type 0} → Raise R → Type 0
OthersStay {R} firing = (s t : SystemView R) (level : Level) (when : When) (skew now id : ℕ)
    → AddsOmni firing (add_request level when now) skew (Ok id) s t → (n : ℕ) (x y : CpuView R)
    → IsCpu n x s.cpus → IsCpu n y t.cpus
    → (d : Cyclic) → d.timer.id ≢ id → (IsOneOf d x.cyclics → IsOneOf d y.cyclics) × (IsOneOf d y.cyclics → IsOneOf d x.cyclics)

-- a component that comes back with what its earlier stays on this CPU came to
abbrev pub old_component : ℕ → Record → When → ℕ → ℕ → Cyclic
old_component n r when skew now =
    cyclic_with r.id r.level when.interval (component_first n when skew now) (ended_on n r).sent (ended_on n r).lost

-- after a CPU took part again it has one component of each omnipresent cyclic whose removal is not open
abbrev pub AllCameBack : {R : Type 0} → Raise R → Type 0
AllCameBack {R} firing = (s t : SystemView R) (n now : ℕ) → GoesOnline firing n now (Ok tt) s t
    → (k : ℕ) (r : Record) (when : When) (skew : ℕ) → IsRecord s.records k r → r.placement ≡ Everywhere when skew
    → is_staying s.cpus r ≡ true → OfCpu n (λ cpu. HasOne (old_component n r when skew now) cpu.cyclics) t.cpus

-- and no other CPU was touched
abbrev pub OtherCpusStay : {R : Type 0} → Raise R → Type 0
OtherCpusStay {R} firing = (s t : SystemView R) (n now : ℕ) → GoesOnline firing n now (Ok tt) s t
    → (m : ℕ) → m ≢ n → (slice_get t.cpus.cpus m ≡ slice_get s.cpus.cpus m) × (is_online m t.cpus ≡ is_online m s.cpus)

-- the expirations of a cyclic on a CPU: those that its CPU counts, and those of its ended stays there
abbrev pub expired_on : {R : Type 0} → ℕ → Record → SystemView R → ℕ
expired_on n r s = option_map_or (λ c. c.timer.expired)
    (find (λ c. c.timer.id == r.id) (option_map_or (λ cpu. cpu.cyclics) (slice_get s.cpus.cpus n) [])) 0 + (ended_on n r).sent

-- those of them that were lost at the ceiling
abbrev pub lost_on : {R : Type 0} → ℕ → Record → SystemView R → ℕ
lost_on n r s = option_map_or (λ c. c.lost)
    (find (λ c. c.timer.id == r.id) (option_map_or (λ cpu. cpu.cyclics) (slice_get s.cpus.cpus n) [])) 0 + (ended_on n r).lost

-- a CPU that takes part again loses no count of a cyclic, on any CPU, and no cyclic
abbrev pub NothingIsLost : {R : Type 0} → Raise R → Type 0
NothingIsLost {R} firing = (s t : SystemView R) (n now : ℕ) → Agrees s → HasRisingIds s.records
    → is_online n s.cpus ≡ false
    → GoesOnline firing n now (Ok tt) s t → (k : ℕ) (r : Record) → IsRecord s.records k r
    → (q : Record) × IsRecord t.records k q × (q.id ≡ r.id) × (q.level ≡ r.level) × (q.placement ≡ r.placement)
    × ((m : ℕ) → (expired_on m q t ≡ expired_on m r s) × (lost_on m q t ≡ lost_on m r s))
