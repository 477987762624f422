-- Levels stay lawful along a run.
use Rattle.std.proofs.Common.{◌≡◌, ◌≢◌, ℕ, zero, suc, ◌<◌, List, [], ◌∷◌, Some, sym, ap, ◌∙◌, subst, arith}
use Rattle.cyc_types.specs.declared.level.Soft.{Soft}
use Rattle.cyc_types.specs.declared.level.Soft.TheVariants.{Low, Lock}
use Rattle.cyc_level.specs.declared.Event.{Event}
use Rattle.cyc_level.specs.declared.Event.TheVariants.{Admit, Expire, Lose, Publish, Take, Finish, Mark, Clear, Switch, Follow}
use Rattle.cyc_level.specs.Level.{SoftLevel, AdmittedCyclic, count, count_in}
use Rattle.cyc_level.specs.Lawful.{Lawful}
use Rattle.cyc_level.specs.Events.{Enabled, after, most_sent}
use Rattle.cyc_level.proofs.Maps.{some_of, is_some_and}
use Rattle.cyc_level.proofs.Keeps.{empty_lawful, keeps_law}
use Rattle.cyc_level.proofs.Room.{conserved_level}
use Rattle.cyc_model.specs.Acts.{events_at}
use Rattle.cyc_model.specs.Cpu.{begun_cpu}
use Rattle.cyc_model.specs.Serving.{level_at, level_after}
use Rattle.cyc_model.specs.State.{absent}
use Rattle.cyc_model.specs.Script.{steps_from, start}
use Rattle.cyc_model.specs.Laws.{level_on, CanAsSoft, AllCanAsSoft}
use Rattle.cyc_model.specs.Along.{CanAsFiring, AllCanAsFiring, IsSoundLevel, AllAlong, LevelsStayLawful}
use Rattle.cyc_model.specs.Agreement.{IsReadyToExpire, AllReady}
use Rattle.cyc_model.proofs.Telling.{tells_steps, fair_steps, ready_steps}
use Rattle.std.specs.Prelude.{slice_index_or, replicate}

below : (l : SoftLevel) → Lawful l → (id : ℕ) (c : AdmittedCyclic) → l.cyclics id ≡ Some c → count l id ≢ l.ceiling
    → c.count < l.ceiling
below l law id c is ne =
    let le = law.below_ceiling id c is in
    let far : c.count ≢ l.ceiling = λ same. ne (ap count_in is ∙ same) in omega (arith, le, far)

pub can_of_all : (e : Event) (l : SoftLevel) → Lawful l → CanAsFiring e l → CanAsSoft e l → IsReadyToExpire e l → Enabled e l
can_of_all (Admit id index) l law firing soft ready = firing
can_of_all (Expire id) l law firing soft ready =
    let c = some_of (l.cyclics id) ready.1 in (
      ready.0,
      firing.0,
      is_some_and (λ x. (x.count < l.ceiling) × (x.sent < most_sent)) (l.cyclics id) c.0 c.1
          (below l law id c.0 c.1 ready.2, firing.1 c.0 c.1),
    )
can_of_all (Lose id) l law firing soft ready =
    let c = some_of (l.cyclics id) ready.1 in (
      ready.0,
      firing.0,
      is_some_and (λ x. (x.count ≡ l.ceiling) × (x.sent < most_sent)) (l.cyclics id) c.0 c.1
          (sym (ap count_in c.1) ∙ ready.2, firing.1 c.0 c.1),
    )
can_of_all Publish l law firing soft ready = soft
can_of_all Take l law firing soft ready = soft
can_of_all Finish l law firing soft ready = soft
can_of_all (Mark id) l law firing soft ready = (ready.0, firing, ready.1)
can_of_all (Clear id) l law firing soft ready = (ready, firing.0, firing.1)
can_of_all (Switch bank) l law firing soft ready = (ready, firing.0, firing.1, firing.2)
can_of_all Follow l law firing soft ready = soft

sound : (l : SoftLevel) → Lawful l → IsSoundLevel l
sound l law = (law, conserved_level l law)

-- the laws hold all along these events, and after them
along : (es : List Event) (l : SoftLevel) → Lawful l → AllCanAsFiring es l → AllCanAsSoft es l → AllReady es l
    → AllAlong es l × IsSoundLevel (level_after es l)
along [] l law firing soft ready = (sound l law, sound l law)
along (e ∷ es) l law firing soft ready =
    let can = can_of_all e l law firing.0 soft.0 ready.0 in
    let rest = along es (after e l) (keeps_law l law e can) firing.1 soft.1 ready.1 in
    ((sound l law, rest.0), rest.1)

pub levels_stay_lawful : LevelsStayLawful
levels_stay_lawful q texts indexes step xs s free agree n within soft law firing =
    let h = along (events_at n soft (steps_from q texts indexes step xs s).acts) (level_on n soft s) law firing
    ((fair_steps q texts indexes step xs s free).0 n within soft)
    (ready_steps q texts indexes step xs s free agree n within soft) in (
      h.0,
      subst (λ l. IsSoundLevel l) (sym ((tells_steps q texts indexes step xs s).tells.levels n within soft)) h.1,
    )

start_level : (k n ceiling : ℕ) (soft : Soft) → Lawful (level_at soft (slice_index_or (replicate k (begun_cpu ceiling)) n absent))
start_level zero n ceiling Low = empty_lawful 0
start_level zero n ceiling Lock = empty_lawful 0
start_level (suc k) zero ceiling Low = empty_lawful ceiling
start_level (suc k) zero ceiling Lock = empty_lawful ceiling
start_level (suc k) (suc n) ceiling soft = start_level k n ceiling soft

pub start_lawful : (cpus ceiling names n : ℕ) (soft : Soft) → Lawful (level_on n soft (start cpus ceiling names))
start_lawful cpus ceiling names n soft = start_level cpus n ceiling soft
