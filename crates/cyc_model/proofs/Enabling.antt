-- Every event of a script's run is enabled when it happens.
use Rattle.std.proofs.Common.{◌≡◌, ℕ, zero, suc, ◌<◌, List, [], ◌∷◌, length, refl, sym, subst, arith}
use Rattle.std.specs.Prelude.{slice_index_or, replicate}
use Rattle.cyc_types.specs.declared.level.Soft.{Soft}
use Rattle.cyc_types.specs.declared.level.Soft.TheVariants.{Low, Lock}
use Rattle.cyc_level.specs.declared.Event.{Event}
use Rattle.cyc_level.specs.declared.Event.TheVariants.{Admit, Expire, Lose, Publish, Take, Finish, Mark, Clear, Switch, Follow}
use Rattle.cyc_level.specs.Level.{SoftLevel, empty_level}
use Rattle.cyc_level.specs.Lawful.{Lawful}
use Rattle.cyc_level.specs.Events.{after}
use Rattle.cyc_level.proofs.Keeps.{empty_lawful, keeps_law}
use Rattle.cyc_model.specs.Acts.{events_at}
use Rattle.cyc_model.specs.Cpu.{begun_cpu}
use Rattle.cyc_model.specs.Questions.{plain}
use Rattle.cyc_model.specs.Serving.{level_at}
use Rattle.cyc_model.specs.State.{absent}
use Rattle.cyc_model.specs.Script.{start, names_of, run_on, run_of}
use Rattle.cyc_model.specs.Laws.{level_on, AllCanAsSoft}
use Rattle.cyc_model.specs.Agreement.{AllReady}
use Rattle.cyc_model.specs.Along.{CanAsFiring, AllCanAsFiring, AllAlong}
use Rattle.cyc_model.specs.Free.{CanBeAdmitted, AllCanBeAdmitted}
use Rattle.cyc_model.specs.Enabled.{AllHappen, EventsAreEnabled}
use Rattle.cyc_model.proofs.Agreement.{agree_new}
use Rattle.cyc_model.proofs.Telling.{start_free, fair_steps, ready_steps}
use Rattle.cyc_model.proofs.Along.{can_of_all, levels_stay_lawful}
use Rattle.cyc_model.proofs.Fit.{Rest, AllRest}
use Rattle.cyc_model.proofs.Reaching.{well_steps, start_good, length_new}
use Rattle.cyc_model.proofs.Rates.{HasRoom, AllHaveRoom, room_along, sends_at, sends_steps, over_few}

firing_of : (e : Event) (l : SoftLevel) → Rest e l → CanBeAdmitted e l → HasRoom e l → CanAsFiring e l
firing_of (Admit id index) l rest free room = free
firing_of (Expire id) l rest free room = (rest, room)
firing_of (Lose id) l rest free room = (rest, room)
firing_of Publish l rest free room = tt
firing_of Take l rest free room = tt
firing_of Finish l rest free room = tt
firing_of (Mark id) l rest free room = rest
firing_of (Clear id) l rest free room = rest
firing_of (Switch bank) l rest free room = rest
firing_of Follow l rest free room = tt

all_firing : (es : List Event) (l : SoftLevel) → AllRest es l → AllCanBeAdmitted es l → AllHaveRoom es l → AllCanAsFiring es l
all_firing [] l rest free room = tt
all_firing (e ∷ es) l rest free room =
    (firing_of e l rest.0 free.0 room.0, all_firing es (after e l) rest.1 free.1 room.1)

all_happen : (es : List Event) (l : SoftLevel) → Lawful l → AllCanAsFiring es l → AllCanAsSoft es l → AllReady es l
    → AllHappen es l
all_happen [] l law firing soft ready = tt
all_happen (e ∷ es) l law firing soft ready =
    let can = can_of_all e l law firing.0 soft.0 ready.0 in
    (can, all_happen es (after e l) (keeps_law l law e can) firing.1 soft.1 ready.1)

pub new_level : (k n ceiling : ℕ) (soft : Soft) → n < k → level_at soft
    (slice_index_or (replicate k (begun_cpu ceiling)) n absent) ≡ empty_level ceiling
new_level zero n ceiling soft within = absurd (omega (arith, within))
new_level (suc k) zero ceiling Low within = refl
new_level (suc k) zero ceiling Lock within = refl
new_level (suc k) (suc n) ceiling soft within = new_level k n ceiling soft (omega (arith, within))

pub events_are_enabled : EventsAreEnabled
unfolding run_of
events_are_enabled indexes script free n within soft =
    let texts = names_of script in let names = length texts in let xs = script.steps.items in
    let s = start script.cpus script.ceiling names in
    let low = script.cpus_in_range.0 in let high = script.cpus_in_range.1 in let few = script.well_formed.few_steps in
    let g = start_good script.cpus script.ceiling names (omega (arith, low)) in
    let w = well_steps texts indexes 1 xs s g in
    let es = events_at n soft (run_on indexes script.cpus script.ceiling texts xs).acts in
    let l : level_on n soft s ≡ empty_level script.ceiling = new_level script.cpus n script.ceiling soft within in
    let law : Lawful (level_on n soft s) = subst (λ m. Lawful m) (sym l) (empty_lawful script.ceiling) in
    let inside : n < length s.cpus = subst (λ k. n < k) (sym (length_new script.cpus script.ceiling)) within in
    let hands = start_free script.cpus script.ceiling names in
    let agree = agree_new script.cpus script.ceiling in
    let room : AllHaveRoom es (level_on n soft s) = subst (λ m. AllHaveRoom es m) (sym l)
    (room_along (λ id. 0) es (empty_level script.ceiling) (λ id c is. absurd (cc))
    (λ id. let a = sends_at id n soft (run_on indexes script.cpus script.ceiling texts xs).acts in
    let b = sends_steps indexes texts 1 xs s g id script.cpus (length_new script.cpus script.ceiling) in
    let c = over_few (length xs) script.cpus few high in omega (arith, a, b, c))) in
    let firing = all_firing es (level_on n soft s) (w.0.rest n inside soft)
    (subst (λ m. AllCanBeAdmitted es m) (sym l) (free n soft)) room in
    let soft_side = (fair_steps plain texts indexes 1 xs s hands).0 n inside soft in
    let ready = ready_steps plain texts indexes 1 xs s hands agree n inside soft in
    let lawful = levels_stay_lawful plain texts indexes 1 xs s hands agree n inside soft law firing in
    record {
      enabled = subst (λ m. AllHappen es m) l (all_happen es (level_on n soft s) law firing soft_side ready);
      along = subst (λ m. AllAlong es m) l lawful.0;
      end = lawful.1;
    }
