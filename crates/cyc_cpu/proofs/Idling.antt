-- A soft interrupt that is idle leaves nothing in the lists of its level.
use Rattle.std.proofs.Common.{◌==◌, List, [], ◌∷◌, None, subst, sym}
use Rattle.std.specs.Prelude.{Result, Ok, Err, IfOk}
use Rattle.std.specs.List.{FoldsTo}
use Rattle.cyc_types.specs.Draining.{DrainCall, Takes, Finishes}
use Rattle.cyc_types.specs.Runs.{DrainGoes}
use Rattle.cyc_core.specs.Event.{Event}
use Rattle.cyc_core.specs.Event.TheVariants.{Finish}
use Rattle.cyc_core.specs.Level.{SoftLevel}
use Rattle.cyc_core.specs.Lawful.{Lawful}
use Rattle.cyc_core.proofs.Keeps.{keeps_law}
use Rattle.cyc_core.specs.Reached.{Happens}
use Rattle.cyc_core.specs.Tables.{Tables, level_of}
use Rattle.cyc_core.specs.DrainingSide.{Drains, take_events}
use Rattle.cyc_core.proofs.Idle.{idle_empty}
use Rattle.cyc_cpu.specs.Soft.{drains, drain_tables, HasEmptyLists}

lawful_on : (l m : SoftLevel) (events : List Event) → FoldsTo Happens l events m → Lawful l → Lawful m
lawful_on l m [] h law = subst Lawful h law
lawful_on l m (e ∷ events) (k, (on, is), rest) law = lawful_on k m events rest (subst Lawful (sym is) (keeps_law l law e on))

lawful_drained : (l m : SoftLevel) (call : DrainCall) → Drains l call m → Lawful l → Lawful m
lawful_drained l m (Takes answer) h law = lawful_on l m (take_events l.old_list l.new_list (l.hard_bank == l.soft_bank)) h.0 law
lawful_drained l m (Finishes id answer) (held, (on, is), found) law = subst Lawful (sym is) (keeps_law l law Finish on)

lawful_served : (a b : Tables) (way : List DrainCall) → DrainGoes drain_tables a way b → Lawful (level_of a) → Lawful (level_of b)
lawful_served a b [] h law = subst (λ (t : Tables). Lawful (level_of t)) h law
lawful_served a b (call ∷ way) (m, first, rest) law =
    lawful_served m b way rest (lawful_drained (level_of a) (level_of m) call first law)

-- the level whose last step is a look that found nothing
pub emptied : (a before b : Tables) (way : List DrainCall) → Lawful (level_of a) → DrainGoes drain_tables a way before
    → drains before (Takes None) b → HasEmptyLists b
emptied a before b way law goes last = idle_empty (level_of before) (level_of b) (lawful_served a before way goes law) last

pub on_ok : {A E : Type 0} (P Q : A → Type 0) (r : Result A E) → ((a : A) → P a → Q a) → IfOk r P → IfOk r Q
on_ok P Q (Ok a) f p = f a p
on_ok P Q (Err e) f p = p
