-- A step that was done, and one that was refused.
use Rattle.std.proofs.Common.{◌≡◌, ℕ, ◌+◌, ◌≤◌, List, [], ◌∷◌, length, Some, None, ap, sym, ◌∙◌, subst, arith, refl}
use Rattle.std.specs.Prelude.{Result, Ok, Err}
use Rattle.cyc_types.specs.Tally.{tally_count}
use Rattle.cyc_types.specs.declared.refusal.Refusal.{Refusal}
use Rattle.cyc_script.specs.declared.step.Step.{Step}
use Rattle.cyc_model.specs.Acts.{calls_of}
use Rattle.cyc_model.specs.Questions.{plain}
use Rattle.cyc_model.specs.State.{State, Outcome}
use Rattle.cyc_model.specs.Refusals.{unless, refusal, after_refusal}
use Rattle.cyc_model.specs.Script.{refusal_of, does, word}
use Rattle.cyc_model.proofs.Events.{calls_append}
use Rattle.cyc_model.proofs.Telling.{tells_steps}
use Rattle.cyc_system_model.specs.Answers.{IsRefused}
use Rattle.cyc_system_model.specs.Shown.{IsSystem, ShowsSystem}
use Rattle.cyc_system_model.specs.SystemWords.{GivesIndexes, IsDone, IsDoneWith, IsRefusedFor}
use Rattle.cyc_replay.specs.declared.machine.Machine.{Machine}
use Rattle.cyc_replay.specs.Machine.{ShowsMachine, Remembers, IsWide, IsReached, AllMost, numbers_of}
use Rattle.cyc_replay.specs.Words.{Comes}
use Rattle.cyc_core.specs.Tables.{Tables}
use Rattle.cyc_system.specs.System.{SystemView}
use Rattle.cyc_system.specs.Agreement.{most_on}
use Rattle.cyc_agreement.specs.Suspending.{is_suspended}
use Rattle.cyc_model.proofs.Known.{IsLasting}
use Rattle.cyc_system_model.specs.Room.{HaveRoomFor}
use Rattle.cyc_replay.proofs.Introduced.{introduces_does}
use Rattle.cyc_replay.proofs.Mosts.{most_kept}
use Rattle.cyc_replay.proofs.Named.{reached_good}
use Rattle.cyc_replay.proofs.Remembering.{SameNames, remembers_on, remembers_does}

-- the definition does not refuse the step, and comes to what the machine did, where the cyclics that it puts on CPUs get the
-- indexes that they got there
pub record Accepts (x : Step) (s : State) (m : Machine) : Type 0 where
  pub accepted : refusal_of plain x s ≡ None
  pub given : List ℕ
  pub comes : (texts : List (List ℕ)) (indexes : ℕ → ℕ) (step : ℕ) → GivesIndexes indexes s.admissions given
      → Comes given s (does plain texts indexes step x s) m

-- the same of a step whose line tells more: this one, where the step has this number
pub record AcceptsWith (line : ℕ → List ℕ) (x : Step) (s : State) (m : Machine) : Type 0 where
  pub accepted : refusal_of plain x s ≡ None
  pub given : List ℕ
  pub comes : (texts : List (List ℕ)) (indexes : ℕ → ℕ) (step : ℕ) → GivesIndexes indexes s.admissions given
      → Comes given s (does plain texts indexes step x s) m
  pub said : (texts : List (List ℕ)) (indexes : ℕ → ℕ) (step : ℕ) → GivesIndexes indexes s.admissions given
      → (does plain texts indexes step x s).line ≡ line step

-- the step is done, or refused for one reason by both; want of memory comes where there is no other reason
abbrev pub Answers : {A : Type 0} → Step → Result A Refusal → State → Machine → Type 0
Answers x (Ok done) s m = Accepts x s m
Answers x (Err e) s m = IsRefused e (refusal_of plain x s) × ShowsMachine s m

-- the word of a step that is not refused, and of one that is
pub word_done : (texts : List (List ℕ)) (indexes : ℕ → ℕ) (step : ℕ) (x : Step) (s : State) → refusal_of plain x s ≡ None
    → word plain texts indexes step x s ≡ does plain texts indexes step x s
word_done texts indexes step x s none = ap (λ o. unless o step x (does plain texts indexes step x) s) none

pub word_refused : (texts : List (List ℕ)) (indexes : ℕ → ℕ) (step : ℕ) (x : Step) (s : State) (e : Refusal)
    → refusal_of plain x s ≡ Some e
    → word plain texts indexes step x s ≡ refusal step e (after_refusal x s)
word_refused texts indexes step x s e some = ap (λ o. unless o step x (does plain texts indexes step x) s) some

-- each id was called as often as the acts say
pub called_word : (texts : List (List ℕ)) (indexes : ℕ → ℕ) (step : ℕ) (x : Step) (s : State) (id : ℕ)
    → (word plain texts indexes step x s).state.called id ≡ s.called id + calls_of id (word plain texts indexes step x s).acts
called_word texts indexes step x s id =
    let acts = (word plain texts indexes step x s).acts in
    let told = (tells_steps plain texts indexes step (x ∷ []) s).tells.called id in
    let whole = calls_append id acts [] in
    omega (arith, told, whole)

pub called_done : (texts : List (List ℕ)) (indexes : ℕ → ℕ) (step : ℕ) (x : Step) (s : State) (id : ℕ)
    → refusal_of plain x s ≡ None
    → (does plain texts indexes step x s).state.called id ≡ s.called id + calls_of id (does plain texts indexes step x s).acts
called_done texts indexes step x s id none =
    subst (λ (o : Outcome). o.state.called id ≡ s.called id + calls_of id o.acts) (word_done texts indexes step x s none)
    (called_word texts indexes step x s id)

-- what the definition left of the clock, of the mark of a suspension, of the names and of the ids that were given
pub record Leaves (x : Step) (s : State) (n : Machine) : Type 0 where
  pub clock : (texts : List (List ℕ)) (indexes : ℕ → ℕ) (step : ℕ) → (does plain texts indexes step x s).state.clock ≡ s.clock
  pub suspended : (texts : List (List ℕ)) (indexes : ℕ → ℕ) (step : ℕ)
      → (does plain texts indexes step x s).state.suspended ≡ s.suspended
  pub names : (texts : List (List ℕ)) (indexes : ℕ → ℕ) (step : ℕ)
      → (does plain texts indexes step x s).state.names ≡ numbers_of n.names
  pub last : (texts : List (List ℕ)) (indexes : ℕ → ℕ) (step : ℕ) → s.last_id ≤ (does plain texts indexes step x s).state.last_id

-- what each call of a system keeps, but that a suspend and a resume do not keep the mark
pub record Keeps (s : State) (v : SystemView Tables) : Type 0 where
  pub system : IsSystem v
  pub most : AllMost v.cpus
  pub room : HaveRoomFor (length s.names) v.cpus
  pub suspended : s.suspended ≡ is_suspended v

pub keeps : (s : State) (m : Machine) (w : SystemView Tables) → ShowsMachine s m → IsSystem w
    → ((n : ℕ) → most_on n w.cpus ≡ most_on n m.system.cpus)
    → HaveRoomFor (length s.names) w.cpus → is_suspended w ≡ is_suspended m.system → Keeps s w
keeps s m w h system most room mark = record {
  system = system;
  most = most_kept m.system.cpus w.cpus most h.most;
  room = room;
  suspended = h.suspended ∙ sym mark;
}

-- what the definition comes to, where the step calls no handler
pub done_comes : (x : Step) (s : State) (m n : Machine) → ShowsMachine s m → Keeps s n.system → (done : IsDone x s n.system)
    → n.clock ≡ m.clock
    → n.tally ≡ m.tally → Leaves x s n
    → ((texts : List (List ℕ)) (indexes : ℕ → ℕ) (step : ℕ) → Remembers (does plain texts indexes step x s).state n)
    → (texts : List (List ℕ)) (indexes : ℕ → ℕ) (step : ℕ) → GivesIndexes indexes s.admissions done.given
    → Comes done.given s (does plain texts indexes step x s) n
done_comes x s m n h kept done clock tally leaves remembers texts indexes step gives =
    let o = done.comes texts indexes step gives in
    record {
      holds = record {
        system = kept.system;
        shows = o.shows;
        clock = leaves.clock texts indexes step ∙ h.clock ∙ sym clock;
        suspended = leaves.suspended texts indexes step ∙ kept.suspended;
        called = λ id.
            let told = called_done texts indexes step x s id done.accepted in
            let none = done.quiet texts indexes step gives id in
            let was = h.called id in
            let same = ap (λ t. tally_count t id) tally in
            omega (arith, told, none, was, same);
        names = leaves.names texts indexes step;
        remembers = remembers texts indexes step;
        tally = subst (λ k. IsWide k n.tally) (sym (introduces_does texts indexes step s x).names)
            (subst (λ t. IsWide (length s.names) t) (sym tally) h.tally);
        most = kept.most;
        room = subst (λ k. HaveRoomFor k n.system.cpus) (sym (introduces_does texts indexes step s x).names) kept.room;
      };
      admissions = o.admissions;
      free = o.free;
    }

-- a step that calls no handler
pub accepts : (x : Step) (s : State) (m n : Machine) → ShowsMachine s m → Keeps s n.system → IsDone x s n.system
    → n.clock ≡ m.clock
    → n.tally ≡ m.tally → Leaves x s n
    → ((texts : List (List ℕ)) (indexes : ℕ → ℕ) (step : ℕ) → Remembers (does plain texts indexes step x s).state n)
    → Accepts x s n
accepts x s m n h kept done clock tally leaves remembers = record {
  accepted = done.accepted;
  given = done.given;
  comes = done_comes x s m n h kept done clock tally leaves remembers;
}

-- a step that is refused leaves the machine as it shows it
pub refuses : (s : State) (m n : Machine) → ShowsMachine s m → Keeps s n.system → ShowsSystem s n.system → n.clock ≡ m.clock
    → n.tally ≡ m.tally
    → SameNames m n → ShowsMachine s n
refuses s m n h kept shows clock tally same = record {
  system = kept.system;
  shows = shows;
  clock = h.clock ∙ sym clock;
  suspended = kept.suspended;
  called = λ id. ap (λ t. tally_count t id) tally ∙ h.called id;
  names = h.names ∙ sym (ap numbers_of same.names);
  remembers = remembers_on s s m n h.remembers same (omega arith) (λ id low gone. gone) (λ id low gone. gone)
      (λ id low gone. refl);
  tally = subst (λ t. IsWide (length s.names) t) (sym tally) h.tally;
  most = kept.most;
  room = kept.room;
}

-- a step that is done, gives no id and ends no removal
pub lasts : (step : ℕ) (x : Step) (s : State) (m n : Machine) → IsReached step s → IsLasting x → ShowsMachine s m
    → Keeps s n.system
    → IsDone x s n.system
    → n.clock ≡ m.clock → n.tally ≡ m.tally → SameNames m n → Leaves x s n → Accepts x s n
lasts step x s m n r is h kept done clock tally same leaves = accepts x s m n h kept done clock tally leaves
    (λ texts indexes k. remembers_does texts indexes k x s m n is (reached_good step s r) done.accepted h.remembers same
    (leaves.last texts indexes k))

-- one that says no more than whether it was done
pub answered : (step : ℕ) (x : Step) (answer : Result (Unit {0}) Refusal) (s : State) (m n : Machine) → IsReached step s
    → IsLasting x
    → ShowsMachine s m → Keeps s n.system
    → (answer ≡ Ok tt → IsDone x s n.system) → ((e : Refusal) → answer ≡ Err e → IsRefusedFor e x s n.system)
    → n.clock ≡ m.clock → n.tally ≡ m.tally → SameNames m n → Leaves x s n → Answers x answer s n
answered step x (Ok done) s m n r is h kept accepted refused clock tally same leaves =
    lasts step x s m n r is h kept (accepted refl) clock tally same leaves
answered step x (Err e) s m n r is h kept accepted refused clock tally same leaves =
    let why = refused e refl in (why.0, refuses s m n h kept why.1 clock tally same)

-- one whose line tells more
pub lasts_with : (line : ℕ → List ℕ) (step : ℕ) (x : Step) (s : State) (m n : Machine) → IsReached step s → IsLasting x
    → ShowsMachine s m
    → Keeps s n.system → IsDoneWith line x s n.system → n.clock ≡ m.clock → n.tally ≡ m.tally → SameNames m n → Leaves x s n
    → AcceptsWith line x s n
lasts_with line step x s m n r is h kept told clock tally same leaves = record {
  accepted = told.done.accepted;
  given = told.done.given;
  comes = done_comes x s m n h kept told.done clock tally leaves
      (λ texts indexes k. remembers_does texts indexes k x s m n is (reached_good step s r) told.done.accepted h.remembers same
      (leaves.last texts indexes k));
  said = told.said;
}
