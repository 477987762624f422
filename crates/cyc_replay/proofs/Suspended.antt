-- A suspend and a resume of the machine.
use Rattle.std.proofs.Common.{◌≡◌, ℕ, ◌≤◌, Bool, List, length, refl, ap, sym, ◌∙◌, subst, arith}
use Rattle.std.specs.Prelude.{Result, Ok, Err}
use Rattle.cyc_types.specs.declared.refusal.Refusal.{Refusal}
use Rattle.cyc_script.specs.declared.step.Step.{Step}
use Rattle.cyc_agreement.specs.Suspending.{is_suspended}
use Rattle.cyc_model.specs.Questions.{plain}
use Rattle.cyc_model.specs.State.{State}
use Rattle.cyc_model.specs.Script.{does}
use Rattle.cyc_system_model.specs.Room.{HaveRoomFor}
use Rattle.cyc_system_model.specs.Shown.{IsSystem, ShowsSystem}
use Rattle.cyc_system_model.specs.SystemWords.{IsDone, IsRefusedFor}
use Rattle.cyc_replay.specs.declared.machine.Machine.{Machine}
use Rattle.cyc_types.specs.Tally.{tally_count}
use Rattle.cyc_replay.specs.Machine.{ShowsMachine, IsWide, AllMost, numbers_of}
use Rattle.cyc_replay.proofs.Doing.{Answers}
use Rattle.cyc_replay.proofs.Doing.{Keeps, refuses}
use Rattle.cyc_replay.proofs.Remembering.{SameNames, remembers_on}

module _ (x : Step) (mark : Bool) (s : State) (m w : Machine) (h : ShowsMachine s m)
    (does_it : (texts : List (List ℕ)) (indexes : ℕ → ℕ) (k : ℕ)
    → (does plain texts indexes k x s).state ≡ record s { suspended = mark })
    (system : IsSystem w.system) (most : AllMost w.system.cpus) (room : HaveRoomFor (length s.names) w.system.cpus)
    (clock : w.clock ≡ m.clock) (tally : w.tally ≡ m.tally) (same : SameNames m w) where
  holds_marked : ShowsSystem (record s { suspended = mark }) w.system → is_suspended w.system ≡ mark
      → ShowsMachine (record s { suspended = mark }) w
  holds_marked shows is = record {
    system = system;
    shows = shows;
    clock = h.clock ∙ sym clock;
    suspended = sym is;
    called = λ id. ap (λ t. tally_count t id) tally ∙ h.called id;
    names = h.names ∙ sym (ap numbers_of same.names);
    remembers = remembers_on s (record s { suspended = mark }) m w h.remembers
        same (let low : s.last_id ≤ s.last_id = omega arith in low)
        (λ id low gone. gone) (λ id low gone. gone) (λ id low gone. refl);
    tally = subst (λ t. IsWide (length s.names) t) (sym tally) h.tally;
    most = most;
    room = room;
  }

  -- the mark is set, or the word is refused
  pub answers_marked : (answer : Result (Unit {0}) Refusal)
      → (answer ≡ Ok tt → IsDone x s w.system × (is_suspended w.system ≡ mark))
      → ((e : Refusal) → answer ≡ Err e → IsRefusedFor e x s w.system × (w.system ≡ m.system))
      → Answers x answer s w
  answers_marked (Ok done) accepted refused =
      let (d, is) = accepted refl in
      record {
        accepted = d.accepted;
        given = d.given;
        comes = λ texts indexes k gives.
            let o = d.comes texts indexes k gives in
            record {
              holds = subst (λ u. ShowsMachine u w) (sym (does_it texts indexes k))
                  (holds_marked (subst (λ u. ShowsSystem u w.system) (does_it texts indexes k) o.shows) is);
              admissions = o.admissions;
              free = o.free;
            };
      }
  answers_marked (Err e) accepted refused =
      let (why, as_it_was) = refused e refl in
      let kept : Keeps s w.system = record {
        system = system;
        most = most;
        room = room;
        suspended = h.suspended ∙ ap is_suspended (sym as_it_was);
      } in (why.0, refuses s m w h kept why.1 clock tally same)
