-- A step of a script is to a name what its call is to the name's id.
use Rattle.std.proofs.Common.{◌≡◌, ◌==◌, ℕ, Bool, true, false, cond, List, [], ◌∷◌, ◌++◌, Option, Some, None}
use Rattle.std.proofs.Common.{Result, Ok, Err, refl}
use Rattle.std.specs.Prelude.{pos}
use Rattle.std.specs.Result.{is_ok}
use Rattle.std.specs.Option.{option_map_or}
use Rattle.cyc_types.specs.declared.moment.When.{When}
use Rattle.cyc_types.specs.declared.refusal.Refusal.{Refusal}
use Rattle.cyc_script.specs.declared.step.Add.{Add as AddStep}
use Rattle.cyc_script.specs.declared.step.Omni.{Omni as OmniStep}
use Rattle.cyc_script.specs.declared.step.Reprogram.{Reprogram as ReprogramStep}
use Rattle.cyc_script.specs.declared.step.Step.{Step}
use Rattle.cyc_script.specs.declared.step.Step.TheVariants as steps
use Rattle.cyc_model.specs.Refusals.{magnitude}
use Rattle.cyc_expected.specs.Course.{Event, Begins, BeginsOnAll, IsSet, IsSetOn, Ends, Passes, Told, told_after, told_by}
use Rattle.cyc_expected.specs.Expected.{Met, event_of, course_events, clock_after, reprogrammed}
use Rattle.cyc_threads.specs.SystemRemoval.{SystemRemoval}
use Rattle.cyc_threads.specs.Calls.{Add, AddOmni, BeginRemove}
use Rattle.cyc_threads.specs.Calls.{Offline, Online, reprograms}
use Rattle.cyc_system_rings.specs.Leading.{LeadCall, Make}
use Rattle.cyc_system_rings.specs.Events.{event_in, events_in}
use Rattle.cyc_thread_calls.specs.Leading.{calls_in}
use Rattle.cyc_thread_calls.specs.Meeting.{is_taken}

pub cond_same : {A : Type 0} (b : Bool) (x : A) → cond b x x ≡ x
cond_same true x = refl
cond_same false x = refl

-- ---- lists of events, one after another

pub events_more : (id : ℕ) (xs ys : List LeadCall) (t : Told)
    → told_by (events_in id (xs ++ ys)) t ≡ told_by (events_in id ys) (told_by (events_in id xs) t)
events_more id [] ys t = refl
events_more id (x ∷ xs) ys t = events_more id xs ys (told_after (event_in id x) t)

module _ (i k : ℕ) where
  -- what the call of a step is, where there is one
  abbrev pub event_here : Option LeadCall → Event
  event_here o = option_map_or (event_in i) o Passes

  pub one_call : (o : Option LeadCall) (t : Told) → told_by (events_in i (calls_in o)) t ≡ told_after (event_here o) t
  one_call None t = refl
  one_call (Some call) t = refl

  -- what a step is that was met so
  abbrev pub event_met : ℕ → Step → Bool → Event
  event_met clock x b = cond b (event_of k clock x) Passes

  abbrev pub clock_met : ℕ → Step → Bool → ℕ
  clock_met clock x b = clock_after x clock

  pub one_met : (x : Step) (b : Bool) (ms : List Met) (clock : ℕ) (t : Told)
      → told_by (course_events k clock (record { step = x; accepted = b } ∷ ms)) t
      ≡ told_by (course_events k (clock_met clock x b) ms) (told_after (event_met clock x b) t)
  one_met x true ms clock t = refl
  one_met x false ms clock t = refl

  -- ---- each call that a step makes

  abbrev pub taken : Option LeadCall → Bool
  taken o = option_map_or is_taken o false

  pub add_event : (a : AddStep) (when : When) (clock : ℕ) (answer : Result ℕ Refusal) → pos when.start ≡ a.start
      → pos when.interval ≡ a.interval → ((d : ℕ) → answer ≡ Ok d → (d == i) ≡ (a.name == k))
      → event_in i (Make (Add a.level when clock answer)) ≡ event_met clock (steps.Add a) (is_ok answer)
  add_event a when clock (Ok d) start interval own =
      λ j. cond (own d refl j) (Begins (magnitude (start j)) (magnitude (interval j)) clock) Passes
  add_event a when clock (Err e) start interval own = refl

  pub omni_event : (a : OmniStep) (when : When) (clock : ℕ) (answer : Result ℕ Refusal) → pos when.start ≡ a.start
      → pos when.interval ≡ a.interval → ((d : ℕ) → answer ≡ Ok d → (d == i) ≡ (a.name == k))
      → event_in i (Make (AddOmni a.level when a.skew clock answer)) ≡ event_met clock (steps.Omni a) (is_ok answer)
  omni_event a when clock (Ok d) start interval own =
      λ j. cond (own d refl j) (BeginsOnAll (record {
        level = a.level;
        start = magnitude (start j);
        interval = magnitude (interval j);
        skew = a.skew;
      }) clock) Passes
  omni_event a when clock (Err e) start interval own = refl

  pub set_event : (r : ReprogramStep) (id moment clock : ℕ) (answer : Result (Unit {0}) Refusal) → pos moment ≡ r.moment
      → (id == i) ≡ (r.name == k)
      → event_in i (Make (reprograms r.cpu id moment answer))
      ≡ event_met clock (steps.Reprogram r) (is_taken (Make (reprograms r.cpu id moment answer)))
  set_event r id moment clock answer is own = by r.cpu answer
    where
      by : (cpu : Option ℕ) (answer : Result (Unit {0}) Refusal) → event_in i (Make (reprograms cpu id moment answer))
          ≡ cond (is_taken (Make (reprograms cpu id moment answer)))
          (cond (r.name == k) (reprogrammed cpu (magnitude r.moment)) Passes) Passes
      by None (Ok done) = λ j. cond (own j) (IsSet (magnitude (is j))) Passes
      by None (Err e) = refl
      by (Some n) (Ok done) = λ j. cond (own j) (IsSetOn n (magnitude (is j))) Passes
      by (Some n) (Err e) = refl

  pub remove_event : (name id clock : ℕ) (answer : Result SystemRemoval Refusal) → (id == i) ≡ (name == k)
      → event_in i (Make (BeginRemove id answer)) ≡ event_met clock (steps.Remove name) (is_ok answer)
  remove_event name id clock (Ok removal) own = λ j. cond (own j) Ends Passes
  remove_event name id clock (Err e) own = refl

  pub offline_event : (n clock : ℕ) (answer : Result (Unit {0}) Refusal)
      → event_in i (Make (Offline n answer)) ≡ event_met clock (steps.Offline n) (is_ok answer)
  offline_event n clock (Ok done) = refl
  offline_event n clock (Err e) = refl

  pub online_event : (n clock : ℕ) (answer : Result (Unit {0}) Refusal)
      → event_in i (Make (Online n clock answer)) ≡ event_met clock (steps.Online n) (is_ok answer)
  online_event n clock (Ok done) = refl
  online_event n clock (Err e) = refl
