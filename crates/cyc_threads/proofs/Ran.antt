-- What a run adds up to.
use Rattle.std.proofs.Common.{◌≡◌, ℕ, List, sym, ap, subst, ◌∙◌, inl, inr, map, length}
use Rattle.std.specs.Prelude.{All, flat_map, string_bytes}
use Rattle.std.proofs.lemmas.List.{length-map}
use Rattle.cyc_types.specs.declared.Calls.{Ghosts as Calls}
use Rattle.cyc_types.specs.declared.refusal.Refusal.{Refusal}
use Rattle.cyc_types.specs.Pairs.{EachTwo}
use Rattle.cyc_ring.specs.declared.closed.Closed.{Closed}
use Rattle.cyc_ring.specs.declared.ring.Ring.{Ring}
use Rattle.cyc_script.specs.declared.script.Script.{Script}
use Rattle.cyc_workers.specs.declared.cpu.Handlers.{Handlers}
use Rattle.cyc_workers.specs.declared.cpu.Seats.{Seats}
use Rattle.cyc_thread_rings.specs.declared.levels.Levels.{Levels}
use Rattle.cyc_thread_rings.specs.declared.levels.Seated.{Seated}
use Rattle.cyc_thread_rings.specs.Laid.{three, two}
use Rattle.cyc_thread_rings.specs.Rings.{AreNew, AreClosed, AreSeated}
use Rattle.cyc_threads.specs.declared.counting.Line.{Line}
use Rattle.cyc_threads.specs.declared.running.Ended.{Ended}
use Rattle.cyc_threads.specs.Reporting.{report_text}
use Rattle.cyc_threads.specs.Running.{all_handlers, AreAllClosed, HasPlayed, HasRun}
use Rattle.cyc_threads.specs.Refusing.{WhyNotPlayed, WhyNotRun}

pub many_all : {C : Type 0} (n : ℕ) (before : List (Seated C)) (seats : List (Levels Seats)) → map (λ s. s.seats) before ≡ seats
    → length seats ≡ n → length before ≡ n
many_all n before seats e long = sym (length-map before (λ s. s.seats)) ∙ ap (λ (x : List (Levels Seats)). length x) e ∙ long

-- these handlers, put beside seats
pub given_all : {C : Type 0} (before : List (Seated C)) (handlers : List (Handlers C)) (calls : List C)
    → map (λ s. s.calls) before ≡ handlers →
    flat_map three handlers ≡ calls → all_handlers before ≡ calls
given_all before handlers calls e f = ap (λ (x : List (Handlers _)). flat_map three x) e ∙ f

pub new_all : {C : Type 0} (k : ℕ) (before : List (Seated C)) (seats : List (Levels Seats)) → map (λ s. s.seats) before ≡ seats
    → All (AreNew k) seats →
    All (AreNew k) (map (λ s. s.seats) before)
new_all k before seats e new = subst (λ (x : List (Levels Seats)). All (AreNew k) x) (sym e) new

pub seated_new : {C : Type 0} (rings : List (Levels Ring)) (before : List (Seated C)) (seats : List (Levels Seats))
    → map (λ s. s.seats) before ≡ seats → EachTwo AreSeated rings seats → EachTwo AreSeated rings (map (λ s. s.seats) before)
seated_new rings before seats e s = subst (λ (x : List (Levels Seats)). EachTwo AreSeated rings x) (sym e) s

-- the rings were closed with the seats of all CPUs
pub closed_all : {C : Type 0} (all : List (Seated C)) (last : List (Levels Seats)) (closed : List (Levels Closed))
    (rings : List Closed) → last ≡ map (λ s. s.seats) all → EachTwo AreClosed last closed → rings ≡ flat_map two closed →
    AreAllClosed all rings
closed_all all last closed rings left shut laid = record {
  by_cpu = closed;
  laid = laid;
  closed = subst (λ (x : List (Levels Seats)). EachTwo AreClosed x closed) left shut;
}

module _ {C : Type 0} (handler : Calls C) (script : Script) (calls : List C) (before : List (Seated C))
    (given : all_handlers before ≡ calls) (new : All (AreNew script.ceiling) (map (λ s. s.seats) before)) where
  pub not_ran : (e : Refusal) → WhyNotPlayed handler script before e → WhyNotRun handler script calls e
  not_ran e (inl m) = inl m
  not_ran e (inr (h, w)) = inr (h, before, given, new, w)

  pub ran : (after : List (Seated C)) (lines : List Line) (text : List ℕ) (e : Ended C) → length before ≡ script.cpus
      → HasPlayed handler script before after lines → text ≡ report_text (map string_bytes script.names.items) lines
      → e.calls.items ≡ all_handlers after → AreAllClosed after e.rings.items → HasRun handler script calls e text
  ran after lines text e many played is back closed = record {
    before = before;
    after = after;
    many = many;
    given = given;
    back = back;
    new = new;
    lines = lines;
    played = played;
    text_is = is;
    closed = closed;
  }
