-- Polls and lines, one after another.
use Rattle.std.proofs.Common.{◌≡◌, ℕ, ◌+◌, ◌<◌, ◌≤◌, List, [], ◌∷◌, ◌++◌, Option, length, map, refl}
use Rattle.std.proofs.Common.{sym, ap, ◌∙◌, arith}
use Rattle.std.specs.Prelude.{Result, take}
use Rattle.std.specs.List.{FoldsTo}
use Rattle.std.proofs.lemmas.List.{take_more, take_all, map-append}
use Rattle.cyc_types.specs.declared.Raise.{Ghosts as Raise}
use Rattle.cyc_types.specs.declared.receipt.Receipt.{Receipt}
use Rattle.cyc_types.specs.declared.refusal.Refusal.{Refusal}
use Rattle.cyc_types.proofs.Runs.{folds_more}
use Rattle.cyc_system_workers.specs.Calls.{PollRemove}
use Rattle.cyc_words.specs.declared.named.Named.{Named}
use Rattle.cyc_words.specs.declared.named.Named.TheVariants.{Leaving, Nothing}
use Rattle.cyc_threads.specs.declared.progress.Progress.{Progress}
use Rattle.cyc_threads.specs.declared.counting.Line.{Line}
use Rattle.cyc_words.specs.Names.{named_at, NoneLeaves, news, noted}
use Rattle.cyc_system_workers.specs.Settled.{AllSettled}
use Rattle.cyc_system_workers.specs.declared.side.SystemSide.{SystemSide}
use Rattle.cyc_system_workers.specs.Settling.{OnlyAsked}
use Rattle.cyc_system_laws.specs.Sound.{IsSound}
use Rattle.cyc_threads.specs.StepCalls.{CallsFor, Poll, Polls, SettlesAll, Waits}
use Rattle.cyc_threads.specs.Counting.{NameLine, Tells, TellsOf, Reports}

-- there is room for one element more
pub room_left : (long position all room : ℕ) → long ≡ position → position < all → all ≤ room → long < room
room_left long position all room e f g = omega (arith, e, f, g)

module _ {C R : Type 0} (firing : Raise R) where
  -- a run of polls, and one more
  abbrev pub Polled : Progress R C → Progress R C → Type 0
  Polled s t = (polls : List Poll) × FoldsTo (Polls firing) s polls t

  pub poll_none : (s : Progress R C) → Polled s s
  poll_none s = ([], refl)

  pub poll_next : (s t u : Progress R C) (names : List Named) (name id : ℕ) (answer : Result (Option Receipt) Refusal)
      → Polled s t → names ≡ t.names
      → named_at t.names name ≡ Leaving id → CallsFor firing name (PollRemove id answer) (record t { names = names }) u
      → Polled s u
  poll_next s t u names name id answer (polls, run) same here c = let p : Poll = record { name = name; id = id; answer = answer }
      in
      let d : CallsFor firing name (PollRemove id answer) t u = record {
        did = c.did;
        told = c.told ∙ ap (noted name (news (PollRemove id answer))) same;
        leads = c.leads;
        clock = c.clock;
        sound = c.sound;
      } in (polls ++ p ∷ [], folds_more (Polls firing) s polls t p u run (here, d))

  -- the wait after the polls
  pub waited : (s u : Progress R C) (side : SystemSide R C) → Polled s u → OnlyAsked firing u.side side
      → AllSettled firing.view side.system.cpus.cpus → NoneLeaves u.names → IsSound firing.view side.system
      → Waits firing s (record { side = side; clock = u.clock; names = u.names })
  waited s u side (polls, run) asked settled none sound =
      let q : SettlesAll firing u (record { side = side; clock = u.clock; names = u.names }) = record {
        asked = asked;
        settled = settled;
        none = none;
        names = refl;
        clock = refl;
        sound = sound;
      } in (polls, u, run, q)

  -- the lines of the first names
  pub record Begun (k : ℕ) (lines : List Line) (s t : Progress R C) : Type 0 where
    pub all : List NameLine
    pub tells : FoldsTo (Tells firing) s all t
    pub names : map (λ told. told.named) all ≡ take k s.names
    pub lines_are : map (λ told. told.line) all ≡ lines
    pub same : t.names ≡ s.names

  pub none_told : (s : Progress R C) → Begun 0 [] s s
  none_told s = record { all = []; tells = refl; names = refl; lines_are = refl; same = refl }

  pub one_told : (k : ℕ) (lines : List Line) (line : Line) (s t u : Progress R C) → k < length s.names → Begun k lines s t
      → TellsOf firing (named_at t.names k) line t u → u.names ≡ t.names → Begun (k + 1) (lines ++ line ∷ []) s u
  one_told k lines line s t u low b d same = let told : NameLine = record { named = named_at t.names k; line = line } in record {
    all = b.all ++ told ∷ [];
    tells = folds_more (Tells firing) s b.all t told u b.tells d;
    names = map-append (λ (w : NameLine). w.named) b.all (told ∷ []) ∙ ap (λ ns. ns ++ named_at t.names k ∷ []) b.names
        ∙ ap (λ ns. take k s.names ++ named_at ns k ∷ []) b.same ∙ sym (take_more s.names k Nothing low);
    lines_are = map-append (λ (w : NameLine). w.line) b.all (told ∷ []) ∙ ap (λ ls. ls ++ line ∷ []) b.lines_are;
    same = same ∙ b.same;
  }

  pub all_told : (k : ℕ) (lines : List Line) (s t : Progress R C) → length s.names ≤ k → Begun k lines s t
      → Reports firing lines s t
  all_told k lines s t far b = record {
    all = b.all;
    tells = b.tells;
    names = b.names ∙ take_all k s.names far;
    lines_are =
        b.lines_are;
  }
