-- The line of each name is what the calls of the run told of its id.
use Rattle.std.proofs.Common.{◌≡◌, ◌∙◌, ℕ, zero, suc, ◌<◌, List, [], ◌∷◌, ◌++◌, Option, Some, None, map, length, get_or, refl}
use Rattle.std.proofs.Common.{sym, ap}
use Rattle.std.proofs.Common.{arith, replicate}
use Rattle.std.specs.List.{slice_get, FoldsTo}
use Rattle.std.specs.Option.{option_map_or}
use Rattle.std.proofs.lemmas.List.{length-map}
use Rattle.cyc_types.specs.declared.Calls.{Ghosts as Calls}
use Rattle.cyc_types.specs.declared.Raise.{Ghosts as Raise}
use Rattle.cyc_types.specs.declared.receipt.Receipt.{Receipt}
use Rattle.cyc_ring.specs.declared.ends.RaiseEnd.{RaiseEnd}
use Rattle.cyc_script.specs.declared.step.Step.{Step}
use Rattle.cyc_threads.specs.System.{SystemView}
use Rattle.cyc_threads.specs.Counts.{all_expired, all_lost}
use Rattle.cyc_system_rings.specs.Leading.{LeadCall}
use Rattle.cyc_system_rings.specs.Rings.{receipt_in}
use Rattle.cyc_threads.specs.Sound.{IsSound}
use Rattle.cyc_words.specs.declared.named.Named.{Named}
use Rattle.cyc_words.specs.declared.named.Named.TheVariants.{Nothing, Cyclic, Leaving, Removed}
use Rattle.cyc_threads.specs.declared.progress.Progress.{Progress}
use Rattle.cyc_threads.specs.declared.counting.Line.{Line}
use Rattle.cyc_words.specs.Names.{named_at}
use Rattle.cyc_threads.specs.Steps.{Runs}
use Rattle.cyc_threads.specs.Counting.{NameLine, Tells, TellsOf, Reports}
use Rattle.cyc_thread_calls.specs.Leading.{told_calls_of, told_calls, report_calls, run_calls, all_calls}
use Rattle.cyc_thread_calls.specs.Giving.{id_given}
use Rattle.cyc_thread_calls.specs.Lines.{line_in, settled_line}
use Rattle.cyc_threads.proofs.Quiet.{Rests}
use Rattle.cyc_thread_calls.proofs.Holding.{Fits, receipt_none, receipt_kept}
use Rattle.cyc_thread_calls.proofs.Names.{all_held}
use Rattle.cyc_thread_calls.proofs.Telling.{line_at, report_is}

-- an element of a list that another was made of
get_mapped : {A B : Type 0} (f : A → B) (xs : List A) (n : ℕ) (d : A) → n < length xs
    → slice_get (map f xs) n ≡ Some (f (get_or xs n d))
get_mapped f [] n d low = absurd (omega (arith, low))
get_mapped f (x ∷ xs) zero d low = refl
get_mapped f (x ∷ xs) (suc n) d low = get_mapped f xs n d (omega (arith, low))

module _ {C R : Type 0} (firing : Raise R) (id : ℕ) where
  -- no line tells of a receipt
  no_receipt_of : (named : Named) (line : Line) (s t : Progress R C) (d : TellsOf firing named line s t)
      → receipt_in id (told_calls_of firing named line s t d) ≡ None
  no_receipt_of Nothing line s t d = refl
  no_receipt_of (Cyclic own) line s t (answer, did, is) = refl
  no_receipt_of (Leaving own) line s t (answer, did, is) = refl
  no_receipt_of (Removed receipt) line s t d = refl

  no_receipt : (all : List NameLine) (s t : Progress R C) (d : FoldsTo (Tells firing) s all t)
      → receipt_in id (told_calls firing all s t d) ≡ None
  no_receipt [] s t e = refl
  no_receipt (told ∷ all) s t (u, d, rest) = receipt_none id (told_calls_of firing told.named told.line s u d)
      (told_calls firing all u t rest)
      (no_receipt_of told.named told.line s u d) (no_receipt all u t rest)

-- the line of an id, by the receipt that was told of it
abbrev told_line : ℕ → SystemView RaiseEnd → Option Receipt → Line
told_line id t o = settled_line (option_map_or (λ r. record { sent = r.sent; lost = r.lost }) o
    (record { sent = all_expired id t; lost = all_lost id t }))

-- what fits the calls of a run is the line, after more calls without a receipt
module _ (given : Option ℕ) (way more : List LeadCall) (t : SystemView RaiseEnd)
    (none : (id : ℕ) → receipt_in id more ≡ None) where
  line_here : (id : ℕ) → given ≡ Some id → receipt_in id way ≡ None
      → record { expired = all_expired id t; lost = all_lost id t; pending = 0 } ≡ line_in given (way ++ more) t
  line_here id e r = ap (told_line id t) (sym (receipt_none id way more r (none id)))
      ∙ ap (λ o. line_in o (way ++ more) t) (sym e)

  fit_line : (named : Named) → Fits given way named → line_at named t ≡ line_in given (way ++ more) t
  fit_line Nothing e = ap (λ o. line_in o (way ++ more) t) (sym e)
  fit_line (Cyclic id) (e, r) = line_here id e r
  fit_line (Leaving id) (e, r) = line_here id e r
  fit_line (Removed receipt) (id, e, r) =
      ap (told_line id t) (sym (receipt_kept id way more receipt r)) ∙ ap (λ o. line_in o (way ++ more) t) (sym e)

module _ {C R : Type 0} (handler : Calls C) (firing : Raise R) where
  -- the system is sound after the last wait, and has settled
  pub run_sound : (s : Progress R C) (xs : List Step) (t : Progress R C) → Runs handler firing s xs t
      → IsSound firing.view t.side.system
  run_sound s xs t (u, taken, (polls, v, run, settles)) = settles.sound

  pub run_rests : (s : Progress R C) (xs : List Step) (t : Progress R C) → Runs handler firing s xs t → Rests firing t
  run_rests s xs t (u, taken, (polls, v, run, settles)) = settles.settled

  -- there is a line for each name
  pub as_many : (n : ℕ) (xs : List Step) (lines : List Line) (s t u : Progress R C)
      → Runs handler firing s xs t → Reports firing lines t u
      → s.names ≡ replicate n Nothing → length lines ≡ n
  as_many n xs lines s t u run r none = ap (λ (l : List Line). length l) (report_is firing lines t u r (run_sound s xs t run)
      (run_rests s xs t run)) ∙ length-map t.names (λ named. line_at named u.side.system)
      ∙ (all_held handler firing n s xs t run none).long

module _ {C : Type 0} (handler : Calls C) (firing : Raise RaiseEnd) where
  -- the line of each
  pub each_line : (n name : ℕ) (xs : List Step) (lines : List Line) (s t u : Progress RaiseEnd C)
      (run : Runs handler firing s xs t) (r : Reports firing lines t u)
      → s.names ≡ replicate n Nothing → name < n
      → slice_get lines name ≡ Some (line_in (id_given handler firing name s xs t run)
      (all_calls handler firing xs lines s t u run r) u.side.system)
  each_line n name xs lines s t u run r none low =
      let held = all_held handler firing n s xs t run none in
      let long = held.long in
      let within : name < length t.names = omega (arith, long, low) in
      ap (λ (l : List Line). slice_get l name) (report_is firing lines t u r
      (run_sound handler firing s xs t run) (run_rests handler firing s xs t run))
      ∙ get_mapped (λ named. line_at named u.side.system) t.names name Nothing within
      ∙ ap Some (fit_line (id_given handler firing name s xs t run)
      (run_calls handler firing s xs t run) (report_calls firing lines t u r) u.side.system
      (λ id. no_receipt firing id r.all t u r.tells) (named_at t.names name) (held.fits name within))
