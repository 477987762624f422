-- What a juggle and an offline keep of all that every system holds.
use Rattle.std.proofs.Common.{◌≡◌, ℕ, inl, inr, Some, Result, List, [], ◌∷◌, ◌++◌, sym, subst}
use Rattle.std.specs.List.{FoldsTo}
use Rattle.cyc_types.specs.declared.Raise.{Ghosts as Raise}
use Rattle.cyc_types.specs.declared.refusal.JuggleReport.{JuggleReport}
use Rattle.cyc_types.specs.declared.refusal.Refusal.{Refusal}
use Rattle.cyc_cpu.specs.Cpu.{CpuView}
use Rattle.cyc_cpu.specs.Laws.{IsLawful}
use Rattle.cyc_cpu.specs.Calls.{AskPending}
use Rattle.cyc_places.specs.Places.{HasRisingIds}
use Rattle.cyc_agreement.specs.Cpus.{IsCpu, on}
use Rattle.cyc_agreement.specs.System.{SystemView, ids_on}
use Rattle.cyc_agreement.specs.Agreement.{Agrees}
use Rattle.cyc_agreement.specs.Holding.{Holds, EndedWithin}
use Rattle.cyc_system.specs.Juggling.{Turns, Juggles, single_ids}
use Rattle.cyc_system.specs.GoingOffline.{quiet, Retires, EndsOffline, GoesOffline, offline_at}
use Rattle.cyc_system.proofs.Turned.{still_then, still_turn, still_turns, still_retired, still_asked, still_left, whole_still}
use Rattle.cyc_system.proofs.Fitting.{Fits, fits_within, fits_first, fits_turn, fits_retired, fits_calls, puts_quiet, puts_found}

module _ {R : Type 0} (firing : Raise R) (n : ℕ) where
  fits_turns : (ids : List ℕ) (report : JuggleReport) (s t : SystemView R) → Turns firing n ids report s t → Fits firing n s
      → Fits firing n t
  fits_turns [] report s t (none, same) f = subst (Fits firing n) (sym same) f
  fits_turns (id ∷ ids) report s t (turn, u, rest, first, counted, more) f =
      fits_turns ids rest u t more (fits_turn firing n id turn s u first (still_turn firing n id turn s u first) f)

  fits_retires : (ids : List ℕ) (s t : SystemView R) → FoldsTo (Retires firing n) s ids t → Fits firing n s
      → Fits firing n t
  fits_retires [] s t e f = subst (Fits firing n) e f
  fits_retires (id ∷ ids) s t (u, first, rest) f =
      fits_retires ids u t rest (fits_retired firing n id s u first (still_retired firing n id s u first).most f)

  -- the numbers of the CPUs that are online play no part
  fits_switched : (s t : SystemView R) → t ≡ offline_at n s → EndedWithin s → EndedWithin t
  fits_switched s t e h = subst EndedWithin (sym e) h

  within_left : (report : JuggleReport) (answer : Result (Unit {0}) Refusal) (s t : SystemView R)
      → EndsOffline firing n report answer s t → Fits firing n s → EndedWithin t
  within_left report answer s t (inl (left, is, same)) f = fits_within firing n t (subst (Fits firing n) (sym same) f)
  within_left report answer s t (inr (inl (none, is, (before, id, after, found, some, only)))) f = fits_within firing n t
      (fits_calls firing n s t (quiet n before ++ on n (AskPending id (Some found)) ∷ [])
      (puts_found firing n before id found) only
      (still_left firing n report answer s t (inr (inl (none, is, (before, id, after, found, some, only))))).most f)
  within_left report answer s t (inr (inr (none, is, (u, only, empty, each, off)))) f =
      fits_switched empty t off (fits_within firing n empty
      (fits_retires (ids_on n s.cpus) u empty each
      (fits_calls firing n s u (quiet n (ids_on n s.cpus)) (puts_quiet firing n (ids_on n s.cpus)) only
      (still_asked firing n s u only).most f)))

  pub holds_juggled : (answer : Result JuggleReport Refusal) (s t : SystemView R) → Juggles firing n answer s t → Holds s
      → Agrees t → HasRisingIds s.records → HasRisingIds t.records
      → ((m : ℕ) (cpu : CpuView R) → IsCpu m cpu s.cpus → IsLawful firing.view cpu)
      → ((m : ℕ) (cpu : CpuView R) → IsCpu m cpu t.cpus → IsLawful firing.view cpu) → Holds t
  holds_juggled answer s t (inl (e, why, is, same)) h agrees rising now first lawful = subst Holds (sym same) h
  holds_juggled answer s t (inr (clear, (report, is, turns))) h agrees rising now first lawful =
      let still = still_turns firing n (single_ids n s) report s t turns in record {
        agrees = agrees;
        whole = whole_still firing s t still agrees rising now lawful h.whole;
        within = fits_within firing n t (fits_turns (single_ids n s) report s t turns (fits_first firing n s h first));
      }

  pub holds_offline : (answer : Result (Unit {0}) Refusal) (s t : SystemView R) → GoesOffline firing n answer s t → Holds s
      → Agrees t → HasRisingIds s.records → HasRisingIds t.records
      → ((m : ℕ) (cpu : CpuView R) → IsCpu m cpu s.cpus → IsLawful firing.view cpu)
      → ((m : ℕ) (cpu : CpuView R) → IsCpu m cpu t.cpus → IsLawful firing.view cpu) → Holds t
  holds_offline answer s t (inl (e, why, is, same)) h agrees rising now first lawful = subst Holds (sym same) h
  holds_offline answer s t (inr (clear, (report, moved, turns, leaves))) h agrees rising now first lawful =
      let still = still_then firing s moved t (still_turns firing n (single_ids n s) report s moved turns)
      (still_left firing n report answer moved t leaves) in record {
        agrees = agrees;
        whole = whole_still firing s t still agrees rising now lawful h.whole;
        within = within_left report answer moved t leaves
            (fits_turns (single_ids n s) report s moved turns (fits_first firing n s h first));
      }
