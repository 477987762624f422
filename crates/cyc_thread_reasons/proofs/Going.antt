-- What a CPU that goes offline or comes back keeps: that no removal is open, and the id that was given last.
use Rattle.std.proofs.Common.{◌≡◌, ◌∙◌, ℕ, inl, inr, Bool, true, false, Some, Ok, Err, List, [], ◌∷◌, ◌++◌, length, slice_set}
use Rattle.std.proofs.Common.{refl, sym, ap, subst}
use Rattle.std.specs.List.{FoldsTo}
use Rattle.cyc_types.specs.declared.Raise.{Ghosts as Raise}
use Rattle.cyc_types.specs.declared.refusal.Refusal.{Refusal}
use Rattle.cyc_cpu.specs.Calls.{AskPending, TakeNow, Reserve, Widen, Place as PlaceCall}
use Rattle.cyc_places.specs.declared.record.Placement.{Placement}
use Rattle.cyc_places.specs.declared.record.Placement.TheVariants.{On, Everywhere}
use Rattle.cyc_places.specs.declared.record.Record.{Record}
use Rattle.cyc_places.specs.Places.{ended_on}
use Rattle.cyc_agreement.specs.Cpus.{CpusView, on, Works}
use Rattle.cyc_agreement.specs.System.{ids_on}
use Rattle.cyc_system.specs.GoingOffline.{quiet, Retires}
use Rattle.cyc_agreement.specs.Online.{staying, returns, return_at}
use Rattle.cyc_agreement.specs.Omni.{component_first}
use Rattle.cyc_thread_calls.specs.System.{SystemView}
use Rattle.cyc_thread_calls.specs.Calls.{Changes, Juggle, Offline, Online}
use Rattle.cyc_thread_reasons.proofs.Whereabouts.{ok_err, err_ok}
use Rattle.cyc_thread_calls.proofs.Keeping.{AllStill, Keeps, keeps_same, keeps_then, keeps_works, keeps_call, last_move}

module _ {R : Type 0} (firing : Raise R) where
  quiet_keeps : (n : ℕ) (ids : List ℕ) (v w : CpusView R) → Works firing (quiet n ids) v w → Keeps firing v w
  quiet_keeps n [] v w run = keeps_same firing v w (sym run)
  quiet_keeps n (own ∷ ids) v w (u, d, rest) = keeps_then firing v u w
      (keeps_works firing (on n (AskPending own (Some 0)) ∷ []) v u (tt, tt) (u, d, refl)) (quiet_keeps n ids u w rest)

  finds_keep : (n own found : ℕ) (ids : List ℕ) (v w : CpusView R)
      → Works firing (quiet n ids ++ on n (AskPending own (Some found)) ∷ []) v w → Keeps firing v w
  finds_keep n own found [] v w run = keeps_works firing (on n (AskPending own (Some found)) ∷ []) v w (tt, tt) run
  finds_keep n own found (x ∷ ids) v w (u, d, rest) = keeps_then firing v u w
      (keeps_works firing (on n (AskPending x (Some 0)) ∷ []) v u (tt, tt) (u, d, refl)) (finds_keep n own found ids u w rest)

  retires_keep : (n : ℕ) (ids : List ℕ) (s t : SystemView R) → FoldsTo (Retires firing n) s ids t
      → Keeps firing s.cpus t.cpus × (t.last ≡ s.last)
  retires_keep n [] s t e = (
    keeps_same firing s.cpus t.cpus (ap (λ (x : SystemView R). x.cpus) (sym e)),
    ap (λ (x : SystemView R). x.last) (sym e),
  )
  retires_keep n (own ∷ ids) s t (u, (taken, does, k, r, here, named, records, last), rest) =
      let (keeps, same) = retires_keep n ids u t rest in (
        keeps_then firing s.cpus u.cpus t.cpus
            (keeps_works firing (on n (TakeNow own (Ok taken)) ∷ []) s.cpus u.cpus (tt, tt) (u.cpus, does, refl)) keeps,
        same ∙ last,
      )

  returns_keep : (n now : ℕ) (rs : List Record) (v w : CpusView R) → Works firing (returns n now rs) v w → Keeps firing v w
  returns_keep n now [] v w run = keeps_same firing v w (sym run)
  returns_keep n now (r ∷ rs) v w run = by r.placement (returns_keep n now rs) run
    where
      by : (p : Placement) → ((x y : CpusView R) → Works firing (returns n now rs) x y → Keeps firing x y)
          → Works firing (return_at n now r.id r.level (ended_on n r) p ++ returns n now rs) v w → Keeps firing v w
      by (On m bound) others run = others v w run
      by (Everywhere first skew) others (u, d, rest) = keeps_then firing v u w (keeps_works firing
          (on n (PlaceCall r.id r.level first.interval (component_first n first skew now) (ended_on n r)) ∷ []) v u (tt, tt)
          (u, d, refl)) (others u w rest)

  -- the CPUs that are online after a call, which opened no removal and gave no id
  pub record Goes (online : List Bool) (s t : SystemView R) : Type 0 where
    pub online_is : t.cpus.online ≡ online
    pub still : AllStill s.cpus → AllStill t.cpus
    pub last : t.last ≡ s.last

  goes_same : (s t : SystemView R) → t ≡ s → Goes s.cpus.online s t
  goes_same s t e = record {
    online_is = ap (λ (x : SystemView R). x.cpus.online) e;
    still = λ h. subst (λ (x : SystemView R). AllStill x.cpus) (sym e) h;
    last = ap (λ (x : SystemView R). x.last) e;
  }

  goes_keeps : (s t : SystemView R) → Keeps firing s.cpus t.cpus → t.last ≡ s.last → Goes s.cpus.online s t
  goes_keeps s t k last = record { online_is = k.online; still = k.still; last = last }

  pub offline_goes : (n : ℕ) (done : Unit {0}) (s t : SystemView R) → Changes firing s (Offline n (Ok done)) t
      → Goes (slice_set s.cpus.online n false) s t
  offline_goes n done s t (inl (e, first, is, same)) = absurd (ok_err is)
  offline_goes n done s t (inr (clear, (report, moved, moves, inl (left, is, same)))) = absurd (ok_err is)
  offline_goes n done s t (inr (clear, (report, moved, moves, inr (inl (none, is, finds))))) = absurd (ok_err is)
  offline_goes n done s t (inr (clear, (report, moved, moves, inr (inr (none, is, (asked, only, empty, each, off)))))) =
      let did : Changes firing s (Juggle n (Ok report)) moved = inr (clear, (report, refl, moves)) in
      let a = keeps_call firing s moved (Juggle n (Ok report)) did tt in
      let b = quiet_keeps n (ids_on n moved.cpus) moved.cpus asked.cpus only.0 in
      let (c, same) = retires_keep n (ids_on n moved.cpus) asked empty each in record {
        online_is = ap (λ (x : SystemView R). x.cpus.online) off
            ∙ ap (λ os. slice_set os n false) (c.online ∙ b.online ∙ a.online);
        still = λ h. subst (λ (x : SystemView R). AllStill x.cpus) (sym off) (λ m x at. c.still (b.still (a.still h)) m x at);
        last = ap (λ (x : SystemView R). x.last) off ∙ same ∙ only.2
            ∙ last_move firing s moved (Juggle n (Ok report)) did tt;
      }

  pub offline_stays : (n : ℕ) (e : Refusal) (s t : SystemView R) → Changes firing s (Offline n (Err e)) t
      → Goes s.cpus.online s t
  offline_stays n e s t (inl (x, first, is, same)) = goes_same s t same
  offline_stays n e s t (inr (clear, (report, moved, moves, inl (left, is, same)))) =
      let did : Changes firing s (Juggle n (Ok report)) moved = inr (clear, (report, refl, moves)) in
      subst (λ (x : SystemView R). Goes s.cpus.online s x) (sym same)
      (goes_keeps s moved (keeps_call firing s moved (Juggle n (Ok report)) did tt)
      (last_move firing s moved (Juggle n (Ok report)) did tt))
  offline_stays n e s t (inr (clear, (report, moved, moves, inr (inl (none, is, (before, own, after, found, some, only)))))) =
      let did : Changes firing s (Juggle n (Ok report)) moved = inr (clear, (report, refl, moves)) in
      goes_keeps s t (keeps_then firing s.cpus moved.cpus t.cpus (keeps_call firing s moved (Juggle n (Ok report)) did tt)
      (finds_keep n own found before moved.cpus t.cpus only.0))
      (only.2 ∙ last_move firing s moved (Juggle n (Ok report)) did tt)
  offline_stays n e s t (inr (clear, (report, moved, moves, inr (inr (none, is, retires))))) =
      absurd (err_ok is)

  pub online_goes : (n now : ℕ) (done : Unit {0}) (s t : SystemView R) → Changes firing s (Online n now (Ok done)) t
      → Goes (slice_set s.cpus.online n true) s t
  online_goes n now done s t (inl (e, first, is, same)) = absurd (ok_err is)
  online_goes n now done s t (inr (clear, ((w, (a, first, (b, second, rest)), switched), records, last))) =
      let many = length (staying s) in
      let k = keeps_then firing s.cpus b w (keeps_works firing (on n (Reserve many (Ok tt)) ∷ on n (Widen many) ∷ []) s.cpus b
      (tt, (tt, tt)) (a, first, (b, second, refl))) (returns_keep n now (staying s) b w rest) in record {
        online_is = ap (λ (x : CpusView R). x.online) switched ∙ ap (λ os. slice_set os n true) k.online;
        still = λ h. subst AllStill (sym switched) (λ m x at. k.still h m x at);
        last = last;
      }

  pub online_stays : (n now : ℕ) (e : Refusal) (s t : SystemView R) → Changes firing s (Online n now (Err e)) t
      → Goes s.cpus.online s t
  online_stays n now e s t (inl (x, first, is, same)) = goes_same s t same
  online_stays n now e s t (inr (clear, (reason, only))) = goes_keeps s t
      (keeps_works firing (on n (Reserve (length (staying s)) (Err e)) ∷ []) s.cpus t.cpus (tt, tt) only.0) only.2
