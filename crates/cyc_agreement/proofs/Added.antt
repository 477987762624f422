-- What an add_omni did.
use Rattle.std.proofs.Common.{◌≡◌, ℕ, zero, suc, ◌+◌, None, Ok, Err, inl, inr, Result, List, [], ◌∷◌, ◌++◌, get_or, replicate}
use Rattle.std.proofs.Common.{refl, sym, ◌∙◌, subst, arith}
use Rattle.cyc_types.specs.declared.Raise.{Ghosts as Raise}
use Rattle.cyc_types.specs.declared.level.Level.{Level}
use Rattle.cyc_types.specs.declared.moment.When.{When}
use Rattle.cyc_types.specs.declared.refusal.Refusal.{Refusal}
use Rattle.cyc_types.specs.declared.refusal.Refusal.TheVariants.{Memory}
use Rattle.cyc_types.specs.Reasons.{first_refusal, bad_now}
use Rattle.cyc_types.specs.Counting.{no_counts}
use Rattle.cyc_places.specs.declared.record.Placement.TheVariants.{Everywhere}
use Rattle.cyc_places.specs.declared.record.Record.{Record}
use Rattle.cyc_places.specs.Places.{new_record}
use Rattle.cyc_agreement.specs.Cpus.{CpusView, IsCpu, online_cpus, numbers_from, Works}
use Rattle.cyc_agreement.specs.Reserving.{ReservesEach}
use Rattle.cyc_agreement.specs.System.{SystemView}
use Rattle.cyc_agreement.specs.Agreement.{Agrees}
use Rattle.cyc_agreement.specs.Refusals.{Unless, ids_spent}
use Rattle.cyc_agreement.proofs.Spots.{seen}
use Rattle.cyc_agreement.proofs.FirstReason.{passes}
use Rattle.cyc_agreement.specs.Adding.{add_request}
use Rattle.cyc_agreement.specs.Omni.{entering_each, AddsOmni, last_after}
use Rattle.cyc_agreement.specs.Holding.{Holds}
use Rattle.cyc_agreement.proofs.Holding.{holds_same, holds_given}
use Rattle.cyc_agreement.proofs.Removals.{AreSteady, removals_kept, leaving_here}
use Rattle.cyc_agreement.proofs.Entering.{not_given}
use Rattle.cyc_agreement.proofs.Who.{but_same, but_then}
use Rattle.cyc_cpu.specs.Cpu.{CpuView}
use Rattle.cyc_cpu.specs.Laws.{IsLawful}
use Rattle.cyc_agreement.proofs.Quiet.{quiet_reserves}
use Rattle.cyc_agreement.proofs.Arriving.{arrives, agrees_omni}

module _ {R : Type 0} (firing : Raise R) (level : Level) (when : When) (skew now : ℕ)
    (v : CpusView R) (rs : List Record) (last : ℕ) (now_is : bad_now now ≡ None) (id_is : ids_spent (seen v rs last) ≡ None) where
  clear : first_refusal (bad_now now ∷ ids_spent (seen v rs last) ∷ []) ≡ None
  clear = passes (bad_now now) (ids_spent (seen v rs last) ∷ []) None now_is
      (passes (ids_spent (seen v rs last)) [] None id_is refl)

  pub omni_full : (w : CpusView R) (qs : List Record) (e : Refusal) (answer : Result ℕ Refusal) → answer ≡ Err e → qs ≡ rs
      → ReservesEach firing 1 (Err e) v w
      → Unless {S = SystemView R} (bad_now now ∷ ids_spent (seen v rs last) ∷ []) (λ e. Err e) answer (seen v rs last)
      (seen w qs (last_after last answer))
      (AddsOmni firing (add_request level when now) skew answer (seen v rs last) (seen w qs (last_after last answer)))
  omni_full w qs e answer is records why =
      subst (λ a. Unless {S = SystemView R} (bad_now now ∷ ids_spent (seen v rs last) ∷ []) (λ e. Err e) a (seen v rs last)
      (seen w qs (last_after last a))
      (AddsOmni firing (add_request level when now) skew a (seen v rs last) (seen w qs (last_after last a)))) (sym is)
      (inr (clear, (inl why, records, refl)))

  pub omni_unrecorded : (w : CpusView R) (qs : List Record) (e : Refusal) (answer : Result ℕ Refusal) → answer ≡ Err e
      → e ≡ Memory → qs ≡ rs → ReservesEach firing 1 (Ok tt) v w
      → Unless {S = SystemView R} (bad_now now ∷ ids_spent (seen v rs last) ∷ []) (λ e. Err e) answer (seen v rs last)
      (seen w qs (last_after last answer))
      (AddsOmni firing (add_request level when now) skew answer (seen v rs last) (seen w qs (last_after last answer)))
  omni_unrecorded w qs e answer is what records done =
      subst (λ a. Unless {S = SystemView R} (bad_now now ∷ ids_spent (seen v rs last) ∷ []) (λ e. Err e) a (seen v rs last)
      (seen w qs (last_after last a))
      (AddsOmni firing (add_request level when now) skew a (seen v rs last) (seen w qs (last_after last a)))) (sym is)
      (inr (clear, (inr (what, done), records, refl)))

  pub omni_done : (u w : CpusView R) (qs : List Record) (id : ℕ) → id ≡ last + 1 → ReservesEach firing 1 (Ok tt) v u
      → Works firing (entering_each (online_cpus u) id level when skew now) u w
      → qs ≡ rs ++ new_record id level (Everywhere when skew) ∷ []
      → Unless {S = SystemView R} (bad_now now ∷ ids_spent (seen v rs last) ∷ []) (λ e. Err e) (Ok id) (seen v rs last)
      (seen w qs id)
      (AddsOmni firing (add_request level when now) skew (Ok id) (seen v rs last) (seen w qs id))
  omni_done u w qs id next reserved works records =
      inr (clear, (next, (u, reserved, of_first u w id reserved works), records, refl))
    where
      of_first : (u w : CpusView R) (id : ℕ) → ReservesEach firing 1 (Ok tt) v u
          → Works firing (entering_each (online_cpus u) id level when skew now) u w
          → Works firing (entering_each (online_cpus v) id level when skew now) u w
      of_first u w id reserved works = subst (λ o. Works firing (entering_each (numbers_from 0 o) id level when skew now) u w)
          ((quiet_reserves firing 1 (Ok tt) v u reserved).online) works

-- a cyclic that was just given has no ended stay
no_stay : (k n : ℕ) → get_or (replicate k no_counts) n no_counts ≡ no_counts
no_stay zero n = refl
no_stay (suc k) zero = refl
no_stay (suc k) (suc n) = no_stay k n

-- no call of theirs begins or ends a removal
steady : (ns : List ℕ) (id : ℕ) (level : Level) (when : When) (skew now : ℕ) → AreSteady (entering_each ns id level when skew now)
steady [] id level when skew now = tt
steady (n ∷ ns) id level when skew now = (tt, (tt, steady ns id level when skew now))

-- what holds afterwards
module _ {R : Type 0} (firing : Raise R) (v : CpusView R) (rs : List Record) (last : ℕ)
    (h : Holds (seen v rs last)) where
  pub holds_refused : (w : CpusView R) (qs : List Record) (e : Refusal) (answer : Result ℕ Refusal)
      (reserved : Result (Unit {0}) Refusal) → answer ≡ Err e → qs ≡ rs
      → ReservesEach firing 1 reserved v w → Holds (seen w qs (last_after last answer))
  holds_refused w qs e answer reserved is records way =
      subst (λ (x : SystemView R). Holds x) (λ i. seen w (sym records i) (last_after last (sym is i)))
      (holds_same (seen v rs last) w h (quiet_reserves firing 1 reserved v w way))

  pub holds_done : (lawful : (n : ℕ) (cpu : CpuView R) → IsCpu n cpu v → IsLawful firing.view cpu) (level : Level) (when : When)
      (skew now : ℕ) (u w : CpusView R) (qs : List Record) (id : ℕ)
      → id ≡ last + 1 → ReservesEach firing 1 (Ok tt) v u
      → Works firing (entering_each (online_cpus u) id level when skew now) u w
      → qs ≡ rs ++ new_record id level (Everywhere when skew) ∷ [] → Holds (seen w qs id)
  holds_done lawful level when skew now u w qs id next reserved works records =
      let same = quiet_reserves firing 1 (Ok tt) v u reserved in
      let came = arrives firing id level when skew now (online_cpus u) u w works in
      holds_given (seen v rs last) (seen w qs id) id (new_record id level (Everywhere when skew)) h
      (subst (λ (x : SystemView R). Agrees x) (λ i. seen w (sym records i) id)
      (agrees_omni firing id level when skew now (seen v rs last) u w h.agrees next same
      (subst (λ o. Works firing (entering_each (numbers_from 0 o) id level when skew now) u w) same.online works)))
      (but_then id v u w (but_same id v u same) came.but)
      (λ n. removals_kept firing u w (entering_each (online_cpus u) id level when skew now)
      (steady (online_cpus u) id level when skew now) works n ∙ same.removals n)
      (λ n e. not_given (seen v rs last) id n h.agrees (omega (arith, next)) (leaving_here firing.view v n id lawful e))
      records (no_stay 16)
