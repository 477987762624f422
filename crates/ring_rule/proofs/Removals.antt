-- What follows the end of a stay in the order of all steps.
use Rattle.std.proofs.Common.{◌≡◌, ◌≢◌, ℕ, eqb, Bool, true, false, cond, List, [], ◌∷◌, ◌++◌, sym, refl, ap, ◌∙◌, arith, eq-eqb}
use Rattle.std.proofs.Common.{ne_eqb}
use Rattle.std.specs.Prelude.{Option, Some, None}
use Rattle.cyc_level.specs.Level.{AdmittedCyclic, SoftLevel, count_in, in_hand}
use Rattle.cyc_level.specs.Lawful.{one_if_any}
use Rattle.cyc_level.specs.Runs.{StayCounts, one_more}
use Rattle.cyc_level.proofs.Maps.{hand_here}
use Rattle.ring_rule.specs.declared.RaiseStep.{RaiseStep}
use Rattle.ring_rule.specs.declared.RaiseStep.TheVariants.{Admitted, Loaded, Lost, Added, Stored, Published, Marked, Cleared}
use Rattle.ring_rule.specs.declared.RaiseStep.TheVariants.{Switched, LoadedSoftBank}
use Rattle.ring_rule.specs.declared.DrainStep.{DrainStep}
use Rattle.ring_rule.specs.declared.DrainStep.TheVariants.{LoadedHardBank, LoadedProducer, Took, Subtracted, Followed}
use Rattle.ring_rule.specs.declared.Setting.{Setting}
use Rattle.ring_rule.specs.Trail.{open_stay, ended_calls, drainer_hand_of, made_calls}
use Rattle.ring_rule.specs.Log.{RingStep, of_raise, of_drain, raise_side, drain_side, level_after_steps}
use Rattle.ring_rule.specs.Shown.{IsSameStay}
use Rattle.ring_rule.specs.Conservation.{LevelStands, AllStood}
use Rattle.ring_rule.specs.Laws.{IsAdmission, NoneAdmits, IsCall, NoneCalls, NoCallFollowsRemoval}
use Rattle.ring_rule.proofs.Truths.{stands_now, drains_append}

none_more : (b : Bool) (n : ℕ) (o : Option StayCounts) → o ≡ None → cond b (one_more n o) o ≡ None
none_more true n o e = ap (one_more n) e
none_more false n o e = e

none_left : (b : Bool) (o : Option StayCounts) → o ≡ None → cond b None o ≡ None
none_left true o e = refl
none_left false o e = e

-- only an admission begins a stay
still_none : (id : ℕ) (x : RaiseStep) (t : List RaiseStep) → ¬ IsAdmission id x → open_stay id t ≡ None
    → open_stay id (x ∷ t) ≡ None
still_none id (Admitted a index) t never e =
    ap (λ b. cond b (Some record { index = index; sent = 0; lost = 0 }) (open_stay id t)) (ne_eqb id a (λ z. never (sym z))) ∙ e
still_none id (Loaded a found) t never e = e
still_none id (Lost a found) t never e = none_more (eqb id a) 1 (open_stay id t) e
still_none id (Added a found) t never e = none_more (eqb id a) 0 (open_stay id t) e
still_none id (Stored entry) t never e = e
still_none id (Published next) t never e = e
still_none id (Marked a found) t never e = e
still_none id (Cleared a) t never e = none_left (eqb id a) (open_stay id t) e
still_none id (Switched bank) t never e = e
still_none id (LoadedSoftBank found) t never e = e

gone : (id : ℕ) (later earlier : List RingStep) → NoneAdmits id (raise_side later)
    → open_stay id (raise_side (later ++ of_raise (Cleared id) ∷ earlier)) ≡ None
gone id [] earlier never = ap (λ b. cond b None (open_stay id (raise_side earlier))) (eq-eqb id id refl)
gone id (of_raise x ∷ later) earlier never =
    still_none id x (raise_side (later ++ of_raise (Cleared id) ∷ earlier)) never.0 (gone id later earlier never.1)
gone id (of_drain x ∷ later) earlier never = gone id later earlier never

no_count : (made ended : ℕ) (o : Option StayCounts) (p : Option AdmittedCyclic) → o ≡ None → IsSameStay made ended o p
    → count_in p ≡ 0
no_count made ended None None e h = refl
no_count made ended None (Some c) e h = absurd h
no_count made ended (Some s) p e h = absurd (cc)

-- an id with no open stay is not in the drainer's hand
hand_free : (k : Setting) (log : List RingStep) (id : ℕ) → LevelStands k log → open_stay id (raise_side log) ≡ None
    → drainer_hand_of (drain_side log) ≢ Some id
hand_free k log id L none held = let l : SoftLevel = level_after_steps k.ceiling log in
    let c = no_count (made_calls id (drain_side log)) (ended_calls id (raise_side log)) (open_stay id (raise_side log))
    (l.cyclics id) none (L.shows.stays id) in
    let one = L.lawful.one_place id in let z : one_if_any (count_in (l.cyclics id)) ≡ 0 = ap one_if_any c in
    let full : in_hand id l.drainer_hand ≡ 1 = ap (in_hand id) (L.shows.drainer_is ∙ held)
    ∙ hand_here id in omega (arith, one, z, full)

no_call : (k : Setting) (id : ℕ) (x : DrainStep) (log earlier : List RingStep) (t : List DrainStep) → drain_side log ≡ t
    → LevelStands k log → LevelStands k (of_drain x ∷ log) → open_stay id (raise_side log) ≡ None → ¬ IsCall id x t
no_call k id (LoadedHardBank found) log earlier t is L M none call = call
no_call k id (LoadedProducer found) log earlier t is L M none call = call
no_call k id (Took e) log earlier t is L M none call = hand_free k (of_drain (Took e) ∷ log) id M none (ap Some call)
no_call k id (Subtracted found) log earlier t is L M none call = hand_free k log id L none (ap drainer_hand_of is ∙ call)
no_call k id (Followed bank) log earlier t is L M none call = call

none_calls : (k : Setting) (id : ℕ) (later earlier : List RingStep) → AllStood k (later ++ of_raise (Cleared id) ∷ earlier)
    → NoneAdmits id (raise_side later) → NoneCalls id (drain_side later) (drain_side earlier)
none_calls k id [] earlier h never = tt
none_calls k id (of_raise x ∷ later) earlier h never = none_calls k id later earlier h.1 never.1
none_calls k id (of_drain x ∷ later) earlier h never = let log : List RingStep = later ++ of_raise (Cleared id) ∷ earlier in (
  no_call k id x log earlier (drain_side later ++ drain_side earlier) (drains_append later (of_raise (Cleared id) ∷ earlier))
      (stands_now k log h.1) h.0 (gone id later earlier never),
  none_calls k id later earlier h.1 never,
)

pub no_call_follows : NoCallFollowsRemoval
no_call_follows k later earlier id h never = let log : List RingStep = later ++ of_raise (Cleared id) ∷ earlier in (
  none_calls k id later earlier h never,
  λ held. hand_free k log id (stands_now k log h) (gone id later earlier never)
      (ap drainer_hand_of (drains_append later (of_raise (Cleared id) ∷ earlier)) ∙ held),
)
