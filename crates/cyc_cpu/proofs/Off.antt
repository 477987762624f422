-- A cyclic that has left is a stay of neither end.
use Rattle.std.proofs.Common.{◌≡◌, ℕ, Option, Some, None, List, [], ◌∷◌, inl, inr, refl, sym, ap, ◌∙◌, subst}
use Rattle.std.specs.Prelude.{remove}
use Rattle.cyc_types.specs.declared.Raise.{Ghosts as Raise}
use Rattle.cyc_types.specs.Firing.{FiringCall, Stay, Loads, Marks, Polls}
use Rattle.cyc_types.specs.Runs.{Goes}
use Rattle.cyc_types.specs.declared.firing.Sent.{Sent}
use Rattle.cyc_types.specs.declared.level.Level.{Level}
use Rattle.cyc_types.specs.declared.level.Level.TheVariants as level
use Rattle.cyc_timers.specs.Rows.{Cyclic}
use Rattle.cyc_cpu.specs.Cpu.{CpuView, AreAdmitted, HasNoCyclic}
use Rattle.cyc_cpu.specs.Removal.{calls_at, Leaves}
use Rattle.cyc_cpu.specs.Laws.{IsLawful}
use Rattle.cyc_cpu.specs.Gone.{HasLeft, IsOff}
use Rattle.cyc_cpu.proofs.Cleared.{goes_here, goes_not, level_cases, clears_poll}
use Rattle.cyc_cpu.proofs.Following.{one_cyclic, none_left}

pub none_there : (o : Option Stay) → ((s : Stay) → o ≡ Some s → ⊥) → o ≡ None
none_there None h = refl
none_there (Some s) h = absurd (h s refl)

module _ {R : Type 0} (firing : Raise R) (id : ℕ) (counts : Sent) (e f : R) where
  polled_off : Goes firing e (Polls id (Some counts) ∷ []) f → (firing.view f).stays id ≡ None
  polled_off (m, (s, l), last) = ap (λ x. (firing.view x).stays id) (sym last)
      ∙ (clears_poll (firing.view e) (firing.view m) id counts l).gone

  begun_off : Goes firing e (Marks id 0 ∷ Polls id (Some counts) ∷ []) f → (firing.view f).stays id ≡ None
  begun_off (m, first, (n, (s, l), last)) = ap (λ x. (firing.view x).stays id) (sym last)
      ∙ (clears_poll (firing.view m) (firing.view n) id counts l).gone

  taken_off : Goes firing e (Loads id 0 ∷ Marks id 0 ∷ Polls id (Some counts) ∷ []) f → (firing.view f).stays id ≡ None
  taken_off (k, first, (m, second, (n, (s, l), last))) = ap (λ x. (firing.view x).stays id) (sym last)
      ∙ (clears_poll (firing.view m) (firing.view n) id counts l).gone

module _ {R : Type 0} (firing : Raise R) (id : ℕ) (v w : CpuView R)
    (law : IsLawful firing.view v) where
  module _ (way : List FiringCall) (c : Cyclic) (l : Leaves firing id way c v w) (ends : (e f : R) → Goes firing e way f
      → (firing.view f).stays id ≡ None) where
    end_off : (own : Level) (e f : R) → AreAdmitted own (firing.view e) v.cyclics
        → Goes firing e (calls_at own c.timer.level way) f
        → (firing.view f).stays id ≡ None
    end_off own e f admitted goes = elim (level_cases c.timer.level own) [
      | inl at ↦ ends e f (goes_here firing own c.timer.level e f way goes at)
      | inr off ↦ ap (λ x. (firing.view x).stays id) (goes_not firing own c.timer.level e f way goes off)
          ∙ none_there ((firing.view e).stays id) (λ s h.
          (let (k, d, here, named, at) = admitted.only id s h in
          off (ap (λ (y : Cyclic). y.timer.level) (sym
          (one_cyclic v.cyclics l.position k c d law.rising l.here here (named ∙ sym l.named))) ∙ at)))
    ]

    left_off : IsOff firing.view id w
    left_off = record {
      no_cyclic = subst (λ cs. HasNoCyclic id cs) (sym l.cyclics)
          (subst (λ j. HasNoCyclic j (remove v.cyclics l.position)) l.named (none_left v.cyclics l.position c law.rising l.here));
      lock = end_off level.Lock v.lock w.lock law.lock l.goes.0;
      low = end_off level.Low v.low w.low law.low l.goes.1;
    }

  pub has_left_off : HasLeft firing id v w → IsOff firing.view id w
  has_left_off (inl (receipt, (c, counts, is, polled, l))) = left_off _ c l (begun_off firing id counts)
  has_left_off (inr (inr (taken, (c, counts, is, polled, l)))) = left_off _ c l (taken_off firing id counts)
  has_left_off (inr (inl (receipt, same, e))) =
      left_off _ e.cyclic (subst (λ j. Leaves firing j (Polls j (Some e.counts) ∷ []) e.cyclic v w) same e.leaves)
      (polled_off firing id e.counts)
