-- A soft interrupt leaves what the firing side knows of the stays.
use Rattle.std.proofs.Common.{◌≡◌, ℕ, Bool, true, false, cond, eqb, Option, Some, None, List, [], ◌∷◌, refl, sym, ap, ◌∙◌, subst}
use Rattle.std.specs.Prelude.{Result, Ok, Err, IfOk, IfErr}
use Rattle.std.specs.Option.{option_map}
use Rattle.std.specs.List.{FoldsTo}
use Rattle.cyc_types.specs.Firing.{FiringView, Stay}
use Rattle.cyc_types.specs.Draining.{DrainCall, Takes, Finishes}
use Rattle.cyc_types.specs.Runs.{DrainGoes}
use Rattle.cyc_core.specs.Event.TheVariants.{Take, Finish, Follow}
use Rattle.cyc_core.specs.Level.{AdmittedCyclic, SoftLevel}
use Rattle.cyc_core.specs.Events.{cyclic_after_finish, after_finish}
use Rattle.cyc_core.specs.Reached.{Happens}
use Rattle.cyc_core.specs.Tables.{Tables, level_of}
use Rattle.cyc_core.specs.FiringSide.{stay_of, firing_view}
use Rattle.cyc_core.specs.DrainingSide.{take_events, Drains}
use Rattle.cyc_timers.specs.Quiet.{KeepsStays}
use Rattle.cyc_cpu.specs.Soft.{drain_tables, firing_at}
use Rattle.cyc_timers.proofs.Readying.{keeps_itself}

pub keeps_on : (u v w : FiringView) → KeepsStays u v → KeepsStays v w → KeepsStays u w
keeps_on u v w a b = record {
  to = λ id s h. (let (t, there, i1, i2, i3) = a.to id s h in let (x, here, j1, j2, j3) = b.to id t there in
      (x, here, j1 ∙ i1, j2 ∙ i2, j3 ∙ i3));
  from = λ id x h. (let (t, there) = b.from id x h in a.from id t there);
  marked = b.marked ∙ a.marked;
  bank = b.bank ∙ a.bank;
  ceiling = b.ceiling ∙ a.ceiling;
  free = b.free ∙ a.free;
}

finish_to : (b : Bool) (o : Option AdmittedCyclic) (s : Stay) → option_map stay_of o ≡ Some s →
    (t : Stay) × (option_map stay_of (cond b (option_map cyclic_after_finish o) o) ≡ Some t) × (t.index ≡ s.index)
    × (t.sent ≡ s.sent) × (t.lost ≡ s.lost)
finish_to true (Some c) s h = let e : stay_of c ≡ s = cc in (
  stay_of (cyclic_after_finish c),
  refl,
  ap (λ (x : Stay). x.index) e,
  ap (λ (x : Stay). x.sent) e,
  ap (λ (x : Stay). x.lost) e,
)
finish_to true None s h = absurd (let no : None ≡ Some s = h in cc)
finish_to false o s h = (s, h, refl, refl, refl)

finish_from : (b : Bool) (o : Option AdmittedCyclic) (t : Stay)
    → option_map stay_of (cond b (option_map cyclic_after_finish o) o) ≡ Some t → (s : Stay) × (option_map stay_of o ≡ Some s)
finish_from true (Some c) t h = (stay_of c, refl)
finish_from true None t h = absurd (let no : None ≡ Some t = h in cc)
finish_from false o t h = (t, h)

finish_keeps : (l : SoftLevel) (hand : Option ℕ) → KeepsStays (firing_view l) (firing_view (after_finish hand l))
finish_keeps l None = keeps_itself (firing_view l)
finish_keeps l (Some id) = record {
  to = λ j s h. finish_to (eqb j id) (l.cyclics j) s h;
  from = λ j t h. finish_from (eqb j id) (l.cyclics j) t h;
  marked = refl;
  bank = refl;
  ceiling = refl;
  free = refl;
}

taken : (l m : SoftLevel) → Happens l Take m → KeepsStays (firing_view l) (firing_view m)
taken l m (enabled, is) = subst (λ (x : SoftLevel). KeepsStays (firing_view l) (firing_view x)) (sym is)
    (keeps_itself (firing_view l))

followed : (l m : SoftLevel) → Happens l Follow m → KeepsStays (firing_view l) (firing_view m)
followed l m (enabled, is) = subst (λ (x : SoftLevel). KeepsStays (firing_view l) (firing_view x)) (sym is)
    (record {
      to = λ id s h. (s, h, refl, refl, refl);
      from = λ id t h. (t, h);
      marked = refl;
      bank = refl;
      ceiling = refl;
      free =
          refl;
    })

finished : (l m : SoftLevel) → Happens l Finish m → KeepsStays (firing_view l) (firing_view m)
finished l m (enabled, is) = subst (λ (x : SoftLevel). KeepsStays (firing_view l) (firing_view x)) (sym is)
    (finish_keeps l l.drainer_hand)

at_end : (l m : SoftLevel) → l ≡ m → KeepsStays (firing_view l) (firing_view m)
at_end l m e = subst (λ (x : SoftLevel). KeepsStays (firing_view l) (firing_view x)) e (keeps_itself (firing_view l))

looked : (l m : SoftLevel) (old new : List ℕ) (b : Bool) → FoldsTo Happens l (take_events old new b) m
    → KeepsStays (firing_view l) (firing_view m)
looked l m old (x ∷ xs) true (k, first, rest) = keeps_on _ _ _ (taken l k first) (at_end k m rest)
looked l m old [] true h = at_end l m h
looked l m (x ∷ xs) new false (k, first, rest) = keeps_on _ _ _ (taken l k first) (at_end k m rest)
looked l m [] (x ∷ xs) false (k, first, (n, second, rest)) =
    keeps_on _ _ _ (followed l k first) (keeps_on _ _ _ (taken k n second) (at_end n m rest))
looked l m [] [] false (k, first, rest) = keeps_on _ _ _ (followed l k first) (at_end k m rest)

drained : (l m : SoftLevel) (call : DrainCall) → Drains l call m → KeepsStays (firing_view l) (firing_view m)
drained l m (Takes answer) h = looked l m l.old_list l.new_list (eqb l.hard_bank l.soft_bank) h.0
drained l m (Finishes id answer) h = finished l m h.1

-- the calls of a soft interrupt, one by one
pub serving_keeps : (a b : Tables) (way : List DrainCall) → DrainGoes drain_tables a way b
    → KeepsStays (firing_at a) (firing_at b)
serving_keeps a b [] h = at_end (level_of a) (level_of b) (ap level_of h)
serving_keeps a b (call ∷ way) (m, first, rest) =
    keeps_on _ _ _ (drained (level_of a) (level_of m) call first) (serving_keeps m b way rest)

-- what follows from either answer
pub on_answer : {A E : Type 0} (P : A → Type 0) (Q : E → Type 0) (K : Type 0) (r : Result A E) → IfOk r P → IfErr r Q
    → ((a : A) → P a → K) → ((e : E) → Q e → K) → K
on_answer P Q K (Ok a) p q f g = f a p
on_answer P Q K (Err e) p q f g = g e q
