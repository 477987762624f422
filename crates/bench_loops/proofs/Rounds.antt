-- An empty level is new, and one stays ready over a take and a finish.
use Rattle.std.proofs.Common.{◌≡◌, ℕ, ◌<◌, ◌≤◌, Bool, true, false, List, [], ◌∷◌, refl, sym, ap, subst, ◌∙◌, arith, Option, Some}
use Rattle.std.proofs.Common.{None}
use Rattle.std.specs.List.{FoldsTo}
use Rattle.std.specs.Option.{option_map}
use Rattle.std.specs.Prelude.{is_none, IsSome, IfSome}
use Rattle.cyc_types.specs.Firing.{Stay}
use Rattle.cyc_types.specs.Draining.{Takes, Finishes}
use Rattle.cyc_types.specs.declared.draining.Finished.{Finished}
use Rattle.cyc_level.specs.declared.Event.TheVariants.{Take, Follow}
use Rattle.cyc_level.specs.Level.{AdmittedCyclic, Cyclics, SoftLevel, empty_level}
use Rattle.cyc_level.specs.Events.{after_finish, changed_at, cyclic_after_finish}
use Rattle.cyc_level.proofs.Maps.{at_cases, some_same}
use Rattle.cyc_core.specs.Reached.{Happens}
use Rattle.cyc_core.specs.FiringSide.{firing_view, stay_of}
use Rattle.cyc_core.specs.DrainingSide.{Drains, take_events}
use Rattle.bench_sides.specs.Ready.{IsNewLevel, IsReadyLevel}

pub empty_is_new : (ceiling : ℕ) (l : SoftLevel) → l ≡ empty_level ceiling → IsNewLevel (firing_view l)
empty_is_new ceiling l e = subst (λ (x : SoftLevel). IsNewLevel (firing_view x)) (sym e) (record {
  none = λ id. refl;
  unmarked = refl;
  bank = refl;
  followed = refl;
  free = refl;
})

-- the firing side sees the same before and after
abbrev Same : SoftLevel → SoftLevel → Type 0
Same l m = (m.cyclics ≡ l.cyclics) × (m.marked ≡ l.marked) × (m.firer_hand ≡ l.firer_hand)

same_as : (l m : SoftLevel) → l ≡ m → Same l m
same_as l m e = (
  ap (λ (x : SoftLevel). x.cyclics) (sym e),
  ap (λ (x : SoftLevel). x.marked) (sym e),
  ap (λ (x : SoftLevel). x.firer_hand)
      (sym e),
)

same_on : (l m k : SoftLevel) → Same l m → Same m k → Same l k
same_on l m k a b = (b.0 ∙ a.0, b.1 ∙ a.1, b.2 ∙ a.2)

took : (l m : SoftLevel) → Happens l Take m → Same l m
took l m h = subst (λ (x : SoftLevel). Same l x) (sym h.1) (refl, refl, refl)

followed : (l m : SoftLevel) → Happens l Follow m → Same l m
followed l m h = subst (λ (x : SoftLevel). Same l x) (sym h.1) (refl, refl, refl)

looked : (old new : List ℕ) (b : Bool) (l m : SoftLevel) → FoldsTo Happens l (take_events old new b) m → Same l m
looked old (x ∷ xs) true l m (j, h, e) = same_on l j m (took l j h) (same_as j m e)
looked old [] true l m e = same_as l m e
looked (x ∷ xs) new false l m (j, h, e) = same_on l j m (took l j h) (same_as j m e)
looked [] (x ∷ xs) false l m (j, h, (k, i, e)) = same_on l j m (followed l j h) (same_on j k m (took j k i) (same_as k m e))
looked [] [] false l m (j, h, e) = same_on l j m (followed l j h) (same_as j m e)

same_ready : (n most : ℕ) (l m : SoftLevel) → Same l m → IsReadyLevel n most (firing_view l) → IsReadyLevel n most (firing_view m)
same_ready n most l m s r = record {
  free = subst (λ (h : Option ℕ). is_none h ≡ true) (sym s.2) r.free;
  unmarked = s.1 ∙ r.unmarked;
  stays = subst (λ (c : Cyclics). (id : ℕ) → 0 < id → id ≤ n → (t : Stay) × (option_map stay_of (c id) ≡ Some t)
      × (t.sent ≤ most)) (sym s.0) r.stays;
}

pub take_ready : (n most : ℕ) (l m : SoftLevel) (answer : Option ℕ) → IsReadyLevel n most (firing_view l)
    → Drains l (Takes answer) m
    → IsReadyLevel n most (firing_view m)
take_ready n most l m answer r d = same_ready n most l m (looked l.old_list l.new_list _ l m d.0) r

-- a finish leaves the expirations of each cyclic
finish_in : (o : Option AdmittedCyclic) (s : Stay) → option_map stay_of o ≡ Some s → (t : Stay)
    × (option_map stay_of (option_map cyclic_after_finish o) ≡ Some t) × (t.sent ≡ s.sent)
finish_in None s e = absurd (cc)
finish_in (Some c) s e = (stay_of (cyclic_after_finish c), refl, ap (λ (x : Stay). x.sent) (some_same _ s e))

finish_stays : (l : SoftLevel) (id j : ℕ) (s : Stay) → option_map stay_of (l.cyclics j) ≡ Some s →
    (t : Stay) × (option_map stay_of (changed_at l.cyclics id (option_map cyclic_after_finish) j) ≡ Some t) × (t.sent ≡ s.sent)
finish_stays l id j s e = at_cases l.cyclics id (option_map cyclic_after_finish)
    (λ k o. option_map stay_of (l.cyclics k) ≡ Some s → (t : Stay) × (option_map stay_of o ≡ Some t) × (t.sent ≡ s.sent))
    (finish_in (l.cyclics id) s) (λ k _ h. (s, h, refl)) j e

finish_view : (n most : ℕ) (l : SoftLevel) (id : ℕ) → IsReadyLevel n most (firing_view l)
    → IsReadyLevel n most (firing_view (after_finish (Some id) l))
finish_view n most l id r = record {
  free = r.free;
  unmarked = r.unmarked;
  stays = λ j some few.
      let (s, here, low) = r.stays j some few in
      let (t, there, same) = finish_stays l id j s here in
      (t, there, omega (arith, low, same));
}

pub finish_ready : (n most : ℕ) (l m : SoftLevel) (id : ℕ) (answer : Finished) → IsReadyLevel n most (firing_view l)
    → Drains l (Finishes id answer) m → IsReadyLevel n most (firing_view m)
finish_ready n most l m id answer r (hand, h, a) =
    subst (λ (x : SoftLevel). IsReadyLevel n most (firing_view x)) (sym h.1)
    (subst (λ (o : Option ℕ). IsReadyLevel n most (firing_view (after_finish o l))) (sym hand) (finish_view n most l id r))

pub finish_hand : (n most : ℕ) (l m : SoftLevel) (hand : Option ℕ) (answer : Finished) → IsSome hand
    → IsReadyLevel n most (firing_view l)
    →
    IfSome hand (λ id. Drains l (Finishes id answer) m) → IsReadyLevel n most (firing_view m)
finish_hand n most l m None answer some r d = absurd (cc)
finish_hand n most l m (Some id) answer some r d = finish_ready n most l m id answer r d
