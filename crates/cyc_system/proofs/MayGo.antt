-- A cyclic that may go to its destination.
use Rattle.std.proofs.Common.{◌≡◌, ◌≢◌, ℕ, ◌<◌, ◌≤◌, inl, inr, true, false, Some, None, Ok, Err, [], ◌∷◌, length, slice_set, sym}
use Rattle.std.proofs.Common.{ap, ◌∙◌, arith}
use Rattle.std.specs.Option.{option_and_then}
use Rattle.cyc_types.specs.declared.Raise.{Ghosts as Raise}
use Rattle.cyc_types.specs.declared.refusal.Refusal.{Refusal}
use Rattle.cyc_types.specs.declared.refusal.Refusal.TheVariants as why
use Rattle.cyc_cpu.specs.Cpu.{CpuView, HasNoCyclic}
use Rattle.cyc_cpu.specs.Calls.{AskPending, Reserve}
use Rattle.cyc_cpu.specs.Laws.{IsLawful}
use Rattle.cyc_cpu.specs.Removal.{HasCyclic}
use Rattle.cyc_places.specs.declared.record.Placement.TheVariants.{On}
use Rattle.cyc_places.specs.declared.record.Record.{Record}
use Rattle.cyc_places.specs.Places.{IsRecord, HasRisingIds, with_placement}
use Rattle.cyc_agreement.specs.Cpus.{CpusView, IsCpu, on, Works}
use Rattle.cyc_agreement.specs.Destination.{destination}
use Rattle.cyc_agreement.specs.Shifting.{move_of, Shifts}
use Rattle.cyc_agreement.specs.System.{SystemView, has, is_online, removal_on}
use Rattle.cyc_agreement.specs.Agreement.{Agrees}
use Rattle.cyc_agreement.specs.Binding.{GoesTo}
use Rattle.cyc_agreement.proofs.Lists.{false_true}
use Rattle.cyc_agreement.proofs.Spots.{get_some, none_some}
use Rattle.cyc_agreement.proofs.Presence.{has_low, cyclic_here}
use Rattle.cyc_agreement.proofs.Entering.{online_low, none_here}
use Rattle.cyc_agreement.proofs.Destinations.{destination_fits}
use Rattle.cyc_system.proofs.Replaced.{not_elsewhere, agrees_replaced}
use Rattle.cyc_agreement.proofs.Given.{agrees_same}
use Rattle.cyc_agreement.proofs.Shifted.{most_same, rise_on, went, stayed}

-- the cyclic is on the source alone, is not bound, and has this destination
module _ {R : Type 0} (s : SystemView R) (a : Agrees s) (rising : HasRisingIds s.records) (source d k : ℕ) (r : Record)
    (is : IsRecord s.records k r)
    (placement : r.placement ≡ On source false) (chosen : destination (Some source) s.cpus ≡ Some d) where
  pub home : has source r.id s.cpus ≡ true
  home = a.home k source false r is placement

  pub up : is_online d s.cpus ≡ true
  up = (destination_fits (Some source) s.cpus d chosen).0

  pub apart : d ≢ source
  apart e = (destination_fits (Some source) s.cpus d chosen).1 (ap Some (sym e))

  pub low_source : source < length s.cpus.cpus
  low_source = has_low s.cpus source r.id home

  pub low_target : d < length s.cpus.cpus
  low_target = online_low s d a up

  pub here : (cpu : CpuView R) → IsCpu source cpu s.cpus → HasCyclic r.id cpu.cyclics
  here cpu at = cyclic_here s.cpus source r.id cpu home at

  only : (m : ℕ) → m ≢ source → has m r.id s.cpus ≡ false
  only m ne = not_elsewhere s k source m false r a rising is placement ne

  pub absent : (cpu : CpuView R) → IsCpu d cpu s.cpus → HasNoCyclic r.id cpu.cyclics
  absent cpu at = none_here s.cpus d r.id cpu (λ h. false_true (sym (only d apart) ∙ h)) at

  pub most : (x y : CpuView R) → IsCpu source x s.cpus → IsCpu d y s.cpus → x.most ≤ y.most
  most x y p q = let e = most_same s source d x y a p q in omega (arith, e)

  module _ (firing : Raise R) (lawful : (n : ℕ) (cpu : CpuView R) → IsCpu n cpu s.cpus
      → IsLawful firing.view cpu)
      (w : CpusView R) where
    pub agrees_moved : Shifts firing (move_of r.id source d) (Ok tt) s.cpus w
        → Agrees (record { cpus = w; records = slice_set s.records k (with_placement (On d false) r); last = s.last })
    agrees_moved shifts =
        let (cpu, at) = get_some s.cpus.cpus source low_source in
        let goes : GoesTo firing (move_of r.id source d) (Ok tt) s.cpus w = inr ((λ e. apart (sym e)), shifts) in
        let (but, there, gone) = went firing r.id source d s.cpus w
        (rise_on firing.view s.cpus source cpu at (lawful source cpu at)) home only goes in
        agrees_replaced s k d false false source r w a rising is placement but up there gone

    pub agrees_stayed : (e : Refusal) → Shifts firing (move_of r.id source d) (Err e) s.cpus w
        → Agrees (record { cpus = w; records = s.records; last = s.last })
    agrees_stayed e shifts =
        let (cpu, at) = get_some s.cpus.cpus source low_source in
        let goes : GoesTo firing (move_of r.id source d) (Err e) s.cpus w = inr ((λ f. apart (sym f)), shifts) in
        agrees_same s w a (stayed firing r.id source d s.cpus w e
        (rise_on firing.view s.cpus source cpu at (lawful source cpu at)) goes)

-- where no removal is open at the source and no call was found outstanding, the destination refused it
pub refused : {R : Type 0} (firing : Raise R) (id source d : ℕ) (v w : CpusView R)
    (e : Refusal) → removal_on source v ≡ None → e ≢ why.Pending
    → Shifts firing (move_of id source d) (Err e) v w
    → Works firing (on source (AskPending id (Some 0)) ∷ on d (Reserve 1 (Err e)) ∷ []) v w
refused firing id source d v w e still ne (inl (removed, (cpu, at, is), busy, same)) =
    absurd (none_some (sym still ∙ ap (λ o. option_and_then (λ x. x.removal) o) at ∙ is))
refused firing id source d v w e still ne (inr (inl (none, n, some, is, works))) = absurd (ne is)
refused firing id source d v w e still ne (inr (inr (none, works))) = works
