-- An id that was not given has no counts, and a receipt has all of them.
use Rattle.std.proofs.Common.{◌≡◌, ◌∙◌, ℕ, ◌<◌, inl, inr, Bool, true, false, Result, All, List, [], get_or, refl, sym, ap, arith}
use Rattle.std.specs.Prelude.{sum_by}
use Rattle.std.specs.List.{FoldsTo}
use Rattle.std.specs.Option.{option_map_or}
use Rattle.std.proofs.lemmas.Option.{slice_get-get_or}
use Rattle.cyc_types.specs.declared.Calls.{Ghosts as Calls}
use Rattle.cyc_types.specs.declared.Raise.{Ghosts as Raise}
use Rattle.cyc_types.specs.Firing.{FiringView}
use Rattle.cyc_types.specs.declared.level.Soft.{Soft}
use Rattle.cyc_types.specs.declared.receipt.Receipt.{Receipt}
use Rattle.cyc_types.specs.declared.firing.Sent.{Sent}
use Rattle.cyc_soft.specs.declared.Ran.{Ran}
use Rattle.cyc_soft.specs.declared.SoftRefused.{SoftRefused}
use Rattle.cyc_timers.specs.Rows.{Cyclic}
use Rattle.cyc_cpu.specs.Cpu.{CpuView, Running}
use Rattle.cyc_places.specs.declared.record.Record.{Record}
use Rattle.cyc_agreement.specs.Cpus.{IsCpu}
use Rattle.cyc_system.specs.System.{SystemView, RunningSystem, has, ids_of}
use Rattle.cyc_system.proofs.Lists.{among}
use Rattle.cyc_system.proofs.Recording.{found, record_none}
use Rattle.cyc_system.specs.Counts.{all_expired, all_lost}
use Rattle.cyc_system.specs.RemovalLaws.{cyclic_in}
use Rattle.cyc_system.proofs.Sums.{sum_none, none_found}
use Rattle.cyc_system.proofs.Receipts.{begun_done, poll_done}
use Rattle.cyc_system.specs.Calls.{SystemCall}
use Rattle.cyc_system_laws.specs.Sound.{IsSound}
use Rattle.cyc_system_laws.specs.Keeping.{EndsRemoval}
use Rattle.cyc_system_laws.specs.Totalling.{expirations_along, losses_along, Steps, AnswersWith}
use Rattle.cyc_system_laws.proofs.Totals.{run_grows, run_sound}

module _ {R : Type 0} (view : R → FiringView) (id : ℕ) (s : SystemView R) (sound : IsSound view s) (new : s.last < id) where
  nowhere : (n : ℕ) (b : Bool) → has n id s.cpus ≡ b → b ≡ false
  nowhere n false e = refl
  nowhere n true e = (let (k, r, is, named, stands, on) = sound.agrees.known n id e in let low = sound.agrees.given k r is in
      absurd (omega (arith, low, named, new)))

  none_here : (h : Cyclic → ℕ) (n : ℕ) (cpu : CpuView R) → IsCpu n cpu s.cpus → option_map_or h (cyclic_in id cpu) 0 ≡ 0
  none_here h n cpu at = ap (λ o. option_map_or h o 0)
      (none_found cpu.cyclics id (sym (ap (λ o. among id (option_map_or ids_of o [])) at) ∙ nowhere n (has n id s.cpus) refl))

  unrecorded : (h : Record → ℕ) → option_map_or h (found id s.records) 0 ≡ 0
  unrecorded h = ap (λ o. option_map_or h o 0)
      (record_none id s.records (λ k d low same.
      (let given = sound.agrees.given k (get_or s.records k d) (slice_get-get_or s.records k d low) in
      omega (arith, given, same, new))))

  pub no_losses_yet : all_lost id s ≡ 0
  no_losses_yet =
      let a = sum_none (λ cpu. option_map_or (λ c. c.lost) (cyclic_in id cpu) 0) s.cpus.cpus (none_here (λ c. c.lost)) in
      let b = unrecorded (λ r. sum_by (λ e. e.lost) r.ended) in omega (arith, a, b)

  pub no_counts_yet : all_expired id s ≡ 0
  no_counts_yet =
      let a = sum_none (λ cpu. option_map_or (λ c. c.timer.expired) (cyclic_in id cpu) 0) s.cpus.cpus
      (none_here (λ c. c.timer.expired)) in
      let b = unrecorded (λ r. sum_by (λ e. e.sent) r.ended) in omega (arith, a, b)

-- what a receipt says
pub receipt_all : {R : Type 0} (firing : Raise R) (id : ℕ) (receipt : Receipt)
    (s t : SystemView R) → IsSound firing.view s → AnswersWith firing id receipt s t
    → (receipt.sent ≡ all_expired id s) × (receipt.lost ≡ all_lost id s)
receipt_all firing id receipt s t sound (inl d) = (
  begun_done firing (λ (e : Sent). e.sent) id (λ a b. refl) receipt s t sound.fit sound.lawful d (λ r sent lost. sent),
  begun_done firing (λ (e : Sent). e.lost) id (λ a b. refl) receipt s t sound.fit sound.lawful d (λ r sent lost. lost),
)
receipt_all firing id receipt s t sound (inr d) = (
  poll_done firing (λ (e : Sent). e.sent) id (λ a b. refl) receipt s t sound.fit sound.lawful d (λ r sent lost. sent),
  poll_done firing (λ (e : Sent). e.lost) id (λ a b. refl) receipt s t sound.fit sound.lawful d (λ r sent lost. lost),
)

module _ {C R : Type 0} (handler : Calls C) (firing : Raise R)
    (interrupts : Soft → ℕ → Result Ran SoftRefused → Running C R → Running C R → Type 0)
    (serves : (s t : Running C R) (level : Soft) (budget : ℕ) (answer : Result Ran SoftRefused)
    → interrupts level budget answer s t → t.cpu.cyclics ≡ s.cpu.cyclics) (id : ℕ) where
  pub receipt_along : (s t : RunningSystem C R) (u : SystemView R) (way : List SystemCall) (receipt : Receipt)
      (run : FoldsTo (Steps handler firing interrupts) s way t) → IsSound firing.view s.system
      → s.system.last < id → All (λ call. EndsRemoval id call → ⊥) way → AnswersWith firing id receipt t.system u
      → (receipt.sent ≡ expirations_along (Steps handler firing interrupts) id s way t run)
      × (receipt.lost ≡ losses_along handler firing interrupts id s way t run)
  receipt_along s t u way receipt run sound new open_still answers =
      let (sent, lost) = receipt_all firing id receipt t.system u
      (run_sound handler firing interrupts serves id s t way run sound) answers in
      let g = run_grows handler firing interrupts serves id s t way run sound open_still in
      let a = g.expired in let b = g.lost in
      let c = no_counts_yet firing.view id s.system sound new in let e = no_losses_yet firing.view id s.system sound new in
      (omega (arith, sent, a, c), omega (arith, lost, b, e))
