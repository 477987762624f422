-- A cyclic that was added.
use Rattle.std.proofs.Common.{◌≡◌, ◌≢◌, ◌==◌, ℕ, ◌+◌, ◌<◌, Bool, true, false, [], ◌∷◌, ◌++◌, length, get_or, sym, ap, ◌∙◌, subst}
use Rattle.std.proofs.Common.{arith}
use Rattle.std.proofs.lemmas.Option.{slice_get_within, slice_get-get_or}
use mathlib.Core.Logic.{dite}
use native.Mathlib.Decide.{ℕ_discrete}
use Rattle.cyc_types.specs.declared.Raise.{Ghosts as Raise}
use Rattle.cyc_types.specs.declared.level.Level.{Level}
use Rattle.cyc_cpu.specs.Cpu.{CpuView, HasNoCyclic, cyclic_with}
use Rattle.cyc_places.specs.declared.record.Placement.TheVariants.{On}
use Rattle.cyc_places.specs.declared.record.Record.{Record}
use Rattle.cyc_places.specs.Places.{new_record}
use Rattle.cyc_agreement.specs.Cpus.{CpusView, IsCpu, ChangesAt, Works}
use Rattle.cyc_agreement.proofs.CpuSpots.{cpu_there}
use Rattle.cyc_agreement.specs.System.{SystemView, ids_on, has, is_online}
use Rattle.cyc_agreement.specs.Agreement.{Agrees}
use Rattle.cyc_agreement.specs.Adding.{entering}
use Rattle.cyc_agreement.proofs.Lists.{among, any_at, any_map, true_eq, false_true}
use Rattle.cyc_agreement.proofs.Who.{SameBut, id_in, ids_there, but_same, but_then, same_changed, more_changed, same_widened}
use Rattle.cyc_agreement.proofs.Who.{placed}
use Rattle.cyc_agreement.proofs.Given.{online_same, agrees_given}
use Rattle.cyc_agreement.proofs.Destinations.{online_at}

-- a CPU whose state is known is there
pub online_low : {R : Type 0} (s : SystemView R) (n : ℕ) → Agrees s → is_online n s.cpus ≡ true → n < length s.cpus.cpus
online_low s n a on = subst (λ k. n < k) a.long (slice_get_within s.cpus.online n true (online_at s.cpus n on))

-- an id that no record has is on no CPU
pub not_given : {R : Type 0} (s : SystemView R) (id n : ℕ) → Agrees s → s.last < id → has n id s.cpus ≡ true → ⊥
not_given s id n a next h = let (k, r, is, named, stands, on) = a.known n id h in let l = a.given k r is in
    omega (arith, l, named, next)

-- where no cyclic has the id, it is not among the CPU's
pub none_here : {R : Type 0} (v : CpusView R) (n id : ℕ) (cpu : CpuView R) → (has n id v ≡ true → ⊥) → IsCpu n cpu v
    → HasNoCyclic id cpu.cyclics
none_here v n id cpu absent at k d low same = absent
    (ap (λ ids. among id ids) (ids_there v n cpu cpu at) ∙ any_map id_in (λ own. own == id) cpu.cyclics
    ∙ any_at (λ c. c.timer.id == id) cpu.cyclics k d low (true_eq _ id same))

-- the records' ids are below the next one
pub below_next : {R : Type 0} (s : SystemView R) (id : ℕ) → Agrees s → s.last < id → (k : ℕ) (d : Record) → k < length s.records
    → (get_or s.records k d).id < id
below_next s id a next k d low = let l = a.given k (get_or s.records k d) (slice_get-get_or s.records k d low) in
    omega (arith, l, next)

-- what entering a CPU does
pub entered : {R : Type 0} (firing : Raise R) (n id : ℕ) (level : Level)
    (interval moment : ℕ) (v w : CpusView R)
    → Works firing (entering n id level interval moment) v w → SameBut id v w × (has n id w ≡ true)
    × ((m : ℕ) → m ≢ n → ids_on m w ≡ ids_on m v)
entered firing n id level interval moment v w (u, widens, (t, places, e)) =
    let same = same_changed n _ v u widens (same_widened firing widens.before widens.after 1 widens.change.1) in
    let (but, here, elsewhere) = more_changed n id _ u t places
    (placed firing places.before places.after (cyclic_with id level interval moment 0 0) places.change.1) in (
      subst (λ x. SameBut id v x) e (but_then id v u t (but_same id v u same) but),
      subst (λ x. has n id x ≡ true) e here,
      λ m ne. ap (λ x. ids_on m x) (sym e) ∙ elsewhere m ne ∙ same.ids m,
    )

-- the system after an add
pub agrees_added : {R : Type 0} (s : SystemView R) (d id : ℕ) (level : Level) (w : CpusView R) → Agrees s → id ≡ s.last + 1
    → is_online d s.cpus ≡ true
    → SameBut id s.cpus w → has d id w ≡ true → ((m : ℕ) → m ≢ d → has m id w ≡ has m id s.cpus)
    → Agrees (record { cpus = w; records = s.records ++ new_record id level (On d false) ∷ []; last = id })
agrees_added s d id level w a next on but here elsewhere = agrees_given s id level (On d false) w next a but (record {
  stands = λ n h. dite (ℕ_discrete n d)
      (λ e. (sym e, ap (λ k. is_online k w) e ∙ (online_same s.cpus w d but.online ∙ on)))
      (λ ne. absurd (not_given s id n a (omega (arith, next)) (sym (elsewhere n ne) ∙ h)));
  home = λ n bound e. ap (λ k. has k id w) (same_number e) ∙ here;
  everywhere = λ n e. absurd (false_true e);
})
  where
    same_number : {n m : ℕ} {b c : Bool} → On n b ≡ On m c → m ≡ n
    same_number {n} {m} {b} {c} e = cc

-- the changed CPU stands at its number
pub now_there : {R : Type 0} (n : ℕ) (D : CpuView R → CpuView R → Type 0) (v w : CpusView R) (c : ChangesAt n D v w)
    → IsCpu n c.after w
now_there n D v w c = subst (λ u. IsCpu n c.after u) (sym c.rest) (cpu_there n c.before c.after v c.here)
