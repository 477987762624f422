-- Only an advance brings expirations.
use Rattle.std.proofs.Common.{◌≡◌, ℕ, zero, suc, ◌+◌, false, List, [], ◌∷◌, sum_by, refl}
use Rattle.std.proofs.Common.{ap, ◌∙◌, arith}
use Rattle.std.specs.Prelude.{⊤, slice_set, slice_index_or, None}
use Rattle.std.proofs.lemmas.List.Sums.{sum_by-cons}
use Rattle.cyc_text.specs.declared.lines.Counts.{Counts}
use Rattle.cyc_script.specs.declared.step.Step.{Step}
use Rattle.cyc_script.specs.declared.step.Step.TheVariants.{Add, Omni, Bind, Unbind, Reprogram, Remove, Advance, Softint, Juggle}
use Rattle.cyc_script.specs.declared.step.Step.TheVariants.{Offline, Online, Suspend, Resume}
use Rattle.cyc_model.specs.Cpu.{CyclicState, Cpu, Here}
use Rattle.cyc_model.specs.Moving.{put_in, widen_here, place_here, enter_here}
use Rattle.cyc_model.specs.Moving.{reprogram_here}
use Rattle.cyc_model.specs.Serving.{serve_here}
use Rattle.cyc_model.specs.Questions.{plain}
use Rattle.cyc_model.specs.State.{State, On, OnAll, Everywhere, absent, cpu_of, on_number, each, cpus_online}
use Rattle.cyc_model.specs.Places.{id_of, destination_of, given}
use Rattle.cyc_model.specs.Refusals.{magnitude}
use Rattle.cyc_model.specs.Add.{added, enter}
use Rattle.cyc_model.specs.Omni.{component, everywhere}
use Rattle.cyc_model.specs.Reprogram.{cpu_meant}
use Rattle.cyc_model.specs.Softint.{interrupt, leaving_ids}
use Rattle.cyc_model.specs.Report.{expired_here}
use Rattle.cyc_model.specs.Script.{refusal_of, does, text_in}
use Rattle.cyc_model.proofs.Whole.{same_happen}
use Rattle.cyc_model.proofs.Serves.{same_serve}
use Rattle.cyc_model.proofs.Totals.{all_set, expired_in}
use Rattle.cyc_model.proofs.Growing.{expired_by, expired_put, widened_same, expired_moment}
use Rattle.cyc_model.proofs.Spread.{Good}
use Rattle.cyc_model.proofs.Calm.{well_interrupt}
use Rattle.cyc_model.proofs.Answering.{counts_removed, counts_polls}
use Rattle.cyc_model.proofs.Reaching.{safe_does}

sum_set_same : (g : Cpu → ℕ) (cs : List Cpu) (n : ℕ) (d : Cpu) → g d ≡ g (slice_index_or cs n absent)
    → sum_by g (slice_set cs n d) ≡ sum_by g cs
sum_set_same g [] n d e = refl
sum_set_same g (c ∷ cs) zero d e = let a = sum_by-cons g d cs in let b = sum_by-cons g c cs in omega (arith, a, b, e)
sum_set_same g (c ∷ cs) (suc n) d e =
    let a = sum_by-cons g c (slice_set cs n d) in let b = sum_by-cons g c cs in
    let r = sum_set_same g cs n d e in omega (arith, a, b, r)

expired_on_same : (id n : ℕ) (f : Cpu → Here) (s : State) → expired_here id (f (cpu_of n s)).cpu ≡ expired_here id (cpu_of n s)
    → expired_in id (on_number n f s).state ≡ expired_in id s
expired_on_same id n f s e =
    let u = ap (λ ns. sum_by (λ m. (s.ended id m).expired) ns) (all_set 0 s.cpus n (f (cpu_of n s)).cpu) in
    let r = sum_set_same (expired_here id) s.cpus n (f (cpu_of n s)).cpu e in omega (arith, u, r)

-- ---- a new cyclic

pub cyclics_entered : (n index : ℕ) (x : CyclicState) (c : Cpu) → (enter_here n index x c).cpu.cyclics ≡ put_in x c.cyclics
cyclics_entered n index x c =
    let d = (widen_here n 1 c).cpu in
    (same_happen (place_here n index x d).acts (record d { cyclics = put_in x d.cyclics })).cyclics
    ∙ ap (put_in x) (widened_same n c)

entered_same : (indexes : ℕ → ℕ) (id n : ℕ) (x : CyclicState) (s : State) → x.timer.expired ≡ 0
    → expired_in id (enter indexes n x s).state ≡ expired_in id s
entered_same indexes id n x s none =
    let k = indexes s.admissions in
    expired_on_same id n (enter_here n k x) s
    (ap (sum_by (expired_by id)) (cyclics_entered n k x (cpu_of n s)) ∙ expired_put id x (cpu_of n s).cyclics none)

enters_same : (indexes : ℕ → ℕ) (id j : ℕ) (e : Everywhere) (ns : List ℕ) (s : State)
    → expired_in id (each (λ n u. enter indexes n (component j n e u.clock) u) ns s).state ≡ expired_in id s
enters_same indexes id j e [] s = refl
enters_same indexes id j e (n ∷ ns) s =
    enters_same indexes id j e ns (enter indexes n (component j n e s.clock) s).state
    ∙ entered_same indexes id n (component j n e s.clock) s refl

-- ---- the words

abbrev pub IsNoAdvance : Step → Type 0
IsNoAdvance (Advance now) = ⊥
IsNoAdvance _ = ⊤

module _ (texts : List (List ℕ)) (f : ℕ → ℕ) (step : ℕ) (s : State) (g : Good s) (id : ℕ) where
  pub calm_expired : (x : Step) → IsNoAdvance x → refusal_of plain x s ≡ None
      → expired_in id (does plain texts f step x s).state ≡ expired_in id s
  calm_expired (Add a) is why =
      let n = destination_of None s in entered_same f id n (added a s) (given a.name (On n false) s) refl
  calm_expired (Omni a) is why =
      let t = given a.name (OnAll (everywhere a)) s in enters_same f id (s.last_id + 1) (everywhere a) (cpus_online t) t
  calm_expired (Bind b) is why = ap (λ (c : Counts). c.expired) ((safe_does texts f step (Bind b) s tt g why).counts id)
  calm_expired (Unbind name) is why = refl
  calm_expired (Reprogram r) is why =
      let n = cpu_meant r.cpu (id_of r.name s) s in
      expired_on_same id n (reprogram_here (id_of r.name s) (magnitude r.moment)) s
      (expired_moment id (id_of r.name s) (magnitude r.moment) (cpu_of n s).cyclics)
  calm_expired (Remove name) is why = ap (λ (c : Counts). c.expired) (counts_removed name s g why step (text_in texts name) id)
  calm_expired (Advance now) is why = absurd is
  calm_expired (Softint i) is why =
      let o = interrupt step i s in
      ap (λ (c : Counts). c.expired)
      (counts_polls texts step (leaving_ids o.state) o.state (well_interrupt step i s g why).1 id)
      ∙ expired_on_same id i.cpu (serve_here i.cpu i.level i.budget) s
      (ap (λ cs. sum_by (expired_by id) cs) (same_serve i.cpu i.budget i.level (cpu_of i.cpu s)).cyclics)
  calm_expired (Juggle n) is why = ap (λ (c : Counts). c.expired) ((safe_does texts f step (Juggle n) s tt g why).counts id)
  calm_expired (Offline n) is why = ap (λ (c : Counts). c.expired) ((safe_does texts f step (Offline n) s tt g why).counts id)
  calm_expired (Online n) is why = ap (λ (c : Counts). c.expired) ((safe_does texts f step (Online n) s tt g why).counts id)
  calm_expired Suspend is why = refl
  calm_expired Resume is why = refl
