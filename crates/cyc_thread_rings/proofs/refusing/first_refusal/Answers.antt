use Rattle.std.proofs.Common.{◌≡◌, ℕ, ◌+◌, List, [], ◌∷◌, ◌++◌, Option, None, Some, refl, sym, ap, ◌∙◌, drop}
use Rattle.std.proofs.lemmas.List.{append_assoc, drop_all, drop_more}
use Rattle.cyc_types.specs.declared.refusal.Refusal.{Refusal}
use Rattle.cyc_workers.specs.declared.draining.Drained.{Drained}
use Rattle.cyc_thread_rings.specs.declared.levels.Levels.{Levels}
use Rattle.cyc_thread_rings.specs.declared.refusing.Fire.{Fire}
use Rattle.cyc_thread_rings.specs.Refusing.{of_fire, of_level, refusals_from, first_in}
use Rattle.cyc_thread_rings.proofs.refusing.first_refusal.Goals as goal

none_first : (es rest : List Refusal) → None ≡ first_in es → first_in (es ++ rest) ≡ first_in rest
none_first [] rest e = refl
none_first (w ∷ es) rest e = absurd (cc e)

some_first : (w : Refusal) (es rest : List Refusal) → Some w ≡ first_in es → first_in (es ++ rest) ≡ Some w
some_first w [] rest e = absurd (cc e)
some_first w (v ∷ es) rest e = sym e

-- the refusals of a CPU, before those of the CPUs after it
module _ {D C : Type 0} (n : ℕ) (fire : Option Fire) (ds ds' : List (Levels (Drained D C))) (d : Levels (Drained D C))
    (e : ds ≡ d ∷ ds') where
  split : first_in (refusals_from n fire ds)
      ≡ first_in ((of_fire n fire ++ (of_level d.lock.refused ++ of_level d.low.refused)) ++ refusals_from (n + 1) fire ds')
  split =
      let rest = refusals_from (n + 1) fire ds' in let lock = of_level d.lock.refused in let low = of_level d.low.refused in
      ap (λ (zs : List _). first_in (refusals_from n fire zs)) e
      ∙ ap (λ (zs : List _). first_in (of_fire n fire ++ zs)) (sym (append_assoc lock low rest))
      ∙ ap (λ (zs : List _). first_in zs) (sym (append_assoc (of_fire n fire) (lock ++ low) rest))

  passed : None ≡ first_in (of_fire n fire ++ (of_level d.lock.refused ++ of_level d.low.refused))
      → first_in (refusals_from n fire ds) ≡ first_in (refusals_from (n + 1) fire ds')
  passed none = split ∙ none_first _ (refusals_from (n + 1) fire ds') none

  found : (w : Refusal) → Some w ≡ first_in (of_fire n fire ++ (of_level d.lock.refused ++ of_level d.low.refused))
      → first_in (refusals_from n fire ds) ≡ Some w
  found w some = split ∙ some_first w _ (refusals_from (n + 1) fire ds') some

pub loop-cpu-init : goal.loop-cpu-init
loop-cpu-init g c = refl

pub loop-cpu-preserved : goal.loop-cpu-preserved
loop-cpu-preserved g c =
    let ds = c.args.drained.now in let d = c.index-drained-cpu.result in let n = c.loop-cpu.cpu in
    sym (passed n c.args.fire.now (drop n ds) (drop (n + 1) ds) d
    (drop_more ds n d c.loop-cpu-test.true ∙ ap (λ x. x ∷ drop (n + 1) ds) (sym c.index-drained-cpu.is))
    (sym c.in_default.is ∙ c.cpu_refusal.ensures)) ∙ c.loop-cpu.invariant

pub returns-in-Some : goal.returns-in-Some
returns-in-Some g c =
    let ds = c.args.drained.now in let d = c.index-drained-cpu.result in let n = c.loop-cpu.cpu in
    sym (found n c.args.fire.now (drop n ds) (drop (n + 1) ds) d
    (drop_more ds n d c.loop-cpu-test.true ∙ ap (λ x. x ∷ drop (n + 1) ds) (sym c.index-drained-cpu.is))
    c.in-Some.why c.in-Some.ensures) ∙ c.loop-cpu.invariant

pub returns : goal.returns
returns g c =
    ap (λ (zs : List _). first_in (refusals_from c.loop-cpu.cpu c.args.fire.now zs))
    (sym (drop_all c.loop-cpu.cpu c.args.drained.now c.loop-cpu-test.false)) ∙ c.loop-cpu.invariant
