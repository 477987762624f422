use Rattle.std.proofs.Common.{◌≡◌, List, length, sym, ap, ◌∙◌, subst, arith}
use Rattle.std.proofs.lemmas.Option.{get_or_from_slice_get, slice_get_within}
use mathlib.Core.Logic.{dite}
use native.Mathlib.Decide.{ℕ_discrete}
use Rattle.std.specs.List.{slice_get}
use Rattle.std.specs.Prelude.{Some}
use Rattle.cyc_cpu.specs.Cpu.{CpuView}
use Rattle.cyc_cpu.specs.Laws.{IsLawful}
use Rattle.cyc_agreement.specs.Cpus.{CpusView}
use Rattle.cyc_agreement.proofs.cpus.Cpus.law.Goals as goal

pub loop-hard-preserved : goal.loop-hard-preserved
loop-hard-preserved g c = λ n cpu low here. dite (ℕ_discrete n c.loop-hard.hard-index)
    (λ e. let same = c.deref-hard-items.ensures.value ∙ ap (λ (v : CpusView g.row.R.Denot). v.cpus) c.self.view_is in
    let at = subst (λ (xs : List (CpuView g.row.R.Denot)). slice_get xs c.loop-hard.hard-index ≡ Some cpu) (sym same)
    (subst (λ k. slice_get c.args.self.now.cpus k ≡ Some cpu) e here) in
    subst (λ x. IsLawful g.R.Raise.view x)
    (c.hard-item.is ∙ get_or_from_slice_get c.deref-hard-items.result.now c.loop-hard.hard-index cpu c.hard-item.result at)
    c.law.ensures)
    (λ ne. c.loop-hard.invariant n cpu (omega arith) here)

pub returns : goal.returns
returns g c = λ n cpu here. let within = slice_get_within c.args.self.now.cpus n cpu here in
    let same = ap length (c.deref-hard-items.ensures.value ∙ ap (λ (v : CpusView g.row.R.Denot). v.cpus) c.self.view_is) in
    c.loop-hard.invariant n cpu (omega arith) here
