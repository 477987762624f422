-- No call of a system makes a CPU come or go.
use Rattle.std.proofs.Common.{◌≡◌, ◌∙◌, List, [], ◌∷◌, length, sym, ap}
use Rattle.std.specs.List.{FoldsTo}
use Rattle.std.proofs.lemmas.List.{length-set}
use Rattle.cyc_types.specs.declared.Raise.{Ghosts as Raise}
use Rattle.cyc_agreement.specs.Cpus.{CpusView}
use Rattle.cyc_system.specs.System.{SystemView}
use Rattle.cyc_system.specs.Calls.{SystemCall, Changes}
use Rattle.cyc_system_laws.specs.Parts.{CpusCall, OnCpu, SetOnline, DoesPart}
use Rattle.cyc_system_laws.proofs.Pieces.{made_of}

module _ {R : Type 0} (firing : Raise R) where
  part_long : (p : CpusCall) (v w : CpusView R) → DoesPart firing v p w → length w.cpus ≡ length v.cpus
  part_long (OnCpu c) v w d = ap (λ (u : CpusView R). length u.cpus) d.rest ∙ length-set v.cpus c.cpu d.after
  part_long (SetOnline n online) v w e = ap (λ (u : CpusView R). length u.cpus) e

  parts_long : (way : List CpusCall) (v w : CpusView R) → FoldsTo (DoesPart firing) v way w → length w.cpus ≡ length v.cpus
  parts_long [] v w e = ap (λ (u : CpusView R). length u.cpus) (sym e)
  parts_long (p ∷ way) v w (u, first, rest) = parts_long way u w rest ∙ part_long p v u first

  pub changes_long : (s t : SystemView R) (call : SystemCall) → Changes firing s call t
      → length t.cpus.cpus ≡ length s.cpus.cpus
  changes_long s t call d = let m = made_of firing s t call d in parts_long m.way s.cpus t.cpus m.works
