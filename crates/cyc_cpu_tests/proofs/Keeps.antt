-- What stays of a CPU of which nothing changed.
use Rattle.std.proofs.Common.{◌≡◌, ap}
use Rattle.cyc_cpu.specs.Cpu.{CpuView}

pub same_most : {R : Type 0} (v w : CpuView R) → w ≡ v → w.most ≡ v.most
same_most {R} v w e = ap (λ (u : CpuView R). u.most) e
