-- What the threads of a run are given.
use Rattle.std.specs.Prelude.{ℕ, ◌+◌, ◌≤◌, vec_len, vec_capacity}
use Rattle.cyc_thread_rings.specs.declared.preparing.Lists.{Lists}

-- there is room for what the threads of so many CPUs more are given
pub record HasThreadRoom {E D C : Type 0} (n : ℕ) (l : Lists E D C) : Type 0 where
  pub ends : vec_len l.ends + n ≤ vec_capacity l.ends
  pub leads : vec_len l.leads + n ≤ vec_capacity l.leads
  pub drainers : vec_len l.drainers + n ≤ vec_capacity l.drainers
  pub wakers : vec_len l.wakers + n ≤ vec_capacity l.wakers
