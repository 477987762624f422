-- A number of the caller's behind a pointer that may be null.
use Rattle.std.specs.Prelude.{◌≡◌, ℕ, Option, Some, None, IfSome}
use Rattle.std.specs.Borrow.{Fml, full_share, u64}
use base.Fml.{feq}
use denote.RawPtr.{Ptr, null_ptr, lies_at}
use Rattle.cyclic_c.specs.declared.out_parameter.OutParameter.{OutParameter}

-- what is behind a pointer: nothing where it is null, and else the number
abbrev pub number_behind : Ptr → Option ℕ → Fml
number_behind p None = feq Ptr p null_ptr
number_behind p (Some n) = lies_at u64 full_share p n

abbrev pub pointer_of : Option OutParameter → Ptr
pointer_of None = null_ptr
pointer_of (Some p) = p.at

abbrev pub number_out : Option OutParameter → Option ℕ
number_out None = None
number_out (Some p) = Some p.number

-- the number is there, where there is where to
abbrev pub LeavesNumber : ℕ → Option ℕ → Type 0
LeavesNumber n m = IfSome m (λ k. k ≡ n)
