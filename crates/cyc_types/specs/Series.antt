-- The series of a cyclic's expirations, in closed form. Moments and intervals are numbers of nanoseconds.
use Rattle.std.specs.Prelude.{ℕ, ◌+◌, ◌*◌, ◌-◌, ◌/◌, ◌<◌, ◌≤◌, ◌^◌, nat_lt, eqb, cond, min}

-- the last moment, which is never due (`CY_INFINITY` of sys/cyclic.h)
abbrev pub never : ℕ
never = 2 ^ 63 - 1

-- a cyclic that is more than a second late skips what it missed (our own rule)
abbrev pub late : ℕ
late = 1000000000

-- the first expiration of a cyclic that is added now with interval t: its start, and with start 0 the first multiple of t
-- above now (`cyclic_add_here` of cyclic.c)
abbrev pub first : ℕ → ℕ → ℕ → ℕ
first start t now = cond (eqb start 0) (min ((now / t + 1) * t) never) start

-- how many times a cyclic with expiration e and interval t expires when it is fired now: once where it is more than a
-- second late, else once for each moment e, e + t, .. up to now (`cyclic_fire` of cyclic.c)
abbrev pub due : ℕ → ℕ → ℕ → ℕ
due e t now = cond (nat_lt now e) 0 (cond (nat_lt (e + t + late) now) 1 ((now - e) / t + 1))

-- the expiration that the fire leaves: the first moment of e + t, e + 2t, .. above now, and at most never
abbrev pub next : ℕ → ℕ → ℕ → ℕ
next e t now = cond (nat_lt now e) e (min (e + ((now - e) / t + 1) * t) never)

-- the moment k of the series from e on, t apart, is its first above now after e itself
abbrev pub IsFirstAbove : ℕ → ℕ → ℕ → ℕ → Type 0
IsFirstAbove e t now k = (0 < k) × (now < e + k * t) × ((j : ℕ) → 0 < j → now < e + j * t → k ≤ j)
