-- The expirations of one fire, from the closed forms alone.
use Rattle.std.specs.Prelude.{◌≡◌, ℕ, zero, suc, ◌+◌, ◌*◌, ◌==◌, nat_lt, nat_le, Bool, true, cond, ◌&&◌, ◌||◌, List, [], ◌∷◌, map}
use Rattle.std.specs.Prelude.{flat_map, count_by}
use Rattle.cyc_types.specs.Series.{due, next}
use Rattle.cyc_types.specs.Timers.{Timer}

-- one expiration: its moment, and the id of its cyclic
pub record Expiration : Type 0 where
  pub moment : ℕ
  pub id : ℕ

-- p comes no later than q: it has the earlier moment, or the same one and no greater id (`cyclic_upheap` compares the
-- moments; the order of equal ones is our own rule)
abbrev pub is_before : Expiration → Expiration → Bool
is_before p q = nat_lt p.moment q.moment || ((p.moment == q.moment) && nat_le p.id q.id)

-- an expiration put in before the first that it comes no later than
abbrev pub put_in_order : Expiration → List Expiration → List Expiration
put_in_order p [] = p ∷ []
put_in_order p (q ∷ qs) = cond (is_before p q) (p ∷ q ∷ qs) (q ∷ put_in_order p qs)

-- expirations in ascending order
abbrev pub ascending : List Expiration → List Expiration
ascending [] = []
ascending (p ∷ ps) = put_in_order p (ascending ps)

-- n expirations of a cyclic, from the moment e on, t apart
abbrev pub series : ℕ → ℕ → ℕ → ℕ → List Expiration
series id e t zero = []
series id e t (suc n) = (record { moment = e; id = id }) ∷ series id (e + t) t n

-- the expirations of one cyclic that are due
unfoldable pub due_of : ℕ → Timer → List Expiration
due_of now t = series t.id t.moment t.interval (due t.moment t.interval now)

-- the expirations of one fire: those of all cyclics that are due, in ascending order (`cyclic_fire`)
unfoldable pub expirations : ℕ → List Timer → List Expiration
expirations now ts = ascending (flat_map (due_of now) ts)

-- how many of these are the cyclic's
abbrev pub times_of : ℕ → List Expiration → ℕ
times_of id made = count_by (λ p. p.id == id) made

-- the moment of a cyclic after j of its expirations in a fire at now: where they were all that were due, the next one
abbrev pub moment_after_some : ℕ → ℕ → ℕ → ℕ → ℕ
moment_after_some e t now j = cond (j == 0) e (cond (j == due e t now) (next e t now) (e + j * t))

-- a cyclic after these expirations of one fire
unfoldable pub after_expirations : ℕ → List Expiration → Timer → Timer
after_expirations now made t = record t {
  moment = moment_after_some t.moment t.interval now (times_of t.id made);
  expired =
      t.expired + times_of t.id made;
}

-- all cyclics after them
unfoldable pub all_after : ℕ → List Expiration → List Timer → List Timer
all_after now made ts = map (after_expirations now made) ts

-- the expiration that a cyclic comes to next
abbrev pub next_of : Timer → Expiration
next_of t = record { moment = t.moment; id = t.id }

-- p comes no later than the first of the list
abbrev pub Precedes : Expiration → List Expiration → Type 0
Precedes p [] = Unit {0}
Precedes p (q ∷ qs) = is_before p q ≡ true

-- each expiration comes no later than the one after it
abbrev pub IsAscending : List Expiration → Type 0
IsAscending [] = Unit {0}
IsAscending (p ∷ ps) = Precedes p ps × IsAscending ps
