-- One step of the walk.
use Rattle.std.proofs.Common.{◌≡◌, ℕ, ◌+◌, ◌<◌, Option, Some, None, List, All, length, get_or, refl, sym, ap}
use Rattle.std.proofs.Common.{◌∙◌, subst, arith}
use Rattle.std.specs.Prelude.{remove}
use Rattle.std.specs.List.{slice_get}
use Rattle.std.proofs.lemmas.List.{get_or_default, get_or-map, length-map}
use Rattle.std.proofs.lemmas.List.Edits.{get_or-remove_below, get_or-remove_above, length-remove}
use Rattle.std.proofs.lemmas.Option.{slice_get_within, get_or_from_slice_get}
use Rattle.cyc_cpu.specs.Cpu.{CpuView, IsCyclic, IsAt, Rises, IsPassed, ComesAfter, IsNextAfter}
use Rattle.cyc_cpu.specs.Rows.{Cyclic}
use Rattle.cyc_cpu.proofs.Walks.{IsWalk, walk_more, walk_next, walk_on}
use Rattle.cyc_agreement.specs.Cpus.{CpusView, IsCpu}
use Rattle.cyc_agreement.specs.System.{ids_on}
use Rattle.cyc_system.specs.declared.turning.Turn.{Turn}
use Rattle.cyc_system.specs.declared.turning.Turn.TheVariants.{StaysBound, StaysPending, StaysRefused, Moves}
use Rattle.cyc_agreement.proofs.Spots.{get_some}
use Rattle.cyc_agreement.proofs.Shifted.{Rise}
use Rattle.cyc_system.proofs.Stepped.{ids_after}
use Rattle.cyc_system.proofs.Places.{id_there, length_is}
use Rattle.cyc_agreement.proofs.Who.{id_in, ids_there}

-- the position of the next cyclic among those that are still there
abbrev pub next_position : Option Turn → ℕ → ℕ
next_position None position = position + 1
next_position (Some StaysBound) position = position + 1
next_position (Some StaysPending) position = position + 1
next_position (Some StaysRefused) position = position + 1
next_position (Some Moves) position = position

-- a walk by rising ids
abbrev pub WalksOver : List ℕ → Option ℕ → ℕ → Type 0
WalksOver ids passed position = IsWalk (λ (id : ℕ). id) ids passed position

pub rises_too : (ids : List ℕ) → Rise ids → Rises (λ (id : ℕ). id) ids
rises_too ids rise i j d less low =
    let a = get_or_default ids i d 0 (omega (arith, less, low)) in let b = get_or_default ids j d 0 low in
    let r = rise i j less low in omega (arith, a, b, r)

at_spot : (ids : List ℕ) (position id : ℕ) → slice_get ids position ≡ Some id → IsAt (λ (own : ℕ). own) ids id position
at_spot ids position id spot = record {
  in_range = slice_get_within ids position id spot;
  has_id = λ d. get_or_from_slice_get ids position id d spot;
}

-- the walk goes on past an id that stays
pub walks_past : (ids : List ℕ) (passed : Option ℕ) (position id : ℕ) → Rise ids → slice_get ids position ≡ Some id
    → WalksOver ids passed position → WalksOver ids (Some id) (position + 1)
walks_past ids passed position id rise spot walk =
    walk_more (λ (own : ℕ). own) ids passed position walk (rises_too ids rise) id (position + 1)
    (at_spot ids position id spot) refl

-- and past one that has gone
pub walks_without : (ids : List ℕ) (passed : Option ℕ) (position id : ℕ) → Rise ids → slice_get ids position ≡ Some id
    → WalksOver ids passed position → WalksOver (remove ids position) (Some id) position
walks_without ids passed position id rise spot walk =
    let on = walks_past ids passed position id rise spot walk in
    let low = slice_get_within ids position id spot in let l = length-remove ids position low in record {
      seen = λ k d less within.
          subst (IsPassed (Some id)) (sym (get_or-remove_below ids position d k less low))
          (on.seen k d (omega (arith, less)) (omega (arith, less, low)));
      left = λ k d past within.
          subst (ComesAfter (Some id)) (sym (get_or-remove_above ids position d k past low))
          (on.left (k + 1) d (omega (arith, past)) (omega (arith, within, l)));
    }

pub walks_on : (turn : Option Turn) (ids : List ℕ) (passed : Option ℕ) (position id : ℕ) → Rise ids
    → slice_get ids position ≡ Some id
    → WalksOver ids passed position → WalksOver (ids_after turn position ids) (Some id) (next_position turn position)
walks_on None ids passed position id rise spot walk = walks_past ids passed position id rise spot walk
walks_on (Some StaysBound) ids passed position id rise spot walk = walks_past ids passed position id rise spot walk
walks_on (Some StaysPending) ids passed position id rise spot walk = walks_past ids passed position id rise spot walk
walks_on (Some StaysRefused) ids passed position id rise spot walk = walks_past ids passed position id rise spot walk
walks_on (Some Moves) ids passed position id rise spot walk = walks_without ids passed position id rise spot walk

-- what a CPU answers is the id at the position of the walk
module _ {R : Type 0} (v : CpusView R) (n : ℕ) (cpu : CpuView R) (at : IsCpu n cpu v) (passed : Option ℕ) (position : ℕ)
    (walk : WalksOver (ids_on n v) passed position) (low : position < length (ids_on n v)) where
  -- the walk over the cyclics
  by_cyclics : IsWalk (λ (c : Cyclic). c.timer.id) cpu.cyclics passed position
  by_cyclics = let ids = ids_there v n cpu cpu at in let l = length-map cpu.cyclics id_in in record {
    seen = λ k d less within.
        subst (IsPassed passed)
        (ap (λ xs. get_or xs k d.timer.id) ids ∙ get_or-map id_in cpu.cyclics k d d.timer.id within)
        (walk.seen k d.timer.id less (let e = ap length ids in omega (arith, within, e, l)));
    left = λ k d past within.
        subst (ComesAfter passed)
        (ap (λ xs. get_or xs k d.timer.id) ids ∙ get_or-map id_in cpu.cyclics k d d.timer.id within)
        (walk.left k d.timer.id past (let e = ap length ids in omega (arith, within, e, l)));
  }

  low_cyclics : position < length cpu.cyclics
  low_cyclics = let l = length_is v n cpu at in omega (arith, l, low)

  pub some_next : ¬ All (λ c. IsPassed passed c.timer.id) cpu.cyclics
  some_next = let (c, is) = get_some cpu.cyclics position low_cyclics in
      walk_on (λ (x : Cyclic). x.timer.id) cpu.cyclics passed position by_cyclics c low_cyclics

  pub next_spot : (id : ℕ) → ((k : ℕ) × (c : Cyclic) × IsCyclic cpu.cyclics k c × (c.timer.id ≡ id)
      × IsNextAfter (λ x. x.timer.id) cpu.cyclics passed k) → slice_get (ids_on n v) position ≡ Some id
  next_spot id (k, c, is, named, next) =
      let here = walk_next (λ (x : Cyclic). x.timer.id) cpu.cyclics passed position by_cyclics k c low_cyclics next in
      id_there v n cpu at position id low
      (λ d is_d. sym named
      ∙ ap (λ (x : Cyclic). x.timer.id) (sym is.1 ∙ get_or_default cpu.cyclics k c d is.0 ∙ ap (λ j. get_or cpu.cyclics j d) here
      ∙ is_d.1))
