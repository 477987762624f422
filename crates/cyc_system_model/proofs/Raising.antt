-- What a raise of a level that no other thread uses does to it, and what a list of raises does.
use Rattle.std.proofs.Common.{◌≡◌, ℕ, zero, suc, ◌+◌, ◌<◌, List, [], ◌∷◌, ◌++◌, Bool, true, false, cond, ◌==◌, eq-eqb, ne_eqb}
use Rattle.std.proofs.Common.{Option, None, IsSome, refl, ap, sym, ◌∙◌, subst, arith}
use Rattle.std.specs.List.{FoldsTo}
use Rattle.std.proofs.lemmas.Bool.Decides.{nat_tests}
use Rattle.cyc_types.specs.Counting.{one_at}
use Rattle.cyc_types.specs.Firing.{FiringCall, Admits, Loads, Raises, Marks, Polls, Expands, Looks}
use Rattle.cyc_types.specs.Runs.{Goes, lost_by, losses_in_call as lost_in}
use Rattle.cyc_types.specs.declared.firing.Raised.{Raised}
use Rattle.cyc_types.specs.declared.firing.Raised.TheVariants.{First, More, Lost}
use Rattle.cyc_level.specs.declared.Event.{Event}
use Rattle.cyc_level.specs.declared.Event.TheVariants.{Expire, Lose, Publish}
use Rattle.cyc_level.specs.Level.{SoftLevel, count, count_in}
use Rattle.cyc_level.specs.Events.{hand_after_expire}
use Rattle.cyc_level.proofs.Maps.{some_and, not_none}
use Rattle.cyc_core.specs.Reached.{Happens}
use Rattle.cyc_core.specs.FiringSide.{FiringDoes, events_of_raise}
use Rattle.cyc_core.specs.Tables.{Tables, level_of}
use Rattle.cyc_timers.specs.Acts.{AreRaises, loss_in, way_losses as losses_in_way}
use Rattle.cyc_cpu.specs.Soft.{raise_tables, fires}
use Rattle.cyc_model.specs.Acts.{loss_of, is_loss}
use Rattle.cyc_model.specs.Firing.{raised}
use Rattle.cyc_model.specs.Serving.{level_after}
use Rattle.cyc_model.proofs.Events.{level_append}

-- the events of the expirations of these ids at one level, in order
abbrev pub expiries : List ℕ → SoftLevel → List Event
expiries [] l = []
expiries (id ∷ ids) l = raised id l ++ expiries ids (level_after (raised id l) l)

-- the losses of one id, and of all
abbrev pub lost_of : ℕ → List Event → ℕ
lost_of id [] = 0
lost_of id (e ∷ es) = loss_of id e + lost_of id es

abbrev pub lost_all : List Event → ℕ
lost_all [] = 0
lost_all (e ∷ es) = is_loss e + lost_all es

pub lost_of_append : (id : ℕ) (xs ys : List Event) → lost_of id (xs ++ ys) ≡ lost_of id xs + lost_of id ys
lost_of_append id [] ys = omega arith
lost_of_append id (x ∷ xs) ys = let r = lost_of_append id xs ys in omega (arith, r)

pub lost_all_append : (xs ys : List Event) → lost_all (xs ++ ys) ≡ lost_all xs + lost_all ys
lost_all_append [] ys = omega arith
lost_all_append (x ∷ xs) ys = let r = lost_all_append xs ys in omega (arith, r)

-- ---- what a raise found

found_at : Bool → ℕ → Raised
found_at full n = cond full Lost (cond (n == 0) First More)

found : ℕ → SoftLevel → Raised
found id l = found_at (count l id == l.ceiling) (count l id)

lost_found : (n ceiling : ℕ) → n ≡ ceiling → Lost ≡ found_at (n == ceiling) n
unfolding found_at
lost_found n ceiling same = ap (λ b. cond b Lost (cond (n == 0) First More)) (sym (eq-eqb n ceiling same))

below_found : (n ceiling : ℕ) → n < ceiling → found_at (n == ceiling) n ≡ cond (n == 0) First More
unfolding found_at
below_found n ceiling less = ap (λ b. cond b Lost (cond (n == 0) First More)) (ne_eqb n ceiling (λ e. absurd (omega arith)))

first_found : (n id : ℕ) (hand : Option ℕ) → hand ≡ None → IsSome (hand_after_expire n id hand) → First ≡ cond (n == 0) First More
first_found zero id hand free some = refl
first_found (suc n) id hand free some = absurd (not_none hand some free)

more_found : (n id : ℕ) (hand : Option ℕ) → hand_after_expire n id hand ≡ None → More ≡ cond (n == 0) First More
more_found zero id hand none = absurd (cc)
more_found (suc n) id hand none = ap (λ b. cond b First More) (sym (ne_eqb (suc n) 0 (λ e. absurd (omega arith))))

-- the answer is what the level shows
fires_found : (id : ℕ) (a : Raised) (l m : SoftLevel) → FiringDoes l (Raises id a) m → a ≡ found id l
unfolding found found_at
fires_found id Lost l m ((j, (on, is), last), free) =
    let (c, isc, (full, room)) = some_and _ (l.cyclics id) on.2 in
    lost_found (count l id) l.ceiling (ap count_in isc ∙ full)
fires_found id First l m ((j, (on, is), (k, (published, isk), last)), free) =
    let (c, isc, (below, room)) = some_and _ (l.cyclics id) on.2 in
    let few : count l id < l.ceiling = subst (λ (n : ℕ). n < l.ceiling) (sym (ap count_in isc)) below in
    let some : IsSome (hand_after_expire (count l id) id l.firer_hand) = subst
    (λ (x : SoftLevel). IsSome x.firer_hand) is published
    in
    first_found (count l id) id l.firer_hand on.0 some ∙ sym (below_found (count l id) l.ceiling few)
fires_found id More l m ((j, (on, is), last), free) =
    let (c, isc, (below, room)) = some_and _ (l.cyclics id) on.2 in
    let few : count l id < l.ceiling = subst (λ (n : ℕ). n < l.ceiling) (sym (ap count_in isc)) below in
    more_found (count l id) id l.firer_hand (ap (λ (x : SoftLevel). x.firer_hand) (sym is)
    ∙ (ap (λ (x : SoftLevel). x.firer_hand) last ∙ free)) ∙ sym (below_found (count l id) l.ceiling few)

events_as : (full none : Bool) (id : ℕ) → events_of_raise id (cond full Lost (cond none First More))
    ≡ cond full (Lose id ∷ []) (cond none (Expire id ∷ Publish ∷ []) (Expire id ∷ []))
events_as true none id = refl
events_as false true id = refl
events_as false false id = refl

-- its events are those of the definition
raise_as : (id : ℕ) (a : Raised) (l m : SoftLevel) → FiringDoes l (Raises id a) m → events_of_raise id a ≡ raised id l
unfolding found found_at
raise_as id a l m fires =
    ap (events_of_raise id) (fires_found id a l m fires) ∙ events_as (count l id == l.ceiling) (count l id == 0) id

pub folds : (es : List Event) (l m : SoftLevel) → FoldsTo Happens l es m → m ≡ level_after es l
folds [] l m is = sym is
folds (e ∷ es) l m (j, (on, is), rest) = folds es j m rest ∙ ap (level_after es) is

raise_level : (id : ℕ) (a : Raised) (l m : SoftLevel) → FiringDoes l (Raises id a) m → m ≡ level_after (raised id l) l
raise_level id a l m fires = folds (events_of_raise id a) l m fires.0 ∙ ap (λ es. level_after es l) (raise_as id a l m fires)

all_as : (a : Raised) (id : ℕ) → lost_all (events_of_raise id a) ≡ loss_in (Raises id a)
all_as First id = refl
all_as More id = refl
all_as Lost id = refl

each_as : (a : Raised) (id j : ℕ) → lost_of j (events_of_raise id a) ≡ lost_in j (Raises id a)
each_as First id j = refl
each_as More id j = refl
each_as Lost id j = swapped id j
  where
    swapped : (m n : ℕ) → cond (m == n) 1 0 + 0 ≡ one_at n m
    swapped m n = grind (arith, nat_tests)

-- ---- a list of raises

-- these raises were these expirations
pub record Expired (ids : List ℕ) (way : List FiringCall) (l m : SoftLevel) : Type 0 where
  pub level : m ≡ level_after (expiries ids l) l
  pub lost : lost_all (expiries ids l) ≡ losses_in_way way
  pub each : (id : ℕ) → lost_of id (expiries ids l) ≡ lost_by id way

renamed_loss : (id j : ℕ) (a : Raised) → loss_in (Raises id a) ≡ loss_in (Raises j a)
renamed_loss id j First = refl
renamed_loss id j More = refl
renamed_loss id j Lost = refl

pub expired : (ids : List ℕ) (way : List FiringCall) (d e : Tables) → Goes raise_tables d way e → AreRaises ids way
    → Expired ids way (level_of d) (level_of e)
expired [] [] d e goes are = record { level = ap level_of (sym goes); lost = refl; each = λ id. refl }
expired [] (call ∷ way) d e goes are = absurd are
expired (id ∷ ids) [] d e goes are = absurd are
expired (id ∷ ids) (Raises j a ∷ way) d e (x, (step, learns), rest) (same, more) =
    let l = level_of d in
    let fired = subst (λ (k : ℕ). FiringDoes l (Raises k a) (level_of x)) same step in
    let at : level_of x ≡ level_after (raised id l) l = raise_level id a l (level_of x) fired in
    let m = level_after (raised id l) l in
    let on = subst (λ (k : SoftLevel). Expired ids way k (level_of e)) at (expired ids way x e rest more) in
    let events = raise_as id a l (level_of x) fired in
    let one : lost_all (raised id l) ≡ loss_in (Raises j a) = ap lost_all (sym events) ∙ all_as a id ∙ renamed_loss id j a in
    record {
      level = on.level ∙ sym (level_append (raised id l) (expiries ids m) l);
      lost = (let both = lost_all_append (raised id l) (expiries ids m) in let more_lost = on.lost in
          omega (arith, both, one, more_lost));
      each = λ q.
          let both = lost_of_append q (raised id l) (expiries ids m) in
          let more_lost = on.each q in
          let first : lost_of q (raised id l) ≡ lost_in q (Raises j a) = ap (lost_of q) (sym events) ∙ each_as a id q
          ∙ ap (λ k. lost_in q (Raises k a)) (sym same) in
          omega (arith, both, first, more_lost);
    }
expired (id ∷ ids) (Admits j index ∷ way) d e goes are = absurd are.0
expired (id ∷ ids) (Loads j pend ∷ way) d e goes are = absurd are.0
expired (id ∷ ids) (Marks j pend ∷ way) d e goes are = absurd are.0
expired (id ∷ ids) (Polls j answer ∷ way) d e goes are = absurd are.0
expired (id ∷ ids) (Expands bank ∷ way) d e goes are = absurd are.0
expired (id ∷ ids) (Looks answer ∷ way) d e goes are = absurd are.0
