-- Each question about a system is that about the machine that shows it.
use Rattle.std.proofs.Common.{◌≡◌, ℕ, zero, suc, ◌==◌, Bool, true, false, cond, not, List, [], ◌∷◌, length, map, find, get_or}
use Rattle.std.proofs.Common.{Option, Some, None, refl, ap, sym, ◌∙◌, subst, arith}
use Rattle.std.specs.Prelude.{◌||◌, ◌&&◌, is_some, nat_le, Result, Ok, Err}
use Rattle.std.specs.List.{slice_get, list_any}
use Rattle.std.specs.Option.{option_map, option_map_or}
use Rattle.cyc_types.specs.Limits.{last_id as greatest_id}
use Rattle.cyc_types.specs.declared.level.Level.{Level}
use Rattle.cyc_types.specs.declared.refusal.Refusal.{Refusal}
use Rattle.cyc_types.specs.declared.refusal.Refusal.TheVariants.{Memory, NoCyclic, Omnipresent, NoCpu, Offline, IdsSpent}
use Rattle.cyc_system_model.specs.Rows.{Cyclic as Timed}
use Rattle.cyc_core.specs.Tables.{Tables}
use Rattle.cyc_cpu.specs.Cpu.{CpuView}
use Rattle.cyc_places.specs.declared.record.Placement.{Placement as RecordPlacement}
use Rattle.cyc_places.specs.declared.record.Placement.TheVariants as placements
use Rattle.cyc_places.specs.declared.record.Record.{Record}
use Rattle.cyc_places.specs.Places.{HasRisingIds, is_everywhere as everywhere_in}
use Rattle.cyc_system.specs.System.{SystemView, ids_of, is_leaving_here, record_of, is_unknown as unknown_in}
use Rattle.cyc_system.specs.System.{is_leaving as leaving_in, is_omnipresent as omnipresent_in}
use Rattle.cyc_system.specs.Refusals as why
use Rattle.cyc_system.specs.Binding.{HasPlacement, HasHome}
use Rattle.cyc_system.proofs.Recording.{record_here}
use Rattle.cyc_model.specs.Cpu.{Cpu, is_of, has_cyclic}
use Rattle.cyc_model.specs.State.{State, Placement, Placed, absent}
use Rattle.cyc_model.specs.Places.{placement_of, is_no_cyclic, is_being_removed, is_placed_everywhere, is_omni, is_bound_at}
use Rattle.cyc_model.specs.Places.{is_bound}
use Rattle.cyc_model.specs.Places.{home_at, home_of}
use Rattle.cyc_types.specs.Reasons.{when, or_else}
use Rattle.cyc_model.specs.Refusals.{is_no_cpu, cpu_is_offline, no_id_left}
use Rattle.cyc_model.specs.Bind.{cyclic_is_absent, cyclic_is_omni}
use Rattle.cyc_model.specs.Reprogram.{has_no_component}
use Rattle.cyc_system_model.specs.ShownCpu.{shown_cyclic}
use Rattle.cyc_system_model.specs.Answers.{IsRefused}
use Rattle.cyc_system_model.specs.Shown.{shown_list, shown_placement, shown_record, ShowsSystem}
use Rattle.cyc_system_model.proofs.Cpus.{long_shown}

-- ---- where a cyclic is

abbrev placement_in : Option Record → Option Placement
placement_in o = option_map (λ (r : Record). shown_placement r.level r.placement) o

find_shown : (id : ℕ) (rs : List Record)
    → option_map (λ (p : Placed). p.placement) (find (λ (p : Placed). p.id == id) (map shown_record rs))
    ≡ placement_in (find (λ (r : Record). r.id == id) rs)
find_shown id [] = refl
find_shown id (r ∷ rs) = pick (r.id == id) (find_shown id rs)
  where
    pick : (b : Bool) → option_map (λ (p : Placed). p.placement) (find (λ (p : Placed). p.id == id) (map shown_record rs))
        ≡ placement_in (find (λ (q : Record). q.id == id) rs)
        → option_map (λ (p : Placed). p.placement)
        (cond b (Some (shown_record r)) (find (λ (p : Placed). p.id == id) (map shown_record rs)))
        ≡ placement_in (cond b (Some r) (find (λ (q : Record). q.id == id) rs))
    pick true rest = refl
    pick false rest = rest

pub placement_shown : (id : ℕ) (s : State) (v : SystemView Tables) → ShowsSystem s v
    → placement_of id s ≡ placement_in (record_of id v)
placement_shown id s v h =
    ap (λ ps. option_map (λ (p : Placed). p.placement) (find (λ (p : Placed). p.id == id) ps)) h.placed ∙ find_shown id v.records

is_some_in : (o : Option Record) → is_some (placement_in o) ≡ is_some o
is_some_in None = refl
is_some_in (Some r) = refl

pub unknown_shown : (id : ℕ) (s : State) (v : SystemView Tables) → ShowsSystem s v → is_no_cyclic id s ≡ unknown_in id v
unknown_shown id s v h = ap (λ o. not (is_some o)) (placement_shown id s v h) ∙ ap not (is_some_in (record_of id v))

everywhere_shown : (level : Level) (p : RecordPlacement) → is_placed_everywhere (Some (shown_placement level p)) ≡ everywhere_in p
everywhere_shown level (placements.On cpu bound) = refl
everywhere_shown level (placements.Everywhere first skew) = refl

everywhere_of : (o : Option Record) → is_placed_everywhere (placement_in o) ≡ option_map_or (λ (r : Record). everywhere_in
    r.placement) o
    false
everywhere_of None = refl
everywhere_of (Some r) = everywhere_shown r.level r.placement

pub omnipresent_shown : (id : ℕ) (s : State) (v : SystemView Tables) → ShowsSystem s v → is_omni id s ≡ omnipresent_in id v
omnipresent_shown id s v h = ap is_placed_everywhere (placement_shown id s v h) ∙ everywhere_of (record_of id v)

-- the CPU of a cyclic that is on one
pub home_shown : (id n : ℕ) (s : State) (v : SystemView Tables) → ShowsSystem s v → HasRisingIds v.records → HasHome id n v
    → home_of id s ≡ n
home_shown id n s v h rising (bound, (k, r, is, named, at)) =
    ap home_at (placement_shown id s v h ∙ ap placement_in (record_here id k r v.records rising is named))
    ∙ ap (λ p. home_at (Some (shown_placement r.level p))) at

-- whether it is bound to it
pub bound_shown : (id n : ℕ) (bound : Bool) (s : State) (v : SystemView Tables) → ShowsSystem s v → HasRisingIds v.records
    → HasPlacement id n bound v
    → is_bound id s ≡ bound
bound_shown id n bound s v h rising (k, r, is, named, at) =
    ap is_bound_at (placement_shown id s v h ∙ ap placement_in (record_here id k r v.records rising is named))
    ∙ ap (λ p. is_bound_at (Some (shown_placement r.level p))) at

-- ---- the CPUs

any_leaving : (id : ℕ) (os : List Bool) (vs : List (CpuView Tables)) → length os ≡ length vs
    → list_any (λ (c : Cpu). option_map_or (λ own. own == id) c.removal false) (shown_list os vs)
    ≡ list_any (is_leaving_here id) vs
any_leaving id [] [] long = refl
any_leaving id [] (v ∷ vs) long = absurd (omega (arith, long))
any_leaving id (o ∷ os) [] long = absurd (omega (arith, long))
any_leaving id (o ∷ os) (v ∷ vs) long =
    ap (λ b. option_map_or (λ own. own == id) v.removal false || b) (any_leaving id os vs (omega (arith, long)))

pub leaving_shown : (id : ℕ) (s : State) (v : SystemView Tables) → ShowsSystem s v → length v.cpus.online ≡ length v.cpus.cpus
    → is_being_removed id s ≡ leaving_in id v
leaving_shown id s v h long =
    ap (λ cs. list_any (λ (c : Cpu). option_map_or (λ own. own == id) c.removal false) cs) h.cpus
    ∙ any_leaving id v.cpus.online v.cpus.cpus long

pub online_at : (os : List Bool) (vs : List (CpuView Tables)) (n : ℕ) → length os ≡ length vs
    → (get_or (shown_list os vs) n absent).online ≡ option_map_or (λ (o : Bool). o) (slice_get os n) false
online_at [] [] zero long = refl
online_at [] [] (suc n) long = refl
online_at [] (v ∷ vs) n long = absurd (omega (arith, long))
online_at (o ∷ os) [] n long = absurd (omega (arith, long))
online_at (o ∷ os) (v ∷ vs) zero long = refl
online_at (o ∷ os) (v ∷ vs) (suc n) long = online_at os vs n (omega (arith, long))

pub any_id : (id : ℕ) (cs : List Timed) → list_any (is_of id) (map shown_cyclic cs)
    ≡ list_any (λ own. own == id) (map (λ (c : Timed). c.timer.id) cs)
any_id id [] = refl
any_id id (c ∷ cs) = ap (λ b. (c.timer.id == id) || b) (any_id id cs)

has_at : (id : ℕ) (os : List Bool) (vs : List (CpuView Tables)) (n : ℕ) → length os ≡ length vs
    → has_cyclic id (get_or (shown_list os vs) n absent) ≡ list_any (λ own. own == id) (option_map_or ids_of (slice_get vs n) [])
has_at id [] [] zero long = refl
has_at id [] [] (suc n) long = refl
has_at id [] (v ∷ vs) n long = absurd (omega (arith, long))
has_at id (o ∷ os) [] n long = absurd (omega (arith, long))
has_at id (o ∷ os) (v ∷ vs) zero long = any_id id v.cyclics
has_at id (o ∷ os) (v ∷ vs) (suc n) long = has_at id os vs n (omega (arith, long))

-- ---- the reasons for a refusal

module _ (s : State) (v : SystemView Tables) (h : ShowsSystem s v) (long : length v.cpus.online ≡ length v.cpus.cpus) where
  pub same_ids_spent : no_id_left s ≡ why.ids_spent v
  same_ids_spent = ap (λ n. when (nat_le greatest_id n) IdsSpent) h.last

  pub same_no_cyclic : (id : ℕ) → cyclic_is_absent id s ≡ why.no_cyclic id v
  same_no_cyclic id = λ z. when (unknown_shown id s v h z || leaving_shown id s v h long z) NoCyclic

  pub same_omnipresent : (id : ℕ) → cyclic_is_omni id s ≡ why.omnipresent id v
  same_omnipresent id = ap (λ b. when b Omnipresent) (omnipresent_shown id s v h)

  pub same_no_cpu : (n : ℕ) → is_no_cpu n s ≡ why.no_cpu n v
  same_no_cpu n = ap (λ m. when (nat_le m n) NoCpu) (ap (λ cs. length cs) h.cpus ∙ long_shown v.cpus.online v.cpus.cpus long)

  pub same_offline : (n : ℕ) → cpu_is_offline n s ≡ why.offline_cpu n v
  same_offline n = ap (λ b. when (not b) Offline)
      (ap (λ cs. (get_or cs n absent).online) h.cpus ∙ online_at v.cpus.online v.cpus.cpus n long)

  pub same_no_component : (id n : ℕ) → has_no_component id n s ≡ why.no_component id n v
  same_no_component id n = λ z. when (not (omnipresent_shown id s v h z
      && (ap (λ cs. has_cyclic id (get_or cs n absent)) h.cpus ∙ has_at id v.cpus.online v.cpus.cpus n long) z)) NoCyclic

-- ---- a refusal that is no want of memory

abbrev pub NoMemory : Option Refusal → Type 0
NoMemory None = Unit {0}
NoMemory (Some Memory) = ⊥
NoMemory (Some e) = Unit {0}

pub no_memory_when : (b : Bool) (e : Refusal) → NoMemory (Some e) → NoMemory (when b e)
no_memory_when true e other = other
no_memory_when false e other = tt

pub no_memory_else : (a b : Option Refusal) → NoMemory a → NoMemory b → NoMemory (or_else a b)
no_memory_else None b first later = later
no_memory_else (Some e) b first later = first

pub is_refused : (e : Refusal) (o : Option Refusal) → o ≡ Some e → NoMemory o → IsRefused e o
is_refused Memory o is other = absurd (subst NoMemory is other)
is_refused e o is other = is

-- where there is no earlier reason
pub later : (e : Refusal) (a b : Option Refusal) → a ≡ None → IsRefused e b → IsRefused e (or_else a b)
later e a b none is = subst (λ o. IsRefused e (or_else o b)) (sym none) is

pub or_none : (o : Option Refusal) → or_else o None ≡ o
or_none None = refl
or_none (Some e) = refl

-- the first reasons of a list where the others follow
pub append_none : (a b c : Option Refusal) → or_else a (or_else b None) ≡ None → or_else a (or_else b c) ≡ c
append_none None None c none = refl
append_none None (Some e) c none = absurd (let isnt : Some e ≡ None = none in cc)
append_none (Some e) b c none = absurd (let isnt : Some e ≡ None = none in cc)

-- the rest is none where all is
pub both_none : (a b : Option Refusal) → or_else a b ≡ None → (a ≡ None) × (b ≡ None)
both_none None b none = (refl, none)
both_none (Some e) b none = absurd (let isnt : Some e ≡ None = none in cc)

pub append_some : (e : Refusal) (a b c : Option Refusal) → or_else a (or_else b None) ≡ Some e → or_else a (or_else b c) ≡ Some e
append_some e None None c is = absurd (let isnt : None ≡ Some e = is in cc)
append_some e None (Some b) c is = is
append_some e (Some a) b c is = is

-- refused for this reason, which an earlier list gives
pub some_refused : (e : Refusal) (o p : Option Refusal) → o ≡ Some e → NoMemory o → p ≡ Some e → IsRefused e p
some_refused Memory o p is other same = absurd (subst NoMemory is other)
some_refused e o p is other same = same

abbrev error_of : (A : Type 0) → Refusal → Result A Refusal → Refusal
error_of A d (Ok x) = d
error_of A d (Err e) = e

pub same_error : (A : Type 0) (a b : Refusal) (x y : Result A Refusal) → x ≡ Err a → y ≡ Err b → x ≡ y → a ≡ b
same_error A a b x y p q is = ap (error_of A a) (sym p ∙ is ∙ q)
