-- A cyclic gets another moment, and a cyclic leaves.
use Rattle.std.proofs.Common.{◌≡◌, ℕ, List, [], ◌∷◌, map, find, Bool, true, false, not, cond, Option, Some, None, refl, ap, sym}
use Rattle.std.proofs.Common.{◌∙◌, subst}
use Rattle.std.specs.Prelude.{slice_set}
use Rattle.std.specs.Option.{option_map_or}
use Rattle.cyc_types.specs.Series.{never}
use Rattle.cyc_types.specs.Firing.{FiringCall, Loads, Marks, Polls}
use Rattle.cyc_types.specs.declared.firing.Sent.{Sent}
use Rattle.cyc_types.specs.declared.level.Level.{Level}
use Rattle.cyc_types.specs.declared.level.Level.TheVariants.{Low, Lock, High}
use Rattle.cyc_level.specs.declared.Event.TheVariants.{Mark, Clear}
use Rattle.cyc_core.specs.Tables.{Tables}
use Rattle.cyc_timers.specs.Rows.{Cyclic as Timed}
use Rattle.cyc_timers.specs.Acts.{same_level}
use Rattle.cyc_cpu.specs.Cpu.{CpuView, HasRisingCyclics, IsCyclic, with_moment as timed_with}
use Rattle.cyc_cpu.specs.Removal.{Leaves, Opens}
use Rattle.cyc_cpu.specs.Soft.{raise_tables}
use Rattle.cyc_model.specs.Acts.{at_own}
use Rattle.cyc_model.specs.Cpu.{CyclicState, Cpu, happen, is_of, handler_level_of, others, cyclic_at}
use Rattle.cyc_model.specs.Moving.{moment_at, take_here, reprogram_here, mark_here, clear_here}
use Rattle.cyc_system_model.specs.ShownCpu.{shown_cyclic, shown_cpu}
use Rattle.cyc_system_model.proofs.CpuLists.{find_shown, left_shown, moved_shown}
use Rattle.cyc_system_model.proofs.Levels.{marked_level, cleared_level, ended_level, taken_level, own_cpu, where_own}

-- the level of the cyclic of this id
pub level_found : (online : Bool) (k id : ℕ) (x : Timed) (v : CpuView Tables) → HasRisingCyclics v.cyclics
    → IsCyclic v.cyclics k x → x.timer.id ≡ id
    → handler_level_of id (shown_cpu online v) ≡ x.timer.level
level_found online k id x v rising is named =
    ap (λ (o : Option CyclicState). option_map_or (λ y. y.timer.level) o High)
    (subst (λ i. find (is_of i) (map shown_cyclic v.cyclics) ≡ Some (shown_cyclic x)) named (find_shown v.cyclics k x rising is))

-- ---- another moment

abbrev pub level_in : Option CyclicState → Level
level_in o = option_map_or (λ y. y.timer.level) o High

same_level_at : (id moment : ℕ) (y : CyclicState) (ys : List CyclicState) (b : Bool) → is_of id y ≡ b
    → level_in (find (is_of id) (map (moment_at id moment) ys)) ≡ level_in (find (is_of id) ys)
    → level_in (cond (is_of id (cond b (cyclic_at moment y) y)) (Some (cond b (cyclic_at moment y) y))
    (find (is_of id) (map (moment_at id moment) ys)))
    ≡ level_in (cond b (Some y) (find (is_of id) ys))
same_level_at id moment y ys true is rest =
    ap (λ b. level_in (cond b (Some (cyclic_at moment y)) (find (is_of id) (map (moment_at id moment) ys)))) is
same_level_at id moment y ys false is rest =
    ap (λ b. level_in (cond b (Some y) (find (is_of id) (map (moment_at id moment) ys)))) is ∙ rest

-- another moment changes no level
level_moved : (id moment : ℕ) (ys : List CyclicState)
    → level_in (find (is_of id) (map (moment_at id moment) ys)) ≡ level_in (find (is_of id) ys)
level_moved id moment [] = refl
level_moved id moment (y ∷ ys) = same_level_at id moment y ys (is_of id y) refl (level_moved id moment ys)

others_at : (id moment : ℕ) (y : CyclicState) (rest rest' : List CyclicState) (b : Bool) → is_of id y ≡ b → rest ≡ rest'
    → cond (not (is_of id (cond b (cyclic_at moment y) y))) (cond b (cyclic_at moment y) y ∷ rest) rest
    ≡ cond (not b) (y ∷ rest') rest'
others_at id moment y rest rest' true is same = ap (λ b. cond (not b) (cyclic_at moment y ∷ rest) rest) is ∙ same
others_at id moment y rest rest' false is same = ap (λ b. cond (not b) (y ∷ rest) rest) is ∙ ap (λ ys. y ∷ ys) same

-- nor any other cyclic
others_moved : (id moment : ℕ) (ys : List CyclicState) → others id (map (moment_at id moment) ys) ≡ others id ys
others_moved id moment [] = refl
others_moved id moment (y ∷ ys) = others_at id moment y _ _ (is_of id y) refl (others_moved id moment ys)

pub reprogrammed : (n id moment k : ℕ) (online : Bool) (x : Timed) (v w : CpuView Tables) → HasRisingCyclics v.cyclics
    → IsCyclic v.cyclics k x → x.timer.id ≡ id
    → w ≡ record v { cyclics = slice_set v.cyclics k (timed_with moment x) }
    → shown_cpu online w ≡ (reprogram_here id moment (shown_cpu online v)).cpu
reprogrammed n id moment k online x v w rising is named e =
    let cyclics : map shown_cyclic (slice_set v.cyclics k (timed_with moment x)) ≡ map (moment_at id moment) (map shown_cyclic
    v.cyclics) =
    moved_shown v.cyclics k moment x rising is ∙ ap (λ i. map (moment_at i moment) (map shown_cyclic v.cyclics)) named in
    ap (shown_cpu online) e ∙ (λ z. record (shown_cpu online v) { cyclics = cyclics z })

-- ---- a removal begins

abbrev pub marked_cpu : Level → ℕ → Cpu → Cpu
marked_cpu level id c = record c {
  cyclics = map (moment_at id never) c.cyclics;
  removal = Some id;
  lock = where_own (same_level Lock level) (Mark id) c.lock;
  low = where_own (same_level Low level) (Mark id) c.low;
}

-- what the mark leaves, where the level is known
pub mark_as : (n id : ℕ) (level : Level) (c : Cpu) → handler_level_of id c ≡ level
    → (mark_here n id c).cpu ≡ marked_cpu level id c
mark_as n id level c is =
    ap (λ l. happen (at_own n l (Mark id)) (record c { cyclics = map (moment_at id never) c.cyclics; removal = Some id })) is
    ∙ own_cpu level n (Mark id) (record c { cyclics = map (moment_at id never) c.cyclics; removal = Some id })

pub opened : (n id kept : ℕ) (online : Bool) (v w : CpuView Tables) → HasRisingCyclics v.cyclics → Opens raise_tables id kept v w
    → shown_cpu online w ≡ (mark_here n id (shown_cpu online v)).cpu
opened n id kept online v w rising o =
    let level = o.cyclic.timer.level in
    let cyclics : map shown_cyclic w.cyclics ≡ map (moment_at id never) (map shown_cyclic v.cyclics) =
    ap (map shown_cyclic) o.cyclics ∙ moved_shown v.cyclics o.position never o.cyclic rising o.here
    ∙ ap (λ i. map (moment_at i never) (map shown_cyclic v.cyclics)) o.named in
    let lock = marked_level (same_level Lock level) id kept v.lock w.lock o.goes.0 in
    let low = marked_level (same_level Low level) id kept v.low w.low o.goes.1 in
    (λ z. record { online = online; cyclics = cyclics z; size = o.size z; removal = o.removal z; lock = lock z; low = low z })
    ∙ sym (mark_as n id level (shown_cpu online v) (level_found online o.position id o.cyclic v rising o.here o.named))

-- ---- a removal ends

abbrev pub cleared_cpu : Level → ℕ → Cpu → Cpu
cleared_cpu level id c = record c {
  cyclics = others id c.cyclics;
  removal = None;
  lock = where_own (same_level Lock level) (Clear id) c.lock;
  low = where_own (same_level Low level) (Clear id) c.low;
}

pub clear_as : (n id : ℕ) (level : Level) (c : Cpu) → handler_level_of id c ≡ level
    → (clear_here n id c).cpu ≡ cleared_cpu level id c
clear_as n id level c is =
    ap (λ l. happen (at_own n l (Clear id)) (record c { cyclics = others id c.cyclics; removal = None })) is
    ∙ own_cpu level n (Clear id) (record c { cyclics = others id c.cyclics; removal = None })

-- the cyclics without the one that left
pub left_as : (id : ℕ) (way : List FiringCall) (x : Timed) (v w : CpuView Tables) → HasRisingCyclics v.cyclics
    → Leaves raise_tables id way x v w
    → map shown_cyclic w.cyclics ≡ others id (map shown_cyclic v.cyclics)
left_as id way x v w rising l =
    ap (map shown_cyclic) l.cyclics ∙ left_shown v.cyclics l.position x rising l.here
    ∙ ap (λ i. others i (map shown_cyclic v.cyclics)) l.named

pub cleared : (n id : ℕ) (online : Bool) (counts : Sent) (x : Timed) (v w : CpuView Tables) → HasRisingCyclics v.cyclics
    → Leaves raise_tables id (Polls id (Some counts) ∷ []) x v w → shown_cpu online w ≡ (clear_here n id (shown_cpu online v)).cpu
cleared n id online counts x v w rising l =
    let level = x.timer.level in
    let cyclics = left_as id _ x v w rising l in
    let lock = cleared_level (same_level Lock level) id counts v.lock w.lock l.goes.0 in
    let low = cleared_level (same_level Low level) id counts v.low w.low l.goes.1 in
    (λ z. record { online = online; cyclics = cyclics z; size = l.size z; removal = l.removal z; lock = lock z; low = low z })
    ∙ sym (clear_as n id level (shown_cpu online v) (level_found online l.position id x v rising l.here l.named))

-- a removal that is done at once
pub ended : (n id : ℕ) (online : Bool) (counts : Sent) (x : Timed) (v w : CpuView Tables) → HasRisingCyclics v.cyclics
    → Leaves raise_tables id (Marks id 0 ∷ Polls id (Some counts) ∷ []) x v w
    → shown_cpu online w ≡ (clear_here n id (mark_here n id (shown_cpu online v)).cpu).cpu
ended n id online counts x v w rising l =
    let level = x.timer.level in
    let c = shown_cpu online v in
    let here = level_found online l.position id x v rising l.here l.named in
    let cyclics : map shown_cyclic w.cyclics ≡ others id (map (moment_at id never) (map shown_cyclic v.cyclics)) =
    left_as id _ x v w rising l ∙ sym (others_moved id never (map shown_cyclic v.cyclics)) in
    let lock = ended_level (same_level Lock level) id counts v.lock w.lock l.goes.0 in
    let low = ended_level (same_level Low level) id counts v.low w.low l.goes.1 in
    (λ z. record { online = online; cyclics = cyclics z; size = l.size z; removal = l.removal z; lock = lock z; low = low z })
    ∙ sym (clear_as n id level (marked_cpu level id c) (level_moved id never (map shown_cyclic v.cyclics) ∙ here))
    ∙ ap (λ d. (clear_here n id d).cpu) (sym (mark_as n id level c here))

-- ---- a move takes it

abbrev pub own_marked : Level → ℕ → Cpu → Cpu
own_marked level id c = record c {
  lock = where_own (same_level Lock level) (Mark id) c.lock;
  low = where_own (same_level Low level) (Mark id) c.low;
}

abbrev pub without : ℕ → Cpu → Cpu
without id c = record c { cyclics = others id c.cyclics }

pub take_as : (n id : ℕ) (level : Level) (c : Cpu) → handler_level_of id c ≡ level
    → (take_here n id c).cpu ≡ happen (at_own n level (Clear id)) (without id (own_marked level id c))
take_as n id level c is =
    ap (λ d. happen (at_own n (handler_level_of id d) (Clear id)) (without id d))
    (ap (λ l. happen (at_own n l (Mark id)) c) is ∙ own_cpu level n (Mark id) c)
    ∙ ap (λ l. happen (at_own n l (Clear id)) (without id (own_marked level id c))) is

pub taken : (n id : ℕ) (online : Bool) (counts : Sent) (x : Timed) (v w : CpuView Tables) → HasRisingCyclics v.cyclics
    → v.removal ≡ None
    → Leaves raise_tables id (Loads id 0 ∷ Marks id 0 ∷ Polls id (Some counts) ∷ []) x v w
    → shown_cpu online w ≡ (take_here n id (shown_cpu online v)).cpu
taken n id online counts x v w rising still l =
    let level = x.timer.level in
    let c = shown_cpu online v in
    let here = level_found online l.position id x v rising l.here l.named in
    let cyclics = left_as id _ x v w rising l in
    let removal = l.removal ∙ sym still in
    let lock = taken_level (same_level Lock level) id counts v.lock w.lock l.goes.0 in
    let low = taken_level (same_level Low level) id counts v.low w.low l.goes.1 in
    (λ z. record { online = online; cyclics = cyclics z; size = l.size z; removal = removal z; lock = lock z; low = low z })
    ∙ sym (own_cpu level n (Clear id) (without id (own_marked level id c)))
    ∙ sym (take_as n id level c here)
