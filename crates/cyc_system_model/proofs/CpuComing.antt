-- The size grows, and a cyclic is put in.
use Rattle.std.proofs.Common.{◌≡◌, ℕ, zero, suc, ◌+◌, ◌^◌, ◌<◌, ◌≤◌, length, map, Bool, true, false, cond, refl, ap, sym, ◌∙◌}
use Rattle.std.proofs.Common.{subst, arith}
use Rattle.std.specs.Prelude.{nat_le, nat_lt}
use Rattle.std.proofs.lemmas.Bool.Decides.{nat_tests}
use Rattle.std.proofs.lemmas.List.{length-map}
use Rattle.cyc_types.specs.Limits.{greatest_bank}
use Rattle.cyc_types.specs.declared.level.Level.{Level}
use Rattle.cyc_types.specs.declared.level.Level.TheVariants.{Low, Lock}
use Rattle.cyc_types.specs.declared.moment.When.{When}
use Rattle.cyc_level.specs.declared.Event.TheVariants.{Admit, Switch}
use Rattle.cyc_core.specs.Tables.{Tables, level_of}
use Rattle.cyc_timers.specs.Rows.{Cyclic as Timed}
use Rattle.cyc_timers.specs.Acts.{same_level}
use Rattle.cyc_cpu.specs.Cpu.{CpuView, HasRisingCyclics, Looked, Reserves, Widens, Places, size_for, bank_for, least_bank}
use Rattle.cyc_cpu.specs.Calls.{AddsHere, added_cyclic}
use Rattle.cyc_cpu.specs.Soft.{raise_tables}
use Rattle.cyc_model.specs.Cpu.{Cpu, nothing_here}
use Rattle.cyc_model.specs.Moving.{put_in, place_here, widen_here, enter_here, switch_here, least_bank as model_least}
use Rattle.cyc_model.specs.Moving.{bank_for as model_bank}
use Rattle.cyc_model.specs.Add.{begun_cyclic}
use Rattle.cyc_system_model.specs.ShownCpu.{shown_cyclic, shown_cpu}
use Rattle.cyc_system_model.proofs.CpuLists.{put_shown}
use Rattle.cyc_system_model.proofs.Levels.{only_looked, admitted_level, grown_level, own_cpu, where_own}

-- only what was seen of the ends changed
pub shown_same : (online : Bool) (v w : CpuView Tables) → w.cyclics ≡ v.cyclics → w.size ≡ v.size → w.removal ≡ v.removal
    → level_of w.lock ≡ level_of v.lock → level_of w.low ≡ level_of v.low → shown_cpu online w ≡ shown_cpu online v
shown_same online v w cyclics size removal lock low = λ z. record {
  online = online;
  cyclics = map shown_cyclic (cyclics z);
  size = size z;
  removal = removal z;
  lock = lock z;
  low = low z;
}

pub shown_looked : (online : Bool) (v w : CpuView Tables) → Looked raise_tables v w → shown_cpu online w ≡ shown_cpu online v
shown_looked online v w l = shown_same online v w l.cyclics l.kept.size l.kept.removal (only_looked v.lock w.lock l.lock)
    (only_looked v.low w.low l.low)

pub shown_reserved : (online : Bool) (more : ℕ) (v w : CpuView Tables) → Reserves raise_tables more v w
    → shown_cpu online w ≡ shown_cpu online v
shown_reserved online more v w r = shown_same online v w r.cyclics r.size r.removal (only_looked v.lock w.lock r.lock)
    (only_looked v.low w.low r.low)

-- ---- a cyclic is put in

pub placed : (n : ℕ) (online : Bool) (x : Timed) (v w : CpuView Tables) → (p : Places raise_tables x v w)
    → HasRisingCyclics w.cyclics
    → shown_cpu online w ≡ (place_here n p.index (shown_cyclic x) (shown_cpu online v)).cpu
placed n online x v w p rising =
    let cyclics = ap (map shown_cyclic) p.cyclics ∙ put_shown v.cyclics p.position x p.within (subst HasRisingCyclics p.cyclics
    rising) in
    let lock = admitted_level (same_level Lock x.timer.level) x.timer.id p.index v.lock w.lock p.lock in
    let low = admitted_level (same_level Low x.timer.level) x.timer.id p.index v.low w.low p.low in
    (λ z. record {
      online = online;
      cyclics = cyclics z;
      size = p.kept.size z;
      removal = p.kept.removal z;
      lock = lock z;
      low = low z;
    })
    ∙ sym (own_cpu x.timer.level n (Admit x.timer.id p.index)
    (record (shown_cpu online v) { cyclics = put_in (shown_cyclic x) (map shown_cyclic v.cyclics) }))

-- ---- the size grows

same_least : (more k n : ℕ) → model_least more k n ≡ least_bank more k n
same_least zero k n = refl
same_least (suc more) k n = ap (cond (nat_le n (2 ^ k)) k) (same_least more (k + 1) n)

same_bank : (n : ℕ) → model_bank n ≡ bank_for n
same_bank n = same_least greatest_bank 0 n

-- whether it grows, by either test
grow_test : (size n : ℕ) (b : Bool) → nat_lt size n ≡ b → size_for size n ≡ cond b (2 ^ bank_for n) size
grow_test size n true is = ap (λ c. cond c size (2 ^ bank_for n)) (far size n is)
  where
    far : (size n : ℕ) → nat_lt size n ≡ true → nat_le n size ≡ false
    far size n is = grind (arith, nat_tests)
grow_test size n false is = ap (λ c. cond c size (2 ^ bank_for n)) (near size n is)
  where
    near : (size n : ℕ) → nat_lt size n ≡ false → nat_le n size ≡ true
    near size n is = grind (arith, nat_tests)

less_as : (size n : ℕ) → nat_lt size n ≡ true → size < n
less_as size n is = grind (arith, nat_tests)

within_as : (size n : ℕ) → nat_lt size n ≡ false → n ≤ size
within_as size n is = grind (arith, nat_tests)

widened_as : (b : Bool) (n bank : ℕ) (c d : Cpu)
    → d ≡ record c {
      size = cond b (2 ^ bank) c.size;
      lock = where_own b (Switch bank) c.lock;
      low =
          where_own b (Switch bank) c.low;
    }
    → d ≡ (cond b (switch_here n bank c) (nothing_here c)).cpu
widened_as true n bank c d is = is
widened_as false n bank c d is = is

pub widened : (n more : ℕ) (online : Bool) (v w : CpuView Tables) → Widens raise_tables more v w
    → shown_cpu online w ≡ (widen_here n more (shown_cpu online v)).cpu
widened n more online v w wd =
    let needed = length v.cyclics + more in
    let long : length (map shown_cyclic v.cyclics) ≡ length v.cyclics = length-map v.cyclics shown_cyclic in
    let grows = nat_lt v.size needed in
    let lock = grown_level grows (bank_for needed) v.lock w.lock (λ no. wd.kept_lock (within_as v.size needed no))
    (λ yes. wd.lock (less_as v.size needed yes)) in
    let low = grown_level grows (bank_for needed) v.low w.low (λ no. wd.kept_low (within_as v.size needed no))
    (λ yes. wd.low (less_as v.size needed yes)) in
    let size = wd.size ∙ grow_test v.size needed grows refl in
    let done = widened_as grows n (bank_for needed) (shown_cpu online v) (shown_cpu online w) (λ z. record {
      online = online;
      cyclics = map shown_cyclic (wd.cyclics z);
      size = size z;
      removal = wd.removal z;
      lock = lock z;
      low = low z;
    }) in
    done
    ∙ ap (λ b. (cond grows (switch_here n b (shown_cpu online v)) (nothing_here (shown_cpu online v))).cpu)
    (sym (same_bank needed))
    ∙ ap (λ m. (cond (nat_lt v.size (m + more)) (switch_here n (model_bank (m + more)) (shown_cpu online v))
    (nothing_here (shown_cpu online v))).cpu) (sym long)

-- ---- an add

pub added : (n id now : ℕ) (online : Bool) (level : Level) (when : When) (v w : CpuView Tables)
    → (a : AddsHere raise_tables (added_cyclic id level when now) v w)
    → HasRisingCyclics w.cyclics → shown_cpu online w
    ≡ (enter_here n a.enters.index (begun_cyclic id level when.start when.interval now) (shown_cpu online v)).cpu
added n id now online level when v w a rising =
    let x = begun_cyclic id level when.start when.interval now in
    placed n online _ a.widened w a.enters rising
    ∙ ap (λ (c : Cpu). (place_here n a.enters.index x c).cpu) (widened n 1 online a.reserved a.widened a.widens)
    ∙ ap (λ (c : Cpu). (enter_here n a.enters.index x c).cpu) (shown_reserved online 1 v a.reserved a.reserves)
