use Rattle.std.proofs.Common.{◌≡◌, ◌<◌, ◌≤◌, ◌+◌, ◌^◌, length, arith, ap, refl, sym, ◌∙◌, subst}
use Rattle.std.proofs.lemmas.List.{length-map}
use Rattle.cyc_types.specs.Firing.{Expands}
use Rattle.cyc_types.specs.Runs.{Taught}
use Rattle.cyc_timers.specs.Rows.{TableView, cyclic_of, cyclics_of}
use Rattle.cyc_cpu.specs.Cpu.{CpuView, bank_for}
use Rattle.cyc_timers.specs.Ends.{IsHard, lock_and_low}
use Rattle.cyc_cpu.proofs.Entering.{hard_expanded, pow_order}
use Rattle.cyc_cpu.proofs.Sizes.{size_grows, size_stays}
use Rattle.cyc_cpu.proofs.hard.Hard.widen.Goals as goal

pub expand-requires : goal.expand-requires
expand-requires g c =
    let i = c.self.inside in let v = c.self.view_is in
    let l = ap (λ (x : CpuView _). length x.cyclics) v in let m = length-map i.table.rows cyclic_of in let z =
    ap (λ (x : CpuView _). x.size) v in
    let h = c.self.invariant.ready.lock_end in let same = h.size_is in let b = c.least_bank-bank.ensures in
    let grows : c.args.self.now.size < length c.args.self.now.cyclics + c.args.more = omega (arith, l, m, z) in (
      pow_order (g.R.Raise.view i.lock).bank c.least_bank-bank.result (omega (arith, same, b)),
      b.greatest,
      ap (λ (x : CpuView _). (g.R.Raise.view x.lock).followed) v ∙ (c.requires.room.still grows).1.0,
      h.free,
    )

pub expand-requires-then-needed-size : goal.expand-requires-then-needed-size
expand-requires-then-needed-size g c =
    let i = c.self.inside in let v = c.self.view_is in
    let l = ap (λ (x : CpuView _). length x.cyclics) v in let m = length-map i.table.rows cyclic_of in let z =
    ap (λ (x : CpuView _). x.size) v in
    let h = c.self.invariant.ready.low_end in let same = h.size_is in let b = c.least_bank-bank.ensures in
    let grows : c.args.self.now.size < length c.args.self.now.cyclics + c.args.more = omega (arith, l, m, z) in (
      pow_order (g.R.Raise.view i.low).bank c.least_bank-bank.result (omega (arith, same, b)),
      b.greatest,
      ap (λ (x : CpuView _). (g.R.Raise.view x.low).followed) v ∙ (c.requires.room.still grows).1.1,
      h.free,
    )

pub invariant_of-self : goal.invariant_of-self
invariant_of-self g c =
    let i = c.self.inside in let b = c.least_bank-bank.ensures in let p = c.slots_of.ensures in
    let e = ap (λ (x : TableView). x.size) c.widen.ensures in
    let is : c.widen.new.self.size ≡ 2 ^ c.least_bank-bank.result = omega (arith, e, b, p) in
    subst (λ xs. IsHard g.R.Raise.view c.widen.new.self.size i.most i.removal (lock_and_low c.expand.new.self
    c.expand-then-needed-size.new.self) xs) (sym (ap (λ (x : TableView). x.rows) c.widen.ensures))
    (hard_expanded g.R.Raise.view i.table.size c.widen.new.self.size i.most i.removal i.lock i.low c.expand.new.self
    c.expand-then-needed-size.new.self i.table.rows c.least_bank-bank.result c.self.invariant is
    c.expand.ensures.learns c.expand.ensures.sound c.expand-then-needed-size.ensures.learns
    c.expand-then-needed-size.ensures.sound)

pub widen-requires : goal.widen-requires
widen-requires g c =
    let i = c.self.inside in let v = c.self.view_is in let now = c.args.self.now in
    let l = ap (λ (x : CpuView _). length x.cyclics) v in let m = length-map i.table.rows cyclic_of in
    let z = ap (λ (x : CpuView _). x.size) v in let r = ap (λ (x : CpuView _). x.room) v in
    let b = c.least_bank-bank.ensures in let p = c.slots_of.ensures in let few = b.few in
    let same : c.len.result + c.args.more ≡ length now.cyclics + c.args.more = omega (arith, l, m) in
    let grows : now.size < length now.cyclics + c.args.more = omega (arith, l, m, z) in
    let bank = b.least ∙ ap bank_for same in
    let is = p ∙ ap (λ k. 2 ^ k) bank ∙ sym (size_grows now.size _ (bank_for (length now.cyclics + c.args.more)) grows) in
    record {
      few = subst (λ k. k ≤ _) (sym p) few;
      reserved = subst (λ k. c.slots_of.result ≤ k) (sym r) (subst (λ k. k ≤ now.room) (sym is) c.requires.reserved);
    }

pub returns-then-needed-size : goal.returns-then-needed-size
returns-then-needed-size g c =
    let i = c.self.inside in let v = c.self.view_is in let now = c.args.self.now in
    let l = ap (λ (x : CpuView _). length x.cyclics) v in let m = length-map i.table.rows cyclic_of in
    let z = ap (λ (x : CpuView _). x.size) v in
    let b = c.least_bank-bank.ensures in let p = c.slots_of.ensures in let enough = b.enough in
    let same : c.len.result + c.args.more ≡ length now.cyclics + c.args.more = omega (arith, l, m) in
    let grows : now.size < length now.cyclics + c.args.more = omega (arith, l, m, z) in
    let bank = b.least ∙ ap bank_for same in
    let e = ap (λ (x : TableView). x.size) c.widen.ensures in
    let is : c.widen.new.self.size ≡ 2 ^ c.least_bank-bank.result = omega (arith, e, p, enough, z, grows, same) in (
      c.requires,
      record {
        size = is ∙ ap (λ k. 2 ^ k) bank ∙ sym (size_grows now.size _ (bank_for (length now.cyclics + c.args.more)) grows);
        enough = omega (arith, is, enough, same);
        kept_lock = λ few. absurd (omega (arith, few, grows));
        kept_low = λ few. absurd (omega (arith, few, grows));
        lock = λ less. subst (λ k. Taught g.R.Raise now.lock (Expands k) c.expand.new.self) bank
            (subst (λ x. Taught g.R.Raise x (Expands c.least_bank-bank.result) c.expand.new.self)
            (ap (λ (x : CpuView _). x.lock) v) (c.expand.ensures.step, c.expand.ensures.learns));
        low = λ less. subst (λ k. Taught g.R.Raise now.low (Expands k) c.expand-then-needed-size.new.self) bank
            (subst (λ x. Taught g.R.Raise x (Expands c.least_bank-bank.result) c.expand-then-needed-size.new.self)
            (ap (λ (x : CpuView _). x.low) v) (c.expand-then-needed-size.ensures.step, c.expand-then-needed-size.ensures.learns));
        cyclics = ap (λ (x : TableView). cyclics_of x.rows) c.widen.ensures ∙ ap (λ (x : CpuView _). x.cyclics) v;
        removal = ap (λ (x : CpuView _). x.removal) v;
        room = ap (λ (x : TableView). x.room) c.widen.ensures ∙ ap (λ (x : CpuView _). x.room) v;
        most = ap (λ (x : CpuView _). x.most) v;
        suspended = ap (λ (x : CpuView _). x.suspended) v;
      },
    )

pub returns-else-needed-size : goal.returns-else-needed-size
returns-else-needed-size g c =
    let i = c.self.inside in let v = c.self.view_is in let now = c.args.self.now in
    let l = ap (λ (x : CpuView _). length x.cyclics) v in let m = length-map i.table.rows cyclic_of in
    let z = ap (λ (x : CpuView _). x.size) v in
    let few : length now.cyclics + c.args.more ≤ now.size = omega (arith, l, m, z) in (
      c.requires,
      record {
        size = sym (size_stays now.size _ (bank_for (length now.cyclics + c.args.more)) few);
        enough = few;
        kept_lock = λ same. refl;
        kept_low = λ same. refl;
        lock = λ less. absurd (omega (arith, few, less));
        low = λ less. absurd (omega (arith, few, less));
        cyclics = refl;
        removal = refl;
        room = refl;
        most = refl;
        suspended = refl;
      },
    )
