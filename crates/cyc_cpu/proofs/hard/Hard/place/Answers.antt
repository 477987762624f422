use Rattle.std.proofs.lemmas.List.{length-map}
use Rattle.std.proofs.Common.{◌≤◌, length, arith, ap, sym, ◌∙◌, subst, refl}
use Rattle.std.specs.Prelude.{insert}
use Rattle.cyc_types.specs.Runs.{Goes}
use Rattle.cyc_types.specs.declared.level.Level.TheVariants.{Low, Lock}
use Rattle.cyc_timers.specs.declared.table.Record.{Record}
use Rattle.cyc_timers.specs.Rows.{cyclic_of, cyclics_of, with_record, vacant_row}
use Rattle.cyc_cpu.specs.Cpu.{CpuView, HasNoCyclic, cyclic_with}
use Rattle.cyc_timers.specs.Ends.{IsHard, lock_and_low}
use Rattle.cyc_timers.specs.Quiet.{admits_at}
use Rattle.cyc_cpu.proofs.Cyclics.{no_row_of, cyclics_insert, not_removed, rising_cyclics}
use Rattle.cyc_cpu.proofs.Entering.{hard_entered, may_admit}
use Rattle.cyc_cpu.proofs.hard.Hard.place.Goals as goal

pub insert-index-requires-clause-absent : goal.insert-index-requires-clause-absent
insert-index-requires-clause-absent g c =
    no_row_of c.args.id c.self.inside.table.rows
    (subst (λ (v : CpuView _). HasNoCyclic c.args.id v.cyclics) (sym c.self.view_is) c.requires.absent)

pub admit_at-requires-clause-lock : goal.admit_at-requires-clause-lock
admit_at-requires-clause-lock g c at =
    let i = c.self.inside in
    let none = no_row_of c.args.id i.table.rows
    (subst (λ (v : CpuView _). HasNoCyclic c.args.id v.cyclics) (sym c.self.view_is) c.requires.absent) in
    may_admit Lock i.table.size (g.R.Raise.view i.lock).marked
    (g.R.Raise.view i.lock) i.table.rows c.args.id c.insert-index.result c.self.invariant.ready.lock_end none
    c.insert-index.ensures.fresh c.insert-index.ensures.below

pub admit_at-requires-clause-low : goal.admit_at-requires-clause-low
admit_at-requires-clause-low g c at =
    let i = c.self.inside in
    let none = no_row_of c.args.id i.table.rows
    (subst (λ (v : CpuView _). HasNoCyclic c.args.id v.cyclics) (sym c.self.view_is) c.requires.absent) in
    may_admit Low i.table.size (g.R.Raise.view i.low).marked (g.R.Raise.view i.low) i.table.rows c.args.id c.insert-index.result
    c.self.invariant.ready.low_end none c.insert-index.ensures.fresh c.insert-index.ensures.below

pub invariant_of-self : goal.invariant_of-self
invariant_of-self g c =
    let i = c.self.inside in let e = c.admit_at.ensures in
    let none = no_row_of c.args.id i.table.rows
    (subst (λ (v : CpuView _). HasNoCyclic c.args.id v.cyclics) (sym c.self.view_is) c.requires.absent) in
    let still = not_removed g.R.Raise.view i.table.size i.most i.removal i.lock i.low i.table.rows c.args.id c.self.invariant none
    in
    let (q, bound, rows) = c.insert-index.ensures.rows in
    let kept : Record = record {
      level = c.args.level;
      interval = c.args.interval;
      expired = c.args.carried.sent;
      lost =
          c.args.carried.lost;
      carried = c.args.carried;
    } in
    let u = with_record c.args.moment kept (vacant_row c.args.id c.insert-index.result) in
    let most : c.args.carried.sent ≤ i.most =
    (let m = c.requires.most in let v = ap (λ (x : CpuView _). x.most) c.self.view_is in omega (arith, m, v)) in
    subst (λ xs. IsHard g.R.Raise.view c.insert-index.new.self.size i.most i.removal (lock_and_low c.admit_at.new.lock
    c.admit_at.new.low) xs)
    (sym rows)
    (subst (λ n. IsHard g.R.Raise.view n i.most i.removal (lock_and_low c.admit_at.new.lock c.admit_at.new.low) (insert
    i.table.rows q u))
    (sym c.insert-index.ensures.size)
    (hard_entered g.R.Raise i.table.size i.most i.removal i.lock i.low c.admit_at.new.lock c.admit_at.new.low
    i.table.rows q c.args.id c.insert-index.result c.args.level u
    c.self.invariant bound none still refl refl refl (record { sent = refl; lost = refl }) c.requires.lost most e.lock e.low
    e.sound_lock e.sound_low))

pub returns : goal.returns
returns g c =
    let i = c.self.inside in let e = c.admit_at.ensures in let v = c.self.view_is in
    let (q, bound, rows) = c.insert-index.ensures.rows in
    let kept : Record = record {
      level = c.args.level;
      interval = c.args.interval;
      expired = c.args.carried.sent;
      lost =
          c.args.carried.lost;
      carried = c.args.carried;
    } in
    let u = with_record c.args.moment kept (vacant_row c.args.id c.insert-index.result) in (
      record { absent = c.requires.absent; free = c.requires.free; lost = c.requires.lost; most = c.requires.most },
      record {
        position = q;
        index = c.insert-index.result;
        within = (let l = ap (λ (x : CpuView _). length x.cyclics) v in let m = length-map i.table.rows cyclic_of in
            omega (arith, bound, l, m));
        cyclics = ap cyclics_of rows ∙ cyclics_insert i.table.rows q u
            ∙ ap (λ (x : CpuView _). insert x.cyclics q
            (cyclic_with c.args.id c.args.level c.args.interval c.args.moment c.args.carried.sent c.args.carried.lost)) v;
        rising = rising_cyclics c.insert-index.new.self.rows c.law.ensures.rising;
        lock = subst (λ (x : CpuView _). Goes g.R.Raise x.lock
            (admits_at Lock c.args.level c.args.id c.insert-index.result) c.admit_at.new.lock) v e.lock;
        low = subst (λ (x : CpuView _). Goes g.R.Raise x.low
            (admits_at Low c.args.level c.args.id c.insert-index.result) c.admit_at.new.low) v e.low;
        kept = record {
          removal = ap (λ (x : CpuView _). x.removal) v;
          size = c.insert-index.ensures.size ∙ ap (λ (x : CpuView _). x.size) v;
          room = c.insert-index.ensures.room ∙ ap (λ (x : CpuView _). x.room) v;
          most = ap (λ (x : CpuView _). x.most) v;
          suspended = ap (λ (x : CpuView _). x.suspended) v;
        };
      },
    )
