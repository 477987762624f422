use Rattle.std.proofs.Common.{◌+◌, ◌≡◌, sym, ◌∙◌, subst, refl, IfNone}
use Rattle.cyc_types.specs.Firing.{seen_of}
use Rattle.cyc_types.specs.Runs.{Goes}
use Rattle.cyc_types.specs.declared.level.Level.TheVariants.{Low, Lock}
use Rattle.cyc_timers.specs.Rows.{cyclic_of, cyclics_of}
use Rattle.cyc_cpu.specs.Cpu.{CpuView, HasNoCyclic, Asks}
use Rattle.cyc_timers.specs.Quiet.{asks_at}
use Rattle.cyc_timers.proofs.Readying.{hard_kept, asks_keep}
use Rattle.cyc_cpu.specs.Losses.{IsSparedAt}
use Rattle.cyc_cpu.proofs.Lawful.{spared_row}
use Rattle.cyc_cpu.proofs.Inquiring.{seen_asked}
use Rattle.cyc_cpu.proofs.Cyclics.{is_cyclic, no_cyclic}
use Rattle.cyc_cpu.proofs.hard.Hard.ask.Goals as goal

pub returns-in_err-index-clause-none : goal.returns-in_err-index-clause-none
returns-in_err-index-clause-none g c =
    subst (λ o. IfNone o (HasNoCyclic c.args.id c.args.self.now.cyclics × (c.args.self.now ≡ c.args.self.now)))
    (sym c.from_residual.ensures) (
      subst (λ (x : CpuView _). HasNoCyclic c.args.id x.cyclics) c.self.view_is
          (no_cyclic c.args.id c.self.inside.table.rows c.in_err-index.ensures.none),
      refl,
    )

pub invariant_of-self : goal.invariant_of-self
invariant_of-self g c =
    let i = c.self.inside in let e = c.load_pend-pend.ensures in let h = c.self.invariant in
    hard_kept g.R.Raise.view i.table.size i.most i.removal i.lock i.low c.load_pend-pend.new.lock c.load_pend-pend.new.low
    i.table.rows h
    (asks_keep g.R.Raise Lock c.record-kept.result.level c.args.id c.load_pend-pend.result i.lock
    c.load_pend-pend.new.lock e.lock) (e.sound_lock h.ready.lock_end.sound)
    (asks_keep g.R.Raise Low c.record-kept.result.level c.args.id c.load_pend-pend.result i.low
    c.load_pend-pend.new.low e.low) (e.sound_low h.ready.low_end.sound)

pub returns-clause-some : goal.returns-clause-some
returns-clause-some g c =
    let (k, r, is, named, there) = c.in_ok-index.ensures.some in
    let i = c.self.inside in let e = c.load_pend-pend.ensures in let n = c.load_pend-pend.result in
    let level = (c.record-kept.ensures k r is there).0 in
    let rec = c.record-kept.ensures k r is there in
    let w : CpuView _ = record {
      cyclics = cyclics_of i.table.rows;
      removal = i.removal;
      size = i.table.size;
      room =
          i.table.room;
      most = i.most;
      suspended = i.suspended;
      lock = c.load_pend-pend.new.lock;
      low = c.load_pend-pend.new.low;
    } in
    subst (λ (x : CpuView _). (asks : Asks g.R.Raise c.args.id n x w)
    × (c.record-kept.result.expired ≡ asks.cyclic.timer.expired) × (c.record-kept.result.lost ≡ asks.cyclic.lost)
    × IsSparedAt g.R.Raise.view x asks.cyclic) c.self.view_is (
      record {
        position = k;
        cyclic = cyclic_of r;
        here = is_cyclic i.table.rows k r is;
        named = named;
        high = λ q. e.high (level ∙ q);
        lock = subst (λ l. Goes g.R.Raise i.lock
            (asks_at Lock l c.args.id c.load_pend-pend.result) c.load_pend-pend.new.lock) level e.lock;
        low = subst (λ l. Goes g.R.Raise i.low
            (asks_at Low l c.args.id c.load_pend-pend.result) c.load_pend-pend.new.low) level e.low;
        cyclics = refl;
        kept = record { removal = refl; size = refl; room = refl; most = refl; suspended = refl };
      },
      rec.2,
      rec.3,
      spared_row g.R.Raise.view i.table.size i.table.room i.most i.removal i.lock i.low i.table.rows c.self.invariant
          c.law.ensures.rising k r is,
    )

pub returns-clause-seen : goal.returns-clause-seen
returns-clause-seen g c =
    let (k, r, is, named, there) = c.in_ok-index.ensures.some in
    let i = c.self.inside in let e = c.load_pend-pend.ensures in let h = c.self.invariant in let n = c.load_pend-pend.result in
    let level = (c.record-kept.ensures k r is there).0 in
    let lock = subst (λ q. Goes g.R.Raise i.lock (asks_at Lock r.timer.level q n) c.load_pend-pend.new.lock)
    (sym named) (subst (λ l. Goes g.R.Raise i.lock (asks_at Lock l c.args.id n) c.load_pend-pend.new.lock)
    level e.lock) in
    let low = subst (λ q. Goes g.R.Raise i.low (asks_at Low r.timer.level q n) c.load_pend-pend.new.low)
    (sym named) (subst (λ l. Goes g.R.Raise i.low (asks_at Low l c.args.id n) c.load_pend-pend.new.low)
    level e.low) in
    subst (λ q. seen_of q (g.R.Raise.view c.load_pend-pend.new.lock) + seen_of q (g.R.Raise.view c.load_pend-pend.new.low) ≡ n)
    named
    (seen_asked g.R.Raise i.table.size i.table.rows k n r c.law.ensures.rising is
    r.timer.level (g.R.Raise.view i.lock).marked (g.R.Raise.view i.low).marked i.lock i.low c.load_pend-pend.new.lock
    c.load_pend-pend.new.low refl
    h.ready.lock_end h.ready.low_end lock low (λ q. e.high (level ∙ q)))
