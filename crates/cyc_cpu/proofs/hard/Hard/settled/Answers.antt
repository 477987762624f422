use Rattle.std.proofs.Common.{[], ◌∷◌, ap, sym, ◌∙◌, refl, arith}
use Rattle.cyc_types.specs.declared.level.Level.TheVariants.{Low, Lock}
use Rattle.cyc_cpu.specs.Cpu.{CpuView}
use Rattle.cyc_timers.proofs.Readying.{hard_kept, looks_keep}
use Rattle.cyc_cpu.proofs.Softs.{keeps_on}
use Rattle.cyc_cpu.proofs.Inquiring.{only_loads_keep, looks_see, quiet_end, none_some, some_not_none, on_true, inquires_from}
use Rattle.cyc_cpu.proofs.Inquiring.{settled_either, no_settled}
use Rattle.cyc_cpu.proofs.hard.Hard.settled.Goals as goal

pub returns-then-is_some : goal.returns-then-is_some
returns-then-is_some g c =
    let v = c.args.self.now in (
      record {
        lock = (v.lock, ([], refl), ([], refl));
        low = (v.low, ([], refl), ([], refl));
        cyclics = refl;
        kept = record { removal = refl; size = refl; room = refl; most = refl; suspended = refl };
      },
      λ settled. some_not_none c.self.inside.removal (sym c.is_some.ensures ∙ c.if-is_some.true)
          (ap (λ (x : CpuView _). x.removal) c.self.view_is ∙ settled.still),
    )

pub invariant_of-self : goal.invariant_of-self
invariant_of-self g c =
    let i = c.self.inside in let e = c.all_quiet.ensures in let h = c.self.invariant in
    hard_kept g.R.Raise.view i.table.size i.most i.removal i.lock i.low c.all_quiet.new.lock c.all_quiet.new.low i.table.rows h
    (only_loads_keep g.R.Raise i.lock c.all_quiet.new.lock e.lock) (e.sound_lock h.ready.lock_end.sound)
    (only_loads_keep g.R.Raise i.low c.all_quiet.new.low e.low) (e.sound_low h.ready.low_end.sound)

pub returns-then-not-all_quiet : goal.returns-then-not-all_quiet
returns-then-not-all_quiet g c =
    let e = c.all_quiet.ensures in
    let (id, some) = c.if-not-all_quiet.ensures.pending in (
      inquires_from g.R.Raise _ _ _ c.self.view_is (record {
        lock = (c.all_quiet.new.lock, e.lock, ([], refl));
        low = (c.all_quiet.new.low, e.low, ([], refl));
        cyclics = refl;
        kept = record { removal = refl; size = refl; room = refl; most = refl; suspended = refl };
      }),
      λ settled. (let none = settled.seen id in absurd (omega (arith, none, some))),
    )

pub invariant_of-self-2 : goal.invariant_of-self-2
invariant_of-self-2 g c =
    let i = c.self.inside in let e = c.all_quiet.ensures in let h = c.self.invariant in let f = c.both_followed.ensures in
    let (a, (stepped, learns)) = f.lock in
    let (b, (stepped', learns')) = f.low in
    hard_kept g.R.Raise.view i.table.size i.most i.removal i.lock i.low c.both_followed.new.lock c.both_followed.new.low
    i.table.rows h
    (keeps_on (g.R.Raise.view i.lock) (g.R.Raise.view c.all_quiet.new.lock) (g.R.Raise.view c.both_followed.new.lock)
    (only_loads_keep g.R.Raise i.lock c.all_quiet.new.lock e.lock)
    (looks_keep (g.R.Raise.view c.all_quiet.new.lock) (g.R.Raise.view c.both_followed.new.lock) a learns)) f.sound_lock
    (keeps_on (g.R.Raise.view i.low) (g.R.Raise.view c.all_quiet.new.low) (g.R.Raise.view c.both_followed.new.low)
    (only_loads_keep g.R.Raise i.low c.all_quiet.new.low e.low)
    (looks_keep (g.R.Raise.view c.all_quiet.new.low) (g.R.Raise.view c.both_followed.new.low) b learns')) f.sound_low

pub returns : goal.returns
returns g c =
    let i = c.self.inside in let e = c.all_quiet.ensures in let h = c.self.invariant in let f = c.both_followed.ensures in
    let q = c.if-not-all_quiet.ensures in
    let (a, (stepped, learns)) = f.lock in
    let (b, (stepped', learns')) = f.low in
    settled_either g.R.Raise _ _ c.both_followed.result
    (inquires_from g.R.Raise _ _ _ c.self.view_is (record {
      lock = (c.all_quiet.new.lock, e.lock, (a ∷ [], (c.both_followed.new.lock, (stepped, learns), refl)));
      low = (c.all_quiet.new.low, e.low, (b ∷ [], (c.both_followed.new.low, (stepped', learns'), refl)));
      cyclics = refl;
      kept = record { removal = refl; size = refl; room = refl; most = refl; suspended = refl };
    }))
    (on_true c.both_followed.result _ _ (λ both. record {
      seen = λ id.
          let x = quiet_end g.R.Raise Lock i.table.size
          (g.R.Raise.view i.lock).marked i.lock c.all_quiet.new.lock i.table.rows h.ready.lock_end
          (only_loads_keep g.R.Raise i.lock c.all_quiet.new.lock e.lock) q.quiet_lock id in
          let y = quiet_end g.R.Raise Low i.table.size
          (g.R.Raise.view i.low).marked i.low c.all_quiet.new.low i.table.rows h.ready.low_end
          (only_loads_keep g.R.Raise i.low c.all_quiet.new.low e.low) q.quiet_low id in
          let z = looks_see g.R.Raise c.all_quiet.new.lock c.both_followed.new.lock a id learns in
          let w = looks_see g.R.Raise c.all_quiet.new.low c.both_followed.new.low b id learns' in
          omega (arith, x, y, z, w);
      followed = both;
      still = none_some i.removal (sym c.is_some.ensures ∙ c.if-is_some.false);
    }) f.yes)
    (no_settled g.R.Raise.view _ c.both_followed.result f.no)
