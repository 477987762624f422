use Rattle.std.proofs.Common.{◌∷◌, [], Some, None, sym, ap, ◌∙◌, subst, refl, arith}
use Rattle.std.specs.Prelude.{remove}
use Rattle.cyc_types.specs.Firing.{Loads, Marks, Polls, seen_of}
use Rattle.cyc_types.specs.Runs.{Goes}
use Rattle.cyc_types.specs.declared.level.Level.TheVariants.{Low, Lock}
use Rattle.cyc_timers.specs.Rows.{cyclic_of, cyclics_of}
use Rattle.cyc_cpu.specs.Cpu.{CpuView, IsCyclic, HasNoCyclic}
use Rattle.cyc_timers.specs.Ends.{IsHard, lock_and_low}
use Rattle.cyc_timers.specs.Quiet.{asks_at}
use Rattle.cyc_cpu.specs.Removal.{calls_at, HasPolled}
use Rattle.cyc_cpu.proofs.Lawful.{spared_row}
use Rattle.cyc_cpu.proofs.Cyclics.{is_cyclic, no_cyclic, asks_from}
use Rattle.cyc_timers.proofs.Readying.{hard_kept, asks_keep}
use Rattle.cyc_cpu.proofs.Removals.{hard_left, taken_left, no_mark, cyclics_less, leaves_from, has_polled, taken_sent}
use Rattle.cyc_cpu.proofs.hard.Hard.take_now.Goals as goal

pub returns-in_default-clause-did : goal.returns-in_default-clause-did
returns-in_default-clause-did g c = (
  subst (λ (x : CpuView _). HasNoCyclic c.args.id x.cyclics) c.self.view_is
      (no_cyclic c.args.id c.self.inside.table.rows c.in_default.ensures.none),
  refl,
)

pub returns-in-Some-removal-clause-did : goal.returns-in-Some-removal-clause-did
returns-in-Some-removal-clause-did g c =
    let (k, r, is, named, there) = c.in-Some.ensures.some in (
      (
        k,
        cyclic_of r,
        subst (λ (x : CpuView _). IsCyclic x.cyclics k (cyclic_of r)) c.self.view_is
            (is_cyclic c.self.inside.table.rows k r is),
        named,
      ),
      sym (ap (λ (x : CpuView _). x.removal) c.self.view_is) ∙ c.in-Some-removal.is,
      refl,
    )

pub invariant_of-self : goal.invariant_of-self
invariant_of-self g c =
    let i = c.self.inside in let e = c.take_at.ensures in let h = c.self.invariant in
    let (n, some, seen, a, b) = c.if-not-take_at.ensures.pending in
    hard_kept g.R.Raise.view i.table.size i.most i.removal i.lock i.low c.take_at.new.lock c.take_at.new.low i.table.rows h
    (asks_keep g.R.Raise Lock c.record-kept.result.level c.args.id n i.lock c.take_at.new.lock a)
    (e.sound_lock h.ready.lock_end.sound)
    (asks_keep g.R.Raise Low c.record-kept.result.level c.args.id n i.low c.take_at.new.low b)
    (e.sound_low h.ready.low_end.sound)

pub returns-then-not-take_at-clause-did : goal.returns-then-not-take_at-clause-did
returns-then-not-take_at-clause-did g c =
    let (k, r, is, named, there) = c.in-Some.ensures.some in
    let i = c.self.inside in
    let (n, some, seen, a, b) = c.if-not-take_at.ensures.pending in
    let level = (c.record-kept.ensures k r is there).0 in
    let lock = ap (λ (x : CpuView _). seen_of c.args.id (g.R.Raise.view x.lock)) c.self.view_is in
    let low = ap (λ (x : CpuView _). seen_of c.args.id (g.R.Raise.view x.low)) c.self.view_is in (
      sym (ap (λ (x : CpuView _). x.removal) c.self.view_is) ∙ c.in_default-removal.is,
      omega (arith, some, seen, lock, low),
      n,
      some,
      asks_from g.R.Raise c.args.id n _ _ _ c.self.view_is (record {
        position = k;
        cyclic = cyclic_of r;
        here = is_cyclic i.table.rows k r is;
        named = named;
        high = λ q. absurd (c.if-not-take_at.ensures.soft (level ∙ q));
        lock = subst (λ l. Goes g.R.Raise i.lock (asks_at Lock l c.args.id n) c.take_at.new.lock) level a;
        low = subst (λ l. Goes g.R.Raise i.low (asks_at Low l c.args.id n) c.take_at.new.low) level b;
        cyclics = refl;
        kept = record { removal = refl; size = refl; room = refl; most = refl; suspended = refl };
      }),
    )

pub invariant_of-self-2 : goal.invariant_of-self-2
invariant_of-self-2 g c =
    let (k, r, is, named, there) = c.in-Some.ensures.some in
    let i = c.self.inside in let e = c.take_at.ensures in let h = c.self.invariant in
    let none = c.in_default-removal.is in
    let (counts, a, b) = c.if-not-take_at.ensures.ended in
    let level = (c.record-kept.ensures k r is there).0 in
    let lock = subst (λ q. Goes g.R.Raise i.lock
    (calls_at Lock r.timer.level (Loads q 0 ∷ Marks q 0 ∷ Polls q (Some counts) ∷ [])) c.take_at.new.lock) (sym named)
    (subst (λ l. Goes g.R.Raise i.lock
    (calls_at Lock l (Loads c.args.id 0 ∷ Marks c.args.id 0 ∷ Polls c.args.id (Some counts) ∷ [])) c.take_at.new.lock) level
    a) in
    let low = subst (λ q. Goes g.R.Raise i.low
    (calls_at Low r.timer.level (Loads q 0 ∷ Marks q 0 ∷ Polls q (Some counts) ∷ [])) c.take_at.new.low) (sym named)
    (subst (λ l. Goes g.R.Raise i.low
    (calls_at Low l (Loads c.args.id 0 ∷ Marks c.args.id 0 ∷ Polls c.args.id (Some counts) ∷ [])) c.take_at.new.low) level b)
    in
    let left = hard_left g.R.Raise.view i.table.size i.table.rows k r c.law.ensures.rising is i.most i.removal
    i.lock i.low c.take_at.new.lock c.take_at.new.low h
    (taken_left g.R.Raise Lock r.timer.level r.timer.id counts i.lock c.take_at.new.lock lock
    (e.sound_lock h.ready.lock_end.sound) (λ off. no_mark (g.R.Raise.view i.lock).marked i.removal h.lock_marked none))
    (taken_left g.R.Raise Low r.timer.level r.timer.id counts i.low c.take_at.new.low low
    (e.sound_low h.ready.low_end.sound) (λ off. no_mark (g.R.Raise.view i.low).marked i.removal h.low_marked none)) in
    subst (λ o. IsHard g.R.Raise.view c.remove.new.self.size i.most o (lock_and_low c.take_at.new.lock c.take_at.new.low)
    c.remove.new.self.rows)
    (sym none)
    (subst (λ xs. IsHard g.R.Raise.view c.remove.new.self.size i.most None (lock_and_low c.take_at.new.lock c.take_at.new.low) xs)
    (sym (c.remove.ensures.rows k r is named))
    (subst (λ m. IsHard g.R.Raise.view m i.most None (lock_and_low c.take_at.new.lock c.take_at.new.low) (remove i.table.rows k))
    (sym c.remove.ensures.size) left))

pub returns-clause-did : goal.returns-clause-did
returns-clause-did g c =
    let (k, r, is, named, there) = c.in-Some.ensures.some in
    let i = c.self.inside in
    let (counts, a, b) = c.if-not-take_at.ensures.ended in
    let rec = c.record-kept.ensures k r is there in
    let level = rec.0 in
    let lock' = subst (λ q. Goes g.R.Raise i.lock
    (calls_at Lock r.timer.level (Loads q 0 ∷ Marks q 0 ∷ Polls q (Some counts) ∷ [])) c.take_at.new.lock) (sym named)
    (subst (λ l. Goes g.R.Raise i.lock
    (calls_at Lock l (Loads c.args.id 0 ∷ Marks c.args.id 0 ∷ Polls c.args.id (Some counts) ∷ [])) c.take_at.new.lock) level
    a) in
    let low' = subst (λ q. Goes g.R.Raise i.low
    (calls_at Low r.timer.level (Loads q 0 ∷ Marks q 0 ∷ Polls q (Some counts) ∷ [])) c.take_at.new.low) (sym named)
    (subst (λ l. Goes g.R.Raise i.low
    (calls_at Low l (Loads c.args.id 0 ∷ Marks c.args.id 0 ∷ Polls c.args.id (Some counts) ∷ [])) c.take_at.new.low) level b)
    in
    let polled = subst (λ (v : CpuView _). HasPolled g.R.Raise.view counts v (cyclic_of r)) c.self.view_is (record {
      polled = has_polled g.R.Raise i.table.size (g.R.Raise.view i.lock).marked
          (g.R.Raise.view i.low).marked i.lock i.low c.take_at.new.lock c.take_at.new.low i.table.rows k r counts _
          c.self.invariant.ready.lock_end c.self.invariant.ready.low_end is lock' low'
          (taken_sent g.R.Raise r.timer.id counts);
      spared = spared_row g.R.Raise.view i.table.size i.table.room i.most i.removal i.lock i.low i.table.rows c.self.invariant
          c.law.ensures.rising k r is;
    }) in (
      sym (ap (λ (x : CpuView _). x.removal) c.self.view_is) ∙ c.in_default-removal.is,
      (
        cyclic_of r,
        counts,
        (level, rec.1, c.moment-moment.ensures k r is there, rec.2, rec.3),
        polled,
        leaves_from g.R.Raise c.args.id
            (Loads c.args.id 0 ∷ Marks c.args.id 0 ∷ Polls c.args.id (Some counts) ∷ []) (cyclic_of r) _ _ _ c.self.view_is
            (record {
              position = k;
              here = is_cyclic i.table.rows k r is;
              named = named;
              goes = (
                subst (λ l. Goes g.R.Raise i.lock
                    (calls_at Lock l (Loads c.args.id 0 ∷ Marks c.args.id 0 ∷ Polls c.args.id (Some counts)
                    ∷ [])) c.take_at.new.lock)
                    level a,
                subst (λ l. Goes g.R.Raise i.low
                    (calls_at Low l (Loads c.args.id 0 ∷ Marks c.args.id 0 ∷ Polls c.args.id (Some counts)
                    ∷ [])) c.take_at.new.low)
                    level b,
              );
              cyclics = ap cyclics_of (c.remove.ensures.rows k r is named) ∙ cyclics_less i.table.rows k;
              removal = c.in_default-removal.is;
              size = c.remove.ensures.size;
              room = c.remove.ensures.room;
              most = refl;
              suspended = refl;
            }),
      ),
    )
