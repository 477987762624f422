use Rattle.std.proofs.Common.{◌≢◌, ◌∷◌, [], Some, None, sym, ap, ◌∙◌, subst, refl, arith}
use Rattle.std.specs.Prelude.{remove}
use Rattle.std.proofs.Math.ListN.{set}
use Rattle.cyc_types.specs.Series.{never}
use Rattle.cyc_types.specs.Firing.{Marks, Polls}
use Rattle.cyc_types.specs.Runs.{Goes}
use Rattle.cyc_types.specs.declared.level.Level.TheVariants.{Low, Lock, High}
use Rattle.cyc_timers.specs.Rows.{cyclic_of, cyclics_of, at_moment}
use Rattle.cyc_cpu.specs.Cpu.{CpuView, IsCyclic, HasNoCyclic}
use Rattle.cyc_timers.specs.Ends.{IsHard, lock_and_low}
use Rattle.cyc_cpu.specs.Removal.{calls_at, HasPolled}
use Rattle.cyc_cpu.proofs.Lawful.{spared_row}
use Rattle.cyc_cpu.proofs.Cyclics.{is_cyclic, no_cyclic, cyclics_set}
use Rattle.cyc_cpu.proofs.Removals.{hard_opened, hard_left, begun_left, no_mark, cyclics_less, opens_from, leaves_from}
use Rattle.cyc_cpu.proofs.Removals.{has_polled, begun_sent}
use Rattle.cyc_cpu.proofs.hard.Hard.begin_remove.Goals as goal

pub returns-in_default : goal.returns-in_default
returns-in_default g c = (
  subst (λ (x : CpuView _). HasNoCyclic c.args.id x.cyclics) c.self.view_is
      (no_cyclic c.args.id c.self.inside.table.rows c.in_default.ensures.none),
  refl,
)

pub returns-in-Some-removal : goal.returns-in-Some-removal
returns-in-Some-removal g c =
    let (k, r, is, named, there) = c.in-Some.ensures.some in (
      (
        (
          k,
          cyclic_of r,
          subst (λ (x : CpuView _). IsCyclic x.cyclics k (cyclic_of r)) c.self.view_is
              (is_cyclic c.self.inside.table.rows k r is),
          named,
        ),
        sym (ap (λ (x : CpuView _). x.removal) c.self.view_is) ∙ c.in-Some-removal.is,
      ),
      refl,
    )

pub invariant_of-self : goal.invariant_of-self
invariant_of-self g c =
    let (k, r, is, named, there) = c.in-Some.ensures.some in
    let i = c.self.inside in let h = c.self.invariant in let e = c.remove_at-left.ensures in
    let n = c.remove_at-left.result in
    let level = (c.record-kept.ensures k r is there).0 in
    let (a, b) = e.kept c.if-left-gt0.true in
    let soft : r.timer.level ≢ High = λ q. (let z = e.high (level ∙ q) in let m = c.if-left-gt0.true in
    absurd (omega (arith, z, m))) in
    let lock = subst (λ q. Goes g.R.Raise i.lock
    (calls_at Lock r.timer.level (Marks q n ∷ [])) c.remove_at-left.new.lock) (sym named)
    (subst (λ l. Goes g.R.Raise i.lock (calls_at Lock l (Marks c.args.id n ∷ [])) c.remove_at-left.new.lock)
    level a) in
    let low = subst (λ q. Goes g.R.Raise i.low
    (calls_at Low r.timer.level (Marks q n ∷ [])) c.remove_at-left.new.low) (sym named)
    (subst (λ l. Goes g.R.Raise i.low (calls_at Low l (Marks c.args.id n ∷ [])) c.remove_at-left.new.low)
    level b) in
    let opened = hard_opened g.R.Raise i.table.size i.table.rows k n r c.law.ensures.rising is
    i.most i.removal i.lock i.low c.remove_at-left.new.lock c.remove_at-left.new.low h c.in_default-removal.is soft lock low
    (e.sound_lock h.ready.lock_end.sound) (e.sound_low h.ready.low_end.sound) in
    subst (λ q. IsHard g.R.Raise.view c.reprogram.new.self.size i.most (Some q) (lock_and_low c.remove_at-left.new.lock
    c.remove_at-left.new.low) c.reprogram.new.self.rows) named
    (subst (λ xs. IsHard g.R.Raise.view c.reprogram.new.self.size i.most (Some r.timer.id) (lock_and_low c.remove_at-left.new.lock
    c.remove_at-left.new.low) xs) (sym (c.reprogram.ensures.rows k r is there))
    (subst (λ m. IsHard g.R.Raise.view m i.most (Some r.timer.id) (lock_and_low c.remove_at-left.new.lock
    c.remove_at-left.new.low)
    (set i.table.rows k (at_moment never r))) (sym c.reprogram.ensures.size) opened))

pub returns-then-left-gt0 : goal.returns-then-left-gt0
returns-then-left-gt0 g c =
    let (k, r, is, named, there) = c.in-Some.ensures.some in
    let i = c.self.inside in let e = c.remove_at-left.ensures in
    let n = c.remove_at-left.result in
    let level = (c.record-kept.ensures k r is there).0 in
    let (a, b) = e.kept c.if-left-gt0.true in
    let soft : r.timer.level ≢ High = λ q. (let z = e.high (level ∙ q) in let m = c.if-left-gt0.true in
    absurd (omega (arith, z, m))) in (
      sym (ap (λ (x : CpuView _). x.removal) c.self.view_is) ∙ c.in_default-removal.is,
      opens_from g.R.Raise c.args.id n _ _ _ c.self.view_is (record {
        position = k;
        cyclic = cyclic_of r;
        here = is_cyclic i.table.rows k r is;
        named = named;
        soft = soft;
        some = c.if-left-gt0.true;
        goes = (
          subst (λ l. Goes g.R.Raise i.lock
              (calls_at Lock l (Marks c.args.id n ∷ [])) c.remove_at-left.new.lock) level a,
          subst (λ l. Goes g.R.Raise i.low (calls_at Low l (Marks c.args.id n ∷ [])) c.remove_at-left.new.low)
              level b,
        );
        cyclics = ap cyclics_of (c.reprogram.ensures.rows k r is there) ∙ cyclics_set i.table.rows k (at_moment never r);
        removal = refl;
        size = c.reprogram.ensures.size;
        room = c.reprogram.ensures.room;
        most = refl;
        suspended = refl;
      }),
    )

pub invariant_of-self-2 : goal.invariant_of-self-2
invariant_of-self-2 g c =
    let (k, r, is, named, there) = c.in-Some.ensures.some in
    let i = c.self.inside in let h = c.self.invariant in let e = c.remove_at-left.ensures in
    let none = c.in_default-removal.is in
    let level = (c.record-kept.ensures k r is there).0 in
    let few = c.if-left-gt0.false in
    let (counts, a, b) = e.ended (omega (arith, few)) in
    let lock = subst (λ q. Goes g.R.Raise i.lock
    (calls_at Lock r.timer.level (Marks q 0 ∷ Polls q (Some counts) ∷ [])) c.remove_at-left.new.lock) (sym named)
    (subst (λ l. Goes g.R.Raise i.lock
    (calls_at Lock l (Marks c.args.id 0 ∷ Polls c.args.id (Some counts) ∷ [])) c.remove_at-left.new.lock) level a) in
    let low = subst (λ q. Goes g.R.Raise i.low
    (calls_at Low r.timer.level (Marks q 0 ∷ Polls q (Some counts) ∷ [])) c.remove_at-left.new.low) (sym named)
    (subst (λ l. Goes g.R.Raise i.low
    (calls_at Low l (Marks c.args.id 0 ∷ Polls c.args.id (Some counts) ∷ [])) c.remove_at-left.new.low) level b) in
    let left = hard_left g.R.Raise.view i.table.size i.table.rows k r c.law.ensures.rising is i.most i.removal
    i.lock i.low c.remove_at-left.new.lock c.remove_at-left.new.low h
    (begun_left g.R.Raise Lock r.timer.level r.timer.id counts i.lock c.remove_at-left.new.lock lock
    (e.sound_lock h.ready.lock_end.sound) (λ off. no_mark (g.R.Raise.view i.lock).marked i.removal h.lock_marked none))
    (begun_left g.R.Raise Low r.timer.level r.timer.id counts i.low c.remove_at-left.new.low low
    (e.sound_low h.ready.low_end.sound) (λ off. no_mark (g.R.Raise.view i.low).marked i.removal h.low_marked none)) in
    subst (λ o. IsHard g.R.Raise.view c.remove.new.self.size i.most o (lock_and_low c.remove_at-left.new.lock
    c.remove_at-left.new.low)
    c.remove.new.self.rows) (sym none)
    (subst (λ xs. IsHard g.R.Raise.view c.remove.new.self.size i.most None (lock_and_low c.remove_at-left.new.lock
    c.remove_at-left.new.low) xs)
    (sym (c.remove.ensures.rows k r is named))
    (subst (λ m. IsHard g.R.Raise.view m i.most None (lock_and_low c.remove_at-left.new.lock c.remove_at-left.new.low) (remove
    i.table.rows k)) (sym c.remove.ensures.size) left))

pub returns : goal.returns
returns g c =
    let (k, r, is, named, there) = c.in-Some.ensures.some in
    let i = c.self.inside in let e = c.remove_at-left.ensures in
    let rec = c.record-kept.ensures k r is there in
    let level = rec.0 in
    let few = c.if-left-gt0.false in
    let (counts, a, b) = e.ended (omega (arith, few)) in
    let lock' = subst (λ q. Goes g.R.Raise i.lock
    (calls_at Lock r.timer.level (Marks q 0 ∷ Polls q (Some counts) ∷ [])) c.remove_at-left.new.lock) (sym named)
    (subst (λ l. Goes g.R.Raise i.lock
    (calls_at Lock l (Marks c.args.id 0 ∷ Polls c.args.id (Some counts) ∷ [])) c.remove_at-left.new.lock) level a) in
    let low' = subst (λ q. Goes g.R.Raise i.low
    (calls_at Low r.timer.level (Marks q 0 ∷ Polls q (Some counts) ∷ [])) c.remove_at-left.new.low) (sym named)
    (subst (λ l. Goes g.R.Raise i.low
    (calls_at Low l (Marks c.args.id 0 ∷ Polls c.args.id (Some counts) ∷ [])) c.remove_at-left.new.low) level b) in
    let polled = subst (λ (v : CpuView _). HasPolled g.R.Raise.view counts v (cyclic_of r)) c.self.view_is (record {
      polled = has_polled g.R.Raise i.table.size (g.R.Raise.view i.lock).marked
          (g.R.Raise.view i.low).marked i.lock i.low c.remove_at-left.new.lock c.remove_at-left.new.low i.table.rows
          k r counts _
          c.self.invariant.ready.lock_end c.self.invariant.ready.low_end is lock' low'
          (begun_sent g.R.Raise r.timer.id counts);
      spared = spared_row g.R.Raise.view i.table.size i.table.room i.most i.removal i.lock i.low i.table.rows c.self.invariant
          c.law.ensures.rising k r is;
    }) in (
      sym (ap (λ (x : CpuView _). x.removal) c.self.view_is) ∙ c.in_default-removal.is,
      (
        cyclic_of r,
        counts,
        (c.receipt_of.ensures.id ∙ sym named, c.receipt_of.ensures.sent ∙ rec.2, c.receipt_of.ensures.lost ∙ rec.3),
        polled,
        leaves_from g.R.Raise c.args.id (Marks c.args.id 0 ∷ Polls c.args.id (Some counts) ∷ [])
            (cyclic_of r) _ _ _ c.self.view_is (record {
              position = k;
              here = is_cyclic i.table.rows k r is;
              named = named;
              goes = (
                subst (λ l. Goes g.R.Raise i.lock
                    (calls_at Lock l (Marks c.args.id 0 ∷ Polls c.args.id (Some counts) ∷ [])) c.remove_at-left.new.lock) level a,
                subst (λ l. Goes g.R.Raise i.low
                    (calls_at Low l (Marks c.args.id 0 ∷ Polls c.args.id (Some counts) ∷ [])) c.remove_at-left.new.low) level b,
              );
              cyclics = ap cyclics_of (c.remove.ensures.rows k r is named) ∙ cyclics_less i.table.rows k;
              removal = c.in_default-removal.is;
              size = c.remove.ensures.size;
              room = c.remove.ensures.room;
              most = refl;
              suspended = refl;
            }),
      ),
    )
