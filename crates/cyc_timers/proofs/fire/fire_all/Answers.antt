use Rattle.std.proofs.Common.{◌<◌, ◌-◌, [], ◌∷◌, ◌++◌, length, refl, sym, ap, ◌∙◌, subst, arith, length-append}
use Rattle.std.proofs.lemmas.List.Elements.{recursion_from_All}
use Rattle.cyc_types.specs.Expirations.{next_of}
use Rattle.cyc_types.specs.Timers.{Timer}
use Rattle.cyc_types.proofs.Firings.{fire_start, fire_done, fire_bound}
use Rattle.cyc_timers.specs.Rows.{timers_of, cyclics_of}
use Rattle.cyc_types.specs.Levels.{at_level}
use Rattle.cyc_types.specs.declared.level.Level.TheVariants.{High}
use Rattle.cyc_timers.specs.Ends.{IsReady, lock_and_low}
use Rattle.cyc_timers.specs.Made.{Makes, WhyStopped, fire_state}
use Rattle.cyc_timers.specs.Acts.{acting}
use Rattle.cyc_timers.proofs.Tables.{timers_long}
use Rattle.cyc_timers.proofs.Stepping.{turn_written, makes_none, less_left, row_found, front}
use Rattle.cyc_timers.proofs.fire.fire_all.Goals as goal

pub loop-root-init : goal.loop-root-init
loop-root-init g c =
    let rows = c.args.table.now.rows in
    let f = fire_start c.args.now (timers_of rows) in
    record {
      size = refl;
      room = refl;
      rising = c.law.ensures.rising;
      sound = c.law.ensures.sound;
      ready = c.requires.ready;
      made = (
        [],
        refl,
        f,
        makes_none (at_level g.C.Calls.called High) g.C.Calls.count g.R.Raise c.args.now
            (cyclics_of rows) (record { calls = c.args.calls.now; lock = c.args.lock.now; low = c.args.low.now }) f,
        omega arith,
      );
    }

pub loop-root-smaller : goal.loop-root-smaller
loop-root-smaller g c =
    let (k, r, is, at, moment, named, first) = c.in-Some.ensures.first in
    less_left c.args.now c.loop-root.table.rows c.expire_root.new.self.rows c.in-Ok.more c.following.result k
    (c.args.now - c.in-Some.root.1) r
    c.record-kept.result is first moment (c.record-kept.ensures k r is at)
    (record {
      due_is = c.following.ensures.due;
      next_is = c.following.ensures.next;
      follows = c.following.ensures.follows;
      later =
          c.following.ensures.later;
      bound = c.following.ensures.bound;
    })
    (c.expire_root.ensures.rows k r is at)

pub loop-root-preserved : goal.loop-root-preserved
loop-root-preserved g c =
    let (k, r, is, at, moment, named, first) = c.in-Some.ensures.first in
    let i = c.loop-root.invariant in
    let found = c.record-found.ensures k r is at in let kept = c.record-kept.ensures k r is at in
    let count : c.record-kept.result.expired < c.args.most =
    (let e = found.2 in let same = kept.2 in let below = c.if-count-most.false in omega (arith, e, same, below)) in
    let (made, long, f, makes, few) = i.made in
    let t = turn_written (at_level g.C.Calls.called High) g.C.Calls.count g.R.Raise c.args.now
    c.loop-root.table.size c.args.most (g.R.Raise.view c.args.lock.now).marked (g.R.Raise.view c.args.low.now).marked
    c.args.table.now.rows (record { calls = c.args.calls.now; lock = c.args.lock.now; low = c.args.low.now }) made
    c.loop-root.table.rows c.expire_root.new.self.rows
    (record { calls = c.loop-root.calls; lock = c.loop-root.lock; low = c.loop-root.low })
    (record { calls = c.expire_at.new.calls; lock = c.expire_at.new.lock; low = c.expire_at.new.low })
    c.loop-root.lost c.in-Ok.more c.following.result k (c.args.now - c.in-Some.root.1) c.in-Some.root.2 r
    (record {
      level = c.record-found.result.level;
      interval = c.record-kept.result.interval;
      expired = c.record-kept.result.expired;
      lost = c.record-kept.result.lost;
      carried = c.record-kept.result.carried;
    })
    (record { rising = i.rising; sound = i.sound; ready = i.ready; fires = f; makes = makes; few = few })
    c.law.ensures.rising is first moment named (found.0, kept.1, kept.2, kept.3, kept.4) (omega arith) c.requires.now count
    (record {
      due_is = c.following.ensures.due;
      next_is = c.following.ensures.next;
      follows = c.following.ensures.follows;
      later =
          c.following.ensures.later;
      bound = c.following.ensures.bound;
    })
    c.in-Ok.ensures.acts c.in-Ok.ensures.few c.expire_at.ensures.sound_lock c.expire_at.ensures.sound_low
    (c.expire_root.ensures.rows k r is at) in
    let same_size = c.expire_root.ensures.size in
    record {
      size = same_size ∙ i.size;
      room = c.expire_root.ensures.room ∙ i.room;
      rising = t.rising;
      sound = t.sound;
      ready = subst (λ n. IsReady g.R.Raise.view n c.args.most (lock_and_low (g.R.Raise.view c.args.lock.now).marked
          (g.R.Raise.view
          c.args.low.now).marked) (lock_and_low c.expire_at.new.lock c.expire_at.new.low) c.expire_root.new.self.rows)
          (sym same_size) t.ready;
      made = (made ++ next_of r.timer ∷ [], simp length-append (omega (arith, long)), t.fires, t.makes, t.few);
    }

pub overflow_add-expired : goal.overflow_add-expired
overflow_add-expired g c =
    let (made, long, f, makes, few) = c.loop-root.invariant.made in
    let l = timers_long c.args.table.now.rows in
    let a = c.len-len.ensures in let b = c.size-size.ensures in
    let bound = fire_bound c.args.now made (timers_of c.args.table.now.rows)
    (timers_of c.loop-root.table.rows) f c.law.ensures.sound (omega (arith, l, a, b)) in
    omega (arith, bound, long)

pub overflow_add-lost : goal.overflow_add-lost
overflow_add-lost g c =
    let (made, long, f, makes, few) = c.loop-root.invariant.made in
    let l = timers_long c.args.table.now.rows in
    let a = c.len-len.ensures in let b = c.size-size.ensures in
    let bound = fire_bound c.args.now made (timers_of c.args.table.now.rows)
    (timers_of c.loop-root.table.rows) f c.law.ensures.sound (omega (arith, l, a, b)) in
    let one = c.in-Ok.ensures.few in
    omega (arith, bound, few, one)

pub returns-then-count-most-clause-refused : goal.returns-then-count-most-clause-refused
returns-then-count-most-clause-refused g c =
    let (k, r, is, at, moment, named, first) = c.in-Some.ensures.first in
    let i = c.loop-root.invariant in
    let (made, long, f, makes, few) = i.made in
    let (rest, whole) = front c.args.now made (timers_of c.args.table.now.rows) c.loop-root.table.rows k
    (c.args.now - c.in-Some.root.1) r f is
    first moment (omega arith) in
    let kept = c.record-found.ensures k r is at in
    let spent = c.if-count-most.true in rw c.stopped.ensures (
      made,
      next_of r.timer,
      rest,
      whole,
      long,
      c.loop-root.calls,
      makes,
      (λ id. refl),
      subst (WhyStopped g.C.Calls.may_refuse c.args.most c.loop-root.calls (next_of r.timer) (timers_of c.loop-root.table.rows))
          (sym c.spent.ensures)
          (r.timer, row_found c.loop-root.table.rows k r i.rising is, (sym named, (let e = kept.2 in omega (arith, e, spent)))),
    )

pub returns-in-Err-clause-refused : goal.returns-in-Err-clause-refused
returns-in-Err-clause-refused g c =
    let (k, r, is, at, moment, named, first) = c.in-Some.ensures.first in
    let i = c.loop-root.invariant in
    let (made, long, f, makes, few) = i.made in
    let (rest, whole) = front c.args.now made (timers_of c.args.table.now.rows) c.loop-root.table.rows k
    (c.args.now - c.in-Some.root.1) r f is
    first moment (omega arith) in
    let kept = c.record-found.ensures k r is at in
    let h = c.in-Err.ensures in
    let same_lock = h.lock in let same_low = h.low in rw c.stopped-in-Err.ensures (
      made,
      next_of r.timer,
      rest,
      whole,
      long,
      c.loop-root.calls,
      rw (same_lock, same_low) makes,
      h.kept,
      (
        r.timer,
        row_found c.loop-root.table.rows k r i.rising is,
        (
          sym named,
          (let e = kept.2 in let below = c.if-count-most.false in omega (arith, e, below)),
          sym kept.0
              ∙ h.high,
          h.refused,
        ),
      ),
    )

pub returns-clause-expired : goal.returns-clause-expired
returns-clause-expired g c =
    let (made, long, f, makes, few) = c.loop-root.invariant.made in
    let later = recursion_from_All (λ (t : Timer). c.args.now < t.moment)
    (timers_of c.loop-root.table.rows) c.in_default.ensures.none in
    sym long ∙ ap length (sym (fire_done c.args.now made (timers_of c.args.table.now.rows)
    (timers_of c.loop-root.table.rows) f later))

pub returns-clause-made : goal.returns-clause-made
returns-clause-made g c =
    let (made, long, f, makes, few) = c.loop-root.invariant.made in
    let later = recursion_from_All (λ (t : Timer). c.args.now < t.moment)
    (timers_of c.loop-root.table.rows) c.in_default.ensures.none in
    subst (λ xs. Makes (acting (at_level g.C.Calls.called High) g.C.Calls.count g.R.Raise) c.args.now xs (fire_state
    (cyclics_of c.args.table.now.rows) (record { calls = c.args.calls.now; lock = c.args.lock.now; low = c.args.low.now }))
    (fire_state (cyclics_of c.loop-root.table.rows) (record {
      calls = c.loop-root.calls;
      lock = c.loop-root.lock;
      low =
          c.loop-root.low;
    })) c.loop-root.lost)
    (sym (fire_done c.args.now made (timers_of c.args.table.now.rows) (timers_of c.loop-root.table.rows) f later)) makes
