use Rattle.std.proofs.Common.{◌∷◌, [], Some, None, inr, sym, ap, ◌∙◌, subst, refl}
use Rattle.std.specs.Prelude.{remove}
use Rattle.cyc_types.specs.Firing.{Polls, MayPoll}
use Rattle.cyc_types.specs.Runs.{Goes}
use Rattle.cyc_types.specs.declared.level.Level.TheVariants.{Low, Lock}
use Rattle.cyc_timers.specs.Rows.{cyclic_of, cyclics_of}
use Rattle.cyc_cpu.specs.Cpu.{CpuView}
use Rattle.cyc_timers.specs.Ends.{IsHard, lock_and_low}
use Rattle.cyc_cpu.specs.Removal.{calls_at, HasPolled}
use Rattle.cyc_cpu.proofs.Lawful.{spared_row}
use Rattle.cyc_cpu.proofs.Cyclics.{is_cyclic}
use Rattle.cyc_timers.proofs.Readying.{hard_kept}
use Rattle.cyc_cpu.proofs.Removals.{hard_left, polled_left, polls_keep, marked_lock, marked_low, unmarked_lock, unmarked_low}
use Rattle.cyc_cpu.proofs.Removals.{cyclics_less, waits_from, ends_from, has_polled, polled_sent}
use Rattle.cyc_cpu.proofs.hard.Hard.poll_remove.Goals as goal

pub poll_at-requires-clause-lock : goal.poll_at-requires-clause-lock
poll_at-requires-clause-lock g c at =
    let (k, r, is, named, there) = c.in-Some.ensures.some in
    let i = c.self.inside in let h = c.self.invariant in
    let own = sym (c.record-kept.ensures k r is there).0 ∙ at in
    let (s, stay, rest) = h.ready.lock_end.here k r is own in
    subst (λ q. MayPoll q (g.R.Raise.view i.lock)) named (
      (s, stay, tt),
      marked_lock g.R.Raise.view i.table.size i.most i.removal i.lock i.low i.table.rows k r h
          c.law.ensures.rising is (c.in_ok-id.was ∙ ap Some (sym named)) own,
      h.ready.lock_end.free,
    )

pub poll_at-requires-clause-low : goal.poll_at-requires-clause-low
poll_at-requires-clause-low g c at =
    let (k, r, is, named, there) = c.in-Some.ensures.some in
    let i = c.self.inside in let h = c.self.invariant in
    let own = sym (c.record-kept.ensures k r is there).0 ∙ at in
    let (s, stay, rest) = h.ready.low_end.here k r is own in
    subst (λ q. MayPoll q (g.R.Raise.view i.low)) named (
      (s, stay, tt),
      marked_low g.R.Raise.view i.table.size i.most i.removal i.lock i.low i.table.rows k r h
          c.law.ensures.rising is (c.in_ok-id.was ∙ ap Some (sym named)) own,
      h.ready.low_end.free,
    )

pub invariant_of-self : goal.invariant_of-self
invariant_of-self g c =
    let i = c.self.inside in let e = c.poll_at.ensures in let h = c.self.invariant in
    let (a, b) = c.if-not-poll_at.ensures.waits in
    hard_kept g.R.Raise.view i.table.size i.most i.removal i.lock i.low c.poll_at.new.lock c.poll_at.new.low i.table.rows h
    (polls_keep g.R.Raise Lock c.record-kept.result.level c.in_ok-id.id i.lock c.poll_at.new.lock a)
    (e.sound_lock h.ready.lock_end.sound)
    (polls_keep g.R.Raise Low c.record-kept.result.level c.in_ok-id.id i.low c.poll_at.new.low b)
    (e.sound_low h.ready.low_end.sound)

pub returns-then-not-poll_at : goal.returns-then-not-poll_at
returns-then-not-poll_at g c =
    let (k, r, is, named, there) = c.in-Some.ensures.some in
    let i = c.self.inside in
    let (a, b) = c.if-not-poll_at.ensures.waits in
    let level = (c.record-kept.ensures k r is there).0 in
    inr (
      c.in_ok-id.id,
      sym (ap (λ (x : CpuView _). x.removal) c.self.view_is) ∙ c.in_ok-id.was,
      waits_from g.R.Raise c.in_ok-id.id _ _ _ c.self.view_is (record {
        position = k;
        cyclic = cyclic_of r;
        here = is_cyclic i.table.rows k r is;
        named = named;
        goes = (
          subst (λ l. Goes g.R.Raise i.lock
              (calls_at Lock l (Polls c.in_ok-id.id None ∷ [])) c.poll_at.new.lock) level a,
          subst (λ l. Goes g.R.Raise i.low (calls_at Low l (Polls c.in_ok-id.id None ∷ [])) c.poll_at.new.low)
              level b,
        );
        cyclics = refl;
        kept = record { removal = refl; size = refl; room = refl; most = refl; suspended = refl };
      }),
    )

pub invariant_of-self-2 : goal.invariant_of-self-2
invariant_of-self-2 g c =
    let (k, r, is, named, there) = c.in-Some.ensures.some in
    let i = c.self.inside in let e = c.poll_at.ensures in let h = c.self.invariant in
    let (counts, a, b) = c.if-not-poll_at.ensures.ended in
    let level = (c.record-kept.ensures k r is there).0 in
    let removed = c.in_ok-id.was ∙ ap Some (sym named) in
    let lock = subst (λ q. Goes g.R.Raise i.lock
    (calls_at Lock r.timer.level (Polls q (Some counts) ∷ [])) c.poll_at.new.lock) (sym named)
    (subst (λ l. Goes g.R.Raise i.lock
    (calls_at Lock l (Polls c.in_ok-id.id (Some counts) ∷ [])) c.poll_at.new.lock) level a) in
    let low = subst (λ q. Goes g.R.Raise i.low
    (calls_at Low r.timer.level (Polls q (Some counts) ∷ [])) c.poll_at.new.low) (sym named)
    (subst (λ l. Goes g.R.Raise i.low
    (calls_at Low l (Polls c.in_ok-id.id (Some counts) ∷ [])) c.poll_at.new.low) level b) in
    let left = hard_left g.R.Raise.view i.table.size i.table.rows k r c.law.ensures.rising is i.most i.removal
    i.lock i.low c.poll_at.new.lock c.poll_at.new.low h
    (polled_left g.R.Raise Lock r.timer.level r.timer.id counts i.lock c.poll_at.new.lock lock
    (e.sound_lock h.ready.lock_end.sound)
    (unmarked_lock g.R.Raise.view i.table.size i.most i.removal i.lock i.low i.table.rows k r h c.law.ensures.rising
    is removed))
    (polled_left g.R.Raise Low r.timer.level r.timer.id counts i.low c.poll_at.new.low low
    (e.sound_low h.ready.low_end.sound)
    (unmarked_low g.R.Raise.view i.table.size i.most i.removal i.lock i.low i.table.rows k r h c.law.ensures.rising
    is removed)) in
    subst (λ xs. IsHard g.R.Raise.view c.remove.new.self.size i.most None (lock_and_low c.poll_at.new.lock c.poll_at.new.low) xs)
    (sym (c.remove.ensures.rows k r is named))
    (subst (λ m. IsHard g.R.Raise.view m i.most None (lock_and_low c.poll_at.new.lock c.poll_at.new.low) (remove i.table.rows k))
    (sym c.remove.ensures.size) left)

pub returns : goal.returns
returns g c =
    let (k, r, is, named, there) = c.in-Some.ensures.some in
    let i = c.self.inside in
    let (counts, a, b) = c.if-not-poll_at.ensures.ended in
    let rec = c.record-kept.ensures k r is there in
    let lock' = subst (λ q. Goes g.R.Raise i.lock
    (calls_at Lock r.timer.level (Polls q (Some counts) ∷ [])) c.poll_at.new.lock) (sym named)
    (subst (λ l. Goes g.R.Raise i.lock
    (calls_at Lock l (Polls c.in_ok-id.id (Some counts) ∷ [])) c.poll_at.new.lock) rec.0 a) in
    let low' = subst (λ q. Goes g.R.Raise i.low
    (calls_at Low r.timer.level (Polls q (Some counts) ∷ [])) c.poll_at.new.low) (sym named)
    (subst (λ l. Goes g.R.Raise i.low
    (calls_at Low l (Polls c.in_ok-id.id (Some counts) ∷ [])) c.poll_at.new.low) rec.0 b) in
    let polled = subst (λ (v : CpuView _). HasPolled g.R.Raise.view counts v (cyclic_of r)) c.self.view_is (record {
      polled = has_polled g.R.Raise i.table.size (g.R.Raise.view i.lock).marked
          (g.R.Raise.view i.low).marked i.lock i.low c.poll_at.new.lock c.poll_at.new.low i.table.rows k r counts _
          c.self.invariant.ready.lock_end c.self.invariant.ready.low_end is lock' low'
          (polled_sent g.R.Raise r.timer.id counts);
      spared = spared_row g.R.Raise.view i.table.size i.table.room i.most i.removal i.lock i.low i.table.rows c.self.invariant
          c.law.ensures.rising k r is;
    }) in
    ends_from g.R.Raise c.receipt_of.result c.in_ok-id.id
    (cyclic_of r) counts _ _ _ c.self.view_is c.in_ok-id.was c.receipt_of.ensures.id
    (c.receipt_of.ensures.id ∙ sym named, c.receipt_of.ensures.sent ∙ rec.2, c.receipt_of.ensures.lost ∙ rec.3)
    polled
    (record {
      position = k;
      here = is_cyclic i.table.rows k r is;
      named = named;
      goes = (
        subst (λ l. Goes g.R.Raise i.lock
            (calls_at Lock l (Polls c.in_ok-id.id (Some counts) ∷ [])) c.poll_at.new.lock) rec.0 a,
        subst (λ l. Goes g.R.Raise i.low
            (calls_at Low l (Polls c.in_ok-id.id (Some counts) ∷ [])) c.poll_at.new.low) rec.0 b,
      );
      cyclics = ap cyclics_of (c.remove.ensures.rows k r is named) ∙ cyclics_less i.table.rows k;
      removal = refl;
      size = c.remove.ensures.size;
      room = c.remove.ensures.room;
      most = refl;
      suspended = refl;
    })
