-- What expired no more often than the ceiling lost nothing in a run.
use Rattle.std.proofs.Common.{◌≡◌, ℕ, zero, suc, ◌<◌, ◌≤◌, List, [], Option, Some, None, refl, sym, ap, subst, arith}
use Rattle.std.specs.Prelude.{sum_by}
use Rattle.std.specs.List.{slice_get}
use Rattle.cyc_types.specs.declared.Calls.{Ghosts as Calls}
use Rattle.cyc_types.specs.declared.firing.Sent.{Sent}
use Rattle.cyc_types.specs.declared.level.Level.{Level}
use Rattle.cyc_types.specs.declared.level.Level.TheVariants.{Low, Lock, High}
use Rattle.ring_rule.specs.Trail.{raises_of, losses_on_trail}
use Rattle.cyc_ring.specs.declared.ends.RaiseEnd.{RaiseEnd}
use Rattle.cyc_ring.specs.Ends.{raise_end, raise_trail}
use Rattle.cyc_cpu.specs.Cpu.{CpuView}
use Rattle.cyc_threads.proofs.Sums.{sum_none, one_of_sum}
use Rattle.cyc_script.specs.declared.script.Script.{Script}
use Rattle.cyc_threads.specs.System.{SystemView}
use Rattle.cyc_system_rings.specs.Leading.{LeadCall}
use Rattle.cyc_system_rings.specs.Rings.{counts_in}
use Rattle.cyc_system_rings.specs.ByLevel.{level_in, counts_at}
use Rattle.cyc_system_rings.proofs.AtRings.{at_level, high_keeps, none_given}
use Rattle.cyc_threads.specs.declared.counting.Line.{Line}
use Rattle.cyc_threads.specs.declared.running.Ended.{Ended}
use Rattle.cyc_threads.specs.Running.{HasRun}
use Rattle.cyc_thread_calls.specs.Calling.{lead_calls, last_system, id_of_name}
use Rattle.cyc_thread_calls.specs.Lines.{line_in}
use Rattle.cyc_thread_calls.proofs.Closing.{from_new, new_ends}
use Rattle.cyc_thread_calls.proofs.Counted.{own_counts, line_is}
use Rattle.cyc_thread_calls.proofs.Ends.{OfAll, led_all}
use Rattle.cyc_thread_calls.proofs.Sparing.{IsSpare, goes_spare}
use Rattle.cyc_thread_calls.proofs.Starting.{is_new, new_trails, new_ceilings}

-- nothing was lost at one end
not_lost : (n : ℕ) → (0 < n → ⊥) → n ≡ 0
not_lost zero none = refl
not_lost (suc n) none = absurd (none (omega arith))

module _ (ceiling id : ℕ) (end_at : CpuView RaiseEnd → RaiseEnd) where
  abbrev raised : CpuView RaiseEnd → ℕ
  raised cpu = raises_of id (raise_trail (end_at cpu).seat)

  abbrev dropped : CpuView RaiseEnd → ℕ
  dropped cpu = losses_on_trail id (raise_trail (end_at cpu).seat)

  -- of ends that spare, on all CPUs
  ends_spare : (xs : List (CpuView RaiseEnd)) → ((n : ℕ) (x : CpuView RaiseEnd) → slice_get xs n ≡ Some x
      → IsSpare ceiling (end_at x))
      → sum_by raised xs ≤ ceiling → sum_by dropped xs ≡ 0
  ends_spare xs spare few = sum_none dropped xs (λ n x at. not_lost (dropped x)
      (λ some. (let a = (spare n x at).spare id some in let b = one_of_sum raised xs n x at in omega (arith, a, b, few))))

module _ {C : Type 0} (handler : Calls C) (script : Script)
    (calls : List C) (e : Ended C) (text : List ℕ) (r : HasRun handler script calls e text) where
  abbrev way : List LeadCall
  way = lead_calls handler script calls e text r

  abbrev last : SystemView RaiseEnd
  last = last_system handler script calls e text r

  spare_new : (x : RaiseEnd) → x.seat.setting.ceiling ≡ script.ceiling → raise_trail x.seat ≡ [] → IsSpare script.ceiling x
  spare_new x same none = record {
    same = same;
    spare = λ id some. (let a = ap (losses_on_trail id) none in absurd (omega (arith, a, some)));
  }

  spare_first : OfAll raise_end (IsSpare script.ceiling)
      (goes_spare script.ceiling) r.played.first.side.system.cpus.cpus
  spare_first n cpu at =
      let (x, is, here) = is_new _ script.ceiling r.before r.played.first r.played.begins r.new n cpu at in
      let (a, b) = new_trails _ script.ceiling r.before r.played.first r.played.begins r.new n x here in
      let (p, q) = new_ceilings _ script.ceiling r.before r.played.first r.played.begins r.new n x here in (
        subst (λ (y : CpuView RaiseEnd). IsSpare script.ceiling y.lock) (sym is) (spare_new x.0 p a),
        subst (λ (y : CpuView RaiseEnd). IsSpare script.ceiling y.low) (sym is) (spare_new x.1 q b),
      )

  pub spare_last : OfAll raise_end (IsSpare script.ceiling) (goes_spare script.ceiling) last.cpus.cpus
  spare_last = let l = from_new handler script calls e text r in
      led_all raise_end (IsSpare script.ceiling) (goes_spare script.ceiling) handler way
      r.played.first.side r.played.told.side l.sound l.ready l.run spare_first

  spared_at : (level : Level) (id : ℕ) → (counts_at level id way last).sent ≤ script.ceiling
      → (counts_at level id way last).lost ≡ 0
  spared_at Low id few =
      let (a, b) = at_level handler id r.played.first.side r.played.told.side way
      (from_new handler script calls e text r) Low in
      let none = sum_none (raised script.ceiling id (λ cpu. cpu.low)) r.played.first.side.system.cpus.cpus
      (λ n x at. ap (raises_of id) (new_ends handler script calls e text r n x at).1) in
      let zero_lost = ends_spare script.ceiling id (λ cpu. cpu.low) last.cpus.cpus (λ n x at. (spare_last n x at).1)
      (omega (arith, a, none, few)) in omega (arith, b, zero_lost)
  spared_at Lock id few =
      let (a, b) = at_level handler id r.played.first.side r.played.told.side way
      (from_new handler script calls e text r) Lock in
      let none = sum_none (raised script.ceiling id (λ cpu. cpu.lock)) r.played.first.side.system.cpus.cpus
      (λ n x at. ap (raises_of id) (new_ends handler script calls e text r n x at).0) in
      let zero_lost = ends_spare script.ceiling id (λ cpu. cpu.lock) last.cpus.cpus (λ n x at. (spare_last n x at).0)
      (omega (arith, a, none, few)) in omega (arith, b, zero_lost)
  spared_at High id few = high_keeps handler id r.played.first.side r.played.told.side way
      (from_new handler script calls e text r)

  pub spared_id : (id : ℕ) → (counts_in id way last).sent ≤ script.ceiling → (counts_in id way last).lost ≡ 0
  spared_id id few = by (level_in id way) refl
    where
      by : (o : Option Level) → level_in id way ≡ o → (counts_in id way last).lost ≡ 0
      by (Some level) is = let same = own_counts id way last level is in
          let a = ap (λ (c : Sent). c.sent) same in let b = ap (λ (c : Sent). c.lost) same in
          let none = spared_at level id (omega (arith, a, few)) in omega (arith, b, none)
      by None is = ap (λ (c : Sent). c.lost) (none_given handler id r.played.first.side r.played.told.side way
          (from_new handler script calls e text r) is)

  pub line_spared : (name : ℕ) (line : Line) → slice_get r.lines name ≡ Some line → line.expired ≤ script.ceiling → line.lost ≡ 0
  line_spared name line at few = by (id_of_name handler script calls e text r name)
      (line_is handler script calls e text r name line at)
    where
      by : (o : Option ℕ) → line ≡ line_in o way last → line.lost ≡ 0
      by None is = ap (λ (l : Line). l.lost) is
      by (Some id) is = let a = ap (λ (l : Line). l.lost) is in let b = ap (λ (l : Line). l.expired) is in
          let none = spared_id id (omega (arith, b, few)) in omega (arith, a, none)
