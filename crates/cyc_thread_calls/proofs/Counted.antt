-- The lines of a run and the calls of its handlers, by name.
use Rattle.std.proofs.Common.{◌≡◌, ◌≢◌, ◌∙◌, ℕ, ◌<◌, ◌≤◌, ◌+◌, List, Option, Some, None, length, refl, sym, ap, arith}
use Rattle.std.specs.Prelude.{true, false, cond, ◌-◌}
use Rattle.std.specs.List.{slice_get}
use Rattle.std.proofs.lemmas.Option.{slice_get_within}
use Rattle.cyc_types.specs.declared.Calls.{Ghosts as Calls}
use Rattle.cyc_types.specs.declared.firing.Sent.{Sent}
use Rattle.cyc_types.specs.declared.level.Level.{Level}
use Rattle.cyc_types.specs.declared.level.Level.TheVariants.{Low, Lock, High}
use Rattle.cyc_types.specs.declared.level.Soft.TheVariants as soft
use Rattle.cyc_types.specs.Counting.{no_counts}
use Rattle.cyc_timers.specs.Acts.{same_level}
use Rattle.cyc_ring.specs.declared.ends.RaiseEnd.{RaiseEnd}
use Rattle.cyc_ring.specs.Ends.{raise_end}
use Rattle.cyc_threads.proofs.Spots.{same_some}
use Rattle.cyc_script.specs.declared.script.Script.{Script}
use Rattle.cyc_threads.specs.System.{SystemView}
use Rattle.cyc_system_rings.specs.Leading.{LeadCall}
use Rattle.cyc_system_rings.specs.Rings.{counts_in}
use Rattle.cyc_system_rings.specs.ByLevel.{level_in, counts_at, is_own}
use Rattle.cyc_system_rings.proofs.AtRings.{high_keeps, none_given}
use Rattle.cyc_threads.specs.declared.counting.Line.{Line}
use Rattle.cyc_threads.specs.declared.running.Ended.{Ended}
use Rattle.cyc_threads.specs.Reporting.{counts_told}
use Rattle.cyc_threads.specs.Running.{HasRun}
use Rattle.cyc_thread_calls.specs.Calling.{calls_at_level, lead_calls, last_system, id_of_name}
use Rattle.cyc_thread_calls.specs.Lines.{line_in}
use Rattle.cyc_thread_calls.proofs.Lining.{as_many, each_line}
use Rattle.cyc_thread_calls.proofs.Closing.{from_new, rings_made, handlers_called}

level_same : (level : Level) → same_level level level ≡ true
level_same Low = refl
level_same Lock = refl
level_same High = refl

level_other : (a b : Level) → a ≢ b → same_level a b ≡ false
level_other Low Low ne = absurd (ne refl)
level_other Low Lock ne = refl
level_other Low High ne = refl
level_other Lock Low ne = refl
level_other Lock Lock ne = absurd (ne refl)
level_other Lock High ne = refl
level_other High Low ne = refl
level_other High Lock ne = refl
level_other High High ne = absurd (ne refl)

module _ (id : ℕ) (way : List LeadCall) (t : SystemView RaiseEnd) where
  -- the counts of an id are those at its own level
  pub own_counts : (level : Level) → level_in id way ≡ Some level → counts_at level id way t ≡ counts_in id way t
  own_counts level e =
      ap (λ o. cond (is_own level o) (counts_in id way t) no_counts) e ∙ ap (λ b. cond b (counts_in id way t) no_counts)
      (level_same level)

  -- and none at another
  other_counts : (level other : Level) → level_in id way ≡ Some level → other ≢ level → counts_at other id way t ≡ no_counts
  other_counts level other e ne =
      ap (λ o. cond (is_own other o) (counts_in id way t) no_counts) e ∙ ap (λ b. cond b (counts_in id way t) no_counts)
      (level_other other level ne)

  none_counts : (level : Level) → level_in id way ≡ None → counts_at level id way t ≡ no_counts
  none_counts level e = ap (λ o. cond (is_own level o) (counts_in id way t) no_counts) e

-- what is left of a difference
less_by : (a b e l : ℕ) → a + l ≡ b + e → l ≤ e → a ≡ b + (e - l)
less_by a b e l s few = omega (arith, s, few)

module _ {C : Type 0} (handler : Calls C) (script : Script)
    (calls : List C) (e : Ended C) (text : List ℕ) (r : HasRun handler script calls e text) where
  abbrev way : List LeadCall
  way = lead_calls handler script calls e text r

  abbrev last : SystemView RaiseEnd
  last = last_system handler script calls e text r

  abbrev id_named : ℕ → Option ℕ
  id_named = id_of_name handler script calls e text r

  pub named_line : (name : ℕ) → name < length script.names.items → slice_get r.lines name
      ≡ Some (line_in (id_named name) way last)
  named_line name low = each_line handler raise_end (length script.names.items) name script.steps.items
      r.lines r.played.first r.played.last r.played.told r.played.runs r.played.reports r.played.begins.names_are low

  -- a line is that of its name
  pub line_is : (name : ℕ) (line : Line) → slice_get r.lines name ≡ Some line → line ≡ line_in (id_named name) way last
  line_is name line at =
      let many = as_many handler raise_end (length script.names.items) script.steps.items
      r.lines r.played.first r.played.last r.played.told r.played.runs r.played.reports r.played.begins.names_are in
      let low = slice_get_within r.lines name line at in
      same_some (sym at ∙ named_line name (omega (arith, many, low)))

  -- no more was lost than expired
  few_at : (level : Level) (id : ℕ) → (counts_at level id way last).lost ≤ (counts_at level id way last).sent
  few_at Low id = let a = rings_made handler script calls e text r soft.Low id in omega (arith, a)
  few_at Lock id = let a = rings_made handler script calls e text r soft.Lock id in omega (arith, a)
  few_at High id = let a = high_keeps handler id r.played.first.side r.played.told.side way
      (from_new handler script calls e text r) in omega (arith, a)

  pub few_lost : (id : ℕ) → (counts_in id way last).lost ≤ (counts_in id way last).sent
  few_lost id = by (level_in id way) refl
    where
      by : (o : Option Level) → level_in id way ≡ o → (counts_in id way last).lost ≤ (counts_in id way last).sent
      by (Some level) is = let few = few_at level id in let same = own_counts id way last level is in
          let a = ap (λ (c : Sent). c.lost) same in let b = ap (λ (c : Sent). c.sent) same in omega (arith, few, a, b)
      by None is = let same = none_given handler id r.played.first.side r.played.told.side way
          (from_new handler script calls e text r) is in
          let a = ap (λ (c : Sent). c.lost) same in omega (arith, a)

  pub line_few : (name : ℕ) (line : Line) → slice_get r.lines name ≡ Some line → line.lost ≤ line.expired
  line_few name line at = by (id_named name) (line_is name line at)
    where
      by : (o : Option ℕ) → line ≡ line_in o way last → line.lost ≤ line.expired
      by None is = let a = ap (λ (l : Line). l.lost) is in omega (arith, a)
      by (Some id) is = let few = few_lost id in let a = ap (λ (l : Line). l.lost) is in let b = ap (λ
          (l : Line). l.expired) is in
          omega (arith, few, a, b)

  pub line_called : (name id : ℕ) (level : Level) (line : Line) → slice_get r.lines name ≡ Some line → id_named name ≡ Some id
      → level_in id way ≡ Some level → calls_at_level handler.count level id r.after ≡ calls_at_level handler.count level id
      r.before +
      (counts_told line).called
  line_called name id level line at given known =
      let is = line_is name line at ∙ ap (λ o. line_in o way last) given in
      let same = own_counts id way last level known in
      let a = handlers_called handler script calls e text r level id in
      let b = ap (λ (l : Line). l.lost) is in let c = ap (λ (l : Line). l.expired) is in
      let p = ap (λ (x : Sent). x.lost) same in let q = ap (λ (x : Sent). x.sent) same in
      less_by (calls_at_level handler.count level id r.after) (calls_at_level handler.count level id r.before) line.expired
      line.lost
      (omega (arith, a, b, c, p, q)) (line_few name line at)

  at_none : (level : Level) (id : ℕ) → counts_at level id way last ≡ no_counts
      → calls_at_level handler.count level id r.after ≡ calls_at_level handler.count level id r.before
  at_none level id none =
      let a = handlers_called handler script calls e text r level id in
      let p = ap (λ (x : Sent). x.lost) none in let q = ap (λ (x : Sent). x.sent) none in omega (arith, a, p, q)

  pub none_elsewhere : (id : ℕ) (level other : Level) → level_in id way ≡ Some level → other ≢ level
      → calls_at_level handler.count other id r.after ≡ calls_at_level handler.count other id r.before
  none_elsewhere id level other known ne = at_none other id (other_counts id way last level other known ne)

  pub none_ungiven : (id : ℕ) (level : Level) → level_in id way ≡ None
      → calls_at_level handler.count level id r.after ≡ calls_at_level handler.count level id r.before
  none_ungiven id level none = at_none level id (none_counts id way last level none)
