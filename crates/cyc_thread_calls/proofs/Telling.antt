-- The lines of a report are the counts of the system that it was asked of.
use Rattle.std.proofs.Common.{◌≡◌, ◌∙◌, ℕ, List, [], ◌∷◌, Option, Some, None, map, refl, sym, ap}
use Rattle.std.proofs.Common.{subst, arith}
use Rattle.std.specs.Prelude.{Bool, true, false, sum_by}
use Rattle.std.specs.List.{FoldsTo}
use Rattle.std.specs.Option.{option_map_or}
use Rattle.cyc_types.specs.declared.Raise.{Ghosts as Raise}
use Rattle.cyc_threads.proofs.Lists.{among}
use Rattle.cyc_threads.proofs.Recording.{record_here}
use Rattle.cyc_threads.proofs.Spots.{none_some}
use Rattle.cyc_agreement.specs.Cpus.{IsCpu}
use Rattle.cyc_cpu.specs.Cpu.{CpuView}
use Rattle.cyc_timers.specs.Rows.{Cyclic}
use Rattle.cyc_types.specs.declared.firing.Sent.{Sent}
use Rattle.cyc_places.specs.declared.record.Record.{Record}
use Rattle.cyc_threads.proofs.Answering.{totals_all}
use Rattle.cyc_threads.proofs.Sums.{sum_none, none_found}
use Rattle.cyc_threads.specs.SystemTotals.{SystemTotals}
use Rattle.cyc_threads.specs.System.{SystemView, has, ids_of, record_of}
use Rattle.cyc_threads.specs.Counts.{all_expired, all_lost}
use Rattle.cyc_threads.specs.Laws.{cyclic_in}
use Rattle.cyc_threads.specs.Calls.{Changes, AskTotals}
use Rattle.cyc_threads.specs.Sound.{IsSound}
use Rattle.cyc_threads.specs.Keeping.{SameCounts}
use Rattle.cyc_threads.proofs.Counts.{counts_same}
use Rattle.cyc_words.specs.declared.named.Named.{Named}
use Rattle.cyc_words.specs.declared.named.Named.TheVariants.{Nothing, Cyclic as Here, Leaving, Removed}
use Rattle.cyc_threads.specs.declared.progress.Progress.{Progress}
use Rattle.cyc_threads.specs.declared.counting.Line.{Line}
use Rattle.cyc_threads.specs.Counting.{NameLine, Tells, TellsOf, AsksTotalsOf, Reports, no_line, receipt_line, totals_line}
use Rattle.cyc_threads.proofs.Quiet.{Rests, lines_quiet}

-- the line of what a name has, by the counts of a system
abbrev pub line_at : {R : Type 0} → Named → SystemView R → Line
line_at Nothing s = no_line
line_at (Here id) s = record { expired = all_expired id s; lost = all_lost id s; pending = 0 }
line_at (Leaving id) s = record { expired = all_expired id s; lost = all_lost id s; pending = 0 }
line_at (Removed receipt) s = receipt_line receipt

module _ {R : Type 0} (firing : Raise R) (id : ℕ) where
  -- an id that has no record is nowhere
  module _ (s : SystemView R) (sound : IsSound firing.view s) (none : record_of id s ≡ None) where
    nowhere : (n : ℕ) (b : Bool) → has n id s.cpus ≡ b → b ≡ false
    nowhere n false e = refl
    nowhere n true e = let (k, r, is, named, stands, on) = sound.agrees.known n id e in
        absurd (none_some (sym none ∙ record_here id k r s.records sound.fit.rising is named))

    none_here : (h : Cyclic → ℕ) (n : ℕ) (cpu : CpuView R) → IsCpu n cpu s.cpus → option_map_or h (cyclic_in id cpu) 0 ≡ 0
    none_here h n cpu at = ap (λ o. option_map_or h o 0)
        (none_found cpu.cyclics id (sym (ap (λ o. among id (option_map_or ids_of o [])) at) ∙ nowhere n (has n id s.cpus) refl))

    nothing_expired : all_expired id s ≡ 0
    nothing_expired =
        let a = sum_none (λ cpu. option_map_or (λ c. c.timer.expired) (cyclic_in id cpu) 0) s.cpus.cpus
        (none_here (λ c. c.timer.expired)) in
        let b = ap (λ o. option_map_or (λ (r : Record). sum_by (λ e. e.sent) r.ended) o 0) none in omega (arith, a, b)

    nothing_lost : all_lost id s ≡ 0
    nothing_lost =
        let a = sum_none (λ cpu. option_map_or (λ c. c.lost) (cyclic_in id cpu) 0) s.cpus.cpus (none_here (λ c. c.lost)) in
        let b = ap (λ o. option_map_or (λ (r : Record). sum_by (λ e. e.lost) r.ended) o 0) none in omega (arith, a, b)

  -- what a system answers of an id
  asked_is : (answer : Option SystemTotals) (s t : SystemView R) → IsSound firing.view s
      → Changes firing s (AskTotals id answer) t
      → ((totals_line answer).expired ≡ all_expired id s) × ((totals_line answer).lost ≡ all_lost id s)
  asked_is (Some totals) s t sound d = (
    totals_all firing (λ (e : Sent). e.sent) id (λ a b. refl) totals s t sound.lawful d totals.expired
        (λ way r sums. sums.expired),
    totals_all firing (λ (e : Sent). e.lost) id (λ a b. refl) totals s t sound.lawful d totals.lost (λ way r sums. sums.lost),
  )
  asked_is None s t sound (none, e) = (sym (nothing_expired s sound none), sym (nothing_lost s sound none))

  -- the question for one changes the counts of none
  asked_same : (own : ℕ) (answer : Option SystemTotals) (s t : SystemView R) → IsSound firing.view s → IsSound firing.view t
      → Changes firing s (AskTotals own answer) t → SameCounts id s t
  asked_same own answer s t a b d = (
    counts_same firing (λ (e : Sent). e.sent) refl (λ x y. refl) id s t (AskTotals own answer) a b d (λ over. over),
    counts_same firing (λ (e : Sent). e.lost) refl (λ x y. refl) id s t (AskTotals own answer) a b d (λ over. over),
  )

module _ {C R : Type 0} (firing : Raise R) where
  abbrev Sound : Progress R C → Type 0
  Sound p = IsSound firing.view p.side.system

  -- a line changes no counts
  line_same : (id : ℕ) (named : Named) (line : Line) (s t : Progress R C) → TellsOf firing named line s t → Sound s
      → Sound t × SameCounts id s.side.system t.side.system
  line_same id Nothing line s t (is, e) sound = stays e
    where
      stays : t ≡ s → Sound t × SameCounts id s.side.system t.side.system
      stays e = (subst Sound (sym e) sound, (ap (λ p. all_expired id p.side.system) e, ap (λ p. all_lost id p.side.system) e))
  line_same id (Here own) line s t (answer, c, is) sound =
      (c.sound, asked_same firing id own answer s.side.system t.side.system sound c.sound c.did)
  line_same id (Leaving own) line s t (answer, c, is) sound =
      (c.sound, asked_same firing id own answer s.side.system t.side.system sound c.sound c.did)
  line_same id (Removed receipt) line s t (is, e) sound =
      (subst Sound (sym e) sound, (ap (λ p. all_expired id p.side.system) e, ap (λ p. all_lost id p.side.system) e))

  lines_same : (id : ℕ) (all : List NameLine) (s t : Progress R C) → FoldsTo (Tells firing) s all t → Sound s
      → Sound t × SameCounts id s.side.system t.side.system
  lines_same id [] s t e sound =
      (subst Sound e sound, (ap (λ p. all_expired id p.side.system) (sym e), ap (λ p. all_lost id p.side.system) (sym e)))
  lines_same id (told ∷ all) s t (u, d, rest) sound =
      let (mid, (a, b)) = line_same id told.named told.line s u d sound in
      let (last, (p, q)) = lines_same id all u t rest mid in (last, (p ∙ a, q ∙ b))

  -- each line says what the system has at the end
  asks_is : (id : ℕ) (line : Line) (s t : Progress R C) → AsksTotalsOf firing id line s t → Sound s → line.pending ≡ 0
      → (e l : ℕ) → e ≡ all_expired id s.side.system → l ≡ all_lost id s.side.system
      → line ≡ record { expired = e; lost = l; pending = 0 }
  asks_is id line s t (answer, c, is) sound none e l a b =
      let (p, q) = asked_is firing id answer s.side.system t.side.system sound c.did in
      λ i. record {
        expired = (ap (λ (x : Line). x.expired) is ∙ p ∙ sym a) i;
        lost = (ap (λ (x : Line). x.lost) is ∙ q ∙ sym b) i;
        pending = none i;
      }

  line_is : (named : Named) (line : Line) (s u : Progress R C) (t : SystemView R) → TellsOf firing named line s u → Sound s
      → line.pending ≡ 0 → ((id : ℕ) → SameCounts id s.side.system t) → line ≡ line_at named t
  line_is Nothing line s u t (is, e) sound none same = is
  line_is (Here id) line s u t d sound none same =
      asks_is id line s u d sound none (all_expired id t) (all_lost id t) (same id).0 (same id).1
  line_is (Leaving id) line s u t d sound none same =
      asks_is id line s u d sound none (all_expired id t) (all_lost id t) (same id).0 (same id).1
  line_is (Removed receipt) line s u t (is, e) sound none same = is

  pub lines_are : (all : List NameLine) (s t : Progress R C) → FoldsTo (Tells firing) s all t → Sound s → Rests firing s
      → map (λ (w : NameLine). w.line) all ≡ map (λ named. line_at named t.side.system) (map (λ (w : NameLine). w.named) all)
  lines_are [] s t e sound rests = refl
  lines_are (told ∷ all) s t (u, d, rest) sound rests =
      let (calm, none) = lines_quiet firing (told ∷ []) s u (u, d, refl) rests in
      let (mid, one) = line_same 0 told.named told.line s u d sound in
      let here = line_is told.named told.line s u t.side.system d sound (none 0 told.line (omega arith))
      (λ id. (lines_same id (told ∷ all) s t (u, d, rest) sound).1) in
      λ i. here i ∷ lines_are all u t rest mid calm i

  -- the line of a name
  pub report_is : (lines : List Line) (s t : Progress R C) → Reports firing lines s t → Sound s → Rests firing s
      → lines ≡ map (λ named. line_at named t.side.system) s.names
  report_is lines s t r sound rests = sym r.lines_are ∙ lines_are r.all s t r.tells sound rests
      ∙ ap (λ ns. map (λ named. line_at named t.side.system) ns) r.names
