-- A remove and an advance of a calm script: each is accepted as the closed form says, and what is true between two steps stays.
use Rattle.std.proofs.Common.{◌≡◌, ◌∙◌, ℕ, ◌<◌, ◌≤◌, inl, inr, Bool, true, false, cond}
use Rattle.std.proofs.Common.{Option, Some, None, Result, Ok, Err, List, [], ◌∷◌, length, map, refl, sym, ap}
use Rattle.std.proofs.Common.{subst, arith}
use Rattle.std.specs.Prelude.{is_ok}
use Rattle.std.specs.Option.{option_map_or}
use Rattle.std.proofs.lemmas.List.{length-replicate}
use Rattle.std.proofs.lemmas.Option.{slice_get_within}
use Rattle.cyc_types.specs.declared.Calls.{Ghosts as Calls}
use Rattle.cyc_types.specs.declared.Raise.{Ghosts as Raise}
use Rattle.cyc_types.specs.Series.{never}
use Rattle.cyc_types.specs.declared.refusal.Refusal.{Refusal}
use Rattle.cyc_types.specs.declared.refusal.Refusal.TheVariants as why
use Rattle.cyc_types.specs.Reasons.{first_refusal, busy}
use Rattle.cyc_timers.specs.declared.fire.Fired.{Fired}
use Rattle.cyc_timers.specs.declared.fire.FireRefused.{FireRefused}
use Rattle.cyc_cpu.specs.Cpu.{CpuView, running}
use Rattle.cyc_places.specs.Places.{HasNoRecord}
use Rattle.cyc_threads.proofs.FirstReason.{not_when, passes}
use Rattle.cyc_threads.proofs.Spots.{none_some, get_some}
use Rattle.cyc_threads.specs.System.{SystemView, removal_on, is_unknown}
use Rattle.cyc_threads.specs.SystemRemoval.{SystemRemoval}
use Rattle.cyc_threads.specs.SystemRemoval.TheVariants.{Done, Kept}
use Rattle.cyc_threads.specs.Removing.{unknown_cyclic, busy_on_each, cpus_with}
use Rattle.cyc_threads.specs.Calls.{Changes, BeginRemove}
use Rattle.cyc_threads.specs.SystemSide.{SystemSide}
use Rattle.cyc_threads.specs.Advanced.{Advanced}
use Rattle.cyc_threads.specs.Advancing.{AllFire, moment_asked, FiresIf}
use Rattle.cyc_words.specs.declared.named.Named.{Named}
use Rattle.cyc_words.specs.declared.named.Named.TheVariants.{Nothing, Cyclic, Leaving, Removed}
use Rattle.cyc_threads.specs.declared.progress.Progress.{Progress}
use Rattle.cyc_threads.specs.StepCalls.{CallsFor, Fires}
use Rattle.cyc_words.specs.Names.{named_at, cyclic_id, has_open_removal, NoneLeaves}
use Rattle.cyc_words.specs.Words.{WithId}
use Rattle.cyc_thread_calls.proofs.Called.{call_with}
use Rattle.cyc_thread_calls.specs.Meeting.{is_taken as is_done}
use Rattle.cyc_thread_calls.specs.Way.{Standing, Absent, OnOne, OnAll, is_here, with_standing}
use Rattle.cyc_thread_calls.proofs.Keeping.{AllStill, begun_given}
use Rattle.cyc_thread_calls.proofs.Fitting.{Is, IsThere, Fits, fits_set, standing_here, standing_beside, name_low, is_kept}
use Rattle.cyc_thread_calls.proofs.Fitting.{same_records}
use Rattle.cyc_thread_calls.proofs.Waiting.{IsCalmNow}
use Rattle.cyc_thread_calls.proofs.Moving.{none_removed}

pub none_busy : {R : Type 0} (s : SystemView R) (ns : List ℕ) → AllStill s.cpus
    → first_refusal (map (λ (n : ℕ). busy (removal_on n s.cpus)) ns) ≡ None
none_busy s [] still = refl
none_busy s (n ∷ ns) still = passes (busy (removal_on n s.cpus)) (map (λ (m : ℕ). busy (removal_on m s.cpus)) ns) None
    (ap busy (none_removed s.cpus n still)) (none_busy s ns still)

module _ {C R : Type 0} (firing : Raise R) (cpus names given : ℕ)
    (has : ℕ → Standing) (name : ℕ) where
  -- ---- a removal begins

  begun : (id : ℕ) (everywhere : Bool) (answer : Result SystemRemoval Refusal) (s t : Progress R C)
      → CallsFor firing name (BeginRemove id answer) s t → IsThere id everywhere s.side.system
      → named_at s.names name ≡ Cyclic id → Fits firing cpus names given has s → AllStill s.side.system.cpus
      → (is_ok answer ≡ true) × Fits firing cpus names given (with_standing name Absent has) t
  begun id everywhere (Ok (Done receipt)) s t c there at h still =
      let g = begun_given firing id (Ok (Done receipt)) s.side.system t.side.system c.did in (
        refl,
        fits_set firing cpus names given has s t name (BeginRemove id (Ok (Done receipt))) c h g.online (Removed receipt)
            Absent given (with_standing name Absent has) c.told (name_low s.names name id (ap cyclic_id at))
            (subst (λ (k : ℕ). k ≤ given) (sym g.last) h.few) tt (standing_here name Absent has)
            (λ other ne. standing_beside name other Absent has ne) (λ own e. absurd (none_some e))
            (λ other own ne e touches. ne (h.own other name id (e ∙ ap Some (sym touches)) (ap cyclic_id at))),
      )
  begun id everywhere (Ok (Kept kept)) s t c there at h still =
      let g = begun_given firing id (Ok (Kept kept)) s.side.system t.side.system c.did in (
        refl,
        fits_set firing cpus names given has s t name (BeginRemove id (Ok (Kept kept))) c h g.online (Leaving id)
            Absent given (with_standing name Absent has) c.told (name_low s.names name id (ap cyclic_id at))
            (subst (λ (k : ℕ). k ≤ given) (sym g.last) h.few) tt (standing_here name Absent has)
            (λ other ne. standing_beside name other Absent has ne)
            (λ own e. (
              subst (λ (k : ℕ). own ≤ k) (sym g.last) (h.ids name own (ap cyclic_id at ∙ e)),
              λ other ne there. ne (h.own other name own there (ap cyclic_id at ∙ e)),
            ))
            (λ other own ne e touches. touches),
      )
  begun id everywhere (Err e) s t c there at h still = absurd (by c.did)
    where
      by : Changes firing s.side.system (BeginRemove id (Err e)) t.side.system → ⊥
      by (inl (x, first, is, same)) = none_some (sym (passes (unknown_cyclic id s.side.system)
          (busy_on_each id s.side.system) None
          (not_when (is_unknown id s.side.system) why.NoCyclic there.known)
          (none_busy s.side.system (cpus_with id s.side.system.cpus) still)) ∙ first)
      by (inr (clear, wrong)) = wrong

  -- what the closed form says of a remove where the name has this
  abbrev Ended : Standing → Bool → Progress R C → Type 0
  Ended st b t = (b ≡ is_here st) × Fits firing cpus names given (cond (is_here st) (with_standing name Absent has) has) t

  abbrev removal_met : (named : Named) (s t : Progress R C)
      → WithId (cyclic_id named) (λ id. (answer : Result SystemRemoval Refusal)
      × CallsFor firing name (BeginRemove id answer) s t)
      (t ≡ s)
      → Bool
  removal_met named s t d =
      option_map_or is_done (call_with firing SystemRemoval (λ id answer. BeginRemove id answer) name s t
      (cyclic_id named) d) false

  removed : (st : Standing) (named : Named) (s t : Progress R C) → named_at s.names name ≡ named
      → (d : WithId (cyclic_id named) (λ id. (answer : Result SystemRemoval Refusal)
      × CallsFor firing name (BeginRemove id answer) s t) (t ≡ s))
      → Is st named s.side.system → has_open_removal named ≡ false → Fits firing cpus names given has s
      → AllStill s.side.system.cpus
      → Ended st (removal_met named s t d) t
  removed Absent Nothing s t at d is stays h still =
      (refl, subst (λ (p : Progress R C). Fits firing cpus names given has p) (sym d) h)
  removed Absent (Removed receipt) s t at d is stays h still =
      (refl, subst (λ (p : Progress R C). Fits firing cpus names given has p) (sym d) h)
  removed Absent (Leaving id) s t at d is stays h still = absurd (let odd : true ≡ false = stays in cc)
  removed Absent (Cyclic id) s t at d is stays h still = absurd is
  removed OnOne (Cyclic id) s t at (answer, c) is stays h still = begun id false answer s t c is at h still
  removed OnOne Nothing s t at d is stays h still = absurd is
  removed OnOne (Leaving id) s t at d is stays h still = absurd is
  removed OnOne (Removed receipt) s t at d is stays h still = absurd is
  removed OnAll (Cyclic id) s t at (answer, c) is stays h still = begun id true answer s t c is at h still
  removed OnAll Nothing s t at d is stays h still = absurd is
  removed OnAll (Leaving id) s t at d is stays h still = absurd is
  removed OnAll (Removed receipt) s t at d is stays h still = absurd is

  pub remove_ended : (s t : Progress R C)
      (d : WithId (cyclic_id (named_at s.names name)) (λ id. (answer : Result SystemRemoval Refusal)
      × CallsFor firing name (BeginRemove id answer) s t) (t ≡ s))
      → Fits firing cpus names given has s → IsCalmNow firing s
      → Ended (has name) (removal_met (named_at s.names name) s t d) t
  remove_ended s t d h q = removed (has name) (named_at s.names name) s t refl d (h.each name) (q.none name) h q.still

-- ---- an advance

module _ {C R : Type 0} (handler : Calls C)
    (firing : Raise R) (cpus names given : ℕ) (has : ℕ → Standing) where
  fired_one : (up : Bool) (now : ℕ) (x y : CpuView R) (a b : C) (answer : Option (Result Fired FireRefused))
      → FiresIf handler firing (moment_asked up now) (running a x) answer (running b y) → x.removal ≡ None → y.removal ≡ None
  fired_one true now x y a b (Some (Ok r)) f none = f.1.removal ∙ none
  fired_one true now x y a b (Some (Err e)) (inl (late, is, same)) none = ap (λ r. r.cpu.removal) same ∙ none
  fired_one true now x y a b (Some (Err e)) (inr (early, kept, stops)) none = kept.removal ∙ none
  fired_one true now x y a b None f none = absurd f
  fired_one false now x y a b (Some answer) f none = absurd f
  fired_one false now x y a b None f none = ap (λ r. r.cpu.removal) f ∙ none

  fired_still : (now : ℕ) (s : Progress R C) (b : Advanced R C) → AllFire handler firing now s.side b
      → Fits firing cpus names given has s → AllStill s.side.system.cpus → AllStill b.side.system.cpus
  fired_still now s b f h still n y at =
      let low = slice_get_within b.side.system.cpus.cpus n y at in let long = f.long in let many = h.many in
      let ups : length s.side.system.cpus.online ≡ cpus = ap length h.online ∙ length-replicate cpus true in
      let ready = h.ready in let leads = f.long_leads in let answers = f.long_answers in
      let (x, x_at) = get_some s.side.system.cpus.cpus n (omega (arith, low, long)) in
      let (up, up_at) = get_some s.side.system.cpus.online n (omega (arith, low, long, many, ups)) in
      let (l, l_at) = get_some s.side.leads.items n (omega (arith, low, long, ready)) in
      let (m, m_at) = get_some b.side.leads.items n (omega (arith, low, long, ready, leads)) in
      let (answer, answer_at) = get_some b.answers.items n (omega (arith, low, long, answers)) in
      fired_one up now x y l.calls m.calls answer (f.each n up x y l m answer up_at x_at at l_at m_at answer_at) (still n x x_at)

  pub advance_fits : (now : ℕ) (s t : Progress R C) → Fires handler firing now s t → now < never
      → Fits firing cpus names given has s → Fits firing cpus names given has t
  advance_fits now s t f early h = record {
    rising = f.sound.fit.rising;
    above = subst (λ rs. HasNoRecord 0 rs) (sym records) h.above;
    few = subst (λ (k : ℕ). k ≤ given) (sym last) h.few;
    early = subst (λ (k : ℕ). k < never) (sym f.clock) early;
    long = ap length f.names ∙ h.long;
    online = ap (λ (z : SystemSide R C). z.system.cpus.online) f.side ∙ f.fired.online ∙ h.online;
    many = ap (λ (z : SystemSide R C). length z.system.cpus.cpus) f.side ∙ f.fired.long ∙ h.many;
    ready = ap (λ (z : SystemSide R C). length z.leads.items) f.side ∙ f.fired.long_leads ∙ h.ready
        ∙ sym f.fired.long ∙ ap (λ (z : SystemSide R C). length z.system.cpus.cpus) (sym f.side);
    each = λ a. subst (λ ns. Is (has a) (named_at ns a) t.side.system) (sym f.names)
        (is_kept (has a) (named_at s.names a) s.side.system t.side.system
        (λ id e. same_records s.side.system t.side.system records id) (h.each a));
    ids = λ a id e. subst (λ (k : ℕ). id ≤ k) (sym last) (h.ids a id (sym (ap (λ ns. cyclic_id (named_at ns a)) f.names) ∙ e));
    own = λ a b id e g. h.own a b id (sym (ap (λ ns. cyclic_id (named_at ns a)) f.names) ∙ e)
        (sym (ap (λ ns. cyclic_id (named_at ns b)) f.names) ∙ g);
  }
    where
      records : t.side.system.records ≡ s.side.system.records
      records = ap (λ (z : SystemSide R C). z.system.records) f.side ∙ f.fired.records

      last : t.side.system.last ≡ s.side.system.last
      last = ap (λ (z : SystemSide R C). z.system.last) f.side ∙ f.fired.last

  pub advance_calm : (now : ℕ) (s t : Progress R C) → Fires handler firing now s t
      → Fits firing cpus names given has s → IsCalmNow firing s → IsCalmNow firing t
  advance_calm now s t f h q = record {
    none = subst NoneLeaves (sym f.names) q.none;
    still = subst (λ (z : SystemSide R C). AllStill z.system.cpus) (sym f.side) (fired_still now s f.after f.fired h q.still);
  }
