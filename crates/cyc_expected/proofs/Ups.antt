-- Which CPUs are online is told, word by word.
use Rattle.std.proofs.Common.{◌≡◌, ◌≢◌, ℕ, ◌+◌, ◌<◌, Bool, true, false, cond, List, [], ◌∷◌, length, refl, ap, sym, ◌∙◌, subst}
use Rattle.std.proofs.Common.{Option, Some, None, ◌==◌}
use Rattle.std.specs.Prelude.{slice_set, slice_index_or}
use Rattle.std.proofs.lemmas.List.{get_or-set_same, get_or-set_other, length-set}
use Rattle.std.proofs.lemmas.Bool.{not-true}
use mathlib.Core.Logic.{dite}
use native.Mathlib.Decide.{ℕ_discrete}
use Rattle.cyc_level.specs.declared.Event.TheVariants.{Mark, Clear}
use Rattle.cyc_script.specs.declared.step.Step.{Step}
use Rattle.cyc_script.specs.declared.step.Step.TheVariants.{Add, Omni, Bind, Unbind, Reprogram, Remove, Advance, Softint, Juggle}
use Rattle.cyc_script.specs.declared.step.Step.TheVariants.{Offline, Online, Suspend, Resume}
use Rattle.cyc_model.specs.Acts.{at_own}
use Rattle.cyc_model.specs.Cpu.{Cpu, others, handler_level_of}
use Rattle.cyc_model.specs.Moving.{mark_here, clear_here, reprogram_here}
use Rattle.cyc_model.specs.Serving.{serve_here}
use Rattle.cyc_model.specs.Questions.{plain, outstanding_here}
use Rattle.cyc_model.specs.State.{State, Outcome, On, OnAll, cpu_of, on_number, each, numbers, cpus_online, cpus_having}
use Rattle.cyc_model.specs.Places.{id_of, destination_of, given, keep_counts}
use Rattle.cyc_types.specs.Reasons.{busy}
use Rattle.cyc_model.specs.Refusals.{magnitude, is_no_cpu, cpu_is_offline, is_last_online}
use Rattle.cyc_model.specs.Add.{added}
use Rattle.cyc_model.specs.Omni.{everywhere}
use Rattle.cyc_model.specs.Remove.{begin, poll, clear, clear_if, begun}
use Rattle.cyc_model.specs.Reprogram.{cpu_meant}
use Rattle.cyc_model.specs.Softint.{interrupt, is_open, leaving_ids, text_of_id, polled, poll_id}
use Rattle.cyc_model.specs.Juggle.{juggled, single_ids_of}
use Rattle.cyc_model.specs.Online.{staying_omni, is_online_already, no_room_for_all}
use Rattle.cyc_model.specs.Script.{refusal_of, does, text_in}
use Rattle.cyc_model.proofs.Rising.{found}
use Rattle.cyc_model.proofs.Whole.{same_happen}
use Rattle.cyc_model.proofs.Serves.{same_serve}
use Rattle.cyc_model.proofs.Numbers.{numbers_rise, numbers_pass}
use Rattle.cyc_model.proofs.Refusing.{none_first, is_cpu, is_online, fires_before}
use Rattle.cyc_model.proofs.Spread.{Good}
use Rattle.cyc_model.proofs.Calm.{good_clock}
use Rattle.cyc_model.proofs.Reaching.{well_does}
use Rattle.cyc_types.specs.Reasons.{bad_now}
use Rattle.cyc_expected.specs.Course.{Told, Event, Begins, BeginsOnAll, Ends, Passes, told_after}
use Rattle.cyc_expected.specs.Expected.{event_of, reprogrammed}
use Rattle.cyc_expected.specs.Way.{is_done}
use Rattle.cyc_expected.proofs.Seen.{seen, seen_at, on_same, each_same, online_of, online_alike, keeps_counts, keeps_enter}
use Rattle.cyc_expected.proofs.Seen.{keeps_enters, keeps_bind, keeps_juggle, keeps_turns}
use Rattle.cyc_expected.proofs.Fires.{all_fired}
use Rattle.cyc_expected.proofs.Goes.{IsHere}
use Rattle.cyc_expected.proofs.Components.{offline_elsewhere, online_elsewhere, online_there}

pub record Ups (ups : List Bool) (s : State) : Type 0 where
  pub long : length ups ≡ length s.cpus
  pub up : (m : ℕ) → slice_index_or ups m false ≡ (cpu_of m s).online

-- ---- removals

abbrev Keeps : (State → Outcome) → Type 0
Keeps f = (s : State) → seen online_of (f s).state ≡ seen online_of s

online_clear : (j n : ℕ) → Keeps (clear j n)
online_clear j n s =
    let o = found j (cpu_of n s).cyclics in
    let r = keep_counts n o s in
    let c = cpu_of n r in
    on_same online_of n (clear_here n j) r (same_happen (at_own n (handler_level_of j c) (Clear j))
    (record c { cyclics = others j c.cyclics; removal = None })).online
    ∙ keeps_counts online_of n o s

online_poll : (j n : ℕ) → Keeps (poll plain j n)
online_poll j n s = by (outstanding_here j (cpu_of n s) == 0)
  where
    by : (b : Bool) → seen online_of (clear_if b j n s).state ≡ seen online_of s
    by true = online_clear j n s
    by false = refl

online_begin : (j n : ℕ) → Keeps (begin plain j n)
online_begin j n s =
    let c = cpu_of n s in
    online_poll j n (on_number n (mark_here n j) s).state
    ∙ on_same online_of n (mark_here n j) s (same_happen (at_own n (handler_level_of j c) (Mark j)) _).online

online_removed : (step : ℕ) (text : List ℕ) (j : ℕ) (o : Outcome) (ns : List ℕ)
    → seen online_of (begun plain step text j ns o).state ≡ seen online_of o.state
online_removed step text j o [] = refl
online_removed step text j o (n ∷ ns) = refl

online_polled : (texts : List (List ℕ)) (step j : ℕ) → Keeps (poll_id plain texts step j)
online_polled texts step j s =
    let o = each (poll plain j) (numbers (is_open j) s) s in
    by o (each_same online_of (poll plain j) (online_poll j) (numbers (is_open j) s) s) (cpus_having j o.state)
  where
    by : (o : Outcome) → seen online_of o.state ≡ seen online_of s → (ns : List ℕ)
        → seen online_of (polled step (text_of_id j texts s.names) j ns o).state ≡ seen online_of s
    by o h [] = h
    by o h (n ∷ ns) = h

-- ---- the words

module _ (texts : List (List ℕ)) (f : ℕ → ℕ) (step : ℕ) (s : State) (g : Good s) where
  abbrev after : Step → State
  after x = (does plain texts f step x s).state

  stays_up : (x : Step) → refusal_of plain x s ≡ None → IsHere x → (m : ℕ) → (cpu_of m (after x)).online ≡ (cpu_of m s).online
  stays_up (Add a) why is m =
      let n = destination_of None s in
      seen_at online_of s (after (Add a)) (keeps_enter online_of online_alike f n (added a s) (given a.name (On n false) s)) m
  stays_up (Omni a) why is m =
      let u = given a.name (OnAll (everywhere a)) s in
      seen_at online_of s (after (Omni a))
      (keeps_enters online_of online_alike f (s.last_id + 1) (everywhere a) (cpus_online u) u) m
  stays_up (Bind b) why is m = seen_at online_of s (after (Bind b)) (keeps_bind online_of online_alike f step b s) m
  stays_up (Unbind name) why is m = refl
  stays_up (Reprogram r) why is m =
      let n = cpu_meant r.cpu (id_of r.name s) s in
      seen_at online_of s (after (Reprogram r))
      (on_same online_of n (reprogram_here (id_of r.name s) (magnitude r.moment)) s refl) m
  stays_up (Remove name) why is m =
      let j = id_of name s in
      let o = each (begin plain j) (cpus_having j s) s in
      seen_at online_of s (after (Remove name)) (online_removed step (text_in texts name) j o (cpus_having j o.state)
      ∙ each_same online_of (begin plain j) (online_begin j) (cpus_having j s) s) m
  stays_up (Advance now) why is m = (all_fired 0 now (fires_before now s why) 0 (cpus_online s) (record s { clock = now })
      (good_clock now s g) (numbers_rise (λ (c : Cpu). c.online) 0 s.cpus)
      (λ k has. (numbers_pass (λ (c : Cpu). c.online) k s has).0)).online m
  stays_up (Softint i) why is m =
      let o = interrupt step i s in
      seen_at online_of s (after (Softint i))
      (each_same online_of (poll_id plain texts step) (online_polled texts step) (leaving_ids o.state) o.state
      ∙ on_same online_of i.cpu (serve_here i.cpu i.level i.budget) s
      (same_serve i.cpu i.budget i.level (cpu_of i.cpu s)).online) m
  stays_up (Juggle n) why is m = seen_at online_of s (after (Juggle n)) (keeps_juggle online_of online_alike f step n s) m
  stays_up (Offline n) why is m = absurd is
  stays_up (Online n) why is m = absurd is
  stays_up Suspend why is m = refl
  stays_up Resume why is m = refl

  still_up : (n m : ℕ) → m ≢ n → (cpu_of m (after (Offline n))).online ≡ (cpu_of m s).online
  still_up n m far = ap (λ (c : Cpu). c.online) (offline_elsewhere f step n s m far)
      ∙ seen_at online_of s (juggled plain f n s).outcome.state
      (keeps_turns online_of online_alike f n (single_ids_of n s) s) m

  -- whether a CPU is online is set
  ups_one : (ups : List Bool) (n : ℕ) (b : Bool) (t : State) → n < length s.cpus → length t.cpus ≡ length s.cpus → Ups ups s
      → ((m : ℕ) → m ≢ n → (cpu_of m t).online ≡ (cpu_of m s).online) → (cpu_of n t).online ≡ b → Ups (slice_set ups n b) t
  ups_one ups n b t within long h others own = record {
    long = length-set ups n b ∙ (h.long ∙ sym long);
    up = λ m. dite (ℕ_discrete m n)
        (λ same. subst (λ k. slice_index_or (slice_set ups n b) k false ≡ (cpu_of k t).online) (sym same)
        (get_or-set_same ups n b false (subst (λ k. n < k) (sym h.long) within) ∙ sym own))
        (λ far. get_or-set_other ups n m b false far ∙ (h.up m ∙ sym (others m far)));
  }

  long : (x : Step) → refusal_of plain x s ≡ None → length (after x).cpus ≡ length s.cpus
  long x why = (well_does texts f step x s g why).0.tells.as_many

  here : (x : Step) → refusal_of plain x s ≡ None → IsHere x → (ups : List Bool) → Ups ups s → Ups ups (after x)
  here x why is ups h = record {
    long = h.long ∙ sym (long x why);
    up = λ m. h.up m ∙ sym (stays_up x why is m);
  }

  on_cpu : (n : ℕ) → refusal_of plain (Offline n) s ≡ None → (n < length s.cpus) × ((cpu_of n s).online ≡ true)
  on_cpu n why =
      let one = none_first (is_no_cpu n s) (cpu_is_offline n s ∷ is_last_online n s ∷ busy (cpu_of n s).removal ∷ []) why in
      let two = none_first (cpu_is_offline n s) (is_last_online n s ∷ busy (cpu_of n s).removal ∷ []) one.1 in
      (is_cpu n s one.0, is_online n s two.0)

  -- an event of the cyclic alone
  alone : (b : Bool) (event : Event) (u : Told) (t : State) → Ups u.online t → (told_after event u).online ≡ u.online
      → Ups (told_after (cond b event Passes) u).online t
  alone true event u t h same = subst (λ ups. Ups ups t) (sym same) h
  alone false event u t h same = h

  pub ups_does : (name : ℕ) (x : Step) → refusal_of plain x s ≡ None → is_done x (after x) ≡ true → (u : Told) → Ups u.online s
      → Ups (told_after (event_of name s.clock x) u).online (after x)
  ups_does name (Add a) why done u h = alone (a.name == name) (Begins (magnitude a.start) (magnitude a.interval) s.clock) u
      (after (Add a)) (here (Add a) why tt u.online h) refl
  ups_does name (Omni a) why done u h = alone (a.name == name) (BeginsOnAll (everywhere a) s.clock) u (after (Omni a))
      (here (Omni a) why tt u.online h) refl
  ups_does name (Bind b) why done u h = here (Bind b) why tt u.online h
  ups_does name (Unbind j) why done u h = here (Unbind j) why tt u.online h
  ups_does name (Reprogram r) why done u h = alone (r.name == name) (reprogrammed r.cpu (magnitude r.moment)) u
      (after (Reprogram r)) (here (Reprogram r) why tt u.online h) (by r.cpu)
    where
      by : (cpu : Option ℕ) → (told_after (reprogrammed cpu (magnitude r.moment)) u).online ≡ u.online
      by None = refl
      by (Some n) = refl
  ups_does name (Remove j) why done u h = alone (j == name) Ends u (after (Remove j)) (here (Remove j) why tt u.online h) refl
  ups_does name (Advance now) why done u h = here (Advance now) why tt u.online h
  ups_does name (Softint i) why done u h = here (Softint i) why tt u.online h
  ups_does name (Juggle n) why done u h = here (Juggle n) why tt u.online h
  ups_does name (Offline n) why done u h =
      ups_one u.online n false (after (Offline n)) (on_cpu n why).0 (long (Offline n) why) h (still_up n) (not-true _ done)
  ups_does name (Online n) why done u h =
      let room = no_room_for_all plain n (length (staying_omni s)) (cpu_of n s) in
      let within = is_cpu n s (none_first (is_no_cpu n s) (is_online_already n s ∷ bad_now s.clock ∷ room ∷ []) why).0 in
      ups_one u.online n true (after (Online n)) within (long (Online n) why) h
      (λ m far. ap (λ (c : Cpu). c.online) (online_elsewhere f step n s m far))
      (ap (λ (c : Cpu). c.online) (online_there f step n s within))
  ups_does name Suspend why done u h = here Suspend why tt u.online h
  ups_does name Resume why done u h = here Resume why tt u.online h

  -- where an `offline` left its CPU online
  pub ups_left : (n : ℕ) → refusal_of plain (Offline n) s ≡ None → (cpu_of n (after (Offline n))).online ≡ true
      → (ups : List Bool) → Ups ups s → Ups ups (after (Offline n))
  ups_left n why on_ ups h = record {
    long = h.long ∙ sym (long (Offline n) why);
    up = λ m. h.up m ∙ sym (dite (ℕ_discrete m n)
        (λ same. subst (λ k. (cpu_of k (after (Offline n))).online ≡ (cpu_of k s).online) (sym same)
        (on_ ∙ sym (on_cpu n why).1))
        (λ far. still_up n m far));
  }
