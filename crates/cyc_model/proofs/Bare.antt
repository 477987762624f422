-- Levels and CPUs with other indexes take the same acts.
use Rattle.std.proofs.Common.{◌≡◌, ℕ, zero, suc, ◌+◌, ◌==◌, Bool, true, false, cond, List, [], ◌∷◌, ◌++◌, map, Option, Some, None}
use Rattle.std.proofs.Common.{refl, ap, sym, ◌∙◌}
use Rattle.std.specs.Prelude.{is_some, length}
use Rattle.cyc_types.specs.Series.{never}
use Rattle.cyc_level.specs.Level.{bank_size}
use Rattle.std.specs.Option.{option_map, option_map_or}
use Rattle.std.proofs.lemmas.List.{map-append}
use Rattle.cyc_types.specs.declared.level.Soft.{Soft}
use Rattle.cyc_types.specs.declared.level.Soft.TheVariants.{Low, Lock}
use Rattle.cyc_types.specs.declared.level.Level.{Level}
use Rattle.cyc_types.specs.declared.level.Level.TheVariants as level
use Rattle.cyc_level.specs.declared.Event.{Event}
use Rattle.cyc_level.specs.declared.Event.TheVariants.{Admit, Expire, Lose, Publish, Take, Finish, Mark, Clear, Switch, Follow}
use Rattle.cyc_level.specs.Level.{AdmittedCyclic, SoftLevel, count, count_in}
use Rattle.cyc_level.specs.Events.{after, after_finish, admitted_cyclic, cyclic_after_expire, cyclic_after_lose}
use Rattle.cyc_level.specs.Events.{cyclic_after_finish, hand_after_expire, hand_after_finish}
use Rattle.cyc_types.specs.Expirations.{Expiration}
use Rattle.cyc_model.specs.Acts.{Act, At, Call, at_own, call_in, calls_of, handler_calls, loss_of, losses_of, is_loss, all_losses}
use Rattle.cyc_model.specs.Cpu.{
  CyclicState,
  Cpu,
  Here,
  cpu_after,
  happen,
  here,
  nothing_here,
  acts_first,
  then_here,
  handler_level_of,
}
use Rattle.cyc_model.specs.Cpu.{others}
use Rattle.cyc_model.specs.Firing.{raised, expiry, expire_here, expire_all, due_here, fired_cyclic, with_fired, fire_here}
use Rattle.cyc_model.specs.Serving.{level_after, look, Interrupt, calling, found_nothing, after_look, looks, serve}
use Rattle.cyc_model.specs.Serving.{interrupt_here, serve_here}
use Rattle.cyc_model.specs.Moving.{must_grow, switch_here, bank_for, widen_here, place_here, enter_here, take_here, mark_here}
use Rattle.cyc_model.specs.Moving.{clear_here, put_in, moment_at}
use Rattle.cyc_model.specs.Questions.{outstanding_here}

-- each index k becomes relabel k
module _ (relabel : ℕ → ℕ) where
  -- the cyclic of a level with the other index
  abbrev pub without_index : AdmittedCyclic → AdmittedCyclic
  without_index c = record c { index = relabel c.index }

  -- the level without the indexes of its cyclics
  abbrev pub bare_level : SoftLevel → SoftLevel
  bare_level l = record l { cyclics = λ id. option_map without_index (l.cyclics id) }

  -- the event without its index
  abbrev pub bare_event : Event → Event
  bare_event (Admit id index) = Admit id (relabel index)
  bare_event (Expire id) = Expire id
  bare_event (Lose id) = Lose id
  bare_event Publish = Publish
  bare_event Take = Take
  bare_event Finish = Finish
  bare_event (Mark id) = Mark id
  bare_event (Clear id) = Clear id
  bare_event (Switch bank) = Switch bank
  bare_event Follow = Follow

  abbrev pub bare_act : Act → Act
  bare_act (At n soft e) = At n soft (bare_event e)
  bare_act (Call id) = Call id

  abbrev pub bare_cpu : Cpu → Cpu
  bare_cpu c = record c { lock = bare_level c.lock; low = bare_level c.low }

  abbrev pub bare_here : Here → Here
  bare_here d = record { acts = map bare_act d.acts; cpu = bare_cpu d.cpu }

  -- ---- one level

  count_in_same : (o : Option AdmittedCyclic) → count_in (option_map without_index o) ≡ count_in o
  count_in_same None = refl
  count_in_same (Some c) = refl

  pub count_same : (l : SoftLevel) (id : ℕ) → count (bare_level l) id ≡ count l id
  count_same l id = count_in_same (l.cyclics id)

  edited : (b : Bool) (f : AdmittedCyclic → AdmittedCyclic) → ((c : AdmittedCyclic) → without_index (f c) ≡ f (without_index c))
      → (o : Option AdmittedCyclic)
      → option_map without_index (cond b (option_map f o) o)
      ≡ cond b (option_map f (option_map without_index o)) (option_map without_index o)
  edited true f same None = refl
  edited true f same (Some c) = ap Some (same c)
  edited false f same o = refl

  replaced : (b : Bool) (p : Option AdmittedCyclic) (o : Option AdmittedCyclic)
      → option_map without_index (cond b p o) ≡ cond b (option_map without_index p) (option_map without_index o)
  replaced true p o = refl
  replaced false p o = refl

  finished : (l : SoftLevel) (hand : Option ℕ) → bare_level (after_finish hand l) ≡ after_finish hand (bare_level l)
  finished l None = refl
  finished l (Some id) = λ z. record (bare_level l) {
    cyclics = λ j. edited (j == id) cyclic_after_finish (λ c. refl) (l.cyclics j) z;
    drainer_hand = ap (λ n. hand_after_finish n l.drainer_hand) (sym (count_same l id)) z;
  }

  -- the level after an event
  bare_after : (e : Event) (l : SoftLevel) → bare_level (after e l) ≡ after (bare_event e) (bare_level l)
  bare_after (Admit id index) l =
      λ z. record (bare_level l) { cyclics = λ j. replaced (j == id) (Some (admitted_cyclic index)) (l.cyclics j) z }
  bare_after (Expire id) l = λ z. record (bare_level l) {
    cyclics = λ j. edited (j == id) cyclic_after_expire (λ c. refl) (l.cyclics j) z;
    firer_hand = ap (λ n. hand_after_expire n id l.firer_hand) (sym (count_same l id)) z;
  }
  bare_after (Lose id) l =
      λ z. record (bare_level l) { cyclics = λ j. edited (j == id) cyclic_after_lose (λ c. refl) (l.cyclics j) z }
  bare_after Publish l = refl
  bare_after Take l = refl
  bare_after Finish l = finished l l.drainer_hand
  bare_after (Mark id) l = refl
  bare_after (Clear id) l =
      λ z. record (bare_level l) { cyclics = λ j. replaced (j == id) None (l.cyclics j) z; marked = None }
  bare_after (Switch bank) l = refl
  bare_after Follow l = refl

  bare_level_after : (es : List Event) (l : SoftLevel) → bare_level (level_after es l)
      ≡ level_after (map bare_event es) (bare_level l)
  bare_level_after [] l = refl
  bare_level_after (e ∷ es) l =
      bare_level_after es (after e l) ∙ ap (level_after (map bare_event es)) (bare_after e l)

  -- ---- acts

  pub calls_bare : (id : ℕ) (acts : List Act) → calls_of id (map bare_act acts) ≡ calls_of id acts
  calls_bare id [] = refl
  calls_bare id (At n soft e ∷ acts) = ap (λ k. 0 + k) (calls_bare id acts)
  calls_bare id (Call j ∷ acts) = ap (λ k. call_in id (Call j) + k) (calls_bare id acts)

  pub calls_in_bare : (acts : List Act) → handler_calls (map bare_act acts) ≡ handler_calls acts
  calls_in_bare [] = refl
  calls_in_bare (At n soft e ∷ acts) = ap (λ k. 0 + k) (calls_in_bare acts)
  calls_in_bare (Call j ∷ acts) = ap (λ k. 1 + k) (calls_in_bare acts)

  loss_bare : (id : ℕ) (e : Event) → loss_of id (bare_event e) ≡ loss_of id e
  loss_bare id (Admit j index) = refl
  loss_bare id (Expire j) = refl
  loss_bare id (Lose j) = refl
  loss_bare id Publish = refl
  loss_bare id Take = refl
  loss_bare id Finish = refl
  loss_bare id (Mark j) = refl
  loss_bare id (Clear j) = refl
  loss_bare id (Switch bank) = refl
  loss_bare id Follow = refl

  losses_bare : (id : ℕ) (acts : List Act) → losses_of id (map bare_act acts) ≡ losses_of id acts
  losses_bare id [] = refl
  losses_bare id (At n soft e ∷ acts) =
      ap (λ k. k + losses_of id (map bare_act acts)) (loss_bare id e) ∙ ap (λ k. loss_of id e + k) (losses_bare id acts)
  losses_bare id (Call j ∷ acts) = losses_bare id acts

  is_loss_bare : (e : Event) → is_loss (bare_event e) ≡ is_loss e
  is_loss_bare (Admit j index) = refl
  is_loss_bare (Expire j) = refl
  is_loss_bare (Lose j) = refl
  is_loss_bare Publish = refl
  is_loss_bare Take = refl
  is_loss_bare Finish = refl
  is_loss_bare (Mark j) = refl
  is_loss_bare (Clear j) = refl
  is_loss_bare (Switch bank) = refl
  is_loss_bare Follow = refl

  pub losses_in_bare : (acts : List Act) → all_losses (map bare_act acts) ≡ all_losses acts
  losses_in_bare [] = refl
  losses_in_bare (At n soft e ∷ acts) =
      ap (λ k. k + all_losses (map bare_act acts)) (is_loss_bare e) ∙ ap (λ k. is_loss e + k) (losses_in_bare acts)
  losses_in_bare (Call j ∷ acts) = losses_in_bare acts

  own_bare : (n : ℕ) (l : Level) (e : Event) → map bare_act (at_own n l e) ≡ at_own n l (bare_event e)
  own_bare n level.High e = refl
  own_bare n level.Lock e = refl
  own_bare n level.Low e = refl

  -- these events have no index
  abbrev AreBare : List Event → Type 0
  AreBare es = map bare_event es ≡ es

  map_bare : (n : ℕ) (soft : Soft) (es : List Event) → map bare_act (map (At n soft) es) ≡ map (At n soft) (map bare_event es)
  map_bare n soft [] = refl
  map_bare n soft (e ∷ es) = ap (λ as'. At n soft (bare_event e) ∷ as') (map_bare n soft es)

  map_are_bare : (n : ℕ) (soft : Soft) (es : List Event) → AreBare es → map bare_act (map (At n soft) es) ≡ map (At n soft) es
  map_are_bare n soft es same = map_bare n soft es ∙ ap (map (At n soft)) same

  -- ---- one CPU

  cpu_bare : (act : Act) (c : Cpu) → bare_cpu (cpu_after act c) ≡ cpu_after (bare_act act) (bare_cpu c)
  cpu_bare (At n Low e) c = λ z. record (bare_cpu c) { low = bare_after e c.low z }
  cpu_bare (At n Lock e) c = λ z. record (bare_cpu c) { lock = bare_after e c.lock z }
  cpu_bare (Call id) c = refl

  happen_bare : (acts : List Act) (c : Cpu) → bare_cpu (happen acts c) ≡ happen (map bare_act acts) (bare_cpu c)
  happen_bare [] c = refl
  happen_bare (a ∷ acts) c = happen_bare acts (cpu_after a c) ∙ ap (happen (map bare_act acts)) (cpu_bare a c)

  here_bare : (acts : List Act) (c : Cpu) → bare_here (here acts c) ≡ here (map bare_act acts) (bare_cpu c)
  here_bare acts c = λ z. record { acts = map bare_act acts; cpu = happen_bare acts c z }

  -- acts that come to these without their indexes
  here_as : (acts to : List Act) (c : Cpu) → map bare_act acts ≡ to → bare_here (here acts c) ≡ here to (bare_cpu c)
  here_as acts to c same = here_bare acts c ∙ ap (λ xs. here xs (bare_cpu c)) same

  first_bare : (acts : List Act) (d : Here) → bare_here (acts_first acts d) ≡ acts_first (map bare_act acts) (bare_here d)
  first_bare acts d = λ z. record { acts = map-append bare_act acts d.acts z; cpu = bare_cpu d.cpu }

  then_bare : (d e : Here) (f g : Cpu → Here) → bare_here d ≡ e → ((c : Cpu) → bare_here (f c) ≡ g (bare_cpu c))
      → bare_here (then_here d f) ≡ then_here e g
  then_bare d e f g first next =
      first_bare d.acts (f d.cpu)
      ∙ ap (acts_first (map bare_act d.acts)) (next d.cpu)
      ∙ ap (λ (x : Here). then_here x g) first

  raised_are_bare : (a b : Bool) (id : ℕ)
      → AreBare (cond a (Lose id ∷ []) (cond b (Expire id ∷ Publish ∷ []) (Expire id ∷ [])))
  raised_are_bare true b id = refl
  raised_are_bare false true id = refl
  raised_are_bare false false id = refl

  raised_same : (id : ℕ) (l : SoftLevel) → raised id (bare_level l) ≡ raised id l
  raised_same id l =
      ap (λ n. cond (n == l.ceiling) (Lose id ∷ []) (cond (n == 0) (Expire id ∷ Publish ∷ []) (Expire id ∷ []))) (count_same l id)

  raised_bare : (n : ℕ) (soft : Soft) (id : ℕ) (l : SoftLevel)
      → map bare_act (map (At n soft) (raised id l)) ≡ map (At n soft) (raised id (bare_level l))
  raised_bare n soft id l =
      map_are_bare n soft (raised id l) (raised_are_bare (count l id == l.ceiling) (count l id == 0) id)
      ∙ ap (map (At n soft)) (sym (raised_same id l))

  expiry_bare : (n : ℕ) (l : Level) (id : ℕ) (c : Cpu) → map bare_act (expiry n l id c) ≡ expiry n l id (bare_cpu c)
  expiry_bare n level.High id c = refl
  expiry_bare n level.Lock id c = raised_bare n Lock id c.lock
  expiry_bare n level.Low id c = raised_bare n Low id c.low

  expire_bare : (n id : ℕ) (c : Cpu) → bare_here (expire_here n id c) ≡ expire_here n id (bare_cpu c)
  expire_bare n id c = here_as (expiry n (handler_level_of id c) id c) _ c (expiry_bare n (handler_level_of id c) id c)

  expire_all_bare : (n : ℕ) (ps : List Expiration) (c : Cpu) → bare_here (expire_all n ps c) ≡ expire_all n ps (bare_cpu c)
  expire_all_bare n [] c = refl
  expire_all_bare n (p ∷ ps) c =
      then_bare (expire_here n p.id c) _ (expire_all n ps) (expire_all n ps) (expire_bare n p.id c) (expire_all_bare n ps)

  with_fired_bare : (now : ℕ) (made : List Expiration) (d : Here)
      → bare_here (with_fired now made d) ≡ with_fired now made (bare_here d)
  with_fired_bare now made d = λ z. record {
    acts = map bare_act d.acts;
    cpu = record (bare_cpu d.cpu) {
      cyclics = map (λ x. record
          (fired_cyclic now made d.acts x) { lost = x.lost + (sym (losses_bare x.timer.id d.acts)) z }) d.cpu.cyclics;
    };
  }

  pub fire_bare : (n now : ℕ) (c : Cpu) → bare_here (fire_here n now c) ≡ fire_here n now (bare_cpu c)
  fire_bare n now c =
      with_fired_bare now (due_here now c) (expire_all n (due_here now c) c)
      ∙ ap (with_fired now (due_here now c)) (expire_all_bare n (due_here now c) c)

  -- ---- a soft interrupt

  looks_are_bare : (hand : Option ℕ) (old new : List ℕ) (same : Bool) → AreBare (cond (is_some hand) [] (looks old new same))
  looks_are_bare (Some id) old new same = refl
  looks_are_bare None old (x ∷ xs) true = refl
  looks_are_bare None old [] true = refl
  looks_are_bare None (x ∷ xs) new false = refl
  looks_are_bare None [] (y ∷ ys) false = refl
  looks_are_bare None [] [] false = refl

  look_are_bare : (l : SoftLevel) → AreBare (look l)
  look_are_bare l = looks_are_bare l.drainer_hand l.old_list l.new_list (l.hard_bank == l.soft_bank)

  abbrev bare_interrupt : Interrupt → Interrupt
  bare_interrupt i = record { acts = map bare_act i.acts; idle = i.idle }

  calling_bare : (n : ℕ) (soft : Soft) (looked : List Event) (id : ℕ) (r : Interrupt) → AreBare looked
      → bare_interrupt (calling n soft looked id r) ≡ calling n soft looked id (bare_interrupt r)
  calling_bare n soft looked id r same = λ z. record {
    acts = (map-append bare_act (map (At n soft) looked) (Call id ∷ At n soft Finish ∷ r.acts)
        ∙ ap (λ xs. xs ++ Call id ∷ At n soft Finish ∷ map bare_act r.acts) (map_are_bare n soft looked same)) z;
    idle = r.idle;
  }

  look_bare : (n : ℕ) (soft : Soft) (looked : List Event) (l : SoftLevel) (rest : SoftLevel → Interrupt) → AreBare looked
      → ((m : SoftLevel) → bare_interrupt (rest m) ≡ rest (bare_level m)) → (hand : Option ℕ)
      → bare_interrupt (option_map_or (λ id. calling n soft looked id (rest (after Finish l))) hand (found_nothing n soft looked))
      ≡ option_map_or (λ id. calling n soft looked id (rest (after Finish (bare_level l)))) hand (found_nothing n soft looked)
  look_bare n soft looked l rest same more None = λ z. record { acts = map_are_bare n soft looked same z; idle = true }
  look_bare n soft looked l rest same more (Some id) =
      calling_bare n soft looked id (rest (after Finish l)) same
      ∙ ap (calling n soft looked id) (more (after Finish l) ∙ ap rest (bare_after Finish l))

  serve_bare : (n : ℕ) (soft : Soft) (budget : ℕ) (l : SoftLevel) → bare_interrupt (serve n soft budget l)
      ≡ serve n soft budget (bare_level l)
  serve_bare n soft zero l = refl
  serve_bare n soft (suc budget) l =
      look_bare n soft (look l) (level_after (look l) l) (serve n soft budget) (look_are_bare l) (serve_bare n soft budget)
      (level_after (look l) l).drainer_hand
      ∙ ap (λ m. after_look n soft (look l) m (serve n soft budget))
      (bare_level_after (look l) l ∙ ap (λ es. level_after es (bare_level l)) (look_are_bare l))

  pub interrupt_bare : (n : ℕ) (soft : Soft) (budget : ℕ) (c : Cpu)
      → bare_interrupt (interrupt_here n soft budget c) ≡ interrupt_here n soft budget (bare_cpu c)
  interrupt_bare n Low budget c = serve_bare n Low budget c.low
  interrupt_bare n Lock budget c = serve_bare n Lock budget c.lock

  pub idle_bare : (n : ℕ) (soft : Soft) (budget : ℕ) (c : Cpu)
      → (interrupt_here n soft budget c).idle ≡ (interrupt_here n soft budget (bare_cpu c)).idle
  idle_bare n soft budget c = λ z. (interrupt_bare n soft budget c z).idle

  pub serve_here_bare : (n : ℕ) (soft : Soft) (budget : ℕ) (c : Cpu)
      → bare_here (serve_here n soft budget c) ≡ serve_here n soft budget (bare_cpu c)
  serve_here_bare n soft budget c =
      here_as (interrupt_here n soft budget c).acts _ c (λ z. (interrupt_bare n soft budget c z).acts)

  -- ---- cyclics that come and go

  widen_as : (b : Bool) (n bank : ℕ) (c : Cpu)
      → bare_here (cond b (switch_here n bank c) (nothing_here c))
      ≡ cond b (switch_here n bank (bare_cpu c)) (nothing_here (bare_cpu c))
  widen_as true n bank c = here_bare (At n Lock (Switch bank) ∷ At n Low (Switch bank) ∷ []) (record c { size = bank_size bank })
  widen_as false n bank c = refl

  pub widen_bare : (n more : ℕ) (c : Cpu) → bare_here (widen_here n more c) ≡ widen_here n more (bare_cpu c)
  widen_bare n more c = widen_as (must_grow more c) n (bank_for (length c.cyclics + more)) c

  pub place_bare : (n index : ℕ) (x : CyclicState) (c : Cpu) → bare_here (place_here n index x c)
      ≡ place_here n (relabel index) x (bare_cpu c)
  place_bare n index x c =
      here_as _ _ (record c { cyclics = put_in x c.cyclics }) (own_bare n x.timer.level (Admit x.timer.id index))

  pub enter_bare_here : (n index : ℕ) (x : CyclicState) (c : Cpu) → bare_here (enter_here n index x c)
      ≡ enter_here n (relabel index) x (bare_cpu c)
  enter_bare_here n index x c =
      then_bare (widen_here n 1 c) _ (place_here n index x) (place_here n (relabel index) x) (widen_bare n 1 c)
      (place_bare n index x)

  pub take_bare : (n id : ℕ) (c : Cpu) → bare_here (take_here n id c) ≡ take_here n id (bare_cpu c)
  take_bare n id c =
      then_bare (here (at_own n (handler_level_of id c) (Mark id)) c) _
      (λ d. here (at_own n (handler_level_of id d) (Clear id)) (record d { cyclics = others id d.cyclics }))
      (λ d. here (at_own n (handler_level_of id d) (Clear id)) (record d { cyclics = others id d.cyclics }))
      (here_as (at_own n (handler_level_of id c) (Mark id)) _ c (own_bare n (handler_level_of id c) (Mark id)))
      (λ d. here_as (at_own n (handler_level_of id d) (Clear id)) _ (record d { cyclics = others id d.cyclics })
      (own_bare n (handler_level_of id d) (Clear id)))

  pub mark_bare : (n id : ℕ) (c : Cpu) → bare_here (mark_here n id c) ≡ mark_here n id (bare_cpu c)
  mark_bare n id c =
      here_as (at_own n (handler_level_of id c) (Mark id)) _
      (record c { cyclics = map (moment_at id never) c.cyclics; removal = Some id })
      (own_bare n (handler_level_of id c) (Mark id))

  pub clear_bare : (n id : ℕ) (c : Cpu) → bare_here (clear_here n id c) ≡ clear_here n id (bare_cpu c)
  clear_bare n id c =
      here_as (at_own n (handler_level_of id c) (Clear id)) _ (record c { cyclics = others id c.cyclics; removal = None })
      (own_bare n (handler_level_of id c) (Clear id))

  pub outstanding_bare : (id : ℕ) (c : Cpu) → outstanding_here id (bare_cpu c) ≡ outstanding_here id c
  outstanding_bare id c = λ z. count_same c.lock id z + count_same c.low id z
