-- Lanes beside each other, and what they make of a system.
use Rattle.std.proofs.Common.{◌≡◌, ℕ, zero, suc, Bool, true, false, List, [], ◌∷◌, map, length, Option, Some}
use Rattle.std.proofs.Common.{None, Result, sym, ap, ◌∙◌, subst, arith}
use Rattle.std.specs.List.{slice_get}
use Rattle.std.proofs.lemmas.Option.{slice_get_within, same_Some}
use Rattle.std.proofs.lemmas.List.{length-map}
use Rattle.cyc_types.specs.declared.Calls.{Ghosts as Calls}
use Rattle.cyc_types.specs.declared.Raise.{Ghosts as Raise}
use Rattle.cyc_timers.specs.declared.fire.Fired.{Fired}
use Rattle.cyc_timers.specs.declared.fire.FireRefused.{FireRefused}
use Rattle.cyc_cpu.specs.Cpu.{CpuView, Running, running}
use Rattle.cyc_cpu.specs.Laws.{IsLawful}
use Rattle.cyc_cpu.specs.Calls.{CpuDoes, Fire, no_interrupts}
use Rattle.cyc_agreement.proofs.Spots.{get_some}
use Rattle.cyc_system.specs.Splitting.{ComesBack}
use Rattle.cyc_workers.specs.declared.settling.Lead.{Lead}
use Rattle.cyc_system_workers.specs.declared.side.SystemSide.{SystemSide}
use Rattle.cyc_system_workers.specs.declared.lanes.Lane.{Lane}
use Rattle.cyc_system_workers.specs.declared.lanes.LaneAfter.{LaneAfter}
use Rattle.cyc_system_workers.specs.declared.advancing.Advanced.{Advanced}
use Rattle.cyc_system_workers.specs.Advancing.{moment_asked, FiresIf, LaneFires, AllFire}
use Rattle.cyc_system_workers.specs.Starting.{Beside}

get_map : {A B : Type 0} (f : A → B) (xs : List A) (n : ℕ) (x : A) → slice_get xs n ≡ Some x → slice_get (map f xs) n ≡ Some (f x)
get_map f [] n x e = let low = slice_get_within [] n x e in absurd (omega (arith, low))
get_map f (a ∷ xs) zero x e = ap (λ y. Some (f y)) (same_Some a x e)
get_map f (a ∷ xs) (suc n) x e = get_map f xs n x e

-- the element of which this is made
get_from : {A B : Type 0} (f : A → B) (xs : List A) (n : ℕ) (y : B) → slice_get (map f xs) n ≡ Some y → (x : A)
    × (slice_get xs n ≡ Some x) × (y ≡ f x)
get_from f xs n y e =
    let low = slice_get_within (map f xs) n y e in let long = length-map xs f in
    let x = get_some xs n (omega (arith, low, long)) in
    (x.0, x.1, same_Some y (f x.0) (sym e ∙ get_map f xs n x.0 x.1))

module _ {C R : Type 0} (handler : Calls C) (firing : Raise R) (now : ℕ) where
  -- each lane fires
  abbrev pub EachFires : List (Lane R C) → List (LaneAfter R C) → Type 0
  EachFires = Beside (LaneFires handler firing now)

  back_if : (up : Bool) (s t : Running C R) (answer : Option (Result Fired FireRefused)) →
      ((x : CpuView R) → ComesBack firing.view x x) →
      ((s t : Running C R) (now : ℕ) (answer : Result Fired FireRefused) → IsLawful firing.view s.cpu → IsLawful firing.view t.cpu
      →
      CpuDoes handler firing no_interrupts s (Fire now answer) t → ComesBack firing.view s.cpu t.cpu) →
      IsLawful firing.view s.cpu → IsLawful firing.view t.cpu → FiresIf handler firing (moment_asked up now) s answer t
      → ComesBack firing.view s.cpu t.cpu
  back_if true s t (Some answer) same fired law law' f = fired s t now answer law law' f
  back_if true s t None same fired law law' f = absurd f
  back_if false s t (Some answer) same fired law law' f = absurd f
  back_if false s t None same fired law law' f = subst (λ (x : Running C R). ComesBack firing.view s.cpu x.cpu) (sym f)
      (same s.cpu)

  -- each firing side may come back
  pub comes_back : (lanes : List (Lane R C)) (after : List (LaneAfter R C)) → EachFires lanes after →
      ((x : CpuView R) → ComesBack firing.view x x) →
      ((s t : Running C R) (now : ℕ) (answer : Result Fired FireRefused) → IsLawful firing.view s.cpu → IsLawful firing.view t.cpu
      →
      CpuDoes handler firing no_interrupts s (Fire now answer) t → ComesBack firing.view s.cpu t.cpu) →
      (n : ℕ) (x y : CpuView R) → slice_get (map (λ (l : Lane R C). l.hard) lanes) n ≡ Some x
      → slice_get (map (λ (l : LaneAfter R C). l.hard) after) n ≡ Some y →
      ComesBack firing.view x y
  comes_back lanes after each same fired n x y at at' =
      let l = get_from (λ (l : Lane R C). l.hard) lanes n x at in let a = get_from (λ (l : LaneAfter R C). l.hard) after n y at'
      in
      let f = each.each n l.0 a.0 l.1 a.1 in
      let back = back_if l.0.online (running l.0.lead.calls l.0.hard)
      (running a.0.lead.calls a.0.hard) a.0.answer same fired f.before f.after f.fires in
      subst (λ z. ComesBack firing.view z y) (sym l.2) (subst (λ z. ComesBack firing.view l.0.hard z) (sym a.2) back)

  pub one_fires : (lanes : List (Lane R C)) (after : List (LaneAfter R C)) → EachFires lanes after →
      (n : ℕ) (up : Bool) (x y : CpuView R) (l m : Lead C) (answer : Option (Result Fired FireRefused)) →
      slice_get (map (λ (l : Lane R C). l.online) lanes) n ≡ Some up →
      slice_get (map (λ (l : Lane R C). l.hard) lanes) n ≡ Some x
      → slice_get (map (λ (l : LaneAfter R C). l.hard) after) n ≡ Some y →
      slice_get (map (λ (l : Lane R C). l.lead) lanes) n ≡ Some l
      → slice_get (map (λ (l : LaneAfter R C). l.lead) after) n ≡ Some m →
      slice_get (map (λ (l : LaneAfter R C). l.answer) after) n ≡ Some answer →
      FiresIf handler firing (moment_asked up now) (running l.calls x) answer (running m.calls y)
  one_fires lanes after each n up x y l m answer at_up at_x at_y at_l at_m at_answer =
      let p = get_from (λ (l : Lane R C). l.hard) lanes n x at_x in let q =
      get_from (λ (l : LaneAfter R C). l.hard) after n y at_y in
      let f = each.each n p.0 q.0 p.1 q.1 in
      let up_is : p.0.online ≡ up = same_Some p.0.online up (sym (get_map (λ (l : Lane R C). l.online) lanes n p.0 p.1) ∙ at_up)
      in
      let l_is : p.0.lead ≡ l = same_Some p.0.lead l (sym (get_map (λ (l : Lane R C). l.lead) lanes n p.0 p.1) ∙ at_l) in
      let m_is : q.0.lead ≡ m = same_Some q.0.lead m (sym (get_map (λ (l : LaneAfter R C). l.lead) after n q.0 q.1) ∙ at_m) in
      let answer_is : q.0.answer ≡ answer = same_Some q.0.answer answer
      (sym (get_map (λ (l : LaneAfter R C). l.answer) after n q.0 q.1) ∙ at_answer) in
      subst (λ u. FiresIf handler firing (moment_asked u now) (running l.calls x) answer (running m.calls y)) up_is
      (subst (λ o. FiresIf handler firing (moment_asked p.0.online now) (running l.calls x) o (running m.calls y)) answer_is
      (subst (λ (z : Lead C). FiresIf handler firing (moment_asked p.0.online now) (running z.calls x) q.0.answer
      (running m.calls y)) l_is
      (subst (λ (z : Lead C). FiresIf handler firing (moment_asked p.0.online now) (running p.0.lead.calls x) q.0.answer
      (running z.calls y)) m_is
      (subst (λ z. FiresIf handler firing (moment_asked p.0.online now) (running p.0.lead.calls z) q.0.answer
      (running q.0.lead.calls y)) (sym p.2)
      (subst (λ z. FiresIf handler firing (moment_asked p.0.online now) (running p.0.lead.calls p.0.hard) q.0.answer
      (running q.0.lead.calls z)) (sym q.2) f.fires)))))

  -- all of them together
  pub all_fire : (a : SystemSide R C) (b : Advanced R C) (lanes : List (Lane R C)) (after : List (LaneAfter R C))
      → EachFires lanes after →
      b.side.system.records ≡ a.system.records → b.side.system.last ≡ a.system.last
      → b.side.system.cpus.online ≡ a.system.cpus.online →
      map (λ (l : Lane R C). l.hard) lanes ≡ a.system.cpus.cpus → map (λ (l : Lane R C). l.lead) lanes ≡ a.leads.items
      → map (λ (l : Lane R C). l.online) lanes ≡ a.system.cpus.online →
      b.side.system.cpus.cpus ≡ map (λ (l : LaneAfter R C). l.hard) after
      → b.side.leads.items ≡ map (λ (l : LaneAfter R C). l.lead) after →
      b.answers.items ≡ map (λ (l : LaneAfter R C). l.answer) after → AllFire handler firing now a b
  all_fire a b lanes after each records last online hards leads ups hards' leads' answers = record {
    records = records;
    last = last;
    online = online;
    long = ap (λ l. length l) hards' ∙ length-map after (λ (l : LaneAfter R C). l.hard) ∙ each.long
        ∙ sym (length-map lanes (λ (l : Lane R C). l.hard)) ∙ ap (λ l. length l) hards;
    long_leads = ap (λ l. length l) leads' ∙ length-map after (λ (l : LaneAfter R C). l.lead) ∙ each.long
        ∙ sym (length-map lanes (λ (l : Lane R C). l.lead)) ∙ ap (λ l. length l) leads;
    long_answers = ap (λ l. length l) answers ∙ length-map after (λ (l : LaneAfter R C). l.answer) ∙ each.long
        ∙ sym (length-map lanes (λ (l : Lane R C). l.hard)) ∙ ap (λ l. length l) hards;
    each = λ n up x y l m answer at_up at_x at_y at_l at_m at_answer. one_fires lanes after each n up x y l m answer
        (ap (λ z. slice_get z n) ups ∙ at_up) (ap (λ z. slice_get z n) hards ∙ at_x) (sym (ap (λ z. slice_get z n) hards') ∙ at_y)
        (ap (λ z. slice_get z n) leads ∙ at_l) (sym (ap (λ z. slice_get z n) leads') ∙ at_m)
        (sym (ap (λ z. slice_get z n) answers) ∙ at_answer);
  }
