-- `behind` compares the pointer with null, and takes over what is behind it. Assumes `Logic`.
use Rattle.std.specs.Prelude.{Option, Some, None}
use Rattle.std.proofs.Common.{◌≡◌, ℕ, [], ◌∷◌, refl, subst}
use seplogic.Ra.Ura.{Ura}
use mir.Val.{Val, vnull, vptr}
use base.Fraction.{full_share}
use base.Logic.{SProp, ent, emp, via, never_e}
use base.Fml.{feq}
use prog.Memory.{Memory}
use prog.Routine.{Routine}
use prog.Wp.{Calls, Loops, WpFn}
use types.Logic.{Logic, sem}
use types.Kit.{‵, raw, ◌⊛◌, at_ret, ◌$◌, ◌∵◌, !, qed, by, done, drop, use0, use1, split, suffices, fjoin, feq_l, group}
use types.Run.{bin, lit, of_opd, and_then, no_more, first, branches, exec, enter, returns}
use types.ByLocal.{alloc_all, pass_all, free_all, look_at, get, sets, sets_last, env}
use types.Part.{agg}
use contract.Monad.{Fun, fact, top}
use contract.Running.{tables}
use denote.Builtin.{u64, RawPtr}
use denote.Exit.{yes}
use denote.RawPtr.{Ptr, block_ptr, null_ptr, InBlock, Testable, tests_null, lies_at, rawptr_vals, rawptr_Tells}
use denote.Signature.{plain}
use denote.Steps.{nothing, heard}
use denote.Triple.Clauses.{Clauses}
use denote.Triple.Entry.{on_entry}
use denote.Triple.Walked.{Stays, walk_of, says, stay_dropped, Goes-dropped, ends_at}
use Rattle.std.proofs.option.Made.{Some-of, none_of}
use Rattle.std.proofs.raw_atomic.Walks.{proved}
use Rattle.cyclic_c.specs.OutParameters.{number_behind, pointer_of}
use Rattle.cyclic_c.proofs.Seals.{one, ptr_typed, owning_in}
use Rattle.cyclic_c.proofs.OutValues.{Out, Found, none_val, some_val, none_typed, some_typed}
use Rattle.cyclic_c.specs.contracts.out_parameter.OutParameter.behind as f
use Rattle.cyclic_c.proofs.out_parameter.OutParameter.behind.Statement.{statement}
use Rattle.cyclic_c.proofs.out_parameter.OutParameter.behind.Code as code

abbrev stayed : Stays f.ended.signature.params f.ended.kept
stayed = (stay_dropped (plain (λ _. RawPtr)) yes, tt)

no_block : (b o : ℕ) → block_ptr b o ≡ null_ptr → ⊥
no_block b o e = subst InBlock e tt

module _ {M : Type 1} {𝓤 : Ura M} (𝓛 : Logic 𝓤) (at_mem : Memory → SProp 𝓤) (run : Routine → Fun 𝓤) where
  open 𝓛 use {H}

  abbrev c : Clauses 𝓤 f.ended
  c = f.clauses 𝓛 at_mem run

  abbrev y : Ptr → Option ℕ → (walk_of 𝓛 f.ended stayed c).Ghost
  y p n = ((tt, tt, tt, (p, tt), (rawptr_vals p, tt)), n)

  abbrev Post : Ptr → Option ℕ → Val → SProp 𝓤
  Post p n = (walk_of 𝓛 f.ended stayed c).post (y p n)

  -- the return, with what was found
  leaves : (p : Ptr) (n : Option ℕ) (m : Found.Denot) (v : Val) → pointer_of m ≡ p
      → ent 𝓤 (sem 𝓛 (Found.own_val m (v ∷ []))) (Post p n v)
  leaves p n m v is =
      qed 𝓛 (‵ (Found.own_val m (v ∷ [])) ∷ []) ∵ suffices ! _ (ends_at 𝓛 f.ended stayed c (y p n) v m (tt, tt) (tt, tt)) $
      says ! is $ nothing ! $ nothing ! $ fjoin ! $ nothing ! $ group ! 3 $ done !

  module _ (C : Calls 𝓤 H) (Λ : Loops 𝓤 H) where
    abbrev Runs : Ptr → Option ℕ → SProp 𝓤
    Runs p n = WpFn 𝓤 H C Λ code.function (rawptr_vals p) (Post p n)

    null : ent 𝓤 (emp 𝓤) (Runs null_ptr None)
    null =
        qed 𝓛 [] ∵ enter ! C Λ code.function (vnull ∷ []) (Post null_ptr None) $
        alloc_all ! (λ l. pass_all ! refl (ptr_typed null_ptr, tt) $
        sets ! (bin ! (get ! refl) (lit ! tt) tt) refl (tt, tt) $ first ! $ branches ! (get ! refl)
        (λ _. sets_last ! (agg ! (and_then ! (lit ! tt) (no_more !))) refl none_typed $
        exec ! C Λ (env code.Mir.locals l) code.Mir.t-3 (at_ret _ (Post null_ptr None)) $
        sets ! (of_opd ! (get ! refl)) refl none_typed $
        use0 𝓛 (‵ (Found.own_val None (none_val ∷ []))) (none_of 𝓛 Out) $
        returns ! (look_at ! 0 refl) $ free_all ! refl $ by ! (leaves null_ptr None None none_val refl))
        (λ wrong. absurd wrong))

    there : (b o n : ℕ) → Testable (block_ptr b o) → ent 𝓤 (sem 𝓛 (lies_at u64 full_share (block_ptr b o) n))
        (Runs (block_ptr b o) (Some n))
    there b o n t =
        let p : Ptr = block_ptr b o in let found : Out.Denot = record { at = p; number = n } in
        qed 𝓛 (‵ (lies_at u64 full_share p n) ∷ []) ∵ owning_in ! p (lies_at u64 full_share p n) $
        use1 𝓛 (‵ (Found.own_val (Some found) (some_val b o ∷ []))) (Some-of 𝓛 Out found (one (vptr b o))) $
        enter ! C Λ code.function (vptr b o ∷ []) (Post p (Some n)) $ alloc_all ! (λ l. pass_all ! refl (ptr_typed p, tt) $
        sets ! (bin ! (get ! refl) (lit ! tt) (tests_null p t)) refl (tt, tt) $ first ! $ branches ! (get ! refl)
        (λ wrong. absurd wrong)
        (λ _. sets ! (agg ! (and_then ! (get ! refl) (no_more !))) refl (tt, (tt, tt)) $
        sets_last ! (agg ! (and_then ! (lit ! tt) (and_then ! (get ! refl) (no_more !)))) refl (some_typed b o) $
        exec ! C Λ (env code.Mir.locals l) code.Mir.t-3 (at_ret _ (Post p (Some n))) $
        sets ! (of_opd ! (get ! refl)) refl (some_typed b o) $
        returns ! (look_at ! 0 refl) $ free_all ! refl $ by ! (leaves p (Some n) (Some found) (some_val b o) refl)))

    at_each : (p : Ptr) (n : Option ℕ) → Testable p → ent 𝓤 (sem 𝓛 (number_behind p n)) (Runs p n)
    at_each null_ptr None t = via 𝓤 (emp 𝓤) (top 𝓤 _) null
    at_each (block_ptr b o) None t = qed 𝓛 (‵ (feq Ptr (block_ptr b o) null_ptr) ∷ []) ∵ feq_l ! (λ e. absurd (no_block b o e))
    at_each null_ptr (Some n) t = never_e 𝓤 _
    at_each (block_ptr b o) (Some n) t = there b o n t

pub behind_spec : {M : Type 1} → statement M
behind_spec 𝓤 𝓛 𝓜 𝓡 wired =
    let 𝓣 = tables 𝓤 𝓛.H 𝓜 𝓡 𝓡.env in
    proved 𝓛 f.ended stayed (f.clauses 𝓛 𝓜.mem 𝓡.returns) 𝓜 𝓡 (Goes-dropped 𝓛 0 (plain (λ _. RawPtr)) yes (λ κs x w. refl), tt)
    f.Key.name code.function (code.unfolded 𝓤 𝓛.H 𝓜 𝓡 wired) (λ κs. (rawptr_vals, tt)) (λ κs. (rawptr_Tells, tt))
    (λ κs qs bounds a n are.
    qed 𝓛 (raw (on_entry 𝓛 f.signature κs qs a (rawptr_vals a.0, tt)) ∷ (raw (fact 𝓤 (Testable a.0))
    ⊛ ‵ (number_behind a.0 n)) ∷ []) ∵
    drop ! $ split ! $ heard ! (Testable a.0) (λ t. by ! (at_each 𝓛 𝓜.mem 𝓡.returns 𝓣.C 𝓣.Λ a.0 n t)))
