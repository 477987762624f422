-- `cyclic_firing_add` hands what is behind the pointer to `added`, and has it back. Assumes `Logic`.
use Rattle.std.specs.Prelude.{Option}
use Rattle.std.proofs.Common.{◌≡◌, ℕ, [], ◌∷◌, refl, ap, ◌∙◌, w32, w64}
use mir.Syntax.{named}
use base.Logic.{sep, ex, emp, ex_i, id⊢}
use base.Fml.{ftrue, flft}
use types.Logic.{sem}
use types.Kit.{‵, raw, ◌⊛◌, some, later, at_ret, ◌$◌, ◌∵◌, !, qed, by, move, keep, drop, split, join, fsplit, fjoin, pick}
use types.Kit.{learn, await, rewrite, group, use0, use1, use2}
use types.Run.{enter, of_opd, addr, stop, fld, no_more, and_then, first, blocks, exec, returns}
use types.ByLocal.{alloc_all, pass_all, free_all, look_at, get, get_in, through, sets, lands_as, lands_last, env}
use types.Part.{sub, whole}
use contract.Monad.{fact, fact_i}
use contract.Running.{tables}
use denote.Builtin.{u32, u64, i64, RawPtr}
use denote.Plain.{uint_vals, uint_Tells, uint_Lawful}
use denote.RawPtr.{Ptr, Testable, rawptr_vals, rawptr_Tells}
use denote.Ref.{MutRef, mut_vals, mut_Tells}
use denote.Signature.{plain}
use denote.Signed.{sint_vals, sint_Tells}
use denote.Steps.{nothing, only, heard}
use denote.Triple.Call.{calls_at, calls_at_last}
use denote.Triple.Clauses.{Lasts, lasts}
use denote.Triple.Spec.{triple_of}
use denote.Triple.Statement.{Contract}
use denote.Triple.Table.{framed}
use denote.Triple.Walked.{Stays, gave_ref, walk_of, Goes-gave_ref}
use Rattle.std.proofs.raw_atomic.Walks.{proved, leaves}
use Rattle.cyc_border.specs.Border.{Through, add_numbers}
use Rattle.cyc_border.specs.Pair.{raise_held, OnSide}
use Rattle.cyclic_c.specs.Exports.{AddsOut}
use Rattle.cyclic_c.specs.OutParameters.{number_behind, pointer_of, number_out}
use Rattle.cyclic_c.specs.contracts.handle_firing.CyclicFiring.{the_row as Handle}
use Rattle.cyclic_c.proofs.OutValues.{Found, found_laws, found_memory}
use Rattle.cyclic_c.proofs.OutCalls.{Behind, at_behind, gives, behind_goes, behind_gives, gone, u64_goes}
use Rattle.cyclic_c.proofs.OutCalls.{pointer_goes, Pair, pair_typed, long_fits, u32_goes, i64_goes}
use Rattle.cyclic_c.proofs.Seals.{ptr_typed}
use Rattle.cyclic_c.proofs.Values.{two_out}
use Rattle.cyclic_c.specs.contracts.exports_firing.cyclic_firing_add as f
use Rattle.cyclic_c.proofs.exports_firing.cyclic_firing_add.Statement.{statement}
use Rattle.cyclic_c.proofs.exports_firing.cyclic_firing_add.Code as code
use Rattle.cyclic_c.specs.contracts.exports_firing.added as g
use Rattle.cyclic_c.proofs.exports_firing.added.Met as added
use Rattle.cyclic_c.proofs.out_parameter.OutParameter.behind.Met as behind

abbrev stayed : Stays f.ended.signature.params f.ended.kept
stayed = (
  gave_ref (0 ∷ []) tt (plain (λ _. Handle)),
  (
    gone u64,
    (
      gone u32,
      (
        gone i64,
        (
          gone i64,
          (
            gone i64,
            (gone RawPtr, tt),
          ),
        ),
      ),
    ),
  ),
)

pub cyclic_firing_add_spec : {M : Type 1} → statement M
cyclic_firing_add_spec 𝓤 𝓛 𝓜 𝓡 wired =
    let H = 𝓛.H in let mem = 𝓜.mem in let run = 𝓡.returns in let c = f.clauses 𝓛 mem run in let W = walk_of 𝓛 f.ended stayed c in
    let 𝓣 = tables 𝓤 H 𝓜 𝓡 𝓡.env in let fm = framed 𝓤 H 𝓜 𝓣 in
    proved 𝓛 f.ended stayed c 𝓜 𝓡 (
      Goes-gave_ref 𝓛 1 0 tt (plain (λ _. Handle)),
      (
        u64_goes 𝓛 1,
        (
          u32_goes 𝓛 1,
          (i64_goes 𝓛 1, (i64_goes 𝓛 1, (i64_goes 𝓛 1, (pointer_goes 𝓛 1, tt)))),
        ),
      ),
    )
    f.Key.name code.function (code.unfolded 𝓤 H 𝓜 𝓡 wired)
    (λ κs. (
      mut_vals,
      (
        uint_vals w64,
        (
          uint_vals w32,
          (
            sint_vals w64,
            (
              sint_vals w64,
              (
                sint_vals w64,
                (rawptr_vals, tt),
              ),
            ),
          ),
        ),
      ),
    ))
    (λ κs. (
      mut_Tells (named 0) κs.0 Handle,
      (
        uint_Tells w64,
        (
          uint_Tells w32,
          (
            sint_Tells w64,
            (
              sint_Tells w64,
              (sint_Tells w64, (rawptr_Tells, tt)),
            ),
          ),
        ),
      ),
    )) (λ κs qs bounds a n are.
    let κ = κs.0 in let q = qs.0 in let firing = a.0 in let id = a.1.0 in let level = a.1.1.0 in
    let start = a.1.1.1.0 in let interval = a.1.1.1.1.0 in let now = a.1.1.1.1.1.0 in let p = a.1.1.1.1.1.1.0 in
    let y : W.Ghost = (
      (
        κs,
        qs,
        bounds,
        a,
        (
          mut_vals firing,
          (
            uint_vals w64 id,
            (
              uint_vals w32 level,
              (
                sint_vals w64 start,
                (sint_vals w64 interval, (sint_vals w64 now, (rawptr_vals p, tt))),
              ),
            ),
          ),
        ),
      ),
      n,
    ) in
    let Done = λ (w : Handle.Denot) (r : ℕ) (m : Option ℕ). Through firing.now.inner.held w.inner.held r
    (AddsOut raise_held OnSide (add_numbers id level start interval now) r m) in
    let Ends = λ (w : Handle.Denot) (r : ℕ) (m : Option ℕ). sep 𝓤 (sem 𝓛 (number_behind p m)) (fact 𝓤 (Done w r m)) in
    qed 𝓛 (((‵ (flft κ q) ⊛ ‵ ftrue) ⊛ ‵ ((MutRef (named 0) κ Handle).own_val firing (mut_vals firing))
    ⊛ ‵ (u64.own_val id (uint_vals w64 id))
    ⊛ ‵ (u32.own_val level (uint_vals w32 level)) ⊛ ‵ (i64.own_val start (sint_vals w64 start))
    ⊛ ‵ (i64.own_val interval (sint_vals w64 interval)) ⊛ ‵ (i64.own_val now (sint_vals w64 now))
    ⊛ ‵ (RawPtr.own_val p (rawptr_vals p)) ⊛ ‵ ftrue) ∷ (raw (fact 𝓤 (Testable p)) ⊛ ‵ (number_behind p n)) ∷ []) ∵
    move ! (1 ∷ []) $ split ! $ heard ! (Testable p) (λ t.
    use1 𝓛 (raw ((Behind 𝓛 mem run p n).pre (at_behind 𝓛 mem run p n))) (behind_goes 𝓛 mem run p n t) $
    enter ! _ _ _ _ _ $ alloc_all ! (λ l. pass_all ! refl (
      (tt, tt),
      (
        (tt, record { fits = are.1.0.1 }),
        (
          (tt, record { fits = are.1.1.0.1 }),
          (
            (tt, long_fits start are.1.1.1.0.1),
            ((tt, long_fits interval are.1.1.1.1.0.1), ((tt, long_fits now are.1.1.1.1.1.0.1), (ptr_typed p, tt))),
          ),
        ),
      ),
    ) $
    first ! $ blocks ! $ calls_at_last ! fm (Behind 𝓛 mem run p n) (behind.met 𝓤 𝓛 𝓜 𝓡
    (code.calls-cyclic_c::out_parameter::OutParameter::behind 𝓡.env wired)) (at_behind 𝓛 mem run p n)
    (and_then ! (get ! refl) (no_more !)) (λ u. use1 𝓛 (later (some (gives 𝓛 p u))) (behind_gives 𝓛 mem run p n u) $
    await ! tt $ pick ! (λ m. learn ! (λ is.
    lands_last ! refl is.1 $ exec ! 𝓣.C 𝓣.Λ (env code.Mir.locals l) code.Mir.t-2 (at_ret _ (W.post y)) $
    sets ! (of_opd ! (get ! refl)) refl is.1 $ sets ! (addr ! (through ! refl (stop !))) refl (tt, tt) $
    -- [the out-parameter; the token and the parameters]
    move ! (1 ∷ []) $ split ! $ move ! (1 ∷ []) $ split ! $ move ! (1 ∷ []) $ split ! $ move ! (1 ∷ []) $ split ! $
    move ! (1 ∷ []) $ split ! $ move ! (1 ∷ []) $ split ! $ move ! (1 ∷ []) $ split ! $ nothing ! $
    move ! (7 ∷ 6 ∷ 5 ∷ 4 ∷ 3 ∷ 1 ∷ 9 ∷ 0 ∷ []) $ group ! 8 $ move ! (2 ∷ 0 ∷ []) $ join ! $ nothing ! $
    move ! (1 ∷ 0 ∷ []) $
    let G : Contract 𝓤 = triple_of 𝓛 g.signature (g.spec 𝓛 mem run) in
    let z : G.Ghost = (
      (
        κs,
        qs,
        bounds,
        (firing, (id, (level, (start, (interval, (now, (m, tt))))))),
        (
          mut_vals firing,
          (
            uint_vals w64 id,
            (
              uint_vals w32 level,
              (
                sint_vals w64 start,
                (
                  sint_vals w64 interval,
                  (sint_vals w64 now, (u ∷ [], tt)),
                ),
              ),
            ),
          ),
        ),
      ),
      tt,
    ) in
    use2 𝓛 (raw (G.pre z)) (id⊢ 𝓤 _) $
    calls_at ! fm G (added.met 𝓤 𝓛 𝓜 𝓡 (code.calls-cyclic_c::exports_firing::added 𝓡.env wired)) z
    (and_then ! (get ! refl) (and_then ! (get ! refl) (and_then ! (get ! refl) (and_then ! (get ! refl) (and_then ! (get ! refl)
    (and_then ! (get ! refl) (and_then ! (get ! refl) (no_more !)))))))) (λ v.
    use1 𝓛 (later (some (λ (r : Pair.Denot). ((‵ (flft κ q) ⊛ ‵ ftrue) ⊛ ‵ (Pair.own_val r (v ∷ []))) ⊛ some
    (λ (ws : Lasts g.ended κs z.0.3). ‵ (lasts g.ended κs z.0.3 ws) ⊛ (raw (fact 𝓤 (Done ws.0 r.0 (number_out r.1)))
    ⊛ raw (fact 𝓤 (pointer_of r.1 ≡ pointer_of m))))))) (id⊢ 𝓤 _) $ await ! tt $ pick !
    (λ r. split ! $ move ! (1 ∷ []) $ pick ! (λ ws. let Said = Done ws.0 r.0 (number_out r.1) in let Left = Ends ws.0 r.0 in
    split ! $ move ! (1 ∷ []) $ split ! $ heard ! Said (λ done. heard ! (pointer_of r.1 ≡ pointer_of m) (λ same.
    fsplit ! $ move ! (1 ∷ []) $ drop ! $ move ! (1 ∷ []) $ split ! $ move ! (1 ∷ []) $
    two_out u32 Found r.0 r.1 ! refl refl (uint_Lawful 𝓛 w32) (found_laws.lawful 𝓛) (v ∷ []) (λ v₁ v₂ g₁ g₂ e.
    lands_as ! (ap only e) refl (pair_typed v₁ v₂ g₁ g₂) $
    sets ! (of_opd ! (get_in ! (fld ! refl (stop !)) (sub ! 0 refl (whole !)))) refl g₁ $
    returns ! (look_at ! 0 refl) $ free_all ! refl $
    -- [the number; the out-parameter; the token; what the handle is at last]
    move ! (1 ∷ []) $ use1 𝓛 (‵ (number_behind (pointer_of r.1) (number_out r.1))) (found_memory 𝓛 r.1 (v₂ ∷ [])) $
    rewrite ! 0 (λ (x : Ptr). ‵ (number_behind x (number_out r.1))) (same ∙ is.0) refl $
    use0 𝓛 (raw (fact 𝓤 Said)) (fact_i 𝓤 Said (emp 𝓤) done) $ move ! (1 ∷ 0 ∷ []) $
    use2 𝓛 (raw (ex 𝓤 Left)) (ex_i 𝓤 Left (number_out r.1)) $
    nothing ! $ nothing ! $ fjoin ! $ nothing ! $ fjoin ! $ nothing ! $ fjoin ! $ nothing ! $ fjoin ! $ nothing ! $ fjoin ! $
    nothing ! $ fjoin ! $ move ! (4 ∷ 0 ∷ []) $ fjoin ! $ keep ! (3 ∷ 0 ∷ 2 ∷ 1 ∷ []) $
    by ! (leaves 𝓛 f.ended stayed c y v₁ r.0 (ws.0, (tt, (tt, (tt, (tt, (tt, (tt, tt)))))))
    (tt, (tt, (tt, (tt, (tt, (tt, (tt, tt))))))))))))))))))))
