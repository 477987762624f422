use Rattle.std.proofs.Common.{Err, length, inl, inr, filter, not, refl, sym, ap, ◌∙◌, subst, arith}
use Rattle.std.specs.List.{FoldsTo}
use Rattle.std.proofs.lemmas.Result.{err_from_is_err_and}
use Rattle.cyc_agreement.specs.System.{ids_on, is_omnipresent}
use Rattle.cyc_agreement.specs.Agreement.{Agrees}
use Rattle.cyc_agreement.specs.Holding.{EndedWithin}
use Rattle.cyc_agreement.proofs.Given.{agrees_same}
use Rattle.cyc_agreement.proofs.Holding.{within_same}
use Rattle.cyc_system.specs.Juggling.{system_of, single_ids}
use Rattle.cyc_system.specs.GoingOffline.{Retires}
use Rattle.cyc_system.proofs.AskingEach.{asks_same, no_ids, agrees_found, within_found}
use Rattle.cyc_system.proofs.OtherOnline.{other_too}
use Rattle.cyc_system.proofs.going_offline.offline.Goals as goal

pub returns-in_err-may_leave-clause-did : goal.returns-in_err-may_leave-clause-did
returns-in_err-may_leave-clause-did g c last =
    let e = err_from_is_err_and c.from_residual.result c.from_residual.ensures.1 in
    inl (c.in_err-may_leave.field-0.0, c.in_err-may_leave.ensures.err c.args.records.now last, e.1 ∙ ap Err e.2, refl)

pub returns-then-report-gt0-clause-did : goal.returns-then-report-gt0-clause-did
returns-then-report-gt0-clause-did g c last =
    let u = system_of c.move_away-report.new.cpus c.move_away-report.new.records last in
    let left = c.move_away-report.ensures.left last in let some = c.if-report-gt0.true in
    inr (
      c.in_ok-may_leave.ensures.ok c.args.records.now last,
      (
        c.move_away-report.result,
        u,
        c.move_away-report.ensures.did last,
        inl ((λ e. (let none = ap length e in omega (arith, left, some, none))), refl, refl),
      ),
    )

pub returns-then-any_pending-clause-did : goal.returns-then-any_pending-clause-did
returns-then-any_pending-clause-did g c last =
    let u = system_of c.move_away-report.new.cpus c.move_away-report.new.records last in
    let left = c.move_away-report.ensures.left last in let none = c.if-report-gt0.false in
    inr (
      c.in_ok-may_leave.ensures.ok c.args.records.now last,
      (
        c.move_away-report.result,
        u,
        c.move_away-report.ensures.did last,
        inr (inl (
          no_ids (single_ids c.args.source u) (omega (arith, left, none)),
          refl,
          c.if-any_pending.ensures.some c.move_away-report.new.records last,
        )),
      ),
    )

pub returns-then-any_pending-clause-agrees : goal.returns-then-any_pending-clause-agrees
returns-then-any_pending-clause-agrees g c last a =
    agrees_found g.R.Raise c.args.source last c.move_away-report.new.cpus c.any_pending.new.cpus
    c.move_away-report.new.records
    (c.if-any_pending.ensures.some c.move_away-report.new.records last) (c.move_away-report.ensures.agrees last a)

pub retire_all-requires-clause-agrees : goal.retire_all-requires-clause-agrees
retire_all-requires-clause-agrees g c = let (last, a) = c.requires in let v = c.move_away-report.new.cpus in let w =
    c.any_pending.new.cpus in (
      last,
      agrees_same (system_of v c.move_away-report.new.records last) w (c.move_away-report.ensures.agrees last a)
          (asks_same g.R.Raise c.args.source (ids_on c.args.source v) v w c.if-any_pending.ensures.none),
    )

pub retire_all-requires-clause-there : goal.retire_all-requires-clause-there
retire_all-requires-clause-there g c = let v = c.move_away-report.new.cpus in let w = c.any_pending.new.cpus in
    let same = asks_same g.R.Raise c.args.source (ids_on c.args.source v) v w c.if-any_pending.ensures.none in
    let a = c.in_ok-may_leave.ensures.there in let b = c.move_away-report.ensures.there in let d = same.long in
    omega (arith, a, b, d)

pub retire_all-requires-clause-still : goal.retire_all-requires-clause-still
retire_all-requires-clause-still g c = let v = c.move_away-report.new.cpus in let w = c.any_pending.new.cpus in
    let same = asks_same g.R.Raise c.args.source (ids_on c.args.source v) v w c.if-any_pending.ensures.none in
    same.removals c.args.source ∙ c.move_away-report.ensures.still

pub retire_all-requires-clause-components : goal.retire_all-requires-clause-components
retire_all-requires-clause-components g c last =
    let v = c.move_away-report.new.cpus in let w = c.any_pending.new.cpus in let rs = c.move_away-report.new.records in
    let same = asks_same g.R.Raise c.args.source (ids_on c.args.source v) v w c.if-any_pending.ensures.none in
    let left = c.move_away-report.ensures.left last in let none = c.if-report-gt0.false in
    ap (filter (λ id. not (is_omnipresent id (system_of v rs last)))) (same.ids c.args.source)
    ∙ no_ids (single_ids c.args.source (system_of v rs last)) (omega (arith, left, none))

pub retire_all-requires-clause-other : goal.retire_all-requires-clause-other
retire_all-requires-clause-other g c = let v = c.move_away-report.new.cpus in let w = c.any_pending.new.cpus in
    let same = asks_same g.R.Raise c.args.source (ids_on c.args.source v) v w c.if-any_pending.ensures.none in
    let (d, chosen) = c.in_ok-may_leave.ensures.other in
    other_too c.args.cpus.now w c.args.source d (same.online ∙ c.move_away-report.ensures.online) chosen

pub set_online-requires : goal.set_online-requires
set_online-requires g c = let v = c.move_away-report.new.cpus in let w = c.any_pending.new.cpus in
    let same = asks_same g.R.Raise c.args.source (ids_on c.args.source v) v w c.if-any_pending.ensures.none in
    let a = c.in_ok-may_leave.ensures.there in let b = c.move_away-report.ensures.there in let d = same.long in let e =
    c.retire_all.ensures.there in omega (arith, a, b, d, e)

pub returns-clause-did : goal.returns-clause-did
returns-clause-did g c last =
    let v = c.move_away-report.new.cpus in let w = c.any_pending.new.cpus in let rs = c.move_away-report.new.records in
    let u = system_of v rs last in
    let same = asks_same g.R.Raise c.args.source (ids_on c.args.source v) v w c.if-any_pending.ensures.none in
    let left = c.move_away-report.ensures.left last in let none = c.if-report-gt0.false in
    let empty = system_of c.retire_all.new.cpus c.retire_all.new.records last in
    inr (
      c.in_ok-may_leave.ensures.ok c.args.records.now last,
      (
        c.move_away-report.result,
        u,
        c.move_away-report.ensures.did last,
        inr (inr (
          no_ids (single_ids c.args.source u) (omega (arith, left, none)),
          refl,
          (
            system_of w rs last,
            (c.if-any_pending.ensures.none, refl, refl),
            empty,
            subst (λ ids. FoldsTo (Retires g.R.Raise c.args.source) (system_of w rs last) ids empty)
                (same.ids c.args.source) (c.retire_all.ensures.did last),
            ap (λ cpus. system_of cpus c.retire_all.new.records last) c.set_online.ensures,
          ),
        )),
      ),
    )

pub returns-then-any_pending-clause-within : goal.returns-then-any_pending-clause-within
returns-then-any_pending-clause-within g c last h =
    within_found g.R.Raise c.args.source last c.move_away-report.new.cpus c.any_pending.new.cpus
    c.move_away-report.new.records
    (c.if-any_pending.ensures.some c.move_away-report.new.records last) (c.move_away-report.ensures.within last h)

pub returns-clause-within : goal.returns-clause-within
returns-clause-within g c last h = let v = c.move_away-report.new.cpus in let w = c.any_pending.new.cpus in let rs =
    c.move_away-report.new.records in
    let same = asks_same g.R.Raise c.args.source (ids_on c.args.source v) v w c.if-any_pending.ensures.none in
    subst (λ cpus. EndedWithin (system_of cpus c.retire_all.new.records last)) (sym c.set_online.ensures)
    (c.retire_all.ensures.within last (within_same (system_of v rs last) (system_of w rs last) same.most refl
    (c.move_away-report.ensures.within last h)))

pub returns-clause-agrees : goal.returns-clause-agrees
returns-clause-agrees g c last a = let v = c.move_away-report.new.cpus in let w = c.any_pending.new.cpus in
    subst (λ cpus. Agrees (system_of cpus c.retire_all.new.records last)) (sym c.set_online.ensures)
    (c.retire_all.ensures.agrees last (agrees_same (system_of v c.move_away-report.new.records last) w
    (c.move_away-report.ensures.agrees last a)
    (asks_same g.R.Raise c.args.source (ids_on c.args.source v) v w c.if-any_pending.ensures.none)))
