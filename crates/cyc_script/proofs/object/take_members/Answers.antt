use Rattle.std.proofs.Common.{rules, ◌≡◌, ◌-◌, Some, Err, ◌∙◌, arith}
use Rattle.json.specs.Json.{read_key, value}
use Rattle.json.proofs.Grammar.{read_key-shorter}
use Rattle.serde_json.specs.Data.{put}
use Rattle.cyc_script.specs.declared.stop.Stop.TheVariants as Stop
use Rattle.cyc_script.proofs.Grammar.{key_none, member_none, member_read, members_over, shorter}
use Rattle.cyc_script.proofs.Taken.{denied_more}
use Rattle.cyc_script.proofs.object.take_members.Goals as goal

pub loop-key-smaller : goal.loop-key-smaller
loop-key-smaller c =
    let l = c.loop-key in
    let k = c.in-Some.key.now in
    let s = c.next_key.new.self in
    let key : read_key l.reader ≡ Some (Some k, s) = grind arith in
    let less = read_key-shorter l.reader (Some k) s key in
    let has = c.in_ok-member.ensures.value in
    let lesser = shorter 126 s c.member.new.reader has.0 has.1 in
    omega (arith, less, lesser)

pub loop-key-preserved : goal.loop-key-preserved
loop-key-preserved c =
    let l = c.loop-key in
    let n = l.invariant.0 in
    let ms = l.invariant.1 in
    let k = c.in-Some.key.now in
    let s = c.next_key.new.self in
    let r = c.member.new.reader in
    let key : read_key l.reader ≡ Some (Some k, s) = grind arith in
    let less = read_key-shorter l.reader (Some k) s key in
    let has = c.in_ok-member.ensures.value in
    let lesser = shorter 126 s r has.0 has.1 in
    let turn = member_read (value 126) ms n k l.reader s r has.0 (omega (arith, l.invariant.2, less)) key has.1 in (
      n - 1,
      put k has.0 ms,
      omega (arith, l.invariant.2, less, lesser),
      l.invariant.3 ∙ turn,
      has.2 ms l.invariant.4,
    )

pub returns-in_err-key-clause-denied : goal.returns-in_err-key-clause-denied
returns-in_err-key-clause-denied c =
    let l = c.loop-key in
    let none = l.invariant.3 ∙ key_none (value 126) l.invariant.1 l.invariant.0 l.reader c.in_err-key.ensures.value in
    let same : c.from_residual.result ≡ Err Stop.NoJson = search rules in
    rw same none

pub returns-in_err-member-clause-denied : goal.returns-in_err-member-clause-denied
returns-in_err-member-clause-denied c =
    let l = c.loop-key in
    let k = c.in-Some.key.now in
    let s = c.next_key.new.self in
    let key : read_key l.reader ≡ Some (Some k, s) = grind arith in
    let same : c.from_residual-in_err-member.result ≡ Err c.in_err-member.field-0.0 = search rules in
    let told = denied_more _ _ (λ none. l.invariant.3
    ∙ member_none (value 126) l.invariant.1 l.invariant.0 k l.reader s key none) c.in_err-member.field-0.0
    c.in_err-member.ensures.denied in
    rw same told

pub returns-clause-value : goal.returns-clause-value
returns-clause-value c =
    let l = c.loop-key in (
      l.invariant.1,
      l.invariant.3
          ∙ members_over (value 126) l.invariant.1 l.invariant.0 l.reader c.next_key.new.self l.invariant.2 (grind arith),
      l.invariant.4,
    )
