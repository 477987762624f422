use Rattle.std.proofs.Common.{rules, ◌≡◌, ◌+◌, ◌-◌, ◌∷◌, [], length, true, false, Some, None, Err, refl, ap, ap₂, ◌∙◌, arith}
use Rattle.json.specs.Json.{after_end_array, read_key, value}
use Rattle.json.specs.Reads.{token_of}
use Rattle.json.proofs.Grammar.{read_key-shorter}
use Rattle.serde_json.specs.Data.{array, no_members}
use Rattle.serde_json.specs.Read.{of_json, converted}
use Rattle.cyc_script.specs.Tokens.{HasValue, is_leaf, members_on}
use Rattle.cyc_script.proofs.Grammar.{array_flat, array_none, array_read, item_none, item_read, items_over, key_none, member_none}
use Rattle.cyc_script.proofs.Grammar.{member_read, members_over, nothing_read, object_flat, object_read, shorter}
use Rattle.cyc_script.proofs.Begun.{leaf_read, none_read, object_has}
use Rattle.cyc_script.proofs.Rest.{all_counted, all_counts, counted, counted_none, none_counted, one_counted, one_counts}
use Rattle.cyc_script.proofs.pass.+pass.Goals as goal

pub pass_items-loop-reader-init : goal.pass_items-loop-reader-init
pass_items-loop-reader-init t c = (0, omega arith, λ m enough. (m, enough, refl))

pub pass_items-loop-reader-smaller : goal.pass_items-loop-reader-smaller
pass_items-loop-reader-smaller t c =
    let l = c.loop-reader in
    let going : (after_end_array l.reader ≡ None) × (c.take_end_array.new.self ≡ l.reader) = grind arith in
    let r = c.pass_value.new.reader in
    let has : HasValue c.args.depth l.reader r = rw (← going.1) c.in_ok-pass_value.ensures in
    let less = shorter c.args.depth l.reader r has.0 has.1 in
    omega (arith, less)

pub pass_items-loop-reader-preserved : goal.pass_items-loop-reader-preserved
pass_items-loop-reader-preserved t c =
    let p = value c.args.depth in
    let l = c.loop-reader in
    let count = l.invariant.0 in
    let going : (after_end_array l.reader ≡ None) × (c.take_end_array.new.self ≡ l.reader) = grind arith in
    let r = c.pass_value.new.reader in
    let has : HasValue c.args.depth l.reader r = rw (← going.1) c.in_ok-pass_value.ensures in
    let less = shorter c.args.depth l.reader r has.0 has.1 in (
      count + 1,
      one_counts c.args.most l.left c.saturating_sub-left.result count l.few l.invariant.1 (grind arith),
      λ m enough.
          let before = l.invariant.2 m enough in
          let n = before.0 in
          let turn = item_read p n l.reader r has.0 (omega (arith, before.1, less)) going.0 has.1 in
          (n - 1, omega (arith, before.1, less), before.2 ∙ ap (counted count) turn ∙ one_counted count has.0 _),
    )

pub pass_items-returns-in_err-pass_value : goal.pass_items-returns-in_err-pass_value
pass_items-returns-in_err-pass_value t c =
    let l = c.loop-reader in
    let going : (after_end_array l.reader ≡ None) × (c.take_end_array.new.self ≡ l.reader) = grind arith in
    let none : converted of_json (value c.args.depth l.reader) ≡ None = rw (← going.1) c.in_err-pass_value.ensures in
    let same : c.from_residual.result ≡ Err c.in_err-pass_value.field-0.0 = search rules in
    rw same (λ m enough.
    let before = l.invariant.2 m enough in
    counted_none 0 l.invariant.0 _ _ before.2 (item_none (value c.args.depth) before.0 l.reader going.0 none))

pub pass_items-returns : goal.pass_items-returns
pass_items-returns t c = λ m enough.
    let l = c.loop-reader in
    let r = c.take_end_array.new.self in
    let count = l.invariant.0 in
    let before = l.invariant.2 m enough in
    let over = items_over (value c.args.depth) before.0 l.reader r before.1 (grind arith) in
    let all = all_counted _ _ _ r (before.2 ∙ ap (counted count) over ∙ none_counted count r) in
    (all.0, all.1, all_counts _ l.left count _ l.few l.invariant.1 all.2)

pub pass_members-loop-reader-init : goal.pass_members-loop-reader-init
pass_members-loop-reader-init t c = (length c.args.reader.now, no_members, omega arith, refl)

pub pass_members-loop-reader-smaller : goal.pass_members-loop-reader-smaller
pass_members-loop-reader-smaller t c =
    let l = c.loop-reader in
    let k = c.in-Some.field-0.now in
    let s = c.next_key.new.self in
    let key : read_key l.reader ≡ Some (Some k, s) = grind arith in
    let less = read_key-shorter l.reader (Some k) s key in
    let has = c.in_ok-pass_value.ensures in
    let lesser = shorter c.args.depth s c.pass_value.new.reader has.0 has.1 in
    omega (arith, less, lesser)

pub pass_members-loop-reader-preserved : goal.pass_members-loop-reader-preserved
pass_members-loop-reader-preserved t c =
    let p = value c.args.depth in
    let l = c.loop-reader in
    let n = l.invariant.0 in
    let k = c.in-Some.field-0.now in
    let s = c.next_key.new.self in
    let r = c.pass_value.new.reader in
    let key : read_key l.reader ≡ Some (Some k, s) = grind arith in
    let less = read_key-shorter l.reader (Some k) s key in
    let has = c.in_ok-pass_value.ensures in
    let lesser = shorter c.args.depth s r has.0 has.1 in
    let enough = l.invariant.2 in
    let turn = member_read p l.invariant.1 n k l.reader s r has.0 (omega (arith, enough, less)) key has.1 in
    (n - 1, _, omega (arith, enough, less, lesser), l.invariant.3 ∙ turn)

pub pass_members-returns-in_err-next_key : goal.pass_members-returns-in_err-next_key
pass_members-returns-in_err-next_key t c =
    let l = c.loop-reader in
    let none = l.invariant.3
    ∙ key_none (value c.args.depth) l.invariant.1 l.invariant.0 l.reader c.in_err-next_key.ensures.value in
    let same : c.from_residual.result ≡ Err c.in_err-next_key.field-0.0 = search rules in
    rw same none

pub pass_members-returns-in_err-pass_value : goal.pass_members-returns-in_err-pass_value
pass_members-returns-in_err-pass_value t c =
    let l = c.loop-reader in
    let k = c.in-Some.field-0.now in
    let s = c.next_key.new.self in
    let key : read_key l.reader ≡ Some (Some k, s) = grind arith in
    let none = l.invariant.3
    ∙ member_none (value c.args.depth) l.invariant.1 l.invariant.0 k l.reader s key c.in_err-pass_value.ensures in
    let same : c.from_residual-in_err-pass_value.result ≡ Err c.in_err-pass_value.field-0.0 = search rules in
    rw same none

pub pass_members-returns : goal.pass_members-returns
pass_members-returns t c =
    let l = c.loop-reader in (
      l.invariant.1,
      l.invariant.3
          ∙ members_over (value c.args.depth) l.invariant.1 l.invariant.0 l.reader c.next_key.new.self l.invariant.2
          (grind arith),
    )

pub pass_from-returns-then-depth-eq0 : goal.pass_from-returns-then-depth-eq0
pass_from-returns-then-depth-eq0 t c =
    let none : c.args.depth ≡ 0 = omega arith in
    let opens = ap (λ k. token_of k ∷ c.args.reader.now) c.in-BeginArray.is in
    ap (converted of_json) (ap₂ value none opens ∙ array_flat c.args.reader.now)

pub pass_from-returns-then-depth-eq0-2 : goal.pass_from-returns-then-depth-eq0-2
pass_from-returns-then-depth-eq0-2 t c =
    let none : c.args.depth ≡ 0 = omega arith in
    let opens = ap (λ k. token_of k ∷ c.args.reader.now) c.in-BeginObject.is in
    ap (converted of_json) (ap₂ value none opens ∙ object_flat c.args.reader.now)

pub pass_from-returns-in_err-pass_items-in-BeginArray : goal.pass_from-returns-in_err-pass_items-in-BeginArray
pass_from-returns-in_err-pass_items-in-BeginArray t c =
    let ts = c.args.reader.now in
    let opens = ap (λ k. token_of k ∷ ts) c.in-BeginArray.is in
    let left = c.in_err-pass_items-in-BeginArray.ensures (length ts) (omega arith) in
    let none : converted of_json (value c.args.depth (token_of c.args.token ∷ ts)) ≡ None =
    ap (λ tokens. converted of_json (value c.args.depth tokens)) opens ∙ array_none c.args.depth ts (omega arith) left in
    let same : c.from_residual.result ≡ Err c.in_err-pass_items-in-BeginArray.field-0.0 = search rules in
    rw same none

pub pass_from-returns-in_ok-pass_items-in-BeginArray : goal.pass_from-returns-in_ok-pass_items-in-BeginArray
pass_from-returns-in_ok-pass_items-in-BeginArray t c =
    let ts = c.args.reader.now in
    let opens = ap (λ k. token_of k ∷ ts) c.in-BeginArray.is in
    let has = c.in_ok-pass_items-in-BeginArray.ensures (length ts) (omega arith) in (
      array has.0,
      ap (λ tokens. converted of_json (value c.args.depth tokens)) opens
          ∙ array_read c.args.depth ts c.pass_items.new.reader has.0 (omega arith) has.1,
    )

pub pass_from-returns-else-depth-eq0-2 : goal.pass_from-returns-else-depth-eq0-2
pass_from-returns-else-depth-eq0-2 t c =
    let ts = c.args.reader.now in
    let opens = ap (λ k. token_of k ∷ ts) c.in-BeginObject.is in
    let read = ap (λ tokens. converted of_json (value c.args.depth tokens)) opens ∙ object_read c.args.depth ts (omega arith) in
    object_has c.pass_members.result (members_on (c.args.depth - 1) (length ts) ts no_members) c.pass_members.new.reader _ read
    c.pass_members.ensures

pub pass_from-returns-then-is_leaf : goal.pass_from-returns-then-is_leaf
pass_from-returns-then-is_leaf t c =
    let leaf : is_leaf c.args.token ≡ true = grind arith in
    leaf_read c.args.token c.args.depth c.args.reader.now leaf

pub pass_from-returns-else-is_leaf : goal.pass_from-returns-else-is_leaf
pass_from-returns-else-is_leaf t c =
    let leaf : is_leaf c.args.token ≡ false = grind arith in
    none_read c.args.token c.args.depth c.args.reader.now c.in_default.not-BeginArray c.in_default.not-BeginObject leaf

pub pass_value-returns-in_err-token : goal.pass_value-returns-in_err-token
pass_value-returns-in_err-token t c =
    let empty : c.args.reader.now ≡ [] = grind arith in
    let none : converted of_json (value c.args.depth c.args.reader.now) ≡ None = rw empty (nothing_read c.args.depth) in
    let same : c.from_residual.result ≡ Err c.in_err-token.field-0.0 = search rules in
    rw same none
