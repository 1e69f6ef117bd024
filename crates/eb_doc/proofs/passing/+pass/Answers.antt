use Rattle.std.proofs.Common.{◌≡◌, ◌-◌, ◌<◌, [], ◌∷◌, length, Some, None, option_map, ap, ap₂, ◌∙◌, arith, refl}
use Rattle.json.specs.Token.{Token}
use Rattle.json.specs.Json as json
use Rattle.json.specs.Json.{parse_map, after_end_array, read_key, items, members, value}
use Rattle.json.specs.Reads.{token_of}
use Rattle.json.proofs.Grammar.{value_is, value-begin_array, value-begin_object, read_key-shorter}
use Rattle.serde_json.specs.Data.{null, boolean, number, string, array, object, no_items, item, no_members, put}
use Rattle.serde_json.specs.Read.{number_of, of_json, of_items, converted}
use Rattle.eb_doc.proofs.Values.{converted-array, converted-object, item_read, item_refused, items_over, member_read, member_refused, key_refused, members_over}
use Rattle.eb_doc.proofs.Values.{items_then, none_before, some_number, none_number}
use Rattle.eb_doc.proofs.passing.+pass.Goals as goal

pub pass-returns-in_default-clause-err : goal.pass-returns-in_default-clause-err
pass-returns-in_default-clause-err t c =
    let empty : c.args.reader.now ≡ [] = grind arith in
    ap (converted of_json) (ap (value c.args.depth) empty ∙ value_is c.args.depth [])

pub pass-returns-then-depth-eq0-clause-err : goal.pass-returns-then-depth-eq0-clause-err
unfolding value
pass-returns-then-depth-eq0-clause-err t c =
    let first : c.args.reader.now ≡ token_of c.in-Some.token ∷ c.next.new.self = grind arith in
    let none : c.args.depth ≡ 0 = omega arith in
    ap (converted of_json) (ap₂ value none (first ∙ ap (λ k. token_of k ∷ c.next.new.self) c.in-BeginArray.is))

pub pass-returns-then-depth-eq0-2-clause-err : goal.pass-returns-then-depth-eq0-2-clause-err
unfolding value
pass-returns-then-depth-eq0-2-clause-err t c =
    let first : c.args.reader.now ≡ token_of c.in-Some.token ∷ c.next.new.self = grind arith in
    let none : c.args.depth ≡ 0 = omega arith in
    ap (converted of_json) (ap₂ value none (first ∙ ap (λ k. token_of k ∷ c.next.new.self) c.in-BeginObject.is))

pub pass-returns-in-String-clause-ok : goal.pass-returns-in-String-clause-ok
pass-returns-in-String-clause-ok t c =
    let first : c.args.reader.now ≡ token_of c.in-Some.token ∷ c.next.new.self = grind arith in
    let is : c.args.reader.now ≡ Token.string c.in-String.text.now ∷ c.next.new.self = grind (arith, first) in
    (string c.in-String.text.now, ap (converted of_json) (ap (value c.args.depth) is ∙ value_is c.args.depth _), record { number = refl; string = refl })

pub pass-returns-in-Bool-clause-ok : goal.pass-returns-in-Bool-clause-ok
pass-returns-in-Bool-clause-ok t c =
    let first : c.args.reader.now ≡ token_of c.in-Some.token ∷ c.next.new.self = grind arith in
    let is : c.args.reader.now ≡ Token.boolean c.in-Bool._is ∷ c.next.new.self = grind (arith, first) in
    (boolean c.in-Bool._is, ap (converted of_json) (ap (value c.args.depth) is ∙ value_is c.args.depth _), record { number = refl; string = refl })

pub pass-returns-in-Null-clause-ok : goal.pass-returns-in-Null-clause-ok
pass-returns-in-Null-clause-ok t c =
    let first : c.args.reader.now ≡ token_of c.in-Some.token ∷ c.next.new.self = grind arith in
    let is : c.args.reader.now ≡ Token.null ∷ c.next.new.self = grind (arith, first) in
    (null, ap (converted of_json) (ap (value c.args.depth) is ∙ value_is c.args.depth _), record { number = refl; string = refl })

pub pass-returns-in-Some-whole_number-clause-ok : goal.pass-returns-in-Some-whole_number-clause-ok
pass-returns-in-Some-whole_number-clause-ok t c =
    let first : c.args.reader.now ≡ token_of c.in-Some.token ∷ c.next.new.self = grind arith in
    let is : c.args.reader.now ≡ Token.number c.in-Number.text.now ∷ c.next.new.self = grind (arith, first) in
    let n = some_number (number_of c.in-Number.text.now) _ c.in-Some-whole_number.ensures in
    let of : of_json (json.number c.in-Number.text.now) ≡ Some (number n.0) = ap (option_map number) n.1 in
    (number n.0, ap (converted of_json) (ap (value c.args.depth) is ∙ value_is c.args.depth _) ∙ ap (option_map (λ b. (b, c.next.new.self))) of, record { number = n.2; string = refl })

pub pass-returns-in-None-clause-err : goal.pass-returns-in-None-clause-err
pass-returns-in-None-clause-err t c =
    let first : c.args.reader.now ≡ token_of c.in-Some.token ∷ c.next.new.self = grind arith in
    let is : c.args.reader.now ≡ Token.number c.in-Number.text.now ∷ c.next.new.self = grind (arith, first) in
    let n = none_number (number_of c.in-Number.text.now) c.in-None.ensures in
    let of : of_json (json.number c.in-Number.text.now) ≡ None = ap (option_map number) n in
    ap (converted of_json) (ap (value c.args.depth) is ∙ value_is c.args.depth _) ∙ ap (option_map (λ b. (b, c.next.new.self))) of

pub pass-returns-in-EndObject-clause-err : goal.pass-returns-in-EndObject-clause-err
pass-returns-in-EndObject-clause-err t c =
    let first : c.args.reader.now ≡ token_of c.in-Some.token ∷ c.next.new.self = grind arith in
    let none : value c.args.depth c.args.reader.now ≡ None = rw (value_is c.args.depth c.args.reader.now, first) (grind arith) in
    ap (converted of_json) none

pub pass-returns-in-Some-pass_items-clause-ok : goal.pass-returns-in-Some-pass_items-clause-ok
pass-returns-in-Some-pass_items-clause-ok t c =
    let first : c.args.reader.now ≡ token_of c.in-Some.token ∷ c.next.new.self = grind arith in
    let opened = ap (converted of_json) (ap (value c.args.depth) (first ∙ ap (λ k. token_of k ∷ c.next.new.self) c.in-BeginArray.is) ∙ value-begin_array c.args.depth c.next.new.self (omega arith))
    ∙ converted-array (items (value (c.args.depth - 1)) (length c.next.new.self) c.next.new.self) in
    let found = c.in-Some-pass_items.ensures.ok in
    (array found.0, opened ∙ ap (parse_map array) found.1, record { number = refl; string = refl })

pub pass-returns-in-None-pass_items-clause-err : goal.pass-returns-in-None-pass_items-clause-err
pass-returns-in-None-pass_items-clause-err t c =
    let first : c.args.reader.now ≡ token_of c.in-Some.token ∷ c.next.new.self = grind arith in
    let opened = ap (converted of_json) (ap (value c.args.depth) (first ∙ ap (λ k. token_of k ∷ c.next.new.self) c.in-BeginArray.is) ∙ value-begin_array c.args.depth c.next.new.self (omega arith))
    ∙ converted-array (items (value (c.args.depth - 1)) (length c.next.new.self) c.next.new.self) in
    opened ∙ ap (parse_map array) c.in-None-pass_items.ensures.err

pub pass-returns-in-Some-pass_members-clause-ok : goal.pass-returns-in-Some-pass_members-clause-ok
pass-returns-in-Some-pass_members-clause-ok t c =
    let first : c.args.reader.now ≡ token_of c.in-Some.token ∷ c.next.new.self = grind arith in
    let opened = ap (converted of_json) (ap (value c.args.depth) (first ∙ ap (λ k. token_of k ∷ c.next.new.self) c.in-BeginObject.is) ∙ value-begin_object c.args.depth c.next.new.self (omega arith))
    ∙ converted-object (members (value (c.args.depth - 1)) (length c.next.new.self) c.next.new.self) in
    let found = c.in-Some-pass_members.ensures.ok in
    (object found.0, opened ∙ ap (parse_map object) found.1, record { number = refl; string = refl })

pub pass-returns-in-None-pass_members-clause-err : goal.pass-returns-in-None-pass_members-clause-err
pass-returns-in-None-pass_members-clause-err t c =
    let first : c.args.reader.now ≡ token_of c.in-Some.token ∷ c.next.new.self = grind arith in
    let opened = ap (converted of_json) (ap (value c.args.depth) (first ∙ ap (λ k. token_of k ∷ c.next.new.self) c.in-BeginObject.is) ∙ value-begin_object c.args.depth c.next.new.self (omega arith))
    ∙ converted-object (members (value (c.args.depth - 1)) (length c.next.new.self) c.next.new.self) in
    opened ∙ ap (parse_map object) c.in-None-pass_members.ensures.err

pub pass_items-items-init : goal.pass_items-items-init
pass_items-items-init t c =
    (length c.args.reader.now, omega arith, (λ a. a, none_before (converted of_items (items (value c.args.depth) (length c.args.reader.now) c.args.reader.now))), omega arith)

pub pass_items-items-preserved : goal.pass_items-items-preserved
pass_items-items-preserved t c =
    let p = value c.args.depth in
    let l = c.items in
    let n = l.invariant.0 in
    let f = l.invariant.2.0 in
    let going : (after_end_array l.reader ≡ None) × (c.take_end_array.new.self ≡ l.reader) = grind arith in
    let done = c.in-Some.ensures in
    let d = done.ok.0 in
    let r = c.pass.new.reader in
    let less : length r < length l.reader = rw (← going.1) done.shorter in
    let turn = item_read p n l.reader r d (omega (arith, l.invariant.1, less)) going.0 (rw (← going.1) done.ok.1) in (
      n - 1,
      omega (arith, l.invariant.1, less),
      (λ ds. f (item d ds), l.invariant.2.1 ∙ ap (parse_map f) turn ∙ items_then f d _),
      omega (arith, l.invariant.3, less),
    )

pub pass_items-returns-in_default-clause-err : goal.pass_items-returns-in_default-clause-err
pass_items-returns-in_default-clause-err t c =
    let p = value c.args.depth in
    let l = c.items in
    let going : (after_end_array l.reader ≡ None) × (c.take_end_array.new.self ≡ l.reader) = grind arith in
    l.invariant.2.1 ∙ ap (parse_map l.invariant.2.0) (item_refused p l.invariant.0 l.reader going.0 (rw (← going.1) c.in_default.ensures.err))

pub pass_items-returns-clause-ok : goal.pass_items-returns-clause-ok
pass_items-returns-clause-ok t c =
    let p = value c.args.depth in
    let l = c.items in
    let r = c.take_end_array.new.self in
    (l.invariant.2.0 no_items, l.invariant.2.1 ∙ ap (parse_map l.invariant.2.0) (items_over p l.invariant.0 l.reader r l.invariant.1 (grind arith)))

pub pass_members-members-init : goal.pass_members-members-init
pass_members-members-init t c = (length c.args.reader.now, omega arith, (no_members, refl), omega arith)

pub pass_members-returns-in_default-clause-err : goal.pass_members-returns-in_default-clause-err
pass_members-returns-in_default-clause-err t c =
    let l = c.members in
    let none : read_key l.reader ≡ None = grind arith in
    l.invariant.2.1 ∙ key_refused (value c.args.depth) l.invariant.2.0 l.invariant.0 l.reader none

pub pass_members-returns-in_default-key-clause-ok : goal.pass_members-returns-in_default-key-clause-ok
pass_members-returns-in_default-key-clause-ok t c =
    let l = c.members in
    let over : read_key l.reader ≡ Some (None, c.next_key.new.self) = grind arith in
    (l.invariant.2.0, l.invariant.2.1 ∙ members_over (value c.args.depth) l.invariant.2.0 l.invariant.0 l.reader c.next_key.new.self l.invariant.1 over)

pub pass_members-members-preserved : goal.pass_members-members-preserved
pass_members-members-preserved t c =
    let p = value c.args.depth in
    let l = c.members in
    let n = l.invariant.0 in
    let old = l.invariant.2.0 in
    let k = c.in-Some._name.now in
    let s = c.next_key.new.self in
    let named : read_key l.reader ≡ Some (Some k, s) = grind arith in
    let done = c.in-Some-pass.ensures in
    let d = done.ok.0 in
    let r = c.pass.new.reader in
    let less = read_key-shorter l.reader (Some k) s named in
    let lesser = done.shorter in (
      n - 1,
      omega (arith, l.invariant.1, less, lesser),
      (put k d old, l.invariant.2.1 ∙ member_read p old n k l.reader s r d (omega (arith, l.invariant.1, less)) named done.ok.1),
      omega (arith, l.invariant.3, less, lesser),
    )

pub pass_members-returns-in_default-pass-clause-err : goal.pass_members-returns-in_default-pass-clause-err
pass_members-returns-in_default-pass-clause-err t c =
    let l = c.members in
    let k = c.in-Some._name.now in
    let s = c.next_key.new.self in
    let named : read_key l.reader ≡ Some (Some k, s) = grind arith in
    l.invariant.2.1 ∙ member_refused (value c.args.depth) l.invariant.2.0 l.invariant.0 k l.reader s named c.in_default-pass.ensures.err
