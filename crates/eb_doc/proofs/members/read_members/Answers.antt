use Rattle.std.proofs.Common.{◌≡◌, ◌-◌, length, Some, None, ◌∙◌, arith, refl}
use Rattle.json.specs.Json.{read_key, value}
use Rattle.json.proofs.Grammar.{read_key-shorter}
use Rattle.serde_json.specs.Data.{no_members, put}
use Rattle.eb_doc.proofs.Values.{member_read, member_refused, key_refused, members_over}
use Rattle.eb_fields.specs.Given.{told_text}
use Rattle.eb_doc.proofs.Named.{no_id}
use Rattle.eb_doc.proofs.members.read_members.Goals as goal

pub members-init : goal.members-init
members-init c = (length c.args.reader.now, omega arith, (no_members, refl, record { id = no_id (told_text c.args.dialect.now.id); text = refl }))

pub returns-in_default-clause-err : goal.returns-in_default-clause-err
returns-in_default-clause-err c =
    let l = c.members in
    let none : read_key l.reader ≡ None = grind arith in
    l.invariant.2.1 ∙ key_refused (value c.args.depth) l.invariant.2.0 l.invariant.0 l.reader none

pub returns-in_default-key-clause-ok : goal.returns-in_default-key-clause-ok
returns-in_default-key-clause-ok c =
    let l = c.members in
    let over : read_key l.reader ≡ Some (None, c.next_key.new.self) = grind arith in
    (l.invariant.2.0, l.invariant.2.1 ∙ members_over (value c.args.depth) l.invariant.2.0 l.invariant.0 l.reader c.next_key.new.self l.invariant.1 over, l.invariant.2.2)

pub members-preserved : goal.members-preserved
members-preserved c =
    let p = value c.args.depth in
    let l = c.members in
    let n = l.invariant.0 in
    let old = l.invariant.2.0 in
    let k = c.in-Some.name.now in
    let s = c.next_key.new.self in
    let named : read_key l.reader ≡ Some (Some k, s) = grind arith in
    let done = c.in-Some-pass.ensures in
    let d = done.ok.0 in
    let r = c.pass.new.reader in
    let less = read_key-shorter l.reader (Some k) s named in
    let lesser = done.shorter in (
      n - 1,
      omega (arith, l.invariant.1, less, lesser),
      (
        put k d old,
        l.invariant.2.1 ∙ member_read p old n k l.reader s r d (omega (arith, l.invariant.1, less)) named done.ok.1,
        record { id = c.see_id.ensures old d l.invariant.2.2.id done.ok.2; text = c.see_text.ensures old d l.invariant.2.2.text done.ok.2 },
      ),
    )

pub returns-in_default-pass-clause-err : goal.returns-in_default-pass-clause-err
returns-in_default-pass-clause-err c =
    let l = c.members in
    let k = c.in-Some.name.now in
    let s = c.next_key.new.self in
    let named : read_key l.reader ≡ Some (Some k, s) = grind arith in
    l.invariant.2.1 ∙ member_refused (value c.args.depth) l.invariant.2.0 l.invariant.0 k l.reader s named c.in_default-pass.ensures.err
