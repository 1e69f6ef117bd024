use Rattle.std.proofs.Common.{◌≡◌, [], ◌∷◌, Some, None, subst, ap, ◌∙◌, arith}
use Rattle.json.specs.Token.{Token}
use Rattle.json.specs.Lex.{tokens}
use Rattle.json.specs.Reads.{token_of}
use Rattle.serde_json.specs.Data.{object}
use Rattle.serde_json.specs.Read.{read}
use Rattle.eb_doc.proofs.Reading.{value_some, value_none}
use Rattle.eb_doc.proofs.Objects.{object_read, object_and_more, object_refused}
use Rattle.eb_doc.proofs.look.look_at.Goals as goal

pub returns-in_default : goal.returns-in_default
returns-in_default c = value_none c.args.line.now (λ utf8. absurd (c.in_default.ensures.cases.0 utf8))

pub returns-in_default-read_members : goal.returns-in_default-read_members
returns-in_default-read_members c =
    let text = c.in-Ok.text.now in
    let same : text ≡ c.args.line.now = grind arith in
    let begins : tokens text ≡ Token.begin_object ∷ c.next.new.self = grind arith in
    let none = object_refused text c.next.new.self begins c.in_default-read_members.ensures.err in
    value_none c.args.line.now (λ utf8. subst (λ z. read z ≡ None) same none)

pub returns-in-Some-next : goal.returns-in-Some-next
returns-in-Some-next c =
    let text = c.in-Ok.text.now in
    let same : text ≡ c.args.line.now = grind arith in
    let begins : tokens text ≡ Token.begin_object ∷ c.next.new.self = grind arith in
    let ok = c.in-Some.ensures.ok in
    let more : c.read_members.new.reader ≡ token_of c.in-Some-next._more ∷ c.next-2.new.self = grind arith in
    let none = object_and_more text c.next.new.self begins ok.0 _ _ (ok.1 ∙ ap (λ r. Some (ok.0, r)) more) in
    value_none c.args.line.now (λ utf8. subst (λ z. read z ≡ None) same none)

pub returns-in-None : goal.returns-in-None
returns-in-None c =
    let text = c.in-Ok.text.now in
    let same : text ≡ c.args.line.now = grind arith in
    let begins : tokens text ≡ Token.begin_object ∷ c.next.new.self = grind arith in
    let ok = c.in-Some.ensures.ok in
    let end : c.read_members.new.reader ≡ [] = grind arith in
    let is = object_read text c.next.new.self begins ok.0 (ok.1 ∙ ap (λ r. Some (ok.0, r)) end) in
    (object ok.0, value_some c.args.line.now (object ok.0) c.in-Ok.ensures.cases.1 (subst (λ z. read z ≡ Some (object ok.0)) same is), ok.2)
