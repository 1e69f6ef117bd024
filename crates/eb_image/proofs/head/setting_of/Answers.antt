use Rattle.std.proofs.Common.{◌≡◌, ℕ, List, false, not, take, ap, sym, ◌∙◌, arith}
use Rattle.std.specs.Prelude.{bytes_eq}
use Rattle.std.proofs.lemmas.Slice.Eq.{bytes_eq-Decides}
use Rattle.eb_base.specs.Setting.{Setting}
use Rattle.eb_image.specs.Image.{mark}
use Rattle.eb_image.proofs.Heads.{head_found, head_mark, numbers_of, decided, setting_found}
use Rattle.eb_image.proofs.head.setting_of.Goals as goal

pub returns-then-ne : goal.returns-then-ne
returns-then-ne c = λ h.
    let e : c.ne.result ≡ false = c.ne.ensures ∙ ap (λ (t : List ℕ). not (bytes_eq t mark)) (head_mark c.args.head.now h) in
    let no : ⊥ = cc (e, c.if-ne.true) in
    no

pub returns : goal.returns
returns c =
    let m : take 8 c.args.head.now ≡ mark =
    decided (bytes_eq (take 8 c.args.head.now) mark) (bytes_eq-Decides (take 8 c.args.head.now) mark) (sym c.ne.ensures ∙ c.if-ne.false) in
    let σ : Setting = record { segments = c.four_bytes_at.result; docs = c.four_bytes_at-2.result; terms = c.four_bytes_at-3.result } in
    setting_found c.allowed.result σ c.args.head.now
    (ap (λ (n : ℕ). let r : Setting = record { segments = n; docs = c.four_bytes_at-2.result; terms = c.four_bytes_at-3.result } in r) c.four_bytes_at.ensures
    ∙ (ap (λ (n : ℕ). let r : Setting = record { segments = (numbers_of c.args.head.now).segments; docs = n; terms = c.four_bytes_at-3.result } in r) c.four_bytes_at-2.ensures
    ∙ ap (λ (n : ℕ). let r : Setting = record { segments = (numbers_of c.args.head.now).segments; docs = (numbers_of c.args.head.now).docs; terms = n } in r) c.four_bytes_at-3.ensures))
    (head_found c.args.head.now (λ i. omega (arith, c.type_inv.head i)) c.requires m)
    c.allowed.ensures
