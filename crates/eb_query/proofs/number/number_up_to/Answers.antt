use Rattle.std.proofs.Common.{◌≡◌, ◌+◌, ℕ, arith, ◌∙◌, sym, ap, drop, true≢false}
use Rattle.eb_query.specs.Number.{digits_len, is_blank_or_end}
use Rattle.eb_query.proofs.Values.{digits_is, number_is, digits_within}
use Rattle.eb_query.proofs.number.number_up_to.Goals as goal
use Rattle.eb_query.proofs.number.number_up_to.Goals.{then-digits-eq0-via-then-digits-eq0, then-digits-eq0-via-else-digits-eq0+then-digits-most_digits}

pub returns-then-digits-eq0-clause-none : goal.returns-then-digits-eq0-clause-none
returns-then-digits-eq0-clause-none c = λ h.
    let e = digits_is c.args.line.now c.digits_at-digits.result c.digits_at-digits.ensures in
    let s = h.some in let f = h.few in
    elim c.then-digits-eq0.branch [
      | then-digits-eq0-via-then-digits-eq0 w ↦ (let z = w.if-digits-eq0.true in omega arith)
      | then-digits-eq0-via-else-digits-eq0+then-digits-most_digits w ↦ (let z = w.if-digits-most_digits.true in omega arith)
    ]

pub slice_bounds-value_of-end : goal.slice_bounds-value_of-end
slice_bounds-value_of-end c =
    let e = digits_is c.args.line.now c.digits_at-digits.result c.digits_at-digits.ensures in let w = digits_within c.args.line.now c.requires.first in omega arith

pub returns-then-value-from-clause-none : goal.returns-then-value-from-clause-none
returns-then-value-from-clause-none c = λ h.
    let e = digits_is c.args.line.now c.digits_at-digits.result c.digits_at-digits.ensures in
    let n = number_is c.args.line.now c.digits_at-digits.result c.value_of-value.result e c.value_of-value.ensures in
    let w = h.within in let f = c.from.ensures in let t = c.if-value-from.true in omega arith

pub returns-then-is_apart-clause-some : goal.returns-then-is_apart-clause-some
returns-then-is_apart-clause-some c =
    let e = digits_is c.args.line.now c.digits_at-digits.result c.digits_at-digits.ensures in
    let n = number_is c.args.line.now c.digits_at-digits.result c.value_of-value.result e c.value_of-value.ensures in
    let a = c.if-digits-eq0.false in let b = c.if-digits-most_digits.false in let f = c.from.ensures in let q = c.if-value-from.false in
    let g : c.digits_at-digits.result + 1 ≡ 1 + digits_len c.args.line.now = omega arith in
    record {
      some = omega arith;
      few = omega arith;
      within = omega arith;
      apart = ap (λ (k : ℕ). is_blank_or_end (drop k c.args.line.now)) (sym g) ∙ sym c.is_apart.ensures ∙ c.if-is_apart.true;
    }

pub returns-then-is_apart-clause-value : goal.returns-then-is_apart-clause-value
returns-then-is_apart-clause-value c =
    let e = digits_is c.args.line.now c.digits_at-digits.result c.digits_at-digits.ensures in
    number_is c.args.line.now c.digits_at-digits.result c.value_of-value.result e c.value_of-value.ensures

pub returns-then-is_apart-clause-end : goal.returns-then-is_apart-clause-end
returns-then-is_apart-clause-end c = let e = digits_is c.args.line.now c.digits_at-digits.result c.digits_at-digits.ensures in omega arith

pub returns-else-is_apart-clause-none : goal.returns-else-is_apart-clause-none
returns-else-is_apart-clause-none c = λ h.
    let e = digits_is c.args.line.now c.digits_at-digits.result c.digits_at-digits.ensures in
    let f : c.digits_at-digits.result + 1 ≡ 1 + digits_len c.args.line.now = omega arith in
    true≢false (sym h.apart ∙ ap (λ (k : ℕ). is_blank_or_end (drop k c.args.line.now)) (sym f) ∙ sym c.is_apart.ensures ∙ c.if-is_apart.false)
