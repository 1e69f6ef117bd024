use Rattle.eb_fields.specs.Dialect.{dialect_of}
use Rattle.std.proofs.Common.{◌≡◌, ◌∙◌, drop, ap}
use Rattle.std.specs.List.{position_or_len}
use Rattle.eb_fields.specs.Digits.{is_no_digit}
use Rattle.eb_query.proofs.Leaves.{bytes_rest, window_is, digits_boundary}
use Rattle.eb_fields.proofs.Found.{found_within}
use Rattle.eb_query.proofs.quoted.window_at.Goals as goal

pub reach_at-requires : goal.reach_at-requires
reach_at-requires c = found_within is_no_digit _ _ c.digits_at-digits.ensures

pub returns-clause-lexeme : goal.returns-clause-lexeme
returns-clause-lexeme c =
    c.in_ok-lexeme.ensures
    ∙ window_is (dialect_of c.args.dialect.now) c.args.text.now c.as_bytes.result.now c.args.line.now c.args.from c.digits_at-digits.result c.reach_at.result c.as_bytes.ensures.value
    c.digits_at-digits.ensures c.reach_at.ensures

pub returns-clause-boundary : goal.returns-clause-boundary
returns-clause-boundary c =
    let e : c.digits_at-digits.result ≡ position_or_len is_no_digit (drop c.args.from c.args.line.now) =
    c.digits_at-digits.ensures ∙ ap (position_or_len is_no_digit) (bytes_rest c.as_bytes.result.now c.args.line.now c.args.from c.as_bytes.ensures.value) in
    digits_boundary c.args.line.now c.args.from c.digits_at-digits.result c.utf8.line c.requires.boundary c.requires.within e
