use Rattle.eb_fields.specs.Dialect.{dialect_of}
use Rattle.std.proofs.Common.{◌+◌, ℕ, arith, ◌∙◌, ap, sym, drop}
use Rattle.std.proofs.lemmas.Option.{slice_get_within}
use Rattle.eb_base.specs.Query.{tree}
use Rattle.eb_query.specs.Number.{is_blank_or_end}
use Rattle.eb_query.specs.WatchLine.{without_number}
use Rattle.eb_query.specs.declared.ask.Ask.TheVariants.{Newest}
use Rattle.eb_query.specs.Refusal.{IsWatchRefusedWith}
use Rattle.eb_query.proofs.Values.{digits_within, apart_boundary}
use Rattle.eb_query.proofs.Asks.{removed, watch_set, watch_faulted, handed_on}
use Rattle.eb_query.proofs.Formed.{given_formed}
use Rattle.eb_query.proofs.watch.read_watch_with.Goals as goal

pub returns-in_default-clause-refused : goal.returns-in_default-clause-refused
returns-in_default-clause-refused c = without_number (rw c.as_bytes.ensures.value at c.in_default.ensures.none)

pub is_blank_from-requires : goal.is_blank_from-requires
is_blank_from-requires c =
    let e = rw c.as_bytes.ensures.value at c.in-Some.ensures.end in let l = c.as_bytes-2.ensures.len in
    let w = digits_within c.args.line.now (slice_get_within c.args.line.now 0 33 c.requires.exclamation_mark) in omega arith

pub returns-then-is_blank_from-clause-asks : goal.returns-then-is_blank_from-clause-asks
returns-then-is_blank_from-clause-asks c =
    let h = rw c.as_bytes.ensures.value at c.in-Some.ensures.some in
    let v = rw c.as_bytes.ensures.value at c.in-Some.ensures.value in
    let e = rw c.as_bytes.ensures.value at c.in-Some.ensures.end in
    let b = rw c.as_bytes-2.ensures.value at (sym c.is_blank_from.ensures ∙ c.if-is_blank_from.true) in
    removed (dialect_of c.args.dialect) c.args.line.now c.in-Some.number.end c.in-Some.number.value h e v b

pub read_text-requires-clause-within : goal.read_text-requires-clause-within
read_text-requires-clause-within c =
    let e = rw c.as_bytes.ensures.value at c.in-Some.ensures.end in
    let w = digits_within c.args.line.now (slice_get_within c.args.line.now 0 33 c.requires.exclamation_mark) in omega arith

pub read_text-requires-clause-boundary : goal.read_text-requires-clause-boundary
read_text-requires-clause-boundary c =
    let h = rw c.as_bytes.ensures.value at c.in-Some.ensures.some in
    let e = rw c.as_bytes.ensures.value at c.in-Some.ensures.end in
    let w = digits_within c.args.line.now (slice_get_within c.args.line.now 0 33 c.requires.exclamation_mark) in
    apart_boundary c.args.line.now c.in-Some.number.end (omega arith) (ap (λ (k : ℕ). is_blank_or_end (drop k c.args.line.now)) e ∙ h.apart)

pub returns-in_err-query-clause-refused : goal.returns-in_err-query-clause-refused
returns-in_err-query-clause-refused c =
    let h = rw c.as_bytes.ensures.value at c.in-Some.ensures.some in
    let v = rw c.as_bytes.ensures.value at c.in-Some.ensures.value in
    let e = rw c.as_bytes.ensures.value at c.in-Some.ensures.end in
    let b = rw c.as_bytes-2.ensures.value at (sym c.is_blank_from.ensures ∙ c.if-is_blank_from.false) in
    handed_on (IsWatchRefusedWith (dialect_of c.args.dialect) c.args.line.now) c.in_err-query.field-0.0 c.from_residual.result c.from_residual.ensures.1
    (watch_faulted (dialect_of c.args.dialect) c.args.line.now c.in-Some.number.end c.in-Some.number.value h e v b c.in_err-query.field-0.0 c.in_err-query.ensures)

pub returns-clause-asks : goal.returns-clause-asks
returns-clause-asks c =
    let h = rw c.as_bytes.ensures.value at c.in-Some.ensures.some in
    let v = rw c.as_bytes.ensures.value at c.in-Some.ensures.value in
    let e = rw c.as_bytes.ensures.value at c.in-Some.ensures.end in
    let b = rw c.as_bytes-2.ensures.value at (sym c.is_blank_from.ensures ∙ c.if-is_blank_from.false) in
    watch_set (dialect_of c.args.dialect) c.args.line.now c.in-Some.number.end c.in-Some.number.value c.in_ok-query.query h e v b c.in_ok-query.ensures

pub returns-clause-well_formed : goal.returns-clause-well_formed
returns-clause-well_formed c =
    given_formed (Newest c.in-Some.number.value) (dialect_of c.args.dialect) c.args.line.now
    (c.in-Some.number.end + 1) (drop c.in-Some.number.end c.args.line.now) (tree c.in_ok-query.query) c.in_ok-query.ensures
