use Rattle.std.proofs.Common.{Some, None, sym, arith}
use Rattle.eb_base.specs.Document.{most_bytes}
use Rattle.eb_image.proofs.Scans.{ends_scan}
use Rattle.eb_image.proofs.Nexts.{not_many, not_scanned, not_long, shortest_found}
use Rattle.eb_image.proofs.scan.shortest_part.Goals as goal

pub returns-then-count-gt-MAX_TOKENS-clause-form : goal.returns-then-count-gt-MAX_TOKENS-clause-form
returns-then-count-gt-MAX_TOKENS-clause-form c =
    not_many c.args.bytes.now c.two_bytes_at-count.result c.requires.some c.requires.first c.two_bytes_at-count.ensures.value (omega arith)

pub returns-then-end-bytes-clause-form : goal.returns-then-end-bytes-clause-form
returns-then-end-bytes-clause-form c =
    not_long c.args.bytes.now c.two_bytes_at-count.result c.in-Some.end (λ i. omega (arith, c.type_inv.bytes i)) c.requires.first c.two_bytes_at-count.ensures.value (omega arith)
    (sym (ends_scan c.args.bytes.now c.two_bytes_at-count.result 11 most_bytes (Some c.in-Some.end) (λ i. omega (arith, c.type_inv.bytes i)) (omega arith) c.in-Some.ensures.value)) (omega arith)

pub returns-else-end-bytes-clause-form : goal.returns-else-end-bytes-clause-form
returns-else-end-bytes-clause-form c =
    shortest_found c.args.bytes.now c.two_bytes_at-count.result c.in-Some.end (λ i. omega (arith, c.type_inv.bytes i)) c.requires.some c.requires.first c.two_bytes_at-count.ensures.value (omega arith)
    (sym (ends_scan c.args.bytes.now c.two_bytes_at-count.result 11 most_bytes (Some c.in-Some.end) (λ i. omega (arith, c.type_inv.bytes i)) (omega arith) c.in-Some.ensures.value)) (omega arith)

pub returns-in-None-clause-form : goal.returns-in-None-clause-form
returns-in-None-clause-form c =
    not_scanned c.args.bytes.now c.two_bytes_at-count.result c.requires.some c.requires.first c.two_bytes_at-count.ensures.value
    (sym (ends_scan c.args.bytes.now c.two_bytes_at-count.result 11 most_bytes None (λ i. omega (arith, c.type_inv.bytes i)) (omega arith) c.in-None.ensures.value))
