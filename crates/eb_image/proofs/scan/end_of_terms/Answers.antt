use Rattle.std.proofs.Common.{◌+◌, ◌-◌, sym, ◌∙◌, arith}
use Rattle.eb_base.specs.Document.{most_bytes}
use Rattle.eb_image.proofs.Scans.{scan_on, scan_off, scan_ended, scan_ends}
use Rattle.eb_image.proofs.scan.end_of_terms.Goals as goal

pub returns-then-len-room-clause-value : goal.returns-then-len-room-clause-value
returns-then-len-room-clause-value c =
    let n = c.args.count - (c.terms.counter + 1) in
    scan_ends c.args.bytes.now c.args.count 11 most_bytes _ (λ i. omega (arith, c.type_inv.bytes i)) (omega arith)
    (sym (scan_off (c.args.count - c.terms.counter) n c.terms.at c.terms.room c.two_bytes_at-len.result c.args.bytes.now (omega arith) c.two_bytes_at-len.ensures.value c.if-len-room.true)
    ∙ c.terms.invariant.scan)

pub terms-preserved : goal.terms-preserved
terms-preserved c =
    let n = c.args.count - (c.terms.counter + 1) in
    record {
      scan = sym (scan_on (c.args.count - c.terms.counter) n c.terms.at c.terms.room c.two_bytes_at-len.result c.args.bytes.now (omega arith) c.two_bytes_at-len.ensures.value c.if-len-room.false)
          ∙ c.terms.invariant.scan;
      sum = omega arith;
    }

pub returns-clause-value : goal.returns-clause-value
returns-clause-value c =
    scan_ends c.args.bytes.now c.args.count 11 most_bytes _ (λ i. omega (arith, c.type_inv.bytes i)) (omega arith)
    (sym (scan_ended (c.args.count - c.terms.counter) c.terms.at c.terms.room c.args.bytes.now (omega arith)) ∙ c.terms.invariant.scan)
