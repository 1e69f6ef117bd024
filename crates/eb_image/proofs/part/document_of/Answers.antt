use Rattle.std.proofs.Common.{length, ap, ◌∙◌, arith}
use Rattle.eb_image.proofs.Decode.{part_len, part_count, part_id, is_part_of, same_doc}
use Rattle.eb_image.proofs.part.document_of.Goals as goal

pub bounds-bytes-1 : goal.bounds-bytes-1
bounds-bytes-1 c = let p = c.requires.part in omega (arith, ap length p.is, part_len p.document)

pub bounds-bytes-2 : goal.bounds-bytes-2
bounds-bytes-2 c = let p = c.requires.part in omega (arith, ap length p.is, part_len p.document)

pub bounds-bytes-3 : goal.bounds-bytes-3
bounds-bytes-3 c = let p = c.requires.part in omega (arith, ap length p.is, part_len p.document)

pub bounds-bytes-4 : goal.bounds-bytes-4
bounds-bytes-4 c = let p = c.requires.part in omega (arith, ap length p.is, part_len p.document)

pub bounds-bytes-5 : goal.bounds-bytes-5
bounds-bytes-5 c = let p = c.requires.part in omega (arith, ap length p.is, part_len p.document)

pub bounds-bytes-6 : goal.bounds-bytes-6
bounds-bytes-6 c = let p = c.requires.part in omega (arith, ap length p.is, part_len p.document)

pub bounds-bytes-7 : goal.bounds-bytes-7
bounds-bytes-7 c = let p = c.requires.part in omega (arith, ap length p.is, part_len p.document)

pub bounds-bytes-8 : goal.bounds-bytes-8
bounds-bytes-8 c = let p = c.requires.part in omega (arith, ap length p.is, part_len p.document)

pub terms_of-requires-clause-count : goal.terms_of-requires-clause-count
terms_of-requires-clause-count c = λ d fd e. c.two_bytes_at.ensures.value ∙ part_count d c.args.bytes.now fd e

pub returns : goal.returns
returns c =
    let p = c.requires.part in
    let d = p.document in
    let id = c.from_be_bytes-id.ensures ∙ part_id d c.args.bytes.now p.within p.is in
    let terms = c.in_ok-terms.ensures d p.within p.is in
    is_part_of d c.in-Ok.document c.args.bytes.now p.within p.is (same_doc d c.in-Ok.document _ _ id terms c.in-Ok.ensures.ok)
