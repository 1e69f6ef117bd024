use Rattle.std.proofs.Common.{◌≡◌, ◌≤◌, length, take, drop}
use Rattle.std.specs.List.{flat_map}
use Rattle.eb_base.specs.Document.{Doc, IsDocument}
use Rattle.eb_image.specs.Image.{term_bytes, document_part}
use Rattle.eb_image.proofs.part.terms_of.Given as goal

abbrev pub invariant-terms : goal.invariant-terms
invariant-terms l = record {
  so_far : (d : Doc) → IsDocument d → l.bytes ≡ document_part d → l.terms ≡ take l.counter d.terms;
  rest : (d : Doc) → IsDocument d → l.bytes ≡ document_part d → drop l.at l.bytes ≡ flat_map term_bytes (drop l.counter d.terms);
  within : l.at ≤ length l.bytes;
}
