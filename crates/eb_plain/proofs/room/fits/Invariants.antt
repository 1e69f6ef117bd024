use Rattle.std.proofs.Common.{◌≡◌, ◌≤◌, ◌*◌, length, take, sum_by}
use Rattle.eb_place.specs.Postings.{terms_of}
use Rattle.eb_plain.proofs.room.fits.Given as goal
use Rattle.eb_base.specs.Document.{most_tokens, most_bytes}

abbrev pub invariant-loop-earlier : goal.invariant-loop-earlier
invariant-loop-earlier l = record {
  terms : l.terms ≡ terms_of (take l.earlier-index l.segment);
  few : length l.terms ≤ most_tokens * l.earlier-index;
  short : sum_by length l.terms ≤ most_bytes * l.earlier-index;
}
