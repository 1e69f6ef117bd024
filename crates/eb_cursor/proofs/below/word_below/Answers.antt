use Rattle.std.proofs.Common.{◌∙◌, arith}
use Rattle.eb_cursor.specs.Lists.{gives}
use Rattle.eb_cursor.specs.Posted.{is_posting}
use Rattle.eb_cursor.proofs.AndLoads.{one_span, span_one}
use Rattle.eb_cursor.proofs.Steps.{word_asks, word_told}
use Rattle.eb_cursor.proofs.Tellings.{told_as}
use Rattle.eb_cursor.proofs.below.word_below.Goals as goal

pub leaf_below-found-requires : goal.leaf_below-found-requires
leaf_below-found-requires g c = let r = c.requires.ready in (r.0, is_posting r.1 r.2, r.4, word_asks (gives r.0) r.1 r.2 c.args.cursors.now _ c.args.end r.3 r.5 r.6)

pub returns-clause-found : goal.returns-clause-found
returns-clause-found g c = λ docs t last h. told_as g.met.P.Port.lawful (c.leaf_below-found.ensures.found (is_posting docs t))
    (λ m r. word_asks (gives m) docs t c.args.cursors.now _ c.args.end last h r)
    (λ m n later r w.
    let told = word_told (gives m) (gives n) docs t c.args.cursors.now c.leaf_below-found.new.cursor c.args.end last c.leaf_below-found.result w.0 w.1 r in
    (c.to_document_end.ensures ∙ told.0, told.1))

pub returns-clause-spans : goal.returns-clause-spans
returns-clause-spans g c = λ t s most. record {
  told = λ m st h.
      let k = one_span m s t c.args.cursors.now _ most h in
      let x = (c.leaf_below-found.ensures.spans s t k.0).told m st k.1 in
      (x.0, x.1, x.2, x.3, (x.4.0, span_one m x.0 s t c.args.cursors.now c.leaf_below-found.new.cursor most x.4.0 h x.4.1, omega (arith, x.4.2, k.2)));
}
