use Rattle.std.proofs.Common.{◌≡◌, ◌<◌, length, ap, sym, ◌∙◌, arith}
use Rattle.eb_place.specs.Room.{cut}
use Rattle.eb_bloom.specs.Likely.{may_match}
use Rattle.run_index.proofs.searching.search_noted.Goals as goal

pub returns-clause-loads : goal.returns-clause-loads
returns-clause-loads g c = λ t is.
    let same : length (cut c.args.index.now.setting c.search_likely.new.self.docs) ≡ length (cut c.args.writer.now.index.setting c.args.writer.now.docs) =
    λ i. length (cut (sym c.requires.writer i).setting (c.search_likely.ensures.this i).docs) in
    record {
      likely = c.likely-likely.result;
      noted = λ s h.
          let begun : s < c.segments.result = omega (arith, h, c.segments.ensures.cut, same) in
          c.likely-likely.ensures.noted s begun ∙ ap (may_match c.args.filters.now s) (c.query.ensures ∙ is);
      loads = c.search_likely.ensures.loads t is;
    }
