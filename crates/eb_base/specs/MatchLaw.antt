-- That the test of a match decides the match, which the public function of src/match_law.rt proves.
use Rattle.std.specs.Bool.{Decides}
use Rattle.eb_base.specs.Document.{Doc}
use Rattle.eb_base.specs.Query.{Tree}
use Rattle.eb_base.specs.Match.{Matches, is_match}

-- the test is true exactly where the query matches the document, so that the documents of an answer
-- are those that match
abbrev pub MatchIsDecided : Type 0
MatchIsDecided = (q : Tree) (d : Doc) → Decides (is_match q d) (Matches q d)
