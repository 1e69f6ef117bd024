-- What a key is for, which the public function of src/laws.rt proves.
use Rattle.std.specs.Prelude.{ℕ, List, IfSome}
use Rattle.std.specs.List.{Contains}
use Rattle.eb_base.specs.Document.{Doc}
use Rattle.eb_base.specs.Query.{Tree}
use Rattle.eb_base.specs.Match.{Matches}
use Rattle.eb_watch.specs.Key.{watch_key}

-- the document has one of the terms
abbrev pub HasOneOf : List (List ℕ) → Doc → Type 0
HasOneOf ts d = (t : List ℕ) × Contains ts t × Contains d.terms t

-- a document that matches a query with a key has one of its terms
abbrev pub KeyLaw : Type 0
KeyLaw = (q : Tree) (d : Doc) → Matches q d → IfSome (watch_key q) (λ key. HasOneOf key d)
