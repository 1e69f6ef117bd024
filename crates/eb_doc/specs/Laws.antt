-- What holds of document lines, over the definitions alone.
use Rattle.std.specs.Prelude.{◌≡◌, ℕ, List}
use Rattle.eb_fields.specs.Dialect.{plain}
use Rattle.eb_doc.specs.DocumentLine.{document_of}
use Rattle.eb_doc.specs.WithFields.{document_with}

-- where no option says otherwise a line is the same document as by the rules without options
abbrev pub InPlain : Type 0
InPlain = (line : List ℕ) → document_with plain line ≡ document_of line
