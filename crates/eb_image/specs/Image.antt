-- The image of a setting and of documents: the bytes that an archive of them has. Numbers are
-- highest byte first.
use Rattle.std.specs.Prelude.{◌≡◌, ℕ, List, [], ◌∷◌, ◌++◌, length, codes}
use Rattle.std.specs.Int.{w16, w32, w64, to_be_bytes}
use Rattle.std.specs.List.{All, flat_map}
use Rattle.eb_base.specs.Document.{Doc, IsDocument}
use Rattle.eb_base.specs.Setting.{Setting, IsSetting}

-- the eight bytes that an image begins with
abbrev pub mark : List ℕ
mark = codes "EBIMAGE1"

-- the head: the mark, and in four bytes each the segments, and the documents and the terms of a
-- segment
unfoldable pub head_of : Setting → List ℕ
head_of σ = mark ++ (to_be_bytes w32 σ.segments ++ (to_be_bytes w32 σ.docs ++ to_be_bytes w32 σ.terms))

-- a term: its length in two bytes, and its bytes
abbrev pub term_bytes : List ℕ → List ℕ
term_bytes t = to_be_bytes w16 (length t) ++ t

-- a document's part: the byte 1, the id in eight bytes, the number of terms in two bytes, and the
-- terms in order
unfoldable pub document_part : Doc → List ℕ
document_part d = 1 ∷ (to_be_bytes w64 d.id ++ (to_be_bytes w16 (length d.terms) ++ flat_map term_bytes d.terms))

-- the byte after the last part
abbrev pub last_byte : List ℕ
last_byte = 0 ∷ []

-- an image: the head, the parts of the documents in order, and the byte 0
unfoldable pub image_of : Setting → List Doc → List ℕ
image_of σ docs = head_of σ ++ (flat_map document_part docs ++ last_byte)

-- some bytes that are a prefix of others, or all of them
pub record IsFront (bytes whole : List ℕ) : Type 0 where
  pub rest : List ℕ
  pub is : whole ≡ bytes ++ rest

-- no image is a proper prefix of another, and each is the image of one setting and of one list of
-- documents
abbrev pub ImagesDiffer : Type 0
ImagesDiffer =
    (σ τ : Setting) (docs others : List Doc) → IsSetting σ → IsSetting τ → All IsDocument docs → All IsDocument others
    → IsFront (image_of σ docs) (image_of τ others) → (σ ≡ τ) × (docs ≡ others)
