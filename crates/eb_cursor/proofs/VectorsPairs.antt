-- Where two lists meet that are walked together.
use Rattle.std.proofs.Common.{◌≡◌, ℕ, ◌+◌, ◌*◌, Option, None, Some, refl, ap, arith}
use Rattle.eb_cursor.specs.Loads.{ahead}
use Rattle.eb_cursor.specs.Pairs.{IsNotLater, meeting_end}

-- the posting of a place in a document
abbrev posting : ℕ → ℕ → Option ℕ
posting document place = Some (document * 65536 + place)

-- both are in document 5
in_one_document : meeting_end (posting 5 3) (posting 5 0) ≡ 6
in_one_document = refl

in_document_0 : meeting_end (posting 0 0) (posting 0 65535) ≡ 1
in_document_0 = refl

-- one has ended
first_ended : meeting_end None (posting 5 0) ≡ 0
first_ended = refl

second_ended : meeting_end (posting 5 0) None ≡ 0
second_ended = refl

-- a later place of one document is no later document
no_later_place : IsNotLater (posting 5 3) (posting 5 0)
no_later_place x y e f = omega (arith, ap ahead e, ap ahead f)

earlier : IsNotLater (posting 4 65535) (posting 5 0)
earlier x y e f = omega (arith, ap ahead e, ap ahead f)

later : IsNotLater (posting 5 0) (posting 4 65535) → ⊥
later h = omega (arith, h 327680 327679 refl refl)
