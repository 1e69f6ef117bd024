-- The numbers that an address and a posting are made of, by the addresses of the last postings of
-- one term.
use Rattle.std.proofs.Common.{◌≡◌, ℕ, refl}
use Rattle.eb_place.specs.Layout.{address_number, address_pool, address_slice, address_offset}
use Rattle.eb_place.specs.Postings.{posting_of, posting_document, posting_position}

-- the pool, the slice and the offset of an address, and the address of these
abbrev parts : ℕ → ℕ × ℕ × ℕ × ℕ
parts at = (address_pool at, address_slice at, address_offset at, address_number (address_pool at) (address_slice at) (address_offset at))

parts_0 : parts 0 ≡ (0, 0, 0, 0)
parts_0 = refl

parts_1 : parts 1 ≡ (0, 0, 1, 1)
parts_1 = refl

parts_1073741825 : parts 1073741825 ≡ (1, 0, 1, 1073741825)
parts_1073741825 = refl

parts_1073741839 : parts 1073741839 ≡ (1, 0, 15, 1073741839)
parts_1073741839 = refl

parts_2147483649 : parts 2147483649 ≡ (2, 0, 1, 2147483649)
parts_2147483649 = refl

parts_2147483775 : parts 2147483775 ≡ (2, 0, 127, 2147483775)
parts_2147483775 = refl

parts_3221225473 : parts 3221225473 ≡ (3, 0, 1, 3221225473)
parts_3221225473 = refl

parts_3221227519 : parts 3221227519 ≡ (3, 0, 2047, 3221227519)
parts_3221227519 = refl

parts_3221227521 : parts 3221227521 ≡ (3, 1, 1, 3221227521)
parts_3221227521 = refl

-- the document and the position of a posting, and the posting of these
abbrev document_and_position : ℕ → ℕ × ℕ × ℕ
document_and_position p = (posting_document p, posting_position p, posting_of (posting_document p) (posting_position p))

first_posting : document_and_position 0 ≡ (0, 0, 0)
first_posting = refl

last_position : document_and_position 65535 ≡ (0, 65535, 65535)
last_position = refl

next_document : document_and_position 65536 ≡ (1, 0, 65536)
next_document = refl

fifth_of_third : document_and_position 196613 ≡ (3, 5, 196613)
fifth_of_third = refl
