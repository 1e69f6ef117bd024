-- The stores of two documents, and those of the conversion of the first one's segment.
use Rattle.std.proofs.Common.{◌≡◌, [], ◌∷◌, take, refl}
use Rattle.eb_base.specs.Document.{Doc}
use Rattle.eb_base.specs.Setting.{Setting, words_of}
use Rattle.eb_place.specs.Layout.{place, pool_slot, start, size}
use Rattle.eb_place.specs.Postings.{tokens, postings, terms_of, distinct, count_of}
use Rattle.eb_place.specs.Room.{holds, cut, all_slices}
use Rattle.eb_place.specs.Address.{begun_after, front_of, address_of, pool_at, offset_at, slice_start}
use Rattle.eb_place.specs.Placing.{cells_of, cell_of_next, enter_stores, append_stores, token_stores, tokens_stores, stores_in, placing, doc_stores}
use Rattle.eb_place.specs.Packed.{block, packed_list}
use Rattle.eb_place.specs.Conversion.{pack_stores, convert_stores, segment_stores, conversion}

-- two segments of one document each, with room for 1,024 terms
abbrev pub small : Setting
small = record { segments = 2; docs = 1; terms = 1024 }

-- the terms ab, b and ab
abbrev pub first_doc : Doc
first_doc = record { id = 7; terms = (97 ∷ 98 ∷ []) ∷ (98 ∷ []) ∷ (97 ∷ 98 ∷ []) ∷ [] }

-- the term a
abbrev pub second_doc : Doc
second_doc = record { id = 8; terms = (97 ∷ []) ∷ [] }

words : words_of small ≡ 157703
words = refl

first_stores : placing small [] first_doc ≡ (1, 1) ∷ (4099, 2) ∷ (4100, 25185) ∷ (2051, 0) ∷ (1060, 1) ∷ (8196, 0) ∷ (3075, 1)
    ∷ (4101, 1) ∷ (4102, 98) ∷ (2052, 2) ∷ (101, 2) ∷ (8198, 1) ∷ (3076, 3) ∷ (8197, 2) ∷ (3075, 2) ∷ (8195, 7) ∷ (0, 1) ∷ []
unfolding doc_stores place pool_slot start size stores_in tokens_stores token_stores append_stores enter_stores cell_of_next
    cells_of address_of front_of begun_after count_of cut holds all_slices distinct terms_of pool_at offset_at slice_start
first_stores = refl

-- the second document begins the second segment
second_stores : take 1 (placing small (first_doc ∷ []) second_doc) ≡ (78852, 2) ∷ []
unfolding doc_stores place pool_slot start size stores_in tokens_stores token_stores append_stores enter_stores cell_of_next
    cells_of address_of front_of begun_after count_of cut holds all_slices distinct terms_of pool_at offset_at slice_start
second_stores = refl

-- the first segment is converted once the second is begun
conversion_stores : conversion small (first_doc ∷ second_doc ∷ []) 0 ≡ (44036, 131586) ∷ (44037, 2) ∷ (43012, 2) ∷ (44038, 65537) ∷ (43013, 8589934593) ∷ (2, 1) ∷ []
unfolding segment_stores convert_stores pack_stores block packed_list postings tokens lib.Count.count_leading_zeros place pool_slot start size cut holds all_slices distinct terms_of count_of
conversion_stores = refl
