-- The bounds on the loads of whole searches.
use Rattle.std.proofs.Common.{◌≡◌, ℕ, zero, suc, true, false, List, [], ◌∷◌, ◌++◌, None, refl}
use Rattle.eb_base.specs.Document.{Doc}
use Rattle.eb_base.specs.Term.{Term}
use Rattle.eb_place.specs.declared.moment.Moment.{Moment}
use Rattle.eb_cursor.specs.AndCosts.{all_rounds_cost}
use Rattle.eb_search.specs.Bounds.{load_bound, and_bound, ids_loads}
use Rattle.eb_place.specs.Room.{all_slices, holds, cut}
use Rattle.eb_place.specs.Address.{pool_at, offset_at, slice_start, begun_after, front_of, address_of}
use Rattle.eb_place.specs.Layout.{start, size, place, pool_slot}
use Rattle.eb_place.specs.Placing.{cells_of, cell_of_next, enter_stores, append_stores, token_stores, tokens_stores, stores_in, doc_stores}
use Rattle.eb_place.specs.Postings.{tokens, postings, terms_of, count_of, distinct}
use Rattle.eb_place.specs.Moments.{placings_after, document_stores, conversions, conversion_stores, value_after, word}
use Rattle.eb_place.specs.Packed.{block, packed_list}
use Rattle.eb_place.specs.Seen.{tails_done, seen_count, stores_in_region, entered, tokens_seen}
use Rattle.eb_place.specs.PackedLists.{list_start}
use Rattle.eb_place.specs.Conversion.{pack_stores, convert_stores, segment_stores}
use Rattle.eb_terms.specs.Finding.{filled_run}
use Rattle.eb_chain.specs.Leaps.{slices_in_use}

abbrev a : Term
a = 97 ∷ []

abbrev b : Term
b = 98 ∷ []

-- ---- whole searches

-- two segments with room for a document each, which hold `ab b ab` and `b`; the first is converted
pub two_segments : Moment
two_segments = record {
  setting = record { segments = 2; docs = 1; terms = 1024 };
  documents = record { accepted = record { id = 7; terms = (97 ∷ 98 ∷ []) ∷ b ∷ (97 ∷ 98 ∷ []) ∷ [] } ∷ record { id = 8; terms = b ∷ [] } ∷ []; current = None };
  conversions = record { converted = 1; packed = 0 };
}

-- one load for the count, four for the segments, two for the ids; in the first segment ten that
-- find `b` and two for its packed list, in the second ten, and three for its tail, its posting and
-- its slice
loads_of_b : load_bound [] two_segments two_segments 2 b 2 ≡ 32
unfolding two_segments all_slices holds cut pool_at offset_at slice_start begun_after front_of address_of start size place pool_slot cells_of cell_of_next enter_stores append_stores
    token_stores tokens_stores stores_in doc_stores tokens postings terms_of count_of distinct placings_after document_stores conversions conversion_stores value_after word block
    packed_list tails_done seen_count stores_in_region entered tokens_seen list_start pack_stores convert_stores segment_stores filled_run slices_in_use lib.Count.count_leading_zeros
loads_of_b = refl

-- the same where the first segment wasn't converted when the search began: three there too
loads_of_b_before : load_bound [] (record { setting = two_segments.setting; documents = two_segments.documents; conversions = record { converted = 0; packed = 0 } }) two_segments 2 b 2 ≡ 33
unfolding two_segments all_slices holds cut pool_at offset_at slice_start begun_after front_of address_of start size place pool_slot cells_of cell_of_next enter_stores append_stores
    token_stores tokens_stores stores_in doc_stores tokens postings terms_of count_of distinct placings_after document_stores conversions conversion_stores value_after word block
    packed_list tails_done seen_count stores_in_region entered tokens_seen list_start pack_stores convert_stores segment_stores filled_run slices_in_use lib.Count.count_leading_zeros
loads_of_b_before = refl

-- and where the first segment is skipped: none there
loads_of_b_elsewhere : load_bound (false ∷ true ∷ []) two_segments two_segments 2 b 1 ≡ 19
unfolding two_segments all_slices holds cut pool_at offset_at slice_start begun_after front_of address_of start size place pool_slot cells_of cell_of_next enter_stores append_stores
    token_stores tokens_stores stores_in doc_stores tokens postings terms_of count_of distinct placings_after document_stores conversions conversion_stores value_after word block
    packed_list tails_done seen_count stores_in_region entered tokens_seen list_start pack_stores convert_stores segment_stores filled_run slices_in_use lib.Count.count_leading_zeros
loads_of_b_elsewhere = refl

-- an and of `ab` and `b`, which the first document alone has: one, four and 256 for its id; in the
-- first segment 13 and two until each list is open and read, three rounds of 170 and a call of 255;
-- in the second six and two, 13 and two, a round and a call
loads_of_both : and_bound [] two_segments 2 ((97 ∷ 98 ∷ []) ∷ b ∷ []) 1 ≡ 1504
unfolding ids_loads all_rounds_cost two_segments all_slices holds cut pool_at offset_at slice_start begun_after front_of address_of start size place pool_slot cells_of cell_of_next
    enter_stores append_stores token_stores tokens_stores stores_in doc_stores tokens postings terms_of count_of distinct placings_after document_stores conversions conversion_stores
    value_after word block packed_list tails_done seen_count stores_in_region entered tokens_seen list_start pack_stores convert_stores
    segment_stores filled_run slices_in_use lib.Count.count_leading_zeros
loads_of_both = refl

-- documents that are `a`, with falling ids
fall : ℕ → List Doc
fall zero = []
fall (suc n) = record { id = suc n; terms = a ∷ [] } ∷ fall n

-- 128 documents of one segment that are `a`, which is converted, and one that is `b`
pub long_list : Moment
long_list = record {
  setting = record { segments = 2; docs = 128; terms = 1024 };
  documents = record { accepted = fall 128 ++ record { id = 129; terms = b ∷ [] } ∷ []; current = None };
  conversions = record { converted = 1; packed = 0 };
}

-- one, four and 128; ten that find `a`, one for its directory word and 35 packed words; five that
-- don't find it, and one
loads_of_a : load_bound [] long_list long_list 129 a 128 ≡ 185
unfolding long_list fall all_slices holds cut pool_at offset_at slice_start begun_after front_of address_of start size place pool_slot cells_of cell_of_next enter_stores append_stores
    token_stores tokens_stores stores_in doc_stores tokens postings terms_of count_of distinct placings_after document_stores conversions conversion_stores value_after word block
    packed_list tails_done seen_count stores_in_region entered tokens_seen list_start pack_stores convert_stores segment_stores filled_run slices_in_use lib.Count.count_leading_zeros
loads_of_a = refl
