-- The words, and what is stored of the first segment, while its first document is being placed.
use Rattle.std.proofs.Common.{◌≡◌, ℕ, [], ◌∷◌, Some, refl}
use Rattle.eb_place.specs.declared.moment.Moment.{Moment}
use Rattle.eb_place.specs.Layout.{place, pool_slot, start, size}
use Rattle.eb_place.specs.Postings.{tokens, postings, terms_of, distinct, count_of}
use Rattle.eb_place.specs.Room.{holds, cut, all_slices}
use Rattle.eb_place.specs.Address.{begun_after, front_of, address_of, pool_at, offset_at, slice_start}
use Rattle.eb_place.specs.Placing.{cells_of, cell_of_next, enter_stores, append_stores, token_stores, tokens_stores, stores_in, doc_stores}
use Rattle.eb_place.specs.Conversion.{segment_stores, convert_stores, pack_stores}
use Rattle.eb_place.specs.Moments.{placings_after, document_stores, conversions, conversion_stores, value_after, word}
use Rattle.eb_place.specs.Seen.{tails_done, seen, stores_in_region, entered, tokens_seen}
use Rattle.eb_place.specs.Tells.{TellsSegment}
use Rattle.eb_place.proofs.VectorsPlacing.{small, first_doc}

-- the moment after n stores of the first document
abbrev at : ℕ → Moment
at n = record { setting = small; documents = record { accepted = []; current = Some (first_doc, n) }; conversions = record { converted = 0; packed = 0 } }

-- its last posting is stored
word_14 : word (at 14) 8197 ≡ 2
unfolding word value_after document_stores conversion_stores conversions placings_after doc_stores place pool_slot start size stores_in tokens_stores token_stores append_stores enter_stores
    cell_of_next cells_of address_of front_of begun_after count_of cut holds all_slices distinct terms_of pool_at offset_at slice_start segment_stores convert_stores pack_stores
word_14 = refl

-- and is seen with the next store, which is that of the tail
seen_14 : seen (at 14) 0 (97 ∷ 98 ∷ []) ≡ 0 ∷ []
unfolding tails_done postings tokens document_stores placings_after doc_stores place pool_slot start size stores_in tokens_stores token_stores append_stores
    enter_stores cell_of_next cells_of address_of front_of begun_after count_of cut holds all_slices distinct terms_of pool_at offset_at slice_start
seen_14 = refl

seen_15 : seen (at 15) 0 (97 ∷ 98 ∷ []) ≡ 0 ∷ 2 ∷ []
unfolding tails_done postings tokens document_stores placings_after doc_stores place pool_slot start size stores_in tokens_stores token_stores append_stores
    enter_stores cell_of_next cells_of address_of front_of begun_after count_of cut holds all_slices distinct terms_of pool_at offset_at slice_start
seen_15 = refl

-- its first term is entered with the store of its cell
entered_4 : entered (at 4) 0 ≡ []
unfolding entered stores_in_region document_stores placings_after doc_stores place pool_slot start size stores_in tokens_stores token_stores append_stores
    enter_stores cell_of_next cells_of address_of front_of begun_after count_of cut holds all_slices distinct terms_of pool_at offset_at slice_start
entered_4 = refl

entered_5 : entered (at 5) 0 ≡ (97 ∷ 98 ∷ []) ∷ []
unfolding entered stores_in_region document_stores placings_after doc_stores place pool_slot start size stores_in tokens_stores token_stores append_stores
    enter_stores cell_of_next cells_of address_of front_of begun_after count_of cut holds all_slices distinct terms_of pool_at offset_at slice_start
entered_5 = refl

-- how much of the segment is used then, and when all but the last two stores are done
used_5 : TellsSegment record { documents = 0; terms = 1; text = 2; pool0 = 0; pool1 = 0; pool2 = 0; pool3 = 0 } (at 5) 0
unfolding entered tokens_seen stores_in_region document_stores placings_after doc_stores place pool_slot start size stores_in tokens_stores token_stores
    append_stores enter_stores cell_of_next cells_of address_of front_of begun_after count_of cut holds all_slices distinct terms_of pool_at offset_at slice_start
used_5 = record { documents = refl; terms = refl; text = refl; pool0 = refl; pool1 = refl; pool2 = refl; pool3 = refl }

used_15 : TellsSegment record { documents = 0; terms = 2; text = 4; pool0 = 2; pool1 = 0; pool2 = 0; pool3 = 0 } (at 15) 0
unfolding entered tokens_seen stores_in_region document_stores placings_after doc_stores place pool_slot start size stores_in tokens_stores token_stores
    append_stores enter_stores cell_of_next cells_of address_of front_of begun_after count_of cut holds all_slices distinct terms_of pool_at offset_at slice_start
used_15 = record { documents = refl; terms = refl; text = refl; pool0 = refl; pool1 = refl; pool2 = refl; pool3 = refl }
