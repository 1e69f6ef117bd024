-- Whether the home cell of a term is filled, while the first document is being placed.
use Rattle.std.proofs.Common.{◌≡◌, ℕ, true, false, [], ◌∷◌, Some, refl}
use Rattle.eb_place.specs.declared.moment.Moment.{Moment}
use Rattle.eb_place.specs.Layout.{place, pool_slot, start, size}
use Rattle.eb_place.specs.Postings.{distinct, terms_of, count_of}
use Rattle.eb_place.specs.Room.{holds, cut, all_slices}
use Rattle.eb_place.specs.Address.{begun_after, front_of, address_of, pool_at, offset_at, slice_start}
use Rattle.eb_place.specs.Placing.{cells_of, cell_of_next, enter_stores, append_stores, token_stores, tokens_stores, stores_in, doc_stores}
use Rattle.eb_place.specs.Conversion.{segment_stores, convert_stores, pack_stores}
use Rattle.eb_place.specs.Moments.{placings_after, document_stores, conversions, conversion_stores, value_after, word}
use Rattle.eb_place.proofs.VectorsPlacing.{small, first_doc}
use Rattle.eb_terms.specs.Finding.{is_home_filled}

-- the moment after n stores of the first document, whose fifth store is that of its first term's
-- cell
abbrev at : ℕ → Moment
at n = record { setting = small; documents = record { accepted = []; current = Some (first_doc, n) }; conversions = record { converted = 0; packed = 0 } }

not_yet : is_home_filled (at 4) 0 (97 ∷ 98 ∷ []) ≡ false
unfolding word value_after document_stores conversion_stores conversions placings_after doc_stores place pool_slot start size stores_in tokens_stores token_stores append_stores enter_stores
    cell_of_next cells_of address_of front_of begun_after count_of cut holds all_slices distinct terms_of pool_at offset_at slice_start segment_stores convert_stores pack_stores
not_yet = refl

filled : is_home_filled (at 5) 0 (97 ∷ 98 ∷ []) ≡ true
unfolding word value_after document_stores conversion_stores conversions placings_after doc_stores place pool_slot start size stores_in tokens_stores token_stores append_stores enter_stores
    cell_of_next cells_of address_of front_of begun_after count_of cut holds all_slices distinct terms_of pool_at offset_at slice_start segment_stores convert_stores pack_stores
filled = refl

-- that of another term
another : is_home_filled (at 5) 0 (99 ∷ []) ≡ false
unfolding word value_after document_stores conversion_stores conversions placings_after doc_stores place pool_slot start size stores_in tokens_stores token_stores append_stores enter_stores
    cell_of_next cells_of address_of front_of begun_after count_of cut holds all_slices distinct terms_of pool_at offset_at slice_start segment_stores convert_stores pack_stores
another = refl
