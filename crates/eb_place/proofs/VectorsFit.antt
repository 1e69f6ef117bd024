-- The fullest documents fit the least segment: 1,024 terms, 4,096 text words, and 1,024, 512, 64
-- and 8 slices.
use Rattle.std.proofs.Common.{◌≡◌, ℕ, zero, suc, ◌+◌, ◌/◌, ◌%◌, true, List, [], ◌∷◌, ◌++◌, length, sum_by, refl, replicate}
use Rattle.eb_base.specs.Term.{Term}
use Rattle.eb_base.specs.Document.{Doc, bytes_of}
use Rattle.eb_base.specs.Setting.{Setting}
use Rattle.eb_place.specs.Postings.{terms_of, distinct, count_of}
use Rattle.eb_place.specs.Room.{text_words, holds, fits, all_slices}

abbrev least : Setting
least = record { segments = 1; docs = 1; terms = 1024 }

-- n different terms: the numbers from `first` on, in two bytes each, and `more` bytes after them
abbrev different : ℕ → ℕ → ℕ → List Term
different first zero more = []
different first (suc n) more = ((first + n) % 256 ∷ (first + n) / 256 ∷ replicate more 0) ∷ different first n more

-- each of the terms k times
abbrev times : ℕ → List Term → List Term
times k [] = []
times k (t ∷ ts) = replicate k t ++ times k ts

abbrev doc : List Term → Doc
doc terms = record { id = 1; terms = terms }

-- 896 terms of 17 bytes and 128 of 9, all different
abbrev longest : List Term
longest = different 0 896 15 ++ different 896 128 7

longest_limits : length longest ∷ bytes_of longest ∷ [] ≡ 1024 ∷ 16384 ∷ []
longest_limits = refl

-- they take this many text words; that they fit is the law that each document within the limits
-- does
longest_words : sum_by text_words longest ≡ 3968
longest_words = refl

-- as many terms as can have three postings each
abbrev threes : List Term
threes = times 3 (different 0 341 0)

threes_slices : length threes ∷ all_slices 1 threes ∷ [] ≡ 1023 ∷ 341 ∷ []
unfolding distinct all_slices count_of
threes_slices = refl

threes_fit : fits least [] (doc threes) ≡ true
unfolding holds terms_of distinct all_slices count_of
threes_fit = refl

-- as can have 18 each
abbrev eighteens : List Term
eighteens = times 18 (different 0 56 0)

eighteens_slices : length eighteens ∷ all_slices 2 eighteens ∷ [] ≡ 1008 ∷ 56 ∷ []
unfolding distinct all_slices count_of
eighteens_slices = refl

eighteens_fit : fits least [] (doc eighteens) ≡ true
unfolding holds terms_of distinct all_slices count_of
eighteens_fit = refl

-- as can have 145 each
abbrev many : List Term
many = times 145 (different 0 7 0)

many_slices : length many ∷ all_slices 3 many ∷ [] ≡ 1015 ∷ 7 ∷ []
unfolding distinct all_slices count_of
many_slices = refl

many_fit : fits least [] (doc many) ≡ true
unfolding holds terms_of distinct all_slices count_of
many_fit = refl

-- and one term 1,024 times
abbrev sames : List Term
sames = replicate 1024 (97 ∷ [])

sames_slices : all_slices 3 sames ≡ 1
unfolding distinct all_slices count_of
sames_slices = refl

sames_fit : fits least [] (doc sames) ≡ true
unfolding holds terms_of distinct all_slices count_of
sames_fit = refl
