-- Counts of four documents, row by row.
use Rattle.std.proofs.Common.{◌≡◌, List, [], ◌∷◌, refl}
use Rattle.eb_base.specs.Document.{Doc}
use Rattle.eb_base.specs.Term.{Term}
use Rattle.eb_base.specs.Query.{word, negation, conjunction, since, no_trees, trees}
use Rattle.eb_count.specs.Counts.{match_count, bucket_count}

abbrev pub error : Term
error = 101 ∷ []

abbrev pub timeout : Term
timeout = 116 ∷ []

-- `error timeout`, `timeout`, `error again`, `error error`
abbrev pub four : List Doc
four = record { id = 100; terms = error ∷ timeout ∷ [] } ∷ record { id = 160; terms = timeout ∷ [] }
    ∷ record { id = 165; terms = error ∷ (97 ∷ []) ∷ [] } ∷ record { id = 230; terms = error ∷ error ∷ [] } ∷ []

three_have_error : match_count (word error) four ≡ 3
three_have_error = refl

two_have_timeout : match_count (word timeout) four ≡ 2
two_have_timeout = refl

one_has_no_error : match_count (negation (word error)) four ≡ 1
one_has_no_error = refl

two_since : match_count (conjunction (trees (word error) (trees (since 160) no_trees))) four ≡ 2
two_since = refl

-- from 100 on, 60 wide: 100 to 159, 160 to 219, 220 to 279
first_bucket : bucket_count (word error) 100 60 0 four ≡ 1
first_bucket = refl

second_bucket : bucket_count (word error) 100 60 1 four ≡ 1
second_bucket = refl

third_bucket : bucket_count (word error) 100 60 2 four ≡ 1
third_bucket = refl

fourth_bucket : bucket_count (word error) 100 60 3 four ≡ 0
fourth_bucket = refl

-- an id at the start lies in the first bucket, and one at the end in none
at_the_start : bucket_count (word timeout) 160 1 0 four ≡ 1
at_the_start = refl

at_the_end : bucket_count (word timeout) 100 60 0 four ≡ 1
at_the_end = refl
