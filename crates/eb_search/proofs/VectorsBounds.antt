-- Bounds of an and of two words: how many documents have a word, the rarest of both, and the rounds
-- that can still come.
use Rattle.std.proofs.Common.{◌≡◌, List, [], ◌∷◌, refl}
use Rattle.eb_base.specs.Document.{Doc}
use Rattle.eb_base.specs.Term.{Term}
use Rattle.eb_cursor.specs.AndCosts.{documents_with, document_has, all_rounds_cost, call_loads}
use Rattle.eb_cursor.specs.Costs.{look_loads, rounds_left}
use Rattle.eb_search.specs.Bounds.{rarest_count, ids_loads}

abbrev pub a : Term
a = 97 ∷ []

abbrev pub b : Term
b = 98 ∷ []

-- `a b`, `a`, `a`, `b a`
abbrev pub four : List Doc
four = record { id = 1; terms = a ∷ b ∷ [] } ∷ record { id = 2; terms = a ∷ [] } ∷ record { id = 3; terms = a ∷ [] } ∷ record { id = 4; terms = b ∷ a ∷ [] } ∷ []

all_have_a : documents_with four a ≡ 4
all_have_a = refl

two_have_b : documents_with four b ≡ 2
two_have_b = refl

b_is_rarest : rarest_count four (a ∷ b ∷ []) ≡ 2
b_is_rarest = refl

none_has_both_of_none : rarest_count [] (a ∷ b ∷ []) ≡ 0
none_has_both_of_none = refl

-- below all four, the last of which has both; and below three, the last of which has only `a`
rounds_by_b : rounds_left (document_has four b) 4 ≡ 4
rounds_by_b = refl

rounds_by_b_of_three : rounds_left (document_has four b) 3 ≡ 3
rounds_by_b_of_three = refl

rounds_by_a : rounds_left (document_has four a) 4 ≡ 8
rounds_by_a = refl

-- a look costs at most 85 loads besides what the spans pay; five rounds over two words, a call's
-- round and look, and three ids
a_look : look_loads ≡ 85
a_look = refl

rounds_of_two : all_rounds_cost (a ∷ b ∷ []) 2 ≡ 850
unfolding all_rounds_cost
rounds_of_two = refl

a_call : call_loads (a ∷ b ∷ []) ≡ 255
a_call = refl

three_ids : ids_loads (a ∷ b ∷ []) 3 ≡ 768
unfolding ids_loads
three_ids = refl
