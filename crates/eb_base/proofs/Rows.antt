-- Answers over a few documents, computed by the definitions.
use Rattle.std.proofs.Common.{◌≡◌, ℕ, List, [], ◌∷◌, refl}
use Rattle.eb_base.specs.Document.{Doc}
use Rattle.eb_base.specs.Query.{Tree, word, phrase, window, since, negation, conjunction, disjunction, no_trees, trees}
use Rattle.eb_base.specs.Match.{answer}

-- the terms `a` to `d`
abbrev a : List ℕ
a = 97 ∷ []

abbrev b : List ℕ
b = 98 ∷ []

abbrev c : List ℕ
c = 99 ∷ []

abbrev d : List ℕ
d = 100 ∷ []

abbrev doc : ℕ → List (List ℕ) → Doc
doc id terms = record { id = id; terms = terms }

abbrev each : Tree → Tree → Tree
each p q = conjunction (trees p (trees q no_trees))

abbrev some : Tree → Tree → Tree
some p q = disjunction (trees p (trees q no_trees))

-- the newest k, newest first; two documents with one id are two, and a term that occurs twice
-- counts once
newest_first : answer (word a) 2 (doc 1 (a ∷ []) ∷ doc 2 (a ∷ []) ∷ doc 3 (a ∷ []) ∷ []) ≡ 3 ∷ 2 ∷ []
unfolding answer
newest_first = refl

one_a_document : answer (word a) 5 (doc 9 (a ∷ []) ∷ doc 9 (a ∷ a ∷ []) ∷ []) ≡ 9 ∷ 9 ∷ []
unfolding answer
one_a_document = refl

-- a document without terms matches only a negation
negated : answer (negation (word b)) 5 (doc 4 [] ∷ doc 5 (b ∷ []) ∷ []) ≡ 4 ∷ []
unfolding answer
negated = refl

-- a b b a b a
abbrev repeated : List Doc
repeated = doc 1 (a ∷ b ∷ b ∷ a ∷ b ∷ a ∷ []) ∷ []

phrase_last : answer (phrase (a ∷ b ∷ a ∷ [])) 5 repeated ≡ 1 ∷ []
unfolding answer
phrase_last = refl

phrase_inside : answer (phrase (b ∷ b ∷ a ∷ b ∷ [])) 5 repeated ≡ 1 ∷ []
unfolding answer
phrase_inside = refl

phrase_absent : answer (phrase (b ∷ a ∷ b ∷ b ∷ [])) 5 repeated ≡ []
unfolding answer
phrase_absent = refl

-- a phrase doesn't reach into the next document, and neither does an and
abbrev pairs : List Doc
pairs = doc 1 (a ∷ b ∷ []) ∷ doc 2 (c ∷ d ∷ []) ∷ []

phrase_across : answer (phrase (b ∷ c ∷ [])) 5 pairs ≡ []
unfolding answer
phrase_across = refl

and_across : answer (each (word b) (word c)) 5 pairs ≡ []
unfolding answer
and_across = refl

or_both : answer (some (word b) (word c)) 5 pairs ≡ 2 ∷ 1 ∷ []
unfolding answer
or_both = refl

-- a window: in order, at most this far apart, and two equal terms at two places
window_near : answer (window (a ∷ a ∷ []) 2) 5 repeated ≡ 1 ∷ []
unfolding answer
window_near = refl

window_far : answer (window (a ∷ a ∷ []) 1) 5 repeated ≡ []
unfolding answer
window_far = refl

window_of_three : answer (window (b ∷ b ∷ b ∷ []) 3) 5 repeated ≡ 1 ∷ []
unfolding answer
window_of_three = refl

window_three_far : answer (window (a ∷ a ∷ a ∷ []) 4) 5 repeated ≡ []
unfolding answer
window_three_far = refl

window_across : answer (window (b ∷ c ∷ []) 5) 5 pairs ≡ []
unfolding answer
window_across = refl

-- a bound on ids takes only greater ones
since_greater : answer (since 1) 5 pairs ≡ 2 ∷ []
unfolding answer
since_greater = refl

since_not : answer (negation (since 1)) 5 pairs ≡ 1 ∷ []
unfolding answer
since_not = refl

since_last : answer (since 18446744073709551615) 5 pairs ≡ []
unfolding answer
since_last = refl
