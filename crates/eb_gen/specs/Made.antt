-- Made input: document lines and query lines that are the same on every machine.
use Rattle.std.specs.Prelude.{ℕ, zero, suc, ◌+◌, ◌*◌, ◌/◌, ◌%◌, ◌^◌, ◌==◌, ◌||◌, List, [], ◌∷◌, ◌++◌, codes, if◌then◌else◌}
use Rattle.std.specs.Fmt.{decimal}

-- the number of 64 bits for a start value, a document and one of its words
abbrev pub mixed : ℕ → ℕ → ℕ → ℕ
mixed start document at = (6364136223846793005 * (start + 8 * document + at) + 1442695040888963407) % 2 ^ 64

-- the word's number, 0 to 255: the highest byte of it
abbrev pub word_number : ℕ → ℕ → ℕ → ℕ
word_number start document at = mixed start document at / 2 ^ 56

-- the word: `w` and its number
abbrev pub word_text : ℕ → ℕ → ℕ → List ℕ
word_text start document at = codes "w" ++ decimal (word_number start document at)

-- the words from the first to this one, with a space between two
abbrev pub words_to : ℕ → ℕ → ℕ → List ℕ
words_to start document zero = word_text start document 0
words_to start document (suc at) = words_to start document at ++ codes " " ++ word_text start document (suc at)

-- the document line: the document's number as its id, and eight words
abbrev pub made_line : ℕ → ℕ → List ℕ
made_line start document = codes "{\"id\":" ++ decimal document ++ codes ",\"text\":\"" ++ words_to start document 7 ++ codes "\"}"

-- the query line: ten documents with the first two words of this one
abbrev pub made_query : ℕ → ℕ → List ℕ
made_query start document = codes "?10 " ++ words_to start document 1

-- a query follows each thousandth document, and the last
abbrev pub has_query : ℕ → ℕ → List ℕ → List ℕ
has_query document count query = if ((document + 1) % 1000 == 0) || (document + 1 == count) then query else []

-- the lines of the documents from one on, `more` of them, where there are `count` in all
abbrev pub made_from : ℕ → ℕ → ℕ → ℕ → List ℕ
made_from start count document zero = []
made_from start count document (suc more) =
    made_line start document ++ 10 ∷ has_query document count (made_query start document ++ 10 ∷ []) ++ made_from start count (document + 1) more

-- the made input of n documents
abbrev pub made : ℕ → ℕ → List ℕ
made start count = made_from start count 0 count
