-- The definitions on rows: a feed of three generations, the first of documents 1 and 2, the second
-- of 3, the newest of 4.
use Rattle.std.proofs.Common.{◌≡◌, ℕ, List, [], ◌∷◌, length, reverse, inl, inr, true, refl, ap, arith}
use Rattle.logbook.specs.Pages.{Book}
use Rattle.eb_base.specs.Document.{Doc}
use Rattle.eb_base.specs.Setting.{Setting}
use Rattle.eb_table.specs.Known.{Words}
use Rattle.feed_shared.specs.declared.turn.Turn.{Turn}
use Rattle.feed_shared.specs.declared.mail.Ticket.TheVariants.{Opening, At}
use Rattle.feed_shared.specs.Turns.{PieceToken, FeedToken, WriterToken, turn, piece_of, generations_of, history_of}
use Rattle.feed_shared.specs.Turns.{stretch_of, AreHeld, newest_docs, HasTaken, IsOfNewest, HasLapsed, known_of_newest, counted}
use Rattle.feed_shared.specs.Mail.{book_of, KeepsMail}
use Rattle.feed_shared.specs.Rules.{IsKept}

abbrev doc : ℕ → Doc
doc id = record { id = id; terms = [] }

abbrev log : Words → Words → Words → List Turn
log i j k = turn i [] ∷ turn j (doc 1 ∷ doc 2 ∷ []) ∷ turn k (doc 3 ∷ []) ∷ []

-- the newest first
three : (i j k : Words) → generations_of (log i j k) (doc 4 ∷ []) ≡ (doc 4 ∷ []) ∷ (doc 3 ∷ []) ∷ (doc 1 ∷ doc 2 ∷ []) ∷ []
three i j k = refl

-- nothing is known of the newest
begun : (i j k : Words) → generations_of (log i j k) [] ≡ [] ∷ (doc 3 ∷ []) ∷ (doc 1 ∷ doc 2 ∷ []) ∷ []
begun i j k = refl

no_turn : (docs : List Doc) → generations_of [] docs ≡ []
no_turn docs = refl

whole : (i j k : Words) → history_of (log i j k) (doc 4 ∷ []) ≡ doc 1 ∷ doc 2 ∷ doc 3 ∷ doc 4 ∷ []
whole i j k = refl

-- of one, of two, of none, and of more than there are
one_held : (i j k : Words) → stretch_of 1 (log i j k) (doc 4 ∷ []) ≡ doc 4 ∷ []
one_held i j k = refl

two_held : (i j k : Words) → stretch_of 2 (log i j k) (doc 4 ∷ []) ≡ doc 3 ∷ doc 4 ∷ []
two_held i j k = refl

none_held : (i j k : Words) → stretch_of 0 (log i j k) (doc 4 ∷ []) ≡ []
none_held i j k = refl

all_held : (i j k : Words) → stretch_of 9 (log i j k) (doc 4 ∷ []) ≡ doc 1 ∷ doc 2 ∷ doc 3 ∷ doc 4 ∷ []
all_held i j k = refl

abbrev piece : Words → List Doc → PieceToken
piece i docs = record { index = i; docs = docs }

-- two readers, of the newest and of the one before
held : (i j k : Words) → AreHeld (piece k (doc 4 ∷ []) ∷ piece j (doc 3 ∷ []) ∷ []) (doc 4 ∷ []) (reverse (log i j k))
held i j k = (refl, refl, (refl, refl, tt))

-- but not one that knows less of a closed generation, and not more than there are turns
not_less : (i j k : Words) → AreHeld (piece k (doc 4 ∷ []) ∷ piece j [] ∷ []) (doc 4 ∷ []) (reverse (log i j k)) → ⊥
not_less i j k h = let e : 0 ≡ 1 = ap length h.2.1 in cc e

not_more : (i : Words) → AreHeld (piece i [] ∷ piece i [] ∷ []) [] (turn i [] ∷ []) → ⊥
not_more i h = h.2

-- how many segments are converted is no part of it
conversions_apart : (i : Words) → piece_of (record { index = i; docs = doc 4 ∷ []; converted = 7 }) ≡ piece i (doc 4 ∷ [])
conversions_apart i = refl

newest_of_none : newest_docs [] ≡ []
newest_of_none = refl

newest_of_two : (j k : Words) → newest_docs (piece k (doc 4 ∷ []) ∷ piece j (doc 3 ∷ []) ∷ []) ≡ doc 4 ∷ []
newest_of_two j k = refl

newest_index : (i j k : Words) → IsOfNewest k (log i j k)
newest_index i j k = (turn i [] ∷ turn j (doc 1 ∷ doc 2 ∷ []) ∷ [], doc 3 ∷ [], refl)

-- a reader of the first turn holds document 1; one that knows all, and two generations, can't
-- compare it
abbrev token : Book → List Turn → List Doc → ℕ → FeedToken
token b ts docs held = record { book = b; log = ts; docs = docs; held = held }

one_back : (b : Book) (i j k : Words) → known_of_newest (token b (turn i [] ∷ turn j (doc 1 ∷ doc 2 ∷ []) ∷ []) (doc 3 ∷ []) 2) (token b (log i j k) (doc 4 ∷ []) 2) ≡ doc 3 ∷ []
one_back b i j k = refl

lapsed : (b : Book) (i j k : Words) → HasLapsed (token b (turn i [] ∷ []) (doc 1 ∷ []) 1) (token b (log i j k) (doc 4 ∷ []) 2)
lapsed b i j k = inl (search arith)

two_counted : counted (doc 1 ∷ doc 2 ∷ []) ≡ 2
two_counted = refl

-- a feed without a document
abbrev opened : Setting → Book → Words → WriterToken
opened σ b i = record { setting = σ; keep = 2; feed = record { book = b; log = turn i [] ∷ []; docs = []; held = 1 } }

nothing_taken : (σ : Setting) (b : Book) (i : Words) → HasTaken (opened σ b i) []
nothing_taken σ b i = inr (refl, refl)

-- the book, and mailboxes
three_turns : (i j k : Words) → IsKept ((3, true) ∷ (0, true) ∷ []) (log i j k)
three_turns i j k = record { words = refl }

empty_mailbox : KeepsMail [] (Opening ∷ [])
empty_mailbox = inl (refl, refl)

book_known : (b : Book) → book_of (At b) ≡ b
book_known b = refl
