-- The pieces of a text, and its lines, where the text is two texts one after the other.
use Rattle.std.proofs.Common.{◌≡◌, ◌≢◌, inl, inr, ℕ, Bool, true, false, List, [], ◌∷◌, ◌++◌, map, refl, sym, ap, ◌∙◌, append_assoc, append-nil, arith}
use Rattle.std.specs.Prelude.{◌==◌}
use Rattle.std.proofs.lemmas.List.{map-append}
use Rattle.std.proofs.lemmas.List.Elements.{All-head, All-rest}
use Rattle.eb_io.specs.Lines.{begun_by, pieces, before_first_piece, whole_pieces, line_from, lines_of, whole_lines, IsUncut, AreWhole}

is_no_lf : (b : ℕ) → b ≢ 10 → (b == 10) ≡ false
is_no_lf b h = grind arith

uncut_head : (b : ℕ) (bs : List ℕ) → IsUncut (b ∷ bs) → b ≢ 10
uncut_head b bs uncut = All-head (λ b. b ≢ 10) b bs uncut

uncut_rest : (b : ℕ) (bs : List ℕ) → IsUncut (b ∷ bs) → IsUncut bs
uncut_rest b bs uncut = All-rest (λ b. b ≢ 10) b bs (b ∷ bs) refl uncut

-- the first piece ends at the first LF
pub pieces-cut : (piece rest : List ℕ) → IsUncut piece → pieces (piece ++ 10 ∷ rest) ≡ piece ∷ pieces rest
pieces-cut [] rest uncut = refl
pieces-cut (b ∷ bs) rest uncut =
    rw (is_no_lf b (uncut_head b bs uncut)) (ap (begun_by b) (pieces-cut bs rest (uncut_rest b bs uncut)))

-- bytes without a LF are one piece
pub pieces-uncut : (b : ℕ) (bs : List ℕ) → IsUncut (b ∷ bs) → pieces (b ∷ bs) ≡ (b ∷ bs) ∷ []
pieces-uncut b [] uncut = rw (is_no_lf b (uncut_head b [] uncut)) refl
pieces-uncut b (d ∷ ds) uncut =
    rw (is_no_lf b (uncut_head b (d ∷ ds) uncut)) (ap (begun_by b) (pieces-uncut d ds (uncut_rest b (d ∷ ds) uncut)))

-- and none that a LF ends
pub whole_pieces-uncut : (bytes : List ℕ) → IsUncut bytes → whole_pieces bytes ≡ []
whole_pieces-uncut [] uncut = refl
whole_pieces-uncut (b ∷ bs) uncut =
    rw (is_no_lf b (uncut_head b bs uncut)) (ap (before_first_piece b) (whole_pieces-uncut bs (uncut_rest b bs uncut)))

-- a text that ends in a LF has at least one piece, a LF ends each of them, and more text comes
-- after
record Ends (front more : List ℕ) : Type 0 where
  first : List ℕ
  others : List (List ℕ)
  alone : pieces (front ++ 10 ∷ []) ≡ first ∷ others
  whole : whole_pieces (front ++ 10 ∷ []) ≡ first ∷ others
  followed : pieces (front ++ 10 ∷ more) ≡ first ∷ (others ++ pieces more)
  whole_followed : whole_pieces (front ++ 10 ∷ more) ≡ first ∷ (others ++ whole_pieces more)

ends_after : (is_lf : Bool) (b : ℕ) (bs more : List ℕ) → (b == 10) ≡ is_lf → Ends bs more → Ends (b ∷ bs) more
ends_after true b bs more e h = record {
  first = [];
  others = h.first ∷ h.others;
  alone = rw e (ap (λ t. [] ∷ t) h.alone);
  whole = rw e (ap (λ t. [] ∷ t) h.whole);
  followed = rw e (ap (λ t. [] ∷ t) h.followed);
  whole_followed = rw e (ap (λ t. [] ∷ t) h.whole_followed);
}
ends_after false b bs more e h = record {
  first = b ∷ h.first;
  others = h.others;
  alone = rw e (ap (begun_by b) h.alone);
  whole = rw e (ap (before_first_piece b) h.whole);
  followed = rw e (ap (begun_by b) h.followed);
  whole_followed = rw e (ap (before_first_piece b) h.whole_followed);
}

ends : (front more : List ℕ) → Ends front more
ends [] more = record { first = []; others = []; alone = refl; whole = refl; followed = refl; whole_followed = refl }
ends (b ∷ bs) more = ends_after (b == 10) b bs more refl (ends bs more)

-- after whole lines another text begins
pub pieces-append : (front more : List ℕ) → AreWhole front → pieces (front ++ more) ≡ pieces front ++ pieces more
pieces-append front more (inl e) = rw e refl
pieces-append front more (inr (f, e)) =
    let h = ends f more in
    rw e (ap pieces (append_assoc f (10 ∷ []) more) ∙ (h.followed ∙ sym (ap (λ t. t ++ pieces more) h.alone)))

pub whole_pieces-append : (front more : List ℕ) → AreWhole front → whole_pieces (front ++ more) ≡ whole_pieces front ++ whole_pieces more
whole_pieces-append front more (inl e) = rw e refl
whole_pieces-append front more (inr (f, e)) =
    let h = ends f more in
    rw e (ap whole_pieces (append_assoc f (10 ∷ []) more) ∙ (h.whole_followed ∙ sym (ap (λ t. t ++ whole_pieces more) h.whole)))

-- a LF ends each piece of whole lines
pub whole_pieces-whole : (bytes : List ℕ) → AreWhole bytes → whole_pieces bytes ≡ pieces bytes
whole_pieces-whole bytes (inl e) = rw e refl
whole_pieces-whole bytes (inr (f, e)) = let h = ends f [] in rw e (h.whole ∙ sym h.alone)

pub lines_of-cut : (piece rest : List ℕ) → IsUncut piece → lines_of (piece ++ 10 ∷ rest) ≡ line_from piece ∷ lines_of rest
lines_of-cut piece rest uncut = ap (map line_from) (pieces-cut piece rest uncut)

pub lines_of-append : (front more : List ℕ) → AreWhole front → lines_of (front ++ more) ≡ lines_of front ++ lines_of more
lines_of-append front more w = ap (map line_from) (pieces-append front more w) ∙ map-append line_from (pieces front) (pieces more)

pub whole_lines-append : (front more : List ℕ) → AreWhole front → whole_lines (front ++ more) ≡ whole_lines front ++ whole_lines more
whole_lines-append front more w =
    ap (map line_from) (whole_pieces-append front more w) ∙ map-append line_from (whole_pieces front) (whole_pieces more)

pub whole_lines-uncut : (bytes : List ℕ) → IsUncut bytes → whole_lines bytes ≡ []
whole_lines-uncut bytes uncut = ap (map line_from) (whole_pieces-uncut bytes uncut)

pub whole_lines-whole : (bytes : List ℕ) → AreWhole bytes → whole_lines bytes ≡ lines_of bytes
whole_lines-whole bytes w = ap (map line_from) (whole_pieces-whole bytes w)

-- after whole lines, bytes without a LF end no line
pub whole_lines-open : (front more : List ℕ) → AreWhole front → IsUncut more → whole_lines (front ++ more) ≡ lines_of front
whole_lines-open front more w uncut =
    whole_lines-append front more w ∙ (ap (λ t. whole_lines front ++ t) (whole_lines-uncut more uncut) ∙ (append-nil (whole_lines front) ∙ whole_lines-whole front w))
