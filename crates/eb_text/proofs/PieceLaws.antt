-- The laws of pieces.
use Rattle.std.proofs.Common.{◌≡◌, ℕ, zero, suc, ◌<◌, Bool, true, false, List, [], ◌∷◌, ◌++◌, length, slice_index_or, refl, sym, ap, subst, ◌∙◌, arith}
use Rattle.std.specs.List.{filter, flat_map, onto_first, AllByRecursion, Contains}
use Rattle.std.proofs.lemmas.Grind.{flat_map-append}
use Rattle.std.proofs.lemmas.List.Elements.{All-from_recursion, All-contains, Contains-append_left, Contains-append_right}
use Rattle.eb_text.specs.Tokens.{tokens_of}
use Rattle.eb_text.specs.Pieces.{is_mark, has_byte, pieces}
use Rattle.eb_text.specs.PieceLaws.{NoMarks, StaysWhole, StayTogether}
use Rattle.eb_text.proofs.InPieces.{begins, step, pieces-cons, pieces_none}

abbrev IsNoMark : ℕ → Type 0
IsNoMark b = is_mark b ≡ false

abbrev Clean : List ℕ → Type 0
Clean = AllByRecursion IsNoMark

clean_onto : (c : ℕ) (ps : List (List ℕ)) → IsNoMark c → AllByRecursion Clean ps → AllByRecursion Clean (onto_first c ps)
clean_onto c [] h all = ((h, tt), tt)
clean_onto c (p ∷ ps) h all = ((h, all.0), all.1)

clean_step : (m : Bool) (c : ℕ) (b : Bool) (ps : List (List ℕ)) → is_mark c ≡ m → AllByRecursion Clean ps → AllByRecursion Clean (step m c b ps)
clean_step true c b ps h all = all
clean_step false c true ps h all = clean_onto c ps h all
clean_step false c false ps h all = ((h, tt), all)

pub clean_pieces : (t : List ℕ) → AllByRecursion Clean (pieces t)
clean_pieces [] = tt
clean_pieces (c ∷ cs) = subst (AllByRecursion Clean) (sym (pieces-cons c cs)) (clean_step (is_mark c) c (begins cs) (pieces cs) refl (clean_pieces cs))

clean_append : (xs ys : List (List ℕ)) → AllByRecursion Clean xs → AllByRecursion Clean ys → AllByRecursion Clean (xs ++ ys)
clean_append [] ys h k = k
clean_append (x ∷ xs) ys h k = (h.0, clean_append xs ys h.1 k)

clean_all : (ts : List (List ℕ)) → AllByRecursion Clean (flat_map pieces ts)
clean_all [] = tt
clean_all (t ∷ ts) = clean_append (pieces t) (flat_map pieces ts) (clean_pieces t) (clean_all ts)

pub no_marks : NoMarks
no_marks text token h =
    let each = All-contains Clean (flat_map pieces (tokens_of text)) token (All-from_recursion Clean _ (clean_all (tokens_of text))) h in
    All-from_recursion IsNoMark token each

pub stay_together : StayTogether
stay_together before tokens after = flat_map-append pieces (before ++ tokens) after ∙ ap (λ ts. ts ++ flat_map pieces after) (flat_map-append pieces before tokens)

filled : (t : List ℕ) → 0 < length t → filter has_byte (t ∷ []) ≡ t ∷ []
filled [] some = absurd (omega arith)
filled (c ∷ cs) some = refl

among : (ts : List (List ℕ)) (t : List ℕ) (k : ℕ) → k < length ts → slice_index_or ts k t ≡ t → pieces t ≡ t ∷ [] → Contains (flat_map pieces ts) t
among [] t k lt e one = absurd (omega arith)
among (s ∷ ts) t zero lt e one =
    Contains-append_left (pieces s) (flat_map pieces ts) t (subst (λ (ps : List (List ℕ)). Contains ps t) (sym (ap pieces e ∙ one)) (0, (omega arith), refl))
among (s ∷ ts) t (suc k) lt e one = Contains-append_right (pieces s) (flat_map pieces ts) t (among ts t k (omega arith) e one)

pub stays_whole : StaysWhole
stays_whole text token c some clean = among (tokens_of text) token c.0 c.1 c.2 (pieces_none token clean ∙ filled token some)
