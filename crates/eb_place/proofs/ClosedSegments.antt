-- A closed segment: all its postings are seen, and the tails of no further terms are stored.
use Rattle.std.proofs.Common.{◌≡◌, ℕ, zero, suc, ◌+◌, ◌<◌, ◌≤◌, List, [], ◌∷◌, ◌++◌, length, get_or, ap, sym, ◌∙◌, subst, arith, append-nil, append_assoc, Option, Some, None, inl, inr}
use Rattle.std.proofs.lemmas.Bool.{cases_lt}
use Rattle.std.proofs.lemmas.List.{take_all, length-take}
use Rattle.eb_base.specs.Term.{Term}
use Rattle.eb_base.specs.Document.{Doc}
use Rattle.eb_base.specs.Setting.{Setting}
use Rattle.eb_place.specs.declared.moment.Moment.{Moment}
use Rattle.eb_place.specs.Layout.{place}
use Rattle.eb_place.specs.Layout.Slot.{slot}
use Rattle.eb_place.specs.Layout.Region.{tail_region}
use Rattle.eb_place.specs.Postings.{postings, terms_of, count_of, number_of, distinct}
use Rattle.eb_base.specs.Setting.{IsSetting}
use Rattle.eb_place.specs.Room.{cut, IsLawful}
use Rattle.eb_place.specs.Moments.{current_of, placings, current_stores, document_stores, word, IsMoment, IsClosed}
use Rattle.eb_place.specs.Seen.{segment, tails_done, seen, seen_count}
use Rattle.eb_place.specs.Walk.{IsTerm, tail_value}
use Rattle.eb_place.proofs.CutSegments.{cut_push}
use Rattle.eb_place.proofs.EnoughPackedWords.{length-postings}
use Rattle.eb_place.proofs.WordsAtMoment.{placed_all, lawful_front, lawful_last, joins}
use Rattle.eb_place.proofs.WordsOfTokens.{Reached, times, times-append, tail_within}
use Rattle.eb_place.proofs.WordsOfHistories.{posting_numbers}
use Rattle.eb_place.proofs.TermNumbersStay.{distinct_grows}
use Rattle.eb_place.proofs.ConverterWords.{closed_room}
use Rattle.eb_place.proofs.ReaderWords.{seen_is, moment_words, word_of_writer, word_tail, packed_tail}

-- a closed segment is one of the accepted documents alone
closed_before : (σ : Setting) (docs : List Doc) (c : Option (Doc × ℕ)) (s : ℕ) → IsSetting σ → IsLawful σ (docs ++ current_of c) → s + 1 < length (cut σ (docs ++ current_of c))
    → get_or (cut σ (docs ++ current_of c)) s [] ≡ get_or (cut σ docs) s []
closed_before σ docs None s k l h = ap (λ z. get_or (cut σ z) s []) (append-nil docs)
closed_before σ docs (Some c) s k l h =
    let p = placed_all σ docs k (lawful_front σ docs (c.0 ∷ []) l) in
    let j = joins σ docs c.0 k p.short (lawful_last σ docs c.0 l) in
    let e = ap length (cut_push σ docs c.0) in
    j.other s (λ q. omega arith)

-- its tail stores are all done
closed_count : (m : Moment) (s : ℕ) (t : Term) → IsMoment m → IsClosed m s → length (postings t (segment m s)) ≤ seen_count m s t
unfolding seen_count tails_done document_stores
closed_count m s t is c =
    let σ = m.setting in
    let docs = m.documents.accepted in
    let cur = m.documents.current in
    let seg = segment m s in
    let ts = terms_of seg in
    let P = placings σ docs in
    let C = current_stores σ docs cur in
    let x = slot s tail_region (number_of t ts) in
    let n = length-postings t seg in
    let q = placed_all σ docs is.setting (lawful_front σ docs (current_of cur) is.lawful) in
    let room = closed_room m s is c in
    let e : get_or (cut σ docs) s [] ≡ seg = sym (closed_before σ docs cur s is.setting is.lawful c) in
    let d = length-take (times σ (P ++ C) x) (postings t seg) in
    let a = times-append σ P C x in
    elim (cases_lt 0 (count_of t ts)) [
      | inl there ↦
          let r = subst (λ (z : List Doc). Reached σ s (terms_of z) (posting_numbers z) P) e (q.reached s room.inside) in
          let done = r.done t there in
          omega arith
      | inr away ↦ omega arith
    ]

-- all its postings are seen
pub closed_seen : (m : Moment) (s : ℕ) (t : Term) → IsMoment m → IsClosed m s → seen m s t ≡ postings t (segment m s)
closed_seen m s t is c = seen_is m s t ∙ take_all (seen_count m s t) (postings t (segment m s)) (closed_count m s t is c)

distinct_front : (xs ys : List Term) → length (distinct xs) ≤ length (distinct (xs ++ ys))
distinct_front xs [] = omega (arith, ap (λ z. length (distinct z)) (append-nil xs))
distinct_front xs (y ∷ ys) = omega (arith, distinct_grows xs y, distinct_front (xs ++ y ∷ []) ys, ap (λ z. length (distinct z)) (append_assoc xs (y ∷ []) ys))

-- the tail of no term is 0
pub tail_none : (m : Moment) (s k : ℕ) → IsMoment m → s < m.setting.segments → length (distinct (terms_of (segment m s))) ≤ k → k < m.setting.terms
    → word m (place m.setting (slot s tail_region k)) ≡ 0
tail_none m s k is h l b =
    let w = moment_words m s is h in
    let f = distinct_front w.stored w.left in
    let e = ap (λ z. length (distinct z)) w.all in
    word_of_writer m (slot s tail_region k) is (tail_within m.setting s k h b) (packed_tail s k) ∙ w.reached.bare k (omega arith) b

-- the tail of a term of a closed segment isn't
pub tail_some : (m : Moment) (s : ℕ) (t : Term) (k : ℕ) → IsMoment m → IsClosed m s → IsTerm m s t k → 1 ≤ word m (place m.setting (slot s tail_region k))
tail_some m s t k is c h =
    let w = word_tail m s t k is h in
    let n = length-postings t (segment m s) in
    let all = closed_count m s t is c in
    let there = h.there in
    at (seen_count m s t) w (omega arith)
  where
    at : (n : ℕ) → word m (place m.setting (slot s tail_region k)) ≡ tail_value m s t n → 1 ≤ n → 1 ≤ word m (place m.setting (slot s tail_region k))
    at zero e l = absurd (omega arith)
    at (suc n) e l = omega arith
