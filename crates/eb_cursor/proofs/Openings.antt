-- What an opened list gives: the postings of the accepted documents, and above them what came
-- since.
use Rattle.std.proofs.Common.{◌≡◌, ◌==◌, ℕ, Bool, true, false, zero, suc, ◌+◌, ◌*◌, ◌<◌, ◌≤◌, inl, inr, List, [], ◌∷◌, ◌++◌, length, take, reverse, get_or, refl, ap, sym, ◌∙◌}
use Rattle.std.proofs.Common.{subst, arith, append_assoc}
use Rattle.std.proofs.lemmas.Bool.{cases_lt}
use Rattle.std.proofs.lemmas.List.{length-append, take_all}
use mathlib.Core.List.{IsPrefix}
use Rattle.eb_place.proofs.NextStore.{accepted_lawful}
use Rattle.eb_base.specs.Term.{Term}
use Rattle.eb_base.specs.Document.{Doc}
use Rattle.eb_base.specs.Query.{Tree, word as word_of}
use Rattle.eb_base.specs.Match.{Matches}
use Rattle.eb_base.proofs.Matching.{match_decides}
use Rattle.std.proofs.lemmas.Bool.Decides.{nat_tests}
use Rattle.eb_place.specs.declared.moment.Moment.{Moment}
use Rattle.eb_place.specs.Postings.{places, postings, terms_of, count_of}
use Rattle.eb_place.specs.Room.{cut}
use Rattle.eb_place.specs.Moments.{IsMoment, with_current, word}
use Rattle.eb_place.specs.Later.{IsNotBefore}
use Rattle.eb_place.specs.Seen.{segment, seen, seen_count, IsEntered}
use Rattle.eb_place.proofs.TermCounts.{count_of-append, any_count}
use Rattle.eb_place.proofs.ReaderWords.{seen_is, reached_few}
use Rattle.eb_place.proofs.EnoughPackedWords.{length-postings}
use Rattle.eb_place.proofs.ReachedLater.{later_segment}
use Rattle.eb_place.proofs.WordsOfHistories.{terms_more, postings_more}
use Rattle.eb_place.proofs.LaterMoments.{later_on}
use Rattle.eb_place.proofs.WordsAtMoment.{placed_all}
use Rattle.eb_place.specs.PackedLists.{newest_first}
use Rattle.std.specs.Bool.{MatchBool}
use Rattle.eb_place.specs.PackedLists.{IsConverted}
use Rattle.eb_place.specs.Layout.{place}
use Rattle.eb_place.specs.Layout.Slot.{slot}
use Rattle.eb_place.specs.Layout.Region.{converted_region}
use Rattle.eb_place.proofs.ConverterWords.{later_converted, word_converted, word_not_converted}
use Rattle.eb_block.specs.Reading.{ListStands}
use Rattle.eb_block.specs.declared.packed_list.PackedList.{PackedList}
use Rattle.eb_chain.specs.Chains.{Stands}
use Rattle.eb_chain.specs.declared.chain.Chain.{Chain}
use Rattle.eb_cursor.specs.Lists.{from_below, IsDescending}
use Rattle.eb_cursor.specs.Posted.{Narrow}
use Rattle.eb_cursor.specs.Accepted.{accepted_in, AreFirst}
use Rattle.eb_cursor.specs.Greatest.{MatchesAt}
use Rattle.eb_cursor.specs.Opened.{CanRead, Opened}
use Rattle.eb_cursor.specs.declared.posting_list.PostingList.TheVariants.{Empty, Live, Packed}
use Rattle.eb_cursor.proofs.Accepted.{whole_moment, whole_segment, whole_before, seen_accepted, entered_accepted}
use Rattle.eb_cursor.proofs.Firsts.{first_on}
use Rattle.eb_cursor.proofs.PostingsOf.{postings_below, seen_below, narrow_each, narrow_front}

empty_of : (xs : List ℕ) → length xs ≡ 0 → xs ≡ []
empty_of [] e = refl
empty_of (x ∷ xs) e = absurd (omega arith)

-- the segment as it was when its accepted documents were whole
first_are : (m : Moment) (s : ℕ) (docs : List Doc) → (a : AreFirst m s docs) → segment (whole_moment m) s ≡ docs ++ a.rest
first_are m s docs a = whole_segment m s ∙ a.are

-- a term that isn't entered has no posting in accepted documents
pub absent_opens : (m n : Moment) (s : ℕ) (docs : List Doc) (t : Term) → AreFirst m s docs → (IsEntered m s t → ⊥) → Opened n docs t Empty
absent_opens m n s docs t a away =
    let few : length (postings t docs) ≡ 0 = elim (cases_lt 0 (count_of t (terms_of docs))) [
      | inl some ↦ absurd (away (entered_accepted m s t
          (omega (arith, some, ap (λ (z : List Doc). count_of t (terms_of z)) (first_are m s docs a), ap (count_of t) (terms_more docs a.rest), count_of-append t (terms_of docs) (terms_of a.rest)))))
      | inr none ↦ omega (arith, length-postings t docs)
    ] in
    record { postings = []; told = refl; falls = tt; all = ap reverse (sym (empty_of (postings t docs) few)) ∙ postings_below t docs a.narrow }

-- a chain gives what was seen when it was opened
pub chain_opens : (m n : Moment) (s : ℕ) (docs : List Doc) (t : Term) (c : Chain) → IsMoment m → IsMoment n → IsNotBefore n m
    → AreFirst m s docs → Stands n s t c (seen_count n s t) (reverse (seen n s t)) → Opened n docs t (Live c)
chain_opens m n s docs t c is js l a stands =
    let p = later_segment (whole_moment m) n s (later_on (whole_moment m) m n (whole_before m) l) in
    let more : List Doc = a.rest ++ p.0 in
    let e : segment n s ≡ docs ++ more = sym p.1 ∙ ap (λ (z : List Doc). z ++ p.0) (first_are m s docs a) ∙ append_assoc docs a.rest p.0 in
    let narrow : Narrow (docs ++ more) = subst Narrow e (narrow_each (segment n s) ((placed_all n.setting (with_current n.documents) js.setting js.lawful).limits s)) in
    let q = postings_more t docs a.rest in
    let few : length (postings t docs) ≤ seen_count n s t =
    omega (arith, seen_accepted m n s t is a.inside l, ap (λ (z : List Doc). length (postings t z)) (first_are m s docs a), ap length q.1, length-append (postings t docs) q.0) in
    let most : seen_count n s t ≤ length (postings t (docs ++ more)) = omega (arith, reached_few n s t, ap (λ (z : List Doc). length (postings t z)) e) in
    let is_front : seen n s t ≡ take (seen_count n s t) (postings t (docs ++ more)) = seen_is n s t ∙ ap (λ (z : List Doc). take (seen_count n s t) (postings t z)) e in
    let w = seen_below t docs more (seen_count n s t) narrow a.narrow few most in
    record {
      postings = reverse (seen n s t);
      told = (s, t, seen_count n s t, stands);
      falls = subst (λ (z : List ℕ). IsDescending (reverse z)) (sym is_front) w.0;
      all = ap (λ (z : List ℕ). from_below (places * length docs) (reverse z)) is_front ∙ w.1;
    }

-- a packed list gives all postings
pub packed_opens : (m n : Moment) (s : ℕ) (docs : List Doc) (t : Term) (p : PackedList) (budget : ℕ) → IsMoment n
    → IsNotBefore n m → AreFirst m s docs → ListStands n s t p (newest_first n s t) budget → Opened n docs t (Packed p)
packed_opens m n s docs t p budget js l a stands =
    let q = later_segment (whole_moment m) n s (later_on (whole_moment m) m n (whole_before m) l) in
    let more : List Doc = a.rest ++ q.0 in
    let e : segment n s ≡ docs ++ more = sym q.1 ∙ ap (λ (z : List Doc). z ++ q.0) (first_are m s docs a) ∙ append_assoc docs a.rest q.0 in
    let narrow : Narrow (docs ++ more) = subst Narrow e (narrow_each (segment n s) ((placed_all n.setting (with_current n.documents) js.setting js.lawful).limits s)) in
    let r = postings_more t docs more in
    let k : ℕ = length (postings t (docs ++ more)) in
    let few : length (postings t docs) ≤ k = omega (arith, ap length r.1, length-append (postings t docs) r.0) in
    let w = seen_below t docs more k narrow a.narrow few (omega arith) in
    let all : postings t (segment n s) ≡ take k (postings t (docs ++ more)) = ap (postings t) e ∙ sym (take_all k (postings t (docs ++ more)) (omega arith)) in
    record {
      postings = newest_first n s t;
      told = (s, t, budget, stands);
      falls = subst (λ (z : List ℕ). IsDescending (reverse z)) (sym all) w.0;
      all = ap (λ (z : List ℕ). from_below (places * length docs) (reverse z)) all ∙ w.1;
    }

-- what can be read can be read later
pub read_on : (m n : Moment) (s : ℕ) (docs : List Doc) (packed : Bool) → IsNotBefore n m → CanRead m s docs packed → CanRead n s docs packed
read_on m n s docs packed l h = record { first = first_on m n s docs l h.first; converted = λ e. later_converted m n s l (h.converted e) }

-- documents that are the first of a segment: the segment is there, and none has more terms than
-- places
pub are_first : (m : Moment) (s : ℕ) (docs : List Doc) → IsMoment m → 1 ≤ length docs → IsPrefix docs (accepted_in m s) → AreFirst m s docs
are_first m s docs is some p =
    let placed = placed_all m.setting m.documents.accepted is.setting (accepted_lawful m is) in
    let there : s < length (cut m.setting m.documents.accepted) = in_list (cut m.setting m.documents.accepted) s (omega (arith, ap length (sym p.1), length-append docs p.0)) in
    record {
      inside = omega (arith, placed.short);
      narrow = narrow_front docs p.0 (subst Narrow (sym p.1) (narrow_each (accepted_in m s) (placed.limits s)));
      rest = p.0;
      are = sym p.1;
    }
  where
    in_list : (xs : List (List Doc)) (k : ℕ) → 1 ≤ length (get_or xs k []) → k < length xs
    in_list [] k h = absurd (omega arith)
    in_list (x ∷ xs) zero h = omega arith
    in_list (x ∷ xs) (suc k) h = omega (arith, in_list xs k h)

-- ---- the converted word

-- whether a word is 1 says whether the segment is converted
pub packed_if : (n : Moment) (s w : ℕ) (b : Bool) → IsMoment n → s < n.setting.segments
    → w ≡ word n (place n.setting (slot s converted_region 0)) → b ≡ (w == 1) → MatchBool b (IsConverted n s) (n.conversions.converted ≤ s)
packed_if n s w b is inside e i = elim (cases_lt s n.conversions.converted) [
  | inl low ↦ subst (λ z. MatchBool z (IsConverted n s) (n.conversions.converted ≤ s)) (sym (i ∙ ap (λ k. k == 1) (e ∙ word_converted n s is low))) low
  | inr high ↦ subst (λ z. MatchBool z (IsConverted n s) (n.conversions.converted ≤ s)) (sym (i ∙ ap (λ k. k == 1) (e ∙ word_not_converted n s is inside high))) high
]

pub match_true : (b : Bool) (A B : Type 0) → MatchBool b A B → b ≡ true → A
match_true b A B h e = subst (λ z. MatchBool z A B) e h

pub match_not : (b : Bool) (A B : Type 0) → MatchBool b A B → (B → ⊥) → b ≡ true
match_not true A B h away = refl
match_not false A B h away = absurd (away h)

-- ---- a term that isn't entered

own_count : (t : Term) (d : Doc) → Matches (word_of t) d → 1 ≤ count_of t d.terms
own_count t d h = let e = (match_decides (word_of t) d).1 h in let f = any_count t d.terms in grind (arith, nat_tests)

count_cons : (t : Term) (d : Doc) (docs : List Doc) → count_of t (terms_of (d ∷ docs)) ≡ count_of t d.terms + count_of t (terms_of docs)
unfolding terms_of
count_cons t d docs = count_of-append t d.terms (terms_of docs)

some_count : (t : Term) (docs : List Doc) (n : ℕ) → MatchesAt (word_of t) docs n → 1 ≤ count_of t (terms_of docs)
some_count t [] n h = let e = h.1 in absurd cc
some_count t (x ∷ xs) zero h = let e : h.0 ≡ x = (let f = h.1 in cc) in omega (arith, count_cons t x xs, own_count t x (subst (Matches (word_of t)) e h.2))
some_count t (x ∷ xs) (suc n) h = omega (arith, count_cons t x xs, some_count t xs n h)

at_some : (q : Tree) (docs : List Doc) (n : ℕ) → MatchesAt q docs n → 1 ≤ length docs
at_some q [] n h = let e = h.1 in absurd cc
at_some q (x ∷ xs) n h = omega arith

-- occurs in no accepted document
pub absent_matches : (m : Moment) (s : ℕ) (docs : List Doc) (n : ℕ) (t : Term) → IsMoment m → (IsEntered m s t → ⊥) → IsPrefix docs (accepted_in m s) → MatchesAt (word_of t) docs n → ⊥
absent_matches m s docs n t is away p h =
    let a = are_first m s docs is (at_some (word_of t) docs n h) p in
    away (entered_accepted m s t
    (omega (
      arith,
      some_count t docs n h,
      ap (λ (z : List Doc). count_of t (terms_of z)) (first_are m s docs a),
      ap (count_of t) (terms_more docs a.rest),
      count_of-append t (terms_of docs) (terms_of a.rest),
    )))
