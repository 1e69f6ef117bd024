-- How many tails of a segment are stored.
use Rattle.std.proofs.Common.{◌≡◌, ℕ, suc, ◌+◌, ◌-◌, ◌≤◌, ◌==◌, ◌&&◌, false, List, [], ◌∷◌, ◌++◌, get_or, count_by}
use Rattle.std.proofs.Common.{length, take, filter, refl, ap, sym, ◌∙◌, arith, append-nil, append_assoc, nat_le}
use Rattle.std.proofs.lemmas.List.{take-append-le}
use Rattle.std.proofs.lemmas.List.Elements.{filter-append}
use Rattle.std.proofs.lemmas.List.Sums.{length-filter}
use Rattle.eb_base.specs.Term.{Term}
use Rattle.eb_base.specs.Setting.{Setting}
use Rattle.eb_place.specs.declared.moment.Moment.{Moment}
use Rattle.eb_place.specs.Layout.Region.{first_region, tail_region, id_region}
use Rattle.eb_place.specs.Postings.{count_of, number_of, distinct, terms_of}
use Rattle.eb_place.specs.Room.{cut}
use Rattle.eb_place.specs.Address.{pool_at, begins, address_of}
use Rattle.eb_place.specs.Placing.{Store}
use Rattle.eb_place.specs.Moments.{document_stores, with_current}
use Rattle.eb_place.specs.Later.{IsNotBefore}
use Rattle.eb_place.specs.Seen.{segment, is_in, stores_in_region, tokens_seen}
use Rattle.eb_place.proofs.FreshPoolWords.{Each, Each-append, Each-if}
use Rattle.eb_place.proofs.FreshPoolWords.Each.{none, more}
use Rattle.eb_place.proofs.WordsOfTokens.{front_stores, tail_store, token_split}
use Rattle.eb_place.proofs.WordsOfHistories.{terms_more}
use Rattle.eb_place.proofs.Prefixes.{prefix_length}
use Rattle.eb_place.proofs.ReachedLater.{later_segment}
use Rattle.eb_place.proofs.RegionStores.{Picks, filter_none, picks_done}
use Rattle.eb_place.proofs.EntryStores.{in_region, not_in, elsewhere_in}
use Rattle.eb_place.proofs.RegionCounts.{tail_pool, enter_no_tail}

-- the stores of the tails of further tokens, one after the other
unfoldable pub tail_stores : ℕ → List Term → List Term → List Store
tail_stores s before [] = []
tail_stores s before (u ∷ us) = tail_store s before u ∷ tail_stores s (before ++ u ∷ []) us

tail_stores_push : (s : ℕ) (before ts : List Term) (u : Term) → tail_stores s before (ts ++ u ∷ []) ≡ tail_stores s before ts ++ tail_store s (before ++ ts) u ∷ []
unfolding tail_stores
tail_stores_push s before [] u = ap (λ z. tail_store s z u ∷ []) (sym (append-nil before))
tail_stores_push s before (v ∷ ts) u =
    ap (λ z. tail_store s before v ∷ z) (tail_stores_push s (before ++ v ∷ []) ts u ∙ ap (λ z. tail_stores s (before ++ v ∷ []) ts ++ tail_store s z u ∷ []) (append_assoc before (v ∷ []) ts))

length-tail_stores : (s : ℕ) (before ts : List Term) → length (tail_stores s before ts) ≡ length ts
unfolding tail_stores
length-tail_stores s before [] = refl
length-tail_stores s before (u ∷ us) = ap suc (length-tail_stores s (before ++ u ∷ []) us)

-- ---- the test

front_not_tail : (σ : Setting) (s : ℕ) (ts : List Term) (u : Term) (x : ℕ) → Each (λ (y : Store). is_in s tail_region y ≡ false) (front_stores σ s ts u x)
front_not_tail σ s ts u x =
    Each-append (Each-if (count_of u ts == 0) (λ z. enter_no_tail σ s (distinct ts) u))
    (Each-append (Each-if (begins (count_of u ts) && nat_le 1 (pool_at (count_of u ts))) (λ z. more (tail_pool s s (address_of u (count_of u ts) ts - 1) (address_of u (count_of u ts - 1) ts)) none))
    (more (tail_pool s s (address_of u (count_of u ts) ts) x) none))

-- the tails among the stores of the tokens of a segment
pub tails_picked : (σ : Setting) (s : ℕ) → Picks σ s (is_in s tail_region) (tail_stores s [])
unfolding tail_stores
tails_picked σ s = record {
  nothing = refl;
  token = λ ts u x.
      (let p = is_in s tail_region in
      let kept : filter p (tail_store s ts u ∷ []) ≡ tail_store s ts u ∷ [] = rw (in_region s tail_region (number_of u ts) (address_of u (count_of u ts) ts + 1)) refl in
      tail_stores_push s [] ts u
      ∙ ap (λ z. tail_stores s [] ts ++ z) (sym (ap (filter p) (token_split σ s ts u x) ∙ filter-append p (front_stores σ s ts u x) (tail_store s ts u ∷ [])
      ∙ ap (λ z. z ++ filter p (tail_store s ts u ∷ [])) (filter_none p (front_stores σ s ts u x) (front_not_tail σ s ts u x)) ∙ kept)));
  first = λ v. not_in s s tail_region first_region 0 v refl;
  id = λ i v. not_in s s tail_region id_region i v refl;
  count = λ v. refl;
  elsewhere = λ y h. elsewhere_in s tail_region y h;
}

-- no more tails are stored than there are tokens
pub tails_few : (m : Moment) (s : ℕ) → stores_in_region m s tail_region ≤ length (terms_of (segment m s))
unfolding stores_in_region
tails_few m s =
    let p = picks_done m s (is_in s tail_region) (tail_stores s []) (tails_picked m.setting s) in
    omega (
      arith,
      prefix_length (filter (is_in s tail_region) (document_stores m.setting m.documents)) (tail_stores s [] (terms_of (segment m s))) p,
      length-tail_stores s [] (terms_of (segment m s)),
      length-filter (is_in s tail_region) (document_stores m.setting m.documents),
    )

-- where no tail is stored between two moments, the same tokens are seen
pub tokens_same : (m n : Moment) (s : ℕ) → IsNotBefore n m → stores_in_region n s tail_region ≡ stores_in_region m s tail_region → tokens_seen n s ≡ tokens_seen m s
unfolding tokens_seen
tokens_same m n s l e =
    let p = later_segment m n s l in
    ap (λ k. take k (terms_of (segment n s))) e
    ∙ ap (λ z. take (stores_in_region m s tail_region) (terms_of z)) (sym p.1)
    ∙ ap (take (stores_in_region m s tail_region)) (terms_more (segment m s) p.0)
    ∙ take-append-le (stores_in_region m s tail_region) (terms_of (segment m s)) (terms_of p.0) (tails_few m s)

-- which tokens are seen goes by the setting and the documents part alone
pub tokens_by : (m n : Moment) (s : ℕ) → n.setting ≡ m.setting → n.documents ≡ m.documents → tokens_seen n s ≡ tokens_seen m s
unfolding tokens_seen stores_in_region
tokens_by m n s e f i = take (count_by (is_in s tail_region) (document_stores (e i) (f i))) (terms_of (get_or (cut (e i) (with_current (f i))) s []))
