-- Closed forms of the words that a reader meets, at any moment.
use Rattle.std.proofs.Common.{◌≡◌, ℕ, zero, suc, ◌+◌, ◌-◌, ◌*◌, ◌/◌, ◌%◌, ◌^◌, ◌<◌, ◌≤◌, true, List, [], ◌∷◌, length}
use Rattle.std.proofs.Common.{take, min, get_or, filter, map, refl, ap, sym, ◌∙◌, subst, arith, inl, inr, bytes_eq, lit<}
use Rattle.std.proofs.lemmas.Bool.{cases_Bool, cases_lt, false≢true}
use Rattle.std.proofs.lemmas.List.{length-take, take_min}
use Rattle.eb_base.specs.Term.{Term}
use Rattle.eb_base.specs.Document.{Doc, IsDocument}
use Rattle.eb_place.specs.declared.moment.Moment.{Moment}
use Rattle.eb_place.specs.Layout.{Slot, pool_slot, pool_region, place, slice_bits, IsInPool}
use Rattle.eb_base.specs.Setting.{Setting}
use Rattle.eb_place.specs.Layout.Slot.{slot}
use Rattle.eb_place.specs.Layout.Region.{tail_region}
use Rattle.eb_place.specs.Postings.{Token, count_of, distinct, number_of, tokens_from, segment_from, tokens, postings, terms_of, position_bits, posting_bits, places}
use Rattle.eb_place.specs.Address.{pool_at, offset_at, slice_start, slices_begun, front_of, address_of}
use Rattle.eb_place.specs.Moments.{with_current, document_stores, conversion_stores, word, IsMoment}
use Rattle.eb_place.specs.Seen.{segment, tails_done, seen, seen_count}
use Rattle.eb_place.specs.Walk.{address_in, posting_in, IsAddress, IsLink, IsTerm, tail_value}
use Rattle.eb_place.proofs.TermCounts.{count_of-append}
use Rattle.eb_place.proofs.AddressesDiffer.{address_stays, slice_in}
use Rattle.eb_place.proofs.EnoughPackedWords.{length-postings}
use Rattle.eb_place.proofs.PlacesOfSlots.{InTable}
use Rattle.eb_place.proofs.FreshPoolWords.{address_low, Each, Each-append}
use Rattle.eb_place.proofs.FreshPoolWords.Each.{none, more}
use Rattle.eb_place.proofs.StoresWithinTable.{slices_fit, address_within, link_within}
use Rattle.eb_place.proofs.TermNumbersStay.{number_stays, number_low, number_high}
use Rattle.eb_place.proofs.WordsOfTokens.{val, times, val_keeps, tail_within, Each-map}
use Rattle.eb_place.proofs.WordsAtMoment.{placed_all, Words, words}
use Rattle.eb_place.proofs.PackedStores.{is_packed, IsPackedStore, all_packed}

-- the words of a segment at a moment, in closed form
pub moment_words : (m : Moment) (s : ℕ) → IsMoment m → s < m.setting.segments → Words m.setting m.documents s
moment_words m s is h = words m.setting m.documents.accepted m.documents.current s is.setting is.lawful h

-- ---- conversions store to no word of the writer

packed_pool : (s a : ℕ) → is_packed (pool_slot s a) ≡ true → ⊥
unfolding pool_slot is_packed
packed_pool s a h = not_region s (a % 2 ^ 30) (a / 2 ^ 30) h
  where
    not_region : (s i p : ℕ) → is_packed (slot s (pool_region p) i) ≡ true → ⊥
    not_region s i zero h = false≢true h
    not_region s i (suc zero) h = false≢true h
    not_region s i (suc (suc zero)) h = false≢true h
    not_region s i (suc (suc (suc p))) h = false≢true h

-- a tail is none of the converter's words
pub packed_tail : (s k : ℕ) → is_packed (slot s tail_region k) ≡ true → ⊥
unfolding is_packed
packed_tail s k h = false≢true h

-- the stores of the conversions of a moment are packed stores of its setting
pub moment_packs : (m : Moment) → IsMoment m → Each (IsPackedStore m.setting) (conversion_stores m.setting (with_current m.documents) m.conversions)
moment_packs m is =
    let p = placed_all m.setting (with_current m.documents) is.setting is.lawful in
    let short = p.short in
    all_packed m.setting (with_current m.documents) m.conversions
    (λ s l. let c = is.closed s l in p.room s (omega arith))
    (λ l. let c = (is.packs l).0 in p.room m.conversions.converted (omega arith))

-- the word of a slot of the writer
pub word_of_writer : (m : Moment) (x : Slot) → IsMoment m → InTable m.setting x → (is_packed x ≡ true → ⊥) → word m (place m.setting x) ≡ val m.setting (document_stores m.setting m.documents) x
unfolding word
word_of_writer m x is h away =
    let all = moment_packs m is in
    val_keeps m.setting (document_stores m.setting m.documents) (conversion_stores m.setting (with_current m.documents) m.conversions) x h
    (Each-map (λ y q. q.within) all) (Each-map (λ y q e. away (subst (λ z. is_packed z ≡ true) e q.packed)) all)

-- ---- how many are reached

-- how many postings of a term are seen: its tokens whose stores are done
pub reached_is : (m : Moment) (s : ℕ) (t : Term) (is : IsMoment m) (h : s < m.setting.segments) → seen_count m s t ≡ count_of t (moment_words m s is h).stored
unfolding seen_count tails_done
reached_is m s t is h =
    let w = moment_words m s is h in
    let L = document_stores m.setting m.documents in
    let seg = segment m s in
    let ts = terms_of seg in
    let n = length-postings t seg in
    let a : count_of t ts ≡ count_of t w.stored + count_of t w.left = ap (count_of t) w.all ∙ count_of-append t w.stored w.left in
    let c : reached_by m s t ≡ min (times m.setting L (slot s tail_region (number_of t ts))) (length (postings t seg)) =
    length-take (times m.setting L (slot s tail_region (number_of t ts))) (postings t seg) in
    let fits = w.room.fits in
    let few = fits.few in
    elim (cases_lt 0 (count_of t w.stored)) [
      | inl some ↦
          let k : number_of t ts ≡ number_of t w.stored = ap (number_of t) w.all ∙ number_stays t w.stored w.left some in
          let d = ap (λ j. times m.setting L (slot s tail_region j)) k ∙ w.reached.done t some in
          omega arith
      | inr z ↦ elim (cases_lt 0 (count_of t ts)) [
        | inl there ↦
            let low = number_low t ts there in
            let high : length (distinct w.stored) ≤ number_of t ts = omega (arith, number_high t w.stored w.left (omega arith), ap (number_of t) w.all) in
            let d = w.reached.idle (number_of t ts) high (omega arith) in
            omega arith
        | inr nowhere ↦ omega arith
      ]
    ]
  where
    reached_by : Moment → ℕ → Term → ℕ
    reached_by m s t = length (take (times m.setting (document_stores m.setting m.documents) (slot s tail_region (number_of t (terms_of (segment m s))))) (postings t (segment m s)))

-- what is seen is the prefix of that length
pub seen_is : (m : Moment) (s : ℕ) (t : Term) → seen m s t ≡ take (seen_count m s t) (postings t (segment m s))
unfolding seen_count
seen_is m s t = sym (ap (λ k. take k (postings t (segment m s))) (length-take (tails_done m s t) (postings t (segment m s))) ∙ take_min (tails_done m s t) (postings t (segment m s)))

-- no more are seen than there are
pub reached_few : (m : Moment) (s : ℕ) (t : Term) → seen_count m s t ≤ length (postings t (segment m s))
unfolding seen_count
reached_few m s t = omega (arith, length-take (tails_done m s t) (postings t (segment m s)))

-- the address, and the same where only the stored tokens count
address_stored : (m : Moment) (s : ℕ) (t : Term) (f : ℕ) (w : Words m.setting m.documents s) → f < count_of t w.stored → address_in m s t f ≡ address_of t f w.stored
address_stored m s t f w h = ap (address_of t f) w.all ∙ address_stays t f w.stored w.left h

-- the tokens of a segment are those whose stores are done and the others
pub all_stored : (m : Moment) (s : ℕ) (t : Term) (w : Words m.setting m.documents s) → count_of t (terms_of (segment m s)) ≡ count_of t w.stored + count_of t w.left
all_stored m s t w = ap (count_of t) w.all ∙ count_of-append t w.stored w.left

-- ---- the closed forms

address_slot : (m : Moment) (s : ℕ) (t : Term) (f a : ℕ) → IsMoment m → IsAddress m s t f a → InTable m.setting (pool_slot s a)
address_slot m s t f a is h =
    let w = moment_words m s is h.inside in
    let r = reached_is m s t is h.inside in
    let l = h.reached in
    let n = all_stored m s t w in
    subst (λ z. InTable m.setting (pool_slot s z)) (sym h.is) (address_within m.setting s (terms_of (segment m s)) t f h.inside w.room.small w.room.fits (omega arith))

link_slot : (m : Moment) (s : ℕ) (t : Term) (f a : ℕ) → IsMoment m → IsLink m s t f a → InTable m.setting (pool_slot s a)
link_slot m s t f a is h =
    let w = moment_words m s is h.inside in
    let r = reached_is m s t is h.inside in
    let l = h.reached in
    let n = all_stored m s t w in
    subst (λ z. InTable m.setting (pool_slot s z)) (sym h.is) (link_within m.setting s (terms_of (segment m s)) t (suc f) h.inside w.room.small w.room.fits (omega arith) h.begins h.linked)

-- at the address of a reached posting: that posting
pub word_posting : (m : Moment) (s : ℕ) (t : Term) (f a : ℕ) → IsMoment m → IsAddress m s t f a → word m (place m.setting (pool_slot s a)) ≡ posting_in m s t f
word_posting m s t f a is h =
    let w = moment_words m s is h.inside in
    let r = reached_is m s t is h.inside in
    let l = h.reached in
    let low : f < count_of t w.stored = omega arith in
    word_of_writer m (pool_slot s a) is (address_slot m s t f a is h) (packed_pool s a)
    ∙ ap (λ z. val m.setting (document_stores m.setting m.documents) (pool_slot s z)) (h.is ∙ address_stored m s t f w low)
    ∙ w.reached.post t f low

-- at a link: the address of the last posting of the earlier slice
pub word_link : (m : Moment) (s : ℕ) (t : Term) (f a : ℕ) → IsMoment m → IsLink m s t f a → word m (place m.setting (pool_slot s a)) ≡ address_in m s t f
word_link m s t f a is h =
    let w = moment_words m s is h.inside in
    let r = reached_is m s t is h.inside in
    let l = h.reached in
    let low : suc f < count_of t w.stored = omega arith in
    word_of_writer m (pool_slot s a) is (link_slot m s t f a is h) (packed_pool s a)
    ∙ ap (λ z. val m.setting (document_stores m.setting m.documents) (pool_slot s z)) (h.is ∙ ap (λ z. z - 1) (address_stored m s t (suc f) w low))
    ∙ w.reached.link t (suc f) low h.begins h.linked
    ∙ ap (λ k. address_of t k w.stored) (let e : suc f - 1 ≡ f = omega arith in e)
    ∙ sym (address_stored m s t f w (omega arith))

-- a term's tail is a word of the index
pub tail_in_table : (m : Moment) (s : ℕ) (t : Term) (k : ℕ) → IsMoment m → IsTerm m s t k → (k < m.setting.terms) × InTable m.setting (slot s tail_region k)
tail_in_table m s t k is h =
    let w = moment_words m s is h.inside in
    let fits = w.room.fits in
    let few = fits.few in
    let low : k < m.setting.terms = omega (arith, h.number, number_low t (terms_of (segment m s)) h.there) in
    (low, tail_within m.setting s k h.inside low)

-- at a tail: 0, or the address of the last reached posting plus 1
pub word_tail : (m : Moment) (s : ℕ) (t : Term) (k : ℕ) → IsMoment m → IsTerm m s t k → word m (place m.setting (slot s tail_region k)) ≡ tail_value m s t (seen_count m s t)
word_tail m s t k is h =
    let L = document_stores m.setting m.documents in
    let i = tail_in_table m s t k is h in
    word_of_writer m (slot s tail_region k) is i.1 (packed_tail s k) ∙ go (count_of t (moment_words m s is h.inside).stored) refl ∙ ap (tail_value m s t) (sym (reached_is m s t is h.inside))
  where
    go : (n : ℕ) → count_of t (moment_words m s is h.inside).stored ≡ n → val m.setting (document_stores m.setting m.documents) (slot s tail_region k) ≡ tail_value m s t n
    go zero z =
        let w = moment_words m s is h.inside in
        let high = number_high t w.stored w.left z in
        w.reached.bare k (omega (arith, h.number, ap (number_of t) w.all)) (tail_in_table m s t k is h).0
    go (suc f) e =
        let w = moment_words m s is h.inside in
        let some : 1 ≤ count_of t w.stored = omega arith in
        let j : k ≡ number_of t w.stored = h.number ∙ ap (number_of t) w.all ∙ number_stays t w.stored w.left some in
        ap (λ z. val m.setting (document_stores m.setting m.documents) (slot s tail_region z)) j ∙ w.reached.tail t some
        ∙ ap (λ z. address_of t z w.stored + 1) (let q : count_of t w.stored - 1 ≡ f = omega arith in q)
        ∙ ap (λ z. z + 1) (sym (address_stored m s t f w (omega arith)))

-- a word of a pool is named by an address in it
in_pool : (σ : Setting) (s a : ℕ) → InTable σ (pool_slot s a) → IsInPool σ a
unfolding pool_slot
in_pool σ s a h = h.1

-- the address of a seen posting lies in its pool
pub address_in_pool : (m : Moment) (s : ℕ) (t : Term) (f a : ℕ) → IsMoment m → IsAddress m s t f a → IsInPool m.setting a
address_in_pool m s t f a is h = in_pool m.setting s a (address_slot m s t f a is h)

-- and so does that of its link
pub link_in_pool : (m : Moment) (s : ℕ) (t : Term) (f a : ℕ) → IsMoment m → IsLink m s t f a → IsInPool m.setting a
link_in_pool m s t f a is h = in_pool m.setting s a (link_slot m s t f a is h)

-- the fields of an address
pub record Parts (f a : ℕ) : Type 0 where
  pub slice : ℕ
  pub is : a ≡ pool_at f * 2 ^ 30 + slice * 2 ^ slice_bits (pool_at f) + offset_at f
  pub inside : slice * 2 ^ slice_bits (pool_at f) + offset_at f < 2 ^ 30

-- those of the address of a posting
pub parts_of : (t : Term) (f : ℕ) (ts : List Term) → slices_begun (pool_at f) (front_of t (slice_start f) ts) * 2 ^ slice_bits (pool_at f) + offset_at f < 2 ^ 30 → Parts f (address_of t f ts)
unfolding address_of
parts_of t f ts h = record { slice = slices_begun (pool_at f) (front_of t (slice_start f) ts); is = refl; inside = h }

-- the pool and the offset of a seen posting can be read from its address
pub address_parts : (m : Moment) (s : ℕ) (t : Term) (f : ℕ) → IsMoment m → s < m.setting.segments → f < seen_count m s t → Parts f (address_in m s t f)
unfolding address_of
address_parts m s t f is h l =
    let w = moment_words m s is h in
    let r = reached_is m s t is h in
    let n = all_stored m s t w in
    let ts = terms_of (segment m s) in
    record { slice = slices_begun (pool_at f) (front_of t (slice_start f) ts); is = refl; inside = slice_in t f ts (omega arith) (slices_fit m.setting ts w.room.small w.room.fits) }

-- an address has 32 bits
pub address_small : (m : Moment) (s : ℕ) (t : Term) (f : ℕ) → IsMoment m → s < m.setting.segments → f < seen_count m s t → address_in m s t f < 2 ^ 32
address_small m s t f is h l =
    let w = moment_words m s is h in
    let r = reached_is m s t is h in
    let n = all_stored m s t w in
    let ts = terms_of (segment m s) in
    address_low t f ts (omega arith) (slices_fit m.setting ts w.room.small w.room.fits)

-- ---- postings are small

small_from : (n p : ℕ) (ts : List Term) → n < 2 ^ (posting_bits - position_bits) → p + length ts ≤ places → Each (λ (w : Token). w.posting < 2 ^ posting_bits) (tokens_from n p ts)
small_from n p [] h l = none
small_from n p (t ∷ ts) h l = more (omega arith) (small_from n (p + 1) ts h (omega arith))

small_segment : (n : ℕ) (seg : List Doc) → Each IsDocument seg → n + length seg ≤ 2 ^ (posting_bits - position_bits) → Each (λ (w : Token). w.posting < 2 ^ posting_bits) (segment_from n seg)
small_segment n [] h l = none
small_segment n (d ∷ ds) (more i h) l = let few = i.limits.tokens in Each-append (small_from n 0 d.terms (omega arith) (omega arith)) (small_segment (n + 1) ds h (omega arith))

small_list : (t : Term) (ws : List Token) (f : ℕ) → Each (λ (w : Token). w.posting < 2 ^ posting_bits) ws
    → get_or (map (λ (w : Token). w.posting) (filter (λ (w : Token). bytes_eq t w.term) ws)) f 0 < 2 ^ posting_bits
small_list t [] zero h = lit< tt
small_list t [] (suc f) h = lit< tt
small_list t (w ∷ ws) f (more i h) = elim (cases_Bool (bytes_eq t w.term)) [
  | inl here ↦ rw here (head f (λ k. small_list t ws k h))
  | inr away ↦ rw away (small_list t ws f h)
]
  where
    head : (f : ℕ) → ((k : ℕ) → get_or (map (λ (w : Token). w.posting) (filter (λ (w : Token). bytes_eq t w.term) ws)) k 0 < 2 ^ posting_bits)
        → get_or (w.posting ∷ map (λ (w : Token). w.posting) (filter (λ (w : Token). bytes_eq t w.term) ws)) f 0 < 2 ^ posting_bits
    head zero rest = i
    head (suc f) rest = rest f

-- a posting has this many bits
pub posting_small : (m : Moment) (s : ℕ) (t : Term) (f : ℕ) → IsMoment m → posting_in m s t f < 2 ^ posting_bits
unfolding postings tokens
posting_small m s t f is =
    let p = placed_all m.setting (with_current m.documents) is.setting is.lawful in
    let few = p.few s in
    let docs = is.setting.docs in
    small_list t (segment_from 0 (segment m s)) f (small_segment 0 (segment m s) (p.limits s) (omega arith))
