-- Reached words stay: where a walk from a tail reaches a word, its value is the same at every later
-- moment.
use Rattle.std.proofs.Common.{◌≡◌, ℕ, suc, ◌-◌, ◌<◌, get_or, ap, sym, ◌∙◌, subst, arith}
use Rattle.std.proofs.lemmas.List.{get_or_append_left}
use Rattle.eb_base.specs.Term.{Term}
use Rattle.eb_base.specs.Setting.{Setting}
use Rattle.eb_place.specs.declared.moment.Moment.{Moment}
use Rattle.eb_place.specs.Layout.{pool_slot, place}
use Rattle.eb_place.specs.Postings.{postings}
use Rattle.eb_place.specs.Moments.{IsMoment, word}
use Rattle.eb_place.specs.Later.{IsNotBefore}
use Rattle.eb_place.specs.Seen.{segment, seen_count}
use Rattle.eb_place.specs.Walk.{IsAddress, IsLink, posting_in}
use Rattle.eb_place.proofs.WordsOfHistories.{postings_more}
use Rattle.eb_place.proofs.ReaderWords.{word_posting, word_link, reached_few}
use Rattle.eb_place.proofs.ReachedLater.{later_reached, later_address, later_segment}

-- a seen posting is the same later
pub later_posting : (m n : Moment) (s : ℕ) (t : Term) (f : ℕ) → IsNotBefore n m → f < seen_count m s t → posting_in n s t f ≡ posting_in m s t f
later_posting m n s t f l r = let p = later_segment m n s l in let q = postings_more t (segment m s) p.0 in
    ap (λ z. get_or (postings t z) f 0) (sym p.1) ∙ ap (λ z. get_or z f 0) q.1 ∙ get_or_append_left (postings t (segment m s)) q.0 0 f (omega (arith, reached_few m s t))

-- so is its address
pub address_later : (m n : Moment) (s : ℕ) (t : Term) (f a : ℕ) → IsMoment m → IsNotBefore n m → IsAddress m s t f a → IsAddress n s t f a
address_later m n s t f a is l h = let r = h.reached in let more = later_reached m n s t l in
    record { inside = subst (λ σ. s < σ.segments) l.setting h.inside; reached = omega arith; is = h.is ∙ sym (later_address m n s t f is l h.inside h.reached) }

-- and its link
pub link_later : (m n : Moment) (s : ℕ) (t : Term) (f a : ℕ) → IsMoment m → IsNotBefore n m → IsLink m s t f a → IsLink n s t f a
link_later m n s t f a is l h = let r = h.reached in let more = later_reached m n s t l in
    record {
      inside = subst (λ σ. s < σ.segments) l.setting h.inside;
      reached = omega arith;
      begins = h.begins;
      linked = h.linked;
      is = h.is ∙ ap (λ x. x - 1) (sym (later_address m n s t (suc f) is l h.inside h.reached));
    }

-- the word of a reached posting
pub posting_stays : (m n : Moment) (s : ℕ) (t : Term) (f a : ℕ) → IsMoment m → IsMoment n → IsNotBefore n m
    → IsAddress m s t f a → word n (place m.setting (pool_slot s a)) ≡ word m (place m.setting (pool_slot s a))
posting_stays m n s t f a is js l h =
    ap (λ (σ : Setting). word n (place σ (pool_slot s a))) l.setting ∙ word_posting n s t f a js (address_later m n s t f a is l h)
    ∙ later_posting m n s t f l h.reached ∙ sym (word_posting m s t f a is h)

-- the word of a link
pub link_stays : (m n : Moment) (s : ℕ) (t : Term) (f a : ℕ) → IsMoment m → IsMoment n → IsNotBefore n m
    → IsLink m s t f a → word n (place m.setting (pool_slot s a)) ≡ word m (place m.setting (pool_slot s a))
link_stays m n s t f a is js l h =
    let r = h.reached in
    ap (λ (σ : Setting). word n (place σ (pool_slot s a))) l.setting ∙ word_link n s t f a js (link_later m n s t f a is l h)
    ∙ later_address m n s t f is l h.inside (omega arith) ∙ sym (word_link m s t f a is h)
