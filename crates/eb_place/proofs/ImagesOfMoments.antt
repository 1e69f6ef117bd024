-- The image of a moment: its words, one by one, and after a store.
use Rattle.std.proofs.Common.{◌≡◌, ℕ, ◌<◌, Bool, cond, List, length, get_or, set, replicate, ap, sym, ◌∙◌, subst, arith, length-set, get_or-set_same, ne_eqb, eq-eqb}
use Rattle.std.proofs.lemmas.List.{ext_get_or, get_or-set_other, length-replicate, get_or-replicate}
use Rattle.std.proofs.lemmas.List.FromFn.{length-map-range_with_len, get_or-map-range_with_len}
use native.Mathlib.Decide.{ℕ_discrete}
use Rattle.eb_base.specs.Setting.{Setting, words_of}
use Rattle.eb_place.specs.declared.moment.Moment.{Moment}
use Rattle.eb_place.specs.Moments.{word, image, empty_moment}
use Rattle.eb_place.specs.Laws.{ChangesOneWord}
use Rattle.eb_place.proofs.AfterStore.{word_nothing}

-- the image has all words
pub length-image : (m : Moment) → length (image m) ≡ words_of m.setting
unfolding image
length-image m = length-map-range_with_len (word m) 0 (words_of m.setting)

-- each at its place
pub get_or-image : (m : Moment) (p : ℕ) → p < words_of m.setting → get_or (image m) p 0 ≡ word m p
unfolding image
get_or-image m p h = get_or-map-range_with_len (word m) 0 (words_of m.setting) p p 0 h (omega arith)

-- a list of these words is the image
pub image_from : (words : List ℕ) (m : Moment) → length words ≡ words_of m.setting → ((p : ℕ) → p < words_of m.setting → get_or words p 0 ≡ word m p) → words ≡ image m
image_from words m l h = ext_get_or 0 words (image m) (l ∙ sym (length-image m)) (λ p b. let i : p < words_of m.setting = omega arith in h p i ∙ sym (get_or-image m p i))

-- all words are 0 where there is no document
pub image_nothing : (σ : Setting) → replicate (words_of σ) 0 ≡ image (empty_moment σ)
image_nothing σ = image_from _ (empty_moment σ) (length-replicate {A = ℕ} (words_of σ) 0) (λ p h. get_or-replicate (words_of σ) p 0 0 h ∙ sym (word_nothing σ p))

-- one word changes in the image where it changes in the moment
pub image_changed : (m n : Moment) (at value : ℕ) → n.setting ≡ m.setting → at < words_of m.setting → ChangesOneWord m n at value → set (image m) at value ≡ image n
image_changed m n at value s h c =
    let l = length-image m in
    image_from (set (image m) at value) n (length-set (image m) at value ∙ l ∙ sym (ap words_of s)) (λ p b. elim (ℕ_discrete at p) [
      | yes e ↦ ap (λ (j : ℕ). get_or (set (image m) at value) j 0) (sym e)
          ∙ (get_or-set_same (image m) at value 0 (omega arith) ∙ sym (c p ∙ ap (λ (t : Bool). cond t value (word m p)) (eq-eqb at p e)))
      | no o ↦ get_or-set_other (image m) at p value 0 (λ e. o (sym e))
          ∙ (get_or-image m p (subst (λ (z : Setting). p < words_of z) s b) ∙ sym (c p ∙ ap (λ (t : Bool). cond t value (word m p)) (ne_eqb at p o)))
    ])
