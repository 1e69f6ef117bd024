-- Which moment flat words stand for, from the start and from store to store.
use Rattle.std.proofs.Common.{◌≡◌, ℕ, ◌<◌, ◌≤◌, ◌+◌, List, ◌++◌, take, drop, refl, append_assoc, length-append, length-drop, get_or, set, length, replicate, ap, sym, ◌∙◌, subst, arith}
use Rattle.std.proofs.lemmas.List.{get_or_default, replicate-append-replicate, length-replicate, take_at, take_all}
use Rattle.eb_base.specs.Document.{Doc}
use Rattle.eb_base.specs.Setting.{Setting, IsSetting, words_of}
use Rattle.eb_place.specs.declared.moment.Moment.{Moment}
use Rattle.eb_place.specs.Moments.{word, empty_moment}
use Rattle.eb_place.specs.NextStores.{IsNext, after_store, IsNextPut, after_put}
use Rattle.eb_place.proofs.ImagesOfMoments.{length-image, get_or-image, image_nothing, image_changed}
use Rattle.eb_place.proofs.NextStore.{word_stored, next_in_table, setting_stored}
use Rattle.eb_place.proofs.NextPackedStore.{word_packed, packed_in_table, moment_packed, setting_packed}
use Rattle.eb_place.proofs.AfterStore.{moment_nothing, moment_stored}
use Rattle.eb_flat.specs.Flat.{Flat, StandsFor, IsEmptied}

pub stands_first : (f : Flat) (σ : Setting) → IsSetting σ → f ≡ record { setting = σ; words = replicate (words_of σ) 0 } → StandsFor f (empty_moment σ)
stands_first f σ k e = record { setting = ap (λ (g : Flat). g.setting) (sym e); moment = moment_nothing σ k; image = ap (λ (g : Flat). g.words) e ∙ image_nothing σ }

pub stands_same : (f g : Flat) (m : Moment) → f ≡ g → StandsFor g m → StandsFor f m
stands_same f g m e = subst (λ (x : Flat). StandsFor x m) (sym e)

-- a place below the number of words is one of the list, and has the moment's word
pub place_in_words : (f : Flat) (m : Moment) (p : ℕ) → StandsFor f m → p < words_of m.setting → p < length f.words
place_in_words f m p h b = let l = length-image m in let e = ap length h.image in omega arith

pub word_in_words : (f : Flat) (m : Moment) (p d : ℕ) → StandsFor f m → p < words_of m.setting → get_or f.words p d ≡ word m p
word_in_words f m p d h b = get_or_default f.words p d 0 (place_in_words f m p h b) ∙ ap (λ (l : List ℕ). get_or l p 0) h.image ∙ get_or-image m p b

pub stands_stored : (f : Flat) (m : Moment) (d : Doc) (p v : ℕ) → StandsFor f m → IsNext m d p v → StandsFor record { setting = f.setting; words = set f.words p v } (after_store m d)
stands_stored f m d p v h n = record {
  setting = setting_stored m d ∙ h.setting;
  moment = moment_stored m d p v h.moment n;
  image = ap (λ (l : List ℕ). set l p v) h.image ∙ image_changed m (after_store m d) p v (setting_stored m d) (next_in_table m d p v h.moment n) (λ q. word_stored m d p v q h.moment n);
}

pub stands_put : (f : Flat) (m : Moment) (p v : ℕ) → StandsFor f m → IsNextPut m p v → StandsFor record { setting = f.setting; words = set f.words p v } (after_put m)
stands_put f m p v h n = record {
  setting = setting_packed m ∙ h.setting;
  moment = moment_packed m p v h.moment n;
  image = ap (λ (l : List ℕ). set l p v) h.image ∙ image_changed m (after_put m) p v (setting_packed m) (packed_in_table m p v h.moment n) (λ q. word_packed m p v q n);
}

-- the next stores are of places of the list
pub next_in_words : (f : Flat) (m : Moment) (d : Doc) (p v : ℕ) → StandsFor f m → IsNext m d p v → p < length f.words
next_in_words f m d p v h n = place_in_words f m p h (next_in_table m d p v h.moment n)

pub put_in_words : (f : Flat) (m : Moment) (p v : ℕ) → StandsFor f m → IsNextPut m p v → p < length f.words
put_in_words f m p v h n = place_in_words f m p h (packed_in_table m p v h.moment n)

-- an index begins to be emptied, and has no document where all its words are 0
pub emptied_first : (f : Flat) (m : Moment) → StandsFor f m → IsEmptied f m.setting 0
emptied_first f m h = record { setting = sym h.setting; allowed = h.moment.setting; number = ap length h.image ∙ length-image m; within = omega arith; zeros = refl }

pub emptied_all : (f : Flat) (σ : Setting) (n : ℕ) → n ≡ words_of σ → IsEmptied f σ n → StandsFor f (empty_moment σ)
emptied_all f σ n all e =
    let zeros : f.words ≡ replicate (words_of σ) 0 = sym (take_all n f.words (omega (arith, e.number, all))) ∙ e.zeros ∙ ap (λ n. replicate n 0) all in
    stands_first f σ e.allowed (λ i. record { setting = e.setting i; words = zeros i })

-- further words are 0
pub emptied_next : (f g : Flat) (σ : Setting) (n more : ℕ) → n + more ≤ words_of σ → g.setting ≡ f.setting
    → g.words ≡ take n f.words ++ (replicate more 0 ++ drop (n + more) f.words) → IsEmptied f σ n → IsEmptied g σ (n + more)
emptied_next f g σ n more le s w e =
    let zeros : g.words ≡ replicate (n + more) 0 ++ drop (n + more) f.words = w ∙ ap (λ (z : List ℕ). z ++ (replicate more 0 ++ drop (n + more) f.words)) e.zeros
    ∙ sym (append_assoc (replicate n 0) (replicate more 0) (drop (n + more) f.words))
    ∙ ap (λ (z : List ℕ). z ++ drop (n + more) f.words) (replicate-append-replicate n more 0) in
    record {
      setting = s ∙ e.setting;
      allowed = e.allowed;
      number = ap length zeros ∙ length-append (replicate (n + more) 0) (drop (n + more) f.words) ∙ omega (arith, length-replicate {A = ℕ} (n + more) 0, length-drop (n + more) f.words, e.number);
      within = le;
      zeros = ap (take (n + more)) zeros ∙ take_at (replicate (n + more) 0) (drop (n + more) f.words) (n + more) (length-replicate {A = ℕ} (n + more) 0);
    }
