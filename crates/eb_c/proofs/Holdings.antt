-- What an index that holds documents is known by.
use Rattle.std.proofs.Common.{◌≡◌, ℕ, suc, ◌-◌, List, [], ◌∷◌, length, get_or, refl, ap, ◌∙◌, subst, arith}
use Rattle.eb_base.specs.Document.{Doc}
use Rattle.eb_base.specs.Setting.{IsSetting, words_of}
use Rattle.eb_place.specs.Postings.{terms_of}
use Rattle.eb_place.specs.Room.{cut, last_of}
use Rattle.eb_place.proofs.ImagesOfMoments.{length-image}
use Rattle.eb_writer.specs.Counting.{tokens_in, IsUsedBy}
use Rattle.eb_writer.proofs.Idle.{told_used, idle_entered, idle_tokens}
use Rattle.eb_c.specs.declared.index.Index.{Index}
use Rattle.eb_c.specs.Holding.{setting_of, used_of, IsBegunIndex, Holds}

-- it was begun
pub begun_of : (i : Index) (words : List ℕ) (docs : List Doc) → Holds i words docs → IsBegunIndex i (length words)
begun_of i words docs h = record {
  mark = h.mark;
  setting = subst IsSetting h.image.setting h.image.moment.setting;
  size = ap length h.image.image ∙ length-image h.moment ∙ ap words_of h.image.setting;
}

pub last_get : (segs : List (List Doc)) → get_or segs (length segs - 1) [] ≡ last_of segs
last_get [] = refl
last_get (s ∷ []) = refl
last_get (s ∷ r ∷ rs) = let e : length (s ∷ r ∷ rs) - 1 ≡ suc (length (r ∷ rs) - 1) = omega arith in rw e (last_get (r ∷ rs))

-- its placer goes on after the last segment
pub last_is : (i : Index) (words : List ℕ) (docs : List Doc) (h : Holds i words docs) → get_or (cut h.moment.setting h.moment.documents.accepted) (i.begun - 1) [] ≡ last_of (cut (setting_of i) docs)
last_is i words docs h =
    ap (λ n. get_or (cut h.moment.setting h.moment.documents.accepted) (n - 1) []) h.placer.segments ∙ last_get (cut h.moment.setting h.moment.documents.accepted)
    ∙ (λ t. last_of (cut (h.image.setting t) (h.accepted t)))

pub last_used : (i : Index) (words : List ℕ) (docs : List Doc) → Holds i words docs → IsUsedBy (used_of i.last) (terms_of (last_of (cut (setting_of i) docs)))
last_used i words docs h =
    let s = i.begun - 1 in
    let entered = idle_entered h.moment s h.image.moment h.placer.idle in
    let tokens = idle_tokens h.moment s h.image.moment h.placer.idle in
    let used : IsUsedBy (used_of i.last) (tokens_in h.moment s) = told_used h.moment s (used_of i.last) (tokens_in h.moment s) entered tokens h.placer.used in
    subst (λ (seg : List Doc). IsUsedBy (used_of i.last) (terms_of seg)) (last_is i words docs h) used
