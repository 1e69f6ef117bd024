-- What seats know of the history.
use Rattle.std.proofs.Common.{◌≡◌, ℕ, Bool, ◌+◌, ◌<◌, ◌≤◌, ⊎_elim, List, length, take, drop, Option, None, Some, append-nil, ap, sym, ◌∙◌, subst, arith}
use Rattle.std.proofs.lemmas.List.{take-append-drop, take-append-le, length-take-le, length-take}
use mathlib.Core.List.{IsPrefix}
use Rattle.eb_base.specs.Document.{Doc}
use Rattle.eb_base.specs.Match.{answer}
use Rattle.eb_base.specs.Query.{Tree}
use Rattle.eb_base.specs.Setting.{Setting}
use Rattle.eb_place.specs.declared.moment.Conversions.{Conversions}
use Rattle.eb_place.specs.declared.moment.Moment.{Moment}
use Rattle.eb_place.specs.Room.{cut}
use Rattle.eb_place.specs.Moments.{with_current, IsMoment}
use Rattle.eb_place.specs.Later.{ReachesPacked, IsNotBefore}
use Rattle.eb_place.proofs.Prefixes.{prefix_length, prefix_shorter, prefix_whole}
use Rattle.eb_place.proofs.LaterMoments.{later_on}
use Rattle.eb_count.specs.Tallies.{Numbers, HasCounted}
use Rattle.eb_search.specs.Counted.{CountedOn, CountedLikely}
use Rattle.eb_search.specs.Searched.{Searched, SearchedLikely}
use Rattle.eb_search.specs.Visible.{AreNone}
use Rattle.eb_search.proofs.Bounded.{front_is}
use Rattle.eb_table.specs.Known.{Known}
use Rattle.eb_writer.specs.Progress.{PlacerProgress, PlacerStands}
use Rattle.eb_writer.proofs.Adding.{stands_same}
use Rattle.eb_engine.specs.Tokens.{first_of, AreClosed}

-- what is known is the prefix of what is accepted
pub front_of : (n : ℕ) (docs : List Doc) → IsPrefix (take n docs) docs
front_of n docs = (drop n docs, take-append-drop n docs)

-- the first documents are the same at a later moment
first_later : (xs ys : List Doc) (n : ℕ) → n ≤ length xs → IsPrefix xs ys → take n ys ≡ take n xs
first_later xs ys n h p = ap (take n) (sym p.1) ∙ take-append-le n xs p.0 h

-- a seat that knows no fewer documents at a later moment knows no others
pub knows_more : (k l : Known) (a b : ℕ) → a ≤ length k.moment.documents.accepted → a ≤ b → IsNotBefore l.moment k.moment → IsPrefix (first_of a k) (first_of b l)
knows_more k l a b h le later =
    let xs = k.moment.documents.accepted in
    let ys = l.moment.documents.accepted in
    let p = later.documents.accepted in
    let n = prefix_length xs ys p in
    let same : take a ys ≡ take a xs = first_later xs ys a h p in
    let long = length-take-le a ys (omega arith) in
    let more : length (take a ys) ≤ length (take b ys) = by_length (front_of b ys) in
    subst (λ (zs : List Doc). IsPrefix zs (take b ys)) same (prefix_shorter (take a ys) (take b ys) ys (front_of a ys) (front_of b ys) more)
  where
    by_length : IsPrefix (take b l.moment.documents.accepted) l.moment.documents.accepted
        → length (take a l.moment.documents.accepted) ≤ length (take b l.moment.documents.accepted)
    by_length p = grind (arith, length-take)

-- a seat that loads the count of accepted documents between two moments knows those that it knew
pub counts_more : (k l : Known) (seen counted : ℕ) (loaded : Moment) → seen ≤ length k.moment.documents.accepted
    → IsNotBefore loaded k.moment → IsNotBefore l.moment loaded → counted ≡ length loaded.documents.accepted → IsPrefix (first_of seen k) (first_of counted l)
counts_more k l seen counted loaded h after before count =
    let n = prefix_length _ _ after.documents.accepted in
    knows_more k l seen counted h (omega arith) (later_on _ _ _ after before)

pub finds_more : (k l : Known) (seen counted most : ℕ) (q : Tree) (found : List ℕ) → seen ≤ length k.moment.documents.accepted
    → Searched k.moment l.moment q most counted found → IsPrefix (first_of seen k) (first_of counted l)
finds_more k l seen counted most q found h s = counts_more k l seen counted s.loaded h s.after s.before s.count

pub finds_more_likely : (k l : Known) (seen counted most : ℕ) (q : Tree) (likely : List Bool) (found : List ℕ) → seen ≤ length k.moment.documents.accepted
    → SearchedLikely k.moment l.moment q most likely counted found → IsPrefix (first_of seen k) (first_of counted l)
finds_more_likely k l seen counted most q likely found h s = counts_more k l seen counted s.loaded h s.after s.before s.count

-- and those that it then knows are those that were accepted when it loaded the count
pub finds_likely : (k : Moment) (l : Known) (σ : Setting) (counted most : ℕ) (q : Tree) (likely : List Bool) (found : List ℕ) → l.moment.setting ≡ σ
    → SearchedLikely k l.moment q most likely counted found → AreNone q (cut σ (first_of counted l)) likely → found ≡ answer q most (first_of counted l)
finds_likely k l σ counted most q likely found e s none =
    let accepted = s.loaded.documents.accepted in
    let later = l.moment.documents.accepted in
    let same : take counted later ≡ accepted = ap (λ n. take n later) s.count ∙ front_is accepted later s.before.documents.accepted in
    let setting : σ ≡ s.loaded.setting = sym (s.before.setting ∙ e) in
    s.ids (subst (λ (x : Setting × List Doc). AreNone q (cut x.0 x.1) likely) (λ i. (setting i, same i)) none) ∙ ap (answer q most) (sym same)

-- and what is counted is of those that it then knows
pub counts_front : (k : Moment) (l : Known) (counted : ℕ) (q : Tree) (a b : Numbers) → CountedOn k l.moment q counted a b → HasCounted q (first_of counted l) a b
counts_front k l counted q a b s =
    let accepted = s.loaded.documents.accepted in
    let later = l.moment.documents.accepted in
    let same : take counted later ≡ accepted = ap (λ n. take n later) s.count ∙ front_is accepted later s.before.documents.accepted in
    subst (λ (docs : List Doc). HasCounted q docs a b) (sym same) s.tally

pub counts_front_likely : (k : Moment) (l : Known) (σ : Setting) (counted : ℕ) (q : Tree) (likely : List Bool) (a b : Numbers) → l.moment.setting ≡ σ
    → CountedLikely k l.moment q likely counted a b → AreNone q (cut σ (first_of counted l)) likely → HasCounted q (first_of counted l) a b
counts_front_likely k l σ counted q likely a b e s none =
    let accepted = s.loaded.documents.accepted in
    let later = l.moment.documents.accepted in
    let same : take counted later ≡ accepted = ap (λ n. take n later) s.count ∙ front_is accepted later s.before.documents.accepted in
    let setting : σ ≡ s.loaded.setting = sym (s.before.setting ∙ e) in
    let there = subst (λ (x : Setting × List Doc). AreNone q (cut x.0 x.1) likely) (λ i. (setting i, same i)) none in
    subst (λ (docs : List Doc). HasCounted q docs a b) (sym same) (s.tally there)

-- what is converted stays converted
pub packed_rises : (m n : Moment) (k : ℕ) → IsNotBefore n m → k ≤ m.conversions.converted → k ≤ n.conversions.converted
packed_rises m n k l h =
    ⊎_elim (λ (x : m.conversions.converted < n.conversions.converted). omega arith)
    (λ (x : (m.conversions.converted ≡ n.conversions.converted) × (m.conversions.packed ≤ n.conversions.packed)). omega (arith, x.0)) l.conversions

-- a writer stands for a later moment of the same documents
pub stays : (p : PlacerProgress) (m n : Moment) (k : ℕ) → IsMoment n → IsNotBefore n m → n.documents ≡ m.documents → IsMoment m × PlacerStands p m × (k ≤ m.conversions.converted)
    → IsMoment n × PlacerStands p n × (k ≤ n.conversions.converted)
stays p m n k is l e h = (is, stands_same p m n l e h.1, packed_rises m n k l h.2)

-- two lists that are prefixes of each other are one
pub same_fronts : {A : Type 0} (xs ys : List A) → IsPrefix xs ys → IsPrefix ys xs → xs ≡ ys
same_fronts xs ys p q = prefix_whole xs ys p (prefix_length ys xs q)

-- the segments that the converter converted are closed in the history of a seat that knows its
-- moment and places no document
pub closed_in : (m n : Moment) (σ : Setting) (count : ℕ) → IsNotBefore n m → IsMoment n → n.setting ≡ σ → n.documents.current ≡ None
    → m.conversions ≡ record { converted = count; packed = 0 } → AreClosed σ n.documents.accepted count
closed_in m n σ count l is e idle c s h =
    let reached : ReachesPacked record { converted = count; packed = 0 } n.conversions = subst (λ (x : Conversions). ReachesPacked x n.conversions) c l.conversions in
    let less : s < n.conversions.converted =
    ⊎_elim (λ (x : count < n.conversions.converted). omega arith) (λ (x : (count ≡ n.conversions.converted) × (0 ≤ n.conversions.packed)). omega (arith, x.0)) reached in
    let whole : with_current n.documents ≡ n.documents.accepted = all_accepted n.documents.accepted n.documents.current idle in
    subst (λ (x : Setting × List Doc). s + 1 < length (cut x.0 x.1)) (λ i. (e i, whole i)) (is.closed s less)
  where
    all_accepted : (docs : List Doc) (c : Option (Doc × ℕ)) → c ≡ None → with_current record { accepted = docs; current = c } ≡ docs
    all_accepted docs None _ = append-nil docs
    all_accepted docs (Some x) e = absurd (cc e)
