-- The accepted documents of a segment, at later moments too.
use Rattle.std.proofs.Common.{◌≡◌, ℕ, ◌+◌, ◌-◌, ◌<◌, ◌≤◌, ◌^◌, ◌⊎◌, inl, inr, Bool, List, [], ◌++◌, length, drop, get_or, slice_get, Some, refl, ap, sym, ◌∙◌, subst, arith}
use mathlib.Core.List.{IsPrefix}
use Rattle.eb_place.proofs.NextStore.{accepted_lawful}
use Rattle.eb_base.specs.Document.{Doc}
use Rattle.eb_base.specs.Setting.{Setting}
use Rattle.eb_place.specs.declared.moment.Moment.{Moment}
use Rattle.eb_place.specs.Layout.{place}
use Rattle.eb_place.specs.Layout.Slot.{slot}
use Rattle.eb_place.specs.Layout.Region.{id_region}
use Rattle.eb_place.specs.Room.{cut}
use Rattle.eb_place.specs.Moments.{IsMoment, word}
use Rattle.eb_place.specs.Later.{IsNotBefore}
use Rattle.eb_place.proofs.ReachedLater.{segments_grow}
use Rattle.eb_place.proofs.WordsAtMoment.{placed_all}
use Rattle.eb_place.proofs.Prefixes.{prefix_trans, prefix_length}
use Rattle.eb_cursor.specs.Accepted.{accepted_in}
use Rattle.eb_cursor.specs.Frames.{MayAsk}
use Rattle.eb_cursor.specs.declared.frame.Frame.{Frame}
use Rattle.eb_cursor.proofs.Bounds.{IsLow, first_is_low, loaded_first}
use Rattle.eb_cursor.proofs.Openings.{are_first}
use Rattle.eb_place.proofs.LaterMoments.{later_self}
use Rattle.eb_base.specs.Query.{Tree}
use Rattle.eb_base.specs.Match.{answer}
use Rattle.eb_cursor.specs.Greatest.{AreLikely}
use Rattle.eb_search.proofs.Matches.{found_none, found_nothing}
use Rattle.eb_search.specs.Visible.{AreFirsts, AreNone, AreVisible, documents_before}
use Rattle.eb_search.proofs.Parts.{is_part, drop_segment, before_end}
use Rattle.eb_search.proofs.Beginnings.{cut_short}

-- a segment of the first accepted documents begins the accepted documents of that segment
pub part_accepted : (m : Moment) (docs : List Doc) (s : ℕ) → IsPrefix docs m.documents.accepted → IsPrefix (get_or (cut m.setting docs) s []) (accepted_in m s)
part_accepted m docs s p = subst (λ z. IsPrefix (get_or (cut m.setting docs) s []) (get_or (cut m.setting z) s [])) p.1 (segments_grow m.setting docs p.0 s)

-- these grow at their end
pub accepted_later : (m n : Moment) (s : ℕ) → IsNotBefore n m → IsPrefix (accepted_in m s) (accepted_in n s)
accepted_later m n s l = let p = l.documents.accepted in
    subst (λ (σ : Setting). IsPrefix (accepted_in m s) (get_or (cut σ n.documents.accepted) s [])) l.setting
    (subst (λ z. IsPrefix (accepted_in m s) (get_or (cut m.setting z) s [])) p.1 (segments_grow m.setting m.documents.accepted p.0 s))

pub first_later : (m n : Moment) (s : ℕ) (docs : List Doc) → IsNotBefore n m → IsPrefix docs (accepted_in m s) → IsPrefix docs (accepted_in n s)
first_later m n s docs l p = prefix_trans _ _ _ p (accepted_later m n s l)

-- the first accepted documents stay so, with their segments
pub visible_later : (m n : Moment) (docs : List Doc) (firsts : List ℕ) (begun : ℕ) → IsNotBefore n m → AreVisible m docs firsts begun → AreVisible n docs firsts begun
visible_later m n docs firsts begun l v = record {
  accepted = prefix_trans _ _ _ v.accepted l.documents.accepted;
  words = subst (λ σ. AreFirsts σ docs firsts begun) l.setting v.words;
}

-- and those of which none matches
pub none_later : (m n : Moment) (docs : List Doc) (likely : List Bool) (q : Tree) → IsNotBefore n m → AreNone q (cut m.setting docs) likely → AreNone q (cut n.setting docs) likely
none_later m n docs likely q l h = subst (λ (σ : Setting). AreNone q (cut σ docs) likely) l.setting h

-- they are those that the cursors know of
pub none_of : (m : Moment) (docs : List Doc) (likely : List Bool) (q : Tree) → IsPrefix docs m.documents.accepted → AreLikely m q likely → AreNone q (cut m.setting docs) likely
none_of m docs likely q p h s k off =
    let part : List Doc = get_or (cut m.setting docs) s [] in
    let all : k - 0 ≡ k = omega arith in
    ap (λ j. answer q j part) (sym all)
    ∙ sym (found_none q k [] part (length part) [] (omega arith) (λ n low here. h s part n off (part_accepted m docs s p) here) (found_nothing q k [] part (length part) [] refl refl))

-- and their numbers
pub start_later : (m n : Moment) (docs : List Doc) (s start : ℕ) → IsNotBefore n m → start ≡ documents_before (cut m.setting docs) s → start ≡ documents_before (cut n.setting docs) s
start_later m n docs s start l e = e ∙ ap (λ (σ : Setting). documents_before (cut σ docs) s) l.setting

pub is_low : (m : Moment) (s i : ℕ) (docs : List Doc) → IsMoment m → i < length docs → IsPrefix docs (accepted_in m s) → IsLow m s i
is_low m s i docs is h p = first_is_low m s i docs is h (are_first m s docs is (omega arith) p)

-- the id word of one of the first accepted documents of a segment
pub loaded_id : (m : Moment) (s i w : ℕ) (docs : List Doc) (d : Doc) → IsMoment m → IsPrefix docs (accepted_in m s)
    → slice_get docs i ≡ Some d → i < length docs → w ≡ word m (place m.setting (slot s id_region i)) → w ≡ d.id
loaded_id m s i w docs d is p there h e = loaded_first m s i w docs d is (are_first m s docs is (omega arith) p) there h e

-- a search of a segment goes on: its frame may be asked below the end, for these documents
pub record IsUnderWay (s : ℕ) (docs : List Doc) (f : Frame) (end : ℕ) (n : Moment) : Type 0 where
  pub first : IsPrefix docs (accepted_in n s)
  pub asked : Moment
  pub later : IsNotBefore n asked
  pub asks : (document : ℕ) → document < end → MayAsk asked f docs document

pub under_way : (m n : Moment) (s : ℕ) (docs : List Doc) (f : Frame) (end : ℕ) → IsNotBefore n m
    → IsPrefix docs (accepted_in m s) → ((document : ℕ) → MayAsk n f docs document) → IsUnderWay s docs f end n
under_way m n s docs f end l p asks = record { first = first_later m n s docs l p; asked = n; later = later_self n; asks = λ document h. asks document }

-- the next older segment of a walk
pub record IsStep (m : Moment) (docs : List Doc) (firsts : List ℕ) (s end : ℕ) : Type 0 where
  pub low : s < 64
  pub word : get_or firsts s 0 ≡ documents_before (cut m.setting docs) s + 1
  pub next : end ≡ documents_before (cut m.setting docs) s + length (get_or (cut m.setting docs) s [])
  pub some : 1 ≤ length (get_or (cut m.setting docs) s [])
  pub long : length (get_or (cut m.setting docs) s []) ≤ length (accepted_in m s)
  pub small : length (get_or (cut m.setting docs) s []) ≤ 2 ^ 24
  pub first : IsPrefix (get_or (cut m.setting docs) s []) (accepted_in m s)
  pub rest : drop (documents_before (cut m.setting docs) s) docs ≡ get_or (cut m.setting docs) s [] ++ drop end docs

pub is_step : (m : Moment) (docs : List Doc) (firsts : List ℕ) (begun s end : ℕ) → IsMoment m → AreVisible m docs firsts begun
    → s + 1 ≤ begun → end ≡ documents_before (cut m.setting docs) (s + 1) → IsStep m docs firsts s end
is_step m docs firsts begun s end is v le e =
    let here : s < length (cut m.setting docs) = omega (arith, v.words.all) in
    let part = is_part m.setting docs s here in
    let placed = placed_all m.setting m.documents.accepted is.setting (accepted_lawful m is) in
    let first = part_accepted m docs s v.accepted in
    let long = prefix_length _ _ first in
    record {
      low = omega (arith, cut_short m docs is v.accepted, is.setting.segments.1);
      word = v.words.each s (omega arith);
      next = e ∙ part.next;
      some = part.some;
      long = long;
      small = omega (arith, long, placed.few s, is.setting.docs.1);
      first = first;
      rest = drop_segment m.setting docs s here ∙ ap (λ n. get_or (cut m.setting docs) s [] ++ drop n docs) (sym e);
    }

-- where the documents of a segment end, by the next first-document word, or by the count
abbrev pub IsEnd : List ℕ → ℕ → ℕ → ℕ → ℕ → Type 0
IsEnd firsts begun count s end = ((s + 1 < begun) × (end ≡ get_or firsts (s + 1) 0 - 1)) ⊎ ((begun ≤ s + 1) × (end ≡ count))

pub ends_there : (m : Moment) (docs : List Doc) (firsts : List ℕ) (begun count s end : ℕ) → length docs ≡ count → AreVisible m docs firsts begun
    → s < begun → IsEnd firsts begun count s end → end ≡ documents_before (cut m.setting docs) (s + 1)
ends_there m docs firsts begun count s end same v low e = elim e [
  | inl next ↦ omega (arith, next.1, v.words.each (s + 1) next.0)
  | inr last ↦
      let here : length (cut m.setting docs) ≡ s + 1 = omega (arith, v.words.all, last.0, low) in
      last.1 ∙ sym same ∙ sym (before_end m.setting docs) ∙ ap (documents_before (cut m.setting docs)) here
]
