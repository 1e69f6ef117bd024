-- What a join and the confirmation after it show.
use Rattle.std.proofs.Common.{◌+◌, ◌<◌, ◌≤◌, ◌≡◌, ℕ, suc, inl, inr, ⊎_elim, List, [], ◌∷◌, length, Option, Some, None, Bool, true, false, ◌&&◌, ltb, cond, length-append}
use Rattle.std.proofs.Common.{refl, ap, sym, ◌∙◌, subst, arith}
use Rattle.std.proofs.lemmas.Bool.{lt-ltb, le-ltb}
use Rattle.std.proofs.lemmas.Bool.Decides.{Decides-and}
use native.Mathlib.Decide.{dec_lt}
use mathlib.Core.Option.{none}
use Rattle.atomic_table.specs.Table.{Me, step}
use Rattle.eb_base.specs.Document.{Doc}
use Rattle.eb_base.specs.Setting.{Setting}
use Rattle.eb_place.specs.declared.moment.Conversions.{Conversions}
use Rattle.eb_place.specs.declared.moment.Documents.{Documents}
use Rattle.eb_place.specs.declared.moment.Moment.{Moment}
use Rattle.eb_place.specs.Moments.{IsMoment}
use Rattle.eb_place.specs.Later.{Further, Goes, Reaches, ReachesPacked, IsNotBefore}
use Rattle.eb_place.specs.Laws.{IsLeastAfter}
use Rattle.eb_place.specs.Meets.{rank, is_behind, later_documents, later_conversions, later_of}
use Rattle.eb_place.proofs.Prefixes.{prefix_length}
use Rattle.eb_place.proofs.LaterMoments.{later_on, reaches_self, packed_self}
use Rattle.eb_place.proofs.MeetOfMoments.{conversions_meet, moments_meet}
use Rattle.eb_table.specs.declared.view.View.{View}
use Rattle.eb_table.specs.declared.view.View.TheVariants.{Writer, Converter, Reader}
use Rattle.eb_table.specs.Rule.{moment_of}
use Rattle.eb_table.specs.InLine.{is_reached, in_line, is_packed_reached, unreal}
use Rattle.eb_table.specs.Steps.{Confirmed, met, met_moment}
use Rattle.eb_table.specs.Known.{Known, Words, MadeWith}
use Rattle.eb_table.proofs.InLine.{reaches_decides, in_line_decides, packed_decides, not_unreal}
use Rattle.atomic_table.specs.Seated.{TableId}
use Rattle.eb_table.specs.Known.{known}

after_if : (b : Bool) (σ : Setting) (made l : Moment) → IsNotBefore l (cond b made (unreal σ)) → IsMoment l → (b ≡ true) × IsNotBefore l made
after_if true σ made l later is = (refl, later)
after_if false σ made l later is = absurd (not_unreal σ l later is)

-- the later of two conversion parts is reached from both
packed_both : (a b : Conversions) → ReachesPacked a (later_conversions a b) × ReachesPacked b (later_conversions a b)
packed_both a b =
    let c : Conversions = record { converted = suc (a.converted + b.converted); packed = 0 } in
    let k = conversions_meet a b c (inl (omega arith)) (inl (omega arith)) in (k.first, k.second)

-- a documents part that the other leads to is the later one
rank_grows : (docs : List Doc) (c : Option (Doc × ℕ)) (b : Documents) → Goes docs c b → length docs ≡ length b.accepted → rank c ≤ rank b.current
rank_grows docs None b g e = omega arith
rank_grows docs (Some c) b (inl p) e = further b.current p.1
  where
    further : (x : Option (Doc × ℕ)) → Further c x → suc c.1 ≤ rank x
    further None f = absurd f
    further (Some x) f = omega (arith, f.1)
rank_grows docs (Some c) b (inr p) e = absurd (omega (arith, e, prefix_length _ _ p, length-append docs (c.0 ∷ [])))

later_first : (a b : Documents) → Reaches b a → later_documents a b ≡ a
unfolding later_documents
later_first a b r = by_count (dec_lt (length a.accepted) (length b.accepted)) (dec_lt (length b.accepted) (length a.accepted)) (dec_lt (rank a.current) (rank b.current))
  where
    here : (x y z : Bool) → ltb (length a.accepted) (length b.accepted) ≡ x → ltb (length b.accepted) (length a.accepted) ≡ y
        → ltb (rank a.current) (rank b.current) ≡ z → cond (cond x true (cond y false z)) b a ≡ a → cond (is_behind a b) b a ≡ a
    here x y z e f g h = rw (e, f, g) h

    by_count : Dec (length a.accepted < length b.accepted) → Dec (length b.accepted < length a.accepted) → Dec (rank a.current < rank b.current) → cond (is_behind a b) b a ≡ a
    by_count (yes h) _ _ = absurd (omega (arith, h, prefix_length _ _ r.accepted))
    by_count (no h) (yes k) _ = here false true _ (le-ltb _ _ (omega arith)) (lt-ltb _ _ k) refl refl
    by_count (no h) (no k) (yes l) = absurd (let g = rank_grows b.accepted b.current a r.current (omega arith) in omega (arith, l, g))
    by_count (no h) (no k) (no l) = here false false false (le-ltb _ _ (omega arith)) (le-ltb _ _ (omega arith)) (le-ltb _ _ (omega arith)) refl

-- and so with a conversion part
packed_first : (a b : Conversions) → ReachesPacked b a → later_conversions a b ≡ a
packed_first a b r = by_count (dec_lt a.converted b.converted) (dec_lt b.converted a.converted) (dec_lt a.packed b.packed)
  where
    here : (x y z : Bool) → ltb a.converted b.converted ≡ x → ltb b.converted a.converted ≡ y → ltb a.packed b.packed ≡ z
        → cond x b (cond y a (cond z b a)) ≡ a → later_conversions a b ≡ a
    here x y z e f g h = rw (e, f, g) h

    by_count : Dec (a.converted < b.converted) → Dec (b.converted < a.converted) → Dec (a.packed < b.packed) → later_conversions a b ≡ a
    by_count (yes h) _ _ = ⊎_elim (λ (x : b.converted < a.converted). absurd (omega arith)) (λ (x : (b.converted ≡ a.converted) × (b.packed ≤ a.packed)). absurd (omega (arith, x.0))) r
    by_count (no h) (yes k) _ = here false true _ (le-ltb _ _ (omega arith)) (lt-ltb _ _ k) refl refl
    by_count (no h) (no k) (yes l) = ⊎_elim (λ (x : b.converted < a.converted). absurd (omega arith)) (λ (x : (b.converted ≡ a.converted) × (b.packed ≤ a.packed)). absurd (omega (arith, x.1))) r
    by_count (no h) (no k) (no l) = here false false false (le-ltb _ _ (omega arith)) (le-ltb _ _ (omega arith)) (le-ltb _ _ (omega arith)) refl

-- m and n are moments before l, and what a seat of this kind makes of them is not after l: then it
-- is the least moment after both
pub writer_met : (m n l : Moment) → IsMoment m → IsMoment n → IsMoment l → m.setting ≡ n.setting → IsNotBefore l (met_moment (Writer m) n)
    → IsLeastAfter m n (met_moment (Writer m) n) × ((met_moment (Writer m) n).documents ≡ m.documents)
writer_met m n l mm nn ll same i =
    let made : Moment = record { setting = m.setting; documents = m.documents; conversions = later_conversions m.conversions n.conversions } in
    let a = after_if (is_reached n.documents m.documents) m.setting made l i ll in
    let r = (reaches_decides n.documents m.documents).0 a.0 in
    let p = packed_both m.conversions n.conversions in
    let first : IsNotBefore l m = later_on m made l record { setting = refl; documents = reaches_self m.documents; conversions = p.0 } a.1 in
    let second : IsNotBefore l n = later_on n made l record { setting = sym same; documents = r; conversions = p.1 } a.1 in
    let is : later_of m n ≡ made = λ k. record { setting = m.setting; documents = later_first m.documents n.documents r k; conversions = later_conversions m.conversions n.conversions } in
    let met_is : met_moment (Writer m) n ≡ made = ap (λ (t : Bool). cond t made (unreal m.setting)) a.0 in
    (subst (IsLeastAfter m n) (is ∙ sym met_is) (moments_meet m n l mm nn first second), ap (λ (x : Moment). x.documents) met_is)

pub converter_met : (m n l : Moment) → IsMoment m → IsMoment n → IsMoment l → m.setting ≡ n.setting → IsNotBefore l (met_moment (Converter m) n)
    → IsLeastAfter m n (met_moment (Converter m) n) × ((met_moment (Converter m) n).conversions ≡ m.conversions)
converter_met m n l mm nn ll same i =
    let made : Moment = record { setting = m.setting; documents = later_documents m.documents n.documents; conversions = m.conversions } in
    let a = after_if (in_line m.documents n.documents && is_packed_reached n.conversions m.conversions) m.setting made l i ll in
    let t = (Decides-and (in_line m.documents n.documents) (is_packed_reached n.conversions m.conversions) (in_line_decides m.documents n.documents)
    (packed_decides n.conversions m.conversions)).0 a.0 in
    let first : IsNotBefore l m = later_on m made l record { setting = refl; documents = t.0.0; conversions = packed_self m.conversions } a.1 in
    let second : IsNotBefore l n = later_on n made l record { setting = sym same; documents = t.0.1; conversions = t.1 } a.1 in
    let is : later_of m n ≡ made = λ k. record { setting = m.setting; documents = later_documents m.documents n.documents; conversions = packed_first m.conversions n.conversions t.1 k } in
    let met_is : met_moment (Converter m) n ≡ made = ap (λ (t : Bool). cond t made (unreal m.setting)) a.0 in
    (subst (IsLeastAfter m n) (is ∙ sym met_is) (moments_meet m n l mm nn first second), ap (λ (x : Moment). x.conversions) met_is)

pub reader_met : (m n l : Moment) → IsMoment m → IsMoment n → IsMoment l → m.setting ≡ n.setting → IsNotBefore l (met_moment (Reader m) n)
    → IsLeastAfter m n (met_moment (Reader m) n)
reader_met m n l mm nn ll same i =
    let a = after_if (in_line m.documents n.documents) m.setting (later_of m n) l i ll in
    let r = (in_line_decides m.documents n.documents).0 a.0 in
    let p = packed_both m.conversions n.conversions in
    let first : IsNotBefore l m = later_on m (later_of m n) l record { setting = refl; documents = r.0; conversions = p.0 } a.1 in
    let second : IsNotBefore l n = later_on n (later_of m n) l record { setting = sym same; documents = r.1; conversions = p.1 } a.1 in
    let met_is : met_moment (Reader m) n ≡ later_of m n = ap (λ (t : Bool). cond t (later_of m n) (unreal m.setting)) a.0 in
    subst (IsLeastAfter m n) (sym met_is) (moments_meet m n l mm nn first second)

-- what a seat knows, once it took in a reader's and was confirmed
module _ (w : Words) (a b : Known) (t u : TableId) (mine other joined last : Me (Unit {0}) View) (own : known t mine ≡ a) (that : known u other ≡ b)
    (first : MadeWith a w) (second : MadeWith b w) (made : joined ≡ (met mine.0 other.0, [])) (told : Confirmed (step 0 0 0 0 none) joined 0 last) where
  same : (moment_of mine.0).setting ≡ (moment_of other.0).setting
  same = (λ i. (own i).moment.setting) ∙ (first.setting ∙ sym ((λ i. (that i).moment.setting) ∙ second.setting))

  mine_is : IsMoment (moment_of mine.0)
  mine_is = subst IsMoment (λ i. (sym own i).moment) first.moment

  other_is : IsMoment (moment_of other.0)
  other_is = subst IsMoment (λ i. (sym that i).moment) second.moment

  pub reader_meets : mine ≡ (Reader (moment_of mine.0), []) → IsLeastAfter a.moment b.moment (moment_of last.0)
  reader_meets is =
      let m = moment_of mine.0 in
      let n = moment_of other.0 in
      let v : joined.0 ≡ Reader (met_moment (Reader m) n) = ap (λ (x : Me (Unit {0}) View). x.0) made ∙ ap (λ (x : Me (Unit {0}) View). met x.0 other.0) is in
      let at : moment_of last.0 ≡ met_moment (Reader m) n = ap (λ (x : Me (Unit {0}) View). moment_of x.0) told.0 ∙ ap moment_of v in
      let k = reader_met m n told.1 mine_is other_is told.2 same (subst (λ (x : View). IsNotBefore told.1 (moment_of x)) v told.3) in
      subst (λ (x : Moment × Moment × Moment). IsLeastAfter x.0 x.1 x.2) (λ i. ((own i).moment, (that i).moment, sym at i)) k

  pub writer_meets : mine ≡ (Writer (moment_of mine.0), []) → IsLeastAfter a.moment b.moment (moment_of last.0) × ((moment_of last.0).documents ≡ a.moment.documents)
  writer_meets is =
      let m = moment_of mine.0 in
      let n = moment_of other.0 in
      let v : joined.0 ≡ Writer (met_moment (Writer m) n) = ap (λ (x : Me (Unit {0}) View). x.0) made ∙ ap (λ (x : Me (Unit {0}) View). met x.0 other.0) is in
      let at : moment_of last.0 ≡ met_moment (Writer m) n = ap (λ (x : Me (Unit {0}) View). moment_of x.0) told.0 ∙ ap moment_of v in
      let k = writer_met m n told.1 mine_is other_is told.2 same (subst (λ (x : View). IsNotBefore told.1 (moment_of x)) v told.3) in
      subst (λ (x : Moment × Moment × Moment). IsLeastAfter x.0 x.1 x.2 × (x.2.documents ≡ x.0.documents)) (λ i. ((own i).moment, (that i).moment, sym at i)) k

  pub converter_meets : mine ≡ (Converter (moment_of mine.0), []) → IsLeastAfter a.moment b.moment (moment_of last.0) × ((moment_of last.0).conversions ≡ a.moment.conversions)
  converter_meets is =
      let m = moment_of mine.0 in
      let n = moment_of other.0 in
      let v : joined.0 ≡ Converter (met_moment (Converter m) n) = ap (λ (x : Me (Unit {0}) View). x.0) made ∙ ap (λ (x : Me (Unit {0}) View). met x.0 other.0) is in
      let at : moment_of last.0 ≡ met_moment (Converter m) n = ap (λ (x : Me (Unit {0}) View). moment_of x.0) told.0 ∙ ap moment_of v in
      let k = converter_met m n told.1 mine_is other_is told.2 same (subst (λ (x : View). IsNotBefore told.1 (moment_of x)) v told.3) in
      subst (λ (x : Moment × Moment × Moment). IsLeastAfter x.0 x.1 x.2 × (x.2.conversions ≡ x.0.conversions)) (λ i. ((own i).moment, (that i).moment, sym at i)) k
