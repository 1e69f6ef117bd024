-- A reader beside a writer that places nothing finds exactly its history.
use Rattle.std.proofs.Common.{◌≡◌, ℕ, Bool, ◌≤◌, inl, inr, List, [], ◌∷◌, length, take, Option, None, Some, refl, ap, sym, ◌∙◌, subst, arith, length-append}
use Rattle.std.proofs.lemmas.List.{take_all}
use mathlib.Core.List.{IsPrefix}
use Rattle.eb_base.specs.Document.{Doc}
use Rattle.eb_base.specs.Query.{word}
use Rattle.eb_base.specs.Setting.{Setting}
use Rattle.eb_base.specs.Term.{Term}
use Rattle.eb_count.specs.Counts.{match_count}
use Rattle.eb_place.specs.declared.moment.Documents.{Documents}
use Rattle.eb_place.specs.declared.moment.Moment.{Moment}
use Rattle.eb_place.specs.Later.{Further, Goes, IsNotBefore}
use Rattle.eb_place.specs.Moments.{IsMoment}
use Rattle.eb_place.proofs.Prefixes.{prefix_length}
use Rattle.eb_search.specs.Bounds.{match_loads}
use Rattle.eb_table.specs.Known.{Known}
use Rattle.eb_engine.specs.Loads.{IsWithinBound, IsWithinAndBound, IsAlone, whole_of, IsBoundedAlone, IsAndBoundedAlone}
use Rattle.eb_engine.proofs.Knows.{same_fronts}

-- nothing is placed where as much is accepted afterwards, and nothing is placed then
idle : (c : Option (Doc × ℕ)) (docs : List Doc) (b : Documents) → b.accepted ≡ docs → b.current ≡ None → Goes docs c b → c ≡ None
idle None docs b e n g = refl
idle (Some c) docs b e n (inl f) = let no : ⊥ = subst (Further c) n f.1 in absurd no
idle (Some c) docs b e n (inr p) = absurd (omega (arith, prefix_length _ _ p, length-append docs (c.0 ∷ []), ap length e))

pub same_documents : (m n d : Moment) → m.documents.current ≡ None → IsNotBefore n m → IsNotBefore d n → d.documents ≡ m.documents → n.documents ≡ m.documents
same_documents m n d none after before same =
    let back = subst (λ (x : Documents). IsPrefix n.documents.accepted x.accepted) same before.documents.accepted in
    let accepted = same_fronts n.documents.accepted m.documents.accepted back after.documents.accepted in
    let goes = subst (λ (x : Documents). Goes n.documents.accepted n.documents.current x) same before.documents.current in
    let current = idle n.documents.current n.documents.accepted m.documents (sym accepted) none goes ∙ sym none in
    λ i. record { accepted = accepted i; current = current i }

-- of a reader's seat that the writer's gave away, and takes in at d
module _ (own reader left : Known) (gave : reader ≡ own) (kept : left ≡ own) (none : own.moment.documents.current ≡ None) (d : Moment) (same : d.documents ≡ left.moment.documents) where
  later : (n : Moment) → IsNotBefore n reader.moment → IsNotBefore n own.moment
  later n l = subst (λ (s : Known). IsNotBefore n s.moment) gave l

  pub found : (n : Moment) → IsNotBefore n reader.moment → IsNotBefore d n → n.documents ≡ own.moment.documents
  found n after before = same_documents own.moment n d none (later n after) before (same ∙ ap (λ (s : Known). s.moment.documents) kept)

  alone : (n : Moment) → IsMoment n → IsNotBefore n reader.moment → IsNotBefore d n → IsAlone own.moment n
  alone n is after before = record { is = is; later = later n after; documents = found n after before }

  -- what its search counted, and the bounds of its loads, are of the writer's documents
  pub counts_alone : (n : Moment) (count : ℕ) → IsNotBefore n reader.moment → IsNotBefore d n → count ≡ length n.documents.accepted → count ≡ length own.moment.documents.accepted
  counts_alone n count after before is = is ∙ ap (λ (x : Documents). length x.accepted) (found n after before)

  pub matches_alone : (n : Moment) (count : ℕ) → IsNotBefore n reader.moment → IsNotBefore d n → count ≡ length own.moment.documents.accepted
      → take count n.documents.accepted ≡ own.moment.documents.accepted
  matches_alone n count after before is =
      ap (λ (x : Documents). take count x.accepted) (found n after before) ∙ take_all count own.moment.documents.accepted (omega (arith, is))

  pub loads_alone : (likely : List Bool) (n : Moment) (t : Term) (count ids before after : ℕ) → IsMoment n → IsNotBefore n reader.moment → IsNotBefore d n
      → IsWithinBound likely reader.moment n t count ids before after → (now : Moment) × IsAlone own.moment now × IsWithinBound likely own.moment now t count ids before after
  loads_alone likely n t count ids before after is since until loads =
      (n, alone n is since until, subst (λ (s : Known). IsWithinBound likely s.moment n t count ids before after) gave loads)

  pub rounds_alone : (likely : List Bool) (n : Moment) (ts : List Term) (count ids before after : ℕ) → IsMoment n → IsNotBefore n reader.moment → IsNotBefore d n
      → IsWithinAndBound likely n ts count ids before after → (now : Moment) × IsAlone own.moment now × IsWithinAndBound likely now ts count ids before after
  rounds_alone likely n ts count ids before after is since until loads = (n, alone n is since until, loads)

-- the documents of a writer that places nothing
whole : (docs : List Doc) (x : Documents) → x.accepted ≡ docs → x.current ≡ None → x ≡ whole_of docs
whole docs x e none = λ i. record { accepted = e i; current = none i }

-- of a writer that places nothing, before and after a search beside it
module _ (was new : Moment) (σ : Setting) (here : was.setting ≡ σ) (kept : new.documents ≡ was.documents) (none : was.documents.current ≡ None) where
  all : was.documents ≡ whole_of new.documents.accepted
  all = whole new.documents.accepted was.documents (ap (λ (x : Documents). x.accepted) (sym kept)) none

  long : length new.documents.accepted ≡ length was.documents.accepted
  long = ap (λ (x : Documents). length x.accepted) kept

  -- the bounds of that search
  pub bounded_alone : (likely : List Bool) (converted counted : ℕ) (t : Term) (ids before after : ℕ)
      → converted ≤ was.conversions.converted → counted ≡ length was.documents.accepted
      → (now : Moment) × IsAlone was now × IsWithinBound likely was now t counted ids before after → IsBoundedAlone likely σ new.documents.accepted converted t ids before after
  bounded_alone likely converted counted t ids before after packed count a = record {
    was = was;
    now = a.0;
    is = a.1.is;
    later = a.1.later;
    setting = sym a.1.later.setting ∙ here;
    documents_then = all;
    documents = a.1.documents ∙ all;
    packed_then = packed;
    loads = subst (λ (n : ℕ). IsWithinBound likely was a.0 t n ids before after) (count ∙ sym long) a.2;
  }

  -- and those of a count
  pub count_bounded_alone : (likely : List Bool) (converted counted : ℕ) (t : Term) (buckets before after : ℕ)
      → converted ≤ was.conversions.converted → counted ≡ length was.documents.accepted
      → (now : Moment) × IsAlone was now × IsWithinBound likely was now t counted (match_loads buckets (match_count (word t) was.documents.accepted)) before after
      → IsBoundedAlone likely σ new.documents.accepted converted t (match_loads buckets (match_count (word t) new.documents.accepted)) before after
  count_bounded_alone likely converted counted t buckets before after packed count a =
      bounded_alone likely converted counted t (match_loads buckets (match_count (word t) new.documents.accepted)) before after packed count
      (a.0, a.1, subst (λ (x : Documents). IsWithinBound likely was a.0 t counted (match_loads buckets (match_count (word t) x.accepted)) before after) (sym kept) a.2)

  pub and_bounded_alone : (likely : List Bool) (counted : ℕ) (ts : List Term) (ids before after : ℕ) → counted ≡ length was.documents.accepted
      → (now : Moment) × IsAlone was now × IsWithinAndBound likely now ts counted ids before after → IsAndBoundedAlone likely σ new.documents.accepted ts ids before after
  and_bounded_alone likely counted ts ids before after count a = record {
    now = a.0;
    is = a.1.is;
    setting = sym a.1.later.setting ∙ here;
    documents = a.1.documents ∙ all;
    loads = subst (λ (n : ℕ). IsWithinAndBound likely a.0 ts n ids before after) (count ∙ sym long) a.2;
  }
