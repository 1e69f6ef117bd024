-- Documents that parts add concurrently are those that lines add one after the other.
use Rattle.eb_fields.specs.Dialect.{Dialect}
use Rattle.std.proofs.Common.{◌≡◌, ℕ, suc, ◌%◌, ◌≤◌, inl, inr, Bool, true, false, List, [], ◌∷◌, ◌++◌, Option, Some, None, length, refl, ap, sym, subst, ◌∙◌, append-nil}
use Rattle.std.specs.Prelude.{nat_le, if◌then◌else◌, map, option_map, Result, Ok, Err, min, ◌^◌, ◌-◌}
use Rattle.std.proofs.lemmas.Bool.{cases_Bool, cases_lt, le-leb, lt-leb}
use Rattle.run_store.specs.Rules.{Rules, document_outcome}
use Rattle.eb_base.specs.Document.{Doc}
use Rattle.eb_base.specs.Setting.{Setting}
use Rattle.eb_blend.specs.declared.refusal.BlendRefusal.{BlendRefusal}
use Rattle.eb_blend.specs.declared.refusal.BlendRefusal.TheVariants as blend
use Rattle.eb_blend.specs.Adding as adding
use Rattle.eb_blend.specs.Laws.{part, cut_into, HasRisingIds}
use Rattle.eb_blend.specs.Parts.{WriterTokens, history, part_of, IsAbove, counted, lengths_of}
use Rattle.eb_lines.specs.declared.refusal.Refusal.{Refusal}
use Rattle.eb_lines.specs.declared.refusal.Refusal.TheVariants.{NotRising, Full}
use Rattle.eb_lines.specs.Progress.{documents_in}
use Rattle.eb_place.specs.Room.{cut, has_room}
use Rattle.eb_table.specs.Known.{Words}
use Rattle.eb_lines.specs.declared.form.Form.{Form}
use Rattle.run_over_parts.specs.AcceptedInParts.{last_id, refusal_of_part, refusal_above, refusal_in_parts, refused_by}
use Rattle.run_ahead.specs.Placed as placed
use Rattle.run_over_parts.specs.Texts.{parts_rules}
use Rattle.run_over_parts.proofs.Histories.{histories_push, last-push, rising-push, counts_push}
use Rattle.run_over_parts.proofs.Placings.{part_is, short_more}

-- the writer of parts of these words that hold these documents
abbrev pub writer_of : List Words → ℕ → List Doc → WriterTokens
writer_of words parts docs = record { indexes = words; histories = cut_into parts docs; last = last_id docs }

module _ (words : List Words) (parts : ℕ) (σ : Setting) (some : 1 ≤ parts) where
  full_same : (docs : List Doc) (d : Doc) → option_map refused_by (adding.refusal_of_part σ (cut_into parts docs) d) ≡ refusal_of_part parts σ docs d
  full_same docs d =
      let hs = cut_into parts docs in
      let at : has_room σ (history hs (part_of hs d)) d ≡ has_room σ (part parts docs (d.id % parts)) d = ap (λ h. has_room σ h d) (part_is parts docs d some) in
      elim (cases_Bool (has_room σ (part parts docs (d.id % parts)) d)) [
        | inl r ↦ ap (λ (b : Bool). option_map refused_by (if b then None else Some (blend.Full (part_of hs d)))) (at ∙ r) ∙ sym (ap (λ (b : Bool). if b then None else Some Full) r)
        | inr r ↦ ap (λ (b : Bool). option_map refused_by (if b then None else Some (blend.Full (part_of hs d)))) (at ∙ r) ∙ sym (ap (λ (b : Bool). if b then None else Some Full) r)
      ]

  above_same : (o : Option ℕ) (d : Doc) (r : Option BlendRefusal) → option_map refused_by (adding.refusal_above o d r) ≡ refusal_above o d (option_map refused_by r)
  above_same None d r = refl
  above_same (Some last) d r = elim (cases_Bool (nat_le d.id last)) [ inl e ↦ rw e refl | inr e ↦ rw e refl ]

  -- why a document is refused
  pub refusal_same : (docs : List Doc) (d : Doc) → option_map refused_by (adding.refusal_of σ (writer_of words parts docs) d) ≡ refusal_in_parts parts σ docs d
  refusal_same docs d =
      above_same (last_id docs) d (adding.refusal_of_part σ (cut_into parts docs) d) ∙ ap (refusal_above (last_id docs) d) (full_same docs d)

  after_same : (docs : List Doc) (d : Doc) (r : Option BlendRefusal) → adding.with_outcome (writer_of words parts docs) d r
      ≡ writer_of words parts (docs ++ documents_in (document_outcome d (option_map refused_by r)))
  after_same docs d None = λ i. record { indexes = words; histories = sym (histories_push parts docs d some) i; last = sym (last-push docs d) i }
  after_same docs d (Some r) = ap (writer_of words parts) (sym (append-nil docs))

  -- the writer after it
  pub writer_same : (docs : List Doc) (d : Doc) → adding.with_outcome (writer_of words parts docs) d (adding.refusal_of σ (writer_of words parts docs) d)
      ≡ writer_of words parts (docs ++ documents_in (document_outcome d (refusal_in_parts parts σ docs d)))
  writer_same docs d =
      after_same docs d (adding.refusal_of σ (writer_of words parts docs) d)
      ∙ ap (λ r. writer_of words parts (docs ++ documents_in (document_outcome d r))) (refusal_same docs d)

-- ---- what the parts hold afterwards

none_some : {A : Type 0} (x : A) → Some x ≡ None → ⊥
none_some {A = A} x e = subst (λ (o : Option A). fall o) (sym e) tt
  where
    fall : {A : Type 0} → Option A → Type 0
    fall None = Unit {0}
    fall (Some y) = ⊥

roomy_only : (b : Bool) → (if b then None else Some Full) ≡ None → b ≡ true
roomy_only true e = refl
roomy_only false e = absurd (none_some Full e)

accepted_facts : (o : Option ℕ) (d : Doc) (b : Bool) → refusal_above o d (if b then None else Some Full) ≡ None → IsAbove o d.id × (b ≡ true)
accepted_facts None d b e = (tt, roomy_only b e)
accepted_facts (Some last) d b e = elim (cases_lt last d.id) [
  | inl up ↦
      let high : nat_le d.id last ≡ false = lt-leb d.id last up in
      (up, roomy_only b (sym (ap (λ (c : Bool). if c then Some (NotRising last) else (if b then None else Some Full)) high) ∙ e))
  | inr low ↦ let here : nat_le d.id last ≡ true = le-leb d.id last low in
      absurd (none_some (NotRising last) (sym (ap (λ (c : Bool). if c then Some (NotRising last) else (if b then None else Some Full)) here) ∙ e))
]

-- what is said of documents alone
pub record Held (parts : ℕ) (σ : Setting) (docs : List Doc) : Type 0 where
  pub rising : HasRisingIds docs
  pub counts : counted (lengths_of (cut_into parts docs)) ≡ min (length docs) (2 ^ 64 - 1)
  pub short : (p : ℕ) → length (cut σ (history (cut_into parts docs) p)) ≤ 64

module _ (how : Dialect) (parts : ℕ) (σ : Setting) (form : Form) (some : 1 ≤ parts) where
  -- by these rules
  abbrev by_rules : Rules (Unit {0})
  by_rules = parts_rules how parts σ form

  held_by : σ.segments ≤ 64 → (docs : List Doc) (d : Doc) (r : Option Refusal) → r ≡ refusal_in_parts parts σ docs d → Held parts σ docs → Held parts σ (docs ++ documents_in (document_outcome d r))
  held_by few docs d None is h =
      let facts = accepted_facts (last_id docs) d (has_room σ (part parts docs (d.id % parts)) d) (sym is) in
      record {
        rising = rising-push docs d h.rising facts.0;
        counts = counts_push parts docs d some h.counts;
        short = λ p. short_more parts σ docs d p some few facts.1 (h.short p);
      }
  held_by few docs d (Some r) is h = subst (Held parts σ) (sym (append-nil docs)) h

  pub held_after : {E : Type 0} → σ.segments ≤ 64 → (docs : List Doc) (xs : List (Result Doc E)) → Held parts σ docs → Held parts σ (placed.docs_after by_rules docs xs)
  unfolding placed.docs_after
  held_after few docs [] h = h
  held_after few docs (Ok d ∷ xs) h =
      held_after few (docs ++ documents_in (document_outcome d (refusal_in_parts parts σ docs d))) xs (held_by few docs d (refusal_in_parts parts σ docs d) refl h)
  held_after few docs (Err e ∷ xs) h = held_after few docs xs h

  -- the writer after them
  pub writer_after : {E : Type 0} (words : List Words) (docs : List Doc) (xs : List (Result Doc E))
      → adding.with_items σ (writer_of words parts docs) xs ≡ writer_of words parts (placed.docs_after by_rules docs xs)
  unfolding placed.docs_after adding.with_items
  writer_after words docs [] = refl
  writer_after words docs (Ok d ∷ xs) =
      ap (λ w. adding.with_items σ w xs) (writer_same words parts σ some docs d) ∙ writer_after words (docs ++ documents_in (document_outcome d (refusal_in_parts parts σ docs d))) xs
  writer_after words docs (Err e ∷ xs) = writer_after words docs xs

  -- what came of each
  pub outcomes_same : {E : Type 0} (words : List Words) (docs : List Doc) (xs : List (Result Doc E))
      → map (option_map refused_by) (adding.outcomes_of σ (writer_of words parts docs) xs) ≡ placed.item_refusals by_rules docs xs
  unfolding placed.item_refusals adding.outcomes_of
  outcomes_same words docs [] = refl
  outcomes_same words docs (Ok d ∷ xs) =
      let w = writer_of words parts docs in
      let after = docs ++ documents_in (document_outcome d (refusal_in_parts parts σ docs d)) in
      ap (λ r. r ∷ map (option_map refused_by) (adding.outcomes_of σ (adding.with_outcome w d (adding.refusal_of σ w d)) xs)) (refusal_same words parts σ some docs d)
      ∙ ap (λ rs. refusal_in_parts parts σ docs d ∷ rs)
      (ap (λ v. map (option_map refused_by) (adding.outcomes_of σ v xs)) (writer_same words parts σ some docs d) ∙ outcomes_same words after xs)
  outcomes_same words docs (Err e ∷ xs) = ap (λ rs. None ∷ rs) (outcomes_same words docs xs)

-- as many outcomes as items
pub outcomes_long : {E : Type 0} (σ : Setting) (w : WriterTokens) (xs : List (Result Doc E)) → length (adding.outcomes_of σ w xs) ≡ length xs
unfolding adding.outcomes_of
outcomes_long σ w [] = refl
outcomes_long σ w (x ∷ xs) = ap suc (outcomes_long σ (adding.with_item σ w x) xs)
