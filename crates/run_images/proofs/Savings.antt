-- `save` takes one more line.
use Rattle.eb_fields.specs.Dialect.{Dialect, dialect_of}
use Rattle.std.proofs.Common.{◌≡◌, ℕ, ◌+◌, ◌≤◌, true, false, List, [], ◌∷◌, ◌++◌, Some, None, refl}
use Rattle.std.proofs.Common.{sym, ap, subst, ◌∙◌, arith, append_assoc, append-nil, length-append}
use Rattle.std.specs.Prelude.{if◌then◌else◌}
use Rattle.std.specs.List.{flat_map}
use Rattle.std.proofs.lemmas.Grind.{flat_map-append}
use Rattle.eb_base.specs.Document.{Doc}
use Rattle.eb_base.specs.Setting.{Setting}
use Rattle.eb_image.specs.Image.{head_of, document_part, image_of, last_byte}
use Rattle.eb_io.specs.Lines.{Line, line}
use Rattle.eb_place.specs.Room.{has_room, HasRoom}
use Rattle.eb_table.specs.Known.{Words}
use Rattle.eb_engine.specs.Tokens.{HistoryToken}
use Rattle.eb_lines.specs.Reading.{Reading, document, refused}
use Rattle.eb_lines.specs.declared.refusal.Refusal.TheVariants.{Full}
use Rattle.eb_lines.specs.Progress.{documents_in, accepted, refusals, is_refused, one_if}
use Rattle.eb_lines.specs.Programs.{Finishes}
use Rattle.eb_lines.specs.Kinds.{Kind, kind_of}
use Rattle.eb_lines.specs.Reads.{ReadsByKind}
use Rattle.eb_lines.proofs.Advancing.{accepted-push, refusals-push}
use Rattle.run_index.specs.IndexRules.{admit}
use Rattle.run_store.specs.Rules.{document_outcome}
use Rattle.run_store.proofs.Coming.{come_none, come_more}
use Rattle.run_images.specs.declared.saving.Saving.{Saving}
use Rattle.run_images.specs.Saved.{Asked, kind_to_save, ReadsToSave, rules_to_save, AreReadToSave, AreParts, IsSaved, HasUnsaved, HasNoUnsaved}
use Rattle.run_images.specs.Saving.{HasSaved, TakesLine}

-- a line of this reading is taken: what it comes to, a, is that of the documents before it
module _ {G : Type 0} (old new : Saving G) (q : Asked) (given : List Line) (so_far : List ℕ) (l : Line) (r a : Reading) (h : HasSaved old q given so_far)
    (reads : ReadsToSave (dialect_of old.dialect) l r) (how : dialect_of new.dialect ≡ dialect_of old.dialect) (is : a ≡ admit q.setting old.writer.docs r) (index : new.index ≡ old.index)
    (writer : new.writer.index ≡ old.writer.index) (docs : new.writer.docs ≡ old.writer.docs ++ documents_in a)
    (number : new.number ≡ old.number + 1) (refused_more : new.refused ≡ old.refused + one_if (is_refused a)) (low : one_if (is_refused a) ≤ 1) where
  a_is : admit q.setting (accepted h.readings) r ≡ a
  a_is = ap (λ ds. admit q.setting ds r) (sym h.documents) ∙ sym is

  pub one_more : HasSaved new q (given ++ l ∷ []) (so_far ++ flat_map document_part (documents_in a))
  one_more = record {
    dialect = how ∙ h.dialect;
    words = h.words;
    index = index ∙ h.index;
    setting = h.setting;
    writer = writer ∙ h.writer;
    readings = h.readings ++ a ∷ [];
    read = subst (λ (x : Reading). AreReadToSave q (given ++ l ∷ []) (h.readings ++ x ∷ [])) a_is (come_more (rules_to_save q) (ReadsToSave q.dialect) given h.readings l r h.read
        (subst (λ ns. ReadsToSave ns l r) h.dialect reads));
    documents = docs ∙ ap (λ ds. ds ++ documents_in a) h.documents ∙ sym (accepted-push h.readings a);
    number = number ∙ omega (arith, h.number, length-append given (l ∷ []));
    refused = refused_more ∙ ap (λ n. n + one_if (is_refused a)) h.refused ∙ sym (refusals-push h.readings a);
    few = omega (arith, number, refused_more, low, h.few);
    written = ap (λ b. b ++ flat_map document_part (documents_in a)) h.written ∙ append_assoc (head_of q.setting) (flat_map document_part (accepted h.readings))
        (flat_map document_part (documents_in a))
        ∙ ap (λ b. head_of q.setting ++ b) (sym (flat_map-append document_part (accepted h.readings) (documents_in a)) ∙ ap (flat_map document_part) (sym (accepted-push h.readings a)));
  }

-- a line that adds nothing
pub takes_quiet : {G : Type 0} (old new : Saving G) (r a : Reading) → ((σ : Setting) → old.index.setting ≡ σ → admit σ old.writer.docs r ≡ a) → documents_in a ≡ []
    → dialect_of new.dialect ≡ dialect_of old.dialect → new.index ≡ old.index → new.writer ≡ old.writer → new.number ≡ old.number + 1 → new.refused ≡ old.refused + one_if (is_refused a)
    → one_if (is_refused a) ≤ 1 → (text : List ℕ) → TakesLine old new text text r
takes_quiet old new r a is none how index writer number more low text = λ l reads q given so_far h.
    let setting : old.index.setting ≡ q.setting = ap (λ (w : Words). w.setting) h.index ∙ h.setting in
    let docs : new.writer.docs ≡ old.writer.docs ++ documents_in a =
    ap (λ (t : HistoryToken). t.docs) writer ∙ sym (append-nil old.writer.docs) ∙ ap (λ ds. old.writer.docs ++ ds) (sym none) in (
      flat_map document_part (documents_in a),
      one_more old new q given so_far l r a h reads how (sym (is q.setting setting)) index (ap (λ (t : HistoryToken). t.index) writer) docs number more low,
      sym (append-nil text) ∙ ap (λ ds. text ++ flat_map document_part ds) (sym none),
    )

-- a document line whose document is added
pub takes_document : {G : Type 0} (old new : Saving G) (d : Doc) (text part text_new : List ℕ) → HasRoom old.index.setting old.writer.docs d → dialect_of new.dialect ≡ dialect_of old.dialect
    → new.index ≡ old.index
    → new.writer ≡ (let t : HistoryToken = record { index = old.writer.index; docs = old.writer.docs ++ d ∷ []; converted = old.writer.converted } in t)
    → new.number ≡ old.number + 1 → new.refused ≡ old.refused → part ≡ document_part d → text_new ≡ text ++ part → TakesLine old new text text_new (document d)
takes_document old new d text part text_new room how index writer number refused_same is put = λ l reads q given so_far h.
    let setting : old.index.setting ≡ q.setting = ap (λ (w : Words). w.setting) h.index ∙ h.setting in
    let fits : has_room q.setting old.writer.docs d ≡ true = subst (λ (s : Setting). HasRoom s old.writer.docs d) setting room in
    let admitted : document d ≡ admit q.setting old.writer.docs (document d) = sym (ap (λ b. document_outcome d (if b then None else Some Full)) fits) in (
      flat_map document_part (d ∷ []),
      one_more old new q given so_far l (document d) (document d) h reads how admitted index (ap (λ (t : HistoryToken). t.index) writer)
          (ap (λ (t : HistoryToken). t.docs) writer) number (omega (arith, refused_same)) (omega arith),
      put ∙ ap (λ b. text ++ b) (is ∙ sym (append-nil (document_part d))),
    )

-- a document line whose document has no room
pub takes_full : {G : Type 0} (old new : Saving G) (d : Doc) (text : List ℕ) → has_room old.index.setting old.writer.docs d ≡ false → dialect_of new.dialect ≡ dialect_of old.dialect
    → new.index ≡ old.index
    → new.writer ≡ old.writer
    → new.number ≡ old.number + 1 → new.refused ≡ old.refused + 1 → TakesLine old new text text (document d)
takes_full old new d text room how index writer number refused_more =
    takes_quiet old new (document d) (refused Full)
    (λ σ setting. ap (λ b. document_outcome d (if b then None else Some Full)) (subst (λ (s : Setting). has_room s old.writer.docs d ≡ false) setting room))
    refl how index writer number refused_more (omega arith) text

-- before the first line
pub saved_none : {G : Type 0} (s : Saving G) (w : Words) (q : Asked) → dialect_of s.dialect ≡ q.dialect → s.index ≡ w → w.setting ≡ q.setting
    → s.writer ≡ (let t : HistoryToken = record { index = w; docs = []; converted = 0 } in t) → s.number ≡ 0
    → s.refused ≡ 0 → HasSaved s q [] (head_of q.setting)
unfolding accepted refusals
saved_none s w q how index setting writer number refused_none = record {
  dialect = how;
  words = w;
  index = index;
  setting = setting;
  writer = ap (λ (t : HistoryToken). t.index) writer;
  readings = [];
  read = come_none (rules_to_save q) (ReadsToSave q.dialect);
  documents = ap (λ (t : HistoryToken). t.docs) writer;
  number = number;
  refused = refused_none;
  few = omega (arith, number, refused_none);
  written = sym (append-nil (head_of q.setting));
}

-- a line is read by its kind
pub reads_to_save : (how : Dialect) (bytes : List ℕ) (k : Kind) (r : Reading) → kind_of how bytes ≡ k → ReadsByKind how (kind_to_save k) bytes r → ReadsToSave how (line bytes) r
reads_to_save how bytes k r is h = subst (λ (x : Kind). ReadsByKind how (kind_to_save x) bytes r) (sym is) h

-- ---- the end

pub parts_none : (q : Asked) → AreParts q [] (head_of q.setting)
unfolding accepted
parts_none q = record { readings = []; read = come_none (rules_to_save q) (ReadsToSave q.dialect); bytes = sym (append-nil (head_of q.setting)) }

pub saving_ends : {G : Type 0} (s : Saving G) (t0 t1 : List ℕ) (q : Asked) (given : List Line) (so_far : List ℕ) → t1 ≡ t0 ++ 0 ∷ [] → HasSaved s q given so_far
    → Finishes HasSaved IsSaved HasUnsaved HasNoUnsaved s t0 t1 s.refused q given so_far
unfolding image_of
saving_ends s t0 t1 q given so_far put h = record {
  printed = last_byte;
  whole = record {
    readings = h.readings;
    read = h.read;
    bytes = ap (λ b. b ++ last_byte) h.written ∙ append_assoc (head_of q.setting) (flat_map document_part (accepted h.readings)) last_byte;
  };
  text = put;
  some = λ n e. (h.readings, h.read, omega (arith, e, h.refused));
  none = λ e. (h.readings, h.read, sym h.refused ∙ e);
}
