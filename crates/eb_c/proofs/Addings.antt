-- What comes of an add, by what was read.
use Rattle.std.proofs.Common.{◌≡◌, ◌⊎◌, ℕ, inl, inr, Bool, true, List, [], ◌∷◌, ◌++◌, Result, Err, ap, ◌∙◌, sym, subst}
use Rattle.eb_base.specs.Document.{Doc}
use Rattle.eb_base.specs.Setting.{Setting}
use Rattle.eb_place.specs.declared.moment.Moment.{Moment}
use Rattle.eb_place.specs.Room.{has_room}
use Rattle.eb_flat.specs.Flat.{Flat, StandsFor}
use Rattle.eb_writer.specs.Progress.{PlacerStands}
use Rattle.eb_c.specs.declared.index.Index.{Index}
use Rattle.eb_c.specs.declared.refusal.Refusal.{Refusal}
use Rattle.eb_c.specs.declared.refusal.Refusal.TheVariants.{NoMemory as out_of_memory}
use Rattle.eb_c.specs.Holding.{progress_of, Holds, IsIndex}
use Rattle.eb_c.specs.Adding.{number_after, docs_after, Adds, WithAdded}

pub adds_read : (σ : Setting) (docs : List Doc) (read r : Result Doc Refusal) (number : ℕ) (i : Index) (words : List ℕ) → (read ≡ Err out_of_memory) ⊎ (read ≡ r)
    → number ≡ number_after σ docs read → Holds i words (docs_after σ docs read) → Adds r docs σ number i words
adds_read σ docs read r number i words (inl none) n h = inl (n ∙ ap (number_after σ docs) none, subst (λ (x : Result Doc Refusal). Holds i words (docs_after σ docs x)) none h)
adds_read σ docs read r number i words (inr same) n h = inr (n ∙ ap (number_after σ docs) same, subst (λ (x : Result Doc Refusal). Holds i words (docs_after σ docs x)) same h)

-- the words and the numbers of an index that has one more document
pub with_added : (σ : Setting) (docs : List Doc) (d : Doc) (placed : Bool) (i : Index) (words : List ℕ) (f : Flat) (n : Moment) → placed ≡ true → has_room σ docs d ≡ true → i.mark ≡ 0x6561_726c
    → StandsFor f n → PlacerStands (progress_of i) n → n.documents.accepted ≡ docs ++ d ∷ [] → words ≡ f.words → WithAdded σ docs d placed i words
with_added σ docs d placed i words f n taken room mark image placer accepted same =
    let holds : Holds i words (docs ++ d ∷ []) = record {
      mark = mark;
      moment = n;
      image = record { setting = sym placer.setting; moment = image.moment; image = same ∙ image.image };
      placer = placer;
      accepted = accepted;
    } in
    subst (λ (b : Bool). WithAdded σ docs d b i words) (sym taken) (room, holds)

-- it is an index still
pub adds_index : (r : Result Doc Refusal) (docs : List Doc) (σ : Setting) (number : ℕ) (i : Index) (words : List ℕ) → Adds r docs σ number i words → IsIndex i words
adds_index r docs σ number i words (inl h) = (docs, h.1)
adds_index r docs σ number i words (inr h) = (docs_after σ docs r, h.1)
