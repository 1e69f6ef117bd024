-- What a frame is asked, and what it answers.
use Rattle.std.proofs.Common.{◌≡◌, ℕ, zero, suc, ◌+◌, ◌<◌, ◌≤◌, true, min, List, [], ◌∷◌, length, Option, Some, None, slice_get, refl, ap, sym, ◌∙◌, subst, arith}
use mathlib.Core.List.{IsPrefix}
use Rattle.eb_base.specs.Document.{Doc}
use Rattle.eb_base.specs.Query.{Tree}
use Rattle.eb_base.specs.Match.{is_match}
use Rattle.eb_place.specs.declared.moment.Moment.{Moment}
use Rattle.eb_place.specs.Moments.{IsMoment}
use Rattle.eb_place.specs.Later.{IsNotBefore}
use Rattle.eb_cursor.specs.Tops.{top}
use Rattle.eb_cursor.specs.Lists.{gives}
use Rattle.eb_cursor.specs.Posted.{doc_in, match_at}
use Rattle.eb_cursor.specs.Asked.{IsNumberBelow}
use Rattle.eb_cursor.specs.Ready.{Ready}
use Rattle.eb_cursor.specs.Greatest.{MatchesAt, IsGreatestMatch}
use Rattle.eb_cursor.specs.Frames.{query_of, MayAsk}
use Rattle.eb_cursor.specs.declared.cursor.Cursor.{Cursor}
use Rattle.eb_cursor.specs.declared.frame.Frame.{Frame}
use Rattle.eb_cursor.proofs.Documents.{top_reaches}
use Rattle.eb_base.proofs.Matching.{match_decides}
use Rattle.eb_cursor.proofs.Readies.{ready_lower, ready_later}
use Rattle.eb_cursor.proofs.Tellings.{gives_later}
use Rattle.eb_cursor.proofs.Tops.{top_le, top_passes}

-- the cursors of a frame that may be asked are ready, also later
pub asks_at : (l m : Moment) (f : Frame) (docs : List Doc) (document : ℕ) (cs : List Cursor) → MayAsk l f docs document
    → IsNotBefore m l → cs ≡ f.cursors.items → Ready (gives m) docs (query_of f) cs (min (document + 1) (length docs))
asks_at l m f docs document cs may later e =
    subst (λ z. Ready (gives m) docs (query_of f) z (min (document + 1) (length docs))) (sym e)
    (ready_later (gives l) (gives m) (gives_later l m (record { is = may.is; later = later })) docs (query_of f) f.cursors.items (min (document + 1) (length docs)) may.ready)

-- ---- the answer

there_matches : (q : Tree) (docs : List Doc) (n : ℕ) → MatchesAt q docs n → (n < length docs) × (match_at docs q n ≡ true)
there_matches q docs n h =
    (in_docs docs n h.0 h.1, ap (λ (o : Option Doc). is_match q (doc_in o)) h.1 ∙ (match_decides q h.0).1 h.2)
  where
    in_docs : (ds : List Doc) (n : ℕ) (d : Doc) → slice_get ds n ≡ Some d → n < length ds
    in_docs [] n d e = cc
    in_docs (x ∷ xs) zero d e = omega arith
    in_docs (x ∷ xs) (suc n) d e = omega (arith, in_docs xs n d e)

matches_there : (q : Tree) (docs : List Doc) (n : ℕ) → n < length docs → match_at docs q n ≡ true → MatchesAt q docs n
matches_there q [] n h e = absurd (omega arith)
matches_there q (d ∷ ds) zero h e = (d, refl, (match_decides q d).0 e)
matches_there q (d ∷ ds) (suc n) h e = matches_there q ds n (omega arith) e

-- the number below the top is the greatest match
pub greatest_of : (q : Tree) (docs : List Doc) (most end found : ℕ) (r : Option ℕ) → end ≡ min (most + 1) (length docs)
    → found ≡ top (match_at docs q) end → IsNumberBelow found r → IsGreatestMatch q docs most r
greatest_of q docs most end found None e t b = λ k h m.
    let w = there_matches q docs k m in
    let low : k < end = omega (arith, w.0) in
    let up = top_reaches (match_at docs q) k end w.1 low in
    omega arith
greatest_of q docs most end found (Some n) e t b =
    let le = top_le (match_at docs q) end in
    record {
      within = omega arith;
      matches = matches_there q docs n (omega arith) (top_passes (match_at docs q) end n (sym t ∙ b));
      greatest = λ k above h m.
          let w = there_matches q docs k m in
          let low : k < end = omega (arith, w.0) in
          let up = top_reaches (match_at docs q) k end w.1 low in
          omega arith;
    }

-- what may be asked next
pub lower_asks : (q : Tree) (m : Moment) (docs : List Doc) (cs : List Cursor) (most end lower : ℕ) → end ≡ min (most + 1) (length docs)
    → lower ≤ most → Ready (gives m) docs q cs end → Ready (gives m) docs q cs (min (lower + 1) (length docs))
lower_asks q m docs cs most end lower e h r = ready_lower (gives m) docs q cs (min (lower + 1) (length docs)) end (omega arith) r

-- ---- the first documents

pub first_so_many : (xs : List Doc) (n : ℕ) → n ≤ length xs → (docs : List Doc) × IsPrefix docs xs × (length docs ≡ n)
first_so_many xs zero h = ([], (xs, refl), refl)
first_so_many [] (suc n) h = absurd (omega arith)
first_so_many (x ∷ xs) (suc n) h = let w = first_so_many xs n (omega arith) in (x ∷ w.0, (w.1.0, ap (λ (z : List Doc). x ∷ z) w.1.1), ap suc w.2)

-- the search goes on
pub next_asks : (n : Moment) (f g : Frame) (docs : List Doc) (document : ℕ) (cs : List Cursor) → IsMoment n → f.documents ≡ length docs → query_of g ≡ query_of f
    → g.documents ≡ f.documents → g.cursors.items ≡ cs → Ready (gives n) docs (query_of f) cs (min (document + 1) (length docs)) → MayAsk n g docs document
next_asks n f g docs document cs is count q d e r = record {
  is = is;
  documents = d ∙ count;
  ready = subst (λ (z : List Cursor). Ready (gives n) docs (query_of g) z (min (document + 1) (length docs))) (sym e)
      (subst (λ (x : Tree). Ready (gives n) docs x cs (min (document + 1) (length docs))) (sym q) r);
}
