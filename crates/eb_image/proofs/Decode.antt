-- The document in the bytes of a part.
use Rattle.std.proofs.Common.{◌≡◌, ℕ, zero, suc, ◌+◌, ◌^◌, ◌<◌, ◌≤◌, List, [], ◌∷◌, ◌++◌, length}
use Rattle.std.proofs.Common.{get_or, take, drop, refl, sym, ap, subst, ◌∙◌, append_assoc, length-append, length-drop, drop-cons, arith}
use Rattle.std.specs.Int.{w16, w64, from_be_bytes, to_be_bytes}
use Rattle.std.specs.List.{flat_map}
use Rattle.std.proofs.lemmas.Nat.{from_be_bytes-to_be_bytes_8}
use Rattle.std.proofs.lemmas.List.{take_at, drop_at, drop-drop}
use Rattle.std.proofs.lemmas.List.Concat.{flat_map-cons}
use Rattle.std.proofs.lemmas.List.Sums.{sum_by-cons}
use Rattle.std.proofs.Math.Seq.{take-suc}
use Rattle.eb_base.specs.Document.{Doc, IsDocument, bytes_of}
use Rattle.eb_image.specs.Image.{term_bytes, document_part}
use Rattle.eb_image.specs.Reading.{IsPartOf}
use Rattle.eb_image.specs.Scan.{two_byte_number}
use Rattle.eb_image.proofs.Scans.{two_whole}

pub part_terms : (d : Doc) → drop 11 (document_part d) ≡ flat_map term_bytes d.terms
unfolding document_part
part_terms d = refl

pub part_len : (d : Doc) → 11 ≤ length (document_part d)
unfolding document_part
part_len d = omega arith

pub part_count : (d : Doc) (bytes : List ℕ) → IsDocument d → bytes ≡ document_part d → two_byte_number bytes 9 ≡ length d.terms
unfolding document_part
part_count d bytes fd e =
    two_whole (length d.terms) 9 bytes (flat_map term_bytes d.terms) (omega (arith, fd.limits.tokens)) (ap (drop 9) e)

pub part_id : (d : Doc) (bytes : List ℕ) → IsDocument d → bytes ≡ document_part d
    → from_be_bytes w64 (get_or bytes 1 0 ∷ get_or bytes 2 0 ∷ get_or bytes 3 0 ∷ get_or bytes 4 0 ∷ get_or bytes 5 0 ∷ get_or bytes 6 0 ∷ get_or bytes 7 0 ∷ get_or bytes 8 0 ∷ []) ≡ d.id
unfolding document_part
part_id d bytes fd e =
    ap (λ (t : List ℕ). from_be_bytes w64 (get_or t 1 0 ∷ get_or t 2 0 ∷ get_or t 3 0 ∷ get_or t 4 0 ∷ get_or t 5 0 ∷ get_or t 6 0 ∷ get_or t 7 0 ∷ get_or t 8 0 ∷ [])) e
    ∙ from_be_bytes-to_be_bytes_8 d.id fd.id

-- the term at a place in the bytes, and what comes after it
pub record Step (bytes : List ℕ) (at i : ℕ) (terms : List (List ℕ)) : Type 0 where
  pub term : List ℕ
  pub number : two_byte_number bytes at ≡ length term
  pub within : at + 2 + length term ≤ length bytes
  pub letters : take (length term) (drop (at + 2) bytes) ≡ term
  pub rest : drop (at + 2 + length term) bytes ≡ flat_map term_bytes (drop (i + 1) terms)
  pub more : take (i + 1) terms ≡ take i terms ++ term ∷ []

few_bytes : (terms : List (List ℕ)) (i : ℕ) → length (get_or terms i []) ≤ bytes_of terms
few_bytes [] i = omega arith
few_bytes (t ∷ ts) zero = omega (arith, sum_by-cons length t ts)
few_bytes (t ∷ ts) (suc i) = omega (arith, sum_by-cons length t ts, few_bytes ts i)

pub step : (bytes : List ℕ) (at i : ℕ) (terms : List (List ℕ)) → i < length terms → bytes_of terms < 2 ^ 16 → at ≤ length bytes
    → drop at bytes ≡ flat_map term_bytes (drop i terms) → Step bytes at i terms
step bytes at i terms lt fits le e =
    let t = get_or terms i [] in
    let next = drop (i + 1) terms in
    let s : suc i ≡ i + 1 = omega arith in
    let cut : drop at bytes ≡ term_bytes t ++ flat_map term_bytes next =
    e ∙ (ap (flat_map term_bytes) (drop-cons terms i [] lt ∙ ap (λ (j : ℕ). t ∷ drop j terms) s) ∙ flat_map-cons term_bytes t next) in
    let apart = cut ∙ append_assoc (to_be_bytes w16 (length t)) t (flat_map term_bytes next) in
    let small = few_bytes terms i in
    let number = two_whole (length t) at bytes (t ++ flat_map term_bytes next) (omega (arith, small, fits)) apart in
    let two : length (term_bytes t) ≡ 2 + length t = length-append (to_be_bytes w16 (length t)) t in
    let letters : drop (at + 2) bytes ≡ t ++ flat_map term_bytes next =
    sym (drop-drop 2 at bytes) ∙ (ap (drop 2) apart) in
    let sum : at + (2 + length t) ≡ at + 2 + length t = omega arith in
    record {
      term = t;
      number = number;
      within = omega (arith, ap length cut, length-drop at bytes, length-append (term_bytes t) (flat_map term_bytes next), two, le);
      letters = ap (take (length t)) letters ∙ take_at t (flat_map term_bytes next) (length t) refl;
      rest = ap (λ (j : ℕ). drop j bytes) (sym sum) ∙ (sym (drop-drop (2 + length t) at bytes)
          ∙ (ap (drop (2 + length t)) cut ∙ drop_at (term_bytes t) (flat_map term_bytes next) (2 + length t) two));
      more = ap (λ (j : ℕ). take j terms) (sym s) ∙ take-suc terms i [] lt;
    }

pub same_doc : (d e : Doc) (id : ℕ) (terms : List (List ℕ)) → id ≡ d.id → terms ≡ d.terms → e ≡ record { id = id; terms = terms } → e ≡ d
same_doc d e id terms i t is =
    is ∙ (ap (λ (n : ℕ). let r : Doc = record { id = n; terms = terms } in r) i ∙ ap (λ (ts : List (List ℕ)). let r : Doc = record { id = d.id; terms = ts } in r) t)

pub is_part_of : (d e : Doc) (bytes : List ℕ) → IsDocument d → bytes ≡ document_part d → e ≡ d → IsPartOf e bytes
is_part_of d e bytes fd is same =
    let P : Doc → Type 0 = λ x. IsPartOf x bytes in
    subst P (sym same) (record { within = fd; is = is })
