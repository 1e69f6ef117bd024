-- Parts, heads and images of which one comes first in another.
use Rattle.std.proofs.Common.{◌≡◌, ℕ, suc, ◌^◌, ◌<◌, inl, inr, List, [], ◌∷◌, ◌++◌, length, All, refl, sym, ap, ◌∙◌, append_assoc, append-nil, arith}
use Rattle.std.specs.Int.{w16, w32, w64, to_be_bytes}
use Rattle.std.specs.List.{flat_map}
use Rattle.std.proofs.lemmas.Nat.{pow_below}
use Rattle.std.proofs.lemmas.List.{append_cancel_left}
use Rattle.std.proofs.lemmas.List.Concat.{flat_map-cons}
use Rattle.std.proofs.lemmas.List.Sums.{sum_by-cons}
use Rattle.eb_base.specs.Document.{Doc, IsDocument, bytes_of}
use Rattle.eb_base.specs.Setting.{Setting, IsSetting, AreTerms}
use Rattle.eb_image.specs.Image.{mark, head_of, term_bytes, document_part, last_byte, image_of, ImagesDiffer}
use Rattle.eb_image.specs.Reading.{IsNextPart}
use Rattle.eb_image.proofs.Bytes.{same_front, two_front, four_front, eight_front}

term_front : (t u x y : List ℕ) → length t < 2 ^ 16 → length u < 2 ^ 16 → term_bytes t ++ x ≡ term_bytes u ++ y → (t ≡ u) × (x ≡ y)
term_front t u x y lt lu e =
    let f : to_be_bytes w16 (length t) ++ (t ++ x) ≡ to_be_bytes w16 (length u) ++ (u ++ y) =
    sym (append_assoc (to_be_bytes w16 (length t)) t x) ∙ (e ∙ append_assoc (to_be_bytes w16 (length u)) u y) in
    let len = two_front (length t) (length u) (t ++ x) (u ++ y) lt lu f in
    same_front t u x y len.0 len.1

pub terms_front : (ts us : List (List ℕ)) (x y : List ℕ) → length ts ≡ length us → bytes_of ts < 2 ^ 16 → bytes_of us < 2 ^ 16
    → flat_map term_bytes ts ++ x ≡ flat_map term_bytes us ++ y → (ts ≡ us) × (x ≡ y)
terms_front [] [] x y len lt lu e = (refl, e)
terms_front [] (u ∷ us) x y len lt lu e = absurd (omega arith)
terms_front (t ∷ ts) [] x y len lt lu e = absurd (omega arith)
terms_front (t ∷ ts) (u ∷ us) x y len lt lu e =
    let left : flat_map term_bytes (t ∷ ts) ++ x ≡ term_bytes t ++ (flat_map term_bytes ts ++ x) =
    ap (λ (b : List ℕ). b ++ x) (flat_map-cons term_bytes t ts) ∙ append_assoc (term_bytes t) (flat_map term_bytes ts) x in
    let right : flat_map term_bytes (u ∷ us) ++ y ≡ term_bytes u ++ (flat_map term_bytes us ++ y) =
    ap (λ (b : List ℕ). b ++ y) (flat_map-cons term_bytes u us) ∙ append_assoc (term_bytes u) (flat_map term_bytes us) y in
    let st = sum_by-cons length t ts in
    let su = sum_by-cons length u us in
    let first = term_front t u (flat_map term_bytes ts ++ x) (flat_map term_bytes us ++ y) (omega (arith, st, lt)) (omega (arith, su, lu)) (sym left ∙ (e ∙ right)) in
    let rest = terms_front ts us x y (omega arith) (omega (arith, st, lt)) (omega (arith, su, lu)) first.1 in
    (ap (λ (z : List ℕ). z ∷ ts) first.0 ∙ ap (λ (zs : List (List ℕ)). u ∷ zs) rest.0, rest.1)

cut_part : (d : Doc) (x : List ℕ)
    → document_part d ++ x ≡ 1 ∷ (to_be_bytes w64 d.id ++ (to_be_bytes w16 (length d.terms) ++ (flat_map term_bytes d.terms ++ x)))
unfolding document_part
cut_part d x =
    let a = to_be_bytes w64 d.id in
    let b = to_be_bytes w16 (length d.terms) in
    let c = flat_map term_bytes d.terms in
    ap (λ (t : List ℕ). 1 ∷ t) (append_assoc a (b ++ c) x ∙ ap (λ (t : List ℕ). a ++ t) (append_assoc b c x))

tail_of : (a b : ℕ) (x y : List ℕ) → a ∷ x ≡ b ∷ y → x ≡ y
tail_of a b x y e = cc

pub head_byte : (a b : ℕ) (x y : List ℕ) → a ∷ x ≡ b ∷ y → a ≡ b
head_byte a b x y e = cc

pub part_front : (d e : Doc) (x y : List ℕ) → IsDocument d → IsDocument e → document_part d ++ x ≡ document_part e ++ y → (d ≡ e) × (x ≡ y)
part_front d e x y fd fe is =
    let both = tail_of _ _ _ _ (sym (cut_part d x) ∙ (is ∙ cut_part e y)) in
    let id = eight_front d.id e.id _ _ fd.id fe.id both in
    let count = two_front (length d.terms) (length e.terms) _ _ (omega (arith, fd.limits.tokens)) (omega (arith, fe.limits.tokens)) id.1 in
    let terms = terms_front d.terms e.terms x y count.0 (omega (arith, fd.limits.bytes)) (omega (arith, fe.limits.bytes)) count.1 in
    let one : d ≡ record { id = e.id; terms = d.terms } = ap (λ (i : ℕ). let r : Doc = record { id = i; terms = d.terms } in r) id.0 in
    let two : record { id = e.id; terms = d.terms } ≡ e = ap (λ (t : List (List ℕ)). let r : Doc = record { id = e.id; terms = t } in r) terms.0 in
    (one ∙ two, terms.1)

pub part_not_last : (d : Doc) (x y : List ℕ) → document_part d ++ x ≡ 0 ∷ y → ⊥
part_not_last d x y e = let one = head_byte 1 0 _ y (sym (cut_part d x) ∙ e) in omega (arith, one)

pub parts_front : (docs others : List Doc) (x y : List ℕ) → All IsDocument docs → All IsDocument others
    → flat_map document_part docs ++ 0 ∷ x ≡ flat_map document_part others ++ 0 ∷ y → (docs ≡ others) × (x ≡ y)
parts_front [] [] x y fd fo e = (refl, tail_of _ _ _ _ e)
parts_front [] (o ∷ os) x y fd fo e =
    let right : flat_map document_part (o ∷ os) ++ 0 ∷ y ≡ document_part o ++ (flat_map document_part os ++ 0 ∷ y) =
    ap (λ (b : List ℕ). b ++ 0 ∷ y) (flat_map-cons document_part o os) ∙ append_assoc (document_part o) (flat_map document_part os) (0 ∷ y) in
    absurd (part_not_last o _ x (sym right ∙ sym e))
parts_front (d ∷ ds) [] x y fd fo e =
    let left : flat_map document_part (d ∷ ds) ++ 0 ∷ x ≡ document_part d ++ (flat_map document_part ds ++ 0 ∷ x) =
    ap (λ (b : List ℕ). b ++ 0 ∷ x) (flat_map-cons document_part d ds) ∙ append_assoc (document_part d) (flat_map document_part ds) (0 ∷ x) in
    absurd (part_not_last d _ y (sym left ∙ e))
parts_front (d ∷ ds) (o ∷ os) x y fd fo e =
    let left : flat_map document_part (d ∷ ds) ++ 0 ∷ x ≡ document_part d ++ (flat_map document_part ds ++ 0 ∷ x) =
    ap (λ (b : List ℕ). b ++ 0 ∷ x) (flat_map-cons document_part d ds) ∙ append_assoc (document_part d) (flat_map document_part ds) (0 ∷ x) in
    let right : flat_map document_part (o ∷ os) ++ 0 ∷ y ≡ document_part o ++ (flat_map document_part os ++ 0 ∷ y) =
    ap (λ (b : List ℕ). b ++ 0 ∷ y) (flat_map-cons document_part o os) ∙ append_assoc (document_part o) (flat_map document_part os) (0 ∷ y) in
    let first = part_front d o _ _ (fd 0 d (omega arith)) (fo 0 o (omega arith)) (sym left ∙ (e ∙ right)) in
    let rest = parts_front ds os x y (λ k z lt. fd (suc k) z (omega arith)) (λ k z lt. fo (suc k) z (omega arith)) first.1 in
    (ap (λ (z : Doc). z ∷ ds) first.0 ∙ ap (λ (zs : List Doc). o ∷ zs) rest.0, rest.1)

pub few_terms : (n : ℕ) → AreTerms n → n < 2 ^ 32
few_terms n h = let below = pow_below h.0 21 (omega (arith, h.2)) in omega (arith, h.3, below)

pub head_front : (σ τ : Setting) (x y : List ℕ) → IsSetting σ → IsSetting τ → head_of σ ++ x ≡ head_of τ ++ y → (σ ≡ τ) × (x ≡ y)
unfolding head_of
head_front σ τ x y fs ft e =
    let cut : (ρ : Setting) (z : List ℕ) → head_of ρ ++ z ≡ mark ++ (to_be_bytes w32 ρ.segments ++ (to_be_bytes w32 ρ.docs ++ (to_be_bytes w32 ρ.terms ++ z))) =
    λ ρ z. refl in
    let both = append_cancel_left mark _ _ (sym (cut σ x) ∙ (e ∙ cut τ y)) in
    let segments = four_front σ.segments τ.segments _ _ (omega (arith, fs.segments.1)) (omega (arith, ft.segments.1)) both in
    let docs = four_front σ.docs τ.docs _ _ (omega (arith, fs.docs.1)) (omega (arith, ft.docs.1)) segments.1 in
    let terms = four_front σ.terms τ.terms x y (few_terms _ fs.terms) (few_terms _ ft.terms) docs.1 in
    let one : σ ≡ record { segments = τ.segments; docs = σ.docs; terms = σ.terms } =
    ap (λ (n : ℕ). let r : Setting = record { segments = n; docs = σ.docs; terms = σ.terms } in r) segments.0 in
    let two : record { segments = τ.segments; docs = σ.docs; terms = σ.terms } ≡ record { segments = τ.segments; docs = τ.docs; terms = σ.terms } =
    ap (λ (n : ℕ). let r : Setting = record { segments = τ.segments; docs = n; terms = σ.terms } in r) docs.0 in
    let three : record { segments = τ.segments; docs = τ.docs; terms = σ.terms } ≡ τ =
    ap (λ (n : ℕ). let r : Setting = record { segments = τ.segments; docs = τ.docs; terms = n } in r) terms.0 in
    (one ∙ (two ∙ three), terms.1)

pub images_differ_all : ImagesDiffer
unfolding image_of
images_differ_all σ τ docs others fs ft fd fo front =
    let left : image_of σ docs ++ front.rest ≡ head_of σ ++ (flat_map document_part docs ++ 0 ∷ front.rest) =
    append_assoc (head_of σ) (flat_map document_part docs ++ last_byte) front.rest
    ∙ ap (λ (t : List ℕ). head_of σ ++ t) (append_assoc (flat_map document_part docs) last_byte front.rest) in
    let heads = head_front σ τ _ _ fs ft (sym left ∙ sym front.is) in
    let parts = parts_front docs others front.rest [] fd fo heads.1 in
    (heads.0, parts.0)

-- what may come next is no proper prefix of what may come next
pub next_alone : (a b rest : List ℕ) → IsNextPart a → IsNextPart b → b ≡ a ++ rest → rest ≡ []
next_alone a b rest (inl x) (inl y) e = tail_of 0 0 rest [] (ap (λ (t : List ℕ). t ++ rest) (sym x) ∙ (sym e ∙ y))
next_alone a b rest (inl x) (inr p) e =
    absurd (part_not_last p.document [] rest (append-nil _ ∙ (sym p.is ∙ (e ∙ ap (λ (t : List ℕ). t ++ rest) x))))
next_alone a b rest (inr p) (inl y) e =
    absurd (part_not_last p.document rest [] (ap (λ (t : List ℕ). t ++ rest) (sym p.is) ∙ (sym e ∙ y)))
next_alone a b rest (inr p) (inr q) e =
    (part_front p.document q.document rest [] p.within q.within
    (ap (λ (t : List ℕ). t ++ rest) (sym p.is) ∙ (sym e ∙ (q.is ∙ sym (append-nil _))))).1
