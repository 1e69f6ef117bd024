-- The shortest part, or byte 0, that bytes begin.
use Rattle.std.proofs.Common.{◌≡◌, ℕ, ◌+◌, ◌-◌, ◌*◌, ◌<◌, ◌≤◌, inl, inr, List, [], ◌∷◌, ◌++◌, length, get_or, drop, Option, Some, None, refl, sym, ap, ◌∙◌, append_assoc, length-append, arith}
use Rattle.std.specs.Int.{w16, w64, from_be_bytes, to_be_bytes}
use Rattle.std.specs.List.{flat_map}
use Rattle.std.proofs.lemmas.Bool.{cases_lt}
use Rattle.std.proofs.lemmas.Nat.{be_bytes_8}
use Rattle.eb_base.specs.Document.{Doc, IsDocument, most_bytes, most_tokens}
use Rattle.eb_image.specs.Image.{term_bytes, document_part, last_byte, IsFront}
use Rattle.eb_image.specs.Reading.{IsPart, IsNextPart, Begins}
use Rattle.eb_image.specs.Scan.{byte_window, two_byte_number, IsShortest}
use Rattle.eb_image.proofs.Scans.{scan}
use Rattle.eb_image.proofs.Bytes.{IsBytes, length-byte_window, byte_window-add, window_fits, window_all}
use Rattle.eb_image.proofs.Parts.{next_alone}
use Rattle.eb_image.proofs.Scans.{scan_sound, scan_complete, scan_past, terms_len, front_byte, two_front_of, two_in_window}

-- where the terms end, the bytes are those of a part, with 0 for each that is missing
pub part_found : (bytes : List ℕ) (count end : ℕ) → IsBytes bytes → get_or bytes 0 0 ≡ 1 → count ≡ two_byte_number bytes 9 → count ≤ most_tokens
    → scan count 11 most_bytes bytes ≡ Some end → IsPart (byte_window bytes 0 end)
unfolding document_part
part_found bytes count end fits one num few e =
    let t = scan_sound count 11 most_bytes end bytes fits e in
    let id = from_be_bytes w64 (byte_window bytes 1 8) in
    let id_is : to_be_bytes w64 id ≡ byte_window bytes 1 8 = be_bytes_8 (byte_window bytes 1 8) id refl (window_fits bytes 1 8 fits) refl in
    let count_is : to_be_bytes w16 (length t.terms) ≡ byte_window bytes 9 2 = ap (to_be_bytes w16) (t.count ∙ num) ∙ two_in_window bytes 9 fits in
    let rest = byte_window bytes 11 t.len in
    let whole : byte_window bytes 0 end ≡ get_or bytes 0 0 ∷ (byte_window bytes 1 8 ++ (byte_window bytes 9 2 ++ rest)) =
    ap (byte_window bytes 0) t.ends ∙ byte_window-add bytes 11 0 t.len 11 refl in
    record {
      document = record { id = id; terms = t.terms };
      within = record {
        id = omega (arith, fits 1, fits 2, fits 3, fits 4, fits 5, fits 6, fits 7, fits 8);
        terms = t.are;
        limits = record { tokens = omega (arith, t.count, few); bytes = t.within };
      };
      is = whole ∙ (ap (λ (b : ℕ). b ∷ (byte_window bytes 1 8 ++ (byte_window bytes 9 2 ++ rest))) one
          ∙ (ap (λ (b : List ℕ). 1 ∷ (b ++ (byte_window bytes 9 2 ++ rest))) (sym id_is)
          ∙ (ap (λ (b : List ℕ). 1 ∷ (to_be_bytes w64 id ++ (b ++ rest))) (sym count_is)
          ∙ ap (λ (b : List ℕ). 1 ∷ (to_be_bytes w64 id ++ (to_be_bytes w16 (length t.terms) ++ b))) (sym t.stand))));
    }

pub record Least (bytes : List ℕ) (d : Doc) : Type 0 where
  pub few : two_byte_number bytes 9 ≤ length d.terms
  pub end : ℕ
  pub scans : scan (two_byte_number bytes 9) 11 most_bytes bytes ≡ Some end
  pub least : end ≤ length (document_part d)

-- what a scan finds in the first bytes of a part
pub part_least : (bytes rest : List ℕ) (d : Doc) → IsDocument d → document_part d ≡ bytes ++ rest → Least bytes d
unfolding document_part
part_least bytes rest d fd e =
    let flat = flat_map term_bytes d.terms in
    let nine : drop 9 (document_part d) ≡ to_be_bytes w16 (length d.terms) ++ flat = refl in
    let eleven : drop 11 (document_part d) ≡ flat = refl in
    let len : length (document_part d) ≡ 11 + length flat = omega arith in
    let num = two_front_of (length d.terms) 9 bytes rest (document_part d) flat (omega (arith, fd.limits.tokens)) e nine in
    elim (cases_lt 10 (length bytes)) [
      | inl less ↦
          let found = scan_complete d.terms 11 most_bytes bytes rest (document_part d) e eleven fd.limits.bytes (omega arith) in
          record {
            few = num.0;
            end = found.0;
            scans = ap (λ (n : ℕ). scan n 11 most_bytes bytes) (num.1 less) ∙ found.1;
            least = omega (arith, found.2, len);
          }
      | inr past ↦
          record {
            few = num.0;
            end = 11 + 2 * two_byte_number bytes 9;
            scans = scan_past (two_byte_number bytes 9) 11 most_bytes bytes (omega arith);
            least = omega (arith, num.0, terms_len d.terms, len);
          }
    ]

part_byte : (d : Doc) → get_or (document_part d) 0 0 ≡ 1
unfolding document_part
part_byte d = refl

-- of what begins with these bytes, the first byte
first_of : (bytes rest whole : List ℕ) → 0 < length bytes → IsNextPart whole → whole ≡ bytes ++ rest
    → (get_or bytes 0 0 ≤ 1) × (get_or bytes 0 0 ≡ 0 → length bytes ≡ 1)
first_of bytes rest whole some (inl x) e =
    let zero_is : get_or bytes 0 0 ≡ 0 = front_byte bytes rest whole 0 e some ∙ ap (λ (t : List ℕ). get_or t 0 0) x in
    let len = ap length (sym x ∙ e) in
    let sum = length-append bytes rest in
    (omega (arith, zero_is), λ z. omega (arith, len, sum, some))
first_of bytes rest whole some (inr p) e =
    let one_is : get_or bytes 0 0 ≡ 1 = front_byte bytes rest whole 0 e some ∙ (ap (λ (t : List ℕ). get_or t 0 0) p.is ∙ part_byte p.document) in
    (omega (arith, one_is), λ z. absurd (omega (arith, one_is, z)))

pub not_first : (bytes : List ℕ) → 0 < length bytes → 1 < get_or bytes 0 0 → Begins IsNextPart bytes → ⊥
not_first bytes some high b = omega (arith, high, (first_of bytes b.2.rest b.0 some b.1 b.2.is).0)

pub not_more : (bytes : List ℕ) → get_or bytes 0 0 ≡ 0 → 1 < length bytes → Begins IsNextPart bytes → ⊥
not_more bytes z more b = omega (arith, more, (first_of bytes b.2.rest b.0 (omega arith) b.1 b.2.is).1 z)

-- a document whose part begins with these bytes
part_begun : (bytes : List ℕ) → 0 < length bytes → get_or bytes 0 0 ≡ 1 → Begins IsNextPart bytes → (d : Doc) × Least bytes d
part_begun bytes some one (whole, inl x, front) =
    let zero_is : get_or bytes 0 0 ≡ 0 = front_byte bytes front.rest whole 0 front.is some ∙ ap (λ (t : List ℕ). get_or t 0 0) x in
    absurd (omega (arith, zero_is, one))
part_begun bytes some one (whole, inr p, front) =
    (p.document, part_least bytes front.rest p.document p.within (sym p.is ∙ front.is))

few_begun : (bytes : List ℕ) → Begins IsNextPart bytes → 0 < length bytes → get_or bytes 0 0 ≡ 1 → two_byte_number bytes 9 ≤ most_tokens
few_begun bytes (whole, inl x, front) some one =
    let zero_is : get_or bytes 0 0 ≡ 0 = front_byte bytes front.rest whole 0 front.is some ∙ ap (λ (t : List ℕ). get_or t 0 0) x in
    absurd (omega (arith, zero_is, one))
few_begun bytes (whole, inr p, front) some one =
    let l = part_least bytes front.rest p.document p.within (sym p.is ∙ front.is) in
    omega (arith, l.few, p.within.limits.tokens)

pub not_many : (bytes : List ℕ) (count : ℕ) → 0 < length bytes → get_or bytes 0 0 ≡ 1 → count ≡ two_byte_number bytes 9 → most_tokens < count → Begins IsNextPart bytes → ⊥
not_many bytes count some one num many b =
    let few = few_begun bytes b some one in
    omega (arith, few, num, many)

none_some : (n : ℕ) (x : Option ℕ) → x ≡ None → x ≡ Some n → ⊥
none_some n x a b = cc

pub not_scanned : (bytes : List ℕ) (count : ℕ) → 0 < length bytes → get_or bytes 0 0 ≡ 1 → count ≡ two_byte_number bytes 9 → scan count 11 most_bytes bytes ≡ None → Begins IsNextPart bytes → ⊥
not_scanned bytes count some one num none b =
    let l = (part_begun bytes some one b).1 in
    none_some l.end (scan (two_byte_number bytes 9) 11 most_bytes bytes) (ap (λ (n : ℕ). scan n 11 most_bytes bytes) (sym num) ∙ none) l.scans

pub not_long : (bytes : List ℕ) (count end : ℕ) → IsBytes bytes → get_or bytes 0 0 ≡ 1 → count ≡ two_byte_number bytes 9 → count ≤ most_tokens
    → scan count 11 most_bytes bytes ≡ Some end → end < length bytes → Begins IsNextPart bytes → ⊥
not_long bytes count end fits one num few e long b =
    let part = part_found bytes count end fits one num few e in
    let more = byte_window bytes end (length bytes - end) in
    let cut : bytes ≡ byte_window bytes 0 end ++ more =
    let sum : length bytes ≡ end + (length bytes - end) = omega arith in
    sym (window_all bytes) ∙ (ap (byte_window bytes 0) sum ∙ byte_window-add bytes end 0 (length bytes - end) end (omega arith)) in
    let none = next_alone (byte_window bytes 0 end) b.0 (more ++ b.2.rest) (inr part) b.1
    (b.2.is ∙ (ap (λ (t : List ℕ). t ++ b.2.rest) cut ∙ append_assoc (byte_window bytes 0 end) more b.2.rest)) in
    let len = ap length none in
    omega (arith, len, length-append more b.2.rest, length-byte_window bytes end (length bytes - end), long)

some_same : (a b : ℕ) (x : Option ℕ) → x ≡ Some a → x ≡ Some b → a ≡ b
some_same a b x p q = cc

-- no part that begins with these bytes is shorter
shortest_least : (bytes : List ℕ) (count end : ℕ) → 0 < length bytes → get_or bytes 0 0 ≡ 1 → count ≡ two_byte_number bytes 9
    → scan count 11 most_bytes bytes ≡ Some end → (other : List ℕ) → IsNextPart other → IsFront bytes other → end ≤ length other
shortest_least bytes count end some one num e other (inl x) front =
    let zero_is : get_or bytes 0 0 ≡ 0 = front_byte bytes front.rest other 0 front.is some ∙ ap (λ (t : List ℕ). get_or t 0 0) x in
    absurd (omega (arith, zero_is, one))
shortest_least bytes count end some one num e other (inr p) front =
    let l = part_least bytes front.rest p.document p.within (sym p.is ∙ front.is) in
    let same = some_same end l.end (scan (two_byte_number bytes 9) 11 most_bytes bytes) (ap (λ (n : ℕ). scan n 11 most_bytes bytes) (sym num) ∙ e) l.scans in
    let len = ap length p.is in
    omega (arith, same, l.least, len)

pub shortest_found : (bytes : List ℕ) (count end : ℕ) → IsBytes bytes → 0 < length bytes → get_or bytes 0 0 ≡ 1 → count ≡ two_byte_number bytes 9
    → count ≤ most_tokens → scan count 11 most_bytes bytes ≡ Some end → length bytes ≤ end → IsShortest bytes end
shortest_found bytes count end fits some one num few e short = record {
  whole = byte_window bytes 0 end;
  next = inr (part_found bytes count end fits one num few e);
  front = record {
    rest = byte_window bytes (length bytes) (end - length bytes);
    is = let sum : end ≡ length bytes + (end - length bytes) = omega arith in
        ap (byte_window bytes 0) sum ∙ (byte_window-add bytes (length bytes) 0 (end - length bytes) (length bytes) (omega arith)
        ∙ ap (λ (t : List ℕ). t ++ byte_window bytes (length bytes) (end - length bytes)) (window_all bytes));
  };
  len = length-byte_window bytes 0 end;
  least = shortest_least bytes count end some one num e;
}

pub next_len : (whole : List ℕ) → IsNextPart whole → 1 ≤ length whole
unfolding document_part
next_len whole (inl x) = let len = ap length x in omega (arith, len)
next_len whole (inr p) = let len = ap length p.is in omega (arith, len)

front_of_last : (bytes : List ℕ) → length bytes ≤ 1 → (0 < length bytes → get_or bytes 0 0 ≡ 0) → IsFront bytes last_byte
front_of_last [] le z = record { rest = last_byte; is = refl }
front_of_last (b ∷ []) le z = record { rest = []; is = ap (λ (n : ℕ). n ∷ []) (sym (z (omega arith))) }
front_of_last (b ∷ c ∷ bs) le z = absurd (omega arith)

-- nothing and the byte 0 begin the byte 0
pub shortest_last : (bytes : List ℕ) → length bytes ≤ 1 → (0 < length bytes → get_or bytes 0 0 ≡ 0) → IsShortest bytes 1
shortest_last bytes le z = record {
  whole = last_byte;
  next = inl refl;
  front = front_of_last bytes le z;
  len = refl;
  least = λ other next front. next_len other next;
}

pub last_if : (bytes : List ℕ) → IsNextPart bytes → get_or bytes 0 0 ≡ 0 → bytes ≡ last_byte
last_if bytes (inl x) z = x
last_if bytes (inr p) z =
    let one_is : get_or bytes 0 0 ≡ 1 = ap (λ (t : List ℕ). get_or t 0 0) p.is ∙ part_byte p.document in
    absurd (omega (arith, one_is, z))

pub part_if : (bytes : List ℕ) → IsNextPart bytes → (get_or bytes 0 0 ≡ 0 → ⊥) → IsPart bytes
part_if bytes (inl x) nz = absurd (nz (ap (λ (t : List ℕ). get_or t 0 0) x))
part_if bytes (inr p) nz = p
