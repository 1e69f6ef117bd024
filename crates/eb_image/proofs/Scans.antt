-- What a scan of the first bytes of a part finds.
use Rattle.std.specs.Prelude.{if◌then◌else◌, nat_lt, MatchOption}
use Rattle.std.proofs.Common.{◌≡◌, ℕ, zero, suc, ◌+◌, ◌-◌, ◌*◌, ◌^◌, ◌<◌, ◌≤◌, inl, inr, Bool, true, false, cond, ltb, List}
use Rattle.std.proofs.Common.{[], ◌∷◌, ◌++◌, length, get_or, drop, All, Option, Some, None, refl, sym, ap, subst, ◌∙◌, append_assoc, length-append, arith}
use Rattle.std.specs.Int.{w16, to_be_bytes}
use Rattle.std.specs.List.{flat_map}
use Rattle.std.proofs.lemmas.Bool.{cases_lt, ltb-false, le-ltb, lt-ltb}
use Rattle.std.proofs.lemmas.Nat.{be_bytes_2, from_be_bytes-to_be_bytes_2}
use Rattle.std.proofs.lemmas.List.{drop_at, drop-drop, get_or-drop, get_or_past, get_or_append_left}
use Rattle.std.proofs.lemmas.List.Concat.{flat_map-cons}
use Rattle.std.proofs.lemmas.List.Sums.{sum_by-cons}
use Rattle.eb_base.specs.Term.{AreBytes}
use Rattle.eb_base.specs.Document.{bytes_of}
use Rattle.eb_image.specs.Image.{term_bytes}
use Rattle.eb_image.specs.Scan.{byte_window, two_byte_number, HasTerms}
use Rattle.eb_image.proofs.Bytes.{IsBytes, same_front, get_or-byte_window, length-byte_window, byte_window-add, window_fits, IsBytes-byte_window}

guard_some : (b : Bool) (x : Option ℕ) (y : ℕ) → cond b None x ≡ Some y → (b ≡ false) × (x ≡ Some y)
guard_some true x y e = absurd cc
guard_some false x y e = (refl, e)

-- the number in a byte_window of two
pub two_in_window : (bytes : List ℕ) (at : ℕ) → IsBytes bytes → to_be_bytes w16 (two_byte_number bytes at) ≡ byte_window bytes at 2
two_in_window bytes at fits =
    be_bytes_2 (byte_window bytes at 2) (two_byte_number bytes at) refl (window_fits bytes at 2 fits) (omega arith)

pub number_small : (bytes : List ℕ) (at : ℕ) → IsBytes bytes → two_byte_number bytes at < 2 ^ 16
number_small bytes at fits = omega (arith, fits at, fits (at + 1))

-- where n terms end that begin at this place and have room for this many bytes
unfoldable pub scan : ℕ → ℕ → ℕ → List ℕ → Option ℕ
scan zero at room bytes = Some at
scan (suc n) at room bytes =
    if nat_lt room (two_byte_number bytes at) then None
    else scan n (at + (2 + two_byte_number bytes at)) (room - two_byte_number bytes at) bytes

abbrev some_of : ℕ → Option ℕ
some_of n = Some n

some_is : (a b : ℕ) → some_of a ≡ some_of b → a ≡ b
some_is a b e = cc

none_in : All AreBytes []
none_in k d lt = absurd (omega arith)

more_in : (t : List ℕ) (ts : List (List ℕ)) → AreBytes t → All AreBytes ts → All AreBytes (t ∷ ts)
more_in t ts h hs zero d lt = h
more_in t ts h hs (suc k) d lt = hs k d (omega arith)

pub scan_sound : (n at room end : ℕ) (bytes : List ℕ) → IsBytes bytes → scan n at room bytes ≡ Some end → HasTerms bytes n at room end
unfolding scan
scan_sound zero at room end bytes fits e = record {
  terms = [];
  count = refl;
  within = omega arith;
  are = none_in;
  len = 0;
  ends = let same = some_is at end e in omega (arith, same);
  stand = refl;
}
scan_sound (suc n) at room end bytes fits e =
    let len = two_byte_number bytes at in
    let g = guard_some (ltb room len) (scan n (at + (2 + len)) (room - len) bytes) end e in
    let le : len ≤ room = ltb-false _ _ g.0 in
    let rest = scan_sound n (at + (2 + len)) (room - len) end bytes fits g.1 in
    let t = byte_window bytes (at + 2) len in
    let tl : length t ≡ len = length-byte_window bytes (at + 2) len in
    let front : to_be_bytes w16 (length t) ≡ byte_window bytes at 2 = ap (to_be_bytes w16) tl ∙ two_in_window bytes at fits in
    let term : term_bytes t ≡ byte_window bytes at (2 + len) =
    ap (λ (b : List ℕ). b ++ t) front ∙ sym (byte_window-add bytes 2 at len (at + 2) refl) in
    record {
      terms = t ∷ rest.terms;
      count = ap suc rest.count;
      within = let st = sum_by-cons length t rest.terms in omega (arith, st, rest.within, tl, le);
      are = more_in t rest.terms (IsBytes-byte_window bytes (at + 2) len fits) rest.are;
      len = (2 + len) + rest.len;
      ends = omega (arith, rest.ends);
      stand = flat_map-cons term_bytes t rest.terms
          ∙ (ap (λ (b : List ℕ). b ++ flat_map term_bytes rest.terms) term
          ∙ (ap (λ (b : List ℕ). byte_window bytes at (2 + len) ++ b) rest.stand
          ∙ sym (byte_window-add bytes (2 + len) at rest.len (at + (2 + len)) refl)));
    }

-- after the last byte each term is empty
pub scan_past : (n at room : ℕ) (bytes : List ℕ) → length bytes ≤ at → scan n at room bytes ≡ Some (at + 2 * n)
unfolding scan
scan_past zero at room bytes le = ap some_of (omega arith)
scan_past (suc n) at room bytes le =
    let a : get_or bytes at 0 ≡ 0 = get_or_past bytes at 0 le in
    let b : get_or bytes (at + 1) 0 ≡ 0 = get_or_past bytes (at + 1) 0 (omega arith) in
    let z : two_byte_number bytes at ≡ 0 = omega (arith, a, b) in
    let no : ltb room 0 ≡ false = le-ltb room 0 (omega arith) in
    let next = scan_past n (at + (2 + 0)) (room - 0) bytes (omega arith) in
    let sum : at + (2 + 0) + 2 * n ≡ at + 2 * suc n = omega arith in
    let open_it : (k : ℕ) → k ≡ 0 → cond (ltb room k) None (scan n (at + (2 + k)) (room - k) bytes) ≡ Some (at + 2 * suc n) =
    λ k e. subst (λ (j : ℕ). cond (ltb room j) None (scan n (at + (2 + j)) (room - j) bytes) ≡ Some (at + 2 * suc n)) (sym e)
    (subst (λ (v : Bool). cond v None (scan n (at + (2 + 0)) (room - 0) bytes) ≡ Some (at + 2 * suc n)) (sym no) (next ∙ ap some_of sum)) in
    open_it (two_byte_number bytes at) z

pub terms_len : (ts : List (List ℕ)) → 2 * length ts ≤ length (flat_map term_bytes ts)
terms_len [] = omega arith
terms_len (t ∷ ts) =
    let rest = terms_len ts in
    let cut = ap length (flat_map-cons term_bytes t ts) in
    let len = length-append (term_bytes t) (flat_map term_bytes ts) in
    let two = length-append (to_be_bytes w16 (length t)) t in
    omega (arith, rest, cut, len, two)

-- a byte of the first bytes of others
pub front_byte : (bytes rest whole : List ℕ) (k : ℕ) → whole ≡ bytes ++ rest → k < length bytes → get_or bytes k 0 ≡ get_or whole k 0
front_byte bytes rest whole k e lt = sym (ap (λ (t : List ℕ). get_or t k 0) e ∙ get_or_append_left bytes rest 0 k lt)

pub two_whole : (n at : ℕ) (whole x : List ℕ) → n < 2 ^ 16 → drop at whole ≡ to_be_bytes w16 n ++ x → two_byte_number whole at ≡ n
two_whole n at whole x lt e =
    let z : at + 0 ≡ at = omega arith in
    let a : get_or whole at 0 ≡ get_or (to_be_bytes w16 n ++ x) 0 0 =
    ap (λ (k : ℕ). get_or whole k 0) (sym z) ∙ (sym (get_or-drop at whole 0 0) ∙ ap (λ (t : List ℕ). get_or t 0 0) e) in
    let b : get_or whole (at + 1) 0 ≡ get_or (to_be_bytes w16 n ++ x) 1 0 =
    sym (get_or-drop at whole 1 0) ∙ ap (λ (t : List ℕ). get_or t 1 0) e in
    let again = from_be_bytes-to_be_bytes_2 n lt in
    omega (arith, a, b, again)

-- the number in the first bytes of others is the number in these, or less where bytes are missing
pub two_front_of : (n at : ℕ) (bytes rest whole x : List ℕ) → n < 2 ^ 16 → whole ≡ bytes ++ rest → drop at whole ≡ to_be_bytes w16 n ++ x
    → (two_byte_number bytes at ≤ n) × (at + 1 < length bytes → two_byte_number bytes at ≡ n)
two_front_of n at bytes rest whole x lt e d =
    let is = two_whole n at whole x lt d in
    let low : (k : ℕ) → get_or bytes k 0 ≤ get_or whole k 0 =
    λ (k : ℕ). elim (cases_lt k (length bytes)) [
      | inl less ↦ omega (arith, front_byte bytes rest whole k e less)
      | inr le ↦ omega (arith, get_or_past bytes k 0 le)
    ] in (
      omega (arith, is, low at, low (at + 1)),
      λ (less : at + 1 < length bytes).
          omega (arith, is, front_byte bytes rest whole at e (omega arith), front_byte bytes rest whole (at + 1) e less),
    )

scan_more : (n at room num end : ℕ) (bytes : List ℕ) → two_byte_number bytes at ≡ num → num ≤ room
    → scan n (at + (2 + num)) (room - num) bytes ≡ Some end → scan (suc n) at room bytes ≡ Some end
unfolding scan
scan_more n at room num end bytes e le next =
    subst (λ (k : ℕ). cond (ltb room k) None (scan n (at + (2 + k)) (room - k) bytes) ≡ Some end) (sym e)
    (subst (λ (v : Bool). cond v None (scan n (at + (2 + num)) (room - num) bytes) ≡ Some end) (sym (le-ltb room num le)) next)

pub scan_complete : (ts : List (List ℕ)) (at room : ℕ) (bytes rest whole : List ℕ) → whole ≡ bytes ++ rest → drop at whole ≡ flat_map term_bytes ts
    → bytes_of ts ≤ room → room < 2 ^ 16 → (end : ℕ) × (scan (length ts) at room bytes ≡ Some end) × (end ≤ at + length (flat_map term_bytes ts))
unfolding scan
scan_complete [] at room bytes rest whole e d le lt = (at, refl, omega arith)
scan_complete (t ∷ ts) at room bytes rest whole e d le lt =
    let st = sum_by-cons length t ts in
    let cut : drop at whole ≡ to_be_bytes w16 (length t) ++ (t ++ flat_map term_bytes ts) =
    d ∙ (flat_map-cons term_bytes t ts ∙ append_assoc (to_be_bytes w16 (length t)) t (flat_map term_bytes ts)) in
    let num = two_front_of (length t) at bytes rest whole (t ++ flat_map term_bytes ts) (omega arith) e cut in
    let all : length (flat_map term_bytes (t ∷ ts)) ≡ 2 + length t + length (flat_map term_bytes ts) =
    let c = ap length (flat_map-cons term_bytes t ts) in
    let l = length-append (term_bytes t) (flat_map term_bytes ts) in
    let m = length-append (to_be_bytes w16 (length t)) t in
    omega (arith, c, l, m) in
    elim (cases_lt (at + 1) (length bytes)) [
      | inl less ↦
          let len : length (term_bytes t) ≡ 2 + length t = length-append (to_be_bytes w16 (length t)) t in
          let d2 : drop (at + (2 + length t)) whole ≡ flat_map term_bytes ts =
          sym (drop-drop (2 + length t) at whole) ∙ (ap (drop (2 + length t)) (d ∙ flat_map-cons term_bytes t ts)
          ∙ drop_at (term_bytes t) (flat_map term_bytes ts) (2 + length t) len) in
          let next = scan_complete ts (at + (2 + length t)) (room - length t) bytes rest whole e d2 (omega arith) (omega arith) in
          (next.0, scan_more (length ts) at room (length t) next.0 bytes (num.1 less) (omega arith) next.1, omega (arith, all, next.2))
      | inr past ↦
          let k = two_byte_number bytes at in
          let next = scan_past (length ts) (at + (2 + k)) (room - k) bytes (omega arith) in
          let many = terms_len ts in
          (at + (2 + k) + 2 * length ts, scan_more (length ts) at room k _ bytes refl (omega (arith, num.0)) next, omega (arith, all, num.0, many))
    ]

-- one step of a scan
pub scan_on : (k n at room num : ℕ) (bytes : List ℕ) → k ≡ suc n → num ≡ two_byte_number bytes at → num ≤ room
    → scan k at room bytes ≡ scan n (at + (2 + num)) (room - num) bytes
unfolding scan
scan_on k n at room num bytes ks e le =
    ap (λ (j : ℕ). scan j at room bytes) ks
    ∙ subst (λ (v : ℕ). cond (ltb room v) None (scan n (at + (2 + v)) (room - v) bytes) ≡ scan n (at + (2 + num)) (room - num) bytes) e
    (ap (λ (b : Bool). cond b None (scan n (at + (2 + num)) (room - num) bytes)) (le-ltb room num le))

pub scan_off : (k n at room num : ℕ) (bytes : List ℕ) → k ≡ suc n → num ≡ two_byte_number bytes at → room < num
    → scan k at room bytes ≡ None
unfolding scan
scan_off k n at room num bytes ks e lt =
    ap (λ (j : ℕ). scan j at room bytes) ks
    ∙ subst (λ (v : ℕ). cond (ltb room v) None (scan n (at + (2 + v)) (room - v) bytes) ≡ None) e
    (ap (λ (b : Bool). cond b None (scan n (at + (2 + num)) (room - num) bytes)) (lt-ltb room num lt))

pub scan_ended : (k at room : ℕ) (bytes : List ℕ) → k ≡ 0 → scan k at room bytes ≡ Some at
unfolding scan
scan_ended k at room bytes e = ap (λ (j : ℕ). scan j at room bytes) e

-- terms that are there are found
scan_from : (ts : List (List ℕ)) (at len room : ℕ) (bytes : List ℕ) → bytes_of ts ≤ room → room < 2 ^ 16 → flat_map term_bytes ts ≡ byte_window bytes at len
    → scan (length ts) at room bytes ≡ Some (at + len)
unfolding scan
scan_from [] at len room bytes within lt e =
    let none : len ≡ 0 = omega (arith, ap length e, length-byte_window bytes at len) in
    ap some_of (omega (arith, none))
scan_from (t ∷ ts) at len room bytes within lt e =
    let st = sum_by-cons length t ts in
    let flat = flat_map term_bytes ts in
    let cut : byte_window bytes at len ≡ to_be_bytes w16 (length t) ++ (t ++ flat) =
    sym e ∙ (flat_map-cons term_bytes t ts ∙ append_assoc (to_be_bytes w16 (length t)) t flat) in
    let two : length (term_bytes t) ≡ 2 + length t = length-append (to_be_bytes w16 (length t)) t in
    let all : len ≡ (2 + length t) + length flat =
    omega (arith, ap length e, length-byte_window bytes at len, ap length (flat_map-cons term_bytes t ts), length-append (term_bytes t) flat, two) in
    let head = two_whole (length t) 0 (byte_window bytes at len) (t ++ flat) (omega (arith, within, lt, st)) cut in
    let num : two_byte_number bytes at ≡ length t =
    omega (arith, head, get_or-byte_window bytes at len 0 at (omega (arith, all)) (omega arith), get_or-byte_window bytes at len 1 (at + 1) (omega (arith, all)) (omega arith)) in
    let halves : term_bytes t ++ flat ≡ byte_window bytes at (2 + length t) ++ byte_window bytes (at + (2 + length t)) (length flat) =
    sym (flat_map-cons term_bytes t ts) ∙ (e ∙ (ap (byte_window bytes at) all ∙ byte_window-add bytes (2 + length t) at (length flat) (at + (2 + length t)) refl)) in
    let next = same_front (term_bytes t) (byte_window bytes at (2 + length t)) flat (byte_window bytes (at + (2 + length t)) (length flat))
    (two ∙ sym (length-byte_window bytes at (2 + length t))) halves in
    let rest = scan_from ts (at + (2 + length t)) (length flat) (room - length t) bytes (omega (arith, within, st)) (omega (arith, lt)) next.1 in
    scan_more (length ts) at room (length t) (at + (2 + length t) + length flat) bytes num (omega (arith, within, st)) rest
    ∙ ap some_of (let same : at + (2 + length t) + length flat ≡ at + len = omega (arith, all) in same)

pub scan_has : (bytes : List ℕ) (n at room end : ℕ) → room < 2 ^ 16 → HasTerms bytes n at room end → scan n at room bytes ≡ Some end
scan_has bytes n at room end lt h =
    ap (λ (k : ℕ). scan k at room bytes) (sym h.count) ∙ (scan_from h.terms at h.len room bytes h.within lt h.stand ∙ ap some_of (sym h.ends))

-- where n terms end, if they are there
abbrev pub EndsTerms : List ℕ → ℕ → ℕ → ℕ → Option ℕ → Type 0
EndsTerms bytes n at room result = MatchOption result ((end : ℕ) → HasTerms bytes n at room end → ⊥) (λ end. HasTerms bytes n at room end)

-- a scan finds it
pub scan_ends : (bytes : List ℕ) (n at room : ℕ) (r : Option ℕ) → IsBytes bytes → room < 2 ^ 16 → r ≡ scan n at room bytes → EndsTerms bytes n at room r
scan_ends bytes n at room None fits lt e = λ end h. none_is_some end (e ∙ scan_has bytes n at room end lt h)
  where
    none_is_some : (n : ℕ) → None ≡ some_of n → ⊥
    none_is_some n e = cc
scan_ends bytes n at room (Some end) fits lt e = scan_sound n at room end bytes fits (sym e)

-- and nothing else does
pub ends_scan : (bytes : List ℕ) (n at room : ℕ) (r : Option ℕ) → IsBytes bytes → room < 2 ^ 16 → EndsTerms bytes n at room r → r ≡ scan n at room bytes
ends_scan bytes n at room (Some end) fits lt h = sym (scan_has bytes n at room end lt h)
ends_scan bytes n at room None fits lt h = go (scan n at room bytes) refl
  where
    go : (o : Option ℕ) → scan n at room bytes ≡ o → None ≡ o
    go None e = refl
    go (Some end) e = absurd (h end (scan_sound n at room end bytes fits e))
