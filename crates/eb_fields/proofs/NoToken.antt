-- A field's term is no text.
use Rattle.std.proofs.Common.{◌≡◌, ℕ, ◌+◌, ◌/◌, ◌<◌, ◌≤◌, inl, inr, List, [], ◌∷◌, ◌++◌, IsUtf8, arith, lt-ltb, le-ltb, true}
use Rattle.std.proofs.Math.Utf8.{scalar, scalars, scalar_cases, encode, encodes}
use Rattle.std.proofs.lemmas.Bool.{and_parts, cases_lt}
use Rattle.eb_text.proofs.Encoded.{token_by_utf8}
use Rattle.eb_fields.specs.Laws.{IsNoToken}

below : (c : ℕ) → scalar c ≡ true → c < 1114112
below c h = elim (scalar_cases c h) [ inl a ↦ omega arith | inr a ↦ (let b = a.1 in omega arith) ]

one : (c : ℕ) (ds rest : List ℕ) → c < 128 → encode c ++ ds ≡ 255 ∷ rest → ⊥
unfolding encode
one c ds rest h e = let f = rw (lt-ltb c 128 h) at e in let g : c ≡ 255 = cc in omega arith

two : (c : ℕ) (ds rest : List ℕ) → 128 ≤ c → c < 2048 → encode c ++ ds ≡ 255 ∷ rest → ⊥
unfolding encode
two c ds rest k h e = let f = rw (le-ltb c 128 k, lt-ltb c 2048 h) at e in let g : 192 + c / 64 ≡ 255 = cc in omega arith

three : (c : ℕ) (ds rest : List ℕ) → 2048 ≤ c → c < 65536 → encode c ++ ds ≡ 255 ∷ rest → ⊥
unfolding encode
three c ds rest k h e =
    let j : 128 ≤ c = omega arith in
    let f = rw (le-ltb c 128 j, le-ltb c 2048 k, lt-ltb c 65536 h) at e in let g : 224 + c / 4096 ≡ 255 = cc in omega arith

four : (c : ℕ) (ds rest : List ℕ) → 65536 ≤ c → c < 1114112 → encode c ++ ds ≡ 255 ∷ rest → ⊥
unfolding encode
four c ds rest k h e =
    let j : 128 ≤ c = omega arith in let i : 2048 ≤ c = omega arith in
    let f = rw (le-ltb c 128 j, le-ltb c 2048 i, le-ltb c 65536 k) at e in let g : 240 + c / 262144 ≡ 255 = cc in omega arith

no_lead : (c : ℕ) (ds rest : List ℕ) → c < 1114112 → encode c ++ ds ≡ 255 ∷ rest → ⊥
no_lead c ds rest h e =
    elim (cases_lt c 128) [
      | inl a ↦ one c ds rest a e
      | inr a ↦ elim (cases_lt c 2048) [
        | inl b ↦ two c ds rest a b e
        | inr b ↦ elim (cases_lt c 65536) [ inl d ↦ three c ds rest b d e | inr d ↦ four c ds rest d h e ]
      ]
    ]

no_text : (cs rest : List ℕ) → scalars cs ≡ true → encodes cs ≡ 255 ∷ rest → ⊥
no_text [] rest h e = cc
no_text (c ∷ cs) rest h e = no_lead c (encodes cs) rest (below c (and_parts (scalar c) (scalars cs) h).0) e

pub is_no_text : (rest : List ℕ) → IsUtf8 (255 ∷ rest) → ⊥
is_no_text rest u = no_text u.0 rest u.1.0 u.1.1

pub is_no_token : IsNoToken
is_no_token cut text name value u c = is_no_text _ (token_by_utf8 cut text _ u c)
