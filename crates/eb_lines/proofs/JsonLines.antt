-- The bytes of the JSON lines, piece by piece, are the texts of their values.
use Rattle.std.proofs.Common.{◌≡◌, ℕ, true, false, List, [], ◌∷◌, ◌++◌, refl, sym, ap, ◌∙◌, append_assoc}
use Rattle.std.specs.Prelude.{codes}
use Rattle.std.specs.Fmt.{decimal}
use Rattle.json.specs.Print.{quoted, escape_byte}
use Rattle.serde_json.specs.Written.{items_text, members_text}
use Rattle.eb_lines.specs.declared.form.Tail.{Tail}
use Rattle.eb_lines.specs.declared.form.Tail.TheVariants.{Nothing, Kept, Segments, Generations}
use Rattle.eb_lines.specs.declared.refusal.Refusal.{Refusal}
use Rattle.eb_lines.specs.declared.refusal.Refusal.TheVariants.{BadLine, LongLine, BadJson, BadDocument, TooLong}
use Rattle.eb_lines.specs.declared.refusal.Refusal.TheVariants.{NotRising, Full, BadNumber, BadQuery, QueryTooLarge, QueryTooDeep, NoWatch, WatchTaken, WatchesFull}
use Rattle.eb_lines.specs.Words.{parted}
use Rattle.eb_lines.specs.Values.{json_line, numbers, answer_value, buckets_member, count_value, watch_value, cause, beside_cause, refusal_value, kept_member, generations_value}
use Rattle.eb_lines.specs.Values.{summary_value, segments_lines}
use Rattle.eb_lines.specs.JsonTexts.{listed, answer_text, buckets_text, count_text, watch_text, cause_text, refusal_text, segments_text, tail_text, summary_text}

-- ---- numbers with commas

items_rest : (ns tail : List ℕ) → items_text true (numbers ns) ++ tail ≡ parted 44 ns ++ 93 ∷ tail
items_rest [] tail = refl
items_rest (n ∷ ns) tail = ap (λ t. 44 ∷ t) (append_assoc (decimal n) (items_text true (numbers ns)) tail
    ∙ ap (λ t. decimal n ++ t) (items_rest ns tail) ∙ sym (append_assoc (decimal n) (parted 44 ns) (93 ∷ tail)))

items_all : (ns tail : List ℕ) → items_text false (numbers ns) ++ tail ≡ listed ns ++ 93 ∷ tail
items_all [] tail = refl
items_all (n ∷ ns) tail = append_assoc (decimal n) (items_text true (numbers ns)) tail
    ∙ ap (λ t. decimal n ++ t) (items_rest ns tail) ∙ sym (append_assoc (decimal n) (parted 44 ns) (93 ∷ tail))

-- ---- the lines

listed_end : (ns : List ℕ) → (items_text false (numbers ns) ++ 125 ∷ []) ++ 10 ∷ [] ≡ listed ns ++ codes "]}\n"
listed_end ns = append_assoc (items_text false (numbers ns)) (125 ∷ []) (10 ∷ []) ∙ items_all ns (125 ∷ 10 ∷ [])

-- two pieces before others
before : (a b c rest : List ℕ) → c ++ 10 ∷ [] ≡ rest → (a ++ (b ++ c)) ++ 10 ∷ [] ≡ a ++ (b ++ rest)
before a b c rest e = append_assoc a (b ++ c) (10 ∷ []) ∙ ap (λ t. a ++ t) (append_assoc b c (10 ∷ []) ∙ ap (λ t. b ++ t) e)

-- a list and the end of its object
abbrev list_text : List ℕ → List ℕ → List ℕ
list_text a ns = a ++ (items_text false (numbers ns) ++ 125 ∷ [])

abbrev list_end : List ℕ → List ℕ → List ℕ
list_end a ns = a ++ (listed ns ++ codes "]}\n")

before_list : (a ns : List ℕ) → list_text a ns ++ 10 ∷ [] ≡ list_end a ns
before_list a ns = append_assoc a (items_text false (numbers ns) ++ 125 ∷ []) (10 ∷ []) ∙ ap (λ t. a ++ t) (listed_end ns)

pub answer_json : (number seen : ℕ) (ids : List ℕ) → answer_text number seen ids ≡ json_line (answer_value number seen ids)
unfolding escape_byte
answer_json number seen ids =
    let flat : answer_text number seen ids ≡ codes "{\"line\":" ++ (decimal number ++ (codes ",\"seen\":" ++ (decimal seen ++ list_end (codes ",\"ids\":[") ids))) = simp append_assoc in
    flat ∙ sym (before (codes "{\"line\":") (decimal number) (codes ",\"seen\":" ++ (decimal seen ++ list_text (codes ",\"ids\":[") ids))
    (codes ",\"seen\":" ++ (decimal seen ++ list_end (codes ",\"ids\":[") ids))
    (before (codes ",\"seen\":") (decimal seen) (list_text (codes ",\"ids\":[") ids) (list_end (codes ",\"ids\":[") ids) (before_list (codes ",\"ids\":[") ids)))

buckets_json : (bs : List ℕ) → members_text true (buckets_member bs) ++ 10 ∷ [] ≡ buckets_text bs
unfolding escape_byte
buckets_json [] = refl
buckets_json (b ∷ bs) = before_list (codes ",\"buckets\":[") (b ∷ bs)

pub count_json : (number seen total : ℕ) (bs : List ℕ) → count_text number seen total bs ≡ json_line (count_value number seen total bs)
unfolding escape_byte
count_json number seen total bs =
    let rest : List ℕ = members_text true (buckets_member bs) in
    let flat : count_text number seen total bs ≡ codes "{\"line\":" ++ (decimal number ++ (codes ",\"seen\":" ++ (decimal seen ++ (codes ",\"count\":" ++ (decimal total ++ buckets_text bs))))) =
    right (codes "{\"line\":") (decimal number) (codes ",\"seen\":") (decimal seen) (codes ",\"count\":") (decimal total) (buckets_text bs) in
    flat ∙ sym (before (codes "{\"line\":") (decimal number) (codes ",\"seen\":" ++ (decimal seen ++ (codes ",\"count\":" ++ (decimal total ++ rest))))
    (codes ",\"seen\":" ++ (decimal seen ++ (codes ",\"count\":" ++ (decimal total ++ buckets_text bs))))
    (before (codes ",\"seen\":") (decimal seen) (codes ",\"count\":" ++ (decimal total ++ rest)) (codes ",\"count\":" ++ (decimal total ++ buckets_text bs))
    (before (codes ",\"count\":") (decimal total) rest (buckets_text bs) (buckets_json bs))))
  where
    right : (a b c d e f g : List ℕ) → (((((a ++ b) ++ c) ++ d) ++ e) ++ f) ++ g ≡ a ++ (b ++ (c ++ (d ++ (e ++ (f ++ g)))))
    right a b c d e f g = simp append_assoc

pub watch_json : (number : ℕ) (ns : List ℕ) → watch_text number ns ≡ json_line (watch_value number ns)
unfolding escape_byte
watch_json number ns =
    let flat : watch_text number ns ≡ codes "{\"line\":" ++ (decimal number ++ list_end (codes ",\"watches\":[") ns) = simp append_assoc in
    flat ∙ sym (before (codes "{\"line\":") (decimal number) (list_text (codes ",\"watches\":[") ns) (list_end (codes ",\"watches\":[") ns) (before_list (codes ",\"watches\":[") ns))

cause_json : (r : Refusal) → (quoted (cause r) ++ members_text true (beside_cause r)) ++ 10 ∷ [] ≡ cause_text r
unfolding escape_byte
cause_json BadLine = refl
cause_json LongLine = refl
cause_json BadJson = refl
cause_json BadDocument = refl
cause_json TooLong = refl
cause_json (NotRising last) = before (codes "\"not rising\",\"after\":") (decimal last) (125 ∷ []) (codes "}\n") refl
    ∙ sym (append_assoc (codes "\"not rising\",\"after\":") (decimal last) (codes "}\n"))
cause_json Full = refl
cause_json BadNumber = refl
cause_json (BadQuery column) = before (codes "\"bad query\",\"column\":") (decimal column) (125 ∷ []) (codes "}\n") refl
    ∙ sym (append_assoc (codes "\"bad query\",\"column\":") (decimal column) (codes "}\n"))
cause_json QueryTooLarge = refl
cause_json QueryTooDeep = refl
cause_json NoWatch = refl
cause_json WatchTaken = refl
cause_json WatchesFull = refl

before_cause : (a : List ℕ) (r : Refusal) → (a ++ (quoted (cause r) ++ members_text true (beside_cause r))) ++ 10 ∷ [] ≡ a ++ cause_text r
before_cause a r = append_assoc a (quoted (cause r) ++ members_text true (beside_cause r)) (10 ∷ []) ∙ ap (λ t. a ++ t) (cause_json r)

pub refusal_json : (number : ℕ) (r : Refusal) → refusal_text number r ≡ json_line (refusal_value number r)
unfolding escape_byte
refusal_json number r =
    let flat : refusal_text number r ≡ codes "{\"line\":" ++ (decimal number ++ (codes ",\"refused\":" ++ cause_text r)) =
    append_assoc (codes "{\"line\":" ++ decimal number) (codes ",\"refused\":") (cause_text r) ∙ append_assoc (codes "{\"line\":") (decimal number) (codes ",\"refused\":" ++ cause_text r) in
    flat ∙ sym (before (codes "{\"line\":") (decimal number) (codes ",\"refused\":" ++ (quoted (cause r) ++ members_text true (beside_cause r)))
    (codes ",\"refused\":" ++ cause_text r) (before_cause (codes ",\"refused\":") r))

-- ---- the end

-- the end of the inner object, of the outer one and of the line, and lines after it
abbrev closed : List ℕ → List ℕ → List ℕ
closed text more = ((text ++ 125 ∷ []) ++ 10 ∷ []) ++ more

before_closed : (a b c more rest : List ℕ) → closed c more ≡ rest → closed (a ++ (b ++ c)) more ≡ a ++ (b ++ rest)
before_closed a b c more rest e = one a (b ++ c) ∙ ap (λ t. a ++ t) (one b c ∙ ap (λ t. b ++ t) e) where
  one : (x y : List ℕ) → closed (x ++ y) more ≡ x ++ closed y more
  one x y = ap (λ t. (t ++ 10 ∷ []) ++ more) (append_assoc x y (125 ∷ []))
      ∙ ap (λ t. t ++ more) (append_assoc x (y ++ 125 ∷ []) (10 ∷ [])) ∙ append_assoc x ((y ++ 125 ∷ []) ++ 10 ∷ []) more

segments_front : (segments converted : ℕ) (rest : List ℕ) → segments_text segments converted ++ rest
    ≡ codes "}}\n{\"segments\":" ++ (decimal segments ++ (codes ",\"converted\":" ++ (decimal converted ++ rest)))
segments_front segments converted rest = simp append_assoc

to_the_right : (a b c d e f : List ℕ) → ((((a ++ b) ++ c) ++ d) ++ e) ++ f ≡ a ++ (b ++ (c ++ (d ++ (e ++ f))))
to_the_right a b c d e f = simp append_assoc

tail_json : (t : Tail) → closed (members_text true (kept_member t)) (segments_lines t) ≡ tail_text t
unfolding escape_byte
tail_json Nothing = refl
tail_json (Kept kept) =
    let flat : tail_text (Kept kept) ≡ codes ",\"kept\":" ++ (decimal kept ++ codes "}}\n") = simp append_assoc in
    before_closed (codes ",\"kept\":") (decimal kept) (125 ∷ []) [] (codes "}}\n") refl ∙ sym flat
tail_json (Segments begun converted) =
    let flat : tail_text (Segments begun converted) ≡ codes "}}\n{\"segments\":" ++ (decimal begun ++ (codes ",\"converted\":" ++ (decimal converted ++ codes "}\n"))) = simp append_assoc in
    before (codes "}}\n{\"segments\":") (decimal begun) (codes ",\"converted\":" ++ (decimal converted ++ 125 ∷ []))
    (codes ",\"converted\":" ++ (decimal converted ++ codes "}\n")) (before (codes ",\"converted\":") (decimal converted) (125 ∷ []) (codes "}\n") refl) ∙ sym flat
tail_json (Generations kept segments converted begun) =
    let flat : tail_text (Generations kept segments converted begun)
    ≡ codes ",\"kept\":" ++ (decimal kept
    ++ (codes "}}\n{\"segments\":" ++ (decimal segments ++ (codes ",\"converted\":" ++ (decimal converted ++ (codes ",\"generations\":" ++ (decimal begun ++ codes "}\n"))))))) =
    to_the_right (codes ",\"kept\":") (decimal kept) (segments_text segments converted) (codes ",\"generations\":") (decimal begun) (codes "}\n")
    ∙ ap (λ t. codes ",\"kept\":" ++ (decimal kept ++ t)) (segments_front segments converted (codes ",\"generations\":" ++ (decimal begun ++ codes "}\n"))) in
    before_closed (codes ",\"kept\":") (decimal kept) (125 ∷ []) (json_line (generations_value segments converted begun))
    (codes "}}\n{\"segments\":" ++ (decimal segments ++ (codes ",\"converted\":" ++ (decimal converted ++ (codes ",\"generations\":" ++ (decimal begun ++ codes "}\n"))))))
    (before (codes "}}\n{\"segments\":") (decimal segments) (codes ",\"converted\":" ++ (decimal converted ++ (codes ",\"generations\":" ++ (decimal begun ++ 125 ∷ []))))
    (codes ",\"converted\":" ++ (decimal converted ++ (codes ",\"generations\":" ++ (decimal begun ++ codes "}\n"))))
    (before (codes ",\"converted\":") (decimal converted) (codes ",\"generations\":" ++ (decimal begun ++ 125 ∷ []))
    (codes ",\"generations\":" ++ (decimal begun ++ codes "}\n")) (before (codes ",\"generations\":") (decimal begun) (125 ∷ []) (codes "}\n") refl))) ∙ sym flat

pub summary_json : (d q r : ℕ) (t : Tail) → summary_text d q r t ≡ json_line (summary_value d q r t) ++ segments_lines t
unfolding escape_byte
summary_json d q r t =
    let flat : summary_text d q r t
    ≡ codes "{\"end\":{\"documents\":" ++ (decimal d ++ (codes ",\"queries\":" ++ (decimal q ++ (codes ",\"refused\":" ++ (decimal r ++ tail_text t))))) = simp append_assoc in
    let last : List ℕ = members_text true (kept_member t) in
    flat ∙ sym (before_closed (codes "{\"end\":{\"documents\":") (decimal d) (codes ",\"queries\":" ++ (decimal q ++ (codes ",\"refused\":" ++ (decimal r ++ last)))) (segments_lines t)
    (codes ",\"queries\":" ++ (decimal q ++ (codes ",\"refused\":" ++ (decimal r ++ tail_text t))))
    (before_closed (codes ",\"queries\":") (decimal q) (codes ",\"refused\":" ++ (decimal r ++ last)) (segments_lines t) (codes ",\"refused\":" ++ (decimal r ++ tail_text t))
    (before_closed (codes ",\"refused\":") (decimal r) last (segments_lines t) (tail_text t) (tail_json t))))
