-- What the bytes taken say of images.
use Rattle.std.proofs.Common.{◌≡◌, ℕ, zero, suc, inl, inr, true, false, true≢false, List, [], ◌∷◌, ◌++◌, length, take, Option, Some, refl, sym, ap, subst, ◌∙◌}
use Rattle.std.proofs.Common.{arith, append_assoc, append-nil}
use Rattle.std.specs.Prelude.{slice_get}
use Rattle.std.specs.List.{All, flat_map}
use Rattle.std.proofs.lemmas.Bool.{cases_lt}
use Rattle.std.proofs.lemmas.Grind.{flat_map-append}
use Rattle.std.proofs.lemmas.List.{take_at}
use Rattle.std.proofs.lemmas.List.Concat.{flat_map-cons}
use Rattle.eb_base.specs.Document.{Doc, IsDocument}
use Rattle.eb_base.specs.Setting.{Setting, IsSetting}
use Rattle.eb_image.specs.Image.{head_of, document_part, last_byte, image_of, IsFront}
use Rattle.eb_image.specs.Reading.{IsHead, IsNextPart, Begins, HasNone, IsBad}
use Rattle.eb_image.proofs.Parts.{part_front, part_not_last, head_front}
use Rattle.eb_image.proofs.Taken.{front_both}
use Rattle.eb_place.specs.Room.{has_room}
use Rattle.run_images.specs.Loaded.{IsImage}

-- the head and the parts of these documents
abbrev pub read_bytes : Setting → List Doc → List ℕ
read_bytes σ docs = head_of σ ++ flat_map document_part docs

cut_parts : (d : Doc) (ds : List Doc) (x : List ℕ) → flat_map document_part (d ∷ ds) ++ x ≡ document_part d ++ (flat_map document_part ds ++ x)
cut_parts d ds x = ap (λ (b : List ℕ). b ++ x) (flat_map-cons document_part d ds) ∙ append_assoc (document_part d) (flat_map document_part ds) x

-- where parts come first in the parts and the end of an image, they are the first of its parts
parts_in : (docs others : List Doc) (x y : List ℕ) → All IsDocument docs → All IsDocument others → flat_map document_part docs ++ x ≡ flat_map document_part others ++ 0 ∷ y
    → (more : List Doc) × (others ≡ docs ++ more) × (x ≡ flat_map document_part more ++ 0 ∷ y)
parts_in [] others x y fd fo e = (others, refl, e)
parts_in (d ∷ ds) [] x y fd fo e = absurd (part_not_last d _ y (sym (cut_parts d ds x) ∙ e))
parts_in (d ∷ ds) (o ∷ os) x y fd fo e =
    let first = part_front d o _ _ (fd 0 d (omega arith)) (fo 0 o (omega arith)) (sym (cut_parts d ds x) ∙ e ∙ cut_parts o os (0 ∷ y)) in
    let rest = parts_in ds os x y (λ k z lt. fd (suc k) z (omega arith)) (λ k z lt. fo (suc k) z (omega arith)) first.1 in
    (rest.0, ap (λ (z : Doc). z ∷ os) (sym first.0) ∙ ap (λ (zs : List Doc). d ∷ zs) rest.1, rest.2)

module _ (σ : Setting) (docs : List Doc) (fs : IsSetting σ) (fd : All IsDocument docs) where
  -- and so the head and parts in an image
  pub image_in : (whole x y : List ℕ) (i : IsImage whole) → read_bytes σ docs ++ x ≡ whole ++ y
      → (σ ≡ i.setting) × ((more : List Doc) × (i.documents ≡ docs ++ more) × (x ≡ flat_map document_part more ++ 0 ∷ y))
  unfolding image_of
  image_in whole x y i e =
      let left : read_bytes σ docs ++ x ≡ head_of σ ++ (flat_map document_part docs ++ x) = append_assoc (head_of σ) (flat_map document_part docs) x in
      let right : whole ++ y ≡ head_of i.setting ++ (flat_map document_part i.documents ++ 0 ∷ y) =
      ap (λ b. b ++ y) i.is ∙ append_assoc (head_of i.setting) (flat_map document_part i.documents ++ last_byte) y
      ∙ ap (λ b. head_of i.setting ++ b) (append_assoc (flat_map document_part i.documents) last_byte y) in
      let heads = head_front σ i.setting _ _ fs i.allowed (sym left ∙ e ∙ right) in
      (heads.0, parts_in docs i.documents x y fd i.lawful.documents heads.1)

  -- something comes next in it
  next_in : (more : List Doc) (x y : List ℕ) → All IsDocument more → x ≡ flat_map document_part more ++ 0 ∷ y → (next : List ℕ) × IsNextPart next × ((rest : List ℕ) × (x ≡ next ++ rest))
  next_in [] x y f e = (last_byte, inl refl, (y, e))
  next_in (m ∷ ms) x y f e =
      (document_part m, inr (record { document = m; within = f 0 m (omega arith); is = refl }), (flat_map document_part ms ++ 0 ∷ y, e ∙ cut_parts m ms (0 ∷ y)))

  next_of : (whole x y : List ℕ) (i : IsImage whole) → read_bytes σ docs ++ x ≡ whole ++ y → (next : List ℕ) × IsNextPart next × ((rest : List ℕ) × (x ≡ next ++ rest))
  next_of whole x y i e =
      let in_it = (image_in whole x y i e).1 in
      next_in in_it.0 x y (all_back docs in_it.0 (subst (All IsDocument) in_it.1 i.lawful.documents)) in_it.2
    where
      all_back : (ds more : List Doc) → All IsDocument (ds ++ more) → All IsDocument more
      all_back [] more f = f
      all_back (d ∷ ds) more f = all_back ds more (λ k z lt. f (suc k) z (omega arith))

  -- what is read so far begins no image that is whole
  pub none_read : HasNone IsImage (read_bytes σ docs)
  none_read = λ whole i front.
      let n = next_of whole [] front.rest i (append-nil (read_bytes σ docs) ∙ front.is) in
      absurd (none_empty n.0 n.2.0 n.1 n.2.1)
    where
      none_empty : (next rest : List ℕ) → IsNextPart next → [] ≡ next ++ rest → ⊥
      none_empty next rest (inl e) is = let no : [] ≡ 0 ∷ rest = is ∙ ap (λ b. b ++ rest) e in absurd (cc no)
      none_empty next rest (inr p) is = part_not_last p.document (rest ++ 0 ∷ []) [] (sym (append_assoc _ rest (0 ∷ [])) ∙ ap (λ b. b ++ 0 ∷ []) (sym (is ∙ ap (λ b. b ++ rest) p.is)))

  -- nothing came next
  pub none_next : (t : List ℕ) → HasNone IsNextPart t → HasNone IsImage (read_bytes σ docs ++ t)
  none_next t none = λ whole i front.
      let n = next_of whole t front.rest i front.is in
      none n.0 n.1 (record { rest = n.2.0; is = n.2.1 })

  -- and nothing can come
  pub bad_next : (t : List ℕ) (left : Option (List ℕ)) → IsBad IsNextPart t left → IsBad IsImage (read_bytes σ docs ++ t) left
  bad_next t left b = record {
    none = none_next t b.none;
    never = elim b.never [
      | inl never ↦ inl (λ begins. no_image never begins.0 begins.1 begins.2)
      | inr empty ↦ inr empty
    ];
  } where
    no_image : (Begins IsNextPart t → ⊥) → (whole : List ℕ) → IsImage whole → IsFront (read_bytes σ docs ++ t) whole → ⊥
    no_image never whole i front =
        let e : read_bytes σ docs ++ (t ++ front.rest) ≡ whole ++ [] = sym (append_assoc (read_bytes σ docs) t front.rest) ∙ sym front.is ∙ sym (append-nil whole) in
        let n = next_of whole (t ++ front.rest) [] i e in
        elim (cases_lt (length t) (length n.0)) [
          | inl short ↦ never (n.0, n.1, front_both t n.0 front.rest n.2.0 n.2.1 (omega (arith, short)))
          | inr long ↦ b.none n.0 n.1 (front_both n.0 t n.2.0 front.rest (sym n.2.1) long)
        ]

-- ---- one more part

module _ (σ : Setting) (docs : List Doc) (d : Doc) (fs : IsSetting σ) (fd : All IsDocument docs) (within : IsDocument d) where
  pub all_push : All IsDocument (docs ++ d ∷ [])
  all_push = push docs fd
    where
      push : (ds : List Doc) → All IsDocument ds → All IsDocument (ds ++ d ∷ [])
      push [] f zero z lt = within
      push [] f (suc k) z lt = absurd (omega (arith, lt))
      push (x ∷ xs) f zero z lt = f 0 z (omega arith)
      push (x ∷ xs) f (suc k) z lt = push xs (λ j y less. f (suc j) y (omega (arith, less))) k z (omega (arith, lt))

  pub read_push : read_bytes σ docs ++ document_part d ≡ read_bytes σ (docs ++ d ∷ [])
  read_push =
      append_assoc (head_of σ) (flat_map document_part docs) (document_part d)
      ∙ ap (λ b. head_of σ ++ b) (ap (λ b. flat_map document_part docs ++ b) (sym (append-nil (document_part d))) ∙ sym (flat_map-append document_part docs (d ∷ [])))

  pub none_part : HasNone IsImage (read_bytes σ docs ++ document_part d)
  none_part = subst (HasNone IsImage) (sym read_push) (none_read σ (docs ++ d ∷ []) fs all_push)

  -- the document has no room after the others
  pub bad_room : (left : Option (List ℕ)) → has_room σ docs d ≡ false → IsBad IsImage (read_bytes σ docs ++ document_part d) left
  bad_room left full = record {
    none = none_part;
    never = inl (λ begins. no_room begins.0 begins.1 begins.2);
  } where
    no_room : (whole : List ℕ) → IsImage whole → IsFront (read_bytes σ docs ++ document_part d) whole → ⊥
    no_room whole i front =
        let e : read_bytes σ (docs ++ d ∷ []) ++ front.rest ≡ whole ++ [] = ap (λ b. b ++ front.rest) (sym read_push) ∙ sym front.is ∙ sym (append-nil whole) in
        let in_it = image_in σ (docs ++ d ∷ []) fs all_push whole front.rest [] i e in
        let is : i.documents ≡ docs ++ (d ∷ in_it.1.0) = in_it.1.1 ∙ append_assoc docs (d ∷ []) in_it.1.0 in
        let had = i.lawful.rooms (length docs) d (ap (λ ds. slice_get ds (length docs)) is ∙ get_behind docs d in_it.1.0) in
        let same : take (length docs) i.documents ≡ docs = ap (take (length docs)) is ∙ take_at docs (d ∷ in_it.1.0) (length docs) refl in
        let room : has_room σ docs d ≡ true = subst (λ (s : Setting). has_room s docs d ≡ true) (sym in_it.0) (subst (λ ds. has_room i.setting ds d ≡ true) same had) in
        true≢false (sym room ∙ full)
      where
        get_behind : (ds : List Doc) (x : Doc) (more : List Doc) → slice_get (ds ++ x ∷ more) (length ds) ≡ Some x
        get_behind [] x more = refl
        get_behind (y ∷ ds) x more = get_behind ds x more

-- ---- the head

head_in : (whole x y : List ℕ) (i : IsImage whole) → x ≡ whole ++ y → (head : List ℕ) × IsHead head × ((rest : List ℕ) × (x ≡ head ++ rest))
unfolding image_of
head_in whole x y i e = (
  head_of i.setting,
  record { setting = i.setting; allowed = i.allowed; is = refl },
  ((flat_map document_part i.documents ++ last_byte) ++ y, e ∙ ap (λ b. b ++ y) i.is ∙ append_assoc (head_of i.setting) (flat_map document_part i.documents ++ last_byte) y),
)

pub none_head : (t : List ℕ) → HasNone IsHead t → HasNone IsImage t
none_head t none = λ whole i front. let h = head_in whole t front.rest i front.is in none h.0 h.1 (record { rest = h.2.0; is = h.2.1 })

pub bad_head : (t : List ℕ) (left : Option (List ℕ)) → IsBad IsHead t left → IsBad IsImage t left
bad_head t left b = record {
  none = none_head t b.none;
  never = elim b.never [
    | inl never ↦ inl (λ begins. no_image never begins.0 begins.1 begins.2)
    | inr empty ↦ inr empty
  ];
} where
  no_image : (Begins IsHead t → ⊥) → (whole : List ℕ) → IsImage whole → IsFront t whole → ⊥
  no_image never whole i front =
      let h = head_in whole (t ++ front.rest) [] i (sym front.is ∙ sym (append-nil whole)) in
      elim (cases_lt (length t) (length h.0)) [
        | inl short ↦ never (h.0, h.1, front_both t h.0 front.rest h.2.0 h.2.1 (omega (arith, short)))
        | inr long ↦ b.none h.0 h.1 (front_both h.0 t h.2.0 front.rest (sym h.2.1) long)
      ]
