-- A load of an image and of lines after it ends in time.
use Rattle.eb_fields.specs.Dialect.{Dialect}
use Rattle.std.proofs.Common.{◌≡◌, ℕ, ◌<◌, inl, inr, List, [], ◌++◌, length, Option, Some, None, refl, sym, ap, ap₂, subst, ◌∙◌, arith, append-nil, length-append, append_assoc}
use Rattle.std.proofs.lemmas.Bool.{cases_lt}
use Rattle.std.proofs.lemmas.List.{append_cancel_left}
use Rattle.eb_base.specs.Document.{Doc}
use Rattle.eb_base.specs.Setting.{Setting, IsSetting}
use Rattle.eb_image.specs.Image.{image_of}
use Rattle.eb_image.specs.Reading.{IsBad, HasNone}
use Rattle.eb_image.proofs.Parts.{images_differ_all}
use Rattle.eb_image.proofs.Taken.{front_both}
use Rattle.eb_io.specs.Lines.{longest_input}
use Rattle.eb_io.specs.Source.{after, IsEmpty}
use Rattle.eb_lines.specs.declared.form.Form.{Form}
use Rattle.eb_lines.specs.declared.status.Status.{Status}
use Rattle.eb_lines.specs.declared.status.Status.TheVariants.{Done, Refused, Usage, ReadFault, WriteFault, NoMemory, InputTooLong, BadImage}
use Rattle.eb_lines.specs.Outcomes.{IsWorkedOff}
use Rattle.eb_lines.proofs.Told.{completes, ends_told, ends_mean}
use Rattle.eb_place.specs.Room.{IsLawful}
use Rattle.run_images.specs.Loaded.{Loaded, IsLoadable, IsImage, IsUnread, IsCutShort, EndsLoad, WroteLoaded, MeansLoaded, IsBodyBehind, IsTextBehind, HasRefusalBehind, HasNoRefusalBehind}

told : (bytes taken : List ℕ) (left : Option (List ℕ)) → after taken left ≡ Some bytes → (rest : List ℕ) × (left ≡ Some rest) × (taken ++ rest ≡ bytes)
told bytes taken None e = let no : ⊥ = cc in absurd no
told bytes taken (Some rest) e = (rest, refl, (let same : taken ++ rest ≡ bytes = cc in same))

module _ (σ : Setting) (docs : List Doc) (rest : List ℕ) (allowed : IsSetting σ) (lawful : IsLawful σ docs) where
  whole : IsImage (image_of σ docs)
  whole = record { setting = σ; documents = docs; allowed = allowed; lawful = lawful; is = refl }

  -- an image comes first
  pub is_image : (taken : List ℕ) (left : Option (List ℕ)) → after taken left ≡ Some (image_of σ docs ++ rest) → IsBad IsImage taken left → ⊥
  is_image taken left e bad =
      let d = told (image_of σ docs ++ rest) taken left e in
      elim (cases_lt (length taken) (length (image_of σ docs))) [
        | inl short ↦ elim bad.never [
          | inl never ↦ never (image_of σ docs, whole, front_both taken (image_of σ docs) d.0 rest d.2 (omega (arith, short)))
          | inr empty ↦
              let E : Option (List ℕ) → Type 0 = IsEmpty in
              let none : d.0 ≡ [] = subst E d.1 empty in
              absurd (omega (arith, short, ap length d.2, length-append taken d.0, ap length none, length-append (image_of σ docs) rest))
        ]
        | inr long ↦ bad.none (image_of σ docs) whole (front_both (image_of σ docs) taken rest d.0 (sym d.2) long)
      ]

  -- and where none came, some of its bytes are left
  cut_short : (taken : List ℕ) (left : Option (List ℕ)) → after taken left ≡ Some (image_of σ docs ++ rest) → HasNone IsImage taken
      → (t : List ℕ) × (0 < length t) × (left ≡ Some (t ++ rest))
  cut_short taken left e none =
      let d = told (image_of σ docs ++ rest) taken left e in
      elim (cases_lt (length taken) (length (image_of σ docs))) [
        | inl short ↦
            let front = front_both taken (image_of σ docs) d.0 rest d.2 (omega (arith, short)) in
            let t = front.rest in
            let lines : d.0 ≡ t ++ rest = append_cancel_left taken d.0 (t ++ rest) (d.2 ∙ ap (λ b. b ++ rest) front.is ∙ append_assoc taken t rest) in
            (t, omega (arith, short, ap length front.is, length-append taken t), d.1 ∙ ap Some lines)
        | inr long ↦ absurd (none (image_of σ docs) whole (front_both (image_of σ docs) taken rest d.0 (sym d.2) long))
      ]

  -- and no other
  module _ (a : Loaded) (left : Option (List ℕ)) (ok : IsLoadable a) (e : after (image_of a.setting a.documents) left ≡ Some (image_of σ docs ++ rest)) where
    same_both : (a.setting ≡ σ) × (a.documents ≡ docs)
    same_both =
        let d = told (image_of σ docs ++ rest) (image_of a.setting a.documents) left e in
        elim (cases_lt (length (image_of a.setting a.documents)) (length (image_of σ docs))) [
          | inl short ↦ images_differ_all a.setting σ a.documents docs ok.allowed allowed ok.lawful.documents lawful.documents (front_both _ _ d.0 rest d.2 (omega (arith, short)))
          | inr long ↦
              let both = images_differ_all σ a.setting docs a.documents allowed ok.allowed lawful.documents ok.lawful.documents (front_both _ _ rest d.0 (sym d.2) long) in
              (sym both.0, sym both.1)
        ]

    pub same_lines : left ≡ Some rest
    same_lines =
        let d = told (image_of σ docs ++ rest) (image_of a.setting a.documents) left e in
        let same : image_of a.setting a.documents ≡ image_of σ docs = ap (λ s. image_of s a.documents) same_both.0 ∙ ap (image_of σ) same_both.1 in
        d.1 ∙ ap Some (append_cancel_left (image_of σ docs) d.0 rest (ap (λ b. b ++ d.0) (sym same) ∙ d.2))

    pub same_loaded : (how : Dialect) (form : Form) → a.dialect ≡ how → a.form ≡ form → a ≡ (let b : Loaded = record { dialect = how; setting = σ; documents = docs; form = form } in b)
    same_loaded how form n f =
        ap (λ s. let b : Loaded = record { dialect = a.dialect; setting = s; documents = a.documents; form = a.form } in b) same_both.0
        ∙ ap (λ ds. let b : Loaded = record { dialect = a.dialect; setting = σ; documents = ds; form = a.form } in b) same_both.1
        ∙ ap₂ (λ ns t. let b : Loaded = record { dialect = ns; setting = σ; documents = docs; form = t } in b) n f

  pub load_completes : (how : Dialect) (form : Form) (status : Status) (l0 l1 p0 p1 : Option (List ℕ)) (read_rose write_rose : Type 0) → EndsLoad how form status l0 l1 p0 p1
      → (status ≡ ReadFault → read_rose)
      → (status ≡ WriteFault → write_rose) → (read_rose → ⊥) → (write_rose → ⊥) → l0 ≡ Some (image_of σ docs ++ rest) → length rest < longest_input → IsWorkedOff status
  load_completes how form status l0 l1 p0 p1 read_rose write_rose e f g no_read no_write source short = elim e [
    | inl unread ↦ of_unread status unread f
    | inr r ↦
        let lines = same_lines r.loaded r.lines r.loadable (sym r.image ∙ source) in
        completes (IsBodyBehind r.loaded) (IsTextBehind r.loaded) (HasRefusalBehind r.loaded) (HasNoRefusalBehind r.loaded) status r.lines l1 p0 p1 read_rose write_rose rest
        r.ends f g no_read no_write lines short
  ] where
    of_unread : (s : Status) → IsUnread s l0 l1 p0 p1 → (s ≡ ReadFault → read_rose) → IsWorkedOff s
    of_unread Done u f = inl refl
    of_unread Refused u f = inr (inl refl)
    of_unread NoMemory u f = inr (inr refl)
    of_unread ReadFault u f = absurd (no_read (f refl))
    of_unread BadImage u f = absurd (is_image u.taken l1 (sym u.left ∙ source) u.why)
    of_unread Usage u f = absurd u.why
    of_unread WriteFault u f = absurd u.why
    of_unread InputTooLong u f = absurd u.why

  -- what is said of the lines
  module _ (how : Dialect) (form : Form) (status : Status) (l0 l1 p0 p1 : Option (List ℕ)) (e : EndsLoad how form status l0 l1 p0 p1) (source : l0 ≡ Some (image_of σ docs ++ rest)) where
    maybe_unread : (s : Status) → IsUnread s l0 l1 p0 p1 → IsCutShort s rest l1
    maybe_unread ReadFault u = (inl refl, cut_short u.taken l1 (sym u.left ∙ source) u.why.0)
    maybe_unread NoMemory u = (inr refl, cut_short u.taken l1 (sym u.left ∙ source) u.why)
    maybe_unread BadImage u = absurd (is_image u.taken l1 (sym u.left ∙ source) u.why)
    maybe_unread Done u = absurd u.why
    maybe_unread Refused u = absurd u.why
    maybe_unread Usage u = absurd u.why
    maybe_unread WriteFault u = absurd u.why
    maybe_unread InputTooLong u = absurd u.why

    pub load_told : (before : List ℕ) → p0 ≡ Some before
        → (printed : List ℕ) × (p1 ≡ Some (before ++ printed)) × WroteLoaded (let b : Loaded = record { dialect = how; setting = σ; documents = docs; form = form } in b) status rest l1 printed
    load_told before sink = elim e [
      | inl unread ↦ ([], unread.printed ∙ sink ∙ ap Some (sym (append-nil before)), inl (maybe_unread status unread, refl))
      | inr r ↦
          let at = sym r.image ∙ source in
          let wrote = ends_told (IsBodyBehind r.loaded) (IsTextBehind r.loaded) (HasRefusalBehind r.loaded) (HasNoRefusalBehind r.loaded) status r.lines l1 p0 p1 rest r.ends
          (same_lines r.loaded r.lines r.loadable at) before sink in
          let W : Loaded → Type 0 = λ a. WroteLoaded a status rest l1 wrote.0 in
          (wrote.0, wrote.1, subst W (same_loaded r.loaded r.lines r.loadable at how form r.dialect r.same) (inr wrote.2))
    ]

    pub load_means : MeansLoaded (let b : Loaded = record { dialect = how; setting = σ; documents = docs; form = form } in b) status rest l1
    load_means = elim e [
      | inl unread ↦ inl (maybe_unread status unread)
      | inr r ↦
          let at = sym r.image ∙ source in
          let M : Loaded → Type 0 = λ a. MeansLoaded a status rest l1 in
          subst M (same_loaded r.loaded r.lines r.loadable at how form r.dialect r.same)
          (inr (ends_mean (IsBodyBehind r.loaded) (IsTextBehind r.loaded) (HasRefusalBehind r.loaded) (HasNoRefusalBehind r.loaded) status r.lines l1 p0 p1 rest r.ends
          (same_lines r.loaded r.lines r.loadable at)))
    ]
