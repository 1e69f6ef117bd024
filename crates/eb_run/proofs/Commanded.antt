-- What follows from how a command ends.
use Rattle.eb_fields.specs.Dialect.{Dialect}
use Rattle.std.proofs.Common.{◌≡◌, ◌⊎◌, ℕ, inl, inr, List, [], ◌++◌, Option, Some, None, refl, sym, ap, subst, ◌∙◌, append-nil}
use Rattle.std.specs.Prelude.{IfSome}
use Rattle.run_images.specs.Loaded.{EndsLoad, IsUnread, IsRead, IsBodyBehind, IsTextBehind, HasRefusalBehind, HasNoRefusalBehind, Loaded}
use Rattle.run_images.specs.Saved as saved
use Rattle.run_images.proofs.LoadEnds.{load_completes, load_told, load_means}
use Rattle.eb_io.specs.Source.{after}
use Rattle.eb_lines.specs.declared.form.Form.{Form}
use Rattle.eb_lines.specs.declared.status.Status.{Status}
use Rattle.eb_lines.specs.declared.status.Status.TheVariants.{Done, Refused, ReadFault, WriteFault, NoMemory, BadImage}
use Rattle.eb_lines.specs.Outcomes as outcomes
use Rattle.eb_lines.proofs.Told.{ends_told, ends_mean, completes}
use Rattle.run_store.proofs.Taking.{ends_none}
use Rattle.eb_run.specs.Command.{Asks, asks}
use Rattle.eb_run.specs.declared.command.Command.{Command}
use Rattle.eb_run.specs.declared.command.Command.TheVariants.{Run, Bench, Save, Load}
use Rattle.eb_run.specs.Output.{run_rules}
use Rattle.eb_run.specs.Ran.{EndsBy, HasImage, WroteLoad, Prints, Ran, Means, Completes}
use Rattle.eb_run.proofs.Benches.{figures_told, figures_mean, figures_end, figures_none}
use Rattle.eb_run.proofs.Loads.{bad_told, load_none}
use Rattle.run_images.specs.SavingLaws.{parts_first}
use Rattle.run_images.proofs.Savings.{parts_none}
use Rattle.eb_image.specs.Image.{head_of, image_of}
use Rattle.eb_lines.proofs.PassingLines as passing

left_told : (bytes taken : List ℕ) (left : Option (List ℕ)) → Some bytes ≡ after taken left → (rest : List ℕ) × (left ≡ Some rest) × (bytes ≡ taken ++ rest)
left_told bytes taken None e = let no : ⊥ = cc in absurd no
left_told bytes taken (Some rest) e = (rest, refl, (let same : bytes ≡ taken ++ rest = cc in same))

module _ (status : Status) (l0 l1 p0 p1 : Option (List ℕ)) where
  -- ---- of a load

  module _ (how : Dialect) (form : Form) where
    image_of_read : (bytes : List ℕ) → l0 ≡ Some bytes → IsRead how form status l0 l1 p0 p1 → HasImage bytes
    image_of_read bytes source r =
        let told = left_told bytes (image_of r.loaded.setting r.loaded.documents) r.lines (sym source ∙ r.image) in
        record { setting = r.loaded.setting; documents = r.loaded.documents; rest = told.0; allowed = r.loadable.allowed; lawful = r.loadable.lawful; is = told.2 }

    load_prints : EndsLoad how form status l0 l1 p0 p1 → Prints (WroteLoad how form status) l0 l1 p0 p1
    load_prints e = λ bytes before source sink. elim e [
      | inl unread ↦
          let told = left_told bytes unread.taken l1 (sym source ∙ unread.left) in
          ([], unread.printed ∙ sink ∙ ap Some (sym (append-nil before)), inl (refl, (unread.taken, record { rest = told.0; whole = told.2; still = told.1 }, unread.why)))
      | inr r ↦
          let told = left_told bytes (image_of r.loaded.setting r.loaded.documents) r.lines (sym source ∙ r.image) in
          let wrote = ends_told (IsBodyBehind r.loaded) (IsTextBehind r.loaded) (HasRefusalBehind r.loaded) (HasNoRefusalBehind r.loaded) status r.lines l1 p0 p1 told.0 r.ends told.1 before sink in
          let is : HasImage bytes = record { setting = r.loaded.setting; documents = r.loaded.documents; rest = told.0; allowed = r.loadable.allowed; lawful = r.loadable.lawful; is = told.2 } in (
            wrote.0,
            wrote.1,
            inr (
              is,
              subst (λ (s : Form). let a : Loaded = record { dialect = how; setting = r.loaded.setting; documents = r.loaded.documents; form = s } in
                  outcomes.Wrote (IsBodyBehind a) (IsTextBehind a) (HasRefusalBehind a) (HasNoRefusalBehind a) status told.0 l1 wrote.0) r.same
                  (subst (λ (ns : Dialect). let a : Loaded = record { dialect = ns; setting = r.loaded.setting; documents = r.loaded.documents; form = r.loaded.form } in
                  outcomes.Wrote (IsBodyBehind a) (IsTextBehind a) (HasRefusalBehind a) (HasNoRefusalBehind a) status told.0 l1 wrote.0) r.dialect wrote.2),
            ),
          )
    ]

    load_image : EndsLoad how form status l0 l1 p0 p1 → (status ≡ Done) ⊎ (status ≡ Refused) → (bytes : List ℕ) → l0 ≡ Some bytes → HasImage bytes
    load_image e ended bytes source = elim e [
      | inl unread ↦ absurd (never status unread ended)
      | inr r ↦ image_of_read bytes source r
    ] where
      never : (s : Status) → IsUnread s l0 l1 p0 p1 → (s ≡ Done) ⊎ (s ≡ Refused) → ⊥
      never s u (inl is) = let U : Status → Type 0 = λ x. IsUnread x l0 l1 p0 p1 in (subst U is u).why
      never s u (inr is) = let U : Status → Type 0 = λ x. IsUnread x l0 l1 p0 p1 in (subst U is u).why

  -- ---- of each command

  pub ran_of : (how : Dialect) (c : Command) → EndsBy how c status l0 l1 p0 p1 → Ran how c status l0 l1 p0 p1
  ran_of how (Run mode form σ) e = λ bytes before source sink. ends_told _ _ _ _ status _ _ _ _ bytes e source before sink
  ran_of how (Bench start count) e = λ before sink. figures_told status start count p0 p1 before e sink
  ran_of how (Save σ) e = λ bytes before source sink. ends_told _ _ _ _ status _ _ _ _ bytes e source before sink
  ran_of how (Load form) e = record {
    all = load_prints how form e;
    lines = λ σ docs rest before allowed lawful source sink. load_told σ docs rest allowed lawful how form status l0 l1 p0 p1 e source before sink;
    bad_image = λ bad. (bad_told how form status l0 l1 p0 p1 e bad).0;
  }

  -- no other command ends at a bad image
  pub only_load : (how : Dialect) (c : Command) → EndsBy how c status l0 l1 p0 p1 → status ≡ BadImage → (form : Form) × (c ≡ Load form)
  only_load how c e is = go c (subst (λ (s : Status). EndsBy how c s l0 l1 p0 p1) is e)
    where
      go : (d : Command) → EndsBy how d BadImage l0 l1 p0 p1 → (form : Form) × (d ≡ Load form)
      go (Run mode form σ) r = absurd r.ends
      go (Bench start count) r = absurd r.2
      go (Save σ) r = absurd r.ends
      go (Load form) r = (form, refl)

  pub means_of : (how : Dialect) (c : Command) → EndsBy how c status l0 l1 p0 p1 → Means how c status l0 l1
  means_of how (Run mode form σ) e = λ bytes source. ends_mean _ _ _ _ status _ _ _ _ bytes e source
  means_of how (Bench start count) e = figures_mean status start count p0 p1 e
  means_of how (Save σ) e = λ bytes source. ends_mean _ _ _ _ status _ _ _ _ bytes e source
  means_of how (Load form) e = record {
    image = load_image how form e;
    lines = λ σ docs rest allowed lawful source. load_means σ docs rest allowed lawful how form status l0 l1 p0 p1 e source;
    bad_image = λ bad. (bad_told how form status l0 l1 p0 p1 e bad).1;
  }

  module _ (read_risen write_risen : Type 0) (read : status ≡ ReadFault → read_risen) (write : status ≡ WriteFault → write_risen) where
    pub completes_of : (how : Dialect) (c : Command) → EndsBy how c status l0 l1 p0 p1 → Completes c read_risen write_risen status l0
    completes_of how (Run mode form σ) e = λ no_read no_write bytes source short. completes _ _ _ _ status _ _ _ _ _ _ bytes e read write no_read no_write source short
    completes_of how (Bench start count) e = λ no_write. figures_end status _ p0 p1 write_risen e write no_write
    completes_of how (Save σ) e = λ no_read no_write bytes source short. completes _ _ _ _ status _ _ _ _ _ _ bytes e read write no_read no_write source short
    completes_of how (Load form) e = λ no_read no_write σ docs rest allowed lawful source short.
        load_completes σ docs rest allowed lawful how form status l0 l1 p0 p1 read_risen write_risen e read write no_read no_write source short

-- ---- words ask for one command

-- the words ask for a, and for this command by these names of fields
pub ends_asked : (o : Option Asks) (a : Asks) (how : Dialect) (c : Command) (status : Status) (l0 l1 p0 p1 : Option (List ℕ)) → o ≡ Some a → o ≡ Some (asks how c)
    → EndsBy a.dialect a.command status l0 l1 p0 p1 → EndsBy how c status l0 l1 p0 p1
ends_asked o a how c status l0 l1 p0 p1 own is ends = subst (λ (x : Option Asks). IfSome x (λ (b : Asks). EndsBy b.dialect b.command status l0 l1 p0 p1)) (sym own ∙ is) ends

-- ---- where memory ran out before anything was done

pub none_done : (how : Dialect) (c : Command) (left printed : Option (List ℕ)) → EndsBy how c NoMemory left left printed printed
none_done how (Run mode form σ) left printed = let r = run_rules how σ mode form in ends_none r.other r.way r.rules left printed
none_done how (Bench start count) left printed = figures_none _ printed
none_done how (Save σ) left printed = passing.ends_at_once _ _ _ _ (parts_first (saved.asked how σ)) left printed (head_of σ) (parts_none (saved.asked how σ))
none_done how (Load form) left printed = load_none how form left printed
