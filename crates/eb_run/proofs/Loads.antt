-- How a load ends that reads no image.
use Rattle.eb_fields.specs.Dialect.{Dialect}
use Rattle.std.proofs.Common.{◌≡◌, ℕ, List, [], ◌++◌, Option, inl, inr, refl, sym, ap, ◌∙◌, subst}
use Rattle.run_images.specs.Loaded.{EndsLoad, IsImage}
use Rattle.run_images.proofs.Images.{none_head}
use Rattle.eb_image.specs.Image.{head_of}
use Rattle.eb_image.specs.Reading.{IsHead, HasNone, IsBad}
use Rattle.eb_io.specs.Source.{after}
use Rattle.eb_io.proofs.Bytes.{after-nil}
use Rattle.eb_lines.specs.declared.form.Form.{Form}
use Rattle.eb_lines.specs.declared.status.Status.{Status}
use Rattle.eb_lines.specs.declared.status.Status.TheVariants.{NoMemory, BadImage}

no_bytes : HasNone IsHead []
unfolding head_of
no_bytes whole h f =
    let e : [] ≡ head_of h.setting ++ f.rest = f.is ∙ ap (λ (w : List ℕ). w ++ f.rest) h.is in
    let no : ⊥ = cc e in no

-- no memory before anything is read
pub load_none : (how : Dialect) (form : Form) (left printed : Option (List ℕ)) → EndsLoad how form NoMemory left left printed printed
load_none how form left printed = inl (record { taken = []; left = sym (after-nil left); why = none_head [] no_bytes; printed = refl })

-- nothing was printed where no image was read
pub bad_told : (how : Dialect) (form : Form) (status : Status) (l0 l1 p0 p1 : Option (List ℕ)) → EndsLoad how form status l0 l1 p0 p1 → status ≡ BadImage
    → (p1 ≡ p0) × ((taken : List ℕ) × (l0 ≡ after taken l1) × IsBad IsImage taken l1)
bad_told how form status l0 l1 p0 p1 e is = go (subst (λ (s : Status). EndsLoad how form s l0 l1 p0 p1) is e)
  where
    go : EndsLoad how form BadImage l0 l1 p0 p1 → (p1 ≡ p0) × ((taken : List ℕ) × (l0 ≡ after taken l1) × IsBad IsImage taken l1)
    go (inl u) = (u.printed, (u.taken, u.left, u.why))
    go (inr r) = absurd r.ends.ends
