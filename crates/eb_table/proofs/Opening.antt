-- The rule holds at first.
use Rattle.std.proofs.Common.{◌≡◌, ℕ, inl, List, [], replicate}
use Rattle.std.proofs.Common.{refl, ◌∙◌}
use Rattle.atomic_table.specs.Table.{opening}
use Rattle.eb_base.specs.Setting.{Setting, IsSetting, words_of}
use Rattle.eb_place.specs.Moments.{empty_moment}
use Rattle.eb_place.proofs.AfterStore.{moment_nothing}
use Rattle.eb_place.proofs.ImagesOfMoments.{image_nothing}
use Rattle.eb_table.specs.declared.view.View.TheVariants.{Opening}
use Rattle.eb_table.specs.Rule.{KeepsWords}

pub opens : (σ : Setting) (words : List ℕ) → IsSetting σ → words ≡ replicate (words_of σ) 0 → KeepsWords σ (opening words [] (Opening (empty_moment σ)))
opens σ words k e = record { whole = empty_moment σ; setting = refl; moment = moment_nothing σ k; words = e ∙ image_nothing σ; views = inl (refl, refl) }
