use Rattle.std.proofs.Common.{ℕ, List, [], ◌≤◌, Option}
use Rattle.eb_base.specs.Document.{Doc}
use Rattle.eb_base.specs.Setting.{Setting, IsSetting}
use Rattle.run_images.specs.Reading.{HasRead}
use Rattle.run_images.proofs.image.read_parts.Given as goal

abbrev pub invariant-parts : goal.invariant-parts
invariant-parts g l = record {
  read : (σ : Setting) (first : Option (List ℕ)) → IsSetting σ → HasRead l.fn.store σ [] first (g.S.Source.left l.fn.source)
      → (docs : List Doc) × HasRead l.store σ docs first (g.S.Source.left l.source);
  later : g.S.Source.faults l.fn.source ≤ g.S.Source.faults l.source;
}
