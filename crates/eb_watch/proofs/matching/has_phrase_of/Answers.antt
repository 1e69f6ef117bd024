use Rattle.std.proofs.Common.{◌≡◌, ℕ, ◌-◌, ◌==◌, false, List, [], ◌∷◌, length, sym, ap, ◌∙◌, arith}
use Rattle.eb_base.specs.Match.{has_phrase, has_window}
use Rattle.eb_watch.proofs.Phrases.{phrase_by}
use Rattle.eb_watch.proofs.matching.has_phrase_of.Goals as goal

pub returns-clause-test : goal.returns-clause-test
returns-clause-test c = c.has_window_of.ensures.test ∙ go c.args.phrase.now (sym c.is_empty.ensures ∙ c.if-is_empty.false)
  where
    go : (ts : List (List ℕ)) → (length ts == 0) ≡ false → has_window ts (length ts - 1) c.args.document.now.terms ≡ has_phrase ts c.args.document.now.terms
    go [] h = absurd (let no : ⊥ = cc in no)
    go (t ∷ ts) h = let e : length (t ∷ ts) - 1 ≡ length ts = omega arith in
        ap (λ (n : ℕ). has_window (t ∷ ts) n c.args.document.now.terms) e ∙ phrase_by t ts c.args.document.now.terms
