-- What is found where the query of a text is complete.
use Rattle.eb_fields.specs.Dialect.{Dialect}
use Rattle.std.proofs.Common.{◌≡◌, ℕ, List, Result, Ok, Err, IfOk, IfErr, OnOk, OnErr, sym, ap, ◌∙◌, subst}
use Rattle.eb_base.specs.Query.{tree, IsWellFormed}
use Rattle.eb_base.specs.declared.query.Query.{Query}
use Rattle.eb_query.specs.Lexemes.{lexemes}
use Rattle.eb_query.specs.declared.ask.Ask.{Ask}
use Rattle.eb_query.specs.declared.read.QueryFault.{QueryFault}
use Rattle.eb_query.specs.declared.read.QueryFault.TheVariants as faults
use Rattle.eb_query.specs.Reading.{asks}
use Rattle.eb_query.specs.Machine.{start, sized, outcome}
use Rattle.eb_query.specs.Views.{Finds}
use Rattle.eb_query.proofs.Formed.{sized_fits, sized_large}

pub fits_finds : (a : Ask) (how : Dialect) (line : List ℕ) (c : ℕ) (bs : List ℕ) (q : Query) (r : Result Query QueryFault)
    → outcome line a (lexemes how 0 c bs) start ≡ sized a (tree q) → IfOk r (λ f. f ≡ q) → OnOk r (IsWellFormed (tree q))
    → IfErr r (λ f. f ≡ faults.TooManyNodes) → OnErr r (IsWellFormed (tree q) → ⊥) → Finds a (outcome line a (lexemes how 0 c bs) start) r
fits_finds a how line c bs q (Ok f) e i w k n = e ∙ sized_fits a line (tree q) w ∙ ap (λ (x : Query). asks a (tree x)) (sym i)
fits_finds a how line c bs q (Err f) e i w k n =
    subst (λ (x : QueryFault). Finds a (outcome line a (lexemes how 0 c bs) start) (Err x)) (sym k) (sized_large a how line c bs (tree q) e n)
