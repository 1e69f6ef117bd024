use Rattle.std.proofs.Common.{ℕ, List, ◌++◌, ap, ◌∙◌, append_assoc}
use Rattle.std.specs.Prelude.{codes}
use Rattle.std.specs.Fmt.{decimal}
use Rattle.std.specs.String.{string_bytes}
use Rattle.eb_run.proofs.Benches.{five_parts}
use Rattle.eb_run.proofs.figures.put_counts.Goals as goal

pub returns : goal.returns
returns c =
    let text = string_bytes c.args.text.now in
    let rest : List ℕ = decimal c.args.documents ++ (codes ", queries " ++ (decimal c.args.queries ++ codes ", ")) in
    c.in_ok-write.ensures.bytes ∙ ap (λ t. t ++ rest) c.in_ok-push_str.ensures.bytes ∙ append_assoc text (codes "bench: documents ") rest
    ∙ ap (λ b. text ++ b) (five_parts (codes "bench: documents ") (decimal c.args.documents) (codes ", queries ") (decimal c.args.queries) (codes ", "))
