use Rattle.std.proofs.Common.{Bool, refl, subst, arith}
use Rattle.run_index.specs.Indexed.{WithPlaced}
use Rattle.eb_lines.specs.Progress.{accepted}
use Rattle.eb_run.specs.Bench.{usual}
use Rattle.eb_run.proofs.Benches.{refused_few, takes_placed, takes_full}
use Rattle.eb_run.proofs.bench.Bench.add.Goals as goal

pub add-requires : goal.add-requires
add-requires g c = let r = c.requires in (usual, accepted r.1.readings, r.1.holds)

pub overflow_add-self : goal.overflow_add-self
overflow_add-self g c = let r = c.requires in omega (arith, refused_few c.args.self.now r.0 r.1 r.2)

pub returns-then-add : goal.returns-then-add
returns-then-add g c =
    takes_placed c.args.self.now _ c.args.document.now refl refl refl
    (λ docs h. let P : Bool → Type 0 = WithPlaced c.add.new.self usual docs c.args.document.now in subst P c.if-add.true (c.add.ensures.placed usual docs h)) refl

pub returns : goal.returns
returns g c =
    takes_full c.args.self.now _ c.args.document.now refl refl refl
    (λ docs h. let P : Bool → Type 0 = WithPlaced c.add.new.self usual docs c.args.document.now in subst P c.if-add.false (c.add.ensures.placed usual docs h)) refl
