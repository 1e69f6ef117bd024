use Rattle.eb_fields.specs.Dialect.{Dialect, uncounted, uncounted_of}
use Rattle.std.proofs.Common.{refl, subst, arith}
use Rattle.eb_io.specs.Lines.{line}
use Rattle.eb_lines.specs.Reading.{blank}
use Rattle.eb_lines.specs.Reads.{Reads}
use Rattle.eb_lines.specs.Works.{reading_of}
use Rattle.eb_lines.specs.declared.work.Work.{Work}
use Rattle.eb_run.proofs.Benches.{takes_quiet}
use Rattle.eb_run.proofs.bench.Bench.work_line.Goals as goal

pub returns-in-Nothing : goal.returns-in-Nothing
returns-in-Nothing g c = λ lines h few.
    let R : Work → Type 0 = λ work. Reads (uncounted_of c.plain.result) (line c.args.bytes.now) (reading_of work) in
    let N : Dialect → Type 0 = λ ns. Reads (uncounted ns) (line c.args.bytes.now) blank in
    takes_quiet c.args.self.now c.args.self.now blank (λ docs. refl) refl refl (λ docs. refl) refl refl (omega arith) refl refl lines (line c.args.bytes.now)
    (subst N c.plain.ensures (subst R c.in-Nothing.is c.in_ok-read_line.ensures)) h few
