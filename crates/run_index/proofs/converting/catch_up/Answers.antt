use Rattle.run_index.proofs.Conversions.{converted_front}
use Rattle.run_index.proofs.converting.catch_up.Goals as goal

pub returns-then-has_waiting-clause-converted : goal.returns-then-has_waiting-clause-converted
returns-then-has_waiting-clause-converted c =
    converted_front c.args.index.now.setting c.reader.new.self.docs c.meet.new.self.docs c.convert_all.new.converter.converted
    (rw (c.reader.ensures.this, ← c.reader.ensures.reader) c.meet.ensures.reader) c.convert_all.ensures.converted
