use Rattle.eb_fields.specs.Dialect.{dialect_of}
use Rattle.std.proofs.Common.{inr, refl}
use Rattle.run_images.specs.Loaded.{Loaded, rules_of}
use Rattle.run_index.proofs.Indexes.{indexed_none}
use Rattle.run_images.proofs.load.pass_loaded.Goals as goal

pub answer_lines-requires : goal.answer_lines-requires
answer_lines-requires g c =
    let filled = c.in-Ok.ensures.all in
    let a : Loaded = record { dialect = dialect_of c.args.dialect; setting = filled.setting; documents = filled.documents; form = c.args.form } in
    (rules_of a, refl, indexed_none _ _ _ _ _ (c.telling.ensures.holds _ _ filled.store) c.telling.ensures.form)

pub returns-clause-ends : goal.returns-clause-ends
returns-clause-ends g c =
    let filled = c.in-Ok.ensures.all in
    let a : Loaded = record { dialect = dialect_of c.args.dialect; setting = filled.setting; documents = filled.documents; form = c.args.form } in
    inr (record {
      loaded = a;
      loadable = record { allowed = filled.allowed; lawful = filled.lawful };
      dialect = refl;
      same = refl;
      lines = g.S.Source.left c.read_image.new.source;
      image = filled.taken;
      ends = c.answer_lines.ensures.ends (rules_of a) refl (indexed_none _ _ _ _ _ (c.telling.ensures.holds _ _ filled.store) c.telling.ensures.form);
    })
