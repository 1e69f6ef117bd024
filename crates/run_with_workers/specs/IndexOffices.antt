-- A desk with its clerk, beside the writer and the converter of its index.
use Rattle.std.specs.Prelude.{◌≡◌, Bool, true, false, List, [], ◌∷◌, ◌++◌, Option, Some, None, Contains}
use Rattle.run_store.specs.Rules.{Rules}
use Rattle.eb_base.specs.Document.{Doc}
use Rattle.eb_desk.specs.Desk.{Queues}
use Rattle.eb_fields.specs.Dialect.{Dialect}
use Rattle.run_index.specs.Conversions.{AreConverted}
use Rattle.run_index.specs.IndexRules.{index_rules}
use Rattle.eb_place.specs.Room.{has_room, HasRoom}
use Rattle.eb_serve.specs.Desk.{IsOpen, new_clerk}
use Rattle.eb_serve.specs.Jobs.{answerer, answer_pair}
use Rattle.eb_serve.specs.declared.job.Answer.{Answer}
use Rattle.eb_table.specs.Known.{Words}
use Rattle.run_with_workers.specs.declared.index_office.Side.{Side}
use Rattle.run_with_workers.specs.declared.index_office.IndexOffice.{IndexOffice}

-- the clerk is the desk's and has put no stop, all are of the index, and each segment whose following segment has a document is
-- converted
pub record IsStaffed (o : IndexOffice) : Type 0 where
  pub clerk : IsOpen o.desk.now.queues o.index.now o.clerk
  pub writer : o.writer.index ≡ o.index.now
  pub converter : o.converter.index ≡ o.index.now
  pub converted : AreConverted o.index.now.setting o.writer.docs o.converter.converted

-- the answer is one over the index, to what the clerk put
pub record IsAnswerAt (o : IndexOffice) (a : Answer) : Type 0 where
  pub made : (answerer a).index ≡ o.index.now
  pub put : Contains o.clerk.put (answer_pair a)

-- it holds these documents, and goes by the rules of an index that held nothing at first
pub record HoldsIndex (o : IndexOffice) (rules : Rules (Unit {0})) (docs : List Doc) (none : Unit {0}) : Type 0 where
  pub dialect : Dialect
  pub by_rules : rules ≡ index_rules dialect o.index.now.setting o.form []
  pub staffed : IsStaffed o
  pub documents : o.writer.docs ≡ docs

-- the office is still one of the same index
pub record Keeps (old new : IndexOffice) : Type 0 where
  pub staffed : IsStaffed new
  pub index : new.index.now ≡ old.index.now
  pub form : new.form ≡ old.form

-- a document was placed after the others; or there was no room for it
abbrev pub WithPlaced : IndexOffice → IndexOffice → Doc → Bool → Type 0
WithPlaced old new d true = HasRoom old.index.now.setting old.writer.docs d × (new.writer.docs ≡ old.writer.docs ++ d ∷ [])
WithPlaced old new d false = (has_room old.index.now.setting old.writer.docs d ≡ false) × (new.writer.docs ≡ old.writer.docs)

-- a new clerk of these queues, and the writer and the converter of an empty index
abbrev pub IsNewSide : Queues → Words → Option Side → Type 0
IsNewSide queues index None = ⊥
IsNewSide queues index (Some s) = (s.clerk ≡ new_clerk queues index) × (s.writer.index ≡ index) × (s.writer.docs ≡ []) × (s.converter.index ≡ index)
