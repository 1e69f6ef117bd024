-- What processing the lines of a round does.
use Rattle.std.specs.Prelude.{◌≡◌, ℕ, ◌+◌, ◌≤◌, map, vec_len, vec_capacity}
use Rattle.std.specs.declared.vec.Vec.{Vec}
use Rattle.eb_base.specs.Setting.{Setting}
use Rattle.eb_engine.specs.Tokens.{HistoryToken}
use Rattle.eb_lines.specs.declared.form.Form.{Form}
use Rattle.eb_rounds.specs.declared.tasks.Tasks.{Tasks}
use Rattle.eb_rounds.specs.Shown.{IsRoundOfLines}
use Rattle.eb_rounds.specs.Works.{asked_entry, given_entry, need_of_tasks}

-- the lines were processed over an index of this setting, by its writer, and what they print stands
-- after the text, in the room that was taken for it; `added` is how many documents were added and
-- how many lines refused from the first document line on, `answered` how many queries were answered
-- and how many lines refused before
pub record AreWorkedOff {Z : Type 0} (form : Form) (σ : Setting) (t : Tasks) (old new : HistoryToken) (text more : Vec ℕ Z) (added answered : ℕ × ℕ) : Type 0 where
  pub index : new.index ≡ old.index
  pub len : vec_len more ≤ vec_len text + need_of_tasks t
  pub room : vec_capacity text ≤ vec_capacity more
  pub lines : IsRoundOfLines form σ old.docs new.docs (map asked_entry t.asked.items) (map given_entry t.given.items) text.items more.items answered.0 added.0 answered.1 added.1
