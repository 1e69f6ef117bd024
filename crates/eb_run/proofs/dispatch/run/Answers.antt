use Rattle.eb_run.proofs.Commanded.{ran_of, only_load, means_of, completes_of}
use Rattle.eb_run.proofs.dispatch.run.Goals as goal

pub returns-clause-ran : goal.returns-clause-ran
returns-clause-ran g c = λ how command is. ran_of c.run_words-status.result _ _ _ _ how command (c.run_words-status.ensures.ends how command is)

pub returns-clause-means : goal.returns-clause-means
returns-clause-means g c = λ how command is. means_of c.run_words-status.result _ _ _ _ how command (c.run_words-status.ensures.ends how command is)

pub returns-clause-bad_image : goal.returns-clause-bad_image
returns-clause-bad_image g c = λ how command is. only_load c.run_words-status.result _ _ _ _ how command (c.run_words-status.ensures.ends how command is)

pub returns-clause-completes : goal.returns-clause-completes
returns-clause-completes g c = λ how command is.
    completes_of c.run_words-status.result _ _ _ _ _ _ c.run_words-status.ensures.read_fault c.run_words-status.ensures.write_fault how command (c.run_words-status.ensures.ends how command is)
