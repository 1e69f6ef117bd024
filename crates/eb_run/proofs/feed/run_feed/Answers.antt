use Rattle.eb_lines.proofs.Told.{ends_told, ends_mean, completes}
use Rattle.eb_run.proofs.feed.run_feed.Goals as goal

pub returns-clause-output : goal.returns-clause-output
returns-clause-output g c = λ how asked is bytes before source sink.
    ends_told _ _ _ _ c.run_words-status.result _ _ _ _ bytes (c.run_words-status.ensures.ends how asked is) source before sink

pub returns-clause-means : goal.returns-clause-means
returns-clause-means g c = λ how asked is bytes source. ends_mean _ _ _ _ c.run_words-status.result _ _ _ _ bytes (c.run_words-status.ensures.ends how asked is) source

pub returns-clause-completes : goal.returns-clause-completes
returns-clause-completes g c = λ how asked is no_read no_write bytes source short.
    completes _ _ _ _ c.run_words-status.result _ _ _ _ _ _ bytes (c.run_words-status.ensures.ends how asked is) c.run_words-status.ensures.read_fault
    c.run_words-status.ensures.write_fault no_read no_write source short
