use Rattle.std.proofs.Common.{◌≡◌, length, min, take, refl, ap, sym, subst, ◌∙◌, arith}
use Rattle.std.proofs.lemmas.List.{take_all}
use Rattle.eb_cursor.specs.Frames.{query_of, k_of}
use Rattle.eb_base.specs.Match.{answer}
use Rattle.eb_feed.specs.Generations.{kept}
use Rattle.feed_shared.specs.Turns.{WriterToken, counted, history_of, stretch_of}
use Rattle.feed_with_workers.specs.declared.feed_office.FeedOffice.{FeedOffice}
use Rattle.feed_with_workers.specs.Offices.{docs_of, taken_by}
use Rattle.feed_with_workers.proofs.Fronts.{reader_keeps, writer_keeps, settled_within, settled_front, counted_is}
use Rattle.feed_with_workers.proofs.SameOffices.{same_office}
use Rattle.feed_with_workers.proofs.feed_office.FeedOffice.settle_front.Goals as goal

pub returns-then-has_front-clause-within : goal.returns-then-has_front-clause-within
returns-then-has_front-clause-within g c = λ few.
    let r = c.args.reader in
    (settled_within c.args.self.now.feed (history_of r.log r.docs) c.args.seen (c.has_front.ensures.front c.if-has_front.true) c.requires.seen few).1

pub returns-then-has_front-clause-ids : goal.returns-then-has_front-clause-ids
returns-then-has_front-clause-ids g c = λ few.
    let w = c.args.self.now.feed in
    let r = c.args.reader in
    let e = c.has_front.ensures in
    let yes = c.if-has_front.true in
    let known = history_of r.log r.docs in
    let seen = (settled_within w known c.args.seen (e.front yes) c.requires.seen few).0 in
    c.requires.found ∙ ap (answer (query_of c.args.frame.now) (k_of c.args.frame.now))
    (reader_keeps w r c.requires.staffed.taken c.requires.made.held c.requires.made.begun (e.turns yes) (e.log yes) (e.front yes)
    ∙ ap (kept w.setting w.keep) (sym (settled_front w known c.args.seen (e.front yes) seen)))

pub returns-clause-same : goal.returns-clause-same
returns-clause-same g c = same_office c.has_front.new.self _ refl refl c.search_unmetered.ensures.this refl ∙ c.has_front.ensures.same

pub returns-clause-within : goal.returns-clause-within
returns-clause-within g c = λ few.
    let e = c.search_unmetered.ensures in
    let count = e.count ∙ ap (λ (w : WriterToken). counted (taken_by w)) e.this ∙ ap (λ (o : FeedOffice). counted (docs_of o)) c.has_front.ensures.same in
    omega (arith, count, few)

pub returns-clause-ids : goal.returns-clause-ids
returns-clause-ids g c = λ few.
    let same = c.has_front.ensures.same in
    let w = c.args.self.now.feed in
    let docs = taken_by w in
    let q = query_of c.args.frame.now in
    let k = k_of c.args.frame.now in
    let e = c.search_unmetered.ensures in
    let count = e.count ∙ ap (λ (w : WriterToken). counted (taken_by w)) e.this ∙ ap (λ (o : FeedOffice). counted (docs_of o)) same ∙ counted_is docs few in
    let all : take c.search_unmetered.result docs ≡ docs = take_all c.search_unmetered.result docs (omega (arith, count)) in
    let own = subst (λ (w : WriterToken). w.feed.held ≡ min w.keep (length w.feed.log)) e.this e.held in
    let held = subst (λ (o : FeedOffice). o.feed.feed.held ≡ min o.feed.keep (length o.feed.feed.log)) same own in
    e.ids ∙ ap (λ (w : WriterToken). answer q k (stretch_of w.feed.held w.feed.log w.feed.docs)) e.this
    ∙ ap (λ (o : FeedOffice). answer q k (stretch_of o.feed.feed.held o.feed.feed.log o.feed.feed.docs)) same
    ∙ ap (answer q k) (writer_keeps w c.requires.staffed.taken held ∙ ap (kept w.setting w.keep) (sym all))
