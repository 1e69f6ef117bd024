use Rattle.std.proofs.Common.{◌∙◌, ap, arith}
use Rattle.eb_place.specs.declared.moment.Documents.{Documents}
use Rattle.eb_place.specs.Postings.{posting_of}
use Rattle.eb_place.proofs.LaterMoments.{later_on}
use Rattle.eb_writer.specs.Recall.{token_at}
use Rattle.eb_writer.proofs.Coming.{posting_next, next_token}
use Rattle.eb_writer.proofs.Ends.{used_documents, documents_low}
use Rattle.eb_writer.proofs.storing.store_token.Goals as goal

pub posting-value-requires-clause-document : goal.posting-value-requires-clause-document
posting-value-requires-clause-document g c =
    let r = c.requires in
    let d = c.args.document.now in
    let s = c.args.segment in
    let n = c.entered_number-number.ensures.written r.0 r.1 (r.2, r.3, r.4, r.5) in
    let is = g.met.P.Port.lawful _ n.0 n.1 in
    let l = documents_low n.0 d s is n.3.1.placed in
    omega (arith, used_documents n.0 d s c.entered_number-number.new.used is n.3.1.placed n.3.3, l.0, l.1)

pub append-requires : goal.append-requires
append-requires g c =
    let r = c.requires in
    let d = c.args.document.now in
    let s = c.args.segment in
    let i = c.args.at in
    let n = c.entered_number-number.ensures.written r.0 r.1 (r.2, r.3, r.4, r.5) in
    let is = g.met.P.Port.lawful _ n.0 n.1 in
    let e = c.posting-value.ensures ∙ ap (λ k. posting_of k i) (used_documents n.0 d s c.entered_number-number.new.used is n.3.1.placed n.3.3) in
    (n.0, token_at d.terms i, n.1, n.3.2, n.3.3, posting_next n.0 d s i c.posting-value.result e n.3.1)

pub returns : goal.returns
returns g c = record {
  written = λ m st h.
      (let d = c.args.document.now in
      let s = c.args.segment in
      let i = c.args.at in
      let n = c.entered_number-number.ensures.written m st h in
      let is = g.met.P.Port.lawful _ n.0 n.1 in
      let e = c.posting-value.ensures ∙ ap (λ k. posting_of k i) (used_documents n.0 d s c.entered_number-number.new.used is n.3.1.placed n.3.3) in
      let o = (c.append.ensures (token_at d.terms i)).written n.0 n.1 (n.3.2, n.3.3, posting_next n.0 d s i c.posting-value.result e n.3.1) in (
        o.0,
        o.1,
        g.met.P.Port.same_on _ _ _ n.2 o.2,
        (
          record { later = later_on m n.0 o.0 n.3.0.later o.3.0.later; accepted = ap (λ (x : Documents). x.accepted) o.3.0.documents ∙ n.3.0.accepted },
          next_token n.0 o.0 d s i c.posting-value.result is e n.3.1 o.3.0,
          o.3.1,
        ),
      ));
}
