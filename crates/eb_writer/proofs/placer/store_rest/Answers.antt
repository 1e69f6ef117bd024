use Rattle.std.proofs.Common.{◌∙◌, ap, sym, arith, length, refl}
use Rattle.eb_writer.proofs.Ends.{used_documents, documents_low}
use Rattle.eb_writer.proofs.Adding.{tells_accepted, accepted_on}
use Rattle.eb_writer.proofs.placer.store_rest.Goals as goal

pub finish-requires : goal.finish-requires
finish-requires g c =
    let r = c.requires in
    let d = c.args.document.now in
    let s = c.args.segment in
    let n = c.store_tokens.ensures.written r.0 r.1 (r.2, r.3, r.4) in
    (n.0, n.1, n.3.1, used_documents n.0 d s c.store_tokens.new.used (g.met.P.Port.lawful _ n.0 n.1) n.3.1.placed n.3.2, r.5 ∙ ap length (sym n.3.0.accepted))

pub overflow_add-result : goal.overflow_add-result
overflow_add-result g c =
    let r = c.requires in
    let d = c.args.document.now in
    let s = c.args.segment in
    let n = c.store_tokens.ensures.written r.0 r.1 (r.2, r.3, r.4) in
    let is = g.met.P.Port.lawful _ n.0 n.1 in
    let l = documents_low n.0 d s is n.3.1.placed in
    omega (arith, used_documents n.0 d s c.store_tokens.new.used is n.3.1.placed n.3.2, l.0, l.1)

pub returns : goal.returns
returns g c = record {
  written = λ m st q.
      (let d = c.args.document.now in
      let s = c.args.segment in
      let n = c.store_tokens.ensures.written m st (q.0, q.1, q.2) in
      let is = g.met.P.Port.lawful _ n.0 n.1 in
      let docs = used_documents n.0 d s c.store_tokens.new.used is n.3.1.placed n.3.2 in
      let o = c.finish.ensures.written n.0 n.1 (n.3.1, docs, q.3 ∙ ap length (sym n.3.0.accepted)) in (
        o.0,
        o.1,
        g.met.P.Port.same_on _ _ _ n.2 o.2,
        (
          accepted_on m n.0 o.0 d n.3.0 o.3,
          tells_accepted n.0 n.0 o.0 d s c.store_tokens.new.used _ is (g.met.P.Port.lawful _ o.0 o.1) n.3.1.placed n.3.1 n.3.2 refl o.3 docs refl,
        ),
      ));
}
