use Rattle.std.proofs.Common.{ap, ◌∙◌, arith}
use Rattle.eb_place.specs.Moments.{word}
use Rattle.eb_place.proofs.ReaderWords.{word_posting, posting_small}
use Rattle.eb_chain.proofs.Rows.{place_low, place_later}
use Rattle.eb_chain.proofs.chain.posting_from.Goals as goal

pub load-requires : goal.load-requires
load-requires g c =
    let r = c.requires in
    (r.0, r.5, place_low r.0 r.1 r.2 r.3 r.4 c.args.place (g.met.P.Port.lawful c.args.port.now r.0 r.5) r.6)

pub posting_in_word-requires : goal.posting_in_word-requires
posting_in_word-requires g c =
    let r = c.requires in
    let m = r.0 in
    let n = c.load.ensures.told m r.5 in
    let is = g.met.P.Port.lawful c.args.port.now m r.5 in
    let js = g.met.P.Port.lawful c.load.new.self n.0 n.1 in
    let h = place_later m n.0 r.1 r.2 r.3 r.4 c.args.place is n.2 r.6 in
    let w = n.4 ∙ ap (word n.0) h.is ∙ word_posting n.0 r.1 r.2 r.3 r.4 js h.address in
    let small = posting_small n.0 r.1 r.2 r.3 js in
    omega (arith, w, small)

pub returns-clause-told : goal.returns-clause-told
returns-clause-told g c = λ s t f a. record {
  told = λ m st l.
      (let n = c.load.ensures.told m st in
      let is = g.met.P.Port.lawful c.args.port.now m st in
      let js = g.met.P.Port.lawful c.load.new.self n.0 n.1 in
      let h = place_later m n.0 s t f a c.args.place is n.2 l in
      let w = n.4 ∙ ap (word n.0) h.is ∙ word_posting n.0 s t f a js h.address in
      (n.0, n.1, n.2, n.3, record { address = h.address; is = c.posting_in_word.ensures ∙ w }));
}
