use Rattle.std.proofs.Common.{◌≡◌, ◌+◌, [], ◌∷◌, ap, ◌∙◌, arith, List}
use Rattle.eb_base.specs.Setting.{Setting}
use Rattle.eb_place.specs.Layout.{place, pool_slot}
use Rattle.eb_place.specs.Layout.Slot.{slot}
use Rattle.eb_place.specs.Layout.Region.{tail_region}
use Rattle.eb_place.specs.Placing.{Store}
use Rattle.eb_place.specs.Moments.{word}
use Rattle.eb_place.specs.NextStores.{after_store}
use Rattle.eb_place.proofs.ReaderWords.{tail_in_table}
use Rattle.eb_chain.specs.NextPlaces.{after_link}
use Rattle.eb_chain.proofs.Posted.{found, carried, posted, behind, before_it, link_next}
use Rattle.eb_chain.proofs.writing.append.Goals as goal

pub tail-tail-requires-clause-term : goal.tail-tail-requires-clause-term
tail-tail-requires-clause-term g c =
    let r = c.requires in
    let is = g.met.P.Port.lawful c.args.pen.now r.0 r.2 in
    let b = (tail_in_table r.0 c.args.segment r.1 c.args.term is r.3).0 in
    let e = ap (λ (σ : Setting). σ.terms) (c.new.ensures ∙ c.config.ensures r.0 r.2) in
    omega (arith, b, e)

pub next_place-next-requires : goal.next_place-next-requires
next_place-next-requires g c =
    let r = c.requires in
    let m = r.0 in
    let t = r.1 in
    let st = r.2 in
    let term = r.3 in
    let tells = r.4 in
    let q = r.5 in
    let n = c.load_alone-last.ensures m st in
    let js = g.met.P.Port.lawful c.load_alone-last.new.port n.0 n.1 in
    let d = c.args.document.now in
    let v = c.args.segment in
    let k = c.args.term in
    let same = g.met.P.Pen.pen_keeps _ _ m n.0 n.3 in
    let car = carried m n.0 d v t c.args.posting k c.args.used.now n.2 same term tells q in
    let at : c.tail-tail.result ≡ place n.0.setting (slot v tail_region k) = c.tail-tail.ensures.place
    ∙ ap (λ (σ : Setting). place σ (slot v tail_region k)) (c.new.ensures ∙ c.config.ensures m st ∙ n.2.setting) in
    let e : c.load_alone-last.result ≡ word n.0 (place n.0.setting (slot v tail_region k)) = n.4 ∙ ap (word n.0) at in
    let f = found n.0 d v t c.args.posting k c.load_alone-last.result c.args.used.now js car.term car.tells car.next e in
    (before_it n.0 d v t c.args.posting car.next, f.word, f.room)

pub store_link-requires : goal.store_link-requires
store_link-requires g c =
    let r = c.requires in
    let m = r.0 in
    let t = r.1 in
    let st = r.2 in
    let term = r.3 in
    let tells = r.4 in
    let q = r.5 in
    let n = c.load_alone-last.ensures m st in
    let js = g.met.P.Port.lawful c.load_alone-last.new.port n.0 n.1 in
    let d = c.args.document.now in
    let v = c.args.segment in
    let k = c.args.term in
    let same = g.met.P.Pen.pen_keeps _ _ m n.0 n.3 in
    let car = carried m n.0 d v t c.args.posting k c.args.used.now n.2 same term tells q in
    let at : c.tail-tail.result ≡ place n.0.setting (slot v tail_region k) = c.tail-tail.ensures.place
    ∙ ap (λ (σ : Setting). place σ (slot v tail_region k)) (c.new.ensures ∙ c.config.ensures m st ∙ n.2.setting) in
    let e : c.load_alone-last.result ≡ word n.0 (place n.0.setting (slot v tail_region k)) = n.4 ∙ ap (word n.0) at in
    let f = found n.0 d v t c.args.posting k c.load_alone-last.result c.args.used.now js car.term car.tells car.next e in
    let to = c.next_place-next.result in
    let h = c.next_place-next.ensures (before_it n.0 d v t c.args.posting car.next) f.word f.room in
    let p = posted m n.0 d v t c.args.posting k c.load_alone-last.result c.args.used.now to js n.2 same car e h in
    let now : List Store = (pool_slot v to.address, c.args.posting) ∷ (slot v tail_region k, to.address + 1) ∷ [] in
    (n.0, now, n.1, (λ last l. behind n.0 d v t c.args.posting k c.load_alone-last.result last c.args.used.now to js car e h l), p.next)

pub store_posting-requires : goal.store_posting-requires
store_posting-requires g c =
    let r = c.requires in
    let m = r.0 in
    let t = r.1 in
    let st = r.2 in
    let term = r.3 in
    let tells = r.4 in
    let q = r.5 in
    let n = c.load_alone-last.ensures m st in
    let js = g.met.P.Port.lawful c.load_alone-last.new.port n.0 n.1 in
    let d = c.args.document.now in
    let v = c.args.segment in
    let k = c.args.term in
    let same = g.met.P.Pen.pen_keeps _ _ m n.0 n.3 in
    let car = carried m n.0 d v t c.args.posting k c.args.used.now n.2 same term tells q in
    let at : c.tail-tail.result ≡ place n.0.setting (slot v tail_region k) = c.tail-tail.ensures.place
    ∙ ap (λ (σ : Setting). place σ (slot v tail_region k)) (c.new.ensures ∙ c.config.ensures m st ∙ n.2.setting) in
    let e : c.load_alone-last.result ≡ word n.0 (place n.0.setting (slot v tail_region k)) = n.4 ∙ ap (word n.0) at in
    let f = found n.0 d v t c.args.posting k c.load_alone-last.result c.args.used.now js car.term car.tells car.next e in
    let to = c.next_place-next.result in
    let h = c.next_place-next.ensures (before_it n.0 d v t c.args.posting car.next) f.word f.room in
    let p = posted m n.0 d v t c.args.posting k c.load_alone-last.result c.args.used.now to js n.2 same car e h in
    let now : List Store = (pool_slot v to.address, c.args.posting) ∷ (slot v tail_region k, to.address + 1) ∷ [] in
    let l = c.store_link.ensures n.0 now n.1 p.next in
    (after_link n.0 d to.link, l.0, link_next n.0 d v to.address to.link now p.next)

pub returns : goal.returns
returns g c = λ t. record {
  written = λ m st h.
      (let term = h.0 in
      let tells = h.1 in
      let q = h.2 in
      let n = c.load_alone-last.ensures m st in
      let js = g.met.P.Port.lawful c.load_alone-last.new.port n.0 n.1 in
      let d = c.args.document.now in
      let v = c.args.segment in
      let k = c.args.term in
      let same = g.met.P.Pen.pen_keeps _ _ m n.0 n.3 in
      let car = carried m n.0 d v t c.args.posting k c.args.used.now n.2 same term tells q in
      let at : c.tail-tail.result ≡ place n.0.setting (slot v tail_region k) = c.tail-tail.ensures.place
      ∙ ap (λ (σ : Setting). place σ (slot v tail_region k)) (c.new.ensures ∙ c.config.ensures m st ∙ n.2.setting) in
      let e : c.load_alone-last.result ≡ word n.0 (place n.0.setting (slot v tail_region k)) = n.4 ∙ ap (word n.0) at in
      let f = found n.0 d v t c.args.posting k c.load_alone-last.result c.args.used.now js car.term car.tells car.next e in
      let to = c.next_place-next.result in
      let h = c.next_place-next.ensures (before_it n.0 d v t c.args.posting car.next) f.word f.room in
      let p = posted m n.0 d v t c.args.posting k c.load_alone-last.result c.args.used.now to js n.2 same car e h in
      let now : List Store = (pool_slot v to.address, c.args.posting) ∷ (slot v tail_region k, to.address + 1) ∷ [] in
      let l = c.store_link.ensures n.0 now n.1 p.next in
      let z = c.store_posting.ensures (after_link n.0 d to.link) l.0 (link_next n.0 d v to.address to.link now p.next) in
      let loaded = g.met.P.Port.keeps_same _ _ m n.0 n.3 in (
        after_store (after_store (after_link n.0 d to.link) d) d,
        z.0,
        g.met.P.Port.same_on _ _ _ loaded (g.met.P.Port.same_on _ _ _ l.1 z.1),
        (p.appended, p.tells),
      ));
}
