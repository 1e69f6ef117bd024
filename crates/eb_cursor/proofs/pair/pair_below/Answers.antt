use Rattle.std.proofs.Common.{◌≡◌, refl, sym, ◌∙◌}
use Rattle.eb_cursor.specs.declared.cursor.Cursor.{Cursor}
use Rattle.eb_cursor.specs.declared.posting_list.PostingList.TheVariants.{Packed}
use Rattle.eb_cursor.proofs.Pairs.{two_can, pair_finds, pair_pays}
use Rattle.eb_cursor.proofs.pair.pair_below.Goals as goal

pub pass_apart-requires : goal.pass_apart-requires
pass_apart-requires g c =
    let r = c.requires.ready in
    let second = c.in-Some-split_first_mut in
    two_can g.P.Port.stands c.args.port.now r.0 r.1 c.args.cursors.now c.in-Some.own.now c.in-Some.rest.now second.other.now second._more.now c.in-Some-pair_of.pair c.args.end
    c.in-Some.ensures.cases.0 second.ensures.cases.0 c.in-Some-pair_of.ensures r.2

pub returns-clause-found : goal.returns-clause-found
returns-clause-found g c = λ found e u v.
    let own = c.in-Some.own.now in
    let second = c.in-Some-split_first_mut in
    let other = second.other.now in
    let pair = c.pass_apart.new.self in
    let own1 : Cursor = record { upto = own.upto; lead = own.lead; segment = own.segment; current = pair.left; list = Packed pair.one } in
    let other1 : Cursor = record { upto = other.upto; lead = other.lead; segment = other.segment; current = pair.right; list = Packed pair.two } in
    let same : c.end-found.result ≡ found = cc e in
    pair_finds u v c.args.cursors.now own c.in-Some.rest.now other second._more.now own1 other1 c.in-Some-pair_of.pair pair c.args.end found g.met.P.Port.lawful
    c.in-Some.ensures.cases.0 second.ensures.cases.0 c.in-Some-pair_of.ensures c.pass_apart.ensures.told c.pass_apart.ensures.together refl refl refl refl
    (sym same ∙ c.end-found.ensures)

pub returns-clause-spans : goal.returns-clause-spans
returns-clause-spans g c = λ found e u v.
    let own = c.in-Some.own.now in
    let second = c.in-Some-split_first_mut in
    let other = second.other.now in
    let pair = c.pass_apart.new.self in
    let own1 : Cursor = record { upto = own.upto; lead = own.lead; segment = own.segment; current = pair.left; list = Packed pair.one } in
    let other1 : Cursor = record { upto = other.upto; lead = other.lead; segment = other.segment; current = pair.right; list = Packed pair.two } in
    pair_pays u v c.args.cursors.now own c.in-Some.rest.now other second._more.now own1 other1 c.in-Some-pair_of.pair pair c.args.end c.args.steps.now c.pass_apart.new.steps
    c.in-Some.ensures.cases.0 second.ensures.cases.0 c.in-Some-pair_of.ensures c.pass_apart.ensures.costs refl refl
