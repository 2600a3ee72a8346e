use Rattle.std.proofs.Common.{◌≡◌, refl, subst}
use Rattle.std.specs.Prelude.{Ok, Err}
use Rattle.std.proofs.lemmas.Result.{err_from_is_err_and}
use Rattle.smt_terms.specs.Terms.{make, Makes}
use Rattle.bv_rewrite.specs.Simplifying.{IsRefused}
use Rattle.bv_rewrite.proofs.Following.{start_grown, start_held, start_plain, start_crowded, start_full, start_refused, simplified, refused_more, no_fault, no_memory}
use Rattle.bv_rewrite.proofs.simplifying.walk.Goals as goal

pub returns-in_err-start-clause-refused : goal.returns-in_err-start-clause-refused
returns-in_err-start-clause-refused g c =
    let p = err_from_is_err_and c.from_residual-in_err-start.result c.from_residual-in_err-start.ensures.1 in
    let image = g.I.Images.image_of c.args.images.now in
    rw (p.1, p.2) (start_refused c.args.terms.now image c.requires.images c.requires.terms c.args.t c.requires.held c.make.new.self _
    (subst (λ n. Makes (make c.args.terms.now n) (Err c.in_err-start.field-0.0) c.args.terms.now c.make.new.self) c.in_ok-node.ensures c.in_err-start.ensures))

pub returns-in_err-uses-clause-refused : goal.returns-in_err-uses-clause-refused
returns-in_err-uses-clause-refused g c =
    let p = err_from_is_err_and c.from_residual-in_err-uses.result c.from_residual-in_err-uses.ensures.1 in
    let image = g.I.Images.image_of c.args.images.now in
    let e = subst (λ n. make c.args.terms.now n ≡ Ok (c.in_ok-start.start, c.make.new.self)) c.in_ok-node.ensures c.in_ok-start.ensures in
    let refused : IsRefused c.args.terms.now c.make.new.self p.0 = no_memory c.args.terms.now c.make.new.self p.0 (start_grown c.args.terms.now image c.requires.images c.requires.terms c.args.t c.requires.held c.make.new.self c.in_ok-start.start e) p.2 in
    rw p.1 refused

pub follow-requires-clause-terms : goal.follow-requires-clause-terms
follow-requires-clause-terms g c =
    let image = g.I.Images.image_of c.args.images.now in
    let e = subst (λ n. make c.args.terms.now n ≡ Ok (c.in_ok-start.start, c.make.new.self)) c.in_ok-node.ensures c.in_ok-start.ensures in
    (start_grown c.args.terms.now image c.requires.images c.requires.terms c.args.t c.requires.held c.make.new.self c.in_ok-start.start e).terms

pub follow-requires-clause-held : goal.follow-requires-clause-held
follow-requires-clause-held g c =
    let image = g.I.Images.image_of c.args.images.now in
    let e = subst (λ n. make c.args.terms.now n ≡ Ok (c.in_ok-start.start, c.make.new.self)) c.in_ok-node.ensures c.in_ok-start.ensures in
    start_held c.args.terms.now image c.requires.images c.requires.terms c.args.t c.requires.held c.make.new.self c.in_ok-start.start e

pub follow-requires-clause-plain : goal.follow-requires-clause-plain
follow-requires-clause-plain g c =
    let image = g.I.Images.image_of c.args.images.now in
    let e = subst (λ n. make c.args.terms.now n ≡ Ok (c.in_ok-start.start, c.make.new.self)) c.in_ok-node.ensures c.in_ok-start.ensures in
    start_plain c.args.terms.now image c.requires.images c.requires.terms c.args.t c.requires.held c.make.new.self c.in_ok-start.start e c.requires.plain

pub returns-in_err-term-clause-refused : goal.returns-in_err-term-clause-refused
returns-in_err-term-clause-refused g c =
    let p = err_from_is_err_and c.from_residual-in_err-term.result c.from_residual-in_err-term.ensures.1 in
    let image = g.I.Images.image_of c.args.images.now in
    let e = subst (λ n. make c.args.terms.now n ≡ Ok (c.in_ok-start.start, c.make.new.self)) c.in_ok-node.ensures c.in_ok-start.ensures in
    let refused : IsRefused c.args.terms.now c.follow.new.terms p.0 = rw p.2 (refused_more c.args.terms.now c.make.new.self c.follow.new.terms _ (start_grown c.args.terms.now image c.requires.images c.requires.terms c.args.t c.requires.held c.make.new.self c.in_ok-start.start e) c.in_err-term.ensures.refused) in
    rw p.1 refused

pub returns-clause-simplified : goal.returns-clause-simplified
returns-clause-simplified g c =
    let image = g.I.Images.image_of c.args.images.now in
    let e = subst (λ n. make c.args.terms.now n ≡ Ok (c.in_ok-start.start, c.make.new.self)) c.in_ok-node.ensures c.in_ok-start.ensures in
    simplified c.args.terms.now image c.requires.images c.requires.terms c.args.t c.requires.held c.make.new.self c.in_ok-start.start e (g.K.Kept.keeps c.args.kept.now) c.follow.new.terms c.in_ok-uses.uses.items c.follow.new.uses.items c.in_ok-term.term
    (record { term = c.in_ok-term.term; uses = c.follow.new.uses }) c.requires.plain c.in_ok-uses.ensures c.in_ok-term.ensures.followed refl refl

pub returns-in_err-start-clause-crowded : goal.returns-in_err-start-clause-crowded
returns-in_err-start-clause-crowded g c =
    let p = err_from_is_err_and c.from_residual-in_err-start.result c.from_residual-in_err-start.ensures.1 in
    let image = g.I.Images.image_of c.args.images.now in
    rw (p.1, p.2) (start_full c.args.terms.now image c.requires.images c.requires.terms c.args.t c.requires.held c.make.new.self _
    (subst (λ n. Makes (make c.args.terms.now n) (Err c.in_err-start.field-0.0) c.args.terms.now c.make.new.self) c.in_ok-node.ensures c.in_err-start.ensures))

pub returns-in_err-uses-clause-crowded : goal.returns-in_err-uses-clause-crowded
returns-in_err-uses-clause-crowded g c =
    let p = err_from_is_err_and c.from_residual-in_err-uses.result c.from_residual-in_err-uses.ensures.1 in
    rw p.1 (λ f. no_fault p.0 p.2 f)

pub returns-in_err-term-clause-crowded : goal.returns-in_err-term-clause-crowded
returns-in_err-term-clause-crowded g c =
    let p = err_from_is_err_and c.from_residual-in_err-term.result c.from_residual-in_err-term.ensures.1 in
    let image = g.I.Images.image_of c.args.images.now in
    let e = subst (λ n. make c.args.terms.now n ≡ Ok (c.in_ok-start.start, c.make.new.self)) c.in_ok-node.ensures c.in_ok-start.ensures in
    rw (p.1, p.2) (λ f. start_crowded c.args.terms.now image c.requires.images c.requires.terms c.args.t c.requires.held c.make.new.self c.in_ok-start.start e c.in_ok-uses.uses.items c.requires.plain (c.in_err-term.ensures.stopped f))
