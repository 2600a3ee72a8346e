use Rattle.std.proofs.Common.{◌≡◌, reverse, refl, ap, ◌∙◌, inl}
use Rattle.cnf_base.specs.Literals.{negated}
use Rattle.cnf_base.proofs.Codes.{negated-negated}
use Rattle.cdcl_core.specs.Search.{clause_of}
use Rattle.cdcl_learn.specs.Rows.{literal_at}
use Rattle.cdcl_learn.proofs.Derivations.{IsClauseOf, clause_chain}
use Rattle.cdcl_learn.proofs.last.explain_all.Goals as goal

pub returns-clause-chain : goal.returns-clause-chain
returns-clause-chain c =
    let k : IsClauseOf c.args.rows.now c.explain.new.self.marks c.in_ok-clause.clause = record { each = c.in_ok-clause.ensures.each; only = c.in_ok-clause.ensures.only } in
    rw c.into_hints-hints.ensures (clause_chain (clause_of c.args.watches.now) c.args.rows.now c.explain.new.self.marks (reverse c.explain.new.self.hints.items) c.in_ok-clause.clause c.requires.history c.in_ok-explain.ensures.walk.derived k)

pub returns-clause-against : goal.returns-clause-against
returns-clause-against c = λ given only l h.
    let p = c.in_ok-clause.ensures.only l h in
    let back : negated l ≡ literal_at c.args.rows.now p.0 = ap negated p.1.1.1 ∙ negated-negated (literal_at c.args.rows.now p.0) in
    rw back (only p.0 p.1.0 (c.in_ok-explain.ensures.whole p.0 p.1.0 (inl refl) p.1.1.0))
