use Rattle.std.proofs.Common.{◌≡◌, [], true, false, length, sym, subst, ◌∙◌, arith}
use Rattle.std.proofs.lemmas.Bool.{eq-eqb, eqb-true}
use Rattle.std.specs.Prelude.{Contains}
use Rattle.bit_blast.specs.Assigned.{assigned}
use Rattle.access_tables.specs.Held.{assigned_value}
use Rattle.access_walk.proofs.Conflicting.{none_of, congruent_where_none, apart_where_none, none_are_few}
use Rattle.access_walk.proofs.Lists.{append_nil, not_nil}
use Rattle.access_walk.proofs.walking.answered.Goals as goal

pub table_at-requires-clause-congruent : goal.table_at-requires-clause-congruent
table_at-requires-clause-congruent c =
    let zero : c.args.falses.len ≡ 0 = eqb-true c.args.falses.len 0 (sym c.is_empty.ensures ∙ c.if-is_empty.true) in
    let short : length c.args.falses.items ≡ 0 = omega (arith, zero) in
    congruent_where_none c.args.terms.now.nodes c.args.bits.now (assigned c.args.assignment.now) (Contains c.args.reached.now) c.args.falses.items (none_of c.args.falses.items short) c.requires.all

pub table_at-requires-clause-apart : goal.table_at-requires-clause-apart
table_at-requires-clause-apart c =
    let zero : c.args.falses.len ≡ 0 = eqb-true c.args.falses.len 0 (sym c.is_empty.ensures ∙ c.if-is_empty.true) in
    let short : length c.args.falses.items ≡ 0 = omega (arith, zero) in
    apart_where_none c.args.terms.now.nodes c.args.bits.now (assigned c.args.assignment.now) (Contains c.args.reached.now) c.args.falses.items (none_of c.args.falses.items short) c.requires.all

pub returns : goal.returns
returns c = record {
  some = λ none.
      let zero : c.args.falses.len ≡ 0 = omega (arith, none) in
      let t : true ≡ false = sym (eq-eqb c.args.falses.len 0 zero) ∙ sym c.is_empty.ensures ∙ c.if-is_empty.false in
      let q : ⊥ = cc in q;
  all = c.requires.all;
  few = record {
    others = c.args.falses.items;
    clashes = [];
    are = sym (append_nil c.args.falses.items);
    others_are = c.requires.others;
    few = none_are_few c.args.terms.now.nodes (assigned_value c.args.terms.now.nodes c.args.bits.now (assigned c.args.assignment.now));
  };
  told = c.requires.told;
  siblings = λ l m. absurd (not_nil l (subst (λ xs. Contains xs l) c.new-siblings.ensures.items m));
}
