use Rattle.std.proofs.Common.{◌≡◌, sym, subst}
use Rattle.bit_blast.specs.Assigned.{assigned}
use Rattle.term_reach.proofs.Ways.{reached_further}
use Rattle.smt_terms.specs.Bits.{image_in}
use Rattle.access_tables.specs.Leading.{leads}
use Rattle.access_walk.specs.Walked.{IsWalkedTable}
use Rattle.access_walk.proofs.spares.table_of.Goals as goal

pub returns : goal.returns
returns c =
    let whole : IsWalkedTable c.args.terms.now.nodes c.args.bits.now (assigned c.args.assignment.now) c.args.live.now (record { terms = c.args.reached.now; rows = c.args.rows.items; spares = c.args.spares.items }) = record {
      reach = c.requires.reach;
      closed = record {
        terms = λ t u h n. c.requires.reach.all u (reached_further (leads c.args.terms.now.nodes (image_in c.args.bits.now)) c.args.live.now t u (c.requires.reach.only t h) n);
        accesses = c.requires.rows.accesses;
        rows = c.requires.rows.closed c.requires.congruent c.requires.apart;
        spares = c.requires.spares;
      };
    } in
    let same : c.new.result ≡ record { terms = c.args.reached.now; rows = c.args.rows.items; spares = c.args.spares.items } = let p = c.new.ensures in let q = c.in_ok-reached_terms.ensures.items in let r = c.terms.ensures.terms in cc in
    subst (IsWalkedTable c.args.terms.now.nodes c.args.bits.now (assigned c.args.assignment.now) c.args.live.now) (sym same) whole
