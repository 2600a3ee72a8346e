use Rattle.std.proofs.Common.{length, ap, arith}
use Rattle.std.proofs.lemmas.List.{length-append}
use Rattle.std.specs.Prelude.{Contains}
use Rattle.bit_blast.specs.Assigned.{assigned}
use Rattle.access_walk.proofs.Conflicting.{more_falses}
use Rattle.access_walk.proofs.walking.joined.Goals as goal

pub returns : goal.returns
returns c = record {
  some = λ none. c.requires.clashes.some (let e = ap length c.in_ok-append.ensures.items in let long = length-append c.args.conflicts.items c.args.found.falses.items in omega (arith, none, e, long));
  all = more_falses c.args.terms.now.nodes c.args.bits.now (assigned c.args.assignment.now) (Contains c.args.reached.now) c.args.conflicts.items c.args.found.falses.items _ c.in_ok-append.ensures.items c.requires.conflicts c.requires.clashes.falses;
  few = record {
    others = c.args.conflicts.items;
    clashes = c.args.found.falses.items;
    are = c.in_ok-append.ensures.items;
    others_are = c.requires.others;
    few = c.requires.clashes.few;
  };
  told = c.requires.told;
  siblings = c.requires.clashes.siblings;
}
