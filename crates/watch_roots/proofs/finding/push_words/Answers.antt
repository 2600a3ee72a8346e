use Rattle.std.proofs.Common.{sym}
use Rattle.watch_roots.proofs.Found.{kept_push, scalars_push, word_scalar, words_more}
use Rattle.watch_roots.proofs.finding.push_words.Goals as goal

pub words-preserved : goal.words-preserved
words-preserved c =
    let nodes = c.args.terms.now.nodes in
    let is = sym c.in-Some.ensures in
    record {
      kept = kept_push c.args.found.now.items c.words.found.items c.push.new.self.items c.in-Some.word c.in_ok-push.ensures.items c.words.invariant.kept;
      words = words_more nodes c.args.width c.words.number c.in-Some.word c.words.found.items c.push.new.self.items c.in_ok-push.ensures.items is c.words.invariant.words;
      scalars = λ h. scalars_push nodes c.words.found.items c.push.new.self.items c.in-Some.word c.in_ok-push.ensures.items (word_scalar nodes c.len-count.ensures.terms.list c.args.width c.words.number c.in-Some.word is) (c.words.invariant.scalars h);
    }
