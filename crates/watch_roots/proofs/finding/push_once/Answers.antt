use Rattle.watch_roots.proofs.Found.{widths_kept, widths_push}
use Rattle.watch_roots.proofs.finding.push_once.Goals as goal

pub returns-clause-widths : goal.returns-clause-widths
returns-clause-widths c =
    let nodes = c.args.terms.now.nodes in
    widths_push nodes c.push_words.new.found.items c.args.widths.now.items c.push.new.self.items c.args.width c.in_ok-push.ensures.items c.in_ok-push_words.ensures.words
    (widths_kept nodes c.args.found.now.items c.push_words.new.found.items c.args.widths.now.items c.in_ok-push_words.ensures.kept c.requires.widths)
