use Rattle.std.proofs.Common.{length, ap, ◌∙◌}
use Rattle.std.proofs.KnownBytes.{Appends-nil}
use Rattle.std.proofs.lemmas.Result.{err_from_is_err_and}
use Rattle.smt_terms.specs.Terms.{TermsValue}
use Rattle.smt_session.specs.Sessions.{limits_of}
use Rattle.smt_session.proofs.Filing.{filed_still}
use Rattle.smt_session.proofs.Keeping.{begun_fits, filed_settled, kept_settled, kept_still, sorted_settled, sorted_still}
use Rattle.smt_session.proofs.Responding.{is_answered, is_cut}
use Rattle.smt_session.proofs.Settling.{held_of, can_forget, settled_is}
use Rattle.smt_session.proofs.session.Parts.command.Goals as goal

pub respond-requires-clause-kept : goal.respond-requires-clause-kept
respond-requires-clause-kept g c κs within = kept_still c.args.self.now.state c.apply.new.self c.args.self.now.workspace c.in-Ok.answer c.in-Ok.ensures.0 c.requires.kept c.in-Ok.ensures.2

pub respond-requires-clause-file : goal.respond-requires-clause-file
respond-requires-clause-file g c κs within = filed_still c.more_terms_keep_files.ensures c.args.self.now.state c.apply.new.self c.args.self.now.workspace.log c.args.self.now.file c.in-Ok.answer c.in-Ok.ensures.0 c.requires.kept.session c.in-Ok.ensures.2 c.requires.file

pub respond-requires-clause-held : goal.respond-requires-clause-held
respond-requires-clause-held g c κs within = held_of c.args.self.now.state c.apply.new.self c.in-Ok.answer c.in-Ok.ensures.0 c.requires.kept.session.state c.in-Ok.ensures.2

pub respond-requires-clause-fits : goal.respond-requires-clause-fits
respond-requires-clause-fits g c κs within = begun_fits c.args.self.now.state c.apply.new.self c.in-Ok.answer c.in-Ok.ensures.0 c.in-Ok.ensures.2

pub respond-requires-clause-sorted : goal.respond-requires-clause-sorted
respond-requires-clause-sorted g c κs within = sorted_still c.args.self.now.state c.apply.new.self c.in-Ok.answer c.in-Ok.ensures.0 c.args.self.now.last c.requires.kept.session.state c.in-Ok.ensures.2 c.requires.sorted

pub respond-requires-clause-settings : goal.respond-requires-clause-settings
respond-requires-clause-settings g c κs within = c.requires.settings

pub settle-requires : goal.settle-requires
settle-requires g c =
    can_forget c.args.self.now.state c.apply.new.self c.respond.new.state c.respond.new.state c.in-Ok.answer c.in-Ok.ensures.0 c.asks_values-asked.result c.len-len.result
    c.requires.kept.session.state c.in-Ok.ensures.2 c.asks_values-asked.ensures (c.len-len.ensures.length ∙ ap (λ (v : TermsValue). length v.nodes) c.terms.ensures.terms) (λ q. (c.in_ok-response.ensures.still q).0)

pub returns-clause-parts : goal.returns-clause-parts
returns-clause-parts g c = record {
  kept =
      kept_settled c.args.self.now.state c.apply.new.self c.respond.new.state c.settle.new.state c.args.self.now.workspace c.respond.new.workspace c.in-Ok.answer c.in-Ok.ensures.0 c.asks_values-asked.result c.len-len.result
      c.requires.kept c.in-Ok.ensures.2 c.asks_values-asked.ensures (c.len-len.ensures.length ∙ ap (λ (v : TermsValue). length v.nodes) c.terms.ensures.terms) c.in_ok-response.ensures.still
      c.settle.ensures c.in_ok-response.ensures.kept;
  file =
      filed_settled c.args.self.now.state c.apply.new.self c.respond.new.state c.settle.new.state c.args.self.now.workspace c.respond.new.workspace c.args.self.now.file c.respond.new.file c.in-Ok.answer c.in-Ok.ensures.0 c.asks_values-asked.result c.len-len.result
      c.requires.kept c.requires.file c.in-Ok.ensures.2 c.asks_values-asked.ensures (c.len-len.ensures.length ∙ ap (λ (v : TermsValue). length v.nodes) c.terms.ensures.terms) c.in_ok-response.ensures.still c.in_ok-response.ensures.filed
      c.settle.ensures c.in_ok-response.ensures.file;
  settings = c.requires.settings;
  sorted = sorted_settled c.respond.new.state c.settle.new.state c.asks_values-asked.result c.len-len.result c.respond.new.last c.settle.ensures c.in_ok-response.ensures.sorted;
}

pub returns-clause-answered : goal.returns-clause-answered
returns-clause-answered g c =
    is_answered (limits_of c.args.self.now.settings) c.args.chunk.now c.args.self.now.state c.apply.new.self c.respond.new.state c.settle.new.state c.args.self.now.workspace.log c.respond.new.workspace.log c.args.self.now.file.places c.respond.new.file.places c.args.self.now.last c.respond.new.last c.in-Ok.answer c.in-Ok.ensures.0 c.in_ok-response.response
    (g.Q.Sink.written c.args.proof.now) (g.Q.Sink.written c.respond.new.proof) c.in-Ok.ensures.1 c.in-Ok.ensures.2 c.in_ok-response.ensures.response
    (settled_is c.args.self.now.state c.apply.new.self c.respond.new.state c.settle.new.state c.in-Ok.answer c.in-Ok.ensures.0 c.asks_values-asked.result c.len-len.result
    c.requires.kept.session.state c.in-Ok.ensures.2 c.asks_values-asked.ensures (c.len-len.ensures.length ∙ ap (λ (v : TermsValue). length v.nodes) c.terms.ensures.terms) (λ q. (c.in_ok-response.ensures.still q).0) c.settle.ensures)

pub returns-in_err-response-clause-cut : goal.returns-in_err-response-clause-cut
returns-in_err-response-clause-cut g c =
    let p = err_from_is_err_and c.from_residual.result c.from_residual.ensures.1 in
    rw (p.1, p.2)
    (is_cut (limits_of c.args.self.now.settings) c.args.chunk.now c.args.self.now.state c.apply.new.self c.args.self.now.workspace.log c.args.self.now.file.places c.args.self.now.last c.in-Ok.answer c.in-Ok.ensures.0
    (g.Q.Sink.written c.args.proof.now) (g.Q.Sink.written c.respond.new.proof) _ c.in-Ok.ensures.1 c.in-Ok.ensures.2 c.in_err-response.ensures.cut)

pub returns-then-assertions_made-clause-cut : goal.returns-then-assertions_made-clause-cut
returns-then-assertions_made-clause-cut g c = Appends-nil (g.Q.Sink.written c.args.proof.now)

pub returns-in_default-clause-cut : goal.returns-in_default-clause-cut
returns-in_default-clause-cut g c = Appends-nil (g.Q.Sink.written c.args.proof.now)
