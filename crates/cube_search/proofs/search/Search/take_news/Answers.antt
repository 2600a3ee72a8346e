use Rattle.std.proofs.Common.{ℕ, ◌≡◌, ◌<◌, ◌≤◌, true, ⊎_elim, refl, sym, ap, ◌∙◌, subst, arith}
use Rattle.std.proofs.lemmas.Bool.{cases_lt}
use Rattle.proof_log.specs.declared.board.Sync.{Sync}
use Rattle.proof_log.specs.Logs.{entry_at}
use Rattle.proof_log.specs.Diaries.{is_chain}
use Rattle.cube_search.specs.Keeping.{HasLine}
use Rattle.cube_search.specs.Running.{variables_in, subject_of}
use Rattle.cube_search.proofs.Steps.{running_later, writing_later, kept_seen, own_later, run_then}
use Rattle.cube_search.proofs.search.Search.take_news.Goals as goal

pub returns-then-news-clause-running : goal.returns-then-news-clause-running
returns-then-news-clause-running g c = running_later c.args.self.now (g.B.Board.nodes c.args.board.now) (g.B.Board.nodes c.sync.new.self) (g.B.Board.log c.args.board.now) (g.B.Board.log c.sync.new.self) (g.B.Board.knows c.args.board.now) (g.B.Board.knows c.sync.new.self) c.in_ok-news.ensures.later c.requires.running

pub returns-then-news-clause-told : goal.returns-then-news-clause-told
returns-then-news-clause-told g c = ap (λ (t : Sync). t.upto) c.in_ok-news.ensures.told ∙ c.in_ok-news.ensures.upto

pub returns-clause-told : goal.returns-clause-told
returns-clause-told g c = ap (λ (t : Sync). t.upto) c.in_ok-news.ensures.told ∙ c.in_ok-news.ensures.upto

pub news-init : goal.news-init
news-init g c =
    let write = writing_later c.args.self.now (g.B.Board.nodes c.args.board.now) (g.B.Board.nodes c.sync.new.self) (g.B.Board.log c.args.board.now) (g.B.Board.log c.sync.new.self) (g.B.Board.knows c.args.board.now) (g.B.Board.knows c.sync.new.self) c.in_ok-news.ensures.later c.requires.running in
    record {
      run = record { opening = refl; ends = refl; from = refl; given = refl; listed = refl };
      seen = refl;
      running = running_later c.args.self.now (g.B.Board.nodes c.args.board.now) (g.B.Board.nodes c.sync.new.self) (g.B.Board.log c.args.board.now) (g.B.Board.log c.sync.new.self) (g.B.Board.knows c.args.board.now) (g.B.Board.knows c.sync.new.self) c.in_ok-news.ensures.later c.requires.running;
      writing = write;
      lined = λ w. (write w).lined;
    }

pub news-preserved : goal.news-preserved
news-preserved g c = record {
  run = run_then c.args.self.now c.news.self c.take.new.self c.news.invariant.run c.in_ok-take.ensures.run;
  seen = c.in_ok-take.ensures.seen ∙ c.news.invariant.seen;
  running = c.in_ok-take.ensures.running;
  writing = λ w. c.in_ok-take.ensures.writing (c.news.invariant.writing w);
  lined = λ w p le lt chain. ⊎_elim
      (λ less. c.in_ok-take.ensures.kept p (c.news.invariant.lined w p (omega (arith, le, c.in_ok-take.ensures.start)) less chain))
      (λ ge.
      let e : p ≡ c.news.at = omega (arith, lt, ge) in
      subst (λ q. HasLine c.take.new.self.diary.lines.items q) (sym e)
      (c.in_ok-take.ensures.lined (c.news.invariant.writing w) (subst (λ q. is_chain (entry_at (g.B.Board.log c.sync.new.self) q) ≡ true) e chain)))
      (cases_lt p c.news.at);
}

pub returns-clause-news : goal.returns-clause-news
returns-clause-news g c = λ w.
    let s = c.news.self in
    let lined : (p : ℕ) → s.diary.start ≤ p → p < c.in_ok-news.news.upto → is_chain (entry_at (g.B.Board.log c.sync.new.self) p) ≡ true → HasLine s.diary.lines.items p = λ p le lt chain. c.news.invariant.lined w.0 p le (omega (arith, lt, c.news-test.false)) chain in (
      (
        kept_seen (subject_of s (g.B.Board.nodes c.sync.new.self) (g.B.Board.log c.sync.new.self)) s.engine.watches (variables_in s) s.diary s.seen c.in_ok-news.news.upto
            (omega (arith, c.news.invariant.running.1.placed.within, c.in_ok-news.ensures.upto)) lined (c.news.invariant.writing w.0),
        own_later c.args.self.now s (g.B.Board.log c.args.board.now) (g.B.Board.log c.sync.new.self) c.news.invariant.run c.in_ok-news.ensures.later.grows w.1,
      ),
      (λ p le k chain. lined p le (c.in_ok-news.ensures.only p k) chain),
      (λ p k. let lt = c.in_ok-news.ensures.only p k in omega (arith, lt, c.in_ok-news.ensures.upto)),
    )
