use Rattle.std.proofs.Common.{◌≡◌, ◌+◌, length, refl, sym, ap, ◌∙◌, subst}
use Rattle.hub_board.specs.Boards.{BoardValue, IsBoard, view_in, base_of}
use Rattle.hub_board.specs.Filing.{IsThere}
use Rattle.hub_board.proofs.Seen.{later_same, read_moved, read_later, all_known}
use Rattle.hub_board.proofs.board.HubBoard.read_news.Goals as goal

pub returns-then-self-got-clause-later : goal.returns-then-self-got-clause-later
returns-then-self-got-clause-later g c = later_same c.args.self.now c.args.self.now refl refl refl (subst IsBoard c.self.view_is c.self.invariant)

pub returns-in_err-events-clause-later : goal.returns-in_err-events-clause-later
returns-in_err-events-clause-later g c = later_same c.args.self.now c.pull.new.self c.pull.ensures.same.0 c.in_err-events.ensures.read c.pull.ensures.same.1 c.pull.ensures.board.1

pub returns-in_err-file-clause-moved : goal.returns-in_err-file-clause-moved
returns-in_err-file-clause-moved g c =
    read_moved c.args.self.now c.pull.new.self c.file.new.self c.pull.ensures.board.0 c.file.ensures.board c.pull.ensures.same.0 c.pull.ensures.same.1 c.pull.ensures.same.2 c.pull.ensures.same.3 c.in_ok-events.ensures.read.0 c.file.ensures.same.0 c.file.ensures.same.1

pub returns-in_err-file-clause-later : goal.returns-in_err-file-clause-later
returns-in_err-file-clause-later g c =
    read_later c.args.self.now c.pull.new.self c.file.new.self c.pull.ensures.board.0 c.file.ensures.board c.pull.ensures.same.0 c.pull.ensures.same.1 c.pull.ensures.same.2 c.pull.ensures.same.3 c.in_ok-events.ensures.read.0 c.file.ensures.same.0 c.file.ensures.same.1 c.file.ensures.kept

pub returns-in_err-news-clause-moved : goal.returns-in_err-news-clause-moved
returns-in_err-news-clause-moved g c =
    read_moved c.args.self.now c.pull.new.self c.file.new.self c.pull.ensures.board.0 c.file.ensures.board c.pull.ensures.same.0 c.pull.ensures.same.1 c.pull.ensures.same.2 c.pull.ensures.same.3 c.in_ok-events.ensures.read.0 c.file.ensures.same.0 c.file.ensures.same.1

pub returns-in_err-news-clause-later : goal.returns-in_err-news-clause-later
returns-in_err-news-clause-later g c =
    read_later c.args.self.now c.pull.new.self c.file.new.self c.pull.ensures.board.0 c.file.ensures.board c.pull.ensures.same.0 c.pull.ensures.same.1 c.pull.ensures.same.2 c.pull.ensures.same.3 c.in_ok-events.ensures.read.0 c.file.ensures.same.0 c.file.ensures.same.1 c.file.ensures.kept

pub returns-clause-moved : goal.returns-clause-moved
returns-clause-moved g c =
    read_moved c.args.self.now c.pull.new.self c.tell.new.self c.pull.ensures.board.0 c.tell.ensures.board c.pull.ensures.same.0 c.pull.ensures.same.1 c.pull.ensures.same.2 c.pull.ensures.same.3 c.in_ok-events.ensures.read.0 (ap (λ (b : BoardValue). b.hist) c.tell.ensures.same ∙ c.file.ensures.same.0) (ap (λ (b : BoardValue). b.pass) c.tell.ensures.same ∙ c.file.ensures.same.1)

pub returns-clause-later : goal.returns-clause-later
returns-clause-later g c =
    read_later c.args.self.now c.pull.new.self c.tell.new.self c.pull.ensures.board.0 c.tell.ensures.board c.pull.ensures.same.0 c.pull.ensures.same.1 c.pull.ensures.same.2 c.pull.ensures.same.3 c.in_ok-events.ensures.read.0 (ap (λ (b : BoardValue). b.hist) c.tell.ensures.same ∙ c.file.ensures.same.0) (ap (λ (b : BoardValue). b.pass) c.tell.ensures.same ∙ c.file.ensures.same.1)
    (λ i h. subst (λ (b : BoardValue). IsThere b.table.rows.items i) (sym c.tell.ensures.same) (c.file.ensures.kept i h))

pub returns-clause-upto : goal.returns-clause-upto
returns-clause-upto g c =
    (all_known c.tell.new.self c.in_ok-news.news.upto c.tell.ensures.board
    (subst (λ (b : BoardValue). b.table.filed ≡ length b.pass.seen) (sym c.tell.ensures.same) c.in_ok-file.ensures.all)
    (subst (λ (b : BoardValue). c.in_ok-news.news.upto ≡ base_of b + b.table.next) (sym c.tell.ensures.same) c.in_ok-news.ensures.0)).0

pub returns-clause-known : goal.returns-clause-known
returns-clause-known g c =
    (all_known c.tell.new.self c.in_ok-news.news.upto c.tell.ensures.board
    (subst (λ (b : BoardValue). b.table.filed ≡ length b.pass.seen) (sym c.tell.ensures.same) c.in_ok-file.ensures.all)
    (subst (λ (b : BoardValue). c.in_ok-news.news.upto ≡ base_of b + b.table.next) (sym c.tell.ensures.same) c.in_ok-news.ensures.0)).1

pub returns-clause-only : goal.returns-clause-only
returns-clause-only g c =
    (all_known c.tell.new.self c.in_ok-news.news.upto c.tell.ensures.board
    (subst (λ (b : BoardValue). b.table.filed ≡ length b.pass.seen) (sym c.tell.ensures.same) c.in_ok-file.ensures.all)
    (subst (λ (b : BoardValue). c.in_ok-news.news.upto ≡ base_of b + b.table.next) (sym c.tell.ensures.same) c.in_ok-news.ensures.0)).2

pub returns-clause-found : goal.returns-clause-found
returns-clause-found g c =
    c.in_ok-news.ensures.1 ∙ subst (λ (b : BoardValue). b.table.found ≡ (view_in c.tell.new.self).found) c.tell.ensures.same
    (all_known c.tell.new.self c.in_ok-news.news.upto c.tell.ensures.board
    (subst (λ (b : BoardValue). b.table.filed ≡ length b.pass.seen) (sym c.tell.ensures.same) c.in_ok-file.ensures.all)
    (subst (λ (b : BoardValue). c.in_ok-news.news.upto ≡ base_of b + b.table.next) (sym c.tell.ensures.same) c.in_ok-news.ensures.0)).3
