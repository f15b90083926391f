use Rattle.std.proofs.Common.{rules}
use Rattle.books.specs.Held.{contents}
use Rattle.books.proofs.Lent.{cells_back}
use Rattle.responding.specs.Answers.{holding, memory}
use Rattle.responding.proofs.Answering.{prints_listing, prints_refusal}
use Rattle.responding.proofs.respond.Goals as goal

pub returns-in-Ok-clause-prints : goal.returns-in-Ok-clause-prints
returns-in-Ok-clause-prints g c =
    let book = c.list_text.new.book in
    let before = memory c.args.cells.now (g.B.Board.meaning c.args.board.now) c.args.out.now in
    let held = holding (contents book) (g.B.Board.meaning c.list_text.new.board) c.list_text.new.out in
    let same = c.list_text.ensures.same_cells in
    let over = c.blank-book.ensures.over_them in
    prints_listing g.L.Label.kind c.args.input.now before _ held (cells_back book.count book.cells.now _ (search rules))
    (contents c.blank-book.result) c.blank-book.ensures.blank c.in-Ok.count c.in-Ok.ensures.tried

pub returns-in-Err-clause-prints : goal.returns-in-Err-clause-prints
returns-in-Err-clause-prints g c =
    let book = c.list_text.new.book in
    let before = memory c.args.cells.now (g.B.Board.meaning c.args.board.now) c.args.out.now in
    let held = holding (contents book) (g.B.Board.meaning c.list_text.new.board) c.list_text.new.out in
    let same = c.list_text.ensures.same_cells in
    let over = c.blank-book.ensures.over_them in
    prints_refusal g.L.Label.kind c.args.input.now before _ held (cells_back book.count book.cells.now _ (search rules))
    (contents c.blank-book.result) c.blank-book.ensures.blank c.in-Err.misread c.put_refusal.result c.put_refusal.new.out c.in-Err.ensures.tried
    c.put_refusal.ensures
