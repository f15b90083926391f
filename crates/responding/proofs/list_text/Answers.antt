use Rattle.books.specs.Held.{contents}
use Rattle.responding.specs.Answers.{holding}
use Rattle.texts.specs.Lines.{outside_reading}
use Rattle.responding.proofs.Answering.{tried_left, longer, misread, unsettled, listed_whole, listed_cut}
use Rattle.responding.proofs.list_text.Goals as goal

pub returns-then-input-gt-INPUT_ROOM-clause-tried : goal.returns-then-input-gt-INPUT_ROOM-clause-tried
returns-then-input-gt-INPUT_ROOM-clause-tried g c =
    let before = holding (contents c.args.book.now) (g.B.Board.meaning c.args.board.now) c.args.out.now in
    longer g.L.Label.kind g.L.Label.laws c.args.input.now before c.from.result c.from.ensures c.if-input-gt-INPUT_ROOM.true

pub returns-in_err-read_text-clause-tried : goal.returns-in_err-read_text-clause-tried
returns-in_err-read_text-clause-tried g c =
    let before = holding (contents c.args.book.now) (g.B.Board.meaning c.args.board.now) c.args.out.now in
    let after = holding (contents c.read_text.new.book) (g.B.Board.meaning c.args.board.now) c.args.out.now in
    tried_left g.L.Label.kind g.L.Label.laws c.args.input.now before after c.in_err-read_text.field-0.0 c.from_residual.result c.from_residual.ensures.1
    (misread g.L.Label.kind g.L.Label.laws c.args.input.now before c.in_err-read_text.field-0.0 (contents c.read_text.new.book)
    c.if-input-gt-INPUT_ROOM.false c.in_err-read_text.ensures.reads)

pub returns-in_err-settle-clause-tried : goal.returns-in_err-settle-clause-tried
returns-in_err-settle-clause-tried g c =
    let before = holding (contents c.args.book.now) (g.B.Board.meaning c.args.board.now) c.args.out.now in
    let after = holding (contents c.settle.new.self) (g.B.Board.meaning c.settle.new.board) c.args.out.now in
    let refusal = c.in_err-settle.field-0.0 in
    let left = c.from_residual-in_err-settle in
    tried_left g.L.Label.kind g.L.Label.laws c.args.input.now before after (outside_reading refusal) left.result left.ensures.1
    (unsettled g.L.Label.kind g.L.Label.laws c.args.input.now before (contents c.read_text.new.book) c.if-input-gt-INPUT_ROOM.false
    c.in_ok-read_text.ensures.reads refusal (contents c.settle.new.self) (g.B.Board.meaning c.settle.new.board) c.in_err-settle.ensures.settles)

pub returns-in_err-list-clause-tried : goal.returns-in_err-list-clause-tried
returns-in_err-list-clause-tried g c =
    let before = holding (contents c.args.book.now) (g.B.Board.meaning c.args.board.now) c.args.out.now in
    let after = holding (contents c.settle.new.self) (g.B.Board.meaning c.settle.new.board) c.list.new.out in
    let refusal = c.in_err-list.field-0.0 in
    let left = c.from_residual-in_err-list in
    tried_left g.L.Label.kind g.L.Label.laws c.args.input.now before after (outside_reading refusal) left.result left.ensures.1
    (listed_cut g.L.Label.kind g.L.Label.laws c.args.input.now before (contents c.read_text.new.book) c.if-input-gt-INPUT_ROOM.false
    c.in_ok-read_text.ensures.reads refusal (contents c.settle.new.self) (g.B.Board.meaning c.settle.new.board) c.list.new.out
    c.in_ok-settle.ensures.settles c.in_err-list.ensures)

pub returns-clause-tried : goal.returns-clause-tried
returns-clause-tried g c =
    let before = holding (contents c.args.book.now) (g.B.Board.meaning c.args.board.now) c.args.out.now in
    listed_whole g.L.Label.kind g.L.Label.laws c.args.input.now before (contents c.read_text.new.book) c.if-input-gt-INPUT_ROOM.false
    c.in_ok-read_text.ensures.reads c.in_ok-list.field-0 (contents c.settle.new.self) (g.B.Board.meaning c.settle.new.board)
    c.list.new.out c.in_ok-settle.ensures.settles c.in_ok-list.ensures
