use Rattle.scripts.proofs.Setups.{bad_book, bad_board, bad_words, refused_at}
use Rattle.scripts.proofs.setup_of.Goals as goal

pub returns-in_err-cells : goal.returns-in_err-cells
returns-in_err-cells c =
    refused_at c.args.script.now c.memory_line.result (record { number = 2 }) c.in_err-cells.field-0.0 _
    c.in_err-cells.ensures.ok_part c.in_err-cells.ensures.value c.from_residual-in_err-cells.ensures.1
    (bad_book c.args.script.now
    c.in_ok-kind.kind (rw (c.in_ok-kind.ensures.ok_part, c.first_line.ensures.line) at c.kind_line.ensures)
    (rw (c.in_err-cells.ensures.ok_part, c.first_line-2.ensures.line, c.after_line-second.ensures.rest) at c.memory_line.ensures))

pub returns-in_err-board : goal.returns-in_err-board
returns-in_err-board c =
    refused_at c.args.script.now c.board_line.result (record { number = 3 }) c.in_err-board.field-0.0 _
    c.in_err-board.ensures.ok_part c.in_err-board.ensures.value c.from_residual-in_err-board.ensures.1
    (bad_board c.args.script.now
    c.in_ok-kind.kind (rw (c.in_ok-kind.ensures.ok_part, c.first_line.ensures.line) at c.kind_line.ensures)
    c.in_ok-cells.cells (rw (c.in_ok-cells.ensures.ok_part, c.first_line-2.ensures.line, c.after_line-second.ensures.rest) at c.memory_line.ensures)
    (rw (c.in_err-board.ensures.ok_part, c.first_line-3.ensures.line, c.after_line-third.ensures.rest, c.after_line-second.ensures.rest) at c.board_line.ensures))

pub returns-in_err-words : goal.returns-in_err-words
returns-in_err-words c =
    refused_at c.args.script.now c.memory_line-2.result (record { number = 4 }) c.in_err-words.field-0.0 _
    c.in_err-words.ensures.ok_part c.in_err-words.ensures.value c.from_residual-in_err-words.ensures.1
    (bad_words c.args.script.now
    c.in_ok-kind.kind (rw (c.in_ok-kind.ensures.ok_part, c.first_line.ensures.line) at c.kind_line.ensures)
    c.in_ok-cells.cells (rw (c.in_ok-cells.ensures.ok_part, c.first_line-2.ensures.line, c.after_line-second.ensures.rest) at c.memory_line.ensures)
    c.in_ok-board.board (rw (c.in_ok-board.ensures.ok_part, c.first_line-3.ensures.line, c.after_line-third.ensures.rest, c.after_line-second.ensures.rest) at c.board_line.ensures)
    (rw (c.in_err-words.ensures.ok_part, c.first_line-4.ensures.line, c.after_line-fourth.ensures.rest, c.after_line-third.ensures.rest, c.after_line-second.ensures.rest) at c.memory_line-2.ensures))
