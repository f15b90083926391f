use Rattle.std.proofs.Common.{rules}
use Rattle.scripts.proofs.Narrowed.{no_board, no_sparse}
use Rattle.scripts.proofs.board_line.Goals as goal

pub returns-in_err-size : goal.returns-in_err-size
returns-in_err-size c = rw c.from_residual.ensures (no_board c.args.line.now c.in_default.ensures c.in_err-size.ensures)

pub returns-in_err-size-2 : goal.returns-in_err-size-2
returns-in_err-size-2 c =
    rw c.from_residual-in_err-size-2.ensures
    (no_sparse c.args.line.now c.in_ok-size.field-0 c.in_default.ensures c.in_ok-size.ensures (λ fit. search rules))

pub returns-in_err-entries : goal.returns-in_err-entries
returns-in_err-entries c =
    rw c.from_residual-in_err-entries.ensures
    (no_sparse c.args.line.now c.in_ok-size.field-0 c.in_default.ensures c.in_ok-size.ensures (λ fit. c.in_err-entries.ensures fit.1))
