use Rattle.std.proofs.Common.{arith, rules}
use Rattle.texts.proofs.Rows.{no_last, no_first, no_later, no_sentence_line, too_large}
use Rattle.texts.proofs.read.sentence_line.Goals as goal

pub returns-in_err-form-2 : goal.returns-in_err-form-2
returns-in_err-form-2 c =
    rw c.from_residual-in_err-form-2.ensures
    (no_sentence_line c.args.text.now (no_first (too_large _ c.in_ok-form.ensures (search rules) (omega arith))))

pub returns-in_err-first : goal.returns-in_err-first
returns-in_err-first c =
    rw c.from_residual-in_err-first.ensures
    (no_sentence_line c.args.text.now
    (no_later (omega arith) (search rules, c.in_ok-form.ensures.1)
    (no_first c.in_err-first.ensures)))

pub returns-in_err-second : goal.returns-in_err-second
returns-in_err-second c =
    rw c.from_residual-in_err-second.ensures
    (no_sentence_line c.args.text.now
    (no_later (omega arith) (search rules, c.in_ok-form.ensures.1)
    (no_later (omega arith) c.in_ok-first.ensures
    (no_first c.in_err-second.ensures))))

pub returns-in_err-role : goal.returns-in_err-role
returns-in_err-role c =
    rw c.from_residual-in_err-role.ensures
    (no_sentence_line c.args.text.now
    (no_later (omega arith) (search rules, c.in_ok-form.ensures.1)
    (no_later (omega arith) c.in_ok-first.ensures
    (no_later (omega arith) c.in_ok-second.ensures
    (no_first c.in_err-role.ensures)))))

pub returns-in_err-third : goal.returns-in_err-third
returns-in_err-third c =
    rw c.from_residual-in_err-third.ensures
    (no_sentence_line c.args.text.now
    (no_later (omega arith) (search rules, c.in_ok-form.ensures.1)
    (no_later (omega arith) c.in_ok-first.ensures
    (no_later (omega arith) c.in_ok-second.ensures
    (no_later (omega arith) c.in_ok-role.ensures
    (no_first c.in_err-third.ensures))))))

pub returns-in_err-label : goal.returns-in_err-label
returns-in_err-label c =
    rw c.from_residual-in_err-label.ensures
    (no_sentence_line c.args.text.now
    (no_later (omega arith) (search rules, c.in_ok-form.ensures.1)
    (no_later (omega arith) c.in_ok-first.ensures
    (no_later (omega arith) c.in_ok-second.ensures
    (no_later (omega arith) c.in_ok-role.ensures
    (no_later (omega arith) c.in_ok-third.ensures
    (no_last c.in_err-label.ensures)))))))
