use Rattle.std.proofs.Common.{[], ◌∷◌, refl, arith, rules}
use Rattle.scripts.proofs.Narrowed.{no_entry, entry_read}
use Rattle.scripts.proofs.enter_line.Goals as goal

pub returns-in_err-form : goal.returns-in_err-form
returns-in_err-form c =
    rw c.from_residual.ensures
    (λ s fit e. c.in_err-form.ensures (s.form ∷ (s.first ∷ (s.second ∷ (s.role ∷ (s.third ∷ (s.label ∷ [])))))) refl
    (omega (arith, fit.0), (omega (arith, fit.1.0), (omega (arith, fit.1.1.0), (omega (arith, fit.1.1.1.0), (omega (arith, fit.1.1.1.1.0), (fit.2, tt)))))) e)

pub returns-in_err-ok : goal.returns-in_err-ok
returns-in_err-ok c =
    rw c.from_residual-in_err-ok.ensures
    (no_entry c.args.line.now c.in_ok-form.field-0 c.in_ok-form.ensures (λ fit. search rules))

pub returns-in_err-ok-2 : goal.returns-in_err-ok-2
returns-in_err-ok-2 c =
    rw c.from_residual-in_err-ok-2.ensures
    (no_entry c.args.line.now c.in_ok-form.field-0 c.in_ok-form.ensures (λ fit. search rules))

pub returns-in_err-ok-3 : goal.returns-in_err-ok-3
returns-in_err-ok-3 c =
    rw c.from_residual-in_err-ok-3.ensures
    (no_entry c.args.line.now c.in_ok-form.field-0 c.in_ok-form.ensures (λ fit. search rules))

pub returns-in_err-ok-4 : goal.returns-in_err-ok-4
returns-in_err-ok-4 c =
    rw c.from_residual-in_err-ok-4.ensures
    (no_entry c.args.line.now c.in_ok-form.field-0 c.in_ok-form.ensures (λ fit. search rules))

pub returns-in_err-ok-5 : goal.returns-in_err-ok-5
returns-in_err-ok-5 c =
    rw c.from_residual-in_err-ok-5.ensures
    (no_entry c.args.line.now c.in_ok-form.field-0 c.in_ok-form.ensures (λ fit. search rules))

pub returns : goal.returns
returns c =
    entry_read c.args.line.now c.in_ok-form.field-0 c.in_ok-form.ensures _
    (search rules, search rules, search rules, search rules, search rules, search rules)
    (search rules, (search rules, (search rules, (search rules, (search rules, tt)))), search rules)
