use Rattle.std.proofs.Common.{[], ◌∷◌, refl, arith, rules}
use Rattle.scripts.proofs.Narrowed.{no_label, label_read}
use Rattle.scripts.proofs.label_line.Goals as goal

pub returns-in_err-node : goal.returns-in_err-node
returns-in_err-node c =
    rw c.from_residual.ensures
    (λ p fit e. c.in_err-node.ensures (p.0.0 ∷ (p.1.0 ∷ [])) refl (omega (arith, fit.0), (omega (arith, fit.1.0), tt)) e)

pub returns-in_err-ok : goal.returns-in_err-ok
returns-in_err-ok c =
    rw c.from_residual-in_err-ok.ensures
    (no_label c.args.line.now c.in_ok-node.field-0 c.in_ok-node.ensures (λ fit. search rules))

pub returns-in_err-ok-2 : goal.returns-in_err-ok-2
returns-in_err-ok-2 c =
    rw c.from_residual-in_err-ok-2.ensures
    (no_label c.args.line.now c.in_ok-node.field-0 c.in_ok-node.ensures (λ fit. search rules))

pub returns : goal.returns
returns c =
    label_read c.args.line.now c.in_ok-node.field-0 c.in_ok-node.ensures (record { 0 = c.in_ok-ok.field-0 }, record { 0 = c.in_ok-ok-2.field-0 })
    (search rules, search rules) (search rules, (search rules, tt))
