use Rattle.std.proofs.Common.{[], ◌∷◌, refl, arith, rules}
use Rattle.scripts.proofs.Narrowed.{no_size}
use Rattle.scripts.proofs.size_line.Goals as goal

pub returns-in_err-concepts : goal.returns-in_err-concepts
returns-in_err-concepts c =
    rw c.from_residual.ensures
    (λ z fit e. c.in_err-concepts.ensures (z.concepts ∷ (z.roles ∷ (z.individuals ∷ []))) refl
    (omega (arith, fit.0), (omega (arith, fit.1.0), (omega (arith, fit.1.1.0), tt))) e)

pub returns-in_err-ok : goal.returns-in_err-ok
returns-in_err-ok c =
    rw c.from_residual-in_err-ok.ensures
    (no_size c.args.line.now c.in_ok-concepts.field-0 c.in_ok-concepts.ensures (λ fit. search rules))

pub returns-in_err-ok-2 : goal.returns-in_err-ok-2
returns-in_err-ok-2 c =
    rw c.from_residual-in_err-ok-2.ensures
    (no_size c.args.line.now c.in_ok-concepts.field-0 c.in_ok-concepts.ensures (λ fit. search rules))

pub returns-in_err-ok-3 : goal.returns-in_err-ok-3
returns-in_err-ok-3 c =
    rw c.from_residual-in_err-ok-3.ensures
    (no_size c.args.line.now c.in_ok-concepts.field-0 c.in_ok-concepts.ensures (λ fit. search rules))
