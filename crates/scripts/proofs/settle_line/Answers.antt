use Rattle.std.proofs.Common.{◌≡◌, ℕ, List, codes, subst, eqb}
use Rattle.std.specs.Cmp.Lexicographic.{pointwise}
use Rattle.std.proofs.lemmas.Slice.Eq.{slice_eq-Decides}
use Rattle.std.proofs.lemmas.Bool.Decides.{Decides-eqb}
use Rattle.scripts.proofs.Calls.{settled}
use Rattle.scripts.proofs.settle_line.Goals as goal

pub returns : goal.returns
returns c =
    settled c.args.line.now c.eq.result c.then_some.result c.then_some.ensures
    (slice_eq-Decides Decides-eqb c.args.line.now (codes "settle") c.eq.result
    (subst (λ (l : List ℕ). c.eq.result ≡ pointwise eqb c.args.line.now l) c.as_slice.ensures c.eq.ensures))
