use Rattle.std.proofs.Common.{ltb, ap, ◌∙◌, ⊎_elim, arith}
use Rattle.std.proofs.lemmas.List.{take_all}
use Rattle.std.specs.Bool.{then_some}
use Rattle.boards.specs.Sparse.{used_entries}
use Rattle.boards.proofs.Searches.{smallest_of, smallest_takes, smallest_keeps, smallest_is_least}
use Rattle.boards.proofs.sparse.Sparse.smallest_place.Goals as goal
use Rattle.boards.proofs.sparse.Sparse.smallest_place.Goals.{then-from-place+then-place-smallest, else-from-place}

pub loop-entry-preserved : goal.loop-entry-preserved
loop-entry-preserved g c =
    let entries = used_entries c.args.self.now in
    let at = c.loop-entry.entry-index in
    let smallest = c.loop-entry.smallest in
    let entry = c.entry-item.result in
    elim c.if-from-place.branch [
      | then-from-place+then-place-smallest w ↦ w.smallest-is ∙ smallest_takes c.args.from c.args.to entries at smallest entry c.loop-entry-test.true c.entry-item.is c.loop-entry.invariant w.if-from-place.true w.if-place-smallest.true
      | else-from-place w ↦ w.smallest-is ∙ smallest_keeps c.args.from c.args.to entries at smallest entry c.loop-entry-test.true c.entry-item.is c.loop-entry.invariant (λ low. ⊎_elim (λ further. further.1) (λ before. absurd (omega (arith, before))) w.else-from-place.either)
    ]

pub returns : goal.returns
returns g c =
    let entries = used_entries c.args.self.now in
    let all = c.loop-entry.invariant ∙ ap (smallest_of c.args.from c.args.to) (take_all c.loop-entry.entry-index entries c.loop-entry-test.false) in
    c.then_some.ensures ∙ ap (λ n. then_some (ltb n c.args.to) n) all ∙ smallest_is_least c.args.from c.args.to entries
