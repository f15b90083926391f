use Rattle.std.proofs.Common.{set, ap, ◌∙◌, arith}
use Rattle.std.proofs.lemmas.List.{get_or_default}
use Rattle.boards.proofs.Cells.{put_cell}
use Rattle.boards.proofs.dense.DenseBoard.put.Goals as goal

pub returns : goal.returns
returns g c =
    let k = g.L.Label.kind in
    let cells = c.args.self.now.cells.now in
    record { put = put_cell k cells _ c.args.place c.args.added (omega arith) (ap (set cells c.args.place) (c.either.ensures ∙ ap (λ l. k.either l c.args.added) (get_or_default cells c.args.place c.index-self-place.result k.none (omega arith)))) }
