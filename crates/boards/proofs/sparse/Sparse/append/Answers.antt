use Rattle.std.proofs.Common.{◌≡◌, sym, ◌∙◌, arith}
use Rattle.boards.proofs.Stores.{put_nothing, put_refused, append_fits, append_apart, put_append}
use Rattle.boards.proofs.sparse.Sparse.append.Goals as goal

pub returns-then-number-eq0 : goal.returns-then-number-eq0
returns-then-number-eq0 g c =
    let board = c.args.self.now in
    record { put = put_nothing g.L.Label.kind g.L.Label.laws board.entries.now board.used board.size board.sound c.args.place c.args.added c.requires.inside c.requires.absent (sym c.number.ensures ∙ c.if-number-eq0.true) }

pub returns-then-self : goal.returns-then-self
returns-then-self g c =
    let board = c.args.self.now in
    record { put = put_refused g.L.Label.kind g.L.Label.laws board.entries.now board.used board.size board.sound c.args.place c.args.added c.requires.inside c.requires.absent (λ none. c.if-number-eq0.false (c.number.ensures ∙ none)) (omega arith) }

pub invariant_of-self : goal.invariant_of-self
invariant_of-self g c =
    let board = c.args.self.now in
    let some : g.L.Label.kind.number c.args.added ≡ 0 → ⊥ = λ none. c.if-number-eq0.false (c.number.ensures ∙ none) in
    record {
      sound = record {
        count_fits = append_fits g.L.Label.kind g.L.Label.laws board.entries.now board.used board.size board.sound c.args.place c.args.added c.requires.inside c.requires.absent some (omega arith);
        apart = append_apart g.L.Label.kind g.L.Label.laws board.entries.now board.used board.size board.sound c.args.place c.args.added c.requires.inside c.requires.absent some (omega arith);
      };
    }

pub returns : goal.returns
returns g c =
    let board = c.args.self.now in
    let some : g.L.Label.kind.number c.args.added ≡ 0 → ⊥ = λ none. c.if-number-eq0.false (c.number.ensures ∙ none) in
    record { put = put_append g.L.Label.kind g.L.Label.laws board.entries.now board.used board.size board.sound c.args.place c.args.added c.requires.inside c.requires.absent some (omega arith) }
