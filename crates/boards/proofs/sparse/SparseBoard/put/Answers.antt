use Rattle.std.proofs.Common.{Some, None, arith}
use Rattle.boards.specs.Sparse.{used_entries}
use Rattle.boards.proofs.Entries.{first_entry, in_use}
use Rattle.boards.proofs.Stores.{joined_at, join_fits, join_apart, put_join}
use Rattle.boards.proofs.sparse.SparseBoard.put.Goals as goal

pub append-requires-clause-absent : goal.append-requires-clause-absent
append-requires-clause-absent g c = first_entry g.L.Label.kind.none (used_entries c.args.self.now) c.args.place None c.in-None.ensures

pub invariant_of-self : goal.invariant_of-self
invariant_of-self g c =
    let board = c.args.self.now in
    let first = first_entry g.L.Label.kind.none (used_entries board) c.args.place (Some c.in-Some.at) c.in-Some.ensures in
    let joined = joined_at g.L.Label.kind board.entries.now c.in-Some.at c.args.added c.either.result c.index-self-at.result c.index-self-at-in-Some.result (in_use board.entries.now board.used c.in-Some.at board.sound.count_fits first.0) c.either.ensures in
    record {
      sound = record {
        count_fits = join_fits g.L.Label.kind g.L.Label.laws board.entries.now board.used board.size board.sound c.args.place c.args.added (omega arith) c.in-Some.at first _ joined;
        apart = join_apart g.L.Label.kind g.L.Label.laws board.entries.now board.used board.size board.sound c.args.place c.args.added (omega arith) c.in-Some.at first _ joined;
      };
    }

pub returns-in-Some : goal.returns-in-Some
returns-in-Some g c =
    let board = c.args.self.now in
    let first = first_entry g.L.Label.kind.none (used_entries board) c.args.place (Some c.in-Some.at) c.in-Some.ensures in
    let joined = joined_at g.L.Label.kind board.entries.now c.in-Some.at c.args.added c.either.result c.index-self-at.result c.index-self-at-in-Some.result (in_use board.entries.now board.used c.in-Some.at board.sound.count_fits first.0) c.either.ensures in
    record { put = put_join g.L.Label.kind g.L.Label.laws board.entries.now board.used board.size board.sound c.args.place c.args.added (omega arith) c.in-Some.at first _ joined }
