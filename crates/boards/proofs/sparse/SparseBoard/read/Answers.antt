use Rattle.std.proofs.Common.{Some, None, sym, ap, ◌∙◌}
use Rattle.std.proofs.lemmas.List.{get_or_default}
use Rattle.boards.specs.Sparse.{used_entries}
use Rattle.boards.proofs.Entries.{first_entry, entered_past, entered_absent, label_in_use, in_use}
use Rattle.boards.proofs.sparse.SparseBoard.read.Goals as goal

pub returns-then-place-self-clause-the_label : goal.returns-then-place-self-clause-the_label
returns-then-place-self-clause-the_label g c =
    let board = c.args.self.now in
    c.none.ensures ∙ sym (entered_past g.L.Label.kind board.size (used_entries board) c.args.place c.if-place-self.true board.sound.apart)

pub returns-in-Some : goal.returns-in-Some
returns-in-Some g c =
    let k = g.L.Label.kind in
    let board = c.args.self.now in
    let first = first_entry k.none (used_entries board) c.args.place (Some c.in-Some.at) c.in-Some.ensures in
    let is = label_in_use k board.entries.now board.used c.in-Some.at c.args.place _ board.sound.count_fits first
    (λ blank. ap (λ e. e.label) (get_or_default board.entries.now c.in-Some.at c.index-self-at.result blank (in_use board.entries.now board.used c.in-Some.at board.sound.count_fits first.0))) in
    record {
      the_label = is;
      none_past_the_size = λ past. ap k.number (is ∙ entered_past k board.size (used_entries board) c.args.place past board.sound.apart) ∙ g.L.Label.laws.none_number;
    }

pub returns-in-None-clause-the_label : goal.returns-in-None-clause-the_label
returns-in-None-clause-the_label g c =
    let board = c.args.self.now in
    c.none-in-None.ensures ∙ sym (entered_absent g.L.Label.kind (used_entries board) c.args.place (first_entry g.L.Label.kind.none (used_entries board) c.args.place None c.in-None.ensures))
