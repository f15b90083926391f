use Rattle.std.proofs.Common.{◌+◌, [], ◌∷◌, ◌++◌, map, vec_items, refl, ◌∙◌, arith, take_all, rules}
use Rattle.books.specs.Held.{contents}
use Rattle.books.proofs.Lent.{cells_back}
use Rattle.runs.specs.Account.{account, said}
use Rattle.runs.specs.Law.{logged}
use Rattle.runs.proofs.Steps.{law_err, reached_all, reached_at, reached_again, run}
use Rattle.runs.proofs.perform.Goals as goal

pub loop-request-preserved : goal.loop-request-preserved
loop-request-preserved g c =
    let i = c.loop-request.invariant in
    let e = c.in_ok-outcome.ensures in (
      e.same_cells ∙ i.0,
      reached_again g.L.Label.kind _ c.args.requests.now c.loop-request.request-index (vec_items c.loop-request.log) (vec_items c.push.new.self) _
          c.request-item.result c.in_ok-outcome.outcome _ (omega arith) c.request-item.is c.in_ok-push.ensures.items i.1 e.step,
    )

pub returns : goal.returns
returns g c =
    let i = c.loop-request.invariant in
    record {
      law =
          run g.L.Label.kind _ _ _ _ _ (account (contents c.loop-request.book) (g.B.Board.meaning c.loop-request.board))
          (reached_all g.L.Label.kind (take_all c.loop-request.request-index c.args.requests.now (omega arith)) i.1) c.blank-book.ensures.blank c.clear.ensures.cleared
          (cells_back c.loop-request.book.count c.loop-request.book.cells.now _ (let same = i.0 in let over = c.blank-book.ensures.over_them in search rules)) refl;
    }

pub returns-in_err-outcome : goal.returns-in_err-outcome
returns-in_err-outcome g c =
    let i = c.loop-request.invariant in
    let e = c.in_err-outcome.ensures in
    let book = c.perform_one.new.book in
    let here = account (contents book) (g.B.Board.meaning c.perform_one.new.board) in
    record {
      law =
          law_err g.L.Label.kind _ _ c.args.requests.now _ c.from_residual.ensures.0 c.loop-request.request-index (logged c.loop-request.log)
          (run g.L.Label.kind _ _ _ _ _ here (reached_at g.L.Label.kind e.step i.1) c.blank-book.ensures.blank c.clear.ensures.cleared
          (cells_back book.count book.cells.now _ (let same = e.same_cells in let earlier = i.0 in let over = c.blank-book.ensures.over_them in search rules)) refl);
    }

pub returns-in_err-push : goal.returns-in_err-push
returns-in_err-push g c =
    let i = c.loop-request.invariant in
    let e = c.in_ok-outcome.ensures in
    let book = c.perform_one.new.book in
    let here = account (contents book) (g.B.Board.meaning c.perform_one.new.board) in
    let requests = c.args.requests.now in
    let log = vec_items c.loop-request.log in
    record {
      law =
          law_err g.L.Label.kind _ _ requests _ c.from_residual-in_err-push.ensures.0 (c.loop-request.request-index + 1) (map said (log ++ (c.in_ok-outcome.outcome ∷ [])))
          (run g.L.Label.kind _ _ _ _ _ here
          (reached_again g.L.Label.kind _ requests c.loop-request.request-index log _ _ c.request-item.result c.in_ok-outcome.outcome _ (omega arith) c.request-item.is refl i.1 e.step)
          c.blank-book.ensures.blank c.clear.ensures.cleared
          (cells_back book.count book.cells.now _ (let same = e.same_cells in let earlier = i.0 in let over = c.blank-book.ensures.over_them in search rules)) refl);
    }
