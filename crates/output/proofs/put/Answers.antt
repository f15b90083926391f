use Rattle.std.proofs.Common.{refl, rules}
use Rattle.output.proofs.Placing.{put_from, put_from_cut}
use Rattle.output.proofs.put.Goals as goal

pub returns-in_err-put : goal.returns-in_err-put
returns-in_err-put g c = let same = c.put.ensures.same_memory in
    put_from_cut c.args.at c.from_residual-in_err-put.result c.in_ok-place.ensures refl refl (search rules) c.from_residual-in_err-put.ensures.1 c.in_err-put.ensures

pub returns : goal.returns
returns g c = let same = c.put.ensures.same_memory in
    put_from c.args.at c.in_ok-place.ensures refl refl (search rules) refl c.in_ok-put.ensures
