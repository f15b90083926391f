use Rattle.std.proofs.Common.{refl, rules}
use Rattle.output.proofs.Placing.{put_from, put_from_cut}
use Rattle.output.proofs.put_number.Goals as goal

pub returns-in_err-put_number : goal.returns-in_err-put_number
returns-in_err-put_number c = let same = c.put_number.ensures.same_memory in
    put_from_cut c.args.at c.from_residual-in_err-put_number.result c.in_ok-place.ensures refl refl (search rules) c.from_residual-in_err-put_number.ensures.1 c.in_err-put_number.ensures

pub returns : goal.returns
returns c = let same = c.put_number.ensures.same_memory in
    put_from c.args.at c.in_ok-place.ensures refl refl (search rules) refl c.in_ok-put_number.ensures
