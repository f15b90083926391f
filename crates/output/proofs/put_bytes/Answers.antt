use Rattle.std.proofs.Common.{refl, rules}
use Rattle.output.proofs.Placing.{put_from, put_from_cut}
use Rattle.output.proofs.put_bytes.Goals as goal

pub returns-in_err-put_bytes : goal.returns-in_err-put_bytes
returns-in_err-put_bytes c = let same = c.put_bytes.ensures.same_memory in
    put_from_cut c.args.at c.from_residual-in_err-put_bytes.result c.in_ok-place.ensures refl refl (search rules) c.from_residual-in_err-put_bytes.ensures.1 c.in_err-put_bytes.ensures

pub returns : goal.returns
returns c = let same = c.put_bytes.ensures.same_memory in
    put_from c.args.at c.in_ok-place.ensures refl refl (search rules) refl c.in_ok-put_bytes.ensures
