use Rattle.std.proofs.Common.{refl, rules}
use Rattle.output.proofs.Placing.{put_from, put_from_cut}
use Rattle.output.proofs.put_field.Goals as goal

pub returns-in_err-put_field : goal.returns-in_err-put_field
returns-in_err-put_field c = let same = c.put_field.ensures.same_memory in
    put_from_cut c.args.at c.from_residual-in_err-put_field.result c.in_ok-place.ensures refl refl (search rules) c.from_residual-in_err-put_field.ensures.1 c.in_err-put_field.ensures

pub returns : goal.returns
returns c = let same = c.put_field.ensures.same_memory in
    put_from c.args.at c.in_ok-place.ensures refl refl (search rules) refl c.in_ok-put_field.ensures
