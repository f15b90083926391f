use Rattle.std.proofs.Common.{◌≡◌, [], ◌∷◌, ◌++◌, refl, ap}
use Rattle.output.proofs.Putting.{puts_then, puts_cut, puts_left}
use Rattle.texts.specs.Lines.{values, sizes_header, sizes_line}
use Rattle.texts.proofs.write.put_sizes.Goals as goal

pub returns-in_err-put_bytes : goal.returns-in_err-put_bytes
returns-in_err-put_bytes c =
    puts_left c.from_residual.ensures.1 (puts_cut (sizes_line c.args.sizes) refl c.in_err-put_bytes.ensures)

pub returns : goal.returns
returns c =
    let same : sizes_line c.args.sizes ≡ values c.from-3.result (c.from.result ∷ (c.from-2.result ∷ [])) = cc in
    puts_then (ap (λ line. sizes_header ++ line) same) c.in_ok-put_bytes.ensures c.put_values.ensures
