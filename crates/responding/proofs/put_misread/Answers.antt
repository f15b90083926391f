use Rattle.std.proofs.Common.{◌≡◌, ℕ, List, [], ◌∷◌, ◌++◌, codes, decimal, sym, refl, ap}
use Rattle.terms.specs.Refusals.{number_of}
use Rattle.texts.specs.declared.Misread.{Misread}
use Rattle.output.proofs.Putting.{puts_then, puts_cut, puts_left}
use Rattle.responding.proofs.Refusing.{parted}
use Rattle.responding.proofs.put_misread.Goals as goal

-- what stands after the second word
abbrev ending : Misread → List ℕ
ending bad = decimal bad.line ++ (10 ∷ [])

-- the line from the refusal's number on, by what that number was found to be
from_number : (bad : Misread) (n : ℕ) → number_of bad.refusal ≡ n
    → decimal (number_of bad.refusal) ++ (codes " line " ++ ending bad) ≡ decimal n ++ (codes " line " ++ ending bad)
from_number bad n = ap (λ i. decimal i ++ (codes " line " ++ ending bad))

pub returns-in_err-put_number : goal.returns-in_err-put_number
returns-in_err-put_number c =
    let bad = c.args.misread in
    puts_left c.from_residual-in_err-put_number.ensures.1
    (puts_then (sym (parted bad)) c.in_ok-put_bytes.ensures
    (puts_cut (codes " line " ++ ending bad) (from_number bad c.from.result (cc)) c.in_err-put_number.ensures))

pub returns-in_err-put_bytes-2 : goal.returns-in_err-put_bytes-2
returns-in_err-put_bytes-2 c =
    let bad = c.args.misread in
    puts_left c.from_residual-in_err-put_bytes-2.ensures.1
    (puts_then (sym (parted bad)) c.in_ok-put_bytes.ensures
    (puts_then (from_number bad c.from.result (cc)) c.in_ok-put_number.ensures
    (puts_cut (ending bad) refl c.in_err-put_bytes-2.ensures)))

pub returns : goal.returns
returns c =
    let bad = c.args.misread in
    puts_then (sym (parted bad)) c.in_ok-put_bytes.ensures
    (puts_then (from_number bad c.from.result (cc)) c.in_ok-put_number.ensures (puts_then refl c.in_ok-put_bytes-2.ensures c.put_field.ensures))
