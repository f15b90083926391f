use Rattle.std.proofs.Common.{◌≡◌, ℕ, List, [], ◌∷◌, ◌++◌, get_or, decimal, sym, refl, ap, ◌∙◌, arith}
use Rattle.std.specs.List.{flat_map}
use Rattle.std.proofs.lemmas.List.{append_assoc, get_or_default}
use Rattle.output.proofs.Putting.{puts_then, puts_cut, puts_left, puts_more, puts_more_cut, puts_all}
use Rattle.texts.specs.Lines.{values}
use Rattle.texts.proofs.write.put_values.Goals as goal

-- a number after another, with the space that parts them
abbrev parted : ℕ → List ℕ
parted n = 32 ∷ decimal n

-- a line of numbers, in order
in_order : (n : ℕ) (ms : List ℕ) → values n ms ≡ decimal n ++ (flat_map parted ms ++ (10 ∷ []))
in_order n [] = refl
in_order n (m ∷ ms) = ap (λ z. decimal n ++ (32 ∷ z)) (in_order m ms ∙ sym (append_assoc (decimal m) (flat_map parted ms) (10 ∷ [])))

pub returns-in_err-put_number : goal.returns-in_err-put_number
returns-in_err-put_number c =
    let others = c.args.others.now in
    puts_left c.from_residual.ensures.1
    (puts_cut (flat_map parted others ++ (10 ∷ [])) (in_order c.args.first others) c.in_err-put_number.ensures)

pub returns-in_err-put : goal.returns-in_err-put
returns-in_err-put c =
    let others = c.args.others.now in
    let i = c.loop-other.other-index in
    puts_left c.from_residual-in_err-put.ensures.1
    (puts_then (in_order c.args.first others) c.in_ok-put_number.ensures
    (puts_cut (10 ∷ []) refl
    (puts_more_cut parted others (omega arith) (get_or_default others i 0 (get_or others i 0) (omega arith)) c.loop-other.invariant
    (puts_cut (decimal (get_or others i 0)) refl c.in_err-put.ensures))))

pub returns-in_err-put_number-2 : goal.returns-in_err-put_number-2
returns-in_err-put_number-2 c =
    let others = c.args.others.now in
    let i = c.loop-other.other-index in
    puts_left c.from_residual-in_err-put_number-2.ensures.1
    (puts_then (in_order c.args.first others) c.in_ok-put_number.ensures
    (puts_cut (10 ∷ []) refl
    (puts_more_cut parted others (omega arith) (get_or_default others i 0 (get_or others i 0) (omega arith)) c.loop-other.invariant
    (puts_then refl c.in_ok-put.ensures c.in_err-put_number-2.ensures))))

pub loop-other-preserved : goal.loop-other-preserved
loop-other-preserved c =
    let others = c.args.others.now in
    let i = c.loop-other.other-index in
    puts_more parted others (omega arith) (get_or_default others i 0 (get_or others i 0) (omega arith)) c.loop-other.invariant
    (puts_then refl c.in_ok-put.ensures c.in_ok-put_number-2.ensures)

pub returns : goal.returns
returns c =
    let others = c.args.others.now in
    puts_then (in_order c.args.first others) c.in_ok-put_number.ensures
    (puts_then refl (puts_all parted others (omega arith) c.loop-other.invariant) c.put-2.ensures)
