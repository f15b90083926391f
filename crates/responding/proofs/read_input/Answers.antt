use Rattle.std.proofs.Common.{◌≡◌, ℕ, ◌+◌, ◌-◌, ◌≤◌, List, ◌++◌, length, take, drop, sym, ap, ◌∙◌, subst, arith}
use borrow.Rule.Slice.PartMut.{put_mid}
use Rattle.std.specs.Io.KnownBytes.{Consumes}
use Rattle.std.proofs.KnownBytes.{Consumes-trans}
use Rattle.std.proofs.lemmas.List.{append_assoc, length-append, length-take-le, take-append-drop, take_at}
use Rattle.responding.proofs.read_input.Goals as goal

-- the first bytes of a memory whose rest was read into
read_on : (at got : ℕ) (xs ys : List ℕ) → at ≤ length xs → got ≤ length ys → take (at + got) (put_mid at (length xs - at) xs ys) ≡ take at xs ++ take got ys
read_on at got xs ys fits some =
    let rest : List ℕ = drop (length xs - at) (drop at xs) in
    let one = length-take-le at xs fits in
    let two = length-take-le got ys some in
    let both = length-append (take at xs) (take got ys) in
    let split : take at xs ++ (ys ++ rest) ≡ (take at xs ++ take got ys) ++ (drop got ys ++ rest) =
    ap (λ z. take at xs ++ (z ++ rest)) (sym (take-append-drop got ys)) ∙ ap (λ z. take at xs ++ z) (append_assoc (take got ys) (drop got ys) rest)
    ∙ sym (append_assoc (take at xs) (take got ys) (drop got ys ++ rest)) in
    ap (take (at + got)) split ∙ take_at (take at xs ++ take got ys) (drop got ys ++ rest) (at + got) (omega (arith, one, two, both))

pub loop-count-preserved : goal.loop-count-preserved
loop-count-preserved g c =
    let l = c.loop-count in
    let i = l.invariant in
    let got = c.in_ok-got.got in
    let part = c.read.new.buf in
    let given = c.in_ok-got.ensures in
    let rest : List ℕ = drop (length l.into - l.count) (drop l.count l.into) in (
      omega (arith, given.bound.0, length-append (take l.count l.into) (part ++ rest), length-append part rest, length-take-le l.count l.into i.0),
      subst (λ bs. Consumes (g.R.Read.remaining c.args.stream.now) (g.R.Read.remaining c.read.new.self) bs)
          (sym (read_on l.count got l.into part i.0 given.bound.0))
          (Consumes-trans (g.R.Read.remaining c.args.stream.now) (g.R.Read.remaining l.stream) (g.R.Read.remaining c.read.new.self)
          (take l.count l.into) (take got part) i.1 given.bytes.0),
    )
