-- A test that passes, said in two ways. Assumes nothing.
use Rattle.std.proofs.Common.{◌≡◌, Bool, true, false, T, sym, refl, subst}

pub say : {t : Bool} → t ≡ true → T t
say e = subst T (sym e) tt

pub said : (t : Bool) → T t → t ≡ true
said true h = refl
said false h = absurd h
