-- Digits at the start of a text, and the number that they write. Assumes nothing.
use Rattle.std.proofs.Common.{◌≡◌, ℕ, ◌+◌, ◌*◌, List, [], ◌∷◌, ◌++◌, refl, sym, ap, ◌∙◌, arith, rules}
use Rattle.std.specs.List.{AllByRecursion}
use Rattle.std.specs.Str.Parse.{digits_value}
use Rattle.std.proofs.ByRecursion.{All-push}
use Rattle.std.proofs.lemmas.Int.Digits.{digits_value_push}
use Rattle.std.proofs.lemmas.List.{append_assoc}
use Rattle.std.proofs.lemmas.Str.{digit_value_digit}
use Rattle.std.proofs.lemmas.Str.Parse.{IsNumeralModel, numerals_by_value}
use Rattle.lines.specs.Numbers.{Digit}

pub own : IsNumeralModel (AllByRecursion Digit) (digits_value 10)
own = numerals_by_value (AllByRecursion Digit) (search rules)

-- digits begin the text, this is their value, and this is what follows them
pub record Begun (text rest : List ℕ) (value : ℕ) : Type 0 where
  pub digits : List ℕ
  pub only : AllByRecursion Digit digits
  pub here : text ≡ digits ++ rest
  pub worth : value ≡ digits_value 10 digits

pub begun_none : (text : List ℕ) → Begun text text 0
begun_none text = record { digits = []; only = tt; here = refl; worth = refl }

pub begun_more : (text rest more : List ℕ) (value digit next : ℕ) → Begun text rest value → Digit (digit + 48) × (rest ≡ (digit + 48) ∷ more) → next ≡ value * 10 + digit → Begun text more next
begun_more text rest more value digit next b first e =
    let byte = digit + 48 in
    record {
      digits = b.digits ++ (byte ∷ []);
      only = All-push Digit b.digits byte b.only first.0;
      here = b.here ∙ ap (λ r. b.digits ++ r) first.1 ∙ sym (append_assoc b.digits (byte ∷ []) more);
      worth = omega (arith, e, b.worth, digits_value_push 10 b.digits byte, digit_value_digit byte first.0);
    }
