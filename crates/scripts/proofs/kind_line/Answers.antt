use Rattle.std.proofs.Common.{◌≡◌, ℕ, List, length, get_or, ap, rules, arith}
use Rattle.std.proofs.lemmas.Slice.Eq.{text_from_reads}
use Rattle.scripts.specs.declared.LabelKind.TheVariants as kind
use Rattle.scripts.proofs.kind_line.Goals as goal

pub returns-in-107 : goal.returns-in-107
returns-in-107 c = (tt, text_from_reads _ _ (omega arith) (search rules))

pub returns-in-107-2 : goal.returns-in-107-2
returns-in-107-2 c = (tt, text_from_reads _ _ (omega arith) (search rules))

-- a byte of two texts that are one
byte : {l p : List ℕ} → l ≡ p → (i : ℕ) → get_or l i 0 ≡ get_or p i 0
byte e i = ap (λ (l : List ℕ). get_or l i 0) e

-- a line that is none of the three
pub returns-in_default-12 : goal.returns-in_default-12
returns-in_default-12 c kind.Models u e = omega (arith, ap length e, byte e 5, byte e 6, byte e 7, byte e 8, byte e 9, byte e 10)
returns-in_default-12 c kind.Grades u e = omega (arith, ap length e, byte e 5, byte e 6, byte e 7, byte e 8, byte e 9, byte e 10)
returns-in_default-12 c kind.Whole u e = omega (arith, ap length e, byte e 5, byte e 6, byte e 7, byte e 8, byte e 9, byte e 10)

pub returns-in_default-17 : goal.returns-in_default-17
returns-in_default-17 c kind.Models u e = omega (arith, ap length e, byte e 5, byte e 6, byte e 7, byte e 8, byte e 9, byte e 10)
returns-in_default-17 c kind.Grades u e = omega (arith, ap length e, byte e 5, byte e 6, byte e 7, byte e 8, byte e 9, byte e 10)
returns-in_default-17 c kind.Whole u e = omega (arith, ap length e, byte e 5, byte e 6, byte e 7, byte e 8, byte e 9, byte e 10)
