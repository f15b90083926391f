-- The line of a refusal, in pieces and whole, and how long it can be. Assumes nothing.
use Rattle.std.proofs.Common.{◌≡◌, ℕ, ◌^◌, ◌+◌, ◌<◌, ◌≤◌, List, [], ◌∷◌, ◌++◌, length, drop, Ok, Err, Result, codes, decimal, sym, refl, ap, ◌∙◌, arith, lit<}
use Rattle.std.proofs.lemmas.Fmt.{length-decimal-le}
use Rattle.std.proofs.lemmas.List.{append_assoc, length-append}
use Rattle.terms.specs.declared.Refusal.{Refusal}
use Rattle.terms.specs.declared.Refusal.TheVariants.{SizesOutsideLimits, MalformedSentence, NoSuchLabel, BookFull, OutOfRange, NotSettled, TooFewPlaces, BoardFull, MemoryTooShort, MalformedDescription, MalformedLine}
use Rattle.terms.specs.Refusals.{number_of, Fills}
use Rattle.output.specs.declared.Output.{Output}
use Rattle.output.specs.Puts.{Puts}
use Rattle.texts.specs.declared.Misread.{Misread}
use Rattle.responding.specs.Answers.{refusal_line, Written}

number_small : (e : Refusal) → number_of e < 12
number_small SizesOutsideLimits = lit< tt
number_small MalformedSentence = lit< tt
number_small NoSuchLabel = lit< tt
number_small BookFull = lit< tt
number_small OutOfRange = lit< tt
number_small NotSettled = lit< tt
number_small TooFewPlaces = lit< tt
number_small BoardFull = lit< tt
number_small MemoryTooShort = lit< tt
number_small MalformedDescription = lit< tt
number_small MalformedLine = lit< tt

-- the line in four pieces
pub parted : (bad : Misread) → codes "refused " ++ (decimal (number_of bad.refusal) ++ (codes " line " ++ (decimal bad.line ++ (10 ∷ [])))) ≡ refusal_line bad
parted bad = sym (append_assoc (codes "refused " ++ decimal (number_of bad.refusal)) (codes " line " ++ decimal bad.line) (10 ∷ []) ∙ append_assoc (codes "refused ") (decimal (number_of bad.refusal)) ((codes " line " ++ decimal bad.line) ++ (10 ∷ [])))

-- the line has at most 55 bytes
pub line_short : (bad : Misread) → bad.line < 2 ^ 64 → length (refusal_line bad) ≤ 55
line_short bad small =
    let n : ℕ = number_of bad.refusal in
    let few = number_small bad.refusal in
    let one : length (decimal n) ≤ 20 = length-decimal-le 20 n (lit< tt) (omega (arith, few)) (omega (arith, few)) in
    let two : length (decimal bad.line) ≤ 20 = length-decimal-le 20 bad.line (lit< tt) (omega arith) small in
    let inner = length-append (decimal bad.line) (10 ∷ []) in
    let outer = length-append (decimal n) (codes " line " ++ (decimal bad.line ++ (10 ∷ []))) in
    omega (arith, one, two, inner, outer, ap length (parted bad))

-- where there is room for the longest line, a line is put whole
pub put_whole : (bad : Misread) → bad.line < 2 ^ 64 → (old new : Output ℕ) (r : Result (Unit {0}) Refusal) → Puts old (refusal_line bad) r new → old.count + 55 ≤ length old.memory.now → r ≡ Ok tt
put_whole bad small old new (Ok u) p room = refl
put_whole bad small old new (Err e) p room = absurd (omega (arith, p.leaves.1, room, line_short bad small))

-- a line written whole from the start of a memory
pub line_written : (bad : Misread) (old new : List ℕ) (n : ℕ) → Fills (refusal_line bad) old (Ok n) new → Written bad old n new
line_written bad old new n p =
    record { within = p.1; line = p.0; written = p.2 ∙ ap (λ i. refusal_line bad ++ drop i old) p.0 }
