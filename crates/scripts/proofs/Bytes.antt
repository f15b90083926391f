-- The text of an answer to a call that writes. Assumes nothing.
use Rattle.std.proofs.Common.{◌≡◌, ℕ, ◌<◌, ◌≤◌, min, cond, eqb, List, [], ◌∷◌, ◌++◌, length, take, codes, decimal, sym, refl, ap, ◌∙◌, ⊎_elim, append_assoc, arith, take_all}
use lib.Utf8.{encodes}
use Rattle.std.proofs.lemmas.List.{append-nil}
use Rattle.terms.specs.declared.Refusal.{Refusal}
use Rattle.terms.specs.declared.Refusal.TheVariants.{SizesOutsideLimits, MalformedSentence, NoSuchLabel, BookFull, OutOfRange, NotSettled, TooFewPlaces, BoardFull, MemoryTooShort, MalformedDescription, MalformedLine}
use Rattle.terms.specs.Refusals.{number_of}
use Rattle.std.proofs.lemmas.Bool.{cases_lt, cond-true, cond-false, eq-eqb, ne_eqb}

take_least : (n : ℕ) (xs : List ℕ) → take (min n (length xs)) xs ≡ take n xs
take_least n xs =
    ⊎_elim (λ (l : n < length xs). ap (λ j. take j xs) (omega arith))
    (λ (l : length xs ≤ n). let whole : length xs ≤ min n (length xs) = omega arith in take_all (min n (length xs)) xs whole ∙ sym (take_all n xs l))
    (cases_lt n (length xs))

-- the text of an answer to a call that wrote n bytes
pub written_is :
    (final text memory : List ℕ) (n m : ℕ) → final ≡ text ++ encodes (take m memory) → text ≡ codes "ok " ++ (decimal n ++ (10 ∷ [])) → m ≡ min n (length memory)
    → final ≡ codes "ok " ++ (decimal n ++ (10 ∷ encodes (take n memory)))
written_is final text memory n m all line least =
    let part : take m memory ≡ take n memory = ap (λ j. take j memory) least ∙ take_least n memory in
    all ∙ ap (λ t. t ++ encodes (take m memory)) line ∙ ap (λ p. (codes "ok " ++ (decimal n ++ (10 ∷ []))) ++ encodes p) part
    ∙ ap (λ t. codes "ok " ++ t) (append_assoc (decimal n) (10 ∷ []) (encodes (take n memory)))

-- the text of a refusal, and below it what memory that was too short holds
pub short_is :
    (final mid text refused memory : List ℕ) (number : ℕ) → final ≡ mid ++ encodes memory → mid ≡ text ++ (10 ∷ []) → text ≡ refused → number ≡ 9
    → final ≡ refused ++ cond (eqb number 9) (10 ∷ encodes memory) []
short_is final mid text refused memory number all line is nine =
    all ∙ ap (λ t. t ++ encodes memory) (line ∙ ap (λ t. t ++ (10 ∷ [])) is) ∙ append_assoc refused (10 ∷ []) (encodes memory)
    ∙ ap (λ l. refused ++ l) (sym (cond-true (eqb number 9) (10 ∷ encodes memory) [] (eq-eqb number 9 nine)))

-- the text of any other refusal
pub other_is :
    (final text refused memory : List ℕ) (number : ℕ) → final ≡ text → text ≡ refused → (number ≡ 9 → ⊥) → final ≡ refused ++ cond (eqb number 9) (10 ∷ encodes memory) []
other_is final text refused memory number same is not_nine =
    same ∙ is ∙ sym (append-nil refused) ∙ ap (λ l. refused ++ l) (sym (cond-false (eqb number 9) (10 ∷ encodes memory) [] (ne_eqb number 9 not_nine)))

-- refusal 9 is the one for want of memory
pub nine_is : (refusal : Refusal) → number_of refusal ≡ 9 → refusal ≡ MemoryTooShort
nine_is SizesOutsideLimits e = absurd (omega (arith, e))
nine_is MalformedSentence e = absurd (omega (arith, e))
nine_is NoSuchLabel e = absurd (omega (arith, e))
nine_is BookFull e = absurd (omega (arith, e))
nine_is OutOfRange e = absurd (omega (arith, e))
nine_is NotSettled e = absurd (omega (arith, e))
nine_is TooFewPlaces e = absurd (omega (arith, e))
nine_is BoardFull e = absurd (omega (arith, e))
nine_is MemoryTooShort e = refl
nine_is MalformedDescription e = absurd (omega (arith, e))
nine_is MalformedLine e = absurd (omega (arith, e))
