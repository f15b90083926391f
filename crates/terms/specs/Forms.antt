-- The six forms of a sentence, and their numbers. Assumes nothing.
use Rattle.std.specs.Prelude.{◌≡◌, ℕ, ◌<◌, ◌⊎◌, Result, MatchResult}
use Rattle.terms.specs.declared.forms.Form.{Form}
use Rattle.terms.specs.declared.forms.Form.TheVariants.{Inclusion, Conjunction, ExistentialOnRight, ExistentialOnLeft, ConceptAssertion, RoleAssertion}
use Rattle.terms.specs.declared.Refusal.{Refusal}
use Rattle.terms.specs.declared.Refusal.TheVariants.{MalformedSentence}

-- the number of each form
abbrev pub form_number : Form → ℕ
form_number Inclusion = 1
form_number Conjunction = 2
form_number ExistentialOnRight = 3
form_number ExistentialOnLeft = 4
form_number ConceptAssertion = 5
form_number RoleAssertion = 6

-- the form that has this number; a number that is none of 1 to 6 is refused as a malformed sentence
abbrev pub FormOf : ℕ → Result Form Refusal → Type 0
FormOf number answer = MatchResult answer (λ form. form_number form ≡ number) (λ refusal. (refusal ≡ MalformedSentence) × ((number < 1) ⊎ (6 < number)))
