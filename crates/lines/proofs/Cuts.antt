-- A text cut where a byte first stands, and its lines. Assumes nothing.
use Rattle.std.proofs.Common.{◌≡◌, ℕ, ◌<◌, ◌≤◌, eqb, List, [], ◌∷◌, ◌++◌, length, take, drop, Some, None, Option, MatchOption, sym, refl, ap, ◌∙◌, subst, inl, inr, ⊎_elim, arith}
use Rattle.std.specs.Borrow.{Bor}
use Rattle.std.specs.Option.{unwrap_or}
use Rattle.std.proofs.ByRecursion.{All-from_get_or}
use Rattle.std.proofs.lemmas.List.{append-nil, drop_all, drop_more, get_or-take, length-take-le, take-append-drop}
use Rattle.std.proofs.lemmas.Bool.{cases_lt, cond-true, cond-false, eq-eqb, ne_eqb}
use Rattle.lines.specs.Texts.{FirstAt, Without, SetOff, first_line, after_line, LineAndRest}

module _ (b : ℕ) (text : List ℕ) (end : ℕ) (first : FirstAt b text end) where
  pub front : Without b (take end text)
  front = All-from_get_or (λ x. x ≡ b → ⊥) (take end text) 0
      (λ k l e. let h : k < end = omega (arith, length-take-le end text first.within) in first.before k h (sym (get_or-take end text k 0 h) ∙ e))

  pub back : SetOff b (drop end text)
  back = ⊎_elim
      (λ (l : end < length text). subst (SetOff b) (sym (drop_more text end 0 l)) (first.found l))
      (λ (l : length text ≤ end). subst (SetOff b) (sym (drop_all end text l)) tt)
      (cases_lt end (length text))

-- a line and what follows it
first_line_is : (line rest : List ℕ) → Without 10 line → SetOff 10 rest → first_line (line ++ rest) ≡ line
first_line_is [] [] p u = refl
first_line_is [] (b ∷ rest) p u = cond-true (eqb b 10) [] (b ∷ first_line rest) (eq-eqb b 10 u)
first_line_is (b ∷ line) rest p u = cond-false (eqb b 10) [] (b ∷ first_line (line ++ rest)) (ne_eqb b 10 p.0) ∙ ap (λ z. b ∷ z) (first_line_is line rest p.1 u)

after_line_is : (line rest : List ℕ) → Without 10 line → SetOff 10 rest → after_line (line ++ rest) ≡ drop 1 rest
after_line_is [] [] p u = refl
after_line_is [] (b ∷ rest) p u = cond-true (eqb b 10) rest (after_line rest) (eq-eqb b 10 u)
after_line_is (b ∷ line) rest p u = cond-false (eqb b 10) (line ++ rest) (after_line (line ++ rest)) (ne_eqb b 10 p.0) ∙ after_line_is line rest p.1 u

line_and_rest : (line rest : List ℕ) → Without 10 line → SetOff 10 rest → LineAndRest (line ++ rest) line (drop 1 rest)
line_and_rest line [] p u = (p, inr (append-nil line, refl))
line_and_rest line (b ∷ rest) p u = (p, inl (ap (λ z. line ++ (z ∷ rest)) u))

module _ (text : List ℕ) (end : ℕ) (first : FirstAt 10 text end) where
  pub line_cut : take end text ≡ first_line text
  line_cut = sym (first_line_is (take end text) (drop end text) (front 10 text end first) (back 10 text end first)) ∙ ap first_line (take-append-drop end text)

  pub rest_cut : drop 1 (drop end text) ≡ after_line text
  rest_cut = sym (after_line_is (take end text) (drop end text) (front 10 text end first) (back 10 text end first)) ∙ ap after_line (take-append-drop end text)

  pub whole_cut : LineAndRest text (take end text) (drop 1 (drop end text))
  whole_cut = subst (λ t. LineAndRest t (take end text) (drop 1 (drop end text))) (take-append-drop end text)
      (line_and_rest (take end text) (drop end text) (front 10 text end first) (back 10 text end first))

-- a rest is without its line feed
no_feed : (rest : List ℕ) → SetOff 10 rest → ((more : List ℕ) → rest ≡ 10 ∷ more → ⊥) → rest ≡ drop 1 rest
no_feed [] u none = refl
no_feed (b ∷ rest) u none = absurd (none rest (ap (λ z. z ∷ rest) u))

pub past_feed :
    (rest : Bor (List ℕ)) (r : Option (Bor (List ℕ))) → SetOff 10 rest.now
    → MatchOption r ((more : List ℕ) → rest.now ≡ 10 ∷ more → ⊥) (λ x. rest.now ≡ 10 ∷ x.now) → (unwrap_or r rest).now ≡ drop 1 rest.now
past_feed rest (Some x) u h = sym (ap (λ z. drop 1 z) h)
past_feed rest None u h = no_feed rest.now u h
