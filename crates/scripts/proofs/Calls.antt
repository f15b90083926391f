-- A line read as one sort of call after another. Assumes nothing.
use Rattle.std.proofs.Common.{◌≡◌, ℕ, Bool, true, false, List, Some, None, Option, codes, sym, refl, subst}
use Rattle.std.specs.Bool.{Decides, then_some}
use Rattle.std.specs.Option.{MatchOption}
use Rattle.runs.specs.declared.Request.{Request}
use Rattle.runs.specs.declared.Request.TheVariants as request
use Rattle.scripts.specs.Lines.{call_line, FieldsFit, ReadsLine}
use Rattle.scripts.specs.Reading.{ReadsCall, settle_call, label_call}

module _ (line : List ℕ) where
  -- the line is read as a call, or this holds
  abbrev pub ReadsOr : Type 0 → Option (Request ℕ) → Type 0
  ReadsOr Else (Some q) = FieldsFit q × (line ≡ call_line q)
  ReadsOr Else None = Else

  -- read as the first sort
  pub first_sort : {X : Type 0} (call : X → Request ℕ) (r : Option (Request ℕ)) → ReadsCall call line r → ReadsOr (ReadsCall call line None) r
  first_sort call (Some q) h = (h.2, h.3)
  first_sort call None h = h

  -- where it was none of the sorts before, read as the next
  pub next_sort :
      {X Next : Type 0} (Else : Type 0) (call : X → Request ℕ) (before after : Option (Request ℕ))
      → (Next → ReadsCall call line after) → MatchOption before Next (λ q. after ≡ Some q)
      → ReadsOr Else before → ReadsOr (ReadsCall call line None × Else) after
  next_sort {X} Else call (Some q) after read same h = subst (λ (r : Option (Request ℕ)). ReadsOr (ReadsCall call line None × Else) r) (sym same) h
  next_sort {X} Else call None after read next h = go after (read next)
    where
      go : (r : Option (Request ℕ)) → ReadsCall call line r → ReadsOr (ReadsCall call line None × Else) r
      go (Some q) found = (found.2, found.3)
      go None none = (none, h)

  -- none of all the sorts
  abbrev pub NoSort : Type 0
  NoSort =
      ReadsCall label_call line None × (ReadsCall settle_call line None × (ReadsCall request.List line None × (ReadsCall request.Write line None
      × (ReadsCall request.Withdraw line None × (ReadsCall request.Enter line None × ReadsCall request.Size line None)))))

  no_call : NoSort → ReadsLine line None
  no_call n (request.Size z) fit e = n.1.1.1.1.1.1 z fit e
  no_call n (request.Enter s) fit e = n.1.1.1.1.1.0 s fit e
  no_call n (request.Withdraw i) fit e = n.1.1.1.1.0 i fit e
  no_call n (request.Read text) fit e = fit
  no_call n (request.Write room) fit e = n.1.1.1.0 room fit e
  no_call n request.Settle fit e = n.1.0 tt fit e
  no_call n (request.Label x B) fit e = n.0 (x, B) fit e
  no_call n (request.List room) fit e = n.1.1.0 room fit e

  pub all_sorts : (r : Option (Request ℕ)) → ReadsOr NoSort r → ReadsLine line r
  all_sorts (Some q) h = h
  all_sorts None n = no_call n

  -- a settlement, by whether the line is its line
  pub settled : (is : Bool) (r : Option (Request ℕ)) → r ≡ then_some is request.Settle → Decides is (line ≡ codes "settle") → ReadsCall settle_call line r
  settled true r e d = subst (λ (r : Option (Request ℕ)). ReadsCall settle_call line r) (sym e) (tt, refl, tt, d.0 refl)
  settled false r e d = subst (λ (r : Option (Request ℕ)). ReadsCall settle_call line r) (sym e) (λ u fit is. let h = d.1 is in cc)
