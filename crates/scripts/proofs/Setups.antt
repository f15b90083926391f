-- The first four lines of a script, read one after another. Assumes nothing.
use Rattle.std.proofs.Common.{◌≡◌, ℕ, ◌<◌, List, Some, None, Ok, Err, Option, Result, codes, arith, sym, refl, ◌∙◌, subst, below_none, below_more}
use Rattle.std.specs.Option.{ok_or}
use Rattle.std.specs.Result.{IsErrAnd}
use Rattle.scripts.specs.declared.BadLine.{BadLine}
use Rattle.scripts.specs.declared.LabelKind.{LabelKind}
use Rattle.scripts.specs.declared.BoardPlan.{BoardPlan}
use Rattle.scripts.specs.declared.BoardPlan.TheVariants as plan
use Rattle.scripts.specs.declared.Setup.{Setup}
use Rattle.lines.specs.Texts.{line_at}
use Rattle.scripts.specs.Setups.{setup_line, ReadsKind, ReadsMemory, ReadsBoard, LineStands, ReadsSetup}

module _ (script : List ℕ) where
  pub bad_kind : ReadsKind (line_at 0 script) None → ReadsSetup script (Err (record { number = 1 }))
  bad_kind none = (0, refl, (omega arith, below_none (LineStands script), λ w. none w.0.kind tt w.2))

  module _ (k : LabelKind) (kind_read : ReadsKind (line_at 0 script) (Some k)) where
    one : (n : ℕ) → n < 1 → LineStands script n
    one = below_more (LineStands script) 0 (below_none (LineStands script))
        (record { kind = k; cells = 0; board = plan.Dense 0; words = 0 }, (omega arith, omega arith, omega arith), kind_read.1)

    pub bad_book : ReadsMemory (codes "book") (line_at 1 script) None → ReadsSetup script (Err (record { number = 2 }))
    bad_book none = (1, refl, (omega arith, one, λ w. none w.0.cells w.1.0 w.2))

    module _ (cells : ℕ) (book_read : ReadsMemory (codes "book") (line_at 1 script) (Some cells)) where
      two : (n : ℕ) → n < 2 → LineStands script n
      two = below_more (LineStands script) 1 one
          (record { kind = k; cells = cells; board = plan.Dense 0; words = 0 }, (book_read.0, omega arith, omega arith), book_read.1)

      pub bad_board : ReadsBoard (line_at 2 script) None → ReadsSetup script (Err (record { number = 3 }))
      bad_board none = (2, refl, (omega arith, two, λ w. none w.0.board w.1.1 w.2))

      module _ (board : BoardPlan) (board_read : ReadsBoard (line_at 2 script) (Some board)) where
        three : (n : ℕ) → n < 3 → LineStands script n
        three = below_more (LineStands script) 2 two
            (record { kind = k; cells = cells; board = board; words = 0 }, (book_read.0, board_read.0, omega arith), board_read.1)

        pub bad_words : ReadsMemory (codes "words") (line_at 3 script) None → ReadsSetup script (Err (record { number = 4 }))
        bad_words none = (3, refl, (omega arith, three, λ w. none w.0.words w.1.2 w.2))

        pub all_read : (words : ℕ) → ReadsMemory (codes "words") (line_at 3 script) (Some words) → ReadsSetup script (Ok (record { kind = k; cells = cells; board = board; words = words }))
        all_read words words_read =
            let s : Setup = record { kind = k; cells = cells; board = board; words = words } in
            let P : ℕ → Type 0 = λ n. line_at n script ≡ setup_line s n in (
              (book_read.0, board_read.0, words_read.0),
              below_more P 3 (below_more P 2 (below_more P 1 (below_more P 0 (below_none P) kind_read.1) book_read.1) board_read.1) words_read.1,
            )

-- what a `?` gives where a part is not read
pub refused_at :
    {X : Type 0} (script : List ℕ) (part : Option X) (named bad : BadLine) (result : Result Setup BadLine)
    → part ≡ None → Err bad ≡ ok_or {T = X} {E = BadLine} part named → IsErrAnd result (λ e. e ≡ bad)
    → ReadsSetup script (Err named) → ReadsSetup script result
refused_at script part named bad (Ok s) none is given h = absurd given
refused_at script (Some x) named bad (Err e) none is given h = let n = none in absurd (cc)
refused_at script None named bad (Err e) none is given h =
    let same : bad ≡ named = cc in
    subst (λ (b : BadLine). ReadsSetup script (Err b)) (sym (given ∙ same)) h
