-- Lines of which there may be only so many.
use Rattle.std.proofs.Common.{◌≡◌, ◌∙◌, ap, refl, ℕ, ◌-◌, ◌≤◌, zero, suc, true, false, List, [], ◌∷◌, length, take, arith, cond}
use Rattle.std.specs.Prelude.{nat_lt}
use Rattle.std.proofs.lemmas.Bool.Decides.{nat_tests}
use Rattle.vx_lines.specs.TextLines.{TextLines, Ending, too_many, ended, line_then, lines_then, at_most}

-- a text with no more lines than there may be is as it was
pub at_most_all : (most : ℕ) (text : TextLines) → length text.lines ≤ most → at_most most text ≡ text
at_most_all most text within = let h : nat_lt most (length text.lines) ≡ false = grind (arith, nat_tests) in rw h refl

-- a text with no whole line is as it was
pub at_most_ended : (most : ℕ) (ending : Ending) → at_most most (ended ending) ≡ ended ending
at_most_ended most ending = let h : nat_lt most 0 ≡ false = grind (arith, nat_tests) in rw h refl

-- where no line more may come, the next is one too many
pub at_most_none : (line : List ℕ) (rest : TextLines) → at_most 0 (line_then line rest) ≡ ended too_many
at_most_none line rest = let h : nat_lt 0 (length (line ∷ rest.lines)) ≡ true = grind (arith, nat_tests) in rw h refl

step : (most : ℕ) (line : List ℕ) (rest : TextLines) → at_most (suc most) (line_then line rest) ≡ line_then line (at_most most rest)
step most line rest =
    let same : nat_lt (suc most) (length (line ∷ rest.lines)) ≡ nat_lt most (length rest.lines) = grind (arith, nat_tests) in
    rw same (elim (nat_lt most (length rest.lines)) as (λ b.
    cond b (record { lines = line ∷ take most rest.lines; ending = too_many }) (line_then line rest)
    ≡ line_then line (cond b (record { lines = take most rest.lines; ending = too_many }) rest))
    [ true ↦ refl | false ↦ refl ])

-- where a line may come, one fewer may come behind it
pub at_most_line : (most : ℕ) (line : List ℕ) (rest : TextLines) → 1 ≤ most → at_most most (line_then line rest) ≡ line_then line (at_most (most - 1) rest)
at_most_line zero line rest some = absurd (omega arith)
at_most_line (suc most) line rest some = let less : suc most - 1 ≡ most = omega arith in rw less (step most line rest)

-- behind some lines that may come, so many fewer may come
pub at_most_lines : (most : ℕ) (lines : List (List ℕ)) (rest : TextLines) → length lines ≤ most
    → at_most most (lines_then lines rest) ≡ lines_then lines (at_most (most - length lines) rest)
at_most_lines most [] rest within = let all : most - 0 ≡ most = omega arith in rw all refl
at_most_lines most (line ∷ lines) rest within =
    let less : most - 1 - length lines ≡ most - length (line ∷ lines) = omega arith in
    at_most_line most line (lines_then lines rest) (omega (arith, within))
    ∙ ap (line_then line) (at_most_lines (most - 1) lines rest (omega (arith, within)) ∙ ap (λ n. lines_then lines (at_most n rest)) less)
