-- The answers to certificate lines, and their output lines. Each line ends with LF (10). This project's own format.
use Rattle.std.specs.Prelude.{ℕ, ◌+◌, Bool, true, false, List, [], ◌∷◌, ◌++◌, length, codes}
use Rattle.vx_num.specs.Written.{decimal_text}
use Rattle.vx_drivers.specs.Sending.{Text}

-- yes with what its line then says, or no with the word for why
pub data Answer : Type 0 where
  said_yes : Text → Answer
  said_no : Text → Answer

-- a verdict with its words
abbrev pub answer_of : Bool → Text → Answer
answer_of true words = said_yes words
answer_of false words = said_no words

-- how many of the answers are yes, and how many no
abbrev pub one_yes : Answer → ℕ
one_yes (said_yes words) = 1
one_yes (said_no word) = 0

abbrev pub one_no : Answer → ℕ
one_no (said_yes words) = 0
one_no (said_no word) = 1

abbrev pub count_yes : List Answer → ℕ
count_yes [] = 0
count_yes (answer ∷ answers) = one_yes answer + count_yes answers

abbrev pub count_no : List Answer → ℕ
count_no [] = 0
count_no (answer ∷ answers) = one_no answer + count_no answers

-- `WORD,number,`
abbrev pub line_start : Text → ℕ → Text
line_start word number = word ++ codes "," ++ decimal_text number 0 ++ codes ","

-- the answer to the certificate line of this number: `YES,number,words` or `NO,number,word`
abbrev pub answer_text : ℕ → Answer → Text
answer_text number (said_yes words) = line_start (codes "YES") number ++ words ++ 10 ∷ []
answer_text number (said_no word) = line_start (codes "NO") number ++ word ++ 10 ∷ []

-- the lines of answers, of which the first is to the line of this number
abbrev pub answers_from : ℕ → List Answer → Text
answers_from number [] = []
answers_from number (answer ∷ answers) = answer_text number answer ++ answers_from (number + 1) answers

abbrev pub answers_text : List Answer → Text
answers_text answers = answers_from 1 answers

-- `END,lines,yes,no`
abbrev pub end_line : ℕ → ℕ → ℕ → Text
end_line lines agreed refused =
    line_start (codes "END") lines ++ decimal_text agreed 0 ++ codes "," ++ decimal_text refused 0 ++ 10 ∷ []

-- the last line, with how many lines were answered, and how
abbrev pub end_text : List Answer → Text
end_text answers = end_line (length answers) (count_yes answers) (count_no answers)
