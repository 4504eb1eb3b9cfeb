-- The answer to a tick, of the answers for its two terms: the near term's refusal comes before the next one's. This project's own.
use Rattle.std.specs.Prelude.{◌≡◌, ℕ}
use Rattle.vx_term.specs.declared.answer.TermAnswer.{TermAnswer}
use Rattle.vx_term.specs.declared.answer.TermAnswer.TheVariants as term
use Rattle.vx_term.specs.declared.answer.TermRun.{TermRun}
use Rattle.vx_replay.specs.declared.answer.TickAnswer.{TickAnswer}
use Rattle.vx_replay.specs.declared.answer.TickAnswer.TheVariants.{UndecidedForward, Refused}
use Rattle.vx_replay.specs.declared.answer.Reason.TheVariants.{Term}
use Rattle.vx_replay.specs.declared.answer.Which.TheVariants.{Near, Next}
use Rattle.vx_replay.specs.Figures.{IsFigureAnswer}

-- with a near term's run, by the answer for the next term
abbrev pub IsJoinedWithRun : {P : ℕ} → ℕ → ℕ → ℕ → TermRun P → TermAnswer P → TickAnswer → Type 0
IsJoinedWithRun line time days near (term.Run next) answer = IsFigureAnswer line time days near next answer
IsJoinedWithRun line time days near (term.Refused refusal) answer = answer ≡ Refused (Term refusal) Next
IsJoinedWithRun line time days near (term.UndecidedForward strike lo hi) answer = answer ≡ UndecidedForward Next strike lo hi

-- by the answers for both terms
abbrev pub IsJoined : {P : ℕ} → ℕ → ℕ → ℕ → TermAnswer P → TermAnswer P → TickAnswer → Type 0
IsJoined line time days (term.Run near) next answer = IsJoinedWithRun line time days near next answer
IsJoined line time days (term.Refused refusal) next answer = answer ≡ Refused (Term refusal) Near
IsJoined line time days (term.UndecidedForward strike lo hi) next answer = answer ≡ UndecidedForward Near strike lo hi
