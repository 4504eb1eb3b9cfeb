-- What is kept of an opening and of the positions that were settled on it. This project's own.
use Rattle.std.specs.Prelude.{◌≡◌, ◌*◌, ◌^◌, ◌≤◌, nat_abs, List, length, Option, IfSome}
use Rattle.vx_num.specs.declared.limits.TheConstants.{CENTS_MAX}
use Rattle.vx_settle.specs.Amount.{sum_of_amounts}
use Rattle.vx_cli.specs.declared.settle.Settlement.{Settlement}
use Rattle.vx_cli.specs.SettleRuns.{AnsweredOpening}
use Rattle.vx_cli.specs.SettleText.{Settled, amounts_of, figure_of}

-- the figure of the opening's answer is kept, where it has one, and the sum of the amounts so far
pub record HasSettledOn (sheet : Settlement) (a : AnsweredOpening) (items : List (Option Settled)) : Type 0 where
  pub figure_is : sheet.figure ≡ figure_of a.answer
  pub in_range : IfSome sheet.figure (λ cents. cents ≤ CENTS_MAX)
  pub total_is : sheet.total ≡ sum_of_amounts (amounts_of items)
  pub bound : nat_abs sheet.total ≤ length items * 2 ^ 56
  pub as_many : IfSome sheet.figure (λ cents. length (amounts_of items) ≡ length items)
