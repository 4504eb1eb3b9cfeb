-- What `settle` writes: the opening figure, and what each position settles to. This project's own format.
use Rattle.std.specs.Prelude.{ℕ, ℤ, pos, List, [], ◌∷◌, ◌++◌, length, codes, Option, Some, None}
use Rattle.vx_clock.specs.Clock.{clock_text}
use Rattle.vx_num.specs.Written.{signed_text}
use Rattle.vx_feed.specs.Written.{count_text}
use Rattle.vx_cert.specs.Written.{certificate_text}
use Rattle.vx_settle.specs.declared.position.Contract.{Contract}
use Rattle.vx_settle.specs.declared.position.Contract.TheVariants.{Vx, Vxm}
use Rattle.vx_settle.specs.declared.position.Position.{Position}
use Rattle.vx_settle.specs.Amount.{sum_of_amounts}
use Rattle.vx_soq.specs.declared.answer.OpeningAnswer.{OpeningAnswer}
use Rattle.vx_soq.specs.declared.answer.OpeningAnswer.TheVariants.{Published, Refused, UndecidedForward, UndecidedCents}
use Rattle.vx_soq.specs.declared.answer.SoqReason.{SoqReason}
use Rattle.vx_soq.specs.declared.answer.SoqReason.TheVariants.{NoOpening, NoTerm, Term, NegativeVariance}
use Rattle.vx_drivers.specs.Sending.{Text}
use Rattle.vx_cli.specs.OutputLines.{line_of, strike_text, cents_text, index_end_text, forward_end_text}
use Rattle.vx_cli.specs.ReplayText.{refusal_word}

abbrev pub opening_reason_word : SoqReason → Text
opening_reason_word NoOpening = codes "no-opening"
opening_reason_word NoTerm = codes "no-term"
opening_reason_word (Term refusal) = refusal_word refusal
opening_reason_word NegativeVariance = codes "negative-variance"

-- the minute of the opening; `-` where none was taken
abbrev pub opening_clock : Option ℕ → Text
opening_clock None = codes "-"
opening_clock (Some time) = clock_text time

-- `SOQ,hh:mm,figure,lo,hi`, `UND,hh:mm,soq,cents,lo,hi`, `UND,hh:mm,soq,forward,strike,lo,hi` or `REF,hh:mm,soq,reason`
abbrev pub opening_text : Text → OpeningAnswer → Text
opening_text clock (Published figure) =
    line_of (codes "SOQ" ∷ clock ∷ cents_text figure.cents ∷ index_end_text figure.lo ∷ index_end_text figure.hi ∷ [])
opening_text clock (UndecidedCents lo hi) =
    line_of (codes "UND" ∷ clock ∷ codes "soq" ∷ codes "cents" ∷ index_end_text lo ∷ index_end_text hi ∷ [])
opening_text clock (UndecidedForward strike lo hi) =
    line_of (codes "UND" ∷ clock ∷ codes "soq" ∷ codes "forward" ∷ strike_text strike ∷ forward_end_text lo ∷ forward_end_text hi ∷ [])
opening_text clock (Refused reason) = line_of (codes "REF" ∷ clock ∷ codes "soq" ∷ opening_reason_word reason ∷ [])

-- the figure of an answer, in cents, where it has one
abbrev pub figure_of : OpeningAnswer → Option ℕ
figure_of (Published figure) = Some figure.cents
figure_of _ = None

-- the line of its certificate; nothing where it has none
abbrev pub opening_certificate_text : OpeningAnswer → Text
opening_certificate_text (Published figure) = certificate_text figure.certificate
opening_certificate_text _ = []

abbrev pub contract_word : Contract → Text
contract_word Vx = codes "VX"
contract_word Vxm = codes "VXM"

-- an amount in dollars, of cents
abbrev pub amount_text : ℤ → Text
amount_text amount = signed_text amount 2

-- `POS,line,contract,quantity,last,amount`
abbrev pub position_text : ℕ → Position → ℤ → Text
position_text number p amount =
    line_of (codes "POS" ∷ count_text number ∷ contract_word p.contract ∷ signed_text p.quantity 0 ∷ signed_text (pos p.last) 4
    ∷ amount_text amount ∷ [])

-- ---- the positions

-- a position with its amount
pub record Settled : Type 0 where
  pub position : Position
  pub amount : ℤ

-- the line of what a line of positions with this number comes to; nothing where there is no figure
abbrev pub settled_line : ℕ → Option Settled → Text
settled_line number None = []
settled_line number (Some s) = position_text number s.position s.amount

abbrev pub amounts_of : List (Option Settled) → List ℤ
amounts_of [] = []
amounts_of (None ∷ items) = amounts_of items
amounts_of (Some s ∷ items) = s.amount ∷ amounts_of items

-- `TOTAL,amount` and `END,count`
abbrev pub total_text : List ℤ → Text
total_text amounts =
    line_of (codes "TOTAL" ∷ amount_text (sum_of_amounts amounts) ∷ [])
    ++ line_of (codes "END" ∷ count_text (length amounts) ∷ [])

-- without a figure the last line counts no position
abbrev pub no_total_text : Text
no_total_text = line_of (codes "END" ∷ count_text 0 ∷ [])

-- the last lines, by the figure
abbrev pub last_text : Option ℕ → List (Option Settled) → Text
last_text None items = no_total_text
last_text (Some figure) items = total_text (amounts_of items)
