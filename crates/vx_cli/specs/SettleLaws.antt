-- An opening has one answer at most; a line of positions comes to one thing at most, and one that cannot be split to its
-- fault.
use Rattle.std.proofs.Common.{◌≡◌, ◌∙◌, ℕ, ℤ, List, Option, Some, None, Result, Ok, Err, sym, ap, subst}
use Rattle.vx_feed.specs.declared.events.Event.{Event}
use Rattle.vx_settle.specs.declared.position.Position.{Position}
use Rattle.vx_settle.specs.declared.fault.PositionFault.{PositionFault}
use Rattle.vx_settle.specs.Form.{position_of_line, position_unless, unsplit_fault}
use Rattle.vx_settle.proofs.Amounts.{amount_is_one}
use Rattle.vx_soq.proofs.OpeningAnswerIsOne.{opening_answer_is_one}
use Rattle.vx_cli.specs.SettleRuns.{AnsweredOpening, IsAnsweredOpening, IsWrittenOpening, LineComesTo, SettlesTo}
use Rattle.vx_cli.specs.SettleText.{Settled, figure_of}

answers_one : (events : List Event) (a b : AnsweredOpening)
    → IsAnsweredOpening events a → IsAnsweredOpening events b → a ≡ b
answers_one events a b h k =
    let times : a.time ≡ b.time = h.time_is ∙ sym k.time_is in
    let answers : a.answer ≡ b.answer = opening_answer_is_one events a.answer b.answer h.is_answer k.is_answer in
    λ i. record { time = times i; answer = answers i }

pub opening_is_one : (events : List Event) (a b : AnsweredOpening)
    → IsWrittenOpening events a → IsWrittenOpening events b → a ≡ b
opening_is_one events a b h k = answers_one events a b h.0 k.0

settled_one : (figure : Option ℕ) (p : Position) (a b : Option Settled)
    → SettlesTo figure p a → SettlesTo figure p b → a ≡ b
settled_one None p a b h k = h ∙ sym k
settled_one (Some figure) p a b (x, h, e) (y, k, f) =
    e ∙ ap (λ (amount : ℤ). Some (record { position = p; amount = amount })) (amount_is_one figure p x y h k) ∙ sym f

same_position : (p q : Position) (r : Result Position PositionFault) → r ≡ Ok p → r ≡ Ok q → p ≡ q
same_position p q r h k = cc

same_fault : (a b : PositionFault) (r : Result Position PositionFault) → r ≡ Err a → r ≡ Err b → a ≡ b
same_fault a b r h k = cc

no_fault : (p : Position) (fault : PositionFault) (r : Result Position PositionFault) → r ≡ Ok p → r ≡ Err fault → ⊥
no_fault p fault r h k = cc

line_is_one : (figure : Option ℕ) (line : List ℕ) (a b : Result (Option Settled) PositionFault)
    → LineComesTo figure line a → LineComesTo figure line b → a ≡ b
line_is_one figure line (Ok a) (Ok b) (p, h, x) (q, k, y) =
    let same : p ≡ q = same_position p q (position_of_line line) h k in
    ap (λ (item : Option Settled). Ok item)
    (settled_one figure q a b (subst (λ (r : Position). SettlesTo figure r a) same x) y)
line_is_one figure line (Ok a) (Err f) (p, h, x) k =
    absurd (no_fault p f (position_of_line line) h k)
line_is_one figure line (Err f) (Ok b) h (q, k, y) =
    absurd (no_fault q f (position_of_line line) k h)
line_is_one figure line (Err f) (Err e) h k =
    ap (λ (fault : PositionFault). Err fault) (same_fault f e (position_of_line line) h k)

pub comes_to_one : (a : AnsweredOpening) (line : List ℕ) (x y : Result (Option Settled) PositionFault)
    → LineComesTo (figure_of a.answer) line x → LineComesTo (figure_of a.answer) line y → x ≡ y
comes_to_one a line x y h k = line_is_one (figure_of a.answer) line x y h k

pub none_unsplit : (a : AnsweredOpening) (line : List ℕ) (fault : PositionFault) → unsplit_fault line ≡ Some fault
    → LineComesTo (figure_of a.answer) line (Err fault)
none_unsplit a line fault is = ap (λ (o : Option PositionFault). position_unless o line) is
