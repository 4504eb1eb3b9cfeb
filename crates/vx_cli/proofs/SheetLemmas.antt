-- What is kept of positions that were settled.
use Rattle.std.proofs.Common.{◌≡◌, ◌==◌, ◌∙◌, sym, ap, subst, refl, ℕ, ◌+◌, ◌*◌, ◌^◌, ◌≤◌, Bool, true, false, ℤ, pos, ◌+ℤ◌, List, [], ◌∷◌, ◌++◌, length, Option, Some, None, IfSome, arith, Result, Ok, Err, FitsSigned}
use Rattle.std.specs.Prelude.{nat_abs, option_map, if◌then◌else◌}
use Rattle.std.proofs.lemmas.Int.{ints, fits_signed_from_abs}
use mir.Syntax.{w128}
use Rattle.vx_num.specs.declared.limits.TheConstants.{CENTS_MAX}
use Rattle.vx_feed.specs.declared.events.Event.{Event}
use Rattle.vx_feed.specs.Opening.{opening_expiries, opening_line, opening_time}
use Rattle.vx_book.specs.declared.opening.Opened.{Opened}
use Rattle.vx_book.specs.Opening.{opened_at}
use Rattle.vx_cert.specs.declared.certificate.CertBody.{CertBody}
use Rattle.vx_cert.specs.declared.certificate.CertBody.TheVariants.{K0, Single, Index, Soq}
use Rattle.vx_cert.specs.Ranges.{IsBodyInRange}
use Rattle.vx_claims.specs.Answers.{StatesOpening}
use Rattle.vx_soq.specs.declared.answer.OpeningAnswer.{OpeningAnswer}
use Rattle.vx_soq.specs.declared.answer.OpeningAnswer.TheVariants.{Published, Refused, UndecidedForward, UndecidedCents}
use Rattle.vx_soq.specs.Openings.{IsOpeningAnswer}
use Rattle.vx_soq.specs.Lawful.{IsLawfulOpening}
use Rattle.vx_soq.specs.Written.{IsWritable}
use Rattle.vx_settle.specs.declared.position.Position.{Position}
use Rattle.vx_settle.specs.declared.fault.PositionFault.{PositionFault}
use Rattle.vx_settle.specs.declared.fault.PositionFault.TheVariants as fault
use Rattle.vx_settle.specs.Amount.{IsAmount, sum_of_amounts}
use Rattle.vx_fields.specs.Lines.{field}
use Rattle.vx_settle.specs.declared.position.Contract.{Contract}
use Rattle.vx_settle.specs.Form.{contract_of_text, last_of_text, position_of_fields, position_of_line, position_of_parts, position_unless, quantity_of_text}
use Rattle.vx_blocks.specs.SplitLines.{IsSplit}
use Rattle.vx_drivers.specs.PositionExits.{IsLineFault}
use Rattle.vx_drivers.specs.PositionSteps.{AddsUnless, OpensSheet}
use Rattle.vx_drivers.specs.Sending.{Text}
use Rattle.vx_drivers.proofs.PositionLinesLemmas.{none_unsplit}
use Rattle.vx_cli.specs.declared.settle.Settlement.{Settlement}
use Rattle.vx_cli.specs.ReadBack.{OpeningCertificateIsRead}
use Rattle.vx_cli.specs.SettleRuns.{AnsweredOpening, SettlesTo, settle_rules}
use Rattle.vx_cli.specs.SettleSheet.{HasSettledOn}
use Rattle.vx_cli.specs.SettleText.{Settled, amounts_of, figure_of, opening_certificate_text, opening_clock, opening_text, position_text}

-- ---- sums

-- a sum is at most as large as both parts
abs_sum : (a b : ℤ) → nat_abs (a +ℤ b) ≤ nat_abs a + nat_abs b
abs_sum a b = omega (arith, ints)

-- a sum of a million amounts and one more has room in 128 bits
pub sum_fits : (total amount : ℤ) → nat_abs total ≤ 1000000 * 2 ^ 56 → nat_abs amount ≤ 2 ^ 56 → FitsSigned w128 (total +ℤ amount)
sum_fits total amount h k =
    let both = abs_sum total amount in
    fits_signed_from_abs w128 (total +ℤ amount) (omega (arith, both, h, k))

first_sum : (a : ℤ) → a +ℤ pos 0 ≡ pos 0 +ℤ a
first_sum a = omega (arith, ints)

regroup : (x rest a : ℤ) → x +ℤ (rest +ℤ a) ≡ (x +ℤ rest) +ℤ a
regroup x rest a = omega (arith, ints)

total_more : (amounts : List ℤ) (a : ℤ) → sum_of_amounts (amounts ++ a ∷ []) ≡ sum_of_amounts amounts +ℤ a
total_more [] a = first_sum a
total_more (x ∷ amounts) a = ap (λ t. x +ℤ t) (total_more amounts a) ∙ regroup x (sum_of_amounts amounts) a

amounts_more : (items : List (Option Settled)) (s : Settled) → amounts_of (items ++ Some s ∷ []) ≡ amounts_of items ++ s.amount ∷ []
amounts_more [] s = refl
amounts_more (None ∷ items) s = amounts_more items s
amounts_more (Some x ∷ items) s = ap (λ t. x.amount ∷ t) (amounts_more items s)

amounts_none : (items : List (Option Settled)) → amounts_of (items ++ None ∷ []) ≡ amounts_of items
amounts_none [] = refl
amounts_none (None ∷ items) = amounts_none items
amounts_none (Some x ∷ items) = ap (λ t. x.amount ∷ t) (amounts_none items)

pushed : {T : Type 0} (xs : List T) (x : T) → length (xs ++ x ∷ []) ≡ length xs + 1
pushed [] x = refl
pushed (y ∷ xs) x = let h = pushed xs x in omega (arith, h)

-- ---- one line more

-- a position with its amount
pub settled_more : (old new : Settlement) (a : AnsweredOpening) (items : List (Option Settled)) (s : Settled) (figure : ℕ) → HasSettledOn old a items
    → old.figure ≡ Some figure → new.figure ≡ old.figure → new.total ≡ old.total +ℤ s.amount → nat_abs s.amount ≤ 2 ^ 56
    → HasSettledOn new a (items ++ Some s ∷ [])
settled_more old new a items s figure h some same total within =
    let both = abs_sum old.total s.amount in
    let size = pushed items (Some s) in
    let bound = h.bound in
    let total_size : nat_abs new.total ≡ nat_abs (old.total +ℤ s.amount) = ap nat_abs total in
    let kept : IfSome (Some figure) (λ cents. length (amounts_of items) ≡ length items) =
    subst (λ o. IfSome o (λ cents. length (amounts_of items) ≡ length items)) some h.as_many in
    let count : length (amounts_of (items ++ Some s ∷ [])) ≡ length (items ++ Some s ∷ []) =
    ap length (amounts_more items s) ∙ pushed (amounts_of items) s.amount ∙ ap (λ n. n + 1) kept ∙ sym size in
    record {
      figure_is = same ∙ h.figure_is;
      in_range = subst (λ o. IfSome o (λ cents. cents ≤ CENTS_MAX)) (sym same) h.in_range;
      total_is = total ∙ ap (λ t. t +ℤ s.amount) h.total_is ∙ sym (total_more (amounts_of items) s.amount) ∙ sym (ap sum_of_amounts (amounts_more items s));
      bound = omega (arith, both, size, bound, total_size, within);
      as_many = subst (λ o. IfSome o (λ cents. length (amounts_of (items ++ Some s ∷ [])) ≡ length (items ++ Some s ∷ []))) (sym (same ∙ some)) count;
    }

-- a position without a figure
pub nothing_more : (sheet : Settlement) (a : AnsweredOpening) (items : List (Option Settled)) → HasSettledOn sheet a items → sheet.figure ≡ None
    → HasSettledOn sheet a (items ++ None ∷ [])
nothing_more sheet a items h none =
    let size = pushed items None in
    let bound = h.bound in
    record {
      figure_is = h.figure_is;
      in_range = h.in_range;
      total_is = h.total_is ∙ sym (ap sum_of_amounts (amounts_none items));
      bound = omega (arith, size, bound);
      as_many = subst (λ o. IfSome o (λ cents. length (amounts_of (items ++ None ∷ [])) ≡ length (items ++ None ∷ []))) (sym none) tt;
    }

-- ---- what a line comes to

same_err : {a b : PositionFault} → ◌≡◌ {A = Result Position PositionFault} (Err a) (Err b) → a ≡ b
same_err h = cc

parts_named : (contract : Option Contract) (quantity : Option ℤ) (last : Option ℕ) (why : PositionFault) → position_of_parts contract quantity last ≡ Err why → IsLineFault why
parts_named None quantity last why is = subst IsLineFault (same_err is) tt
parts_named (Some c) None last why is = subst IsLineFault (same_err is) tt
parts_named (Some c) (Some n) None why is = subst IsLineFault (same_err is) tt
parts_named (Some c) (Some n) (Some price) why is = absurd (let no : ⊥ = cc in no)

fields_named : (are_three : Bool) (said : Result Position PositionFault) (why : PositionFault) → (said ≡ Err why → IsLineFault why)
    → (if are_three then said else Err fault.Fields) ≡ Err why → IsLineFault why
fields_named true said why named is = named is
fields_named false said why named is = subst IsLineFault (same_err is) tt

-- the fields of a line say what the line says
position_line_read : (line : List ℕ) (fields : List (List ℕ)) (result : Result Position PositionFault) → IsSplit line fields → result ≡ position_of_fields fields
    → result ≡ position_of_line line
position_line_read line fields result split is =
    is ∙ ap position_of_fields split.fields_are ∙ sym (ap (λ (o : Option PositionFault). position_unless o line) (none_unsplit line fields split))

-- ---- the opening

-- the minute of the opening is what is kept of it
pub time_kept : (events : List Event) (kept : Option Opened) → kept ≡ opened_at events → option_map (λ (o : Opened). o.time) kept ≡ opening_time events
time_kept events kept is =
    ap (option_map (λ (o : Opened). o.time)) is ∙ back (opening_line events) (length (opening_expiries events)) (opening_time events)
  where
    back : (number expiries : ℕ) (time : Option ℕ)
        → option_map (λ (o : Opened). o.time) (option_map (λ time. record { line = number; time = time; expiries = expiries }) time) ≡ time
    back number expiries None = refl
    back number expiries (Some time) = refl

-- the figure of a lawful answer whose certificate can be written is in range
cents_of_body : (body : CertBody) (cents : ℕ) (lo hi : ℤ) → StatesOpening body cents lo hi → IsBodyInRange body → cents ≤ CENTS_MAX
cents_of_body (Soq term figure) cents lo hi states (term_in, figure_in) =
    let few = figure_in.cents in
    let same : figure.cents ≡ cents = states.cents_are in
    omega (arith, few, same)
cents_of_body (K0 expiry pair k0) cents lo hi states within = elim states [ ]
cents_of_body (Single term figure) cents lo hi states within = elim states [ ]
cents_of_body (Index days near next figure) cents lo hi states within = elim states [ ]

cents_in_range : (events : List Event) (answer : OpeningAnswer) → IsLawfulOpening events answer → IsWritable answer
    → IfSome (figure_of answer) (λ cents. cents ≤ CENTS_MAX)
cents_in_range events (Published figure) (time, publishes) written =
    cents_of_body figure.certificate.body figure.cents figure.lo figure.hi publishes.states written.body
cents_in_range events (Refused reason) lawful written = tt
cents_in_range events (UndecidedForward strike lo hi) lawful written = tt
cents_in_range events (UndecidedCents lo hi) lawful written = tt

none_yet : (figure : Option ℕ) → IfSome figure (λ cents. length (amounts_of []) ≡ length {A = Option Settled} [])
none_yet None = tt
none_yet (Some cents) = refl

-- the opening is answered, and no position is settled yet
pub sheet_opened : (events : List Event) (answer : OpeningAnswer) (time : Option ℕ) (certificate line : Text) (sheet : Settlement)
    → time ≡ opening_time events → IsOpeningAnswer events answer → IsLawfulOpening events answer → IsWritable answer
    → OpeningCertificateIsRead answer → certificate ≡ opening_certificate_text answer → line ≡ opening_text (opening_clock time) answer
    → sheet.figure ≡ figure_of answer → sheet.total ≡ pos 0
    → OpensSheet settle_rules HasSettledOn events certificate line sheet
sheet_opened events answer time certificate line sheet time_is is_answer lawful written read certificate_is line_is figure_is zero = record {
  answer = record { time = time; answer = answer };
  is_opening = (record { time_is = time_is; is_answer = is_answer; is_lawful = lawful }, read);
  certificate_is = certificate_is;
  line_is = line_is;
  stands = record {
    figure_is = figure_is;
    in_range = subst (λ o. IfSome o (λ cents. cents ≤ CENTS_MAX)) (sym figure_is) (cents_in_range events answer lawful written);
    total_is = zero;
    bound = (let none : nat_abs sheet.total ≡ 0 = ap nat_abs zero in omega (arith, none));
    as_many = none_yet sheet.figure;
  };
}

-- ---- a line, whole

-- the line is no position
pub adds_fault : (a : AnsweredOpening) (items : List (Option Settled)) (text : List ℕ) (fields : List (List ℕ)) (line : Text) (sheet : Settlement)
    (result : Result Position PositionFault) (why : PositionFault) → IsSplit text fields → result ≡ position_of_fields fields → result ≡ Err why
    → AddsUnless settle_rules HasSettledOn a items text line sheet (Some why)
adds_fault a items text fields line sheet result why split reads is = (
  sym (position_line_read text fields result split reads) ∙ is,
  fields_named (length fields == 3) (position_of_parts (contract_of_text (field fields 1)) (quantity_of_text (field fields 2)) (last_of_text (field fields 3))) why
      (parts_named (contract_of_text (field fields 1)) (quantity_of_text (field fields 2)) (last_of_text (field fields 3)) why) (sym reads ∙ is),
)

-- there is no figure
pub adds_nothing : (a : AnsweredOpening) (items : List (Option Settled)) (text : List ℕ) (fields : List (List ℕ)) (line : Text) (sheet : Settlement)
    (result : Result Position PositionFault) (p : Position) → HasSettledOn sheet a items
    → IsSplit text fields → result ≡ position_of_fields fields → result ≡ Ok p → sheet.figure ≡ None → line ≡ []
    → AddsUnless settle_rules HasSettledOn a items text line sheet None
adds_nothing a items text fields line sheet result p h split reads is none empty = record {
  item = None;
  comes = (p, sym (position_line_read text fields result split reads) ∙ is, subst (λ o. SettlesTo o p None) (sym none ∙ h.figure_is) refl);
  line_is = empty;
  stands = nothing_more sheet a items h none;
}

-- a position with its amount
pub adds_amount : (a : AnsweredOpening) (items : List (Option Settled)) (text : List ℕ) (fields : List (List ℕ)) (line : Text) (old new : Settlement)
    (result : Result Position PositionFault) (p : Position) (figure number : ℕ) (amount : ℤ) → HasSettledOn old a items
    → IsSplit text fields → result ≡ position_of_fields fields → result ≡ Ok p → old.figure ≡ Some figure → IsAmount figure p amount
    → nat_abs amount ≤ 2 ^ 56 → new.figure ≡ old.figure → new.total ≡ old.total +ℤ amount → line ≡ position_text number p amount
    → number ≡ length items + 1 → AddsUnless settle_rules HasSettledOn a items text line new None
adds_amount a items text fields line old new result p figure number amount h split reads is some settles within same total line_is numbered = record {
  item = Some (record { position = p; amount = amount });
  comes = (
    p,
    sym (position_line_read text fields result split reads) ∙ is,
    subst (λ o. SettlesTo o p (Some (record { position = p; amount = amount }))) (sym some ∙ h.figure_is) (amount, settles, refl),
  );
  line_is = line_is ∙ ap (λ n. position_text n p amount) numbered;
  stands = settled_more old new a items (record { position = p; amount = amount }) figure h some same total within;
}
