use Rattle.std.proofs.Common.{◌≡◌, ◌≤◌, map, length, get_or, None, sym, ◌∙◌, ap, arith, rules}
use Rattle.vx_formula.specs.Selection.{selected_rows}
use Rattle.vx_formula.specs.Strip.{entries_after}
use Rattle.vx_strip.specs.Entries.{entry_of, strike_at}
use Rattle.vx_formula.proofs.Walks.{no_row}
use Rattle.vx_strip.proofs.Widths.{rows_in_range, same_length, strip_rows_rise}
use Rattle.vx_strip.proofs.Sides.{has_money, selected_rise, selected_lawful, no_put, no_call, has_put, has_call, three_rows, as_many_at_most}
use Rattle.vx_strip.proofs.selection.select.Goals as goal

pub returns-then-not-has_put-clause-refused : goal.returns-then-not-has_put-clause-refused
returns-then-not-has_put-clause-refused c =
    let is : c.deref.result.now ≡ selected_rows c.args.term.now.rows.now (strike_at c.args.term.now.rows.now c.args.k0) = search rules in (
      has_money c.args.term.now.rows.now c.args.k0 c.requires.lawful.rows.rising c.requires.listed (sym c.has_money.ensures ∙ c.if-not-has_money.false),
      no_put c.args.term.now.rows.now c.args.k0 c.deref.result.now c.requires.lawful.rows c.requires.listed is c.if-not-has_put.ensures,
    )

pub returns-then-not-has_call-clause-refused : goal.returns-then-not-has_call-clause-refused
returns-then-not-has_call-clause-refused c =
    let is : c.deref.result.now ≡ selected_rows c.args.term.now.rows.now (strike_at c.args.term.now.rows.now c.args.k0) = search rules in
    let is' : c.deref-2.result.now ≡ selected_rows c.args.term.now.rows.now (strike_at c.args.term.now.rows.now c.args.k0) = search rules in (
      has_money c.args.term.now.rows.now c.args.k0 c.requires.lawful.rows.rising c.requires.listed (sym c.has_money.ensures ∙ c.if-not-has_money.false),
      has_put c.args.term.now.rows.now c.args.k0 c.deref.result.now c.requires.lawful.rows c.requires.listed is c.if-not-has_put.ensures,
      no_call c.args.term.now.rows.now c.args.k0 c.deref-2.result.now c.requires.lawful.rows c.requires.listed is' c.if-not-has_call.ensures,
    )

pub with_widths-requires-clause-rising : goal.with_widths-requires-clause-rising
with_widths-requires-clause-rising c =
    let is : c.deref-3.result.now ≡ selected_rows c.args.term.now.rows.now (strike_at c.args.term.now.rows.now c.args.k0) = search rules in
    selected_rise c.args.term.now.rows.now c.args.k0 c.deref-3.result.now c.requires.lawful.rows c.requires.listed is

pub with_widths-requires-clause-lawful : goal.with_widths-requires-clause-lawful
with_widths-requires-clause-lawful c =
    let is : c.deref-3.result.now ≡ selected_rows c.args.term.now.rows.now (strike_at c.args.term.now.rows.now c.args.k0) = search rules in
    selected_lawful c.args.term.now.rows.now c.args.k0 c.deref-3.result.now c.requires.lawful.rows c.requires.listed is

pub returns-clause-none_refuses : goal.returns-clause-none_refuses
returns-clause-none_refuses c =
    let is : c.deref.result.now ≡ selected_rows c.args.term.now.rows.now (strike_at c.args.term.now.rows.now c.args.k0) = search rules in
    let is' : c.deref-2.result.now ≡ selected_rows c.args.term.now.rows.now (strike_at c.args.term.now.rows.now c.args.k0) = search rules in
    record {
      has_money = has_money c.args.term.now.rows.now c.args.k0 c.requires.lawful.rows.rising c.requires.listed (sym c.has_money.ensures ∙ c.if-not-has_money.false);
      has_put = has_put c.args.term.now.rows.now c.args.k0 c.deref.result.now c.requires.lawful.rows c.requires.listed is c.if-not-has_put.ensures;
      has_call = has_call c.args.term.now.rows.now c.args.k0 c.deref-2.result.now c.requires.lawful.rows c.requires.listed is' c.if-not-has_call.ensures;
    }

pub returns-clause-both_sides : goal.returns-clause-both_sides
returns-clause-both_sides c =
    let is : c.deref.result.now ≡ selected_rows c.args.term.now.rows.now (strike_at c.args.term.now.rows.now c.args.k0) = search rules in
    let same : c.deref-2.result.now ≡ c.deref.result.now = search rules in
    let made : map entry_of c.in_ok-rows.rows ≡ entries_after (get_or c.args.term.now.rows.now c.args.k0 no_row).strike None c.deref-3.result.now = search rules in
    let long : length c.in_ok-rows.rows ≡ length c.deref-3.result.now = same_length (get_or c.args.term.now.rows.now c.args.k0 no_row).strike c.in_ok-rows.rows c.deref-3.result.now made in
    let again : c.deref-3.result.now ≡ c.deref.result.now = search rules in
    let three : 3 ≤ length c.deref.result.now = three_rows c.args.term.now.rows.now c.args.k0 c.deref.result.now c.requires.lawful.rows c.requires.listed is c.if-not-has_put.ensures (rw same at c.if-not-has_call.ensures) in
    omega (arith, three, long, ap length again)

pub returns-clause-rising : goal.returns-clause-rising
returns-clause-rising c =
    let is : c.deref-3.result.now ≡ selected_rows c.args.term.now.rows.now (strike_at c.args.term.now.rows.now c.args.k0) = search rules in
    let made : map entry_of c.in_ok-rows.rows ≡ entries_after (get_or c.args.term.now.rows.now c.args.k0 no_row).strike None c.deref-3.result.now = search rules in
    strip_rows_rise (get_or c.args.term.now.rows.now c.args.k0 no_row).strike c.in_ok-rows.rows c.deref-3.result.now made
    (selected_rise c.args.term.now.rows.now c.args.k0 c.deref-3.result.now c.requires.lawful.rows c.requires.listed is)

pub returns-clause-in_range : goal.returns-clause-in_range
returns-clause-in_range c =
    let is : c.deref.result.now ≡ selected_rows c.args.term.now.rows.now (strike_at c.args.term.now.rows.now c.args.k0) = search rules in
    let same : c.deref-2.result.now ≡ c.deref.result.now = search rules in
    let is' : c.deref-3.result.now ≡ selected_rows c.args.term.now.rows.now (strike_at c.args.term.now.rows.now c.args.k0) = search rules in
    let again : c.deref-3.result.now ≡ c.deref.result.now = search rules in
    let made : map entry_of c.in_ok-rows.rows ≡ entries_after (get_or c.args.term.now.rows.now c.args.k0 no_row).strike None c.deref-3.result.now = search rules in
    let long : length c.in_ok-rows.rows ≡ length c.deref-3.result.now = same_length (get_or c.args.term.now.rows.now c.args.k0 no_row).strike c.in_ok-rows.rows c.deref-3.result.now made in
    let three : 3 ≤ length c.deref.result.now = three_rows c.args.term.now.rows.now c.args.k0 c.deref.result.now c.requires.lawful.rows c.requires.listed is c.if-not-has_put.ensures (rw same at c.if-not-has_call.ensures) in
    let few : length c.deref-3.result.now ≤ length c.args.term.now.rows.now = as_many_at_most c.args.term.now.rows.now c.args.k0 c.deref-3.result.now c.requires.lawful.rows c.requires.listed is' in
    let count = c.requires.lawful.rows.count in
    record {
      some = omega (arith, three, long, ap length again);
      count = omega (arith, few, long, count);
      each = rows_in_range (get_or c.args.term.now.rows.now c.args.k0 no_row).strike c.in_ok-rows.rows c.deref-3.result.now made (omega (arith, three, ap length again))
          (selected_rise c.args.term.now.rows.now c.args.k0 c.deref-3.result.now c.requires.lawful.rows c.requires.listed is')
          (selected_lawful c.args.term.now.rows.now c.args.k0 c.deref-3.result.now c.requires.lawful.rows c.requires.listed is');
    }
