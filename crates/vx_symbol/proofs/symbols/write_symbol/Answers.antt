use Rattle.std.proofs.Common.{ap, ◌∙◌}
use Rattle.vx_clock.proofs.DayTexts.{date_is}
use Rattle.vx_symbol.specs.Symbol.{symbol_of_text}
use Rattle.vx_symbol.specs.SymbolText.{symbol_text}
use Rattle.vx_symbol.proofs.SymbolTexts.{root_form, read_back_symbol}
use Rattle.vx_symbol.proofs.symbols.write_symbol.Goals as goal

pub returns-clause-text : goal.returns-clause-text
unfolding symbol_text
returns-clause-text c =
    let date = date_is c.date_of-year.result.0 c.date_of-year.result.1 c.date_of-year.result.2 c.args.s.now.date c.date_of-year.ensures.value in
    rw (c.root_mark.ensures, c.side_mark.ensures, c.digit.ensures, c.digit-2.ensures, c.digit-3.ensures, c.digit-4.ensures, c.digit-5.ensures, c.digit-6.ensures, c.digit-7.ensures, c.digit-8.ensures, c.digit-9.ensures, c.digit-10.ensures, c.digit-11.ensures, c.digit-12.ensures, c.digit-13.ensures, c.digit-14.ensures, date.0, date.1, date.2)
    (root_form c.args.s.now.root _)

pub returns-clause-read_back : goal.returns-clause-read_back
returns-clause-read_back c = ap symbol_of_text (returns-clause-text c) ∙ read_back_symbol c.args.s.now c.requires
