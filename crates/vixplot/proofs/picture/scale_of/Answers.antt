-- The scale is around the lowest and the highest figure, and so around all.
use Rattle.std.proofs.Common.{◌≤◌, All, IfSome, arith}
use Rattle.std.proofs.lemmas.List.Elements.{All-contains, All-weaker}
use Rattle.vx_num.specs.declared.limits.TheConstants.{CENTS_MAX}
use Rattle.vixplot.specs.declared.answer.Tick.{Tick}
use Rattle.vixplot.specs.declared.day.Mark.{Mark}
use Rattle.vixplot.specs.Answers.{IsTickInRange, mark_of}
use Rattle.vixplot.specs.Days.{figures_of}
use Rattle.vixplot.specs.Pictures.{IsWithinScale}
use Rattle.vixplot.proofs.FigureLemmas.{all_parts, each_part}
use Rattle.vixplot.proofs.picture.scale_of.Goals as goal

pub around-requires-clause-range : goal.around-requires-clause-range
around-requires-clause-range c =
    let ticks = c.args.ticks.now in
    let all : All (λ (mark : Mark). mark.cents ≤ CENTS_MAX) (figures_of ticks) = all_parts mark_of (λ (mark : Mark). mark.cents ≤ CENTS_MAX) ticks
    (All-weaker IsTickInRange (λ (tick : Tick). IfSome (mark_of tick) (λ (mark : Mark). mark.cents ≤ CENTS_MAX)) (λ tick range. range.figure) ticks c.requires.range) in
    All-contains (λ (mark : Mark). mark.cents ≤ CENTS_MAX) (figures_of ticks) c.args.marks.now.high all c.requires.marks.high

pub returns-clause-within : goal.returns-clause-within
returns-clause-within c =
    each_part mark_of (IsWithinScale c.around.result) c.args.ticks.now
    (λ k d h. record {
      first = omega (arith, c.requires.marks.lowest k d h);
      last = omega (arith, c.requires.marks.highest k d h);
    })
