-- Each figure that is told is in the picture, as all figures are.
use Rattle.std.proofs.Common.{◌-◌, length}
use Rattle.std.proofs.lemmas.List.Elements.{All-contains}
use Rattle.vixplot.specs.Days.{figures_of}
use Rattle.vixplot.specs.Pictures.{IsInPicture}
use Rattle.vixplot.proofs.FigureLemmas.{all_in_picture, holds_at_place}
use Rattle.vixplot.proofs.picture.draw_figures.Goals as goal

pub draw_mark-requires : goal.draw_mark-requires
draw_mark-requires g c =
    All-contains (IsInPicture c.args.times.now c.scale_of-scale.result) (figures_of c.args.ticks.now) c.args.marks.now.low
    (all_in_picture c.args.times.now c.scale_of-scale.result c.args.ticks.now c.requires.times c.scale_of-scale.ensures.figures) c.requires.marks.low

pub draw_mark-requires-2 : goal.draw_mark-requires-2
draw_mark-requires-2 g c =
    All-contains (IsInPicture c.args.times.now c.scale_of-scale.result) (figures_of c.args.ticks.now) c.args.marks.now.high
    (all_in_picture c.args.times.now c.scale_of-scale.result c.args.ticks.now c.requires.times c.scale_of-scale.ensures.figures) c.requires.marks.high

pub draw_mark-requires-3 : goal.draw_mark-requires-3
draw_mark-requires-3 g c =
    holds_at_place (IsInPicture c.args.times.now c.scale_of-scale.result) (figures_of c.args.ticks.now) 0 c.args.marks.now.first
    (all_in_picture c.args.times.now c.scale_of-scale.result c.args.ticks.now c.requires.times c.scale_of-scale.ensures.figures) c.requires.marks.first

pub draw_mark-requires-4 : goal.draw_mark-requires-4
draw_mark-requires-4 g c =
    holds_at_place (IsInPicture c.args.times.now c.scale_of-scale.result) (figures_of c.args.ticks.now) (length (figures_of c.args.ticks.now) - 1) c.args.marks.now.last
    (all_in_picture c.args.times.now c.scale_of-scale.result c.args.ticks.now c.requires.times c.scale_of-scale.ensures.figures) c.requires.marks.last
