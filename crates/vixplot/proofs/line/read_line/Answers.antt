-- The pieces that are collected are the fields of the line.
use Rattle.std.proofs.Common.{◌≡◌, ◌∙◌, ap, subst, map, Ok}
use Rattle.std.proofs.Math.Dec.{lit<}
use Rattle.std.specs.declared.alloc.AllocError.{AllocError}
use Rattle.std.proofs.lemmas.Iterator.Consumers.{map_from_collect}
use Rattle.std.proofs.lemmas.Iterator.Splits.{YieldsList-from_str_split}
use Rattle.vixplot.specs.Lines.{SaysLine, fields_of}
use Rattle.vixplot.proofs.line.read_line.Goals as goal

pub returns-clause-line : goal.returns-clause-line
returns-clause-line c =
    let fields_are : map (λ x. x.now) c.in_ok-fields.fields.items ≡ fields_of c.args.text.now =
    map_from_collect {E = AllocError} (Ok c.in_ok-fields.fields) c.in_ok-fields.ensures.ran
    (YieldsList-from_str_split 44 c.args.text.now (lit< tt) c.split.ensures.text c.split.ensures.has_more c.split.ensures.pattern) in
    subst (λ fields. SaysLine fields c.line_of.result) (ap (map (λ x. x.now)) c.as_slice.ensures.value ∙ fields_are) c.line_of.ensures.line
