-- A minus sign in front is taken off, and what stands behind it is a number without one.
use Rattle.std.proofs.Common.{◌∙◌, ap, refl}
use Rattle.std.proofs.Math.Dec.{lit<}
use Rattle.std.proofs.lemmas.Str.Pattern.{strip_prefix_char}
use Rattle.vixplot.specs.Lines as spec
use Rattle.vixplot.proofs.LineLemmas.{unsigned_of}
use Rattle.vixplot.proofs.line.is_number.Goals as goal

pub returns : goal.returns
returns c =
    let behind = strip_prefix_char 45 c.args.text.now c.strip_prefix.result c.strip_prefix.ensures.cases (lit< tt) in
    let unsigned = unsigned_of c.args.text.now c.strip_prefix.result c.args.text refl behind in
    c.is_unsigned.ensures ∙ ap (spec.is_unsigned c.args.places) (ap (λ x. x.now) c.unwrap_or.ensures ∙ unsigned)
