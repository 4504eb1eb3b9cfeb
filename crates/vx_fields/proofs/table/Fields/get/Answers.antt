use Rattle.std.proofs.Common.{◌∙◌, ap}
use Rattle.csv.specs.Records.{fields_of}
use Rattle.std.specs.List.{slice_get}
use Rattle.vx_fields.proofs.BlockLines.{field_at-get}
use Rattle.vx_fields.proofs.table.Fields.get.Goals as goal

pub returns : goal.returns
returns c = c.get.ensures.value ∙ field_at-get (fields_of c.self.inside.row.now) c.args.i ∙ ap (λ fields. slice_get fields c.args.i) c.self.view_is
