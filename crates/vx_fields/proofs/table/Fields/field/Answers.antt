use Rattle.std.proofs.Common.{◌∙◌, ap, get_or, []}
use Rattle.csv.specs.Records.{fields_of}
use Rattle.vx_fields.proofs.BlockLines.{field_at-None, field_at-Some}
use Rattle.vx_fields.proofs.table.Fields.field.Goals as goal

pub unreachable-requires : goal.unreachable-requires
unreachable-requires c =
    let below = rw (← c.self.view_is) at c.requires in
    field_at-None (fields_of c.self.inside.row.now) c.args.i below c.in-None.ensures.value

pub returns : goal.returns
returns c = field_at-Some (fields_of c.self.inside.row.now) c.args.i c.in-Some.field.now c.in-Some.ensures.value ∙ ap (λ fields. get_or fields c.args.i []) c.self.view_is
