use Rattle.std.proofs.Common.{◌≡◌, true, false, sym, ◌∙◌, ◌<◌, ◌+◌, length, [], refl, arith, inr, ap, Some, drop, get_or}
use Rattle.csv.specs.Reading.{builder_config, builder_trim, builder_is_flexible, builder_names_headers, strip_bom}
use Rattle.csv.specs.Records.{fields_of}
use Rattle.vx_fields.specs.Lines.{lines_in, text_of}
use Rattle.vx_fields.proofs.CsvLines.{strip_plain}
use Rattle.vx_fields.proofs.CsvReader.{text_at, plain_at, next_row, read_line}
use Rattle.vx_fields.proofs.table.read_rows.Goals as goal

pub loop-i-init : goal.loop-i-init
loop-i-init c =
    let made = c.from_reader-reader.ensures in
    record {
      so_far = refl;
      left = record {
        config = made.config ∙ ap builder_config c.flexible.ensures ∙ ap builder_config c.has_headers.ensures ∙ c.new.ensures.config;
        trims = made.trim ∙ ap builder_trim c.flexible.ensures ∙ ap builder_trim c.has_headers.ensures ∙ c.new.ensures.trim;
        flexible = made.flexible ∙ ap builder_is_flexible c.flexible.ensures;
        state = made.state;
        ready = inr (inr (made.has_headers ∙ ap builder_names_headers c.flexible.ensures ∙ ap builder_names_headers c.has_headers.ensures, made.headers));
        working = made.fresh;
        source = made.source ∙ ap Some (ap strip_bom c.requires.whole ∙ strip_plain (lines_in c.args.text.now) c.requires.plain);
      };
    }

pub loop-i-preserved : goal.loop-i-preserved
loop-i-preserved c =
    let below : c.loop-i.i < length (lines_in c.args.text.now) = omega arith in
    let in_rows : c.loop-i.i < length c.loop-i.rows = omega arith in
    let left = rw (text_at (lines_in c.args.text.now) c.loop-i.i below) at c.loop-i.invariant.left in
    let got = read_line c.loop-i.reader c.read_byte_record.new.self (get_or (lines_in c.args.text.now) c.loop-i.i []) (text_of (drop (c.loop-i.i + 1) (lines_in c.args.text.now))) c.in-Ok-true.field-0 (fields_of c.read_byte_record.new.row) left (plain_at (lines_in c.args.text.now) c.loop-i.i c.requires.plain below)
    (c.in-Ok-true.ensures.reads left.trims left.ready) (c.in-Ok-true.ensures.ready left.trims) c.in-Ok-true.ensures.goes c.in-Ok-true.ensures.flexible in
    record {
      so_far = next_row (lines_in c.args.text.now) c.loop-i.rows c.read_byte_record.new.row c.loop-i.i below in_rows c.loop-i.invariant.so_far got.1;
      left = got.2;
    }

pub unreachable-requires : goal.unreachable-requires
unreachable-requires c =
    let below : c.loop-i.i < length (lines_in c.args.text.now) = omega arith in
    let left = rw (text_at (lines_in c.args.text.now) c.loop-i.i below) at c.loop-i.invariant.left in
    let got = read_line c.loop-i.reader c.read_byte_record.new.self (get_or (lines_in c.args.text.now) c.loop-i.i []) (text_of (drop (c.loop-i.i + 1) (lines_in c.args.text.now))) c.in-Ok-false.field-0 (fields_of c.read_byte_record.new.row) left (plain_at (lines_in c.args.text.now) c.loop-i.i c.requires.plain below)
    (c.in-Ok-false.ensures.reads left.trims left.ready) (c.in-Ok-false.ensures.ready left.trims) c.in-Ok-false.ensures.goes c.in-Ok-false.ensures.flexible in
    let clash : true ≡ false = sym got.0 ∙ c.in-Ok-false.field-0-test in cc
