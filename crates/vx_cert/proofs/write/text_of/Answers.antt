use Rattle.std.proofs.Common.{subst, ap, ◌∙◌}
use Rattle.std.specs.Prelude.{IsUtf8, string_bytes}
use Rattle.std.proofs.lemmas.Str.{IsUtf8-string_bytes}
use Rattle.serde_json.proofs.FreeTexts.{text_of_value}
use Rattle.vx_cert.specs.Written.{certificate_data}
use Rattle.vx_cert.proofs.WrittenData.{certificate_has_no_float}
use Rattle.vx_cert.proofs.WrittenRead.{written_line_is_read}
use Rattle.vx_cert.proofs.write.text_of.Goals as goal

pub returns-in-Ok-clause-text : goal.returns-in-Ok-clause-text
returns-in-Ok-clause-text c =
    let sent = c.in-Ok.ensures.events in
    ap (λ bytes. bytes.items) c.into_bytes.ensures.value
    ∙ text_of_value (certificate_data c.args.c.now) sent.0 (string_bytes c.in-Ok.text) sent.1.0 sent.2 (certificate_has_no_float c.args.c.now)

pub returns-in-Ok-clause-value : goal.returns-in-Ok-clause-value
returns-in-Ok-clause-value c =
    let sent = c.in-Ok.ensures.events in
    let is = text_of_value (certificate_data c.args.c.now) sent.0 (string_bytes c.in-Ok.text) sent.1.0 sent.2 (certificate_has_no_float c.args.c.now) in
    (subst IsUtf8 is (IsUtf8-string_bytes c.in-Ok.text), written_line_is_read c.args.c.now c.requires (sent.1.1 c.requires))

pub returns-in-Ok-clause-read_back : goal.returns-in-Ok-clause-read_back
returns-in-Ok-clause-read_back c = c.in-Ok.ensures.events.1.1 c.requires
