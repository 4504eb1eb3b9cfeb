use Rattle.vx_cert.specs.Written.{certificate_data}
use Rattle.vx_cert.proofs.WrittenLength.{line_is_short}
use Rattle.vx_cert.proofs.WrittenLine.{value_visible}
use Rattle.vx_cert.proofs.write.write_cert.Goals as goal

pub returns-clause-value : goal.returns-clause-value
returns-clause-value c = c.in_ok-line.ensures.value

pub returns-clause-read_back : goal.returns-clause-read_back
returns-clause-read_back c = (certificate_data c.args.c.now, c.in_ok-line.ensures.value, c.in_ok-line.ensures.read_back.read_back)

pub returns-clause-one_line : goal.returns-clause-one_line
returns-clause-one_line c = value_visible (certificate_data c.args.c.now)

pub returns-clause-short : goal.returns-clause-short
returns-clause-short c = line_is_short c.args.c.now c.requires c.in_ok-line.ensures.read_back
