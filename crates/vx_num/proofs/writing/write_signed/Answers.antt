-- What is written is read back.
use Rattle.vx_num.proofs.ReadBack.{read_back_signed}
use Rattle.vx_num.proofs.writing.write_signed.Goals as goal

pub returns-clause-read_back : goal.returns-clause-read_back
returns-clause-read_back c = read_back_signed c.args.value c.args.places

pub returns-in_err-extend_from_slice-clause-read_back : goal.returns-in_err-extend_from_slice-clause-read_back
returns-in_err-extend_from_slice-clause-read_back c = read_back_signed c.args.value c.args.places
