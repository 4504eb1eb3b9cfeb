use Rattle.vx_cli.proofs.JudgeLemmas.{said_no_is, said_yes_is}
use Rattle.vx_cli.proofs.check.CheckerAnswersCertificates.judge.Goals as goal

pub returns-in_ok-push_yes-in-Yes : goal.returns-in_ok-push_yes-in-Yes
returns-in_ok-push_yes-in-Yes c = λ events stands lawful few.
    let certificate = c.args.certificate.now in
    said_yes_is events certificate c.push_yes.new.words.items c.args.words.now.items c.check_cert.result c.requires.read.0
    c.requires.read.1 (c.check_cert.ensures.answer events stands lawful few) (c.check_cert.ensures.sound events stands lawful few) c.in-Yes.is c.requires.empty
    c.in_ok-push_yes-in-Yes.ensures

pub returns-in_ok-push_test-in-No : goal.returns-in_ok-push_test-in-No
returns-in_ok-push_test-in-No c = λ events stands lawful few.
    let certificate = c.args.certificate.now in
    said_no_is events certificate c.push_test.new.words.items c.args.words.now.items c.check_cert.result c.in-No.test
    (c.check_cert.ensures.answer events stands lawful few) c.in-No.is c.requires.empty c.in_ok-push_test-in-No.ensures
