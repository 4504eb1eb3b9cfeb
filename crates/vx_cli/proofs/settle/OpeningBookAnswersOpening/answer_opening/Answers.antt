use Rattle.std.proofs.Common.{◌∙◌, ap, refl, ◌++◌}
use Rattle.vx_cli.specs.SettleText.{opening_certificate_text, opening_clock, opening_text}
use Rattle.vx_cli.proofs.SheetLemmas.{sheet_opened, time_kept}
use Rattle.vx_cli.proofs.settle.OpeningBookAnswersOpening.answer_opening.Goals as goal

pub returns : goal.returns
returns c = λ events stands lawful.
    let answer = c.in_ok-answer.answer in
    let time = c.opening_minute-time.result in
    sheet_opened events answer time c.push_opening_certificate.new.line.items c.push_opening.new.line.items _
    (c.opening_minute-time.ensures ∙ time_kept events c.args.self.now.book.opened stands.opened)
    (c.in_ok-answer.ensures.answer events stands) (c.in_ok-answer.ensures.lawful events stands lawful) (c.in_ok-answer.ensures.writable events stands lawful)
    c.in_ok-push_opening_certificate.ensures.read_back
    (c.in_ok-push_opening_certificate.ensures.text ∙ ap (λ t. t ++ opening_certificate_text answer) c.requires.certificate)
    (c.in_ok-push_opening.ensures ∙ ap (λ t. t ++ opening_text (opening_clock time) answer) c.requires.line)
    c.figure_of.ensures refl
