use Rattle.std.proofs.Common.{[], ◌∷◌, ◌++◌, ap, ◌∙◌}
use Rattle.vx_make.proofs.LineLemmas.{tick_parts}
use Rattle.vx_make.proofs.line.put_tick_line.Goals as goal

pub returns-clause-written : goal.returns-clause-written
returns-clause-written c =
    let minute = c.put_all-minute.ensures.written ∙ ap (λ t. c.write_clock.result ++ t) c.put-end.ensures.written ∙ ap (λ t. t ++ 10 ∷ []) c.write_clock.ensures in
    let comma = c.put-comma.ensures.written ∙ ap (λ t. 44 ∷ t) minute in
    let line = c.put-start.ensures.written ∙ ap (λ t. 86 ∷ t) comma ∙ tick_parts c.args.time in
    c.append.ensures.written ∙ ap (λ t. c.args.out.now.items ++ t) (c.written.ensures ∙ line)
