use Rattle.std.proofs.Common.{◌∙◌, sym, ap, take, true, arith}
use Rattle.vx_fields.proofs.TextLemmas.{head_size, head_whole, size_done, size_ends}
use Rattle.vx_fields.proofs.line.plain_end.Goals as goal

pub returns-then-not-may_follow-clause-head : goal.returns-then-not-may_follow-clause-head
returns-then-not-may_follow-clause-head c =
    let text = c.args.text.now in
    let ends = size_ends text c.loop-at.at c.loop-at.end c.loop-at.after_lf (head_size true 0 text) (omega (arith, c.loop-at-test.true)) c.loop-at.invariant.size
    (sym c.may_follow.ensures ∙ c.if-not-may_follow.true) in
    ap (λ n. take n text) ends ∙ head_whole text c.requires.whole

pub returns-clause-head : goal.returns-clause-head
returns-clause-head c =
    let text = c.args.text.now in
    ap (λ n. take n text) (size_done text c.loop-at.at c.loop-at.end c.loop-at.after_lf (head_size true 0 text) (omega (arith, c.loop-at-test.false)) c.loop-at.invariant.size)
    ∙ head_whole text c.requires.whole
