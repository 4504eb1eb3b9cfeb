use Rattle.std.proofs.Common.{rules, ◌≡◌, ◌∙◌, [], ◌∷◌, ◌++◌, codes}
use Rattle.std.specs.Prelude.{OnOk}
use Rattle.vx_cli.specs.OutputLines.{index_end_text, line_of}
use Rattle.vx_cli.specs.SettleText.{opening_clock}
use Rattle.vx_cli.proofs.LineLemmas.{line_more, on_ok}
use Rattle.vx_cli.proofs.settle_lines.push_undecided_cents.Goals as goal

pub returns : goal.returns
returns c =
    let ends : OnOk c.push_index_ends.result (c.push_index_ends.new.line.items ≡ c.push_undecided.new.line.items ++ 44 ∷ line_of (index_end_text c.args.lo ∷ index_end_text c.args.hi ∷ [])) =
    search rules in
    on_ok c.push_index_ends.result
    (λ same. same ∙ line_more c.args.line.now.items c.push_undecided.new.line.items (codes "UND") (opening_clock c.args.time ∷ codes "soq" ∷ codes "cents" ∷ [])
    (index_end_text c.args.lo) (index_end_text c.args.hi ∷ []) c.in_ok-push_undecided.ensures) ends
