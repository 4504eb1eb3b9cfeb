use Rattle.std.proofs.Common.{List, ℕ, ◌+◌, ◌-◌, ◌≤◌, ◌^◌, sym, ◌∙◌, ap, drop, refl}
use Rattle.std.specs.Prelude.{min}
use Rattle.vx_desk.specs.Lines.{ReaderState}
use Rattle.vx_desk.proofs.ReaderLemmas.{drop-slice_range, same_state, slice_range-fits}
use Rattle.vx_desk.proofs.reader.LineReader.pass.Goals as goal

pub returns : goal.returns
returns c =
    let is = c.self.view_is in
    let items : List ℕ = c.self.inside.buffer.items in
    let waits = ap (λ (s : ReaderState). s.waiting) is in
    let fits : c.self.inside.start + c.args.size ≤ c.self.inside.end =
    slice_range-fits c.self.inside.start c.args.size c.self.inside.end items c.args.self.now.waiting (sym waits) c.requires.within c.self.invariant.1 in
    same_state _ _
    (ap (λ (s : ReaderState). s.slot) is)
    (ap (λ (s : ReaderState). s.limit) is)
    (drop-slice_range items c.self.inside.start c.args.size c.self.inside.end fits ∙ ap (drop c.args.size) waits)
    (c.saturating_add-self-inside.ensures ∙ ap (λ (s : ReaderState). min (s.number + c.args.lines) (2 ^ 64 - 1)) is)
    (ap (λ (s : ReaderState). s.is_ended) is)
    refl
    refl
