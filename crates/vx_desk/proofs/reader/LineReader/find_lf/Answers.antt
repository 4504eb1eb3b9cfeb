use Rattle.std.proofs.Common.{◌≡◌, List, ℕ, sym, ◌∙◌, ap, Some, None}
use Rattle.std.specs.Prelude.{slice_range}
use Rattle.vx_desk.specs.Lines.{ReaderState}
use Rattle.vx_desk.proofs.ReaderLemmas.{first_lf_of_part}
use Rattle.vx_desk.proofs.reader.LineReader.find_lf.Goals as goal

pub returns : goal.returns
returns c =
    let waits : c.args.self.now.waiting ≡ slice_range c.deref.result.now c.self.inside.start c.self.inside.end =
    ap (λ (s : ReaderState). s.waiting) (sym c.self.view_is) ∙ ap (λ (xs : List ℕ). slice_range xs c.self.inside.start c.self.inside.end) (sym c.deref.ensures.value) in
    first_lf_of_part c.args.self.now.waiting c.deref.result.now c.self.inside.start c.args.searched c.self.inside.end (Some c.in_ok-at.at) waits c.self.invariant.1 c.requires.within c.requires.passed c.in_ok-at.ensures

pub returns-in_err-at : goal.returns-in_err-at
returns-in_err-at c =
    let waits : c.args.self.now.waiting ≡ slice_range c.deref.result.now c.self.inside.start c.self.inside.end =
    ap (λ (s : ReaderState). s.waiting) (sym c.self.view_is) ∙ ap (λ (xs : List ℕ). slice_range xs c.self.inside.start c.self.inside.end) (sym c.deref.ensures.value) in
    rw c.from_residual.ensures (first_lf_of_part c.args.self.now.waiting c.deref.result.now c.self.inside.start c.args.searched c.self.inside.end None waits c.self.invariant.1 c.requires.within c.requires.passed c.in_err-at.ensures)
