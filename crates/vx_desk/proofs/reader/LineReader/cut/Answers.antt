use Rattle.std.proofs.Common.{List, ℕ, ◌≡◌, ◌+◌, ◌-◌, ◌≤◌, sym, ◌∙◌, ap, take, drop, refl, arith, add_assoc}
use Rattle.std.specs.Prelude.{slice_range}
use Rattle.vx_desk.specs.Lines.{ReaderState, next_number}
use Rattle.vx_desk.proofs.ReaderLemmas.{drop-slice_range, take-slice_range, same_state, slice_range-fits}
use Rattle.vx_desk.proofs.reader.LineReader.cut.Goals as goal

pub returns : goal.returns
returns c =
    let is = c.self.view_is in
    let items : List ℕ = c.self.inside.buffer.items in
    let start : ℕ = c.self.inside.start in
    let end : ℕ = c.self.inside.end in
    let size : ℕ = c.args.length in
    let waits = ap (λ (s : ReaderState). s.waiting) is in
    let fits : start + (size + 1) ≤ end =
    slice_range-fits start (size + 1) end items c.args.self.now.waiting (sym waits) (omega (arith, c.requires.found.within)) c.self.invariant.1 in
    let same : (start + size) - start ≡ size = omega arith in
    let number = c.saturating_add.ensures ∙ ap (λ (s : ReaderState). next_number s.number) is in
    record {
      cuts = record {
        fits = let e = ap (λ (s : ReaderState). s.limit) is in omega (arith, c.if-length-self.false, e);
        numbered = number;
        size = refl;
        state = same_state _ _
            (ap (λ (s : ReaderState). s.slot) is)
            (ap (λ (s : ReaderState). s.limit) is)
            (ap (λ (m : ℕ). slice_range items m end) (add_assoc start size 1) ∙ (drop-slice_range items start (size + 1) end fits ∙ ap (drop (size + 1)) waits))
            number
            (ap (λ (s : ReaderState). s.is_ended) is)
            refl
            (ap (λ (m : ℕ). slice_range items start (start + m)) same ∙ (take-slice_range items start size end (omega (arith, fits)) ∙ ap (take size) waits));
      };
    }
