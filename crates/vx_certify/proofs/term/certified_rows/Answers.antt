-- At the end one of the two lists is used up, and nothing more is stated.
use Rattle.std.proofs.Common.{◌≡◌, ◌∙◌, ◌⊎◌, sym, ap, refl, List, [], ◌∷◌, ◌++◌, inl, inr}
use Rattle.std.proofs.lemmas.List.{append-nil}
use Rattle.std.proofs.lemmas.Slice.Zip.{either_empty_from_Zip}
use Rattle.std.specs.Iterator.Adapters.{zip_first, zip_second}
use Rattle.std.specs.Slice.Iter.{iter_rest}
use Rattle.vx_strip.specs.declared.strip.StripRow.{StripRow}
use Rattle.vx_sum.specs.declared.sum.SumRow.{SumRow}
use Rattle.vx_cert.specs.declared.rows.CertRow.{CertRow}
use Rattle.vx_certify.specs.Certified.{certified_rows}
use Rattle.vx_certify.proofs.term.certified_rows.Goals as goal

nothing_stated : (rows : List StripRow) (parts : List SumRow) → (rows ≡ []) ⊎ (parts ≡ []) → certified_rows rows parts ≡ []
nothing_stated rows parts (inl none) = ap (λ (l : List StripRow). certified_rows l parts) none
nothing_stated [] parts (inr none) = refl
nothing_stated (row ∷ rows) parts (inr none) = ap (λ (l : List SumRow). certified_rows (row ∷ rows) l) none

pub returns : goal.returns
returns c =
    let done = nothing_stated (iter_rest (zip_first c.loop-row.row-iterator)) (iter_rest (zip_second c.loop-row.row-iterator))
    (either_empty_from_Zip c.loop-row.row-iterator c.next.new.self c.next.result c.in-None.is c.next.ensures.steps) in
    sym (append-nil c.loop-row.stated) ∙ ap (λ (l : List CertRow). c.loop-row.stated ++ l) (sym done) ∙ c.loop-row.invariant
