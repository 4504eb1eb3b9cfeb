-- The text of a quote's first field names a quote.
use Rattle.std.proofs.Common.{◌≡◌, ℕ, true, List, codes, subst, sym, ◌∙◌, refl}
use Rattle.std.specs.Prelude.{bytes_eq, Some}
use Rattle.std.proofs.lemmas.Slice.Eq.{bytes_eq-Decides}
use Rattle.vx_feed.specs.Form.{kind_of_text}
use Rattle.vx_feed.specs.declared.kinds.Kind.TheVariants as kind
use Rattle.vx_feed.proofs.form.is_quote.Goals as goal

-- a text that is this one names a quote
names_quote : (text : List ℕ) → bytes_eq text (codes "Q") ≡ true → kind_of_text text ≡ Some kind.Quote
names_quote text h =
    let same : text ≡ codes "Q" = (bytes_eq-Decides text (codes "Q")).0 h in
    subst (λ (t : List ℕ). kind_of_text t ≡ Some kind.Quote) (sym same) refl

pub returns : goal.returns
returns c = λ yes. names_quote c.args.text.now (sym (rw c.as_slice.ensures at c.eq.ensures) ∙ yes)
