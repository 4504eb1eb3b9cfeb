-- The items of lines: of more lines, and what the headline says of all runs alike.
use Rattle.std.proofs.Common.{◌≡◌, ◌≢◌, ap, ◌⊎◌, inl, inr, true, false, List, [], ◌∷◌, ◌++◌}
use Rattle.vx_drivers.specs.declared.exit.Exit.{Exit}
use Rattle.vx_drivers.specs.declared.exit.Exit.TheVariants.{Done}
use Rattle.vx_drivers.specs.Exits.{is_cut}
use Rattle.vx_drivers.specs.Sending.{Text}
use Rattle.vx_cli.specs.Headline.{AreOfLines}

-- more lines may follow
pub of_more_lines : {A : Type 0} (IsRight : Text → A → Type 0) (lines more : List Text) (items : List A)
    → AreOfLines IsRight lines items → AreOfLines IsRight (lines ++ more) items
of_more_lines IsRight lines more [] h = tt
of_more_lines IsRight [] more (item ∷ items) h = absurd h
of_more_lines IsRight (line ∷ lines) more (item ∷ items) (right, h) = (right, of_more_lines IsRight lines more items h)

-- a run that is cut off is not done
pub cut_not_done : (exit : Exit) → is_cut exit ≡ true → exit ≢ Done
cut_not_done exit cut done =
    let whole : is_cut exit ≡ false = ap is_cut done in
    let no : ⊥ = cc in
    no

-- a last text that is nothing, or this one under a condition, is nothing or this one
pub last_either : {P : Type 0} (last text : Text) → (last ≡ []) ⊎ (P × (last ≡ text)) → (last ≡ []) ⊎ (last ≡ text)
last_either last text (inl none) = inl none
last_either last text (inr (h, is)) = inr is
