-- How the form of a command line goes by its first word.
use Rattle.std.proofs.Common.{◌≡◌, ap, true, false, List, ◌∷◌, None, sym, if◌then◌else◌}
use Rattle.std.specs.List.{list_all}
use Rattle.vx_drivers.specs.Sending.{Text}
use Rattle.vx_cli.specs.Words.{command_of, form_of, is_plain_word, named_form}
use Rattle.vx_cli.proofs.OperandLemmas.{and-right}

pub command-refused : (words : List Text) → list_all is_plain_word words ≡ false → None ≡ command_of words
command-refused words refused = sym (ap (λ b. if b then form_of words else None) refused)

pub plain-rest : (name : Text) (rest : List Text) → list_all is_plain_word (name ∷ rest) ≡ true
    → list_all is_plain_word rest ≡ true
plain-rest name rest plain = and-right (is_plain_word name) _ plain

pub command-plain : (name : Text) (rest : List Text) → list_all is_plain_word (name ∷ rest) ≡ true
    → command_of (name ∷ rest) ≡ named_form name rest
command-plain name rest plain = ap (λ b. if b then form_of (name ∷ rest) else None) plain
