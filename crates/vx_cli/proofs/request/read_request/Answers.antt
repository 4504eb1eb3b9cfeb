use Rattle.std.proofs.Common.{rules, ◌≡◌, ◌∙◌, ap, true, false, IfOk, map, option_map, string_bytes, List, ◌∷◌, sym, subst}
use Rattle.std.proofs.lemmas.List.Folds.{list_all-map}
use Rattle.std.specs.List.{list_all}
use Rattle.vx_drivers.specs.Sending.{Text}
use Rattle.vx_cli.specs.Requests.{asked}
use Rattle.vx_cli.specs.Words.{command_of, is_plain_word, named_form}
use Rattle.vx_cli.proofs.RequestLemmas.{command-refused, command-plain, plain-rest}
use Rattle.vx_cli.proofs.request.read_request.Goals as goal

pub returns-then-not-are_plain-clause-asked : goal.returns-then-not-are_plain-clause-asked
returns-then-not-are_plain-clause-asked c =
    let words : List Text = map string_bytes c.args.words.now in
    let refused : c.are_plain.result ≡ false = search rules in
    command-refused words (list_all-map is_plain_word string_bytes c.args.words.now ∙ sym c.are_plain.ensures ∙ refused)

pub read_operands-requires : goal.read_operands-requires
read_operands-requires c =
    let words_are : c.args.words.now ≡ c.in-Some.name.now ∷ c.in-Some.operands.now = c.in-Some.ensures.cases.0 in
    let plain : c.are_plain.result ≡ true = search rules in
    plain-rest (string_bytes c.in-Some.name.now) (map string_bytes c.in-Some.operands.now)
    (ap (λ words. list_all is_plain_word (map string_bytes words)) (sym words_are)
    ∙ list_all-map is_plain_word string_bytes c.args.words.now ∙ sym c.are_plain.ensures ∙ plain)

pub returns-clause-asked : goal.returns-clause-asked
returns-clause-asked c =
    let name : Text = string_bytes c.in-Some.name.now in
    let rest : List Text = map string_bytes c.in-Some.operands.now in
    let words_are : c.args.words.now ≡ c.in-Some.name.now ∷ c.in-Some.operands.now = c.in-Some.ensures.cases.0 in
    let plain : c.are_plain.result ≡ true = search rules in
    let named : list_all is_plain_word (name ∷ rest) ≡ true =
    ap (λ words. list_all is_plain_word (map string_bytes words)) (sym words_are)
    ∙ list_all-map is_plain_word string_bytes c.args.words.now ∙ sym c.are_plain.ensures ∙ plain in
    let form : named_form c.as_str.result.now rest ≡ command_of (map string_bytes c.args.words.now) =
    ap (λ text. named_form text rest) c.as_str.ensures.value
    ∙ sym (command-plain name rest named) ∙ ap (λ words. command_of (map string_bytes words)) (sym words_are) in
    subst (λ command. IfOk c.read_operands.result (λ r. option_map asked r ≡ command)) form c.read_operands.ensures.asked
