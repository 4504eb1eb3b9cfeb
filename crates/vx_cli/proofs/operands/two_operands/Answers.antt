use Rattle.std.proofs.Common.{rules, ◌≡◌, ◌≢◌, ◌∙◌, true, ap, refl, subst, sym, map, string_bytes, List, [], codes, option_map}
use Rattle.clap.proofs.WalkLemmas.{first_value-rows}
use Rattle.clap.specs.Words.{HasKind, app_of, first_of, is_simple, is_simple_and_free, matches_of, fault_of, found_of, rows_of, kind_of}
use Rattle.clap.specs.declared.error.kind.ErrorKind.TheVariants.{OutOfMemory}
use Rattle.clap.proofs.OnLiterals.{clap_on_literals}
use Rattle.vx_cli.specs.Operands.{two_operand_app}
use Rattle.vx_drivers.specs.Sending.{Text}
use Rattle.vx_cli.proofs.OperandLemmas.{taken-two, refused-two, texts-zip}
use Rattle.vx_cli.proofs.operands.two_operands.Goals as goal

simple : is_simple two_operand_app ≡ true
unfolding clap_on_literals
simple = refl

free : is_simple_and_free two_operand_app ≡ true
unfolding clap_on_literals
free = refl

pub returns-in-Ok-try_get_matches_from : goal.returns-in-Ok-try_get_matches_from
returns-in-Ok-try_get_matches_from c =
    let words : List Text = map string_bytes c.args.words.now in
    let line_is : app_of c.in-Ok.line ≡ two_operand_app = c.in-Ok.ensures in
    let parse = c.in-Ok-try_get_matches_from.ensures in
    let found = found_of c.in-Ok-try_get_matches_from.matches in
    let none : fault_of two_operand_app words ≡ [] =
    ap (λ app. fault_of app words) (sym line_is) ∙ parse.kinds (ap is_simple_and_free line_is ∙ free) in
    let rows_are : rows_of found ≡ matches_of two_operand_app words =
    (parse.matches (ap is_simple line_is ∙ simple)).0 ∙ ap (λ app. matches_of app words) line_is in
    let first_is = c.get_str.ensures ∙ first_value-rows found (codes "first") ∙ ap (first_of (codes "first")) rows_are in
    let second_is = c.get_str-in-Ok-try_get_matches_from.ensures ∙ first_value-rows found (codes "second")
    ∙ ap (first_of (codes "second")) rows_are in
    ap (option_map (λ p. (p.0.now, p.1.now))) c.zip.ensures
    ∙ texts-zip c.get_str.result c.get_str-in-Ok-try_get_matches_from.result _ _ first_is second_is
    ∙ taken-two words c.requires none

pub returns : goal.returns
returns c =
    let words : List Text = map string_bytes c.args.words.now in
    let line_is : app_of c.in-Ok.line ≡ two_operand_app = c.in-Ok.ensures in
    let error = c.in-Err-try_get_matches_from in
    let kinds : HasKind (fault_of two_operand_app words) error.error =
    subst (λ app. HasKind (fault_of app words) error.error) line_is
    (error.ensures.kinds (ap is_simple_and_free line_is ∙ free)) in
    let other : kind_of error.error ≢ OutOfMemory = λ full. search rules in
    refused-two words c.requires error.error other kinds
