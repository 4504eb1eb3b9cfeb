-- The command lines of two and of three words that `clap` is told to read.
use Rattle.std.specs.Prelude.{true, codes, Option, Some, None}
use Rattle.clap.specs.Words.{App, Rule, new_app, new_rule, with_rule}

abbrev pub required_word : Rule → Rule
required_word rule = record rule { required = true }

abbrev pub bare_operands : App
bare_operands = let app = new_app (codes "operands") in record app {
  top = record app.top { no_binary_name = true; disable_help_flag = true };
}

abbrev pub two_operand_app : App
two_operand_app = with_rule (with_rule bare_operands (required_word (new_rule (codes "first"))))
    (required_word (new_rule (codes "second")))

abbrev pub three_operand_app : App
three_operand_app = with_rule two_operand_app (required_word (new_rule (codes "third")))

-- three values, where there are all of them
abbrev pub all_three : {A : Type 0} → Option A → Option A → Option A → Option (A × A × A)
all_three (Some x) (Some y) (Some z) = Some (x, y, z)
all_three (Some x) (Some y) None = None
all_three (Some x) None third = None
all_three None second third = None
