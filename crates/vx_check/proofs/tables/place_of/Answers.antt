use Rattle.std.proofs.Common.{◌≡◌, ℕ, Option, None, sym, subst}
use Rattle.std.specs.Prelude.{MatchOption, find}
use Rattle.vx_check.specs.Kept.{is_table_of}
use Rattle.vx_check.specs.Tables.{IsFirstAt}
use Rattle.vx_check.proofs.TableLists.{first_from_position}
use Rattle.vx_check.proofs.tables.place_of.Goals as goal

pub returns-clause-first : goal.returns-clause-first
returns-clause-first c =
    let test = is_table_of c.args.expiry in
    let tables = c.args.tables.now in
    let First : Option ℕ → Type 0 = λ place. MatchOption place (find test tables ≡ None) (λ n. IsFirstAt test n tables) in
    subst First (sym c.position_of.ensures) (first_from_position test tables)
