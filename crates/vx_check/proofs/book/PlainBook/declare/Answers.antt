use Rattle.std.proofs.Common.{◌≡◌, ◌++◌, ◌∷◌, [], ap, refl, true, rules}
use Rattle.std.specs.Prelude.{is_ok}
use Rattle.vx_check.proofs.book.PlainBook.declare.Goals as goal

pub returns-clause-taken : goal.returns-clause-taken
returns-clause-taken c =
    let done : is_ok c.push.result ≡ true = ap is_ok c.in_ok-push.was in
    let items : c.push.new.self.items ≡ c.args.self.now.tables.items ++ c.new.result ∷ [] = rw done at c.push.ensures.items in
    record {
      lines = refl;
      day = refl;
      expiries = search rules;
      tables = record { table = c.new.result; is_empty = c.new.ensures; added = items };
      opening = refl;
    }
