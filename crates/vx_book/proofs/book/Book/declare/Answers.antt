use Rattle.std.proofs.Common.{◌≡◌, ◌∙◌, ap, not, true, ◌++◌, ◌∷◌, []}
use Rattle.std.specs.Prelude.{is_ok}
use Rattle.vx_book.proofs.NextBook.{stands_declared}
use Rattle.vx_book.proofs.book.Book.declare.Goals as goal

pub returns-clause-taken : goal.returns-clause-taken
returns-clause-taken c =
    let old = c.args.self.now in
    let done : is_ok c.push-2.result ≡ true = c.is_err.ensures.negation ∙ ap not c.if-is_err.false in
    let expiries : c.push-2.new.self.items ≡ old.expiries.items ++ c.args.expiry ∷ [] = rw done at c.push-2.ensures.items in
    stands_declared old (record old { expiries = c.push-2.new.self; tables = c.push.new.self }) c.args.expiry c.requires
    (record {
      table = c.new.result;
      rate = c.new.ensures.rate;
      rows = c.new.ensures.rows;
      places = c.new.ensures.places;
      expiries = expiries;
      tables = c.in_ok-push.ensures.items;
    })
