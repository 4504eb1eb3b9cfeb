use Rattle.vx_feed.proofs.NextRows.{next_strikes_listed, next_rows, next_rows_listed}
use Rattle.vx_feed.proofs.laws.next_rows.Goals as goal

pub returns : goal.returns
returns c = record { strikes = next_strikes_listed; rows = next_rows; listed = next_rows_listed }
