-- Each part of the law is a lemma of its own.
use Rattle.vx_days.proofs.OrderExamples.{header_after_end, early_quote_after_end, other_count_after_end, early_second_opening}
use Rattle.vx_days.proofs.orders.order_decides.Goals as goal

pub returns : goal.returns
returns c = record {
  header_after_end = header_after_end;
  early_quote_after_end = early_quote_after_end;
  other_count_after_end = other_count_after_end;
  early_second_opening = early_second_opening;
}
