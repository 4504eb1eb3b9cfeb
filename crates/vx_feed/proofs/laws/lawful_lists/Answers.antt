use Rattle.vx_feed.proofs.EndLaws.{end_is_last}
use Rattle.vx_feed.proofs.LawfulLists.{leading_parts_are_lawful, one_more_is_lawful}
use Rattle.vx_feed.proofs.laws.lawful_lists.Goals as goal

pub returns : goal.returns
returns c = record { leading = leading_parts_are_lawful; one_more = one_more_is_lawful; end = end_is_last }
