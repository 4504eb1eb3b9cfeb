-- Events of which two causes hold, computed.
use Rattle.std.proofs.Common.{refl, arith}
use lib.Signed.{le_z_yes}
use Rattle.vx_clock.specs.Day.{IsDayInRange}
use Rattle.vx_feed.specs.Order.{AreLawful}
use Rattle.vx_days.specs.FeedExamples.{september_17}
use Rattle.vx_days.specs.OrderExamples.{ended_day, opened, HeaderAfterEnd, EarlyQuoteAfterEnd, OtherCountAfterEnd, EarlySecondOpening}

day_17 : IsDayInRange september_17
day_17 = (le_z_yes tt, le_z_yes tt)

ended_is_lawful : AreLawful ended_day
ended_is_lawful = (record { in_range = day_17; in_order = refl }, (record { in_range = omega arith; in_order = refl }, (record { in_range = omega arith; in_order = refl }, tt)))

opened_is_lawful : AreLawful opened
opened_is_lawful = (record { in_range = day_17; in_order = refl }, (record { in_range = omega arith; in_order = refl }, tt))

-- a second header after the end is told as not the first line
pub header_after_end : HeaderAfterEnd
header_after_end = record { lawful = ended_is_lawful; one_holds = refl; other_holds = refl; answered = refl }

-- an early quote after the end is told as after the end
pub early_quote_after_end : EarlyQuoteAfterEnd
early_quote_after_end = record { lawful = ended_is_lawful; one_holds = refl; other_holds = refl; answered = refl }

-- and so is a second end with another count
pub other_count_after_end : OtherCountAfterEnd
other_count_after_end = record { lawful = ended_is_lawful; one_holds = refl; other_holds = refl; answered = refl }

-- a second opening that is too early is told as back in time
pub early_second_opening : EarlySecondOpening
early_second_opening = record { lawful = opened_is_lawful; one_holds = refl; other_holds = refl; answered = refl }
