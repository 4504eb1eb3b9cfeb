-- The lawful prefix of a text, and its bad line.
use Rattle.std.specs.Prelude.{◌≡◌, ℕ, ◌+◌, List, length, Some}
use Rattle.vx_feed.specs.Feed.{BadLine, lawful_prefix, bad_line, IsLawfulFeed}
use Rattle.vx_feed.specs.NextEvents.{EndWithCount}
use Rattle.vx_feed.specs.Order.{AreLawful}

-- the lawful prefix of every text is lawful
abbrev pub PrefixIsLawful : Type 0
PrefixIsLawful = (text : List ℕ) → AreLawful (lawful_prefix text)

-- a text's bad line is the one after its lawful prefix
abbrev pub BadLineFollowsPrefix : Type 0
BadLineFollowsPrefix = (text : List ℕ) (bad : BadLine) → bad_line text ≡ Some bad → bad.line ≡ length (lawful_prefix text) + 1

-- the events of a lawful feed are lawful, and end with an END, the only one
abbrev pub LawfulFeedEnds : Type 0
LawfulFeedEnds = (text : List ℕ) → IsLawfulFeed text → AreLawful (lawful_prefix text) × EndWithCount (lawful_prefix text)
