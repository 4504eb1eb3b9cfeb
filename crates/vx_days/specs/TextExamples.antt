-- The text of the first sample feed, and that it is read as the worked day's events.
use Rattle.std.specs.Prelude.{◌≡◌, ℕ, List, [], ◌∷◌, None, codes}
use Rattle.vx_lines.specs.TextLines.{text_of}
use Rattle.vx_feed.specs.Feed.{reading_of, IsLawfulFeed}
use Rattle.vx_days.specs.FeedExamples.{sample_feed}

-- its lines, as they stand in examples/feed-a.txt
abbrev pub sample_lines : List (List ℕ)
sample_lines =
    codes "H,1,2014-09-17"
    ∷ codes "E,SPX,2014-10-17"
    ∷ codes "R,SPX,2014-10-17,0"
    ∷ codes "S,SPX   141017C01900000"
    ∷ codes "S,SPX   141017P01900000"
    ∷ codes "S,SPX   141017C02000000"
    ∷ codes "S,SPX   141017P02000000"
    ∷ codes "S,SPX   141017C02100000"
    ∷ codes "S,SPX   141017P02100000"
    ∷ codes "Q,08:30,SPX   141017P01900000,10.00,10.00"
    ∷ codes "Q,08:30,SPX   141017C02000000,50.00,50.00"
    ∷ codes "Q,08:30,SPX   141017P02000000,50.00,50.00"
    ∷ codes "Q,08:30,SPX   141017C02100000,10.00,10.00"
    ∷ codes "V,08:30"
    ∷ codes "END,13"
    ∷ []

-- each line says its event, and no line is bad
abbrev pub SampleTextIsRead : Type 0
SampleTextIsRead = reading_of (text_of sample_lines) ≡ record { events = sample_feed; bad = None }

-- so the text is a lawful feed
abbrev pub SampleTextIsLawful : Type 0
SampleTextIsLawful = IsLawfulFeed (text_of sample_lines)
