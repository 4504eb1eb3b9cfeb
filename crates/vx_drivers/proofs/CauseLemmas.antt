-- The causes of a bad feed line, by the words of a feed's text.
use Rattle.std.proofs.Common.{◌≡◌, ◌∙◌, sym, ap, refl}
use Rattle.vx_feed.specs.Feed.{BadCause, missing_end, no_eol, of_fault, too_long}
use Rattle.vx_reading.specs.declared.stop.FeedCause.{FeedCause}
use Rattle.vx_reading.specs.declared.stop.FeedCause.TheVariants as cause
use Rattle.vx_reading.specs.Stops.{bad_cause}

-- each such word is that of a cause
abbrev named : BadCause → FeedCause
named (of_fault fault) = cause.Event fault
named too_long = cause.TooLong
named no_eol = cause.NoEol
named missing_end = cause.MissingEnd

named-cause : (why : FeedCause) → named (bad_cause why) ≡ why
named-cause (cause.Event fault) = refl
named-cause cause.TooLong = refl
named-cause cause.NoEol = refl
named-cause cause.MissingEnd = refl

-- which there is
pub cause_of : (word : BadCause) → (why : FeedCause) × (word ≡ bad_cause why)
cause_of (of_fault fault) = (cause.Event fault, refl)
cause_of too_long = (cause.TooLong, refl)
cause_of no_eol = (cause.NoEol, refl)
cause_of missing_end = (cause.MissingEnd, refl)

-- and which is one
pub cause_one : (a b : FeedCause) → bad_cause a ≡ bad_cause b → a ≡ b
cause_one a b same = sym (named-cause a) ∙ ap named same ∙ named-cause b
