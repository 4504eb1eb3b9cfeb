-- Texts that are sent one after another.
use Rattle.std.proofs.Common.{◌≡◌, ◌∙◌, sym, ap, refl, ℕ, List, [], ◌++◌, Option, Some, None, append_assoc, append-nil}
use Rattle.std.specs.Io.KnownBytes.{append_known}
use Rattle.vx_desk.specs.Told.{Told}
use Rattle.vx_drivers.specs.Sending.{Sent, Text}

known_more : (known : Option (List ℕ)) (first second : Text) → append_known (append_known known first) second ≡ append_known known (first ++ second)
known_more None first second = refl
known_more (Some bytes) first second = ap (λ t. Some t) (append_assoc bytes first second)

known_none : (known : Option (List ℕ)) → known ≡ append_known known []
known_none None = refl
known_none (Some bytes) = ap (λ t. Some t) (sym (append-nil bytes))

-- one text, then another
pub sent_more : (first second : Text) (before between after : Told) → Sent first before between → Sent second between after → Sent (first ++ second) before after
sent_more first second before between after h k = k ∙ ap (λ b. append_known b second) h ∙ known_more before.sent first second

-- nothing
pub sent_none : (before after : Told) → after ≡ before → Sent [] before after
sent_none before after same = ap (λ (t : Told). t.sent) same ∙ known_none before.sent

-- and nothing more
pub sent_still : (text : Text) (before between after : Told) → Sent text before between → after ≡ between → Sent text before after
sent_still text before between after h same = ap (λ (t : Told). t.sent) same ∙ h
