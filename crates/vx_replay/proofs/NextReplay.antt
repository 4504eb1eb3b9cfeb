-- A replay after one more event.
use Rattle.std.proofs.Common.{◌≡◌, ◌∙◌, sym, ap, List, [], ◌∷◌, ◌++◌, length, Some, None, arith}
use Rattle.std.specs.Prelude.{Result, Ok, Err, OnErr}
use Rattle.std.specs.Option.{option_to_list}
use Rattle.std.proofs.lemmas.List.{append-nil, length-append}
use Rattle.vx_clock.specs.declared.terms.Expiry.{Expiry}
use Rattle.vx_feed.specs.declared.events.Event.{Event}
use Rattle.vx_feed.specs.Listed.{declared_expiry, declared_expiries}
use Rattle.vx_feed.proofs.LawfulLists.{lawful_with_one_more}
use Rattle.vx_feed.proofs.NextEvent.{next_declared}
use Rattle.vx_book.specs.StandsFor.{Applies, StandsStill}
use Rattle.vx_replay.specs.declared.replay.Replay.{Replay}
use Rattle.vx_replay.specs.StandsFor.{Steps, ReplayStandsStill}
use Rattle.vx_replay.specs.StripsAfter.{Holding}

module _ (old new : Replay) (e : Event) (applies : Applies old.book e new.book) where
  declared_same : (events : List Event) → declared_expiry e ≡ None → declared_expiries (events ++ e ∷ []) ≡ declared_expiries events
  declared_same events none = next_declared events e ∙ ap (λ o. declared_expiries events ++ option_to_list o) none ∙ append-nil (declared_expiries events)

  -- an event that declares no expiry leaves as many strips
  pub steps_undeclared : declared_expiry e ≡ None → length new.kept.items ≡ length old.kept.items → Steps old e new
  steps_undeclared none same events h next = record {
    lawful = lawful_with_one_more events e h.lawful next;
    book = applies events h.book;
    strips = same ∙ h.strips ∙ sym (ap (λ (l : List Expiry). length l) (declared_same events none));
  }

  -- one that declares an expiry leaves one more
  pub steps_declared : (x : Expiry) → declared_expiry e ≡ Some x → (strip : Holding) → new.kept.items ≡ old.kept.items ++ strip ∷ [] → Steps old e new
  steps_declared x one strip more events h next =
      let strips = ap (λ (l : List Holding). length l) more ∙ length-append old.kept.items (strip ∷ []) in
      let declared = ap (λ (l : List Expiry). length l) (next_declared events e ∙ ap (λ o. declared_expiries events ++ option_to_list o) one)
      ∙ length-append (declared_expiries events) (x ∷ []) in
      let as_many = h.strips in
      record {
        lawful = lawful_with_one_more events e h.lawful next;
        book = applies events h.book;
        strips = omega (arith, strips, declared, as_many);
      }

-- a replay whose book stands for the same, with as many strips, stands for the same
pub replay_stands_still : (old new : Replay) → StandsStill old.book new.book → length new.kept.items ≡ length old.kept.items → ReplayStandsStill old new
replay_stands_still old new still same events h = record { lawful = h.lawful; book = still events h.book; strips = same ∙ h.strips }

-- what holds whatever happens holds after a refusal
pub on_err : {A E P : Type 0} (r : Result A E) → P → OnErr r P
on_err (Ok a) p = tt
on_err (Err e) p = p
