use Rattle.std.proofs.Common.{◌≡◌, ◌++◌, ◌∷◌, [], ℕ, List, subst, sym, ◌⊎◌, inl, inr}
use Rattle.vx_feed.specs.declared.events.Event.{Event}
use Rattle.vx_feed.specs.declared.events.Event.TheVariants as event
use Rattle.vx_book.specs.declared.book.Book.{Book}
use Rattle.vx_book.specs.StandsFor.{BookStandsFor, counted}
use Rattle.vx_book.proofs.NextBook.{stands_end, stands_tick}
use Rattle.vx_book.proofs.book.Book.take.Goals as goal

-- after a tick or an END line the book stands for one event more
stands_quiet : (book : Book) (e : Event) → ((time : ℕ) × (e ≡ event.Tick time)) ⊎ ((count : ℕ) × (e ≡ event.End count))
    → (events : List Event) → BookStandsFor book events → BookStandsFor (counted book) (events ++ e ∷ [])
stands_quiet book e (inl tick) events h = subst (λ (x : Event). BookStandsFor (counted book) (events ++ x ∷ [])) (sym tick.1) (stands_tick book tick.0 events h)
stands_quiet book e (inr end) events h = subst (λ (x : Event). BookStandsFor (counted book) (events ++ x ∷ [])) (sym end.1) (stands_end book end.0 events h)

pub returns-in-Tick-clause-taken : goal.returns-in-Tick-clause-taken
returns-in-Tick-clause-taken c = stands_quiet c.args.self.now c.args.e.now c.in-Tick.is

pub returns-in-Tick-2-clause-taken : goal.returns-in-Tick-2-clause-taken
returns-in-Tick-2-clause-taken c = stands_quiet c.args.self.now c.args.e.now c.in-Tick.is
