-- What a list of events says first or last. An event says something or nothing of a matter at hand.
-- Events stand in the order of the feed's lines: the first is line 1.
use Rattle.std.specs.Prelude.{List, [], ◌∷◌, Option, None}
use Rattle.std.specs.Option.{option_or}

-- what the first event that says something says
abbrev pub first_said : {X A : Type 0} → (X → Option A) → List X → Option A
first_said says [] = None
first_said says (e ∷ events) = option_or (says e) (first_said says events)

-- what the last event that says something says
abbrev pub last_said : {X A : Type 0} → (X → Option A) → List X → Option A
last_said says [] = None
last_said says (e ∷ events) = option_or (last_said says events) (says e)
