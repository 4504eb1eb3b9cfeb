-- Lines of positions that are read ahead: where reading stops, and the next line, which is the first of those to come.
use Rattle.std.proofs.Common.{◌≡◌, ◌≢◌, ◌∙◌, sym, ap, subst, refl, ℕ, ◌+◌, Bool, true, false, List, [], ◌∷◌, ◌++◌, Option, Some, None, Err}
use Rattle.std.specs.Option.{option_map}
use Rattle.vx_lines.specs.TextLines.{line_then}
use Rattle.vx_desk.specs.declared.device.Slot.{Slot}
use Rattle.vx_desk.specs.declared.device.Slot.TheVariants.{Side}
use Rattle.vx_desk.specs.Calls.{read_call}
use Rattle.vx_desk.specs.Told.{Told}
use Rattle.vx_settle.specs.Form.{fault_unsplit, unsplit_fault}
use Rattle.vx_blocks.specs.declared.split_lines.SplitLines.{SplitLines}
use Rattle.vx_blocks.specs.declared.split_lines.Rest.{Rest}
use Rattle.vx_blocks.specs.declared.split_lines.Rest.TheVariants.{More, End, Unsplit, TooLong, NoEol}
use Rattle.vx_blocks.specs.declared.stop.ReadStop.{ReadStop}
use Rattle.vx_blocks.specs.declared.stop.ReadStop.TheVariants as stop
use Rattle.vx_blocks.specs.SplitLines.{AreAhead, IsFresh, IsSameText, IsSplit, is_in_hand, lines_coming}
use Rattle.vx_blocks.specs.Given.{HasGiven, IsCutAfter, KeepsGiven, LosesNothing, TakesNextLine, WereRead, still_to_come}
use Rattle.vx_blocks.specs.Stops.{OnFault, OnOkOrFault, stop_calls}
use Rattle.vx_blocks.proofs.ComingLemmas.{coming_kept}
use Rattle.vx_blocks.proofs.FaultLemmas.{cut_after}
use Rattle.vx_blocks.proofs.FreshLemmas.{fresh_ahead, fresh_given}
use Rattle.vx_blocks.proofs.GivenLemmas.{comes_start, given_kept, prepend_nothing, were_read}
use Rattle.vx_drivers.specs.declared.limits.TheConstants.{POSITION_LINE_LEN_MAX}
use Rattle.vx_drivers.specs.Exits.{exit_calls, is_cut}
use Rattle.vx_drivers.specs.PositionExits.{IsPositionExit}
use Rattle.vx_drivers.specs.PositionLines.{IsPositionLines, StopsReading, bad_behind, exit_of_read}
use Rattle.vx_drivers.proofs.ExitLemmas.{memory_not_side}

-- a line that can be split has no fault before its fields are looked at
pub none_unsplit : (line : List ℕ) (fields : List (List ℕ)) → IsSplit line fields → unsplit_fault line ≡ None
none_unsplit line fields split = ap (option_map fault_unsplit) split.can_be

-- ---- where reading stops

-- it cuts the run off
pub read_cuts : (why : ReadStop) → is_cut (exit_of_read why) ≡ true
read_cuts stop.Device = refl
read_cuts stop.NoMemory = refl

-- with an exit of such a run
pub read_exits : (why : ReadStop) → IsPositionExit (exit_of_read why)
read_exits stop.Device = tt
read_exits stop.NoMemory = tt

-- and the exit names the calls that failed
pub read_named : (slot : Slot) (why : ReadStop) → slot ≡ Side → exit_calls (exit_of_read why) ≡ stop_calls slot why
read_named slot stop.Device is = ap (λ (s : Slot). Some (record { slot = s; kind = read_call })) (sym is)
read_named slot stop.NoMemory is = refl

-- the lines that were given were read, and at a fault of the device no more behind them than a part of a line
pub stops_reading : (old new : SplitLines) (before after : Slot → Told) (why : ReadStop) → IsPositionLines old → IsSameText old new
    → LosesNothing old before new after → OnOkOrFault {T = Unit} (Err why) (AreAhead new)
    → OnFault {T = Unit} (Err why) (is_in_hand new ≡ false) → KeepsGiven {T = Unit} old before new after (Err why)
    → (lines : List (List ℕ)) (held : Option (List ℕ)) → HasGiven lines held old before → StopsReading lines held (after Side) (exit_of_read why)
stops_reading old new before after stop.Device is same comes ahead none keeps lines held given =
    let slot : new.lines.slot ≡ Side = same.slot ∙ is.slot in
    record {
      were_read = subst (λ (s : Slot). WereRead lines held (after s)) slot (were_read lines held old new before after given comes);
      cut = λ failed. subst (λ (s : Slot). IsCutAfter lines POSITION_LINE_LEN_MAX held (after s)) slot
          (subst (λ (n : ℕ). IsCutAfter lines n held (after new.lines.slot)) (same.limit ∙ is.limit)
          (cut_after lines held new after ahead none (keeps lines held given)));
    }
stops_reading old new before after stop.NoMemory is same comes ahead none keeps lines held given =
    let slot : new.lines.slot ≡ Side = same.slot ∙ is.slot in
    record {
      were_read = subst (λ (s : Slot). WereRead lines held (after s)) slot (were_read lines held old new before after given comes);
      cut = λ failed. memory_not_side failed;
    }

-- ---- what was given

-- the slot of the positions is as it was
pub side_kept : (p : SplitLines) (before after : Slot → Told) → p.lines.slot ≡ Side → after Side ≡ before Side
    → after p.lines.slot ≡ before p.lines.slot
side_kept p before after slot same = subst (λ (s : Slot). after s ≡ before s) (sym slot) same

-- lines that were given were read
pub given_read : (lines : List (List ℕ)) (held : Option (List ℕ)) (p : SplitLines) (now : Slot → Told) → p.lines.slot ≡ Side
    → HasGiven lines held p now → WereRead lines held (now Side)
given_read lines held p now slot given =
    subst (λ (s : Slot). WereRead lines held (now s)) slot (were_read lines held p p now now given (comes_start (still_to_come p now)))

-- no line was
pub none_were_read : (held : Option (List ℕ)) (now : Told) → held ≡ now.left → WereRead [] held now
none_were_read held now same = record { more = []; held_is = same ∙ sym (prepend_nothing now.left) }

-- ---- the next line

-- the positions behind it
pub next_lines : (p q : SplitLines) (fields : List (List ℕ)) → IsPositionLines p → q ≡ record p { taken = p.taken + 1 }
    → TakesNextLine fields p q → IsPositionLines q
next_lines p q fields is next takes = record {
  slot = ap (λ (r : SplitLines). r.lines.slot) next ∙ is.slot;
  limit = ap (λ (r : SplitLines). r.lines.limit) next ∙ is.limit;
  are_ahead = takes.ahead;
}

-- it is the first of the lines to come
pub next_first : (p q : SplitLines) (fields : List (List ℕ)) (before after : Slot → Told) (takes : TakesNextLine fields p q) → q.lines.slot ≡ Side
    → after Side ≡ before Side → lines_coming p before ≡ option_map (line_then takes.line) (lines_coming q after)
next_first p q fields before after takes slot same =
    takes.coming before ∙ ap (option_map (line_then takes.line)) (sym (coming_kept q before after (side_kept q before after slot same)))

-- and it is given
pub next_given : (lines : List (List ℕ)) (held : Option (List ℕ)) (p q : SplitLines) (fields : List (List ℕ)) (before after : Slot → Told)
    (takes : TakesNextLine fields p q) → q.lines.slot ≡ Side → after Side ≡ before Side → HasGiven lines held p before
    → HasGiven (lines ++ takes.line ∷ []) held q after
next_given lines held p q fields before after takes slot same given =
    given_kept (lines ++ takes.line ∷ []) held q before after (side_kept q before after slot same) (takes.given lines held before given)

-- nothing is bad behind the lines that were split only at the end
pub ends_behind : (rest : Rest) (is_full : Bool) → bad_behind rest is_full ≡ None → rest ≢ More → rest ≡ End
ends_behind More is_full none known = absurd (known refl)
ends_behind End is_full none known = refl
ends_behind (Unsplit why) true none known = absurd (let no : ⊥ = cc in no)
ends_behind (Unsplit why) false none known = absurd (let no : ⊥ = cc in no)
ends_behind TooLong is_full none known = absurd (let no : ⊥ = cc in no)
ends_behind NoEol is_full none known = absurd (let no : ⊥ = cc in no)

-- ---- the start

-- positions of which nothing was read
pub fresh_lines : (p : SplitLines) → IsFresh Side POSITION_LINE_LEN_MAX p → IsPositionLines p
fresh_lines p is = record {
  slot = ap (λ reader. reader.slot) is.lines;
  limit = ap (λ reader. reader.limit) is.lines;
  are_ahead = fresh_ahead Side POSITION_LINE_LEN_MAX p tt is;
}

-- no line of them was given
pub none_given : (held : Option (List ℕ)) (p : SplitLines) (now : Slot → Told) → IsFresh Side POSITION_LINE_LEN_MAX p → held ≡ (now Side).left
    → HasGiven [] held p now
none_given held p now is same =
    subst (λ (text : Option (List ℕ)). HasGiven [] text p now) (sym same) (fresh_given Side POSITION_LINE_LEN_MAX p now is)
