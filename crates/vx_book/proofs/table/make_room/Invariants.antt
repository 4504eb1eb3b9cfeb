use Rattle.std.proofs.Common.{◌≡◌, ◌++◌, map, take, drop}
use Rattle.vx_book.specs.Tables.{moved_up}
use Rattle.vx_book.proofs.table.make_room.Given as goal

-- those before are moved, the rest are not
abbrev pub invariant-loop-place : goal.invariant-loop-place
invariant-loop-place l =
    l.places ≡ map (moved_up l.from) (take l.place-index l.initial.places) ++ drop l.place-index l.initial.places
