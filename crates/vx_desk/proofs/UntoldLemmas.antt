-- Failures that a desk counts which tells no content.
use Rattle.std.proofs.Common.{◌≡◌, ℕ, List, Bool, None, Err, refl, ap}
use Rattle.vx_desk.specs.declared.device.Slot.{Slot}
use Rattle.vx_desk.specs.declared.device.Failed.{Failed}
use Rattle.vx_desk.specs.declared.failures.Failures.{Failures}
use Rattle.vx_desk.specs.Told.{Rose, Opens, Reads, Writes}
use Rattle.vx_desk.specs.Failures.{raised}
use Rattle.vx_desk.specs.Untold.{untold}

-- a failed open of a desk that tells no content raises its count
pub open_failed : (slot : Slot) (name : List ℕ) (is_open : Bool) (old new : Failures) (e : Failed) → new ≡ record old { opens = raised old.opens }
    → Rose old.opens new.opens → Opens {T = Unit {0}} slot name None (untold is_open old) (untold is_open new) (Err e)
open_failed slot name is_open old new e is rose = record {
  done = tt;
  failed = record { left = refl; sent = refl; is_open = refl; name = refl };
  opens = rose;
  reads = ap (λ (f : Failures). f.reads) is;
  writes = ap (λ (f : Failures). f.writes) is;
}

-- a failed read of such a desk raises its count
pub read_failed : (buf : List ℕ) (is_open : Bool) (old new : Failures) (e : Failed) → new ≡ record old { reads = raised old.reads }
    → Rose old.reads new.reads → Reads buf (untold is_open old) (untold is_open new) (Err e)
read_failed buf is_open old new e is rose = record {
  within = tt;
  moved = refl;
  at_end = λ same room. tt;
  reads = rose;
  rest = record {
    sent = refl;
    is_open = refl;
    name = refl;
    opens = ap (λ (f : Failures). f.opens) is;
    writes = ap (λ (f : Failures). f.writes) is;
  };
}

-- a failed write of such a desk raises its count
pub write_failed : (bytes : List ℕ) (is_open : Bool) (old new : Failures) (e : Failed) → new ≡ record old { writes = raised old.writes }
    → Rose old.writes new.writes → Writes bytes (untold is_open old) (untold is_open new) (Err e)
write_failed bytes is_open old new e is rose = record {
  within = tt;
  moved = refl;
  progress = tt;
  writes = rose;
  rest = record {
    left = refl;
    is_open = refl;
    name = refl;
    opens = ap (λ (f : Failures). f.opens) is;
    reads = ap (λ (f : Failures). f.reads) is;
  };
}
