-- A desk that tells nothing of its content: what its four slots tell.
use Rattle.std.specs.Prelude.{ℕ, List, Bool, true, false, Option, None}
use Rattle.vx_desk.specs.declared.device.Slot.{Slot}
use Rattle.vx_desk.specs.declared.device.Slot.TheVariants.{Feed, Side, Out, Certs}
use Rattle.vx_desk.specs.declared.failures.Failures.{Failures}
use Rattle.vx_desk.specs.Told.{Told}
use Rattle.vx_desk.specs.Failures.{no_failures}

-- what is known of a desk that tells no content: its runtime, which slots are open, and what failed at each
pub record UntoldDesk (R : Type 0) : Type 0 where
  pub runtime : R
  pub feed_is_open : Bool
  pub side_is_open : Bool
  pub certs_is_open : Bool
  pub feed : Failures
  pub side : Failures
  pub out : Failures
  pub certs : Failures

-- a slot of which only the counts are told, and whether it is open
abbrev pub untold : Bool → Failures → Told
untold is_open failures = record {
  left = None;
  sent = None;
  is_open = is_open;
  name = None;
  failed_opens = failures.opens;
  failed_reads = failures.reads;
  failed_writes = failures.writes;
}

-- what it tells of each slot; the output is open
abbrev pub untold_slots : {R : Type 0} → UntoldDesk R → Slot → Told
untold_slots desk Feed = untold desk.feed_is_open desk.feed
untold_slots desk Side = untold desk.side_is_open desk.side
untold_slots desk Out = untold true desk.out
untold_slots desk Certs = untold desk.certs_is_open desk.certs

-- a desk over this runtime: the output alone is open, and nothing failed
abbrev pub fresh_untold : {R : Type 0} → R → UntoldDesk R
fresh_untold runtime = record {
  runtime = runtime;
  feed_is_open = false;
  side_is_open = false;
  certs_is_open = false;
  feed = no_failures;
  side = no_failures;
  out = no_failures;
  certs = no_failures;
}

-- no name's bytes are told
abbrev pub untold_holds : List ℕ → Option (List ℕ)
untold_holds name = None
