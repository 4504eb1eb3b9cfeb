-- What reading of the certificates does to the desk.
use Rattle.std.proofs.Common.{◌≡◌, ◌≢◌, ap, subst, None}
use Rattle.vx_desk.specs.Told.{ChangesOnly, ChangesReads, Told}
use Rattle.vx_desk.specs.declared.device.Slot.{Slot}
use Rattle.vx_desk.specs.declared.device.Slot.TheVariants.{Feed, Side, Out, Certs}
use Rattle.vx_desk.specs.Calls.{IsStep, Kind, failures_of, open_call, read_call, write_call}

not_feed : Feed ≢ Side
not_feed e = cc

not_out : Out ≢ Side
not_out e = cc

not_certs : Certs ≢ Side
not_certs e = cc

side_read : (before after : Slot → Told) → (after Side).failed_reads ≡ (before Side).failed_reads → ChangesReads (before Side) (after Side) → ChangesOnly Side before after → IsStep None before after
side_read before after reads rest others = record {
  failures = λ calls. failed calls.slot calls.kind;
  slots = record { is_open = is_open; name = name };
}
  where
    failed : (slot : Slot) (kind : Kind) → failures_of kind (after slot) ≡ failures_of kind (before slot)
    failed Feed kind = ap (failures_of kind) (others Feed not_feed)
    failed Side open_call = rest.opens
    failed Side read_call = reads
    failed Side write_call = rest.writes
    failed Out kind = ap (failures_of kind) (others Out not_out)
    failed Certs kind = ap (failures_of kind) (others Certs not_certs)

    is_open : (slot : Slot) → (after slot).is_open ≡ (before slot).is_open
    is_open Feed = ap (λ (t : Told). t.is_open) (others Feed not_feed)
    is_open Side = rest.is_open
    is_open Out = ap (λ (t : Told). t.is_open) (others Out not_out)
    is_open Certs = ap (λ (t : Told). t.is_open) (others Certs not_certs)

    name : (slot : Slot) → (after slot).name ≡ (before slot).name
    name Feed = ap (λ (t : Told). t.name) (others Feed not_feed)
    name Side = rest.name
    name Out = ap (λ (t : Told). t.name) (others Out not_out)
    name Certs = ap (λ (t : Told). t.name) (others Certs not_certs)

-- a line was read from the slot of the certificates, and no call failed
pub side_line_read : (slot : Slot) (before after : Slot → Told) → slot ≡ Side → (after slot).failed_reads ≡ (before slot).failed_reads → ChangesReads (before slot) (after slot) → ChangesOnly slot before after → IsStep None before after
side_line_read slot before after is reads rest others =
    side_read before after
    (subst (λ s. (after s).failed_reads ≡ (before s).failed_reads) is reads) (subst (λ s. ChangesReads (before s) (after s)) is rest) (subst (λ s. ChangesOnly s before after) is others)
