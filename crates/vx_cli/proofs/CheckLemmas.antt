-- A run of `check` over two files.
use Rattle.std.proofs.Common.{◌≡◌, ◌≢◌, ◌∙◌, sym, ap, subst, refl, inr, ℕ, Bool, true, List, [], Option, Some, None, IfSome}
use Rattle.std.specs.Prelude.{IsTrue}
use Rattle.std.specs.Option.{option_map}
use Rattle.vx_desk.specs.declared.device.Slot.{Slot}
use Rattle.vx_desk.specs.declared.device.Slot.TheVariants.{Feed, Side, Out, Certs}
use Rattle.vx_desk.specs.Told.{ChangesOnly, IsOpened, OnlyOutIsOpen, SameContent, Told}
use Rattle.vx_feed.specs.Feed.{reading_of}
use Rattle.vx_desk.specs.Calls.{KeepsSlots}
use Rattle.vx_drivers.specs.declared.exit.Exit.{Exit}
use Rattle.vx_drivers.specs.declared.exit.Exit.TheVariants.{Done, SaidNo, Usage, BadFeed, OpenFault, ReadFault, WriteFault, NoMemory, BadPositions, BadCerts}
use Rattle.vx_drivers.specs.CertificateExits.{IsCertificateExit}
use Rattle.vx_drivers.specs.CertificateRun.{certificates_of}
use Rattle.vx_drivers.specs.Exits.{IsWithoutNoMemory, is_cut}
use Rattle.vx_drivers.specs.Held.{Held, held_in}
use Rattle.vx_drivers.specs.Sending.{Sent, Text}
use Rattle.vx_drivers.proofs.ExitLemmas.{certs_not_feed, feed_not_side, out_not_feed, out_not_side, side_not_feed}
use Rattle.vx_drivers.proofs.RunLemmas.{both_none}
use Rattle.vx_drivers.proofs.SendingLemmas.{sent_none}
use Rattle.vx_cli.specs.CheckRuns.{check_rules}
use Rattle.vx_cli.proofs.ReplayLemmas.{nothing_sent}
use Rattle.vx_cli.proofs.SettleLemmas.{nothing_settled, settle_without}
use Rattle.vx_cli.specs.Runs.{ChecksLinesRead, ChecksFiles, ChecksOpen, HasChecked, IsCheckExit, IsExitOf, IsMakeExit, IsReplayExit, IsSettleExit, IsOpenAs, IsShut, OpensBoth, OpensNothing, OpensToCheck, SendsFor}
use Rattle.vx_cli.specs.Words.{Command, check, drill, make, replay, settle}

-- ---- exits

pub certificate_exit : (exit : Exit) → IsCertificateExit exit → IsCheckExit exit
certificate_exit Done h = h
certificate_exit (SaidNo count) h = h
certificate_exit Usage h = h
certificate_exit (BadFeed line cause) h = h
certificate_exit (OpenFault Feed) h = absurd h
certificate_exit (OpenFault Side) h = absurd h
certificate_exit (OpenFault Out) h = h
certificate_exit (OpenFault Certs) h = h
certificate_exit (ReadFault slot) h = h
certificate_exit (WriteFault slot) h = h
certificate_exit NoMemory h = h
certificate_exit (BadPositions line cause) h = h
certificate_exit (BadCerts line cause) h = h

pub open_exit : (exit : Exit) (slot : Slot) → exit ≡ OpenFault slot → IsCheckExit (OpenFault slot) → IsCheckExit exit
open_exit exit slot is h = subst IsCheckExit (sym is) h

check_without : (exit : Exit) → IsCheckExit exit → IsWithoutNoMemory exit
check_without Done h = tt
check_without (SaidNo count) h = tt
check_without Usage h = tt
check_without (BadFeed line cause) h = h
check_without (OpenFault slot) h = tt
check_without (ReadFault slot) h = tt
check_without (WriteFault slot) h = tt
check_without NoMemory h = tt
check_without (BadPositions line cause) h = absurd h
check_without (BadCerts line cause) h = tt

replay_without : (exit : Exit) → IsReplayExit exit → IsWithoutNoMemory exit
replay_without Done h = tt
replay_without (SaidNo count) h = tt
replay_without Usage h = tt
replay_without (BadFeed line cause) h = h
replay_without (OpenFault slot) h = tt
replay_without (ReadFault slot) h = tt
replay_without (WriteFault slot) h = tt
replay_without NoMemory h = tt
replay_without (BadPositions line cause) h = absurd h
replay_without (BadCerts line cause) h = tt

make_without : (exit : Exit) → IsMakeExit exit → IsWithoutNoMemory exit
make_without Done h = tt
make_without (SaidNo count) h = tt
make_without Usage h = tt
make_without (BadFeed line cause) h = absurd h
make_without (OpenFault slot) h = tt
make_without (ReadFault slot) h = tt
make_without (WriteFault slot) h = tt
make_without NoMemory h = tt
make_without (BadPositions line cause) h = absurd h
make_without (BadCerts line cause) h = tt

-- an exit of a command is not that of words that ask for none, and names no want of memory as a cause
pub exit_without : (exit : Exit) (command : Command) → IsExitOf exit command → IsWithoutNoMemory exit
exit_without exit (replay feed certs) h = replay_without exit h
exit_without exit (check feed certs) h = check_without exit h
exit_without exit (settle feed positions certs) h = settle_without exit h
exit_without exit (make number ticks) h = make_without exit h
exit_without exit (drill number ticks) h = make_without exit h

pub exit_not_usage : (exit : Exit) (command : Command) → IsExitOf exit command → exit ≢ Usage
exit_not_usage exit (replay feed certs) h = λ is. subst IsReplayExit is h
exit_not_usage exit (check feed certs) h = λ is. subst IsCheckExit is h
exit_not_usage exit (settle feed positions certs) h = λ is. subst IsSettleExit is h
exit_not_usage exit (make number ticks) h = λ is. subst IsMakeExit is h
exit_not_usage exit (drill number ticks) h = λ is. subst IsMakeExit is h

-- ---- slots

-- with both files open, of the exits of `check` each leaves open what it has to
opens_by : (feed certs : Text) (told : Slot → Told) (exit : Exit) → IsCertificateExit exit → OpensBoth feed certs told → OpensToCheck feed certs told exit
opens_by feed certs told Done h both = both
opens_by feed certs told (SaidNo count) h both = both
opens_by feed certs told Usage h both = both
opens_by feed certs told (BadFeed line cause) h both = both
opens_by feed certs told (OpenFault slot) h both = absurd h
opens_by feed certs told (ReadFault slot) h both = both
opens_by feed certs told (WriteFault slot) h both = both
opens_by feed certs told NoMemory h both = inr both
opens_by feed certs told (BadPositions line cause) h both = both
opens_by feed certs told (BadCerts line cause) h both = both

pub nothing_open : (told : Slot → Told) → OnlyOutIsOpen told → OpensNothing told
nothing_open told only = (only Feed (λ e. cc), only Side (λ e. cc), only Certs (λ e. cc))

opened_as : (slot : Slot) (name : Text) (held : Option (List ℕ)) (old new : Told) → IsOpened slot name held old new → IsOpenAs name new
opened_as slot name held old new opened = (opened.open_now, opened.name_given)

still_open : (name : Text) (old new : Told) → new.is_open ≡ old.is_open → new.name ≡ old.name → IsOpenAs name old → IsOpenAs name new
still_open name old new is_open same (there, named) = (subst IsTrue (sym is_open) there, subst (λ n. IfSome n (λ bytes. bytes ≡ name)) (sym same) named)

same_is_open : (name : Text) (old new : Told) → new ≡ old → IsOpenAs name old → IsOpenAs name new
same_is_open name old new same h = subst (IsOpenAs name) (sym same) h

same_is_shut : (old new : Told) → new ≡ old → IsShut old → IsShut new
same_is_shut old new same h = subst IsShut (sym same) h

-- ---- a failed open

module _ (feed certs : Text) (holds : List ℕ → Option (List ℕ)) (before : Slot → Told) (only : OnlyOutIsOpen before) where
  -- nothing was sent, before the certificates are open
  pub sends_nothing : (after : Slot → Told) (exit : Exit) → is_cut exit ≡ true → after Out ≡ before Out → IsShut (after Side) → ChecksFiles feed certs holds before after exit
  sends_nothing after exit cut same shut = record {
    text = [];
    sent = sent_none (before Out) (after Out) same;
    runs = both_none check_rules (option_map reading_of (holds feed)) (option_map certificates_of (holds certs)) exit cut;
    cut = λ is. subst (λ (b : Bool). ChecksLinesRead (record { feed = holds feed; side = holds certs }) after exit [] b) (sym shut) refl;
  }

  pub feed_not_opened : (one : Slot → Told) (exit : Exit) → exit ≡ OpenFault Feed → SameContent (before Feed) (one Feed) → ChangesOnly Feed before one
      → ChecksFiles feed certs holds before one exit × OpensToCheck feed certs one exit
  feed_not_opened one exit is same others = (
    sends_nothing one exit (ap is_cut is) (others Out out_not_feed)
        (same_is_shut (before Side) (one Side) (others Side side_not_feed) (nothing_open before only).1),
    subst (OpensToCheck feed certs one) (sym is) (
      same.is_open ∙ (nothing_open before only).0,
      same_is_shut (before Side) (one Side) (others Side side_not_feed) (nothing_open before only).1,
      same_is_shut (before Certs) (one Certs) (others Certs certs_not_feed) (nothing_open before only).2,
    ),
  )

  module _ (one : Slot → Told) (feed_opened : IsOpened Feed feed (holds feed) (before Feed) (one Feed)) (feed_only : ChangesOnly Feed before one) where
    pub certs_not_opened : (two : Slot → Told) (exit : Exit) → exit ≡ OpenFault Side → SameContent (one Side) (two Side) → ChangesOnly Side one two
        → ChecksFiles feed certs holds before two exit × OpensToCheck feed certs two exit
    certs_not_opened two exit is same others = (
      sends_nothing two exit (ap is_cut is) (others Out (out_not_side Side refl) ∙ feed_only Out out_not_feed)
          (same.is_open ∙ same_is_shut (before Side) (one Side) (feed_only Side side_not_feed) (nothing_open before only).1),
      subst (OpensToCheck feed certs two) (sym is) (
        same_is_open feed (one Feed) (two Feed) (others Feed (feed_not_side Side refl)) (opened_as Feed feed (holds feed) (before Feed) (one Feed) feed_opened),
        same.is_open ∙ same_is_shut (before Side) (one Side) (feed_only Side side_not_feed) (nothing_open before only).1,
        same_is_shut (before Certs) (two Certs) (others Certs (λ e. cc) ∙ feed_only Certs certs_not_feed) (nothing_open before only).2,
      ),
    )

    -- ---- both files are open

    module _ (other : List ℕ → Option (List ℕ)) (same_names : other ≡ holds) (two : Slot → Told)
        (certs_opened : IsOpened Side certs (other certs) (one Side) (two Side)) (certs_only : ChangesOnly Side one two) where
      -- what the two files held at first is what their names hold
      held_left : held_in two ≡ record { feed = holds feed; side = holds certs }
      held_left =
          let feed_is : (two Feed).left ≡ holds feed = ap (λ (t : Told). t.left) (certs_only Feed (feed_not_side Side refl)) ∙ (feed_opened.to_read tt).0 in
          let side_is : (two Side).left ≡ holds certs = (certs_opened.to_read tt).0 ∙ ap (λ h. h certs) same_names in
          λ i. record { feed = feed_is i; side = side_is i }

      out_left : two Out ≡ before Out
      out_left = certs_only Out (out_not_side Side refl) ∙ feed_only Out out_not_feed

      -- what the run over the open files sent, it sent over what the names hold
      pub files_checked : (after : Slot → Told) (exit : Exit) → ChecksOpen two after exit → KeepsSlots two after → ChecksFiles feed certs holds before after exit
      files_checked after exit ended keeps =
          let open_now : (after Side).is_open ≡ true = keeps.is_open Side ∙ certs_opened.open_now in
          subst (λ (h : Held). HasChecked h before after exit) held_left (record {
            text = ended.text;
            sent = subst (λ (t : Told). Sent ended.text t (after Out)) out_left ended.sent;
            runs = ended.runs;
            cut = λ is. subst (λ (b : Bool). ChecksLinesRead (held_in two) after exit ended.text b) (sym open_now) (ended.cut is);
          })

      pub files_open : (after : Slot → Told) (exit : Exit) → IsCertificateExit exit → KeepsSlots two after → OpensToCheck feed certs after exit
      files_open after exit is keeps =
          opens_by feed certs after exit is (
            still_open feed (two Feed) (after Feed) (keeps.is_open Feed) (keeps.name Feed)
                (same_is_open feed (one Feed) (two Feed) (certs_only Feed (feed_not_side Side refl)) (opened_as Feed feed (holds feed) (before Feed) (one Feed) feed_opened)),
            still_open certs (two Side) (after Side) (keeps.is_open Side) (keeps.name Side) (opened_as Side certs (other certs) (one Side) (two Side) certs_opened),
            keeps.is_open Certs ∙ same_is_shut (before Certs) (two Certs) (certs_only Certs (λ e. cc) ∙ feed_only Certs certs_not_feed) (nothing_open before only).2,
          )

-- ---- want of memory before anything is done

pub nothing_done : (command : Option Command) (holds : List ℕ → Option (List ℕ)) (told : Slot → Told) → OnlyOutIsOpen told → SendsFor command holds told told NoMemory
nothing_done None holds told only = refl
nothing_done (Some (replay feed certs)) holds told only =
    nothing_sent (holds feed) told told NoMemory refl refl (only Certs (λ e. cc)) refl
nothing_done (Some (check feed certs)) holds told only = sends_nothing feed certs holds told only told NoMemory refl refl (nothing_open told only).1
nothing_done (Some (settle feed positions certs)) holds told only =
    nothing_settled (record { feed = holds feed; side = holds positions }) told told NoMemory refl refl (only Certs (λ e. cc)) refl
nothing_done (Some (make number ticks)) holds told only = refl
nothing_done (Some (drill number ticks)) holds told only = refl
