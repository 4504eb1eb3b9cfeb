-- A run of `settle` that is cut off before it sends, and its exits.
use Rattle.std.proofs.Common.{◌≡◌, sym, subst, refl, inl, ℕ, true, false, Bool, List, [], Option, Some, None, IfSome}
use Rattle.std.specs.Prelude.{IsTrue, option_map}
use Rattle.vx_lines.specs.TextLines.{TextLines, at_end, ended}
use Rattle.vx_desk.specs.declared.device.Slot.{Slot}
use Rattle.vx_desk.specs.declared.device.Slot.TheVariants.{Feed, Side, Out, Certs}
use Rattle.vx_desk.specs.Told.{Told}
use Rattle.vx_feed.specs.Feed.{Reading, reading_of}
use Rattle.vx_reading.specs.FeedReading.{Says, all_good}
use Rattle.vx_settle.specs.declared.fault.PositionFault.TheVariants as fault
use Rattle.vx_drivers.specs.declared.exit.Exit.{Exit}
use Rattle.vx_drivers.specs.declared.exit.Exit.TheVariants.{Done, SaidNo, Usage, BadFeed, OpenFault, ReadFault, WriteFault, NoMemory, BadPositions, BadCerts}
use Rattle.vx_drivers.specs.declared.exit.PositionCause.{PositionCause}
use Rattle.vx_drivers.specs.declared.exit.PositionCause.TheVariants.{Fault, TooLong, NoEol, TooMany}
use Rattle.vx_drivers.specs.Exits.{IsWithoutNoMemory, is_cut}
use Rattle.vx_drivers.specs.Held.{Held}
use Rattle.vx_drivers.specs.PositionExits.{IsPositionCause}
use Rattle.vx_drivers.specs.PositionRun.{RunsPositionsIf, positions_of}
use Rattle.vx_drivers.specs.PositionSteps.{SettlesNothingOrRead}
use Rattle.vx_drivers.specs.Sending.{Sent, Text}
use Rattle.vx_drivers.proofs.SendingLemmas.{sent_none}
use Rattle.vx_cli.specs.Runs.{HasSettled, IsSettleExit, SentIfOpen, SettlesOpen, SettlesWhatWasRead}
use Rattle.vx_cli.specs.SettleRuns.{settle_rules}
use Rattle.vx_cli.proofs.ReplayLemmas.{sent_since_opening}

some_feed : (feed : Option Reading) → (over : Reading) × Says feed over
some_feed None = (all_good [], tt)
some_feed (Some f) = (f, refl)

some_lines : (positions : Option TextLines) → (lines : TextLines) × IfSome positions (λ told. told ≡ lines)
some_lines None = (ended at_end, tt)
some_lines (Some p) = (p, refl)

-- nothing was sent, and the run is cut off
pub nothing_settled : (held : Held) (before after : Slot → Told) (exit : Exit) → is_cut exit ≡ true → after Out ≡ before Out
    → (after Certs).is_open ≡ false → (after Certs).sent ≡ (before Certs).sent → HasSettled held before after exit
nothing_settled held before after exit cut out shut certs =
    let over = some_feed (option_map reading_of held.feed) in
    let lines = some_lines (option_map positions_of held.side) in
    record {
      over = over.0;
      feed_is = over.1;
      lines = lines.0;
      lines_are = lines.1;
      out = [];
      certs = [];
      runs = subst (λ (b : Bool). RunsPositionsIf settle_rules over.0 lines.0 exit [] [] b) (sym cut) (inl (refl, refl));
      out_sent = sent_none (before Out) (after Out) out;
      certs_sent = subst (λ (b : Bool). SentIfOpen b [] (before Certs) (after Certs)) (sym shut) (refl, certs);
      cut = λ is. subst (λ (b : Bool). SettlesWhatWasRead held after exit [] [] b) (sym shut) (refl, refl);
    }

position_without : (line : _) (cause : PositionCause) → IsPositionCause cause → IsWithoutNoMemory (BadPositions line cause)
position_without line (Fault fault.NoMemory) h = h
position_without line (Fault fault.Byte) h = tt
position_without line (Fault fault.Fields) h = tt
position_without line (Fault (fault.Field n)) h = tt
position_without line TooLong h = tt
position_without line NoEol h = tt
position_without line TooMany h = tt

-- no exit of `settle` names want of memory as a cause
pub settle_without : (exit : Exit) → IsSettleExit exit → IsWithoutNoMemory exit
settle_without Done h = tt
settle_without (SaidNo count) h = tt
settle_without Usage h = tt
settle_without (BadFeed line cause) h = h
settle_without (OpenFault slot) h = tt
settle_without (ReadFault slot) h = tt
settle_without (WriteFault slot) h = tt
settle_without NoMemory h = tt
settle_without (BadPositions line cause) h = position_without line cause h
settle_without (BadCerts line cause) h = tt

-- ---- all files are open

-- what is sent is what the lines give that were read
read_open : (held : Held) (after : Slot → Told) (exit : Exit) (out certs : Text) (is_open : Bool) → IsTrue is_open
    → SettlesNothingOrRead settle_rules held (option_map reading_of held.feed) (option_map positions_of held.side) after exit out certs
    → SettlesWhatWasRead held after exit out certs is_open
read_open held after exit out certs true there all = all
read_open held after exit out certs false there all = absurd (let no : ⊥ = cc in no)

-- what is sent over files that are open is sent over the bytes that their names hold
pub files_settled : (feed positions : Option (List ℕ)) (before opened after : Slot → Told) (exit : Exit) → (opened Feed).left ≡ feed
    → (opened Side).left ≡ positions → opened Out ≡ before Out → (opened Certs).sent ≡ option_map (λ bytes. []) (before Certs).sent
    → IsTrue (after Certs).is_open → SettlesOpen opened after exit
    → HasSettled (record { feed = feed; side = positions }) before after exit
files_settled feed positions before opened after exit feed_left side_left out_same nothing there ended = record {
  over = ended.over;
  feed_is = subst (λ (left : Option (List ℕ)). Says (option_map reading_of left) ended.over) feed_left ended.feed_is;
  lines = ended.lines;
  lines_are = subst (λ (left : Option (List ℕ)). IfSome (option_map positions_of left) (λ told. told ≡ ended.lines)) side_left ended.lines_are;
  out = ended.out;
  certs = ended.certs;
  runs = ended.runs;
  out_sent = subst (λ (t : Told). Sent ended.out t (after Out)) out_same ended.out_sent;
  certs_sent = sent_since_opening ended.certs (before Certs) (opened Certs) (after Certs) nothing there ended.certs_sent;
  cut = λ cut. read_open (record { feed = feed; side = positions }) after exit ended.out ended.certs (after Certs).is_open there
      (subst (λ (left : Option (List ℕ)). AllRead left positions) feed_left
      (subst (λ (left : Option (List ℕ)). AllRead (opened Feed).left left) side_left (ended.cut cut)));
}
  where
    AllRead : Option (List ℕ) → Option (List ℕ) → Type 0
    AllRead fed lines =
        SettlesNothingOrRead settle_rules (record { feed = fed; side = lines }) (option_map reading_of fed) (option_map positions_of lines) after exit ended.out ended.certs
