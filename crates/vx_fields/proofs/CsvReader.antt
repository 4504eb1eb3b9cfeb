-- A `csv` reader that has plain lines left, and what a read of it does.
use Rattle.std.proofs.Common.{◌≡◌, ◌∙◌, sym, ap, refl, ℕ, ◌+◌, ◌<◌, Bool, true, false, List, [], ◌∷◌, ◌++◌, length, take, drop, map, get_or, set, zero, suc, add-one, drop-cons, Option, Some, None, Bor, arith, inl}
use Rattle.std.specs.List.{list_all}
use Rattle.std.proofs.Math.Seq.{take-suc, take-suc-set}
use Rattle.std.proofs.lemmas.List.{map-append}
use Rattle.csv.specs.Records.{Row, fields_of}
use Rattle.csv.specs.declared.parser.State.{State}
use Rattle.csv.specs.Reading.{default_config, source_of, pending_of, Ready, ReadRecord, ReadsNext, reader_config, reader_trim, is_flexible, ExplainsRead, reader_state, has_failed, took_first}
use Rattle.csv.specs.declared.error.ErrorKind.{ErrorKind}
use Rattle.csv.specs.declared.error.ErrorKind.TheVariants as kind
use Rattle.csv.specs.declared.reader.Reader.{Reader}
use Rattle.csv.specs.declared.reader.Trim.TheVariants as trim
use Rattle.csv.specs.declared.parser.State.TheVariants as st
use Rattle.vx_fields.specs.Lines.{line_feed, is_plain_line, fields_of_line, text_of}
use Rattle.vx_fields.specs.Refusal.{IsRefusal}
use Rattle.vx_fields.proofs.CsvLines.{next_line, both_left, both_right}

-- what is left of a slice that is read
abbrev pub left_of : Bor (List ℕ) → Option (List ℕ)
left_of source = Some source.now

-- a reader of the crate's defaults that stands at the start of a line, with this text left
pub record HasLeft (reader : Reader (Bor (List ℕ))) (text : List ℕ) : Type 0 where
  pub config : reader_config reader ≡ default_config
  pub trims : reader_trim reader ≡ trim.None
  pub flexible : is_flexible reader ≡ true
  pub state : reader_state reader ≡ st.StartRecord
  pub ready : Ready reader
  pub working : has_failed reader ≡ false
  pub source : source_of left_of reader ≡ Some text

-- what a read of the machine's next record says of a plain line
reads_plain : (pending : Option (List ℕ)) (line rest : List ℕ) (found : Bool) (fields : List (List ℕ)) (s : State) → is_plain_line line ≡ true
    → ReadsNext default_config st.StartRecord (Some (line ++ line_feed ∷ rest)) pending found fields s
    → (found ≡ true) × (fields ≡ fields_of_line line) × (s ≡ st.StartRecord) × (pending ≡ Some rest)
reads_plain None line rest found fields s plain h = absurd h
reads_plain (Some ys) line rest found fields s plain h =
    let n = rw (next_line line rest plain) at h in
    (n.0, n.1, n.2, ap Some n.3)

-- past its first read a reader's source is what it has pending
source-checked : (new : Reader (Bor (List ℕ))) → new.bom_checked ≡ true → source_of left_of new ≡ pending_of (left_of new.rdr) new
source-checked new checked = rw checked refl

-- a read of a line gives its fields and leaves the lines after it
pub read_line : (old new : Reader (Bor (List ℕ))) (line rest : List ℕ) (found : Bool) (fields : List (List ℕ))
    → HasLeft old (line ++ line_feed ∷ rest) → is_plain_line line ≡ true
    → ReadRecord left_of old new found fields → took_first new ≡ true → has_failed new ≡ has_failed old → is_flexible new ≡ is_flexible old
    → (found ≡ true) × (fields ≡ fields_of_line line) × HasLeft new rest
read_line old new line rest found fields left plain read first working flexible =
    let was = rw (left.config, left.state, left.source) at read.0 in
    let got = reads_plain _ line rest found fields _ plain was in (
      got.0,
      got.1,
      record {
        config = read.2 ∙ left.config;
        trims = read.3 ∙ left.trims;
        flexible = flexible ∙ left.flexible;
        state = got.2;
        ready = inl first;
        working = working ∙ left.working;
        source = source-checked new read.1 ∙ got.3;
      },
    )

-- the lines from a place on begin with the line there
pub text_at : (lines : List (List ℕ)) (i : ℕ) → i < length lines
    → text_of (drop i lines) ≡ get_or lines i [] ++ line_feed ∷ text_of (drop (i + 1) lines)
text_at lines i below = rw add-one (ap text_of (drop-cons lines i [] below))

-- each of plain lines is plain
pub plain_at : (lines : List (List ℕ)) (i : ℕ) → list_all is_plain_line lines ≡ true → i < length lines → is_plain_line (get_or lines i []) ≡ true
plain_at [] i plain below = absurd (omega arith)
plain_at (line ∷ lines) zero plain below = both_left _ _ plain
plain_at (line ∷ lines) (suc i) plain below = plain_at lines i (both_right _ _ plain) (omega arith)

-- one row more
pub next_row : (lines : List (List ℕ)) (rows : List Row) (row : Row) (i : ℕ) → i < length lines → i < length rows
    → map fields_of (take i rows) ≡ map fields_of_line (take i lines) → fields_of row ≡ fields_of_line (get_or lines i [])
    → map fields_of (take (i + 1) (set rows i row)) ≡ map fields_of_line (take (i + 1) lines)
next_row lines rows row i in_lines in_rows so_far here =
    rw (add-one, take-suc-set rows i row in_rows, take-suc lines i [] in_lines, map-append, map-append, so_far, here) refl

-- a reader that takes records of any length is refused by no record
pub refused : (old new : Reader (Bor (List ℕ))) (why : ErrorKind) → is_flexible old ≡ true → ExplainsRead left_of old new false why → IsRefusal why
refused old new kind.OutOfMemory flexible explains = tt
refused old new (kind.Io error) flexible explains = tt
refused old new (kind.UnequalLengths place expected found) flexible explains = let clash : true ≡ false = sym flexible ∙ explains.0 in absurd cc
refused old new (kind.Utf8 place error) flexible explains = let clash : false ≡ true = explains.0 in absurd cc
refused old new (kind.Serialize why) flexible explains = absurd explains
refused old new (kind.Deserialize place error) flexible explains = absurd explains
