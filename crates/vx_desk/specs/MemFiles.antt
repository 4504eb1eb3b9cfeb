-- The files of a desk in memory as it stores them.
use Rattle.std.specs.Prelude.{◌≡◌, ◌<◌, length, false, slice_index_or, ℕ, List, [], map, drop, slice_get, position, Option, None, Some, string_bytes}
use Rattle.std.specs.Str.{bytes_eq}
use Rattle.vx_desk.specs.declared.memory.MemFile.{MemFile}
use Rattle.vx_desk.specs.declared.memory.Source.{Source}
use Rattle.vx_desk.specs.declared.memory.Sink.{Sink}
use Rattle.vx_desk.specs.Failures.{no_failures}
use Rattle.vx_desk.specs.Memory.{SlotRead, SlotWritten, held}

-- each file's name and bytes
abbrev pub file_of : MemFile → List ℕ × List ℕ
file_of file = (string_bytes file.name, file.bytes.items)

-- the files, each with its name and bytes
abbrev pub files_of : List MemFile → List (List ℕ × List ℕ)
files_of files = map file_of files

-- the bytes of a file, none where there is no file
abbrev pub bytes_of_file : Option MemFile → List ℕ
bytes_of_file None = []
bytes_of_file (Some file) = file.bytes.items

-- the name of a file, where there is one
abbrev pub name_of_file : Option MemFile → Option (List ℕ)
name_of_file None = None
name_of_file (Some file) = Some (string_bytes file.name)

-- the file at a place, where there is one
abbrev pub file_at : List MemFile → Option ℕ → Option MemFile
file_at files None = None
file_at files (Some place) = slice_get files place

-- the place of the first file with a name
abbrev pub place_of : List MemFile → List ℕ → Option ℕ
place_of files name = position (λ file. bytes_eq (string_bytes file.name) name) files

-- the file at a place has this name, and is the first that has it
pub record IsFileAt (files : List MemFile) (name : List ℕ) (place : ℕ) : Type 0 where
  pub bytes : held (files_of files) name ≡ Some (bytes_of_file (slice_get files place))
  pub name_is : name_of_file (slice_get files place) ≡ Some name
  pub within : place < length files
  pub first : (k : ℕ) (file : MemFile) → k < place → bytes_eq (string_bytes (slice_index_or files k file).name) name ≡ false

-- what contracts see of a slot that is read
abbrev pub seen_source : List MemFile → Source → SlotRead
seen_source files source = record {
  opened = name_of_file (file_at files source.file);
  left = drop source.read (bytes_of_file (file_at files source.file));
  failures = source.failures;
}

-- what contracts see of a slot that is written
abbrev pub seen_sink : List MemFile → Sink → SlotWritten
seen_sink files sink = record {
  opened = name_of_file (file_at files sink.file);
  sent = sink.bytes.items;
  failures = sink.failures;
}

-- a slot that is written was not opened, has sent nothing, and no call of it failed
abbrev pub IsNewSink : Sink → Type 0
IsNewSink sink = (sink.file ≡ None) × (sink.bytes.items ≡ []) × (sink.failures ≡ no_failures)

-- the place, if there is one, is that of a file
abbrev pub IsPlace : List MemFile → Option ℕ → Type 0
IsPlace files None = Unit {0}
IsPlace files (Some place) = place < length files
