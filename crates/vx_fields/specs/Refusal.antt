-- What `csv` may answer where it reads plain lines from a slice.
use Rattle.csv.specs.declared.error.ErrorKind.{ErrorKind}
use Rattle.csv.specs.declared.error.ErrorKind.TheVariants as kind

-- no record is at fault: memory was refused, or a read failed, which of a slice none does
abbrev pub IsRefusal : ErrorKind → Type 0
IsRefusal kind.OutOfMemory = Unit {0}
IsRefusal (kind.Io error) = Unit {0}
IsRefusal (kind.UnequalLengths place expected found) = ⊥
IsRefusal (kind.Utf8 place error) = ⊥
IsRefusal (kind.Serialize why) = ⊥
IsRefusal (kind.Deserialize place error) = ⊥
